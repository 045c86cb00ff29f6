-- Marks of the blocks to which one comes from some, and of those to which a register comes unset.
use Rattle.std.proofs.Common.{◌≡◌, refl, sym, ◌∙◌, ap, subst, ℕ, zero, suc, ◌+◌, ◌-◌, ◌<◌, ◌≤◌, arith, Bool, true, false, cond, List, [], ◌∷◌, ◌++◌, length, length-append, Option, Some, None, ◌⊎◌, inl, inr, ⊎_elim, get_or, take}
use Rattle.std.specs.Prelude.{slice_get, slice_set, replicate, nat_eq, ◌&&◌, ◌||◌, ◌↔◌}
use Rattle.std.specs.List.{flat_map, list_any}
use Rattle.std.specs.Option.{option_to_list, option_map_or}
use Rattle.std.proofs.lemmas.Bool.{or_parts}
use Rattle.std.proofs.lemmas.Option.{slice_get_read}
use Rattle.ir_core.specs.declared.code.Op.{Op}
use Rattle.ir_core.specs.Items.{in_block}
use Rattle.ir_core.specs.Missing.{edges_of, is_some_edge}
use Rattle.ir_core.specs.declared.code.Last.{Last}
use Rattle.ir_core.specs.declared.code.Last.TheVariants.{Goto, If, IfError, Return, Unreachable}
use Rattle.ir_core.specs.declared.code.Block.{Block}
use Rattle.ir_core.specs.Rows.{Declared, edge_of_op}
use Rattle.liveness.specs.Paths.{is_among, targets}
use Rattle.liveness.specs.Flood.{Comes, at_first, onward}
use Rattle.unset_tests.specs.declared.marks.Followed.{Followed}
use Rattle.unset_tests.specs.declared.marks.Followed.TheVariants.{Register, Paths}
use Rattle.unset_tests.specs.Unset.{is_passed, of_test, goes_unset, UnsetAt, entry}
use Rattle.unset_tests.specs.Walk.{left_unset, passed_unset, end_unset, caught_unset, leave_unset, onward as onward_of, AreUnset}
use Rattle.unset_tests.specs.Ways.{caught_by, ways, leads_to, led_from, AreSpread}
use Rattle.unset_tests.proofs.Walking.{among_front, among_back, among_parts, among_one, one_among, there_within, onward_sound, AreClosed, complete}

-- ---- marks
pub no_mark : (n t : ℕ) → get_or (replicate n false) t false ≡ false
no_mark zero t = refl
no_mark (suc n) zero = refl
no_mark (suc n) (suc t) = no_mark n t

pub set_size : (xs : List Bool) (t : ℕ) (x : Bool) → length (slice_set xs t x) ≡ length xs
set_size [] t x = refl
set_size (y ∷ xs) zero x = refl
set_size (y ∷ xs) (suc t) x = ap suc (set_size xs t x)

pub set_there : (xs : List Bool) (t : ℕ) (x : Bool) → t < length xs → get_or (slice_set xs t x) t false ≡ x
set_there [] t x lt = absurd (omega (arith, lt))
set_there (y ∷ xs) zero x lt = refl
set_there (y ∷ xs) (suc t) x lt = set_there xs t x (omega (arith, lt))

pub set_other : (xs : List Bool) (t c : ℕ) (x : Bool) → (c ≡ t → ⊥) → get_or (slice_set xs t x) c false ≡ get_or xs c false
set_other [] t c x ne = refl
set_other (y ∷ xs) zero zero x ne = absurd (ne refl)
set_other (y ∷ xs) zero (suc c) x ne = refl
set_other (y ∷ xs) (suc t) zero x ne = refl
set_other (y ∷ xs) (suc t) (suc c) x ne = set_other xs t c x (λ e. ne (ap suc e))

pub same_or : (c t : ℕ) → (c ≡ t) ⊎ (c ≡ t → ⊥)
same_or zero zero = inl refl
same_or zero (suc t) = inr (λ e. omega (arith, e))
same_or (suc c) zero = inr (λ e. omega (arith, e))
same_or (suc c) (suc t) = on (same_or c t)
  where
    on : (c ≡ t) ⊎ (c ≡ t → ⊥) → (suc c ≡ suc t) ⊎ (suc c ≡ suc t → ⊥)
    on (inl e) = inl (ap suc e)
    on (inr ne) = inr (λ e. ne (omega (arith, e)))

pub below_or : (a c : ℕ) → (a < c) ⊎ (c ≤ a)
below_or a zero = inr (omega arith)
below_or zero (suc c) = inl (omega arith)
below_or (suc a) (suc c) = on (below_or a c)
  where
    on : (a < c) ⊎ (c ≤ a) → (suc a < suc c) ⊎ (suc c ≤ suc a)
    on (inl x) = inl (omega (arith, x))
    on (inr x) = inr (omega (arith, x))

-- how much is left: of each block without a mark room for itself and the three at most that it goes to
abbrev pub room : Bool → ℕ
room true = 0
room false = 4

abbrev pub weight : List Bool → ℕ
weight [] = 0
weight (x ∷ xs) = room x + weight xs

pub weight_set : (xs : List Bool) (t : ℕ) → t < length xs → get_or xs t false ≡ false → weight (slice_set xs t true) + 4 ≡ weight xs
weight_set [] t lt e = absurd (omega (arith, lt))
weight_set (x ∷ xs) zero lt e = let was = ap room e in omega (arith, was)
weight_set (x ∷ xs) (suc t) lt e = let h = weight_set xs t (omega (arith, lt)) e in omega (arith, h)

goes_few : (r : ℕ) (l : Last) → length (goes_unset r l) ≤ 2
goes_few r (Goto t) = omega arith
goes_few r (If s a b) = omega arith
goes_few r (IfError s e n line) = by (nat_eq s.0 r)
  where
    by : (b : Bool) → length (of_test b e n) ≤ 2
    by true = omega arith
    by false = omega arith
goes_few r (Return s) = omega arith
goes_few r Unreachable = omega arith

pub onward_few : (regs : Declared) (r : ℕ) (b : Block) (before : Bool) → length (onward_of regs r b before) ≤ 3
onward_few regs r b before =
    let one = first (caught_unset regs r b.last b.ops before) b.handler in
    let two = second (end_unset regs r b.last b.ops before) in
    let both = length-append (cond (caught_unset regs r b.last b.ops before) (option_to_list b.handler) []) (cond (end_unset regs r b.last b.ops before) (goes_unset r b.last) []) in
    omega (arith, one, two, both)
  where
    first : (c : Bool) (h : Option ℕ) → length (cond c (option_to_list h) []) ≤ 1
    first false h = omega arith
    first true None = omega arith
    first true (Some h) = omega arith

    second : (c : Bool) → length (cond c (goes_unset r b.last) []) ≤ 2
    second false = omega arith
    second true = goes_few r b.last

targets_few : (l : Last) → length (targets l) ≤ 2
targets_few (Goto t) = omega arith
targets_few (If r a b) = omega arith
targets_few (IfError r e n line) = omega arith
targets_few (Return r) = omega arith
targets_few Unreachable = omega arith

module _ (regs : Declared) (blocks : List Block) where
  ways_few : (b : Block) → length (ways regs blocks b) ≤ 3
  ways_few b =
      let one = by b.handler in
      let two = targets_few b.last in
      let both = length-append (caught_by regs blocks b b.handler) (targets b.last) in
      omega (arith, one, two, both)
    where
      of : (c : Bool) (h : ℕ) → length (cond c (h ∷ []) []) ≤ 1
      of true h = omega arith
      of false h = omega arith

      by : (h : Option ℕ) → length (caught_by regs blocks b h) ≤ 1
      by None = omega arith
      by (Some h) = of (list_any is_some_edge (edges_of regs blocks b)) h

  pub leads_few : (followed : Followed) (b : Block) → length (leads_to regs blocks followed b) ≤ 3
  leads_few (Register r) b = onward_few regs r b true
  leads_few Paths b = ways_few b

  module _ (followed : Followed) where
    pub led_is : (t : ℕ) (k : Block) → slice_get blocks t ≡ Some k → led_from regs blocks followed t ≡ leads_to regs blocks followed k
    led_is t k at = ap (λ o. option_map_or (leads_to regs blocks followed) o []) at

    pub led_within : (b t : ℕ) → is_among (led_from regs blocks followed b) t ≡ true → b < length blocks
    led_within b t e = by (slice_get blocks b) refl e
      where
        by : (o : Option Block) → slice_get blocks b ≡ o → is_among (option_map_or (leads_to regs blocks followed) o []) t ≡ true → b < length blocks
        by None at among = absurd (cc)
        by (Some k) at among = there_within blocks b k at

-- ---- the walk
module _ (count : ℕ) (next : ℕ → List ℕ) (tried : List ℕ) where
  abbrev pub Comes_to : ℕ → Type 0
  Comes_to = Comes next (λ c. true) tried

  pub record Marking (marks : List Bool) (work : List ℕ) : Type 0 where
    pub size : length marks ≡ count
    pub sound : (t : ℕ) → get_or marks t false ≡ true → Comes_to t
    pub waits : (t : ℕ) → is_among work t ≡ true → Comes_to t
    pub begins : (t : ℕ) → is_among tried t ≡ true → (get_or marks t false ≡ true) ⊎ ((is_among work t ≡ true) ⊎ (count ≤ t))
    pub closed : (b t : ℕ) → get_or marks b false ≡ true → is_among (next b) t ≡ true → (get_or marks t false ≡ true) ⊎ ((is_among work t ≡ true) ⊎ (count ≤ t))

  pub marking_start : Marking (replicate count false) tried
  marking_start = record {
    size = replicate_size count;
    sound = λ t e. let f : false ≡ true = sym (no_mark count t) ∙ e in absurd (cc);
    waits = λ t e. at_first t e refl;
    begins = λ t e. inr (inl e);
    closed = λ b t marked e. let f : false ≡ true = sym (no_mark count b) ∙ marked in absurd (cc);
  }
    where
      replicate_size : (n : ℕ) → length (replicate n false) ≡ n
      replicate_size zero = refl
      replicate_size (suc n) = ap suc (replicate_size n)

  module _ (marks : List Bool) (work : List ℕ) (t : ℕ) (m : Marking marks (work ++ t ∷ [])) where
    -- a block that is marked already, or is not there
    pub marking_past : (t < length marks → get_or marks t false ≡ true) → Marking marks work
    marking_past known = record {
      size = m.size;
      sound = m.sound;
      waits = λ x e. m.waits x (among_front work (t ∷ []) x e);
      begins = λ x e. still x (m.begins x e);
      closed = λ b x marked e. still x (m.closed b x marked e);
    }
      where
        last : (x : ℕ) → t ≡ x → (x < count) ⊎ (count ≤ x) → (get_or marks x false ≡ true) ⊎ ((is_among work x ≡ true) ⊎ (count ≤ x))
        last x same (inl lt) = inl (subst (λ z. get_or marks z false ≡ true) same (known (omega (arith, same, lt, m.size))))
        last x same (inr le) = inr (inr le)

        still : (x : ℕ) → (get_or marks x false ≡ true) ⊎ ((is_among (work ++ t ∷ []) x ≡ true) ⊎ (count ≤ x)) → (get_or marks x false ≡ true) ⊎ ((is_among work x ≡ true) ⊎ (count ≤ x))
        still x (inl h) = inl h
        still x (inr (inl h)) =
            ⊎_elim (λ a. inr (inl a)) (λ a. last x (among_one t x a) (below_or x count)) (among_parts work (t ∷ []) x h)
        still x (inr (inr h)) = inr (inr h)

    -- one that is marked now
    pub marking_more : t < length marks → Marking (slice_set marks t true) (work ++ next t)
    marking_more lt = record {
      size = set_size marks t true ∙ m.size;
      sound = λ x e. sound x (same_or x t) e;
      waits = λ x e. ⊎_elim (λ h. m.waits x (among_front work (t ∷ []) x h)) (λ h. onward t x here h refl) (among_parts work (next t) x e);
      begins = λ x e. still x (m.begins x e);
      closed = λ b x marked e. closed b x (same_or b t) marked e;
    }
      where
        here : Comes_to t
        here = m.waits t (among_back work (t ∷ []) t (one_among t))

        sound : (x : ℕ) → (x ≡ t) ⊎ (x ≡ t → ⊥) → get_or (slice_set marks t true) x false ≡ true → Comes_to x
        sound x (inl same) e = subst Comes_to (sym same) here
        sound x (inr ne) e = m.sound x (sym (set_other marks t x true ne) ∙ e)

        marked_now : (x : ℕ) → get_or marks x false ≡ true → (x ≡ t) ⊎ (x ≡ t → ⊥) → get_or (slice_set marks t true) x false ≡ true
        marked_now x e (inl same) = ap (λ z. get_or (slice_set marks t true) z false) same ∙ set_there marks t true lt
        marked_now x e (inr ne) = set_other marks t x true ne ∙ e

        still : (x : ℕ) → (get_or marks x false ≡ true) ⊎ ((is_among (work ++ t ∷ []) x ≡ true) ⊎ (count ≤ x)) → (get_or (slice_set marks t true) x false ≡ true) ⊎ ((is_among (work ++ next t) x ≡ true) ⊎ (count ≤ x))
        still x (inl h) = inl (marked_now x h (same_or x t))
        still x (inr (inl h)) =
            ⊎_elim (λ a. inr (inl (among_front work (next t) x a))) (λ a. inl (ap (λ z. get_or (slice_set marks t true) z false) (sym (among_one t x a)) ∙ set_there marks t true lt)) (among_parts work (t ∷ []) x h)
        still x (inr (inr h)) = inr (inr h)

        closed : (b x : ℕ) → (b ≡ t) ⊎ (b ≡ t → ⊥) → get_or (slice_set marks t true) b false ≡ true → is_among (next b) x ≡ true → (get_or (slice_set marks t true) x false ≡ true) ⊎ ((is_among (work ++ next t) x ≡ true) ⊎ (count ≤ x))
        closed b x (inl same) marked e = inr (inl (among_back work (next t) x (ap (λ z. is_among (next z) x) (sym same) ∙ e)))
        closed b x (inr ne) marked e = still x (m.closed b x (sym (set_other marks t b true ne) ∙ marked) e)

  module _ (within : (b t : ℕ) → is_among (next b) t ≡ true → b < count) (marks : List Bool) (m : Marking marks []) where
    there : (t : ℕ) → t < count → (get_or marks t false ≡ true) ⊎ ((is_among [] t ≡ true) ⊎ (count ≤ t)) → get_or marks t false ≡ true
    there t lt (inl h) = h
    there t lt (inr (inl h)) = absurd (cc)
    there t lt (inr (inr h)) = absurd (omega (arith, lt, h))

    complete_to : (t : ℕ) → Comes_to t → t < count → get_or marks t false ≡ true
    complete_to t (at_first t2 e enters) lt = there t lt (m.begins t e)
    complete_to t (onward b t2 c e enters) lt = there t lt (m.closed b t (complete_to b c (within b t e)) e)

    pub marking_done : (t : ℕ) → t < count → (get_or marks t false ≡ true) ↔ Comes_to t
    marking_done t lt = (m.sound t, λ c. complete_to t c lt)

-- ---- a register that is unset
module _ (regs : Declared) (blocks : List Block) (r : ℕ) where
  -- what is onward from a block where the register is set at its start
  abbrev seeds : List Block → List ℕ
  seeds bs = flat_map (λ b. onward_of regs r b false) bs

  seed_there : (bs : List Block) (b t : ℕ) (k : Block) → slice_get bs b ≡ Some k → is_among (onward_of regs r k false) t ≡ true → is_among (seeds bs) t ≡ true
  seed_there [] b t k at e = absurd (cc)
  seed_there (x ∷ bs) zero t k at e =
      let same : x ≡ k = cc in
      among_front (onward_of regs r x false) (seeds bs) t (ap (λ z. is_among (onward_of regs r z false) t) same ∙ e)
  seed_there (x ∷ bs) (suc b) t k at e = among_back (onward_of regs r x false) (seeds bs) t (seed_there bs b t k at e)

  seed_from : (bs : List Block) (t : ℕ) → is_among (seeds bs) t ≡ true → (b : ℕ) × (k : Block) × (slice_get bs b ≡ Some k) × (is_among (onward_of regs r k false) t ≡ true)
  seed_from [] t e = absurd (cc)
  seed_from (x ∷ bs) t e =
      ⊎_elim (λ h. (0, x, refl, h)) (λ h. let s = seed_from bs t h in (suc s.0, s.1, s.2, s.3)) (among_parts (onward_of regs r x false) (seeds bs) t e)

  abbrev next : ℕ → List ℕ
  next = led_from regs blocks (Register r)

  abbrev tried : List ℕ
  tried = 0 ∷ seeds blocks

  first_unset : (t : ℕ) → is_among tried t ≡ true → UnsetAt regs blocks r t 0
  first_unset t e =
      ⊎_elim (λ h. subst (λ z. UnsetAt regs blocks r z 0) (among_one 0 t h) entry)
      (λ h. let s = seed_from blocks t h in onward_sound regs r blocks s.0 s.1 s.2 false (λ e. absurd (cc)) t s.3)
      (among_parts (0 ∷ []) (seeds blocks) t e)

  comes_unset : (t : ℕ) → Comes next (λ c. true) tried t → UnsetAt regs blocks r t 0
  comes_unset t (at_first t2 e enters) = first_unset t e
  comes_unset t (onward b t2 c e enters) = by (comes_unset b c) (slice_get blocks b) refl e
    where
      by : UnsetAt regs blocks r b 0 → (o : Option Block) → slice_get blocks b ≡ o → is_among (option_map_or (leads_to regs blocks (Register r)) o []) t ≡ true → UnsetAt regs blocks r t 0
      by unset None at among = absurd (cc)
      by unset (Some k) at among = onward_sound regs r blocks b k at true (λ z. unset) t among

  pub spread_unset : r < length regs → (marks : List Bool) → AreSpread regs blocks (Register r) tried marks → AreUnset regs blocks r marks
  spread_unset declared marks are t lt =
      (λ e. comes_unset t ((are t lt).0 e), λ unset. let k = block_at blocks t lt in complete regs r blocks declared marks closed t 0 unset k.0 k.1)
    where
      block_at : (bs : List Block) (n : ℕ) → n < length bs → (k : Block) × (slice_get bs n ≡ Some k)
      block_at [] n l = absurd (omega (arith, l))
      block_at (b ∷ bs) zero l = (b, refl)
      block_at (b ∷ bs) (suc n) l = block_at bs n (omega (arith, l))

      on : (b x : ℕ) (k : Block) → slice_get blocks b ≡ Some k → (c : Bool) → get_or marks b false ≡ c → is_among (onward_of regs r k c) x ≡ true → Comes next (λ c. true) tried x
      on b x k at false is e = at_first x (among_back (0 ∷ []) (seeds blocks) x (seed_there blocks b x k at e)) refl
      on b x k at true is e = onward b x ((are b (there_within blocks b k at)).0 is) (ap (λ z. is_among z x) (led_is regs blocks (Register r) b k at) ∙ e) refl

      closed : AreClosed regs r blocks marks
      closed = record {
        begins = λ l. (are 0 l).1 (at_first 0 (among_front (0 ∷ []) (seeds blocks) 0 (one_among 0)) refl);
        closed = λ b x k at e l. (are x l).1 (on b x k at (get_or marks b false) refl e);
      }

pub empty_work : (xs rest : List ℕ) (n : ℕ) → xs ≡ rest ++ [] → rest ≡ take (n - 1) xs → n ≡ 0 → xs ≡ []
empty_work xs rest n e f z =
    let none : rest ≡ [] = f ∙ ap (λ k. take (k - 1) xs) z in
    e ∙ ap (λ r. r ++ []) none

-- ---- what a mark and a block are
pub block_there : (blocks : List Block) (t : ℕ) (k : Block) → t < length blocks → k ≡ get_or blocks t k → slice_get blocks t ≡ Some k
block_there blocks t k lt is = slice_get_read blocks (length blocks) t k refl lt is

pub mark_false : (marks xs : List Bool) (t : ℕ) (x : Bool) → xs ≡ marks → x ≡ get_or xs t false → x ≡ false → get_or marks t false ≡ false
mark_false marks xs t x same is e = ap (λ z. get_or z t false) (sym same) ∙ (sym is ∙ e)

pub mark_true : (marks xs : List Bool) (t : ℕ) (x : Bool) → xs ≡ marks → x ≡ get_or xs t false → x ≡ true → get_or marks t false ≡ true
mark_true marks xs t x same is e = ap (λ z. get_or z t false) (sym same) ∙ (sym is ∙ e)

-- ---- a register that no operation leaves unset comes unset from nowhere but the entry
module _ (regs : Declared) (r : ℕ) where
  sure_end : (last : Last) (ops : List (Op × ℕ)) → leave_unset regs r ops ≡ false → (end_unset regs r last ops false ≡ false) × (caught_unset regs r last ops false ≡ false)
  sure_end last [] e = (refl, refl)
  sure_end last (o ∷ os) e =
      let both = or_parts (left_unset regs r o.0 false) (leave_unset regs r os) e in
      let passed : passed_unset regs r last o os false ≡ false = and_off (is_passed (edge_of_op regs o.0) (in_block os last 0)) (left_unset regs r o.0 false) both.0 in
      let rest = sure_end last os both.1 in (
        ap (end_unset regs r last os) passed ∙ rest.0,
        or_off (is_some_edge (edge_of_op regs o.0) && left_unset regs r o.0 false) (caught_unset regs r last os (passed_unset regs r last o os false)) (and_off (is_some_edge (edge_of_op regs o.0)) (left_unset regs r o.0 false) both.0) (ap (caught_unset regs r last os) passed ∙ rest.1),
      )
    where
      and_off : (a b : Bool) → b ≡ false → (a && b) ≡ false
      and_off true b h = h
      and_off false b h = refl

      or_off : (a b : Bool) → a ≡ false → b ≡ false → (a || b) ≡ false
      or_off false b h k = k
      or_off true b h k = absurd (cc)

  sure_onward : (b : Block) → leave_unset regs r b.ops ≡ false → onward_of regs r b false ≡ []
  sure_onward b e =
      let both = sure_end b.last b.ops e in
      ap (λ z. cond z (option_to_list b.handler) [] ++ cond (end_unset regs r b.last b.ops false) (goes_unset r b.last) []) both.1 ∙ ap (λ z. cond z (goes_unset r b.last) []) both.0

  pub sure_work : (blocks : List Block) → ((k : ℕ) (b : Block) → slice_get blocks k ≡ Some b → leave_unset regs r b.ops ≡ true → ⊥) → flat_map (λ b. onward_of regs r b false) blocks ≡ []
  sure_work [] sure = refl
  sure_work (b ∷ bs) sure =
      ap (λ l. l ++ flat_map (λ x. onward_of regs r x false) bs) (sure_onward b (off (leave_unset regs r b.ops) (sure 0 b refl)))
      ∙ sure_work bs (λ k x at. sure (suc k) x at)
    where
      off : (z : Bool) → (z ≡ true → ⊥) → z ≡ false
      off false h = refl
      off true h = absurd (h refl)
