-- What a block tells of a register is what paths tell: at each of its places, and of the blocks that it goes to.
use Rattle.std.proofs.Common.{◌≡◌, refl, sym, ◌∙◌, ap, ℕ, zero, suc, ◌<◌, arith, Bool, true, false, cond, List, [], ◌∷◌, ◌++◌, length, Option, Some, None, ◌⊎◌, inl, inr, ⊎_elim, get_or}
use Rattle.std.specs.Prelude.{slice_get, not, nat_eq, ◌&&◌, ◌||◌}
use Rattle.std.specs.Option.{option_to_list, option_and_then}
use Rattle.std.proofs.lemmas.Bool.{and_parts, and_from, eq-eqb, eqb-true}
use Rattle.std.proofs.lemmas.List.Folds.{list_any-append}
use Rattle.ir_core.specs.declared.code.Op.{Op}
use Rattle.ir_core.specs.declared.code.Reg.{Reg}
use Rattle.ir_core.specs.declared.code.Last.{Last}
use Rattle.ir_core.specs.declared.code.Last.TheVariants.{Goto, If, IfError, Return, Unreachable}
use Rattle.ir_core.specs.declared.code.Block.{Block}
use Rattle.ir_core.specs.Items.{Item, Do, End, in_block, item_of, item_in, handler_of}
use Rattle.ir_core.specs.Rows.{Declared, edge_of_op}
use Rattle.ir_core.specs.Missing.{is_some_edge}
use Rattle.ir_core.proofs.ItemLemmas.{end_item}
use Rattle.liveness.specs.Paths.{is_among, is_target, write_of, targets}
use Rattle.unset_tests.specs.Unset.{sets, is_passed, Goes, passes, fails, goes_unset, UnsetAt, undeclared, entry, written, kept, jumped}
use Rattle.unset_tests.specs.Walk.{left_unset, passed_unset, end_unset, caught_unset, onward}

-- ---- small facts
pub or_parts : (a b : Bool) → (a || b) ≡ true → (a ≡ true) ⊎ (b ≡ true)
or_parts true b e = inl refl
or_parts false b e = inr e

pub or_first : (a b : Bool) → a ≡ true → (a || b) ≡ true
or_first true b e = refl
or_first false b e = absurd (cc)

pub or_second : (a b : Bool) → b ≡ true → (a || b) ≡ true
or_second true b e = refl
or_second false b e = e

pub among_front : (xs ys : List ℕ) (m : ℕ) → is_among xs m ≡ true → is_among (xs ++ ys) m ≡ true
among_front xs ys m e = list_any-append (λ s. nat_eq s m) xs ys ∙ or_first (is_among xs m) (is_among ys m) e

pub among_back : (xs ys : List ℕ) (m : ℕ) → is_among ys m ≡ true → is_among (xs ++ ys) m ≡ true
among_back xs ys m e = list_any-append (λ s. nat_eq s m) xs ys ∙ or_second (is_among xs m) (is_among ys m) e

pub among_parts : (xs ys : List ℕ) (m : ℕ) → is_among (xs ++ ys) m ≡ true → (is_among xs m ≡ true) ⊎ (is_among ys m ≡ true)
among_parts xs ys m e = or_parts (is_among xs m) (is_among ys m) (sym (list_any-append (λ s. nat_eq s m) xs ys) ∙ e)

pub among_one : (n m : ℕ) → is_among (n ∷ []) m ≡ true → n ≡ m
among_one n m e = ⊎_elim (λ a. eqb-true n m a) (λ a. absurd (cc)) (or_parts (nat_eq n m) false e)

pub one_among : (n : ℕ) → is_among (n ∷ []) n ≡ true
one_among n = or_first (nat_eq n n) false (eq-eqb n n refl)

-- an end that tests no register goes to all its targets
pub other_targets : (r : ℕ) (l : Last) → ((s : Reg) (e n line : ℕ) → l ≡ IfError s e n line → ⊥) → targets l ≡ goes_unset r l
other_targets r (Goto t) ne = refl
other_targets r (If s a b) ne = refl
other_targets r (IfError s e n line) ne = absurd (ne s e n line refl)
other_targets r (Return s) ne = refl
other_targets r Unreachable ne = refl

-- an end stands behind all operations
pub end_place : (ops : List (Op × ℕ)) (last : Last) (p : ℕ) (l : Last) → in_block ops last p ≡ Some (End l) → (p ≡ length ops) × (last ≡ l)
end_place [] last zero l e = (refl, cc)
end_place [] last (suc p) l e = absurd (cc)
end_place (o ∷ ops) last zero l e = absurd (cc)
end_place (o ∷ ops) last (suc p) l e = let h = end_place ops last p l e in (ap suc h.0, h.1)

-- the block of an item
pub block_of_item : (blocks : List Block) (b p : ℕ) (i : Item) → item_in blocks b p ≡ Some i → (k : Block) × (slice_get blocks b ≡ Some k) × (in_block k.ops k.last p ≡ Some i)
block_of_item blocks b p i e = by (slice_get blocks b) refl
  where
    by : (o : Option Block) → slice_get blocks b ≡ o → (k : Block) × (slice_get blocks b ≡ Some k) × (in_block k.ops k.last p ≡ Some i)
    by None is = let f : None ≡ Some i = sym (ap (λ o. item_of o p) is) ∙ e in absurd (cc)
    by (Some k) is = (k, is, sym (ap (λ o. item_of o p) is) ∙ e)

abbrev pub handled : Option Block → Option ℕ
handled o = option_and_then handler_of o

item_op : (x o : Op) {line source : ℕ} → Some (Do x line) ≡ Some (Do o source) → x ≡ o
item_op x o e = cc

pub there_within : {A : Type 0} (xs : List A) (n : ℕ) (x : A) → slice_get xs n ≡ Some x → n < length xs
there_within [] n x e = absurd (cc)
there_within (y ∷ xs) zero x e = omega arith
there_within (y ∷ xs) (suc n) x e = let h = there_within xs n x e in omega (arith, h)

module _ (regs : Declared) (r : ℕ) where
  module _ (last : Last) where
    -- whether it may be unset at a place of a block
    abbrev pub state_at : List (Op × ℕ) → ℕ → Bool → Bool
    state_at ops zero before = before
    state_at [] (suc p) before = false
    state_at (o ∷ os) (suc p) before = state_at os p (passed_unset regs r last o os before)

    pub end_is : (ops : List (Op × ℕ)) (before : Bool) → end_unset regs r last ops before ≡ state_at ops (length ops) before
    end_is [] before = refl
    end_is (o ∷ os) before = end_is os (passed_unset regs r last o os before)

    state_step : (ops : List (Op × ℕ)) (p : ℕ) (before : Bool) (o : Op) {line : ℕ} → in_block ops last p ≡ Some (Do o line) → state_at ops (suc p) before ≡ (is_passed (edge_of_op regs o) (in_block ops last (suc p)) && left_unset regs r o (state_at ops p before))
    state_step [] zero before o e = absurd (cc)
    state_step [] (suc p) before o e = absurd (cc)
    state_step (x ∷ os) zero before o e =
        let same : x.0 ≡ o = cc in
        ap (λ z. is_passed (edge_of_op regs z) (in_block os last 0) && left_unset regs r z before) same
    state_step (x ∷ os) (suc p) before o e = state_step os p (passed_unset regs r last x os before) o e

    -- where it is so, an operation stands in front
    state_op : (ops : List (Op × ℕ)) (p : ℕ) (before : Bool) → state_at ops (suc p) before ≡ true → (o : Op) × (line : ℕ) × (in_block ops last p ≡ Some (Do o line))
    state_op [] p before e = absurd (cc)
    state_op (x ∷ os) zero before e = (x.0, x.1, refl)
    state_op (x ∷ os) (suc p) before e = state_op os p (passed_unset regs r last x os before) e

    caught_step : (ops : List (Op × ℕ)) (p : ℕ) (before : Bool) (o : Op) {line : ℕ} → in_block ops last p ≡ Some (Do o line) → is_some_edge (edge_of_op regs o) ≡ true → left_unset regs r o (state_at ops p before) ≡ true → caught_unset regs r last ops before ≡ true
    caught_step [] zero before o e some left = absurd (cc)
    caught_step [] (suc p) before o e some left = absurd (cc)
    caught_step (x ∷ os) zero before o e some left =
        let same : x.0 ≡ o = cc in
        or_first (is_some_edge (edge_of_op regs x.0) && left_unset regs r x.0 before) (caught_unset regs r last os (passed_unset regs r last x os before))
        (ap (λ z. is_some_edge (edge_of_op regs z) && left_unset regs r z before) same ∙ and_from (is_some_edge (edge_of_op regs o)) (left_unset regs r o before) some left)
    caught_step (x ∷ os) (suc p) before o e some left =
        or_second (is_some_edge (edge_of_op regs x.0) && left_unset regs r x.0 before) (caught_unset regs r last os (passed_unset regs r last x os before))
        (caught_step os p (passed_unset regs r last x os before) o e some left)

    record IsCaught (ops : List (Op × ℕ)) (before : Bool) : Type 0 where
      pub place : ℕ
      pub o : Op
      pub line : ℕ
      pub item : in_block ops last place ≡ Some (Do o line)
      pub some : is_some_edge (edge_of_op regs o) ≡ true
      pub left : left_unset regs r o (state_at ops place before) ≡ true

    caught_from : (ops : List (Op × ℕ)) (before : Bool) → caught_unset regs r last ops before ≡ true → IsCaught ops before
    caught_from [] before e = absurd (cc)
    caught_from (x ∷ os) before e =
        let later : Bool = passed_unset regs r last x os before in
        by (λ h. caught_from os later h) (or_parts (is_some_edge (edge_of_op regs x.0) && left_unset regs r x.0 before) (caught_unset regs r last os later) e)
      where
        by : (caught_unset regs r last os (passed_unset regs r last x os before) ≡ true → IsCaught os (passed_unset regs r last x os before)) → ((is_some_edge (edge_of_op regs x.0) && left_unset regs r x.0 before) ≡ true) ⊎ (caught_unset regs r last os (passed_unset regs r last x os before) ≡ true) → IsCaught (x ∷ os) before
        by more (inl h) =
            let both = and_parts (is_some_edge (edge_of_op regs x.0)) (left_unset regs r x.0 before) h in
            record { place = 0; o = x.0; line = x.1; item = refl; some = both.0; left = both.1 }
        by more (inr h) =
            let c : IsCaught os (passed_unset regs r last x os before) = more h in
            record { place = suc c.place; o = c.o; line = c.line; item = c.item; some = c.some; left = c.left }

  -- what may be unset behind an operation
  left_parts : (o : Op) (before : Bool) → left_unset regs r o before ≡ true → ((is_target (write_of o) r ≡ true) × (sets regs o ≡ false)) ⊎ ((is_target (write_of o) r ≡ false) × (before ≡ true))
  left_parts o before e = by (is_target (write_of o) r) refl e
    where
      off : (b : Bool) → not b ≡ true → b ≡ false
      off false h = refl
      off true h = absurd (cc)

      by : (b : Bool) → is_target (write_of o) r ≡ b → cond b (not (sets regs o)) before ≡ true → ((is_target (write_of o) r ≡ true) × (sets regs o ≡ false)) ⊎ ((is_target (write_of o) r ≡ false) × (before ≡ true))
      by true is h = inl (is, off (sets regs o) h)
      by false is h = inr (is, h)

  left_written : (o : Op) (before : Bool) → is_target (write_of o) r ≡ true → sets regs o ≡ false → left_unset regs r o before ≡ true
  left_written o before writes unsure = ap (λ b. cond b (not (sets regs o)) before) writes ∙ ap not unsure

  left_kept : (o : Op) (before : Bool) → is_target (write_of o) r ≡ false → before ≡ true → left_unset regs r o before ≡ true
  left_kept o before other set = ap (λ b. cond b (not (sets regs o)) before) other ∙ set

  module _ (blocks : List Block) where
    -- ---- what a block tells is so
    module _ (b : ℕ) (k : Block) (at : slice_get blocks b ≡ Some k) (before : Bool) (starts : before ≡ true → UnsetAt regs blocks r b 0) where
      item : (p : ℕ) (i : Item) → in_block k.ops k.last p ≡ Some i → item_in blocks b p ≡ Some i
      item p i e = ap (λ z. item_of z p) at ∙ e

      left_sound : (p : ℕ) (o : Op) {line : ℕ} → in_block k.ops k.last p ≡ Some (Do o line) → (state_at k.last k.ops p before ≡ true → UnsetAt regs blocks r b p) → left_unset regs r o (state_at k.last k.ops p before) ≡ true → (c i : ℕ) → Goes regs blocks b p c i → UnsetAt regs blocks r c i
      left_sound p o {line} e sound left c i goes_to = by (left_parts o (state_at k.last k.ops p before) left)
        where
          by : ((is_target (write_of o) r ≡ true) × (sets regs o ≡ false)) ⊎ ((is_target (write_of o) r ≡ false) × (state_at k.last k.ops p before ≡ true)) → UnsetAt regs blocks r c i
          by (inl h) = written b p c i o (item p (Do o line) e) h.0 h.1 goes_to
          by (inr h) = kept b p c i o (sound h.1) (item p (Do o line) e) h.0 goes_to

      pub state_sound : (p : ℕ) → state_at k.last k.ops p before ≡ true → UnsetAt regs blocks r b p
      state_sound zero e = starts e
      state_sound (suc p) e =
          let here = state_op k.last k.ops p before e in
          let o : Op = here.0 in
          let both = and_parts (is_passed (edge_of_op regs o) (in_block k.ops k.last (suc p))) (left_unset regs r o (state_at k.last k.ops p before)) (sym (state_step k.last k.ops p before o here.2) ∙ e) in
          left_sound p o here.2 (λ h. state_sound p h) both.1 b (suc p)
          (passes b p o (item p (Do o here.1) here.2) (ap (λ z. is_passed (edge_of_op regs o) (item_of z (suc p))) at ∙ both.0))

      pub onward_sound : (t : ℕ) → is_among (onward regs r k before) t ≡ true → UnsetAt regs blocks r t 0
      onward_sound t e =
          ⊎_elim (λ h. from_handler (caught_unset regs r k.last k.ops before) refl k.handler refl h) (λ h. from_end (end_unset regs r k.last k.ops before) refl h)
          (among_parts (cond (caught_unset regs r k.last k.ops before) (option_to_list k.handler) []) (cond (end_unset regs r k.last k.ops before) (goes_unset r k.last) []) t e)
        where
          from_handler : (c : Bool) → caught_unset regs r k.last k.ops before ≡ c → (h : Option ℕ) → k.handler ≡ h → is_among (cond c (option_to_list h) []) t ≡ true → UnsetAt regs blocks r t 0
          from_handler false is h same among = absurd (cc)
          from_handler true is None same among = absurd (cc)
          from_handler true is (Some h) same among =
              let c : IsCaught k.last k.ops before = caught_from k.last k.ops before is in
              let target : h ≡ t = among_one h t among in
              left_sound c.place c.o c.item (λ x. state_sound c.place x) c.left t 0
              (fails b c.place t c.o (item c.place (Do c.o c.line) c.item) c.some (ap handled at ∙ (same ∙ ap (λ z. Some z) target)))

          from_end : (c : Bool) → end_unset regs r k.last k.ops before ≡ c → is_among (cond c (goes_unset r k.last) []) t ≡ true → UnsetAt regs blocks r t 0
          from_end false is among = absurd (cc)
          from_end true is among =
              jumped b (length k.ops) t k.last (state_sound (length k.ops) (sym (end_is k.last k.ops before) ∙ is)) (item (length k.ops) (End k.last) (end_item k.ops k.last)) among

    -- ---- and marks that are closed tell all
    pub record AreClosed (marks : List Bool) : Type 0 where
      pub begins : 0 < length blocks → get_or marks 0 false ≡ true
      pub closed : (b t : ℕ) (k : Block) → slice_get blocks b ≡ Some k → is_among (onward regs r k (get_or marks b false)) t ≡ true → t < length blocks → get_or marks t false ≡ true

    module _ (declared : r < length regs) (marks : List Bool) (c : AreClosed marks) where
      abbrev Told : ℕ → ℕ → Type 0
      Told b p = (k : Block) → slice_get blocks b ≡ Some k → state_at k.last k.ops p (get_or marks b false) ≡ true

      -- where an operation goes to
      told_on : (b p : ℕ) (o : Op) {line : ℕ} → item_in blocks b p ≡ Some (Do o line) → ((k : Block) → slice_get blocks b ≡ Some k → left_unset regs r o (state_at k.last k.ops p (get_or marks b false)) ≡ true) → (d i : ℕ) → Goes regs blocks b p d i → Told d i
      told_on b p o {line} at left d i (passes b2 p2 x is passed) k there =
          let item : in_block k.ops k.last p ≡ Some (Do o line) = sym (ap (λ z. item_of z p) there) ∙ at in
          let same : x ≡ o = item_op x o (sym is ∙ at) in
          let behind : is_passed (edge_of_op regs o) (in_block k.ops k.last (suc p)) ≡ true = sym (ap (λ z. is_passed (edge_of_op regs o) (item_of z (suc p))) there) ∙ (ap (λ z. is_passed (edge_of_op regs z) (item_in blocks b (suc p))) (sym same) ∙ passed) in
          state_step k.last k.ops p (get_or marks b false) o item
          ∙ and_from (is_passed (edge_of_op regs o) (in_block k.ops k.last (suc p))) (left_unset regs r o (state_at k.last k.ops p (get_or marks b false))) behind (left k there)
      told_on b p o {line} at left d i (fails b2 p2 h x is some handler) k there =
          let same : x ≡ o = item_op x o (sym is ∙ at) in
          let found = block_of_item blocks b p (Do o line) at in
          let j : Block = found.0 in
          let before : Bool = get_or marks b false in
          let caught : caught_unset regs r j.last j.ops before ≡ true =
          caught_step j.last j.ops p before o found.2 (ap (λ z. is_some_edge (edge_of_op regs z)) (sym same) ∙ some) (left j found.1) in
          let handles : j.handler ≡ Some h = sym (ap handled found.1) ∙ handler in
          let among : is_among (cond (caught_unset regs r j.last j.ops before) (option_to_list j.handler) []) h ≡ true =
          ap (λ z. is_among (cond z (option_to_list j.handler) []) h) caught ∙ (ap (λ z. is_among (option_to_list z) h) handles ∙ one_among h) in
          c.closed b h j found.1
          (among_front (cond (caught_unset regs r j.last j.ops before) (option_to_list j.handler) []) (cond (end_unset regs r j.last j.ops before) (goes_unset r j.last) []) h among)
          (there_within blocks h k there)

      pub complete : (b p : ℕ) → UnsetAt regs blocks r b p → Told b p
      complete b p (undeclared b2 p2 far) k there = absurd (omega (arith, declared, far))
      complete b p entry k there = c.begins (there_within blocks 0 k there)
      complete d i (written b p d2 i2 o at writes unsure goes_to) k there =
          told_on b p o at (λ j is. left_written o (state_at j.last j.ops p (get_or marks b false)) writes unsure) d i goes_to k there
      complete d i (kept b p d2 i2 o unset at other goes_to) k there =
          told_on b p o at (λ j is. left_kept o (state_at j.last j.ops p (get_or marks b false)) other (complete b p unset j is)) d i goes_to k there
      complete t i (jumped b p t2 l unset at among) k there =
          let found = block_of_item blocks b p (End l) at in
          let j : Block = found.0 in
          let before : Bool = get_or marks b false in
          let end = end_place j.ops j.last p l found.2 in
          let is : end_unset regs r j.last j.ops before ≡ true =
          end_is j.last j.ops before ∙ (ap (λ z. state_at j.last j.ops z before) (sym end.0) ∙ complete b p unset j found.1) in
          let goes_to : is_among (cond (end_unset regs r j.last j.ops before) (goes_unset r j.last) []) t ≡ true =
          ap (λ z. is_among (cond z (goes_unset r j.last) []) t) is ∙ (ap (λ z. is_among (goes_unset r z) t) end.1 ∙ among) in
          c.closed b t j found.1
          (among_back (cond (caught_unset regs r j.last j.ops before) (option_to_list j.handler) []) (cond (end_unset regs r j.last j.ops before) (goes_unset r j.last) []) t goes_to)
          (there_within blocks t k there)
