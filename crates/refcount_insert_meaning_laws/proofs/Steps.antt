-- Each step of a program is one of the program with its counts left out again. A frame stands in the block of the other number, at the same
-- place, with the same registers. Where an edge leads past blocks of counts, the program itself goes over blocks that are empty.
use Rattle.std.proofs.Common.{◌≡◌, refl, sym, ◌∙◌, ap, subst, ℕ, zero, suc, ◌+◌, ◌<◌, ◌≤◌, arith, Bool, true, false, cond, not, List, [], ◌∷◌, length, map, Option, Some, None, ⊎_elim}
use Rattle.std.specs.Prelude.{slice_get, nat_eq, nat_lt, ◌&&◌}
use Rattle.std.specs.List.{position_or_len}
use Rattle.std.specs.Option.{option_map, option_map_or, option_and_then}
use Rattle.std.specs.Str.{bytes_eq}
use Rattle.std.proofs.lemmas.Bool.{eqb-true, eq-eqb, and_from}
use Rattle.std.proofs.lemmas.Option.{slice_get_within}
use Rattle.value_core.specs.Exceptions.{Thrown}
use Rattle.value_core.specs.Value.{Value, BoolVal}
use Rattle.c_core.specs.declared.code.CClass.{CClass}
use Rattle.c_core.specs.Functions.{method_at, trait_method_at}
use Rattle.c_core.proofs.Lines.{and_true}
use Rattle.ir_core.specs.declared.code.RType.{RType}
use Rattle.ir_core.specs.declared.code.RType.TheVariants.{Bool as BoolType}
use Rattle.ir_core.specs.declared.code.Reg.{Reg}
use Rattle.ir_core.specs.declared.code.Op.{Op}
use Rattle.ir_core.specs.declared.code.Op.TheVariants.{Move, Lit, Prim, Call, Virtual, TraitCall, Turn, Inc, Dec, XDec}
use Rattle.ir_core.specs.declared.code.Last.{Last}
use Rattle.ir_core.specs.declared.code.Last.TheVariants.{Goto, If, IfError, Return, Unreachable}
use Rattle.ir_core.specs.declared.code.Block.{Block}
use Rattle.ir_core.specs.declared.code.Func.{Func}
use Rattle.ir_core.specs.declared.code.Program.{Program}
use Rattle.ir_core.specs.declared.kind.Edge.{Edge}
use Rattle.ir_core.specs.declared.kind.Edge.TheVariants.{NoEdge, Tests, TestsTwice, Jumps}
use Rattle.ir_core.specs.Items.{Item, Do, End, in_block, item_of, item_in, blocks_of}
use Rattle.ir_core.specs.Rows.{Declared, type_of_reg, edge_of_call, edge_of_prim}
use Rattle.ir_core.specs.Registers.{Held, Holds, error_of, is_error, literal_of, Regs, put, look, first_regs}
use Rattle.ir_core.specs.Names.{function_id, is_called, function_called}
use Rattle.ir_core.specs.Effects.{World, Effect, Wrong, Gives, Acts, Fails, Ends, IfTarget, IfWritten, effect}
use Rattle.ir_core.specs.Meaning.{Frame, Waiting, Config, Runs, Leaves, Ended, Stuck, Fitting, if_some, if_calm, next, to_block, goes, read, read_all, arguments, is_refused, class_of, are_types, is_type, is_fit, Way, Well, Badly, Wrongly, way, ended, ended_well, raised_by, question, is_answered, is_second_test, is_edge, is_clear, may_stand, typed, turned, chosen, halted, declared_of, registers_of, item_at, method_of, trait_name, enters, calls, calls_method, failed, succeeds, applied, returned, leave, do_op, do_last, act, step, steps}
use Rattle.ir_core.specs.Shape.{FuncFits, FuncsFit, Shape}
use Rattle.refcount_insert_rule.specs.Counted.{IsCountedFunc, AreCounted}
use Rattle.refcount_insert_meaning_laws.specs.Uncounted.{passes, passed_to, goal, led, uncounted_block, uncounted_func}
use Rattle.refcount_insert_meaning_laws.proofs.Goals.{passes_is, passed_at, goal_here, goal_past}
use Rattle.refcount_insert_meaning_laws.proofs.Standing.{goal_of, Stands, stands_at, first_stands}
use Rattle.ir_core.specs.Shape.{LastFits, BlocksFit}

-- ---- lists
get_map : {A B : Type 0} (f : A → B) (xs : List A) (k : ℕ) → slice_get (map f xs) k ≡ option_map f (slice_get xs k)
get_map f [] k = refl
get_map f (x ∷ xs) zero = refl
get_map f (x ∷ xs) (suc k) = get_map f xs k

func_fits : (fs : List Func) → FuncsFit fs → (n : ℕ) (f : Func) → slice_get fs n ≡ Some f → FuncFits f
func_fits [] fits n f e = let g : None ≡ Some f = e in absurd (cc)
func_fits (x ∷ fs) fits zero f e =
    let g : Some x ≡ Some f = e in
    let same : x ≡ f = cc in subst FuncFits same fits.0
func_fits (x ∷ fs) fits (suc n) f e = func_fits fs fits.1 n f e

last_fits : (n k : ℕ) (bs : List Block) → BlocksFit n k bs → (j : ℕ) (b : Block) → slice_get bs j ≡ Some b → LastFits n (k + j) b.ops b.last
last_fits n k [] fits j b e = let g : None ≡ Some b = e in absurd (cc)
last_fits n k (x ∷ bs) fits zero b e =
    let g : Some x ≡ Some b = e in
    let same : x ≡ b = cc in
    let none : k ≡ k + 0 = omega arith in
    subst (λ z. LastFits n z b.ops b.last) none (subst (λ (z : Block). LastFits n k z.ops z.last) same fits.0.last)
last_fits n k (x ∷ bs) fits (suc j) b e =
    let z : suc k + j ≡ k + suc j = omega arith in
    subst (λ y. LastFits n y b.ops b.last) z (last_fits n (suc k) bs fits.1 j b e)

-- ---- items
module _ (to : ℕ → ℕ) where
  abbrev led_item : Option Item → Option Item
  led_item (Some (End l)) = Some (End (led to l))
  led_item o = o

  item_led : (ops : List (Op × ℕ)) (last : Last) (i : ℕ) → in_block ops (led to last) i ≡ led_item (in_block ops last i)
  item_led [] last zero = refl
  item_led [] last (suc i) = refl
  item_led (o ∷ os) last zero = refl
  item_led (o ∷ os) last (suc i) = item_led os last i

  question_led : (o : Option Item) → question (led_item o) ≡ question o
  question_led None = refl
  question_led (Some (Do o line)) = refl
  question_led (Some (End l)) = refl

  answered_led : (o : Option Item) (n : ℕ) (flag : Reg) → is_answered o n flag ≡ true → is_answered (led_item o) (to n) flag ≡ true
  answered_led None n flag e = absurd (cc)
  answered_led (Some (Do o line)) n flag e = absurd (cc)
  answered_led (Some (End (If x a b))) n flag e =
      let both = and_true (nat_eq flag.0 x.0) (nat_eq b n) e in
      and_from (nat_eq flag.0 x.0) (nat_eq (to b) (to n)) both.0 (eq-eqb (to b) (to n) (ap to (eqb-true b n both.1)))
  answered_led (Some (End (Goto a))) n flag e = absurd (cc)
  answered_led (Some (End (IfError x a b line))) n flag e = absurd (cc)
  answered_led (Some (End (Return x))) n flag e = absurd (cc)
  answered_led (Some (End Unreachable)) n flag e = absurd (cc)

  second_led : (a b : Option Item) (n : ℕ) → is_second_test a b n ≡ true → is_second_test (led_item a) (led_item b) (to n) ≡ true
  second_led a b n e = ap (λ o. option_map_or (is_answered (led_item b) (to n)) o false) (question_led a) ∙ by (question a) e
    where
      by : (o : Option Reg) → option_map_or (is_answered b n) o false ≡ true → option_map_or (is_answered (led_item b) (to n)) o false ≡ true
      by None e = absurd (cc)
      by (Some flag) e = answered_led b n flag e

  -- an edge of an operation stays one, where second tests do
  edge_led : (at there : ℕ → ℕ → Option Item) → ((k n : ℕ) → is_second_test (at k 0) (at k 1) n ≡ true → is_second_test (there (to k) 0) (there (to k) 1) (to n) ≡ true) → (e : Edge) (o : Option Item) → is_edge at e o ≡ true → is_edge there e (led_item o) ≡ true
  edge_led at there second NoEdge o e = absurd (cc)
  edge_led at there second (Tests r) (Some (End (IfError x a b line))) e = e
  edge_led at there second (Tests r) None e = absurd (cc)
  edge_led at there second (Tests r) (Some (Do o line)) e = absurd (cc)
  edge_led at there second (Tests r) (Some (End (Goto a))) e = absurd (cc)
  edge_led at there second (Tests r) (Some (End (If x a b))) e = absurd (cc)
  edge_led at there second (Tests r) (Some (End (Return x))) e = absurd (cc)
  edge_led at there second (Tests r) (Some (End Unreachable)) e = absurd (cc)
  edge_led at there second (TestsTwice r) (Some (End (IfError x a b line))) e =
      let both = and_true (nat_eq r.0 x.0) (is_second_test (at a 0) (at a 1) b) e in
      and_from (nat_eq r.0 x.0) (is_second_test (there (to a) 0) (there (to a) 1) (to b)) both.0 (second a b both.1)
  edge_led at there second (TestsTwice r) None e = absurd (cc)
  edge_led at there second (TestsTwice r) (Some (Do o line)) e = absurd (cc)
  edge_led at there second (TestsTwice r) (Some (End (Goto a))) e = absurd (cc)
  edge_led at there second (TestsTwice r) (Some (End (If x a b))) e = absurd (cc)
  edge_led at there second (TestsTwice r) (Some (End (Return x))) e = absurd (cc)
  edge_led at there second (TestsTwice r) (Some (End Unreachable)) e = absurd (cc)
  edge_led at there second Jumps (Some (End (Goto a))) e = refl
  edge_led at there second Jumps None e = absurd (cc)
  edge_led at there second Jumps (Some (Do o line)) e = absurd (cc)
  edge_led at there second Jumps (Some (End (If x a b))) e = absurd (cc)
  edge_led at there second Jumps (Some (End (IfError x a b line))) e = absurd (cc)
  edge_led at there second Jumps (Some (End (Return x))) e = absurd (cc)
  edge_led at there second Jumps (Some (End Unreachable)) e = absurd (cc)

-- ---- functions with the same heads
regs_same : (fs gs : List Func) → AreCounted fs gs → (n : ℕ) → declared_of (slice_get (map uncounted_func gs) n) ≡ declared_of (slice_get fs n)
regs_same [] [] c n = refl
regs_same [] (g ∷ gs) c n = absurd c
regs_same (f ∷ fs) [] c n = absurd c
regs_same (f ∷ fs) (g ∷ gs) c zero = c.0.regs
regs_same (f ∷ fs) (g ∷ gs) c (suc n) = regs_same fs gs c.1 n

pub size_same : (fs gs : List Func) → AreCounted fs gs → length (map uncounted_func gs) ≡ length fs
size_same [] [] c = refl
size_same [] (g ∷ gs) c = absurd c
size_same (f ∷ fs) [] c = absurd c
size_same (f ∷ fs) (g ∷ gs) c = ap suc (size_same fs gs c.1)

place_same : (id : List ℕ) (fs gs : List Func) → AreCounted fs gs → position_or_len (is_called id) (map uncounted_func gs) ≡ position_or_len (is_called id) fs
place_same id [] [] c = refl
place_same id [] (g ∷ gs) c = absurd c
place_same id (f ∷ fs) [] c = absurd c
place_same id (f ∷ fs) (g ∷ gs) c =
    ap (λ name. cond (not (bytes_eq (function_id name) id)) (1 + position_or_len (is_called id) (map uncounted_func gs)) 0) c.0.name
    ∙ ap (λ n. cond (not (bytes_eq (function_id f.name) id)) (1 + n) 0) (place_same id fs gs c.1)

counted_at : (fs gs : List Func) → AreCounted fs gs → (n : ℕ) (f : Func) → slice_get fs n ≡ Some f → (g : Func) × (slice_get gs n ≡ Some g) × IsCountedFunc f g
counted_at [] gs c n f e = let g : None ≡ Some f = e in absurd (cc)
counted_at (x ∷ fs) [] c n f e = absurd c
counted_at (x ∷ fs) (y ∷ gs) c zero f e =
    let g : Some x ≡ Some f = e in
    let same : x ≡ f = cc in
    (y, refl, subst (λ z. IsCountedFunc z y) same c.0)
counted_at (x ∷ fs) (y ∷ gs) c (suc n) f e = counted_at fs gs c.1 n f e

module _ (p : Program) (gs : List Func) (shape : Shape p) (counted : AreCounted p.funcs gs) where
  -- the program with its counts left out again
  abbrev pub r : Program
  r = record p { funcs = map uncounted_func gs }

  pub record FuncAt (n : ℕ) : Type 0 where
    pub func : Func
    pub new : Func
    pub there : slice_get p.funcs n ≡ Some func
    pub new_there : slice_get r.funcs n ≡ Some (uncounted_func new)
    pub is : IsCountedFunc func new

  pub func_at : (n : ℕ) (f : Func) → slice_get p.funcs n ≡ Some f → (a : FuncAt n) × (a.func ≡ f)
  func_at n f e =
      let h = counted_at p.funcs gs counted n f e in
      (record { func = f; new = h.0; there = e; new_there = get_map uncounted_func gs n ∙ ap (option_map uncounted_func) h.1; is = h.2 }, refl)

  registers : (n : ℕ) → registers_of r n ≡ registers_of p n
  registers n = regs_same p.funcs gs counted n

  called : (id : List ℕ) → function_called r id ≡ function_called p id
  called id =
      ap (λ n. cond (nat_lt n (length r.funcs)) (Some n) None) (place_same id p.funcs gs counted)
      ∙ ap (λ n. cond (nat_lt (position_or_len (is_called id) p.funcs) n) (Some (position_or_len (is_called id) p.funcs)) None) (size_same p.funcs gs counted)

  -- ---- runs
  -- the number of a block
  pub record Known (fn k n : ℕ) : Type 0 where
    pub at : FuncAt fn
    pub known : (b : Block) → slice_get at.func.blocks k ≡ Some b → n ≡ at.is.number k

  abbrev pub WaitMatches : Waiting → Waiting → Type 0
  WaitMatches c d = (n : ℕ) × (d ≡ record c { frame = record c.frame { block = n } }) × Known c.frame.fn c.frame.block n

  abbrev pub AllWait : List Waiting → List Waiting → Type 0
  AllWait [] [] = Unit {0}
  AllWait (c ∷ cs) (d ∷ ds) = WaitMatches c d × AllWait cs ds
  AllWait _ _ = ⊥

  pub record RunMatches (f : Frame) (below : List Waiting) (w : World) (d : Config) : Type 0 where
    pub block : ℕ
    pub waiting : List Waiting
    pub is : d ≡ Runs (record f { block = block }) waiting w
    pub known : Known f.fn f.block block
    pub wait : AllWait below waiting

  abbrev pub Matches : Config → Config → Type 0
  Matches (Runs f below w) d = RunMatches f below w d
  Matches (Leaves fn below w) d = ⊥
  Matches (Ended e w) d = d ≡ Ended e w
  Matches Stuck d = Unit {0}

  -- some steps later
  abbrev pub Meets : Config → Config → Type 0
  Meets c d = (j : ℕ) × Matches (steps Fitting p j c) d

  at_some : {A : Type 0} (o o' : Option A) (go go' : A → Config) → o' ≡ o → ((a : A) → o ≡ Some a → Meets (go a) (go' a)) → Meets (if_some o go) (if_some o' go')
  at_some None o' go go' e h = (0, tt)
  at_some (Some a) o' go go' e h = rw e (h a refl)

  at_other : {A B : Type 0} (o : Option A) (o' : Option B) (go : A → Config) (go' : B → Config) → ((a : A) → o ≡ Some a → (b : B) × (o' ≡ Some b) × Meets (go a) (go' b)) → Meets (if_some o go) (if_some o' go')
  at_other None o' go go' h = (0, tt)
  at_other (Some a) o' go go' h = let b = h a refl in rw b.1 b.2

  at_cond : (b : Bool) (c d : Config) → Meets c d → Meets (cond b c Stuck) (cond b d Stuck)
  at_cond true c d h = h
  at_cond false c d h = (0, tt)

  at_conds : (b b' : Bool) (c d : Config) → (b ≡ true → b' ≡ true) → Meets c d → Meets (cond b c Stuck) (cond b' d Stuck)
  at_conds true b' c d e h = rw (e refl) h
  at_conds false b' c d e h = (0, tt)

  at_refused : (b : Bool) (c d : Config) → Meets c d → Meets (cond b Stuck c) (cond b Stuck d)
  at_refused true c d h = (0, tt)
  at_refused false c d h = h

  at_calm : (o : Option Thrown) (c d : Config) → Meets c d → Meets (if_calm o c) (if_calm o d)
  at_calm None c d h = h
  at_calm (Some e) c d h = (0, tt)

  -- both find the same registers
  by_regs : (n : ℕ) (c : Config) (go : Declared → Config) → Meets c (go (registers_of p n)) → Meets c (go (registers_of r n))
  by_regs n c go h = subst (λ ds. Meets c (go ds)) (sym (registers n)) h

  -- ---- places
  module _ (fn : ℕ) (a : FuncAt fn) where
    abbrev to : ℕ → ℕ
    to = goal_of a.func a.is.tables a.is.number a.is.first a.is.at_start a.new.blocks

    abbrev StandsAt : ℕ → Block → Type 0
    StandsAt = Stands a.func a.is.tables a.is.number a.is.first a.is.at_start a.new.blocks

    fits : FuncFits a.func
    fits = func_fits p.funcs shape.funcs fn a.func a.there

    stands : (k : ℕ) (b : Block) → slice_get a.func.blocks k ≡ Some b → StandsAt k b
    stands k b e = stands_at a.func a.new a.is fits k b e

    item_old : (k i : ℕ) (o : Option Block) → slice_get a.func.blocks k ≡ o → item_at p fn k i ≡ item_of o i
    item_old k i o e = ap (λ z. item_in (blocks_of z) k i) a.there ∙ ap (λ z. item_of z i) e

    item_new : (k i : ℕ) (b : Block) → slice_get a.func.blocks k ≡ Some b → item_at r fn (a.is.number k) i ≡ led_item to (item_at p fn k i)
    item_new k i b e =
        let s = stands k b e in
        let main : Block = s.main in
        ap (λ z. item_in (blocks_of z) (a.is.number k) i) a.new_there
        ∙ (ap (λ z. item_of z i) (get_map (uncounted_block a.new.blocks) a.new.blocks (a.is.number k) ∙ ap (option_map (uncounted_block a.new.blocks)) s.there)
        ∙ (ap (λ ops. in_block ops (led (goal a.new.blocks) main.last) i) s.left
        ∙ (ap (λ l. in_block b.ops l i) s.leads
        ∙ (item_led to b.ops b.last i ∙ ap (led_item to) (sym (item_old k i (Some b) e))))))

    passed_here : (k : ℕ) (b : Block) (s : StandsAt k b) → passed_to a.new.blocks (a.is.number k) ≡ passes (a.is.number k) s.main.ops b.ops s.main.last
    passed_here k b s =
        passed_at a.new.blocks (a.is.number k) s.main s.there ∙ ap (λ z. passes (a.is.number k) s.main.ops z s.main.last) s.left

    -- an edge to a block with operations leads to it
    leads_here : (k : ℕ) (b : Block) (o : Op × ℕ) (os : List (Op × ℕ)) → slice_get a.func.blocks k ≡ Some b → b.ops ≡ o ∷ os → to k ≡ a.is.number k
    leads_here k b o os e some = by (passed_to a.new.blocks (a.is.number k)) refl
      where
        by : (c : Option ℕ) → passed_to a.new.blocks (a.is.number k) ≡ c → to k ≡ a.is.number k
        by None is = goal_here a.new.blocks (a.is.number k) is
        by (Some c) is =
            let s = stands k b e in
            let h = passes_is (a.is.number k) s.main.ops b.ops s.main.last c (sym (passed_here k b s) ∙ is) in
            let bad : o ∷ os ≡ [] = sym some ∙ h.0 in
            absurd (cc)

    second_new : (k n : ℕ) → is_second_test (item_at p fn k 0) (item_at p fn k 1) n ≡ true → is_second_test (item_at r fn (to k) 0) (item_at r fn (to k) 1) (to n) ≡ true
    second_new k n e = by (slice_get a.func.blocks k) refl
      where
        unasked : (o : Option Item) → item_at p fn k 0 ≡ o → question o ≡ None → is_second_test (item_at r fn (to k) 0) (item_at r fn (to k) 1) (to n) ≡ true
        unasked o is none =
            let bad : false ≡ true = sym (ap (λ z. option_map_or (is_answered (item_at p fn k 1) n) z false) (ap question is ∙ none)) ∙ e in
            absurd (cc)

        in_ops : (b : Block) (ops : List (Op × ℕ)) → slice_get a.func.blocks k ≡ Some b → b.ops ≡ ops → is_second_test (item_at r fn (to k) 0) (item_at r fn (to k) 1) (to n) ≡ true
        in_ops b [] is ops = unasked (Some (End b.last)) (item_old k 0 (Some b) is ∙ ap (λ z. in_block z b.last 0) ops) refl
        in_ops b (o ∷ os) is ops =
            let here : to k ≡ a.is.number k = leads_here k b o os is ops in
            ap (λ m. is_second_test (item_at r fn m 0) (item_at r fn m 1) (to n)) here
            ∙ (ap (λ x. is_second_test x (item_at r fn (a.is.number k) 1) (to n)) (item_new k 0 b is)
            ∙ (ap (λ x. is_second_test (led_item to (item_at p fn k 0)) x (to n)) (item_new k 1 b is)
            ∙ second_led to (item_at p fn k 0) (item_at p fn k 1) n e))

        by : (o : Option Block) → slice_get a.func.blocks k ≡ o → is_second_test (item_at r fn (to k) 0) (item_at r fn (to k) 1) (to n) ≡ true
        by None is = unasked None (item_old k 0 None is) refl
        by (Some b) is = in_ops b b.ops is refl

    -- what stands behind an operation stands there
    edge_new : (k n i : ℕ) → ((b : Block) → slice_get a.func.blocks k ≡ Some b → n ≡ a.is.number k) → (e : Edge) → is_edge (item_at p fn) e (item_at p fn k i) ≡ true → is_edge (item_at r fn) e (item_at r fn n i) ≡ true
    edge_new k n i known e is = by (slice_get a.func.blocks k) refl
      where
        no_item : (e : Edge) → is_edge (item_at p fn) e None ≡ true → ⊥
        no_item NoEdge e = absurd (cc)
        no_item (Tests x) e = absurd (cc)
        no_item (TestsTwice x) e = absurd (cc)
        no_item Jumps e = absurd (cc)

        by : (o : Option Block) → slice_get a.func.blocks k ≡ o → is_edge (item_at r fn) e (item_at r fn n i) ≡ true
        by None none = absurd (no_item e (ap (is_edge (item_at p fn) e) (sym (item_old k i None none)) ∙ is))
        by (Some b) there =
            ap (λ m. is_edge (item_at r fn) e (item_at r fn m i)) (known b there)
            ∙ (ap (is_edge (item_at r fn) e) (item_new k i b there)
            ∙ edge_led to (item_at p fn) (item_at r fn) second_new e (item_at p fn k i) is)

  -- ---- jumps
  module _ (f : Frame) (m : ℕ) (waiting : List Waiting) (below : List Waiting) (w : World) (wait : AllWait below waiting) (a : FuncAt f.fn) where
    abbrev there : ℕ → Config
    there k = to_block (record f { block = m }) (to f.fn a k) waiting w

    stay : (k : ℕ) → ((b : Block) → slice_get a.func.blocks k ≡ Some b → to f.fn a k ≡ a.is.number k) → Meets (to_block f k below w) (there k)
    stay k known =
        (0, record { block = to f.fn a k; waiting = waiting; is = refl; known = record { at = a; known = known }; wait = wait })

    fit_at : (k : ℕ) (b : Block) → slice_get a.func.blocks k ≡ Some b → LastFits (length a.func.blocks) k b.ops b.last
    fit_at k b is =
        let z : 0 + k ≡ k = omega arith in
        subst (λ y. LastFits (length a.func.blocks) y b.ops b.last) z (last_fits (length a.func.blocks) 0 a.func.blocks (fits f.fn a) k b is)

    -- over a block that is empty, and stands for one of counts
    onward : (k : ℕ) (b : Block) (c : ℕ) → slice_get a.func.blocks k ≡ Some b → passed_to a.new.blocks (a.is.number k) ≡ Some c → ((i : ℕ) → k < i → Meets (to_block f i below w) (there i)) → Meets (to_block f k below w) (there k)
    onward k b c is passed again =
        let s = stands f.fn a k b is in
        let h = passes_is (a.is.number k) s.main.ops b.ops s.main.last c (sym (passed_here f.fn a k b s) ∙ passed) in
        let j = s.jumps c h.1 in
        let empty : b.ops ≡ [] = h.0 in
        let fit : LastFits (length a.func.blocks) k [] (Goto j.0) = subst (λ l. LastFits (length a.func.blocks) k [] l) j.1 (subst (λ ops. LastFits (length a.func.blocks) k ops b.last) empty (fit_at k b is)) in
        let up : k < j.0 = ⊎_elim (λ lt. lt) (λ turn. let bad : false ≡ true = turn in absurd (cc)) fit.2 in
        let goal_is : to f.fn a k ≡ to f.fn a j.0 = goal_past a.new.blocks (a.is.number k) c passed ∙ ap (goal a.new.blocks) j.2 in
        let item : item_at p f.fn k 0 ≡ Some (End (Goto j.0)) = item_old f.fn a k 0 (Some b) is ∙ (ap (λ z. in_block z b.last 0) empty ∙ ap (λ z. Some (End z)) j.1) in
        let one : step Fitting p (to_block f k below w) ≡ to_block f j.0 below w = ap (λ z. act Fitting p z (record f { block = k; place = 0 }) below w) item in
        let rest : Meets (to_block f j.0 below w) (there j.0) = again j.0 up in
        (suc rest.0, subst (λ x. Matches (steps Fitting p rest.0 x) (there k)) (sym one) (subst (λ x. Matches (steps Fitting p rest.0 (to_block f j.0 below w)) (to_block (record f { block = m }) x waiting w)) (sym goal_is) rest.1))

    arrive : (n k : ℕ) → length a.func.blocks ≤ n + k → Meets (to_block f k below w) (there k)
    arrive zero k le = stay k (λ b is. let lt = slice_get_within a.func.blocks k b is in absurd (omega (arith, le, lt)))
    arrive (suc n) k le = by (arrive n) (slice_get a.func.blocks k) refl
      where
        by_goal : ((i : ℕ) → length a.func.blocks ≤ n + i → Meets (to_block f i below w) (there i)) → (b : Block) (o : Option ℕ) → slice_get a.func.blocks k ≡ Some b → passed_to a.new.blocks (a.is.number k) ≡ o → Meets (to_block f k below w) (there k)
        by_goal rest b None is none = stay k (λ x e. goal_here a.new.blocks (a.is.number k) none)
        by_goal rest b (Some c) is passed = onward k b c is passed (λ i up. rest i (omega (arith, le, up)))

        by : ((i : ℕ) → length a.func.blocks ≤ n + i → Meets (to_block f i below w) (there i)) → (o : Option Block) → slice_get a.func.blocks k ≡ o → Meets (to_block f k below w) (there k)
        by rest None none = stay k (λ b e. let bad : None ≡ Some b = sym none ∙ e in absurd (cc))
        by rest (Some b) is = by_goal rest b (passed_to a.new.blocks (a.is.number k)) is refl

    jump : (k : ℕ) → Meets (to_block f k below w) (there k)
    jump k = arrive (length a.func.blocks) k (omega arith)

  -- ---- returns
  raised_matches : (o : Option Thrown) (w : World) → Meets (raised_by o w) (raised_by o w)
  raised_matches None w = (0, tt)
  raised_matches (Some e) w = (0, refl)

  well_matches : (h : Held) (w : World) → Meets (ended_well h w) (ended_well h w)
  well_matches (Holds (BoolVal true)) w = (0, refl)
  well_matches _ w = (0, tt)

  ended_matches : (v : Way) (h : Held) (w : World) → Meets (ended v h w) (ended v h w)
  ended_matches Well h w = well_matches h w
  ended_matches Badly h w = raised_matches w.pending w
  ended_matches Wrongly h w = (0, tt)

  halted_matches : (o : Option Thrown) (w : World) → Meets (halted o w) (halted o w)
  halted_matches None w = (0, refl)
  halted_matches (Some e) w = (0, tt)

  module _ (f : Frame) (n : ℕ) (known : Known f.fn f.block n) (below waiting : List Waiting) (wait : AllWait below waiting) where
    abbrev g : Frame
    g = record f { block = n }

    goes_on : (regs : Regs) (w : World) → Meets (Runs (next f regs) below w) (Runs (next g regs) waiting w)
    goes_on regs w = (0, record { block = n; waiting = waiting; is = refl; known = known; wait = wait })

    failed_matches : (e : Edge) (regs : Regs) (w : World) → Meets (failed Fitting p e (next f regs) below w) (failed Fitting r e (next g regs) waiting w)
    failed_matches NoEdge regs w = (0, tt)
    failed_matches (Tests x) regs w =
        at_conds _ _ _ _ (edge_new f.fn known.at f.block n (f.place + 1) known.known (Tests x)) (goes_on regs w)
    failed_matches (TestsTwice x) regs w =
        at_conds _ _ _ _ (edge_new f.fn known.at f.block n (f.place + 1) known.known (TestsTwice x)) (goes_on regs w)
    failed_matches Jumps regs w =
        at_conds _ _ _ _ (edge_new f.fn known.at f.block n (f.place + 1) known.known Jumps) (goes_on regs w)

    wrote : (x : Reg) (h : Held) (go go' : Regs → Config) → ((regs : Regs) → Meets (go regs) (go' regs)) → (ds : Declared) → Meets (if_some (type_of_reg ds x) (λ t. go (put f.regs x.0 h))) (if_some (type_of_reg ds x) (λ t. go' (put f.regs x.0 h)))
    wrote x h go go' on ds = at_some (type_of_reg ds x) (type_of_reg ds x) _ _ refl (λ t e. on (put f.regs x.0 h))

  returned_matches : (v : Way) (h : Held) (below waiting : List Waiting) (w : World) → AllWait below waiting → Meets (returned Fitting p v h below w) (returned Fitting r v h waiting w)
  returned_matches v h [] [] w wait = ended_matches v h w
  returned_matches v h [] (d ∷ ds) w wait = absurd wait
  returned_matches v h (c ∷ cs) [] w wait = absurd wait
  returned_matches Well h (c ∷ cs) (d ∷ ds) w wait =
      let n : ℕ = wait.0.0 in
      subst (λ z. Meets (returned Fitting p Well h (c ∷ cs) w) (returned Fitting r Well h (z ∷ ds) w)) (sym wait.0.1)
      (at_some (type_of_reg (registers_of p c.frame.fn) c.into) (type_of_reg (registers_of r c.frame.fn) c.into) _ _ (ap (λ ds. type_of_reg ds c.into) (registers c.frame.fn)) (λ t e. goes_on c.frame n wait.0.2 cs ds wait.1 (put c.frame.regs c.into.0 h) w))
  returned_matches Badly h (c ∷ cs) (d ∷ ds) w wait =
      let n : ℕ = wait.0.0 in
      subst (λ z. Meets (returned Fitting p Badly h (c ∷ cs) w) (returned Fitting r Badly h (z ∷ ds) w)) (sym wait.0.1)
      (by_regs c.frame.fn (returned Fitting p Badly h (c ∷ cs) w) (λ dc. if_some (type_of_reg dc c.into) (λ t. failed Fitting r (edge_of_call dc c.into) (next (record c.frame { block = n }) (put c.frame.regs c.into.0 (error_of t))) ds w))
      (at_some (type_of_reg (registers_of p c.frame.fn) c.into) (type_of_reg (registers_of p c.frame.fn) c.into) _ _ refl (λ t e. failed_matches c.frame n wait.0.2 cs ds wait.1 (edge_of_call (registers_of p c.frame.fn) c.into) (put c.frame.regs c.into.0 (error_of t)) w)))
  returned_matches Wrongly h (c ∷ cs) (d ∷ ds) w wait = (0, tt)

  leave_matches : (t : RType) (h : Held) (below waiting : List Waiting) (w : World) → AllWait below waiting → Meets (leave Fitting p t h below w) (leave Fitting r t h waiting w)
  leave_matches t h below waiting w wait = returned_matches (way t h w.pending) h below waiting w wait

  module _ (f : Frame) (n : ℕ) (known : Known f.fn f.block n) (below waiting : List Waiting) (wait : AllWait below waiting) (w : World) where
    abbrev h : Frame
    h = record f { block = n }

    jumps_to : (k : ℕ) → Meets (to_block f k below w) (to_block h (to f.fn known.at k) waiting w)
    jumps_to k = jump f n waiting below w wait known.at k

    -- ---- the ends of blocks
    chosen_matches : (t : RType) (x : Held) (a b c d : Config) → Meets a c → Meets b d → Meets (chosen t x a b) (chosen t x c d)
    chosen_matches BoolType (Holds (BoolVal true)) a b c d u v = u
    chosen_matches BoolType (Holds (BoolVal false)) a b c d u v = v
    chosen_matches _ _ a b c d u v = (0, tt)

    either_matches : (t : Bool) (a b c d : Config) → Meets a c → Meets b d → Meets (cond t a b) (cond t c d)
    either_matches true a b c d u v = u
    either_matches false a b c d u v = v

    last_matches : (l : Last) → Meets (do_last Fitting p l f below w) (do_last Fitting r (led (to f.fn known.at) l) h waiting w)
    last_matches (Goto k) = jumps_to k
    last_matches (If x a b) =
        at_some (type_of_reg (registers_of p f.fn) x) (type_of_reg (registers_of r f.fn) x) _ _ (ap (λ ds. type_of_reg ds x) (registers f.fn)) (λ t e. chosen_matches t (f.regs x.0) _ _ _ _ (jumps_to a) (jumps_to b))
    last_matches (IfError x a b line) =
        at_some (type_of_reg (registers_of p f.fn) x) (type_of_reg (registers_of r f.fn) x) _ _ (ap (λ ds. type_of_reg ds x) (registers f.fn)) (λ t e. either_matches (is_error t (f.regs x.0)) _ _ _ _ (jumps_to a) (jumps_to b))
    last_matches (Return x) =
        at_other (slice_get p.funcs f.fn) (slice_get r.funcs f.fn) _ _
        (λ old e.
        let found = func_at f.fn old e in
        let b : FuncAt f.fn = found.0 in (
          uncounted_func b.new,
          b.new_there,
          subst (λ (z : Func). Meets (if_some (look z.regs f.regs x) (λ v. leave Fitting p z.ret v below w)) (if_some (look b.new.regs f.regs x) (λ v. leave Fitting r b.new.ret v waiting w))) found.1
              (at_some (look b.func.regs f.regs x) (look b.new.regs f.regs x) _ _ (ap (λ ds. look ds f.regs x) b.is.regs) (λ v e. subst (λ ret. Meets (leave Fitting p b.func.ret v below w) (leave Fitting r ret v waiting w)) (sym b.is.ret) (leave_matches b.func.ret v below waiting w wait))),
        ))
    last_matches Unreachable = halted_matches w.pending w

    -- ---- calls
    fit_same : (ds : Declared) (x : Reg) (args : List Reg) (a : Func) (b : Func) → b.params ≡ a.params → b.regs ≡ a.regs → b.ret ≡ a.ret → is_fit ds x args b ≡ is_fit ds x args a
    fit_same ds x args a b params regs ret =
        ap (λ k. nat_eq (length args) k && (are_types ds args b.regs && is_type b.ret (type_of_reg ds x))) params
        ∙ (ap (λ k. nat_eq (length args) a.params && (are_types ds args k && is_type b.ret (type_of_reg ds x))) regs
        ∙ ap (λ k. nat_eq (length args) a.params && (are_types ds args a.regs && is_type k (type_of_reg ds x))) ret)

    enters_matches : (x : Reg) (args : List Reg) (k : ℕ) → Meets (enters p x args f below w k) (enters r x args h waiting w k)
    enters_matches x args k =
        let into : Declared → Func → Config = λ ds z. if_some (read_all ds f.regs args) (λ xs. cond (is_fit ds x args z) (Runs (record { fn = k; block = 0; place = 0; regs = first_regs z.regs xs }) (record { frame = h; into = x } ∷ waiting) w) Stuck) in
        by_regs f.fn (enters p x args f below w k) (λ ds. if_some (slice_get r.funcs k) (into ds))
        (at_other (slice_get p.funcs k) (slice_get r.funcs k) _ (into (registers_of p f.fn))
        (λ old e.
        let found = func_at k old e in
        let b : FuncAt k = found.0 in (
          uncounted_func b.new,
          b.new_there,
          subst (λ (z : Func). Meets (if_some (read_all (registers_of p f.fn) f.regs args) (λ xs. cond (is_fit (registers_of p f.fn) x args z) (Runs (record { fn = k; block = 0; place = 0; regs = first_regs z.regs xs }) (record { frame = f; into = x } ∷ below) w) Stuck)) (into (registers_of p f.fn) (uncounted_func b.new))) found.1
              (at_some (read_all (registers_of p f.fn) f.regs args) (read_all (registers_of p f.fn) f.regs args) _ _ refl
              (λ xs e. at_conds (is_fit (registers_of p f.fn) x args b.func) (is_fit (registers_of p f.fn) x args (uncounted_func b.new)) _ _ (λ yes. fit_same (registers_of p f.fn) x args b.func (uncounted_func b.new) b.is.params b.is.regs b.is.ret ∙ yes) (
                0,
                record {
                  block = 0;
                  waiting = record { frame = h; into = x } ∷ waiting;
                  is = ap (λ ds. Runs (record { fn = k; block = 0; place = 0; regs = first_regs ds xs }) (record { frame = h; into = x } ∷ waiting) w) b.is.regs;
                  known = record { at = b; known = λ z there. first_stands b.func b.new b.is };
                  wait = ((n, refl, known), wait);
                },
              ))),
        )))

    calls_matches : (x : Reg) (args : List Reg) (k : Option ℕ) → Meets (calls p x args f below w k) (calls r x args h waiting w k)
    calls_matches x args k =
        at_calm w.pending _ _ (at_some k k _ _ refl (λ a e. enters_matches x args a))

    method_same : (v : Value) (entry : CClass → Option (List ℕ)) → method_of r w v entry ≡ method_of p w v entry
    method_same v entry = by (option_and_then (λ c. option_and_then entry (slice_get p.classes c)) (class_of w.store v))
      where
        by : (o : Option (List ℕ)) → option_and_then (function_called r) o ≡ option_and_then (function_called p) o
        by None = refl
        by (Some id) = called id

    method_matches : (x o : Reg) (args : List Reg) (entry : CClass → Option (List ℕ)) → Meets (calls_method p x o args f below w entry) (calls_method r x o args h waiting w entry)
    method_matches x o args entry =
        at_some (read (registers_of p f.fn) f.regs o) (read (registers_of r f.fn) f.regs o) _ _ (ap (λ ds. read ds f.regs o) (registers f.fn))
        (λ v e. subst (λ k. Meets (calls p x (o ∷ args) f below w (method_of p w v entry)) (calls r x (o ∷ args) h waiting w k)) (sym (method_same v entry)) (calls_matches x (o ∷ args) (method_of p w v entry)))

    -- ---- operations
    succeeds_matches : (e : Edge) (regs : Regs) (v : World) → Meets (succeeds Fitting p e f below regs v) (succeeds Fitting r e h waiting regs v)
    succeeds_matches e regs v = at_cond (is_clear e v.pending) _ _ (goes_on f n known below waiting wait regs v)

    applied_matches : (e : Edge) (x : Option Reg) (c : Effect) → Meets (applied Fitting p e x f below c) (applied Fitting r e x h waiting c)
    applied_matches e None Wrong = (0, tt)
    applied_matches e (Some x) Wrong = (0, tt)
    applied_matches e None (Gives v u) = (0, tt)
    applied_matches e (Some x) (Gives v u) =
        at_some (type_of_reg (registers_of p f.fn) x) (type_of_reg (registers_of r f.fn) x) _ _ (ap (λ ds. type_of_reg ds x) (registers f.fn)) (λ t y. succeeds_matches e (put f.regs x.0 (Holds v)) u)
    applied_matches e None (Acts u) = succeeds_matches e f.regs u
    applied_matches e (Some x) (Acts u) = (0, tt)
    applied_matches e None (Fails y u) = failed_matches f n known below waiting wait e f.regs (record u { pending = Some y })
    applied_matches e (Some x) (Fails y u) =
        at_some (type_of_reg (registers_of p f.fn) x) (type_of_reg (registers_of r f.fn) x) _ _ (ap (λ ds. type_of_reg ds x) (registers f.fn)) (λ t z. failed_matches f n known below waiting wait e (put f.regs x.0 (error_of t)) (record u { pending = Some y }))
    applied_matches e None (Ends y u) = (0, refl)
    applied_matches e (Some x) (Ends y u) = (0, refl)
    applied_matches e None (IfTarget k y) = (0, tt)
    applied_matches e (Some x) (IfTarget k y) = (0, tt)
    applied_matches e None (IfWritten k y) = (0, tt)
    applied_matches e (Some x) (IfWritten k y) = (0, tt)

    turned_matches : (t : ℕ) → Meets (turned f below w t) (turned h waiting w t)
    turned_matches zero = (0, refl)
    turned_matches (suc t) = goes_on f n known below waiting wait f.regs (record w { turns = t })

    op_matches : (o : Op) → Meets (do_op Fitting p o f below w) (do_op Fitting r o h waiting w)
    op_matches (Move x y) =
        by_regs f.fn (do_op Fitting p (Move x y) f below w) (λ ds. if_some (type_of_reg ds y) (λ t. cond (is_refused Fitting t (f.regs y.0)) Stuck (if_some (type_of_reg ds x) (λ u. goes h waiting (put f.regs x.0 (f.regs y.0)) w))))
        (at_some (type_of_reg (registers_of p f.fn) y) (type_of_reg (registers_of p f.fn) y) _ _ refl
        (λ t e. at_refused (is_refused Fitting t (f.regs y.0)) _ _ (at_some (type_of_reg (registers_of p f.fn) x) (type_of_reg (registers_of p f.fn) x) _ _ refl (λ u d. goes_on f n known below waiting wait (put f.regs x.0 (f.regs y.0)) w))))
    op_matches (Lit x l) =
        at_some (type_of_reg (registers_of p f.fn) x) (type_of_reg (registers_of r f.fn) x) _ _ (ap (λ ds. type_of_reg ds x) (registers f.fn))
        (λ t e. at_some (literal_of t l) (literal_of t l) (λ v. goes f below (put f.regs x.0 v) w) (λ v. goes h waiting (put f.regs x.0 v) w) refl (λ v d. goes_on f n known below waiting wait (put f.regs x.0 v) w))
    op_matches (Prim x c args) =
        by_regs f.fn (do_op Fitting p (Prim x c args) f below w) (λ ds. cond (may_stand w.pending c) (if_some (arguments ds f.regs args) (λ xs. applied Fitting r (edge_of_prim ds x c) x h waiting (typed ds x args (effect p c xs w)))) Stuck)
        (at_cond (may_stand w.pending c) _ _
        (at_some (arguments (registers_of p f.fn) f.regs args) (arguments (registers_of p f.fn) f.regs args) _ _ refl
        (λ xs e. applied_matches (edge_of_prim (registers_of p f.fn) x c) x (typed (registers_of p f.fn) x args (effect p c xs w)))))
    op_matches (Call x k args) = calls_matches x args (Some k)
    op_matches (Virtual x o k args) = method_matches x o args (method_at k)
    op_matches (TraitCall x o t k args) =
        at_some (trait_name p t) (trait_name p t) _ _ refl (λ name e. method_matches x o args (trait_method_at name k))
    op_matches Turn = at_calm w.pending _ _ (turned_matches w.turns)
    op_matches (Inc x) =
        at_some (read (registers_of p f.fn) f.regs x) (read (registers_of r f.fn) f.regs x) _ _ (ap (λ ds. read ds f.regs x) (registers f.fn)) (λ v e. goes_on f n known below waiting wait f.regs w)
    op_matches (Dec x) =
        at_some (read (registers_of p f.fn) f.regs x) (read (registers_of r f.fn) f.regs x) _ _ (ap (λ ds. read ds f.regs x) (registers f.fn)) (λ v e. goes_on f n known below waiting wait f.regs w)
    op_matches (XDec x) =
        at_some (look (registers_of p f.fn) f.regs x) (look (registers_of r f.fn) f.regs x) _ _ (ap (λ ds. look ds f.regs x) (registers f.fn)) (λ v e. goes_on f n known below waiting wait f.regs w)

    -- ---- a step
    act_matches : (o : Option Item) → Meets (act Fitting p o f below w) (act Fitting r (led_item (to f.fn known.at) o) h waiting w)
    act_matches None = (0, tt)
    act_matches (Some (Do o line)) = op_matches o
    act_matches (Some (End l)) = last_matches l

    run_step : Meets (step Fitting p (Runs f below w)) (step Fitting r (Runs h waiting w))
    run_step = by (slice_get known.at.func.blocks f.block) refl
      where
        by : (o : Option Block) → slice_get known.at.func.blocks f.block ≡ o → Meets (step Fitting p (Runs f below w)) (step Fitting r (Runs h waiting w))
        by None none =
            subst (λ c. Meets c (step Fitting r (Runs h waiting w))) (sym (ap (λ z. act Fitting p z f below w) (item_old f.fn known.at f.block f.place None none))) (0, tt)
        by (Some b) is =
            let item : item_at r f.fn n f.place ≡ led_item (to f.fn known.at) (item_at p f.fn f.block f.place) = ap (λ k. item_at r f.fn k f.place) (known.known b is) ∙ item_new f.fn known.at f.block f.place b is in
            subst (λ z. Meets (step Fitting p (Runs f below w)) (act Fitting r z h waiting w)) (sym item) (act_matches (item_at p f.fn f.block f.place))

  pub step_matches : (c d : Config) → Matches c d → Meets (step Fitting p c) (step Fitting r d)
  step_matches (Runs f below w) d m =
      subst (λ z. Meets (step Fitting p (Runs f below w)) (step Fitting r z)) (sym m.is) (run_step f m.block m.known below m.waiting m.wait w)
  step_matches (Leaves fn below w) d m = absurd m
  step_matches (Ended e w) d m = (0, ap (step Fitting r) m)
  step_matches Stuck d m = (0, tt)
