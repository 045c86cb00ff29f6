-- The group of a call begins with its line: nothing is taken before it.
use Rattle.std.proofs.Common.{◌≡◌, refl, sym, ◌∙◌, ap, subst, ℕ, zero, suc, ◌+◌, ◌-◌, ◌<◌, ◌≤◌, arith, Bool, true, false, cond, List, [], ◌∷◌, ◌++◌, drop, length, Some, None, ◌⊎◌, ⊎_elim, inl, inr}
use Rattle.std.specs.Prelude.{slice_get}
use Rattle.c_core.specs.Cells.{times}
use Rattle.c_core.specs.declared.code.Line.{Line}
use Rattle.ir_core.specs.declared.code.Op.{Op}
use Rattle.ir_core.specs.declared.code.Op.TheVariants.{Move, Lit, Prim, Call, Virtual, TraitCall, Turn, Inc, Dec, XDec}
use Rattle.ir_core.specs.declared.code.Last.{Last}
use Rattle.ir_core.specs.declared.code.Block.{Block}
use Rattle.ir_core.specs.declared.code.Func.{Func}
use Rattle.ir_core.specs.declared.code.Program.{Program}
use Rattle.ir_core.specs.Items.{Item, Do, in_block, item_of, item_in}
use Rattle.ir_core.specs.Lower.{label_before, line_of, op_lines, lines_from}
use Rattle.c_core_ownership_laws.specs.Order.{from}
use Rattle.liveness.specs.Paths.{write_of, is_target, passes, LiveAt, goes_on, BorrowedAt}
use Rattle.refcount_insert_rule.specs.Rule.{takes, counts_before, ups, downs, IsGroup}
use Rattle.refcount_insert_rule.specs.Counted.{Tables, counts_register, owned, AreGroups, IsCountedFunc}
use Rattle.refcount_insert_order_laws.specs.Places.{operations_before, NewBlock, group_place}
use Rattle.refcount_insert_order_laws.specs.Laws.{is_call}
use Rattle.refcount_insert_order_laws.proofs.Equations.{counted_there, one_tells, one_here, item_next, owned_from, few_owned}
use Rattle.refcount_insert_order_laws.proofs.Numbers.{same_self}
use Rattle.refcount_insert_order_laws.proofs.GroupPlaces.{from_twice}

-- ---- lists
drop_behind : {A : Type 0} (xs ys : List A) (n : ℕ) → drop (length xs + n) (xs ++ ys) ≡ drop n ys
drop_behind [] ys n = let e : 0 + n ≡ n = omega arith in ap (λ i. drop i ys) e
drop_behind (x ∷ xs) ys n =
    let e : suc (length xs) + n ≡ suc (length xs + n) = omega arith in
    ap (λ i. drop i (x ∷ (xs ++ ys))) e ∙ drop_behind xs ys n

first_dropped : {A : Type 0} (xs : List A) (n : ℕ) → slice_get xs n ≡ slice_get (drop n xs) 0
first_dropped xs zero = refl
first_dropped [] (suc n) = refl
first_dropped (x ∷ xs) (suc n) = first_dropped xs n

first_from : (ls : List Line) (n : ℕ) → slice_get ls n ≡ slice_get (from n ls) 0
first_from ls zero = refl
first_from [] (suc n) = refl
first_from (l ∷ ls) (suc n) = first_from ls n

get_before : {A : Type 0} (xs ys : List A) (n : ℕ) (x : A) → slice_get xs n ≡ Some x → slice_get (xs ++ ys) n ≡ Some x
get_before [] ys n x e = let f : None ≡ Some x = e in absurd (cc)
get_before (y ∷ xs) ys zero x e = e
get_before (y ∷ xs) ys (suc n) x e = get_before xs ys n x e

get_line : (q : Program) (ops : List (Op × ℕ)) (n : ℕ) (o : Op × ℕ) → slice_get ops n ≡ Some o → slice_get (op_lines q ops) n ≡ Some (line_of q o.0)
get_line q [] n o e = let f : None ≡ Some o = e in absurd (cc)
get_line q (x ∷ ops) zero o e =
    let f : Some x ≡ Some o = e in
    let same : x ≡ o = cc in
    ap (λ (z : Op × ℕ). Some (line_of q z.0)) same
get_line q (x ∷ ops) (suc n) o e = get_line q ops n o e

get_item : (ops : List (Op × ℕ)) (last : Last) (n : ℕ) (o : Op × ℕ) → slice_get ops n ≡ Some o → in_block ops last n ≡ Some (Do o.0 o.1)
get_item [] last n o e = let f : None ≡ Some o = e in absurd (cc)
get_item (x ∷ ops) last zero o e =
    let f : Some x ≡ Some o = e in
    let same : x ≡ o = cc in
    ap (λ (z : Op × ℕ). Some (Do z.0 z.1)) same
get_item (x ∷ ops) last (suc n) o e = get_item ops last n o e

none_times : (xs : List ℕ) → ((r : ℕ) → times xs r ≡ 0) → xs ≡ []
none_times [] none = refl
none_times (x ∷ xs) none = absurd (omega (arith, none x, same_self x))

-- ---- what is taken before a call
takes_none : (o : Op) (r : ℕ) → is_call o ≡ true → takes o r ≡ 0
takes_none (Call x n args) r e = refl
takes_none (Virtual x b n args) r e = refl
takes_none (TraitCall x b t n args) r e = refl
takes_none (Move x y) r e = absurd (cc)
takes_none (Lit x l) r e = absurd (cc)
takes_none (Prim to q args) r e = absurd (cc)
takes_none Turn r e = absurd (cc)
takes_none (Inc x) r e = absurd (cc)
takes_none (Dec x) r e = absurd (cc)
takes_none (XDec x) r e = absurd (cc)

some_or_none : (n : ℕ) → (1 ≤ n) ⊎ (n ≡ 0)
some_or_none zero = inr refl
some_or_none (suc n) = inl (omega arith)

module _ (f : Func) (t : Tables f) where
  -- what is owned behind an operation that does not write it is owned before
  owned_before : (b p r : ℕ) (o : Op) {line : ℕ} → item_in f.blocks b p ≡ Some (Do o line) → is_target (write_of o) r ≡ false → owned f t b (suc p) r ≤ owned f t b p r
  owned_before b p r o {line} e off = ⊎_elim some (λ none. omega (arith, none)) (some_or_none (owned f t b (suc p) r))
    where
      some : 1 ≤ owned f t b (suc p) r → owned f t b (suc p) r ≤ owned f t b p r
      some le =
          let tells = one_tells (counts_register f.regs r) (t.live b (suc p) r) (t.lent b (suc p) r) le in
          let inside : r < length f.regs = counted_there f.regs r tells.0 in
          let behind = item_next (slice_get f.blocks b) p o e in
          let later : LiveAt f r b (suc p) = (t.is_live b (suc p) r behind.0 behind.1 inside).0 tells.1 in
          let live : t.live b p r ≡ true = (t.is_live b p r (Do o line) e inside).1 (goes_on b p b (suc p) (Do o line) e off (passes b p o e) later) in
          let here = one_here (counts_register f.regs r) (t.live b p r) (t.lent b p r) tells.0 live (free (t.lent b p r) refl behind.0 behind.1 inside tells.2) in
          omega (arith, here, few_owned f t b (suc p) r)
        where
          free : (l : Bool) → t.lent b p r ≡ l → (i : Item) → item_in f.blocks b (suc p) ≡ Some i → r < length f.regs → t.lent b (suc p) r ≡ false → t.lent b p r ≡ false
          free false is i there inside later = is
          free true is i there inside later =
              let borrowed : BorrowedAt f r b p = (t.is_lent b p r (Do o line) e inside).0 is in
              let also : t.lent b (suc p) r ≡ true = (t.is_lent b (suc p) r i there inside).1 (λ own. borrowed (owned_from f r b p b (suc p) o e off own refl refl)) in
              let both : true ≡ false = sym also ∙ later in
              absurd (cc)

  none_before : (b p : ℕ) (o : Op) {line : ℕ} → item_in f.blocks b p ≡ Some (Do o line) → is_call o ≡ true → (r : ℕ) → counts_before (counts_register f.regs) o (owned f t b p) (owned f t b (suc p)) r ≡ 0
  none_before b p o e call r =
      by (counts_register f.regs r) (takes o r + cond (is_target (write_of o) r) 0 (owned f t b (suc p) r) - owned f t b p r) (needed (is_target (write_of o) r) refl)
    where
      by : (c : Bool) (n : ℕ) → n ≡ 0 → cond c n 0 ≡ 0
      by true n e = e
      by false n e = refl

      needed : (w : Bool) → is_target (write_of o) r ≡ w → takes o r + cond w 0 (owned f t b (suc p) r) - owned f t b p r ≡ 0
      needed true is = omega (arith, takes_none o r call)
      needed false is = omega (arith, takes_none o r call, owned_before b p r o e is)

-- ---- groups by the numbers of their operations
group_at : (f : Func) (t : Tables f) (number : ℕ → ℕ) (at : ℕ → ℕ → ℕ) (old ops : List (Op × ℕ)) (h : AreGroups f t number at old ops) (i : ℕ) (o : Op × ℕ) → slice_get old i ≡ Some o → (group : List (Op × ℕ)) × (rest : List (Op × ℕ)) × (drop (operations_before f t number at old ops h i) ops ≡ group ++ rest) × IsGroup (counts_register f.regs) o (at i) (at (suc i)) group
group_at f t number at [] ops h i o e = let g : None ≡ Some o = e in absurd (cc)
group_at f t number at (x ∷ old) ops h zero o e =
    let g : Some x ≡ Some o = e in
    let same : x ≡ o = cc in
    (h.0, h.1, h.2, subst (λ z. IsGroup (counts_register f.regs) z (at 0) (at 1) h.0) same h.3)
group_at f t number at (x ∷ old) ops h (suc i) o e =
    let more = group_at f t number (λ p. at (suc p)) old h.1 h.4 i o e in
    let before : ℕ = operations_before f t number (λ p. at (suc p)) old h.1 h.4 i in
    (more.0, more.1, ap (drop (length h.0 + before)) h.2 ∙ (drop_behind h.0 h.1 before ∙ more.2), more.3)

-- ---- the line of a call is the first of its group
pub call_line : (q : Program) (f g : Func) (c : IsCountedFunc f g) (b : ℕ) (k : Block) → slice_get f.blocks b ≡ Some k → (h : NewBlock q f g c b k) (i : ℕ) (o : Op × ℕ) → slice_get h.front i ≡ Some o → is_call o.0 ≡ true → slice_get (lines_from q 0 g.blocks) (group_place h i) ≡ Some (line_of q o.0)
call_line q f g c b k is h i o at call =
    let group = group_at f c.tables c.number (owned f c.tables b) h.front h.groups h.are i o at in
    let found : IsGroup (counts_register f.regs) o (owned f c.tables b i) (owned f c.tables b (suc i)) group.0 = group.3 in
    let before : ℕ = operations_before f c.tables c.number (owned f c.tables b) h.front h.groups h.are i in
    let first : ℕ = h.label + length (label_before (c.number b)) in
    let lines : List Line = lines_from q 0 g.blocks in
    let old : slice_get k.ops i ≡ Some o = ⊎_elim (λ same. ap (λ z. slice_get z i) same ∙ at) (λ turn. ap (λ z. slice_get z i) turn.4 ∙ get_before h.front _ i o at) h.is_front in
    let item : item_in f.blocks b i ≡ Some (Do o.0 o.1) = ap (λ z. item_of z i) is ∙ get_item k.ops k.last i o old in
    let none : found.up ≡ [] = none_times found.up (λ r. found.before r ∙ none_before f c.tables b i o.0 item call r) in
    let begins : group.0 ≡ o ∷ downs found.down o.1 = found.is ∙ ap (λ u. ups u o.1 ++ (o ∷ downs found.down o.1)) none in
    let in_groups : slice_get h.groups before ≡ Some o = first_dropped h.groups before ∙ (ap (λ z. slice_get z 0) group.2 ∙ ap (λ z. slice_get (z ++ group.1) 0) begins) in
    let in_main : slice_get h.main.ops before ≡ Some o = ap (λ z. slice_get z before) h.split ∙ get_before h.groups h.others before o in_groups in
    let in_text : slice_get (op_lines q h.main.ops ++ h.rest) before ≡ Some (line_of q o.0) = get_before (op_lines q h.main.ops) h.rest before (line_of q o.0) (get_line q h.main.ops before o in_main) in
    first_from lines (first + before)
    ∙ (ap (λ z. slice_get z 0) (sym (from_twice lines first before))
    ∙ (ap (λ z. slice_get (from before z) 0) h.lines
    ∙ (sym (first_from (op_lines q h.main.ops ++ h.rest) before) ∙ in_text)))
