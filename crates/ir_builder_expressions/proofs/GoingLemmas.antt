-- A chain of comparisons while it is emitted from the left.
use Rattle.ir_builder_expressions.proofs.Common.{◌≡◌, sym, ◌∙◌, ap, subst, ℕ, ◌+◌, ◌-◌, ◌<◌, ◌≤◌, arith, true, List, [], ◌∷◌, ◌++◌, length, map, take, drop, get_or, drop_more, drop_all, take_all, CmpOp, TExpr, Sort, Comparisons, type_of, typed_expr, comparisons_of, typed_comparison, type_at, Reg, Lit, Building, Extends, Setting, rtype_of, HasType, Adds, HasRoom, Shows, Attempts, extends_trans, type_kept, room_on, ActsOnTwo, Link, Side, is_ordering, Suits, ComparisonsSuit, literal_of_truth, is_scalar, is_pair, kind_sort, is_shown_as, holds_as, EmitsSide, EmitsChain, Begins, Linked, Pending, Ended}
use Rattle.py_typed.specs.Sorts as sort
use Rattle.py_typed.specs.Sorts.{sort as sort_of}
use Rattle.ir_core.specs.declared.code.RType.TheVariants as rtype
use Rattle.ir_builder_expressions.proofs.LinkLemmas.{pending_snoc, pending_more, ended_last}
use Rattle.ir_builder_expressions.proofs.ChainLemmas.{EmitsRest, chain_done, rest_done, rest_more, chain_from}

abbrev pub Chain : Type 0
Chain = List (CmpOp × TExpr)

abbrev chain_of : Chain → Comparisons
chain_of cs = comparisons_of (map typed_comparison cs)

-- the code of a chain behind an operand
abbrev pub EmitsFrom : Setting → Side → Chain → Building → Building → ℕ → Type 0
EmitsFrom x first cs b c r = EmitsChain x (kind_sort first.own) (kind_sort first.shown) first.reg.0 (chain_of cs) b c r

-- the comparisons before the rest were emitted, and their choices wait: what is emitted for the rest makes the whole chain
pub record Going (x : Setting) (first : Side) (whole more : Chain) (start b : Building) (links : List Link) (left : Side) (holds : Reg) : Type 0 where
  pub kept : Extends start b
  pub pending : Pending start links b
  pub operand : HasType b left.reg.0 (rtype_of (kind_sort left.shown))
  pub shown : is_shown_as (kind_sort left.own) (kind_sort left.shown) ≡ true
  pub flag : HasType b holds.0 rtype.Bool
  pub suits : ComparisonsSuit x.source x.variables (kind_sort left.own) (chain_of more)
  pub ends : (c d : Building) (q r : ℕ) → EmitsRest x (kind_sort left.own) (kind_sort left.shown) left.reg.0 holds.0 (chain_of more) b c q → Ended links c q d r → EmitsChain x (kind_sort first.own) (kind_sort first.shown) first.reg.0 (chain_of whole) start d r

-- the code of a comparison, behind that of its right operand
abbrev Compares : CmpOp → Side → Side → Building → Building → ℕ → Type 0
Compares op left right b c r = Attempts (Shows sort.Bool) b c r rtype.Bool (ActsOnTwo (kind_sort left.shown) (kind_sort right.shown) left.reg.0 right.reg.0 (holds_as op (kind_sort left.own) (kind_sort right.own)))

-- one comparison, and what comes behind it
one_more : (x : Setting) (left right : Side) (p : CmpOp × TExpr) (more : Chain) (b0 b1 b2 b3 : Building) (holds : Reg) (r : ℕ) → HasRoom x b0 → HasType b0 left.reg.0 (rtype_of (kind_sort left.shown)) → EmitsSide x (typed_expr p.1) right b0 b1 → Compares p.0 left right b1 b2 holds.0 → EmitsRest x (kind_sort right.own) (kind_sort right.shown) right.reg.0 holds.0 (chain_of more) b2 b3 r → EmitsChain x (kind_sort left.own) (kind_sort left.shown) left.reg.0 (chain_of (p ∷ more)) b0 b3 r
one_more x left right p more b0 b1 b2 b3 holds r room type ce made rest =
    let P : Sort → Type 0 = λ t. Attempts (Shows sort.Bool) b1 b2 holds.0 rtype.Bool (ActsOnTwo (kind_sort left.shown) (kind_sort right.shown) left.reg.0 right.reg.0 (holds_as p.0 (kind_sort left.own) t)) in
    let Q : Sort → Type 0 = λ t. EmitsRest x t (kind_sort right.shown) right.reg.0 holds.0 (chain_of more) b2 b3 r in
    chain_from x (kind_sort left.own) (kind_sort left.shown) (kind_sort right.shown) left.reg.0 p.0 (typed_expr p.1) (chain_of more) b0 b1 b2 b3 right.reg.0 holds.0 r room type ce.emits (subst P ce.own made) (subst Q ce.own rest)

-- what is asked of the rest
rest_suits : (x : Setting) (s : Sort) (right : Side) (p : CmpOp × TExpr) (more : Chain) (b c : Building) → EmitsSide x (typed_expr p.1) right b c → ComparisonsSuit x.source x.variables s (chain_of (p ∷ more)) → ComparisonsSuit x.source x.variables (kind_sort right.own) (chain_of more)
rest_suits x s right p more b c ce h = subst (λ t. ComparisonsSuit x.source x.variables t (chain_of more)) (sym ce.own) h.4

pub going_first : (x : Setting) (first : Side) (p : CmpOp × TExpr) (more : Chain) (start b1 b2 : Building) (left : Side) (holds : Reg) → ComparisonsSuit x.source x.variables (kind_sort first.own) (chain_of (p ∷ more)) → HasRoom x start → HasType start first.reg.0 (rtype_of (kind_sort first.shown)) → EmitsSide x (typed_expr p.1) left start b1 → Compares p.0 first left b1 b2 holds.0 → Going x first (p ∷ more) more start b2 [] left holds
going_first x first p more start b1 b2 left holds suits room type ce made = record {
  kept = extends_trans start b1 b2 ce.emits.extends made.extends;
  pending = extends_trans start b1 b2 ce.emits.extends made.extends;
  operand = type_kept b1 b2 left.reg.0 (rtype_of (kind_sort left.shown)) made.extends ce.emits.type;
  shown = ce.shown;
  flag = made.type;
  suits = rest_suits x (kind_sort first.own) left p more start b1 ce suits;
  ends = λ c d q r rest ended.
      let chain = one_more x first left p more start b1 b2 c holds q room type ce made rest in
      rw (ended.0, ended.1) chain;
}

pub going_on : (x : Setting) (first : Side) (whole : Chain) (p : CmpOp × TExpr) (more : Chain) (start b b1 b2 b3 : Building) (links links' : List Link) (left : Side) (holds : Reg) (left' : Side) (holds' : Reg) → HasRoom x start → Going x first whole (p ∷ more) start b links left holds → Linked b b1 links links' holds → EmitsSide x (typed_expr p.1) left' b1 b2 → Compares p.0 left left' b2 b3 holds'.0 → Going x first whole more start b3 links' left' holds'
going_on x first whole p more start b b1 b2 b3 links links' left holds left' holds' room g linked ce made =
    let l : Link = record { choice = linked.0; holds = holds } in
    let x01 = extends_trans start b b1 g.kept linked.2.extends in
    let x13 = extends_trans b1 b2 b3 ce.emits.extends made.extends in
    let begins : Begins b b1 l = record { holds = g.flag; opens = linked.2 } in
    let P : List Link → Type 0 = λ z. Pending start z b3 in
    record {
      kept = extends_trans start b1 b3 x01 x13;
      pending = subst P (sym linked.1) (pending_more start (links ++ l ∷ []) b1 b3 (pending_snoc start links l b b1 g.pending begins) x13);
      operand = type_kept b2 b3 left'.reg.0 (rtype_of (kind_sort left'.shown)) made.extends ce.emits.type;
      shown = ce.shown;
      flag = made.type;
      suits = rest_suits x (kind_sort left.own) left' p more b1 b2 ce g.suits;
      ends = λ c d q r rest ended.
          let Q : List Link → Type 0 = λ z. Ended z c q d r in
          let last = ended_last links l c q d r (subst Q linked.1 ended) in
          let met = last.1 in
          let chain = one_more x left left' p more b1 b2 b3 c holds' q (room_on x start b1 x01 room) (type_kept b b1 left.reg.0 (rtype_of (kind_sort left.shown)) linked.2.extends g.operand) ce made rest in
          g.ends last.0 d l.choice.target.0 r
          (rest_more x (kind_sort left.own) (kind_sort left.shown) left.reg.0 holds.0 (chain_of (p ∷ more)) b b1 c met.mid last.0 l.choice.target.0 l.choice.test l.choice.first met.end q g.flag linked.2 chain met.brings met.meets)
          last.2;
    }

-- the chain is over
pub going_ends : (x : Setting) (first : Side) (whole : Chain) (start b d : Building) (links : List Link) (left : Side) (holds : Reg) (r : ℕ) → Going x first whole [] start b links left holds → Ended links b holds.0 d r → EmitsFrom x first whole start d r
going_ends x first whole start b d links left holds r g ended = g.ends b d holds.0 r (rest_done x (kind_sort left.own) (kind_sort left.shown) left.reg.0 holds.0 b g.flag) ended

-- the next comparison of the rest
pub next_of : (cs : Chain) (i : ℕ) (p : CmpOp × TExpr) → i < length cs → p ≡ get_or cs i p → drop i cs ≡ p ∷ drop (i + 1) cs
next_of cs i p lt is = drop_more cs i p lt ∙ ap (λ z. z ∷ drop (i + 1) cs) (sym is)

pub going_at : (x : Setting) (first : Side) (whole cs : Chain) (i : ℕ) (p : CmpOp × TExpr) (start b : Building) (links : List Link) (left : Side) (holds : Reg) → i < length cs → p ≡ get_or cs i p → Going x first whole (drop i cs) start b links left holds → Going x first whole (p ∷ drop (i + 1) cs) start b links left holds
going_at x first whole cs i p start b links left holds lt is g =
    let P : Chain → Type 0 = λ z. Going x first whole z start b links left holds in
    subst P (next_of cs i p lt is) g

-- ---- the chain as the code goes over it

pub going_start : (x : Setting) (first : Side) (rest : Chain) (p q : CmpOp × TExpr) (start b1 b2 : Building) (links : List Link) (left : Side) (holds : Reg) → 1 ≤ length rest → links ≡ [] → ComparisonsSuit x.source x.variables (kind_sort first.own) (chain_of rest) → HasRoom x start → HasType start first.reg.0 (rtype_of (kind_sort first.shown)) → EmitsSide x (typed_expr (get_or rest 0 q).1) left start b1 → Compares (get_or rest 0 p).0 first left b1 b2 holds.0 → Going x first rest (take (length rest - 1) (drop 1 rest)) start b2 links left holds
going_start x first [] p q start b1 b2 links left holds n none suits room type ce made = absurd (omega arith)
going_start x first (r ∷ more) p q start b1 b2 links left holds n none suits room type ce made =
    let all : take (length (r ∷ more) - 1) more ≡ more = take_all (length (r ∷ more) - 1) more (omega arith) in
    let P : Chain → Type 0 = λ z. Going x first (r ∷ more) z start b2 links left holds in
    let Q : List Link → Type 0 = λ z. Going x first (r ∷ more) more start b2 z left holds in
    subst P (sym all) (subst Q (sym none) (going_first x first r more start b1 b2 left holds suits room type ce made))

pub going_over : (x : Setting) (first : Side) (whole cs : Chain) (i : ℕ) (start b d : Building) (links : List Link) (left : Side) (holds : Reg) (r : ℕ) → length cs ≤ i → Going x first whole (drop i cs) start b links left holds → Ended links b holds.0 d r → EmitsFrom x first whole start d r
going_over x first whole cs i start b d links left holds r le g ended =
    let P : Chain → Type 0 = λ z. Going x first whole z start b links left holds in
    going_ends x first whole start b d links left holds r (subst P (drop_all i cs le) g) ended

pub chain_empty : {line : ℕ} (x : Setting) (first : Side) (rest : Chain) (b c : Building) (r : ℕ) → length rest < 1 → Adds b c r rtype.Bool (Lit record { 0 = r } (literal_of_truth true)) line → EmitsFrom x first rest b c r
chain_empty x first [] b c r lt a = chain_done x (kind_sort first.own) (kind_sort first.shown) first.reg.0 b c r a
chain_empty x first (p ∷ more) b c r lt a = absurd (omega arith)

-- what is asked of the first comparison, and of the next one
asked_of : (x : Setting) (s : Sort) (p : CmpOp × TExpr) (more : Chain) → ComparisonsSuit x.source x.variables s (chain_of (p ∷ more)) → (is_ordering p.0 ≡ true) × (is_pair s (type_of (typed_expr p.1)) ≡ true) × (is_scalar (sort_of p.1.ty) ≡ true) × Suits x.source x.variables (typed_expr p.1)
asked_of x s p more h = (h.0, h.1, subst (λ t. is_scalar t ≡ true) (type_at p.1) h.2, h.3)

pub first_suits : (x : Setting) (s : Sort) (rest : Chain) (p q : CmpOp × TExpr) → 1 ≤ length rest → ComparisonsSuit x.source x.variables s (chain_of rest) → (is_ordering (get_or rest 0 p).0 ≡ true) × (is_pair s (type_of (typed_expr (get_or rest 0 q).1)) ≡ true) × (is_scalar (sort_of (get_or rest 0 q).1.ty) ≡ true) × Suits x.source x.variables (typed_expr (get_or rest 0 q).1)
first_suits x s [] p q n h = absurd (omega arith)
first_suits x s (r ∷ more) p q n h = asked_of x s r more h

pub item_suits : (x : Setting) (s : Sort) (cs : Chain) (i : ℕ) (p : CmpOp × TExpr) → i < length cs → p ≡ get_or cs i p → ComparisonsSuit x.source x.variables s (chain_of (drop i cs)) → (is_ordering p.0 ≡ true) × (is_pair s (type_of (typed_expr p.1)) ≡ true) × (is_scalar (sort_of p.1.ty) ≡ true) × Suits x.source x.variables (typed_expr p.1)
item_suits x s cs i p lt is h =
    let P : Chain → Type 0 = λ z. ComparisonsSuit x.source x.variables s (chain_of z) in
    asked_of x s p (drop (i + 1) cs) (subst P (next_of cs i p lt is) h)
