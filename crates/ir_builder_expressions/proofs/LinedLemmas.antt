-- How the lines of the code of an expression come from those of its parts.
use Rattle.std.proofs.Common.{Result, Ok, Err, IfOk, OnOk}
use Rattle.ir_builder_expressions.proofs.Common.{◌≡◌, refl, sym, ◌∙◌, ap, subst, ℕ, ◌+◌, ◌-◌, ◌<◌, ◌≤◌, arith, take, take_all, Bor, arm_of, List, [], ◌∷◌, ◌++◌, length, map, drop, get_or, Option, Some, None, ℤ, drop_more, drop_all, CmpOp, TExpr, TypedExpr, TypedNode, typed, typed_expr, typed_node, typed_expr_of, type_of, exprs_of, comparisons_of, typed_comparison, Building, Extends, Program, Setting, Has, has_less, Meets, Link, Ended, Emits, EmitsSide, Side, kind_sort, literal_in, Unary, Applied, option_map, absence_in, applied_in, node_in}
use Rattle.py_typed.specs.Expressions as tree
use Rattle.ir_builder_expressions.specs.Applying as operation
use Rattle.ir_builder_frames.specs.Lines.{OwnLines}
use Rattle.ir_builder_expressions.specs.Lined.{listed, operands_in, parts_in_arm, parts_applied, operands_behind, parts_of, IsCodeOf, Around, Lined, LinedParts, lined, own, part}
use Rattle.ir_builder_expressions.proofs.ArmLemmas.{Is}
use Rattle.ir_builder_expressions.proofs.GoingLemmas.{next_of}

pub always : {A E : Type 0} (res : Result A E) (P : Type 0) → P → OnOk res P
always (Ok a) P h = h
always (Err e) P h = tt

pub ok_lined : {A E : Type 0} (res : Result A E) (P : A → Type 0) (Q R : Type 0) → ((a : A) → P a → Q → R) → IfOk res P → OnOk res Q → OnOk res R
ok_lined (Ok a) P Q R f p q = f a p q
ok_lined (Err e) P Q R f p q = tt

pub ok_to : {A E : Type 0} (res : Result A E) (P : A → Type 0) (Q : Type 0) → ((a : A) → P a → Q) → IfOk res P → OnOk res Q
ok_to (Ok a) P Q f h = f a h
ok_to (Err e) P Q f h = tt

-- ---- stretches one behind the other

pub around_by : (l : ℕ) (a b : Building) → Extends a b → OwnLines l a b → Around l a b
around_by l a b kept p = record { lines = p; stays = λ q fn h. has_less q fn a b kept h }

pub around_none : (l : ℕ) (a : Building) → Around l a a
around_none l a = record { lines = λ k i x other at. at; stays = λ q fn h. h }

pub around_both : (l : ℕ) (a b c : Building) → Around l a b → Around l b c → Around l a c
around_both l a b c p q = record { lines = λ k i x other at. p.lines k i x other (q.lines k i x other at); stays = λ r fn h. p.stays r fn (q.stays r fn h) }

pub lined_behind : {x : Setting} {l : ℕ} {es : List TypedExpr} {a b c : Building} → Around l a b → LinedParts x l es b c → LinedParts x l es a c
lined_behind {l = l} {a = a} {b = b} {c = c} p (own q) = own (around_both l a b c p q)
lined_behind {l = l} {a = a} {b = b} p (part q code one rest) = part (around_both l a b _ p q) code one rest

pub lined_join : {x : Setting} {l : ℕ} {es fs : List TypedExpr} {a b c : Building} → LinedParts x l es a b → LinedParts x l fs b c → LinedParts x l (es ++ fs) a c
lined_join (own p) q = lined_behind p q
lined_join (part p code one rest) q = part p code one (lined_join rest q)

pub lined_then : {x : Setting} {l : ℕ} {es : List TypedExpr} {a b c : Building} → LinedParts x l es a b → Around l b c → LinedParts x l es a c
lined_then {l = l} {a = a} {b = b} {c = c} (own p) q = own (around_both l a b c p q)
lined_then (part p code one rest) q = part p code one (lined_then rest q)

pub lined_first : (x : Setting) (l : ℕ) (e : TypedExpr) (es : List TypedExpr) (a b c : Building) → IsCodeOf x e a b → Lined x e a b → LinedParts x l es b c → LinedParts x l (e ∷ es) a c
lined_first x l e es a b c code one rest = part (around_none l a) code one rest

pub lined_one : (x : Setting) (l : ℕ) (e : TypedExpr) (a b c : Building) → IsCodeOf x e a b → Lined x e a b → Extends b c → OwnLines l b c → LinedParts x l (e ∷ []) a c
lined_one x l e a b c code one kept p = lined_first x l e [] a b c code one (own (around_by l b c kept p))

pub lined_two : (x : Setting) (l : ℕ) (e f : TypedExpr) (a b c d : Building) → IsCodeOf x e a b → Lined x e a b → IsCodeOf x f b c → Lined x f b c → Extends c d → OwnLines l c d → LinedParts x l (e ∷ f ∷ []) a d
lined_two x l e f a b c d code one code' one' kept p = lined_first x l e (f ∷ []) a b d code one (lined_one x l f b c d code' one' kept p)

lined_none : (x : Setting) (l : ℕ) (a : Building) → LinedParts x l [] a a
lined_none x l a = own (around_none l a)

-- ---- a node with its parts

pub lined_node : (x : Setting) (e : TExpr) (n : TypedNode) (a b : Building) → Is e n → LinedParts x e.span.line (parts_of n) a b → Lined x (typed_expr e) a b
lined_node x e n a b is h = let P : TypedExpr → Type 0 = λ z. Lined x z a b in subst P (sym is) (lined h)

-- one that has no parts
pub lined_leaf : (x : Setting) (e : TExpr) (n : TypedNode) (a b : Building) → Is e n → parts_of n ≡ [] → Extends a b → OwnLines e.span.line a b → Lined x (typed_expr e) a b
lined_leaf x e n a b is none kept h = lined_node x e n a b is (let P : List TypedExpr → Type 0 = λ es. LinedParts x e.span.line es a b in subst P (sym none) (own (around_by e.span.line a b kept h)))

-- a chain of comparisons
pub lined_chain : (x : Setting) (e : TExpr) (p : TypedExpr) (more : tree.Comparisons) (a b : Building) → Is e (tree.Compare p more) → absence_in more ≡ None → LinedParts x e.span.line (p ∷ operands_in more) a b → Lined x (typed_expr e) a b
lined_chain x e p more a b is none h =
    let P : Option Unary → Type 0 = λ o. LinedParts x e.span.line (p ∷ operands_behind o more) a b in
    lined_node x e (tree.Compare p more) a b is (subst P (sym none) h)

-- one whose node is not looked at
pub lined_whole : (x : Setting) (e : TExpr) (a b : Building) → LinedParts x e.span.line (parts_of (node_in (typed_expr e))) a b → Lined x (typed_expr e) a b
lined_whole x e a b h =
    let is : Is e (typed_node e.kind) = typed_expr_of e e.kind refl in
    let P : List TypedExpr → Type 0 = λ es. LinedParts x e.span.line es a b in
    lined_node x e (typed_node e.kind) a b is (subst P (ap (λ z. parts_of (node_in z)) is) h)

-- a literal
literal_parts : (e : TypedExpr) (o : Option ℤ) (n : ℤ) → literal_in e ≡ o → o ≡ Some n → parts_of (node_in e) ≡ []
literal_parts (typed (tree.Int k) t place) o n is some = refl
literal_parts (typed _ t place) o n is some = let f : None ≡ Some n = is ∙ some in absurd (cc)

pub lined_literal : (x : Setting) (e : TExpr) (n : ℤ) (a b : Building) → literal_in (typed_expr e) ≡ Some n → Extends a b → OwnLines e.span.line a b → Lined x (typed_expr e) a b
lined_literal x e n a b is kept h =
    let none = literal_parts (typed_expr e) _ n is refl in
    let P : List TypedExpr → Type 0 = λ es. LinedParts x e.span.line es a b in
    lined_whole x e a b (subst P (sym none) (own (around_by e.span.line a b kept h)))

-- ---- operations on parts

-- where it is only asked whether a part is None
absence_parts : (e : TypedExpr) (more : tree.Comparisons) (p : Option Unary) (o : Applied) → option_map (λ op. operation.one op e) p ≡ Some o → e ∷ operands_behind p more ≡ parts_applied (Some o)
absence_parts e more None o is = absurd (cc)
absence_parts e more (Some op) o is = ap parts_applied is

applied_parts : (n : TypedNode) (o : Applied) → applied_in n ≡ Some o → parts_of n ≡ parts_applied (Some o)
applied_parts (tree.Compare e more) o is = absence_parts e more (absence_in more) o is
applied_parts (tree.And a b) o is = let f : None ≡ Some o = is in absurd (cc)
applied_parts (tree.Or a b) o is = let f : None ≡ Some o = is in absurd (cc)
applied_parts (tree.Cond a test b) o is = let f : None ≡ Some o = is in absurd (cc)
applied_parts (tree.ListOf es) o is = let f : None ≡ Some o = is in absurd (cc)
applied_parts (tree.TupleOf es) o is = let f : None ≡ Some o = is in absurd (cc)
applied_parts (tree.Call g es) o is = let f : None ≡ Some o = is in absurd (cc)
applied_parts (tree.Print es) o is = let f : None ≡ Some o = is in absurd (cc)
applied_parts n o is = ap parts_applied is

pub lined_applied : (x : Setting) (l : ℕ) (n : TypedNode) (o : Applied) (a b : Building) → applied_in n ≡ Some o → LinedParts x l (parts_applied (Some o)) a b → LinedParts x l (parts_of n) a b
lined_applied x l n o a b is h = let P : List TypedExpr → Type 0 = λ es. LinedParts x l es a b in subst P (sym (applied_parts n o is)) h

-- ---- arguments and chains, as the code goes over them

-- what is lined of the rest makes the whole
pub record LinedRest (x : Setting) (l : ℕ) (whole rest : List TypedExpr) (start b : Building) : Type 0 where
  pub make : (c : Building) → LinedParts x l rest b c → LinedParts x l whole start c

pub rest_start : (x : Setting) (l : ℕ) (es : List TypedExpr) (b : Building) → LinedRest x l es es b b
rest_start x l es b = record { make = λ c h. h }

rest_next : (x : Setting) (l : ℕ) (whole es : List TypedExpr) (e : TypedExpr) (start b c d : Building) → LinedRest x l whole (e ∷ es) start b → Around l b c → IsCodeOf x e c d → Lined x e c d → LinedRest x l whole es start d
rest_next x l whole es e start b c d g p code one = record { make = λ f h. g.make f (part p code one h) }

pub rest_own : (x : Setting) (l : ℕ) (whole es : List TypedExpr) (start b c : Building) → LinedRest x l whole es start b → Around l b c → LinedRest x l whole es start c
rest_own x l whole es start b c g p = record { make = λ f h. g.make f (lined_behind p h) }

abbrev pub listed_of : List TExpr → List TypedExpr
listed_of es = listed (exprs_of (map typed_expr es))

pub argument_lined : (x : Setting) (l : ℕ) (es : List TExpr) (i : ℕ) (e : TExpr) (start b c : Building) (r : ℕ) → i < length es → e ≡ get_or es i e → LinedRest x l (listed_of es) (listed_of (drop i es)) start b → Emits x (typed_expr e) b c r → Lined x (typed_expr e) b c → LinedRest x l (listed_of es) (listed_of (drop (i + 1) es)) start c
argument_lined x l es i e start b c r lt is g code one =
    let d : drop i es ≡ e ∷ drop (i + 1) es = drop_more es i e lt ∙ ap (λ z. z ∷ drop (i + 1) es) (sym is) in
    let P : List TExpr → Type 0 = λ z. LinedRest x l (listed_of es) (listed_of z) start b in
    rest_next x l (listed_of es) (listed_of (drop (i + 1) es)) (typed_expr e) start b b c (subst P d g) (around_none l b) (type_of (typed_expr e), r, code) one

pub object_lined : (x : Setting) (l : ℕ) (es : List TExpr) (i : ℕ) (e : TExpr) (start b c : Building) → i < length es → e ≡ get_or es i e → LinedRest x l (listed_of es) (listed_of (drop i es)) start b → LinedParts x l (typed_expr e ∷ []) b c → LinedRest x l (listed_of es) (listed_of (drop (i + 1) es)) start c
object_lined x l es i e start b c lt is g one =
    let d : drop i es ≡ e ∷ drop (i + 1) es = drop_more es i e lt ∙ ap (λ z. z ∷ drop (i + 1) es) (sym is) in
    let P : List TExpr → Type 0 = λ z. LinedRest x l (listed_of es) (listed_of z) start b in
    record { make = λ f h. (subst P d g).make f (lined_join one h) }

pub arguments_lined : (x : Setting) (l : ℕ) (es : List TExpr) (i : ℕ) (start b : Building) → length es ≤ i → LinedRest x l (listed_of es) (listed_of (drop i es)) start b → LinedParts x l (listed_of es) start b
arguments_lined x l es i start b le g =
    let P : List TExpr → Type 0 = λ z. LinedRest x l (listed_of es) (listed_of z) start b in
    let h : LinedRest x l (listed_of es) [] start b = subst P (drop_all i es le) g in
    h.make b (lined_none x l b)

abbrev Chain : Type 0
Chain = List (CmpOp × TExpr)

abbrev pub operands_of_all : Chain → List TypedExpr
operands_of_all cs = operands_in (comparisons_of (map typed_comparison cs))

operand_lined : (x : Setting) (l : ℕ) (whole : List TypedExpr) (cs : Chain) (p : CmpOp × TExpr) (start b c d : Building) (q : Side) → LinedRest x l whole (operands_of_all (p ∷ cs)) start b → Around l b c → EmitsSide x (typed_expr p.1) q c d → Lined x (typed_expr p.1) c d → LinedRest x l whole (operands_of_all cs) start d
operand_lined x l whole cs p start b c d q g before side one =
    rest_next x l whole (operands_of_all cs) (typed_expr p.1) start b c d g before (kind_sort q.shown, q.reg.0, side.emits) one

-- the first operand behind the one that the chain begins with
pub chain_started : (x : Setting) (l : ℕ) (rest : Chain) (q : CmpOp × TExpr) (start b c : Building) (left : Side) → 1 ≤ length rest → EmitsSide x (typed_expr (get_or rest 0 q).1) left start b → Lined x (typed_expr (get_or rest 0 q).1) start b → Extends b c → OwnLines l b c → LinedRest x l (operands_of_all rest) (operands_of_all (take (length rest - 1) (drop 1 rest))) start c
chain_started x l [] q start b c left n side one kept p = absurd (omega arith)
chain_started x l (r ∷ more) q start b c left n side one kept p =
    let all : take (length (r ∷ more) - 1) more ≡ more = take_all (length (r ∷ more) - 1) more (omega arith) in
    let P : Chain → Type 0 = λ z. LinedRest x l (operands_of_all (r ∷ more)) (operands_of_all z) start c in
    subst P (sym all) (rest_own x l (operands_of_all (r ∷ more)) (operands_of_all more) start b c (operand_lined x l (operands_of_all (r ∷ more)) more r start start start b left (rest_start x l (operands_of_all (r ∷ more)) start) (around_none l start) side one) (around_by l b c kept p))

pub chain_next : (x : Setting) (l : ℕ) (whole : List TypedExpr) (cs : Chain) (i : ℕ) (p : CmpOp × TExpr) (start b b1 b2 b3 : Building) (q : Side) → i < length cs → p ≡ get_or cs i p → LinedRest x l whole (operands_of_all (drop i cs)) start b → Extends b b1 → OwnLines l b b1 → EmitsSide x (typed_expr p.1) q b1 b2 → Lined x (typed_expr p.1) b1 b2 → Extends b2 b3 → OwnLines l b2 b3 → LinedRest x l whole (operands_of_all (drop (i + 1) cs)) start b3
chain_next x l whole cs i p start b b1 b2 b3 q lt is g kept before side one kept2 behind =
    let P : Chain → Type 0 = λ z. LinedRest x l whole (operands_of_all z) start b in
    rest_own x l whole (operands_of_all (drop (i + 1) cs)) start b2 b3 (operand_lined x l whole (drop (i + 1) cs) p start b b1 b2 q (subst P (next_of cs i p lt is) g) (around_by l b b1 kept before) side one) (around_by l b2 b3 kept2 behind)

-- where the choices of a chain are met, what stood before stands
ended_stays : (links : List Link) (b : Building) (r : ℕ) (c : Building) (q : ℕ) → Ended links b r c q → (p : Program) (fn : ℕ) → Has p fn c → Has p fn b
ended_stays [] b r c q e p fn h = subst (Has p fn) e.0 h
ended_stays (l ∷ links) b r c q e p fn h =
    let met = e.3 in
    ended_stays links b r e.0 e.1 e.2 p fn (has_less p fn e.0 met.mid met.brings.extends (met.meets.has p fn h))

pub chain_over : (x : Setting) (l : ℕ) (whole : List TypedExpr) (cs : Chain) (i : ℕ) (start b c : Building) (links : List Link) (r q : ℕ) → length cs ≤ i → LinedRest x l whole (operands_of_all (drop i cs)) start b → Ended links b r c q → OwnLines l b c → LinedParts x l whole start c
chain_over x l whole cs i start b c links r q le g ended p =
    let P : Chain → Type 0 = λ z. LinedRest x l whole (operands_of_all z) start b in
    let h : LinedRest x l whole [] start b = subst P (drop_all i cs le) g in
    h.make c (own record { lines = p; stays = ended_stays links b r c q ended })

pub chain_none : (x : Setting) (l : ℕ) (rest : Chain) (b c : Building) → length rest < 1 → Extends b c → OwnLines l b c → LinedParts x l (operands_of_all rest) b c
chain_none x l [] b c lt kept p = own (around_by l b c kept p)
chain_none x l (r ∷ more) b c lt kept p = absurd (omega arith)

-- ---- arms of choices

pub arm_lined : (x : Setting) (l : ℕ) (o : Option (Bor TExpr)) (e : Bor TExpr) (a b : Building) (r : ℕ) → o ≡ Some e → Emits x (typed_expr e.now) a b r → Lined x (typed_expr e.now) a b → LinedParts x l (parts_in_arm (arm_of o)) a b
arm_lined x l o e a b r is code one =
    let P : Option (Bor TExpr) → Type 0 = λ z. LinedParts x l (parts_in_arm (arm_of z)) a b in
    subst P (sym is) (lined_first x l (typed_expr e.now) [] a b b (type_of (typed_expr e.now), r, code) one (lined_none x l b))

pub arm_none : (x : Setting) (l : ℕ) (o : Option (Bor TExpr)) (a : Building) → o ≡ None → LinedParts x l (parts_in_arm (arm_of o)) a a
arm_none x l o a is = let P : Option (Bor TExpr) → Type 0 = λ z. LinedParts x l (parts_in_arm (arm_of z)) a a in subst P (sym is) (lined_none x l a)

-- the test, what begins the choice, the first arm, the turn, the second arm, and where both meet
pub choice_lined : (x : Setting) (l : ℕ) (test : TExpr) (body other : Option (Bor TExpr)) (b0 b1 b2 b3 b4 b5 b6 b7 : Building) (r target second condition place first end here : ℕ) → Emits x (typed_expr test) b0 b1 r → Lined x (typed_expr test) b0 b1 → Extends b1 b2 → OwnLines l b1 b2 → Extends b2 b3 → OwnLines l b2 b3 → LinedParts x l (parts_in_arm (arm_of body)) b3 b4 → Extends b4 b5 → OwnLines l b4 b5 → LinedParts x l (parts_in_arm (arm_of other)) b5 b6 → Meets b6 b7 target second condition place first end here → OwnLines l b6 b7 → LinedParts x l (typed_expr test ∷ (parts_in_arm (arm_of body) ++ parts_in_arm (arm_of other))) b0 b7
choice_lined x l test body other b0 b1 b2 b3 b4 b5 b6 b7 r target second condition place first end here code one k12 truth k23 begun arm k45 turned arm' meets met =
    lined_first x l (typed_expr test) _ b0 b1 b7 (type_of (typed_expr test), r, code) one (lined_behind (around_by l b1 b2 k12 truth) (lined_behind (around_by l b2 b3 k23 begun) (lined_join (lined_then arm (around_by l b4 b5 k45 turned)) (lined_then arm' record { lines = met; stays = meets.has }))))
