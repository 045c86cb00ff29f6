-- An operation with assignment, by the type of the operation's value.
use Rattle.std.proofs.Common.{◌≡◌, Bool, true, false, List, [], ◌∷◌, Option, Some, None, Result, Ok, Err, IfOk, refl, ap, sym, ◌∙◌, subst}
use Rattle.std.proofs.lemmas.List.{append-nil}
use Rattle.std.specs.Prelude.{if◌then◌else◌}
use Rattle.std.specs.Option.{option_map, option_zip}
use Rattle.std.specs.Result.{result_map_both}
use Rattle.std.specs.declared.boxed.Box.{Box}
use Rattle.std.specs.declared.alloc.Global.{Global}
use Rattle.value_core.specs.declared.memory.Memory.{Memory}
use Rattle.py_syntax.specs.declared.token.Span.{Span}
use Rattle.py_syntax.specs.declared.expression.BinOp.{BinOp}
use Rattle.py_syntax_diagnostics.specs.declared.diagnostic.Diag.{Diag}
use Rattle.py_typed.specs.declared.types.Ty.{Ty}
use Rattle.py_typed.specs.declared.expression.TExpr.{TExpr}
use Rattle.py_typed.specs.declared.statement.TStmtKind.{TStmtKind}
use Rattle.py_typed.specs.Sorts.{Sort, sort}
use Rattle.py_typed.specs.Classes.{ClassEntry}
use Rattle.py_typed.specs.Expressions.{TypedExpr, typed_expr, type_of}
use Rattle.py_typed.specs.Statements as act
use Rattle.py_typed.specs.Statements.{TypedTarget, TypedAct}
use Rattle.py_check_messages.specs.Seen.{Seen, Message, Tells, Finds, both, fails, judged, rule, ruled}
use Rattle.py_check_messages.proofs.RowLemmas.{two_parts}
use Rattle.py_check_coercions.specs.Boxes.{boxed}
use Rattle.py_check_messages.specs.Messages.{no_target}
use Rattle.py_check_operators.specs.Operators.{arithmetic, arithmetic_type}
use Rattle.py_check_coercions.proofs.PartLemmas.{type_at}
use Rattle.py_check_operators.proofs.OperatorLemmas.{arithmetic_has_type}
use Rattle.py_check_values.specs.Assignments.{binding_fault}
use Rattle.py_check_values.specs.Aims.{Aim}
use Rattle.py_check_targets.specs.Targets.{is_placed, target_of, written_back, updated_to, of_operation, updated}
use Rattle.py_check_targets.specs.Views.{boxed_act, boxed_sort}
use Rattle.py_check_assignments.specs.declared.updates.Operands.{Operands}
use Rattle.py_check_assignments.specs.Views.{operands_seen}

-- a part is not typed, so there are no operands
pub without_operands : (span : Span) (f : TypedExpr × TypedExpr → Result TypedAct Message) (s t : Seen TypedExpr) (a b : Option (Box TExpr Global)) (z : Option Operands) (o0 o1 o2 : List Diag) → Tells boxed a o0 o1 s → Tells boxed b o1 o2 t → option_map operands_seen z ≡ option_zip (option_map boxed a) (option_map boxed b) → z ≡ None → Tells boxed_act None o0 o2 (rule span f (both s t))
without_operands span f s t a b z o0 o1 o2 ta tb is none =
    let P : Option (TypedExpr × TypedExpr) → Type 0 = λ o. Tells boxed_act None o2 o2 (ruled span f o) in
    two_parts span f boxed boxed boxed_act s t a b None o0 o1 o2 o2 ta tb (subst P (ap (option_map operands_seen) (sym none) ∙ is) (refl, sym (append-nil o2)))

-- the operation on both
pub with_operands : (span : Span) (f : TypedExpr × TypedExpr → Result TypedAct Message) (s t : Seen TypedExpr) (a b : Option (Box TExpr Global)) (z : Option Operands) (p : Operands) (r : Result (Option (Box TStmtKind Global)) Memory) (o0 o1 o2 new : List Diag) → Tells boxed a o0 o1 s → Tells boxed b o1 o2 t → option_map operands_seen z ≡ option_zip (option_map boxed a) (option_map boxed b) → z ≡ Some p
    → IfOk r (λ x. Tells boxed_act x o2 new (judged span (f (operands_seen p)))) → IfOk r (λ x. Tells boxed_act x o0 new (rule span f (both s t)))
with_operands span f s t a b z p (Ok x) o0 o1 o2 new ta tb is some h =
    let P : Option (TypedExpr × TypedExpr) → Type 0 = λ o. Tells boxed_act x o2 new (ruled span f o) in
    two_parts span f boxed boxed boxed_act s t a b x o0 o1 o2 new ta tb (subst P (ap (option_map operands_seen) (sym some) ∙ is) h)
with_operands span f s t a b z p (Err m) o0 o1 o2 new ta tb is some h = tt

-- from the type of the value, or what is wrong with the operation
abbrev of_type : List ClassEntry → Aim → BinOp → TypedExpr → Result Sort Message → Result TypedAct Message
of_type classes a o b (Ok s) = updated_to classes a o b s
of_type classes a o b (Err m) = Err m

by_type : (classes : List ClassEntry) (a : Aim) (o : BinOp) (b : TypedExpr) (r : Result TypedExpr Message) → of_operation classes a o b r ≡ of_type classes a o b (result_map_both type_of (λ m. m) r)
by_type classes a o b (Ok e) = refl
by_type classes a o b (Err m) = refl

module _ (classes : List ClassEntry) (span : Span) (o : BinOp) (aim : TypedExpr → Aim) (a b : TExpr) where
  same_type : arithmetic_type classes o (type_of (typed_expr a)) (type_of (typed_expr b)) ≡ arithmetic_type classes o (sort a.ty) (sort b.ty)
  same_type = ap (λ s. arithmetic_type classes o s (type_of (typed_expr b))) (type_at a) ∙ ap (λ t. arithmetic_type classes o (sort a.ty) t) (type_at b)

  says : judged span (updated classes span o aim (typed_expr a, typed_expr b)) ≡ judged span (of_type classes (aim (typed_expr a)) o (typed_expr b) (arithmetic_type classes o (sort a.ty) (sort b.ty)))
  says =
      ap (judged span) (by_type classes (aim (typed_expr a)) o (typed_expr b) (arithmetic classes span o (typed_expr a, typed_expr b)))
      ∙ ap (λ r. judged span (of_type classes (aim (typed_expr a)) o (typed_expr b) r)) (arithmetic_has_type classes span o (typed_expr a, typed_expr b) ∙ same_type)

refused_so : (classes : List ClassEntry) (span : Span) (x : Aim) (o : BinOp) (b : TypedExpr) (r : Result Sort Message) (old new : List Diag) → Tells boxed_sort None old new (judged span r) → Tells boxed_act None old new (judged span (of_type classes x o b r))
refused_so classes span x o b (Ok s) old new t = absurd (let wrong = t.0 in cc)
refused_so classes span x o b (Err m) old new t = (refl, t.1)

-- the operation is refused
pub refused_says : (classes : List ClassEntry) (span : Span) (o : BinOp) (aim : TypedExpr → Aim) (a b : TExpr) (found : Option (Box Ty Global)) (old new : List Diag) → Tells boxed_sort found old new (judged span (arithmetic_type classes o (sort a.ty) (sort b.ty))) → found ≡ None → Tells boxed_act None old new (judged span (updated classes span o aim (typed_expr a, typed_expr b)))
refused_says classes span o aim a b found old new told none =
    let F : Option (Box Ty Global) → Type 0 = λ f. Tells boxed_sort f old new (judged span (arithmetic_type classes o (sort a.ty) (sort b.ty))) in
    let S : Seen TypedAct → Type 0 = λ s. Tells boxed_act None old new s in
    subst S (sym (says classes span o aim a b)) (refused_so classes span (aim (typed_expr a)) o (typed_expr b) (arithmetic_type classes o (sort a.ty) (sort b.ty)) old new (subst F none told))

holds_so : (classes : List ClassEntry) (span : Span) (x : Aim) (o : BinOp) (b : TypedExpr) (r : Result Sort Message) (ty : Box Ty Global) (k : Result (Option (Box TStmtKind Global)) Memory) (old mid new : List Diag) → Tells boxed_sort (Some ty) old mid (judged span r) → IfOk k (λ t. Tells boxed_act t mid new (judged span (updated_to classes x o b (boxed_sort ty)))) → IfOk k (λ t. Tells boxed_act t old new (judged span (of_type classes x o b r)))
holds_so classes span x o b (Err m) ty k old mid new t h = absurd (let wrong = t.0 in cc)
holds_so classes span x o b (Ok s) ty k old mid new t h =
    let same : boxed_sort ty ≡ s = let is = t.0 in cc in
    let still : mid ≡ old = t.1 ∙ append-nil old in
    let T : Sort → Type 0 = λ u. IfOk k (λ t. Tells boxed_act t mid new (judged span (updated_to classes x o b u))) in
    let L : List Diag → Type 0 = λ l. IfOk k (λ t. Tells boxed_act t l new (judged span (updated_to classes x o b s))) in
    subst L still (subst T same h)

-- it has a value, which is assigned
pub holds_says : (classes : List ClassEntry) (span : Span) (o : BinOp) (aim : TypedExpr → Aim) (a b : TExpr) (found : Option (Box Ty Global)) (ty : Box Ty Global) (x : Aim) (k : Result (Option (Box TStmtKind Global)) Memory) (old mid new : List Diag) → Tells boxed_sort found old mid (judged span (arithmetic_type classes o (sort a.ty) (sort b.ty))) → found ≡ Some ty → x ≡ aim (typed_expr a) → IfOk k (λ t. Tells boxed_act t mid new (judged span (updated_to classes x o (typed_expr b) (boxed_sort ty)))) → IfOk k (λ t. Tells boxed_act t old new (judged span (updated classes span o aim (typed_expr a, typed_expr b))))
holds_says classes span o aim a b found ty x k old mid new told some is h =
    let F : Option (Box Ty Global) → Type 0 = λ f. Tells boxed_sort f old mid (judged span (arithmetic_type classes o (sort a.ty) (sort b.ty))) in
    let S : Seen TypedAct → Type 0 = λ s. IfOk k (λ t. Tells boxed_act t old new s) in
    let X : Aim → Type 0 = λ y. IfOk k (λ t. Tells boxed_act t mid new (judged span (updated_to classes y o (typed_expr b) (boxed_sort ty)))) in
    subst S (sym (says classes span o aim a b)) (holds_so classes span (aim (typed_expr a)) o (typed_expr b) (arithmetic_type classes o (sort a.ty) (sort b.ty)) ty k old mid new (subst F some told) (subst X is h))

-- ---- the result is written back

-- to a target
pub augmented_says : (span : Span) (o : BinOp) (b : TypedExpr) (s : Sort) (ts : List TypedTarget) (target : TypedTarget) (r : Result (Option (Box TStmtKind Global)) Memory) (old : List Diag) → ts ≡ target ∷ [] → IfOk r (λ t. option_map boxed_act t ≡ Some (act.Aug target o b s)) → IfOk r (λ t. Tells boxed_act t old old (judged span (written_back o b s None ts)))
augmented_says span o b s ts target (Ok t) old is made =
    let P : List TypedTarget → Type 0 = λ l. Tells boxed_act t old old (judged span (written_back o b s None l)) in
    subst P (sym is) (made, sym (append-nil old))
augmented_says span o b s ts target (Err m) old is made = tt

-- there is none
pub no_target_says : (span : Span) (o : BinOp) (b : TypedExpr) (s : Sort) (ts : List TypedTarget) (r : Result (Option (Box TStmtKind Global)) Memory) (old new : List Diag) → ts ≡ [] → IfOk r (λ t. Tells boxed_act t old new (fails {A = TypedAct} span no_target)) → IfOk r (λ t. Tells boxed_act t old new (judged span (written_back o b s None ts)))
no_target_says span o b s ts r old new is h =
    let P : List TypedTarget → Type 0 = λ l. IfOk r (λ t. Tells boxed_act t old new (judged span (written_back o b s None l))) in
    subst P (sym is) h

-- ---- the result is bound to a target, where that may be

abbrev by_place : List ClassEntry → Aim → BinOp → TypedExpr → Sort → Bool → Result TypedAct Message
by_place classes a o b s placed = if placed then written_back o b s (binding_fault classes a s) (target_of a) else Err no_target

pub misplaced_says : (classes : List ClassEntry) (span : Span) (a : Aim) (o : BinOp) (b : TypedExpr) (s : Sort) (r : Result (Option (Box TStmtKind Global)) Memory) (old new : List Diag) → is_placed a ≡ false → IfOk r (λ t. Tells boxed_act t old new (fails {A = TypedAct} span no_target)) → IfOk r (λ t. Tells boxed_act t old new (judged span (updated_to classes a o b s)))
misplaced_says classes span a o b s r old new unplaced h =
    let P : Bool → Type 0 = λ p. IfOk r (λ t. Tells boxed_act t old new (judged span (by_place classes a o b s p))) in
    subst P (sym unplaced) h

fault_so : (span : Span) (o : BinOp) (b : TypedExpr) (s : Sort) (fault : Option Message) (ts : List TypedTarget) (right : Bool) (old new : List Diag) → Finds right old new span fault → right ≡ false → Tells boxed_act None old new (judged span (written_back o b s fault ts))
fault_so span o b s None ts right old new found wrong = absurd (let clash : true ≡ false = sym found.0 ∙ wrong in cc)
fault_so span o b s (Some m) ts right old new found wrong = (refl, found.1)

pub unbound_says : (classes : List ClassEntry) (span : Span) (a : Aim) (o : BinOp) (b : TypedExpr) (s : Sort) (right : Bool) (old new : List Diag) → is_placed a ≡ true → Finds right old new span (binding_fault classes a s) → right ≡ false → Tells boxed_act None old new (judged span (updated_to classes a o b s))
unbound_says classes span a o b s right old new placed found wrong =
    let P : Bool → Type 0 = λ p. Tells boxed_act None old new (judged span (by_place classes a o b s p)) in
    subst P (sym placed) (fault_so span o b s (binding_fault classes a s) (target_of a) right old new found wrong)

no_fault_so : (span : Span) (o : BinOp) (b : TypedExpr) (s : Sort) (fault : Option Message) (ts : List TypedTarget) (right : Bool) (r : Result (Option (Box TStmtKind Global)) Memory) (old mid new : List Diag) → Finds right old mid span fault → right ≡ true → IfOk r (λ t. Tells boxed_act t mid new (judged span (written_back o b s None ts))) → IfOk r (λ t. Tells boxed_act t old new (judged span (written_back o b s fault ts)))
no_fault_so span o b s (Some m) ts right r old mid new found holds h = absurd (let clash : false ≡ true = sym found.0 ∙ holds in cc)
no_fault_so span o b s None ts right r old mid new found holds h =
    let P : List Diag → Type 0 = λ l. IfOk r (λ t. Tells boxed_act t l new (judged span (written_back o b s None ts))) in
    subst P found.1 h

pub bound_says : (classes : List ClassEntry) (span : Span) (a : Aim) (o : BinOp) (b : TypedExpr) (s : Sort) (right : Bool) (r : Result (Option (Box TStmtKind Global)) Memory) (old mid new : List Diag) → is_placed a ≡ true → Finds right old mid span (binding_fault classes a s) → right ≡ true → IfOk r (λ t. Tells boxed_act t mid new (judged span (written_back o b s None (target_of a)))) → IfOk r (λ t. Tells boxed_act t old new (judged span (updated_to classes a o b s)))
bound_says classes span a o b s right r old mid new placed found holds h =
    let P : Bool → Type 0 = λ p. IfOk r (λ t. Tells boxed_act t old new (judged span (by_place classes a o b s p))) in
    subst P (sym placed) (no_fault_so span o b s (binding_fault classes a s) (target_of a) right r old mid new found holds h)
