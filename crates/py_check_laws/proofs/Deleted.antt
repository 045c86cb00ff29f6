-- Deletions: what is deleted where one is typed, and that it stands well typed.
use Rattle.std.proofs.Common.{◌≡◌, ℕ, Bool, true, false, ◌&&◌, List, Option, Some, None, Ok, Err, refl, if◌then◌else◌}
use Rattle.py_syntax.specs.declared.token.Span.{Span}
use Rattle.py_syntax.specs.Expressions.{ExprTree}
use Rattle.py_typed.specs.Sorts as sort
use Rattle.py_typed.specs.Sorts.{Sort}
use Rattle.py_typed.specs.Fits.{is_dict}
use Rattle.py_typed.specs.Expressions as node
use Rattle.py_typed.specs.Expressions.{TypedExpr, typed, type_of}
use Rattle.py_typed.specs.Statements as act
use Rattle.py_typed.specs.Statements.{Variable, TypedModule, TypedAct}
use Rattle.py_typed.specs.WellTypedExpr.{stands, is_type, indexed}
use Rattle.py_typed.specs.WellTyped as stmt
use Rattle.py_typed.proofs.FitLemmas.{and_left, and_right}
use Rattle.py_check_context.specs.Context.{Context, free}
use Rattle.py_check_messages.specs.Seen.{Message}
use Rattle.py_check_messages.specs.Messages as message
use Rattle.py_check_places.specs.Places.{Known}
use Rattle.py_check_places.specs.Shapes.{is_item}
use Rattle.py_check_targets.specs.Targets.{typed_at}
use Rattle.py_check_statements.specs.Deletions.{item_deleted, deletion, deletes}
use Rattle.py_check_expressions_laws.proofs.Stands.{parts_of_stands}
use Rattle.py_check_expressions_laws.proofs.Telling.{ok_same}
use Rattle.py_check_laws.proofs.Given.{rule_given}

-- ---- what is deleted

-- an item of a dict, with its index
pub record IsDeleted (e : TypedExpr) (a : TypedAct) : Type 0 where
  pub held : TypedExpr
  pub key : TypedExpr
  pub type : Sort
  pub place : Span
  pub is : e ≡ typed (node.At held key) type place
  pub dict : is_dict (type_of held) ≡ true
  pub made : act.Del held key ≡ a

act_if : (c : Bool) (x a : TypedAct) (m : Message) → (if c then Ok x else Err m) ≡ Ok a → (c ≡ true) × (x ≡ a)
act_if true x a m h = (refl, ok_same x a h)
act_if false x a m h = absurd (cc)

item_is : (e : TypedExpr) (a : TypedAct) → item_deleted e ≡ Ok a → IsDeleted e a
item_is (typed (node.At d k) t place) a h =
    let r = act_if (is_dict (type_of d)) (act.Del d k) a message.only_entries h in
    record { held = d; key = k; type = t; place = place; is = refl; dict = r.0; made = r.1 }
item_is (typed _ t place) a h = absurd (cc)

deletion_is : (written : Bool) (e : TypedExpr) (a : TypedAct) → deletion written e ≡ Ok a → IsDeleted e a
deletion_is true e a h = item_is e a h
deletion_is false e a h = absurd (cc)

-- of a deletion that is typed, the typed operand
pub deleted_item : (c : Context) (k : Known) (span : Span) (e : ExprTree) (a : TypedAct) → (deletes c k span e).got ≡ Some a → (t : TypedExpr) × ((typed_at c k free e).got ≡ Some t) × IsDeleted t a
deleted_item c k span e a h =
    let r = rule_given span (deletion (is_item e)) (typed_at c k free e) a h in
    (r.0, r.1, deletion_is (is_item e) r.0 a r.2)

-- ---- it stands well typed

dict_is : (m : TypedModule) (locals : List Variable) (init : Option ℕ) (result : Option Sort) (t : Sort) → is_dict t ≡ true → stmt.is_dict_type m locals init result t ≡ true
dict_is m locals init result (sort.DictOf k t) h = refl
dict_is m locals init result _ h = absurd (cc)

there : (m : TypedModule) (locals : List Variable) (init : Option ℕ) (result : Option Sort) (o : Option Sort) (t : Sort) → is_type o t ≡ true → stmt.is_there m locals init result o ≡ true
there m locals init result None t h = absurd (cc)
there m locals init result (Some s) t h = refl

four : (a b c d : Bool) → a ≡ true → b ≡ true → c ≡ true → d ≡ true → (a && b && c && d) ≡ true
four a b c d p q r s = cc

pub deleted_stands : (m : TypedModule) (locals : List Variable) (init : Option ℕ) (result : Option Sort) (loops handling : Bool) (others : List ℕ) (d k : TypedExpr) (t : Sort) (place : Span) → is_dict (type_of d) ≡ true → stands m locals init false others (typed (node.At d k) t place) ≡ true
    → stmt.act_typed m locals init result others loops handling (act.Del d k) ≡ true
deleted_stands m locals init result loops handling others d k t place dict h =
    let r = parts_of_stands m locals init false others (node.At d k) t place h in
    four (stands m locals init false others d) (stands m locals init false others k) (stmt.is_dict_type m locals init result (type_of d)) (stmt.is_there m locals init result (indexed (type_of d) (type_of k)))
    (and_left (stands m locals init false others d) (stands m locals init false others k) r.0) (and_right (stands m locals init false others d) (stands m locals init false others k) r.0) (dict_is m locals init result (type_of d) dict) (there m locals init result (indexed (type_of d) (type_of k)) t r.1)
