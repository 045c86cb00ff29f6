-- Targets as a value of a type is bound to them.
use Rattle.std.proofs.Common.{◌≡◌, true, List, length, Option, Some, None, ap, sym, ◌∙◌}
use Rattle.py_syntax.specs.Expressions.{ExprTree}
use Rattle.py_typed.specs.Sorts.{Sort}
use Rattle.py_check_context.specs.Context.{Context}
use Rattle.py_check_values.specs.Aims.{Aim}
use Rattle.py_check_values.specs.Assignments.{items_for}
use Rattle.py_check_places.specs.Places.{Known}
use Rattle.py_check_places.specs.Shapes.{is_row, leaves, some_parts, parts_for, parts_of}
use Rattle.py_check_targets.specs.Targets.{aims_behind}
use Rattle.py_check_laws.proofs.Aims.{AimsOf, aims_are}
use Rattle.py_check_laws.proofs.Assigned.{aims_length}

-- parts of which something is known are those that the targets take
abbrev pub Fair : Option (List Sort) → List Sort → Type 0
Fair None ss = Unit {0}
Fair (Some ts) ss = ts ≡ ss

module _ (C : Context) where
  pub record LookedAt (k : Known) (target : ExprTree) (l : List Aim) (t : Sort) : Type 0 where
    pub parts : Option (List Sort)
    pub aims : AimsOf C k parts (leaves target) l
    pub many : length l ≡ length (leaves target)
    pub fair : (ss : List Sort) → is_row target ≡ true → items_for t (length l) ≡ Some ss → Fair parts ss

  pub looked_behind : (k : Known) (target : ExprTree) (l : List Aim) (o : Option Sort) (t : Sort) → (aims_behind C k target o).got ≡ Some l → o ≡ Some t → LookedAt k target l t
  looked_behind k target l o t h q =
      let n = length (leaves target) in
      let ts = parts_of (is_row target) n o in
      let many = aims_length C k (Some ts) (leaves target) l h in
      record {
        parts = Some ts;
        aims = aims_are C k (Some ts) (leaves target) l h;
        many = many;
        fair = λ ss r i. ap (parts_of (is_row target) n) q ∙ ap (λ b. parts_for b n t) r ∙ ap some_parts (ap (items_for t) (sym many) ∙ i);
      }
