-- Chains of comparisons (Python Language Reference, "Comparisons").
--
-- Each operand is compared with the next one. `is` and `is not` are only for the literal `None` on the right; `in` and
-- `not in` ask for a dict on the right whose key type the left one fits; the others take two numbers or two texts.
--
-- A pair is asked for its rule where both its operands have types, whatever the other operands are. Each pair that breaks its rule
-- has a diagnostic of its own, and all of these stand at the chain, in front of what is said of the operands. Bool is the type of a
-- chain without a pair that breaks its rule and without an operand of unknown type; any other chain is of unknown type.
use Rattle.std.specs.Prelude.{ℕ, Bool, true, false, ◌||◌, List, [], ◌∷◌, ◌++◌, map, codes, Option, Some, None, if◌then◌else◌}
use Rattle.std.specs.Option.{option_map, option_zip}
use Rattle.py_syntax.specs.declared.token.Span.{Span}
use Rattle.py_syntax.specs.declared.expression.CmpOp.{CmpOp}
use Rattle.py_syntax.specs.declared.expression.CmpOp.TheVariants.{Eq, Ne, Lt, Le, Gt, Ge, Member, NotMember, Is, IsNot}
use Rattle.py_syntax_diagnostics.specs.declared.diagnostic.Diag.{Diag}
use Rattle.py_typed.specs.Sorts.{Sort}
use Rattle.py_typed.specs.Sorts as sort
use Rattle.py_typed.specs.Classes.{ClassEntry}
use Rattle.py_typed.specs.Fits.{fits}
use Rattle.py_typed.specs.Expressions as node
use Rattle.py_typed.specs.Expressions.{TypedExpr, typed, type_of, comparisons_of}
use Rattle.py_typed.specs.WellTypedExpr.{are_texts, are_numbers, is_none_literal}
use Rattle.py_check_messages.specs.Seen.{Seen, Message, diag}
use Rattle.py_check_messages.specs.Messages.{unsupported_operands, only_for_none}
use Rattle.py_check_coercions.specs.Several.{fault_unless, ruled_all}

abbrev pub comparison_text : CmpOp → List ℕ
comparison_text Eq = codes "=="
comparison_text Ne = codes "!="
comparison_text Lt = codes "<"
comparison_text Le = codes "<="
comparison_text Gt = codes ">"
comparison_text Ge = codes ">="
comparison_text Member = codes "in"
comparison_text NotMember = codes "not in"
comparison_text Is = codes "is"
comparison_text IsNot = codes "is not"

abbrev pub is_identity : CmpOp → Bool
is_identity Is = true
is_identity IsNot = true
is_identity o = false

abbrev pub is_membership : CmpOp → Bool
is_membership Member = true
is_membership NotMember = true
is_membership o = false

-- both numbers, or both texts
abbrev pub are_ordered : Sort → Sort → Bool
are_ordered s t = are_numbers s t || are_texts s t

-- a value that fits the key type of a dict
abbrev pub is_key_for : List ClassEntry → Sort → Sort → Bool
is_key_for classes s (sort.DictOf k t) = fits classes s k
is_key_for classes s t = false

abbrev pub are_comparable : List ClassEntry → CmpOp → Sort → Sort → Bool
are_comparable classes o s t = if is_membership o then is_key_for classes s t else are_ordered s t

-- of a value of a type with the operand behind it
abbrev pub pair_faults : List ClassEntry → Sort → CmpOp → TypedExpr → List Message
pair_faults classes s o b =
    if is_identity o then fault_unless (is_none_literal b) only_for_none
    else fault_unless (are_comparable classes o s (type_of b)) (unsupported_operands classes (comparison_text o) s (type_of b))

abbrev pub chain_faults : List ClassEntry → Sort → List (CmpOp × TypedExpr) → List Message
chain_faults classes s [] = []
chain_faults classes s (p ∷ ps) = pair_faults classes s p.0 p.1 ++ chain_faults classes (type_of p.1) ps

abbrev pub faults_of : List ClassEntry → TypedExpr × List (CmpOp × TypedExpr) → List Message
faults_of classes p = chain_faults classes (type_of p.0) p.1

abbrev pub chain : Span → TypedExpr × List (CmpOp × TypedExpr) → TypedExpr
chain span p = typed (node.Compare p.0 (comparisons_of p.1)) sort.Bool span

-- ---- operands that may have no type

-- of a pair, where both its operands have types
abbrev pub asked_pair : List ClassEntry → Option TypedExpr → CmpOp → Option TypedExpr → List Message
asked_pair classes None o b = []
asked_pair classes (Some a) o None = []
asked_pair classes (Some a) o (Some b) = pair_faults classes (type_of a) o b

-- of all pairs, behind an operand
abbrev pub pairs_faults : List ClassEntry → Option TypedExpr → List (CmpOp × Option TypedExpr) → List Message
pairs_faults classes a [] = []
pairs_faults classes a (p ∷ ps) = asked_pair classes a p.0 p.1 ++ pairs_faults classes p.1 ps

-- the operands, where each has a type
abbrev pub all_typed : List (CmpOp × Option TypedExpr) → Option (List (CmpOp × TypedExpr))
all_typed [] = Some []
all_typed (p ∷ ps) = option_map (λ q. q.0 ∷ q.1) (option_zip (option_map (λ b. (p.0, b)) p.1) (all_typed ps))

-- THE CHAIN of an operand and those behind it, of which this is said
abbrev pub chain_of : List ClassEntry → Span → Option TypedExpr → List (CmpOp × Option TypedExpr) → List Diag → Seen TypedExpr
chain_of classes span first pairs said = record {
  got = (ruled_all span (faults_of classes) (chain span) (option_zip first (all_typed pairs))).got;
  said = map (diag span) (pairs_faults classes first pairs) ++ said;
}
