-- What is said of names once classes are known, and the owners of functions, definition by definition.
use Rattle.std.proofs.Common.{◌≡◌, ◌∙◌, ℕ, ◌+◌, Bool, true, false, cond, List, [], ◌∷◌, length, map, length-append, Option, Some, refl, ap, ap₂, sym}
use Rattle.std.proofs.lemmas.List.{length-map}
use Rattle.std.specs.List.{flat_map}
use Rattle.std.specs.Map.{lookup}
use Rattle.std.specs.Option.{option_map}
use Rattle.std.specs.Str.{bytes_eq}
use Rattle.py_syntax.specs.declared.token.Span.{Span}
use Rattle.py_syntax.specs.Statements as s
use Rattle.py_syntax.specs.Statements.{StmtTree, StmtNode, FuncTree}
use Rattle.py_check_context.specs.declared.scope.Meaning.{Meaning}
use Rattle.py_check_names.specs.Outline.{held_by, methods_in}
use Rattle.py_check_signatures.specs.declared.headers.Owner.TheVariants as owner
use Rattle.py_check_classes.specs.declared.header.Header.{Header}
use Rattle.py_check_classes.specs.Names.{class_in}
use Rattle.py_check_classes.specs.Headers.{typed_meaning}
use Rattle.py_check_definitions.specs.Owners.{class_owner, owners_in, owners_from}
use Rattle.py_check_definitions.specs.Views.{with_typed}

module _ (headers : List Header) where
  typed_if : (b : Bool) (m : Meaning) (o : Option Meaning) → cond b (Some (typed_meaning headers m)) (option_map (typed_meaning headers) o) ≡ option_map (typed_meaning headers) (cond b (Some m) o)
  typed_if true m o = refl
  typed_if false m o = refl

  -- what is known of a name is what is said of it
  pub looked_up : (name : List ℕ) (said : List (List ℕ × Meaning)) → lookup (bytes_eq name) (map (with_typed headers) said) ≡ option_map (typed_meaning headers) (lookup (bytes_eq name) said)
  looked_up name [] = refl
  looked_up name (p ∷ more) =
      ap (cond (bytes_eq name p.0) (Some (typed_meaning headers p.1))) (looked_up name more)
      ∙ typed_if (bytes_eq name p.0) p.1 (lookup (bytes_eq name) more)

  owned : (n : ℕ) (node : StmtNode) (span : Span) → length (owners_in headers n (s.at node span)) ≡ length (held_by (s.at node span))
  owned n (s.Def name params ret body marks) span = refl
  owned n (s.ClassDef name bases body marks) span = length-map (methods_in body) (λ (f : FuncTree). class_owner headers n)
  owned n (s.Import name other) span = refl
  owned n (s.From name names) span = refl
  owned n (s.Do e) span = refl
  owned n (s.Assign target e) span = refl
  owned n (s.Annot target mark e) span = refl
  owned n (s.Aug target op e) span = refl
  owned n (s.Del e) span = refl
  owned n s.Pass span = refl
  owned n s.Break span = refl
  owned n s.Continue span = refl
  owned n (s.Return e) span = refl
  owned n (s.Raise e) span = refl
  owned n (s.Global names) span = refl
  owned n (s.Assert e message) span = refl
  owned n (s.If arms other) span = refl
  owned n (s.While test body) span = refl
  owned n (s.For target e body) span = refl
  owned n (s.Try body handlers last) span = refl

  one_owned : (n : ℕ) (x : StmtTree) → length (owners_in headers n x) ≡ length (held_by x)
  one_owned n (s.at node span) = owned n node span

  -- each function has an owner
  pub all_owned : (n : ℕ) (ds : List StmtTree) → length (owners_from headers n ds) ≡ length (flat_map held_by ds)
  all_owned n [] = refl
  all_owned n (x ∷ more) =
      length-append (owners_in headers n x) (owners_from headers (n + length (class_in x)) more)
      ∙ ap₂ (λ a b. a + b) (one_owned n x) (all_owned (n + length (class_in x)) more)
      ∙ sym (length-append (held_by x) (flat_map held_by more))
