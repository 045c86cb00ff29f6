use Rattle.std.proofs.Common.{◌∙◌, ℕ, List, length, Bor, ap, sym}
use Rattle.std.proofs.lemmas.List.{length-map}
use Rattle.std.specs.List.{flat_map}
use Rattle.std.specs.Map.{lookup}
use Rattle.std.specs.Option.{option_map}
use Rattle.std.specs.Str.{bytes_eq}
use Rattle.py_syntax.specs.declared.statement.Func.{Func}
use Rattle.py_syntax.specs.declared.statement.Stmt.{Stmt}
use Rattle.py_syntax.specs.Statements.{body_tree, func_tree}
use Rattle.py_check_context.specs.declared.scope.Meaning.{Meaning}
use Rattle.py_check_names.specs.Walked.{trees}
use Rattle.py_check_names.specs.Outline.{held_by, said_from, suite_definitions}
use Rattle.py_check_classes.specs.declared.header.Header.{Header}
use Rattle.py_check_classes.specs.Names.{numbered, said_of_names}
use Rattle.py_check_classes.specs.Headers.{headers, typed_meaning}
use Rattle.py_check_definitions.proofs.HeldLemmas.{functions_defined}
use Rattle.py_check_definitions.proofs.OutlineLemmas.{looked_up, all_owned}
use Rattle.py_check_definitions.proofs.outlines.definitions_of.Goals as goal

pub returns-clause-functions : goal.returns-clause-functions
returns-clause-functions c =
    c.in_ok-outline.ensures.functions
    ∙ ap (λ (l : List (Bor Stmt)). flat_map held_by (trees l)) c.as_slice-2.ensures.value
    ∙ ap (flat_map held_by) c.in_ok-definitions.ensures
    ∙ sym (functions_defined (body_tree c.args.body.now))

pub returns-clause-owned : goal.returns-clause-owned
returns-clause-owned c =
    sym (length-map c.in_ok-outline.outline.functions.items (λ (f : Bor Func). func_tree f.now))
    ∙ ap length c.in_ok-outline.ensures.functions
    ∙ ap (λ (l : List (Bor Stmt)). length (flat_map held_by (trees l))) (c.as_slice-2.ensures.value ∙ sym c.as_slice-4.ensures.value)
    ∙ sym (all_owned c.as_slice-headers.result.now 0 (trees c.as_slice-4.result.now))
    ∙ ap length (sym c.in_ok-owners.ensures)

pub returns-clause-said : goal.returns-clause-said
returns-clause-said c = λ name.
    let heads = c.as_slice-headers.result.now in
    let m = body_tree c.args.body.now in
    c.in_ok-known.ensures.said name
    ∙ ap (λ l. lookup (bytes_eq name) l) c.in_ok-said.ensures
    ∙ looked_up heads name (numbered 0 c.as_slice-3.result.now)
    ∙ ap (λ (l : List (List ℕ × Meaning)). option_map (typed_meaning heads) (lookup (bytes_eq name) (numbered 0 l)))
    (c.as_slice-3.ensures.value ∙ c.in_ok-outline.ensures.said ∙ ap (λ (l : List (Bor Stmt)). said_from 0 (trees l)) c.as_slice-2.ensures.value ∙ ap (said_from 0) c.in_ok-definitions.ensures)
    ∙ ap (λ (hs : List Header). option_map (typed_meaning hs) (said_of_names (suite_definitions m) name))
    (c.as_slice-headers.ensures ∙ c.in_ok-classes.ensures.headers ∙ ap (λ (l : List (Bor Stmt)). headers (trees l)) c.as_slice.ensures.value ∙ ap headers c.in_ok-definitions.ensures)
