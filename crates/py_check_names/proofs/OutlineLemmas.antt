-- A step along the definitions of a module.
use Rattle.std.proofs.Common.{◌≡◌, ◌∙◌, ℕ, suc, ◌+◌, ◌<◌, List, ◌∷◌, ◌++◌, length, drop, get_or, drop-cons, add-one, length-append, ap, sym, Bor}
use Rattle.std.proofs.lemmas.List.{append_assoc, length-map}
use Rattle.std.specs.List.{flat_map}
use Rattle.py_syntax.specs.declared.statement.Stmt.{Stmt}
use Rattle.py_syntax.specs.declared.statement.Func.{Func}
use Rattle.py_syntax.specs.Statements.{FuncTree, stmt_tree, func_tree}
use Rattle.py_check_context.specs.declared.scope.Meaning.{Meaning}
use Rattle.py_check_names.specs.Walked.{trees, func_trees}
use Rattle.py_check_names.specs.Outline.{said_by, said_from, held_by}

pub trees_at : (defs : List (Bor Stmt)) (i : ℕ) (x : Bor Stmt) → i < length defs → x ≡ get_or defs i x → trees (drop i defs) ≡ stmt_tree x.now ∷ trees (drop (i + 1) defs)
trees_at defs i x h is_at =
    ap trees (drop-cons defs i x h)
    ∙ ap (λ (y : Bor Stmt). stmt_tree y.now ∷ trees (drop (suc i) defs)) (sym is_at)
    ∙ ap (λ n. stmt_tree x.now ∷ trees (drop n defs)) (sym (add-one i))

longer : (fs fs2 : List (Bor Func)) (held : List FuncTree) → func_trees fs2 ≡ func_trees fs ++ held → length fs2 ≡ length fs + length held
longer fs fs2 held e =
    sym (length-map fs2 (λ (f : Bor Func). func_tree f.now))
    ∙ ap length e
    ∙ length-append (func_trees fs) held
    ∙ ap (λ n. n + length held) (length-map fs (λ (f : Bor Func). func_tree f.now))

pub said_on : (defs : List (Bor Stmt)) (i : ℕ) (x : Bor Stmt) → i < length defs → x ≡ get_or defs i x → (said said2 whole : List (List ℕ × Meaning)) (fs fs2 : List (Bor Func)) (n : ℕ) → n ≡ length fs → said2 ≡ said ++ said_by n (stmt_tree x.now) → func_trees fs2 ≡ func_trees fs ++ held_by (stmt_tree x.now) → said ++ said_from (length fs) (trees (drop i defs)) ≡ whole → said2 ++ said_from (length fs2) (trees (drop (i + 1) defs)) ≡ whole
said_on defs i x h is_at said said2 whole fs fs2 n is put held before =
    ap (λ l. l ++ said_from (length fs2) (trees (drop (i + 1) defs))) (put ∙ ap (λ m. said ++ said_by m (stmt_tree x.now)) is)
    ∙ append_assoc said (said_by (length fs) (stmt_tree x.now)) _
    ∙ ap (λ m. said ++ (said_by (length fs) (stmt_tree x.now) ++ said_from m (trees (drop (i + 1) defs)))) (longer fs fs2 _ held)
    ∙ ap (λ l. said ++ said_from (length fs) l) (sym (trees_at defs i x h is_at))
    ∙ before

pub held_on : (defs : List (Bor Stmt)) (i : ℕ) (x : Bor Stmt) → i < length defs → x ≡ get_or defs i x → (whole : List FuncTree) (fs fs2 : List (Bor Func)) → func_trees fs2 ≡ func_trees fs ++ held_by (stmt_tree x.now) → func_trees fs ++ flat_map held_by (trees (drop i defs)) ≡ whole → func_trees fs2 ++ flat_map held_by (trees (drop (i + 1) defs)) ≡ whole
held_on defs i x h is_at whole fs fs2 held before =
    ap (λ l. l ++ flat_map held_by (trees (drop (i + 1) defs))) held
    ∙ append_assoc (func_trees fs) (held_by (stmt_tree x.now)) _
    ∙ ap (λ l. func_trees fs ++ flat_map held_by l) (sym (trees_at defs i x h is_at))
    ∙ before
