use Rattle.std.proofs.Common.{◌∙◌, ℕ, List, [], map, filter, ap}
use Rattle.std.specs.Str.{bytes_eq}
use Rattle.indexmap.specs.IndexSet.{insert_all}
use Rattle.py_binder.specs.declared.scope.Role.{Role}
use Rattle.py_binder.proofs.TableLemmas.{inserted}
use Rattle.py_check_names.specs.Meanings.{is_own}
use Rattle.py_check_names.proofs.meanings.own_names.Goals as goal

pub returns : goal.returns
returns c =
    let chosen : List (List ℕ × Role) → List (List ℕ) = λ l. map (λ p. p.0) (filter (λ p. is_own p.1) l) in
    c.in_ok-add_own.ensures
    ∙ ap (λ ks. insert_all bytes_eq ks (chosen c.as_slice.result.now)) c.new-own.ensures.empty
    ∙ ap (λ l. insert_all bytes_eq [] (chosen l)) c.as_slice.ensures
    ∙ inserted (chosen c.args.inside.now.names)
