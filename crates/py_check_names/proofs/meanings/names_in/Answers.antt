use Rattle.std.proofs.Common.{◌≡◌, ◌∙◌, ℕ, List, map, ap}
use Rattle.std.specs.Prelude.{unwrap_or}
use Rattle.std.specs.Str.{bytes_eq}
use Rattle.std.specs.Map.{lookup}
use Rattle.indexmap.specs.IndexMap.{get}
use Rattle.py_binder.specs.declared.scope.Role.{Role}
use Rattle.py_binder.proofs.BindLemmas.{if_ok}
use Rattle.py_binder.proofs.TableLemmas.{from_nothing}
use Rattle.py_check_context.specs.declared.scope.Meaning.TheVariants.{Unknown}
use Rattle.py_check_names.specs.Meanings.{own_names, by_role, meaning_in}
use Rattle.py_check_names.proofs.MeaningLemmas.{table_says}
use Rattle.py_check_names.proofs.meanings.names_in.Goals as goal

pub returns : goal.returns
returns c =
    let said = get bytes_eq c.args.known.now.said in
    let outer = c.args.known.now.variables.keys in
    let inside = c.args.inside.now in
    let own : c.in_ok-own.own.keys ≡ own_names inside = c.in_ok-own.ensures in
    let pairs : c.add_meanings.new.pairs.items ≡ map (λ p. (p.0, by_role said outer c.in_ok-own.own.keys p.0 p.1)) inside.names =
    from_nothing _ _ _ c.in_ok-add_meanings.ensures c.new-pairs.ensures.items
    ∙ ap (λ (l : List (List ℕ × Role)). map (λ p. (p.0, by_role said outer c.in_ok-own.own.keys p.0 p.1)) l) c.as_slice.ensures in
    if_ok (λ table. (name : List ℕ) → get bytes_eq table name ≡ lookup (bytes_eq name) c.add_meanings.new.pairs.items) (λ table. (name : List ℕ) → unwrap_or (get bytes_eq table name) Unknown ≡ meaning_in said outer inside name) c.table_of.result
    (λ table h. table_says said outer inside c.in_ok-own.own.keys c.add_meanings.new.pairs.items (get bytes_eq table) own pairs h)
    c.table_of.ensures
