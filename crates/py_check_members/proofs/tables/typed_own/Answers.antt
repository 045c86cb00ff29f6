use Rattle.std.proofs.Common.{◌≡◌, ◌∙◌, length, map, ap, refl}
use Rattle.std.specs.Prelude.{unwrap_or}
use Rattle.std.specs.Str.{bytes_eq}
use Rattle.indexmap.specs.IndexMap.{get}
use Rattle.py_syntax.specs.Statements.{body_tree}
use Rattle.py_check_context.specs.declared.scope.Meaning.TheVariants.{Unknown}
use Rattle.py_check_context.specs.Context.{context}
use Rattle.py_check_members.specs.Members.{above_in, each_once, made_from}
use Rattle.py_check_members.specs.Tables.{typed_own}
use Rattle.py_check_members.specs.Views.{entries_of, events_of, own_of}
use Rattle.py_check_members.proofs.WalkLemmas.{if_ok}
use Rattle.py_check_members.proofs.TableLemmas.{typed_found}
use Rattle.py_check_members.proofs.tables.typed_own.Goals as goal

pub returns : goal.returns
returns c =
    if_ok c.members_among.result
    (λ own. entries_of own ≡ each_once (made_from (context c.args.known.scope.now).meaning (context c.names_alone-inner.result).meaning (length c.args.behind.classes.now) (above_in (map own_of c.args.behind.classes.now) c.args.behind.row.now) (events_of c.as_slice.result.now) 0 (events_of c.as_slice.result.now)))
    (λ own. entries_of own ≡ typed_own c.args.known (map own_of c.args.behind.classes.now) c.args.behind.row.now c.args.first (body_tree c.args.body.now))
    (λ own e. typed_found c.args.known c.args.behind.classes.now c.args.behind.row.now c.args.first (body_tree c.args.body.now) (context c.names_alone-inner.result).meaning (λ x. unwrap_or (get bytes_eq c.in_ok-names.names x) Unknown) (length c.args.behind.classes.now) (events_of c.as_slice.result.now) c.init_function.result (entries_of own) c.names_alone-inner.ensures c.in_ok-names.ensures c.init_function.ensures refl (ap events_of c.as_slice.ensures.value ∙ c.in_ok-events.ensures) e)
    c.members_among.ensures
