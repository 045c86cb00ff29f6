use Rattle.std.proofs.Common.{rules}
use Rattle.std.proofs.lemmas.Iterator.{YieldsList-from_chars}
use Rattle.std.proofs.lemmas.Iterator.Search.{all_from_yields_List}
use Rattle.unicode_ident.specs.Ident.{is_xid_continue}
use Rattle.c_core.proofs.WellFormedLemmas.{some_identifier}
use Rattle.c_core.proofs.well_formed.is_identifier.Goals as goal

pub returns-then-not-is_empty : goal.returns-then-not-is_empty
returns-then-not-is_empty c =
    some_identifier c.args.name.now c.all.result c.utf8.name c.if-not-is_empty.ensures
    (all_from_yields_List is_xid_continue _ _ _ c.all.ensures.ran (YieldsList-from_chars c.args.name.now c.utf8.name cc) (λ x b q k. search rules))
