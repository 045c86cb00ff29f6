use Rattle.std.proofs.Common.{map, ap, sym, ◌∙◌, arith}
use Rattle.std.proofs.lemmas.List.{map-append}
use Rattle.py_syntax.specs.Statements.{stmt_tree}
use Rattle.py_parser.specs.Definitions.{reads_members}
use Rattle.py_parser_statements.specs.Statements.{stmts_seen}
use Rattle.py_parser.proofs.DefinitionReading.{members_more}
use Rattle.py_parser.proofs.define.members.Goals as goal

pub members-preserved : goal.members-preserved
members-preserved c =
    let ts = c.args.tokens.now in
    let more = c.in_ok-more.more in
    let next = c.in_ok-more.next in
    record {
      so_far =
          c.members.invariant.so_far
          ∙ members_more ts (map stmt_tree c.members.found) c.members.place (stmts_seen (more, next)) (sym c.begins_member.ensures ∙ c.members-test.true) c.in_ok-more.ensures.read
          ∙ ap (λ l. reads_members ts l next) (sym (ap (map stmt_tree) c.in_ok-found.ensures ∙ map-append stmt_tree c.members.found more));
      moves = record {
        on = omega (arith, c.members.invariant.moves.on, c.in_ok-more.ensures.moves.on);
        within = λ h. c.in_ok-more.ensures.moves.within;
      };
    }
