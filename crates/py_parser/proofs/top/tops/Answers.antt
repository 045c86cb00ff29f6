use Rattle.std.proofs.Common.{map, ap, sym, ◌∙◌, arith}
use Rattle.std.proofs.lemmas.List.{map-append}
use Rattle.py_syntax.specs.Statements.{stmt_tree}
use Rattle.py_parser.specs.Definitions.{reads_tops}
use Rattle.py_parser_statements.specs.Statements.{stmts_seen}
use Rattle.py_parser.proofs.DefinitionReading.{tops_more}
use Rattle.py_parser.proofs.top.tops.Goals as goal

pub tops-preserved : goal.tops-preserved
tops-preserved c =
    let ts = c.args.tokens.now in
    let more = c.in_ok-more.more in
    let next = c.in_ok-more.next in
    record {
      so_far =
          c.tops.invariant.so_far
          ∙ tops_more ts (map stmt_tree c.tops.found) c.tops.place (stmts_seen (more, next)) (sym c.begins_top.ensures ∙ c.tops-test.true) c.in_ok-more.ensures.read
          ∙ ap (λ l. reads_tops ts l next) (sym (ap (map stmt_tree) c.in_ok-found.ensures ∙ map-append stmt_tree c.tops.found more));
      moves = record {
        on = omega (arith, c.tops.invariant.moves.on, c.in_ok-more.ensures.moves.on);
        within = λ h. c.in_ok-more.ensures.moves.within;
      };
    }
