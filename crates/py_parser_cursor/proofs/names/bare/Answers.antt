use Rattle.std.proofs.Common.{ap, sym, ◌∙◌, arith}
use Rattle.py_parser_cursor.specs.Names.{reads_bare}
use Rattle.py_parser_cursor.proofs.NameReading.{bare_more}
use Rattle.py_parser_cursor.proofs.names.bare.Goals as goal

pub names-preserved : goal.names-preserved
names-preserved c =
    let ts = c.args.tokens.now in
    let behind = c.in_ok-name.behind in
    record {
      so_far =
          c.names.invariant.so_far
          ∙ bare_more ts c.names.found c.names.place (c.in_ok-next.field-0-0.now, c.in_ok-next.next) (c.in_ok-name.name, behind)
          (sym c.sees_sign.ensures ∙ c.names-test.true) c.in_ok-next.ensures.read c.in_ok-name.ensures.read
          ∙ ap (λ l. reads_bare ts l behind) (sym c.in_ok-push-2.ensures.ok);
      moves = record {
        on = omega (arith, c.names.invariant.moves.on, c.in_ok-next.ensures.at, c.in_ok-name.ensures.moves.on);
        within = λ h. c.in_ok-name.ensures.moves.within;
      };
    }
