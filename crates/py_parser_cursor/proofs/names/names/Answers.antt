use Rattle.std.proofs.Common.{[], ◌∷◌, ◌++◌, ap, sym, ◌∙◌, arith}
use Rattle.py_parser_cursor.specs.Names.{reads_names}
use Rattle.py_parser_cursor.proofs.NameReading.{names_more}
use Rattle.py_parser_cursor.proofs.names.names.Goals as goal

pub names-preserved : goal.names-preserved
names-preserved c =
    let ts = c.args.tokens.now in
    let behind = c.in_ok-token.behind in
    record {
      so_far =
          c.names.invariant.so_far
          ∙ names_more ts c.names.found c.names.place (c.in_ok-next.field-0-0.now, c.in_ok-next.next) (c.in_ok-token.token.now, behind)
          (sym c.sees_sign.ensures ∙ c.names-test.true) c.in_ok-next.ensures.read c.in_ok-token.ensures.read
          ∙ ap (λ l. reads_names ts l behind) (sym (c.in_ok-push-2.ensures.ok ∙ ap (λ n. c.names.found ++ n ∷ []) c.in_ok-name.ensures));
      moves = record {
        on = omega (arith, c.names.invariant.moves.on, c.in_ok-next.ensures.at, c.in_ok-token.ensures.at);
        within = λ h. c.in_ok-token.ensures.within;
      };
    }
