use Rattle.std.proofs.Common.{◌≡◌, ◌++◌, ap, sym, ◌∙◌, arith}
use Rattle.std.specs.String.{string_bytes}
use Rattle.py_parser_grammar.specs.Actions.{text_in}
use Rattle.py_parser_cursor.specs.Texts.{reads_texts}
use Rattle.py_parser_cursor.proofs.TextReading.{texts_more}
use Rattle.py_parser_cursor.proofs.word.texts.Goals as goal

pub texts-preserved : goal.texts-preserved
texts-preserved c =
    let ts = c.args.tokens.now in
    let grows : string_bytes c.push_str.new.self ≡ string_bytes c.texts.text ++ text_in c.in_ok-more.more.now.kind =
    c.in_ok-push_str.ensures.bytes ∙ ap (λ t. string_bytes c.texts.text ++ t) c.text_of-in-texts.ensures in
    record {
      so_far =
          c.texts.invariant.so_far
          ∙ texts_more ts (string_bytes c.texts.text) c.texts.place (c.in_ok-more.more.now, c.in_ok-more.next) (sym c.sees.ensures ∙ c.texts-test.true) c.in_ok-more.ensures.read
          ∙ ap (λ bs. reads_texts ts bs c.in_ok-more.next) (sym grows);
      moves = record {
        on = omega (arith, c.texts.invariant.moves.on, c.in_ok-more.ensures.at);
        within = λ h. omega (arith, c.in_ok-more.ensures.within);
      };
    }
