use Rattle.std.proofs.Common.{◌≡◌, [], ◌∷◌, ◌++◌, ap, sym, ◌∙◌, arith, append_assoc}
use Rattle.std.specs.String.{string_bytes}
use Rattle.py_parser_grammar.specs.Actions.{name_of}
use Rattle.py_parser_cursor.specs.Names.{reads_dots}
use Rattle.py_parser_cursor.proofs.NameReading.{dots_more}
use Rattle.py_parser_cursor.proofs.names.dots.Goals as goal

pub dots-preserved : goal.dots-preserved
dots-preserved c =
    let ts = c.args.tokens.now in
    let behind = c.in_ok-token.behind in
    let name = name_of c.in_ok-token.token.now in
    let dot : string_bytes c.push_str.new.self ≡ string_bytes c.dots.text ++ 46 ∷ [] = c.in_ok-push_str.ensures.bytes in
    let all : string_bytes c.push_str-in-dots.new.self ≡ string_bytes c.dots.text ++ 46 ∷ name =
    c.in_ok-push_str-2.ensures.bytes
    ∙ ap (λ t. string_bytes c.push_str.new.self ++ t) c.name_text-in-dots.ensures
    ∙ ap (λ l. l ++ name) dot
    ∙ append_assoc (string_bytes c.dots.text) (46 ∷ []) name in
    record {
      so_far =
          c.dots.invariant.so_far
          ∙ dots_more ts (string_bytes c.dots.text) c.dots.place (c.in_ok-next.field-0-0.now, c.in_ok-next.next) (c.in_ok-token.token.now, behind)
          (sym c.sees_sign.ensures ∙ c.dots-test.true) c.in_ok-next.ensures.read c.in_ok-token.ensures.read
          ∙ ap (λ l. reads_dots ts l behind) (sym all);
      moves = record {
        on = omega (arith, c.dots.invariant.moves.on, c.in_ok-next.ensures.at, c.in_ok-token.ensures.at);
        within = λ h. c.in_ok-token.ensures.within;
      };
    }
