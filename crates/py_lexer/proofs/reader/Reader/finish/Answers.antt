use Rattle.std.proofs.Common.{ap, ◌∙◌, rules, reverse}
use Rattle.py_lexer.specs.Remaining.{over_of}
use Rattle.py_lexer.proofs.LineLemmas.{finished}
use Rattle.py_lexer.proofs.reader.Reader.finish.Goals as goal

pub returns : goal.returns
returns c =
    let s = c.args.self in
    let end = c.args.end in
    let r = c.end_line.new.self in
    finished end s.tokens.items r.tokens.items c.close.new.tokens.items c.from_vec.result (reverse s.levels.items) s.line s.column s.is_leading s.last r.levels.items end.line r.line r.column r.is_leading r.last c.len.result _
    (c.unclosed.ensures ∙ ap over_of c.in_default.is) (c.in_ok-end_line.ensures.keeps end) c.in_ok-end_line.ensures.ended.0 (search (rules, c.len.ensures)) c.in_ok-close.ensures (c.from_vec.ensures ∙ c.in_ok-push.ensures.items)
