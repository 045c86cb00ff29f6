use Rattle.std.proofs.Common.{sym, ◌∙◌, rules, ◌≤◌, length}
use Rattle.py_lexer.specs.Remaining.{token_piece}
use Rattle.py_lexer.proofs.LineLemmas.{too_many, opens_from, some_of}
use Rattle.py_lexer.proofs.reader.Reader.token.Goals as goal

pub returns-then-len-ge-MOST_LEVELS-clause-keeps : goal.returns-then-len-ge-MOST_LEVELS-clause-keeps
returns-then-len-ge-MOST_LEVELS-clause-keeps c = λ end text ps.
    let s = c.args.self.now in
    let e = some_of s.last c.requires in
    let many : 100 ≤ length s.brackets.items = search (rules, c.if-len-ge-MOST_LEVELS.true) in
    too_many end s.tokens.items _ s.line s.column s.is_leading s.last e.0 s.joined s.brackets.items (token_piece c.args.kind text c.args.from c.args.to) ps e.1 (opens_from c.args.kind (sym c.bracket_of.ensures ∙ c.in-Opening.is)) many
