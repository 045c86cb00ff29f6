-- What may begin with the next token, as the code asks for it.
use Rattle.std.proofs.Common.{◌≡◌, ◌||◌, List, [], ◌∷◌, ap, ◌∙◌}
use Rattle.py_syntax.specs.declared.key.Key.TheVariants as k
use Rattle.py_syntax.specs.declared.token.Token.{Token}
use Rattle.py_parser_grammar.specs.declared.terminal.Terminal.TheVariants as terminal
use Rattle.py_parser_grammar.specs.declared.place.Place.{Place}
use Rattle.py_parser_grammar.specs.Grammar.{MEMBER, TOP}
use Rattle.py_parser_grammar.specs.Reader as r
use Rattle.py_parser_grammar.specs.Reader.{sees}
use Rattle.py_parser_cursor.specs.declared.starts.TheConstants.{LITERALS, SIGNS, BRACKETS, WORDS, COMPOUND, DEFINITIONS}
use Rattle.py_parser_cursor.proofs.Sights.{sees_append}

pub factors_start : (ts : List Token) (p : Place) → sees ts p r.factors ≡ (sees ts p SIGNS || (sees ts p LITERALS || sees ts p BRACKETS))
factors_start ts p = sees_append ts p SIGNS r.atoms ∙ ap (λ b. sees ts p SIGNS || b) (sees_append ts p LITERALS BRACKETS)

pub tests_start : (ts : List Token) (p : Place) → sees ts p r.tests ≡ (sees ts p (terminal.Key k.Not ∷ []) || sees ts p r.factors)
tests_start ts p = sees_append ts p (terminal.Key k.Not ∷ []) r.factors

pub smalls_start : (ts : List Token) (p : Place) → sees ts p r.smalls ≡ (sees ts p WORDS || sees ts p r.tests)
smalls_start ts p = sees_append ts p WORDS r.tests

pub stmts_start : (ts : List Token) (p : Place) → sees ts p r.stmts ≡ (sees ts p COMPOUND || sees ts p r.smalls)
stmts_start ts p = sees_append ts p COMPOUND r.smalls

pub member_start : (ts : List Token) (p : Place) → sees ts p (r.starts MEMBER) ≡ (sees ts p (terminal.Key k.Def ∷ []) || sees ts p r.stmts)
member_start ts p = sees_append ts p (terminal.Key k.Def ∷ []) r.stmts

pub top_start : (ts : List Token) (p : Place) → sees ts p (r.starts TOP) ≡ (sees ts p DEFINITIONS || sees ts p r.stmts)
top_start ts p = sees_append ts p DEFINITIONS r.stmts

pub ruleset starts = (factors_start, tests_start, smalls_start, stmts_start, member_start, top_start)
