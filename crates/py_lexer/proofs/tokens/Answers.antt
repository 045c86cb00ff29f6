use Rattle.std.proofs.Common.{ap, subst, ◌∙◌, Result, List, chars}
use Rattle.py_syntax.specs.declared.token.Token.{Token}
use Rattle.py_lexer.specs.Reading.{Gives, Fault}
use Rattle.py_lexer.specs.Places.{plain}
use Rattle.py_lexer.specs.Tokens.{tokens_of}
use Rattle.py_lexer.proofs.ReadLemmas.{from_text}
use Rattle.py_lexer.proofs.TokenLaws.{gives_end, gives_balance, gives_order, gives_spelling}
use Rattle.py_lexer.proofs.tokens.Goals as goal

-- what was read are the tokens of the text
exact : (c : goal.After-drop-text-4) → Gives (λ t. t.list) c.read.result (tokens_of (chars c.args.text.now))
exact c =
    let plain_is = c.deref-2.ensures.value ∙ c.in_ok-text-2.ensures ∙ ap plain (c.deref.ensures.value ∙ c.in_ok-text.ensures) in
    subst (λ (r : Result (List Token) Fault). Gives (λ t. t.list) c.read.result r)
    (from_text (chars c.args.text.now) c.deref-2.result.now c.deref-3.result.now c.in_ok-text-3.end plain_is (c.deref-3.ensures.value ∙ c.in_ok-text-3.ensures.0) c.in_ok-text-3.ensures.1)
    c.read.ensures

pub returns-clause-exact : goal.returns-clause-exact
returns-clause-exact c = exact c

pub returns-clause-ended : goal.returns-clause-ended
returns-clause-ended c = gives_end c.read.result (chars c.args.text.now) (exact c)

pub returns-clause-balanced : goal.returns-clause-balanced
returns-clause-balanced c = gives_balance c.read.result (chars c.args.text.now) (exact c)

pub returns-clause-in_order : goal.returns-clause-in_order
returns-clause-in_order c = gives_order c.read.result (chars c.args.text.now) (exact c)

pub returns-clause-spelled : goal.returns-clause-spelled
returns-clause-spelled c = gives_spelling c.read.result (chars c.args.text.now) (exact c)
