-- Reading texts side by side.
use Rattle.std.proofs.Common.{◌≡◌, ℕ, true, List, [], ◌∷◌, ◌++◌, Ok, if◌then◌else◌, refl, sym, ◌∙◌, ap}
use Rattle.py_syntax.specs.declared.token.Token.{Token}
use Rattle.py_parser_grammar.specs.declared.terminal.Terminal.TheVariants as terminal
use Rattle.py_parser_grammar.specs.declared.place.Place.{Place}
use Rattle.py_parser_grammar.specs.Grammar.{tok}
use Rattle.py_parser_grammar.specs.Actions.{texts_of, text_in}
use Rattle.py_parser_grammar.specs.Reader.{◌>>=◌, accept, sees}
use Rattle.py_parser_grammar.specs.Readings.{reads_many, many_into, spread}
use Rattle.py_parser_grammar.proofs.Opening.{bind_same, if_same}
use Rattle.py_parser_grammar.proofs.ExpressionEquations.{texts_round}
use Rattle.py_parser_cursor.specs.Texts.{reads_texts}
use Rattle.py_parser_cursor.proofs.Binds.{regrouped}

texts_spread : (vs : List Token) → spread (λ t. text_in t.kind) vs ≡ texts_of vs
texts_spread [] = refl
texts_spread (v ∷ vs) = ap (λ l. text_in v.kind ++ l) (texts_spread vs)

pub texts_into : (ts : List Token) (front : List ℕ) (p : Place) → many_into (λ (t : Token). text_in t.kind) front (reads_many ts (tok terminal.Str) p) ≡ reads_texts ts front p
unfolding reads_texts
texts_into ts front p = regrouped (spread (λ t. text_in t.kind)) texts_of front (reads_many ts (tok terminal.Str) p) texts_spread

pub texts_eq : (ts : List Token) (front : List ℕ) (p : Place) → reads_texts ts front p ≡
    (if sees ts p (terminal.Str ∷ []) then (accept ts terminal.Str p >>= λ x. reads_texts ts (front ++ text_in x.0.kind) x.1) else Ok (front, p))
texts_eq ts front p =
    sym (texts_into ts front p) ∙ texts_round ts p front
    ∙ if_same (sees ts p (terminal.Str ∷ [])) (bind_same (accept ts terminal.Str p) _ _ (λ x. texts_into ts (front ++ text_in x.0.kind) x.1)) refl

pub texts_more : (ts : List Token) (front : List ℕ) (p : Place) (x : Token × Place) → sees ts p (terminal.Str ∷ []) ≡ true → accept ts terminal.Str p ≡ Ok x → reads_texts ts front p ≡ reads_texts ts (front ++ text_in x.0.kind) x.1
texts_more ts front p x a b = texts_eq ts front p ∙ rw (a, b) refl

pub ruleset texts = (texts_eq)
