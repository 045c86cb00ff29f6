-- Reading imports, and the names of `global`.
use Rattle.std.proofs.Common.{◌≡◌, Bool, List, [], ◌∷◌, ◌++◌, Ok, Err, refl, sym, ◌∙◌}
use Rattle.py_syntax.specs.declared.key.Key.TheVariants as k
use Rattle.py_syntax.specs.declared.sign.Sign.TheVariants as s
use Rattle.py_syntax.specs.declared.token.Token.{Token}
use Rattle.py_syntax.specs.Statements as st
use Rattle.py_parser_grammar.specs.declared.terminal.Terminal.TheVariants as terminal
use Rattle.py_parser_grammar.specs.declared.place.Place.{Place}
use Rattle.py_parser_grammar.specs.Grammar as g
use Rattle.py_parser_grammar.specs.Grammar.{comma, tok, ◌·◌, GLOBAL, IMPORT, FROM, DOTTED, ALIAS}
use Rattle.py_parser_grammar.specs.Actions.{name_of, names_on, seconds}
use Rattle.py_parser_grammar.specs.Reader.{Outcome, ◌>>=◌, accept, sees}
use Rattle.py_parser_grammar.specs.Readings.{reads_sym, reads_many, reads_after}
use Rattle.py_parser_grammar.proofs.Opening.{sym_eq, bind_assoc, if_bind, if_same, bind_same}
use Rattle.py_parser_grammar.proofs.StatementEquations.{import_eq}
use Rattle.py_parser_cursor.specs.Names.{reads_names, reads_bare, reads_aliases, reads_imported, reads_as}

-- names that stand behind a first one
behind_first : {A B C : Type 0} (v : B) (f : List A → List B) (o : Outcome (List A)) (h : List B × Place → Outcome C) → (o >>= λ y. h (v ∷ f y.0, y.1)) ≡ ((o >>= λ y. Ok ((v ∷ []) ++ f y.0, y.1)) >>= h)
behind_first v f (Ok y) h = refl
behind_first v f (Err e) h = refl

pub global_eq : (ts : List Token) (p : Place) → reads_sym ts GLOBAL p ≡
    (accept ts (terminal.Key k.Global) p >>= λ x. accept ts terminal.Name x.1 >>= λ n. reads_names ts (name_of n.0 ∷ []) n.1 >>= λ y. Ok (st.at (st.Global y.0) x.0.span, y.1))
unfolding reads_names
global_eq ts p =
    sym_eq ts GLOBAL p
    ∙ bind_same (accept ts (terminal.Key k.Global) p) _ _ (λ x. bind_same (accept ts terminal.Name x.1) _ _ (λ n.
    behind_first (name_of n.0) names_on (reads_many ts (tok comma · tok terminal.Name) n.1) (λ y. Ok (st.at (st.Global y.0) x.0.span, y.1))))

pub import_as : (ts : List Token) (p : Place) → reads_sym ts IMPORT p ≡
    (accept ts (terminal.Key k.Import) p >>= λ x. reads_sym ts DOTTED x.1 >>= λ y. reads_as ts y.1 >>= λ n. Ok (st.at (st.Import y.0 n.0) x.0.span, n.1))
unfolding reads_as
import_as ts p = import_eq ts p ∙ simp (bind_assoc, if_bind)

in_brackets : {A C : Type 0} (v : A) (o : Outcome (List A × Bool)) (h : List A × Place → Outcome C) → (o >>= λ w. h (v ∷ w.0.0, w.1)) ≡ ((o >>= λ w. Ok ((v ∷ []) ++ w.0.0, w.1)) >>= h)
in_brackets v (Ok y) h = refl
in_brackets v (Err e) h = refl

pub from_imported : (ts : List Token) (p : Place) → reads_sym ts FROM p ≡
    (accept ts (terminal.Key k.From) p >>= λ x. reads_sym ts DOTTED x.1 >>= λ m. accept ts (terminal.Key k.Import) m.1 >>= λ i. reads_imported ts i.1 >>= λ y. Ok (st.at (st.From m.0 y.0) x.0.span, y.1))
unfolding reads_imported reads_bare reads_aliases
from_imported ts p =
    sym_eq ts FROM p
    ∙ bind_same (accept ts (terminal.Key k.From) p) _ _ (λ x. bind_same (reads_sym ts DOTTED x.1) _ _ (λ m. bind_same (accept ts (terminal.Key k.Import) m.1) _ _ (λ i.
    if_same (sees ts i.1 (terminal.Name ∷ []))
    (bind_same (reads_sym ts ALIAS i.1) _ _ (λ n. behind_first n.0 seconds (reads_many ts (tok comma · g.sym ALIAS) n.1) (λ y. Ok (st.at (st.From m.0 y.0) x.0.span, y.1)))
    ∙ sym (bind_assoc (reads_sym ts ALIAS i.1) _ _))
    (bind_same (accept ts (terminal.Sign s.LeftParen) i.1) _ _ (λ b. bind_same (reads_sym ts ALIAS b.1) _ _ (λ n.
    in_brackets n.0 (reads_after ts comma (g.sym ALIAS) n.1) (λ y. accept ts (terminal.Sign s.RightParen) y.1 >>= λ z. Ok (st.at (st.From m.0 y.0) x.0.span, z.1))))
    ∙ simp bind_assoc)
    ∙ sym (if_bind (sees ts i.1 (terminal.Name ∷ [])) _ _ _))))

pub ruleset global_names = (global_eq)

pub ruleset importing = (import_as, from_imported)
