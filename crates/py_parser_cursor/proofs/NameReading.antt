-- Reading names in rows, one after the other.
use Rattle.std.proofs.Common.{◌≡◌, ℕ, Bool, true, List, [], ◌∷◌, ◌++◌, Option, Ok, Err, if◌then◌else◌, refl, sym, ◌∙◌, ap}
use Rattle.py_syntax.specs.declared.sign.Sign.TheVariants as s
use Rattle.py_syntax.specs.declared.token.Token.{Token}
use Rattle.py_parser_grammar.specs.declared.terminal.Terminal.TheVariants as terminal
use Rattle.py_parser_grammar.specs.declared.place.Place.{Place}
use Rattle.py_parser_grammar.specs.Grammar as g
use Rattle.py_parser_grammar.specs.Grammar.{comma, tok, sign, ◌·◌, DOTTED, ALIAS}
use Rattle.py_parser_grammar.specs.Actions.{name_of, name_in, dotted_on, names_on, seconds}
use Rattle.py_parser_grammar.specs.Reader.{Outcome, ◌>>=◌, accept, sees}
use Rattle.py_parser_grammar.specs.Readings.{reads_sym, reads_many, reads_after, many_into, after_into, spread, single}
use Rattle.py_parser_grammar.proofs.Opening.{sym_eq, bind_assoc, if_bind, if_same, bind_same}
use Rattle.py_parser_grammar.proofs.Loops.{spread_single}
use Rattle.py_parser_grammar.proofs.StatementEquations.{dotted_part, name_part, second_part, spread_seconds, dotted_round, names_round, aliases_round, bracketed_aliases_round, alias_eq}
use Rattle.py_parser_cursor.specs.Names.{reads_names, reads_dots, reads_bare, reads_aliases, reads_as}
use Rattle.py_parser_cursor.proofs.Binds.{regrouped}

same_dotted : (vs : List (Token × Token)) → spread dotted_part vs ≡ dotted_on vs
same_dotted [] = refl
same_dotted (v ∷ vs) = ap (λ l. 46 ∷ (name_of v.1 ++ l)) (same_dotted vs)

same_names : (vs : List (Token × Token)) → spread name_part vs ≡ names_on vs
same_names [] = refl
same_names (v ∷ vs) = ap (λ l. name_of v.1 ∷ l) (same_names vs)

-- ---- names behind commas

names_into : (ts : List Token) (found : List (List ℕ)) (p : Place) → reads_names ts found p ≡ many_into name_part found (reads_many ts (tok comma · tok terminal.Name) p)
unfolding reads_names
names_into ts found p = sym (regrouped (spread name_part) names_on found (reads_many ts (tok comma · tok terminal.Name) p) same_names)

pub names_eq : (ts : List Token) (found : List (List ℕ)) (p : Place) → reads_names ts found p ≡
    (if sees ts p (comma ∷ []) then (accept ts comma p >>= λ d. accept ts terminal.Name d.1 >>= λ n. reads_names ts (found ++ name_of n.0 ∷ []) n.1) else Ok (found, p))
names_eq ts found p =
    names_into ts found p ∙ names_round ts p found
    ∙ if_same (sees ts p (comma ∷ []))
    (bind_same (accept ts comma p) _ _ (λ d. bind_same (accept ts terminal.Name d.1) _ _ (λ n. sym (names_into ts (found ++ name_of n.0 ∷ []) n.1)))) refl

pub names_more : (ts : List Token) (found : List (List ℕ)) (p : Place) (d n : Token × Place) → sees ts p (comma ∷ []) ≡ true → accept ts comma p ≡ Ok d → accept ts terminal.Name d.1 ≡ Ok n
    → reads_names ts found p ≡ reads_names ts (found ++ name_of n.0 ∷ []) n.1
names_more ts found p d n a b c = names_eq ts found p ∙ rw (a, b) (rw c refl)

-- ---- names behind dots

dots_into : (ts : List Token) (found : List ℕ) (p : Place) → reads_dots ts found p ≡ many_into dotted_part found (reads_many ts (sign s.Dot · tok terminal.Name) p)
unfolding reads_dots
dots_into ts found p = sym (regrouped (spread dotted_part) dotted_on found (reads_many ts (sign s.Dot · tok terminal.Name) p) same_dotted)

pub dots_eq : (ts : List Token) (found : List ℕ) (p : Place) → reads_dots ts found p ≡
    (if sees ts p (terminal.Sign s.Dot ∷ []) then (accept ts (terminal.Sign s.Dot) p >>= λ d. accept ts terminal.Name d.1 >>= λ n. reads_dots ts (found ++ 46 ∷ name_of n.0) n.1) else Ok (found, p))
dots_eq ts found p =
    dots_into ts found p ∙ dotted_round ts p found
    ∙ if_same (sees ts p (terminal.Sign s.Dot ∷ []))
    (bind_same (accept ts (terminal.Sign s.Dot) p) _ _ (λ d. bind_same (accept ts terminal.Name d.1) _ _ (λ n. sym (dots_into ts (found ++ 46 ∷ name_of n.0) n.1)))) refl

pub dots_more : (ts : List Token) (found : List ℕ) (p : Place) (d n : Token × Place) → sees ts p (terminal.Sign s.Dot ∷ []) ≡ true → accept ts (terminal.Sign s.Dot) p ≡ Ok d → accept ts terminal.Name d.1 ≡ Ok n
    → reads_dots ts found p ≡ reads_dots ts (found ++ 46 ∷ name_of n.0) n.1
dots_more ts found p d n a b c = dots_eq ts found p ∙ rw (a, b) (rw c refl)

pub dotted_dots : (ts : List Token) (p : Place) → reads_sym ts DOTTED p ≡ (accept ts terminal.Name p >>= λ x. reads_dots ts (name_in x.0.kind) x.1)
unfolding reads_dots
dotted_dots ts p = sym_eq ts DOTTED p

-- ---- names with new ones

pub alias_as : (ts : List Token) (p : Place) → reads_sym ts ALIAS p ≡ (accept ts terminal.Name p >>= λ x. reads_as ts x.1 >>= λ n. Ok ((name_of x.0, n.0), n.1))
unfolding reads_as
alias_as ts p = alias_eq ts p ∙ simp (bind_assoc, if_bind)

bare_into : (ts : List Token) (found : List (List ℕ × Option (List ℕ))) (p : Place) → reads_bare ts found p ≡ many_into second_part found (reads_many ts (tok comma · g.sym ALIAS) p)
unfolding reads_bare
bare_into ts found p = sym (regrouped (spread second_part) seconds found (reads_many ts (tok comma · g.sym ALIAS) p) spread_seconds)

pub bare_eq : (ts : List Token) (found : List (List ℕ × Option (List ℕ))) (p : Place) → reads_bare ts found p ≡
    (if sees ts p (comma ∷ []) then (accept ts comma p >>= λ d. reads_sym ts ALIAS d.1 >>= λ n. reads_bare ts (found ++ n.0 ∷ []) n.1) else Ok (found, p))
bare_eq ts found p =
    bare_into ts found p ∙ aliases_round ts p found
    ∙ if_same (sees ts p (comma ∷ []))
    (bind_same (accept ts comma p) _ _ (λ d. bind_same (reads_sym ts ALIAS d.1) _ _ (λ n. sym (bare_into ts (found ++ n.0 ∷ []) n.1)))) refl

pub bare_more : (ts : List Token) (found : List (List ℕ × Option (List ℕ))) (p : Place) (d : Token × Place) (n : (List ℕ × Option (List ℕ)) × Place) → sees ts p (comma ∷ []) ≡ true → accept ts comma p ≡ Ok d → reads_sym ts ALIAS d.1 ≡ Ok n
    → reads_bare ts found p ≡ reads_bare ts (found ++ n.0 ∷ []) n.1
bare_more ts found p d n a b c = bare_eq ts found p ∙ rw (a, b) (rw c refl)

untrailed : {A : Type 0} (found : List A) (o : Outcome (List A × Bool)) → (o >>= λ y. Ok (found ++ y.0.0, y.1)) ≡ (after_into single found o >>= λ y. Ok (y.0.0, y.1))
untrailed found (Ok y) = ap (λ l. Ok (found ++ l, y.1)) (sym (spread_single y.0.0))
untrailed found (Err e) = refl

aliases_into : (ts : List Token) (found : List (List ℕ × Option (List ℕ))) (p : Place) → reads_aliases ts found p ≡ (after_into single found (reads_after ts comma (g.sym ALIAS) p) >>= λ y. Ok (y.0.0, y.1))
unfolding reads_aliases
aliases_into ts found p = untrailed found (reads_after ts comma (g.sym ALIAS) p)

pub aliases_eq : (ts : List Token) (found : List (List ℕ × Option (List ℕ))) (p : Place) → reads_aliases ts found p ≡
    (if sees ts p (comma ∷ []) then (accept ts comma p >>= λ d. if sees ts d.1 (terminal.Name ∷ []) then (reads_sym ts ALIAS d.1 >>= λ n. reads_aliases ts (found ++ n.0 ∷ []) n.1) else Ok (found, d.1)) else Ok (found, p))
aliases_eq ts found p =
    aliases_into ts found p
    ∙ ap (λ o. o >>= λ y. Ok (y.0.0, y.1)) (bracketed_aliases_round ts p found)
    ∙ if_bind (sees ts p (comma ∷ [])) _ _ _
    ∙ if_same (sees ts p (comma ∷ []))
    (bind_assoc (accept ts comma p) _ _ ∙ bind_same (accept ts comma p) _ _ (λ d.
    if_bind (sees ts d.1 (terminal.Name ∷ [])) _ _ _
    ∙ if_same (sees ts d.1 (terminal.Name ∷ []))
    (bind_assoc (reads_sym ts ALIAS d.1) _ _ ∙ bind_same (reads_sym ts ALIAS d.1) _ _ (λ n. sym (aliases_into ts (found ++ n.0 ∷ []) n.1))) refl)) refl

pub aliases_more : (ts : List Token) (found : List (List ℕ × Option (List ℕ))) (p : Place) (d : Token × Place) (n : (List ℕ × Option (List ℕ)) × Place) → sees ts p (comma ∷ []) ≡ true → accept ts comma p ≡ Ok d
    → sees ts d.1 (terminal.Name ∷ []) ≡ true → reads_sym ts ALIAS d.1 ≡ Ok n
    → reads_aliases ts found p ≡ reads_aliases ts (found ++ n.0 ∷ []) n.1
aliases_more ts found p d n a b c r = aliases_eq ts found p ∙ rw (a, b) (rw (c, r) refl)

pub ruleset names = (names_eq)

pub ruleset dots = (dots_eq)

pub ruleset bares = (bare_eq)

pub ruleset aliases = (aliases_eq)

pub ruleset dotted_names = (dotted_dots)

pub ruleset aliasing = (alias_as)
