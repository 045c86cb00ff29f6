-- What is seen of the next token.
use Rattle.std.proofs.Common.{◌≡◌, Bool, true, false, ◌||◌, List, [], ◌∷◌, ◌++◌, Option, Some, None, refl, ap, ◌∙◌}
use Rattle.std.specs.Prelude.{slice_get}
use Rattle.std.specs.List.{list_any}
use Rattle.py_syntax.specs.declared.token.Token.{Token}
use Rattle.py_parser_grammar.specs.declared.terminal.Terminal.{Terminal}
use Rattle.py_parser_grammar.specs.declared.place.Place.{Place}
use Rattle.py_parser_grammar.specs.Terminals.{terminal_of, same, among, next_in}
use Rattle.py_parser_grammar.specs.Reader.{sees}

pub among_any : (c : Terminal) (ds : List Terminal) → list_any (λ d. same c d) ds ≡ among c ds
among_any c [] = refl
among_any c (d ∷ ds) = ap (λ b. same c d || b) (among_any c ds)

among_append : (c : Terminal) (ds es : List Terminal) → among c (ds ++ es) ≡ (among c ds || among c es)
among_append c [] es = refl
among_append c (d ∷ ds) es = ap (λ b. same c d || b) (among_append c ds es) ∙ go (same c d)
  where
    go : (b : Bool) → (b || (among c ds || among c es)) ≡ ((b || among c ds) || among c es)
    go true = refl
    go false = refl

next_append : (o : Option Token) (cs ds : List Terminal) → next_in o (cs ++ ds) ≡ (next_in o cs || next_in o ds)
next_append None cs ds = refl
next_append (Some t) cs ds = among_append (terminal_of t.kind) cs ds

-- one of these terminals or of those
pub sees_append : (ts : List Token) (p : Place) (cs ds : List Terminal) → sees ts p (cs ++ ds) ≡ (sees ts p cs || sees ts p ds)
sees_append ts p cs ds = next_append (slice_get ts p.at) cs ds

pub ruleset sights = (among_any, sees_append)
