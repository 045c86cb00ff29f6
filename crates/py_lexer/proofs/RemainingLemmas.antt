-- Tokens that stand behind those so far, and faults.
use Rattle.std.proofs.Common.{◌≡◌, List, [], ◌∷◌, ◌++◌, Ok, Err, refl, ap}
use Rattle.py_syntax.specs.declared.token.Token.{Token}
use Rattle.py_lexer.specs.Reading.{Fault}
use Rattle.py_lexer.specs.Remaining.{behind}
use Rattle.py_lexer.specs.Tokens.{Item, put}

pub behind_push : (ts : List Token) (t : Token) (items : List Item) → behind (ts ++ t ∷ []) items ≡ behind ts (Ok t ∷ items)
behind_push [] t items = refl
behind_push (x ∷ ts) t items = ap (put x) (behind_push ts t items)

pub behind_fault : (ts : List Token) (f : Fault) (items : List Item) → behind ts (Err f ∷ items) ≡ Err f
behind_fault [] f items = refl
behind_fault (x ∷ ts) f items = ap (put x) (behind_fault ts f items)

pub behind_none : (ts : List Token) → behind ts [] ≡ Ok ts
behind_none [] = refl
behind_none (t ∷ ts) = ap (put t) (behind_none ts)
