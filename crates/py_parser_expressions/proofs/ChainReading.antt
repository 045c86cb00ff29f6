-- Reading operands and operators that group from the left, one after the other.
use Rattle.std.proofs.Common.{◌≡◌, Bool, true, false, List, Ok, Err, if◌then◌else◌, refl, ◌∙◌, ap}
use Rattle.py_syntax.specs.declared.token.Token.{Token}
use Rattle.py_parser_grammar.specs.declared.place.Place.{Place}
use Rattle.py_parser_grammar.specs.Levels.{Piece}
use Rattle.py_parser_grammar.specs.Grammar.{More}
use Rattle.py_parser_grammar.specs.Reader.{Outcome, ◌>>=◌, sees, starts_more}
use Rattle.py_parser_grammar.specs.Readings.{reads_expr, reads_grown, growth, finish}
use Rattle.py_parser_cursor.specs.declared.fault.ParseError.{ParseError}
use Rattle.py_parser_cursor.specs.declared.operator.Level.{Level}
use Rattle.py_parser_cursor.specs.Gives.{Fails}
use Rattle.py_parser_cursor.specs.Operators.{sym_of, below_of, more_of}
use Rattle.py_parser_grammar.proofs.Chains.{grown_eq}
use Rattle.py_parser_expressions.proofs.ExprEquations.{level_eq}
use Rattle.py_parser_cursor.proofs.Faults.{fails_bind}

-- what goes on with an expression, and is finished
unfoldable pub reads_behind : List Token → More → Piece → Place → Outcome Piece
reads_behind ts m v p = reads_grown ts m v p >>= λ x. finish x.0 x.1

pub chain_start : (ts : List Token) (l : Level) (p : Place) (x : Piece × Place) → reads_expr ts (below_of l) p ≡ Ok x → reads_expr ts (sym_of l) p ≡ reads_behind ts (more_of l) x.0 x.1
unfolding reads_behind
chain_start ts l p x r = level_eq ts l p ∙ rw r refl

pub chain_fails : (ts : List Token) (l : Level) (p : Place) (e : ParseError) → Fails e (reads_expr ts (below_of l) p) → Fails e (reads_expr ts (sym_of l) p)
chain_fails ts l p e h = rw (level_eq ts l p) (fails_bind e (reads_expr ts (below_of l) p) _ h)

behind_eq : (ts : List Token) (m : More) (v : Piece) (p : Place) → reads_behind ts m v p ≡ (if sees ts p (starts_more m) then (growth ts m v p >>= λ x. reads_behind ts m x.0 x.1) else finish v p)
unfolding reads_behind
behind_eq ts m v p = ap (λ o. o >>= λ x. finish x.0 x.1) (grown_eq ts m v p) ∙ go (sees ts p (starts_more m)) (growth ts m v p)
  where
    go : (b : Bool) (o : Outcome Piece)
        → ((if b then (o >>= λ x. reads_grown ts m x.0 x.1) else Ok (v, p)) >>= λ x. finish x.0 x.1)
        ≡ (if b then (o >>= λ x. reads_grown ts m x.0 x.1 >>= λ x. finish x.0 x.1) else finish v p)
    go true (Ok x) = refl
    go true (Err e) = refl
    go false o = refl

pub chain_more : (ts : List Token) (m : More) (v : Piece) (q : Place) (x : Piece × Place) → sees ts q (starts_more m) ≡ true → growth ts m v q ≡ Ok x → reads_behind ts m v q ≡ reads_behind ts m x.0 x.1
chain_more ts m v q x s g = behind_eq ts m v q ∙ rw (s, g) refl

pub chain_end : (ts : List Token) (m : More) (v : Piece) (q : Place) → sees ts q (starts_more m) ≡ false → reads_behind ts m v q ≡ finish v q
chain_end ts m v q s = behind_eq ts m v q ∙ rw s refl

pub growth_fails : (ts : List Token) (m : More) (v : Piece) (q : Place) (e : ParseError) → sees ts q (starts_more m) ≡ true → Fails e (growth ts m v q) → Fails e (reads_behind ts m v q)
growth_fails ts m v q e s h = rw (behind_eq ts m v q, s) (fails_bind e (growth ts m v q) (λ x. reads_behind ts m x.0 x.1) h)

pub ruleset chains = (chain_start, chain_fails, chain_more, chain_end, growth_fails)
