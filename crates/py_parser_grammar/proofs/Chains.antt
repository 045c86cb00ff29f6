-- Each expression is finished once, and what goes on with one is read in a loop.
use Rattle.std.specs.Prelude.{nat_le}
use Rattle.std.proofs.Common.{◌≡◌, ℕ, Bool, true, false, not, ◌||◌, List, Ok, Err, if◌then◌else◌, refl, sym, ◌∙◌, ap, subst}
use Rattle.py_syntax.specs.declared.token.Token.{Token}
use Rattle.py_parser_grammar.specs.declared.place.Place.{Place}
use Rattle.py_parser_grammar.specs.Levels.{Piece, shallow}
use Rattle.py_parser_grammar.specs.Grammar as g
use Rattle.py_parser_grammar.specs.Grammar.{ExprSym, More, Sym, expr, more, Part, tok, ◌·◌, ◌⊕◌, maybe, many, after, left, grown, rhs, expression, sign, key, list, comma, body, TESTS, TARGETS, TEST, OR, AND, NOT, COMP, BOR, SHIFT, SUM, TERM, FACTOR, PRIMARY, ATOM, OR_MORE, AND_MORE, BOR_MORE, SHIFT_MORE, SUM_MORE, TERM_MORE, TRAILER, COMP_MORE, COMP_OP, ARG, ENTRY, PLAIN, AUG, RETURN, RAISE, GLOBAL, ASSERT, DEL, IMPORT, FROM, DOTTED, ALIAS, SMALL, SIMPLE, STMT, IF, ARM, WHILE, FOR, TRY, EXCEPT, FINALLY, BLOCK, FUNC, PARAM, CLASS, CBLOCK, MEMBER, MARK, DECORATED, TOP, MODULE}
use Rattle.py_parser_grammar.specs.Actions.{act, grow}
use Rattle.py_parser_grammar.specs.Reader.{Outcome, ◌>>=◌, keep_small, stand_in, close, reads, sees, starts_more}
use Rattle.py_parser_grammar.specs.Readings.{reads_sym, reads_expr, reads_grown, growth, finish}
use Rattle.py_parser_grammar.proofs.Steps.{weight, reads-eq}
use Rattle.py_parser_grammar.proofs.Opening.{bind_assoc, if_same}

-- ---- expressions are finished once

abbrev pub Finished : Outcome Piece → Type 0
Finished (Ok x) = finish x.0 x.1 ≡ Ok x
Finished (Err e) = Unit {0}

finished_then : {A : Type 0} (o : Outcome A) (f : A × Place → Outcome Piece) → ((x : A × Place) → Finished (f x)) → Finished (o >>= f)
finished_then (Ok x) f h = h x
finished_then (Err e) f h = tt

-- what is kept of a piece with the outcome of its test and the place
abbrev told : Bool → Piece → ℕ → Bool → Outcome Piece
told fits v i d = Ok (if not fits || d then stand_in else v, record { at = i; deep = not fits || d })

finish_finished : (v : Piece) (p : Place) → Finished (finish v p)
finish_finished v p = go (shallow v.tree) p.deep refl
  where
    go : (f d : Bool) → shallow v.tree ≡ f → Finished (told f v p.at d)
    go true true e = refl
    go true false e = ap (λ f. told f v p.at false) e
    go false d e = refl

pub expr_finished : (ts : List Token) (e : ExprSym) (p : Place) → Finished (reads_expr ts e p)
unfolding reads_sym
expr_finished ts e p =
    subst Finished (sym (reads-eq ts (g.sym (expr e)) p refl (rank_at e)))
    (finished_then (reads ts (rhs (expr e)) p) (λ v. close keep_small (expr e) (act (expr e) v.0) v.1) (λ v. finish_finished (act (expr e) v.0) v.1))
  where
    rank_at : (e : ExprSym) → nat_le (weight (g.sym (expr e))) 900 ≡ true
    rank_at TESTS = refl
    rank_at _ = refl

-- ---- growth

pub grown_eq : (ts : List Token) (m : More) (v : Piece) (p : Place) → reads_grown ts m v p ≡ (if sees ts p (starts_more m) then (growth ts m v p >>= λ x. reads_grown ts m x.0 x.1) else Ok (v, p))
unfolding reads_grown growth reads_sym
grown_eq ts m v p =
    reads-eq ts (grown m v) p refl refl
    ∙ if_same (sees ts p (starts_more m)) (sym (bind_assoc (reads ts (g.sym (more m)) p) (λ x. finish (grow m v x.0) x.1) (λ x. reads ts (grown m x.0) x.1))) refl
