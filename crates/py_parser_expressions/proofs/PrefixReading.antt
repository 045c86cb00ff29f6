-- Reading prefixes, one after the other.
use Rattle.std.proofs.Common.{◌≡◌, ℕ, ◌+◌, ◌-◌, ◌≤◌, ◌==◌, Bool, true, false, List, [], ◌∷◌, Option, Some, None, Ok, Err, if◌then◌else◌, refl, sym, ◌∙◌, ap, arith}
use Rattle.std.proofs.lemmas.Bool.Decides.{nat_tests}
use Rattle.std.specs.Prelude.{slice_get}
use Rattle.py_syntax.specs.declared.key.Key.TheVariants as k
use Rattle.py_syntax.specs.declared.sign.Sign.{Sign}
use Rattle.py_syntax.specs.declared.sign.Sign.TheVariants as s
use Rattle.py_syntax.specs.declared.token.Token.{Token}
use Rattle.py_syntax.specs.Expressions as e
use Rattle.py_parser_grammar.specs.declared.terminal.Terminal.{Terminal}
use Rattle.py_parser_grammar.specs.declared.terminal.Terminal.TheVariants as terminal
use Rattle.py_parser_grammar.specs.declared.place.Place.{Place}
use Rattle.py_parser_grammar.specs.Terminals.{terminal_of, same}
use Rattle.py_parser_grammar.specs.Levels.{Piece}
use Rattle.py_parser_grammar.specs.Grammar.{ExprSym, NOT, COMP, FACTOR, PRIMARY}
use Rattle.py_parser_grammar.specs.Actions.{piece}
use Rattle.py_parser_grammar.specs.Reader.{Outcome, ◌>>=◌, too_deep_at, accept, accept_one, take_it, refusal, sees}
use Rattle.py_parser_grammar.specs.Readings.{reads_expr, finish}
use Rattle.py_parser_cursor.specs.declared.fault.ParseError.{ParseError}
use Rattle.py_parser_cursor.specs.declared.starts.TheConstants.{SIGNS}
use Rattle.py_parser_cursor.specs.Gives.{Fails}
use Rattle.py_parser_expressions.specs.Prefixes.{prefixed, prefixes, prefix_node}
use Rattle.py_parser_expressions.proofs.ExprEquations.{not_eq, factor_eq}
use Rattle.py_parser_expressions.proofs.Prefixes.{prefixes_more, prefixes_fail}
use Rattle.py_parser_cursor.proofs.Faults.{fails_bind}

-- a token that was accepted is of the terminal
same_of : (o : Option Token) (c : Terminal) (p : Place) (x : Token × Place) → accept_one o c p ≡ Ok x → same (terminal_of x.0.kind) c ≡ true
same_of None c p x is = cc
same_of (Some t) c p x is = go (same (terminal_of t.kind) c) refl is
  where
    taken : (d : Bool) → (if d then Err (too_deep_at (p.at - 1)) else Ok (t, record { at = p.at + 1; deep = false })) ≡ Ok x → t ≡ x.0
    taken true h = cc
    taken false h = cc

    go : (b : Bool) → same (terminal_of t.kind) c ≡ b → (if b then take_it t p else Err (refusal (Some t) p.at)) ≡ Ok x → same (terminal_of x.0.kind) c ≡ true
    go true e h = rw (← taken p.deep h) e
    go false e h = cc

pub accept_same : (ts : List Token) (c : Terminal) (p : Place) (x : Token × Place) → accept ts c p ≡ Ok x → same (terminal_of x.0.kind) c ≡ true
accept_same ts c p x is = same_of (slice_get ts p.at) c p x is

-- which prefix a token is
not_node : (t : Token) (v : e.ExprTree) → same (terminal_of t.kind) (terminal.Key k.Not) ≡ true → prefix_node t v ≡ e.Not v
not_node t v h = rw h refl

apart : (n : ℕ) → ((n == 51) ≡ true → (n == 36) ≡ false) × ((n == 50) ≡ true → (n == 36) ≡ false) × ((n == 50) ≡ true → (n == 51) ≡ false)
apart n = (λ h. grind (arith, nat_tests), λ h. grind (arith, nat_tests), λ h. grind (arith, nat_tests))

minus_node : (t : Token) (v : e.ExprTree) → same (terminal_of t.kind) (terminal.Sign s.Minus) ≡ true → prefix_node t v ≡ e.Neg v
minus_node t v h = let n : same (terminal_of t.kind) (terminal.Key k.Not) ≡ false = (apart _).0 h in rw (n, h) refl

plus_node : (t : Token) (v : e.ExprTree) → same (terminal_of t.kind) (terminal.Sign s.Plus) ≡ true → prefix_node t v ≡ e.Plus v
plus_node t v h =
    let n : same (terminal_of t.kind) (terminal.Key k.Not) ≡ false = (apart _).1 h in
    let m : same (terminal_of t.kind) (terminal.Sign s.Minus) ≡ false = (apart _).2 h in
    rw (n, m) refl

prefixed_of : (t : Token) (f : e.ExprTree → e.ExprNode) (o : Outcome Piece) → ((v : e.ExprTree) → prefix_node t v ≡ f v) → (o >>= λ y. finish (piece (f y.0.tree) t.span) y.1) ≡ prefixed t o
prefixed_of t f (Ok y) h = ap (λ n. finish (piece n t.span) y.1) (sym (h y.0.tree))
prefixed_of t f (Err q) h = refl

not_more : (ts : List Token) (q : Place) (x : Token × Place) → sees ts q (terminal.Key k.Not ∷ []) ≡ true → accept ts (terminal.Key k.Not) q ≡ Ok x
    → reads_expr ts NOT q ≡ prefixed x.0 (reads_expr ts NOT x.1)
not_more ts q x s a =
    let flat : reads_expr ts NOT q ≡ (reads_expr ts NOT x.1 >>= λ y. finish (piece (e.Not y.0.tree) x.0.span) y.1) = not_eq ts q ∙ rw (s, a) refl in
    flat ∙ prefixed_of x.0 e.Not (reads_expr ts NOT x.1) (λ v. not_node x.0 v (accept_same ts (terminal.Key k.Not) q x a))

-- the sign that comes next
abbrev pub sign_next : List Token → Place → Sign
sign_next ts q = if sees ts q (terminal.Sign s.Minus ∷ []) then s.Minus else s.Plus

sign_more : (ts : List Token) (q : Place) (x : Token × Place) → sees ts q SIGNS ≡ true → accept ts (terminal.Sign (sign_next ts q)) q ≡ Ok x
    → reads_expr ts FACTOR q ≡ prefixed x.0 (reads_expr ts FACTOR x.1)
sign_more ts q x b a = factor_eq ts q ∙ rw b (go (sees ts q (terminal.Sign s.Minus ∷ [])) a)
  where
    go : (m : Bool) → accept ts (terminal.Sign (if m then s.Minus else s.Plus)) q ≡ Ok x
        → (if m
        then (accept ts (terminal.Sign s.Minus) q >>= λ x. reads_expr ts FACTOR x.1 >>= λ y. finish (piece (e.Neg y.0.tree) x.0.span) y.1)
        else (accept ts (terminal.Sign s.Plus) q >>= λ x. reads_expr ts FACTOR x.1 >>= λ y. finish (piece (e.Plus y.0.tree) x.0.span) y.1))
        ≡ prefixed x.0 (reads_expr ts FACTOR x.1)
    go true a = rw a (prefixed_of x.0 e.Neg (reads_expr ts FACTOR x.1) (λ v. minus_node x.0 v (accept_same ts (terminal.Sign s.Minus) q x a)))
    go false a = rw a (prefixed_of x.0 e.Plus (reads_expr ts FACTOR x.1) (λ v. plus_node x.0 v (accept_same ts (terminal.Sign s.Plus) q x a)))

sign_fails : (ts : List Token) (q : Place) (fault : ParseError) → sees ts q SIGNS ≡ true → Fails fault (accept ts (terminal.Sign (sign_next ts q)) q) → Fails fault (reads_expr ts FACTOR q)
sign_fails ts q fault b h = rw (factor_eq ts q, b) (go (sees ts q (terminal.Sign s.Minus ∷ [])) h)
  where
    go : (m : Bool) → Fails fault (accept ts (terminal.Sign (if m then s.Minus else s.Plus)) q)
        → Fails fault (if m
        then (accept ts (terminal.Sign s.Minus) q >>= λ x. reads_expr ts FACTOR x.1 >>= λ y. finish (piece (e.Neg y.0.tree) x.0.span) y.1)
        else (accept ts (terminal.Sign s.Plus) q >>= λ x. reads_expr ts FACTOR x.1 >>= λ y. finish (piece (e.Plus y.0.tree) x.0.span) y.1))
    go true h = fails_bind fault (accept ts (terminal.Sign s.Minus) q) _ h
    go false h = fails_bind fault (accept ts (terminal.Sign s.Plus) q) _ h

-- ---- what reading an expression is, behind the prefixes that were read

one_more_prefix : (ts : List Token) (z : ExprSym) (p q : Place) (x : Token × Place)
    → reads_expr ts z p ≡ prefixes ts p.at (q.at - p.at) (reads_expr ts z q) → p.at ≤ q.at → slice_get ts q.at ≡ Some x.0 → x.1.at ≡ q.at + 1
    → reads_expr ts z q ≡ prefixed x.0 (reads_expr ts z x.1)
    → reads_expr ts z p ≡ prefixes ts p.at (x.1.at - p.at) (reads_expr ts z x.1)
one_more_prefix ts z p q x so on at next step =
    let here : slice_get ts (p.at + (q.at - p.at)) ≡ Some x.0 = let w : p.at + (q.at - p.at) ≡ q.at = omega arith in rw w at in
    let count : (q.at - p.at) + 1 ≡ x.1.at - p.at = omega arith in
    so ∙ ap (prefixes ts p.at (q.at - p.at)) step
    ∙ sym (prefixes_more ts p.at (q.at - p.at) x.0 (reads_expr ts z x.1) here)
    ∙ ap (λ n. prefixes ts p.at n (reads_expr ts z x.1)) count

pub nots_more : (ts : List Token) (p q : Place) (x : Token × Place)
    → reads_expr ts NOT p ≡ prefixes ts p.at (q.at - p.at) (reads_expr ts NOT q) → p.at ≤ q.at → slice_get ts q.at ≡ Some x.0 → x.1.at ≡ q.at + 1
    → sees ts q (terminal.Key k.Not ∷ []) ≡ true → accept ts (terminal.Key k.Not) q ≡ Ok x
    → reads_expr ts NOT p ≡ prefixes ts p.at (x.1.at - p.at) (reads_expr ts NOT x.1)
nots_more ts p q x so on at next s a = one_more_prefix ts NOT p q x so on at next (not_more ts q x s a)

pub nots_fails : (ts : List Token) (p q : Place) (e : ParseError)
    → reads_expr ts NOT p ≡ prefixes ts p.at (q.at - p.at) (reads_expr ts NOT q) → sees ts q (terminal.Key k.Not ∷ []) ≡ true → Fails e (accept ts (terminal.Key k.Not) q)
    → Fails e (reads_expr ts NOT p)
nots_fails ts p q e so s h = rw so (prefixes_fail ts p.at (q.at - p.at) e (reads_expr ts NOT q) (rw (not_eq ts q, s) (fails_bind e (accept ts (terminal.Key k.Not) q) _ h)))

pub nots_end : (ts : List Token) (p q : Place) (y : Piece × Place)
    → reads_expr ts NOT p ≡ prefixes ts p.at (q.at - p.at) (reads_expr ts NOT q) → sees ts q (terminal.Key k.Not ∷ []) ≡ false
    → reads_expr ts COMP q ≡ Ok y → finish y.0 y.1 ≡ Ok y → reads_expr ts NOT p ≡ prefixes ts p.at (q.at - p.at) (Ok y)
nots_end ts p q y so s r f =
    let flat : reads_expr ts NOT q ≡ finish y.0 y.1 = not_eq ts q ∙ rw (s, r) refl in
    so ∙ ap (prefixes ts p.at (q.at - p.at)) (flat ∙ f)

pub comp_fails : (ts : List Token) (p q : Place) (e : ParseError)
    → reads_expr ts NOT p ≡ prefixes ts p.at (q.at - p.at) (reads_expr ts NOT q) → sees ts q (terminal.Key k.Not ∷ []) ≡ false → Fails e (reads_expr ts COMP q)
    → Fails e (reads_expr ts NOT p)
comp_fails ts p q e so s h = rw so (prefixes_fail ts p.at (q.at - p.at) e (reads_expr ts NOT q) (rw (not_eq ts q, s) (fails_bind e (reads_expr ts COMP q) _ h)))

pub signs_more : (ts : List Token) (p q : Place) (x : Token × Place)
    → reads_expr ts FACTOR p ≡ prefixes ts p.at (q.at - p.at) (reads_expr ts FACTOR q) → p.at ≤ q.at → slice_get ts q.at ≡ Some x.0 → x.1.at ≡ q.at + 1
    → sees ts q SIGNS ≡ true → accept ts (terminal.Sign (sign_next ts q)) q ≡ Ok x
    → reads_expr ts FACTOR p ≡ prefixes ts p.at (x.1.at - p.at) (reads_expr ts FACTOR x.1)
signs_more ts p q x so on at next s a = one_more_prefix ts FACTOR p q x so on at next (sign_more ts q x s a)

pub signs_fails : (ts : List Token) (p q : Place) (e : ParseError)
    → reads_expr ts FACTOR p ≡ prefixes ts p.at (q.at - p.at) (reads_expr ts FACTOR q) → sees ts q SIGNS ≡ true → Fails e (accept ts (terminal.Sign (sign_next ts q)) q)
    → Fails e (reads_expr ts FACTOR p)
signs_fails ts p q e so s h = rw so (prefixes_fail ts p.at (q.at - p.at) e (reads_expr ts FACTOR q) (sign_fails ts q e s h))

pub signs_end : (ts : List Token) (p q : Place) (y : Piece × Place)
    → reads_expr ts FACTOR p ≡ prefixes ts p.at (q.at - p.at) (reads_expr ts FACTOR q) → sees ts q SIGNS ≡ false
    → reads_expr ts PRIMARY q ≡ Ok y → finish y.0 y.1 ≡ Ok y → reads_expr ts FACTOR p ≡ prefixes ts p.at (q.at - p.at) (Ok y)
signs_end ts p q y so s r f =
    let flat : reads_expr ts FACTOR q ≡ finish y.0 y.1 = factor_eq ts q ∙ rw (s, r) refl in
    so ∙ ap (prefixes ts p.at (q.at - p.at)) (flat ∙ f)

pub primary_fails : (ts : List Token) (p q : Place) (e : ParseError)
    → reads_expr ts FACTOR p ≡ prefixes ts p.at (q.at - p.at) (reads_expr ts FACTOR q) → sees ts q SIGNS ≡ false → Fails e (reads_expr ts PRIMARY q)
    → Fails e (reads_expr ts FACTOR p)
primary_fails ts p q e so s h = rw so (prefixes_fail ts p.at (q.at - p.at) e (reads_expr ts FACTOR q) (rw (factor_eq ts q, s) (fails_bind e (reads_expr ts PRIMARY q) _ h)))

pub ruleset nots = (nots_fails, comp_fails)

pub ruleset signs = (signs_fails, primary_fails)
