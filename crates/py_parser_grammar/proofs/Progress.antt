-- Where reading stops.
use Rattle.std.proofs.Common.{◌≡◌, ℕ, zero, suc, ◌+◌, ◌-◌, ◌≤◌, Bool, true, false, List, [], ◌∷◌, Option, Some, None, Ok, Err, if◌then◌else◌, refl, arith}
use Rattle.py_syntax.specs.declared.token.Token.{Token}
use Rattle.py_parser_grammar.specs.declared.terminal.Terminal.{Terminal}
use Rattle.py_parser_grammar.specs.declared.place.Place.{Place}
use Rattle.py_parser_grammar.specs.Terminals.{terminal_of, same, next_left_out}
use Rattle.py_parser_grammar.specs.Levels.{shallow}
use Rattle.py_parser_grammar.specs.Grammar as g
use Rattle.py_parser_grammar.specs.Grammar.{ExprSym, More, Sym, expr, more, Part, tok, ◌·◌, ◌⊕◌, maybe, many, after, left, grown, rhs, ATOM, MODULE}
use Rattle.py_parser_grammar.specs.Actions.{grow}
use Rattle.py_parser_grammar.specs.Reader.{Outcome, ◌>>=◌, Stop, syntax_at, profile_at, too_deep_at, out, keep_all, Reader, step, run, accept, accept_one, take_it, refusal, sees, firsts, starts_more, mark}
use Rattle.std.specs.Prelude.{slice_get}

pub bound : {A B : Type 0} (P : Outcome A → Type 0) (Q : Outcome B → Type 0) (f : A × Place → Outcome B) (o : Outcome A) → ((x : A × Place) → P (Ok x) → Q (f x)) → ((e : Stop) → P (Err e) → Q (Err e)) → P o → Q (o >>= f)
bound P Q f (Ok x) ok err h = ok x h
bound P Q f (Err e) ok err h = err e h

pub either_way : {A : Type 0} (Q : A → Type 0) (b : Bool) (x y : A) → (b ≡ true → Q x) → (b ≡ false → Q y) → Q (if b then x else y)
either_way Q true x y t f = t refl
either_way Q false x y t f = f refl

abbrev pub LaterStop : ℕ → Stop → Type 0
LaterStop i (syntax_at j) = i ≤ j
LaterStop i (profile_at j) = i ≤ j
LaterStop i (too_deep_at j) = i ≤ j + 1
LaterStop i out = Unit {0}

abbrev pub Later : {A : Type 0} → ℕ → Outcome A → Type 0
Later i (Ok x) = i ≤ x.1.at
Later i (Err e) = LaterStop i e

later_stop : (i j : ℕ) (e : Stop) → i ≤ j → LaterStop j e → LaterStop i e
later_stop i j (syntax_at l) h k = omega arith
later_stop i j (profile_at l) h k = omega arith
later_stop i j (too_deep_at l) h k = omega arith
later_stop i j out h k = tt

pub later_refusal : (o : Option Token) (i : ℕ) → LaterStop i (refusal o i)
later_refusal o i = either_way (LaterStop i) (next_left_out o) (profile_at i) (syntax_at i) (λ _. omega arith) (λ _. omega arith)

later_take : (t : Token) (p : Place) → Later p.at (take_it t p)
later_take t p = either_way (Later p.at) p.deep (Err (too_deep_at (p.at - 1))) (Ok (t, record { at = p.at + 1; deep = false })) (λ _. omega arith) (λ _. omega arith)

pub later_accept : (o : Option Token) (c : Terminal) (p : Place) → Later p.at (accept_one o c p)
later_accept None c p = omega arith
later_accept (Some t) c p = either_way (Later p.at) (same (terminal_of t.kind) c) (take_it t p) (Err (refusal (Some t) p.at)) (λ _. later_take t p) (λ _. later_refusal (Some t) p.at)

pub later_weaken : {A : Type 0} (i j : ℕ) (o : Outcome A) → i ≤ j → Later j o → Later i o
later_weaken i j (Ok y) h l = omega arith
later_weaken i j (Err e) h l = later_stop i j e h l

-- what comes behind a later place comes behind an earlier one
later_bind : {A B : Type 0} (i : ℕ) (f : A × Place → Outcome B) (o : Outcome A) → Later i o → ((x : A × Place) → Later x.1.at (f x)) → Later i (o >>= f)
later_bind i f (Ok x) h k = later_weaken i x.1.at (f x) h (k x)
later_bind i f (Err e) h k = h

module _ (ts : List Token) (run : Reader) (ih : (r : Part) (p : Place) → Later p.at (run r p)) where
  pub later_step : (r : Part) (p : Place) → Later p.at (step keep_all ts run r p)
  later_step (tok c) p = later_accept (slice_get ts p.at) c p
  later_step (g.sym s) p = later_bind p.at _ (run (rhs s) p) (ih (rhs s) p) (λ x. omega arith)
  later_step (a · b) p = later_bind p.at _ (run a p) (ih a p) (λ x. later_bind x.1.at _ (run b x.1) (ih b x.1) (λ y. omega arith))
  later_step (a ⊕ b) p = either_way (Later p.at) (sees ts p (firsts a)) _ _ (λ _. later_bind p.at _ (run a p) (ih a p) (λ x. omega arith)) (λ _. later_bind p.at _ (run b p) (ih b p) (λ x. omega arith))
  later_step (maybe a) p = either_way (Later p.at) (sees ts p (firsts a)) _ _ (λ _. later_bind p.at _ (run a p) (ih a p) (λ x. omega arith)) (λ _. omega arith)
  later_step (many a) p = either_way (Later p.at) (sees ts p (firsts a)) _ _ (λ _. later_bind p.at _ (run a p) (ih a p) (λ x. later_bind x.1.at _ (run (many a) x.1) (ih (many a) x.1) (λ y. omega arith))) (λ _. omega arith)
  later_step (after c a) p =
      either_way (Later p.at) (sees ts p (c ∷ [])) _ _
      (λ _. later_bind p.at _ (accept ts c p) (later_accept (slice_get ts p.at) c p) (λ x.
      either_way (Later x.1.at) (sees ts x.1 (firsts a)) _ _
      (λ _. later_bind x.1.at _ (run a x.1) (ih a x.1) (λ y. later_bind y.1.at _ (run (after c a) y.1) (ih (after c a) y.1) (λ z. omega arith)))
      (λ _. omega arith)))
      (λ _. omega arith)
  later_step (left e m) p = later_bind p.at _ (run (g.sym (expr e)) p) (ih (g.sym (expr e)) p) (λ x. ih (grown m x.0) x.1)
  later_step (grown m v) p =
      either_way (Later p.at) (sees ts p (starts_more m)) _ _
      (λ _. later_bind p.at _ (run (g.sym (more m)) p) (ih (g.sym (more m)) p) (λ x. ih (grown m (grow m v x.0)) (mark (shallow (grow m v x.0).tree) x.1)))
      (λ _. omega arith)

pub later : (ts : List Token) (n : ℕ) (r : Part) (p : Place) → Later p.at (run keep_all ts n r p)
unfolding run
later ts zero r p = tt
later ts (suc n) r p = later_step ts (run keep_all ts n) (later ts n) r p
