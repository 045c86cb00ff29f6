-- Fronts with what may stand behind them, and what reading one token says of them.
use Rattle.std.proofs.Common.{◌≡◌, ℕ, ◌+◌, ◌-◌, ◌≤◌, ◌<◌, Bool, true, false, ◌&&◌, ◌||◌, List, [], ◌∷◌, ◌++◌, Option, Some, None, Ok, Err, if◌then◌else◌, refl, sym, ◌∙◌, ap, subst, arith}
use Rattle.py_syntax.specs.declared.token.Token.{Token}
use Rattle.py_parser_grammar.specs.declared.terminal.Terminal.{Terminal}
use Rattle.py_parser_grammar.specs.declared.place.Place.{Place}
use Rattle.py_parser_grammar.specs.Terminals.{terminal_of, same, next_in, next_left_out}
use Rattle.py_parser_grammar.specs.Levels.{Limit, free, shallow}
use Rattle.py_parser_grammar.specs.Grammar.{Part, tok}
use Rattle.py_parser_grammar.specs.Actions.{Val}
use Rattle.py_parser_grammar.specs.Derivation.{Derives, one, Front, empty, whole}
use Rattle.py_parser_grammar.specs.Reader.{Outcome, ◌>>=◌, Stop, syntax_at, profile_at, too_deep_at, out, accept, accept_one, take_it, refusal, firsts, may_be_empty}
use Rattle.std.specs.Prelude.{slice_get}
use Rattle.py_parser_grammar.proofs.Lookahead.{within}
use Rattle.py_parser_grammar.proofs.Beginnings.{next_left, next_right, next_within, derives_begins, front_begins}
use Rattle.py_parser_grammar.proofs.Progress.{Later, LaterStop, either_way}

-- with the test on levels, and without
abbrev pub limit : Bool → Limit
limit true = shallow
limit false = free

-- The tokens from i up to n are a front of the part, or of the part and of what stands behind it: K says of a value and of
-- the place behind it that what is still to come goes on from there. So K stands for all that is still open around a part.
pub data FrontK (b : Bool) (ts : List Token) (n : ℕ) (r : Part) (i : ℕ) (K : Val r → ℕ → Type 0) : Type 0 where
  inside : Front (limit b) ts n r i → FrontK b ts n r i K
  past : (j : ℕ) (v : Val r) → Derives (limit b) ts r i j v → K v j → FrontK b ts n r i K

-- what comes at place j: the front ends there, the next token is of one of the terminals, or there is no token
pub data Follow (ts : List Token) (n j : ℕ) (nx : List Terminal) : Type 0 where
  at_end : j ≡ n → Follow ts n j nx
  seen : next_in (slice_get ts j) nx ≡ true → Follow ts n j nx
  over : slice_get ts j ≡ None → Follow ts n j nx

-- where K goes on, there comes one of the terminals
abbrev pub Follows : List Token → ℕ → {A : Type 0} → (A → ℕ → Type 0) → List Terminal → Type 0
Follows ts n {A} K nx = (v : A) (j : ℕ) → K v j → Follow ts n j nx

-- a fault of syntax at j says that no front reaches past token j, and with the test a level above 100 that is finished at j
-- says that none reaches past token j + 1
abbrev pub ExcludesStop : Bool → ℕ → Type 0 → Stop → Type 0
ExcludesStop b n F (syntax_at j) = j < n → F → ⊥
ExcludesStop b n F (profile_at j) = j < n → F → ⊥
ExcludesStop b n F (too_deep_at j) = b ≡ true → j + 1 < n → F → ⊥
ExcludesStop b n F out = Unit {0}

-- and what was read says that each front F that is longer goes on from there with that value; with the test the place is not deep
abbrev pub Excludes : Bool → ℕ → Type 0 → {A : Type 0} → (A → ℕ → Type 0) → Outcome A → Type 0
Excludes b n F K (Ok x) = x.1.at < n → F → ((b && x.1.deep) ≡ false) × K x.0 x.1.at
Excludes b n F K (Err e) = ExcludesStop b n F e

pub follow_within : (ts : List Token) (n j : ℕ) (xs ds : List Terminal) → within xs ds ≡ true → Follow ts n j xs → Follow ts n j ds
follow_within ts n j xs ds w (at_end e) = at_end e
follow_within ts n j xs ds w (seen e) = seen (next_within (slice_get ts j) xs ds e w)
follow_within ts n j xs ds w (over e) = over e

pub excludes_stop : (b : Bool) (n : ℕ) (F G : Type 0) (e : Stop) → (F → G) → ExcludesStop b n G e → ExcludesStop b n F e
excludes_stop b n F G (syntax_at j) f h = λ lt x. h lt (f x)
excludes_stop b n F G (profile_at j) f h = λ lt x. h lt (f x)
excludes_stop b n F G (too_deep_at j) f h = λ e lt x. h e lt (f x)
excludes_stop b n F G out f h = tt

-- what holds of what is read is handed on to what is made of it
pub excludes_map : (b : Bool) (n : ℕ) (F G : Type 0) {A C : Type 0} (h : A → C) (K : C → ℕ → Type 0) (o : Outcome A) → (F → G) → Excludes b n G (λ v j. K (h v) j) o → Excludes b n F K (o >>= λ x. Ok (h x.0, x.1))
excludes_map b n F G h K (Ok x) f w = λ lt y. w lt (f y)
excludes_map b n F G h K (Err e) f w = excludes_stop b n F G e f w

pub narrow_stop : (b : Bool) (n : ℕ) (F G : Type 0) (e : Stop) → G → ExcludesStop b n G e → ExcludesStop b n F e
narrow_stop b n F G e x h = excludes_stop b n F G e (λ _. x) h

-- what holds of a front that is there holds
pub narrow : (b : Bool) (n : ℕ) (F G : Type 0) {A : Type 0} (K : A → ℕ → Type 0) (o : Outcome A) → G → Excludes b n G K o → Excludes b n F K o
narrow b n F G K (Ok x) y h = λ lt _. h lt y
narrow b n F G K (Err e) y h = narrow_stop b n F G e y h

pub both_true : {a c : Bool} → a ≡ true → c ≡ true → (a && c) ≡ true
both_true {a = a} {c = c} h k = cc

pub late_stop : (b : Bool) (n : ℕ) (F : Type 0) (i : ℕ) (e : Stop) → LaterStop i e → (i < n → F → ExcludesStop b n F e) → ExcludesStop b n F e
late_stop b n F i (syntax_at j) l w = λ lt f. w (omega arith) f lt f
late_stop b n F i (profile_at j) l w = λ lt f. w (omega arith) f lt f
late_stop b n F i (too_deep_at j) l w = λ e lt f. w (omega arith) f e lt f
late_stop b n F i out l w = tt

pub late : (b : Bool) (n : ℕ) (F : Type 0) {A : Type 0} (K : A → ℕ → Type 0) (i : ℕ) (o : Outcome A) → Later i o → (i < n → F → Excludes b n F K o) → Excludes b n F K o
late b n F K i (Ok x) l w = λ lt f. w (omega arith) f lt f
late b n F K i (Err e) l w = late_stop b n F i e l w

pub next_some : (o : Option Token) (e : Bool) (xs ds : List Terminal) → next_in o xs ≡ true → next_in o (if e then xs ++ ds else xs) ≡ true
next_some o true xs ds h = next_left o xs ds h
next_some o false xs ds h = h

pub next_rest : (o : Option Token) (e : Bool) (xs ds : List Terminal) → e ≡ true → next_in o ds ≡ true → next_in o (if e then xs ++ ds else xs) ≡ true
next_rest o true xs ds e h = next_right o xs ds h
next_rest o false xs ds e h = absurd (cc)

-- ---- one token

pub derives_tok : (lim : Limit) (ts : List Token) {c : Terminal} {i j : ℕ} {v : Token} → Derives lim ts (tok c) i j v → (j ≡ i + 1) × (slice_get ts i ≡ Some v)
derives_tok lim ts (one c i t e h) = (refl, e)

pub front_tok : (lim : Limit) (ts : List Token) (n : ℕ) {c : Terminal} {i : ℕ} → Front lim ts n (tok c) i → n ≤ i + 1
front_tok lim ts n (empty r) = omega arith
front_tok lim ts n (whole r i v d) = let e = derives_tok lim ts d in omega (arith, e.0)

pub shown : (b : Bool) (ts : List Token) (n : ℕ) {r : Part} {i : ℕ} {K : Val r → ℕ → Type 0} → may_be_empty r ≡ false → i < n → FrontK b ts n r i K → next_in (slice_get ts i) (firsts r) ≡ true
shown b ts n m lt (inside f) = let x = front_begins (limit b) ts n f in x.shows lt
shown b ts n m lt (past j v d k) = let x = derives_begins (limit b) ts d in x.shows (x.solid m)

module _ (b : Bool) (ts : List Token) (n : ℕ) (c : Terminal) (K : Token → ℕ → Type 0) (p : Place) (clear : (b && p.deep) ≡ false) where
  abbrev F : Type 0
  F = FrontK b ts n (tok c) p.at K

  no_token : (o : Option Token) → slice_get ts p.at ≡ o → next_in o (c ∷ []) ≡ false → p.at < n → F → ⊥
  no_token o e off lt f = let yes = ap (λ q. next_in q (c ∷ [])) (sym e) ∙ shown b ts n refl lt f in cc

  excludes_refusal : (o : Option Token) → slice_get ts p.at ≡ o → next_in o (c ∷ []) ≡ false → ExcludesStop b n F (refusal o p.at)
  excludes_refusal o e off =
      either_way (ExcludesStop b n F) (next_left_out o) (profile_at p.at) (syntax_at p.at) (λ _. no_token o e off) (λ _. no_token o e off)

  excludes_take : (t : Token) → slice_get ts p.at ≡ Some t → Excludes b n F K (take_it t p)
  excludes_take t e =
      either_way (Excludes b n F K) p.deep (Err (too_deep_at (p.at - 1))) (Ok (t, record { at = p.at + 1; deep = false }))
      (λ d y lt f. let off = sym (ap (λ x. x && true) y) ∙ ap (λ x. b && x) (sym d) ∙ clear in absurd (cc))
      (λ d lt f. (all_false b, taken lt f))
    where
      all_false : (x : Bool) → (x && false) ≡ false
      all_false true = refl
      all_false false = refl

      taken : p.at + 1 < n → F → K t (p.at + 1)
      taken lt (inside f) = absurd (omega (arith, front_tok (limit b) ts n f))
      taken lt (past j v d k) =
          let x = derives_tok (limit b) ts d in
          let same_token : Some v ≡ Some t = sym x.1 ∙ e in
          let v_is : v ≡ t = cc in
          subst (λ w. K w (p.at + 1)) v_is (subst (λ l. K v l) x.0 k)

  pub excludes_tok : Excludes b n F K (accept ts c p)
  excludes_tok = go (slice_get ts p.at) refl
    where
      go : (o : Option Token) → slice_get ts p.at ≡ o → Excludes b n F K (accept_one o c p)
      go None e = excludes_refusal None e refl
      go (Some t) e =
          either_way (Excludes b n F K) (same (terminal_of t.kind) c) (take_it t p) (Err (refusal (Some t) p.at))
          (λ y. excludes_take t e)
          (λ y. excludes_refusal (Some t) e (ap (λ x. x || false) y))
