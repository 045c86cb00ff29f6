-- The End of a whole list of tokens is the last token of a module, and of nothing else.
use Rattle.std.specs.Prelude.{slice_get, ◌==◌, get_or}
use Rattle.std.proofs.Common.{◌≡◌, ℕ, ◌+◌, ◌-◌, ◌≤◌, ◌<◌, Bool, true, false, not, ◌&&◌, ◌||◌, List, [], ◌∷◌, Option, Some, None, inl, inr, refl, sym, ◌∙◌, ap, subst, arith, ◌⊎◌, length}
use Rattle.py_syntax.specs.declared.token.Token.{Token}
use Rattle.py_parser_grammar.specs.declared.terminal.Terminal.{Terminal}
use Rattle.py_parser_grammar.specs.Terminals.{terminal_of, same, code, next_in}
use Rattle.py_parser_grammar.specs.Levels.{Limit}
use Rattle.py_parser_grammar.specs.Grammar as g
use Rattle.py_parser_grammar.specs.Grammar.{ExprSym, More, Sym, expr, more, Part, tok, ◌·◌, ◌⊕◌, maybe, many, after, left, grown, rhs, ATOM, MODULE}
use Rattle.py_parser_grammar.specs.Actions.{Val, Sem, act}
use Rattle.py_parser_grammar.specs.Derivation.{Derives, one, by_rule, both, first, other, absent, present, no_more, again, ends, trails, goes_on, from_left, full, grows, Front, empty, whole, of_rule, in_first, in_second, of_first, of_other, of_maybe, in_one, in_more, in_item, in_items, in_left, behind_left, in_growth, behind_growth}
use Rattle.py_syntax.specs.declared.token.TokenKind.{TokenKind}
use Rattle.py_syntax.specs.declared.token.TokenKind.TheVariants as kind
use Rattle.py_syntax.specs.Tokens.{EndsOnce}
use Rattle.py_syntax.proofs.TokenLemmas.{end_is_last, last_is_end, some_token}
use Rattle.py_parser_grammar.specs.declared.terminal.Terminal.TheVariants as terminal
use Rattle.py_parser_grammar.specs.Grammar.{TESTS, OR_MORE, COMP_MORE, TOP}
use Rattle.std.proofs.lemmas.Bool.{eqb-true}
use Rattle.std.proofs.lemmas.Option.{slice_get_cases}
use Rattle.py_parser_grammar.proofs.Beginnings.{and_left, and_right, not_true}
use Rattle.py_parser_grammar.proofs.Fronts.{split}

-- whether a part has no End
abbrev inner : Sym → Bool
inner MODULE = false
inner _ = true

abbrev lacks : Part → Bool
lacks (tok c) = not (same c terminal.End)
lacks (g.sym x) = inner x
lacks (a · b) = lacks a && lacks b
lacks (a ⊕ b) = lacks a && lacks b
lacks (maybe a) = lacks a
lacks (many a) = lacks a
lacks (after c a) = not (same c terminal.End) && lacks a
lacks (left e m) = true
lacks (grown m v) = true

all_lack : (x : Sym) → inner x ≡ true → lacks (rhs x) ≡ true
all_lack (expr TESTS) h = refl
all_lack (expr _) h = refl
all_lack (more OR_MORE) h = refl
all_lack (more _) h = refl
all_lack MODULE h = absurd (cc)
all_lack COMP_MORE h = refl
all_lack _ h = refl

abbrev Ends : Option Token → Type 0
Ends o = next_in o (terminal.End ∷ []) ≡ true

one_lacks : (ts : List Token) (i : ℕ) (t : Token) (c : Terminal) → slice_get ts i ≡ Some t → same (terminal_of t.kind) c ≡ true → same c terminal.End ≡ false → Ends (slice_get ts i) → ⊥
one_lacks ts i t c e h n x =
    let is_c : code (terminal_of t.kind) ≡ code c = eqb-true (code (terminal_of t.kind)) (code c) h in
    let y : next_in (Some t) (terminal.End ∷ []) ≡ true = ap (λ o. next_in o (terminal.End ∷ [])) (sym e) ∙ x in
    let z : (same c terminal.End || false) ≡ true = ap (λ m. (m == code terminal.End) || false) (sym is_c) ∙ y in
    let w : (same c terminal.End || false) ≡ false = ap (λ b. b || false) n in
    cc

-- no End is among the tokens that are derived from such a part
derives_lacks : (lim : Limit) (ts : List Token) (k : ℕ) {r : Part} {i j : ℕ} {v : Val r} → Derives lim ts r i j v → lacks r ≡ true → i ≤ k → k < j → Ends (slice_get ts k) → ⊥
derives_lacks lim ts k (one c i t e h) l a b x =
    let P : ℕ → Type 0 = λ n. Ends (slice_get ts n) in
    let q : k ≡ i = omega arith in one_lacks ts i t c e h (not_true _ l) (subst P q x)
derives_lacks lim ts k (by_rule s i j v d w) l a b x = derives_lacks lim ts k d (all_lack s l) a b x
derives_lacks lim ts k (both p q i j m v w d e) l a b x =
    split k j (λ y. derives_lacks lim ts k d (and_left (lacks p) _ l) a y x) (λ y. derives_lacks lim ts k e (and_right (lacks p) _ l) y b x)
derives_lacks lim ts k (first p q i j v d) l a b x = derives_lacks lim ts k d (and_left (lacks p) _ l) a b x
derives_lacks lim ts k (other p q i j v d) l a b x = derives_lacks lim ts k d (and_right (lacks p) _ l) a b x
derives_lacks lim ts k (absent p i) l a b x = absurd (omega arith)
derives_lacks lim ts k (present p i j v d) l a b x = derives_lacks lim ts k d l a b x
derives_lacks lim ts k (no_more p i) l a b x = absurd (omega arith)
derives_lacks lim ts k (again p i j m v vs d e) l a b x = split k j (λ y. derives_lacks lim ts k d l a y x) (λ y. derives_lacks lim ts k e l y b x)
derives_lacks lim ts k (ends c p i) l a b x = absurd (omega arith)
derives_lacks lim ts k (trails c p i j t d) l a b x = derives_lacks lim ts k d (and_left (not (same c terminal.End)) _ l) a b x
derives_lacks lim ts k (goes_on c p i j m n t v vs d e f) l a b x =
    split k j (λ y. derives_lacks lim ts k d (and_left (not (same c terminal.End)) _ l) a y x)
    (λ y. split k m (λ z. derives_lacks lim ts k e (and_right (not (same c terminal.End)) _ l) y z x) (λ z. derives_lacks lim ts k f l z b x))
derives_lacks lim ts k (from_left e m i j n v u d f) l a b x = split k j (λ y. derives_lacks lim ts k d refl a y x) (λ y. derives_lacks lim ts k f refl y b x)
derives_lacks lim ts k (full m v i) l a b x = absurd (omega arith)
derives_lacks lim ts k (grows m v u i j n w d h f) l a b x = split k j (λ y. derives_lacks lim ts k d refl a y x) (λ y. derives_lacks lim ts k f refl y b x)

front_lacks : (lim : Limit) (ts : List Token) (n k : ℕ) {r : Part} {i : ℕ} → Front lim ts n r i → lacks r ≡ true → i ≤ k → k < n → Ends (slice_get ts k) → ⊥
front_lacks lim ts n k (empty r) l a b x = absurd (omega arith)
front_lacks lim ts n k (whole r i v d) l a b x = derives_lacks lim ts k d l a b x
front_lacks lim ts n k (of_rule s i f) l a b x = front_lacks lim ts n k f (all_lack s l) a b x
front_lacks lim ts n k (in_first p q i f) l a b x = front_lacks lim ts n k f (and_left (lacks p) _ l) a b x
front_lacks lim ts n k (in_second p q i j v d f) l a b x =
    split k j (λ y. derives_lacks lim ts k d (and_left (lacks p) _ l) a y x) (λ y. front_lacks lim ts n k f (and_right (lacks p) _ l) y b x)
front_lacks lim ts n k (of_first p q i f) l a b x = front_lacks lim ts n k f (and_left (lacks p) _ l) a b x
front_lacks lim ts n k (of_other p q i f) l a b x = front_lacks lim ts n k f (and_right (lacks p) _ l) a b x
front_lacks lim ts n k (of_maybe p i f) l a b x = front_lacks lim ts n k f l a b x
front_lacks lim ts n k (in_one p i f) l a b x = front_lacks lim ts n k f l a b x
front_lacks lim ts n k (in_more p i j v d f) l a b x = split k j (λ y. derives_lacks lim ts k d l a y x) (λ y. front_lacks lim ts n k f l y b x)
front_lacks lim ts n k (in_item c p i j t d f) l a b x =
    split k j (λ y. derives_lacks lim ts k d (and_left (not (same c terminal.End)) _ l) a y x) (λ y. front_lacks lim ts n k f (and_right (not (same c terminal.End)) _ l) y b x)
front_lacks lim ts n k (in_items c p i j m t v d e f) l a b x =
    split k j (λ y. derives_lacks lim ts k d (and_left (not (same c terminal.End)) _ l) a y x)
    (λ y. split k m (λ z. derives_lacks lim ts k e (and_right (not (same c terminal.End)) _ l) y z x) (λ z. front_lacks lim ts n k f l z b x))
front_lacks lim ts n k (in_left e m i f) l a b x = front_lacks lim ts n k f refl a b x
front_lacks lim ts n k (behind_left e m i j v d f) l a b x = split k j (λ y. derives_lacks lim ts k d refl a y x) (λ y. front_lacks lim ts n k f refl y b x)
front_lacks lim ts n k (in_growth m v i f) l a b x = front_lacks lim ts n k f refl a b x
front_lacks lim ts n k (behind_growth m v i j w d h f) l a b x = split k j (λ y. derives_lacks lim ts k d refl a y x) (λ y. front_lacks lim ts n k f refl y b x)

-- ---- the whole list

-- a token of the terminal End is an End
is_end : (k : TokenKind) → same (terminal_of k) terminal.End ≡ true → k ≡ kind.End
is_end (kind.Name _) e = absurd (cc)
is_end (kind.Int _) e = absurd (cc)
is_end (kind.Str _) e = absurd (cc)
is_end (kind.Key k) e = absurd (omega (arith, eqb-true (code (terminal.Key k)) 6 e))
is_end (kind.Sign s) e = absurd (omega (arith, eqb-true (code (terminal.Sign s)) 6 e))
is_end kind.Newline e = absurd (cc)
is_end kind.Indent e = absurd (cc)
is_end kind.Dedent e = absurd (cc)
is_end kind.End e = refl

-- what is derived from a module are all tokens
pub module_whole : (lim : Limit) (ts : List Token) {i j : ℕ} {v : Sem MODULE} → EndsOnce ts → Derives lim ts (g.sym MODULE) i j v → j ≡ length ts
module_whole lim ts once (by_rule _ i j v d w) = of_pair d
  where
    of_tok : {k l : ℕ} {t : Token} → Derives lim ts (tok terminal.End) k l t → l ≡ length ts
    of_tok (one _ k t e h) = end_is_last ts once k t e (is_end t.kind h)

    of_pair : {k l : ℕ} {u : Val (rhs MODULE)} → Derives lim ts (rhs MODULE) k l u → l ≡ length ts
    of_pair (both _ _ k m l x y d e) = of_tok e

last_ends : (ts : List Token) → EndsOnce ts → (k : ℕ) → k + 1 ≡ length ts → Ends (slice_get ts k)
last_ends ts once k q = go (slice_get_cases ts k).1
  where
    go : ((x : Token) × (k < length ts) × (slice_get ts k ≡ Some x) × (get_or ts k x ≡ x)) ⊎ ((length ts ≤ k) × (slice_get ts k ≡ None)) → Ends (slice_get ts k)
    go (inl (t, lt, e, _)) =
        ap (λ o. next_in o (terminal.End ∷ [])) e
        ∙ ap (λ s. next_in (Some (record { kind = s; span = t.span })) (terminal.End ∷ [])) (last_is_end ts once k t e q)
    go (inr (le, e)) = absurd (omega arith)

-- a front of a module that has all tokens is one
module _ (lim : Limit) (ts : List Token) (once : EndsOnce ts) (n k : ℕ) (last : k + 1 ≡ n) (all : n ≡ length ts) where
  end_at : Ends (slice_get ts k)
  end_at = last_ends ts once k (last ∙ all)

  whole_pair : {i : ℕ} → i ≡ 0 → Front lim ts n (rhs MODULE) i → (v : Val (rhs MODULE)) × Derives lim ts (rhs MODULE) i n v
  whole_pair z (empty _) = absurd (omega arith)
  whole_pair z (whole _ i v d) = (v, d)
  whole_pair z (in_first _ _ i f) = absurd (front_lacks lim ts n k f refl (omega arith) (omega arith) end_at)
  whole_pair z (in_second _ _ i j v d f) = by_tok f d
    where
      by_tok : {j : ℕ} → Front lim ts n (tok terminal.End) j → Derives lim ts (many (g.sym TOP)) i j v → (v : Val (rhs MODULE)) × Derives lim ts (rhs MODULE) i n v
      by_tok (empty _) d = absurd (derives_lacks lim ts k d refl (omega arith) (omega arith) end_at)
      by_tok (whole _ j t e) d = ((v, t), both (many (g.sym TOP)) (tok terminal.End) i j n v t d e)

  whole_module : {i : ℕ} → i ≡ 0 → Front lim ts n (g.sym MODULE) i → (b : Sem MODULE) × Derives lim ts (g.sym MODULE) i n b
  whole_module z (empty _) = absurd (omega arith)
  whole_module z (whole _ i v d) = (v, d)
  whole_module z (of_rule _ i f) = let w = whole_pair z f in (act MODULE w.0, by_rule MODULE i n w.0 w.1 refl)

pub front_is_tree : (lim : Limit) (ts : List Token) → EndsOnce ts → Front lim ts (length ts) (g.sym MODULE) 0 → (b : Sem MODULE) × Derives lim ts (g.sym MODULE) 0 (length ts) b
front_is_tree lim ts once f = let some = some_token ts once in whole_module lim ts once (length ts) (length ts - 1) (omega arith) refl refl f
