-- What lies in front of a front, and how far fronts reach.
use Rattle.std.specs.Prelude.{IsTrue}
use Rattle.std.proofs.Common.{◌≡◌, ℕ, ◌≤◌, ◌<◌, true, List, [], inl, inr, refl, subst, arith, ◌⊎◌, length}
use Rattle.py_syntax.specs.declared.token.Token.{Token}
use Rattle.py_parser_grammar.specs.declared.terminal.Terminal.{Terminal}
use Rattle.py_parser_grammar.specs.Levels.{Limit, free}
use Rattle.py_parser_grammar.specs.Grammar.{Sym, expr, Part, tok, maybe, many, after, grown}
use Rattle.py_parser_grammar.specs.Actions.{Val, Sem, act}
use Rattle.py_parser_grammar.specs.Derivation.{admits, Derives, one, by_rule, both, first, other, absent, present, no_more, again, ends, trails, goes_on, from_left, full, grows, Front, empty, whole, of_rule, in_first, in_second, of_first, of_other, of_maybe, in_one, in_more, in_item, in_items, in_left, behind_left, in_growth, behind_growth}
use Rattle.std.proofs.lemmas.Bool.{cases_lt}
use Rattle.std.proofs.lemmas.Option.{slice_get_within}

none_yet : (lim : Limit) (ts : List Token) (r : Part) (i n : ℕ) → i ≤ n → n ≤ i → Front lim ts n r i
none_yet lim ts r i n a b = let e : n ≡ i = omega arith in let P : ℕ → Type 0 = λ j. Front lim ts n r j in subst P e (empty r)

all_of : (lim : Limit) (ts : List Token) {r : Part} {i j : ℕ} {v : Val r} (n : ℕ) → Derives lim ts r i j v → j ≤ n → n ≤ j → Front lim ts n r i
all_of lim ts {r = r} {i = i} {j = j} {v = v} n d a b = let e : j ≡ n = omega arith in let P : ℕ → Type 0 = λ l. Derives lim ts r i l v in whole r i v (subst P e d)

pub split : {X : Type 0} (j n : ℕ) → (j < n → X) → (n ≤ j → X) → X
split {X = X} j n f h = at (cases_lt j n)
  where
    at : (j < n) ⊎ (n ≤ j) → X
    at (inl l) = f l
    at (inr l) = h l

tok_front : (lim : Limit) (ts : List Token) (n : ℕ) (c : Terminal) (p : Part) {i : ℕ} → Front lim ts n (tok c) i → Front lim ts n (after c p) i
tok_front lim ts n c p (empty _) = empty (after c p)
tok_front lim ts n c p (whole _ i v d) = whole (after c p) i ([], true) (trails c p i n v d)

-- what is in front of a derived list is a front
pub derives_cut : (lim : Limit) (ts : List Token) (n : ℕ) {r : Part} {i j : ℕ} {v : Val r} → Derives lim ts r i j v → i ≤ n → n ≤ j → Front lim ts n r i
derives_cut lim ts n (one c i t e h) a b = split i n (λ l. all_of lim ts n (one c i t e h) (omega arith) b) (λ l. none_yet lim ts (tok c) i n a l)
derives_cut lim ts n (by_rule s i j v d w) a b = of_rule s i (derives_cut lim ts n d a b)
derives_cut lim ts n (both p q i j k v w d e) a b = split j n (λ l. in_second p q i j v d (derives_cut lim ts n e (omega arith) b)) (λ l. in_first p q i (derives_cut lim ts n d a l))
derives_cut lim ts n (first p q i j v d) a b = of_first p q i (derives_cut lim ts n d a b)
derives_cut lim ts n (other p q i j v d) a b = of_other p q i (derives_cut lim ts n d a b)
derives_cut lim ts n (absent p i) a b = none_yet lim ts (maybe p) i n a b
derives_cut lim ts n (present p i j v d) a b = of_maybe p i (derives_cut lim ts n d a b)
derives_cut lim ts n (no_more p i) a b = none_yet lim ts (many p) i n a b
derives_cut lim ts n (again p i j k v vs d e) a b = split j n (λ l. in_more p i j v d (derives_cut lim ts n e (omega arith) b)) (λ l. in_one p i (derives_cut lim ts n d a l))
derives_cut lim ts n (ends c p i) a b = none_yet lim ts (after c p) i n a b
derives_cut lim ts n (trails c p i j t d) a b = tok_front lim ts n c p (derives_cut lim ts n d a b)
derives_cut lim ts n (goes_on c p i j k l t v vs d e f) a b =
    split j n
    (λ x. split k n (λ y. in_items c p i j k t v d e (derives_cut lim ts n f (omega arith) b)) (λ y. in_item c p i j t d (derives_cut lim ts n e (omega arith) y)))
    (λ x. tok_front lim ts n c p (derives_cut lim ts n d a x))
derives_cut lim ts n (from_left e m i j k v u d f) a b = split j n (λ l. behind_left e m i j v d (derives_cut lim ts n f (omega arith) b)) (λ l. in_left e m i (derives_cut lim ts n d a l))
derives_cut lim ts n (full m v i) a b = none_yet lim ts (grown m v) i n a b
derives_cut lim ts n (grows m v u i j k w d h f) a b = split j n (λ l. behind_growth m v i j w d h (derives_cut lim ts n f (omega arith) b)) (λ l. in_growth m v i (derives_cut lim ts n d a l))

-- and so is what is in front of a front
pub front_cut : (lim : Limit) (ts : List Token) (m n : ℕ) {r : Part} {i : ℕ} → Front lim ts m r i → i ≤ n → n ≤ m → Front lim ts n r i
front_cut lim ts m n (empty r) a b = none_yet lim ts r m n a b
front_cut lim ts m n (whole r i v d) a b = derives_cut lim ts n d a b
front_cut lim ts m n (of_rule s i f) a b = of_rule s i (front_cut lim ts m n f a b)
front_cut lim ts m n (in_first p q i f) a b = in_first p q i (front_cut lim ts m n f a b)
front_cut lim ts m n (in_second p q i j v d f) a b = split j n (λ l. in_second p q i j v d (front_cut lim ts m n f (omega arith) b)) (λ l. in_first p q i (derives_cut lim ts n d a l))
front_cut lim ts m n (of_first p q i f) a b = of_first p q i (front_cut lim ts m n f a b)
front_cut lim ts m n (of_other p q i f) a b = of_other p q i (front_cut lim ts m n f a b)
front_cut lim ts m n (of_maybe p i f) a b = of_maybe p i (front_cut lim ts m n f a b)
front_cut lim ts m n (in_one p i f) a b = in_one p i (front_cut lim ts m n f a b)
front_cut lim ts m n (in_more p i j v d f) a b = split j n (λ l. in_more p i j v d (front_cut lim ts m n f (omega arith) b)) (λ l. in_one p i (derives_cut lim ts n d a l))
front_cut lim ts m n (in_item c p i j t d f) a b = split j n (λ l. in_item c p i j t d (front_cut lim ts m n f (omega arith) b)) (λ l. tok_front lim ts n c p (derives_cut lim ts n d a l))
front_cut lim ts m n (in_items c p i j k t v d e f) a b =
    split j n
    (λ x. split k n (λ y. in_items c p i j k t v d e (front_cut lim ts m n f (omega arith) b)) (λ y. in_item c p i j t d (derives_cut lim ts n e (omega arith) y)))
    (λ x. tok_front lim ts n c p (derives_cut lim ts n d a x))
front_cut lim ts m n (in_left e q i f) a b = in_left e q i (front_cut lim ts m n f a b)
front_cut lim ts m n (behind_left e q i j v d f) a b = split j n (λ l. behind_left e q i j v d (front_cut lim ts m n f (omega arith) b)) (λ l. in_left e q i (derives_cut lim ts n d a l))
front_cut lim ts m n (in_growth q v i f) a b = in_growth q v i (front_cut lim ts m n f a b)
front_cut lim ts m n (behind_growth q v i j w d h f) a b = split j n (λ l. behind_growth q v i j w d h (front_cut lim ts m n f (omega arith) b)) (λ l. in_growth q v i (derives_cut lim ts n d a l))

-- ---- they end within the tokens

pub derives_within : (lim : Limit) (ts : List Token) {r : Part} {i j : ℕ} {v : Val r} → Derives lim ts r i j v → i ≤ length ts → j ≤ length ts
derives_within lim ts (one c i t e h) a = let l = slice_get_within ts i t e in omega arith
derives_within lim ts (by_rule s i j v d w) a = derives_within lim ts d a
derives_within lim ts (both p q i j k v w d e) a = derives_within lim ts e (derives_within lim ts d a)
derives_within lim ts (first p q i j v d) a = derives_within lim ts d a
derives_within lim ts (other p q i j v d) a = derives_within lim ts d a
derives_within lim ts (absent p i) a = a
derives_within lim ts (present p i j v d) a = derives_within lim ts d a
derives_within lim ts (no_more p i) a = a
derives_within lim ts (again p i j k v vs d e) a = derives_within lim ts e (derives_within lim ts d a)
derives_within lim ts (ends c p i) a = a
derives_within lim ts (trails c p i j t d) a = derives_within lim ts d a
derives_within lim ts (goes_on c p i j k l t v vs d e f) a = derives_within lim ts f (derives_within lim ts e (derives_within lim ts d a))
derives_within lim ts (from_left e m i j k v u d f) a = derives_within lim ts f (derives_within lim ts d a)
derives_within lim ts (full m v i) a = a
derives_within lim ts (grows m v u i j k w d h f) a = derives_within lim ts f (derives_within lim ts d a)

pub front_within : (lim : Limit) (ts : List Token) (n : ℕ) {r : Part} {i : ℕ} → Front lim ts n r i → i ≤ length ts → n ≤ length ts
front_within lim ts n (empty r) a = a
front_within lim ts n (whole r i v d) a = derives_within lim ts d a
front_within lim ts n (of_rule s i f) a = front_within lim ts n f a
front_within lim ts n (in_first p q i f) a = front_within lim ts n f a
front_within lim ts n (in_second p q i j v d f) a = front_within lim ts n f (derives_within lim ts d a)
front_within lim ts n (of_first p q i f) a = front_within lim ts n f a
front_within lim ts n (of_other p q i f) a = front_within lim ts n f a
front_within lim ts n (of_maybe p i f) a = front_within lim ts n f a
front_within lim ts n (in_one p i f) a = front_within lim ts n f a
front_within lim ts n (in_more p i j v d f) a = front_within lim ts n f (derives_within lim ts d a)
front_within lim ts n (in_item c p i j t d f) a = front_within lim ts n f (derives_within lim ts d a)
front_within lim ts n (in_items c p i j k t v d e f) a = front_within lim ts n f (derives_within lim ts e (derives_within lim ts d a))
front_within lim ts n (in_left e m i f) a = front_within lim ts n f a
front_within lim ts n (behind_left e m i j v d f) a = front_within lim ts n f (derives_within lim ts d a)
front_within lim ts n (in_growth m v i f) a = front_within lim ts n f a
front_within lim ts n (behind_growth m v i j w d h f) a = front_within lim ts n f (derives_within lim ts d a)

-- ---- what is derived with a test is derived without

admits_free : (x : Sym) (v : Sem x) → IsTrue (admits free x v)
admits_free (expr e) v = refl
admits_free _ v = refl

pub derives_free : (lim : Limit) (ts : List Token) {r : Part} {i j : ℕ} {v : Val r} → Derives lim ts r i j v → Derives free ts r i j v
derives_free lim ts (one c i t e h) = one c i t e h
derives_free lim ts (by_rule x i j v d w) = by_rule x i j v (derives_free lim ts d) (admits_free x (act x v))
derives_free lim ts (both p q i j k v w d e) = both p q i j k v w (derives_free lim ts d) (derives_free lim ts e)
derives_free lim ts (first p q i j v d) = first p q i j v (derives_free lim ts d)
derives_free lim ts (other p q i j v d) = other p q i j v (derives_free lim ts d)
derives_free lim ts (absent p i) = absent p i
derives_free lim ts (present p i j v d) = present p i j v (derives_free lim ts d)
derives_free lim ts (no_more p i) = no_more p i
derives_free lim ts (again p i j k v vs d e) = again p i j k v vs (derives_free lim ts d) (derives_free lim ts e)
derives_free lim ts (ends c p i) = ends c p i
derives_free lim ts (trails c p i j t d) = trails c p i j t (derives_free lim ts d)
derives_free lim ts (goes_on c p i j k l t v vs d e f) = goes_on c p i j k l t v vs (derives_free lim ts d) (derives_free lim ts e) (derives_free lim ts f)
derives_free lim ts (from_left e m i j k v u d f) = from_left e m i j k v u (derives_free lim ts d) (derives_free lim ts f)
derives_free lim ts (full m v i) = full m v i
derives_free lim ts (grows m v u i j k w d h f) = grows m v u i j k w (derives_free lim ts d) refl (derives_free lim ts f)

pub front_free : (lim : Limit) (ts : List Token) (n : ℕ) {r : Part} {i : ℕ} → Front lim ts n r i → Front free ts n r i
front_free lim ts n (empty r) = empty r
front_free lim ts n (whole r i v d) = whole r i v (derives_free lim ts d)
front_free lim ts n (of_rule x i f) = of_rule x i (front_free lim ts n f)
front_free lim ts n (in_first p q i f) = in_first p q i (front_free lim ts n f)
front_free lim ts n (in_second p q i j v d f) = in_second p q i j v (derives_free lim ts d) (front_free lim ts n f)
front_free lim ts n (of_first p q i f) = of_first p q i (front_free lim ts n f)
front_free lim ts n (of_other p q i f) = of_other p q i (front_free lim ts n f)
front_free lim ts n (of_maybe p i f) = of_maybe p i (front_free lim ts n f)
front_free lim ts n (in_one p i f) = in_one p i (front_free lim ts n f)
front_free lim ts n (in_more p i j v d f) = in_more p i j v (derives_free lim ts d) (front_free lim ts n f)
front_free lim ts n (in_item c p i j t d f) = in_item c p i j t (derives_free lim ts d) (front_free lim ts n f)
front_free lim ts n (in_items c p i j k t v d e f) = in_items c p i j k t v (derives_free lim ts d) (derives_free lim ts e) (front_free lim ts n f)
front_free lim ts n (in_left e m i f) = in_left e m i (front_free lim ts n f)
front_free lim ts n (behind_left e m i j v d f) = behind_left e m i j v (derives_free lim ts d) (front_free lim ts n f)
front_free lim ts n (in_growth m v i f) = in_growth m v i (front_free lim ts n f)
front_free lim ts n (behind_growth m v i j w d h f) = behind_growth m v i j w (derives_free lim ts d) refl (front_free lim ts n f)
