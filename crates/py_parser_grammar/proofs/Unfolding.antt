-- What a front of a part, with what may stand behind it, is of the parts in it.
use Rattle.std.proofs.Common.{◌≡◌, ℕ, ◌<◌, Bool, true, false, not, ◌&&◌, ◌||◌, List, [], ◌∷◌, ◌++◌, Option, Some, None, if◌then◌else◌, inl, inr, refl, sym, ap, subst, arith, ◌⊎◌}
use Rattle.py_syntax.specs.declared.token.Token.{Token}
use Rattle.py_parser_grammar.specs.declared.terminal.Terminal.{Terminal}
use Rattle.py_parser_grammar.specs.Terminals.{next_in}
use Rattle.py_parser_grammar.specs.Levels.{Piece, shallow}
use Rattle.py_parser_grammar.specs.Grammar as g
use Rattle.py_parser_grammar.specs.Grammar.{ExprSym, More, Sym, expr, more, Part, tok, ◌·◌, ◌⊕◌, maybe, many, after, left, grown, rhs, ATOM, MODULE}
use Rattle.py_parser_grammar.specs.Actions.{Val, Sem, SemMore, act, grow}
use Rattle.py_parser_grammar.specs.Derivation.{admits, Derives, by_rule, both, first, other, absent, present, no_more, again, ends, trails, goes_on, from_left, full, grows, Front, empty, whole, of_rule, in_first, in_second, of_first, of_other, of_maybe, in_one, in_more, in_item, in_items, in_left, behind_left, in_growth, behind_growth}
use Rattle.py_parser_grammar.specs.Reader.{sees, firsts, may_be_empty}
use Rattle.std.specs.Prelude.{slice_get, IsTrue}
use Rattle.std.proofs.Math.Nat.{eq-or-lt_of_le}
use Rattle.py_parser_grammar.proofs.Lookahead.{apart}
use Rattle.py_parser_grammar.proofs.Beginnings.{true_or_false, next_apart, derives_begins, front_begins}
use Rattle.py_parser_grammar.proofs.Continuations.{limit, FrontK, inside, past, Follow, at_end, seen, over, Follows, next_some, next_rest, shown}

module _ (b : Bool) (ts : List Token) (n : ℕ) where
  -- what is behind b, where b may be empty
  pub rest_follow : (r : Part) (K : Val r → ℕ → Type 0) (nx : List Terminal) → Follows ts n K nx → (j : ℕ) → FrontK b ts n r j K → Follow ts n j (if may_be_empty r then firsts r ++ nx else firsts r)
  rest_follow r K nx fo j (inside f) = at (eq-or-lt_of_le (front_begins (limit b) ts n f).le)
    where
      at : (j ≡ n) ⊎ (j < n) → Follow ts n j (if may_be_empty r then firsts r ++ nx else firsts r)
      at (inl e) = at_end e
      at (inr l) = seen (next_some (slice_get ts j) (may_be_empty r) (firsts r) nx ((front_begins (limit b) ts n f).shows l))
  rest_follow r K nx fo j (past l v d k) = at (true_or_false (may_be_empty r)) (eq-or-lt_of_le (derives_begins (limit b) ts d).le)
    where
      here : may_be_empty r ≡ true → Follow ts n j nx → Follow ts n j (if may_be_empty r then firsts r ++ nx else firsts r)
      here m (at_end e) = at_end e
      here m (seen e) = seen (next_rest (slice_get ts j) (may_be_empty r) (firsts r) nx m e)
      here m (over e) = over e

      at : (may_be_empty r ≡ true) ⊎ (may_be_empty r ≡ false) → (j ≡ l) ⊎ (j < l) → Follow ts n j (if may_be_empty r then firsts r ++ nx else firsts r)
      at m (inr lt) = seen (next_some (slice_get ts j) (may_be_empty r) (firsts r) nx ((derives_begins (limit b) ts d).shows lt))
      at (inr m) (inl e) = absurd (omega (arith, (derives_begins (limit b) ts d).solid m))
      at (inl m) (inl e) = here m (subst (λ q. Follow ts n q nx) (sym e) (fo v l k))

  -- ---- from a part to the parts in it

  pub to_rule : (s : Sym) (K : Sem s → ℕ → Type 0) (i : ℕ) → FrontK b ts n (g.sym s) i K → FrontK b ts n (rhs s) i (λ v j. IsTrue (admits (limit b) s (act s v)) × K (act s v) j)
  to_rule s K i (inside f) = inside (front f)
    where
      derived : {j : ℕ} {v : Sem s} → Derives (limit b) ts (g.sym s) j n v → Front (limit b) ts n (rhs s) j
      derived (by_rule _ j _ v d w) = whole (rhs s) j v d

      front : {j : ℕ} → Front (limit b) ts n (g.sym s) j → Front (limit b) ts n (rhs s) j
      front (empty _) = empty (rhs s)
      front (whole _ j v d) = derived d
      front (of_rule _ j f) = f
  to_rule s K i (past j v d k) = derived d k
    where
      derived : {i j : ℕ} {v : Sem s} → Derives (limit b) ts (g.sym s) i j v → K v j → FrontK b ts n (rhs s) i (λ v j. IsTrue (admits (limit b) s (act s v)) × K (act s v) j)
      derived (by_rule _ i j v d w) k = past j v d (w, k)

  pub to_two : (a c : Part) (K : Val a × (Val c) → ℕ → Type 0) (i : ℕ) → FrontK b ts n (a · c) i K → FrontK b ts n a i (λ v j. FrontK b ts n c j (λ w l. K (v, w) l))
  to_two a c K i (inside f) = front f
    where
      derived : {j : ℕ} {v : Val a × (Val c)} → Derives (limit b) ts (a · c) j n v → FrontK b ts n a j (λ v j. FrontK b ts n c j (λ w l. K (v, w) l))
      derived (both _ _ i j _ v w d e) = past j v d (inside (whole c j w e))

      front : {j : ℕ} → Front (limit b) ts n (a · c) j → FrontK b ts n a j (λ v j. FrontK b ts n c j (λ w l. K (v, w) l))
      front (empty _) = inside (empty a)
      front (whole _ j v d) = derived d
      front (in_first _ _ i f) = inside f
      front (in_second _ _ i j v d f) = past j v d (inside f)
  to_two a c K i (past j v d k) = derived d k
    where
      derived : {i j : ℕ} {v : Val a × (Val c)} → Derives (limit b) ts (a · c) i j v → K v j → FrontK b ts n a i (λ v j. FrontK b ts n c j (λ w l. K (v, w) l))
      derived (both _ _ i j l v w d e) k = past j v d (past l w e k)

  clash : (i : ℕ) (xs ds : List Terminal) → apart xs ds ≡ true → next_in (slice_get ts i) xs ≡ true → next_in (slice_get ts i) ds ≡ true → ⊥
  clash i xs ds ap h k = next_apart (slice_get ts i) xs ds h k ap

  pub mark_clear : (s : Sym) (v : Sem s) (d : Bool) → (b && d) ≡ false → IsTrue (admits (limit b) s v) → (b && (not (admits shallow s v) || d)) ≡ false
  mark_clear s v d c w = go b c w
    where
      stays : (d e : Bool) → d ≡ false → IsTrue e → (not e || d) ≡ false
      stays d true c w = c
      stays d false c w = absurd (cc)

      go : (b : Bool) → (b && d) ≡ false → IsTrue (admits (limit b) s v) → (b && (not (admits shallow s v) || d)) ≡ false
      go true c w = stays d (admits shallow s v) c w
      go false c w = refl

  -- a front that has not ended shows what it begins with
  starts_with : (r : Part) (K : Val r → ℕ → Type 0) (i : ℕ) → may_be_empty r ≡ false → FrontK b ts n r i K → (i ≡ n) ⊎ (next_in (slice_get ts i) (firsts r) ≡ true)
  starts_with r K i m (inside f) = at (eq-or-lt_of_le (front_begins (limit b) ts n f).le)
    where
      at : (i ≡ n) ⊎ (i < n) → (i ≡ n) ⊎ (next_in (slice_get ts i) (firsts r) ≡ true)
      at (inl e) = inl e
      at (inr l) = inr ((front_begins (limit b) ts n f).shows l)
  starts_with r K i m (past j v d k) = let x = derives_begins (limit b) ts d in inr (x.shows (x.solid m))

  ended : (r : Part) (K : Val r → ℕ → Type 0) (i : ℕ) → i ≡ n → FrontK b ts n r i K
  ended r K i e = let P : ℕ → Type 0 = λ j. FrontK b ts n r j K in subst P (sym e) (inside (empty r))

  split_choice : (a c : Part) (K : Val a ⊎ (Val c) → ℕ → Type 0) (i : ℕ) → FrontK b ts n (a ⊕ c) i K → (FrontK b ts n a i (λ v j. K (inl v) j)) ⊎ (FrontK b ts n c i (λ v j. K (inr v) j))
  split_choice a c K i (inside f) = front f
    where
      derived : {j : ℕ} {v : Val a ⊎ (Val c)} → Derives (limit b) ts (a ⊕ c) j n v → (FrontK b ts n a j (λ v j. K (inl v) j)) ⊎ (FrontK b ts n c j (λ v j. K (inr v) j))
      derived (first _ _ i _ v d) = inl (inside (whole a i v d))
      derived (other _ _ i _ v d) = inr (inside (whole c i v d))

      front : {j : ℕ} → Front (limit b) ts n (a ⊕ c) j → (FrontK b ts n a j (λ v j. K (inl v) j)) ⊎ (FrontK b ts n c j (λ v j. K (inr v) j))
      front (empty _) = inl (inside (empty a))
      front (whole _ j v d) = derived d
      front (of_first _ _ i f) = inl (inside f)
      front (of_other _ _ i f) = inr (inside f)
  split_choice a c K i (past j v d k) = derived d k
    where
      derived : {i j : ℕ} {v : Val a ⊎ (Val c)} → Derives (limit b) ts (a ⊕ c) i j v → K v j → (FrontK b ts n a i (λ v j. K (inl v) j)) ⊎ (FrontK b ts n c i (λ v j. K (inr v) j))
      derived (first _ _ i j v d) k = inl (past j v d k)
      derived (other _ _ i j v d) k = inr (past j v d k)

  pub pick_first : (a c : Part) (K : Val a ⊎ (Val c) → ℕ → Type 0) (i : ℕ) → may_be_empty c ≡ false → apart (firsts a) (firsts c) ≡ true → next_in (slice_get ts i) (firsts a) ≡ true → FrontK b ts n (a ⊕ c) i K → FrontK b ts n a i (λ v j. K (inl v) j)
  pick_first a c K i m far sees f = at (split_choice a c K i f)
    where
      wrong : (i ≡ n) ⊎ (next_in (slice_get ts i) (firsts c) ≡ true) → FrontK b ts n a i (λ v j. K (inl v) j)
      wrong (inl e) = ended a _ i e
      wrong (inr h) = absurd (clash i (firsts a) (firsts c) far sees h)

      at : (FrontK b ts n a i (λ v j. K (inl v) j)) ⊎ (FrontK b ts n c i (λ v j. K (inr v) j)) → FrontK b ts n a i (λ v j. K (inl v) j)
      at (inl x) = x
      at (inr x) = wrong (starts_with c _ i m x)

  pub pick_other : (a c : Part) (K : Val a ⊎ (Val c) → ℕ → Type 0) (i : ℕ) → may_be_empty a ≡ false → next_in (slice_get ts i) (firsts a) ≡ false → FrontK b ts n (a ⊕ c) i K → FrontK b ts n c i (λ v j. K (inr v) j)
  pick_other a c K i m sees f = at (split_choice a c K i f)
    where
      wrong : (i ≡ n) ⊎ (next_in (slice_get ts i) (firsts a) ≡ true) → FrontK b ts n c i (λ v j. K (inr v) j)
      wrong (inl e) = ended c _ i e
      wrong (inr h) = absurd (cc)

      at : (FrontK b ts n a i (λ v j. K (inl v) j)) ⊎ (FrontK b ts n c i (λ v j. K (inr v) j)) → FrontK b ts n c i (λ v j. K (inr v) j)
      at (inl x) = wrong (starts_with a _ i m x)
      at (inr x) = x

  -- a part that may be left out: what is behind it where it is left out
  pub data Left_out {C : Type 0} (a : Part) (i : ℕ) (K : C → ℕ → Type 0) (v : C) (Rest : Type 0) : Type 0 where
    out_at : K v i → Left_out a i K v Rest
    in_at : Rest → Left_out a i K v Rest

  pub go_in : {C : Type 0} (a : Part) (i : ℕ) (nx : List Terminal) (K : C → ℕ → Type 0) (v : C) (K2 : Val a → ℕ → Type 0) → Follows ts n K nx → apart (firsts a) nx ≡ true → next_in (slice_get ts i) (firsts a) ≡ true
      → Left_out a i K v (FrontK b ts n a i K2) → FrontK b ts n a i K2
  go_in a i nx K v K2 fo far sees (in_at x) = x
  go_in a i nx K v K2 fo far sees (out_at k) = at (fo v i k)
    where
      at : Follow ts n i nx → FrontK b ts n a i K2
      at (at_end e) = ended a K2 i e
      at (seen h) = absurd (clash i (firsts a) nx far sees h)
      at (over e) = let none = ap (λ o. next_in o (firsts a)) e in absurd (cc)

  pub stay_out : {C : Type 0} (a : Part) (i : ℕ) (K : C → ℕ → Type 0) (v : C) (K2 : Val a → ℕ → Type 0) → may_be_empty a ≡ false → next_in (slice_get ts i) (firsts a) ≡ false → i < n
      → Left_out a i K v (FrontK b ts n a i K2) → K v i
  stay_out a i K v K2 m sees lt (out_at k) = k
  stay_out a i K v K2 m sees lt (in_at x) = let h = shown b ts n m lt x in absurd (cc)

  pub to_maybe : (a : Part) (K : Option (Val a) → ℕ → Type 0) (i : ℕ) → FrontK b ts n (maybe a) i K → Left_out a i K None (FrontK b ts n a i (λ v j. K (Some v) j))
  to_maybe a K i (inside f) = front f
    where
      derived : {j : ℕ} {v : Option (Val a)} → Derives (limit b) ts (maybe a) j n v → Left_out a j K None (FrontK b ts n a j (λ v j. K (Some v) j))
      derived (absent _ _) = in_at (inside (empty a))
      derived (present _ i _ v d) = in_at (inside (whole a i v d))

      front : {j : ℕ} → Front (limit b) ts n (maybe a) j → Left_out a j K None (FrontK b ts n a j (λ v j. K (Some v) j))
      front (empty _) = in_at (inside (empty a))
      front (whole _ j v d) = derived d
      front (of_maybe _ i f) = in_at (inside f)
  to_maybe a K i (past j v d k) = derived d k
    where
      derived : {i j : ℕ} {v : Option (Val a)} → Derives (limit b) ts (maybe a) i j v → K v j → Left_out a i K None (FrontK b ts n a i (λ v j. K (Some v) j))
      derived (absent _ i) k = out_at k
      derived (present _ i j v d) k = in_at (past j v d k)

  pub to_many : (a : Part) (K : List (Val a) → ℕ → Type 0) (i : ℕ) → FrontK b ts n (many a) i K → Left_out a i K [] (FrontK b ts n a i (λ v j. FrontK b ts n (many a) j (λ vs l. K (v ∷ vs) l)))
  to_many a K i (inside f) = front f
    where
      derived : {j : ℕ} {v : List (Val a)} → Derives (limit b) ts (many a) j n v → Left_out a j K [] (FrontK b ts n a j (λ v j. FrontK b ts n (many a) j (λ vs l. K (v ∷ vs) l)))
      derived (no_more _ _) = in_at (inside (empty a))
      derived (again _ i j _ v vs d e) = in_at (past j v d (inside (whole (many a) j vs e)))

      front : {j : ℕ} → Front (limit b) ts n (many a) j → Left_out a j K [] (FrontK b ts n a j (λ v j. FrontK b ts n (many a) j (λ vs l. K (v ∷ vs) l)))
      front (empty _) = in_at (inside (empty a))
      front (whole _ j v d) = derived d
      front (in_one _ i f) = in_at (inside f)
      front (in_more _ i j v d f) = in_at (past j v d (inside f))
  to_many a K i (past j v d k) = derived d k
    where
      derived : {i j : ℕ} {v : List (Val a)} → Derives (limit b) ts (many a) i j v → K v j → Left_out a i K [] (FrontK b ts n a i (λ v j. FrontK b ts n (many a) j (λ vs l. K (v ∷ vs) l)))
      derived (no_more _ i) k = out_at k
      derived (again _ i j l v vs d e) k = in_at (past j v d (past l vs e k))

  -- ---- separators

  abbrev pub Behind : (a : Part) (c : Terminal) (K : List (Val a) × Bool → ℕ → Type 0) → Token → ℕ → Type 0
  Behind a c K t j = Left_out a j K ([], true) (FrontK b ts n a j (λ v l. FrontK b ts n (after c a) l (λ vs q. K (v ∷ vs.0, vs.1) q)))

  pub to_after : (c : Terminal) (a : Part) (K : List (Val a) × Bool → ℕ → Type 0) (i : ℕ) → FrontK b ts n (after c a) i K → Left_out (tok c) i K ([], false) (FrontK b ts n (tok c) i (Behind a c K))
  to_after c a K i (inside f) = front f
    where
      derived : {j : ℕ} {v : List (Val a) × Bool} → Derives (limit b) ts (after c a) j n v → Left_out (tok c) j K ([], false) (FrontK b ts n (tok c) j (Behind a c K))
      derived (ends _ _ _) = in_at (inside (empty (tok c)))
      derived (trails _ _ i _ t d) = in_at (inside (whole (tok c) i t d))
      derived (goes_on _ _ i j l _ t v vs d e f) = in_at (past j t d (in_at (past l v e (inside (whole (after c a) l vs f)))))

      front : {j : ℕ} → Front (limit b) ts n (after c a) j → Left_out (tok c) j K ([], false) (FrontK b ts n (tok c) j (Behind a c K))
      front (empty _) = in_at (inside (empty (tok c)))
      front (whole _ j v d) = derived d
      front (in_item _ _ i j t d f) = in_at (past j t d (in_at (inside f)))
      front (in_items _ _ i j l t v d e f) = in_at (past j t d (in_at (past l v e (inside f))))
  to_after c a K i (past j v d k) = derived d k
    where
      derived : {i j : ℕ} {v : List (Val a) × Bool} → Derives (limit b) ts (after c a) i j v → K v j → Left_out (tok c) i K ([], false) (FrontK b ts n (tok c) i (Behind a c K))
      derived (ends _ _ i) k = out_at k
      derived (trails _ _ i j t d) k = in_at (past j t d (out_at k))
      derived (goes_on _ _ i j l q t v vs d e f) k = in_at (past j t d (in_at (past l v e (past q vs f k))))

  -- ---- levels

  pub to_left : (e : ExprSym) (m : More) (K : Piece → ℕ → Type 0) (i : ℕ) → FrontK b ts n (left e m) i K → FrontK b ts n (g.sym (expr e)) i (λ v j. FrontK b ts n (grown m v) j K)
  to_left e m K i (inside f) = front f
    where
      derived : {j : ℕ} {v : Piece} → Derives (limit b) ts (left e m) j n v → FrontK b ts n (g.sym (expr e)) j (λ v j. FrontK b ts n (grown m v) j K)
      derived (from_left _ _ i j _ v u d f) = past j v d (inside (whole (grown m v) j u f))

      front : {j : ℕ} → Front (limit b) ts n (left e m) j → FrontK b ts n (g.sym (expr e)) j (λ v j. FrontK b ts n (grown m v) j K)
      front (empty _) = inside (empty (g.sym (expr e)))
      front (whole _ j v d) = derived d
      front (in_left _ _ i f) = inside f
      front (behind_left _ _ i j v d f) = past j v d (inside f)
  to_left e m K i (past j v d k) = derived d k
    where
      derived : {i j : ℕ} {v : Piece} → Derives (limit b) ts (left e m) i j v → K v j → FrontK b ts n (g.sym (expr e)) i (λ v j. FrontK b ts n (grown m v) j K)
      derived (from_left _ _ i j l v u d f) k = past j v d (past l u f k)

  abbrev pub Grown : (m : More) → Piece → (Piece → ℕ → Type 0) → SemMore m → ℕ → Type 0
  Grown m v K w j = IsTrue (limit b (grow m v w).tree) × FrontK b ts n (grown m (grow m v w)) j K

  pub to_grown : (m : More) (v : Piece) (K : Piece → ℕ → Type 0) (i : ℕ) → FrontK b ts n (grown m v) i K → Left_out (g.sym (more m)) i K v (FrontK b ts n (g.sym (more m)) i (Grown m v K))
  to_grown m v K i (inside f) = front f
    where
      derived : {j : ℕ} {u : Piece} → Derives (limit b) ts (grown m v) j n u → Left_out (g.sym (more m)) j K v (FrontK b ts n (g.sym (more m)) j (Grown m v K))
      derived (full _ _ _) = in_at (inside (empty (g.sym (more m))))
      derived (grows _ _ u i j _ w d h e) = in_at (past j w d (h, inside (whole (grown m (grow m v w)) j u e)))

      front : {j : ℕ} → Front (limit b) ts n (grown m v) j → Left_out (g.sym (more m)) j K v (FrontK b ts n (g.sym (more m)) j (Grown m v K))
      front (empty _) = in_at (inside (empty (g.sym (more m))))
      front (whole _ j u d) = derived d
      front (in_growth _ _ i f) = in_at (inside f)
      front (behind_growth _ _ i j w d h f) = in_at (past j w d (h, inside f))
  to_grown m v K i (past j u d k) = derived d k
    where
      derived : {i j : ℕ} {u : Piece} → Derives (limit b) ts (grown m v) i j u → K u j → Left_out (g.sym (more m)) i K v (FrontK b ts n (g.sym (more m)) i (Grown m v K))
      derived (full _ _ i) k = out_at k
      derived (grows _ _ u i j l w d h e) k = in_at (past j w d (h, past l u e k))
