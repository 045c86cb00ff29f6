-- No front reaches past a fault that was read.
use Rattle.std.proofs.Common.{◌≡◌, ℕ, zero, suc, ◌<◌, Bool, true, false, not, ◌&&◌, ◌||◌, List, [], ◌∷◌, ◌++◌, Option, Some, None, Ok, Err, if◌then◌else◌, inl, inr, refl, arith, ◌⊎◌}
use Rattle.py_syntax.specs.declared.token.Token.{Token}
use Rattle.py_parser_grammar.specs.declared.terminal.Terminal.{Terminal}
use Rattle.py_parser_grammar.specs.declared.place.Place.{Place}
use Rattle.py_parser_grammar.specs.Levels.{Piece, Limit, shallow}
use Rattle.py_parser_grammar.specs.Grammar as g
use Rattle.py_parser_grammar.specs.Grammar.{ExprSym, More, Sym, expr, more, Part, tok, ◌·◌, ◌⊕◌, maybe, many, after, left, grown, rhs, ATOM, MODULE}
use Rattle.py_parser_grammar.specs.Actions.{Val, Sem, SemMore, act, grow}
use Rattle.py_parser_grammar.specs.Derivation.{admits}
use Rattle.py_parser_grammar.specs.Reader.{Outcome, ◌>>=◌, keep_all, Reader, step, run, accept, sees, firsts, may_be_empty, starts_more, mark}
use Rattle.std.specs.Prelude.{IsTrue}
use Rattle.py_parser_grammar.proofs.Lookahead.{apart, within, follow, follow_expr, decided}
use Rattle.py_parser_grammar.proofs.Checks.{all_decided}
use Rattle.py_parser_grammar.proofs.Beginnings.{and_left, and_right, not_true}
use Rattle.py_parser_grammar.proofs.Progress.{Later, later, later_weaken, bound, either_way}
use Rattle.py_parser_grammar.proofs.Continuations.{limit, FrontK, Follows, Excludes, follow_within, excludes_stop, excludes_map, narrow, both_true, late, excludes_tok}
use Rattle.py_parser_grammar.proofs.Unfolding.{rest_follow, to_rule, to_two, mark_clear, pick_first, pick_other, go_in, stay_out, to_maybe, to_many, to_after, to_left, to_grown, Behind, Grown}

-- ---- all parts

module _ (b : Bool) (ts : List Token) (n : ℕ) (run : Reader)
    (lat : (r : Part) (p : Place) → Later p.at (run r p))
    (ih : (r : Part) (nx : List Terminal) (K : Val r → ℕ → Type 0) → Follows ts n K nx → decided r nx ≡ true → (p : Place) → (b && p.deep) ≡ false → Excludes b n (FrontK b ts n r p.at K) K (run r p)) where
  lim : Limit
  lim = limit b

  after_bind : {A C : Type 0} (i : ℕ) (o : Outcome A) (h : A → C) → Later i o → Later i (o >>= λ y. Ok (h y.0, y.1))
  after_bind i (Ok x) h l = l
  after_bind i (Err e) h l = l

  later_two : (a c : Part) {C : Type 0} (h : Val a → Val c → C) (p : Place) → Later p.at (run a p >>= λ x. run c x.1 >>= λ y. Ok (h x.0 y.0, y.1))
  later_two a c h p =
      bound (Later p.at) (Later p.at) (λ x. run c x.1 >>= λ y. Ok (h x.0 y.0, y.1)) (run a p)
      (λ x l. later_weaken p.at x.1.at (run c x.1 >>= λ y. Ok (h x.0 y.0, y.1)) l (after_bind x.1.at (run c x.1) (h x.0) (lat c x.1)))
      (λ e l. l) (lat a p)

  -- two in a row
  excludes_two : (a c : Part) {C : Type 0} (h : Val a → Val c → C) (K : C → ℕ → Type 0) (na nc : List Terminal) (F : Type 0) (p : Place)
      → Follows ts n {A = Val a} (λ v j. FrontK b ts n c j (λ w l. K (h v w) l)) na → decided a na ≡ true
      → ((v : Val a) → Follows ts n {A = Val c} (λ w l. K (h v w) l) nc) → decided c nc ≡ true
      → (b && p.deep) ≡ false
      → (F → FrontK b ts n a p.at (λ v j. FrontK b ts n c j (λ w l. K (h v w) l)))
      → Excludes b n F K (run a p >>= λ x. run c x.1 >>= λ y. Ok (h x.0 y.0, y.1))
  excludes_two a c h K na nc F p fa da fc dc clear conv =
      bound (Excludes b n Fa Ka) (Excludes b n F K) (λ x. run c x.1 >>= λ y. Ok (h x.0 y.0, y.1)) (run a p)
      (λ x w. late b n F K x.1.at (run c x.1 >>= λ y. Ok (h x.0 y.0, y.1)) (after_bind x.1.at (run c x.1) (h x.0) (lat c x.1))
      (λ lt f. let t = w lt (conv f) in excludes_map b n F (FrontK b ts n c x.1.at (λ u l. K (h x.0 u) l)) (h x.0) K (run c x.1) (λ _. t.1) (ih c nc (λ u l. K (h x.0 u) l) (fc x.0) dc x.1 t.0)))
      (λ e w. excludes_stop b n F Fa e conv w)
      (ih a na Ka fa da p clear)
    where
      Ka : Val a → ℕ → Type 0
      Ka v j = FrontK b ts n c j (λ w l. K (h v w) l)

      Fa : Type 0
      Fa = FrontK b ts n a p.at Ka

  excludes_sym : (s : Sym) (nx : List Terminal) (K : Sem s → ℕ → Type 0) → Follows ts n K nx → within nx (follow s) ≡ true → (p : Place) → (b && p.deep) ≡ false
      → Excludes b n (FrontK b ts n (g.sym s) p.at K) K (step keep_all ts run (g.sym s) p)
  excludes_sym s nx K fo de p clear =
      bound (Excludes b n Fr Kr) (Excludes b n (FrontK b ts n (g.sym s) p.at K) K) (λ x. Ok (act s x.0, mark (admits shallow s (act s x.0)) x.1)) (run (rhs s) p)
      (λ x w lt f. let t = w lt (to_rule b ts n s K p.at f) in (mark_clear b ts n s (act s x.0) x.1.deep t.0 t.1.0, t.1.1))
      (λ e w. excludes_stop b n (FrontK b ts n (g.sym s) p.at K) Fr e (to_rule b ts n s K p.at) w)
      (ih (rhs s) (follow s) Kr (λ v j k. follow_within ts n j nx (follow s) de (fo (act s v) j k.1)) (all_decided s) p clear)
    where
      Kr : Val (rhs s) → ℕ → Type 0
      Kr v j = IsTrue (admits (limit b) s (act s v)) × K (act s v) j

      Fr : Type 0
      Fr = FrontK b ts n (rhs s) p.at Kr

  excludes_pair : (a c : Part) (nx : List Terminal) (K : Val a × (Val c) → ℕ → Type 0) → Follows ts n K nx → decided (a · c) nx ≡ true → (p : Place) → (b && p.deep) ≡ false
      → Excludes b n (FrontK b ts n (a · c) p.at K) K (step keep_all ts run (a · c) p)
  excludes_pair a c nx K fo de p clear =
      excludes_two a c (λ v w. (v, w)) K (if may_be_empty c then firsts c ++ nx else firsts c) nx (FrontK b ts n (a · c) p.at K) p
      (λ v j k. rest_follow b ts n c (λ w l. K (v, w) l) nx (λ w l k. fo (v, w) l k) j k) (and_left (decided a _) _ de)
      (λ v w l k. fo (v, w) l k) (and_right (decided a _) _ de)
      clear (to_two b ts n a c K p.at)

  excludes_choice : (a c : Part) (nx : List Terminal) (K : Val a ⊎ (Val c) → ℕ → Type 0) → Follows ts n K nx → decided (a ⊕ c) nx ≡ true → (p : Place) → (b && p.deep) ≡ false
      → Excludes b n (FrontK b ts n (a ⊕ c) p.at K) K (step keep_all ts run (a ⊕ c) p)
  excludes_choice a c nx K fo de p clear =
      let t1 = and_left (apart (firsts a) (firsts c)) _ de in
      let d1 = and_right (apart (firsts a) (firsts c)) _ de in
      let t2 = not_true (may_be_empty a) (and_left (not (may_be_empty a)) _ d1) in
      let d2 = and_right (not (may_be_empty a)) _ d1 in
      let t3 = not_true (may_be_empty c) (and_left (not (may_be_empty c)) _ d2) in
      let d3 = and_right (not (may_be_empty c)) _ d2 in
      either_way (Excludes b n (FrontK b ts n (a ⊕ c) p.at K) K) (sees ts p (firsts a))
      (run a p >>= λ x. Ok (inl x.0, x.1)) (run c p >>= λ x. Ok (inr x.0, x.1))
      (λ y. excludes_map b n (FrontK b ts n (a ⊕ c) p.at K) (FrontK b ts n a p.at (λ v j. K (inl v) j)) inl K (run a p) (pick_first b ts n a c K p.at t3 t1 y)
      (ih a nx (λ v j. K (inl v) j) (λ v j k. fo (inl v) j k) (and_left (decided a nx) _ d3) p clear))
      (λ y. excludes_map b n (FrontK b ts n (a ⊕ c) p.at K) (FrontK b ts n c p.at (λ v j. K (inr v) j)) inr K (run c p) (pick_other b ts n a c K p.at t2 y)
      (ih c nx (λ v j. K (inr v) j) (λ v j k. fo (inr v) j k) (and_right (decided a nx) _ d3) p clear))

  excludes_maybe : (a : Part) (nx : List Terminal) (K : Option (Val a) → ℕ → Type 0) → Follows ts n K nx → decided (maybe a) nx ≡ true → (p : Place) → (b && p.deep) ≡ false
      → Excludes b n (FrontK b ts n (maybe a) p.at K) K (step keep_all ts run (maybe a) p)
  excludes_maybe a nx K fo de p clear =
      let m = not_true (may_be_empty a) (and_left (not (may_be_empty a)) _ de) in
      let d1 = and_right (not (may_be_empty a)) _ de in
      let far = and_left (apart (firsts a) nx) _ d1 in
      let d2 = and_right (apart (firsts a) nx) _ d1 in
      either_way (Excludes b n (FrontK b ts n (maybe a) p.at K) K) (sees ts p (firsts a)) (run a p >>= λ x. Ok (Some x.0, x.1)) (Ok (None, p))
      (λ y. excludes_map b n (FrontK b ts n (maybe a) p.at K) (FrontK b ts n a p.at (λ v j. K (Some v) j)) Some K (run a p)
      (λ f. go_in b ts n a p.at nx K None _ fo far y (to_maybe b ts n a K p.at f))
      (ih a nx (λ v j. K (Some v) j) (λ v j k. fo (Some v) j k) d2 p clear))
      (λ y lt f. (clear, stay_out b ts n a p.at K None _ m y lt (to_maybe b ts n a K p.at f)))

  excludes_many : (a : Part) (nx : List Terminal) (K : List (Val a) → ℕ → Type 0) → Follows ts n K nx → decided (many a) nx ≡ true → (p : Place) → (b && p.deep) ≡ false
      → Excludes b n (FrontK b ts n (many a) p.at K) K (step keep_all ts run (many a) p)
  excludes_many a nx K fo de p clear =
      let m = not_true (may_be_empty a) (and_left (not (may_be_empty a)) _ de) in
      let d1 = and_right (not (may_be_empty a)) _ de in
      let far = and_left (apart (firsts a) nx) _ d1 in
      let d2 = and_right (apart (firsts a) nx) _ d1 in
      either_way (Excludes b n (FrontK b ts n (many a) p.at K) K) (sees ts p (firsts a)) (run a p >>= λ x. run (many a) x.1 >>= λ y. Ok (x.0 ∷ y.0, y.1)) (Ok ([], p))
      (λ y. excludes_two a (many a) (λ v vs. v ∷ vs) K (firsts a ++ nx) nx (FrontK b ts n (many a) p.at K) p
      (λ v j k. rest_follow b ts n (many a) (λ vs l. K (v ∷ vs) l) nx (λ vs l k. fo (v ∷ vs) l k) j k) d2
      (λ v vs l k. fo (v ∷ vs) l k) de
      clear (λ f. go_in b ts n a p.at nx K [] _ fo far y (to_many b ts n a K p.at f)))
      (λ y lt f. (clear, stay_out b ts n a p.at K [] _ m y lt (to_many b ts n a K p.at f)))

  excludes_after : (c : Terminal) (a : Part) (nx : List Terminal) (K : List (Val a) × Bool → ℕ → Type 0) → Follows ts n K nx → decided (after c a) nx ≡ true → (p : Place) → (b && p.deep) ≡ false
      → Excludes b n (FrontK b ts n (after c a) p.at K) K (step keep_all ts run (after c a) p)
  excludes_after c a nx K fo de p clear =
      let m = not_true (may_be_empty a) (and_left (not (may_be_empty a)) _ de) in
      let d1 = and_right (not (may_be_empty a)) _ de in
      let far_c = and_left (apart (c ∷ []) nx) _ d1 in
      let d2 = and_right (apart (c ∷ []) nx) _ d1 in
      let far = and_left (apart (firsts a) nx) _ d2 in
      let da = and_right (apart (firsts a) nx) _ d2 in
      either_way (Excludes b n F K) (sees ts p (c ∷ [])) (accept ts c p >>= next) (Ok (([], false), p))
      (λ y. bound (Excludes b n (FrontK b ts n (tok c) p.at (Behind b ts n a c K)) (Behind b ts n a c K)) (Excludes b n F K) next (accept ts c p)
      (λ x w. late b n F K x.1.at (next x) (next_later x) (λ lt f.
      let t = w lt (go_in b ts n (tok c) p.at nx K ([], false) _ fo far_c y (to_after b ts n c a K p.at f)) in
      next_excludes x far m da t.0 t.1 lt f))
      (λ e w. excludes_stop b n F (FrontK b ts n (tok c) p.at (Behind b ts n a c K)) e (λ f. go_in b ts n (tok c) p.at nx K ([], false) _ fo far_c y (to_after b ts n c a K p.at f)) w)
      (excludes_tok b ts n c (Behind b ts n a c K) p clear))
      (λ y lt f. (clear, stay_out b ts n (tok c) p.at K ([], false) _ refl y lt (to_after b ts n c a K p.at f)))
    where
      F : Type 0
      F = FrontK b ts n (after c a) p.at K

      next : Token × Place → Outcome (List (Val a) × Bool)
      next x =
          if sees ts x.1 (firsts a)
          then (run a x.1 >>= λ y. run (after c a) y.1 >>= λ z. Ok ((y.0 ∷ z.0.0, z.0.1), z.1))
          else Ok (([], true), x.1)

      next_later : (x : Token × Place) → Later x.1.at (next x)
      next_later x =
          either_way (Later x.1.at) (sees ts x.1 (firsts a)) _ _
          (λ _. later_two a (after c a) (λ v vs. (v ∷ vs.0, vs.1)) x.1)
          (λ _. omega arith)

      next_excludes : (x : Token × Place) → apart (firsts a) nx ≡ true → may_be_empty a ≡ false → decided a (c ∷ nx) ≡ true → (b && x.1.deep) ≡ false → Behind b ts n a c K x.0 x.1.at → x.1.at < n → F → Excludes b n F K (next x)
      next_excludes x far m da clear k lt f =
          either_way (Excludes b n F K) (sees ts x.1 (firsts a)) (run a x.1 >>= λ y. run (after c a) y.1 >>= λ z. Ok ((y.0 ∷ z.0.0, z.0.1), z.1)) (Ok (([], true), x.1))
          (λ y. excludes_two a (after c a) (λ v vs. (v ∷ vs.0, vs.1)) K (c ∷ nx) nx F x.1
          (λ v j k. rest_follow b ts n (after c a) (λ vs q. K (v ∷ vs.0, vs.1) q) nx (λ vs l k. fo (v ∷ vs.0, vs.1) l k) j k) da
          (λ v vs l k. fo (v ∷ vs.0, vs.1) l k) de
          clear (λ _. go_in b ts n a x.1.at nx K ([], true) _ fo far y k))
          (λ y l _. (clear, stay_out b ts n a x.1.at K ([], true) _ m y lt k))

  -- what a growth leaves
  excludes_left : (e : ExprSym) (m : More) (nx : List Terminal) (K : Piece → ℕ → Type 0) → Follows ts n K nx → decided (left e m) nx ≡ true → (p : Place) → (b && p.deep) ≡ false
      → Excludes b n (FrontK b ts n (left e m) p.at K) K (step keep_all ts run (left e m) p)
  excludes_left e m nx K fo de p clear =
      let far = and_left (apart (starts_more m) nx) _ de in
      let d1 = and_right (apart (starts_more m) nx) _ de in
      let in_e = and_left (within (starts_more m ++ nx) (follow_expr e)) _ d1 in
      let in_m = and_right (within (starts_more m ++ nx) (follow_expr e)) _ d1 in
      bound (Excludes b n Fr Kr) (Excludes b n F K) (λ x. run (grown m x.0) x.1) (run (g.sym (expr e)) p)
      (λ x w. late b n F K x.1.at (run (grown m x.0) x.1) (lat (grown m x.0) x.1) (λ lt f.
      let t = w lt (to_left b ts n e m K p.at f) in
      narrow b n F (FrontK b ts n (grown m x.0) x.1.at K) K (run (grown m x.0) x.1) t.1 (ih (grown m x.0) nx K fo (both_true far in_m) x.1 t.0)))
      (λ q w. excludes_stop b n F Fr q (to_left b ts n e m K p.at) w)
      (ih (g.sym (expr e)) (starts_more m ++ nx) Kr (λ v j k. rest_follow b ts n (grown m v) K nx fo j k) in_e p clear)
    where
      F : Type 0
      F = FrontK b ts n (left e m) p.at K

      Kr : Piece → ℕ → Type 0
      Kr v j = FrontK b ts n (grown m v) j K

      Fr : Type 0
      Fr = FrontK b ts n (g.sym (expr e)) p.at Kr

  excludes_grown : (m : More) (v : Piece) (nx : List Terminal) (K : Piece → ℕ → Type 0) → Follows ts n K nx → decided (grown m v) nx ≡ true → (p : Place) → (b && p.deep) ≡ false
      → Excludes b n (FrontK b ts n (grown m v) p.at K) K (step keep_all ts run (grown m v) p)
  excludes_grown m v nx K fo de p clear =
      let far = and_left (apart (starts_more m) nx) _ de in
      let in_m = and_right (apart (starts_more m) nx) _ de in
      either_way (Excludes b n F K) (sees ts p (starts_more m)) (run (g.sym (more m)) p >>= next) (Ok (v, p))
      (λ y. bound (Excludes b n Fr (Grown b ts n m v K)) (Excludes b n F K) next (run (g.sym (more m)) p)
      (λ x w. late b n F K x.1.at (next x) (lat (grown m (grow m v x.0)) (mark (shallow (grow m v x.0).tree) x.1)) (λ lt f.
      let t = w lt (go_in b ts n (g.sym (more m)) p.at nx K v _ fo far y (to_grown b ts n m v K p.at f)) in
      narrow b n F (FrontK b ts n (grown m (grow m v x.0)) x.1.at K) K (next x) t.1.1
      (ih (grown m (grow m v x.0)) nx K fo de (mark (shallow (grow m v x.0).tree) x.1) (mark_clear_tree (grow m v x.0) x.1.deep t.0 t.1.0))))
      (λ q w. excludes_stop b n F Fr q (λ f. go_in b ts n (g.sym (more m)) p.at nx K v _ fo far y (to_grown b ts n m v K p.at f)) w)
      (ih (g.sym (more m)) (starts_more m ++ nx) (Grown b ts n m v K) (λ w j k. rest_follow b ts n (grown m (grow m v w)) K nx fo j k.1) in_m p clear))
      (λ y lt f. (clear, stay_out b ts n (g.sym (more m)) p.at K v _ refl y lt (to_grown b ts n m v K p.at f)))
    where
      next : SemMore m × Place → Outcome Piece
      next x = run (grown m (grow m v x.0)) (mark (shallow (grow m v x.0).tree) x.1)

      F : Type 0
      F = FrontK b ts n (grown m v) p.at K

      Fr : Type 0
      Fr = FrontK b ts n (g.sym (more m)) p.at (Grown b ts n m v K)

      mark_clear_tree : (t : Piece) (d : Bool) → (b && d) ≡ false → IsTrue (limit b t.tree) → (b && (not (shallow t.tree) || d)) ≡ false
      mark_clear_tree t d c w = mark_clear b ts n (expr ATOM) t d c w

  pub excludes_step : (r : Part) (nx : List Terminal) (K : Val r → ℕ → Type 0) → Follows ts n K nx → decided r nx ≡ true → (p : Place) → (b && p.deep) ≡ false → Excludes b n (FrontK b ts n r p.at K) K (step keep_all ts run r p)
  excludes_step (tok c) nx K fo de p clear = excludes_tok b ts n c K p clear
  excludes_step (g.sym s) nx K fo de p clear = excludes_sym s nx K fo de p clear
  excludes_step (a · c) nx K fo de p clear = excludes_pair a c nx K fo de p clear
  excludes_step (a ⊕ c) nx K fo de p clear = excludes_choice a c nx K fo de p clear
  excludes_step (maybe a) nx K fo de p clear = excludes_maybe a nx K fo de p clear
  excludes_step (many a) nx K fo de p clear = excludes_many a nx K fo de p clear
  excludes_step (after c a) nx K fo de p clear = excludes_after c a nx K fo de p clear
  excludes_step (left e m) nx K fo de p clear = excludes_left e m nx K fo de p clear
  excludes_step (grown m v) nx K fo de p clear = excludes_grown m v nx K fo de p clear

-- THE THEOREM, one direction: whatever is a front of the part and what may follow it, goes on with what was read, and no front reaches past a fault.
pub excludes : (b : Bool) (ts : List Token) (n steps : ℕ) (r : Part) (nx : List Terminal) (K : Val r → ℕ → Type 0) → Follows ts n K nx → decided r nx ≡ true → (p : Place) → (b && p.deep) ≡ false → Excludes b n (FrontK b ts n r p.at K) K (run keep_all ts steps r p)
unfolding run
excludes b ts n zero r nx K fo de p clear = tt
excludes b ts n (suc steps) r nx K fo de p clear = excludes_step b ts n (run keep_all ts steps) (later ts steps) (excludes b ts n steps) r nx K fo de p clear
