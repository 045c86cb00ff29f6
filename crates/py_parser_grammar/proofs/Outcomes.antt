-- What reading a module answers is what its tokens are, and nothing else is.
use Rattle.std.specs.Prelude.{slice_get}
use Rattle.std.proofs.Common.{◌≡◌, ℕ, zero, suc, ◌+◌, ◌-◌, ◌≤◌, ◌<◌, Bool, true, false, ◌&&◌, List, [], ◌∷◌, Option, Some, None, Ok, Err, refl, sym, ◌∙◌, ap, subst, arith, length}
use Rattle.py_syntax.specs.declared.token.Token.{Token}
use Rattle.py_parser_grammar.specs.declared.terminal.Terminal.{Terminal}
use Rattle.py_parser_grammar.specs.declared.place.Place.{Place}
use Rattle.py_parser_grammar.specs.Terminals.{terminal_of, same, next_left_out}
use Rattle.py_parser_grammar.specs.Levels.{free, shallow}
use Rattle.py_parser_grammar.specs.Grammar as g
use Rattle.py_parser_grammar.specs.Grammar.{ExprSym, More, Sym, expr, more, Part, tok, ◌·◌, ◌⊕◌, maybe, many, after, left, grown, rhs, ATOM, MODULE}
use Rattle.py_parser_grammar.specs.Actions.{Sem, act, grow}
use Rattle.py_parser_grammar.specs.Derivation.{Derives, Front}
use Rattle.py_parser_grammar.specs.Reader.{Outcome, ◌>>=◌, Stop, syntax_at, profile_at, too_deep_at, out, keep_all, keep_small, Reader, step, run, reads, enough, start, accept, accept_one, take_it, refusal, sees, firsts, starts_more, mark}
use Rattle.std.proofs.lemmas.Option.{slice_get_past}
use Rattle.py_syntax.specs.Tokens.{EndsOnce}
use Rattle.py_syntax.specs.Statements.{Suite}
use Rattle.py_parser_grammar.specs.declared.terminal.Terminal.TheVariants as terminal
use Rattle.py_parser_grammar.specs.Terminals.{IsLeftOutAt}
use Rattle.py_parser_grammar.specs.Grammar.{TOP}
use Rattle.py_parser_grammar.specs.Faults.{IsTree, IsFront, SyntaxAt, TooDeepAt, Came, tree, syntax, profile, too_deep, Says}
use Rattle.py_parser_grammar.specs.Readings.{reads_sym}
use Rattle.py_parser_grammar.specs.Laws.{came, OutcomeExists, OutcomeIsOne, TreeIsOne, FaultsAreTokens, ReadingIsExact}
use Rattle.py_parser_grammar.proofs.Progress.{either_way}
use Rattle.py_parser_grammar.proofs.Continuations.{limit, FrontK, inside, past, Excludes, ExcludesStop, Follows, over}
use Rattle.py_parser_grammar.proofs.Exclusion.{excludes}
use Rattle.py_parser_grammar.proofs.Soundness.{Sound, SoundAt, sound}
use Rattle.py_parser_grammar.proofs.Kept.{Like, stopped, read, like}
use Rattle.py_parser_grammar.proofs.Steps.{SureStop, Sure, sure, rest}
use Rattle.py_parser_grammar.proofs.Fronts.{split, derives_cut, front_cut, derives_within, front_within, front_free}
use Rattle.py_parser_grammar.proofs.Ends.{module_whole, front_is_tree}

-- ---- which of the two faults a refused token is

abbrev RefusedAt : List Token → Stop → Type 0
RefusedAt ts (syntax_at i) = next_left_out (slice_get ts i) ≡ false
RefusedAt ts (profile_at i) = next_left_out (slice_get ts i) ≡ true
RefusedAt ts (too_deep_at i) = Unit {0}
RefusedAt ts out = Unit {0}

abbrev Refused : List Token → {A : Type 0} → Outcome A → Type 0
Refused ts (Ok x) = Unit {0}
Refused ts (Err e) = RefusedAt ts e

refused_then : (ts : List Token) {A C : Type 0} (o : Outcome A) (f : A × Place → Outcome C) → Refused ts o → ((x : A × Place) → Refused ts (f x)) → Refused ts (o >>= f)
refused_then ts (Ok x) f w k = k x
refused_then ts (Err e) f w k = w

refused_accept : (ts : List Token) (c : Terminal) (p : Place) → Refused ts (accept ts c p)
refused_accept ts c p = go (slice_get ts p.at) refl
  where
    here : (o : Option Token) → slice_get ts p.at ≡ o → RefusedAt ts (refusal o p.at)
    here o e = either_way (RefusedAt ts) (next_left_out o) (profile_at p.at) (syntax_at p.at) (λ y. ap next_left_out e ∙ y) (λ y. ap next_left_out e ∙ y)

    go : (o : Option Token) → slice_get ts p.at ≡ o → Refused ts (accept_one o c p)
    go None e = here None e
    go (Some t) e =
        either_way (Refused ts) (same (terminal_of t.kind) c) (take_it t p) (Err (refusal (Some t) p.at))
        (λ _. either_way (Refused ts) p.deep (Err (too_deep_at (p.at - 1))) (Ok (t, record { at = p.at + 1; deep = false })) (λ _. tt) (λ _. tt))
        (λ _. here (Some t) e)

module _ (ts : List Token) (run : Reader) (ih : (r : Part) (p : Place) → Refused ts (run r p)) where
  refused_step : (r : Part) (p : Place) → Refused ts (step keep_all ts run r p)
  refused_step (tok c) p = refused_accept ts c p
  refused_step (g.sym x) p = refused_then ts (run (rhs x) p) _ (ih (rhs x) p) (λ v. tt)
  refused_step (a · c) p = refused_then ts (run a p) _ (ih a p) (λ x. refused_then ts (run c x.1) _ (ih c x.1) (λ y. tt))
  refused_step (a ⊕ c) p =
      either_way (Refused ts) (sees ts p (firsts a)) _ _ (λ _. refused_then ts (run a p) _ (ih a p) (λ x. tt)) (λ _. refused_then ts (run c p) _ (ih c p) (λ x. tt))
  refused_step (maybe a) p = either_way (Refused ts) (sees ts p (firsts a)) _ _ (λ _. refused_then ts (run a p) _ (ih a p) (λ x. tt)) (λ _. tt)
  refused_step (many a) p =
      either_way (Refused ts) (sees ts p (firsts a)) _ _
      (λ _. refused_then ts (run a p) _ (ih a p) (λ x. refused_then ts (run (many a) x.1) _ (ih (many a) x.1) (λ y. tt))) (λ _. tt)
  refused_step (after c a) p =
      either_way (Refused ts) (sees ts p (c ∷ [])) _ _
      (λ _. refused_then ts (accept ts c p) _ (refused_accept ts c p) (λ x.
      either_way (Refused ts) (sees ts x.1 (firsts a)) _ _
      (λ _. refused_then ts (run a x.1) _ (ih a x.1) (λ y. refused_then ts (run (after c a) y.1) _ (ih (after c a) y.1) (λ z. tt)))
      (λ _. tt)))
      (λ _. tt)
  refused_step (left e m) p = refused_then ts (run (g.sym (expr e)) p) _ (ih (g.sym (expr e)) p) (λ x. ih (grown m x.0) x.1)
  refused_step (grown m v) p =
      either_way (Refused ts) (sees ts p (starts_more m)) _ _
      (λ _. refused_then ts (run (g.sym (more m)) p) _ (ih (g.sym (more m)) p) (λ x. ih (grown m (grow m v x.0)) (mark (shallow (grow m v x.0).tree) x.1)))
      (λ _. tt)

refused : (ts : List Token) (n : ℕ) (r : Part) (p : Place) → Refused ts (run keep_all ts n r p)
unfolding run
refused ts zero r p = tt
refused ts (suc n) r p = refused_step ts (run keep_all ts n) (refused ts n) r p

-- ---- behind a module no place is deep

abbrev Clear : {A : Type 0} → Outcome A → Type 0
Clear (Ok x) = x.1.deep ≡ false
Clear (Err e) = Unit {0}

clear_then : {A C : Type 0} (o : Outcome A) (f : A × Place → Outcome C) → ((x : A × Place) → Clear (f x)) → Clear (o >>= f)
clear_then (Ok x) f k = k x
clear_then (Err e) f k = tt

clear_map : {A C : Type 0} (h : A → C) (o : Outcome A) → Clear o → Clear (o >>= λ x. Ok (h x.0, x.1))
clear_map h (Ok x) c = c
clear_map h (Err e) c = tt

clear_accept : (ts : List Token) (c : Terminal) (p : Place) → Clear (accept ts c p)
clear_accept ts c p = go (slice_get ts p.at)
  where
    go : (o : Option Token) → Clear (accept_one o c p)
    go None = tt
    go (Some t) =
        either_way Clear (same (terminal_of t.kind) c) (take_it t p) (Err (refusal (Some t) p.at))
        (λ _. either_way Clear p.deep (Err (too_deep_at (p.at - 1))) (Ok (t, record { at = p.at + 1; deep = false })) (λ _. tt) (λ _. refl))
        (λ _. tt)

clear_module : (ts : List Token) (n : ℕ) (p : Place) → Clear (run keep_all ts n (g.sym MODULE) p)
unfolding run
clear_module ts zero p = tt
clear_module ts (suc zero) p = tt
clear_module ts (suc (suc zero)) p = tt
clear_module ts (suc (suc (suc n))) p =
    clear_map (act MODULE) (run keep_all ts (suc (suc n)) (rhs MODULE) p)
    (clear_then (run keep_all ts (suc n) (many (g.sym TOP)) p) (λ x. run keep_all ts (suc n) (tok terminal.End) x.1 >>= λ y. Ok ((x.0, y.0), y.1))
    (λ x. clear_map (λ y. (x.0, y)) (accept ts terminal.End x.1) (clear_accept ts terminal.End x.1)))

-- ---- faults

-- nothing stands behind the tokens of a module
abbrev AtEnd : List Token → (Sem MODULE → Type 0) → Sem MODULE → ℕ → Type 0
AtEnd ts Q v j = (length ts ≤ j) × Q v

at_end_follows : (ts : List Token) (n : ℕ) (Q : Sem MODULE → Type 0) → Follows ts n (AtEnd ts Q) []
at_end_follows ts n Q v j k = over (slice_get_past ts j k.0)

-- where a module has a tree, reading does not stop within its tokens, and what is read is that tree
reads_tree : (b : Bool) (ts : List Token) (k : ℕ) (v : Sem MODULE) (Q : Sem MODULE → Type 0) → Derives (limit b) ts (g.sym MODULE) 0 (length ts) v → Q v
    → Excludes b (length ts + 1) (FrontK b ts (length ts + 1) (g.sym MODULE) 0 (AtEnd ts Q)) (AtEnd ts Q) (run keep_all ts k (g.sym MODULE) start)
reads_tree b ts k v Q d q = excludes b ts (length ts + 1) k (g.sym MODULE) [] (AtEnd ts Q) (at_end_follows ts (length ts + 1) Q) refl start (no_deep b)
  where
    no_deep : (b : Bool) → (b && false) ≡ false
    no_deep true = refl
    no_deep false = refl

nothing : Sem MODULE → ℕ → Type 0
nothing v j = ⊥

module _ (ts : List Token) (once : EndsOnce ts) (k j : ℕ) where
  front_fault : (e : Stop) → run keep_all ts k (g.sym MODULE) start ≡ Err e → ((b : Bool) (n : ℕ) (F : Type 0) → ExcludesStop b n F e → j < n → F → ⊥) → SoundAt ts (g.sym MODULE) start j → SyntaxAt ts j
  unfolding nothing
  front_fault e r refuses at = record {
    within = split j (length ts) (λ l. l) (λ l. absurd (beyond l));
    before = λ n le. front_cut shallow ts j n front (omega arith) le;
    fault = λ f. refuses false (j + 1) (FrontK false ts (j + 1) (g.sym MODULE) 0 nothing)
        (subst (Excludes false (j + 1) (FrontK false ts (j + 1) (g.sym MODULE) 0 nothing) nothing) r
        (excludes false ts (j + 1) k (g.sym MODULE) [] nothing (λ v i h. absurd h) refl start refl))
        (omega arith) (inside f);
  }
    where
      front : Front shallow ts j (g.sym MODULE) 0
      front = at.front refl

      beyond : length ts ≤ j → ⊥
      beyond l =
          let le = front_within shallow ts j front (omega arith) in
          let same_place : j ≡ length ts = omega arith in
          let P : ℕ → Type 0 = λ n. Front shallow ts n (g.sym MODULE) 0 in
          let whole_tree = front_is_tree shallow ts once (subst P same_place front) in
          refuses true (length ts + 1) (FrontK true ts (length ts + 1) (g.sym MODULE) 0 (AtEnd ts (λ v. Unit {0})))
          (subst (Excludes true (length ts + 1) (FrontK true ts (length ts + 1) (g.sym MODULE) 0 (AtEnd ts (λ v. Unit {0}))) (AtEnd ts (λ v. Unit {0}))) r (reads_tree true ts k whole_tree.0 (λ v. Unit {0}) whole_tree.1 tt))
          (omega arith) (past (length ts) whole_tree.0 whole_tree.1 (omega arith, tt))

  syntax_fault : run keep_all ts k (g.sym MODULE) start ≡ Err (syntax_at j) → SyntaxAt ts j
  syntax_fault r = front_fault (syntax_at j) r (λ b n F h. h) (subst (Sound ts (g.sym MODULE) start) r (sound ts k (g.sym MODULE) start))

  profile_fault : run keep_all ts k (g.sym MODULE) start ≡ Err (profile_at j) → SyntaxAt ts j
  profile_fault r = front_fault (profile_at j) r (λ b n F h. h) (subst (Sound ts (g.sym MODULE) start) r (sound ts k (g.sym MODULE) start))

  deep_fault : run keep_all ts k (g.sym MODULE) start ≡ Err (too_deep_at j) → TooDeepAt ts j
  unfolding nothing
  deep_fault r =
      let w = subst (Sound ts (g.sym MODULE) start) r (sound ts k (g.sym MODULE) start) in
      let some = w.some refl in
      let last = w.last in
      record {
        before = λ n le. front_cut shallow ts w.behind n (w.at.front refl) (omega arith) (omega arith);
        goes_on = (let P : ℕ → Type 0 = λ n. Front free ts n (g.sym MODULE) 0 in let q : w.behind + 1 ≡ j + 2 = omega arith in subst P q w.anyhow);
        fault = λ f. subst (Excludes true (j + 2) (FrontK true ts (j + 2) (g.sym MODULE) 0 nothing) nothing) r
            (excludes true ts (j + 2) k (g.sym MODULE) [] nothing (λ v i h. absurd h) refl start refl) refl (omega arith) (inside f);
      }

-- ---- what reading answers

abbrev pub Tells : List Token → Outcome Suite → Type 0
Tells ts (Ok x) = IsTree ts x.0
Tells ts (Err (syntax_at i)) = Says ts (syntax i)
Tells ts (Err (profile_at i)) = Says ts (profile i)
Tells ts (Err (too_deep_at i)) = Says ts (too_deep i)
Tells ts (Err out) = ⊥

module _ (ts : List Token) (once : EndsOnce ts) (k : ℕ) where
  tells_stop : (e : Stop) → SureStop e → run keep_all ts k (g.sym MODULE) start ≡ Err e → Tells ts (Err e)
  tells_stop (syntax_at i) s r = (
    syntax_fault ts once k i r,
    λ y. let n : next_left_out (slice_get ts i) ≡ false = subst (Refused ts) r (refused ts k (g.sym MODULE) start) in
        let t : next_left_out (slice_get ts i) ≡ true = y in absurd (cc),
  )
  tells_stop (profile_at i) s r = (profile_fault ts once k i r, subst (Refused ts) r (refused ts k (g.sym MODULE) start))
  tells_stop (too_deep_at i) s r = deep_fault ts once k i r
  tells_stop out s r = absurd s

  tells_tree : (v w : Suite) (q : Place) → (q.deep ≡ false → v ≡ w) → run keep_all ts k (g.sym MODULE) start ≡ Ok (w, q) → IsTree ts v
  tells_tree v w q e r =
      let p = subst (Sound ts (g.sym MODULE) start) r (sound ts k (g.sym MODULE) start) in
      let clear : q.deep ≡ false = subst Clear r (clear_module ts k start) in
      let d = p.tight refl clear in
      let P : ℕ → Type 0 = λ n. Derives shallow ts (g.sym MODULE) 0 n v in
      let Q : Suite → Type 0 = λ b. Derives shallow ts (g.sym MODULE) 0 q.at b in
      subst P (module_whole shallow ts once d) (subst Q (sym (e clear)) d)

  tells_like : (o a : Outcome Suite) → Like start o a → Sure ts (rest ts start) false o → run keep_all ts k (g.sym MODULE) start ≡ a → Tells ts o
  tells_like _ _ (stopped e) s r = tells_stop e s r
  tells_like _ _ (read v w q e t) s r = tells_tree v w q e r

-- THE ANSWER of reading a module
pub reading_tells : (ts : List Token) → EndsOnce ts → Tells ts (reads_sym ts MODULE start)
unfolding reads reads_sym
reading_tells ts once =
    tells_like ts once (enough ts) (run keep_small ts (enough ts) (g.sym MODULE) start) (run keep_all ts (enough ts) (g.sym MODULE) start)
    (like ts (enough ts) (g.sym MODULE) start)
    (sure keep_small ts (enough ts) (g.sym MODULE) start refl (omega arith))
    refl

pub reading_told : (ts : List Token) → EndsOnce ts → (o : Outcome Suite) → reads_sym ts MODULE start ≡ o → Tells ts o
reading_told ts once o e = subst (Tells ts) e (reading_tells ts once)

-- ---- only one thing is so

module _ (ts : List Token) where
  -- a front up to a place that a whole tree has
  tree_front : (b : Suite) (n : ℕ) → IsTree ts b → n ≤ length ts → IsFront shallow ts n
  tree_front b n d le = derives_cut shallow ts n d (omega arith) le

  no_syntax : (b : Suite) (i : ℕ) → IsTree ts b → SyntaxAt ts i → ⊥
  no_syntax b i d s = let l = s.within in s.fault (front_free shallow ts (i + 1) (tree_front b (i + 1) d (omega arith)))

  no_deep : (b : Suite) (j : ℕ) → IsTree ts b → TooDeepAt ts j → ⊥
  no_deep b j d s = s.fault (tree_front b (j + 2) d (front_within free ts (j + 2) s.goes_on (omega arith)))

  syntax_not_deep : (i j : ℕ) → SyntaxAt ts i → TooDeepAt ts j → ⊥
  syntax_not_deep i j s d =
      split i (j + 2)
      (λ l. s.fault (front_cut free ts (j + 2) (i + 1) d.goes_on (omega arith) (omega arith)))
      (λ l. d.fault (s.before (j + 2) l))

  syntax_first : (i j : ℕ) → SyntaxAt ts i → SyntaxAt ts j → i < j → ⊥
  syntax_first i j s t l = s.fault (front_free shallow ts (i + 1) (t.before (i + 1) (omega arith)))

  deep_first : (i j : ℕ) → TooDeepAt ts i → TooDeepAt ts j → i < j → ⊥
  deep_first i j s t l = s.fault (t.before (i + 2) (omega arith))

  one_syntax : (i j : ℕ) → SyntaxAt ts i → SyntaxAt ts j → i ≡ j
  one_syntax i j s t = split i j (λ l. absurd (syntax_first i j s t l)) (λ l. split j i (λ m. absurd (syntax_first j i t s m)) (λ m. omega arith))

  one_deep : (i j : ℕ) → TooDeepAt ts i → TooDeepAt ts j → i ≡ j
  one_deep i j s t = split i j (λ l. absurd (deep_first i j s t l)) (λ l. split j i (λ m. absurd (deep_first j i t s m)) (λ m. omega arith))

  two_kinds : (i j : ℕ) → Says ts (syntax i) → Says ts (profile j) → ⊥
  two_kinds i j s t = s.1 (let P : ℕ → Type 0 = IsLeftOutAt ts in subst P (one_syntax j i t.0 s.0) t.1)

  one_tree_read : (n : ℕ) (b c : Suite) → IsTree ts b → IsTree ts c → (o a : Outcome Suite) → Like start o a → Sure ts (rest ts start) false o → run keep_all ts n (g.sym MODULE) start ≡ a → b ≡ c
  one_tree_read n b c d e _ _ (stopped (syntax_at j)) s r =
      let w = subst (Sound ts (g.sym MODULE) start) r (sound ts n (g.sym MODULE) start) in
      let le = front_within shallow ts j (w.front refl) (omega arith) in
      absurd (subst (Excludes true (length ts + 1) (FrontK true ts (length ts + 1) (g.sym MODULE) 0 (AtEnd ts (λ v. Unit {0}))) (AtEnd ts (λ v. Unit {0}))) r (reads_tree true ts n b (λ v. Unit {0}) d tt) (omega arith) (past (length ts) b d (omega arith, tt)))
  one_tree_read n b c d e _ _ (stopped (profile_at j)) s r =
      let w = subst (Sound ts (g.sym MODULE) start) r (sound ts n (g.sym MODULE) start) in
      let le = front_within shallow ts j (w.front refl) (omega arith) in
      absurd (subst (Excludes true (length ts + 1) (FrontK true ts (length ts + 1) (g.sym MODULE) 0 (AtEnd ts (λ v. Unit {0}))) (AtEnd ts (λ v. Unit {0}))) r (reads_tree true ts n b (λ v. Unit {0}) d tt) (omega arith) (past (length ts) b d (omega arith, tt)))
  one_tree_read n b c d e _ _ (stopped (too_deep_at j)) s r =
      let w = subst (Sound ts (g.sym MODULE) start) r (sound ts n (g.sym MODULE) start) in
      let le = front_within free ts (w.behind + 1) w.anyhow (omega arith) in
      let some = w.some refl in
      let last = w.last in
      absurd (subst (Excludes true (length ts + 1) (FrontK true ts (length ts + 1) (g.sym MODULE) 0 (AtEnd ts (λ v. Unit {0}))) (AtEnd ts (λ v. Unit {0}))) r (reads_tree true ts n b (λ v. Unit {0}) d tt) refl (omega arith) (past (length ts) b d (omega arith, tt)))
  one_tree_read n b c d e _ _ (stopped out) s r = absurd s
  one_tree_read n b c d e _ _ (read v w q f t) s r =
      let p = subst (Sound ts (g.sym MODULE) start) r (sound ts n (g.sym MODULE) start) in
      let le = derives_within free ts p.anyhow (omega arith) in
      let is : (x : Suite) → IsTree ts x → w ≡ x = λ x h.
      (subst (Excludes true (length ts + 1) (FrontK true ts (length ts + 1) (g.sym MODULE) 0 (AtEnd ts (λ v. v ≡ x))) (AtEnd ts (λ v. v ≡ x))) r (reads_tree true ts n x (λ v. v ≡ x) h refl) (omega arith) (past (length ts) x h (omega arith, refl))).1.1 in
      sym (is b d) ∙ is c e

  pub one_tree : (b c : Suite) → IsTree ts b → IsTree ts c → b ≡ c
  one_tree b c d e =
      one_tree_read (enough ts) b c d e (run keep_small ts (enough ts) (g.sym MODULE) start) (run keep_all ts (enough ts) (g.sym MODULE) start)
      (like ts (enough ts) (g.sym MODULE) start)
      (sure keep_small ts (enough ts) (g.sym MODULE) start refl (omega arith))
      refl

  pub one_outcome : (x y : Came) → Says ts x → Says ts y → x ≡ y
  one_outcome (tree b) (tree c) s t = ap tree (one_tree b c s t)
  one_outcome (tree b) (syntax j) s t = absurd (no_syntax b j s t.0)
  one_outcome (tree b) (profile j) s t = absurd (no_syntax b j s t.0)
  one_outcome (tree b) (too_deep j) s t = absurd (no_deep b j s t)
  one_outcome (syntax i) (tree c) s t = absurd (no_syntax c i t s.0)
  one_outcome (syntax i) (syntax j) s t = ap syntax (one_syntax i j s.0 t.0)
  one_outcome (syntax i) (profile j) s t = absurd (two_kinds i j s t)
  one_outcome (syntax i) (too_deep j) s t = absurd (syntax_not_deep i j s.0 t)
  one_outcome (profile i) (tree c) s t = absurd (no_syntax c i t s.0)
  one_outcome (profile i) (syntax j) s t = absurd (two_kinds j i t s)
  one_outcome (profile i) (profile j) s t = ap profile (one_syntax i j s.0 t.0)
  one_outcome (profile i) (too_deep j) s t = absurd (syntax_not_deep i j s.0 t)
  one_outcome (too_deep i) (tree c) s t = absurd (no_deep c i t s)
  one_outcome (too_deep i) (syntax j) s t = absurd (syntax_not_deep j i t.0 s)
  one_outcome (too_deep i) (profile j) s t = absurd (syntax_not_deep j i t.0 s)
  one_outcome (too_deep i) (too_deep j) s t = ap too_deep (one_deep i j s t)

-- ---- the laws

tells_came : (ts : List Token) (o : Outcome Suite) → Tells ts o → (x : Came) × (came o ≡ Some x) × Says ts x
tells_came ts (Ok x) w = (tree x.0, refl, w)
tells_came ts (Err (syntax_at i)) w = (syntax i, refl, w)
tells_came ts (Err (profile_at i)) w = (profile i, refl, w)
tells_came ts (Err (too_deep_at i)) w = (too_deep i, refl, w)
tells_came ts (Err out) w = absurd w

pub outcome_exists : OutcomeExists
outcome_exists ts once = let w = tells_came ts (reads_sym ts MODULE start) (reading_tells ts once) in (w.0, w.2)

pub outcome_is_one : OutcomeIsOne
outcome_is_one ts = one_outcome ts

pub tree_is_one : TreeIsOne
tree_is_one ts = one_tree ts

pub reading_is_exact : ReadingIsExact
reading_is_exact ts once x =
    let w = tells_came ts (reads_sym ts MODULE start) (reading_tells ts once) in (
      λ e. let P : Came → Type 0 = Says ts in let same_one : w.0 ≡ x = (let q : Some w.0 ≡ Some x = sym w.1 ∙ e in cc) in subst P same_one w.2,
      λ s. w.1 ∙ ap Some (one_outcome ts w.0 x w.2 s),
    )

pub faults_are_tokens : FaultsAreTokens
faults_are_tokens ts (tree b) s = tt
faults_are_tokens ts (syntax i) s = s.0.within
faults_are_tokens ts (profile i) s = s.0.within
faults_are_tokens ts (too_deep j) s = let le = front_within free ts (j + 2) s.goes_on (omega arith) in omega arith
