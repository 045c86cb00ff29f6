-- Within any two bounds of at least the turns left a part does the same; and what it leaves is later: it has no more turns, no
-- shorter store, and at least the output.
use Rattle.std.proofs.Common.{◌≡◌, ℕ, zero, suc, ◌≤◌, List, [], ◌∷◌, ◌++◌, length, Option, Some, None, refl, sym, ap, ◌∙◌, arith, slice_set, le_refl, le_trans, append_assoc, append-nil}
use Rattle.value_core.specs.Items as item
use Rattle.value_core.specs.Items.{Items}
use Rattle.value_core.specs.Value.{Value, Object}
use Rattle.py_typed.specs.Statements.{TypedTarget, LocalTarget, GlobalTarget, AttrTarget, ItemTarget}
use Rattle.source_meaning.specs.State.{State, Outcome, Gives, Raises, Stops, Does, on_to, ◌>>=◌, ◌>>◌, give, raise, spend, spend_from}
use Rattle.source_meaning.specs.Operations.{next_line}
use Rattle.source_meaning.specs.WaysOut.{Flow, Goes, Breaks, Continues, Returns, flow_on, caught, catch, at_last, finally, and_set, unset}
use Rattle.source_meaning.specs.Laws.{Begins, IsLater, LeavesLater}
use Rattle.py_typed.specs.Statements.{TypedModule}
use Rattle.source_meaning.specs.SourceRun.{top_of}
use Rattle.source_meaning.proofs.Closed.{Closed}
use Rattle.source_meaning.proofs.RunAlike.{top_alike}
use Rattle.std.proofs.lemmas.List.{length-append, length-set}

-- the same from each state of at most t turns, and later states are left
abbrev pub Alike : ℕ → (A : Type 0) → Does A → Does A → Type 0
Alike t A d e = (s : State) → s.turns ≤ t → (d s ≡ e s) × LeavesLater s (d s)

-- t is within both bounds
abbrev pub Within : ℕ → ℕ → ℕ → Type 0
Within t n m = (t ≤ n) × (t ≤ m)

pub begins : (k : List ℕ) → Begins k k
begins k = ([], sym (append-nil k))

pub stays : (s : State) → IsLater s s
stays s = record { turns = le_refl _; output = begins s.output; store = le_refl _ }

pub later : (a b c : State) → IsLater a b → IsLater b c → IsLater a c
later a b c p q = record {
  turns = le_trans q.turns p.turns;
  output = (p.output.0 ++ q.output.0, q.output.1 ∙ ap (λ l. l ++ q.output.0) p.output.1 ∙ append_assoc a.output p.output.0 q.output.0);
  store = le_trans p.store q.store;
}

pub leaves_on : {A : Type 0} (a b : State) (o : Outcome A) → IsLater a b → LeavesLater b o → LeavesLater a o
leaves_on a b (Gives x s) p q = later a b s p q
leaves_on a b (Raises x s) p q = later a b s p q
leaves_on a b (Stops x s) p q = later a b s p q

-- what the outcome leaves is changed, but not made earlier
pub leaves_set : {A : Type 0} (a : State) (f : State → State) → ((s : State) → IsLater s (f s)) → (o : Outcome A) → LeavesLater a o → LeavesLater a (and_set f o)
leaves_set a f h (Gives x s) q = later a s (f s) q (h s)
leaves_set a f h (Raises x s) q = later a s (f s) q (h s)
leaves_set a f h (Stops x s) q = q

module _ (t : ℕ) where
  bind_from : {A B : Type 0} {f g : A → Does B} (s : State) (o : Outcome A) → s.turns ≤ t → LeavesLater s o → ((a : A) → Alike t B (f a) (g a)) → (on_to o f ≡ on_to o g) × LeavesLater s (on_to o f)
  bind_from s (Gives a s') le l h = let r = h a s' (le_trans l.turns le) in (r.0, leaves_on s s' _ l r.1)
  bind_from s (Raises e s') le l h = (refl, l)
  bind_from s (Stops w s') le l h = (refl, l)

  bind_alike : {A B : Type 0} {d e : Does A} {f g : A → Does B} → Alike t A d e → ((a : A) → Alike t B (f a) (g a)) → Alike t B (d >>= f) (e >>= g)
  bind_alike {d = d} {e = e} {f = f} {g = g} p h s le =
      let r = bind_from {f = f} {g = g} s (d s) le (p s le).1 h in
      (r.0 ∙ ap (λ o. on_to o g) (p s le).0, r.1)

  catch_from : {f g : Value → Does Flow} (s : State) (o : Outcome Flow) → s.turns ≤ t → LeavesLater s o → ((v : Value) → Alike t Flow (f v) (g v)) → (caught f o ≡ caught g o) × LeavesLater s (caught f o)
  catch_from s (Gives a s') le l h = (refl, l)
  catch_from s (Raises e s') le l h = let r = h e s' (le_trans l.turns le) in (r.0, leaves_on s s' _ l r.1)
  catch_from s (Stops w s') le l h = (refl, l)

  catch_alike : {d e : Does Flow} {f g : Value → Does Flow} → Alike t Flow d e → ((v : Value) → Alike t Flow (f v) (g v)) → Alike t Flow (catch d f) (catch e g)
  catch_alike {d = d} {f = f} {g = g} p h s le =
      let r = catch_from {f = f} {g = g} s (d s) le (p s le).1 h in
      (r.0 ∙ ap (caught g) (p s le).0, r.1)

  flow_alike : {d e : Does Flow} → Alike t Flow d e → (f : Flow) → Alike t Flow (flow_on d f) (flow_on e f)
  flow_alike p Goes = p
  flow_alike p Breaks = λ s le. (refl, stays s)
  flow_alike p Continues = λ s le. (refl, stays s)
  flow_alike p (Returns v) = λ s le. (refl, stays s)

  last_from : {f g : Does Flow} (s : State) (o : Outcome Flow) → s.turns ≤ t → LeavesLater s o → Alike t Flow f g → (at_last f o ≡ at_last g o) × LeavesLater s (at_last f o)
  last_from {f = f} {g = g} s (Gives a s') le l h =
      let r = bind_alike {d = f} {e = g} h (flow_alike {d = give a} {e = give a} (λ u le. (refl, stays u))) s' (le_trans l.turns le) in
      (r.0, leaves_on s s' _ l r.1)
  last_from {f = f} {g = g} s (Raises e s') le l h =
      let r = bind_alike {d = f} {e = g} h (flow_alike {d = raise e} {e = raise e} (λ u le. (refl, stays u))) s' (le_trans l.turns le) in
      (r.0, leaves_on s s' _ l r.1)
  last_from s (Stops w s') le l h = (refl, l)

  last_alike : {d e f g : Does Flow} → Alike t Flow d e → Alike t Flow f g → Alike t Flow (finally d f) (finally e g)
  last_alike {d = d} {f = f} {g = g} p h s le =
      let r = last_from {f = f} {g = g} s (d s) le (p s le).1 h in
      (r.0 ∙ ap (at_last g) (p s le).0, r.1)

-- a change of the state on the way in, and one on the way out
set_alike : (t : ℕ) {A : Type 0} {d e : Does A} (before : State → State) (behind : State → State → State) → ((s : State) → IsLater s (before s)) → ((s u : State) → IsLater u (behind s u)) → Alike t A d e
    → (s : State) → s.turns ≤ t → (and_set (behind s) (d (before s)) ≡ and_set (behind s) (e (before s))) × LeavesLater s (and_set (behind s) (d (before s)))
set_alike t before behind h l p s le =
    let r = p (before s) (le_trans (h s).turns le) in
    (ap (and_set (behind s)) r.0, leaves_set s (behind s) (l s) _ (leaves_on s (before s) _ (h s) r.1))

spend_alike : (t : ℕ) {A : Type 0} {d e : Does A} → ((u : ℕ) → t ≡ suc u → Alike u A d e) → Alike t A (spend >> d) (spend >> e)
spend_alike t {A = A} {d = d} {e = e} h s le = go s.turns (refl) le
  where
    go : (n : ℕ) → s.turns ≡ n → n ≤ t → (on_to (spend_from n s) (λ _. d) ≡ on_to (spend_from n s) (λ _. e)) × LeavesLater s (on_to (spend_from n s) (λ _. d))
    go zero q le = (refl, stays s)
    go (suc n) q le = lower t le h
      where
        lower : (t : ℕ) → suc n ≤ t → ((u : ℕ) → t ≡ suc u → Alike u A d e) → (d (record s { turns = n }) ≡ e (record s { turns = n })) × LeavesLater s (d (record s { turns = n }))
        lower zero le h = absurd (omega (arith, le))
        lower (suc u) le h =
            let r = h u refl (record s { turns = n }) (omega (arith, le)) in
            (r.0, leaves_on s (record s { turns = n }) _ (record { turns = omega (arith, q); output = begins s.output; store = le_refl _ }) r.1)

pub same_turns : (s u : State) → u.turns ≡ s.turns → u.output ≡ s.output → u.store ≡ s.store → IsLater s u
same_turns s u p q r = record { turns = omega (arith, p); output = ([], q ∙ sym (append-nil s.output)); store = omega (arith, ap length r) }

pub unset_later : (x : Option TypedTarget) (s : State) → IsLater s (unset x s)
unset_later None s = stays s
unset_later (Some (LocalTarget i)) s = same_turns s _ refl refl refl
unset_later (Some (GlobalTarget i)) s = same_turns s _ refl refl refl
unset_later (Some (AttrTarget e name)) s = stays s
unset_later (Some (ItemTarget e i)) s = stays s

pub read_leaves : (i : Items) (s : State) → LeavesLater s (next_line i s)
read_leaves item.Eof s = stays s
read_leaves item.Broken s = stays s
read_leaves item.Over s = stays s
read_leaves (item.Bad i) s = same_turns s _ refl refl refl
read_leaves (item.Line l i) s = same_turns s _ refl refl refl

pub longer : (l m : List Object) → length l ≤ length (l ++ m)
longer l m = omega (arith, length-append l m)

pub as_long : (l : List Object) (k : ℕ) (o : Object) → length l ≤ length (slice_set l k o)
as_long l k o = omega (arith, length-set l k o)

pub closed : Closed Alike Within
closed = record {
  gives = λ t a s le. (refl, stays s);
  raises = λ t e s le. (refl, stays s);
  stops = λ t w s le. (refl, stays s);
  binds = λ t p h. bind_alike t p h;
  looks = λ t part same h s le. h (part s) s le;
  fewer = λ t u le p s l. p s (le_trans l le);
  both_ends = λ t ok. spend_alike t (λ u q. absurd (omega (arith, ok.0, q)));
  left_ends = λ t m ok. spend_alike t (λ u q. absurd (omega (arith, ok.0, q)));
  right_ends = λ t n ok. spend_alike t (λ u q. absurd (omega (arith, ok.1, q)));
  spends = λ t n m ok h. spend_alike t (λ u q. h u (omega (arith, q)) (omega (arith, q, ok.0), omega (arith, q, ok.1)));
  catching = λ t p h. catch_alike t p h;
  finals = λ t p h. last_alike t p h;
  handles = λ t v p. set_alike t (λ s. record s { handled = v ∷ s.handled }) (λ s u. record u { handled = s.handled }) (λ s. same_turns s _ refl refl refl) (λ s u. same_turns u _ refl refl refl) p;
  unsets = λ t x p. set_alike t (λ s. s) (λ s. unset x) stays (λ s. unset_later x) p;
  insides = λ t locals p. set_alike t (λ s. record s { locals = locals; handled = [] }) (λ s u. record u { locals = s.locals; handled = s.handled }) (λ s. same_turns s _ refl refl refl) (λ s u. same_turns u _ refl refl refl) p;
  makes = λ t o s le. (refl, record { turns = le_refl _; output = begins s.output; store = longer s.store (o ∷ []) });
  puts = λ t k o s le. (refl, record { turns = le_refl _; output = begins s.output; store = as_long s.store k o });
  puts_local = λ t i v s le. (refl, same_turns s _ refl refl refl);
  puts_global = λ t i v s le. (refl, same_turns s _ refl refl refl);
  writes = λ t text s le. (refl, record { turns = le_refl _; output = (text, refl); store = le_refl _ });
  reads = λ t items s le. (refl, read_leaves items s);
}

pub any_bound : (m : TypedModule) (n k : ℕ) (s : State) → s.turns ≤ n → s.turns ≤ k → top_of m n s ≡ top_of m k s
any_bound m n k s le le' = (top_alike closed m s.turns n k (le, le') s (le_refl _)).0
