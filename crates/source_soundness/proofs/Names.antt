-- Sets of names, and what is known of locals.
use Rattle.std.proofs.Common.{◌≡◌, ℕ, Bool, true, false, not, ◌||◌, ◌==◌, List, [], ◌∷◌, ◌++◌, Option, refl, sym, ap, subst, ◌∙◌, ◌⊎◌, inl, inr, if◌then◌else◌}
use Rattle.std.proofs.lemmas.Bool.{eqb-true}
use Rattle.value_core.specs.Value.{Value}
use Rattle.py_syntax.specs.declared.expression.CmpOp.{CmpOp}
use Rattle.py_syntax.specs.declared.expression.CmpOp.TheVariants as compare
use Rattle.py_typed.specs.Expressions.{TypedNode, Local, Nothing, Comparisons, no_comparisons}
use Rattle.source_meaning.specs.State.{State}
use Rattle.py_typed.specs.Narrowing.{is_in, shared, without, none_test}
use Rattle.source_soundness.proofs.Fine.{NotNone, Keeps}

pub in_append : (xs ys : List ℕ) (i : ℕ) → is_in (xs ++ ys) i ≡ true → (is_in xs i ≡ true) ⊎ (is_in ys i ≡ true)
in_append [] ys i h = inr h
in_append (x ∷ xs) ys i h = by (x == i) (in_append xs ys i) h
  where
    by : (b : Bool) → (is_in (xs ++ ys) i ≡ true → (is_in xs i ≡ true) ⊎ (is_in ys i ≡ true)) → (b || is_in (xs ++ ys) i) ≡ true → ((b || is_in xs i) ≡ true) ⊎ (is_in ys i ≡ true)
    by true r h = inl refl
    by false r h = r h

pub in_left : (xs ys : List ℕ) (i : ℕ) → is_in xs i ≡ true → is_in (xs ++ ys) i ≡ true
in_left [] ys i h = absurd (cc)
in_left (x ∷ xs) ys i h = by (x == i) (in_left xs ys i) h
  where
    by : (b : Bool) → (is_in xs i ≡ true → is_in (xs ++ ys) i ≡ true) → (b || is_in xs i) ≡ true → (b || is_in (xs ++ ys) i) ≡ true
    by true r h = refl
    by false r h = r h

pub in_right : (xs ys : List ℕ) (i : ℕ) → is_in ys i ≡ true → is_in (xs ++ ys) i ≡ true
in_right [] ys i h = h
in_right (x ∷ xs) ys i h = by (x == i) (in_right xs ys i h)
  where
    by : (b : Bool) → is_in (xs ++ ys) i ≡ true → (b || is_in (xs ++ ys) i) ≡ true
    by true r = refl
    by false r = r

-- what is not among all of them is among none
pub out_left : (xs ys : List ℕ) (i : ℕ) → is_in (xs ++ ys) i ≡ false → is_in xs i ≡ false
out_left xs ys i h = by (is_in xs i) refl
  where
    by : (b : Bool) → is_in xs i ≡ b → is_in xs i ≡ false
    by true e = absurd (cc (in_left xs ys i e))
    by false e = e

pub out_right : (xs ys : List ℕ) (i : ℕ) → is_in (xs ++ ys) i ≡ false → is_in ys i ≡ false
out_right xs ys i h = by (is_in ys i) refl
  where
    by : (b : Bool) → is_in ys i ≡ b → is_in ys i ≡ false
    by true e = absurd (cc (in_right xs ys i e))
    by false e = e

pub same_number : (x i : ℕ) → (x == i) ≡ true → x ≡ i
same_number x i h = eqb-true x i h

pub in_shared : (xs ys : List ℕ) (i : ℕ) → is_in (shared xs ys) i ≡ true → (is_in xs i ≡ true) × (is_in ys i ≡ true)
in_shared [] ys i h = absurd (cc)
in_shared (x ∷ xs) ys i h = by (is_in ys x) refl (in_shared xs ys i) h
  where
    here : (b : Bool) → (x == i) ≡ b → is_in ys x ≡ true → (is_in (shared xs ys) i ≡ true → (is_in xs i ≡ true) × (is_in ys i ≡ true)) → (b || is_in (shared xs ys) i) ≡ true → ((b || is_in xs i) ≡ true) × (is_in ys i ≡ true)
    here true e y r h = (refl, subst (λ z. is_in ys z ≡ true) (same_number x i e) y)
    here false e y r h = r h

    more : (b : Bool) → (is_in xs i ≡ true) × (is_in ys i ≡ true) → ((b || is_in xs i) ≡ true) × (is_in ys i ≡ true)
    more true p = (refl, p.1)
    more false p = p

    by : (b : Bool) → is_in ys x ≡ b → (is_in (shared xs ys) i ≡ true → (is_in xs i ≡ true) × (is_in ys i ≡ true)) → is_in (if b then x ∷ shared xs ys else shared xs ys) i ≡ true → (((x == i) || is_in xs i) ≡ true) × (is_in ys i ≡ true)
    by true y r h = here (x == i) refl y r h
    by false y r h = more (x == i) (r h)

pub in_without : (gone xs : List ℕ) (i : ℕ) → is_in (without gone xs) i ≡ true → (is_in xs i ≡ true) × (is_in gone i ≡ false)
in_without gone [] i h = absurd (cc)
in_without gone (x ∷ xs) i h = by (is_in gone x) refl (in_without gone xs i) h
  where
    here : (b : Bool) → (x == i) ≡ b → is_in gone x ≡ false → (is_in (without gone xs) i ≡ true → (is_in xs i ≡ true) × (is_in gone i ≡ false)) → (b || is_in (without gone xs) i) ≡ true → ((b || is_in xs i) ≡ true) × (is_in gone i ≡ false)
    here true e y r h = (refl, subst (λ z. is_in gone z ≡ false) (same_number x i e) y)
    here false e y r h = r h

    more : (b : Bool) → (is_in xs i ≡ true) × (is_in gone i ≡ false) → ((b || is_in xs i) ≡ true) × (is_in gone i ≡ false)
    more true p = (refl, p.1)
    more false p = p

    by : (b : Bool) → is_in gone x ≡ b → (is_in (without gone xs) i ≡ true → (is_in xs i ≡ true) × (is_in gone i ≡ false)) → is_in (if not b then x ∷ without gone xs else without gone xs) i ≡ true → (((x == i) || is_in xs i) ≡ true) × (is_in gone i ≡ false)
    by true y r h = more (x == i) (r h)
    by false y r h = here (x == i) refl y r h

-- ---- what is known

pub none_known : (held : List (Option Value)) → NotNone [] held
none_known held i h q = absurd (cc)

pub both_known : (xs ys : List ℕ) (held : List (Option Value)) → NotNone xs held → NotNone ys held → NotNone (xs ++ ys) held
both_known xs ys held p q i h e = by (in_append xs ys i h)
  where
    by : (is_in xs i ≡ true) ⊎ (is_in ys i ≡ true) → ⊥
    by (inl a) = p i a e
    by (inr a) = q i a e

-- fewer names are known
pub fewer_known : (xs ys : List ℕ) (held : List (Option Value)) → ((i : ℕ) → is_in ys i ≡ true → is_in xs i ≡ true) → NotNone xs held → NotNone ys held
fewer_known xs ys held f p i h e = p i (f i h) e

-- what is known of names that are kept stays so
pub still_known : (B xs : List ℕ) (s u : State) → Keeps B s u → ((i : ℕ) → is_in xs i ≡ true → is_in B i ≡ false) → NotNone xs s.locals → NotNone xs u.locals
still_known B xs s u k f p i h e = p i h (sym (k.locals i (f i h)) ∙ e)

pub all_known : (xs : List ℕ) (s u : State) → Keeps [] s u → NotNone xs s.locals → NotNone xs u.locals
all_known xs s u k p = still_known [] xs s u k (λ i h. refl) p

pub without_known : (B xs : List ℕ) (s u : State) → Keeps B s u → NotNone xs s.locals → NotNone (without B xs) u.locals
without_known B xs s u k p = still_known B (without B xs) s u k (λ i h. (in_without B xs i h).1) (fewer_known xs (without B xs) s.locals (λ i h. (in_without B xs i h).0) p)

-- a test against None, and the local of which it tells
pub record Tested (b : Bool) (op : CmpOp) (n n' : TypedNode) (more : Comparisons) (i : ℕ) : Type 0 where
  pub local : n ≡ Local i
  pub alone : more ≡ no_comparisons
  pub how : ((b ≡ true) × (op ≡ compare.IsNot)) ⊎ ((b ≡ false) × (op ≡ compare.Is))

one_in : (x i : ℕ) → is_in (x ∷ []) i ≡ true → x ≡ i
one_in x i h = by (x == i) refl h
  where
    by : (b : Bool) → (x == i) ≡ b → (b || false) ≡ true → x ≡ i
    by true e h = same_number x i e
    by false e h = absurd (cc)

pub tested : (b : Bool) (op : CmpOp) (n n' : TypedNode) (more : Comparisons) (i : ℕ) → is_in (none_test b op n n' more) i ≡ true → Tested b op n n' more i
tested true compare.IsNot (Local x) Nothing no_comparisons i h = record { local = ap Local (one_in x i h); alone = refl; how = inl (refl, refl) }
tested false compare.Is (Local x) Nothing no_comparisons i h = record { local = ap Local (one_in x i h); alone = refl; how = inr (refl, refl) }
tested b op n n' more i h = absurd (cc)
