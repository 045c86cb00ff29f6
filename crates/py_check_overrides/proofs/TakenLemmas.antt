-- A member that is taken into what is new of a class.
use Rattle.std.proofs.Common.{◌≡◌, ℕ, zero, suc, arith, ◌+◌, ◌<◌, ◌≤◌, Bool, true, false, not, cond, ◌||◌, ◌&&◌, List, [], ◌∷◌, map, take, length, get_or, Option, Some, None, is_some, refl, sym, ap, ap₂, subst, ◌∙◌, if◌then◌else◌, option_map}
use Rattle.std.specs.List.{list_all}
use Rattle.std.specs.Option.{option_or}
use Rattle.std.specs.Str.{bytes_eq}
use Rattle.std.proofs.lemmas.Bool.{eq-eqb}
use Rattle.std.proofs.lemmas.List.{length-map}
use Rattle.std.proofs.lemmas.Option.{slice_get-map, slice_get-get_or, get_or_from_slice_get}
use Rattle.class_layout_members.specs.Clashes.{Definition, agree}
use Rattle.class_layout_members.specs.Views.{definition}
use Rattle.class_layout_members.proofs.RowLemmas.{same}
use Rattle.py_check_overrides.specs.Overrides.{Own, defined}
use Rattle.py_check_overrides.specs.Lines.{agrees, agrees_named, IsTaken, known_or_new, said_of, is_by, taken}
use Rattle.py_check_overrides.specs.Views.{own}
use Rattle.py_check_overrides.specs.declared.lines.Said.{Said}
use Rattle.py_check_overrides.specs.declared.member.OwnMember.{OwnMember}
use Rattle.py_check_overrides.proofs.ToldLemmas.{agrees_with_itself, taken_next, defined_next}

or_nothing : {A : Type 0} (o : Option A) → o ≡ option_or o None
or_nothing None = refl
or_nothing (Some a) = refl

module _ (class : ℕ) (known : List ℕ → Option Definition) where
  -- ---- nothing is said of the member

  pub taken_none : (n : List ℕ) (old new : List ℕ → Option Said) (fits : Bool) → ((q : List ℕ) → new q ≡ old q) → IsTaken class known (n, None) old new fits
  taken_none n old new fits is = record {
    by = λ f h q. ap (is_by class) (is q) ∙ h q;
    fresh = λ f h q s. h q (sym (ap (λ o. is_some (said_of o)) (is q)) ∙ s);
    agrees = λ f q. ap (λ o. option_or (known q) (said_of o)) (is q) ∙ or_nothing (known_or_new known (λ r. said_of (old r)) q);
    told = λ f q. refl;
  }

  -- ---- it has a definition, and one is known or new

  module _ (n : List ℕ) (d : Definition) (old : List ℕ → Option Said) where
    abbrev pub before : List ℕ → Option Definition
    before q = known_or_new known (λ r. said_of (old r)) q

    taken_there : (first : Definition) → before n ≡ Some first → (q : List ℕ) → before q ≡ option_or (before q) (taken (n, Some d) q)
    taken_there first is q = by (bytes_eq q n) refl
      where
        by : (b : Bool) → bytes_eq q n ≡ b → before q ≡ option_or (before q) (if b then Some d else None)
        by true e = (let here : before q ≡ Some first = ap before (same q n e) ∙ is in here ∙ sym (ap (λ o. option_or o (Some d)) here))
        by false e = or_nothing (before q)

    one_agrees : (o : Option Definition) (q : List ℕ) → (bytes_eq q n ≡ true → agrees q o d ≡ true) → list_all (agrees_named q o) ((n, d) ∷ []) ≡ true
    one_agrees o q h = by (bytes_eq q n) refl
      where
        by : (b : Bool) → bytes_eq q n ≡ b → ((not b || agrees q o d) && true) ≡ true
        by true e = ap (λ x. x && true) (h e)
        by false e = refl

    pub taken_first : (first : Definition) (new : List ℕ → Option Said) (fits : Bool) → before n ≡ Some first → fits ≡ agree n first d → ((q : List ℕ) → new q ≡ old q) → IsTaken class known (n, Some d) old new fits
    taken_first first new fits is agreed same_new = record {
      by = λ f h q. ap (is_by class) (same_new q) ∙ h q;
      fresh = λ f h q s. h q (sym (ap (λ o. is_some (said_of o)) (same_new q)) ∙ s);
      agrees = λ f q. ap (λ o. option_or (known q) (said_of o)) (same_new q) ∙ taken_there first is q;
      told = λ f q.
          ap (λ o. list_all (agrees_named q (option_or (known q) (said_of o))) ((n, d) ∷ [])) (same_new q)
          ∙ one_agrees (before q) q (λ e. ap₂ (λ m o. agrees m o d) (same q n e) (ap before (same q n e) ∙ is) ∙ sym agreed ∙ f);
    }

    -- ---- and none is

    none_left : (x y : Option Definition) → option_or x y ≡ None → x ≡ None
    none_left None y e = refl
    none_left (Some a) y e = absurd (cc)

    weave : (x y z : Option Definition) → option_or x (option_or y z) ≡ option_or (option_or x y) z
    weave None y z = refl
    weave (Some a) y z = refl

    said_or : (o : Option Said) (b : Bool) (s : Said) → definition s.definition ≡ d → said_of (option_or o (cond b (Some s) None)) ≡ option_or (said_of o) (if b then Some d else None)
    said_or (Some r) b s e = refl
    said_or None true s e = ap Some e
    said_or None false s e = refl

    pub taken_new : (s : Said) (new : List ℕ → Option Said) (fits : Bool) → before n ≡ None → s.class ≡ class → definition s.definition ≡ d → ((q : List ℕ) → new q ≡ option_or (old q) (cond (bytes_eq q n) (Some s) None)) → IsTaken class known (n, Some d) old new fits
    taken_new s new fits is of says put = record {
      by = λ f h q. ap (is_by class) (put q) ∙ by_either (old q) (bytes_eq q n) (h q);
      fresh = λ f h q some. either q (bytes_eq q n) refl (said_of (old q)) refl (λ k. h q k) (sym (ap is_some (ap said_of (put q) ∙ said_or (old q) (bytes_eq q n) s says)) ∙ some);
      agrees = λ f q. after q;
      told = λ f q. ap (λ o. list_all (agrees_named q o) ((n, d) ∷ [])) (after q) ∙ one_agrees (option_or (before q) (taken (n, Some d) q)) q (here q);
    }
      where
        by_either : (o : Option Said) (b : Bool) → is_by class o ≡ true → is_by class (option_or o (cond b (Some s) None)) ≡ true
        by_either (Some r) b h = h
        by_either None true h = eq-eqb s.class class of
        by_either None false h = refl

        after : (q : List ℕ) → known_or_new known (λ r. said_of (new r)) q ≡ option_or (before q) (taken (n, Some d) q)
        after q = ap (option_or (known q)) (ap said_of (put q) ∙ said_or (old q) (bytes_eq q n) s says) ∙ weave (known q) (said_of (old q)) (taken (n, Some d) q)

        either : (q : List ℕ) (b : Bool) → bytes_eq q n ≡ b → (o : Option Definition) → said_of (old q) ≡ o → (is_some (said_of (old q)) ≡ true → known q ≡ None) → is_some (option_or o (if b then Some d else None)) ≡ true → known q ≡ None
        either q b e (Some x) at h some = h (ap is_some at)
        either q true e None at h some = none_left (known q) (said_of (old q)) (ap before (same q n e) ∙ is)
        either q false e None at h some = absurd (cc)

        here : (q : List ℕ) → bytes_eq q n ≡ true → agrees q (option_or (before q) (taken (n, Some d) q)) d ≡ true
        here q e =
            ap₂ (λ o b. agrees q (option_or o (if b then Some d else None)) d) (ap before (same q n e) ∙ is) e
            ∙ agrees_with_itself q d

  -- ---- one member more

  pub one_more : (xs : List Own) (i : ℕ) (p : Own) (old new : List ℕ → Option Said) (fits : Bool) → i < length xs → p ≡ get_or xs i p → IsTaken class known p old new fits → fits ≡ true
      → ((q : List ℕ) → list_all (agrees_named q (known_or_new known (λ r. said_of (old r)) q)) (defined (take i xs)) ≡ true)
      → (q : List ℕ) → list_all (agrees_named q (known_or_new known (λ r. said_of (new r)) q)) (defined (take (i + 1) xs)) ≡ true
  one_more xs i p old new fits l is t f h q =
      taken_next q (known_or_new known (λ r. said_of (old r)) q) (known_or_new known (λ r. said_of (new r)) q) (taken p q) (defined (take i xs)) (defined (p ∷ [])) (defined (take (i + 1) xs))
      (defined_next xs i p l is) (t.agrees f q) (h q) (t.told f q)

  pub one_more_own : (xs : List OwnMember) (i : ℕ) (p : OwnMember) (old new : List ℕ → Option Said) (fits : Bool) → i < length xs → p ≡ get_or xs i p → IsTaken class known (own p) old new fits → fits ≡ true
      → ((q : List ℕ) → list_all (agrees_named q (known_or_new known (λ r. said_of (old r)) q)) (defined (take i (map own xs))) ≡ true)
      → (q : List ℕ) → list_all (agrees_named q (known_or_new known (λ r. said_of (new r)) q)) (defined (take (i + 1) (map own xs))) ≡ true
  one_more_own xs i p old new fits l is t f h q =
      one_more (map own xs) i (own p) old new fits (subst (λ n. i < n) (sym (length-map xs own)) l) (own_at xs i p l is) t f h q
    where
      own_at : (xs : List OwnMember) (i : ℕ) (p : OwnMember) → i < length xs → p ≡ get_or xs i p → own p ≡ get_or (map own xs) i (own p)
      own_at xs i p l is =
          sym (get_or_from_slice_get (map own xs) i (own p) (own p) (slice_get-map own xs i ∙ ap (option_map own) (slice_get-get_or xs i p l ∙ ap Some (sym is))))

take-all : {A : Type 0} (xs : List A) (i : ℕ) → length xs ≤ i → take i xs ≡ xs
take-all [] zero l = refl
take-all [] (suc i) l = refl
take-all (x ∷ xs) zero l = absurd (omega (arith, l))
take-all (x ∷ xs) (suc i) l = ap (λ r. x ∷ r) (take-all xs i (omega (arith, l)))

pub whole_taken : (xs : List OwnMember) (i : ℕ) (test : List ℕ × Definition → Bool) → length xs ≤ i → list_all test (defined (take i (map own xs))) ≡ true → list_all test (defined (map own xs)) ≡ true
whole_taken xs i test l h = sym (ap (λ r. list_all test (defined r)) (take-all (map own xs) i (subst (λ n. n ≤ i) (sym (length-map xs own)) l))) ∙ h
