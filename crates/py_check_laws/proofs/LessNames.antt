-- Names known behind a binding: the typed statement knows no more than typing does.
use Rattle.std.proofs.Common.{◌≡◌, ℕ, suc, Bool, true, false, not, ◌||◌, ◌==◌, List, [], ◌∷◌, ◌++◌, length, map, Option, Some, None, refl, ap, sym, ◌∙◌, subst, if◌then◌else◌}
use Rattle.std.proofs.lemmas.Bool.{or_left, or_right, or_cases}
use Rattle.py_syntax.specs.Expressions.{ExprTree}
use Rattle.py_typed.specs.Sorts.{Sort}
use Rattle.py_typed.specs.Statements.{TypedTarget, LocalTarget, GlobalTarget, ItemTarget, AttrTarget}
use Rattle.py_typed.specs.Narrowing.{is_in, without, may_be_none, bound_by, after_target, after_parts}
use Rattle.py_check_context.specs.Context.{Context}
use Rattle.py_check_flow.specs.Bindings.{name_in}
use Rattle.py_check_values.specs.Aims.{Aim, held, first, barred, unwritten, misplaced, lacking}
use Rattle.py_check_values.specs.Assignments.{first_barred}
use Rattle.py_check_places.specs.Places.{Known, is_plain, rebound, bind_variable, bind_name, bind_names}
use Rattle.py_check_targets.specs.Targets.{targets_of, next_part, more_parts, beyond}
use Rattle.py_check_expressions_laws.specs.WellTyped.{Within}
use Rattle.py_check_expressions_laws.proofs.Inside.{either, filter_finds}
use Rattle.py_check_laws.proofs.Names.{within_itself, within_more, within_less, within_without}
use Rattle.py_check_laws.proofs.Aims.{AimsOf, Aimed, aimed_local, aimed_global, aimed_item, held_aimed, first_aimed, aim_held, aim_first, aimed_attribute}
use Rattle.py_check_laws.proofs.Assigned.{is_itemless}

-- a name, and what else was known
within_again : (i : ℕ) (known names : List ℕ) → Within known names → Within (i ∷ known) (i ∷ without (i ∷ []) names)
within_again i known names w x h = by (i == x) refl
  where
    by : (b : Bool) → (i == x) ≡ b → is_in (i ∷ without (i ∷ []) names) x ≡ true
    by true q = or_left (i == x) (is_in (without (i ∷ []) names) x) q
    by false q =
        or_right (i == x) (is_in (without (i ∷ []) names) x)
        (filter_finds (λ y. not (is_in (i ∷ []) y)) names x
        (either (or_cases (i == x) (is_in known x) h) (λ p. let bad : true ≡ false = sym p ∙ q in absurd (cc)) (λ p. w x p)) (ap (λ (b : Bool). not (b || false)) q))

less_by_test : (plain loose : Bool) (i : ℕ) (known names : List ℕ) → Within known names → (loose ≡ false → plain ≡ true) → Within (if loose then without (i ∷ []) known else i ∷ known) (if plain then i ∷ without (i ∷ []) names else without (i ∷ []) names)
less_by_test true true i known names w h = within_more i (without (i ∷ []) known) (without (i ∷ []) names) (within_without (i ∷ []) (i ∷ []) known names (within_itself (i ∷ [])) w)
less_by_test true false i known names w h = within_again i known names w
less_by_test false true i known names w h = within_without (i ∷ []) (i ∷ []) known names (within_itself (i ∷ [])) w
less_by_test false false i known names w h = let bad = h refl in absurd (cc)

less_local : (i : ℕ) (t : Option Sort) (s : Sort) (known names : List ℕ) → Within known names → (may_be_none s ≡ false → is_plain t ≡ true) → Within (after_target known (LocalTarget i) s) (rebound i t names)
less_local i t s known names w h = less_by_test (is_plain t) (may_be_none s) i known names w h

other_by_test : (loose : Bool) (gone : List ℕ) (known names : List ℕ) → gone ≡ [] → Within known names → Within (if loose then without gone known else gone ++ known) names
other_by_test true gone known names g w = within_less gone known names w
other_by_test false gone known names g w = subst (λ l. Within (l ++ known) names) (sym g) w

less_other : (target : TypedTarget) (s : Sort) (known names : List ℕ) → bound_by target ≡ [] → Within known names → Within (after_target known target s) names
less_other target s known names g w = other_by_test (may_be_none s) (bound_by target) known names g w

module _ (C : Context) where
  -- behind the binding of one target
  pub less_aimed : (e : ExprTree) (target : TypedTarget) → Aimed C e target → (ok : Bool) (k : Known) (t : Option Sort) (s : Sort) (known : List ℕ) → Within known k.names → (may_be_none s ≡ false → is_plain t ≡ true) → Within (after_target known target s) (bind_name C ok k (name_in e) t).names
  less_aimed e target (aimed_local x i n q is) ok k t s known w h =
      subst (Within (after_target known target s)) (sym (ap (λ o. (bind_name C ok k o t).names) n ∙ ap (λ z. (bind_variable ok k z t).names) q))
      (subst (λ z. Within (after_target known z s) (rebound i t k.names)) is (less_local i t s known k.names w h))
  less_aimed e target (aimed_global x i n q is) ok k t s known w h =
      subst (Within (after_target known target s)) (sym (ap (λ o. (bind_name C ok k o t).names) n ∙ ap (λ z. (bind_variable ok k z t).names) q))
      (subst (λ z. Within (after_target known z s) k.names) is (less_other (GlobalTarget i) s known k.names refl w))
  less_aimed e target (aimed_item b i n is) ok k t s known w h =
      subst (Within (after_target known target s)) (sym (ap (λ o. (bind_name C ok k o t).names) n))
      (subst (λ z. Within (after_target known z s) k.names) is (less_other (ItemTarget b i) s known k.names refl w))
  less_aimed e target (aimed_attribute b a n is) ok k t s known w h =
      subst (Within (after_target known target s)) (sym (ap (λ o. (bind_name C ok k o t).names) n))
      (subst (λ z. Within (after_target known z s) k.names) is (less_other (AttrTarget b a) s known k.names refl w))

  one_less : (a b : ℕ) → suc a ≡ suc b → a ≡ b
  one_less a b e = cc

  -- behind those of several targets, one for each part
  pub less_row : (place : Known) (es : List ExprTree) (l : List Aim) (parts : Option (List Sort)) → AimsOf C place parts es l → first_barred l ≡ None → is_itemless l ≡ true → (ss : List Sort) → length ss ≡ length l → (k : Known) (known : List ℕ) → Within known k.names
      → Within (after_parts known (targets_of l) ss) (bind_names C true k (map name_in es) ss).names
  less_row place [] [] parts a p q [] n k known w = within_less [] known k.names w
  less_row place [] [] parts a p q (s ∷ ss) n k known w = absurd (cc)
  less_row place [] (x ∷ l) parts a p q ss n k known w = absurd a
  less_row place (e ∷ es) [] parts a p q ss n k known w = absurd a
  less_row place (e ∷ es) (x ∷ l) parts a p q [] n k known w = absurd (cc)
  less_row place (e ∷ es) (held t r ∷ l) parts a p q (s ∷ ss) n k known w =
      less_row (beyond C place (name_in e) (next_part parts)) es l (more_parts parts) a.rest p q ss (one_less (length ss) (length l) n) (bind_name C true k (name_in e) (Some s)) (after_target known t s)
      (less_aimed e t (held_aimed C place e t r (aim_held C place e t r a.here)) true k (Some s) s known w (λ h. ap not h))
  less_row place (e ∷ es) (first t y ∷ l) parts a p q (s ∷ ss) n k known w =
      less_row (beyond C place (name_in e) (next_part parts)) es l (more_parts parts) a.rest p q ss (one_less (length ss) (length l) n) (bind_name C true k (name_in e) (Some s)) (after_target known t s)
      (less_aimed e t (first_aimed C place e t (aim_first C place e t y a.here)) true k (Some s) s known w (λ h. ap not h))
  less_row place (e ∷ es) (barred x ∷ l) parts a p q (s ∷ ss) n k known w = absurd (cc)
  less_row place (e ∷ es) (unwritten x ∷ l) parts a p q (s ∷ ss) n k known w = absurd (cc)
  less_row place (e ∷ es) (lacking x y ∷ l) parts a p q (s ∷ ss) n k known w = absurd (cc)
  less_row place (e ∷ es) (misplaced x ∷ l) parts a p q (s ∷ ss) n k known w = absurd (cc)
