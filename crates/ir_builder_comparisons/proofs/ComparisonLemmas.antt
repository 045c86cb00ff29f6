-- Comparisons of two values of one type, each by a test.
use Rattle.ir_builder_comparisons.proofs.Common.{◌≡◌, refl, sym, ◌∙◌, ap, ℕ, true, false, [], ◌∷◌, Value, IntVal, BoolVal, StrVal, State, Gives, on_to, give, needs, is_equal, are_alike, Reg, Building, HasKind, Shows, Attempts, Compared, Ints, Natives, Texts, Equal, ActsOn, ActsOnTwo, compared_sort, tested, compares, inverts, of_one, by_int, by_i64, by_text, as_one, attempts_as, attempts_then, is_ordering, ordered, Compares}
use Rattle.std.proofs.Common.{Bool}
use Rattle.py_syntax.specs.declared.expression.CmpOp.{CmpOp}
use Rattle.py_syntax.specs.declared.expression.CmpOp.TheVariants as cmp
use Rattle.py_typed.specs.Sorts as sort
use Rattle.ir_core.specs.declared.code.RType.TheVariants as rtype
use Rattle.ir_builder_frames.specs.Operands.{ActsOnAll}

alike : (c : Compared) (v w : Value) → HasKind (compared_sort c) v → HasKind (compared_sort c) w → are_alike v w ≡ true
alike Ints v w k l = by_int (λ v. are_alike v w ≡ true) (λ a. by_int (λ w. are_alike (IntVal a) w ≡ true) (λ b. refl) w l) v k
alike Natives v w k l = by_i64 (λ v. are_alike v w ≡ true) (λ a e. by_i64 (λ w. are_alike (IntVal a) w ≡ true) (λ b f. refl) w l) v k
alike Texts v w k l = by_text (λ v. are_alike v w ≡ true) (λ a. by_text (λ w. are_alike (StrVal a) w ≡ true) (λ b. refl) w l) v k

-- a truth is found in two values of one type
pub truth_found : (c : Compared) (test : Value → Value → Bool) (v w : Value) (s : State) → HasKind (compared_sort c) v → HasKind (compared_sort c) w → compares test v w s ≡ Gives (BoolVal (test v w)) s
truth_found c test v w s k l = ap (λ b. on_to (needs b (give (test v w)) s) (λ h. give (BoolVal h))) (alike c v w k l)

module _ (c : Compared) (op : CmpOp) (test : Value → Value → Bool) (b0 b1 : Building) (r x y : ℕ) where
  -- a comparison is a test of its operands
  pub straight : ((v w : Value) → ordered op v w ≡ test v w) → Compares c test b0 b1 r x y → Compares c (ordered op) b0 b1 r x y
  straight same =
      attempts_as (Shows sort.Bool) b0 b1 r rtype.Bool (ActsOnTwo (compared_sort c) (compared_sort c) x y (compares test)) (ActsOnTwo (compared_sort c) (compared_sort c) x y (compares (ordered op)))
      (λ regs s res f. record { v = f.v; left = f.left; w = f.w; right = f.right; does = f.does ∙ ap (λ h. on_to (needs (are_alike f.v f.w) (give h) s) (λ z. give (BoolVal z))) (same f.v f.w) })

  -- or of them the other way round
  pub turned : ((v w : Value) → ordered op v w ≡ test w v) → Compares c test b0 b1 r y x → Compares c (ordered op) b0 b1 r x y
  turned same =
      attempts_as (Shows sort.Bool) b0 b1 r rtype.Bool (ActsOnTwo (compared_sort c) (compared_sort c) y x (compares test)) (ActsOnTwo (compared_sort c) (compared_sort c) x y (compares (ordered op)))
      (λ regs s res f. record { v = f.w; left = f.right; w = f.v; right = f.left; does = f.does ∙ truth_found c (ordered op) f.v f.w s f.left.1 f.right.1 ∙ ap (λ h. Gives (BoolVal h) s) (same f.v f.w) ∙ sym (truth_found c test f.w f.v s f.right.1 f.left.1) })

-- that two values differ is the opposite of that they are equal
pub differs : (c : Compared) (b0 b1 b2 : Building) (q : Reg) (r x y : ℕ) → Compares c (tested Equal) b0 b1 q.0 x y → Attempts (Shows sort.Bool) b1 b2 r rtype.Bool (ActsOnAll (sort.Bool ∷ []) (q ∷ []) (of_one inverts)) → Compares c (ordered cmp.Ne) b0 b2 r x y
differs c b0 b1 b2 q r x y a d =
    let t = compared_sort c in
    attempts_then (Shows sort.Bool) (Shows sort.Bool) b0 b1 b2 q.0 r rtype.Bool rtype.Bool (ActsOnTwo t t x y (compares (tested Equal))) (ActsOn sort.Bool q.0 inverts) (ActsOnTwo t t x y (compares (ordered cmp.Ne))) a (as_one sort.Bool sort.Bool inverts b1 b2 r q d)
    (λ regs s res f. record {
      mid = compares (tested Equal) f.v f.w s;
      go = inverts;
      does = f.does ∙ truth_found c (ordered cmp.Ne) f.v f.w s f.left.1 f.right.1 ∙ sym (ap (λ o. on_to o inverts) (truth_found c (tested Equal) f.v f.w s f.left.1 f.right.1));
      start = record { v = f.v; left = f.left; w = f.w; right = f.right; does = refl };
      on = λ now v s1 shows kept. record { v = v; shows = shows; does = refl };
    })

-- the comparison that is left
pub only_equal : (op : CmpOp) → is_ordering op ≡ true → (op ≡ cmp.Ne → ⊥) → (op ≡ cmp.Lt → ⊥) → (op ≡ cmp.Le → ⊥) → (op ≡ cmp.Gt → ⊥) → (op ≡ cmp.Ge → ⊥) → (v w : Value) → ordered op v w ≡ is_equal v w
only_equal cmp.Eq o ne lt le gt ge v w = refl
only_equal cmp.Ne o ne lt le gt ge v w = absurd (ne refl)
only_equal cmp.Lt o ne lt le gt ge v w = absurd (lt refl)
only_equal cmp.Le o ne lt le gt ge v w = absurd (le refl)
only_equal cmp.Gt o ne lt le gt ge v w = absurd (gt refl)
only_equal cmp.Ge o ne lt le gt ge v w = absurd (ge refl)
only_equal op o ne lt le gt ge v w = let f : false ≡ true = o in absurd (cc)
