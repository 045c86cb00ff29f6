-- A join does not hang on the order of its parts, where no two types are each of the other.
use Rattle.std.proofs.Common.{◌≡◌, Bool, true, false, ◌&&◌, List, Some, refl, sym, ap, subst, ◌∙◌}
use Rattle.py_typed.specs.Sorts.{Sort, Int, I64}
use Rattle.py_typed.specs.Classes.{ClassEntry}
use Rattle.py_typed.specs.Fits.{is_same_type, is_number, is_nothing, number_join, same, join}
use Rattle.py_typed.specs.Laws.{IsClassTree}
use Rattle.py_typed.proofs.OneWayLemmas.{one_way}
use Rattle.py_typed.proofs.FitLemmas.{type_is_itself, one_type, nothing_is, by_tests}

clash : {A : Type 0} (b : Bool) → b ≡ true → b ≡ false → A
clash true p q = absurd (cc)
clash false p q = absurd (cc)

swapped : (a b : Bool) → (a && b) ≡ (b && a)
swapped true true = refl
swapped true false = refl
swapped false true = refl
swapped false false = refl

joined_alike : (s t : Sort) → number_join s t ≡ number_join t s
joined_alike I64 I64 = refl
joined_alike I64 Int = refl
joined_alike I64 _ = refl
joined_alike Int I64 = refl
joined_alike _ I64 = refl
joined_alike Int Int = refl
joined_alike _ _ = refl

differ : {A : Type 0} (s t : Sort) → is_same_type s t ≡ false → s ≡ t → A
differ s t e p = clash (is_same_type s t) (subst (λ x. is_same_type s x ≡ true) p (type_is_itself s)) e

module _ (classes : List ClassEntry) (one_way : (s t : Sort) → same classes s t ≡ true → same classes t s ≡ true → s ≡ t) where
  alike : (s t : Sort) (one one' numbers numbers' none none' under over : Bool) → is_same_type s t ≡ one → is_same_type t s ≡ one' → (is_number s && is_number t) ≡ numbers → (is_number t && is_number s) ≡ numbers'
      → is_nothing s ≡ none → is_nothing t ≡ none' → same classes s t ≡ under → same classes t s ≡ over
      → by_tests classes s t one numbers none none' under over ≡ by_tests classes t s one' numbers' none' none over under
  alike s t true true n n' p q u o a b c d e f g h = ap Some (one_type s t a)
  alike s t true false n n' p q u o a b c d e f g h = differ t s b (sym (one_type s t a))
  alike s t false true n n' p q u o a b c d e f g h = differ s t a (sym (one_type t s b))
  alike s t false false true true p q u o a b c d e f g h = ap Some (joined_alike s t)
  alike s t false false true false p q u o a b c d e f g h = clash (is_number t && is_number s) (sym (swapped (is_number s) (is_number t)) ∙ c) d
  alike s t false false false true p q u o a b c d e f g h = clash (is_number s && is_number t) (swapped (is_number s) (is_number t) ∙ d) c
  alike s t false false false false true true u o a b c d e f g h = differ s t a (nothing_is classes s e ∙ sym (nothing_is classes t f))
  alike s t false false false false true false u o a b c d e f g h = refl
  alike s t false false false false false true u o a b c d e f g h = refl
  alike s t false false false false false false true true a b c d e f g h = differ s t a (one_way s t g h)
  alike s t false false false false false false true false a b c d e f g h = refl
  alike s t false false false false false false false true a b c d e f g h = refl
  alike s t false false false false false false false false a b c d e f g h = refl

  pub join_alike : (s t : Sort) → join classes s t ≡ join classes t s
  join_alike s t = alike s t _ _ _ _ _ _ _ _ refl refl refl refl refl refl refl refl

pub join_symmetric : (classes : List ClassEntry) → IsClassTree classes → (s t : Sort) → join classes s t ≡ join classes t s
join_symmetric classes tree = join_alike classes (one_way classes tree)
