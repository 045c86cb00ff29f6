-- Going up from class to class.
use Rattle.std.proofs.Common.{◌≡◌, ℕ, suc, ◌+◌, ◌-◌, ◌<◌, List, ap, ◌∙◌, arith}
use Rattle.std.specs.Prelude.{Option, Some, None, slice_get}
use Rattle.std.specs.Option.{option_or, option_and_then}
use Rattle.py_check_context.specs.declared.members.Above.{Above}
use Rattle.py_check_context.specs.declared.members.Above.TheVariants.{Base}
use Rattle.py_check_context.specs.declared.members.ClassMembers.{ClassMembers}
use Rattle.py_check_context.specs.Members.{own_of, behind, along, above_of}

module _ {A : Type 0} (own : ClassMembers → Option A) (classes : List ClassMembers) where
  -- with levels left, what a class has is its own, or else what those above it have with one level less
  pub along_step : (n i c : ℕ) → i < n → along own classes (n - i) c ≡ option_or (own_of own classes c) (behind own classes (along own classes (n - (i + 1))) (above_of (slice_get classes c)))
  along_step n i c h =
      let e : n - i ≡ suc (n - (i + 1)) = omega arith in
      ap (λ k. along own classes k c) e

  -- it has this of its own, or nothing
  pub along_own : (n i c : ℕ) (m : ClassMembers) (a : A) → i < n → slice_get classes c ≡ Some m → own m ≡ Some a → along own classes (n - i) c ≡ Some a
  along_own n i c m a h g e =
      along_step n i c h
      ∙ ap (λ o. option_or (option_and_then own o) (behind own classes (along own classes (n - (i + 1))) (above_of (slice_get classes c)))) g
      ∙ ap (λ o. option_or o (behind own classes (along own classes (n - (i + 1))) (above_of (slice_get classes c)))) e

  pub along_behind : (n i c : ℕ) (m : ClassMembers) (up : Above) → i < n → slice_get classes c ≡ Some m → own m ≡ None → m.above ≡ up → along own classes (n - i) c ≡ behind own classes (along own classes (n - (i + 1))) up
  along_behind n i c m up h g e f =
      along_step n i c h
      ∙ ap (λ o. option_or (option_and_then own o) (behind own classes (along own classes (n - (i + 1))) (above_of o))) g
      ∙ ap (λ o. option_or o (behind own classes (along own classes (n - (i + 1))) m.above)) e
      ∙ ap (behind own classes (along own classes (n - (i + 1)))) f

  pub along_nowhere : (n i c : ℕ) → i < n → slice_get classes c ≡ None → along own classes (n - i) c ≡ None
  along_nowhere n i c h g =
      along_step n i c h ∙ ap (λ o. option_or (option_and_then own o) (behind own classes (along own classes (n - (i + 1))) (above_of o))) g
