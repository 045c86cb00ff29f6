-- The status of a call, by its answer.
use Rattle.std.proofs.Common.{◌≡◌, refl, sym, subst, ℕ, Bool, false, List, Option, Some, ◌⊎◌, inl, inr, arith}
use Rattle.std.proofs.lemmas.Bool.Decides.{nat_tests}
use Rattle.std.specs.Option.{option_and_then}
use Rattle.value_core.specs.Items.{Items}
use Rattle.outside_core.specs.Counts.{Rose, has_risen}
use Rattle.mypyc_top_words.specs.Words.{words_of}
use Rattle.mypyc_top_words.specs.Limits.{named_file}
use Rattle.mypyc_top_status.specs.declared.status.Status.{Status}
use Rattle.mypyc_top_status.specs.declared.status.Status.TheVariants as status
use Rattle.mypyc_top_status.specs.Causes.{Yields}
use Rattle.mypyc_top_status.specs.Sinks.{SinkCall}
use Rattle.mypyc_top_status.specs.Gave.{Gave}
use Rattle.mypyc_top.specs.Answer.{FileMeaning, Bytes, file_meaning, Answer, IsStatus}
use Rattle.mypyc_top.specs.Answered.{Answers, Answered}

pub gave_status : (out err : SinkCall) (o e : List ℕ) (s t : Status) → Gave out err o e s t → (t ≡ s) ⊎ Yields t
gave_status out err o e s status.WriteFault g = inr (inl refl)
gave_status out err o e s status.Memory g = inr (inr refl)
gave_status out err o e s status.Done g = inl g.0
gave_status out err o e s status.Diagnosed g = inl g.0
gave_status out err o e s status.Usage g = inl g.0
gave_status out err o e s status.OpenFault g = inl g.0
gave_status out err o e s status.ReadFault g = inl g.0
gave_status out err o e s status.TooLarge g = inl g.0
gave_status out err o e s status.Raised g = inl g.0
gave_status out err o e s status.Cut g = inl g.0
gave_status out err o e s status.TextRefused g = inl g.0
gave_status out err o e s status.Faulted g = inl g.0
gave_status out err o e s status.InputOver g = inl g.0
gave_status out err o e s status.InputFault g = inl g.0

-- ---- the status of a call

not_rose : (old new : ℕ) → ¬ (Rose old new) → has_risen old new ≡ false
not_rose old new h = grind (arith, nat_tests)

meaning_is : (rises is_open : Bool) (content : Option (List ℕ)) (bytes : List ℕ) → rises ≡ false → content ≡ Some bytes → file_meaning rises is_open content ≡ Bytes bytes
meaning_is rises is_open content bytes r c = rw (r, c) refl

pub either : {A B C : Type 0} → (A → C) → (B → C) → A ⊎ B → C
either f g (inl a) = f a
either f g (inr b) = g b

module _ (words : List (List ℕ)) (content : List ℕ → Option (List ℕ)) (bytes : List ℕ) (items : Items) (old new : ℕ) (is_open : Bool) (out err : SinkCall) (OutAlone ErrAlone : Type 0) (s : Status)
    (named : option_and_then content (named_file (words_of words)) ≡ Some bytes) (calm : ¬ (Rose old new)) where
  abbrev file : FileMeaning
  file = file_meaning (has_risen old new) is_open (option_and_then content (named_file (words_of words)))

  answers_is : Answers words file items out err OutAlone ErrAlone s → IsStatus words bytes items s ⊎ Yields s
  answers_is a =
      let P : FileMeaning → Type 0 = λ f. Answer words f items a.text a.lines a.result in
      let known : IsStatus words bytes items a.result = (a.text, (a.lines, subst P (meaning_is (has_risen old new) is_open _ bytes (not_rose old new calm) named) a.answer)) in
      let Q : Status → Type 0 = λ t. IsStatus words bytes items t in
      either (λ e. inl (subst Q (sym e) known)) (λ y. inr y) (gave_status out err a.text a.lines a.result s a.gave)

  -- the status of a call whose file has these bytes
  pub by_bytes : Answered words file items out err OutAlone ErrAlone s → IsStatus words bytes items s ⊎ Yields s
  by_bytes a = either answers_is (λ l. inr (inr l.status)) a

-- only want of memory comes between where no sink refused
pub complete : (Is : Type 0) (s : Status) (R S : Type 0) → Is ⊎ Yields s → (s ≡ status.WriteFault → R ⊎ S) → ¬ R → ¬ S → Is ⊎ (s ≡ status.Memory)
complete Is s R S known refused r t = either (λ e. inl e) (λ y. either (λ w. absurd (either r t (refused w))) (λ m. inr m) y) known
