-- The statuses that come of a plan.
use Rattle.std.proofs.Common.{◌≡◌, refl, sym, ◌∙◌, subst, ℕ, IsTrue, List, ◌⊎◌, inl, inr, Option}
use Rattle.value_core.specs.Items.{Items}
use Rattle.c_runner.specs.Ran.{AreLines}
use Rattle.mypyc_top_words.specs.declared.words.Emit.{Emit}
use Rattle.mypyc_top_words.specs.declared.words.Emit.TheVariants.{Check, C, Run, Runc}
use Rattle.mypyc_top_words.specs.declared.words.Words.{Words}
use Rattle.mypyc_top_words.specs.declared.words.Words.TheVariants.{Usage, Go}
use Rattle.mypyc_top_status.specs.declared.status.Status.{Status}
use Rattle.mypyc_top_status.specs.declared.status.Status.TheVariants as status
use Rattle.mypyc_top_status.specs.declared.reply.Reply.{Reply}
use Rattle.mypyc_top_status.specs.Causes.{Yields, AbsentOpens}
use Rattle.mypyc_top_status.specs.Replies.{IsSent, IsReplied, is_run_status}
use Rattle.mypyc_top_status.specs.Sinks.{SinkCall}
use Rattle.mypyc_top_running.specs.declared.running.Program.{Program}
use Rattle.mypyc_top_running.specs.Programs.{RunGave}
use Rattle.mypyc_top.specs.declared.plan.Plan.TheVariants as plans
use Rattle.mypyc_top.specs.Modes.{CanAnswer, IsAllowed}
use Rattle.mypyc_top.specs.Plans.{Allowed}
use Rattle.mypyc_top.proofs.Statuses.{gave_status, either}

-- a reply that stands before anything is run is one, and does not say that the input failed
pub sent_is_replied : (s : Status) → IsSent s → IsReplied s
sent_is_replied status.WriteFault e = absurd (cc)
sent_is_replied status.Memory e = absurd (cc)
sent_is_replied status.Done e = refl
sent_is_replied status.Diagnosed e = refl
sent_is_replied status.Usage e = refl
sent_is_replied status.OpenFault e = refl
sent_is_replied status.ReadFault e = refl
sent_is_replied status.TooLarge e = refl
sent_is_replied status.Raised e = refl
sent_is_replied status.Cut e = refl
sent_is_replied status.TextRefused e = refl
sent_is_replied status.Faulted e = refl
sent_is_replied status.InputOver e = refl
sent_is_replied status.InputFault e = refl

pub sent_is_calm : (A : Type 0) (r s : Status) → IsSent r → (s ≡ r) ⊎ (s ≡ status.WriteFault) → s ≡ status.InputFault → A
sent_is_calm A r s sent (inl e) is = let P : Status → Type 0 = λ x. IsSent x in let bad : IsSent status.InputFault = subst P (sym e ∙ is) sent in absurd (cc)
sent_is_calm A r s sent (inr e) is = let bad : status.WriteFault ≡ status.InputFault = sym e ∙ is in absurd (cc)

-- want of memory and a refused write can come of all words
pub yields_allowed : (w : Words) (s : Status) → Yields s → IsAllowed w s
yields_allowed Usage s y = inr y
yields_allowed (Go r) s y =
    let P : Status → Type 0 = λ x. CanAnswer r.emit x in
    either (λ e. subst P (sym e) refl) (λ e. subst P (sym e) refl) y

-- a reply that was sent
pub sent_allowed : (w : Words) (reply : Reply) (s : Status) → Allowed w (plans.Send reply) → (s ≡ reply.status) ⊎ (s ≡ status.WriteFault) → IsAllowed w s
sent_allowed w reply s a (inr e) = yields_allowed w s (inl e)
sent_allowed Usage reply s a (inl e) = let P : Status → Type 0 = λ x. (x ≡ status.Usage) ⊎ Yields x in subst P (sym e) (inl a)
sent_allowed (Go r) reply s a (inl e) = let P : Status → Type 0 = λ x. CanAnswer r.emit x in subst P (sym e) a

-- a program that was run
pub run_allowed : (w : Words) (program : Program) (items : Items) (out err : SinkCall) (OutAlone ErrAlone : Type 0) (s : Status) → Allowed w (plans.Run program) → AreLines items → RunGave program items out err OutAlone ErrAlone s → IsAllowed w s
run_allowed Usage program items out err OutAlone ErrAlone s a lines g = absurd a
run_allowed (Go r) program items out err OutAlone ErrAlone s a lines g =
    let P : Status → Type 0 = λ x. CanAnswer r.emit x in
    either (λ e. subst P (sym e) (a items lines g.stop g.run)) (λ y. yields_allowed (Go r) s y) (gave_status out err _ _ _ s g.gave)

-- the usage line comes of words that are no command, and only of them
no_usage : (mode : Emit) → CanAnswer mode status.Usage → ⊥
no_usage Check e = cc
no_usage C e = cc
no_usage Run e = cc
no_usage Runc e = cc

pub usage_only : (w : Words) (s : Status) → IsAllowed w s → s ≡ status.Usage → w ≡ Usage
usage_only Usage s a e = refl
usage_only (Go r) s a e = let P : Status → Type 0 = λ x. CanAnswer r.emit x in absurd (no_usage r.emit (subst P e a))

pub usage_comes : (w : Words) (s : Status) → IsAllowed w s → w ≡ Usage → (s ≡ status.Usage) ⊎ Yields s
usage_comes w s a e = let P : Words → Type 0 = λ x. IsAllowed x s in subst P e a
