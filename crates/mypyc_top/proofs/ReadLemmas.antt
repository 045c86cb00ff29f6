-- How much of a file is read.
use Rattle.std.proofs.Common.{◌≡◌, ◌∙◌, ap, subst, ℕ, ◌+◌, false, IsTrue, List, Option, Some, Result, IfOk}
use Rattle.std.specs.Option.{option_and_then}
use Rattle.outside_core.specs.Bytes.{GivesAtMost}
use Rattle.mypyc_top_words.specs.declared.words.Emit.{Emit}
use Rattle.mypyc_top_words.specs.declared.words.Request.{Request}
use Rattle.mypyc_top_words.specs.declared.words.Words.{Words}
use Rattle.mypyc_top_words.specs.declared.words.Words.TheVariants.{Usage, Go}
use Rattle.mypyc_top_status.specs.declared.reply.Reply.{Reply}
use Rattle.mypyc_top_words.specs.Limits.{most_bytes, named_file, named_most}
use Rattle.mypyc_top.specs.declared.plan.Plan.{Plan}
use Rattle.mypyc_top.specs.declared.plan.Plan.TheVariants.{Send, Run}
use Rattle.mypyc_top.specs.Plans.{MatchPlan}
use Rattle.mypyc_top.specs.Reads.{is_text, runs_text, turns_of, OfText, HasTurns}

-- of the file that the words name
pub of_request : (content : List ℕ → Option (List ℕ)) (w : Words) (r : Request) (left bytes : List ℕ) → Go r ≡ w → (content r.file ≡ Some bytes → GivesAtMost (most_bytes r.emit + 1) bytes left) → option_and_then content (named_file w) ≡ Some bytes → GivesAtMost (named_most w + 1) bytes left
of_request content w r left bytes is gives =
    let P : Words → Type 0 = λ x. option_and_then content (named_file x) ≡ Some bytes → GivesAtMost (named_most x + 1) bytes left in
    subst P is gives

-- a C text that the words name
pub of_text : (P : Type 0) (content : List ℕ → Option (List ℕ)) (w : Words) (r : Request) (bytes : List ℕ) → Go r ≡ w → (content r.file ≡ Some bytes → IsTrue (is_text r.emit) → P) → option_and_then content (named_file w) ≡ Some bytes → IsTrue (runs_text w) → P
of_text P content w r bytes is gives =
    let Q : Words → Type 0 = λ x. option_and_then content (named_file x) ≡ Some bytes → IsTrue (runs_text x) → P in
    subst Q is gives

-- a request's turns are those of the words
pub of_turns : {E : Type 0} (w : Words) (r : Request) (plan : Result Plan E) → Go r ≡ w → IfOk plan (HasTurns r.turns) → IfOk plan (HasTurns (turns_of w))
of_turns w r plan is has = let P : Words → Type 0 = λ x. IfOk plan (HasTurns (turns_of x)) in subst P is has

-- a plan that runs nothing has whatever turns
pub sent_turns : (P : Reply → Type 0) (n : ℕ) (plan : Plan) → MatchPlan plan P (λ program. ⊥) → HasTurns n plan
sent_turns P n (Send reply) fit = tt
sent_turns P n (Run program) fit = absurd fit

pub same_text : {E : Type 0} (bytes others : List ℕ) (plan : Result Plan E) → Some bytes ≡ Some others → IfOk plan (OfText others) → IfOk plan (OfText bytes)
same_text bytes others plan e p =
    let same : others ≡ bytes = cc in
    let P : List ℕ → Type 0 = λ b. IfOk plan (OfText b) in
    subst P same p

-- a mode that runs no C text
pub no_text : (A : Type 0) (e mode : Emit) → e ≡ mode → is_text mode ≡ false → IsTrue (is_text e) → A
no_text A e mode same is text =
    let not : is_text e ≡ false = ap is_text same ∙ is in
    absurd (cc)
