-- Plans by what came of the file.
use Rattle.std.proofs.Common.{◌≡◌, refl, sym, subst, ℕ, ◌<◌, ◌≤◌, Bool, true, false, nat_lt, List, [], ◌∷◌, length, Option, Some, Result, IfOk, arith}
use Rattle.std.proofs.lemmas.Bool.Decides.{nat_tests}
use Rattle.std.specs.Option.{option_and_then}
use Rattle.value_core.specs.Items.{Items}
use Rattle.outside_core.specs.Counts.{count_end, has_risen}
use Rattle.py_typed.specs.Statements.{TypedModule}
use Rattle.py_parser_source.specs.Entries.{Entry}
use Rattle.mypyc_top_words.specs.declared.words.Emit.{Emit}
use Rattle.mypyc_top_words.specs.declared.words.Request.{Request}
use Rattle.mypyc_top_words.specs.declared.words.Words.{Words}
use Rattle.mypyc_top_words.specs.declared.words.Words.TheVariants.{Go}
use Rattle.mypyc_top_words.specs.Limits.{named_file, most_bytes}
use Rattle.mypyc_top_status.specs.declared.status.Status.{Status}
use Rattle.mypyc_top_status.specs.declared.status.Status.TheVariants as status
use Rattle.mypyc_top_status.specs.declared.reply.Reply.{Reply}
use Rattle.mypyc_top_status.specs.Output.{output_text}
use Rattle.mypyc_top_status.specs.ErrorLines.{large_line}
use Rattle.mypyc_top_compiler.specs.declared.faults.Faults.{Faults}
use Rattle.mypyc_top_compiler.specs.Source.{IsTyped}
use Rattle.mypyc_top_compiler.specs.Diagnostics.{entries_text, notes_text}
use Rattle.mypyc_top_compiler.specs.Faults.{AreFaults}
use Rattle.mypyc_top_compiler.specs.Found.{entries_of}
use Rattle.mypyc_top_compiler.proofs.Values.{if_ok}
use Rattle.mypyc_top.specs.declared.plan.Plan.{Plan}
use Rattle.mypyc_top.specs.Answer.{FileMeaning, file_meaning, Bytes, FaultsAnswer, ModuleAnswer, ModeAnswer, SizedAnswer, RequestAnswer, WordsAnswer}
use Rattle.mypyc_top.specs.Plans.{Answering, Plans}

-- ---- modules

-- a file without faults gives what is asked for, and one with faults gives them
pub good_module : (mode : Emit) (file bytes : List ℕ) (m : TypedModule) (Good : TypedModule → Type 0) (out err : List ℕ) (s : Status) → AreFaults mode bytes [] → IsTyped bytes m → Good m → ModuleAnswer mode file bytes Good out err s
good_module mode file bytes m Good out err s none is good =
    ([], none, (m, is, good))

by_entries : (file bytes : List ℕ) (Good : TypedModule → Type 0) (es : List Entry) (out err : List ℕ) (s : Status) → ¬ (es ≡ []) → (out ≡ entries_text file es) × (err ≡ notes_text file es) × (s ≡ status.Diagnosed) → FaultsAnswer file bytes Good es out err s
by_entries file bytes Good [] out err s some sent = absurd (some refl)
by_entries file bytes Good (e ∷ es) out err s some sent = sent

-- ---- by what came of the file

calm_count : (old new : ℕ) → new ≡ old → old < count_end → has_risen old new ≡ false
calm_count old new e l = grind (arith, nat_tests)

meaning_is : (old new : ℕ) (is_open : Bool) (content : Option (List ℕ)) (bytes : List ℕ) → new ≡ old → old < count_end → content ≡ Some bytes → file_meaning (has_risen old new) is_open content ≡ Bytes bytes
meaning_is old new is_open content bytes e l c = rw (calm_count old new e l, c) refl

within_limit : (most n : ℕ) → n ≤ most → nat_lt most n ≡ false
within_limit most n l = grind (arith, nat_tests)

past_limit : (most n : ℕ) → most < n → nat_lt most n ≡ true
past_limit most n l = grind (arith, nat_tests)

pub read_plan : (r : Request) (old new : ℕ) (is_open : Bool) (content : Option (List ℕ)) (bytes : List ℕ) (plan : Plan) → new ≡ old → old < count_end → content ≡ Some bytes → length bytes ≤ most_bytes r.emit → Plans (ModeAnswer r.emit r bytes) plan → Plans (RequestAnswer r (file_meaning (has_risen old new) is_open content)) plan
read_plan r old new is_open content bytes plan e l c within p =
    let P : FileMeaning → Type 0 = λ f. Plans (RequestAnswer r f) plan in
    let Q : Bool → Type 0 = λ b. Plans (SizedAnswer b r bytes) plan in
    subst P (sym (meaning_is old new is_open content bytes e l c)) (subst Q (sym (within_limit (most_bytes r.emit) (length bytes) within)) p)

pub large_answer : (r : Request) (old new : ℕ) (is_open : Bool) (content : Option (List ℕ)) (bytes : List ℕ) (items : Items) (out err : List ℕ) (s : Status) → new ≡ old → old < count_end → content ≡ Some bytes → most_bytes r.emit < length bytes → out ≡ [] → err ≡ large_line r.file → s ≡ status.TooLarge → RequestAnswer r (file_meaning (has_risen old new) is_open content) items out err s
large_answer r old new is_open content bytes items out err s e l c past o er t =
    let P : FileMeaning → Type 0 = λ f. RequestAnswer r f items out err s in
    let Q : Bool → Type 0 = λ b. SizedAnswer b r bytes items out err s in
    subst P (sym (meaning_is old new is_open content bytes e l c)) (subst Q (sym (past_limit (most_bytes r.emit) (length bytes) past)) (o, er, t))

pub words_plan : (w : Words) (r : Request) (content : List ℕ → Option (List ℕ)) (rises is_open : Bool) (plan : Plan) → Go r ≡ w → Plans (RequestAnswer r (file_meaning rises is_open (content r.file))) plan → Plans (WordsAnswer w (file_meaning rises is_open (option_and_then content (named_file w)))) plan
words_plan w r content rises is_open plan e p =
    let P : Words → Type 0 = λ x. Plans (WordsAnswer x (file_meaning rises is_open (option_and_then content (named_file x)))) plan in subst P e p

-- the plan of a mode is one of the request that has this mode and this file
pub mode_plan : {E : Type 0} (r : Request) (mode : Emit) (file bytes : List ℕ) (A : List ℕ → Answering) (plan : Result Plan E) → r.emit ≡ mode → file ≡ r.file → ((out : Plan) → Plans (A r.file) out → Plans (ModeAnswer mode r bytes) out) → IfOk plan (Plans (A file)) → IfOk plan (Plans (ModeAnswer r.emit r bytes))
mode_plan r mode file bytes A plan m f same p =
    let P : Emit → Type 0 = λ x. IfOk plan (Plans (ModeAnswer x r bytes)) in
    let Q : List ℕ → Type 0 = λ x. IfOk plan (Plans (A x)) in
    subst P (sym m) (if_ok plan (Plans (A r.file)) (Plans (ModeAnswer mode r bytes)) same (subst Q f p))
