-- Calls that are answered at once.
use Rattle.std.proofs.Common.{◌≡◌, ap, ◌∙◌, ℕ, Bool, true, false, cond, List, [], Option, Some, None}
use Rattle.std.specs.Prelude.{ℤ, Result, Ok, Err, IfSome, map}
use Rattle.std.specs.Option.{option_and_then, option_map}
use Rattle.value_core.specs.Arithmetic.{is_short}
use Rattle.c_core.specs.declared.code.CArg.{CArg}
use Rattle.c_core.specs.declared.code.Code.{Code}
use Rattle.c_core.specs.declared.fault.Fault.{Fault}
use Rattle.c_core.specs.declared.fault.Fault.TheVariants as fault
use Rattle.c_core.specs.declared.primitive.Primitive.TheVariants as prim
use Rattle.c_core.specs.declared.primitive.Int64Prim.{Int64Prim}
use Rattle.c_core.specs.declared.primitive.Int64Prim.TheVariants as int64
use Rattle.c_core.specs.declared.primitive.ListPrim.TheVariants as list
use Rattle.c_core.specs.declared.primitive.TaggedPrim.{TaggedPrim}
use Rattle.c_core.specs.declared.primitive.TaggedPrim.TheVariants as tagged
use Rattle.c_core.specs.Machine as machine
use Rattle.c_core.specs.Machine.{MachineState, BigInt, ShortInt, refs_in}
use Rattle.c_core.specs.Step.{Next, Goes, Effect, MakesInt, Says, Shares, applied, called, if_calm, if_some, next_line, primitive_step, tagged_effect, unboxed, with_cells, with_target}
use Rattle.c_core.proofs.ReleaseLemmas.{release-nothing}
use Rattle.c_runner_deeds.specs.Deeds.{list_length_done, performed, tagged_done, then_tried, two_done, two_ints}
use Rattle.c_runner_deeds.specs.Parts.{int64_effect, two_effect, two_natives}
use Rattle.c_runner_deeds.specs.States.{Rest, state_of, Seen}
use Rattle.c_runner_deeds.proofs.CallLemmas.{int64_called}
use Rattle.c_runner_deeds.proofs.DeedLemmas.{list_called, tagged_called}
use Rattle.cell_heap.specs.declared.word.Word.{Word}
use Rattle.cell_heap.specs.Contents.{number_of, word_of}

-- what is known of an answer, said otherwise
pub some_as : {A : Type 0} (o : Option A) (P Q : A → Type 0) → ((a : A) → P a → Q a) → IfSome o P → IfSome o Q
some_as None P Q f h = tt
some_as (Some a) P Q f h = f a h

-- a primitive that is none on two native integers, and one that is none on two `int`s
abbrev nothing : ℤ × ℤ → Option Effect
nothing q = None

none_on_two : (o : Option (ℤ × ℤ)) (e : Effect) → option_and_then nothing o ≡ Some e → ⊥
none_on_two None e is = cc
none_on_two (Some q) e is = cc

no_box : (r : Result (ℤ × ℤ) Fault) (e : Effect) → then_tried (λ q. two_done tagged.Box q.0 q.1) r ≡ Ok e → ⊥
no_box (Ok q) e is = cc
no_box (Err f) e is = cc

module _ (rest : Rest) (old : Seen) (code : Code) (x : Option ℕ) (args : List CArg) (calm : old.pending ≡ None) (w : Word) where
  abbrev s : MachineState
  s = state_of rest old

  -- the word is written, and the run goes on at the next line
  abbrev answered : Next
  answered = Goes (next_line (with_target x (word_of w) s))

  calm_on : (go : Next) → if_calm true s s.pending go ≡ go
  calm_on go = ap (λ o. if_calm true s (option_map number_of o) go) calm

  said : applied true s x s.top.ledger [] (Says (word_of w)) ≡ answered
  said = ap (λ cells. Goes (next_line (with_target x (word_of w) (with_cells cells s)))) (release-nothing refs_in old.cells)

  native_said : (p : Int64Prim) → (p ≡ int64.Str → ⊥) → (p ≡ int64.Box → ⊥) → (p ≡ int64.Unbox → ⊥) → int64_effect p s.top.vars args ≡ Some (Says (word_of w)) → if_calm true s s.pending (primitive_step true s code x args (prim.Int64 p)) ≡ answered
  native_said p a b c e =
      calm_on (primitive_step true s code x args (prim.Int64 p))
      ∙ int64_called rest old code x args p a b c
      ∙ ap (λ o. if_some true s fault.Kind o (applied true s x s.top.ledger [])) e
      ∙ said

  short_said : (p : TaggedPrim) → (p ≡ tagged.Box → ⊥) → tagged_done p s.cells s.top.vars args ≡ Ok (Says (word_of w)) → if_calm true s s.pending (primitive_step true s code x args (prim.Tagged p)) ≡ answered
  short_said p other e =
      calm_on (primitive_step true s code x args (prim.Tagged p))
      ∙ tagged_called s x code args p other
      ∙ ap (λ d. performed x d s) e
      ∙ said

  pub native_called : (p : Int64Prim) → option_and_then (λ q. two_effect p q.0 q.1) (two_natives (map word_of old.top.vars) args) ≡ Some (Says (word_of w)) → called true s code x args (prim.Int64 p) ≡ answered
  native_called int64.Add e = native_said int64.Add (λ f. cc) (λ f. cc) (λ f. cc) e
  native_called int64.Subtract e = native_said int64.Subtract (λ f. cc) (λ f. cc) (λ f. cc) e
  native_called int64.Multiply e = native_said int64.Multiply (λ f. cc) (λ f. cc) (λ f. cc) e
  native_called int64.FloorDivide e = native_said int64.FloorDivide (λ f. cc) (λ f. cc) (λ f. cc) e
  native_called int64.Remainder e = native_said int64.Remainder (λ f. cc) (λ f. cc) (λ f. cc) e
  native_called int64.Lshift e = native_said int64.Lshift (λ f. cc) (λ f. cc) (λ f. cc) e
  native_called int64.Rshift e = native_said int64.Rshift (λ f. cc) (λ f. cc) (λ f. cc) e
  native_called int64.Eq e = native_said int64.Eq (λ f. cc) (λ f. cc) (λ f. cc) e
  native_called int64.Lt e = native_said int64.Lt (λ f. cc) (λ f. cc) (λ f. cc) e
  native_called int64.Le e = native_said int64.Le (λ f. cc) (λ f. cc) (λ f. cc) e
  native_called _ e = absurd (none_on_two (two_natives (map word_of old.top.vars) args) (Says (word_of w)) e)

  pub short_called : (p : TaggedPrim) → tagged_done p old.cells (map word_of old.top.vars) args ≡ Ok (Says (word_of w)) → called true s code x args (prim.Tagged p) ≡ answered
  short_called tagged.Box e = absurd (no_box (two_ints old.cells (map word_of old.top.vars) args) (Says (word_of w)) e)
  short_called tagged.Add e = short_said tagged.Add (λ f. cc) e
  short_called tagged.Subtract e = short_said tagged.Subtract (λ f. cc) e
  short_called tagged.Multiply e = short_said tagged.Multiply (λ f. cc) e
  short_called tagged.Negate e = short_said tagged.Negate (λ f. cc) e
  short_called tagged.FloorDivide e = short_said tagged.FloorDivide (λ f. cc) e
  short_called tagged.Remainder e = short_said tagged.Remainder (λ f. cc) e
  short_called tagged.Lshift e = short_said tagged.Lshift (λ f. cc) e
  short_called tagged.Rshift e = short_said tagged.Rshift (λ f. cc) e
  short_called tagged.FromText e = short_said tagged.FromText (λ f. cc) e
  short_called tagged.FromInt64 e = short_said tagged.FromInt64 (λ f. cc) e
  short_called tagged.FromBool e = short_said tagged.FromBool (λ f. cc) e
  short_called tagged.AsInt64 e = short_said tagged.AsInt64 (λ f. cc) e
  short_called tagged.Eq e = short_said tagged.Eq (λ f. cc) e
  short_called tagged.Lt e = short_said tagged.Lt (λ f. cc) e
  short_called tagged.Le e = short_said tagged.Le (λ f. cc) e
  short_called tagged.Str e = short_said tagged.Str (λ f. cc) e
  short_called tagged.Unbox e = short_said tagged.Unbox (λ f. cc) e

  pub length_called : list_length_done old.cells (map word_of old.top.vars) args ≡ Ok (Says (word_of w)) → called true s code x args (prim.List list.Len) ≡ answered
  length_called e =
      calm_on (primitive_step true s code x args (prim.List list.Len))
      ∙ list_called s x code args list.Len (λ f. cc) (λ f. cc) (λ f. cc) (λ f. cc)
      ∙ ap (λ d. performed x d s) e
      ∙ said

-- a short `int` in a cell is its word
pub unboxed_too : (c : ℕ) (n : ℤ) (w : machine.Word) → tagged_effect n ≡ Says w → unboxed c n ≡ Says w
unboxed_too c n w e = by (is_short n) e
  where
    by : (b : Bool) → cond b (Says (ShortInt n)) (MakesInt n) ≡ Says w → cond b (Says (ShortInt n)) (Shares (BigInt c)) ≡ Says w
    by true f = f
    by false f = absurd (cc)
