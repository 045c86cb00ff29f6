-- Lines that are done at once, as the runner does them.
use Rattle.std.specs.Prelude.{◌≡◌, ◌⊎◌, ℕ, zero, suc, ◌+◌, Bool, true, false, cond, List, Option, Some, None, slice_get}
use Rattle.std.specs.Option.{option_and_then}
use Rattle.c_core.specs.declared.code.Code.{Code}
use Rattle.c_core.specs.declared.code.Line.{Line}
use Rattle.c_core.specs.declared.code.Line.TheVariants.{Label, Goto, If, IfError, Inc, Dec, XDec}
use Rattle.c_core.specs.Laws.{Reaches}
use Rattle.c_core.specs.Machine as machine
use Rattle.c_core.specs.Machine.{ShortInt, CharWord, NoneObject, TrueObject, FalseObject, MachineState}
use Rattle.c_core.specs.Step.{Next, equals_error}
use Rattle.c_runner_deeds.specs.States.{Rest, Follows, with_target, state_of, Seen}
use Rattle.c_runner_table.specs.declared.naming.Target.{Target}
use Rattle.cell_heap.specs.declared.word.Word.{Word}

-- what a line does was done, and the run goes on in the same function, with the same output; or nothing was done
abbrev pub Done : (MachineState → Next) → Bool → Seen → Seen → Type 0
Done does true old new = Follows does None old new × (new.top.func ≡ old.top.func) × (new.output ≡ old.output)
Done does false old new = new ≡ old

-- so many lines were done, and the run goes on in the same function, with the same output
abbrev pub Did : Code → ℕ → Seen → Seen → Type 0
Did code n old new =
    ((rest : Rest) → Reaches code n (state_of rest old) (state_of rest new)) × (new.top.func ≡ old.top.func) × (new.output ≡ old.output)

-- a word, if there is one, was written to a target, and the run goes on at the next line
abbrev pub Wrote : Option ℕ → Option Word → Bool → Seen → Seen → Type 0
Wrote target None is_done old new = (is_done ≡ false) × (new ≡ old)
Wrote target (Some w) is_done old new =
    (is_done ≡ true) × (let top = with_target target w old.top in new ≡ record old { top = record top { place = top.place + 1 } })

-- the run goes on at a place, if there is one
abbrev pub Went : Option ℕ → Bool → Seen → Seen → Type 0
Went None is_done old new = (is_done ≡ false) × (new ≡ old)
Went (Some place) is_done old new = (is_done ≡ true) × (new ≡ record old { top = record old.top { place = place } })

-- the run goes on at a place, if there is one, which is one line, or behind the line there, which is two
abbrev pub Jumped : Option ℕ → ℕ → Seen → Seen → Type 0
Jumped None n old new = (n ≡ 0) × (new ≡ old)
Jumped (Some place) n old new =
    ((n ≡ 1) × (new ≡ record old { top = record old.top { place = place } })) ⊎ ((n ≡ 2) × (new ≡ record old { top = record old.top { place = place + 1 } }))

-- at which of two places the run goes on, by a truth
abbrev pub place_chosen : Option ℕ → Option ℕ → machine.Word → Option ℕ
place_chosen first second (CharWord zero) = second
place_chosen first second (CharWord (suc zero)) = first
place_chosen first second _ = None

-- where the run goes on behind a count of a word that has no cell
abbrev pub place_uncounted : ℕ → machine.Word → Option ℕ
place_uncounted place (ShortInt n) = Some (place + 1)
place_uncounted place NoneObject = Some (place + 1)
place_uncounted place TrueObject = Some (place + 1)
place_uncounted place FalseObject = Some (place + 1)
place_uncounted place _ = None

-- where the run goes on behind a line that only leads there, at this place, with these variables and what the line names
abbrev pub place_behind : ℕ → List machine.Word → Target → Line → Option ℕ
place_behind place vars t Label = Some (place + 1)
place_behind place vars t (Goto n) = t.first
place_behind place vars t (If x n m) = option_and_then (place_chosen t.first t.second) (slice_get vars x)
place_behind place vars t (IfError x n m) = option_and_then (λ w. cond (equals_error w) t.first t.second) (slice_get vars x)
place_behind place vars t (Inc x) = option_and_then (place_uncounted place) (slice_get vars x)
place_behind place vars t (Dec x) = option_and_then (place_uncounted place) (slice_get vars x)
place_behind place vars t (XDec x) = option_and_then (place_uncounted place) (slice_get vars x)
place_behind place vars t _ = None
