-- The definitions on small codes: in order, one that leaves a text behind, one that returns what it was lent, some that use what a list
-- lends, and codes with attributes and methods.
use Rattle.std.proofs.Common.{◌≡◌, refl, sym, subst, ◌∙◌, ◌≤◌, Bool, ◌⊎◌, inl, inr, ⊎_elim, ℕ, zero, suc, ◌+◌, true, false, List, [], ◌∷◌, ◌++◌, Option, Some, None, codes, arith}
use Rattle.std.specs.Prelude.{pos, slice_get}
use Rattle.std.specs.Option.{option_map}
use Rattle.value_core.specs.Ending.{Done, Raised, Cut}
use Rattle.value_core.specs.Items.{Eof}
use Rattle.c_core.specs.declared.code.Kind.TheVariants.{Object, Char, Tagged, Int64}
use Rattle.c_core.specs.declared.code.CArg.TheVariants as arg
use Rattle.c_core.specs.declared.code.CLit.TheVariants.{Number, Null}
use Rattle.c_core.specs.declared.code.Line.{Line}
use Rattle.c_core.specs.declared.code.Line.TheVariants.{Label, Call, Move, Virtual, Goto, IfError, Turn, Return, Inc, Dec, XDec, Lit}
use Rattle.c_core.specs.declared.code.CFunc.{CFunc}
use Rattle.c_core.specs.declared.code.Code.{Code}
use Rattle.c_core.specs.declared.fault.Fault.TheVariants as fault
use Rattle.c_core.specs.Cells.{same}
use Rattle.c_core.specs.Step.{MachineEnding, Ended, Faulted, not_defined}
use Rattle.c_core.specs.Functions.{label_places}
use Rattle.c_core.specs.Run.{machine_run}
use Rattle.c_core_ownership_laws.specs.Shares.{put, State, Shares, state_of, with_owns, with_state, with_share, unheld, unheld_if, IsKnownAs, Within, LineChecks, Checks}
use Rattle.c_core_ownership_laws.specs.Order.{Any, from, Table, Entered, IsInOrder, AreInOrder, labels_of, IsPlaced, ArePlaced}
use Rattle.c_core_ownership_laws.proofs.Weaken.{within_self}

abbrev module_of : List Line → CFunc
module_of lines = record { name = []; ret = Char; params = 0; vars = (codes "t_0", Object) ∷ (codes "t_1", Char) ∷ (codes "t_2", Object) ∷ []; lines = lines }

abbrev code_of : List CFunc → List Line → Code
code_of functions lines =
    record { globals = (codes "a", Object) ∷ []; classes = []; funcs = functions ++ module_of lines ∷ [] }

-- no label is entered
abbrev nowhere : Table
nowhere f n = None

-- states of which nothing is owned: nothing more is known, it is lent, or there is no cell
abbrev unowned : State
unowned = record { owns = 0; lent = false; held = false; empty = false }

abbrev borrowed : State
borrowed = record { owns = 0; lent = true; held = false; empty = false }

abbrev vacant : State
vacant = record { owns = 0; lent = false; held = false; empty = true }

-- nothing is owned, lent or held, and nothing is empty
abbrev nothing : Shares
nothing = record { owns = λ r. 0; lent = λ r. false; held = λ r. false; empty = λ r. false }

abbrev ended : Code → Option MachineEnding
ended code = option_map (λ stop. stop.ending) (machine_run 2 Eof code)

abbrev making : Line
making = Call (Some 0) (codes "CPyStr_Literal") (arg.Text (codes "x") ∷ [])

abbrev writing : Line
writing = Call None (codes "CPy_Write") (arg.Var 0 ∷ [])

abbrev leaving : List Line
leaving = Lit 1 (Number (pos 1)) ∷ Return 1 ∷ []

-- a variable that lost its one reference owns none
lost : (x : ℕ) (k : ℕ → ℕ) → ((r : ℕ) → k r ≡ 0) → (r : ℕ) → put x 0 (put x 1 k) r ≡ 0
lost zero k none zero = refl
lost zero k none (suc r) = none (suc r)
lost (suc x) k none zero = none 0
lost (suc x) k none (suc r) = lost x (λ j. k (suc j)) (λ j. none (suc j)) r

still : (x : ℕ) (k : ℕ → ℕ) → ((r : ℕ) → k r ≡ 0) → (r : ℕ) → put x 0 k r ≡ 0
still zero k none zero = refl
still zero k none (suc r) = none (suc r)
still (suc x) k none zero = none 0
still (suc x) k none (suc r) = still x (λ j. k (suc j)) (λ j. none (suc j)) r

-- ---- a text is made, written and given up
abbrev writes : List Line
writes = making ∷ writing ∷ Dec 0 ∷ leaving

writes_ends : ended (code_of [] writes) ≡ Some (Ended Done)
writes_ends = refl

writes_check : Checks (code_of [] writes) (module_of writes) (Entered nowhere 0) Any nothing writes
writes_check =
    ((tt, tt), tt, (omega arith, λ e. cc), inl refl, ((inl (inl (omega arith)), tt), refl, refl, tt, (inl (omega arith), (omega arith, inl refl, (unowned, (λ e. refl, λ r. inl (still 1 (put 0 0 (put 0 1 (λ r. 0))) (lost 0 (λ r. 0) (λ r. refl)) r)))))))

writes_in_order : AreInOrder (code_of [] writes) nowhere
writes_in_order zero g e =
    let is : module_of writes ≡ g = cc in
    subst (IsInOrder (code_of [] writes) (Entered nowhere 0)) is (record { entry = nothing; is_entry = λ r lt. refl; is_filled = λ r lt. refl; begins = writes_check; enters = λ n q σ at place. cc })
writes_in_order (suc f) g e = cc

-- ---- without DECREF the text is left behind
-- one reference is owned through a variable that is not empty
kept_on : (◌≡◌ {A = ℕ} 1 0) ⊎ (false ≡ true) → ⊥
kept_on h = ⊎_elim (λ (e : ◌≡◌ {A = ℕ} 1 0). omega (arith, e)) (λ e. cc) h

-- none is owned through one that is returned
owes : (k : ℕ) (b : Bool) → k ≡ 0 → b ≡ false → (k ≡ 1) ⊎ (b ≡ true) → ⊥
owes k b none filled h =
    ⊎_elim (λ (e : k ≡ 1). omega (arith, e, none)) (λ e. let both : true ≡ false = sym e ∙ filled in cc) h

abbrev leaks : List Line
leaks = making ∷ writing ∷ leaving

leaks_ends : ended (code_of [] leaks) ≡ Some (Faulted fault.Leak)
leaks_ends = refl

leaks_not : (t : Table) → AreInOrder (code_of [] leaks) t → ⊥
leaks_not t order =
    let top = order 0 (module_of leaks) refl in kept_on (top.begins.4.4.2.1.1 0)

-- ---- a function that returns what it was lent, without a reference of its own and with one
abbrev answers : List Line → CFunc
answers lines = record { name = codes "f"; ret = Object; params = 1; vars = (codes "r_s", Object) ∷ []; lines = lines }

abbrev calls : List Line
calls =
    making ∷ Call (Some 2) (codes "CPyDef_f") (arg.Var 0 ∷ []) ∷ Dec 0 ∷ Dec 2 ∷ leaving

abbrev lends : Code
lends = code_of (answers (Turn ∷ Return 0 ∷ []) ∷ []) calls

lends_ends : ended lends ≡ Some (Faulted fault.NotOwned)
lends_ends = refl

lends_not : (t : Table) → AreInOrder lends t → ⊥
lends_not t order =
    let f = order 0 (answers (Turn ∷ Return 0 ∷ [])) refl in
    owes (f.entry.owns 0) (f.entry.empty 0) (f.is_entry 0 (omega arith)) (f.is_filled 0 (omega arith)) (f.begins.1 0)

abbrev shares : Code
shares = code_of (answers (Turn ∷ Inc 0 ∷ Return 0 ∷ []) ∷ []) calls

shares_ends : ended shares ≡ Some (Ended Done)
shares_ends = refl

-- the parameter is lent
abbrev parameter : Shares
parameter = record { owns = λ r. 0; lent = λ r. true; held = λ r. false; empty = λ r. false }

one_owned : (r : ℕ) → put 0 1 (λ r. 0) r ≡ same 0 r
one_owned zero = refl
one_owned (suc r) = refl

answers_check : Checks shares (answers (Turn ∷ Inc 0 ∷ Return 0 ∷ [])) (Entered nowhere 0) Any parameter (Turn ∷ Inc 0 ∷ Return 0 ∷ [])
answers_check = (inl (inr (inl refl)), (λ e. e, λ r. inl (one_owned r)))

-- when both texts are given up
abbrev after_call : ℕ → ℕ
after_call = put 1 0 (put 2 0 (put 0 0 (put 2 1 (put 0 1 (λ r. 0)))))

none_owned : (r : ℕ) → after_call r ≡ 0
none_owned zero = refl
none_owned (suc zero) = refl
none_owned (suc (suc zero)) = refl
none_owned (suc (suc (suc r))) = refl

calls_check : Checks shares (module_of calls) (Entered nowhere 1) Any nothing calls
calls_check =
    ((tt, tt), tt, (omega arith, λ e. cc), inl refl, ((inl (omega arith), tt), (omega arith, λ e. cc), inl refl, (inl (omega arith), (inl (omega arith), (omega arith, inl refl, (unowned, (λ e. refl, λ r. inl (none_owned r))))))))

shares_in_order : AreInOrder shares nowhere
shares_in_order zero g e =
    let is : answers (Turn ∷ Inc 0 ∷ Return 0 ∷ []) ≡ g = cc in
    subst (IsInOrder shares (Entered nowhere 0)) is (record { entry = parameter; is_entry = λ r lt. refl; is_filled = λ r lt. refl; begins = answers_check; enters = λ n q σ at place. cc })
shares_in_order (suc zero) g e =
    let is : module_of calls ≡ g = cc in
    subst (IsInOrder shares (Entered nowhere 1)) is (record { entry = nothing; is_entry = λ r lt. refl; is_filled = λ r lt. refl; begins = calls_check; enters = λ n q σ at place. cc })
shares_in_order (suc (suc f)) g e = cc

-- ---- a read of a global that is unset fails: its target owns one reference where it holds an object, and none on the error side
abbrev reads : List Line
reads =
    Call (Some 0) (codes "CPyGlobal_Get") (arg.Global (codes "a") ∷ []) ∷ IfError 0 0 1 ∷ Label ∷ Lit 1 (Number (pos 2)) ∷ Return 1
    ∷ Label ∷ Dec 0 ∷ leaving

abbrev one_read : Shares
one_read = with_share 0 1 false nothing

abbrev forks : Table
forks zero zero = Some (with_share 0 0 false one_read)
forks zero (suc zero) = Some one_read
forks f n = None

reads_ends : ended (code_of [] reads) ≡ Some (Ended (Raised (not_defined (codes "a"))))
reads_ends = refl

reads_check : Checks (code_of [] reads) (module_of reads) (Entered forks 0) Any nothing reads
reads_check =
    ((tt, tt), tt, (omega arith, λ e. cc), inl refl, ((unowned, (with_share 0 0 false one_read, refl, within_self (with_share 0 0 false one_read))), (one_read, refl, within_self one_read)))

failed_check : Checks (code_of [] reads) (module_of reads) (Entered forks 0) Any (with_share 0 0 false one_read) (from 2 reads)
failed_check =
    (omega arith, inl refl, (unowned, (λ e. refl, λ r. inl (still 1 (put 0 0 (put 0 1 (λ r. 0))) (lost 0 (λ r. 0) (λ r. refl)) r))))

read_check : Checks (code_of [] reads) (module_of reads) (Entered forks 0) Any one_read (from 5 reads)
read_check =
    (inl (omega arith), (omega arith, inl refl, (unowned, (λ e. refl, λ r. inl (still 1 (put 0 0 (put 0 1 (λ r. 0))) (lost 0 (λ r. 0) (λ r. refl)) r)))))

reads_enter : (n q : ℕ) (σ : Shares) → Entered forks 0 n σ → slice_get (label_places reads) n ≡ Some q → Checks (code_of [] reads) (module_of reads) (Entered forks 0) Any σ (from q reads)
reads_enter zero q σ at place =
    let is : with_share 0 0 false one_read ≡ σ = cc in
    let two : 2 ≡ q = cc in
    subst (λ z. Checks (code_of [] reads) (module_of reads) (Entered forks 0) Any z (from q reads)) is (subst (λ z. Checks (code_of [] reads) (module_of reads) (Entered forks 0) Any (with_share 0 0 false one_read) (from z reads)) two failed_check)
reads_enter (suc zero) q σ at place =
    let is : one_read ≡ σ = cc in
    let five : 5 ≡ q = cc in
    subst (λ z. Checks (code_of [] reads) (module_of reads) (Entered forks 0) Any z (from q reads)) is (subst (λ z. Checks (code_of [] reads) (module_of reads) (Entered forks 0) Any one_read (from z reads)) five read_check)
reads_enter (suc (suc n)) q σ at place = cc

reads_in_order : AreInOrder (code_of [] reads) forks
reads_in_order zero g e =
    let is : module_of reads ≡ g = cc in
    subst (IsInOrder (code_of [] reads) (Entered forks 0)) is (record { entry = nothing; is_entry = λ r lt. refl; is_filled = λ r lt. refl; begins = reads_check; enters = reads_enter })
reads_in_order (suc f) g e = cc

-- what is known before and after: of two shares that are the same at the first variable and at each other one
both_known : (σ τ : Shares) → IsKnownAs (state_of σ 0) (state_of τ 0) → ((r : ℕ) → IsKnownAs (state_of σ (suc r)) (state_of τ (suc r))) → Within σ τ
both_known σ τ first others zero = first
both_known σ τ first others (suc r) = others r

-- no more is known of the others
plain : IsKnownAs unowned unowned
plain = inr (refl, λ t. t, λ t. inl t, refl)

-- ---- each turn gives up what the turn before it made: before the first one the variable is empty
abbrev rounds : List Line
rounds = Lit 0 Null ∷ Goto 0 ∷ Label ∷ Turn ∷ XDec 0 ∷ making ∷ Goto 0 ∷ []

abbrev around : Table
around zero zero = Some one_read
around f n = None

rounds_ends : ended (code_of [] rounds) ≡ Some (Ended Cut)
rounds_ends = refl

rounds_check : Checks (code_of [] rounds) (module_of rounds) (Entered around 0) Any nothing rounds
rounds_check =
    (omega arith, inl refl, (vacant, (one_read, refl, both_known (with_state 0 vacant nothing) one_read (inl refl) (λ r. plain))))

abbrev made_again : Shares
made_again = with_share 0 1 false (unheld_if false (unheld (with_owns 0 0 one_read)))

round_check : Checks (code_of [] rounds) (module_of rounds) (Entered around 0) Any one_read (from 2 rounds)
round_check =
    (inl (omega arith), ((tt, tt), tt, (omega arith, λ e. cc), inl refl, (one_read, refl, both_known made_again one_read (inr (refl, λ t. t, λ t. inl t, refl)) (λ r. plain))))

rounds_enter : (n q : ℕ) (σ : Shares) → Entered around 0 n σ → slice_get (label_places rounds) n ≡ Some q → Checks (code_of [] rounds) (module_of rounds) (Entered around 0) Any σ (from q rounds)
rounds_enter zero q σ at place =
    let is : one_read ≡ σ = cc in
    let two : 2 ≡ q = cc in
    subst (λ z. Checks (code_of [] rounds) (module_of rounds) (Entered around 0) Any z (from q rounds)) is (subst (λ z. Checks (code_of [] rounds) (module_of rounds) (Entered around 0) Any one_read (from z rounds)) two round_check)
rounds_enter (suc n) q σ at place = cc

rounds_in_order : AreInOrder (code_of [] rounds) around
rounds_in_order zero g e =
    let is : module_of rounds ≡ g = cc in
    subst (IsInOrder (code_of [] rounds) (Entered around 0)) is (record { entry = nothing; is_entry = λ r lt. refl; is_filled = λ r lt. refl; begins = rounds_check; enters = rounds_enter })
rounds_in_order (suc f) g e = cc

-- ---- shares at every place of a code: before the text is made, while it is owned, when it is given up, with the literal
abbrev given_up : Shares
given_up = with_share 0 0 false one_read

abbrev by_place : Table
by_place zero zero = Some nothing
by_place zero (suc zero) = Some one_read
by_place zero (suc (suc zero)) = Some one_read
by_place zero (suc (suc (suc zero))) = Some given_up
by_place zero (suc (suc (suc (suc zero)))) = Some (with_share 1 0 false given_up)
by_place f p = None

-- a line at a place leads from shares to those of the next place
abbrev Leads : ℕ → Line → Shares → Type 0
Leads p l σ =
    LineChecks (code_of [] writes) (module_of writes) (Entered (labels_of (code_of [] writes) by_place) 0) σ l (λ τ. (ρ : Shares) × (by_place 0 (p + 1) ≡ Some ρ) × Within τ ρ)

leads : (p : ℕ) (l k : Line) (σ τ : Shares) → Some τ ≡ Some σ → Some k ≡ Some l → Leads p k τ → Leads p l σ
leads p l k σ τ at here h =
    let same_shares : τ ≡ σ = cc in
    let same_line : k ≡ l = cc in
    subst (λ z. Leads p z σ) same_line (subst (Leads p k) same_shares h)

given_once : (r : ℕ) → given_up.owns r ≡ 0
given_once = lost 0 (λ r. 0) (λ r. refl)

made_still : Within (with_share 0 1 false (unheld_if false nothing)) one_read
made_still = both_known (with_share 0 1 false (unheld_if false nothing)) one_read (inr (refl, λ t. t, λ t. inl t, refl)) (λ r. plain)

read_still : Within (unheld_if false one_read) one_read
read_still = both_known (unheld_if false one_read) one_read (inr (refl, λ t. t, λ t. inl t, refl)) (λ r. plain)

up_still : Within (unheld (with_owns 0 0 one_read)) given_up
up_still = both_known (unheld (with_owns 0 0 one_read)) given_up plain (λ r. plain)

writes_line : (p : ℕ) (l : Line) (σ : Shares) → by_place 0 p ≡ Some σ → slice_get writes p ≡ Some l → Leads p l σ
writes_line zero l σ at here =
    leads 0 l making σ nothing at here ((tt, tt), tt, (omega arith, λ e. cc), inl refl, (one_read, refl, made_still))
writes_line (suc zero) l σ at here =
    leads 1 l writing σ one_read at here ((inl (inl (omega arith)), tt), refl, refl, tt, (one_read, refl, read_still))
writes_line (suc (suc zero)) l σ at here =
    leads 2 l (Dec 0) σ one_read at here (inl (omega arith), (given_up, refl, up_still))
writes_line (suc (suc (suc zero))) l σ at here =
    leads 3 l (Lit 1 (Number (pos 1))) σ given_up at here (omega arith, inl refl, (unowned, (with_share 1 0 false given_up, refl, within_self (with_share 1 0 false given_up))))
writes_line (suc (suc (suc (suc zero)))) l σ at here =
    leads 4 l (Return 1) σ (with_share 1 0 false given_up) at here (λ e. refl, λ r. inl (still 1 (put 0 0 (put 0 1 (λ r. 0))) given_once r))
writes_line (suc (suc (suc (suc (suc p))))) l σ at here = cc

writes_placed : ArePlaced (code_of [] writes) by_place
writes_placed zero g e =
    let is : module_of writes ≡ g = cc in
    subst (IsPlaced (code_of [] writes) by_place 0) is (record { entry = nothing; is_entry = λ r lt. refl; is_filled = λ r lt. refl; begins = refl; line = writes_line })
writes_placed (suc f) g e = cc

-- ---- objects: a class with one attribute, a number, and one method
abbrev objects_of : List Line → CFunc
objects_of lines = record { name = []; ret = Char; params = 0; vars = (codes "t_0", Object) ∷ (codes "t_1", Char) ∷ (codes "t_2", Object) ∷ (codes "t_3", Tagged) ∷ (codes "t_4", Int64) ∷ (codes "t_5", Object) ∷ []; lines = lines }

abbrev classed : List Line → List Line → Code
classed method lines = record { globals = []; classes = record { name = codes "K"; attrs = (codes "n", Int64) ∷ []; methods = codes "f" ∷ []; traits = [] } ∷ []; funcs = answers method ∷ objects_of lines ∷ [] }

-- a method that returns its object with a reference of its own
abbrev itself : List Line
itself = Turn ∷ Inc 0 ∷ Return 0 ∷ []

itself_check : (lines : List Line) → Checks (classed itself lines) (answers itself) (Entered nowhere 0) Any parameter itself
itself_check lines = (inl (inr (inl refl)), (λ e. e, λ r. inl (one_owned r)))

classed_in_order : (lines : List Line) → Checks (classed itself lines) (objects_of lines) (Entered nowhere 1) Any nothing lines → AreInOrder (classed itself lines) nowhere
classed_in_order lines checks zero g e =
    let is : answers itself ≡ g = cc in
    subst (IsInOrder (classed itself lines) (Entered nowhere 0)) is (record { entry = parameter; is_entry = λ r lt. refl; is_filled = λ r lt. refl; begins = itself_check lines; enters = λ n q σ at place. cc })
classed_in_order lines checks (suc zero) g e =
    let is : objects_of lines ≡ g = cc in
    subst (IsInOrder (classed itself lines) (Entered nowhere 1)) is (record { entry = nothing; is_entry = λ r lt. refl; is_filled = λ r lt. refl; begins = checks; enters = λ n q σ at place. cc })
classed_in_order lines checks (suc (suc f)) g e = cc

-- nothing is owned through the five variables
five : (k : ℕ → ℕ) → k 0 ≡ 0 → k 1 ≡ 0 → k 2 ≡ 0 → k 3 ≡ 0 → k 4 ≡ 0 → ((r : ℕ) → k (suc (suc (suc (suc (suc r))))) ≡ 0) → (r : ℕ) → k r ≡ 0
five k a b c d e f zero = a
five k a b c d e f (suc zero) = b
five k a b c d e f (suc (suc zero)) = c
five k a b c d e f (suc (suc (suc zero))) = d
five k a b c d e f (suc (suc (suc (suc zero)))) = e
five k a b c d e f (suc (suc (suc (suc (suc r))))) = f r

-- and through one more
six : (k : ℕ → ℕ) → k 0 ≡ 0 → k 1 ≡ 0 → k 2 ≡ 0 → k 3 ≡ 0 → k 4 ≡ 0 → k 5 ≡ 0 → ((r : ℕ) → k (suc (suc (suc (suc (suc (suc r)))))) ≡ 0) → (r : ℕ) → k r ≡ 0
six k a b c d e f g = five k a b c d e (λ r. by r)
  where
    by : (r : ℕ) → k (suc (suc (suc (suc (suc r))))) ≡ 0
    by zero = f
    by (suc r) = g r

-- so each of them owns nothing, or is empty
clear_five : (k : ℕ → ℕ) (m : ℕ → Bool) → k 0 ≡ 0 → k 1 ≡ 0 → k 2 ≡ 0 → k 3 ≡ 0 → k 4 ≡ 0 → ((r : ℕ) → k (suc (suc (suc (suc (suc r))))) ≡ 0) → (r : ℕ) → (k r ≡ 0) ⊎ (m r ≡ true)
clear_five k m a b c d e f r = inl (five k a b c d e f r)

clear_six : (k : ℕ → ℕ) (m : ℕ → Bool) → k 0 ≡ 0 → k 1 ≡ 0 → k 2 ≡ 0 → k 3 ≡ 0 → k 4 ≡ 0 → k 5 ≡ 0 → ((r : ℕ) → k (suc (suc (suc (suc (suc (suc r)))))) ≡ 0) → (r : ℕ) → (k r ≡ 0) ⊎ (m r ≡ true)
clear_six k m a b c d e f g r = inl (six k a b c d e f g r)

-- ---- an item of a list is lent, and nothing more is done with it
abbrev lending : List Line
lending =
    Call (Some 0) (codes "CPyList_New") [] ∷ Call (Some 2) (codes "CPyStr_Literal") (arg.Text (codes "x") ∷ [])
    ∷ Call None (codes "CPyList_Append") (arg.Var 0 ∷ arg.Var 2 ∷ []) ∷ Lit 3 (Number (pos 0))
    ∷ Call (Some 2) (codes "CPyList_GetItemBorrow") (arg.Var 0 ∷ arg.Var 3 ∷ []) ∷ []

abbrev borrows : List Line
borrows = lending ++ Dec 0 ∷ leaving

borrows_ends : ended (classed itself borrows) ≡ Some (Ended Done)
borrows_ends = refl

borrows_check : Checks (classed itself borrows) (objects_of borrows) (Entered nowhere 1) Any nothing borrows
borrows_check =
    (tt, tt, (omega arith, λ e. cc), inl refl, ((tt, tt), tt, (omega arith, λ e. cc), inl refl, ((inl (inl (omega arith)), (inl (omega arith), tt)), refl, refl, tt, (omega arith, inl refl, (borrowed, ((inl (inl (omega arith)), (inl (inr (inl refl)), tt)), tt, (omega arith, λ e. cc), inl refl, (inl (omega arith), (omega arith, inl refl, (unowned, (λ e. refl, clear_five _ _ refl refl refl refl refl (λ r. refl)))))))))))

borrows_in_order : AreInOrder (classed itself borrows) nowhere
borrows_in_order = classed_in_order borrows borrows_check

-- it is used while the list holds it
abbrev showing : ℕ → Line
showing x = Call None (codes "CPy_Write") (arg.Var x ∷ [])

abbrev uses : List Line
uses = lending ++ showing 2 ∷ Dec 0 ∷ leaving

uses_ends : ended (classed itself uses) ≡ Some (Ended Done)
uses_ends = refl

uses_check : Checks (classed itself uses) (objects_of uses) (Entered nowhere 1) Any nothing uses
uses_check =
    (tt, tt, (omega arith, λ e. cc), inl refl, ((tt, tt), tt, (omega arith, λ e. cc), inl refl, ((inl (inl (omega arith)), (inl (omega arith), tt)), refl, refl, tt, (omega arith, inl refl, (borrowed, ((inl (inl (omega arith)), (inl (inr (inl refl)), tt)), tt, (omega arith, λ e. cc), inl refl, ((inr refl, tt), refl, refl, tt, (inl (omega arith), (omega arith, inl refl, (unowned, (λ e. refl, clear_five _ _ refl refl refl refl refl (λ r. refl))))))))))))

uses_in_order : AreInOrder (classed itself uses) nowhere
uses_in_order = classed_in_order uses uses_check

-- a reference of its own outlives the list
abbrev takes : List Line
takes = lending ++ Inc 2 ∷ Dec 0 ∷ showing 2 ∷ Dec 2 ∷ leaving

takes_ends : ended (classed itself takes) ≡ Some (Ended Done)
takes_ends = refl

takes_check : Checks (classed itself takes) (objects_of takes) (Entered nowhere 1) Any nothing takes
takes_check =
    (tt, tt, (omega arith, λ e. cc), inl refl, ((tt, tt), tt, (omega arith, λ e. cc), inl refl, ((inl (inl (omega arith)), (inl (omega arith), tt)), refl, refl, tt, (omega arith, inl refl, (borrowed, ((inl (inl (omega arith)), (inl (inr (inl refl)), tt)), tt, (omega arith, λ e. cc), inl refl, (inr refl, (inl (omega arith), ((inl (inl (omega arith)), tt), refl, refl, tt, (inl (omega arith), (omega arith, inl refl, (unowned, (λ e. refl, clear_five _ _ refl refl refl refl refl (λ r. refl))))))))))))))

takes_in_order : AreInOrder (classed itself takes) nowhere
takes_in_order = classed_in_order takes takes_check

-- another variable takes it over without a reference
abbrev moves : List Line
moves = lending ++ Move 5 2 ∷ showing 5 ∷ Dec 0 ∷ leaving

moves_ends : ended (classed itself moves) ≡ Some (Ended Done)
moves_ends = refl

moves_check : Checks (classed itself moves) (objects_of moves) (Entered nowhere 1) Any nothing moves
moves_check =
    (tt, tt, (omega arith, λ e. cc), inl refl, ((tt, tt), tt, (omega arith, λ e. cc), inl refl, ((inl (inl (omega arith)), (inl (omega arith), tt)), refl, refl, tt, (omega arith, inl refl, (borrowed, ((inl (inl (omega arith)), (inl (inr (inl refl)), tt)), tt, (omega arith, λ e. cc), inl refl, ((omega arith, λ e. cc), inr (inr (inl (inr refl, inl refl, ((inr refl, tt), refl, refl, tt, (inl (omega arith), (omega arith, inl refl, (unowned, (λ e. refl, clear_six _ _ refl refl refl refl refl refl (λ r. refl))))))))))))))))

moves_in_order : AreInOrder (classed itself moves) nowhere
moves_in_order = classed_in_order moves moves_check

-- what is neither owned nor empty nor a number; what is not lent either; and what is not held either
ungivable : (1 ≤ 0) ⊎ ((true ≡ false) ⊎ (false ≡ true)) → ⊥
ungivable u =
    ⊎_elim (λ (le : 1 ≤ 0). omega (arith, le)) (λ (n : (true ≡ false) ⊎ (false ≡ true)). ⊎_elim (λ e. cc) (λ e. cc) n) u

unusable : (1 ≤ 0) ⊎ ((false ≡ true) ⊎ ((true ≡ false) ⊎ (false ≡ true))) → ⊥
unusable u =
    ⊎_elim
    (λ (le : 1 ≤ 0). omega (arith, le))
    (λ (l : (false ≡ true) ⊎ ((true ≡ false) ⊎ (false ≡ true))). ⊎_elim (λ e. cc) (λ (n : (true ≡ false) ⊎ (false ≡ true)). ungivable (inr n)) l)
    u

away : ((1 ≤ 0) ⊎ ((false ≡ true) ⊎ ((true ≡ false) ⊎ (false ≡ true)))) ⊎ (false ≡ true) → ⊥
away u =
    ⊎_elim (λ (v : (1 ≤ 0) ⊎ ((false ≡ true) ⊎ ((true ≡ false) ⊎ (false ≡ true)))). unusable v) (λ e. cc) u

-- it is not used behind a row that takes something out of a content, though it may still be there
abbrev pops : List Line
pops = lending ++ Call (Some 5) (codes "CPyList_Pop") (arg.Var 0 ∷ []) ∷ showing 2 ∷ Dec 5 ∷ Dec 0 ∷ leaving

pops_ends : ended (classed itself pops) ≡ Some (Ended Done)
pops_ends = refl

pops_not : (t : Table) → AreInOrder (classed itself pops) t → ⊥
pops_not t order =
    let top = order 1 (objects_of pops) refl in away top.begins.4.4.4.2.1.4.4.0.0

-- nor where its list was given up
abbrev outlives : List Line
outlives = lending ++ Dec 0 ∷ showing 2 ∷ leaving

outlives_ends : ended (classed itself outlives) ≡ Some (Faulted fault.Dead)
outlives_ends = refl

outlives_not : (t : Table) → AreInOrder (classed itself outlives) t → ⊥
outlives_not t order =
    let top = order 1 (objects_of outlives) refl in away top.begins.4.4.4.2.1.4.1.0.0

-- nor behind a call
abbrev asking : ℕ → Line
asking x = Call (Some 5) (codes "CPyDef_f") (arg.Var x ∷ [])

abbrev waits : List Line
waits = lending ++ asking 0 ∷ showing 2 ∷ Dec 5 ∷ Dec 0 ∷ leaving

waits_ends : ended (classed itself waits) ≡ Some (Ended Done)
waits_ends = refl

waits_not : (t : Table) → AreInOrder (classed itself waits) t → ⊥
waits_not t order =
    let top = order 1 (objects_of waits) refl in away top.begins.4.4.4.2.1.4.3.0.0

-- and it is not passed to a function
abbrev passes : List Line
passes = lending ++ asking 2 ∷ Dec 5 ∷ Dec 0 ∷ leaving

passes_ends : ended (classed itself passes) ≡ Some (Ended Done)
passes_ends = refl

passes_not : (t : Table) → AreInOrder (classed itself passes) t → ⊥
passes_not t order =
    let top = order 1 (objects_of passes) refl in unusable top.begins.4.4.4.2.1.4.0.0

-- nor returned
abbrev part : List Line
part = Turn ∷ Call (Some 0) (codes "CPyTuple_GetItemBorrow") (arg.Var 0 ∷ arg.Number (pos 0) ∷ []) ∷ Return 0 ∷ []

abbrev parts : List Line
parts =
    Call (Some 0) (codes "CPyStr_Literal") (arg.Text (codes "x") ∷ []) ∷ Call (Some 2) (codes "CPyTuple_Pack") (arg.Var 0 ∷ [])
    ∷ asking 2 ∷ Dec 5 ∷ Dec 2 ∷ leaving

parts_ends : ended (classed part parts) ≡ Some (Faulted fault.NotOwned)
parts_ends = refl

parts_not : (t : Table) → AreInOrder (classed part parts) t → ⊥
parts_not t order =
    let f = order 0 (answers part) refl in owes 0 false refl refl (f.begins.4.1 0)

-- and it is not given up
abbrev drops : List Line
drops = lending ++ Dec 2 ∷ Dec 0 ∷ leaving

drops_ends : ended (classed itself drops) ≡ Some (Faulted fault.NotOwned)
drops_ends = refl

drops_not : (t : Table) → AreInOrder (classed itself drops) t → ⊥
drops_not t order =
    let top = order 1 (objects_of drops) refl in ungivable top.begins.4.4.4.2.1.4.0

-- ---- an attribute of numbers is read into a number
abbrev setting : List Line
setting =
    Call (Some 0) (codes "CPyInstance_New") (arg.Class (codes "K") ∷ []) ∷ Lit 4 (Number (pos 5))
    ∷ Call None (codes "CPyAttr_Set") (arg.Var 0 ∷ arg.Number (pos 0) ∷ arg.Var 4 ∷ []) ∷ []

abbrev gets : List Line
gets = setting ++ Call (Some 4) (codes "CPyAttr_Get") (arg.Var 0 ∷ arg.Number (pos 0) ∷ []) ∷ Dec 0 ∷ leaving

gets_ends : ended (classed itself gets) ≡ Some (Ended Done)
gets_ends = refl

gets_check : Checks (classed itself gets) (objects_of gets) (Entered nowhere 1) Any nothing gets
gets_check =
    ((tt, tt), tt, (omega arith, λ e. cc), inl refl, (omega arith, inl refl, (unowned, ((inl (inl (omega arith)), (tt, (inr (inl refl), tt))), refl, refl, tt, ((inl (inl (omega arith)), (tt, tt)), tt, (omega arith, λ e. refl), inl refl, (inl (omega arith), (omega arith, inl refl, (unowned, (λ e. refl, clear_five _ _ refl refl refl refl refl (λ r. refl))))))))))

gets_in_order : AreInOrder (classed itself gets) nowhere
gets_in_order = classed_in_order gets gets_check

-- into an object it is not: the kind of the slot is tested
abbrev mistakes : List Line
mistakes = setting ++ Call (Some 2) (codes "CPyAttr_Get") (arg.Var 0 ∷ arg.Number (pos 0) ∷ []) ∷ Dec 2 ∷ Dec 0 ∷ leaving

mistakes_ends : ended (classed itself mistakes) ≡ Some (Faulted fault.Kind)
mistakes_ends = refl

-- ---- a method is lent its object, and its result is owned
abbrev asks : List Line
asks = Call (Some 0) (codes "CPyInstance_New") (arg.Class (codes "K") ∷ []) ∷ Virtual 2 0 0 [] ∷ Dec 0 ∷ Dec 2 ∷ leaving

asks_ends : ended (classed itself asks) ≡ Some (Ended Done)
asks_ends = refl

asks_check : Checks (classed itself asks) (objects_of asks) (Entered nowhere 1) Any nothing asks
asks_check =
    ((tt, tt), tt, (omega arith, λ e. cc), inl refl, ((inl (omega arith), tt), omega arith, inl refl, (inl (omega arith), (inl (omega arith), (omega arith, inl refl, (unowned, (λ e. refl, clear_five _ _ refl refl refl refl refl (λ r. refl))))))))

asks_in_order : AreInOrder (classed itself asks) nowhere
asks_in_order = classed_in_order asks asks_check

-- a method that returns what it is lent
abbrev hands : List Line
hands = Turn ∷ Return 0 ∷ []

hands_ends : ended (classed hands asks) ≡ Some (Faulted fault.NotOwned)
hands_ends = refl

hands_not : (t : Table) → AreInOrder (classed hands asks) t → ⊥
hands_not t order =
    let f = order 0 (answers hands) refl in
    owes (f.entry.owns 0) (f.entry.empty 0) (f.is_entry 0 (omega arith)) (f.is_filled 0 (omega arith)) (f.begins.1 0)

-- a result that is left behind
abbrev forgets : List Line
forgets = Call (Some 0) (codes "CPyInstance_New") (arg.Class (codes "K") ∷ []) ∷ Virtual 2 0 0 [] ∷ Dec 0 ∷ leaving

forgets_ends : ended (classed itself forgets) ≡ Some (Faulted fault.Leak)
forgets_ends = refl

forgets_not : (t : Table) → AreInOrder (classed itself forgets) t → ⊥
forgets_not t order =
    let top = order 1 (objects_of forgets) refl in kept_on (top.begins.4.3.1.2.1.1 2)
