-- Code that counts does what is said of it, and a value in a register is bound to a variable.
use Rattle.ir_builder_statements.proofs.Common.{◌≡◌, ℕ, ◌+◌, ◌<◌, true, false, List, [], ◌∷◌, length, Option, Some, None, refl, sym, ap, ◌∙◌, subst, arith, pos, Bool, Ok, Err, Value, State, Gives, Reg, Building, Extends, rtype_of, HasType, Shows, Attempts, Pushes, room_on, extends_trans, type_kept, has_less, Move, Holds}
use Rattle.std.specs.Prelude.{ℤ, negsuc, ◌+ℤ◌, cond, FitsSigned, ◌≢◌}
use Rattle.std.specs.Int.{w64}
use Rattle.std.proofs.lemmas.Int.{int_wrap_fits}
use Rattle.std.proofs.lemmas.Bool.Decides.{nat_tests}
use Rattle.value_core.specs.Arithmetic.{lies_within}
use Rattle.value_core.specs.declared.arith.Arith.TheVariants.{Overflow}
use Rattle.value_core.specs.Value.{IntVal}
use Rattle.py_syntax.specs.declared.expression.BinOp.TheVariants.{Add}
use Rattle.py_typed.specs.Sorts as sort
use Rattle.source_meaning.specs.Operations.{arithmetic, number_of, past_range}
use Rattle.ir_core.specs.declared.code.Program.{Program}
use Rattle.ir_core.specs.declared.code.RType.{RType}
use Rattle.ir_core.specs.declared.code.RType.TheVariants.{Int, I64, Bool as BoolReg, Ref}
use Rattle.ir_core.specs.Effects.{World}
use Rattle.ir_core.specs.Meaning.{Waiting, Strict, is_refused}
use Rattle.ir_core.specs.Registers.{Regs, put}
use Rattle.ir_core.proofs.StepLemmas.{move_step, put_same, put_other}
use Rattle.ir_builder_frames.specs.Calling.{Declares}
use Rattle.ir_builder_frames.specs.Coming.{world, running, Leads}
use Rattle.ir_builder_frames.specs.Computing.{Makes, HaveTypes}
use Rattle.ir_builder_frames.specs.Matching.{HasKind, Matches}
use Rattle.ir_builder_frames.specs.Operands.{ActsOnAll}
use Rattle.ir_builder_frames.specs.Placing.{Has}
use Rattle.ir_builder_frames.proofs.ComingLemmas.{leads_step, leads_trans, leads_as}
use Rattle.ir_builder_frames.proofs.HeldLemmas.{type_has, type_below, pushes_has, placed_part}
use Rattle.ir_builder_frames.proofs.MatchLemmas.{match_kept}
use Rattle.ir_builder_operations.specs.declared.operation.Operation.{Operation}
use Rattle.ir_builder_operations.specs.Operating.{ActsOnTwo}
use Rattle.ir_builder_operations.specs.Rows.{is_known, operands_of, result_of, goes, compares, tested}
use Rattle.ir_builder_operations.specs.declared.operation.Test.TheVariants.{Less}
use Rattle.ir_builder_operations.proofs.PartLemmas.{as_two}
use Rattle.ir_builder_operations.proofs.NativeLemmas.{arithmetic_is}
use Rattle.ir_builder_statements.specs.declared.counting.Counter.{Counter}
use Rattle.ir_builder_statements.specs.Counting.{number_sort, is_in_range, adding_of, less_of, Copies, FindsLess, CountsOn, HasCounter}

-- ---- copies

value_kept : (t : RType) (v : Value) → is_refused Strict t (Holds v) ≡ false
value_kept Int v = refl
value_kept I64 v = refl
value_kept BoolReg v = refl
value_kept Ref v = refl

-- a value is moved to a register of its type
moves : {line : ℕ} (b c : Building) (q r : Reg) (t : RType) → Pushes b c (Move q r) line → HasType b q.0 t → HasType b r.0 t → (p : Program) (fn : ℕ) → Has p fn c → (regs : Regs) (below : List Waiting) (w : World) (v : Value) → regs r.0 ≡ Holds v → Leads p (running fn (length b.blocks) (length b.ops) regs below w) (running fn (length c.blocks) (length c.ops) (put regs q.0 (Holds v)) below w)
moves b c q r t move to from p fn has regs below w v is =
    let old = has_less p fn b c move.extends has in
    let free : is_refused Strict t (regs r.0) ≡ false = ap (is_refused Strict t) is ∙ value_kept t v in
    let step = move_step Strict p (record { fn = fn; block = length b.blocks; place = length b.ops; regs = regs }) below w q r t t (pushes_has p fn b c _ move has) (type_has p fn b q.0 t old to) (type_has p fn b r.0 t old from) free in
    let there : running fn (length b.blocks) (length b.ops + 1) (put regs q.0 (regs r.0)) below w ≡ running fn (length c.blocks) (length c.ops) (put regs q.0 (Holds v)) below w = rw (move.blocks, move.ops, is) refl in
    leads_step p _ _ (step ∙ there)

pub copy_fits : (b c : Building) (x r : ℕ) (t : RType) → HasType b x t → Declares b c r t → (u : RType) × HasType c r u × HasType c x u
copy_fits b c x r t type new = (t, new.type, type_kept b c x t new.extends type)

pub copy_makes : {line : ℕ} (b c d : Building) (x r : Reg) (t : RType) → HasType b x.0 t → Declares b c r.0 t → Pushes c d (Move r x) line → Makes b d r.0 t (Copies x.0)
copy_makes b c d x r t type new move = record {
  extends = extends_trans b c d new.extends move.extends;
  type = type_kept c d r.0 t move.extends new.type;
  above = let z = new.made in omega arith;
  blocks = move.blocks ∙ new.blocks;
  runs = λ p fn has regs below s h f.
      let P : ℕ → ℕ → Type 0 = λ k i. Leads p (running fn k i regs below (world None s)) (running fn (length d.blocks) (length d.ops) (put regs r.0 (Holds f.0)) below (world None s)) in
      let go = moves c d r x t move new.type (type_kept b c x.0 t new.extends type) p fn has regs below (world None s) f.0 f.1 in
      (put regs r.0 (Holds f.0), subst (λ k. P k (length b.ops)) new.blocks (subst (P (length c.blocks)) new.ops go), put_same regs r.0 (Holds f.0) ∙ sym f.2, λ j lt. put_other regs r.0 j (Holds f.0) (let z = new.made in λ e. omega arith));
}

-- ---- numbers

pub number_kind : (n : Bool) (k : ℤ) → is_in_range (number_sort n) k ≡ true → HasKind (number_sort n) (IntVal k)
number_kind true k e = (k, refl, e)
number_kind false k e = (k, refl)

native_fits : (n : ℤ) → lies_within 63 n ≡ true → FitsSigned w64 n
native_fits (pos n) e = record { sfits = grind (arith, nat_tests, e) }
native_fits (negsuc n) e = record { sfits = grind (arith, nat_tests, e) }

next_is : (n : Bool) (k : ℤ) (s : State) → is_in_range (number_sort n) k ≡ true → is_in_range (number_sort n) (k +ℤ pos 1) ≡ true → arithmetic (number_sort n) Add (IntVal k) (IntVal (pos 1)) s ≡ Gives (IntVal (k +ℤ pos 1)) s
next_is true k s e f = arithmetic_is Add k (pos 1) s e refl ∙ ap (λ z. Gives (IntVal z) s) (int_wrap_fits w64 (k +ℤ pos 1) (native_fits (k +ℤ pos 1) f))
next_is false k s e f = ap (λ b. number_of past_range (cond b (Ok (k +ℤ pos 1)) (Err Overflow)) s) f

one_in : (n : Bool) → is_in_range (number_sort n) (pos 1) ≡ true
one_in true = refl
one_in false = refl

pub zero_in : (n : Bool) → is_in_range (number_sort n) (pos 0) ≡ true
zero_in true = refl
zero_in false = refl

-- ---- operations

module _ (n : Bool) (op : Operation) (b : Building) (x y : Reg) where
  pub less_known : op ≡ less_of n → is_known op ≡ true
  less_known is = subst (λ z. is_known z ≡ true) (sym is) (by n)
    where
      by : (n : Bool) → is_known (less_of n) ≡ true
      by true = refl
      by false = refl

  pub less_takes : op ≡ less_of n → HasType b x.0 (rtype_of (number_sort n)) → HasType b y.0 (rtype_of (number_sort n)) → HaveTypes b.regs (operands_of op) (x ∷ y ∷ [])
  less_takes is f g = subst (λ z. HaveTypes b.regs (operands_of z) (x ∷ y ∷ [])) (sym is) (by n f g)
    where
      by : (n : Bool) → HasType b x.0 (rtype_of (number_sort n)) → HasType b y.0 (rtype_of (number_sort n)) → HaveTypes b.regs (operands_of (less_of n)) (x ∷ y ∷ [])
      by true f g = (f, (g, tt))
      by false f g = (f, (g, tt))

  pub adding_known : op ≡ adding_of n → is_known op ≡ true
  adding_known is = subst (λ z. is_known z ≡ true) (sym is) (by n)
    where
      by : (n : Bool) → is_known (adding_of n) ≡ true
      by true = refl
      by false = refl

  pub adding_takes : op ≡ adding_of n → HasType b x.0 (rtype_of (number_sort n)) → HasType b y.0 (rtype_of (number_sort n)) → HaveTypes b.regs (operands_of op) (x ∷ y ∷ [])
  adding_takes is f g = subst (λ z. HaveTypes b.regs (operands_of z) (x ∷ y ∷ [])) (sym is) (by n f g)
    where
      by : (n : Bool) → HasType b x.0 (rtype_of (number_sort n)) → HasType b y.0 (rtype_of (number_sort n)) → HaveTypes b.regs (operands_of (adding_of n)) (x ∷ y ∷ [])
      by true f g = (f, (g, tt))
      by false f g = (f, (g, tt))

  abbrev Done : Building → ℕ → Operation → Type 0
  Done c r z = Attempts (Shows (result_of z)) b c r (rtype_of (result_of z)) (ActsOnAll (operands_of z) (x ∷ y ∷ []) (goes z))

  pub finds_less : (c : Building) (r : ℕ) → op ≡ less_of n → Done c r op → FindsLess (number_sort n) x.0 y.0 b c r
  finds_less c r is a = by n (subst (Done c r) is a)
    where
      by : (n : Bool) → Done c r (less_of n) → FindsLess (number_sort n) x.0 y.0 b c r
      by true a = as_two sort.I64 sort.I64 sort.Bool (compares (tested Less)) b c r x y a
      by false a = as_two sort.Int sort.Int sort.Bool (compares (tested Less)) b c r x y a

  abbrev Adds : Building → ℕ → Bool → Type 0
  Adds c r m = Attempts (Shows (number_sort m)) b c r (rtype_of (number_sort m)) (ActsOnTwo (number_sort m) (number_sort m) x.0 y.0 (arithmetic (number_sort m) Add))

  pub adds : (c : Building) (r : ℕ) → op ≡ adding_of n → Done c r op → Adds c r n
  adds c r is a = by n (subst (Done c r) is a)
    where
      by : (n : Bool) → Done c r (adding_of n) → Adds c r n
      by true a = as_two sort.I64 sort.I64 sort.I64 (arithmetic sort.I64 Add) b c r x y a
      by false a = as_two sort.Int sort.Int sort.Int (arithmetic sort.Int Add) b c r x y a

-- ---- the next number

pub next_counts : {line : ℕ} (n : Bool) (b0 b1 b2 b3 : Building) (q one sum : Reg) → HasType b0 q.0 (rtype_of (number_sort n)) → Makes b0 b1 one.0 (rtype_of (number_sort n)) (λ regs h. h ≡ Holds (IntVal (pos 1))) → Attempts (Shows (number_sort n)) b1 b2 sum.0 (rtype_of (number_sort n)) (ActsOnTwo (number_sort n) (number_sort n) q.0 one.0 (arithmetic (number_sort n) Add)) → Pushes b2 b3 (Move q sum) line → CountsOn (number_sort n) q.0 b0 b3
next_counts n b0 b1 b2 b3 q one sum type made a move =
    let t = number_sort n in
    let x02 = extends_trans b0 b1 b2 made.extends a.extends in
    let x13 = extends_trans b1 b2 b3 a.extends move.extends in
    let g1 = made.extends.regs_grow in let k1 = made.extends.blocks_grow in
    let low = type_below b0 q.0 (rtype_of t) type in
    record {
      extends = extends_trans b0 b1 b3 made.extends x13;
      runs = λ p fn h at x room top there k e f regs below s is match.
          let m = made.runs p fn (has_less p fn b1 b3 x13 at.has) regs below s (Holds (IntVal (pos 1))) refl in
          let match1 : Matches x m.0 s = match_kept x b0 regs m.0 s s room (λ j lt. m.3 j (omega arith)) refl match in
          let v : Value = IntVal (k +ℤ pos 1) in
          let sums = a.runs p fn h (placed_part p fn b0 b1 b2 b3 h k1 move.extends at) x (room_on x b0 b1 made.extends room) m.0 below s match1 (Gives v s) record {
            v = IntVal k;
            left = (m.3 q.0 low ∙ is, number_kind n k e);
            w = IntVal (pos 1);
            right = (m.2, number_kind n (pos 1) (one_in n));
            does = sym (next_is n k s e f);
          } in
          let y = sums.3 in
          let now : Regs = put y.now q.0 (Holds v) in
          let go = moves b2 b3 q sum (rtype_of t) move (type_kept b0 b2 q.0 (rtype_of t) x02 type) a.type p fn at.has y.now below (world None s) v y.shows.0 in
          let others : (j : ℕ) → j < length b0.regs → j ≢ q.0 → now j ≡ regs j = λ j lt ne. put_other y.now q.0 j (Holds v) ne ∙ y.kept j (omega arith) ∙ m.3 j lt in
          (now, leads_trans p _ _ _ m.1 (leads_trans p _ _ _ (leads_as p _ _ _ y.is sums.2) go), put_same y.now q.0 (Holds v), match_kept x b0 regs now s s room (λ j lt. others j (let z = room.top in omega arith) (λ z. omega arith)) refl match, others);
    }

-- the register of a counter stays
pub counter_kept : (c : Option Counter) (b d : Building) → Extends b d → HasCounter c b → HasCounter c d
counter_kept None b d more h = tt
counter_kept (Some c) b d more h = type_kept b d c.reg.0 (rtype_of (number_sort c.native)) more h
