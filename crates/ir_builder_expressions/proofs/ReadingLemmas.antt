-- Reading a variable that may be unset, of the function or of the module.
use Rattle.ir_builder_expressions.proofs.Common.{◌≡◌, ℕ, zero, suc, ◌<◌, ◌≤◌, ◌++◌, true, false, List, [], ◌∷◌, length, Option, Some, None, refl, sym, ap, ◌∙◌, subst, arith, le_refl, slice_get, pos, nat_lt, if◌then◌else◌, codes, nat_tests, Value, BoolVal, UnboundLocalError, Sort, sort as sort_of, State, Gives, Raises, raise_new, Var, Variable, variable, Local, name_at, value_in, read_global, Lit, Prim, PArg, RType, Number, Program, Held, Unset, Holds, Regs, is_error, Building, with_last, held, Extends, Waiting, Strict, away, item_at, handler_at, registers_of, step, op_step, goto_step, error_step, Vars, Adds, Pushes, Closes, Patches, Setting, rtype_of, HasType, Has, Placed, or_other, world, running, Leads, Ends, Arrives, Computes, IsAmong, Surrounding, ReadsGlobal, flag_of, flag_in, Matches, HasRoom, IsThrown, leads_refl, leads_step, leads_trans, ends_of, ends_lead, extends_refl, extends_trans, has_less, type_kept, type_has, pushes_has, adds_has, placed_part, guard_at, thrown_at, reports_unbound, TestsSet, EmitsRead, Takes, TakesLocal, ReadsAs, taken_as, boxed, Reg, Shows, Attempts, ActsOn, attempts_as, stays_as, inl, inr, means_node, Itself}
use Rattle.std.proofs.lemmas.Option.{slice_get-get_or}
use Rattle.std.specs.Prelude.{get_or, map}
use Rattle.c_core.specs.declared.primitive.Primitive.TheVariants as prim
use Rattle.c_core.specs.declared.primitive.GlobalPrim.TheVariants as global
use Rattle.c_core.specs.Step.{unbound}
use Rattle.py_typed.specs.Expressions as tree
use Rattle.ir_core.specs.declared.code.PArg.TheVariants as arg
use Rattle.ir_core.specs.declared.code.Last.TheVariants.{Goto, IfError, Unreachable}
use Rattle.ir_core.specs.declared.code.RType.TheVariants as rtype
use Rattle.ir_core.specs.Items.{Do, End}
use Rattle.py_typed.specs.declared.checked.Checked.{Checked}
use Rattle.ir_builder_frames.specs.declared.frame.Frame.{Frame}
use Rattle.ir_builder_frames.specs.Settings.{setting}
use Rattle.ir_builder_frames.specs.Sound.{MayPatch}
use Rattle.ir_builder_frames.specs.Matching.{Keeps}
use Rattle.ir_builder_frames.proofs.PatchLemmas.{patches}
use Rattle.py_typed.specs.Sorts as sort
use Rattle.ir_builder_operations.specs.Converting.{is_optional}
use Rattle.ir_builder_operations.proofs.BoxLemmas.{taken_itself}
use Rattle.ir_builder_expressions.proofs.FollowLemmas.{part_attempts}
use Rattle.ir_builder_frames.proofs.GlobalLemmas.{get_map, global_computes, global_there}

-- ---- the test

module _ (b0 b1 b2 b3 b4 b5 b6 : Building) (test bad good flag r line : ℕ) (name : List ℕ) (type : HasType b0 flag rtype.Bool) (c01 : Closes b0 b1 (Goto test)) (test_is : test ≡ length b1.blocks) (c12 : Closes b1 b2 Unreachable) (bad_is : bad ≡ length b2.blocks) (q23 : Pushes b2 b3 (reports_unbound name) line) (a34 : Adds b3 b4 r rtype.Bool (Lit record { 0 = r } (Number (pos 0))) line) (x45 : Extends b4 b5) (empty : length b5.ops ≡ 0) (good_is : good ≡ length b5.blocks) (set : b6 ≡ record b5 { blocks = with_last b5.blocks test (IfError (record { 0 = flag }) bad good line) }) where
  x35 : Extends b3 b5
  x35 = extends_trans b3 b4 b5 a34.extends x45

  x25 : Extends b2 b5
  x25 = extends_trans b2 b3 b5 q23.extends x35

  x05 : Extends b0 b5
  x05 = extends_trans b0 b1 b5 c01.extends (extends_trans b1 b2 b5 c12.extends x25)

  hole : held b5 test 0 ≡ Some (End Unreachable)
  hole =
      ap (held b5 test) (sym c01.ops) ∙ ap (λ k. held b5 k (length b1.ops)) test_is
      ∙ x25.items (length b1.blocks) (length b1.ops) (End Unreachable) c12.at

  -- the test may be written there
  pub may_test : MayPatch b5 test (IfError (record { 0 = flag }) bad good line)
  may_test =
      let a = c01.blocks in
      let b = c12.blocks in
      let d = x25.blocks_grow in
      ((hole, (omega arith, omega arith), (omega arith, omega arith)), (rtype.Bool, type_kept b0 b5 flag rtype.Bool x05 type))

  written : Patches b5 b6 test (IfError (record { 0 = flag }) bad good line)
  written = patches b5 b6 test (IfError (record { 0 = flag }) bad good line) record { place = 0; is = hole } (λ z. cc) set

  x06 : Extends b0 b6
  x06 = written.extends b0 x05 (let z = c01.blocks in omega (arith, test_is))

  module _ (p : Program) (fn : ℕ) (has : Has p fn b6) (regs : Regs) (below : List Waiting) (s : State) where
    has5 : Has p fn b5
    has5 = written.has p fn has

    -- to the test
    to_test : Leads p (running fn (length b0.blocks) (length b0.ops) regs below (world None s)) (running fn test 0 regs below (world None s))
    to_test =
        leads_step p _ _ (goto_step Strict p (record { fn = fn; block = length b0.blocks; place = length b0.ops; regs = regs }) below (world None s) test
        (has5.items (length b0.blocks) (length b0.ops) (End (Goto test)) (λ z. cc) ((extends_trans b1 b2 b5 c12.extends x25).items (length b0.blocks) (length b0.ops) (End (Goto test)) c01.at)))

    type_here : Rattle.ir_core.specs.Rows.type_of_reg (registers_of p fn) (record { 0 = flag }) ≡ Some rtype.Bool
    type_here = type_has p fn b0 flag rtype.Bool (has_less p fn b0 b5 x05 has5) type

    tested : (v : Held) (b : Rattle.std.specs.Prelude.Bool) → regs flag ≡ v → is_error rtype.Bool v ≡ b → step Strict p (running fn test 0 regs below (world None s)) ≡ Rattle.ir_core.specs.Meaning.to_block (record { fn = fn; block = test; place = 0; regs = regs }) (Rattle.std.specs.Prelude.cond b bad good) below (world None s)
    tested v b is e =
        error_step Strict p (record { fn = fn; block = test; place = 0; regs = regs }) below (world None s) (record { 0 = flag }) bad good line rtype.Bool b
        (written.code p fn 0 has hole) type_here (ap (is_error rtype.Bool) is ∙ e)

    on_set : (v : Value) → regs flag ≡ Holds v → Leads p (running fn (length b0.blocks) (length b0.ops) regs below (world None s)) (running fn (length b6.blocks) (length b6.ops) regs below (world None s))
    on_set v is =
        let first = leads_step p _ _ (tested (Holds v) false is refl) in
        let there : running fn good 0 regs below (world None s) ≡ running fn (length b6.blocks) (length b6.ops) regs below (world None s) = ap (λ k. running fn k 0 regs below (world None s)) (good_is ∙ sym written.blocks) ∙ ap (λ i. running fn (length b6.blocks) i regs below (world None s)) (sym (written.ops ∙ empty)) in
        subst (λ d. Leads p (running fn (length b0.blocks) (length b0.ops) regs below (world None s)) d) there (leads_trans p _ _ _ to_test first)

    behind : item_at p fn bad 1 ≡ Some (Do (Lit (record { 0 = r }) (Number (pos 0))) line)
    behind =
        let one : length b3.ops ≡ 1 = (let z = q23.ops in let y = c12.ops in omega arith) in
        ap (λ k. item_at p fn k 1) (bad_is ∙ sym q23.blocks) ∙ ap (item_at p fn (length b3.blocks)) (sym one)
        ∙ adds_has p fn b3 b4 r rtype.Bool _ a34 (has_less p fn b4 b5 x45 has5)

    reported : item_at p fn bad 0 ≡ Some (Do (reports_unbound name) line)
    reported =
        ap (λ k. item_at p fn k 0) bad_is ∙ ap (item_at p fn (length b2.blocks)) (sym c12.ops)
        ∙ pushes_has p fn b2 b3 _ q23 (has_less p fn b3 b5 x35 has5)

    raises : step Strict p (running fn bad 0 regs below (world None s)) ≡ away (handler_at p fn bad) (record { fn = fn; block = bad; place = 1; regs = regs }) below (world (Some (unbound name)) s)
    raises =
        op_step Strict p (record { fn = fn; block = bad; place = 0; regs = regs }) below (world None s) (reports_unbound name) reported
        ∙ rw behind refl

    on_unset : (h : Option ℕ) → Placed p fn b0 b6 h → regs flag ≡ Unset → Leads p (running fn (length b0.blocks) (length b0.ops) regs below (world None s)) (away h (record { fn = fn; block = bad; place = 1; regs = regs }) below (world (Some (unbound name)) s))
    on_unset h placed is =
        let first = leads_step p _ _ (tested Unset true is refl) in
        let within : Placed p fn b0 b5 h = record { has = has5; guards = λ k l u. placed.guards k l (let z = written.blocks in omega arith) ∙ ap (λ y. or_other y h) (written.handlers k) } in
        let le : length b0.blocks ≤ length b2.blocks = (let z = c01.blocks in let y = c12.blocks in omega arith) in
        let here = guard_at p fn b0 b2 h le (placed_part p fn b0 b0 b2 b5 h (le_refl _) x25 within) bad bad_is in
        let last = leads_step p _ _ (raises ∙ ap (λ o. away o (record { fn = fn; block = bad; place = 1; regs = regs }) below (world (Some (unbound name)) s)) here) in
        leads_trans p _ _ _ to_test (leads_trans p _ _ _ first last)

  pub tests_set : TestsSet b0 b6 (λ now. now flag) name
  tests_set = record {
    extends = x06;
    set = λ p fn has regs below s v is. on_set p fn has regs below s v is;
    unset = λ p fn h placed regs below s is. (bad, 1, on_unset p fn placed.has regs below s h placed is);
  }

-- ---- the variable

pub name_is : (vs : List Variable) (i : ℕ) (w : Variable) → slice_get vs i ≡ Some w → name_at vs i ≡ w.0
name_is [] i w e = let f : None ≡ Some w = e in absurd (cc)
name_is (v ∷ vs) zero w e = let f : Some v ≡ Some w = e in let same : v ≡ w = cc in ap (λ (z : Variable). z.0) same
name_is (v ∷ vs) (suc i) w e = name_is vs i w e

-- the flag of a parameter is set, and that of another one is in a register
set_flag : (f : Vars) (regs : Regs) (j : ℕ) → j < f.params → flag_in f regs j ≡ Holds (BoolVal true)
set_flag f regs j lt = let e : nat_lt j f.params ≡ true = grind (arith, nat_tests) in ap (λ b. if b then Holds (BoolVal true) else regs (flag_of f j)) e

other_flag : (f : Vars) (regs : Regs) (j : ℕ) → f.params ≤ j → flag_in f regs j ≡ regs (flag_of f j)
other_flag f regs j le = let e : nat_lt j f.params ≡ false = grind (arith, nat_tests) in ap (λ b. if b then Holds (BoolVal true) else regs (flag_of f j)) e

module _ (x : Setting) (i : ℕ) (w : Variable) (t : Sort) (b c : Building) (at : slice_get x.variables i ≡ Some w) (tests : TestsSet b c (λ now. flag_in x.frame.locals now i) w.0) (p : Program) (fn : ℕ) (h : Option ℕ) (placed : Placed p fn b c h) (n : ℕ) (regs : Regs) (below : List Waiting) (s : State) (match : Matches x regs s) where
  abbrev Good : Value → State → Rattle.ir_core.specs.Meaning.Config → Type 0
  Good = Arrives Itself fn (length c.blocks) (length c.ops) below (length b.regs) regs s i

  abbrev Bad : Value → State → Rattle.ir_core.specs.Meaning.Config → Type 0
  Bad = IsThrown fn h below x (length b.regs) regs

  reads : (o : Option Value) → slice_get s.locals i ≡ Some o → Keeps (regs i) (flag_in x.frame.locals regs i) o → Ends p s.turns (running fn (length b.blocks) (length b.ops) regs below (world None s)) (means_node x (Local i) t n s) Good Bad
  reads None e k =
      let d = tests.unset p fn h placed regs below s k in
      let name : means_node x (Local i) t n s ≡ Raises (Rattle.value_core.specs.Value.ExcVal (unbound w.0)) s =
      ap (λ o. value_in (raise_new UnboundLocalError (codes "local variable '" ++ name_at x.variables i ++ codes "' referenced before assignment")) o s) e
      ∙ ap (λ z. Raises (Rattle.value_core.specs.Value.ExcVal (unbound z)) s) (name_is x.variables i w at) in
      ends_of p s.turns _ _ _ Good Bad name
      (le_refl s.turns, _, d.2, thrown_at p fn d.0 d.1 h below x (length b.regs) regs regs (unbound w.0) s match (λ j l u o. refl))
  reads (Some v) e k =
      let gives : means_node x (Local i) t n s ≡ Gives v s = ap (λ o. value_in (raise_new UnboundLocalError (codes "local variable '" ++ name_at x.variables i ++ codes "' referenced before assignment")) o s) e in
      ends_of p s.turns _ _ _ Good Bad gives
      (ends_lead p v s _ _ Good Bad (tests.set p fn placed.has regs below s (BoolVal true) k.1) record { now = regs; is = refl; shows = k.0; kept = λ j lt. refl; same = refl })

variable_emits : (x : Setting) (i : ℕ) (w : Variable) (t : Sort) (b c : Building) → slice_get x.variables i ≡ Some w → HasRoom x b → TestsSet b c (λ now. flag_in x.frame.locals now i) w.0 → Computes x Itself (rtype_of w.1) (means_node x (Local i) t) b c i
variable_emits x i w t b c at room tests = record {
  extends = tests.extends;
  type = type_kept b c i (rtype_of w.1) tests.extends (room.declared i w at);
  runs = λ p fn h placed n calls regs below s match le. let m = match.each i w at in reads x i w t b c at tests p fn h placed n regs below s match m.0 m.1 m.2;
}

-- ---- of a declared variable

get_there : {A : Type 0} (xs : List A) (i : ℕ) (d x : A) → i < length xs → x ≡ get_or xs i d → slice_get xs i ≡ Some x
get_there xs i d x lt e = slice_get-get_or xs i d lt ∙ ap Some (sym e)

-- a parameter needs no code
pub parameter_read : (x : Setting) (i : ℕ) (b : Building) → i < x.frame.locals.params → HasRoom x b → EmitsRead x x.variables i (Local i) b b i
parameter_read x i b low room v t at = variable_emits x i v t b b at room record {
  extends = extends_refl b;
  set = λ p fn has regs below s v is. leads_refl p _;
  unset = λ p fn h placed regs below s is. let f : Holds (BoolVal true) ≡ Unset = sym (set_flag x.frame.locals regs i low) ∙ is in absurd (cc);
}

pub variable_read : (m : Checked) (vs : List Var) (frame : Frame) (i : ℕ) (v : Var) (b c : Building) (flag : ℕ) (name : List ℕ) → i < length vs → v ≡ get_or vs i v → frame.locals.params ≤ i → flag ≡ flag_of frame.locals i → name ≡ v.name → HasRoom (setting m vs frame) b → TestsSet b c (λ now. now flag) name → EmitsRead (setting m vs frame) (map variable vs) i (Local i) b c i
variable_read m vs frame i v b c flag name lt e other flag_is name_is room tests w t there =
    let at : slice_get (map variable vs) i ≡ Some (variable v) = get_map variable vs i v (get_there vs i v v lt e) in
    let same : w ≡ variable v = (let z : Some w ≡ Some (variable v) = sym there ∙ at in cc) in
    let name_at_is : name ≡ w.0 = name_is ∙ sym (ap (λ (z : Variable). z.0) same) in
    let flags : (λ (now : Regs). now flag) ≡ (λ now. flag_in frame.locals now i) = λ k now. (ap now flag_is ∙ sym (other_flag frame.locals now i other)) k in
    variable_emits (setting m vs frame) i w t b c there room (subst (λ z. TestsSet b c z w.0) flags (subst (λ z. TestsSet b c (λ now. now flag) z) name_at_is tests))

-- a value that is taken as one of another type
pub taken_boxed : (t : Sort) (b c : Building) (r : ℕ) (x : Reg) → Attempts (Shows t) b c r (rtype_of t) (ActsOn boxed x.0 (taken_as t)) → Attempts (Shows t) b c r (rtype_of t) (Takes t x.0)
taken_boxed t b c r x a = attempts_as (Shows t) b c r (rtype_of t) (ActsOn boxed x.0 (taken_as t)) (Takes t x.0) (λ regs s res f. record { v = f.0; shows = (f.1, tt); does = f.2 }) a

optional_read : (s t : Sort) → is_optional s ≡ true → ReadsAs s t → rtype_of s ≡ rtype.Ref
optional_read (sort.Optional u) t e h = refl
optional_read s t e h = absurd (cc)

pub taken_value : (s t : Sort) (b : Building) (x : Reg) → is_optional s ≡ true → ReadsAs s t → HasType b x.0 (rtype_of s) → HasType b x.0 rtype.Ref
taken_value s t b x e h type = subst (HasType b x.0) (optional_read s t e h) type

own_read : (s t : Sort) → is_optional s ≡ false → ReadsAs s t → s ≡ t
own_read s t e (inl is) = is
own_read s t e (inr is) = absurd (let f : true ≡ false = ap is_optional (sym is) ∙ e in cc)

pub taken_stays : (s t : Sort) (b : Building) (x : Reg) → is_optional s ≡ false → ReadsAs s t → HasType b x.0 (rtype_of s) → Attempts (Shows t) b b x.0 (rtype_of t) (Takes t x.0)
taken_stays s t b x e h type =
    taken_boxed t b b x.0 x (stays_as boxed t (taken_as t) b x.0 (rtype_of t) (subst (λ z. HasType b x.0 (rtype_of z)) (own_read s t e h) type) (λ v u k. taken_itself t v u))

-- both together
pub local_there : (vs : List Var) (i : ℕ) (v : Var) → i < length vs → v ≡ get_or vs i v → slice_get (map variable vs) i ≡ Some (variable v)
local_there vs i v lt is = get_map variable vs i v (get_there vs i v v lt is)

pub read_taken : (x : Setting) (i : ℕ) (v : Variable) (t : Sort) (b c d : Building) (q r : ℕ) → slice_get x.variables i ≡ Some v → HasRoom x b → EmitsRead x x.variables i (Local i) b c q → Attempts (Shows t) c d r (rtype_of t) (Takes t q) → TakesLocal x i t b d r
read_taken x i v t b c d q r there room reads taken =
    part_attempts x Itself (Shows t) (rtype_of v.1) (rtype_of t) (means_node x (Local i) t) (taken_as t) (Takes t q) b c d q r room (reads v t there) taken (λ w s regs k. (w, k, refl))

-- ---- a variable of the module

module _ (x : Setting) (vs : List Var) (are : x.source.globals ≡ map variable vs) (i : ℕ) (v : Var) (t : RType) (name : List ℕ) (args : List PArg) (lt : i < length vs) (is : v ≡ get_or vs i v) (type : t ≡ rtype_of (sort_of v.ty)) (named : name ≡ v.name) (args_are : args ≡ arg.Global name ∷ []) where
  global_at : slice_get x.source.globals i ≡ Some (variable v)
  global_at = ap (λ gs. slice_get gs i) are ∙ get_map variable vs i v (get_there vs i v v lt is)

  args_name : args ≡ arg.Global v.name ∷ []
  args_name = args_are ∙ ap (λ z. arg.Global z ∷ []) named

  pub global_emits : {line : ℕ} (b c : Building) (r : ℕ) → HasRoom x b → Adds b c r t (Prim (Some record { 0 = r }) (prim.Global global.Get) args) line → EmitsRead x x.source.globals i (tree.Global i) b c r
  global_emits {line} b c r room a w u there =
      let same : variable v ≡ w = (let z : Some (variable v) ≡ Some w = sym global_at ∙ there in cc) in
      let P : Variable → Type 0 = λ z. Computes x Itself (rtype_of z.1) (λ n. read_global x.source.globals i) b c r in
      let typed_add : Adds b c r (rtype_of (sort_of v.ty)) (Prim (Some record { 0 = r }) (prim.Global global.Get) args) line = subst (λ z. Adds b c r z (Prim (Some record { 0 = r }) (prim.Global global.Get) args) line) type a in
      let add : Adds b c r (rtype_of (sort_of v.ty)) (Prim (Some record { 0 = r }) (prim.Global global.Get) (arg.Global v.name ∷ [])) line = subst (λ z. Adds b c r (rtype_of (sort_of v.ty)) (Prim (Some record { 0 = r }) (prim.Global global.Get) z) line) args_name typed_add in
      subst P same (global_computes x i (variable v) b c r room global_at add)

  -- its global is there
  pub global_fits : (g : Surrounding) → IsAmong x.source g → ReadsGlobal g t (prim.Global global.Get) args
  global_fits g among = record { name = name; reads = refl; named = args_are; there = rw (named, type) (global_there x.source g i (variable v) among global_at) }
