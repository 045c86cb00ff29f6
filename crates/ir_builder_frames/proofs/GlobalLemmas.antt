-- Reads and writes of the module's variables, which are a program's globals.
use Rattle.ir_builder_frames.proofs.Common.{Itself, Config, Placed, Ends, Arrives, IsThrown, ◌≡◌, ℕ, zero, suc, ◌+◌, ◌<◌, true, false, not, cond, List, [], ◌∷◌, length, Option, Some, None, refl, ap, ◌∙◌, arith, map, slice_get, slice_set, nat_lt, codes, list_any, position_or_len, option_and_then, bytes_eq, lt-ltb, length-map, bytes_eq-Decides, Value, names_differ, bytes_eq-sym, State, raise_new, RType, Reg, Prim, Program, Do, Declared, type_of_reg, Holds, Regs, Given, Written, Acts, number_of_global, global_at, got, stored, effect, Building, Waiting, Strict, read, arguments, registers_of, item_at, step, Setting, rtype_of, register_of, variable_registers, Adds, world, running, HasGlobals, Matches, HasRoom, Computes, Surrounding, IsOf, IsGlobal, ReadsGlobal, WritesGlobal, IsAmong}
use Rattle.std.specs.Prelude.{◌++◌}
use Rattle.value_core.specs.declared.exception.ExcClass.TheVariants.{NameError}
use Rattle.c_core.specs.declared.primitive.Primitive.TheVariants as prim
use Rattle.c_core.specs.declared.primitive.GlobalPrim.TheVariants as global
use Rattle.c_core.specs.Step.{not_defined}
use Rattle.py_typed.specs.Statements.{Variable, TypedModule}
use Rattle.source_meaning.specs.ExpressionMeaning.{name_at, value_in, read_global}
use Rattle.ir_core.specs.declared.code.PArg.TheVariants as arg
use Rattle.ir_builder_frames.proofs.HeldLemmas.{get_below}
use Rattle.ir_builder_frames.proofs.NameLemmas.{or_false, not_false, and_parts}
use Rattle.std.proofs.lemmas.Bool.{ltb-true}
use Rattle.std.proofs.lemmas.Option.{slice_get-get_or}
use Rattle.ir_builder_frames.proofs.ComingLemmas.{ends_of, ends_stuck}
use Rattle.ir_builder_frames.proofs.StepLemmas.{read_is, acts_step}
use Rattle.ir_builder_frames.proofs.AttemptLemmas.{Answer, Answers, Throws, effect_of, outcome_of, ShownIfGiven, leaves_all, acts_typed, prim_ends}

-- ---- lists

pub get_map : {A B : Type 0} (f : A → B) (xs : List A) (i : ℕ) (x : A) → slice_get xs i ≡ Some x → slice_get (map f xs) i ≡ Some (f x)
get_map f [] i x e = let g : None ≡ Some x = e in absurd (cc)
get_map f (y ∷ xs) zero x e = let g : Some y ≡ Some x = e in let same : y ≡ x = cc in ap (λ z. Some (f z)) same
get_map f (y ∷ xs) (suc i) x e = get_map f xs i x e

-- ---- the number of a global by its name

abbrev names_in : List Variable → List (List ℕ)
names_in vs = map (λ (v : Variable). v.0) vs

not_named : (name : List ℕ) (vs : List Variable) (i : ℕ) (v : Variable) → slice_get vs i ≡ Some v → list_any (bytes_eq name) (names_in vs) ≡ false → bytes_eq v.0 name ≡ false
not_named name [] i v e none = let g : None ≡ Some v = e in absurd (cc)
not_named name (u ∷ vs) zero v e none =
    let g : Some u ≡ Some v = e in
    let same : v ≡ u = cc in
    bytes_eq-sym v.0 name ∙ ap (λ (z : Variable). bytes_eq name z.0) same ∙ (or_false (bytes_eq name u.0) (list_any (bytes_eq name) (names_in vs)) none).0
not_named name (u ∷ vs) (suc i) v e none =
    not_named name vs i v e (or_false (bytes_eq name u.0) (list_any (bytes_eq name) (names_in vs)) none).1

place_of : (vs : List Variable) (i : ℕ) (v : Variable) → slice_get vs i ≡ Some v → names_differ (names_in vs) ≡ true → position_or_len (λ (g : List ℕ × RType). bytes_eq v.0 g.0) (variable_registers vs) ≡ i
place_of [] i v e differ = let g : None ≡ Some v = e in absurd (cc)
place_of (u ∷ vs) zero v e differ =
    let g : Some u ≡ Some v = e in
    let same : v ≡ u = cc in
    let named : bytes_eq v.0 u.0 ≡ true = (bytes_eq-Decides v.0 u.0).1 (ap (λ (z : Variable). z.0) same) in
    ap (λ c. cond (not c) (1 + position_or_len (λ (g : List ℕ × RType). bytes_eq v.0 g.0) (variable_registers vs)) 0) named
place_of (u ∷ vs) (suc i) v e differ =
    let parts = and_parts (not (list_any (bytes_eq u.0) (names_in vs))) (names_differ (names_in vs)) differ in
    let other : bytes_eq v.0 u.0 ≡ false = not_named u.0 vs i v e (not_false (list_any (bytes_eq u.0) (names_in vs)) parts.0) in
    ap (λ c. cond (not c) (1 + position_or_len (λ (g : List ℕ × RType). bytes_eq v.0 g.0) (variable_registers vs)) 0) other
    ∙ (ap (λ z. 1 + z) (place_of vs i v e parts.1) ∙ omega arith)

by_place : (k i size : ℕ) → k ≡ i → i < size → cond (nat_lt k size) (Some k) None ≡ Some i
by_place k i size same within =
    ap (λ z. cond (nat_lt z size) (Some z) None) same ∙ ap (λ c. cond c (Some i) None) (lt-ltb i size within)

pub number_of_variable : (p : Program) (m : TypedModule) (i : ℕ) (v : Variable) → HasGlobals p m → slice_get m.globals i ≡ Some v → number_of_global p v.0 ≡ Some i
number_of_variable p m i v has at =
    let within : i < length (variable_registers m.globals) = (let lt = get_below m.globals i v at in omega (arith, length-map m.globals register_of)) in
    ap (λ gs. cond (nat_lt (position_or_len (λ (g : List ℕ × RType). bytes_eq v.0 g.0) gs) (length gs)) (Some (position_or_len (λ (g : List ℕ × RType). bytes_eq v.0 g.0) gs)) None) has.are
    ∙ by_place (position_or_len (λ (g : List ℕ × RType). bytes_eq v.0 g.0) (variable_registers m.globals)) i (length (variable_registers m.globals)) (place_of m.globals i v at has.differ) within

-- ---- what a read and a write do

-- what a variable of the module gives: its value, or the exception that it is unset
abbrev pub value_or_unset : List ℕ → Option Value → Answer
value_or_unset name None = Throws (not_defined name)
value_or_unset name (Some v) = Answers v

module _ (p : Program) (m : TypedModule) (i : ℕ) (v : Variable) (s : State) (o : Option Value) (has : HasGlobals p m) (at : slice_get m.globals i ≡ Some v) (held : slice_get s.globals i ≡ Some o) where
  pub global_held : global_at p (world None s) v.0 ≡ Some o
  global_held = ap (option_and_then (slice_get s.globals)) (number_of_variable p m i v has at) ∙ held

  got_as : (u : Option Value) → got v.0 (Some u) (world None s) ≡ effect_of (value_or_unset v.0 u) (world None s)
  got_as None = refl
  got_as (Some w) = refl

  pub global_read : effect p (prim.Global global.Get) (Written (arg.Global v.0) ∷ []) (world None s) ≡ effect_of (value_or_unset v.0 o) (world None s)
  global_read = ap (λ z. got v.0 z (world None s)) global_held ∙ got_as o

  pub global_write : (w : Value) → effect p (prim.Global global.Set) (Written (arg.Global v.0) ∷ Given w ∷ []) (world None s) ≡ Acts (world None (record s { globals = slice_set s.globals i (Some w) }))
  global_write w =
      ap (λ n. stored n (global_at p (world None s) v.0) (Some w) (world None s)) (number_of_variable p m i v has at)
      ∙ ap (λ z. stored (Some i) z (Some w) (world None s)) global_held

-- ---- the same in the source

name_is : (vs : List Variable) (i : ℕ) (v : Variable) → slice_get vs i ≡ Some v → name_at vs i ≡ v.0
name_is [] i v e = let g : None ≡ Some v = e in absurd (cc)
name_is (u ∷ vs) zero v e = let g : Some u ≡ Some v = e in let same : u ≡ v = cc in ap (λ (z : Variable). z.0) same
name_is (u ∷ vs) (suc i) v e = name_is vs i v e

value_as : (name : List ℕ) (s : State) (o : Option Value) → value_in (raise_new NameError (codes "name '" ++ name ++ codes "' is not defined")) (Some o) s ≡ outcome_of (value_or_unset name o) s
value_as name s None = refl
value_as name s (Some v) = refl

pub read_gives : (vs : List Variable) (i : ℕ) (v : Variable) (s : State) (o : Option Value) → slice_get vs i ≡ Some v → slice_get s.globals i ≡ Some o → read_global vs i s ≡ outcome_of (value_or_unset v.0 o) s
read_gives vs i v s o at held =
    ap (λ z. value_in (raise_new NameError (codes "name '" ++ name_at vs i ++ codes "' is not defined")) z s) held
    ∙ ap (λ name. value_in (raise_new NameError (codes "name '" ++ name ++ codes "' is not defined")) (Some o) s) (name_is vs i v at)
    ∙ value_as v.0 s o

-- ---- the code of a read, and of a write

given_itself : (name : List ℕ) (o : Option Value) → ShownIfGiven Itself (value_or_unset name o)
given_itself name None = tt
given_itself name (Some v) = refl

module _ {line : ℕ} (x : Setting) (i : ℕ) (v : Variable) (b c : Building) (r : ℕ) (room : HasRoom x b) (at : slice_get x.source.globals i ≡ Some v) (a : Adds b c r (rtype_of v.1) (Prim (Some record { 0 = r }) (prim.Global global.Get) (arg.Global v.0 ∷ [])) line) where
  -- where the state has no such variable, the source is stuck
  reads : (p : Program) (fn : ℕ) (h : Option ℕ) → Placed p fn b c h → HasGlobals p x.source → (regs : Regs) (below : List Waiting) (s : State) → Matches x regs s → (o : Option (Option Value)) → slice_get s.globals i ≡ o → Ends p s.turns (running fn (length b.blocks) (length b.ops) regs below (world None s)) (read_global x.source.globals i s) (Arrives Itself fn (length c.blocks) (length c.ops) below (length b.regs) regs s r) (IsThrown fn h below x (length b.regs) regs)
  reads p fn h placed has regs below s match None there =
      let R : Value → State → Config → Type 0 = Arrives Itself fn (length c.blocks) (length c.ops) below (length b.regs) regs s r in
      let T = IsThrown fn h below x (length b.regs) regs in
      ends_of p s.turns _ _ _ R T (ap (λ z. value_in (raise_new NameError (codes "name '" ++ name_at x.source.globals i ++ codes "' is not defined")) z s) there) (ends_stuck p s.turns _ s R T)
  reads p fn h placed has regs below s match (Some o) there =
      prim_ends Itself b c r (rtype_of v.1) (prim.Global global.Get) _ a p fn h placed x room regs below s match (read_global x.source.globals i s) record {
        values = Written (arg.Global v.0) ∷ [];
        given = refl;
        acts = acts_typed Itself (prim.Global global.Get) (effect p (prim.Global global.Get) (Written (arg.Global v.0) ∷ []) (world None s)) s (read_global x.source.globals i s) (registers_of p fn) (Some record { 0 = r }) (arg.Global v.0 ∷ []) record {
          answer = value_or_unset v.0 o;
          behind = s;
          leaves = leaves_all s;
          allowed = tt;
          effects = global_read p x.source i v s o has at there;
          shown = given_itself v.0 o;
          does = read_gives x.source.globals i v s o at there;
        };
      }

  pub global_computes : Computes x Itself (rtype_of v.1) (λ n. read_global x.source.globals i) b c r
  global_computes = record {
    extends = a.extends;
    type = a.type;
    runs = λ p fn h placed n calls regs below s match le. reads p fn h placed calls.variables regs below s match (slice_get s.globals i) refl;
  }

write_arguments : (declared : Declared) (regs : Regs) (name : List ℕ) (r : ℕ) (w : Value) → read declared regs (record { 0 = r }) ≡ Some w → arguments declared regs (arg.Global name ∷ arg.Var record { 0 = r } ∷ []) ≡ Some (Written (arg.Global name) ∷ Given w ∷ [])
write_arguments declared regs name r w e = rw e refl

pub global_step : {line : ℕ} (p : Program) (fn k j : ℕ) (regs : Regs) (below : List Waiting) (s : State) (m : TypedModule) (i : ℕ) (v : Variable) (r : ℕ) (t : RType) (w : Value) → HasGlobals p m → nat_lt i (length s.globals) ≡ true → slice_get m.globals i ≡ Some v → item_at p fn k j ≡ Some (Do (Prim None (prim.Global global.Set) (arg.Global v.0 ∷ arg.Var record { 0 = r } ∷ [])) line) → type_of_reg (registers_of p fn) (record { 0 = r }) ≡ Some t → regs r ≡ Holds w → step Strict p (running fn k j regs below (world None s)) ≡ running fn k (j + 1) regs below (world None (record s { globals = slice_set s.globals i (Some w) }))
global_step p fn k j regs below s m i v r t w has low at there type holds =
    let o = slice_get-get_or s.globals i None (ltb-true i (length s.globals) low) in
    let given = write_arguments (registers_of p fn) regs v.0 r w (read_is (registers_of p fn) regs r t w type holds) in
    acts_step p fn k j regs below s (prim.Global global.Set) _ _ _ there given refl (global_write p m i v s _ has at o w)

-- ---- when they fit

pub global_there : (m : TypedModule) (g : Surrounding) (i : ℕ) (v : Variable) → IsAmong m g → slice_get m.globals i ≡ Some v → IsGlobal g v.0 (rtype_of v.1)
global_there m g i v among at =
    (i, ap (λ gs. slice_get gs i) among.globals ∙ get_map register_of m.globals i v at)

pub read_fits : (m : TypedModule) (g : Surrounding) (i : ℕ) (v : Variable) → IsAmong m g → slice_get m.globals i ≡ Some v → ReadsGlobal g (rtype_of v.1) (prim.Global global.Get) (arg.Global v.0 ∷ [])
read_fits m g i v among at = record { name = v.0; reads = refl; named = refl; there = global_there m g i v among at }

pub write_fits : (m : TypedModule) (g : Surrounding) (regs : Declared) (i : ℕ) (v : Variable) (r : Reg) → IsAmong m g → slice_get m.globals i ≡ Some v → IsOf regs r (rtype_of v.1) → WritesGlobal g regs (prim.Global global.Set) (arg.Global v.0 ∷ arg.Var r ∷ [])
write_fits m g regs i v r among at type = record { name = v.0; from = r; type = rtype_of v.1; writes = refl; named = refl; there = global_there m g i v among at; holds = type }
