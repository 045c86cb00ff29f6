-- The code of a whole function.
use Rattle.ir_builder.proofs.Common.{◌≡◌, ℕ, zero, suc, ◌+◌, ◌-◌, ◌^◌, ◌<◌, ◌≤◌, true, List, [], ◌∷◌, ◌++◌, length, map, take, Option, Some, None, refl, sym, ap, ◌∙◌, subst, arith, slice_get, pos, list_all, option_map, BoolVal, Done, is_identifier, names_differ, State, top_of, TFunc, Variable, variable, TypedFunc, typed_func, TypedModule, Flow, Goes, Breaks, Continues, Returns, Sort, Func, Turn, Program, RType, Building, held_in, held, handled, Extends, Do, item_in, handler_in, blocks_of, Config, Ended, handler_at, declared_of, Holds, literal_of, first_regs, Declared, Pushes, world, Escapes, Meaning, head_of, Surrounding, LiteralFits, HasKinds, IsAmong, HasRoom, Matches, BeginWith, names_of, Has, rtype_of, AllFit, ends_map, extends_refl, extends_trans, type_kept, variable_names, FunctionSuits, means_suite, IsBuilt, register_of, variable_registers, beginning, AddsFlags, LeavesWith, Bodied, BodyWorks, end_literal, end_value, heads_of, parameter_sorts, IsFunctionOf, IsOwnOf, get_map}
use Rattle.std.proofs.lemmas.List.{length-map}
use Rattle.std.proofs.lemmas.Simd.{map-map}
use Rattle.std.proofs.Math.Seq.{take-append_seam}
use Rattle.ir_core.specs.declared.code.Lit.{Lit as Literal}
use Rattle.ir_core.specs.declared.code.Lit.TheVariants.{Number}
use Rattle.ir_core.specs.declared.code.RType.TheVariants as rtype
use Rattle.ir_core.proofs.BuildingLemmas.{built_is_held}
use Rattle.ir_builder_frames.specs.Among.{surrounding}
use Rattle.ir_builder_frames.specs.Lines.{OwnLines}
use Rattle.ir_builder_frames.specs.Watching.{watch}
use Rattle.ir_builder_expressions.specs.Lined.{Around}
use Rattle.ir_builder_expressions.proofs.LinedLemmas.{around_by}
use Rattle.ir_builder_statements.specs.Lined.{body as body_piece, LinedPieces}
use Rattle.ir_builder_statements.proofs.LinedLemmas.{pieces_behind}
use Rattle.ir_builder.specs.Lines.{setting_in}
use Rattle.ir_builder.proofs.ArgumentLemmas.{sort_of, sorts_size, HaveFlags, function_works}
use Rattle.ir_builder.proofs.EdgeLemmas.{no_edges}

-- ---- registers

-- what is in the first list is in the second, at its place
starts_with : (xs ys : Declared) → ((r : ℕ) (d : List ℕ × RType) → slice_get xs r ≡ Some d → slice_get ys r ≡ Some d) → (rest : Declared) × (ys ≡ xs ++ rest)
starts_with [] ys h = (ys, refl)
starts_with (x ∷ xs) [] h = let f : None ≡ Some x = h 0 x refl in absurd (cc)
starts_with (x ∷ xs) (y ∷ ys) h =
    let f : Some y ≡ Some x = h 0 x refl in
    let same : y ≡ x = cc in
    let more = starts_with xs ys (λ r d e. h (suc r) d e) in
    (more.0, ap (λ z. z ∷ ys) same ∙ ap (λ l. x ∷ l) more.1)

pub names_are : (vs : List Variable) → names_of (variable_registers vs) ≡ variable_names vs
names_are vs = map-map (λ d. d.0) register_of vs

pub registers_differ : (vs : List Variable) (declared : Declared) → names_differ (variable_names vs) ≡ true → declared ≡ variable_registers vs → names_differ (names_of declared) ≡ true
registers_differ vs declared e is = ap (λ ds. names_differ (names_of ds)) is ∙ ap names_differ (names_are vs) ∙ e

begin_with : (vs : List Variable) (n : ℕ) (rest : Declared) → BeginWith (variable_registers vs ++ rest) (map sort_of (take n vs))
begin_with vs zero rest = tt
begin_with [] (suc n) rest = tt
begin_with (v ∷ vs) (suc n) rest = (refl, begin_with vs n rest)

-- it has as many variables as parameters, or more
pub few_params : {m : TypedModule} (f : TFunc) (count : ℕ) → count ≡ length f.locals → FunctionSuits m (typed_func f) → f.params ≤ count
few_params f count is suits = let few = suits.parameters in omega (arith, is, few, length-map f.locals variable)

-- what a function begins with: its flags are behind its variables
pub begin_room : (m : TypedModule) (vs : List Variable) (t : RType) (params : ℕ) (b : Building) → AddsFlags (length vs - params) (beginning m (variable_registers vs) t) b → HasRoom (setting_in m params vs) b
begin_room m vs t params b flags =
    let size = length-map vs register_of in
    record {
      among = subst (IsAmong m) (sym flags.extends.among) record { globals = refl; heads = get_map head_of m.funcs };
      count = refl;
      flags = omega arith;
      top = omega (arith, size, flags.regs);
      declared = λ j v at. type_kept (beginning m (variable_registers vs) t) b j (rtype_of v.1) flags.extends (ap (option_map (λ (d : List ℕ × RType). d.1)) (get_map register_of vs j v at));
      flagged = λ j from to. flags.flags (length vs + (j - params)) (omega (arith, size)) (omega (arith, size, from, to));
      back = tt;
    }

-- ---- a function that was built

pub literal_fits : (t : RType) → LiteralFits t (end_literal t)
literal_fits rtype.Ref = refl
literal_fits t = (refl, refl)

literal_value : (t : RType) → literal_of t (end_literal t) ≡ Some (Holds (end_value t))
literal_value rtype.Ref = refl
literal_value t = refl

-- the code that a builder leaves
abbrev finished : List ℕ → ℕ → RType → Building → Func
finished name params t b = record { name = name; params = params; regs = b.regs; ret = t; blocks = b.blocks }

-- what is known of it
pub record IsMade (m : TypedModule) (vs : List Variable) (t : RType) (b : Building) (h : Func) : Type 0 where
  pub rest : Declared
  pub regs : h.regs ≡ variable_registers vs ++ rest
  pub whole : b ≡ record (beginning m (variable_registers vs) t) { regs = h.regs; blocks = h.blocks }
  pub built : IsBuilt (heads_of m) (variable_registers m.globals) h
  pub has : (p : Program) (fn : ℕ) → slice_get p.funcs fn ≡ Some h → Has p fn b
  pub handlers : (p : Program) (fn : ℕ) → slice_get p.funcs fn ≡ Some h → (k : ℕ) → handler_at p fn k ≡ handled b k

is_made : {gives : Option Sort} {last : Literal} {M : Meaning Flow} (m : TypedModule) (vs : List Variable) (t : RType) (params : ℕ) (b1 b2 : Building) (name : List ℕ) → list_all is_identifier (variable_names vs) ≡ true → params ≤ length vs → Extends (beginning m (variable_registers vs) t) b1 → length b1.blocks ≡ 0 → Bodied (setting_in m params vs) gives t last M b1 b2 → ((n : ℕ) → length b2.blocks ≡ suc n → AllFit n 0 b2.blocks) → length b2.blocks < 2 ^ 64 → names_differ (names_of b2.regs) ≡ true → HasKinds b2.among b2 → IsMade m vs t b2 (finished name params t b2)
is_made m vs t params b1 b2 name identifiers low before start bodied fits few differ kinds =
    let x = extends_trans (beginning m (variable_registers vs) t) b1 b2 before bodied.extends in
    let more = starts_with (variable_registers vs) b2.regs x.regs in
    let grown = bodied.more in
    let high : ℕ = length b2.blocks - 1 in
    let highest : length b2.blocks ≡ suc high = omega arith in
    let suits : HasKinds (surrounding m (length (variable_registers vs)) t) b2 = subst (λ (g : Surrounding). HasKinds g b2) x.among kinds in
    let front : take (length (variable_registers vs)) b2.regs ≡ variable_registers vs = ap (take (length (variable_registers vs))) more.1 ∙ take-append_seam (variable_registers vs) more.0 in
    record {
      rest = more.0;
      regs = more.1;
      whole =
          ap (λ (g : Surrounding). record b2 { among = g }) x.among
          ∙ ap (λ os. record (beginning m (variable_registers vs) t) { regs = b2.regs; blocks = b2.blocks; ops = os }) bodied.ops;
      built = record {
        variables = length (variable_registers vs);
        params = omega (arith, low, length-map vs register_of);
        within = suits.variables;
        named = suits.named;
        kinds = suits.blocks;
        highest = high;
        blocks = highest;
        fits = fits high highest;
        written = λ k. bodied.full k (omega (arith, start));
        few = few;
        differ = differ;
        identifiers = ap (λ ds. list_all is_identifier (names_of ds)) front ∙ ap (list_all is_identifier) (names_are vs) ∙ identifiers;
      };
      has = λ p fn there. record {
        items = λ k i y ne e. ap (λ o. item_in (blocks_of o) k i) there ∙ sym (built_is_held b2.blocks k i) ∙ sym (ap (λ os. held_in b2.blocks os k i) bodied.ops) ∙ e;
        regs = λ r d e. ap (λ o. slice_get (declared_of o) r) there ∙ e;
        edges = no_edges p fn high (subst (λ o. AllFit high 0 (blocks_of o)) (sym there) (fits high highest));
      };
      handlers = λ p fn there k. ap (λ o. handler_in (blocks_of o) k) there;
    }

-- a function of the module
pub function_is : {line : ℕ} (m : TypedModule) (f : TypedFunc) (suits : FunctionSuits m f) (bf b1 b2 : Building) (name : List ℕ) (h : Func) → AddsFlags (length f.locals - f.params) (beginning m (variable_registers f.locals) (rtype_of f.ret)) bf → Pushes bf b1 Turn line → OwnLines 0 bf b1 → Bodied (setting_in m f.params f.locals) (Some f.ret) (rtype_of f.ret) (end_literal (rtype_of f.ret)) (means_suite (setting_in m f.params f.locals) f.body) b1 b2 → ((n : ℕ) → length b2.blocks ≡ suc n → AllFit n 0 b2.blocks) → LinedPieces (setting_in m f.params f.locals) 0 (body_piece f.body ∷ []) b1 b2 → length b2.blocks < 2 ^ 64 → names_differ (names_of b2.regs) ≡ true → HasKinds b2.among b2 → name ≡ f.name → h ≡ finished name f.params b2.among.ret b2 → IsFunctionOf m f h
function_is {line} m f suits bf b1 b2 name h flags turn own bodied fits lined few differ kinds named is =
    let t : RType = rtype_of f.ret in
    let x = setting_in m f.params f.locals in
    let start : Building = beginning m (variable_registers f.locals) t in
    let before = extends_trans start bf b1 flags.extends turn.extends in
    let none : length b1.blocks ≡ 0 = turn.blocks ∙ flags.blocks in
    let one : length b1.ops ≡ 1 = turn.ops ∙ ap (λ k. k + 1) flags.ops in
    let made = is_made m f.locals t f.params b1 b2 f.name suits.identifiers suits.parameters before none bodied fits few differ kinds in
    let first : held b2 0 0 ≡ Some (Do Turn line) = rw (flags.blocks, flags.ops) at (bodied.extends.items (length bf.blocks) (length bf.ops) (Do Turn line) turn.at) in
    let have : HaveFlags f.params (length f.locals) b2.regs = λ j above below. type_kept bf b2 _ rtype.Bool (extends_trans bf b1 b2 turn.extends bodied.extends) ((begin_room m f.locals t f.params bf flags).flagged j above below) in
    let around : Around 0 start b1 = around_by 0 start b1 before (λ k i z other at. flags.lines 0 k i z other (own k i z other at)) in
    subst (IsFunctionOf m f)
    (sym (is ∙ ap (λ n. finished n f.params b2.among.ret b2) named ∙ ap (λ (g : Surrounding). finished f.name f.params g.ret b2) (bodied.extends.among ∙ before.among)))
    record {
      name = refl;
      head = record {
        params = sym (sorts_size f suits.parameters);
        regs = subst (λ ds. BeginWith ds (parameter_sorts f)) (sym made.regs) (begin_with f.locals f.params made.rest);
        ret = refl;
      };
      built = record {
        built = made.built;
        turn = (line, sym (built_is_held b2.blocks 0 0) ∙ sym (ap (λ os. held_in b2.blocks os 0 0) bodied.ops) ∙ first);
        name = suits.name;
      };
      works = λ p fn there.
          let body = bodied.works p fn (finished f.name f.params t b2) (end_value t) (made.has p fn there) (made.handlers p fn there) there (literal_value t) in
          let B : ℕ → ℕ → Type 0 = λ k i. BodyWorks p x (Some f.ret) (end_value t) (means_suite x f.body) fn k i in
          function_works p m f fn (finished f.name f.params t b2) made.rest suits.parameters made.regs have (subst (λ i. B 0 i) one (subst (λ k. B k (length b1.ops)) none body));
      lined = subst (LinedPieces x 0 (body_piece f.body ∷ []) start) made.whole (pieces_behind around lined);
    }

-- ---- the module's own statements

own_flow : (p : Program) (g : Flow) (s : State) (d : Config) → LeavesWith p None (BoolVal true) [] g s d → (g ≡ Goes) × (d ≡ Ended Done (world None s))
own_flow p Goes s d h = (refl, h)
own_flow p Breaks s d h = absurd h
own_flow p Continues s d h = absurd h
own_flow p (Returns v) s d h = absurd h.0

pub own_is : (m : TypedModule) (b2 : Building) (name : List ℕ) (h : Func) → Bodied (setting_in m 0 []) None rtype.Bool (Number (pos 1)) (means_suite (setting_in m 0 []) m.top) (beginning m [] rtype.Bool) b2 → ((n : ℕ) → length b2.blocks ≡ suc n → AllFit n 0 b2.blocks) → LinedPieces (setting_in m 0 []) 0 (body_piece m.top ∷ []) (beginning m [] rtype.Bool) b2 → length b2.blocks < 2 ^ 64 → names_differ (names_of b2.regs) ≡ true → HasKinds b2.among b2 → h ≡ finished name 0 b2.among.ret b2 → IsOwnOf m h
own_is m b2 name h bodied fits lined few differ kinds is =
    let x = setting_in m 0 [] in
    let start : Building = beginning m [] rtype.Bool in
    let made = is_made m [] rtype.Bool 0 start b2 name refl (omega arith) (extends_refl start) refl bodied fits few differ kinds in
    subst (IsOwnOf m)
    (sym (is ∙ ap (λ (g : Surrounding). finished name 0 g.ret b2) bodied.extends.among))
    record {
      built = record { built = made.built; params = refl; ret = refl };
      works = λ p fn there n calls s le.
          let body = bodied.works p fn (finished name 0 rtype.Bool b2) (BoolVal true) (made.has p fn there) (made.handlers p fn there) there refl in
          let match : Matches x (first_regs b2.regs []) s = record { each = λ j v at. let f : None ≡ Some v = at in absurd (cc) } in
          ends_map p s.turns _ (top_of (watch m) m n s) (LeavesWith p None (BoolVal true) []) _ (Escapes fn []) (Escapes fn []) (λ g u d z. own_flow p g u d z) (λ v u d z. z) (body n calls (first_regs b2.regs []) [] s match le);
      lined = subst (LinedPieces x 0 (body_piece m.top ∷ []) start) made.whole lined;
    }
