-- A global by its name, in a program and in its C text: it is read, written and cleared alike.
use Rattle.std.proofs.Common.{◌≡◌, refl, sym, ◌∙◌, ap, subst, ℕ, suc, ◌+◌, ◌<◌, arith, Bool, true, false, not, cond, List, [], ◌∷◌, length, Option, Some, None}
use Rattle.std.specs.Prelude.{slice_get, slice_set, map, find, nat_lt, is_some}
use Rattle.std.specs.List.{position_or_len}
use Rattle.std.specs.Option.{option_map, option_and_then}
use Rattle.std.specs.Str.{bytes_eq}
use Rattle.std.proofs.lemmas.Bool.{lt-ltb}
use Rattle.value_core.specs.Value.{Value}
use Rattle.c_core.specs.declared.code.CArg.TheVariants as c_arg
use Rattle.c_core.specs.declared.code.Code.{Code}
use Rattle.c_core.specs.declared.code.Kind.{Kind}
use Rattle.c_core.specs.declared.primitive.Primitive.TheVariants as prim
use Rattle.c_core.specs.declared.primitive.GlobalPrim.TheVariants as global
use Rattle.c_core.specs.Functions.{error_word}
use Rattle.c_core.specs.Machine.{Word, MachineState}
use Rattle.c_core.specs.Arguments.{number_of_global as number_in_text, kind_of_global, word_in}
use Rattle.c_core.specs.Arguments as machines
use Rattle.c_core.specs.Step as steps
use Rattle.ir_core.specs.declared.code.PArg.TheVariants as arg
use Rattle.ir_core.specs.declared.code.RType.{RType}
use Rattle.ir_core.specs.declared.code.Program.{Program}
use Rattle.ir_core.specs.Registers.{Holds, error_of}
use Rattle.ir_core.specs.Rows.{Declared}
use Rattle.ir_core.specs.Effects.{World, Given, Written, number_of_global}
use Rattle.ir_core.specs.Effects as program
use Rattle.ir_core.specs.Lower.{kind_of_type, global_of}
use Rattle.refcount_insert_lines_laws.specs.Matching.{Fits, PlacesFit, WorldFits}
use Rattle.refcount_insert_lines_laws.proofs.ListLemmas.{size_map}
use Rattle.refcount_insert_lines_laws.proofs.Places.{PlaceFits, first_fits, all_fit}
use Rattle.refcount_insert_lines_laws.proofs.Words.{error_fits}
use Rattle.refcount_insert_lines_laws.proofs.Agreeing.{Agrees, both_share, both_store, both_fail}

module _ (s : MachineState) where
  -- the first global of a name, with its number, its value and its word
  pub record Found (name : List ℕ) (gs : Declared) (vs : List (Option Value)) (ys : List (Option Word)) : Type 0 where
    pub number : ℕ
    pub global : List ℕ × RType
    pub value : Option Value
    pub word : Option Word
    pub by_program : position_or_len (λ g. bytes_eq name g.0) gs ≡ number
    pub by_text : position_or_len (λ g. bytes_eq name g.0) (map global_of gs) ≡ number
    pub within : number < length gs
    pub declared : find (λ g. bytes_eq name g.0) (map global_of gs) ≡ Some (global_of global)
    pub holds : slice_get vs number ≡ Some value
    pub there : slice_get ys number ≡ Some word
    pub fits : PlaceFits s global.1 value word
    pub put : (v : Option Value) (y : Option Word) → PlaceFits s global.1 v y → PlacesFit s gs (slice_set vs number v) (slice_set ys number y)

  found : (name : List ℕ) (gs : Declared) (vs : List (Option Value)) (ys : List (Option Word)) → PlacesFit s gs vs ys → is_some (find (λ (g : List ℕ × Kind). bytes_eq name g.0) (map global_of gs)) ≡ true → Found name gs vs ys
  found name [] vs ys at e = absurd (cc)
  found name (g ∷ gs) [] ys at e = absurd at
  found name (g ∷ gs) (None ∷ vs) [] at e = absurd at
  found name (g ∷ gs) (Some v ∷ vs) [] at e = absurd at
  found name (g ∷ gs) (v ∷ vs) (y ∷ ys) at e =
      by (bytes_eq name g.0) refl (λ f. found name gs vs ys both.1 f)
    where
      both : PlaceFits s g.1 v y × PlacesFit s gs vs ys
      both = first_fits s g gs v vs y ys at

      later : Option (List ℕ × Kind)
      later = find (λ (g : List ℕ × Kind). bytes_eq name g.0) (map global_of gs)

      by : (c : Bool) → bytes_eq name g.0 ≡ c → (is_some later ≡ true → Found name gs vs ys) → Found name (g ∷ gs) (v ∷ vs) (y ∷ ys)
      by true is more =
          record {
            number = 0;
            global = g;
            value = v;
            word = y;
            by_program = ap (λ c. cond (not c) (1 + position_or_len (λ (k : List ℕ × RType). bytes_eq name k.0) gs) 0) is;
            by_text = ap (λ c. cond (not c) (1 + position_or_len (λ (k : List ℕ × Kind). bytes_eq name k.0) (map global_of gs)) 0) is;
            within = omega arith;
            declared = ap (λ c. cond c (Some (global_of g)) later) is;
            holds = refl;
            there = refl;
            fits = both.0;
            put = λ u z fits. all_fit s g gs u vs z ys fits both.1;
          }
      by false is more =
          let r = more (ap (λ c. is_some (cond c (Some (global_of g)) later)) (sym is) ∙ e) in
          record {
            number = suc r.number;
            global = r.global;
            value = r.value;
            word = r.word;
            by_program = ap (λ c. cond (not c) (1 + position_or_len (λ (k : List ℕ × RType). bytes_eq name k.0) gs) 0) is ∙ (ap (λ z. 1 + z) r.by_program ∙ omega arith);
            by_text = ap (λ c. cond (not c) (1 + position_or_len (λ (k : List ℕ × Kind). bytes_eq name k.0) (map global_of gs)) 0) is ∙ (ap (λ z. 1 + z) r.by_text ∙ omega arith);
            within = omega (arith, r.within);
            declared = ap (λ c. cond c (Some (global_of g)) later) is ∙ r.declared;
            holds = r.holds;
            there = r.there;
            fits = r.fits;
            put = λ u z fits. all_fit s g gs v (slice_set vs r.number u) y (slice_set ys r.number z) both.0 (r.put u z fits);
          }

by_number : (i n size : ℕ) → i ≡ n → n < size → cond (nat_lt i size) (Some i) None ≡ Some n
by_number i n size same within =
    ap (λ k. cond (nat_lt k size) (Some k) None) same ∙ ap (λ c. cond c (Some n) None) (lt-ltb n size within)

module _ (p : Program) (code : Code) (globals : code.globals ≡ map global_of p.globals) (w : World) (s : MachineState) (world : WorldFits p w s) (name : List ℕ) (known : is_some (kind_of_global code name) ≡ true) where
  is_there : (o : Option (List ℕ × Kind)) → is_some (option_map (λ (g : List ℕ × Kind). g.1) o) ≡ true → is_some o ≡ true
  is_there None e = absurd (cc)
  is_there (Some g) e = refl

  abbrev look_up : List (List ℕ × Kind) → Option Kind
  look_up gs = option_map (λ (g : List ℕ × Kind). g.1) (find (λ (g : List ℕ × Kind). bytes_eq name g.0) gs)

  pub the_global : Found s name p.globals w.globals s.globals
  the_global =
      found s name p.globals w.globals s.globals world.globals (is_there (find (λ (g : List ℕ × Kind). bytes_eq name g.0) (map global_of p.globals)) (subst (λ gs. is_some (look_up gs) ≡ true) globals known))

  pub kind_is_there : kind_of_global code name ≡ Some (kind_of_type the_global.global.1)
  kind_is_there = ap look_up globals ∙ ap (option_map (λ (g : List ℕ × Kind). g.1)) the_global.declared

  number_in_program : number_of_global p name ≡ Some the_global.number
  number_in_program =
      by_number (position_or_len (λ (g : List ℕ × RType). bytes_eq name g.0) p.globals) the_global.number (length p.globals) the_global.by_program the_global.within

  abbrev place_in : List (List ℕ × Kind) → Option ℕ
  place_in gs =
      let i : ℕ = position_or_len (λ (g : List ℕ × Kind). bytes_eq name g.0) gs in cond (nat_lt i (length gs)) (Some i) None

  number_is_same : number_in_text code name ≡ Some the_global.number
  number_is_same =
      ap place_in globals
      ∙ by_number (position_or_len (λ (g : List ℕ × Kind). bytes_eq name g.0) (map global_of p.globals)) the_global.number (length (map global_of p.globals)) the_global.by_text (subst (λ n. the_global.number < n) (sym (size_map global_of p.globals)) the_global.within)

  held_by_program : program.global_at p w name ≡ Some the_global.value
  held_by_program = ap (option_and_then (slice_get w.globals)) number_in_program ∙ the_global.holds

  held_by_text : steps.global_at code s name ≡ Some the_global.word
  held_by_text = ap (option_and_then (slice_get s.globals)) number_is_same ∙ the_global.there

  -- ---- the rows
  abbrev t : RType
  t = the_global.global.1

  abbrev k : Kind
  k = kind_of_type t

  got_row : (v : Option Value) (y : Option Word) → PlaceFits s t v y → Agrees p w s (Some t) (program.got name (Some v) w) (steps.got name (Some k) (Some y))
  got_row None None fits =
      both_fail (Some t) _ (error_word k) (λ u is. let same : t ≡ u = cc in subst (λ z. Fits s z (error_of z) (error_word k)) same (error_fits s t))
  got_row None (Some y) fits = absurd fits
  got_row (Some v) None fits = absurd fits
  got_row (Some v) (Some y) fits = both_share t v y fits

  pub get_row : Agrees p w s (Some t) (program.effect p (prim.Global global.Get) (Written (arg.Global name) ∷ []) w) (steps.effect code s (prim.Global global.Get) (machines.Written (c_arg.Global name) ∷ []))
  get_row =
      subst (λ o. Agrees p w s (Some t) (program.got name o w) (steps.got name (kind_of_global code name) (steps.global_at code s name))) (sym held_by_program)
      (subst (λ o. Agrees p w s (Some t) (program.got name (Some the_global.value) w) (steps.got name o (steps.global_at code s name))) (sym kind_is_there)
      (subst (λ o. Agrees p w s (Some t) (program.got name (Some the_global.value) w) (steps.got name (Some k) o)) (sym held_by_text) (got_row the_global.value the_global.word the_global.fits)))

  stored_row : (v : Option Value) (y : Option Word) → PlaceFits s t v y → Agrees p w s None (program.stored (number_of_global p name) (program.global_at p w name) v w) (steps.stored (number_in_text code name) (steps.global_at code s name) y)
  stored_row v y fits =
      let n : ℕ = the_global.number in
      let does : program.stored (number_of_global p name) (program.global_at p w name) v w ≡ program.Acts (record w { globals = slice_set w.globals n v }) =
      ap (λ o. program.stored o (program.global_at p w name) v w) number_in_program ∙ ap (λ o. program.stored (Some n) o v w) held_by_program in
      let says : steps.stored (number_in_text code name) (steps.global_at code s name) y ≡ steps.Stores n the_global.word y =
      ap (λ o. steps.stored o (steps.global_at code s name) y) number_is_same ∙ ap (λ o. steps.stored (Some n) o y) held_by_text in
      subst (λ x. Agrees p w s None x (steps.stored (number_in_text code name) (steps.global_at code s name) y)) (sym does) (subst (Agrees p w s None (program.Acts (record w { globals = slice_set w.globals n v }))) (sym says) (both_store n the_global.word y v (the_global.put v y fits)))

  pub clear_row : Agrees p w s None (program.effect p (prim.Global global.Clear) (Written (arg.Global name) ∷ []) w) (steps.effect code s (prim.Global global.Clear) (machines.Written (c_arg.Global name) ∷ []))
  clear_row = stored_row None None tt

  pub set_row : (v : Value) (y : Word) (x : machines.Argument) → word_in k x ≡ Some y → Fits s t (Holds v) y → Agrees p w s None (program.effect p (prim.Global global.Set) (Written (arg.Global name) ∷ Given v ∷ []) w) (steps.effect code s (prim.Global global.Set) (machines.Written (c_arg.Global name) ∷ x ∷ []))
  set_row v y x is fits =
      let says : steps.effect code s (prim.Global global.Set) (machines.Written (c_arg.Global name) ∷ x ∷ []) ≡ steps.stored (number_in_text code name) (steps.global_at code s name) (Some y) =
      ap (λ o. steps.set_to (number_in_text code name) (steps.global_at code s name) (option_and_then (λ k. word_in k x) o)) kind_is_there
      ∙ ap (steps.set_to (number_in_text code name) (steps.global_at code s name)) is in
      subst (Agrees p w s None (program.stored (number_of_global p name) (program.global_at p w name) (Some v) w)) (sym says) (stored_row (Some v) (Some y) fits)
