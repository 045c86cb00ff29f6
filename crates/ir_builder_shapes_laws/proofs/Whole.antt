-- A program that is built has its shape.
use Rattle.ir_builder_shapes_laws.proofs.Common.{◌≡◌, ◌≢◌, refl, sym, ◌∙◌, ap, subst, ℕ, zero, suc, ◌+◌, ◌-◌, ◌<◌, arith, Bool, true, false, cond, List, [], ◌∷◌, ◌++◌, length, length-append, Option, Some, None, slice_get, map, nat_le, ◌&&◌, ◌==◌, codes, list_all, position, option_map, option_map_or, bytes_eq, and_from, or_left, or_right, le-leb, eq-eqb, ne_eqb, length-map, slice_get_within, slice_get-map, Kind, Line, CFunc, label_places, is_identifier, is_char, is_leaving, is_turn_at, begins_right, jumps_fit, lines_lead_on, line_fits, function_fits, names_differ, class_fits, classes_fit, functions_fit, spelled_line, spelled_body, spelled_top, spelled_function, spelled_functions, spelled_globals, spelled_class, is_spelled, well_formed, RType, Op, Turn, Last, Block, Func, Program, Do, End, in_block, item_in, kind_of_type, variable_of, call_name, line_of, op_lines, end_lines, label_of, lines_from, name_in, lowered_as, lowered_from, lower, FuncsFit, BeginsInTurn, Shape, FunctionType, head_of_code, IsBuilt, IsFunction, IsProgram}
use Rattle.c_core.specs.declared.code.Line.TheVariants as line
use Rattle.c_core.specs.declared.code.CClass.{CClass}
use Rattle.c_core.specs.declared.code.Code.{Code}
use Rattle.ir_builder_shapes_laws.specs.Laws.{BuiltHasShape}
use Rattle.ir_builder_shapes_laws.proofs.BlockLemmas.{built_fits, funcs_fit, turns_begin}
use Rattle.ir_core.proofs.JumpLemmas.{jumps_go, last_leaves}
use Rattle.ir_builder_shapes_laws.proofs.SpellingLemmas.{identifier_parts, function_called_as}
use Rattle.ir_builder_shapes_laws.proofs.NameLemmas.{variables_differ, variables_spelled, global_names, globals_spelled, global_known, own_name, other_name, functions_differ}
use Rattle.ir_builder_shapes_laws.proofs.NumberLemmas.{function_at, number_is}
use Rattle.ir_builder_shapes_laws.proofs.LineLemmas.{LinesAre, lines_spelled, lines_fit, Callee, blocks_are}

get_front : {A : Type 0} (xs ys : List A) (n : ℕ) (x : A) → slice_get xs n ≡ Some x → slice_get (xs ++ ys) n ≡ Some x
get_front [] ys n x e = let f : None ≡ Some x = e in absurd (cc)
get_front (y ∷ xs) ys zero x e = e
get_front (y ∷ xs) ys (suc n) x e = get_front xs ys n x e

spelled_more : (g : CFunc) (gs : List CFunc) → spelled_function g ≡ true → spelled_functions gs ≡ true → spelled_functions (g ∷ gs) ≡ true
spelled_more g [] one more = absurd (cc)
spelled_more g (h ∷ gs) one more = and_from (spelled_function g) (spelled_functions (h ∷ gs)) one more

module _ (p : Program) where
  -- ---- a function that begins with a turn
  first_turn : {source : ℕ} (ops : List (Op × ℕ)) (last : Last) (rest more : List Line) → in_block ops last 0 ≡ Some (Do Turn source) → slice_get ((op_lines p ops ++ rest) ++ more) 0 ≡ Some line.Turn
  first_turn {source} [] last rest more e = let f : Some (End last) ≡ Some (Do Turn source) = e in absurd (cc)
  first_turn {source} (o ∷ os) last rest more e =
      let f : Some (Do o.0 o.1) ≡ Some (Do Turn source) = e in
      let same : o.0 ≡ Turn = cc in
      ap (λ x. Some (line_of p x)) same

  turn_first : {source : ℕ} (bs : List Block) → item_in bs 0 0 ≡ Some (Do Turn source) → slice_get (lines_from p 0 bs) 0 ≡ Some line.Turn
  turn_first {source} [] e = let f : None ≡ Some (Do Turn source) = e in absurd (cc)
  turn_first (b ∷ bs) e = first_turn b.ops b.last (end_lines label_of 0 b.last) (lines_from p 1 bs) e

  module _ (is : IsProgram p) where
    abbrev fs : List Func
    fs = is.functions

    abbrev own : Func
    own = is.own

    abbrev heads : List FunctionType
    heads = map head_of_code fs

    count : suc (length fs) ≡ length p.funcs
    count = let e : length p.funcs ≡ length (fs ++ own ∷ []) = ap length is.are in omega (arith, e, length-append fs (own ∷ []))

    spelled_name : (k : ℕ) (f : Func) → slice_get fs k ≡ Some f → is_identifier f.name ≡ true
    spelled_name k f e = (is.each k f e).name

    names : names_differ (map (λ (g : CFunc). g.name) (lower p).funcs) ≡ true
    names =
        subst (λ (xs : List Func). names_differ (map (λ (g : CFunc). g.name) (lowered_from p 0 xs)) ≡ true) (sym is.are) (functions_differ p own fs count spelled_name is.differ)

    -- ---- calls
    callee_by : (regs : List (List ℕ × RType)) (n : ℕ) (h : FunctionType) (o : Option Func) → slice_get fs n ≡ o → option_map head_of_code o ≡ Some h → Callee regs p n h
    callee_by regs n h None e f = absurd (cc)
    callee_by regs n h (Some f) e k =
        let head : Some (head_of_code f) ≡ Some h = k in
        let lt : n < length fs = slice_get_within fs n f e in
        let ne : suc n ≢ length p.funcs = omega (arith, lt, count) in
        let there : slice_get p.funcs n ≡ Some f = subst (λ xs. slice_get xs n ≡ Some f) (sym is.are) (get_front fs (own ∷ []) n f e) in
        let id : is_identifier f.name ≡ true = spelled_name n f e in
        let name : name_in p n f ≡ f.name = other_name p n f ne id in
        let at : slice_get (lower p).funcs n ≡ Some (lowered_as p (name_in p n f) f) = function_at p n f there in
        let same : head_of_code f ≡ h = cc in
        record {
          func = f;
          named_as = name_in p n f;
          head = same;
          identifier = id;
          called =
              ap (λ b. cond b [] (option_map_or call_name (slice_get p.funcs n) [])) (ne_eqb (suc n) (length p.funcs) ne)
              ∙ (ap (λ o. option_map_or call_name o []) there ∙ ap (λ x. codes "CPyDef_" ++ x) (function_called_as f.name id));
          number =
              ap (λ c. cond c None (position (λ (g : CFunc). bytes_eq f.name g.name) (lower p).funcs)) (identifier_parts f.name id).some
              ∙ number_is (lower p).funcs f.name n (lowered_as p (name_in p n f) f) names at name;
          there = at;
        }

    callee : (regs : List (List ℕ × RType)) (n : ℕ) (h : FunctionType) → slice_get heads n ≡ Some h → Callee regs p n h
    callee regs n h e = callee_by regs n h (slice_get fs n) refl (sym (slice_get-map head_of_code fs n) ∙ e)

    -- ---- each function
    module _ (f : Func) (b : IsBuilt heads p.globals f) where
      lines_are : LinesAre f.regs p (kind_of_type f.ret) (lines_from p 0 f.blocks)
      lines_are =
          blocks_are f.regs p (record { heads = heads; globals = p.globals; variables = b.variables; ret = f.ret }) (callee f.regs)
          (λ n name t e. global_known p is.globals is.globals_differ n name t e)
          (length f.blocks) b.few 0 f.blocks (omega arith) (built_fits heads p.globals f b) b.kinds

      body_spelled : (name : List ℕ) → spelled_body (lowered_as p name f) ≡ true
      body_spelled name =
          and_from (list_all (λ (v : List ℕ × Kind). is_identifier v.0) (map variable_of f.regs)) (list_all (spelled_line (map variable_of f.regs)) (lines_from p 0 f.blocks))
          (variables_spelled b.variables f.regs b.named b.identifiers)
          (lines_spelled f.regs p (kind_of_type f.ret) (lines_from p 0 f.blocks) lines_are)

      params_there : nat_le f.params (length (map variable_of f.regs)) ≡ true
      params_there = le-leb f.params (length (map variable_of f.regs)) (omega (arith, length-map f.regs variable_of, b.params, b.within))

      lead_on : lines_lead_on (lines_from p 0 f.blocks) ≡ true
      lead_on =
          let ls : List Line = lines_from p 0 f.blocks in
          and_from (jumps_fit (label_places ls) 0 false ls) (is_leaving (slice_get ls (length ls - 1)))
          (jumps_go p f.blocks (built_fits heads p.globals f b)) (last_leaves p f.blocks (omega (arith, b.blocks)))

      fits : (name : List ℕ) → begins_right (lowered_as p name f) ≡ true → function_fits (lower p) (lowered_as p name f) ≡ true
      fits name begins =
          let g : CFunc = lowered_as p name f in
          and_from (names_differ (map (λ (v : List ℕ × Kind). v.0) g.vars)) (list_all (line_fits (lower p) g.vars g.ret) g.lines && (lines_lead_on g.lines && begins_right g))
          (variables_differ f.regs b.differ)
          (and_from (list_all (line_fits (lower p) g.vars g.ret) g.lines) (lines_lead_on g.lines && begins_right g)
          (lines_fit f.regs p (kind_of_type f.ret) (lines_from p 0 f.blocks) lines_are)
          (and_from (lines_lead_on g.lines) (begins_right g) lead_on begins))

    -- ---- all functions
    spelled_one : (n : ℕ) (f : Func) → IsFunction heads p.globals f → suc n ≢ length p.funcs → spelled_function (lowered_as p (name_in p n f) f) ≡ true
    spelled_one n f b ne =
        let name : List ℕ = name_in p n f in
        and_from (is_identifier name) (nat_le f.params (length (map variable_of f.regs)) && spelled_body (lowered_as p name f))
        (ap is_identifier (other_name p n f ne b.name) ∙ b.name)
        (and_from (nat_le f.params (length (map variable_of f.regs))) (spelled_body (lowered_as p name f)) (params_there f b.built) (body_spelled f b.built name))

    fits_one : (n : ℕ) (f : Func) → IsFunction heads p.globals f → function_fits (lower p) (lowered_as p (name_in p n f) f) ≡ true
    fits_one n f b =
        let name : List ℕ = name_in p n f in
        fits f b.built name (or_right (bytes_eq name []) (is_turn_at (slice_get (lines_from p 0 f.blocks) 0)) (ap is_turn_at (turn_first f.blocks b.turn.1)))

    spelled_own : (n : ℕ) → suc n ≡ length p.funcs → spelled_top (lowered_as p (name_in p n own) own) ≡ true
    spelled_own n e =
        let name : List ℕ = name_in p n own in
        and_from (bytes_eq name []) (is_char (kind_of_type own.ret) && ((own.params == 0) && spelled_body (lowered_as p name own)))
        (ap (λ x. bytes_eq x []) (own_name p n own e))
        (and_from (is_char (kind_of_type own.ret)) ((own.params == 0) && spelled_body (lowered_as p name own))
        (ap (λ t. is_char (kind_of_type t)) is.own_built.ret)
        (and_from (own.params == 0) (spelled_body (lowered_as p name own)) (eq-eqb own.params 0 is.own_built.params) (body_spelled own is.own_built.built name)))

    fits_own : (n : ℕ) → suc n ≡ length p.funcs → function_fits (lower p) (lowered_as p (name_in p n own) own) ≡ true
    fits_own n e =
        let name : List ℕ = name_in p n own in
        fits own is.own_built.built name (or_left (bytes_eq name []) (is_turn_at (slice_get (lines_from p 0 own.blocks) 0)) (ap (λ x. bytes_eq x []) (own_name p n own e)))

    all_spelled : (xs : List Func) (n : ℕ) → n + suc (length xs) ≡ length p.funcs → ((k : ℕ) (f : Func) → slice_get xs k ≡ Some f → IsFunction heads p.globals f) → spelled_functions (lowered_from p n (xs ++ own ∷ [])) ≡ true
    all_spelled [] n e each = spelled_own n (omega (arith, e))
    all_spelled (f ∷ xs) n e each =
        spelled_more (lowered_as p (name_in p n f) f) (lowered_from p (suc n) (xs ++ own ∷ []))
        (spelled_one n f (each 0 f refl) (omega (arith, e)))
        (all_spelled xs (suc n) (omega (arith, e)) (λ k g i. each (suc k) g i))

    all_fit : (xs : List Func) (n : ℕ) → n + suc (length xs) ≡ length p.funcs → ((k : ℕ) (f : Func) → slice_get xs k ≡ Some f → IsFunction heads p.globals f) → list_all (function_fits (lower p)) (lowered_from p n (xs ++ own ∷ [])) ≡ true
    all_fit [] n e each = and_from (function_fits (lower p) (lowered_as p (name_in p n own) own)) true (fits_own n (omega (arith, e))) refl
    all_fit (f ∷ xs) n e each =
        and_from (function_fits (lower p) (lowered_as p (name_in p n f) f)) (list_all (function_fits (lower p)) (lowered_from p (suc n) (xs ++ own ∷ [])))
        (fits_one n f (each 0 f refl))
        (all_fit xs (suc n) (omega (arith, e)) (λ k g i. each (suc k) g i))

    well : well_formed (lower p) ≡ true
    well =
        let code : Code = lower p in
        let all : Bool = list_all (function_fits code) code.funcs in
        let differ : Bool = names_differ (map (λ (g : CFunc). g.name) code.funcs) in
        let spelled : spelled_functions code.funcs ≡ true = subst (λ (xs : List Func). spelled_functions (lowered_from p 0 xs) ≡ true) (sym is.are) (all_spelled fs 0 (omega (arith, count)) is.each) in
        let fit : all ≡ true = subst (λ (xs : List Func). list_all (function_fits code) (lowered_from p 0 xs) ≡ true) (sym is.are) (all_fit fs 0 (omega (arith, count)) is.each) in
        let functions : functions_fit code ≡ true = and_from differ all names fit in
        let classes : classes_fit code ≡ true = ap (λ ks. names_differ (map (λ (k : CClass). k.name) ks) && list_all (class_fits code) ks) is.classes in
        and_from (is_spelled code) (names_differ (map (λ (v : List ℕ × Kind). v.0) code.globals) && (classes_fit code && functions_fit code))
        (and_from (spelled_globals code.globals) (list_all spelled_class code.classes && spelled_functions code.funcs) (globals_spelled p.globals is.globals)
        (and_from (list_all spelled_class code.classes) (spelled_functions code.funcs) (ap (list_all spelled_class) is.classes) spelled))
        (and_from (names_differ (map (λ (v : List ℕ × Kind). v.0) code.globals)) (classes_fit code && functions_fit code) (ap names_differ (global_names p.globals) ∙ is.globals_differ)
        (and_from (classes_fit code) (functions_fit code) classes functions))

    shape_of : Shape p
    shape_of = record {
      funcs =
          subst FuncsFit (sym is.are) (funcs_fit own fs (λ n f e. built_fits heads p.globals f (is.each n f e).built) (built_fits heads p.globals own is.own_built.built));
      turns = subst BeginsInTurn (sym is.are) (turns_begin own fs (λ n f e. (is.each n f e).turn));
      lowered = well;
    }

pub built_has_shape : BuiltHasShape
built_has_shape p is = shape_of p is
