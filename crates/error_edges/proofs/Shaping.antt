-- A program with edges has its shape.
use Rattle.std.proofs.Common.{◌≡◌, refl, sym, ◌∙◌, ap, subst, ℕ, zero, suc, ◌+◌, ◌-◌, ◌<◌, ◌≤◌, arith, true, false, not, cond, List, [], ◌∷◌, ◌++◌, length, length-append, map, take, Option, Some, None}
use Rattle.std.specs.Prelude.{slice_get, ◌&&◌, nat_lt, nat_le, nat_eq, ◌==◌, codes}
use Rattle.std.specs.List.{list_all, position_or_len}
use Rattle.std.specs.Option.{option_map_or, option_and_then}
use Rattle.std.specs.Str.{bytes_eq}
use Rattle.std.proofs.lemmas.Bool.{and_from, and_parts, or_left, or_right, le-leb, leb-true, eq-eqb, eqb-true}
use Rattle.std.proofs.lemmas.List.{length-map}
use Rattle.c_core.specs.declared.code.Kind.{Kind}
use Rattle.c_core.specs.declared.code.Line.TheVariants as line
use Rattle.c_core.specs.declared.code.CFunc.{CFunc}
use Rattle.c_core.specs.Functions.{label_places, after_prefix, number_of as number_named, function_named, parameter_kinds}
use Rattle.c_core.specs.WellFormed.{Declared as Variable, is_identifier, is_char, is_leaving, is_turn_at, begins_right, jumps_fit, lines_lead_on, line_fits, function_fits, names_differ, classes_fit, functions_fit, spelled_line, spelled_body, spelled_top, spelled_function, spelled_functions, spelled_globals, spelled_class, is_spelled}
use Rattle.ir_core.specs.declared.code.RType.TheVariants.{Bool as BoolType}
use Rattle.ir_core.specs.declared.code.Op.{Op}
use Rattle.ir_core.specs.declared.code.Op.TheVariants.{Turn}
use Rattle.ir_core.specs.declared.code.Last.{Last}
use Rattle.ir_core.specs.declared.code.Block.{Block}
use Rattle.ir_core.specs.declared.code.Func.{Func}
use Rattle.ir_core.specs.declared.code.Program.{Program}
use Rattle.ir_core.specs.Items.{Do, in_block, item_of, item_in}
use Rattle.ir_core.specs.Names.{function_id}
use Rattle.ir_core.specs.Lower.{kind_of_type, variable_of, global_of, call_name, called_as, op_lines, end_lines, label_of, lines_from, lowered_as, name_in, lowered_from, lower}
use Rattle.ir_core.specs.Shape.{FuncFits, FuncsFit, BeginsInTurn, Shape}
use Rattle.ir_core.proofs.JumpLemmas.{jumps_go, last_leaves}
use Rattle.ir_core.proofs.TextLemmas.{LinesAre, lines_from_all, all_spelled, all_fit}
use Rattle.ir_core.proofs.ClassLemmas.{classes_same}
use Rattle.error_edges.specs.Layout.{needs_flag, needs_exit, number_at, exit_blocks, chains}
use Rattle.error_edges.specs.Edged.{IsEdged, AreEdged, IsEdgedProgram, HasEdges, EachHasEdges}
use Rattle.error_edges.proofs.FunctionLemmas.{each_count}
use Rattle.error_edges.proofs.Numbers.{starts_in, end_in, laid_same}
use Rattle.error_edges.proofs.LayoutLemmas.{chains_count}
use Rattle.error_edges.proofs.BlockShapes.{end_below}
use Rattle.error_edges.proofs.Laid.{FunctionLaid, BlockStands}
use Rattle.error_edges.proofs.Laying.{more_regs, function_laid}
use Rattle.error_edges.proofs.LineLemmas.{CodeKept}
use Rattle.error_edges.proofs.SpellingLemmas.{map_append, AreNamed, grown_named}
use Rattle.error_edges.proofs.Giving.{BlocksGive, blocks_of}
use Rattle.error_edges.proofs.FunctionShapes.{func_fits, function_lines}
use Rattle.error_edges.proofs.Standing.{has_edges}

-- ---- the first operation stays
first_turn : (ops : List (Op × ℕ)) (last : Last) {source : ℕ} → in_block ops last 0 ≡ Some (Do Turn source) → (rest : List (Op × ℕ)) × (ops ≡ (Turn, source) ∷ rest)
first_turn [] last e = absurd (cc)
first_turn (o ∷ rest) last {source} e = let op : o.0 ≡ Turn = cc in let at : o.1 ≡ source = cc in (rest, ap (λ x. (x, o.1) ∷ rest) op ∙ ap (λ l. (Turn, l) ∷ rest) at)

turn_stays : (f g : Func) {source : ℕ} → FunctionLaid f g → item_in f.blocks 0 0 ≡ Some (Do Turn source) → item_in g.blocks 0 0 ≡ Some (Do Turn source)
turn_stays f g {source} laid e = by (slice_get f.blocks 0) refl
  where
    by : (b : Option Block) → slice_get f.blocks 0 ≡ b → item_in g.blocks 0 0 ≡ Some (Do Turn source)
    by None is = let k : None ≡ Some (Do Turn source) = sym (ap (λ b. item_of b 0) is) ∙ e in absurd (cc)
    by (Some b) is =
        let found = first_turn b.ops b.last (sym (ap (λ b. item_of b 0) is) ∙ e) in
        let stands : BlockStands f g laid.start laid.exit b ((Turn, source) ∷ found.0) b.last 0 0 =
        subst (λ n. BlockStands f g laid.start laid.exit b ((Turn, source) ∷ found.0) b.last n 0) laid.entry
        (subst (λ ops. BlockStands f g laid.start laid.exit b ops b.last (laid.start 0) 0) found.1 (laid.blocks 0 b is)) in
        stands.0

-- and so does the line
turn_line : (p : Program) (bs : List Block) {source : ℕ} → item_in bs 0 0 ≡ Some (Do Turn source) → slice_get (lines_from p 0 bs) 0 ≡ Some line.Turn
turn_line p [] e = absurd (cc)
turn_line p (b ∷ bs) e =
    let found = first_turn b.ops b.last e in
    ap (λ ops. slice_get ((op_lines p ops ++ end_lines label_of 0 b.last) ++ lines_from p 1 bs) 0) found.1

-- ---- lists
take_front : {A : Type 0} (n : ℕ) (xs ys : List A) → n ≤ length xs → take n (xs ++ ys) ≡ take n xs
take_front zero xs ys le = refl
take_front (suc n) [] ys le = absurd (omega (arith, le))
take_front (suc n) (x ∷ xs) ys le = ap (λ l. x ∷ l) (take_front n xs ys (omega (arith, le)))

module _ (p q : Program) (edged : IsEdgedProgram p q) (shape : Shape p) where
  count : length q.funcs ≡ length p.funcs
  count = each_count p.funcs q.funcs edged.funcs

  -- ---- names
  name_same : (n : ℕ) (f g : Func) → IsEdged f g → name_in q n g ≡ name_in p n f
  name_same n f g e =
      ap (λ c. cond (nat_eq (suc n) c) [] (function_id g.name)) count
      ∙ ap (λ name. cond (nat_eq (suc n) (length p.funcs)) [] (function_id name)) e.name

  names_same : (n : ℕ) (fs gs : List Func) → AreEdged fs gs → map (λ (c : CFunc). c.name) (lowered_from q n gs) ≡ map (λ (c : CFunc). c.name) (lowered_from p n fs)
  names_same n [] [] all = refl
  names_same n [] (g ∷ gs) all = absurd all
  names_same n (f ∷ fs) [] all = absurd all
  names_same n (f ∷ fs) (g ∷ gs) all =
      ap (λ name. name ∷ map (λ (c : CFunc). c.name) (lowered_from q (suc n) gs)) (name_same n f g all.0)
      ∙ ap (λ l. name_in p n f ∷ l) (names_same (suc n) fs gs all.1)

  lowered_count : (r : Program) (n : ℕ) (fs : List Func) → length (lowered_from r n fs) ≡ length fs
  lowered_count r n [] = refl
  lowered_count r n (f ∷ fs) = ap suc (lowered_count r (suc n) fs)

  place_same : (name : List ℕ) (n : ℕ) (fs gs : List Func) → AreEdged fs gs → position_or_len (λ (c : CFunc). bytes_eq name c.name) (lowered_from q n gs) ≡ position_or_len (λ (c : CFunc). bytes_eq name c.name) (lowered_from p n fs)
  place_same name n [] [] all = refl
  place_same name n [] (g ∷ gs) all = absurd all
  place_same name n (f ∷ fs) [] all = absurd all
  place_same name n (f ∷ fs) (g ∷ gs) all =
      ap (λ x. cond (not (bytes_eq name x)) (1 + position_or_len (λ (c : CFunc). bytes_eq name c.name) (lowered_from q (suc n) gs)) 0) (name_same n f g all.0)
      ∙ ap (λ m. cond (not (bytes_eq name (name_in p n f))) (1 + m) 0) (place_same name (suc n) fs gs all.1)

  number_same : (name : List ℕ) → number_named (lower q).funcs name ≡ number_named (lower p).funcs name
  number_same name =
      let place : ℕ = position_or_len (λ (c : CFunc). bytes_eq name c.name) (lower p).funcs in
      let size : length (lower q).funcs ≡ length (lower p).funcs = lowered_count q 0 q.funcs ∙ (count ∙ sym (lowered_count p 0 p.funcs)) in
      ap (λ m. cond (bytes_eq name []) None (cond (nat_lt m (length (lower q).funcs)) (Some m) None)) (place_same name 0 p.funcs q.funcs edged.funcs)
      ∙ ap (λ m. cond (bytes_eq name []) None (cond (nat_lt place m) (Some place) None)) size

  named_same : (name : List ℕ) → function_named (lower q).funcs name ≡ function_named (lower p).funcs name
  named_same name = by (after_prefix (codes "CPyDef_") name)
    where
      by : (o : Option (List ℕ)) → option_and_then (number_named (lower q).funcs) o ≡ option_and_then (number_named (lower p).funcs) o
      by None = refl
      by (Some x) = number_same x

  calls_same : (n : ℕ) → called_as q n ≡ called_as p n
  calls_same n =
      ap (λ m. cond (nat_eq (suc n) m) [] (option_map_or call_name (slice_get q.funcs n) [])) count
      ∙ ap (λ name. cond (nat_eq (suc n) (length p.funcs)) [] name) (by p.funcs q.funcs n edged.funcs)
    where
      by : (fs gs : List Func) (n : ℕ) → AreEdged fs gs → option_map_or call_name (slice_get gs n) [] ≡ option_map_or call_name (slice_get fs n) []
      by [] [] n all = refl
      by [] (g ∷ gs) n all = absurd all
      by (f ∷ fs) [] n all = absurd all
      by (f ∷ fs) (g ∷ gs) zero all = ap (λ name. codes "CPyDef_" ++ function_id name) all.0.name
      by (f ∷ fs) (g ∷ gs) (suc n) all = by fs gs n all.1

  -- ---- the C text of the program
  parts : (is_spelled (lower p) ≡ true) × ((names_differ (map (λ v. v.0) (lower p).globals) && (classes_fit (lower p) && functions_fit (lower p))) ≡ true)
  parts =
      and_parts (is_spelled (lower p)) (names_differ (map (λ v. v.0) (lower p).globals) && (classes_fit (lower p) && functions_fit (lower p))) shape.lowered

  globals_spelled : (spelled_globals (lower p).globals ≡ true) × ((list_all spelled_class p.classes && spelled_functions (lower p).funcs) ≡ true)
  globals_spelled =
      and_parts (spelled_globals (lower p).globals) (list_all spelled_class p.classes && spelled_functions (lower p).funcs) parts.0

  classes_spelled : (list_all spelled_class p.classes ≡ true) × (spelled_functions (lower p).funcs ≡ true)
  classes_spelled = and_parts (list_all spelled_class p.classes) (spelled_functions (lower p).funcs) globals_spelled.1

  globals_differ : (names_differ (map (λ v. v.0) (lower p).globals) ≡ true) × ((classes_fit (lower p) && functions_fit (lower p)) ≡ true)
  globals_differ = and_parts (names_differ (map (λ v. v.0) (lower p).globals)) (classes_fit (lower p) && functions_fit (lower p)) parts.1

  old_fit : (classes_fit (lower p) ≡ true) × (functions_fit (lower p) ≡ true)
  old_fit = and_parts (classes_fit (lower p)) (functions_fit (lower p)) globals_differ.1

  functions_differ : (names_differ (map (λ g. g.name) (lower p).funcs) ≡ true) × (list_all (function_fits (lower p)) (lower p).funcs ≡ true)
  functions_differ =
      and_parts (names_differ (map (λ g. g.name) (lower p).funcs)) (list_all (function_fits (lower p)) (lower p).funcs) old_fit.1

  -- what is known of each of its functions
  abbrev text : ℕ → Func → CFunc
  text n f = lowered_as p (name_in p n f) f

  record IsGood (n : ℕ) (f : Func) : Type 0 where
    blocks : FuncFits f
    params : f.params ≤ length f.regs
    body : spelled_body (text n f) ≡ true
    fits : function_fits (lower p) (text n f) ≡ true

  abbrev AreGood : ℕ → List Func → Type 0
  AreGood n [] = Unit {0}
  AreGood n (f ∷ fs) = IsGood n f × AreGood (suc n) fs

  good_top : (n : ℕ) (f : Func) → FuncFits f → spelled_top (text n f) ≡ true → function_fits (lower p) (text n f) ≡ true → IsGood n f
  good_top n f blocks spelled fits =
      let c : CFunc = text n f in
      let one = and_parts (bytes_eq c.name []) (is_char c.ret && ((c.params == 0) && spelled_body c)) spelled in
      let two = and_parts (is_char c.ret) ((c.params == 0) && spelled_body c) one.1 in
      let three = and_parts (c.params == 0) (spelled_body c) two.1 in
      let none : f.params ≡ 0 = eqb-true f.params 0 three.0 in
      record { blocks = blocks; params = omega (arith, none); body = three.1; fits = fits }

  good_function : (n : ℕ) (f : Func) → FuncFits f → spelled_function (text n f) ≡ true → function_fits (lower p) (text n f) ≡ true → IsGood n f
  good_function n f blocks spelled fits =
      let c : CFunc = text n f in
      let one = and_parts (is_identifier c.name) (nat_le c.params (length c.vars) && spelled_body c) spelled in
      let two = and_parts (nat_le c.params (length c.vars)) (spelled_body c) one.1 in
      let le : f.params ≤ length (map variable_of f.regs) = leb-true f.params (length (map variable_of f.regs)) two.0 in
      record { blocks = blocks; params = omega (arith, le, length-map f.regs variable_of); body = two.1; fits = fits }

  all_good : (n : ℕ) (fs : List Func) → FuncsFit fs → spelled_functions (lowered_from p n fs) ≡ true → list_all (function_fits (lower p)) (lowered_from p n fs) ≡ true → AreGood n fs
  all_good n [] blocks spelled fits = tt
  all_good n (f ∷ []) blocks spelled fits =
      (good_top n f blocks.0 spelled (and_parts (function_fits (lower p) (text n f)) true fits).0, tt)
  all_good n (f ∷ g ∷ fs) blocks spelled fits =
      let one = and_parts (spelled_function (text n f)) (spelled_functions (lowered_from p (suc n) (g ∷ fs))) spelled in
      let two = and_parts (function_fits (lower p) (text n f)) (list_all (function_fits (lower p)) (lowered_from p (suc n) (g ∷ fs))) fits in
      (good_function n f blocks.0 one.0 two.0, all_good (suc n) (g ∷ fs) blocks.1 one.1 two.1)

  good : AreGood 0 p.funcs
  good = all_good 0 p.funcs shape.funcs classes_spelled.1 functions_differ.1

  -- ---- the functions of the new C text take and give the same
  kinds_same : (f g : Func) → IsEdged f g → f.params ≤ length f.regs → (a b : List ℕ) → parameter_kinds (lowered_as q a g) ≡ parameter_kinds (lowered_as p b f)
  kinds_same f g e le a b =
      let old : List Variable = map variable_of f.regs in
      let more = more_regs f g e in
      let all : map variable_of g.regs ≡ old ++ map variable_of more.0 = ap (map variable_of) more.1 ∙ map_append variable_of f.regs more.0 in
      ap (λ n. map (λ (v : Variable). v.1) (take n (map variable_of g.regs))) e.params
      ∙ (ap (λ vs. map (λ (v : Variable). v.1) (take f.params vs)) all
      ∙ ap (map (λ (v : Variable). v.1)) (take_front f.params old (map variable_of more.0) (omega (arith, le, length-map f.regs variable_of))))

  function_kept : (n : ℕ) (fs gs : List Func) → AreEdged fs gs → AreGood n fs → (i : ℕ) (c : CFunc) → slice_get (lowered_from p n fs) i ≡ Some c → (h : CFunc) × (slice_get (lowered_from q n gs) i ≡ Some h) × (parameter_kinds h ≡ parameter_kinds c) × (h.ret ≡ c.ret)
  function_kept n [] [] all known i c e = absurd (cc)
  function_kept n [] (g ∷ gs) all known i c e = absurd all
  function_kept n (f ∷ fs) [] all known i c e = absurd all
  function_kept n (f ∷ fs) (g ∷ gs) all known zero c e =
      let same : text n f ≡ c = cc in
      let h : CFunc = lowered_as q (name_in q n g) g in
      (h, refl, kinds_same f g all.0 known.0.params (name_in q n g) (name_in p n f) ∙ ap parameter_kinds same, ap kind_of_type all.0.ret ∙ ap (λ (x : CFunc). x.ret) same)
  function_kept n (f ∷ fs) (g ∷ gs) all known (suc i) c e = function_kept (suc n) fs gs all.1 known.1 i c e

  kept : CodeKept (lower p) (lower q)
  kept = record {
    globals = ap (map global_of) edged.globals;
    classes = edged.classes;
    named = named_same;
    funcs = function_kept 0 p.funcs q.funcs edged.funcs good;
  }

  -- ---- each function
  abbrev new_text : ℕ → Func → CFunc
  new_text n g = lowered_as q (name_in q n g) g

  record IsNew (n : ℕ) (g : Func) : Type 0 where
    blocks : FuncFits g
    params : g.params ≤ length g.regs
    body : spelled_body (new_text n g) ≡ true
    fits : begins_right (new_text n g) ≡ true → function_fits (lower q) (new_text n g) ≡ true

  has_blocks : (f : Func) → is_leaving (slice_get (lines_from p 0 f.blocks) (length (lines_from p 0 f.blocks) - 1)) ≡ true → 0 < length f.blocks
  has_blocks f e = by f.blocks e
    where
      by : (bs : List Block) → is_leaving (slice_get (lines_from p 0 bs) (length (lines_from p 0 bs) - 1)) ≡ true → 0 < length bs
      by [] e = absurd (cc)
      by (b ∷ bs) e = omega arith

  new_blocks : (f g : Func) → IsEdged f g → 0 < length f.blocks → 0 < length g.blocks
  new_blocks f g e some =
      let exit : ℕ = end_in f.regs f.blocks f.blocks 0 in
      let start : ℕ → ℕ = number_at (starts_in f.regs f.blocks f.blocks 0) exit in
      let main : List Block = chains f.regs f.blocks start exit f.blocks 0 in
      let all = length-append main (exit_blocks f.regs f.ret f.blocks) in
      let size : length g.blocks ≡ length (main ++ exit_blocks f.regs f.ret f.blocks) = ap length (e.blocks ∙ sym (laid_same f.regs f.ret f.blocks)) in
      omega (arith, some, size, all, chains_count f.regs f.blocks start exit f.blocks 0, end_below f.regs f.blocks f.blocks 0)

  -- the lines of an old one are spelled and fit
  old_lines : (n : ℕ) (f : Func) → IsGood n f → LinesAre (lower p) (map variable_of f.regs) (kind_of_type f.ret) (lines_from p 0 f.blocks)
  old_lines n f known =
      let c : CFunc = text n f in
      let body = and_parts (list_all (λ (v : Variable). is_identifier v.0) c.vars) (list_all (spelled_line c.vars) c.lines) known.body in
      let one = and_parts (names_differ (map (λ (v : Variable). v.0) c.vars)) (list_all (line_fits (lower p) c.vars c.ret) c.lines && (lines_lead_on c.lines && begins_right c)) known.fits in
      let two = and_parts (list_all (line_fits (lower p) c.vars c.ret) c.lines) (lines_lead_on c.lines && begins_right c) one.1 in
      lines_from_all (lower p) c.vars (kind_of_type f.ret) c.lines body.1 two.0

  -- so what their operations give is of their targets' types
  gives_at : (n : ℕ) (fs : List Func) → AreGood n fs → (i : ℕ) (f : Func) → slice_get fs i ≡ Some f → BlocksGive f.regs f.blocks
  gives_at n [] known i f e = absurd (cc)
  gives_at n (x ∷ fs) known zero f e =
      let same : x ≡ f = cc in
      subst (λ (z : Func). BlocksGive z.regs z.blocks) same (blocks_of (lower p) x.regs (kind_of_type x.ret) p 0 x.blocks (old_lines n x known.0))
  gives_at n (x ∷ fs) known (suc i) f e = gives_at (suc n) fs known.1 i f e

  pub all_give : (n : ℕ) (f : Func) → slice_get p.funcs n ≡ Some f → BlocksGive f.regs f.blocks
  all_give n f e = gives_at 0 p.funcs good n f e

  is_new : (n : ℕ) (f g : Func) → IsEdged f g → IsGood n f → IsNew n g
  is_new n f g e known =
      let c : CFunc = text n f in
      let d : CFunc = new_text n g in
      let ret : Kind = kind_of_type f.ret in
      let vars : List Variable = map variable_of g.regs in
      let body = and_parts (list_all (λ (v : Variable). is_identifier v.0) c.vars) (list_all (spelled_line c.vars) c.lines) known.body in
      let one = and_parts (names_differ (map (λ (v : Variable). v.0) c.vars)) (list_all (line_fits (lower p) c.vars c.ret) c.lines && (lines_lead_on c.lines && begins_right c)) known.fits in
      let two = and_parts (list_all (line_fits (lower p) c.vars c.ret) c.lines) (lines_lead_on c.lines && begins_right c) one.1 in
      let three = and_parts (lines_lead_on c.lines) (begins_right c) two.1 in
      let four = and_parts (jumps_fit (label_places c.lines) 0 false c.lines) (is_leaving (slice_get c.lines (length c.lines - 1))) three.0 in
      let was : LinesAre (lower p) c.vars ret c.lines = old_lines n f known in
      let blocks : FuncFits g = func_fits p q kept edged.classes calls_same f g e known.blocks was in
      let lines : LinesAre (lower q) vars ret d.lines = function_lines p q kept edged.classes calls_same f g e known.blocks was in
      let named : AreNamed g.regs =
      grown_named (needs_exit f.regs f.blocks) f.ret e.between g.regs e.error
      (grown_named (needs_flag f.regs f.blocks) BoolType f.regs e.between e.flag (record { spelled = body.0; differ = one.0 })) in
      let some : 0 < length g.blocks = new_blocks f g e (has_blocks f four.1) in
      let lead : lines_lead_on d.lines ≡ true =
      and_from (jumps_fit (label_places d.lines) 0 false d.lines) (is_leaving (slice_get d.lines (length d.lines - 1))) (jumps_go q g.blocks blocks) (last_leaves q g.blocks some) in
      let fit : list_all (line_fits (lower q) vars d.ret) d.lines ≡ true =
      ap (λ t. list_all (line_fits (lower q) vars (kind_of_type t)) d.lines) e.ret ∙ all_fit (lower q) vars ret d.lines lines in
      let more = more_regs f g e in
      record {
        blocks = blocks;
        params = omega (arith, known.params, e.params, ap length more.1, length-append f.regs more.0);
        body = and_from (list_all (λ (v : Variable). is_identifier v.0) vars) (list_all (spelled_line vars) d.lines) named.spelled (all_spelled (lower q) vars ret d.lines lines);
        fits = λ begins. and_from (names_differ (map (λ (v : Variable). v.0) vars)) (list_all (line_fits (lower q) vars d.ret) d.lines && (lines_lead_on d.lines && begins_right d)) named.differ (and_from (list_all (line_fits (lower q) vars d.ret) d.lines) (lines_lead_on d.lines && begins_right d) fit (and_from (lines_lead_on d.lines) (begins_right d) lead begins));
      }

  -- ---- all functions
  funcs_fit : (n : ℕ) (fs gs : List Func) → AreEdged fs gs → AreGood n fs → FuncsFit gs
  funcs_fit n [] [] all known = tt
  funcs_fit n [] (g ∷ gs) all known = absurd all
  funcs_fit n (f ∷ fs) [] all known = absurd all
  funcs_fit n (f ∷ fs) (g ∷ gs) all known = ((is_new n f g all.0 known.0).blocks, funcs_fit (suc n) fs gs all.1 known.1)

  turns_stay : (fs gs : List Func) → AreEdged fs gs → BeginsInTurn fs → BeginsInTurn gs
  turns_stay [] [] all turns = tt
  turns_stay [] (g ∷ gs) all turns = absurd all
  turns_stay (f ∷ fs) [] all turns = absurd all
  turns_stay (f ∷ []) (g ∷ []) all turns = tt
  turns_stay (f ∷ []) (g ∷ h ∷ gs) all turns = absurd all.1
  turns_stay (f ∷ d ∷ fs) (g ∷ []) all turns = absurd all.1
  turns_stay (f ∷ d ∷ fs) (g ∷ h ∷ gs) all turns =
      ((turns.0.0, turn_stays f g (function_laid f g all.0) turns.0.1), turns_stay (d ∷ fs) (h ∷ gs) all.1 turns.1)

  new_top : (n : ℕ) (f g : Func) → IsEdged f g → IsGood n f → spelled_top (text n f) ≡ true → spelled_top (new_text n g) ≡ true
  new_top n f g e known spelled =
      let c : CFunc = text n f in
      let d : CFunc = new_text n g in
      let one = and_parts (bytes_eq c.name []) (is_char c.ret && ((c.params == 0) && spelled_body c)) spelled in
      let two = and_parts (is_char c.ret) ((c.params == 0) && spelled_body c) one.1 in
      let three = and_parts (c.params == 0) (spelled_body c) two.1 in
      and_from (bytes_eq d.name []) (is_char d.ret && ((d.params == 0) && spelled_body d)) (ap (λ x. bytes_eq x []) (name_same n f g e) ∙ one.0)
      (and_from (is_char d.ret) ((d.params == 0) && spelled_body d) (ap (λ t. is_char (kind_of_type t)) e.ret ∙ two.0)
      (and_from (d.params == 0) (spelled_body d) (ap (λ m. m == 0) e.params ∙ three.0) (is_new n f g e known).body))

  new_function : (n : ℕ) (f g : Func) → IsEdged f g → IsGood n f → spelled_function (text n f) ≡ true → spelled_function (new_text n g) ≡ true
  new_function n f g e known spelled =
      let c : CFunc = text n f in
      let d : CFunc = new_text n g in
      let new : IsNew n g = is_new n f g e known in
      let one = and_parts (is_identifier c.name) (nat_le c.params (length c.vars) && spelled_body c) spelled in
      and_from (is_identifier d.name) (nat_le d.params (length d.vars) && spelled_body d) (ap is_identifier (name_same n f g e) ∙ one.0)
      (and_from (nat_le d.params (length d.vars)) (spelled_body d) (le-leb d.params (length d.vars) (omega (arith, new.params, length-map g.regs variable_of))) new.body)

  all_spelled_new : (n : ℕ) (fs gs : List Func) → AreEdged fs gs → AreGood n fs → spelled_functions (lowered_from p n fs) ≡ true → spelled_functions (lowered_from q n gs) ≡ true
  all_spelled_new n [] [] all known spelled = spelled
  all_spelled_new n [] (g ∷ gs) all known spelled = absurd all
  all_spelled_new n (f ∷ fs) [] all known spelled = absurd all
  all_spelled_new n (f ∷ []) (g ∷ []) all known spelled = new_top n f g all.0 known.0 spelled
  all_spelled_new n (f ∷ []) (g ∷ h ∷ gs) all known spelled = absurd all.1
  all_spelled_new n (f ∷ d ∷ fs) (g ∷ []) all known spelled = absurd all.1
  all_spelled_new n (f ∷ d ∷ fs) (g ∷ h ∷ gs) all known spelled =
      let both = and_parts (spelled_function (text n f)) (spelled_functions (lowered_from p (suc n) (d ∷ fs))) spelled in
      and_from (spelled_function (new_text n g)) (spelled_functions (lowered_from q (suc n) (h ∷ gs)))
      (new_function n f g all.0 known.0 both.0) (all_spelled_new (suc n) (d ∷ fs) (h ∷ gs) all.1 known.1 both.1)

  -- the module's own function has no name, and each other one begins with a turn
  own_begins : (n : ℕ) (g : Func) → suc n ≡ length q.funcs → begins_right (new_text n g) ≡ true
  own_begins n g e =
      let none : name_in q n g ≡ [] = ap (λ b. cond b [] (function_id g.name)) (eq-eqb (suc n) (length q.funcs) e) in
      or_left (bytes_eq (name_in q n g) []) (is_turn_at (slice_get (lines_from q 0 g.blocks) 0)) (ap (λ x. bytes_eq x []) none)

  turn_begins : (n : ℕ) (g : Func) {source : ℕ} → item_in g.blocks 0 0 ≡ Some (Do Turn source) → begins_right (new_text n g) ≡ true
  turn_begins n g e =
      or_right (bytes_eq (name_in q n g) []) (is_turn_at (slice_get (lines_from q 0 g.blocks) 0)) (ap is_turn_at (turn_line q g.blocks e))

  all_fit_new : (n : ℕ) (fs gs : List Func) → AreEdged fs gs → AreGood n fs → BeginsInTurn gs → n + length gs ≡ length q.funcs → list_all (function_fits (lower q)) (lowered_from q n gs) ≡ true
  all_fit_new n [] [] all known turns size = refl
  all_fit_new n [] (g ∷ gs) all known turns size = absurd all
  all_fit_new n (f ∷ fs) [] all known turns size = absurd all
  all_fit_new n (f ∷ fs) (g ∷ []) all known turns size =
      and_from (function_fits (lower q) (new_text n g)) true ((is_new n f g all.0 known.0).fits (own_begins n g (omega (arith, size)))) refl
  all_fit_new n (f ∷ fs) (g ∷ h ∷ gs) all known turns size =
      and_from (function_fits (lower q) (new_text n g)) (list_all (function_fits (lower q)) (lowered_from q (suc n) (h ∷ gs)))
      ((is_new n f g all.0 known.0).fits (turn_begins n g turns.0.1)) (all_fit_new (suc n) fs (h ∷ gs) all.1 known.1 turns.1 (omega (arith, size)))

  -- ---- behind each operation that can fail stands its edge
  edges_at : (n : ℕ) (fs gs : List Func) → AreEdged fs gs → AreGood n fs → (i : ℕ) (g : Func) → slice_get gs i ≡ Some g → HasEdges g
  edges_at n [] [] all known i g e = absurd (cc)
  edges_at n [] (h ∷ gs) all known i g e = absurd all
  edges_at n (f ∷ fs) [] all known i g e = absurd all
  edges_at n (f ∷ fs) (h ∷ gs) all known zero g e =
      let same : h ≡ g = cc in
      subst HasEdges same (has_edges p f h all.0 (lower p) (kind_of_type f.ret) (old_lines n f known.0))
  edges_at n (f ∷ fs) (h ∷ gs) all known (suc i) g e = edges_at (suc n) fs gs all.1 known.1 i g e

  pub each_has_edges : EachHasEdges q
  each_has_edges i g e = edges_at 0 p.funcs q.funcs edged.funcs good i g e

  pub shape_kept : Shape q
  shape_kept =
      let turns : BeginsInTurn q.funcs = turns_stay p.funcs q.funcs edged.funcs shape.turns in
      let names : map (λ (g : CFunc). g.name) (lower q).funcs ≡ map (λ (g : CFunc). g.name) (lower p).funcs = names_same 0 p.funcs q.funcs edged.funcs in
      let none : 0 + length q.funcs ≡ length q.funcs = omega arith in
      let fit : functions_fit (lower q) ≡ true =
      and_from (names_differ (map (λ (g : CFunc). g.name) (lower q).funcs)) (list_all (function_fits (lower q)) (lower q).funcs) (ap names_differ names ∙ functions_differ.0)
      (all_fit_new 0 p.funcs q.funcs edged.funcs good turns none) in
      let classes : classes_fit (lower q) ≡ true = classes_same (lower p) (lower q) edged.classes names ∙ old_fit.0 in
      let globals : spelled_globals (lower q).globals ≡ true = ap (λ gs. spelled_globals (map global_of gs)) edged.globals ∙ globals_spelled.0 in
      let differ : names_differ (map (λ (v : Variable). v.0) (lower q).globals) ≡ true = ap (λ gs. names_differ (map (λ (v : Variable). v.0) (map global_of gs))) edged.globals ∙ globals_differ.0 in
      let spelled : is_spelled (lower q) ≡ true =
      and_from (spelled_globals (lower q).globals) (list_all spelled_class q.classes && spelled_functions (lower q).funcs) globals
      (and_from (list_all spelled_class q.classes) (spelled_functions (lower q).funcs) (ap (list_all spelled_class) edged.classes ∙ classes_spelled.0) (all_spelled_new 0 p.funcs q.funcs edged.funcs good classes_spelled.1)) in
      record {
        funcs = funcs_fit 0 p.funcs q.funcs edged.funcs good;
        turns = turns;
        lowered = and_from (is_spelled (lower q)) (names_differ (map (λ (v : Variable). v.0) (lower q).globals) && (classes_fit (lower q) && functions_fit (lower q))) spelled (and_from (names_differ (map (λ (v : Variable). v.0) (lower q).globals)) (classes_fit (lower q) && functions_fit (lower q)) differ (and_from (classes_fit (lower q)) (functions_fit (lower q)) classes fit));
      }
