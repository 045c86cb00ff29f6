-- The C text of a program with its counts is well formed.
use Rattle.std.proofs.Common.{◌≡◌, refl, sym, ◌∙◌, ap, subst, ℕ, suc, ◌+◌, ◌-◌, ◌<◌, arith, true, false, List, [], ◌∷◌, length, map, Some}
use Rattle.std.specs.Prelude.{slice_get, ◌&&◌, nat_le, ◌==◌}
use Rattle.std.specs.List.{list_all}
use Rattle.std.specs.Str.{bytes_eq}
use Rattle.std.proofs.lemmas.Bool.{and_from, and_parts, or_left, or_right}
use Rattle.c_core.specs.declared.code.Line.TheVariants as line
use Rattle.c_core.specs.declared.code.CFunc.{CFunc}
use Rattle.c_core.specs.Functions.{label_places}
use Rattle.c_core.specs.WellFormed.{Declared as Variable, is_identifier, is_char, is_leaving, is_turn_at, begins_right, jumps_fit, lines_lead_on, line_fits, function_fits, names_differ, classes_fit, functions_fit, spelled_line, spelled_body, spelled_top, spelled_function, spelled_functions, spelled_globals, spelled_class, is_spelled, well_formed, WellFormed}
use Rattle.ir_core.specs.declared.code.Block.{Block}
use Rattle.ir_core.specs.declared.code.Func.{Func}
use Rattle.ir_core.specs.declared.code.Program.{Program}
use Rattle.ir_core.specs.Items.{Do, item_in}
use Rattle.ir_core.specs.declared.code.Op.TheVariants.{Turn}
use Rattle.ir_core.specs.Lower.{lines_from, lowered_from, lower}
use Rattle.ir_core.specs.Shape.{FuncFits, FuncsFit, BeginsInTurn, Shape}
use Rattle.ir_core.proofs.JumpLemmas.{last_leaves}
use Rattle.ir_core.proofs.TextLemmas.{LinesAre, lines_from_all, all_spelled, all_fit}
use Rattle.ir_core.proofs.ClassLemmas.{classes_same}
use Rattle.refcount_insert_rule.specs.Counted.{IsCountedFunc, AreCounted, IsCountedProgram}
use Rattle.refcount_insert_shapes_laws.specs.Laws.{CountedIsWellFormed}
use Rattle.refcount_insert_shapes_laws.proofs.Jumps.{jumps_lead}
use Rattle.refcount_insert_shapes_laws.proofs.Codes.{function_same}
use Rattle.refcount_insert_shapes_laws.proofs.Blocks.{BlocksAre, lasts_fit, blocks_are, some_blocks}
use Rattle.refcount_insert_shapes_laws.proofs.Begins.{begins}
use Rattle.refcount_insert_shapes_laws.proofs.Lines.{D, R, O, blocks_of, of_blocks, counts_are}
use Rattle.refcount_insert_shapes_laws.proofs.Functions.{text, new_text, new_from, new_code, code_is, code_bare, code_names}

has_blocks : (p : Program) (bs : List Block) → is_leaving (slice_get (lines_from p 0 bs) (length (lines_from p 0 bs) - 1)) ≡ true → 0 < length bs
has_blocks p [] e = absurd (cc)
has_blocks p (b ∷ bs) e = omega arith

module _ (p q : Program) (counted : IsCountedProgram p q) (shape : Shape p) where
  -- ---- one function
  record IsNew (n : ℕ) (f g : Func) : Type 0 where
    body : spelled_body (new_text p q counted n f g) ≡ true
    fits : begins_right (new_text p q counted n f g) ≡ true → function_fits (lower p) (new_text p q counted n f g) ≡ true

  is_new : (n : ℕ) (f g : Func) → IsCountedFunc f g → FuncFits f → spelled_body (text p q counted n f) ≡ true → function_fits (lower p) (text p q counted n f) ≡ true → IsNew n f g
  is_new n f g c blocks spelled fit =
      let old : CFunc = text p q counted n f in
      let new : CFunc = new_text p q counted n f g in
      let named = and_parts (list_all (λ (v : Variable). is_identifier v.0) old.vars) (list_all (spelled_line old.vars) old.lines) spelled in
      let one = and_parts (names_differ (map (λ (v : Variable). v.0) old.vars)) (list_all (line_fits (lower p) old.vars old.ret) old.lines && (lines_lead_on old.lines && begins_right old)) fit in
      let two = and_parts (list_all (line_fits (lower p) old.vars old.ret) old.lines) (lines_lead_on old.lines && begins_right old) one.1 in
      let three = and_parts (lines_lead_on old.lines) (begins_right old) two.1 in
      let four = and_parts (jumps_fit (label_places old.lines) 0 false old.lines) (is_leaving (slice_get old.lines (length old.lines - 1))) three.0 in
      let before : BlocksAre (D (lower p) old.vars old.ret p) (R (lower p) old.vars old.ret p) (O (lower p) old.vars old.ret p) (length f.blocks) 0 f.blocks =
      blocks_of (lower p) old.vars old.ret p (length f.blocks) 0 f.blocks blocks (lines_from_all (lower p) old.vars old.ret old.lines named.1 two.0) in
      let after : BlocksAre (D (lower p) old.vars old.ret p) (R (lower p) old.vars old.ret p) (O (lower p) old.vars old.ret p) (length g.blocks) 0 g.blocks =
      blocks_are (D (lower p) old.vars old.ret p) (R (lower p) old.vars old.ret p) (O (lower p) old.vars old.ret p) f c.tables c.number c.first c.at_start (counts_are (lower p) old.ret p f.regs) g.blocks c.blocks before in
      let none : 0 + length g.blocks ≡ length g.blocks = omega arith in
      let lines : LinesAre (lower p) old.vars old.ret new.lines = of_blocks (lower p) old.vars old.ret p (length g.blocks) c.few 0 g.blocks none after in
      let some : 0 < length g.blocks = some_blocks f c.tables c.number c.first c.at_start g.blocks c.blocks (has_blocks p f.blocks four.1) in
      let lead : lines_lead_on new.lines ≡ true =
      and_from (jumps_fit (label_places new.lines) 0 false new.lines) (is_leaving (slice_get new.lines (length new.lines - 1)))
      (jumps_lead p g.blocks (lasts_fit (D (lower p) old.vars old.ret p) (R (lower p) old.vars old.ret p) (O (lower p) old.vars old.ret p) (length g.blocks) 0 g.blocks after))
      (last_leaves p g.blocks some) in
      record {
        body = and_from (list_all (λ (v : Variable). is_identifier v.0) new.vars) (list_all (spelled_line new.vars) new.lines) named.0 (all_spelled (lower p) old.vars old.ret new.lines lines);
        fits = λ right. and_from (names_differ (map (λ (v : Variable). v.0) new.vars)) (list_all (line_fits (lower p) new.vars new.ret) new.lines && (lines_lead_on new.lines && begins_right new)) one.0 (and_from (list_all (line_fits (lower p) new.vars new.ret) new.lines) (lines_lead_on new.lines && begins_right new) (all_fit (lower p) old.vars old.ret new.lines lines) (and_from (lines_lead_on new.lines) (begins_right new) lead right));
      }

  -- the module's own function, which has no name
  new_top : (n : ℕ) (f g : Func) → IsCountedFunc f g → FuncFits f → spelled_top (text p q counted n f) ≡ true → function_fits (lower p) (text p q counted n f) ≡ true → (spelled_top (new_text p q counted n f g) ≡ true) × (function_fits (lower p) (new_text p q counted n f g) ≡ true)
  new_top n f g c blocks spelled fit =
      let old : CFunc = text p q counted n f in
      let new : CFunc = new_text p q counted n f g in
      let one = and_parts (bytes_eq old.name []) (is_char old.ret && ((old.params == 0) && spelled_body old)) spelled in
      let two = and_parts (is_char old.ret) ((old.params == 0) && spelled_body old) one.1 in
      let three = and_parts (old.params == 0) (spelled_body old) two.1 in
      let h : IsNew n f g = is_new n f g c blocks three.1 fit in (
        and_from (bytes_eq new.name []) (is_char new.ret && ((new.params == 0) && spelled_body new)) one.0
            (and_from (is_char new.ret) ((new.params == 0) && spelled_body new) two.0
            (and_from (new.params == 0) (spelled_body new) three.0 h.body)),
        h.fits (or_left (bytes_eq new.name []) (is_turn_at (slice_get new.lines 0)) one.0),
      )

  -- another one, which begins with a turn
  new_function : (n : ℕ) (f g : Func) {source : ℕ} → IsCountedFunc f g → FuncFits f → item_in f.blocks 0 0 ≡ Some (Do Turn source) → spelled_function (text p q counted n f) ≡ true → function_fits (lower p) (text p q counted n f) ≡ true → (spelled_function (new_text p q counted n f g) ≡ true) × (function_fits (lower p) (new_text p q counted n f g) ≡ true)
  new_function n f g c blocks turn spelled fit =
      let old : CFunc = text p q counted n f in
      let new : CFunc = new_text p q counted n f g in
      let one = and_parts (is_identifier old.name) (nat_le old.params (length old.vars) && spelled_body old) spelled in
      let two = and_parts (nat_le old.params (length old.vars)) (spelled_body old) one.1 in
      let h : IsNew n f g = is_new n f g c blocks two.1 fit in
      let first : slice_get new.lines 0 ≡ Some line.Turn = begins f turn c.tables c.number c.first c.at_start p (length f.blocks) g.blocks c.begins blocks c.blocks in (
        and_from (is_identifier new.name) (nat_le new.params (length new.vars) && spelled_body new) one.0
            (and_from (nat_le new.params (length new.vars)) (spelled_body new) two.0 h.body),
        h.fits (or_right (bytes_eq new.name []) (is_turn_at (slice_get new.lines 0)) (ap is_turn_at first)),
      )

  -- ---- all functions
  all_new : (n : ℕ) (fs gs : List Func) → AreCounted fs gs → FuncsFit fs → BeginsInTurn fs → spelled_functions (lowered_from p n fs) ≡ true → list_all (function_fits (lower p)) (lowered_from p n fs) ≡ true → (spelled_functions (new_from p q counted n fs gs) ≡ true) × (list_all (function_fits (lower p)) (new_from p q counted n fs gs) ≡ true)
  all_new n [] [] all blocks turns spelled fit = absurd (cc)
  all_new n [] (g ∷ gs) all blocks turns spelled fit = absurd all
  all_new n (f ∷ fs) [] all blocks turns spelled fit = absurd all
  all_new n (f ∷ []) (g ∷ []) all blocks turns spelled fit =
      let h = new_top n f g all.0 blocks.0 spelled (and_parts (function_fits (lower p) (text p q counted n f)) true fit).0 in
      (h.0, and_from (function_fits (lower p) (new_text p q counted n f g)) true h.1 refl)
  all_new n (f ∷ []) (g ∷ h ∷ gs) all blocks turns spelled fit = absurd all.1
  all_new n (f ∷ d ∷ fs) (g ∷ []) all blocks turns spelled fit = absurd all.1
  all_new n (f ∷ d ∷ fs) (g ∷ h ∷ gs) all blocks turns spelled fit =
      let one = and_parts (spelled_function (text p q counted n f)) (spelled_functions (lowered_from p (suc n) (d ∷ fs))) spelled in
      let two = and_parts (function_fits (lower p) (text p q counted n f)) (list_all (function_fits (lower p)) (lowered_from p (suc n) (d ∷ fs))) fit in
      let first = new_function n f g all.0 blocks.0 turns.0.1 one.0 two.0 in
      let rest = all_new (suc n) (d ∷ fs) (h ∷ gs) all.1 blocks.1 turns.1 one.1 two.1 in (
        and_from (spelled_function (new_text p q counted n f g)) (spelled_functions (new_from p q counted (suc n) (d ∷ fs) (h ∷ gs))) first.0 rest.0,
        and_from (function_fits (lower p) (new_text p q counted n f g)) (list_all (function_fits (lower p)) (new_from p q counted (suc n) (d ∷ fs) (h ∷ gs))) first.1 rest.1,
      )

  all_same : (cs : List CFunc) → list_all (function_fits (new_code p q counted)) cs ≡ list_all (function_fits (lower p)) cs
  all_same [] = refl
  all_same (c ∷ cs) =
      ap (λ b. b && list_all (function_fits (new_code p q counted)) cs) (function_same (lower p) (new_code p q counted) (code_bare p q counted) c)
      ∙ ap (λ b. function_fits (lower p) c && b) (all_same cs)

  -- ---- the code
  well : well_formed (new_code p q counted) ≡ true
  well =
      let old = lower p in
      let new = new_code p q counted in
      let names = names_differ (map (λ (c : CFunc). c.name) old.funcs) in
      let one = and_parts (is_spelled old) (names_differ (map (λ (v : Variable). v.0) old.globals) && (classes_fit old && functions_fit old)) shape.lowered in
      let two = and_parts (names_differ (map (λ (v : Variable). v.0) old.globals)) (classes_fit old && functions_fit old) one.1 in
      let three = and_parts (classes_fit old) (functions_fit old) two.1 in
      let four = and_parts names (list_all (function_fits old) old.funcs) three.1 in
      let five = and_parts (spelled_globals old.globals) (list_all spelled_class p.classes && spelled_functions old.funcs) one.0 in
      let six = and_parts (list_all spelled_class p.classes) (spelled_functions old.funcs) five.1 in
      let all = all_new 0 p.funcs q.funcs counted.funcs shape.funcs shape.turns six.1 four.1 in
      let functions : functions_fit new ≡ true =
      and_from (names_differ (map (λ (c : CFunc). c.name) new.funcs)) (list_all (function_fits new) new.funcs) (ap names_differ (code_names p q counted) ∙ four.0) (all_same new.funcs ∙ all.1) in
      let classes : classes_fit new ≡ true = classes_same old new refl (code_names p q counted) ∙ three.0 in
      and_from (is_spelled new) (names_differ (map (λ (v : Variable). v.0) new.globals) && (classes_fit new && functions_fit new))
      (and_from (spelled_globals new.globals) (list_all spelled_class new.classes && spelled_functions new.funcs) five.0 (and_from (list_all spelled_class new.classes) (spelled_functions new.funcs) six.0 all.0))
      (and_from (names_differ (map (λ (v : Variable). v.0) new.globals)) (classes_fit new && functions_fit new) two.0
      (and_from (classes_fit new) (functions_fit new) classes functions))

pub counted_is_well_formed : CountedIsWellFormed
counted_is_well_formed p q shape counted =
    subst WellFormed (sym (code_is p q counted)) (well p q counted shape)
