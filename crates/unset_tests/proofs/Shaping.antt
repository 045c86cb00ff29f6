-- A program that is less has the shape of the program.
use Rattle.std.proofs.Common.{◌≡◌, refl, sym, ◌∙◌, ap, subst, ℕ, zero, suc, ◌+◌, ◌-◌, ◌<◌, ◌≤◌, ◌^◌, arith, true, false, not, cond, List, [], ◌∷◌, ◌++◌, length, map, Option, Some, None, inl}
use Rattle.std.specs.Prelude.{slice_get, ◌&&◌, ◌||◌, nat_lt, nat_le, nat_eq, ◌==◌, codes}
use Rattle.std.specs.List.{list_all, position_or_len}
use Rattle.std.specs.Option.{option_map_or, option_and_then}
use Rattle.std.specs.Str.{bytes_eq}
use Rattle.std.proofs.lemmas.Bool.{and_from, and_parts, lt-ltb}
use Rattle.c_core.specs.declared.code.Kind.{Kind}
use Rattle.c_core.specs.declared.code.Line.{Line}
use Rattle.c_core.specs.declared.code.CFunc.{CFunc}
use Rattle.c_core.specs.declared.code.Code.{Code}
use Rattle.c_core.specs.Functions.{label_places, after_prefix, number_of as number_named, function_named}
use Rattle.c_core.specs.WellFormed.{WellFormed, Declared as Variable, is_identifier, is_char, is_declared, spelled_label, is_leaving, is_turn_at, begins_right, jumps_fit, lines_lead_on, line_fits, function_fits, names_differ, classes_fit, functions_fit, spelled_line, spelled_body, spelled_top, spelled_function, spelled_functions, spelled_globals, spelled_class, is_spelled}
use Rattle.ir_core.specs.declared.code.Op.{Op}
use Rattle.ir_core.specs.declared.code.Op.TheVariants.{Turn}
use Rattle.ir_core.specs.declared.code.Last.{Last}
use Rattle.ir_core.specs.declared.code.Last.TheVariants.{Goto, If, IfError, Return, Unreachable}
use Rattle.ir_core.specs.declared.code.Block.{Block}
use Rattle.ir_core.specs.declared.code.Func.{Func}
use Rattle.ir_core.specs.declared.code.Program.{Program}
use Rattle.ir_core.specs.Items.{Do, in_block, item_in}
use Rattle.ir_core.specs.Names.{function_id}
use Rattle.ir_core.specs.Lower.{kind_of_type, variable_of, call_name, called_as, line_of, op_lines, label_before, label_of, end_lines, block_lines, lines_from, lowered_as, name_in, lowered_from, lower}
use Rattle.ir_core.specs.Shape.{OpsFit, LastFits, HandlerFits, BlockFits, BlocksFit, FuncFits, FuncsFit, BeginsInTurn, Shape}
use Rattle.ir_core.proofs.JumpLemmas.{jumps_go, last_leaves}
use Rattle.ir_core.proofs.TextLemmas.{LineIs, LinesAre, lines_from_all, all_spelled, all_fit, lines_append, lines_parts, line_same}
use Rattle.ir_core.proofs.ClassLemmas.{classes_same}
use Rattle.unset_tests.specs.Alike.{AreEach}
use Rattle.unset_tests.proofs.Each.{each_count}
use Rattle.unset_tests.proofs.Lessening.{EndLess, same_end, no_test, BlockLess, stays, is_empty, AreBlocksLess, IsLess, count_less}
use Rattle.unset_tests.proofs.Lines.{EachSame, no_function, functions, fits_same}

-- ---- blocks
last_fits : (n k : ℕ) (ops : List (Op × ℕ)) {l m : Last} → EndLess l m → LastFits n k ops l → LastFits n k ops m
last_fits n k ops (same_end l) fits = fits
last_fits n k ops (no_test r e t line) fits = (omega (arith, fits.1.0), fits.1.1, inl fits.1.0)

block_fits : (n k : ℕ) (b c : Block) → BlockLess k b c → BlockFits n k b → BlockFits n k c
block_fits n k b c (stays ops handler end) fits = record {
  ops = subst OpsFit (sym ops) fits.ops;
  last = subst (λ os. LastFits n k os c.last) (sym ops) (last_fits n k b.ops end fits.last);
  handler = subst (HandlerFits n k) (sym handler) fits.handler;
}
block_fits n k b c (is_empty some is) fits =
    subst (BlockFits n k) (sym is) (record { ops = tt; last = (some, refl); handler = tt })

blocks_fit : (n k : ℕ) (bs cs : List Block) → AreBlocksLess k bs cs → BlocksFit n k bs → BlocksFit n k cs
blocks_fit n k [] [] h fits = tt
blocks_fit n k [] (c ∷ cs) h fits = absurd h
blocks_fit n k (b ∷ bs) [] h fits = absurd h
blocks_fit n k (b ∷ bs) (c ∷ cs) h fits = (block_fits n k b c h.0 fits.0, blocks_fit n (suc k) bs cs h.1 fits.1)

func_fits : (f g : Func) → IsLess f g → FuncFits f → FuncFits g
func_fits f g h fits =
    subst (λ n. BlocksFit n 0 g.blocks) (sym (count_less 0 f.blocks g.blocks h.blocks)) (blocks_fit (length f.blocks) 0 f.blocks g.blocks h.blocks fits)

funcs_fit : (fs gs : List Func) → AreEach IsLess fs gs → FuncsFit fs → FuncsFit gs
funcs_fit [] [] all fits = tt
funcs_fit [] (g ∷ gs) all fits = absurd all
funcs_fit (f ∷ fs) [] all fits = absurd all
funcs_fit (f ∷ fs) (g ∷ gs) all fits = (func_fits f g all.0 fits.0, funcs_fit fs gs all.1 fits.1)

-- an operation at the beginning stays there
do_first : (bs cs : List Block) → AreBlocksLess 0 bs cs → (o : Op) (line : ℕ) → item_in bs 0 0 ≡ Some (Do o line) → item_in cs 0 0 ≡ Some (Do o line)
do_first [] [] h o line e = e
do_first [] (c ∷ cs) h o line e = absurd h
do_first (b ∷ bs) [] h o line e = absurd h
do_first (b ∷ bs) (c ∷ cs) h o line e = by h.0
  where
    on : (ops : List (Op × ℕ)) → in_block ops b.last 0 ≡ Some (Do o line) → in_block ops c.last 0 ≡ Some (Do o line)
    on [] is = absurd (cc)
    on (x ∷ os) is = is

    by : BlockLess 0 b c → in_block c.ops c.last 0 ≡ Some (Do o line)
    by (stays ops handler end) = ap (λ os. in_block os c.last 0) ops ∙ on b.ops e
    by (is_empty some is) = absurd (omega (arith, some))

turns_begin : (fs gs : List Func) → AreEach IsLess fs gs → BeginsInTurn fs → BeginsInTurn gs
turns_begin [] [] all turns = tt
turns_begin [] (g ∷ gs) all turns = absurd all
turns_begin (f ∷ fs) [] all turns = absurd all
turns_begin (f ∷ []) (g ∷ []) all turns = tt
turns_begin (f ∷ []) (g ∷ h ∷ gs) all turns = absurd all.1
turns_begin (f ∷ d ∷ fs) (g ∷ []) all turns = absurd all.1
turns_begin (f ∷ d ∷ fs) (g ∷ h ∷ gs) all turns =
    ((turns.0.0, do_first f.blocks g.blocks all.0.blocks Turn turns.0.0 turns.0.1), turns_begin (d ∷ fs) (h ∷ gs) all.1 turns.1)

-- ---- the C text
module _ (p : Program) (gs : List Func) (all : AreEach IsLess p.funcs gs) where
  abbrev q : Program
  q = record p { funcs = gs }

  count : length gs ≡ length p.funcs
  count = each_count IsLess p.funcs gs all

  calls_same : (n : ℕ) → called_as q n ≡ called_as p n
  calls_same n =
      ap (λ m. cond (nat_eq (suc n) m) [] (option_map_or call_name (slice_get gs n) [])) count
      ∙ ap (λ name. cond (nat_eq (suc n) (length p.funcs)) [] name) (by p.funcs gs n all)
    where
      by : (fs hs : List Func) (n : ℕ) → AreEach IsLess fs hs → option_map_or call_name (slice_get hs n) [] ≡ option_map_or call_name (slice_get fs n) []
      by [] [] n h = refl
      by [] (g ∷ hs) n h = absurd h
      by (f ∷ fs) [] n h = absurd h
      by (f ∷ fs) (g ∷ hs) zero h = ap (λ name. codes "CPyDef_" ++ function_id name) h.0.alike.name
      by (f ∷ fs) (g ∷ hs) (suc n) h = by fs hs n h.1

  -- a function in the C text: the old one with other lines
  abbrev text : ℕ → Func → CFunc
  text n f = lowered_as p (name_in p n f) f

  abbrev new : ℕ → Func → Func → CFunc
  new n f g = record (text n f) { lines = lines_from q 0 g.blocks }

  abbrev news : ℕ → List Func → List Func → List CFunc
  news n [] hs = []
  news n (f ∷ fs) [] = []
  news n (f ∷ fs) (g ∷ hs) = new n f g ∷ news (suc n) fs hs

  is_new : (n : ℕ) (f g : Func) → IsLess f g → lowered_as q (name_in q n g) g ≡ new n f g
  is_new n f g h =
      ap (λ m. lowered_as q (cond (nat_eq (suc n) m) [] (function_id g.name)) g) count
      ∙ (ap (λ name. lowered_as q (cond (nat_eq (suc n) (length p.funcs)) [] (function_id name)) g) h.alike.name
      ∙ (ap (λ t. record (lowered_as q (name_in p n f) g) { ret = kind_of_type t }) h.alike.ret
      ∙ (ap (λ m. record (lowered_as q (name_in p n f) g) { ret = kind_of_type f.ret; params = m }) h.alike.params
      ∙ ap (λ ds. record (lowered_as q (name_in p n f) g) { ret = kind_of_type f.ret; params = f.params; vars = map variable_of ds }) h.alike.regs)))

  are_new : (n : ℕ) (fs hs : List Func) → AreEach IsLess fs hs → lowered_from q n hs ≡ news n fs hs
  are_new n [] [] h = refl
  are_new n [] (g ∷ hs) h = absurd h
  are_new n (f ∷ fs) [] h = absurd h
  are_new n (f ∷ fs) (g ∷ hs) h =
      ap (λ c. c ∷ lowered_from q (suc n) hs) (is_new n f g h.0) ∙ ap (λ cs. new n f g ∷ cs) (are_new (suc n) fs hs h.1)

  abbrev old : Code
  old = lower p

  abbrev code : Code
  code = record old { funcs = news 0 p.funcs gs }

  -- ---- names, and what functions take and give
  names_same : (n : ℕ) (fs hs : List Func) → AreEach IsLess fs hs → map (λ (c : CFunc). c.name) (news n fs hs) ≡ map (λ (c : CFunc). c.name) (lowered_from p n fs)
  names_same n [] [] h = refl
  names_same n [] (g ∷ hs) h = absurd h
  names_same n (f ∷ fs) [] h = absurd h
  names_same n (f ∷ fs) (g ∷ hs) h = ap (λ l. name_in p n f ∷ l) (names_same (suc n) fs hs h.1)

  place_same : (name : List ℕ) (n : ℕ) (fs hs : List Func) → AreEach IsLess fs hs → position_or_len (λ (c : CFunc). bytes_eq name c.name) (news n fs hs) ≡ position_or_len (λ (c : CFunc). bytes_eq name c.name) (lowered_from p n fs)
  place_same name n [] [] h = refl
  place_same name n [] (g ∷ hs) h = absurd h
  place_same name n (f ∷ fs) [] h = absurd h
  place_same name n (f ∷ fs) (g ∷ hs) h = ap (λ m. cond (not (bytes_eq name (name_in p n f))) (1 + m) 0) (place_same name (suc n) fs hs h.1)

  size_same : (n : ℕ) (fs hs : List Func) → AreEach IsLess fs hs → length (news n fs hs) ≡ length (lowered_from p n fs)
  size_same n [] [] h = refl
  size_same n [] (g ∷ hs) h = absurd h
  size_same n (f ∷ fs) [] h = absurd h
  size_same n (f ∷ fs) (g ∷ hs) h = ap suc (size_same (suc n) fs hs h.1)

  number_same : (name : List ℕ) → number_named code.funcs name ≡ number_named old.funcs name
  number_same name =
      let place : ℕ = position_or_len (λ (c : CFunc). bytes_eq name c.name) old.funcs in
      ap (λ m. cond (bytes_eq name []) None (cond (nat_lt m (length code.funcs)) (Some m) None)) (place_same name 0 p.funcs gs all)
      ∙ ap (λ m. cond (bytes_eq name []) None (cond (nat_lt place m) (Some place) None)) (size_same 0 p.funcs gs all)

  named_same : (name : List ℕ) → function_named code.funcs name ≡ function_named old.funcs name
  named_same name = by (after_prefix (codes "CPyDef_") name)
    where
      by : (o : Option (List ℕ)) → option_and_then (number_named code.funcs) o ≡ option_and_then (number_named old.funcs) o
      by None = refl
      by (Some x) = number_same x

  each_same : (n : ℕ) (fs hs : List Func) → AreEach IsLess fs hs → (i : ℕ) → EachSame (slice_get (lowered_from p n fs) i) (slice_get (news n fs hs) i)
  each_same n [] [] h i = no_function
  each_same n [] (g ∷ hs) h i = absurd h
  each_same n (f ∷ fs) [] h i = absurd h
  each_same n (f ∷ fs) (g ∷ hs) h zero = functions (text n f) (new n f g) (record { kinds = refl; ret = refl })
  each_same n (f ∷ fs) (g ∷ hs) h (suc i) = each_same (suc n) fs hs h.1 i

  -- ---- lines
  module _ (vars : List Variable) (ret : Kind) where
    abbrev Was : List Line → Type 0
    Was = LinesAre old vars ret

    abbrev Is : List Line → Type 0
    Is = LinesAre code vars ret

    line_kept : (l : Line) → LineIs old vars ret l → LineIs code vars ret l
    line_kept l h =
        (h.0, fits_same old code.funcs named_same (each_same 0 p.funcs gs all) vars ret l h.1)

    lines_kept : (ls : List Line) → Was ls → Is ls
    lines_kept [] h = tt
    lines_kept (l ∷ ls) h = (line_kept l h.0, lines_kept ls h.1)

    ops_kept : (ops : List (Op × ℕ)) → Was (op_lines p ops) → Is (op_lines q ops)
    ops_kept [] h = tt
    ops_kept (o ∷ os) h = (subst (LineIs code vars ret) (sym (line_same p q refl calls_same o.0)) (line_kept (line_of p o.0) h.0), ops_kept os h.1)

    end_kept : (k : ℕ) {l m : Last} → EndLess l m → Was (end_lines label_of k l) → Is (end_lines label_of k m)
    end_kept k (same_end l) was = lines_kept (end_lines label_of k l) was
    end_kept k (no_test r e n source) was =
        let one = and_parts (is_declared vars r.0) (spelled_label (label_of e) && spelled_label (label_of n)) was.0.0 in
        let two = and_parts (spelled_label (label_of e)) (spelled_label (label_of n)) one.1 in
        ((two.1, refl), tt)

    block_kept : (k : ℕ) (b c : Block) → BlockLess k b c → k < 2 ^ 64 → Was (block_lines p k b) → Is (block_lines q k c)
    block_kept k b c h lt was =
        let outer = lines_parts old vars ret (label_before k) (op_lines p b.ops ++ end_lines label_of k b.last) was in
        let inner = lines_parts old vars ret (op_lines p b.ops) (end_lines label_of k b.last) outer.1 in
        by h outer.0 inner.0 inner.1
      where
        -- an empty block only jumps to its own label
        halts : Is (end_lines label_of k Unreachable)
        halts = ((refl, refl), ((lt-ltb (label_of k) (2 ^ 64) (omega (arith, lt)), refl), tt))

        by : BlockLess k b c → Was (label_before k) → Was (op_lines p b.ops) → Was (end_lines label_of k b.last) → Is (block_lines q k c)
        by (stays same handler end) label ops last =
            let new_ops : Is (op_lines q c.ops) = subst (λ z. Is (op_lines q z)) (sym same) (ops_kept b.ops ops) in
            lines_append code vars ret (label_before k) (op_lines q c.ops ++ end_lines label_of k c.last) (lines_kept (label_before k) label) (lines_append code vars ret (op_lines q c.ops) (end_lines label_of k c.last) new_ops (end_kept k end last))
        by (is_empty some is) label ops last =
            subst (λ z. Is (block_lines q k z)) (sym is) (lines_append code vars ret (label_before k) (end_lines label_of k Unreachable) (lines_kept (label_before k) label) halts)

    blocks_kept : (k : ℕ) (bs cs : List Block) → AreBlocksLess k bs cs → k + length cs ≤ 2 ^ 64 → Was (lines_from p k bs) → Is (lines_from q k cs)
    blocks_kept k [] [] h few was = tt
    blocks_kept k [] (c ∷ cs) h few was = absurd h
    blocks_kept k (b ∷ bs) [] h few was = absurd h
    blocks_kept k (b ∷ bs) (c ∷ cs) h few was =
        let both = lines_parts old vars ret (block_lines p k b) (lines_from p (suc k) bs) was in
        lines_append code vars ret (block_lines q k c) (lines_from q (suc k) cs) (block_kept k b c h.0 (omega (arith, few)) both.0) (blocks_kept (suc k) bs cs h.1 (omega (arith, few)) both.1)

  -- whether the first line is a turn
  end_turn : {l m : Last} → EndLess l m → (xs ys : List Line) → is_turn_at (slice_get (end_lines label_of 0 m ++ xs) 0) ≡ is_turn_at (slice_get (end_lines label_of 0 l ++ ys) 0)
  end_turn (same_end (Goto t)) xs ys = refl
  end_turn (same_end (If r a b)) xs ys = refl
  end_turn (same_end (IfError r e n source)) xs ys = refl
  end_turn (same_end (Return r)) xs ys = refl
  end_turn (same_end Unreachable) xs ys = refl
  end_turn (no_test r e n source) xs ys = refl

  first_turn : (bs cs : List Block) → AreBlocksLess 0 bs cs → is_turn_at (slice_get (lines_from q 0 cs) 0) ≡ is_turn_at (slice_get (lines_from p 0 bs) 0)
  first_turn [] [] h = refl
  first_turn [] (c ∷ cs) h = absurd h
  first_turn (b ∷ bs) [] h = absurd h
  first_turn (b ∷ bs) (c ∷ cs) h = of h.0
    where
      of : BlockLess 0 b c → is_turn_at (slice_get ((op_lines q c.ops ++ end_lines label_of 0 c.last) ++ lines_from q 1 cs) 0) ≡ is_turn_at (slice_get ((op_lines p b.ops ++ end_lines label_of 0 b.last) ++ lines_from p 1 bs) 0)
      of (is_empty some is) = absurd (omega (arith, some))
      of (stays same handler end) =
          ap (λ ops. is_turn_at (slice_get ((op_lines q ops ++ end_lines label_of 0 c.last) ++ lines_from q 1 cs) 0)) same ∙ by b.ops refl
        where
          by : (ops : List (Op × ℕ)) → b.ops ≡ ops → is_turn_at (slice_get ((op_lines q ops ++ end_lines label_of 0 c.last) ++ lines_from q 1 cs) 0) ≡ is_turn_at (slice_get ((op_lines p b.ops ++ end_lines label_of 0 b.last) ++ lines_from p 1 bs) 0)
          by [] is =
              end_turn end (lines_from q 1 cs) (lines_from p 1 bs)
              ∙ sym (ap (λ z. is_turn_at (slice_get ((op_lines p z ++ end_lines label_of 0 b.last) ++ lines_from p 1 bs) 0)) is)
          by (o ∷ os) is =
              ap (λ l. is_turn_at (Some l)) (line_same p q refl calls_same o.0)
              ∙ sym (ap (λ z. is_turn_at (slice_get ((op_lines p z ++ end_lines label_of 0 b.last) ++ lines_from p 1 bs) 0)) is)

  has_blocks : (bs : List Block) → is_leaving (slice_get (lines_from p 0 bs) (length (lines_from p 0 bs) - 1)) ≡ true → 0 < length bs
  has_blocks [] e = absurd (cc)
  has_blocks (b ∷ bs) e = omega arith

  -- ---- one function
  module _ (n : ℕ) (f g : Func) (h : IsLess f g) (fits : FuncFits f) (body : spelled_body (text n f) ≡ true) (good : function_fits old (text n f) ≡ true) where
    abbrev c : CFunc
    c = text n f

    abbrev d : CFunc
    d = new n f g

    names : (list_all (λ (v : Variable). is_identifier v.0) c.vars ≡ true) × (list_all (spelled_line c.vars) c.lines ≡ true)
    names = and_parts (list_all (λ (v : Variable). is_identifier v.0) c.vars) (list_all (spelled_line c.vars) c.lines) body

    one : (names_differ (map (λ (v : Variable). v.0) c.vars) ≡ true) × ((list_all (line_fits old c.vars c.ret) c.lines && (lines_lead_on c.lines && begins_right c)) ≡ true)
    one = and_parts (names_differ (map (λ (v : Variable). v.0) c.vars)) (list_all (line_fits old c.vars c.ret) c.lines && (lines_lead_on c.lines && begins_right c)) good

    two : (list_all (line_fits old c.vars c.ret) c.lines ≡ true) × ((lines_lead_on c.lines && begins_right c) ≡ true)
    two = and_parts (list_all (line_fits old c.vars c.ret) c.lines) (lines_lead_on c.lines && begins_right c) one.1

    three : (lines_lead_on c.lines ≡ true) × (begins_right c ≡ true)
    three = and_parts (lines_lead_on c.lines) (begins_right c) two.1

    lines : LinesAre code c.vars c.ret d.lines
    lines =
        blocks_kept c.vars c.ret 0 f.blocks g.blocks h.blocks (omega (arith, h.few)) (lines_from_all old c.vars c.ret c.lines names.1 two.0)

    pub new_body : spelled_body d ≡ true
    new_body =
        and_from (list_all (λ (v : Variable). is_identifier v.0) c.vars) (list_all (spelled_line c.vars) d.lines) names.0 (all_spelled code c.vars c.ret d.lines lines)

    lead : lines_lead_on d.lines ≡ true
    lead =
        let leaving = and_parts (jumps_fit (label_places c.lines) 0 false c.lines) (is_leaving (slice_get c.lines (length c.lines - 1))) three.0 in
        let some = has_blocks f.blocks leaving.1 in
        let same_count = count_less 0 f.blocks g.blocks h.blocks in
        and_from (jumps_fit (label_places d.lines) 0 false d.lines) (is_leaving (slice_get d.lines (length d.lines - 1)))
        (jumps_go q g.blocks (func_fits f g h fits)) (last_leaves q g.blocks (omega (arith, some, same_count)))

    begins : begins_right d ≡ true
    begins = ap (λ b. bytes_eq c.name [] || b) (first_turn f.blocks g.blocks h.blocks) ∙ three.1

    pub new_fits : function_fits code d ≡ true
    new_fits =
        and_from (names_differ (map (λ (v : Variable). v.0) c.vars)) (list_all (line_fits code c.vars c.ret) d.lines && (lines_lead_on d.lines && begins_right d)) one.0
        (and_from (list_all (line_fits code c.vars c.ret) d.lines) (lines_lead_on d.lines && begins_right d) (all_fit code c.vars c.ret d.lines lines) (and_from (lines_lead_on d.lines) (begins_right d) lead begins))

  -- ---- all functions
  top_body : (x : CFunc) → spelled_top x ≡ true → spelled_body x ≡ true
  top_body x e =
      let a = and_parts (bytes_eq x.name []) (is_char x.ret && ((x.params == 0) && spelled_body x)) e in
      let b = and_parts (is_char x.ret) ((x.params == 0) && spelled_body x) a.1 in
      (and_parts (x.params == 0) (spelled_body x) b.1).1

  function_body : (x : CFunc) → spelled_function x ≡ true → spelled_body x ≡ true
  function_body x e =
      let a = and_parts (is_identifier x.name) (nat_le x.params (length x.vars) && spelled_body x) e in
      (and_parts (nat_le x.params (length x.vars)) (spelled_body x) a.1).1

  new_top : (x : CFunc) (ls : List Line) → spelled_body (record x { lines = ls }) ≡ true → spelled_top x ≡ true → spelled_top (record x { lines = ls }) ≡ true
  new_top x ls body e =
      let a = and_parts (bytes_eq x.name []) (is_char x.ret && ((x.params == 0) && spelled_body x)) e in
      let b = and_parts (is_char x.ret) ((x.params == 0) && spelled_body x) a.1 in
      let c = and_parts (x.params == 0) (spelled_body x) b.1 in
      and_from (bytes_eq x.name []) (is_char x.ret && ((x.params == 0) && spelled_body (record x { lines = ls }))) a.0
      (and_from (is_char x.ret) ((x.params == 0) && spelled_body (record x { lines = ls })) b.0 (and_from (x.params == 0) (spelled_body (record x { lines = ls })) c.0 body))

  new_function : (x : CFunc) (ls : List Line) → spelled_body (record x { lines = ls }) ≡ true → spelled_function x ≡ true → spelled_function (record x { lines = ls }) ≡ true
  new_function x ls body e =
      let a = and_parts (is_identifier x.name) (nat_le x.params (length x.vars) && spelled_body x) e in
      let b = and_parts (nat_le x.params (length x.vars)) (spelled_body x) a.1 in
      and_from (is_identifier x.name) (nat_le x.params (length x.vars) && spelled_body (record x { lines = ls })) a.0
      (and_from (nat_le x.params (length x.vars)) (spelled_body (record x { lines = ls })) b.0 body)

  record Known (n : ℕ) (fs hs : List Func) : Type 0 where
    pub spelled : spelled_functions (news n fs hs) ≡ true
    pub fits : list_all (function_fits code) (news n fs hs) ≡ true

  known : (n : ℕ) (fs hs : List Func) → AreEach IsLess fs hs → FuncsFit fs → spelled_functions (lowered_from p n fs) ≡ true → list_all (function_fits old) (lowered_from p n fs) ≡ true → Known n fs hs
  known n [] [] h fits spelled good = record { spelled = spelled; fits = refl }
  known n [] (g ∷ hs) h fits spelled good = absurd h
  known n (f ∷ fs) [] h fits spelled good = absurd h
  known n (f ∷ []) (g ∷ []) h fits spelled good =
      let body = top_body (text n f) spelled in
      let own = (and_parts (function_fits old (text n f)) true good).0 in
      record {
        spelled = new_top (text n f) (lines_from q 0 g.blocks) (new_body n f g h.0 fits.0 body own) spelled;
        fits = and_from (function_fits code (new n f g)) true (new_fits n f g h.0 fits.0 body own) refl;
      }
  known n (f ∷ []) (g ∷ e ∷ hs) h fits spelled good = absurd h.1
  known n (f ∷ d ∷ fs) (g ∷ []) h fits spelled good = absurd h.1
  known n (f ∷ d ∷ fs) (g ∷ e ∷ hs) h fits spelled good =
      let both = and_parts (spelled_function (text n f)) (spelled_functions (lowered_from p (suc n) (d ∷ fs))) spelled in
      let own = and_parts (function_fits old (text n f)) (list_all (function_fits old) (lowered_from p (suc n) (d ∷ fs))) good in
      let body = function_body (text n f) both.0 in
      let rest : Known (suc n) (d ∷ fs) (e ∷ hs) = known (suc n) (d ∷ fs) (e ∷ hs) h.1 fits.1 both.1 own.1 in
      record {
        spelled = and_from (spelled_function (new n f g)) (spelled_functions (news (suc n) (d ∷ fs) (e ∷ hs))) (new_function (text n f) (lines_from q 0 g.blocks) (new_body n f g h.0 fits.0 body own.0) both.0) rest.spelled;
        fits = and_from (function_fits code (new n f g)) (list_all (function_fits code) (news (suc n) (d ∷ fs) (e ∷ hs))) (new_fits n f g h.0 fits.0 body own.0) rest.fits;
      }

  module _ (shape : Shape p) where
    parts : (is_spelled old ≡ true) × ((names_differ (map (λ v. v.0) old.globals) && (classes_fit old && functions_fit old)) ≡ true)
    parts = and_parts (is_spelled old) (names_differ (map (λ v. v.0) old.globals) && (classes_fit old && functions_fit old)) shape.lowered

    globals : (spelled_globals old.globals ≡ true) × ((list_all spelled_class p.classes && spelled_functions old.funcs) ≡ true)
    globals = and_parts (spelled_globals old.globals) (list_all spelled_class p.classes && spelled_functions old.funcs) parts.0

    classes : (list_all spelled_class p.classes ≡ true) × (spelled_functions old.funcs ≡ true)
    classes = and_parts (list_all spelled_class p.classes) (spelled_functions old.funcs) globals.1

    differ : (names_differ (map (λ v. v.0) old.globals) ≡ true) × ((classes_fit old && functions_fit old) ≡ true)
    differ = and_parts (names_differ (map (λ v. v.0) old.globals)) (classes_fit old && functions_fit old) parts.1

    fitting : (classes_fit old ≡ true) × (functions_fit old ≡ true)
    fitting = and_parts (classes_fit old) (functions_fit old) differ.1

    funcs : (names_differ (map (λ (c : CFunc). c.name) old.funcs) ≡ true) × (list_all (function_fits old) old.funcs ≡ true)
    funcs = and_parts (names_differ (map (λ (c : CFunc). c.name) old.funcs)) (list_all (function_fits old) old.funcs) fitting.1

    new_code : WellFormed code
    new_code =
        let k : Known 0 p.funcs gs = known 0 p.funcs gs all shape.funcs classes.1 funcs.1 in
        let names : map (λ (c : CFunc). c.name) code.funcs ≡ map (λ (c : CFunc). c.name) old.funcs = names_same 0 p.funcs gs all in
        let spelled : is_spelled code ≡ true =
        and_from (spelled_globals old.globals) (list_all spelled_class p.classes && spelled_functions code.funcs) globals.0 (and_from (list_all spelled_class p.classes) (spelled_functions code.funcs) classes.0 k.spelled) in
        let fit : functions_fit code ≡ true =
        and_from (names_differ (map (λ (c : CFunc). c.name) code.funcs)) (list_all (function_fits code) code.funcs) (ap names_differ names ∙ funcs.0) k.fits in
        and_from (is_spelled code) (names_differ (map (λ v. v.0) old.globals) && (classes_fit code && functions_fit code)) spelled
        (and_from (names_differ (map (λ v. v.0) old.globals)) (classes_fit code && functions_fit code) differ.0 (and_from (classes_fit code) (functions_fit code) (classes_same old code refl names ∙ fitting.0) fit))

    pub shape_kept : Shape q
    shape_kept = record {
      funcs = funcs_fit p.funcs gs all shape.funcs;
      turns = turns_begin p.funcs gs all shape.turns;
      lowered = subst WellFormed (sym (ap (λ cs. record old { funcs = cs }) (are_new 0 p.funcs gs all))) new_code;
    }
