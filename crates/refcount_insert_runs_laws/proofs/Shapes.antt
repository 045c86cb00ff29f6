-- What the shape of a program says of its blocks and operations, and what a well-formed code says of its lines.
use Rattle.std.proofs.Common.{◌≡◌, refl, sym, ◌∙◌, ap, subst, ℕ, zero, suc, ◌+◌, arith, true, List, [], ◌∷◌, length, Option, Some, None, drop}
use Rattle.std.specs.Prelude.{◌==◌, slice_get, map, ◌&&◌}
use Rattle.std.specs.List.{list_all}
use Rattle.std.specs.Str.{bytes_eq}
use Rattle.std.proofs.lemmas.Bool.{eqb-true}
use Rattle.c_core.specs.declared.code.Line.{Line}
use Rattle.c_core.specs.declared.code.CFunc.{CFunc}
use Rattle.c_core.specs.declared.code.Code.{Code}
use Rattle.c_core.specs.WellFormed.{WellFormed, is_spelled, is_char, spelled_globals, spelled_class, spelled_functions, spelled_function, spelled_top, spelled_body, names_differ, line_fits, lines_lead_on, begins_right, function_fits, classes_fit, functions_fit}
use Rattle.c_core.proofs.Lines.{and_true, all_at}
use Rattle.ir_core.specs.declared.code.Op.{Op}
use Rattle.ir_core.specs.declared.code.Last.{Last}
use Rattle.ir_core.specs.declared.code.Block.{Block}
use Rattle.ir_core.specs.declared.code.Func.{Func}
use Rattle.ir_core.specs.declared.code.Program.{Program}
use Rattle.ir_core.specs.Items.{Left, left_from}
use Rattle.ir_core.specs.Shape.{op_fits, OpsFit, BlockFits, BlocksFit, FuncFits, FuncsFit, Shape}
use Rattle.refcount_insert_runs_laws.proofs.Forms.{left}

-- ---- lists
pub get_dropped : {A : Type 0} (n i : ℕ) (xs ys : List A) → drop n xs ≡ ys → slice_get xs (n + i) ≡ slice_get ys i
get_dropped zero i xs ys e = let z : 0 + i ≡ i = omega arith in ap (slice_get xs) z ∙ ap (λ l. slice_get l i) e
get_dropped (suc n) i [] ys e = ap (λ l. slice_get l i) e
get_dropped (suc n) i (x ∷ xs) ys e =
    let z : suc n + i ≡ suc (n + i) = omega arith in
    ap (slice_get (x ∷ xs)) z ∙ get_dropped n i xs ys e

-- ---- the shape
func_fits : (fs : List Func) → FuncsFit fs → (n : ℕ) (f : Func) → slice_get fs n ≡ Some f → FuncFits f
func_fits [] fits n f e = let g : None ≡ Some f = e in absurd (cc)
func_fits (x ∷ fs) fits zero f e =
    let g : Some x ≡ Some f = e in
    let same : x ≡ f = cc in subst FuncFits same fits.0
func_fits (x ∷ fs) fits (suc n) f e = func_fits fs fits.1 n f e

block_fits_from : (m k : ℕ) (bs : List Block) → BlocksFit m k bs → (j : ℕ) (b : Block) → slice_get bs j ≡ Some b → BlockFits m (k + j) b
block_fits_from m k [] fits j b e = let g : None ≡ Some b = e in absurd (cc)
block_fits_from m k (x ∷ bs) fits zero b e =
    let g : Some x ≡ Some b = e in
    let same : x ≡ b = cc in
    let none : k ≡ k + 0 = omega arith in
    subst (λ z. BlockFits m z b) none (subst (BlockFits m k) same fits.0)
block_fits_from m k (x ∷ bs) fits (suc j) b e =
    let next : suc k + j ≡ k + suc j = omega arith in
    subst (λ z. BlockFits m z b) next (block_fits_from m (suc k) bs fits.1 j b e)

pub block_fits : (p : Program) → Shape p → (n : ℕ) (f : Func) → slice_get p.funcs n ≡ Some f → (k : ℕ) (b : Block) → slice_get f.blocks k ≡ Some b → BlockFits (length f.blocks) k b
block_fits p shape n f there k b here =
    let same : 0 + k ≡ k = omega arith in
    subst (λ z. BlockFits (length f.blocks) z b) same (block_fits_from (length f.blocks) 0 f.blocks (func_fits p.funcs shape.funcs n f there) k b here)

abbrev ops_of : Option Left → List (Op × ℕ)
ops_of None = []
ops_of (Some l) = l.ops

-- an operation that is left fits
pub op_fits_at : (ops : List (Op × ℕ)) (end : Last) (i : ℕ) (o : Op × ℕ) (os : List (Op × ℕ)) (last : Last) → OpsFit ops → left_from ops end i ≡ Some (left (o ∷ os) last) → op_fits o.0 ≡ true
op_fits_at [] end zero o os last fits e = let g : [] ≡ o ∷ os = ap ops_of e in absurd (cc)
op_fits_at [] end (suc i) o os last fits e = let g : None ≡ Some (left (o ∷ os) last) = e in absurd (cc)
op_fits_at (x ∷ xs) end zero o os last fits e =
    let g : x ∷ xs ≡ o ∷ os = ap ops_of e in
    let same : x ≡ o = cc in ap (λ (z : Op × ℕ). op_fits z.0) (sym same) ∙ fits.0
op_fits_at (x ∷ xs) end (suc i) o os last fits e = op_fits_at xs end i o os last fits.1 e

-- the end of a block stands behind all operations
pub end_place : (ops : List (Op × ℕ)) (end : Last) (i : ℕ) (last : Last) → left_from ops end i ≡ Some (left [] last) → i ≡ length ops
end_place [] end zero last e = refl
end_place [] end (suc i) last e = let g : None ≡ Some (left [] last) = e in absurd (cc)
end_place (x ∷ xs) end zero last e = let g : x ∷ xs ≡ [] = ap ops_of e in absurd (cc)
end_place (x ∷ xs) end (suc i) last e = ap suc (end_place xs end i last e)

-- ---- lines of a well-formed code
pub line_fits_at : (code : Code) → WellFormed code → (n : ℕ) (g : CFunc) → slice_get code.funcs n ≡ Some g → (i : ℕ) (l : Line) → slice_get g.lines i ≡ Some l → line_fits code g.vars g.ret l ≡ true
line_fits_at code wf n g there i l e =
    let globals = names_differ (map (λ v. v.0) code.globals) in
    let functions = names_differ (map (λ g. g.name) code.funcs) in
    let fit = list_all (function_fits code) code.funcs in
    let both = and_true (is_spelled code) (globals && (classes_fit code && functions_fit code)) wf in
    let last = and_true (classes_fit code) (functions_fit code) (and_true globals (classes_fit code && functions_fit code) both.1).1 in
    let all = (and_true functions fit last.1).1 in
    let one = all_at (function_fits code) code.funcs n g all there in
    let rest = (and_true (names_differ (map (λ v. v.0) g.vars)) (list_all (line_fits code g.vars g.ret) g.lines && (lines_lead_on g.lines && begins_right g)) one).1 in
    let lines = (and_true (list_all (line_fits code g.vars g.ret) g.lines) (lines_lead_on g.lines && begins_right g) rest).0 in
    all_at (line_fits code g.vars g.ret) g.lines i l lines e

-- the module's own function, which comes last, has no parameters
last_spelled : (fs : List CFunc) → spelled_functions fs ≡ true → (i : ℕ) (g : CFunc) → suc i ≡ length fs → slice_get fs i ≡ Some g → spelled_top g ≡ true
last_spelled [] e i g size there = absurd (cc)
last_spelled (x ∷ []) e zero g size there =
    let f : Some x ≡ Some g = there in
    let same : x ≡ g = cc in subst (λ z. spelled_top z ≡ true) same e
last_spelled (x ∷ []) e (suc i) g size there = absurd (omega (arith, size))
last_spelled (x ∷ y ∷ fs) e zero g size there = absurd (omega (arith, size))
last_spelled (x ∷ y ∷ fs) e (suc i) g size there =
    last_spelled (y ∷ fs) (and_true (spelled_function x) (spelled_functions (y ∷ fs)) e).1 i g (omega (arith, size)) there

pub top_params : (code : Code) → WellFormed code → (n : ℕ) (g : CFunc) → suc n ≡ length code.funcs → slice_get code.funcs n ≡ Some g → g.params ≡ 0
top_params code wf n g size there =
    let globals = names_differ (map (λ v. v.0) code.globals) in
    let both = and_true (is_spelled code) (globals && (classes_fit code && functions_fit code)) wf in
    let classes = list_all spelled_class code.classes in
    let spelled = and_true (spelled_globals code.globals) (classes && spelled_functions code.funcs) both.0 in
    let all = (and_true classes (spelled_functions code.funcs) spelled.1).1 in
    let top = last_spelled code.funcs all n g size there in
    let named = (and_true (bytes_eq g.name []) (is_char g.ret && ((g.params == 0) && spelled_body g)) top).1 in
    let ret = (and_true (is_char g.ret) ((g.params == 0) && spelled_body g) named).1 in
    eqb-true g.params 0 (and_true (g.params == 0) (spelled_body g) ret).0
