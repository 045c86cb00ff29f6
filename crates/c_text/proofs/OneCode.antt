-- No two well-formed codes have the same lines.
use Rattle.std.proofs.Common.{◌≡◌, ◌∙◌, ℕ, ◌≤◌, List, [], ◌∷◌, ◌++◌, length, take, drop, Bool, true, IsTrue, refl, sym, ap, arith, subst, append_assoc, append-nil, take-append-drop, length-take}
use Rattle.std.specs.Prelude.{◌==◌, map}
use Rattle.std.specs.List.{list_all}
use Rattle.std.specs.Str.{bytes_eq}
use Rattle.std.proofs.lemmas.Bool.{false≢true, leb-true}
use Rattle.std.proofs.lemmas.Bool.Decides.{Decides-eqb}
use Rattle.std.proofs.lemmas.Slice.Eq.{bytes_eq-Decides}
use Rattle.c_core.specs.declared.code.CFunc.{CFunc}
use Rattle.c_core.specs.declared.code.Code.{Code}
use Rattle.c_core.specs.declared.code.Kind.{Kind}
use Rattle.c_core.specs.declared.code.Kind.TheVariants.{Tagged, Int64, Char, Object}
use Rattle.c_core.specs.declared.code.Line.{Line}
use Rattle.c_core.specs.Text.{class_line, code_lines, declaration_lines, function_end, function_lines, global_line, statement_lines}
use Rattle.c_core.specs.WellFormed.{Declared, Spelled, WellFormed, classes_fit, function_fits, is_char, is_identifier, names_differ, spelled_class, spelled_function, spelled_functions}
use Rattle.c_text.specs.Classes.{class_lines}
use Rattle.c_text.specs.Parts.{AreSpelled}
use Rattle.c_text.specs.Statements.{AreNamed}
use Rattle.c_text.proofs.Bytes.{and_true}
use Rattle.c_text.proofs.HeadLemmas.{named_drop, named_take, same_head}
use Rattle.c_text.proofs.LineTexts.{head_not_module, same_global}
use Rattle.c_text.proofs.PartLemmas.{IsPast, body_is_past, body_lines, classes_not_global, code_parts, coded, functions_not_class, heads, inner_ends, other_parts, same_vars, tails, top_parts}
use Rattle.c_text.proofs.SameClasses.{same_class}
use Rattle.c_text.proofs.SameLines.{same_lines}
use Rattle.c_text.proofs.VariableLemmas.{HaveOwnNames}

-- the variables and the statements of two functions
same_inner : (own others vars ws : List Declared) (ls ms : List Line) → HaveOwnNames vars → AreNamed own → AreNamed others → AreNamed vars → AreSpelled vars ls → AreSpelled ws ms → (own ≡ others → vars ≡ ws) → declaration_lines own ++ statement_lines vars ls ≡ declaration_lines others ++ statement_lines ws ms → (vars ≡ ws) × (ls ≡ ms)
same_inner own others vars ws ls ms names n m k p q whole e =
    let f = sym (append_assoc (declaration_lines own) (statement_lines vars ls) (function_end ∷ [])) ∙ ap (λ t. t ++ function_end ∷ []) e ∙ append_assoc (declaration_lines others) (statement_lines ws ms) (function_end ∷ []) in
    let s = same_vars own others (body_lines vars 0 ls) (body_lines ws 0 ms) n m (subst IsPast (append-nil (body_lines vars 0 ls)) (body_is_past vars 0 ls [] p)) (subst IsPast (append-nil (body_lines ws 0 ms)) (body_is_past ws 0 ms [] q)) f in
    let same = whole s.0 in
    (same, subst (λ (vs : List Declared). AreSpelled vs ms → body_lines vars 0 ls ≡ body_lines vs 0 ms → ls ≡ ms) same (λ r g. same_lines vars 0 ls ms names k p r g) q s.1)

abbrev made : List ℕ → Kind → ℕ → List Declared → List Line → CFunc
made name ret params vars lines = record { name = name; ret = ret; params = params; vars = vars; lines = lines }

same_made : (f g : CFunc) → f.name ≡ g.name → f.ret ≡ g.ret → f.params ≡ g.params → f.vars ≡ g.vars → f.lines ≡ g.lines → f ≡ g
same_made f g a b c d e =
    ap (λ z. made z f.ret f.params f.vars f.lines) a ∙ ap (λ z. made g.name z f.params f.vars f.lines) b ∙ ap (λ z. made g.name g.ret z f.vars f.lines) c ∙ ap (λ z. made g.name g.ret g.params z f.lines) d ∙ ap (λ z. made g.name g.ret g.params g.vars z) e

char_is : (k : Kind) → is_char k ≡ true → k ≡ Char
char_is Char h = refl
char_is Tagged h = absurd (false≢true h)
char_is Int64 h = absurd (false≢true h)
char_is Object h = absurd (false≢true h)

record TopIs (g : CFunc) : Type 0 where
  name : g.name ≡ []
  ret : g.ret ≡ Char
  params : g.params ≡ 0

top_is : (g : CFunc) → IsTrue (spelled_functions (g ∷ [])) → TopIs g
top_is g h =
    let name = and_true (bytes_eq g.name []) _ h in
    let ret = and_true (is_char g.ret) _ name.1 in
    let params = and_true (g.params == 0) _ ret.1 in
    record { name = (bytes_eq-Decides g.name []).0 name.0; ret = char_is g.ret ret.0; params = (Decides-eqb g.params 0).0 params.0 }

same_count : (n m : ℕ) (vars : List Declared) → n ≤ length vars → m ≤ length vars → take n vars ≡ take m vars → n ≡ m
same_count n m vars h k e = omega (arith, ap length e, length-take n vars, length-take m vars)

abbrev pub AllOwn : List CFunc → Type 0
AllOwn [] = Unit {0}
AllOwn (g ∷ gs) = HaveOwnNames g.vars × AllOwn gs

all_own : (code : Code) (fs : List CFunc) → IsTrue (list_all (function_fits code) fs) → AllOwn fs
all_own code [] h = tt
all_own code (g ∷ fs) h =
    let p = and_true (function_fits code g) _ h in ((and_true (names_differ (map (λ v. v.0) g.vars)) _ p.0).0, all_own code fs p.1)

same_functions : (fs gs : List CFunc) → AllOwn fs → IsTrue (spelled_functions fs) → IsTrue (spelled_functions gs) → function_lines fs ≡ function_lines gs → fs ≡ gs
same_functions [] gs own h k e = absurd (false≢true h)
same_functions (f ∷ fs) [] own h k e = absurd (false≢true k)
same_functions (f ∷ []) (g ∷ []) own h k e =
    let p = top_parts f h in
    let q = top_parts g k in
    let a = top_is f h in
    let b = top_is g k in
    let ends = inner_ends f.vars f.vars g.vars g.vars f.lines g.lines [] [] (tails e) in
    let s = same_inner f.vars g.vars f.vars g.vars f.lines g.lines own.0 p.named q.named p.named p.spelled q.spelled (λ z. z) ends.0 in
    ap (λ z. z ∷ []) (same_made f g (a.name ∙ sym b.name) (a.ret ∙ sym b.ret) (a.params ∙ sym b.params) s.0 s.1)
same_functions (f ∷ []) (g ∷ m ∷ gs) own h k e = absurd (head_not_module g (sym (heads e)))
same_functions (f ∷ l ∷ fs) (g ∷ []) own h k e = absurd (head_not_module f (heads e))
same_functions (f ∷ l ∷ fs) (g ∷ m ∷ gs) own h k e =
    let x = and_true (spelled_function f) _ h in
    let y = and_true (spelled_function g) _ k in
    let p = other_parts f x.0 in
    let q = other_parts g y.0 in
    let head = same_head f g p.name q.name (named_take f.params f.vars p.named) (named_take g.params g.vars q.named) (heads e) in
    let ends = inner_ends (drop f.params f.vars) f.vars (drop g.params g.vars) g.vars f.lines g.lines (function_lines (l ∷ fs)) (function_lines (m ∷ gs)) (tails e) in
    let s = same_inner (drop f.params f.vars) (drop g.params g.vars) f.vars g.vars f.lines g.lines own.0 (named_drop f.params f.vars p.named) (named_drop g.params g.vars q.named) p.named p.spelled q.spelled
    (λ z. sym (take-append-drop f.params f.vars) ∙ ap (λ t. t ++ drop f.params f.vars) head.2 ∙ ap (λ t. take g.params g.vars ++ t) z ∙ take-append-drop g.params g.vars) ends.0 in
    let count = same_count f.params g.params g.vars (subst (λ (vs : List Declared). f.params ≤ length vs) s.0 (leb-true f.params (length f.vars) p.few)) (leb-true g.params (length g.vars) q.few) (ap (take f.params) (sym s.0) ∙ head.2) in
    ap (λ z. z ∷ l ∷ fs) (same_made f g head.1 head.0 count s.0 s.1) ∙ ap (λ zs. g ∷ zs) (same_functions (l ∷ fs) (m ∷ gs) own.1 x.1 y.1 ends.1)

-- lines of one sort, before lines of which the first is of another
same_before : {A : Type 0} (line : A → List ℕ) (spelled : A → Bool) → ((a b : A) → IsTrue (spelled a) → IsTrue (spelled b) → line a ≡ line b → a ≡ b) → (xs ys : List A) (more others : List (List ℕ)) → ((a : A) (rest : List (List ℕ)) → more ≡ line a ∷ rest → ⊥) → ((a : A) (rest : List (List ℕ)) → others ≡ line a ∷ rest → ⊥) → IsTrue (list_all spelled xs) → IsTrue (list_all spelled ys) → map line xs ++ more ≡ map line ys ++ others → (xs ≡ ys) × (more ≡ others)
same_before line spelled same [] [] more others m o h k e = (refl, e)
same_before line spelled same [] (b ∷ ys) more others m o h k e = absurd (m b (map line ys ++ others) e)
same_before line spelled same (a ∷ xs) [] more others m o h k e = absurd (o a (map line xs ++ more) (sym e))
same_before line spelled same (a ∷ xs) (b ∷ ys) more others m o h k e =
    let p = and_true (spelled a) _ h in
    let q = and_true (spelled b) _ k in
    let r = same_before line spelled same xs ys more others m o p.1 q.1 (tails e) in
    (ap (λ z. z ∷ xs) (same a b p.0 q.0 (heads e)) ∙ ap (λ zs. b ∷ zs) r.0, r.1)

pub other_is : (other code : Code) → WellFormed other → Spelled code → code_lines other ≡ code_lines code → other ≡ code
other_is other code w h e =
    let parts = and_true _ _ w in
    let names = and_true (names_differ (map (λ v. v.0) other.globals)) _ parts.1 in
    let fits = and_true (classes_fit other) _ names.1 in
    let fit = (and_true (names_differ (map (λ g. g.name) other.funcs)) _ fits.1).1 in
    let m = code_parts other parts.0 in
    let n = code_parts code h in
    let g = same_before global_line (λ v. is_identifier v.0) (λ a b p q f. same_global a b f) other.globals code.globals (class_lines other.classes ++ function_lines other.funcs) (class_lines code.classes ++ function_lines code.funcs) (λ v rest f. classes_not_global other.classes other.funcs v rest m.functions f)
    (λ v rest f. classes_not_global code.classes code.funcs v rest n.functions f) m.named n.named (tails e) in
    let k = same_before class_line spelled_class same_class other.classes code.classes (function_lines other.funcs) (function_lines code.funcs) (λ k rest f. functions_not_class other.funcs k rest m.functions f) (λ k rest f. functions_not_class code.funcs k rest n.functions f) m.classes n.classes g.1 in
    let f = same_functions other.funcs code.funcs (all_own other other.funcs fit) m.functions n.functions k.1 in
    ap (λ z. coded z other.classes other.funcs) g.0 ∙ ap (λ z. coded code.globals z other.funcs) k.0 ∙ ap (λ z. coded code.globals code.classes z) f
