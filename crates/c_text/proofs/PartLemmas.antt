-- Which line may follow a part of a text: the lines of a code's text, taken from the front.
use Rattle.std.proofs.Common.{◌≡◌, ◌≢◌, ◌∙◌, ℕ, ◌+◌, Bool, true, cond, List, [], ◌∷◌, ◌++◌, take, drop, IsTrue, refl, sym, ap, append_assoc, append-nil, subst, take-append-drop, ◌≤◌, arith, length-append, ◌⊎◌, inl, inr}
use Rattle.std.specs.Prelude.{◌&&◌, ◌==◌, codes, length, map, nat_le}
use Rattle.std.specs.Str.{bytes_eq}
use Rattle.std.specs.List.{list_all}
use Rattle.std.specs.Cmp.Derive.{both_true}
use Rattle.std.proofs.lemmas.Bool.{false≢true, le-leb, leb-true}
use Rattle.std.proofs.lemmas.List.{drop-append-le, take-append-le}
use Rattle.c_core.specs.declared.code.CClass.{CClass}
use Rattle.c_core.specs.declared.code.CFunc.{CFunc}
use Rattle.c_core.specs.declared.code.Code.{Code}
use Rattle.c_core.specs.declared.code.Kind.{Kind}
use Rattle.c_core.specs.declared.code.Line.{Line}
use Rattle.c_core.specs.Text.{class_line, code_lines, declaration_lines, declaration_text, first_line, function_end, function_head, function_lines, global_line, global_lines, indented, kind_text, lines_from, module_head, parameters_text, statement_lines}
use Rattle.c_core.specs.WellFormed.{Declared, Spelled, is_char, is_identifier, spelled_body, spelled_class, spelled_function, spelled_functions, spelled_line, spelled_top}
use Rattle.c_text.specs.declared.head.FunctionHead.{FunctionHead}
use Rattle.c_text.specs.declared.head.FunctionHead.TheVariants.{Module, Function}
use Rattle.c_text.specs.declared.part.Above.{Above}
use Rattle.c_text.specs.declared.part.Added.{Added}
use Rattle.c_text.specs.declared.part.Added.TheVariants as added
use Rattle.c_text.specs.declared.part.Open.{Open}
use Rattle.c_text.specs.declared.part.Outside.{Outside}
use Rattle.c_text.specs.declared.part.Outside.TheVariants as outside
use Rattle.c_text.specs.Adding.{Adds, AddsNothingOutside, AddsOutside, with_added, with_outside}
use Rattle.c_text.specs.Classes.{AreClasses, IsClass, class_lines}
use Rattle.c_text.specs.declared.part.Part.{Part}
use Rattle.c_text.specs.declared.part.Part.TheVariants.{Start, Between, Inside, Closed}
use Rattle.c_text.specs.Heads.{BeginsFunction, IsHead, IsNoHead, function_of, head_line, parameters_of}
use Rattle.c_text.specs.Labels.{labels_after, labels_behind, line_text}
use Rattle.c_text.specs.Reading.{CanStand}
use Rattle.c_text.specs.Statements.{AreNamed, IsLine, IsNoLine}
use Rattle.c_text.specs.Parts.{AreSpelled, IsAbove, IsFine, IsNext, IsOpen, above_lines, code_of, open_lines, other_lines, part_lines}
use Rattle.c_text.proofs.ArgumentLemmas.{all_push}
use Rattle.c_text.proofs.Bytes.{and_true}
use Rattle.c_text.proofs.ClassLines.{class_not_global, class_not_head, class_not_module}
use Rattle.c_text.proofs.HeadLemmas.{named_drop, named_push, named_take, same_head}
use Rattle.c_text.proofs.LineTexts.{end_not_declaration, end_not_line, global_not_head, global_not_module, head_not_module, lines_step, no_declaration, same_after, same_declaration}

pub heads : {A : Type 0} {x y : A} {xs ys : List A} → x ∷ xs ≡ y ∷ ys → x ≡ y
heads e = cc

pub tails : {A : Type 0} {x y : A} {xs ys : List A} → x ∷ xs ≡ y ∷ ys → xs ≡ ys
tails e = cc

no_line_left : {A : Type 0} {x : A} {xs : List A} → x ∷ xs ≡ [] → ⊥
no_line_left e = cc

-- ---- the parts of a spelled code

abbrev pub coded : List Declared → List CClass → List CFunc → Code
coded globals classes functions = record { globals = globals; classes = classes; funcs = functions }

pub record CodeParts (code : Code) : Type 0 where
  pub named : AreNamed code.globals
  pub classes : AreClasses code.classes
  pub functions : IsTrue (spelled_functions code.funcs)

pub code_parts : (code : Code) → Spelled code → CodeParts code
code_parts code h =
    let globals = and_true (list_all (λ v. is_identifier v.0) code.globals) _ h in
    let classes = and_true (list_all spelled_class code.classes) _ globals.1 in
    record { named = globals.0; classes = classes.0; functions = classes.1 }

pub record FunctionParts (g : CFunc) : Type 0 where
  pub named : AreNamed g.vars
  pub spelled : AreSpelled g.vars g.lines

pub body_parts : (g : CFunc) → IsTrue (spelled_body g) → FunctionParts g
body_parts g h = let p = and_true (list_all (λ v. is_identifier v.0) g.vars) _ h in record { named = p.0; spelled = p.1 }

pub record OtherParts (g : CFunc) : Type 0 where
  pub name : IsTrue (is_identifier g.name)
  pub few : IsTrue (nat_le g.params (length g.vars))
  pub named : AreNamed g.vars
  pub spelled : AreSpelled g.vars g.lines

pub other_parts : (g : CFunc) → IsTrue (spelled_function g) → OtherParts g
other_parts g h =
    let p = and_true (is_identifier g.name) _ h in
    let q = and_true (nat_le g.params (length g.vars)) _ p.1 in
    let b = body_parts g q.1 in
    record { name = p.0; few = q.0; named = b.named; spelled = b.spelled }

pub other_spelled : (g : CFunc) → OtherParts g → IsTrue (spelled_function g)
other_spelled g p = both_true p.name (both_true p.few (both_true p.named p.spelled))

-- ---- where a function ends

abbrev HasNoEnd : List (List ℕ) → Type 0
HasNoEnd [] = Unit {0}
HasNoEnd (t ∷ ts) = (t ≢ function_end) × HasNoEnd ts

no_end_declarations : (vars : List Declared) (more : List (List ℕ)) → HasNoEnd more → HasNoEnd (declaration_lines vars ++ more)
no_end_declarations [] more h = h
no_end_declarations (v ∷ vars) more h = (end_not_declaration v, no_end_declarations vars more h)

no_end_lines : (vars : List Declared) (n : ℕ) (lines : List Line) → HasNoEnd (lines_from vars n lines)
no_end_lines vars n [] = tt
no_end_lines vars n (l ∷ lines) = subst HasNoEnd (sym (lines_step vars n l lines)) (end_not_line vars n l, no_end_lines vars (labels_after n l) lines)

first_end : (xs ys more tail : List (List ℕ)) → HasNoEnd xs → HasNoEnd ys → xs ++ function_end ∷ more ≡ ys ++ function_end ∷ tail → (xs ≡ ys) × (more ≡ tail)
first_end [] [] more tail p q e = (refl, tails e)
first_end [] (y ∷ ys) more tail p q e = absurd (q.0 (sym (heads e)))
first_end (x ∷ xs) [] more tail p q e = absurd (p.0 (heads e))
first_end (x ∷ xs) (y ∷ ys) more tail p q e =
    let r = first_end xs ys more tail p.1 q.1 (tails e) in (ap (λ z. z ∷ xs) (heads e) ∙ ap (λ zs. y ∷ zs) r.0, r.1)

-- the lines between the head of a function and its end
abbrev inner : List Declared → List Declared → List Line → List (List ℕ)
inner own vars lines = declaration_lines own ++ statement_lines vars lines

no_end : (own vars : List Declared) (lines : List Line) → HasNoEnd (inner own vars lines)
no_end own vars lines = no_end_declarations own (statement_lines vars lines) (no_end_lines vars 0 lines)

pub inner_ends : (own vars others ws : List Declared) (ls ms : List Line) (more tail : List (List ℕ)) → declaration_lines own ++ (statement_lines vars ls ++ (function_end ∷ more)) ≡ declaration_lines others ++ (statement_lines ws ms ++ (function_end ∷ tail)) → (declaration_lines own ++ statement_lines vars ls ≡ declaration_lines others ++ statement_lines ws ms) × (more ≡ tail)
inner_ends own vars others ws ls ms more tail e =
    first_end (inner own vars ls) (inner others ws ms) more tail (no_end own vars ls) (no_end others ws ms)
    (append_assoc (declaration_lines own) (statement_lines vars ls) (function_end ∷ more) ∙ e ∙ sym (append_assoc (declaration_lines others) (statement_lines ws ms) (function_end ∷ tail)))

-- ---- what is left of a code's lines behind those of a part

no_functions : {P : Type 0} → IsTrue (spelled_functions []) → P
no_functions h = absurd (false≢true h)

functions_behind : (cs fs : List CFunc) (tail : List (List ℕ)) → IsTrue (spelled_functions cs) → function_lines cs ≡ other_lines fs ++ tail → (ms : List CFunc) × IsTrue (spelled_functions ms) × (function_lines ms ≡ tail)
functions_behind cs [] tail h e = (cs, h, e)
functions_behind [] (f ∷ fs) tail h e = no_functions h
functions_behind (g ∷ []) (f ∷ fs) tail h e = absurd (head_not_module f (sym (heads e)))
functions_behind (g ∷ k ∷ gs) (f ∷ fs) tail h e =
    let ends = inner_ends (drop g.params g.vars) g.vars (drop f.params f.vars) f.vars g.lines f.lines (function_lines (k ∷ gs)) (other_lines fs ++ tail) (tails e ∙ append_assoc (declaration_lines (drop f.params f.vars)) (statement_lines f.vars f.lines ++ (function_end ∷ other_lines fs)) tail
    ∙ ap (λ t. declaration_lines (drop f.params f.vars) ++ t) (append_assoc (statement_lines f.vars f.lines) (function_end ∷ other_lines fs) tail)) in
    functions_behind (k ∷ gs) fs tail (and_true (spelled_function g) _ h).1 ends.1

-- the lines of functions begin with no global and no class, and those of classes with no global
functions_not_global : (fs : List CFunc) (v : Declared) (tail : List (List ℕ)) → IsTrue (spelled_functions fs) → function_lines fs ≡ global_line v ∷ tail → ⊥
functions_not_global [] v tail h e = no_functions h
functions_not_global (t ∷ []) v tail h e = global_not_module v (sym (heads e))
functions_not_global (f ∷ k ∷ fs) v tail h e = global_not_head v f (sym (heads e))

pub functions_not_class : (fs : List CFunc) (k : CClass) (tail : List (List ℕ)) → IsTrue (spelled_functions fs) → function_lines fs ≡ class_line k ∷ tail → ⊥
functions_not_class [] k tail h e = no_functions h
functions_not_class (t ∷ []) k tail h e = class_not_module k (sym (heads e))
functions_not_class (f ∷ g ∷ fs) k tail h e = class_not_head k f (sym (heads e))

pub classes_not_global : (ks : List CClass) (fs : List CFunc) (v : Declared) (tail : List (List ℕ)) → IsTrue (spelled_functions fs) → class_lines ks ++ function_lines fs ≡ global_line v ∷ tail → ⊥
classes_not_global [] fs v tail h e = functions_not_global fs v tail h e
classes_not_global (k ∷ ks) fs v tail h e = class_not_global k v (heads e)

-- lines of one sort, before lines of which the first is of another
lines_behind : {A : Type 0} (line : A → List ℕ) (spelled : A → Bool) (cs gs : List A) (more tail : List (List ℕ)) → ((a : A) (rest : List (List ℕ)) → more ≡ line a ∷ rest → ⊥) → IsTrue (list_all spelled cs) → map line cs ++ more ≡ map line gs ++ tail → (ms : List A) × IsTrue (list_all spelled ms) × (map line ms ++ more ≡ tail)
lines_behind line spelled cs [] more tail none n e = (cs, n, e)
lines_behind line spelled [] (g ∷ gs) more tail none n e = absurd (none g (map line gs ++ tail) e)
lines_behind line spelled (c ∷ cs) (g ∷ gs) more tail none n e = lines_behind line spelled cs gs more tail none (and_true (spelled c) _ n).1 (tails e)

globals_behind : (cs gs : List Declared) (ks : List CClass) (fs : List CFunc) (tail : List (List ℕ)) → AreNamed cs → IsTrue (spelled_functions fs) → global_lines cs ++ (class_lines ks ++ function_lines fs) ≡ global_lines gs ++ tail → (ms : List Declared) × AreNamed ms × (global_lines ms ++ (class_lines ks ++ function_lines fs) ≡ tail)
globals_behind cs gs ks fs tail n h e = lines_behind global_line (λ v. is_identifier v.0) cs gs (class_lines ks ++ function_lines fs) tail (λ v rest f. classes_not_global ks fs v rest h f) n e

classes_behind : (cs ks : List CClass) (fs : List CFunc) (tail : List (List ℕ)) → AreClasses cs → IsTrue (spelled_functions fs) → class_lines cs ++ function_lines fs ≡ class_lines ks ++ tail → (ms : List CClass) × AreClasses ms × (class_lines ms ++ function_lines fs ≡ tail)
classes_behind cs ks fs tail n h e = lines_behind class_line spelled_class cs ks (function_lines fs) tail (λ k rest f. functions_not_class fs k rest h f) n e

-- the lines above a function, and what follows them
pub above_more : (a : Above) (more : List (List ℕ)) → first_line ∷ (global_lines a.globals ++ (class_lines a.classes ++ (other_lines a.functions ++ more))) ≡ above_lines a ++ more
above_more a more =
    ap (λ t. first_line ∷ t) (ap (λ t. global_lines a.globals ++ t) (sym (append_assoc (class_lines a.classes) (other_lines a.functions) more)) ∙ sym (append_assoc (global_lines a.globals) (class_lines a.classes ++ other_lines a.functions) more))

-- behind what stands above a function come globals, if no class and no function has come, classes, if no function has, and functions
pub record Left (a : Above) (tail : List (List ℕ)) : Type 0 where
  pub globals : List Declared
  pub classes : List CClass
  pub functions : List CFunc
  pub named : AreNamed globals
  pub are_classes : AreClasses classes
  pub spelled : IsTrue (spelled_functions functions)
  pub lines : global_lines globals ++ (class_lines classes ++ function_lines functions) ≡ tail
  pub early : (globals ≡ []) ⊎ ((a.classes ≡ []) × (a.functions ≡ []))
  pub early_classes : (classes ≡ []) ⊎ (a.functions ≡ [])

-- the same behind the globals, and behind the classes too
functions_left : (code : Code) (a : Above) (tail : List (List ℕ)) (fs : List CFunc) → a.functions ≡ fs → CodeParts code → (ks : List CClass) → AreClasses ks → class_lines ks ++ function_lines code.funcs ≡ other_lines a.functions ++ tail → Left a tail
functions_left code a tail [] q p ks n e =
    record { globals = []; classes = ks; functions = code.funcs; named = refl; are_classes = n; spelled = p.functions; lines = e ∙ ap (λ z. other_lines z ++ tail) q; early = inl refl; early_classes = inr q }
functions_left code a tail (f ∷ fs) q p [] n e =
    let b = functions_behind code.funcs a.functions tail p.functions e in
    record { globals = []; classes = []; functions = b.0; named = refl; are_classes = refl; spelled = b.1; lines = b.2; early = inl refl; early_classes = inl refl }
functions_left code a tail (f ∷ fs) q p (k ∷ ks) n e = absurd (class_not_head k f (heads (e ∙ ap (λ z. other_lines z ++ tail) q)))

classes_left : (code : Code) (a : Above) (tail : List (List ℕ)) (ks : List CClass) (fs : List CFunc) → a.classes ≡ ks → a.functions ≡ fs → CodeParts code → (ms : List Declared) → AreNamed ms → global_lines ms ++ (class_lines code.classes ++ function_lines code.funcs) ≡ class_lines a.classes ++ (other_lines a.functions ++ tail) → Left a tail
classes_left code a tail ks fs q r p [] n e =
    let c = classes_behind code.classes a.classes code.funcs (other_lines a.functions ++ tail) p.classes p.functions e in
    functions_left code a tail fs r p c.0 c.1 c.2
classes_left code a tail [] [] q r p (m ∷ ms) n e = record {
  globals = m ∷ ms;
  classes = code.classes;
  functions = code.funcs;
  named = n;
  are_classes = p.classes;
  spelled = p.functions;
  lines = e ∙ ap (λ z. class_lines z ++ (other_lines a.functions ++ tail)) q ∙ ap (λ z. other_lines z ++ tail) r;
  early = inr (q, r);
  early_classes = inr r;
}
classes_left code a tail (k ∷ ks) fs q r p (m ∷ ms) n e =
    absurd (class_not_global k m (sym (heads (e ∙ ap (λ z. class_lines z ++ (other_lines a.functions ++ tail)) q))))
classes_left code a tail [] (f ∷ fs) q r p (m ∷ ms) n e =
    absurd (global_not_head m f (heads (e ∙ ap (λ z. class_lines z ++ (other_lines a.functions ++ tail)) q ∙ ap (λ z. other_lines z ++ tail) r)))

pub left_of : (code : Code) (a : Above) (tail : List (List ℕ)) → Spelled code → code_lines code ≡ above_lines a ++ tail → Left a tail
left_of code a tail h e =
    let p = code_parts code h in
    let g = globals_behind code.globals a.globals code.classes code.funcs (class_lines a.classes ++ (other_lines a.functions ++ tail)) p.named p.functions (tails (e ∙ sym (above_more a tail))) in
    classes_left code a tail a.classes a.functions refl refl p g.0 g.1 g.2

-- ---- variables and the lines of a body

-- the first of some lines is no declaration
abbrev pub IsPast : List (List ℕ) → Type 0
IsPast [] = Unit {0}
IsPast (t ∷ ts) = (v : Declared) → IsTrue (is_identifier v.0) → indented (declaration_text v) ≢ t

-- the lines of a function's body above which n labels stand, with its last one
abbrev pub body_lines : List Declared → ℕ → List Line → List (List ℕ)
body_lines vars n lines = lines_from vars n lines ++ function_end ∷ []

body_step : (vars : List Declared) (n : ℕ) (l : Line) (lines : List Line) → body_lines vars n (l ∷ lines) ≡ line_text vars n l ∷ body_lines vars (labels_after n l) lines
body_step vars n l lines = ap (λ t. t ++ function_end ∷ []) (lines_step vars n l lines)

-- variables and what follows them are told apart
pub same_vars : (vars others : List Declared) (body tail : List (List ℕ)) → AreNamed vars → AreNamed others → IsPast body → IsPast tail → declaration_lines vars ++ body ≡ declaration_lines others ++ tail → (vars ≡ others) × (body ≡ tail)
same_vars [] [] body tail n m b t e = (refl, e)
same_vars [] (w ∷ others) [] tail n m b t e = absurd (no_line_left (sym e))
same_vars [] (w ∷ others) (l ∷ body) tail n m b t e = absurd (b w (and_true (is_identifier w.0) _ m).0 (sym (heads e)))
same_vars (v ∷ vars) [] body [] n m b t e = absurd (no_line_left e)
same_vars (v ∷ vars) [] body (l ∷ tail) n m b t e = absurd (t v (and_true (is_identifier v.0) _ n).0 (heads e))
same_vars (v ∷ vars) (w ∷ others) body tail n m b t e =
    let rest = same_vars vars others body tail (and_true (is_identifier v.0) _ n).1 (and_true (is_identifier w.0) _ m).1 b t (tails e) in
    (ap (λ x. x ∷ vars) (same_declaration v w (heads e)) ∙ ap (λ xs. w ∷ xs) rest.0, rest.1)

pub body_is_past : (vars : List Declared) (n : ℕ) (lines : List Line) (more : List (List ℕ)) → AreSpelled vars lines → IsPast (body_lines vars n lines ++ more)
body_is_past vars n [] more h = λ v d. end_not_declaration v
body_is_past vars n (l ∷ lines) more h =
    subst IsPast (ap (λ t. t ++ more) (sym (body_step vars n l lines))) (λ v d. no_declaration vars n l v (and_true (spelled_line vars l) _ h).0)

-- where no statement has come the next line is no declaration
abbrev pub IsPastBehind : List Line → List (List ℕ) → Type 0
IsPastBehind [] tail = IsPast tail
IsPastBehind (l ∷ lines) tail = Unit {0}

lines_are_past : (vars : List Declared) (lines : List Line) (tail : List (List ℕ)) → AreSpelled vars lines → IsPastBehind lines tail → IsPast (statement_lines vars lines ++ tail)
lines_are_past vars [] tail h p = p
lines_are_past vars (l ∷ lines) tail h p =
    subst IsPast (ap (λ t. t ++ tail) (sym (lines_step vars 0 l lines))) (λ v d. no_declaration vars 0 l v (and_true (spelled_line vars l) _ h).0)

-- lines of a body, behind its first ones
statements_behind : (vars : List Declared) (n : ℕ) (lines others : List Line) (more tail : List (List ℕ)) → AreSpelled vars lines → body_lines vars n lines ++ more ≡ lines_from vars n others ++ tail → (ms : List Line) × AreSpelled vars ms × (body_lines vars (labels_behind n others) ms ++ more ≡ tail)
statements_behind vars n lines [] more tail h e = (lines, h, e)
statements_behind vars n [] (m ∷ others) more tail h e = absurd (end_not_line vars n m (sym (heads (e ∙ ap (λ t. t ++ tail) (lines_step vars n m others)))))
statements_behind vars n (l ∷ lines) (m ∷ others) more tail h e =
    let f = sym (ap (λ t. t ++ more) (body_step vars n l lines)) ∙ e ∙ ap (λ t. t ++ tail) (lines_step vars n m others) in
    let after : labels_after n l ≡ labels_after n m = ap (λ b. cond b (n + 1) n) (same_after vars n l m (heads f)) in
    statements_behind vars (labels_after n m) lines others more tail (and_true (spelled_line vars l) _ h).1 (ap (λ k. body_lines vars k lines ++ more) (sym after) ∙ tails f)

-- no line of a body is this one
no_next : (vars : List Declared) (n : ℕ) (lines : List Line) (piece : List ℕ) (more rest : List (List ℕ)) → piece ≢ function_end → IsNoLine vars n piece → AreSpelled vars lines → body_lines vars n lines ++ more ≡ piece ∷ rest → ⊥
no_next vars n [] piece more rest c none h e = c (sym (heads e))
no_next vars n (l ∷ lines) piece more rest c none h e =
    none l (and_true (spelled_line vars l) _ h).0 (heads (sym (ap (λ t. t ++ more) (body_step vars n l lines)) ∙ e))

no_body : (vars : List Declared) (n : ℕ) (lines : List Line) (more : List (List ℕ)) → body_lines vars n lines ++ more ≡ [] → ⊥
no_body vars n [] more e = no_line_left e
no_body vars n (l ∷ lines) more e = no_line_left (sym (ap (λ t. t ++ more) (body_step vars n l lines)) ∙ e)

-- behind the lines of a function that has not ended come the other lines of its body
pub record OpenLeft (o : Open) (tail : List (List ℕ)) : Type 0 where
  pub lines : List Line
  pub more : List (List ℕ)
  pub spelled : AreSpelled o.vars lines
  pub is : body_lines o.vars (labels_behind 0 o.lines) lines ++ more ≡ tail

-- the function that a code goes on with is the one that has begun
inside_body : (o : Open) (own others vars : List Declared) (lines : List Line) (more tail : List (List ℕ)) → IsOpen o → AreNamed own → AreNamed others → AreSpelled vars lines → IsPastBehind o.lines tail → (own ≡ others → vars ≡ o.vars) → declaration_lines own ++ (statement_lines vars lines ++ (function_end ∷ more)) ≡ (declaration_lines others ++ statement_lines o.vars o.lines) ++ tail → OpenLeft o tail
inside_body o own others vars lines more tail fine n m h past whole e =
    let joined : statement_lines vars lines ++ (function_end ∷ more) ≡ body_lines vars 0 lines ++ more = sym (append_assoc (statement_lines vars lines) (function_end ∷ []) more) in
    let s = same_vars own others (body_lines vars 0 lines ++ more) (statement_lines o.vars o.lines ++ tail) n m (body_is_past vars 0 lines more h) (lines_are_past o.vars o.lines tail fine.spelled past)
    (ap (λ t. declaration_lines own ++ t) (sym joined) ∙ e ∙ append_assoc (declaration_lines others) (statement_lines o.vars o.lines) tail) in
    let same = whole s.0 in
    let b = statements_behind o.vars 0 lines o.lines more tail (subst (λ (vs : List Declared). AreSpelled vs lines) same h) (subst (λ (vs : List Declared). body_lines vs 0 lines ++ more ≡ statement_lines o.vars o.lines ++ tail) same s.1) in
    record { lines = b.0; more = more; spelled = b.1; is = b.2 }

pub top_parts : (g : CFunc) → IsTrue (spelled_functions (g ∷ [])) → FunctionParts g
top_parts g h =
    let ret = (and_true (bytes_eq g.name []) _ h).1 in
    let params = (and_true (is_char g.ret) _ ret).1 in
    body_parts g (and_true (g.params == 0) _ params).1

open_functions : (o : Open) (fs : List CFunc) (tail : List (List ℕ)) (head : FunctionHead) → o.head ≡ head → IsOpen o → IsPastBehind o.lines tail → IsTrue (spelled_functions fs) → function_lines fs ≡ open_lines o ++ tail → OpenLeft o tail
open_functions o [] tail head q fine past h e = no_functions h
open_functions o (g ∷ []) tail Module q fine past h e =
    let p = top_parts g h in
    inside_body o g.vars o.vars g.vars g.lines [] tail fine p.named fine.named p.spelled past (λ s. s) (tails e ∙ ap (λ z. (declaration_lines (drop (parameters_of z) o.vars) ++ statement_lines o.vars o.lines) ++ tail) q)
open_functions o (g ∷ []) tail (Function name ret params) q fine past h e =
    absurd (head_not_module (record { name = name; ret = ret; params = params; vars = o.vars; lines = [] }) (sym (heads (e ∙ ap (λ z. (head_line z o.vars ∷ (declaration_lines (drop (parameters_of o.head) o.vars) ++ statement_lines o.vars o.lines)) ++ tail) q))))
open_functions o (g ∷ k ∷ gs) tail Module q fine past h e =
    absurd (head_not_module g (heads (e ∙ ap (λ z. (head_line z o.vars ∷ (declaration_lines (drop (parameters_of o.head) o.vars) ++ statement_lines o.vars o.lines)) ++ tail) q)))
open_functions o (g ∷ k ∷ gs) tail (Function name ret params) q fine past h e =
    let f : CFunc = record { name = name; ret = ret; params = params; vars = o.vars; lines = [] } in
    let p = other_parts g (and_true (spelled_function g) _ h).0 in
    let is_head = subst (λ (z : FunctionHead). IsHead z o.vars) q fine.head in
    let line = e ∙ ap (λ z. (head_line z o.vars ∷ (declaration_lines (drop (parameters_of z) o.vars) ++ statement_lines o.vars o.lines)) ++ tail) q in
    let same = same_head g f p.name is_head.0 (named_take g.params g.vars p.named) (named_take params o.vars fine.named) (heads line) in
    inside_body o (drop g.params g.vars) (drop params o.vars) g.vars g.lines (function_lines (k ∷ gs)) tail fine (named_drop g.params g.vars p.named) (named_drop params o.vars fine.named) p.spelled past
    (λ s. sym (take-append-drop g.params g.vars) ∙ ap (λ z. z ++ drop g.params g.vars) same.2 ∙ ap (λ z. take params o.vars ++ z) s ∙ take-append-drop params o.vars) (tails line)

head_is_no_class : (o : Open) (head : FunctionHead) (k : CClass) → o.head ≡ head → class_line k ≢ head_line o.head o.vars
head_is_no_class o Module k q e = class_not_module k (e ∙ ap (λ z. head_line z o.vars) q)
head_is_no_class o (Function name ret params) k q e =
    class_not_head k (record { name = name; ret = ret; params = params; vars = o.vars; lines = [] }) (e ∙ ap (λ z. head_line z o.vars) q)

head_is_first : (o : Open) (head : FunctionHead) (v : Declared) → o.head ≡ head → global_line v ≢ head_line o.head o.vars
head_is_first o Module v q e = global_not_module v (e ∙ ap (λ z. head_line z o.vars) q)
head_is_first o (Function name ret params) v q e =
    global_not_head v (record { name = name; ret = ret; params = params; vars = o.vars; lines = [] }) (e ∙ ap (λ z. head_line z o.vars) q)

pub open_left : (code : Code) (a : Above) (o : Open) (tail : List (List ℕ)) → Spelled code → IsOpen o → IsPastBehind o.lines tail → code_lines code ≡ (above_lines a ++ open_lines o) ++ tail → OpenLeft o tail
open_left code a o tail h fine past e =
    let l = left_of code a (open_lines o ++ tail) h (e ∙ append_assoc (above_lines a) (open_lines o) tail) in
    split l.globals l.classes l.functions l.spelled l.lines
  where
    split : (gs : List Declared) (ks : List CClass) (fs : List CFunc) → IsTrue (spelled_functions fs) → global_lines gs ++ (class_lines ks ++ function_lines fs) ≡ open_lines o ++ tail → OpenLeft o tail
    split [] [] fs s f = open_functions o fs tail o.head refl fine past s f
    split [] (k ∷ ks) fs s f = absurd (head_is_no_class o o.head k refl (heads f))
    split (g ∷ gs) ks fs s f = absurd (head_is_first o o.head g refl (heads f))

-- ---- a line that cannot follow

pub stops_between : (a : Above) (piece : List ℕ) → AddsNothingOutside a piece → ¬ (CanStand (above_lines a ++ piece ∷ []))
stops_between a piece none c =
    let l = left_of c.code a (piece ∷ c.rest) c.spelled (c.lines ∙ append_assoc (above_lines a) (piece ∷ []) c.rest) in
    split l.globals l.classes l.functions l.named l.are_classes l.spelled l.lines l.early l.early_classes
  where
    functions : (fs : List CFunc) → IsTrue (spelled_functions fs) → function_lines fs ≡ piece ∷ c.rest → ⊥
    functions [] s e = no_functions s
    functions (t ∷ []) s e = none.no_head.0 (sym (heads e))
    functions (f ∷ k ∷ fs) s e =
        let p = other_parts f (and_true (spelled_function f) _ s).0 in none.no_head.1 f p.name (named_take f.params f.vars p.named) (heads e)

    split : (gs : List Declared) (ks : List CClass) (fs : List CFunc) → AreNamed gs → AreClasses ks → IsTrue (spelled_functions fs) → global_lines gs ++ (class_lines ks ++ function_lines fs) ≡ piece ∷ c.rest → (gs ≡ []) ⊎ ((a.classes ≡ []) × (a.functions ≡ [])) → (ks ≡ []) ⊎ (a.functions ≡ []) → ⊥
    split [] [] fs n m s e early last = functions fs s e
    split [] (k ∷ ks) fs n m s e early (inl gone) = no_line_left gone
    split [] (k ∷ ks) fs n m s e early (inr gone) = none.no_class gone k (and_true (spelled_class k) _ m).0 (heads e)
    split (g ∷ gs) ks fs n m s e (inl gone) last = no_line_left gone
    split (g ∷ gs) ks fs n m s e (inr gone) last = none.no_global g gone.0 gone.1 (and_true (is_identifier g.0) _ n).0 (heads e)

pub past_piece : (lines : List Line) (piece : List ℕ) (rest : List (List ℕ)) → ((v : Declared) → lines ≡ [] → IsTrue (is_identifier v.0) → indented (declaration_text v) ≢ piece) → IsPastBehind lines (piece ∷ rest)
past_piece [] piece rest none = λ v h. none v refl h
past_piece (l ∷ lines) piece rest none = tt

pub stops_inside : (a : Above) (o : Open) (piece : List ℕ) → IsOpen o → piece ≢ function_end → ((v : Declared) → o.lines ≡ [] → IsTrue (is_identifier v.0) → indented (declaration_text v) ≢ piece) → IsNoLine o.vars (labels_behind 0 o.lines) piece → ¬ (CanStand ((above_lines a ++ open_lines o) ++ piece ∷ []))
stops_inside a o piece fine no_end no_declared none c =
    let l = open_left c.code a o (piece ∷ c.rest) c.spelled fine (past_piece o.lines piece c.rest no_declared) (c.lines ∙ append_assoc (above_lines a ++ open_lines o) (piece ∷ []) c.rest) in
    no_next o.vars (labels_behind 0 o.lines) l.lines piece l.more c.rest no_end none l.spelled l.is

nothing_behind : (fs gs : List CFunc) (tail : List (List ℕ)) → IsTrue (spelled_functions fs) → IsTrue (spelled_functions gs) → function_lines fs ≡ function_lines gs ++ tail → [] ≡ tail
nothing_behind [] gs tail h k e = no_functions h
nothing_behind (f ∷ fs) [] tail h k e = no_functions k
nothing_behind (f ∷ []) (g ∷ []) tail h k e =
    (inner_ends f.vars f.vars g.vars g.vars f.lines g.lines [] tail (tails e ∙ append_assoc (declaration_lines g.vars) (statement_lines g.vars g.lines ++ (function_end ∷ [])) tail
    ∙ ap (λ t. declaration_lines g.vars ++ t) (append_assoc (statement_lines g.vars g.lines) (function_end ∷ []) tail))).1
nothing_behind (f ∷ []) (g ∷ m ∷ gs) tail h k e = absurd (head_not_module g (sym (heads e)))
nothing_behind (f ∷ l ∷ fs) (g ∷ []) tail h k e = absurd (head_not_module f (heads e))
nothing_behind (f ∷ l ∷ fs) (g ∷ m ∷ gs) tail h k e =
    let ends = inner_ends (drop f.params f.vars) f.vars (drop g.params g.vars) g.vars f.lines g.lines (function_lines (l ∷ fs)) (function_lines (m ∷ gs) ++ tail) (tails e ∙ append_assoc (declaration_lines (drop g.params g.vars)) (statement_lines g.vars g.lines ++ (function_end ∷ function_lines (m ∷ gs))) tail
    ∙ ap (λ t. declaration_lines (drop g.params g.vars) ++ t) (append_assoc (statement_lines g.vars g.lines) (function_end ∷ function_lines (m ∷ gs)) tail)) in
    nothing_behind (l ∷ fs) (m ∷ gs) tail (and_true (spelled_function f) _ h).1 (and_true (spelled_function g) _ k).1 ends.1

pub stops_closed : (a : Above) (piece : List ℕ) → Spelled (code_of a) → ¬ (CanStand (code_lines (code_of a) ++ piece ∷ []))
stops_closed a piece fine c =
    let p = code_parts c.code c.spelled in
    let own = code_parts (code_of a) fine in
    let e = c.lines ∙ append_assoc (code_lines (code_of a)) (piece ∷ []) c.rest in
    let rest = piece ∷ c.rest in
    let g = globals_behind c.code.globals a.globals c.code.classes c.code.funcs (class_lines a.classes ++ (function_lines a.functions ++ rest)) p.named p.functions (tails e ∙ append_assoc (global_lines a.globals) (class_lines a.classes ++ function_lines a.functions) rest
    ∙ ap (λ t. global_lines a.globals ++ t) (append_assoc (class_lines a.classes) (function_lines a.functions) rest)) in
    globals g.0 g.2 a.classes refl own.functions
  where
    functions : (ks : List CClass) → class_lines ks ++ function_lines c.code.funcs ≡ function_lines a.functions ++ piece ∷ c.rest → (fs : List CFunc) → a.functions ≡ fs → IsTrue (spelled_functions fs) → ⊥
    functions [] e fs q s = no_line_left (sym (nothing_behind c.code.funcs fs (piece ∷ c.rest) (code_parts c.code c.spelled).functions s (e ∙ ap (λ z. function_lines z ++ piece ∷ c.rest) q)))
    functions (m ∷ ms) e [] q s = no_functions s
    functions (m ∷ ms) e (t ∷ []) q s = class_not_module m (heads (e ∙ ap (λ z. function_lines z ++ piece ∷ c.rest) q))
    functions (m ∷ ms) e (f ∷ g ∷ fs) q s = class_not_head m f (heads (e ∙ ap (λ z. function_lines z ++ piece ∷ c.rest) q))

    first_global : (m : Declared) (ms : List (List ℕ)) (fs : List CFunc) → IsTrue (spelled_functions fs) → global_line m ∷ ms ≡ function_lines fs ++ piece ∷ c.rest → ⊥
    first_global m ms [] s e = no_functions s
    first_global m ms (t ∷ []) s e = global_not_module m (heads e)
    first_global m ms (f ∷ g ∷ fs) s e = global_not_head m f (heads e)

    globals : (ms : List Declared) → global_lines ms ++ (class_lines c.code.classes ++ function_lines c.code.funcs) ≡ class_lines a.classes ++ (function_lines a.functions ++ piece ∷ c.rest) → (ks : List CClass) → a.classes ≡ ks → IsTrue (spelled_functions a.functions) → ⊥
    globals [] e ks q s =
        let p = code_parts c.code c.spelled in
        let b = classes_behind c.code.classes a.classes c.code.funcs (function_lines a.functions ++ piece ∷ c.rest) p.classes p.functions e in
        functions b.0 b.2 a.functions refl s
    globals (m ∷ ms) e [] q s = first_global m _ a.functions s (e ∙ ap (λ z. class_lines z ++ (function_lines a.functions ++ piece ∷ c.rest)) q)
    globals (m ∷ ms) e (k ∷ ks) q s = class_not_global k m (sym (heads (e ∙ ap (λ z. class_lines z ++ (function_lines a.functions ++ piece ∷ c.rest)) q)))

-- ---- the end of the text

abbrev pub IsUnended : Part → Type 0
IsUnended (Closed a) = ⊥
IsUnended _ = Unit {0}

lines_of_functions : (fs : List CFunc) → IsTrue (spelled_functions fs) → function_lines fs ≡ [] → ⊥
lines_of_functions [] h e = no_functions h
lines_of_functions (t ∷ []) h e = no_line_left e
lines_of_functions (f ∷ k ∷ fs) h e = no_line_left e

past_none : (lines : List Line) → IsPastBehind lines []
past_none [] = tt
past_none (l ∷ lines) = tt

-- the lines up to a part that is not closed are no whole text
pub unended_is_no_text : (part : Part) (code : Code) → IsFine part → IsUnended part → Spelled code → code_lines code ≡ part_lines part → ⊥
unended_is_no_text Start code fine o h e = no_line_left e
unended_is_no_text (Between a) code fine o h e =
    let l = left_of code a [] h (e ∙ sym (append-nil (above_lines a))) in
    split l.globals l.classes l.functions l.spelled l.lines
  where
    split : (gs : List Declared) (ks : List CClass) (fs : List CFunc) → IsTrue (spelled_functions fs) → global_lines gs ++ (class_lines ks ++ function_lines fs) ≡ [] → ⊥
    split [] [] fs s f = lines_of_functions fs s f
    split [] (k ∷ ks) fs s f = no_line_left f
    split (g ∷ gs) ks fs s f = no_line_left f
unended_is_no_text (Inside a o) code fine u h e =
    let l = open_left code a o [] h fine.1 (past_none o.lines) (e ∙ sym (append-nil (above_lines a ++ open_lines o))) in
    no_body o.vars (labels_behind 0 o.lines) l.lines l.more l.is
unended_is_no_text (Closed a) code fine o h e = o

-- ---- one line more

spelled_push : (vars : List Declared) (lines : List Line) (l : Line) → AreSpelled vars lines → IsTrue (spelled_line vars l) → AreSpelled vars (lines ++ l ∷ [])
spelled_push vars [] l h k = ap (λ b. b && true) k
spelled_push vars (m ∷ lines) l h k =
    let parts = and_true (spelled_line vars m) _ h in
    ap (λ b. b && list_all (spelled_line vars) (lines ++ l ∷ [])) parts.0 ∙ spelled_push vars lines l parts.1 k

lines_push : (vars : List Declared) (n : ℕ) (lines : List Line) (l : Line) → lines_from vars n (lines ++ l ∷ []) ≡ lines_from vars n lines ++ line_text vars (labels_behind n lines) l ∷ []
lines_push vars n [] l = lines_step vars n l []
lines_push vars n (m ∷ lines) l =
    lines_step vars n m (lines ++ l ∷ []) ∙ ap (λ ls. line_text vars n m ∷ ls) (lines_push vars (labels_after n m) lines l)
    ∙ ap (λ ls. ls ++ line_text vars (labels_behind (labels_after n m) lines) l ∷ []) (sym (lines_step vars n m lines))

vars_push : (vars : List Declared) (v : Declared) → declaration_lines (vars ++ v ∷ []) ≡ declaration_lines vars ++ indented (declaration_text v) ∷ []
vars_push [] v = refl
vars_push (w ∷ vars) v = ap (λ ls. indented (declaration_text w) ∷ ls) (vars_push vars v)

pub others_push : (fs : List CFunc) (g : CFunc) → other_lines (fs ++ g ∷ []) ≡ other_lines fs ++ (function_head g ∷ (declaration_lines (drop g.params g.vars) ++ (statement_lines g.vars g.lines ++ (function_end ∷ []))))
others_push [] g = refl
others_push (f ∷ fs) g =
    let own = declaration_lines (drop f.params f.vars) in
    let ls = statement_lines f.vars f.lines in
    let last = function_head g ∷ (declaration_lines (drop g.params g.vars) ++ (statement_lines g.vars g.lines ++ (function_end ∷ []))) in
    ap (λ t. function_head f ∷ (own ++ (ls ++ (function_end ∷ t)))) (others_push fs g)
    ∙ ap (λ t. function_head f ∷ t) (ap (λ t. own ++ t) (sym (append_assoc ls (function_end ∷ other_lines fs) last)) ∙ sym (append_assoc own (ls ++ (function_end ∷ other_lines fs)) last))

pub functions_push : (fs : List CFunc) (t : CFunc) → function_lines (fs ++ t ∷ []) ≡ other_lines fs ++ function_lines (t ∷ [])
functions_push [] t = refl
functions_push (f ∷ []) t =
    let own = declaration_lines (drop f.params f.vars) in
    let ls = statement_lines f.vars f.lines in
    ap (λ r. function_head f ∷ r) (ap (λ r. own ++ r) (sym (append_assoc ls (function_end ∷ []) (function_lines (t ∷ [])))) ∙ sym (append_assoc own (ls ++ (function_end ∷ [])) (function_lines (t ∷ []))))
functions_push (f ∷ g ∷ fs) t =
    let own = declaration_lines (drop f.params f.vars) in
    let ls = statement_lines f.vars f.lines in
    let rest = other_lines (g ∷ fs) in
    ap (λ r. function_head f ∷ (own ++ (ls ++ (function_end ∷ r)))) (functions_push (g ∷ fs) t)
    ∙ ap (λ r. function_head f ∷ r) (ap (λ r. own ++ r) (sym (append_assoc ls (function_end ∷ rest) (function_lines (t ∷ [])))) ∙ sym (append_assoc own (ls ++ (function_end ∷ rest)) (function_lines (t ∷ []))))

pub all_spelled : (fs : List CFunc) (t : CFunc) → IsTrue (list_all spelled_function fs) → IsTrue (spelled_top t) → IsTrue (spelled_functions (fs ++ t ∷ []))
all_spelled [] t h k = k
all_spelled (f ∷ []) t h k = both_true (and_true (spelled_function f) _ h).0 k
all_spelled (f ∷ g ∷ fs) t h k = let p = and_true (spelled_function f) _ h in both_true p.0 (all_spelled (g ∷ fs) t p.1 k)

functions_all_push : (fs : List CFunc) (g : CFunc) → IsTrue (list_all spelled_function fs) → IsTrue (spelled_function g) → IsTrue (list_all spelled_function (fs ++ g ∷ []))
functions_all_push [] g h k = ap (λ b. b && true) k
functions_all_push (f ∷ fs) g h k = let p = and_true (spelled_function f) _ h in both_true p.0 (functions_all_push fs g p.1 k)

-- a variable more leaves the parameters as they are
few_push : (n : ℕ) (vars : List Declared) (v : Declared) → IsTrue (nat_le n (length vars)) → IsTrue (nat_le n (length (vars ++ v ∷ [])))
few_push n vars v h =
    let l : n ≤ length vars = leb-true n (length vars) h in
    le-leb n (length (vars ++ v ∷ [])) (omega (arith, l, length-append vars (v ∷ [])))

head_push : (head : FunctionHead) (vars : List Declared) (v : Declared) → IsHead head vars → IsHead head (vars ++ v ∷ [])
head_push Module vars v h = tt
head_push (Function name ret params) vars v h = (h.0, few_push params vars v h.1)

line_kept : (head : FunctionHead) (vars : List Declared) (v : Declared) → IsHead head vars → head_line head (vars ++ v ∷ []) ≡ head_line head vars
line_kept Module vars v h = refl
line_kept (Function name ret params) vars v h =
    let l : params ≤ length vars = leb-true params (length vars) h.1 in
    ap (λ t. kind_text ret ++ (codes "CPyDef_" ++ (name ++ (codes "(" ++ (parameters_text t ++ codes ") {"))))) (take-append-le params vars (v ∷ []) l)

drop_push : (head : FunctionHead) (vars : List Declared) (v : Declared) → IsHead head vars → drop (parameters_of head) (vars ++ v ∷ []) ≡ drop (parameters_of head) vars ++ v ∷ []
drop_push Module vars v h = refl
drop_push (Function name ret params) vars v h =
    let l : params ≤ length vars = leb-true params (length vars) h.1 in drop-append-le params vars (v ∷ []) l

pub next_declaration : (a : Above) (o : Open) (vars : List Declared) (v : Declared) (piece : List ℕ) → IsAbove a → IsOpen o → (o.lines ≡ []) × IsTrue (is_identifier v.0) × (indented (declaration_text v) ≡ piece) → vars ≡ o.vars ++ v ∷ [] → IsNext (Inside a o) piece (Inside a (record { head = o.head; vars = vars; lines = o.lines }))
next_declaration a o vars v piece above fine k e = (
  (above, record { head = subst (IsHead o.head) (sym e) (head_push o.head o.vars v fine.head); named = subst AreNamed (sym e) (named_push o.vars v fine.named k.1); spelled = subst (AreSpelled vars) (sym k.0) refl }),
  ap (λ ls. above_lines a ++ (head_line o.head vars ∷ (declaration_lines (drop (parameters_of o.head) vars) ++ statement_lines vars ls))) k.0
      ∙ ap (λ t. above_lines a ++ (head_line o.head vars ∷ t)) (append-nil (declaration_lines (drop (parameters_of o.head) vars)))
      ∙ ap (λ vs. above_lines a ++ (head_line o.head vs ∷ declaration_lines (drop (parameters_of o.head) vs))) e
      ∙ ap (λ t. above_lines a ++ t) (ap (λ t. t ∷ declaration_lines (drop (parameters_of o.head) (o.vars ++ v ∷ []))) (line_kept o.head o.vars v fine.head) ∙ ap (λ t. head_line o.head o.vars ∷ t) (ap declaration_lines (drop_push o.head o.vars v fine.head) ∙ vars_push (drop (parameters_of o.head) o.vars) v ∙ ap (λ t. declaration_lines (drop (parameters_of o.head) o.vars) ++ t ∷ []) k.2))
      ∙ sym (append_assoc (above_lines a) (head_line o.head o.vars ∷ declaration_lines (drop (parameters_of o.head) o.vars)) (piece ∷ []))
      ∙ ap (λ t. (above_lines a ++ (head_line o.head o.vars ∷ t)) ++ piece ∷ []) (sym (append-nil (declaration_lines (drop (parameters_of o.head) o.vars))) ∙ ap (λ ls. declaration_lines (drop (parameters_of o.head) o.vars) ++ statement_lines o.vars ls) (sym k.0)),
)

pub next_statement : (a : Above) (o : Open) (lines : List Line) (l : Line) (piece : List ℕ) → IsAbove a → IsOpen o → IsLine o.vars (labels_behind 0 o.lines) piece l → lines ≡ o.lines ++ l ∷ [] → IsNext (Inside a o) piece (Inside a (record { head = o.head; vars = o.vars; lines = lines }))
next_statement a o lines l piece above fine k e =
    let own = declaration_lines (drop (parameters_of o.head) o.vars) in (
      (above, record { head = fine.head; named = fine.named; spelled = subst (AreSpelled o.vars) (sym e) (spelled_push o.vars o.lines l fine.spelled k.0) }),
      ap (λ ls. above_lines a ++ (head_line o.head o.vars ∷ (own ++ statement_lines o.vars ls))) e
          ∙ ap (λ t. above_lines a ++ (head_line o.head o.vars ∷ t)) (ap (λ t. own ++ t) (lines_push o.vars 0 o.lines l ∙ ap (λ t. statement_lines o.vars o.lines ++ t ∷ []) k.1) ∙ sym (append_assoc own (statement_lines o.vars o.lines) (piece ∷ [])))
          ∙ sym (append_assoc (above_lines a) (open_lines o) (piece ∷ [])),
    )

-- what a line adds
pub next_added : (a : Above) (o grown : Open) (x : Added) (piece : List ℕ) → IsAbove a → IsOpen o → Adds o piece x → grown ≡ with_added o x → IsNext (Inside a o) piece (Inside a grown)
next_added a o grown (added.Variable v) piece above fine k e =
    subst (λ (p : Open). IsNext (Inside a o) piece (Inside a p)) (sym e) (next_declaration a o (o.vars ++ v ∷ []) v piece above fine k refl)
next_added a o grown (added.Line l) piece above fine k e =
    subst (λ (p : Open). IsNext (Inside a o) piece (Inside a p)) (sym e) (next_statement a o (o.lines ++ l ∷ []) l piece above fine k refl)

-- what a line adds outside of functions
map_push : {A : Type 0} (line : A → List ℕ) (xs : List A) (x : A) → map line (xs ++ x ∷ []) ≡ map line xs ++ line x ∷ []
map_push line [] x = refl
map_push line (y ∷ xs) x = ap (λ ls. line y ∷ ls) (map_push line xs x)

next_global : (a : Above) (v : Declared) (piece : List ℕ) → IsAbove a → (a.classes ≡ []) × (a.functions ≡ []) × IsTrue (is_identifier v.0) × (global_line v ≡ piece) → IsNext (Between a) piece (Between (record a { globals = a.globals ++ v ∷ [] }))
next_global a v piece above k =
    let gs = a.globals ++ v ∷ [] in (
      record { named = named_push a.globals v above.named k.2; classes = above.classes; functions = above.functions },
      ap (λ ks. first_line ∷ (global_lines gs ++ (class_lines ks ++ other_lines a.functions))) k.0
          ∙ ap (λ fs. first_line ∷ (global_lines gs ++ other_lines fs)) k.1
          ∙ ap (λ t. first_line ∷ t) (append-nil (global_lines gs) ∙ map_push global_line a.globals v ∙ ap (λ t. global_lines a.globals ++ t ∷ []) k.3)
          ∙ ap (λ fs. first_line ∷ (global_lines a.globals ++ (other_lines fs ++ piece ∷ []))) (sym k.1)
          ∙ ap (λ ks. first_line ∷ (global_lines a.globals ++ (class_lines ks ++ (other_lines a.functions ++ piece ∷ [])))) (sym k.0)
          ∙ above_more a (piece ∷ []),
    )

next_class : (a : Above) (k : CClass) (piece : List ℕ) → IsAbove a → (a.functions ≡ []) × IsClass piece k → IsNext (Between a) piece (Between (record a { classes = a.classes ++ k ∷ [] }))
next_class a k piece above h =
    let ks = a.classes ++ k ∷ [] in (
      record { named = above.named; classes = all_push spelled_class a.classes ks k above.classes h.1.0 refl; functions = above.functions },
      ap (λ fs. first_line ∷ (global_lines a.globals ++ (class_lines ks ++ other_lines fs))) h.0
          ∙ ap (λ t. first_line ∷ (global_lines a.globals ++ t)) (append-nil (class_lines ks) ∙ map_push class_line a.classes k ∙ ap (λ t. class_lines a.classes ++ t ∷ []) h.1.1)
          ∙ ap (λ fs. first_line ∷ (global_lines a.globals ++ (class_lines a.classes ++ (other_lines fs ++ piece ∷ [])))) (sym h.0)
          ∙ above_more a (piece ∷ []),
    )

next_head : (a : Above) (head : FunctionHead) (vars : List Declared) (piece : List ℕ) → IsAbove a → BeginsFunction head vars piece → IsNext (Between a) piece (Inside a (record { head = head; vars = vars; lines = [] }))
next_head a head vars piece above h = (
  (above, record { head = h.is_head; named = h.named; spelled = refl }),
  ap (λ vs. above_lines a ++ (head_line head vars ∷ (declaration_lines vs ++ []))) h.all ∙ ap (λ t. above_lines a ++ t ∷ []) h.line,
)

pub next_outside : (a : Above) (x : Outside) (piece : List ℕ) (part : Part) → IsAbove a → AddsOutside a piece x → part ≡ with_outside a x → IsNext (Between a) piece part
next_outside a (outside.Global v) piece part above k e = subst (IsNext (Between a) piece) (sym e) (next_global a v piece above k)
next_outside a (outside.Class k) piece part above h e = subst (IsNext (Between a) piece) (sym e) (next_class a k piece above h)
next_outside a (outside.Head head vars) piece part above h e = subst (IsNext (Between a) piece) (sym e) (next_head a head vars piece above h)

-- the function that ends is the last one of the code, or another one
pub next_top : (a : Above) (o : Open) (functions : List CFunc) → IsAbove a → IsOpen o → o.head ≡ Module → functions ≡ a.functions ++ function_of Module o.vars o.lines ∷ [] → IsNext (Inside a o) function_end (Closed (record { globals = a.globals; classes = a.classes; functions = functions }))
next_top a o functions above fine q e =
    let t = function_of Module o.vars o.lines in
    let body = declaration_lines o.vars ++ statement_lines o.vars o.lines in (
      both_true above.named (both_true above.classes (subst (λ (fs : List CFunc). IsTrue (spelled_functions fs)) (sym e) (all_spelled a.functions t above.functions (both_true fine.named fine.spelled)))),
      ap (λ fs. first_line ∷ (global_lines a.globals ++ (class_lines a.classes ++ function_lines fs))) e
          ∙ ap (λ r. first_line ∷ (global_lines a.globals ++ (class_lines a.classes ++ r))) (functions_push a.functions t)
          ∙ above_more a (function_lines (t ∷ []))
          ∙ ap (λ r. above_lines a ++ (module_head ∷ r)) (sym (append_assoc (declaration_lines o.vars) (statement_lines o.vars o.lines) (function_end ∷ [])))
          ∙ sym (append_assoc (above_lines a) (module_head ∷ body) (function_end ∷ []))
          ∙ ap (λ z. (above_lines a ++ (head_line z o.vars ∷ (declaration_lines (drop (parameters_of z) o.vars) ++ statement_lines o.vars o.lines))) ++ function_end ∷ []) (sym q),
    )

pub next_other : (a : Above) (o : Open) (functions : List CFunc) (name : List ℕ) (ret : Kind) (params : ℕ) → IsAbove a → IsOpen o → o.head ≡ Function name ret params → functions ≡ a.functions ++ function_of (Function name ret params) o.vars o.lines ∷ [] → IsNext (Inside a o) function_end (Between (record { globals = a.globals; classes = a.classes; functions = functions }))
next_other a o functions name ret params above fine q e =
    let g = function_of (Function name ret params) o.vars o.lines in
    let own = declaration_lines (drop params o.vars) in
    let is_head = subst (λ (z : FunctionHead). IsHead z o.vars) q fine.head in (
      record {
        named = above.named;
        classes = above.classes;
        functions = subst (λ (fs : List CFunc). IsTrue (list_all spelled_function fs)) (sym e) (functions_all_push a.functions g above.functions (other_spelled g (record { name = is_head.0; few = is_head.1; named = fine.named; spelled = fine.spelled })));
      },
      ap (λ fs. first_line ∷ (global_lines a.globals ++ (class_lines a.classes ++ other_lines fs))) e
          ∙ ap (λ r. first_line ∷ (global_lines a.globals ++ (class_lines a.classes ++ r))) (others_push a.functions g)
          ∙ above_more a (function_head g ∷ (own ++ (statement_lines o.vars o.lines ++ (function_end ∷ []))))
          ∙ ap (λ r. above_lines a ++ (function_head g ∷ r)) (sym (append_assoc own (statement_lines o.vars o.lines) (function_end ∷ [])))
          ∙ sym (append_assoc (above_lines a) (function_head g ∷ (own ++ statement_lines o.vars o.lines)) (function_end ∷ []))
          ∙ ap (λ z. (above_lines a ++ (head_line z o.vars ∷ (declaration_lines (drop (parameters_of z) o.vars) ++ statement_lines o.vars o.lines))) ++ function_end ∷ []) (sym q),
    )

-- a function by its parts, as the last one of a list
abbrev made : Kind → ℕ → List ℕ → List Declared → List Line → CFunc
made ret params a b c = record { name = a; ret = ret; params = params; vars = b; lines = c }

pub made_last : (fs new : List CFunc) (name other : List ℕ) (ret : Kind) (params : ℕ) (vars ws : List Declared) (lines ms : List Line) → new ≡ fs ++ made ret params name vars lines ∷ [] → name ≡ other → vars ≡ ws → lines ≡ ms → new ≡ fs ++ made ret params other ws ms ∷ []
made_last fs new name other ret params vars ws lines ms e n v l = e ∙ ap (λ z. fs ++ made ret params z vars lines ∷ []) n ∙ ap (λ z. fs ++ made ret params other z lines ∷ []) v ∙ ap (λ z. fs ++ made ret params other ws z ∷ []) l
