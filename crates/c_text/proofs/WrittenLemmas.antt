-- What is written piece by piece is the text of the code's lines.
use Rattle.std.proofs.Common.{◌≡◌, ◌∙◌, ℕ, ◌+◌, ◌-◌, ◌<◌, ◌≤◌, suc, Bool, true, false, cond, List, [], ◌∷◌, ◌++◌, length, take, drop, get_or, refl, sym, ap, subst, arith, append_assoc, append-nil, add-one, take-append-drop, Ok, Err}
use Rattle.std.specs.Prelude.{codes, map, Result, IsErr}
use Rattle.std.specs.Fmt.{decimal}
use Rattle.std.specs.List.{flat_map}
use Rattle.std.proofs.lemmas.Grind.{common_steps}
use Rattle.std.proofs.lemmas.List.{take_all, take_more}
use Rattle.std.proofs.Math.Seq.{drop-cons}
use Rattle.outside_core.specs.Bytes.{TakesFront}
use Rattle.outside_core.specs.Counts.{count_after}
use Rattle.c_core.specs.declared.code.CClass.{CClass}
use Rattle.c_core.specs.declared.code.CFunc.{CFunc}
use Rattle.c_core.specs.declared.code.Code.{Code}
use Rattle.c_core.specs.declared.code.Line.{Line}
use Rattle.c_core.specs.Functions.{is_label}
use Rattle.c_core.specs.Text.{class_line, code_text, comma, declaration_lines, declaration_text, first_line, function_end, function_head, function_lines, global_line, global_lines, indented, joined, kind_text, label_line, lines_from, module_head, parameters_text, statement_text, text_of}
use Rattle.c_core.specs.WellFormed.{Declared}
use Rattle.c_text.specs.Classes.{class_lines, class_written}
use Rattle.c_text.specs.Labels.{labels_after, labels_behind, line_text}
use Rattle.c_text.specs.Writing.{Wrote}
use Rattle.c_text.specs.Written.{declaration_written, functions_written, global_written, head_written, indented_written, label_written, line_written, lines_written, next_parameter, other_written, top_written}
use Rattle.c_text.proofs.Fronts.{front_behind, front_of_first}
use Rattle.c_text.proofs.LineTexts.{lines_step}
use Rattle.c_text.proofs.Writing.{erred}

-- a line with its line feed, and what follows it
ended : (text rest : List ℕ) → indented text ++ 10 ∷ rest ≡ (codes "    " ++ (text ++ codes ";\n")) ++ rest
ended text rest =
    ap (λ t. codes "    " ++ t) (append_assoc text (codes ";") (10 ∷ rest) ∙ sym (append_assoc text (codes ";\n") rest))

declaration_is : (v : Declared) → codes "    " ++ (declaration_text v ++ codes ";\n") ≡ declaration_written v
declaration_is v = ap (λ t. codes "    " ++ t) (append_assoc (kind_text v.1) (codes "cpy_" ++ v.0) (codes ";\n"))

declarations : (vars : List Declared) (more : List (List ℕ)) → text_of (declaration_lines vars ++ more) ≡ flat_map declaration_written vars ++ text_of more
declarations [] more = refl
declarations (v ∷ vars) more =
    ended (declaration_text v) (text_of (declaration_lines vars ++ more))
    ∙ ap (λ t. t ++ text_of (declaration_lines vars ++ more)) (declaration_is v)
    ∙ ap (λ t. declaration_written v ++ t) (declarations vars more)
    ∙ sym (append_assoc (declaration_written v) (flat_map declaration_written vars) (text_of more))

line_ended : (vars : List Declared) (n : ℕ) (l : Line) (rest : List ℕ) → line_text vars n l ++ 10 ∷ rest ≡ line_written vars n l ++ rest
line_ended vars n l rest = split (is_label l)
  where
    split : (b : Bool) → cond b (label_line n) (indented (statement_text vars l)) ++ 10 ∷ rest ≡ cond b (label_written n) (indented_written vars l) ++ rest
    split true = ap (λ t. codes "CPyL" ++ t) (append_assoc (decimal n) (codes ": ;") (10 ∷ rest) ∙ sym (append_assoc (decimal n) (codes ": ;\n") rest))
    split false = ended (statement_text vars l) rest

statements : (vars : List Declared) (n : ℕ) (lines : List Line) (more : List (List ℕ)) → text_of (lines_from vars n lines ++ more) ≡ lines_written vars n lines ++ text_of more
statements vars n [] more = refl
statements vars n (l ∷ lines) more =
    let after = labels_after n l in
    ap (λ t. text_of (t ++ more)) (lines_step vars n l lines)
    ∙ line_ended vars n l (text_of (lines_from vars after lines ++ more))
    ∙ ap (λ t. line_written vars n l ++ t) (statements vars after lines more)
    ∙ sym (append_assoc (line_written vars n l) (lines_written vars after lines) (text_of more))

lines_written-append : (vars : List Declared) (n : ℕ) (xs ys : List Line) → lines_written vars n (xs ++ ys) ≡ lines_written vars n xs ++ lines_written vars (labels_behind n xs) ys
lines_written-append vars n [] ys = refl
lines_written-append vars n (x ∷ xs) ys =
    ap (λ t. line_written vars n x ++ t) (lines_written-append vars (labels_after n x) xs ys)
    ∙ sym (append_assoc (line_written vars n x) (lines_written vars (labels_after n x) xs) (lines_written vars (labels_behind n (x ∷ xs)) ys))

-- one line more, and a front of it
pub line_taken : {mid new : List ℕ} (old : List ℕ) (vars : List Declared) (xs : List Line) (i labels : ℕ) (x d : Line) → labels ≡ labels_behind 0 (take i xs) → i < length xs → x ≡ get_or xs i d → mid ≡ old ++ lines_written vars 0 (take i xs) → new ≡ mid ++ line_written vars labels x → new ≡ old ++ lines_written vars 0 (take (i + 1) xs)
line_taken old vars xs i labels x d counted h p q r =
    let before = lines_written vars 0 (take i xs) in
    r ∙ ap (λ t. t ++ line_written vars labels x) q ∙ append_assoc old before (line_written vars labels x)
    ∙ ap (λ k. old ++ (before ++ line_written vars k x)) counted
    ∙ ap (λ t. old ++ (before ++ t)) (sym (append-nil (line_written vars (labels_behind 0 (take i xs)) x)))
    ∙ ap (λ t. old ++ t) (sym (lines_written-append vars 0 (take i xs) (x ∷ [])))
    ∙ ap (λ ys. old ++ lines_written vars 0 ys) (ap (λ y. take i xs ++ (y ∷ [])) p ∙ sym (take_more xs i d h))

pub line_front : {mid new : List ℕ} (old : List ℕ) (vars : List Declared) (xs ys : List Line) (i labels : ℕ) (x d : Line) → xs ≡ ys → labels ≡ labels_behind 0 (take i xs) → i < length xs → x ≡ get_or xs i d → mid ≡ old ++ lines_written vars 0 (take i xs) → TakesFront mid new (line_written vars labels x) → TakesFront old new (lines_written vars 0 ys)
line_front {mid} {new} old vars xs ys i labels x d same counted h p q r =
    let around : take i xs ++ (x ∷ drop (i + 1) xs) ≡ xs =
    rw add-one (ap (λ y. take i xs ++ (y ∷ drop (suc i) xs)) p ∙ sym (ap (λ ys. take i xs ++ ys) (drop-cons xs i d h)) ∙ take-append-drop i xs) in
    let whole = sym (ap (lines_written vars 0) around) ∙ lines_written-append vars 0 (take i xs) (x ∷ drop (i + 1) xs) in
    let first = subst (λ (k : ℕ). TakesFront mid new (line_written vars k x)) counted r in
    subst (λ (text : List ℕ). TakesFront old new text) (sym whole ∙ ap (lines_written vars 0) same) (front_behind _ _ q (front_of_first _ first))

pub line_more : {T U E F : Type 0} {x : T} {y : U} {tells : Bool} {calm faults faults_then : ℕ} {old mid new : List ℕ} (vars : List Declared) (xs : List Line) (i labels : ℕ) (l d : Line) → labels ≡ labels_behind 0 (take i xs) → i < length xs → l ≡ get_or xs i d → Wrote {E = E} (Ok x) tells calm faults old mid (lines_written vars 0 (take i xs)) → Wrote {E = F} (Ok y) tells faults faults_then mid new (line_written vars labels l) → Wrote {E = E} (Ok x) tells calm faults_then old new (lines_written vars 0 (take (i + 1) xs))
line_more {old = old} vars xs i labels l d counted within is w v = record {
  counted = v.counted ∙ w.counted;
  taken = λ tells. line_taken old vars xs i labels l d counted within is (w.taken tells) (v.taken tells);
  front = tt;
}

pub line_broken : {T U V E F G : Type 0} {x : T} {e : F} {tells : Bool} {calm faults faults_then : ℕ} {old mid new : List ℕ} (vars : List Declared) (xs ys : List Line) (i labels : ℕ) (l d : Line) (r : Result V G) → xs ≡ ys → labels ≡ labels_behind 0 (take i xs) → i < length xs → l ≡ get_or xs i d → IsErr r → Wrote {E = E} (Ok x) tells calm faults old mid (lines_written vars 0 (take i xs)) → Wrote {T = U} (Err e) tells faults faults_then mid new (line_written vars labels l) → Wrote r tells calm faults_then old new (lines_written vars 0 ys)
line_broken {U = U} {F = F} {e = e} {old = old} vars xs ys i labels l d r same counted within is failed w v = erred {T = U} {E = F} {e = e} r failed (record {
  counted = v.counted ∙ ap (count_after {T = U} (Err e)) w.counted;
  taken = tt;
  front = λ tells. line_front old vars xs ys i labels l d same counted within is (w.taken tells) (v.front tells);
})

-- what follows the head of a function
body : (vars own : List Declared) (lines : List Line) (more : List (List ℕ)) → text_of (declaration_lines own ++ (lines_from vars 0 lines ++ (function_end ∷ more))) ≡ (flat_map declaration_written own ++ (lines_written vars 0 lines ++ (function_end ++ 10 ∷ []))) ++ text_of more
body vars own lines more =
    let ds = flat_map declaration_written own in
    let ls = lines_written vars 0 lines in
    declarations own (lines_from vars 0 lines ++ (function_end ∷ more))
    ∙ ap (λ t. ds ++ t) (statements vars 0 lines (function_end ∷ more) ∙ sym (append_assoc ls (function_end ++ 10 ∷ []) (text_of more)))
    ∙ sym (append_assoc ds (ls ++ (function_end ++ 10 ∷ [])) (text_of more))

head : (g : CFunc) (rest : List ℕ) → function_head g ++ 10 ∷ rest ≡ head_written g ++ rest
head g rest =
    let ps = parameters_text (take g.params g.vars) in
    append_assoc (kind_text g.ret) (codes "CPyDef_" ++ (g.name ++ (codes "(" ++ (ps ++ codes ") {")))) (10 ∷ rest)
    ∙ ap (λ t. kind_text g.ret ++ (codes "CPyDef_" ++ t)) (append_assoc g.name (codes "(" ++ (ps ++ codes ") {")) (10 ∷ rest)
    ∙ ap (λ t. g.name ++ (codes "(" ++ t)) (append_assoc ps (codes ") {") (10 ∷ rest) ∙ sym (append_assoc ps (codes ") {\n") rest))
    ∙ sym (append_assoc g.name (codes "(" ++ (ps ++ codes ") {\n")) rest))
    ∙ sym (append_assoc (kind_text g.ret) (codes "CPyDef_" ++ (g.name ++ (codes "(" ++ (ps ++ codes ") {\n")))) rest)

functions : (gs : List CFunc) → text_of (function_lines gs) ≡ functions_written gs
functions [] = refl
functions (g ∷ []) = ap (λ t. module_head ++ 10 ∷ t) (body g.vars g.vars g.lines [] ∙ append-nil _)
functions (g ∷ h ∷ gs) =
    let own = drop g.params g.vars in
    let rest = function_lines (h ∷ gs) in
    let written = flat_map declaration_written own ++ (lines_written g.vars 0 g.lines ++ (function_end ++ 10 ∷ [])) in
    head g (text_of (declaration_lines own ++ (lines_from g.vars 0 g.lines ++ (function_end ∷ rest))))
    ∙ ap (λ t. head_written g ++ t) (body g.vars own g.lines rest ∙ ap (λ t. written ++ t) (functions (h ∷ gs)))
    ∙ sym (append_assoc (head_written g) written (functions_written (h ∷ gs)))

global : (v : Declared) (rest : List ℕ) → global_line v ++ 10 ∷ rest ≡ global_written v ++ rest
global v rest =
    append_assoc (kind_text v.1) (codes "CPyStatic_" ++ (v.0 ++ codes ";")) (10 ∷ rest)
    ∙ ap (λ t. kind_text v.1 ++ (codes "CPyStatic_" ++ t)) (append_assoc v.0 (codes ";") (10 ∷ rest) ∙ sym (append_assoc v.0 (codes ";\n") rest))
    ∙ sym (append_assoc (kind_text v.1) (codes "CPyStatic_" ++ (v.0 ++ codes ";\n")) rest)

globals : (vs : List Declared) (more : List (List ℕ)) → text_of (global_lines vs ++ more) ≡ flat_map global_written vs ++ text_of more
globals [] more = refl
globals (v ∷ vs) more =
    global v (text_of (global_lines vs ++ more)) ∙ ap (λ t. global_written v ++ t) (globals vs more) ∙ sym (append_assoc (global_written v) (flat_map global_written vs) (text_of more))

classes : (ks : List CClass) (more : List (List ℕ)) → text_of (class_lines ks ++ more) ≡ flat_map class_written ks ++ text_of more
classes [] more = refl
classes (k ∷ ks) more =
    sym (append_assoc (class_line k) (10 ∷ []) (text_of (class_lines ks ++ more))) ∙ ap (λ t. class_written k ++ t) (classes ks more)
    ∙ sym (append_assoc (class_written k) (flat_map class_written ks) (text_of more))

pub written_code : (code : Code) → (first_line ++ 10 ∷ []) ++ (flat_map global_written code.globals ++ (flat_map class_written code.classes ++ functions_written code.funcs)) ≡ code_text code
written_code code =
    ap (λ t. first_line ++ 10 ∷ t) (ap (λ t. flat_map global_written code.globals ++ t) (ap (λ t. flat_map class_written code.classes ++ t) (sym (functions code.funcs)) ∙ sym (classes code.classes (function_lines code.funcs)))
    ∙ sym (globals code.globals (class_lines code.classes ++ function_lines code.funcs)))

-- the functions before the last one, and the last one
split_last : (gs : List CFunc) (g : CFunc) → functions_written (gs ++ g ∷ []) ≡ flat_map other_written gs ++ top_written g
split_last [] g = refl
split_last (f ∷ []) g = ap (λ t. t ++ top_written g) (sym (append-nil (other_written f)))
split_last (f ∷ h ∷ gs) g =
    ap (λ t. other_written f ++ t) (split_last (h ∷ gs) g) ∙ sym (append_assoc (other_written f) (flat_map other_written (h ∷ gs)) (top_written g))

pub functions_of : (xs ys : List CFunc) (top : CFunc) → xs ≡ ys → 1 ≤ length xs → top ≡ get_or xs (length xs - 1) top → flat_map other_written (take (length xs - 1) xs) ++ top_written top ≡ functions_written ys
functions_of xs ys top same h p =
    let place : length xs - 1 < length xs = omega arith in
    let whole : take (length xs - 1) xs ++ (top ∷ []) ≡ xs =
    ap (λ y. take (length xs - 1) xs ++ (y ∷ [])) p ∙ sym (take_more xs (length xs - 1) top place) ∙ take_all (length xs - 1 + 1) xs (omega arith) in
    sym (split_last (take (length xs - 1) xs) top) ∙ ap functions_written (whole ∙ same)

-- parameters behind one another
parameters_written : (v : Declared) (vs : List Declared) → declaration_text v ++ flat_map next_parameter vs ≡ joined comma (map declaration_text (v ∷ vs))
parameters_written v [] = append-nil (declaration_text v)
parameters_written v (w ∷ vs) = ap (λ t. declaration_text v ++ (comma ++ t)) (parameters_written w vs)

others_of : (v : Declared) (vs : List Declared) → take (length (v ∷ vs) - 1) (drop 1 (v ∷ vs)) ≡ vs
others_of v vs = grind (arith, common_steps)

pub parameters_of : (xs : List Declared) (x : Declared) → 1 ≤ length xs → x ≡ get_or xs 0 x → declaration_text x ++ flat_map next_parameter (take (length xs - 1) (drop 1 xs)) ≡ parameters_text xs
parameters_of [] x h p = absurd (omega arith)
parameters_of (v ∷ vs) x h p =
    ap (λ y. declaration_text y ++ flat_map next_parameter (take (length (v ∷ vs) - 1) (drop 1 (v ∷ vs)))) p
    ∙ ap (λ ys. declaration_text v ++ flat_map next_parameter ys) (others_of v vs) ∙ parameters_written v vs
