-- The table of what lines name.
use Rattle.std.proofs.Common.{◌≡◌, refl, sym, ap, ◌∙◌, ℕ, suc, ◌+◌, ◌<◌, arith, Bool, true, false, cond, List, [], ◌∷◌, ◌++◌, append-nil, length, get_or, take, drop, drop-cons, Option, Some, None}
use Rattle.std.specs.Prelude.{map}
use Rattle.std.specs.List.{position_from}
use Rattle.std.specs.Option.{option_map}
use Rattle.std.specs.Str.{bytes_eq}
use Rattle.std.proofs.lemmas.Bool.Decides.{same_from_decides}
use Rattle.std.proofs.lemmas.Slice.Eq.{bytes_eq-Decides}
use Rattle.std.proofs.lemmas.List.{take_more, length-take-le, map-append}
use Rattle.c_core.specs.declared.code.CArg.{CArg}
use Rattle.c_core.specs.declared.code.CClass.{CClass}
use Rattle.c_core.specs.declared.code.CFunc.{CFunc}
use Rattle.c_core.specs.declared.code.Code.{Code}
use Rattle.c_core.specs.declared.code.Line.{Line}
use Rattle.c_core.specs.declared.code.Line.TheVariants.{Label, Call}
use Rattle.c_core.specs.Functions.{is_label, labels_from, label_places, function_named, number_of}
use Rattle.c_core.specs.Primitives.{primitive_named}
use Rattle.c_runner_table.specs.declared.naming.Callee.{Callee}
use Rattle.c_runner_table.specs.declared.naming.Callee.TheVariants as callee
use Rattle.c_runner_table.specs.declared.naming.Methods.{Methods}
use Rattle.c_runner_table.specs.declared.naming.Named.{Named}
use Rattle.c_runner_table.specs.declared.naming.Tables.{Tables}
use Rattle.c_runner_table.specs.declared.naming.Target.{Target}
use Rattle.c_runner_table.specs.Targets.{callee_among, callee_of, named_of, target_of, lines_of, functions_of, methods_of, table_of}

-- ---- one element more
next_take : {X : Type 0} (xs : List X) (i : ℕ) (x : X) → i < length xs → x ≡ get_or xs i x → take (i + 1) xs ≡ take i xs ++ x ∷ []
next_take xs i x lt is = take_more xs i x lt ∙ ap (λ q. take i xs ++ q ∷ []) (sym is)

pub map_more : {X Y : Type 0} (f : X → Y) (xs : List X) (i : ℕ) (x : X) (ys : List Y) (y : Y) → i < length xs → x ≡ get_or xs i x → y ≡ f x → ys ≡ map f (take i xs) → ys ++ y ∷ [] ≡ map f (take (i + 1) xs)
map_more f xs i x ys y lt is e so_far =
    ap (λ zs. zs ++ y ∷ []) so_far ∙ ap (λ z. map f (take i xs) ++ z ∷ []) e
    ∙ sym (map-append f (take i xs) (x ∷ [])) ∙ ap (map f) (sym (next_take xs i x lt is))

-- ---- the places of labels
either : (b : Bool) (p : ℕ) (t u v : List ℕ) → t ≡ u ++ v → cond b (p ∷ t) t ≡ cond b (p ∷ u) u ++ v
either true p t u v e = ap (λ z. p ∷ z) e
either false p t u v e = e

labels_from-append : (p : ℕ) (xs ys : List Line) → labels_from p (xs ++ ys) ≡ labels_from p xs ++ labels_from (p + length xs) ys
labels_from-append p [] ys = let e : p ≡ p + 0 = omega arith in ap (λ q. labels_from q ys) e
labels_from-append p (l ∷ xs) ys =
    let e : (p + 1) + length xs ≡ p + length (l ∷ xs) = omega arith in
    either (is_label l) p (labels_from (p + 1) (xs ++ ys)) (labels_from (p + 1) xs) (labels_from (p + length (l ∷ xs)) ys)
    (labels_from-append (p + 1) xs ys ∙ ap (λ q. labels_from (p + 1) xs ++ labels_from q ys) e)

labels_more : (lines : List Line) (i : ℕ) (l : Line) (places : List ℕ) → i < length lines → l ≡ get_or lines i l → places ≡ label_places (take i lines) → places ++ labels_from i (l ∷ []) ≡ label_places (take (i + 1) lines)
labels_more lines i l places lt is so_far =
    let here : i ≡ 0 + length (take i lines) = omega (arith, length-take-le i lines (omega arith)) in
    ap (λ p. p ++ labels_from i (l ∷ [])) so_far
    ∙ ap (λ q. label_places (take i lines) ++ labels_from q (l ∷ [])) here
    ∙ sym (labels_from-append 0 (take i lines) (l ∷ []))
    ∙ ap label_places (sym (next_take lines i l lt is))

pub label_more : (lines : List Line) (i : ℕ) (l : Line) (places : List ℕ) → i < length lines → l ≡ get_or lines i l → l ≡ Label → places ≡ label_places (take i lines) → places ++ i ∷ [] ≡ label_places (take (i + 1) lines)
label_more lines i l places lt is e so_far =
    ap (λ k. places ++ labels_from i (k ∷ [])) (sym e) ∙ labels_more lines i l places lt is so_far

pub other_more : (lines : List Line) (i : ℕ) (l : Line) (places : List ℕ) → i < length lines → l ≡ get_or lines i l → is_label l ≡ false → places ≡ label_places (take i lines) → places ≡ label_places (take (i + 1) lines)
other_more lines i l places lt is e so_far =
    sym (append-nil places) ∙ ap (λ b. places ++ cond b (i ∷ []) []) (sym e) ∙ labels_more lines i l places lt is so_far

-- a line that is no label
pub other_line : (l : Line) → (l ≡ Label → ⊥) → is_label l ≡ false
other_line Label not = absurd (not refl)
other_line _ not = refl

-- ---- names
pub no_primitive : (functions : List CFunc) (name : List ℕ) → None ≡ primitive_named name → callee_of functions name ≡ option_map callee.Function (function_named functions name)
no_primitive functions name e = ap (λ o. callee_among o (function_named functions name)) (sym e)

bytes_eq-sym : (xs ys : List ℕ) → bytes_eq xs ys ≡ bytes_eq ys xs
bytes_eq-sym xs ys =
    let other = bytes_eq-Decides ys xs in
    same_from_decides (bytes_eq xs ys) (bytes_eq ys xs) (bytes_eq-Decides xs ys) (λ e. sym (other.0 e), λ e. other.1 (sym e))

-- something more that has a name, before those from the number n on
pub first_back : {X : Type 0} (name_of : X → List ℕ) (xs : List X) (m n : ℕ) (g : X) (name text : List ℕ) (o : Option ℕ) → m < length xs → g ≡ get_or xs m g → n ≡ m + 1 → text ≡ name_of g → o ≡ position_from (λ h. bytes_eq name (name_of h)) n (drop n xs) → cond (bytes_eq text name) (Some m) o ≡ position_from (λ h. bytes_eq name (name_of h)) m (drop m xs)
first_back name_of xs m n g name text o lt is next same later =
    let here : drop m xs ≡ g ∷ drop (suc m) xs = drop-cons xs m g lt ∙ ap (λ h. h ∷ drop (suc m) xs) (sym is) in
    let after : n ≡ suc m = omega (arith, next) in
    ap (λ t. cond (bytes_eq t name) (Some m) o) same
    ∙ ap (λ b. cond b (Some m) o) (bytes_eq-sym (name_of g) name)
    ∙ ap (cond (bytes_eq name (name_of g)) (Some m)) (later ∙ ap (λ k. position_from (λ h. bytes_eq name (name_of h)) k (drop n xs)) next ∙ ap (λ k. position_from (λ h. bytes_eq name (name_of h)) (m + 1) (drop k xs)) after)
    ∙ sym (ap (position_from (λ h. bytes_eq name (name_of h)) m) here)

-- ---- a line's entry
abbrev call_target : Option Callee → Named → Target
call_target callee named = record { first = None; second = None; callee = callee; named = named }

pub call_line : (code : Code) (labels : List ℕ) (l : Line) (x : Option ℕ) (name : List ℕ) (args : List CArg) (callee : Option Callee) (named : Named) → l ≡ Call x name args → callee ≡ callee_of code.funcs name → named ≡ named_of code args → record { first = None; second = None; callee = callee; named = named } ≡ target_of code labels l
call_line code labels l x name args callee named is e f =
    ap (λ k. call_target k named) e ∙ ap (call_target (callee_of code.funcs name)) f ∙ sym (ap (target_of code labels) is)

-- ---- both
pub tables : (code : Code) (lines : List (List Target)) (classes : List Methods) → lines ≡ lines_of code → classes ≡ methods_of code → record { lines = lines; classes = classes } ≡ table_of code
tables code lines classes e is =
    let both : List (List Target) → List Methods → Tables = λ ls ms. record { lines = ls; classes = ms } in
    ap (λ ls. both ls classes) e ∙ ap (both (lines_of code)) is

pub class_functions : (functions : List CFunc) (k : CClass) (own : List (Option ℕ)) (traits : List (List (Option ℕ))) → own ≡ map (number_of functions) k.methods → traits ≡ map (λ t. map (number_of functions) t.1) k.traits → record { own = own; traits = traits } ≡ functions_of functions k
class_functions functions k own traits e is =
    let both : List (Option ℕ) → List (List (Option ℕ)) → Methods = λ o ts. record { own = o; traits = ts } in
    ap (λ o. both o traits) e ∙ ap (both (map (number_of functions) k.methods)) is
