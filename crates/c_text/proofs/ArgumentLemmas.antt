-- Arguments of a call: no text is of two, and one after another.
use Rattle.std.proofs.Common.{◌≡◌, ◌≢◌, ◌∙◌, ℕ, ℤ, ◌<◌, suc, zero, Bool, true, false, List, [], ◌∷◌, ◌++◌, length, Some, IsTrue, refl, sym, ap, arith, append_assoc, append-nil}
use Rattle.std.specs.Prelude.{◌&&◌, ◌==◌, slice_get, codes}
use Rattle.std.specs.List.{list_all, list_any, flat_map}
use Rattle.std.specs.Fmt.{signed_decimal}
use Rattle.std.proofs.lemmas.List.{append_cancel_left, nil_from_length}
use Rattle.std.proofs.lemmas.List.Folds.{list_all-append}
use Rattle.std.proofs.lemmas.Bool.{false≢true}
use Rattle.std.proofs.lemmas.Bool.Decides.{Decides-eqb}
use Rattle.unicode_ident.specs.Ident.{is_xid_continue}
use Rattle.c_core.specs.declared.code.CArg.{CArg}
use Rattle.c_core.specs.declared.code.CArg.TheVariants as arg
use Rattle.c_core.specs.Text.{arg_text, arg_texts, joined, comma, var_text, byte_text}
use Rattle.c_core.specs.WellFormed.{Declared, is_declared, is_identifier, spelled_arg}
use Rattle.c_text.specs.Words.{HasNo, EndsArgument}
use Rattle.c_text.specs.Statements.{AreNamed, IsWord, args_text, ArgsRemain}
use Rattle.c_text.proofs.Bytes.{differ, and_true, HasNo-append, HasNo-identifier, comma_stops}
use Rattle.c_text.proofs.Numbers.{not_number, not_number_front, number_is_some, HasNo-number}
use Rattle.c_text.proofs.VariableLemmas.{declared_at, text_at}

-- ---- one argument that is a word

pub is_global : (vars : List Declared) (a : CArg) (word name : List ℕ) → IsTrue (spelled_arg vars a) → IsWord a → arg_text vars a ≡ word → word ≡ codes "CPyStatic_" ++ name → a ≡ arg.Global name
is_global vars (arg.Var x) word name h w e f = let d = declared_at vars x h in absurd (differ (sym (text_at vars x d.var d.at) ∙ e ∙ f) refl)
is_global vars (arg.Number n) word name h w e f = absurd (not_number n _ _ h (omega arith) (e ∙ f))
is_global vars (arg.Text t) word name h w e f = absurd w
is_global vars (arg.Global m) word name h w e f = ap arg.Global (append_cancel_left (codes "CPyStatic_") m name (e ∙ f))
is_global vars (arg.Class m) word name h w e f = absurd (differ (e ∙ f) refl)

pub is_class : (vars : List Declared) (a : CArg) (word name : List ℕ) → IsTrue (spelled_arg vars a) → IsWord a → arg_text vars a ≡ word → word ≡ codes "CPyType_" ++ name → a ≡ arg.Class name
is_class vars (arg.Var x) word name h w e f = let d = declared_at vars x h in absurd (differ (sym (text_at vars x d.var d.at) ∙ e ∙ f) refl)
is_class vars (arg.Number n) word name h w e f = absurd (not_number n _ _ h (omega arith) (e ∙ f))
is_class vars (arg.Text t) word name h w e f = absurd w
is_class vars (arg.Global m) word name h w e f = absurd (differ (e ∙ f) refl)
is_class vars (arg.Class m) word name h w e f = ap arg.Class (append_cancel_left (codes "CPyType_") m name (e ∙ f))

pub is_variable : (vars : List Declared) (a : CArg) (word name : List ℕ) → IsTrue (spelled_arg vars a) → IsWord a → arg_text vars a ≡ word → word ≡ codes "cpy_" ++ name → (x : ℕ) × (a ≡ arg.Var x)
is_variable vars (arg.Var x) word name h w e f = (x, refl)
is_variable vars (arg.Number n) word name h w e f = absurd (not_number n _ _ h (omega arith) (e ∙ f))
is_variable vars (arg.Text t) word name h w e f = absurd w
is_variable vars (arg.Global m) word name h w e f = absurd (differ (e ∙ f) refl)
is_variable vars (arg.Class m) word name h w e f = absurd (differ (e ∙ f) refl)

pub is_number : (vars : List Declared) (a : CArg) (word : List ℕ) → IsTrue (spelled_arg vars a) → IsWord a → arg_text vars a ≡ word → ((r : List ℕ) → word ≢ codes "CPyStatic_" ++ r) → ((r : List ℕ) → word ≢ codes "CPyType_" ++ r) → ((r : List ℕ) → word ≢ codes "cpy_" ++ r) → (n : ℤ) × (a ≡ arg.Number n)
is_number vars (arg.Var x) word h w e g c v = let d = declared_at vars x h in absurd (v d.var.0 (sym e ∙ text_at vars x d.var d.at))
is_number vars (arg.Number n) word h w e g c v = (n, refl)
is_number vars (arg.Text t) word h w e g c v = absurd w
is_number vars (arg.Global m) word h w e g c v = absurd (g m (sym e))
is_number vars (arg.Class m) word h w e g c v = absurd (c m (sym e))

pub spelled_name : (vars : List Declared) (a b : CArg) → a ≡ b → IsTrue (spelled_arg vars a) → IsTrue (spelled_arg vars b)
spelled_name vars a b e h = ap (spelled_arg vars) (sym e) ∙ h

-- ---- where an argument ends

all_at : (p : Declared → Bool) (vars : List Declared) (x : ℕ) (v : Declared) → list_all p vars ≡ true → slice_get vars x ≡ Some v → p v ≡ true
all_at p [] x v h g = absurd (cc)
all_at p (w ∷ vars) zero v h g = let same : w ≡ v = cc in ap p (sym same) ∙ (and_true (p w) _ h).0
all_at p (w ∷ vars) (suc x) v h g = all_at p vars x v (and_true (p w) _ h).1 g

pub HasNo-variable : (stop : ℕ) (vars : List Declared) (x : ℕ) → stop < 128 → is_xid_continue stop ≡ false → HasNo stop (codes "cpy_") → AreNamed vars → IsTrue (is_declared vars x) → HasNo stop (var_text vars x)
HasNo-variable stop vars x small stops start names h =
    let d = declared_at vars x h in
    ap (λ t. list_any (λ b. b == stop) t) (text_at vars x d.var d.at)
    ∙ HasNo-append stop (codes "cpy_") d.var.0 start (HasNo-identifier stop d.var.0 small stops (all_at (λ v. is_identifier v.0) vars x d.var names d.at))

pub HasNo-word : (vars : List Declared) (a : CArg) → AreNamed vars → IsTrue (spelled_arg vars a) → IsWord a → HasNo 44 (arg_text vars a)
HasNo-word vars (arg.Var x) names h w = HasNo-variable 44 vars x (omega arith) comma_stops refl names h
HasNo-word vars (arg.Number n) names h w = HasNo-number 44 n h (λ r. omega (arith, r.0)) (omega arith)
HasNo-word vars (arg.Text t) names h w = absurd w
HasNo-word vars (arg.Global m) names h w = HasNo-append 44 (codes "CPyStatic_") m refl (HasNo-identifier 44 m (omega arith) comma_stops h)
HasNo-word vars (arg.Class m) names h w = HasNo-append 44 (codes "CPyType_") m refl (HasNo-identifier 44 m (omega arith) comma_stops h)

-- only a text begins with a quote
pub is_quoted : (vars : List Declared) (a : CArg) (rest inside : List ℕ) → IsTrue (spelled_arg vars a) → arg_text vars a ++ rest ≡ 34 ∷ inside → (t : List ℕ) × (a ≡ arg.Text t) × (flat_map byte_text t ++ 34 ∷ rest ≡ inside)
is_quoted vars (arg.Var x) rest inside h e = let d = declared_at vars x h in absurd (differ (ap (λ t. t ++ rest) (sym (text_at vars x d.var d.at)) ∙ e) refl)
is_quoted vars (arg.Number n) rest inside h e = absurd (not_number_front n 34 rest inside h (λ r. omega (arith, r.0)) e)
is_quoted vars (arg.Text t) rest inside h e = (t, refl, sym (append_assoc (flat_map byte_text t) (codes "\"") rest) ∙ append_cancel_left (codes "\"") _ inside e)
is_quoted vars (arg.Global m) rest inside h e = absurd (differ e refl)
is_quoted vars (arg.Class m) rest inside h e = absurd (differ e refl)

pub is_word : (vars : List Declared) (a : CArg) (rest text : List ℕ) → arg_text vars a ++ rest ≡ text → ((r : List ℕ) → text ≢ codes "\"" ++ r) → IsWord a
is_word vars (arg.Var x) rest text e no_quote = tt
is_word vars (arg.Number n) rest text e no_quote = tt
is_word vars (arg.Text t) rest text e no_quote = no_quote _ (sym e)
is_word vars (arg.Global m) rest text e no_quote = tt
is_word vars (arg.Class m) rest text e no_quote = tt

front_is_none : (xs rest : List ℕ) → xs ++ rest ≡ [] → xs ≡ []
front_is_none [] rest e = refl
front_is_none (x ∷ xs) rest e = absurd (cc)

pub argument_is_some : (vars : List Declared) (a : CArg) (rest : List ℕ) → IsTrue (spelled_arg vars a) → arg_text vars a ++ rest ≢ []
argument_is_some vars (arg.Var x) rest h e = let d = declared_at vars x h in differ (ap (λ t. t ++ rest) (sym (text_at vars x d.var d.at)) ∙ e) refl
argument_is_some vars (arg.Number n) rest h e = number_is_some n h (front_is_none (signed_decimal n) rest e)
argument_is_some vars (arg.Text t) rest h e = differ e refl
argument_is_some vars (arg.Global m) rest h e = differ e refl
argument_is_some vars (arg.Class m) rest h e = differ e refl

-- ---- one argument after another

arg_texts-append : (vars : List Declared) (xs ys : List CArg) → arg_texts vars (xs ++ ys) ≡ arg_texts vars xs ++ arg_texts vars ys
arg_texts-append vars [] ys = refl
arg_texts-append vars (x ∷ xs) ys = ap (λ t. arg_text vars x ∷ t) (arg_texts-append vars xs ys)

spelled_next : (vars : List Declared) (front others all : List CArg) (next : CArg) → front ++ next ∷ others ≡ all → IsTrue (list_all (spelled_arg vars) all) → IsTrue (spelled_arg vars next)
spelled_next vars front others all next e h =
    let parts = and_true (list_all (spelled_arg vars) front) (list_all (spelled_arg vars) (next ∷ others)) (sym (list_all-append (spelled_arg vars) front (next ∷ others)) ∙ ap (list_all (spelled_arg vars)) e ∙ h) in
    (and_true (spelled_arg vars next) _ parts.1).0

-- what reading the next argument finds
abbrev pub FindsNext : List Declared → List ℕ → CArg → List ℕ → Type 0
FindsNext vars left argument after =
    (a : CArg) (rest : List ℕ) → IsTrue (spelled_arg vars a) → EndsArgument rest → arg_text vars a ++ rest ≡ left → (arg_text vars a ≡ arg_text vars argument) × (after ≡ rest)

pub grown : (vars : List Declared) (front read : List CArg) (a argument : CArg) → arg_texts vars front ≡ arg_texts vars read → arg_text vars a ≡ arg_text vars argument → arg_texts vars (front ++ a ∷ []) ≡ arg_texts vars (read ++ argument ∷ [])
grown vars front read a argument p q =
    arg_texts-append vars front (a ∷ []) ∙ ap (λ t. t ++ arg_text vars a ∷ []) p ∙ ap (λ t. arg_texts vars read ++ t ∷ []) q ∙ sym (arg_texts-append vars read (argument ∷ []))

pub args_turn : {vars : List Declared} {read all : List CArg} {left : List ℕ} (argument : CArg) (after next : List ℕ) (new : List CArg) → IsTrue (list_all (spelled_arg vars) all) → ArgsRemain vars read all left → FindsNext vars left argument after → after ≡ codes ", " ++ next → new ≡ read ++ argument ∷ [] → ArgsRemain vars new all next
args_turn {vars} {read} {all} {left} argument after next new h r finds behind pushed = turn r.others r.whole r.written
  where
    turn : (others : List CArg) → r.front ++ r.next ∷ others ≡ all → args_text vars (r.next ∷ others) ≡ left → ArgsRemain vars new all next
    turn [] whole written =
        let f = finds r.next [] (spelled_next vars r.front [] all r.next whole h) tt (append-nil (arg_text vars r.next) ∙ written) in
        absurd (differ (sym f.1 ∙ behind) refl)
    turn (b ∷ more) whole written =
        let f = finds r.next (comma ++ args_text vars (b ∷ more)) (spelled_next vars r.front (b ∷ more) all r.next whole h) refl written in
        record {
          front = r.front ++ r.next ∷ [];
          next = b;
          others = more;
          whole = append_assoc r.front (r.next ∷ []) (b ∷ more) ∙ whole;
          same = grown vars r.front read r.next argument r.same f.0 ∙ ap (arg_texts vars) (sym pushed);
          written = append_cancel_left comma (args_text vars (b ∷ more)) next (sym f.1 ∙ behind);
        }

pub args_end : {vars : List Declared} {read all : List CArg} {left : List ℕ} (argument : CArg) (after : List ℕ) (new : List CArg) → IsTrue (list_all (spelled_arg vars) all) → ArgsRemain vars read all left → FindsNext vars left argument after → after ≡ [] → new ≡ read ++ argument ∷ [] → args_text vars all ≡ args_text vars new
args_end {vars} {read} {all} {left} argument after new h r finds over pushed = end r.others r.whole r.written
  where
    end : (others : List CArg) → r.front ++ r.next ∷ others ≡ all → args_text vars (r.next ∷ others) ≡ left → args_text vars all ≡ args_text vars new
    end [] whole written =
        let f = finds r.next [] (spelled_next vars r.front [] all r.next whole h) tt (append-nil (arg_text vars r.next) ∙ written) in
        ap (joined comma) (ap (arg_texts vars) (sym whole) ∙ grown vars r.front read r.next argument r.same f.0 ∙ ap (arg_texts vars) (sym pushed))
    end (b ∷ more) whole written =
        let f = finds r.next (comma ++ args_text vars (b ∷ more)) (spelled_next vars r.front (b ∷ more) all r.next whole h) refl written in
        absurd (differ (sym over ∙ f.1) refl)

-- behind an argument stands nothing or a comma
pub args_stop : {vars : List Declared} {read all : List CArg} {left : List ℕ} (argument : CArg) (after : List ℕ) → IsTrue (list_all (spelled_arg vars) all) → ArgsRemain vars read all left → FindsNext vars left argument after → after ≢ [] → ((r : List ℕ) → after ≢ codes ", " ++ r) → ⊥
args_stop {vars} {read} {all} {left} argument after h r finds more no_comma = stop r.others r.whole r.written
  where
    stop : (others : List CArg) → r.front ++ r.next ∷ others ≡ all → args_text vars (r.next ∷ others) ≡ left → ⊥
    stop [] whole written =
        more (finds r.next [] (spelled_next vars r.front [] all r.next whole h) tt (append-nil (arg_text vars r.next) ∙ written)).1
    stop (b ∷ others) whole written =
        no_comma (args_text vars (b ∷ others)) (finds r.next (comma ++ args_text vars (b ∷ others)) (spelled_next vars r.front (b ∷ others) all r.next whole h) refl written).1

pub args_fail : {vars : List Declared} {read all : List CArg} {left : List ℕ} → IsTrue (list_all (spelled_arg vars) all) → ArgsRemain vars read all left → ((a : CArg) (rest : List ℕ) → IsTrue (spelled_arg vars a) → EndsArgument rest → arg_text vars a ++ rest ≡ left → ⊥) → ⊥
args_fail {vars} {read} {all} {left} h r fails = fail r.others r.whole r.written
  where
    fail : (others : List CArg) → r.front ++ r.next ∷ others ≡ all → args_text vars (r.next ∷ others) ≡ left → ⊥
    fail [] whole written = fails r.next [] (spelled_next vars r.front [] all r.next whole h) tt (append-nil (arg_text vars r.next) ∙ written)
    fail (b ∷ others) whole written = fails r.next (comma ++ args_text vars (b ∷ others)) (spelled_next vars r.front (b ∷ others) all r.next whole h) refl written

-- no arguments are written as nothing, and only they
pub args_of_none : (vars : List Declared) (args : List CArg) (text : List ℕ) → IsTrue (list_all (spelled_arg vars) args) → args_text vars args ≡ text → length text ≡ 0 → args_text vars args ≡ args_text vars []
args_of_none vars [] text h e none = refl
args_of_none vars (a ∷ []) text h e none =
    absurd (argument_is_some vars a [] (and_true (spelled_arg vars a) _ h).0 (append-nil (arg_text vars a) ∙ e ∙ nil_from_length text none))
args_of_none vars (a ∷ b ∷ more) text h e none =
    absurd (argument_is_some vars a (comma ++ args_text vars (b ∷ more)) (and_true (spelled_arg vars a) _ h).0 (e ∙ nil_from_length text none))

pub args_of_some : {P : Type 0} (vars : List Declared) (args : List CArg) (text : List ℕ) → args_text vars args ≡ text → length text ≢ 0 → ((a : CArg) (others : List CArg) → args ≡ a ∷ others → P) → P
args_of_some vars [] text e some next = absurd (some (ap length (sym e)))
args_of_some vars (a ∷ others) text e some next = next a others refl

pub empty_is : (xs : List ℕ) → true ≡ (length xs == 0) → xs ≡ []
empty_is xs e = nil_from_length xs ((Decides-eqb (length xs) 0).0 (sym e))

pub more_is : (xs : List ℕ) → false ≡ (length xs == 0) → xs ≢ []
more_is xs e none = false≢true (e ∙ (Decides-eqb (length xs) 0).1 (ap length none))

pub all_push : {A : Type 0} (p : A → Bool) (xs ys : List A) (x : A) → IsTrue (list_all p xs) → IsTrue (p x) → ys ≡ xs ++ x ∷ [] → IsTrue (list_all p ys)
all_push p xs ys x h k e =
    ap (list_all p) e ∙ list_all-append p xs (x ∷ []) ∙ ap (λ b. b && list_all p (x ∷ [])) h ∙ ap (λ b. b && true) k
