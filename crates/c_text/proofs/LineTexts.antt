-- The texts of lines: each has one line feed, at its end, and no line is one of another sort.
use Rattle.std.proofs.Common.{◌≡◌, ◌≢◌, ◌∙◌, ℕ, ◌+◌, ◌/◌, ◌%◌, Bool, true, false, cond, List, [], ◌∷◌, ◌++◌, get_or, drop, take, Option, Some, None, Result, Ok, Err, IfOk, IsTrue, refl, sym, ap, arith, append_assoc, ◌⊎◌, inl, inr}
use Rattle.std.specs.Prelude.{◌&&◌, ◌||◌, ◌==◌, nat_lt, slice_get, MatchOption, codes}
use Rattle.std.specs.Fmt.{decimal}
use Rattle.std.specs.List.{list_all, list_any, flat_map}
use Rattle.std.proofs.lemmas.List.{append_cancel_left, append_cancel_right}
use Rattle.std.proofs.lemmas.Bool.{false≢true}
use Rattle.std.proofs.lemmas.Bool.Decides.{Decides-eqb}
use Rattle.c_core.specs.declared.code.CArg.{CArg}
use Rattle.c_core.specs.declared.code.CArg.TheVariants as arg
use Rattle.c_core.specs.declared.code.CLit.{CLit}
use Rattle.c_core.specs.declared.code.CLit.TheVariants.{Number, Null, PyNone, PyTrue, PyFalse}
use Rattle.c_core.specs.declared.code.CFunc.{CFunc}
use Rattle.c_core.specs.declared.code.Kind.{Kind}
use Rattle.c_core.specs.declared.code.Kind.TheVariants.{Tagged, Int64, Char, Object}
use Rattle.c_core.specs.declared.code.Line.{Line}
use Rattle.c_core.specs.declared.code.Line.TheVariants.{Label, Move, Lit, Call, Virtual, TraitCall, Goto, If, IfError, Turn, Return, Inc, Dec, XDec}
use Rattle.c_core.specs.Functions.{is_label}
use Rattle.c_core.specs.Text.{arg_text, branches_text, byte_text, comma, count_text, counter_of, declaration_text, error_text, function_end, function_head, global_line, goto_text, indented, kind_text, label_line, lines_from, literal_text, module_head, octal, parameters_text, statement_text, var_text}
use Rattle.c_core.specs.WellFormed.{Declared, is_call_name, is_counted_kind, is_declared, kind_at, is_identifier, spelled_arg, spelled_label, spelled_line, spelled_literal}
use Rattle.c_text.specs.Methods.{for_trait_text, virtual_text}
use Rattle.c_text.specs.Words.{HasNo, bracketed}
use Rattle.c_text.specs.Counts.{counter_text}
use Rattle.c_text.specs.Labels.{labels_after, line_text}
use Rattle.c_text.specs.Statements.{AreNamed, IsIndented, args_text, assignment_text, call_text}
use Rattle.c_text.proofs.Bytes.{differ, and_true, inside_same, HasNo-append, HasNo-cons, HasNo-identifier, or_false, line_feed_stops, space_stops}
use Rattle.c_text.proofs.Forms.{opening, opens}
use Rattle.c_text.proofs.MethodTexts.{for_trait_is, for_trait_plain, virtual_is, virtual_plain}
use Rattle.c_text.proofs.Numbers.{HasNo-decimal, HasNo-number}
use Rattle.c_text.proofs.ArgumentLemmas.{HasNo-variable}
use Rattle.c_text.proofs.StatementLemmas.{HasNo-call_name, count_parts, call_name_parts}
use Rattle.c_text.proofs.VariableLemmas.{kind_declared}

-- ---- no line feed inside a line

byte_plain : (b : ℕ) → HasNo 10 (byte_text b)
byte_plain b = split (b == 34) (b == 92) (b == 10) (nat_lt b 32 || (b == 127)) refl
  where
    split : (q s n o : Bool) → (b == 10) ≡ n → HasNo 10 (cond q (codes "\\\"") (cond s (codes "\\\\") (cond n (codes "\\n") (cond o (octal b) (b ∷ [])))))
    split true s n o e = refl
    split false true n o e = refl
    split false false true o e = refl
    split false false false true e =
        let low = (48 + b % 8) ∷ [] in
        let middle = (48 + b / 8 % 8) ∷ low in
        let high = (48 + b / 64) ∷ middle in
        HasNo-cons 10 92 high (omega arith) (HasNo-cons 10 (48 + b / 64) middle (omega arith) (HasNo-cons 10 (48 + b / 8 % 8) low (omega arith) (HasNo-cons 10 (48 + b % 8) [] (omega arith) refl)))
    split false false false false e = ap (λ t. t || false) e

pub bytes_plain : (t : List ℕ) → HasNo 10 (flat_map byte_text t)
bytes_plain [] = refl
bytes_plain (b ∷ t) = HasNo-append 10 (byte_text b) (flat_map byte_text t) (byte_plain b) (bytes_plain t)

argument_plain : (vars : List Declared) (a : CArg) → AreNamed vars → IsTrue (spelled_arg vars a) → HasNo 10 (arg_text vars a)
argument_plain vars (arg.Var x) names h = HasNo-variable 10 vars x (omega arith) line_feed_stops refl names h
argument_plain vars (arg.Number n) names h = HasNo-number 10 n h (λ r. omega (arith, r.0)) (omega arith)
argument_plain vars (arg.Text t) names h = HasNo-append 10 (codes "\"") (flat_map byte_text t ++ codes "\"") refl (HasNo-append 10 (flat_map byte_text t) (codes "\"") (bytes_plain t) refl)
argument_plain vars (arg.Global m) names h = HasNo-append 10 (codes "CPyStatic_") m refl (HasNo-identifier 10 m (omega arith) line_feed_stops h)
argument_plain vars (arg.Class m) names h = HasNo-append 10 (codes "CPyType_") m refl (HasNo-identifier 10 m (omega arith) line_feed_stops h)

arguments_plain : (vars : List Declared) (args : List CArg) → AreNamed vars → IsTrue (list_all (spelled_arg vars) args) → HasNo 10 (args_text vars args)
arguments_plain vars [] names h = refl
arguments_plain vars (a ∷ []) names h = argument_plain vars a names (and_true (spelled_arg vars a) _ h).0
arguments_plain vars (a ∷ b ∷ more) names h =
    let parts = and_true (spelled_arg vars a) _ h in
    HasNo-append 10 (arg_text vars a) (comma ++ args_text vars (b ∷ more)) (argument_plain vars a names parts.0) (HasNo-append 10 comma (args_text vars (b ∷ more)) refl (arguments_plain vars (b ∷ more) names parts.1))

literal_plain : (l : CLit) → IsTrue (spelled_literal l) → HasNo 10 (literal_text l)
literal_plain (Number n) h = HasNo-number 10 n h (λ r. omega (arith, r.0)) (omega arith)
literal_plain Null h = refl
literal_plain PyNone h = refl
literal_plain PyTrue h = refl
literal_plain PyFalse h = refl

variable_plain : (vars : List Declared) (x : ℕ) → AreNamed vars → IsTrue (is_declared vars x) → HasNo 10 (var_text vars x)
variable_plain vars x names h = HasNo-variable 10 vars x (omega arith) line_feed_stops refl names h

bracketed_plain : (word inside : List ℕ) → HasNo 10 word → HasNo 10 inside → HasNo 10 (bracketed word inside)
bracketed_plain word inside p q =
    HasNo-append 10 word (codes "(" ++ (inside ++ codes ")")) p (HasNo-append 10 (codes "(") (inside ++ codes ")") refl (HasNo-append 10 inside (codes ")") q refl))

call_plain : (vars : List Declared) (name : List ℕ) (args : List CArg) → AreNamed vars → IsTrue (is_call_name name && list_all (spelled_arg vars) args) → HasNo 10 (name ++ (codes "(" ++ (args_text vars args ++ codes ")")))
call_plain vars name args names h =
    let parts = and_true (is_call_name name) _ h in
    bracketed_plain name (args_text vars args) (HasNo-call_name 10 name (omega arith) line_feed_stops refl parts.0) (arguments_plain vars args names parts.1)

jump_plain : (n : ℕ) → HasNo 10 (goto_text n)
jump_plain n = HasNo-append 10 (codes "goto CPyL") (decimal n) refl (HasNo-decimal 10 n (λ r. omega (arith, r.0)))

branches_plain : (a b : ℕ) → HasNo 10 (branches_text a b)
branches_plain a b = HasNo-append 10 (codes ") ") (goto_text a ++ (codes "; else " ++ goto_text b)) refl (HasNo-append 10 (goto_text a) (codes "; else " ++ goto_text b) (jump_plain a) (HasNo-append 10 (codes "; else ") (goto_text b) refl (jump_plain b)))

error_text_plain : (o : Option Declared) → HasNo 10 (error_text o)
error_text_plain None = refl
error_text_plain (Some (n, Tagged)) = refl
error_text_plain (Some (n, Int64)) = refl
error_text_plain (Some (n, Char)) = refl
error_text_plain (Some (n, Object)) = refl

counter_plain : (o : Option Declared) → HasNo 10 (counter_of o)
counter_plain None = refl
counter_plain (Some (n, Tagged)) = refl
counter_plain (Some (n, Int64)) = refl
counter_plain (Some (n, Char)) = refl
counter_plain (Some (n, Object)) = refl

count_text_plain : (vars : List Declared) (verb : List ℕ) (x : ℕ) → AreNamed vars → HasNo 10 verb → IsTrue (is_counted_kind vars (kind_at vars x)) → HasNo 10 (count_text vars verb x)
count_text_plain vars verb x names plain h =
    let c = count_parts vars verb x h in
    HasNo-append 10 (counter_of (slice_get vars x)) (verb ++ (codes "(" ++ (var_text vars x ++ codes ")"))) (counter_plain (slice_get vars x))
    (HasNo-append 10 verb (codes "(" ++ (var_text vars x ++ codes ")")) plain (HasNo-append 10 (codes "(") (var_text vars x ++ codes ")") refl (HasNo-append 10 (var_text vars x) (codes ")") (variable_plain vars x names (kind_declared vars x c.kind c.at)) refl)))

target_plain : (vars : List Declared) (x : ℕ) (value : List ℕ) → AreNamed vars → IsTrue (is_declared vars x) → HasNo 10 value → HasNo 10 (assignment_text vars x value)
target_plain vars x value names h plain = HasNo-append 10 (var_text vars x) (codes " = " ++ value) (variable_plain vars x names h) (HasNo-append 10 (codes " = ") value refl plain)

statement_plain : (vars : List Declared) (l : Line) → AreNamed vars → IsTrue (spelled_line vars l) → HasNo 10 (statement_text vars l)
statement_plain vars Label names h = refl
statement_plain vars (Move x y) names h =
    let parts = and_true (is_declared vars x) _ h in target_plain vars x (var_text vars y) names parts.0 (variable_plain vars y names parts.1)
statement_plain vars (Lit x l) names h =
    let parts = and_true (is_declared vars x) (spelled_literal l) h in target_plain vars x (literal_text l) names parts.0 (literal_plain l parts.1)
statement_plain vars (Call None name args) names h = call_plain vars name args names h
statement_plain vars (Call (Some x) name args) names h =
    let parts = and_true (is_declared vars x) _ h in
    ap (list_any (λ b. b == 10)) (append_assoc (var_text vars x) (codes " = ") (call_text vars name args)) ∙ target_plain vars x (call_text vars name args) names parts.0 (call_plain vars name args names parts.1)
statement_plain vars (Virtual x o n args) names h =
    let p = and_true (is_declared vars x) _ h in
    let q = and_true (is_declared vars o) _ p.1 in
    let r = and_true (spelled_label n) _ q.1 in
    ap (list_any (λ b. b == 10)) (virtual_is vars x o n args) ∙ target_plain vars x (bracketed (codes "CPyVirtual") (virtual_text vars o n args)) names p.0 (bracketed_plain (codes "CPyVirtual") (virtual_text vars o n args) refl (virtual_plain vars o n args names q.0 r.1))
statement_plain vars (TraitCall x o t n args) names h =
    let p = and_true (is_declared vars x) _ h in
    let q = and_true (is_declared vars o) _ p.1 in
    let r = and_true (is_identifier t) _ q.1 in
    let s = and_true (spelled_label n) _ r.1 in
    ap (list_any (λ b. b == 10)) (for_trait_is vars x o t n args) ∙ target_plain vars x (bracketed (codes "CPyTrait") (for_trait_text vars o t n args)) names p.0 (bracketed_plain (codes "CPyTrait") (for_trait_text vars o t n args) refl (for_trait_plain vars o t n args names q.0 r.0 s.1))
statement_plain vars (Goto n) names h = jump_plain n
statement_plain vars (If x a b) names h =
    HasNo-append 10 (codes "if (") (var_text vars x ++ branches_text a b) refl (HasNo-append 10 (var_text vars x) (branches_text a b) (variable_plain vars x names (and_true (is_declared vars x) _ h).0) (branches_plain a b))
statement_plain vars (IfError x a b) names h =
    HasNo-append 10 (codes "if (") (var_text vars x ++ (codes " == " ++ (error_text (slice_get vars x) ++ branches_text a b))) refl (HasNo-append 10 (var_text vars x) (codes " == " ++ (error_text (slice_get vars x) ++ branches_text a b)) (variable_plain vars x names (and_true (is_declared vars x) _ h).0)
    (HasNo-append 10 (codes " == ") (error_text (slice_get vars x) ++ branches_text a b) refl (HasNo-append 10 (error_text (slice_get vars x)) (branches_text a b) (error_text_plain (slice_get vars x)) (branches_plain a b))))
statement_plain vars Turn names h = refl
statement_plain vars (Return x) names h = HasNo-append 10 (codes "return ") (var_text vars x) refl (variable_plain vars x names h)
statement_plain vars (Inc x) names h = count_text_plain vars (codes "INCREF") x names refl h
statement_plain vars (Dec x) names h = count_text_plain vars (codes "DECREF") x names refl h
statement_plain vars (XDec x) names h = count_text_plain vars (codes "XDECREF") x names refl h

-- ---- labels, and lines behind four spaces

pub indented_text : (vars : List Declared) (n : ℕ) (l : Line) → IsIndented l → line_text vars n l ≡ indented (statement_text vars l)
indented_text vars n Label i = absurd i
indented_text vars n l i = refl

pub label_or_statement : (l : Line) → (l ≡ Label) ⊎ IsIndented l
label_or_statement Label = inl refl
label_or_statement l = inr tt

-- the first of some lines, and those behind it
pub lines_step : (vars : List Declared) (n : ℕ) (l : Line) (lines : List Line) → lines_from vars n (l ∷ lines) ≡ line_text vars n l ∷ lines_from vars (labels_after n l) lines
lines_step vars n l lines = split (is_label l)
  where
    split : (b : Bool) → cond b (label_line n ∷ lines_from vars (n + 1) lines) (indented (statement_text vars l) ∷ lines_from vars n lines) ≡ cond b (label_line n) (indented (statement_text vars l)) ∷ lines_from vars (cond b (n + 1) n) lines
    split true = refl
    split false = refl

pub line_plain : (vars : List Declared) (n : ℕ) (l : Line) → AreNamed vars → IsTrue (spelled_line vars l) → HasNo 10 (line_text vars n l)
line_plain vars n l names h =
    elim (label_or_statement l) [
      | inl e ↦ ap (λ m. list_any (λ b. b == 10) (line_text vars n m)) e ∙ HasNo-append 10 (codes "CPyL" ++ decimal n) (codes ": ;") (HasNo-append 10 (codes "CPyL") (decimal n) refl (HasNo-decimal 10 n (λ r. omega (arith, r.0)))) refl
      | inr i ↦ ap (list_any (λ b. b == 10)) (indented_text vars n l i)
          ∙ HasNo-append 10 (codes "    ") (statement_text vars l ++ codes ";") refl (HasNo-append 10 (statement_text vars l) (codes ";") (statement_plain vars l names h) refl)
    ]

kind_plain : (k : Kind) → HasNo 10 (kind_text k)
kind_plain Tagged = refl
kind_plain Int64 = refl
kind_plain Char = refl
kind_plain Object = refl

pub declaration_plain : (v : Declared) → IsTrue (is_identifier v.0) → HasNo 10 (indented (declaration_text v))
declaration_plain v h =
    HasNo-append 10 (codes "    ") (declaration_text v ++ codes ";") refl (HasNo-append 10 (declaration_text v) (codes ";") (HasNo-append 10 (kind_text v.1) (codes "cpy_" ++ v.0) (kind_plain v.1) (HasNo-append 10 (codes "cpy_") v.0 refl (HasNo-identifier 10 v.0 (omega arith) line_feed_stops h))) refl)

-- ---- no declaration has the text of another one

-- a kind before a name tells where the name begins
pub same_kind_front : (k l : Kind) (r s : List ℕ) → kind_text k ++ r ≡ kind_text l ++ s → (k ≡ l) × (r ≡ s)
same_kind_front Tagged Tagged r s e = (refl, append_cancel_left (codes "CPyTagged ") r s e)
same_kind_front Int64 Int64 r s e = (refl, append_cancel_left (codes "int64_t ") r s e)
same_kind_front Char Char r s e = (refl, append_cancel_left (codes "char ") r s e)
same_kind_front Object Object r s e = (refl, append_cancel_left (codes "PyObject *") r s e)
same_kind_front Tagged Int64 r s e = absurd (differ e refl)
same_kind_front Tagged Char r s e = absurd (differ e refl)
same_kind_front Tagged Object r s e = absurd (differ e refl)
same_kind_front Int64 Tagged r s e = absurd (differ e refl)
same_kind_front Int64 Char r s e = absurd (differ e refl)
same_kind_front Int64 Object r s e = absurd (differ e refl)
same_kind_front Char Tagged r s e = absurd (differ e refl)
same_kind_front Char Int64 r s e = absurd (differ e refl)
same_kind_front Char Object r s e = absurd (differ e refl)
same_kind_front Object Tagged r s e = absurd (differ e refl)
same_kind_front Object Int64 r s e = absurd (differ e refl)
same_kind_front Object Char r s e = absurd (differ e refl)

pub no_front_kind : (text : List ℕ) → ((r : List ℕ) → text ≢ codes "CPyTagged " ++ r) → ((r : List ℕ) → text ≢ codes "int64_t " ++ r) → ((r : List ℕ) → text ≢ codes "char " ++ r) → ((r : List ℕ) → text ≢ codes "PyObject *" ++ r) → (k : Kind) (rest : List ℕ) → kind_text k ++ rest ≢ text
no_front_kind text t i c o Tagged rest e = t rest (sym e)
no_front_kind text t i c o Int64 rest e = i rest (sym e)
no_front_kind text t i c o Char rest e = c rest (sym e)
no_front_kind text t i c o Object rest e = o rest (sym e)

-- what stands behind a kind has another beginning, or is no identifier
pub other_prefix : (prefix text rest : List ℕ) (k : Kind) → kind_text k ++ rest ≡ text → ((r : List ℕ) → rest ≢ prefix ++ r) → (v : Declared) → kind_text v.1 ++ (prefix ++ v.0) ≢ text
other_prefix prefix text rest k t none v e = none v.0 (sym (same_kind_front v.1 k (prefix ++ v.0) rest (e ∙ sym t)).1)

pub no_name : (prefix text rest name : List ℕ) (k : Kind) → kind_text k ++ rest ≡ text → rest ≡ prefix ++ name → is_identifier name ≡ false → (v : Declared) → IsTrue (is_identifier v.0) → kind_text v.1 ++ (prefix ++ v.0) ≢ text
no_name prefix text rest name k t r n v h e =
    let s = (same_kind_front v.1 k (prefix ++ v.0) rest (e ∙ sym t)).1 in
    let same : v.0 ≡ name = append_cancel_left prefix v.0 name (s ∙ r) in
    false≢true (sym n ∙ ap is_identifier (sym same) ∙ h)

pub same_declaration : (v w : Declared) → indented (declaration_text v) ≡ indented (declaration_text w) → v ≡ w
same_declaration v w e =
    let p = same_kind_front v.1 w.1 (codes "cpy_" ++ v.0) (codes "cpy_" ++ w.0) (inside_same (declaration_text v) (declaration_text w) e) in
    pair (append_cancel_left (codes "cpy_") v.0 w.0 p.1) p.0
  where
    pair : v.0 ≡ w.0 → v.1 ≡ w.1 → v ≡ w
    pair p q = ap (λ n. (n, v.1)) p ∙ ap (λ k. (w.0, k)) q

-- ---- no statement has the text of a declaration

kind_not_variable : (k : Kind) (rest r : List ℕ) → kind_text k ++ rest ≢ codes "cpy_" ++ r
kind_not_variable Tagged rest r e = differ e refl
kind_not_variable Int64 rest r e = differ e refl
kind_not_variable Char rest r e = differ e refl
kind_not_variable Object rest r e = differ e refl

kind_not_return : (k : Kind) (rest r : List ℕ) → kind_text k ++ rest ≢ codes "return " ++ r
kind_not_return Tagged rest r e = differ e refl
kind_not_return Int64 rest r e = differ e refl
kind_not_return Char rest r e = differ e refl
kind_not_return Object rest r e = differ e refl

kind_not_jump : (k : Kind) (rest r : List ℕ) → kind_text k ++ rest ≢ codes "goto CPyL" ++ r
kind_not_jump Tagged rest r e = differ e refl
kind_not_jump Int64 rest r e = differ e refl
kind_not_jump Char rest r e = differ e refl
kind_not_jump Object rest r e = differ e refl

kind_not_test : (k : Kind) (rest r : List ℕ) → kind_text k ++ rest ≢ codes "if (" ++ r
kind_not_test Tagged rest r e = differ e refl
kind_not_test Int64 rest r e = differ e refl
kind_not_test Char rest r e = differ e refl
kind_not_test Object rest r e = differ e refl

kind_not_turn : (k : Kind) (rest r : List ℕ) → kind_text k ++ rest ≢ codes "CPyTurn" ++ r
kind_not_turn Tagged rest r e = differ e refl
kind_not_turn Int64 rest r e = differ e refl
kind_not_turn Char rest r e = differ e refl
kind_not_turn Object rest r e = differ e refl

kind_not_count : (k l : Kind) (rest r : List ℕ) → kind_text k ++ rest ≢ counter_text l ++ r
kind_not_count Tagged Tagged rest r e = differ e refl
kind_not_count Tagged Int64 rest r e = differ e refl
kind_not_count Tagged Char rest r e = differ e refl
kind_not_count Tagged Object rest r e = differ e refl
kind_not_count Int64 Tagged rest r e = differ e refl
kind_not_count Int64 Int64 rest r e = differ e refl
kind_not_count Int64 Char rest r e = differ e refl
kind_not_count Int64 Object rest r e = differ e refl
kind_not_count Char Tagged rest r e = differ e refl
kind_not_count Char Int64 rest r e = differ e refl
kind_not_count Char Char rest r e = differ e refl
kind_not_count Char Object rest r e = differ e refl
kind_not_count Object Tagged rest r e = differ e refl
kind_not_count Object Int64 rest r e = differ e refl
kind_not_count Object Char rest r e = differ e refl
kind_not_count Object Object rest r e = differ e refl

-- the first of two bytes that stand in neither front
same_stop : (a b : List ℕ) (s t : ℕ) (x y : List ℕ) → HasNo t a → HasNo s b → a ++ s ∷ x ≡ b ++ t ∷ y → s ≡ t
same_stop [] [] s t x y p q e = ap (λ l. get_or l 0 0) e
same_stop [] (d ∷ b) s t x y p q e =
    let same : s ≡ d = ap (λ l. get_or l 0 0) e in
    absurd (false≢true (sym (or_false (d == s) _ q).0 ∙ (Decides-eqb d s).1 (sym same)))
same_stop (c ∷ a) [] s t x y p q e =
    let same : c ≡ t = ap (λ l. get_or l 0 0) e in
    absurd (false≢true (sym (or_false (c == t) _ p).0 ∙ (Decides-eqb c t).1 same))
same_stop (c ∷ a) (d ∷ b) s t x y p q e = same_stop a b s t x y (or_false (c == t) _ p).1 (or_false (d == s) _ q).1 (ap (drop 1) e)

kind_not_call : (k : Kind) (rest name r : List ℕ) → IsTrue (is_call_name name) → kind_text k ++ rest ≢ name ++ 40 ∷ r
kind_not_call Tagged rest name r h e =
    let same : 40 ≡ 32 = same_stop name (codes "CPyTagged") 40 32 r rest (HasNo-call_name 32 name (omega arith) space_stops refl h) refl (sym e) in
    differ (ap (λ n. n ∷ []) same) refl
kind_not_call Int64 rest name r h e = let p = call_name_parts name h in differ (e ∙ ap (λ n. n ++ 40 ∷ r) p.whole) refl
kind_not_call Char rest name r h e = let p = call_name_parts name h in differ (e ∙ ap (λ n. n ++ 40 ∷ r) p.whole) refl
kind_not_call Object rest name r h e = let p = call_name_parts name h in differ (e ∙ ap (λ n. n ++ 40 ∷ r) p.whole) refl

kind_not_statement : (vars : List Declared) (l : Line) (k : Kind) (rest : List ℕ) → IsIndented l → IsTrue (spelled_line vars l) → kind_text k ++ rest ≢ statement_text vars l ++ codes ";"
kind_not_statement vars l k rest i h e = split l i h (e ∙ ap (λ t. t ++ codes ";") (opens vars l h).text ∙ append_assoc (opening l) (opens vars l h).rest (codes ";")) e
  where
    counted : (verb : List ℕ) (x : ℕ) → IsTrue (is_counted_kind vars (kind_at vars x)) → kind_text k ++ rest ≡ count_text vars verb x ++ codes ";" → ⊥
    counted verb x h e =
        let c = count_parts vars verb x h in
        kind_not_count k c.kind rest _ (e ∙ ap (λ t. t ++ codes ";") c.text ∙ append_assoc (counter_text c.kind ++ verb) (codes "(" ++ (var_text vars x ++ codes ")")) (codes ";") ∙ append_assoc (counter_text c.kind) verb (codes "(" ++ ((var_text vars x ++ codes ")") ++ codes ";")))

    split : (l : Line) → IsIndented l → (h : IsTrue (spelled_line vars l)) → kind_text k ++ rest ≡ opening l ++ ((opens vars l h).rest ++ codes ";") → kind_text k ++ rest ≡ statement_text vars l ++ codes ";" → ⊥
    split Label i h o e = i
    split (Move x y) i h o e = kind_not_variable k rest _ o
    split (Lit x l) i h o e = kind_not_variable k rest _ o
    split (Call None name args) i h o e =
        kind_not_call k rest name ((args_text vars args ++ codes ")") ++ codes ";") (and_true (is_call_name name) _ h).0 (e ∙ append_assoc name (codes "(" ++ (args_text vars args ++ codes ")")) (codes ";"))
    split (Call (Some x) name args) i h o e = kind_not_variable k rest _ o
    split (Virtual x y n args) i h o e = kind_not_variable k rest _ o
    split (TraitCall x y t n args) i h o e = kind_not_variable k rest _ o
    split (Goto n) i h o e = kind_not_jump k rest _ o
    split (If x a b) i h o e = kind_not_test k rest _ o
    split (IfError x a b) i h o e = kind_not_test k rest _ o
    split Turn i h o e = kind_not_turn k rest _ e
    split (Return x) i h o e = kind_not_return k rest _ o
    split (Inc x) i h o e = counted (codes "INCREF") x h e
    split (Dec x) i h o e = counted (codes "DECREF") x h e
    split (XDec x) i h o e = counted (codes "XDECREF") x h e

pub no_declaration : (vars : List Declared) (n : ℕ) (l : Line) (v : Declared) → IsTrue (spelled_line vars l) → indented (declaration_text v) ≢ line_text vars n l
no_declaration vars n l v h e =
    elim (label_or_statement l) [
      | inl same ↦ differ (e ∙ ap (line_text vars n) same) refl
      | inr i ↦ kind_not_statement vars l v.1 (codes "cpy_" ++ (v.0 ++ codes ";")) i h (sym (append_assoc (kind_text v.1) (codes "cpy_" ++ v.0) (codes ";")) ∙ append_cancel_left (codes "    ") _ _ (e ∙ indented_text vars n l i))
    ]

-- ---- the last line is of no other sort

pub end_not_declaration : (v : Declared) → indented (declaration_text v) ≢ function_end
end_not_declaration v e = differ e refl

pub end_not_line : (vars : List Declared) (n : ℕ) (l : Line) → line_text vars n l ≢ function_end
end_not_line vars n l e =
    elim (label_or_statement l) [
      | inl same ↦ differ (sym (ap (line_text vars n) same) ∙ e) refl
      | inr i ↦ differ (sym (indented_text vars n l i) ∙ e) refl
    ]

-- lines with one text are both labels or none
pub same_after : (vars : List Declared) (n : ℕ) (l m : Line) → line_text vars n l ≡ line_text vars n m → is_label l ≡ is_label m
same_after vars n l m e = split (is_label l) (is_label m) e
  where
    split : (b c : Bool) → cond b (label_line n) (indented (statement_text vars l)) ≡ cond c (label_line n) (indented (statement_text vars m)) → b ≡ c
    split true true e = refl
    split false false e = refl
    split true false e = absurd (differ e refl)
    split false true e = absurd (differ e refl)

-- ---- globals and heads of functions

pub same_global : (v w : Declared) → global_line v ≡ global_line w → v ≡ w
same_global v w e =
    let p = same_kind_front v.1 w.1 (codes "CPyStatic_" ++ (v.0 ++ codes ";")) (codes "CPyStatic_" ++ (w.0 ++ codes ";")) e in
    let n : v.0 ≡ w.0 = append_cancel_right v.0 w.0 (codes ";") (append_cancel_left (codes "CPyStatic_") (v.0 ++ codes ";") (w.0 ++ codes ";") p.1) in
    ap (λ m. (m, v.1)) n ∙ ap (λ k. (w.0, k)) p.0

pub global_joined : (v : Declared) → (kind_text v.1 ++ (codes "CPyStatic_" ++ v.0)) ++ codes ";" ≡ global_line v
global_joined v = append_assoc (kind_text v.1) (codes "CPyStatic_" ++ v.0) (codes ";")

global_front : (k : Kind) (rest : List ℕ) → kind_text k ++ (codes "CPyStatic_" ++ rest) ≢ module_head
global_front Tagged rest e = differ e refl
global_front Int64 rest e = differ e refl
global_front Char rest e = differ e refl
global_front Object rest e = differ e refl

pub global_not_module : (v : Declared) → global_line v ≢ module_head
global_not_module v e = global_front v.1 (v.0 ++ codes ";") e

head_front_module : (k : Kind) (rest : List ℕ) → kind_text k ++ (codes "CPyDef_" ++ rest) ≢ module_head
head_front_module Tagged rest e = differ e refl
head_front_module Int64 rest e = differ e refl
head_front_module Char rest e = differ e refl
head_front_module Object rest e = differ e refl

pub head_not_module : (g : CFunc) → function_head g ≢ module_head
head_not_module g e = head_front_module g.ret (g.name ++ (codes "(" ++ (parameters_text (take g.params g.vars) ++ codes ") {"))) e

pub global_not_head : (v : Declared) (g : CFunc) → global_line v ≢ function_head g
global_not_head v g e =
    let p = same_kind_front v.1 g.ret (codes "CPyStatic_" ++ (v.0 ++ codes ";")) (codes "CPyDef_" ++ (g.name ++ (codes "(" ++ (parameters_text (take g.params g.vars) ++ codes ") {")))) e in
    differ p.1 refl

pub global_found : {E : Type 0} (piece text : List ℕ) (r : Result (Option Declared) E) → piece ≡ text ++ codes ";" → IfOk r (λ found. MatchOption found ((v : Declared) → IsTrue (is_identifier v.0) → kind_text v.1 ++ (codes "CPyStatic_" ++ v.0) ≢ text) (λ v. IsTrue (is_identifier v.0) × (kind_text v.1 ++ (codes "CPyStatic_" ++ v.0) ≡ text))) → IfOk r (λ found. MatchOption found ((v : Declared) → IsTrue (is_identifier v.0) → global_line v ≢ piece) (λ v. IsTrue (is_identifier v.0) × (global_line v ≡ piece)))
global_found piece text (Err f) p h = h
global_found piece text (Ok None) p h = λ v d e. h v d (append_cancel_right (kind_text v.1 ++ (codes "CPyStatic_" ++ v.0)) text (codes ";") (global_joined v ∙ e ∙ p))
global_found piece text (Ok (Some v)) p h = (h.0, sym (global_joined v) ∙ ap (λ t. t ++ codes ";") h.1 ∙ sym p)
