-- What reading a statement finds, by what was found of its parts.
use Rattle.std.proofs.Common.{◌≡◌, ◌≢◌, ◌∙◌, ℕ, List, [], ◌++◌, Option, Some, None, IsTrue, IfOk, Result, Ok, Err, refl, sym, ap, arith, append_assoc, subst}
use Rattle.std.specs.Prelude.{◌&&◌, IfSome, codes}
use Rattle.std.specs.List.{list_all}
use Rattle.std.specs.Option.{option_map}
use Rattle.std.proofs.lemmas.List.{append_cancel_left}
use Rattle.c_core.specs.declared.code.CArg.{CArg}
use Rattle.c_core.specs.declared.code.CLit.{CLit}
use Rattle.c_core.specs.declared.code.Kind.{Kind}
use Rattle.c_core.specs.declared.code.Kind.TheVariants.{Tagged, Int64, Char, Object}
use Rattle.c_core.specs.declared.code.Line.{Line}
use Rattle.c_core.specs.declared.code.Line.TheVariants.{Label, Move, Lit, Call, Virtual, TraitCall, Goto, If, IfError, Turn, Return, Inc, Dec, XDec}
use Rattle.c_core.specs.Text.{count_text, goto_text, literal_text, statement_text, var_text}
use Rattle.c_core.specs.WellFormed.{Declared, is_call_name, is_declared, is_identifier, kind_at, spelled_arg, spelled_label, spelled_line, spelled_literal}
use Rattle.c_text.specs.declared.count.Count.{Count}
use Rattle.c_text.specs.declared.count.Count.TheVariants as count
use Rattle.c_text.specs.Counts.{FindsCount, IsCounted, count_line, count_word, counter_text}
use Rattle.c_text.specs.Labels.{FindsLabel}
use Rattle.c_text.specs.Variables.{Finds, FindsVariable, FindsVariableOf}
use Rattle.c_text.specs.Methods.{for_trait_text, virtual_text}
use Rattle.c_text.specs.Words.{HasNo, IsCut, bracketed}
use Rattle.c_text.specs.Statements.{AreNamed, IsIndented, IsSpelledLine, Reads, args_text, assignment_text, both_text, call_text, error_of, test_text}
use Rattle.c_text.proofs.Bytes.{and_true, bracket_stops, differ, not_in, same_bracketed, same_front, space_stops}
use Rattle.c_text.proofs.ArgumentLemmas.{HasNo-variable}
use Rattle.c_text.proofs.Forms.{Assigned, moves, takes, gets, Called, by_name, by_class, by_trait, Jumping, jumps, Returned, returns, Tested, tests, tests_error, Worded, turns, counts, calls, apart, error_test, is_assignment, is_jump, is_return, is_test, is_worded}
use Rattle.c_text.proofs.MethodTexts.{for_trait_alike, for_trait_is, virtual_alike, virtual_is}
use Rattle.c_text.proofs.StatementLemmas.{HasNo-call_name, IsCount, call_name_parts, count_at, count_listed, count_parts, count_plain, count_spelled, literal_front, literal_not_variable, no_other_word, same_counter, turn_is_no_count}
use Rattle.c_text.proofs.VariableLemmas.{declared_at, kind_declared, text_at}

pub reads_as : (vars : List Declared) (text other : List ℕ) (found : Option Line) → text ≡ other → Reads vars text found → Reads vars other found
reads_as vars text other found e r = record { spelled = r.spelled; finds = λ l i h f. r.finds l i h (f ∙ sym e) }

alike_then : {A : Type 0} (text : A → List ℕ) (a b : A) (found : Option A) → text a ≡ text b → Finds text found b → Finds text found a
alike_then text a b None p f = f
alike_then text a b (Some c) p f = p ∙ f

-- ---- returns and jumps

pub return_reads : (vars : List Declared) (word : List ℕ) (found : Option ℕ) → FindsVariable vars word found → Reads vars (codes "return " ++ word) (option_map Return found)
return_reads vars word None f = record { spelled = tt; finds = λ l i h e. none (is_return vars l word i h e) }
  where
    none : {l : Line} → Returned vars word l → ⊥
    none (returns x d t) = f x d t
return_reads vars word (Some y) f = record { spelled = (tt, f.0); finds = λ l i h e. same (is_return vars l word i h e) }
  where
    same : {l : Line} → Returned vars word l → statement_text vars l ≡ statement_text vars (Return y)
    same (returns x d t) = ap (λ t. codes "return " ++ t) (t ∙ sym f.1)

pub jump_reads : (vars : List Declared) (digits : List ℕ) (found : Option ℕ) → FindsLabel digits found → Reads vars (codes "goto CPyL" ++ digits) (option_map Goto found)
jump_reads vars digits None f = record { spelled = tt; finds = λ l i h e. none (is_jump vars l digits i h e) }
  where
    none : {l : Line} → Jumping digits l → ⊥
    none (jumps n h t) = let o : None ≡ Some n = f.finds n h t in cc
jump_reads vars digits (Some m) f = record { spelled = (tt, f.fits); finds = λ l i h e. same (is_jump vars l digits i h e) }
  where
    same : {l : Line} → Jumping digits l → statement_text vars l ≡ statement_text vars (Goto m)
    same (jumps n h t) = let o : Some m ≡ Some n = f.finds n h t in let s : n ≡ m = cc in ap goto_text s

-- ---- tests

same_error : (k l : Kind) → error_of k ≡ error_of l → k ≡ l
same_error Tagged Tagged e = refl
same_error Int64 Int64 e = refl
same_error Char Char e = refl
same_error Object Object e = refl
same_error k l e = absurd (differ e refl)

pub no_error : (error : List ℕ) → error ≢ codes "== 1" → error ≢ codes "== -113" → error ≢ codes "== 2" → error ≢ codes "== NULL" → (kind : Kind) → codes "== " ++ error_of kind ≢ error
no_error error t i c o Tagged e = t (sym e)
no_error error t i c o Int64 e = i (sym e)
no_error error t i c o Char e = c (sym e)
no_error error t i c o Object e = o (sym e)

pub test_of_variable : (vars : List Declared) (inside : List ℕ) (a b : ℕ) (found : Option ℕ) → AreNamed vars → HasNo 41 inside → HasNo 32 inside → IsTrue (spelled_label a) × IsTrue (spelled_label b) → FindsVariable vars inside found → Reads vars (test_text inside (both_text a b)) (option_map (λ x. If x a b) found)
test_of_variable vars inside a b None n plain unspaced fit f = record { spelled = tt; finds = λ l i h e. none (is_test vars l inside (both_text a b) n i h plain e) }
  where
    none : {l : Line} → Tested vars inside (both_text a b) l → ⊥
    none (tests x c d h p q t u) = f x h t
    none (tests_error x c d kind h p q t u) = not_in 32 inside (var_text vars x) (codes "== " ++ error_of kind) unspaced (sym t)
test_of_variable vars inside a b (Some y) n plain unspaced fit f = record { spelled = (tt, ap (λ z. z && (spelled_label a && spelled_label b)) f.0 ∙ ap (λ z. z && spelled_label b) fit.0 ∙ fit.1); finds = λ l i h e. same (is_test vars l inside (both_text a b) n i h plain e) }
  where
    same : {l : Line} → Tested vars inside (both_text a b) l → statement_text vars l ≡ statement_text vars (If y a b)
    same (tests x c d h p q t u) = ap (λ z. test_text z (both_text c d)) (t ∙ sym f.1) ∙ ap (test_text (var_text vars y)) u
    same (tests_error x c d kind h p q t u) = absurd (not_in 32 inside (var_text vars x) (codes "== " ++ error_of kind) unspaced (sym t))

-- what a test of an error value says of its parts
record ErrorTest (vars : List Declared) (word error : List ℕ) (a b : ℕ) (l : Line) : Type 0 where
  x : ℕ
  kind : Kind
  kind_is : kind_at vars x ≡ Some kind
  word_is : var_text vars x ≡ word
  error_is : codes "== " ++ error_of kind ≡ error
  text : statement_text vars l ≡ test_text (var_text vars x ++ (codes " == " ++ error_of kind)) (both_text a b)

error_parts : (vars : List Declared) (word error inside : List ℕ) (a b : ℕ) (l : Line) → AreNamed vars → IsCut 32 word error inside → Tested vars inside (both_text a b) l → ErrorTest vars word error a b l
error_parts vars word error inside a b l n cut t = split t
  where
    split : {m : Line} → Tested vars inside (both_text a b) m → ErrorTest vars word error a b m
    split (tests x c d h p q t u) = absurd (not_in 32 (var_text vars x) word error (HasNo-variable 32 vars x (omega arith) space_stops refl n h) (t ∙ sym cut.whole))
    split (tests_error x c d kind h p q t u) =
        let known = kind_declared vars x kind h in
        let s = same_front 32 (var_text vars x) word (codes "== " ++ error_of kind) error (HasNo-variable 32 vars x (omega arith) space_stops refl n known) cut.plain (t ∙ sym cut.whole) in
        record { x = x; kind = kind; kind_is = h; word_is = s.0; error_is = s.1; text = error_test vars x c d kind h ∙ ap (test_text (var_text vars x ++ (codes " == " ++ error_of kind))) u }

pub test_of_error : (vars : List Declared) (word error inside : List ℕ) (a b : ℕ) (kind : Kind) (found : Option ℕ) → AreNamed vars → HasNo 41 inside → IsCut 32 word error inside → codes "== " ++ error_of kind ≡ error → IsTrue (spelled_label a) × IsTrue (spelled_label b) → FindsVariableOf vars word kind found → Reads vars (test_text inside (both_text a b)) (option_map (λ x. IfError x a b) found)
test_of_error vars word error inside a b kind None n plain cut known fit f = record {
  spelled = tt;
  finds = λ l i h e.
      let t = error_parts vars word error inside a b l n cut (is_test vars l inside (both_text a b) n i h plain e) in
      let k : t.kind ≡ kind = same_error t.kind kind (append_cancel_left (codes "== ") _ _ (t.error_is ∙ sym known)) in
      f t.x (t.kind_is ∙ ap Some k) t.word_is;
}
test_of_error vars word error inside a b kind (Some y) n plain cut known fit f = record {
  spelled = (tt, ap (λ z. z && (spelled_label a && spelled_label b)) (kind_declared vars y kind f.0) ∙ ap (λ z. z && spelled_label b) fit.0 ∙ fit.1);
  finds = λ l i h e.
      let t = error_parts vars word error inside a b l n cut (is_test vars l inside (both_text a b) n i h plain e) in
      let k : t.kind ≡ kind = same_error t.kind kind (append_cancel_left (codes "== ") _ _ (t.error_is ∙ sym known)) in
      t.text ∙ ap (λ z. test_text (z ++ (codes " == " ++ error_of t.kind)) (both_text a b)) (t.word_is ∙ sym f.1) ∙ ap (λ z. test_text (var_text vars y ++ (codes " == " ++ error_of z)) (both_text a b)) k
      ∙ sym (error_test vars y a b kind f.0);
}

pub test_of_none : (vars : List Declared) (word error inside : List ℕ) (a b : ℕ) → AreNamed vars → HasNo 41 inside → IsCut 32 word error inside → ((kind : Kind) → codes "== " ++ error_of kind ≢ error) → Reads vars (test_text inside (both_text a b)) None
test_of_none vars word error inside a b n plain cut none = record {
  spelled = tt;
  finds = λ l i h e.
      let t = error_parts vars word error inside a b l n cut (is_test vars l inside (both_text a b) n i h plain e) in
      none t.kind t.error_is;
}

-- both labels of a test were found, and then the test
both_of : {vars : List Declared} {inside branches : List ℕ} {l : Line} → Tested vars inside branches l → (a : ℕ) × (b : ℕ) × IsTrue (spelled_label a) × IsTrue (spelled_label b) × (both_text a b ≡ branches)
both_of (tests x a b h p q t u) = (a, b, p, q, u)
both_of (tests_error x a b kind h p q t u) = (a, b, p, q, u)

some_same : {A : Type 0} {x y : A} (o : Option A) → o ≡ Some x → o ≡ Some y → x ≡ y
some_same {x = x} {y = y} o e f = let g : Some x ≡ Some y = sym e ∙ f in cc

pub test_reads : (vars : List Declared) (text inside rest : List ℕ) (a b : ℕ) (both : Option (ℕ × ℕ)) (found : Option Line) → AreNamed vars → IsCut 41 inside rest text → ((c d : ℕ) → IsTrue (spelled_label c) → IsTrue (spelled_label d) → both_text c d ≡ rest → both ≡ Some (c, d)) → both ≡ Some (a, b) → Reads vars (test_text inside (both_text a b)) found → Reads vars (codes "if (" ++ text) found
test_reads vars text inside rest a b both found n cut finds is r = record {
  spelled = r.spelled;
  finds = λ l i h e.
      let f = e ∙ ap (λ t. codes "if (" ++ t) (sym cut.whole) in
      let t = both_of (is_test vars l inside rest n i h cut.plain f) in
      let same = some_same both (finds t.0 t.1 t.2 t.3 t.4) is in
      r.finds l i h (f ∙ ap (test_text inside) (sym t.4 ∙ ap (λ (z : ℕ × ℕ). both_text z.0 z.1) same));
}

pub test_without_labels : (vars : List Declared) (text inside rest : List ℕ) (both : Option (ℕ × ℕ)) → AreNamed vars → IsCut 41 inside rest text → ((c d : ℕ) → IsTrue (spelled_label c) → IsTrue (spelled_label d) → both_text c d ≡ rest → both ≡ Some (c, d)) → both ≡ None → Reads vars (codes "if (" ++ text) None
test_without_labels vars text inside rest both n cut finds none = record {
  spelled = tt;
  finds = λ l i h e.
      let t = both_of (is_test vars l inside rest n i h cut.plain (e ∙ ap (λ t. codes "if (" ++ t) (sym cut.whole))) in
      let o : both ≡ Some (t.0, t.1) = finds t.0 t.1 t.2 t.3 t.4 in
      let no : None ≡ Some (t.0, t.1) = sym none ∙ o in
      cc;
}

pub test_unclosed : (vars : List Declared) (text : List ℕ) → HasNo 41 text → Reads vars (codes "if (" ++ text) None
test_unclosed vars text none = record { spelled = tt; finds = closes }
  where
    closes : (l : Line) → IsIndented l → IsTrue (spelled_line vars l) → statement_text vars l ≡ codes "if (" ++ text → ⊥
    closes Label i h e = i
    closes (If x a b) i h e = not_in 41 text (var_text vars x) (both_text a b) none (sym (append_cancel_left (codes "if (") _ text e))
    closes (IfError x a b) i h e =
        let d = declared_at vars x (and_true (is_declared vars x) _ h).0 in
        let k : kind_at vars x ≡ Some d.var.1 = ap (option_map (λ v. v.1)) d.at in
        not_in 41 text (var_text vars x ++ (codes " == " ++ error_of d.var.1)) (both_text a b) none (sym (append_cancel_left (codes "if (") _ text (sym (error_test vars x a b d.var.1 k) ∙ e)))
    closes (Call None name args) i h e = apart vars (Call None name args) h _ e refl
    closes (Call (Some x) name args) i h e = apart vars (Call (Some x) name args) h _ e refl
    closes l i h e = apart vars l h (codes "if (" ++ text) e refl

-- ---- assignments

-- what is assigned is a call by this word
record CallAssigned (vars : List Declared) (place : ℕ) (word inside : List ℕ) (l : Line) : Type 0 where
  x : ℕ
  target : var_text vars x ≡ var_text vars place
  called : Called vars x word inside l

of_call : (vars : List Declared) (place : ℕ) (word inside rest : List ℕ) (l : Line) → HasNo 40 word → bracketed word inside ≡ codes "CPy" ++ rest → Assigned vars place (bracketed word inside) l → CallAssigned vars place word inside l
of_call vars place word inside rest l plain begins a = at a
  where
    at : {m : Line} → Assigned vars place (bracketed word inside) m → CallAssigned vars place word inside m
    at (moves x y p q t u) = let o = declared_at vars y q in absurd (differ (sym (text_at vars y o.var o.at) ∙ u ∙ begins) refl)
    at (takes x m p q t u) = absurd (literal_front m rest q (u ∙ begins))
    at (gets x other more r m p h w c t u) =
        let s = same_bracketed other word more inside h plain u in
        record { x = x; target = t; called = subst (λ (i : List ℕ). Called vars x word i m) s.1 (subst (λ (z : List ℕ). Called vars x z more m) s.0 c) }

-- the call of a function or a primitive
pub call_assigned : {E : Type 0} (vars : List Declared) (place : ℕ) (word inside rest : List ℕ) (r : Result (Option Line) E) → AreNamed vars → IsTrue (is_declared vars place) → HasNo 40 word → bracketed word inside ≡ codes "CPy" ++ rest → word ≢ codes "CPyVirtual" → word ≢ codes "CPyTrait" → IfOk r (IsSpelledLine vars) → ((args : List CArg) → IsTrue (is_call_name word) → IsTrue (list_all (spelled_arg vars) args) → args_text vars args ≡ inside → IfOk r (λ found. Finds (statement_text vars) found (Call (Some place) word args))) → IfOk r (Reads vars (assignment_text vars place (bracketed word inside)))
call_assigned vars place word inside rest (Err f) n d plain begins no_own no_trait s finds = tt
call_assigned vars place word inside rest (Ok found) n d plain begins no_own no_trait s finds = record {
  spelled = s;
  finds = λ l i h e. let c = of_call vars place word inside rest l plain begins (is_assignment vars l place (bracketed word inside) n d i h e) in at c.x c.target c.called;
}
  where
    alike : (name : List ℕ) (args : List CArg) (x : ℕ) → name ≡ word → var_text vars x ≡ var_text vars place → statement_text vars (Call (Some x) name args) ≡ statement_text vars (Call (Some place) word args)
    alike name args x p q = ap (λ z. (z ++ codes " = ") ++ call_text vars name args) q ∙ ap (λ z. (var_text vars place ++ codes " = ") ++ bracketed z (args_text vars args)) p

    at : {l : Line} (x : ℕ) → var_text vars x ≡ var_text vars place → Called vars x word inside l → Finds (statement_text vars) found l
    at x t (by_name name args p q w v) =
        alike_then (statement_text vars) (Call (Some x) name args) (Call (Some place) word args) found (alike name args x w t) (finds args (ap is_call_name (sym w) ∙ p) q v)
    at x t (by_class o m args p q r w v) = absurd (no_own (sym w))
    at x t (by_trait o u m args p q r k w v) = absurd (no_trait (sym w))

-- the call of a method of the object's own class, and of one for a trait
pub virtual_assigned : {E : Type 0} (vars : List Declared) (place : ℕ) (word inside rest : List ℕ) (r : Result (Option Line) E) → AreNamed vars → IsTrue (is_declared vars place) → HasNo 40 word → bracketed word inside ≡ codes "CPy" ++ rest → word ≡ codes "CPyVirtual" → IfOk r (IsSpelledLine vars) → ((o m : ℕ) (args : List ℕ) → IsTrue (is_declared vars o) → IsTrue (spelled_label m) → IsTrue (list_all (is_declared vars) args) → virtual_text vars o m args ≡ inside → IfOk r (λ found. Finds (statement_text vars) found (Virtual place o m args))) → IfOk r (Reads vars (assignment_text vars place (bracketed word inside)))
virtual_assigned vars place word inside rest (Err f) n d plain begins is s finds = tt
virtual_assigned vars place word inside rest (Ok found) n d plain begins is s finds = record {
  spelled = s;
  finds = λ l i h e. let c = of_call vars place word inside rest l plain begins (is_assignment vars l place (bracketed word inside) n d i h e) in at c.x c.target c.called;
}
  where
    at : {l : Line} (x : ℕ) → var_text vars x ≡ var_text vars place → Called vars x word inside l → Finds (statement_text vars) found l
    at x t (by_name name args p q w v) = absurd (no_other_word name (codes "CPyVirtual") p refl (w ∙ is))
    at x t (by_class o m args p q r w v) =
        alike_then (statement_text vars) (Virtual x o m args) (Virtual place o m args) found (virtual_alike vars x place o o m m args args t refl) (finds o m args p q r v)
    at x t (by_trait o u m args p q r k w v) = absurd (differ (w ∙ is) refl)

pub trait_assigned : {E : Type 0} (vars : List Declared) (place : ℕ) (word inside rest : List ℕ) (r : Result (Option Line) E) → AreNamed vars → IsTrue (is_declared vars place) → HasNo 40 word → bracketed word inside ≡ codes "CPy" ++ rest → word ≡ codes "CPyTrait" → IfOk r (IsSpelledLine vars) → ((o : ℕ) (u : List ℕ) (m : ℕ) (args : List ℕ) → IsTrue (is_declared vars o) → IsTrue (is_identifier u) → IsTrue (spelled_label m) → IsTrue (list_all (is_declared vars) args) → for_trait_text vars o u m args ≡ inside → IfOk r (λ found. Finds (statement_text vars) found (TraitCall place o u m args))) → IfOk r (Reads vars (assignment_text vars place (bracketed word inside)))
trait_assigned vars place word inside rest (Err f) n d plain begins is s finds = tt
trait_assigned vars place word inside rest (Ok found) n d plain begins is s finds = record {
  spelled = s;
  finds = λ l i h e. let c = of_call vars place word inside rest l plain begins (is_assignment vars l place (bracketed word inside) n d i h e) in at c.x c.target c.called;
}
  where
    at : {l : Line} (x : ℕ) → var_text vars x ≡ var_text vars place → Called vars x word inside l → Finds (statement_text vars) found l
    at x t (by_name name args p q w v) = absurd (no_other_word name (codes "CPyTrait") p refl (w ∙ is))
    at x t (by_class o m args p q r w v) = absurd (differ (w ∙ is) refl)
    at x t (by_trait o u m args p q r k w v) =
        alike_then (statement_text vars) (TraitCall x o u m args) (TraitCall place o u m args) found (for_trait_alike vars x place o o u u m m args args t refl) (finds o u m args p q r k v)

pub no_call_assigned : (vars : List Declared) (place : ℕ) (value rest : List ℕ) → AreNamed vars → IsTrue (is_declared vars place) → value ≡ codes "CPy" ++ rest → ((word inside : List ℕ) → HasNo 40 word → bracketed word inside ≢ value) → Reads vars (assignment_text vars place value) None
no_call_assigned vars place value rest n d begins none = record { spelled = tt; finds = λ l i h e. at (is_assignment vars l place value n d i h e) }
  where
    at : {l : Line} → Assigned vars place value l → ⊥
    at (moves x y p q t u) = let o = declared_at vars y q in differ (sym (text_at vars y o.var o.at) ∙ u ∙ begins) refl
    at (takes x l p q t u) = literal_front l rest q (u ∙ begins)
    at (gets x word inside r l p h w c t u) = none word inside h u

-- it is a variable
pub variable_assigned : (vars : List Declared) (place : ℕ) (value rest : List ℕ) (found : Option ℕ) → AreNamed vars → IsTrue (is_declared vars place) → value ≡ codes "cpy_" ++ rest → FindsVariable vars value found → Reads vars (assignment_text vars place value) (option_map (Move place) found)
variable_assigned vars place value rest None n d begins f = record { spelled = tt; finds = λ l i h e. at (is_assignment vars l place value n d i h e) }
  where
    at : {l : Line} → Assigned vars place value l → ⊥
    at (moves x y p q t u) = f y q u
    at (takes x l p q t u) = literal_not_variable l rest q (u ∙ begins)
    at (gets x word inside r l p h w c t u) = differ (ap (λ z. bracketed z inside) (sym w) ∙ u ∙ begins) refl
variable_assigned vars place value rest (Some y) n d begins f = record { spelled = (tt, ap (λ z. z && is_declared vars y) d ∙ f.0); finds = λ l i h e. at (is_assignment vars l place value n d i h e) }
  where
    at : {l : Line} → Assigned vars place value l → statement_text vars l ≡ statement_text vars (Move place y)
    at (moves x z p q t u) = ap (λ w. assignment_text vars x w) (u ∙ sym f.1) ∙ ap (λ w. w ++ (codes " = " ++ var_text vars y)) t
    at (takes x l p q t u) = absurd (literal_not_variable l rest q (u ∙ begins))
    at (gets x word inside r l p h w c t u) = absurd (differ (ap (λ z. bracketed z inside) (sym w) ∙ u ∙ begins) refl)

-- it is a literal
pub literal_assigned : (vars : List Declared) (place : ℕ) (value : List ℕ) (found : Option CLit) → AreNamed vars → IsTrue (is_declared vars place) → ((r : List ℕ) → value ≢ codes "CPy" ++ r) → ((r : List ℕ) → value ≢ codes "cpy_" ++ r) → ((l : CLit) → IsTrue (spelled_literal l) → literal_text l ≡ value → found ≡ Some l) → IfSome found (λ l. IsTrue (spelled_literal l)) → Reads vars (assignment_text vars place value) (option_map (Lit place) found)
literal_assigned vars place value found n d no_call no_variable finds s = record { spelled = spelled found s; finds = λ l i h e. at (is_assignment vars l place value n d i h e) }
  where
    spelled : (o : Option CLit) → IfSome o (λ l. IsTrue (spelled_literal l)) → IsSpelledLine vars (option_map (Lit place) o)
    spelled None s = tt
    spelled (Some l) s = (tt, ap (λ z. z && spelled_literal l) d ∙ s)

    at : {l : Line} → Assigned vars place value l → Finds (statement_text vars) (option_map (Lit place) found) l
    at (moves x y p q t u) = let o = declared_at vars y q in absurd (no_variable o.var.0 (sym u ∙ text_at vars y o.var o.at))
    at (takes x l p q t u) =
        subst (λ (o : Option CLit). Finds (statement_text vars) (option_map (Lit place) o) (Lit x l)) (sym (finds l q u)) (ap (λ w. w ++ (codes " = " ++ literal_text l)) t)
    at (gets x word inside r l p h w c t u) = absurd (no_call (r ++ (codes "(" ++ (inside ++ codes ")"))) (sym u ∙ ap (λ z. bracketed z inside) w))

-- a statement that begins with a variable assigns to it
pub no_target : (vars : List Declared) (text rest : List ℕ) → text ≡ codes "cpy_" ++ rest → ((x : ℕ) (value : List ℕ) → IsTrue (is_declared vars x) → assignment_text vars x value ≢ text) → Reads vars text None
no_target vars text rest begins none = record { spelled = tt; finds = at }
  where
    at : (l : Line) → IsIndented l → IsTrue (spelled_line vars l) → statement_text vars l ≡ text → ⊥
    at Label i h e = i
    at (Move x y) i h e = none x (var_text vars y) (and_true (is_declared vars x) _ h).0 e
    at (Lit x l) i h e = none x (literal_text l) (and_true (is_declared vars x) _ h).0 e
    at (Call (Some x) name args) i h e = none x (call_text vars name args) (and_true (is_declared vars x) _ h).0 (sym (append_assoc (var_text vars x) (codes " = ") (call_text vars name args)) ∙ e)
    at (Virtual x o n args) i h e = none x (bracketed (codes "CPyVirtual") (virtual_text vars o n args)) (and_true (is_declared vars x) _ h).0 (sym (virtual_is vars x o n args) ∙ e)
    at (TraitCall x o t n args) i h e = none x (bracketed (codes "CPyTrait") (for_trait_text vars o t n args)) (and_true (is_declared vars x) _ h).0 (sym (for_trait_is vars x o t n args) ∙ e)
    at (Call None name args) i h e = apart vars (Call None name args) h _ (e ∙ begins) refl
    at l i h e = apart vars l h (codes "cpy_" ++ rest) (e ∙ begins) refl

-- ---- turns, counts and calls without a target

pub turn_reads : (vars : List Declared) (word inside rest : List ℕ) → HasNo 40 word → bracketed word inside ≡ codes "CPy" ++ rest → word ≡ codes "CPyTurn" → Reads vars (bracketed word inside) (Some Turn)
turn_reads vars word inside rest plain begins is = record { spelled = (tt, refl); finds = λ l i h e. at e (is_worded vars l word inside rest i h plain begins e) }
  where
    at : {l : Line} → statement_text vars l ≡ bracketed word inside → Worded vars word inside l → statement_text vars l ≡ statement_text vars Turn
    at e (turns w) = refl
    at e (counts c x kind k a w v) = absurd (turn_is_no_count c kind k (w ∙ is))
    at e (calls name args h k w v) = absurd (no_other_word name (codes "CPyTurn") h refl (w ∙ is))

pub count_reads : (vars : List Declared) (word inside rest : List ℕ) (c : Count) (kind : Kind) (found : Option ℕ) → HasNo 40 word → bracketed word inside ≡ codes "CPy" ++ rest → IsCounted kind → count_word c kind ≡ word → FindsVariableOf vars inside kind found → Reads vars (bracketed word inside) (option_map (count_line c) found)
count_reads vars word inside rest c kind found plain begins k is f = record { spelled = spelled found f; finds = λ l i h e. at (is_worded vars l word inside rest i h plain begins e) found f }
  where
    spelled : (o : Option ℕ) → FindsVariableOf vars inside kind o → IsSpelledLine vars (option_map (count_line c) o)
    spelled None f = tt
    spelled (Some y) f = count_spelled vars c y kind k f.0

    at : {l : Line} → Worded vars word inside l → (o : Option ℕ) → FindsVariableOf vars inside kind o → Finds (statement_text vars) (option_map (count_line c) o) l
    at (turns w) o f = absurd (turn_is_no_count c kind k (is ∙ sym w))
    at (calls name args h q w v) o f = absurd (no_other_word name (count_word c kind) h (count_listed c kind k) (w ∙ sym is))
    at (counts b x l m a w v) None f = f x (a ∙ ap Some (same_counter b c l kind m k (w ∙ sym is))) v
    at (counts b x l m a w v) (Some y) f =
        count_at vars b x l m a ∙ ap (λ z. bracketed z (var_text vars x)) (w ∙ sym is) ∙ ap (bracketed (count_word c kind)) (v ∙ sym f.1) ∙ sym (count_at vars c y kind k f.0)

pub call_reads : {E : Type 0} (vars : List Declared) (word inside rest : List ℕ) (r : Result (Option Line) E) → HasNo 40 word → bracketed word inside ≡ codes "CPy" ++ rest → word ≢ codes "CPyTurn" → FindsCount word None → IfOk r (IsSpelledLine vars) → ((args : List CArg) → IsTrue (is_call_name word) → IsTrue (list_all (spelled_arg vars) args) → args_text vars args ≡ inside → IfOk r (λ found. Finds (statement_text vars) found (Call None word args))) → IfOk r (Reads vars (bracketed word inside))
call_reads vars word inside rest (Err f) plain begins no_turn no_count s finds = tt
call_reads vars word inside rest (Ok found) plain begins no_turn no_count s finds = record { spelled = s; finds = λ l i h e. at (is_worded vars l word inside rest i h plain begins e) }
  where
    at : {l : Line} → Worded vars word inside l → Finds (statement_text vars) found l
    at (turns w) = absurd (no_turn (sym w))
    at (counts c x kind k a w v) = absurd (no_count c kind k w)
    at (calls name args h k w v) =
        alike_then (statement_text vars) (Call None name args) (Call None word args) found (ap (λ z. bracketed z (args_text vars args)) w) (finds args (ap is_call_name (sym w) ∙ h) k v)

pub no_word : (vars : List Declared) (text rest : List ℕ) → text ≡ codes "CPy" ++ rest → ((word inside : List ℕ) → HasNo 40 word → bracketed word inside ≢ text) → Reads vars text None
no_word vars text rest begins none = record { spelled = tt; finds = at }
  where
    counted : (c : Count) (verb : List ℕ) (x : ℕ) (k : IsCount vars verb x) → count_word c k.kind ≡ counter_text k.kind ++ verb → count_text vars verb x ≡ text → ⊥
    counted c verb x k w e = none (count_word c k.kind) (var_text vars x) (count_plain c k.kind) (ap (λ t. bracketed t (var_text vars x)) w ∙ sym k.text ∙ e)

    at : (l : Line) → IsIndented l → IsTrue (spelled_line vars l) → statement_text vars l ≡ text → ⊥
    at Label i h e = i
    at Turn i h e = none (codes "CPyTurn") [] refl e
    at (Inc x) i h e = counted count.Inc (codes "INCREF") x (count_parts vars (codes "INCREF") x h) refl e
    at (Dec x) i h e = counted count.Dec (codes "DECREF") x (count_parts vars (codes "DECREF") x h) refl e
    at (XDec x) i h e = counted count.XDec (codes "XDECREF") x (count_parts vars (codes "XDECREF") x h) refl e
    at (Call None name args) i h e = none name (args_text vars args) (HasNo-call_name 40 name (omega arith) bracket_stops refl (and_true (is_call_name name) _ h).0) e
    at (Call (Some x) name args) i h e = apart vars (Call (Some x) name args) h _ (e ∙ begins) refl
    at l i h e = apart vars l h (codes "CPy" ++ rest) (e ∙ begins) refl
