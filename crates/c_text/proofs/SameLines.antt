-- No two statements have one text, and so no two lists of statements have the same lines.
use Rattle.std.proofs.Common.{◌≡◌, ◌≢◌, ◌∙◌, ℕ, List, [], ◌∷◌, ◌++◌, Some, None, IsTrue, refl, sym, ap, arith, append_assoc, inl, inr, subst}
use Rattle.std.specs.Prelude.{codes}
use Rattle.std.specs.Fmt.{decimal}
use Rattle.std.specs.List.{list_all}
use Rattle.std.specs.Option.{option_map}
use Rattle.std.proofs.lemmas.List.{append_cancel_left}
use Rattle.c_core.specs.declared.code.CArg.{CArg}
use Rattle.c_core.specs.declared.code.CLit.{CLit}
use Rattle.c_core.specs.declared.code.Line.{Line}
use Rattle.c_core.specs.declared.code.Line.TheVariants.{Label, Move, Lit, Call, Virtual, TraitCall, Goto, If, IfError, Turn, Return, Inc, Dec, XDec}
use Rattle.c_core.specs.Text.{function_end, lines_from, literal_text, statement_text, var_text}
use Rattle.c_core.specs.WellFormed.{Declared, is_call_name, is_counted_kind, is_declared, kind_at, spelled_arg, spelled_label, spelled_line, spelled_literal}
use Rattle.c_text.specs.declared.count.Count.{Count}
use Rattle.c_text.specs.declared.count.Count.TheVariants as count
use Rattle.c_text.specs.Counts.{count_line, count_word, verb_text}
use Rattle.c_text.specs.Labels.{labels_after, line_text}
use Rattle.c_text.specs.Methods.{for_trait_text, virtual_text}
use Rattle.c_text.specs.Words.{HasNo, bracketed}
use Rattle.c_text.specs.Parts.{AreSpelled}
use Rattle.c_text.specs.Statements.{AreNamed, IsIndented, args_text, assignment_text, both_text, call_text, error_of, test_text}
use Rattle.c_text.proofs.Bytes.{and_true, bracket_stops, closing_stops, differ, inside_same, not_in, same_bracketed, same_front, space_stops}
use Rattle.c_text.proofs.ArgumentLemmas.{HasNo-variable}
use Rattle.c_text.proofs.Forms.{Assigned, moves, takes, gets, Called, by_name, by_class, by_trait, Jumping, jumps, Returned, returns, Tested, tests, tests_error, Worded, turns, counts, calls, both_parts, error_front, error_test, is_assignment, is_jump, is_return, is_test, is_worded}
use Rattle.c_text.proofs.LineTexts.{end_not_line, indented_text, label_or_statement, lines_step}
use Rattle.c_text.proofs.MethodTexts.{for_trait_is, virtual_is}
use Rattle.c_text.proofs.Numbers.{HasNo-decimal, same_label}
use Rattle.c_text.proofs.PartLemmas.{heads, tails}
use Rattle.c_text.proofs.SameMethods.{same_for_trait, same_virtual}
use Rattle.c_text.proofs.SameParts.{same_arguments, same_literal, same_variable}
use Rattle.c_text.proofs.StatementLemmas.{HasNo-call_name, call_name_parts, count_at, count_begins, count_listed, count_parts, count_plain, literal_front, literal_not_variable, no_other_word, same_count, turn_is_no_count}
use Rattle.c_text.proofs.VariableLemmas.{HaveOwnNames, declared_at, kind_declared, text_at}

-- ---- statements of one form

one_return : (vars : List Declared) (word : List ℕ) {l m : Line} → HaveOwnNames vars → Returned vars word l → Returned vars word m → l ≡ m
one_return vars word own (returns x p t) (returns y q u) = ap Return (same_variable vars x y own p q (t ∙ sym u))

one_jump : (digits : List ℕ) {l m : Line} → Jumping digits l → Jumping digits m → l ≡ m
one_jump digits (jumps a p t) (jumps b q u) = ap Goto (same_label a b p q (t ∙ sym u))

same_both : (a b c d : ℕ) → IsTrue (spelled_label a) → IsTrue (spelled_label b) → IsTrue (spelled_label c) → IsTrue (spelled_label d) → both_text a b ≡ both_text c d → (a ≡ c) × (b ≡ d)
same_both a b c d p q r s e =
    let f = both_parts (both_text c d) (decimal c ++ (codes "; else goto CPyL" ++ decimal d)) (decimal c) (codes " else goto CPyL" ++ decimal d) a b refl (record { plain = HasNo-decimal 59 c (λ r. omega (arith, r.1)); whole = refl }) p e in
    (same_label a c p r f.0, same_label b d q s (append_cancel_left (codes " else goto CPyL") (decimal b) (decimal d) f.1))

-- an error value is named behind a space, and no variable has one
no_space : (vars : List Declared) (x y : ℕ) (error : List ℕ) → AreNamed vars → IsTrue (is_declared vars x) → var_text vars x ≢ var_text vars y ++ (codes " == " ++ error)
no_space vars x y error names p e = not_in 32 (var_text vars x) (var_text vars y) (codes "== " ++ error) (HasNo-variable 32 vars x (omega arith) space_stops refl names p) e

one_test : (vars : List Declared) (inside branches : List ℕ) {l m : Line} → HaveOwnNames vars → AreNamed vars → Tested vars inside branches l → Tested vars inside branches m → l ≡ m
one_test vars inside branches own names (tests x a b h p q t u) (tests y c d i r s v w) =
    let both = same_both a b c d p q r s (u ∙ sym w) in
    ap (λ z. If z a b) (same_variable vars x y own h i (t ∙ sym v)) ∙ ap (λ z. If y z b) both.0 ∙ ap (λ z. If y c z) both.1
one_test vars inside branches own names (tests x a b h p q t u) (tests_error y c d k i r s v w) = absurd (no_space vars x y (error_of k) names h (t ∙ sym v))
one_test vars inside branches own names (tests_error x a b j h p q t u) (tests y c d i r s v w) = absurd (no_space vars y x (error_of j) names i (v ∙ sym t))
one_test vars inside branches own names (tests_error x a b j h p q t u) (tests_error y c d k i r s v w) =
    let both = same_both a b c d p q r s (u ∙ sym w) in
    let hx = kind_declared vars x j h in
    let hy = kind_declared vars y k i in
    let front = same_front 32 (var_text vars x) (var_text vars y) (codes "== " ++ error_of j) (codes "== " ++ error_of k) (HasNo-variable 32 vars x (omega arith) space_stops refl names hx) (HasNo-variable 32 vars y (omega arith) space_stops refl names hy) (t ∙ sym v) in
    ap (λ z. IfError z a b) (same_variable vars x y own hx hy front.0) ∙ ap (λ z. IfError y z b) both.0 ∙ ap (λ z. IfError y c z) both.1

-- what is assigned is a variable, a literal or a call
variable_is_no_literal : (vars : List Declared) (y : ℕ) (l : CLit) → IsTrue (is_declared vars y) → IsTrue (spelled_literal l) → literal_text l ≢ var_text vars y
variable_is_no_literal vars y l p h e = let o = declared_at vars y p in literal_not_variable l o.var.0 h (e ∙ text_at vars y o.var o.at)

variable_is_no_call : (vars : List Declared) (y : ℕ) (word inside rest : List ℕ) → IsTrue (is_declared vars y) → word ≡ codes "CPy" ++ rest → bracketed word inside ≢ var_text vars y
variable_is_no_call vars y word inside rest p w e =
    let o = declared_at vars y p in
    differ (ap (λ z. bracketed z inside) (sym w) ∙ e ∙ text_at vars y o.var o.at) refl

literal_is_no_call : (l : CLit) (word inside rest : List ℕ) → IsTrue (spelled_literal l) → word ≡ codes "CPy" ++ rest → literal_text l ≢ bracketed word inside
literal_is_no_call l word inside rest h w e = literal_front l (rest ++ (codes "(" ++ (inside ++ codes ")"))) h (e ∙ ap (λ z. bracketed z inside) w)

one_call : (vars : List Declared) (x : ℕ) (word inside : List ℕ) {l m : Line} → HaveOwnNames vars → AreNamed vars → Called vars x word inside l → Called vars x word inside m → l ≡ m
one_call vars x word inside own names (by_name name args p q t u) (by_name other more r s v w) =
    ap (λ z. Call (Some x) z args) (t ∙ sym v) ∙ ap (Call (Some x) other) (same_arguments vars args more own names q s (u ∙ sym w))
one_call vars x word inside own names (by_name name args p q t u) (by_class b m more r s k v w) = absurd (no_other_word name (codes "CPyVirtual") p refl (t ∙ sym v))
one_call vars x word inside own names (by_name name args p q t u) (by_trait b y m more r s k j v w) = absurd (no_other_word name (codes "CPyTrait") p refl (t ∙ sym v))
one_call vars x word inside own names (by_class a n args p q h t u) (by_name other more r s v w) = absurd (no_other_word other (codes "CPyVirtual") r refl (v ∙ sym t))
one_call vars x word inside own names (by_class a n args p q h t u) (by_class b m more r s k v w) =
    let c = same_virtual vars a b n m args more own names p r q s h k (u ∙ sym w) in
    ap (λ z. Virtual x z n args) c.0 ∙ ap (λ z. Virtual x b z args) c.1 ∙ ap (Virtual x b m) c.2
one_call vars x word inside own names (by_class a n args p q h t u) (by_trait b y m more r s k j v w) = absurd (differ (t ∙ sym v) refl)
one_call vars x word inside own names (by_trait a z n args p g q h t u) (by_name other more r s v w) = absurd (no_other_word other (codes "CPyTrait") r refl (v ∙ sym t))
one_call vars x word inside own names (by_trait a z n args p g q h t u) (by_class b m more r s k v w) = absurd (differ (t ∙ sym v) refl)
one_call vars x word inside own names (by_trait a z n args p g q h t u) (by_trait b y m more r j s k v w) =
    let c = same_for_trait vars a b z y n m args more own names p r g j q s h k (u ∙ sym w) in
    ap (λ i. TraitCall x i z n args) c.0 ∙ ap (λ i. TraitCall x b i n args) c.1 ∙ ap (λ i. TraitCall x b y i args) c.2 ∙ ap (TraitCall x b y m) c.3

one_assignment : (vars : List Declared) (place : ℕ) (value : List ℕ) {l m : Line} → HaveOwnNames vars → AreNamed vars → Assigned vars place value l → Assigned vars place value m → l ≡ m
one_assignment vars place value own names (moves x y p q t u) (moves z w r s v o) =
    ap (λ i. Move i y) (same_variable vars x z own p r (t ∙ sym v)) ∙ ap (Move z) (same_variable vars y w own q s (u ∙ sym o))
one_assignment vars place value own names (moves x y p q t u) (takes z m r s v o) = absurd (variable_is_no_literal vars y m q s (o ∙ sym u))
one_assignment vars place value own names (moves x y p q t u) (gets z word inside rest m r h w d v o) = absurd (variable_is_no_call vars y word inside rest q w (o ∙ sym u))
one_assignment vars place value own names (takes x l p q t u) (moves z w r s v o) = absurd (variable_is_no_literal vars w l s q (u ∙ sym o))
one_assignment vars place value own names (takes x l p q t u) (takes z m r s v o) =
    ap (λ i. Lit i l) (same_variable vars x z own p r (t ∙ sym v)) ∙ ap (Lit z) (same_literal l m q s (u ∙ sym o))
one_assignment vars place value own names (takes x l p q t u) (gets z word inside rest m r h w d v o) = absurd (literal_is_no_call l word inside rest q w (u ∙ sym o))
one_assignment vars place value own names (gets x word inside rest l p h w c t u) (moves z y r s v o) = absurd (variable_is_no_call vars y word inside rest s w (u ∙ sym o))
one_assignment vars place value own names (gets x word inside rest l p h w c t u) (takes z m r s v o) = absurd (literal_is_no_call m word inside rest s w (o ∙ sym u))
one_assignment vars place value own names (gets x word inside rest l p h w c t u) (gets z other more back m r k y d v o) =
    let b = same_bracketed word other inside more h k (u ∙ sym o) in
    let same = same_variable vars x z own p r (t ∙ sym v) in
    one_call vars z other more own names (subst (λ (n : ℕ). Called vars n other more l) same (subst (λ (i : List ℕ). Called vars x other i l) b.1 (subst (λ (n : List ℕ). Called vars x n inside l) b.0 c))) d

one_word : (vars : List Declared) (word inside : List ℕ) {l m : Line} → HaveOwnNames vars → AreNamed vars → Worded vars word inside l → Worded vars word inside m → l ≡ m
one_word vars word inside own names (turns t) (turns u) = refl
one_word vars word inside own names (turns t) (counts d y k q b v w) = absurd (turn_is_no_count d k q (v ∙ sym t))
one_word vars word inside own names (turns t) (calls other more q r v w) = absurd (no_other_word other (codes "CPyTurn") q refl (v ∙ sym t))
one_word vars word inside own names (counts c x j p a t u) (turns v) = absurd (turn_is_no_count c j p (t ∙ sym v))
one_word vars word inside own names (counts c x j p a t u) (counts d y k q b v w) =
    ap (λ z. count_line z x) (same_count c d j k p q (t ∙ sym v)) ∙ ap (count_line d) (same_variable vars x y own (kind_declared vars x j a) (kind_declared vars y k b) (u ∙ sym w))
one_word vars word inside own names (counts c x j p a t u) (calls other more q r v w) = absurd (no_other_word other (count_word c j) q (count_listed c j p) (v ∙ sym t))
one_word vars word inside own names (calls name args p q t u) (turns v) = absurd (no_other_word name (codes "CPyTurn") p refl (t ∙ sym v))
one_word vars word inside own names (calls name args p q t u) (counts d y k r b v w) = absurd (no_other_word name (count_word d k) p (count_listed d k r) (t ∙ sym v))
one_word vars word inside own names (calls name args p q t u) (calls other more r s v w) =
    ap (λ z. Call None z args) (t ∙ sym v) ∙ ap (Call None other) (same_arguments vars args more own names q s (u ∙ sym w))

-- ---- one statement

same_statement : (vars : List Declared) (l m : Line) → HaveOwnNames vars → AreNamed vars → IsIndented l → IsIndented m → IsTrue (spelled_line vars l) → IsTrue (spelled_line vars m) → statement_text vars l ≡ statement_text vars m → l ≡ m
same_statement vars l m own names i j p q e = split l i p e
  where
    assigned : (l : Line) (x : ℕ) (value : List ℕ) → IsIndented l → IsTrue (spelled_line vars l) → IsTrue (is_declared vars x) → statement_text vars l ≡ assignment_text vars x value → statement_text vars l ≡ statement_text vars m → l ≡ m
    assigned l x value i p d f e =
        one_assignment vars x value own names (is_assignment vars l x value names d i p f) (is_assignment vars m x value names d j q (sym e ∙ f))

    worded : (l : Line) (word inside rest : List ℕ) → IsIndented l → IsTrue (spelled_line vars l) → HasNo 40 word → bracketed word inside ≡ codes "CPy" ++ rest → statement_text vars l ≡ bracketed word inside → statement_text vars l ≡ statement_text vars m → l ≡ m
    worded l word inside rest i p plain begins f e =
        one_word vars word inside own names (is_worded vars l word inside rest i p plain begins f) (is_worded vars m word inside rest j q plain begins (sym e ∙ f))

    counted : (c : Count) (verb : List ℕ) (x : ℕ) → verb ≡ verb_text c → IsIndented (count_line c x) → IsTrue (spelled_line vars (count_line c x)) → IsTrue (is_counted_kind vars (kind_at vars x)) → statement_text vars (count_line c x) ≡ statement_text vars m → count_line c x ≡ m
    counted c verb x v i p h e =
        let k = count_parts vars verb x h in
        let b = count_begins c k.kind in
        worded (count_line c x) (count_word c k.kind) (var_text vars x) (b.0 ++ (codes "(" ++ (var_text vars x ++ codes ")"))) i p (count_plain c k.kind) (ap (λ z. bracketed z (var_text vars x)) b.1) (count_at vars c x k.kind k.counted k.at) e

    tested : (l : Line) (inside branches : List ℕ) → IsIndented l → IsTrue (spelled_line vars l) → HasNo 41 inside → statement_text vars l ≡ test_text inside branches → statement_text vars l ≡ statement_text vars m → l ≡ m
    tested l inside branches i p plain f e =
        one_test vars inside branches own names (is_test vars l inside branches names i p plain f) (is_test vars m inside branches names j q plain (sym e ∙ f))

    split : (l : Line) → IsIndented l → IsTrue (spelled_line vars l) → statement_text vars l ≡ statement_text vars m → l ≡ m
    split Label i p e = absurd i
    split (Move x y) i p e = assigned (Move x y) x (var_text vars y) i p (and_true (is_declared vars x) _ p).0 refl e
    split (Lit x v) i p e = assigned (Lit x v) x (literal_text v) i p (and_true (is_declared vars x) _ p).0 refl e
    split (Call None name args) i p e =
        let c = call_name_parts name (and_true (is_call_name name) _ p).0 in
        worded (Call None name args) name (args_text vars args) (c.rest ++ (codes "(" ++ (args_text vars args ++ codes ")"))) i p (HasNo-call_name 40 name (omega arith) bracket_stops refl (and_true (is_call_name name) _ p).0) (ap (λ z. bracketed z (args_text vars args)) c.whole) refl e
    split (Call (Some x) name args) i p e =
        assigned (Call (Some x) name args) x (call_text vars name args) i p (and_true (is_declared vars x) _ p).0 (append_assoc (var_text vars x) (codes " = ") (call_text vars name args)) e
    split (Virtual x o n args) i p e =
        assigned (Virtual x o n args) x (bracketed (codes "CPyVirtual") (virtual_text vars o n args)) i p (and_true (is_declared vars x) _ p).0 (virtual_is vars x o n args) e
    split (TraitCall x o t n args) i p e =
        assigned (TraitCall x o t n args) x (bracketed (codes "CPyTrait") (for_trait_text vars o t n args)) i p (and_true (is_declared vars x) _ p).0 (for_trait_is vars x o t n args) e
    split (Goto n) i p e = one_jump (decimal n) (is_jump vars (Goto n) (decimal n) i p refl) (is_jump vars m (decimal n) j q (sym e))
    split (If x a b) i p e =
        tested (If x a b) (var_text vars x) (both_text a b) i p (HasNo-variable 41 vars x (omega arith) closing_stops refl names (and_true (is_declared vars x) _ p).0) refl e
    split (IfError x a b) i p e =
        let d = declared_at vars x (and_true (is_declared vars x) _ p).0 in
        let k : kind_at vars x ≡ Some d.var.1 = ap (option_map (λ v. v.1)) d.at in
        tested (IfError x a b) (var_text vars x ++ (codes " == " ++ error_of d.var.1)) (both_text a b) i p (error_front vars x d.var.1 names (and_true (is_declared vars x) _ p).0) (error_test vars x a b d.var.1 k) e
    split Turn i p e = worded Turn (codes "CPyTurn") [] (codes "Turn()") i p refl refl refl e
    split (Return x) i p e = one_return vars (var_text vars x) own (is_return vars (Return x) (var_text vars x) i p refl) (is_return vars m (var_text vars x) j q (sym e))
    split (Inc x) i p e = counted count.Inc (codes "INCREF") x refl i p p e
    split (Dec x) i p e = counted count.Dec (codes "DECREF") x refl i p p e
    split (XDec x) i p e = counted count.XDec (codes "XDECREF") x refl i p p e

same_line : (vars : List Declared) (n : ℕ) (l m : Line) → HaveOwnNames vars → AreNamed vars → IsTrue (spelled_line vars l) → IsTrue (spelled_line vars m) → line_text vars n l ≡ line_text vars n m → l ≡ m
same_line vars n l m own names p q e =
    elim (label_or_statement l) [
      | inl a ↦ elim (label_or_statement m) [
        | inl b ↦ a ∙ sym b
        | inr j ↦ absurd (differ (sym (ap (line_text vars n) a) ∙ e ∙ indented_text vars n m j) refl)
      ]
      | inr i ↦ elim (label_or_statement m) [
        | inl b ↦ absurd (differ (sym (indented_text vars n l i) ∙ e ∙ ap (line_text vars n) b) refl)
        | inr j ↦ same_statement vars l m own names i j p q (inside_same (statement_text vars l) (statement_text vars m) (sym (indented_text vars n l i) ∙ e ∙ indented_text vars n m j))
      ]
    ]

-- ---- the lines of a function

pub same_lines : (vars : List Declared) (n : ℕ) (ls ms : List Line) → HaveOwnNames vars → AreNamed vars → AreSpelled vars ls → AreSpelled vars ms → lines_from vars n ls ++ function_end ∷ [] ≡ lines_from vars n ms ++ function_end ∷ [] → ls ≡ ms
same_lines vars n [] [] own names p q e = refl
same_lines vars n [] (m ∷ ms) own names p q e = absurd (end_not_line vars n m (sym (heads (e ∙ ap (λ t. t ++ function_end ∷ []) (lines_step vars n m ms)))))
same_lines vars n (l ∷ ls) [] own names p q e = absurd (end_not_line vars n l (heads (sym (ap (λ t. t ++ function_end ∷ []) (lines_step vars n l ls)) ∙ e)))
same_lines vars n (l ∷ ls) (m ∷ ms) own names p q e =
    let h = and_true (spelled_line vars l) _ p in
    let k = and_true (spelled_line vars m) _ q in
    let f = sym (ap (λ t. t ++ function_end ∷ []) (lines_step vars n l ls)) ∙ e ∙ ap (λ t. t ++ function_end ∷ []) (lines_step vars n m ms) in
    let same = same_line vars n l m own names h.0 k.0 (heads f) in
    ap (λ z. z ∷ ls) same
    ∙ ap (λ zs. m ∷ zs) (same_lines vars (labels_after n m) ls ms own names h.1 k.1 (ap (λ z. lines_from vars (labels_after n z) ls ++ function_end ∷ []) (sym same) ∙ tails f))
