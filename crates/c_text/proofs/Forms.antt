-- Which statement a text is: by how it begins, and then by what stands in it.
use Rattle.std.proofs.Common.{◌≡◌, ◌≢◌, ◌∙◌, ℕ, false, List, [], ◌++◌, Some, None, IsTrue, refl, sym, ap, arith, append_assoc}
use Rattle.std.specs.Prelude.{slice_get, codes}
use Rattle.std.specs.List.{list_all}
use Rattle.std.specs.Fmt.{decimal}
use Rattle.std.specs.Option.{option_map}
use Rattle.std.specs.Str.{bytes_eq}
use Rattle.std.proofs.lemmas.List.{append_cancel_left}
use Rattle.c_core.specs.declared.code.CArg.{CArg}
use Rattle.c_core.specs.declared.code.CLit.{CLit}
use Rattle.c_core.specs.declared.code.Kind.{Kind}
use Rattle.c_core.specs.declared.code.Kind.TheVariants.{Tagged, Int64, Char, Object}
use Rattle.c_core.specs.declared.code.Line.{Line}
use Rattle.c_core.specs.declared.code.Line.TheVariants.{Label, Move, Lit, Call, Virtual, TraitCall, Goto, If, IfError, Turn, Return, Inc, Dec, XDec}
use Rattle.c_core.specs.Text.{branches_text, count_text, error_text, literal_text, statement_text, var_text}
use Rattle.c_core.specs.WellFormed.{Declared, spelled_label, is_call_name, is_declared, is_identifier, kind_at, spelled_arg, spelled_line, spelled_literal}
use Rattle.c_text.specs.declared.count.Count.{Count}
use Rattle.c_text.specs.declared.count.Count.TheVariants as count
use Rattle.c_text.specs.Counts.{IsCounted, count_line, count_word, counter_text}
use Rattle.c_text.specs.Methods.{for_trait_text, virtual_text}
use Rattle.c_text.specs.Words.{HasNo, IsCut, bracketed}
use Rattle.c_text.specs.Statements.{AreNamed, IsIndented, args_text, assignment_text, both_text, call_text, error_of, test_text}
use Rattle.c_text.proofs.Bytes.{and_true, closing_stops, differ, bracket_stops, same_bracketed, same_front, space_stops, HasNo-append}
use Rattle.c_text.proofs.ArgumentLemmas.{HasNo-variable}
use Rattle.c_text.proofs.MethodTexts.{for_trait_is, virtual_is}
use Rattle.c_text.proofs.Numbers.{HasNo-decimal}
use Rattle.c_text.proofs.StatementLemmas.{HasNo-call_name, IsCount, call_name_parts, count_begins, count_parts, count_plain}
use Rattle.c_text.proofs.VariableLemmas.{declared_at, kind_is, text_at}

-- ---- how a statement begins

abbrev pub opening : Line → List ℕ
opening Label = []
opening (Move x y) = codes "cpy_"
opening (Lit x l) = codes "cpy_"
opening (Call None name args) = codes "CPy"
opening (Call (Some x) name args) = codes "cpy_"
opening (Virtual x o n args) = codes "cpy_"
opening (TraitCall x o t n args) = codes "cpy_"
opening (Goto n) = codes "goto CPyL"
opening (If x a b) = codes "if ("
opening (IfError x a b) = codes "if ("
opening Turn = codes "CPy"
opening (Return x) = codes "return "
opening (Inc x) = codes "CPy"
opening (Dec x) = codes "CPy"
opening (XDec x) = codes "CPy"

pub record Opens (vars : List Declared) (l : Line) : Type 0 where
  pub rest : List ℕ
  pub text : statement_text vars l ≡ opening l ++ rest

pub assignment_opens : (vars : List Declared) (x : ℕ) (value : List ℕ) → IsTrue (is_declared vars x) → (r : List ℕ) × (assignment_text vars x value ≡ codes "cpy_" ++ r)
assignment_opens vars x value h = let d = declared_at vars x h in (d.var.0 ++ (codes " = " ++ value), ap (λ t. t ++ (codes " = " ++ value)) (text_at vars x d.var d.at))

call_opens : (vars : List Declared) (name : List ℕ) (args : List CArg) → IsTrue (is_call_name name) → (r : List ℕ) × (call_text vars name args ≡ codes "CPy" ++ r)
call_opens vars name args h =
    let p = call_name_parts name h in (p.rest ++ (codes "(" ++ (args_text vars args ++ codes ")")), ap (λ n. bracketed n (args_text vars args)) p.whole)

pub opens : (vars : List Declared) (l : Line) → IsTrue (spelled_line vars l) → Opens vars l
opens vars Label h = record { rest = []; text = refl }
opens vars (Move x y) h = let o = assignment_opens vars x (var_text vars y) (and_true (is_declared vars x) _ h).0 in record { rest = o.0; text = o.1 }
opens vars (Lit x l) h = let o = assignment_opens vars x (literal_text l) (and_true (is_declared vars x) _ h).0 in record { rest = o.0; text = o.1 }
opens vars (Call None name args) h = let o = call_opens vars name args (and_true (is_call_name name) _ h).0 in record { rest = o.0; text = o.1 }
opens vars (Call (Some x) name args) h =
    let o = assignment_opens vars x (call_text vars name args) (and_true (is_declared vars x) _ h).0 in
    record { rest = o.0; text = append_assoc (var_text vars x) (codes " = ") (call_text vars name args) ∙ o.1 }
opens vars (Virtual x o n args) h =
    let p = assignment_opens vars x (bracketed (codes "CPyVirtual") (virtual_text vars o n args)) (and_true (is_declared vars x) _ h).0 in
    record { rest = p.0; text = virtual_is vars x o n args ∙ p.1 }
opens vars (TraitCall x o t n args) h =
    let p = assignment_opens vars x (bracketed (codes "CPyTrait") (for_trait_text vars o t n args)) (and_true (is_declared vars x) _ h).0 in
    record { rest = p.0; text = for_trait_is vars x o t n args ∙ p.1 }
opens vars (Goto n) h = record { rest = decimal n; text = refl }
opens vars (If x a b) h = record { rest = var_text vars x ++ branches_text a b; text = refl }
opens vars (IfError x a b) h = record { rest = _; text = refl }
opens vars Turn h = record { rest = codes "Turn()"; text = refl }
opens vars (Return x) h = record { rest = var_text vars x; text = refl }
opens vars (Inc x) h = let c = count_parts vars (codes "INCREF") x h in let o = count_begins count.Inc c.kind in record { rest = o.0 ++ (codes "(" ++ (var_text vars x ++ codes ")")); text = c.text ∙ ap (λ t. bracketed t (var_text vars x)) o.1 }
opens vars (Dec x) h = let c = count_parts vars (codes "DECREF") x h in let o = count_begins count.Dec c.kind in record { rest = o.0 ++ (codes "(" ++ (var_text vars x ++ codes ")")); text = c.text ∙ ap (λ t. bracketed t (var_text vars x)) o.1 }
opens vars (XDec x) h = let c = count_parts vars (codes "XDECREF") x h in let o = count_begins count.XDec c.kind in record { rest = o.0 ++ (codes "(" ++ (var_text vars x ++ codes ")")); text = c.text ∙ ap (λ t. bracketed t (var_text vars x)) o.1 }

-- a statement that begins otherwise has another text
pub apart : (vars : List Declared) (l : Line) (h : IsTrue (spelled_line vars l)) (text : List ℕ) → statement_text vars l ≡ text → bytes_eq (opening l ++ (opens vars l h).rest) text ≡ false → ⊥
apart vars l h text e other = differ (sym (opens vars l h).text ∙ e) other

-- ---- returns

pub data Returned (vars : List Declared) (word : List ℕ) : Line → Type 0 where
  returns : (x : ℕ) → IsTrue (is_declared vars x) → var_text vars x ≡ word → Returned vars word (Return x)

pub is_return : (vars : List Declared) (l : Line) (word : List ℕ) → IsIndented l → IsTrue (spelled_line vars l) → statement_text vars l ≡ codes "return " ++ word → Returned vars word l
is_return vars Label word i h e = absurd i
is_return vars (Return x) word i h e = returns x h (append_cancel_left (codes "return ") (var_text vars x) word e)
is_return vars (Call None name args) word i h e = absurd (apart vars (Call None name args) h _ e refl)
is_return vars (Call (Some x) name args) word i h e = absurd (apart vars (Call (Some x) name args) h _ e refl)
is_return vars l word i h e = absurd (apart vars l h (codes "return " ++ word) e refl)

-- ---- jumps

pub data Jumping (digits : List ℕ) : Line → Type 0 where
  jumps : (n : ℕ) → IsTrue (spelled_label n) → decimal n ≡ digits → Jumping digits (Goto n)

pub is_jump : (vars : List Declared) (l : Line) (digits : List ℕ) → IsIndented l → IsTrue (spelled_line vars l) → statement_text vars l ≡ codes "goto CPyL" ++ digits → Jumping digits l
is_jump vars Label digits i h e = absurd i
is_jump vars (Goto n) digits i h e = jumps n h (append_cancel_left (codes "goto CPyL") (decimal n) digits e)
is_jump vars (Call None name args) digits i h e = absurd (apart vars (Call None name args) h _ e refl)
is_jump vars (Call (Some x) name args) digits i h e = absurd (apart vars (Call (Some x) name args) h _ e refl)
is_jump vars l digits i h e = absurd (apart vars l h (codes "goto CPyL" ++ digits) e refl)

-- ---- tests

pub data Tested (vars : List Declared) (inside branches : List ℕ) : Line → Type 0 where
  tests : (x a b : ℕ) → IsTrue (is_declared vars x) → IsTrue (spelled_label a) → IsTrue (spelled_label b) → var_text vars x ≡ inside → both_text a b ≡ branches → Tested vars inside branches (If x a b)
  tests_error : (x a b : ℕ) (kind : Kind) → kind_at vars x ≡ Some kind → IsTrue (spelled_label a) → IsTrue (spelled_label b) → var_text vars x ++ (codes " == " ++ error_of kind) ≡ inside → both_text a b ≡ branches → Tested vars inside branches (IfError x a b)

error_plain : (kind : Kind) → HasNo 41 (error_of kind)
error_plain Tagged = refl
error_plain Int64 = refl
error_plain Char = refl
error_plain Object = refl

-- the error value that a text names goes by the variable's kind
pub error_is : (vars : List Declared) (x : ℕ) (kind : Kind) → kind_at vars x ≡ Some kind → error_text (slice_get vars x) ≡ error_of kind
error_is vars x kind e = let d = kind_is (slice_get vars x) kind e in ap error_text d.1 ∙ by_kind d.0.1 ∙ ap error_of d.2
  where
    name : List ℕ
    name = (kind_is (slice_get vars x) kind e).0.0

    by_kind : (k : Kind) → error_text (Some (name, k)) ≡ error_of k
    by_kind Tagged = refl
    by_kind Int64 = refl
    by_kind Char = refl
    by_kind Object = refl

pub error_test : (vars : List Declared) (x a b : ℕ) (kind : Kind) → kind_at vars x ≡ Some kind → statement_text vars (IfError x a b) ≡ test_text (var_text vars x ++ (codes " == " ++ error_of kind)) (both_text a b)
error_test vars x a b kind e =
    ap (λ t. codes "if (" ++ (var_text vars x ++ (codes " == " ++ (t ++ branches_text a b)))) (error_is vars x kind e)
    ∙ ap (λ t. codes "if (" ++ t) (sym (append_assoc (var_text vars x) (codes " == " ++ error_of kind) (branches_text a b)))

pub both_parts : (text rest first behind : List ℕ) (a b : ℕ) → text ≡ codes " goto CPyL" ++ rest → IsCut 59 first behind rest → IsTrue (spelled_label a) → both_text a b ≡ text → (decimal a ≡ first) × (codes " else goto CPyL" ++ decimal b ≡ behind)
both_parts text rest first behind a b t cut h e =
    same_front 59 (decimal a) first (codes " else goto CPyL" ++ decimal b) behind (HasNo-decimal 59 a (λ r. omega (arith, r.1))) cut.plain (append_cancel_left (codes " goto CPyL") (decimal a ++ (codes "; else goto CPyL" ++ decimal b)) rest (e ∙ t) ∙ sym cut.whole)

pub error_front : (vars : List Declared) (x : ℕ) (kind : Kind) → AreNamed vars → IsTrue (is_declared vars x) → HasNo 41 (var_text vars x ++ (codes " == " ++ error_of kind))
error_front vars x kind n h =
    HasNo-append 41 (var_text vars x) (codes " == " ++ error_of kind) (HasNo-variable 41 vars x (omega arith) closing_stops refl n h) (HasNo-append 41 (codes " == ") (error_of kind) refl (error_plain kind))

pub is_test : (vars : List Declared) (l : Line) (inside branches : List ℕ) → AreNamed vars → IsIndented l → IsTrue (spelled_line vars l) → HasNo 41 inside → statement_text vars l ≡ test_text inside branches → Tested vars inside branches l
is_test vars Label inside branches n i h plain e = absurd i
is_test vars (If x a b) inside branches n i h plain e =
    let p = and_true (is_declared vars x) _ h in
    let q = and_true (spelled_label a) _ p.1 in
    let s = same_front 41 (var_text vars x) inside (both_text a b) branches (HasNo-variable 41 vars x (omega arith) closing_stops refl n p.0) plain (append_cancel_left (codes "if (") _ _ e) in
    tests x a b p.0 q.0 q.1 s.0 s.1
is_test vars (IfError x a b) inside branches n i h plain e =
    let p = and_true (is_declared vars x) _ h in
    let q = and_true (spelled_label a) _ p.1 in
    let d = declared_at vars x p.0 in
    let k : kind_at vars x ≡ Some d.var.1 = ap (option_map (λ v. v.1)) d.at in
    let s = same_front 41 (var_text vars x ++ (codes " == " ++ error_of d.var.1)) inside (both_text a b) branches (error_front vars x d.var.1 n p.0) plain (append_cancel_left (codes "if (") _ _ (sym (error_test vars x a b d.var.1 k) ∙ e)) in
    tests_error x a b d.var.1 k q.0 q.1 s.0 s.1
is_test vars (Call None name args) inside branches n i h plain e = absurd (apart vars (Call None name args) h _ e refl)
is_test vars (Call (Some x) name args) inside branches n i h plain e = absurd (apart vars (Call (Some x) name args) h _ e refl)
is_test vars l inside branches n i h plain e = absurd (apart vars l h (test_text inside branches) e refl)

-- ---- assignments

-- the calls whose answer is assigned, by their words and what stands between their brackets
pub data Called (vars : List Declared) (x : ℕ) (word inside : List ℕ) : Line → Type 0 where
  by_name : (name : List ℕ) (args : List CArg) → IsTrue (is_call_name name) → IsTrue (list_all (spelled_arg vars) args) → name ≡ word → args_text vars args ≡ inside → Called vars x word inside (Call (Some x) name args)
  by_class : (o n : ℕ) (args : List ℕ) → IsTrue (is_declared vars o) → IsTrue (spelled_label n) → IsTrue (list_all (is_declared vars) args) → codes "CPyVirtual" ≡ word → virtual_text vars o n args ≡ inside → Called vars x word inside (Virtual x o n args)
  by_trait : (o : ℕ) (t : List ℕ) (n : ℕ) (args : List ℕ) → IsTrue (is_declared vars o) → IsTrue (is_identifier t) → IsTrue (spelled_label n) → IsTrue (list_all (is_declared vars) args) → codes "CPyTrait" ≡ word → for_trait_text vars o t n args ≡ inside → Called vars x word inside (TraitCall x o t n args)

pub data Assigned (vars : List Declared) (place : ℕ) (value : List ℕ) : Line → Type 0 where
  moves : (x y : ℕ) → IsTrue (is_declared vars x) → IsTrue (is_declared vars y) → var_text vars x ≡ var_text vars place → var_text vars y ≡ value → Assigned vars place value (Move x y)
  takes : (x : ℕ) (l : CLit) → IsTrue (is_declared vars x) → IsTrue (spelled_literal l) → var_text vars x ≡ var_text vars place → literal_text l ≡ value → Assigned vars place value (Lit x l)
  gets : (x : ℕ) (word inside rest : List ℕ) (l : Line) → IsTrue (is_declared vars x) → HasNo 40 word → word ≡ codes "CPy" ++ rest → Called vars x word inside l → var_text vars x ≡ var_text vars place → bracketed word inside ≡ value → Assigned vars place value l

same_target : (vars : List Declared) (x y : ℕ) (v w : List ℕ) → AreNamed vars → IsTrue (is_declared vars x) → IsTrue (is_declared vars y) → assignment_text vars x v ≡ assignment_text vars y w → (var_text vars x ≡ var_text vars y) × (v ≡ w)
same_target vars x y v w names h k e =
    let s = same_front 32 (var_text vars x) (var_text vars y) (codes "= " ++ v) (codes "= " ++ w) (HasNo-variable 32 vars x (omega arith) space_stops refl names h) (HasNo-variable 32 vars y (omega arith) space_stops refl names k) e in
    (s.0, append_cancel_left (codes "= ") v w s.1)

pub is_assignment : (vars : List Declared) (l : Line) (place : ℕ) (value : List ℕ) → AreNamed vars → IsTrue (is_declared vars place) → IsIndented l → IsTrue (spelled_line vars l) → statement_text vars l ≡ assignment_text vars place value → Assigned vars place value l
is_assignment vars l place value n d i h e = split l i h e
  where
    front : (r : List ℕ) × (assignment_text vars place value ≡ codes "cpy_" ++ r)
    front = assignment_opens vars place value d

    split : (l : Line) → IsIndented l → IsTrue (spelled_line vars l) → statement_text vars l ≡ assignment_text vars place value → Assigned vars place value l
    split Label i h e = absurd i
    split (Move x y) i h e =
        let p = and_true (is_declared vars x) _ h in
        let t = same_target vars x place _ _ n p.0 d e in
        moves x y p.0 p.1 t.0 t.1
    split (Lit x l) i h e =
        let p = and_true (is_declared vars x) _ h in
        let t = same_target vars x place _ _ n p.0 d e in
        takes x l p.0 p.1 t.0 t.1
    split (Call (Some x) name args) i h e =
        let p = and_true (is_declared vars x) _ h in
        let q = and_true (is_call_name name) _ p.1 in
        let t = same_target vars x place (call_text vars name args) value n p.0 d (sym (append_assoc (var_text vars x) (codes " = ") (call_text vars name args)) ∙ e) in
        let c = call_name_parts name q.0 in
        gets x name (args_text vars args) c.rest (Call (Some x) name args) p.0 (HasNo-call_name 40 name (omega arith) bracket_stops refl q.0) c.whole (by_name name args q.0 q.1 refl refl) t.0 t.1
    split (Virtual x o m args) i h e =
        let p = and_true (is_declared vars x) _ h in
        let q = and_true (is_declared vars o) _ p.1 in
        let r = and_true (spelled_label m) _ q.1 in
        let t = same_target vars x place (bracketed (codes "CPyVirtual") (virtual_text vars o m args)) value n p.0 d (sym (virtual_is vars x o m args) ∙ e) in
        gets x (codes "CPyVirtual") (virtual_text vars o m args) (codes "Virtual") (Virtual x o m args) p.0 refl refl (by_class o m args q.0 r.0 r.1 refl refl) t.0 t.1
    split (TraitCall x o t m args) i h e =
        let p = and_true (is_declared vars x) _ h in
        let q = and_true (is_declared vars o) _ p.1 in
        let r = and_true (is_identifier t) _ q.1 in
        let s = and_true (spelled_label m) _ r.1 in
        let u = same_target vars x place (bracketed (codes "CPyTrait") (for_trait_text vars o t m args)) value n p.0 d (sym (for_trait_is vars x o t m args) ∙ e) in
        gets x (codes "CPyTrait") (for_trait_text vars o t m args) (codes "Trait") (TraitCall x o t m args) p.0 refl refl (by_trait o t m args q.0 r.0 s.0 s.1 refl refl) u.0 u.1
    split (Call None name args) i h e = absurd (apart vars (Call None name args) h _ (e ∙ front.1) refl)
    split m i h e = absurd (apart vars m h (codes "cpy_" ++ front.0) (e ∙ front.1) refl)

-- ---- turns, counts and calls without a target

pub data Worded (vars : List Declared) (word inside : List ℕ) : Line → Type 0 where
  turns : codes "CPyTurn" ≡ word → Worded vars word inside Turn
  counts : (c : Count) (x : ℕ) (kind : Kind) → IsCounted kind → kind_at vars x ≡ Some kind → count_word c kind ≡ word → var_text vars x ≡ inside → Worded vars word inside (count_line c x)
  calls : (name : List ℕ) (args : List CArg) → IsTrue (is_call_name name) → IsTrue (list_all (spelled_arg vars) args) → name ≡ word → args_text vars args ≡ inside → Worded vars word inside (Call None name args)

pub is_worded : (vars : List Declared) (l : Line) (word inside rest : List ℕ) → IsIndented l → IsTrue (spelled_line vars l) → HasNo 40 word → bracketed word inside ≡ codes "CPy" ++ rest → statement_text vars l ≡ bracketed word inside → Worded vars word inside l
is_worded vars l word inside rest i h plain begins e = split l i h e
  where
    counted : (c : Count) (verb : List ℕ) (x : ℕ) → (k : IsCount vars verb x) → count_word c k.kind ≡ counter_text k.kind ++ verb → count_text vars verb x ≡ bracketed word inside → Worded vars word inside (count_line c x)
    counted c verb x k w e =
        let s = same_bracketed (count_word c k.kind) word (var_text vars x) inside (count_plain c k.kind) plain (ap (λ t. bracketed t (var_text vars x)) w ∙ sym k.text ∙ e) in
        counts c x k.kind k.counted k.at s.0 s.1

    split : (l : Line) → IsIndented l → IsTrue (spelled_line vars l) → statement_text vars l ≡ bracketed word inside → Worded vars word inside l
    split Label i h e = absurd i
    split Turn i h e = turns (same_bracketed (codes "CPyTurn") word [] inside refl plain e).0
    split (Inc x) i h e = counted count.Inc (codes "INCREF") x (count_parts vars (codes "INCREF") x h) refl e
    split (Dec x) i h e = counted count.Dec (codes "DECREF") x (count_parts vars (codes "DECREF") x h) refl e
    split (XDec x) i h e = counted count.XDec (codes "XDECREF") x (count_parts vars (codes "XDECREF") x h) refl e
    split (Call None name args) i h e =
        let p = and_true (is_call_name name) _ h in
        let s = same_bracketed name word (args_text vars args) inside (HasNo-call_name 40 name (omega arith) bracket_stops refl p.0) plain e in
        calls name args p.0 p.1 s.0 s.1
    split (Call (Some x) name args) i h e = absurd (apart vars (Call (Some x) name args) h _ (e ∙ begins) refl)
    split m i h e = absurd (apart vars m h (codes "CPy" ++ rest) (e ∙ begins) refl)

-- ---- none of these

pub is_none : (vars : List Declared) (l : Line) (text : List ℕ) → IsIndented l → IsTrue (spelled_line vars l) → statement_text vars l ≡ text → ((r : List ℕ) → text ≢ codes "cpy_" ++ r) → ((r : List ℕ) → text ≢ codes "CPy" ++ r) → ((r : List ℕ) → text ≢ codes "goto CPyL" ++ r) → ((r : List ℕ) → text ≢ codes "if (" ++ r) → ((r : List ℕ) → text ≢ codes "return " ++ r) → ⊥
is_none vars l text i h e v w g t r = split l i (opens vars l h).rest (sym e ∙ (opens vars l h).text)
  where
    split : (l : Line) → IsIndented l → (rest : List ℕ) → text ≡ opening l ++ rest → ⊥
    split Label i rest f = i
    split (Move x y) i rest f = v rest f
    split (Lit x l) i rest f = v rest f
    split (Call None name args) i rest f = w rest f
    split (Call (Some x) name args) i rest f = v rest f
    split (Virtual x o n args) i rest f = v rest f
    split (TraitCall x o t n args) i rest f = v rest f
    split (Goto n) i rest f = g rest f
    split (If x a b) i rest f = t rest f
    split (IfError x a b) i rest f = t rest f
    split Turn i rest f = w rest f
    split (Return x) i rest f = r rest f
    split (Inc x) i rest f = w rest f
    split (Dec x) i rest f = w rest f
    split (XDec x) i rest f = w rest f
