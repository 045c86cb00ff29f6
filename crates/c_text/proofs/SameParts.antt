-- No two parts of a statement have one text.
use Rattle.std.proofs.Common.{◌≡◌, ◌≢◌, ◌∙◌, ℕ, ℤ, ◌+◌, ◌-◌, ◌*◌, ◌/◌, ◌%◌, ◌<◌, Bool, true, false, cond, List, [], ◌∷◌, ◌++◌, get_or, drop, Some, IsTrue, refl, sym, ap, arith, append_assoc, append-nil}
use Rattle.std.specs.Prelude.{◌||◌, ◌==◌, nat_lt, codes}
use Rattle.std.specs.List.{list_all, flat_map}
use Rattle.std.specs.Fmt.{signed_decimal}
use Rattle.std.proofs.lemmas.Bool.{ltb-true}
use Rattle.std.proofs.lemmas.Bool.Decides.{Decides-eqb}
use Rattle.std.proofs.lemmas.Fmt.{signed_decimal_injective}
use Rattle.std.proofs.lemmas.List.{append_cancel_left}
use Rattle.std.proofs.lemmas.Slice.Eq.{bytes_eq-Decides}
use Rattle.value_core.specs.Arithmetic.{lies_within}
use Rattle.c_core.specs.declared.code.CArg.{CArg}
use Rattle.c_core.specs.declared.code.CArg.TheVariants as arg
use Rattle.c_core.specs.declared.code.CLit.{CLit}
use Rattle.c_core.specs.declared.code.CLit.TheVariants.{Number, Null, PyNone, PyTrue, PyFalse}
use Rattle.c_core.specs.Text.{arg_text, byte_text, comma, literal_text, octal, var_text}
use Rattle.c_core.specs.WellFormed.{Declared, is_declared, spelled_arg, spelled_literal}
use Rattle.c_text.specs.Words.{HasNo, EndsArgument}
use Rattle.c_text.specs.Variables.{has_name}
use Rattle.c_text.specs.Statements.{AreNamed, IsWord, args_text}
use Rattle.c_text.proofs.Bytes.{and_true, differ, not_in, other_byte, same_front}
use Rattle.c_text.proofs.Literals.{is_null, is_none, is_true, is_false}
use Rattle.c_text.proofs.Numbers.{not_number, size_of}
use Rattle.c_text.proofs.ArgumentLemmas.{HasNo-word, argument_is_some, is_class, is_global, is_number, is_quoted, is_variable}
use Rattle.c_text.proofs.VariableLemmas.{HaveOwnNames, declared_at, first_place, named, text_at}

-- ---- texts in quotes

-- the byte that stands first in a text in quotes
first_byte : List ℕ → ℕ
first_byte bytes =
    cond (get_or bytes 0 0 == 92) (cond (get_or bytes 1 0 == 34) 34 (cond (get_or bytes 1 0 == 92) 92 (cond (get_or bytes 1 0 == 110) 10 ((get_or bytes 1 0 - 48) * 64 + (get_or bytes 2 0 - 48) * 8 + (get_or bytes 3 0 - 48))))) (get_or bytes 0 0)

abbrev shown : Bool → Bool → Bool → Bool → ℕ → List ℕ
shown q s n o b = cond q (codes "\\\"") (cond s (codes "\\\\") (cond n (codes "\\n") (cond o (octal b) (b ∷ []))))

is_small : (b : ℕ) → (nat_lt b 32 || (b == 127)) ≡ true → b < 128
is_small b h = split (nat_lt b 32) refl h
  where
    split : (t : Bool) → nat_lt b 32 ≡ t → (t || (b == 127)) ≡ true → b < 128
    split true e k = let l = ltb-true b 32 e in omega (arith, l)
    split false e k = let l = (Decides-eqb b 127).0 k in omega (arith, l)

octal_first : (b : ℕ) (rest : List ℕ) → b < 128 → first_byte (octal b ++ rest) ≡ b
unfolding first_byte
octal_first b rest h =
    ap (λ t. cond t 34 (cond (48 + b / 64 == 92) 92 (cond (48 + b / 64 == 110) 10 value))) (other_byte (48 + b / 64) 34 (λ e. omega (arith, e)))
    ∙ ap (λ t. cond t 92 (cond (48 + b / 64 == 110) 10 value)) (other_byte (48 + b / 64) 92 (λ e. omega (arith, e)))
    ∙ ap (λ t. cond t 10 value) (other_byte (48 + b / 64) 110 (λ e. omega (arith, e)))
    ∙ omega arith
  where
    value : ℕ
    value = (48 + b / 64 - 48) * 64 + (48 + b / 8 % 8 - 48) * 8 + (48 + b % 8 - 48)

byte_first : (b : ℕ) (rest : List ℕ) → first_byte (byte_text b ++ rest) ≡ b
unfolding first_byte
byte_first b rest = split (b == 34) (b == 92) (b == 10) (nat_lt b 32 || (b == 127)) refl refl refl refl
  where
    split : (q s n o : Bool) → (b == 34) ≡ q → (b == 92) ≡ s → (b == 10) ≡ n → (nat_lt b 32 || (b == 127)) ≡ o → first_byte (shown q s n o b ++ rest) ≡ b
    split true s n o e f g h = sym ((Decides-eqb b 34).0 e)
    split false true n o e f g h = sym ((Decides-eqb b 92).0 f)
    split false false true o e f g h = sym ((Decides-eqb b 10).0 g)
    split false false false true e f g h = octal_first b rest (is_small b h)
    split false false false false e f g h =
        ap (λ t. cond t (cond (get_or rest 0 0 == 34) 34 (cond (get_or rest 0 0 == 92) 92 (cond (get_or rest 0 0 == 110) 10 ((get_or rest 0 0 - 48) * 64 + (get_or rest 1 0 - 48) * 8 + (get_or rest 2 0 - 48))))) b) f

byte_is_no_quote : (b : ℕ) (rest r : List ℕ) → byte_text b ++ rest ≢ 34 ∷ r
byte_is_no_quote b rest r e = split (b == 34) (b == 92) (b == 10) (nat_lt b 32 || (b == 127)) refl e
  where
    split : (q s n o : Bool) → (b == 34) ≡ q → shown q s n o b ++ rest ≡ 34 ∷ r → ⊥
    split true s n o h k = differ k refl
    split false true n o h k = differ k refl
    split false false true o h k = differ k refl
    split false false false true h k = differ k refl
    split false false false false h k = let same : b ≡ 34 = ap (λ l. get_or l 0 0) k in let t : false ≡ true = sym h ∙ (Decides-eqb b 34).1 same in cc

same_byte : (b c : ℕ) (r s : List ℕ) → byte_text b ++ r ≡ byte_text c ++ s → (b ≡ c) × (r ≡ s)
same_byte b c r s e =
    let same : b ≡ c = sym (byte_first b r) ∙ ap first_byte e ∙ byte_first c s in
    (same, append_cancel_left (byte_text c) r s (ap (λ x. byte_text x ++ r) (sym same) ∙ e))

pub same_quoted : (t u r s : List ℕ) → flat_map byte_text t ++ 34 ∷ r ≡ flat_map byte_text u ++ 34 ∷ s → (t ≡ u) × (r ≡ s)
same_quoted [] [] r s e = (refl, ap (drop 1) e)
same_quoted [] (c ∷ u) r s e = absurd (byte_is_no_quote c (flat_map byte_text u ++ 34 ∷ s) r (sym (append_assoc (byte_text c) (flat_map byte_text u) (34 ∷ s)) ∙ sym e))
same_quoted (b ∷ t) [] r s e = absurd (byte_is_no_quote b (flat_map byte_text t ++ 34 ∷ r) s (sym (append_assoc (byte_text b) (flat_map byte_text t) (34 ∷ r)) ∙ e))
same_quoted (b ∷ t) (c ∷ u) r s e =
    let first = same_byte b c (flat_map byte_text t ++ 34 ∷ r) (flat_map byte_text u ++ 34 ∷ s)
    (sym (append_assoc (byte_text b) (flat_map byte_text t) (34 ∷ r)) ∙ e ∙ append_assoc (byte_text c) (flat_map byte_text u) (34 ∷ s)) in
    let rest = same_quoted t u r s first.1 in
    (ap (λ x. x ∷ t) first.0 ∙ ap (λ xs. c ∷ xs) rest.0, rest.1)

-- ---- variables and literals

pub same_variable : (vars : List Declared) (x y : ℕ) → HaveOwnNames vars → IsTrue (is_declared vars x) → IsTrue (is_declared vars y) → var_text vars x ≡ var_text vars y → x ≡ y
same_variable vars x y own h k e =
    let d = declared_at vars x h in
    let f = declared_at vars y k in
    let same : d.var.0 ≡ f.var.0 = append_cancel_left (codes "cpy_") d.var.0 f.var.0 (sym (text_at vars x d.var d.at) ∙ e ∙ text_at vars y f.var f.at) in
    let name = f.var.0 in
    let one = first_place (has_name name) name (named name) vars 0 x d.var d.at ((bytes_eq-Decides d.var.0 name).1 same) in
    let two = first_place (has_name name) name (named name) vars 0 y f.var f.at ((bytes_eq-Decides name name).1 refl) in
    let found : Some (0 + one.place) ≡ Some (0 + two.place) = sym one.found ∙ two.found in
    let places : 0 + one.place ≡ 0 + two.place = cc in
    let first : one.place ≡ x = one.only own in
    let second : two.place ≡ y = two.only own in
    omega arith

same_number : (n m : ℤ) → IsTrue (lies_within 63 n) → IsTrue (lies_within 63 m) → signed_decimal n ≡ signed_decimal m → n ≡ m
same_number n m h k e = signed_decimal_injective n m (size_of n h) (size_of m k) e

pub same_literal : (l m : CLit) → IsTrue (spelled_literal l) → IsTrue (spelled_literal m) → literal_text l ≡ literal_text m → l ≡ m
same_literal (Number n) (Number k) h i e = ap Number (same_number n k h i e)
same_literal (Number n) Null h i e = let s = is_null (Number n) h e in cc
same_literal (Number n) PyNone h i e = let s = is_none (Number n) h e in cc
same_literal (Number n) PyTrue h i e = let s = is_true (Number n) h e in cc
same_literal (Number n) PyFalse h i e = let s = is_false (Number n) h e in cc
same_literal Null m h i e = let s = is_null m i (sym e) in cc
same_literal PyNone m h i e = let s = is_none m i (sym e) in cc
same_literal PyTrue m h i e = let s = is_true m i (sym e) in cc
same_literal PyFalse m h i e = let s = is_false m i (sym e) in cc

-- ---- arguments

pub same_ends : (u v r s : List ℕ) → HasNo 44 u → HasNo 44 v → EndsArgument r → EndsArgument s → u ++ r ≡ v ++ s → (u ≡ v) × (r ≡ s)
same_ends u v [] [] p q a b e = (sym (append-nil u) ∙ e ∙ append-nil v, refl)
same_ends u v (c ∷ r) (d ∷ s) p q a b e =
    let front = same_front 44 u v r s p q (ap (λ x. u ++ x ∷ r) (sym a) ∙ e ∙ ap (λ x. v ++ x ∷ s) b) in
    (front.0, ap (λ x. x ∷ r) (a ∙ sym b) ∙ ap (λ xs. d ∷ xs) front.1)
same_ends u v [] (d ∷ s) p q a b e = absurd (not_in 44 u v s p (sym (append-nil u) ∙ e ∙ ap (λ x. v ++ x ∷ s) b))
same_ends u v (c ∷ r) [] p q a b e = absurd (not_in 44 v u r q (sym (append-nil v) ∙ sym e ∙ ap (λ x. u ++ x ∷ r) a))

same_word : (vars : List Declared) (a b : CArg) → HaveOwnNames vars → IsTrue (spelled_arg vars a) → IsTrue (spelled_arg vars b) → IsWord a → IsWord b → arg_text vars a ≡ arg_text vars b → a ≡ b
same_word vars a (arg.Var y) own h k v w e =
    let d = declared_at vars y k in
    let x = is_variable vars a _ d.var.0 h v e (text_at vars y d.var d.at) in
    let spelled : IsTrue (is_declared vars x.0) = ap (spelled_arg vars) (sym x.1) ∙ h in
    x.1 ∙ ap arg.Var (same_variable vars x.0 y own spelled k (ap (arg_text vars) (sym x.1) ∙ e))
same_word vars a (arg.Number m) own h k v w e =
    let n = is_number vars a _ h v e (λ r q. not_number m _ _ k (omega arith) q) (λ r q. not_number m _ _ k (omega arith) q) (λ r q. not_number m _ _ k (omega arith) q) in
    let spelled : IsTrue (lies_within 63 n.0) = ap (spelled_arg vars) (sym n.1) ∙ h in
    n.1 ∙ ap arg.Number (same_number n.0 m spelled k (ap (arg_text vars) (sym n.1) ∙ e))
same_word vars a (arg.Text t) own h k v w e = absurd w
same_word vars a (arg.Global m) own h k v w e = is_global vars a _ m h v e refl
same_word vars a (arg.Class m) own h k v w e = is_class vars a _ m h v e refl

-- an argument is a text or a word
abbrev Sort : CArg → Type 0
Sort a = (t : List ℕ) × (a ≡ arg.Text t)

split_sort : {P : Type 0} (a : CArg) → (Sort a → P) → (IsWord a → P) → P
split_sort (arg.Var x) text word = word tt
split_sort (arg.Number n) text word = word tt
split_sort (arg.Text t) text word = text (t, refl)
split_sort (arg.Global m) text word = word tt
split_sort (arg.Class m) text word = word tt

text_is_no_word : (a : CArg) (t : List ℕ) → a ≡ arg.Text t → IsWord a → ⊥
text_is_no_word (arg.Var x) t e w = cc
text_is_no_word (arg.Number n) t e w = cc
text_is_no_word (arg.Text u) t e w = w
text_is_no_word (arg.Global m) t e w = cc
text_is_no_word (arg.Class m) t e w = cc

quote_first : (vars : List Declared) (a : CArg) (t rest : List ℕ) → a ≡ arg.Text t → arg_text vars a ++ rest ≡ 34 ∷ (flat_map byte_text t ++ 34 ∷ rest)
quote_first vars a t rest e =
    ap (λ x. arg_text vars x ++ rest) e ∙ ap (λ x. 34 ∷ x) (append_assoc (flat_map byte_text t) (34 ∷ []) rest)

pub same_argument : (vars : List Declared) (a b : CArg) (r s : List ℕ) → HaveOwnNames vars → AreNamed vars → IsTrue (spelled_arg vars a) → IsTrue (spelled_arg vars b) → EndsArgument r → EndsArgument s → arg_text vars a ++ r ≡ arg_text vars b ++ s → (a ≡ b) × (r ≡ s)
same_argument vars a b r s own names h k p q e = split_sort b of_text (λ w. split_sort a (λ t. absurd (of_word t w)) (λ v. of_words v w))
  where
    of_text : Sort b → (a ≡ b) × (r ≡ s)
    of_text u =
        let t = is_quoted vars a r _ h (e ∙ quote_first vars b u.0 s u.1) in
        let same = same_quoted t.0 u.0 r s t.2 in
        (t.1 ∙ ap arg.Text same.0 ∙ sym u.1, same.1)

    of_word : Sort a → IsWord b → ⊥
    of_word t w = let u = is_quoted vars b s _ k (sym e ∙ quote_first vars a t.0 r t.1) in text_is_no_word b u.0 u.1 w

    of_words : IsWord a → IsWord b → (a ≡ b) × (r ≡ s)
    of_words v w =
        let ends = same_ends (arg_text vars a) (arg_text vars b) r s (HasNo-word vars a names h v) (HasNo-word vars b names k w) p q e in
        (same_word vars a b own h k v w ends.0, ends.1)

pub same_arguments : (vars : List Declared) (xs ys : List CArg) → HaveOwnNames vars → AreNamed vars → IsTrue (list_all (spelled_arg vars) xs) → IsTrue (list_all (spelled_arg vars) ys) → args_text vars xs ≡ args_text vars ys → xs ≡ ys
same_arguments vars [] [] own names h k e = refl
same_arguments vars [] (b ∷ []) own names h k e = absurd (argument_is_some vars b [] (and_true (spelled_arg vars b) _ k).0 (append-nil (arg_text vars b) ∙ sym e))
same_arguments vars [] (b ∷ c ∷ ys) own names h k e = absurd (argument_is_some vars b (comma ++ args_text vars (c ∷ ys)) (and_true (spelled_arg vars b) _ k).0 (sym e))
same_arguments vars (a ∷ []) [] own names h k e = absurd (argument_is_some vars a [] (and_true (spelled_arg vars a) _ h).0 (append-nil (arg_text vars a) ∙ e))
same_arguments vars (a ∷ c ∷ xs) [] own names h k e = absurd (argument_is_some vars a (comma ++ args_text vars (c ∷ xs)) (and_true (spelled_arg vars a) _ h).0 e)
same_arguments vars (a ∷ []) (b ∷ []) own names h k e =
    ap (λ x. x ∷ []) (same_argument vars a b [] [] own names (and_true (spelled_arg vars a) _ h).0 (and_true (spelled_arg vars b) _ k).0 tt tt (append-nil (arg_text vars a) ∙ e ∙ sym (append-nil (arg_text vars b)))).0
same_arguments vars (a ∷ []) (b ∷ c ∷ ys) own names h k e =
    let same = same_argument vars a b [] (comma ++ args_text vars (c ∷ ys)) own names (and_true (spelled_arg vars a) _ h).0 (and_true (spelled_arg vars b) _ k).0 tt refl (append-nil (arg_text vars a) ∙ e) in
    absurd (differ same.1 refl)
same_arguments vars (a ∷ c ∷ xs) (b ∷ []) own names h k e =
    let same = same_argument vars a b (comma ++ args_text vars (c ∷ xs)) [] own names (and_true (spelled_arg vars a) _ h).0 (and_true (spelled_arg vars b) _ k).0 refl tt (e ∙ sym (append-nil (arg_text vars b))) in
    absurd (differ same.1 refl)
same_arguments vars (a ∷ c ∷ xs) (b ∷ d ∷ ys) own names h k e =
    let one = and_true (spelled_arg vars a) _ h in
    let two = and_true (spelled_arg vars b) _ k in
    let same = same_argument vars a b (comma ++ args_text vars (c ∷ xs)) (comma ++ args_text vars (d ∷ ys)) own names one.0 two.0 refl refl e in
    let rest = same_arguments vars (c ∷ xs) (d ∷ ys) own names one.1 two.1 (append_cancel_left comma _ _ same.1) in
    ap (λ x. x ∷ c ∷ xs) same.0 ∙ ap (λ zs. b ∷ zs) rest
