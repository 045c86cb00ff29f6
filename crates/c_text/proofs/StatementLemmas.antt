-- The words of statements: the names in calls, and those of counts.
use Rattle.std.proofs.Common.{◌≡◌, ◌≢◌, ◌∙◌, ℕ, ◌<◌, suc, zero, Bool, true, false, cond, List, [], ◌∷◌, ◌++◌, Option, Some, None, IsTrue, refl, sym, ap, arith, append_assoc, subst}
use Rattle.std.specs.Prelude.{◌==◌, not, slice_get, codes}
use Rattle.std.specs.List.{list_any}
use Rattle.std.specs.Option.{option_map}
use Rattle.std.specs.Str.{IsAscii, IsUtf8, bytes_eq, is_utf8}
use Rattle.std.proofs.lemmas.Bool.{false≢true}
use Rattle.std.proofs.lemmas.Bool.Decides.{Decides-eqb}
use Rattle.std.proofs.lemmas.Str.{IsUtf8-append, IsUtf8-from_ascii, IsUtf8-from_is_utf8}
use Rattle.unicode_ident.specs.Ident.{is_xid_continue}
use Rattle.c_core.specs.declared.code.CLit.{CLit}
use Rattle.c_core.specs.declared.code.CLit.TheVariants.{Number, Null, PyNone, PyTrue, PyFalse}
use Rattle.c_core.specs.declared.code.Kind.{Kind}
use Rattle.c_core.specs.declared.code.Kind.TheVariants.{Tagged, Int64, Char, Object}
use Rattle.c_core.specs.Functions.{after_prefix}
use Rattle.c_core.specs.Text.{count_text, counter_of, literal_text, statement_text, var_text}
use Rattle.c_core.specs.WellFormed.{Declared, is_call_name, is_identifier, is_counted_kind, kind_at, is_some_and, other_words, spelled_line, spelled_literal}
use Rattle.c_text.specs.declared.count.Count.{Count}
use Rattle.c_text.specs.declared.count.Count.TheVariants.{Inc, Dec, XDec}
use Rattle.c_text.specs.Counts.{IsCounted, count_line, count_word, counter_text, verb_text}
use Rattle.c_text.specs.Words.{HasNo, bracketed}
use Rattle.c_text.specs.Statements.{IsIndented}
use Rattle.c_text.proofs.Bytes.{differ, and_true, HasNo-append, HasNo-identifier}
use Rattle.c_text.proofs.Numbers.{not_number}

-- ---- the name in a call

after_prefix_is : (p name rest : List ℕ) → after_prefix p name ≡ Some rest → name ≡ p ++ rest
after_prefix_is [] name rest e = cc
after_prefix_is (b ∷ p) [] rest e = absurd (cc)
after_prefix_is (b ∷ p) (d ∷ name) rest e = split (after_prefix_is p name rest) (b == d) refl
  where
    split : (after_prefix p name ≡ Some rest → name ≡ p ++ rest) → (t : Bool) → (b == d) ≡ t → d ∷ name ≡ b ∷ (p ++ rest)
    split later true t =
        ap (λ x. x ∷ name) (sym ((Decides-eqb b d).0 t)) ∙ ap (λ xs. b ∷ xs) (later (sym (ap (λ x. cond x (after_prefix p name) None) t) ∙ e))
    split later false t =
        let q : None ≡ Some rest = sym (ap (λ x. cond x (after_prefix p name) None) t) ∙ e in absurd (cc)

pub record IsCallName (name : List ℕ) : Type 0 where
  pub rest : List ℕ
  pub whole : name ≡ codes "CPy" ++ rest
  pub identifier : IsTrue (is_identifier rest)
  pub other : not (list_any (bytes_eq name) other_words) ≡ true

pub call_name_parts : (name : List ℕ) → IsTrue (is_call_name name) → IsCallName name
call_name_parts name h = split (after_prefix (codes "CPy") name) refl
  where
    parts : (is_some_and is_identifier (after_prefix (codes "CPy") name) ≡ true) × (not (list_any (bytes_eq name) other_words) ≡ true)
    parts = and_true (is_some_and is_identifier (after_prefix (codes "CPy") name)) _ h

    split : (o : Option (List ℕ)) → after_prefix (codes "CPy") name ≡ o → IsCallName name
    split None e = absurd (false≢true (sym (ap (is_some_and is_identifier) e) ∙ parts.0))
    split (Some rest) e = record {
      rest = rest;
      whole = after_prefix_is (codes "CPy") name rest e;
      identifier = sym (ap (is_some_and is_identifier) e) ∙ parts.0;
      other = parts.1;
    }

prefix_is_ascii : IsAscii (codes "CPy")
prefix_is_ascii zero = omega arith
prefix_is_ascii (suc zero) = omega arith
prefix_is_ascii (suc (suc zero)) = omega arith
prefix_is_ascii (suc (suc (suc i))) = omega arith

pub not_call_name : (name : List ℕ) → ¬ (IsUtf8 name) → is_call_name name ≡ false
not_call_name name wrong = split (is_call_name name) refl
  where
    split : (t : Bool) → is_call_name name ≡ t → t ≡ false
    split false e = refl
    split true e =
        let p = call_name_parts name e in
        absurd (wrong (subst IsUtf8 (sym p.whole) (IsUtf8-append (codes "CPy") p.rest (IsUtf8-from_ascii (codes "CPy") prefix_is_ascii) (IsUtf8-from_is_utf8 p.rest (and_true (is_utf8 p.rest) _ p.identifier).0))))

pub HasNo-call_name : (stop : ℕ) (name : List ℕ) → stop < 128 → is_xid_continue stop ≡ false → HasNo stop (codes "CPy") → IsTrue (is_call_name name) → HasNo stop name
HasNo-call_name stop name small stops start h =
    let p = call_name_parts name h in
    ap (list_any (λ b. b == stop)) p.whole ∙ HasNo-append stop (codes "CPy") p.rest start (HasNo-identifier stop p.rest small stops p.identifier)

-- none of the words that begin other statements is the name in a call
pub no_other_word : (name word : List ℕ) → IsTrue (is_call_name name) → list_any (bytes_eq word) other_words ≡ true → name ≢ word
no_other_word name word h listed e =
    let p = call_name_parts name h in
    false≢true (sym (ap not listed) ∙ sym (ap (λ n. not (list_any (bytes_eq n) other_words)) e) ∙ p.other)

-- no literal begins as a call or as a variable
pub literal_front : (l : CLit) (rest : List ℕ) → IsTrue (spelled_literal l) → literal_text l ≢ codes "CPy" ++ rest
literal_front (Number n) rest h e = not_number n _ _ h (omega arith) e
literal_front Null rest h e = differ e refl
literal_front PyNone rest h e = differ e refl
literal_front PyTrue rest h e = differ e refl
literal_front PyFalse rest h e = differ e refl

pub literal_not_variable : (l : CLit) (rest : List ℕ) → IsTrue (spelled_literal l) → literal_text l ≢ codes "cpy_" ++ rest
literal_not_variable (Number n) rest h e = not_number n _ _ h (omega arith) e
literal_not_variable Null rest h e = differ e refl
literal_not_variable PyNone rest h e = differ e refl
literal_not_variable PyTrue rest h e = differ e refl
literal_not_variable PyFalse rest h e = differ e refl

-- ---- counts

pub record IsCount (vars : List Declared) (verb : List ℕ) (x : ℕ) : Type 0 where
  pub kind : Kind
  pub counted : IsCounted kind
  pub at : kind_at vars x ≡ Some kind
  pub text : count_text vars verb x ≡ bracketed (counter_text kind ++ verb) (var_text vars x)

pub count_parts : (vars : List Declared) (verb : List ℕ) (x : ℕ) → IsTrue (is_counted_kind vars (kind_at vars x)) → IsCount vars verb x
count_parts vars verb x h = split (slice_get vars x) refl
  where
    rest : List ℕ
    rest = verb ++ (codes "(" ++ (var_text vars x ++ codes ")"))

    split : (o : Option Declared) → slice_get vars x ≡ o → IsCount vars verb x
    split None e = absurd (false≢true (sym (ap (λ o. is_counted_kind vars (option_map (λ v. v.1) o)) e) ∙ h))
    split (Some (n, Tagged)) e = record { kind = Tagged; counted = refl; at = ap (option_map (λ v. v.1)) e; text = ap (λ o. counter_of o ++ rest) e ∙ sym (append_assoc (codes "CPyTagged_") verb (codes "(" ++ (var_text vars x ++ codes ")"))) }
    split (Some (n, Object)) e = record { kind = Object; counted = refl; at = ap (option_map (λ v. v.1)) e; text = ap (λ o. counter_of o ++ rest) e ∙ sym (append_assoc (codes "CPy_") verb (codes "(" ++ (var_text vars x ++ codes ")"))) }
    split (Some (n, Int64)) e = absurd (false≢true (sym (ap (λ o. is_counted_kind vars (option_map (λ v. v.1) o)) e) ∙ h))
    split (Some (n, Char)) e = absurd (false≢true (sym (ap (λ o. is_counted_kind vars (option_map (λ v. v.1) o)) e) ∙ h))

counted_kind : (vars : List Declared) (kind : Kind) → IsCounted kind → is_counted_kind vars (Some kind) ≡ true
counted_kind vars Tagged h = refl
counted_kind vars Object h = refl
counted_kind vars Int64 h = absurd (false≢true h)
counted_kind vars Char h = absurd (false≢true h)

pub count_spelled : (vars : List Declared) (count : Count) (x : ℕ) (kind : Kind) → IsCounted kind → kind_at vars x ≡ Some kind → IsIndented (count_line count x) × IsTrue (spelled_line vars (count_line count x))
count_spelled vars Inc x kind h e = (tt, ap (is_counted_kind vars) e ∙ counted_kind vars kind h)
count_spelled vars Dec x kind h e = (tt, ap (is_counted_kind vars) e ∙ counted_kind vars kind h)
count_spelled vars XDec x kind h e = (tt, ap (is_counted_kind vars) e ∙ counted_kind vars kind h)

-- the text of a count, by the kind of its variable
pub count_at : (vars : List Declared) (count : Count) (x : ℕ) (kind : Kind) → IsCounted kind → kind_at vars x ≡ Some kind → statement_text vars (count_line count x) ≡ bracketed (count_word count kind) (var_text vars x)
count_at vars count x kind h e = by_verb count
  where
    word : (verb : List ℕ) → count_text vars verb x ≡ bracketed (counter_text kind ++ verb) (var_text vars x)
    word verb =
        let c = count_parts vars verb x (ap (is_counted_kind vars) e ∙ counted_kind vars kind h) in
        let same : c.kind ≡ kind = let o : Some c.kind ≡ Some kind = sym c.at ∙ e in cc in
        c.text ∙ ap (λ k. bracketed (counter_text k ++ verb) (var_text vars x)) same

    by_verb : (count : Count) → statement_text vars (count_line count x) ≡ bracketed (count_word count kind) (var_text vars x)
    by_verb Inc = word (codes "INCREF")
    by_verb Dec = word (codes "DECREF")
    by_verb XDec = word (codes "XDECREF")

-- a count's word is no word of another statement
pub count_listed : (count : Count) (kind : Kind) → IsCounted kind → list_any (bytes_eq (count_word count kind)) other_words ≡ true
count_listed Inc Tagged h = refl
count_listed Inc Object h = refl
count_listed Dec Tagged h = refl
count_listed Dec Object h = refl
count_listed XDec Tagged h = refl
count_listed XDec Object h = refl
count_listed count Int64 h = absurd (false≢true h)
count_listed count Char h = absurd (false≢true h)

pub turn_is_no_count : (count : Count) (kind : Kind) → IsCounted kind → count_word count kind ≢ codes "CPyTurn"
turn_is_no_count Inc Tagged h e = differ e refl
turn_is_no_count Inc Object h e = differ e refl
turn_is_no_count Dec Tagged h e = differ e refl
turn_is_no_count Dec Object h e = differ e refl
turn_is_no_count XDec Tagged h e = differ e refl
turn_is_no_count XDec Object h e = differ e refl
turn_is_no_count count Int64 h e = false≢true h
turn_is_no_count count Char h e = false≢true h

-- the bytes with which counts begin stand in no other place of their words
verb_plain : (count : Count) → HasNo 40 (verb_text count) × HasNo 32 (verb_text count)
verb_plain Inc = (refl, refl)
verb_plain Dec = (refl, refl)
verb_plain XDec = (refl, refl)

counter_plain : (kind : Kind) → HasNo 40 (counter_text kind) × HasNo 32 (counter_text kind)
counter_plain Tagged = (refl, refl)
counter_plain Int64 = (refl, refl)
counter_plain Char = (refl, refl)
counter_plain Object = (refl, refl)

pub count_plain : (count : Count) (kind : Kind) → HasNo 40 (count_word count kind)
count_plain count kind = HasNo-append 40 (counter_text kind) (verb_text count) (counter_plain kind).0 (verb_plain count).0

pub count_begins : (count : Count) (kind : Kind) → (r : List ℕ) × (count_word count kind ≡ codes "CPy" ++ r)
count_begins count Tagged = (codes "Tagged_" ++ verb_text count, refl)
count_begins count Int64 = (codes "_" ++ verb_text count, refl)
count_begins count Char = (codes "_" ++ verb_text count, refl)
count_begins count Object = (codes "_" ++ verb_text count, refl)

-- a word of a count means one count
pub same_count : (c d : Count) (k l : Kind) → IsCounted k → IsCounted l → count_word c k ≡ count_word d l → c ≡ d
same_count c d Int64 l h i e = absurd (false≢true h)
same_count c d Char l h i e = absurd (false≢true h)
same_count c d k Int64 h i e = absurd (false≢true i)
same_count c d k Char h i e = absurd (false≢true i)
same_count Inc Inc k l h i e = refl
same_count Dec Dec k l h i e = refl
same_count XDec XDec k l h i e = refl
same_count c d Tagged Tagged h i e = absurd (differ e refl)
same_count c d Tagged Object h i e = absurd (differ e refl)
same_count c d Object Tagged h i e = absurd (differ e refl)
same_count c d Object Object h i e = absurd (differ e refl)

pub same_counter : (c d : Count) (k l : Kind) → IsCounted k → IsCounted l → count_word c k ≡ count_word d l → k ≡ l
same_counter c d Int64 l h i e = absurd (false≢true h)
same_counter c d Char l h i e = absurd (false≢true h)
same_counter c d k Int64 h i e = absurd (false≢true i)
same_counter c d k Char h i e = absurd (false≢true i)
same_counter c d Tagged Tagged h i e = refl
same_counter c d Object Object h i e = refl
same_counter c d Tagged Object h i e = absurd (differ e refl)
same_counter c d Object Tagged h i e = absurd (differ e refl)
