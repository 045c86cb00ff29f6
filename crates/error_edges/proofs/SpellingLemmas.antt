-- Temporary names are spelled, and one that is free differs from those that are there.
use Rattle.std.proofs.Common.{◌≡◌, refl, ◌∙◌, ap, ℕ, arith, Bool, true, false, List, [], ◌∷◌, ◌++◌, map}
use Rattle.std.specs.Prelude.{◌&&◌, ◌||◌, not, codes, decimal}
use Rattle.std.specs.List.{list_all, list_any}
use Rattle.std.specs.Str.{bytes_eq}
use Rattle.std.proofs.lemmas.Bool.{and_from, and_parts, or_from, or_parts, not-true}
use Rattle.std.proofs.lemmas.List.Folds.{list_any-append, list_all-append}
use Rattle.unicode_ident.proofs.Computing.{unicode_ident}
use Rattle.c_core.specs.WellFormed.{Declared as Variable, is_identifier, is_call_name, names_differ}
use Rattle.c_core.proofs.NameLemmas.{bytes_eq-sym}
use Rattle.ir_core.specs.declared.code.RType.{RType}
use Rattle.ir_core.specs.Names.{variable_id}
use Rattle.ir_core.specs.Rows.{Declared}
use Rattle.ir_core.specs.Lower.{variable_of}
use Rattle.ir_core.proofs.SpellingLemmas.{ArePlain, plain_identifier, r_plain, line_plain, decimal_plain}
use Rattle.error_edges.specs.Names.{temporary_name, is_taken, IsFirstFree, IsGrown}

-- ---- temporary names

temporary_spelled : (k : ℕ) → is_identifier (variable_id (temporary_name k)) ≡ true
temporary_spelled k =
    plain_identifier 114 (95 ∷ 114 ∷ decimal k) (r_plain, (line_plain, (r_plain, decimal_plain k)))

-- ---- the question whether an exception is pending

word_plain : ArePlain (codes "Err_Occurred")
unfolding unicode_ident
word_plain =
    ((omega arith, refl), ((omega arith, refl), ((omega arith, refl), (line_plain, ((omega arith, refl), ((omega arith, refl), ((omega arith, refl), ((omega arith, refl), ((omega arith, refl), ((omega arith, refl), ((omega arith, refl), ((omega arith, refl), tt))))))))))))

pub question_spelled : is_call_name (codes "CPyErr_Occurred") ≡ true
question_spelled =
    and_from (is_identifier (codes "Err_Occurred")) true (plain_identifier 69 (114 ∷ 114 ∷ codes "_Occurred") word_plain) refl

-- ---- the variables of a function with one register more

abbrev name_of : Variable → List ℕ
name_of v = v.0

any_taken : (name : List ℕ) (ds : Declared) → list_any (bytes_eq (variable_id name)) (map name_of (map variable_of ds)) ≡ is_taken ds name
any_taken name [] = refl
any_taken name (d ∷ ds) = ap (λ b. bytes_eq name d.0 || b) (any_taken name ds)

differ_more : (ns : List (List ℕ)) (n : List ℕ) → names_differ ns ≡ true → list_any (bytes_eq n) ns ≡ false → names_differ (ns ++ n ∷ []) ≡ true
differ_more [] n e free = refl
differ_more (x ∷ ns) n e free =
    let both = and_parts (not (list_any (bytes_eq x) ns)) (names_differ ns) e in
    let two = or_parts (bytes_eq n x) (list_any (bytes_eq n) ns) free in
    let none : list_any (bytes_eq x) (ns ++ n ∷ []) ≡ false =
    list_any-append (bytes_eq x) ns (n ∷ [])
    ∙ or_from (list_any (bytes_eq x) ns) (bytes_eq x n || false) (not-true (list_any (bytes_eq x) ns) both.0) (or_from (bytes_eq x n) false (bytes_eq-sym x n ∙ two.0) refl) in
    and_from (not (list_any (bytes_eq x) (ns ++ n ∷ []))) (names_differ (ns ++ n ∷ [])) (ap not none) (differ_more ns n both.1 two.1)

pub map_append : {A B : Type 0} (f : A → B) (xs ys : List A) → map f (xs ++ ys) ≡ map f xs ++ map f ys
map_append f [] ys = refl
map_append f (x ∷ xs) ys = ap (λ l. f x ∷ l) (map_append f xs ys)

-- all variables have names that are spelled and differ
pub record AreNamed (ds : Declared) : Type 0 where
  pub spelled : list_all (λ (v : Variable). is_identifier v.0) (map variable_of ds) ≡ true
  pub differ : names_differ (map name_of (map variable_of ds)) ≡ true

pub grown_named : (needed : Bool) (t : RType) (old new : Declared) → IsGrown needed t old new → AreNamed old → AreNamed new
grown_named false t old new h named = rw h named
grown_named true t old new h named =
    let name : List ℕ = h.0 in
    let free : IsFirstFree old name = h.1 in
    let one : Declared = (name, t) ∷ [] in
    let vars : List Variable = map variable_of old in
    let all : map variable_of (old ++ one) ≡ vars ++ variable_of (name, t) ∷ [] = map_append variable_of old one in
    let spelled : is_identifier (variable_id name) ≡ true = ap (λ n. is_identifier (variable_id n)) free.is ∙ temporary_spelled free.number in
    rw (h.2)
    (record {
      spelled =
          ap (list_all (λ (v : Variable). is_identifier v.0)) all
          ∙ (list_all-append (λ (v : Variable). is_identifier v.0) vars (variable_of (name, t) ∷ [])
          ∙ and_from (list_all (λ (v : Variable). is_identifier v.0) vars) (is_identifier (variable_id name) && true) named.spelled (and_from (is_identifier (variable_id name)) true spelled refl));
      differ =
          ap (λ vs. names_differ (map name_of vs)) all
          ∙ (ap names_differ (map_append name_of vars (variable_of (name, t) ∷ [])) ∙ differ_more (map name_of vars) (variable_id name) named.differ (any_taken name old ∙ free.free));
    })
