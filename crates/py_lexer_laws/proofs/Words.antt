-- A name is made of characters that may continue an identifier.
use Rattle.std.proofs.Common.{◌≡◌, ◌<◌, ◌≤◌, ℕ, Bool, true, false, ◌&&◌, ◌||◌, List, [], ◌∷◌, cond, ◌⊎◌, inl, inr, refl, ap, sym, subst, ◌∙◌, arith, leb-true, ltb-true, lt-ltb, le-leb, chars, bytes_eq, encode_utf8_all}
use Rattle.std.specs.Prelude.{nat_lt, nat_le}
use Rattle.std.specs.Str.{byte}
use Rattle.std.specs.List.{list_all, AllByRecursion}
use lib.Utf8.{scalar, scalars, low_scalar}
use Rattle.std.proofs.lemmas.Bool.{and_parts, and_from, or_cases}
use Rattle.std.proofs.lemmas.Str.{chars-encodes, chars-nil, is_utf8-from_IsUtf8}
use Rattle.std.proofs.lemmas.Slice.Eq.{bytes_eq-Decides}
use Rattle.ucd_table.specs.Rows.{Range, in_ranges}
use Rattle.ucd_derived.specs.XidContinueRanges.{xid_continue_ranges}
use Rattle.unicode_ident.specs.Ident.{is_xid_start, is_xid_continue}
use Rattle.unicode_ident.proofs.IdentLemmas.{is_xid_start-is_xid_continue, is_xid_continue-ascii}
use Rattle.unicode_normalization.specs.Forms.{nfkc}
use Rattle.py_lexer.specs.Spelling.{IsIdentifier, IsName}
use Rattle.py_lexer_laws.specs.Laws.{IsWord}

-- ---- what may continue an identifier is a character

abbrev is_of_characters : Range → Bool
is_of_characters r = nat_lt r.1 0xD800 || (nat_le 0xE000 r.0 && nat_lt r.1 0x110000)

rows_of_characters : list_all is_of_characters xid_continue_ranges ≡ true
unfolding xid_continue_ranges
rows_of_characters = refl

past : (x y z : Bool) → y ≡ true → z ≡ true → cond x true (y && z) ≡ true
past true y z h k = refl
past false y z h k = and_from y z h k

pub scalar_if : (c : ℕ) → ((c < 0xD800) ⊎ ((0xE000 ≤ c) × (c < 0x110000))) → scalar c ≡ true
scalar_if c (inl h) = low_scalar c h
scalar_if c (inr h) = past (nat_lt c 0xD800) (nat_le 0xE000 c) (nat_lt c 0x110000) (le-leb 0xE000 c h.0) (lt-ltb c 0x110000 h.1)

row_cases : (a b c : ℕ) → (b < 0xD800) ⊎ ((0xE000 ≤ a) × (b < 0x110000)) → a ≤ c → c ≤ b → (c < 0xD800) ⊎ ((0xE000 ≤ c) × (c < 0x110000))
row_cases a b c (inl h) p q = inl (omega arith)
row_cases a b c (inr h) p q = let k = h.0 in let l = h.1 in inr (omega arith, omega arith)

row_test : (a b : ℕ) → is_of_characters (a, b) ≡ true → (b < 0xD800) ⊎ ((0xE000 ≤ a) × (b < 0x110000))
row_test a b h = elim (or_cases (nat_lt b 0xD800) (nat_le 0xE000 a && nat_lt b 0x110000) h) [
  | inl p ↦ inl (ltb-true b 0xD800 p)
  | inr p ↦ (let q = and_parts (nat_le 0xE000 a) (nat_lt b 0x110000) p in inr (leb-true 0xE000 a q.0, ltb-true b 0x110000 q.1))
]

in_row : (c : ℕ) (r : Range) → is_of_characters r ≡ true → (nat_le r.0 c && nat_le c r.1) ≡ true → scalar c ≡ true
in_row c r h k =
    let p = and_parts (nat_le r.0 c) (nat_le c r.1) k in scalar_if c (row_cases r.0 r.1 c (row_test r.0 r.1 h) (leb-true r.0 c p.0) (leb-true c r.1 p.1))

in_rows : (rs : List Range) (c : ℕ) → list_all is_of_characters rs ≡ true → in_ranges rs c ≡ true → scalar c ≡ true
unfolding in_ranges
in_rows [] c h k = absurd (cc)
in_rows (r ∷ rs) c h k =
    let p = and_parts (is_of_characters r) (list_all is_of_characters rs) h in
    elim (or_cases (nat_le r.0 c && nat_le c r.1) (in_ranges rs c) k) [ inl q ↦ in_row c r p.0 q | inr q ↦ in_rows rs c p.1 q ]

continue_scalar : (c : ℕ) → is_xid_continue c ≡ true → scalar c ≡ true
unfolding is_xid_continue
continue_scalar c h = in_rows xid_continue_ranges c rows_of_characters h

-- ---- identifiers

begins : (c : ℕ) → (c ≡ byte "_") ⊎ (is_xid_start c ≡ true) → is_xid_continue c ≡ true
begins c (inl e) = subst (λ x. is_xid_continue x ≡ true) (sym e) (is_xid_continue-ascii 95 (omega arith))
begins c (inr h) = is_xid_start-is_xid_continue c h

goes_on : (cs : List ℕ) → AllByRecursion (λ d. is_xid_continue d ≡ true) cs → list_all is_xid_continue cs ≡ true
goes_on [] h = refl
goes_on (c ∷ cs) h = and_from (is_xid_continue c) (list_all is_xid_continue cs) h.0 (goes_on cs h.1)

identifier_continues : (cs : List ℕ) → IsIdentifier cs → list_all is_xid_continue cs ≡ true
identifier_continues [] h = absurd h
identifier_continues (c ∷ cs) h = and_from (is_xid_continue c) (list_all is_xid_continue cs) (begins c h.0) (goes_on cs h.1)

continue_scalars : (cs : List ℕ) → list_all is_xid_continue cs ≡ true → scalars cs ≡ true
continue_scalars [] h = refl
continue_scalars (c ∷ cs) h =
    let p = and_parts (is_xid_continue c) (list_all is_xid_continue cs) h in and_from (scalar c) (scalars cs) (continue_scalar c p.0) (continue_scalars cs p.1)

not_nothing : (cs : List ℕ) → IsIdentifier cs → cs ≡ [] → ⊥
not_nothing [] h e = h
not_nothing (c ∷ cs) h e = cc

differs : (name cs : List ℕ) → chars name ≡ cs → (cs ≡ [] → ⊥) → bytes_eq name [] ≡ false
differs name cs e some = by (bytes_eq name []) refl
  where
    by : (b : Bool) → bytes_eq name [] ≡ b → bytes_eq name [] ≡ false
    by true q = absurd (some (sym e ∙ ap chars ((bytes_eq-Decides name []).0 q) ∙ chars-nil))
    by false q = q

word_of : (name cs : List ℕ) → name ≡ encode_utf8_all cs → IsIdentifier cs → IsWord name
word_of name cs e h =
    let k = identifier_continues cs h in
    let all = continue_scalars cs k in
    let same : chars name ≡ cs = ap chars e ∙ chars-encodes cs all in
    record {
      is_text = is_utf8-from_IsUtf8 name (cs, (all, sym e));
      has_character = differs name cs same (not_nothing cs h);
      continues = subst (λ l. list_all is_xid_continue l ≡ true) (sym same) k;
    }

pub name_is_word : (name text rest : List ℕ) → IsName name text rest → IsWord name
name_is_word name text rest n = word_of name (nfkc text) n.value n.is_normal
