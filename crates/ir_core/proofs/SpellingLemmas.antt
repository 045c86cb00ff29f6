-- Names of ASCII characters that may continue an identifier.
use Rattle.std.proofs.Common.{◌≡◌, refl, ◌∙◌, ap, ℕ, zero, suc, ◌+◌, ◌/◌, ◌%◌, ◌<◌, arith, Bool, true, false, List, [], ◌∷◌}
use Rattle.std.specs.Prelude.{◌&&◌, not, nat_lt, ◌==◌, if◌then◌else◌, decimal}
use Rattle.std.specs.Fmt.{digits, digits_onto, digit_glyph}
use Rattle.std.specs.List.{list_all}
use Rattle.std.specs.Str.{bytes_eq, chars, is_utf8, IsAscii}
use Rattle.std.proofs.lemmas.Bool.{and_from, lt-ltb}
use Rattle.std.proofs.lemmas.Bool.Decides.{nat_tests}
use Rattle.std.proofs.lemmas.Str.{is_utf8-from_IsUtf8, IsUtf8-from_ascii, chars-IsAscii}
use Rattle.std.proofs.lemmas.Str.Ascii.{IsAscii-nil, IsAscii-cons}
use Rattle.unicode_ident.specs.Ident.{is_xid_continue}
use Rattle.unicode_ident.proofs.IdentLemmas.{is_xid_continue-ascii}
use Rattle.unicode_ident.proofs.Computing.{unicode_ident}
use Rattle.c_core.specs.WellFormed.{is_identifier}

abbrev pub IsPlain : ℕ → Type 0
IsPlain b = (b < 128) × (is_xid_continue b ≡ true)

abbrev pub ArePlain : List ℕ → Type 0
ArePlain [] = Unit {0}
ArePlain (b ∷ bs) = IsPlain b × ArePlain bs

pub plain_ascii : (bs : List ℕ) → ArePlain bs → IsAscii bs
plain_ascii [] h = IsAscii-nil
plain_ascii (b ∷ bs) h = IsAscii-cons b bs h.0.0 (plain_ascii bs h.1)

pub plain_goes_on : (bs : List ℕ) → ArePlain bs → list_all is_xid_continue bs ≡ true
plain_goes_on [] h = refl
plain_goes_on (b ∷ bs) h = and_from (is_xid_continue b) (list_all is_xid_continue bs) h.0.1 (plain_goes_on bs h.1)

pub plain_identifier : (b : ℕ) (bs : List ℕ) → ArePlain (b ∷ bs) → is_identifier (b ∷ bs) ≡ true
plain_identifier b bs plain =
    let ascii : IsAscii (b ∷ bs) = plain_ascii (b ∷ bs) plain in
    and_from (is_utf8 (b ∷ bs)) (not (bytes_eq (b ∷ bs) []) && list_all is_xid_continue (chars (b ∷ bs)))
    (is_utf8-from_IsUtf8 (b ∷ bs) (IsUtf8-from_ascii (b ∷ bs) ascii))
    (ap (list_all is_xid_continue) (chars-IsAscii (b ∷ bs) ascii) ∙ plain_goes_on (b ∷ bs) plain)

-- ---- `r_` and the digits of a number

pub r_plain : IsPlain 114
unfolding unicode_ident
r_plain = (omega arith, refl)

pub line_plain : IsPlain 95
unfolding unicode_ident
line_plain = (omega arith, refl)

digit_plain : (d : ℕ) → d < 10 → IsPlain (48 + d)
digit_plain d lt =
    let small : 48 + d < 128 = omega (arith, lt) in
    (small, is_xid_continue-ascii (48 + d) small ∙ grind (arith, nat_tests))

glyph_plain : (d : ℕ) → d < 10 → IsPlain (digit_glyph false d)
glyph_plain d lt = by (nat_lt d 10) (lt-ltb d 10 lt)
  where
    by : (b : Bool) → b ≡ true → IsPlain (if b then 48 + d else (if false then 55 + d else 87 + d))
    by true e = digit_plain d lt
    by false e = absurd (cc)

digits_plain : (k n : ℕ) (acc : List ℕ) → ArePlain acc → ArePlain (digits_onto k 10 false n acc)
digits_plain zero n acc h = h
digits_plain (suc k) n acc h =
    let here : IsPlain (digit_glyph false (n % 10)) = glyph_plain (n % 10) (omega arith) in
    by (n / 10 == 0) (here, h) (digits_plain k (n / 10) (digit_glyph false (n % 10) ∷ acc) (here, h))
  where
    by : (b : Bool) → ArePlain (digit_glyph false (n % 10) ∷ acc) → ArePlain (digits_onto k 10 false (n / 10) (digit_glyph false (n % 10) ∷ acc)) → ArePlain (if b then digit_glyph false (n % 10) ∷ acc else digits_onto k 10 false (n / 10) (digit_glyph false (n % 10) ∷ acc))
    by true x y = x
    by false x y = y

pub decimal_plain : (n : ℕ) → ArePlain (decimal n)
unfolding digits
decimal_plain n = digits_plain 64 n [] tt
