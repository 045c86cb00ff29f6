-- The order of texts by their bytes and by their code points.
use Rattle.std.proofs.Common.{◌≡◌, refl, sym, ◌∙◌, ap, subst, ℕ, zero, suc, ◌+◌, ◌*◌, ◌/◌, ◌%◌, ◌<◌, ◌≤◌, arith, List, [], ◌∷◌, ◌++◌, ◌⊎◌, inl, inr, append_assoc, Ordering, Less, Equal, Greater}
use Rattle.std.specs.Str.{chars}
use Rattle.std.specs.Ordering.{nat_cmp, ordering_then, ordering_reverse}
use Rattle.std.specs.Cmp.{nat_cmp_is}
use Rattle.std.specs.Cmp.Lexicographic.{slice_cmp}
use Rattle.std.proofs.lemmas.Bool.{cases_order, lt-ltb, le-ltb}
use Rattle.std.proofs.lemmas.Cmp.{nat_list_cmp_total}
use Rattle.std.proofs.lemmas.Str.{encodes-chars}
use Rattle.std.proofs.Math.Nat.{div-div-eq-div-mul, div-add-mod, mod-lt}
use Rattle.std.proofs.Math.Utf8.{encode, encodes, next}
use Rattle.value_core.specs.Laws.{ByteOrderIsTextOrder}

less : (x y : ℕ) → x < y → nat_cmp x y ≡ Less
less x y l = sym (nat_cmp_is x y Less l)

-- where two lists begin alike, what follows decides
alike : (p s t : List ℕ) → slice_cmp nat_cmp (p ++ s) (p ++ t) ≡ slice_cmp nat_cmp s t
alike [] s t = refl
alike (x ∷ p) s t = ap (λ o. ordering_then o (slice_cmp nat_cmp (p ++ s) (p ++ t))) (sym (nat_cmp_is x x Equal refl)) ∙ alike p s t

-- where the first bytes differ, they decide
first_less : (x y : ℕ) (s t : List ℕ) → x < y → slice_cmp nat_cmp (x ∷ s) (y ∷ t) ≡ Less
first_less x y s t l = ap (λ o. ordering_then o (slice_cmp nat_cmp s t)) (less x y l)

-- a lead byte that holds what is above n times six bits, and n bytes with six bits each
digits : ℕ → ℕ → ℕ → List ℕ
digits zero lead c = (lead + c) ∷ []
digits (suc n) lead c = digits n lead (c / 64) ++ next c ∷ []

-- the last six bits, and what stands above them
split : (c : ℕ) → c ≡ c / 64 * 64 + c % 64
split c = omega (arith, div-add-mod c 64)

mod_64 : (c : ℕ) → c % 64 < 64
mod_64 c = let some : 0 < 64 = omega arith in mod-lt c some

-- what stands above the last six bits of two numbers, of which the first is the lower
above : (c d : ℕ) → c < d → (c / 64 ≡ d / 64) ⊎ ((c / 64 < d / 64) ⊎ (d / 64 < c / 64)) → ((c / 64 ≡ d / 64) × (c % 64 < d % 64)) ⊎ (c / 64 < d / 64)
above c d l (inl e) = inl (e, omega (arith, l, e, split c, split d))
above c d l (inr (inl h)) = inr h
above c d l (inr (inr h)) = absurd (omega (arith, l, h, split c, split d, mod_64 c, mod_64 d))

-- the lists of digits, one digit more: what stands above is in order, or alike
last_digit : (n lead c d : ℕ) (s t : List ℕ) → ((u v : List ℕ) → c / 64 < d / 64 → slice_cmp nat_cmp (digits n lead (c / 64) ++ u) (digits n lead (d / 64) ++ v) ≡ Less) → ((c / 64 ≡ d / 64) × (c % 64 < d % 64)) ⊎ (c / 64 < d / 64) → slice_cmp nat_cmp (digits n lead (c / 64) ++ next c ∷ s) (digits n lead (d / 64) ++ next d ∷ t) ≡ Less
last_digit n lead c d s t below (inl h) =
    let P : ℕ → Type 0 = λ k. slice_cmp nat_cmp (digits n lead (c / 64) ++ next c ∷ s) (digits n lead k ++ next d ∷ t) ≡ Less in
    subst P h.0 (alike (digits n lead (c / 64)) (next c ∷ s) (next d ∷ t) ∙ first_less (next c) (next d) s t (omega (arith, h.1)))
last_digit n lead c d s t below (inr h) = below (next c ∷ s) (next d ∷ t) h

digits_less : (n lead c d : ℕ) (s t : List ℕ) → c < d → slice_cmp nat_cmp (digits n lead c ++ s) (digits n lead d ++ t) ≡ Less
unfolding digits
digits_less zero lead c d s t l = first_less (lead + c) (lead + d) s t (omega (arith, l))
digits_less (suc n) lead c d s t l =
    rw (append_assoc (digits n lead (c / 64)) (next c ∷ []) s, append_assoc (digits n lead (d / 64)) (next d ∷ []) t) (last_digit n lead c d s t (λ u v h. digits_less n lead (c / 64) (d / 64) u v h) (above c d l (cases_order (c / 64) (d / 64))))

-- ---- the bytes of a code point: none, one, two or three after the lead byte
twice : (c : ℕ) → c / 64 / 64 ≡ c / 4096
twice c = div-div-eq-div-mul c 64 64

thrice : (c : ℕ) → c / 64 / 64 / 64 ≡ c / 262144
thrice c = ap (λ n. n / 64) (twice c) ∙ div-div-eq-div-mul c 4096 64

data Size (c : ℕ) : Type 0 where
  one_byte : c < 128 → Size c
  two_bytes : 128 ≤ c → c < 2048 → Size c
  three_bytes : 2048 ≤ c → c < 65536 → Size c
  four_bytes : 65536 ≤ c → Size c

by_order : (c n : ℕ) {A : Type 0} → (c < n → A) → (n ≤ c → A) → A
by_order c n {A} low high = elim (cases_order c n) [ inl e ↦ high (omega (arith, e)) | inr (inl l) ↦ low l | inr (inr l) ↦ high (omega (arith, l)) ]

size : (c : ℕ) → Size c
size c = by_order c 128 (λ l. one_byte l) (λ m. by_order c 2048 (λ l. two_bytes m l) (λ n. by_order c 65536 (λ l. three_bytes n l) (λ o. four_bytes o)))

after_lead : (c : ℕ) → Size c → ℕ
after_lead c (one_byte l) = 0
after_lead c (two_bytes m l) = 1
after_lead c (three_bytes m l) = 2
after_lead c (four_bytes m) = 3

lead_base : (c : ℕ) → Size c → ℕ
lead_base c (one_byte l) = 0
lead_base c (two_bytes m l) = 192
lead_base c (three_bytes m l) = 224
lead_base c (four_bytes m) = 240

encode_is : (c : ℕ) (z : Size c) → encode c ≡ digits (after_lead c z) (lead_base c z) c
unfolding encode digits after_lead lead_base
encode_is c (one_byte l) = rw (lt-ltb c 128 l) (ap (λ n. n ∷ []) (omega arith))
encode_is c (two_bytes m l) = rw (le-ltb c 128 m, lt-ltb c 2048 l) refl
encode_is c (three_bytes m l) = rw (le-ltb c 128 (omega (arith, m)), le-ltb c 2048 m, lt-ltb c 65536 l, twice c) refl
encode_is c (four_bytes m) = rw (le-ltb c 128 (omega (arith, m)), le-ltb c 2048 (omega (arith, m)), le-ltb c 65536 m, thrice c, twice c) refl

-- the lower code point stands first
sized_less : (c d : ℕ) (s t : List ℕ) (y : Size c) (z : Size d) → c < d → slice_cmp nat_cmp (digits (after_lead c y) (lead_base c y) c ++ s) (digits (after_lead d z) (lead_base d z) d ++ t) ≡ Less
unfolding digits after_lead lead_base
sized_less c d s t (one_byte m) (one_byte n) l = digits_less 0 0 c d s t l
sized_less c d s t (one_byte m) (two_bytes n _) l =
    let lower : 0 + c < 192 + d / 64 = omega (arith, m) in first_less _ _ s (next d ∷ t) lower
sized_less c d s t (one_byte m) (three_bytes n _) l =
    let lower : 0 + c < 224 + d / 64 / 64 = omega (arith, m) in first_less _ _ s (next (d / 64) ∷ next d ∷ t) lower
sized_less c d s t (one_byte m) (four_bytes n) l =
    let lower : 0 + c < 240 + d / 64 / 64 / 64 = omega (arith, m) in first_less _ _ s (next (d / 64 / 64) ∷ next (d / 64) ∷ next d ∷ t) lower
sized_less c d s t (two_bytes m _) (one_byte n) l = absurd (omega (arith, l, m, n))
sized_less c d s t (two_bytes _ _) (two_bytes _ _) l = digits_less 1 192 c d s t l
sized_less c d s t (two_bytes _ m) (three_bytes _ _) l =
    let lower : 192 + c / 64 < 224 + d / 64 / 64 = omega (arith, m, split c) in first_less _ _ (next c ∷ s) (next (d / 64) ∷ next d ∷ t) lower
sized_less c d s t (two_bytes _ m) (four_bytes _) l =
    let lower : 192 + c / 64 < 240 + d / 64 / 64 / 64 = omega (arith, m, split c) in first_less _ _ (next c ∷ s) (next (d / 64 / 64) ∷ next (d / 64) ∷ next d ∷ t) lower
sized_less c d s t (three_bytes m _) (one_byte n) l = absurd (omega (arith, l, m, n))
sized_less c d s t (three_bytes m _) (two_bytes _ n) l = absurd (omega (arith, l, m, n))
sized_less c d s t (three_bytes _ _) (three_bytes _ _) l = digits_less 2 224 c d s t l
sized_less c d s t (three_bytes _ m) (four_bytes _) l =
    let lower : 224 + c / 64 / 64 < 240 + d / 64 / 64 / 64 = omega (arith, m, split c, split (c / 64)) in first_less _ _ (next (c / 64) ∷ next c ∷ s) (next (d / 64 / 64) ∷ next (d / 64) ∷ next d ∷ t) lower
sized_less c d s t (four_bytes m) (one_byte n) l = absurd (omega (arith, l, m, n))
sized_less c d s t (four_bytes m) (two_bytes _ n) l = absurd (omega (arith, l, m, n))
sized_less c d s t (four_bytes m) (three_bytes _ n) l = absurd (omega (arith, l, m, n))
sized_less c d s t (four_bytes _) (four_bytes _) l = digits_less 3 240 c d s t l

encode_less : (c d : ℕ) (s t : List ℕ) → c < d → slice_cmp nat_cmp (encode c ++ s) (encode d ++ t) ≡ Less
encode_less c d s t l = rw (encode_is c (size c), encode_is d (size d)) (sized_less c d s t (size c) (size d) l)

-- ---- texts
some_digit : (n lead c : ℕ) (s : List ℕ) → slice_cmp nat_cmp [] (digits n lead c ++ s) ≡ Less
unfolding digits
some_digit zero lead c s = refl
some_digit (suc n) lead c s = rw (append_assoc (digits n lead (c / 64)) (next c ∷ []) s) (some_digit n lead (c / 64) (next c ∷ s))

some_byte : (c : ℕ) (s : List ℕ) → slice_cmp nat_cmp [] (encode c ++ s) ≡ Less
some_byte c s = rw (encode_is c (size c)) (some_digit (after_lead c (size c)) (lead_base c (size c)) c s)

reversed : (s t : List ℕ) → slice_cmp nat_cmp s t ≡ Less → slice_cmp nat_cmp t s ≡ Greater
reversed s t e = nat_list_cmp_total.antisymm t s ∙ ap ordering_reverse e

-- two texts that begin with these code points
first_code : (c d : ℕ) (s t : List ℕ) (rest : Ordering) → slice_cmp nat_cmp s t ≡ rest → (c ≡ d) ⊎ ((c < d) ⊎ (d < c)) → slice_cmp nat_cmp (encode c ++ s) (encode d ++ t) ≡ ordering_then (nat_cmp c d) rest
first_code c d s t rest e (inl same) =
    let P : ℕ → Type 0 = λ k. slice_cmp nat_cmp (encode c ++ s) (encode k ++ t) ≡ ordering_then (nat_cmp c k) rest in
    subst P same (alike (encode c) s t ∙ e ∙ ap (λ o. ordering_then o rest) (nat_cmp_is c c Equal refl))
first_code c d s t rest e (inr (inl l)) = encode_less c d s t l ∙ ap (λ o. ordering_then o rest) (nat_cmp_is c d Less l)
first_code c d s t rest e (inr (inr l)) = reversed (encode d ++ t) (encode c ++ s) (encode_less d c t s l) ∙ ap (λ o. ordering_then o rest) (nat_cmp_is c d Greater l)

encodes_in_order : (cs ds : List ℕ) → slice_cmp nat_cmp (encodes cs) (encodes ds) ≡ slice_cmp nat_cmp cs ds
encodes_in_order [] [] = refl
encodes_in_order [] (d ∷ ds) = some_byte d (encodes ds)
encodes_in_order (c ∷ cs) [] = reversed [] (encode c ++ encodes cs) (some_byte c (encodes cs))
encodes_in_order (c ∷ cs) (d ∷ ds) = first_code c d (encodes cs) (encodes ds) (slice_cmp nat_cmp cs ds) (encodes_in_order cs ds) (cases_order c d)

pub byte_order : ByteOrderIsTextOrder
byte_order s t us ut =
    let by_bytes : slice_cmp nat_cmp s t ≡ slice_cmp nat_cmp (encodes (chars s)) (encodes (chars t)) = rw (encodes-chars s us, encodes-chars t ut) refl in
    by_bytes ∙ encodes_in_order (chars s) (chars t)
