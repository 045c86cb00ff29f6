-- A text is refused at one place.
use Rattle.std.proofs.Common.{◌≡◌, ◌∙◌, ℕ, ◌≤◌, List, [], ◌∷◌, ◌++◌, length, refl, sym, ap, arith, append_assoc, length-append, ◌⊎◌, inl, inr}
use Rattle.std.proofs.lemmas.List.{append_cancel_left}
use Rattle.c_core.specs.Text.{text_of}
use Rattle.c_text.specs.Words.{HasNo}
use Rattle.c_text.specs.Reading.{CanStand, RefusedAt, at_line, at_end}
use Rattle.c_text.proofs.Bytes.{not_in, same_front}
use Rattle.c_text.proofs.ReadLemmas.{ArePlain, standing_plain, text_append}

-- lines that can stand end no later than those behind which a line cannot stand
stands_before : (lines others : List (List ℕ)) (line rest behind : List ℕ) → ArePlain lines → ArePlain others → HasNo 10 line → text_of lines ++ (line ++ 10 ∷ rest) ≡ text_of others ++ behind → ((more : List (List ℕ)) → others ≡ lines ++ line ∷ more → ⊥) → (more : List (List ℕ)) × (lines ≡ others ++ more)
stands_before lines [] line rest behind p q plain e apart = (lines, refl)
stands_before [] (u ∷ others) line rest behind p q plain e apart =
    let same = same_front 10 line u rest (text_of others ++ behind) plain q.0 (e ∙ append_assoc u (10 ∷ text_of others) behind) in
    absurd (apart others (ap (λ s. s ∷ others) (sym same.0)))
stands_before (t ∷ lines) (u ∷ others) line rest behind p q plain e apart =
    let same = same_front 10 t u (text_of lines ++ (line ++ 10 ∷ rest)) (text_of others ++ behind) p.0 q.0
    (sym (append_assoc t (10 ∷ text_of lines) (line ++ 10 ∷ rest)) ∙ e ∙ append_assoc u (10 ∷ text_of others) behind) in
    let r = stands_before lines others line rest behind p.1 q.1 plain same.1 (λ more f. apart more (ap (λ s. s ∷ others) (sym same.0) ∙ ap (λ ls. t ∷ ls) f)) in
    (r.0, ap (λ s. s ∷ lines) same.0 ∙ ap (λ ls. u ∷ ls) r.1)

-- refused at a line
record LineAt (bytes : List ℕ) (place : ℕ) : Type 0 where
  lines : List (List ℕ)
  line : List ℕ
  rest : List ℕ
  whole : bytes ≡ text_of lines ++ (line ++ 10 ∷ rest)
  plain : HasNo 10 line
  stands : CanStand lines
  stops : ¬ (CanStand (lines ++ line ∷ []))
  length_is : length (text_of lines) ≡ place

-- refused at the end
record EndAt (bytes : List ℕ) (place : ℕ) : Type 0 where
  lines : List (List ℕ)
  piece : List ℕ
  whole : bytes ≡ text_of lines ++ piece
  plain : HasNo 10 piece
  stands : CanStand lines
  length_is : length bytes ≡ place

parts_of : {bytes : List ℕ} {place : ℕ} → RefusedAt bytes place → LineAt bytes place ⊎ EndAt bytes place
parts_of (at_line lines line rest whole plain stands stops) =
    inl (record { lines = lines; line = line; rest = rest; whole = whole; plain = plain; stands = stands; stops = stops; length_is = refl })
parts_of (at_end lines piece whole plain stands) =
    inr (record { lines = lines; piece = piece; whole = whole; plain = plain; stands = stands; length_is = refl })

-- lines that can stand do not go on with one that cannot
apart_of : (front : List (List ℕ)) (line : List ℕ) (others more : List (List ℕ)) → CanStand others → ¬ (CanStand (front ++ line ∷ [])) → others ≡ front ++ line ∷ more → ⊥
apart_of front line others more c stops e =
    stops (record { code = c.code; spelled = c.spelled; rest = more ++ c.rest; lines = c.lines ∙ ap (λ ls. ls ++ c.rest) (e ∙ sym (append_assoc front (line ∷ []) more)) ∙ append_assoc (front ++ line ∷ []) more c.rest })

not_before : {bytes : List ℕ} {m n : ℕ} → LineAt bytes m → LineAt bytes n → n ≤ m
not_before a b =
    let front = stands_before a.lines b.lines a.line a.rest (b.line ++ 10 ∷ b.rest) (standing_plain a.lines a.stands) (standing_plain b.lines b.stands) a.plain (sym a.whole ∙ b.whole) (λ more e. apart_of a.lines a.line b.lines more b.stands a.stops e) in
    omega (arith, a.length_is, b.length_is, ap (λ ls. length (text_of ls)) front.1, ap length (text_append b.lines front.0), length-append (text_of b.lines) (text_of front.0))

not_both : {bytes : List ℕ} {m n : ℕ} → LineAt bytes m → EndAt bytes n → ⊥
not_both a b =
    let e = sym a.whole ∙ b.whole in
    let front = stands_before a.lines b.lines a.line a.rest b.piece (standing_plain a.lines a.stands) (standing_plain b.lines b.stands) a.plain e (λ more f. apart_of a.lines a.line b.lines more b.stands a.stops f) in
    let split : text_of a.lines ≡ text_of b.lines ++ text_of front.0 = ap text_of front.1 ∙ text_append b.lines front.0 in
    let left : text_of front.0 ++ (a.line ++ 10 ∷ a.rest) ≡ b.piece =
    append_cancel_left (text_of b.lines) (text_of front.0 ++ (a.line ++ 10 ∷ a.rest)) b.piece (sym (append_assoc (text_of b.lines) (text_of front.0) (a.line ++ 10 ∷ a.rest)) ∙ ap (λ t. t ++ (a.line ++ 10 ∷ a.rest)) (sym split) ∙ e) in
    not_in 10 b.piece (text_of front.0 ++ a.line) a.rest b.plain (sym left ∙ sym (append_assoc (text_of front.0) a.line (10 ∷ a.rest)))

same_place : {bytes : List ℕ} {m n : ℕ} → LineAt bytes m ⊎ EndAt bytes m → LineAt bytes n ⊎ EndAt bytes n → m ≡ n
same_place (inl a) (inl b) = omega (arith, not_before a b, not_before b a)
same_place (inl a) (inr b) = absurd (not_both a b)
same_place (inr a) (inl b) = absurd (not_both b a)
same_place (inr a) (inr b) = sym a.length_is ∙ b.length_is

pub places_are_one : (bytes : List ℕ) (m n : ℕ) → RefusedAt bytes m → RefusedAt bytes n → m ≡ n
places_are_one bytes m n a b = same_place (parts_of a) (parts_of b)
