-- Reading a text in quotes, byte by byte.
use Rattle.std.proofs.Common.{◌≡◌, ◌∙◌, ℕ, List, [], ◌∷◌, ◌++◌, sym, ap, append_assoc, append-nil}
use Rattle.std.specs.List.{flat_map}
use Rattle.c_core.specs.Text.{byte_text}
use Rattle.c_text.specs.Quotes.{TextRemains}

-- one more byte of the text
pub text_turn : {read text left rest : List ℕ} (byte : ℕ) (after new : List ℕ) → TextRemains read text left rest → ((r : List ℕ) → 34 ∷ r ≡ left → ⊥) → ((b : ℕ) (r : List ℕ) → byte_text b ++ r ≡ left → (byte ≡ b) × (after ≡ r)) → new ≡ read ++ byte ∷ [] → TextRemains new text after rest
text_turn {read} {text} {left} {rest} byte after new remains opens finds pushed = turn remains.more remains.whole remains.written
  where
    turn : (more : List ℕ) → read ++ more ≡ text → flat_map byte_text more ++ 34 ∷ rest ≡ left → TextRemains new text after rest
    turn [] whole written = absurd (opens rest written)
    turn (b ∷ more) whole written =
        let found = finds b (flat_map byte_text more ++ 34 ∷ rest) (sym (append_assoc (byte_text b) (flat_map byte_text more) (34 ∷ rest)) ∙ written) in
        record {
          more = more;
          whole = ap (λ x. x ++ more) pushed ∙ append_assoc read (byte ∷ []) more ∙ ap (λ x. read ++ x ∷ more) found.0 ∙ whole;
          written = sym found.1;
        }

-- the text ends where no byte of it follows
pub text_end : {read text left rest : List ℕ} → TextRemains read text left rest → ((b : ℕ) (r : List ℕ) → byte_text b ++ r ≡ left → ⊥) → (read ≡ text) × (left ≡ 34 ∷ rest)
text_end {read} {text} {left} {rest} remains over = end remains.more remains.whole remains.written
  where
    end : (more : List ℕ) → read ++ more ≡ text → flat_map byte_text more ++ 34 ∷ rest ≡ left → (read ≡ text) × (left ≡ 34 ∷ rest)
    end [] whole written = (sym (append-nil read) ∙ whole, sym written)
    end (b ∷ more) whole written =
        absurd (over b (flat_map byte_text more ++ 34 ∷ rest) (sym (append_assoc (byte_text b) (flat_map byte_text more) (34 ∷ rest)) ∙ written))
