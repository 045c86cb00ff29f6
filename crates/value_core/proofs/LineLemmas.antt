-- The pieces of input, one byte before another.
use Rattle.std.proofs.Common.{◌≡◌, refl, ◌∙◌, ap, ℕ, Bool, true, false, cond, List, [], ◌∷◌, ◌++◌, ◌⊎◌, inl, inr, arith}
use Rattle.std.specs.List.{concat, list_any}
use Rattle.std.proofs.lemmas.Grind.{common_steps}
use Rattle.value_core.specs.Items.{line_feed, is_line_feed, before_pieces, pieces}
use Rattle.value_core.specs.Laws.{IsEndedLine, IsOpenLine, AreLines, PiecesAreLines}

joined_before : (b : ℕ) (ps : List (List ℕ)) → concat (before_pieces b ps) ≡ b ∷ concat ps
joined_before b [] = refl
joined_before b (p ∷ ps) = elim (is_line_feed b) as (λ t. concat (cond t ((b ∷ []) ∷ p ∷ ps) ((b ∷ p) ∷ ps)) ≡ b ∷ p ++ concat ps) [ true ↦ refl | false ↦ refl ]

joined : (bytes : List ℕ) → concat (pieces bytes) ≡ bytes
joined [] = refl
joined (b ∷ bs) = joined_before b (pieces bs) ∙ ap (λ cs. b ∷ cs) (joined bs)

-- a byte that is a line feed
is_feed : (b : ℕ) → is_line_feed b ≡ true → b ≡ line_feed
is_feed b e = grind (arith, common_steps)

-- a byte before a line that is no line feed
none_before : (b : ℕ) (text : List ℕ) → is_line_feed b ≡ false → list_any is_line_feed text ≡ false → list_any is_line_feed (b ∷ text) ≡ false
none_before b text e n = rw (e, n) refl

longer_ended : (b : ℕ) (p : List ℕ) → is_line_feed b ≡ false → IsEndedLine p → IsEndedLine (b ∷ p)
longer_ended b p e l = (b ∷ l.0, none_before b l.0 e l.1, ap (λ q. b ∷ q) l.2)

longer_open : (b : ℕ) (p : List ℕ) → is_line_feed b ≡ false → IsOpenLine p → IsOpenLine (b ∷ p)
longer_open b p e l = (λ h. cc, none_before b p e l.1)

longer_last : (b : ℕ) (p : List ℕ) → is_line_feed b ≡ false → IsEndedLine p ⊎ IsOpenLine p → IsEndedLine (b ∷ p) ⊎ IsOpenLine (b ∷ p)
longer_last b p e (inl l) = inl (longer_ended b p e l)
longer_last b p e (inr l) = inr (longer_open b p e l)

feed_alone : (b : ℕ) → is_line_feed b ≡ true → IsEndedLine (b ∷ [])
feed_alone b e = ([], refl, ap (λ c. c ∷ []) (is_feed b e))

byte_alone : (b : ℕ) (t : Bool) → is_line_feed b ≡ t → IsEndedLine (b ∷ []) ⊎ IsOpenLine (b ∷ [])
byte_alone b true e = inl (feed_alone b e)
byte_alone b false e = inr (λ h. cc, none_before b [] e refl)

lines_before : (b : ℕ) (ps : List (List ℕ)) (t : Bool) → is_line_feed b ≡ t → AreLines ps → AreLines (before_pieces b ps)
lines_before b [] t e l = byte_alone b t e
lines_before b (p ∷ []) true e l = rw e (feed_alone b e, l)
lines_before b (p ∷ []) false e l = rw e (longer_last b p e l)
lines_before b (p ∷ q ∷ ps) true e l = rw e (feed_alone b e, l)
lines_before b (p ∷ q ∷ ps) false e l = rw e (longer_ended b p e l.0, l.1)

lines : (bytes : List ℕ) → AreLines (pieces bytes)
lines [] = tt
lines (b ∷ bs) = lines_before b (pieces bs) (is_line_feed b) refl (lines bs)

pub pieces_are_lines : PiecesAreLines
pieces_are_lines bytes = (joined bytes, lines bytes)
