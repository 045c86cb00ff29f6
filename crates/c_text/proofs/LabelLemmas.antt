-- How many labels stand among lines.
use Rattle.std.proofs.Common.{◌≡◌, ◌∙◌, ℕ, ◌+◌, ◌≤◌, Bool, true, false, cond, List, [], ◌∷◌, ◌++◌, length, sym, ap, refl, arith, length-append}
use Rattle.c_core.specs.declared.code.Line.{Line}
use Rattle.c_core.specs.Functions.{is_label}
use Rattle.c_text.specs.Labels.{labels_after, labels_behind}

pub after_few : (n : ℕ) (l : Line) → labels_after n l ≤ n + 1
after_few n l = split (is_label l)
  where
    split : (b : Bool) → cond b (n + 1) n ≤ n + 1
    split true = omega arith
    split false = omega arith

pub behind_few : (n : ℕ) (lines : List Line) → labels_behind n lines ≤ n + length lines
behind_few n [] = omega arith
behind_few n (l ∷ lines) = omega (arith, after_few n l, behind_few (labels_after n l) lines)

pub behind_push : (n : ℕ) (lines : List Line) (l : Line) → labels_behind n (lines ++ l ∷ []) ≡ labels_after (labels_behind n lines) l
behind_push n [] l = refl
behind_push n (m ∷ lines) l = behind_push (labels_after n m) lines l

-- a line more, with its label if it is one
pub count_push : (lines new : List Line) (l : Line) (labels next : ℕ) (b : Bool) → new ≡ lines ++ l ∷ [] → labels ≡ labels_behind 0 lines → b ≡ is_label l → next ≡ cond b (labels + 1) labels → next ≡ labels_behind 0 new
count_push lines new l labels next b pushed counted is e =
    e ∙ ap (λ t. cond t (labels + 1) labels) is ∙ ap (λ k. labels_after k l) counted ∙ sym (behind_push 0 lines l) ∙ ap (labels_behind 0) (sym pushed)

-- fewer labels than lines, with a line more
pub labels_fit : (lines new : List Line) (l : Line) (labels : ℕ) → new ≡ lines ++ l ∷ [] → labels ≡ labels_behind 0 lines → labels + 1 ≤ length new
labels_fit lines new l labels pushed counted = omega (arith, behind_few 0 lines, ap length pushed, length-append lines (l ∷ []))
