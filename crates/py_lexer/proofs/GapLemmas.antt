-- What a gap makes of the items to come.
use Rattle.std.proofs.Common.{◌≡◌, ℕ, Bool, true, false, List, [], ◌∷◌, Option, Some, None, refl}
use Rattle.py_syntax.specs.declared.token.Span.{Span}
use Rattle.py_lexer.specs.declared.gap.Gap.{Gap}
use Rattle.py_lexer.specs.declared.gap.Gap.TheVariants.{Space, Tab, FormFeed, Comment, Join}
use Rattle.py_lexer.specs.declared.indent.Column.{Column}
use Rattle.py_lexer.specs.Lines.{LogicalLine, onto}
use Rattle.py_lexer.specs.Indents.{past_space, past_tab}
use Rattle.py_lexer.specs.Remaining.{items_from, between}

module _ (end : Span) (levels : List Column) (line : ℕ) (at : Column) (text : List ℕ) (from to : Span) where
  pub space_leads : (last : Option Span) (ls : List LogicalLine) → items_from end levels line at true last (onto line (between Space text from to) ls) ≡ items_from end levels line (past_space at) true last ls
  space_leads None [] = refl
  space_leads None (l ∷ ls) = refl
  space_leads (Some e) [] = refl
  space_leads (Some e) (l ∷ ls) = refl

  pub tab_leads : (last : Option Span) (ls : List LogicalLine) → items_from end levels line at true last (onto line (between Tab text from to) ls) ≡ items_from end levels line (past_tab at) true last ls
  tab_leads None [] = refl
  tab_leads None (l ∷ ls) = refl
  tab_leads (Some e) [] = refl
  tab_leads (Some e) (l ∷ ls) = refl

  -- behind the leading space a gap changes nothing
  pub passes : (last : Option Span) (gap : Gap) (ls : List LogicalLine) → items_from end levels line at false last (onto line (between gap text from to) ls) ≡ items_from end levels line at false last ls
  passes None gap [] = refl
  passes None gap (l ∷ ls) = refl
  passes (Some e) gap [] = refl
  passes (Some e) gap (l ∷ ls) = refl

  pub form_feed_passes : (is_leading : Bool) (last : Option Span) (ls : List LogicalLine) → items_from end levels line at is_leading last (onto line (between FormFeed text from to) ls) ≡ items_from end levels line at is_leading last ls
  form_feed_passes true None [] = refl
  form_feed_passes true None (l ∷ ls) = refl
  form_feed_passes true (Some e) [] = refl
  form_feed_passes true (Some e) (l ∷ ls) = refl
  form_feed_passes false last ls = passes last FormFeed ls

  -- a comment and a join end the leading space
  pub comment_stops : (is_leading : Bool) (last : Option Span) (ls : List LogicalLine) → items_from end levels line at is_leading last (onto line (between Comment text from to) ls) ≡ items_from end levels line at false last ls
  comment_stops true None [] = refl
  comment_stops true None (l ∷ ls) = refl
  comment_stops true (Some e) [] = refl
  comment_stops true (Some e) (l ∷ ls) = refl
  comment_stops false last ls = passes last Comment ls

  pub join_stops : (is_leading : Bool) (last : Option Span) (ls : List LogicalLine) → items_from end levels line at is_leading last (onto line (between Join text from to) ls) ≡ items_from end levels line at false last ls
  join_stops true None [] = refl
  join_stops true None (l ∷ ls) = refl
  join_stops true (Some e) [] = refl
  join_stops true (Some e) (l ∷ ls) = refl
  join_stops false last ls = passes last Join ls

pub ruleset gaps = (space_leads, tab_leads, passes, form_feed_passes, comment_stops, join_stops)
