mod Examples
mod SpellingRows
pub mod DigitLemmas
pub mod EscapeSpelled
pub mod GapLemmas
pub mod IndentLemmas
pub mod LexemeSpelled
pub mod LineLemmas
pub mod NumberLemmas
pub mod NumberSpelled
pub mod OrderLemmas
pub mod PieceLemmas
pub mod ReadLemmas
pub mod RemainingLemmas
pub mod RestLemmas
pub mod RightItems
pub mod SignSpelled
pub mod Spelled
pub mod StringLemmas
pub mod StringSpelled
pub mod TokenLaws
pub mod WordLemmas
pub mod WordSpelled
