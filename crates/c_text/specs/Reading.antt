-- What it means to read a text: to find the code that has it, or the place of the first line that cannot stand.
use Rattle.std.specs.Prelude.{◌≡◌, ℕ, false, List, [], ◌∷◌, ◌++◌, length}
use Rattle.std.specs.List.{list_any}
use Rattle.value_core.specs.Items.{is_line_feed, line_feed}
use Rattle.c_core.specs.declared.code.Code.{Code}
use Rattle.c_core.specs.Text.{code_lines, code_text, text_of}
use Rattle.c_core.specs.WellFormed.{Spelled, WellFormed}
use Rattle.c_text.specs.declared.text_error.TextError.{TextError}
use Rattle.c_text.specs.declared.text_error.TextError.TheVariants.{Refused, Memory}

-- a spelled code has this text, and no other code that is well formed has it
pub record IsReading (bytes : List ℕ) (code : Code) : Type 0 where
  pub spelled : Spelled code
  pub text : code_text code ≡ bytes
  pub only : (other : Code) → WellFormed other → code_text other ≡ bytes → other ≡ code

-- a spelled code has this text
abbrev pub HasCode : List ℕ → Type 0
HasCode bytes = (code : Code) × Spelled code × (code_text code ≡ bytes)

-- a well-formed code has this text
abbrev pub HasWellFormed : List ℕ → Type 0
HasWellFormed bytes = (code : Code) × WellFormed code × (code_text code ≡ bytes)

-- lines can stand where the lines of a spelled code begin with them
pub record CanStand (front : List (List ℕ)) : Type 0 where
  pub code : Code
  pub spelled : Spelled code
  pub rest : List (List ℕ)
  pub lines : code_lines code ≡ front ++ rest

abbrev pub has_no_line_feed : List ℕ → Type 0
has_no_line_feed bytes = list_any is_line_feed bytes ≡ false

-- The place at which a text that no spelled code has is refused: where the first line begins that cannot stand
-- behind those before it, or else the text's end. A last piece without a line feed is no line.
pub data RefusedAt (bytes : List ℕ) : ℕ → Type 0 where
  at_line : (before : List (List ℕ)) (line rest : List ℕ) → bytes ≡ text_of before ++ (line ++ (line_feed ∷ rest)) → has_no_line_feed line → CanStand before → ¬ (CanStand (before ++ line ∷ [])) → RefusedAt bytes (length (text_of before))
  at_end : (lines : List (List ℕ)) (piece : List ℕ) → bytes ≡ text_of lines ++ piece → has_no_line_feed piece → CanStand lines → RefusedAt bytes (length bytes)

-- a text is refused exactly where no spelled code has it
abbrev pub SaysRefused : List ℕ → TextError → Type 0
SaysRefused bytes (Refused place) = ¬ (HasCode bytes) × RefusedAt bytes place
SaysRefused bytes Memory = Unit {0}
