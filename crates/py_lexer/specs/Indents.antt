-- The columns of lines, and the levels of indentation that they open and close (Python Language Reference, "Indentation").
use Rattle.std.specs.Prelude.{ℕ, ◌+◌, ◌*◌, ◌-◌, ◌/◌, Bool, true, false, not, ◌&&◌, nat_lt, nat_le, if◌then◌else◌, ◌==◌, List, [], ◌∷◌, length, replicate, Result, Ok, Err}
use Rattle.std.specs.Ordering.{nat_cmp}
use Rattle.std.specs.declared.cmp.Ordering.{Ordering}
use Rattle.std.specs.declared.cmp.Ordering.TheVariants.{Less, Equal, Greater}
use Rattle.py_syntax.specs.declared.token.TokenKind.{TokenKind}
use Rattle.py_syntax.specs.declared.token.TokenKind.TheVariants.{Indent, Dedent}
use Rattle.py_lexer.specs.declared.fault.LexKind.{LexKind}
use Rattle.py_lexer.specs.declared.fault.LexKind.TheVariants as fault
use Rattle.py_lexer.specs.declared.gap.Gap.TheVariants.{Space, Tab, FormFeed}
use Rattle.py_lexer.specs.declared.indent.Column.{Column}
use Rattle.py_lexer.specs.Pieces.{Between, Piece}
use Rattle.py_lexer.specs.Lines.{most_levels}

-- A column is counted twice: `wide` with tabs up to the next multiple of 8, `narrow` with each tab as one.
abbrev pub margin : Column
margin = record { wide = 0; narrow = 0 }

abbrev pub past_space : Column → Column
past_space c = record { wide = c.wide + 1; narrow = c.narrow + 1 }

abbrev pub past_tab : Column → Column
past_tab c = record { wide = (c.wide / 8 + 1) * 8; narrow = c.narrow + 1 }

-- the column behind the leading space of a line, in which a form feed does not count
abbrev pub column : Column → List Piece → Column
column at [] = at
column at (p ∷ ps) = elim p.kind [
  | Between Space ↦ column (past_space at) ps
  | Between Tab ↦ column (past_tab at) ps
  | Between FormFeed ↦ column at ps
  | _ ↦ at
]

-- The levels that are open, innermost first, each with its column. The margin is below them all.
abbrev pub innermost : List Column → Column
innermost [] = margin
innermost (level ∷ levels) = level

-- the levels that a column leaves open: those that are not to the right of it
abbrev pub kept : Column → List Column → List Column
kept at [] = []
kept at (level ∷ levels) = if nat_lt at.wide level.wide then kept at levels else level ∷ levels

abbrev pub is_same : Ordering → Ordering → Bool
is_same Less Less = true
is_same Equal Equal = true
is_same Greater Greater = true
is_same _ _ = false

-- whether two columns compare alike both ways
abbrev pub agree : Column → Column → Bool
agree a b = is_same (nat_cmp a.wide b.wide) (nat_cmp a.narrow b.narrow)

-- the tokens that a line's column makes, and the levels then open
abbrev pub Moved : Type 0
Moved = Result (List TokenKind × List Column) LexKind

-- Where some levels close, the column has to be that of the level then innermost. Both ways of counting have to agree.
-- A column to the right of the innermost level opens one.
abbrev pub moved_to : Column → List Column → ℕ → Moved
moved_to at levels closed =
    if nat_lt 0 closed && nat_lt (innermost levels).wide at.wide then Err fault.BadIndent
    else (if not (agree at (innermost levels)) then Err fault.Tab
    else (if at.wide == (innermost levels).wide then Ok (replicate closed Dedent, levels)
    else (if nat_le most_levels (length levels) then Err fault.TooDeep
    else Ok (Indent ∷ [], at ∷ levels))))

abbrev pub moved : Column → List Column → Moved
moved at levels = moved_to at (kept at levels) (length levels - length (kept at levels))
