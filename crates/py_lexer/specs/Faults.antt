-- The texts of faults.
use Rattle.std.specs.Prelude.{ℕ, List, codes}
use Rattle.py_lexer.specs.declared.fault.LexKind.{LexKind}
use Rattle.py_lexer.specs.declared.fault.LexKind.TheVariants as fault

abbrev pub fault_text : LexKind → List ℕ
fault_text fault.BadIndent = codes "Unindent does not match an outer level"
fault_text fault.Tab = codes "Inconsistent use of tabs in indentation"
fault_text fault.BadCharacter = codes "Invalid character"
fault_text fault.BadNumber = codes "Invalid number"
fault_text fault.BadString = codes "Invalid string"
fault_text fault.Unended = codes "Unended bracket or string"
fault_text fault.TooDeep = codes "Nested too deeply"
