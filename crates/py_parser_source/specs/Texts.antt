-- What is said of each thing for which a file has no tree, and the code of the rule that is broken.
use Rattle.std.specs.Prelude.{ℕ, List, ◌++◌, codes}
use Rattle.py_syntax.specs.Texts.{key_text}
use Rattle.py_lexer.specs.declared.fault.LexKind.TheVariants as lexical
use Rattle.py_lexer.specs.Faults.{fault_text}
use Rattle.py_parser_source.specs.declared.fault.FaultKind.{FaultKind}
use Rattle.py_parser_source.specs.declared.fault.FaultKind.TheVariants.{NoText, NoToken, NoTree, LeftOut, TooDeep}

-- what is wrong, in words
abbrev pub kind_text : FaultKind → List ℕ
kind_text NoText = codes "File is not UTF-8"
kind_text (NoToken kind) = fault_text kind
kind_text NoTree = codes "Invalid syntax, or syntax outside the profile"
kind_text (LeftOut key) = codes "\"" ++ (key_text key ++ codes "\" is outside the profile")
kind_text TooDeep = fault_text lexical.TooDeep

-- the code of the rule that is broken
abbrev pub kind_code : FaultKind → List ℕ
kind_code (LeftOut key) = codes "profile"
kind_code _ = codes "syntax"
