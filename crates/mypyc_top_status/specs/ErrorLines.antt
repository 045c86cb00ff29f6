-- The lines that are written on errors.
use Rattle.std.specs.Prelude.{ℕ, List, [], ◌∷◌, ◌++◌, codes, decimal}
use Rattle.value_core.specs.Exceptions.{Thrown, class_name}

-- how the command is used: with all the modes that it is to have, though `ir` and `selftest` are not built and no words of a command yet
abbrev pub usage_line : List ℕ
usage_line = codes "usage: mypyc [--emit=check|ir|c|run|runc|selftest] [--stage=build|errors|owned] [--turns=N] FILE\n"

abbrev pub open_line : List ℕ → List ℕ
open_line file = codes "mypyc: cannot open " ++ (file ++ codes "\n")

abbrev pub read_line : List ℕ → List ℕ
read_line file = codes "mypyc: cannot read " ++ (file ++ codes "\n")

abbrev pub large_line : List ℕ → List ℕ
large_line file = codes "mypyc: " ++ (file ++ codes " is too large\n")

-- a C text that is refused at a byte, counted from 0, or that is not well formed
abbrev pub refused_line : List ℕ → ℕ → List ℕ
refused_line file place = codes "mypyc: " ++ (file ++ (codes ": refused at byte " ++ (decimal place ++ codes "\n")))

abbrev pub ill_formed_line : List ℕ → List ℕ
ill_formed_line file = codes "mypyc: " ++ (file ++ codes ": not well formed\n")

-- an exception that left the module: its class, and its text if it has one
abbrev pub text_behind : List ℕ → List ℕ
text_behind [] = []
text_behind (b ∷ bs) = codes ": " ++ (b ∷ bs)

abbrev pub raised_line : Thrown → List ℕ
raised_line e = class_name e.class ++ (text_behind e.text ++ codes "\n")

-- a program without turns, and how many cells it left
abbrev pub turns_line : ℕ → List ℕ
turns_line live = codes "mypyc: out of turns, " ++ (decimal live ++ codes " live cells\n")

abbrev pub long_input_line : List ℕ
long_input_line = codes "mypyc: input is too long\n"

abbrev pub input_line : List ℕ
input_line = codes "mypyc: cannot read input\n"

abbrev pub ownership_line : List ℕ
ownership_line = codes "mypyc: ownership fault\n"

abbrev pub memory_line : List ℕ
memory_line = codes "mypyc: out of memory\n"
