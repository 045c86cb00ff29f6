-- Reading a text from left to right, up to the first fault.
use Rattle.std.specs.Prelude.{◌≡◌, ◌<◌, ℕ, List, length, Result, Ok, Err, IfOk}
use Rattle.std.specs.Borrow.{Bor}
use Rattle.py_lexer.specs.declared.fault.LexKind.{LexKind}
use Rattle.py_lexer.specs.declared.fault.LexError.{LexError}
use Rattle.py_lexer.specs.declared.fault.LexError.TheVariants as error
use Rattle.py_lexer.specs.declared.placed.Placed.{Placed}

-- a fault, with its line
abbrev pub Fault : Type 0
Fault = ℕ × LexKind

-- a value and the rest of the text, or a fault
abbrev pub Read : Type 0 → Type 0
Read A = Result (A × List Placed) Fault

-- one reading after another
infixl 10 ◌>>=◌
abbrev pub ◌>>=◌ : {A B : Type 0} → Result A Fault → (A → Result B Fault) → Result B Fault
(Ok x) >>= f = f x
(Err e) >>= f = Err e

-- what a call returned, seen by `view`, is what the definition gives, unless memory ran out
abbrev pub Fails : {Y : Type 0} → LexError → Result Y Fault → Type 0
Fails error.Memory read = Unit {0}
Fails (error.Fault line kind) read = read ≡ Err (line, kind)

abbrev pub Gives : {X Y : Type 0} → (X → Y) → Result X LexError → Result Y Fault → Type 0
Gives view (Ok x) read = read ≡ Ok (view x)
Gives view (Err e) read = Fails e read

-- the same of a value and the rest of the text
abbrev pub Reads : {A B : Type 0} → (A → B) → Result (A × Bor (List Placed)) LexError → Read B → Type 0
Reads view r read = Gives (λ p. (view p.0, p.1.now)) r read

-- less of the text is left
abbrev pub Shortens : {A : Type 0} → List Placed → Result (A × Bor (List Placed)) LexError → Type 0
Shortens text r = IfOk r (λ p. length p.1.now < length text)
