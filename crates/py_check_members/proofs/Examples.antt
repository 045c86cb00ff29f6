-- The members of some classes, computed.
use Rattle.std.proofs.Common.{◌≡◌, ℕ, true, false, List, [], ◌∷◌, Some, None, refl, codes, pos}
use Rattle.std.specs.Prelude.{unwrap_or}
use Rattle.py_syntax.specs.declared.token.Span.{Span}
use Rattle.py_syntax.specs.declared.expression.BinOp.TheVariants as op
use Rattle.py_syntax.specs.Expressions as e
use Rattle.py_syntax.specs.Expressions.{ExprTree, exprs_of}
use Rattle.py_syntax.specs.Statements.{StmtNode, StmtTree, Suite, at, Do, Assign, Annot, Aug, Pass, If, For, Def, ClassDef, suite_of, arms_of}
use Rattle.py_typed.specs.Sorts as sort
use Rattle.py_check_context.specs.declared.scope.Meaning.{Meaning}
use Rattle.py_check_context.specs.declared.scope.Meaning.TheVariants.{Unknown}
use Rattle.py_check_context.specs.Members.{attribute, untyped, unknown, method}
use Rattle.py_check_messages.specs.Seen.{diag}
use Rattle.py_check_messages.specs.Messages as message
use Rattle.py_check_names.specs.Builtins.{builtin_meaning}
use Rattle.py_check_classes.specs.declared.header.Header.{Header}
use Rattle.py_check_classes.specs.declared.header.Header.TheVariants.{Typed}
use Rattle.py_check_classes.specs.Headers as headers
use Rattle.py_check_members.specs.Members.{Owns, own_members, member_along, init_along, init_behind_along, declaring}
use Rattle.py_check_members.specs.Bodies.{body_said}

abbrev place : ℕ → Span
place line = record { line = line; col = 1 }

abbrev on : ℕ → StmtNode → StmtTree
on line node = at node (place line)

abbrev name : List ℕ → ExprTree
name x = e.at (e.Name x) (place 0)

-- an attribute of `self`, at a place of its own
abbrev own : ℕ → List ℕ → ExprTree
own line a = e.at (e.Attr (name (codes "self")) a) (place line)

abbrev one : ExprTree
one = e.at (e.Int (pos 1)) (place 0)

-- any other value
abbrev none : ExprTree
none = e.at e.Nothing (place 0)

abbrev int : ExprTree
int = name (codes "int")

abbrev str : ExprTree
str = name (codes "str")

abbrev body : List StmtTree → Suite
body stmts = suite_of stmts

abbrev def : ℕ → List ℕ → List StmtTree → StmtTree
def line x stmts = on line (Def x ((codes "self", None) ∷ (codes "p", Some str) ∷ (codes "q", None) ∷ []) None (body stmts) [])

abbrev init : ℕ → List StmtTree → StmtTree
init line stmts = def line (codes "__init__") stmts

abbrev declare : ℕ → List ℕ → StmtTree
declare line a = on line (Annot (name a) int None)

abbrev set : ℕ → List ℕ → ExprTree → StmtTree
set line a value = on line (Assign (own line a) value)

abbrev marked : ℕ → List ℕ → StmtTree
marked line a = on line (Annot (own line a) str (Some none))

abbrev class : List ℕ → List StmtTree → StmtTree
class x stmts = on 0 (ClassDef x [] (body stmts) [])

abbrev header : List ℕ → Header
header bases = Typed (record { is_trait = false; bases = bases })

abbrev meanings : List ℕ → Meaning
meanings x = unwrap_or (builtin_meaning x) Unknown

abbrev members : List Header → List StmtTree → Owns
members hs definitions = own_members hs meanings (λ f. meanings) definitions

abbrev alone : List StmtTree → Owns
alone stmts = members (header [] ∷ []) (class (codes "C") stmts ∷ [])

abbrev a : List ℕ
a = codes "a"

abbrev b : List ℕ
b = codes "b"

abbrev c : List ℕ
c = codes "c"

abbrev C : List ℕ
C = codes "C"

-- ---- one class

in_text_order : alone (declare 1 b ∷ init 2 (set 3 c one ∷ []) ∷ def 4 a [] ∷ declare 5 (codes "int") ∷ []) ≡ ((b, attribute sort.Int) ∷ (codes "__init__", method 0) ∷ (c, attribute sort.Int) ∷ (a, method 1) ∷ (codes "int", attribute sort.Int) ∷ []) ∷ []
in_text_order = refl

-- a parameter gives its type, the first one the class's, and one without an annotation none
from_parameters : alone (init 1 (set 2 a (name (codes "p")) ∷ set 3 b (name (codes "self")) ∷ set 4 c (name (codes "q")) ∷ []) ∷ []) ≡ ((codes "__init__", method 0) ∷ (a, attribute sort.Str) ∷ (b, attribute (sort.Instance 0)) ∷ (c, untyped) ∷ []) ∷ []
from_parameters = refl

-- a method of the name, in the body further up or further down
methods_first : alone (init 1 (set 2 a one ∷ marked 3 b ∷ []) ∷ def 4 a [] ∷ declare 5 a ∷ def 6 b [] ∷ def 7 b [] ∷ []) ≡ ((codes "__init__", method 0) ∷ (a, method 1) ∷ (b, method 2) ∷ []) ∷ []
methods_first = refl

-- no method is named like a builtin, or like what is declared above it
no_methods : alone (def 1 (codes "len") [] ∷ declare 2 a ∷ def 3 a [] ∷ []) ≡ ((a, attribute sort.Int) ∷ []) ∷ []
no_methods = refl

-- an annotation declares where it is the first assignment, at any depth
annotations : alone (init 1 (on 2 (If (arms_of ((none, body (marked 3 a ∷ [])) ∷ [])) (body [])) ∷ set 4 b none ∷ marked 5 b ∷ []) ∷ declare 6 a ∷ []) ≡ ((codes "__init__", method 0) ∷ (a, attribute sort.Str) ∷ (b, unknown (place 4)) ∷ []) ∷ []
annotations = refl

-- one of another form may stand before the first that gives a type
behind_others : alone (init 1 (set 2 a none ∷ on 3 (Aug (own 3 a) op.Add one) ∷ set 4 a one ∷ []) ∷ []) ≡ ((codes "__init__", method 0) ∷ (a, attribute sort.Int) ∷ []) ∷ []
behind_others = refl

-- set by several targets, and by an augmented assignment; `-1` is no literal
unknowns : alone (init 1 (on 2 (Assign (e.at (e.TupleOf (exprs_of (own 3 a ∷ own 4 b ∷ []))) (place 2)) none) ∷ on 5 (Aug (own 5 c) op.Add one) ∷ set 6 C (e.at (e.Neg one) (place 6)) ∷ []) ∷ []) ≡ ((codes "__init__", method 0) ∷ (a, unknown (place 3)) ∷ (b, unknown (place 4)) ∷ (c, unknown (place 5)) ∷ (C, unknown (place 6)) ∷ []) ∷ []
unknowns = refl

-- a loop sets nothing, and only the first method of the name is `__init__`
no_others : alone (def 1 b (set 2 a one ∷ []) ∷ init 3 (on 4 (For (own 4 a) none (body (on 5 Pass ∷ []))) ∷ []) ∷ init 6 (set 7 c one ∷ []) ∷ []) ≡ ((b, method 0) ∷ (codes "__init__", method 1) ∷ []) ∷ []
no_others = refl

no_type : alone (on 1 (Annot (name a) one None) ∷ []) ≡ ((a, untyped) ∷ []) ∷ []
no_type = refl

-- ---- classes above

abbrev line : Owns
line = members (header [] ∷ header (0 ∷ []) ∷ headers.without_type false None ∷ []) (class C (declare 1 a ∷ init 2 (set 3 b none ∷ []) ∷ def 4 c [] ∷ []) ∷ class (codes "D") (init 5 (set 6 a one ∷ set 7 b one ∷ set 8 c none ∷ []) ∷ []) ∷ class (codes "E") (declare 9 a ∷ []) ∷ [])

-- what is declared above is not declared again; what is unknown there may be, and what is a method there is not unknown
under : line ≡ ((a, attribute sort.Int) ∷ (codes "__init__", method 0) ∷ (b, unknown (place 3)) ∷ (c, method 1) ∷ []) ∷ ((codes "__init__", method 2) ∷ (b, attribute sort.Int) ∷ []) ∷ [] ∷ []
under = refl

inherited : member_along line (header [] ∷ header (0 ∷ []) ∷ []) 1 a ≡ Some (attribute sort.Int)
inherited = refl

its_own : member_along line (header [] ∷ header (0 ∷ []) ∷ []) 1 b ≡ Some (attribute sort.Int)
its_own = refl

-- a method of a trait stands in front of an attribute that nothing declares, though its class comes later along the order
abbrev beside : Owns
beside = members (header [] ∷ Typed (record { is_trait = true; bases = [] }) ∷ header (0 ∷ 1 ∷ []) ∷ []) (class C (init 1 (set 2 a none ∷ set 3 b none ∷ []) ∷ []) ∷ class (codes "T") (def 4 a [] ∷ []) ∷ class (codes "D") [] ∷ [])

behind_it : member_along beside (header [] ∷ Typed (record { is_trait = true; bases = [] }) ∷ header (0 ∷ 1 ∷ []) ∷ []) 2 a ≡ Some (method 1)
behind_it = refl

of_no_other : member_along beside (header [] ∷ Typed (record { is_trait = true; bases = [] }) ∷ header (0 ∷ 1 ∷ []) ∷ []) 2 b ≡ Some (unknown (place 3))
of_no_other = refl

nothing : member_along line (header [] ∷ header (0 ∷ []) ∷ []) 1 (codes "d") ≡ None
nothing = refl

first_init : init_along line (header [] ∷ header (0 ∷ []) ∷ []) 1 ≡ Some 2
first_init = refl

next_init : init_behind_along line (header [] ∷ header (0 ∷ []) ∷ []) 1 ≡ Some 0
next_init = refl

-- ---- what is said of bodies

abbrev mixed : Suite
mixed = body (declare 1 a ∷ init 2 (marked 3 b ∷ marked 4 b ∷ marked 5 a ∷ []) ∷ declare 6 a ∷ declare 7 b ∷ on 8 (Annot (name a) one None) ∷ on 9 Pass ∷ on 10 (Do (e.at (e.Str a) (place 10))) ∷ on 11 (Do one) ∷ on 12 (Annot (name c) int (Some one)) ∷ [])

-- an annotation without a type says enough by itself
said : body_said meanings mixed ≡ diag (place 11) message.outside_class_body ∷ diag (place 12) message.outside_class_body ∷ diag (place 6) (message.already_defined a) ∷ diag (place 7) (message.already_defined b) ∷ []
said = refl

declared_there : declaring mixed b ≡ Some (place 3)
declared_there = refl

declared_above : declaring mixed a ≡ None
declared_above = refl
