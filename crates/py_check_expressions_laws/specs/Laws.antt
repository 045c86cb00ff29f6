-- What holds of the typing of every expression, beside that it says nothing where there is a type.
use Rattle.std.specs.Prelude.{◌≡◌, ◌≢◌, ℕ, Bool, true, false, is_none, ◌&&◌, ◌||◌, List, [], ◌++◌, map, Option, Some, None, slice_get, ◌⊎◌}
use Rattle.py_syntax.specs.declared.token.Span.{Span}
use Rattle.py_syntax.specs.Expressions as tree
use Rattle.py_syntax.specs.Expressions.{ExprTree, ExprNode}
use Rattle.py_syntax_diagnostics.specs.declared.diagnostic.Diag.{Diag}
use Rattle.py_binder.specs.Sights.{reads}
use Rattle.py_binder.specs.declared.sight.Manner.TheVariants.{Value}
use Rattle.py_typed.specs.Classes.{Signature}
use Rattle.py_check_context.specs.declared.scope.Meaning.{Meaning}
use Rattle.py_check_context.specs.declared.scope.Meaning.TheVariants as meaning
use Rattle.py_check_context.specs.Members as member
use Rattle.py_check_context.specs.Members.{Member, Inside}
use Rattle.py_check_context.specs.Context.{Context, VarSort, untyped, VarSorts, var_at, Wanted, some_signature}
use Rattle.py_check_messages.specs.Seen.{Message, diag}
use Rattle.py_check_annotations.specs.Names.{any_unknown}
use Rattle.py_check_expressions.specs.Typing.{typing, node_typing}

-- ---- names without a type

-- a name that has no type where it is read or called, and of which nothing is said there
abbrev pub is_voiceless : List (Option Signature) → Meaning → Bool
is_voiceless signatures meaning.Untyped = true
is_voiceless signatures meaning.UntypedClass = true
is_voiceless signatures (meaning.Function i) = is_none (some_signature (slice_get signatures i))
is_voiceless signatures m = false

abbrev pub is_untyped : VarSort → Bool
is_untyped untyped = true
is_untyped v = false

-- an attribute without a type, one that nothing declares, and a method without a signature
abbrev pub is_voiceless_member : List (Option Signature) → Option Member → Bool
is_voiceless_member signatures (Some member.untyped) = true
is_voiceless_member signatures (Some (member.unknown place)) = true
is_voiceless_member signatures (Some (member.method f)) = is_none (some_signature (slice_get signatures f))
is_voiceless_member signatures m = false

-- an `__init__` without a signature
abbrev pub is_voiceless_init : List (Option Signature) → Option ℕ → Bool
is_voiceless_init signatures None = false
is_voiceless_init signatures (Some f) = is_none (some_signature (slice_get signatures f))

-- an `__init__` of a class without a type, or in front of one without a signature
abbrev pub is_voiceless_inside : List (Option Signature) → Option Inside → Bool
is_voiceless_inside signatures None = false
is_voiceless_inside signatures (Some i) = i.is_init && (is_none i.class || is_voiceless_init signatures i.next_init)

-- no name in reach is one, and no member of a class: each variable has a type or is not read yet, each function and each method a
-- signature, and each class and each of its attributes a type
pub record AllHaveTypes (c : Context) (vars : VarSorts) : Type 0 where
  pub names : (x : List ℕ) → is_voiceless c.signatures (c.meaning x) ≡ false
  pub locals : (i : ℕ) → is_untyped (var_at vars.locals i) ≡ false
  pub globals : (i : ℕ) → is_untyped (var_at vars.globals i) ≡ false
  pub members : (n : ℕ) (a : List ℕ) → is_voiceless_member c.signatures (c.member n a) ≡ false
  pub inits : (n : ℕ) → is_voiceless_init c.signatures (c.init n) ≡ false
  pub inside : is_voiceless_inside c.signatures c.inside ≡ false

-- then an expression in which each name that is read is known, and which is not typed, has said something
abbrev pub UntypedIsLoud : Type 0
UntypedIsLoud =
    (c : Context) (vars : VarSorts) → AllHaveTypes c vars → (w : Wanted) (known : List ℕ) (e : ExprTree) → any_unknown c.meaning (reads Value e) ≡ false → (typing c vars w known e).got ≡ None → (typing c vars w known e).said ≢ []

-- ---- one place

abbrev pub is_comparison : ExprNode → Bool
is_comparison (tree.Compare e cs) = true
is_comparison n = false

-- all that is said of an expression, wherever it stands: these messages at its own place, or else what is said of its parts, which
-- hangs nowhere on that place. So where an expression has an entry, nothing is said of any part of it: no two entries are of an outer
-- and an inner one, also where both begin with one token. Only a chain of comparisons may have entries of its own beside others: they
-- stand at its place, in front
abbrev pub OwnOrOfParts : Type 0
OwnOrOfParts =
    (c : Context) (vars : VarSorts) (w : Wanted) (known : List ℕ) (n : ExprNode)
    → (((ms : List Message) × ((place : Span) → (node_typing c vars w known place n).said ≡ map (diag place) ms)) ⊎ ((place other : Span) → (node_typing c vars w known place n).said ≡ (node_typing c vars w known other n).said))
    ⊎ ((is_comparison n ≡ true) × ((ms : List Message) × (parts : List Diag) × ((place : Span) → (node_typing c vars w known place n).said ≡ map (diag place) ms ++ parts)))
