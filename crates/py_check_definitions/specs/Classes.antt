-- What is said of a class where it stands, but for its methods (Python Language Reference, "Class definitions").
--
-- The header of a class hangs on names and syntax alone. What is wrong with it is said where each of its decorators and bases has a
-- type. A name there is only asked to be known, and any other expression is typed like everywhere, with what is known where the
-- class stands. Of a class without a type in a decorator nothing more is said. As a base it is the header's to judge: nothing is
-- said of a class under an earlier one without a type, and the class itself, or one that is defined behind it, is refused as
-- a base whatever comes of it. Where the header is right, the definitions of each member along the order of the class are asked
-- to agree. Nor is anything said of a header that names as a base an earlier class that fails this test, or that is not asked.
use Rattle.std.specs.Prelude.{ℕ, Bool, true, not, ◌&&◌, ◌||◌, nat_lt, if◌then◌else◌, List, [], ◌++◌, Option, Some, None, slice_get}
use Rattle.std.specs.List.{list_all}
use Rattle.py_syntax.specs.declared.token.Span.{Span}
use Rattle.py_syntax.specs.Expressions.{ExprTree}
use Rattle.py_syntax.specs.Statements.{ClassTree}
use Rattle.py_syntax_diagnostics.specs.declared.diagnostic.Diag.{Diag}
use Rattle.py_check_context.specs.declared.scope.Meaning.{Meaning}
use Rattle.py_check_context.specs.declared.scope.Meaning.TheVariants.{Class}
use Rattle.py_check_context.specs.Context.{Context}
use Rattle.py_check_classes.specs.declared.header.Header.{Header}
use Rattle.py_check_classes.specs.Headers.{header_said}
use Rattle.py_check_overrides.specs.Overrides.{Verdict, passed, override_said}
use Rattle.py_check_flow.specs.Bindings.{name_in}
use Rattle.py_check_places.specs.Places.{Known}
use Rattle.py_check_definitions.specs.Decorators.{is_base_there, decorators_typed, parts_typed}

-- the classes of a module by their numbers: their headers, and what comes of the test that the definitions of their members agree
pub record ModuleClasses : Type 0 where
  pub headers : List Header
  pub verdicts : List Verdict

-- what is said of a class of this header
abbrev pub said_of_header : Span → List ℕ → Option Header → List Diag
said_of_header span name None = []
said_of_header span name (Some h) = header_said span name h

module _ (classes : ModuleClasses) where
  -- what a base means is no class that stands earlier than the one of a number and does not pass
  abbrev pub is_passed : ℕ → Meaning → Bool
  is_passed n (Class b) = not (nat_lt b n) || passed (slice_get classes.verdicts b)
  is_passed n m = true

module _ (classes : ModuleClasses) (c : Context) where
  abbrev pub base_passes : ℕ → Option (List ℕ) → Bool
  base_passes n None = true
  base_passes n (Some y) = is_passed classes n (c.meaning y)

  abbrev pub bases_pass : ℕ → List ExprTree → Bool
  bases_pass n bases = list_all (λ e. base_passes n (name_in e)) bases

  -- of the header of the class of a number, where each base that stands earlier passes
  abbrev pub heading_said : ℕ → Span → ClassTree → List Diag
  heading_said n span x = if bases_pass n x.bases then said_of_header span x.name (slice_get classes.headers n) else []

  -- of the class as a whole: of its header, and of its members
  abbrev pub whole_said : ℕ → Span → ClassTree → List Diag
  whole_said n span x = heading_said n span x ++ override_said c.classes span (slice_get classes.verdicts n)

module _ (classes : ModuleClasses) (c : Context) (k : Known) where
  -- each decorator and each base of a class has a type
  abbrev pub header_typed : ClassTree → Bool
  header_typed x = decorators_typed c k x.marks && parts_typed c k (λ y. is_base_there (c.meaning y)) x.bases

  -- WHAT IS SAID OF THE HEADER of the class of a number, and of its members as a whole
  abbrev pub class_header_said : ℕ → Span → ClassTree → List Diag
  class_header_said n span x = if header_typed x then whole_said classes c n span x else []
