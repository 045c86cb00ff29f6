-- The source lines of the code of a module.
use Rattle.std.specs.Prelude.{◌≡◌, ℕ, List, [], ◌∷◌, length, Some, slice_get}
use Rattle.py_typed.specs.Statements.{Variable, TypedFunc, TypedModule, TypedSuite}
use Rattle.ir_core.specs.declared.code.Func.{Func}
use Rattle.ir_core.specs.declared.code.Program.{Program}
use Rattle.ir_builder_frames.specs.Settings.{Setting}
use Rattle.ir_builder_statements.specs.Lined.{body, LinedPieces}
use Rattle.ir_builder.specs.Bodies.{body_frame}
use Rattle.ir_builder.specs.Registers.{beginning, variable_registers, variables_of}

-- what the body of a function with so many parameters is built for
abbrev pub setting_in : TypedModule → ℕ → List Variable → Setting
setting_in m params locals = record { source = m; variables = locals; frame = body_frame (variables_of params (length locals)) }

-- the code of a function is that of its body, with the lines of its statements and their expressions. What stands before and
-- behind the body stands for nothing in the text, and has line 0
abbrev pub LinedFunction : Setting → TypedSuite → Func → Type 0
LinedFunction x suite h =
    let start = beginning x.source (variable_registers x.variables) h.ret in
    LinedPieces x 0 (body suite ∷ []) start (record start { regs = h.regs; blocks = h.blocks })

-- a function of a program has the lines of a body
pub record LinedAt (p : Program) (n : ℕ) (x : Setting) (suite : TypedSuite) : Type 0 where
  pub code : Func
  pub there : slice_get p.funcs n ≡ Some code
  pub lined : LinedFunction x suite code

-- each function of a program has the lines of the module's function of its number, and the one behind these has those of the
-- module's own statements
pub record HasLines (m : TypedModule) (p : Program) : Type 0 where
  pub functions : (n : ℕ) (f : TypedFunc) → slice_get m.funcs n ≡ Some f → LinedAt p n (setting_in m f.params f.locals) f.body
  pub own : LinedAt p (length m.funcs) (setting_in m 0 []) m.top
