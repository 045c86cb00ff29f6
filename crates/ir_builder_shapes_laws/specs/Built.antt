-- A program as it is built: its functions are made among one another, and the module's own comes last.
use Rattle.std.specs.Prelude.{◌≡◌, ℕ, suc, ◌^◌, ◌<◌, ◌≤◌, true, false, List, [], ◌∷◌, ◌++◌, length, map, take, Some, slice_get}
use Rattle.std.specs.List.{list_all}
use Rattle.c_core.specs.WellFormed.{is_identifier, names_differ}
use Rattle.ir_core.specs.declared.code.RType.{RType}
use Rattle.ir_core.specs.declared.code.RType.TheVariants.{Bool}
use Rattle.ir_core.specs.declared.code.Op.TheVariants.{Turn}
use Rattle.ir_core.specs.declared.code.Func.{Func}
use Rattle.ir_core.specs.declared.code.Program.{Program}
use Rattle.ir_core.specs.Items.{Do, item_in}
use Rattle.ir_core.specs.Rows.{Declared}
use Rattle.ir_core.specs.Building.{is_open_at}
use Rattle.ir_builder_frames.specs.Shaped.{AllFit}
use Rattle.ir_builder_frames.specs.Kinds.{temporary_name, BlocksKinds}
use Rattle.ir_builder_frames.specs.Among.{FunctionType}
use Rattle.ir_builder_frames.specs.Naming.{names_of}

-- what a function takes and gives
abbrev pub head_of_code : Func → FunctionType
head_of_code f = record { params = map (λ d. d.1) (take f.params f.regs); ret = f.ret }

-- a function as its builder left it, among these functions and variables of the module: each operation suits the registers and
-- functions it names, all ends are written and lead to blocks of the function, and the names of its registers differ
pub record IsBuilt (heads : List FunctionType) (globals : Declared) (f : Func) : Type 0 where
  -- so many of its registers are variables; the others are temporary ones
  pub variables : ℕ
  pub params : f.params ≤ variables
  pub within : variables ≤ length f.regs
  pub named : (i : ℕ) (d : List ℕ × RType) → variables ≤ i → slice_get f.regs i ≡ Some d → (k : ℕ) × (d.0 ≡ temporary_name k)
  pub kinds : BlocksKinds (record { heads = heads; globals = globals; variables = variables; ret = f.ret }) f.regs f.blocks
  -- the highest block
  pub highest : ℕ
  pub blocks : length f.blocks ≡ suc highest
  pub fits : AllFit highest 0 f.blocks
  pub written : (k : ℕ) → is_open_at f.blocks k ≡ false
  pub few : length f.blocks < 2 ^ 64
  pub differ : names_differ (names_of f.regs) ≡ true
  pub identifiers : list_all is_identifier (names_of (take variables f.regs)) ≡ true

-- a function of the module begins with a turn
pub record IsFunction (heads : List FunctionType) (globals : Declared) (f : Func) : Type 0 where
  pub built : IsBuilt heads globals f
  pub turn : (line : ℕ) × (item_in f.blocks 0 0 ≡ Some (Do Turn line))
  pub name : is_identifier f.name ≡ true

-- the module's own function takes nothing, and gives a truth
pub record IsOwn (heads : List FunctionType) (globals : Declared) (f : Func) : Type 0 where
  pub built : IsBuilt heads globals f
  pub params : f.params ≡ 0
  pub ret : f.ret ≡ Bool

-- the functions of the module come first, under names that differ, and the module's own is the last; there are no classes
pub record IsProgram (p : Program) : Type 0 where
  pub functions : List Func
  pub own : Func
  pub are : p.funcs ≡ functions ++ own ∷ []
  pub each : (n : ℕ) (f : Func) → slice_get functions n ≡ Some f → IsFunction (map head_of_code functions) p.globals f
  pub own_built : IsOwn (map head_of_code functions) p.globals own
  pub differ : names_differ (map (λ (f : Func). f.name) functions) ≡ true
  pub classes : p.classes ≡ []
  pub globals : list_all is_identifier (names_of p.globals) ≡ true
  pub globals_differ : names_differ (names_of p.globals) ≡ true
