-- Where one comes from some blocks over edges.
use Rattle.std.specs.Prelude.{◌≡◌, ℕ, Bool, true, cond, List, [], get_or}
use Rattle.liveness.specs.declared.flood.Stop.{Stop}
use Rattle.liveness.specs.declared.flood.Stop.TheVariants.{Before, Behind, Nowhere}
use Rattle.liveness.specs.Paths.{is_among}

-- to some blocks that are tried first, and from one to those that are onward from it: each time only to one that may be entered
pub data Comes (onward_from : ℕ → List ℕ) (enters : ℕ → Bool) (tried : List ℕ) : ℕ → Type 0 where
  at_first : (t : ℕ) → is_among tried t ≡ true → enters t ≡ true → Comes onward_from enters tried t
  onward : (b t : ℕ) → Comes onward_from enters tried b → is_among (onward_from b) t ≡ true → enters t ≡ true → Comes onward_from enters tried t

-- which blocks are entered by a walk that stops at those that do not let it through: in front of them, behind them, or nowhere
abbrev pub entered : Stop → (ℕ → Bool) → ℕ → Bool
entered Before lets = lets
entered Behind lets = λ t. true
entered Nowhere lets = λ t. true

-- and to which ones it goes on from a block, over edges
abbrev pub onto : Stop → (ℕ → Bool) → List (List ℕ) → ℕ → List ℕ
onto Before lets edges = λ b. get_or edges b []
onto Behind lets edges = λ b. cond (lets b) (get_or edges b []) []
onto Nowhere lets edges = λ b. get_or edges b []
