-- The result of the function whose statements are built.
use Rattle.std.specs.Prelude.{◌≡◌, Option, Some, None}
use Rattle.py_typed.specs.Sorts.{Sort}
use Rattle.ir_builder_frames.specs.Settings.{rtype_of}
use Rattle.ir_builder_frames.specs.Among.{Surrounding}

-- it has this type, where the function gives one
abbrev pub GivesResult : Option Sort → Surrounding → Type 0
GivesResult None g = Unit {0}
GivesResult (Some t) g = g.ret ≡ rtype_of t
