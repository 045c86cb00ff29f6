-- The least of several forms that are not compiled: the one on the first line.
use Rattle.std.specs.Prelude.{nat_lt, if◌then◌else◌, List, [], ◌∷◌, Option, Some, None}
use Rattle.ir_builder_forms.specs.declared.form.Unbuilt.{Unbuilt}

-- the one on the lesser line, of a form and of one before it; on one line it is the one before
abbrev pub lesser : Unbuilt → Option Unbuilt → Unbuilt
lesser u None = u
lesser u (Some before) = if nat_lt u.line before.line then u else before

-- THE LEAST of a form, if there is one, and of others: of several on its line the first
abbrev pub least : Option Unbuilt → List Unbuilt → Option Unbuilt
least found [] = found
least found (u ∷ more) = least (Some (lesser u found)) more
