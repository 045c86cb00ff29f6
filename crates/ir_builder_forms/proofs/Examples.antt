-- What some forms are called, and the least of a few.
use Rattle.std.proofs.Common.{◌≡◌, refl, [], ◌∷◌, Some, None, codes}
use Rattle.ir_builder_forms.specs.declared.form.Form.TheVariants as form
use Rattle.ir_builder_forms.specs.declared.form.TypeKind.TheVariants as kind
use Rattle.ir_builder_forms.specs.declared.form.Unbuilt.{Unbuilt}
use Rattle.ir_builder_forms.specs.Forms.{form_text}
use Rattle.ir_builder_forms.specs.Least.{least}

called : form_text (form.Index kind.List) ≡ codes "index of a list"
called = refl

called_plainly : form_text form.MethodCall ≡ codes "method call"
called_plainly = refl

abbrev class : Unbuilt
class = record { line = 4; form = form.Class }

abbrev loop : Unbuilt
loop = record { line = 2; form = form.For }

abbrev other : Unbuilt
other = record { line = 2; form = form.Del }

-- the first on the first line
of_three : least None (class ∷ loop ∷ other ∷ []) ≡ Some loop
of_three = refl
