use Rattle.std.proofs.Common.{◌≡◌, refl, ◌∙◌, ℕ, ◌==◌, false, cond, List, [], ◌∷◌, length, Option, None}
use Rattle.std.specs.List.{position}
use Rattle.std.specs.Str.{bytes_eq}
use Rattle.c_core.proofs.checked.number_of.Goals as goal

some_name : (name : List ℕ) (r : Option ℕ) → false ≡ (length name == 0) → r ≡ cond (bytes_eq name []) None r
some_name [] r e = absurd (cc)
some_name (b ∷ bs) r e = refl

pub returns-else-is_empty : goal.returns-else-is_empty
returns-else-is_empty c =
    let name = c.args.name.now in
    c.copied.ensures ∙ (c.get.ensures.value ∙ (c.requires name ∙ some_name name (position (λ g. bytes_eq name g.name) c.args._code.now.funcs) c.if-is_empty.ensures))
