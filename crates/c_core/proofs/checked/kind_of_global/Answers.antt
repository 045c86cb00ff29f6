use Rattle.std.proofs.Common.{◌≡◌, sym, ap, ◌∙◌, Some}
use Rattle.std.specs.List.{position}
use Rattle.std.specs.Option.{option_copied, option_map}
use Rattle.std.specs.Str.{bytes_eq}
use Rattle.c_core.specs.WellFormed.{Declared, kind_at}
use Rattle.c_core.proofs.IndexLemmas.{at_place, at_none}
use Rattle.c_core.proofs.checked.kind_of_global.Goals as goal

pub returns-in-Some : goal.returns-in-Some
returns-in-Some c =
    let globals = c.args.code.now.globals in
    let name = c.args.name.now in
    let number = c.in-Some.number.now in
    let there : Some number ≡ position (λ (g : Declared). bytes_eq name g.0) globals =
    ap option_copied (sym c.in-Some.is) ∙ (c.get.ensures.value ∙ c.requires name) in
    c.kind_at.ensures ∙ (ap (λ vars. kind_at vars number) c.as_slice.ensures ∙ ap (option_map (λ (g : Declared). g.1)) (at_place (λ (g : Declared). bytes_eq name g.0) globals number there))

pub returns-in-None : goal.returns-in-None
returns-in-None c =
    let globals = c.args.code.now.globals in
    let name = c.args.name.now in
    ap (option_map (λ (g : Declared). g.1)) (at_none (λ (g : Declared). bytes_eq name g.0) globals (ap option_copied (sym c.in-None.is) ∙ (c.get.ensures.value ∙ c.requires name)))
