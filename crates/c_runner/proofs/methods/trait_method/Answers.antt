use Rattle.std.proofs.Common.{sym, ap, ◌∙◌}
use Rattle.std.specs.List.{position}
use Rattle.std.specs.Option.{option_copied, option_flatten}
use Rattle.std.specs.Str.{bytes_eq}
use Rattle.c_core.specs.Functions.{trait_method_at}
use Rattle.c_runner.proofs.MethodLemmas.{no_class, no_functions, no_trait, no_entries, trait_found}
use Rattle.c_runner.proofs.methods.trait_method.Goals as goal

pub returns-in_default : goal.returns-in_default
returns-in_default c = no_class c.args.code.now c.args.class (trait_method_at c.args.name.now c.args.number) (sym c.get.ensures.value ∙ ap option_copied c.in_default.is)

pub returns-in_default-get : goal.returns-in_default-get
returns-in_default-get c = no_functions c.args.code.now c.args.class (trait_method_at c.args.name.now c.args.number) c.args.classes.now c.requires (sym c.get-2.ensures.value ∙ ap option_copied c.in_default-get.is)

pub returns-in_default-trait_place : goal.returns-in_default-trait_place
returns-in_default-trait_place c =
    no_trait c.args.code.now c.args.class c.args.name.now c.args.number c.in-Some.declared.now c.trait_place.result (sym c.in-Some.ensures.value)
    (c.trait_place.ensures ∙ ap (position (λ entry. bytes_eq c.args.name.now entry.0)) c.as_slice.ensures) c.in_default-trait_place.is

pub returns-in-None : goal.returns-in-None
returns-in-None c =
    no_entries c.args.code.now c.args.class c.args.name.now c.args.number c.args.classes.now c.in-Some-get.methods.now c.in-Some.declared.now c.trait_place.result c.in-Some-trait_place.place c.requires (sym c.in-Some-get.ensures.value) (sym c.in-Some.ensures.value)
    (c.trait_place.ensures ∙ ap (position (λ entry. bytes_eq c.args.name.now entry.0)) c.as_slice.ensures) c.in-Some-trait_place.is (sym c.in-None.ensures.value)

pub returns-in-Some-get-2 : goal.returns-in-Some-get-2
returns-in-Some-get-2 c =
    c.flatten.ensures
    ∙ ap option_flatten (c.copied.ensures ∙ c.get-in-Some-get-2.ensures.value)
    ∙ trait_found c.args.code.now c.args.class c.args.name.now c.args.number c.args.classes.now c.in-Some-get.methods.now c.in-Some.declared.now c.trait_place.result c.in-Some-trait_place.place c.requires (sym c.in-Some-get.ensures.value) (sym c.in-Some.ensures.value)
    (c.trait_place.ensures ∙ ap (position (λ entry. bytes_eq c.args.name.now entry.0)) c.as_slice.ensures) c.in-Some-trait_place.is c.in-Some-get-2.functions.now (sym c.in-Some-get-2.ensures.value)
