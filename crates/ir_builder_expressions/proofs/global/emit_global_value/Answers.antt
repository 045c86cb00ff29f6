use Rattle.ir_builder_expressions.proofs.Common.{◌≡◌, rules, ap, ◌∙◌, inr, List, [], ◌∷◌, ◌++◌, get_or, refl, Var, PArg, Reg, ok_map, setting_of}
use Rattle.ir_core.specs.declared.code.PArg.TheVariants as arg
use Rattle.ir_builder_expressions.proofs.ReadingLemmas.{global_emits, global_fits}
use Rattle.ir_builder_expressions.proofs.global.emit_global_value.Goals as goal

pub primitive-requires : goal.primitive-requires
primitive-requires c =
    let vs : List Var = c.args.site.checked.now.globals in
    let v : Var = c.index-as_slice-i.result in
    let is : v ≡ get_or vs c.args.i v = c.index-as_slice-i.is ∙ ap (λ (l : List Var). get_or l c.args.i v) c.as_slice.ensures in
    let copied : c.in_ok-clone.field-0 ≡ v.name = search rules in
    let args : c.push.new.self ≡ arg.Global c.in_ok-clone.field-0 ∷ [] = c.in_ok-push.ensures.ok ∙ ap (λ (l : List PArg). l ++ arg.Global c.in_ok-clone.field-0 ∷ []) c.new-args.ensures in
    record { fits = inr (global_fits (setting_of c.args.site) vs refl c.args.i v _ _ _ c.requires.there is c.register_type.ensures copied args _ c.requires.room.among) }

pub returns-clause-emitted : goal.returns-clause-emitted
returns-clause-emitted c =
    let vs : List Var = c.args.site.checked.now.globals in
    let v : Var = c.index-as_slice-i.result in
    let is : v ≡ get_or vs c.args.i v = c.index-as_slice-i.is ∙ ap (λ (l : List Var). get_or l c.args.i v) c.as_slice.ensures in
    let copied : c.in_ok-clone.field-0 ≡ v.name = search rules in
    let args : c.push.new.self ≡ arg.Global c.in_ok-clone.field-0 ∷ [] = c.in_ok-push.ensures.ok ∙ ap (λ (l : List PArg). l ++ arg.Global c.in_ok-clone.field-0 ∷ []) c.new-args.ensures in
    ok_map _ _ _ (λ (r : Reg) a. global_emits (setting_of c.args.site) vs refl c.args.i v _ _ _ c.requires.there is c.register_type.ensures copied args _ _ r.0 c.requires.room a) c.primitive.ensures.added
