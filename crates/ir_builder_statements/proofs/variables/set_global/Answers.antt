use Rattle.ir_builder_statements.proofs.Common.{◌≡◌, rules, ap, ◌∙◌, List, [], ◌∷◌, ◌++◌, get_or, refl, inr, Var, typed_module, PArg, on_ok_map}
use Rattle.ir_core.specs.declared.code.PArg.TheVariants as arg
use Rattle.ir_builder_statements.proofs.VariableLemmas.{stored, global_sets, global_fits}
use Rattle.ir_builder_statements.proofs.variables.set_global.Goals as goal
use Rattle.ir_builder_statements.proofs.variables.set_global.Goals.{In_ok-push-2}

-- the variable that is named, and the arguments
named_there : (c : In_ok-push-2) → c.index-as_slice-i.result ≡ get_or c.args.site.checked.now.globals c.args.i c.index-as_slice-i.result
named_there c = c.index-as_slice-i.is ∙ ap (λ (l : List Var). get_or l c.args.i c.index-as_slice-i.result) c.as_slice.ensures

arguments_are : (c : In_ok-push-2) → c.push-2.new.self ≡ stored c.index-as_slice-i.result.name c.args.r
arguments_are c =
    let copied : c.in_ok-name.name ≡ c.index-as_slice-i.result.name = search rules in
    let first : c.push.new.self ≡ arg.Global c.in_ok-name.name ∷ [] = c.in_ok-push.ensures.ok ∙ ap (λ (l : List PArg). l ++ arg.Global c.in_ok-name.name ∷ []) c.new-args.ensures in
    c.in_ok-push-2.ensures.ok ∙ ap (λ (l : List PArg). l ++ arg.Var c.args.r ∷ []) first ∙ ap (λ n. stored n c.args.r) copied

pub push-requires-3 : goal.push-requires-3
push-requires-3 c =
    let k = (goal.at.push-requires-3 c).In_ok-push-2 in
    record { fits = (refl, inr (global_fits (typed_module c.args.site.checked.now) c.args.b.now.among c.args.site.checked.now.globals c.args.i c.index-as_slice-i.result c.args.r _ c.args.b.now refl (named_there k) (arguments_are k) c.requires.among c.requires.takes)) }

pub returns-clause-sets : goal.returns-clause-sets
returns-clause-sets c =
    let k = (goal.at.returns-clause-sets c).In_ok-push-2 in
    on_ok_map _ _ _ (global_sets (typed_module c.args.site.checked.now) c.args.site.checked.now.globals c.args.i c.index-as_slice-i.result c.args.r _ _ _ refl (named_there k) (arguments_are k)) c.push-3.ensures.pushed
