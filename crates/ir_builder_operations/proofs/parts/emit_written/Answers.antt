use Rattle.ir_builder_operations.proofs.Common.{◌≡◌, sym, ap, ◌∙◌, subst, List, [], ◌∷◌, ◌++◌, inl, ℕ, PArg, Text}
use Rattle.ir_builder_frames.specs.Kinds.{Answers}
use Rattle.ir_builder_operations.proofs.parts.emit_written.Goals as goal

pub primitive-requires : goal.primitive-requires
primitive-requires c =
    let is : c.push.new.self ≡ Text c.args.text.now ∷ [] = c.in_ok-push.ensures.ok ∙ ap (λ (z : List PArg). z ++ (Text c.in_ok-from_str.field-0 ∷ [])) c.new-args.ensures ∙ ap (λ (z : List ℕ). Text z ∷ []) c.in_ok-from_str.ensures in
    record { fits = inl (subst (Answers c.args.t c.args.b.now.regs c.args.primitive) (sym is) c.requires.fits) }
