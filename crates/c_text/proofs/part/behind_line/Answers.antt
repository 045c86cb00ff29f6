use Rattle.std.proofs.Common.{[], ◌∷◌, ◌++◌, sym, subst}
use Rattle.c_text.specs.declared.part.Part.{Part}
use Rattle.c_text.specs.Parts.{IsFine, part_lines}
use Rattle.c_text.specs.Reading.{CanStand}
use Rattle.c_text.proofs.PartLemmas.{stops_closed}
use Rattle.c_text.proofs.part.behind_line.Goals as goal

pub returns : goal.returns
returns c =
    subst (λ (p : Part). ¬ (CanStand (part_lines p ++ c.args.piece.now ∷ []))) (sym c.in-Closed.is)
    (stops_closed c.in-Closed.field-0 c.args.piece.now (subst IsFine c.in-Closed.is c.requires))
