use Rattle.error_edges.proofs.Kept.{means, fits}
use Rattle.error_edges.proofs.Shaping.{all_give, each_has_edges, shape_kept}
use Rattle.error_edges.proofs.Whole.{program_laid}
use Rattle.error_edges.proofs.add_error_edges.Goals as goal

pub returns-clause-kept : goal.returns-clause-kept
returns-clause-kept c =
    means c.args.p c.in_ok-program.program (program_laid c.args.p c.in_ok-program.program c.in_ok-program.ensures (all_give c.args.p c.in_ok-program.program c.in_ok-program.ensures c.requires.shape)) c.requires.calm

pub returns-clause-fits : goal.returns-clause-fits
returns-clause-fits c =
    fits c.args.p c.in_ok-program.program (program_laid c.args.p c.in_ok-program.program c.in_ok-program.ensures (all_give c.args.p c.in_ok-program.program c.in_ok-program.ensures c.requires.shape)) c.requires.calm

pub returns-clause-edges : goal.returns-clause-edges
returns-clause-edges c = each_has_edges c.args.p c.in_ok-program.program c.in_ok-program.ensures c.requires.shape

pub returns-clause-shaped : goal.returns-clause-shaped
returns-clause-shaped c = shape_kept c.args.p c.in_ok-program.program c.in_ok-program.ensures c.requires.shape
