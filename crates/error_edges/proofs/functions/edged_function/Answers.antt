use Rattle.std.proofs.Common.{rules, refl, sym, ap, ◌∙◌, map}
use Rattle.ir_core.specs.Missing.{edges_of}
use Rattle.error_edges.proofs.FunctionLemmas.{edged_by}
use Rattle.error_edges.proofs.functions.edged_function.Goals as goal

pub edged_blocks-requires : goal.edged_blocks-requires
edged_blocks-requires c =
    let bs = c.as_slice-2.result.now in
    let ds = c.as_slice-3.result.now in
    c.in_ok-plan.ensures.edges
    ∙ (ap (λ rs. map (edges_of rs bs) bs) (c.as_slice.ensures ∙ sym c.as_slice-3.ensures) ∙ ap (λ xs. map (edges_of ds xs) xs) c.as_slice-2.ensures)

pub returns : goal.returns
returns c =
    let plan = c.in_ok-plan.plan in
    let known = c.in_ok-plan.ensures in
    edged_by c.args.f _ c.in_ok-regs.regs c.as_slice.result.now c.as_slice-3.result.now c.as_slice-2.result.now plan.starts.items plan.exit plan.needs_flag plan.needs_exit
    c.as_slice.ensures c.as_slice-3.ensures c.as_slice-2.ensures known.starts known.exit known.needs_flag known.needs_exit refl refl refl c.in_ok-regs.ensures c.in_ok-regs-2.ensures c.in_ok-blocks.ensures (search rules)
