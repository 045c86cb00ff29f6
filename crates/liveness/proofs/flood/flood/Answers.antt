use Rattle.std.proofs.Common.{◌≡◌, ◌∙◌, ◌<◌, ◌+◌, [], ◌++◌, true, false, length, sym, ap, subst, arith, vec_len}
use Rattle.liveness.specs.Places.{lets_by}
use Rattle.liveness.specs.Rising.{with_mark}
use Rattle.liveness.specs.Flood.{entered, onto}
use Rattle.liveness.proofs.FloodLemmas.{Flooding, weight, weight_mark, flood_start, flood_past, flood_marks, flood_done, onto_edge, onto_size, edge_within, is_lacking, not_lacking, mark_same, empty_work}
use Rattle.liveness.proofs.flood.flood.Goals as goal
use Rattle.liveness.proofs.flood.flood.Goals.{else-is_entered-via-then-is_entered+in_ok-mark+else-branch, else-is_entered-via-else-is_entered}

pub loop-t-init : goal.loop-t-init
loop-t-init c =
    let lets = lets_by c.args.touches.now c.args.r in
    flood_start (onto c.args.stop lets c.args.edges.now) (entered c.args.stop lets) c.args.rows.now c.args.work.items c.args.r c.requires.most (λ b t e to. c.requires.waits b t e (onto_edge c.args.stop lets c.args.edges.now b t to))

pub loop-t-smaller-then-branch : goal.loop-t-smaller-then-branch
loop-t-smaller-then-branch c =
    let lets = lets_by c.args.touches.now c.args.r in
    let lacking = is_lacking c.loop-t.rows c.args.r c.in-Some.t (sym c.in_ok-mark.ensures.is_new ∙ c.if-branch.true) in
    let fits : length c.args.edges.now ≡ length c.loop-t.rows = c.requires.size ∙ sym c.loop-t.invariant.size in
    let falls = weight_mark c.args.r c.loop-t.rows c.args.edges.now c.in-Some.t lacking.0 fits lacking.1 in
    let now = ap (λ z. weight c.args.r z c.args.edges.now) c.in_ok-mark.ensures.marks in
    let more = c.in_ok-extend_from_slice.ensures.len in
    let added = ap length c.onto.ensures in
    let few = onto_size c.args.stop lets c.args.edges.now c.in-Some.t in
    let popped = c.in-Some.ensures.len in
    let less : weight c.args.r c.mark.new.rows c.args.edges.now + vec_len c.extend_from_slice.new.self < weight c.args.r c.loop-t.rows c.args.edges.now + vec_len c.loop-t.work = omega (arith, falls, now, more, added, few, popped) in
    less

pub loop-t-preserved-then-branch : goal.loop-t-preserved-then-branch
loop-t-preserved-then-branch c =
    let lets = lets_by c.args.touches.now c.args.r in
    let to = onto c.args.stop lets c.args.edges.now in
    let enters = entered c.args.stop lets in
    let lacking = is_lacking c.loop-t.rows c.args.r c.in-Some.t (sym c.in_ok-mark.ensures.is_new ∙ c.if-branch.true) in
    let before = subst (Flooding to enters c.args.rows.now c.args.work.items c.args.r c.loop-t.rows) c.in-Some.ensures.items c.loop-t.invariant in
    let marked = flood_marks to enters c.args.rows.now c.args.work.items c.args.r c.loop-t.rows c.pop.new.self.items c.in-Some.t before (sym c.is_entered.ensures ∙ c.if-is_entered.true) lacking.0 in
    let work : c.extend_from_slice.new.self.items ≡ c.pop.new.self.items ++ to c.in-Some.t =
    c.in_ok-extend_from_slice.ensures.items ∙ ap (λ z. c.pop.new.self.items ++ z) c.onto.ensures in
    subst (λ z. Flooding to enters c.args.rows.now c.args.work.items c.args.r z c.extend_from_slice.new.self.items) (sym c.in_ok-mark.ensures.marks)
    (subst (Flooding to enters c.args.rows.now c.args.work.items c.args.r (with_mark c.loop-t.rows c.args.r c.in-Some.t)) (sym work) marked)

pub loop-t-preserved : goal.loop-t-preserved
loop-t-preserved c =
    let lets = lets_by c.args.touches.now c.args.r in
    let to = onto c.args.stop lets c.args.edges.now in
    let enters = entered c.args.stop lets in
    let before = subst (Flooding to enters c.args.rows.now c.args.work.items c.args.r c.loop-t.rows) c.in-Some.ensures.items c.loop-t.invariant in
    let past = flood_past to enters c.args.rows.now c.args.work.items c.args.r c.loop-t.rows c.pop.new.self.items c.in-Some.t before in
    elim c.else-is_entered.branch [
      | else-is_entered-via-then-is_entered+in_ok-mark+else-branch w ↦
          let old = sym w.in_ok-mark.ensures.is_new ∙ w.if-branch.false in
          let same : c.else-is_entered.rows ≡ c.loop-t.rows =
          w.rows-is ∙ w.in_ok-mark.ensures.marks ∙ mark_same c.loop-t.rows c.args.r c.in-Some.t old in
          subst (λ z. Flooding to enters c.args.rows.now c.args.work.items c.args.r z c.pop.new.self.items) (sym same) (past (λ enters_it lt. not_lacking c.loop-t.rows c.args.r c.in-Some.t old lt))
      | else-is_entered-via-else-is_entered w ↦
          subst (λ z. Flooding to enters c.args.rows.now c.args.work.items c.args.r z c.pop.new.self.items) (sym w.rows-is) (past (λ enters_it lt. let clash : true ≡ false = sym enters_it ∙ sym c.is_entered.ensures ∙ w.if-is_entered.false in absurd (cc)))
    ]

pub returns-clause-comes : goal.returns-clause-comes
returns-clause-comes c =
    let lets = lets_by c.args.touches.now c.args.r in
    let to = onto c.args.stop lets c.args.edges.now in
    let enters = entered c.args.stop lets in
    let none : c.loop-t.work.items ≡ [] = empty_work c.loop-t.work.items c.pop.new.self.items (vec_len c.loop-t.work) c.in_default.ensures.items c.in_default.ensures.rest c.in_default.ensures.cases.0 in
    flood_done to enters c.args.rows.now c.args.work.items c.args.r c.loop-t.rows (subst (Flooding to enters c.args.rows.now c.args.work.items c.args.r c.loop-t.rows) none c.loop-t.invariant) (λ b t e. let within = edge_within c.args.edges.now b t (onto_edge c.args.stop lets c.args.edges.now b t e) in omega (arith, within, c.requires.size))
