use Rattle.std.proofs.Common.{sym, ◌∙◌, ◌-◌}
use Rattle.py_lexer.proofs.IndentLemmas.{leaves, unindented, tabbed, stays, too_deep, deeper, move_fault, move_closes, move_opens}
use Rattle.py_lexer.proofs.indent.move_to.Goals as goal

pub returns-then-level-at : goal.returns-then-level-at
returns-then-level-at c =
    let levels = c.args.levels.now in
    let left = leaves c.args.at c.innermost-level.result levels.items _ _ c.kept-count.result c.len.result c.deref.ensures.value c.deref-2.ensures.value (c.len.ensures ∙ levels.ok.0) c.kept-count.ensures.value c.kept-count.ensures.within c.innermost-level.ensures in
    move_fault c.args.tokens.now.items c.args.line c.args.place _ _ (unindented _ _ _ _ _ left c.if-closed-gt0.true c.if-level-at.true)

pub returns-then-not-agree : goal.returns-then-not-agree
returns-then-not-agree c =
    let levels = c.args.levels.now in
    let left = leaves c.args.at c.innermost-level.result levels.items _ _ c.kept-count.result c.len.result c.deref.ensures.value c.deref-2.ensures.value (c.len.ensures ∙ levels.ok.0) c.kept-count.ensures.value c.kept-count.ensures.within c.innermost-level.ensures in
    move_fault c.args.tokens.now.items c.args.line c.args.place _ _ (tabbed _ _ _ _ _ left c.else-closed-gt0.either (sym c.agree.ensures ∙ c.if-not-agree.true))

pub returns-then-at-level : goal.returns-then-at-level
returns-then-at-level c =
    let levels = c.args.levels.now in
    let left = leaves c.args.at c.innermost-level.result levels.items _ _ c.kept-count.result c.len.result c.deref.ensures.value c.deref-2.ensures.value (c.len.ensures ∙ levels.ok.0) c.kept-count.ensures.value c.kept-count.ensures.within c.innermost-level.ensures in
    move_closes c.args.tokens.now.items c.close.new.tokens.items c.args.line c.args.place _ (c.len.result - c.kept-count.result) _ c.truncate.new.self.items (stays _ _ _ _ _ left c.else-closed-gt0.either (sym c.agree.ensures ∙ c.if-not-agree.false) c.if-at-level.true) c.truncate.ensures.items c.in_ok-close.ensures

pub returns-then-count-ge-MOST_LEVELS : goal.returns-then-count-ge-MOST_LEVELS
returns-then-count-ge-MOST_LEVELS c =
    let levels = c.args.levels.now in
    let left = leaves c.args.at c.innermost-level.result levels.items _ _ c.kept-count.result c.len.result c.deref.ensures.value c.deref-2.ensures.value (c.len.ensures ∙ levels.ok.0) c.kept-count.ensures.value c.kept-count.ensures.within c.innermost-level.ensures in
    move_fault c.args.tokens.now.items c.args.line c.args.place _ _ (too_deep _ _ _ _ _ left c.else-closed-gt0.either (sym c.agree.ensures ∙ c.if-not-agree.false) c.if-at-level.false c.if-count-ge-MOST_LEVELS.true)

pub returns : goal.returns
returns c =
    let levels = c.args.levels.now in
    let left = leaves c.args.at c.innermost-level.result levels.items _ _ c.kept-count.result c.len.result c.deref.ensures.value c.deref-2.ensures.value (c.len.ensures ∙ levels.ok.0) c.kept-count.ensures.value c.kept-count.ensures.within c.innermost-level.ensures in
    move_opens c.args.tokens.now.items c.push-2.new.self.items c.args.line c.args.place _ c.args.at levels.items c.push.new.self.items (deeper _ _ _ _ _ left c.else-closed-gt0.either (sym c.agree.ensures ∙ c.if-not-agree.false) c.if-at-level.false c.if-count-ge-MOST_LEVELS.false) c.in_ok-push.ensures.items c.in_ok-push-2.ensures.items
