use Rattle.std.proofs.Common.{rules, ◌≡◌, ◌∙◌, Some, None, sym}
use Rattle.std.specs.Str.{bytes_eq}
use Rattle.indexmap.specs.IndexMap.{get}
use Rattle.class_layout_members.specs.Views.{definition}
use Rattle.py_check_overrides.specs.Lines.{line_at, up_to}
use Rattle.py_check_overrides.proofs.LineLemmas.{known_found, known_up, above_is}
use Rattle.py_check_overrides.proofs.lines.Lines.known.Goals as goal

pub returns-in-Some-up_to : goal.returns-in-Some-up_to
returns-in-Some-up_to c =
    let at = c.loop-line.at in
    let line = c.in-Some.line.now in
    let is : line_at c.args.self.now at ≡ Some line = search (rules, c.line_at.ensures, c.in-Some.is, c.in-Some.line-is) in
    let found : up_to at (get bytes_eq line.said c.args.name.now) ≡ Some (definition c.in-Some-up_to.found) = search (rules, c.up_to.ensures, c.get.ensures.value, c.in-Some-up_to.is, c.in-Some-up_to.found-is) in
    sym (known_found c.args.self.now c.args.name.now c.requires.falls at line is (definition c.in-Some-up_to.found) found) ∙ c.loop-line.invariant

pub loop-line-smaller : goal.loop-line-smaller
loop-line-smaller c =
    let at = c.loop-line.at in
    let line = c.in-Some.line.now in
    let is : line_at c.args.self.now at ≡ Some line = search (rules, c.line_at.ensures, c.in-Some.is, c.in-Some.line-is) in
    let over : line.above ≡ Some c.in-Some-above.above = search (rules, c.in-Some-above.is) in
    c.requires.falls at c.in-Some-above.above (above_is c.args.self.now c.args.name.now c.requires.falls at line is c.in-Some-above.above over)

pub loop-line-preserved : goal.loop-line-preserved
loop-line-preserved c =
    let at = c.loop-line.at in
    let line = c.in-Some.line.now in
    let is : line_at c.args.self.now at ≡ Some line = search (rules, c.line_at.ensures, c.in-Some.is, c.in-Some.line-is) in
    let over : line.above ≡ Some c.in-Some-above.above = search (rules, c.in-Some-above.is) in
    let none : up_to at (get bytes_eq line.said c.args.name.now) ≡ None = search (rules, c.up_to.ensures, c.get.ensures.value, c.in_default-up_to.is, c.in_default-up_to.not-Some) in
    sym (known_up c.args.self.now c.args.name.now c.requires.falls at line is c.in-Some-above.above none over) ∙ c.loop-line.invariant
