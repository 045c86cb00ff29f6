use Rattle.std.proofs.Common.{◌≡◌, ◌∙◌, length, sym, ap, subst, ◌<◌}
use Rattle.std.specs.Str.{bytes_eq}
use Rattle.indexmap.specs.IndexMap.{get}
use Rattle.py_check_overrides.specs.Lines.{known, said_of, is_by}
use Rattle.py_check_overrides.proofs.LineLemmas.{gone_lines, gone_known, gone_new, above_alike}
use Rattle.py_check_overrides.proofs.lines.Lines.add.Goals as goal

pub returns-clause-lines : goal.returns-clause-lines
returns-clause-lines c =
    let p = c.in_ok-place in
    let g = c.in_ok-go_on.ensures in
    let n : length c.next_place.new.self.line_of ≡ length c.args.self.now.line_of = ap length p.ensures.same in
    gone_lines c.next_place.new.self c.go_on.new.self c.args.above _ (get bytes_eq c.args.new.now) p.ensures.lines p.ensures.goes_on g.long g.line g.others g.line_of (λ q. ap (λ m. is_by m (get bytes_eq c.args.new.now q)) n ∙ c.requires.said q)

pub returns-clause-old : goal.returns-clause-old
returns-clause-old c =
    let p = c.in_ok-place in
    let g = c.in_ok-go_on.ensures in
    let n : length c.next_place.new.self.line_of ≡ length c.args.self.now.line_of = ap length p.ensures.same in
    λ d q l.
    gone_known c.next_place.new.self c.go_on.new.self c.args.above _ (get bytes_eq c.args.new.now) p.ensures.lines p.ensures.goes_on g.long g.line g.others g.line_of (λ q. ap (λ m. is_by m (get bytes_eq c.args.new.now q)) n ∙ c.requires.said q) d q (subst (λ m. d < m) (sym n) l)
    ∙ p.ensures.known d q

pub returns-clause-new : goal.returns-clause-new
returns-clause-new c =
    let p = c.in_ok-place in
    let g = c.in_ok-go_on.ensures in
    let n : length c.next_place.new.self.line_of ≡ length c.args.self.now.line_of = ap length p.ensures.same in
    λ q.
    let alike = above_alike q c.next_place.new.self c.args.self.now (λ d. p.ensures.known d q) c.args.above in
    ap (λ m. known c.go_on.new.self m q) (sym n)
    ∙ gone_new c.next_place.new.self c.go_on.new.self c.args.above _ (get bytes_eq c.args.new.now) p.ensures.lines p.ensures.goes_on g.long g.line g.others g.line_of (λ q. ap (λ m. is_by m (get bytes_eq c.args.new.now q)) n ∙ c.requires.said q) q (λ s. alike ∙ c.requires.fresh q s)
    ∙ ap (λ o. Rattle.std.specs.Option.option_or o (said_of (get bytes_eq c.args.new.now q))) alike
