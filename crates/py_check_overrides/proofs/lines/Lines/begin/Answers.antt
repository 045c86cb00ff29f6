use Rattle.std.proofs.Common.{rules, ◌≡◌, length, refl, sym, ap, subst, arith}
use Rattle.std.proofs.lemmas.Grind.{common_steps}
use Rattle.std.specs.Map.{lookup}
use Rattle.std.specs.Str.{bytes_eq}
use Rattle.py_check_overrides.specs.Lines.{GoesOn}
use Rattle.py_check_overrides.proofs.LineLemmas.{begun_known, begun_lines, begun}
use Rattle.py_check_overrides.proofs.lines.Lines.begin.Goals as goal

pub returns-clause-lines : goal.returns-clause-lines
returns-clause-lines c =
    begun_lines c.args.self.now (record { lines = c.push.new.self; line_of = c.args.self.now.line_of }) c.args.above _ c.requires.lines c.requires.there c.in_ok-push.ensures.items refl c.len.ensures refl (λ q. ap (λ e. lookup (bytes_eq q) e) c.new.ensures.empty)

pub returns-clause-known : goal.returns-clause-known
returns-clause-known c =
    begun_known c.args.self.now (record { lines = c.push.new.self; line_of = c.args.self.now.line_of }) c.args.above _ c.requires.lines c.requires.there c.in_ok-push.ensures.items refl c.len.ensures refl (λ q. ap (λ e. lookup (bytes_eq q) e) c.new.ensures.empty)

pub returns-clause-goes_on : goal.returns-clause-goes_on
returns-clause-goes_on c =
    let at : c.len-place.result ≡ length c.args.self.now.lines.items = first_of (search (rules, c.len-place.ensures), grind (arith, common_steps, c.len-place.ensures)) in
    subst (GoesOn (record { lines = c.push.new.self; line_of = c.args.self.now.line_of }) c.args.above) (sym at)
    (begun c.args.self.now (record { lines = c.push.new.self; line_of = c.args.self.now.line_of }) c.args.above _ c.requires.lines c.requires.there c.in_ok-push.ensures.items refl c.len.ensures refl (λ q. ap (λ e. lookup (bytes_eq q) e) c.new.ensures.empty))
