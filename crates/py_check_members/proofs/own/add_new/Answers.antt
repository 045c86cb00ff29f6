use Rattle.std.proofs.Common.{rules, ◌≡◌, true, false, is_some}
use Rattle.std.specs.Map.{lookup}
use Rattle.std.specs.Str.{bytes_eq}
use Rattle.py_check_members.proofs.NewLemmas.{new_kept, new_added}
use Rattle.py_check_members.proofs.own.add_new.Goals as goal

pub returns-then-contains_key : goal.returns-then-contains_key
returns-then-contains_key c =
    let there : is_some (lookup (bytes_eq c.args.name.now) c.args.own.now.entries) ≡ true = search (rules, c.contains_key.ensures, c.if-contains_key.true) in
    new_kept c.args.own.now.entries c.args.name.now c.args.made there

pub returns : goal.returns
returns c =
    let new : is_some (lookup (bytes_eq c.args.name.now) c.args.own.now.entries) ≡ false = search (rules, c.contains_key.ensures, c.if-contains_key.false) in
    let copied : c.in_ok-clone.field-0 ≡ c.args.name.now = search rules in
    new_added c.args.own.now.entries c.insert.new.self.entries c.args.name.now c.in_ok-clone.field-0 c.args.made new copied c.in_ok-insert.ensures.entries
