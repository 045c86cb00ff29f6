use Rattle.std.proofs.Common.{◌+◌, ◌^◌, ◌<◌, length, subst}
use Rattle.py_check_names.specs.Outline.{methods_in}
use Rattle.py_check_members.proofs.TableLemmas.{body_is, class_added, class_linked}
use Rattle.py_check_members.proofs.tables.add_class.Goals as goal

pub class_members-requires-clause-few : goal.class_members-requires-clause-few
class_members-requires-clause-few c =
    subst (λ b. c.args.first + length (methods_in b) < 2 ^ 64) (body_is c.args.c.now c.as_slice-body.result.now c.as_slice-body.ensures) c.requires.few

pub returns : goal.returns
returns c =
    record {
      own = class_added c.args.known c.args.members.now c.as_slice.result.now c.push.new.self c.args.first c.args.c.now c.as_slice-body.result.now c.in_ok-class.class c.as_slice.ensures c.as_slice-body.ensures c.in_ok-class.ensures c.in_ok-push.ensures.ok;
      linked = class_linked c.args.known c.args.members.now c.as_slice.result.now c.push.new.self c.args.first c.args.c.now c.as_slice-body.result.now c.in_ok-class.class c.as_slice.ensures c.requires.linked c.in_ok-class.ensures c.in_ok-push.ensures.ok;
    }
