use Rattle.std.proofs.Common.{arith}
use Rattle.py_check_members.proofs.TableLemmas.{methods_few}
use Rattle.py_check_members.proofs.bodies.add_body_said.Goals as goal

pub class_events-requires : goal.class_events-requires
class_events-requires c = let few = methods_few c.args.body.now in omega (arith, few)
