use Rattle.std.proofs.Common.{◌≡◌, ◌++◌, map, drop}
use Rattle.py_typed.specs.Classes.{signature}
use Rattle.class_layout_members.specs.Views.{member, of_signature}
use Rattle.class_layout_members.proofs.member.add_methods.Given as goal

abbrev pub invariant-loop-name : goal.invariant-loop-name
invariant-loop-name l =
    map member l.members ++ map (of_signature (map signature l.sigs)) (drop l.name-index l.methods) ≡ map member l.fn.members ++ map (of_signature (map signature l.sigs)) l.methods
