-- What the program's callee stands for, and what a value has under a name.
use Rattle.std.specs.Prelude.{map}
use Rattle.py_typed.specs.Sorts.{sort}
use Rattle.py_typed.specs.Classes.{signature}
use Rattle.py_check_calls.specs.declared.callees.Callee as declared
use Rattle.py_check_calls.specs.declared.callees.Callee.TheVariants as case
use Rattle.py_check_calls.specs.declared.methods.Had as declared_had
use Rattle.py_check_calls.specs.declared.methods.Had.TheVariants as had_case
use Rattle.py_check_calls.specs.Methods.{Had, has_attribute, has_method, has_append, has_pop, has_untyped, none_has_not, has_not}
use Rattle.py_check_calls.specs.Callees.{Callee, function, class, trait, super_init, print, input, range, single, exception, method, voiceless, uncalled, value}

abbrev pub callee_seen : declared.Callee → Callee
callee_seen (case.Function x i s) = function x.now i (signature s.now)
callee_seen (case.Class x n params) = class x.now n (map sort params.now)
callee_seen (case.Trait x params) = trait x.now (map sort params.now)
callee_seen (case.SuperInit next params) = super_init next (map sort params.now)
callee_seen case.Print = print
callee_seen case.Input = input
callee_seen case.Range = range
callee_seen (case.Single f) = single f
callee_seen (case.Exception x) = exception x
callee_seen (case.Method m) = method m.now
callee_seen case.Voiceless = voiceless
callee_seen case.Uncalled = uncalled
callee_seen case.Value = value

abbrev pub had_seen : declared_had.Had → Had
had_seen (had_case.Attribute t) = has_attribute (sort t.now)
had_seen (had_case.Method f) = has_method f
had_seen (had_case.Append t) = has_append (sort t.now)
had_seen (had_case.Pop t) = has_pop (sort t.now)
had_seen had_case.Untyped = has_untyped
had_seen had_case.NoneHasNot = none_has_not
had_seen had_case.HasNot = has_not
