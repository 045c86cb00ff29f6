-- What the code's members and verdicts stand for.
use Rattle.std.specs.Prelude.{List, map}
use Rattle.std.specs.Option.{option_map}
use Rattle.class_layout_members.specs.Views.{definition}
use Rattle.py_check_overrides.specs.Overrides as spec
use Rattle.py_check_overrides.specs.Overrides.{Own, clash_in, passes, fails, silent}
use Rattle.py_check_overrides.specs.declared.member.OwnMember.{OwnMember}
use Rattle.py_check_overrides.specs.declared.verdict.Clash.{Clash}
use Rattle.py_check_overrides.specs.declared.verdict.Verdict.{Verdict}
use Rattle.py_check_overrides.specs.declared.verdict.Verdict.TheVariants.{Passes, Fails, Silent}

abbrev pub own : OwnMember → Own
own m = (m.name.now, option_map definition m.definition)

abbrev pub owns : List (List OwnMember) → List (List Own)
owns members = map (map own) members

abbrev pub clash : Clash → spec.Clash
clash f = clash_in f.name.now f.class

abbrev pub verdict : Verdict → spec.Verdict
verdict Passes = passes
verdict (Fails f) = fails (clash f)
verdict Silent = silent
