-- What is found of verdicts and members by the number of a class.
use Rattle.std.proofs.Common.{◌≡◌, ℕ, List, map, slice_get}
use Rattle.std.specs.Option.{option_map}
use Rattle.std.proofs.lemmas.Option.{slice_get-map}
use Rattle.py_check_overrides.specs.Views.{own, owns, verdict}
use Rattle.py_check_overrides.specs.declared.member.OwnMember.{OwnMember}
use Rattle.py_check_overrides.specs.declared.verdict.Verdict.{Verdict}

pub verdict_found : (before : List Verdict) (c : ℕ) → slice_get (map verdict before) c ≡ option_map verdict (slice_get before c)
verdict_found before c = slice_get-map verdict before c

pub owns_found : (members : List (List OwnMember)) (c : ℕ) → slice_get (owns members) c ≡ option_map (map own) (slice_get members c)
owns_found members c = slice_get-map (map own) members c
