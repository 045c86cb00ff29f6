use Rattle.std.proofs.Common.{sym, ◌∙◌, ◌++◌, arith, refl}
use Rattle.std.specs.Prelude.{codes}
use Rattle.c_core.specs.Text.{var_text}
use Rattle.c_text.proofs.Bytes.{same_front, space_stops}
use Rattle.c_text.proofs.ArgumentLemmas.{HasNo-variable}
use Rattle.c_text.proofs.line.target.Goals as goal

pub returns-in_default-behind : goal.returns-in_default-behind
returns-in_default-behind c = λ x value h e.
    let vars = c.args.vars.now in
    let s = same_front 32 (var_text vars x) c.in-Some.word.now (codes "= " ++ value) c.in-Some.rest.now (HasNo-variable 32 vars x (omega arith) space_stops refl c.requires h) c.in-Some.ensures.plain (e ∙ sym c.in-Some.ensures.whole) in
    c.in_default-behind.ensures value (sym s.1)

pub returns-in-None : goal.returns-in-None
returns-in-None c = λ x value h e.
    let vars = c.args.vars.now in
    let s = same_front 32 (var_text vars x) c.in-Some.word.now (codes "= " ++ value) c.in-Some.rest.now (HasNo-variable 32 vars x (omega arith) space_stops refl c.requires h) c.in-Some.ensures.plain (e ∙ sym c.in-Some.ensures.whole) in
    c.in-None.ensures x h s.0
