use Rattle.c_text.proofs.LineTexts.{no_name, other_prefix}
use Rattle.c_text.proofs.declaration.kind_and_name.Goals as goal

pub returns-in_default-behind : goal.returns-in_default-behind
returns-in_default-behind c = λ v h. other_prefix c.args.prefix.now c.args.text.now c.in-Some.rest.now c.in-Some.kind c.in-Some.ensures c.in_default-behind.ensures v

pub returns-in-None : goal.returns-in-None
returns-in-None c =
    let n = rw c.in-None.is at c.in_ok-name.ensures in
    no_name c.args.prefix.now c.args.text.now c.in-Some.rest.now c.in-Some-behind.bytes.now c.in-Some.kind c.in-Some.ensures c.in-Some-behind.ensures n
