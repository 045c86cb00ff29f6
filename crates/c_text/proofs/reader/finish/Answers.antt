use Rattle.std.proofs.Common.{ℕ, ◌++◌, sym, subst}
use Rattle.c_text.specs.declared.text_error.TextError.TheVariants.{Refused}
use Rattle.c_text.specs.Parts.{part_lines}
use Rattle.c_text.specs.Reading.{SaysRefused}
use Rattle.c_core.specs.Text.{text_of}
use Rattle.c_text.proofs.ArgumentLemmas.{empty_is, more_is}
use Rattle.c_text.proofs.ReadLemmas.{finish_reading, refused_rest, refused_unended, unended_is}
use Rattle.c_text.proofs.reader.finish.Goals as goal

pub returns-then-is_empty-clause-reading : goal.returns-then-is_empty-clause-reading
returns-then-is_empty-clause-reading c =
    finish_reading c.args.part c.in-Closed.above c.args.rest.now c.code.result c.requires.fine c.in-Closed.is (empty_is c.args.rest.now c.if-is_empty.ensures) c.code.ensures

pub returns-in-Closed-clause-refused : goal.returns-in-Closed-clause-refused
returns-in-Closed-clause-refused c =
    subst (λ (n : ℕ). SaysRefused (text_of (part_lines c.args.part) ++ c.args.rest.now) (Refused n)) (sym c.requires.whole)
    (refused_rest c.args.part c.args.rest.now c.requires.fine c.requires.plain (more_is c.args.rest.now c.if-is_empty.ensures))

pub returns : goal.returns
returns c = record {
  reading = tt;
  refused = subst (λ (n : ℕ). SaysRefused (text_of (part_lines c.args.part) ++ c.args.rest.now) (Refused n)) (sym c.requires.whole)
      (refused_unended c.args.part c.args.rest.now c.requires.fine c.requires.plain (unended_is c.args.part c.in_default.not-Closed));
}
