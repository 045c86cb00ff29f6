-- The calls that build a choice.
use Rattle.ir_builder_choices.proofs.Common.{◌≡◌, ◌≢◌, sym, ◌∙◌, ap, ℕ, ◌+◌, ◌<◌, arith, length, Some, RType, Move, Goto, If, Unreachable, End, Building, with_last, held, item_at, Declares, Pushes, Closes, Open, extends_trans, has_less, does_at, type_kept, type_same, Opens, Brings, Meets}
use Rattle.ir_builder_frames.proofs.PatchLemmas.{patches}

pub opens_by : (a b c : Building) (target test first : ℕ) (t : RType) → Declares a b target t → test ≡ length b.blocks → Closes b c Unreachable → first ≡ length c.blocks → Opens a c target test first t
opens_by a b c target test first t d number e here = record {
  extends = extends_trans a b c d.extends e.extends;
  made = d.made;
  type = type_kept b c target t e.extends d.type;
  test_is = number ∙ d.blocks;
  first_is = here;
  blocks = omega (arith, e.blocks, d.blocks);
  ops = e.ops;
  hole = ap (λ k. held c k (length a.ops)) (sym d.blocks) ∙ ap (held c (length b.blocks)) (sym d.ops) ∙ e.at;
}

pub brings_by : {line : ℕ} (a b c : Building) (target r end : ℕ) → Pushes a b (Move record { 0 = target } record { 0 = r }) line → end ≡ length b.blocks → Closes b c Unreachable → Brings a c target r end
brings_by {line} a b c target r end q number e = record {
  extends = extends_trans a b c q.extends e.extends;
  end_is = number ∙ q.blocks;
  blocks = omega (arith, e.blocks, q.blocks);
  ops = e.ops;
  line = line;
  move = e.extends.items _ _ _ q.at;
  hole = ap (λ k. held c k (length a.ops + 1)) (sym q.blocks) ∙ ap (held c (length b.blocks)) (sym q.ops) ∙ e.at;
}

pub meets_by : {line : ℕ} (a b c d e : Building) (target r condition test first end second join : ℕ) → Pushes a b (Move record { 0 = target } record { 0 = r }) line → Closes b c (Goto join) → join ≡ length c.blocks → d ≡ record c { blocks = with_last c.blocks test (If record { 0 = condition } first second) } → e ≡ record d { blocks = with_last d.blocks end (Goto join) } → Open a test → Open a end → test < end → Meets a e target r condition test first end second
meets_by {line} a b c d e target r condition test first end second join q k number first_patch second_patch open_test open_end order =
    let xac = extends_trans a b c q.extends k.extends in
    let other : end ≢ test = λ z. omega arith in
    let p1 = patches c d test (If record { 0 = condition } first second) record { place = open_test.place; is = xac.items _ _ _ open_test.is } (λ z. cc) first_patch in
    let p2 = patches d e end (Goto join) record { place = open_end.place; is = p1.others end open_end.place _ other (xac.items _ _ _ open_end.is) } (λ z. cc) second_patch in
    let regs : e.regs ≡ c.regs = p2.same_regs ∙ p1.same_regs in
    let top : join ≡ length e.blocks = omega (arith, number, p1.blocks, p2.blocks) in
    record {
      has = λ p fn h. has_less p fn a c xac (p1.has p fn (p2.has p fn h));
      extends = λ z x low high. p2.extends z (p1.extends z (extends_trans z a c x xac) low) high;
      types = λ s t h. type_same c e s t regs (type_kept a c s t xac h);
      handlers = λ j le. p2.handlers j ∙ p1.handlers j ∙ xac.handlers j le;
      blocks = omega (arith, p1.blocks, p2.blocks, k.blocks, q.blocks);
      ops = p2.ops ∙ p1.ops ∙ k.ops;
      line = line;
      move = λ p fn h. does_at p fn b (length a.blocks) (length a.ops) _ (has_less p fn b c k.extends (p1.has p fn (p2.has p fn h))) q.at;
      jump = λ p fn h. ap (λ j. item_at p fn j (length a.ops + 1)) (sym q.blocks) ∙ ap (item_at p fn (length b.blocks)) (sym q.ops) ∙ (p1.has p fn (p2.has p fn h)).items (length b.blocks) (length b.ops) (End (Goto join)) (λ z. cc) k.at ∙ ap (λ j. Some (End (Goto j))) top;
      tests = λ p fn i h hole. p1.code p fn i (p2.has p fn h) (xac.items test i _ hole);
      ends = λ p fn i h hole. p2.code p fn i h (p1.others end i _ other (xac.items end i _ hole)) ∙ ap (λ j. Some (End (Goto j))) top;
    }
