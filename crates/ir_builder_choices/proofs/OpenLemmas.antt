-- The blocks of a choice whose ends are still to be written.
use Rattle.ir_builder_choices.proofs.Common.{◌≡◌, ◌∙◌, ap, ℕ, ◌+◌, ◌<◌, ◌≤◌, arith, length, RType, Unreachable, End, Building, held, Extends, Open, extends_trans, Opens, Brings}

pub test_open : (b c d : Building) (target test first : ℕ) (t : RType) → Opens b c target test first t → Extends c d → Open d test
test_open b c d target test first t opens x = record { place = length b.ops; is = x.items test (length b.ops) (End Unreachable) (ap (λ k. held c k (length b.ops)) opens.test_is ∙ opens.hole) }

pub end_open : (b c d : Building) (target r end : ℕ) → Brings b c target r end → Extends c d → Open d end
end_open b c d target r end brings x = record { place = length b.ops + 1; is = x.items end (length b.ops + 1) (End Unreachable) (ap (λ k. held c k (length b.ops + 1)) brings.end_is ∙ brings.hole) }

-- what both values of a choice need when they meet
pub meet_ready : (b2 b3 b4 b5 b7 : Building) (target target' test first r end second : ℕ) (t : RType) → Opens b2 b3 target test first t → Extends b3 b4 → Brings b4 b5 target' r end → second ≡ length b5.blocks → Extends b5 b7 → Open b7 test × (Open b7 end × ((test < first) × ((first ≤ end) × ((end < second) × (second ≤ length b7.blocks)))))
meet_ready b2 b3 b4 b5 b7 target target' test first r end second t opens x34 brings here x57 =
    let x37 = extends_trans b3 b5 b7 (extends_trans b3 b4 b5 x34 brings.extends) x57 in
    let a = opens.test_is in
    let b = opens.first_is in
    let c = opens.blocks in
    let d = x34.blocks_grow in
    let e = brings.end_is in
    let f = brings.blocks in
    let g = x57.blocks_grow in
    (test_open b2 b3 b7 target test first t opens x37, (end_open b4 b5 b7 target' r end brings x57, ((omega arith), ((omega arith), ((omega arith), (omega arith))))))
