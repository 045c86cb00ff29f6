-- Into a block: at the start of a function, at a label, and over detours.
use Rattle.std.proofs.Common.{◌≡◌, refl, sym, ◌∙◌, ap, subst, ℕ, zero, suc, ◌+◌, ◌<◌, ◌≤◌, arith, false, List, ◌∷◌, ◌++◌, Some, drop, ⊎_elim}
use Rattle.std.specs.Prelude.{slice_get}
use Rattle.c_core.specs.declared.code.Line.{Line}
use Rattle.c_core.specs.declared.code.Line.TheVariants as line
use Rattle.c_core.specs.Functions.{label_places}
use Rattle.c_core.specs.Machine.{MachineState}
use Rattle.c_core.specs.Step.{Goes, label_at, next_line, at_place, jumped, step_at}
use Rattle.ir_core.specs.declared.code.Op.{Op}
use Rattle.ir_core.specs.declared.code.Last.TheVariants.{Goto}
use Rattle.ir_core.specs.declared.code.Block.{Block}
use Rattle.ir_core.specs.declared.code.Program.{Program}
use Rattle.ir_core.specs.Registers.{is_unset}
use Rattle.ir_core.specs.Effects.{World}
use Rattle.ir_core.specs.Meaning.{Frame, Waiting, to_block}
use Rattle.ir_core.specs.Lower.{op_lines, label_of, end_lines, lines_from}
use Rattle.ir_core.specs.Shape.{Shape}
use Rattle.ir_core.proofs.LowerLemmas.{place_of, labelled}
use Rattle.liveness.specs.Paths.{MetAt, entry, BorrowedAt, no_parameter}
use Rattle.refcount_insert_lines_laws.specs.Matching.{RegsFit, WorldFits}
use Rattle.refcount_insert_rule.specs.Counted.{owned, IsDetour}
use Rattle.refcount_insert_lines_laws.specs.Lines.{HasCells, CountsDo}
use Rattle.refcount_insert_runs_laws.proofs.Lists.{drop_next}
use Rattle.refcount_insert_runs_laws.proofs.Laid.{block_at}
use Rattle.refcount_insert_runs_laws.proofs.Numbers.{below_or_not}
use Rattle.refcount_insert_runs_laws.proofs.Heads.{FuncAt}
use Rattle.refcount_insert_runs_laws.proofs.Counts.{AreCounts, edge_count}
use Rattle.refcount_insert_runs_laws.proofs.Forms.{body_form}
use Rattle.refcount_insert_runs_laws.proofs.Placed.{BlockAt, block_placed}
use Rattle.refcount_insert_runs_laws.proofs.Shapes.{block_fits}
use Rattle.refcount_insert_runs_laws.proofs.Growing.{Past, regs_past, world_past}
use Rattle.refcount_insert_runs_laws.proofs.Relation.{code, machine, lines_of, StackAt, At, Leads, one_step, Arrives, comes, arrives_on, line_in, label_in}
use Rattle.refcount_insert_runs_laws.proofs.Counting.{stack_past, run_counts}

-- ---- the label of a block, by its number
module _ (q : Program) (blocks : List Block) where
  abbrev lines : List Line
  lines = lines_from q 0 blocks

  -- a block that is jumped to
  pub record Labelled (n : ℕ) (b : Block) : Type 0 where
    pub place : ℕ
    pub there : slice_get (label_places lines) (label_of n) ≡ Some place
    pub rest : List Line
    pub at : drop place lines ≡ line.Label ∷ (op_lines q b.ops ++ (end_lines label_of n b.last ++ rest))

  pub label_found : (n : ℕ) (b : Block) → 0 < n → slice_get blocks n ≡ Some b → Labelled n b
  label_found zero b some e = absurd (omega (arith, some))
  label_found (suc n) b some e =
      let at = block_at q blocks (suc n) b e in
      record { place = place_of q 0 blocks (suc n); there = labelled q blocks (suc n) b e; rest = at.0; at = at.1 }

  -- the first block
  pub first_lines : (n : ℕ) (b : Block) → n ≡ 0 → slice_get blocks n ≡ Some b → (rest : List Line) × (lines ≡ op_lines q b.ops ++ (end_lines label_of n b.last ++ rest))
  first_lines n b none e =
      let at = block_at q blocks 0 b (ap (slice_get blocks) (sym none) ∙ e) in
      (at.0, at.1 ∙ ap (λ z. op_lines q b.ops ++ (end_lines label_of z b.last ++ at.0)) (sym none))

-- a state in another place
pub moved : (s : MachineState) (n : ℕ) → Past s (at_place n s)
moved s n =
    record {
      func = refl;
      into = refl;
      vars = refl;
      below = refl;
      output = refl;
      turns = refl;
      items = refl;
      made = refl;
      globals = refl;
      pending = refl;
      keeps = record { contents = λ c v e. e };
    }

module _ (p q : Program) (shape : Shape p) where
  module _ (f : Frame) (below : List Waiting) (w : World) (at : FuncAt p q f.fn) (k : ℕ) (block : Block) (here : slice_get at.func.blocks k ≡ Some block) where
    abbrev placed : BlockAt at.func at.new at.counted k block
    placed = block_placed at.func at.new at.counted k block here

    abbrev number : ℕ
    number = at.counted.number k

    -- at the first line of a block
    pub inside : (u : MachineState) (rest : List Line) → u.top.func ≡ f.fn → drop u.top.place (lines_of p q at.new) ≡ op_lines q placed.stands.main.ops ++ (end_lines label_of number placed.stands.main.last ++ rest) → RegsFit u at.func.regs f.regs u.top.vars → MetAt at.func k 0 → ((r : ℕ) → BorrowedAt at.func r k 0 → is_unset (f.regs r) ≡ false) → StackAt p q u f.fn u.top.into below u.below → WorldFits p w u → At p q (record f { block = k; place = 0 }) below w u
    inside u rest same lines fit met lent stack world =
        record {
          ops = block.ops;
          frame = record {
            at = at;
            same = same;
            block = block;
            here = here;
            placed = placed;
            left = refl;
            new = placed.stands.main.ops;
            form = body_form at.func at.counted.tables at.counted.number k block here (block_fits p shape f.fn at.func at.there k block here).last placed.stands.main.ops placed.stands.body;
            rest = rest;
            lines = lines;
          };
          regs = fit;
          met = met;
          lent = lent;
          stack = stack;
          world = world;
        }

    -- a jump to its label
    module _ (u : MachineState) (same : u.top.func ≡ f.fn) (fit : RegsFit u at.func.regs f.regs u.top.vars) (met : MetAt at.func k 0) (lent : (r : ℕ) → BorrowedAt at.func r k 0 → is_unset (f.regs r) ≡ false) (stack : StackAt p q u f.fn u.top.into below u.below) (world : WorldFits p w u) (some : 0 < k) where
      found : Labelled q at.new.blocks number placed.stands.main
      found = label_found q at.new.blocks number placed.stands.main (placed.later some) placed.stands.there

      abbrev t : MachineState
      t = next_line (at_place found.place u)

      past : Past u t
      past = moved u (found.place + 1)

      jump_is : jumped false u (label_at (code p q) u.top (label_of number)) ≡ Goes (at_place found.place u)
      jump_is = ap (jumped false u) (label_in p q f.fn at u.top same (label_of number) ∙ found.there)

      label_is : machine p q (at_place found.place u) ≡ Goes t
      label_is =
          ap (step_at false (code p q) (at_place found.place u)) (line_in p q f.fn at (at_place found.place u).top same line.Label (op_lines q placed.stands.main.ops ++ (end_lines label_of number placed.stands.main.last ++ found.rest)) found.at)

      pub jump : Arrives p q (jumped false u (label_at (code p q) u.top (label_of number))) (to_block f k below w)
      jump =
          comes (record f { block = k; place = 0 }) below w t
          (subst (λ z. Leads p q z (Goes t)) (sym jump_is) (one_step p q (at_place found.place u) (Goes t) label_is))
          refl
          (inside t found.rest same (drop_next found.place (lines_of p q at.new) line.Label (op_lines q placed.stands.main.ops ++ (end_lines label_of number placed.stands.main.last ++ found.rest)) found.at) (regs_past u t past at.func.regs f.regs fit) met lent (stack_past p q u t past f.fn below stack) (world_past u t past p w world))

  -- over a detour that goes on to another block
  module _ (counts_do : CountsDo) (f : Frame) (below : List Waiting) (w : World) (at : FuncAt p q f.fn) (k next : ℕ) (on : (v : MachineState) → v.top.func ≡ f.fn → RegsFit v at.func.regs f.regs v.top.vars → StackAt p q v f.fn v.top.into below v.below → WorldFits p w v → Arrives p q (jumped false v (label_at (code p q) v.top (label_of next))) (to_block f k below w)) where
    abbrev goto : Line
    goto = line.Goto (label_of next)

    abbrev lines_here : List Line
    lines_here = lines_of p q at.new

    -- from the line of its jump
    from_goto : (v : MachineState) (rest : List Line) → drop v.top.place lines_here ≡ goto ∷ rest → v.top.func ≡ f.fn → RegsFit v at.func.regs f.regs v.top.vars → StackAt p q v f.fn v.top.into below v.below → WorldFits p w v → Arrives p q (machine p q v) (to_block f k below w)
    from_goto v rest e same fit stack world =
        let goto_is : machine p q v ≡ jumped false v (label_at (code p q) v.top (label_of next)) = ap (step_at false (code p q) v) (line_in p q f.fn at v.top same goto rest e) in
        subst (λ z. Arrives p q z (to_block f k below w)) (sym goto_is) (on v same fit stack world)

    -- from the first of its counts
    from_counts : (counts : List (Op × ℕ)) → AreCounts at.func.regs (λ r. is_unset (f.regs r) ≡ false) counts → (t : MachineState) (rest : List Line) → drop t.top.place lines_here ≡ op_lines q counts ++ (goto ∷ rest) → t.top.func ≡ f.fn → RegsFit t at.func.regs f.regs t.top.vars → StackAt p q t f.fn t.top.into below t.below → WorldFits p w t → Arrives p q (Goes t) (to_block f k below w)
    from_counts counts are t rest e same fit stack world =
        let r = run_counts p q counts_do f w at counts (goto ∷ rest) t same fit world are e in
        let last = from_goto r.state rest r.at (r.past.func ∙ same) (regs_past t r.state r.past at.func.regs f.regs fit) (stack_past p q t r.state r.past f.fn below stack) (world_past t r.state r.past p w world) in
        arrives_on p q (Goes t) (Goes r.state) (to_block f k below w) r.leads (arrives_on p q (Goes r.state) (machine p q r.state) (to_block f k below w) (one_step p q r.state (machine p q r.state) refl) last)

    over : (n : ℕ) (x : Block) → 0 < n → slice_get at.new.blocks n ≡ Some x → x.last ≡ Goto next → AreCounts at.func.regs (λ r. is_unset (f.regs r) ≡ false) x.ops → (u : MachineState) → u.top.func ≡ f.fn → RegsFit u at.func.regs f.regs u.top.vars → StackAt p q u f.fn u.top.into below u.below → WorldFits p w u → Arrives p q (jumped false u (label_at (code p q) u.top (label_of n))) (to_block f k below w)
    over n x high there goes are u same fit stack world =
        let found = label_found q at.new.blocks n x high there in
        let a : MachineState = at_place found.place u in
        let t : MachineState = next_line a in
        let past : Past u t = moved u (found.place + 1) in
        let behind : List Line = op_lines q x.ops ++ (goto ∷ found.rest) in
        let laid : drop found.place lines_here ≡ line.Label ∷ behind = found.at ∙ ap (λ z. line.Label ∷ (op_lines q x.ops ++ (end_lines label_of n z ++ found.rest))) goes in
        let label_is : machine p q a ≡ Goes t = ap (step_at false (code p q) a) (line_in p q f.fn at a.top same line.Label behind laid) in
        let last = from_counts x.ops are t found.rest (drop_next found.place lines_here line.Label behind laid) same (regs_past u t past at.func.regs f.regs fit) (stack_past p q u t past f.fn below stack) (world_past u t past p w world) in
        subst (λ z. Arrives p q (jumped false u z) (to_block f k below w)) (sym (label_in p q f.fn at u.top same (label_of n) ∙ found.there)) (arrives_on p q (Goes a) (Goes t) (to_block f k below w) (one_step p q a (Goes t) label_is) last)

  -- over all detours that are left to a block
  module _ (counts_do : CountsDo) (f : Frame) (below : List Waiting) (w : World) (at : FuncAt p q f.fn) (k : ℕ) (block : Block) (here : slice_get at.func.blocks k ≡ Some block) (met : MetAt at.func k 0) (lent : (r : ℕ) → BorrowedAt at.func r k 0 → is_unset (f.regs r) ≡ false) (some : 0 < k) where
    abbrev target : BlockAt at.func at.new at.counted k block
    target = block_placed at.func at.new at.counted k block here

    abbrev has : ℕ → ℕ → ℕ
    has = at.counted.at_start

    abbrev wants : ℕ → ℕ
    wants = owned at.func at.counted.tables k 0

    -- what is left to be counted where a new block begins can be counted
    abbrev pub CanCount : (ℕ → ℕ) → Type 0
    CanCount have =
        ((r : ℕ) → have r < wants r → HasCells at.func.regs r × (is_unset (f.regs r) ≡ false)) × ((r : ℕ) → wants r < have r → HasCells at.func.regs r)

    counts_can : (n : ℕ) (x : Block) (d : IsDetour at.func at.counted.tables at.counted.number at.counted.first at.counted.at_start k n x) → CanCount (has n) → AreCounts at.func.regs (λ r. is_unset (f.regs r) ≡ false) x.ops
    counts_can n x d can =
        edge_count at.func.regs (λ r. is_unset (f.regs r) ≡ false) (has n) (has d.next) x.ops d.counts
        (λ r lt. can.0 r (⊎_elim (λ e. absurd (omega (arith, e, lt))) (λ e. omega (arith, e, lt)) (d.each r)))
        (λ r lt. can.1 r (⊎_elim (λ e. absurd (omega (arith, e, lt))) (λ e. omega (arith, e, lt)) (d.each r)))

    next_can : (n : ℕ) (x : Block) (d : IsDetour at.func at.counted.tables at.counted.number at.counted.first at.counted.at_start k n x) → CanCount (has n) → CanCount (has d.next)
    next_can n x d can = (
      λ r lt. can.0 r (⊎_elim (λ e. omega (arith, e, lt)) (λ e. absurd (omega (arith, e, lt))) (d.each r)),
      λ r lt. can.1 r (⊎_elim (λ e. omega (arith, e, lt)) (λ e. absurd (omega (arith, e, lt))) (d.each r)),
    )

    arrived : (n : ℕ) → n ≡ at.counted.number k → (u : MachineState) → u.top.func ≡ f.fn → RegsFit u at.func.regs f.regs u.top.vars → StackAt p q u f.fn u.top.into below u.below → WorldFits p w u → Arrives p q (jumped false u (label_at (code p q) u.top (label_of n))) (to_block f k below w)
    arrived n e u same fit stack world =
        subst (λ z. Arrives p q (jumped false u (label_at (code p q) u.top (label_of z))) (to_block f k below w)) (sym e) (jump f below w at k block here u same fit met lent stack world some)

    pub walk : (most n : ℕ) → at.counted.number k ≤ n + most → at.counted.first k ≤ n → n ≤ at.counted.number k → CanCount (has n) → (u : MachineState) → u.top.func ≡ f.fn → RegsFit u at.func.regs f.regs u.top.vars → StackAt p q u f.fn u.top.into below u.below → WorldFits p w u → Arrives p q (jumped false u (label_at (code p q) u.top (label_of n))) (to_block f k below w)
    walk zero n far low high can u same fit stack world =
        arrived n (omega (arith, far, high)) u same fit stack world
    walk (suc most) n far low high can u same fit stack world = ⊎_elim
        (λ lt.
        let d = target.stands.detours n low lt in
        over counts_do f below w at k d.detour.next
        (λ v is regs stack_at world_at. walk most d.detour.next (omega (arith, far, d.detour.ahead)) (omega (arith, low, d.detour.ahead)) d.detour.within (next_can n d.block d.detour can) v is regs stack_at world_at)
        n d.block (omega (arith, target.higher some, low)) d.there d.detour.goes (counts_can n d.block d.detour can) u same fit stack world)
        (λ ge. arrived n (omega (arith, ge, high)) u same fit stack world)
        (below_or_not n (at.counted.number k))

  -- a function begins
  pub begin_at : (f : Frame) (below : List Waiting) (w : World) (at : FuncAt p q f.fn) (block : Block) → slice_get at.func.blocks 0 ≡ Some block → (u : MachineState) → u.top.func ≡ f.fn → u.top.place ≡ 0 → RegsFit u at.func.regs f.regs u.top.vars → ((r : ℕ) → r < at.func.params → is_unset (f.regs r) ≡ false) → StackAt p q u f.fn u.top.into below u.below → WorldFits p w u → At p q (record f { block = 0; place = 0 }) below w u
  begin_at f below w at block here u same place fit given stack world =
      let placed : BlockAt at.func at.new at.counted 0 block = block_placed at.func at.new at.counted 0 block here in
      let first = first_lines q at.new.blocks (at.counted.number 0) placed.stands.main (placed.first refl) placed.stands.there in
      inside f below w at 0 block here u first.0 same (ap (λ i. drop i (lines_of p q at.new)) place ∙ first.1) fit entry
      (λ r lent. given r (declared_first r lent))
      stack world
    where
      declared_first : (r : ℕ) → BorrowedAt at.func r 0 0 → r < at.func.params
      declared_first r lent = ⊎_elim (λ lt. lt) (λ le. absurd (lent (no_parameter le))) (below_or_not r at.func.params)
