-- Blocks that are planned and laid out are the blocks of the function with their counts.
use Rattle.std.proofs.Common.{◌≡◌, ℕ, zero, suc, ◌+◌, ◌-◌, ◌<◌, ◌≤◌, ◌^◌, Bool, true, false, List, None, [], ◌∷◌, ◌++◌, take, drop, length, get_or, Option, Some, refl, sym, ap, ◌∙◌, ⊎_elim, subst, arith}
use Rattle.std.specs.Prelude.{slice_get, cond, nat_lt, not, ◌&&◌}
use Rattle.std.specs.Option.{option_map_or}
use Rattle.std.proofs.lemmas.Option.{slice_get_within}
use Rattle.std.proofs.lemmas.List.{length-map}
use Rattle.ir_core.specs.declared.code.Op.{Op}
use Rattle.ir_core.specs.declared.code.Block.{Block}
use Rattle.ir_core.specs.declared.code.Func.{Func}
use Rattle.ir_core.specs.declared.code.Last.{Last}
use Rattle.ir_core.specs.declared.code.Last.TheVariants.{Goto, If, IfError, Return, Unreachable}
use Rattle.ir_core.specs.Bare.{bare_blocks}
use Rattle.ir_core.specs.Items.{Item, Do, End, in_block, item_of, item_in, handler_in}
use Rattle.ir_core.specs.Rows.{Declared}
use Rattle.ir_core.specs.Shape.{ends_in_turn, LastFits, BlocksFit, FuncFits}
use Rattle.ir_core.proofs.ItemLemmas.{end_item, op_item}
use Rattle.c_core_ownership_laws.specs.Shares.{put, one_if}
use Rattle.liveness.specs.Paths.{is_among, targets}
use Rattle.liveness.specs.Liveness.{says_live, says_borrowed, starts_of}
use Rattle.liveness.proofs.OwnedLemmas.{below_or_not}
use Rattle.liveness.proofs.RisingLemmas.{lt_test}
use Rattle.liveness.proofs.RowLemmas.{there_is}
use Rattle.refcount_insert_rule.specs.Rule.{ups, downs, IsGroup}
use Rattle.refcount_insert_rule.specs.Counted.{counts_register, Tables, AreGroups, AreLast, AreAll, AreTurned, IsBody, AreDetours, IsEdgeTo, IsLast, AreBlocks, IsCountedFunc}
use Rattle.refcount_insert_counts.specs.declared.counts.Counts.{Counts}
use Rattle.refcount_insert_counts.specs.declared.known.KnownRegisters.{KnownRegisters}
use Rattle.refcount_insert.specs.declared.plan.Planned.{Planned}
use Rattle.refcount_insert_counts.specs.Known.{IsKnown, owned_at, entered}
use Rattle.refcount_insert_counts.specs.Ends.{is_read_again, AreEndCounts, AreTestCounts}
use Rattle.refcount_insert.specs.Plan.{IsCountedOp, AreCountedOps, IsPlannedBody, ArePlanned}
use Rattle.refcount_insert_counts.specs.Edges.{edge_ops}
use Rattle.refcount_insert.specs.declared.sharing.EdgeCounts.{EdgeCounts}
use Rattle.refcount_insert.specs.declared.detours.Detour.{Detour}
use Rattle.refcount_insert.specs.declared.detours.Front.{Front}
use Rattle.refcount_insert.specs.Sharing.{kept_at, IsShared, AreShared, AreProper}
use Rattle.refcount_insert.specs.Detours.{taken, given, IsFrontOf, AreFronts}
use Rattle.refcount_insert.specs.Layout.{numbers_from, number_at, detour_to, detours_to, edge_to, end_at, main_of, all_laid, AreLaid}
use Rattle.refcount_insert.proofs.FrontLemmas.{total_none, has, IsFine, detours_are, starts_from, start_of, front_at, fronts_size, front_there}
use Rattle.refcount_insert.proofs.GroupLemmas.{group_is}
use Rattle.refcount_insert.proofs.EdgeLemmas.{AreExact, edge_is, one_target, two_targets, first_target, second_target, exact_edge, exact_tested, enters, ahead_of_jump, ahead_of_test, edge_to_is}

-- the tables of a function
abbrev pub tables_of : (f : Func) (known : KnownRegisters) → IsKnown f known → Tables f
tables_of f known is =
    record { calm = is.calm; live = says_live known.live; lent = says_borrowed known.lent; is_live = is.live; is_lent = is.lent }

-- ---- lists

take_whole : {A : Type 0} (xs : List A) → take (length xs) xs ≡ xs
take_whole [] = refl
take_whole (x ∷ xs) = ap (λ z. x ∷ z) (take_whole xs)

drop_whole : {A : Type 0} (xs : List A) → drop (length xs) xs ≡ []
drop_whole [] = refl
drop_whole (x ∷ xs) = drop_whole xs

append_none : {A : Type 0} (xs : List A) → xs ++ [] ≡ xs
append_none [] = refl
append_none (x ∷ xs) = ap (λ z. x ∷ z) (append_none xs)

-- the last operation apart
turn_apart : (ops : List (Op × ℕ)) → ends_in_turn ops ≡ true → (turn : Op × ℕ) × (ops ≡ take (length ops - 1) ops ++ (turn ∷ [])) × (drop (length ops - 1) ops ≡ turn ∷ [])
turn_apart [] e = let f : false ≡ true = e in absurd (cc)
turn_apart (o ∷ []) e = (o, refl, refl)
turn_apart (o ∷ q ∷ os) e =
    let h = turn_apart (q ∷ os) e in
    let n : length (o ∷ q ∷ os) - 1 ≡ suc (length (q ∷ os) - 1) = omega arith in (
      h.0,
      ap (λ z. o ∷ z) h.1 ∙ ap (λ z. take z (o ∷ q ∷ os) ++ (h.0 ∷ [])) (sym n),
      ap (λ z. drop z (o ∷ q ∷ os)) n ∙ h.2,
    )

take_get : {A : Type 0} (n i : ℕ) (xs : List A) (x : A) → slice_get (take n xs) i ≡ Some x → slice_get xs i ≡ Some x
take_get zero i xs x e = absurd (cc)
take_get (suc n) i [] x e = absurd (cc)
take_get (suc n) zero (y ∷ xs) x e = e
take_get (suc n) (suc i) (y ∷ xs) x e = take_get n i xs x e

first_there : (ops : List (Op × ℕ)) (last : Last) → (i : Item) × (in_block ops last 0 ≡ Some i)
first_there [] last = (End last, refl)
first_there (o ∷ ops) last = (Do o.0 o.1, refl)

block_starts : (blocks : List Block) (t : ℕ) → t < length blocks → (i : Item) × (item_in blocks t 0 ≡ Some i)
block_starts blocks t lt =
    let there = there_is blocks t lt in
    let first = first_there there.0.ops there.0.last in
    (first.0, ap (λ z. item_of z 0) there.1 ∙ first.1)

-- ---- a block

-- operations with their counts, each with all its counts
groups_are : (f : Func) (t : Tables f) (number : ℕ → ℕ) (known : KnownRegisters) (at : ℕ → ℕ → ℕ) (old ops : List (Op × ℕ)) → ((p : ℕ) (o : Op × ℕ) (g : List (Op × ℕ)) → slice_get old p ≡ Some o → IsCountedOp known f.regs (at p) (at (suc p)) o g → IsGroup (counts_register f.regs) o (at p) (at (suc p)) g) → AreCountedOps known f.regs at old ops → AreGroups f t number at old ops
groups_are f t number known at [] ops each all = all
groups_are f t number known at (o ∷ os) ops each all =
    (all.0, all.1, all.2, each 0 o all.0 refl all.3, groups_are f t number known (λ p. at (suc p)) os all.1 (λ p o g there one. each (suc p) o g there one) all.4)

targets_within : (n b : ℕ) (ops : List (Op × ℕ)) (last : Last) → LastFits n b ops last → (u : ℕ) → is_among (targets last) u ≡ true → u < n
targets_within n b ops (Goto t) fits u e = let h = one_target t u e in let lt = fits.1 in omega (arith, h, lt)
targets_within n b ops (If x t v) fits u e =
    let one = fits.0.1 in
    let other = fits.1.1 in
    ⊎_elim (λ h. omega (arith, h, one)) (λ h. omega (arith, h, other)) (two_targets t v u e)
targets_within n b ops (IfError x t v line) fits u e =
    let one = fits.0.1 in
    let other = fits.1.1 in
    ⊎_elim (λ h. omega (arith, h, one)) (λ h. omega (arith, h, other)) (two_targets t v u e)
targets_within n b ops (Return x) fits u e = let f : false ≡ true = e in absurd (cc)
targets_within n b ops Unreachable fits u e = let f : false ≡ true = e in absurd (cc)

module _ (f : Func) (known : KnownRegisters) (is : IsKnown f known) (number : ℕ → ℕ) (b : ℕ) (old : List (Op × ℕ)) where
  abbrev t : Tables f
  t = tables_of f known is

  abbrev at : ℕ → ℕ → ℕ
  at = owned_at known f.regs b

  module _ (last : Last) (at_end : item_in f.blocks b (length old) ≡ Some (End last)) (fits : LastFits (length f.blocks) b old last) where
    within : (u : ℕ) → is_among (targets last) u ≡ true → (i : Item) × (item_in f.blocks u 0 ≡ Some i)
    within u e = block_starts f.blocks u (targets_within (length f.blocks) b old last fits u e)

  jump_exact : (u : ℕ) → item_in f.blocks b (length old) ≡ Some (End (Goto u)) → LastFits (length f.blocks) b old (Goto u) → (c : Counts) → AreEndCounts known f.regs b (length old) (Goto u) c → AreExact (at (length old)) (owned_at known f.regs u 0) c
  jump_exact u at_end fits c counts =
      exact_edge f known is b (length old) (Goto u) at_end (within (Goto u) at_end fits) (is_among (starts_of known.live u)) (ahead_of_jump f known is b (length old) u at_end) counts.0 counts.1 u (first_target u []) c counts.2

  none_edge : (c : Counts) → (c.ups ≡ []) × (c.downs ≡ []) → edge_ops c ≡ []
  none_edge c none = ap (λ z. ups z 0 ++ downs c.downs 0) none.0 ∙ ap (λ z. downs z 0) none.1

  end_is : (last : Last) → item_in f.blocks b (length old) ≡ Some (End last) → LastFits (length f.blocks) b old last → (c : Counts) → AreEndCounts known f.regs b (length old) last c → AreLast f t number (at (length old)) last (edge_ops c)
  end_is (Goto u) at_end fits c counts = edge_is (at (length old)) (owned_at known f.regs u 0) c (jump_exact u at_end fits c counts)
  end_is (If x u v) at_end fits c counts = none_edge c counts
  end_is (IfError x u v line) at_end fits c counts = none_edge c counts
  end_is (Return x) at_end fits c counts =
      record { up = c.ups; is = ap (λ z. ups c.ups 0 ++ downs z 0) counts.1 ∙ append_none (ups c.ups 0); short = counts.0 }
  end_is Unreachable at_end fits c counts = none_edge c counts

  module _ (each : (p : ℕ) (o : Op × ℕ) (g : List (Op × ℕ)) → slice_get old p ≡ Some o → IsCountedOp known f.regs (at p) (at (suc p)) o g → IsGroup (counts_register f.regs) o (at p) (at (suc p)) g) where
    part_is : (n : ℕ) (groups : List (Op × ℕ)) → AreCountedOps known f.regs at (take n old) groups → AreGroups f t number at (take n old) groups
    part_is n groups counted =
        groups_are f t number known at (take n old) groups (λ p o g there one. each p o g (take_get n p old o there) one) counted

    whole_is : (last : Last) (ops groups : List (Op × ℕ)) (c : Counts) → ops ≡ groups ++ (edge_ops c ++ drop (length old) old) → AreCountedOps known f.regs at (take (length old) old) groups → AreLast f t number (at (length old)) last (edge_ops c) → AreAll f t number at old last ops
    whole_is last ops groups c made counted end = (
      groups,
      edge_ops c,
      made ∙ ap (λ z. groups ++ (edge_ops c ++ z)) (drop_whole old) ∙ ap (λ z. groups ++ z) (append_none (edge_ops c)),
      subst (λ z. AreGroups f t number at z groups) (take_whole old) (part_is (length old) groups counted),
      end,
    )

    turned_is : (u : ℕ) (ops groups : List (Op × ℕ)) (c : Counts) → ends_in_turn old ≡ true → ops ≡ groups ++ (edge_ops c ++ drop (length old - 1) old) → AreCountedOps known f.regs at (take (length old - 1) old) groups → AreExact (at (length old)) (owned_at known f.regs u 0) c → AreTurned f t number at old u ops
    turned_is u ops groups c turn made counted exact =
        let apart = turn_apart old turn in (
          take (length old - 1) old,
          apart.0,
          groups,
          edge_ops c,
          apart.1,
          made ∙ ap (λ z. groups ++ (edge_ops c ++ z)) apart.2,
          part_is (length old - 1) groups counted,
          edge_is (at (length old)) (owned_at known f.regs u 0) c exact,
        )

    goes_body : (u : ℕ) (ops groups : List (Op × ℕ)) (c : Counts) → item_in f.blocks b (length old) ≡ Some (End (Goto u)) → LastFits (length f.blocks) b old (Goto u) → AreEndCounts known f.regs b (length old) (Goto u) c → (e : Bool) → nat_lt b u ≡ e → ops ≡ groups ++ (edge_ops c ++ drop (cond e (length old) (length old - 1)) old) → AreCountedOps known f.regs at (take (cond e (length old) (length old - 1)) old) groups → cond e (AreAll f t number at old (Goto u) ops) (AreTurned f t number at old u ops)
    goes_body u ops groups c at_end fits counts true up made counted =
        whole_is (Goto u) ops groups c made counted (end_is (Goto u) at_end fits c counts)
    goes_body u ops groups c at_end fits counts false up made counted =
        ⊎_elim
        (λ lt. let h : true ≡ false = sym (lt_test b u lt) ∙ up in absurd (cc))
        (λ turn. turned_is u ops groups c turn made counted (jump_exact u at_end fits c counts))
        fits.2

    pub body_is : (last : Last) (ops : List (Op × ℕ)) → item_in f.blocks b (length old) ≡ Some (End last) → LastFits (length f.blocks) b old last → IsPlannedBody known f.regs b old last ops → IsBody f t number b at old last ops
    body_is (Goto u) ops at_end fits made = goes_body u ops made.0 made.1 at_end fits made.4 (nat_lt b u) refl made.2 made.3
    body_is (If x u v) ops at_end fits made = whole_is (If x u v) ops made.0 made.1 made.2 made.3 (end_is (If x u v) at_end fits made.1 made.4)
    body_is (IfError x u v line) ops at_end fits made =
        whole_is (IfError x u v line) ops made.0 made.1 made.2 made.3 (end_is (IfError x u v line) at_end fits made.1 made.4)
    body_is (Return x) ops at_end fits made = whole_is (Return x) ops made.0 made.1 made.2 made.3 (end_is (Return x) at_end fits made.1 made.4)
    body_is Unreachable ops at_end fits made = whole_is Unreachable ops made.0 made.1 made.2 made.3 (end_is Unreachable at_end fits made.1 made.4)

-- ---- all blocks

module _ (f : Func) (known : KnownRegisters) (is : IsKnown f known) (fits : FuncFits f) (kept : List (List EdgeCounts)) (proper : AreProper known f.regs kept) (size : length kept ≡ length f.blocks) (fronts : List Front) (are_fronts : AreFronts kept fronts) where
  abbrev tables : Tables f
  tables = tables_of f known is

  abbrev wanted_at : ℕ → ℕ → ℕ
  wanted_at b = owned_at known f.regs b 0

  abbrev numbers : List ℕ
  numbers = numbers_from 0 fronts

  abbrev pub number : ℕ → ℕ
  number = number_at (numbers_from 0 fronts)

  abbrev size_of : Option Front → ℕ
  size_of o = option_map_or (λ (f : Front). length f.detours) o 0

  abbrev pub first : ℕ → ℕ
  first b = number_at (numbers_from 0 fronts) b - size_of (slice_get fronts b)

  abbrev pub at_start : ℕ → ℕ → ℕ
  at_start n r = start_of (starts_from wanted_at 0 fronts) n r

  -- a block that is there has its front
  record Fronted (b : ℕ) : Type 0 where
    front : Front
    there : slice_get fronts b ≡ Some front
    front_is : IsFrontOf (kept_at kept b) front
    low : first b + length front.detours ≡ number b
    starts : (n r : ℕ) → n ≤ length front.detours → at_start (number b - n) r ≡ wanted_at b r + given front.detours n r - taken front.detours n r
    fine : (n : ℕ) → 1 ≤ n → n ≤ length front.detours → IsFine (counts_register f.regs) (wanted_at b) front.detours n

  fronted : (b : ℕ) → b < length f.blocks → Fronted b
  fronted b lt =
      let found = front_there kept fronts are_fronts b (omega (arith, lt, size)) in
      let at = front_at wanted_at 0 0 fronts b found.0 found.1 in
      let here = block_starts f.blocks b lt in
      let none : 0 + b ≡ b = omega arith in
      let room : size_of (slice_get fronts b) ≡ length found.0.detours = ap size_of found.1 in
      record {
        front = found.0;
        there = found.1;
        front_is = found.2;
        low = omega (arith, at.is_number, at.room, room);
        starts = λ n r le.
            let place : number b - n ≡ at.place - n = omega (arith, at.is_number) in
            ap (λ i. at_start i r) place ∙ (at.starts n r le ∙ ap (λ i. has (wanted_at i) found.0.detours n r) none);
        fine = λ n low high r.
            let part = found.2.parts n low high in
            let ok = (proper b part.0 part.1 part.2).1 r in
            let less = part.3 r in
            let enter : entered known f.regs b r ≡ wanted_at b r = enters f known is b here.0 here.1 r in
            (omega (arith, ok.0, less.0, less.1), omega (arith, ok.1, less.0, enter), λ some. let h = ok.2 (omega (arith, some, less.1)) in (omega (arith, h.0, enter), h.1));
      }

  edge_is_to : (have : ℕ → ℕ) (u : ℕ) → u < length f.blocks → (c : Counts) (o : Option ℕ) → AreExact have (wanted_at u) c → IsShared kept u c o → IsEdgeTo f tables number first at_start have u (edge_to number fronts u o)
  edge_is_to have u lt c o exact shared =
      let h = fronted u lt in
      edge_to_is f tables number first at_start kept fronts u h.front h.there h.front_is h.low h.starts have c o exact shared

  module _ (b : ℕ) (old : List (Op × ℕ)) where
    abbrev have_at : ℕ → ℕ
    have_at = owned_at known f.regs b (length old)

    last_is : (last : Last) (counts : Counts × Counts) (o : Option ℕ × Option ℕ) → item_in f.blocks b (length old) ≡ Some (End last) → LastFits (length f.blocks) b old last → AreTestCounts known f.regs b (length old) last counts → AreShared kept last counts o → IsLast f tables number first at_start have_at last (end_at number fronts o.0 o.1 last)
    last_is (Goto u) counts o at_end fits told shared = refl
    last_is (If x u v) counts o at_end fits told shared =
        let inside = within f known is number b old (If x u v) at_end fits in
        let ahead = ahead_of_test f known is b (length old) u v x (If x u v) refl refl at_end in
        let one = exact_edge f known is b (length old) (If x u v) at_end inside (is_read_again known.live x u v) ahead told.0 told.1 u (first_target u (v ∷ [])) counts.0 told.2 in
        let other = exact_edge f known is b (length old) (If x u v) at_end inside (is_read_again known.live x u v) ahead told.0 told.1 v (second_target u v) counts.1 told.3 in
        (_, _, refl, edge_is_to have_at u fits.0.1 counts.0 o.0 one shared.0, edge_is_to have_at v fits.1.1 counts.1 o.1 other shared.1)
    last_is (IfError x u v line) counts o at_end fits told shared =
        let inside = within f known is number b old (IfError x u v line) at_end fits in
        let ahead = ahead_of_test f known is b (length old) u v x (IfError x u v line) refl refl at_end in
        let one = exact_tested f known is b (length old) (IfError x u v line) at_end inside (is_read_again known.live x u v) ahead told.0 told.1 u (first_target u (v ∷ [])) x.0 counts.0 told.2 in
        let other = exact_edge f known is b (length old) (IfError x u v line) at_end inside (is_read_again known.live x u v) ahead told.0 told.1 v (second_target u v) counts.1 told.3 in
        (_, _, refl, edge_is_to (put x.0 (wanted_at u x.0) have_at) u fits.0.1 counts.0 o.0 one shared.0, edge_is_to have_at v fits.1.1 counts.1 o.1 other shared.1)
    last_is (Return x) counts o at_end fits told shared = refl
    last_is Unreachable counts o at_end fits told shared = refl

  block_ops : (b : ℕ) (k : Block) → slice_get f.blocks b ≡ Some k → (p : ℕ) (o : Op × ℕ) (g : List (Op × ℕ)) → slice_get k.ops p ≡ Some o → IsCountedOp known f.regs (owned_at known f.regs b p) (owned_at known f.regs b (suc p)) o g → IsGroup (counts_register f.regs) o (owned_at known f.regs b p) (owned_at known f.regs b (suc p)) g
  block_ops b k here p o g there one =
      group_is f known is b p o g (ap (λ z. item_of z p) here ∙ op_item k.ops k.last p o there) one

  owns_counted : (b r : ℕ) → 1 ≤ wanted_at b r → counts_register f.regs r ≡ true
  owns_counted b r le = by (counts_register f.regs r) (says_live known.live b 0 r && not (says_borrowed known.lent b 0 r)) le
    where
      by : (c x : Bool) → 1 ≤ one_if (c && x) → c ≡ true
      by true x le = refl
      by false x le = absurd (omega (arith, le))

  blocks_are : (k m : ℕ) (bs : List Block) (fs : List Front) (ps : List Planned) → ((i : ℕ) (b : Block) → slice_get bs i ≡ Some b → slice_get f.blocks (k + i) ≡ Some b) → ((i : ℕ) (x : Front) → slice_get fs i ≡ Some x → slice_get fronts (k + i) ≡ Some x) → length fs ≡ length bs → ((i : ℕ) → i < length fs → number (k + i) ≡ get_or (numbers_from m fs) i 0) → BlocksFit (length f.blocks) k bs → ArePlanned known f.regs kept k bs ps → AreBlocks f tables number first at_start k m bs (all_laid number fronts k fs ps)
  blocks_are k m [] [] ps there same count numbers fits planned = refl
  blocks_are k m [] (x ∷ fs) ps there same count numbers fits planned = absurd (omega (arith, count))
  blocks_are k m (b ∷ bs) [] ps there same count numbers fits planned = absurd (omega (arith, count))
  blocks_are k m (b ∷ bs) (x ∷ fs) [] there same count numbers fits planned = absurd planned
  blocks_are k m (b ∷ bs) (x ∷ fs) (p ∷ ps) there same count numbers fits planned =
      let e : k + 0 ≡ k = omega arith in
      let here : slice_get f.blocks k ≡ Some b = ap (slice_get f.blocks) (sym e) ∙ there 0 b refl in
      let front_here : slice_get fronts k ≡ Some x = ap (slice_get fronts) (sym e) ∙ same 0 x refl in
      let at_end : item_in f.blocks k (length b.ops) ≡ Some (End b.last) = ap (λ z. item_of z (length b.ops)) here ∙ end_item b.ops b.last in
      let plan = planned.0 in
      let h = fronted k (slice_get_within f.blocks k b here) in
      let both : Some h.front ≡ Some x = sym h.there ∙ front_here in
      let one : h.front ≡ x = cc in
      let sized : length h.front.detours ≡ length x.detours = ap (λ (z : Front). length z.detours) one in
      let is_number : number k ≡ m + length x.detours = ap number (sym e) ∙ numbers 0 (omega arith) in
      let as_many : length (detours_to (number k) x.detours) ≡ length x.detours = length-map x.detours (detour_to (number k)) in
      let detours : AreDetours f tables number first at_start k m (detours_to (number k) x.detours) =
      subst (λ (z : Front). AreDetours f tables number first at_start k m (detours_to (number k) z.detours)) one
      (detours_are f tables number first at_start k m h.front.detours (omega (arith, is_number, sized)) h.front_is.linked h.fine h.starts (owns_counted k)) in
      let last : IsLast f tables number first at_start (owned_at known f.regs k (length b.ops)) b.last (end_at number fronts p.first p.second p.last) =
      subst (λ z. IsLast f tables number first at_start (owned_at known f.regs k (length b.ops)) b.last (end_at number fronts p.first p.second z)) (sym plan.last) (last_is k b.ops b.last plan.counts (p.first, p.second) at_end fits.0.last plan.edges plan.shared) in
      let next : m + length (detours_to (number k) x.detours) + 1 ≡ m + length x.detours + 1 = omega (arith, as_many) in
      let rest : AreBlocks f tables number first at_start (suc k) (m + length x.detours + 1) bs (all_laid number fronts (suc k) fs ps) =
      blocks_are (suc k) (m + length x.detours + 1) bs fs ps
      (λ i c at. let s : k + suc i ≡ suc k + i = omega arith in ap (slice_get f.blocks) (sym s) ∙ there (suc i) c at)
      (λ i c at. let s : k + suc i ≡ suc k + i = omega arith in ap (slice_get fronts) (sym s) ∙ same (suc i) c at)
      (omega (arith, count))
      (λ i lt. let s : k + suc i ≡ suc k + i = omega arith in ap number (sym s) ∙ numbers (suc i) (omega (arith, lt)))
      fits.1 planned.1 in (
        detours_to (number k) x.detours,
        main_of number fronts p,
        all_laid number fronts (suc k) fs ps,
        refl,
        omega (arith, h.low, is_number, sized),
        omega (arith, is_number, as_many),
        λ r.
            let none : given h.front.detours 0 r ≡ 0 = total_none (λ e. e.downs) h.front.detours r in
            let no : taken h.front.detours 0 r ≡ 0 = total_none (λ e. e.ups) h.front.detours r in
            let z : number k ≡ number k - 0 = omega arith in
            ap (λ i. at_start i r) z ∙ (h.starts 0 r (omega arith) ∙ omega (arith, none, no)),
        detours,
        body_is f known is number k b.ops (block_ops k b here) b.last p.ops at_end fits.0.last plan.body,
        last,
        subst (λ z. AreBlocks f tables number first at_start (suc k) z bs (all_laid number fronts (suc k) fs ps)) (sym next) rest,
      )

  -- no detour leads to the first block
  pub begins : number 0 ≡ 0
  begins = at fronts refl
    where
      empty : (x : Front) → IsFrontOf (kept_at kept 0) x → length x.detours ≡ 0
      empty x h = ⊎_elim (λ some. let part = h.parts 1 (omega arith) (omega (arith, some)) in absurd (omega (arith, (proper 0 part.0 part.1 part.2).0))) (λ none. omega (arith, none)) (below_or_not 0 (length x.detours))

      at : (fs : List Front) → fronts ≡ fs → number_at (numbers_from 0 fs) 0 ≡ 0
      at [] e = refl
      at (x ∷ fs) e =
          let some : 0 < length kept = omega (arith, fronts_size kept fronts are_fronts, ap length e) in
          let found = front_there kept fronts are_fronts 0 some in
          let both : Some found.0 ≡ Some x = sym found.1 ∙ ap (λ z. slice_get z 0) e in
          let one : found.0 ≡ x = cc in
          omega (arith, empty found.0 found.2, ap (λ (z : Front). length z.detours) one)

  pub all_are : (ps : List Planned) → ArePlanned known f.regs kept 0 f.blocks ps → AreBlocks f tables number first at_start 0 0 f.blocks (all_laid number fronts 0 fronts ps)
  all_are ps planned =
      blocks_are 0 0 f.blocks fronts ps
      (λ i b at. let e : 0 + i ≡ i = omega arith in ap (slice_get f.blocks) e ∙ at)
      (λ i x at. let e : 0 + i ≡ i = omega arith in ap (slice_get fronts) e ∙ at)
      (fronts_size kept fronts are_fronts ∙ size)
      (λ i lt. let e : 0 + i ≡ i = omega arith in ap (λ z. get_or (numbers_from 0 fronts) z 0) e)
      fits planned

-- no block that is laid out has a handler
none_bare : (bs cs : List Block) → ((k h : ℕ) → handler_in bs k ≡ Some h → ⊥) → ((k h : ℕ) → handler_in cs k ≡ Some h → ⊥) → (k h : ℕ) → handler_in (bs ++ cs) k ≡ Some h → ⊥
none_bare [] cs one other k h e = other k h e
none_bare (b ∷ bs) cs one other zero h e = one 0 h e
none_bare (b ∷ bs) cs one other (suc k) h e = none_bare bs cs (λ j i. one (suc j) i) other k h e

nothing_bare : (k h : ℕ) → handler_in [] k ≡ Some h → ⊥
nothing_bare k h e = absurd (cc)

detours_bare : (there : ℕ) (ds : List Detour) (k h : ℕ) → handler_in (detours_to there ds) k ≡ Some h → ⊥
detours_bare there [] k h e = nothing_bare k h e
detours_bare there (d ∷ ds) zero h e = absurd (cc)
detours_bare there (d ∷ ds) (suc k) h e = detours_bare there ds k h e

main_bare : (b : Block) (bs : List Block) → b.handler ≡ None → ((k h : ℕ) → handler_in bs k ≡ Some h → ⊥) → (k h : ℕ) → handler_in (b ∷ bs) k ≡ Some h → ⊥
main_bare b bs none rest zero h e = let both : None ≡ Some h = sym none ∙ e in absurd (cc)
main_bare b bs none rest (suc k) h e = rest k h e

laid_bare : (number : ℕ → ℕ) (fronts : List Front) (b : ℕ) (fs : List Front) (ps : List Planned) (k h : ℕ) → handler_in (all_laid number fronts b fs ps) k ≡ Some h → ⊥
laid_bare number fronts b [] ps k h e = nothing_bare k h e
laid_bare number fronts b (f ∷ fs) [] k h e = nothing_bare k h e
laid_bare number fronts b (f ∷ fs) (p ∷ ps) k h e =
    none_bare (detours_to (number b) f.detours) (main_of number fronts p ∷ all_laid number fronts (suc b) fs ps) (detours_bare (number b) f.detours) (main_bare (main_of number fronts p) (all_laid number fronts (suc b) fs ps) refl (laid_bare number fronts (suc b) fs ps)) k h e

-- what is planned says nothing of handlers
planned_bare : (known : KnownRegisters) (regs : Declared) (kept : List (List EdgeCounts)) (k : ℕ) (bs : List Block) (ps : List Planned) → ArePlanned known regs kept k bs ps → ArePlanned known regs kept k (bare_blocks bs) ps
planned_bare known regs kept k [] [] h = tt
planned_bare known regs kept k [] (p ∷ ps) h = absurd h
planned_bare known regs kept k (b ∷ bs) [] h = absurd h
planned_bare known regs kept k (b ∷ bs) (p ∷ ps) h = (
  record { body = h.0.body; last = h.0.last; counts = h.0.counts; edges = h.0.edges; shared = h.0.shared },
  planned_bare known regs kept (suc k) bs ps h.1,
)

bare_size : (bs : List Block) → length (bare_blocks bs) ≡ length bs
bare_size [] = refl
bare_size (b ∷ bs) = ap suc (bare_size bs)

pub laid_is_bare : (known : KnownRegisters) (regs : Declared) (bs new : List Block) → AreLaid known regs bs new → AreLaid known regs (bare_blocks bs) new
laid_is_bare known regs bs new h =
    record {
      kept = h.kept;
      fronts = h.fronts;
      planned = h.planned;
      plan = planned_bare known regs h.kept 0 bs h.planned h.plan;
      proper = h.proper;
      size = h.size ∙ sym (bare_size bs);
      are_fronts = h.are_fronts;
      laid = h.laid;
    }

-- a function with these blocks
pub counted_by : (f g : Func) (known : KnownRegisters) (is : IsKnown f known) → FuncFits f → AreLaid known f.regs f.blocks g.blocks → g.name ≡ f.name → g.params ≡ f.params → g.ret ≡ f.ret → g.regs ≡ f.regs → length g.blocks ≤ 2 ^ 64 → IsCountedFunc f g
counted_by f g known is fits h name params ret regs few = record {
  name = name;
  params = params;
  ret = ret;
  regs = regs;
  tables = tables_of f known is;
  number = number f known is fits h.kept h.proper h.size h.fronts h.are_fronts;
  first = first f known is fits h.kept h.proper h.size h.fronts h.are_fronts;
  at_start = at_start f known is fits h.kept h.proper h.size h.fronts h.are_fronts;
  blocks = subst (AreBlocks f (tables_of f known is) (number f known is fits h.kept h.proper h.size h.fronts h.are_fronts) (first f known is fits h.kept h.proper h.size h.fronts h.are_fronts) (at_start f known is fits h.kept h.proper h.size h.fronts h.are_fronts) 0 0 f.blocks) (sym h.laid) (all_are f known is fits h.kept h.proper h.size h.fronts h.are_fronts h.planned h.plan);
  begins = begins f known is fits h.kept h.proper h.size h.fronts h.are_fronts;
  few = few;
  bare = subst (λ bs. (k h : ℕ) → handler_in bs k ≡ Some h → ⊥) (sym h.laid) (laid_bare (number_at (numbers_from 0 h.fronts)) h.fronts 0 h.fronts h.planned);
}
