-- The shape of blocks is kept: jumps to higher blocks stay such, and a jump back stays behind its turn. What holds of the
-- operations and ends of the old blocks, and of those that are added, holds of all.
use Rattle.std.proofs.Common.{◌≡◌, ◌≢◌, ◌⊎◌, inl, inr, refl, sym, ◌∙◌, ap, subst, ℕ, zero, suc, ◌+◌, ◌-◌, ◌<◌, ◌≤◌, arith, Bool, true, false, cond, List, [], ◌∷◌, ◌++◌, length, length-append, Option, Some, None}
use Rattle.std.specs.Prelude.{slice_get, IsTrue}
use Rattle.std.specs.List.{list_any}
use Rattle.std.specs.Option.{option_map_or}
use Rattle.std.proofs.lemmas.Bool.{or_left, or_right}
use Rattle.ir_core.specs.declared.code.Reg.{Reg}
use Rattle.ir_core.specs.declared.code.RType.{RType}
use Rattle.ir_core.specs.declared.code.Op.{Op}
use Rattle.ir_core.specs.declared.code.Op.TheVariants.{Lit, Turn}
use Rattle.ir_core.specs.declared.code.Last.{Last}
use Rattle.ir_core.specs.declared.code.Last.TheVariants.{Goto, If, IfError, Return, Unreachable}
use Rattle.ir_core.specs.declared.code.Block.{Block}
use Rattle.ir_core.specs.declared.kind.Edge.{Edge}
use Rattle.ir_core.specs.declared.kind.Edge.TheVariants.{NoEdge, Tests, TestsTwice, Jumps}
use Rattle.ir_core.specs.Items.{Item, in_block, item_in, handler_of}
use Rattle.ir_core.specs.Rows.{Declared, edge_of_op}
use Rattle.ir_core.specs.Meaning.{is_edge}
use Rattle.ir_core.specs.Shape.{is_turn, ends_in_turn, op_fits, OpsFit, LastFits, HandlerFits, BlockFits, BlocksFit}
use Rattle.ir_core.specs.Missing.{missing, edges_in, edges_of, is_some_edge}
use Rattle.error_edges.specs.Layout.{is_second_test, asks, needs_flag, out_of, leaves, needs_exit, extra, room, number_at, moved, target_of, block_of, asking, cut_at, cut, flag_register, error_register, chain, chains, error_literal, exit_block}
use Rattle.error_edges.proofs.Numbers.{starts_in, end_in, laid_blocks}
use Rattle.error_edges.proofs.LayoutLemmas.{chain_count, chains_count}

-- ---- what an end needs of the operations in front of it: nothing, or a turn
data Need : Type 0 where
  Nothing : Need
  ATurn : Need

abbrev Met : Need → List (Op × ℕ) → Type 0
Met Nothing ops = Unit {0}
Met ATurn ops = ends_in_turn ops ≡ true

-- the same where some of them are gone into other blocks
abbrev Left : Need → List (Op × ℕ) → List (Op × ℕ) → Type 0
Left need done [] = Met need done
Left need done (o ∷ os) = Met need (o ∷ os)

ends_append : (done : List (Op × ℕ)) (o : Op × ℕ) → ends_in_turn (o ∷ []) ≡ true → ends_in_turn (done ++ o ∷ []) ≡ true
ends_append [] o e = e
ends_append (x ∷ []) o e = e
ends_append (x ∷ y ∷ done) o e = ends_append (y ∷ done) o e

stays : (need : Need) (done : List (Op × ℕ)) (o : Op × ℕ) (os : List (Op × ℕ)) → Left need done (o ∷ os) → Left need (done ++ o ∷ []) os
stays Nothing done o [] h = tt
stays Nothing done o (p ∷ os) h = tt
stays ATurn done o [] h = ends_append done o h
stays ATurn done o (p ∷ os) h = h

-- a turn wants no edge
turn_free : (ds : Declared) (o : Op) → is_turn o ≡ true → edge_of_op ds o ≡ NoEdge
turn_free ds Turn e = refl
turn_free ds _ e = absurd (cc)

shifts : (ds : Declared) (need : Need) (done : List (Op × ℕ)) (o : Op × ℕ) (os : List (Op × ℕ)) → edge_of_op ds o.0 ≢ NoEdge → Left need done (o ∷ os) → Left need [] os
shifts ds Nothing done o [] n h = tt
shifts ds Nothing done o (p ∷ os) n h = tt
shifts ds ATurn done o [] n h = absurd (n (turn_free ds o.0 h))
shifts ds ATurn done o (p ∷ os) n h = h

left_nothing : (os : List (Op × ℕ)) → Left Nothing [] os
left_nothing [] = tt
left_nothing (o ∷ os) = tt

left_turn : (os : List (Op × ℕ)) → ends_in_turn os ≡ true → Left ATurn [] os
left_turn [] h = h
left_turn (o ∷ os) h = h

missing_none : (at : ℕ → ℕ → Option Item) (e : Edge) (item : Option Item) → e ≡ NoEdge → missing at e item ≡ NoEdge
missing_none at e item is = rw is refl

some_room : (es : List Edge) → 1 ≤ room es
some_room [] = omega arith
some_room (e ∷ es) = let h = some_room es in omega (arith, h)

-- ---- registers that are declared, those that a function may return, and operations that fit
module _ (D R : Reg → Type 0) (O : Op → Type 0) where
  abbrev pub OpsAre : List (Op × ℕ) → Type 0
  OpsAre [] = Unit {0}
  OpsAre (o ∷ os) = O o.0 × OpsAre os

  abbrev pub EndIs : Last → Type 0
  EndIs (Goto t) = Unit {0}
  EndIs (If r a b) = D r
  EndIs (IfError r a b line) = D r
  EndIs (Return r) = D r × R r
  EndIs Unreachable = Unit {0}

  abbrev pub EdgeIs : Edge → Type 0
  EdgeIs (Tests r) = D r
  EdgeIs (TestsTwice r) = D r
  EdgeIs _ = Unit {0}

  -- block k of so many
  pub record BlockIs (size k : ℕ) (b : Block) : Type 0 where
    pub fits : BlockFits size k b
    pub ops : OpsAre b.ops
    pub end : EndIs b.last

  -- blocks from number k on
  abbrev pub BlocksAre : ℕ → ℕ → List Block → Type 0
  BlocksAre size k [] = Unit {0}
  BlocksAre size k (b ∷ bs) = BlockIs size k b × BlocksAre size (suc k) bs

  pub blocks_fit : (size k : ℕ) (bs : List Block) → BlocksAre size k bs → BlocksFit size k bs
  blocks_fit size k [] h = tt
  blocks_fit size k (b ∷ bs) h = (h.0.fits, blocks_fit size (suc k) bs h.1)

  blocks_append : (size n : ℕ) (xs ys : List Block) → BlocksAre size n xs → BlocksAre size (n + length xs) ys → BlocksAre size n (xs ++ ys)
  blocks_append size n [] ys a b = let z : n + 0 ≡ n = omega arith in subst (λ k. BlocksAre size k ys) z b
  blocks_append size n (x ∷ xs) ys a b =
      let z : n + suc (length xs) ≡ suc n + length xs = omega arith in
      (a.0, blocks_append size (suc n) xs ys a.1 (subst (λ k. BlocksAre size k ys) z b))

  ops_append : (xs : List (Op × ℕ)) (o : Op × ℕ) → OpsAre xs → O o.0 → OpsAre (xs ++ o ∷ [])
  ops_append [] o h k = (k, tt)
  ops_append (x ∷ xs) o h k = (h.0, ops_append xs o h.1 k)

  edge_missing : (at : ℕ → ℕ → Option Item) (e : Edge) (item : Option Item) → EdgeIs e → EdgeIs (missing at e item)
  edge_missing at e item h = by (is_edge at e item)
    where
      by : (b : Bool) → EdgeIs (cond b NoEdge e)
      by true = tt
      by false = h

  module _ (ds : Declared) (fit : (o : Op) → O o → IsTrue (op_fits o)) (edge : (o : Op) → O o → EdgeIs (edge_of_op ds o)) (all : List Block) (size : ℕ) where
    abbrev flag : Reg
    flag = flag_register ds

    -- the question whether an exception is pending fits
    abbrev Answered : Type 0
    Answered = O (asking flag) × D flag

    all_fit : (ops : List (Op × ℕ)) → OpsAre ops → OpsFit ops
    all_fit [] h = tt
    all_fit (o ∷ os) h = (fit o.0 h.0, all_fit os h.1)

    one_block : (n : ℕ) (ops : List (Op × ℕ)) (last : Last) → OpsAre ops → LastFits size n ops last → EndIs last → BlockIs size n (block_of ops last)
    one_block n ops last h fits end =
        record { fits = record { ops = all_fit ops h; last = fits; handler = tt }; ops = h; end = end }

    -- ---- one chain, whose end fits at each number below a limit
    module _ (target : ℕ) (end : Last) (ends : EndIs end) (need : Need) (limit : ℕ) (reach : limit ≤ target) (below : limit ≤ size) (fits : (m : ℕ) (ops : List (Op × ℕ)) → m < limit → Met need ops → LastFits size m ops end) where
      at_cut : (e : Edge) (more : ℕ → List (Op × ℕ) → List Block) (rest n : ℕ) (ops : List (Op × ℕ)) (line : ℕ) → 1 ≤ rest → n + (extra e + rest) ≤ limit → OpsAre ops → EdgeIs e → (is_second_test e ≡ true → Answered) → (is_some_edge e ≡ true → target < size) → (e ≡ NoEdge → BlocksAre size n (more n ops)) → (e ≢ NoEdge → (m : ℕ) → m + rest ≤ limit → BlocksAre size m (more m [])) → BlocksAre size n (cut_at target flag e n ops line more)
      at_cut NoEdge more rest n ops line one l h tests asks inside same next = same refl
      at_cut (Tests r) more rest n ops line one l h tests asks inside same next =
          let z : n + 1 ≡ suc n = omega arith in
          let there : target < size = inside refl in (
            one_block n ops (IfError r target (n + 1) line) h ((omega (arith, l, one, reach), there), (omega arith, omega (arith, l, one, below))) tests,
            subst (λ k. BlocksAre size k (more (n + 1) [])) z (next (λ x. absurd (cc)) (n + 1) (omega (arith, l))),
          )
      at_cut (TestsTwice r) more rest n ops line one l h tests asks inside same next =
          let z : n + 2 ≡ suc (suc n) = omega arith in
          let there : target < size = inside refl in
          let answered = asks refl in (
            one_block n ops (IfError r (n + 1) (n + 2) line) h ((omega arith, omega (arith, l, one, below)), (omega arith, omega (arith, l, one, below))) tests,
            (
              one_block (suc n) ((asking flag, line) ∷ []) (If flag target (n + 2)) (answered.0, tt) ((omega (arith, l, one, reach), there), (omega arith, omega (arith, l, one, below))) answered.1,
              subst (λ k. BlocksAre size k (more (n + 2) [])) z (next (λ x. absurd (cc)) (n + 2) (omega (arith, l))),
            ),
          )
      at_cut Jumps more rest n ops line one l h tests asks inside same next =
          let z : n + 1 ≡ suc n = omega arith in
          let there : target < size = inside refl in (
            one_block n ops (Goto target) h (omega (arith, l, one, reach), there, inl (omega (arith, l, one, reach))) tt,
            subst (λ k. BlocksAre size k (more (n + 1) [])) z (next (λ x. absurd (cc)) (n + 1) (omega (arith, l))),
          )

      shorter : (e : Edge) → e ≡ NoEdge → (n k : ℕ) → n + (extra e + k) ≤ limit → n + k ≤ limit
      shorter NoEdge is n k l = omega (arith, l)
      shorter (Tests r) is n k l = omega (arith, l)
      shorter (TestsTwice r) is n k l = omega (arith, l)
      shorter Jumps is n k l = omega (arith, l)

      cut_fits : (os : List (Op × ℕ)) (last : Last) (n : ℕ) (done : List (Op × ℕ)) → n + room (edges_in ds all os last) ≤ limit → OpsAre os → OpsAre done → (list_any is_second_test (edges_in ds all os last) ≡ true → Answered) → (list_any is_some_edge (edges_in ds all os last) ≡ true → target < size) → Left need done os → BlocksAre size n (cut target flag os (edges_in ds all os last) end n done)
      cut_fits [] last n done l h k asks inside left = (one_block n done end k (fits n done (omega (arith, l)) left) ends, tt)
      cut_fits (o ∷ os) last n done l h k asks inside left =
          let e : Edge = missing (item_in all) (edge_of_op ds o.0) (in_block os last 0) in
          let es : List Edge = edges_in ds all os last in
          let later : list_any is_second_test es ≡ true → Answered = λ x. asks (or_right (is_second_test e) (list_any is_second_test es) x) in
          let out : list_any is_some_edge es ≡ true → target < size = λ x. inside (or_right (is_some_edge e) (list_any is_some_edge es) x) in
          at_cut e (cut target flag os es end) (room es) n (done ++ o ∷ []) o.1 (some_room es) l (ops_append done o k h.0)
          (edge_missing (item_in all) (edge_of_op ds o.0) (in_block os last 0) (edge o.0 h.0))
          (λ x. asks (or_left (is_second_test e) (list_any is_second_test es) x))
          (λ x. inside (or_left (is_some_edge e) (list_any is_some_edge es) x))
          (λ none. cut_fits os last n (done ++ o ∷ []) (shorter e none n (room es) l) h.1 (ops_append done o k h.0) later out (stays need done o os left))
          (λ some m x. cut_fits os last m [] x h.1 tt later out (shifts ds need done o os (λ is. some (missing_none (item_in all) (edge_of_op ds o.0) (in_block os last 0) is)) left))

    -- the chain of block k of so many, which begins at number n
    module _ (old k n : ℕ) (target : ℕ) (start : ℕ → ℕ) (inner : k ≤ n) where
      chain_fits : (ops : List (Op × ℕ)) (last : Last) → n + room (edges_in ds all ops last) ≤ target → n + room (edges_in ds all ops last) ≤ size → (list_any is_second_test (edges_in ds all ops last) ≡ true → Answered) → (list_any is_some_edge (edges_in ds all ops last) ≡ true → target < size) → ((t : ℕ) → k < t → t < old → (n + room (edges_in ds all ops last) ≤ start t) × (start t < size)) → ((t : ℕ) → 0 < t → t < old → (0 < start t) × (start t < size)) → OpsAre ops → EndIs last → LastFits old k ops last → BlocksAre size n (cut target flag ops (edges_in ds all ops last) (moved start last) n [])
      chain_fits ops (Goto t) reach below asks inside ahead some h end fits = on fits.2
        where
          on : (k < t) ⊎ (ends_in_turn ops ≡ true) → BlocksAre size n (cut target flag ops (edges_in ds all ops (Goto t)) (moved start (Goto t)) n [])
          on (inl l) =
              cut_fits target (Goto (start t)) tt Nothing (n + room (edges_in ds all ops (Goto t))) reach below
              (λ m os lt met. let a = ahead t l fits.1 in (omega (arith, a.0, lt), a.1, inl (omega (arith, a.0, lt))))
              ops (Goto t) n [] (omega arith) h tt asks inside (left_nothing ops)
          on (inr turn) =
              cut_fits target (Goto (start t)) tt ATurn (n + room (edges_in ds all ops (Goto t))) reach below
              (λ m os lt met. let a = some t fits.0 fits.1 in (a.0, a.1, inr met))
              ops (Goto t) n [] (omega arith) h tt asks inside (left_turn ops turn)
      chain_fits ops (If r a b) reach below asks inside ahead some h end fits =
          cut_fits target (If r (start a) (start b)) end Nothing (n + room (edges_in ds all ops (If r a b))) reach below
          (λ m os lt met. let x = ahead a fits.0.0 fits.0.1 in let y = ahead b fits.1.0 fits.1.1 in ((omega (arith, x.0, lt), x.1), (omega (arith, y.0, lt), y.1)))
          ops (If r a b) n [] (omega arith) h tt asks inside (left_nothing ops)
      chain_fits ops (IfError r a b line) reach below asks inside ahead some h end fits =
          cut_fits target (IfError r (start a) (start b) line) end Nothing (n + room (edges_in ds all ops (IfError r a b line))) reach below
          (λ m os lt met. let x = ahead a fits.0.0 fits.0.1 in let y = ahead b fits.1.0 fits.1.1 in ((omega (arith, x.0, lt), x.1), (omega (arith, y.0, lt), y.1)))
          ops (IfError r a b line) n [] (omega arith) h tt asks inside (left_nothing ops)
      chain_fits ops (Return r) reach below asks inside ahead some h end fits =
          cut_fits target (Return r) end Nothing (n + room (edges_in ds all ops (Return r))) reach below (λ m os lt met. tt)
          ops (Return r) n [] (omega arith) h tt asks inside (left_nothing ops)
      chain_fits [] Unreachable reach below asks inside ahead some h end fits =
          let l : 0 < k = fits.0 in (one_block n [] Unreachable tt (omega (arith, l, inner), refl) tt, tt)
      chain_fits (o ∷ ops) Unreachable reach below asks inside ahead some h end fits = let e = fits.1 in absurd (cc)

-- ---- where the chains begin
module _ (ds : Declared) (all : List Block) where
  end_above : (bs : List Block) (n : ℕ) → n ≤ end_in ds all bs n
  end_above [] n = omega arith
  end_above (b ∷ bs) n = let h = end_above bs (n + room (edges_of ds all b)) in omega (arith, h)

  pub end_below : (bs : List Block) (n : ℕ) → n + length bs ≤ end_in ds all bs n
  end_below [] n = omega arith
  end_below (b ∷ bs) n =
      let h = end_below bs (n + room (edges_of ds all b)) in
      let k = some_room (edges_of ds all b) in
      omega (arith, h, k)

  abbrev from : ℕ → List ℕ → ℕ → ℕ
  from exit starts j = option_map_or (λ n. n) (slice_get starts j) exit

  start_above : (exit : ℕ) (bs : List Block) (n j : ℕ) → j < length bs → (n ≤ from exit (starts_in ds all bs n) j) × (from exit (starts_in ds all bs n) j < end_in ds all bs n)
  start_above exit [] n j l = absurd (omega (arith, l))
  start_above exit (b ∷ bs) n zero l =
      let h = end_above bs (n + room (edges_of ds all b)) in
      let k = some_room (edges_of ds all b) in
      (omega arith, omega (arith, h, k))
  start_above exit (b ∷ bs) n (suc j) l =
      let h = start_above exit bs (n + room (edges_of ds all b)) j (omega (arith, l)) in
      (omega (arith, h.0), h.1)

-- ---- all chains, and the exit
module _ (D R : Reg → Type 0) (O : Op → Type 0) (ds : Declared) (fit : (o : Op) → O o → IsTrue (op_fits o)) (edge : (o : Op) → O o → EdgeIs D R O (edge_of_op ds o)) (all : List Block) where
  abbrev exit : ℕ
  exit = end_in ds all all 0

  abbrev start : ℕ → ℕ
  start = number_at (starts_in ds all all 0) exit

  abbrev Answers : Type 0
  Answers = O (asking (flag_register ds)) × D (flag_register ds)

  module _ (size : ℕ) (big : exit ≤ size) where
    some_start : (t : ℕ) → 0 < t → t < length all → (0 < start t) × (start t < size)
    some_start t p l = on all exit t p l big
      where
        on : (bs : List Block) (x t : ℕ) → 0 < t → t < length bs → end_in ds all bs 0 ≤ size → (0 < from ds all x (starts_in ds all bs 0) t) × (from ds all x (starts_in ds all bs 0) t < size)
        on [] x t p l e = absurd (omega (arith, l))
        on (b ∷ bs) x zero p l e = absurd (omega (arith, p))
        on (b ∷ bs) x (suc j) p l e =
            let h = start_above ds all x bs (0 + room (edges_of ds all b)) j (omega (arith, l)) in
            let k = some_room (edges_of ds all b) in
            (omega (arith, h.0, k), omega (arith, h.1, e))

    target_there : (k m : ℕ) (h : Option ℕ) → HandlerFits (length all) k h → m ≤ exit → ((t : ℕ) → k < t → t < length all → (m ≤ start t) × (start t < size)) → m ≤ target_of start exit h
    target_there k m None fits above ahead = above
    target_there k m (Some t) fits above ahead = (ahead t fits.0 fits.1).0

    target_inside : (k m : ℕ) (h : Option ℕ) (fails : Bool) → HandlerFits (length all) k h → ((t : ℕ) → k < t → t < length all → (m ≤ start t) × (start t < size)) → (out_of h fails ≡ true → exit < size) → fails ≡ true → target_of start exit h < size
    target_inside k m None fails fits ahead out is = out is
    target_inside k m (Some t) fails fits ahead out is = (ahead t fits.0 fits.1).1

    chains_fit : (bs : List Block) (k n : ℕ) → k + length bs ≡ length all → k ≤ n → end_in ds all bs n ≡ exit → ((j : ℕ) → slice_get (starts_in ds all all 0) (k + j) ≡ slice_get (starts_in ds all bs n) j) → (list_any (asks ds all) bs ≡ true → Answers) → (list_any (leaves ds all) bs ≡ true → exit < size) → BlocksAre D R O (length all) k bs → BlocksAre D R O size n (chains ds all start exit bs n)
    chains_fit [] k n count inner ends same asked out old = tt
    chains_fit (b ∷ bs) k n count inner ends same asked out old =
        let r : ℕ = room (edges_of ds all b) in
        let target : ℕ = target_of start exit (handler_of b) in
        let one = some_room (edges_of ds all b) in
        let above = end_above ds all bs (n + r) in
        let reach : n + r ≤ exit = omega (arith, above, ends) in
        let shifted : (j : ℕ) → slice_get (starts_in ds all all 0) (suc k + j) ≡ slice_get (starts_in ds all bs (n + r)) j = λ j. let z : suc k + j ≡ k + suc j = omega arith in ap (slice_get (starts_in ds all all 0)) z ∙ same (suc j) in
        let ahead : (t : ℕ) → k < t → t < length all → (n + r ≤ start t) × (start t < size) = λ t l m. (
        let z : t ≡ suc k + (t - suc k) = omega (arith, l) in
        let at : start t ≡ from ds all exit (starts_in ds all bs (n + r)) (t - suc k) = ap (λ o. option_map_or (λ n. n) o exit) (ap (slice_get (starts_in ds all all 0)) z ∙ shifted (t - suc k)) in
        let h = start_above ds all exit bs (n + r) (t - suc k) (omega (arith, l, m, count)) in
        (omega (arith, at, h.0), omega (arith, at, h.1, ends, big))) in
        let chained : BlocksAre D R O size n (chain ds all start exit b n) =
        chain_fits D R O ds fit edge all size (length all) k n target start inner b.ops b.last
        (target_there k (n + r) (handler_of b) old.0.fits.handler reach ahead)
        (omega (arith, reach, big))
        (λ x. asked (or_left (asks ds all b) (list_any (asks ds all) bs) x))
        (target_inside k (n + r) (handler_of b) (list_any is_some_edge (edges_of ds all b)) old.0.fits.handler ahead (λ x. out (or_left (leaves ds all b) (list_any (leaves ds all) bs) x)))
        ahead some_start old.0.ops old.0.end old.0.fits.last in
        let rest : BlocksAre D R O size (n + r) (chains ds all start exit bs (n + r)) =
        chains_fit bs (suc k) (n + r) (omega (arith, count)) (omega (arith, inner, one)) ends shifted
        (λ x. asked (or_right (asks ds all b) (list_any (asks ds all) bs) x)) (λ x. out (or_right (leaves ds all b) (list_any (leaves ds all) bs) x)) old.1 in
        blocks_append D R O size n (chain ds all start exit b n) (chains ds all start exit bs (n + r)) chained
        (subst (λ c. BlocksAre D R O size (n + c) (chains ds all start exit bs (n + r))) (sym (chain_count ds all start exit b n)) rest)

  module _ (ret : RType) (asked : needs_flag ds all ≡ true → Answers) (given : needs_exit ds all ≡ true → O (Lit (error_register ds all) (error_literal ret)) × D (error_register ds all) × R (error_register ds all)) (old : BlocksAre D R O (length all) 0 all) where
    abbrev main : List Block
    main = chains ds all start exit all 0

    main_count : length main ≡ exit
    main_count = let e = chains_count ds all start exit all 0 in omega (arith, e)

    with_exit : (b : Bool) → (b ≡ true → O (Lit (error_register ds all) (error_literal ret)) × D (error_register ds all) × R (error_register ds all)) → ((size : ℕ) → exit ≤ size → (b ≡ true → exit < size) → BlocksAre D R O size 0 main) → BlocksAre D R O (length (main ++ cond b (exit_block (error_register ds all) ret ∷ []) [])) 0 (main ++ cond b (exit_block (error_register ds all) ret ∷ []) [])
    with_exit true gives h =
        let last : Block = exit_block (error_register ds all) ret in
        let size : ℕ = length (main ++ last ∷ []) in
        let count : size ≡ exit + 1 = length-append main (last ∷ []) ∙ ap (λ n. n + 1) main_count in
        let g = gives refl in
        let one : BlockIs D R O size (0 + length main) last = one_block D R O ds fit edge all size (0 + length main) last.ops last.last (g.0, tt) tt (g.1, g.2) in
        blocks_append D R O size 0 main (last ∷ []) (h size (omega (arith, count)) (λ e. omega (arith, count))) (one, tt)
    with_exit false gives h =
        let count : length (main ++ []) ≡ exit = length-append main [] ∙ (let z : length main + 0 ≡ length main = omega arith in z) ∙ main_count in
        blocks_append D R O (length (main ++ [])) 0 main [] (h (length (main ++ [])) (omega (arith, count)) (λ e. absurd (cc))) tt

    pub laid_fit : BlocksAre D R O (length (laid_blocks ds ret all)) 0 (laid_blocks ds ret all)
    laid_fit =
        let none : 0 + length all ≡ length all = omega arith in
        with_exit (needs_exit ds all) given
        (λ size big out. chains_fit size big all 0 0 none (omega arith) refl (λ j. let z : 0 + j ≡ j = omega arith in ap (slice_get (starts_in ds all all 0)) z) asked out old)
