-- The blocks of the layout stand as the simulation wants them.
use Rattle.std.proofs.Common.{◌≡◌, refl, sym, ◌∙◌, ap, subst, ℕ, zero, suc, ◌+◌, arith, Bool, true, false, cond, List, [], ◌∷◌, ◌++◌, length, length-append, append_assoc, Option, Some, None}
use Rattle.std.specs.Prelude.{slice_get}
use Rattle.std.specs.List.{list_any}
use Rattle.std.specs.Option.{option_map, option_map_or}
use Rattle.std.proofs.lemmas.Bool.{or_left, or_right}
use Rattle.ir_core.specs.declared.code.RType.{RType}
use Rattle.ir_core.specs.declared.code.RType.TheVariants.{Bool as BoolType}
use Rattle.ir_core.specs.declared.code.Reg.{Reg}
use Rattle.ir_core.specs.declared.code.Op.{Op}
use Rattle.ir_core.specs.declared.code.Last.{Last}
use Rattle.ir_core.specs.declared.code.Last.TheVariants.{Goto, IfError}
use Rattle.ir_core.specs.declared.code.Block.{Block}
use Rattle.ir_core.specs.declared.code.Func.{Func}
use Rattle.ir_core.specs.declared.kind.Edge.{Edge}
use Rattle.ir_core.specs.declared.kind.Edge.TheVariants.{NoEdge, Tests, TestsTwice, Jumps}
use Rattle.ir_core.specs.Items.{Item, Do, in_block, item_of, item_in, handler_of}
use Rattle.ir_core.specs.Rows.{Declared, type_of_reg, edge_of_op}
use Rattle.ir_core.proofs.ItemLemmas.{end_item}
use Rattle.error_edges.specs.Names.{IsGrown}
use Rattle.ir_core.specs.Missing.{missing, edges_in, edges_of, is_some_edge}
use Rattle.error_edges.specs.Layout.{is_second_test, asks, needs_flag, out_of, leaves, needs_exit, room, number_at, moved, target_of, block_of, second_test, cut_at, cut, flag_register, error_register, chain, chains, exit_block, exit_blocks}
use Rattle.error_edges.specs.Edged.{IsEdged}
use Rattle.error_edges.proofs.Numbers.{starts_in, end_in, laid_same}
use Rattle.error_edges.proofs.LayoutLemmas.{chain_count, chains_count}
use Rattle.error_edges.proofs.Laid.{LaidAfter, Laid, ExitStands, Escapes, Asked, BlockStands, FunctionLaid}
use Rattle.error_edges.proofs.RegisterLemmas.{get_more, get_first, type_more}

-- the items of these blocks stand from a number on
abbrev pub At : (ℕ → ℕ → Option Item) → ℕ → List Block → Type 0
At item n blocks = (j : ℕ) (b : Block) → slice_get blocks j ≡ Some b → (i : ℕ) → item (n + j) i ≡ in_block b.ops b.last i

at_all : (blocks : List Block) → At (item_in blocks) 0 blocks
at_all blocks j b e i =
    let z : 0 + j ≡ j = omega arith in ap (λ k. item_in blocks k i) z ∙ ap (λ o. item_of o i) e

in_ops : (ops : List (Op × ℕ)) (last : Last) (i : ℕ) (o : Op × ℕ) → slice_get ops i ≡ Some o → in_block ops last i ≡ Some (Do o.0 o.1)
in_ops [] last i o e = absurd (cc)
in_ops (x ∷ ops) last zero o e = let same : x ≡ o = cc in ap (λ (y : Op × ℕ). Some (Do y.0 y.1)) same
in_ops (x ∷ ops) last (suc i) o e = in_ops ops last i o e

module _ (item : ℕ → ℕ → Option Item) where
  pub at_first : (n : ℕ) (b : Block) (bs : List Block) → At item n (b ∷ bs) → (i : ℕ) → item n i ≡ in_block b.ops b.last i
  at_first n b bs at i = let z : n + 0 ≡ n = omega arith in ap (λ k. item k i) (sym z) ∙ at 0 b refl i

  pub at_rest : (n : ℕ) (b : Block) (bs : List Block) → At item n (b ∷ bs) → At item (n + 1) bs
  at_rest n b bs at j c e i = let z : n + 1 + j ≡ n + suc j = omega arith in ap (λ k. item k i) z ∙ at (suc j) c e i

  behind : (xs ys : List Block) (j : ℕ) → slice_get (xs ++ ys) (length xs + j) ≡ slice_get ys j
  behind [] ys j = let z : 0 + j ≡ j = omega arith in ap (slice_get ys) z
  behind (x ∷ xs) ys j =
      let z : suc (length xs) + j ≡ suc (length xs + j) = omega arith in
      ap (slice_get (x ∷ (xs ++ ys))) z ∙ behind xs ys j

  pub at_append : (n : ℕ) (xs ys : List Block) → At item n (xs ++ ys) → At item n xs × At item (n + length xs) ys
  at_append n xs ys at = (
    λ j b e. at j b (get_more xs ys j b e),
    λ j b e i. let z : n + length xs + j ≡ n + (length xs + j) = omega arith in ap (λ k. item k i) z ∙ at (length xs + j) b (behind xs ys j ∙ e) i,
  )

  -- ---- one chain
  module _ (start : ℕ → ℕ) (target : ℕ) (flag : Reg) (Asks Out : Type 0) (regs : Declared) (all : List Block) where
    -- the operations that stand in the block already
    stand_at : (e : Edge) (more : ℕ → List (Op × ℕ) → List Block) (n : ℕ) (done : List (Op × ℕ)) (line i : ℕ) (o : Op × ℕ) → slice_get done i ≡ Some o → (At item n (more n done) → item n i ≡ Some (Do o.0 o.1)) → At item n (cut_at target flag e n done line more) → item n i ≡ Some (Do o.0 o.1)
    stand_at NoEdge more n done line i o e h at = h at
    stand_at (Tests r) more n done line i o e h at =
        at_first n (block_of done (IfError r target (n + 1) line)) (more (n + 1) []) at i ∙ in_ops done _ i o e
    stand_at (TestsTwice r) more n done line i o e h at =
        at_first n (block_of done (IfError r (n + 1) (n + 2) line)) (second_test target flag line (n + 2) ∷ more (n + 2) []) at i ∙ in_ops done _ i o e
    stand_at Jumps more n done line i o e h at =
        at_first n (block_of done (Goto target)) (more (n + 1) []) at i ∙ in_ops done _ i o e

    stand : (os : List (Op × ℕ)) (last end : Last) (n : ℕ) (done : List (Op × ℕ)) (i : ℕ) (o : Op × ℕ) → slice_get done i ≡ Some o → At item n (cut target flag os (edges_in regs all os last) end n done) → item n i ≡ Some (Do o.0 o.1)
    stand [] last end n done i o e at = at_first n (block_of done end) [] at i ∙ in_ops done end i o e
    stand (x ∷ os) last end n done i o e at =
        let more = get_more done (x ∷ []) i o e in
        stand_at (missing (item_in all) (edge_of_op regs x.0) (in_block os last 0)) (cut target flag os (edges_in regs all os last) end) n (done ++ x ∷ []) x.1 i o more (stand os last end n (done ++ x ∷ []) i o more) at

    -- an operation, and what comes behind it
    laid_at : (e : Edge) (more : ℕ → List (Op × ℕ) → List Block) (rest : ℕ → ℕ → Type 0) (n : ℕ) (ops : List (Op × ℕ)) (line i : ℕ) → length ops ≡ i + 1 → (is_second_test e ≡ true → Asks) → (is_some_edge e ≡ true → Out) → ((k j : ℕ) (done : List (Op × ℕ)) → length done ≡ j → At item k (more k done) → rest k j) → At item n (cut_at target flag e n ops line more) → LaidAfter item start target flag Asks Out regs all e line n i rest
    laid_at NoEdge more rest n ops line i l asked out h at = h n (i + 1) ops l at
    laid_at (Tests r) more rest n ops line i l asked out h at =
        let block : Block = block_of ops (IfError r target (n + 1) line) in
        let end = at_first n block (more (n + 1) []) at (i + 1) ∙ ap (in_block ops block.last) (sym l) ∙ end_item ops block.last in
        (end, out refl, h (n + 1) 0 [] refl (at_rest n block (more (n + 1) []) at))
    laid_at (TestsTwice r) more rest n ops line i l asked out h at =
        let first : Block = block_of ops (IfError r (n + 1) (n + 2) line) in
        let test : Block = second_test target flag line (n + 2) in
        let end = at_first n first (test ∷ more (n + 2) []) at (i + 1) ∙ ap (in_block ops first.last) (sym l) ∙ end_item ops first.last in
        let second = at_rest n first (test ∷ more (n + 2) []) at in
        let two : n + 1 + 1 ≡ n + 2 = omega arith in (
          end,
          at_first (n + 1) test (more (n + 2) []) second 0,
          at_first (n + 1) test (more (n + 2) []) second 1,
          asked refl,
          out refl,
          h (n + 2) 0 [] refl (subst (λ k. At item k (more (n + 2) [])) two (at_rest (n + 1) test (more (n + 2) []) second)),
        )
    laid_at Jumps more rest n ops line i l asked out h at =
        let block : Block = block_of ops (Goto target) in
        let end = at_first n block (more (n + 1) []) at (i + 1) ∙ ap (in_block ops block.last) (sym l) ∙ end_item ops block.last in
        (end, out refl, h (n + 1) 0 [] refl (at_rest n block (more (n + 1) []) at))

    cut_laid : (os : List (Op × ℕ)) (last : Last) (n i : ℕ) (done : List (Op × ℕ)) → length done ≡ i → (list_any is_second_test (edges_in regs all os last) ≡ true → Asks) → (list_any is_some_edge (edges_in regs all os last) ≡ true → Out) → At item n (cut target flag os (edges_in regs all os last) (moved start last) n done) → Laid item start target flag Asks Out regs all os last n i
    cut_laid [] last n i done l asked out at =
        at_first n (block_of done (moved start last)) [] at i ∙ ap (in_block done (moved start last)) (sym l) ∙ end_item done (moved start last)
    cut_laid (x ∷ os) last n i done l asked out at =
        let ops : List (Op × ℕ) = done ++ x ∷ [] in
        let e : Edge = missing (item_in all) (edge_of_op regs x.0) (in_block os last 0) in
        let es : List Edge = edges_in regs all os last in
        let more : ℕ → List (Op × ℕ) → List Block = cut target flag os es (moved start last) in
        let count : length ops ≡ i + 1 = length-append done (x ∷ []) ∙ ap (λ k. k + 1) l in
        let here : slice_get ops i ≡ Some x = ap (slice_get ops) (sym l) ∙ get_first done [] x in (
          stand_at e more n ops x.1 i x here (stand os last (moved start last) n ops i x here) at,
          laid_at e more (Laid item start target flag Asks Out regs all os last) n ops x.1 i count
              (λ h. asked (or_left (is_second_test e) (list_any is_second_test es) h))
              (λ h. out (or_left (is_some_edge e) (list_any is_some_edge es) h))
              (λ k j done l at. cut_laid os last k j done l (λ h. asked (or_right (is_second_test e) (list_any is_second_test es) h)) (λ h. out (or_right (is_some_edge e) (list_any is_some_edge es) h)) at) at,
        )

-- ---- all chains
module _ (f g : Func) (start : ℕ → ℕ) (exit : ℕ) (asked : needs_flag f.regs f.blocks ≡ true → Asked g (flag_register f.regs)) (stands : needs_exit f.regs f.blocks ≡ true → ExitStands g exit) where
  escapes : (h : Option ℕ) (fails : Bool) → fails ≡ true → (out_of h fails ≡ true → ExitStands g exit) → Escapes g exit h
  escapes None fails is out = out is
  escapes (Some h) fails is out = tt

  block_laid : (b : Block) (n : ℕ) → (asks f.regs f.blocks b ≡ true → Asked g (flag_register f.regs)) → (leaves f.regs f.blocks b ≡ true → ExitStands g exit) → At (item_in g.blocks) n (chain f.regs f.blocks start exit b n) → BlockStands f g start exit b b.ops b.last n 0
  block_laid b n asked out at =
      cut_laid (item_in g.blocks) start (target_of start exit (handler_of b)) (flag_register f.regs) (Asked g (flag_register f.regs)) (Escapes g exit (handler_of b)) f.regs f.blocks b.ops b.last n 0 [] refl asked
      (λ h. escapes (handler_of b) (list_any is_some_edge (edges_of f.regs f.blocks b)) h out) at

  chains_laid : (bs : List Block) (n : ℕ) → (list_any (asks f.regs f.blocks) bs ≡ true → Asked g (flag_register f.regs)) → (list_any (leaves f.regs f.blocks) bs ≡ true → ExitStands g exit) → At (item_in g.blocks) n (chains f.regs f.blocks start exit bs n) → (k : ℕ) (b : Block) → slice_get bs k ≡ Some b → (m : ℕ) × (slice_get (starts_in f.regs f.blocks bs n) k ≡ Some m) × BlockStands f g start exit b b.ops b.last m 0
  chains_laid [] n asked out at k b e = absurd (cc)
  chains_laid (x ∷ bs) n asked out at zero b e =
      let same : x ≡ b = cc in
      let first = (at_append (item_in g.blocks) n (chain f.regs f.blocks start exit x n) _ at).0 in (
        n,
        refl,
        subst (λ (y : Block). BlockStands f g start exit y y.ops y.last n 0) same
            (block_laid x n (λ h. asked (or_left (asks f.regs f.blocks x) (list_any (asks f.regs f.blocks) bs) h)) (λ h. out (or_left (leaves f.regs f.blocks x) (list_any (leaves f.regs f.blocks) bs) h)) first),
      )
  chains_laid (x ∷ bs) n asked out at (suc k) b e =
      let next : ℕ = n + room (edges_of f.regs f.blocks x) in
      let second = (at_append (item_in g.blocks) n (chain f.regs f.blocks start exit x n) _ at).1 in
      chains_laid bs next (λ h. asked (or_right (asks f.regs f.blocks x) (list_any (asks f.regs f.blocks) bs) h)) (λ h. out (or_right (leaves f.regs f.blocks x) (list_any (leaves f.regs f.blocks) bs) h))
      (subst (λ c. At (item_in g.blocks) (n + c) (chains f.regs f.blocks start exit bs next)) (chain_count f.regs f.blocks start exit x n) second) k b e

-- ---- the registers that are added
grown_by : (needed : Bool) (t : RType) (old new : Declared) → IsGrown needed t old new → (more : Declared) × (new ≡ old ++ more)
grown_by false t old new h = ([], h ∙ no_more old)
  where
    no_more : (xs : Declared) → xs ≡ xs ++ []
    no_more [] = refl
    no_more (x ∷ xs) = ap (λ l. x ∷ l) (no_more xs)
grown_by true t old new h = ((h.0, t) ∷ [], h.2)

pub grown_there : (needed : Bool) (t : RType) (old new : Declared) → IsGrown needed t old new → needed ≡ true → type_of_reg new (record { 0 = length old }) ≡ Some t
grown_there false t old new h e = absurd (cc)
grown_there true t old new h e =
    ap (λ ds. option_map (λ (x : List ℕ × RType). x.1) (slice_get ds (length old))) h.2 ∙ ap (option_map (λ (x : List ℕ × RType). x.1)) (get_first old [] (h.0, t))

pub grown_count : (needed : Bool) (t : RType) (old new : Declared) → IsGrown needed t old new → length new ≡ length old + cond needed 1 0
grown_count false t old new h = ap length h ∙ omega arith
grown_count true t old new h = ap length h.2 ∙ length-append old ((h.0, t) ∷ [])

-- ---- a function
module _ (f g : Func) (edged : IsEdged f g) where
  abbrev exit : ℕ
  exit = end_in f.regs f.blocks f.blocks 0

  abbrev start : ℕ → ℕ
  start = number_at (starts_in f.regs f.blocks f.blocks 0) exit

  abbrev main : List Block
  main = chains f.regs f.blocks start exit f.blocks 0

  pub more_regs : (more : Declared) × (g.regs ≡ f.regs ++ more)
  more_regs =
      let flag = grown_by (needs_flag f.regs f.blocks) BoolType f.regs edged.between edged.flag in
      let error = grown_by (needs_exit f.regs f.blocks) f.ret edged.between g.regs edged.error in
      (flag.0 ++ error.0, error.1 ∙ (ap (λ ds. ds ++ error.0) flag.1 ∙ append_assoc f.regs flag.0 error.0))

  pub asked : needs_flag f.regs f.blocks ≡ true → Asked g (flag_register f.regs)
  asked e =
      let there = grown_there (needs_flag f.regs f.blocks) BoolType f.regs edged.between edged.flag e in
      let error = grown_by (needs_exit f.regs f.blocks) f.ret edged.between g.regs edged.error in
      ap (λ ds. type_of_reg ds (flag_register f.regs)) error.1
      ∙ type_more edged.between error.0 (flag_register f.regs) BoolType there

  both : At (item_in g.blocks) 0 main × At (item_in g.blocks) exit (exit_blocks f.regs f.ret f.blocks)
  both =
      let blocks : List Block = main ++ exit_blocks f.regs f.ret f.blocks in
      let all : At (item_in g.blocks) 0 blocks = subst (λ bs. At (item_in bs) 0 blocks) (laid_same f.regs f.ret f.blocks ∙ sym edged.blocks) (at_all blocks) in
      let parts = at_append (item_in g.blocks) 0 main (exit_blocks f.regs f.ret f.blocks) all in
      (parts.0, subst (λ k. At (item_in g.blocks) k (exit_blocks f.regs f.ret f.blocks)) (chains_count f.regs f.blocks start exit f.blocks 0) parts.1)

  pub exit_stands : needs_exit f.regs f.blocks ≡ true → ExitStands g exit
  exit_stands e =
      let r : Reg = error_register f.regs f.blocks in
      let block : Block = exit_block r f.ret in
      let there : At (item_in g.blocks) exit (block ∷ []) = subst (λ c. At (item_in g.blocks) exit (cond c (block ∷ []) [])) e both.1 in
      let count : length edged.between ≡ r.0 = grown_count (needs_flag f.regs f.blocks) BoolType f.regs edged.between edged.flag in
      let kind : type_of_reg g.regs r ≡ Some f.ret =
      ap (λ n. type_of_reg g.regs (record { 0 = n })) (sym count) ∙ grown_there (needs_exit f.regs f.blocks) f.ret edged.between g.regs edged.error e in
      rw (edged.ret)
      (record {
        register = r;
        kind = kind;
        writes = at_first (item_in g.blocks) exit block [] there 0;
        returns = at_first (item_in g.blocks) exit block [] there 1;
      })

  first_start : (bs : List Block) → number_at (starts_in f.regs f.blocks bs 0) (end_in f.regs f.blocks bs 0) 0 ≡ 0
  first_start [] = refl
  first_start (x ∷ bs) = refl

  pub function_laid : FunctionLaid f g
  function_laid = record {
    start = start;
    exit = exit;
    entry = first_start f.blocks;
    params = edged.params;
    ret = edged.ret;
    more = more_regs.0;
    regs = more_regs.1;
    blocks = λ k b e. let there = chains_laid f g start exit asked exit_stands f.blocks 0 asked exit_stands both.0 k b e in subst (λ m. BlockStands f g start exit b b.ops b.last m 0) (sym (ap (λ o. option_map_or (λ n. n) o exit) there.1)) there.2;
  }

  -- its blocks are the chains and the exit, where they stand
  abbrev pub laid_chains : List Block
  laid_chains = chains f.regs f.blocks function_laid.start function_laid.exit f.blocks 0

  pub chains_at : At (item_in g.blocks) 0 laid_chains
  unfolding function_laid
  chains_at = both.0

  pub chains_are : laid_chains ++ exit_blocks f.regs f.ret f.blocks ≡ g.blocks
  unfolding function_laid
  chains_are = laid_same f.regs f.ret f.blocks ∙ sym edged.blocks
