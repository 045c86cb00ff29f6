-- The new numbers of blocks, one by one.
use Rattle.std.proofs.Common.{◌≡◌, refl, sym, ◌∙◌, ap, ℕ, zero, suc, ◌+◌, ◌<◌, ◌≤◌, arith, Bool, cond, List, [], ◌∷◌, ◌++◌, length, take, drop, Option, Some, None, inl, inr}
use Rattle.std.specs.Prelude.{slice_get}
use Rattle.std.specs.List.{sum_by}
use Rattle.std.specs.Option.{option_map_or}
use Rattle.std.proofs.lemmas.Bool.{cases_lt}
use Rattle.std.proofs.lemmas.List.{take_all}
use Rattle.std.proofs.lemmas.List.Sums.{sum_by-cons}
use Rattle.ir_core.specs.declared.code.RType.{RType}
use Rattle.ir_core.specs.declared.code.Last.{Last}
use Rattle.ir_core.specs.declared.code.Last.TheVariants.{Goto, If, IfError, Return, Unreachable}
use Rattle.ir_core.specs.declared.code.Block.{Block}
use Rattle.ir_core.specs.Items.{handler_of}
use Rattle.ir_core.specs.Rows.{Declared}
use Rattle.ir_core.specs.Missing.{edges_of}
use Rattle.error_edges.specs.Layout.{needs_flag, needs_exit, exit_block, size_of, start_of, exit_of, number_at, moved, target_of, cut, flag_register, chain, chains, exit_blocks, edged_blocks}

module _ (regs : Declared) (all : List Block) where
  -- the first blocks of the chains, where the first chain begins at a number, and the number behind the last one
  abbrev pub starts_in : List Block → ℕ → List ℕ
  starts_in [] n = []
  starts_in (b ∷ bs) n = n ∷ starts_in bs (n + size_of regs all b)

  abbrev pub end_in : List Block → ℕ → ℕ
  end_in [] n = n
  end_in (b ∷ bs) n = end_in bs (n + size_of regs all b)

  end_is : (bs : List Block) (n : ℕ) → end_in bs n ≡ n + sum_by (size_of regs all) bs
  end_is [] n = omega arith
  end_is (b ∷ bs) n =
      let rest = end_is bs (n + size_of regs all b) in
      let sum = sum_by-cons (size_of regs all) b bs in
      omega (arith, rest, sum)

  pub exit_is : (bs : List Block) → end_in bs 0 ≡ sum_by (size_of regs all) bs
  exit_is bs = let e = end_is bs 0 in omega (arith, e)

  abbrev first_at : List Block → ℕ → ℕ
  first_at bs k = sum_by (size_of regs all) (take k bs)

  starts_are : (bs : List Block) (n k : ℕ) → k < length bs → slice_get (starts_in bs n) k ≡ Some (n + first_at bs k)
  starts_are [] n k lt = absurd (omega (arith, lt))
  starts_are (b ∷ bs) n zero lt = let z : n ≡ n + 0 = omega arith in ap Some z
  starts_are (b ∷ bs) n (suc k) lt =
      let sum = sum_by-cons (size_of regs all) b (take k bs) in
      let z : n + size_of regs all b + first_at bs k ≡ n + first_at (b ∷ bs) (suc k) = omega (arith, sum) in
      starts_are bs (n + size_of regs all b) k (omega (arith, lt)) ∙ ap Some z

  none_behind : (bs : List Block) (n k : ℕ) → length bs ≤ k → slice_get (starts_in bs n) k ≡ None
  none_behind [] n k le = refl
  none_behind (b ∷ bs) n zero le = absurd (omega (arith, le))
  none_behind (b ∷ bs) n (suc k) le = none_behind bs (n + size_of regs all b) k (omega (arith, le))

  pub start_is : (bs : List Block) (k : ℕ) → number_at (starts_in bs 0) (end_in bs 0) k ≡ first_at bs k
  start_is bs k = elim (cases_lt k (length bs)) [
    | inl lt ↦ (
        let z : 0 + first_at bs k ≡ first_at bs k = omega arith in
        ap (λ o. option_map_or (λ n. n) o (end_in bs 0)) (starts_are bs 0 k lt) ∙ z
        )
    | inr le ↦ ap (λ o. option_map_or (λ n. n) o (end_in bs 0)) (none_behind bs 0 k le) ∙ (exit_is bs ∙ ap (sum_by (size_of regs all)) (sym (take_all k bs le)))
  ]

  -- blocks are laid out alike where their numbers are the same
  module _ (start other : ℕ → ℕ) (exit behind : ℕ) (same : (k : ℕ) → start k ≡ other k) (last : exit ≡ behind) where
    moved_same : (l : Last) → moved start l ≡ moved other l
    moved_same (Goto t) = ap Goto (same t)
    moved_same (If r a b) = ap (λ n. If r n (start b)) (same a) ∙ ap (If r (other a)) (same b)
    moved_same (IfError r a b line) = ap (λ n. IfError r n (start b) line) (same a) ∙ ap (λ n. IfError r (other a) n line) (same b)
    moved_same (Return r) = refl
    moved_same Unreachable = refl

    target_same : (h : Option ℕ) → target_of start exit h ≡ target_of other behind h
    target_same None = last
    target_same (Some h) = same h

    pub chains_same : (bs : List Block) (n : ℕ) → chains regs all start exit bs n ≡ chains regs all other behind bs n
    chains_same [] n = refl
    chains_same (b ∷ bs) n =
        let rest : List Block = chains regs all start exit bs (n + size_of regs all b) in
        ap (λ t. cut t (flag_register regs) b.ops (edges_of regs all b) (moved start b.last) n [] ++ rest) (target_same (handler_of b))
        ∙ (ap (λ l. cut (target_of other behind (handler_of b)) (flag_register regs) b.ops (edges_of regs all b) l n [] ++ rest) (moved_same b.last)
        ∙ ap (λ bs. chain regs all other behind b n ++ bs) (chains_same bs (n + size_of regs all b)))

-- the blocks with edges, where the first block of each chain is looked up
abbrev pub laid_blocks : Declared → RType → List Block → List Block
laid_blocks regs ret blocks =
    let exit = end_in regs blocks blocks 0 in
    chains regs blocks (number_at (starts_in regs blocks blocks 0) exit) exit blocks 0 ++ exit_blocks regs ret blocks

pub laid_same : (regs : Declared) (ret : RType) (blocks : List Block) → laid_blocks regs ret blocks ≡ edged_blocks regs ret blocks
laid_same regs ret blocks =
    ap (λ bs. bs ++ exit_blocks regs ret blocks)
    (chains_same regs blocks (number_at (starts_in regs blocks blocks 0) (end_in regs blocks blocks 0)) (start_of regs blocks) (end_in regs blocks blocks 0) (exit_of regs blocks) (start_is regs blocks blocks) (exit_is regs blocks blocks) blocks 0)

-- by a plan
pub plan_laid : (regs : Declared) (ret : RType) (blocks : List Block) (starts : List ℕ) (exit : ℕ) (flag out : Bool) → ((k : ℕ) → number_at starts exit k ≡ start_of regs blocks k) → exit ≡ exit_of regs blocks → flag ≡ needs_flag regs blocks → out ≡ needs_exit regs blocks → chains regs blocks (number_at starts exit) exit blocks 0 ++ cond out (exit_block (record { 0 = length regs + cond flag 1 0 }) ret ∷ []) [] ≡ edged_blocks regs ret blocks
plan_laid regs ret blocks starts exit flag out at last asked gone =
    ap (λ bs. bs ++ cond out (exit_block (record { 0 = length regs + cond flag 1 0 }) ret ∷ []) []) (chains_same regs blocks (number_at starts exit) (start_of regs blocks) exit (exit_of regs blocks) at last blocks 0)
    ∙ (ap (λ b. chains regs blocks (start_of regs blocks) (exit_of regs blocks) blocks 0 ++ cond b (exit_block (record { 0 = length regs + cond flag 1 0 }) ret ∷ []) []) gone
    ∙ ap (λ b. chains regs blocks (start_of regs blocks) (exit_of regs blocks) blocks 0 ++ cond (needs_exit regs blocks) (exit_block (record { 0 = length regs + cond b 1 0 }) ret ∷ []) []) asked)

-- a plan is made block by block
gone : {A : Type 0} (xs : List A) (i : ℕ) → length xs ≤ i → drop i xs ≡ []
gone [] zero le = refl
gone [] (suc i) le = refl
gone (x ∷ xs) zero le = absurd (omega (arith, le))
gone (x ∷ xs) (suc i) le = gone xs i (omega (arith, le))

no_more : {A : Type 0} (xs : List A) → xs ++ [] ≡ xs
no_more [] = refl
no_more (x ∷ xs) = ap (λ l. x ∷ l) (no_more xs)

pub starts_done : (regs : Declared) (blocks : List Block) (starts : List ℕ) (exit i : ℕ) → length blocks ≤ i → starts ++ starts_in regs blocks (drop i blocks) exit ≡ starts_in regs blocks blocks 0 → end_in regs blocks (drop i blocks) exit ≡ end_in regs blocks blocks 0 → (k : ℕ) → number_at starts exit k ≡ start_of regs blocks k
starts_done regs blocks starts exit i le all last k =
    let none : drop i blocks ≡ [] = gone blocks i le in
    let same : starts ≡ starts_in regs blocks blocks 0 = sym (no_more starts) ∙ (ap (λ bs. starts ++ starts_in regs blocks bs exit) (sym none) ∙ all) in
    let end : exit ≡ end_in regs blocks blocks 0 = ap (λ bs. end_in regs blocks bs exit) (sym none) ∙ last in
    ap (λ ns. number_at ns exit k) same ∙ (ap (λ n. number_at (starts_in regs blocks blocks 0) n k) end ∙ start_is regs blocks blocks k)
