-- The steps of the loops that lay blocks out.
use Rattle.std.proofs.Common.{◌≡◌, refl, sym, ◌∙◌, ap, ℕ, zero, suc, ◌+◌, ◌<◌, arith, List, [], ◌∷◌, ◌++◌, length, length-append, append_assoc, map, drop, get_or}
use Rattle.ir_core.specs.declared.code.Reg.{Reg}
use Rattle.ir_core.specs.declared.code.Op.{Op}
use Rattle.ir_core.specs.declared.code.Last.{Last}
use Rattle.ir_core.specs.declared.code.Block.{Block}
use Rattle.ir_core.specs.declared.kind.Edge.{Edge}
use Rattle.ir_core.specs.declared.kind.Edge.TheVariants.{NoEdge, Tests, TestsTwice, Jumps}
use Rattle.ir_core.specs.Items.{in_block, item_in, handler_of}
use Rattle.ir_core.specs.Rows.{Declared, edge_of_op}
use Rattle.error_edges.proofs.Numbers.{end_in}
use Rattle.ir_core.specs.Missing.{missing, edges_in, edges_of}
use Rattle.error_edges.specs.Layout.{extra, room, cut_at, cut, moved, target_of, flag_register, chain, chains}

-- ---- the edges of all blocks, one after the other
module _ (regs : Declared) (all : List Block) (edges : List (List Edge)) (k : ℕ) (rest bs : List Block) (b : Block) (left : drop k edges ≡ map (edges_of regs all) rest) (is : rest ≡ b ∷ bs) where
  at_next : drop k edges ≡ edges_of regs all b ∷ map (edges_of regs all) bs
  at_next = left ∙ ap (map (edges_of regs all)) is

  pub edges_within : k < length edges
  edges_within = by edges k at_next
    where
      by : (xs : List (List Edge)) (n : ℕ) → drop n xs ≡ edges_of regs all b ∷ map (edges_of regs all) bs → n < length xs
      by [] zero e = let f : [] ≡ edges_of regs all b ∷ map (edges_of regs all) bs = e in absurd (cc)
      by [] (suc n) e = let f : [] ≡ edges_of regs all b ∷ map (edges_of regs all) bs = e in absurd (cc)
      by (x ∷ xs) zero e = omega arith
      by (x ∷ xs) (suc n) e = omega (arith, by xs n e)

  pub edges_first : (es : List Edge) → es ≡ get_or edges k es → es ≡ edges_of regs all b
  edges_first es get = by edges k at_next get
    where
      by : (xs : List (List Edge)) (n : ℕ) → drop n xs ≡ edges_of regs all b ∷ map (edges_of regs all) bs → es ≡ get_or xs n es → es ≡ edges_of regs all b
      by [] zero e g = let f : [] ≡ edges_of regs all b ∷ map (edges_of regs all) bs = e in absurd (cc)
      by [] (suc n) e g = let f : [] ≡ edges_of regs all b ∷ map (edges_of regs all) bs = e in absurd (cc)
      by (x ∷ xs) zero e g =
          let f : x ∷ xs ≡ edges_of regs all b ∷ map (edges_of regs all) bs = e in
          let h : es ≡ x = g in h ∙ cc
      by (x ∷ xs) (suc n) e g = by xs n e g

  pub edges_rest : drop (k + 1) edges ≡ map (edges_of regs all) bs
  edges_rest = by edges k at_next
    where
      by : (xs : List (List Edge)) (n : ℕ) → drop n xs ≡ edges_of regs all b ∷ map (edges_of regs all) bs → drop (n + 1) xs ≡ map (edges_of regs all) bs
      by [] zero e = let f : [] ≡ edges_of regs all b ∷ map (edges_of regs all) bs = e in absurd (cc)
      by [] (suc n) e = let f : [] ≡ edges_of regs all b ∷ map (edges_of regs all) bs = e in absurd (cc)
      by (x ∷ xs) zero e =
          let f : x ∷ xs ≡ edges_of regs all b ∷ map (edges_of regs all) bs = e in cc
      by (x ∷ xs) (suc n) e = let z : suc n + 1 ≡ suc (n + 1) = omega arith in rw z (by xs n e)

-- ---- how long a chain is

count_at : (target : ℕ) (flag : Reg) (e : Edge) (more : ℕ → List (Op × ℕ) → List Block) (n : ℕ) (ops : List (Op × ℕ)) (line k : ℕ) → ((m : ℕ) (done : List (Op × ℕ)) → length (more m done) ≡ k) → length (cut_at target flag e n ops line more) ≡ extra e + k
count_at target flag NoEdge more n ops line k h = let z : 0 + k ≡ k = omega arith in h n ops ∙ sym z
count_at target flag (Tests r) more n ops line k h = let e = h (n + 1) [] in omega (arith, e)
count_at target flag (TestsTwice r) more n ops line k h = let e = h (n + 2) [] in omega (arith, e)
count_at target flag Jumps more n ops line k h = let e = h (n + 1) [] in omega (arith, e)

pub cut_count : (target : ℕ) (flag : Reg) (regs : Declared) (all : List Block) (os : List (Op × ℕ)) (last end : Last) (n : ℕ) (done : List (Op × ℕ)) → length (cut target flag os (edges_in regs all os last) end n done) ≡ room (edges_in regs all os last)
cut_count target flag regs all [] last end n done = refl
cut_count target flag regs all (x ∷ os) last end n done =
    count_at target flag (missing (item_in all) (edge_of_op regs x.0) (in_block os last 0)) (cut target flag os (edges_in regs all os last) end) n (done ++ x ∷ []) x.1 (room (edges_in regs all os last)) (λ m done. cut_count target flag regs all os last end m done)

pub chain_count : (regs : Declared) (all : List Block) (start : ℕ → ℕ) (exit : ℕ) (b : Block) (n : ℕ) → length (chain regs all start exit b n) ≡ room (edges_of regs all b)
chain_count regs all start exit b n =
    cut_count (target_of start exit (handler_of b)) (flag_register regs) regs all b.ops b.last (moved start b.last) n []

-- one block more is laid out
pub chains_more : (regs : Declared) (all : List Block) (start : ℕ → ℕ) (exit : ℕ) (b : Block) (bs rest old new whole : List Block) → rest ≡ b ∷ bs → new ≡ old ++ chain regs all start exit b (length old) → old ++ chains regs all start exit rest (length old) ≡ whole → new ++ chains regs all start exit bs (length new) ≡ whole
chains_more regs all start exit b bs rest old new whole is made so_far =
    let c : List Block = chain regs all start exit b (length old) in
    let count : length (old ++ c) ≡ length old + room (edges_of regs all b) =
    length-append old c ∙ ap (λ k. length old + k) (chain_count regs all start exit b (length old)) in
    ap (λ l. l ++ chains regs all start exit bs (length l)) made
    ∙ (append_assoc old c (chains regs all start exit bs (length (old ++ c))) ∙ ap (λ k. old ++ (c ++ chains regs all start exit bs k)) count)
    ∙ ap (λ l. old ++ chains regs all start exit l (length old)) (sym is)
    ∙ so_far

-- the chains end at the number behind the last one
pub chains_count : (regs : Declared) (all : List Block) (start : ℕ → ℕ) (exit : ℕ) (bs : List Block) (n : ℕ) → n + length (chains regs all start exit bs n) ≡ end_in regs all bs n
chains_count regs all start exit [] n = omega arith
chains_count regs all start exit (b ∷ bs) n =
    let one = chain_count regs all start exit b n in
    let rest = chains_count regs all start exit bs (n + room (edges_of regs all b)) in
    let both = length-append (chain regs all start exit b n) (chains regs all start exit bs (n + room (edges_of regs all b))) in
    omega (arith, one, rest, both)
