-- Blocks that are not marked are emptied, where the marks tell which blocks paths reach.
use Rattle.std.proofs.Common.{◌≡◌, refl, sym, ◌∙◌, ap, subst, ℕ, suc, ◌+◌, arith, Bool, true, false, cond, List, [], ◌∷◌, Some, inl, inr, get_or}
use Rattle.std.specs.Prelude.{slice_get}
use Rattle.ir_core.specs.declared.code.Block.{Block}
use Rattle.ir_core.specs.declared.code.Func.{Func}
use Rattle.ir_core.specs.Rows.{Declared}
use Rattle.unset_tests.specs.declared.marks.Followed.TheVariants.{Paths}
use Rattle.unset_tests.specs.Emptied.{empty_block, IsBlockEmptied, AreBlocksEmptied}
use Rattle.unset_tests.specs.Ways.{AreSpread, AreReached, blocks_emptied}
use Rattle.unset_tests.proofs.Walking.{there_within}
use Rattle.unset_tests.proofs.Reaching.{reaches_met, met_reaches}

-- what one comes to from the function's beginning is what paths reach
pub spread_reached : (f : Func) (regs : Declared) (blocks : List Block) (work : List ℕ) (marks : List Bool) → regs ≡ f.regs → blocks ≡ f.blocks → work ≡ 0 ∷ [] → AreSpread regs blocks Paths work marks → AreReached f marks
spread_reached f regs blocks work marks same_regs same_blocks same_work spreads t lt =
    let are : AreSpread f.regs f.blocks Paths (0 ∷ []) marks =
    subst (λ z. AreSpread z f.blocks Paths (0 ∷ []) marks) same_regs (subst (λ z. AreSpread regs z Paths (0 ∷ []) marks) same_blocks (subst (λ z. AreSpread regs blocks Paths z marks) same_work spreads)) in
    (λ e. reaches_met f t ((are t lt).0 e), λ m. (are t lt).1 (met_reaches f t 0 m))

module _ (f : Func) (marks : List Bool) (are : AreReached f marks) where
  block_is : (k : ℕ) (b : Block) → slice_get f.blocks k ≡ Some b → (c : Bool) → get_or marks k false ≡ c → IsBlockEmptied f k b (cond c b empty_block)
  block_is k b at true e = inl ((are k (there_within f.blocks k b at)).0 e, refl)
  block_is k b at false e =
      inr (λ m. let g : true ≡ false = sym ((are k (there_within f.blocks k b at)).1 m) ∙ e in absurd (cc), refl)

  blocks_from : (k : ℕ) (bs : List Block) → ((j : ℕ) → slice_get bs j ≡ slice_get f.blocks (k + j)) → AreBlocksEmptied f k bs (blocks_emptied marks k bs)
  blocks_from k [] from = tt
  blocks_from k (b ∷ bs) from =
      let here : slice_get f.blocks k ≡ Some b = let n : k + 0 ≡ k = omega arith in sym (ap (slice_get f.blocks) n) ∙ sym (from 0) in (
        block_is k b here (get_or marks k false) refl,
        blocks_from (suc k) bs (λ j. let n : k + suc j ≡ suc k + j = omega arith in from (suc j) ∙ ap (slice_get f.blocks) n),
      )

  pub blocks_are : AreBlocksEmptied f 0 f.blocks (blocks_emptied marks 0 f.blocks)
  blocks_are = blocks_from 0 f.blocks (λ j. let n : j ≡ 0 + j = omega arith in ap (slice_get f.blocks) n)

pub emptied_by : (f : Func) (marks shown : List Bool) (new : List Block) → AreReached f marks → shown ≡ marks → new ≡ blocks_emptied shown 0 f.blocks → AreBlocksEmptied f 0 f.blocks new
emptied_by f marks shown new are same is =
    subst (AreBlocksEmptied f 0 f.blocks) (sym (is ∙ ap (λ z. blocks_emptied z 0 f.blocks) same)) (blocks_are f marks are)
