-- The items of a function, and those of the function without tests: the same, but for tests that became jumps.
use Rattle.std.proofs.Common.{◌≡◌, refl, sym, ◌∙◌, ap, subst, ℕ, zero, suc, ◌+◌, arith, true, List, [], ◌∷◌, length, Option, Some, None, ◌⊎◌, inl, inr}
use Rattle.std.specs.Prelude.{slice_get}
use Rattle.ir_core.specs.declared.code.Op.{Op}
use Rattle.ir_core.specs.declared.code.Last.{Last}
use Rattle.ir_core.specs.declared.code.Last.TheVariants.{Goto, If, IfError, Return, Unreachable}
use Rattle.ir_core.specs.declared.code.Reg.{Reg}
use Rattle.ir_core.specs.declared.code.Block.{Block}
use Rattle.ir_core.specs.declared.code.Func.{Func}
use Rattle.ir_core.specs.declared.kind.Edge.TheVariants.{Jumps}
use Rattle.ir_core.specs.Items.{Item, Do, End, in_block, item_of, item_in, handler_in}
use Rattle.ir_core.specs.Rows.{Declared, edge_of_op}
use Rattle.ir_core.proofs.ItemLemmas.{end_item}
use Rattle.unset_tests.specs.Unset.{ends_in_failure, UnsetAt}
use Rattle.unset_tests.specs.Without.{IsEndWithout, IsBlockWithout, AreBlocksWithout, IsWithout}

-- ---- one block

-- a place is no end, or the place of the end
by_place : (ops : List (Op × ℕ)) (i : ℕ) → ((l m : Last) → in_block ops l i ≡ in_block ops m i) ⊎ (i ≡ length ops)
by_place [] zero = inr refl
by_place [] (suc i) = inl (λ l m. refl)
by_place (o ∷ ops) zero = inl (λ l m. refl)
by_place (o ∷ ops) (suc i) = on (by_place ops i)
  where
    on : ((l m : Last) → in_block ops l i ≡ in_block ops m i) ⊎ (i ≡ length ops) → ((l m : Last) → in_block ops l i ≡ in_block ops m i) ⊎ (suc i ≡ suc (length ops))
    on (inl h) = inl h
    on (inr e) = inr (ap suc e)

-- the last operation, which always fails
last_fails : (regs : Declared) (ops : List (Op × ℕ)) (last : Last) (j : ℕ) (o : Op) {line : ℕ} → in_block ops last j ≡ Some (Do o line) → suc j ≡ length ops → edge_of_op regs o ≡ Jumps → ends_in_failure regs ops ≡ true
last_fails regs [] last zero o {line} e n jumps = absurd (cc)
last_fails regs [] last (suc j) o {line} e n jumps = absurd (cc)
last_fails regs (x ∷ []) last zero o {line} e n jumps =
    let same : x.0 ≡ o = cc in
    let edge : edge_of_op regs x.0 ≡ Jumps = ap (edge_of_op regs) same ∙ jumps in
    rw edge refl
last_fails regs (x ∷ []) last (suc zero) o {line} e n jumps = absurd (cc)
last_fails regs (x ∷ []) last (suc (suc j)) o {line} e n jumps = absurd (cc)
last_fails regs (x ∷ y ∷ ops) last zero o {line} e n jumps = absurd (omega (arith, n))
last_fails regs (x ∷ y ∷ ops) last (suc j) o {line} e n jumps =
    last_fails regs (y ∷ ops) last j o e (omega (arith, n)) jumps

module _ (regs : Declared) (blocks : List Block) where
  -- no operation that always fails stands in front of a place
  abbrev pub IsFree : ℕ → ℕ → Type 0
  IsFree k i = (j line : ℕ) (o : Op) → i ≡ suc j → item_in blocks k j ≡ Some (Do o line) → edge_of_op regs o ≡ Jumps → ⊥

  -- the item at a place, and what it becomes
  pub data ItemWithout (k i : ℕ) : Option Item → Option Item → Type 0 where
    same : (x : Option Item) → ItemWithout k i x x
    less : (r : Reg) (e n line : ℕ) → (UnsetAt regs blocks r.0 k i → ⊥) → IsFree k i → ItemWithout k i (Some (End (IfError r e n line))) (Some (End (Goto n)))

  end_without : (k : ℕ) (b : Block) (l m : Last) → slice_get blocks k ≡ Some b → IsEndWithout regs blocks k b.ops l m → ItemWithout k (length b.ops) (Some (End l)) (Some (End m))
  end_without k b (Goto t) m there h = subst (λ x. ItemWithout k (length b.ops) (Some (End (Goto t))) (Some (End x))) (sym h) (same (Some (End (Goto t))))
  end_without k b (If r x y) m there h = subst (λ z. ItemWithout k (length b.ops) (Some (End (If r x y))) (Some (End z))) (sym h) (same (Some (End (If r x y))))
  end_without k b (IfError r e n line) m there (inl h) =
      subst (λ z. ItemWithout k (length b.ops) (Some (End (IfError r e n line))) (Some (End z))) (sym h.1) (same (Some (End (IfError r e n line))))
  end_without k b (IfError r e n line) m there (inr h) =
      let free : IsFree k (length b.ops) = λ j line o at is jumps.
      h.0 (inr (last_fails regs b.ops b.last j o (sym (ap (λ x. item_of x j) there) ∙ is) (sym at) jumps)) in
      subst (λ z. ItemWithout k (length b.ops) (Some (End (IfError r e n line))) (Some (End z))) (sym h.1)
      (less r e n line (λ u. h.0 (inl u)) free)
  end_without k b (Return r) m there h = subst (λ z. ItemWithout k (length b.ops) (Some (End (Return r))) (Some (End z))) (sym h) (same (Some (End (Return r))))
  end_without k b Unreachable m there h = subst (λ z. ItemWithout k (length b.ops) (Some (End Unreachable)) (Some (End z))) (sym h) (same (Some (End Unreachable)))

  block_without : (k i : ℕ) (b c : Block) → slice_get blocks k ≡ Some b → IsBlockWithout regs blocks k b c → ItemWithout k i (in_block b.ops b.last i) (in_block c.ops c.last i)
  block_without k i b c there h = on (by_place b.ops i)
    where
      ops : in_block c.ops c.last i ≡ in_block b.ops c.last i
      ops = ap (λ z. in_block z c.last i) h.ops

      on : ((l m : Last) → in_block b.ops l i ≡ in_block b.ops m i) ⊎ (i ≡ length b.ops) → ItemWithout k i (in_block b.ops b.last i) (in_block c.ops c.last i)
      on (inl e) =
          subst (ItemWithout k i (in_block b.ops b.last i)) (e b.last c.last ∙ sym ops) (same (in_block b.ops b.last i))
      on (inr e) =
          let was : in_block b.ops b.last i ≡ Some (End b.last) = ap (in_block b.ops b.last) e ∙ end_item b.ops b.last in
          let is : in_block c.ops c.last i ≡ Some (End c.last) = ops ∙ (ap (in_block b.ops c.last) e ∙ end_item b.ops c.last) in
          let at : ItemWithout k i (Some (End b.last)) (Some (End c.last)) =
          subst (λ n. ItemWithout k n (Some (End b.last)) (Some (End c.last))) (sym e) (end_without k b b.last c.last there h.last) in
          subst (λ x. ItemWithout k i x (in_block c.ops c.last i)) (sym was) (subst (ItemWithout k i (Some (End b.last))) (sym is) at)

  -- ---- all blocks: these are the blocks from number k on
  abbrev AreFrom : ℕ → List Block → Type 0
  AreFrom k bs = (j : ℕ) → slice_get bs j ≡ slice_get blocks (k + j)

  from_next : (k : ℕ) (b : Block) (bs : List Block) → AreFrom k (b ∷ bs) → AreFrom (suc k) bs
  from_next k b bs h j = let e : k + suc j ≡ suc k + j = omega arith in h (suc j) ∙ ap (slice_get blocks) e

  from_first : (k : ℕ) (b : Block) (bs : List Block) → AreFrom k (b ∷ bs) → slice_get blocks k ≡ Some b
  from_first k b bs h = let e : k + 0 ≡ k = omega arith in sym (ap (slice_get blocks) e) ∙ sym (h 0)

  items_from : (k : ℕ) (bs cs : List Block) → AreFrom k bs → AreBlocksWithout regs blocks k bs cs → (j i : ℕ) → ItemWithout (k + j) i (item_in bs j i) (item_in cs j i)
  items_from k [] [] from h j i = same None
  items_from k [] (c ∷ cs) from h j i = absurd h
  items_from k (b ∷ bs) [] from h j i = absurd h
  items_from k (b ∷ bs) (c ∷ cs) from h zero i =
      let e : k ≡ k + 0 = omega arith in
      subst (λ n. ItemWithout n i (in_block b.ops b.last i) (in_block c.ops c.last i)) e (block_without k i b c (from_first k b bs from) h.0)
  items_from k (b ∷ bs) (c ∷ cs) from h (suc j) i =
      let e : suc k + j ≡ k + suc j = omega arith in
      subst (λ n. ItemWithout n i (item_in bs j i) (item_in cs j i)) e (items_from (suc k) bs cs (from_next k b bs from) h.1 j i)

  handlers_from : (k : ℕ) (bs cs : List Block) → AreBlocksWithout regs blocks k bs cs → (j : ℕ) → handler_in cs j ≡ handler_in bs j
  handlers_from k [] [] h j = refl
  handlers_from k [] (c ∷ cs) h j = absurd h
  handlers_from k (b ∷ bs) [] h j = absurd h
  handlers_from k (b ∷ bs) (c ∷ cs) h zero = h.0.handler
  handlers_from k (b ∷ bs) (c ∷ cs) h (suc j) = handlers_from (suc k) bs cs h.1 j

-- ---- a function
module _ (f g : Func) (h : IsWithout f g) where
  pub item_without : (k i : ℕ) → ItemWithout f.regs f.blocks k i (item_in f.blocks k i) (item_in g.blocks k i)
  item_without k i =
      let at : (k ≡ 0 + k) = omega arith in
      subst (λ n. ItemWithout f.regs f.blocks n i (item_in f.blocks k i) (item_in g.blocks k i)) (sym at)
      (items_from f.regs f.blocks 0 f.blocks g.blocks (λ j. let e : j ≡ 0 + j = omega arith in ap (slice_get f.blocks) e) h.blocks k i)

  pub handler_same : (k : ℕ) → handler_in g.blocks k ≡ handler_in f.blocks k
  handler_same k = handlers_from f.regs f.blocks 0 f.blocks g.blocks h.blocks k
