-- The blocks with counts end as their shape wants it: what goes to a higher block still does, also by way of detours, and a jump back
-- stays behind its turn.
use Rattle.std.proofs.Common.{◌≡◌, ◌⊎◌, inl, inr, ⊎_elim, refl, sym, ◌∙◌, ap, subst, ℕ, zero, suc, ◌+◌, ◌-◌, ◌<◌, ◌≤◌, arith, Bool, true, false, cond, List, [], ◌∷◌, ◌++◌, length, length-append, append_assoc}
use Rattle.std.specs.Prelude.{nat_lt}
use Rattle.std.proofs.lemmas.Bool.{ltb-true}
use Rattle.ir_core.specs.declared.code.Op.{Op}
use Rattle.ir_core.specs.declared.code.Op.TheVariants.{Inc, Dec, XDec}
use Rattle.ir_core.specs.declared.code.Last.{Last}
use Rattle.ir_core.specs.declared.code.Last.TheVariants.{Goto, If, IfError, Return, Unreachable}
use Rattle.ir_core.specs.declared.code.Block.{Block}
use Rattle.ir_core.specs.declared.code.Func.{Func}
use Rattle.ir_core.specs.Shape.{is_turn, ends_in_turn, IsHigher, LastFits}
use Rattle.c_core_ownership_laws.specs.Shares.{put}
use Rattle.refcount_insert_rule.specs.Counted.{counts_register, Tables, owned, wanted, AreGroups, AreAll, AreTurned, IsBody, AreDetours, IsEdgeTo, IsLast, AreBlocks}
use Rattle.refcount_insert_shapes_laws.proofs.Jumps.{LastsFit}
use Rattle.refcount_insert_shapes_laws.proofs.Bodies.{put_some, AllOps, Owns, owned_owns, edge_is, body_is}

turn_ends : (xs : List (Op × ℕ)) (o : Op × ℕ) → ends_in_turn (xs ++ (o ∷ [])) ≡ is_turn o.0
turn_ends [] o = refl
turn_ends (x ∷ []) o = refl
turn_ends (x ∷ y ∷ xs) o = turn_ends (y ∷ xs) o

-- ---- where the old blocks stand among the new ones, and the detours to them
module _ (f : Func) (t : Tables f) (number first : ℕ → ℕ) (at_start : ℕ → ℕ → ℕ) where
  pub numbers : (k m : ℕ) (bs blocks : List Block) → AreBlocks f t number first at_start k m bs blocks → (j : ℕ) → j < length bs → (m + j ≤ first (k + j)) × (first (k + j) ≤ number (k + j)) × (number (k + j) < m + length blocks)
  numbers k m [] blocks are j lt = absurd (omega (arith, lt))
  numbers k m (b ∷ bs) blocks are zero lt =
      let z : k + 0 ≡ k = omega arith in
      let low : first (k + 0) ≡ m = ap first z ∙ are.4 in
      let at : number (k + 0) ≡ m + length are.0 = ap number z ∙ are.5 in
      let size = length-append are.0 (are.1 ∷ are.2) in
      (omega (arith, low), omega (arith, low, at), omega (arith, at, ap length are.3, size))
  numbers k m (b ∷ bs) blocks are (suc j) lt =
      let z : k + suc j ≡ suc k + j = omega arith in
      let low : first (k + suc j) ≡ first (suc k + j) = ap first z in
      let at : number (k + suc j) ≡ number (suc k + j) = ap number z in
      let size = length-append are.0 (are.1 ∷ are.2) in
      let h = numbers (suc k) (m + length are.0 + 1) bs are.2 are.10 j (omega (arith, lt)) in
      (omega (arith, low, h.0), omega (arith, low, at, h.1), omega (arith, at, h.2, ap length are.3, size))

-- ---- the blocks: registers that may be tested, those that may be returned, and operations
module _ (D R : ℕ → Type 0) (O : Op → Type 0) where
  abbrev pub EndIs : Last → Type 0
  EndIs (Goto t) = Unit {0}
  EndIs (If r a b) = D r.0
  EndIs (IfError r a b line) = D r.0
  EndIs (Return r) = R r.0
  EndIs Unreachable = Unit {0}

  -- block k of so many
  pub record BlockIs (size k : ℕ) (b : Block) : Type 0 where
    pub last : LastFits size k b.ops b.last
    pub ops : AllOps O b.ops
    pub end : EndIs b.last

  -- blocks from number k on
  abbrev pub BlocksAre : ℕ → ℕ → List Block → Type 0
  BlocksAre size k [] = Unit {0}
  BlocksAre size k (b ∷ bs) = BlockIs size k b × BlocksAre size (suc k) bs

  pub lasts_fit : (size k : ℕ) (bs : List Block) → BlocksAre size k bs → LastsFit size k bs
  lasts_fit size k [] h = tt
  lasts_fit size k (b ∷ bs) h = (h.0.last, lasts_fit size (suc k) bs h.1)

  blocks_append : (size n : ℕ) (xs ys : List Block) → BlocksAre size n xs → BlocksAre size (n + length xs) ys → BlocksAre size n (xs ++ ys)
  blocks_append size n [] ys a b = let z : n + 0 ≡ n = omega arith in subst (λ k. BlocksAre size k ys) z b
  blocks_append size n (x ∷ xs) ys a b =
      let z : n + suc (length xs) ≡ suc n + length xs = omega arith in
      (a.0, blocks_append size (suc n) xs ys a.1 (subst (λ k. BlocksAre size k ys) z b))

  module _ (f : Func) (t : Tables f) (number first : ℕ → ℕ) (at_start : ℕ → ℕ → ℕ) (counts : (r : ℕ) → counts_register f.regs r ≡ true → O (Inc record { 0 = r }) × O (Dec record { 0 = r }) × O (XDec record { 0 = r })) where
    -- a jump behind these operations goes up, or stands behind a turn
    turn_kept : (k b : ℕ) (at : ℕ → ℕ → ℕ) (old ops : List (Op × ℕ)) → IsBody f t number k at old (Goto b) ops → (k < b) ⊎ (ends_in_turn old ≡ true) → (k < b) ⊎ (ends_in_turn ops ≡ true)
    turn_kept k b at old ops body fits = by (nat_lt k b) refl body
      where
        by : (up : Bool) → nat_lt k b ≡ up → cond up (AreAll f t number at old (Goto b) ops) (AreTurned f t number at old b ops) → (k < b) ⊎ (ends_in_turn ops ≡ true)
        by true e a = inl (ltb-true k b e)
        by false e a =
            let all : a.2 ++ (a.3 ++ (a.1 ∷ [])) ≡ (a.2 ++ a.3) ++ (a.1 ∷ []) = sym (append_assoc a.2 a.3 (a.1 ∷ [])) in
            let new : ends_in_turn ops ≡ is_turn a.1.0 = ap ends_in_turn (a.5 ∙ all) ∙ turn_ends (a.2 ++ a.3) a.1 in
            let was : ends_in_turn old ≡ is_turn a.1.0 = ap ends_in_turn a.4 ∙ turn_ends a.0 a.1 in
            ⊎_elim (λ l. inl l) (λ turn. inr (new ∙ (sym was ∙ turn))) fits

    none_are : (at : ℕ → ℕ → ℕ) (old ops : List (Op × ℕ)) → old ≡ [] → AreGroups f t number at old ops → ops ≡ []
    none_are at [] ops e g = g
    none_are at (o ∷ os) ops e g = absurd (cc)

    -- detours to a block that is there, from new number n on
    detours_are : (size b n : ℕ) (xs : List Block) → AreDetours f t number first at_start b n xs → number b < size → BlocksAre size n xs
    detours_are size b n [] h inside = tt
    detours_are size b n (x ∷ xs) h inside =
        let d = h.0 in
        let lasts : LastFits size n x.ops (Goto d.next) =
        (omega (arith, d.ahead), omega (arith, d.within, inside), inl d.ahead) in
        let behind : Owns O f t number (at_start d.next) =
        λ r le. ⊎_elim (λ e. d.owns r (omega (arith, e, le))) (λ e. owned_owns O f t number b 0 r (omega (arith, e, le))) (d.each r) in (
          record {
            last = subst (LastFits size n x.ops) (sym d.goes) lasts;
            ops = edge_is O f t number counts (at_start n) (at_start d.next) x.ops d.owns behind d.counts;
            end = subst EndIs (sym d.goes) tt;
          },
          detours_are size b (suc n) xs h.1 inside,
        )

    -- of so many old blocks and new ones
    module _ (n size : ℕ) (known : (b : ℕ) → b < n → (b ≤ first b) × (first b ≤ number b) × (number b < size)) where
      -- what follows from the old end of block k for the new one of block m, which has these operations
      module _ (k m : ℕ) (old ops : List (Op × ℕ)) (up : k ≤ m) (ahead : (b : ℕ) → k < b → b < n → m < first b) where
        abbrev have : ℕ → ℕ
        have = owned f t k (length old)

        abbrev Ends : Last → Type 0
        Ends last = LastFits size m ops last × EndIs last

        -- an edge to a block
        edge : (here : ℕ → ℕ) (b to : ℕ) → IsEdgeTo f t number first at_start here b to → IsHigher n k b → IsHigher size m to
        edge here b to e higher =
            let low = ahead b higher.0 higher.1 in
            let high = known b higher.1 in
            (omega (arith, low, e.0), omega (arith, e.1, high.2))

        new_end : (last new : Last) → LastFits n k old last → EndIs last → IsBody f t number k (owned f t k) old last ops → IsLast f t number first at_start have last new → Ends new
        new_end (Goto b) new fits end body is =
            let high = known b fits.1 in
            subst Ends (sym is) (
              (
                omega (arith, fits.0, high.0, high.1),
                high.2,
                ⊎_elim (λ l. inl (omega (arith, ahead b l fits.1, high.1))) (λ turn. inr turn) (turn_kept k b (owned f t k) old ops body fits.2),
              ),
              tt,
            )
        new_end (If x a b) new fits end body is =
            subst Ends (sym is.2) ((edge have a is.0 is.3 fits.0, edge have b is.1 is.4 fits.1), end)
        new_end (IfError x a b line) new fits end body is =
            subst Ends (sym is.2) ((edge (put x.0 (wanted f t number a x.0) have) a is.0 is.3 fits.0, edge have b is.1 is.4 fits.1), end)
        new_end (Return x) new fits end body is = subst Ends (sym is) (tt, end)
        new_end Unreachable new fits end body is =
            let groups : body.0 ≡ [] = none_are (owned f t k) old body.0 fits.1 body.3 in
            let none : ops ≡ [] = body.2 ∙ (ap (λ l. l ++ body.1) groups ∙ body.4) in
            subst Ends (sym is) ((omega (arith, fits.0, up), none), tt)

      -- ---- all blocks
      new_blocks : (k m : ℕ) (bs blocks : List Block) → AreBlocks f t number first at_start k m bs blocks → k + length bs ≡ n → m + length blocks ≡ size → k ≤ m → BlocksAre n k bs → BlocksAre size m blocks
      new_blocks k m [] blocks are count all up h = subst (BlocksAre size m) (sym are) tt
      new_blocks k m (b ∷ bs) blocks are count all up h =
          let detours : List Block = are.0 in
          let main : Block = are.1 in
          let rest : List Block = are.2 in
          let at : ℕ = m + length detours in
          let total : length blocks ≡ length detours + suc (length rest) = ap length are.3 ∙ length-append detours (main ∷ rest) in
          let ahead : (x : ℕ) → k < x → x < n → at < first x = λ x lt in_old.
          (let z : suc k + (x - suc k) ≡ x = omega (arith, lt) in
          let step = numbers f t number first at_start (suc k) (at + 1) bs rest are.10 (x - suc k) (omega (arith, lt, in_old, count)) in
          omega (arith, step.0, ap first z)) in
          let end = new_end k at b.ops main.ops (omega (arith, up)) ahead b.last main.last h.0.last h.0.end are.8 are.9 in
          let here : BlockIs size at main = record {
            last = end.0;
            ops = body_is O f t number counts k (owned f t k) b.ops b.last main.ops (λ p. owned_owns O f t number k p) h.0.ops are.8;
            end = end.1;
          } in
          let others : BlocksAre size (at + 1) rest = new_blocks (suc k) (at + 1) bs rest are.10 (omega (arith, count)) (omega (arith, all, total)) (omega (arith, up)) h.1 in
          let z : at + 1 ≡ suc at = omega arith in
          subst (BlocksAre size m) (sym are.3)
          (blocks_append size m detours (main ∷ rest) (detours_are size k m detours are.7 (omega (arith, are.5, all, total))) (here, subst (λ i. BlocksAre size i rest) z others))

    pub blocks_are : (blocks : List Block) → AreBlocks f t number first at_start 0 0 f.blocks blocks → BlocksAre (length f.blocks) 0 f.blocks → BlocksAre (length blocks) 0 blocks
    blocks_are blocks are h =
        let known : (b : ℕ) → b < length f.blocks → (b ≤ first b) × (first b ≤ number b) × (number b < length blocks) = λ b lt.
        (let z : 0 + b ≡ b = omega arith in
        let at = numbers f t number first at_start 0 0 f.blocks blocks are b lt in
        (omega (arith, at.0, ap first z), omega (arith, at.1, ap first z, ap number z), omega (arith, at.2, ap number z))) in
        let count : 0 + length f.blocks ≡ length f.blocks = omega arith in
        let all : 0 + length blocks ≡ length blocks = omega arith in
        let up : 0 ≤ 0 = omega arith in
        new_blocks (length f.blocks) (length blocks) known 0 0 f.blocks blocks are count all up h

-- a function with blocks still has some
pub some_blocks : (f : Func) (t : Tables f) (number first : ℕ → ℕ) (at_start : ℕ → ℕ → ℕ) (blocks : List Block) → AreBlocks f t number first at_start 0 0 f.blocks blocks → 0 < length f.blocks → 0 < length blocks
some_blocks f t number first at_start blocks are lt =
    let at = numbers f t number first at_start 0 0 f.blocks blocks are 0 lt in omega (arith, at.2)
