-- Behind no operation that may fail stands a test of its result.
use Rattle.ir_builder.proofs.Common.{◌≡◌, ℕ, zero, suc, false, List, [], ◌∷◌, Some, refl, add-one, slice_get, Block, Last, IfError, Op, Program, Reg, End, in_block, item_in, blocks_of, is_tested, NoEdges, EndFits, AllFit}

-- an end that is no test
untested : (r : Reg) (os : List (Op × ℕ)) (l : Last) (i : ℕ) → is_tested r (Some (End l)) ≡ false → is_tested r (in_block os l i) ≡ false
untested r [] l zero e = e
untested r [] l (suc i) e = refl
untested r (o ∷ os) l zero e = refl
untested r (o ∷ os) l (suc i) e = untested r os l i e

-- a test for errors has nothing before it
end_behind : (m k : ℕ) (r : Reg) (os : List (Op × ℕ)) (l : Last) (i : ℕ) → EndFits m k os l → is_tested r (in_block os l (suc i)) ≡ false
end_behind m k r [] l i f = refl
end_behind m k r (o ∷ os) (IfError s a b line) i f = let e : o ∷ os ≡ [] = f.0 in absurd (cc)
end_behind m k r (o ∷ os) l i f = untested r os l i refl

behind : (m k : ℕ) (r : Reg) (bs : List Block) (j i : ℕ) → AllFit m k bs → is_tested r (item_in bs j (suc i)) ≡ false
behind m k r [] j i f = refl
behind m k r (b ∷ bs) zero i f = end_behind m k r b.ops b.last i f.0
behind m k r (b ∷ bs) (suc j) i f = behind m (suc k) r bs j i f.3

pub no_edges : (p : Program) (fn m : ℕ) → AllFit m 0 (blocks_of (slice_get p.funcs fn)) → NoEdges p fn
no_edges p fn m f = record { each = λ k i r o line is may. rw add-one (behind m 0 (record { 0 = r }) (blocks_of (slice_get p.funcs fn)) k i f) }
