-- The steps of the loops that plan blocks and lay them out.
use Rattle.std.proofs.Common.{◌≡◌, ℕ, zero, suc, ◌+◌, ◌<◌, ◌≤◌, List, [], ◌∷◌, ◌++◌, take, drop, length, map, get_or, Option, Some, None, refl, sym, ap, ◌∙◌, subst, arith, append_assoc}
use Rattle.std.specs.Prelude.{slice_get}
use Rattle.std.proofs.lemmas.Option.{slice_get_within}
use Rattle.std.proofs.lemmas.List.{length-take-le, append-nil, map-append}
use Rattle.ir_core.specs.declared.code.Op.{Op}
use Rattle.ir_core.specs.declared.code.Block.{Block}
use Rattle.ir_core.specs.declared.code.Func.{Func}
use Rattle.ir_core.specs.declared.code.Last.{Last}
use Rattle.ir_core.specs.declared.code.Last.TheVariants.{Goto, If, IfError, Return, Unreachable}
use Rattle.ir_core.specs.Rows.{Declared}
use Rattle.ir_core.specs.Bare.{bare}
use Rattle.ir_core.specs.Shape.{LastFits, BlocksFit, FuncFits, FuncsFit}
use Rattle.liveness.proofs.InverseLemmas.{take_next}
use Rattle.refcount_insert_rule.specs.Counted.{IsCountedFunc, AreCounted}
use Rattle.refcount_insert_counts.specs.declared.counts.Counts.{Counts}
use Rattle.refcount_insert_counts.specs.declared.known.KnownRegisters.{KnownRegisters}
use Rattle.refcount_insert.specs.declared.sharing.EdgeCounts.{EdgeCounts}
use Rattle.refcount_insert.specs.declared.detours.Front.{Front}
use Rattle.refcount_insert.specs.declared.plan.Planned.{Planned}
use Rattle.refcount_insert.specs.Sharing.{Keeps, IsShared, AreShared}
use Rattle.refcount_insert.specs.Plan.{IsCountedOp, AreCountedOps, IsPlanned, ArePlanned}
use Rattle.refcount_insert.specs.Layout.{detours_to, main_of, all_laid}

-- ---- blocks that are laid out

pub laid_more : (number : ℕ → ℕ) (fronts : List Front) (b : ℕ) (f : Front) (p : Planned) (ps rest : List Planned) (old mid new all : List Block) → rest ≡ p ∷ ps → slice_get fronts b ≡ Some f → mid ≡ old ++ detours_to (number b) f.detours → new ≡ mid ++ main_of number fronts p ∷ [] → old ++ all_laid number fronts b (drop b fronts) rest ≡ all → new ++ all_laid number fronts (b + 1) (drop (b + 1) fronts) ps ≡ all
laid_more number fronts b f p ps rest old mid new all is there detours main so_far =
    let next : b + 1 ≡ suc b = omega arith in
    let own : List Block = detours_to (number b) f.detours in
    let later : List Block = all_laid number fronts (suc b) (drop (suc b) fronts) ps in
    let whole : all_laid number fronts b (drop b fronts) rest ≡ own ++ (main_of number fronts p ∷ later) = ap (λ z. all_laid number fronts b (drop b fronts) z) is ∙ ap (λ z. all_laid number fronts b z (p ∷ ps)) (drop_get fronts b f there) in
    ap (λ i. new ++ all_laid number fronts i (drop i fronts) ps) next
    ∙ (ap (λ z. z ++ later) (main ∙ ap (λ z. z ++ main_of number fronts p ∷ []) detours)
    ∙ (append_assoc (old ++ own) (main_of number fronts p ∷ []) later
    ∙ (append_assoc old own (main_of number fronts p ∷ later) ∙ (ap (λ z. old ++ z) (sym whole) ∙ so_far))))
  where
    drop_get : (xs : List Front) (i : ℕ) (x : Front) → slice_get xs i ≡ Some x → drop i xs ≡ x ∷ drop (suc i) xs
    drop_get [] i x e = absurd (cc)
    drop_get (y ∷ xs) zero x e = let same : y ≡ x = cc in ap (λ z. z ∷ xs) same
    drop_get (y ∷ xs) (suc i) x e = drop_get xs i x e

laid_none : (number : ℕ → ℕ) (fronts : List Front) (b : ℕ) (fs : List Front) → all_laid number fronts b fs [] ≡ []
laid_none number fronts b [] = refl
laid_none number fronts b (f ∷ fs) = refl

pub laid_done : (number : ℕ → ℕ) (fronts : List Front) (b : ℕ) (rest : List Planned) (blocks all : List Block) → length rest ≡ 0 → blocks ++ all_laid number fronts b (drop b fronts) rest ≡ all → blocks ≡ all
laid_done number fronts b [] blocks all none so_far =
    sym (append-nil blocks) ∙ (ap (λ z. blocks ++ z) (sym (laid_none number fronts b (drop b fronts))) ∙ so_far)
laid_done number fronts b (p ∷ rest) blocks all none so_far = absurd (omega (arith, none))

pub front_read : (xs : List Front) (i : ℕ) (f : Front) → i < length xs → slice_get xs i ≡ Some (get_or xs i f)
front_read [] i f lt = absurd (omega (arith, lt))
front_read (x ∷ xs) zero f lt = refl
front_read (x ∷ xs) (suc i) f lt = front_read xs i f (omega (arith, lt))

pub none_beyond : (xs : List Front) (i : ℕ) → length xs ≤ i → slice_get xs i ≡ None
none_beyond [] i le = refl
none_beyond (x ∷ xs) zero le = absurd (omega (arith, le))
none_beyond (x ∷ xs) (suc i) le = none_beyond xs i (omega (arith, le))

-- as many as there are fronts
pub planned_size : (known : KnownRegisters) (regs : Declared) (kept : List (List EdgeCounts)) (b : ℕ) (ks : List Block) (ps : List Planned) → ArePlanned known regs kept b ks ps → length ps ≡ length ks
planned_size known regs kept b [] [] h = refl
planned_size known regs kept b [] (p ∷ ps) h = absurd h
planned_size known regs kept b (k ∷ ks) [] h = absurd h
planned_size known regs kept b (k ∷ ks) (p ∷ ps) h = ap suc (planned_size known regs kept (suc b) ks ps h.1)

-- ---- one more

module _ (known : KnownRegisters) (regs : Declared) where
  counted_more : (at : ℕ → ℕ → ℕ) (os ops g : List (Op × ℕ)) (o : Op × ℕ) → AreCountedOps known regs at os ops → IsCountedOp known regs (at (length os)) (at (suc (length os))) o g → AreCountedOps known regs at (os ++ o ∷ []) (ops ++ g)
  counted_more at [] ops g o is one = (g, [], ap (λ z. z ++ g) is ∙ sym (append-nil g), one, refl)
  counted_more at (x ∷ os) ops g o is one =
      (is.0, is.1 ++ g, ap (λ z. z ++ g) is.2 ∙ append_assoc is.0 is.1 g, is.3, counted_more (λ p. at (suc p)) os is.1 g o is.4 one)

  pub counted_step : (at : ℕ → ℕ → ℕ) (old : List (Op × ℕ)) (p : ℕ) (o : Op × ℕ) (done new g : List (Op × ℕ)) → slice_get old p ≡ Some o → AreCountedOps known regs at (take p old) done → new ≡ done ++ g → IsCountedOp known regs (at p) (at (p + 1)) o g → AreCountedOps known regs at (take (p + 1) old) new
  counted_step at old p o done new g there so_far is one =
      let e : suc p ≡ p + 1 = omega arith in
      let within = slice_get_within old p o there in
      let size : length (take p old) ≡ p = length-take-le p old (omega (arith, within)) in
      let here : IsCountedOp known regs (at (length (take p old))) (at (suc (length (take p old)))) o g =
      subst (λ z. IsCountedOp known regs (at z) (at (suc z)) o g) (sym size) (subst (λ z. IsCountedOp known regs (at p) (at z) o g) (sym e) one) in
      subst (AreCountedOps known regs at (take (p + 1) old)) (sym is) (subst (λ z. AreCountedOps known regs at z (done ++ g)) (sym (take_next old p o there) ∙ ap (λ z. take z old) e) (counted_more at (take p old) done g o so_far here))

  shared_keeps : (old new : List (List EdgeCounts)) → Keeps old new → (t : ℕ) (c : Counts) (o : Option ℕ) → IsShared old t c o → IsShared new t c o
  shared_keeps old new keeps t c None h = h
  shared_keeps old new keeps t c (Some i) h = (h.0, keeps.1 t i h.0 h.1, h.2)

  both_keep : (old new : List (List EdgeCounts)) → Keeps old new → (last : Last) (c : Counts × Counts) (o : Option ℕ × Option ℕ) → AreShared old last c o → AreShared new last c o
  both_keep old new keeps (Goto t) c o h = h
  both_keep old new keeps (If x t u) c o h = (shared_keeps old new keeps t c.0 o.0 h.0, shared_keeps old new keeps u c.1 o.1 h.1)
  both_keep old new keeps (IfError x t u line) c o h =
      (shared_keeps old new keeps t c.0 o.0 h.0, shared_keeps old new keeps u c.1 o.1 h.1)
  both_keep old new keeps (Return x) c o h = h
  both_keep old new keeps Unreachable c o h = h

  planned_more : (old new : List (List EdgeCounts)) → Keeps old new → (b n : ℕ) (ks : List Block) (ps : List Planned) (k : Block) (p : Planned) → n ≡ b + length ks → ArePlanned known regs old b ks ps → IsPlanned known regs new n k p → ArePlanned known regs new b (ks ++ k ∷ []) (ps ++ p ∷ [])
  planned_more old new keeps b n [] [] k p e all one = (subst (λ z. IsPlanned known regs new z k p) (omega (arith, e)) one, tt)
  planned_more old new keeps b n [] (q ∷ ps) k p e all one = absurd all
  planned_more old new keeps b n (x ∷ ks) [] k p e all one = absurd all
  planned_more old new keeps b n (x ∷ ks) (q ∷ ps) k p e all one =
      let h = all.0 in (
        record { body = h.body; last = h.last; counts = h.counts; edges = h.edges; shared = both_keep old new keeps x.last h.counts (q.first, q.second) h.shared },
        planned_more old new keeps (suc b) n ks ps k p (omega (arith, e)) all.1 one,
      )

  pub planned_step : (old_kept new_kept : List (List EdgeCounts)) → Keeps old_kept new_kept → (blocks : List Block) (b : ℕ) (k : Block) (p : Planned) (done new : List Planned) → slice_get blocks b ≡ Some k → ArePlanned known regs old_kept 0 (take b blocks) done → IsPlanned known regs new_kept b k p → new ≡ done ++ p ∷ [] → ArePlanned known regs new_kept 0 (take (b + 1) blocks) new
  planned_step old_kept new_kept keeps blocks b k p done new there so_far one is =
      let e : suc b ≡ b + 1 = omega arith in
      let within = slice_get_within blocks b k there in
      let size : length (take b blocks) ≡ b = length-take-le b blocks (omega (arith, within)) in
      subst (ArePlanned known regs new_kept 0 (take (b + 1) blocks)) (sym is) (subst (λ z. ArePlanned known regs new_kept 0 z (done ++ p ∷ [])) (sym (take_next blocks b k there) ∙ ap (λ z. take z blocks) e) (planned_more old_kept new_kept keeps 0 b (take b blocks) done k p (omega (arith, size)) so_far one))

-- ---- the end of a block

last_fits : (n k : ℕ) (bs : List Block) → BlocksFit n k bs → (i : ℕ) (b : Block) → slice_get bs i ≡ Some b → LastFits n (k + i) b.ops b.last
last_fits n k [] h i b e = let f : None ≡ Some b = e in absurd (cc)
last_fits n k (x ∷ bs) h zero b e =
    let f : Some x ≡ Some b = e in
    let same : x ≡ b = cc in
    let z : k ≡ k + 0 = omega arith in
    subst (λ i. LastFits n i b.ops b.last) z (subst (λ (y : Block). LastFits n k y.ops y.last) same h.0.last)
last_fits n k (x ∷ bs) h (suc i) b e =
    let z : suc k + i ≡ k + suc i = omega arith in
    subst (λ j. LastFits n j b.ops b.last) z (last_fits n (suc k) bs h.1 i b e)

pub last_fits_at : (n m : ℕ) (bs : List Block) → BlocksFit n 0 bs → m ≡ n → (i : ℕ) (b : Block) → slice_get bs i ≡ Some b → LastFits m i b.ops b.last
last_fits_at n m bs h same i b e =
    let z : 0 + i ≡ i = omega arith in
    subst (λ j. LastFits j i b.ops b.last) (sym same) (subst (λ j. LastFits n j b.ops b.last) z (last_fits n 0 bs h i b e))

-- ---- functions

pub fits_at : (fs : List Func) (i : ℕ) (f : Func) → FuncsFit fs → slice_get fs i ≡ Some f → FuncFits f
fits_at [] i f all e = absurd (cc)
fits_at (x ∷ fs) zero f all e = let same : x ≡ f = cc in subst FuncFits same all.0
fits_at (x ∷ fs) (suc i) f all e = fits_at fs i f all.1 e

funcs_more : (fs gs : List Func) (f g : Func) → AreCounted fs gs → IsCountedFunc f g → AreCounted (fs ++ f ∷ []) (gs ++ g ∷ [])
funcs_more [] [] f g all e = (e, tt)
funcs_more [] (y ∷ gs) f g all e = absurd all
funcs_more (x ∷ fs) [] f g all e = absurd all
funcs_more (x ∷ fs) (y ∷ gs) f g all e = (all.0, funcs_more fs gs f g all.1 e)

pub funcs_step : (fs : List Func) (i : ℕ) (f g : Func) (done new : List Func) → slice_get fs i ≡ Some f → AreCounted (map bare (take i fs)) done → IsCountedFunc (bare f) g → new ≡ done ++ g ∷ [] → AreCounted (map bare (take (i + 1) fs)) new
funcs_step fs i f g done new there so_far one is =
    let e : suc i ≡ i + 1 = omega arith in
    subst (AreCounted (map bare (take (i + 1) fs))) (sym is)
    (subst (λ z. AreCounted z (done ++ g ∷ [])) (sym (map-append bare (take i fs) (f ∷ [])) ∙ ap (map bare) (sym (take_next fs i f there) ∙ ap (λ z. take z fs) e)) (funcs_more (map bare (take i fs)) done (bare f) g so_far one))
