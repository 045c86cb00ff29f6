-- Paths from place to place, and what is left of a block.
use Rattle.std.proofs.Common.{◌≡◌, ℕ, zero, suc, ◌<◌, ◌≤◌, Bool, true, false, List, [], ◌∷◌, length, Option, Some, None, refl, sym, ap, ◌∙◌, subst, arith, drop, map}
use Rattle.std.specs.Prelude.{slice_get, ◌↔◌}
use Rattle.std.proofs.lemmas.Option.{same_Some}
use Rattle.ir_core.specs.declared.code.Op.{Op}
use Rattle.ir_core.specs.declared.code.Last.{Last}
use Rattle.ir_core.specs.declared.code.Block.{Block}
use Rattle.ir_core.specs.declared.code.Func.{Func}
use Rattle.ir_core.specs.Bare.{IsBare, bare_blocks}
use Rattle.ir_core.specs.Items.{Item, Do, End, in_block, item_of, item_in}
use Rattle.liveness.specs.declared.step.Step.{Step}
use Rattle.liveness.specs.declared.step.Steps.{Steps}
use Rattle.liveness.specs.Paths.{is_among, is_target, reads_of, write_of, reads_of_last, reads, writes, targets, Goes, passes, fails, jumps, LiveAt}
use Rattle.liveness.specs.Paths as path
use Rattle.liveness.specs.Steps.{step_of, steps_of}
use Rattle.liveness.specs.Rows.{live_given, Live, IsLiveRow}
use Rattle.liveness.specs.Rows as rows
use Rattle.liveness.specs.declared.places.Touches.{Touches}
use Rattle.liveness.specs.Rising.{has}
use Rattle.liveness.specs.Places.{AreTouches}
use Rattle.liveness.specs.Tables.{live_by}
use Rattle.std.proofs.lemmas.List.{length-map}
use Rattle.liveness.proofs.FoundLemmas.{table_given}
use Rattle.liveness.proofs.RowLemmas.{given_exact}

-- ---- lists

pub get_map : {A B : Type 0} (g : A → B) (xs : List A) (i : ℕ) (x : A) → slice_get xs i ≡ Some x → slice_get (map g xs) i ≡ Some (g x)
get_map g [] i x e = cc
get_map g (y ∷ xs) zero x e = let f : y ≡ x = cc in ap (λ z. Some (g z)) f
get_map g (y ∷ xs) (suc i) x e = get_map g xs i x e

pub get_unmap : {A B : Type 0} (g : A → B) (xs : List A) (i : ℕ) (y : B) → slice_get (map g xs) i ≡ Some y → (x : A) × (slice_get xs i ≡ Some x) × (g x ≡ y)
get_unmap g [] i y e = cc
get_unmap g (x ∷ xs) zero y e = (x, refl, same_Some _ _ e)
get_unmap g (x ∷ xs) (suc i) y e = get_unmap g xs i y e

pub drop_map : {A B : Type 0} (g : A → B) (n : ℕ) (xs : List A) → drop n (map g xs) ≡ map g (drop n xs)
drop_map g zero xs = refl
drop_map g (suc n) [] = refl
drop_map g (suc n) (x ∷ xs) = drop_map g n xs

-- what stands at a place that a list has
get_within : {A : Type 0} (xs : List A) (i : ℕ) → i < length xs → (x : A) × (slice_get xs i ≡ Some x)
get_within [] i lt = absurd (omega (arith, lt))
get_within (x ∷ xs) zero lt = (x, refl)
get_within (x ∷ xs) (suc i) lt = get_within xs i (omega (arith, lt))

-- ---- items, and what is left of operations

-- the item where operations begin
pub drop_item : (ops : List (Op × ℕ)) (last : Last) (p : ℕ) (i : Item) → in_block ops last p ≡ Some i → in_block (drop p ops) last 0 ≡ Some i
drop_item ops last zero i e = e
drop_item [] last (suc p) i e = let f : None ≡ Some i = e in absurd (cc)
drop_item (o ∷ ops) last (suc p) i e = drop_item ops last p i e

pub item_within : (ops : List (Op × ℕ)) (last : Last) (p : ℕ) (i : Item) → in_block ops last p ≡ Some i → p ≤ length ops
item_within ops last zero i e = omega arith
item_within [] last (suc p) i e = let f : None ≡ Some i = e in absurd (cc)
item_within (o ∷ ops) last (suc p) i e = omega (arith, item_within ops last p i e)

pub rest_item : (ops : List (Op × ℕ)) (last : Last) (p : ℕ) (o : Op × ℕ) (os : List (Op × ℕ)) → drop p ops ≡ o ∷ os → in_block ops last p ≡ Some (Do o.0 o.1)
rest_item [] last zero o os e = let f : [] ≡ o ∷ os = e in absurd (cc)
rest_item [] last (suc p) o os e = let f : [] ≡ o ∷ os = e in absurd (cc)
rest_item (q ∷ ops) last zero o os e =
    let g : q ∷ ops ≡ o ∷ os = e in
    let f : q ≡ o = cc in ap (λ (z : Op × ℕ). Some (Do z.0 z.1)) f
rest_item (q ∷ ops) last (suc p) o os e = rest_item ops last p o os e

pub rest_end : (ops : List (Op × ℕ)) (last : Last) (p : ℕ) → drop p ops ≡ [] → p ≤ length ops → in_block ops last p ≡ Some (End last)
rest_end [] last zero e le = refl
rest_end [] last (suc p) e le = absurd (omega (arith, le))
rest_end (q ∷ ops) last zero e le = let f : q ∷ ops ≡ [] = e in absurd (cc)
rest_end (q ∷ ops) last (suc p) e le = rest_end ops last p e (omega (arith, le))

pub drop_next : (ops : List (Op × ℕ)) (p : ℕ) (o : Op × ℕ) (os : List (Op × ℕ)) → drop p ops ≡ o ∷ os → (drop (suc p) ops ≡ os) × (suc p ≤ length ops)
drop_next [] zero o os e = let f : [] ≡ o ∷ os = e in absurd (cc)
drop_next [] (suc p) o os e = let f : [] ≡ o ∷ os = e in absurd (cc)
drop_next (q ∷ ops) zero o os e =
    let g : q ∷ ops ≡ o ∷ os = e in
    let f : ops ≡ os = cc in (f, omega arith)
drop_next (q ∷ ops) (suc p) o os e =
    let h = drop_next ops p o os e in (h.0, omega (arith, h.1))

-- an operation at a place is the first of those that are left
pub item_rest : (ops : List (Op × ℕ)) (last : Last) (p : ℕ) (o : Op) {line : ℕ} → in_block ops last p ≡ Some (Do o line) → (x : Op × ℕ) × (drop p ops ≡ x ∷ drop (suc p) ops) × (x.0 ≡ o)
item_rest [] last zero o {line} e = let f : Some (End last) ≡ Some (Do o line) = e in absurd (cc)
item_rest [] last (suc p) o {line} e = let f : None ≡ Some (Do o line) = e in absurd (cc)
item_rest (q ∷ ops) last zero o {line} e =
    let g : Some (Do q.0 q.1) ≡ Some (Do o line) = e in
    let f : q.0 ≡ o = cc in (q, refl, f)
item_rest (q ∷ ops) last (suc p) o e = item_rest ops last p o e

pub item_end : (ops : List (Op × ℕ)) (last : Last) (p : ℕ) (l : Last) → in_block ops last p ≡ Some (End l) → (drop p ops ≡ []) × (last ≡ l)
item_end [] last zero l e =
    let g : Some (End last) ≡ Some (End l) = e in
    let f : last ≡ l = cc in (refl, f)
item_end [] last (suc p) l e = let f : None ≡ Some (End l) = e in absurd (cc)
item_end (q ∷ ops) last zero l e = let f : Some (Do q.0 q.1) ≡ Some (End l) = e in absurd (cc)
item_end (q ∷ ops) last (suc p) l e = item_end ops last p l e

pub item_block : (b : Option Block) (p : ℕ) (i : Item) → item_of b p ≡ Some i → (k : Block) × (b ≡ Some k)
item_block None p i e = let f : None ≡ Some i = e in absurd (cc)
item_block (Some k) p i e = (k, refl)

-- what is kept of a block says nothing of its handler
pub steps_bare : (bs : List Block) → map steps_of (bare_blocks bs) ≡ map steps_of bs
steps_bare [] = refl
steps_bare (b ∷ bs) = ap (λ z. steps_of b ∷ z) (steps_bare bs)

-- ---- what is read again

module _ (f : Func) (r : ℕ) where
  -- the item of a block that is there
  pub item_is : (b p : ℕ) (k : Block) (i : Item) → slice_get f.blocks b ≡ Some k → in_block k.ops k.last p ≡ Some i → item_in f.blocks b p ≡ Some i
  item_is b p k i is e = ap (λ z. item_of z p) is ∙ e

  pub item_was : (b p : ℕ) (k : Block) (i : Item) → slice_get f.blocks b ≡ Some k → item_in f.blocks b p ≡ Some i → in_block k.ops k.last p ≡ Some i
  item_was b p k i is e = ap (λ z. item_of z p) (sym is) ∙ e

  live_block : (b p : ℕ) → LiveAt f r b p → (k : Block) × (slice_get f.blocks b ≡ Some k)
  live_block b p (path.reads_here x y i e a) = item_block (slice_get f.blocks b) p i e
  live_block b p (path.goes_on x y c q i e w g on) = item_block (slice_get f.blocks b) p i e

  -- a path over what is left of a block is one from place to place
  live_path : (ss : List Step) (l : Last) → Live (map steps_of f.blocks) r ss l → (b p : ℕ) (k : Block) (ops : List (Op × ℕ)) → slice_get f.blocks b ≡ Some k → drop p k.ops ≡ ops → p ≤ length k.ops → ss ≡ map step_of ops → l ≡ k.last → LiveAt f r b p
  live_path ss l (rows.reads_here s xs j a) b p k [] is left le e m = let z : s ∷ xs ≡ [] = e in absurd (cc)
  live_path ss l (rows.reads_here s xs j a) b p k (o ∷ os) is left le e m =
      let z : s ∷ xs ≡ step_of o ∷ map step_of os = e in
      let first : s ≡ step_of o = cc in
      path.reads_here b p (Do o.0 o.1) (item_is b p k (Do o.0 o.1) is (rest_item k.ops k.last p o os left)) (ap (λ (y : Step). is_among y.reads r) (sym first) ∙ a)
  live_path ss l (rows.reads_last j a) b p k [] is left le e m =
      path.reads_here b p (End k.last) (item_is b p k (End k.last) is (rest_end k.ops k.last p left le)) (ap (λ y. is_among (reads_of_last y) r) (sym m) ∙ a)
  live_path ss l (rows.reads_last j a) b p k (o ∷ os) is left le e m = let z : [] ≡ step_of o ∷ map step_of os = e in absurd (cc)
  live_path ss l (rows.goes_past s xs j a q) b p k [] is left le e m = let z : s ∷ xs ≡ [] = e in absurd (cc)
  live_path ss l (rows.goes_past s xs j a q) b p k (o ∷ os) is left le e m =
      let z : s ∷ xs ≡ step_of o ∷ map step_of os = e in
      let first : s ≡ step_of o = cc in
      let others : xs ≡ map step_of os = cc in
      let item = item_is b p k (Do o.0 o.1) is (rest_item k.ops k.last p o os left) in
      let more = drop_next k.ops p o os left in
      path.goes_on b p b (suc p) (Do o.0 o.1) item (ap (λ (y : Step). is_target y.write r) (sym first) ∙ a) (passes b p o.0 item) (live_path xs l q b (suc p) k os is more.0 more.1 others m)
  live_path ss l (rows.jumps_on i t j n at there q) b p k [] is left le e m =
      let item = item_is b p k (End k.last) is (rest_end k.ops k.last p left le) in
      let to = get_unmap steps_of f.blocks t n there in
      path.goes_on b p t 0 (End k.last) item refl (jumps b p i t k.last item (ap (λ y. slice_get (targets y) i) (sym m) ∙ at)) (live_path n.steps n.last q t 0 to.0 to.0.ops to.1 refl (omega arith) (ap (λ (y : Steps). y.steps) (sym to.2)) (ap (λ (y : Steps). y.last) (sym to.2)))
  live_path ss l (rows.jumps_on i t j n at there q) b p k (o ∷ os) is left le e m = let z : [] ≡ step_of o ∷ map step_of os = e in absurd (cc)

  read_at : (ops : List (Op × ℕ)) (last : Last) (i : Item) → in_block ops last 0 ≡ Some i → reads i r ≡ true → Live (map steps_of f.blocks) r (map step_of ops) last
  read_at [] last i e a =
      let g : Some (End last) ≡ Some i = e in
      let h : End last ≡ i = same_Some _ _ g in
      rows.reads_last last (ap (λ y. reads y r) h ∙ a)
  read_at (o ∷ ops) last i e a =
      let g : Some (Do o.0 o.1) ≡ Some i = e in
      let h : Do o.0 o.1 ≡ i = same_Some _ _ g in
      rows.reads_here (step_of o) (map step_of ops) last (ap (λ y. reads y r) h ∙ a)

  -- and one from place to place is one over what is left
  path_live : IsBare f → (b p : ℕ) → LiveAt f r b p → (k : Block) → slice_get f.blocks b ≡ Some k → Live (map steps_of f.blocks) r (map step_of (drop p k.ops)) k.last
  path_live calm b p (path.reads_here x y i e a) k is =
      read_at (drop p k.ops) k.last i (drop_item k.ops k.last p i (item_was b p k i is e)) a
  path_live calm b p (path.goes_on x y c q i e w (passes x2 y2 o {line} e2) on) k is =
      let first = item_rest k.ops k.last p o (item_was b p k (Do o line) is e2) in
      let same : i ≡ Do o line = same_Some _ _ (sym e ∙ e2) in
      let past : is_target (write_of first.0.0) r ≡ false =
      ap (λ y. is_target (write_of y) r) first.2 ∙ ap (λ y. writes y r) (sym same) ∙ w in
      subst (λ z. Live (map steps_of f.blocks) r (map step_of z) k.last) (sym first.1) (rows.goes_past (step_of first.0) (map step_of (drop (suc p) k.ops)) k.last past (path_live calm b (suc p) on k is))
  path_live calm b p (path.goes_on x y c q i e w (fails x2 y2 h o e2 caught at) on) k is =
      absurd (calm b h at)
  path_live calm b p (path.goes_on x y c q i e w (jumps x2 y2 n t l e2 at) on) k is =
      let end = item_end k.ops k.last p l (item_was b p k (End l) is e2) in
      let to = live_block t 0 on in
      subst (λ z. Live (map steps_of f.blocks) r (map step_of z) k.last) (sym end.0) (rows.jumps_on n t k.last (steps_of to.0) (ap (λ y. slice_get (targets y) n) end.1 ∙ at) (get_map steps_of f.blocks t to.0 to.1) (path_live calm t 0 on to.0 to.1))

  -- what exact marks give at a place
  pub live_given_is : IsBare f → (marked : ℕ → Bool) → IsLiveRow (map steps_of f.blocks) r marked → (b p : ℕ) (k : Block) → slice_get f.blocks b ≡ Some k → p ≤ length k.ops → (live_given (drop p (map step_of k.ops)) k.last marked r ≡ true) ↔ LiveAt f r b p
  live_given_is calm marked exact b p k is le =
      let given = given_exact (map steps_of f.blocks) r marked exact (map step_of (drop p k.ops)) k.last in
      let kept = ap (λ z. live_given z k.last marked r) (drop_map step_of p k.ops) in
      (λ h. live_path (map step_of (drop p k.ops)) k.last (given.0 (sym kept ∙ h)) b p k (drop p k.ops) is refl le refl refl, λ h. kept ∙ given.1 (path_live calm b p h k is))

-- what a table says at a place
pub live_table_is : (f : Func) (calm : IsBare f) (r : ℕ) (touches : Touches) (rows : List (List ℕ)) (count : ℕ) → AreTouches (map steps_of f.blocks) count touches → r < count → IsLiveRow (map steps_of f.blocks) r (has rows r) → (b p : ℕ) (i : Item) → item_in f.blocks b p ≡ Some i → (live_by touches rows b p r ≡ true) ↔ LiveAt f r b p
live_table_is f calm r touches rows count are below exact b p i e =
    let there = item_block (slice_get f.blocks b) p i e in
    let k = there.0 in
    let le : p ≤ length k.ops = item_within k.ops k.last p i (item_was f r b p k i there.1 e) in
    let within : p ≤ length (map step_of k.ops) = omega (arith, le, length-map k.ops step_of) in
    let given = live_given_is f r calm (has rows r) exact b p k there.1 le in
    let told = table_given (map steps_of f.blocks) r count touches are below rows b p (steps_of k) (get_map steps_of f.blocks b k there.1) within in
    (λ h. given.0 (sym told ∙ h), λ h. told ∙ given.1 h)

-- what exact marks say at the start of a block
pub starts_are : (f : Func) (calm : IsBare f) (r : ℕ) (marked : ℕ → Bool) → IsLiveRow (map steps_of f.blocks) r marked → (b : ℕ) → (marked b ≡ true) ↔ LiveAt f r b 0
starts_are f calm r marked exact b = (
  λ h.
      let size = length-map f.blocks steps_of in
      let there = get_within f.blocks b (omega (arith, exact.0 b h, size)) in
      live_path f r (map step_of there.0.ops) there.0.last ((exact.1 b (steps_of there.0) (get_map steps_of f.blocks b there.0 there.1)).0 h) b 0 there.0 there.0.ops there.1 refl (omega arith) refl refl,
  λ h.
      let there = live_block f r b 0 h in
      (exact.1 b (steps_of there.0) (get_map steps_of f.blocks b there.0 there.1)).1 (path_live f r calm b 0 h there.0 there.1),
)
