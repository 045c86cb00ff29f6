-- What is only lent: paths from the entry, and rows.
use Rattle.std.proofs.Common.{◌≡◌, ℕ, zero, suc, ◌<◌, ◌≤◌, ◌⊎◌, Bool, true, false, List, [], ◌∷◌, length, Some, None, refl, sym, ap, ◌∙◌, inl, inr, ⊎_elim, arith, get_or, cond, drop, take, map, ◌+◌}
use Rattle.std.specs.Prelude.{slice_get, nat_lt, min, not, ◌&&◌, ◌||◌, ◌↔◌}
use Rattle.std.specs.List.{list_any}
use Rattle.std.proofs.lemmas.List.{length-map, get_or_past}
use Rattle.std.proofs.lemmas.Option.{same_Some, slice_get_within}
use Rattle.ir_core.specs.declared.code.Op.{Op}
use Rattle.ir_core.specs.declared.code.Last.{Last}
use Rattle.ir_core.specs.declared.code.Block.{Block}
use Rattle.ir_core.specs.declared.code.Func.{Func}
use Rattle.ir_core.specs.Bare.{IsBare}
use Rattle.ir_core.specs.Items.{Item, Do, End, in_block, item_in}
use Rattle.ir_core.proofs.ItemLemmas.{op_item}
use Rattle.liveness.specs.declared.step.Step.{Step}
use Rattle.liveness.specs.declared.step.Steps.{Steps}
use Rattle.liveness.specs.declared.borrow_table.Known.{Known}
use Rattle.liveness.specs.declared.borrow_table.BorrowTable.{BorrowTable}
use Rattle.liveness.specs.Paths.{is_among, is_target, write_of, writes, lends_to, gives_lent, targets, Goes, passes, fails, jumps, MetAt, entry, onward, OwnedAt, no_parameter, written, kept, BorrowedAt}
use Rattle.liveness.specs.Steps.{step_of, steps_of}
use Rattle.liveness.specs.Rising.{next_from, rows_with, has}
use Rattle.liveness.specs.Places.{end_of, places_of, places, lends_in, lends_step, lends_some}
use Rattle.liveness.specs.Rows.{Met, first, jumped, owned_after, Owned, from_entry, given, passes_on, IsOwnedRow}
use Rattle.liveness.specs.Tables.{is_there, is_told, owned_by, borrowed_by}
use Rattle.liveness.specs.Liveness.{known_count, AreMarked}
use Rattle.liveness.proofs.RisingLemmas.{ge_test, lt_tells}
use Rattle.liveness.proofs.RowLemmas.{some_any, there_is}
use Rattle.liveness.proofs.InverseLemmas.{either}
use Rattle.liveness.proofs.PlaceLemmas.{span_there, row_has}
use Rattle.liveness.proofs.FoundLemmas.{get_map_or}
use Rattle.liveness.proofs.LastLemmas.{after_more, after_kept, after_parts, owned_there, lends_is}
use Rattle.liveness.proofs.ApartLemmas.{get_front}
use Rattle.liveness.proofs.PathLemmas.{get_map, get_unmap, item_was, item_is, item_within, item_end, item_block, rest_end}

-- ---- lists and truth values

and_true : (a b : Bool) → (a && b) ≡ true → (a ≡ true) × (b ≡ true)
and_true true b e = (refl, e)
and_true false b e = cc

both_true : (a b : Bool) → a ≡ true → b ≡ true → (a && b) ≡ true
both_true true b e h = h
both_true false b e h = cc

not_false : (a : Bool) → not a ≡ true → a ≡ false
not_false true e = cc
not_false false e = refl

drop_whole : {A : Type 0} (xs : List A) → drop (length xs) xs ≡ []
drop_whole [] = refl
drop_whole (x ∷ xs) = drop_whole xs

take_whole : {A : Type 0} (xs : List A) → take (length xs) xs ≡ xs
take_whole [] = refl
take_whole (x ∷ xs) = ap (λ z. x ∷ z) (take_whole xs)

map_size : {A B : Type 0} (g : A → B) (xs : List A) → length (map g xs) ≡ length xs
map_size g [] = refl
map_size g (x ∷ xs) = ap suc (map_size g xs)

get_drop : {A : Type 0} (m : ℕ) (xs : List A) (i : ℕ) → slice_get xs (m + i) ≡ slice_get (drop m xs) i
get_drop zero xs i = let e : 0 + i ≡ i = omega arith in ap (slice_get xs) e
get_drop (suc m) [] i = refl
get_drop (suc m) (x ∷ xs) i = let e : suc m + i ≡ suc (m + i) = omega arith in ap (slice_get (x ∷ xs)) e ∙ get_drop m xs i

pub get_none : {A : Type 0} (xs : List A) (i : ℕ) → length xs ≤ i → slice_get xs i ≡ None
get_none [] i le = refl
get_none (x ∷ xs) zero le = absurd (omega (arith, le))
get_none (x ∷ xs) (suc i) le = get_none xs i (omega (arith, le))

item_get : (ops : List (Op × ℕ)) (last : Last) (p : ℕ) (o : Op) {line : ℕ} → in_block ops last p ≡ Some (Do o line) → (x : Op × ℕ) × (slice_get ops p ≡ Some x) × (x.0 ≡ o)
item_get [] last zero o {line} e = let f : Some (End last) ≡ Some (Do o line) = e in absurd (cc)
item_get [] last (suc p) o {line} e = let f : None ≡ Some (Do o line) = e in absurd (cc)
item_get (q ∷ ops) last zero o {line} e =
    let g : Some (Do q.0 q.1) ≡ Some (Do o line) = e in
    let f : q.0 ≡ o = cc in (q, refl, f)
item_get (q ∷ ops) last (suc p) o e = item_get ops last p o e

pub below_or_not : (r n : ℕ) → (r < n) ⊎ (n ≤ r)
below_or_not r zero = inr (omega arith)
below_or_not zero (suc n) = inl (omega arith)
below_or_not (suc r) (suc n) =
    ⊎_elim (λ a. inl (omega (arith, a))) (λ a. inr (omega (arith, a))) (below_or_not r n)

-- an end stands behind all operations
end_place : (ops : List (Op × ℕ)) (last : Last) (p : ℕ) (l : Last) → in_block ops last p ≡ Some (End l) → p ≡ length ops
end_place [] last zero l e = refl
end_place [] last (suc p) l e = let f : None ≡ Some (End l) = e in absurd (cc)
end_place (q ∷ ops) last zero l e = let f : Some (Do q.0 q.1) ≡ Some (End l) = e in absurd (cc)
end_place (q ∷ ops) last (suc p) l e = ap suc (end_place ops last p l e)

-- ---- what is met

module _ (f : Func) (calm : IsBare f) where
  item_here : (b p : ℕ) (k : Block) (i : Item) → slice_get f.blocks b ≡ Some k → in_block k.ops k.last p ≡ Some i → item_in f.blocks b p ≡ Some i
  item_here b p k i is e = item_is f 0 b p k i is e

  last_here : (b : ℕ) (k : Block) → slice_get f.blocks b ≡ Some k → item_in f.blocks b (length k.ops) ≡ Some (End k.last)
  last_here b k is =
      item_here b (length k.ops) k (End k.last) is (rest_end k.ops k.last (length k.ops) (drop_whole k.ops) (omega arith))

  met_walk : (b : ℕ) (k : Block) → slice_get f.blocks b ≡ Some k → MetAt f b 0 → (n : ℕ) → n ≤ length k.ops → MetAt f b n
  met_walk b k is m zero le = m
  met_walk b k is m (suc n) le =
      let o = there_is k.ops n (omega (arith, le)) in
      onward b n b (suc n) (met_walk b k is m n (omega (arith, le))) (passes b n o.0.0 (item_here b n k (Do o.0.0 o.0.1) is (op_item k.ops k.last n o.0 o.1)))

  path_met : (b p : ℕ) → MetAt f b p → Met (map steps_of f.blocks) b
  path_met b p entry = first
  path_met b p (onward x y c q m (passes x2 y2 o e)) = path_met x y m
  path_met b p (onward x y c q m (fails x2 y2 h o e caught at)) =
      absurd (calm x h at)
  path_met b p (onward x y c q m (jumps x2 y2 i t l e at)) =
      let there = item_block (slice_get f.blocks x) y (End l) e in
      let end = item_end there.0.ops there.0.last y l (item_was f 0 x y there.0 (End l) there.1 e) in
      jumped x i t (steps_of there.0) (path_met x y m) (get_map steps_of f.blocks x there.0 there.1) (ap (λ z. slice_get (targets z) i) end.1 ∙ at)

  met_path : (t : ℕ) → Met (map steps_of f.blocks) t → MetAt f t 0
  met_path t first = entry
  met_path t (jumped b i s k m is at) =
      let to = get_unmap steps_of f.blocks b k is in
      let k0 = to.0 in
      onward b (length k0.ops) t 0 (met_walk b k0 to.1 (met_path b m) (length k0.ops) (omega arith)) (jumps b (length k0.ops) i t k0.last (last_here b k0 to.1) (ap (λ (z : Steps). slice_get (targets z.last) i) to.2 ∙ at))

  owned_met : (r b p : ℕ) → OwnedAt f r b p → MetAt f b p
  owned_met r b p (no_parameter h) = entry
  owned_met r b p (written x y c q i m e w n g) = onward x y c q m g
  owned_met r b p (kept x y c q i o e w g) = onward x y c q (owned_met r x y o) g

  goes_item : (b p c q : ℕ) → Goes f b p c q → (i : Item) × (item_in f.blocks b p ≡ Some i)
  goes_item b p c q (passes x y o {line} e) = (Do o line, e)
  goes_item b p c q (fails x y h o {line} e caught at) = (Do o line, e)
  goes_item b p c q (jumps x y i t l e at) = (End l, e)

  -- a register that is no parameter, and that nothing lends to, is owned wherever a path comes
  met_owned : (r : ℕ) → f.params ≤ r → ((b p : ℕ) (i : Item) → item_in f.blocks b p ≡ Some i → writes i r ≡ true → gives_lent i ≡ false) → (b p : ℕ) → MetAt f b p → OwnedAt f r b p
  met_owned r le never b p entry = no_parameter le
  met_owned r le never b p (onward x y c q m g) =
      let there = goes_item x y c q g in
      ⊎_elim
      (λ w. written x y c q there.0 m there.1 w (never x y there.0 there.1 w) g)
      (λ w. kept x y c q there.0 (met_owned r le never x y m) there.1 w g)
      (either (writes there.0 r))

  -- ---- a register that has a row

  module _ (r : ℕ) (marked : ℕ → Bool) (exact : IsOwnedRow (map steps_of f.blocks) f.params r marked) where
    -- whether it is owned behind so many operations of a block, by whether it is so at the start
    abbrev bit : Bool → Block → ℕ → Bool
    bit x k n = owned_after (take n (map step_of k.ops)) r x

    bit_more : (x : Bool) (k : Block) (n : ℕ) (o : Op × ℕ) → slice_get k.ops n ≡ Some o → bit x k (suc n) ≡ cond (is_target (write_of o.0) r) (not (lends_to o.0)) (bit x k n)
    bit_more x k n o e = after_more (map step_of k.ops) n r (step_of o) x (get_map step_of k.ops n o e)

    bit_whole : (x : Bool) (k : Block) → bit x k (length k.ops) ≡ owned_after (map step_of k.ops) r x
    bit_whole x k =
        ap (λ z. owned_after z r x) (ap (λ z. take z (map step_of k.ops)) (sym (map_size step_of k.ops)) ∙ take_whole (map step_of k.ops))

    owned_walk : (x : Bool) (b : ℕ) (k : Block) → slice_get f.blocks b ≡ Some k → MetAt f b 0 → (x ≡ true → OwnedAt f r b 0) → (n : ℕ) → n ≤ length k.ops → bit x k n ≡ true → OwnedAt f r b n
    owned_walk x b k is m start zero le e = start e
    owned_walk x b k is m start (suc n) le e =
        let o = there_is k.ops n (omega (arith, le)) in
        let item = item_here b n k (Do o.0.0 o.0.1) is (op_item k.ops k.last n o.0 o.1) in
        let more = sym (bit_more x k n o.0 o.1) ∙ e in
        ⊎_elim
        (λ w.
        let gives : not (lends_to o.0.0) ≡ true = sym (ap (λ z. cond z (not (lends_to o.0.0)) (bit x k n)) w) ∙ more in
        written b n b (suc n) (Do o.0.0 o.0.1) (met_walk b k is m n (omega (arith, le))) item w (not_false (lends_to o.0.0) gives) (passes b n o.0.0 item))
        (λ w.
        let was : bit x k n ≡ true = sym (ap (λ z. cond z (not (lends_to o.0.0)) (bit x k n)) w) ∙ more in
        kept b n b (suc n) (Do o.0.0 o.0.1) (owned_walk x b k is m start n (omega (arith, le)) was) item w (passes b n o.0.0 item))
        (either (is_target (write_of o.0.0) r))

    jump_on : (b : ℕ) (k : Block) (i t : ℕ) → slice_get f.blocks b ≡ Some k → slice_get (targets k.last) i ≡ Some t → OwnedAt f r b (length k.ops) → OwnedAt f r t 0
    jump_on b k i t is at o =
        kept b (length k.ops) t 0 (End k.last) o (last_here b k is) refl (jumps b (length k.ops) i t k.last (last_here b k is) at)

    -- from block to block
    over : (x : Bool) (b i t : ℕ) (k : Steps) → slice_get (map steps_of f.blocks) b ≡ Some k → MetAt f b 0 → (x ≡ true → OwnedAt f r b 0) → owned_after k.steps r x ≡ true → slice_get (targets k.last) i ≡ Some t → OwnedAt f r t 0
    over x b i t k is m start on at =
        let to = get_unmap steps_of f.blocks b k is in
        let behind : owned_after (map step_of to.0.ops) r x ≡ true = ap (λ (z : Steps). owned_after z.steps r x) to.2 ∙ on in
        jump_on b to.0 i t to.1 (ap (λ (z : Steps). slice_get (targets z.last) i) to.2 ∙ at) (owned_walk x b to.0 to.1 m start (length to.0.ops) (omega arith) (bit_whole x to.0 ∙ behind))

    -- what the marks give has a path
    mark_owned : (t : ℕ) → Owned (map steps_of f.blocks) f.params r t → OwnedAt f r t 0
    mark_owned t (from_entry le) = no_parameter le
    mark_owned t (given b i s k m is on at) =
        let never : false ≡ true → OwnedAt f r b 0 = λ e. absurd (cc) in
        over false b i t k is (met_path b m) never on at
    mark_owned t (passes_on b i s k come is none at) =
        let o = mark_owned b come in
        over true b i t k is (owned_met r b 0 o) (λ _. o) (after_kept k.steps r true none) at

    inside : (b : ℕ) (k : Block) → slice_get f.blocks b ≡ Some k → b < length (map steps_of f.blocks)
    inside b k is = slice_get_within (map steps_of f.blocks) b (steps_of k) (get_map steps_of f.blocks b k is)

    bit_owned : (b : ℕ) (k : Block) → slice_get f.blocks b ≡ Some k → (p : ℕ) → p ≤ length k.ops → MetAt f b 0 → bit (marked b) k p ≡ true → OwnedAt f r b p
    bit_owned b k is p le m e =
        owned_walk (marked b) b k is m (λ on. mark_owned b ((exact b (inside b k is)).0 on)) p le e

    -- and what has a path the rows give
    owned_bit : (b p : ℕ) → OwnedAt f r b p → (k : Block) → slice_get f.blocks b ≡ Some k → bit (marked b) k p ≡ true
    owned_bit b p (no_parameter le) k is = (exact 0 (inside 0 k is)).1 (from_entry le)
    owned_bit b p (written x y c q i m e w n (passes x2 y2 o {line} e2)) k is =
        let there = item_get k.ops k.last y o (item_was f 0 x y k (Do o line) is e2) in
        let same : i ≡ Do o line = same_Some _ _ (sym e ∙ e2) in
        let wrote : is_target (write_of there.0.0) r ≡ true =
        ap (λ z. is_target (write_of z) r) there.2 ∙ ap (λ z. writes z r) (sym same) ∙ w in
        let gives : lends_to there.0.0 ≡ false = ap lends_to there.2 ∙ ap gives_lent (sym same) ∙ n in
        bit_more (marked x) k y there.0 there.1 ∙ ap (λ z. cond z (not (lends_to there.0.0)) (bit (marked x) k y)) wrote ∙ ap not gives
    owned_bit b p (written x y c q i m e w n (fails x2 y2 h o e2 caught at)) k is = absurd (calm x h at)
    owned_bit b p (written x y c q i m e w n (jumps x2 y2 j t l e2 at)) k is =
        let same : i ≡ End l = same_Some _ _ (sym e ∙ e2) in
        let no_write : false ≡ true = ap (λ z. writes z r) (sym same) ∙ w in
        absurd (cc)
    owned_bit b p (kept x y c q i on e w (passes x2 y2 o {line} e2)) k is =
        let there = item_get k.ops k.last y o (item_was f 0 x y k (Do o line) is e2) in
        let same : i ≡ Do o line = same_Some _ _ (sym e ∙ e2) in
        let past : is_target (write_of there.0.0) r ≡ false =
        ap (λ z. is_target (write_of z) r) there.2 ∙ ap (λ z. writes z r) (sym same) ∙ w in
        bit_more (marked x) k y there.0 there.1 ∙ ap (λ z. cond z (not (lends_to there.0.0)) (bit (marked x) k y)) past ∙ owned_bit x y on k is
    owned_bit b p (kept x y c q i on e w (fails x2 y2 h o e2 caught at)) k is = absurd (calm x h at)
    owned_bit b p (kept x y c q i on e w (jumps x2 y2 j t l e2 at)) k is =
        let there = item_block (slice_get f.blocks x) y (End l) e2 in
        let k0 = there.0 in
        let stands = get_map steps_of f.blocks x k0 there.1 in
        let end = item_end k0.ops k0.last y l (item_was f 0 x y k0 (End l) there.1 e2) in
        let to_here : slice_get (targets k0.last) j ≡ Some t = ap (λ z. slice_get (targets z) j) end.1 ∙ at in
        let size : y ≡ length k0.ops = end_place k0.ops k0.last y l (item_was f 0 x y k0 (End l) there.1 e2) in
        let behind : owned_after (map step_of k0.ops) r (marked x) ≡ true =
        sym (bit_whole (marked x) k0) ∙ ap (bit (marked x) k0) (sym size) ∙ owned_bit x y on k0 there.1 in
        let come : Owned (map steps_of f.blocks) f.params r t =
        ⊎_elim
        (λ a. given x j t (steps_of k0) (path_met x y (owned_met r x y on)) stands a to_here)
        (λ a. passes_on x j t (steps_of k0) ((exact x (inside x k0 there.1)).0 a.0) stands a.1 to_here)
        (after_parts (map step_of k0.ops) r (marked x) behind) in
        (exact t (inside t k is)).1 come

-- ---- the table

not_exact : {P : Type 0} (x : Bool) → ((x ≡ true) ↔ P) → (not x ≡ true) ↔ (P → ⊥)
not_exact true h = (λ e. cc, λ no_path. absurd (no_path (h.0 refl)))
not_exact false h = (λ e p. let f : false ≡ true = h.1 p in absurd (cc), λ no_path. refl)

-- a step that lends is known by the rows
lends_known : (blocks : List Steps) (r : ℕ) → rows_with 0 (map lends_in (places blocks)) r ≡ [] → (b n : ℕ) (k : Steps) (s : Step) → slice_get blocks b ≡ Some k → slice_get k.steps n ≡ Some s → is_target s.write r ≡ true → s.lends ≡ false
lends_known blocks r none b n k s is at w =
    let h = span_there blocks 0 b k is in
    let there : slice_get (places blocks) (h.0 + n) ≡ Some s =
    get_drop h.0 (places blocks) n ∙ ap (λ z. slice_get z n) h.3 ∙ get_front (places_of k) h.1 n s (get_front k.steps (end_of k.last ∷ []) n s at) in
    let among : is_among (lends_in s) r ≡ false =
    sym (ap (λ z. is_among z r) (get_map_or lends_in (places blocks) (h.0 + n) s there))
    ∙ sym (row_has (map lends_in (places blocks)) 0 r (h.0 + n) (h.0 + n) (omega arith))
    ∙ ap (λ z. is_among z (h.0 + n)) none in
    sym (lends_is s r w) ∙ among

-- none does where no step lends
none_lends : (blocks : List Steps) → list_any lends_some blocks ≡ false → (b n : ℕ) (k : Steps) (s : Step) → slice_get blocks b ≡ Some k → slice_get k.steps n ≡ Some s → s.lends ≡ false
none_lends blocks none b n k s is at =
    ⊎_elim
    (λ a.
    let some : list_any lends_some blocks ≡ true = some_any lends_some blocks b k is (some_any lends_step k.steps n s at a) in
    let clash : true ≡ false = sym some ∙ none in
    absurd (cc))
    (λ a. a)
    (either s.lends)

-- no number at all
is_nothing : (xs : List ℕ) → is_there (next_from xs 0) ≡ false → xs ≡ []
is_nothing [] e = refl
is_nothing (x ∷ xs) e =
    let clash : true ≡ false = sym (ap (λ z. is_there (cond z (next_from xs 0) (Some x))) (ge_test x 0 (omega arith))) ∙ e in
    absurd (cc)

neither : (a b : Bool) → (a || b) ≡ false → (a ≡ false) × (b ≡ false)
neither true b e = cc
neither false b e = (refl, e)

module _ (f : Func) (calm : IsBare f) (table : BorrowTable) (marked : AreMarked (map steps_of f.blocks) f.params (known_count (map steps_of f.blocks) f.params (length f.regs)) table) where
  abbrev blocks : List Steps
  blocks = map steps_of f.blocks

  abbrev count : ℕ
  count = known_count blocks f.params (length f.regs)

  abbrev known : Known
  known = table.known

  -- where a path comes to a block
  met_there : (b p : ℕ) (k : Block) → slice_get f.blocks b ≡ Some k → p ≤ length k.ops → (get_or known.met b false ≡ true) ↔ MetAt f b p
  met_there b p k is le =
      let here = slice_get_within blocks b (steps_of k) (get_map steps_of f.blocks b k is) in (
        λ e. met_walk f calm b k is (met_path f calm b ((marked.known.met b here).0 e)) p le,
        λ m. (marked.known.met b here).1 (path_met f calm b p m),
      )

  told_is : (b p r : ℕ) (k : Block) → slice_get f.blocks b ≡ Some k → p ≤ length k.ops → r < count → is_told known r ≡ true → ((get_or known.met b false && (not (is_told known r) || owned_by known (has table.rows r b) b p r)) ≡ true) ↔ OwnedAt f r b p
  told_is b p r k is le lt told =
      let row = marked.owned r lt told in
      let same : owned_by known (has table.rows r b) b p r ≡ owned_after (take p (map step_of k.ops)) r (has table.rows r b) =
      owned_there blocks r count lt known.touches known.lends marked.known.touches marked.known.lends_size marked.known.lends b p (steps_of k) (get_map steps_of f.blocks b k is) (omega (arith, le, length-map k.ops step_of)) (has table.rows r b) in
      let all : (not (is_told known r) || owned_by known (has table.rows r b) b p r) ≡ owned_after (take p (map step_of k.ops)) r (has table.rows r b) =
      ap (λ z. not z || owned_by known (has table.rows r b) b p r) told ∙ same in (
        λ e.
            let both = and_true (get_or known.met b false) _ e in
            bit_owned f calm r (has table.rows r) row b k is p le ((met_there b 0 k is (omega arith)).0 both.0) (sym all ∙ both.1),
        λ o.
            both_true (get_or known.met b false) _ ((met_there b p k is le).1 (owned_met f calm r b p o)) (all ∙ owned_bit f calm r (has table.rows r) row b p o k is),
      )

  -- what has no row is no parameter, and nothing lends to it
  never_lent : (r : ℕ) → r < length f.regs → is_told known r ≡ false → (b p : ℕ) (i : Item) → item_in f.blocks b p ≡ Some i → writes i r ≡ true → gives_lent i ≡ false
  never_lent r lt off b p (End l) e w = refl
  never_lent r lt off b p (Do o line) e w =
      let there = item_block (slice_get f.blocks b) p (Do o line) e in
      let at = item_get there.0.ops there.0.last p o (item_was f 0 b p there.0 (Do o line) there.1 e) in
      let step = get_map step_of there.0.ops p at.0 at.1 in
      let block = get_map steps_of f.blocks b there.0 there.1 in
      let wrote : is_target (write_of at.0.0) r ≡ true = ap (λ z. is_target (write_of z) r) at.2 ∙ w in
      let parts = neither (nat_lt r known.params) (is_there (next_from (get_or known.lends r []) 0)) off in
      sym (ap lends_to at.2) ∙ ⊎_elim
      (λ a. lends_known blocks r (sym (marked.known.lends r (omega (arith, a, marked.known.lends_size))) ∙ is_nothing (get_or known.lends r []) parts.1) b p (steps_of there.0) (step_of at.0) block step wrote)
      (λ a. none_lends blocks (few a (list_any lends_some blocks) refl) b p (steps_of there.0) (step_of at.0) block step)
      (below_or_not r count)
    where
      few : count ≤ r → (c : Bool) → list_any lends_some blocks ≡ c → list_any lends_some blocks ≡ false
      few le true is =
          let whole : count ≡ length f.regs = ap (λ z. cond z (length f.regs) (min f.params (length f.regs))) is in
          absurd (omega (arith, whole, le, lt))
      few le false is = is

  other_is : (b p r : ℕ) (k : Block) → slice_get f.blocks b ≡ Some k → p ≤ length k.ops → r < length f.regs → is_told known r ≡ false → ((get_or known.met b false && (not (is_told known r) || owned_by known (has table.rows r b) b p r)) ≡ true) ↔ OwnedAt f r b p
  other_is b p r k is le lt off =
      let parts = neither (nat_lt r known.params) (is_there (next_from (get_or known.lends r []) 0)) off in
      let params : f.params ≤ r = ⊎_elim (λ a. let clash : true ≡ false = sym a.0 ∙ parts.0 in absurd (cc)) (λ a. omega (arith, a.1, marked.known.params_are)) (lt_tells r known.params) in
      let all : (not (is_told known r) || owned_by known (has table.rows r b) b p r) ≡ true = ap (λ z. not z || owned_by known (has table.rows r b) b p r) off in (
        λ e.
            met_owned f calm r params (never_lent r lt off) b p ((met_there b p k is le).0 (and_true (get_or known.met b false) _ e).0),
        λ o.
            both_true (get_or known.met b false) _ ((met_there b p k is le).1 (owned_met f calm r b p o)) all,
      )

  told_below : (r : ℕ) → r < length f.regs → is_told known r ≡ true → r < count
  told_below r lt told = by_case (list_any lends_some blocks) refl
    where
      by_case : (c : Bool) → list_any lends_some blocks ≡ c → r < count
      by_case true is =
          let whole : count ≡ length f.regs = ap (λ z. cond z (length f.regs) (min f.params (length f.regs))) is in
          omega (arith, whole, lt)
      by_case false is =
          let few : count ≡ min f.params (length f.regs) = ap (λ z. cond z (length f.regs) (min f.params (length f.regs))) is in
          ⊎_elim
          (λ a. let below = a.1 in let params = marked.known.params_are in omega (arith, few, lt, below, params))
          (λ a.
          ⊎_elim
          (λ within. within)
          (λ past.
          let none : get_or known.lends r [] ≡ [] = get_or_past known.lends r [] (omega (arith, past, marked.known.lends_size)) in
          let clash : false ≡ true = sym (ap (λ z. z || is_there (next_from (get_or known.lends r []) 0)) a.0 ∙ ap (λ z. is_there (next_from z 0)) none) ∙ told in
          absurd (cc))
          (below_or_not r count))
          (lt_tells r known.params)

  -- what marks say of the blocks of a function
  pub marked_is : (b p r : ℕ) (i : Item) → item_in f.blocks b p ≡ Some i → r < length f.regs → (borrowed_by table b p r ≡ true) ↔ BorrowedAt f r b p
  marked_is b p r i e lt =
      let there = item_block (slice_get f.blocks b) p i e in
      let le = item_within there.0.ops there.0.last p i (item_was f 0 b p there.0 i there.1 e) in
      not_exact (get_or known.met b false && (not (is_told known r) || owned_by known (has table.rows r b) b p r)) (⊎_elim (λ a. told_is b p r there.0 there.1 le (told_below r lt a) a) (λ a. other_is b p r there.0 there.1 le lt a) (either (is_told known r)))

-- ---- behind an operation that only lends

pub lent_behind : (f : Func) (r b p : ℕ) (o : Op) {line : ℕ} → item_in f.blocks b p ≡ Some (Do o line) → is_target (write_of o) r ≡ true → lends_to o ≡ true → BorrowedAt f r b (suc p)
lent_behind f r b p o {line} here wrote lent owned = never b (suc p) owned refl refl
  where
    same_item : (x y : ℕ) (i : Item) → item_in f.blocks x y ≡ Some i → x ≡ b → y ≡ p → i ≡ Do o line
    same_item x y i e block place =
        same_Some _ _ (sym e ∙ ap (λ z. item_in f.blocks z y) block ∙ ap (item_in f.blocks b) place ∙ here)

    last_owned : (x y c q : ℕ) (i : Item) → Goes f x y c q → item_in f.blocks x y ≡ Some i → writes i r ≡ true → gives_lent i ≡ false → c ≡ b → q ≡ suc p → ⊥
    last_owned x y c q i (passes x2 y2 o2 e2) e w n block place =
        let same = same_item x y i e block (omega (arith, place)) in
        let clash : true ≡ false = sym lent ∙ sym (ap gives_lent same) ∙ n in
        absurd (cc)
    last_owned x y c q i (fails x2 y2 h o2 e2 caught at) e w n block place = omega (arith, place)
    last_owned x y c q i (jumps x2 y2 j t l e2 at) e w n block place = omega (arith, place)

    past : (x y c q : ℕ) (i : Item) → Goes f x y c q → item_in f.blocks x y ≡ Some i → writes i r ≡ false → c ≡ b → q ≡ suc p → ⊥
    past x y c q i (passes x2 y2 o2 e2) e w block place =
        let same = same_item x y i e block (omega (arith, place)) in
        let clash : true ≡ false = sym wrote ∙ sym (ap (λ z. writes z r) same) ∙ w in
        absurd (cc)
    past x y c q i (fails x2 y2 h o2 e2 caught at) e w block place = omega (arith, place)
    past x y c q i (jumps x2 y2 j t l e2 at) e w block place = omega (arith, place)

    never : (x y : ℕ) → OwnedAt f r x y → x ≡ b → y ≡ suc p → ⊥
    never x y (no_parameter le) block place = omega (arith, place)
    never x y (written x2 y2 c q i m e w n g) block place = last_owned x2 y2 c q i g e w n block place
    never x y (kept x2 y2 c q i o2 e w g) block place = past x2 y2 c q i g e w block place
