-- What tables of pieces say of a function.
use Rattle.std.proofs.Common.{◌≡◌, ℕ, ◌<◌, Bool, true, false, List, length, map, Some, None, sym, ap, ◌∙◌, subst, ⊎_elim, arith}
use Rattle.std.specs.Prelude.{slice_get}
use Rattle.std.proofs.lemmas.List.{length-map}
use Rattle.std.proofs.lemmas.Option.{slice_get_within}
use Rattle.ir_core.specs.declared.code.Func.{Func}
use Rattle.ir_core.specs.Bare.{bare}
use Rattle.ir_core.proofs.BareLemmas.{bare_is_bare}
use Rattle.ir_core.specs.Items.{Item, item_of, item_in}
use Rattle.liveness.specs.declared.step.Steps.{Steps}
use Rattle.liveness.specs.declared.apart.Home.{Home}
use Rattle.liveness.specs.declared.apart.Home.TheVariants.{Whole}
use Rattle.liveness.specs.declared.live_table.LiveTable.{LiveTable}
use Rattle.liveness.specs.declared.borrow_table.BorrowTable.{BorrowTable}
use Rattle.liveness.specs.Paths.{is_among, LiveAt, reads_here, goes_on}
use Rattle.liveness.specs.Steps.{steps_of}
use Rattle.liveness.specs.Rising.{has}
use Rattle.liveness.specs.Places.{AreTouches}
use Rattle.liveness.specs.Rows.{IsLiveRow}
use Rattle.liveness.specs.Tables.{live_by, borrowed_by}
use Rattle.liveness.specs.declared.apart.Layout.{Layout}
use Rattle.liveness.specs.Apart.{homes_from, pieces_in, begin, pieces_of, first_in, piece_in, place_in, first_or, at_home, row_at, apart}
use Rattle.liveness.specs.Apart as spec
use Rattle.liveness.specs.Liveness.{IsLiveTable, AreStarts, known_count, AreMarked, IsBorrowTable}
use Rattle.liveness.proofs.PathLemmas.{item_was, item_within, item_block, steps_bare, live_table_is, starts_are}
use Rattle.liveness.proofs.OwnedLemmas.{marked_is, get_none, below_or_not}
use Rattle.liveness.proofs.ApartPaths.{Stands, moved_item, apart_is_bare, get_or_not, homes_none, block_stands, entry_stands, item_there, stands_number, home_is, view, view_item, number_of, offset_of, live_same, borrowed_same}

-- ---- a function taken apart

module _ (f : Func) where
  abbrev all : List Steps
  all = map steps_of (apart f).blocks

  pub pieces_are : (layout : Layout) (pieces : List Steps) → layout.homes ≡ homes_from 0 f.blocks → layout.count ≡ pieces_in f.blocks → pieces ≡ map steps_of (pieces_of (item_in f.blocks) f.regs (begin layout) 0 f.blocks) → pieces ≡ all
  pieces_are layout pieces homes count kept =
      kept
      ∙ ap (λ z. map steps_of (pieces_of (item_in f.blocks) f.regs (λ b. first_or z (slice_get layout.homes b)) 0 f.blocks)) count
      ∙ ap (λ z. map steps_of (pieces_of (item_in f.blocks) f.regs (λ b. first_or (pieces_in f.blocks) (slice_get z b)) 0 f.blocks)) homes

  -- a place, where it stands, and what is told there
  record Placed (b p : ℕ) (i : Item) : Type 0 where
    x : ℕ
    y : ℕ
    stands : Stands f b p x y
    item : item_in (apart f).blocks x y ≡ Some (moved_item (spec.entry f.blocks) i)
    told : (told : ℕ → ℕ → ℕ → Bool) (none : Bool) (r : ℕ) → at_home told none (slice_get (homes_from 0 f.blocks) b) p r ≡ told x y r

  place_of : (b p : ℕ) (i : Item) → item_in f.blocks b p ≡ Some i → Placed b p i
  place_of b p i e =
      let k = item_block (slice_get f.blocks b) p i e in
      let le = item_within k.0.ops k.0.last p i (item_was f 0 b p k.0 i k.1 e) in
      let s = block_stands f b p k.0 k.1 le in
      record {
        x = s.0;
        y = s.1;
        stands = s.2;
        item = view_item f b p s.0 s.1 i (view f b p s.0 s.1 i s.2 e);
        told = λ told none r.
            let at = stands_number f b p s.0 s.1 s.2 in
            let home = home_is f b p s.0 s.1 i s.2 e in
            let x = at.0 ∙ ap (λ z. number_of f z p) home.1 in
            let y = at.1 ∙ ap (λ z. offset_of f z p) home.1 in
            ap (λ z. at_home told none z p r) home.1 ∙ ap (λ z. told z (place_in home.0 p) r) (sym x) ∙ ap (λ z. told s.0 z r) (sym y);
      }

  pub live_apart : (table : LiveTable) (pieces : List Steps) (count : ℕ) → table.homes ≡ homes_from 0 f.blocks → pieces ≡ all → count ≡ length f.regs → AreTouches pieces count table.touches → ((r : ℕ) → r < count → IsLiveRow pieces r (has table.rows r)) → IsLiveTable f table
  live_apart table pieces count homes same size touches exact b p r i e lt =
      let at = place_of b p i e in
      let below : r < count = omega (arith, lt, size) in
      let told = ap (λ z. at_home (live_by table.touches table.rows) false (slice_get z b) p r) homes ∙ at.told (live_by table.touches table.rows) false r in
      let is = live_table_is (apart f) (apart_is_bare f) r table.touches table.rows count (subst (λ z. AreTouches z count table.touches) same touches) below (subst (λ z. IsLiveRow z r (has table.rows r)) same (exact r below)) at.x at.y (moved_item (spec.entry f.blocks) i) at.item in
      let path = live_same f r b p i lt e at.x at.y at.stands in
      (λ h. path.0 (is.0 (sym told ∙ h)), λ h. told ∙ is.1 (path.1 h))

  pub starts_apart : (table : LiveTable) (pieces : List Steps) (count : ℕ) → table.homes ≡ homes_from 0 f.blocks → pieces ≡ all → count ≡ length f.regs → ((r : ℕ) → r < count → IsLiveRow pieces r (has table.rows r)) → AreStarts f table
  starts_apart table pieces count homes same size exact b r lt =
      ⊎_elim
      (λ a.
      let i = item_there a.0.ops a.0.last 0 (omega arith) in
      let item : item_in f.blocks b 0 ≡ Some i.0 = ap (λ z. item_of z 0) a.1 ∙ i.1 in
      let below : r < count = omega (arith, lt, size) in
      let is = starts_are (apart f) (apart_is_bare f) r (has table.rows r) (subst (λ z. IsLiveRow z r (has table.rows r)) same (exact r below)) (spec.entry f.blocks b) in
      let path = live_same f r b 0 i.0 lt item (spec.entry f.blocks b) 0 (entry_stands f b) in
      let home = home_is f b 0 (spec.entry f.blocks b) 0 i.0 (entry_stands f b) item in
      let told : is_among (row_at table.rows (slice_get table.homes b)) r ≡ has table.rows r (spec.entry f.blocks b) =
      ap (λ z. is_among (row_at table.rows (slice_get z b)) r) homes ∙ ap (λ z. is_among (row_at table.rows z) r) home.1 ∙ sym (ap (λ z. has table.rows r (first_or (pieces_in f.blocks) z)) home.1) in
      (λ h. path.0 (is.0 (sym told ∙ h)), λ h. told ∙ is.1 (path.1 h)))
      (λ a.
      let none = ap (λ z. is_among (row_at table.rows (slice_get z b)) r) homes ∙ ap (λ z. is_among (row_at table.rows z) r) (homes_none 0 f.blocks b a) in
      (λ h. let clash : false ≡ true = sym none ∙ h in absurd (cc), λ h. absurd (no_block b r a h)))
      (get_or_not f.blocks b)
    where
      no_block : (b r : ℕ) → slice_get f.blocks b ≡ None → LiveAt f r b 0 → ⊥
      no_block b r none (reads_here x y i e a) =
          let clash : None ≡ Some i = sym (ap (λ z. item_of z 0) none) ∙ e in absurd (cc)
      no_block b r none (goes_on x y c q i e w g on) =
          let clash : None ≡ Some i = sym (ap (λ z. item_of z 0) none) ∙ e in absurd (cc)

  pub lent_apart : (table : BorrowTable) (pieces : List Steps) (regs : ℕ) → table.homes ≡ homes_from 0 f.blocks → pieces ≡ all → regs ≡ length f.regs → AreMarked pieces f.params (known_count pieces f.params regs) table → IsBorrowTable f table
  lent_apart table pieces regs homes same size marked b p r i e lt =
      let at = place_of b p i e in
      let says = borrowed_by table in
      let told = ap (λ z. at_home says true (slice_get z b) p r) homes ∙ at.told says true r in
      let is = marked_is (apart f) (apart_is_bare f) table (subst (λ z. AreMarked all f.params (known_count all f.params z) table) size (subst (λ z. AreMarked z f.params (known_count z f.params regs) table) same marked)) at.x at.y r (moved_item (spec.entry f.blocks) i) at.item lt in
      let path = borrowed_same f r b p i e at.x at.y at.stands in
      (λ h. path.0 (is.0 (sym told ∙ h)), λ h. told ∙ is.1 (path.1 h))

-- ---- a function whose handlers are passed over

module _ (f : Func) (homes : List Home) (blocks : List Steps) (are : (b : ℕ) → b < length blocks → slice_get homes b ≡ Some (Whole b)) (size : length homes ≡ length blocks) (kept : blocks ≡ map steps_of f.blocks) where
  same_blocks : blocks ≡ map steps_of (bare f).blocks
  same_blocks = kept ∙ sym (steps_bare f.blocks)

  number : length blocks ≡ length (bare f).blocks
  number = ap length same_blocks ∙ length-map (bare f).blocks steps_of

  home_at : (b p : ℕ) (i : Item) → item_in (bare f).blocks b p ≡ Some i → slice_get homes b ≡ Some (Whole b)
  home_at b p i e =
      let k = item_block (slice_get (bare f).blocks b) p i e in
      let lt = slice_get_within (bare f).blocks b k.0 k.1 in
      are b (omega (arith, lt, number))

  pub live_kept : (table : LiveTable) (count : ℕ) → table.homes ≡ homes → count ≡ length f.regs → AreTouches blocks count table.touches → ((r : ℕ) → r < count → IsLiveRow blocks r (has table.rows r)) → IsLiveTable (bare f) table
  live_kept table count same regs touches exact b p r i e lt =
      let below : r < count = omega (arith, lt, regs) in
      let told = ap (λ z. at_home (live_by table.touches table.rows) false (slice_get z b) p r) same ∙ ap (λ z. at_home (live_by table.touches table.rows) false z p r) (home_at b p i e) in
      let is = live_table_is (bare f) (bare_is_bare f) r table.touches table.rows count (subst (λ z. AreTouches z count table.touches) same_blocks touches) below (subst (λ z. IsLiveRow z r (has table.rows r)) same_blocks (exact r below)) b p i e in
      (λ h. is.0 (sym told ∙ h), λ h. told ∙ is.1 h)

  pub starts_kept : (table : LiveTable) (count : ℕ) → table.homes ≡ homes → count ≡ length f.regs → ((r : ℕ) → r < count → IsLiveRow blocks r (has table.rows r)) → AreStarts (bare f) table
  starts_kept table count same regs exact b r lt =
      let below : r < count = omega (arith, lt, regs) in
      let row = exact r below in
      let is = starts_are (bare f) (bare_is_bare f) r (has table.rows r) (subst (λ z. IsLiveRow z r (has table.rows r)) same_blocks row) b in
      ⊎_elim
      (λ inside.
      let told = ap (λ z. is_among (row_at table.rows (slice_get z b)) r) same ∙ ap (λ z. is_among (row_at table.rows z) r) (are b inside) in
      (λ h. is.0 (sym told ∙ h), λ h. told ∙ is.1 h))
      (λ past.
      let told = ap (λ z. is_among (row_at table.rows (slice_get z b)) r) same ∙ ap (λ z. is_among (row_at table.rows z) r) (get_none homes b (omega (arith, past, size))) in
      (λ h. let clash : false ≡ true = sym told ∙ h in absurd (cc), λ h. let inside = row.0 b (is.1 h) in absurd (omega (arith, inside, past))))
      (below_or_not b (length blocks))

  pub lent_kept : (table : BorrowTable) (regs : ℕ) → table.homes ≡ homes → regs ≡ length f.regs → AreMarked blocks f.params (known_count blocks f.params regs) table → IsBorrowTable (bare f) table
  lent_kept table regs same number_of_regs marked b p r i e lt =
      let says = borrowed_by table in
      let told = ap (λ z. at_home says true (slice_get z b) p r) same ∙ ap (λ z. at_home says true z p r) (home_at b p i e) in
      let is = marked_is (bare f) (bare_is_bare f) table (subst (λ z. AreMarked (map steps_of (bare f).blocks) f.params (known_count (map steps_of (bare f).blocks) f.params z) table) number_of_regs (subst (λ z. AreMarked z f.params (known_count z f.params regs) table) same_blocks marked)) b p r i e lt in
      (λ h. is.0 (sym told ∙ h), λ h. told ∙ is.1 h)
