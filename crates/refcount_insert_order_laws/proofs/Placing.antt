-- A function with its counts is placed, by the shares at its lines.
use Rattle.std.proofs.Common.{◌≡◌, refl, sym, ◌∙◌, ap, subst, ℕ, zero, suc, ◌+◌, ◌-◌, ◌≤◌, ◌<◌, arith, true, cond, List, [], ◌∷◌, length, Option, Some, None, false}
use Rattle.std.specs.Prelude.{slice_get}
use Rattle.std.specs.Option.{option_and_then}
use Rattle.c_core.specs.declared.code.Line.{Line}
use Rattle.c_core.specs.declared.code.CFunc.{CFunc}
use Rattle.c_core.specs.Functions.{label_places}
use Rattle.ir_core.specs.declared.code.Block.{Block}
use Rattle.ir_core.specs.declared.code.Func.{Func}
use Rattle.ir_core.specs.declared.code.Program.{Program}
use Rattle.ir_core.specs.Lower.{lines_from, name_in, lower}
use Rattle.ir_core.specs.Shape.{Shape}
use Rattle.ir_core.proofs.LowerLemmas.{place_of, label_at}
use Rattle.c_core_ownership_laws.specs.Shares.{Shares, Within}
use Rattle.c_core_ownership_laws.specs.Order.{Table, Entered, labels_of, IsPlaced}
use Rattle.c_core_ownership_laws.proofs.Weaken.{within_self}
use Rattle.refcount_insert_rule.specs.Counted.{IsCountedFunc}
use Rattle.refcount_insert_order_laws.proofs.Equations.{at, not_owned_first}
use Rattle.refcount_insert_order_laws.proofs.MetBlocks.{marks}
use Rattle.refcount_insert_order_laws.proofs.Trails.{at_place, lead_at, line_map}
use Rattle.refcount_insert_order_laws.proofs.Bodies.{text_of}
use Rattle.refcount_insert_order_laws.proofs.Ends.{Starts, way, AreStarts}
use Rattle.refcount_insert_order_laws.proofs.Blocks.{Blocks}
use Rattle.refcount_insert_order_laws.proofs.Starts.{if_met, starts, all_size, Begun, start_at, number_within, first_start}
use Rattle.refcount_insert_order_laws.proofs.Functions.{Has, all_blocks}
use Rattle.refcount_insert_order_laws.proofs.Labels.{at_drop}
use Rattle.refcount_insert_order_laws.proofs.OldText.{has_block, block_facts, no_way_back}
use Rattle.refcount_insert_order_laws.proofs.NewText.{alike}
use Rattle.refcount_insert_rule.specs.Counted.{IsCountedProgram}

at_within : (ss : List (Option Shares)) (i : ℕ) (σ : Shares) → at_place ss i ≡ Some σ → i < length ss
at_within [] i σ e = let f : None ≡ Some σ = e in absurd (cc)
at_within (s ∷ ss) zero σ e = omega arith
at_within (s ∷ ss) (suc i) σ e = omega (arith, at_within ss i σ e)

get_there : (bs : List Block) (j : ℕ) → j < length bs → (x : Block) × (slice_get bs j ≡ Some x)
get_there [] j lt = absurd (omega (arith, lt))
get_there (x ∷ bs) zero lt = (x, refl)
get_there (x ∷ bs) (suc j) lt = get_there bs j (omega (arith, lt))

module _ (p q : Program) (shape : Shape p) (counted : IsCountedProgram p q) (n : ℕ) (f g : Func) (is_old : slice_get p.funcs n ≡ Some f) (c : IsCountedFunc f g) where
  abbrev lines : List Line
  lines = lines_from q 0 g.blocks

  abbrev text : CFunc
  text = text_of f (name_in q n g) (lines_from q 0 g.blocks)

  abbrev pub begun : List (Option Shares)
  begun = starts f c.tables c.number c.first c.at_start (marks f) 0 0 f.blocks g.blocks c.blocks

  abbrev pub start : ℕ → Option Shares
  start i = at_place (starts f c.tables c.number c.first c.at_start (marks f) 0 0 f.blocks g.blocks c.blocks) i

  begun_at : (b : ℕ) (k : Block) → slice_get f.blocks b ≡ Some k → Begun f c.tables c.number c.first c.at_start (marks f) b b 0 begun
  begun_at b k is =
      let z : 0 + b ≡ b = omega arith in
      subst (λ i. Begun f c.tables c.number c.first c.at_start (marks f) b i 0 begun) z (start_at f c.tables c.number c.first c.at_start (marks f) 0 0 f.blocks g.blocks c.blocks b k is)

  met : (b : ℕ) (σ : Shares) → (marks f).marked b ≡ true → if_met f c.tables c.number c.first c.at_start (marks f) b σ ≡ Some σ
  met b σ marked = ap (λ d. cond d (Some σ) None) marked

  pub known : AreStarts f c.tables c.number c.first c.at_start start (marks f)
  known =
      record {
        block = λ b k is marked higher.
            let s = begun_at b k is in
            let number : c.number b ≡ s.place = s.is_number ∙ omega arith in
            (omega (arith, s.low, higher, s.high), ap start number ∙ (s.block ∙ met b (at f c.tables b 0) marked));
        detour = λ b k is marked higher n low lt.
            let s = begun_at b k is in
            let same : n ≡ n - 0 = omega arith in
            (omega (arith, s.low, higher, low), ap start same ∙ (s.detour n low lt ∙ met b (way f c.tables c.at_start b n) marked));
        wants = λ b k is r. (begun_at b k is).wants r;
      }

  -- the shares at the places of the lines
  pub done : Blocks q (lower q) (text_of f (name_in q n g) (lines_from q 0 g.blocks)) start f c.tables c.number 0 g.blocks begun (Has p q f c.tables c.number c.first c.at_start (lower q) (lower p) (name_in q n g) (lines_from q 0 g.blocks) (alike p q counted) start (marks f) known 0 f.blocks)
  done =
      all_blocks p q f c.tables c.number c.first c.at_start (lower q) (lower p) (name_in q n g) (lines_from q 0 g.blocks) (alike p q counted) start (marks f) known c.begins (block_facts p shape n f is_old (name_in q n g) (lines_from q 0 g.blocks)) 0 0 f.blocks g.blocks c.blocks
      (λ j x e. let z : 0 + j ≡ j = omega arith in ap (slice_get f.blocks) z ∙ e)

  -- a block to which no path leads has no shares where it begins
  pub unmet_start : (b : ℕ) (k : Block) → slice_get f.blocks b ≡ Some k → (marks f).marked b ≡ false → (x : Block) × (slice_get g.blocks (c.number b) ≡ Some x) × (at_place done.shares (place_of q 0 g.blocks (c.number b)) ≡ None)
  unmet_start b k is off =
      let s = begun_at b k is in
      let z : 0 + b ≡ b = omega arith in
      let number : c.number b ≡ s.place = s.is_number ∙ omega arith in
      let within : c.number b < 0 + length g.blocks = subst (λ i. c.number i < 0 + length g.blocks) z (number_within f c.tables c.number c.first c.at_start (marks f) 0 0 f.blocks g.blocks c.blocks b k is) in
      let x = get_there g.blocks (c.number b) (omega (arith, within)) in
      let none : start (c.number b) ≡ None = ap start number ∙ (s.block ∙ ap (λ d. cond d (Some (at f c.tables b 0)) None) off) in
      (x.0, x.1, at_drop done.shares (place_of q 0 g.blocks (c.number b)) ∙ (done.places (c.number b) x.0 x.1 ∙ none))

  -- a table that has them is one by which the function is placed
  module _ (t : Table) (tie : (place : ℕ) → t n place ≡ at_place done.shares place) (there : slice_get (lower q).funcs n ≡ Some text) where
    enters : (i : ℕ) (σ : Shares) → Starts start i σ → Entered (labels_of (lower q) t) n i σ
    enters i σ e =
        let x = get_there g.blocks (suc i) (omega (arith, at_within begun (suc i) σ e, all_size f c.tables c.number c.first c.at_start (marks f) 0 0 f.blocks g.blocks c.blocks)) in
        let place : ℕ = place_of q 0 g.blocks (suc i) in
        ap (λ o. option_and_then (t n) (option_and_then (λ (k : CFunc). slice_get (label_places k.lines) i) o)) there
        ∙ (ap (option_and_then (t n)) (label_at q g.blocks i x.0 x.1)
        ∙ (tie place ∙ (at_drop done.shares place ∙ (done.places (suc i) x.0 x.1 ∙ e))))

    pub placed : IsPlaced (lower q) t n text
    placed =
        let block = has_block p shape n f is_old in
        let first = first_start f c.tables c.number c.first c.at_start (marks f) 0 f.blocks g.blocks c.blocks c.begins block.0 block.1 in
        record {
          entry = at f c.tables 0 0;
          is_entry = λ r lt. not_owned_first f c.tables r lt block.0 block.1 (no_way_back p shape n f is_old);
          is_filled = λ r lt. refl;
          begins = tie 0 ∙ (at_drop done.shares 0 ∙ (done.places 0 first.1 first.2 ∙ (first.0 ∙ ap (λ d. cond d (Some (at f c.tables 0 0)) None) (marks f).first)));
          line = λ place l σ e is_line.
              line_map (lower q) text (Starts start) (Entered (labels_of (lower q) t) n) enters σ (λ τ. at_place done.shares (suc place) ≡ Some τ) (λ τ. (ρ : Shares) × (t n (place + 1) ≡ Some ρ) × Within τ ρ)
              (λ τ later. let z : place + 1 ≡ suc place = omega arith in (τ, ap (t n) z ∙ (tie (suc place) ∙ later), within_self τ))
              l (lead_at (lower q) text (Starts start) lines done.shares done.leads place l σ is_line (sym (tie place) ∙ e));
        }
