-- The cells that are there, by their numbers.
use Rattle.std.proofs.Common.{◌≡◌, refl, sym, ap, ◌∙◌, ℕ, suc, ◌+◌, ◌<◌, arith, List, [], ◌∷◌, ◌++◌, append_assoc, length, get_or, drop, Option, Some, None}
use Rattle.std.specs.Option.{option_map}
use Rattle.std.specs.Prelude.{map, option_to_list}
use Rattle.std.proofs.lemmas.List.{drop_more}
use Rattle.c_core.specs.declared.code.CClass.{CClass}
use Rattle.c_core.specs.Cells.{Cells, content_at, count_at}
use Rattle.c_core.specs.Machine.{Content}
use Rattle.slot_arena.specs.declared.key.Key.{Key}
use Rattle.cell_heap.specs.Contents.{number_of}
use Rattle.cell_heap.specs.Numbers.{numbers_from, numbers_of}
use Rattle.c_runner.specs.declared.report.LiveCell.{LiveCell}
use Rattle.c_runner.specs.Live.{live_at}
use Rattle.c_runner.specs.Report.{kind_name, live_cells}

module _ (classes : List CClass) where
  -- how the cells of numbers stand in a report
  abbrev pub live_of : Cells Content → List ℕ → List LiveCell
  live_of cells [] = []
  live_of cells (c ∷ cs) = option_to_list (live_at classes cells c) ++ live_of cells cs

  -- how a cell of this content and count stands there
  abbrev live_with : Option Content → ℕ → Option LiveCell
  live_with content count = option_map (λ held. record { kind = kind_name classes held; count = count }) content

  later : (c k : ℕ) → (c + 1) + k ≡ c + suc k
  later c k = omega arith

  -- some of the cells, the first of which has this number among all
  all_from : (all cells : Cells Content) (c : ℕ) → ((k : ℕ) → content_at all (c + k) ≡ content_at cells k) → ((k : ℕ) → count_at all (c + k) ≡ count_at cells k) → live_of all (numbers_from c cells) ≡ live_cells classes cells
  all_from all [] c contents counts = refl
  all_from all (None ∷ cells) c contents counts =
      all_from all cells (c + 1) (λ k. ap (content_at all) (later c k) ∙ contents (suc k)) (λ k. ap (count_at all) (later c k) ∙ counts (suc k))
  all_from all (Some cell ∷ cells) c contents counts =
      let here : c ≡ c + 0 = omega arith in
      ap (λ o. option_to_list (live_with o (count_at all c)) ++ live_of all (numbers_from (c + 1) cells)) (ap (content_at all) here ∙ contents 0)
      ∙ ap (λ n. option_to_list (live_with (Some cell.content) n) ++ live_of all (numbers_from (c + 1) cells)) (ap (count_at all) here ∙ counts 0)
      ∙ ap (λ t. record { kind = kind_name classes cell.content; count = cell.count } ∷ t) (all_from all cells (c + 1) (λ k. ap (content_at all) (later c k) ∙ contents (suc k)) (λ k. ap (count_at all) (later c k) ∙ counts (suc k)))

  pub all_live : (cells : Cells Content) → live_of cells (numbers_of cells) ≡ live_cells classes cells
  all_live cells = all_from cells cells 0 (λ k. ap (content_at cells) (from_zero k)) (λ k. ap (count_at cells) (from_zero k))
    where
      from_zero : (k : ℕ) → 0 + k ≡ k
      from_zero k = omega arith

  -- one key more
  pub one_more : (cells : Cells Content) (keys : List Key) (i : ℕ) (d : Key) (o : Option LiveCell) (live all : List LiveCell) → i < length keys → o ≡ live_at classes cells (number_of (get_or keys i d)) → live ++ live_of cells (map number_of (drop i keys)) ≡ all → (live ++ option_to_list o) ++ live_of cells (map number_of (drop (i + 1) keys)) ≡ all
  one_more cells keys i d o live all lt found so_far =
      append_assoc live (option_to_list o) (live_of cells (map number_of (drop (i + 1) keys)))
      ∙ ap (λ p. live ++ (option_to_list p ++ live_of cells (map number_of (drop (i + 1) keys)))) found
      ∙ ap (λ q. live ++ live_of cells (map number_of q)) (sym (drop_more keys i d lt))
      ∙ so_far
