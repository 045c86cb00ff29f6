-- What a line's column makes of the open levels.
use Rattle.std.proofs.Common.{◌≡◌, ℕ, zero, suc, ◌-◌, ◌<◌, ◌≤◌, Bool, true, false, List, [], ◌∷◌, ◌++◌, map, length, take, reverse, replicate, Ok, Err, refl, ap, sym, ◌∙◌, arith, append_assoc, length-take, ◌⊎◌, inl, inr, lt-ltb, ltb-false, eq-eqb, le-leb}
use Rattle.std.specs.Prelude.{if◌then◌else◌, ◌==◌, ◌&&◌, ◌≢◌, not, nat_lt, nat_le}
use Rattle.std.proofs.lemmas.Bool.{le-ltb, lt-leb, ne_eqb}
use Rattle.std.proofs.lemmas.List.{length-reverse, reverse-append, take_all}
use Rattle.py_syntax.specs.declared.token.Span.{Span}
use Rattle.py_syntax.specs.declared.token.Token.{Token}
use Rattle.py_syntax.specs.declared.token.TokenKind.TheVariants.{Indent, Dedent}
use Rattle.py_lexer.specs.declared.fault.LexKind.{LexKind}
use Rattle.py_lexer.specs.declared.fault.LexKind.TheVariants as fault
use Rattle.py_lexer.specs.declared.indent.Column.{Column}
use Rattle.py_lexer.specs.Indents.{innermost, kept, agree, moved, moved_to, Moved}
use Rattle.py_lexer.specs.Remaining.{behind, dedent}
use Rattle.py_lexer.specs.Tokens.{Item, token, after_move}
use Rattle.py_lexer.proofs.RemainingLemmas.{behind_fault, behind_push}

not_right : (b : Bool) (at level : Column) (levels : List Column) → nat_lt at.wide level.wide ≡ b → (innermost (kept at levels)).wide ≤ at.wide → (innermost (if b then kept at levels else level ∷ levels)).wide ≤ at.wide
not_right true at level levels is h = h
not_right false at level levels is h = omega (arith, ltb-false at.wide level.wide is)

-- no level that is kept is to the right of the column
pub kept_left : (at : Column) (levels : List Column) → (innermost (kept at levels)).wide ≤ at.wide
kept_left at [] = omega arith
kept_left at (level ∷ levels) = not_right _ at level levels refl (kept_left at levels)

-- the four tests of a move, in their order, and what it gives
judged : (unindented agrees same deep : Bool) → Column → List Column → ℕ → Moved
judged unindented agrees same deep at levels closed =
    if unindented then Err fault.BadIndent
    else (if not agrees then Err fault.Tab
    else (if same then Ok (replicate closed Dedent, levels)
    else (if deep then Err fault.TooDeep else Ok (Indent ∷ [], at ∷ levels))))

-- of all levels, outermost first, a column keeps so many and closes the others; the innermost that is left stands at a level
pub record Leaves (at level : Column) (all : List Column) (count closed : ℕ) : Type 0 where
  pub is_kept : kept at (reverse all) ≡ reverse (take count all)
  pub within : count ≤ length all
  pub is_closed : closed ≡ length all - count
  pub is_level : level ≡ innermost (reverse (take count all))

pub leaves : (at level : Column) (all seen seen2 : List Column) (count len : ℕ) → seen ≡ all → seen2 ≡ all → len ≡ length all → kept at (reverse seen) ≡ reverse (take count seen) → count ≤ length seen → level ≡ innermost (reverse (take count seen2)) → Leaves at level all count (len - count)
leaves at level all seen seen2 count len same same2 is_len is_kept within is_level = record {
  is_kept = rw same at is_kept;
  within = rw same at within;
  is_closed = ap (λ n. n - count) is_len;
  is_level = is_level ∙ ap (λ ls. innermost (reverse (take count ls))) same2;
}

module _ (at level : Column) (all : List Column) (count closed : ℕ) (left : Leaves at level all count closed) where
  length-levels : length (reverse (take count all)) ≡ count
  length-levels = let b = length-reverse (take count all) in let c = length-take count all in omega arith

  by_tests : moved at (reverse all) ≡ judged (nat_lt 0 closed && nat_lt level.wide at.wide) (agree at level) (at.wide == level.wide) (nat_le 100 count) at (reverse (take count all)) closed
  unfolding judged
  by_tests =
      ap (λ ls. moved_to at ls (length (reverse all) - length ls)) left.is_kept
      ∙ ap (moved_to at (reverse (take count all))) (let a = length-reverse all in let b = length-levels in omega arith)
      ∙ (λ i. judged (nat_lt 0 closed && nat_lt (sym left.is_level i).wide at.wide) (agree at (sym left.is_level i)) (at.wide == (sym left.is_level i).wide) (nat_le 100 (length-levels i)) at (reverse (take count all)) closed)

  -- the column does not stand to the right of the level that is left after some are closed
  not_unindented : (0 < closed × at.wide ≤ level.wide) ⊎ (closed ≤ 0) → (nat_lt 0 closed && nat_lt level.wide at.wide) ≡ false
  not_unindented (inl h) = rw (lt-ltb 0 closed h.0) (le-ltb level.wide at.wide h.1)
  not_unindented (inr h) = rw (le-ltb 0 closed h) refl

  -- a column that opens a level closes none
  none_closed : (0 < closed × at.wide ≤ level.wide) ⊎ (closed ≤ 0) → at.wide ≢ level.wide → count ≡ length all
  none_closed (inl h) other =
      let no_right = kept_left at (reverse all) in
      let same = ap (λ ls. (innermost ls).wide) left.is_kept in
      let is = ap (λ l. l.wide) left.is_level in
      absurd (omega arith)
  none_closed (inr h) other = omega arith

  pub unindented : 0 < closed → level.wide < at.wide → moved at (reverse all) ≡ Err fault.BadIndent
  unfolding judged
  unindented some right =
      by_tests ∙ (λ i. judged (lt-ltb 0 closed some i && lt-ltb level.wide at.wide right i) (agree at level) (at.wide == level.wide) (nat_le 100 count) at (reverse (take count all)) closed)

  pub tabbed : (0 < closed × at.wide ≤ level.wide) ⊎ (closed ≤ 0) → agree at level ≡ false → moved at (reverse all) ≡ Err fault.Tab
  unfolding judged
  tabbed inward differs =
      by_tests ∙ (λ i. judged (not_unindented inward i) (differs i) (at.wide == level.wide) (nat_le 100 count) at (reverse (take count all)) closed)

  pub stays : (0 < closed × at.wide ≤ level.wide) ⊎ (closed ≤ 0) → agree at level ≡ true → at.wide ≡ level.wide → moved at (reverse all) ≡ Ok (replicate closed Dedent, reverse (take count all))
  unfolding judged
  stays inward alike same =
      by_tests ∙ (λ i. judged (not_unindented inward i) (alike i) (eq-eqb at.wide level.wide same i) (nat_le 100 count) at (reverse (take count all)) closed)

  pub too_deep : (0 < closed × at.wide ≤ level.wide) ⊎ (closed ≤ 0) → agree at level ≡ true → at.wide ≢ level.wide → 100 ≤ count → moved at (reverse all) ≡ Err fault.TooDeep
  unfolding judged
  too_deep inward alike other deep =
      by_tests ∙ (λ i. judged (not_unindented inward i) (alike i) (ne_eqb at.wide level.wide other i) (le-leb 100 count deep i) at (reverse (take count all)) closed)

  pub deeper : (0 < closed × at.wide ≤ level.wide) ⊎ (closed ≤ 0) → agree at level ≡ true → at.wide ≢ level.wide → count < 100 → moved at (reverse all) ≡ Ok (Indent ∷ [], at ∷ reverse all)
  unfolding judged
  deeper inward alike other few =
      by_tests
      ∙ (λ i. judged (not_unindented inward i) (alike i) (ne_eqb at.wide level.wide other i) (lt-leb 100 count few i) at (reverse (take count all)) closed)
      ∙ ap (λ ls. Ok (Indent ∷ [], at ∷ reverse ls)) (take_all count all (let n = none_closed inward other in omega arith))

-- a fault in the levels of a line
pub move_fault : (ts : List Token) (line : ℕ) (place : Span) (m : Moved) (kind : LexKind) → m ≡ Err kind → (items : List Item) (more : List Column → List Item) → behind ts (after_move line place m items more) ≡ Err (line, kind)
move_fault ts line place m kind is items more = ap (λ x. behind ts (after_move line place x items more)) is ∙ behind_fault ts _ _

pub map-replicate : (n : ℕ) (place : Span) → map (token place) (replicate n Dedent) ≡ replicate n (dedent place)
map-replicate zero place = refl
map-replicate (suc n) place = ap (λ l. dedent place ∷ l) (map-replicate n place)

-- levels that close
pub move_closes : (ts ts2 : List Token) (line : ℕ) (place : Span) (m : Moved) (closed : ℕ) (levels levels2 : List Column) → m ≡ Ok (replicate closed Dedent, reverse levels) → levels2 ≡ levels → ((items : List Item) → behind ts (replicate closed (dedent place) ++ items) ≡ behind ts2 items) → (items : List Item) (more : List Column → List Item) →
    behind ts (after_move line place m items more) ≡ behind ts2 (items ++ more (reverse levels2))
move_closes ts ts2 line place m closed levels levels2 is same closes items more =
    ap (λ x. behind ts (after_move line place x items more)) is
    ∙ ap (λ l. behind ts (l ++ items ++ more (reverse levels))) (map-replicate closed place)
    ∙ ap (behind ts) (append_assoc (replicate closed (dedent place)) items (more (reverse levels)))
    ∙ closes (items ++ more (reverse levels))
    ∙ ap (λ ls. behind ts2 (items ++ more (reverse ls))) (sym same)

-- a level that opens
pub move_opens : (ts ts2 : List Token) (line : ℕ) (place : Span) (m : Moved) (at : Column) (levels levels2 : List Column) → m ≡ Ok (Indent ∷ [], at ∷ reverse levels) → levels2 ≡ levels ++ at ∷ [] → ts2 ≡ ts ++ record { kind = Indent; span = place } ∷ [] → (items : List Item) (more : List Column → List Item) →
    behind ts (after_move line place m items more) ≡ behind ts2 (items ++ more (reverse levels2))
move_opens ts ts2 line place m at levels levels2 is pushed grown items more =
    ap (λ x. behind ts (after_move line place x items more)) is
    ∙ sym (behind_push ts _ _)
    ∙ ap (λ l. behind l (items ++ more (at ∷ reverse levels))) (sym grown)
    ∙ ap (λ ls. behind ts2 (items ++ more ls)) (sym (reverse-append levels (at ∷ [])) ∙ ap reverse (sym pushed))
