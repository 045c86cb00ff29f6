-- What is known on lines.
use Rattle.std.proofs.Common.{◌≡◌, ℕ, zero, suc, ◌<◌, ◌≤◌, ◌==◌, Bool, true, false, List, [], ◌∷◌, ◌++◌, length, slice_get, Option, Some, None, is_some, refl, sym, ap, ap₂, subst, ◌∙◌, if◌then◌else◌, nat_le, nat_lt, get_or, arith, length-append}
use Rattle.std.proofs.lemmas.Option.{slice_get_within, slice_get-get_or}
use Rattle.std.proofs.lemmas.Bool.{leb-true, le-leb, eqb-true, eq-eqb, ltb-true, ltb-false}
use Rattle.std.specs.Option.{option_or, option_and_then}
use Rattle.std.specs.Str.{bytes_eq}
use Rattle.indexmap.specs.IndexMap.{get}
use Rattle.class_layout_members.specs.Clashes.{Definition}
use Rattle.class_layout_members.specs.Views.{definition}
use Rattle.py_check_overrides.specs.declared.lines.Said.{Said}
use Rattle.py_check_overrides.specs.declared.lines.Line.{Line}
use Rattle.py_check_overrides.specs.declared.lines.Lines.{Lines}
use Rattle.py_check_overrides.specs.Lines.{said_of, up_to, behind, line_at, above, here, known_by, known, known_above, is_up_to, is_by, IsLine, AreLines, Ends, GoesOn, IsGone}

pub or_none : {A : Type 0} (o : Option A) → o ≡ option_or o None
or_none None = refl
or_none (Some a) = refl

module _ (lines : Lines) (name : List ℕ) (falls : (c a : ℕ) → above lines c ≡ Some a → a < c) where
  levels_alike : (n m c : ℕ) → c ≤ n → c ≤ m → known_by lines name n c ≡ known_by lines name m c
  levels_alike zero zero c k l = refl
  levels_alike zero (suc m) c k l = or_none (here lines name c) ∙ ap (option_or (here lines name c)) (sym (nothing (above lines c) refl))
    where
      nothing : (o : Option ℕ) → above lines c ≡ o → behind (known_by lines name m) o ≡ None
      nothing None e = refl
      nothing (Some a) e = let less = falls c a e in absurd (omega (arith, less, k))
  levels_alike (suc n) zero c k l = ap (option_or (here lines name c)) (nothing (above lines c) refl) ∙ sym (or_none (here lines name c))
    where
      nothing : (o : Option ℕ) → above lines c ≡ o → behind (known_by lines name n) o ≡ None
      nothing None e = refl
      nothing (Some a) e = let less = falls c a e in absurd (omega (arith, less, l))
  levels_alike (suc n) (suc m) c k l = ap (option_or (here lines name c)) (below (above lines c) refl (λ a x y. levels_alike n m a x y))
    where
      below : (o : Option ℕ) → above lines c ≡ o → ((a : ℕ) → a ≤ n → a ≤ m → known_by lines name n a ≡ known_by lines name m a) → behind (known_by lines name n) o ≡ behind (known_by lines name m) o
      below None e rec = refl
      below (Some a) e rec = let less = falls c a e in rec a (omega (arith, less, k)) (omega (arith, less, l))

  pub known_step : (c : ℕ) → known lines c name ≡ option_or (here lines name c) (known_above lines (above lines c) name)
  known_step zero = or_none (here lines name zero) ∙ ap (option_or (here lines name zero)) (sym (nothing (above lines zero) refl))
    where
      nothing : (o : Option ℕ) → above lines zero ≡ o → known_above lines o name ≡ None
      nothing None e = refl
      nothing (Some a) e = let less = falls zero a e in absurd (omega (arith, less))
  known_step (suc c) = ap (option_or (here lines name (suc c))) (below (above lines (suc c)) refl)
    where
      below : (o : Option ℕ) → above lines (suc c) ≡ o → behind (known_by lines name c) o ≡ known_above lines o name
      below None e = refl
      below (Some a) e = let less = falls (suc c) a e in levels_alike c a a (omega (arith, less)) (omega arith)

-- ---- rows that get one more at their ends

pub at_front : {A : Type 0} (xs ys : List A) (i : ℕ) → i < length xs → slice_get (xs ++ ys) i ≡ slice_get xs i
at_front [] ys i l = absurd (omega (arith, l))
at_front (x ∷ xs) ys zero l = refl
at_front (x ∷ xs) ys (suc i) l = at_front xs ys i (omega (arith, l))

pub at_end : {A : Type 0} (xs : List A) (y : A) → slice_get (xs ++ y ∷ []) (length xs) ≡ Some y
at_end [] y = refl
at_end (x ∷ xs) y = at_end xs y

pub past : {A : Type 0} (xs : List A) (y : A) (i : ℕ) → length xs < i → slice_get (xs ++ y ∷ []) i ≡ None
past [] y zero l = absurd (omega (arith, l))
past [] y (suc i) l = refl
past (x ∷ xs) y zero l = absurd (omega (arith, l))
past (x ∷ xs) y (suc i) l = past xs y i (omega (arith, l))

within : {A : Type 0} (xs : List A) (i : ℕ) (a : A) → slice_get xs i ≡ Some a → i < length xs
within xs i a e = slice_get_within xs i a e

-- ---- lines on which what is known is the same

module _ (lines lines2 : Lines) (name : List ℕ) (n : ℕ) (falls : (c a : ℕ) → above lines c ≡ Some a → a < c) (heres : (c : ℕ) → c < n → here lines2 name c ≡ here lines name c) (aboves : (c : ℕ) → c < n → above lines2 c ≡ above lines c) where
  levels_kept : (levels c : ℕ) → c < n → known_by lines2 name levels c ≡ known_by lines name levels c
  levels_kept zero c l = heres c l
  levels_kept (suc levels) c l = ap₂ option_or (heres c l) (ap (behind (known_by lines2 name levels)) (aboves c l) ∙ by (above lines c) refl (λ a x. levels_kept levels a x))
    where
      by : (o : Option ℕ) → above lines c ≡ o → ((a : ℕ) → a < n → known_by lines2 name levels a ≡ known_by lines name levels a) → behind (known_by lines2 name levels) o ≡ behind (known_by lines name levels) o
      by None e rec = refl
      by (Some a) e rec = let less = falls c a e in rec a (omega (arith, less, l))

  pub known_kept : (c : ℕ) → c < n → known lines2 c name ≡ known lines c name
  known_kept c l = levels_kept c c l

-- ---- what is said

said_none : (c : ℕ) (o : Option Said) → is_up_to c o ≡ true → up_to c o ≡ said_of o
said_none c None h = refl
said_none c (Some s) h = ap (λ b. if b then Some (definition s.definition) else None) h

more_up_to : (c d : ℕ) (o : Option Said) → c ≤ d → is_up_to c o ≡ true → is_up_to d o ≡ true
more_up_to c d None l h = refl
more_up_to c d (Some s) l h = let k = leb-true s.class c h in le-leb s.class d (omega (arith, k, l))

by_up_to : (c : ℕ) (o : Option Said) → is_by c o ≡ true → is_up_to c o ≡ true
by_up_to c None h = refl
by_up_to c (Some s) h = let k = eqb-true s.class c h in le-leb s.class c (omega (arith, k))

by_later : (c n : ℕ) (o : Option Said) → c < n → is_by n o ≡ true → up_to c o ≡ None
by_later c n None l h = refl
by_later c n (Some s) l h = by (nat_le s.class c) refl
  where
    by : (b : Bool) → nat_le s.class c ≡ b → (if b then Some (definition s.definition) else None) ≡ None
    by true e = let k = leb-true s.class c e in let i = eqb-true s.class n h in absurd (omega (arith, k, i, l))
    by false e = refl

-- what a line has that goes on, up to a class before and up to the new one
before_new : (c n : ℕ) (o new : Option Said) → c < n → is_by n new ≡ true → up_to c (option_or o new) ≡ up_to c o
before_new c n None new l h = by_later c n new l h
before_new c n (Some s) new l h = refl

at_new : (n : ℕ) (o new : Option Said) → is_up_to n o ≡ true → is_by n new ≡ true → up_to n (option_or o new) ≡ option_or (said_of o) (said_of new)
at_new n None new h k = said_none n new (by_up_to n new k)
at_new n (Some s) new h k = said_none n (Some s) h

both_up_to : (n : ℕ) (o new : Option Said) → is_up_to n o ≡ true → is_up_to n new ≡ true → is_up_to n (option_or o new) ≡ true
both_up_to n None new h k = k
both_up_to n (Some s) new h k = h

weave : (s n a k : Option Definition) → option_or s a ≡ k → (is_some n ≡ true → k ≡ None) → option_or (option_or s n) a ≡ option_or k n
weave None None a k e f = e ∙ or_none k
weave (Some d) None a k e f = e ∙ or_none k
weave None (Some d) a k e f = ap (λ z. option_or z (Some d)) (sym (f refl))
weave (Some c) (Some d) a k e f = (let no : Some c ≡ None = e ∙ f refl in absurd (cc))

-- ---- a line begins

module _ (lines lines2 : Lines) (o : Option ℕ) (line : Line) (a : AreLines lines) (there : (b : ℕ) → o ≡ Some b → b < length lines.line_of) (put : lines2.lines.items ≡ lines.lines.items ++ line ∷ []) (same : lines2.line_of ≡ lines.line_of) (last : line.last ≡ length lines.line_of) (hangs : line.above ≡ o) (empty : (q : List ℕ) → get bytes_eq line.said q ≡ None) where
  same_line : (c : ℕ) → line_at lines2 c ≡ line_at lines c
  same_line c = ap (option_and_then (λ l. slice_get lines2.lines.items l)) (ap (λ r. slice_get r c) same) ∙ by (slice_get lines.line_of c) refl
    where
      by : (p : Option ℕ) → slice_get lines.line_of c ≡ p → option_and_then (λ l. slice_get lines2.lines.items l) p ≡ option_and_then (λ l. slice_get lines.lines.items l) p
      by None e = refl
      by (Some l) e = ap (λ r. slice_get r l) put ∙ at_front lines.lines.items (line ∷ []) l (a.placed c l e)

  pub begun_known : (c : ℕ) (q : List ℕ) → known lines2 c q ≡ known lines c q
  begun_known c q =
      known_kept lines lines2 q (suc c) a.falls
      (λ d l. ap (option_and_then (λ (r : Line). up_to d (get bytes_eq r.said q))) (same_line d))
      (λ d l. ap (option_and_then (λ (r : Line). r.above)) (same_line d))
      c (omega arith)

  pub begun_lines : AreLines lines2
  begun_lines = record {
    each = λ l r e. by_place l r e (nat_lt l (length lines.lines.items)) refl;
    placed = λ c l e. (let before = a.placed c l (ap (λ r. slice_get r c) (sym same) ∙ e) in let long = ap length put ∙ length-append lines.lines.items (line ∷ []) in omega (arith, before, long));
    falls = λ c b e. a.falls c b (ap (option_and_then (λ (r : Line). r.above)) (sym (same_line c)) ∙ e);
  }
    where
      by_place : (l : ℕ) (r : Line) → slice_get lines2.lines.items l ≡ Some r → (b : Bool) → nat_lt l (length lines.lines.items) ≡ b → IsLine r
      by_place l r e true is q = a.each l r (sym (at_front lines.lines.items (line ∷ []) l (ltb-true l (length lines.lines.items) is)) ∙ ap (λ z. slice_get z l) (sym put) ∙ e) q
      by_place l r e false is q =
          let inside = within lines2.lines.items l r e in
          let long = ap length put ∙ length-append lines.lines.items (line ∷ []) in
          let past = ltb-false l (length lines.lines.items) is in
          let at : l ≡ length lines.lines.items = omega (arith, inside, long, past) in
          let this : Some line ≡ Some r = sym (ap (λ z. slice_get z l) put ∙ ap (slice_get (lines.lines.items ++ line ∷ [])) at ∙ at_end lines.lines.items line) ∙ e in
          let one : line ≡ r = cc in
          ap (λ (z : Line). is_up_to z.last (get bytes_eq z.said q)) (sym one) ∙ ap (is_up_to line.last) (empty q)

  pub begun : GoesOn lines2 o (length lines.lines.items)
  begun = record {
    line = line;
    there = ap (λ z. slice_get z (length lines.lines.items)) put ∙ at_end lines.lines.items line;
    last = (let many = ap length same in omega (arith, last, many));
    falls = λ b e. (let less = there b (sym hangs ∙ e) in let many = ap length same in omega (arith, less, many));
    known = λ q. ap (λ z. option_or (said_of z) (known_above lines2 line.above q)) (empty q) ∙ ap (λ z. known_above lines2 z q) hangs;
  }

-- ---- a line that ends with a class goes on below it

pub ends_go_on : (lines : Lines) (o : Option ℕ) (place : ℕ) → AreLines lines → Ends lines o place → GoesOn lines o place
ends_go_on lines o place a e =
    let at : line_at lines e.last ≡ Some e.line = ap (option_and_then (λ l. slice_get lines.lines.items l)) e.on ∙ e.there in
    record {
      line = e.line;
      there = e.there;
      last = (let less = within lines.line_of e.last place e.on in let is = e.ends in omega (arith, less, is));
      falls = λ b i. (let less = within lines.line_of e.last place e.on in let before = a.falls e.last b (ap (option_and_then (λ (r : Line). r.above)) at ∙ i) in omega (arith, less, before));
      known = λ q.
          ap (λ z. option_or z (known_above lines e.line.above q)) (sym (said_none e.last (get bytes_eq e.line.said q) (ap (λ z. is_up_to z (get bytes_eq e.line.said q)) (sym e.ends) ∙ a.each place e.line e.there q)))
          ∙ ap₂ (λ x y. option_or x (known_above lines y q)) (sym (ap (option_and_then (λ (r : Line). up_to e.last (get bytes_eq r.said q))) at)) (sym (ap (option_and_then (λ (r : Line). r.above)) at))
          ∙ sym (known_step lines q a.falls e.last)
          ∙ ap (λ z. known_above lines z q) (sym e.is);
    }

-- ---- a line goes on

pub later : (c n : ℕ) → n ≤ c → ¬ (c ≡ n) → n < c
later c n l x = omega (arith, l, x)

module _ (lines lines2 : Lines) (o : Option ℕ) (place : ℕ) (new : List ℕ → Option Said) (a : AreLines lines) (g : GoesOn lines o place) (long : length lines2.lines.items ≡ length lines.lines.items) (goes : (line gone : Line) → slice_get lines.lines.items place ≡ Some line → slice_get lines2.lines.items place ≡ Some gone → IsGone line (length lines.line_of) new gone) (others : (l : ℕ) → ¬ (l ≡ place) → slice_get lines2.lines.items l ≡ slice_get lines.lines.items l) (put : lines2.line_of ≡ lines.line_of ++ place ∷ []) (by : (q : List ℕ) → is_by (length lines.line_of) (new q) ≡ true) where
  abbrev pub n : ℕ
  n = length lines.line_of

  inside : place < length lines2.lines.items
  inside = let l = within lines.lines.items place g.line g.there in omega (arith, l, long)

  abbrev pub gone : Line
  gone = get_or lines2.lines.items place g.line

  at_place : slice_get lines2.lines.items place ≡ Some gone
  at_place = slice_get-get_or lines2.lines.items place g.line inside

  is_gone : IsGone g.line n new gone
  is_gone = goes g.line gone g.there at_place

  place_kept : (c : ℕ) → c < n → slice_get lines2.line_of c ≡ slice_get lines.line_of c
  place_kept c l = ap (λ r. slice_get r c) put ∙ at_front lines.line_of (place ∷ []) c l

  -- of a class before, what of its line is the same where it is the same of the line that goes on
  kept : {A : Type 0} (f : Line → Option A) → f gone ≡ f g.line → (c : ℕ) → c < n → option_and_then f (line_at lines2 c) ≡ option_and_then f (line_at lines c)
  kept f is c l = ap (λ p. option_and_then f (option_and_then (λ l. slice_get lines2.lines.items l) p)) (place_kept c l) ∙ by_place (slice_get lines.line_of c)
    where
      on : (m : ℕ) (b : Bool) → (m == place) ≡ b → option_and_then f (slice_get lines2.lines.items m) ≡ option_and_then f (slice_get lines.lines.items m)
      on m true e =
          let at = eqb-true m place e in
          ap (λ z. option_and_then f (slice_get lines2.lines.items z)) at ∙ ap (option_and_then f) at_place ∙ is ∙ sym (ap (option_and_then f) g.there) ∙ sym (ap (λ z. option_and_then f (slice_get lines.lines.items z)) at)
      on m false e = ap (option_and_then f) (others m (λ at. (let no : true ≡ false = sym (eq-eqb m place at) ∙ e in absurd (cc))))

      by_place : (p : Option ℕ) → option_and_then f (option_and_then (λ l. slice_get lines2.lines.items l) p) ≡ option_and_then f (option_and_then (λ l. slice_get lines.lines.items l) p)
      by_place None = refl
      by_place (Some m) = on m (m == place) refl

  here_kept : (q : List ℕ) (c : ℕ) → c < n → here lines2 q c ≡ here lines q c
  here_kept q c l = kept (λ line. up_to c (get bytes_eq line.said q)) (ap (up_to c) (is_gone.said q) ∙ before_new c n (get bytes_eq g.line.said q) (new q) l (by q)) c l

  above_kept : (c : ℕ) → c < n → above lines2 c ≡ above lines c
  above_kept c l = kept (λ line. line.above) is_gone.above c l

  pub gone_known : (c : ℕ) (q : List ℕ) → c < n → known lines2 c q ≡ known lines c q
  gone_known c q l = known_kept lines lines2 q n a.falls (here_kept q) above_kept c l

  -- the new class
  line_new : line_at lines2 n ≡ Some gone
  line_new = ap (option_and_then (λ l. slice_get lines2.lines.items l)) (ap (λ r. slice_get r n) put ∙ at_end lines.line_of place) ∙ at_place

  above_new : above lines2 n ≡ g.line.above
  above_new = ap (option_and_then (λ (line : Line). line.above)) line_new ∙ is_gone.above

  said_before : (q : List ℕ) → is_up_to n (get bytes_eq g.line.said q) ≡ true
  said_before q = more_up_to g.line.last n (get bytes_eq g.line.said q) g.last (a.each place g.line g.there q)

  here_new : (q : List ℕ) → here lines2 q n ≡ option_or (said_of (get bytes_eq g.line.said q)) (said_of (new q))
  here_new q = ap (option_and_then (λ (line : Line). up_to n (get bytes_eq line.said q))) line_new ∙ ap (up_to n) (is_gone.said q) ∙ at_new n (get bytes_eq g.line.said q) (new q) (said_before q) (by q)

  falls2 : (c b : ℕ) → above lines2 c ≡ Some b → b < c
  falls2 c b e = by_number (nat_lt c n) refl (c == n) refl
    where
      by_number : (x : Bool) → nat_lt c n ≡ x → (y : Bool) → (c == n) ≡ y → b < c
      by_number true is y at = a.falls c b (sym (above_kept c (ltb-true c n is)) ∙ e)
      by_number false is true at =
          let here = eqb-true c n at in
          let less = g.falls b (sym above_new ∙ ap (above lines2) (sym here) ∙ e) in
          omega (arith, here, less)
      by_number false is false at =
          let over = ltb-false c n is in
          let apart : ¬ (c ≡ n) = λ i. (let no : true ≡ false = sym (eq-eqb c n i) ∙ at in absurd (cc)) in
          let none : above lines2 c ≡ None =
          ap (λ p. option_and_then (λ (line : Line). line.above) (option_and_then (λ l. slice_get lines2.lines.items l) p)) (ap (λ r. slice_get r c) put ∙ past lines.line_of place c (later c n over apart)) in
          let no : None ≡ Some b = sym none ∙ e in
          absurd (cc)

  placed2 : (c l : ℕ) → slice_get lines2.line_of c ≡ Some l → l < length lines2.lines.items
  placed2 c l e = by_number (nat_lt c n) refl
    where
      by_number : (x : Bool) → nat_lt c n ≡ x → l < length lines2.lines.items
      by_number true is = let before = a.placed c l (sym (place_kept c (ltb-true c n is)) ∙ e) in omega (arith, before, long)
      by_number false is =
          let reach = within lines2.line_of c l e in
          let many = ap length put ∙ length-append lines.line_of (place ∷ []) in
          let over = ltb-false c n is in
          let at : c ≡ n = omega (arith, reach, many, over) in
          let this : Some place ≡ Some l = sym (ap (λ r. slice_get r c) put ∙ ap (slice_get (lines.line_of ++ place ∷ [])) at ∙ at_end lines.line_of place) ∙ e in
          let one : place ≡ l = cc in
          subst (λ z. z < length lines2.lines.items) one inside

  each2 : (l : ℕ) (line : Line) → slice_get lines2.lines.items l ≡ Some line → IsLine line
  each2 l line e = by_place (l == place) refl
    where
      by_place : (x : Bool) → (l == place) ≡ x → IsLine line
      by_place true is q =
          let at = eqb-true l place is in
          let this : Some gone ≡ Some line = sym at_place ∙ ap (slice_get lines2.lines.items) (sym at) ∙ e in
          let one : gone ≡ line = cc in
          ap (λ (z : Line). is_up_to z.last (get bytes_eq z.said q)) (sym one)
          ∙ ap₂ is_up_to is_gone.last (is_gone.said q)
          ∙ both_up_to n (get bytes_eq g.line.said q) (new q) (said_before q) (by_up_to n (new q) (by q))
      by_place false is q = a.each l line (sym (others l (λ at. (let no : true ≡ false = sym (eq-eqb l place at) ∙ is in absurd (cc)))) ∙ e) q

  pub gone_lines : AreLines lines2
  gone_lines = record { each = each2; placed = placed2; falls = falls2 }

  pub gone_new : (q : List ℕ) → (is_some (said_of (new q)) ≡ true → known_above lines o q ≡ None) → known lines2 n q ≡ option_or (known_above lines o q) (said_of (new q))
  gone_new q fresh =
      known_step lines2 q falls2 n
      ∙ ap₂ option_or (here_new q) (ap (λ z. known_above lines2 z q) above_new ∙ by_line g.line.above refl)
      ∙ weave (said_of (get bytes_eq g.line.said q)) (said_of (new q)) (known_above lines g.line.above q) (known_above lines o q) (g.known q) fresh
    where
      by_line : (p : Option ℕ) → g.line.above ≡ p → known_above lines2 p q ≡ known_above lines p q
      by_line None e = refl
      by_line (Some b) e = gone_known b q (g.falls b e)

pub above_alike : (q : List ℕ) (lines lines2 : Lines) → ((c : ℕ) → known lines c q ≡ known lines2 c q) → (o : Option ℕ) → known_above lines o q ≡ known_above lines2 o q
above_alike q lines lines2 h None = refl
above_alike q lines lines2 h (Some b) = h b

-- ---- up from line to line

module _ (lines : Lines) (name : List ℕ) (falls : (c a : ℕ) → above lines c ≡ Some a → a < c) (at : ℕ) (line : Line) (is : line_at lines at ≡ Some line) where
  here_is : here lines name at ≡ up_to at (get bytes_eq line.said name)
  here_is = ap (option_and_then (λ (r : Line). up_to at (get bytes_eq r.said name))) is

  pub above_is : (a : ℕ) → line.above ≡ Some a → above lines at ≡ Some a
  above_is a e = ap (option_and_then (λ (r : Line). r.above)) is ∙ e

  pub known_found : (d : Definition) → up_to at (get bytes_eq line.said name) ≡ Some d → known lines at name ≡ Some d
  known_found d e = known_step lines name falls at ∙ ap (λ o. option_or o (known_above lines (above lines at) name)) (here_is ∙ e)

  pub known_up : (a : ℕ) → up_to at (get bytes_eq line.said name) ≡ None → line.above ≡ Some a → known lines at name ≡ known lines a name
  known_up a e f = known_step lines name falls at ∙ ap₂ option_or (here_is ∙ e) (ap (λ o. known_above lines o name) (above_is a f))
