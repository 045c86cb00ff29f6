-- Bytes that do not stand in a word, and where a word ends.
use Rattle.std.proofs.Common.{◌≡◌, ◌≢◌, ◌∙◌, ℕ, ◌+◌, ◌-◌, ◌<◌, Bool, true, false, cond, List, [], ◌∷◌, ◌++◌, length, take, drop, get_or, Some, None, IsTrue, suc, refl, sym, ap, arith, append_assoc, length-append, inl, inr}
use Rattle.std.specs.Prelude.{◌==◌, ◌||◌, ◌&&◌, not, codes}
use Rattle.std.specs.List.{list_any, list_all, position_from}
use Rattle.std.specs.Str.{bytes_eq, chars, is_utf8, IsUtf8}
use Rattle.std.proofs.lemmas.List.{append_cancel_left, append_cancel_right, take_at, drop_at, take_all}
use Rattle.std.proofs.lemmas.List.Folds.{list_any-append}
use Rattle.std.proofs.lemmas.Bool.{false≢true}
use Rattle.std.proofs.lemmas.Bool.Decides.{Decides-eqb, eqb_tells}
use Rattle.std.proofs.lemmas.Grind.{common_steps}
use Rattle.std.proofs.lemmas.Slice.Eq.{bytes_eq-Decides}
use Rattle.std.proofs.lemmas.Str.{inside_one, encodes-chars, IsUtf8-from_is_utf8}
use lib.Utf8.{encodes, encode}
use Rattle.unicode_ident.specs.Ident.{is_xid_continue}
use Rattle.unicode_ident.proofs.Computing.{unicode_ident}
use Rattle.c_core.specs.Text.{indented}
use Rattle.c_core.specs.WellFormed.{is_identifier}
use Rattle.c_text.specs.Braces.{EndsItem, is_item_end}
use Rattle.c_text.specs.Words.{HasNo, EndsArgument, IsCut, bracketed}

pub or_false : (a b : Bool) → (a || b) ≡ false → (a ≡ false) × (b ≡ false)
or_false true b e = absurd (cc)
or_false false b e = (refl, e)

pub and_true : (a b : Bool) → (a && b) ≡ true → (a ≡ true) × (b ≡ true)
and_true true b e = (refl, e)
and_true false b e = absurd (cc)

-- bytes that are equal are found equal
pub differ : {xs ys : List ℕ} → xs ≡ ys → bytes_eq xs ys ≡ false → ⊥
differ {xs} {ys} e h = false≢true (sym h ∙ (bytes_eq-Decides xs ys).1 e)

same_byte : (b : ℕ) → (b == b) ≡ true
same_byte b = (Decides-eqb b b).1 refl

pub other_byte : (a b : ℕ) → a ≢ b → (a == b) ≡ false
other_byte a b h = elim (eqb_tells a b) [ inl e ↦ absurd (h e.1) | inr e ↦ e.0 ]

pub HasNo-append : (stop : ℕ) (xs ys : List ℕ) → HasNo stop xs → HasNo stop ys → HasNo stop (xs ++ ys)
HasNo-append stop xs ys p q = list_any-append (λ b. b == stop) xs ys ∙ ap (λ t. t || list_any (λ b. b == stop) ys) p ∙ q

pub HasNo-cons : (stop b : ℕ) (bs : List ℕ) → b ≢ stop → HasNo stop bs → HasNo stop (b ∷ bs)
HasNo-cons stop b bs h p = ap (λ t. t || list_any (λ x. x == stop) bs) (other_byte b stop h) ∙ p

pub HasNo-by_place : (stop : ℕ) (bs : List ℕ) → ((i : ℕ) → i < length bs → get_or bs i 0 ≢ stop) → HasNo stop bs
HasNo-by_place stop [] h = refl
HasNo-by_place stop (b ∷ bs) h =
    HasNo-cons stop b bs (h 0 (omega arith)) (HasNo-by_place stop bs (λ i l. h (suc i) (omega arith)))

-- the first place of a byte that passes a test, behind bytes that don't
first_place : (p : ℕ → Bool) (i : ℕ) (front : List ℕ) (b : ℕ) (back : List ℕ) → list_any p front ≡ false → p b ≡ true → position_from p i (front ++ b ∷ back) ≡ Some (i + length front)
first_place p i [] b back h t = ap (λ x. cond x (Some i) (position_from p (i + 1) back)) t ∙ ap Some (omega arith)
first_place p i (c ∷ front) b back h t =
    let parts = or_false (p c) _ h in
    ap (λ x. cond x (Some i) (position_from p (i + 1) (front ++ b ∷ back))) parts.0
    ∙ first_place p (i + 1) front b back parts.1 t ∙ ap Some (omega arith)

place_at : (stop i : ℕ) (front back : List ℕ) → HasNo stop front → position_from (λ b. b == stop) i (front ++ stop ∷ back) ≡ Some (i + length front)
place_at stop i front back h = first_place (λ b. b == stop) i front stop back h (same_byte stop)

no_place : (stop i : ℕ) (bs : List ℕ) → HasNo stop bs → position_from (λ b. b == stop) i bs ≡ None
no_place stop i [] h = refl
no_place stop i (b ∷ bs) h =
    let parts = or_false (b == stop) _ h in
    ap (λ t. cond t (Some i) (position_from (λ x. x == stop) (i + 1) bs)) parts.0 ∙ no_place stop (i + 1) bs parts.1

pub behind_at : (place : ℕ) (front back : List ℕ) (stop : ℕ) (bytes : List ℕ) → place ≡ length front → front ++ stop ∷ back ≡ bytes → (take place bytes ≡ front) × (take (length bytes - (place + 1)) (drop (place + 1) bytes) ≡ back)
behind_at place front back stop bytes at e =
    let whole : (front ++ stop ∷ []) ++ back ≡ bytes = append_assoc front (stop ∷ []) back ∙ e in
    let len : length (front ++ stop ∷ []) ≡ place + 1 = omega (arith, length-append front (stop ∷ [])) in
    let rest : drop (place + 1) bytes ≡ back = ap (drop (place + 1)) (sym whole) ∙ drop_at (front ++ stop ∷ []) back (place + 1) len in
    (ap (take place) (sym e) ∙ take_at front (stop ∷ back) place (sym at), ap (take (length bytes - (place + 1))) rest ∙ take_all (length bytes - (place + 1)) back (omega (arith, length-append front (stop ∷ back), ap length e)))

is_cut : (stop : ℕ) (front back bytes : List ℕ) → HasNo stop front → front ++ stop ∷ back ≡ bytes → position_from (λ b. b == stop) 0 bytes ≢ None
is_cut stop front back bytes h e p =
    let q : None ≡ Some (0 + length front) = sym p ∙ ap (position_from (λ b. b == stop) 0) (sym e) ∙ place_at stop 0 front back h in
    cc

pub comma_at : (place : ℕ) (front rest bytes : List ℕ) → HasNo 44 front → EndsArgument rest → front ++ rest ≡ bytes → position_from (λ b. b == 44) 0 bytes ≡ Some place → (take place bytes ≡ front) × (drop place bytes ≡ rest)
comma_at place front [] bytes h t e p =
    let same : front ++ [] ≡ front = grind (arith, common_steps) in
    let q : None ≡ Some place = sym (no_place 44 0 front h) ∙ ap (position_from (λ b. b == 44) 0) (sym same ∙ e) ∙ p in
    absurd (cc)
comma_at place front (b ∷ rest) bytes h t e p =
    let f : front ++ 44 ∷ rest ≡ bytes = ap (λ x. front ++ x ∷ rest) (sym t) ∙ e in
    let q : Some place ≡ Some (0 + length front) = sym p ∙ ap (position_from (λ b. b == 44) 0) (sym f) ∙ place_at 44 0 front rest h in
    let r : place ≡ 0 + length front = cc in
    let at : place ≡ length front = omega arith in
    (grind (arith, common_steps, e, at), grind (arith, common_steps, e, at))

pub no_comma : (front rest bytes : List ℕ) → HasNo 44 front → EndsArgument rest → front ++ rest ≡ bytes → position_from (λ b. b == 44) 0 bytes ≡ None → (bytes ≡ front) × ([] ≡ rest)
no_comma front [] bytes h t e p = (grind (arith, common_steps, e), refl)
no_comma front (b ∷ rest) bytes h t e p =
    absurd (is_cut 44 front rest bytes h (ap (λ x. front ++ x ∷ rest) (sym t) ∙ e) p)

-- ---- where an item of a list in braces ends

pub no_item_end : (bytes : List ℕ) → HasNo 44 bytes → HasNo 125 bytes → list_any is_item_end bytes ≡ false
no_item_end [] p q = refl
no_item_end (b ∷ bytes) p q =
    let comma = or_false (b == 44) _ p in
    let brace = or_false (b == 125) _ q in
    ap (λ t. (t || (b == 125)) || list_any is_item_end bytes) comma.0 ∙ ap (λ t. t || list_any is_item_end bytes) brace.0 ∙ no_item_end bytes comma.1 brace.1

end_is : (front : List ℕ) (b : ℕ) (rest bytes : List ℕ) → list_any is_item_end front ≡ false → is_item_end b ≡ true → front ++ b ∷ rest ≡ bytes → position_from is_item_end 0 bytes ≡ Some (0 + length front)
end_is front b rest bytes h t e = ap (position_from is_item_end 0) (sym e) ∙ first_place is_item_end 0 front b rest h t

pub end_at : (place : ℕ) (front rest bytes : List ℕ) → list_any is_item_end front ≡ false → EndsItem rest → front ++ rest ≡ bytes → position_from is_item_end 0 bytes ≡ Some place → (take place bytes ≡ front) × (drop place bytes ≡ rest)
end_at place front [] bytes h t e p = absurd t
end_at place front (b ∷ rest) bytes h t e p =
    let q : Some place ≡ Some (0 + length front) = sym p ∙ end_is front b rest bytes h t e in
    let r : place ≡ 0 + length front = cc in
    let at : length front ≡ place = omega arith in
    (ap (take place) (sym e) ∙ take_at front (b ∷ rest) place at, ap (drop place) (sym e) ∙ drop_at front (b ∷ rest) place at)

pub no_end_at : (front rest bytes : List ℕ) → list_any is_item_end front ≡ false → EndsItem rest → front ++ rest ≡ bytes → position_from is_item_end 0 bytes ≡ None → ⊥
no_end_at front [] bytes h t e p = t
no_end_at front (b ∷ rest) bytes h t e p = let q : None ≡ Some (0 + length front) = sym p ∙ end_is front b rest bytes h t e in cc

-- an end parts a text in one way
pub same_item : (u v r s : List ℕ) → list_any is_item_end u ≡ false → list_any is_item_end v ≡ false → EndsItem r → EndsItem s → u ++ r ≡ v ++ s → (u ≡ v) × (r ≡ s)
same_item u v [] s p q a b e = absurd a
same_item u v r [] p q a b e = absurd b
same_item [] [] (c ∷ r) (d ∷ s) p q a b e = (refl, e)
same_item [] (x ∷ v) (c ∷ r) (d ∷ s) p q a b e =
    let same : c ≡ x = ap (λ l. get_or l 0 0) e in
    absurd (false≢true (sym (or_false (is_item_end x) _ q).0 ∙ ap is_item_end (sym same) ∙ a))
same_item (x ∷ u) [] (c ∷ r) (d ∷ s) p q a b e =
    let same : x ≡ d = ap (λ l. get_or l 0 0) e in
    absurd (false≢true (sym (or_false (is_item_end x) _ p).0 ∙ ap is_item_end same ∙ b))
same_item (x ∷ u) (y ∷ v) (c ∷ r) (d ∷ s) p q a b e =
    let same : x ≡ y = ap (λ l. get_or l 0 0) e in
    let rest = same_item u v (c ∷ r) (d ∷ s) (or_false (is_item_end x) _ p).1 (or_false (is_item_end y) _ q).1 a b (ap (drop 1) e) in
    (ap (λ n. n ∷ u) same ∙ ap (λ xs. y ∷ xs) rest.0, rest.1)

-- ---- bytes that stand in no identifier

HasNo-encode : (stop c : ℕ) → stop < 128 → is_xid_continue stop ≡ false → is_xid_continue c ≡ true → HasNo stop (encode c)
HasNo-encode stop c small stops passes = HasNo-by_place stop (encode c) (λ i l e.
    let whole : encode c ≡ encode c ++ [] = grind (arith, common_steps) in
    let same : c ≡ get_or (encode c) i 0 = inside_one c [] (encode c) i whole l (omega (arith, e)) in
    false≢true (sym stops ∙ ap is_xid_continue (sym (same ∙ e)) ∙ passes))

HasNo-encodes : (stop : ℕ) (cs : List ℕ) → stop < 128 → is_xid_continue stop ≡ false → list_all is_xid_continue cs ≡ true → HasNo stop (encodes cs)
HasNo-encodes stop [] small stops all = refl
HasNo-encodes stop (c ∷ cs) small stops all =
    let parts = and_true (is_xid_continue c) (list_all is_xid_continue cs) all in
    HasNo-append stop (encode c) (encodes cs) (HasNo-encode stop c small stops parts.0) (HasNo-encodes stop cs small stops parts.1)

-- a byte that may not continue an identifier does not stand in one
pub HasNo-identifier : (stop : ℕ) (name : List ℕ) → stop < 128 → is_xid_continue stop ≡ false → IsTrue (is_identifier name) → HasNo stop name
HasNo-identifier stop name small stops is =
    let parts = and_true (is_utf8 name) _ is in
    let more = and_true (not (bytes_eq name [])) (list_all is_xid_continue (chars name)) parts.1 in
    let e = encodes-chars name (IsUtf8-from_is_utf8 name parts.0) in
    ap (list_any (λ b. b == stop)) (sym e) ∙ HasNo-encodes stop (chars name) small stops more.1

pub no_identifier : (bytes : List ℕ) → ¬ (IsUtf8 bytes) → is_identifier bytes ≡ false
no_identifier bytes wrong = ap (λ t. t && (not (bytes_eq bytes []) && list_all is_xid_continue (chars bytes))) (not_utf8 (is_utf8 bytes) (λ right. wrong (IsUtf8-from_is_utf8 bytes right)))
  where
    not_utf8 : (b : Bool) → (b ≡ true → ⊥) → b ≡ false
    not_utf8 true h = absurd (h refl)
    not_utf8 false h = refl

-- bytes that stand between the words of a line continue no identifier
pub line_feed_stops : is_xid_continue 10 ≡ false
unfolding unicode_ident
line_feed_stops = refl

pub space_stops : is_xid_continue 32 ≡ false
unfolding unicode_ident
space_stops = refl

pub bracket_stops : is_xid_continue 40 ≡ false
unfolding unicode_ident
bracket_stops = refl

pub comma_stops : is_xid_continue 44 ≡ false
unfolding unicode_ident
comma_stops = refl

pub closing_stops : is_xid_continue 41 ≡ false
unfolding unicode_ident
closing_stops = refl

pub quote_stops : is_xid_continue 34 ≡ false
unfolding unicode_ident
quote_stops = refl

pub brace_stops : is_xid_continue 125 ≡ false
unfolding unicode_ident
brace_stops = refl

-- an identifier of a list in braces ends where it stands before an end
pub identifier_ends : (name : List ℕ) → IsTrue (is_identifier name) → list_any is_item_end name ≡ false
identifier_ends name h = no_item_end name (HasNo-identifier 44 name (omega arith) comma_stops h) (HasNo-identifier 125 name (omega arith) brace_stops h)

-- ---- where a byte stands

-- the bytes before the place of a byte, and those behind it
pub record FoundAt (stop : ℕ) (bytes : List ℕ) (place : ℕ) : Type 0 where
  pub front : List ℕ
  pub back : List ℕ
  pub whole : bytes ≡ front ++ stop ∷ back
  pub plain : HasNo stop front
  pub len : length front ≡ place

pub found_at : (stop i y : ℕ) (bytes : List ℕ) → position_from (λ b. b == stop) i bytes ≡ Some y → (k : ℕ) × (y ≡ i + k) × FoundAt stop bytes k
found_at stop i y [] e = absurd (cc)
found_at stop i y (b ∷ bytes) e = split (found_at stop (i + 1) y bytes) (b == stop) refl
  where
    split : (position_from (λ b. b == stop) (i + 1) bytes ≡ Some y → (k : ℕ) × (y ≡ i + 1 + k) × FoundAt stop bytes k) → (t : Bool) → (b == stop) ≡ t → (k : ℕ) × (y ≡ i + k) × FoundAt stop (b ∷ bytes) k
    split later true t =
        let q : Some i ≡ Some y = sym (ap (λ x. cond x (Some i) (position_from (λ b. b == stop) (i + 1) bytes)) t) ∙ e in
        let same : i ≡ y = cc in
        (0, omega arith, record { front = []; back = bytes; whole = ap (λ x. x ∷ bytes) ((Decides-eqb b stop).0 t); plain = refl; len = refl })
    split later false t =
        let r = later (sym (ap (λ x. cond x (Some i) (position_from (λ b. b == stop) (i + 1) bytes)) t) ∙ e) in (
          suc r.0,
          omega (arith, r.1),
          record {
            front = b ∷ r.2.front;
            back = r.2.back;
            whole = ap (λ xs. b ∷ xs) r.2.whole;
            plain = ap (λ x. x || list_any (λ b. b == stop) r.2.front) t ∙ r.2.plain;
            len = ap suc r.2.len;
          },
        )

pub not_found : (stop i : ℕ) (bytes : List ℕ) → position_from (λ b. b == stop) i bytes ≡ None → HasNo stop bytes
not_found stop i [] e = refl
not_found stop i (b ∷ bytes) e = split (not_found stop (i + 1) bytes) (b == stop) refl
  where
    split : (position_from (λ b. b == stop) (i + 1) bytes ≡ None → HasNo stop bytes) → (t : Bool) → (b == stop) ≡ t → HasNo stop (b ∷ bytes)
    split later true t =
        let q : Some i ≡ None = sym (ap (λ x. cond x (Some i) (position_from (λ b. b == stop) (i + 1) bytes)) t) ∙ e in absurd (cc)
    split later false t =
        ap (λ x. x || list_any (λ b. b == stop) bytes) t ∙ later (sym (ap (λ x. cond x (Some i) (position_from (λ b. b == stop) (i + 1) bytes)) t) ∙ e)

pub cut_is : (stop place : ℕ) (bytes : List ℕ) → position_from (λ b. b == stop) 0 bytes ≡ Some place → IsCut stop (take place bytes) (take (length bytes - (place + 1)) (drop (place + 1) bytes)) bytes
cut_is stop place bytes e =
    let f = found_at stop 0 place bytes e in
    let at : place ≡ length f.2.front = omega (arith, f.2.len, f.1) in
    let parts = behind_at place f.2.front f.2.back stop bytes at (sym f.2.whole) in
    record {
      plain = ap (list_any (λ b. b == stop)) parts.0 ∙ f.2.plain;
      whole = ap (λ t. t ++ stop ∷ take (length bytes - (place + 1)) (drop (place + 1) bytes)) parts.0 ∙ ap (λ t. f.2.front ++ stop ∷ t) parts.1 ∙ sym f.2.whole;
    }

-- ---- a byte parts a text in one way

pub same_front : (stop : ℕ) (a b x y : List ℕ) → HasNo stop a → HasNo stop b → a ++ stop ∷ x ≡ b ++ stop ∷ y → (a ≡ b) × (x ≡ y)
same_front stop [] [] x y p q e = (refl, ap (drop 1) e)
same_front stop [] (d ∷ b) x y p q e =
    let same : stop ≡ d = ap (λ l. get_or l 0 0) e in
    absurd (false≢true (sym (or_false (d == stop) _ q).0 ∙ (Decides-eqb d stop).1 (sym same)))
same_front stop (c ∷ a) [] x y p q e =
    let same : c ≡ stop = ap (λ l. get_or l 0 0) e in
    absurd (false≢true (sym (or_false (c == stop) _ p).0 ∙ (Decides-eqb c stop).1 same))
same_front stop (c ∷ a) (d ∷ b) x y p q e =
    let same : c ≡ d = ap (λ l. get_or l 0 0) e in
    let rest = same_front stop a b x y (or_false (c == stop) _ p).1 (or_false (d == stop) _ q).1 (ap (drop 1) e) in
    (ap (λ n. n ∷ a) same ∙ ap (λ xs. d ∷ xs) rest.0, rest.1)

-- a byte that stands in one of two texts stands in the other
pub not_in : (stop : ℕ) (u v rest : List ℕ) → HasNo stop u → u ≡ v ++ stop ∷ rest → ⊥
not_in stop u v rest h e = stands v (sym (ap (list_any (λ b. b == stop)) e) ∙ h)
  where
    stands : (v : List ℕ) → HasNo stop (v ++ stop ∷ rest) → ⊥
    stands [] k = false≢true (sym (or_false (stop == stop) _ k).0 ∙ same_byte stop)
    stands (b ∷ v) k = stands v (or_false (b == stop) _ k).1

-- ---- a word before brackets

pub unclosed : (word rest other inside text : List ℕ) → IsCut 40 word rest text → ((front : List ℕ) → rest ≢ front ++ codes ")") → HasNo 40 other → bracketed other inside ≢ text
unclosed word rest other inside text cut ends plain e =
    ends inside (same_front 40 word other rest (inside ++ codes ")") cut.plain plain (cut.whole ∙ sym e)).1

-- words in brackets, by their parts
pub same_bracketed : (a b x y : List ℕ) → HasNo 40 a → HasNo 40 b → bracketed a x ≡ bracketed b y → (a ≡ b) × (x ≡ y)
same_bracketed a b x y p q e =
    let s = same_front 40 a b (x ++ codes ")") (y ++ codes ")") p q e in (s.0, append_cancel_right x y (codes ")") s.1)

-- ---- what stands inside a line

pub inside_same : (a b : List ℕ) → indented a ≡ indented b → a ≡ b
inside_same a b e = append_cancel_right a b (codes ";") (append_cancel_left (codes "    ") (a ++ codes ";") (b ++ codes ";") e)

pub inside_ends : (piece rest : List ℕ) → piece ≡ codes "    " ++ rest → ((front : List ℕ) → rest ≢ front ++ codes ";") → (text : List ℕ) → indented text ≢ piece
inside_ends piece rest p ends text e = ends text (sym (append_cancel_left (codes "    ") (text ++ codes ";") rest (e ∙ p)))

pub inside_is : (piece rest text : List ℕ) → piece ≡ codes "    " ++ rest → rest ≡ text ++ codes ";" → indented text ≡ piece
inside_is piece rest text p q = ap (λ t. codes "    " ++ t) (sym q) ∙ sym p

pub inside_first : (piece : List ℕ) → ((rest : List ℕ) → piece ≢ codes "    " ++ rest) → (text : List ℕ) → indented text ≢ piece
inside_first piece starts text e = starts (text ++ codes ";") (sym e)
