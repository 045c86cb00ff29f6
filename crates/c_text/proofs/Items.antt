-- Lists in braces: one item after another, and that no text is of two lists.
use Rattle.std.proofs.Common.{◌≡◌, ◌≢◌, ◌∙◌, ℕ, ◌-◌, ◌≤◌, Bool, true, List, [], ◌∷◌, ◌++◌, length, take, drop, get_or, IsTrue, refl, sym, ap, arith, append_assoc, append-nil}
use Rattle.std.specs.Prelude.{codes, map}
use Rattle.std.specs.List.{flat_map, list_all}
use Rattle.std.proofs.lemmas.Grind.{common_steps}
use Rattle.std.proofs.lemmas.List.{append_cancel_left}
use Rattle.std.proofs.lemmas.List.Folds.{list_all-append}
use Rattle.c_core.specs.Text.{braced, comma, joined}
use Rattle.c_text.specs.Braces.{EndsItem, ItemsRemain, closed_text, next_item, next_list}
use Rattle.c_text.specs.Words.{HasNo}
use Rattle.c_text.proofs.Bytes.{HasNo-append, and_true, differ}

-- ---- the texts of lists

pub braced_closed : (texts : List (List ℕ)) (rest : List ℕ) → braced texts ++ rest ≡ 123 ∷ (joined comma texts ++ 125 ∷ rest)
braced_closed texts rest = ap (λ t. 123 ∷ t) (append_assoc (joined comma texts) (125 ∷ []) rest)

-- a list behind a comma, and what follows it
pub next_list_is : {A : Type 0} (shown : A → List ℕ) (items : List A) (rest : List ℕ) → (comma ++ braced (map shown items)) ++ rest ≡ next_list shown items rest
next_list_is shown items rest = ap (λ t. comma ++ t) (braced_closed (map shown items) rest)

-- what stands behind the first of some items
abbrev pub behind_first : {A : Type 0} → (A → List ℕ) → List A → List ℕ → List ℕ
behind_first shown [] rest = 125 ∷ rest
behind_first shown (b ∷ others) rest = comma ++ closed_text shown (b ∷ others) rest

first_closed : {A : Type 0} (shown : A → List ℕ) (a : A) (others : List A) (rest : List ℕ) → closed_text shown (a ∷ others) rest ≡ shown a ++ behind_first shown others rest
first_closed shown a [] rest = refl
first_closed shown a (b ∷ others) rest = append_assoc (shown a) (comma ++ joined comma (map shown (b ∷ others))) (125 ∷ rest)

first_ends : {A : Type 0} (shown : A → List ℕ) (others : List A) (rest : List ℕ) → EndsItem (behind_first shown others rest)
first_ends shown [] rest = refl
first_ends shown (b ∷ others) rest = refl

-- ---- reading a list

-- what reading an item finds
abbrev pub FindsItem : {A : Type 0} → (A → List ℕ) → (A → Bool) → List ℕ → A → List ℕ → Type 0
FindsItem {A} shown spelled left item after =
    (a : A) (rest : List ℕ) → IsTrue (spelled a) → EndsItem rest → shown a ++ rest ≡ left → (item ≡ a) × (after ≡ rest)

item_spelled : {A : Type 0} (spelled : A → Bool) (read all : List A) (a : A) (others : List A) → IsTrue (list_all spelled all) → read ++ a ∷ others ≡ all → IsTrue (spelled a)
item_spelled spelled read all a others h whole =
    let parts = and_true (list_all spelled read) (list_all spelled (a ∷ others)) (sym (list_all-append spelled read (a ∷ others)) ∙ ap (list_all spelled) whole ∙ h) in
    (and_true (spelled a) _ parts.1).0

-- one item more
pub items_turn : {A : Type 0} (shown : A → List ℕ) (spelled : A → Bool) {read all : List A} {left rest : List ℕ} (item : A) (after next : List ℕ) (new : List A) → IsTrue (list_all spelled all) → ItemsRemain shown read all left rest → ((r : List ℕ) → 125 ∷ r ≡ left → ⊥) → FindsItem shown spelled left item after → ((r : List ℕ) → after ≡ codes ", " ++ r → next ≡ r) → (((r : List ℕ) → after ≢ codes ", " ++ r) → next ≡ after) → new ≡ read ++ item ∷ [] → ItemsRemain shown new all next rest
items_turn {A} shown spelled {read} {all} {left} {rest} item after next new h r opens finds past none pushed = turn r.more r.whole r.written
  where
    whole_then : (a : A) (others : List A) → item ≡ a → read ++ a ∷ others ≡ all → new ++ others ≡ all
    whole_then a others same whole =
        ap (λ x. x ++ others) pushed ∙ append_assoc read (item ∷ []) others ∙ ap (λ x. read ++ x ∷ others) same ∙ whole

    turn : (more : List A) → read ++ more ≡ all → closed_text shown more rest ≡ left → ItemsRemain shown new all next rest
    turn [] whole written = absurd (opens rest written)
    turn (a ∷ []) whole written =
        let f = finds a (125 ∷ rest) (item_spelled spelled read all a [] h whole) refl written in
        record {
          more = [];
          whole = whole_then a [] f.0 whole;
          written = sym f.1 ∙ sym (none (λ r e. differ (sym f.1 ∙ e) refl));
        }
    turn (a ∷ b ∷ others) whole written =
        let f = finds a (behind_first shown (b ∷ others) rest) (item_spelled spelled read all a (b ∷ others) h whole) refl (sym (first_closed shown a (b ∷ others) rest) ∙ written) in
        record {
          more = b ∷ others;
          whole = whole_then a (b ∷ others) f.0 whole;
          written = sym (past (closed_text shown (b ∷ others) rest) f.1);
        }

-- the list ends where no item follows
pub items_end : {A : Type 0} (shown : A → List ℕ) (spelled : A → Bool) {read all : List A} {left rest : List ℕ} → IsTrue (list_all spelled all) → ItemsRemain shown read all left rest → ((a : A) (r : List ℕ) → IsTrue (spelled a) → EndsItem r → shown a ++ r ≡ left → ⊥) → (read ≡ all) × (left ≡ 125 ∷ rest)
items_end {A} shown spelled {read} {all} {left} {rest} h r over = end r.more r.whole r.written
  where
    end : (more : List A) → read ++ more ≡ all → closed_text shown more rest ≡ left → (read ≡ all) × (left ≡ 125 ∷ rest)
    end [] whole written = (sym (append-nil read) ∙ whole, sym written)
    end (a ∷ others) whole written =
        absurd (over a (behind_first shown others rest) (item_spelled spelled read all a others h whole) (first_ends shown others rest) (sym (first_closed shown a others rest) ∙ written))

-- ---- no text is of two lists

-- an item is told from what stands behind it, and begins with no closing brace
pub record Stands {A : Type 0} (shown : A → List ℕ) (spelled : A → Bool) : Type 0 where
  pub same : (a b : A) (r s : List ℕ) → IsTrue (spelled a) → IsTrue (spelled b) → EndsItem r → EndsItem s → shown a ++ r ≡ shown b ++ s → (a ≡ b) × (r ≡ s)
  pub opens : (a : A) (r s : List ℕ) → shown a ++ r ≢ 125 ∷ s

same_closed : {A : Type 0} (shown : A → List ℕ) (spelled : A → Bool) → Stands shown spelled → (xs ys : List A) (r s : List ℕ) → IsTrue (list_all spelled xs) → IsTrue (list_all spelled ys) → closed_text shown xs r ≡ closed_text shown ys s → (xs ≡ ys) × (r ≡ s)
same_closed shown spelled stands [] [] r s h k e = (refl, append_cancel_left (125 ∷ []) r s e)
same_closed shown spelled stands [] (b ∷ ys) r s h k e = absurd (stands.opens b (behind_first shown ys s) r (sym (first_closed shown b ys s) ∙ sym e))
same_closed shown spelled stands (a ∷ xs) [] r s h k e = absurd (stands.opens a (behind_first shown xs r) s (sym (first_closed shown a xs r) ∙ e))
same_closed shown spelled stands (a ∷ []) (b ∷ []) r s h k e =
    let same = stands.same a b (125 ∷ r) (125 ∷ s) (and_true (spelled a) _ h).0 (and_true (spelled b) _ k).0 refl refl e in
    (ap (λ x. x ∷ []) same.0, append_cancel_left (125 ∷ []) r s same.1)
same_closed shown spelled stands (a ∷ []) (b ∷ d ∷ ys) r s h k e =
    let same = stands.same a b (125 ∷ r) (behind_first shown (d ∷ ys) s) (and_true (spelled a) _ h).0 (and_true (spelled b) _ k).0 refl refl (e ∙ first_closed shown b (d ∷ ys) s) in
    absurd (differ same.1 refl)
same_closed shown spelled stands (a ∷ c ∷ xs) (b ∷ []) r s h k e =
    let same = stands.same a b (behind_first shown (c ∷ xs) r) (125 ∷ s) (and_true (spelled a) _ h).0 (and_true (spelled b) _ k).0 refl refl (sym (first_closed shown a (c ∷ xs) r) ∙ e) in
    absurd (differ same.1 refl)
same_closed shown spelled stands (a ∷ c ∷ xs) (b ∷ d ∷ ys) r s h k e =
    let p = and_true (spelled a) _ h in
    let q = and_true (spelled b) _ k in
    let same = stands.same a b (behind_first shown (c ∷ xs) r) (behind_first shown (d ∷ ys) s) p.0 q.0 refl refl (sym (first_closed shown a (c ∷ xs) r) ∙ e ∙ first_closed shown b (d ∷ ys) s) in
    let rest = same_closed shown spelled stands (c ∷ xs) (d ∷ ys) r s p.1 q.1 (append_cancel_left comma _ _ same.1) in
    (ap (λ x. x ∷ c ∷ xs) same.0 ∙ ap (λ zs. b ∷ zs) rest.0, rest.1)

pub same_list : {A : Type 0} (shown : A → List ℕ) (spelled : A → Bool) → Stands shown spelled → (xs ys : List A) (r s : List ℕ) → IsTrue (list_all spelled xs) → IsTrue (list_all spelled ys) → next_list shown xs r ≡ next_list shown ys s → (xs ≡ ys) × (r ≡ s)
same_list shown spelled stands xs ys r s h k e = same_closed shown spelled stands xs ys r s h k (append_cancel_left (codes ", {") _ _ e)

-- ---- no line feed in a list

joined_plain : {A : Type 0} (shown : A → List ℕ) (spelled : A → Bool) → ((a : A) → IsTrue (spelled a) → HasNo 10 (shown a)) → (items : List A) → IsTrue (list_all spelled items) → HasNo 10 (joined comma (map shown items))
joined_plain shown spelled plain [] h = refl
joined_plain shown spelled plain (a ∷ []) h = plain a (and_true (spelled a) _ h).0
joined_plain shown spelled plain (a ∷ b ∷ items) h =
    let parts = and_true (spelled a) _ h in
    HasNo-append 10 (shown a) (comma ++ joined comma (map shown (b ∷ items))) (plain a parts.0)
    (HasNo-append 10 comma (joined comma (map shown (b ∷ items))) refl (joined_plain shown spelled plain (b ∷ items) parts.1))

pub braced_plain : {A : Type 0} (shown : A → List ℕ) (spelled : A → Bool) → ((a : A) → IsTrue (spelled a) → HasNo 10 (shown a)) → (items : List A) → IsTrue (list_all spelled items) → HasNo 10 (braced (map shown items))
braced_plain shown spelled plain items h =
    HasNo-append 10 (codes "{") (joined comma (map shown items) ++ codes "}") refl (HasNo-append 10 (joined comma (map shown items)) (codes "}") (joined_plain shown spelled plain items h) refl)

-- ---- writing a list

joined_first : {A : Type 0} (shown : A → List ℕ) (a : A) (others : List A) → shown a ++ flat_map (next_item shown) others ≡ joined comma (map shown (a ∷ others))
joined_first shown a [] = append-nil (shown a)
joined_first shown a (b ∷ others) = ap (λ rest. shown a ++ (comma ++ rest)) (joined_first shown b others)

others_of : {A : Type 0} (a : A) (others : List A) → take (length (a ∷ others) - 1) (drop 1 (a ∷ others)) ≡ others
others_of a others = grind (arith, common_steps)

-- what a pattern finds in a slice, as the whole list's text
pub braced_of : {A : Type 0} (shown : A → List ℕ) (xs ys : List A) (x : A) → xs ≡ ys → 1 ≤ length xs → x ≡ get_or xs 0 x → (codes ", {" ++ shown x) ++ (flat_map (next_item shown) (take (length xs - 1) (drop 1 xs)) ++ codes "}") ≡ comma ++ braced (map shown ys)
braced_of shown [] ys x p h q = absurd (omega arith)
braced_of shown (a ∷ others) ys x p h q =
    ap (λ t. codes ", {" ++ t) (sym (append_assoc (shown x) (flat_map (next_item shown) (take (length (a ∷ others) - 1) (drop 1 (a ∷ others)))) (codes "}")))
    ∙ ap (λ y. codes ", {" ++ ((shown y ++ flat_map (next_item shown) (take (length (a ∷ others) - 1) (drop 1 (a ∷ others)))) ++ codes "}")) q
    ∙ ap (λ rest. codes ", {" ++ ((shown a ++ flat_map (next_item shown) rest) ++ codes "}")) (others_of a others)
    ∙ ap (λ t. codes ", {" ++ (t ++ codes "}")) (joined_first shown a others)
    ∙ ap (λ zs. comma ++ braced (map shown zs)) p
