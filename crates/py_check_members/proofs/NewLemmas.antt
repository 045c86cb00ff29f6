-- A member more, where there is none of its name.
use denote.Ref.{Bor}
use Rattle.std.proofs.Common.{◌≡◌, ◌∙◌, ℕ, zero, suc, ◌+◌, ◌<◌, length, take, drop, get_or, drop-cons, add-one, slice_get, option_and_then, option_map, Bool, true, false, ◌||◌, List, [], ◌∷◌, ◌++◌, map, Option, Some, None, is_some, refl, sym, ap, cond, if◌then◌else◌}
use Rattle.std.specs.List.{list_any, filter_map, cons_option}
use Rattle.std.specs.Map.Iter.{deref_pair}
use Rattle.std.proofs.lemmas.List.Elements.{filter_map-append}
use Rattle.std.proofs.lemmas.Option.{slice_get-map}
use Rattle.std.specs.Map.{lookup}
use Rattle.std.specs.Str.{bytes_eq}
use Rattle.std.proofs.lemmas.List.{map-append}
use Rattle.indexmap.specs.IndexMap.{insert_entry}
use Rattle.py_check_context.specs.declared.members.Member as declared
use Rattle.py_check_context.specs.Members.{Member, member}
use Rattle.py_check_members.specs.Members.{is_named_in, with_new}
use Rattle.py_check_members.specs.Tables.{entry_in, listed}

abbrev Row : Type 0
Row = List (List ℕ × declared.Member)

abbrev shown : Row → List (List ℕ × Member)
shown es = map (λ p. (p.0, member p.1)) es

named_found : (es : Row) (name : List ℕ) → is_named_in (shown es) name ≡ is_some (lookup (bytes_eq name) es)
named_found [] name = refl
named_found (p ∷ es) name = by (bytes_eq name p.0) (named_found es name)
  where
    by : (b : Bool) → is_named_in (shown es) name ≡ is_some (lookup (bytes_eq name) es) → (b || is_named_in (shown es) name) ≡ is_some (cond b (Some p.1) (lookup (bytes_eq name) es))
    by true h = refl
    by false h = h

inserted : (es : Row) (name : List ℕ) (m : declared.Member) → is_some (lookup (bytes_eq name) es) ≡ false → insert_entry bytes_eq es name m ≡ es ++ (name, m) ∷ []
inserted [] name m e = refl
inserted (p ∷ es) name m e = by (bytes_eq name p.0) e (λ f. inserted es name m f)
  where
    by : (b : Bool) → is_some (cond b (Some p.1) (lookup (bytes_eq name) es)) ≡ false → (is_some (lookup (bytes_eq name) es) ≡ false → insert_entry bytes_eq es name m ≡ es ++ (name, m) ∷ [])
        → (if b then (p.0, m) ∷ es else p ∷ insert_entry bytes_eq es name m) ≡ p ∷ (es ++ (name, m) ∷ [])
    by true f h = absurd (cc)
    by false f h = ap (λ l. p ∷ l) (h f)

pub new_kept : (es : Row) (name : List ℕ) (m : declared.Member) → is_some (lookup (bytes_eq name) es) ≡ true → shown es ≡ with_new (shown es) ((name, member m) ∷ [])
new_kept es name m e = sym (ap (λ b. if b then shown es else shown es ++ (name, member m) ∷ []) (named_found es name ∙ e))

pub new_added : (es more : Row) (name key : List ℕ) (m : declared.Member) → is_some (lookup (bytes_eq name) es) ≡ false → key ≡ name → more ≡ insert_entry bytes_eq es key m → shown more ≡ with_new (shown es) ((name, member m) ∷ [])
new_added es more name key m e k put =
    ap shown (put ∙ ap (λ n. insert_entry bytes_eq es n m) k ∙ inserted es name m e)
    ∙ map-append (λ p. (p.0, member p.1)) es ((name, m) ∷ [])
    ∙ sym (ap (λ b. if b then shown es else shown es ++ (name, member m) ∷ []) (named_found es name ∙ e))

-- ---- entries one by one

take_step : {A : Type 0} (xs : List A) (i : ℕ) → take (suc i) xs ≡ take i xs ++ listed (slice_get xs i)
take_step [] zero = refl
take_step [] (suc i) = refl
take_step (x ∷ xs) zero = refl
take_step (x ∷ xs) (suc i) = ap (λ l. x ∷ l) (take_step xs i)

kept_one : {A B : Type 0} (h : A → Option B) (o : Option A) → filter_map h (listed o) ≡ listed (option_and_then h o)
kept_one h None = refl
kept_one {B = B} h (Some a) = by (h a)
  where
    by : (r : Option B) → cons_option r [] ≡ listed r
    by None = refl
    by (Some b) = refl

entry_is : (o : Option (Bor (List ℕ) × Bor declared.Member)) → entry_in o ≡ option_map (λ p. (p.0, member p.1)) (option_map deref_pair o)
entry_is None = refl
entry_is (Some p) = refl

pub filter_on : {A : Type 0} (h : List ℕ × Member → Option A) (es : Row) (i : ℕ) (o : Option (Bor (List ℕ) × Bor declared.Member)) (old new : List A) → option_map deref_pair o ≡ slice_get es i
    → old ≡ filter_map h (take i (shown es)) → new ≡ old ++ listed (option_and_then h (entry_in o)) → new ≡ filter_map h (take (i + 1) (shown es))
filter_on h es i o old new found sofar put =
    put
    ∙ ap (λ l. l ++ listed (option_and_then h (entry_in o))) sofar
    ∙ ap (λ e. filter_map h (take i (shown es)) ++ listed (option_and_then h e)) (entry_is o ∙ ap (option_map (λ p. (p.0, member p.1))) found ∙ sym (slice_get-map (λ p. (p.0, member p.1)) es i))
    ∙ ap (λ l. filter_map h (take i (shown es)) ++ l) (sym (kept_one h (slice_get (shown es) i)))
    ∙ sym (filter_map-append h (take i (shown es)) (listed (slice_get (shown es) i)))
    ∙ ap (filter_map h) (sym (take_step (shown es) i) ∙ ap (λ n. take n (shown es)) (sym (add-one i)))

-- ---- one of a row

pub any_here : (test : ℕ → Bool) (row : List ℕ) (i : ℕ) → i < length row → test (get_or row i 0) ≡ true → list_any test (drop i row) ≡ list_any test row → true ≡ list_any test row
any_here test row i l e sofar =
    sym (ap (list_any test) (drop-cons row i 0 l) ∙ ap (λ b. b || list_any test (drop (suc i) row)) e) ∙ sofar

pub any_on : (test : ℕ → Bool) (row : List ℕ) (i : ℕ) → i < length row → test (get_or row i 0) ≡ false → list_any test (drop i row) ≡ list_any test row → list_any test (drop (i + 1) row) ≡ list_any test row
any_on test row i l e sofar =
    ap (λ n. list_any test (drop n row)) (add-one i)
    ∙ sym (ap (list_any test) (drop-cons row i 0 l) ∙ ap (λ b. b || list_any test (drop (suc i) row)) e)
    ∙ sofar
