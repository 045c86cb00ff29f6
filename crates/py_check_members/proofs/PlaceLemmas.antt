-- The first places of names, when one more event is noted.
use Rattle.std.proofs.Common.{◌≡◌, ◌∙◌, ℕ, zero, suc, ◌+◌, ◌<◌, ◌≤◌, Bool, true, false, ◌&&◌, List, [], ◌∷◌, ◌++◌, length, take, get_or, Option, Some, None, refl, sym, ap, arith, cond, if◌then◌else◌}
use Rattle.std.specs.List.{position_from}
use Rattle.std.specs.Str.{bytes_eq}
use Rattle.std.proofs.lemmas.List.{length-map, map-append, take_more, length-take-le}
use Rattle.py_check_members.specs.declared.events.Event as declared
use Rattle.py_check_members.specs.Deeds.{Event}
use Rattle.py_check_members.specs.Members.{Places, places, first_place, is_of_body, is_of_init, is_gift}
use Rattle.py_check_members.specs.Tables.{first_of, noted, AreFirst}
use Rattle.py_check_members.specs.Views.{event_of, events_of}

pub position_on : (test : Event → Bool) (i n : ℕ) (vs : List Event) (v : Event) → i + length vs ≡ n → position_from test i (vs ++ v ∷ []) ≡ first_of (position_from test i vs) (test v) n
position_on test i n [] v e = by (test v)
  where
    same : i ≡ n
    same = omega (arith, e)

    by : (b : Bool) → cond b (Some i) None ≡ (if b then Some n else None)
    by true = ap Some same
    by false = refl
position_on test i n (w ∷ vs) v e = by (test w) (position_on test (i + 1) n vs v (omega (arith, e)))
  where
    by : (b : Bool) → position_from test (i + 1) (vs ++ v ∷ []) ≡ first_of (position_from test (i + 1) vs) (test v) n → cond b (Some i) (position_from test (i + 1) (vs ++ v ∷ [])) ≡ first_of (cond b (Some i) (position_from test (i + 1) vs)) (test v) n
    by true h = refl
    by false h = h

-- of another name nothing changes
first_if : (p : Option ℕ) (same kind : Bool) (n : ℕ) → first_of p (same && kind) n ≡ (if same then first_of p kind n else p)
first_if p true kind n = refl
first_if None false kind n = refl
first_if (Some i) false kind n = refl

noted_parts : (same : Bool) (n : ℕ) (v : Event) (p : Places) → record { body = if same then first_of p.body (is_of_body v) n else p.body; init = if same then first_of p.init (is_of_init v.deed) n else p.init; gift = if same then first_of p.gift (is_gift v.deed) n else p.gift } ≡ noted same n v p
noted_parts true n v p = refl
noted_parts false n v p = refl

pub places_on : (vs : List Event) (v : Event) (n : ℕ) (name : List ℕ) → length vs ≡ n → places (vs ++ v ∷ []) name ≡ noted (bytes_eq v.name name) n v (places vs name)
places_on vs v n name e =
    let one : (kind : Event → Bool) → first_place (vs ++ v ∷ []) name kind ≡ (if bytes_eq v.name name then first_of (first_place vs name kind) (kind v) n else first_place vs name kind) =
    λ kind. position_on (λ w. bytes_eq w.name name && kind w) 0 n vs v (omega (arith, e)) ∙ first_if (first_place vs name kind) (bytes_eq v.name name) (kind v) n in
    ap (λ b. record { body = b; init = first_place (vs ++ v ∷ []) name (λ w. is_of_init w.deed); gift = first_place (vs ++ v ∷ []) name (λ w. is_gift w.deed) }) (one is_of_body)
    ∙ ap (λ b. record { body = if bytes_eq v.name name then first_of (first_place vs name is_of_body) (is_of_body v) n else first_place vs name is_of_body; init = b; gift = first_place (vs ++ v ∷ []) name (λ w. is_gift w.deed) }) (one (λ w. is_of_init w.deed))
    ∙ ap (λ b. record { body = if bytes_eq v.name name then first_of (first_place vs name is_of_body) (is_of_body v) n else first_place vs name is_of_body; init = if bytes_eq v.name name then first_of (first_place vs name (λ w. is_of_init w.deed)) (is_of_init v.deed) n else first_place vs name (λ w. is_of_init w.deed); gift = b }) (one (λ w. is_gift w.deed))
    ∙ noted_parts (bytes_eq v.name name) n v (places vs name)

-- the events up to a place, with the one there
events_on : (vs : List declared.Event) (i : ℕ) (v : declared.Event) → i < length vs → v ≡ get_or vs i v → events_of (take (i + 1) vs) ≡ events_of (take i vs) ++ event_of v ∷ []
events_on vs i v h at =
    ap events_of (take_more vs i v h ∙ ap (λ w. take i vs ++ w ∷ []) (sym at)) ∙ map-append event_of (take i vs) (v ∷ [])

events_long : (vs : List declared.Event) (i : ℕ) → i < length vs → length (events_of (take i vs)) ≡ i
events_long vs i h = length-map (take i vs) event_of ∙ length-take-le i vs (omega (arith, h))

pub places_more : (vs : List declared.Event) (i : ℕ) (v : declared.Event) (found more : List ℕ → Places) → i < length vs → v ≡ get_or vs i v
    → ((name : List ℕ) → more name ≡ noted (bytes_eq v.name.now name) i (event_of v) (found name))
    → ((name : List ℕ) → found name ≡ places (events_of (take i vs)) name)
    → (name : List ℕ) → more name ≡ places (events_of (take (i + 1) vs)) name
places_more vs i v found more h at new old name =
    new name
    ∙ ap (noted (bytes_eq v.name.now name) i (event_of v)) (old name)
    ∙ sym (places_on (events_of (take i vs)) (event_of v) i name (events_long vs i h))
    ∙ ap (λ l. places l name) (sym (events_on vs i v h at))

take_whole : {A : Type 0} (xs : List A) (i : ℕ) → length xs ≤ i → take i xs ≡ xs
take_whole [] zero h = refl
take_whole [] (suc i) h = refl
take_whole (x ∷ xs) zero h = absurd (omega (arith, h))
take_whole (x ∷ xs) (suc i) h = ap (λ l. x ∷ l) (take_whole xs i (omega (arith, h)))

pub places_whole : (vs : List declared.Event) (i : ℕ) (found : List ℕ → Places) → length vs ≤ i → ((name : List ℕ) → found name ≡ places (events_of (take i vs)) name) → AreFirst (events_of vs) found
places_whole vs i found h old = record { each = λ name. old name ∙ ap (λ l. places (events_of l) name) (take_whole vs i h) }
