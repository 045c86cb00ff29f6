-- What holds of the members of the classes of a module.
use Rattle.std.proofs.Common.{◌≡◌, ℕ, zero, suc, ◌+◌, ◌<◌, Bool, true, false, not, ◌&&◌, ◌||◌, cond, List, [], ◌∷◌, ◌++◌, map, length, Option, Some, None, refl, ap, sym, ◌∙◌, subst, get_or, ◌⊎◌, inl, inr, if◌then◌else◌}
use Rattle.std.proofs.lemmas.Bool.{and_parts, and_from, or_parts}
use Rattle.std.proofs.lemmas.List.{append_assoc, length-append}
use Rattle.std.proofs.lemmas.List.Folds.{list_any-append}
use Rattle.std.proofs.lemmas.Option.{same_Some, slice_get_within, slice_get-get_or, slice_get-map}
use Rattle.std.specs.Prelude.{slice_get, is_some, codes}
use Rattle.std.specs.List.{list_any, list_all, flat_map, position_from, AllByRecursion}
use Rattle.std.specs.Map.{lookup}
use Rattle.std.specs.Option.{option_map}
use Rattle.std.specs.Str.{bytes_eq}
use Rattle.indexmap.specs.IndexSet.{insert_key}
use Rattle.py_syntax.specs.declared.token.Span.{Span}
use Rattle.py_syntax.specs.Expressions.{ExprTree}
use Rattle.py_syntax.specs.Statements as s
use Rattle.py_syntax.specs.Statements.{StmtTree, Suite, FuncTree, ClassTree, no_stmts}
use Rattle.py_binder.specs.Scope.{contains}
use Rattle.py_typed.specs.WellTyped.{all_differ}
use Rattle.py_check_context.specs.declared.scope.Meaning.{Meaning}
use Rattle.py_check_context.specs.Members.{Member, unknown, method}
use Rattle.py_check_flow.specs.Bindings.{name_in}
use Rattle.py_check_names.specs.Outline.{method_in, methods_in, held_by}
use Rattle.py_check_signatures.specs.declared.headers.Owner.TheVariants.{Class}
use Rattle.py_check_signatures.specs.Definitions.{is_new}
use Rattle.py_check_classes.specs.declared.header.Header.{Header}
use Rattle.py_check_classes.specs.Names.{classes_in}
use Rattle.py_check_classes.specs.Headers.{has_type}
use Rattle.py_check_classes.specs.Bodies.{declared_name, defined_name, with_method, is_declared, declares_behind, has_attributes, is_init, has_init}
use Rattle.py_check_members.specs.Deeds.{is_builtin_name, Deed, defines, declares, annotates, gives, sets, Event, event, event_of, taken_name, init_function, is_number, init_events, member_events, body_events, class_events}
use Rattle.py_check_members.specs.Members.{is_of_body, is_of_init, is_of_body_by, Above, places, stands_before, is_annotation, deed_at, declares_by, is_unknown_by, member_by, made, made_from, each_once, Owns, own_at, row_of, above_in, row_above, ClassText, class_texts, inner_meaning, typed_own, own_behind, owns_behind, own_members}
use Rattle.py_check_definitions.specs.Owners.{untyped_owner, class_owner, owners_from}
use Rattle.py_check_members_laws.specs.Laws.{members_of, NamesDiffer, is_plain_method, PlainClassesHaveMethodsAlone, IsMethodOf, MethodsAreFunctions, is_name_new, with_name, are_defs_new, NewFunctionsAreMethods}
use Rattle.py_check_members_laws.proofs.Rows.{none_more, zero_more, one_behind, clash, same_text, swapped, grouped, Behind, at_either, stands_in_front, both, once_differ, new_hold, Found, found_holds}
use Rattle.py_check_members_laws.proofs.Events.{OfInit, init_of_init, IsDefined, Defines, body_defines, no_init}
use Rattle.py_check_members_laws.proofs.Places.{untyped_other, IsPlaced, method_placed, IsOf, function_of_class, HasText, text_of_class, trees_of_texts, IsOwn, row_of_class, own_typed}
use Rattle.py_check_members_laws.proofs.Own.{method_defined, Makes, own_hold, IsFirst, first_is_member}

pub all_there : {A : Type 0} (P : A → Type 0) (xs : List A) (i : ℕ) (x : A) → AllByRecursion P xs → slice_get xs i ≡ Some x → P x
all_there P [] i x h q = absurd (cc)
all_there P (y ∷ xs) zero x h q = subst P (same_Some y x q) h.0
all_there P (y ∷ xs) (suc i) x h q = all_there P xs i x h.1 q

all_pass : {A : Type 0} (test : A → Bool) (xs : List A) → AllByRecursion (λ x. test x ≡ true) xs → list_all test xs ≡ true
all_pass test [] h = refl
all_pass test (x ∷ xs) h = and_from (test x) (list_all test xs) h.0 (all_pass test xs h.1)

passes_at : {A : Type 0} (test : A → Bool) (xs : List A) (i : ℕ) (x : A) → list_all test xs ≡ true → slice_get xs i ≡ Some x → test x ≡ true
passes_at test [] i x h q = absurd (cc)
passes_at test (y ∷ xs) zero x h q = ap test (sym (same_Some y x q)) ∙ (and_parts (test y) (list_all test xs) h).0
passes_at test (y ∷ xs) (suc i) x h q = passes_at test xs i x (and_parts (test y) (list_all test xs) h).1 q

module _ (headers : List Header) (meanings : List ℕ → Meaning) (inner : ℕ → List ℕ → Meaning) where
  -- ---- no two of one name

  abbrev Differs : List (List ℕ × Member) → Type 0
  Differs row = all_differ (map (λ p. p.0) row) ≡ true

  own_differs : (before : Owns) (x : ClassText) → Differs (own_behind headers meanings inner before x)
  own_differs before x = by (has_type (slice_get headers (length before)))
    where
      by : (b : Bool) → Differs (if b then typed_own headers meanings inner before (length before) x else [])
      by true = once_differ (made_from meanings (inner_meaning inner (init_function x.first x.tree.body)) (length before) (above_in before (row_above headers (length before))) (class_events x.first x.tree.body) 0 (class_events x.first x.tree.body))
      by false = refl

  owns_differ : (before : Owns) (xs : List ClassText) → AllByRecursion Differs before → AllByRecursion Differs (owns_behind headers meanings inner before xs)
  owns_differ before [] h = h
  owns_differ before (x ∷ xs) h = owns_differ (before ++ own_behind headers meanings inner before x ∷ []) xs (both Differs before (own_behind headers meanings inner before x ∷ []) h (own_differs before x, tt))

  row_differs : (owns : Owns) (n : ℕ) → AllByRecursion Differs owns → Differs (row_of (slice_get owns n))
  row_differs [] n h = refl
  row_differs (row ∷ owns) zero h = h.0
  row_differs (row ∷ owns) (suc n) h = row_differs owns n h.1

  -- ---- the text of a class with members

  owns_long : (before : Owns) (xs : List ClassText) → length (owns_behind headers meanings inner before xs) ≡ length before + length xs
  owns_long before [] = sym (zero_more (length before))
  owns_long before (x ∷ xs) =
      let own = own_behind headers meanings inner before x in
      owns_long (before ++ own ∷ []) xs ∙ ap (λ n. n + length xs) (length-append before (own ∷ [])) ∙ one_behind (length before) (length xs)

  -- the members of a class are what its text makes
  pub record HasOwn (definitions : List StmtTree) (n : ℕ) : Type 0 where
    pub text : ClassText
    pub found : slice_get (class_texts 0 definitions) n ≡ Some text
    pub before : Owns
    pub long : length before ≡ n
    pub is : members_of headers meanings inner definitions n ≡ own_behind headers meanings inner before text

  abbrev own_of_text : (definitions : List StmtTree) (n : ℕ) (x : ClassText) → slice_get (class_texts 0 definitions) n ≡ Some x → HasOwn definitions n
  own_of_text definitions n x h = let r = row_of_class headers meanings inner definitions n x h in record { text = x; found = h; before = r.before; long = r.long; is = ap row_of r.there }

  no_text : ClassText
  no_text = record { tree = record { name = []; bases = []; body = no_stmts; marks = [] }; first = 0 }

  pub own_there : (definitions : List StmtTree) (n : ℕ) (name : List ℕ) (m : Member) → lookup (bytes_eq name) (members_of headers meanings inner definitions n) ≡ Some m → HasOwn definitions n
  own_there definitions n name m h = by (slice_get (own_members headers meanings inner definitions) n) refl h
    where
      by : (o : Option (List (List ℕ × Member))) → slice_get (own_members headers meanings inner definitions) n ≡ o → lookup (bytes_eq name) (row_of o) ≡ Some m → HasOwn definitions n
      by None q r = absurd (cc)
      by (Some row) q r =
          let texts = class_texts 0 definitions in
          let low : n < length texts = subst (λ k. n < k) (owns_long [] texts ∙ none_more (length texts)) (slice_get_within (own_members headers meanings inner definitions) n row q) in
          own_of_text definitions n (get_or texts n no_text) (slice_get-get_or texts n no_text low)

  -- ---- methods are functions

  -- of a class with a type
  module _ (definitions : List StmtTree) (n : ℕ) (o : HasOwn definitions n) (typed : has_type (slice_get headers n) ≡ true) where
    abbrev pub events : List Event
    events = class_events o.text.first o.text.tree.body

    abbrev pub above : List ℕ → Above
    above = above_in o.before (row_above headers n)

    abbrev pub names_inside : List ℕ → Meaning
    names_inside = inner_meaning inner (init_function o.text.first o.text.tree.body)

    pub made_members : members_of headers meanings inner definitions n ≡ each_once (made_from meanings names_inside n above events 0 events)
    made_members = o.is ∙ own_typed headers meanings inner o.before n o.text o.long typed

    abbrev IsFunction : List ℕ × Member → Type 0
    IsFunction p = (f : ℕ) → p.1 ≡ method f → IsDefined o.text.first o.text.tree.body p.0 f

    makes_functions : (i : ℕ) (v : Event) → slice_get events i ≡ Some v → Makes meanings names_inside n above events IsFunction i v
    makes_functions i v q = record {
      declared = λ h f r. all_there (Defines o.text.first o.text.tree.body) events i v (body_defines (init_function o.text.first o.text.tree.body) o.text.first o.text.tree.body) q f (method_defined meanings names_inside n v.deed f r);
      unknown_set = λ h f r. absurd (cc);
    }

    pub found_function : (name : List ℕ) (f : ℕ) → lookup (bytes_eq name) (members_of headers meanings inner definitions n) ≡ Some (method f) → IsMethodOf headers definitions n f name
    found_function name f h =
        let row = each_once (made_from meanings names_inside n above events 0 events) in
        let found = found_holds IsFunction row name (method f) (own_hold meanings names_inside n above events IsFunction makes_functions) (ap (lookup (bytes_eq name)) (sym made_members) ∙ h) in
        let d = found.holds f refl in
        let p = method_placed headers 0 0 definitions n o.text d.place d.tree o.found d.there in
        let place : p.place ≡ f = sym (none_more p.place) ∙ p.number ∙ sym d.number in
        record {
          tree = d.tree;
          there = ap (slice_get (flat_map held_by definitions)) (sym place) ∙ p.there;
          owned =
              ap (slice_get (owners_from headers 0 definitions)) (sym place) ∙ p.owned ∙ ap (λ k. Some (class_owner headers k)) (none_more n)
              ∙ ap (λ b. Some (if b then Class (Some n) else untyped_owner headers n)) typed;
          named = d.named ∙ found.same;
        }

  function_of_member : (definitions : List StmtTree) (n f : ℕ) (name : List ℕ) (o : HasOwn definitions n) (b : Bool) → has_type (slice_get headers n) ≡ b → lookup (bytes_eq name) (members_of headers meanings inner definitions n) ≡ Some (method f) → IsMethodOf headers definitions n f name
  function_of_member definitions n f name o true q h = found_function definitions n o q name f h
  function_of_member definitions n f name o false q h = absurd (none (sym (ap (lookup (bytes_eq name)) (o.is ∙ empty)) ∙ h))
    where
      empty : own_behind headers meanings inner o.before o.text ≡ []
      empty = ap (λ k. if has_type (slice_get headers k) then typed_own headers meanings inner o.before k o.text else []) o.long ∙ ap (λ z. if z then typed_own headers meanings inner o.before n o.text else []) q

      none : None ≡ Some (method f) → ⊥
      none z = absurd (cc)

  -- ---- functions with new names are methods

  -- names that events of the body of a class take stand among these
  abbrev AreTaken : List Event → List (List ℕ) → Type 0
  AreTaken vs earlier = (name : List ℕ) → contains earlier name ≡ false → list_any (λ v. bytes_eq v.name name && is_of_body v) vs ≡ false

  and_false : (b c : Bool) → c ≡ false → (b && c) ≡ false
  and_false true c h = h
  and_false false c h = refl

  or_false : (b c : Bool) → b ≡ false → c ≡ false → (b || c) ≡ false
  or_false b c p q = cc

  of_init_is_not : (d : Deed) (name : List ℕ) → is_of_init d ≡ true → is_of_body_by name d ≡ false
  of_init_is_not (defines g) name h = absurd (cc)
  of_init_is_not (declares mark) name h = absurd (cc)
  of_init_is_not (annotates mark) name h = refl
  of_init_is_not (gives x) name h = refl
  of_init_is_not sets name h = refl

  init_takes_none : (vs : List Event) (name : List ℕ) → AllByRecursion OfInit vs → list_any (λ v. bytes_eq v.name name && is_of_body v) vs ≡ false
  init_takes_none [] name h = refl
  init_takes_none (v ∷ vs) name h =
      or_false (bytes_eq v.name name && is_of_body v) (list_any (λ (w : Event). bytes_eq w.name name && is_of_body w) vs) (and_false (bytes_eq v.name name) (is_of_body v) (of_init_is_not v.deed v.name h.0)) (init_takes_none vs name h.1)

  guarded : (b : Bool) (vs : List Event) → AllByRecursion OfInit vs → AllByRecursion OfInit (if b then vs else [])
  guarded true vs h = h
  guarded false vs h = tt

  -- these events take no other name than this, if any
  abbrev is_it : Option (List ℕ) → List ℕ → Bool
  is_it None name = false
  is_it (Some x) name = bytes_eq name x

  abbrev TakeOnly : List Event → Option (List ℕ) → Type 0
  TakeOnly vs o = (name : List ℕ) → is_it o name ≡ false → list_any (λ v. bytes_eq v.name name && is_of_body v) vs ≡ false

  taken_more : (vs ws : List Event) (earlier : List (List ℕ)) (o : Option (List ℕ)) → AreTaken vs earlier → TakeOnly ws o → AreTaken (vs ++ ws) (with_name earlier o)
  taken_more vs ws earlier None t w name h =
      list_any-append (λ (v : Event). bytes_eq v.name name && is_of_body v) vs ws
      ∙ or_false (list_any (λ (v : Event). bytes_eq v.name name && is_of_body v) vs) (list_any (λ (v : Event). bytes_eq v.name name && is_of_body v) ws) (t name h) (w name refl)
  taken_more vs ws earlier (Some x) t w name h =
      let p = or_parts (contains earlier name) (contains (x ∷ []) name) (sym (list_any-append (bytes_eq name) earlier (x ∷ [])) ∙ h) in
      let q = or_parts (bytes_eq name x) false p.1 in
      list_any-append (λ (v : Event). bytes_eq v.name name && is_of_body v) vs ws
      ∙ or_false (list_any (λ (v : Event). bytes_eq v.name name && is_of_body v) vs) (list_any (λ (v : Event). bytes_eq v.name name && is_of_body v) ws) (t name p.0) (w name q.0)

  other_lost : (b c : Bool) → b ≡ false → (b && c) ≡ false
  other_lost b c h = cc

  declares_take : (o : Option (List ℕ)) (mark : ExprTree) (span : Span) → TakeOnly (event_of o (declares mark) span) o
  declares_take None mark span name h = refl
  declares_take (Some a) mark span name h = or_false (bytes_eq a name && true) false (other_lost (bytes_eq a name) true (swapped a name ∙ h)) refl

  events_take : (init : Option ℕ) (next : ℕ) (x : StmtTree) → TakeOnly (member_events init next x) (taken_name x)
  events_take init next (s.at (s.Def name params ret body marks) span) other h =
      or_false (bytes_eq name other && is_of_body_by name (defines next)) (list_any (λ (v : Event). bytes_eq v.name other && is_of_body v) (if is_number next init then init_events params body else [])) (other_lost (bytes_eq name other) (is_of_body_by name (defines next)) (swapped name other ∙ h))
      (init_takes_none (if is_number next init then init_events params body else []) other (guarded (is_number next init) (init_events params body) (init_of_init params body)))
  events_take init next (s.at (s.Annot target mark None) span) other h = declares_take (name_in target) mark span other h
  events_take init next (s.at (s.Annot target mark (Some a)) span) other h = refl
  events_take init next (s.at _ span) other h = refl

  none_taken : (name : List ℕ) → contains [] name ≡ false → list_any (λ (v : Event). bytes_eq v.name name && is_of_body v) [] ≡ false
  none_taken name h = refl

  module _ (init : Option ℕ) (class : ℕ) (names_inside : List ℕ → Meaning) (above : List ℕ → Above) (events : List Event) where
    first_here : (next : ℕ) (x : StmtTree) (more : Suite) (front : List Event) (earlier : List (List ℕ)) → events ≡ front ++ (member_events init next x ++ body_events init (next + length (method_in x)) more) → AreTaken front earlier → is_name_new earlier (defined_name x) ≡ true
        → (j : ℕ) (tree : FuncTree) → slice_get (method_in x) j ≡ Some tree → IsFirst meanings names_inside class above events tree.name (next + j)
    first_here next (s.at (s.Def name params ret body marks) span) more front earlier e t h zero tree q =
        let g : FuncTree = record { name = name; params = params; ret = ret; body = body; marks = marks } in
        let new = and_parts (not (contains earlier name)) (not (is_builtin_name name)) h in
        subst (λ (r : FuncTree). IsFirst meanings names_inside class above events r.name (next + 0)) (same_Some g tree q) (record {
          front = front;
          event = event name (defines next) span;
          rest = (if is_number next init then init_events params body else []) ++ body_events init (next + length (method_in (s.at (s.Def name params ret body marks) span))) more;
          whole = e;
          named = refl;
          deed = ap defines (sym (zero_more next));
          none = t name (lost (contains earlier name) new.0);
          plain = lost (is_builtin_name name) new.1;
        })
      where
        lost : (b : Bool) → not b ≡ true → b ≡ false
        lost true z = absurd (cc)
        lost false z = refl
    first_here next (s.at (s.Def name params ret body marks) span) more front earlier e t h (suc j) tree q = absurd (cc)
    first_here next (s.at _ span) more front earlier e t h j tree q = absurd (cc)

    either_first : (next : ℕ) (x : StmtTree) (more : Suite) (j : ℕ) (tree : FuncTree) → ((k : ℕ) → slice_get (method_in x) k ≡ Some tree → IsFirst meanings names_inside class above events tree.name (next + k))
        → ((rest : ℕ) → slice_get (methods_in more) rest ≡ Some tree → IsFirst meanings names_inside class above events tree.name ((next + length (method_in x)) + rest))
        → (slice_get (method_in x) j ≡ Some tree) ⊎ Behind (method_in x) (methods_in more) j tree → IsFirst meanings names_inside class above events tree.name (next + j)
    either_first next x more j tree here behind (inl q) = here j q
    either_first next x more j tree here behind (inr b) =
        subst (IsFirst meanings names_inside class above events tree.name) (sym (grouped next (length (method_in x)) b.rest) ∙ ap (λ k. next + k) (sym b.place)) (behind b.rest b.there)

    pub first_def : (next : ℕ) (body : Suite) (front : List Event) (earlier : List (List ℕ)) → events ≡ front ++ body_events init next body → AreTaken front earlier → are_defs_new earlier body ≡ true
        → (j : ℕ) (tree : FuncTree) → slice_get (methods_in body) j ≡ Some tree → IsFirst meanings names_inside class above events tree.name (next + j)
    first_def next s.no_stmts front earlier e t h j tree q = absurd (cc)
    first_def next (s.stmt_then x more) front earlier e t h j tree q =
        let p = and_parts (is_name_new earlier (defined_name x)) (are_defs_new (with_name earlier (taken_name x)) more) h in
        let vs = member_events init next x in
        let rest = body_events init (next + length (method_in x)) more in
        either_first next x more j tree (λ k r. first_here next x more front earlier e t p.0 k tree r)
        (λ k r. first_def (next + length (method_in x)) more (front ++ vs) (with_name earlier (taken_name x)) (e ∙ sym (append_assoc front vs rest)) (taken_more front vs earlier (taken_name x) t (events_take init next x)) p.1 k tree r)
        (at_either (method_in x) (methods_in more) j tree q)

  typed_same : (b : Bool) (k n : ℕ) → has_type (slice_get headers k) ≡ b → (if b then Class (Some k) else untyped_owner headers k) ≡ Class (Some n) → (k ≡ n) × (has_type (slice_get headers n) ≡ true)
  typed_same true k n e q = let same : k ≡ n = cc in (same, subst (λ i. has_type (slice_get headers i) ≡ true) same e)
  typed_same false k n e q = absurd (untyped_other headers k n q)

  new_is_method : (definitions : List StmtTree) → list_all (λ x. are_defs_new [] x.body) (classes_in definitions) ≡ true → (n f : ℕ) (tree : FuncTree)
      → slice_get (flat_map held_by definitions) f ≡ Some tree → slice_get (owners_from headers 0 definitions) f ≡ Some (Class (Some n)) → lookup (bytes_eq tree.name) (members_of headers meanings inner definitions n) ≡ Some (method f)
  new_is_method definitions h n f tree there owned =
      let p = function_of_class headers 0 0 definitions f n tree there owned in
      let t = typed_same (has_type (slice_get headers (0 + p.class))) (0 + p.class) n refl p.same in
      let class : p.class ≡ n = sym (none_more p.class) ∙ t.0 in
      let found : slice_get (class_texts 0 definitions) n ≡ Some p.text = ap (slice_get (class_texts 0 definitions)) (sym class) ∙ p.found in
      let o = own_of_text definitions n p.text found in
      let tree_there : slice_get (classes_in definitions) n ≡ Some p.text.tree =
      ap (λ l. slice_get l n) (sym (trees_of_texts 0 definitions)) ∙ slice_get-map (λ (x : ClassText). x.tree) (class_texts 0 definitions) n ∙ ap (option_map (λ (x : ClassText). x.tree)) found in
      let new = passes_at (λ (x : ClassTree). are_defs_new [] x.body) (classes_in definitions) n p.text.tree h tree_there in
      let vs = class_events p.text.first p.text.tree.body in
      let init = init_function p.text.first p.text.tree.body in
      let up = above_in o.before (row_above headers n) in
      let first = first_def init n (inner_meaning inner init) up vs p.text.first p.text.tree.body [] [] refl none_taken new p.place tree p.there in
      ap (lookup (bytes_eq tree.name)) (made_members definitions n o t.1) ∙ first_is_member meanings (inner_meaning inner init) n up vs tree.name (p.text.first + p.place) first
      ∙ ap (λ k. Some (method k)) (sym p.number ∙ none_more f)

  -- ---- classes without attributes and `__init__`

  -- each of these names is taken by an event of the body
  abbrev Takes : List Event → List (List ℕ) → Type 0
  Takes vs methods = (name : List ℕ) → contains methods name ≡ true → list_any (λ v. bytes_eq v.name name && is_of_body v) vs ≡ true

  or_first : (b c : Bool) → b ≡ true → (b || c) ≡ true
  or_first b c h = cc

  or_second : (b c : Bool) → c ≡ true → (b || c) ≡ true
  or_second true c h = refl
  or_second false c h = h

  still_taken : (vs ws : List Event) (methods : List (List ℕ)) → Takes vs methods → Takes (vs ++ ws) methods
  still_taken vs ws methods t name h =
      list_any-append (λ (v : Event). bytes_eq v.name name && is_of_body v) vs ws
      ∙ or_first (list_any (λ (v : Event). bytes_eq v.name name && is_of_body v) vs) (list_any (λ (v : Event). bytes_eq v.name name && is_of_body v) ws) (t name h)

  -- a def that is no builtin's
  taken_def : (vs : List Event) (v : Event) (methods : List (List ℕ)) → is_of_body v ≡ true → Takes vs methods → (b : Bool) → Takes (vs ++ v ∷ []) (if b then methods else methods ++ v.name ∷ [])
  taken_def vs v methods e t true = still_taken vs (v ∷ []) methods t
  taken_def vs v methods e t false = λ name h. by name (contains methods name) refl (sym (list_any-append (bytes_eq name) methods (v.name ∷ [])) ∙ h)
    where
      last : (name : List ℕ) → bytes_eq name v.name ≡ true → list_any (λ (w : Event). bytes_eq w.name name && is_of_body w) (vs ++ v ∷ []) ≡ true
      last name q =
          list_any-append (λ (w : Event). bytes_eq w.name name && is_of_body w) vs (v ∷ [])
          ∙ or_second (list_any (λ (w : Event). bytes_eq w.name name && is_of_body w) vs) ((bytes_eq v.name name && is_of_body v) || false) (both_true (bytes_eq v.name name) (is_of_body v) (swapped v.name name ∙ q) e)
        where
          both_true : (b c : Bool) → b ≡ true → c ≡ true → ((b && c) || false) ≡ true
          both_true b c p r = cc

      by : (name : List ℕ) (c : Bool) → contains methods name ≡ c → (contains methods name || (bytes_eq name v.name || false)) ≡ true → list_any (λ (w : Event). bytes_eq w.name name && is_of_body w) (vs ++ v ∷ []) ≡ true
      by name true q r = still_taken vs (v ∷ []) methods t name q
      by name false q r = last name (right_of (contains methods name) (bytes_eq name v.name) q r)
        where
          right_of : (b c : Bool) → b ≡ false → (b || (c || false)) ≡ true → c ≡ true
          right_of true c p u = absurd (cc)
          right_of false true p u = refl
          right_of false false p u = absurd (cc)

  method_taken : (vs : List Event) (next : ℕ) (name : List ℕ) (span : Span) (methods : List (List ℕ)) → Takes vs methods → (b : Bool) → is_builtin_name name ≡ b → Takes (vs ++ event name (defines next) span ∷ []) (if b then methods else insert_key bytes_eq methods name)
  method_taken vs next name span methods t true q = still_taken vs (event name (defines next) span ∷ []) methods t
  method_taken vs next name span methods t false q = taken_def vs (event name (defines next) span) methods (ap not q) t (list_any (bytes_eq name) methods)

  it_is : (b : Bool) → not b ≡ false → b ≡ true
  it_is true h = refl
  it_is false h = absurd (cc)

  module _ (class : ℕ) (names_inside : List ℕ → Meaning) (above : List ℕ → Above) (events : List Event) where
    abbrev IsPlain : List ℕ × Member → Type 0
    IsPlain p = is_plain_method p ≡ true

    made_two : (i : ℕ) (xs ys : List Event) → made_from meanings names_inside class above events i (xs ++ ys) ≡ made_from meanings names_inside class above events i xs ++ made_from meanings names_inside class above events (i + length xs) ys
    made_two i [] ys = ap (λ k. made_from meanings names_inside class above events k ys) (sym (zero_more i))
    made_two i (x ∷ xs) ys =
        let one = made meanings names_inside class above events i x in
        ap (λ l. one ++ l) (made_two (i + 1) xs ys ∙ ap (λ k. made_from meanings names_inside class above events (i + 1) xs ++ made_from meanings names_inside class above events k ys) (one_behind i (length xs)))
        ∙ sym (append_assoc one (made_from meanings names_inside class above events (i + 1) xs) (made_from meanings names_inside class above events (i + suc (length xs)) ys))

    plain_def : (i next : ℕ) (name : List ℕ) (span : Span) → bytes_eq name (codes "__init__") ≡ false → AllByRecursion IsPlain (made_from meanings names_inside class above events i (event name (defines next) span ∷ []))
    plain_def i next name span h = by (declares_by events (places events name) (above name) i name (defines next))
      where
        by : (b : Bool) → AllByRecursion IsPlain ((if b then (name, method next) ∷ [] else []) ++ [])
        by true = (ap not h, tt)
        by false = tt

    no_declaration : (front rest : List Event) → events ≡ front ++ rest → (a : List ℕ) (mark : ExprTree) → list_any (λ v. bytes_eq v.name a && is_of_body v) front ≡ true → declares_by events (places events a) (above a) (length front) a (declares mark) ≡ false
    no_declaration front rest e a mark h =
        let stands : stands_before (length front) (places events a).body ≡ true =
        ap (λ l. stands_before (length front) (position_from (λ (v : Event). bytes_eq v.name a && is_of_body v) 0 l)) e
        ∙ ap (λ n. stands_before n (position_from (λ (v : Event). bytes_eq v.name a && is_of_body v) 0 (front ++ rest))) (sym (none_more (length front)))
        ∙ stands_in_front (λ (v : Event). bytes_eq v.name a && is_of_body v) 0 front rest h in
        ap (λ b. not b && not (stands_before (length front) (places events a).init && is_annotation (deed_at events (places events a).init))) stands

    plain_declaration : (front rest : List Event) → events ≡ front ++ rest → (methods : List (List ℕ)) → Takes front methods → (o : Option (List ℕ)) (mark : ExprTree) (span : Span) → is_declared methods o ≡ false → AllByRecursion IsPlain (made_from meanings names_inside class above events (length front) (event_of o (declares mark) span))
    plain_declaration front rest e methods t None mark span h = tt
    plain_declaration front rest e methods t (Some a) mark span h =
        let none = no_declaration front rest e a mark (t a (it_is (contains methods a) h)) in
        subst (λ b. AllByRecursion IsPlain ((if b then (a, member_by meanings names_inside class (declares mark)) ∷ [] else []) ++ [])) (sym none) tt

    -- of the events of one statement
    plain_one : (front : List Event) (next : ℕ) (x : StmtTree) (rest : List Event) → events ≡ front ++ (member_events None next x ++ rest) → (methods : List (List ℕ)) → Takes front methods → is_declared methods (declared_name x) ≡ false → is_init (defined_name x) ≡ false
        → AllByRecursion IsPlain (made_from meanings names_inside class above events (length front) (member_events None next x))
    plain_one front next (s.at (s.Def name params ret body marks) span) rest e methods t d h = plain_def (length front) next name span h
    plain_one front next (s.at (s.Annot target mark None) span) rest e methods t d h = plain_declaration front (event_of (name_in target) (declares mark) span ++ rest) e methods t (name_in target) mark span d
    plain_one front next (s.at (s.Annot target mark (Some a)) span) rest e methods t d h = tt
    plain_one front next (s.at _ span) rest e methods t d h = tt

    takes_one : (front : List Event) (next : ℕ) (x : StmtTree) (methods : List (List ℕ)) → Takes front methods → Takes (front ++ member_events None next x) (with_method methods (defined_name x))
    takes_one front next (s.at (s.Def name params ret body marks) span) methods t = method_taken front next name span methods t (is_builtin_name name) refl
    takes_one front next (s.at (s.Annot target mark None) span) methods t = still_taken front (event_of (name_in target) (declares mark) span) methods t
    takes_one front next (s.at (s.Annot target mark (Some a)) span) methods t = still_taken front [] methods t
    takes_one front next (s.at _ span) methods t = still_taken front [] methods t

    plain_body : (next : ℕ) (body : Suite) (front : List Event) (methods : List (List ℕ)) → events ≡ front ++ body_events None next body → Takes front methods → declares_behind methods body ≡ false → has_init body ≡ false
        → AllByRecursion IsPlain (made_from meanings names_inside class above events (length front) (body_events None next body))
    plain_body next s.no_stmts front methods e t d h = tt
    plain_body next (s.stmt_then x more) front methods e t d h =
        let p = or_parts (is_declared methods (declared_name x)) (declares_behind (with_method methods (defined_name x)) more) d in
        let q = or_parts (is_init (defined_name x)) (has_init more) h in
        let vs = member_events None next x in
        let rest = body_events None (next + length (method_in x)) more in
        subst (AllByRecursion IsPlain) (sym (made_two (length front) vs rest))
        (both IsPlain (made_from meanings names_inside class above events (length front) vs) (made_from meanings names_inside class above events (length front + length vs) rest)
        (plain_one front next x rest e methods t p.0 q.0)
        (subst (λ k. AllByRecursion IsPlain (made_from meanings names_inside class above events k rest)) (length-append front vs)
        (plain_body (next + length (method_in x)) more (front ++ vs) (with_method methods (defined_name x)) (e ∙ sym (append_assoc front vs rest)) (takes_one front next x methods t) p.1 q.1)))

  none_takes : Takes [] []
  none_takes name h = absurd (cc)

  plain_own : (definitions : List StmtTree) (n : ℕ) (o : HasOwn definitions n) → has_attributes o.text.tree.body ≡ false → has_init o.text.tree.body ≡ false → (b : Bool) → has_type (slice_get headers n) ≡ b → list_all is_plain_method (members_of headers meanings inner definitions n) ≡ true
  plain_own definitions n o d h true q =
      let init = no_init o.text.first o.text.tree.body h in
      let vs = body_events None o.text.first o.text.tree.body in
      let up = above_in o.before (row_above headers n) in
      let row = λ (i : Option ℕ). each_once (made_from meanings (inner_meaning inner i) n up (body_events i o.text.first o.text.tree.body) 0 (body_events i o.text.first o.text.tree.body)) in
      ap (list_all is_plain_method) (made_members definitions n o q ∙ ap row init)
      ∙ all_pass is_plain_method (row None) (new_hold (λ p. is_plain_method p ≡ true) [] (made_from meanings (inner_meaning inner None) n up vs 0 vs) tt (plain_body n (inner_meaning inner None) up vs o.text.first o.text.tree.body [] [] refl none_takes d h))
  plain_own definitions n o d h false q =
      ap (list_all is_plain_method) (o.is ∙ ap (λ k. if has_type (slice_get headers k) then typed_own headers meanings inner o.before k o.text else []) o.long ∙ ap (λ z. if z then typed_own headers meanings inner o.before n o.text else []) q)

pub names_differ : NamesDiffer
names_differ headers meanings inner definitions n = row_differs headers meanings inner (own_members headers meanings inner definitions) n (owns_differ headers meanings inner [] (class_texts 0 definitions) tt)

pub methods_are_functions : MethodsAreFunctions
methods_are_functions headers meanings inner definitions n f name h =
    function_of_member headers meanings inner definitions n f name (own_there headers meanings inner definitions n name (method f) h) (has_type (slice_get headers n)) refl h

pub new_functions_are_methods : NewFunctionsAreMethods
new_functions_are_methods headers meanings inner definitions h n f tree there owned = new_is_method headers meanings inner definitions h n f tree there owned

pub plain_classes : PlainClassesHaveMethodsAlone
plain_classes headers meanings inner definitions n x h d k =
    let t = text_of_class 0 definitions n x h in
    plain_own headers meanings inner definitions n (own_of_text headers meanings inner definitions n t.text t.there) (ap (λ (c : ClassTree). has_attributes c.body) t.same ∙ d) (ap (λ (c : ClassTree). has_init c.body) t.same ∙ k) (has_type (slice_get headers n)) refl
