-- Where the functions and the members of a class stand among those of a module.
use Rattle.std.proofs.Common.{◌≡◌, ℕ, zero, suc, ◌+◌, Bool, true, false, List, [], ◌∷◌, ◌++◌, map, length, Option, Some, None, refl, ap, ap₂, sym, ◌∙◌, subst, arith, ◌⊎◌, inl, inr, if◌then◌else◌}
use Rattle.std.proofs.lemmas.Option.{same_Some}
use Rattle.std.proofs.lemmas.List.{length-map, length-append, map-append}
use Rattle.std.specs.Prelude.{slice_get}
use Rattle.std.specs.List.{flat_map}
use Rattle.py_syntax.specs.declared.token.Span.{Span}
use Rattle.py_syntax.specs.Statements as s
use Rattle.py_syntax.specs.Statements.{StmtTree, Suite, FuncTree, ClassTree}
use Rattle.py_check_context.specs.declared.scope.Meaning.{Meaning}
use Rattle.py_check_context.specs.Members.{Member}
use Rattle.py_check_names.specs.Outline.{methods_in, held_by}
use Rattle.py_check_signatures.specs.declared.headers.Owner.{Owner}
use Rattle.py_check_signatures.specs.declared.headers.Owner.TheVariants.{Module, Class, UntypedTrait}
use Rattle.py_check_classes.specs.declared.header.Header.{Header}
use Rattle.py_check_classes.specs.Names.{class_in, classes_in}
use Rattle.py_check_classes.specs.Headers.{has_type, is_untyped_trait}
use Rattle.py_check_members.specs.Members.{Owns, own_at, row_of, ClassText, class_text, class_texts, typed_own, own_behind, owns_behind, own_members}
use Rattle.py_check_definitions.specs.Owners.{untyped_owner, class_owner, owners_in, owners_from}
use Rattle.py_check_members_laws.proofs.Rows.{none_more, zero_more, grouped, one_behind, at_front, at_back, Behind, at_either}

-- the methods of a class without a type are of none that has one
pub untyped_other : (headers : List Header) (k n : ℕ) → untyped_owner headers k ≡ Class (Some n) → ⊥
untyped_other headers k n q = by (is_untyped_trait (slice_get headers k)) q
  where
    by : (b : Bool) → (if b then UntypedTrait else Class None) ≡ Class (Some n) → ⊥
    by true r = cc
    by false r = cc

-- ---- functions

module _ (headers : List Header) where
  -- a method stands at the place of its class
  pub record IsPlaced (next classes : ℕ) (definitions : List StmtTree) (x : ClassText) (i j : ℕ) (tree : FuncTree) : Type 0 where
    pub place : ℕ
    pub number : next + place ≡ x.first + j
    pub there : slice_get (flat_map held_by definitions) place ≡ Some tree
    pub owned : slice_get (owners_from headers classes definitions) place ≡ Some (class_owner headers (classes + i))

  owned_long : (n : ℕ) (d : StmtTree) → length (owners_in headers n d) ≡ length (held_by d)
  owned_long n (s.at (s.Def name params ret body marks) span) = refl
  owned_long n (s.at (s.ClassDef name bases body marks) span) = length-map (methods_in body) (λ (f : FuncTree). class_owner headers n)
  owned_long n (s.at _ span) = refl

  all_owned : {A B : Type 0} (b : B) (xs : List A) (j : ℕ) (a : A) → slice_get xs j ≡ Some a → slice_get (map (λ (x : A). b) xs) j ≡ Some b
  all_owned b [] j a h = absurd (cc)
  all_owned b (x ∷ xs) zero a h = refl
  all_owned b (x ∷ xs) (suc j) a h = all_owned b xs j a h

  -- behind one more definition
  shifted : (next classes : ℕ) (d : StmtTree) (more : List StmtTree) (x : ClassText) (i j : ℕ) (tree : FuncTree) → IsPlaced (next + length (held_by d)) (classes + length (class_in d)) more x i j tree → IsPlaced next classes (d ∷ more) x (length (class_in d) + i) j tree
  shifted next classes d more x i j tree p = record {
    place = length (held_by d) + p.place;
    number = grouped next (length (held_by d)) p.place ∙ p.number;
    there = at_back (held_by d) (flat_map held_by more) p.place ∙ p.there;
    owned =
        ap (λ n. slice_get (owners_from headers classes (d ∷ more)) (n + p.place)) (sym (owned_long classes d))
        ∙ at_back (owners_in headers classes d) (owners_from headers (classes + length (class_in d)) more) p.place
        ∙ p.owned ∙ ap (λ n. Some (class_owner headers n)) (sym (grouped classes (length (class_in d)) i));
  }

  front_placed : (next classes : ℕ) (d : StmtTree) (more : List StmtTree) (i : ℕ) (x : ClassText) (j : ℕ) (tree : FuncTree) → slice_get (map (class_text next) (class_in d)) i ≡ Some x → slice_get (methods_in x.tree.body) j ≡ Some tree → IsPlaced next classes (d ∷ more) x i j tree
  front_placed next classes (s.at (s.ClassDef name bases body marks) span) more zero x j tree h k =
      let c : ClassTree = record { name = name; bases = bases; body = body; marks = marks } in
      let same : class_text next c ≡ x = same_Some (class_text next c) x h in
      let there : slice_get (methods_in body) j ≡ Some tree = ap (λ (y : ClassText). slice_get (methods_in y.tree.body) j) same ∙ k in
      record {
        place = j;
        number = ap (λ (y : ClassText). y.first + j) same;
        there = at_front (methods_in body) (flat_map held_by more) j tree there;
        owned =
            at_front (map (λ (f : FuncTree). class_owner headers classes) (methods_in body)) (owners_from headers (classes + 1) more) j (class_owner headers classes) (all_owned (class_owner headers classes) (methods_in body) j tree there)
            ∙ ap (λ n. Some (class_owner headers n)) (sym (zero_more classes));
      }
  front_placed next classes (s.at (s.ClassDef name bases body marks) span) more (suc i) x j tree h k = absurd (cc)
  front_placed next classes (s.at _ span) more i x j tree h k = absurd (cc)

  placed_by : (next classes : ℕ) (d : StmtTree) (more : List StmtTree) (i : ℕ) (x : ClassText) (j : ℕ) (tree : FuncTree) → slice_get (methods_in x.tree.body) j ≡ Some tree
      → ((rest : ℕ) → slice_get (class_texts (next + length (held_by d)) more) rest ≡ Some x → IsPlaced (next + length (held_by d)) (classes + length (class_in d)) more x rest j tree)
      → (slice_get (map (class_text next) (class_in d)) i ≡ Some x) ⊎ Behind (map (class_text next) (class_in d)) (class_texts (next + length (held_by d)) more) i x → IsPlaced next classes (d ∷ more) x i j tree
  placed_by next classes d more i x j tree k go (inl q) = front_placed next classes d more i x j tree q k
  placed_by next classes d more i x j tree k go (inr b) =
      subst (λ n. IsPlaced next classes (d ∷ more) x n j tree) (sym (b.place ∙ ap (λ n. n + b.rest) (length-map (class_in d) (class_text next)))) (shifted next classes d more x b.rest j tree (go b.rest b.there))

  pub method_placed : (next classes : ℕ) (definitions : List StmtTree) (i : ℕ) (x : ClassText) (j : ℕ) (tree : FuncTree) → slice_get (class_texts next definitions) i ≡ Some x → slice_get (methods_in x.tree.body) j ≡ Some tree → IsPlaced next classes definitions x i j tree
  method_placed next classes [] i x j tree h k = absurd (cc)
  method_placed next classes (d ∷ more) i x j tree h k =
      placed_by next classes d more i x j tree k (λ rest q. method_placed (next + length (held_by d)) (classes + length (class_in d)) more rest x j tree q k)
      (at_either (map (class_text next) (class_in d)) (class_texts (next + length (held_by d)) more) i x h)

  -- a function of a class stands in its text
  pub record IsOf (next classes : ℕ) (definitions : List StmtTree) (f n : ℕ) (tree : FuncTree) : Type 0 where
    pub class : ℕ
    pub text : ClassText
    pub place : ℕ
    pub found : slice_get (class_texts next definitions) class ≡ Some text
    pub there : slice_get (methods_in text.tree.body) place ≡ Some tree
    pub number : next + f ≡ text.first + place
    pub same : class_owner headers (classes + class) ≡ Class (Some n)

  of_behind : (next classes : ℕ) (d : StmtTree) (more : List StmtTree) (f n rest : ℕ) (tree : FuncTree) → f ≡ length (held_by d) + rest → IsOf (next + length (held_by d)) (classes + length (class_in d)) more rest n tree → IsOf next classes (d ∷ more) f n tree
  of_behind next classes d more f n rest tree q o = record {
    class = length (map (class_text next) (class_in d)) + o.class;
    text = o.text;
    place = o.place;
    found = at_back (map (class_text next) (class_in d)) (class_texts (next + length (held_by d)) more) o.class ∙ o.found;
    there = o.there;
    number = ap (λ k. next + k) q ∙ grouped next (length (held_by d)) rest ∙ o.number;
    same =
        ap (λ k. class_owner headers (classes + (k + o.class))) (length-map (class_in d) (class_text next))
        ∙ ap (class_owner headers) (grouped classes (length (class_in d)) o.class) ∙ o.same;
  }

  front_of : (next classes : ℕ) (d : StmtTree) (more : List StmtTree) (f n : ℕ) (tree : FuncTree) → slice_get (held_by d) f ≡ Some tree → slice_get (owners_in headers classes d ++ owners_from headers (classes + length (class_in d)) more) f ≡ Some (Class (Some n)) → IsOf next classes (d ∷ more) f n tree
  front_of next classes (s.at (s.Def name params ret body marks) span) more zero n tree h k = absurd (cc)
  front_of next classes (s.at (s.Def name params ret body marks) span) more (suc f) n tree h k = absurd (cc)
  front_of next classes (s.at (s.ClassDef name bases body marks) span) more f n tree h k =
      let mine = class_owner headers classes in
      let front = at_front (map (λ (g : FuncTree). mine) (methods_in body)) (owners_from headers (classes + 1) more) f mine (all_owned mine (methods_in body) f tree h) in
      record {
        class = 0;
        text = class_text next (record { name = name; bases = bases; body = body; marks = marks });
        place = f;
        found = refl;
        there = h;
        number = refl;
        same = ap (class_owner headers) (zero_more classes) ∙ same_Some mine (Class (Some n)) (sym front ∙ k);
      }
  front_of next classes (s.at _ span) more f n tree h k = absurd (cc)

  of_either : (next classes : ℕ) (d : StmtTree) (more : List StmtTree) (f n : ℕ) (tree : FuncTree) → slice_get (owners_from headers classes (d ∷ more)) f ≡ Some (Class (Some n))
      → ((rest : ℕ) → slice_get (flat_map held_by more) rest ≡ Some tree → slice_get (owners_from headers (classes + length (class_in d)) more) rest ≡ Some (Class (Some n)) → IsOf (next + length (held_by d)) (classes + length (class_in d)) more rest n tree)
      → (slice_get (held_by d) f ≡ Some tree) ⊎ Behind (held_by d) (flat_map held_by more) f tree → IsOf next classes (d ∷ more) f n tree
  of_either next classes d more f n tree k go (inl q) = front_of next classes d more f n tree q k
  of_either next classes d more f n tree k go (inr b) =
      let owned : slice_get (owners_from headers (classes + length (class_in d)) more) b.rest ≡ Some (Class (Some n)) =
      sym (at_back (owners_in headers classes d) (owners_from headers (classes + length (class_in d)) more) b.rest)
      ∙ ap (λ l. slice_get (owners_from headers classes (d ∷ more)) (l + b.rest)) (owned_long classes d) ∙ sym (ap (slice_get (owners_from headers classes (d ∷ more))) b.place) ∙ k in
      of_behind next classes d more f n b.rest tree b.place (go b.rest b.there owned)

  pub function_of_class : (next classes : ℕ) (definitions : List StmtTree) (f n : ℕ) (tree : FuncTree) → slice_get (flat_map held_by definitions) f ≡ Some tree → slice_get (owners_from headers classes definitions) f ≡ Some (Class (Some n)) → IsOf next classes definitions f n tree
  function_of_class next classes [] f n tree h k = absurd (cc)
  function_of_class next classes (d ∷ more) f n tree h k =
      of_either next classes d more f n tree k (λ rest q o. function_of_class (next + length (held_by d)) (classes + length (class_in d)) more rest n tree q o) (at_either (held_by d) (flat_map held_by more) f tree h)

-- ---- classes

text_in_map : (next : ℕ) (cs : List ClassTree) (k : ℕ) (c : ClassTree) → slice_get cs k ≡ Some c → slice_get (map (class_text next) cs) k ≡ Some (class_text next c)
text_in_map next [] k c q = absurd (cc)
text_in_map next (x ∷ cs) zero c q = ap (λ (y : ClassTree). Some (class_text next y)) (same_Some x c q)
text_in_map next (x ∷ cs) (suc k) c q = text_in_map next cs k c q

-- the text of the class of a number
pub record HasText (texts : List ClassText) (n : ℕ) (c : ClassTree) : Type 0 where
  pub text : ClassText
  pub there : slice_get texts n ≡ Some text
  pub same : text.tree ≡ c

text_either : (next : ℕ) (d : StmtTree) (more : List StmtTree) (n : ℕ) (c : ClassTree) → ((rest : ℕ) → slice_get (classes_in more) rest ≡ Some c → HasText (class_texts (next + length (held_by d)) more) rest c)
    → (slice_get (class_in d) n ≡ Some c) ⊎ Behind (class_in d) (classes_in more) n c → HasText (class_texts next (d ∷ more)) n c
text_either next d more n c go (inl q) =
    record { text = class_text next c; there = at_front (map (class_text next) (class_in d)) (class_texts (next + length (held_by d)) more) n (class_text next c) (text_in_map next (class_in d) n c q); same = refl }
text_either next d more n c go (inr b) =
    let r = go b.rest b.there in
    record {
      text = r.text;
      there =
          ap (slice_get (class_texts next (d ∷ more))) (b.place ∙ ap (λ l. l + b.rest) (sym (length-map (class_in d) (class_text next))))
          ∙ at_back (map (class_text next) (class_in d)) (class_texts (next + length (held_by d)) more) b.rest ∙ r.there;
      same = r.same;
    }

pub text_of_class : (next : ℕ) (definitions : List StmtTree) (n : ℕ) (c : ClassTree) → slice_get (classes_in definitions) n ≡ Some c → HasText (class_texts next definitions) n c
text_of_class next [] n c h = absurd (cc)
text_of_class next (d ∷ more) n c h = text_either next d more n c (λ rest q. text_of_class (next + length (held_by d)) more rest c q) (at_either (class_in d) (classes_in more) n c h)

-- and the class of a text
trees_in_map : (next : ℕ) (cs : List ClassTree) → map (λ (x : ClassText). x.tree) (map (class_text next) cs) ≡ cs
trees_in_map next [] = refl
trees_in_map next (c ∷ cs) = ap (λ l. c ∷ l) (trees_in_map next cs)

pub trees_of_texts : (next : ℕ) (definitions : List StmtTree) → map (λ (x : ClassText). x.tree) (class_texts next definitions) ≡ classes_in definitions
trees_of_texts next [] = refl
trees_of_texts next (d ∷ more) =
    map-append (λ (x : ClassText). x.tree) (map (class_text next) (class_in d)) (class_texts (next + length (held_by d)) more)
    ∙ ap₂ (λ (a b : List ClassTree). a ++ b) (trees_in_map next (class_in d)) (trees_of_texts (next + length (held_by d)) more)

-- ---- members

module _ (headers : List Header) (meanings : List ℕ → Meaning) (inner : ℕ → List ℕ → Meaning) where
  kept_rows : (before : Owns) (xs : List ClassText) (k : ℕ) (row : List (List ℕ × Member)) → slice_get before k ≡ Some row → slice_get (owns_behind headers meanings inner before xs) k ≡ Some row
  kept_rows before [] k row h = h
  kept_rows before (x ∷ xs) k row h = kept_rows (before ++ own_behind headers meanings inner before x ∷ []) xs k row (at_front before (own_behind headers meanings inner before x ∷ []) k row h)

  -- the members of a class are made behind those of the classes before
  pub record IsOwn (count : ℕ) (row : Option (List (List ℕ × Member))) (x : ClassText) : Type 0 where
    pub before : Owns
    pub long : length before ≡ count
    pub there : row ≡ Some (own_behind headers meanings inner before x)

  pub owns_placed : (before : Owns) (xs : List ClassText) (i : ℕ) (x : ClassText) → slice_get xs i ≡ Some x → IsOwn (length before + i) (slice_get (owns_behind headers meanings inner before xs) (length before + i)) x
  owns_placed before [] i x h = absurd (cc)
  owns_placed before (y ∷ xs) zero x h =
      let own = own_behind headers meanings inner before y in
      record {
        before = before;
        long = sym (zero_more (length before));
        there =
            kept_rows (before ++ own ∷ []) xs (length before + 0) own (at_back before (own ∷ []) 0)
            ∙ ap (λ (z : ClassText). Some (own_behind headers meanings inner before z)) (same_Some y x h);
      }
  owns_placed before (y ∷ xs) (suc i) x h =
      let own = own_behind headers meanings inner before y in
      let r = owns_placed (before ++ own ∷ []) xs i x h in
      let n : length (before ++ own ∷ []) + i ≡ length before + suc i = ap (λ k. k + i) (length-append before (own ∷ [])) ∙ one_behind (length before) i in
      record { before = r.before; long = r.long ∙ n; there = ap (slice_get (owns_behind headers meanings inner (before ++ own ∷ []) xs)) (sym n) ∙ r.there }

  -- and where the class has a type they are what its text makes
  pub own_typed : (before : Owns) (n : ℕ) (x : ClassText) → length before ≡ n → has_type (slice_get headers n) ≡ true → own_behind headers meanings inner before x ≡ typed_own headers meanings inner before n x
  own_typed before n x l h =
      ap (λ k. if has_type (slice_get headers k) then typed_own headers meanings inner before k x else []) l ∙ ap (λ b. if b then typed_own headers meanings inner before n x else []) h

  pub row_of_class : (definitions : List StmtTree) (n : ℕ) (x : ClassText) → slice_get (class_texts 0 definitions) n ≡ Some x → IsOwn n (slice_get (own_members headers meanings inner definitions) n) x
  row_of_class definitions n x h =
      let all = own_members headers meanings inner definitions in
      subst (λ k. IsOwn k (slice_get all k) x) (none_more n) (owns_placed [] (class_texts 0 definitions) n x h)
