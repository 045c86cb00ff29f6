-- Where nothing is said of a module, what is in reach of its statements has types, and its classes and functions stand in the typed module.
use Rattle.std.proofs.Common.{◌≡◌, ℕ, suc, ◌<◌, Bool, true, ◌&&◌, List, [], ◌∷◌, ◌++◌, map, length, Option, Some, None, refl, ap, sym, ◌∙◌, subst, arith, unwrap_or}
use Rattle.std.proofs.lemmas.Bool.Decides.{nat_tests}
use Rattle.std.proofs.lemmas.Option.{same_Some, slice_get-map, slice_get_within}
use Rattle.std.specs.Prelude.{slice_get, is_some, nat_lt, codes}
use Rattle.std.specs.List.{list_all, zip, AllByRecursion}
use Rattle.std.specs.Option.{option_map}
use Rattle.std.specs.Str.{bytes_eq}
use Rattle.py_syntax.specs.Statements.{Suite, FuncTree}
use Rattle.py_binder.specs.declared.scope.Scope.{Scope}
use Rattle.py_binder.specs.Scope.{module_scope, function_scope, functions}
use Rattle.py_typed.specs.Sorts as sort
use Rattle.py_typed.specs.Sorts.{Sort}
use Rattle.py_typed.specs.Classes.{Signature}
use Rattle.py_typed.specs.Fits.{is_nothing}
use Rattle.py_typed.specs.WellTypedExpr.{is_value_type, is_function}
use Rattle.py_typed.specs.WellTypedModule.{names_of}
use Rattle.py_check_context.specs.declared.scope.Meaning.TheVariants as meaning
use Rattle.py_check_context.specs.Context.{some_signature}
use Rattle.py_check_context.specs.Members.{attribute}
use Rattle.py_check_names.specs.Meanings.{variables, meaning_in}
use Rattle.py_check_signatures.specs.declared.headers.Owner.{Owner}
use Rattle.py_check_signatures.specs.declared.headers.Owner.TheVariants as owner
use Rattle.py_check_signatures.specs.Headers.{header, signature_of, is_init, none_returned, returned, return_at}
use Rattle.py_check_classes.specs.Names.{classes_in, said_of_names}
use Rattle.py_check_classes.specs.Headers.{has_type}
use Rattle.py_check_classes.proofs.HeaderLemmas.{headers_sound}
use Rattle.py_check_members.specs.Members.{own_member, inner_meaning, ClassText, class_texts, scope_meaning}
use Rattle.py_check_definitions.specs.Definitions.{Headed, headed, headed_functions, signatures}
use Rattle.py_check_definitions.specs.Names.{known_in, module_meaning}
use Rattle.py_check_definitions.specs.Owners.{owners_from, owners}
use Rattle.py_check.specs.Module.{module_context, said, diagnostics, typed}
use Rattle.py_check_members_laws.proofs.Places.{trees_of_texts}
use Rattle.py_check_members_laws.proofs.Members.{own_there}
use Rattle.py_check_members_laws.proofs.Entries.{as_many_headers, entries_long}
use Rattle.py_check_members_laws.proofs.Typed.{bases_same}
use Rattle.py_check_members_laws.proofs.Known as known
use Rattle.py_check_members_laws.proofs.Known.{IsMethodBelow, attribute_types, attribute_owned}
use Rattle.py_check_members_laws.proofs.Formed.{HasClasses}
use Rattle.py_check_laws.proofs.Methods.{signature_gives, init_returns}
use Rattle.py_check_laws.proofs.Marked.{mark_valued}
use Rattle.py_check_laws.proofs.Quieted as quiet
use Rattle.py_check_laws.proofs.Agreed.{none_fails_here}
use Rattle.py_check_laws.specs.Modules.{is_module_written, statements_stand}
use Rattle.py_check_laws.proofs.Bodied.{nothing_placed}
use Rattle.py_check_laws.proofs.Reached.{reach, inner_reach}
use Rattle.py_check_laws.proofs.Described.{ClassesStand, Placed, all_stand}
use Rattle.py_check_laws.proofs.Placed.{meaning_holds, IsTypedClass, class_names, known_class, IsOwnFunction, function_names, known_function}
use Rattle.py_check_laws.proofs.Classes.{ds, hs, os, meant, roles, e, named, inner, tree, as_typed, classes_typed, pair_at, has_classes, class_of_owner, zip_second_there}
use Rattle.py_check_classes.specs.declared.header.Header.{Header}

below : (a b : ℕ) → a < b → nat_lt a b ≡ true
below a b h = grind (arith, nat_tests, h)

past_class : {A : Type 0} (xs : List A) (n : ℕ) (o : Option A) → slice_get xs n ≡ o → is_some o ≡ true → n < length xs
past_class xs n None q h = absurd (cc)
past_class xs n (Some x) q h = slice_get_within xs n x q

nothing_given : (o : Option Sort) (s : Sort) → o ≡ Some s → is_nothing (unwrap_or o sort.Nothing) ≡ true → s ≡ sort.Nothing
nothing_given None s e h = absurd (cc)
nothing_given (Some t) s e h = sym (same_Some t s e) ∙ only t h
  where
    only : (t : Sort) → is_nothing t ≡ true → t ≡ sort.Nothing
    only sort.Nothing h = refl
    only _ h = absurd (cc)

module _ (m : Suite) (nothing : said m ≡ []) where
  abbrev types : (n : ℕ) → n < length (hs m nothing) → has_type (slice_get (hs m nothing) n) ≡ true
  types = classes_typed m nothing

  abbrev size : ℕ
  size = length (e m nothing).classes

  many_classes : size ≡ length (hs m nothing)
  many_classes = entries_long (hs m nothing) (os m nothing) 0 (classes_in (ds m nothing)) ∙ sym (as_many_headers (named m nothing) (classes_in (ds m nothing)))

  -- ---- names of classes and functions

  typed_there : (i : ℕ) → has_type (slice_get (hs m nothing) i) ≡ true → nat_lt i size ≡ true
  typed_there i h = below i size (subst (λ k. i < k) (sym many_classes) (by (slice_get (hs m nothing) i) refl h))
    where
      by : (o : Option Header) → slice_get (hs m nothing) i ≡ o → has_type o ≡ true → i < length (hs m nothing)
      by None q r = absurd (cc)
      by (Some x) q r = slice_get_within (hs m nothing) i x q

  class_in_scope : (outer : List (List ℕ)) (inside : Scope) (x : List ℕ) → IsTypedClass (hs m nothing) (meaning_in (known_in m) outer inside x)
  class_in_scope outer inside x =
      meaning_holds (IsTypedClass (hs m nothing)) (class_names (hs m nothing)) (known_in m) (λ y n h. known_class (hs m nothing) (said_of_names (ds m nothing) y) n h) outer inside x

  pub top_placed : (x : List ℕ) (i : ℕ) → module_meaning m x ≡ meaning.Class i → nat_lt i size ≡ true
  top_placed x i h = typed_there i (class_in_scope (variables (module_scope m)) (module_scope m) x i h)

  pub inner_placed : (p : FuncTree × Owner) (x : List ℕ) (i : ℕ) → (quiet.inside m nothing p).meaning x ≡ meaning.Class i → nat_lt i size ≡ true
  inner_placed p x i h = typed_there i (class_in_scope (variables (module_scope m)) (function_scope (roles m nothing) p.0) x i h)

  function_in_scope : (outer : List (List ℕ)) (inside : Scope) (x : List ℕ) → IsOwnFunction (hs m nothing) (owners m) (meaning_in (known_in m) outer inside x)
  function_in_scope outer inside x =
      meaning_holds (IsOwnFunction (hs m nothing) (owners m)) (function_names (hs m nothing) (owners m)) (known_in m) (λ y n h. known_function (hs m nothing) (owners m) (ds m nothing) refl y n h) outer inside x

  own_is_function : (i : ℕ) → slice_get (owners m) i ≡ Some owner.Module → is_function (slice_get (typed m).funcs i) ≡ true
  own_is_function i h =
      let f = zip_second_there (functions m) (owners m) i owner.Module (quiet.owners_many m nothing) h in
      let there : slice_get (headed_functions m) i ≡ Some (headed (roles m nothing) (meant m nothing) (f.0, owner.Module)) =
      slice_get-map (headed (roles m nothing) (meant m nothing)) (quiet.pairs m nothing) i ∙ ap (option_map (headed (roles m nothing) (meant m nothing))) f.1 in
      ap is_function (slice_get-map (as_typed m nothing) (headed_functions m) i ∙ ap (option_map (as_typed m nothing)) there)

  pub top_functions : (x : List ℕ) (i : ℕ) → module_meaning m x ≡ meaning.Function i → is_function (slice_get (typed m).funcs i) ≡ true
  top_functions x i h = own_is_function i (function_in_scope (variables (module_scope m)) (module_scope m) x i h)

  pub inner_functions : (p : FuncTree × Owner) (x : List ℕ) (i : ℕ) → (quiet.inside m nothing p).meaning x ≡ meaning.Function i → is_function (slice_get (typed m).funcs i) ≡ true
  inner_functions p x i h = own_is_function i (function_in_scope (variables (module_scope m)) (function_scope (roles m nothing) p.0) x i h)

  -- the class of each method is one of the module's
  owner_placed : (whose : Owner) → (i : ℕ) → slice_get (owners_from (hs m nothing) 0 (ds m nothing)) i ≡ Some whose → Placed size (module_meaning m) top_placed whose
  owner_placed owner.Module i h = tt
  owner_placed owner.UntypedTrait i h = tt
  owner_placed (owner.Class o) i h = λ c q. typed_there c (class_of_owner (hs m nothing) 0 (ds m nothing) i o h c q)

  all_placed : (fs : List FuncTree) (row : List Owner) → ((i : ℕ) (whose : Owner) → slice_get row i ≡ Some whose → Placed size (module_meaning m) top_placed whose) → AllByRecursion (λ (p : FuncTree × Owner). Placed size (module_meaning m) top_placed p.1) (zip fs row)
  all_placed [] row h = tt
  all_placed (f ∷ fs) [] h = tt
  all_placed (f ∷ fs) (o ∷ row) h = (h 0 o refl, all_placed fs row (λ i w q. h (suc i) w q))

  pub owners_placed : AllByRecursion (λ (p : FuncTree × Owner). Placed size (module_meaning m) top_placed p.1) (quiet.pairs m nothing)
  owners_placed = all_placed (functions m) (owners m) (λ i whose h. owner_placed whose i h)

  -- ---- classes

  inner_class : (i : Option ℕ) (x : List ℕ) (c : ℕ) → inner_meaning (inner m nothing) i x ≡ meaning.Class c → nat_lt c size ≡ true
  inner_class None x c h = absurd (cc)
  inner_class (Some f) x c h = by (slice_get (map (function_scope (roles m nothing)) (functions m)) f) h
    where
      by : (o : Option Scope) → scope_meaning (known_in m) (variables (module_scope m)) o x ≡ meaning.Class c → nat_lt c size ≡ true
      by None q = absurd (cc)
      by (Some inside) q = typed_there c (class_in_scope (variables (module_scope m)) inside x c q)

  own_value : (n : ℕ) (a : List ℕ) (t : Sort) → own_member (os m nothing) a n ≡ Some (attribute t) → is_value_type size t ≡ true
  own_value n a t h =
      let w = own_there (hs m nothing) (meant m nothing) (inner m nothing) (ds m nothing) n a (attribute t) h in
      let there : slice_get (classes_in (ds m nothing)) n ≡ Some w.text.tree =
      ap (λ l. slice_get l n) (sym (trees_of_texts 0 (ds m nothing))) ∙ slice_get-map (λ (y : ClassText). y.tree) (class_texts 0 (ds m nothing)) n ∙ ap (option_map (λ (y : ClassText). y.tree)) w.found in
      let low : n < size = subst (λ k. n < k) (sym (entries_long (hs m nothing) (os m nothing) 0 (classes_in (ds m nothing)))) (slice_get_within (classes_in (ds m nothing)) n w.text.tree there) in
      attribute_types (named m nothing) (meant m nothing) (inner m nothing) (ds m nothing) (λ s. is_value_type size s ≡ true) n
      (record {
        marks = λ mark s q. mark_valued size (module_meaning m) top_placed mark s q;
        inner_marks = λ i mark s q. mark_valued size (inner_meaning (inner m nothing) i) (inner_class i) mark s q;
        itself = below n size low;
        int = refl;
        str = refl;
        bool = refl;
      })
      a t h

  init_gives : (f : ℕ) (s : Signature) → IsMethodBelow (named m nothing) (meant m nothing) (inner m nothing) (ds m nothing) f (codes "__init__") → some_signature (slice_get (signatures m) f) ≡ Some s → s.ret ≡ sort.Nothing
  init_gives f s d q =
      let p = pair_at m nothing f d.is.tree d.is.there in
      let hd = header (meant m nothing) p.whose d.is.tree in
      let whose : p.whose ≡ owner.Class (Some d.class) = same_Some p.whose (owner.Class (Some d.class)) (sym p.owned ∙ d.is.owned) in
      let sig : signature_of hd ≡ Some s =
      sym (ap some_signature (slice_get-map (λ (x : Headed). signature_of x.header) (headed_functions m) f ∙ ap (option_map (λ (x : Headed). signature_of x.header)) p.there)) ∙ q in
      let g = signature_gives hd s sig in
      let init : is_init p.whose d.is.tree.name ≡ true = ap (λ w. is_init w d.is.tree.name) whose ∙ ap (λ x. bytes_eq x (codes "__init__")) d.is.named in
      let ret : none_returned d.is.tree.ret (returned (meant m nothing) d.is.tree.ret).got ≡ Some s.ret =
      sym (ap (λ b. return_at b d.is.tree.ret (returned (meant m nothing) d.is.tree.ret).got) init) ∙ g.ret in
      nothing_given (none_returned d.is.tree.ret (returned (meant m nothing) d.is.tree.ret).got) s.ret ret (init_returns d.is.tree.ret (returned (meant m nothing) d.is.tree.ret).got)

  pub classes_stand : ClassesStand (module_context m) (typed m)
  classes_stand = record {
    same = refl;
    order = record {
      falls = λ c. ap (list_all (λ b. nat_lt b c)) (sym (bases_same (named m nothing) (meant m nothing) (inner m nothing) (ds m nothing) c)) ∙ (headers_sound (named m nothing) (classes_in (ds m nothing))).tree.falls c;
    };
    attributes_are = known.attributes_are (named m nothing) (meant m nothing) (inner m nothing) (ds m nothing) types;
    attributes_typed = λ n a t h. let w = attribute_owned (named m nothing) (meant m nothing) (inner m nothing) (ds m nothing) types n a t h in own_value w.place a t w.is;
    methods_are = known.methods_are (named m nothing) (meant m nothing) (inner m nothing) (ds m nothing) types;
    inits_are = known.inits_are (named m nothing) (meant m nothing) (inner m nothing) (ds m nothing) types;
    behind_are = known.behind_are (named m nothing) (meant m nothing) (inner m nothing) (ds m nothing) types;
    inits_give = λ n f s h q. init_gives f s (known.init_found (named m nothing) (meant m nothing) (inner m nothing) (ds m nothing) n f h) q;
    behind_give = λ n f s h q. init_gives f s (known.behind_found (named m nothing) (meant m nothing) (inner m nothing) (ds m nothing) n f h) q;
  }

  -- THE CLASSES of the typed module are well typed, where their names pass
  pub has_whole : (is_identifier : List ℕ → Bool) → list_all (λ x. is_identifier x.name && list_all is_identifier (names_of x.attributes ++ names_of x.methods)) (e m nothing).classes ≡ true → HasClasses (named m nothing) (meant m nothing) (inner m nothing) (ds m nothing) is_identifier (typed m) (signatures m)
  has_whole is_identifier names_pass = has_classes m nothing is_identifier names_pass own_value (none_fails_here m nothing).none

-- THE STATEMENTS of a module of which nothing is said stand
pub quiet_stands : (m : Suite) → diagnostics m ≡ [] → is_module_written m ≡ true → statements_stand (typed m) ≡ true
quiet_stands m h written =
    let nothing = nothing_placed (said m) h in
    all_stand m nothing (reach m nothing) (inner_reach m nothing) (classes_stand m nothing) (top_placed m nothing) (inner_placed m nothing) (top_functions m nothing) (inner_functions m nothing) (owners_placed m nothing) written
