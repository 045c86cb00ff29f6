-- Where nothing is said of a module, no class of it fails the test of one signature for each member: the head of each whole class is
-- typed, since its decorators and its bases are known names.
use Rattle.std.proofs.Common.{◌≡◌, ◌∙◌, ℕ, zero, suc, ◌+◌, ◌<◌, ◌≤◌, ◌==◌, Bool, true, false, not, ◌&&◌, ◌||◌, List, [], ◌∷◌, ◌++◌, length, map, slice_get, Option, Some, None, is_some, refl, ap, ap₂, sym, subst, if◌then◌else◌, arith, length-append}
use Rattle.std.proofs.lemmas.Bool.{and_from, eqb-true, eq-eqb}
use Rattle.std.specs.List.{list_all, list_any, flat_map}
use Rattle.std.specs.Option.{option_or, option_and_then}
use Rattle.py_syntax.specs.declared.token.Span.{Span}
use Rattle.py_syntax.specs.Expressions as e
use Rattle.py_syntax.specs.Expressions.{ExprTree}
use Rattle.py_syntax.specs.Statements as s
use Rattle.py_syntax.specs.Statements.{StmtTree, ClassTree}
use Rattle.py_binder.specs.declared.sight.Manner.TheVariants.{Value}
use Rattle.py_binder.specs.declared.sight.Home.TheVariants.{InModule}
use Rattle.py_binder.specs.declared.scope.Role.TheVariants.{Class}
use Rattle.py_binder.specs.Sights.{sight, Defines, list_reads, reads, members_sights, stmt_sights}
use Rattle.py_binder.specs.Scope.{Roles}
use Rattle.py_typed.proofs.FitLemmas.{and_left, and_right}
use Rattle.py_check_context.specs.declared.scope.Meaning.{Meaning}
use Rattle.py_check_context.specs.declared.scope.Meaning.TheVariants as meaning
use Rattle.py_check_context.specs.Context.{Context}
use Rattle.py_check_context.specs.Members.{Member}
use Rattle.py_check_annotations.specs.Names.{is_unknown, is_untyped}
use Rattle.py_check_flow.specs.Bindings.{name_in}
use Rattle.py_check_places.specs.Places.{Known}
use Rattle.py_check_classes.specs.declared.header.Header.{Header}
use Rattle.py_check_classes.specs.declared.header.HeaderFault.{HeaderFault}
use Rattle.py_check_classes.specs.Names.{classes_in, class_number, class_named, named, meaning_of, is_trait_import, are_decorators, is_new}
use Rattle.py_check_classes.specs.Rows.{differ}
use Rattle.py_check_classes.specs.Headers.{has_type, is_earlier, is_untyped as is_base_untyped, early_fault, order_fault, without_type, settled, bases_named, shape, header, headers_behind}
use Rattle.py_check_classes.proofs.HeaderLemmas.{early_none}
use Rattle.py_syntax_diagnostics.specs.declared.diagnostic.Diag.{Diag}
use Rattle.py_check_overrides.specs.Overrides.{Clash, Verdict, fails, override_said}
use Rattle.py_check_definitions.specs.Classes.{ModuleClasses, heading_said, header_typed}
use Rattle.py_check_definitions.specs.Decorators.{is_there, is_base_there, decorators_typed, parts_typed}
use Rattle.py_check_expressions_laws.proofs.Known.{known_left, known_right, known_name}
use Rattle.py_check_expressions_laws.proofs.Loud.{none_behind}
use Rattle.py_check_laws.proofs.NewNames.{AllTyped}
use Rattle.py_check_laws.proofs.KnownParts.{AreKnown}
use Rattle.py_check_laws.proofs.Plain.{AllClasses}

no_more : (c : ℕ) → c + 0 ≡ c
no_more c = omega arith

abbrev pub are_names : List ExprTree → Bool
are_names es = list_all (λ a. is_some (name_in a)) es

-- ---- the decorators and the bases of a class that has a type are names

module _ (said : List ℕ → Option Meaning) where
  import_named : (a : ExprTree) → is_trait_import (named said a) ≡ true → is_some (name_in a) ≡ true
  import_named a h = by (name_in a) h
    where
      by : (o : Option (List ℕ)) → is_trait_import (option_and_then (meaning_of said) o) ≡ true → is_some o ≡ true
      by None q = absurd (cc)
      by (Some x) q = refl

  marks_named : (marks : List ExprTree) → are_decorators said marks ≡ true → are_names marks ≡ true
  marks_named [] h = refl
  marks_named (a ∷ []) h = ap (λ b. b && true) (import_named a h)
  marks_named (a ∷ b ∷ more) h = absurd (cc)

  base_named : (n : ℕ) (a : ExprTree) → is_earlier n (class_named said a) ≡ true → is_some (name_in a) ≡ true
  base_named n a h = by (name_in a) h
    where
      by : (o : Option (List ℕ)) → is_earlier n (class_number (option_and_then (meaning_of said) o)) ≡ true → is_some o ≡ true
      by None q = absurd (cc)
      by (Some x) q = refl

  all_bases_named : (n : ℕ) (bases : List ExprTree) → list_all (is_earlier n) (map (class_named said) bases) ≡ true → are_names bases ≡ true
  all_bases_named n [] h = refl
  all_bases_named n (a ∷ more) h =
      and_from (is_some (name_in a)) (are_names more) (base_named n a (and_left (is_earlier n (class_named said a)) (list_all (is_earlier n) (map (class_named said) more)) h))
      (all_bases_named n more (and_right (is_earlier n (class_named said a)) (list_all (is_earlier n) (map (class_named said) more)) h))

  marks_right : (before : List Header) (new marked : Bool) (names : List (Option ℕ)) (c : ClassTree) → early_fault before new marked names (shape said c) c.body ≡ None → marked ≡ true
  marks_right before false marked names c h = absurd (cc)
  marks_right before true false names c h = absurd (cc)
  marks_right before true true names c h = refl

  pub no_early : (o p : Option HeaderFault) → option_or o p ≡ None → o ≡ None
  no_early None p h = refl
  no_early (Some f) p h = absurd (cc)

  pub settled_none : (c : ClassTree) (o : Option HeaderFault) → has_type (Some (settled (shape said c) o)) ≡ true → o ≡ None
  settled_none c None h = refl
  settled_none c (Some f) h = absurd (cc)

  names_of_typed : (before : List Header) (c : ClassTree) → has_type (Some (header said before c)) ≡ true → (are_names c.marks ≡ true) × (are_names c.bases ≡ true)
  names_of_typed before c h = by (list_any (is_base_untyped before) (bases_named said c)) h
    where
      by : (b : Bool) → has_type (Some (if b then without_type (shape said c).is_trait None else settled (shape said c) (option_or (early_fault before (is_new said (length before) c.name) (are_decorators said c.marks) (bases_named said c) (shape said c) c.body) (order_fault before (shape said c))))) ≡ true
          → (are_names c.marks ≡ true) × (are_names c.bases ≡ true)
      by true q = absurd (cc)
      by false q =
          let none = no_early (early_fault before (is_new said (length before) c.name) (are_decorators said c.marks) (bases_named said c) (shape said c) c.body) (order_fault before (shape said c)) (settled_none c _ q) in
          let fit = early_none before (is_new said (length before) c.name) (are_decorators said c.marks) (bases_named said c) (shape said c) c.body none in (
            marks_named c.marks (marks_right before (is_new said (length before) c.name) (are_decorators said c.marks) (bases_named said c) c none),
            all_bases_named (length before) c.bases (and_left (list_all (is_earlier (length before)) (bases_named said c)) (differ (shape said c).bases) fit.0),
          )

  -- ---- by the numbers of classes

  at_front : {A : Type 0} (xs ys : List A) (i : ℕ) → i < length xs → slice_get (xs ++ ys) i ≡ slice_get xs i
  at_front [] ys i l = absurd (omega (arith, l))
  at_front (x ∷ xs) ys zero l = refl
  at_front (x ∷ xs) ys (suc i) l = at_front xs ys i (omega (arith, l))

  pub at_end : {A : Type 0} (xs : List A) (y : A) → slice_get (xs ++ y ∷ []) (length xs) ≡ Some y
  at_end [] y = refl
  at_end (x ∷ xs) y = at_end xs y

  pub kept : (cs : List ClassTree) (before : List Header) (j : ℕ) → j < length before → slice_get (headers_behind said before cs) j ≡ slice_get before j
  kept [] before j l = refl
  kept (c ∷ cs) before j l =
      let many = length-append before (header said before c ∷ []) in
      kept cs (before ++ header said before c ∷ []) j (omega (arith, l, many)) ∙ at_front before (header said before c ∷ []) j l

  abbrev pub NamedOf : StmtTree → Type 0
  NamedOf (s.at (s.ClassDef name bases body marks) span) = (are_names marks ≡ true) × (are_names bases ≡ true)
  NamedOf _ = Unit {0}

  abbrev pub AllNamed : List StmtTree → Type 0
  AllNamed [] = Unit {0}
  AllNamed (x ∷ more) = NamedOf x × AllNamed more

  pub all_named : (ds : List StmtTree) (before : List Header) → AllTyped (headers_behind said before (classes_in ds)) (length before) ds → AllNamed ds
  all_named [] before h = tt
  all_named (s.at (s.ClassDef name bases body marks) span ∷ ds) before h =
      let c : ClassTree = record { name = name; bases = bases; body = body; marks = marks } in
      let one = header said before c in
      let many = length-append before (one ∷ []) in
      let here : slice_get (headers_behind said (before ++ one ∷ []) (classes_in ds)) (length before) ≡ Some one = kept (classes_in ds) (before ++ one ∷ []) (length before) (omega (arith, many)) ∙ at_end before one in
      (names_of_typed before c (sym (ap has_type here) ∙ h.0), all_named ds (before ++ one ∷ []) (subst (λ k. AllTyped (headers_behind said (before ++ one ∷ []) (classes_in ds)) k ds) (sym many) h.1))
  all_named (x ∷ ds) before h = (tt, all_named ds before (subst (λ k. AllTyped (headers_behind said before (classes_in ds)) k ds) (no_more (length before)) h.1))

-- ---- their heads are typed

module _ (classes : ModuleClasses) (c : Context) (all : (x : List ℕ) → is_untyped (c.meaning x) ≡ false) where
  there_is : (m : Meaning) → is_unknown m ≡ false → is_untyped m ≡ false → (is_there m ≡ true) × (is_base_there m ≡ true)
  there_is m u t = (ap₂ (λ a b. not (a || b)) u t, by m u t)
    where
      by : (m : Meaning) → is_unknown m ≡ false → is_untyped m ≡ false → is_base_there m ≡ true
      by meaning.Unknown u t = absurd (cc)
      by meaning.Untyped u t = absurd (cc)
      by _ u t = refl

  parts : (k : Known) (there : Meaning → Bool) → ((m : Meaning) → is_unknown m ≡ false → is_untyped m ≡ false → there m ≡ true) → (es : List ExprTree) → are_names es ≡ true → AreKnown c.meaning (list_reads Value es) → parts_typed c k (λ x. there (c.meaning x)) es ≡ true
  parts k there is [] h u = refl
  parts k there is (e.at (e.Name x) span ∷ es) h u =
      and_from (there (c.meaning x)) (parts_typed c k (λ x. there (c.meaning x)) es)
      (is (c.meaning x) (known_name c.meaning x span (known_left c.meaning (reads Value (e.at (e.Name x) span)) (list_reads Value es) u)) (all x))
      (parts k there is es (and_right true (are_names es) h) (known_right c.meaning (reads Value (e.at (e.Name x) span)) (list_reads Value es) u))
  parts k there is (a ∷ es) h u = absurd (cc)

  pub head_typed : (k : Known) (x : ClassTree) (span : Span) → are_names x.marks ≡ true → are_names x.bases ≡ true → AreKnown c.meaning (stmt_sights InModule (s.at (s.ClassDef x.name x.bases x.body x.marks) span)) → header_typed classes c k x ≡ true
  head_typed k x span marks bases u =
      let rest = known_right c.meaning (list_reads Value x.marks) (sight (Defines Class x.name) span ∷ (list_reads Value x.bases ++ members_sights x.body)) u in
      and_from (decorators_typed c k x.marks) (parts_typed c k (λ y. is_base_there (c.meaning y)) x.bases)
      (parts k is_there (λ m a b. (there_is m a b).0) x.marks marks (known_left c.meaning (list_reads Value x.marks) (sight (Defines Class x.name) span ∷ (list_reads Value x.bases ++ members_sights x.body)) u))
      (parts k is_base_there (λ m a b. (there_is m a b).1) x.bases bases (known_left c.meaning (list_reads Value x.bases) (members_sights x.body) rest))

-- ---- no class fails

module _ (roles : Roles) (classes : ModuleClasses) (owns : List (List (List ℕ × Member))) (c : Context) (said : List ℕ → Option Meaning) (all : (x : List ℕ) → is_untyped (c.meaning x) ≡ false) where
  told_none : (span : Span) (heading : List Diag) (v : Option Verdict) (b : Bool) → b ≡ true → (if b then heading ++ override_said c.classes span v else []) ≡ [] → (f : Clash) → v ≡ Some (fails f) → ⊥
  told_none span heading v false t q f e = absurd (cc)
  told_none span heading v true t q f e =
      let none : override_said c.classes span v ≡ [] = none_behind heading (override_said c.classes span v) q in
      fault span f (sym (ap (override_said c.classes span) e) ∙ none)
    where
      fault : (span : Span) (f : Clash) → override_said c.classes span (Some (fails f)) ≡ [] → ⊥
      fault span f h = cc

  pub none_fails : (n : ℕ) (ds : List StmtTree) → AllClasses roles classes owns c n ds → AllNamed said ds → AreKnown c.meaning (flat_map (stmt_sights InModule) ds) → (k : ℕ) (f : Clash) → n ≤ k → k < n + length (classes_in ds) → slice_get classes.verdicts k ≡ Some (fails f) → ⊥
  none_fails n [] p q u k f low high e = absurd (omega (arith, low, high))
  none_fails n (s.at (s.ClassDef name bases body marks) span ∷ ds) p q u k f low high e =
      let x : ClassTree = record { name = name; bases = bases; body = body; marks = marks } in
      by (k == n) refl
      (told_none span (heading_said classes c n span x) (slice_get classes.verdicts n) (header_typed classes c p.here.known x)
      (head_typed classes c all p.here.known x span q.0.0 q.0.1 (known_left c.meaning (stmt_sights InModule (s.at (s.ClassDef name bases body marks) span)) (flat_map (stmt_sights InModule) ds) u)) p.here.head f)
      (none_fails (n + 1) ds p.rest q.1 (known_right c.meaning (stmt_sights InModule (s.at (s.ClassDef name bases body marks) span)) (flat_map (stmt_sights InModule) ds) u) k f)
    where
      by : (b : Bool) → (k == n) ≡ b → (slice_get classes.verdicts n ≡ Some (fails f) → ⊥) → (n + 1 ≤ k → k < n + 1 + length (classes_in ds) → slice_get classes.verdicts k ≡ Some (fails f) → ⊥) → ⊥
      by true h one more = let at = eqb-true k n h in one (sym (ap (slice_get classes.verdicts) at) ∙ e)
      by false h one more = more (over k n low (λ i. apart k n i h)) (omega (arith, high)) e
        where
          over : (k n : ℕ) → n ≤ k → ¬ (k ≡ n) → n + 1 ≤ k
          over k n l x = omega (arith, l, x)

          apart : (k n : ℕ) → k ≡ n → (k == n) ≡ false → ⊥
          apart k n i h = (let yes = eq-eqb k n i in let no : true ≡ false = sym yes ∙ h in cc)
  none_fails n (x ∷ ds) p q u k f low high e =
      none_fails n ds (subst (λ i. AllClasses roles classes owns c i ds) (no_more n) p.rest) q.1 (known_right c.meaning (stmt_sights InModule x) (flat_map (stmt_sights InModule) ds) u) k f low high e
