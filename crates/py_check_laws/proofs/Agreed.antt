-- Where nothing is said of a module, each of its classes has a type, and none fails the test of one signature for each member.
use Rattle.std.proofs.Common.{◌≡◌, ◌∙◌, ℕ, ◌+◌, ◌<◌, ◌≤◌, ◌==◌, Bool, true, false, List, [], ◌∷◌, ◌++◌, length, map, slice_get, Option, refl, ap, sym, subst, arith, length-append}
use Rattle.std.proofs.lemmas.Bool.{eqb-true, eq-eqb}
use Rattle.std.proofs.lemmas.Option.{slice_get_within}
use Rattle.py_syntax.specs.Statements as s
use Rattle.py_syntax.specs.Statements.{StmtTree, Suite, ClassTree}
use Rattle.py_binder.specs.Scope.{module_role}
use Rattle.py_typed.specs.Classes.{ClassEntry}
use Rattle.py_check_context.specs.declared.scope.Meaning.{Meaning}
use Rattle.py_check_names.specs.Outline.{suite_definitions}
use Rattle.py_check_classes.specs.declared.header.Header.{Header}
use Rattle.py_check_classes.specs.Names.{classes_in, said_of_names}
use Rattle.py_check_classes.specs.Headers.{has_type, entry, header, headers_behind, module_headers}
use Rattle.py_check_overrides.specs.Overrides.{Own, Verdict, fails, verdict, verdicts, verdicts_behind}
use Rattle.py_check_overrides.specs.Own.{own_in}
use Rattle.py_check_overrides.specs.Laws.{NoneFails}
use Rattle.py_check_definitions.specs.Definitions.{signatures}
use Rattle.py_check.specs.Module.{module_owns, module_classes, said}
use Rattle.py_check_laws.proofs.NewNames.{AllTyped}
use Rattle.py_check_laws.proofs.KnownParts.{suite_defined}
use Rattle.py_check_laws.proofs.Quieted as quiet
use Rattle.py_check_laws.proofs.Heads.{all_named, none_fails}

-- ---- as many headers and verdicts as there are classes

headers_many : (said : List ℕ → Option Meaning) (cs : List ClassTree) (before : List Header) → length (headers_behind said before cs) ≡ length before + length cs
headers_many said [] before = no_more (length before)
  where
    no_more : (c : ℕ) → c ≡ c + 0
    no_more c = omega arith
headers_many said (c ∷ cs) before =
    let rest = headers_many said cs (before ++ header said before c ∷ []) in
    let many = length-append before (header said before c ∷ []) in
    omega (arith, rest, many)

verdicts_many : (classes : List ClassEntry) (owns : List (List Own)) (hs : List Header) (before : List Verdict) → length (verdicts_behind classes owns before hs) ≡ length before + length hs
verdicts_many classes owns [] before = no_more (length before)
  where
    no_more : (c : ℕ) → c ≡ c + 0
    no_more c = omega arith
verdicts_many classes owns (h ∷ hs) before =
    let rest = verdicts_many classes owns hs (before ++ verdict classes owns before h ∷ []) in
    let many = length-append before (verdict classes owns before h ∷ []) in
    omega (arith, rest, many)

-- ---- each class has a type

typed_at : (headers : List Header) (n : ℕ) (ds : List StmtTree) → AllTyped headers n ds → (k : ℕ) → n ≤ k → k < n + length (classes_in ds) → has_type (slice_get headers k) ≡ true
typed_at headers n [] h k low high = absurd (omega (arith, low, high))
typed_at headers n (s.at (s.ClassDef name bases body marks) span ∷ ds) h k low high = by (k == n) refl (λ l g. typed_at headers (n + 1) ds h.1 k l g)
  where
    over : (k n : ℕ) → n ≤ k → ¬ (k ≡ n) → n + 1 ≤ k
    over k n l x = omega (arith, l, x)

    apart : (k n : ℕ) → k ≡ n → (k == n) ≡ false → ⊥
    apart k n i q = (let yes = eq-eqb k n i in let no : true ≡ false = sym yes ∙ q in cc)

    by : (b : Bool) → (k == n) ≡ b → (n + 1 ≤ k → k < n + 1 + length (classes_in ds) → has_type (slice_get headers k) ≡ true) → has_type (slice_get headers k) ≡ true
    by true q more = ap (λ i. has_type (slice_get headers i)) (eqb-true k n q) ∙ h.0
    by false q more = more (over k n low (λ i. apart k n i q)) (omega (arith, high))
typed_at headers n (x ∷ ds) h k low high = typed_at headers n ds (subst (λ i. AllTyped headers i ds) (no_more n) h.1) k low high
  where
    no_more : (c : ℕ) → c + 0 ≡ c
    no_more c = omega arith

zero_first : (a : ℕ) → 0 + a ≡ a
zero_first a = omega arith

module _ (m : Suite) (nothing : said m ≡ []) where
  many : length (module_headers m) ≡ length (classes_in (suite_definitions m))
  many = headers_many (said_of_names (suite_definitions m)) (classes_in (suite_definitions m)) [] ∙ zero_first (length (classes_in (suite_definitions m)))

  -- NO CLASS FAILS
  pub none_fails_here : NoneFails (module_headers m) (map (own_in (signatures m)) (module_owns m))
  none_fails_here = record {
    typed = λ c l. typed_at (module_headers m) 0 (suite_definitions m) (quiet.typed_classes m nothing) c (omega arith) (omega (arith, l, many));
    none = λ c f e.
        let counted = verdicts_many (map entry (module_headers m)) (map (own_in (signatures m)) (module_owns m)) (module_headers m) [] in
        let inside = slice_get_within (verdicts (module_headers m) (map (own_in (signatures m)) (module_owns m))) c (fails f) e in
        none_fails (module_role m) (module_classes m) (module_owns m) (quiet.top m nothing) (said_of_names (suite_definitions m)) (quiet.typed_names m nothing) 0 (suite_definitions m) (quiet.quiet_walk m nothing).plain.heads
        (all_named (said_of_names (suite_definitions m)) (suite_definitions m) [] (quiet.typed_classes m nothing)) (suite_defined (quiet.meant m nothing) m (quiet.top_known m nothing)) c f (omega arith) (omega (arith, inside, counted, many)) e;
  }
