-- The classes of a module of which each is whole, as typing sees them: what their headers and their members give them.
use Rattle.std.proofs.Common.{◌≡◌, ℕ, zero, suc, ◌+◌, ◌<◌, Bool, true, false, not, ◌&&◌, ◌||◌, List, [], ◌∷◌, ◌++◌, map, drop, length, Option, Some, None, refl, ap, ap₂, sym, ◌∙◌, subst, arith, if◌then◌else◌}
use Rattle.std.proofs.lemmas.Bool.{and_from, and_parts, or_parts}
use Rattle.std.proofs.lemmas.List.{length-append}
use Rattle.std.proofs.lemmas.List.Folds.{list_any-append}
use Rattle.std.proofs.lemmas.Option.{same_Some, slice_get_within, slice_get_past}
use Rattle.std.specs.Prelude.{slice_get, is_some, nat_lt, codes}
use Rattle.std.specs.List.{list_all, list_any, filter_map, cons_option}
use Rattle.std.specs.Option.{option_map, option_or}
use Rattle.std.specs.Str.{bytes_eq}
use Rattle.py_syntax.specs.Statements.{StmtTree, Suite, ClassTree}
use Rattle.py_typed.specs.Sorts.{Sort}
use Rattle.py_typed.specs.Classes.{ClassEntry, bases_in, bases_of, has_class}
use Rattle.py_typed.specs.Order.{order}
use Rattle.py_typed.specs.WellTyped.{all_differ, is_called_in}
use Rattle.py_typed.specs.WellTypedExpr.{is_trait_in}
use Rattle.py_typed.specs.WellTypedModule.{names_of, differing}
use Rattle.py_check_context.specs.declared.scope.Meaning.{Meaning}
use Rattle.py_check_context.specs.Members.{Member, attribute, untyped, unknown, method}
use Rattle.py_check_classes.specs.declared.header.Header.{Header}
use Rattle.py_check_classes.specs.declared.header.Header.TheVariants.{Typed}
use Rattle.py_check_classes.specs.declared.header.HeaderFault.{HeaderFault}
use Rattle.py_check_classes.specs.declared.header.Shape.{Shape}
use Rattle.py_check_classes.specs.Names.{classes_in, is_new, are_decorators}
use Rattle.py_check_classes.specs.Rows.{differ}
use Rattle.py_check_classes.specs.Bodies.{has_attributes, has_init}
use Rattle.py_check_classes.specs.Headers.{has_type, is_a_trait, entry, are_bases, bases_fit, body_fits, early_fault, order_fault, fault, without_type, settled, is_untyped, is_earlier, bases_named, shape, header, headers_behind}
use Rattle.py_check_classes.specs.Laws.{IsSound, AreSound}
use Rattle.py_check_classes.proofs.HeaderLemmas.{entry_found}
use Rattle.py_check_classes.proofs.OrderLemmas.{same_orders}
use Rattle.py_check_members.specs.Members.{own_at, own_members, sort_of, function_of, typed_attribute, own_method, typed_entry, bare_entry, class_entry_of, entries_from, class_entries}
use Rattle.py_check_members_laws.specs.Laws.{members_of, is_method, is_plain_method}
use Rattle.py_check_members_laws.proofs.Rows.{none_more, zero_more, one_behind, at_front, at_seam, swapped}
use Rattle.py_check_members_laws.proofs.Members.{names_differ, plain_classes}

-- ---- a class with a type has a body that fits it

header_same : (s t : Shape) → Typed s ≡ Typed t → s ≡ t
header_same s t e = cc

-- what a class with a type has in its header
pub record TypedParts (said : List ℕ → Option Meaning) (c : ClassTree) (s : Shape) : Type 0 where
  pub marks : are_decorators said c.marks ≡ true
  pub named : (before : List Header) × (list_all (is_earlier (length before)) (bases_named said c) ≡ true)
  pub fits : body_fits s.is_trait c.body ≡ true

all_four : (a b c d : Bool) (w x y z : HeaderFault) → (if not a then Some w else if not b then Some x else if not c then Some y else if not d then Some z else None) ≡ None → (b ≡ true) × (c ≡ true) × (d ≡ true)
all_four true true true true w x y z e = (refl, refl, refl)
all_four false b c d w x y z e = absurd (cc)
all_four true false c d w x y z e = absurd (cc)
all_four true true false d w x y z e = absurd (cc)
all_four true true true false w x y z e = absurd (cc)

module _ (said : List ℕ → Option Meaning) where
  typed_parts : (hs : List Header) (c : ClassTree) (s : Shape) → header said hs c ≡ Typed s → TypedParts said c s
  typed_parts hs c s e = by (list_any (is_untyped hs) (bases_named said c)) e
    where
      early : (o : Option HeaderFault) → early_fault hs (is_new said (length hs) c.name) (are_decorators said c.marks) (bases_named said c) (shape said c) c.body ≡ o → settled (shape said c) (option_or o (order_fault hs (shape said c))) ≡ Typed s → TypedParts said c s
      early (Some f) q r = absurd (cc)
      early None q r =
          let all = all_four (is_new said (length hs) c.name) (are_decorators said c.marks) (are_bases hs (bases_named said c) (shape said c).bases) (bases_fit hs (shape said c) && body_fits (shape said c).is_trait c.body) _ _ _ _ q in
          record {
            marks = all.0;
            named = (hs, (and_parts (list_all (is_earlier (length hs)) (bases_named said c)) (differ (shape said c).bases) all.1).0);
            fits = ap (λ (z : Shape). body_fits z.is_trait c.body) (sym (last (order_fault hs (shape said c)) r)) ∙ (and_parts (bases_fit hs (shape said c)) (body_fits (shape said c).is_trait c.body) all.2).1;
          }
        where
          last : (o : Option HeaderFault) → settled (shape said c) o ≡ Typed s → shape said c ≡ s
          last None z = header_same (shape said c) s z
          last (Some f) z = absurd (cc)

      by : (b : Bool) → (if b then without_type (shape said c).is_trait None else settled (shape said c) (fault said hs c)) ≡ Typed s → TypedParts said c s
      by true q = absurd (cc)
      by false q = early (early_fault hs (is_new said (length hs) c.name) (are_decorators said c.marks) (bases_named said c) (shape said c) c.body) refl q

  kept_headers : (hs : List Header) (cs : List ClassTree) (k : ℕ) (h : Header) → slice_get hs k ≡ Some h → slice_get (headers_behind said hs cs) k ≡ Some h
  kept_headers hs [] k h q = q
  kept_headers hs (c ∷ cs) k h q = kept_headers (hs ++ header said hs c ∷ []) cs k h (at_front hs (header said hs c ∷ []) k h q)

  -- the header of a class is found behind those of the classes before
  pub record IsHeader (o : Option Header) (c : ClassTree) : Type 0 where
    pub before : List Header
    pub there : o ≡ Some (header said before c)

  header_at : (hs : List Header) (cs : List ClassTree) (i : ℕ) (c : ClassTree) → slice_get cs i ≡ Some c → IsHeader (slice_get (headers_behind said hs cs) (length hs + i)) c
  header_at hs [] i c q = absurd (cc)
  header_at hs (x ∷ cs) zero c q =
      let h = header said hs x in
      record {
        before = hs;
        there =
            ap (slice_get (headers_behind said (hs ++ h ∷ []) cs)) (zero_more (length hs)) ∙ kept_headers (hs ++ h ∷ []) cs (length hs) h (at_seam hs h [])
            ∙ ap (λ (z : ClassTree). Some (header said hs z)) (same_Some x c q);
      }
  header_at hs (x ∷ cs) (suc i) c q =
      let h = header said hs x in
      let r = header_at (hs ++ h ∷ []) cs i c q in
      record { before = r.before; there = ap (slice_get (headers_behind said (hs ++ h ∷ []) cs)) (sym (ap (λ n. n + i) (length-append hs (h ∷ [])) ∙ one_behind (length hs) i)) ∙ r.there }

  pub parts_of_typed : (cs : List ClassTree) (n : ℕ) (c : ClassTree) (s : Shape) → slice_get cs n ≡ Some c → slice_get (headers_behind said [] cs) n ≡ Some (Typed s) → TypedParts said c s
  parts_of_typed cs n c s q e =
      let r = header_at [] cs n c q in
      typed_parts r.before c s (same_Some (header said r.before c) (Typed s) (sym r.there ∙ ap (slice_get (headers_behind said [] cs)) (none_more n) ∙ e))

  headers_long : (hs : List Header) (cs : List ClassTree) → length (headers_behind said hs cs) ≡ length hs + length cs
  headers_long hs [] = sym (zero_more (length hs))
  headers_long hs (c ∷ cs) =
      headers_long (hs ++ header said hs c ∷ []) cs ∙ ap (λ n. n + length cs) (length-append hs (header said hs c ∷ [])) ∙ one_behind (length hs) (length cs)

  pub as_many_headers : (cs : List ClassTree) → length (headers_behind said [] cs) ≡ length cs
  as_many_headers cs = headers_long [] cs ∙ none_more (length cs)

-- ---- entries

module _ (headers : List Header) (owns : List (List (List ℕ × Member))) where
  pub entry_at : (k : ℕ) (cs : List ClassTree) (i : ℕ) (c : ClassTree) → slice_get cs i ≡ Some c → slice_get (entries_from headers owns k cs) i ≡ Some (class_entry_of (slice_get headers (k + i)) c.name (own_at owns (k + i)))
  entry_at k [] i c q = absurd (cc)
  entry_at k (x ∷ cs) zero c q =
      ap (λ (z : ClassTree). Some (class_entry_of (slice_get headers k) z.name (own_at owns k))) (same_Some x c q) ∙ ap (λ n. Some (class_entry_of (slice_get headers n) c.name (own_at owns n))) (sym (zero_more k))
  entry_at k (x ∷ cs) (suc i) c q = entry_at (k + 1) cs i c q ∙ ap (λ n. Some (class_entry_of (slice_get headers n) c.name (own_at owns n))) (one_behind k i)

  pub entries_long : (k : ℕ) (cs : List ClassTree) → length (entries_from headers owns k cs) ≡ length cs
  entries_long k [] = refl
  entries_long k (c ∷ cs) = ap suc (entries_long (k + 1) cs)

-- of one of the classes
pub record IsEntry (headers : List Header) (owns : List (List (List ℕ × Member))) (cs : List ClassTree) (n : ℕ) (entry : ClassEntry) : Type 0 where
  pub tree : ClassTree
  pub there : slice_get cs n ≡ Some tree
  pub is : entry ≡ class_entry_of (slice_get headers n) tree.name (own_at owns n)

in_cases : (headers : List Header) (owns : List (List (List ℕ × Member))) (cs : List ClassTree) (n : ℕ) (entry : ClassEntry) (o : Option ClassTree) → slice_get cs n ≡ o → slice_get (entries_from headers owns 0 cs) n ≡ Some entry → IsEntry headers owns cs n entry
in_cases headers owns cs n entry (Some c) q h =
    record { tree = c; there = q; is = same_Some entry (class_entry_of (slice_get headers n) c.name (own_at owns n)) (sym h ∙ entry_at headers owns 0 cs n c q ∙ ap (λ k. Some (class_entry_of (slice_get headers k) c.name (own_at owns k))) (none_more n)) }
in_cases headers owns cs n entry None q h =
    absurd (never (slice_get_within (entries_from headers owns 0 cs) n entry h))
  where
    past : (xs : List ClassTree) (i : ℕ) → slice_get xs i ≡ None → i < length xs → ⊥
    past [] i z l = omega (arith, l)
    past (x ∷ xs) zero z l = absurd (cc)
    past (x ∷ xs) (suc i) z l = past xs i z (omega (arith, l))

    never : n < length (entries_from headers owns 0 cs) → ⊥
    never l = past cs n q (subst (λ k. n < k) (entries_long headers owns 0 cs) l)

pub entry_of_class : (headers : List Header) (owns : List (List (List ℕ × Member))) (cs : List ClassTree) (n : ℕ) (entry : ClassEntry) → slice_get (entries_from headers owns 0 cs) n ≡ Some entry → IsEntry headers owns cs n entry
entry_of_class headers owns cs n entry h = in_cases headers owns cs n entry (slice_get cs n) refl h
