-- A chain of comparisons, pair by pair.
use Rattle.std.proofs.Common.{◌≡◌, ◌<◌, ℕ, zero, suc, ◌+◌, Bool, true, false, ◌&&◌, if◌then◌else◌, List, [], ◌∷◌, ◌++◌, length, map, drop, get_or, Option, Some, None, Result, Ok, Err, IfOk, refl, ap, sym, ◌∙◌, drop-cons, add-one}
use Rattle.std.proofs.lemmas.List.{append-nil, append_assoc, map-append}
use Rattle.std.specs.Option.{option_map, option_zip}
use Rattle.std.specs.declared.boxed.Box.{Box}
use Rattle.std.specs.declared.alloc.Global.{Global}
use Rattle.value_core.specs.declared.memory.Memory.{Memory}
use Rattle.py_syntax.specs.declared.token.Span.{Span}
use Rattle.py_syntax.specs.declared.expression.CmpOp.{CmpOp}
use Rattle.py_syntax_diagnostics.specs.declared.diagnostic.Diag.{Diag}
use Rattle.py_typed.specs.declared.expression.TExpr.{TExpr}
use Rattle.py_typed.specs.Classes.{ClassEntry}
use Rattle.py_typed.specs.Expressions.{TypedExpr, type_of}
use Rattle.py_check_messages.specs.Seen.{Message, diag, Tells}
use Rattle.py_check_messages.specs.Rows.{appended, kept}
use Rattle.py_check_coercions.specs.Boxes.{boxed}
use Rattle.py_check_coercions.specs.Several.{Says, is_nothing_wrong, told, ruled_all}
use Rattle.py_check_operators.specs.Operands.{maybe_pair}
use Rattle.py_check_operators.specs.Chains.{pair_faults, chain_faults, faults_of, chain, asked_pair, pairs_faults, all_typed, chain_of}

-- what was found and said so far, and what is left, are the whole
pub record Stays (right : Bool) (old new : List Diag) (span : Span) (whole rest : List Message) : Type 0 where
  pub found : (right && is_nothing_wrong rest) ≡ is_nothing_wrong whole
  pub told : old ++ map (diag span) whole ≡ new ++ map (diag span) rest

both_right : (here rest : List Message) → is_nothing_wrong (here ++ rest) ≡ (is_nothing_wrong here && is_nothing_wrong rest)
both_right [] rest = refl
both_right (m ∷ here) rest = refl

grouped : (a b c : Bool) → ((a && b) && c) ≡ (a && (b && c))
grouped true b c = refl
grouped false b c = refl

pub stays_step : (right holds next : Bool) (old new newer : List Diag) (span : Span) (whole here rest : List Message) → next ≡ (right && holds) → Stays right old new span whole (here ++ rest) → Says holds new newer span here → Stays next old newer span whole rest
stays_step right holds next old new newer span whole here rest joined s h = record {
  found =
      ap (λ b. b && is_nothing_wrong rest) (joined ∙ ap (λ b. right && b) h.0)
      ∙ grouped right (is_nothing_wrong here) (is_nothing_wrong rest)
      ∙ ap (λ b. right && b) (sym (both_right here rest))
      ∙ s.found;
  told =
      s.told ∙ ap (λ l. new ++ l) (map-append (diag span) here rest) ∙ sym (append_assoc new (map (diag span) here) (map (diag span) rest)) ∙ ap (λ l. l ++ map (diag span) rest) (sym h.1);
}

pub pair_step : (classes : List ClassEntry) (a : Option TypedExpr) (ps : List (CmpOp × Option (Box TExpr Global))) (i : ℕ) (p : CmpOp × Option (Box TExpr Global)) → i < length ps → p ≡ get_or ps i p → pairs_faults classes a (map maybe_pair (drop i ps)) ≡ asked_pair classes a p.0 (option_map boxed p.1) ++ pairs_faults classes (option_map boxed p.1) (map maybe_pair (drop (i + 1) ps))
pair_step classes a ps i p h is =
    ap (λ l. pairs_faults classes a (map maybe_pair l)) (drop-cons ps i p h)
    ∙ ap (λ (q : CmpOp × Option (Box TExpr Global)). asked_pair classes a q.0 (option_map boxed q.1) ++ pairs_faults classes (option_map boxed q.1) (map maybe_pair (drop (suc i) ps))) (sym is)
    ∙ ap (λ k. asked_pair classes a p.0 (option_map boxed p.1) ++ pairs_faults classes (option_map boxed p.1) (map maybe_pair (drop k ps))) (sym (add-one i))

-- ---- operands that are typed, in a row

row_more : {A : Type 0} (front : Option (List A)) (one : Option A) (rest : Option (List A)) → appended front (option_map (λ p. p.0 ∷ p.1) (option_zip one rest)) ≡ appended (kept front one) rest
row_more None one rest = refl
row_more (Some l) None rest = refl
row_more (Some l) (Some a) None = refl
row_more (Some l) (Some a) (Some r) = ap Some (sym (append_assoc l (a ∷ []) r))

pub typed_more : (front : Option (List (CmpOp × TypedExpr))) (o : CmpOp) (b : Option TypedExpr) (ps : List (CmpOp × Option TypedExpr)) → appended front (all_typed ((o, b) ∷ ps)) ≡ appended (kept front (option_map (λ t. (o, t)) b)) (all_typed ps)
typed_more front o b ps = row_more front (option_map (λ t. (o, t)) b) (all_typed ps)

pub typed_end : (front : Option (List (CmpOp × TypedExpr))) → appended front (all_typed []) ≡ front
typed_end None = refl
typed_end (Some l) = ap Some (append-nil l)

pub ruleset typed_rows = (typed_more, typed_end)

-- ---- the chain

-- where all operands are typed, the faults of its pairs are those of the typed chain
abbrev AreTyped : List ClassEntry → TypedExpr → List (CmpOp × Option TypedExpr) → Option (List (CmpOp × TypedExpr)) → Type 0
AreTyped classes a ps None = Unit {0}
AreTyped classes a ps (Some qs) = pairs_faults classes (Some a) ps ≡ chain_faults classes (type_of a) qs

typed_next : (classes : List ClassEntry) (a b : TypedExpr) (o : CmpOp) (ps : List (CmpOp × Option TypedExpr)) (rest : Option (List (CmpOp × TypedExpr))) → AreTyped classes b ps rest → AreTyped classes a ((o, Some b) ∷ ps) (option_map (λ q. q.0 ∷ q.1) (option_zip (Some (o, b)) rest))
typed_next classes a b o ps None h = tt
typed_next classes a b o ps (Some qs) h = ap (λ l. pair_faults classes (type_of a) o b ++ l) h

typed_one : (classes : List ClassEntry) (a : TypedExpr) (o : CmpOp) (b : Option TypedExpr) (ps : List (CmpOp × Option TypedExpr)) → ((x : TypedExpr) → AreTyped classes x ps (all_typed ps)) → AreTyped classes a ((o, b) ∷ ps) (all_typed ((o, b) ∷ ps))
typed_one classes a o None ps more = tt
typed_one classes a o (Some b) ps more = typed_next classes a b o ps (all_typed ps) (more b)

typed_faults : (classes : List ClassEntry) (a : TypedExpr) (ps : List (CmpOp × Option TypedExpr)) → AreTyped classes a ps (all_typed ps)
typed_faults classes a [] = refl
typed_faults classes a (p ∷ ps) = typed_one classes a p.0 p.1 ps (λ x. typed_faults classes x ps)

told_got : (span : Span) (ms : List Message) (t : TypedExpr) (right : Bool) → right ≡ is_nothing_wrong ms → (if right then Some t else None) ≡ (told span ms t).got
told_got span [] t right e = ap (λ b. if b then Some t else None) e
told_got span (m ∷ ms) t right e = ap (λ b. if b then Some t else None) e

neither : (right : Bool) (o : Option TypedExpr) → o ≡ None → (if right then o else None) ≡ None
neither true o e = e
neither false o e = refl

chain_got : (classes : List ClassEntry) (span : Span) (first : Option TypedExpr) (ps : List (CmpOp × Option TypedExpr)) (right : Bool) → right ≡ is_nothing_wrong (pairs_faults classes first ps) → (if right then option_map (chain span) (option_zip first (all_typed ps)) else None) ≡ (ruled_all span (faults_of classes) (chain span) (option_zip first (all_typed ps))).got
chain_got classes span None ps right e = neither right None refl
chain_got classes span (Some a) ps right e = by (all_typed ps) (typed_faults classes a ps)
  where
    by : (rest : Option (List (CmpOp × TypedExpr))) → AreTyped classes a ps rest → (if right then option_map (chain span) (option_zip (Some a) rest) else None) ≡ (ruled_all span (faults_of classes) (chain span) (option_zip (Some a) rest)).got
    by None h = neither right None refl
    by (Some qs) h = told_got span (chain_faults classes (type_of a) qs) (chain span (a, qs)) right (e ∙ ap is_nothing_wrong h)

pub chain_says : (classes : List ClassEntry) (span : Span) (first : Option TypedExpr) (ps : List (CmpOp × Option TypedExpr)) (said : List Diag) (more : Option (List (CmpOp × TypedExpr))) (right : Bool) (r : Result (Option (Box TExpr Global)) Memory) (o0 o1 o2 : List Diag) → Says right o0 o1 span (pairs_faults classes first ps) → o2 ≡ o1 ++ said → more ≡ all_typed ps → IfOk r (λ t. option_map boxed t ≡ (if right then option_map (chain span) (option_zip first more) else None)) → IfOk r (λ t. Tells boxed t o0 o2 (chain_of classes span first ps said))
chain_says classes span first ps said more right (Ok t) o0 o1 o2 s p m h = (
  h ∙ ap (λ x. if right then option_map (chain span) (option_zip first x) else None) m ∙ chain_got classes span first ps right s.0,
  p ∙ ap (λ l. l ++ said) s.1 ∙ append_assoc o0 (map (diag span) (pairs_faults classes first ps)) said,
)
chain_says classes span first ps said more right (Err e) o0 o1 o2 s p m h = tt

-- ---- a chain that has a type

told_right : (span : Span) (ms : List Message) (t b : TypedExpr) → (told span ms t).got ≡ Some b → ms ≡ []
told_right span [] t b e = refl
told_right span (m ∷ ms) t b e = absurd (cc)

-- no pair of it breaks its rule
pub chain_right : (classes : List ClassEntry) (span : Span) (first : Option TypedExpr) (ps : List (CmpOp × Option TypedExpr)) (said : List Diag) (b : TypedExpr) → (chain_of classes span first ps said).got ≡ Some b → pairs_faults classes first ps ≡ []
chain_right classes span None ps said b e = absurd (cc)
chain_right classes span (Some a) ps said b e = by (all_typed ps) (typed_faults classes a ps) e
  where
    by : (rest : Option (List (CmpOp × TypedExpr))) → AreTyped classes a ps rest → (ruled_all span (faults_of classes) (chain span) (option_zip (Some a) rest)).got ≡ Some b → pairs_faults classes (Some a) ps ≡ []
    by None h q = absurd (cc)
    by (Some qs) h q = h ∙ told_right span (chain_faults classes (type_of a) qs) (chain span (a, qs)) b q

-- and all its operands are typed
pub chain_operands : (classes : List ClassEntry) (span : Span) (first : Option TypedExpr) (ps : List (CmpOp × Option TypedExpr)) (said : List Diag) (b : TypedExpr) → (chain_of classes span first ps said).got ≡ Some b → (p : TypedExpr × List (CmpOp × TypedExpr)) × (option_zip first (all_typed ps) ≡ Some p)
chain_operands classes span first ps said b e = by (option_zip first (all_typed ps)) refl e
  where
    by : (o : Option (TypedExpr × List (CmpOp × TypedExpr))) → option_zip first (all_typed ps) ≡ o → (ruled_all span (faults_of classes) (chain span) o).got ≡ Some b → (p : TypedExpr × List (CmpOp × TypedExpr)) × (option_zip first (all_typed ps) ≡ Some p)
    by None h q = absurd (cc)
    by (Some p) h q = (p, h)

told_made : (span : Span) (ms : List Message) (t : TypedExpr) → ms ≡ [] → (told span ms t).got ≡ Some t
told_made span [] t e = refl
told_made span (m ∷ ms) t e = absurd (cc)

-- where all its operands are typed and no pair breaks its rule it has one
pub chain_made : (classes : List ClassEntry) (span : Span) (first : Option TypedExpr) (ps : List (CmpOp × Option TypedExpr)) (said : List Diag) (p : TypedExpr × List (CmpOp × TypedExpr)) → option_zip first (all_typed ps) ≡ Some p → pairs_faults classes first ps ≡ [] → (b : TypedExpr) × ((chain_of classes span first ps said).got ≡ Some b)
chain_made classes span None ps said p e h = absurd (cc)
chain_made classes span (Some a) ps said p e h = by (all_typed ps) (typed_faults classes a ps) e
  where
    by : (rest : Option (List (CmpOp × TypedExpr))) → AreTyped classes a ps rest → option_zip (Some a) rest ≡ Some p → (b : TypedExpr) × ((ruled_all span (faults_of classes) (chain span) (option_zip (Some a) rest)).got ≡ Some b)
    by None k q = absurd (cc)
    by (Some qs) k q = (chain span (a, qs), told_made span (chain_faults classes (type_of a) qs) (chain span (a, qs)) (sym k ∙ h))
