-- What except clauses and a `try` say, and what is known behind them, from what their parts said.
use Rattle.std.proofs.Common.{◌≡◌, ◌∙◌, ◌<◌, ◌≤◌, ◌+◌, ℕ, zero, suc, Bool, List, [], ◌∷◌, ◌++◌, Option, Result, Ok, Err, IfOk, length, map, drop, get_or, drop-cons, add-one, refl, ap, sym, subst, arith}
use Rattle.std.proofs.lemmas.List.{append_assoc, drop_all}
use Rattle.std.proofs.Math.Dec.{eqb-zero-suc, eqb-suc-suc}
use Rattle.std.specs.Prelude.{nat_eq}
use Rattle.std.specs.Option.{option_map, option_zip}
use Rattle.value_core.specs.declared.exception.ExcClass.{ExcClass}
use Rattle.value_core.specs.declared.memory.Memory.{Memory}
use Rattle.py_syntax.specs.declared.statement.Handler.{Handler, out-Handler, fold_out-Handler}
use Rattle.py_syntax.specs.Statements as node
use Rattle.py_syntax.specs.Statements.{StmtTree, StmtNode, ClassTree, FuncTree, HandlerTree, Handlers, maybe_expr, body_tree, handler_tree, handlers_of, node_step, class_step, func_step, handler_step, stmt_step}
use Rattle.py_syntax_diagnostics.specs.declared.diagnostic.Diag.{Diag}
use Rattle.py_typed.specs.Statements.{TypedStmt, TypedTarget, HandlerParts}
use Rattle.py_check_context.specs.Context.{Context}
use Rattle.py_check_messages.specs.Seen.{Seen, is, both, made, Tells}
use Rattle.py_check_messages.specs.Rows.{kept, row_then}
use Rattle.py_check_messages.proofs.RowLemmas.{Remains, row_step}
use Rattle.py_check_values.specs.Returns.{ReturnSort}
use Rattle.py_check_places.specs.Places.{Known, with_names}
use Rattle.py_check_exceptions.specs.Handlers.{in_handler}
use Rattle.py_check_statements.specs.declared.bodies.Around.{Around}
use Rattle.py_check_statements.specs.Bodies.{is_last, clause_of, block_after, handlers_after, clause, clauses}

if_ok : {X : Type 0} (r : Result X Memory) (P Q : X → Type 0) → ((x : X) → P x → Q x) → IfOk r P → IfOk r Q
if_ok (Ok x) P Q f h = f x h
if_ok (Err e) P Q f h = tt

-- three parts, one behind the other, and what is made of them
pub three_say : {A B D E X Y Z W : Type 0} (f : (A × B) × D → E) (va : X → A) (vb : Y → B) (vd : Z → D) (ve : W → E) (s : Seen A) (t : Seen B) (u : Seen D) (a : Option X) (b : Option Y) (d : Option Z) (r : Result (Option W) Memory) (o0 o1 o2 o3 : List Diag) → Tells va a o0 o1 s → Tells vb b o1 o2 t → Tells vd d o2 o3 u → IfOk r (λ w. option_map ve w ≡ option_map f (option_zip (option_zip (option_map va a) (option_map vb b)) (option_map vd d))) → IfOk r (λ w. Tells ve w o0 o3 (made f (both (both s t) u)))
three_say f va vb vd ve s t u a b d r o0 o1 o2 o3 ta tb td =
    if_ok r (λ w. option_map ve w ≡ option_map f (option_zip (option_zip (option_map va a) (option_map vb b)) (option_map vd d))) (λ w. Tells ve w o0 o3 (made f (both (both s t) u)))
    (λ w h. (
      h
          ∙ ap (λ x. option_map f (option_zip (option_zip x (option_map vb b)) (option_map vd d))) ta.0
          ∙ ap (λ y. option_map f (option_zip (option_zip s.got y) (option_map vd d))) tb.0
          ∙ ap (λ z. option_map f (option_zip (option_zip s.got t.got) z)) td.0,
      td.1 ∙ ap (λ l. l ++ u.said) (tb.1 ∙ ap (λ l. l ++ t.said) ta.1 ∙ append_assoc o0 s.said t.said) ∙ append_assoc o0 (s.said ++ t.said) u.said,
    ))

-- ---- except clauses

-- a clause by its parts
pub handler_tree_at : (h : Handler) → handler_tree h ≡ record { class = maybe_expr (out-Handler h).class; name = (out-Handler h).name; body = body_tree (out-Handler h).body; span = (out-Handler h).span }
handler_tree_at h = fold_out-Handler StmtNode ClassTree FuncTree HandlerTree StmtTree node_step class_step func_step handler_step stmt_step h

-- the last clause is the one that no other follows
none_left : (hs : List Handler) (n : ℕ) → n ≤ length hs → is_last (handlers_of (map handler_tree (drop n hs))) ≡ nat_eq n (length hs)
none_left [] zero p = refl
none_left [] (suc n) p = absurd (omega arith)
none_left (h ∷ hs) zero p = sym (eqb-zero-suc (length hs))
none_left (h ∷ hs) (suc n) p = none_left hs n (omega arith) ∙ sym (eqb-suc-suc n (length hs))

module _ (C : Context) (names : List ℕ) (hs : List Handler) (i : ℕ) (h : Handler) (p : i < length hs) (is : h ≡ get_or hs i h) (last : Bool) (ends : last ≡ nat_eq (i + 1) (length hs)) where
  abbrev more : Handlers
  more = handlers_of (map handler_tree (drop (i + 1) hs))

  clause_at : handlers_of (map handler_tree (drop i hs)) ≡ node.handler_then (handler_tree h).class (handler_tree h).name (handler_tree h).body (handler_tree h).span more
  clause_at =
      ap (λ l. handlers_of (map handler_tree l)) (drop-cons hs i h p)
      ∙ ap (λ (x : Handler). handlers_of (handler_tree x ∷ map handler_tree (drop (suc i) hs))) (sym is)
      ∙ ap (λ n. handlers_of (handler_tree h ∷ map handler_tree (drop n hs))) (sym (add-one i))

  last_is : is_last more ≡ last
  last_is = none_left hs (i + 1) (omega (arith, p)) ∙ sym ends

  abbrev inside : Known → Bool → Known
  inside k l = in_handler C k (handler_tree h).span (handler_tree h).class (handler_tree h).name l

  -- one more clause, which begins with these names
  module _ (k k0 k1 : Known) (begun : k0 ≡ with_names k names) (ended : k1 ≡ block_after C (inside k0 last) (handler_tree h).body) where
    behind : k1 ≡ block_after C (inside (with_names k names) last) (handler_tree h).body
    behind = ended ∙ ap (λ x. block_after C (inside x last) (handler_tree h).body) begun

    pub clauses_known : (start : Known) → handlers_after C names start (handlers_of (map handler_tree hs)) ≡ handlers_after C names k (handlers_of (map handler_tree (drop i hs))) → handlers_after C names start (handlers_of (map handler_tree hs)) ≡ handlers_after C names k1 more
    clauses_known start before =
        before
        ∙ ap (handlers_after C names k) clause_at
        ∙ ap (λ l. handlers_after C names (block_after C (inside (with_names k names) l) (handler_tree h).body) more) last_is
        ∙ ap (λ x. handlers_after C names x more) (sym behind)

    module _ (R : ReturnSort) (around : Around) where
      abbrev one_at : Known → Bool → Seen ((List ExcClass × Option TypedTarget) × List TypedStmt)
      one_at x l = clause C R around x (handler_tree h).span (handler_tree h).class (handler_tree h).name l (handler_tree h).body

      row_at : clauses C R around names k (handlers_of (map handler_tree (drop i hs))) ≡ row_then (made clause_of (one_at (with_names k names) last)) (clauses C R around names k1 more)
      row_at =
          ap (clauses C R around names k) clause_at
          ∙ ap (λ l. row_then (made clause_of (one_at (with_names k names) l)) (clauses C R around names (block_after C (inside (with_names k names) l) (handler_tree h).body) more)) last_is
          ∙ ap (λ x. row_then (made clause_of (one_at (with_names k names) last)) (clauses C R around names x more)) (sym behind)

      pub clauses_row : (front front1 : Option (List HandlerParts)) (got : Option ((List ExcClass × Option TypedTarget) × List TypedStmt)) (o0 o1 o2 : List Diag) (whole : Seen (List HandlerParts)) → front1 ≡ kept front (option_map clause_of got) → got ≡ (one_at k0 last).got → o2 ≡ o1 ++ (one_at k0 last).said → Remains front o0 o1 whole (clauses C R around names k (handlers_of (map handler_tree (drop i hs)))) → Remains front1 o0 o2 whole (clauses C R around names k1 more)
      clauses_row front front1 got o0 o1 o2 whole f g m before =
          let one : Seen HandlerParts = made clause_of (one_at (with_names k names) last) in
          let rest : Seen (List HandlerParts) = clauses C R around names k1 more in
          let P : Seen (List HandlerParts) → Type 0 = λ x. Remains front o0 o1 whole x in
          let now : Remains front o0 o1 whole (row_then one rest) = subst P row_at before in
          let Q : Option (List HandlerParts) → Type 0 = λ x. Remains x o0 o2 whole rest in
          subst Q (sym f) (row_step front (option_map clause_of got) o0 o1 o2 whole rest one now (ap (option_map clause_of) (g ∙ ap (λ x. (one_at x last).got) begun)) (m ∙ ap (λ x. o1 ++ (one_at x last).said) begun))

-- behind the last one
module _ (C : Context) (names : List ℕ) (hs : List Handler) (i : ℕ) (h : length hs ≤ i) where
  pub clauses_end : (R : ReturnSort) (around : Around) (k : Known) → clauses C R around names k (handlers_of (map handler_tree (drop i hs))) ≡ is []
  clauses_end R around k = ap (λ l. clauses C R around names k (handlers_of (map handler_tree l))) (drop_all i hs h)

  pub handlers_end : (start k : Known) → handlers_after C names start (handlers_of (map handler_tree hs)) ≡ handlers_after C names k (handlers_of (map handler_tree (drop i hs))) → k ≡ handlers_after C names start (handlers_of (map handler_tree hs))
  handlers_end start k before = sym (before ∙ ap (λ l. handlers_after C names k (handlers_of (map handler_tree l))) (drop_all i hs h))
