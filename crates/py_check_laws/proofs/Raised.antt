-- Exceptions that are raised stand well typed, and so do the heads of except clauses.
use Rattle.std.proofs.Common.{◌≡◌, ℕ, Bool, true, false, ◌&&◌, List, [], ◌++◌, Option, Some, None, refl, ap, sym, ◌∙◌, subst}
use Rattle.std.proofs.lemmas.Bool.{and_from}
use Rattle.std.proofs.lemmas.Option.{same_Some}
use Rattle.std.specs.Prelude.{is_some}
use Rattle.value_core.specs.declared.exception.ExcClass.{ExcClass}
use Rattle.value_core.specs.declared.exception.ExcClass.TheVariants.{Exception}
use Rattle.py_syntax.specs.declared.token.Span.{Span}
use Rattle.py_syntax.specs.Expressions as tree
use Rattle.py_syntax.specs.Expressions.{ExprTree, at}
use Rattle.py_typed.specs.Sorts.{Sort, Exc}
use Rattle.py_typed.specs.Fits.{fits}
use Rattle.py_typed.specs.Expressions as expr
use Rattle.py_typed.specs.Expressions.{type_of}
use Rattle.py_typed.specs.Statements.{Variable, TypedModule, TypedTarget, TypedAct}
use Rattle.py_typed.specs.Narrowing.{bound_by_name}
use Rattle.py_typed.specs.WellTypedExpr.{stands, is_exception}
use Rattle.py_typed.specs.WellTyped as stmt
use Rattle.py_typed.proofs.FitLemmas.{type_is_itself, fits_itself}
use Rattle.py_check_context.specs.Context.{Context, free}
use Rattle.py_check_context.specs.Context as context
use Rattle.py_check_values.specs.Aims.{Aim, held, first, barred, unwritten, misplaced, lacking}
use Rattle.py_check_values.specs.Assignments.{binding_fault}
use Rattle.py_check_places.specs.Places.{Known, bind_name}
use Rattle.py_check_calls.specs.Exceptions.{exception_made}
use Rattle.py_check_exceptions.specs.Handlers.{name_target, name_fault, handler_head, in_handler}
use Rattle.py_check_expressions_laws.specs.WellTyped.{Describes, Within}
use Rattle.py_check_expressions_laws.proofs.Sound.{sound_typing}
use Rattle.py_check_expressions_laws.proofs.Stands.{stands_made}
use Rattle.py_check_laws.specs.Variables.{sort_in}
use Rattle.py_check_laws.specs.WellTyped.{maybe_written, IsScope}
use Rattle.py_check_laws.proofs.Given.{some_is}
use Rattle.py_check.proofs.Kept.{follows_name}
use Rattle.py_check_laws.proofs.Aims.{AimAt, aim_held, aim_first, first_name, held_aimed, first_aimed, aimed_bound}
use Rattle.py_check_laws.proofs.Exceptions.{Raised, raised_on, raised_class, raised_value, NameAt, head_given}
use Rattle.py_check_laws.proofs.Values.{scene, fault_fits}
use Rattle.py_check_laws.proofs.Targets.{held_stands, variable_stands, first_open}
use Rattle.py_check_laws.proofs.Bound.{described_before, first_type_there, Good}
use Rattle.py_check_laws.proofs.Loops.{aimed_name, no_none}

module _ (C : Context) (m : TypedModule) (locals : List Variable) (init : Option ℕ) (result : Option Sort) where
  abbrev here : Context
  here = scene C m locals init

  abbrev Fine : Bool → Bool → List ℕ → List ℕ → TypedAct → Type 0
  Fine = Good C m locals init result

  -- ---- `raise`

  new_exception : (others : List ℕ) (place : Span) (x : ExcClass) → stands m locals init false others (exception_made place x None) ≡ true
  new_exception others place x = stands_made m locals init false others (expr.MakeExc x expr.no_expr) (Exc x) place refl (type_is_itself (Exc x)) refl refl refl

  pub good_raise : (loops handling : Bool) (k : Known) → Describes here k.types m locals init → (e : Option ExprTree) → maybe_written e ≡ true → (a : TypedAct) → Raised here handling k e a → (others : List ℕ) → Within k.names others → Fine loops handling others k.names a
  good_raise loops handling k D e we a (raised_on q is) others w = subst (Fine loops handling others k.names) is (record { typed = q; names = w })
  good_raise loops handling k D e we a (raised_class place x is) others w =
      subst (Fine loops handling others k.names) is (record { typed = and_from (stands m locals init false others (exception_made place x None)) true (new_exception others place x) refl; names = w })
  good_raise loops handling k D e we a (raised_value value t p g x is) others w =
      let s = (sound_typing C k.types m locals init D free k.names value (subst (λ o. maybe_written o ≡ true) p we) refl).each t g others w refl in
      subst (Fine loops handling others k.names) is (record { typed = and_from (stands m locals init false others t) (is_exception (type_of t)) s x; names = w })

  -- ---- heads of except clauses

  three : (a b c : Bool) → a ≡ true → b ≡ true → c ≡ true → (a && b && c) ≡ true
  three a b c p q r = cc

  -- a name that takes the exception, and what is known where the body begins
  pub record ClauseStands (others : List ℕ) (name : Option TypedTarget) (names : List ℕ) : Type 0 where
    pub right : stmt.name_fits m locals init result name ≡ true
    pub start : Within names (bound_by_name name ++ others)

  abbrev caught_type : Sort
  caught_type = Exc Exception

  good_name : (k : Known) → IsScope here k.types → (span : Span) (x : List ℕ) (a : Aim) → AimAt here k (Some x) (at (tree.Name x) span) a → binding_fault m.classes.classes a caught_type ≡ None → Describes here (bind_name here true k (Some x) (Some caught_type)).types m locals init → (others : List ℕ) → Within k.names others
      → ClauseStands others (name_target (Some a)) (bind_name here true k (Some x) (Some caught_type)).names
  good_name k sc span x (held t s) a f E others w =
      let target = at (tree.Name x) span in
      let D = described_before here k.types (bind_name here true k (Some x) (Some caught_type)).types m locals init (follows_name here true k (Some x) (Some caught_type)) E in
      let d = aim_held here k target t s a in
      let st = held_stands C m locals init result k D target (λ q. absurd (no_none C m locals init result (Some x) x refl q)) t s d [] (λ q. absurd (no_none C m locals init result (Some x) x refl q)) in
      record {
        right = three (stmt.is_name m locals init result t) (stmt.target_typed m locals init result [] t) (fits m.classes.classes caught_type (stmt.target_type m locals init result t)) (aimed_name C m locals init result target t (held_aimed here k target t s d) (no_none C m locals init result (Some x) x refl)) st.there
            (ap (fits m.classes.classes caught_type) st.type ∙ fault_fits C m locals init s caught_type f);
        start = aimed_bound here target t (held_aimed here k target t s d) true k (Some caught_type) caught_type others w (λ q. refl);
      }
  good_name k sc span x (first t y) a f E others w =
      let target = at (tree.Name x) span in
      let d = aim_first here k target t y a in
      let n = first_name here k target t y a in
      let o = first_open C m locals init result k target t y d n in
      let e = bind_name here true k (Some x) (Some caught_type) in
      let r : sort_in e.types (C.meaning y) ≡ context.has caught_type =
      ap (λ (q : Option (List ℕ)). sort_in (bind_name here true k q (Some caught_type)).types (C.meaning y)) n ∙ first_type_there C m locals init result k sc y caught_type o in
      let st = variable_stands C m locals init result e.types E target t k d caught_type (λ z q. ap (λ v. sort_in e.types (C.meaning v)) (same_Some z y (sym q ∙ n)) ∙ r) [] in
      record {
        right = three (stmt.is_name m locals init result t) (stmt.target_typed m locals init result [] t) (fits m.classes.classes caught_type (stmt.target_type m locals init result t)) (aimed_name C m locals init result target t (first_aimed here k target t d) (no_none C m locals init result (Some x) y n)) st.there
            (ap (fits m.classes.classes caught_type) st.type ∙ fits_itself m.classes.classes caught_type);
        start = aimed_bound here target t (first_aimed here k target t d) true k (Some caught_type) caught_type others w (λ q. refl);
      }
  good_name k sc span x (barred y) a f E others w = absurd (cc)
  good_name k sc span x (unwritten s) a f E others w = absurd (cc)
  good_name k sc span x (lacking s y) a f E others w = absurd (cc)
  good_name k sc span x (misplaced s) a f E others w = absurd (cc)

  named_by : (k : Known) → IsScope here k.types → (span : Span) (x : Option (List ℕ)) (a : Option Aim) → NameAt here k span x a → name_fault m.classes.classes a ≡ None → Describes here (bind_name here true k x (Some caught_type)).types m locals init → (others : List ℕ) → Within k.names others
      → ClauseStands others (name_target a) (bind_name here true k x (Some caught_type)).names
  named_by k sc span None a n f E others w = subst (λ o. ClauseStands others (name_target o) k.names) n (record { right = refl; start = w })
  named_by k sc span (Some x) a n f E others w =
      subst (λ o. ClauseStands others (name_target o) (bind_name here true k (Some x) (Some caught_type)).names) n.2 (good_name k sc span x n.0 n.1 (ap (name_fault m.classes.classes) n.2 ∙ f) E others w)

  -- THE HEAD of a clause
  pub good_head : (k : Known) → IsScope here k.types → (span : Span) (e : Option ExprTree) (x : Option (List ℕ)) (last : Bool) (p : List ExcClass × Option TypedTarget) → (handler_head here k span e x last).got ≡ Some p → Describes here (in_handler here k span e x last).types m locals init → (others : List ℕ) → Within k.names others
      → (stmt.is_filled m locals init result p.0 ≡ true) × ClauseStands others p.1 (in_handler here k span e x last).names
  good_head k sc span e x last p h E others w =
      let g = head_given here k span e x last p h in
      let ok : is_some (handler_head here k span e x last).got ≡ true = some_is (handler_head here k span e x last).got p h in
      let all = named_by k sc span x g.aim g.name g.right (subst (λ b. Describes here (bind_name here b k x (Some caught_type)).types m locals init) ok E) others w in (
        subst (λ l. stmt.is_filled m locals init result l ≡ true) g.filled refl,
        subst (λ b. ClauseStands others p.1 (bind_name here b k x (Some caught_type)).names) (sym ok) (subst (λ o. ClauseStands others o (bind_name here true k x (Some caught_type)).names) g.target all),
      )
