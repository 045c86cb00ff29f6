use Rattle.std.proofs.Common.{◌≡◌, ◌∙◌, ◌++◌, ℕ, Bool, false, List, map, Option, Some, None, IfOk, refl, ap, sym, subst}
use Rattle.std.proofs.Math.Path.{fun_ext}
use Rattle.std.specs.Option.{option_map, option_and_then}
use Rattle.py_syntax.specs.declared.token.Span.{Span}
use Rattle.py_syntax.specs.Statements.{param_tree}
use Rattle.py_typed.specs.Statements.{typed_func}
use Rattle.py_check_context.specs.Context.{Context}
use Rattle.py_check_context.specs.Members.{Inside, inside}
use Rattle.py_check_signatures.specs.declared.headers.Owner.TheVariants as owner
use Rattle.py_check_signatures.specs.Headers.{is_init}
use Rattle.py_check_places.specs.Views.{known_at}
use Rattle.py_check_definitions.specs.Definitions.{Headed}
use Rattle.py_check_definitions.specs.Views.{headed_parts}
use Rattle.py_check.specs.Module.{MembersKnown, first_name, declaring_in, inside_by, function_context, typed_function, body, body_after}
use Rattle.py_check.specs.Parts.{module_context_of}
use Rattle.py_check_definitions.proofs.FunctionLemmas.{headed_same}
use Rattle.py_check.proofs.WholeLemmas.{method_context}
use Rattle.py_check.proofs.bodies.typed_function.Goals as goal
use Rattle.py_check.proofs.bodies.typed_function.Goals.{in-Module, in-Class, in-UntypedTrait}

-- a method by its parts
abbrev method_by : Option ℕ → Option (List ℕ) → Bool → (List ℕ → Option Span) → Option ℕ → Inside
method_by class first init declaring next = record { class = class; first = first; is_init = init; declaring = declaring; next_init = next }

method_found : (w : MembersKnown) (f : Headed) (class : Option ℕ) → f.header.owner ≡ owner.Class class → (first : Option (List ℕ)) → first ≡ first_name f.tree.params → (init : Bool) → init ≡ is_init f.header.owner f.tree.name
    → (declaring : List ℕ → Option Span) → ((name : List ℕ) → declaring name ≡ declaring_in w class name) → (next : Option ℕ) → next ≡ option_and_then w.next_init class
    → Some (method_by class first init declaring next) ≡ inside_by w f f.header.owner
method_found w f class is first a init b declaring c next d =
    ap (λ (x : Option (List ℕ)). Some (method_by class x init declaring next)) a
    ∙ ap (λ (x : Bool). Some (method_by class (first_name f.tree.params) x declaring next)) b
    ∙ ap (λ (x : List ℕ → Option Span). Some (method_by class (first_name f.tree.params) (is_init f.header.owner f.tree.name) x next)) (fun_ext c)
    ∙ ap (λ (x : Option ℕ). Some (method_by class (first_name f.tree.params) (is_init f.header.owner f.tree.name) (declaring_in w class) x)) d
    ∙ sym (ap (inside_by w f) is)

trait_found : (w : MembersKnown) (f : Headed) → f.header.owner ≡ owner.UntypedTrait → (first : Option (List ℕ)) → first ≡ first_name f.tree.params → (declaring : List ℕ → Option Span) → ((name : List ℕ) → declaring name ≡ None)
    → Some (method_by None first false declaring None) ≡ inside_by w f f.header.owner
trait_found w f is first a declaring c =
    ap (λ (x : Option (List ℕ)). Some (method_by None x false declaring None)) a
    ∙ ap (λ (x : List ℕ → Option Span). Some (method_by None (first_name f.tree.params) false x None)) (fun_ext c)
    ∙ sym (ap (inside_by w f) is)

pub returns-clause-typed : goal.returns-clause-typed
returns-clause-typed c =
    let e = module_context_of c.args.module_context.now in
    let h = headed_parts c.args.f.now in
    let first = c.first_name-first.ensures ∙ ap (λ l. first_name (map param_tree l)) c.as_slice.ensures in
    let found : option_map inside c.match-f.inside ≡ inside_by e.members h h.header.owner =
    elim c.match-f.branch [
      | in-Module w ↦ ap (option_map inside) w.inside-is ∙ sym (ap (inside_by e.members h) w.in-Module.is)
      | in-Class w ↦
          ap (option_map inside) w.inside-is
          ∙ method_found e.members h w.in-Class.class w.in-Class.is _ first w.is_init.result w.is_init.ensures _ w.declaring_of.ensures w.next_init_of.result w.next_init_of.ensures
      | in-UntypedTrait w ↦ ap (option_map inside) w.inside-is ∙ trait_found e.members h w.in-UntypedTrait.is _ first _ c.requires
    ] in
    let P : Context → Type 0 = λ w. IfOk c.function_in.result (λ t. typed_func t ≡ typed_function w e.variables (known_at c.args.place.now).types.globals h) in
    let Q : Headed → Type 0 = λ f. IfOk c.function_in.result (λ t. typed_func t ≡ typed_function (function_context e f) e.variables (known_at c.args.place.now).types.globals f) in
    subst Q (sym (headed_same c.args.f.now)) (subst P (method_context _ e _ h c.in_ok-names.ensures found _ refl) c.function_in.ensures.typed)

pub returns-clause-told : goal.returns-clause-told
returns-clause-told c =
    let e = module_context_of c.args.module_context.now in
    let h = headed_parts c.args.f.now in
    let first = c.first_name-first.ensures ∙ ap (λ l. first_name (map param_tree l)) c.as_slice.ensures in
    let found : option_map inside c.match-f.inside ≡ inside_by e.members h h.header.owner =
    elim c.match-f.branch [
      | in-Module w ↦ ap (option_map inside) w.inside-is ∙ sym (ap (inside_by e.members h) w.in-Module.is)
      | in-Class w ↦
          ap (option_map inside) w.inside-is
          ∙ method_found e.members h w.in-Class.class w.in-Class.is _ first w.is_init.result w.is_init.ensures _ w.declaring_of.ensures w.next_init_of.result w.next_init_of.ensures
      | in-UntypedTrait w ↦ ap (option_map inside) w.inside-is ∙ trait_found e.members h w.in-UntypedTrait.is _ first _ c.requires
    ] in
    let P : Context → Type 0 = λ w. IfOk c.function_in.result (λ t. c.function_in.new.faults ≡ c.args.faults.now ++ (body w e.variables (known_at c.args.place.now).types.globals h).said) in
    let Q : Headed → Type 0 = λ f. IfOk c.function_in.result (λ t. c.function_in.new.faults ≡ c.args.faults.now ++ (body (function_context e f) e.variables (known_at c.args.place.now).types.globals f).said) in
    subst Q (sym (headed_same c.args.f.now)) (subst P (method_context _ e _ h c.in_ok-names.ensures found _ refl) c.function_in.ensures.told)

pub returns-clause-known : goal.returns-clause-known
returns-clause-known c =
    let e = module_context_of c.args.module_context.now in
    let h = headed_parts c.args.f.now in
    let first = c.first_name-first.ensures ∙ ap (λ l. first_name (map param_tree l)) c.as_slice.ensures in
    let found : option_map inside c.match-f.inside ≡ inside_by e.members h h.header.owner =
    elim c.match-f.branch [
      | in-Module w ↦ ap (option_map inside) w.inside-is ∙ sym (ap (inside_by e.members h) w.in-Module.is)
      | in-Class w ↦
          ap (option_map inside) w.inside-is
          ∙ method_found e.members h w.in-Class.class w.in-Class.is _ first w.is_init.result w.is_init.ensures _ w.declaring_of.ensures w.next_init_of.result w.next_init_of.ensures
      | in-UntypedTrait w ↦ ap (option_map inside) w.inside-is ∙ trait_found e.members h w.in-UntypedTrait.is _ first _ c.requires
    ] in
    let P : Context → Type 0 = λ w. IfOk c.function_in.result (λ t. (known_at c.function_in.new.place).types.globals ≡ (body_after w e.variables (known_at c.args.place.now).types.globals h).types.globals) in
    let Q : Headed → Type 0 = λ f. IfOk c.function_in.result (λ t. (known_at c.function_in.new.place).types.globals ≡ (body_after (function_context e f) e.variables (known_at c.args.place.now).types.globals f).types.globals) in
    subst Q (sym (headed_same c.args.f.now)) (subst P (method_context _ e _ h c.in_ok-names.ensures found _ refl) c.function_in.ensures.known)
