-- Modules of which nothing is said are typed whole.
use Rattle.std.proofs.Common.{◌≡◌, ℕ, zero, suc, true, false, List, [], ◌∷◌, map, refl}
use Rattle.std.proofs.lemmas.Bool.{and_from}
use Rattle.std.specs.Prelude.{is_some}
use Rattle.py_syntax.specs.Statements.{Suite, FuncTree}
use Rattle.py_binder.specs.declared.sight.Home.TheVariants.{InModule}
use Rattle.py_binder.specs.Scope.{module_role, module_scope}
use Rattle.py_check_context.specs.Context.{VarSort, var_at}
use Rattle.py_check_flow.specs.Bindings.{suite_bindings}
use Rattle.py_check_signatures.specs.declared.headers.Owner.{Owner}
use Rattle.py_check_values.specs.Returns as ret
use Rattle.py_check_statements.specs.Bodies.{nothing_around}
use Rattle.py_check_definitions.specs.Starts.{start_sort}
use Rattle.py_check_definitions.specs.Definitions.{headed_functions}
use Rattle.py_check.specs.Module.{module_start, own_statements, global_sorts, said}
use Rattle.py_check_expressions_laws.specs.Laws as law
use Rattle.py_check_laws.specs.Modules.{are_typed, is_typed_whole}
use Rattle.py_check_laws.proofs.Given.{some_is}
use Rattle.py_check_laws.proofs.Whole.{AllTyped, InReach, quiet_got, loud_block, quiet_block}
use Rattle.py_check_laws.proofs.KnownMarks.{suite_known}
use Rattle.py_check_laws.proofs.Marks.{start_typed, suite_marks}
use Rattle.py_check_laws.proofs.Signed.{IsSigned}
use Rattle.py_check_laws.proofs.Bodied.{bodies_typed}
use Rattle.py_check_laws.proofs.Quieted as quiet

typed_map : (f : List ℕ → VarSort) → ((x : List ℕ) → law.is_untyped (f x) ≡ false) → (names : List (List ℕ)) (i : ℕ) → law.is_untyped (var_at (map f names) i) ≡ false
typed_map f h [] i = refl
typed_map f h (x ∷ names) zero = h x
typed_map f h (x ∷ names) (suc i) = typed_map f h names i

-- where the members of classes have types wherever they are in reach
module _ (m : Suite) (nothing : said m ≡ []) (reach : InReach (quiet.top m nothing)) (inner_reach : (p : FuncTree × Owner) → IsSigned (quiet.meant m nothing) (quiet.typed_names m nothing) (module_role m) p → InReach (quiet.inside m nothing p)) where
  pub start_all : AllTyped (module_start (quiet.top m nothing) (quiet.e m nothing).variables m).types
  start_all = record {
    locals = λ i. refl;
    globals =
        typed_map (start_sort (quiet.meant m nothing) (suite_bindings m))
        (start_typed (quiet.meant m nothing) (quiet.typed_names m nothing) (suite_bindings m) (suite_known (quiet.meant m nothing) InModule m (quiet.top_known m nothing))
        (suite_marks (quiet.top m nothing) ret.outside nothing_around (module_start (quiet.top m nothing) (quiet.e m nothing).variables m) m (quiet.own_quiet m nothing)))
        (quiet.e m nothing).variables;
  }

  -- THE WHOLE MODULE is typed
  pub typed_whole : is_typed_whole m ≡ true
  typed_whole =
      let e = quiet.e m nothing in
      let top = quiet.top m nothing in
      let k = module_start top e.variables m in
      let own = own_statements top e.variables m in
      let sorts = global_sorts e (module_scope m) (headed_functions m) m in
      let g = quiet_got own (loud_block top reach ret.outside refl InModule nothing_around k start_all m (quiet.top_known m nothing)) (quiet.own_quiet m nothing) in
      let b = quiet_block top reach ret.outside refl InModule nothing_around k start_all m (quiet.top_known m nothing) (quiet.own_quiet m nothing) in
      and_from (is_some own.got) (are_typed e sorts (headed_functions m)) (some_is own.got g.0 g.1)
      (bodies_typed e (module_role m) (quiet.meant m nothing) (quiet.typed_names m nothing) inner_reach (quiet.inner_typed m nothing) (quiet.inner_known m nothing) sorts b.globals (quiet.pairs m nothing) (quiet.all_functions m nothing) (quiet.bodies_quiet m nothing))
