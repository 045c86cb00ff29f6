-- The C text of a program that does what a module does is faithful to the module.
use Rattle.std.proofs.Common.{◌≡◌, refl, ◌∙◌, ap, ℕ, List, [], ◌∷◌, map}
use Rattle.value_core.specs.Items.{Items, input_items}
use Rattle.py_typed.specs.Sorts as sort
use Rattle.py_typed.specs.Sorts.{Sort}
use Rattle.py_typed.specs.Statements.{Variable, TypedModule}
use Rattle.c_core.specs.declared.code.Kind.{Kind}
use Rattle.c_core.specs.declared.code.Code.{Code}
use Rattle.ir_core.specs.declared.code.Program.{Program}
use Rattle.ir_core.specs.Lower.{kind_of_type, global_of}
use Rattle.ir_core.specs.Meaning.{Plain}
use Rattle.ir_core.specs.Runs.{MeansSame, start}
use Rattle.ir_core.proofs.RunLemmas.{ends_are_one}
use Rattle.ir_builder_frames.specs.Settings.{rtype_of}
use Rattle.error_edges.specs.Edged.{IsEdgedProgram}
use Rattle.refcount_insert_lines_laws.specs.Follows.{stop_of, Follows}
use Rattle.ir_builder.specs.Meaning as builder
use Rattle.ir_builder.specs.Meaning.{DoesAsModule, globals_of}
use Rattle.mypyc_top_compiler.specs.Faithful.{kind_of, RunsAs, Faithful}

-- ---- variables

same_kind : (t : Sort) → kind_of_type (rtype_of t) ≡ kind_of t
same_kind sort.Int = refl
same_kind sort.I64 = refl
same_kind sort.Bool = refl
same_kind _ = refl

-- variables as a program's globals, and those of its C text
same_variables : (vs : List Variable) → map global_of (map (λ (v : Variable). (v.0, rtype_of v.1)) vs) ≡ map (λ (v : Variable). (v.0, kind_of v.1)) vs
same_variables [] = refl
same_variables (v ∷ vs) =
    let first : (v.0, kind_of_type (rtype_of v.1)) ≡ (v.0, kind_of v.1) = ap (λ (k : Kind). (v.0, k)) (same_kind v.1) in
    ap (λ x. x ∷ map global_of (map (λ (v : Variable). (v.0, rtype_of v.1)) vs)) first
    ∙ ap (λ rest. (v.0, kind_of v.1) ∷ rest) (same_variables vs)

-- ---- runs

-- a program that comes to the same ends does what the module does too
pub same_does : (m : TypedModule) (p q : Program) → DoesAsModule m p → MeansSame p q → DoesAsModule m q
same_does m p q does same n items =
    let run = does n items in
    record { ending = run.ending; world = run.world; comes = (same n items run.ending run.world).0 run.comes; same = run.same }

runs_as : (m : TypedModule) (p : Program) (code : Code) → DoesAsModule m p → Follows p code → (n : ℕ) (items : Items) → RunsAs m code n items
runs_as m p code does follows n items =
    let run = does n items in
    let there = follows.runs n items in
    let same = ends_are_one Plain p run.comes.0 there.comes.0 (start p n items) run.ending there.ending run.world there.world run.comes.1 there.comes.1 in
    record {
      source = stop_of there.ending there.world;
      is_source =
          run.same
          ∙ (ap (λ e. builder.module_stop e run.world) same.0 ∙ ap (λ w. builder.module_stop there.ending w) same.1);
      stop = there.stop;
      runs = there.runs;
      agrees = there.agrees;
    }

-- a code that follows a module's program
pub following_is_faithful : (m : TypedModule) (p q : Program) (code : Code) → DoesAsModule m p → p.globals ≡ globals_of m → IsEdgedProgram p q → MeansSame p q → Follows q code → Faithful m code
following_is_faithful m p q code does globals edged same follows = record {
  is_well_formed = follows.is_well_formed;
  same_variables = follows.same_globals ∙ (ap (map global_of) (edged.globals ∙ globals) ∙ same_variables m.globals);
  runs = λ n most bytes e. runs_as m q code (same_does m p q does same) follows n (input_items bytes e);
}
