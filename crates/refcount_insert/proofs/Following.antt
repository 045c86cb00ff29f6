-- The C text of a program with its counts follows the program.
use Rattle.std.proofs.Common.{◌≡◌, ◌∙◌, refl, sym, ap, subst, map, ℕ}
use Rattle.value_core.specs.Items.{Items}
use Rattle.c_core.specs.declared.code.Code.{Code}
use Rattle.c_core.specs.WellFormed.{WellFormed}
use Rattle.ir_core.specs.declared.code.Program.{Program}
use Rattle.ir_core.specs.Bare.{bare_program}
use Rattle.ir_core.proofs.BareLemmas.{bare_is_same}
use Rattle.ir_core.specs.Lower.{global_of, lower}
use Rattle.ir_core.specs.Runs.{MeansSame, Fit}
use Rattle.ir_core.specs.Shape.{Shape}
use Rattle.refcount_insert_lines_laws.specs.Follows.{RunFollows, Follows}
use Rattle.refcount_insert_rule.specs.Counted.{IsCountedProgram}
use Rattle.refcount_insert_meaning_laws.specs.Uncounted.{uncounted}
use Rattle.refcount_insert_meaning_laws.proofs.Whole.{counted_means_same, counted_fits}
use Rattle.refcount_insert_order_laws.proofs.Whole.{counted_is_in_order}
use Rattle.refcount_insert_shapes_laws.proofs.Whole.{counted_is_well_formed}
use Rattle.refcount_insert_runs_laws.proofs.Whole.{counted_runs_follow}
use Rattle.refcount_insert_source_laws.proofs.Whole.{ordered_follows}

lowered_follows : (p q : Program) → Shape p → Fit p → IsCountedProgram p q → Follows p (lower q)
lowered_follows p q shape fit counted =
    let order = counted_is_in_order p q shape counted in
    let well : WellFormed (lower q) = counted_is_well_formed p q shape counted in
    ordered_follows p (lower q) order.0 well (ap (map global_of) counted.globals) order.1 (counted_runs_follow p q shape fit counted well)

-- a code follows each of two programs that mean the same
module _ (p q : Program) (code : Code) (globals : map global_of q.globals ≡ map global_of p.globals) (same : MeansSame p q) where
  runs_same : (turns : ℕ) (items : Items) → RunFollows p code turns items → RunFollows q code turns items
  runs_same turns items r = record {
    stop = r.stop;
    runs = r.runs;
    ending = r.ending;
    world = r.world;
    comes = (same turns items r.ending r.world).0 r.comes;
    agrees = r.agrees;
    free = r.free;
    runs_free = r.runs_free;
    stands = r.stands;
  }

  follows_same : Follows p code → Follows q code
  follows_same f = record { is_well_formed = f.is_well_formed; same_globals = f.same_globals ∙ sym globals; runs = λ turns items. runs_same turns items (f.runs turns items) }

-- without its counts it means the same
pub counted_means : (p q : Program) → Shape p → Fit p → IsCountedProgram (bare_program p) q → MeansSame p (uncounted q)
counted_means p q shape fit counted turns items e w =
    let bare = bare_is_same.means p fit turns items e w in
    let same = counted_means_same (bare_program p) q (bare_is_same.shape p shape) (bare_is_same.fits p fit) counted turns items e w in
    (λ h. same.0 (bare.1 h), λ h. bare.0 (same.1 h))

pub counted_fit : (p q : Program) → Shape p → Fit p → IsCountedProgram (bare_program p) q → Fit (uncounted q)
counted_fit p q shape fit counted =
    counted_fits (bare_program p) q (bare_is_same.shape p shape) (bare_is_same.fits p fit) counted

pub counted_follows : (p q : Program) (code : Code) → Shape p → Fit p → IsCountedProgram (bare_program p) q → code ≡ lower q → Follows p code
counted_follows p q code shape fit counted is =
    let bare = bare_program p in
    subst (Follows p) (sym is)
    (follows_same bare p (lower q) refl (bare_is_same.means p fit) (lowered_follows bare q (bare_is_same.shape p shape) (bare_is_same.fits p fit) counted))
