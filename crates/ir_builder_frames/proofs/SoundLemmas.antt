-- Each call of a builder keeps that its code suits its registers, that its ends go where they may, and that names differ.
use Rattle.ir_builder_frames.proofs.Common.{◌≡◌, ℕ, ◌+◌, ◌^◌, ◌<◌, ◌≤◌, List, [], ◌∷◌, length, Some, Bool, true, false, not, refl, sym, subst, arith, take, length-append, names_differ, Result, Ok, Err, OnOk, OnErr, ◌⊎◌, IsTrue, Op, Last, Lit, Prim, Call, Primitive, PArg, Reg, RType, Declared, Building, Surrounding, ended_block, held, with_last, added, pushed, closed, Declares, temporary_name, LiteralFits, Answers, ReadsGlobal, Calls, HasKinds}
use Rattle.ir_core.specs.declared.code.Lit.{Lit as Literal}
use Rattle.ir_builder_frames.specs.Naming.{names_of, AreNamed}
use Rattle.ir_builder_frames.specs.Shaped.{EndFits, PatchFits, AllFit}
use Rattle.ir_builder_frames.specs.Sound.{MayCome, MayEnd, MayPatch, IsSound}
use Rattle.ir_builder_frames.proofs.HeldLemmas.{added_extends, get_below}
use Rattle.ir_builder_frames.proofs.PatchLemmas.{with_last_length}
use Rattle.ir_builder_frames.proofs.ShapeLemmas.{all_higher, ops_fit_behind, closed_fits, patched_fits, primitive_fits, none_taken}
use Rattle.ir_builder_frames.proofs.KindLemmas.{extends_more, ops_more, blocks_more, ops_behind, blocks_behind, blocks_last, literal_kinds, primitive_kinds, call_kinds}
use Rattle.ir_builder_frames.proofs.NameLemmas.{is_name_in, named_more, named_later}

pub sound_later : (next later : ℕ) (b : Building) → next ≤ later → IsSound next b → IsSound later b
sound_later next later b le s = record { named = named_later b.among.variables next later b.regs le s.named; ends = s.ends; ops = s.ops; blocks_kinds = s.blocks_kinds; ops_kinds = s.ops_kinds }

module _ (next : ℕ) (b : Building) (s : IsSound next b) where
  -- where nothing has changed
  pub sound_same : (c : Building) → c ≡ b → IsSound next c
  sound_same c e = subst (IsSound next) (sym e) s

  sound_added : (k : ℕ) (name : List ℕ) (t : RType) → name ≡ temporary_name k → next ≤ k → k < 2 ^ 64 → is_name_in name (take b.among.variables b.regs) ≡ false → IsSound (k + 1) (added b name t)
  sound_added k name t is le small fresh =
      let c = added b name t in
      let up = extends_more b c (added_extends b c name t refl) in
      record {
        named = named_more b.among.variables next k b.regs name t s.named is le small fresh;
        ends = s.ends;
        ops = s.ops;
        blocks_kinds = blocks_more b.regs c.regs up b.among b.blocks s.blocks_kinds;
        ops_kinds = ops_more b.regs c.regs up b.among b.ops s.ops_kinds;
      }

  sound_pushed : (o : Op × ℕ) → MayCome b o.0 → IsSound next (pushed b o)
  sound_pushed o fits = record {
    named = s.named;
    ends = s.ends;
    ops = ops_fit_behind b.ops o fits.0 s.ops;
    blocks_kinds = s.blocks_kinds;
    ops_kinds = ops_behind b.among b.regs b.ops o fits.1 s.ops_kinds;
  }

  sound_closed : (l : Last) → MayEnd b l → IsSound next (closed b l)
  sound_closed l fits =
      let more = length-append b.blocks (ended_block b.ops l ∷ []) in
      record {
        named = s.named;
        ends = subst (λ m. AllFit m 0 (closed b l).blocks) (sym more) (closed_fits (length b.blocks + 1) b.blocks b.ops l fits.0 s.ops (all_higher (length b.blocks) (length b.blocks + 1) 0 b.blocks (omega arith) s.ends));
        ops = tt;
        blocks_kinds = blocks_behind b.among b.regs b.blocks (ended_block b.ops l) s.ops_kinds fits.1 s.blocks_kinds;
        ops_kinds = tt;
      }

  pub sound_patched : (c : Building) (k : ℕ) (l : Last) → c ≡ record b { blocks = with_last b.blocks k l } → MayPatch b k l → IsSound next c
  sound_patched c k l e fits = subst (IsSound next) (sym e) record {
    named = s.named;
    ends = subst (λ m. AllFit m 0 (with_last b.blocks k l)) (sym (with_last_length b.blocks k l)) (patched_fits (length b.blocks) b.blocks b.ops k l fits.0 s.ends);
    ops = s.ops;
    blocks_kinds = blocks_last b.among b.regs b.blocks k l fits.1 s.blocks_kinds;
    ops_kinds = s.ops_kinds;
  }

  -- ---- both outcomes of a call

  pub added_sound : {A E : Type 0} (res : Result A E) (c : Building) (k : ℕ) (name : List ℕ) (t : RType) → name ≡ temporary_name k → next ≤ k → k < 2 ^ 64 → is_name_in name (take b.among.variables b.regs) ≡ false → OnOk res (c ≡ added b name t) → OnErr res (c ≡ b) → IsSound (k + 1) c
  added_sound (Ok r) c k name t is le small fresh e f = subst (IsSound (k + 1)) (sym e) (sound_added k name t is le small fresh)
  added_sound (Err x) c k name t is le small fresh e f = subst (IsSound (k + 1)) (sym f) (sound_later next (k + 1) b (omega arith) s)

  pub pushed_sound : {A E : Type 0} (res : Result A E) (c : Building) (o : Op × ℕ) → MayCome b o.0 → OnOk res (c ≡ pushed b o) → OnErr res (c ≡ b) → IsSound next c
  pushed_sound (Ok r) c o fits e f = subst (IsSound next) (sym e) (sound_pushed o fits)
  pushed_sound (Err x) c o fits e f = sound_same c f

  pub closed_sound : {A E : Type 0} (res : Result A E) (c : Building) (l : Last) → MayEnd b l → OnOk res (c ≡ closed b l) → OnErr res (c ≡ b) → IsSound next c
  closed_sound (Ok k) c l fits e f = subst (IsSound next) (sym e) (sound_closed l fits)
  closed_sound (Err x) c l fits e f = sound_same c f

  -- ends go up to the same block as before
  pub closed_within : {A E : Type 0} (res : Result A E) (c : Building) (l : Last) → OnOk res (c ≡ closed b l) → OnOk res ((m : ℕ) → EndFits m (length b.blocks) b.ops l → AllFit m 0 b.blocks → AllFit m 0 c.blocks)
  closed_within (Ok k) c l e = λ m fits all. subst (λ (v : Building). AllFit m 0 v.blocks) (sym e) (closed_fits m b.blocks b.ops l fits s.ops all)
  closed_within (Err x) c l e = tt

  -- ---- what is made of it

  pub sound_kinds : HasKinds b.among b
  sound_kinds =
      let named = s.named in
      record { variables = named.within; named = λ i d le e. let n = named.numbered i d le e in (n.0, n.2); blocks = s.blocks_kinds; ops = s.ops_kinds }

pub patched_within : (b c : Building) (k : ℕ) (l : Last) → c ≡ record b { blocks = with_last b.blocks k l } → (m : ℕ) → PatchFits m k (held b k 0) l → AllFit m 0 b.blocks → AllFit m 0 c.blocks
patched_within b c k l e m fits all = subst (λ (v : Building). AllFit m 0 v.blocks) (sym e) (patched_fits m b.blocks b.ops k l fits all)

named_start : (n : ℕ) (regs : Declared) → n ≡ length regs → names_differ (names_of regs) ≡ true → AreNamed n 0 regs
named_start n regs is differ = record { within = omega (arith, is); differ = differ; numbered = λ i d le e. absurd (let lt = get_below regs i d e in omega (arith, is)) }

pub sound_start : (g : Surrounding) (regs : Declared) → g.variables ≡ length regs → names_differ (names_of regs) ≡ true → IsSound 0 (record { among = g; regs = regs; blocks = []; ops = [] })
sound_start g regs is differ = record {
  named = named_start g.variables regs is differ;
  ends = tt;
  ops = tt;
  blocks_kinds = tt;
  ops_kinds = tt;
}

-- ---- operations whose result is a new register

not_any : (b : Bool) → b ≡ false → IsTrue (not b)
not_any true e = absurd (cc)
not_any false e = refl

pub literal_comes : (b c : Building) (r : Reg) (t : RType) (l : Literal) → Declares b c r.0 t → LiteralFits t l → MayCome c (Lit r l)
literal_comes b c r t l d fits = (refl, literal_kinds c.among b c r t l d fits)

module _ (b c : Building) (r : Reg) (t : RType) (d : Declares b c r.0 t) where
  at_home : (P : Surrounding → Type 0) → P b.among → P c.among
  at_home P p = subst P (sym d.extends.among) p

  pub primitive_comes : (q : Primitive) (args : List PArg) → (Answers t b.regs q args ⊎ ReadsGlobal b.among t q args) → MayCome c (Prim (Some r) q args)
  primitive_comes q args fits = (primitive_fits b.regs r d.made b.among t q args fits, primitive_kinds c.among b c r t q args d (at_home (λ g. Answers t b.regs q args ⊎ ReadsGlobal g t q args) fits))

  pub call_comes : (n : ℕ) (args : List Reg) → Calls b.among t b.regs n args → MayCome c (Call r n args)
  call_comes n args fits = (not_any _ (none_taken b.regs r d.made _ args fits.3), call_kinds c.among b c r t n args d (at_home (λ g. Calls g t b.regs n args) fits))
