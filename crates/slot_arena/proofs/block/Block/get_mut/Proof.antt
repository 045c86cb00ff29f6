-- `get_mut` lends the value at a place, and the block follows it. Assumes `Logic`.
use mathlib.Core.Path.{◌≡◌, refl}
use Prim.Native.Nat.{ℕ, ◌+◌, ◌*◌, ◌<◌, ◌^◌}
use native.Mathlib.Omega.{arith}
use mathlib.Core.List.{List, [], ◌∷◌}
use lib.ListN.{length, set, length-set}
use seplogic.Ra.Ura.{Ura}
use base.Fraction.{full_share}
use mir.Syntax.{Fn, named, w64}
use mir.MapTy.{inst_fn}
use mir.Val.{Val, vptr, vint}
use base.Logic.{SProp, ent, sep}
use base.Fml.{GName, Fml, ftrue, fsep, flft}
use types.Logic.{Logic, sem}
use contract.BorrowLft.{◌⊑◌}
use contract.Monad.{fact}
use contract.Running.{tables}
use types.Kit.{‵, raw, ◌⊛◌, some, later, await, pick, at_ret, ◌$◌, ◌∵◌, !, qed, move, keep, drop, use1, use2, split, split3, join, group, fsplit, fsplit3, fjoin, fpack, suffices, frame, done}
use types.Part.{whole, sub, look_in}
use types.Run.{stop, fld, load, addr, size_lit, of_opd, bin, first, blocks, exec, returns, enter}
use types.ByLocal.{alloc_all, pass_all, free_all, look_at, get, through, sets, sets_last, env}
use denote.Exit.{yes, no}
use denote.RattleType.{owns}
use denote.Builtin.{usize, RefMutOf}
use denote.Memory.{cell_at, mem, part_of}
use denote.Plain.{uint_vals, uint_Tells}
use denote.RawPtr.{block_ptr}
use denote.Ref.{MutRef, mut_vals, mut_Tells}
use denote.Follow.{follows, lends_Part}
use denote.Signature.{plain, types_at}
use denote.Steps.{heard, nothing}
use denote.Triple.Walked.{says, Stays, stay_dropped, walk_of, ends_at, Goes-dropped, Goes-spent_ref}
use Rattle.std.specs.Prelude.{Some, slice_get}
use Rattle.std.proofs.lemmas.Option.{slice_get_within}
use Rattle.std.proofs.mem.Param.{El, R, args, el_x}
use Rattle.std.proofs.ptr.Rows.{times_below, one_below}
use Rattle.std.proofs.raw_atomic.Walks.{proved}
use Rattle.std.proofs.VecSteps.Shapes.{after}
use Rattle.slot_arena.specs.BlockLends.{with_places}
use Rattle.slot_arena.proofs.Memory.{Br, block_of, sz, word, places_at, place_at, besides, place_out, place_in, block_made, block_opens}
use Rattle.slot_arena.specs.contracts.block.Block.get_mut as F
use Rattle.slot_arena.specs.contracts.block.Block.get_mut.Key.{name as #self}
use Rattle.slot_arena.proofs.block.Block.get_mut.Statement.{statement}
use Rattle.slot_arena.proofs.block.Block.get_mut.Code as code

module _ (E : El) where
  abbrev function : Fn
  function = inst_fn (args E) code.function

  abbrev stayed : Stays (F.ended E.row).signature.params (F.ended E.row).kept
  stayed = (stay_dropped (RefMutOf (0 ∷ []) tt (plain (λ _. Br E)) (λ _. tt)) no, (stay_dropped (plain (λ _. usize)) yes, tt))

  -- the block once the value at a place is w
  abbrev new : block_of E → ℕ → el_x E → block_of E
  new d i w = with_places d (set d.places i (Some w))

module _ (E : El) {M : Type 1} {𝓤 : Ura M} (𝓛 : Logic 𝓤) (rb ro b o : ℕ) (d : block_of E) (i : ℕ) where
  -- all of the block but the value
  abbrev Rest : Fml
  Rest = fsep (besides E b o d.places i) (cell_at full_share (Br E).mir (word (block_ptr b o) ∷ []) rb ro)

  back : d.at ≡ block_ptr b o → length d.places * sz E < 2 ^ 63 → i < length d.places → (w : el_x E)
      → ent 𝓤 (sep 𝓤 (sem 𝓛 ((mem (R E)).own_at w b (i * sz E + o))) (sem 𝓛 Rest)) (sem 𝓛 ((mem (Br E)).own_at (new E d i w) rb ro))
  unfolding part_of
  back at small within w =
      let long = length-set d.places i (Some w) in
      let fewer : length (set d.places i (Some w)) * sz E < 2 ^ 63 = rw long small in
      qed 𝓛 (‵ (place_at E b (i * sz E + o) (Some w)) ∷ ‵ Rest ∷ []) ∵ move ! (1 ∷ []) $ fsplit ! $ move ! (2 ∷ 0 ∷ []) $
      use2 𝓛 (‵ (places_at E b o (new E d i w).places)) (place_in E 𝓛 b d.places i o (i * sz E + o) (Some w) within refl) $
      block_made E ! (new E d i w) b o at fewer $ move ! (1 ∷ 0 ∷ []) $ fjoin ! $
      fpack ! (List Val) (λ us. fsep (cell_at full_share (Br E).mir us rb ro) ((Br E).own_val (new E d i w) us)) (word (block_ptr b o) ∷ []) $ done !

pub get_mut_spec : {M : Type 1} → statement M
get_mut_spec 𝓤 𝓛 𝓜 𝓡 wired X L =
    let E : El = record { row = X; laws = L } in
    let c = F.clauses X 𝓛 𝓜.mem 𝓡.returns in let 𝓣 = tables 𝓤 𝓛.H 𝓜 𝓡 𝓡.env in
    proved 𝓛 (F.ended X) (stayed E) c 𝓜 𝓡
    (Goes-spent_ref 𝓛 2 (0 ∷ []) tt (plain (λ _. Br E)), (Goes-dropped 𝓛 2 (plain (λ _. usize)) yes (λ κs x f. refl), tt))
    (#self (args E)) (function E) (code.unfolded 𝓤 𝓛.H 𝓜 𝓡 wired (X, tt))
    (λ κs. (mut_vals, (uint_vals w64, tt))) (λ κs. (mut_Tells (named 0) κs.0 (Br E), (uint_Tells w64, tt)))
    (λ κs qs bounds a g are.
    let κ = κs.0 in let q = qs.0 in let rb = a.0.ref_ptr.0 in let ro = a.0.ref_ptr.1 in let γ = a.0.ghost_name in
    let d : block_of E = a.0.now in let i : ℕ = a.1.0 in let s = sz E in
    let y : (walk_of 𝓛 (F.ended X) (stayed E) c).Ghost = ((κs, qs, bounds, a, (mut_vals a.0, (uint_vals w64 i, tt))), g) in
    let Post : Val → SProp 𝓤 = (walk_of 𝓛 (F.ended X) (stayed E) c).post y in
    let Asks : Type 0 = (x : el_x E) × (slice_get d.places i ≡ Some (Some x)) in
    qed 𝓛 (((‵ (flft κ q) ⊛ ‵ (flft κs.1.0 qs.1.0) ⊛ ‵ ftrue) ⊛ ‵ (owns (types_at (F.ended X).signature.params κs) a (mut_vals a.0, (uint_vals w64 i, tt)))) ∷ (raw (fact 𝓤 (κs.1.0 ⊑ X.lives)) ⊛ raw (fact 𝓤 Asks)) ∷ []) ∵
    move ! (1 ∷ []) $ split ! $ drop ! $ heard ! Asks (λ asked.
    let x = asked.0 in let within = slice_get_within d.places i (Some x) asked.1 in
    split ! $ split ! $ move ! (2 ∷ []) $ fsplit ! $ fsplit3 ! $ keep ! (1 ∷ 2 ∷ 4 ∷ 5 ∷ []) $
    -- [the two halves of the reference; its token; the other token]
    enter ! 𝓣.C 𝓣.Λ (function E) (vptr rb ro ∷ vint w64 i ∷ []) _ $ alloc_all ! (λ l. pass_all ! refl ((tt, tt), ((tt, record { fits = are.1.0.1 }), tt)) $
    block_opens E ! tt d rb ro (λ b o at small.
    let tiny : s < 2 ^ 64 = omega (arith, one_below (length d.places) s (2 ^ 63) (omega arith) small) in
    let far : i * s < 2 ^ 64 = omega (arith, times_below i (length d.places) s (2 ^ 63) (omega arith) small) in
    let place : ℕ = i * s + o in
    first ! $ blocks ! $
    sets ! (of_opd ! (load ! (through ! refl (fld ! refl (stop !))) (look_in ! 1 (sub ! 0 refl (whole !))))) refl (tt, tt) $
    sets ! (bin ! (get ! refl) (size_lit ! (record { fits = tiny })) (record { fits = far })) refl (tt, record { fits = far }) $
    sets ! (bin ! (get ! refl) (get ! refl) tt) refl (tt, tt) $ sets_last ! (addr ! (through ! refl (stop !))) refl (tt, tt) $
    exec ! 𝓣.C 𝓣.Λ (env code.Mir.locals l) (after 1 (function E).body) (at_ret (env code.Mir.locals l) Post) $ sets ! (of_opd ! (get ! refl)) refl (tt, tt) $
    use1 𝓛 (‵ (place_at E b place (Some x)) ⊛ ‵ (besides E b o d.places i)) (place_out E 𝓛 b d.places i o place (Some x) asked.1 refl) $ split ! $
    move ! (1 ∷ 2 ∷ []) $ fjoin ! $ move ! (2 ∷ 3 ∷ 4 ∷ 1 ∷ 0 ∷ []) $ group ! 5 $
    use1 𝓛 (later (some (λ (δ : GName). ‵ ((MutRef (named 0) κ (R E)).own_val (record { ref_ptr = (b, place); ghost_name = δ; now = x }) (vptr b place ∷ [])) ⊛ ‵ (flft κ q) ⊛ ‵ (follows (Br E) (R E) γ δ (new E d i)))))
    (lends_Part 𝓛 (Br E) (R E) (new E d i) (named 0) κ q rb ro b place γ (sem 𝓛 (Rest E 𝓛 rb ro b o d i)) (back E 𝓛 rb ro b o d i at small within) ((Br E).coded.code d) ((Br E).coded.code d) x) $
    await ! tt $ pick ! (λ δ. split3 ! $ returns ! (look_at ! 0 refl) $ free_all ! refl $
    suffices ! _ (ends_at 𝓛 (F.ended X) (stayed E) c y (vptr b place) (record { ref_ptr = (b, place); ghost_name = δ; now = x }) (tt, (tt, tt)) (tt, (tt, tt))) $
    nothing ! $ nothing ! $ fjoin ! $ nothing ! $ fjoin ! $ join ! $ move ! (1 ∷ 3 ∷ []) $ join ! $ join ! $ frame ! $ says ! asked.1 $ keep ! (0 ∷ []) $ done !)))))
