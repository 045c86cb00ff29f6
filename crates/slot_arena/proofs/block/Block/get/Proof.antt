-- `get` shows the value at a place, which the block lends. Assumes `Logic`.
use mathlib.Core.Path.{◌≡◌, refl, sym, ap, ◌∙◌}
use Prim.Native.Nat.{ℕ, ◌+◌, ◌*◌, ◌<◌, ◌^◌}
use native.Mathlib.Omega.{arith}
use mathlib.Core.List.{List, [], ◌∷◌, ◌++◌}
use lib.ListN.{length}
use seplogic.Ra.Ura.{Ura}
use mir.Syntax.{Fn, named, w64}
use mir.MapTy.{inst_fn}
use mir.Val.{Val, vptr, vint, vstruct, of_list}
use base.Logic.{SProp, never, emp, id⊢}
use base.Fml.{ftrue, flft, fhide}
use types.Logic.{Logic}
use contract.BorrowLft.{◌⊑◌}
use contract.Monad.{fact, fact_i}
use contract.Running.{tables}
use types.Kit.{‵, raw, ◌⊛◌, at_ret, ◌$◌, ◌∵◌, !, qed, by, move, keep, drop, use0, use1, split, join, rewrite, fsplit, fjoin, feq_i, flt_l}
use types.Part.{whole, sub, look_in}
use types.Run.{stop, fld, load, addr, size_lit, of_opd, bin, first, blocks, exec, returns, enter}
use types.ByLocal.{alloc_all, pass_all, free_all, look_at, get, through, sets, sets_last, env}
use denote.Copied.{Struct-Copied}
use denote.Exit.{yes}
use denote.RattleType.{owns}
use denote.Builtin.{usize, RefOf}
use denote.Laws.{Is, shows}
use denote.Memory.{cell_at, hidden_shr}
use denote.Opens.{Opens, unhide, hide}
use denote.Plain.{uint_vals, uint_Tells}
use denote.RawPtr.{Ptr, block_ptr, in_a_block}
use denote.Ref.{shr_vals, shr_Tells}
use denote.Signature.{plain, types_at}
use denote.Steps.{heard, looks, shuts, peeks, nothing}
use denote.Struct.Laws.{RawPtr-copy}
use denote.Struct.Lending.{lent_out}
use denote.Struct.Owning.{shape}
use denote.Triple.Walked.{Stays, stay_dropped, walk_of, Goes-dropped}
use Rattle.std.specs.Prelude.{Some, slice_get}
use Rattle.std.proofs.lemmas.Option.{slice_get_within}
use Rattle.std.proofs.mem.Param.{El, R, args, el_x}
use Rattle.std.proofs.ptr.Rows.{times_below, one_below}
use Rattle.std.proofs.raw_atomic.Walks.{proved, leaves}
use Rattle.std.proofs.VecSteps.Shapes.{after}
use Rattle.slot_arena.specs.Memory.{block_lends, place_lends}
use Rattle.slot_arena.proofs.Memory.{Br, Word, block_of, sz, word, place_shown}
use Rattle.slot_arena.specs.contracts.block.Block as C
use Rattle.slot_arena.specs.contracts.block.Block.get as F
use Rattle.slot_arena.specs.contracts.block.Block.get.Key.{name as #self}
use Rattle.slot_arena.proofs.block.Block.get.Statement.{statement}
use Rattle.slot_arena.proofs.block.Block.get.Code as code

module _ (E : El) where
  abbrev function : Fn
  function = inst_fn (args E) code.function

  abbrev stayed : Stays (F.ended E.row).signature.params (F.ended E.row).kept
  stayed = (stay_dropped (RefOf (0 ∷ []) tt (plain (λ _. Br E)) (λ _. tt)) yes, (stay_dropped (plain (λ _. usize)) yes, tt))

  told : (p : Ptr) (vs : List Val) → Is (Word E) (p, tt) vs → vs ≡ word p ∷ []
  told p vs is = is.1.0 ∙ ap (λ (ws : List Val). vstruct (of_list (ws ++ [])) ∷ []) is.1.1.0

  opened : {M : Type 1} {𝓤 : Ura M} (𝓛 : Logic 𝓤) → Opens 𝓛 (Word E)
  opened {M} {𝓤 = 𝓤} 𝓛 = (Struct-Copied 𝓛 (shape (C.the_type (R E))) (refl, tt) (RawPtr-copy.copied M 𝓤 𝓛, tt)).opens

pub get_spec : {M : Type 1} → statement M
get_spec 𝓤 𝓛 𝓜 𝓡 wired X L =
    let E : El = record { row = X; laws = L } in
    let c = F.clauses X 𝓛 𝓜.mem 𝓡.returns in let 𝓣 = tables 𝓤 𝓛.H 𝓜 𝓡 𝓡.env in
    proved 𝓛 (F.ended X) (stayed E) c 𝓜 𝓡
    (Goes-dropped 𝓛 2 (RefOf (0 ∷ []) tt (plain (λ _. Br E)) (λ _. tt)) yes (λ κs x f. refl), (Goes-dropped 𝓛 2 (plain (λ _. usize)) yes (λ κs x f. refl), tt))
    (#self (args E)) (function E) (code.unfolded 𝓤 𝓛.H 𝓜 𝓡 wired (X, tt))
    (λ κs. (shr_vals, (uint_vals w64, tt))) (λ κs. (shr_Tells (named 0) κs.0 (Br E), (uint_Tells w64, tt)))
    (λ κs qs bounds a g are.
    let κ = κs.0 in let q = qs.0 in let rb = a.0.ref_ptr.0 in let ro = a.0.ref_ptr.1 in
    let d : block_of E = a.0.now in let i : ℕ = a.1.0 in let s = sz E in
    let y : (walk_of 𝓛 (F.ended X) (stayed E) c).Ghost = ((κs, qs, bounds, a, (shr_vals a.0, (uint_vals w64 i, tt))), g) in
    let Post : Val → SProp 𝓤 = (walk_of 𝓛 (F.ended X) (stayed E) c).post y in
    let Asks : Type 0 = (x : el_x E) × (slice_get d.places i ≡ Some (Some x)) in
    qed 𝓛 (((‵ (flft κ q) ⊛ ‵ (flft κs.1.0 qs.1.0) ⊛ ‵ ftrue) ⊛ ‵ (owns (types_at (F.ended X).signature.params κs) a (shr_vals a.0, (uint_vals w64 i, tt)))) ∷ (raw (fact 𝓤 (κs.1.0 ⊑ X.lives)) ⊛ raw (fact 𝓤 Asks)) ∷ []) ∵
    move ! (1 ∷ []) $ split ! $ drop ! $ heard ! Asks (λ asked.
    let x = asked.0 in let within = slice_get_within d.places i (Some x) asked.1 in
    split ! $ split ! $ move ! (2 ∷ []) $ fsplit ! $ fsplit ! $ keep ! (1 ∷ 3 ∷ 4 ∷ []) $
    -- [what the reference reaches; its token; the other token]
    enter ! 𝓣.C 𝓣.Λ (function E) (vptr rb ro ∷ vint w64 i ∷ []) _ $ alloc_all ! (λ l. pass_all ! refl ((tt, tt), ((tt, record { fits = are.1.0.1 }), tt)) $
    use1 𝓛 (‵ (hidden_shr (Word E) κ (d.at, tt) rb ro) ⊛ ‵ (fhide (block_lends (R E) d.at d.places κ))) (lent_out 𝓛 (C.struct (R E)) (C.the_codes (el_x E) (R E).coded) (C.the_heap (R E)) (C.the_lent (R E)) κ d rb ro) $
    split ! $ move ! (1 ∷ []) $ unhide ! $ in_a_block ! d.at (λ p. block_lends (R E) p d.places κ) (id⊢ 𝓤 (never 𝓤)) (λ b o at. fsplit ! $ flt_l ! (λ small.
    let tiny : s < 2 ^ 64 = omega (arith, one_below (length d.places) s (2 ^ 63) (omega arith) small) in
    let far : i * s < 2 ^ 64 = omega (arith, times_below i (length d.places) s (2 ^ 63) (omega arith) small) in
    let place : ℕ = i * s + o in
    use1 𝓛 (‵ (place_lends (R E) b place (Some x) κ)) (place_shown E 𝓛 b κ d.places i o place (Some x) asked.1 refl) $ hide ! $ move ! (1 ∷ 2 ∷ []) $
    looks ! tt (Word E) (opened E 𝓛) (d.at, tt) rb ro (λ part vs. move ! (1 ∷ []) $ peeks ! (Word E) (Is (Word E)) (shows 𝓛 (Word E)) (d.at, tt) vs (λ so.
    let ev : vs ≡ word (block_ptr b o) ∷ [] = told E d.at vs so ∙ ap (λ (p : Ptr). word p ∷ []) at in
    rewrite ! 1 (λ (ws : List Val). ‵ (cell_at part (Word E).mir ws rb ro)) ev refl $
    first ! $ blocks ! $
    sets ! (of_opd ! (load ! (through ! refl (fld ! refl (stop !))) (look_in ! 1 (sub ! 0 refl (whole !))))) refl (tt, tt) $
    sets ! (bin ! (get ! refl) (size_lit ! (record { fits = tiny })) (record { fits = far })) refl (tt, record { fits = far }) $
    sets ! (bin ! (get ! refl) (get ! refl) tt) refl (tt, tt) $ sets_last ! (addr ! (through ! refl (stop !))) refl (tt, tt) $
    exec ! 𝓣.C 𝓣.Λ (env code.Mir.locals l) (after 1 (function E).body) (at_ret (env code.Mir.locals l) Post) $ sets ! (of_opd ! (get ! refl)) refl (tt, tt) $
    rewrite ! 1 (λ (ws : List Val). ‵ (cell_at part (Word E).mir ws rb ro)) (sym ev) refl $ move ! (1 ∷ 0 ∷ 2 ∷ []) $ shuts ! tt (Word E) part (d.at, tt) vs rb ro $
    move ! (0 ∷ 3 ∷ []) $ join ! $ move ! (2 ∷ []) $ feq_i ! (List Val) (vptr b place ∷ []) (vptr b place ∷ []) refl $ fjoin ! $
    use0 𝓛 (raw (fact 𝓤 (slice_get d.places i ≡ Some (Some x)))) (fact_i 𝓤 (slice_get d.places i ≡ Some (Some x)) (emp 𝓤) asked.1) $ nothing ! $ nothing ! $ fjoin ! $ nothing ! $ fjoin ! $
    returns ! (look_at ! 0 refl) $ free_all ! refl $ keep ! (3 ∷ 0 ∷ 2 ∷ 1 ∷ []) $
    by ! (leaves 𝓛 (F.ended X) (stayed E) c y (vptr b place) (record { ref_ptr = (b, place); now = x }) (tt, (tt, tt)) (tt, (tt, tt))))))))))
