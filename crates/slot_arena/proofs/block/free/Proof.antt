-- `free` makes memory of the empty places, and gives it back. Assumes `Logic`.
use mathlib.Core.Path.{◌≡◌, refl, sym, ap, subst, ◌∙◌}
use Prim.Native.Nat.{ℕ, ◌*◌, ◌<◌, ◌^◌}
use native.Mathlib.Omega.{arith}
use mathlib.Core.List.{List, [], ◌∷◌, ◌++◌}
use lib.Dec.{T}
use lib.ListN.{length, replicate, length-replicate}
use mir.Syntax.{Fn, named, w64, ty_unit, ty_array}
use mir.MapTy.{inst_fn}
use mir.Val.{Val, vunit, vptr, vint, has_ty, WT}
use base.Logic.{SProp, ent, id⊢}
use base.Fml.{Fml, ftrue, fsep, flft, froom, Incl-trans}
use prog.Capped.{capped_fits}
use prog.Memory.{align, capped}
use prog.Wp.{Env, WpFn}
use contract.BorrowLft.{◌⊑◌}
use contract.Monad.{fact}
use contract.Running.{tables}
use types.Kit.{‵, raw, ◌⊛◌, later, given, learn, await, at_ret, ◌$◌, ◌∵◌, !, qed, by, move, keep, drop, use1, split, join, group, rewrite, fsplit, fjoin, feq_i, suffices}
use types.Part.{whole, sub}
use types.Run.{stop, fld, bin, unit_lit, of_opd, size_word, align_word, and_then, no_more, first, blocks, exec, returns, enter}
use types.ByLocal.{alloc_all, pass_all, free_all, look_at, get, get_in, sets, lands_last, is, env}
use denote.Builtin.{usize, RefOf}
use denote.Exit.{yes, no}
use denote.Plain.{uint_Tells}
use denote.RattleType.{owns}
use denote.RawPtr.{Ptr, block_ptr}
use denote.Ref.{shr_Tells}
use denote.Signature.{plain, types_at}
use denote.Steps.{heard, nothing}
use denote.Triple.Call.{calls_at_last}
use denote.Triple.Walked.{Stays, stay_dropped, walk_of, Goes-dropped}
use Rattle.std.specs.Prelude.{None}
use Rattle.std.proofs.alloc.Calls.{Al, token, Gives, at_gives, Gives-goes, Gives-Gives, Goes-blank}
use Rattle.std.proofs.mem.Param.{El, R, elτ}
use Rattle.std.proofs.raw_atomic.Calls.{fm}
use Rattle.std.proofs.raw_atomic.Walks.{proved_at, leaves}
use Rattle.std.proofs.RawLayout.{as_raw}
use Rattle.std.proofs.VecSteps.Shapes.{after}
use Rattle.slot_arena.specs.Memory.{deed_owns}
use Rattle.slot_arena.proofs.Memory.{Br, block_of, Place, sz, word, places_at, places_empty, block_had}
use Rattle.slot_arena.proofs.Deeds.{args, P, Dr, block_ty, block_size, block_align, uncapped, mark, deed_had}
use Rattle.slot_arena.specs.contracts.block.free as F
use Rattle.slot_arena.specs.contracts.block.free.Key.{name as #self}
use Rattle.slot_arena.proofs.block.free.Statement.{statement}
use Rattle.slot_arena.proofs.block.free.Code as code

module _ (E : El) (Z : Al) where
  abbrev function : Fn
  function = inst_fn (args E Z) code.function

  abbrev Asks : Z.row.Denot → block_of E → (Dr E Z).Denot → ℕ → Type 0
  Asks heap block deed count = (block.places ≡ replicate count None) × (deed.at ≡ block.at) × (deed.count ≡ count) × (deed.alloc ≡ heap)

pub free_spec : {M : Type 1} → statement M
free_spec 𝓤 𝓛 𝓜 𝓡 wired X W L LW g d dd met md =
    let E : El = record { row = X; laws = L } in let Z : Al = record { row = W; laws = LW; g = g; d = d; drops = dd } in
    let En = F.ended X W g d dd in let c = F.clauses X W g d dd 𝓛 𝓜.mem 𝓡.returns in let 𝓣 = tables 𝓤 𝓛.H 𝓜 𝓡 𝓡.env in let fn = function E Z in
    let handle = RefOf (0 ∷ []) tt (plain (λ _. P E Z)) (λ _. tt) in
    let hs : Stays En.signature.params En.kept = (stay_dropped handle yes, (stay_dropped (plain (λ _. Br E)) no, (stay_dropped (plain (λ _. Dr E Z)) no, (stay_dropped (plain (λ _. usize)) yes, tt)))) in
    proved_at 𝓛 En hs c 𝓜 𝓡
    (Goes-dropped 𝓛 3 handle yes (λ κs x f. refl), (Goes-blank 𝓛 3 (plain (λ _. Br E)) no (λ κs x f. tt), (Goes-blank 𝓛 3 (plain (λ _. Dr E Z)) no (λ κs x f. tt), (Goes-dropped 𝓛 3 (plain (λ _. usize)) yes (λ κs x f. refl), tt))))
    (#self (args E Z)) fn (code.unfolded 𝓤 𝓛.H 𝓜 𝓡 wired (X, (W, tt)) d dd) (λ y are.
    let κs = y.0.0 in let qs = y.0.1 in let a = y.0.3 in let κ = κs.0 in let q = qs.0 in let hp : ℕ × ℕ = a.0.ref_ptr in let heap : W.Denot = a.0.now in
    let block : block_of E = a.1.0 in let deed : (Dr E Z).Denot = a.1.1.0 in let count : ℕ = a.1.1.1.0 in
    let s = sz E in let al : ℕ = capped (align (elτ E)) in let τ = block_ty E count in
    let Post : Val → SProp 𝓤 = (walk_of 𝓛 En hs c).post y in
    let others : Fml = fsep (flft κs.1.0 qs.1.0) (fsep (flft κs.1.1.0 qs.1.1.0) ftrue) in
    let Asked : Type 0 = Asks E Z heap block deed count in let To = Gives Z 𝓛 𝓜.mem 𝓡.returns in
    qed 𝓛 (((‵ (flft κ q) ⊛ ‵ others) ⊛ ‵ (owns (types_at En.signature.params κs) a y.0.4)) ∷ (raw (fact 𝓤 (κs.1.0 ⊑ X.lives)) ⊛ raw (fact 𝓤 (κs.1.1.0 ⊑ W.lives)) ⊛ raw (fact 𝓤 Asked)) ∷ []) ∵
    move ! (1 ∷ []) $ split ! $ drop ! $ split ! $ heard ! (κs.1.1.0 ⊑ W.lives) (λ inside. heard ! Asked (λ asked.
    split ! $ split ! $ move ! (2 ∷ []) $ fsplit ! $ fsplit ! $ drop ! $ move ! (1 ∷ []) $ fsplit ! $ block_had E ! block y.0.4.1.0 (λ b o at e1 small. move ! (1 ∷ []) $ fsplit ! $ deed_had E Z ! deed y.0.4.1.1.0 (λ e2.
    keep ! (2 ∷ 0 ∷ 3 ∷ 4 ∷ 5 ∷ []) $
    rewrite ! 0 (λ (ps : List (Place E)). ‵ (places_at E b o ps)) asked.0 refl $
    rewrite ! 1 (λ (u : W.Denot × Ptr × ℕ). ‵ (deed_owns (R E) (token Z u.0) u.1 u.2)) (λ i. (asked.3 i, (asked.1 ∙ at) i, asked.2 i)) refl $
    -- [the places; the deed; what the reference reaches; its token; the other tokens]
    let full : length block.places ≡ count = ap (λ (ps : List (Place E)). length ps) asked.0 ∙ length-replicate count None in
    let fit : count * s < 2 ^ 63 = subst (λ (k : ℕ). k * s < 2 ^ 63) full small in let bytes : count * s < 2 ^ 64 = omega arith in
    let e0 : y.0.4.0 ≡ vptr hp.0 hp.1 ∷ [] = shr_Tells (named 0) κ (P E Z) a.0 y.0.4.0 are.0 in let e3 : y.0.4.1.1.1.0 ≡ vint w64 count ∷ [] = uint_Tells w64 count y.0.4.1.1.1.0 are.1.1.1.0 in
    let vals : List Val = vptr hp.0 hp.1 ∷ word (block_ptr b o) ∷ mark ∷ vint w64 count ∷ [] in
    let Runs : List Val → SProp 𝓤 = λ us. WpFn 𝓤 𝓛.H 𝓣.C 𝓣.Λ fn us Post in
    suffices ! (Runs vals) (subst (λ (us : List Val × List Val × List Val × List Val). ent 𝓤 (Runs vals) (Runs (us.0 ++ (us.1 ++ (us.2 ++ (us.3 ++ []))))))
    (λ j. (sym e0 j, sym e1 j, sym e2 j, sym e3 j)) (id⊢ 𝓤 (Runs vals))) $
    enter ! 𝓣.C 𝓣.Λ fn vals _ $ alloc_all ! (λ l. pass_all ! refl ((tt, tt), ((tt, (tt, tt)), ((tt, (tt, tt)), ((tt, record { fits = are.1.1.1.0.1 }), tt)))) $
    let Ev : Env 𝓤 𝓛.H = env fn.locals l in let w : To.Ghost = at_gives Z 𝓛 𝓜.mem 𝓡.returns κ q hp heap b o (count * s) al τ in
    use1 𝓛 (‵ (froom (ty_array (elτ E) count) b o)) (places_empty E 𝓛 b count o) $ as_raw ! (ty_array (elτ E) count) b o $
    sets ! (of_opd ! (get_in ! (fld ! refl (stop !)) (sub ! 0 refl (whole !)))) refl (tt, tt) $ first ! $ blocks ! $ sets ! (of_opd ! (get ! refl)) refl (tt, tt) $
    sets ! (is ! (bin ! (get ! refl) (size_word !) (record { fits = subst (λ (k : ℕ). k < 2 ^ 64) (sym (uncapped count s bytes)) bytes })) (ap (vint w64) (uncapped count s bytes))) refl (tt, record { fits = bytes }) $
    group ! 4 $ use1 𝓛 (raw (To.pre w)) (Gives-goes Z 𝓛 𝓜.mem 𝓡.returns κ q hp heap (Incl-trans y.0.2.0 inside) b o (count * s) al τ (block_size E count bytes) (block_align E count) bytes (capped_fits (align (elτ E)))) $
    calls_at_last ! (fm 𝓛 𝓜 𝓡) To (met.deallocate dd) w (and_then ! (get ! refl) (and_then ! (get ! refl) (and_then ! (get ! refl) (and_then ! (align_word !) (no_more !))))) (λ v.
    use1 𝓛 (later (given (v ≡ vunit) (‵ (flft κ q)))) (Gives-Gives Z 𝓛 𝓜.mem 𝓡.returns κ q hp heap b o (count * s) al τ v) $ await ! tt $ learn ! (λ gone.
    lands_last ! refl (subst (λ (z : Val). T (has_ty ty_unit z) × WT z) (sym gone) (tt, tt)) $ exec ! 𝓣.C 𝓣.Λ Ev (after 2 fn.body) (at_ret Ev Post) $
    sets ! (of_opd ! (unit_lit !)) refl (tt, tt) $ join ! $ nothing ! $ feq_i ! (List Val) (vunit ∷ []) (vunit ∷ []) refl $ nothing ! $ nothing ! $ fjoin ! $ nothing ! $ fjoin ! $ nothing ! $ fjoin ! $ nothing ! $ fjoin ! $
    returns ! (look_at ! 0 refl) $ free_all ! refl $ keep ! (3 ∷ 0 ∷ 1 ∷ 2 ∷ []) $ by ! (leaves 𝓛 En hs c y vunit tt (tt, (tt, (tt, (tt, tt)))) (tt, (tt, (tt, (tt, tt)))))))))))))
