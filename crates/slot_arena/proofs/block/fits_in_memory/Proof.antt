-- `fits_in_memory` multiplies without overflow, and so tells what fits. Assumes `Logic`.
use mathlib.Core.Path.{refl, sym, subst}
use mathlib.Core.Bool.{Bool, false, true≢false}
use Prim.Native.Nat.{ℕ, zero, suc, ◌*◌, ◌<◌, ◌^◌}
use native.Mathlib.Nat.{zero-mul, suc-mul}
use native.Mathlib.Omega.{arith}
use mathlib.Core.List.{List, [], ◌∷◌}
use lib.Dec.{T, ltb, ltb→lt, lit<}
use seplogic.Ra.Ura.{Ura}
use mir.Syntax.{Fn, Width, w64, w128, int_big}
use mir.MapTy.{inst_fn}
use mir.Val.{Val, Fits, vint, vbool}
use base.Logic.{SProp, emp, via, guard_i}
use base.Fml.{ftrue, flft}
use prog.Capped.{capped_fits, capped_is, capped_small}
use prog.Memory.{capped}
use prog.Wp.{Env, Wp, after_seq, at_return}
use types.Logic.{Logic}
use contract.Monad.{fact, fact_i}
use contract.Running.{tables}
use types.Kit.{Post as After, any_q, Item, ‵, raw, ◌⊛◌, at_ret, ◌$◌, ◌∵◌, !, qed, by, keep, use0, split, fjoin, feq_i, Go}
use types.Run.{Opd, bin, un, of_opd, size_word, false_lit, branches, first, exec, returns, enter}
use types.ByLocal.{alloc_all, pass_all, free_all, look_at, get, sets, sets_last, env}
use denote.Builtin.{usize}
use denote.Exit.{yes}
use denote.Plain.{uint_vals, uint_Tells}
use denote.RattleType.{owns}
use denote.Signature.{plain, types_at}
use denote.Steps.{nothing}
use denote.Triple.Walked.{Stays, stay_dropped, walk_of, Goes-dropped}
use Rattle.std.specs.Prelude.{IsTrue}
use Rattle.std.specs.Vec.Ownership.{FitsInBlock}
use Rattle.std.proofs.lemmas.Nat.{mul-le}
use Rattle.std.proofs.mem.Param.{El, R, args}
use Rattle.std.proofs.raw_atomic.Walks.{proved, leaves}
use Rattle.std.proofs.VecSteps.Shapes.{after}
use Rattle.slot_arena.proofs.Memory.{sz}
use Rattle.slot_arena.specs.contracts.block.fits_in_memory as F
use Rattle.slot_arena.specs.contracts.block.fits_in_memory.Key.{name as #self}
use Rattle.slot_arena.proofs.block.fits_in_memory.Statement.{statement}
use Rattle.slot_arena.proofs.block.fits_in_memory.Code as code

-- a product of small numbers is of the sizes themselves
sized : (count k : ℕ) → count * capped k < 2 ^ 63 → count * k < 2 ^ 63
sized zero k h = subst (λ (n : ℕ). n < 2 ^ 63) (sym (zero-mul k)) (omega arith)
sized (suc count) k h =
    let most = suc-mul count (capped k) in let small : k < 2 ^ 63 = capped_small k (omega arith) in
    subst (λ (n : ℕ). suc count * n < 2 ^ 63) (capped_is k (omega arith)) h

-- the number from which on memory is too large
abbrev limit_at : ℕ
limit_at = 9223372036854775808

limit : {M : Type 1} {𝓤 : Ura M} (𝓛 : Logic 𝓤) {Γ : List (Item 𝓤)} {Ev : Env 𝓤 𝓛.H} (w : Width) → Fits w limit_at → Opd Go 𝓛 Γ Ev (int_big w limit_at) (vint w limit_at)
limit {𝓤 = 𝓤} 𝓛 w fits = record { go = λ Kt z. via 𝓤 (Kt (vint w limit_at)) z (guard_i 𝓤 (Fits w limit_at) (Kt (vint w limit_at)) fits) }

pub fits_in_memory_spec : {M : Type 1} → statement M
fits_in_memory_spec 𝓤 𝓛 𝓜 𝓡 wired X L =
    let E : El = record { row = X; laws = L } in let fn : Fn = inst_fn (args E) code.function in
    let c = F.clauses X 𝓛 𝓜.mem 𝓡.returns in let 𝓣 = tables 𝓤 𝓛.H 𝓜 𝓡 𝓡.env in let En = F.ended X in
    let hs : Stays En.signature.params En.kept = (stay_dropped (plain (λ _. usize)) yes, tt) in
    proved 𝓛 En hs c 𝓜 𝓡 (Goes-dropped 𝓛 1 (plain (λ _. usize)) yes (λ κs x f. refl), tt)
    (#self (args E)) fn (code.unfolded 𝓤 𝓛.H 𝓜 𝓡 wired (X, tt)) (λ κs. (uint_vals w64, tt)) (λ κs. (uint_Tells w64, tt)) (λ κs qs bounds a g are.
    let count : ℕ = a.0 in let s = sz E in let bytes : ℕ = count * capped s in
    let y : (walk_of 𝓛 En hs c).Ghost = ((κs, qs, bounds, a, (uint_vals w64 count, tt)), g) in let Post : Val → SProp 𝓤 = (walk_of 𝓛 En hs c).post y in
    let Tells : Bool → Type 0 = λ r. IsTrue r → FitsInBlock (R E) count in
    let near : count < 2 ^ 64 = are.0.1 in let word : capped s < 2 ^ 64 = capped_fits s in
    let wide : bytes < 2 ^ 128 = (let most = mul-le count (capped s) 18446744073709551615 18446744073709551615 (omega arith) (omega arith) in omega arith) in
    qed 𝓛 (((‵ (flft κs.0 qs.0) ⊛ ‵ ftrue) ⊛ ‵ (owns (types_at En.signature.params κs) a (uint_vals w64 count, tt))) ∷ raw ((c κs a).requires g) ∷ []) ∵
    split ! $ keep ! (0 ∷ []) $ enter ! 𝓣.C 𝓣.Λ fn (vint w64 count ∷ []) _ $ alloc_all ! (λ l. pass_all ! refl ((tt, record { fits = near }), tt) $
    let Ev : Env 𝓤 𝓛.H = env fn.locals l in
    let Then : After 𝓤 𝓛.H = any_q (after_seq 𝓤 𝓛.H (Wp 𝓤 𝓛.H 𝓣.C 𝓣.Λ Ev (after 5 fn.body) (at_return 𝓤 𝓛.H Ev Post)) (at_return 𝓤 𝓛.H Ev Post)) in
    sets ! (un ! (get ! refl) (record { fits = omega arith })) refl (tt, record { fits = omega arith }) $
    sets ! (un ! (size_word !) (record { fits = omega arith })) refl (tt, record { fits = omega arith }) $
    sets ! (bin ! (get ! refl) (get ! refl) (record { fits = wide })) refl (tt, record { fits = wide }) $
    sets ! (bin ! (get ! refl) (limit 𝓛 w128 (record { fits = lit< tt })) tt) refl (tt, tt) $
    first ! $ branches ! (get ! refl)
    (λ held.
    sets_last ! (bin ! (get ! refl) (limit 𝓛 w64 (record { fits = lit< tt })) tt) refl (tt, tt) $ exec ! 𝓣.C 𝓣.Λ Ev (after 5 fn.body) (at_ret Ev Post) $ sets ! (of_opd ! (get ! refl)) refl (tt, tt) $
    feq_i ! (List Val) (vbool (ltb count limit_at) ∷ []) (vbool (ltb count limit_at) ∷ []) refl $
    use0 𝓛 (raw (fact 𝓤 (Tells (ltb count limit_at)))) (fact_i 𝓤 (Tells (ltb count limit_at)) (emp 𝓤) (λ few. (sized count s (ltb→lt bytes limit_at held), ltb→lt count limit_at (subst T (sym few) tt)))) $ nothing ! $ nothing ! $ fjoin ! $
    returns ! (look_at ! 0 refl) $ free_all ! refl $ keep ! (3 ∷ 0 ∷ 2 ∷ 1 ∷ []) $ by ! (leaves 𝓛 En hs c y (vbool (ltb count limit_at)) (ltb count limit_at) (tt, tt) (tt, tt)))
    (λ failed.
    sets_last ! (of_opd ! (false_lit !)) refl (tt, tt) $ exec ! 𝓣.C 𝓣.Λ Ev (after 5 fn.body) (at_ret Ev Post) $ sets ! (of_opd ! (get ! refl)) refl (tt, tt) $
    feq_i ! (List Val) (vbool false ∷ []) (vbool false ∷ []) refl $
    use0 𝓛 (raw (fact 𝓤 (Tells false))) (fact_i 𝓤 (Tells false) (emp 𝓤) (λ few. absurd (true≢false (sym few)))) $ nothing ! $ nothing ! $ fjoin ! $
    returns ! (look_at ! 0 refl) $ free_all ! refl $ keep ! (3 ∷ 0 ∷ 2 ∷ 1 ∷ []) $ by ! (leaves 𝓛 En hs c y (vbool false) false (tt, tt) (tt, tt)))))
