-- `replace` fills an empty place, or empties one that holds a value. Assumes `Logic`.
use mathlib.Core.Path.{◌≡◌, refl, sym, ap, subst, ◌∙◌}
use mathlib.Core.Bool.{true≢false}
use Prim.Native.Nat.{ℕ, ◌+◌, ◌*◌, ◌<◌, ◌^◌}
use native.Mathlib.Omega.{arith}
use mathlib.Core.List.{List, [], ◌∷◌, ◌++◌}
use lib.Dec.{T, lit<}
use lib.ListN.{length, set, length-set}
use seplogic.Ra.Ura.{Ura}
use base.Fraction.{full_share}
use mir.Syntax.{Body, Fn, named, w64}
use mir.MapTy.{inst_fn}
use mir.Val.{Val, vptr, vint}
use base.Logic.{SProp, ent}
use base.Fml.{Lft, ftrue, fat, flft, fobs, fbor, froom}
use prog.Memory.{Memory}
use prog.Routine.{Routine}
use prog.Wp.{Env, Calls, Loops, Wp, WpFn, after_seq, at_return}
use types.Logic.{Logic}
use contract.BorrowLft.{◌⊑◌}
use contract.Monad.{Fun, fact}
use contract.Running.{tables}
use types.Kit.{Post as After, any_q, Item, ⋆, ‵, raw, ◌⊛◌, some, given, at_ret, pick, learn, ◌$◌, ◌∵◌, !, qed, by, move, keep, drop, use0, use1, use2, split, join, rewrite, fsplit, fsplit3, fjoin, fjoin3, feq_i, suffices, frame, done}
use types.Match.{vrt, in_variant}
use types.Part.{whole, sub, look_in, agg}
use types.Run.{stop, fld, lit, load, look, init, size_lit, of_opd, bin, no_more, and_then, assigns_last, first, blocks, switches_on, exec, returns, enter}
use types.ByLocal.{alloc_all, pass_all, free_all, look_at, get, get_in, get_tag, through, sets, sets_last, env}
use types.SemTy.{Body as Borrowed}
use denote.Exit.{yes, no, Last, left, rest}
use denote.RattleType.{owns}
use denote.Builtin.{usize}
use denote.Memory.{mem}
use denote.Param.Mute.{blank}
use denote.Plain.{uint_Tells}
use denote.Ref.{MutBor, mut_Tells}
use denote.Signature.{plain, types_at}
use denote.Steps.{heard, nothing}
use denote.Triple.Walked.{Stays, stay_ref, stay_dropped, walk_of, ends_at, Goes-ref, Goes-dropped}
use Rattle.std.specs.Prelude.{Option, Some, None, slice_get, IsSome, IsNone, ◌↔◌}
use Rattle.std.proofs.alloc.Calls.{Goes-blank}
use Rattle.std.proofs.lemmas.Option.{slice_get_within}
use Rattle.std.proofs.mem.Facts.{says_three}
use Rattle.std.proofs.mem.Param.{El, R, args, el_x, elτ, Good}
use Rattle.std.proofs.option.Made.{Some-of, none_of}
use Rattle.std.proofs.ptr.Rows.{times_below, one_below}
use Rattle.std.proofs.raw_atomic.Walks.{proved_at}
use Rattle.std.proofs.RawLayout.{as_raw, as_written}
use Rattle.std.proofs.RcSteps.{some_Good}
use Rattle.std.proofs.VecSteps.Shapes.{after, head, arm_body}
use Rattle.slot_arena.specs.BlockLends.{with_places}
use Rattle.slot_arena.proofs.Memory.{Br, Or, block_of, Place, sz, none_val, some_val, places_at, place_at, besides, place_out, place_in, value_out, value_in, block_opens, block_closes, none_tells, some_tells}
use Rattle.slot_arena.specs.contracts.block.Block.replace as F
use Rattle.slot_arena.specs.contracts.block.Block.replace.Key.{name as #self}
use Rattle.slot_arena.proofs.block.Block.replace.Statement.{statement}
use Rattle.slot_arena.proofs.block.Block.replace.Code as code

module _ (E : El) where
  abbrev function : Fn
  function = inst_fn (args E) code.function

  abbrev stayed : Stays (F.ended E.row).signature.params (F.ended E.row).kept
  stayed = (stay_ref (0 ∷ []) tt (plain (λ _. Br E)), (stay_dropped (plain (λ _. usize)) yes, (stay_dropped (plain (λ _. Or E)) no, tt)))

  -- the block with another place
  abbrev new : block_of E → ℕ → Place E → block_of E
  new d i slot = with_places d (set d.places i slot)

  abbrev Asks : block_of E → ℕ → Place E → Type 0
  Asks d i slot = (old : Place E) × (slice_get d.places i ≡ Some old) × (IsSome slot ↔ IsNone old)

  fewer : (d : block_of E) (i : ℕ) (slot : Place E) → length d.places * sz E < 2 ^ 63 → length (new d i slot).places * sz E < 2 ^ 63
  fewer d i slot = subst (λ (k : ℕ). k * sz E < 2 ^ 63) (sym (length-set d.places i slot))

  -- nothing is left of an `Option` that was passed
  nothing_left : (w : Place E) (f : Last ((Or E).exit no) w) → T (blank (left ((Or E).exit no) w f))
  nothing_left None f = tt
  nothing_left (Some x) f = tt

-- of the two, one is nothing
fills : {X : Type 0} (x : X) (old : Option X) → (IsSome (Some x) ↔ IsNone old) → old ≡ None
fills x None either = refl
fills x (Some y) either = absurd (true≢false (either.0 refl))

empties : {X : Type 0} (old : Option X) → (IsSome {T = X} None ↔ IsNone old) → (x : X) × (old ≡ Some x)
empties None either = absurd (true≢false (sym (either.1 refl)))
empties (Some x) either = (x, refl)

module _ (E : El) {M : Type 1} {𝓤 : Ura M} (𝓛 : Logic 𝓤) (at_mem : Memory → SProp 𝓤) (run : Routine → Fun 𝓤) (C : Calls 𝓤 𝓛.H) (Λ : Loops 𝓤 𝓛.H)
    (y : (walk_of 𝓛 (F.ended E.row) (stayed E) (F.clauses E.row 𝓛 at_mem run)).Ghost) where
  open 𝓛 use {H}

  abbrev Post : Val → SProp 𝓤
  Post = (walk_of 𝓛 (F.ended E.row) (stayed E) (F.clauses E.row 𝓛 at_mem run)).post y

  abbrev κ : Lft
  κ = y.0.0.0

  abbrev self : MutBor (block_of E)
  self = y.0.3.0

  abbrev i : ℕ
  i = y.0.3.1.0

  abbrev slot : Place E
  slot = y.0.3.1.1.0

  abbrev kept : Item 𝓤
  kept = ‵ (flft κ y.0.1.0)

  abbrev others : Item 𝓤
  others = ‵ (flft y.0.0.1.0 y.0.1.1.0) ⊛ ‵ ftrue

  -- the reference to the block as it is
  abbrev bor : block_of E → List (Item 𝓤) → List (Item 𝓤)
  bor d Γ = ‵ (fobs self.ghost_name ((Br E).coded.code d)) ∷ ‵ (fbor κ (Borrowed (mem (Br E)) self.ref_ptr.0 self.ref_ptr.1 self.ghost_name)) ∷ kept ∷ Γ

  exits : y.0.4.0 ≡ vptr self.ref_ptr.0 self.ref_ptr.1 ∷ [] → (old : Place E) (v : Val) → slice_get self.now.places i ≡ Some old
      → ent 𝓤 (⋆ 𝓛 (bor (new E self.now i slot) (‵ ((Or E).own_val old (v ∷ [])) ∷ others ∷ []))) (Post v)
  exits passed old v was =
      qed 𝓛 (bor (new E self.now i slot) (‵ ((Or E).own_val old (v ∷ [])) ∷ others ∷ [])) ∵
      suffices ! _ (ends_at 𝓛 (F.ended E.row) (stayed E) (F.clauses E.row 𝓛 at_mem run) y v old (new E self.now i slot, (tt, (rest ((Or E).exit no) slot, tt))) (tt, (tt, (tt, tt)))) $
      says_three ! (was, refl, refl) $ move ! (2 ∷ 4 ∷ []) $ join ! $ frame ! $ feq_i ! (List Val) y.0.4.0 (vptr self.ref_ptr.0 self.ref_ptr.1 ∷ []) passed $ fjoin3 ! $
      nothing ! $ nothing ! $ fjoin ! $ nothing ! $ fjoin ! $ move ! (1 ∷ 0 ∷ []) $ fjoin ! $ done !

  abbrev called : Val → List Val
  called v = vptr self.ref_ptr.0 self.ref_ptr.1 ∷ vint w64 i ∷ v ∷ []

  -- a value goes to an empty place
  some_walk : y.0.4.0 ≡ vptr self.ref_ptr.0 self.ref_ptr.1 ∷ [] → i < 2 ^ 64 → (x : el_x E) → slot ≡ Some x → (v : Val) → Good E v → slice_get self.now.places i ≡ Some None
      → ent 𝓤 (⋆ 𝓛 (bor self.now (‵ (E.row.own_val x (v ∷ [])) ∷ others ∷ []))) (WpFn 𝓤 H C Λ (function E) (called (some_val v)) Post)
  some_walk passed near x is v good found =
      let d = self.now in let s = sz E in let rb = self.ref_ptr.0 in let ro = self.ref_ptr.1 in
      let within = slice_get_within d.places i None found in
      qed 𝓛 (bor d (‵ (E.row.own_val x (v ∷ [])) ∷ others ∷ [])) ∵ enter ! C Λ (function E) (called (some_val v)) _ $
      alloc_all ! (λ l. pass_all ! refl ((tt, tt), ((tt, record { fits = near }), (some_Good (elτ E) v good, tt))) $
      let En : Env 𝓤 H = env (function E).locals l in let both : Body = head (function E).body in
      let Then : After 𝓤 H = any_q (after_seq 𝓤 H (Wp 𝓤 H C Λ En (after 1 (function E).body) (at_return 𝓤 H En Post)) (at_return 𝓤 H En Post)) in
      block_opens E ! tt d rb ro (λ b o at small.
      let tiny : s < 2 ^ 64 = omega (arith, one_below (length d.places) s (2 ^ 63) (omega arith) small) in
      let far : i * s < 2 ^ 64 = omega (arith, times_below i (length d.places) s (2 ^ 63) (omega arith) small) in
      let place : ℕ = i * s + o in
      first ! $ switches_on ! (get_tag ! (vrt ! refl (fld ! refl (stop !))) (whole !)) $ exec ! C Λ En (arm_body 0 both) Then $
      sets ! (of_opd ! (get_in ! (vrt ! refl (fld ! refl (stop !))) (in_variant ! 1 0 refl refl (whole !)))) refl good $ first ! $ blocks ! $
      sets ! (of_opd ! (load ! (through ! refl (fld ! refl (stop !))) (look_in ! 1 (sub ! 0 refl (whole !))))) refl (tt, tt) $
      sets ! (of_opd ! (get ! refl)) refl (tt, record { fits = near }) $
      sets ! (bin ! (get ! refl) (size_lit ! (record { fits = tiny })) (record { fits = far })) refl (tt, record { fits = far }) $
      sets ! (bin ! (get ! refl) (get ! refl) tt) refl (tt, tt) $
      use1 𝓛 (‵ (place_at E b place None) ⊛ ‵ (besides E b o d.places i)) (place_out E 𝓛 b d.places i o place None found refl) $ split ! $ as_written ! (elτ E) b place $
      sets ! (of_opd ! (get ! refl)) refl good $ assigns_last ! (of_opd ! (get ! refl)) (through ! refl (stop !)) (init ! 0 refl good) $
      exec ! C Λ En (after 2 (arm_body 0 both)) Then $ sets_last ! (agg ! (and_then ! (lit ! tt) (no_more !))) refl (tt, (record { fits = lit< tt }, tt)) $
      exec ! C Λ En (after 1 (function E).body) (at_ret En Post) $ sets ! (of_opd ! (get ! refl)) refl (tt, (record { fits = lit< tt }, tt)) $
      move ! (0 ∷ 6 ∷ []) $ use2 𝓛 (‵ (place_at E b place (Some x))) (value_in E 𝓛 b x place v) $ use2 𝓛 (‵ (places_at E b o (new E d i (Some x)).places)) (place_in E 𝓛 b d.places i o place (Some x) within refl) $
      block_closes E ! tt (new E d i (Some x)) b o rb ro at (fewer E d i (Some x) small) $ rewrite ! 0 (λ (p : Place E). ‵ (fobs self.ghost_name ((Br E).coded.code (new E d i p)))) (sym is) refl $
      use0 𝓛 (‵ ((Or E).own_val None (none_val ∷ []))) (none_of 𝓛 (R E)) $
      returns ! (look_at ! 0 refl) $ free_all ! refl $ keep ! (1 ∷ 2 ∷ 3 ∷ 0 ∷ 4 ∷ []) $ by ! (exits passed None none_val found)))

  -- a value leaves its place
  none_walk : y.0.4.0 ≡ vptr self.ref_ptr.0 self.ref_ptr.1 ∷ [] → i < 2 ^ 64 → slot ≡ None → (x : el_x E) → slice_get self.now.places i ≡ Some (Some x)
      → ent 𝓤 (⋆ 𝓛 (bor self.now (others ∷ []))) (WpFn 𝓤 H C Λ (function E) (called none_val) Post)
  none_walk passed near is x found =
      let d = self.now in let s = sz E in let rb = self.ref_ptr.0 in let ro = self.ref_ptr.1 in
      let within = slice_get_within d.places i (Some x) found in
      qed 𝓛 (bor d (others ∷ [])) ∵ enter ! C Λ (function E) (called none_val) _ $
      alloc_all ! (λ l. pass_all ! refl ((tt, tt), ((tt, record { fits = near }), ((tt, (record { fits = lit< tt }, tt)), tt))) $
      let En : Env 𝓤 H = env (function E).locals l in let both : Body = head (function E).body in
      let Then : After 𝓤 H = any_q (after_seq 𝓤 H (Wp 𝓤 H C Λ En (after 1 (function E).body) (at_return 𝓤 H En Post)) (at_return 𝓤 H En Post)) in
      block_opens E ! tt d rb ro (λ b o at small.
      let tiny : s < 2 ^ 64 = omega (arith, one_below (length d.places) s (2 ^ 63) (omega arith) small) in
      let far : i * s < 2 ^ 64 = omega (arith, times_below i (length d.places) s (2 ^ 63) (omega arith) small) in
      let place : ℕ = i * s + o in
      first ! $ switches_on ! (get_tag ! (vrt ! refl (fld ! refl (stop !))) (whole !)) $ exec ! C Λ En (arm_body 1 both) Then $ first ! $ blocks ! $
      sets ! (of_opd ! (load ! (through ! refl (fld ! refl (stop !))) (look_in ! 1 (sub ! 0 refl (whole !))))) refl (tt, tt) $
      sets ! (of_opd ! (get ! refl)) refl (tt, record { fits = near }) $
      sets ! (bin ! (get ! refl) (size_lit ! (record { fits = tiny })) (record { fits = far })) refl (tt, record { fits = far }) $
      sets ! (bin ! (get ! refl) (get ! refl) tt) refl (tt, tt) $
      use1 𝓛 (‵ (place_at E b place (Some x)) ⊛ ‵ (besides E b o d.places i)) (place_out E 𝓛 b d.places i o place (Some x) found refl) $ split ! $
      use1 𝓛 (some (λ (v : Val). given (Good E v) (‵ (fat full_share (elτ E) b place v) ⊛ ‵ (E.row.own_val x (v ∷ []))))) (value_out E 𝓛 b x place) $ pick ! (λ v. learn ! (λ good. split ! $
      sets_last ! (of_opd ! (load ! (through ! refl (stop !)) (look ! 0 refl))) refl good $
      exec ! C Λ En (after 1 (arm_body 1 both)) Then $ sets ! (of_opd ! (get ! refl)) refl good $ sets_last ! (agg ! (and_then ! (lit ! tt) (and_then ! (get ! refl) (no_more !)))) refl (some_Good (elτ E) v good) $
      exec ! C Λ En (after 1 (function E).body) (at_ret En Post) $ sets ! (of_opd ! (get ! refl)) refl (some_Good (elτ E) v good) $
      use1 𝓛 (‵ (froom (elτ E) b place)) (𝓛.laws.at_room (elτ E) b place v) $ as_raw ! (elτ E) b place $ move ! (0 ∷ 2 ∷ []) $
      use2 𝓛 (‵ (places_at E b o (new E d i None).places)) (place_in E 𝓛 b d.places i o place None within refl) $ move ! (0 ∷ 2 ∷ 3 ∷ 4 ∷ 5 ∷ []) $
      block_closes E ! tt (new E d i None) b o rb ro at (fewer E d i None small) $ rewrite ! 0 (λ (p : Place E). ‵ (fobs self.ghost_name ((Br E).coded.code (new E d i p)))) (sym is) refl $
      move ! (3 ∷ []) $ use1 𝓛 (‵ ((Or E).own_val (Some x) (some_val v ∷ []))) (Some-of 𝓛 (R E) x v) $
      returns ! (look_at ! 0 refl) $ free_all ! refl $ keep ! (1 ∷ 2 ∷ 3 ∷ 0 ∷ 4 ∷ []) $ by ! (exits passed (Some x) (some_val v) found)))))

  abbrev Runs : List Val → SProp 𝓤
  Runs us = WpFn 𝓤 H C Λ (function E) us Post

  goes : (w : Place E) → slot ≡ w → Asks E self.now i w → y.0.4.0 ≡ vptr self.ref_ptr.0 self.ref_ptr.1 ∷ [] → i < 2 ^ 64 → y.0.4.1.0 ≡ vint w64 i ∷ []
      → ent 𝓤 (⋆ 𝓛 (bor self.now (‵ ((Or E).own_val w y.0.4.1.1.0) ∷ others ∷ []))) (Runs (y.0.4.0 ++ (y.0.4.1.0 ++ (y.0.4.1.1.0 ++ []))))
  goes None is asked passed near told =
      let was = empties asked.0 asked.2 in
      qed 𝓛 (bor self.now (‵ ((Or E).own_val None y.0.4.1.1.0) ∷ others ∷ [])) ∵ move ! (3 ∷ []) $ none_tells E ! y.0.4.1.1.0 (λ ev.
      by ! (subst (λ (us : List Val × List Val × List Val). ent 𝓤 (⋆ 𝓛 (bor self.now (others ∷ []))) (Runs (us.0 ++ (us.1 ++ (us.2 ++ []))))) (λ j. (sym passed j, sym told j, sym ev j))
      (none_walk passed near is was.0 (asked.1 ∙ ap Some was.1))))
  goes (Some x) is asked passed near told =
      qed 𝓛 (bor self.now (‵ ((Or E).own_val (Some x) y.0.4.1.1.0) ∷ others ∷ [])) ∵ move ! (3 ∷ []) $ some_tells E ! x y.0.4.1.1.0 (λ v ev good. keep ! (1 ∷ 2 ∷ 3 ∷ 0 ∷ 4 ∷ []) $
      by ! (subst (λ (us : List Val × List Val × List Val). ent 𝓤 (⋆ 𝓛 (bor self.now (‵ (E.row.own_val x (v ∷ [])) ∷ others ∷ []))) (Runs (us.0 ++ (us.1 ++ (us.2 ++ []))))) (λ j. (sym passed j, sym told j, sym ev j))
      (some_walk passed near x is v good (asked.1 ∙ ap Some (fills x asked.0 asked.2)))))

pub replace_spec : {M : Type 1} → statement M
replace_spec 𝓤 𝓛 𝓜 𝓡 wired X L =
    let E : El = record { row = X; laws = L } in
    let c = F.clauses X 𝓛 𝓜.mem 𝓡.returns in let 𝓣 = tables 𝓤 𝓛.H 𝓜 𝓡 𝓡.env in
    proved_at 𝓛 (F.ended X) (stayed E) c 𝓜 𝓡
    (Goes-ref 𝓛 2 0 tt (plain (λ _. Br E)), (Goes-dropped 𝓛 2 (plain (λ _. usize)) yes (λ κs x f. refl), (Goes-blank 𝓛 2 (plain (λ _. Or E)) no (λ κs w f. nothing_left E w f), tt)))
    (#self (args E)) (function E) (code.unfolded 𝓤 𝓛.H 𝓜 𝓡 wired (X, tt))
    (λ y is.
    let κs = y.0.0 in let d : block_of E = y.0.3.0.now in let i : ℕ = y.0.3.1.0 in let w : Place E = y.0.3.1.1.0 in
    qed 𝓛 (((‵ (flft κs.0 y.0.1.0) ⊛ ‵ (flft κs.1.0 y.0.1.1.0) ⊛ ‵ ftrue) ⊛ ‵ (owns (types_at (F.ended X).signature.params κs) y.0.3 y.0.4)) ∷ (raw (fact 𝓤 (κs.1.0 ⊑ X.lives)) ⊛ raw (fact 𝓤 (Asks E d i w))) ∷ []) ∵
    move ! (1 ∷ []) $ split ! $ drop ! $ heard ! (Asks E d i w) (λ asked.
    split ! $ split ! $ move ! (2 ∷ []) $ fsplit ! $ fsplit3 ! $ move ! (3 ∷ 1 ∷ 2 ∷ 4 ∷ 5 ∷ []) $ fsplit ! $ drop ! $ fsplit ! $ keep ! (2 ∷ 3 ∷ 4 ∷ 0 ∷ 5 ∷ []) $
    by ! (goes E 𝓛 𝓜.mem 𝓡.returns 𝓣.C 𝓣.Λ y w refl asked (mut_Tells (named 0) κs.0 (Br E) y.0.3.0 y.0.4.0 is.0) is.1.0.1 (uint_Tells w64 i y.0.4.1.0 is.1.0))))
