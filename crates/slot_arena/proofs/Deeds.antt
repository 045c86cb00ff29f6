-- The deed of a block's memory, and the layout that the memory is taken for. Assumes `Logic`.
use mathlib.Core.Path.{◌≡◌, refl, sym, ap, subst, ◌∙◌}
use Prim.Native.Nat.{ℕ, zero, suc, ◌*◌, ◌<◌, ◌^◌}
use native.Mathlib.Nat.{zero-mul, suc-mul}
use native.Mathlib.Omega.{arith}
use mathlib.Core.List.{List, [], ◌∷◌, ◌++◌}
use seplogic.Ra.Ura.{Ura}
use mir.Syntax.{Ty, Args, a_type, ty_array, dcons, dnil}
use mir.Val.{Val, vstruct, vcons, vnil, of_list}
use mir.Raw.{raw as bare}
use prog.Memory.{size, align, capped}
use prog.Capped.{capped_is}
use prog.RawLaws.{size-raw, align-raw}
use base.Logic.{ent, sep, emp}
use types.Logic.{Logic, sem}
use types.Kit.{Goal, Step, step, Seq, Item, ‵, ◌$◌, ◌∵◌, !, qed, move, drop, use0, fsplit, fjoin, fpick, fpack, feq_i, feq_l, done}
use denote.RattleType.{RattleType, Valss}
use denote.Param.{param, bounded}
use denote.Shadow.{makes_shadow}
use denote.Steps.{nothing}
use denote.Struct.Struct.{Struct, within}
use denote.Struct.Owning.{shape}
use denote.Struct.Declared as Declared
use denote.Struct.Tuple.{Tuple, tuple_type}
use Rattle.std.proofs.alloc.Calls.{Al, token}
use Rattle.std.proofs.mem.Param.{El, R, elτ}
use Rattle.slot_arena.specs.Memory.{deed_owns}
use Rattle.slot_arena.proofs.Memory.{sz}
use Rattle.slot_arena.specs.contracts.block.Deed as D

-- where the product fits a word, the count is zero or the size fits too
pub uncapped : (i k : ℕ) → i * k < 2 ^ 64 → i * capped k ≡ i * k
uncapped zero k h = zero-mul (capped k) ∙ sym (zero-mul k)
uncapped (suc i) k h = let up = suc-mul i k in ap (λ (j : ℕ). suc i * j) (capped_is k (omega arith))

module _ (E : El) where
  -- the type that memory for so many slots is taken for
  abbrev pub block_ty : ℕ → Ty
  block_ty count = bare (ty_array (elτ E) count)

  pub block_size : (count : ℕ) → count * sz E < 2 ^ 64 → capped (size (block_ty count)) ≡ count * sz E
  block_size count fits = ap capped (size-raw (ty_array (elτ E) count)) ∙ capped_is (count * sz E) fits

  pub block_align : (count : ℕ) → capped (align (block_ty count)) ≡ capped (align (elτ E))
  block_align count = ap capped (align-raw (ty_array (elτ E) count))

module _ (E : El) (Z : Al) where
  abbrev pub args : Args
  args = bounded (a_type ∷ a_type ∷ []) (E.row, (Z.row, tt)) (dcons Z.d (dcons Z.drops dnil))

  abbrev pub P : RattleType
  P = param 1 Z.row

  abbrev pub Dr : RattleType
  Dr = D.the_row (R E) P Z.g

  abbrev Mark : RattleType
  Mark = Struct (shape (D.the_type (R E) P Z.g))

-- the one machine value of a deed, which takes no bytes
abbrev pub mark : Val
mark = vstruct (vcons (vstruct vnil) vnil)

mark_made : (E : El) (Z : Al) {M : Type 1} {𝓤 : Ura M} (𝓛 : Logic 𝓤) → ent 𝓤 (emp 𝓤) (sem 𝓛 ((Mark E Z).own_val (tt, tt) (mark ∷ [])))
mark_made E Z 𝓛 = makes_shadow 𝓛 ((Mark E Z).own_val (tt, tt) (mark ∷ [])) (λ vss. (tt, ((λ uss. (tt, tt)), tt))) ((vstruct vnil ∷ [], tt), (refl, ((tt, (refl, tt)), tt)))

module _ (E : El) (Z : Al) {M : Type 1} {𝓤 : Ura M} {𝓛 : Logic 𝓤} {K : Type 0} {Γ : List (Item 𝓤)} {G : Goal 𝓤 𝓛.H} where
  pub deed_had : K → (d : (Dr E Z).Denot) (vs : List Val)
      → (vs ≡ mark ∷ [] → Seq K 𝓛 (‵ (deed_owns (R E) (token Z d.alloc) d.at d.count) ∷ Γ) G) → Seq K 𝓛 (‵ ((Dr E Z).own_val d vs) ∷ Γ) G
  deed_had t d vs k =
      fsplit t $ fpick t (λ vss. fsplit t $ feq_l t (λ all. fsplit t $ fpick t (λ uss. fsplit t $ feq_l t (λ e. drop t $ drop t $
      k (subst (λ (ws : List Val). vs ≡ vstruct (of_list (ws ++ [])) ∷ []) e all)))))

  pub deed_made : K → (d : (Dr E Z).Denot) → Step K 𝓛 (‵ ((Dr E Z).own_val d (mark ∷ [])) ∷ Γ) G (‵ (deed_owns (R E) (token Z d.alloc) d.at d.count) ∷ Γ) G
  deed_made t d = step (λ next. use0 𝓛 (‵ ((Mark E Z).own_val (tt, tt) (mark ∷ []))) (mark_made E Z 𝓛) $ fjoin t $ next)

-- two values make a pair
abbrev pub two_val : Val → Val → Val
two_val u v = vstruct (vcons u (vcons v vnil))

pub two_of : {M : Type 1} {𝓤 : Ura M} (𝓛 : Logic 𝓤) (S T : RattleType) (x : S.Denot) (y : T.Denot) (u v : Val)
    → ent 𝓤 (sep 𝓤 (sem 𝓛 (S.own_val x (u ∷ []))) (sem 𝓛 (T.own_val y (v ∷ [])))) (sem 𝓛 ((Tuple (S ∷ T ∷ [])).own_val (x, y) (two_val u v ∷ [])))
two_of 𝓛 S T x y u v =
    qed 𝓛 (‵ (S.own_val x (u ∷ [])) ∷ ‵ (T.own_val y (v ∷ [])) ∷ []) ∵ nothing ! $ move ! (2 ∷ 0 ∷ []) $ fjoin ! $ move ! (1 ∷ 0 ∷ []) $ fjoin ! $
    feq_i ! (List Val) (two_val u v ∷ []) (two_val u v ∷ []) refl $ fjoin ! $
    fpack ! (Valss (S ∷ T ∷ [])) (within (Declared.shape (tuple_type (S ∷ T ∷ []))) (x, (y, tt)) (two_val u v ∷ [])) (u ∷ [], (v ∷ [], tt)) $ done !
