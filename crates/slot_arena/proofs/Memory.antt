-- What a block owns and lends, place by place. Assumes `Logic`.
use mathlib.Core.Path.{◌≡◌, refl, sym, ap, ◌∙◌}
use Prim.Native.Nat.{ℕ, zero, suc, ◌+◌, ◌*◌, ◌<◌, ◌^◌}
use native.Mathlib.Nat.{zero-mul, suc-mul}
use native.Mathlib.Omega.{arith}
use mathlib.Core.List.{List, [], ◌∷◌, ◌++◌}
use lib.ListN.{length, set, replicate}
use seplogic.Ra.Ura.{Ura}
use base.Fraction.{full_share}
use mir.Syntax.{ty_array}
use mir.Val.{Val, vptr, vstruct, vcons, vnil, of_list}
use base.Logic.{ent, sep, ex, guard, never, id⊢}
use base.Fml.{Lft, GName, Share, Fml, ftrue, fsep, fat, flft, fobs, fauth, fbor, fobor, froom}
use base.Stored.{Gv}
use types.Logic.{Logic, sem}
use types.Kit.{Goal, Soaks, Step, step, Seq, Item, ‵, ◌⊛◌, some, ◌$◌, ◌∵◌, !, qed, by, move, keep, drop, show, use1, use2, split, pick, rewrite, fsplit, fjoin, fpick, fpack, feq_i, feq_l, flt_i, flt_l, check, done}
use types.Match.{live}
use types.SemTy.{Body as Borrowed}
use denote.Laws.{Is, shows}
use denote.RattleType.{RattleType, Valss}
use denote.Memory.{cell_at, mem, part_at}
use denote.Param.Laws.{param_laws}
use denote.RawPtr.{Ptr, block_ptr, ptr_val, in_a_block}
use denote.Steps.{nothing, opens, closes, peeks}
use denote.Struct.Struct.{Struct, within}
use denote.Struct.Owning.{shape}
use borrow.Table.OneValue.{part_in, part_out}
use Rattle.std.specs.Prelude.{Option, Some, None, slice_get}
use Rattle.std.specs.Mem.{type_size}
use Rattle.std.specs.contracts.option.Option as O
use Rattle.std.proofs.mem.Param.{El, R, el_x, elτ, Good, one, lawful}
use Rattle.slot_arena.specs.Memory.{place_owns, places_own, block_owns, place_lends, places_lend}
use Rattle.slot_arena.specs.contracts.block.Block as C
use Rattle.slot_arena.specs.declared.block.Block.{Block}

module _ (E : El) where
  -- a block, as the logic has it
  abbrev pub Br : RattleType
  Br = C.the_row (R E)

  abbrev pub block_of : Type 0
  block_of = Block (el_x E)

  -- its one data field, as a plain struct
  abbrev pub Word : RattleType
  Word = Struct (shape (C.the_type (R E)))

  abbrev pub Place : Type 0
  Place = Option (el_x E)

  abbrev pub sz : ℕ
  sz = type_size (R E)

  abbrev pub places_at : ℕ → ℕ → List Place → Fml
  places_at b o places = places_own (R E) b o places

  abbrev pub place_at : ℕ → ℕ → Place → Fml
  place_at b o place = place_owns (R E) b o place

  -- the places but for the i-th
  abbrev pub besides : ℕ → ℕ → List Place → ℕ → Fml
  besides b o [] i = ftrue
  besides b o (place ∷ rest) zero = places_at b (o + sz) rest
  besides b o (place ∷ rest) (suc i) = fsep (place_at b o place) (besides b (o + sz) rest i)

-- the one machine value of a block
abbrev pub word : Ptr → Val
word p = vstruct (vcons (ptr_val p) vnil)

module _ (E : El) {M : Type 1} {𝓤 : Ura M} (𝓛 : Logic 𝓤) (b : ℕ) where
  open 𝓛 use {H}

  abbrev s : ℕ
  s = sz E

  -- one place is taken out, and another is put there
  pub place_out : (places : List (Place E)) (i o at : ℕ) (place : Place E) → slice_get places i ≡ Some place → at ≡ i * s + o
      → ent 𝓤 (sem 𝓛 (places_at E b o places)) (sep 𝓤 (sem 𝓛 (place_at E b at place)) (sem 𝓛 (besides E b o places i)))
  place_out [] i o at place found e = absurd (cc)
  place_out (first ∷ rest) zero o at place found e =
      let same : first ≡ place = cc in
      let here : at ≡ o = omega (arith, zero-mul s) in
      qed 𝓛 (‵ (places_at E b o (first ∷ rest)) ∷ []) ∵ fsplit ! $
      rewrite ! 0 (λ (p : Place E). ‵ (place_at E b o p)) same refl $ rewrite ! 0 (λ (k : ℕ). ‵ (place_at E b k place)) (sym here) refl $ done !
  place_out (first ∷ rest) (suc i) o at place found e =
      let next : at ≡ i * s + (o + s) = omega (arith, suc-mul i s) in
      qed 𝓛 (‵ (places_at E b o (first ∷ rest)) ∷ []) ∵ fsplit ! $ move ! (1 ∷ []) $
      use1 𝓛 (‵ (place_at E b at place) ⊛ ‵ (besides E b (o + s) rest i)) (place_out rest i (o + s) at place found next) $ split ! $
      move ! (2 ∷ 1 ∷ []) $ fjoin ! $ move ! (1 ∷ []) $ done !

  pub place_in : (places : List (Place E)) (i o at : ℕ) (place : Place E) → i < length places → at ≡ i * s + o
      → ent 𝓤 (sep 𝓤 (sem 𝓛 (place_at E b at place)) (sem 𝓛 (besides E b o places i))) (sem 𝓛 (places_at E b o (set places i place)))
  place_in [] i o at place within e = absurd (omega arith)
  place_in (first ∷ rest) zero o at place within e =
      let here : at ≡ o = omega (arith, zero-mul s) in
      qed 𝓛 (‵ (place_at E b at place) ∷ ‵ (places_at E b (o + s) rest) ∷ []) ∵
      rewrite ! 0 (λ (k : ℕ). ‵ (place_at E b k place)) here refl $ fjoin ! $ done !
  place_in (first ∷ rest) (suc i) o at place within e =
      let next : at ≡ i * s + (o + s) = omega (arith, suc-mul i s) in
      qed 𝓛 (‵ (place_at E b at place) ∷ ‵ (besides E b o (first ∷ rest) (suc i)) ∷ []) ∵ move ! (1 ∷ []) $ fsplit ! $ move ! (2 ∷ 1 ∷ []) $
      use2 𝓛 (‵ (places_at E b (o + s) (set rest i place))) (place_in rest i (o + s) at place (omega arith) next) $ move ! (1 ∷ 0 ∷ []) $ fjoin ! $ done !

  -- a value at a place, as a cell and what the value owns
  pub value_out : (x : el_x E) (o : ℕ) → ent 𝓤 (sem 𝓛 (place_at E b o (Some x))) (ex 𝓤 (λ (v : Val). guard 𝓤 (Good E v) (sep 𝓤 (H.at full_share (elτ E) b o v) (sem 𝓛 (E.row.own_val x (v ∷ []))))))
  value_out x o = qed 𝓛 (‵ (part_at (R E) full_share x b o) ∷ []) ∵
      use1 𝓛 (some (λ (v : Val). ‵ (fat full_share (elτ E) b o v) ⊛ ‵ (E.row.own_val x (v ∷ [])))) (part_out 𝓛 (R E) refl full_share x b o) $ pick ! (λ v. split ! $ move ! (1 ∷ []) $
      peeks ! (R E) (Is (R E)) (shows 𝓛 (R E)) x (v ∷ []) (λ is.
      show ! (λ (w : Val). guard 𝓤 (Good E w) (sep 𝓤 (H.at full_share (elτ E) b o w) (sem 𝓛 (E.row.own_val x (w ∷ []))))) v $ check ! (((param_laws 0 E.row E.laws).lawful 𝓛).typed x (v ∷ []) is).0 $ move ! (1 ∷ 0 ∷ []) $ done !))

  pub value_in : (x : el_x E) (o : ℕ) (v : Val) → ent 𝓤 (sep 𝓤 (H.at full_share (elτ E) b o v) (sem 𝓛 (E.row.own_val x (v ∷ [])))) (sem 𝓛 (place_at E b o (Some x)))
  value_in x o v = part_in 𝓛 (R E) refl full_share x b o v

  -- fresh memory is empty places, and empty places are memory to give back
  pub empty_places : (count o : ℕ) → ent 𝓤 (H.room (ty_array (elτ E) count) b o) (sem 𝓛 (places_at E b o (replicate count None)))
  empty_places zero o = qed 𝓛 (‵ (froom (ty_array (elτ E) 0) b o) ∷ []) ∵ keep ! [] $ done !
  empty_places (suc count) o = qed 𝓛 (‵ (froom (ty_array (elτ E) (suc count)) b o) ∷ []) ∵
      use1 𝓛 (‵ (froom (elτ E) b o) ⊛ ‵ (froom (ty_array (elτ E) count) b (o + s))) (𝓛.laws.room_uncons (elτ E) count b o) $ split ! $
      use1 𝓛 (‵ (place_at E b o None)) (𝓛.laws.room-raw (elτ E) b o) $ move ! (1 ∷ []) $
      use1 𝓛 (‵ (places_at E b (o + s) (replicate count None))) (empty_places count (o + s)) $ move ! (1 ∷ 0 ∷ []) $ fjoin ! $ done !

  pub places_empty : (count o : ℕ) → ent 𝓤 (sem 𝓛 (places_at E b o (replicate count None))) (H.room (ty_array (elτ E) count) b o)
  places_empty zero o = 𝓛.laws.room_nil (elτ E) b o
  places_empty (suc count) o = qed 𝓛 (‵ (places_at E b o (replicate (suc count) None)) ∷ []) ∵ fsplit ! $
      use1 𝓛 (‵ (froom (elτ E) b o)) (𝓛.laws.raw-room (elτ E) b o) $ move ! (1 ∷ []) $
      use1 𝓛 (‵ (froom (ty_array (elτ E) count) b (o + s))) (places_empty count (o + s)) $ move ! (1 ∷ []) $ by ! (𝓛.laws.room_cons (elτ E) count b o)

  -- what a `&` to the places reaches at one of them
  pub place_shown : (κ : Lft) (places : List (Place E)) (i o at : ℕ) (place : Place E) → slice_get places i ≡ Some place → at ≡ i * s + o
      → ent 𝓤 (sem 𝓛 (places_lend (R E) b o places κ)) (sem 𝓛 (place_lends (R E) b at place κ))
  place_shown κ [] i o at place found e = absurd (cc)
  place_shown κ (first ∷ rest) zero o at place found e =
      let same : first ≡ place = cc in
      let here : at ≡ o = omega (arith, zero-mul s) in
      qed 𝓛 (‵ (places_lend (R E) b o (first ∷ rest) κ) ∷ []) ∵ fsplit ! $
      rewrite ! 0 (λ (p : Place E). ‵ (place_lends (R E) b o p κ)) same refl $ rewrite ! 0 (λ (k : ℕ). ‵ (place_lends (R E) b k place κ)) (sym here) refl $ keep ! (0 ∷ []) $ done !
  place_shown κ (first ∷ rest) (suc i) o at place found e =
      let next : at ≡ i * s + (o + s) = omega (arith, suc-mul i s) in
      qed 𝓛 (‵ (places_lend (R E) b o (first ∷ rest) κ) ∷ []) ∵ fsplit ! $ drop ! $ by ! (place_shown κ rest i (o + s) at place found next)

module _ (E : El) {M : Type 1} {𝓤 : Ura M} {𝓛 : Logic 𝓤} {K : Type 0} {Γ : List (Item 𝓤)} {G : Goal 𝓤 𝓛.H} where
  -- what a block owns is taken apart: its places
  pub block_had : K → (d : block_of E) (vs : List Val)
      → ((b o : ℕ) → d.at ≡ block_ptr b o → vs ≡ word (block_ptr b o) ∷ [] → length d.places * sz E < 2 ^ 63 → Seq K 𝓛 (‵ (places_at E b o d.places) ∷ Γ) G)
      → Seq K 𝓛 (‵ ((Br E).own_val d vs) ∷ Γ) G
  block_had t d vs k =
      fsplit t $ fpick t (λ vss. fsplit t $ feq_l t (λ all. fsplit t $ feq_l t (λ first. drop t $
      in_a_block t d.at (λ p. block_owns (R E) p d.places) (id⊢ 𝓤 (never 𝓤)) (λ b o e. fsplit t $ flt_l t (λ small.
      k b o e (all ∙ (λ i. vstruct (of_list (first i ++ [])) ∷ []) ∙ ap (λ (p : Ptr). word p ∷ []) e) small)))))

  -- and made again
  pub block_made : K → (d : block_of E) (b o : ℕ) → d.at ≡ block_ptr b o → length d.places * sz E < 2 ^ 63
      → Step K 𝓛 (‵ ((Br E).own_val d (word (block_ptr b o) ∷ [])) ∷ Γ) G (‵ (places_at E b o d.places) ∷ Γ) G
  block_made t d b o at small = step (λ next.
      flt_i t (length d.places * sz E) (2 ^ 63) small $ fjoin t $
      nothing t $ feq_i t (List Val) (vptr b o ∷ []) (vptr b o ∷ []) refl $ fjoin t $
      feq_i t (List Val) (word (block_ptr b o) ∷ []) (word (block_ptr b o) ∷ []) refl $ fjoin t $
      fpack t (Valss (shape (C.the_type (R E))).fields) (within (shape (C.the_type (R E))) (block_ptr b o, tt) (word (block_ptr b o) ∷ [])) (vptr b o ∷ [], tt) $ fjoin t $
      rewrite t 0 (λ (p : Ptr). ‵ (fsep ((Word E).own_val (p, tt) (word (block_ptr b o) ∷ [])) (block_owns (R E) p d.places))) (sym at) refl $ next)

module _ (E : El) {M : Type 1} {𝓤 : Ura M} {𝓛 : Logic 𝓤} {K : Type 0} {Γ : List (Item 𝓤)} {G : Goal 𝓤 𝓛.H} where
  -- a `&mut` to a block is opened: [the places; the cell of the pointer; the open borrow; the two halves of its name]
  pub block_opens : K → Soaks G → {κ : Lft} {q : Share} {γ : GName} (d : block_of E) (rb ro : ℕ)
      → ((b o : ℕ) → d.at ≡ block_ptr b o → length d.places * sz E < 2 ^ 63
      → Seq K 𝓛 (‵ (places_at E b o d.places) ∷ ‵ (cell_at full_share (Br E).mir (word (block_ptr b o) ∷ []) rb ro) ∷ ‵ (fobor κ q (Borrowed (mem (Br E)) rb ro γ)) ∷ ‵ (fobs γ ((Br E).coded.code d)) ∷ ‵ (fauth γ ((Br E).coded.code d)) ∷ Γ) G)
      → Seq K 𝓛 (‵ (fobs γ ((Br E).coded.code d)) ∷ ‵ (fbor κ (Borrowed (mem (Br E)) rb ro γ)) ∷ ‵ (flft κ q) ∷ Γ) G
  block_opens t z d rb ro k =
      opens t z (Br E) {h = d} rb ro (λ vs. move t (1 ∷ []) $ block_had E t d vs (λ b o e is small.
      rewrite t 1 (λ (ws : List Val). ‵ (cell_at full_share (Br E).mir ws rb ro)) is refl $ k b o e small))

  -- and shut, at the block as it is now
  pub block_closes : K → Soaks G → {κ : Lft} {q : Share} {u v : Gv} {γ : GName} (d : block_of E) (b o rb ro : ℕ) → d.at ≡ block_ptr b o → length d.places * sz E < 2 ^ 63
      → Step K 𝓛 (‵ (fobs γ ((Br E).coded.code d)) ∷ ‵ (fbor κ (Borrowed (mem (Br E)) rb ro γ)) ∷ ‵ (flft κ q) ∷ Γ) G
      (‵ (places_at E b o d.places) ∷ ‵ (cell_at full_share (Br E).mir (word (block_ptr b o) ∷ []) rb ro) ∷ ‵ (fobor κ q (Borrowed (mem (Br E)) rb ro γ)) ∷ ‵ (fobs γ u) ∷ ‵ (fauth γ v) ∷ Γ) G
  block_closes t z d b o rb ro at small = step (λ next.
      block_made E t d b o at small $ move t (1 ∷ 0 ∷ []) $ closes t z (Br E) d (word (block_ptr b o) ∷ []) rb ro $ next)

-- an `Option` of a slot's value, in memory
abbrev pub none_val : Val
none_val = live 0 (of_list [])

abbrev pub some_val : Val → Val
some_val v = live 1 (of_list (v ∷ []))

module _ (E : El) where
  abbrev pub Or : RattleType
  Or = O.the_row (R E)

module _ (E : El) {M : Type 1} {𝓤 : Ura M} {𝓛 : Logic 𝓤} {K : Type 0} {Γ : List (Item 𝓤)} {G : Goal 𝓤 𝓛.H} where
  -- what is owned of one tells its machine value
  pub none_tells : K → (vs : List Val) → (vs ≡ none_val ∷ [] → Seq K 𝓛 Γ G) → Seq K 𝓛 (‵ ((Or E).own_val None vs) ∷ Γ) G
  none_tells t vs k =
      fpick t (λ us. fsplit t $ feq_l t (λ all. fpick t (λ vss. fsplit t $ feq_l t (λ fields. drop t $ k (all ∙ ap (λ (ws : List Val). live 0 (of_list ws) ∷ []) fields)))))

  pub some_tells : K → (x : el_x E) (vs : List Val) → ((v : Val) → vs ≡ some_val v ∷ [] → Good E v → Seq K 𝓛 (‵ (E.row.own_val x (v ∷ [])) ∷ Γ) G)
      → Seq K 𝓛 (‵ ((Or E).own_val (Some x) vs) ∷ Γ) G
  some_tells t x vs k =
      fpick t (λ us. fsplit t $ feq_l t (λ all. fpick t (λ vss. fsplit t $ feq_l t (λ fields. fsplit t $ move t (1 ∷ []) $ drop t $ peeks t (R E) (Is (R E)) (shows 𝓛 (R E)) x vss.0 (λ is.
      let got = one E vss.0 ((lawful E 𝓛).typed x vss.0 is) in
      rewrite t 0 (λ (ws : List Val). ‵ (E.row.own_val x ws)) got.1 refl $
      k got.0 (all ∙ ap (λ (ws : List Val). live 1 (of_list ws) ∷ []) (fields ∙ ap (λ (ws : List Val). ws ++ []) got.1)) got.2)))))
