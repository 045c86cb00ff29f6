-- The blocks of a function whose ends are all written have their shape.
use Rattle.ir_builder_shapes_laws.proofs.Common.{◌≡◌, ℕ, suc, ◌<◌, ◌⊎◌, refl, sym, subst, arith, true, false, List, [], ◌∷◌, ◌++◌, Option, Some, None, inl, inr, ⊎_elim, slice_get, Op, Turn, Last, Goto, If, IfError, Return, Unreachable, Block, Func, Do, item_in, handler_of, Declared, is_unwritten, is_open_at, IsHigher, LastFits, BlocksFit, FuncFits, BeginsInTurn, FuncsFit, FunctionType, IsBuilt}
use Rattle.ir_core.specs.Shape as shape
use Rattle.ir_builder_frames.specs.Shaped.{Higher, EndFits, HandlerFits, AllFit}

higher : (k m t : ℕ) → Higher k m t → IsHigher (suc m) k t
higher k m t h = (h.0, omega (arith, h.1))

last_fits : (m k : ℕ) (ops : List (Op × ℕ)) (last : Last) → is_unwritten last ≡ false → EndFits m k ops last → LastFits (suc m) k ops last
last_fits m k ops (Goto t) e h =
    let some : 0 < t = elim h.0 [ inl lt ↦ omega (arith, lt) | inr behind ↦ omega (arith, behind.0) ] in
    let leads : (k < t) ⊎ (shape.ends_in_turn ops ≡ true) = ⊎_elim (λ lt. inl lt) (λ behind. inr behind.1) h.0 in
    (some, omega (arith, h.1), leads)
last_fits m k ops (If r a b) e h = (higher k m a h.0, higher k m b h.1)
last_fits m k ops (IfError r a b line) e h = (higher k m a h.1, higher k m b h.2)
last_fits m k ops (Return r) e h = tt
last_fits m k ops Unreachable e h = absurd (cc)

handler_fits : (m k : ℕ) (h : Option ℕ) → HandlerFits m k h → shape.HandlerFits (suc m) k h
handler_fits m k None f = tt
handler_fits m k (Some t) f = higher k m t f

pub blocks_fit : (m k : ℕ) (bs : List Block) → ((j : ℕ) → is_open_at bs j ≡ false) → AllFit m k bs → BlocksFit (suc m) k bs
blocks_fit m k [] written h = tt
blocks_fit m k (b ∷ bs) written h = (
  record { ops = h.1; last = last_fits m k b.ops b.last (written 0) h.0; handler = handler_fits m k (handler_of b) h.2 },
  blocks_fit m (suc k) bs (λ j. written (suc j)) h.3,
)

-- ---- functions, and the module's own behind them

pub built_fits : (heads : List FunctionType) (globals : Declared) (f : Func) → IsBuilt heads globals f → FuncFits f
built_fits heads globals f b =
    subst (λ n. BlocksFit n 0 f.blocks) (sym b.blocks) (blocks_fit b.highest 0 f.blocks b.written b.fits)

module _ (own : Func) where
  pub funcs_fit : (fs : List Func) → ((n : ℕ) (f : Func) → slice_get fs n ≡ Some f → FuncFits f) → FuncFits own → FuncsFit (fs ++ own ∷ [])
  funcs_fit [] each last = (last, tt)
  funcs_fit (f ∷ fs) each last = (each 0 f refl, funcs_fit fs (λ n g e. each (suc n) g e) last)

  pub turns_begin : (fs : List Func) → ((n : ℕ) (f : Func) → slice_get fs n ≡ Some f → (line : ℕ) × (item_in f.blocks 0 0 ≡ Some (Do Turn line))) → BeginsInTurn (fs ++ own ∷ [])
  turns_begin [] each = tt
  turns_begin (f ∷ []) each = (each 0 f refl, tt)
  turns_begin (f ∷ g ∷ fs) each = (each 0 f refl, turns_begin (g ∷ fs) (λ n h e. each (suc n) h e))
