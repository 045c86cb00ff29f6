-- What the builder holds after each of its calls.
use Rattle.std.proofs.Common.{◌≡◌, refl, ◌∙◌, ℕ, zero, suc, arith, List, [], ◌∷◌, ◌++◌, length, Some, None, length-append}
use Rattle.std.specs.Prelude.{slice_get}
use Rattle.ir_core.specs.declared.code.RType.{RType}
use Rattle.ir_core.specs.declared.code.Block.{Block}
use Rattle.ir_core.specs.declared.code.Last.{Last}
use Rattle.ir_core.specs.declared.code.Op.{Op}
use Rattle.ir_core.specs.Items.{Item, Do, End, in_block, item_in, handler_in}
use Rattle.ir_core.specs.Building.{Building, ended_block, in_open, held_in, Extends}
use Rattle.ir_core.specs.Laws.{added, pushed, closed, CallsExtend}

module _ (o : Op × ℕ) where
  open_more : (os : List (Op × ℕ)) (i : ℕ) (x : Item) → in_open os i ≡ Some x → in_open (os ++ o ∷ []) i ≡ Some x
  open_more [] i x e = let f : None ≡ Some x = e in absurd (cc)
  open_more (q ∷ os) zero x e = e
  open_more (q ∷ os) (suc i) x e = open_more os i x e

  open_last : (os : List (Op × ℕ)) → in_open (os ++ o ∷ []) (length os) ≡ Some (Do o.0 o.1)
  open_last [] = refl
  open_last (q ∷ os) = open_last os

  held_more : (bs : List Block) (os : List (Op × ℕ)) (k i : ℕ) (x : Item) → held_in bs os k i ≡ Some x → held_in bs (os ++ o ∷ []) k i ≡ Some x
  held_more [] os zero i x e = open_more os i x e
  held_more [] os (suc k) i x e = e
  held_more (b ∷ bs) os zero i x e = e
  held_more (b ∷ bs) os (suc k) i x e = held_more bs os k i x e

  held_last : (bs : List Block) (os : List (Op × ℕ)) → held_in bs (os ++ o ∷ []) (length bs) (length os) ≡ Some (Do o.0 o.1)
  held_last [] os = open_last os
  held_last (b ∷ bs) os = held_last bs os

module _ (last : Last) where
  abbrev ended : List (Op × ℕ) → Block
  ended os = ended_block os last

  in_ended : (os : List (Op × ℕ)) (i : ℕ) (x : Item) → in_open os i ≡ Some x → in_block os last i ≡ Some x
  in_ended [] i x e = let f : None ≡ Some x = e in absurd (cc)
  in_ended (q ∷ os) zero x e = e
  in_ended (q ∷ os) (suc i) x e = in_ended os i x e

  end_in : (os : List (Op × ℕ)) → in_block os last (length os) ≡ Some (End last)
  end_in [] = refl
  end_in (q ∷ os) = end_in os

  ended_more : (bs : List Block) (os : List (Op × ℕ)) (k i : ℕ) (x : Item) → held_in bs os k i ≡ Some x → held_in (bs ++ ended os ∷ []) [] k i ≡ Some x
  ended_more [] os zero i x e = in_ended os i x e
  ended_more [] os (suc k) i x e = let f : None ≡ Some x = e in absurd (cc)
  ended_more (b ∷ bs) os zero i x e = e
  ended_more (b ∷ bs) os (suc k) i x e = ended_more bs os k i x e

  ended_last : (bs : List Block) (os : List (Op × ℕ)) → held_in (bs ++ ended os ∷ []) [] (length bs) (length os) ≡ Some (End last)
  ended_last [] os = end_in os
  ended_last (b ∷ bs) os = ended_last bs os

  handler_same : (bs : List Block) (os : List (Op × ℕ)) (k : ℕ) → handler_in (bs ++ ended os ∷ []) k ≡ handler_in bs k
  handler_same [] os zero = refl
  handler_same [] os (suc k) = refl
  handler_same (b ∷ bs) os zero = refl
  handler_same (b ∷ bs) os (suc k) = handler_same bs os k

get_more : {A : Type 0} (xs ys : List A) (k : ℕ) (x : A) → slice_get xs k ≡ Some x → slice_get (xs ++ ys) k ≡ Some x
get_more [] ys k x e = let f : None ≡ Some x = e in absurd (cc)
get_more (y ∷ xs) ys zero x e = e
get_more (y ∷ xs) ys (suc k) x e = get_more xs ys k x e

add_extends : (b : Building) (name : List ℕ) (t : RType) → Extends b (added b name t)
add_extends b name t = record {
  items = λ k i x e. e;
  regs = λ r d e. get_more b.regs ((name, t) ∷ []) r d e;
  handlers = λ k l. refl;
  regs_grow = omega (arith, length-append b.regs ((name, t) ∷ []));
  blocks_grow = omega arith;
}

push_extends : (b : Building) (o : Op × ℕ) → Extends b (pushed b o)
push_extends b o = record {
  items = λ k i x e. held_more o b.blocks b.ops k i x e;
  regs = λ r d e. e;
  handlers = λ k l. refl;
  regs_grow = omega arith;
  blocks_grow = omega arith;
}

close_extends : (b : Building) (last : Last) → Extends b (closed b last)
close_extends b last = record {
  items = λ k i x e. ended_more last b.blocks b.ops k i x e;
  regs = λ r d e. e;
  handlers = λ k l. handler_same last b.blocks b.ops k;
  regs_grow = omega arith;
  blocks_grow = omega (arith, length-append b.blocks (ended last b.ops ∷ []));
}

extends_trans : (a b c : Building) → Extends a b → Extends b c → Extends a c
extends_trans a b c x y =
    let first = x.regs_grow in
    let second = y.regs_grow in
    let third = x.blocks_grow in
    let fourth = y.blocks_grow in
    record {
      items = λ k i z e. y.items k i z (x.items k i z e);
      regs = λ r d e. y.regs r d (x.regs r d e);
      handlers = λ k l. y.handlers k (omega arith) ∙ x.handlers k l;
      regs_grow = omega arith;
      blocks_grow = omega arith;
    }

pub calls_extend : CallsExtend
calls_extend = record {
  adding = add_extends;
  pushing = push_extends;
  closing = close_extends;
  operation = λ b o. held_last o b.blocks b.ops;
  end = λ b last. ended_last last b.blocks b.ops;
  composes = extends_trans;
}

pub built_is_held : (blocks : List Block) (k i : ℕ) → held_in blocks [] k i ≡ item_in blocks k i
built_is_held [] zero i = refl
built_is_held [] (suc k) i = refl
built_is_held (b ∷ bs) zero i = refl
built_is_held (b ∷ bs) (suc k) i = built_is_held bs k i
