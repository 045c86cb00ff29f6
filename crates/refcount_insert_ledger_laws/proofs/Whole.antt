-- Both moments are ones of which it is known what the frame owns.
use Rattle.std.proofs.Common.{◌≡◌, ℕ, suc, ◌+◌, List, [], ◌∷◌, arith}
use Rattle.ir_core.specs.declared.code.Func.{Func}
use Rattle.ir_core.specs.declared.code.Program.{Program}
use Rattle.refcount_insert_rule.specs.Counted.{IsCountedFunc, AreCounted}
use Rattle.refcount_insert_order_laws.specs.Places.{EachCounted}
use Rattle.refcount_insert_order_laws.specs.Laws.{GroupsOwn}
use Rattle.refcount_insert_order_laws.proofs.Whole as order
use Rattle.refcount_insert_ledger_laws.specs.Laws.{GroupsBring, GroupsBringLedgers}

-- what is known of each function with its counts
each_map : (P Q : ℕ → (f g : Func) → IsCountedFunc f g → Type 0) → ((n : ℕ) (f g : Func) (c : IsCountedFunc f g) → P n f g c → Q n f g c) → (n : ℕ) (fs gs : List Func) (h : AreCounted fs gs) → EachCounted P n fs gs h → EachCounted Q n fs gs h
each_map P Q go n [] [] h all = tt
each_map P Q go n [] (g ∷ gs) h all = tt
each_map P Q go n (f ∷ fs) [] h all = tt
each_map P Q go n (f ∷ fs) (g ∷ gs) h all = (go n f g h.0 all.0, each_map P Q go (suc n) fs gs h.1 all.1)

-- what was gained, where each ledger is what is owned
gained : (a b x y : ℕ) → a ≡ x → b ≡ y → b + x ≡ a + y
gained a b x y first other = omega arith

brought : (q : Program) (n : ℕ) (f g : Func) (c : IsCountedFunc f g) → GroupsOwn q n f g c → GroupsBring q n f g c
brought q n f g c own b d k l is_k is_l met_k met_l =
    let here = own b k is_k met_k in
    let there = own d l is_l met_l in (
      here.0,
      there.0,
      λ i j inside within turns items first other s t reaches comes mine same at to cell.
          gained _ _ _ _
          (here.1 i inside turns items first s reaches mine at cell)
          (there.1 j within turns items other t comes same to cell),
    )

pub groups_bring_ledgers : GroupsBringLedgers
groups_bring_ledgers p q shape is =
    each_map (GroupsOwn q) (GroupsBring q) (brought q) 0 p.funcs q.funcs is.funcs (order.ledgers_are_owned p q shape is)
