-- The lines of new blocks have shares at each of their places.
use Rattle.std.proofs.Common.{◌≡◌, refl, sym, ap, ◌∙◌, subst, ℕ, zero, suc, ◌+◌, ◌≤◌, ◌⊎◌, inl, ⊎_elim, List, [], ◌∷◌, ◌++◌, length, drop, arith, Option, Some, None}
use Rattle.std.specs.Prelude.{slice_get}
use Rattle.c_core.specs.declared.code.Line.{Line}
use Rattle.c_core.specs.declared.code.Line.TheVariants as line
use Rattle.c_core.specs.declared.code.CFunc.{CFunc}
use Rattle.c_core.specs.declared.code.Code.{Code}
use Rattle.ir_core.specs.declared.code.Op.{Op}
use Rattle.ir_core.specs.declared.code.Last.{Last}
use Rattle.ir_core.specs.declared.code.Last.TheVariants.{Goto, If, IfError, Return, Unreachable}
use Rattle.ir_core.specs.declared.code.Block.{Block}
use Rattle.ir_core.specs.declared.code.Func.{Func}
use Rattle.ir_core.specs.declared.code.Program.{Program}
use Rattle.ir_core.specs.Lower.{line_of, op_lines, label_before, label_of, end_lines, block_lines, lines_from}
use Rattle.ir_core.proofs.LowerLemmas.{place_of}
use Rattle.c_core_ownership_laws.specs.Shares.{Shares, Checks}
use Rattle.refcount_insert_rule.specs.Counted.{Tables, owned, AreGroups}
use Rattle.refcount_insert_order_laws.specs.Places.{operations_before, IsFront}
use Rattle.refcount_insert_order_laws.proofs.Equations.{at}
use Rattle.refcount_insert_order_laws.proofs.Trails.{at_place, head, head_append, Leads, leads_append, leads_size, Trail, trail, unknown}
use Rattle.refcount_insert_order_laws.proofs.Bodies.{drop_behind}
use Rattle.refcount_insert_order_laws.proofs.Ends.{Starts, Never}

module _ (q : Program) (code : Code) (g : CFunc) (start : ℕ → Option Shares) where
  -- the lines of one block, which starts with these shares, if any
  pub record One (n : ℕ) (b : Block) (s : Option Shares) (next : Option Shares) : Type 0 where
    pub shares : List (Option Shares)
    pub leads : Leads code g (Starts start) (block_lines q n b) shares next
    pub first : head shares next ≡ s

  -- behind the label
  abbrev pub labelled : (n : ℕ) (b : Block) (σ : Shares) (next : Option Shares) → Trail code g (Starts start) σ (op_lines q b.ops ++ end_lines label_of n b.last) next → One n b (Some σ) next
  labelled zero b σ next t = record { shares = t.shares; leads = t.leads; first = t.first }
  labelled (suc n) b σ next t =
      record {
        shares = Some σ ∷ t.shares;
        leads = (λ τ e. t.first ∙ e, t.leads);
        first = refl;
      }

  pub labelled_drop : (n : ℕ) (b : Block) (σ : Shares) (next : Option Shares) (t : Trail code g (Starts start) σ (op_lines q b.ops ++ end_lines label_of n b.last) next) (rest : List (Option Shares)) → drop (length (label_before n)) ((labelled n b σ next t).shares ++ rest) ≡ t.shares ++ rest
  labelled_drop zero b σ next t rest = refl
  labelled_drop (suc n) b σ next t rest = refl

  -- a block that is not met
  has_line : (n : ℕ) (b : Block) → (l : Line) × (ls : List Line) × (block_lines q n b ≡ l ∷ ls)
  has_line n b = by n b.ops b.last
    where
      by : (n : ℕ) (ops : List (Op × ℕ)) (last : Last) → (l : Line) × (ls : List Line) × (label_before n ++ (op_lines q ops ++ end_lines label_of n last) ≡ l ∷ ls)
      by (suc n) ops last = (line.Label, op_lines q ops ++ end_lines label_of (suc n) last, refl)
      by zero (o ∷ ops) last = (line_of q o.0, op_lines q ops ++ end_lines label_of zero last, refl)
      by zero [] (Goto t) = (line.Goto (label_of t), [], refl)
      by zero [] (If r a c) = (line.If r.0 (label_of a) (label_of c), [], refl)
      by zero [] (IfError r a c s) = (line.IfError r.0 (label_of a) (label_of c), [], refl)
      by zero [] (Return r) = (line.Return r.0, [], refl)
      by zero [] Unreachable = (line.Turn, line.Goto (label_of zero) ∷ [], refl)

  pub unmet : (n : ℕ) (b : Block) (next : Option Shares) → One n b None next
  unmet n b next =
      let l = has_line n b in
      let rest = unknown code g (Starts start) Never next (λ ρ e. absurd e) l.1 in
      record {
        shares = None ∷ rest.0;
        leads = subst (λ z. Leads code g (Starts start) z (None ∷ rest.0) next) (sym l.2) (λ σ e. let no_shares : None ≡ Some σ = e in absurd (cc), rest.1);
        first = refl;
      }

  -- blocks that are in order from the shares with which they start
  abbrev pub AreChecked : ℕ → List Block → List (Option Shares) → Type 0
  AreChecked n [] [] = Unit {0}
  AreChecked n (b ∷ bs) (s ∷ ss) =
      ((σ : Shares) → s ≡ Some σ → Checks code g (Starts start) Never σ (op_lines q b.ops ++ end_lines label_of n b.last)) × AreChecked (suc n) bs ss
  AreChecked n _ _ = ⊥

  one_checked : (n : ℕ) (b : Block) (s : Option Shares) (next : Option Shares) → ((σ : Shares) → s ≡ Some σ → Checks code g (Starts start) Never σ (op_lines q b.ops ++ end_lines label_of n b.last)) → One n b s next
  one_checked n b None next h = unmet n b next
  one_checked n b (Some σ) next h =
      labelled n b σ next (trail code g (Starts start) Never next (λ ρ e. absurd e) σ (op_lines q b.ops ++ end_lines label_of n b.last) (h σ refl))

  -- ---- blocks and the places of their groups
  module _ (f : Func) (t : Tables f) (number : ℕ → ℕ) where
    -- the new block of an old one, and its groups at places with their shares
    pub record Marked (b : ℕ) (k : Block) (n : ℕ) (blocks : List Block) (shares : List (Option Shares)) : Type 0 where
      pub place : ℕ
      pub main : Block
      pub is_main : slice_get blocks place ≡ Some main
      pub is_number : number b ≡ n + place
      pub front : List (Op × ℕ)
      pub is_front : IsFront b k.last front k.ops
      pub groups : List (Op × ℕ)
      pub others : List (Op × ℕ)
      pub split : main.ops ≡ groups ++ others
      pub are : AreGroups f t number (owned f t b) front groups
      pub marks : (i : ℕ) → i ≤ length front → head (drop (operations_before f t number (owned f t b) front groups are i) (drop (length (label_before (number b))) (drop (place_of q n blocks place) shares))) None ≡ Some (at f t b i)

    -- the lines of blocks from number n on, which start with these shares, and the old blocks among them
    pub record Blocks (n : ℕ) (blocks : List Block) (ss : List (Option Shares)) (Has : ℕ → Block → Type 0) : Type 0 where
      pub shares : List (Option Shares)
      pub leads : Leads code g (Starts start) (lines_from q n blocks) shares None
      pub places : (i : ℕ) (x : Block) → slice_get blocks i ≡ Some x → head (drop (place_of q n blocks i) shares) None ≡ at_place ss i
      pub marked : (b : ℕ) (k : Block) → Has b k → Marked b k n blocks shares

    shifted : (b : ℕ) (k : Block) (n : ℕ) (x : Block) (blocks : List Block) (ss shares : List (Option Shares)) → length ss ≡ length (block_lines q n x) → Marked b k (suc n) blocks shares → Marked b k n (x ∷ blocks) (ss ++ shares)
    shifted b k n x blocks ss shares size h =
        record {
          place = suc h.place;
          main = h.main;
          is_main = h.is_main;
          is_number = h.is_number ∙ omega arith;
          front = h.front;
          is_front = h.is_front;
          groups = h.groups;
          others = h.others;
          split = h.split;
          are = h.are;
          marks = λ i le. ap (λ z. head (drop (operations_before f t number (owned f t b) h.front h.groups h.are i) (drop (length (label_before (number b))) z)) None) (drop_behind ss shares (length (block_lines q n x)) (place_of q (suc n) blocks h.place) size) ∙ h.marks i le;
        }

    pub cons_block : (n : ℕ) (x : Block) (s : Option Shares) (blocks : List Block) (ss : List (Option Shares)) (Has Also : ℕ → Block → Type 0) (rest : Blocks (suc n) blocks ss Has) (one : One n x s (head rest.shares None)) → ((b : ℕ) (k : Block) → Also b k → Has b k ⊎ Marked b k n (x ∷ blocks) (one.shares ++ rest.shares)) → Blocks n (x ∷ blocks) (s ∷ ss) Also
    cons_block n x s blocks ss Has Also rest one more =
        let size : length one.shares ≡ length (block_lines q n x) = leads_size code g (Starts start) (block_lines q n x) one.shares (head rest.shares None) one.leads in
        record {
          shares = one.shares ++ rest.shares;
          leads = leads_append code g (Starts start) (block_lines q n x) (lines_from q (suc n) blocks) one.shares rest.shares None one.leads rest.leads;
          places = λ i y e. placed i y e size;
          marked = λ b k also. ⊎_elim (λ has. shifted b k n x blocks one.shares rest.shares size (rest.marked b k has)) (λ here. here) (more b k also);
        }
      where
        placed : (i : ℕ) (y : Block) → slice_get (x ∷ blocks) i ≡ Some y → length one.shares ≡ length (block_lines q n x) → head (drop (place_of q n (x ∷ blocks) i) (one.shares ++ rest.shares)) None ≡ at_place (s ∷ ss) i
        placed zero y e size = head_append one.shares rest.shares None ∙ one.first
        placed (suc i) y e size =
            ap (λ z. head z None) (drop_behind one.shares rest.shares (length (block_lines q n x)) (place_of q (suc n) blocks i) size) ∙ rest.places i y e

    -- blocks of edges in front of others
    pub own_blocks : (n : ℕ) (own : List Block) (so : List (Option Shares)) (blocks : List Block) (ss : List (Option Shares)) (Has : ℕ → Block → Type 0) → AreChecked n own so → Blocks (n + length own) blocks ss Has → Blocks n (own ++ blocks) (so ++ ss) Has
    own_blocks n [] [] blocks ss Has a rest =
        let z : n + 0 ≡ n = omega arith in subst (λ k. Blocks k blocks ss Has) z rest
    own_blocks n [] (s ∷ so) blocks ss Has a rest = absurd a
    own_blocks n (x ∷ own) [] blocks ss Has a rest = absurd a
    own_blocks n (x ∷ own) (s ∷ so) blocks ss Has a rest =
        let z : n + suc (length own) ≡ suc n + length own = omega arith in
        let later : Blocks (suc n) (own ++ blocks) (so ++ ss) Has = own_blocks (suc n) own so blocks ss Has a.1 (subst (λ k. Blocks k blocks ss Has) z rest) in
        cons_block n x s (own ++ blocks) (so ++ ss) Has Has later (one_checked n x s (head later.shares None) a.0) (λ b k has. inl has)
