-- What holds of the operations of a block and of each count of a counted register holds of the block with its counts.
use Rattle.std.proofs.Common.{◌≡◌, refl, sym, subst, ℕ, zero, suc, ◌-◌, ◌≤◌, arith, Bool, true, false, not, cond, List, [], ◌∷◌, ◌++◌, length}
use Rattle.std.specs.Prelude.{◌&&◌, nat_lt}
use Rattle.c_core.specs.Cells.{same, times}
use Rattle.c_core.proofs.CountLemmas.{same_self}
use Rattle.ir_core.specs.declared.code.Op.{Op}
use Rattle.ir_core.specs.declared.code.Op.TheVariants.{Inc, Dec, XDec}
use Rattle.ir_core.specs.declared.code.Last.{Last}
use Rattle.ir_core.specs.declared.code.Last.TheVariants.{Goto, If, IfError, Return, Unreachable}
use Rattle.ir_core.specs.declared.code.Func.{Func}
use Rattle.c_core_ownership_laws.specs.Shares.{put, one_if}
use Rattle.refcount_insert_rule.specs.Rule.{need, done, ups, down, downs, given_up, IsGroup, IsEdge}
use Rattle.refcount_insert_rule.specs.Counted.{counts_register, Tables, owned, wanted, AreGroups, AreLast, AreAll, AreTurned, IsBody}

-- ---- numbers
some_if : (b : Bool) (n : ℕ) → 1 ≤ cond b n 0 → b ≡ true
some_if true n le = refl
some_if false n le = absurd (omega (arith, le))

some_one : (a b : Bool) → 1 ≤ one_if (a && b) → a ≡ true
some_one true b le = refl
some_one false b le = absurd (omega (arith, le))

pub put_some : (P : ℕ → Type 0) (x n : ℕ) (k : ℕ → ℕ) (r : ℕ) → (1 ≤ n → P x) → ((j : ℕ) → 1 ≤ k j → P j) → 1 ≤ put x n k r → P r
put_some P zero n k zero here others le = here le
put_some P zero n k (suc r) here others le = others (suc r) le
put_some P (suc x) n k zero here others le = others zero le
put_some P (suc x) n k (suc r) here others le =
    put_some (λ j. P (suc j)) x n (λ j. k (suc j)) r here (λ j. others (suc j)) le

module _ (O : Op → Type 0) where
  -- it holds of all operations
  abbrev pub AllOps : List (Op × ℕ) → Type 0
  AllOps [] = Unit {0}
  AllOps (o ∷ os) = O o.0 × AllOps os

  pub ops_append : (xs ys : List (Op × ℕ)) → AllOps xs → AllOps ys → AllOps (xs ++ ys)
  ops_append [] ys h k = k
  ops_append (x ∷ xs) ys h k = (h.0, ops_append xs ys h.1 k)

  ops_parts : (xs ys : List (Op × ℕ)) → AllOps (xs ++ ys) → AllOps xs × AllOps ys
  ops_parts [] ys h = (tt, h)
  ops_parts (x ∷ xs) ys h = let both = ops_parts xs ys h.1 in ((h.0, both.0), both.1)

  module _ (f : Func) (t : Tables f) (number : ℕ → ℕ) where
    abbrev counted : ℕ → Bool
    counted = counts_register f.regs

    -- only counted registers have references
    abbrev pub Owns : (ℕ → ℕ) → Type 0
    Owns have = (r : ℕ) → 1 ≤ have r → counted r ≡ true

    pub owned_owns : (b p : ℕ) → Owns (owned f t b p)
    owned_owns b p r le = some_one (counted r) (t.live b p r && not (t.lent b p r)) le

    -- and it holds of their counts
    module _ (counts : (r : ℕ) → counted r ≡ true → O (Inc record { 0 = r }) × O (Dec record { 0 = r }) × O (XDec record { 0 = r })) where
      ups_are : (rs : List ℕ) (line : ℕ) → ((r : ℕ) → 1 ≤ times rs r → counted r ≡ true) → AllOps (ups rs line)
      ups_are [] line h = tt
      ups_are (s ∷ rs) line h =
          ((counts s (h s (omega (arith, same_self s)))).0, ups_are rs line (λ r le. h r (omega (arith, le))))

      down_is : (b : Bool) (r : ℕ) → counted r ≡ true → O (down b r)
      down_is true r e = (counts r e).1
      down_is false r e = (counts r e).2

      downs_are : (ds : List (ℕ × Bool)) (line : ℕ) → ((r : ℕ) → 1 ≤ times (given_up ds) r → counted r ≡ true) → AllOps (downs ds line)
      downs_are [] line h = tt
      downs_are (d ∷ ds) line h =
          (down_is d.1 d.0 (h d.0 (omega (arith, same_self d.0))), downs_are ds line (λ r le. h r (omega (arith, le))))

      group_is : (o : Op × ℕ) (have want : ℕ → ℕ) (ops : List (Op × ℕ)) → IsGroup counted o have want ops → O o.0 → AllOps ops
      group_is o have want ops g h =
          let before : AllOps (ups g.up o.1) = ups_are g.up o.1 (λ r le. some_if (counted r) (need counted o.0 have want r - have r) (omega (arith, le, g.before r))) in
          let after : AllOps (downs g.down o.1) = downs_are g.down o.1 (λ r le. some_if (counted r) (done counted o.0 have want r - want r) (omega (arith, le, g.after r))) in
          subst AllOps (sym g.is) (ops_append (ups g.up o.1) (o ∷ downs g.down o.1) before (h, after))

      pub edge_is : (have want : ℕ → ℕ) (ops : List (Op × ℕ)) → Owns have → Owns want → IsEdge have want ops → AllOps ops
      edge_is have want ops h w e =
          let before : AllOps (ups e.up 0) = ups_are e.up 0 (λ r le. w r (omega (arith, le, e.short r))) in
          let after : AllOps (downs e.down 0) = downs_are e.down 0 (λ r le. h r (omega (arith, le, e.over r))) in
          subst AllOps (sym e.is) (ops_append (ups e.up 0) (downs e.down 0) before after)

      groups_are : (at : ℕ → ℕ → ℕ) (old ops : List (Op × ℕ)) → AllOps old → AreGroups f t number at old ops → AllOps ops
      groups_are at [] ops h g = subst AllOps (sym g) tt
      groups_are at (o ∷ os) ops h g =
          subst AllOps (sym g.2) (ops_append g.0 g.1 (group_is o (at 0) (at 1) g.0 g.3 h.0) (groups_are (λ p. at (suc p)) os g.1 h.1 g.4))

      last_is : (have : ℕ → ℕ) (last : Last) (ops : List (Op × ℕ)) → Owns have → AreLast f t number have last ops → AllOps ops
      last_is have (Goto b) ops h e = edge_is have (wanted f t number b) ops h (owned_owns b 0) e
      last_is have (If x a b) ops h e = subst AllOps (sym e) tt
      last_is have (IfError x a b line) ops h e = subst AllOps (sym e) tt
      last_is have (Return x) ops h e =
          subst AllOps (sym e.is) (ups_are e.up 0 (λ r le. some_if (counted r) (same x.0 r - have r) (omega (arith, le, e.short r))))
      last_is have Unreachable ops h e = subst AllOps (sym e) tt

      all_are : (at : ℕ → ℕ → ℕ) (old : List (Op × ℕ)) (last : Last) (ops : List (Op × ℕ)) → ((p : ℕ) → Owns (at p)) → AllOps old → AreAll f t number at old last ops → AllOps ops
      all_are at old last ops h o a =
          subst AllOps (sym a.2) (ops_append a.0 a.1 (groups_are at old a.0 o a.3) (last_is (at (length old)) last a.1 (h (length old)) a.4))

      turned_are : (at : ℕ → ℕ → ℕ) (old : List (Op × ℕ)) (b : ℕ) (ops : List (Op × ℕ)) → ((p : ℕ) → Owns (at p)) → AllOps old → AreTurned f t number at old b ops → AllOps ops
      turned_are at old b ops h o a =
          let both = ops_parts a.0 (a.1 ∷ []) (subst AllOps a.4 o) in
          subst AllOps (sym a.5)
          (ops_append a.2 (a.3 ++ (a.1 ∷ [])) (groups_are at a.0 a.2 both.0 a.6)
          (ops_append a.3 (a.1 ∷ []) (edge_is (at (length old)) (wanted f t number b) a.3 (h (length old)) (owned_owns b 0) a.7) both.1))

      pub body_is : (k : ℕ) (at : ℕ → ℕ → ℕ) (old : List (Op × ℕ)) (last : Last) (ops : List (Op × ℕ)) → ((p : ℕ) → Owns (at p)) → AllOps old → IsBody f t number k at old last ops → AllOps ops
      body_is k at old (Goto b) ops h o a = by (nat_lt k b) a
        where
          by : (up : Bool) → cond up (AreAll f t number at old (Goto b) ops) (AreTurned f t number at old b ops) → AllOps ops
          by true a = all_are at old (Goto b) ops h o a
          by false a = turned_are at old b ops h o a
      body_is k at old (If x a b) ops h o all = all_are at old (If x a b) ops h o all
      body_is k at old (IfError x a b line) ops h o all = all_are at old (IfError x a b line) ops h o all
      body_is k at old (Return x) ops h o all = all_are at old (Return x) ops h o all
      body_is k at old Unreachable ops h o all = all_are at old Unreachable ops h o all
