-- What is read again and what is only lent in small functions: a branch that writes a parameter, a call that fails in the middle of a
-- block, and items of a tuple that are only lent.
use Rattle.std.proofs.Common.{◌≡◌, ◌≤◌, ◌∙◌, refl, ap, arith, ℕ, List, zero, suc, [], ◌∷◌, Some, None, codes}
use Rattle.c_core.specs.declared.primitive.Primitive.TheVariants.{Tuple}
use Rattle.c_core.specs.declared.primitive.TuplePrim.TheVariants.{GetItem, GetItemBorrow}
use Rattle.ir_core.specs.declared.code.PArg.TheVariants.{Var, Number}
use Rattle.ir_core.specs.declared.code.Op.{Op}
use Rattle.ir_core.specs.declared.code.RType.TheVariants.{Int, Bool, Ref}
use Rattle.ir_core.specs.declared.code.Reg.{Reg}
use Rattle.ir_core.specs.declared.code.Lit.TheVariants.{Null}
use Rattle.ir_core.specs.declared.code.Op.TheVariants.{Move, Lit, Call, Prim}
use Rattle.ir_core.specs.declared.code.Last.TheVariants.{Goto, If, Return}
use Rattle.ir_core.specs.declared.code.Block.{Block}
use Rattle.ir_core.specs.declared.code.Func.{Func}
use Rattle.std.specs.Prelude.{slice_get, pos}
use Rattle.ir_core.specs.Items.{Do, End}
use Rattle.liveness.specs.Paths.{targets, Goes, passes, fails, jumps, LiveAt, reads_here, goes_on, entry, onward, OwnedAt, no_parameter, written, kept, BorrowedAt}
use Rattle.liveness.proofs.OwnedLemmas.{lent_behind}

abbrev reg : ℕ → Reg
reg n = record { 0 = n }

-- def f(n, b): if b: n = error; return n, over a third register
abbrev sample : Func
sample = record {
  name = codes "f";
  params = 2;
  regs = (codes "n", Int) ∷ (codes "b", Bool) ∷ (codes "r0", Int) ∷ [];
  ret = Int;
  blocks =
      record { ops = []; last = If (reg 1) 1 2; handler = None }
      ∷ record { ops = (Lit (reg 0) Null, 1) ∷ []; last = Goto 2; handler = None }
      ∷ record { ops = (Move (reg 2) (reg 0), 2) ∷ []; last = Return (reg 2); handler = None }
      ∷ [];
}

-- the entry goes to both blocks
to_first : Goes sample 0 0 1 0
to_first = jumps 0 0 0 1 (If (reg 1) 1 2) refl refl

to_second : Goes sample 0 0 2 0
to_second = jumps 0 0 1 2 (If (reg 1) 1 2) refl refl

-- the parameter is read again at the entry, along the second branch
n_is_live : LiveAt sample 0 0 0
n_is_live =
    goes_on 0 0 2 0 (End (If (reg 1) 1 2)) refl refl to_second (reads_here 2 0 (Do (Move (reg 2) (reg 0)) 2) refl refl)

-- and behind the branch it is no longer only lent, since the first one writes it
n_is_owned : OwnedAt sample 0 2 0
n_is_owned =
    kept 1 1 2 0 (End (Goto 2)) (written 1 0 1 1 (Do (Lit (reg 0) Null) 1) (onward 0 0 1 0 entry to_first) refl refl refl (passes 1 0 (Lit (reg 0) Null) refl)) refl refl (jumps 1 1 0 2 (Goto 2) refl refl)

-- the third register is no parameter
other_is_owned : OwnedAt sample 2 0 0
other_is_owned = let le : 2 ≤ 2 = omega arith in no_parameter le

-- def f(n): the call of a function, then n = error, in a block whose handler returns n
abbrev caught : Func
caught = record {
  name = codes "f";
  params = 1;
  regs = (codes "n", Int) ∷ (codes "r0", Int) ∷ [];
  ret = Int;
  blocks =
      record { ops = (Call (reg 1) 0 [], 1) ∷ (Lit (reg 0) Null, 2) ∷ []; last = Return (reg 1); handler = Some 1 }
      ∷ record { ops = []; last = Return (reg 0); handler = None }
      ∷ [];
}

-- the call may go to the handler, so the parameter is read again before it
n_is_read_there : LiveAt caught 0 0 0
n_is_read_there =
    goes_on 0 0 1 0 (Do (Call (reg 1) 0 []) 1) refl refl (fails 0 0 1 (Call (reg 1) 0 []) refl refl refl) (reads_here 1 0 (End (Return (reg 0))) refl refl)

-- ---- items of a tuple in the parameter t, put into the variable r

abbrev lent : ℕ → Op
lent r = Prim (Some (reg r)) (Tuple GetItemBorrow) (Var (reg 0) ∷ Number (pos 0) ∷ [])

abbrev taken : ℕ → Op
taken r = Prim (Some (reg r)) (Tuple GetItem) (Var (reg 0) ∷ Number (pos 0) ∷ [])

abbrev over : List Block → Func
over blocks = record {
  name = codes "f";
  params = 1;
  regs = (codes "t", Ref) ∷ (codes "r", Ref) ∷ [];
  ret = Ref;
  blocks = blocks;
}

-- lent once and read: owned before, as what is no parameter, and only lent behind
abbrev once : Func
once = over (record { ops = (lent 1, 1) ∷ []; last = Return (reg 1); handler = None } ∷ [])

once_before : OwnedAt once 1 0 0
once_before = no_parameter (omega arith)

once_behind : BorrowedAt once 1 0 1
once_behind = lent_behind once 1 0 0 (lent 1) refl refl refl

-- an owned write behind a lent one
abbrev again : Func
again = over (record { ops = (lent 1, 1) ∷ (taken 1, 2) ∷ []; last = Return (reg 1); handler = None } ∷ [])

again_between : BorrowedAt again 1 0 1
again_between = lent_behind again 1 0 0 (lent 1) refl refl refl

again_behind : OwnedAt again 1 0 2
again_behind =
    written 0 1 0 2 (Do (taken 1) 2) (onward 0 0 0 1 entry (passes 0 0 (lent 1) refl)) refl refl refl (passes 0 1 (taken 1) refl)

-- lent on one branch and owned on the other
abbrev either_way : Func
either_way =
    over
    (record { ops = []; last = If (reg 0) 1 2; handler = None }
    ∷ record { ops = (lent 1, 1) ∷ []; last = Goto 3; handler = None }
    ∷ record { ops = (taken 1, 2) ∷ []; last = Goto 3; handler = None }
    ∷ record { ops = []; last = Return (reg 1); handler = None }
    ∷ [])

lent_branch : BorrowedAt either_way 1 1 1
lent_branch = lent_behind either_way 1 1 0 (lent 1) refl refl refl

taken_branch : OwnedAt either_way 1 2 1
taken_branch =
    written 2 0 2 1 (Do (taken 1) 2) (onward 0 0 2 0 entry (jumps 0 0 1 2 (If (reg 0) 1 2) refl refl)) refl refl refl (passes 2 0 (taken 1) refl)

joined : OwnedAt either_way 1 3 0
joined = kept 2 1 3 0 (End (Goto 3)) taken_branch refl refl (jumps 2 1 0 3 (Goto 3) refl refl)

-- lent in a loop: its head is owned by the way from the entry alone
abbrev looped : Func
looped =
    over
    (record { ops = []; last = Goto 1; handler = None }
    ∷ record { ops = []; last = If (reg 0) 2 3; handler = None }
    ∷ record { ops = (lent 1, 1) ∷ []; last = Goto 1; handler = None }
    ∷ record { ops = []; last = Return (reg 1); handler = None }
    ∷ [])

at_head : OwnedAt looped 1 1 0
at_head = kept 0 0 1 0 (End (Goto 1)) (no_parameter (omega arith)) refl refl (jumps 0 0 0 1 (Goto 1) refl refl)

at_turn : BorrowedAt looped 1 2 1
at_turn = lent_behind looped 1 2 0 (lent 1) refl refl refl

-- a parameter that is lent to
abbrev parameter : Func
parameter = over (record { ops = (lent 0, 1) ∷ []; last = Return (reg 0); handler = None } ∷ [])

parameter_before : BorrowedAt parameter 0 0 0
parameter_before owned = never 0 0 owned refl
  where
    comes : (b p c q : ℕ) → Goes parameter b p c q → q ≡ 0 → ⊥
    comes b p c q (passes b2 p2 o e) none = omega (arith, none)
    comes zero p c q (fails b2 p2 h o e caught at) none = let clash : None ≡ Some h = at in absurd (cc)
    comes (suc b) p c q (fails b2 p2 h o e caught at) none =
        let clash : None ≡ Some h = at in absurd (cc)
    comes zero zero c q (jumps b2 p2 i t l e at) none =
        let clash : Some (Do (lent 0) 1) ≡ Some (End l) = e in absurd (cc)
    comes zero (suc zero) c q (jumps b2 p2 i t l e at) none =
        let both : Some (End (Return (reg 0))) ≡ Some (End l) = e in
        let end : Return (reg 0) ≡ l = cc in
        let clash : None ≡ Some t = ap (λ z. slice_get (targets z) i) end ∙ at in
        absurd (cc)
    comes zero (suc (suc p)) c q (jumps b2 p2 i t l e at) none =
        let clash : None ≡ Some (End l) = e in absurd (cc)
    comes (suc b) p c q (jumps b2 p2 i t l e at) none =
        let clash : None ≡ Some (End l) = e in absurd (cc)

    never : (b p : ℕ) → OwnedAt parameter 0 b p → p ≡ 0 → ⊥
    never b p (no_parameter le) none = omega (arith, le)
    never b p (written x y c q i m e w n g) none = comes x y c q g none
    never b p (kept x y c q i o e w g) none = comes x y c q g none

parameter_behind : BorrowedAt parameter 0 0 1
parameter_behind = lent_behind parameter 0 0 0 (lent 0) refl refl refl
