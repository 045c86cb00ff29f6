-- The operations of a block with their counts lead from the shares of the first place to those of the end.
use Rattle.std.proofs.Common.{◌≡◌, refl, sym, ap, ◌∙◌, subst, ℕ, zero, suc, ◌+◌, ◌≤◌, Bool, List, [], ◌∷◌, ◌++◌, map, length, drop, arith, append-nil, Option, Some}
use Rattle.c_core.specs.declared.code.CArg.{CArg}
use Rattle.c_core.specs.declared.code.Line.{Line}
use Rattle.c_core.specs.declared.code.CFunc.{CFunc}
use Rattle.c_core.specs.declared.code.Code.{Code}
use Rattle.c_core.specs.WellFormed.{named_kind}
use Rattle.ir_core.specs.declared.code.Op.{Op}
use Rattle.ir_core.specs.declared.code.Func.{Func}
use Rattle.ir_core.specs.declared.code.Program.{Program}
use Rattle.ir_core.specs.Lower.{kind_of_type, variable_of, line_of, op_lines}
use Rattle.c_core_ownership_laws.specs.Shares.{Shares, returns_cells, callee_named, Checks}
use Rattle.refcount_insert_rule.specs.Rule.{IsGroup}
use Rattle.refcount_insert_rule.specs.Counted.{counts_register, Tables, AreGroups}
use Rattle.refcount_insert_order_laws.specs.Places.{operations_before}
use Rattle.refcount_insert_order_laws.proofs.Counts.{lines_append}
use Rattle.refcount_insert_order_laws.proofs.Variables.{agrees}
use Rattle.refcount_insert_order_laws.proofs.Groups.{Suits, IsFit}
use Rattle.refcount_insert_order_laws.proofs.GroupChecks.{group_check}
use Rattle.refcount_insert_order_laws.proofs.Trails.{head, head_append, Leads, leads_append, leads_size, Trail, trail}

-- a function of the C text that has the registers of a function
abbrev pub text_of : Func → List ℕ → List Line → CFunc
text_of f name lines =
    record { name = name; ret = kind_of_type f.ret; params = f.params; vars = map variable_of f.regs; lines = lines }

-- what two codes have in common
pub record AreAlike (p q : Program) (code old : Code) : Type 0 where
  pub named : (args : List CArg) → named_kind code args ≡ named_kind old args
  pub returns : (name : List ℕ) → returns_cells (callee_named code name) ≡ returns_cells (callee_named old name)
  pub line : (o : Op) → line_of q o ≡ line_of p o

-- each operation suits the shares of its place and of the next one
abbrev pub OpsSuit : Program → Code → CFunc → (ℕ → Bool) → (ℕ → Shares) → List (Op × ℕ) → Type 0
OpsSuit p old g counted sh [] = Unit {0}
OpsSuit p old g counted sh (o ∷ os) =
    Suits g.vars counted o.0 (sh 0) (sh 1) × IsFit p old g o.0 × OpsSuit p old g counted (λ j. sh (suc j)) os

pub drop_behind : {A : Type 0} (xs ys : List A) (n p : ℕ) → length xs ≡ n → drop (n + p) (xs ++ ys) ≡ drop p ys
drop_behind [] ys zero p e = let z : 0 + p ≡ p = omega arith in ap (λ k. drop k ys) z
drop_behind [] ys (suc n) p e = absurd (omega (arith, e))
drop_behind (x ∷ xs) ys zero p e = absurd (omega (arith, e))
drop_behind (x ∷ xs) ys (suc n) p e =
    let z : suc n + p ≡ suc (n + p) = omega arith in
    ap (λ k. drop k (x ∷ (xs ++ ys))) z ∙ drop_behind xs ys n p (omega (arith, e))

pub lines_size : (q : Program) (ops : List (Op × ℕ)) → length (op_lines q ops) ≡ length ops
lines_size q [] = refl
lines_size q (o ∷ ops) = ap suc (lines_size q ops)

module _ (p q : Program) (f : Func) (t : Tables f) (number : ℕ → ℕ) (code old : Code) (name : List ℕ) (lines : List Line) (same : AreAlike p q code old) (Enters : ℕ → Shares → Type 0) where
  abbrev g : CFunc
  g = text_of f name lines

  abbrev counted : ℕ → Bool
  counted = counts_register f.regs

  -- shares at the places of groups
  pub record Groups (sh : ℕ → Shares) (os ops : List (Op × ℕ)) (h : AreGroups f t number (λ j. (sh j).owns) os ops) (next : Option Shares) : Type 0 where
    pub trail : Trail code (text_of f name lines) Enters (sh 0) (op_lines q ops) next
    pub marks : (i : ℕ) → i ≤ length os → head (drop (operations_before f t number (λ j. (sh j).owns) os ops h i) trail.shares) next ≡ Some (sh i)

  group_trail : (o : Op × ℕ) (σ τ : Shares) (ops : List (Op × ℕ)) (next : Option Shares) → Suits g.vars counted o.0 σ τ → IsFit p old g o.0 → IsGroup counted o σ.owns τ.owns ops → next ≡ Some τ → Trail code g Enters σ (op_lines q ops) next
  group_trail o σ τ ops next suits fit group is =
      let checks : Checks code g Enters (λ ρ. ρ ≡ τ) σ (op_lines q ops ++ []) =
      group_check p q code old g counted (agrees f.regs) same.named same.returns Enters (λ ρ. ρ ≡ τ) o σ τ ops [] suits fit (same.line o.0) group refl in
      trail code g Enters (λ ρ. ρ ≡ τ) next (λ ρ e. is ∙ ap Some (sym e)) σ (op_lines q ops) (subst (Checks code g Enters (λ ρ. ρ ≡ τ) σ) (append-nil (op_lines q ops)) checks)

  pub groups_trail : (sh : ℕ → Shares) (os ops : List (Op × ℕ)) (h : AreGroups f t number (λ j. (sh j).owns) os ops) (next : Option Shares) → OpsSuit p old g counted sh os → next ≡ Some (sh (length os)) → Groups sh os ops h next
  groups_trail sh [] ops h next suit is =
      record { trail = record { shares = []; leads = subst (λ z. Leads code g Enters (op_lines q z) [] next) (sym h) tt; first = is }; marks = λ i le. none i le }
    where
      none : (i : ℕ) → i ≤ 0 → head (drop (operations_before f t number (λ j. (sh j).owns) [] ops h i) []) next ≡ Some (sh i)
      none zero le = is
      none (suc i) le = absurd (omega (arith, le))
  groups_trail sh (o ∷ os) ops h next suit is =
      let rest = groups_trail (λ j. sh (suc j)) os h.1 h.4 next suit.2 is in
      let here : Trail code g Enters (sh 0) (op_lines q h.0) (head rest.trail.shares next) = group_trail o (sh 0) (sh 1) h.0 (head rest.trail.shares next) suit.0 suit.1 h.3 rest.trail.first in
      let split : op_lines q h.0 ++ op_lines q h.1 ≡ op_lines q ops = sym (ap (op_lines q) h.2 ∙ lines_append q h.0 h.1) in
      let first : head (here.shares ++ rest.trail.shares) next ≡ Some (sh 0) = head_append here.shares rest.trail.shares next ∙ here.first in
      let size : length here.shares ≡ length h.0 = leads_size code g Enters (op_lines q h.0) here.shares (head rest.trail.shares next) here.leads ∙ lines_size q h.0 in
      record {
        trail = record {
          shares = here.shares ++ rest.trail.shares;
          leads = subst (λ z. Leads code g Enters z (here.shares ++ rest.trail.shares) next) split (leads_append code g Enters (op_lines q h.0) (op_lines q h.1) here.shares rest.trail.shares next here.leads rest.trail.leads);
          first = first;
        };
        marks = λ i le. marked here.shares rest first size i le;
      }
    where
      marked : (ss : List (Option Shares)) (rest : Groups (λ j. sh (suc j)) os h.1 h.4 next) → head (ss ++ rest.trail.shares) next ≡ Some (sh 0) → length ss ≡ length h.0 → (i : ℕ) → i ≤ suc (length os) → head (drop (operations_before f t number (λ j. (sh j).owns) (o ∷ os) ops h i) (ss ++ rest.trail.shares)) next ≡ Some (sh i)
      marked ss rest first size zero le = first
      marked ss rest first size (suc i) le =
          ap (λ z. head z next) (drop_behind ss rest.trail.shares (length h.0) (operations_before f t number (λ j. (sh (suc j)).owns) os h.1 h.4 i) size) ∙ rest.marks i (omega (arith, le))
