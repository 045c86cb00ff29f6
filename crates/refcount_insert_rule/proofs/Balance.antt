-- What a register has and is given is what is taken of it, what it is to have, and what is given up.
use Rattle.std.proofs.Common.{◌≡◌, refl, sym, ◌∙◌, ap, ℕ, ◌+◌, ◌-◌, ◌≤◌, arith, true, cond}
use Rattle.ir_core.specs.declared.code.Op.{Op}
use Rattle.ir_core.specs.declared.code.Op.TheVariants.{Move, Lit, Prim, Call, Virtual, TraitCall, Turn, Inc, Dec, XDec}
use Rattle.refcount_insert_rule.specs.Rule.{takes, gives, need, done, counts_before, counts_after}
use Rattle.refcount_insert_rule.specs.Laws.{CountsBalance, TargetsBalance}

numbers : (h t w : ℕ) → h + ((t + w) - h) ≡ t + w + ((h + ((t + w) - h) - t) - w)
numbers h t w = omega arith

pub counts_balance : CountsBalance
counts_balance counted o have want r is off =
    let before : counts_before counted o have want r ≡ takes o r + want r - have r =
    ap (λ b. cond b (need counted o have want r - have r) 0) is ∙ ap (λ b. takes o r + cond b 0 (want r) - have r) off in
    let after : counts_after counted o have want r ≡ have r + (takes o r + want r - have r) - takes o r - want r =
    ap (λ b. cond b (done counted o have want r - want r) 0) is
    ∙ (ap (λ b. cond b (gives o (want r)) (have r + counts_before counted o have want r - takes o r) - want r) off
    ∙ ap (λ n. have r + n - takes o r - want r) before) in
    ap (λ n. have r + n) before ∙ (numbers (have r) (takes o r) (want r) ∙ ap (λ n. takes o r + want r + n) (sym after))

pub gives_least : (o : Op) (w : ℕ) → w ≤ 1 → w ≤ gives o w
gives_least (Move x y) w le = le
gives_least (Lit x l) w le = omega arith
gives_least (Prim to q args) w le = le
gives_least (Call x f args) w le = le
gives_least (Virtual x o n args) w le = le
gives_least (TraitCall x o t n args) w le = le
gives_least Turn w le = le
gives_least (Inc x) w le = le
gives_least (Dec x) w le = le
gives_least (XDec x) w le = le

rest : (g w : ℕ) → w ≤ g → g ≡ w + (g - w)
rest g w le = omega (arith, le)

pub targets_balance : TargetsBalance
targets_balance counted o have want r is at few =
    let after : counts_after counted o have want r ≡ gives o (want r) - want r =
    ap (λ b. cond b (done counted o have want r - want r) 0) is
    ∙ ap (λ b. cond b (gives o (want r)) (have r + counts_before counted o have want r - takes o r) - want r) at in
    rest (gives o (want r)) (want r) (gives_least o (want r) few) ∙ ap (λ n. want r + n) (sym after)
