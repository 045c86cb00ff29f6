-- What the parts of statements do makes what they do.
use Rattle.ir_builder_statements.proofs.Common.{◌≡◌, List, [], map, length, Option, Some, None, sym, subst, Result, Ok, Err, OnOk, TExpr, TStmt, Sort, TypedExpr, typed_expr, type_of, Variable, TypedModule, TypedStmt, typed_stmt, typed_suite, maybe_typed, Target, typed_target, typed_stmt-While, Goto, Building, Extends, Setting, rtype_of, HasType, Closes, HasRoom, Surrounding, IsOf, type_kept, Exit, means_loop, means_statement, means_return, returned_type, LoopStart, Works, Emitted, return_emitted, while_begins, TestSuits, ReturnSuits, GivesResult, Bool, BoolType, Test, SplitsBy, Begins, NothingBetween, ◌<◌, ◌≤◌, ℕ, arith, le_refl, If, Reg, with_last, Open, patches, OpenIn, stays_by, stays_patch_below, open_on, refl, NoneVal, Ref, Return, PyNone, Lit, Holds, Adds, Shows, made_computes, Emits, means_returned, leaves_none, return_works, ComputesReturned}
use Rattle.py_typed.specs.declared.statement.TStmtKind as kind
use Rattle.py_typed.specs.Sorts as sort
use Rattle.ir_builder_loops_and_jumps.specs.Means.{means_range, means_list}
use Rattle.ir_builder_statements.specs.declared.counting.Begun.{Begun}
use Rattle.ir_builder_statements.specs.Counting.{StepsOn}
use Rattle.ir_builder_statements.proofs.SuiteLemmas.{typed_stmt-ForRange, typed_stmt-ForList}
use Rattle.ir_builder_frames.proofs.StepLemmas.{literal_makes}

pub on_ok_both : {A E : Type 0} (res : Result A E) (P Q R : Type 0) → (P → Q → R) → OnOk res P → OnOk res Q → OnOk res R
on_ok_both (Ok a) P Q R f p q = f p q
on_ok_both (Err e) P Q R f p q = tt

-- ---- simple statements

pub none_returned : {line : ℕ} (x : Setting) (o : Option TExpr) (b c : Building) (r : Reg) → o ≡ None → Adds b c r.0 Ref (Lit r PyNone) line → ComputesReturned x (maybe_typed o) b c r.0
none_returned x o b c r is a =
    let P : Option TExpr → Type 0 = λ z. ComputesReturned x (maybe_typed z) b c r.0 in
    subst P (sym is)
    (made_computes x (Shows sort.Nothing) Ref (means_returned x None) _ b c r.0 (literal_makes b c r.0 Ref PyNone (Holds NoneVal) a refl) (λ n s regs. (NoneVal, Holds NoneVal, refl, refl, (refl, refl))))

pub value_returned : (x : Setting) (o : Option TExpr) (e : TExpr) (b c : Building) (r : Reg) → o ≡ Some e → Emits x (typed_expr e) b c r.0 → ComputesReturned x (maybe_typed o) b c r.0
value_returned x o e b c r is q =
    let P : Option TExpr → Type 0 = λ z. ComputesReturned x (maybe_typed z) b c r.0 in subst P (sym is) q

pub return_code : (x : Setting) (o : Option TypedExpr) (b0 b1 b2 : Building) (r : Reg) → x.frame.ret ≡ None → HasRoom x b0 → ComputesReturned x o b0 b1 r.0 → Closes b1 b2 (Return r) → Works x (Some (returned_type o)) (means_return x o) b0 b2 []
return_code x o b0 b1 b2 r alone room cx q =
    return_works x (returned_type o) (means_returned x o) b0 b1 b2 r.0 [] room cx (leaves_none x r.0 (rtype_of (returned_type o)) b1 b2 alone cx.type q)

-- what a return asks of the function's result
given_as : (m : TypedModule) (vs : List Variable) (gives : Option Sort) (o : Option TypedExpr) → ReturnSuits m vs gives o → gives ≡ Some (returned_type o)
given_as m vs gives None h = h
given_as m vs gives (Some e) h = h.0

pub return_made : (x : Setting) (gives : Option Sort) (looping : Bool) (s : TStmt) (o : Option TExpr) (b0 b1 : Building) (xs : List Exit) → s.kind ≡ kind.Return o → ReturnSuits x.source x.variables gives (maybe_typed o) → Works x (Some (returned_type (maybe_typed o))) (means_return x (maybe_typed o)) b0 b1 [] → Emitted x gives looping (means_statement x (typed_stmt s)) b0 b1 xs xs
return_made x gives looping s o b0 b1 xs is suits w =
    let P : Option Sort → Type 0 = λ g. Works x g (means_return x (maybe_typed o)) b0 b1 [] in
    return_emitted x gives looping s o b0 b1 xs is (subst P (sym (given_as x.source x.variables gives (maybe_typed o) suits)) w)

-- so the result is of the type of what is returned
pub returns_given : (m : TypedModule) (vs : List Variable) (gives : Option Sort) (o : Option TypedExpr) (g : Surrounding) → ReturnSuits m vs gives o → GivesResult gives g → GivesResult (Some (returned_type o)) g
returns_given m vs gives o g suits h = let P : Option Sort → Type 0 = λ z. GivesResult z g in subst P (given_as m vs gives o suits) h

-- the result stays what it is
pub gives_on : (gives : Option Sort) (b c : Building) → Extends b c → GivesResult gives b.among → GivesResult gives c.among
gives_on gives b c more h = subst (GivesResult gives) (sym more.among) h

-- ---- tests

pub condition_type : (x : Setting) (gives : Option Sort) (e : TypedExpr) (b1 b2 b3 : Building) (t : Test) → TestSuits x.source x.variables gives e → SplitsBy x e b1 b2 t → Extends b2 b3 → IsOf b3.regs t.condition BoolType
condition_type x gives e b1 b2 b3 t suits sp more =
    let P : Sort → Type 0 = λ z. HasType sp.middle t.condition.0 (rtype_of z) in
    type_kept b2 b3 t.condition.0 BoolType more (type_kept sp.middle b2 t.condition.0 BoolType sp.closes.extends (subst P suits.0 sp.answered.type))

-- ---- loops

pub while_begun : (x : Setting) (s : TStmt) (e : TExpr) (ss : List TStmt) (b0 b1 b3 : Building) (o : LoopStart) → s.kind ≡ kind.While e ss → HasRoom x b0 → type_of (typed_expr e) ≡ sort.Bool → o.head ≡ length b1.blocks → Closes b0 b1 (Goto o.head) → SplitsBy x (typed_expr e) b1 b3 o.test → Begins x NothingBetween (means_loop x (typed_stmt s)) b0 b3 o
while_begun x s e ss b0 b1 b3 o is room bool is_head c1 sp =
    let P : TypedStmt → Type 0 = λ z. Begins x NothingBetween (means_loop x z) b0 b3 o in
    subst P (sym (typed_stmt-While s e ss is)) (while_begins x (typed_expr e) (typed_suite ss) s.line b0 b1 b3 o room bool is_head c1 sp)

-- and a `for` over a range
pub range_loop : (x : Setting) (s : TStmt) (ts all : List Target) (a : Option TExpr) (e : TExpr) (ss : List TStmt) (b0 b3 : Building) (o : Begun) → s.kind ≡ kind.ForRange all a e ss → ts ≡ all → Begins x (StepsOn o.counter) (means_range x (map typed_target ts) (maybe_typed a) (typed_expr e)) b0 b3 o.start → Begins x (StepsOn o.counter) (means_loop x (typed_stmt s)) b0 b3 o.start
range_loop x s ts all a e ss b0 b3 o is same g =
    let P : TypedStmt → Type 0 = λ z. Begins x (StepsOn o.counter) (means_loop x z) b0 b3 o.start in
    let Q : List Target → Type 0 = λ z. Begins x (StepsOn o.counter) (means_range x (map typed_target z) (maybe_typed a) (typed_expr e)) b0 b3 o.start in
    subst P (sym (typed_stmt-ForRange s all a e ss is)) (subst Q same g)

-- and one over a list
pub list_loop : (x : Setting) (s : TStmt) (ts all : List Target) (e : TExpr) (ss : List TStmt) (b0 b3 : Building) (o : Begun) → s.kind ≡ kind.ForList all e ss → ts ≡ all → Begins x (StepsOn o.counter) (means_list x (map typed_target ts) (typed_expr e)) b0 b3 o.start → Begins x (StepsOn o.counter) (means_loop x (typed_stmt s)) b0 b3 o.start
list_loop x s ts all e ss b0 b3 o is same g =
    let P : TypedStmt → Type 0 = λ z. Begins x (StepsOn o.counter) (means_loop x z) b0 b3 o.start in
    let Q : List Target → Type 0 = λ z. Begins x (StepsOn o.counter) (means_list x (map typed_target z) (typed_expr e)) b0 b3 o.start in
    subst P (sym (typed_stmt-ForList s all e ss is)) (subst Q same g)

-- ---- what is open stays so, while the parts of `if` and `while` end

pub open_kept : (b c : Building) (from to : ℕ) (es : List Exit) → Extends b c → to ≤ length b.blocks → OpenIn b from to es → OpenIn c from (length c.blocks) es
open_kept b c from to es x le o =
    let more = x.blocks_grow in
    open_on b c from to from (length c.blocks) es (stays_by b c from to x) (le_refl from) (omega arith) o

-- a test before all of them was written
pub open_tested : (b c : Building) (k from start exit : ℕ) (r : Reg) (es : List Exit) → k < from → Open b k → c ≡ record b { blocks = with_last b.blocks k (If r start exit) } → OpenIn b from (length b.blocks) es → OpenIn c from (length c.blocks) es
open_tested b c k from start exit r es lt o is h =
    let p = patches b c k (If r start exit) o (λ z. cc) is in
    let n = p.blocks in
    open_on b c from (length b.blocks) from (length c.blocks) es (stays_patch_below b c from (length b.blocks) k (If r start exit) lt p) (le_refl from) (omega arith) h

pub still_open : (b c : Building) (k : ℕ) → Extends b c → Open b k → Open c k
still_open b c k x o = record { place = o.place; is = x.items k o.place _ o.is }
