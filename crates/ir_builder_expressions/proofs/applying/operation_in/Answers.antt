use Rattle.ir_builder_expressions.proofs.Common.{refl, typed_node-Neg, typed_node-Not, typed_node-Truth, typed_node-Arith, typed_node-Coerce, typed_node-Concat, typed_node-At, typed_node-Len, typed_node-ToStr, Negated, Inverted, Tested, Counted, Written, Coerced, Popped, Part, Arithmetic, Joined, Appended}
use Rattle.py_typed.proofs.ExpressionLemmas.{typed_node-Pop, typed_node-TupleAt, typed_node-Append}
use Rattle.ir_builder_expressions.proofs.FoundLemmas.{one_found, two_found, index_found, absence_found, absence_missing}
use Rattle.ir_builder_expressions.proofs.UnsuitedLemmas.{none_left}
use Rattle.ir_builder_expressions.proofs.ArmLemmas.{is_node, is_compare}
use Rattle.ir_builder_expressions.proofs.AbsenceLemmas.{absence_as}
use Rattle.ir_builder_expressions.proofs.applying.operation_in.Goals as goal

pub returns-in-Neg : goal.returns-in-Neg
returns-in-Neg c = one_found c.args.e.now Negated _ _ _ (is_node c.args.e.now _ _ (typed_node-Neg c.in-Neg.x) c.in-Neg.is) refl c.deref.ensures

pub returns-in-Not : goal.returns-in-Not
returns-in-Not c = one_found c.args.e.now Inverted _ _ _ (is_node c.args.e.now _ _ (typed_node-Not c.in-Not.x) c.in-Not.is) refl c.deref-in-Not.ensures

pub returns-in-Truth : goal.returns-in-Truth
returns-in-Truth c = one_found c.args.e.now Tested _ _ _ (is_node c.args.e.now _ _ (typed_node-Truth c.in-Truth.x) c.in-Truth.is) refl c.deref-in-Truth.ensures

pub returns-in-Len : goal.returns-in-Len
returns-in-Len c = one_found c.args.e.now Counted _ _ _ (is_node c.args.e.now _ _ (typed_node-Len c.in-Len.x) c.in-Len.is) refl c.deref-in-Len.ensures

pub returns-in-ToStr : goal.returns-in-ToStr
returns-in-ToStr c = one_found c.args.e.now Written _ _ _ (is_node c.args.e.now _ _ (typed_node-ToStr c.in-ToStr.x) c.in-ToStr.is) refl c.deref-in-ToStr.ensures

pub returns-in-Coerce : goal.returns-in-Coerce
returns-in-Coerce c = one_found c.args.e.now Coerced _ _ _ (is_node c.args.e.now _ _ (typed_node-Coerce c.in-Coerce.x) c.in-Coerce.is) refl c.deref-in-Coerce.ensures

pub returns-in-Pop : goal.returns-in-Pop
returns-in-Pop c = one_found c.args.e.now Popped _ _ _ (is_node c.args.e.now _ _ (typed_node-Pop c.in-Pop.x) c.in-Pop.is) refl c.deref-in-Pop.ensures

pub returns-in-TupleAt : goal.returns-in-TupleAt
returns-in-TupleAt c = one_found c.args.e.now (Part c.in-TupleAt.i) _ _ _ (is_node c.args.e.now _ _ (typed_node-TupleAt c.in-TupleAt.x c.in-TupleAt.i) c.in-TupleAt.is) refl c.deref-in-TupleAt.ensures

pub returns-in-Arith : goal.returns-in-Arith
returns-in-Arith c = two_found c.args.e.now (Arithmetic c.in-Arith.op) _ _ _ _ _ (is_node c.args.e.now _ _ (typed_node-Arith c.in-Arith.op c.in-Arith.x c.in-Arith.y) c.in-Arith.is) refl c.deref-in-Arith.ensures c.deref-in-Arith-2.ensures

pub returns-in-Concat : goal.returns-in-Concat
returns-in-Concat c = two_found c.args.e.now Joined _ _ _ _ _ (is_node c.args.e.now _ _ (typed_node-Concat c.in-Concat.x c.in-Concat.y) c.in-Concat.is) refl c.deref-in-Concat.ensures c.deref-in-Concat-2.ensures

pub returns-in-At : goal.returns-in-At
returns-in-At c = index_found c.args.e.now _ _ _ _ _ _ (is_node c.args.e.now _ _ (typed_node-At c.in-At.x c.in-At.y) c.in-At.is) c.indexed.ensures c.deref-in-At.ensures c.deref-in-At-2.ensures c.deref-in-At-3.ensures

pub returns-in-Append : goal.returns-in-Append
returns-in-Append c = two_found c.args.e.now Appended _ _ _ _ _ (is_node c.args.e.now _ _ (typed_node-Append c.in-Append.x c.in-Append.y) c.in-Append.is) refl c.deref-in-Append.ensures c.deref-in-Append-2.ensures

pub returns-in-Some : goal.returns-in-Some
returns-in-Some c =
    let e = c.args.e.now in
    let at = absence_as _ _ _ _ _ c.as_slice.ensures refl c.absence_in.ensures c.in-Some.is in
    absence_found e c.in-Some.op _ _ _ (is_compare e c.in-Compare.x c.in-Compare.rest c.in-Compare.rest _ c.in-Compare.is refl refl) at c.deref-in-Some.ensures

pub unreachable-requires : goal.unreachable-requires
unreachable-requires c =
    let e = c.args.e.now in
    let at = absence_as _ _ _ _ _ c.as_slice.ensures refl c.absence_in.ensures c.in-None.is in
    absence_missing e _ _ (is_compare e c.in-Compare.x c.in-Compare.rest c.in-Compare.rest _ c.in-Compare.is refl refl) at c.requires

pub unreachable-requires-in_default : goal.unreachable-requires-in_default
unreachable-requires-in_default c =
    let d = c.in_default in
    none_left c.args.e.now c.requires d.not-Neg d.not-Not d.not-Truth d.not-Arith d.not-Concat d.not-At d.not-Len d.not-ToStr d.not-Coerce d.not-Pop d.not-TupleAt d.not-Append d.not-Compare
