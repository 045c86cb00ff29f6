use Rattle.std.proofs.Common.{◌∙◌, ◌<◌, ◌≤◌, ◌++◌, ◌∷◌, [], map, sym, ap, length, arith}
use Rattle.py_check_classes.specs.declared.header.Header.TheVariants.{Typed}
use Rattle.py_check_classes.specs.Headers.{entry}
use Rattle.py_check_classes.specs.Kept.{kept_order}
use Rattle.py_check_classes.proofs.HeaderLemmas.{few_kept, many_kept}
use Rattle.py_check_classes.proofs.StepLemmas.{ordered_few, ordered_some, ordered_none, bare_kept}
use Rattle.py_check_classes.proofs.headers.ordered.Goals as goal

pub returns-then-count-lt2 : goal.returns-then-count-lt2
returns-then-count-lt2 c =
    let few : length c.args.shape.bases < 2 = omega (arith, c.len-count.ensures, c.if-count-lt2.true) in
    record {
      header = c.without_order.ensures.header ∙ ordered_few c.args.headers.now c.args.orders.now c.requires.kept c.args.shape c.requires.below few;
      order = c.without_order.ensures.order ∙ few_kept c.args.headers.now (entry (Typed c.args.shape)) few ∙ ap (λ z. kept_order (map entry c.args.headers.now ++ entry z ∷ []) (length c.args.headers.now)) (sym c.without_order.ensures.header);
    }

pub returns-in-Some : goal.returns-in-Some
returns-in-Some c =
    let many : 2 ≤ length c.args.shape.bases = omega (arith, c.len-count.ensures, c.if-count-lt2.false) in
    record {
      header = ordered_some c.args.headers.now c.args.shape c.in-Some.order (sym c.in-Some.is ∙ c.in_ok-order.ensures);
      order = many_kept c.args.headers.now (entry (Typed c.args.shape)) c.in-Some.order many (sym c.in-Some.is ∙ c.in_ok-order.ensures);
    }

pub returns-in-None : goal.returns-in-None
returns-in-None c =
    record {
      header = c.without_type.ensures.header ∙ ordered_none c.args.headers.now c.args.shape (sym c.in-None.is ∙ c.in_ok-order.ensures);
      order = bare_kept c.args.headers.now c.without_type.result.header c.without_type.result.order (ap (λ z. (entry z).bases) c.without_type.ensures.header) c.without_type.ensures.order;
    }
