use Rattle.std.proofs.Common.{◌≡◌, ◌∙◌, Some, None, map, sym, ap}
use Rattle.std.specs.Str.{bytes_eq}
use Rattle.indexmap.specs.IndexMap.{get}
use Rattle.py_syntax.specs.Expressions.{expr_tree}
use Rattle.py_syntax.specs.Statements.{body_tree}
use Rattle.py_check_names.proofs.WalkLemmas.{if_ok}
use Rattle.py_check_classes.specs.declared.header.Shape.{Shape}
use Rattle.py_check_classes.specs.Names.{class_named, is_trait_mark, are_decorators}
use Rattle.py_check_classes.specs.Headers.{entry, early_fault, header}
use Rattle.py_check_classes.specs.Views.{class_parts}
use Rattle.py_check_classes.proofs.StepLemmas.{silent_header, settled_header, bare_kept, shape_below}
use Rattle.py_check_classes.proofs.headers.header_of.Goals as goal

pub returns-then-untyped : goal.returns-then-untyped
returns-then-untyped c =
    record {
      header = silent_header (get bytes_eq c.args.said.now) c.args.headers.now (class_parts c.args.c.now) c.as_slice-named.result.now
          (c.as_slice-named.ensures ∙ c.in_ok-numbers.ensures ∙ ap (λ b. map (class_named (get bytes_eq c.args.said.now)) (map expr_tree b)) c.as_slice-bases.ensures)
          c.without_type.result.header c.is_trait_mark-is_trait.result
          (c.is_trait_mark-is_trait.ensures ∙ ap (λ m. is_trait_mark (get bytes_eq c.args.said.now) (map expr_tree m)) c.as_slice-marks.ensures)
          (sym c.if-untyped.true ∙ c.has_untyped-untyped.ensures) c.without_type.ensures.header;
      order = bare_kept c.args.headers.now c.without_type.result.header c.without_type.result.order (ap (λ z. (entry z).bases) c.without_type.ensures.header) c.without_type.ensures.order;
    }

pub ordered-requires : goal.ordered-requires
ordered-requires c =
    record {
      kept = c.requires;
      below = shape_below c.args.headers.now c.is_new-new.result c.are_decorators-marked.result c.as_slice-named.result.now (record { is_trait = c.is_trait_mark-is_trait.result; bases = c.in_ok-bases.bases }) (body_tree c.as_slice-body.result.now)
          (sym c.in-None.is ∙ c.in_ok-early.ensures) c.in_ok-bases.ensures;
    }

pub returns-in-Some : goal.returns-in-Some
returns-in-Some c =
    let shape : Shape = record { is_trait = c.is_trait_mark-is_trait.result; bases = c.in_ok-bases.bases } in
    record {
      header = settled_header (get bytes_eq c.args.said.now) c.args.headers.now (class_parts c.args.c.now) c.as_slice-named.result.now
          (c.as_slice-named.ensures ∙ c.in_ok-numbers.ensures ∙ ap (λ b. map (class_named (get bytes_eq c.args.said.now)) (map expr_tree b)) c.as_slice-bases.ensures)
          shape
          (c.is_trait_mark-is_trait.ensures ∙ ap (λ m. is_trait_mark (get bytes_eq c.args.said.now) (map expr_tree m)) c.as_slice-marks.ensures)
          c.in_ok-bases.ensures
          (sym c.if-untyped.false ∙ c.has_untyped-untyped.ensures)
          c.is_new-new.result c.are_decorators-marked.result (Some c.in-Some.fault) c.without_type-in-Some.result.header
          c.is_new-new.ensures
          (c.are_decorators-marked.ensures ∙ ap (λ m. are_decorators (get bytes_eq c.args.said.now) (map expr_tree m)) c.as_slice-marks.ensures)
          (sym c.in-Some.is ∙ c.in_ok-early.ensures ∙ ap (λ b. early_fault c.args.headers.now c.is_new-new.result c.are_decorators-marked.result c.as_slice-named.result.now shape (body_tree b)) c.as_slice-body.ensures)
          c.without_type-in-Some.ensures.header;
      order = bare_kept c.args.headers.now c.without_type-in-Some.result.header c.without_type-in-Some.result.order (ap (λ z. (entry z).bases) c.without_type-in-Some.ensures.header) c.without_type-in-Some.ensures.order;
    }

pub returns : goal.returns
returns c =
    let shape : Shape = record { is_trait = c.is_trait_mark-is_trait.result; bases = c.in_ok-bases.bases } in
    record {
      header = if_ok c.ordered.result _ (λ found. found.header ≡ header (get bytes_eq c.args.said.now) c.args.headers.now (class_parts c.args.c.now))
          (λ found e. settled_header (get bytes_eq c.args.said.now) c.args.headers.now (class_parts c.args.c.now) c.as_slice-named.result.now
          (c.as_slice-named.ensures ∙ c.in_ok-numbers.ensures ∙ ap (λ b. map (class_named (get bytes_eq c.args.said.now)) (map expr_tree b)) c.as_slice-bases.ensures)
          shape
          (c.is_trait_mark-is_trait.ensures ∙ ap (λ m. is_trait_mark (get bytes_eq c.args.said.now) (map expr_tree m)) c.as_slice-marks.ensures)
          c.in_ok-bases.ensures
          (sym c.if-untyped.false ∙ c.has_untyped-untyped.ensures)
          c.is_new-new.result c.are_decorators-marked.result None found.header
          c.is_new-new.ensures
          (c.are_decorators-marked.ensures ∙ ap (λ m. are_decorators (get bytes_eq c.args.said.now) (map expr_tree m)) c.as_slice-marks.ensures)
          (sym c.in-None.is ∙ c.in_ok-early.ensures ∙ ap (λ b. early_fault c.args.headers.now c.is_new-new.result c.are_decorators-marked.result c.as_slice-named.result.now shape (body_tree b)) c.as_slice-body.ensures)
          e)
          c.ordered.ensures.header;
      order = c.ordered.ensures.order;
    }
