-- Expressions alone, and `print`, do in their code what they mean.
use Rattle.ir_builder_statements.proofs.Common.{◌≡◌, ℕ, true, List, [], ◌∷◌, map, Option, None, refl, sym, ap, ◌∙◌, subst, TExpr, Sort, TypedExpr, typed_expr, type_of, exprs_of, Variable, TypedModule, line_of, typed_node-Print, Reg, Building, Setting, rtype_of, HasRoom, means, Shows, is_written, SomeSuit, Emits, EmitsAll, means_all, means_alone, Writes, printed, Works, alone_works, works_of, PrintSuits, DoSuits, Is, is_node}
use Rattle.std.specs.List.{list_all}
use Rattle.py_typed.specs.declared.expression.TKind as kind
use Rattle.py_typed.specs.Sorts.{sort as sort_of}
use Rattle.py_typed.specs.Expressions as tree
use Rattle.ir_builder_loops_and_jumps.proofs.PrintLemmas.{print_works}
use Rattle.ir_builder_expressions.proofs.ChosenLemmas.{simple_written}

-- ---- `print`

pub print_is : (e : TExpr) (es all : List TExpr) → e.kind ≡ kind.Print all → es ≡ all → Is e (tree.Print (exprs_of (map typed_expr es)))
print_is e es all is same = is_node e _ _ (typed_node-Print all ∙ ap (λ l. tree.Print (exprs_of (map typed_expr l))) (sym same)) is

module _ (m : TypedModule) (vs : List Variable) where
  values_suit : (es : List TypedExpr) → PrintSuits m vs None (exprs_of es) → SomeSuit m vs es
  values_suit [] h = tt
  values_suit (e ∷ es) h = (h.1, values_suit es h.2)

  printed_texts : (es : List TypedExpr) → PrintSuits m vs None (exprs_of es) → list_all is_written (map type_of es) ≡ true
  printed_texts [] h = refl
  printed_texts (e ∷ es) h =
      let one = simple_written (type_of e) h.0 in
      let more = printed_texts es h.2 in
      rw (one, more) refl

  pub print_suits : (e : TExpr) (es all : List TExpr) → e.kind ≡ kind.Print all → es ≡ all → DoSuits m vs None (typed_expr e) → SomeSuit m vs (map typed_expr es) × (list_all is_written (map type_of (map typed_expr es)) ≡ true)
  print_suits e es all is same h =
      let P : TypedExpr → Type 0 = λ z. DoSuits m vs None z in
      let k : PrintSuits m vs None (exprs_of (map typed_expr es)) = subst P (print_is e es all is same) h in
      (values_suit (map typed_expr es) k, printed_texts (map typed_expr es) k)

pub print_alone : (x : Setting) (e : TExpr) (es all : List TExpr) (b0 b1 b2 : Building) (rs : List Reg) → e.kind ≡ kind.Print all → es ≡ all → HasRoom x b0 → EmitsAll x (map type_of (map typed_expr es)) (exprs_of (map typed_expr es)) b0 b1 rs → Writes (map type_of (map typed_expr es)) rs b1 b2 line_of → (gives : Option Sort) → Works x gives (means_alone x (typed_expr e)) b0 b2 []
print_alone x e es all b0 b1 b2 rs is same room c w gives =
    works_of x gives (means_alone x (typed_expr e)) (printed x.source (sort_of e.ty) (means_all x (exprs_of (map typed_expr es)))) b0 b2 [] (λ n s. ap (λ t. means_alone x t n s) (print_is e es all is same))
    (print_works x gives (sort_of e.ty) (map type_of (map typed_expr es)) (means_all x (exprs_of (map typed_expr es))) b0 b1 b2 rs room c w)

-- ---- an expression alone

pub value_alone : (x : Setting) (e : TypedExpr) (b0 b1 : Building) (r : ℕ) → HasRoom x b0 → Emits x e b0 b1 r → (gives : Option Sort) → Works x gives (means_alone x e) b0 b1 []
value_alone x e b0 b1 r room q gives = alone_works x gives (Shows (type_of e)) (rtype_of (type_of e)) (means x e) b0 b1 r room q
