-- Entries of dicts, one by one from the front, and from the back.
use Rattle.std.proofs.Common.{◌≡◌, List, [], ◌∷◌, ◌++◌, map, reverse, refl, ap, sym, ◌∙◌}
use Rattle.std.proofs.lemmas.List.{append_assoc, map-append, reverse-append}
use Rattle.py_typed.specs.declared.expression.TExpr.{TExpr}
use Rattle.py_typed.specs.Expressions.{TypedExpr, typed_entry}

pub ruleset rows = (map-append)

-- ---- all of them changed

module _ (f : TypedExpr × TypedExpr → TypedExpr × TypedExpr) where
  pub changed_step : (all less back more : List (TExpr × TExpr)) (e made : TExpr × TExpr) (whole : List (TypedExpr × TypedExpr)) → all ≡ less ++ e ∷ [] → more ≡ back ++ made ∷ [] → typed_entry made ≡ f (typed_entry e) → whole ≡ map f (map typed_entry all) ++ reverse (map typed_entry back) → whole ≡ map f (map typed_entry less) ++ reverse (map typed_entry more)
  changed_step all less back more e made whole popped pushed is h =
      h
      ∙ ap (λ l. map f (map typed_entry l) ++ reverse (map typed_entry back)) popped
      ∙ ap (λ l. map f l ++ reverse (map typed_entry back)) (map-append typed_entry less (e ∷ []))
      ∙ ap (λ l. l ++ reverse (map typed_entry back)) (map-append f (map typed_entry less) (typed_entry e ∷ []))
      ∙ ap (λ x. (map f (map typed_entry less) ++ x ∷ []) ++ reverse (map typed_entry back)) (sym is)
      ∙ append_assoc (map f (map typed_entry less)) (typed_entry made ∷ []) (reverse (map typed_entry back))
      ∙ ap (λ l. map f (map typed_entry less) ++ l) (sym (reverse-append (map typed_entry back) (typed_entry made ∷ [])) ∙ ap reverse (sym (map-append typed_entry back (made ∷ [])) ∙ ap (map typed_entry) (sym pushed)))

  map_reverse : (es : List (TExpr × TExpr)) → map typed_entry (reverse es) ≡ reverse (map typed_entry es)
  map_reverse [] = refl
  map_reverse (e ∷ es) =
      ap (map typed_entry) (reverse-append (e ∷ []) es) ∙ map-append typed_entry (reverse es) (e ∷ []) ∙ ap (λ l. l ++ typed_entry e ∷ []) (map_reverse es)
      ∙ sym (reverse-append (typed_entry e ∷ []) (map typed_entry es))

  pub changed_end : (rest back all : List (TExpr × TExpr)) (whole : List (TypedExpr × TypedExpr)) → rest ≡ [] → all ≡ reverse back → whole ≡ map f (map typed_entry rest) ++ reverse (map typed_entry back) → map typed_entry all ≡ whole
  changed_end rest back all whole none is h =
      sym (h ∙ ap (λ l. map f (map typed_entry l) ++ reverse (map typed_entry back)) none ∙ sym (map_reverse back) ∙ ap (map typed_entry) (sym is))
