-- Rows of parts, from the front.
use Rattle.std.proofs.Common.{◌≡◌, List, [], ◌∷◌, ◌++◌, Option, Some, None, Result, refl, ap, sym, ◌∙◌}
use Rattle.std.proofs.lemmas.List.{append-nil, append_assoc}
use Rattle.std.specs.Option.{option_map, option_zip}
use Rattle.py_syntax.specs.declared.token.Span.{Span}
use Rattle.py_syntax_diagnostics.specs.declared.diagnostic.Diag.{Diag}
use Rattle.py_check_messages.specs.Seen.{Seen, Message, both, is, Tells, ruled, rule, behind}
use Rattle.py_check_messages.specs.Rows.{appended, kept, row_then}

-- what was typed and said so far, and what is left, are the whole
pub record Remains {A : Type 0} (front : Option (List A)) (old new : List Diag) (whole rest : Seen (List A)) : Type 0 where
  pub typed : whole.got ≡ appended front rest.got
  pub told : old ++ whole.said ≡ new ++ rest.said

step : {A : Type 0} → (front : Option (List A)) (one : Option A) (rest : Option (List A)) → appended front (option_map (λ p. p.0 ∷ p.1) (option_zip one rest)) ≡ appended (kept front one) rest
step None one rest = refl
step (Some l) None rest = refl
step (Some l) (Some a) None = refl
step (Some l) (Some a) (Some r) = ap Some (sym (append_assoc l (a ∷ []) r))

nothing_behind : {A : Type 0} → (front : Option (List A)) → appended front (Some []) ≡ front
nothing_behind None = refl
nothing_behind (Some l) = ap Some (append-nil l)

pub row_step : {A : Type 0} → (front : Option (List A)) (got : Option A) (old new newer : List Diag) (whole rest : Seen (List A)) (one : Seen A) → Remains front old new whole (row_then one rest) → got ≡ one.got → newer ≡ new ++ one.said → Remains (kept front got) old newer whole rest
row_step front got old new newer whole rest one r is said = record {
  typed = r.typed ∙ step front one.got rest.got ∙ ap (λ o. appended (kept front o) rest.got) (sym is);
  told = r.told ∙ sym (append_assoc new one.said rest.said) ∙ ap (λ l. l ++ rest.said) (sym said);
}

-- two parts and their rule, and three
pub two_parts : {A B C X Y Z : Type 0} (span : Span) (f : A × B → Result C Message) (va : X → A) (vb : Y → B) (vc : Z → C) (s : Seen A) (t : Seen B) (a : Option X) (b : Option Y) (r : Option Z) (o0 o1 o2 o3 : List Diag) → Tells va a o0 o1 s → Tells vb b o1 o2 t → Tells vc r o2 o3 (ruled span f (option_zip (option_map va a) (option_map vb b))) → Tells vc r o0 o3 (rule span f (both s t))
two_parts span f va vb vc s t a b r o0 o1 o2 o3 ta tb tr =
    let z = ap (λ x. option_zip x (option_map vb b)) ta.0 ∙ ap (λ y. option_zip s.got y) tb.0 in (
      tr.0 ∙ ap (λ q. (ruled span f q).got) z,
      tr.1
          ∙ ap (λ l. l ++ (ruled span f (option_zip (option_map va a) (option_map vb b))).said) (tb.1 ∙ ap (λ l. l ++ t.said) ta.1 ∙ append_assoc o0 s.said t.said)
          ∙ append_assoc o0 (s.said ++ t.said) (ruled span f (option_zip (option_map va a) (option_map vb b))).said
          ∙ ap (λ q. o0 ++ ((s.said ++ t.said) ++ (ruled span f q).said)) z,
    )

pub behind_parts : {A B X Y : Type 0} (f : Option A → Seen B) (va : X → A) (vb : Y → B) (s : Seen A) (a : Option X) (r : Option Y) (o0 o1 o2 : List Diag) → Tells va a o0 o1 s → Tells vb r o1 o2 (f (option_map va a)) → Tells vb r o0 o2 (behind s f)
behind_parts f va vb s a r o0 o1 o2 ta tr = (
  tr.0 ∙ ap (λ q. (f q).got) ta.0,
  tr.1 ∙ ap (λ l. l ++ (f (option_map va a)).said) ta.1 ∙ append_assoc o0 s.said (f (option_map va a)).said ∙ ap (λ q. o0 ++ (s.said ++ (f q).said)) ta.0,
)
