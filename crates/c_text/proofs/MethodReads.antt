-- What reading the parts of a method's call finds.
use Rattle.std.proofs.Common.{◌≡◌, ◌≢◌, ◌∙◌, ℕ, List, [], ◌∷◌, ◌++◌, IsTrue, refl, sym, ap, arith, append_assoc, append-nil}
use Rattle.std.specs.Prelude.{codes}
use Rattle.std.specs.Fmt.{decimal}
use Rattle.std.specs.List.{list_all}
use Rattle.std.proofs.lemmas.Grind.{flat_map-append}
use Rattle.std.proofs.lemmas.List.{append_cancel_left}
use Rattle.std.proofs.lemmas.List.Folds.{list_all-append}
use Rattle.c_core.specs.declared.code.Line.TheVariants.{Virtual, TraitCall}
use Rattle.c_core.specs.Text.{comma, statement_text, type_text, var_text}
use Rattle.c_core.specs.WellFormed.{Declared, is_declared, is_identifier}
use Rattle.c_text.specs.Methods.{VariablesRemain, method_behind, next_variable, others_text}
use Rattle.c_text.specs.Statements.{AreNamed}
use Rattle.c_text.specs.Words.{EndsArgument, HasNo}
use Rattle.c_text.proofs.Bytes.{HasNo-identifier, and_true, comma_stops}
use Rattle.c_text.proofs.ArgumentLemmas.{HasNo-variable}
use Rattle.c_text.proofs.MethodTexts.{for_trait_alike, others_end, virtual_alike}
use Rattle.c_text.proofs.Numbers.{HasNo-decimal}

-- what stands before a comma, and the rest
abbrev pub FindsWord : List ℕ → List ℕ → List ℕ → Type 0
FindsWord text word after = (front rest : List ℕ) → HasNo 44 front → EndsArgument rest → front ++ rest ≡ text → (word ≡ front) × (after ≡ rest)

-- one variable more
pub variables_turn : {vars : List Declared} {read all left : List ℕ} (place : ℕ) (word after next new : List ℕ) → AreNamed vars → IsTrue (list_all (is_declared vars) all) → VariablesRemain vars read all left → left ≡ codes ", " ++ next → FindsWord next word after → var_text vars place ≡ word → new ≡ read ++ place ∷ [] → VariablesRemain vars new all after
variables_turn {vars} {read} {all} {left} place word after next new names h r begins finds is pushed = turn r.more r.whole r.written
  where
    turn : (more : List ℕ) → r.front ++ more ≡ all → others_text vars more ≡ left → VariablesRemain vars new all after
    turn [] whole written = let none : [] ≡ 44 ∷ 32 ∷ next = written ∙ begins in absurd (cc)
    turn (x ∷ more) whole written =
        let parts = and_true (list_all (is_declared vars) r.front) (list_all (is_declared vars) (x ∷ more)) (sym (list_all-append (is_declared vars) r.front (x ∷ more)) ∙ ap (list_all (is_declared vars)) whole ∙ h) in
        let one = (and_true (is_declared vars x) _ parts.1).0 in
        let f = finds (var_text vars x) (others_text vars more) (HasNo-variable 44 vars x (omega arith) comma_stops refl names one) (others_end vars more) (append_cancel_left comma (var_text vars x ++ others_text vars more) next (written ∙ begins)) in
        record {
          front = r.front ++ x ∷ [];
          more = more;
          whole = append_assoc r.front (x ∷ []) more ∙ whole;
          same = flat_map-append (next_variable vars) r.front (x ∷ []) ∙ ap (λ t. t ++ (next_variable vars x ++ [])) r.same ∙ ap (λ t. others_text vars read ++ ((comma ++ t) ++ [])) (sym f.0 ∙ sym is)
              ∙ sym (flat_map-append (next_variable vars) read (place ∷ [])) ∙ ap (others_text vars) (sym pushed);
          written = sym f.1;
        }

-- no word is a variable, or none follows
pub no_variable_next : {vars : List Declared} {read all left : List ℕ} (word after next : List ℕ) → AreNamed vars → IsTrue (list_all (is_declared vars) all) → VariablesRemain vars read all left → left ≡ codes ", " ++ next → FindsWord next word after → ((x : ℕ) → IsTrue (is_declared vars x) → var_text vars x ≢ word) → ⊥
no_variable_next {vars} {read} {all} {left} word after next names h r begins finds none = turn r.more r.whole r.written
  where
    turn : (more : List ℕ) → r.front ++ more ≡ all → others_text vars more ≡ left → ⊥
    turn [] whole written = let no : [] ≡ 44 ∷ 32 ∷ next = written ∙ begins in cc
    turn (x ∷ more) whole written =
        let parts = and_true (list_all (is_declared vars) r.front) (list_all (is_declared vars) (x ∷ more)) (sym (list_all-append (is_declared vars) r.front (x ∷ more)) ∙ ap (list_all (is_declared vars)) whole ∙ h) in
        let one = (and_true (is_declared vars x) _ parts.1).0 in
        none x one (sym (finds (var_text vars x) (others_text vars more) (HasNo-variable 44 vars x (omega arith) comma_stops refl names one) (others_end vars more) (append_cancel_left comma (var_text vars x ++ others_text vars more) next (written ∙ begins))).0)

pub variables_end : {vars : List Declared} {read all left : List ℕ} → VariablesRemain vars read all left → ((r : List ℕ) → left ≢ codes ", " ++ r) → others_text vars all ≡ others_text vars read
variables_end {vars} {read} {all} {left} r over = end r.more r.whole r.written
  where
    end : (more : List ℕ) → r.front ++ more ≡ all → others_text vars more ≡ left → others_text vars all ≡ others_text vars read
    end [] whole written = ap (others_text vars) (sym whole ∙ append-nil r.front) ∙ r.same
    end (x ∷ more) whole written = absurd (over (var_text vars x ++ others_text vars more) (sym written))

-- the place of a method, and the variables behind it
pub method_inside : (vars : List Declared) (n : ℕ) (args text inside digits rest : List ℕ) → method_behind vars (n, args) ≡ text → text ≡ codes ", " ++ inside → FindsWord inside digits rest → (digits ≡ decimal n) × (rest ≡ others_text vars args)
method_inside vars n args text inside digits rest e f finds =
    finds (decimal n) (others_text vars args) (HasNo-decimal 44 n (λ r. omega (arith, r.0))) (others_end vars args) (append_cancel_left comma _ _ (e ∙ f))

pub method_alike : (vars : List Declared) (n m : ℕ) (args more : List ℕ) → n ≡ m → others_text vars args ≡ others_text vars more → method_behind vars (n, args) ≡ method_behind vars (m, more)
method_alike vars n m args more p q = ap (λ z. comma ++ (decimal z ++ others_text vars args)) p ∙ ap (λ t. comma ++ (decimal m ++ t)) q

-- the statements, of which the parts were found
pub virtual_found : (vars : List Declared) (place o p n m : ℕ) (args more : List ℕ) → var_text vars o ≡ var_text vars p → method_behind vars (n, args) ≡ method_behind vars (m, more) → statement_text vars (Virtual place o n args) ≡ statement_text vars (Virtual place p m more)
virtual_found vars place o p n m args more e f =
    virtual_alike vars place place o p n m args more refl (ap (λ t. t ++ method_behind vars (n, args)) e ∙ ap (λ t. var_text vars p ++ t) f)

pub for_trait_inside : (vars : List Declared) (t : List ℕ) (n : ℕ) (args after text word rest : List ℕ) → IsTrue (is_identifier t) → after ≡ comma ++ (type_text t ++ method_behind vars (n, args)) → after ≡ codes ", CPyType_" ++ text → FindsWord text word rest → (word ≡ t) × (rest ≡ method_behind vars (n, args))
for_trait_inside vars t n args after text word rest h e f finds =
    finds t (method_behind vars (n, args)) (HasNo-identifier 44 t (omega arith) comma_stops h) refl (append_cancel_left (codes ", CPyType_") _ _ (sym e ∙ f))

pub for_trait_found : (vars : List Declared) (place o p : ℕ) (t u : List ℕ) (n m : ℕ) (args more : List ℕ) → var_text vars o ≡ var_text vars p → t ≡ u → method_behind vars (n, args) ≡ method_behind vars (m, more) → statement_text vars (TraitCall place o t n args) ≡ statement_text vars (TraitCall place p u m more)
for_trait_found vars place o p t u n m args more e f g =
    for_trait_alike vars place place o p t u n m args more refl (ap (λ z. z ++ (comma ++ (type_text t ++ method_behind vars (n, args)))) e ∙ ap (λ z. var_text vars p ++ (comma ++ (type_text z ++ method_behind vars (n, args)))) f ∙ ap (λ z. var_text vars p ++ (comma ++ (type_text u ++ z))) g)
