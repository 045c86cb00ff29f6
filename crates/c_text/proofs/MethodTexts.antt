-- The texts of calls of methods.
use Rattle.std.proofs.Common.{◌≡◌, ◌∙◌, ℕ, List, [], ◌∷◌, ◌++◌, IsTrue, refl, sym, ap, arith, append_assoc, append-nil}
use Rattle.std.specs.Prelude.{codes, map}
use Rattle.std.specs.Fmt.{decimal}
use Rattle.std.specs.List.{list_all}
use Rattle.c_core.specs.declared.code.Line.TheVariants.{Virtual, TraitCall}
use Rattle.c_core.specs.Text.{call_text, comma, joined, statement_text, type_text, var_text}
use Rattle.c_core.specs.WellFormed.{Declared, is_declared, is_identifier}
use Rattle.c_text.specs.Methods.{for_trait_text, method_behind, next_variable, others_text, virtual_text}
use Rattle.c_text.specs.Statements.{AreNamed, assignment_text}
use Rattle.c_text.specs.Words.{EndsArgument, HasNo, bracketed}
use Rattle.c_text.proofs.Bytes.{HasNo-append, HasNo-identifier, and_true, line_feed_stops}
use Rattle.c_text.proofs.ArgumentLemmas.{HasNo-variable}
use Rattle.c_text.proofs.Numbers.{HasNo-decimal}

-- ---- by their parts

joined_behind : (vars : List Declared) (t : List ℕ) (args : List ℕ) → joined comma (t ∷ map (var_text vars) args) ≡ t ++ others_text vars args
joined_behind vars t [] = sym (append-nil t)
joined_behind vars t (x ∷ args) = ap (λ r. t ++ (comma ++ r)) (joined_behind vars (var_text vars x) args)

pub virtual_is : (vars : List Declared) (x o n : ℕ) (args : List ℕ) → statement_text vars (Virtual x o n args) ≡ assignment_text vars x (bracketed (codes "CPyVirtual") (virtual_text vars o n args))
virtual_is vars x o n args =
    append_assoc (var_text vars x) (codes " = ") (call_text (codes "CPyVirtual") (var_text vars o ∷ decimal n ∷ map (var_text vars) args))
    ∙ ap (λ r. assignment_text vars x (bracketed (codes "CPyVirtual") (var_text vars o ++ (comma ++ r)))) (joined_behind vars (decimal n) args)

pub for_trait_is : (vars : List Declared) (x o : ℕ) (t : List ℕ) (n : ℕ) (args : List ℕ) → statement_text vars (TraitCall x o t n args) ≡ assignment_text vars x (bracketed (codes "CPyTrait") (for_trait_text vars o t n args))
for_trait_is vars x o t n args =
    append_assoc (var_text vars x) (codes " = ") (call_text (codes "CPyTrait") (var_text vars o ∷ type_text t ∷ decimal n ∷ map (var_text vars) args))
    ∙ ap (λ r. assignment_text vars x (bracketed (codes "CPyTrait") (var_text vars o ++ (comma ++ (type_text t ++ (comma ++ r)))))) (joined_behind vars (decimal n) args)

-- the same of two statements whose parts are written alike
pub virtual_alike : (vars : List Declared) (x y : ℕ) (o p n m : ℕ) (args more : List ℕ) → var_text vars x ≡ var_text vars y → virtual_text vars o n args ≡ virtual_text vars p m more → statement_text vars (Virtual x o n args) ≡ statement_text vars (Virtual y p m more)
virtual_alike vars x y o p n m args more t e =
    virtual_is vars x o n args ∙ ap (λ z. z ++ (codes " = " ++ bracketed (codes "CPyVirtual") (virtual_text vars o n args))) t ∙ ap (λ z. assignment_text vars y (bracketed (codes "CPyVirtual") z)) e
    ∙ sym (virtual_is vars y p m more)

pub for_trait_alike : (vars : List Declared) (x y o p : ℕ) (t u : List ℕ) (n m : ℕ) (args more : List ℕ) → var_text vars x ≡ var_text vars y → for_trait_text vars o t n args ≡ for_trait_text vars p u m more → statement_text vars (TraitCall x o t n args) ≡ statement_text vars (TraitCall y p u m more)
for_trait_alike vars x y o p t u n m args more s e =
    for_trait_is vars x o t n args ∙ ap (λ z. z ++ (codes " = " ++ bracketed (codes "CPyTrait") (for_trait_text vars o t n args))) s ∙ ap (λ z. assignment_text vars y (bracketed (codes "CPyTrait") z)) e
    ∙ sym (for_trait_is vars y p u m more)

-- where the place of a method ends
pub others_end : (vars : List Declared) (args : List ℕ) → EndsArgument (others_text vars args)
others_end vars [] = tt
others_end vars (x ∷ args) = refl

-- ---- no line feed inside

others_plain : (vars : List Declared) (args : List ℕ) → AreNamed vars → IsTrue (list_all (is_declared vars) args) → HasNo 10 (others_text vars args)
others_plain vars [] names h = refl
others_plain vars (x ∷ args) names h =
    let parts = and_true (is_declared vars x) _ h in
    HasNo-append 10 (next_variable vars x) (others_text vars args) (HasNo-append 10 comma (var_text vars x) refl (HasNo-variable 10 vars x (omega arith) line_feed_stops refl names parts.0)) (others_plain vars args names parts.1)

method_plain : (vars : List Declared) (n : ℕ) (args : List ℕ) → AreNamed vars → IsTrue (list_all (is_declared vars) args) → HasNo 10 (method_behind vars (n, args))
method_plain vars n args names h =
    HasNo-append 10 comma (decimal n ++ others_text vars args) refl (HasNo-append 10 (decimal n) (others_text vars args) (HasNo-decimal 10 n (λ r. omega (arith, r.0))) (others_plain vars args names h))

pub virtual_plain : (vars : List Declared) (o n : ℕ) (args : List ℕ) → AreNamed vars → IsTrue (is_declared vars o) → IsTrue (list_all (is_declared vars) args) → HasNo 10 (virtual_text vars o n args)
virtual_plain vars o n args names p h =
    HasNo-append 10 (var_text vars o) (method_behind vars (n, args)) (HasNo-variable 10 vars o (omega arith) line_feed_stops refl names p) (method_plain vars n args names h)

pub for_trait_plain : (vars : List Declared) (o : ℕ) (t : List ℕ) (n : ℕ) (args : List ℕ) → AreNamed vars → IsTrue (is_declared vars o) → IsTrue (is_identifier t) → IsTrue (list_all (is_declared vars) args) → HasNo 10 (for_trait_text vars o t n args)
for_trait_plain vars o t n args names p q h =
    HasNo-append 10 (var_text vars o) (comma ++ (type_text t ++ method_behind vars (n, args))) (HasNo-variable 10 vars o (omega arith) line_feed_stops refl names p)
    (HasNo-append 10 comma (type_text t ++ method_behind vars (n, args)) refl (HasNo-append 10 (type_text t) (method_behind vars (n, args)) (HasNo-append 10 (codes "CPyType_") t refl (HasNo-identifier 10 t (omega arith) line_feed_stops q)) (method_plain vars n args names h)))

-- ---- as they are written, word by word

pub virtual_written : {words object : List ℕ} (vars : List Declared) (x o n : ℕ) (args : List ℕ) → words ≡ var_text vars x ++ (codes " = CPyVirtual(" ++ object) → object ≡ var_text vars o → words ++ (method_behind vars (n, args) ++ codes ")") ≡ statement_text vars (Virtual x o n args)
virtual_written {words} {object} vars x o n args e f =
    let rest = method_behind vars (n, args) in
    ap (λ t. t ++ (rest ++ codes ")")) (e ∙ ap (λ t. var_text vars x ++ (codes " = CPyVirtual(" ++ t)) f)
    ∙ append_assoc (var_text vars x) (codes " = CPyVirtual(" ++ var_text vars o) (rest ++ codes ")")
    ∙ ap (λ t. var_text vars x ++ (codes " = CPyVirtual(" ++ t)) (sym (append_assoc (var_text vars o) rest (codes ")")))
    ∙ sym (virtual_is vars x o n args)

pub for_trait_written : {words object name : List ℕ} (vars : List Declared) (x o : ℕ) (t : List ℕ) (n : ℕ) (args : List ℕ) → words ≡ var_text vars x ++ (codes " = CPyTrait(" ++ object) → object ≡ var_text vars o ++ (codes ", CPyType_" ++ name) → name ≡ t → words ++ (method_behind vars (n, args) ++ codes ")") ≡ statement_text vars (TraitCall x o t n args)
for_trait_written {words} {object} {name} vars x o t n args e f g =
    let rest = method_behind vars (n, args) in
    let front = var_text vars o ++ (codes ", CPyType_" ++ t) in
    ap (λ z. z ++ (rest ++ codes ")")) (e ∙ ap (λ z. var_text vars x ++ (codes " = CPyTrait(" ++ z)) (f ∙ ap (λ z. var_text vars o ++ (codes ", CPyType_" ++ z)) g))
    ∙ append_assoc (var_text vars x) (codes " = CPyTrait(" ++ front) (rest ++ codes ")")
    ∙ ap (λ z. var_text vars x ++ (codes " = CPyTrait(" ++ z)) (sym (append_assoc front rest (codes ")")) ∙ ap (λ z. z ++ codes ")") (append_assoc (var_text vars o) (codes ", CPyType_" ++ t) rest))
    ∙ sym (for_trait_is vars x o t n args)
