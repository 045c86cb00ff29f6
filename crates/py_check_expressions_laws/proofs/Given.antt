-- What holds of each typed part that typing gives: of the words of typing.
use Rattle.std.proofs.Common.{◌≡◌, ℕ, List, [], ◌∷◌, Option, Some, None, Result, Ok, Err, refl, ap, ◌∙◌, subst}
use Rattle.std.proofs.lemmas.Option.{same_Some}
use Rattle.std.specs.Option.{option_map, option_zip}
use Rattle.py_syntax.specs.declared.token.Span.{Span}
use Rattle.py_syntax.specs.Expressions.{ExprTree, Comparisons, Compare}
use Rattle.py_typed.specs.Expressions.{TypedExpr}
use Rattle.py_check_context.specs.Context.{Context, VarSorts, Wanted, free}
use Rattle.py_check_messages.specs.Seen.{Seen, Message, is, silent, fails, both, judged, ruled, behind, rule, made}
use Rattle.py_check_messages.specs.Rows.{row_then}
use Rattle.py_check_coercions.specs.Several.{told, ruled_all}
use Rattle.py_check_operators.specs.Chains.{faults_of, chain}
use Rattle.py_check_expressions.specs.Typing.{typing, node_typing, operands}
use Rattle.py_check_expressions.proofs.RowLemmas.{operands_got}

pub record Gives {A : Type 0} (s : Seen A) (P : A → Type 0) : Type 0 where
  pub each : (a : A) → s.got ≡ Some a → P a

pub gives_is : {A : Type 0} (P : A → Type 0) (a : A) → P a → Gives (is a) P
gives_is P a p = record { each = λ b e. subst P (same_Some a b e) p }

pub gives_silent : {A : Type 0} (P : A → Type 0) → Gives silent P
gives_silent P = record { each = λ b e. absurd (cc) }

pub gives_fails : {A : Type 0} (P : A → Type 0) (span : Span) (m : Message) → Gives (fails span m) P
gives_fails P span m = record { each = λ b e. absurd (cc) }

-- what holds of all, and what follows
pub gives_any : {A : Type 0} (P : A → Type 0) (s : Seen A) → ((a : A) → P a) → Gives s P
gives_any P s p = record { each = λ a e. p a }

pub gives_also : {A : Type 0} (P Q : A → Type 0) (s : Seen A) → Gives s P → Gives s Q → Gives s (λ a. P a × Q a)
gives_also P Q s gp gq = record { each = λ a e. (gp.each a e, gq.each a e) }

both_given : {A B : Type 0} (P : A → Type 0) (Q : B → Type 0) (s : Seen A) (t : Seen B) → Gives s P → Gives t Q → (a : Option A) (b : Option B) → s.got ≡ a → t.got ≡ b → (p : A × B) → option_zip a b ≡ Some p → P p.0 × Q p.1
both_given P Q s t gp gq None b ea eb p e = absurd (cc)
both_given P Q s t gp gq (Some a) None ea eb p e = absurd (cc)
both_given {A = A} {B = B} P Q s t gp gq (Some a) (Some b) ea eb p e = subst (λ (x : A × B). P x.0 × Q x.1) (same_Some (a, b) p e) (gp.each a ea, gq.each b eb)

pub gives_both : {A B : Type 0} (P : A → Type 0) (Q : B → Type 0) (s : Seen A) (t : Seen B) → Gives s P → Gives t Q → Gives (both s t) (λ p. P p.0 × Q p.1)
gives_both P Q s t gp gq = record { each = λ p e. both_given P Q s t gp gq s.got t.got refl refl p e }

made_given : {A B : Type 0} (P : A → Type 0) (Q : B → Type 0) (f : A → B) (s : Seen A) → Gives s P → ((a : A) → P a → Q (f a)) → (o : Option A) → s.got ≡ o → (b : B) → option_map f o ≡ Some b → Q b
made_given P Q f s g next None eo b e = absurd (cc)
made_given P Q f s g next (Some a) eo b e = subst Q (same_Some (f a) b e) (next a (g.each a eo))

pub gives_made : {A B : Type 0} (P : A → Type 0) (Q : B → Type 0) (f : A → B) (s : Seen A) → Gives s P → ((a : A) → P a → Q (f a)) → Gives (made f s) Q
gives_made P Q f s g next = record { each = λ b e. made_given P Q f s g next s.got refl b e }

-- by what the parts are
pub gives_after : {A B : Type 0} (Q : B → Type 0) (s : Seen A) (f : Option A → Seen B) → ((o : Option A) → s.got ≡ o → Gives (f o) Q) → Gives (behind s f) Q
gives_after Q s f next = record { each = λ b e. (next s.got refl).each b e }

by_parts : {A B : Type 0} (P : A → Type 0) (Q : B → Type 0) (s : Seen A) (f : Option A → Seen B) → Gives s P → Gives (f None) Q → ((a : A) → P a → Gives (f (Some a)) Q) → (o : Option A) → s.got ≡ o → Gives (f o) Q
by_parts P Q s f g none next None e = none
by_parts P Q s f g none next (Some a) e = next a (g.each a e)

pub gives_behind : {A B : Type 0} (P : A → Type 0) (Q : B → Type 0) (s : Seen A) (f : Option A → Seen B) → Gives s P → Gives (f None) Q → ((a : A) → P a → Gives (f (Some a)) Q) → Gives (behind s f) Q
gives_behind P Q s f g none next = gives_after Q s f (λ o e. by_parts P Q s f g none next o e)

pub gives_judged : {A : Type 0} (Q : A → Type 0) (span : Span) (r : Result A Message) → ((a : A) → r ≡ Ok a → Q a) → Gives (judged span r) Q
gives_judged Q span (Ok a) next = gives_is Q a (next a refl)
gives_judged Q span (Err m) next = gives_fails Q span m

pub gives_rule : {A B : Type 0} (P : A → Type 0) (Q : B → Type 0) (span : Span) (f : A → Result B Message) (s : Seen A) → Gives s P → ((a : A) → P a → (b : B) → f a ≡ Ok b → Q b) → Gives (rule span f s) Q
gives_rule P Q span f s g next = gives_behind P Q s (ruled span f) g (gives_silent Q) (λ a p. gives_judged Q span (f a) (next a p))

pub gives_told : {A : Type 0} (Q : A → Type 0) (span : Span) (ms : List Message) (a : A) → (ms ≡ [] → Q a) → Gives (told span ms a) Q
gives_told Q span [] a next = gives_is Q a (next refl)
gives_told Q span (m ∷ ms) a next = record { each = λ b e. absurd (cc) }

pub gives_ruled_all : {A B : Type 0} (P : A → Type 0) (Q : B → Type 0) (span : Span) (faults : A → List Message) (make : A → B) (s : Seen A) → Gives s P → ((a : A) → P a → faults a ≡ [] → Q (make a)) → Gives (behind s (ruled_all span faults make)) Q
gives_ruled_all P Q span faults make s g next = gives_behind P Q s (ruled_all span faults make) g (gives_silent Q) (λ a p. gives_told Q span (faults a) (make a) (next a p))

pub gives_row : {A : Type 0} (P : A → Type 0) (R : List A → Type 0) (Q : List A → Type 0) (one : Seen A) (rest : Seen (List A)) → Gives one P → Gives rest R → ((a : A) (more : List A) → P a → R more → Q (a ∷ more)) → Gives (row_then one rest) Q
gives_row {A = A} P R Q one rest g h next =
    gives_made (λ (p : A × List A). P p.0 × R p.1) Q (λ p. p.0 ∷ p.1) (both one rest) (gives_both P R one rest g h) (λ p q. next p.0 p.1 q.0 q.1)

-- a chain is typed by the rule of the row of its operands
pub gives_compare : (C : Context) (V : VarSorts) (w : Wanted) (known : List ℕ) (span : Span) (e : ExprTree) (cs : Comparisons) (Q : TypedExpr → Type 0) → Gives (behind (both (typing C V free known e) (operands C V known cs)) (ruled_all span (faults_of C.classes) (chain span))) Q → Gives (node_typing C V w known span (Compare e cs)) Q
gives_compare C V w known span e cs Q g = record {
  each = λ b h. g.each b (ap (λ o. (ruled_all span (faults_of C.classes) (chain span) (option_zip (typing C V free known e).got o)).got) (operands_got C V known cs) ∙ h);
}
