-- What typing says of a part of the tree: the typed part, if it is typed, and the diagnostics in it.
--
-- Where each part of a node has a type and the rule of the node itself is broken, there is a diagnostic at the node, and there
-- alone. Such a node has no type, and what holds it says nothing of it: a fault is told once, where it stands. The pairs of a chain
-- of comparisons are nodes of their own.
use Rattle.std.specs.Prelude.{◌≡◌, ℕ, Bool, true, false, List, [], ◌∷◌, ◌++◌, Option, Some, None, Result, Ok, Err}
use Rattle.std.specs.Option.{option_map, option_zip}
use Rattle.py_syntax.specs.declared.token.Span.{Span}
use Rattle.py_syntax_diagnostics.specs.declared.diagnostic.Diag.{Diag}

pub record Seen (A : Type 0) : Type 0 where
  pub got : Option A
  pub said : List Diag

-- a text, and the code of its rule
pub record Message : Type 0 where
  pub text : List ℕ
  pub code : List ℕ

abbrev pub diag : Span → Message → Diag
diag span m = record { span = span; text = m.text; code = m.code }

-- a part that is typed, one without a type of which nothing is said, and one that has its own fault
abbrev pub is : {A : Type 0} → A → Seen A
is a = record { got = Some a; said = [] }

abbrev pub silent : {A : Type 0} → Seen A
silent = record { got = None; said = [] }

abbrev pub fails : {A : Type 0} → Span → Message → Seen A
fails span m = record { got = None; said = diag span m ∷ [] }

-- two parts of a node: both are looked at, and both must be typed
abbrev pub both : {A B : Type 0} → Seen A → Seen B → Seen (A × B)
both a b = record { got = option_zip a.got b.got; said = a.said ++ b.said }

-- a node's own rule gives the typed node, or the node's diagnostic
abbrev pub judged : {A : Type 0} → Span → Result A Message → Seen A
judged span (Ok a) = is a
judged span (Err m) = fails span m

-- it is asked where all parts are typed
abbrev pub ruled : {A B : Type 0} → Span → (A → Result B Message) → Option A → Seen B
ruled span f None = silent
ruled span f (Some a) = judged span (f a)

-- what is said of the parts, and then of the node
abbrev pub behind : {A B : Type 0} → Seen A → (Option A → Seen B) → Seen B
behind parts f = record { got = (f parts.got).got; said = parts.said ++ (f parts.got).said }

abbrev pub rule : {A B : Type 0} → Span → (A → Result B Message) → Seen A → Seen B
rule span f parts = behind parts (ruled span f)

-- a rule that always holds
abbrev pub made : {A B : Type 0} → (A → B) → Seen A → Seen B
made f parts = record { got = option_map f parts.got; said = parts.said }

-- a function returned what typing says, and put the diagnostics behind those that there were
abbrev pub Tells : {A B : Type 0} → (B → A) → Option B → List Diag → List Diag → Seen A → Type 0
Tells view result old new s = (option_map view result ≡ s.got) × (new ≡ old ++ s.said)

-- a test found what is wrong, or nothing
abbrev pub Finds : Bool → List Diag → List Diag → Span → Option Message → Type 0
Finds right old new span None = (right ≡ true) × (new ≡ old)
Finds right old new span (Some m) = (right ≡ false) × (new ≡ old ++ diag span m ∷ [])
