-- That tokens made one by one end once.
use Rattle.std.proofs.Common.{◌≡◌, ◌≢◌, ℕ, List, [], ◌∷◌, ◌++◌}
use Rattle.std.specs.List.{AllByRecursion}
use Rattle.py_syntax.specs.declared.token.Token.{Token}
use Rattle.py_syntax.specs.declared.token.TokenKind.TheVariants as k
use Rattle.py_syntax.specs.Tokens.{EndsOnce}

pub others_more : (ts : List Token) (t : Token) → AllByRecursion (λ t. t.kind ≢ k.End) ts → t.kind ≢ k.End → AllByRecursion (λ t. t.kind ≢ k.End) (ts ++ t ∷ [])
others_more [] t h n = (n, tt)
others_more (s ∷ ts) t h n = (h.0, others_more ts t h.1 n)

pub ended_once : (front ts : List Token) (last : Token) → AllByRecursion (λ t. t.kind ≢ k.End) front → ts ≡ front ++ last ∷ [] → last.kind ≡ k.End → EndsOnce ts
ended_once front ts last no_other split ends = record { front = front; last = last; split = split; ends = ends; no_other = no_other }

pub name_other : (x : List ℕ) → k.Name x ≢ k.End
name_other x = λ e. cc

pub str_other : (x : List ℕ) → k.Str x ≢ k.End
str_other x = λ e. cc

pub ruleset others = (name_other, str_other)

pub ruleset ended = (ended_once)
