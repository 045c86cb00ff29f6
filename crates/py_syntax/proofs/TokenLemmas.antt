-- Where the End of a whole list of tokens stands.
use Rattle.std.proofs.Common.{◌≡◌, ℕ, zero, suc, ◌+◌, ◌<◌, List, [], ◌∷◌, ◌++◌, length, Some, refl, ap, sym, ◌∙◌, arith, length-append}
use Rattle.std.specs.Prelude.{◌≢◌, slice_get}
use Rattle.std.specs.List.{AllByRecursion}
use Rattle.py_syntax.specs.declared.token.Token.{Token}
use Rattle.py_syntax.specs.declared.token.TokenKind.TheVariants.{End}
use Rattle.py_syntax.specs.Tokens.{EndsOnce}

-- an End stands nowhere but at the last place
end_behind : (front : List Token) (last : Token) → AllByRecursion (λ t. t.kind ≢ End) front → (i : ℕ) (t : Token) → slice_get (front ++ last ∷ []) i ≡ Some t → t.kind ≡ End → i + 1 ≡ length (front ++ last ∷ [])
end_behind [] last none zero t is ends = refl
end_behind [] last none (suc i) t is ends = cc
end_behind (u ∷ front) last none zero t is ends = absurd (none.0 (ap (λ k. k.kind) (let e : u ≡ t = cc in e) ∙ ends))
end_behind (u ∷ front) last none (suc i) t is ends =
    let rest = end_behind front last none.1 i t is ends in omega arith

pub end_is_last : (ts : List Token) → EndsOnce ts → (i : ℕ) (t : Token) → slice_get ts i ≡ Some t → t.kind ≡ End → i + 1 ≡ length ts
end_is_last ts e i t is ends =
    end_behind e.front e.last e.no_other i t (ap (λ l. slice_get l i) (sym e.split) ∙ is) ends ∙ ap length (sym e.split)

last_behind : (front : List Token) (last : Token) (i : ℕ) (t : Token) → slice_get (front ++ last ∷ []) i ≡ Some t → i + 1 ≡ length (front ++ last ∷ []) → t ≡ last
last_behind [] last zero t is at = cc
last_behind [] last (suc i) t is at = cc
last_behind (u ∷ front) last zero t is at = absurd (omega (arith, length-append front (last ∷ [])))
last_behind (u ∷ front) last (suc i) t is at = last_behind front last i t is (omega arith)

pub last_is_end : (ts : List Token) → EndsOnce ts → (i : ℕ) (t : Token) → slice_get ts i ≡ Some t → i + 1 ≡ length ts → t.kind ≡ End
last_is_end ts e i t is at =
    ap (λ k. k.kind) (last_behind e.front e.last i t (ap (λ l. slice_get l i) (sym e.split) ∙ is) (at ∙ ap length e.split)) ∙ e.ends

-- there is a token
pub some_token : (ts : List Token) → EndsOnce ts → 0 < length ts
some_token ts e = let n = ap length e.split in omega (arith, length-append e.front (e.last ∷ []))
