-- The arguments of a call: the first one, and the others behind commas.
use Rattle.std.proofs.Common.{◌≡◌, ◌∙◌, ℕ, ◌-◌, ◌≤◌, List, [], ◌∷◌, ◌++◌, length, take, drop, get_or, ap, append-nil, arith}
use Rattle.std.specs.List.{flat_map}
use Rattle.std.proofs.lemmas.Grind.{common_steps}
use Rattle.c_core.specs.declared.code.CArg.{CArg}
use Rattle.c_core.specs.declared.code.Kind.{Kind}
use Rattle.c_core.specs.Text.{joined, comma, arg_text, arg_texts}
use Rattle.c_text.specs.Arguments.{next_text}

joined_first : (vars : List (List ℕ × Kind)) (a : CArg) (others : List CArg) → arg_text vars a ++ flat_map (next_text vars) others ≡ joined comma (arg_texts vars (a ∷ others))
joined_first vars a [] = append-nil (arg_text vars a)
joined_first vars a (b ∷ others) = ap (λ rest. arg_text vars a ++ (comma ++ rest)) (joined_first vars b others)

others_of : (a : CArg) (others : List CArg) → take (length (a ∷ others) - 1) (drop 1 (a ∷ others)) ≡ others
others_of a others = grind (arith, common_steps)

-- what a pattern finds in a slice, as the whole list's text
pub joined_of : (vars : List (List ℕ × Kind)) (xs ys : List CArg) (x : CArg) → xs ≡ ys → 1 ≤ length xs → x ≡ get_or xs 0 x → arg_text vars x ++ flat_map (next_text vars) (take (length xs - 1) (drop 1 xs)) ≡ joined comma (arg_texts vars ys)
joined_of vars [] ys x p h q = absurd (omega arith)
joined_of vars (a ∷ others) ys x p h q =
    ap (λ y. arg_text vars y ++ flat_map (next_text vars) (take (length (a ∷ others) - 1) (drop 1 (a ∷ others)))) q
    ∙ ap (λ rest. arg_text vars a ++ flat_map (next_text vars) rest) (others_of a others)
    ∙ joined_first vars a others
    ∙ ap (λ zs. joined comma (arg_texts vars zs)) p
