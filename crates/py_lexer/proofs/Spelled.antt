-- What is said of a token that is read: its text spells it.
use Rattle.std.proofs.Common.{◌≡◌, ℕ, Bool, true, false, List, [], ◌∷◌, ◌++◌, take, drop, find, Some, refl, ap, sym, ◌∙◌, cond, ◌⊎◌, inl, inr, slice_get, Contains}
use Rattle.std.specs.Prelude.{◌||◌, ◌&&◌}
use Rattle.std.proofs.lemmas.List.{take-append-drop, map-append}
use Rattle.std.proofs.lemmas.Option.{slice_get_within, get_or_from_slice_get}
use Rattle.py_syntax.specs.declared.token.TokenKind.{TokenKind}
use Rattle.py_lexer.specs.declared.placed.Placed.{Placed}
use Rattle.py_lexer.specs.Places.{characters}
use Rattle.py_lexer.specs.Spelling.{Spells}

-- the characters that were read spell the token
pub record Spelled (cs : List Placed) (k : TokenKind) (rest : List Placed) : Type 0 where
  pub text : List ℕ
  pub split : characters cs ≡ text ++ characters rest
  pub spells : Spells k text (characters rest)

-- a front of a rest and what follows it
pub front_split : (n : ℕ) (cs : List Placed) → characters cs ≡ characters (take n cs) ++ characters (drop n cs)
front_split n cs =
    ap characters (sym (take-append-drop n cs)) ∙ map-append (λ (c : Placed). c.character) (take n cs) (drop n cs)

-- what is found passes
found_case : {X : Type 0} (p : X → Bool) (ys : List X) (x y : X) (b : Bool) → p y ≡ b → cond b (Some y) (find p ys) ≡ Some x → (find p ys ≡ Some x → p x ≡ true) → p x ≡ true
found_case p ys x y true is found more = let e : y ≡ x = cc in sym (ap p e) ∙ is
found_case p ys x y false is found more = more found

pub found_passes : {X : Type 0} (p : X → Bool) (xs : List X) (x : X) → find p xs ≡ Some x → p x ≡ true
found_passes p [] x found = cc
found_passes p (y ∷ ys) x found = found_case p ys x y (p y) refl found (found_passes p ys x)

-- a test of two
pub one_true : (a b : Bool) → (a || b) ≡ true → (a ≡ true) ⊎ (b ≡ true)
one_true true b h = inl refl
one_true false b h = inr h

pub first_true : (a b : Bool) → (a && b) ≡ true → a ≡ true
first_true true b h = refl
first_true false b h = h

pub second_true : (a b : Bool) → (a && b) ≡ true → b ≡ true
second_true true b h = h
second_true false b h = cc

pub second_or : (a b : Bool) → b ≡ true → (a || b) ≡ true
second_or true b h = refl
second_or false b h = h

-- a row of a table
pub row_of : {A : Type 0} (rows : List A) (k : ℕ) (row : A) → slice_get rows k ≡ Some row → Contains rows row
row_of rows k row at = (k, slice_get_within rows k row at, get_or_from_slice_get rows k row row at)
