-- Signs: the longest that fits is read.
use Rattle.std.proofs.Common.{◌≡◌, ◌≢◌, ℕ, zero, suc, codes, eq-eqb, ◌+◌, ◌≤◌, true, false, List, [], ◌∷◌, length, take, drop, Option, Some, None, refl, ap, sym, subst, ◌∙◌, arith, min, nat_le}
use Rattle.std.specs.Prelude.{IfOk}
use Rattle.std.specs.Char.{is_ascii_digit}
use Rattle.std.specs.Io.{StartsWith}
use Rattle.std.specs.Str.{bytes_eq}
use Rattle.std.proofs.lemmas.List.{length-map, length-take}
use Rattle.std.specs.List.{take-map}
use Rattle.std.proofs.lemmas.Slice.Eq.{bytes_eq-Decides}
use Rattle.std.proofs.lemmas.Bool.{leb-true}
use Rattle.py_syntax.specs.declared.sign.Sign.{Sign}
use Rattle.py_syntax.specs.declared.sign.Sign.TheVariants as sign
use Rattle.py_syntax.specs.declared.token.TokenKind.{TokenKind}
use Rattle.py_syntax.specs.declared.token.TokenKind.TheVariants as token
use Rattle.py_syntax.specs.Texts.{sign_text, sign_of, all_signs}
use Rattle.py_lexer.specs.declared.placed.Placed.{Placed}
use Rattle.py_lexer.specs.Places.{characters}
use Rattle.py_lexer.specs.Reading.{Read}
use Rattle.py_lexer.specs.Signs.{sign_at, sign_in, or_else}
use Rattle.py_lexer.specs.Numbers.{begins_number}
use Rattle.py_lexer.specs.Digits.{NextIsNot}
use Rattle.py_lexer.proofs.Spelled.{Spelled, front_split, found_passes, second_or}

-- each sign is found by its text
sign_found : (s : Sign) → sign_of (sign_text s) ≡ Some s
sign_found sign.Plus = refl
sign_found sign.Minus = refl
sign_found sign.Star = refl
sign_found sign.StarStar = refl
sign_found sign.Slash = refl
sign_found sign.SlashSlash = refl
sign_found sign.Percent = refl
sign_found sign.At = refl
sign_found sign.Shl = refl
sign_found sign.Shr = refl
sign_found sign.Amp = refl
sign_found sign.Bar = refl
sign_found sign.Caret = refl
sign_found sign.Tilde = refl
sign_found sign.Walrus = refl
sign_found sign.Lt = refl
sign_found sign.Gt = refl
sign_found sign.Le = refl
sign_found sign.Ge = refl
sign_found sign.EqEq = refl
sign_found sign.NotEq = refl
sign_found sign.LeftParen = refl
sign_found sign.RightParen = refl
sign_found sign.LeftSquare = refl
sign_found sign.RightSquare = refl
sign_found sign.LeftBrace = refl
sign_found sign.RightBrace = refl
sign_found sign.Comma = refl
sign_found sign.Colon = refl
sign_found sign.Dot = refl
sign_found sign.Semicolon = refl
sign_found sign.Assign = refl
sign_found sign.Arrow = refl
sign_found sign.PlusAssign = refl
sign_found sign.MinusAssign = refl
sign_found sign.StarAssign = refl
sign_found sign.SlashAssign = refl
sign_found sign.SlashSlashAssign = refl
sign_found sign.PercentAssign = refl
sign_found sign.AtAssign = refl
sign_found sign.AmpAssign = refl
sign_found sign.BarAssign = refl
sign_found sign.CaretAssign = refl
sign_found sign.ShrAssign = refl
sign_found sign.ShlAssign = refl
sign_found sign.StarStarAssign = refl

-- and has one to three characters
sign_short : (s : Sign) → nat_le (length (sign_text s)) 3 ≡ true
sign_short sign.Plus = refl
sign_short sign.Minus = refl
sign_short sign.Star = refl
sign_short sign.StarStar = refl
sign_short sign.Slash = refl
sign_short sign.SlashSlash = refl
sign_short sign.Percent = refl
sign_short sign.At = refl
sign_short sign.Shl = refl
sign_short sign.Shr = refl
sign_short sign.Amp = refl
sign_short sign.Bar = refl
sign_short sign.Caret = refl
sign_short sign.Tilde = refl
sign_short sign.Walrus = refl
sign_short sign.Lt = refl
sign_short sign.Gt = refl
sign_short sign.Le = refl
sign_short sign.Ge = refl
sign_short sign.EqEq = refl
sign_short sign.NotEq = refl
sign_short sign.LeftParen = refl
sign_short sign.RightParen = refl
sign_short sign.LeftSquare = refl
sign_short sign.RightSquare = refl
sign_short sign.LeftBrace = refl
sign_short sign.RightBrace = refl
sign_short sign.Comma = refl
sign_short sign.Colon = refl
sign_short sign.Dot = refl
sign_short sign.Semicolon = refl
sign_short sign.Assign = refl
sign_short sign.Arrow = refl
sign_short sign.PlusAssign = refl
sign_short sign.MinusAssign = refl
sign_short sign.StarAssign = refl
sign_short sign.SlashAssign = refl
sign_short sign.SlashSlashAssign = refl
sign_short sign.PercentAssign = refl
sign_short sign.AtAssign = refl
sign_short sign.AmpAssign = refl
sign_short sign.BarAssign = refl
sign_short sign.CaretAssign = refl
sign_short sign.ShrAssign = refl
sign_short sign.ShlAssign = refl
sign_short sign.StarStarAssign = refl

written_so : (text : List ℕ) (s : Sign) → sign_of text ≡ Some s → text ≡ sign_text s
written_so text s found =
    sym ((bytes_eq-Decides (sign_text s) text).0 (found_passes (λ x. bytes_eq (sign_text x) text) all_signs s found))

-- no sign of n characters fits where none is found
none_fits : (n : ℕ) (cs : List Placed) (other : Sign) → sign_in n cs ≡ None → StartsWith (characters cs) (sign_text other) → length (sign_text other) ≢ n
none_fits n cs other none fits is =
    let front : characters (take n cs) ≡ sign_text other = sym (take-map (λ (c : Placed). c.character) n cs) ∙ ap (λ m. take m (characters cs)) (sym is) ∙ fits in
    let found : sign_of (characters (take n cs)) ≡ Some other = ap sign_of front ∙ sign_found other in
    let both : None ≡ Some other = sym none ∙ found in
    cc

abbrev IsLongest : ℕ → List Placed → Type 0
IsLongest n cs = (other : Sign) → StartsWith (characters cs) (sign_text other) → length (sign_text other) ≤ n

front_length : (n : ℕ) (cs : List Placed) → length (characters (take n cs)) ≡ min n (length cs)
front_length n cs = length-map (take n cs) (λ (c : Placed). c.character) ∙ length-take n cs

-- a sign that fits is no longer than the text
fits_within : (cs : List Placed) (other : Sign) → StartsWith (characters cs) (sign_text other) → length (sign_text other) ≤ length cs
fits_within cs other fits =
    let e = ap length (sym fits) in
    let f = length-take (length (sign_text other)) (characters cs) in
    let g = length-map cs (λ (c : Placed). c.character) in
    omega arith

-- a dot alone, where no number begins
no_fraction : (n : ℕ) (cs : List Placed) → begins_number cs ≡ false → characters (take n cs) ≡ codes "." → NextIsNot (λ c. is_ascii_digit c ≡ true) (characters (drop n cs))
no_fraction zero cs none is = cc
no_fraction (suc n) [] none is = cc
no_fraction (suc zero) (c ∷ []) none is = tt
no_fraction (suc (suc n)) (c ∷ []) none is = tt
no_fraction (suc zero) (c ∷ d ∷ cs) none is = λ digit.
    let dot : c.character ≡ 46 = cc in
    let begins : begins_number (c ∷ d ∷ cs) ≡ true = second_or (is_ascii_digit c.character) _ (rw (eq-eqb c.character 46 dot) digit) in
    let e : true ≡ false = sym begins ∙ none in cc
no_fraction (suc (suc n)) (c ∷ d ∷ cs) none is = cc

sign_here : (n : ℕ) (cs : List Placed) (s : Sign) → begins_number cs ≡ false → sign_in n cs ≡ Some s → IsLongest n cs → Spelled cs (token.Sign s) (drop n cs)
sign_here n cs s none found longest = record {
  text = characters (take n cs);
  split = front_split n cs;
  spells = record {
    value = written_so (characters (take n cs)) s found;
    longest = λ other fits.
        let here : StartsWith (characters cs) (sign_text other) = subst (λ l. StartsWith l (sign_text other)) (sym (front_split n cs)) fits in
        let a = longest other here in
        let b = fits_within cs other here in
        let c = front_length n cs in
        omega arith;
    no_fraction = no_fraction n cs none;
  };
}

sign_next : (n : ℕ) (cs : List Placed) (o : Option Sign) (other : Read TokenKind) → begins_number cs ≡ false → sign_in n cs ≡ o → IsLongest n cs → (o ≡ None → IfOk other (λ x. Spelled cs x.0 x.1)) → IfOk (or_else o n cs other) (λ x. Spelled cs x.0 x.1)
sign_next n cs (Some s) other none is longest next = sign_here n cs s none is longest
sign_next n cs None other none is longest next = next refl

shorter_longest : (n m : ℕ) (cs : List Placed) → n ≡ m + 1 → sign_in n cs ≡ None → IsLongest n cs → IsLongest m cs
shorter_longest n m cs is none longest other fits =
    let a = longest other fits in
    let b : length (sign_text other) ≢ n = none_fits n cs other none fits in
    omega arith

pub sign_spelled : (cs : List Placed) → begins_number cs ≡ false → IfOk (sign_at cs) (λ x. Spelled cs x.0 x.1)
unfolding sign_at
sign_spelled cs none =
    let three : IsLongest 3 cs = λ other fits. leb-true (length (sign_text other)) 3 (sign_short other) in
    sign_next 3 cs (sign_in 3 cs) _ none refl three
    (λ none3.
    let two = shorter_longest 3 2 cs refl none3 three in
    sign_next 2 cs (sign_in 2 cs) _ none refl two
    (λ none2. sign_next 1 cs (sign_in 1 cs) _ none refl (shorter_longest 2 1 cs refl none2 two) (λ none1. tt)))
