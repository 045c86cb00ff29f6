-- What holds of the tokens of every text, whatever the text is.
use Rattle.std.specs.Prelude.{◌≡◌, ◌<◌, ◌^◌, ℕ, ℤ, pos, true, false, List, [], Some, Ok, chars, bytes_eq, slice_get}
use Rattle.std.specs.List.{list_all}
use Rattle.std.specs.Str.{is_utf8}
use lib.Utf8.{scalars}
use Rattle.unicode_ident.specs.Ident.{is_xid_continue}
use Rattle.py_syntax.specs.declared.token.Token.{Token}
use Rattle.py_syntax.specs.declared.token.TokenKind.{TokenKind}
use Rattle.py_syntax.specs.declared.token.TokenKind.TheVariants as kind
use Rattle.py_lexer.specs.Tokens.{tokens_of}

-- a name is one or more characters that may continue an identifier, in UTF-8
pub record IsWord (name : List ℕ) : Type 0 where
  pub is_text : is_utf8 name ≡ true
  pub has_character : bytes_eq name [] ≡ false
  pub continues : list_all is_xid_continue (chars name) ≡ true

-- a number is below 2^127, and not negative
pub record IsSmall (number : ℤ) : Type 0 where
  pub n : ℕ
  pub value : number ≡ pos n
  pub fits : n < 2 ^ 127

abbrev pub IsFit : TokenKind → Type 0
IsFit (kind.Name name) = IsWord name
IsFit (kind.Int n) = IsSmall n
IsFit (kind.Str text) = is_utf8 text ≡ true
IsFit _ = Unit {0}

-- each token of characters is fit
abbrev pub TokensAreFit : Type 0
TokensAreFit = (text : List ℕ) → scalars text ≡ true → (ts : List Token) → tokens_of text ≡ Ok ts → (i : ℕ) (t : Token) → slice_get ts i ≡ Some t → IsFit t.kind
