-- What a fault says of a file.
use Rattle.std.proofs.Common.{◌≡◌, refl, sym, ap, subst, ℕ, Bool, true, false, List, [], ◌∷◌, Option, Some, Result, Ok, Err}
use Rattle.std.specs.Prelude.{option_to_list, IfOk, IfErr}
use Rattle.std.specs.Option.{option_map}
use Rattle.std.specs.Str.{chars, is_utf8, IsUtf8}
use Rattle.std.proofs.lemmas.Str.{IsUtf8-from_is_utf8}
use Rattle.py_syntax.specs.declared.key.Key.{Key}
use Rattle.py_syntax.specs.declared.token.Token.{Token}
use Rattle.py_syntax.specs.Statements.{Suite}
use Rattle.py_lexer.specs.Tokens.{tokens_of}
use Rattle.py_parser_grammar.specs.Faults.{Says, syntax, profile, too_deep}
use Rattle.py_parser_source.specs.declared.fault.FaultKind.TheVariants.{NoText, NoTree, LeftOut, TooDeep}
use Rattle.py_parser_source.specs.declared.fault.SourceFault.{SourceFault}
use Rattle.py_parser_source.specs.declared.source.SourceError.{SourceError}
use Rattle.py_parser_source.specs.declared.source.SourceError.TheVariants.{Faulty, Memory}
use Rattle.py_parser_source.specs.Entries.{Entry}
use Rattle.py_parser_source.specs.Modules.{HasTree, IsModule}
use Rattle.py_parser_source.specs.Faults.{at_line, bad_line, line_at, key_at, AreOfTokens, AreOfBytes}
use Rattle.py_parser_source.specs.Sayings.{fault_on, entry_of, SaysOfTokens, SaysOfText, SaysOfFile}

-- ---- faults of tokens

pub syntax_said : (ts : List Token) (i : ℕ) (e : SourceError) → e ≡ Faulty (fault_on (line_at ts i) NoTree) → Says ts (syntax i) → SaysOfTokens ts e
syntax_said ts i e is says = subst (SaysOfTokens ts) (sym is) (λ told. (syntax i, says, refl))

pub profile_said : (ts : List Token) (i : ℕ) (key : Key) (e : SourceError) → e ≡ Faulty (fault_on (line_at ts i) (LeftOut key)) → key_at ts i ≡ Some key → Says ts (profile i) → SaysOfTokens ts e
profile_said ts i key e is known says =
    let only : Option Key → List Entry = λ k. option_to_list (option_map (λ k. at_line (line_at ts i) (LeftOut k)) k) in
    subst (SaysOfTokens ts) (sym is) (λ told. (profile i, says, ap only (sym known)))

pub too_deep_said : (ts : List Token) (j : ℕ) (e : SourceError) → e ≡ Faulty (fault_on (line_at ts j) TooDeep) → Says ts (too_deep j) → SaysOfTokens ts e
too_deep_said ts j e is says = subst (SaysOfTokens ts) (sym is) (λ told. (too_deep j, says, refl))

-- ---- faults of a text

said_of_text : (text : List ℕ) (ts : List Token) (e : SourceError) → tokens_of text ≡ Ok ts → SaysOfTokens ts e → SaysOfText text e
said_of_text text ts (Faulty fault) is says = λ told. subst (λ r. AreOfTokens told r (entry_of fault ∷ [])) (sym is) (says told)
said_of_text text ts Memory is says = tt

module _ {V : Type 0} where
  pub text_said : (text : List ℕ) (ts : List Token) (r : Result V SourceError) → tokens_of text ≡ Ok ts → IfErr r (SaysOfTokens ts) → IfErr r (SaysOfText text)
  text_said text ts (Ok found) is says = tt
  text_said text ts (Err e) is says = said_of_text text ts e is says

-- ---- faults of bytes

pub no_text_said : (bytes : List ℕ) (fault : SourceFault) → is_utf8 bytes ≡ false → fault ≡ fault_on (bad_line bytes) NoText → SaysOfFile bytes (Faulty fault)
no_text_said bytes fault bad is =
    λ told. subst (λ b. AreOfBytes told b bytes (entry_of fault ∷ [])) (sym bad) (ap (λ x. entry_of x ∷ []) is)

said_of_file : (bytes text : List ℕ) (e : SourceError) → text ≡ bytes → is_utf8 bytes ≡ true → SaysOfText (chars text) e → SaysOfFile bytes e
said_of_file bytes text (Faulty fault) same good says =
    λ told. subst (λ b. AreOfBytes told b bytes (entry_of fault ∷ [])) (sym good)
    (subst (λ t. AreOfTokens told (tokens_of (chars t)) (entry_of fault ∷ [])) same (says told))
said_of_file bytes text Memory same good says = tt

module _ {V : Type 0} where
  pub file_said : (bytes text : List ℕ) (r : Result V SourceError) → text ≡ bytes → is_utf8 bytes ≡ true → IfErr r (SaysOfText (chars text)) → IfErr r (SaysOfFile bytes)
  file_said bytes text (Ok found) same good says = tt
  file_said bytes text (Err e) same good says = said_of_file bytes text e same good says

  pub file_module : (suite : V → Suite) (bytes text : List ℕ) (r : Result V SourceError) → text ≡ bytes → is_utf8 bytes ≡ true → IfOk r (λ found. HasTree (chars text) (suite found)) → IfOk r (λ found. IsModule bytes (suite found))
  file_module suite bytes text (Ok found) same good has = (good, subst (λ t. HasTree (chars t) (suite found)) same has)
  file_module suite bytes text (Err e) same good has = tt

pub not_text : (bytes : List ℕ) → ¬ (IsUtf8 bytes) → is_utf8 bytes ≡ false
not_text bytes bad = by_test (is_utf8 bytes) (λ good. bad (IsUtf8-from_is_utf8 bytes good)) where
  by_test : (b : Bool) → (b ≡ true → ⊥) → b ≡ false
  by_test true no_more = absurd (no_more refl)
  by_test false no_more = refl
