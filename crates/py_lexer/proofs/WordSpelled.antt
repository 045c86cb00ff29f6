-- Keywords and names.
use Rattle.std.proofs.Common.{◌≡◌, ◌≢◌, ℕ, suc, ◌+◌, ◌<◌, Bool, true, false, cond, List, [], ◌∷◌, length, take, drop, Option, Some, None, Ok, Err, refl, ap, sym, subst, ◌∙◌, ◌⊎◌, inl, inr, encode_utf8_all, eqb-true, eq-eqb, one-add, is_some, slice_index_or}
use Rattle.std.specs.Prelude.{IfOk, if◌then◌else◌, ◌==◌, ◌||◌, ◌&&◌}
use Rattle.std.specs.List.{AllByRecursion, list_all, Contains}
use Rattle.std.proofs.lemmas.List.Sums.{AllPass-from_list_all}
use Rattle.std.specs.Str.{bytes_eq, byte}
use Rattle.std.proofs.lemmas.Slice.Eq.{bytes_eq-Decides}
use Rattle.unicode_ident.specs.Ident.{is_xid_start, is_xid_continue}
use Rattle.unicode_normalization.specs.Forms.{nfkc}
use Rattle.py_syntax.specs.declared.key.Key.{Key}
use Rattle.py_syntax.specs.declared.key.Key.TheVariants as key
use Rattle.py_syntax.specs.declared.token.TokenKind.{TokenKind}
use Rattle.py_syntax.specs.declared.token.TokenKind.TheVariants as token
use Rattle.py_syntax.specs.Texts.{key_text, key_of, all_keys}
use Rattle.py_lexer.specs.declared.placed.Placed.{Placed}
use Rattle.py_lexer.specs.Places.{characters, character_at}
use Rattle.py_lexer.specs.Reading.{Fault, ◌>>=◌}
use Rattle.py_lexer_words.specs.Words.{begins_name, is_python_identifier}
use Rattle.py_lexer.specs.Words.{word, word_at, word_len, past_word, keyword_or_name}
use Rattle.py_lexer.specs.Strings.{is_quote, prefix_of, begins_string}
use Rattle.py_lexer.specs.Digits.{NextIsNot}
use Rattle.py_lexer.specs.Spelling.{EndsWord, IsIdentifier, IsQuote, all_prefixes}
use Rattle.py_lexer.proofs.Spelled.{Spelled, front_split, found_passes, one_true, first_true, second_true, second_or}
use Rattle.py_lexer.proofs.WordLemmas.{continues, no_nul}

key_found : (k : Key) → key_of (key_text k) ≡ Some k
key_found key.False = refl
key_found key.Nothing = refl
key_found key.True = refl
key_found key.And = refl
key_found key.As = refl
key_found key.Assert = refl
key_found key.Async = refl
key_found key.Await = refl
key_found key.Break = refl
key_found key.Class = refl
key_found key.Continue = refl
key_found key.Def = refl
key_found key.Del = refl
key_found key.Elif = refl
key_found key.Else = refl
key_found key.Except = refl
key_found key.Finally = refl
key_found key.For = refl
key_found key.From = refl
key_found key.Global = refl
key_found key.If = refl
key_found key.Import = refl
key_found key.In = refl
key_found key.Is = refl
key_found key.Lambda = refl
key_found key.Nonlocal = refl
key_found key.Not = refl
key_found key.Or = refl
key_found key.Pass = refl
key_found key.Raise = refl
key_found key.Return = refl
key_found key.Try = refl
key_found key.While = refl
key_found key.With = refl
key_found key.Yield = refl

key_written : (text : List ℕ) (k : Key) → key_of text ≡ Some k → text ≡ key_text k
key_written text k found =
    sym ((bytes_eq-Decides (key_text k) text).0 (found_passes (λ x. bytes_eq (key_text x) text) all_keys k found))

no_key : (text : List ℕ) → key_of text ≡ None → (k : Key) → text ≢ key_text k
no_key text none k is =
    let both : None ≡ Some k = sym none ∙ ap key_of is ∙ key_found k in cc

-- the characters of a word continue an identifier, and the one behind them does not
abbrev Continues : List ℕ → Type 0
Continues = AllByRecursion (λ c. is_xid_continue c ≡ true)

abbrev Cut : ℕ → List Placed → Type 0
Cut n cs = Continues (characters (take n cs)) × EndsWord (characters (drop n cs))

cut_case : (c : Placed) (cs : List Placed) (b : Bool) → is_xid_continue c.character ≡ b → Cut (word_len cs) cs → Cut (cond b (1 + word_len cs) 0) (c ∷ cs)
cut_case c cs true is more = subst (λ n. Cut n (c ∷ cs)) (sym (one-add (word_len cs))) ((is, more.0), more.1)
cut_case c cs false is more = (tt, λ h. let e : true ≡ false = sym h ∙ is in cc)

pub word_cut : (cs : List Placed) → Cut (word_len cs) cs
word_cut [] = (tt, tt)
word_cut (c ∷ cs) = cut_case c cs (is_xid_continue c.character) refl (word_cut cs)

begins : (c : ℕ) → begins_name c ≡ true → (c ≡ byte "_") ⊎ (is_xid_start c ≡ true)
begins c h = elim (one_true (c == byte "_") (is_xid_start c) h) [ inl a ↦ inl (eqb-true c 95 a) | inr b ↦ inr b ]

word_begun : (c : Placed) (cs : List Placed) (b : Bool) → is_xid_continue c.character ≡ b → b ≡ true → begins_name c.character ≡ true → Cut (cond b (1 + word_len cs) 0) (c ∷ cs) → IsIdentifier (characters (take (cond b (1 + word_len cs) 0) (c ∷ cs)))
word_begun c cs true is holds h cut =
    let at : Cut (suc (word_len cs)) (c ∷ cs) = subst (λ n. Cut n (c ∷ cs)) (one-add (word_len cs)) cut in
    subst (λ n. IsIdentifier (characters (take n (c ∷ cs)))) (sym (one-add (word_len cs))) (begins c.character h, at.0.1)
word_begun c cs false is holds h cut = cc

word_identifier : (cs : List Placed) → begins_name (character_at 0 cs) ≡ true → IsIdentifier (word_at cs)
word_identifier [] h = let e : true ≡ false = sym h ∙ no_nul in cc
word_identifier (c ∷ cs) h =
    word_begun c cs (is_xid_continue c.character) refl (continues c.character h) h (word_cut (c ∷ cs))

all_continue : (cs : List ℕ) → list_all is_xid_continue cs ≡ true → Continues cs
all_continue [] h = tt
all_continue (c ∷ cs) h = (first_true _ _ h, all_continue cs (second_true (is_xid_continue c) _ h))

identifier : (cs : List ℕ) → is_python_identifier cs ≡ true → IsIdentifier cs
identifier [] h = cc
identifier (c ∷ cs) h = (begins c (first_true _ _ h), all_continue cs (second_true (begins_name c) _ h))

-- a word before quotes, which is no prefix of theirs
prefixes_found : list_all (λ text. is_some (prefix_of text)) all_prefixes ≡ true
prefixes_found = refl

quote_test : (c : ℕ) → IsQuote c → is_quote c ≡ true
quote_test c (inl a) = second_or (c == byte "\"") _ (eq-eqb c 39 a)
quote_test c (inr b) = ap (λ x. x || (c == byte "'")) (eq-eqb c 34 b)

behind_word : (cs behind : List Placed) (b : Bool) → (is_quote (character_at 0 behind) && b) ≡ false → b ≡ true → NextIsNot IsQuote (characters behind)
behind_word cs [] b none h = tt
behind_word cs (c ∷ behind) b none h = λ q.
    let both : (is_quote c.character && b) ≡ true = rw (quote_test c.character q) h in
    let e : true ≡ false = sym both ∙ none in cc

all_at : (p : List ℕ → Bool) (xs : List (List ℕ)) (k : ℕ) (d : List ℕ) → k < length xs → list_all p xs ≡ true → p (slice_index_or xs k d) ≡ true
all_at p xs k d lt all = AllPass-from_list_all p xs all k d lt

no_prefix : (cs : List Placed) → begins_string cs ≡ false → Contains all_prefixes (word_at cs) → NextIsNot IsQuote (characters (past_word cs))
no_prefix cs none h = behind_word cs (past_word cs) (is_some (prefix_of (word_at cs))) none
    (subst (λ text. is_some (prefix_of text) ≡ true) h.2 (all_at (λ text. is_some (prefix_of text)) all_prefixes h.0 (word_at cs) h.1 prefixes_found))

name_case : (b : Bool) (cs : List Placed) (f : Fault) → is_python_identifier (nfkc (word_at cs)) ≡ b → IsIdentifier (word_at cs) → ((k : Key) → word_at cs ≢ key_text k) → begins_string cs ≡ false → IfOk {T = TokenKind × List Placed} ((if b then Ok (token.Name (encode_utf8_all (nfkc (word_at cs)))) else Err f) >>= λ k. Ok (k, past_word cs)) (λ x. Spelled cs x.0 x.1)
name_case true cs f is name none no_string = record {
  text = word_at cs;
  split = front_split (word_len cs) cs;
  spells = record {
    value = refl;
    is_identifier = name;
    is_normal = identifier (nfkc (word_at cs)) is;
    no_key = none;
    no_prefix = no_prefix cs no_string;
    ends = (word_cut cs).1;
  };
}
name_case false cs f is name none no_string = tt

key_case : (o : Option Key) (cs : List Placed) (f : Fault) → key_of (word_at cs) ≡ o → IsIdentifier (word_at cs) → begins_string cs ≡ false → IfOk {T = TokenKind × List Placed} (keyword_or_name o (word_at cs) f >>= λ k. Ok (k, past_word cs)) (λ x. Spelled cs x.0 x.1)
key_case (Some k) cs f is name no_string = record {
  text = word_at cs;
  split = front_split (word_len cs) cs;
  spells = (key_written (word_at cs) k is, (word_cut cs).1);
}
key_case None cs f is name no_string = name_case (is_python_identifier (nfkc (word_at cs))) cs f refl name (no_key (word_at cs) is) no_string

pub word_spelled : (cs : List Placed) → begins_string cs ≡ false → begins_name (character_at 0 cs) ≡ true → IfOk (word cs) (λ x. Spelled cs x.0 x.1)
unfolding word
word_spelled cs no_string h = key_case (key_of (word_at cs)) cs _ refl (word_identifier cs h) no_string
