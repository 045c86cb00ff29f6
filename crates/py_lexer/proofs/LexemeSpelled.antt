-- What spells gaps and tokens.
use Rattle.std.proofs.Common.{◌≡◌, ◌≢◌, ℕ, ◌+◌, Bool, true, false, cond, not, List, [], ◌∷◌, ◌++◌, take, drop, Some, None, refl, ap, sym, subst, ◌∙◌, one-add, eqb-true, eq-eqb}
use Rattle.std.specs.Prelude.{IfOk, IfSome, if◌then◌else◌, ◌==◌, ◌&&◌}
use Rattle.std.specs.List.{AllByRecursion, prefix_len}
use Rattle.std.specs.Str.{byte}
use Rattle.py_lexer.specs.declared.gap.Gap.{Gap}
use Rattle.py_lexer.specs.declared.gap.Gap.TheVariants.{Space, Tab, FormFeed, Comment, Join, LineEnd}
use Rattle.py_lexer.specs.declared.placed.Placed.{Placed}
use Rattle.py_lexer.specs.Places.{characters, character_at, line_feed_character}
use Rattle.py_lexer_words.specs.Words.{begins_name}
use Rattle.py_lexer.specs.Words.{word}
use Rattle.py_lexer.specs.Numbers.{begins_number, number}
use Rattle.py_lexer.specs.Signs.{sign_at}
use Rattle.py_lexer.specs.Strings.{begins_string, string_at, backslash}
use Rattle.py_lexer.specs.Pieces.{gap, lexeme, past_comment}
use Rattle.py_lexer.specs.Digits.{NextIsNot}
use Rattle.py_lexer.specs.Spelling.{SpellsGap}
use Rattle.py_lexer.proofs.Spelled.{Spelled, front_split, first_true, second_true}
use Rattle.py_lexer.proofs.SignSpelled.{sign_spelled}
use Rattle.py_lexer.proofs.WordSpelled.{word_spelled}
use Rattle.py_lexer.proofs.NumberSpelled.{number_spelled}
use Rattle.py_lexer.proofs.StringSpelled.{string_spelled}

lexeme_cases : (is_number is_string is_word : Bool) (cs : List Placed) → begins_number cs ≡ is_number → begins_string cs ≡ is_string → begins_name (character_at 0 cs) ≡ is_word →
    IfOk (if is_number then number cs else (if is_string then string_at cs else (if is_word then word cs else sign_at cs))) (λ x. Spelled cs x.0 x.1)
lexeme_cases true is_string is_word cs a b c = number_spelled cs
lexeme_cases false true is_word cs a b c = string_spelled cs b
lexeme_cases false false true cs a b c = word_spelled cs b c
lexeme_cases false false false cs a b c = sign_spelled cs a

-- the characters that a token is read from spell it
pub lexeme_spelled : (cs : List Placed) → IfOk (lexeme cs) (λ x. Spelled cs x.0 x.1)
unfolding lexeme
lexeme_spelled cs = lexeme_cases (begins_number cs) (begins_string cs) (begins_name (character_at 0 cs)) cs refl refl refl

-- the same of a gap
pub record SpelledGap (cs : List Placed) (g : Gap) (rest : List Placed) : Type 0 where
  pub text : List ℕ
  pub split : characters cs ≡ text ++ characters rest
  pub spells : SpellsGap g text (characters rest)

-- a comment ends before its line does
abbrev is_inside : Placed → Bool
is_inside c = not (c.character == line_feed_character)

abbrev Ends : ℕ → List Placed → Type 0
Ends n cs = AllByRecursion (λ c. c ≢ line_feed_character) (characters (take n cs)) × NextIsNot (λ c. c ≢ line_feed_character) (characters (drop n cs))

ends_case : (c : Placed) (cs : List Placed) (b : Bool) → (c.character == line_feed_character) ≡ b → Ends (prefix_len is_inside cs) cs → Ends (cond (not b) (1 + prefix_len is_inside cs) 0) (c ∷ cs)
ends_case c cs true is more = (tt, λ no_end. no_end (eqb-true c.character 10 is))
ends_case c cs false is more = subst (λ n. Ends n (c ∷ cs)) (sym (one-add (prefix_len is_inside cs))) (
  (λ e. let f : true ≡ false = sym (eq-eqb c.character 10 e) ∙ is in cc, more.0),
  more.1,
)

ends : (cs : List Placed) → Ends (prefix_len is_inside cs) cs
ends [] = (tt, tt)
ends (c ∷ cs) = ends_case c cs (c.character == line_feed_character) refl (ends cs)

one_character : (g : Gap) (c : Placed) (cs : List Placed) → SpellsGap g (c.character ∷ []) (characters cs) → SpelledGap (c ∷ cs) g cs
one_character g c cs h = record { text = c.character ∷ []; split = refl; spells = h }

comment_spelled : (c : Placed) (cs : List Placed) → c.character ≡ byte "#" → SpelledGap (c ∷ cs) Comment (past_comment cs)
comment_spelled c cs is =
    let n = prefix_len is_inside cs in
    record {
      text = c.character ∷ characters (take n cs);
      split = ap (λ l. c.character ∷ l) (front_split n cs);
      spells = (characters (take n cs), ap (λ x. x ∷ characters (take n cs)) is, (ends cs).0, (ends cs).1);
    }

join_spelled : (c : Placed) (cs : List Placed) → (c.character == backslash && character_at 0 cs == line_feed_character) ≡ true → SpelledGap (c ∷ cs) Join (drop 1 cs)
join_spelled c [] h = let e = second_true (c.character == backslash) _ h in cc
join_spelled c (d ∷ cs) h =
    let x = eqb-true c.character 92 (first_true _ _ h) in
    let y = eqb-true d.character 10 (second_true (c.character == backslash) _ h) in
    record { text = c.character ∷ d.character ∷ []; split = refl; spells = λ i. x i ∷ y i ∷ [] }

gap_cases : (space tab form_feed line_end comment join : Bool) (c : Placed) (cs : List Placed) → (c.character == byte " ") ≡ space → (c.character == 9) ≡ tab → (c.character == 12) ≡ form_feed → (c.character == line_feed_character) ≡ line_end → (c.character == byte "#") ≡ comment → (c.character == backslash && character_at 0 cs == line_feed_character) ≡ join →
    IfSome {T = Gap × List Placed} (if space then Some (Space, cs) else (if tab then Some (Tab, cs) else (if form_feed then Some (FormFeed, cs) else (if line_end then Some (LineEnd, cs) else (if comment then Some (Comment, past_comment cs) else (if join then Some (Join, drop 1 cs) else None)))))) (λ x. SpelledGap (c ∷ cs) x.0 x.1)
gap_cases true tab form_feed line_end comment join c cs ps pt pf pl pc pj = one_character Space c cs (ap (λ x. x ∷ []) (eqb-true c.character 32 ps))
gap_cases false true form_feed line_end comment join c cs ps pt pf pl pc pj = one_character Tab c cs (ap (λ x. x ∷ []) (eqb-true c.character 9 pt))
gap_cases false false true line_end comment join c cs ps pt pf pl pc pj = one_character FormFeed c cs (ap (λ x. x ∷ []) (eqb-true c.character 12 pf))
gap_cases false false false true comment join c cs ps pt pf pl pc pj = one_character LineEnd c cs (ap (λ x. x ∷ []) (eqb-true c.character 10 pl))
gap_cases false false false false true join c cs ps pt pf pl pc pj = comment_spelled c cs (eqb-true c.character 35 pc)
gap_cases false false false false false true c cs ps pt pf pl pc pj = join_spelled c cs pj
gap_cases false false false false false false c cs ps pt pf pl pc pj = tt

pub gap_spelled : (cs : List Placed) → IfSome (gap cs) (λ x. SpelledGap cs x.0 x.1)
unfolding gap
gap_spelled [] = tt
gap_spelled (c ∷ cs) = gap_cases _ _ _ _ _ _ c cs refl refl refl refl refl refl
