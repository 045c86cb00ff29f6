-- The tokens of a text spell it, end once, are balanced, and are in order.
use Rattle.std.proofs.Common.{◌≡◌, ℕ, zero, suc, ◌+◌, Bool, true, false, List, [], ◌∷◌, length, Some, None, Ok, Err, Result, refl, ap, sym, subst, ◌∙◌, arith, ◌⊎◌, inl, inr}
use Rattle.std.specs.Prelude.{◌≢◌, IfOk, if◌then◌else◌, ◌==◌}
use Rattle.std.specs.List.{AllByRecursion}
use Rattle.std.proofs.lemmas.List.Elements.{All-from_recursion}
use Rattle.std.proofs.lemmas.List.Kept.{AllPairs-cons}
use Rattle.py_syntax.specs.declared.token.Span.{Span}
use Rattle.py_syntax.specs.declared.token.Token.{Token}
use Rattle.py_syntax.specs.declared.token.Tokens.{Tokens}
use Rattle.py_syntax.specs.declared.token.TokenKind.{TokenKind}
use Rattle.py_syntax.specs.declared.token.TokenKind.TheVariants.{Newline, Indent, Dedent, End}
use Rattle.py_syntax.specs.declared.token.TokenKind.TheVariants as kind
use Rattle.py_syntax.specs.Tokens.{IsUpTo, EndsOnce, AreBalanced, AreInOrder, levels_after, levels_behind}
use Rattle.py_lexer.specs.declared.fault.LexError.{LexError}
use Rattle.py_lexer.specs.declared.gap.Gap.{Gap}
use Rattle.py_lexer.specs.Places.{line_feed_character, start, placed, plain, end_of}
use Rattle.py_lexer.specs.Places as places
use Rattle.py_lexer.specs.Laws.{AreGaps, AreSpelled}
use Rattle.py_lexer.specs.Reading.{Fault, Gives}
use Rattle.py_lexer.specs.Lines.{logical_lines, nested}
use Rattle.py_lexer.specs.Tokens.{Item, pieces_of, items_of, put, settled, tokens_of}
use Rattle.py_lexer.proofs.PieceLemmas.{side_by_side}
use Rattle.py_lexer.proofs.OrderLemmas.{nested_in_order, lines_in_order, all_written, pieces_in_order}
use Rattle.py_lexer.proofs.RightItems.{Behind, AreRight, laid_right}

items_right : (text : List ℕ) → AreRight 0 start text (items_of text)
items_right text =
    let end = end_of start text in
    laid_right end (logical_lines start.line (nested None [] (pieces_of text))) [] start text
    (lines_in_order end (nested None [] (pieces_of text)) start.line start text
    (nested_in_order end (pieces_of text) None [] start text
    (pieces_in_order end (pieces_of text) start text (all_written (length text) end (placed start text)) (side_by_side text) refl)))

-- where no item is a fault, the tokens are the items
abbrev all_ok : List Token → List Item
all_ok [] = []
all_ok (t ∷ ts) = Ok t ∷ all_ok ts

put_ok : (t : Token) (r : Result (List Token) Fault) (ts : List Token) → put t r ≡ Ok ts → (others : List Token) × (r ≡ Ok others) × (ts ≡ t ∷ others)
put_ok t (Ok others) ts is = (others, refl, cc)
put_ok t (Err f) ts is = cc

settled_ok : (items : List Item) (ts : List Token) → settled items ≡ Ok ts → items ≡ all_ok ts
settled_ok [] ts is = ap all_ok (let e : [] ≡ ts = cc in e)
settled_ok (Ok t ∷ items) ts is =
    let o = put_ok t (settled items) ts is in
    ap (λ l. Ok t ∷ l) (settled_ok items o.0 o.1) ∙ ap all_ok (sym o.2)
settled_ok (Err f ∷ items) ts is = cc

tokens_right : (text : List ℕ) (ts : List Token) → tokens_of text ≡ Ok ts → AreRight 0 start (plain text) (all_ok ts)
unfolding tokens_of
tokens_right text ts is =
    subst (AreRight 0 start (plain text)) (settled_ok (items_of (plain text)) ts is) (items_right (plain text))

none_after : (ts : List Token) → all_ok ts ≡ [] → ts ≡ []
none_after [] is = refl
none_after (t ∷ ts) is = cc

-- what holds behind a token, whatever it asks for
behind_is : (k : TokenKind) (n : ℕ) (more : ℕ → Type 0) (over goal : Type 0) → Behind k n more over → ((m : ℕ) → more m → goal) → (over → goal) → goal
behind_is (kind.Name x) n more over goal h on last = on n h
behind_is (kind.Int x) n more over goal h on last = on n h
behind_is (kind.Str x) n more over goal h on last = on n h
behind_is (kind.Key x) n more over goal h on last = on n h
behind_is (kind.Sign x) n more over goal h on last = on n h
behind_is Newline n more over goal h on last = on n h
behind_is Indent n more over goal h on last = on (suc n) h
behind_is Dedent zero more over goal h on last = absurd h
behind_is Dedent (suc n) more over goal h on last = on n h
behind_is End n more over goal h on last = last h.1

-- the tokens spell the text
right_spelled : (ts : List Token) (n : ℕ) (at : Span) (text : List ℕ) → AreRight n at text (all_ok ts) → AreSpelled ts at text
right_spelled [] n at text s = absurd s
right_spelled (t ∷ ts) n at text s = record {
  gaps = s.before.0;
  here = s.here;
  own = s.own;
  rest = s.rest;
  are_gaps = s.before.1;
  split = s.split;
  spells = s.spells;
  behind = behind_is t.kind n _ _ (AreSpelled ts (end_of t.span s.own) s.rest) s.behind (λ m h. right_spelled ts m (end_of t.span s.own) s.rest h)
      (λ last. subst (λ l. AreSpelled l (end_of t.span s.own) s.rest) (sym (none_after ts last.0)) last.1);
}

-- places in order
up_to_self : (a : Span) → IsUpTo a a
up_to_self a = inr (refl, omega arith)

up_to_along : (a b c : Span) → IsUpTo a b → IsUpTo b c → IsUpTo a c
up_to_along a b c (inl h) (inl k) = inl (omega arith)
up_to_along a b c (inl h) (inr k) = inl (let e = k.0 in omega arith)
up_to_along a b c (inr h) (inl k) = inl (let e = h.0 in omega arith)
up_to_along a b c (inr h) (inr k) = inr (h.0 ∙ k.0, let x = h.1 in let y = k.1 in omega arith)

behind_up : (b : Bool) (s : Span) → IsUpTo s (if b then record { line = s.line + 1; col = 1 } else record { line = s.line; col = s.col + 1 })
behind_up true s = inl (omega arith)
behind_up false s = inr (refl, omega arith)

end_of_up : (s : Span) (cs : List ℕ) → IsUpTo s (end_of s cs)
end_of_up s [] = up_to_self s
end_of_up s (c ∷ cs) = up_to_along s (places.behind c s) (end_of s (c ∷ cs)) (behind_up (c == line_feed_character) s) (end_of_up (places.behind c s) cs)

gaps_up : (gs : List Gap) (a : Span) (x : List ℕ) (b : Span) (y : List ℕ) → AreGaps a x gs b y → IsUpTo a b
gaps_up [] a x b y h = subst (IsUpTo a) h.0 (up_to_self a)
gaps_up (g ∷ gs) a x b y h =
    up_to_along a (end_of a h.0) b (end_of_up a h.0) (gaps_up gs (end_of a h.0) h.1 b y h.4)

-- tokens that are right from a place on, whatever spells them
abbrev Right : ℕ → Span → List Token → Type 0
Right n at [] = ⊥
Right n at (t ∷ ts) = IsUpTo at t.span × Behind t.kind n (λ m. Right m t.span ts) (ts ≡ [])

sooner_right : (n : ℕ) (a b : Span) (ts : List Token) → IsUpTo a b → Right n b ts → Right n a ts
sooner_right n a b [] h s = s
sooner_right n a b (t ∷ ts) h s = (up_to_along a b t.span h s.0, s.1)

behind_on : (k : TokenKind) (n : ℕ) (more more2 : ℕ → Type 0) (over over2 : Type 0) → Behind k n more over → ((m : ℕ) → more m → more2 m) → (over → over2) → Behind k n more2 over2
behind_on (kind.Name x) n more more2 over over2 h on last = on n h
behind_on (kind.Int x) n more more2 over over2 h on last = on n h
behind_on (kind.Str x) n more more2 over over2 h on last = on n h
behind_on (kind.Key x) n more more2 over over2 h on last = on n h
behind_on (kind.Sign x) n more more2 over over2 h on last = on n h
behind_on Newline n more more2 over over2 h on last = on n h
behind_on Indent n more more2 over over2 h on last = on (suc n) h
behind_on Dedent zero more more2 over over2 h on last = h
behind_on Dedent (suc n) more more2 over over2 h on last = on n h
behind_on End n more more2 over over2 h on last = (h.0, last h.1)

are_right : (ts : List Token) (n : ℕ) (at : Span) (text : List ℕ) → AreRight n at text (all_ok ts) → Right n at ts
are_right [] n at text s = s
are_right (t ∷ ts) n at text s = (
  gaps_up s.before.0 at text t.span s.here s.before.1,
  behind_on t.kind n _ _ _ _ s.behind
      (λ m h. sooner_right m t.span (end_of t.span s.own) ts (end_of_up t.span s.own) (are_right ts m (end_of t.span s.own) s.rest h))
      (λ last. none_after ts last.0),
)

-- they end once
cons_ends : (t : Token) (ts : List Token) → t.kind ≢ End → EndsOnce ts → EndsOnce (t ∷ ts)
cons_ends t ts no_end e = record {
  front = t ∷ e.front;
  last = e.last;
  split = ap (λ l. t ∷ l) e.split;
  ends = e.ends;
  no_other = (no_end, e.no_other);
}

ends_with : (k : TokenKind) (n : ℕ) (at : Span) (ts : List Token) → Behind k n (λ m. Right m at ts) (ts ≡ []) → ((m : ℕ) → Right m at ts → EndsOnce ts) → EndsOnce (record { kind = k; span = at } ∷ ts)
ends_with (kind.Name x) n at ts h more = cons_ends _ ts (λ e. cc) (more n h)
ends_with (kind.Int x) n at ts h more = cons_ends _ ts (λ e. cc) (more n h)
ends_with (kind.Str x) n at ts h more = cons_ends _ ts (λ e. cc) (more n h)
ends_with (kind.Key x) n at ts h more = cons_ends _ ts (λ e. cc) (more n h)
ends_with (kind.Sign x) n at ts h more = cons_ends _ ts (λ e. cc) (more n h)
ends_with Newline n at ts h more = cons_ends _ ts (λ e. cc) (more n h)
ends_with Indent n at ts h more = cons_ends _ ts (λ e. cc) (more (suc n) h)
ends_with Dedent zero at ts h more = absurd h
ends_with Dedent (suc n) at ts h more = cons_ends _ ts (λ e. cc) (more n h)
ends_with End n at ts h more = record {
  front = [];
  last = record { kind = End; span = at };
  split = ap (λ l. record { kind = End; span = at } ∷ l) h.1;
  ends = refl;
  no_other = tt;
}

right_ends : (ts : List Token) (n : ℕ) (at : Span) → Right n at ts → EndsOnce ts
right_ends [] n at s = absurd s
right_ends (t ∷ ts) n at s = ends_with t.kind n t.span ts s.1 (λ m h. right_ends ts m t.span h)

-- their levels are balanced
levels_with : (k : TokenKind) (n : ℕ) (at : Span) (ts : List Token) → Behind k n (λ m. Right m at ts) (ts ≡ []) → ((m : ℕ) → Right m at ts → levels_after (Some m) ts ≡ Some 0) → levels_after (levels_behind k n) ts ≡ Some 0
levels_with (kind.Name x) n at ts h more = more n h
levels_with (kind.Int x) n at ts h more = more n h
levels_with (kind.Str x) n at ts h more = more n h
levels_with (kind.Key x) n at ts h more = more n h
levels_with (kind.Sign x) n at ts h more = more n h
levels_with Newline n at ts h more = more n h
levels_with Indent n at ts h more = more (suc n) h
levels_with Dedent zero at ts h more = absurd h
levels_with Dedent (suc n) at ts h more = more n h
levels_with End n at ts h more = ap (levels_after (Some n)) h.1 ∙ ap Some h.0

right_balances : (ts : List Token) (n : ℕ) (at : Span) → Right n at ts → levels_after (Some n) ts ≡ Some 0
right_balances [] n at s = absurd s
right_balances (t ∷ ts) n at s = levels_with t.kind n t.span ts s.1 (λ m h. right_balances ts m t.span h)

-- and they are in order
rest_right : (k : TokenKind) (n : ℕ) (at : Span) (ts : List Token) → Behind k n (λ m. Right m at ts) (ts ≡ []) → (ts ≡ []) ⊎ ((m : ℕ) × Right m at ts)
rest_right k n at ts h = behind_is k n _ _ _ h (λ m r. inr (m, r)) (λ none. inl none)

abbrev AllLater : Span → List Token → Type 0
AllLater at ts = AllByRecursion (λ t. IsUpTo at t.span) ts

right_later : (ts : List Token) (n : ℕ) (a b : Span) → IsUpTo a b → Right n b ts → AllLater a ts
right_later [] n a b up s = absurd s
right_later (t ∷ ts) n a b up s =
    let here = up_to_along a b t.span up s.0 in (
      here,
      elim (rest_right t.kind n t.span ts s.1) [
        | inl none ↦ subst (AllLater a) (sym none) tt
        | inr h ↦ right_later ts h.0 a t.span here h.1
      ],
    )

right_in_order : (ts : List Token) (n : ℕ) (at : Span) → Right n at ts → AreInOrder ts
right_in_order [] n at s = absurd s
right_in_order (t ∷ ts) n at s = elim (rest_right t.kind n t.span ts s.1) [
  | inl none ↦ λ i j d lt within. absurd (let e = ap length none in omega arith)
  | inr h ↦ AllPairs-cons (λ t u. IsUpTo t.span u.span) t ts (All-from_recursion (λ u. IsUpTo t.span u.span) ts (right_later ts h.0 t.span t.span (up_to_self t.span) h.1)) (right_in_order ts h.0 t.span h.1)
]

-- the laws
all_right : (text : List ℕ) (ts : List Token) → tokens_of text ≡ Ok ts → Right 0 start ts
all_right text ts is = are_right ts 0 start (plain text) (tokens_right text ts is)

tokens_end_once : (text : List ℕ) (ts : List Token) → tokens_of text ≡ Ok ts → EndsOnce ts
tokens_end_once text ts is = right_ends ts 0 start (all_right text ts is)

tokens_are_balanced : (text : List ℕ) (ts : List Token) → tokens_of text ≡ Ok ts → AreBalanced ts
tokens_are_balanced text ts is = right_balances ts 0 start (all_right text ts is)

tokens_are_in_order : (text : List ℕ) (ts : List Token) → tokens_of text ≡ Ok ts → AreInOrder ts
tokens_are_in_order text ts is = right_in_order ts 0 start (all_right text ts is)

tokens_are_spelled : (text : List ℕ) (ts : List Token) → tokens_of text ≡ Ok ts → AreSpelled ts start (plain text)
tokens_are_spelled text ts is = right_spelled ts 0 start (plain text) (tokens_right text ts is)

-- the same of what a call gives
pub gives_end : (r : Result Tokens LexError) (text : List ℕ) → Gives (λ t. t.list) r (tokens_of text) → IfOk r (λ t. EndsOnce t.list)
gives_end (Ok t) text is = tokens_end_once text t.list is
gives_end (Err e) text is = tt

pub gives_balance : (r : Result Tokens LexError) (text : List ℕ) → Gives (λ t. t.list) r (tokens_of text) → IfOk r (λ t. AreBalanced t.list)
gives_balance (Ok t) text is = tokens_are_balanced text t.list is
gives_balance (Err e) text is = tt

pub gives_order : (r : Result Tokens LexError) (text : List ℕ) → Gives (λ t. t.list) r (tokens_of text) → IfOk r (λ t. AreInOrder t.list)
gives_order (Ok t) text is = tokens_are_in_order text t.list is
gives_order (Err e) text is = tt

pub gives_spelling : (r : Result Tokens LexError) (text : List ℕ) → Gives (λ t. t.list) r (tokens_of text) → IfOk r (λ t. AreSpelled t.list start (plain text))
gives_spelling (Ok t) text is = tokens_are_spelled text t.list is
gives_spelling (Err e) text is = tt
