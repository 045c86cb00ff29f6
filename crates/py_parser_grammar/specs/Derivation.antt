-- What is derived from a part of the grammar, and what is a front of it.
use Rattle.std.specs.Prelude.{◌≡◌, ℕ, ◌+◌, Bool, true, false, IsTrue, List, [], ◌∷◌, Some, None, slice_get}
use Rattle.std.proofs.Common.{inl, inr}
use Rattle.py_syntax.specs.declared.token.Token.{Token}
use Rattle.py_parser_grammar.specs.declared.terminal.Terminal.{Terminal}
use Rattle.py_parser_grammar.specs.Terminals.{terminal_of, same}
use Rattle.py_parser_grammar.specs.Levels.{Piece, Limit}
use Rattle.py_parser_grammar.specs.Grammar.{ExprSym, More, Sym, expr, more, Part, tok, sym, ◌·◌, ◌⊕◌, maybe, many, after, left, grown, rhs}
use Rattle.py_parser_grammar.specs.Actions.{Sem, SemMore, Val, act, grow}

-- whether what a symbol stands for passes the test on expressions; what is no expression passes
abbrev pub admits : Limit → (x : Sym) → Sem x → Bool
admits fits (expr e) p = fits p.tree
admits fits _ v = true

-- The tokens from the first number up to the second are derived from the part, and stand for the value. Each expression
-- that is finished on the way passes the test.
pub data Derives (fits : Limit) (ts : List Token) : (r : Part) → ℕ → ℕ → Val r → Type 0 where
  one : (c : Terminal) (i : ℕ) (t : Token) → slice_get ts i ≡ Some t → same (terminal_of t.kind) c ≡ true → Derives fits ts (tok c) i (i + 1) t
  by_rule : (x : Sym) (i j : ℕ) (v : Val (rhs x)) → Derives fits ts (rhs x) i j v → IsTrue (admits fits x (act x v)) → Derives fits ts (sym x) i j (act x v)
  both : (a b : Part) (i j k : ℕ) (v : Val a) (w : Val b) → Derives fits ts a i j v → Derives fits ts b j k w → Derives fits ts (a · b) i k (v, w)
  first : (a b : Part) (i j : ℕ) (v : Val a) → Derives fits ts a i j v → Derives fits ts (a ⊕ b) i j (inl v)
  other : (a b : Part) (i j : ℕ) (v : Val b) → Derives fits ts b i j v → Derives fits ts (a ⊕ b) i j (inr v)
  absent : (a : Part) (i : ℕ) → Derives fits ts (maybe a) i i None
  present : (a : Part) (i j : ℕ) (v : Val a) → Derives fits ts a i j v → Derives fits ts (maybe a) i j (Some v)
  no_more : (a : Part) (i : ℕ) → Derives fits ts (many a) i i []
  again : (a : Part) (i j k : ℕ) (v : Val a) (vs : List (Val a)) → Derives fits ts a i j v → Derives fits ts (many a) j k vs → Derives fits ts (many a) i k (v ∷ vs)
  -- of what stands between separators: nothing more, a last separator, or a separator and an item
  ends : (c : Terminal) (a : Part) (i : ℕ) → Derives fits ts (after c a) i i ([], false)
  trails : (c : Terminal) (a : Part) (i j : ℕ) (t : Token) → Derives fits ts (tok c) i j t → Derives fits ts (after c a) i j ([], true)
  goes_on : (c : Terminal) (a : Part) (i j k l : ℕ) (t : Token) (v : Val a) (vs : List (Val a) × Bool) → Derives fits ts (tok c) i j t → Derives fits ts a j k v → Derives fits ts (after c a) k l vs → Derives fits ts (after c a) i l (v ∷ vs.0, vs.1)
  -- of what is grouped from the left: the first operand, and then what goes on with all that stands in front
  from_left : (e : ExprSym) (m : More) (i j k : ℕ) (v u : Piece) → Derives fits ts (sym (expr e)) i j v → Derives fits ts (grown m v) j k u → Derives fits ts (left e m) i k u
  full : (m : More) (v : Piece) (i : ℕ) → Derives fits ts (grown m v) i i v
  grows : (m : More) (v u : Piece) (i j k : ℕ) (w : SemMore m) → Derives fits ts (sym (more m)) i j w → IsTrue (fits (grow m v w).tree) → Derives fits ts (grown m (grow m v w)) j k u → Derives fits ts (grown m v) i k u

-- The tokens from a number up to n are a front of the part: there are none, they are derived from it, or they are derived
-- from its first parts and a front of the next one. What was finished on the way passes the test; what ends at n and is
-- not finished does not need to.
pub data Front (fits : Limit) (ts : List Token) (n : ℕ) : Part → ℕ → Type 0 where
  empty : (r : Part) → Front fits ts n r n
  whole : (r : Part) (i : ℕ) (v : Val r) → Derives fits ts r i n v → Front fits ts n r i
  of_rule : (x : Sym) (i : ℕ) → Front fits ts n (rhs x) i → Front fits ts n (sym x) i
  in_first : (a b : Part) (i : ℕ) → Front fits ts n a i → Front fits ts n (a · b) i
  in_second : (a b : Part) (i j : ℕ) (v : Val a) → Derives fits ts a i j v → Front fits ts n b j → Front fits ts n (a · b) i
  of_first : (a b : Part) (i : ℕ) → Front fits ts n a i → Front fits ts n (a ⊕ b) i
  of_other : (a b : Part) (i : ℕ) → Front fits ts n b i → Front fits ts n (a ⊕ b) i
  of_maybe : (a : Part) (i : ℕ) → Front fits ts n a i → Front fits ts n (maybe a) i
  in_one : (a : Part) (i : ℕ) → Front fits ts n a i → Front fits ts n (many a) i
  in_more : (a : Part) (i j : ℕ) (v : Val a) → Derives fits ts a i j v → Front fits ts n (many a) j → Front fits ts n (many a) i
  in_item : (c : Terminal) (a : Part) (i j : ℕ) (t : Token) → Derives fits ts (tok c) i j t → Front fits ts n a j → Front fits ts n (after c a) i
  in_items : (c : Terminal) (a : Part) (i j k : ℕ) (t : Token) (v : Val a) → Derives fits ts (tok c) i j t → Derives fits ts a j k v → Front fits ts n (after c a) k → Front fits ts n (after c a) i
  in_left : (e : ExprSym) (m : More) (i : ℕ) → Front fits ts n (sym (expr e)) i → Front fits ts n (left e m) i
  behind_left : (e : ExprSym) (m : More) (i j : ℕ) (v : Piece) → Derives fits ts (sym (expr e)) i j v → Front fits ts n (grown m v) j → Front fits ts n (left e m) i
  in_growth : (m : More) (v : Piece) (i : ℕ) → Front fits ts n (sym (more m)) i → Front fits ts n (grown m v) i
  behind_growth : (m : More) (v : Piece) (i j : ℕ) (w : SemMore m) → Derives fits ts (sym (more m)) i j w → IsTrue (fits (grow m v w).tree) → Front fits ts n (grown m (grow m v w)) j → Front fits ts n (grown m v) i
