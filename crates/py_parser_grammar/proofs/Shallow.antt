-- No tree has an expression of level above 100.
use Rattle.std.specs.Prelude.{IsTrue, max, nat_le}
use Rattle.std.proofs.Common.{◌≡◌, ℕ, ◌≤◌, Bool, true, List, [], ◌∷◌, ◌++◌, Option, Some, None, inl, inr, refl, arith, ◌⊎◌}
use Rattle.py_syntax.specs.declared.token.Token.{Token}
use Rattle.py_parser_grammar.specs.Levels.{Piece, shallow}
use Rattle.py_parser_grammar.specs.Grammar as g
use Rattle.py_parser_grammar.specs.Grammar.{ExprSym, More, Sym, expr, more, Part, tok, ◌·◌, ◌⊕◌, maybe, many, after, left, grown, rhs, ATOM, MODULE}
use Rattle.py_parser_grammar.specs.Actions.{Val, Sem, act, grow}
use Rattle.py_parser_grammar.specs.Derivation.{admits, Derives, one, by_rule, both, first, other, absent, present, no_more, again, ends, trails, goes_on, from_left, full, grows}
use Rattle.std.proofs.lemmas.Bool.{leb-true}
use Rattle.py_syntax.specs.declared.token.Span.{Span}
use Rattle.py_parser_grammar.specs.declared.terminal.Terminal.TheVariants as terminal
use Rattle.py_syntax.specs.Expressions.{ExprTree}
use Rattle.py_syntax.specs.Statements.{StmtTree, Suite, HandlerTree, FuncTree, ClassTree, suite_of, arms_of, handlers_of, maybe_suite}
use Rattle.py_parser_grammar.specs.Levels.{level, maybe_level, list_level, params_level, stmt_level, suite_level, arms_level, handlers_level, maybe_suite_level}
use Rattle.py_parser_grammar.specs.Grammar.{TESTS, TARGETS, TEST, OR_MORE, COMP_MORE, COMP_OP, ARG, ENTRY, PLAIN, AUG, RETURN, RAISE, GLOBAL, ASSERT, DEL, IMPORT, FROM, DOTTED, ALIAS, SMALL, SIMPLE, STMT, IF, ARM, WHILE, FOR, TRY, EXCEPT, FINALLY, BLOCK, FUNC, PARAM, CLASS, CBLOCK, MEMBER, MARK, DECORATED, TOP}
use Rattle.py_parser_grammar.specs.Actions.{items, seconds, joined, trees_of, suite_behind, tree_behind, maybe_tree, suite_in, bases_in, marks_of}
use Rattle.py_parser_grammar.specs.Laws.{TreesAreShallow}

-- ---- the greatest level of the expressions in what a part stands for; parts of expressions count with the whole

abbrev greatest : {A : Type 0} → (A → ℕ) → List A → ℕ
greatest f [] = 0
greatest f (x ∷ xs) = max (f x) (greatest f xs)

abbrev of_stmts : List StmtTree → ℕ
of_stmts ss = suite_level (suite_of ss)

abbrev of_handler : HandlerTree → ℕ
of_handler h = max (maybe_level h.class) (suite_level h.body)

abbrev of_func : FuncTree × Span → ℕ
of_func f = max (params_level f.0.params) (max (maybe_level f.0.ret) (suite_level f.0.body))

abbrev of_class : ClassTree × Span → ℕ
of_class c = max (list_level c.0.bases) (suite_level c.0.body)

abbrev of_param : List ℕ × Option ExprTree → ℕ
of_param p = maybe_level p.1

abbrev of_sym : (x : Sym) → Sem x → ℕ
of_sym (expr e) p = level p.tree
of_sym PLAIN v = stmt_level v
of_sym RETURN v = stmt_level v
of_sym RAISE v = stmt_level v
of_sym GLOBAL v = stmt_level v
of_sym ASSERT v = stmt_level v
of_sym DEL v = stmt_level v
of_sym IMPORT v = stmt_level v
of_sym FROM v = stmt_level v
of_sym SMALL v = stmt_level v
of_sym SIMPLE v = of_stmts v
of_sym STMT v = of_stmts v
of_sym IF v = stmt_level v
of_sym ARM v = max (level v.0) (suite_level v.1)
of_sym WHILE v = stmt_level v
of_sym FOR v = stmt_level v
of_sym TRY v = stmt_level v
of_sym EXCEPT v = of_handler v
of_sym FINALLY v = of_stmts v
of_sym BLOCK v = of_stmts v
of_sym FUNC v = of_func v
of_sym PARAM v = of_param v
of_sym CLASS v = of_class v
of_sym CBLOCK v = of_stmts v
of_sym MEMBER v = of_stmts v
of_sym MARK v = level v.0
of_sym DECORATED v = stmt_level v
of_sym TOP v = of_stmts v
of_sym MODULE v = suite_level v
of_sym _ v = 0

abbrev of_part : (r : Part) → Val r → ℕ
of_part (tok c) v = 0
of_part (g.sym x) v = of_sym x v
of_part (a · b) v = max (of_part a v.0) (of_part b v.1)
of_part (a ⊕ b) (inl v) = of_part a v
of_part (a ⊕ b) (inr v) = of_part b v
of_part (maybe a) None = 0
of_part (maybe a) (Some v) = of_part a v
of_part (many a) vs = greatest (of_part a) vs
of_part (after c a) vs = greatest (of_part a) vs.0
of_part (left e m) p = level p.tree
of_part (grown m v) p = 0

-- ---- rows

stmts_append : (xs ys : List StmtTree) → of_stmts (xs ++ ys) ≡ max (of_stmts xs) (of_stmts ys)
stmts_append [] ys = omega arith
stmts_append (x ∷ xs) ys = omega (arith, stmts_append xs ys)

stmts_joined : (xs : List (List StmtTree)) → of_stmts (joined xs) ≡ greatest of_stmts xs
stmts_joined [] = refl
stmts_joined (x ∷ xs) = omega (arith, stmts_append x (joined xs), stmts_joined xs)

stmts_listed : (xs : List StmtTree) → of_stmts xs ≡ greatest stmt_level xs
stmts_listed [] = refl
stmts_listed (x ∷ xs) = omega (arith, stmts_listed xs)

abbrev of_arm : ExprTree × Suite → ℕ
of_arm a = max (level a.0) (suite_level a.1)

arms_seconds : (xs : List (Token × (ExprTree × Suite))) → arms_level (arms_of (seconds xs)) ≡ greatest (λ x. max 0 (of_arm x.1)) xs
arms_seconds [] = refl
arms_seconds (x ∷ xs) = omega (arith, arms_seconds xs)

handlers_listed : (hs : List HandlerTree) → handlers_level (handlers_of hs) ≡ greatest of_handler hs
handlers_listed [] = refl
handlers_listed (h ∷ hs) = omega (arith, handlers_listed hs)

params_listed : (ps : List (List ℕ × Option ExprTree)) → params_level ps ≡ greatest of_param ps
params_listed [] = refl
params_listed (p ∷ ps) = omega (arith, params_listed ps)

trees_listed : (ps : List Piece) → list_level (trees_of ps) ≡ greatest (λ p. level p.tree) ps
trees_listed [] = refl
trees_listed (p ∷ ps) = omega (arith, trees_listed ps)

marks_listed : (ms : List (ExprTree × Span)) → list_level (marks_of ms) ≡ greatest (λ m. level m.0) ms
marks_listed [] = refl
marks_listed (m ∷ ms) = omega (arith, marks_listed ms)

behind_level : (o : Option (Token × Piece)) (n : ℕ) → of_part (maybe (tok terminal.End · g.expression TEST)) o ≤ n → maybe_level (tree_behind o) ≤ n
behind_level None n h = omega arith
behind_level (Some x) n h = omega (arith, h)

maybe_tree_level : (o : Option Piece) (n : ℕ) → of_part (maybe (g.expression TEST)) o ≤ n → maybe_level (maybe_tree o) ≤ n
maybe_tree_level None n h = omega arith
maybe_tree_level (Some x) n h = h

suite_behind_level : (o : Option (Token × (Token × List StmtTree))) (n : ℕ) → of_part (maybe (tok terminal.End · g.body)) o ≤ n → of_stmts (suite_behind o) ≤ n
suite_behind_level None n h = omega arith
suite_behind_level (Some x) n h = omega (arith, h)

suite_in_level : (o : Option (List StmtTree)) (n : ℕ) → of_part (maybe (g.sym FINALLY)) o ≤ n → maybe_suite_level (maybe_suite (suite_in o)) ≤ n
suite_in_level None n h = omega arith
suite_in_level (Some x) n h = h

bases_level : (o : Option (Token × (Option (Piece × (List Piece × Bool)) × Token))) (n : ℕ) → of_part (maybe (tok terminal.End · maybe (g.list g.comma (g.expression TEST)) · tok terminal.End)) o ≤ n → list_level (bases_in o) ≤ n
bases_level None n h = omega arith
bases_level (Some (t, (None, u))) n h = omega arith
bases_level (Some (t, (Some (p, (ps, b)), u))) n h = omega (arith, h, trees_listed ps)

params_items_level : (o : Option ((List ℕ × Option ExprTree) × (List (List ℕ × Option ExprTree) × Bool))) (n : ℕ) → of_part (maybe (g.list g.comma (g.sym PARAM))) o ≤ n → params_level (items o) ≤ n
params_items_level None n h = omega arith
params_items_level (Some (p, (ps, b))) n h = omega (arith, h, params_listed ps)

-- ---- rules

act_level : (x : Sym) (v : Val (rhs x)) (n : ℕ) → (of_part (rhs x) v ≤ n) → (of_sym x (act x v) ≤ n) ⊎ ((e : ExprSym) × (x ≡ expr e))
act_level (expr e) v n h = inr (e, refl)
act_level PLAIN (p, None) n h = inl (omega (arith, h))
act_level PLAIN (p, Some (inl (colon, (mark, value)))) n h = inl (let w = behind_level value n (omega (arith, h)) in omega (arith, h, w))
act_level PLAIN (p, Some (inr (inl (equals, value)))) n h = inl (omega (arith, h))
act_level PLAIN (p, Some (inr (inr (op, value)))) n h = inl (omega (arith, h))
act_level RETURN (word, value) n h = inl (maybe_tree_level value n (omega (arith, h)))
act_level RAISE (word, value) n h = inl (maybe_tree_level value n (omega (arith, h)))
act_level GLOBAL (word, (name, names)) n h = inl (omega arith)
act_level ASSERT (word, (test, message)) n h = inl (let w = behind_level message n (omega (arith, h)) in omega (arith, h, w))
act_level DEL (word, p) n h = inl (omega (arith, h))
act_level IMPORT (word, (name, alias)) n h = inl (omega arith)
act_level FROM (word, (name, (_, inl (item, items_on)))) n h = inl (omega arith)
act_level FROM (word, (name, (_, inr (opens, (names, closes))))) n h = inl (omega arith)
act_level SMALL (inl word) n h = inl (omega arith)
act_level SMALL (inr (inl word)) n h = inl (omega arith)
act_level SMALL (inr (inr (inl word))) n h = inl (omega arith)
act_level SMALL (inr (inr (inr (inl v)))) n h = inl h
act_level SMALL (inr (inr (inr (inr (inl v))))) n h = inl h
act_level SMALL (inr (inr (inr (inr (inr (inl v)))))) n h = inl h
act_level SMALL (inr (inr (inr (inr (inr (inr (inl v))))))) n h = inl h
act_level SMALL (inr (inr (inr (inr (inr (inr (inr (inl v)))))))) n h = inl h
act_level SMALL (inr (inr (inr (inr (inr (inr (inr (inr (inl v))))))))) n h = inl h
act_level SMALL (inr (inr (inr (inr (inr (inr (inr (inr (inr (inl v)))))))))) n h = inl h
act_level SMALL (inr (inr (inr (inr (inr (inr (inr (inr (inr (inr v)))))))))) n h = inl h
act_level SIMPLE ((small, (smalls, b)), end) n h = inl (omega (arith, h, stmts_listed smalls))
act_level STMT (inl v) n h = inl (omega (arith, h))
act_level STMT (inr (inl v)) n h = inl (omega (arith, h))
act_level STMT (inr (inr (inl v))) n h = inl (omega (arith, h))
act_level STMT (inr (inr (inr (inl v)))) n h = inl (omega (arith, h))
act_level STMT (inr (inr (inr (inr v)))) n h = inl h
act_level IF (word, (arm, (arms, last))) n h = inl (let w = suite_behind_level last n (omega (arith, h)) in omega (arith, h, w, arms_seconds arms))
act_level ARM (test, (colon, body)) n h = inl (omega (arith, h))
act_level WHILE (word, (test, (colon, body))) n h = inl (omega (arith, h))
act_level FOR (word, (target, (_, (all, (colon, body))))) n h = inl (omega (arith, h))
act_level TRY (word, ((colon, body), inl (handler, (handlers, last)))) n h = inl (let w = suite_in_level last n (omega (arith, h)) in omega (arith, h, w, handlers_listed handlers))
act_level TRY (word, ((colon, body), inr last)) n h = inl (omega (arith, h))
act_level EXCEPT (word, (None, (colon, body))) n h = inl (omega (arith, h))
act_level EXCEPT (word, (Some (p, name), (colon, body))) n h = inl (omega (arith, h))
act_level FINALLY (word, (colon, body)) n h = inl (omega (arith, h))
act_level BLOCK (inl (line, (indent, (stmts, (others, dedent))))) n h = inl (omega (arith, h, stmts_append stmts (joined others), stmts_joined others))
act_level BLOCK (inr v) n h = inl h
act_level FUNC (word, (name, ((opens, (params, closes)), (ret, (colon, body))))) n h =
    inl (let w = params_items_level params n (omega (arith, h)) in let u = behind_level ret n (omega (arith, h)) in omega (arith, h, w, u))
act_level PARAM (name, mark) n h = inl (behind_level mark n (omega (arith, h)))
act_level CLASS (word, (name, (bases, (colon, body)))) n h = inl (let w = bases_level bases n (omega (arith, h)) in omega (arith, h, w))
act_level CBLOCK (inl (line, (indent, (stmts, (others, dedent))))) n h = inl (omega (arith, h, stmts_append stmts (joined others), stmts_joined others))
act_level CBLOCK (inr v) n h = inl h
act_level MEMBER (inl f) n h = inl (omega (arith, h))
act_level MEMBER (inr v) n h = inl h
act_level MARK (word, (p, end)) n h = inl (omega (arith, h))
act_level DECORATED (mark, (marks, inl f)) n h = inl (omega (arith, h, marks_listed marks))
act_level DECORATED (mark, (marks, inr c)) n h = inl (omega (arith, h, marks_listed marks))
act_level TOP (inl f) n h = inl (omega (arith, h))
act_level TOP (inr (inl c)) n h = inl (omega (arith, h))
act_level TOP (inr (inr (inl v))) n h = inl (omega (arith, h))
act_level TOP (inr (inr (inr v))) n h = inl h
act_level MODULE (all, end) n h = inl (omega (arith, h, stmts_joined all))
act_level (more m) v n h = inl (omega arith)
act_level COMP_MORE v n h = inl (omega arith)
act_level _ v n h = inl (omega arith)

-- ---- derivations

le_from : (a b : ℕ) → nat_le a b ≡ true → a ≤ b
le_from a b e = leb-true a b e

grown_level : (ts : List Token) {m : More} {v u : Piece} {i j : ℕ} → Derives shallow ts (grown m v) i j u → level v.tree ≤ 100 → level u.tree ≤ 100
grown_level ts (full m v i) h = h
grown_level ts (grows m v u i j k w d f e) h = grown_level ts e (le_from (level (grow m v w).tree) 100 f)

derives_level : (ts : List Token) {r : Part} {i j : ℕ} {v : Val r} → Derives shallow ts r i j v → of_part r v ≤ 100
derives_level ts (one c i t e h) = omega arith
derives_level ts (by_rule x i j v d w) = at x v w (act_level x v 100 (derives_level ts d))
  where
    by_test : (e : ExprSym) (p : Piece) → IsTrue (shallow p.tree) → level p.tree ≤ 100
    by_test e p w = le_from (level p.tree) 100 w

    tested : (x : Sym) (u : Sem x) (e : ExprSym) → x ≡ expr e → IsTrue (admits shallow x u) → of_sym x u ≤ 100
    tested (expr e) u f q w = by_test e u w
    tested (more m) u f q w = omega arith
    tested COMP_MORE u f q w = absurd (cc)
    tested _ u f q w = absurd (cc)

    at : (x : Sym) (v : Val (rhs x)) → IsTrue (admits shallow x (act x v)) → (of_sym x (act x v) ≤ 100) ⊎ ((e : ExprSym) × (x ≡ expr e)) → of_sym x (act x v) ≤ 100
    at x v w (inl h) = h
    at x v w (inr (e, q)) = tested x (act x v) e q w
derives_level ts (both a b i j k v w d e) = omega (arith, derives_level ts d, derives_level ts e)
derives_level ts (first a b i j v d) = derives_level ts d
derives_level ts (other a b i j v d) = derives_level ts d
derives_level ts (absent a i) = omega arith
derives_level ts (present a i j v d) = derives_level ts d
derives_level ts (no_more a i) = omega arith
derives_level ts (again a i j k v vs d e) = omega (arith, derives_level ts d, derives_level ts e)
derives_level ts (ends c a i) = omega arith
derives_level ts (trails c a i j t d) = omega arith
derives_level ts (goes_on c a i j k l t v vs d e f) = omega (arith, derives_level ts e, derives_level ts f)
derives_level ts (from_left e m i j k v u d f) = grown_level ts f (derives_level ts d)
derives_level ts (full m v i) = omega arith
derives_level ts (grows m v u i j k w d h f) = omega arith

pub trees_are_shallow : TreesAreShallow
trees_are_shallow ts b d = derives_level ts d
