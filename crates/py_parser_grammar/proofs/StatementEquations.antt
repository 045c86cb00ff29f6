-- What reading a statement is, by what reading its parts is.
use Rattle.std.proofs.Common.{◌≡◌, ℕ, Bool, true, false, List, [], ◌∷◌, ◌++◌, Option, Some, None, Ok, Err, if◌then◌else◌, refl, ◌∙◌, ap, sym}
use Rattle.py_syntax.specs.declared.expression.BinOp.TheVariants as op
use Rattle.py_syntax.specs.declared.key.Key.TheVariants as k
use Rattle.py_syntax.specs.declared.sign.Sign.TheVariants as s
use Rattle.py_syntax.specs.declared.token.Token.{Token}
use Rattle.py_syntax.specs.Statements as st
use Rattle.py_syntax.specs.Statements.{StmtTree}
use Rattle.py_parser_grammar.specs.declared.terminal.Terminal.TheVariants as terminal
use Rattle.py_parser_grammar.specs.declared.place.Place.{Place}
use Rattle.py_parser_grammar.specs.Grammar as g
use Rattle.py_parser_grammar.specs.Grammar.{expr, tok, ◌·◌, comma, sign, key, TESTS, TARGETS, TEST, PLAIN, AUG, RETURN, RAISE, GLOBAL, ASSERT, DEL, IMPORT, FROM, DOTTED, ALIAS, SMALL, SIMPLE, STMT, IF, ARM, WHILE, FOR, TRY, EXCEPT, FINALLY, BLOCK, FUNC, PARAM, CLASS, CBLOCK, MEMBER, MARK, DECORATED, TOP, MODULE}
use Rattle.py_parser_grammar.specs.Actions.{stmt, name_of, seconds}
use Rattle.py_parser_grammar.specs.Reader.{Outcome, ◌>>=◌, accept, sees, starts, starts_expr, augs}
use Rattle.py_parser_grammar.specs.Readings.{reads_sym, reads_expr, reads_many, reads_after, many_into, after_into, spread, single}
use Rattle.py_parser_grammar.proofs.Opening.{bind_same, if_same, sym_eq}
use Rattle.py_parser_grammar.proofs.Loops.{spread_single, many_round, after_round}

-- ---- simple statements

pub plain_eq : (ts : List Token) (p : Place) → reads_sym ts PLAIN p ≡ (reads_expr ts TESTS p >>= λ x.
    if sees ts x.1 (terminal.Sign s.Colon ∷ terminal.Sign s.Assign ∷ augs)
    then (if sees ts x.1 (terminal.Sign s.Colon ∷ [])
    then (accept ts (terminal.Sign s.Colon) x.1 >>= λ c. reads_expr ts TEST c.1 >>= λ m.
    if sees ts m.1 (terminal.Sign s.Assign ∷ [])
    then (accept ts (terminal.Sign s.Assign) m.1 >>= λ a. reads_expr ts TESTS a.1 >>= λ v. Ok (st.at (st.Annot x.0.tree m.0.tree (Some v.0.tree)) x.0.begins, v.1))
    else Ok (st.at (st.Annot x.0.tree m.0.tree None) x.0.begins, m.1))
    else (if sees ts x.1 (terminal.Sign s.Assign ∷ [])
    then (accept ts (terminal.Sign s.Assign) x.1 >>= λ a. reads_expr ts TESTS a.1 >>= λ v. Ok (st.at (st.Assign x.0.tree v.0.tree) x.0.begins, v.1))
    else (reads_sym ts AUG x.1 >>= λ o. reads_expr ts TESTS o.1 >>= λ v. Ok (st.at (st.Aug x.0.tree o.0 v.0.tree) x.0.begins, v.1))))
    else Ok (st.at (st.Do x.0.tree) x.0.begins, x.1))
plain_eq ts p = sym_eq ts PLAIN p

pub aug_eq : (ts : List Token) (p : Place) → reads_sym ts AUG p ≡
    (if sees ts p (terminal.Sign s.PlusAssign ∷ []) then (accept ts (terminal.Sign s.PlusAssign) p >>= λ x. Ok (op.Add, x.1))
    else (if sees ts p (terminal.Sign s.MinusAssign ∷ []) then (accept ts (terminal.Sign s.MinusAssign) p >>= λ x. Ok (op.Sub, x.1))
    else (if sees ts p (terminal.Sign s.StarAssign ∷ []) then (accept ts (terminal.Sign s.StarAssign) p >>= λ x. Ok (op.Mul, x.1))
    else (if sees ts p (terminal.Sign s.SlashSlashAssign ∷ []) then (accept ts (terminal.Sign s.SlashSlashAssign) p >>= λ x. Ok (op.FloorDiv, x.1))
    else (if sees ts p (terminal.Sign s.PercentAssign ∷ []) then (accept ts (terminal.Sign s.PercentAssign) p >>= λ x. Ok (op.Mod, x.1))
    else (if sees ts p (terminal.Sign s.ShlAssign ∷ []) then (accept ts (terminal.Sign s.ShlAssign) p >>= λ x. Ok (op.Shl, x.1))
    else (accept ts (terminal.Sign s.ShrAssign) p >>= λ x. Ok (op.Shr, x.1))))))))
aug_eq ts p = sym_eq ts AUG p

pub return_eq : (ts : List Token) (p : Place) → reads_sym ts RETURN p ≡ (accept ts (terminal.Key k.Return) p >>= λ x.
    if sees ts x.1 (starts_expr TESTS) then (reads_expr ts TESTS x.1 >>= λ y. Ok (stmt (st.Return (Some y.0.tree)) x.0, y.1)) else Ok (stmt (st.Return None) x.0, x.1))
return_eq ts p = sym_eq ts RETURN p

pub raise_eq : (ts : List Token) (p : Place) → reads_sym ts RAISE p ≡ (accept ts (terminal.Key k.Raise) p >>= λ x.
    if sees ts x.1 (starts_expr TEST) then (reads_expr ts TEST x.1 >>= λ y. Ok (stmt (st.Raise (Some y.0.tree)) x.0, y.1)) else Ok (stmt (st.Raise None) x.0, x.1))
raise_eq ts p = sym_eq ts RAISE p

pub assert_eq : (ts : List Token) (p : Place) → reads_sym ts ASSERT p ≡ (accept ts (terminal.Key k.Assert) p >>= λ x. reads_expr ts TEST x.1 >>= λ y.
    if sees ts y.1 (comma ∷ [])
    then (accept ts comma y.1 >>= λ c. reads_expr ts TEST c.1 >>= λ m. Ok (stmt (st.Assert y.0.tree (Some m.0.tree)) x.0, m.1))
    else Ok (stmt (st.Assert y.0.tree None) x.0, y.1))
assert_eq ts p = sym_eq ts ASSERT p

pub del_eq : (ts : List Token) (p : Place) → reads_sym ts DEL p ≡ (accept ts (terminal.Key k.Del) p >>= λ x. reads_expr ts TEST x.1 >>= λ y. Ok (stmt (st.Del y.0.tree) x.0, y.1))
del_eq ts p = sym_eq ts DEL p

pub import_eq : (ts : List Token) (p : Place) → reads_sym ts IMPORT p ≡ (accept ts (terminal.Key k.Import) p >>= λ x. reads_sym ts DOTTED x.1 >>= λ y.
    if sees ts y.1 (terminal.Key k.As ∷ [])
    then (accept ts (terminal.Key k.As) y.1 >>= λ a. accept ts terminal.Name a.1 >>= λ n. Ok (stmt (st.Import y.0 (Some (name_of n.0))) x.0, n.1))
    else Ok (stmt (st.Import y.0 None) x.0, y.1))
import_eq ts p = sym_eq ts IMPORT p

pub alias_eq : (ts : List Token) (p : Place) → reads_sym ts ALIAS p ≡ (accept ts terminal.Name p >>= λ x.
    if sees ts x.1 (terminal.Key k.As ∷ [])
    then (accept ts (terminal.Key k.As) x.1 >>= λ a. accept ts terminal.Name a.1 >>= λ n. Ok ((name_of x.0, Some (name_of n.0)), n.1))
    else Ok ((name_of x.0, None), x.1))
alias_eq ts p = sym_eq ts ALIAS p

-- a name behind a sign, as a part of a dotted name, and as one of several
abbrev pub dotted_part : Token × Token → List ℕ
dotted_part x = 46 ∷ name_of x.1

abbrev pub name_part : Token × Token → List (List ℕ)
name_part x = name_of x.1 ∷ []

abbrev pub second_part : {A B : Type 0} → A × B → List B
second_part x = x.1 ∷ []

pub spread_seconds : {A B : Type 0} (vs : List (A × B)) → spread second_part vs ≡ seconds vs
spread_seconds [] = refl
spread_seconds (v ∷ vs) = ap (λ l. v.1 ∷ l) (spread_seconds vs)

pub dotted_round : (ts : List Token) (p : Place) (found : List ℕ) → many_into dotted_part found (reads_many ts (sign s.Dot · tok terminal.Name) p) ≡ (if sees ts p (terminal.Sign s.Dot ∷ [])
    then (accept ts (terminal.Sign s.Dot) p >>= λ d. accept ts terminal.Name d.1 >>= λ n. many_into dotted_part (found ++ 46 ∷ name_of n.0) (reads_many ts (sign s.Dot · tok terminal.Name) n.1))
    else Ok (found, p))
dotted_round ts p found = many_round ts (sign s.Dot · tok terminal.Name) p dotted_part found refl refl

pub names_round : (ts : List Token) (p : Place) (found : List (List ℕ)) → many_into name_part found (reads_many ts (tok comma · tok terminal.Name) p) ≡ (if sees ts p (comma ∷ [])
    then (accept ts comma p >>= λ d. accept ts terminal.Name d.1 >>= λ n. many_into name_part (found ++ name_of n.0 ∷ []) (reads_many ts (tok comma · tok terminal.Name) n.1))
    else Ok (found, p))
names_round ts p found = many_round ts (tok comma · tok terminal.Name) p name_part found refl refl

aliases_behind : {A B : Type 0} (v : A) (o : Outcome (List A × Bool)) (h : List A × Place → Outcome B) → (o >>= λ z. h (v ∷ z.0.0, z.1)) ≡ (after_into single (v ∷ []) o >>= λ z. h (z.0.0, z.1))
aliases_behind v (Ok y) h = ap (λ l. h (v ∷ l, y.1)) (sym (spread_single y.0.0))
aliases_behind v (Err e) h = refl

pub aliases_round : (ts : List Token) (p : Place) (found : List (List ℕ × Option (List ℕ))) → many_into second_part found (reads_many ts (tok comma · g.sym ALIAS) p) ≡ (if sees ts p (comma ∷ [])
    then (accept ts comma p >>= λ d. reads_sym ts ALIAS d.1 >>= λ n. many_into second_part (found ++ n.0 ∷ []) (reads_many ts (tok comma · g.sym ALIAS) n.1))
    else Ok (found, p))
aliases_round ts p found = many_round ts (tok comma · g.sym ALIAS) p second_part found refl refl

pub bracketed_aliases_round : (ts : List Token) (p : Place) (found : List (List ℕ × Option (List ℕ))) → after_into single found (reads_after ts comma (g.sym ALIAS) p) ≡ (if sees ts p (comma ∷ [])
    then (accept ts comma p >>= λ t.
    if sees ts t.1 (terminal.Name ∷ []) then (reads_sym ts ALIAS t.1 >>= λ y. after_into single (found ++ y.0 ∷ []) (reads_after ts comma (g.sym ALIAS) y.1)) else Ok ((found, true), t.1))
    else Ok ((found, false), p))
bracketed_aliases_round ts p found = after_round ts comma ALIAS p single found

pub small_eq : (ts : List Token) (p : Place) → reads_sym ts SMALL p ≡
    (if sees ts p (terminal.Key k.Pass ∷ []) then (accept ts (terminal.Key k.Pass) p >>= λ x. Ok (stmt st.Pass x.0, x.1))
    else (if sees ts p (terminal.Key k.Break ∷ []) then (accept ts (terminal.Key k.Break) p >>= λ x. Ok (stmt st.Break x.0, x.1))
    else (if sees ts p (terminal.Key k.Continue ∷ []) then (accept ts (terminal.Key k.Continue) p >>= λ x. Ok (stmt st.Continue x.0, x.1))
    else (if sees ts p (terminal.Key k.Return ∷ []) then reads_sym ts RETURN p
    else (if sees ts p (terminal.Key k.Raise ∷ []) then reads_sym ts RAISE p
    else (if sees ts p (terminal.Key k.Global ∷ []) then reads_sym ts GLOBAL p
    else (if sees ts p (terminal.Key k.Assert ∷ []) then reads_sym ts ASSERT p
    else (if sees ts p (terminal.Key k.Del ∷ []) then reads_sym ts DEL p
    else (if sees ts p (terminal.Key k.Import ∷ []) then reads_sym ts IMPORT p
    else (if sees ts p (terminal.Key k.From ∷ []) then reads_sym ts FROM p
    else reads_sym ts PLAIN p))))))))))
small_eq ts p =
    sym_eq ts SMALL p
    ∙ if_same (sees ts p (terminal.Key k.Pass ∷ [])) refl
    (if_same (sees ts p (terminal.Key k.Break ∷ [])) refl
    (if_same (sees ts p (terminal.Key k.Continue ∷ [])) refl
    (if_same (sees ts p (terminal.Key k.Return ∷ [])) (as_it_is (reads_sym ts RETURN p))
    (if_same (sees ts p (terminal.Key k.Raise ∷ [])) (as_it_is (reads_sym ts RAISE p))
    (if_same (sees ts p (terminal.Key k.Global ∷ [])) (as_it_is (reads_sym ts GLOBAL p))
    (if_same (sees ts p (terminal.Key k.Assert ∷ [])) (as_it_is (reads_sym ts ASSERT p))
    (if_same (sees ts p (terminal.Key k.Del ∷ [])) (as_it_is (reads_sym ts DEL p))
    (if_same (sees ts p (terminal.Key k.Import ∷ [])) (as_it_is (reads_sym ts IMPORT p))
    (if_same (sees ts p (terminal.Key k.From ∷ [])) (as_it_is (reads_sym ts FROM p)) (as_it_is (reads_sym ts PLAIN p)))))))))))
  where
    as_it_is : {A : Type 0} (o : Outcome A) → (o >>= λ x. Ok (x.0, x.1)) ≡ o
    as_it_is (Ok x) = refl
    as_it_is (Err e) = refl

pub simple_eq : (ts : List Token) (p : Place) → reads_sym ts SIMPLE p ≡ (reads_sym ts SMALL p >>= λ x. after_into single (x.0 ∷ []) (reads_after ts (terminal.Sign s.Semicolon) (g.sym SMALL) x.1) >>= λ y. accept ts terminal.Newline y.1 >>= λ z. Ok (y.0.0, z.1))
simple_eq ts p =
    sym_eq ts SIMPLE p
    ∙ bind_same (reads_sym ts SMALL p) _ _ (λ x. aliases_behind x.0 (reads_after ts (terminal.Sign s.Semicolon) (g.sym SMALL) x.1) (λ y. accept ts terminal.Newline y.1 >>= λ z. Ok (y.0, z.1)))

pub smalls_round : (ts : List Token) (p : Place) (found : List StmtTree) → after_into single found (reads_after ts (terminal.Sign s.Semicolon) (g.sym SMALL) p) ≡ (if sees ts p (terminal.Sign s.Semicolon ∷ [])
    then (accept ts (terminal.Sign s.Semicolon) p >>= λ t.
    if sees ts t.1 (starts SMALL) then (reads_sym ts SMALL t.1 >>= λ y. after_into single (found ++ y.0 ∷ []) (reads_after ts (terminal.Sign s.Semicolon) (g.sym SMALL) y.1)) else Ok ((found, true), t.1))
    else Ok ((found, false), p))
smalls_round ts p found = after_round ts (terminal.Sign s.Semicolon) SMALL p single found
