-- A file has exactly one list of faults, and is no two modules.
use Rattle.std.proofs.Common.{◌≡◌, refl, sym, ◌∙◌, ap, subst, ℕ, Bool, true, false, List, Result, Ok, Err}
use Rattle.std.specs.Str.{chars, is_utf8}
use Rattle.py_syntax.specs.declared.token.Token.{Token}
use Rattle.py_syntax.specs.Statements.{Suite}
use Rattle.py_lexer.specs.Reading.{Fault}
use Rattle.py_lexer.specs.Tokens.{tokens_of}
use Rattle.py_lexer.proofs.TokenLaws.{gives_end}
use Rattle.py_parser_grammar.specs.Faults.{IsTree, tree}
use Rattle.py_parser_grammar.proofs.Outcomes.{outcome_exists, outcome_is_one, tree_is_one}
use Rattle.py_parser_source.specs.Entries.{Entry, Telling}
use Rattle.py_parser_source.specs.Modules.{HasTree}
use Rattle.py_parser_source.specs.Faults.{found_in, AreOfTokens, AreOfBytes, AreFaults}
use Rattle.py_parser_source.specs.Laws.{FaultsAreOne, ModuleIsOne, TreeIsTold}

-- ---- no two lists

one_of_tokens : (told : Telling) (read : Result (List Token) Fault) (a b : List Entry) → AreOfTokens told read a → AreOfTokens told read b → a ≡ b
one_of_tokens told (Err f) a b x y = x ∙ sym y
one_of_tokens told (Ok ts) a b x y = x.2 ∙ ap (found_in told ts) (outcome_is_one ts x.0 y.0 x.1 y.1) ∙ sym y.2

one_of_bytes : (told : Telling) (text : Bool) (bytes : List ℕ) (a b : List Entry) → AreOfBytes told text bytes a → AreOfBytes told text bytes b → a ≡ b
one_of_bytes told false bytes a b x y = x ∙ sym y
one_of_bytes told true bytes a b x y = one_of_tokens told (tokens_of (chars bytes)) a b x y

one_list : (told : Telling) (bytes : List ℕ) (a b : List Entry) → AreFaults told bytes a → AreFaults told bytes b → a ≡ b
one_list told bytes a b x y = one_of_bytes told (is_utf8 bytes) bytes a b x y

-- ---- some list

some_of_tokens : (told : Telling) (text : List ℕ) (read : Result (List Token) Fault) → tokens_of text ≡ read → (es : List Entry) × AreOfTokens told read es
some_of_tokens told text (Err f) is = (_, refl)
some_of_tokens told text (Ok ts) is =
    let came = outcome_exists ts (gives_end (Ok (record { list = ts })) text is) in
    (found_in told ts came.0, (came.0, came.1, refl))

some_of_bytes : (told : Telling) (text : Bool) (bytes : List ℕ) → (es : List Entry) × AreOfBytes told text bytes es
some_of_bytes told false bytes = (_, refl)
some_of_bytes told true bytes = some_of_tokens told (chars bytes) (tokens_of (chars bytes)) refl

some_list : (told : Telling) (bytes : List ℕ) → (es : List Entry) × AreFaults told bytes es
some_list told bytes = some_of_bytes told (is_utf8 bytes) bytes

pub faults_are_one : FaultsAreOne
faults_are_one told bytes =
    let found = some_list told bytes in
    (found.0, found.1, λ other are. one_list told bytes other found.0 are found.1)

-- ---- modules

same_tokens : (read : Result (List Token) Fault) (ts us : List Token) → read ≡ Ok ts → read ≡ Ok us → ts ≡ us
same_tokens read ts us x y = cc

one_tree : (text : List ℕ) (a b : Suite) → HasTree text a → HasTree text b → a ≡ b
one_tree text a b x y =
    let same : x.tokens ≡ y.tokens = same_tokens (tokens_of text) x.tokens y.tokens x.has_tokens y.has_tokens in
    tree_is_one y.tokens a b (subst (λ ts. IsTree ts a) same x.derived) y.derived

pub module_is_one : ModuleIsOne
module_is_one bytes a b x y = one_tree (chars bytes) a b x.1 y.1

told_of_text : (told : Telling) (text : List ℕ) (suite : Suite) → HasTree text suite → AreOfTokens told (tokens_of text) (told suite)
told_of_text told text suite has =
    subst (λ r. AreOfTokens told r (told suite)) (sym has.has_tokens) (tree suite, has.derived, refl)

pub tree_is_told : TreeIsTold
tree_is_told told bytes suite is =
    subst (λ b. AreOfBytes told b bytes (told suite)) (sym is.0) (told_of_text told (chars bytes) suite is.1)
