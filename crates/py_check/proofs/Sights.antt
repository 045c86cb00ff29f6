-- What the sights of statements bind and define is what their bindings and definitions list.
use Rattle.std.proofs.Common.{◌≡◌, ◌∙◌, ℕ, Bool, true, false, cond, List, [], ◌∷◌, ◌++◌, map, Option, Some, None, refl, ap, ap₂, sym}
use Rattle.std.proofs.lemmas.Grind.{flat_map-append}
use Rattle.std.specs.List.{flat_map}
use Rattle.py_syntax.specs.declared.token.Span.{Span}
use Rattle.py_syntax.specs.Expressions as e
use Rattle.py_syntax.specs.Expressions.{ExprTree, ExprNode, ExprTrees, Comparisons, Entries, Arguments}
use Rattle.py_syntax.specs.Statements as s
use Rattle.py_syntax.specs.Statements.{StmtTree, StmtNode, Suite, Arms, Handlers, MaybeSuite, FuncTree, ClassTree}
use Rattle.py_lexer_words.specs.Words.{name_in_quotes}
use Rattle.py_binder.specs.declared.sight.Manner.{Manner}
use Rattle.py_binder.specs.declared.sight.Manner.TheVariants.{Value, Annotation}
use Rattle.py_binder.specs.declared.sight.Home.{Home}
use Rattle.py_binder.specs.declared.sight.Home.TheVariants.{InModule, InFunction}
use Rattle.py_binder.specs.declared.scope.Role.{Role}
use Rattle.py_binder.specs.declared.scope.Role.TheVariants.{Function, Class, Import}
use Rattle.py_binder.specs.Sights.{Use, Reads, Binds, Defines, Holds, Sight, sight, maybe_read, text_reads, reads, node_reads, exprs_reads, comparisons_reads, entries_reads, arguments_reads, maybe_reads, list_reads, target_sights, target_node_sights, targets_sights, bound_as, first_part, aliases_sights, params_reads, header_sights, is_name, attribute_sights, member_sights, members_sights, def_sights, class_sights, import_sights, from_sights, caught_sights, stmt_sights, stmt_node_sights, suite_sights, arms_sights, handlers_sights, maybe_suite_sights}
use Rattle.py_binder.specs.Scope.{all_there, bound_there, said_there}
use Rattle.py_check_flow.specs.Bindings.{Binding, target_bindings, node_bindings, targets_bindings, name_in, marked, caught, stmt_bindings, act_bindings, suite_bindings, arms_bindings, handlers_bindings, last_bindings}
use Rattle.py_check_names.specs.Outline.{stmt_definitions, node_definitions, suite_definitions, arms_definitions, handlers_definitions, last_definitions}

-- ---- expressions: nothing but reads

module _ {A : Type 0} (there : Use → List A) (none : (x : List ℕ) → there (Reads x) ≡ []) where
  abbrev found : List Sight → List A
  found = all_there there

  pub found_two : (a b : List Sight) → found (a ++ b) ≡ found a ++ found b
  found_two a b = flat_map-append (λ (x : Sight). there x.does) a b

  none_two : (a b : List Sight) → found a ≡ [] → found b ≡ [] → found (a ++ b) ≡ []
  none_two a b p q = found_two a b ∙ ap₂ (λ (x y : List A). x ++ y) p q

  none_front : (a b : List Sight) (l : List A) → found a ≡ [] → found b ≡ l → found (a ++ b) ≡ l
  none_front a b l p q = found_two a b ∙ ap₂ (λ (x y : List A). x ++ y) p q

  one_read : (x : List ℕ) (span : Span) → found (sight (Reads x) span ∷ []) ≡ []
  one_read x span = ap (λ (l : List A). l ++ []) (none x)

  maybe_none : (o : Option (List ℕ)) (span : Span) → found (maybe_read o span) ≡ []
  maybe_none None span = refl
  maybe_none (Some x) span = one_read x span

  text_none : (m : Manner) (text : List ℕ) (span : Span) → found (text_reads m text span) ≡ []
  text_none Value text span = refl
  text_none Annotation text span = maybe_none (name_in_quotes text) span

  mutual
    pub reads_none : (m : Manner) (a : ExprTree) → found (reads m a) ≡ []
    reads_none m (e.at node span) = node_none m node span

    node_none : (m : Manner) (node : ExprNode) (span : Span) → found (node_reads m node span) ≡ []
    node_none m (e.Int n) span = refl
    node_none m (e.Str text) span = text_none m text span
    node_none m e.True span = refl
    node_none m e.False span = refl
    node_none m e.Nothing span = refl
    node_none m (e.Name name) span = one_read name span
    node_none m (e.Neg a) span = reads_none m a
    node_none m (e.Plus a) span = reads_none m a
    node_none m (e.Not a) span = reads_none m a
    node_none m (e.Bin op a b) span = none_two (reads m a) (reads m b) (reads_none m a) (reads_none m b)
    node_none m (e.Compare a more) span = none_two (reads m a) (comparisons_reads m more) (reads_none m a) (comparisons_none m more)
    node_none m (e.And a b) span = none_two (reads m a) (reads m b) (reads_none m a) (reads_none m b)
    node_none m (e.Or a b) span = none_two (reads m a) (reads m b) (reads_none m a) (reads_none m b)
    node_none m (e.Cond a test b) span = none_two (reads m a) (reads m test ++ reads m b) (reads_none m a) (none_two (reads m test) (reads m b) (reads_none m test) (reads_none m b))
    node_none m (e.ListOf items) span = exprs_none m items
    node_none m (e.DictOf entries) span = entries_none m entries
    node_none m (e.TupleOf items) span = exprs_none m items
    node_none m (e.Attr a name) span = reads_none m a
    node_none m (e.Index a i) span = none_two (reads m a) (reads m i) (reads_none m a) (reads_none m i)
    node_none m (e.Call callee more) span = none_two (reads m callee) (arguments_reads m more) (reads_none m callee) (arguments_none m more)

    exprs_none : (m : Manner) (items : ExprTrees) → found (exprs_reads m items) ≡ []
    exprs_none m e.no_exprs = refl
    exprs_none m (e.expr_then a more) = none_two (reads m a) (exprs_reads m more) (reads_none m a) (exprs_none m more)

    comparisons_none : (m : Manner) (more : Comparisons) → found (comparisons_reads m more) ≡ []
    comparisons_none m e.no_comparisons = refl
    comparisons_none m (e.comparison_then op a more) = none_two (reads m a) (comparisons_reads m more) (reads_none m a) (comparisons_none m more)

    entries_none : (m : Manner) (entries : Entries) → found (entries_reads m entries) ≡ []
    entries_none m e.no_entries = refl
    entries_none m (e.entry_then key value more) = none_two (reads m key) (reads m value ++ entries_reads m more) (reads_none m key) (none_two (reads m value) (entries_reads m more) (reads_none m value) (entries_none m more))

    arguments_none : (m : Manner) (more : Arguments) → found (arguments_reads m more) ≡ []
    arguments_none m e.no_arguments = refl
    arguments_none m (e.argument_then value more) = none_two (reads m value) (arguments_reads m more) (reads_none m value) (arguments_none m more)
    arguments_none m (e.keyed_then key value more) = none_two (reads m value) (arguments_reads m more) (reads_none m value) (arguments_none m more)

  pub maybe_reads_none : (m : Manner) (a : Option ExprTree) → found (maybe_reads m a) ≡ []
  maybe_reads_none m None = refl
  maybe_reads_none m (Some a) = reads_none m a

  pub list_none : (m : Manner) (items : List ExprTree) → found (list_reads m items) ≡ []
  list_none m [] = refl
  list_none m (a ∷ more) = none_two (reads m a) (list_reads m more) (reads_none m a) (list_none m more)

  pub params_none : (params : List (List ℕ × Option ExprTree)) → found (params_reads params) ≡ []
  params_none [] = refl
  params_none (p ∷ ps) = none_two (maybe_reads Annotation p.1) (params_reads ps) (maybe_reads_none Annotation p.1) (params_none ps)

  declared_none : (b : Bool) (mark : ExprTree) → found (attribute_sights b mark) ≡ []
  declared_none true mark = reads_none Annotation mark
  declared_none false mark = refl

  -- ---- functions and classes

  module _ (held : (f : FuncTree) → there (Holds f) ≡ []) where
    header_none : (f : FuncTree) (span : Span) → found (header_sights f span) ≡ []
    header_none f span =
        none_two (params_reads f.params) (maybe_reads Annotation f.ret ++ sight (Holds f) span ∷ []) (params_none f.params)
        (none_two (maybe_reads Annotation f.ret) (sight (Holds f) span ∷ []) (maybe_reads_none Annotation f.ret) (ap (λ (l : List A). l ++ []) (held f)))

    member_none : (x : StmtTree) → found (member_sights x) ≡ []
    member_none (s.at (s.Def name params ret body marks) span) =
        none_two (list_reads Value marks) (header_sights (record { name = name; params = params; ret = ret; body = body; marks = marks }) span) (list_none Value marks) (header_none (record { name = name; params = params; ret = ret; body = body; marks = marks }) span)
    member_none (s.at (s.Annot target mark None) span) = declared_none (is_name target) mark
    member_none (s.at (s.Annot target mark (Some a)) span) = refl
    member_none (s.at _ span) = refl

    members_none : (body : Suite) → found (members_sights body) ≡ []
    members_none s.no_stmts = refl
    members_none (s.stmt_then x more) = none_two (member_sights x) (members_sights more) (member_none x) (members_none more)

  -- ---- targets

  module _ (binds : List ℕ → List A) (bound : (x : List ℕ) → there (Binds x) ≡ binds x) where
    abbrev of_bindings : List Binding → List A
    of_bindings bs = flat_map (λ (b : Binding). binds b.name) bs

    bindings_two : (a b : List Binding) → of_bindings (a ++ b) ≡ of_bindings a ++ of_bindings b
    bindings_two a b = flat_map-append (λ (x : Binding). binds x.name) a b

    in_two : (a b : List Sight) (xs ys : List Binding) → found a ≡ of_bindings xs → found b ≡ of_bindings ys → found (a ++ b) ≡ of_bindings (xs ++ ys)
    in_two a b xs ys p q = found_two a b ∙ ap₂ (λ (x y : List A). x ++ y) p q ∙ sym (bindings_two xs ys)

    mutual
      pub target_binds : (a : ExprTree) → found (target_sights a) ≡ of_bindings (target_bindings a)
      target_binds (e.at node span) = target_node node span

      target_node : (node : ExprNode) (span : Span) → found (target_node_sights node span) ≡ of_bindings (node_bindings node)
      target_node (e.Name name) span = ap (λ (l : List A). l ++ []) (bound name)
      target_node (e.TupleOf items) span = targets_bind items
      target_node (e.ListOf items) span = targets_bind items
      target_node node span = node_none Value node span

      targets_bind : (items : ExprTrees) → found (targets_sights items) ≡ of_bindings (targets_bindings items)
      targets_bind e.no_exprs = refl
      targets_bind (e.expr_then a more) = in_two (target_sights a) (targets_sights more) (target_bindings a) (targets_bindings more) (target_binds a) (targets_bind more)

-- ---- what is bound

abbrev bound_in : List Sight → List (List ℕ)
bound_in = all_there bound_there

abbrev one_name : List ℕ → List (List ℕ)
one_name x = x ∷ []

abbrev pub names_of : List Binding → List (List ℕ)
names_of bs = flat_map (λ (b : Binding). one_name b.name) bs

nothing_read : (x : List ℕ) → bound_there (Reads x) ≡ []
nothing_read x = refl

nothing_held : (f : FuncTree) → bound_there (Holds f) ≡ []
nothing_held f = refl

one_bound : (x : List ℕ) → bound_there (Binds x) ≡ one_name x
one_bound x = refl

name_binding : (target mark : ExprTree) (o : Option (List ℕ)) → name_in target ≡ o → names_of (target_bindings target) ≡ names_of (marked o target mark)
name_binding target mark None h = refl
name_binding (e.at (e.Name y) span) mark (Some x) h = ap one_name (same y x h)
  where
    same : (y x : List ℕ) → Some y ≡ Some x → y ≡ x
    same y x h = cc
name_binding _ mark (Some x) h = absurd (cc)

caught_binds : (o : Option (List ℕ)) (span : Span) → bound_in (caught_sights o span) ≡ names_of (caught o)
caught_binds None span = refl
caught_binds (Some x) span = refl

aliases_bind : (names : List (List ℕ × Option (List ℕ))) (span : Span) → bound_in (aliases_sights names span) ≡ []
aliases_bind [] span = refl
aliases_bind (a ∷ more) span = aliases_bind more span

def_binds : (h : Home) (f : FuncTree) (span : Span) → bound_in (def_sights h f span) ≡ []
def_binds InModule f span = none_two bound_there nothing_read (list_reads Value f.marks) (sight (Defines Function f.name) span ∷ header_sights f span) (list_none bound_there nothing_read Value f.marks) (header_none bound_there nothing_read nothing_held f span)
def_binds InFunction f span = refl

class_binds : (h : Home) (c : ClassTree) (span : Span) → bound_in (class_sights h c span) ≡ []
class_binds InModule c span =
    none_two bound_there nothing_read (list_reads Value c.marks) (sight (Defines Class c.name) span ∷ (list_reads Value c.bases ++ members_sights c.body)) (list_none bound_there nothing_read Value c.marks)
    (none_two bound_there nothing_read (list_reads Value c.bases) (members_sights c.body) (list_none bound_there nothing_read Value c.bases) (members_none bound_there nothing_read nothing_held c.body))
class_binds InFunction c span = refl

import_binds : (h : Home) (name : List ℕ) (other : Option (List ℕ)) (span : Span) → bound_in (import_sights h name other span) ≡ []
import_binds InModule name other span = refl
import_binds InFunction name other span = refl

from_binds : (h : Home) (names : List (List ℕ × Option (List ℕ))) (span : Span) → bound_in (from_sights h names span) ≡ []
from_binds InModule names span = aliases_bind names span
from_binds InFunction names span = refl

both_bind : (a b : List Sight) (xs ys : List Binding) → bound_in a ≡ names_of xs → bound_in b ≡ names_of ys → bound_in (a ++ b) ≡ names_of (xs ++ ys)
both_bind a b xs ys p q = in_two bound_there nothing_read one_name one_bound a b xs ys p q

read_then : (a b : List Sight) (xs : List Binding) → bound_in a ≡ [] → bound_in b ≡ names_of xs → bound_in (a ++ b) ≡ names_of xs
read_then a b xs p q = none_front bound_there nothing_read a b (names_of xs) p q

then_read : (a b : List Sight) (xs : List Binding) → bound_in a ≡ names_of xs → bound_in b ≡ [] → bound_in (a ++ b) ≡ names_of xs
then_read a b xs p q = found_two bound_there nothing_read a b ∙ ap₂ (λ (x y : List (List ℕ)). x ++ y) p q ∙ Rattle.std.proofs.Common.append-nil (names_of xs)

abbrev value_none : (a : ExprTree) → bound_in (reads Value a) ≡ []
value_none a = reads_none bound_there nothing_read Value a

abbrev target_names : (a : ExprTree) → bound_in (target_sights a) ≡ names_of (target_bindings a)
target_names a = target_binds bound_there nothing_read one_name one_bound a

mutual
  stmt_binds : (h : Home) (x : StmtTree) → bound_in (stmt_sights h x) ≡ names_of (stmt_bindings x)
  stmt_binds h (s.at node span) = act_binds h node span

  act_binds : (h : Home) (node : StmtNode) (span : Span) → bound_in (stmt_node_sights h node span) ≡ names_of (act_bindings node)
  act_binds h (s.Do a) span = value_none a
  act_binds h (s.Assign target a) span = then_read (target_sights target) (reads Value a) (target_bindings target) (target_names target) (value_none a)
  act_binds h (s.Annot target mark a) span =
      then_read (target_sights target) (reads Annotation mark ++ maybe_reads Value a) (target_bindings target) (target_names target)
      (none_two bound_there nothing_read (reads Annotation mark) (maybe_reads Value a) (reads_none bound_there nothing_read Annotation mark) (maybe_reads_none bound_there nothing_read Value a)) ∙ name_binding target mark (name_in target) refl
  act_binds h (s.Aug target op a) span = then_read (target_sights target) (reads Value a) (target_bindings target) (target_names target) (value_none a)
  act_binds h (s.Del a) span = value_none a
  act_binds h s.Pass span = refl
  act_binds h s.Break span = refl
  act_binds h s.Continue span = refl
  act_binds h (s.Return a) span = maybe_reads_none bound_there nothing_read Value a
  act_binds h (s.Raise a) span = maybe_reads_none bound_there nothing_read Value a
  act_binds h (s.Global names) span = refl
  act_binds h (s.Assert a message) span = none_two bound_there nothing_read (reads Value a) (maybe_reads Value message) (value_none a) (maybe_reads_none bound_there nothing_read Value message)
  act_binds h (s.Import name other) span = import_binds h name other span
  act_binds h (s.From name names) span = from_binds h names span
  act_binds h (s.If arms other) span = both_bind (arms_sights h arms) (suite_sights h other) (arms_bindings arms) (suite_bindings other) (arms_bind h arms) (suite_binds h other)
  act_binds h (s.While test body) span = read_then (reads Value test) (suite_sights h body) (suite_bindings body) (value_none test) (suite_binds h body)
  act_binds h (s.For target a body) span =
      both_bind (target_sights target) (reads Value a ++ suite_sights h body) (target_bindings target) (suite_bindings body) (target_names target) (read_then (reads Value a) (suite_sights h body) (suite_bindings body) (value_none a) (suite_binds h body))
  act_binds h (s.Try body handlers last) span =
      both_bind (suite_sights h body) (handlers_sights h handlers ++ maybe_suite_sights h last) (suite_bindings body) (handlers_bindings handlers ++ last_bindings last) (suite_binds h body)
      (both_bind (handlers_sights h handlers) (maybe_suite_sights h last) (handlers_bindings handlers) (last_bindings last) (handlers_bind h handlers) (last_binds h last))
  act_binds h (s.Def name params ret body marks) span = def_binds h (record { name = name; params = params; ret = ret; body = body; marks = marks }) span
  act_binds h (s.ClassDef name bases body marks) span = class_binds h (record { name = name; bases = bases; body = body; marks = marks }) span

  -- THE NAMES that statements bind
  pub suite_binds : (h : Home) (body : Suite) → bound_in (suite_sights h body) ≡ names_of (suite_bindings body)
  suite_binds h s.no_stmts = refl
  suite_binds h (s.stmt_then x more) = both_bind (stmt_sights h x) (suite_sights h more) (stmt_bindings x) (suite_bindings more) (stmt_binds h x) (suite_binds h more)

  arms_bind : (h : Home) (arms : Arms) → bound_in (arms_sights h arms) ≡ names_of (arms_bindings arms)
  arms_bind h s.no_arms = refl
  arms_bind h (s.arm_then test body more) =
      read_then (reads Value test) (suite_sights h body ++ arms_sights h more) (suite_bindings body ++ arms_bindings more) (value_none test) (both_bind (suite_sights h body) (arms_sights h more) (suite_bindings body) (arms_bindings more) (suite_binds h body) (arms_bind h more))

  handlers_bind : (h : Home) (handlers : Handlers) → bound_in (handlers_sights h handlers) ≡ names_of (handlers_bindings handlers)
  handlers_bind h s.no_handlers = refl
  handlers_bind h (s.handler_then class name body span more) =
      read_then (maybe_reads Value class) (caught_sights name span ++ (suite_sights h body ++ handlers_sights h more)) (caught name ++ (suite_bindings body ++ handlers_bindings more)) (maybe_reads_none bound_there nothing_read Value class)
      (both_bind (caught_sights name span) (suite_sights h body ++ handlers_sights h more) (caught name) (suite_bindings body ++ handlers_bindings more) (caught_binds name span)
      (both_bind (suite_sights h body) (handlers_sights h more) (suite_bindings body) (handlers_bindings more) (suite_binds h body) (handlers_bind h more)))

  last_binds : (h : Home) (last : MaybeSuite) → bound_in (maybe_suite_sights h last) ≡ names_of (last_bindings last)
  last_binds h s.no_suite = refl
  last_binds h (s.some_suite body) = suite_binds h body

-- ---- what is defined

-- what a definition or an import says that names are
abbrev pub roles_given : StmtTree → List (List ℕ × Role)
roles_given (s.at (s.Def name params ret body marks) span) = (name, Function) ∷ []
roles_given (s.at (s.ClassDef name bases body marks) span) = (name, Class) ∷ []
roles_given (s.at (s.Import name other) span) = (bound_as (first_part name) other, Import) ∷ []
roles_given (s.at (s.From name names) span) = map (λ a. (bound_as a.0 a.1, Import)) names
roles_given _ = []

abbrev given_in : List Sight → List (List ℕ × Role)
given_in = all_there said_there

abbrev given_by : List StmtTree → List (List ℕ × Role)
given_by = flat_map roles_given

no_given : (x : List ℕ) → said_there (Reads x) ≡ []
no_given x = refl

none_given : (f : FuncTree) → said_there (Holds f) ≡ []
none_given f = refl

abbrev none_bound : List ℕ → List (List ℕ × Role)
none_bound x = []

bound_no : (x : List ℕ) → said_there (Binds x) ≡ none_bound x
bound_no x = refl

empty_bindings : (bs : List Binding) → flat_map (λ (b : Binding). none_bound b.name) bs ≡ []
empty_bindings [] = refl
empty_bindings (b ∷ bs) = empty_bindings bs

target_gives : (a : ExprTree) → given_in (target_sights a) ≡ []
target_gives a = target_binds said_there no_given none_bound bound_no a ∙ empty_bindings (target_bindings a)

two_give : (a b : List Sight) (xs ys : List StmtTree) → given_in a ≡ given_by xs → given_in b ≡ given_by ys → given_in (a ++ b) ≡ given_by (xs ++ ys)
two_give a b xs ys p q = found_two said_there no_given a b ∙ ap₂ (λ (x y : List (List ℕ × Role)). x ++ y) p q ∙ sym (flat_map-append roles_given xs ys)

read_gives : (a b : List Sight) (l : List (List ℕ × Role)) → given_in a ≡ [] → given_in b ≡ l → given_in (a ++ b) ≡ l
read_gives a b l p q = none_front said_there no_given a b l p q

abbrev import_of : List ℕ × Option (List ℕ) → List ℕ × Role
import_of a = (bound_as a.0 a.1, Import)

alias_names : (names : List (List ℕ × Option (List ℕ))) (span : Span) → given_in (aliases_sights names span) ≡ map import_of names
alias_names [] span = refl
alias_names (a ∷ more) span = ap (λ l. import_of a ∷ l) (alias_names more span)

caught_gives : (o : Option (List ℕ)) (span : Span) → given_in (caught_sights o span) ≡ []
caught_gives None span = refl
caught_gives (Some x) span = refl

abbrev read_no : (a : ExprTree) → given_in (reads Value a) ≡ []
read_no a = reads_none said_there no_given Value a

one_by_one : (x : StmtTree) → roles_given x ≡ given_by (x ∷ [])
one_by_one x = sym (Rattle.std.proofs.Common.append-nil (roles_given x))

mutual
  stmt_gives : (x : StmtTree) → given_in (stmt_sights InModule x) ≡ given_by (stmt_definitions x)
  stmt_gives (s.at node span) = act_gives node span

  act_gives : (node : StmtNode) (span : Span) → given_in (stmt_node_sights InModule node span) ≡ given_by (node_definitions node span)
  act_gives (s.Do a) span = read_no a
  act_gives (s.Assign target a) span = none_two said_there no_given (target_sights target) (reads Value a) (target_gives target) (read_no a)
  act_gives (s.Annot target mark a) span =
      none_two said_there no_given (target_sights target) (reads Annotation mark ++ maybe_reads Value a) (target_gives target) (none_two said_there no_given (reads Annotation mark) (maybe_reads Value a) (reads_none said_there no_given Annotation mark) (maybe_reads_none said_there no_given Value a))
  act_gives (s.Aug target op a) span = none_two said_there no_given (target_sights target) (reads Value a) (target_gives target) (read_no a)
  act_gives (s.Del a) span = read_no a
  act_gives s.Pass span = refl
  act_gives s.Break span = refl
  act_gives s.Continue span = refl
  act_gives (s.Return a) span = maybe_reads_none said_there no_given Value a
  act_gives (s.Raise a) span = maybe_reads_none said_there no_given Value a
  act_gives (s.Global names) span = refl
  act_gives (s.Assert a message) span = none_two said_there no_given (reads Value a) (maybe_reads Value message) (read_no a) (maybe_reads_none said_there no_given Value message)
  act_gives (s.Import name other) span = refl
  act_gives (s.From name names) span = alias_names names span ∙ one_by_one (s.at (s.From name names) span)
  act_gives (s.If arms other) span = two_give (arms_sights InModule arms) (suite_sights InModule other) (arms_definitions arms) (suite_definitions other) (arms_give arms) (suite_gives other)
  act_gives (s.While test body) span = read_gives (reads Value test) (suite_sights InModule body) (given_by (suite_definitions body)) (read_no test) (suite_gives body)
  act_gives (s.For target a body) span =
      read_gives (target_sights target) (reads Value a ++ suite_sights InModule body) (given_by (suite_definitions body)) (target_gives target) (read_gives (reads Value a) (suite_sights InModule body) (given_by (suite_definitions body)) (read_no a) (suite_gives body))
  act_gives (s.Try body handlers last) span =
      two_give (suite_sights InModule body) (handlers_sights InModule handlers ++ maybe_suite_sights InModule last) (suite_definitions body) (handlers_definitions handlers ++ last_definitions last) (suite_gives body)
      (two_give (handlers_sights InModule handlers) (maybe_suite_sights InModule last) (handlers_definitions handlers) (last_definitions last) (handlers_give handlers) (last_gives last))
  act_gives (s.Def name params ret body marks) span =
      let f : FuncTree = record { name = name; params = params; ret = ret; body = body; marks = marks } in
      read_gives (list_reads Value marks) (sight (Defines Function name) span ∷ header_sights f span) ((name, Function) ∷ []) (list_none said_there no_given Value marks) (ap (λ (l : List (List ℕ × Role)). (name, Function) ∷ l) (header_none said_there no_given none_given f span))
  act_gives (s.ClassDef name bases body marks) span =
      read_gives (list_reads Value marks) (sight (Defines Class name) span ∷ (list_reads Value bases ++ members_sights body)) ((name, Class) ∷ []) (list_none said_there no_given Value marks)
      (ap (λ (l : List (List ℕ × Role)). (name, Class) ∷ l) (none_two said_there no_given (list_reads Value bases) (members_sights body) (list_none said_there no_given Value bases) (members_none said_there no_given none_given body)))

  -- THE NAMES that definitions and imports give
  pub suite_gives : (body : Suite) → given_in (suite_sights InModule body) ≡ given_by (suite_definitions body)
  suite_gives s.no_stmts = refl
  suite_gives (s.stmt_then x more) = two_give (stmt_sights InModule x) (suite_sights InModule more) (stmt_definitions x) (suite_definitions more) (stmt_gives x) (suite_gives more)

  arms_give : (arms : Arms) → given_in (arms_sights InModule arms) ≡ given_by (arms_definitions arms)
  arms_give s.no_arms = refl
  arms_give (s.arm_then test body more) =
      read_gives (reads Value test) (suite_sights InModule body ++ arms_sights InModule more) (given_by (suite_definitions body ++ arms_definitions more)) (read_no test) (two_give (suite_sights InModule body) (arms_sights InModule more) (suite_definitions body) (arms_definitions more) (suite_gives body) (arms_give more))

  handlers_give : (handlers : Handlers) → given_in (handlers_sights InModule handlers) ≡ given_by (handlers_definitions handlers)
  handlers_give s.no_handlers = refl
  handlers_give (s.handler_then class name body span more) =
      read_gives (maybe_reads Value class) (caught_sights name span ++ (suite_sights InModule body ++ handlers_sights InModule more)) (given_by (suite_definitions body ++ handlers_definitions more)) (maybe_reads_none said_there no_given Value class)
      (read_gives (caught_sights name span) (suite_sights InModule body ++ handlers_sights InModule more) (given_by (suite_definitions body ++ handlers_definitions more)) (caught_gives name span)
      (two_give (suite_sights InModule body) (handlers_sights InModule more) (suite_definitions body) (handlers_definitions more) (suite_gives body) (handlers_give more)))

  last_gives : (last : MaybeSuite) → given_in (maybe_suite_sights InModule last) ≡ given_by (last_definitions last)
  last_gives s.no_suite = refl
  last_gives (s.some_suite body) = suite_gives body
