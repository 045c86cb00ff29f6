use Rattle.std.proofs.Common.{◌≡◌, ℕ, List, [], map}
use Rattle.py_check_names.specs.Walked.{trees}
use Rattle.py_check_context.specs.Members as lookups
use Rattle.py_check_context.specs.declared.members.ClassMembers.{ClassMembers}
use Rattle.py_check_members.specs.declared.tables.Known.{Known}
use Rattle.py_check_members.specs.Members.{class_texts, member_along, init_along, init_behind_along}
use Rattle.py_check_members.specs.Tables.{owns_from, AreLinked}
use Rattle.py_check_members.specs.Views.{own_of}
use Rattle.py_check_members.proofs.WalkLemmas.{if_both}
use Rattle.py_check_members.proofs.TableLemmas.{members_long}
use Rattle.py_check_members.proofs.OrderLemmas.{member_is, init_is, init_behind_is}
use Rattle.py_check_members.proofs.tables.module_members.Goals as goal

pub returns-clause-member : goal.returns-clause-member
returns-clause-member c =
    let k : Known = record { scope = c.args.scope; names = c.args.names; scopes = c.args.scopes; classes = c.args.classes } in
    if_both c.all_members.result (λ (m : List ClassMembers). map own_of m ≡ owns_from k [] (class_texts 0 (trees c.args.definitions.now))) (AreLinked c.args.classes.now.headers) (λ m. (n : ℕ) (name : List ℕ) → lookups.member_in m n name ≡ member_along (map own_of m) c.args.classes.now.headers n name)
    (λ m own linked. member_is c.args.classes.now.headers c.args.classes.now.orders c.requires.kept m (members_long k (trees c.args.definitions.now) m own c.requires.all) linked)
    c.all_members.ensures.own c.all_members.ensures.linked

pub returns-clause-init : goal.returns-clause-init
returns-clause-init c =
    let k : Known = record { scope = c.args.scope; names = c.args.names; scopes = c.args.scopes; classes = c.args.classes } in
    if_both c.all_members.result (λ (m : List ClassMembers). map own_of m ≡ owns_from k [] (class_texts 0 (trees c.args.definitions.now))) (AreLinked c.args.classes.now.headers) (λ m. (n : ℕ) → lookups.init_in m n ≡ init_along (map own_of m) c.args.classes.now.headers n)
    (λ m own linked. init_is c.args.classes.now.headers c.args.classes.now.orders c.requires.kept m (members_long k (trees c.args.definitions.now) m own c.requires.all) linked)
    c.all_members.ensures.own c.all_members.ensures.linked

pub returns-clause-behind : goal.returns-clause-behind
returns-clause-behind c =
    let k : Known = record { scope = c.args.scope; names = c.args.names; scopes = c.args.scopes; classes = c.args.classes } in
    if_both c.all_members.result (λ (m : List ClassMembers). map own_of m ≡ owns_from k [] (class_texts 0 (trees c.args.definitions.now))) (AreLinked c.args.classes.now.headers) (λ m. (n : ℕ) → lookups.init_behind m n ≡ init_behind_along (map own_of m) c.args.classes.now.headers n)
    (λ m own linked. init_behind_is c.args.classes.now.headers c.args.classes.now.orders c.requires.kept m (members_long k (trees c.args.definitions.now) m own c.requires.all) linked)
    c.all_members.ensures.own c.all_members.ensures.linked
