-- Tuples: the objects that are packed into one, at the runner's states. Each is owned once more than those before it take.
use Rattle.std.proofs.Common.{◌≡◌, refl, sym, ap, ◌∙◌, ℕ, zero, suc, ◌+◌, ◌<◌, ◌≤◌, arith, add-one, Bool, true, false, cond, ◌==◌, nat_lt, replicate, List, [], ◌∷◌, ◌++◌, length, Option, Some, get_or, drop, drop-cons, subst, ◌⊎◌, inl, inr}
use Rattle.std.proofs.lemmas.Bool.Decides.{nat_tests}
use Rattle.c_core.specs.Cells.{same, times, Cells}
use Rattle.c_core.specs.Ledgers.{without, Ledger}
use Rattle.c_core.proofs.CountLemmas.{same_one, same_self}
use Rattle.std.specs.Prelude.{map, Result, Ok, Err, IfOk}
use Rattle.std.specs.Option.{option_map, option_and_then}
use Rattle.std.proofs.lemmas.List.{append-nil, drop_all, drop_more, map-append}
use Rattle.c_core.specs.declared.code.CArg.{CArg}
use Rattle.c_core.specs.declared.code.Code.{Code}
use Rattle.c_core.specs.declared.code.Kind.TheVariants.{Object}
use Rattle.c_core.specs.declared.fault.Fault.{Fault}
use Rattle.c_core.specs.declared.fault.Fault.TheVariants as fault
use Rattle.c_core.specs.declared.primitive.Primitive.TheVariants as prim
use Rattle.c_core.specs.declared.primitive.TuplePrim.TheVariants as tuple
use Rattle.c_core.specs.Arguments.{Argument, is_value_of, word_in, words_in, stolen}
use Rattle.c_core.specs.Machine as machine
use Rattle.c_core.specs.Machine.{BigInt, ObjectCell, Content, TupleCell, MachineState, refs_of, refs}
use Rattle.c_core.specs.Primitives.{Parameter, Is, Anything, Steals, MaySteal, may_end}
use Rattle.c_core.specs.Step as step
use Rattle.c_core.specs.Step.{Next, Ends, Faulted, Makes, if_arguments, of_words, applied, primitive_step}
use Rattle.c_core.proofs.ItemLemmas.{refs-append, refs-one}
use Rattle.c_core.proofs.LedgerLemmas.{without-times}
use Rattle.c_core.proofs.ReleaseLemmas.{times-append}
use Rattle.c_runner_deeds.specs.declared.ending.Ending.{Ending}
use Rattle.c_runner_deeds.specs.declared.ending.Ending.TheVariants as outcome
use Rattle.c_runner_deeds.specs.declared.state.Frame.{Frame}
use Rattle.c_runner_deeds.specs.Parts.{if_argument, is_there, argument_of, is_owned, left_by}
use Rattle.c_runner_deeds.specs.States.{Seen, Rest, Follows, IsSmall, state_of, next_of}
use Rattle.c_runner_objects.specs.Tuples.{pack_parameters, arguments_of, AreObjects, lost_all, AreOwned, all_stolen_or}
use Rattle.slot_arena.specs.declared.key.Key.{Key}
use Rattle.cell_heap.specs.declared.word.Word.{Word}
use Rattle.cell_heap.specs.Contents as contents
use Rattle.c_runner_deeds.proofs.GlobalLemmas.{HasKey, if_lost, steals, may_steal, word_lost, word_kept, word_is}

elsewhere : (k d c : ℕ) → k ≡ same d c → (d ≡ c → ⊥) → k ≡ 0
elsewhere zero d c e other = refl
elsewhere (suc k) d c e other = absurd (other (same_one d c k (sym e)))

-- ---- two numbers that are the same, or are not
pub same_here : (d c : ℕ) → d ≡ c → 1 ≡ same d c
same_here d c e = sym (ap (λ z. same z c) e ∙ same_self c)

pub same_elsewhere : (d c : ℕ) → (d ≡ c → ⊥) → 0 ≡ same d c
same_elsewhere d c other = sym (elsewhere (same d c) d c refl other)

-- ---- words, one more behind the others
lost_more : (ws : List machine.Word) (w : machine.Word) (l : Ledger) → lost_all (ws ++ w ∷ []) l ≡ left_by w (lost_all ws l)
lost_more [] w l = refl
lost_more (v ∷ ws) w l = lost_more ws w (left_by v l)

objects_more : (cells : Cells Content) (ws : List machine.Word) (w : machine.Word) → AreObjects cells ws → word_in Object (argument_of cells w) ≡ Some w → AreObjects cells (ws ++ w ∷ [])
objects_more cells [] w all e = (e, tt)
objects_more cells (v ∷ ws) w all e = (all.0, objects_more cells ws w all.1 e)

-- objects are the words that their arguments were
objects_are : (cells : Cells Content) (ws : List machine.Word) → AreObjects cells ws → words_in (arguments_of cells ws) ≡ Some ws
objects_are cells [] all = refl
objects_are cells (w ∷ ws) all =
    ap (option_and_then (λ v. option_map (λ vs. v ∷ vs) (words_in (arguments_of cells ws)))) all.0
    ∙ ap (option_map (λ vs. w ∷ vs)) (objects_are cells ws all.1)

words_more : (before after : List Word) (w : Word) → after ≡ before ++ w ∷ [] → map contents.word_of after ≡ map contents.word_of before ++ contents.word_of w ∷ []
words_more before after w e = ap (map contents.word_of) e ∙ map-append contents.word_of before (w ∷ [])

-- ---- what is left of a ledger
one_left : (c : ℕ) (l : Ledger) (d : ℕ) → nat_lt 0 (times l c) ≡ true → times l d ≡ times (c ∷ []) d + times (without c l) d
one_left c l d owned =
    let some : 1 ≤ times l c = grind (arith, nat_tests, owned) in omega (arith, without-times c l some d)

word_left : (w : machine.Word) (l : Ledger) (d : ℕ) → is_owned w l ≡ true → times l d ≡ times (refs_of w) d + times (left_by w l) d
word_left (BigInt c) l d owned = one_left c l d owned
word_left (ObjectCell c) l d owned = one_left c l d owned
word_left _ l d owned = omega arith

refs_more : (ws : List machine.Word) (w : machine.Word) (d : ℕ) → times (refs (ws ++ w ∷ [])) d ≡ times (refs ws) d + times (refs_of w) d
refs_more ws w d = refs-append ws (w ∷ []) d ∙ ap (λ n. times (refs ws) d + n) (refs-one w d)

owned_more : (l : Ledger) (ws : List machine.Word) (w : machine.Word) → AreOwned ws l → is_owned w (lost_all ws l) ≡ true → AreOwned (ws ++ w ∷ []) l
owned_more l ws w all owned = λ d.
    let last = ap (λ k. times k d) (lost_more ws w l) in
    omega (arith, all d, refs_more ws w d, word_left w (lost_all ws l) d owned, last)

-- a word is owned beside others where the ledger has its reference more often than they do
beyond_either : (b : Bool) (all some rest : ℕ) → all ≡ some + rest → nat_lt 0 rest ≡ b → nat_lt some all ≡ b
beyond_either true all some rest e is = grind (arith, nat_tests, e, is)
beyond_either false all some rest e is = grind (arith, nat_tests, e, is)

pub beside : (ws : List machine.Word) (l : Ledger) (c n : ℕ) → AreOwned ws l → n ≡ times (refs ws) c → nat_lt n (times l c) ≡ nat_lt 0 (times (lost_all ws l) c)
beside ws l c n all counted =
    ap (λ m. nat_lt m (times l c)) counted
    ∙ beyond_either (nat_lt 0 (times (lost_all ws l) c)) (times l c) (times (refs ws) c) (times (lost_all ws l) c) (all c) refl

key_owned : (w : Word) (key : Key) (l : Ledger) → HasKey w key → nat_lt 0 (times l (contents.number_of key)) ≡ is_owned (contents.word_of w) l
key_owned w key l (inl e) = sym (ap (λ v. is_owned (contents.word_of v) l) e)
key_owned w key l (inr e) = sym (ap (λ v. is_owned (contents.word_of v) l) e)

pub owned_beside : (ws : List machine.Word) (l : Ledger) (w : Word) (key : Key) (number n : ℕ) (result : Bool) → HasKey w key → number ≡ contents.number_of key → n ≡ times (refs ws) number → result ≡ nat_lt n (times l number) → AreOwned ws l → result ≡ is_owned (contents.word_of w) (lost_all ws l)
owned_beside ws l w key number n result has serial counted is all =
    is ∙ beside ws l number n all counted
    ∙ ap (λ c. nat_lt 0 (times (lost_all ws l) c)) serial
    ∙ key_owned w key (lost_all ws l) has

-- ---- how often a word refers to a cell
one_time : (d c : ℕ) → d ≡ c → 1 ≡ times (d ∷ []) c
one_time d c e = omega (arith, same_here d c e)

no_time : (d c : ℕ) → (d ≡ c → ⊥) → 0 ≡ times (d ∷ []) c
no_time d c other = omega (arith, same_elsewhere d c other)

pub refers : (w : Word) (key : Key) (number c : ℕ) → HasKey w key → number ≡ contents.number_of key → number ≡ c → 1 ≡ times (refs_of (contents.word_of w)) c
refers w key number c (inl e) serial is = one_time (contents.number_of key) c (sym serial ∙ is) ∙ sym (ap (λ v. times (refs_of (contents.word_of v)) c) e)
refers w key number c (inr e) serial is = one_time (contents.number_of key) c (sym serial ∙ is) ∙ sym (ap (λ v. times (refs_of (contents.word_of v)) c) e)

pub refers_not : (w : Word) (key : Key) (number c : ℕ) → HasKey w key → number ≡ contents.number_of key → (number ≡ c → ⊥) → 0 ≡ times (refs_of (contents.word_of w)) c
refers_not w key number c (inl e) serial other = no_time (contents.number_of key) c (λ same. other (serial ∙ same)) ∙ sym (ap (λ v. times (refs_of (contents.word_of v)) c) e)
refers_not w key number c (inr e) serial other = no_time (contents.number_of key) c (λ same. other (serial ∙ same)) ∙ sym (ap (λ v. times (refs_of (contents.word_of v)) c) e)

-- the references of one word more are counted
pub counted_next : (words : List Word) (c i : ℕ) (d : Word) (count one total : ℕ) → i < length words → count + times (refs (map contents.word_of (drop i words))) c ≡ total → one ≡ times (refs_of (contents.word_of (get_or words i d))) c → count + one + times (refs (map contents.word_of (drop (i + 1) words))) c ≡ total
counted_next words c i d count one total lt so_far here =
    let others = refs (map contents.word_of (drop (i + 1) words)) in
    let first = refs_of (contents.word_of (get_or words i d)) in
    let all : times (refs (map contents.word_of (drop i words))) c ≡ times (first ++ others) c = ap (λ ws. times (refs (map contents.word_of ws)) c) (drop_more words i d lt) in
    omega (arith, so_far, here, all, times-append first others c)

-- ---- words that leave a ledger
without_either : (b : Bool) (c d x : ℕ) (l : Ledger) → times (without c l) x ≤ times l x → times (cond b l (d ∷ without c l)) x ≤ times (d ∷ l) x
without_either true c d x l le = omega arith
without_either false c d x l le = omega (arith, le)

without_few : (c x : ℕ) (l : Ledger) → times (without c l) x ≤ times l x
without_few c x [] = omega arith
without_few c x (d ∷ l) = without_either (d == c) c d x l (without_few c x l)

left_few : (w : machine.Word) (l : Ledger) (x : ℕ) → times (left_by w l) x ≤ times l x
left_few (BigInt c) l x = without_few c x l
left_few (ObjectCell c) l x = without_few c x l
left_few _ l x = omega arith

lost_few : (ws : List machine.Word) (l : Ledger) (x : ℕ) → times (lost_all ws l) x ≤ times l x
lost_few [] l x = omega arith
lost_few (w ∷ ws) l x = omega (arith, lost_few ws (left_by w l) x, left_few w l x)

-- a state stays small where words leave its ledger
pub small_without : (old : Seen) (ws : List machine.Word) (top : Frame) → IsSmall old → top ≡ record old.top { ledger = lost_all ws old.top.ledger } → IsSmall (record old { top = top })
small_without old ws top small is = record {
  made = small.made;
  counts = small.counts;
  ledgers = λ c.
      let kept : times top.ledger c ≡ times (lost_all ws old.top.ledger) c = ap (λ f. times f.ledger c) is in
      omega (arith, small.ledgers c, kept, lost_few ws old.top.ledger c);
}

pub place_kept : (old : Seen) (ws : List machine.Word) (top : Frame) (n : ℕ) → top ≡ record old.top { ledger = lost_all ws old.top.ledger } → old.top.place + 1 < n → top.place + 1 < n
place_kept old ws top n is lt = let same_place : top.place ≡ old.top.place = ap (λ f. f.place) is in omega (arith, lt, same_place)

-- ---- the parameters
-- a parameter that steals any object
abbrev IsTaken : Parameter → Type 0
IsTaken p = (p ≡ Steals (Is Object) Anything) ⊎ (p ≡ MaySteal (Is Object) Anything)

many : (n i : ℕ) (p : Parameter) → i < n → drop i (replicate n p) ≡ p ∷ drop (suc i) (replicate n p)
many zero i p lt = absurd (omega (arith, lt))
many (suc n) zero p lt = refl
many (suc n) (suc i) p lt = many n i p (omega (arith, lt))

every : (i : ℕ) → i < 16 → (p : Parameter) × (IsTaken p × (drop i pack_parameters ≡ p ∷ drop (suc i) pack_parameters))
every zero lt = (Steals (Is Object) Anything, (inl refl, refl))
every (suc i) lt = (MaySteal (Is Object) Anything, (inr refl, many 15 i (MaySteal (Is Object) Anything) (omega (arith, lt))))

all_may : (n i : ℕ) → may_end (drop i (replicate n (MaySteal (Is Object) Anything))) ≡ true
all_may zero zero = refl
all_may zero (suc i) = refl
all_may (suc n) zero = all_may n zero
all_may (suc n) (suc i) = all_may n i

may_end_behind : (i : ℕ) → 0 < i → may_end (drop i pack_parameters) ≡ true
may_end_behind zero lt = absurd (omega (arith, lt))
may_end_behind (suc i) lt = all_may 15 i

-- ---- what comes behind some arguments
abbrev pub behind : List Argument → (List Argument → Ledger → Next) → List Argument → Ledger → Next
behind [] go = go
behind (a ∷ earlier) go = behind earlier (λ others. go (a ∷ others))

behind_more : (earlier : List Argument) (a : Argument) (go : List Argument → Ledger → Next) → behind (earlier ++ a ∷ []) go ≡ (λ others. behind earlier go (a ∷ others))
behind_more [] a go = refl
behind_more (b ∷ earlier) a go = behind_more earlier a (λ others. go (b ∷ others))

behind_all : (earlier others : List Argument) (go : List Argument → Ledger → Next) (l : Ledger) → behind earlier go others l ≡ go (earlier ++ others) l
behind_all [] others go l = refl
behind_all (a ∷ earlier) others go l = behind_all earlier others (λ more. go (a ∷ more)) l

-- ---- one argument
module _ (s : MachineState) (code : Code) where
  steals_object : (a : CArg) (earlier : List Argument) (l : Ledger) (go : Argument → Ledger → Next) → step.if_argument true s code (Steals (Is Object) Anything) a earlier l go ≡ if_argument s Object a (λ w. if_lost s w l (go (argument_of s.cells w)))
  steals_object a earlier l go = steals s code Object (Is Object) Anything a earlier l go refl

  takes_object : (p : Parameter) (a : CArg) (earlier : List Argument) (l : Ledger) (go : Argument → Ledger → Next) → IsTaken p → step.if_argument true s code p a earlier l go ≡ if_argument s Object a (λ w. if_lost s w l (go (argument_of s.cells w)))
  takes_object p a earlier l go (inl e) = ap (λ q. step.if_argument true s code q a earlier l go) e ∙ steals_object a earlier l go
  takes_object p a earlier l go (inr e) = ap (λ q. step.if_argument true s code q a earlier l go) e ∙ may_steal s code (Is Object) Anything a earlier l go ∙ steals_object a earlier l go

  no_more : (ps : List Parameter) (earlier : List Argument) (l : Ledger) (go : List Argument → Ledger → Next) → may_end ps ≡ true → if_arguments true s code ps [] earlier l go ≡ go [] l
  no_more [] earlier l go e = refl
  no_more (p ∷ ps) earlier l go e = ap (λ b. step.if_true true s b (go [] l)) e

-- ---- all arguments
module _ (s : MachineState) (code : Code) (args : List CArg) (go : List Argument → Ledger → Next) where
  abbrev pub tested : List Parameter → List CArg → List machine.Word → Next
  tested ps rest ws = if_arguments true s code ps rest (arguments_of s.cells ws) (lost_all ws s.top.ledger) (behind (arguments_of s.cells ws) go)

  -- what is left to be packed from the place i on, behind some words
  abbrev pub left : ℕ → List machine.Word → Next
  left i ws = tested (drop i pack_parameters) (drop i args) ws

  -- the same, where the next word has its argument and the ledger is what it leaves
  abbrev next : ℕ → List machine.Word → machine.Word → Ledger → Next
  next i ws w l =
      if_arguments true s code (drop (suc i) pack_parameters) (drop (suc i) args) (arguments_of s.cells ws ++ argument_of s.cells w ∷ []) l
      (λ others. behind (arguments_of s.cells ws) go (argument_of s.cells w ∷ others))

  one_left_over : (i : ℕ) (a : CArg) → i < length args → a ≡ get_or args i a → drop i args ≡ a ∷ drop (suc i) args
  one_left_over i a lt is = drop-cons args i a lt ∙ ap (λ b. b ∷ drop (suc i) args) (sym is)

  one : (i : ℕ) (ws : List machine.Word) (a : CArg) → i < 16 → i < length args → a ≡ get_or args i a → left i ws ≡ if_argument s Object a (λ w. if_lost s w (lost_all ws s.top.ledger) (next i ws w))
  one i ws a few lt is =
      let p = every i few in
      ap (λ ps. tested ps (drop i args) ws) p.1.1
      ∙ ap (λ rest. tested (p.0 ∷ drop (suc i) pack_parameters) rest ws) (one_left_over i a lt is)
      ∙ takes_object s code p.0 a (arguments_of s.cells ws) (lost_all ws s.top.ledger)
      (λ first l. if_arguments true s code (drop (suc i) pack_parameters) (drop (suc i) args) (arguments_of s.cells ws ++ first ∷ []) l (λ others. behind (arguments_of s.cells ws) go (first ∷ others)))
      p.1.0

  next_is : (i : ℕ) (ws : List machine.Word) (w : machine.Word) → next i ws w (left_by w (lost_all ws s.top.ledger)) ≡ left (i + 1) (ws ++ w ∷ [])
  next_is i ws w =
      let earlier = arguments_of s.cells ws in
      let a = argument_of s.cells w in
      let rest : List Argument → Ledger → (List Argument → Ledger → Next) → Next = λ all l to. if_arguments true s code (drop (suc i) pack_parameters) (drop (suc i) args) all l to in
      ap (rest (earlier ++ a ∷ []) (left_by w (lost_all ws s.top.ledger))) (sym (behind_more earlier a go))
      ∙ ap (λ l. rest (earlier ++ a ∷ []) l (behind (earlier ++ a ∷ []) go)) (sym (lost_more ws w s.top.ledger))
      ∙ ap (λ all. rest all (lost_all (ws ++ w ∷ []) s.top.ledger) (behind all go)) (sym (map-append (argument_of s.cells) ws (w ∷ [])))
      ∙ ap (λ j. left j (ws ++ w ∷ [])) (sym (add-one i))

  -- an argument that may not be passed
  pub refused : (i : ℕ) (ws : List machine.Word) (a : CArg) (why : Fault) → i < 16 → i < length args → a ≡ get_or args i a → ((to : machine.Word → Next) → if_argument s Object a to ≡ Ends (Faulted why) s) → left i ws ≡ Ends (Faulted why) s
  refused i ws a why few lt is fails = one i ws a few lt is ∙ fails _

  -- a word that the frame does not own beside those before it, and one that it owns
  pub unowned : (i : ℕ) (ws : List machine.Word) (a : CArg) (w : machine.Word) → i < 16 → i < length args → a ≡ get_or args i a → ((to : machine.Word → Next) → if_argument s Object a to ≡ to w) → is_owned w (lost_all ws s.top.ledger) ≡ false → left i ws ≡ Ends (Faulted fault.NotOwned) s
  unowned i ws a w few lt is passes kept =
      one i ws a few lt is ∙ passes _ ∙ word_kept s w (lost_all ws s.top.ledger) (next i ws w) kept

  pub one_packed : (i : ℕ) (ws : List machine.Word) (a : CArg) (w : machine.Word) → i < 16 → i < length args → a ≡ get_or args i a → ((to : machine.Word → Next) → if_argument s Object a to ≡ to w) → is_owned w (lost_all ws s.top.ledger) ≡ true → left i ws ≡ left (i + 1) (ws ++ w ∷ [])
  one_packed i ws a w few lt is passes owned =
      one i ws a few lt is ∙ passes _ ∙ word_lost s w (lost_all ws s.top.ledger) (next i ws w) owned ∙ next_is i ws w

  -- one argument too many
  pub too_many : (i : ℕ) (ws : List machine.Word) (a : CArg) → 16 ≤ i → i < length args → a ≡ get_or args i a → left i ws ≡ Ends (Faulted fault.Kind) s
  too_many i ws a all lt is =
      ap (λ ps. tested ps (drop i args) ws) (drop_all i pack_parameters all)
      ∙ ap (λ rest. tested [] rest ws) (one_left_over i a lt is)

  -- no further argument
  pub all_packed : (i : ℕ) (ws : List machine.Word) → 0 < i → length args ≤ i → left i ws ≡ go (arguments_of s.cells ws) (lost_all ws s.top.ledger)
  all_packed i ws lt le =
      let earlier = arguments_of s.cells ws in
      let l = lost_all ws s.top.ledger in
      ap (λ rest. tested (drop i pack_parameters) rest ws) (drop_all i args le)
      ∙ no_more s code (drop i pack_parameters) earlier l (behind earlier go) (may_end_behind i lt)
      ∙ behind_all earlier [] go l
      ∙ ap (λ all. go all l) (append-nil earlier)

-- the words so far and one more, as the runner has them
pub packs_more : (s : MachineState) (code : Code) (args : List CArg) (go : List Argument → Ledger → Next) (i : ℕ) (before after : List Word) (w : Word) → after ≡ before ++ w ∷ [] → left s code args go (i + 1) (map contents.word_of before ++ contents.word_of w ∷ []) ≡ left s code args go (i + 1) (map contents.word_of after)
packs_more s code args go i before after w e = ap (left s code args go (i + 1)) (sym (words_more before after w e))

pub objects_push : (cells : Cells Content) (before after : List Word) (w : Word) → after ≡ before ++ w ∷ [] → AreObjects cells (map contents.word_of before) → is_value_of Object (contents.word_of w) ≡ true → is_there cells (contents.word_of w) ≡ true → AreObjects cells (map contents.word_of after)
objects_push cells before after w e all value there =
    subst (AreObjects cells) (sym (words_more before after w e)) (objects_more cells (map contents.word_of before) (contents.word_of w) all (word_is cells Object (contents.word_of w) value there))

pub owned_push : (l : Ledger) (before after : List Word) (w : Word) → after ≡ before ++ w ∷ [] → AreOwned (map contents.word_of before) l → is_owned (contents.word_of w) (lost_all (map contents.word_of before) l) ≡ true → AreOwned (map contents.word_of after) l
owned_push l before after w e all owned =
    subst (λ ws. AreOwned ws l) (sym (words_more before after w e)) (owned_more l (map contents.word_of before) (contents.word_of w) all owned)

-- ---- the tuple is made
-- what is done with what was stolen
abbrev pub packed_by : Option ℕ → MachineState → List Argument → Ledger → Next
packed_by target s all l =
    applied true s target l (stolen pack_parameters all) (of_words (λ ws. Makes (TupleCell ws)) (words_in all))

abbrev pub StolenAs : Seen → List CArg → Result (List Word) Fault → Type 0
StolenAs old args r =
    (rest : Rest) (code : Code) (go : List Argument → Ledger → Next) → if_arguments true (state_of rest old) code pack_parameters args [] old.top.ledger go ≡ all_stolen_or r (state_of rest old) go

pub none_stolen : (old : Seen) (code : Code) (target : Option ℕ) (args : List CArg) (why : Fault) → StolenAs old args (Err why) → Follows (λ s. primitive_step true s code target args (prim.Tuple tuple.Pack)) (Some (outcome.Fault why)) old old
none_stolen old code target args why found = λ rest. found rest code (packed_by target (state_of rest old))

pub tuple_packed : {E : Type 0} (old new : Seen) (target : Option ℕ) (args : List CArg) (words : List Word) (top : Frame) (r : Result (Option Ending) E) → StolenAs old args (Ok words) → AreObjects old.cells (map contents.word_of words) → top ≡ record old.top { ledger = lost_all (map contents.word_of words) old.top.ledger } → IfOk r (λ ending. (rest : Rest) → applied true (state_of rest (record old { top = top })) target top.ledger [] (Makes (TupleCell (map contents.word_of words))) ≡ next_of ending (state_of rest new)) → IfOk r (λ ending. (code : Code) → Follows (λ s. primitive_step true s code target args (prim.Tuple tuple.Pack)) ending old new)
tuple_packed old new target args words top (Ok ending) found objects top_is made = λ code rest.
    let s = state_of rest old in
    let ws = map contents.word_of words in
    let made_at : Frame → Next = λ f. applied true (state_of rest (record old { top = f })) target f.ledger [] (Makes (TupleCell ws)) in
    found rest code (packed_by target s)
    ∙ ap (λ o. applied true s target (lost_all ws old.top.ledger) (stolen pack_parameters (arguments_of old.cells ws)) (of_words (λ us. Makes (TupleCell us)) o)) (objects_are old.cells ws objects)
    ∙ ap made_at (sym top_is)
    ∙ made rest
tuple_packed old new target args words top (Err failed) found objects top_is made = tt
