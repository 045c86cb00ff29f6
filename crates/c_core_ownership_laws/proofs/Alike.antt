-- A checked step does what the unchecked one does, or ends in a fault of ownership.
use Rattle.std.proofs.Common.{◌≡◌, refl, sym, ap, subst, ◌∙◌, ℕ, zero, suc, inl, inr, Bool, true, false, cond, List, [], ◌∷◌, ◌++◌, length, Option, Some, None, arith}
use Rattle.std.specs.Prelude.{◌+◌, ◌≤◌, not, nat_lt, map, is_some, slice_get}
use Rattle.std.specs.List.{position_or_len}
use Rattle.std.specs.Option.{option_and_then}
use Rattle.value_core.specs.Ending.{Ending, Done, Raised}
use Rattle.value_core.specs.Exceptions.{Thrown, class_named}
use Rattle.value_core.specs.Items.{Items}
use Rattle.c_core.specs.declared.code.Kind.{Kind}
use Rattle.c_core.specs.declared.code.Kind.TheVariants.{Object}
use Rattle.c_core.specs.declared.code.CArg.{CArg}
use Rattle.c_core.specs.declared.code.CArg.TheVariants as arg
use Rattle.c_core.specs.declared.code.Line.{Line}
use Rattle.c_core.specs.declared.code.Line.TheVariants.{Label, Move, Lit, Call, Virtual, TraitCall, Goto, If, IfError, Turn, Return, Inc, Dec, XDec}
use Rattle.c_core.specs.declared.code.CClass.{CClass}
use Rattle.c_core.specs.declared.code.Code.{Code}
use Rattle.c_core.specs.declared.fault.Fault.{Fault}
use Rattle.c_core.specs.declared.fault.Fault.TheVariants as fault
use Rattle.c_core.specs.declared.primitive.Primitive.{Primitive}
use Rattle.c_core.specs.declared.primitive.Primitive.TheVariants as prim
use Rattle.c_core.specs.declared.primitive.DictPrim.TheVariants as dict
use Rattle.c_core.specs.declared.primitive.ErrPrim.TheVariants as err
use Rattle.c_core.specs.Cells.{Cells, times, content_at, take_one, refill, make}
use Rattle.c_core.specs.Ledgers.{Ledger, more, more_of, without}
use Rattle.c_core.specs.Release.{uses, release}
use Rattle.c_core.specs.Machine.{Word, ShortInt, BigInt, TaggedError, CharWord, ObjectCell, NoneObject, TrueObject, FalseObject, NoObject, Content, IntCell, StrCell, DictCell, ExcCell, refs_of, pair_refs, set_refs, refs_in, noted, Frame, MachineState}
use Rattle.c_core.specs.Holders.{pending_refs}
use Rattle.c_core.specs.Functions.{function_named, method_at, trait_method_at, parameter_kinds}
use Rattle.c_core.specs.Keys.{Key, key_in, key_of, is_key, key_place}
use Rattle.c_core.specs.Primitives.{Holding, AnInstance, Parameter, Borrows, Steals, MaySteal, TakesNumber, TakesPlace, TakesText, TakesDecimal, TakesException, TakesGlobal, TakesClass, may_end, row_of, primitive_named}
use Rattle.c_core.specs.Arguments.{Argument, Cell, Plain, Written, is_value_of, is_holding, key_as, kind_found, word_in, stolen}
use Rattle.c_core.specs.Step.{Faulted, Next, Goes, Ends, Effect, Wrong, Says, Shares, Lends, Makes, Changes, Writes, Stores, Fails, Pends, Catches, MakesInt, Reads, Skips, Stops, of_word, of_key, value_at, entry_set, entry_cut, truth_word, exception_in, matched, effect, with_cells, with_ledger, with_items, with_var, with_target, next_line, own, shared, raise, literal_word, equals_error, is_error, is_both, kind_of, answer_fits, method_of, label_at, line_at, if_some, if_calm, if_content, if_any, if_taken, given, word_of, if_true, if_there, if_variable, if_stolen, if_argument, if_arguments, applied, if_may_stand, called, call_step, if_passed, function_called, takes_and_gives, method_called, jumped, chosen, turned, taken, incremented, given_up, decremented, decremented_if_set, if_in_order, if_result, if_none_left, if_thrown, if_ended, if_return, step_at, step, unchecked_step}
use Rattle.c_core.specs.Laws.{IsCounted}
use Rattle.c_core.proofs.CountLemmas.{same_self, there, held-uses}
use Rattle.c_core.proofs.ReleaseLemmas.{times-append}
use Rattle.c_core.proofs.StepCases.{IsThere, AreThere}
use Rattle.c_core_ownership_laws.specs.Alike.{with_ledgers, loose, HoldsMore, IsLike, Alike}
use Rattle.c_core_ownership_laws.proofs.CellLemmas.{taken_more, changed_more, given_more, made_more}

-- a fault of ownership in the checked step
dead : (s : MachineState) (next : Next) → Alike (Ends (Faulted fault.Dead) s) next
dead s (Goes u) = tt
dead s (Ends d u) = inr tt

not_owned : (s : MachineState) (next : Next) → Alike (Ends (Faulted fault.NotOwned) s) next
not_owned s (Goes u) = tt
not_owned s (Ends d u) = inr tt

leak : (s : MachineState) (next : Next) → Alike (Ends (Faulted fault.Leak) s) next
leak s (Goes u) = tt
leak s (Ends d u) = inr tt

-- a write to a target leaves states alike
like_target : (x : Option ℕ) (w : Word) (t v : MachineState) → IsLike t v → IsLike (next_line (with_target x w t)) (next_line (with_target x w v))
like_target None w t v k =
    record { cells = k.cells; ledger = k.ledger; ledgers = k.ledgers; is = ap next_line k.is; more = k.more }
like_target (Some x) w t v k =
    record { cells = k.cells; ledger = k.ledger; ledgers = k.ledgers; is = ap (λ z. next_line (with_var x w z)) k.is; more = k.more }

module _ (s : MachineState) (ok : IsCounted s) (h : Cells Content) (l : Ledger) (ls : List Ledger) (m : HoldsMore s.cells h) where
  abbrev u : MachineState
  u = loose s h l ls

  -- the same places of both, with this ledger of the second
  with_one : (q : Ledger) (t v : MachineState) → v ≡ loose t h q ls → HoldsMore t.cells h → IsLike t v
  with_one q t v is more = record { cells = h; ledger = q; ledgers = ls; is = is; more = more }

  here : IsLike s u
  here = record { cells = h; ledger = l; ledgers = ls; is = refl; more = m }

  on : IsLike (next_line s) (next_line u)
  on = record { cells = h; ledger = l; ledgers = ls; is = refl; more = m }

  like_fault : (f : Fault) → Alike (Ends (Faulted f) s) (Ends (Faulted f) u)
  like_fault f = inl (refl, here)

  like_some : {A : Type 0} (f : Fault) (o : Option A) (go other : A → Next) → ((a : A) → o ≡ Some a → Alike (go a) (other a)) → Alike (if_some true s f o go) (if_some false u f o other)
  like_some f None go other k = like_fault f
  like_some f (Some a) go other k = k a refl

  like_word : (x : ℕ) (go other : Word → Next) → ((w : Word) → Alike (go w) (other w)) → Alike (word_of true s x go) (word_of false u x other)
  like_word x go other k = like_some fault.Kind (slice_get s.top.vars x) go other (λ w e. k w)

  like_calm : (o : Option ℕ) (go other : Next) → Alike go other → Alike (if_calm true s o go) (if_calm false u o other)
  like_calm None go other k = k
  like_calm (Some c) go other k = like_fault fault.Kind

  like_true : (b : Bool) (go other : Next) → Alike go other → Alike (if_true true s b go) (if_true false u b other)
  like_true true go other k = k
  like_true false go other k = like_fault fault.Kind

  -- a cell that is there in the checked state is there in the other one, with its content
  like_content_at : (a b : Option Content) → ((v : Content) → a ≡ Some v → b ≡ Some v) → (go other : Content → Next) → ((v : Content) → a ≡ Some v → Alike (go v) (other v)) → Alike (if_some true s fault.Dead a go) (if_some false u fault.Dead b other)
  like_content_at None b e go other k = dead s (if_some false u fault.Dead b other)
  like_content_at (Some v) b e go other k =
      subst (λ z. Alike (go v) (if_some false u fault.Dead z other)) (sym (e v refl)) (k v refl)

  like_content : (c : ℕ) (go other : Content → Next) → ((v : Content) → content_at s.cells c ≡ Some v → Alike (go v) (other v)) → Alike (if_content true s c go) (if_content false u c other)
  like_content c go other k = like_content_at (content_at s.cells c) (content_at h c) (m.more c) go other k

  like_there : (w : Word) (go other : Argument → Next) → ((a : Argument) → IsThere s a → Alike (go a) (other a)) → Alike (if_there true s w go) (if_there false u w other)
  like_there (BigInt c) go other k = like_content c _ _ (λ v. k (Cell c v))
  like_there (ObjectCell c) go other k = like_content c _ _ (λ v. k (Cell c v))
  like_there w go other k = k (Plain w) tt

  -- ---- references leave ledgers
  like_any : (n : ℕ) (go other : Next) → Alike go other → Alike (if_any true s n go) other
  like_any zero go other k = not_owned s other
  like_any (suc n) go other k = k

  like_taken : (c : ℕ) (r q : Ledger) (go other : Ledger → Next) → ((a b : Ledger) → Alike (go a) (other b)) → Alike (if_taken true s c r go) (if_taken false u c q other)
  like_taken c r q go other k = like_any (times r c) (go (without c r)) _ (k (without c r) (without c q))

  like_stolen : (a : Argument) (r q : Ledger) (go other : Ledger → Next) → ((b d : Ledger) → Alike (go b) (other d)) → Alike (if_stolen true s a r go) (if_stolen false u a q other)
  like_stolen (Cell c v) r q go other k = like_taken c r q go other k
  like_stolen (Plain w) r q go other k = k r q
  like_stolen (Written b) r q go other k = k r q

  -- ---- arguments
  like_variable : (k : Kind) (hold : Holding) (x : ℕ) (go other : Argument → Next) → ((a : Argument) → IsThere s a → Alike (go a) (other a)) → Alike (if_variable true s k hold x go) (if_variable false u k hold x other)
  like_variable k hold x go other same =
      like_word x _ _
      (λ w. like_true (is_value_of k w) _ _
      (like_there w _ _ (λ a here. like_true (is_holding hold a) (go a) (other a) (same a here))))

  like_argument : (code : Code) (p : Parameter) (a : CArg) (earlier : List Argument) (r q : Ledger) (go other : Argument → Ledger → Next) → ((y : Argument) (b d : Ledger) → IsThere s y → Alike (go y b) (other y d)) → Alike (if_argument true s code p a earlier r go) (if_argument false u code p a earlier q other)
  like_argument code (Borrows k hold) (arg.Var x) earlier r q go other same =
      like_some fault.Kind (kind_found code k earlier) _ _ (λ kind e. like_variable kind hold x _ _ (λ a here. same a r q here))
  like_argument code (Steals k hold) (arg.Var x) earlier r q go other same =
      like_some fault.Kind (kind_found code k earlier) _ _
      (λ kind e. like_variable kind hold x _ _ (λ a here. like_stolen a r q (go a) (other a) (λ b d. same a b d here)))
  like_argument code (MaySteal k hold) (arg.Var x) earlier r q go other same =
      like_some fault.Kind (kind_found code k earlier) _ _
      (λ kind e. like_variable kind hold x _ _ (λ a here. like_stolen a r q (go a) (other a) (λ b d. same a b d here)))
  like_argument code TakesNumber (arg.Number n) earlier r q go other same = same (Written (arg.Number n)) r q tt
  like_argument code TakesPlace (arg.Number n) earlier r q go other same = same (Written (arg.Number n)) r q tt
  like_argument code TakesText (arg.Text text) earlier r q go other same = same (Written (arg.Text text)) r q tt
  like_argument code TakesDecimal (arg.Text text) earlier r q go other same = same (Written (arg.Text text)) r q tt
  like_argument code TakesException (arg.Text text) earlier r q go other same = same (Written (arg.Text text)) r q tt
  like_argument code TakesGlobal (arg.Global name) earlier r q go other same = same (Written (arg.Global name)) r q tt
  like_argument code TakesClass (arg.Class name) earlier r q go other same = same (Written (arg.Class name)) r q tt
  like_argument code _ _ earlier r q go other same = like_fault fault.Kind

  like_arguments : (code : Code) (ps : List Parameter) (args : List CArg) (earlier : List Argument) (r q : Ledger) (go other : List Argument → Ledger → Next) → ((all : List Argument) (b d : Ledger) → AreThere s ps all → Alike (go all b) (other all d)) → Alike (if_arguments true s code ps args earlier r go) (if_arguments false u code ps args earlier q other)
  like_arguments code [] [] earlier r q go other same = same [] r q tt
  like_arguments code (p ∷ ps) (a ∷ rest) earlier r q go other same =
      like_argument code p a earlier r q _ _
      (λ y b d here. like_arguments code ps rest (earlier ++ y ∷ []) b d (λ others. go (y ∷ others)) (λ others. other (y ∷ others)) (λ all e f there. same (y ∷ all) e f (here, there)))
  like_arguments code (p ∷ ps) [] earlier r q go other same = like_true (may_end (p ∷ ps)) (go [] r) (other [] q) (same [] r q tt)
  like_arguments code [] (a ∷ rest) earlier r q go other same = like_fault fault.Kind

  -- ---- what a primitive does hangs on the state only by its globals, its pending exception, its input and the keys of dicts
  pending_at : (o : Option ℕ) → s.pending ≡ o → option_and_then exception_in (option_and_then (content_at h) o) ≡ option_and_then exception_in (option_and_then (content_at s.cells) o)
  pending_at None e = refl
  pending_at (Some c) e =
      let t = there s.cells c (omega (arith, ok c, ap (λ o. times (pending_refs o) c) e, same_self c)) in
      ap (option_and_then exception_in) (m.more c t.0 t.1 ∙ sym t.1)

  -- a word whose cell is counted is the same key in both
  key_at : (w : Word) → ((d : ℕ) → times (refs_of w) d ≤ uses refs_in s.cells d) → key_of h w ≡ key_of s.cells w
  key_at (ObjectCell c) held =
      let t = there s.cells c (omega (arith, ok c, held c, same_self c)) in
      ap (option_and_then key_in) (m.more c t.0 t.1 ∙ sym t.1)
  key_at TrueObject held = refl
  key_at FalseObject held = refl
  key_at _ held = refl

  -- so the keys of a dict stand at the same places
  before_key : (k : Key) (pairs : List (Word × Word)) → ((d : ℕ) → times (pair_refs pairs) d ≤ uses refs_in s.cells d) → position_or_len (λ p. is_key k (key_of h p.0)) pairs ≡ position_or_len (λ p. is_key k (key_of s.cells p.0)) pairs
  before_key k [] held = refl
  before_key k (p ∷ ps) held =
      ap (λ o. cond (not (is_key k o)) (1 + position_or_len (λ p. is_key k (key_of h p.0)) ps) 0) (key_at p.0 (λ d. omega (arith, held d, times-append (refs_of p.0) (refs_of p.1 ++ pair_refs ps) d)))
      ∙ ap (λ n. cond (not (is_key k (key_of s.cells p.0))) (1 + n) 0) (before_key k ps (λ d. omega (arith, held d, times-append (refs_of p.0) (refs_of p.1 ++ pair_refs ps) d, times-append (refs_of p.1) (pair_refs ps) d)))

  same_place : (c : ℕ) (k : Key) (pairs : List (Word × Word)) → content_at s.cells c ≡ Some (DictCell pairs) → key_place h k pairs ≡ key_place s.cells k pairs
  same_place c k pairs here =
      ap (λ n. cond (nat_lt n (length pairs)) (Some n) None) (before_key k pairs (λ d. held-uses refs_in s.cells c d (DictCell pairs) here))

  same_of_key : (f g : Key → Effect) (o : Option Key) → ((k : Key) → f k ≡ g k) → of_key f o ≡ of_key g o
  same_of_key f g None each = refl
  same_of_key f g (Some k) each = each k

  local : (code : Code) (p : Primitive) (all : List Argument) → AreThere s (row_of p).parameters all → effect code u p all ≡ effect code s p all
  local code (prim.Err err.Matches) (Written (arg.Text name) ∷ []) _ = ap (matched (class_named name)) (pending_at s.pending refl)
  local code (prim.Err err.Matches) _ _ = refl
  local code (prim.Dict dict.GetItem) (Cell c (DictCell pairs) ∷ a ∷ []) here =
      same_of_key _ _ (key_as a) (λ k. ap (λ i. value_at k i pairs) (same_place c k pairs here.0))
  local code (prim.Dict dict.SetItem) (Cell c (DictCell pairs) ∷ a ∷ b ∷ []) here =
      same_of_key _ _ (key_as a)
      (λ k. ap (λ i. of_word (λ key. of_word (entry_set c i pairs key) (word_in Object b)) (word_in Object a)) (same_place c k pairs here.0))
  local code (prim.Dict dict.DelItem) (Cell c (DictCell pairs) ∷ a ∷ []) here =
      same_of_key _ _ (key_as a) (λ k. ap (λ i. entry_cut c k i pairs) (same_place c k pairs here.0))
  local code (prim.Dict dict.Contains) (Cell c (DictCell pairs) ∷ a ∷ []) here =
      same_of_key _ _ (key_as a) (λ k. ap (λ i. Says (truth_word (is_some i))) (same_place c k pairs here.0))
  local code (prim.Dict dict.New) all _ = refl
  local code (prim.Dict dict.CheckSize) all _ = refl
  local code (prim.Dict dict.KeyAt) all _ = refl
  local code (prim.Dict dict.Len) all _ = refl
  local code (prim.Dict q) _ _ = refl
  local code (prim.Err err.SetObject) all _ = refl
  local code (prim.Err err.Unbound) all _ = refl
  local code (prim.Err err.Occurred) all _ = refl
  local code (prim.Err err.Catch) all _ = refl
  local code (prim.Int64 p) all _ = refl
  local code (prim.Tagged p) all _ = refl
  local code (prim.Bool p) all _ = refl
  local code (prim.Object p) all _ = refl
  local code (prim.Str p) all _ = refl
  local code (prim.List p) all _ = refl
  local code (prim.Tuple p) all _ = refl
  local code (prim.Instance p) all _ = refl
  local code (prim.Attr p) all _ = refl
  local code (prim.Global p) all _ = refl
  local code (prim.Exc p) all _ = refl
  local code (prim.Io p) all _ = refl

  like_shared : (x : Option ℕ) (w : Word) (gone : List ℕ) (r q : Ledger) → IsLike (next_line (with_target x w (given true s gone (shared w (with_ledger r s))))) (next_line (with_target x w (given false u gone (shared w (with_ledger q u)))))
  like_shared x (BigInt c) gone r q =
      like_target x (BigInt c) _ _ (record { cells = take_one c h; ledger = more c q; ledgers = ls; is = refl; more = given_more (take_one c s.cells) (take_one c h) (taken_more s.cells h m c) gone })
  like_shared x (ObjectCell c) gone r q =
      like_target x (ObjectCell c) _ _ (record { cells = take_one c h; ledger = more c q; ledgers = ls; is = refl; more = given_more (take_one c s.cells) (take_one c h) (taken_more s.cells h m c) gone })
  like_shared x w gone r q = like_target x w _ _ (with_one q _ _ refl (given_more s.cells h m gone))

  -- a cell has another content
  like_changed : (x : Option ℕ) (c : ℕ) (content : Content) (w : Word) (up : List ℕ) (r q : Ledger) → IsLike (next_line (with_target x w (given true s up (with_cells (refill content c s.cells) (with_ledger (more_of (refs_of w) r) s))))) (next_line (with_target x w (given false u up (with_cells (refill content c h) (with_ledger (more_of (refs_of w) q) u)))))
  like_changed x c content w up r q =
      like_target x w _ _ (record { cells = refill content c h; ledger = more_of (refs_of w) q; ledgers = ls; is = refl; more = given_more (refill content c s.cells) (refill content c h) (changed_more s.cells h m content c) up })

  -- a new cell, to which the target refers by its number, and which is noted where it is an object
  like_made : (x : Option ℕ) (word : ℕ → Word) (content : Content) (next : Items) (r q : Ledger) → IsLike (next_line (with_target x (word (length s.cells)) (own (length s.cells) (record (with_items next (with_ledger r s)) { cells = make content s.cells; made = noted content (length s.cells) s.made })))) (next_line (with_target x (word (length h)) (own (length h) (record (with_items next (with_ledger q u)) { cells = make content h; made = noted content (length h) s.made }))))
  like_made x word content next r q =
      subst (λ n. IsLike (next_line (with_target x (word (length s.cells)) before)) (next_line (with_target x (word n) (after n)))) m.size
      (like_target x (word (length s.cells)) before (after (length s.cells)) (record { cells = make content h; ledger = more (length h) q; ledgers = ls; is = refl; more = made_more s.cells h m content }))
    where
      before : MachineState
      before = own (length s.cells) (record (with_items next (with_ledger r s)) { cells = make content s.cells; made = noted content (length s.cells) s.made })

      after : ℕ → MachineState
      after n = own (length h) (record (with_items next (with_ledger q u)) { cells = make content h; made = noted content n s.made })

  -- a new exception is pending, and what was stolen is given up
  like_failed : (x : Option ℕ) (w : Word) (e : Thrown) (gone : List ℕ) (next : Items) (r q : Ledger) → IsLike (next_line (with_target x w (raise e (given true s gone (with_items next (with_ledger r s)))))) (next_line (with_target x w (raise e (given false u gone (with_items next (with_ledger q u))))))
  like_failed x w e gone next r q =
      let rest = given_more s.cells h m gone in
      like_target x w _ _ (record {
        cells = make (ExcCell e) h;
        ledger = q;
        ledgers = ls;
        is = ap (λ n. record (with_cells (make (ExcCell e) h) (with_items next (with_ledger q u))) { pending = Some n }) (sym rest.size);
        more = made_more (release refs_in s.cells gone) h rest (ExcCell e);
      })

  like_applied : (x : Option ℕ) (gone : List ℕ) (r q : Ledger) (e : Effect) → Alike (applied true s x r gone e) (applied false u x q gone e)
  like_applied x gone r q Wrong = like_fault fault.Kind
  like_applied x gone r q (Says w) = like_target x w _ _ (with_one q _ _ refl (given_more s.cells h m gone))
  like_applied x gone r q (Shares w) = like_shared x w gone r q
  like_applied x gone r q (Lends w) = like_target x w _ _ (with_one q _ _ refl (given_more s.cells h m gone))
  like_applied x gone r q (Changes c content w up) = like_changed x c content w up r q
  like_applied x gone r q (Makes content) = like_made x ObjectCell content s.items r q
  like_applied x gone r q (Writes text) = with_one q _ _ refl (given_more s.cells h m gone)
  like_applied x gone r q (Stores n old new) = with_one q _ _ refl (given_more s.cells h m (set_refs (old ∷ [])))
  like_applied x gone r q (Fails w e) = like_failed x w e gone s.items r q
  like_applied x gone r q (Pends c) = with_one q _ _ refl m
  like_applied x gone r q (Catches c) =
      like_target x (ObjectCell c) _ _ (with_one (more c q) _ _ refl m)
  like_applied x gone r q (MakesInt n) = like_made x BigInt (IntCell n) s.items r q
  like_applied x gone r q (Reads text next) = like_made x ObjectCell (StrCell text) next r q
  like_applied x gone r q (Skips next w e) = like_failed x w e gone next r q
  like_applied x gone r q (Stops e) = inl (refl, here)

  like_may_stand : (b : Bool) (go other : Next) → Alike go other → Alike (if_may_stand true s b go) (if_may_stand false u b other)
  like_may_stand true go other k = k
  like_may_stand false go other k = like_calm s.pending go other k

  like_primitive : (code : Code) (x : Option ℕ) (args : List CArg) (p : Primitive) → Alike (called true s code x args p) (called false u code x args p)
  like_primitive code x args p =
      like_may_stand (row_of p).while_pending _ _
      (like_arguments code (row_of p).parameters args [] s.top.ledger l _ _
      (λ all b d here. like_true (answer_fits code s.top (row_of p).outcome x all) _ _
      (subst (λ e. Alike (applied true s x b (stolen (row_of p).parameters all) (effect code s p all)) (applied false u x d (stolen (row_of p).parameters all) e)) (sym (local code p all here)) (like_applied x (stolen (row_of p).parameters all) b d (effect code s p all)))))

  -- ---- a call of a function
  like_passed : (ks : List Kind) (args : List CArg) (go other : List Word → Next) → ((ws : List Word) → Alike (go ws) (other ws)) → Alike (if_passed true s ks args go) (if_passed false u ks args other)
  like_passed [] [] go other same = same []
  like_passed (k ∷ ks) (arg.Var x ∷ rest) go other same =
      like_word x _ _
      (λ w. like_true (is_value_of k w) _ _
      (like_there w _ _ (λ a here. like_passed ks rest (λ ws. go (w ∷ ws)) (λ ws. other (w ∷ ws)) (λ ws. same (w ∷ ws)))))
  like_passed _ _ go other same = like_fault fault.Kind

  like_function : (code : Code) (x : Option ℕ) (args : List CArg) (n : Option ℕ) → Alike (function_called true s code x args n) (function_called false u code x args n)
  like_function code x args n =
      like_calm s.pending _ _
      (like_some fault.Kind n _ _
      (λ f e. like_some fault.Kind (slice_get code.funcs f) _ _
      (λ g is. like_passed (parameter_kinds g) args _ _ (λ ws. record { cells = h; ledger = []; ledgers = l ∷ ls; is = refl; more = m }))))

  -- a call of a method: the class of the object is found by its content
  like_method : (code : Code) (x o : ℕ) (args : List ℕ) (entry : CClass → Option (List ℕ)) → Alike (method_called true s code x o args entry) (method_called false u code x o args entry)
  like_method code x o args entry =
      like_calm s.pending _ _
      (like_variable Object AnInstance o _ _
      (λ a here. like_some fault.Kind (method_of code entry a) _ _
      (λ f e. like_some fault.Kind (slice_get code.funcs f) _ _
      (λ g is. like_true (takes_and_gives true s code x (o ∷ args) g) _ _
      (like_passed (parameter_kinds g) (map arg.Var (o ∷ args)) _ _ (λ ws. record { cells = h; ledger = []; ledgers = l ∷ ls; is = refl; more = m }))))))

  like_call : (code : Code) (x : Option ℕ) (name : List ℕ) (args : List CArg) (o : Option Primitive) → Alike (call_step true s code x name args o) (call_step false u code x name args o)
  like_call code x name args (Some p) = like_primitive code x args p
  like_call code x name args None = like_function code x args (function_named code.funcs name)

  -- ---- jumps and turns
  like_jump : (o : Option ℕ) → Alike (jumped true s o) (jumped false u o)
  like_jump o = like_some fault.Kind o _ _ (λ q e. record { cells = h; ledger = l; ledgers = ls; is = refl; more = m })

  like_choice : (a b : Option ℕ) (w : Word) → Alike (chosen true s a b w) (chosen false u a b w)
  like_choice a b (CharWord zero) = like_jump b
  like_choice a b (CharWord (suc zero)) = like_jump a
  like_choice a b _ = like_fault fault.Kind

  like_turn : (n : ℕ) → Alike (turned true s n) (turned false u n)
  like_turn zero = inl (refl, here)
  like_turn (suc n) = record { cells = h; ledger = l; ledgers = ls; is = refl; more = m }

  -- ---- counts
  like_more : (c : ℕ) → Alike (taken true s c) (taken false u c)
  like_more c =
      like_content c _ _ (λ v here. record { cells = take_one c h; ledger = more c l; ledgers = ls; is = refl; more = taken_more s.cells h m c })

  like_increment : (w : Word) → Alike (incremented true s w) (incremented false u w)
  like_increment (ShortInt n) = on
  like_increment (BigInt c) = like_more c
  like_increment (ObjectCell c) = like_more c
  like_increment NoneObject = on
  like_increment TrueObject = on
  like_increment FalseObject = on
  like_increment _ = like_fault fault.Kind

  like_given_up : (c : ℕ) → Alike (given_up true s c) (given_up false u c)
  like_given_up c =
      like_content c _ _
      (λ v here. like_taken c s.top.ledger l (λ r. Goes (next_line (given true s (c ∷ []) (with_ledger r s)))) (λ r. Goes (next_line (given false u (c ∷ []) (with_ledger r u))))
      (λ a b. with_one b _ _ refl (given_more s.cells h m (c ∷ []))))

  like_decrement : (w : Word) → Alike (decremented true s w) (decremented false u w)
  like_decrement (ShortInt n) = on
  like_decrement (BigInt c) = like_given_up c
  like_decrement (ObjectCell c) = like_given_up c
  like_decrement NoneObject = on
  like_decrement TrueObject = on
  like_decrement FalseObject = on
  like_decrement _ = like_fault fault.Kind

  like_decrement_if_set : (w : Word) → Alike (decremented_if_set true s w) (decremented_if_set false u w)
  like_decrement_if_set TaggedError = on
  like_decrement_if_set NoObject = on
  like_decrement_if_set w = like_decrement w

  -- ---- a return
  either : (b : Bool) (a z c y : Next) → Alike a c → Alike z y → Alike (cond b a z) (cond b c y)
  either true a z c y p q = p
  either false a z c y p q = q

  like_order : (w : Word) (o : Option ℕ) (go other : Next) → Alike go other → Alike (if_in_order true s w o go) (if_in_order false u w o other)
  like_order w None go other k = either (is_error w) _ _ _ _ (like_fault fault.Kind) k
  like_order w (Some c) go other k =
      either (is_error w) _ _ _ _ k (either (is_both w) _ _ _ _ k (like_fault fault.Kind))

  like_none_left : (r q : Ledger) (go other : Next) → Alike go other → Alike (if_none_left true s r go) (if_none_left false u q other)
  like_none_left [] [] go other k = k
  like_none_left [] (c ∷ q) go other k = k
  like_none_left (c ∷ r) q go other k = leak s (if_none_left false u q other)

  like_result : (w : Word) (go other : Next) → Alike go other → Alike (if_result true s w (λ r. if_none_left true s r go)) (if_result false u w (λ q. if_none_left false u q other))
  like_result (BigInt c) go other k =
      like_content c _ _ (λ v here. like_taken c s.top.ledger l _ _ (λ a b. like_none_left a b go other k))
  like_result (ObjectCell c) go other k =
      like_content c _ _ (λ v here. like_taken c s.top.ledger l _ _ (λ a b. like_none_left a b go other k))
  like_result w go other k = like_none_left s.top.ledger l go other k

  like_thrown : (v : Content) (go other : Ending → Next) → ((e : Ending) → Alike (go e) (other e)) → Alike (if_thrown true s v go) (if_thrown false u v other)
  like_thrown (ExcCell e) go other k = k (Raised e)
  like_thrown _ go other k = like_fault fault.Kind

  like_ended : (w : Word) (o : Option ℕ) (go other : Ending → Next) → ((e : Ending) → Alike (go e) (other e)) → Alike (if_ended true s w o go) (if_ended false u w o other)
  like_ended (CharWord (suc zero)) None go other k = k Done
  like_ended (CharWord (suc (suc zero))) (Some c) go other k =
      like_content c _ _ (λ v here. like_thrown v go other k)
  like_ended _ _ go other k = like_fault fault.Kind

  -- the caller goes on; x is its target
  like_back : (x : Option ℕ) (w : Word) (f : Frame) (fs : List Frame) (q : Ledger) (ks : List Ledger) → IsLike (with_target x w (record s { top = record f { ledger = more_of (refs_of w) f.ledger }; below = fs })) (with_target x w (record u { top = record f { ledger = q }; below = with_ledgers fs ks }))
  like_back None w f fs q ks = record { cells = h; ledger = q; ledgers = ks; is = refl; more = m }
  like_back (Some x) w f fs q ks = record { cells = h; ledger = q; ledgers = ks; is = refl; more = m }

  like_return : (w : Word) (fs : List Frame) (ks : List Ledger) → Alike (if_return true s w fs (λ next. if_result true s w (λ r. if_none_left true s r next))) (if_return false u w (with_ledgers fs ks) (λ next. if_result false u w (λ q. if_none_left false u q next)))
  like_return w [] ks = like_ended w s.pending _ _ (λ e. like_result w _ _ (inl (refl, here)))
  like_return w (f ∷ fs) [] = like_result w _ _ (like_back s.top.into w f fs (more_of (refs_of w) []) [])
  like_return w (f ∷ fs) (k ∷ ks) = like_result w _ _ (like_back s.top.into w f fs (more_of (refs_of w) k) ks)

  -- ---- a line
  pub like_line : (code : Code) (o : Option Line) → Alike (step_at true code s o) (step_at false code u o)
  like_line code None = like_fault fault.Kind
  like_line code (Some Label) = on
  like_line code (Some (Move x y)) =
      like_word y _ _
      (λ w. like_there w _ _ (λ a here. record { cells = h; ledger = l; ledgers = ls; is = refl; more = m }))
  like_line code (Some (Lit x k)) =
      like_some fault.Kind (option_and_then (λ kind. literal_word kind k) (kind_of code s.top x)) _ _
      (λ w e. record { cells = h; ledger = l; ledgers = ls; is = refl; more = m })
  like_line code (Some (Call x name args)) = like_call code x name args (primitive_named name)
  like_line code (Some (Virtual x o n args)) = like_method code x o args (method_at n)
  like_line code (Some (TraitCall x o t n args)) = like_method code x o args (trait_method_at t n)
  like_line code (Some (Goto n)) = like_jump (label_at code s.top n)
  like_line code (Some (If x n k)) = like_word x _ _ (like_choice (label_at code s.top n) (label_at code s.top k))
  like_line code (Some (IfError x n k)) =
      like_word x _ _ (λ w. like_jump (label_at code s.top (cond (equals_error w) n k)))
  like_line code (Some Turn) = like_calm s.pending _ _ (like_turn s.turns)
  like_line code (Some (Return x)) =
      like_word x _ _ (λ w. like_order w s.pending _ _ (like_return w s.below ls))
  like_line code (Some (Inc x)) = like_word x _ _ like_increment
  like_line code (Some (Dec x)) = like_word x _ _ like_decrement
  like_line code (Some (XDec x)) = like_word x _ _ like_decrement_if_set

-- a step
pub step_alike : (code : Code) (s u : MachineState) → IsCounted s → IsLike s u → Alike (step code s) (unchecked_step code u)
step_alike code s u ok k =
    subst (λ z. Alike (step code s) (unchecked_step code z)) (sym k.is)
    (like_line s ok k.cells k.ledger k.ledgers k.more code (line_at code s.top))
