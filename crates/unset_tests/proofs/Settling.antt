-- Which tests may go, and what stands behind a failure.
use Rattle.std.proofs.Common.{◌≡◌, refl, sym, ◌∙◌, ap, subst, ℕ, suc, ◌+◌, ◌-◌, ◌<◌, ◌≤◌, arith, Bool, true, false, cond, List, [], ◌∷◌, length, Some, None, ◌⊎◌, inl, inr, get_or}
use Rattle.std.specs.Prelude.{slice_get, slice_set, replicate, not, ◌||◌, ◌==◌}
use Rattle.std.proofs.lemmas.Bool.{eq-eqb, eqb-true, ne_eqb}
use Rattle.ir_core.specs.declared.code.Op.{Op}
use Rattle.ir_core.specs.declared.code.Last.{Last}
use Rattle.ir_core.specs.declared.code.Last.TheVariants.{Goto, If, IfError, Return, Unreachable}
use Rattle.ir_core.specs.declared.code.Block.{Block}
use Rattle.ir_core.specs.declared.kind.Edge.{Edge}
use Rattle.ir_core.specs.declared.kind.Edge.TheVariants.{NoEdge, Tests, TestsTwice, Jumps}
use Rattle.ir_core.specs.Items.{in_block}
use Rattle.ir_core.specs.Rows.{Declared, edge_of_op}
use Rattle.ir_core.specs.Meaning.{is_jump}
use Rattle.std.proofs.lemmas.Option.{slice_get_read}
use Rattle.unset_tests.specs.Unset.{is_jumps, is_passed, ends_in_failure, UnsetAt, undeclared, entry}
use Rattle.unset_tests.specs.Without.{Stays, IsEndWithout, AreBlocksWithout}
use Rattle.unset_tests.specs.Walk.{end_unset, AreUnset, is_tested_by, is_test_of, may_go, settled, left_out, blocks_without, AreSure}
use Rattle.unset_tests.proofs.Walking.{end_is, state_sound, onward_sound, AreClosed, complete, there_within}
use Rattle.unset_tests.proofs.Marking.{no_mark, same_or, below_or, set_there, set_other}

-- ---- the last operation
pub last_is : (regs : Declared) (ops : List (Op × ℕ)) (o : Op × ℕ) → slice_get ops (length ops - 1) ≡ Some o → is_jumps (edge_of_op regs o.0) ≡ ends_in_failure regs ops
last_is regs [] o e = absurd (cc)
last_is regs (x ∷ []) o e = let same : x ≡ o = some_op x o e in ap (λ z. is_jumps (edge_of_op regs z.0)) (sym same)
  where
    some_op : (x o : Op × ℕ) → Some x ≡ Some o → x ≡ o
    some_op x o e = cc
last_is regs (x ∷ y ∷ ops) o e =
    let n : length (x ∷ y ∷ ops) - 1 ≡ suc (length (y ∷ ops) - 1) = omega arith in
    last_is regs (y ∷ ops) o (sym (ap (slice_get (x ∷ y ∷ ops)) n) ∙ e)

pub no_last : (regs : Declared) (ops : List (Op × ℕ)) → slice_get ops (length ops - 1) ≡ None → false ≡ ends_in_failure regs ops
no_last regs [] e = refl
no_last regs (x ∷ []) e = absurd (cc)
no_last regs (x ∷ y ∷ ops) e =
    let n : length (x ∷ y ∷ ops) - 1 ≡ suc (length (y ∷ ops) - 1) = omega arith in
    no_last regs (y ∷ ops) (sym (ap (slice_get (x ∷ y ∷ ops)) n) ∙ e)

-- ---- what stands behind an operation
jumps_are : (e : Edge) → is_jumps e ≡ true → e ≡ Jumps
jumps_are NoEdge h = absurd (cc)
jumps_are (Tests r) h = absurd (cc)
jumps_are (TestsTwice r) h = absurd (cc)
jumps_are Jumps h = refl

pub passed_to_jump : (e : Edge) (rest : List (Op × ℕ)) (last : Last) (t : ℕ) → is_jumps e ≡ true → last ≡ Goto t → (length rest == 0) ≡ is_passed e (in_block rest last 0)
passed_to_jump e rest last t h is = by rest ∙ sym (ap (λ z. is_passed z (in_block rest last 0)) (jumps_are e h) ∙ ap (λ z. is_jump (in_block rest z 0)) is)
  where
    by : (os : List (Op × ℕ)) → (length os == 0) ≡ is_jump (in_block os (Goto t) 0)
    by [] = refl
    by (o ∷ os) = ne_eqb (length (o ∷ os)) 0 (λ e. omega (arith, e))

pub passed_to_other : (e : Edge) (rest : List (Op × ℕ)) (last : Last) → is_jumps e ≡ true → ((t : ℕ) → last ≡ Goto t → ⊥) → false ≡ is_passed e (in_block rest last 0)
passed_to_other e rest last h other = sym (ap (λ z. is_passed z (in_block rest last 0)) (jumps_are e h) ∙ by rest last other)
  where
    by : (os : List (Op × ℕ)) (l : Last) → ((t : ℕ) → l ≡ Goto t → ⊥) → is_jump (in_block os l 0) ≡ false
    by (o ∷ os) l ne = refl
    by [] (Goto t) ne = absurd (ne t refl)
    by [] (If r a b) ne = refl
    by [] (IfError r a b line) ne = refl
    by [] (Return r) ne = refl
    by [] Unreachable ne = refl

some_block : (x b : Block) → Some x ≡ Some b → x ≡ b
some_block x b e = cc

-- ---- which tests may go
below_not : (a c : ℕ) → (a ≡ c → ⊥) → a < c + 1 → a < c
below_not a c ne lt = on (below_or a c)
  where
    on : (a < c) ⊎ (c ≤ a) → a < c
    on (inl x) = x
    on (inr x) = absurd (ne (omega (arith, x, lt)))

-- an end tests one register
tested_one : (a b : ℕ) (l : Last) → is_tested_by a l ≡ true → is_tested_by b l ≡ true → a ≡ b
tested_one a b (Goto t) e f = absurd (cc)
tested_one a b (If r x y) e f = absurd (cc)
tested_one a b (IfError s x y line) e f = sym (eqb-true s.0 a e) ∙ eqb-true s.0 b f
tested_one a b (Return r) e f = absurd (cc)
tested_one a b Unreachable e f = absurd (cc)

module _ (regs : Declared) (blocks : List Block) where
  -- a test that may go, or stays
  abbrev pub IsSettled : ℕ → ℕ → Block → Bool → Type 0
  IsSettled k r b goes = (goes ≡ true → Stays regs blocks k b.ops r → ⊥) × (goes ≡ false → Stays regs blocks k b.ops r)

  -- those of the registers below n
  abbrev pub AreSettled : List Bool → ℕ → Type 0
  AreSettled sure n =
      (k r : ℕ) (b : Block) → slice_get blocks k ≡ Some b → is_test_of r b ≡ true → (r < n → IsSettled k r b (get_or sure k false)) × (n ≤ r → get_or sure k false ≡ false)

  pub none_settled : AreSettled (replicate (length blocks) false) 0
  none_settled k r b at is = (λ lt. absurd (omega (arith, lt)), λ le. no_mark (length blocks) k)

  -- all of them
  pub all_settled : (sure : List Bool) → AreSettled sure (length regs) → AreSure regs blocks sure
  all_settled sure h k r b at is = by (below_or r (length regs))
    where
      by : (r < length regs) ⊎ (length regs ≤ r) → IsSettled k r b (get_or sure k false)
      by (inl lt) = (h k r b at is).0 lt
      by (inr le) =
          (λ e. let f : false ≡ true = sym ((h k r b at is).1 le) ∙ e in absurd (cc), λ e. inl (undeclared k (length b.ops) le))

  -- one register that no block tests
  pub untested_settled : (sure : List Bool) (n : ℕ) → ((k : ℕ) (b : Block) → slice_get blocks k ≡ Some b → is_test_of n b ≡ true → ⊥) → AreSettled sure n → AreSettled sure (n + 1)
  untested_settled sure n none h k r b at is = (by (same_or r n), λ le. (h k r b at is).1 (omega (arith, le)))
    where
      by : (r ≡ n) ⊎ (r ≡ n → ⊥) → r < n + 1 → IsSettled k r b (get_or sure k false)
      by (inl same) lt = absurd (none k b at (ap (λ z. is_test_of z b) (sym same) ∙ is))
      by (inr ne) lt = (h k r b at is).0 (below_not r n ne lt)

  -- and one whose tests are settled by marks
  module _ (r : ℕ) (declared : r < length regs) (marks : List Bool) (are : AreUnset regs blocks r marks) where
    starts : (b : ℕ) (k : Block) → slice_get blocks b ≡ Some k → get_or marks b false ≡ true → UnsetAt regs blocks r b 0
    starts b k at = (are b (there_within blocks b k at)).0

    closed : AreClosed regs r blocks marks
    closed = record {
      begins = λ l. (are 0 l).1 entry;
      closed = λ b t k at e lt. (are t lt).1 (onward_sound regs r blocks b k at (get_or marks b false) (starts b k at) t e);
    }

    settled_one : (k : ℕ) (b : Block) → slice_get blocks k ≡ Some b → IsSettled k r b (may_go regs r b (get_or marks k false))
    settled_one k b at = by (ends_in_failure regs b.ops) (end_unset regs r b.last b.ops (get_or marks k false)) refl refl
      where
        by : (x y : Bool) → ends_in_failure regs b.ops ≡ x → end_unset regs r b.last b.ops (get_or marks k false) ≡ y → IsSettled k r b (not (x || y))
        by true y e f = (λ g. absurd (cc), λ g. inr e)
        by false true e f =
            (λ g. absurd (cc), λ g. inl (state_sound regs r blocks k b at (get_or marks k false) (starts k b at) (length b.ops) (sym (end_is regs r b.last b.ops (get_or marks k false)) ∙ f)))
        by false false e f = (λ g. no_reason, λ g. absurd (cc))
          where
            no_reason : Stays regs blocks k b.ops r → ⊥
            no_reason (inl u) =
                let told : end_unset regs r b.last b.ops (get_or marks k false) ≡ true =
                end_is regs r b.last b.ops (get_or marks k false) ∙ complete regs r blocks declared marks closed k (length b.ops) u b at in
                let g : true ≡ false = sym told ∙ f in
                absurd (cc)
            no_reason (inr h) = let g : true ≡ false = sym h ∙ e in absurd (cc)

    pub settled_more : (old new : List Bool) → ((k : ℕ) (b : Block) → slice_get blocks k ≡ Some b → get_or new k false ≡ settled regs r b (get_or marks k false) (get_or old k false)) → AreSettled old r → AreSettled new (r + 1)
    settled_more old new by_marks h k s b at is = by (same_or s r)
      where
        untested : (s ≡ r → ⊥) → (x : Bool) → is_test_of r b ≡ x → is_test_of r b ≡ false
        untested ne false e = e
        untested ne true e = absurd (ne (tested_one s r b.last is e))

        by : (s ≡ r) ⊎ (s ≡ r → ⊥) → (s < r + 1 → IsSettled k s b (get_or new k false)) × (r + 1 ≤ s → get_or new k false ≡ false)
        by (inl same) =
            let own : is_test_of r b ≡ true = ap (λ z. is_test_of z b) (sym same) ∙ is in
            let goes : may_go regs r b (get_or marks k false) ≡ get_or new k false = sym (by_marks k b at ∙ ap (λ z. cond z (may_go regs r b (get_or marks k false)) (get_or old k false)) own) in
            (λ lt. subst (λ z. IsSettled k z b (get_or new k false)) (sym same) (subst (IsSettled k r b) goes (settled_one k b at)), λ le. absurd (omega (arith, same, le)))
        by (inr ne) =
            let kept : get_or old k false ≡ get_or new k false = sym (by_marks k b at ∙ ap (λ z. cond z (may_go regs r b (get_or marks k false)) (get_or old k false)) (untested ne (is_test_of r b) refl)) in
            let was = h k s b at is in
            (λ lt. subst (IsSettled k s b) kept (was.0 (below_not s r ne lt)), λ le. sym kept ∙ was.1 (omega (arith, le)))

-- ---- the blocks
module _ (regs : Declared) (blocks : List Block) (sure : List Bool) (are : AreSure regs blocks sure) where
  end_left : (k : ℕ) (b : Block) → slice_get blocks k ≡ Some b → (l : Last) → b.last ≡ l → IsEndWithout regs blocks k b.ops l (left_out (get_or sure k false) l)
  end_left k b at (Goto t) e = same (get_or sure k false)
    where
      same : (x : Bool) → left_out x (Goto t) ≡ Goto t
      same true = refl
      same false = refl
  end_left k b at (If r x y) e = same (get_or sure k false)
    where
      same : (z : Bool) → left_out z (If r x y) ≡ If r x y
      same true = refl
      same false = refl
  end_left k b at (IfError r x y line) e = by (get_or sure k false) refl
    where
      tests : is_test_of r.0 b ≡ true
      tests = ap (is_tested_by r.0) e ∙ eq-eqb r.0 r.0 refl

      by : (z : Bool) → get_or sure k false ≡ z → (Stays regs blocks k b.ops r.0 × (left_out z (IfError r x y line) ≡ IfError r x y line)) ⊎ ((Stays regs blocks k b.ops r.0 → ⊥) × (left_out z (IfError r x y line) ≡ Goto y))
      by true h = inr ((are k r.0 b at tests).0 h, refl)
      by false h = inl ((are k r.0 b at tests).1 h, refl)
  end_left k b at (Return r) e = same (get_or sure k false)
    where
      same : (z : Bool) → left_out z (Return r) ≡ Return r
      same true = refl
      same false = refl
  end_left k b at Unreachable e = same (get_or sure k false)
    where
      same : (z : Bool) → left_out z Unreachable ≡ Unreachable
      same true = refl
      same false = refl

  blocks_from : (k : ℕ) (bs : List Block) → ((j : ℕ) → slice_get bs j ≡ slice_get blocks (k + j)) → AreBlocksWithout regs blocks k bs (blocks_without sure k bs)
  blocks_from k [] from = tt
  blocks_from k (b ∷ bs) from =
      let here : slice_get blocks k ≡ Some b = let n : k + 0 ≡ k = omega arith in sym (ap (slice_get blocks) n) ∙ sym (from 0) in (
        record { ops = refl; handler = refl; last = end_left k b here b.last refl },
        blocks_from (suc k) bs (λ j. let n : k + suc j ≡ suc k + j = omega arith in from (suc j) ∙ ap (slice_get blocks) n),
      )

  pub blocks_are : AreBlocksWithout regs blocks 0 blocks (blocks_without sure 0 blocks)
  blocks_are = blocks_from 0 blocks (λ j. let n : j ≡ 0 + j = omega arith in ap (slice_get blocks) n)

-- a function that is made so. What was settled was made from copies of its registers and blocks
pub blocks_by : (regs ds : Declared) (blocks bs new : List Block) (sure marks : List Bool) → ds ≡ regs → bs ≡ blocks → AreSure ds bs sure → marks ≡ sure → new ≡ blocks_without marks 0 blocks → AreBlocksWithout regs blocks 0 blocks new
blocks_by regs ds blocks bs new sure marks same_ds same_bs are same_marks is =
    let all : AreSure regs blocks sure = subst (λ z. AreSure z blocks sure) same_ds (subst (λ z. AreSure ds z sure) same_bs are) in
    subst (AreBlocksWithout regs blocks 0 blocks) (sym (is ∙ ap (λ z. blocks_without z 0 blocks) same_marks)) (blocks_are regs blocks sure all)

-- ---- one block more is settled
module _ (regs : Declared) (blocks : List Block) (r : ℕ) (marks old : List Bool) where
  abbrev pub IsSettledTo : List Bool → ℕ → Type 0
  IsSettledTo sure n =
      (j : ℕ) (b : Block) → slice_get blocks j ≡ Some b → (j < n → get_or sure j false ≡ settled regs r b (get_or marks j false) (get_or old j false)) × (n ≤ j → get_or sure j false ≡ get_or old j false)

  pub settled_next : (sure : List Bool) (k : ℕ) (x : Block) (v was : Bool) → k < length blocks → length sure ≡ length blocks → x ≡ get_or blocks k x → was ≡ get_or sure k false → v ≡ settled regs r x (get_or marks k false) was → IsSettledTo sure k → IsSettledTo (slice_set sure k v) (k + 1)
  settled_next sure k x v was lt size there before is h j b at = by (same_or j k)
    where
      by : (j ≡ k) ⊎ (j ≡ k → ⊥) → (j < k + 1 → get_or (slice_set sure k v) j false ≡ settled regs r b (get_or marks j false) (get_or old j false)) × (k + 1 ≤ j → get_or (slice_set sure k v) j false ≡ get_or old j false)
      by (inl same) =
          let found : x ≡ b = some_block x b (sym (slice_get_read blocks (length blocks) k x refl lt there) ∙ (ap (slice_get blocks) (sym same) ∙ at)) in
          let written : get_or (slice_set sure k v) j false ≡ v = ap (λ z. get_or (slice_set sure k v) z false) same ∙ set_there sure k v (omega (arith, lt, size)) in
          let kept : was ≡ get_or old j false = before ∙ (ap (λ z. get_or sure z false) (sym same) ∙ (h j b at).1 (omega (arith, same))) in
          let value : v ≡ settled regs r b (get_or marks j false) (get_or old j false) =
          is ∙ (ap (λ z. settled regs r z (get_or marks k false) was) found ∙ (ap (λ z. settled regs r b (get_or marks z false) was) (sym same) ∙ ap (settled regs r b (get_or marks j false)) kept)) in
          (λ l. written ∙ value, λ l. absurd (omega (arith, same, l)))
      by (inr ne) =
          let other : get_or (slice_set sure k v) j false ≡ get_or sure j false = set_other sure k j v ne in
          (λ l. other ∙ (h j b at).0 (below_not j k ne l), λ l. other ∙ (h j b at).1 (omega (arith, l)))
