-- A function that begins with a turn still does with its counts: nothing is short at its first place.
use Rattle.std.proofs.Common.{◌≡◌, refl, sym, ◌∙◌, ap, subst, ℕ, zero, suc, ◌+◌, ◌-◌, ◌<◌, ◌≤◌, arith, Bool, true, false, not, cond, List, [], ◌∷◌, ◌++◌, length, Some}
use Rattle.std.specs.Prelude.{slice_get, ◌&&◌}
use Rattle.std.proofs.lemmas.Bool.{lt-ltb}
use Rattle.c_core.specs.Cells.{times}
use Rattle.c_core.specs.declared.code.Line.TheVariants as line
use Rattle.c_core.proofs.CountLemmas.{same_self}
use Rattle.ir_core.specs.declared.code.Op.{Op}
use Rattle.ir_core.specs.declared.code.Op.TheVariants.{Turn}
use Rattle.ir_core.specs.declared.code.Last.{Last}
use Rattle.ir_core.specs.declared.code.Last.TheVariants.{Goto, If, IfError, Return, Unreachable}
use Rattle.ir_core.specs.declared.code.Block.{Block}
use Rattle.ir_core.specs.declared.code.Func.{Func}
use Rattle.ir_core.specs.declared.code.Program.{Program}
use Rattle.ir_core.specs.Items.{Item, Do, End, in_block, item_in}
use Rattle.ir_core.specs.Rows.{Declared}
use Rattle.ir_core.specs.Lower.{line_of, op_lines, label_of, end_lines, lines_from}
use Rattle.ir_core.specs.Shape.{LastFits, BlocksFit}
use Rattle.liveness.specs.Paths.{writes, Goes, passes, fails, jumps, goes_on, OwnedAt, no_parameter, written, kept}
use Rattle.c_core_ownership_laws.specs.Shares.{one_if}
use Rattle.refcount_insert_rule.specs.Rule.{counts_before, ups, downs, IsGroup}
use Rattle.refcount_insert_rule.specs.Counted.{counts_register, Tables, owned, AreAll, AreTurned, IsBody, AreBlocks}

none_up : (up : List ℕ) → ((r : ℕ) → times up r ≡ 0) → up ≡ []
none_up [] h = refl
none_up (s ∷ rs) h = absurd (omega (arith, h s, same_self s))

fewer : (c l e k d : Bool) → (c ≡ true → l ≡ true → k ≡ true) → (c ≡ true → d ≡ true → e ≡ true) → one_if (c && (l && not e)) ≤ one_if (c && (k && not d))
fewer false l e k d live lent = omega arith
fewer true false e k d live lent = omega arith
fewer true true true k d live lent = omega arith
fewer true true false true false live lent = omega arith
fewer true true false false d live lent = let no : false ≡ true = live refl refl in absurd (cc)
fewer true true false true true live lent = let no : false ≡ true = lent refl refl in absurd (cc)

-- a counted register is one of the function's
within : (regs : Declared) (r : ℕ) → counts_register regs r ≡ true → r < length regs
within [] r e = absurd (cc)
within (d ∷ ds) zero e = omega arith
within (d ∷ ds) (suc r) e = let lt = within ds r e in omega (arith, lt)

none_short : (b : Bool) (x y : ℕ) → x ≤ y → cond b (0 + x - y) 0 ≡ 0
none_short true x y le = omega (arith, le)
none_short false x y le = refl

no_detours : (xs : List Block) → length xs ≡ 0 → xs ≡ []
no_detours [] e = refl
no_detours (x ∷ xs) e = absurd (omega (arith, e))

-- ---- the first place of a function that begins with a turn
module _ (f : Func) {source : ℕ} (first : item_in f.blocks 0 0 ≡ Some (Do Turn source)) where
  -- one comes to the second place from the first one alone
  from_first : (b p c q : ℕ) → Goes f b p c q → c ≡ 0 → q ≡ 1 → (b ≡ 0) × (p ≡ 0)
  from_first b p c q (passes i j o e) z one = (z, omega (arith, one))
  from_first b p c q (fails i j h o e g k) z one = absurd (omega (arith, one))
  from_first b p c q (jumps i j n t l e g) z one = absurd (omega (arith, one))

  turn_there : (b p : ℕ) (i : Item) → b ≡ 0 → p ≡ 0 → item_in f.blocks b p ≡ Some i → i ≡ Do Turn source
  turn_there b p i e g is =
      let at : item_in f.blocks b p ≡ Some (Do Turn source) = ap (λ k. item_in f.blocks k p) e ∙ (ap (item_in f.blocks 0) g ∙ first) in
      let same : Some i ≡ Some (Do Turn source) = sym is ∙ at in
      cc

  owned_before : (r c q : ℕ) → OwnedAt f r c q → c ≡ 0 → q ≡ 1 → OwnedAt f r 0 0
  owned_before r c q (no_parameter le) z one = absurd (omega (arith, one))
  owned_before r c q (written b p x y i met at w lent goes) z one =
      let from = from_first b p c q goes z one in
      let same = turn_there b p i from.0 from.1 at in
      let no : false ≡ true = sym (ap (λ j. writes j r) same) ∙ w in
      absurd (cc)
  owned_before r c q (kept b p x y i o at w goes) z one =
      let from = from_first b p c q goes z one in
      subst (λ k. OwnedAt f r k 0) from.0 (subst (OwnedAt f r b) from.1 o)

  second : (bs : List Block) → item_in bs 0 0 ≡ Some (Do Turn source) → (i : Item) × (item_in bs 0 1 ≡ Some i)
  second [] e = absurd (cc)
  second (b ∷ bs) e = by b.ops b.last e
    where
      by : (ops : List (Op × ℕ)) (last : Last) → in_block ops last 0 ≡ Some (Do Turn source) → (i : Item) × (in_block ops last 1 ≡ Some i)
      by [] last e = absurd (cc)
      by (o ∷ []) last e = (End last, refl)
      by (o ∷ p ∷ os) last e = (Do p.0 p.1, refl)

  module _ (t : Tables f) (number : ℕ → ℕ) where
    abbrev at : ℕ → ℕ → ℕ
    at = owned f t 0

    not_more : (r : ℕ) → at 1 r ≤ at 0 r
    not_more r =
        let next = second f.blocks first in
        fewer (counts_register f.regs r) (t.live 0 1 r) (t.lent 0 1 r) (t.live 0 0 r) (t.lent 0 0 r)
        (λ c l. (t.is_live 0 0 r (Do Turn source) first (within f.regs r c)).1
        (goes_on 0 0 0 1 (Do Turn source) first refl (passes 0 0 Turn first) ((t.is_live 0 1 r next.0 next.1 (within f.regs r c)).0 l)))
        (λ c l. (t.is_lent 0 1 r next.0 next.1 (within f.regs r c)).1
        (λ o. (t.is_lent 0 0 r (Do Turn source) first (within f.regs r c)).0 l (owned_before r 0 1 o refl refl)))

    first_group : (o : Op × ℕ) (group : List (Op × ℕ)) → o.0 ≡ Turn → IsGroup (counts_register f.regs) o (at 0) (at 1) group → (rest : List (Op × ℕ)) × (group ≡ o ∷ rest)
    first_group o group is g =
        let none : g.up ≡ [] =
        none_up g.up (λ r. g.before r ∙ (ap (λ x. counts_before (counts_register f.regs) x (at 0) (at 1) r) is ∙ none_short (counts_register f.regs r) (at 1 r) (at 0 r) (not_more r))) in
        (downs g.down o.1, g.is ∙ ap (λ up. ups up o.1 ++ (o ∷ downs g.down o.1)) none)

    all_of : (n : ℕ) (old ops : List (Op × ℕ)) (last : Last) → LastFits n 0 old last → IsBody f t number 0 at old last ops → AreAll f t number at old last ops
    all_of n old ops (Goto b) fits body =
        subst (λ up. cond up (AreAll f t number at old (Goto b) ops) (AreTurned f t number at old b ops)) (lt-ltb 0 b fits.0) body
    all_of n old ops (If x a b) fits body = body
    all_of n old ops (IfError x a b line) fits body = body
    all_of n old ops (Return x) fits body = body
    all_of n old ops Unreachable fits body = body

    first_op : (n : ℕ) (old ops : List (Op × ℕ)) (last : Last) → in_block old last 0 ≡ Some (Do Turn source) → LastFits n 0 old last → IsBody f t number 0 at old last ops → (o : Op × ℕ) × (rest : List (Op × ℕ)) × (ops ≡ o ∷ rest) × (o.0 ≡ Turn)
    first_op n [] ops last e fits body = absurd (cc)
    first_op n (o ∷ os) ops last e fits body =
        let all = all_of n (o ∷ os) ops last fits body in
        let is : o.0 ≡ Turn = cc in
        let g = first_group o all.3.0 is all.3.3 in
        (o, (g.0 ++ all.3.1) ++ all.1, all.2 ∙ ap (λ l. l ++ all.1) (all.3.2 ∙ ap (λ l. l ++ all.3.1) g.1), is)

    module _ (first_of : ℕ → ℕ) (at_start : ℕ → ℕ → ℕ) where
      begins_by : (p : Program) (n : ℕ) (bs blocks : List Block) → number 0 ≡ 0 → item_in bs 0 0 ≡ Some (Do Turn source) → BlocksFit n 0 bs → AreBlocks f t number first_of at_start 0 0 bs blocks → slice_get (lines_from p 0 blocks) 0 ≡ Some line.Turn
      begins_by p n [] blocks none e fits are = absurd (cc)
      begins_by p n (b ∷ bs) blocks none e fits are =
          let op = first_op n b.ops are.1.ops b.last e fits.0.last are.8 in
          let whole : blocks ≡ are.1 ∷ are.2 = are.3 ∙ ap (λ l. l ++ (are.1 ∷ are.2)) (no_detours are.0 (omega (arith, none, are.5))) in
          ap (λ bs. slice_get (lines_from p 0 bs) 0) whole
          ∙ (ap (λ ops. slice_get ((op_lines p ops ++ end_lines label_of 0 are.1.last) ++ lines_from p 1 are.2) 0) op.2 ∙ ap (λ o. Some (line_of p o)) op.3)

      pub begins : (p : Program) (n : ℕ) (blocks : List Block) → number 0 ≡ 0 → BlocksFit n 0 f.blocks → AreBlocks f t number first_of at_start 0 0 f.blocks blocks → slice_get (lines_from p 0 blocks) 0 ≡ Some line.Turn
      begins p n blocks none fits are = begins_by p n f.blocks blocks none first fits are
