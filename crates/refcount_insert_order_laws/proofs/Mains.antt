-- The new block of an old one that is met has shares at each of its places.
use Rattle.std.proofs.Common.{◌≡◌, refl, sym, ap, ◌∙◌, subst, ℕ, zero, suc, ◌≤◌, ◌<◌, inl, inr, ⊎_elim, Bool, true, false, cond, List, [], ◌∷◌, ◌++◌, length, drop, arith, append_assoc, length-append, Option, Some, None}
use Rattle.std.specs.Prelude.{slice_get, nat_lt}
use Rattle.std.proofs.lemmas.Bool.{ltb-false, lt-ltb}
use Rattle.c_core.specs.declared.code.Line.{Line}
use Rattle.c_core.specs.declared.code.CFunc.{CFunc}
use Rattle.c_core.specs.declared.code.Code.{Code}
use Rattle.ir_core.specs.declared.code.Op.{Op}
use Rattle.ir_core.specs.declared.code.Op.TheVariants.{Move, Lit, Prim, Call, Virtual, TraitCall, Turn, Inc, Dec, XDec}
use Rattle.ir_core.specs.declared.code.Last.{Last}
use Rattle.ir_core.specs.declared.code.Last.TheVariants.{Goto, If, IfError, Return, Unreachable}
use Rattle.ir_core.specs.declared.code.Block.{Block}
use Rattle.ir_core.specs.declared.code.Func.{Func}
use Rattle.ir_core.specs.declared.code.Program.{Program}
use Rattle.ir_core.specs.Items.{Do, in_block, item_of, item_in}
use Rattle.ir_core.specs.Lower.{op_lines, label_of, end_lines}
use Rattle.ir_core.specs.Shape.{LastFits, ends_in_turn, is_turn}
use Rattle.c_core_ownership_laws.specs.Shares.{Shares, Checks}
use Rattle.refcount_insert_rule.specs.Counted.{counts_register, Tables, owned, AreGroups, AreAll, AreTurned, IsBody, IsLast}
use Rattle.refcount_insert_order_laws.specs.Places.{operations_before, IsFront}
use Rattle.refcount_insert_order_laws.proofs.Counts.{lines_append}
use Rattle.refcount_insert_order_laws.proofs.Variables.{agrees, reads_declared}
use Rattle.refcount_insert_order_laws.proofs.Groups.{Suits, IsFit}
use Rattle.refcount_insert_order_laws.proofs.Equations.{at, suits, turn_same}
use Rattle.refcount_insert_order_laws.proofs.MetBlocks.{in_met, Marks}
use Rattle.refcount_insert_order_laws.proofs.Trails.{head, head_append, Leads, leads_append, leads_size, Trail, trail}
use Rattle.refcount_insert_order_laws.proofs.Bodies.{text_of, AreAlike, OpsSuit, Groups, groups_trail, lines_size}
use Rattle.refcount_insert_order_laws.proofs.Ends.{Starts, IsLastFit, Never, AreStarts, end_check, turned_check}

-- what is known of a block
pub record BlockFacts (p : Program) (old : Code) (f : Func) (name : List ℕ) (lines : List Line) (b : ℕ) (k : Block) : Type 0 where
  pub ops : (i : ℕ) (o : Op × ℕ) → slice_get k.ops i ≡ Some o → IsFit p old (text_of f name lines) o.0
  pub last : LastFits (length f.blocks) b k.ops k.last
  pub text : IsLastFit f k.last

item_here : (ops : List (Op × ℕ)) (last : Last) (i : ℕ) (o : Op × ℕ) → slice_get ops i ≡ Some o → in_block ops last i ≡ Some (Do o.0 o.1)
item_here [] last i o e = let f : None ≡ Some o = e in absurd (cc)
item_here (x ∷ ops) last zero o e =
    let f : Some x ≡ Some o = e in
    let same : x ≡ o = cc in ap (λ (z : Op × ℕ). Some (Do z.0 z.1)) same
item_here (x ∷ ops) last (suc i) o e = item_here ops last i o e

get_within : (ops : List (Op × ℕ)) (i : ℕ) (o : Op × ℕ) → slice_get ops i ≡ Some o → i < length ops
get_within [] i o e = let f : None ≡ Some o = e in absurd (cc)
get_within (x ∷ ops) zero o e = omega arith
get_within (x ∷ ops) (suc i) o e = omega (arith, get_within ops i o e)

get_front : (xs ys : List (Op × ℕ)) (i : ℕ) (o : Op × ℕ) → slice_get xs i ≡ Some o → slice_get (xs ++ ys) i ≡ Some o
get_front [] ys i o e = let f : None ≡ Some o = e in absurd (cc)
get_front (x ∷ xs) ys zero o e = e
get_front (x ∷ xs) ys (suc i) o e = get_front xs ys i o e

get_last : (xs : List (Op × ℕ)) (o : Op × ℕ) → slice_get (xs ++ o ∷ []) (length xs) ≡ Some o
get_last [] o = refl
get_last (x ∷ xs) o = get_last xs o

turn_is : (o : Op) → is_turn o ≡ true → o ≡ Turn
turn_is (Move r s) e = absurd (cc)
turn_is (Lit r l) e = absurd (cc)
turn_is (Prim to k args) e = absurd (cc)
turn_is (Call r n args) e = absurd (cc)
turn_is (Virtual r o n args) e = absurd (cc)
turn_is (TraitCall r o t n args) e = absurd (cc)
turn_is Turn e = refl
turn_is (Inc r) e = absurd (cc)
turn_is (Dec r) e = absurd (cc)
turn_is (XDec r) e = absurd (cc)

last_turn : (xs : List (Op × ℕ)) (o : Op × ℕ) → ends_in_turn (xs ++ o ∷ []) ≡ true → is_turn o.0 ≡ true
last_turn [] o e = e
last_turn (x ∷ []) o e = e
last_turn (x ∷ y ∷ xs) o e = last_turn (y ∷ xs) o e

suit_all : (p : Program) (old : Code) (g : CFunc) (counted : ℕ → Bool) (sh : ℕ → Shares) (os : List (Op × ℕ)) → ((i : ℕ) (o : Op × ℕ) → slice_get os i ≡ Some o → Suits g.vars counted o.0 (sh i) (sh (suc i)) × IsFit p old g o.0) → OpsSuit p old g counted sh os
suit_all p old g counted sh [] h = tt
suit_all p old g counted sh (o ∷ os) h =
    let first = h 0 o refl in
    (first.0, first.1, suit_all p old g counted (λ j. sh (suc j)) os (λ i. h (suc i)))

pub head_drop : (ss tt : List (Option Shares)) (next : Option Shares) (i : ℕ) → i ≤ length ss → head (drop i (ss ++ tt)) next ≡ head (drop i ss) (head tt next)
head_drop ss tt next zero le = head_append ss tt next
head_drop [] tt next (suc i) le = absurd (omega (arith, le))
head_drop (s ∷ ss) tt next (suc i) le = head_drop ss tt next i (omega (arith, le))

pub operations_within : (f : Func) (t : Tables f) (number : ℕ → ℕ) (at : ℕ → ℕ → ℕ) (old ops : List (Op × ℕ)) (h : AreGroups f t number at old ops) (i : ℕ) → operations_before f t number at old ops h i ≤ length ops
operations_within f t number at old ops h zero = omega arith
operations_within f t number at [] ops h (suc i) = omega arith
operations_within f t number at (o ∷ os) ops h (suc i) =
    omega (arith, operations_within f t number (λ p. at (suc p)) os h.1 h.4 i, ap length h.2, length-append h.0 h.1)

module _ (p q : Program) (f : Func) (t : Tables f) (number first : ℕ → ℕ) (at_start : ℕ → ℕ → ℕ) (code old : Code) (name : List ℕ) (lines : List Line) (same : AreAlike p q code old) (start : ℕ → Option Shares) (m : Marks f) (known : AreStarts f t number first at_start start m) where
  abbrev g : CFunc
  g = text_of f name lines

  -- shares at the places of a new block behind its label, and where its groups stand
  pub record Main (b : ℕ) (k : Block) (main : Block) (j : ℕ) (next : Option Shares) : Type 0 where
    pub trail : Trail code (text_of f name lines) (Starts start) (at f t b 0) (op_lines q main.ops ++ end_lines label_of j main.last) next
    pub front : List (Op × ℕ)
    pub is_front : IsFront b k.last front k.ops
    pub groups : List (Op × ℕ)
    pub others : List (Op × ℕ)
    pub split : main.ops ≡ groups ++ others
    pub are : AreGroups f t number (owned f t b) front groups
    pub marks : (i : ℕ) → i ≤ length front → head (drop (operations_before f t number (owned f t b) front groups are i) trail.shares) next ≡ Some (at f t b i)

  module _ (b : ℕ) (k : Block) (is : slice_get f.blocks b ≡ Some k) (marked : m.marked b ≡ true) (facts : BlockFacts p old f name lines b k) where
    suit_at : (i : ℕ) (o : Op × ℕ) → slice_get k.ops i ≡ Some o → Suits g.vars (counts_register f.regs) o.0 (at f t b i) (at f t b (suc i)) × IsFit p old g o.0
    suit_at i o e =
        let fit = facts.ops i o e in
        (suits f t b i o.0 (ap (λ z. item_of z i) is ∙ item_here k.ops k.last i o e) (in_met f b k is (m.sound b marked) i (omega (arith, get_within k.ops i o e))) fit.op (reads_declared g.vars p o.0 fit.op fit.spelled) (agrees f.regs), fit)

    -- groups, and what follows them
    behind_groups : (front groups others : List (Op × ℕ)) (tail : List Line) (next : Option Shares) (main : Block) (j : ℕ) → IsFront b k.last front k.ops → main.ops ≡ groups ++ others → (h : AreGroups f t number (owned f t b) front groups) → op_lines q main.ops ++ end_lines label_of j main.last ≡ op_lines q groups ++ tail → OpsSuit p old g (counts_register f.regs) (at f t b) front → Checks code g (Starts start) Never (at f t b (length front)) tail → Main b k main j next
    behind_groups front groups others tail next main j is_front split h lines_are suit checks =
        let last : Trail code g (Starts start) (at f t b (length front)) tail next = trail code g (Starts start) Never next (λ ρ e. absurd e) (at f t b (length front)) tail checks in
        let first : Groups p q f t number code old name lines same (Starts start) (at f t b) front groups h (head last.shares next) =
        groups_trail p q f t number code old name lines same (Starts start) (at f t b) front groups h (head last.shares next) suit last.first in
        let size : length first.trail.shares ≡ length groups = leads_size code g (Starts start) (op_lines q groups) first.trail.shares (head last.shares next) first.trail.leads ∙ lines_size q groups in
        record {
          trail = record {
            shares = first.trail.shares ++ last.shares;
            leads = subst (λ z. Leads code g (Starts start) z (first.trail.shares ++ last.shares) next) (sym lines_are) (leads_append code g (Starts start) (op_lines q groups) tail first.trail.shares last.shares next first.trail.leads last.leads);
            first = head_append first.trail.shares last.shares next ∙ first.trail.first;
          };
          front = front;
          is_front = is_front;
          groups = groups;
          others = others;
          split = split;
          are = h;
          marks = λ i le. head_drop first.trail.shares last.shares next (operations_before f t number (owned f t b) front groups h i) (omega (arith, operations_within f t number (owned f t b) front groups h i, size)) ∙ first.marks i le;
        }

    -- a block whose counts of the end stand behind all operations
    all_main : (l : Last) → k.last ≡ l → (main : Block) (next : Option Shares) (j : ℕ) → AreAll f t number (owned f t b) k.ops l main.ops → IsLast f t number first at_start (owned f t b (length k.ops)) l main.last → LastFits (length f.blocks) b k.ops l → IsLastFit f l → j ≡ number b → Main b k main j next
    all_main l e main next j body h fits text is_number =
        let tail : List Line = op_lines q body.1 ++ end_lines label_of j main.last in
        let lines_are : op_lines q main.ops ++ end_lines label_of j main.last ≡ op_lines q body.0 ++ tail =
        ap (λ z. op_lines q z ++ end_lines label_of j main.last) body.2
        ∙ (ap (λ z. z ++ end_lines label_of j main.last) (lines_append q body.0 body.1) ∙ append_assoc (op_lines q body.0) (op_lines q body.1) (end_lines label_of j main.last)) in
        behind_groups k.ops body.0 body.1 tail next main j (inl refl) body.2 body.3 lines_are
        (suit_all p old g (counts_register f.regs) (at f t b) k.ops suit_at)
        (end_check p q f t number first at_start code name lines start m known b k is marked l e body.1 body.4 main.last h fits text j is_number)

    -- a block that ends in a turn and a jump to its own or a lower block
    turned_main : (to : ℕ) → k.last ≡ Goto to → (main : Block) (next : Option Shares) (j : ℕ) → AreTurned f t number (owned f t b) k.ops to main.ops → main.last ≡ Goto (number to) → ends_in_turn k.ops ≡ true → to ≤ b → 0 < to → to < length f.blocks → Main b k main j next
    turned_main to e main next j body is_last ends back higher lower =
        let before : List (Op × ℕ) = body.0 in
        let turn : Op × ℕ = body.1 in
        let is_a_turn : turn.0 ≡ Turn = turn_is turn.0 (last_turn before turn (ap ends_in_turn (sym body.4) ∙ ends)) in
        let size : length k.ops ≡ suc (length before) = ap length body.4 ∙ (length-append before (turn ∷ []) ∙ omega arith) in
        let item : item_in f.blocks b (length before) ≡ Some (Do Turn turn.1) =
        ap (λ z. item_of z (length before)) is ∙ (item_here k.ops k.last (length before) turn (ap (λ z. slice_get z (length before)) body.4 ∙ get_last before turn) ∙ ap (λ z. Some (Do z turn.1)) is_a_turn) in
        let alike : at f t b (length k.ops) ≡ at f t b (length before) =
        ap (at f t b) size ∙ turn_same f t b (length before) item (in_met f b k is (m.sound b marked) (length before) (omega (arith, size))) in
        let tail : List Line = op_lines q (body.3 ++ turn ∷ []) ++ end_lines label_of j (Goto (number to)) in
        let lines_are : op_lines q main.ops ++ end_lines label_of j main.last ≡ op_lines q body.2 ++ tail =
        ap (λ z. op_lines q main.ops ++ end_lines label_of j z) is_last
        ∙ (ap (λ z. op_lines q z ++ end_lines label_of j (Goto (number to))) body.5
        ∙ (ap (λ z. z ++ end_lines label_of j (Goto (number to))) (lines_append q body.2 (body.3 ++ turn ∷ [])) ∙ append_assoc (op_lines q body.2) (op_lines q (body.3 ++ turn ∷ [])) (end_lines label_of j (Goto (number to))))) in
        let suit : OpsSuit p old g (counts_register f.regs) (at f t b) before =
        suit_all p old g (counts_register f.regs) (at f t b) before (λ i o there. suit_at i o (ap (λ z. slice_get z i) body.4 ∙ get_front before (turn ∷ []) i o there)) in
        behind_groups before body.2 (body.3 ++ turn ∷ []) tail next main j (inr (turn.1, to, e, back, body.4 ∙ ap (λ (z : Op). before ++ (z, turn.1) ∷ []) is_a_turn)) body.5 body.6 lines_are suit
        (subst (λ σ. Checks code g (Starts start) Never σ tail) alike (turned_check p q f t number first at_start code name lines start m known b k is marked to e turn is_a_turn body.3 body.7 higher lower))

    pub main_of : (l : Last) → k.last ≡ l → (main : Block) (next : Option Shares) (j : ℕ) → IsBody f t number b (owned f t b) k.ops l main.ops → IsLast f t number first at_start (owned f t b (length k.ops)) l main.last → j ≡ number b → Main b k main j next
    main_of (Goto to) e main next j body h is_number = by (nat_lt b to) refl body
      where
        fits : LastFits (length f.blocks) b k.ops (Goto to)
        fits = subst (LastFits (length f.blocks) b k.ops) e facts.last

        by : (c : Bool) → nat_lt b to ≡ c → cond c (AreAll f t number (owned f t b) k.ops (Goto to) main.ops) (AreTurned f t number (owned f t b) k.ops to main.ops) → Main b k main j next
        by true up all = all_main (Goto to) e main next j all h fits tt is_number
        by false up turned =
            let ends : ends_in_turn k.ops ≡ true = ⊎_elim (λ lt. let both : true ≡ false = sym (lt-ltb b to lt) ∙ up in absurd (cc)) (λ is_turn. is_turn) fits.2 in
            turned_main to e main next j turned h ends (ltb-false b to up) fits.0 fits.1
    main_of (If x a c) e main next j body h is_number =
        all_main (If x a c) e main next j body h (subst (LastFits (length f.blocks) b k.ops) e facts.last) tt is_number
    main_of (IfError x a c source) e main next j body h is_number =
        all_main (IfError x a c source) e main next j body h (subst (LastFits (length f.blocks) b k.ops) e facts.last) tt is_number
    main_of (Return x) e main next j body h is_number =
        all_main (Return x) e main next j body h tt (subst (IsLastFit f) e facts.text) is_number
    main_of Unreachable e main next j body h is_number =
        all_main Unreachable e main next j body h (subst (LastFits (length f.blocks) b k.ops) e facts.last) tt is_number
