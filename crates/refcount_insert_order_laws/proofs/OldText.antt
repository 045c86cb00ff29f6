-- What the shape of a program says of the operations and the ends of its blocks.
use Rattle.std.proofs.Common.{◌≡◌, refl, sym, ◌∙◌, ap, subst, ℕ, zero, suc, ◌+◌, ◌-◌, arith, Bool, true, List, [], ◌∷◌, ◌++◌, map, length, Some, None}
use Rattle.std.specs.Prelude.{slice_get, ◌&&◌, ◌==◌, nat_le}
use Rattle.std.specs.List.{list_all}
use Rattle.std.specs.Str.{bytes_eq}
use Rattle.c_core.specs.declared.code.Line.{Line}
use Rattle.c_core.specs.declared.code.CFunc.{CFunc}
use Rattle.c_core.specs.declared.code.Code.{Code}
use Rattle.c_core.specs.WellFormed.{is_spelled, is_identifier, is_char, spelled_globals, spelled_class, spelled_functions, spelled_function, spelled_body, spelled_line, names_differ, classes_fit, functions_fit, function_fits, line_fits, is_leaving, lines_lead_on, begins_right, is_declared, has_kind, kind_at}
use Rattle.c_core.proofs.Lines.{and_true, all_at, leads_on}
use Rattle.ir_core.specs.declared.code.Op.{Op}
use Rattle.ir_core.specs.declared.code.Last.{Last}
use Rattle.ir_core.specs.declared.code.Last.TheVariants.{Goto, If, IfError, Return, Unreachable}
use Rattle.ir_core.specs.declared.code.Block.{Block}
use Rattle.ir_core.specs.declared.code.Func.{Func}
use Rattle.ir_core.specs.declared.code.Program.{Program}
use Rattle.ir_core.specs.Lower.{kind_of_type, variable_of, line_of, op_lines, label_before, label_of, end_lines, block_lines, lines_from, lowered_as, name_in, lowered_from, lower}
use Rattle.std.specs.Option.{option_and_then}
use Rattle.ir_core.specs.Shape.{OpsFit, op_fits, LastFits, HandlerFits, BlockFits, BlocksFit, FuncFits, FuncsFit, Shape}
use Rattle.ir_core.specs.Items.{Do, End, item_of, handler_of}
use Rattle.liveness.specs.Paths.{targets, Goes, passes, fails, jumps}
use Rattle.liveness.proofs.PathLemmas.{item_end, item_block}
use Rattle.refcount_insert_order_laws.proofs.Ends.{IsLastFit}
use Rattle.refcount_insert_order_laws.proofs.Mains.{BlockFacts}

-- ---- lists
all_split : {A : Type 0} (t : A → Bool) (xs ys : List A) → list_all t (xs ++ ys) ≡ true → (list_all t xs ≡ true) × (list_all t ys ≡ true)
all_split t [] ys e = (refl, e)
all_split t (x ∷ xs) ys e =
    let both = and_true (t x) (list_all t (xs ++ ys)) e in
    let rest = all_split t xs ys both.1 in
    (ap (λ b. b && list_all t xs) both.0 ∙ rest.0, rest.1)

-- ---- functions
abbrev counted_on : ℕ → ℕ → ℕ
counted_on n zero = n
counted_on n (suc i) = counted_on (suc n) i

counted_is : (n i : ℕ) → counted_on n i ≡ n + i
counted_is n zero = omega arith
counted_is n (suc i) = let e : suc n + i ≡ n + suc i = omega arith in counted_is (suc n) i ∙ e

function_there : (p : Program) (n i : ℕ) (fs : List Func) (f : Func) → slice_get fs i ≡ Some f → slice_get (lowered_from p n fs) i ≡ Some (lowered_as p (name_in p (counted_on n i) f) f)
function_there p n i [] f e = let g : None ≡ Some f = e in absurd (cc)
function_there p n zero (x ∷ fs) f e =
    let g : Some x ≡ Some f = e in
    let same : x ≡ f = cc in
    ap (λ (y : Func). Some (lowered_as p (name_in p n y) y)) same
function_there p n (suc i) (x ∷ fs) f e = function_there p (suc n) i fs f e

pub function_at : (p : Program) (n : ℕ) (f : Func) → slice_get p.funcs n ≡ Some f → slice_get (lower p).funcs n ≡ Some (lowered_as p (name_in p n f) f)
function_at p n f e =
    let number : counted_on 0 n ≡ n = counted_is 0 n ∙ omega arith in
    function_there p 0 n p.funcs f e ∙ ap (λ i. Some (lowered_as p (name_in p i f) f)) number

-- what is spelled of each function
body_at : (gs : List CFunc) (n : ℕ) (g : CFunc) → spelled_functions gs ≡ true → slice_get gs n ≡ Some g → spelled_body g ≡ true
body_at [] n g e is = let f : None ≡ Some g = is in absurd (cc)
body_at (x ∷ []) zero g e is =
    let f : Some x ≡ Some g = is in
    let same : x ≡ g = cc in
    subst (λ z. spelled_body z ≡ true) same (and_true (x.params == 0) (spelled_body x) (and_true (is_char x.ret) ((x.params == 0) && spelled_body x) (and_true (bytes_eq x.name []) (is_char x.ret && ((x.params == 0) && spelled_body x)) e).1).1).1
body_at (x ∷ []) (suc n) g e is = let f : None ≡ Some g = is in absurd (cc)
body_at (x ∷ y ∷ gs) zero g e is =
    let f : Some x ≡ Some g = is in
    let same : x ≡ g = cc in
    subst (λ z. spelled_body z ≡ true) same (and_true (nat_le x.params (length x.vars)) (spelled_body x) (and_true (is_identifier x.name) (nat_le x.params (length x.vars) && spelled_body x) (and_true (spelled_function x) (spelled_functions (y ∷ gs)) e).0).1).1
body_at (x ∷ y ∷ gs) (suc n) g e is =
    body_at (y ∷ gs) n g (and_true (spelled_function x) (spelled_functions (y ∷ gs)) e).1 is

-- ---- what a program's shape says of its functions
module _ (p : Program) (shape : Shape p) where
  abbrev old : Code
  old = lower p

  whole : (is_spelled old ≡ true) × (list_all (function_fits old) old.funcs ≡ true)
  whole =
      let globals : Bool = names_differ (map (λ v. v.0) (lower p).globals) in
      let functions : Bool = names_differ (map (λ (g : CFunc). g.name) (lower p).funcs) in
      let fit : Bool = list_all (function_fits (lower p)) (lower p).funcs in
      let rest : Bool = classes_fit (lower p) && functions_fit (lower p) in
      let both = and_true (is_spelled (lower p)) (globals && rest) shape.lowered in
      (both.0, (and_true functions fit (and_true (classes_fit (lower p)) (functions_fit (lower p)) (and_true globals rest both.1).1).1).1)

  pub spelled_all : spelled_functions (lower p).funcs ≡ true
  spelled_all =
      let classes : Bool = list_all spelled_class (lower p).classes in
      (and_true classes (spelled_functions (lower p).funcs) (and_true (spelled_globals (lower p).globals) (classes && spelled_functions (lower p).funcs) whole.0).1).1

  module _ (n : ℕ) (f : Func) (is : slice_get p.funcs n ≡ Some f) where
    abbrev text : CFunc
    text = lowered_as p (name_in p n f) f

    function_fit : function_fits (lower p) (lowered_as p (name_in p n f) f) ≡ true
    function_fit = all_at (function_fits (lower p)) (lower p).funcs n (lowered_as p (name_in p n f) f) whole.1 (function_at p n f is)

    lines_fit : list_all (line_fits (lower p) (map variable_of f.regs) (kind_of_type f.ret)) (lines_from p 0 f.blocks) ≡ true
    lines_fit =
        (and_true (list_all (line_fits (lower p) text.vars text.ret) text.lines) (lines_lead_on text.lines && begins_right text) (and_true (names_differ (map (λ v. v.0) text.vars)) (list_all (line_fits (lower p) text.vars text.ret) text.lines && (lines_lead_on text.lines && begins_right text)) function_fit).1).0

    lines_spelled : list_all (spelled_line (map variable_of f.regs)) (lines_from p 0 f.blocks) ≡ true
    lines_spelled =
        (and_true (list_all (λ v. is_identifier v.0) text.vars) (list_all (spelled_line text.vars) text.lines) (body_at (lower p).funcs n text spelled_all (function_at p n f is))).1

    -- a function has a block
    pub has_block : (k : Block) × (slice_get f.blocks 0 ≡ Some k)
    has_block = by f.blocks (leads_on (lower p) text function_fit).leaving
      where
        by : (bs : List Block) → is_leaving (slice_get (lines_from p 0 bs) (length (lines_from p 0 bs) - 1)) ≡ true → (k : Block) × (slice_get bs 0 ≡ Some k)
        by [] e = absurd (cc)
        by (b ∷ bs) e = (b, refl)

    func_fits : FuncFits f
    func_fits = by p.funcs n shape.funcs is
      where
        by : (fs : List Func) (n : ℕ) → FuncsFit fs → slice_get fs n ≡ Some f → FuncFits f
        by [] n fit e = let g : None ≡ Some f = e in absurd (cc)
        by (x ∷ fs) zero fit e = let g : Some x ≡ Some f = e in let same : x ≡ f = cc in subst FuncFits same fit.0
        by (x ∷ fs) (suc n) fit e = by fs n fit.1 e

    block_shape : (n i : ℕ) (bs : List Block) (j : ℕ) (k : Block) → BlocksFit n i bs → slice_get bs j ≡ Some k → BlockFits n (i + j) k
    block_shape n i [] j k fit is = let g : None ≡ Some k = is in absurd (cc)
    block_shape n i (b ∷ bs) zero k fit is =
        let g : Some b ≡ Some k = is in
        let same : b ≡ k = cc in
        let number : i ≡ i + 0 = omega arith in
        subst (λ z. BlockFits n z k) number (subst (BlockFits n i) same fit.0)
    block_shape n i (b ∷ bs) (suc j) k fit is =
        let number : suc i + j ≡ i + suc j = omega arith in
        subst (λ z. BlockFits n z k) number (block_shape n (suc i) bs j k fit.1 is)

    shape_at : (b : ℕ) (k : Block) → slice_get f.blocks b ≡ Some k → BlockFits (length f.blocks) b k
    shape_at b k there =
        let zero_more : 0 + b ≡ b = omega arith in
        subst (λ z. BlockFits (length f.blocks) z k) zero_more (block_shape (length f.blocks) 0 f.blocks b k func_fits there)

    -- nothing goes to the first block
    pub no_way_back : (b x : ℕ) → Goes f b x 0 0 → ⊥
    no_way_back b x go = by b x 0 0 go refl refl
      where
        low : (bs : ℕ) (ops : List (Op × ℕ)) (l : Last) (i t : ℕ) → LastFits (length f.blocks) bs ops l → slice_get (targets l) i ≡ Some t → t ≡ 0 → ⊥
        low b ops (Goto a) zero t fits e none = let g : Some a ≡ Some t = e in let same : a ≡ t = cc in omega (arith, fits.0, same, none)
        low b ops (Goto a) (suc i) t fits e none = let g : None ≡ Some t = e in absurd (cc)
        low b ops (If r a d) zero t fits e none = let g : Some a ≡ Some t = e in let same : a ≡ t = cc in omega (arith, fits.0.0, same, none)
        low b ops (If r a d) (suc zero) t fits e none = let g : Some d ≡ Some t = e in let same : d ≡ t = cc in omega (arith, fits.1.0, same, none)
        low b ops (If r a d) (suc (suc i)) t fits e none = let g : None ≡ Some t = e in absurd (cc)
        low b ops (IfError r a d s) zero t fits e none = let g : Some a ≡ Some t = e in let same : a ≡ t = cc in omega (arith, fits.0.0, same, none)
        low b ops (IfError r a d s) (suc zero) t fits e none = let g : Some d ≡ Some t = e in let same : d ≡ t = cc in omega (arith, fits.1.0, same, none)
        low b ops (IfError r a d s) (suc (suc i)) t fits e none = let g : None ≡ Some t = e in absurd (cc)
        low b ops (Return r) i t fits e none = let g : None ≡ Some t = e in absurd (cc)
        low b ops Unreachable i t fits e none = let g : None ≡ Some t = e in absurd (cc)

        by : (b x d y : ℕ) → Goes f b x d y → d ≡ 0 → y ≡ 0 → ⊥
        by b x d y (passes b2 x2 o e) ed ey = omega (arith, ey)
        by b x d y (fails b2 x2 h o {line} e caught there) ed ey =
            let k = item_block (slice_get f.blocks b) x (Do o line) e in
            let handler : handler_of k.0 ≡ Some h = sym (ap (option_and_then handler_of) k.1) ∙ there in
            let higher : HandlerFits (length f.blocks) b (Some h) = subst (HandlerFits (length f.blocks) b) handler (shape_at b k.0 k.1).handler in
            omega (arith, higher.0, ed)
        by b x d y (jumps b2 x2 i t l e goes) ed ey =
            let k = item_block (slice_get f.blocks b) x (End l) e in
            let end = item_end k.0.ops k.0.last x l (ap (λ z. item_of z x) (sym k.1) ∙ e) in
            low b k.0.ops k.0.last i t (shape_at b k.0 k.1).last (ap (λ z. slice_get (targets z) i) end.1 ∙ goes) ed

    -- of one block
    module _ (name : List ℕ) (lines : List Line) where
      block_test : (t : Line → Bool) (i : ℕ) (bs : List Block) (j : ℕ) (k : Block) → list_all t (lines_from p i bs) ≡ true → slice_get bs j ≡ Some k → (m : ℕ) × (list_all t (op_lines p k.ops) ≡ true) × (list_all t (end_lines label_of m k.last) ≡ true)
      block_test t i [] j k e is = let g : None ≡ Some k = is in absurd (cc)
      block_test t i (b ∷ bs) zero k e is =
          let g : Some b ≡ Some k = is in
          let same : b ≡ k = cc in
          let first = (all_split t (label_before i) (op_lines p b.ops ++ end_lines label_of i b.last) (all_split t (block_lines p i b) (lines_from p (suc i) bs) e).0).1 in
          let both = all_split t (op_lines p b.ops) (end_lines label_of i b.last) first in
          (i, subst (λ (z : Block). list_all t (op_lines p z.ops) ≡ true) same both.0, subst (λ (z : Block). list_all t (end_lines label_of i z.last) ≡ true) same both.1)
      block_test t i (b ∷ bs) (suc j) k e is =
          block_test t (suc i) bs j k (all_split t (block_lines p i b) (lines_from p (suc i) bs) e).1 is

      op_test : (t : Line → Bool) (ops : List (Op × ℕ)) (i : ℕ) (o : Op × ℕ) → list_all t (op_lines p ops) ≡ true → slice_get ops i ≡ Some o → t (line_of p o.0) ≡ true
      op_test t [] i o e is = let g : None ≡ Some o = is in absurd (cc)
      op_test t (x ∷ ops) zero o e is =
          let g : Some x ≡ Some o = is in
          let same : x ≡ o = cc in
          subst (λ (z : Op × ℕ). t (line_of p z.0) ≡ true) same (and_true (t (line_of p x.0)) (list_all t (op_lines p ops)) e).0
      op_test t (x ∷ ops) (suc i) o e is =
          op_test t ops i o (and_true (t (line_of p x.0)) (list_all t (op_lines p ops)) e).1 is

      op_shape : (ops : List (Op × ℕ)) (i : ℕ) (o : Op × ℕ) → OpsFit ops → slice_get ops i ≡ Some o → op_fits o.0 ≡ true
      op_shape [] i o fit is = let g : None ≡ Some o = is in absurd (cc)
      op_shape (x ∷ ops) zero o fit is =
          let g : Some x ≡ Some o = is in
          let same : x ≡ o = cc in
          subst (λ (z : Op × ℕ). op_fits z.0 ≡ true) same fit.0
      op_shape (x ∷ ops) (suc i) o fit is = op_shape ops i o fit.1 is

      last_text : (m : ℕ) (l : Last) → list_all (spelled_line (map variable_of f.regs)) (end_lines label_of m l) ≡ true → list_all (line_fits (lower p) (map variable_of f.regs) (kind_of_type f.ret)) (end_lines label_of m l) ≡ true → IsLastFit f l
      last_text m (Goto t) s e = tt
      last_text m (If r a b) s e = tt
      last_text m (IfError r a b source) s e = tt
      last_text m (Return r) s e =
          ((and_true (is_declared (map variable_of f.regs) r.0) true s).0, (and_true (has_kind (kind_of_type f.ret) (kind_at (map variable_of f.regs) r.0)) true e).0)
      last_text m Unreachable s e = tt

      pub block_facts : (b : ℕ) (k : Block) → slice_get f.blocks b ≡ Some k → BlockFacts p (lower p) f name lines b k
      block_facts b k there =
          let shape_here : BlockFits (length f.blocks) b k = shape_at b k there in
          let s = block_test (spelled_line (map variable_of f.regs)) 0 f.blocks b k lines_spelled there in
          let e = block_test (line_fits (lower p) (map variable_of f.regs) (kind_of_type f.ret)) 0 f.blocks b k lines_fit there in
          record {
            ops = λ i o is. record {
              op = op_shape k.ops i o shape_here.ops is;
              spelled = op_test (spelled_line (map variable_of f.regs)) k.ops i o s.1 is;
              fits = op_test (line_fits (lower p) (map variable_of f.regs) (kind_of_type f.ret)) k.ops i o e.1 is;
            };
            last = shape_here.last;
            text = last_text s.0 k.last s.2 (any_label k.last e.2);
          }
        where
          any_label : (l : Last) → list_all (line_fits (lower p) (map variable_of f.regs) (kind_of_type f.ret)) (end_lines label_of (block_test (line_fits (lower p) (map variable_of f.regs) (kind_of_type f.ret)) 0 f.blocks b k lines_fit there).0 l) ≡ true → list_all (line_fits (lower p) (map variable_of f.regs) (kind_of_type f.ret)) (end_lines label_of (block_test (spelled_line (map variable_of f.regs)) 0 f.blocks b k lines_spelled there).0 l) ≡ true
          any_label (Goto t) e = e
          any_label (If r a b) e = e
          any_label (IfError r a b source) e = e
          any_label (Return r) e = e
          any_label Unreachable e = e
