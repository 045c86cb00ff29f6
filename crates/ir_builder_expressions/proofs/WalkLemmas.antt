-- The code of a declared expression of each kind, and what its parts need.
use Rattle.ir_builder_expressions.proofs.Common.{◌≡◌, refl, sym, ◌∙◌, ap, subst, ℕ, ◌<◌, Bool, true, List, [], ◌∷◌, length, map, None, Some, ℤ, lies_within, IntVal, StrVal, TExpr, Sort, TypedExpr, Comparisons, type_of, typed_expr, exprs_of, look, next_line, type_at, RType, Reg, Lit, Holds, Building, Setting, rtype_of, Adds, HasRoom, parameter_sorts, Shows, Makes, Attempts, HaveTypes, Declared, Surrounding, IsAmong, head_of, Take, Calls, get_below, Acts, is_scalar, Side, kind_sort, Variable, ReadsAs, ReadsLocal, TakesLocal, boxed, objects, count_of, ◌≤◌, Does, ActsOnAll, Computes, computes_of, means_all, on_to, give, absence_in, Suits, SomeSuit, ComparisonsSuit, literal_of_truth, EmitsRead, Emits, EmitsAll, EmitsSide, EmitsChain, BoolVal, literal_makes, Gives, made_computes, means_node, looked_at, State, Itself, TypedNode, Value}
use Rattle.py_typed.specs.Sorts as sort
use Rattle.py_typed.specs.Sorts.{sort as sort_of}
use Rattle.py_typed.specs.Expressions as tree
use Rattle.ir_core.specs.declared.code.RType.TheVariants as rtype
use Rattle.ir_core.specs.declared.code.Op.TheVariants.{Call as CallOp}
use Rattle.ir_builder_expressions.proofs.AbsenceLemmas.{asked_by}
use Rattle.ir_builder_expressions.proofs.ArmLemmas.{Is, asked, emits_as, emits_node}
use Rattle.ir_builder_expressions.proofs.FollowLemmas.{acts_computes, all_attempts}
use Rattle.ir_builder_expressions.proofs.LookedLemmas.{taken_emits}
use Rattle.ir_core.specs.declared.code.Lit.TheVariants.{PyNone}
use Rattle.value_core.specs.Value.{NoneVal, TupleVal, tupled, ListObj}
use Rattle.source_meaning.specs.State.{make}
use Rattle.ir_core.specs.Registers.{literal_of}
use Rattle.ir_builder_expressions.proofs.ChainLemmas.{compare_emits}
use Rattle.ir_builder_expressions.proofs.CallLemmas.{call_emits}
use Rattle.ir_builder_expressions.proofs.ArgumentLemmas.{suit_types, all_suit}

truth_held : (b : Bool) → literal_of rtype.Bool (literal_of_truth b) ≡ Some (Holds (BoolVal b))
truth_held true = refl
truth_held Bool.false = refl

take_types : (declared : Declared) (ts : List Sort) (rs : List Reg) → HaveTypes declared ts rs → Take declared (map rtype_of ts) rs
take_types declared [] [] h = tt
take_types declared [] (r ∷ rs) h = absurd h
take_types declared (t ∷ ts) [] h = absurd h
take_types declared (t ∷ ts) (r ∷ rs) h = (h.0, take_types declared ts rs h.1)

-- what is done with registers in a slice is done with those in a list that it shows
pub behind_slice : (b c : Building) (rs qs : List Reg) (r : ℕ) (go : List Value → Does Value) → qs ≡ rs → Attempts (Shows boxed) b c r rtype.Ref (ActsOnAll (objects qs) qs go) → Attempts (Shows boxed) b c r rtype.Ref (ActsOnAll (objects rs) rs go)
behind_slice b c rs qs r go is a = let P : List Reg → Type 0 = λ z. Attempts (Shows boxed) b c r rtype.Ref (ActsOnAll (objects z) z go) in subst P is a

module _ (x : Setting) (e : TExpr) (suits : Suits x.source x.variables (typed_expr e)) where
  -- ---- what has no parts

  made_walked : (n : TypedNode) (t : Sort) (v : Value) (b c : Building) (r : ℕ) → Is e n → sort_of e.ty ≡ t → Makes b c r (rtype_of t) (λ regs h. h ≡ Holds v) → ((k : ℕ) (s : State) → means_node x n t k s ≡ Gives v s) → Emits x (typed_expr e) b c r
  made_walked n t v b c r is same made gives =
      emits_as x e n t b c r is same (looked_at x Itself n t e.span b c r (λ w h kind q. q) (made_computes x Itself (rtype_of t) (means_node x n t) _ b c r made (λ k s regs. (v, Holds v, gives k s, refl, refl))))

  pub flag_walked : {line : ℕ} (value : Bool) (b c : Building) (r : ℕ) → Is e (tree.Flag value) → Adds b c r rtype.Bool (Lit record { 0 = r } (literal_of_truth value)) line → Emits x (typed_expr e) b c r
  flag_walked value b c r is a = made_walked (tree.Flag value) sort.Bool (BoolVal value) b c r is (asked x.source x.variables e (tree.Flag value) is suits) (literal_makes b c r rtype.Bool _ (Holds (BoolVal value)) a (truth_held value)) (λ k s. refl)

  pub int_within : (n : ℤ) → Is e (tree.Int n) → lies_within 127 n ≡ true
  int_within n is = (asked x.source x.variables e (tree.Int n) is suits).1

  pub int_walked : (n : ℤ) (b c : Building) (r : ℕ) → Is e (tree.Int n) → Makes b c r rtype.Int (λ regs h. h ≡ Holds (IntVal n)) → Emits x (typed_expr e) b c r
  int_walked n b c r is made = made_walked (tree.Int n) sort.Int (IntVal n) b c r is (asked x.source x.variables e (tree.Int n) is suits).0 made (λ k s. refl)

  pub text_walked : (text : List ℕ) (b c : Building) (r : ℕ) → Is e (tree.Str text) → Makes b c r rtype.Ref (λ regs h. h ≡ Holds (StrVal text)) → Emits x (typed_expr e) b c r
  text_walked text b c r is made = made_walked (tree.Str text) sort.Str (StrVal text) b c r is (asked x.source x.variables e (tree.Str text) is suits) made (λ k s. refl)

  pub input_walked : (b c : Building) (r : ℕ) → Is e tree.Input → HasRoom x b → Attempts (Shows sort.Str) b c r rtype.Ref (Acts (look (λ s. s.items) next_line)) → Emits x (typed_expr e) b c r
  input_walked b c r is room a = emits_node x e tree.Input sort.Str b c r is (asked x.source x.variables e tree.Input is suits) (acts_computes x (Shows sort.Str) rtype.Ref (look (λ s. s.items) next_line) b c r room a)

  pub local_below : (i : ℕ) → Is e (tree.Local i) → i < length x.variables
  local_below i is =
      let n = asked x.source x.variables e (tree.Local i) is suits in
      get_below x.variables i n.0 n.1

  pub global_below : (i : ℕ) → Is e (tree.Global i) → i < length x.source.globals
  global_below i is =
      let n = asked x.source x.variables e (tree.Global i) is suits in
      get_below x.source.globals i n.0 n.1

  -- a variable of the function, whose value is taken as one of the type of the expression
  pub local_reads : (i : ℕ) → Is e (tree.Local i) → ReadsLocal x i (sort_of e.ty)
  local_reads i is v there =
      let n = asked x.source x.variables e (tree.Local i) is suits in
      let same : n.0 ≡ v = (let z : Some n.0 ≡ Some v = sym n.1 ∙ there in cc) in
      subst (λ (z : Variable). ReadsAs z.1 (sort_of e.ty)) same n.2

  pub local_walked : (i : ℕ) (b c : Building) (r : ℕ) → Is e (tree.Local i) → TakesLocal x i (sort_of e.ty) b c r → Emits x (typed_expr e) b c r
  local_walked i b c r is q = emits_as x e (tree.Local i) (sort_of e.ty) b c r is refl (taken_emits x (tree.Local i) (sort_of e.ty) e.span b c r q)

  -- and one of the module
  pub global_walked : (i : ℕ) (b c : Building) (r : ℕ) → Is e (tree.Global i) → EmitsRead x x.source.globals i (tree.Global i) b c r → Emits x (typed_expr e) b c r
  global_walked i b c r is q =
      let n = asked x.source x.variables e (tree.Global i) is suits in
      let t : Sort = sort_of e.ty in
      let P : Sort → Type 0 = λ u. Computes x Itself (rtype_of u) (means_node x (tree.Global i) t) b c r in
      emits_as x e (tree.Global i) t b c r is refl (looked_at x Itself (tree.Global i) t e.span b c r (λ v h kind k. k) (subst P n.2 (q n.0 t n.1)))

  pub nothing_walked : {line : ℕ} (b c : Building) (r : ℕ) → Is e tree.Nothing → Adds b c r rtype.Ref (Lit record { 0 = r } PyNone) line → Emits x (typed_expr e) b c r
  nothing_walked b c r is a = made_walked tree.Nothing sort.Nothing NoneVal b c r is (asked x.source x.variables e tree.Nothing is suits) (literal_makes b c r rtype.Ref _ (Holds NoneVal) a refl) (λ k s. refl)

  -- ---- lists and tuples

  module _ (es : List TypedExpr) (b0 b1 b2 : Building) (rs : List Reg) (r : ℕ) (room : HasRoom x b0) (q : EmitsAll x (objects rs) (exprs_of es) b0 b1 rs) where
    -- all values, and what is made of them
    behind_all : (n : TypedNode) (t : Sort) (go : List Value → Does Value) → Is e n → sort_of e.ty ≡ t → rtype_of t ≡ rtype.Ref → ((k : ℕ) (s : State) → means_node x n t k s ≡ on_to (means_all x (exprs_of es) k s) go) → Attempts (Shows boxed) b1 b2 r rtype.Ref (ActsOnAll (objects rs) rs go) → Emits x (typed_expr e) b0 b2 r
    behind_all n t go is same type means a =
        let made : Computes x (Shows boxed) rtype.Ref (λ k s. on_to (means_all x (exprs_of es) k s) go) b0 b2 r = all_attempts x (objects rs) (Shows boxed) rtype.Ref (means_all x (exprs_of es)) go (ActsOnAll (objects rs) rs go) b0 b1 b2 rs r room q a (λ vs s regs k. record { values = vs; shows = k; does = refl }) in
        let P : RType → Type 0 = λ u. Computes x (Shows boxed) u (λ k s. on_to (means_all x (exprs_of es) k s) go) b0 b2 r in
        emits_as x e n t b0 b2 r is same (looked_at x (Shows boxed) n t e.span b0 b2 r (λ v h kind k. k.0) (computes_of x (Shows boxed) (rtype_of t) _ (means_node x n t) b0 b2 r means (subst P (sym type) made)))

    pub list_walked : Is e (tree.ListOf (exprs_of es)) → Attempts (Shows boxed) b1 b2 r rtype.Ref (ActsOnAll (objects rs) rs (λ vs. make (ListObj vs))) → Emits x (typed_expr e) b0 b2 r
    list_walked is a =
        let n = asked x.source x.variables e (tree.ListOf (exprs_of es)) is suits in
        behind_all (tree.ListOf (exprs_of es)) (sort.ListOf n.0) (λ vs. make (ListObj vs)) is n.1 refl (λ k s. refl) a

    pub tuple_walked : Is e (tree.TupleOf (exprs_of es)) → Attempts (Shows boxed) b1 b2 r rtype.Ref (ActsOnAll (objects rs) rs (λ vs. give (TupleVal (tupled vs)))) → Emits x (typed_expr e) b0 b2 r
    tuple_walked is a =
        let n = asked x.source x.variables e (tree.TupleOf (exprs_of es)) is suits in
        behind_all (tree.TupleOf (exprs_of es)) (sort.TupleOf n.0) (λ vs. give (TupleVal (tupled vs))) is n.1 refl (λ k s. refl) a

  pub list_suits : (es : List TypedExpr) → Is e (tree.ListOf (exprs_of es)) → SomeSuit x.source x.variables es
  list_suits es is = (asked x.source x.variables e (tree.ListOf (exprs_of es)) is suits).2

  -- a tuple has 1 to 16 parts
  pub tuple_suits : (es : List TypedExpr) → Is e (tree.TupleOf (exprs_of es)) → (1 ≤ count_of (exprs_of es)) × (count_of (exprs_of es) ≤ 16) × SomeSuit x.source x.variables es
  tuple_suits es is = let n = asked x.source x.variables e (tree.TupleOf (exprs_of es)) is suits in (n.2, n.3, n.4)

  -- ---- comparisons

  module _ (p : TypedExpr) (more : Comparisons) (is : Is e (tree.Compare p more)) (none : absence_in more ≡ None) where
    compare_asked : (sort_of e.ty ≡ sort.Bool) × (is_scalar (type_of p) ≡ true) × Suits x.source x.variables p × ComparisonsSuit x.source x.variables (type_of p) more
    compare_asked = asked_by x.source x.variables p more (sort_of e.ty) None none (asked x.source x.variables e (tree.Compare p more) is suits)

    pub compare_rest : (q : Side) (b c : Building) → EmitsSide x p q b c → ComparisonsSuit x.source x.variables (kind_sort q.own) more
    compare_rest q b c side = subst (λ t. ComparisonsSuit x.source x.variables t more) (sym side.own) compare_asked.3

    pub compare_walked : (b0 b1 b2 : Building) (q : Side) (r : ℕ) → HasRoom x b0 → EmitsSide x p q b0 b1 → EmitsChain x (kind_sort q.own) (kind_sort q.shown) q.reg.0 more b1 b2 r → Emits x (typed_expr e) b0 b2 r
    compare_walked b0 b1 b2 q r room side chain =
        let P : Sort → Type 0 = λ t. EmitsChain x t (kind_sort q.shown) q.reg.0 more b1 b2 r in
        emits_node x e (tree.Compare p more) sort.Bool b0 b2 r is compare_asked.0 (compare_emits x (kind_sort q.shown) p more b0 b1 b2 q.reg.0 r room side.emits (subst P side.own chain))

  pub compare_part : (p : TExpr) (more : Comparisons) → Is e (tree.Compare (typed_expr p) more) → absence_in more ≡ None → (is_scalar (sort_of p.ty) ≡ true) × Suits x.source x.variables (typed_expr p)
  compare_part p more is none =
      let n = compare_asked (typed_expr p) more is none in
      (subst (λ t. is_scalar t ≡ true) (type_at p) n.1, n.2)

  -- ---- calls

  module _ (f : ℕ) (es : List TypedExpr) (is : Is e (tree.Call f (exprs_of es))) where
    pub call_suits : SomeSuit x.source x.variables es
    call_suits =
        let n = asked x.source x.variables e (tree.Call f (exprs_of es)) is suits in
        all_suit x.source x.variables (parameter_sorts n.0) (exprs_of es) n.3

    module _ (b0 b1 : Building) (rs : List Reg) (t : RType) (at : t ≡ rtype_of (sort_of e.ty)) (q : EmitsAll x (map type_of es) (exprs_of es) b0 b1 rs) where
      -- the arguments stand in registers of the types that the function takes
      pub call_fits : (g : Surrounding) → IsAmong x.source g → Calls g t b1.regs f rs
      call_fits g among =
          let n = asked x.source x.variables e (tree.Call f (exprs_of es)) is suits in
          let types : HaveTypes b1.regs (parameter_sorts n.0) rs = subst (λ z. HaveTypes b1.regs z rs) (sym (suit_types x.source x.variables (parameter_sorts n.0) es n.3)) q.types in
          (head_of n.0, among.heads f n.0 n.1, ap rtype_of n.2 ∙ sym at, take_types b1.regs (parameter_sorts n.0) rs types)

      pub call_walked : {line : ℕ} (b2 : Building) (r : ℕ) → HasRoom x b0 → Adds b1 b2 r t (CallOp record { 0 = r } f rs) line → Emits x (typed_expr e) b0 b2 r
      call_walked {line} b2 r room a =
          let n = asked x.source x.variables e (tree.Call f (exprs_of es)) is suits in
          let all : EmitsAll x (parameter_sorts n.0) (exprs_of es) b0 b1 rs = subst (λ z. EmitsAll x z (exprs_of es) b0 b1 rs) (sym (suit_types x.source x.variables (parameter_sorts n.0) es n.3)) q in
          let adds : Adds b1 b2 r (rtype_of n.0.ret) (CallOp record { 0 = r } f rs) line = subst (λ z. Adds b1 b2 r z (CallOp record { 0 = r } f rs) line) (at ∙ ap rtype_of (sym n.2)) a in
          emits_as x e (tree.Call f (exprs_of es)) n.0.ret b0 b2 r is (sym n.2) (call_emits x f n.0 (exprs_of es) e.span b0 b1 b2 rs r n.1 room all adds)
