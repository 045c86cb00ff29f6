-- What is taken out of a list or a tuple is a value of a type; and a value that is put into a list is an object there.
use Rattle.ir_builder_expressions.proofs.Common.{refl, sym, subst, ℕ, Value, Sort, Does, give, ◌>>=◌, RType, Building, HasType, Shows, Showing, Attempts, ActsOnAll, ActsOn, ActsOnTwo, [], ◌∷◌, Reg, of_one, as_one, attempts_as, attempts_then, type_below, boxed, taken_as, rtype_of}
use Rattle.py_typed.specs.Sorts as sort
use Rattle.ir_core.specs.declared.code.RType.TheVariants.{Ref}
use Rattle.source_meaning.specs.Operations.{pop_item, append_item}
pub use Rattle.ir_builder_operations.proofs.ContainerLemmas.{item_attempts}

-- ---- what is done with any object is done with a value of a type, of which more is known

pub object_acts : (u : Sort) (K : Showing) (b c : Building) (r : ℕ) (type : RType) (x : ℕ) (go : Value → Does Value) → Attempts K b c r type (ActsOn boxed x go) → Attempts K b c r type (ActsOn u x go)
object_acts u K b c r type x go a = attempts_as K b c r type (ActsOn boxed x go) (ActsOn u x go) (λ regs s res f. record { v = f.v; shows = (f.shows.0, tt); does = f.does }) a

pub object_acts_first : (u w : Sort) (K : Showing) (b c : Building) (r : ℕ) (type : RType) (x y : ℕ) (go : Value → Value → Does Value) → Attempts K b c r type (ActsOnTwo boxed w x y go) → Attempts K b c r type (ActsOnTwo u w x y go)
object_acts_first u w K b c r type x y go a =
    attempts_as K b c r type (ActsOnTwo boxed w x y go) (ActsOnTwo u w x y go) (λ regs s res f. record { v = f.v; left = (f.left.0, tt); w = f.w; right = f.right; does = f.does }) a

-- ---- taken out

pub one_taken : (t : Sort) (b0 b1 b2 : Building) (x q r : ℕ) (go : Value → Does Value) → Attempts (Shows boxed) b0 b1 q Ref (ActsOn boxed x go) → Attempts (Shows t) b1 b2 r (rtype_of t) (ActsOn boxed q (taken_as t)) → Attempts (Shows t) b0 b2 r (rtype_of t) (ActsOn boxed x (λ v. go v >>= taken_as t))
one_taken t b0 b1 b2 x q r go a c =
    attempts_then (Shows boxed) (Shows t) b0 b1 b2 q r Ref (rtype_of t) (ActsOn boxed x go) (ActsOn boxed q (taken_as t)) (ActsOn boxed x (λ v. go v >>= taken_as t)) a c
    (λ regs s res f. record {
      mid = go f.v s;
      go = taken_as t;
      does = f.does;
      start = record { v = f.v; shows = f.shows; does = refl };
      on = λ now v s1 shows kept. record { v = v; shows = shows; does = refl };
    })

pub popped_attempts : (t : Sort) (b0 b1 b2 : Building) (x q : Reg) (r : ℕ) → Attempts (Shows boxed) b0 b1 q.0 Ref (ActsOnAll (boxed ∷ []) (x ∷ []) (of_one pop_item)) → Attempts (Shows t) b1 b2 r (rtype_of t) (ActsOn boxed q.0 (taken_as t)) → Attempts (Shows t) b0 b2 r (rtype_of t) (ActsOn boxed x.0 (λ v. pop_item v >>= taken_as t))
popped_attempts t b0 b1 b2 x q r a c = one_taken t b0 b1 b2 x.0 q.0 r pop_item (as_one boxed boxed pop_item b0 b1 q.0 x a) c

-- ---- put behind the items of a list

pub appended_attempts : (t : Sort) (b0 b1 b2 : Building) (l x q r : ℕ) → HasType b0 l Ref → Attempts (Shows (sort.Optional t)) b0 b1 q Ref (ActsOn t x give) → Attempts (Shows sort.Nothing) b1 b2 r Ref (ActsOnTwo boxed boxed l q append_item) → Attempts (Shows sort.Nothing) b0 b2 r Ref (ActsOnTwo boxed t l x append_item)
appended_attempts t b0 b1 b2 l x q r is a c =
    attempts_then (Shows (sort.Optional t)) (Shows sort.Nothing) b0 b1 b2 q r Ref Ref (ActsOn t x give) (ActsOnTwo boxed boxed l q append_item) (ActsOnTwo boxed t l x append_item) a c
    (λ regs s res f. record {
      mid = give f.w s;
      go = append_item f.v;
      does = f.does;
      start = record { v = f.w; shows = f.right; does = refl };
      on = λ now w s1 shows kept. record { v = f.v; left = subst (Shows boxed f.v) (sym (kept l (type_below b0 l Ref is))) f.left; w = w; right = (shows.0, tt); does = refl };
    })
