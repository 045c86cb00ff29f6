-- Classes and signatures as plain data, what declared ones stand for, and which class stands under which.
use Rattle.std.specs.Prelude.{ℕ, zero, suc, Bool, ◌==◌, ◌||◌, ◌&&◌, nat_lt, List, [], map, Option, Some, None, slice_get}
use Rattle.std.specs.List.{list_any, list_all}
use Rattle.py_typed.specs.declared.types.Ty.{Ty}
use Rattle.py_typed.specs.declared.classes.Sig.{Sig}
use Rattle.py_typed.specs.declared.classes.ClassInfo.{ClassInfo}
use Rattle.py_typed.specs.Sorts.{Sort, sort}

-- what a function takes and gives, and a method without its first parameter
pub record Signature : Type 0 where
  pub params : List Sort
  pub ret : Sort

-- a class: its bases by number, the attributes that it declares itself, and its own methods, each with its place among the
-- functions and their signatures
pub record ClassEntry : Type 0 where
  pub name : List ℕ
  pub is_trait : Bool
  pub bases : List ℕ
  pub attributes : List (List ℕ × Sort)
  pub methods : List (List ℕ × ℕ)

-- the classes, and the signatures of functions
pub record ClassTable : Type 0 where
  pub classes : List ClassEntry
  pub signatures : List Signature

abbrev pub signature : Sig → Signature
signature s = record { params = map sort s.params; ret = sort s.ret }

abbrev pub with_sort : List ℕ × Ty → List ℕ × Sort
with_sort p = (p.0, sort p.1)

abbrev pub class_entry : ClassInfo → ClassEntry
class_entry c = record { name = c.name; is_trait = c.is_trait; bases = c.bases; attributes = map with_sort c.attrs; methods = c.methods }

-- the bases of the class of a number: none where there is no such class
abbrev pub bases_in : Option ClassEntry → List ℕ
bases_in None = []
bases_in (Some c) = c.bases

abbrev pub bases_of : List ClassEntry → ℕ → List ℕ
bases_of classes c = bases_in (slice_get classes c)

abbrev pub has_class : ℕ → List ℕ → Bool
has_class c row = list_any (λ d. d == c) row

module _ (classes : List ClassEntry) where
  -- from the class c the class d is reached by at most n steps, each from a class to a base of it. A base stands earlier in the
  -- text, so it has a smaller number than its class: one that has not counts as none
  abbrev pub reaches : ℕ → ℕ → ℕ → Bool
  reaches zero c d = c == d
  reaches (suc n) c d = (c == d) || list_any (λ b. nat_lt b c && reaches n b d) (bases_of classes c)

  -- the class c stands under the class d: it is d, or a base of it stands under d. As numbers fall with each step, there are at
  -- most c of them
  abbrev pub is_class_under : ℕ → ℕ → Bool
  is_class_under c d = reaches c c d

  -- a base of the class c stands under the class d
  abbrev pub is_above : ℕ → ℕ → Bool
  is_above c d = list_any (λ b. nat_lt b c && is_class_under b d) (bases_of classes c)

  -- the bases of a class have smaller numbers
  abbrev pub bases_fall : ℕ → Bool
  bases_fall c = list_all (λ b. nat_lt b c) (bases_of classes c)
