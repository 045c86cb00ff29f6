-- The places of the first variables of their names, by which a variable is found without a walk over those before it.
use Rattle.std.specs.Prelude.{◌≡◌, ℕ, min, List, Vec, Option, Some, None}
use Rattle.std.specs.declared.alloc.Global.{Global}
use Rattle.std.specs.BTreeMap.{BTreeMap, get_by}
use Rattle.std.specs.Cmp.Lexicographic.{slice_cmp}
use Rattle.std.specs.List.{position_from}
use Rattle.std.specs.Ordering.{nat_cmp}
use Rattle.c_core.specs.declared.code.Kind.{Kind}
use Rattle.c_core.specs.declared.code.Kind.TheVariants.{Tagged, Int64, Char, Object}
use Rattle.c_core.specs.WellFormed.{Declared}
use Rattle.c_text.specs.declared.variable.Firsts.{Firsts}
use Rattle.c_text.specs.Variables.{has_name_and_kind}

-- a map from names to places
abbrev pub Places : Type 0
Places = BTreeMap (Vec ℕ Global) ℕ

abbrev pub place_of : Places → List ℕ → Option ℕ
place_of places name = get_by (λ key. slice_cmp nat_cmp name key.items) places

-- there is one map for each kind
abbrev pub places_by : Firsts → Kind → Places
places_by firsts Tagged = firsts.tagged
places_by firsts Int64 = firsts.int64
places_by firsts Char = firsts.char
places_by firsts Object = firsts.object

-- each name has the place of the first variable of that name and kind, where there is one
pub record AreFirsts (vars : List Declared) (firsts : Firsts) : Type 0 where
  pub first : (kind : Kind) (name : List ℕ) → place_of (places_by firsts kind) name ≡ position_from (has_name_and_kind name kind) 0 vars

-- the lower of two places
abbrev pub earlier : Option ℕ → Option ℕ → Option ℕ
earlier None other = other
earlier (Some x) None = Some x
earlier (Some x) (Some y) = Some (min x y)
