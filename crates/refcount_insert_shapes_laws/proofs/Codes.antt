-- Whether a line fits a code does not depend on the lines of its functions.
use Rattle.std.proofs.Common.{◌≡◌, refl, sym, ◌∙◌, ap, ℕ, ◌+◌, not, cond, List, [], ◌∷◌, length, map, Option, Some, None}
use Rattle.std.specs.Prelude.{slice_get, nat_lt, ◌&&◌, codes}
use Rattle.std.specs.List.{position_or_len, list_all}
use Rattle.std.specs.Option.{option_and_then, option_map}
use Rattle.std.specs.Str.{bytes_eq}
use Rattle.std.proofs.lemmas.List.{length-map}
use Rattle.std.proofs.lemmas.Option.{slice_get-map}
use Rattle.c_core.specs.declared.code.Kind.{Kind}
use Rattle.c_core.specs.declared.code.CArg.{CArg}
use Rattle.c_core.specs.declared.code.Line.{Line}
use Rattle.c_core.specs.declared.code.Line.TheVariants as line
use Rattle.c_core.specs.declared.code.CFunc.{CFunc}
use Rattle.c_core.specs.declared.code.Code.{Code}
use Rattle.c_core.specs.declared.primitive.Primitive.{Primitive}
use Rattle.c_core.specs.Functions.{after_prefix, number_of, function_named}
use Rattle.c_core.specs.Primitives.{primitive_named}
use Rattle.c_core.specs.WellFormed.{Declared, names_differ, lines_lead_on, begins_right, call_fits, function_call_fits, line_fits, function_fits}

-- a function without its lines
abbrev pub bare : CFunc → CFunc
bare g = record g { lines = [] }

place_bare : (name : List ℕ) (gs : List CFunc) → position_or_len (λ (g : CFunc). bytes_eq name g.name) (map bare gs) ≡ position_or_len (λ (g : CFunc). bytes_eq name g.name) gs
place_bare name [] = refl
place_bare name (g ∷ gs) = ap (λ m. cond (not (bytes_eq name g.name)) (1 + m) 0) (place_bare name gs)

number_bare : (gs : List CFunc) (name : List ℕ) → number_of (map bare gs) name ≡ number_of gs name
number_bare gs name =
    let place : ℕ = position_or_len (λ (g : CFunc). bytes_eq name g.name) gs in
    ap (λ m. cond (bytes_eq name []) None (cond (nat_lt m (length (map bare gs))) (Some m) None)) (place_bare name gs)
    ∙ ap (λ m. cond (bytes_eq name []) None (cond (nat_lt place m) (Some place) None)) (length-map gs bare)

named_bare : (gs : List CFunc) (name : List ℕ) → function_named (map bare gs) name ≡ function_named gs name
named_bare gs name = by (after_prefix (codes "CPyDef_") name)
  where
    by : (o : Option (List ℕ)) → option_and_then (number_of (map bare gs)) o ≡ option_and_then (number_of gs) o
    by None = refl
    by (Some x) = number_bare gs x

module _ (code : Code) (vars : List Declared) (ret : Kind) where
  abbrev less : Code
  less = record code { funcs = map bare code.funcs }

  call_bare : (x : Option ℕ) (args : List CArg) (o : Option Primitive) (n : Option ℕ) → call_fits less vars x args o n ≡ call_fits code vars x args o n
  call_bare x args (Some q) n = refl
  call_bare x args None None = refl
  call_bare x args None (Some n) =
      ap (function_call_fits less vars x args) (slice_get-map bare code.funcs n) ∙ by (slice_get code.funcs n)
    where
      by : (o : Option CFunc) → function_call_fits less vars x args (option_map bare o) ≡ function_call_fits code vars x args o
      by None = refl
      by (Some g) = refl

  line_bare : (l : Line) → line_fits less vars ret l ≡ line_fits code vars ret l
  line_bare (line.Label) = refl
  line_bare (line.Move x y) = refl
  line_bare (line.Lit x l) = refl
  line_bare (line.Call x name args) =
      ap (call_fits less vars x args (primitive_named name)) (named_bare code.funcs name)
      ∙ call_bare x args (primitive_named name) (function_named code.funcs name)
  line_bare (line.Virtual x o n args) = refl
  line_bare (line.TraitCall x o t n args) = refl
  line_bare (line.Goto n) = refl
  line_bare (line.If x n m) = refl
  line_bare (line.IfError x n m) = refl
  line_bare (line.Turn) = refl
  line_bare (line.Return x) = refl
  line_bare (line.Inc x) = refl
  line_bare (line.Dec x) = refl
  line_bare (line.XDec x) = refl

-- two codes that differ in lines alone
module _ (code new : Code) (same : record new { funcs = map bare new.funcs } ≡ record code { funcs = map bare code.funcs }) where
  line_same : (vars : List Declared) (ret : Kind) (l : Line) → line_fits new vars ret l ≡ line_fits code vars ret l
  line_same vars ret l =
      sym (line_bare new vars ret l) ∙ (ap (λ (c : Code). line_fits c vars ret l) same ∙ line_bare code vars ret l)

  lines_same : (vars : List Declared) (ret : Kind) (ls : List Line) → list_all (line_fits new vars ret) ls ≡ list_all (line_fits code vars ret) ls
  lines_same vars ret [] = refl
  lines_same vars ret (l ∷ ls) =
      ap (λ b. b && list_all (line_fits new vars ret) ls) (line_same vars ret l) ∙ ap (λ b. line_fits code vars ret l && b) (lines_same vars ret ls)

  pub function_same : (g : CFunc) → function_fits new g ≡ function_fits code g
  function_same g =
      ap (λ b. names_differ (map (λ v. v.0) g.vars) && (b && (lines_lead_on g.lines && begins_right g))) (lines_same g.vars g.ret g.lines)
