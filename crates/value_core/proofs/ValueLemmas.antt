-- Tuples and lists, classes and their names.
use Rattle.std.proofs.Common.{◌≡◌, refl, sym, ◌∙◌, ap, List, [], ◌∷◌, Some}
use Rattle.std.proofs.lemmas.Option.{same_Some}
use Rattle.value_core.specs.declared.exception.ExcClass.{ExcClass}
use Rattle.value_core.specs.declared.exception.ExcClass.TheVariants.{Exception, ArithmeticError, ZeroDivisionError, OverflowError, LookupError, IndexError, KeyError, NameError, UnboundLocalError, ValueError, TypeError, AttributeError, AssertionError, RuntimeError, EOFError}
use Rattle.value_core.specs.Exceptions.{class_name, class_named}
use Rattle.value_core.specs.Laws.{NamesDiffer}
use Rattle.value_core.specs.Value.{Value, Values, no_values, value_then, listed, tupled}

pub listed-tupled : (vs : List Value) → listed (tupled vs) ≡ vs
listed-tupled [] = refl
listed-tupled (v ∷ vs) = ap (λ ws. v ∷ ws) (listed-tupled vs)

pub tupled-listed : (parts : Values) → tupled (listed parts) ≡ parts
tupled-listed no_values = refl
tupled-listed (value_then v parts) = ap (value_then v) (tupled-listed parts)

-- a class is the one of its name
named : (c : ExcClass) → class_named (class_name c) ≡ Some c
named Exception = refl
named ArithmeticError = refl
named ZeroDivisionError = refl
named OverflowError = refl
named LookupError = refl
named IndexError = refl
named KeyError = refl
named NameError = refl
named UnboundLocalError = refl
named ValueError = refl
named TypeError = refl
named AttributeError = refl
named AssertionError = refl
named RuntimeError = refl
named EOFError = refl

pub names_differ : NamesDiffer
names_differ a b e = same_Some a b (sym (named a) ∙ ap class_named e ∙ named b)
