-- Which exception class stands under which: what stands under a class stands under all that this one does, and no two stand under
-- each other.
use Rattle.std.proofs.Common.{◌≡◌, Bool, true, false, ◌||◌, sym, subst}
use Rattle.std.proofs.lemmas.Slice.Eq.{bytes_eq-Decides}
use Rattle.value_core.specs.declared.exception.ExcClass.{ExcClass}
use Rattle.value_core.specs.declared.exception.ExcClass.TheVariants.{Exception, ArithmeticError, ZeroDivisionError, OverflowError, LookupError, IndexError, KeyError, NameError, UnboundLocalError, ValueError, TypeError, AttributeError, AssertionError, RuntimeError, EOFError}
use Rattle.value_core.specs.Exceptions.{class_name, is_called, is_under}
use Rattle.value_core.proofs.ValueLemmas.{names_differ}
use Rattle.py_typed.proofs.ClassLemmas.{or_cases, or_right, choose}

never : {A : Type 0} → false ≡ true → A
never e = absurd (cc)

one_of_1 : {A : Type 0} (a : Bool) → (a || false) ≡ true → (a ≡ true → A) → A
one_of_1 a e f = choose (or_cases a false e) f never

one_of_2 : {A : Type 0} (a b : Bool) → (a || (b || false)) ≡ true → (a ≡ true → A) → (b ≡ true → A) → A
one_of_2 a b e f g = choose (or_cases a (b || false) e) f (λ h. one_of_1 b h g)

one_of_3 : {A : Type 0} (a b c : Bool) → (a || (b || (c || false))) ≡ true → (a ≡ true → A) → (b ≡ true → A) → (c ≡ true → A) → A
one_of_3 a b c e f g h = choose (or_cases a (b || (c || false)) e) f (λ i. one_of_2 b c i g h)

named_one : (d x : ExcClass) → is_called (class_name d) x ≡ true → x ≡ d
named_one d x e = names_differ x d ((bytes_eq-Decides (class_name x) (class_name d)).0 e)

-- what d stands under the class of its name stands under
onto : (x d e : ExcClass) → is_under d e ≡ true → is_called (class_name d) x ≡ true → is_under x e ≡ true
onto x d e q r = subst (λ z. is_under z e ≡ true) (sym (named_one d x r)) q

pub exception_on : (c d e : ExcClass) → is_under c d ≡ true → is_under d e ≡ true → is_under c e ≡ true
exception_on Exception d e p q = one_of_1 (is_called (class_name d) Exception) p (λ r. onto Exception d e q r)
exception_on ArithmeticError d e p q = one_of_2 (is_called (class_name d) ArithmeticError) (is_called (class_name d) Exception) p (λ r. onto ArithmeticError d e q r) (λ r. or_right (is_called (class_name e) ArithmeticError) (is_under Exception e) (onto Exception d e q r))
exception_on ZeroDivisionError d e p q = one_of_3 (is_called (class_name d) ZeroDivisionError) (is_called (class_name d) ArithmeticError) (is_called (class_name d) Exception) p (λ r. onto ZeroDivisionError d e q r) (λ r. or_right (is_called (class_name e) ZeroDivisionError) (is_under ArithmeticError e) (onto ArithmeticError d e q r)) (λ r. or_right (is_called (class_name e) ZeroDivisionError) (is_under ArithmeticError e) (or_right (is_called (class_name e) ArithmeticError) (is_under Exception e) (onto Exception d e q r)))
exception_on OverflowError d e p q = one_of_3 (is_called (class_name d) OverflowError) (is_called (class_name d) ArithmeticError) (is_called (class_name d) Exception) p (λ r. onto OverflowError d e q r) (λ r. or_right (is_called (class_name e) OverflowError) (is_under ArithmeticError e) (onto ArithmeticError d e q r)) (λ r. or_right (is_called (class_name e) OverflowError) (is_under ArithmeticError e) (or_right (is_called (class_name e) ArithmeticError) (is_under Exception e) (onto Exception d e q r)))
exception_on LookupError d e p q = one_of_2 (is_called (class_name d) LookupError) (is_called (class_name d) Exception) p (λ r. onto LookupError d e q r) (λ r. or_right (is_called (class_name e) LookupError) (is_under Exception e) (onto Exception d e q r))
exception_on IndexError d e p q = one_of_3 (is_called (class_name d) IndexError) (is_called (class_name d) LookupError) (is_called (class_name d) Exception) p (λ r. onto IndexError d e q r) (λ r. or_right (is_called (class_name e) IndexError) (is_under LookupError e) (onto LookupError d e q r)) (λ r. or_right (is_called (class_name e) IndexError) (is_under LookupError e) (or_right (is_called (class_name e) LookupError) (is_under Exception e) (onto Exception d e q r)))
exception_on KeyError d e p q = one_of_3 (is_called (class_name d) KeyError) (is_called (class_name d) LookupError) (is_called (class_name d) Exception) p (λ r. onto KeyError d e q r) (λ r. or_right (is_called (class_name e) KeyError) (is_under LookupError e) (onto LookupError d e q r)) (λ r. or_right (is_called (class_name e) KeyError) (is_under LookupError e) (or_right (is_called (class_name e) LookupError) (is_under Exception e) (onto Exception d e q r)))
exception_on NameError d e p q = one_of_2 (is_called (class_name d) NameError) (is_called (class_name d) Exception) p (λ r. onto NameError d e q r) (λ r. or_right (is_called (class_name e) NameError) (is_under Exception e) (onto Exception d e q r))
exception_on UnboundLocalError d e p q = one_of_3 (is_called (class_name d) UnboundLocalError) (is_called (class_name d) NameError) (is_called (class_name d) Exception) p (λ r. onto UnboundLocalError d e q r) (λ r. or_right (is_called (class_name e) UnboundLocalError) (is_under NameError e) (onto NameError d e q r)) (λ r. or_right (is_called (class_name e) UnboundLocalError) (is_under NameError e) (or_right (is_called (class_name e) NameError) (is_under Exception e) (onto Exception d e q r)))
exception_on ValueError d e p q = one_of_2 (is_called (class_name d) ValueError) (is_called (class_name d) Exception) p (λ r. onto ValueError d e q r) (λ r. or_right (is_called (class_name e) ValueError) (is_under Exception e) (onto Exception d e q r))
exception_on TypeError d e p q = one_of_2 (is_called (class_name d) TypeError) (is_called (class_name d) Exception) p (λ r. onto TypeError d e q r) (λ r. or_right (is_called (class_name e) TypeError) (is_under Exception e) (onto Exception d e q r))
exception_on AttributeError d e p q = one_of_2 (is_called (class_name d) AttributeError) (is_called (class_name d) Exception) p (λ r. onto AttributeError d e q r) (λ r. or_right (is_called (class_name e) AttributeError) (is_under Exception e) (onto Exception d e q r))
exception_on AssertionError d e p q = one_of_2 (is_called (class_name d) AssertionError) (is_called (class_name d) Exception) p (λ r. onto AssertionError d e q r) (λ r. or_right (is_called (class_name e) AssertionError) (is_under Exception e) (onto Exception d e q r))
exception_on RuntimeError d e p q = one_of_2 (is_called (class_name d) RuntimeError) (is_called (class_name d) Exception) p (λ r. onto RuntimeError d e q r) (λ r. or_right (is_called (class_name e) RuntimeError) (is_under Exception e) (onto Exception d e q r))
exception_on EOFError d e p q = one_of_2 (is_called (class_name d) EOFError) (is_called (class_name d) Exception) p (λ r. onto EOFError d e q r) (λ r. or_right (is_called (class_name e) EOFError) (is_under Exception e) (onto Exception d e q r))

pub exception_one_way : (c d : ExcClass) → is_under c d ≡ true → is_under d c ≡ true → c ≡ d
exception_one_way Exception d p q = one_of_1 (is_called (class_name d) Exception) p (named_one d Exception)
exception_one_way ArithmeticError d p q = one_of_2 (is_called (class_name d) ArithmeticError) (is_called (class_name d) Exception) p (named_one d ArithmeticError) (λ r. never (onto Exception d ArithmeticError q r))
exception_one_way ZeroDivisionError d p q = one_of_3 (is_called (class_name d) ZeroDivisionError) (is_called (class_name d) ArithmeticError) (is_called (class_name d) Exception) p (named_one d ZeroDivisionError) (λ r. never (onto ArithmeticError d ZeroDivisionError q r)) (λ r. never (onto Exception d ZeroDivisionError q r))
exception_one_way OverflowError d p q = one_of_3 (is_called (class_name d) OverflowError) (is_called (class_name d) ArithmeticError) (is_called (class_name d) Exception) p (named_one d OverflowError) (λ r. never (onto ArithmeticError d OverflowError q r)) (λ r. never (onto Exception d OverflowError q r))
exception_one_way LookupError d p q = one_of_2 (is_called (class_name d) LookupError) (is_called (class_name d) Exception) p (named_one d LookupError) (λ r. never (onto Exception d LookupError q r))
exception_one_way IndexError d p q = one_of_3 (is_called (class_name d) IndexError) (is_called (class_name d) LookupError) (is_called (class_name d) Exception) p (named_one d IndexError) (λ r. never (onto LookupError d IndexError q r)) (λ r. never (onto Exception d IndexError q r))
exception_one_way KeyError d p q = one_of_3 (is_called (class_name d) KeyError) (is_called (class_name d) LookupError) (is_called (class_name d) Exception) p (named_one d KeyError) (λ r. never (onto LookupError d KeyError q r)) (λ r. never (onto Exception d KeyError q r))
exception_one_way NameError d p q = one_of_2 (is_called (class_name d) NameError) (is_called (class_name d) Exception) p (named_one d NameError) (λ r. never (onto Exception d NameError q r))
exception_one_way UnboundLocalError d p q = one_of_3 (is_called (class_name d) UnboundLocalError) (is_called (class_name d) NameError) (is_called (class_name d) Exception) p (named_one d UnboundLocalError) (λ r. never (onto NameError d UnboundLocalError q r)) (λ r. never (onto Exception d UnboundLocalError q r))
exception_one_way ValueError d p q = one_of_2 (is_called (class_name d) ValueError) (is_called (class_name d) Exception) p (named_one d ValueError) (λ r. never (onto Exception d ValueError q r))
exception_one_way TypeError d p q = one_of_2 (is_called (class_name d) TypeError) (is_called (class_name d) Exception) p (named_one d TypeError) (λ r. never (onto Exception d TypeError q r))
exception_one_way AttributeError d p q = one_of_2 (is_called (class_name d) AttributeError) (is_called (class_name d) Exception) p (named_one d AttributeError) (λ r. never (onto Exception d AttributeError q r))
exception_one_way AssertionError d p q = one_of_2 (is_called (class_name d) AssertionError) (is_called (class_name d) Exception) p (named_one d AssertionError) (λ r. never (onto Exception d AssertionError q r))
exception_one_way RuntimeError d p q = one_of_2 (is_called (class_name d) RuntimeError) (is_called (class_name d) Exception) p (named_one d RuntimeError) (λ r. never (onto Exception d RuntimeError q r))
exception_one_way EOFError d p q = one_of_2 (is_called (class_name d) EOFError) (is_called (class_name d) Exception) p (named_one d EOFError) (λ r. never (onto Exception d EOFError q r))
