-- The texts of what typing finds, each once, with the code of its rule.
--
-- Types stand as annotations write them, numbers in decimals. They are opaque to proofs that do not ask for them: what is said
-- above is said in these names.
use Rattle.std.specs.Prelude.{ℕ, List, ◌++◌, codes}
use Rattle.std.specs.Fmt.{decimal}
use Rattle.py_typed.specs.Sorts.{Sort}
use Rattle.py_typed.specs.Classes.{ClassEntry}
use Rattle.py_typed.specs.TypeTexts.{type_text}
use Rattle.py_check_messages.specs.Seen.{Message}

-- ---- expressions

-- a name that is not known
unfoldable pub not_defined : List ℕ → Message
not_defined x = record { text = codes "Name \"" ++ x ++ codes "\" is not defined"; code = codes "name-defined" }

-- a name of no variable, or of a method, where a value is asked for
unfoldable pub not_a_value : List ℕ → Message
not_a_value x = record { text = codes "\"" ++ x ++ codes "\" cannot be used as a value"; code = codes "profile" }

-- a variable that is read before its first assignment gave it a type
unfoldable pub no_type_yet : List ℕ → Message
no_type_yet x = record { text = codes "Cannot determine type of \"" ++ x ++ codes "\""; code = codes "has-type" }

-- a sign before what is no number
unfoldable pub unsupported_operand : List ClassEntry → List ℕ → Sort → Message
unsupported_operand classes sign s = record { text = codes "Unsupported operand type for unary " ++ sign ++ codes " (\"" ++ type_text classes s ++ codes "\")"; code = codes "operator" }

-- operands that an operator or a comparison does not take
unfoldable pub unsupported_operands : List ClassEntry → List ℕ → Sort → Sort → Message
unsupported_operands classes op s t = record { text = codes "Unsupported operand types for " ++ op ++ codes " (\"" ++ type_text classes s ++ codes "\" and \"" ++ type_text classes t ++ codes "\")"; code = codes "operator" }

-- an identity test against what is not the literal `None`
unfoldable pub only_for_none : Message
only_for_none = record { text = codes "\"is\" is only for None"; code = codes "profile" }

-- operands of `and`, `or` or `if` without a join
unfoldable pub no_common_type : List ClassEntry → List ℕ → Sort → Sort → Message
no_common_type classes word s t = record { text = codes "Operands of \"" ++ word ++ codes "\" have no common type (\"" ++ type_text classes s ++ codes "\" and \"" ++ type_text classes t ++ codes "\")"; code = codes "misc" }

-- an item, counted from 0, that does not fit the type that a list is to have
unfoldable pub wrong_item : List ClassEntry → ℕ → Sort → Sort → Message
wrong_item classes n s t = record { text = codes "List item " ++ decimal n ++ codes " has incompatible type \"" ++ type_text classes s ++ codes "\"; expected \"" ++ type_text classes t ++ codes "\""; code = codes "list-item" }

-- an empty list or dict where no type is expected
unfoldable pub empty_display : Message
empty_display = record { text = codes "Need a type for an empty display"; code = codes "var-annotated" }

-- items of a list without a join
unfoldable pub no_common_item : Message
no_common_item = record { text = codes "List items have no common type"; code = codes "misc" }

-- the types of a key and a value, each in quotes
unfoldable pub entry_text : List ClassEntry → Sort → Sort → List ℕ
entry_text classes k t = codes "\"" ++ type_text classes k ++ codes "\": \"" ++ type_text classes t ++ codes "\""

-- an entry, counted from 0, of a key and a value that do not both fit what a dict is to have
unfoldable pub wrong_entry : List ClassEntry → ℕ → Sort → Sort → Sort → Sort → Message
wrong_entry classes n j s k t = record { text = codes "Dict entry " ++ decimal n ++ codes " has incompatible type " ++ entry_text classes j s ++ codes "; expected " ++ entry_text classes k t; code = codes "dict-item" }

-- keys or values of a dict without a join
unfoldable pub no_common_entry : Message
no_common_entry = record { text = codes "Dict entries have no common type"; code = codes "misc" }

-- a tuple of no items, of over 16, or with an item `None`
unfoldable pub invalid_tuple : Message
invalid_tuple = record { text = codes "Invalid tuple"; code = codes "misc" }

-- an attribute of an Optional whose class has it
unfoldable pub none_has_no_attribute : List ClassEntry → Sort → List ℕ → Message
none_has_no_attribute classes s a = record { text = codes "Item \"None\" of \"" ++ type_text classes s ++ codes "\" has no attribute \"" ++ a ++ codes "\""; code = codes "union-attr" }

-- an attribute that a type does not have
unfoldable pub no_attribute : List ClassEntry → Sort → List ℕ → Message
no_attribute classes s a = record { text = codes "\"" ++ type_text classes s ++ codes "\" has no attribute \"" ++ a ++ codes "\""; code = codes "attr-defined" }

-- an index of what has no items
unfoldable pub not_indexable : List ClassEntry → Sort → Message
not_indexable classes s = record { text = codes "Value of type \"" ++ type_text classes s ++ codes "\" is not indexable"; code = codes "index" }

-- an index of a tuple that is no literal, or out of range
unfoldable pub tuple_index : Message
tuple_index = record { text = codes "Tuple index must be a literal in range"; code = codes "misc" }

-- an index of another type than a list, a text or a dict takes
unfoldable pub invalid_index : List ClassEntry → Sort → Sort → Sort → Message
invalid_index classes s t k = record { text = codes "Invalid index type \"" ++ type_text classes s ++ codes "\" for \"" ++ type_text classes t ++ codes "\"; expected type \"" ++ type_text classes k ++ codes "\""; code = codes "index" }

-- ---- calls

-- an argument with a key
unfoldable pub keyword_argument : Message
keyword_argument = record { text = codes "Keyword arguments are outside the profile"; code = codes "profile" }

-- a call of what is no function, method or class
unfoldable pub not_callable : Message
not_callable = record { text = codes "Expression is not callable"; code = codes "operator" }

-- a call of a trait
unfoldable pub no_instance : List ℕ → Message
no_instance c = record { text = codes "Cannot instantiate trait \"" ++ c ++ codes "\""; code = codes "misc" }

-- `range` that is not the whole iterable of a `for`
unfoldable pub range_outside_for : Message
range_outside_for = record { text = codes "\"range\" is only for loops"; code = codes "profile" }

-- another number of arguments than is expected, which is a text: `1 or 2`
unfoldable pub wrong_number : List ℕ → List ℕ → Message
wrong_number f expected = record { text = codes "Wrong number of arguments for \"" ++ f ++ codes "\"; expected " ++ expected; code = codes "call-arg" }

-- an argument, counted from 1, that does not fit what is expected, which is a text: `printable`
unfoldable pub wrong_argument : List ClassEntry → ℕ → List ℕ → Sort → List ℕ → Message
wrong_argument classes n f s expected = record { text = codes "Argument " ++ decimal n ++ codes " to \"" ++ f ++ codes "\" has incompatible type \"" ++ type_text classes s ++ codes "\"; expected \"" ++ expected ++ codes "\""; code = codes "arg-type" }

-- a call that gives no value where one is used
unfoldable pub gives_nothing : List ℕ → Message
gives_nothing f = record { text = codes "\"" ++ f ++ codes "\" does not return a value (it only ever returns None)"; code = codes "func-returns-value" }

-- ---- statements and annotations

-- an annotation that is no type, or `None` where it may not stand
unfoldable pub invalid_type : Message
invalid_type = record { text = codes "Invalid type"; code = codes "valid-type" }

-- a target that is neither a name, an attribute, an item, nor a row of such
unfoldable pub no_target : Message
no_target = record { text = codes "Cannot assign to this expression"; code = codes "misc" }

-- a target that is the name of a function, a class, an import or a builtin
unfoldable pub cannot_assign : List ℕ → Message
cannot_assign x = record { text = codes "Cannot assign to \"" ++ x ++ codes "\""; code = codes "misc" }

-- a name that is defined, declared or bound before
unfoldable pub already_defined : List ℕ → Message
already_defined x = record { text = codes "Name \"" ++ x ++ codes "\" already defined"; code = codes "no-redef" }

-- an assignment to an item of what is no list and no dict
unfoldable pub index_target : List ClassEntry → Sort → Message
index_target classes s = record { text = codes "Unsupported target for indexed assignment (\"" ++ type_text classes s ++ codes "\")"; code = codes "index" }

-- a value that is no tuple of as many items as there are targets
unfoldable pub cannot_unpack : List ClassEntry → Sort → ℕ → Message
cannot_unpack classes s n = record { text = codes "Cannot unpack \"" ++ type_text classes s ++ codes "\" into " ++ decimal n ++ codes " targets"; code = codes "misc" }

-- a first assignment that gives `None`
unfoldable pub needs_annotation : List ℕ → Message
needs_annotation x = record { text = codes "Need type annotation for \"" ++ x ++ codes "\""; code = codes "var-annotated" }

-- a value that does not fit its target
unfoldable pub wrong_assignment : List ClassEntry → Sort → Sort → Message
wrong_assignment classes s t = record { text = codes "Incompatible types in assignment (expression has type \"" ++ type_text classes s ++ codes "\", variable has type \"" ++ type_text classes t ++ codes "\")"; code = codes "assignment" }

-- a deletion of what is no entry of a dict
unfoldable pub only_entries : Message
only_entries = record { text = codes "Only dict entries can be deleted"; code = codes "profile" }

-- a loop over what is no range, list or dict
unfoldable pub not_iterable : List ClassEntry → Sort → Message
not_iterable classes s = record { text = codes "\"" ++ type_text classes s ++ codes "\" is not iterable in this profile"; code = codes "misc" }

-- a handler for what is no exception class and no tuple of these
unfoldable pub no_exception_class : Message
no_exception_class = record { text = codes "Exception type must be a known exception class"; code = codes "misc" }

-- a bare handler before another one
unfoldable pub bare_except : Message
bare_except = record { text = codes "Bare except must be last"; code = codes "misc" }

-- a `raise` of what is no exception
unfoldable pub no_exception : Message
no_exception = record { text = codes "Exception must be a known exception"; code = codes "misc" }

-- a bare `raise` in no handler
unfoldable pub raise_outside : Message
raise_outside = record { text = codes "\"raise\" outside an except clause"; code = codes "misc" }

-- a `return` in no function
unfoldable pub return_outside : Message
return_outside = record { text = codes "\"return\" outside function"; code = codes "misc" }

-- a `return` without a value where one is due
unfoldable pub return_expected : Message
return_expected = record { text = codes "Return value expected"; code = codes "return-value" }

-- a `return` of a value where none is due
unfoldable pub no_return_expected : Message
no_return_expected = record { text = codes "No return value expected"; code = codes "return-value" }

-- a returned value that does not fit the return type
unfoldable pub wrong_return : List ClassEntry → Sort → Sort → Message
wrong_return classes s t = record { text = codes "Incompatible return value type (got \"" ++ type_text classes s ++ codes "\", expected \"" ++ type_text classes t ++ codes "\")"; code = codes "return-value" }

-- a `break` or `continue` in no loop
unfoldable pub outside_loop : List ℕ → Message
outside_loop word = record { text = codes "\"" ++ word ++ codes "\" outside loop"; code = codes "misc" }

-- a name listed as global that is a parameter, or seen before in its function
unfoldable pub invalid_global : List ℕ → Message
invalid_global x = record { text = codes "Invalid global declaration of \"" ++ x ++ codes "\""; code = codes "misc" }

-- an import of another form than those that are known, or in a function
unfoldable pub outside_import : Message
outside_import = record { text = codes "Import is outside the profile"; code = codes "import" }

-- ---- functions and classes

-- a definition with a decorator, a name or an annotation that it may not have
unfoldable pub outside_profile : List ℕ → Message
outside_profile f = record { text = codes "\"" ++ f ++ codes "\" is outside the profile"; code = codes "profile" }

-- a method without parameters
unfoldable pub self_missing : List ℕ → Message
self_missing f = record { text = codes "Self argument missing for \"" ++ f ++ codes "\""; code = codes "misc" }

-- a second parameter of one name
unfoldable pub duplicate_parameter : List ℕ → Message
duplicate_parameter x = record { text = codes "Duplicate parameter \"" ++ x ++ codes "\""; code = codes "misc" }

-- a parameter or a return without annotation, or `__init__` with another than `None`
unfoldable pub missing_annotation : Message
missing_annotation = record { text = codes "Function is missing a type annotation"; code = codes "no-untyped-def" }

-- a function with more than 100 names of its own
unfoldable pub too_many_names : List ℕ → Message
too_many_names f = record { text = codes "Too many names in \"" ++ f ++ codes "\""; code = codes "profile" }

-- a body whose end can be reached where a value is due
unfoldable pub missing_return : Message
missing_return = record { text = codes "Missing return statement"; code = codes "return" }

-- a base that is no earlier class, or stands twice
unfoldable pub invalid_base : Message
invalid_base = record { text = codes "Invalid base class"; code = codes "misc" }

-- bases that break a rule on traits
unfoldable pub invalid_bases : List ℕ → Message
invalid_bases c = record { text = codes "Invalid bases for \"" ++ c ++ codes "\""; code = codes "misc" }

-- a class without a method resolution order
unfoldable pub no_order : List ℕ → Message
no_order c = record { text = codes "Cannot determine consistent method resolution order (MRO) for \"" ++ c ++ codes "\""; code = codes "misc" }

-- a member with another signature or type than in a class above
unfoldable pub wrong_override : List ℕ → List ℕ → Message
wrong_override m b = record { text = codes "Signature of \"" ++ m ++ codes "\" incompatible with supertype \"" ++ b ++ codes "\""; code = codes "override" }

-- a statement in the body of a class that has no place there
unfoldable pub outside_class_body : Message
outside_class_body = record { text = codes "Statement is outside the profile in a class body"; code = codes "profile" }
