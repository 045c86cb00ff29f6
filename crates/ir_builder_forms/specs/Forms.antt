-- What the forms are called that are not compiled yet: in the words of the profile, and a form that hangs on the type of something
-- with the kind of the type behind them.
use Rattle.std.specs.Prelude.{ℕ, List, [], ◌++◌, Option, Some, None, codes}
use Rattle.ir_builder_forms.specs.declared.form.Form.{Form}
use Rattle.ir_builder_forms.specs.declared.form.Form.TheVariants as form
use Rattle.ir_builder_forms.specs.declared.form.TypeKind.{TypeKind}
use Rattle.ir_builder_forms.specs.declared.form.TypeKind.TheVariants as kind

-- the types of a kind
abbrev pub kind_name : TypeKind → List ℕ
kind_name kind.Int = codes "int"
kind_name kind.I64 = codes "i64"
kind_name kind.Bool = codes "bool"
kind_name kind.Str = codes "str"
kind_name kind.Nothing = codes "None"
kind_name kind.List = codes "list"
kind_name kind.Dict = codes "dict"
kind_name kind.Tuple = codes "tuple"
kind_name kind.Optional = codes "Optional"
kind_name kind.Class = codes "class"
kind_name kind.Exception = codes "exception"

-- the kind of type that a form hangs on
abbrev pub form_kind : Form → Option TypeKind
form_kind (form.Index k) = Some k
form_kind (form.Length k) = Some k
form_kind (form.Parameter k) = Some k
form_kind (form.Variable k) = Some k
form_kind (form.Returned k) = Some k
form_kind (form.Condition k) = Some k
form_kind (form.Value k) = Some k
form_kind _ = None

-- what a form is called, up to that kind
abbrev pub form_words : Form → List ℕ
form_words form.Class = codes "class"
form_words form.Del = codes "del"
form_words form.Try = codes "try"
form_words form.Raise = codes "raise"
form_words form.Assert = codes "assert"
form_words form.For = codes "for"
form_words form.NameSuper = codes "the name super"
form_words form.ExceptionClass = codes "exception class"
form_words form.DictDisplay = codes "dict display"
form_words form.ListDisplay = codes "list display"
form_words form.Tuple = codes "tuple"
form_words form.Member = codes "in"
form_words form.NotMember = codes "not in"
form_words form.IsNone = codes "is None"
form_words form.IsNotNone = codes "is not None"
form_words form.Attribute = codes "attribute"
form_words form.MethodCall = codes "method call"
form_words form.Append = codes "append"
form_words form.Pop = codes "pop"
form_words (form.Index k) = codes "index of a"
form_words (form.Length k) = codes "len of a"
form_words (form.Parameter k) = codes "parameter of type"
form_words (form.Variable k) = codes "variable of type"
form_words (form.Returned k) = codes "result of type"
form_words (form.Condition k) = codes "condition of type"
form_words (form.Value k) = codes "value of type"

abbrev pub kind_behind : Option TypeKind → List ℕ
kind_behind None = []
kind_behind (Some k) = codes " " ++ kind_name k

-- THE TEXT of a form
abbrev pub form_text : Form → List ℕ
form_text f = form_words f ++ kind_behind (form_kind f)
