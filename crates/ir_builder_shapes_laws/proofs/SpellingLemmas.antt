-- How names are spelled: a variable's is one behind `r_`, a temporary one has digits, and an identifier has no dot.
use Rattle.ir_builder_shapes_laws.proofs.Common.{◌≡◌, refl, sym, ◌∙◌, ap, ℕ, suc, ◌<◌, ◌≤◌, arith, Bool, true, false, cond, List, [], ◌∷◌, ◌++◌, length, get_or, inl, inr, ◌&&◌, not, codes, nat_lt, ◌==◌, decimal, list_all, list_any, before_first, after_first, bytes_eq, chars, is_utf8, IsUtf8, NonePass, NoCharPasses, and_from, and_parts, or_from, not-true, cases_lt, true≢false, ltb-true, eqb-true, Primitive, row_of, is_identifier, is_call_name, other_words, is_dot, method_id, function_id, variable_id, temporary_name}
use Rattle.std.proofs.lemmas.Bool.Decides.{nat_tests}
use Rattle.std.proofs.lemmas.Str.{is_utf8-from_IsUtf8, IsUtf8-from_is_utf8, IsUtf8-append, IsUtf8-from_ascii, chars-append, chars-IsAscii, encodes-chars, NoCharPasses-byte}
use Rattle.unicode_ident.specs.Ident.{is_xid_continue}
use Rattle.unicode_ident.proofs.Computing.{unicode_ident}
use Rattle.c_core.specs.declared.primitive.Primitive.TheVariants as prim
use Rattle.c_core.specs.declared.primitive.Int64Prim.TheVariants as int64
use Rattle.c_core.specs.declared.primitive.BoolPrim.TheVariants as bool
use Rattle.c_core.specs.declared.primitive.ObjectPrim.TheVariants as object
use Rattle.c_core.specs.declared.primitive.StrPrim.TheVariants as str
use Rattle.c_core.specs.declared.primitive.ListPrim.TheVariants as list
use Rattle.c_core.specs.declared.primitive.DictPrim.TheVariants as dict
use Rattle.c_core.specs.declared.primitive.TuplePrim.TheVariants as tuple
use Rattle.c_core.specs.declared.primitive.InstancePrim.TheVariants as instance
use Rattle.c_core.specs.declared.primitive.AttrPrim.TheVariants as attr
use Rattle.c_core.specs.declared.primitive.TaggedPrim.TheVariants as tagged
use Rattle.c_core.specs.declared.primitive.GlobalPrim.TheVariants as global
use Rattle.c_core.specs.declared.primitive.ExcPrim.TheVariants as exc
use Rattle.c_core.specs.declared.primitive.ErrPrim.TheVariants as err
use Rattle.c_core.specs.declared.primitive.IoPrim.TheVariants as io
use Rattle.ir_core.proofs.SpellingLemmas.{ArePlain, plain_ascii, plain_goes_on, plain_identifier, r_plain, line_plain, decimal_plain}

all_append : (xs ys : List ℕ) → list_all is_xid_continue xs ≡ true → list_all is_xid_continue ys ≡ true → list_all is_xid_continue (xs ++ ys) ≡ true
all_append [] ys h k = k
all_append (x ∷ xs) ys h k =
    let parts = and_parts (is_xid_continue x) (list_all is_xid_continue xs) h in
    and_from (is_xid_continue x) (list_all is_xid_continue (xs ++ ys)) parts.0 (all_append xs ys parts.1 k)

-- ---- identifiers

pub record Identifier (name : List ℕ) : Type 0 where
  pub utf8 : IsUtf8 name
  pub some : bytes_eq name [] ≡ false
  pub continues : list_all is_xid_continue (chars name) ≡ true

pub identifier_parts : (name : List ℕ) → is_identifier name ≡ true → Identifier name
identifier_parts name is =
    let parts = and_parts (is_utf8 name) (not (bytes_eq name []) && list_all is_xid_continue (chars name)) is in
    let more = and_parts (not (bytes_eq name [])) (list_all is_xid_continue (chars name)) parts.1 in
    record { utf8 = IsUtf8-from_is_utf8 name parts.0; some = not-true (bytes_eq name []) more.0; continues = more.1 }

pub is_made : (name : List ℕ) → IsUtf8 name → bytes_eq name [] ≡ false → list_all is_xid_continue (chars name) ≡ true → is_identifier name ≡ true
is_made name u some all =
    and_from (is_utf8 name) (not (bytes_eq name []) && list_all is_xid_continue (chars name)) (is_utf8-from_IsUtf8 name u)
    (and_from (not (bytes_eq name [])) (list_all is_xid_continue (chars name)) (ap not some) all)

-- an identifier behind plain characters is one
pub behind_plain : (b : ℕ) (bs name : List ℕ) → ArePlain (b ∷ bs) → is_identifier name ≡ true → is_identifier ((b ∷ bs) ++ name) ≡ true
behind_plain b bs name plain is =
    let i = identifier_parts name is in
    let front : IsUtf8 (b ∷ bs) = IsUtf8-from_ascii (b ∷ bs) (plain_ascii (b ∷ bs) plain) in
    let same : chars ((b ∷ bs) ++ name) ≡ (b ∷ bs) ++ chars name =
    chars-append (b ∷ bs) name front ∙ ap (λ cs. cs ++ chars name) (chars-IsAscii (b ∷ bs) (plain_ascii (b ∷ bs) plain)) in
    is_made ((b ∷ bs) ++ name) (IsUtf8-append (b ∷ bs) name front i.utf8) refl
    (ap (list_all is_xid_continue) same ∙ all_append (b ∷ bs) (chars name) (plain_goes_on (b ∷ bs) plain) i.continues)

-- ---- variables

pub variable_identifier : (name : List ℕ) → is_identifier name ≡ true → is_identifier (variable_id name) ≡ true
variable_identifier name is = behind_plain 114 (95 ∷ []) name (r_plain, (line_plain, tt)) is

pub temporary_identifier : (k : ℕ) → is_identifier (temporary_name k) ≡ true
temporary_identifier k = plain_identifier 114 (decimal k) (r_plain, decimal_plain k)

-- ---- functions

dot_stops : is_xid_continue 46 ≡ false
unfolding unicode_ident
dot_stops = refl

no_dot : (c : ℕ) → is_xid_continue c ≡ true → is_dot c ≡ false
no_dot c e = by (c == 46) refl
  where
    by : (b : Bool) → (c == 46) ≡ b → (c == 46) ≡ false
    by false f = f
    by true f =
        let same : c ≡ 46 = eqb-true c 46 f in
        let g : true ≡ false = sym e ∙ (ap is_xid_continue same ∙ dot_stops) in
        absurd (true≢false g)

none_pass : (cs : List ℕ) → list_all is_xid_continue cs ≡ true → NonePass is_dot cs
none_pass [] h = tt
none_pass (c ∷ cs) h =
    let parts = and_parts (is_xid_continue c) (list_all is_xid_continue cs) h in
    (no_dot c parts.0, none_pass cs parts.1)

none_at : (bs : List ℕ) → ((i : ℕ) → i < length bs → is_dot (get_or bs i 0) ≡ false) → list_any is_dot bs ≡ false
none_at [] h = refl
none_at (b ∷ bs) h = or_from (is_dot b) (list_any is_dot bs) (h 0 (omega arith)) (none_at bs (λ i lt. h (suc i) (omega arith)))

high_no_dot : (b : ℕ) → 128 ≤ b → is_dot b ≡ false
high_no_dot b le = grind (arith, nat_tests)

pub no_dots : (name : List ℕ) → is_identifier name ≡ true → list_any is_dot name ≡ false
no_dots name is =
    let i = identifier_parts name is in
    let none : NoCharPasses is_dot name = (chars name, encodes-chars name i.utf8, none_pass (chars name) i.continues) in
    none_at name (λ k lt. elim (cases_lt (get_or name k 0) 128) [
      | inl small ↦ NoCharPasses-byte is_dot name k none lt small
      | inr high ↦ high_no_dot (get_or name k 0) high
    ])

-- a function that has an identifier for its name is called by it
pub function_called_as : (name : List ℕ) → is_identifier name ≡ true → function_id name ≡ name
function_called_as name is =
    ap (λ b. cond b (method_id (before_first is_dot name) (after_first is_dot name)) name) (no_dots name is)

def_plain : ArePlain (codes "Def_")
unfolding unicode_ident
def_plain = ((omega arith, refl), ((omega arith, refl), ((omega arith, refl), ((omega arith, refl), tt))))

pub call_spelled : (name : List ℕ) → is_identifier name ≡ true → is_call_name (codes "CPyDef_" ++ name) ≡ true
call_spelled name is =
    and_from (is_identifier (codes "Def_" ++ name)) true (behind_plain 68 (101 ∷ 102 ∷ 95 ∷ []) name def_plain is) refl

-- ---- primitives

is_plain : ℕ → Bool
is_plain b = nat_lt b 128 && is_xid_continue b

plain_from : (bs : List ℕ) → list_all is_plain bs ≡ true → ArePlain bs
unfolding is_plain
plain_from [] h = tt
plain_from (b ∷ bs) h =
    let parts = and_parts (is_plain b) (list_all is_plain bs) h in
    let here = and_parts (nat_lt b 128) (is_xid_continue b) parts.0 in
    ((ltb-true b 128 here.0, here.1), plain_from bs parts.1)

word_spelled : (b : ℕ) (bs : List ℕ) → list_all is_plain (b ∷ bs) ≡ true → not (list_any (bytes_eq (codes "CPy" ++ (b ∷ bs))) other_words) ≡ true → is_call_name (codes "CPy" ++ (b ∷ bs)) ≡ true
word_spelled b bs plain other =
    and_from (is_identifier (b ∷ bs)) (not (list_any (bytes_eq (codes "CPy" ++ (b ∷ bs))) other_words)) (plain_identifier b bs (plain_from (b ∷ bs) plain)) other

pub primitive_spelled : (q : Primitive) → is_call_name (row_of q).name ≡ true
unfolding unicode_ident is_plain
primitive_spelled (prim.Int64 int64.Add) = word_spelled 73 _ refl refl
primitive_spelled (prim.Int64 q) = word_spelled 73 _ refl refl
primitive_spelled (prim.Bool bool.Not) = word_spelled 66 _ refl refl
primitive_spelled (prim.Bool q) = word_spelled 66 _ refl refl
primitive_spelled (prim.Str str.Literal) = word_spelled 83 _ refl refl
primitive_spelled (prim.Str q) = word_spelled 83 _ refl refl
primitive_spelled (prim.Global global.Get) = word_spelled 71 _ refl refl
primitive_spelled (prim.Global q) = word_spelled 71 _ refl refl
primitive_spelled (prim.Exc exc.New) = word_spelled 69 _ refl refl
primitive_spelled (prim.Exc q) = word_spelled 69 _ refl refl
primitive_spelled (prim.Err err.SetObject) = word_spelled 69 _ refl refl
primitive_spelled (prim.Err q) = word_spelled 69 _ refl refl
primitive_spelled (prim.Io io.Write) = word_spelled 95 _ refl refl
primitive_spelled (prim.Io q) = word_spelled 95 _ refl refl
primitive_spelled (prim.Tagged tagged.Add) = word_spelled 84 _ refl refl
primitive_spelled (prim.Tagged q) = word_spelled 84 _ refl refl
primitive_spelled (prim.Object object.IsNone) = word_spelled 79 _ refl refl
primitive_spelled (prim.List list.New) = word_spelled 76 _ refl refl
primitive_spelled (prim.List q) = word_spelled 76 _ refl refl
primitive_spelled (prim.Dict dict.New) = word_spelled 68 _ refl refl
primitive_spelled (prim.Dict q) = word_spelled 68 _ refl refl
primitive_spelled (prim.Tuple tuple.Pack) = word_spelled 84 _ refl refl
primitive_spelled (prim.Tuple q) = word_spelled 84 _ refl refl
primitive_spelled (prim.Instance instance.New) = word_spelled 73 _ refl refl
primitive_spelled (prim.Attr attr.Get) = word_spelled 65 _ refl refl
primitive_spelled (prim.Attr q) = word_spelled 65 _ refl refl
