-- The heads of functions: parameters one after another, and that no head has the text of another one.
use Rattle.std.proofs.Common.{◌≡◌, ◌≢◌, ◌∙◌, ℕ, suc, zero, true, List, [], ◌∷◌, ◌++◌, take, drop, IsTrue, refl, sym, ap, arith, append_assoc, append-nil}
use Rattle.std.specs.Prelude.{◌&&◌, codes, map}
use Rattle.std.specs.List.{list_all}
use Rattle.std.proofs.lemmas.List.{append_cancel_left, append_cancel_right}
use Rattle.c_core.specs.declared.code.CFunc.{CFunc}
use Rattle.c_core.specs.declared.code.Kind.{Kind}
use Rattle.c_core.specs.declared.code.Kind.TheVariants.{Tagged, Int64, Char, Object}
use Rattle.c_core.specs.Text.{comma, declaration_text, function_head, global_line, joined, kind_text, parameters_text}
use Rattle.c_core.specs.WellFormed.{Declared, is_identifier}
use Rattle.c_text.specs.Heads.{listed}
use Rattle.c_text.specs.Words.{EndsArgument, HasNo, IsCut}
use Rattle.c_text.specs.Statements.{AreNamed}
use Rattle.c_text.proofs.Bytes.{HasNo-append, HasNo-identifier, and_true, bracket_stops, comma_stops, differ, line_feed_stops, not_in, same_front}
use Rattle.c_text.proofs.LineTexts.{same_kind_front}

-- ---- one parameter

kind_has_no : (k : Kind) → HasNo 44 (kind_text k) × HasNo 40 (kind_text k) × HasNo 10 (kind_text k)
kind_has_no Tagged = (refl, refl, refl)
kind_has_no Int64 = (refl, refl, refl)
kind_has_no Char = (refl, refl, refl)
kind_has_no Object = (refl, refl, refl)

pub HasNo-parameter : (v : Declared) → IsTrue (is_identifier v.0) → HasNo 44 (declaration_text v)
HasNo-parameter v h =
    HasNo-append 44 (kind_text v.1) (codes "cpy_" ++ v.0) (kind_has_no v.1).0 (HasNo-append 44 (codes "cpy_") v.0 refl (HasNo-identifier 44 v.0 (omega arith) comma_stops h))

parameter_plain : (v : Declared) → IsTrue (is_identifier v.0) → HasNo 10 (declaration_text v)
parameter_plain v h =
    HasNo-append 10 (kind_text v.1) (codes "cpy_" ++ v.0) (kind_has_no v.1).2 (HasNo-append 10 (codes "cpy_") v.0 refl (HasNo-identifier 10 v.0 (omega arith) line_feed_stops h))

same_parameter : (v w : Declared) → declaration_text v ≡ declaration_text w → v ≡ w
same_parameter v w e =
    let p = same_kind_front v.1 w.1 (codes "cpy_" ++ v.0) (codes "cpy_" ++ w.0) e in
    ap (λ m. (m, v.1)) (append_cancel_left (codes "cpy_") v.0 w.0 p.1) ∙ ap (λ k. (w.0, k)) p.0

-- ---- parameters

abbrev pub all_text : List Declared → List ℕ
all_text vars = joined comma (map declaration_text vars)

-- the first parameter, and what stands behind it
pub record First (v : Declared) (others : List Declared) : Type 0 where
  pub behind : List ℕ
  pub ends : EndsArgument behind
  pub text : all_text (v ∷ others) ≡ declaration_text v ++ behind

pub first_of : (v : Declared) (others : List Declared) → First v others
first_of v [] = record { behind = []; ends = tt; text = sym (append-nil (declaration_text v)) }
first_of v (w ∷ others) = record { behind = comma ++ all_text (w ∷ others); ends = refl; text = refl }

-- behind the parameters that were read there is one more at least
pub record Remaining (rest : List ℕ) : Type 0 where
  pub first : Declared
  pub others : List Declared
  pub named : AreNamed (first ∷ others)
  pub text : all_text (first ∷ others) ≡ rest

pub remaining : (read : List Declared) (v : Declared) (vars : List Declared) (rest : List ℕ) → AreNamed read → AreNamed (v ∷ vars) → all_text (v ∷ vars) ≡ listed read ++ rest → Remaining rest
remaining [] v vars rest n m e = record { first = v; others = vars; named = m; text = e }
remaining (r ∷ read) v [] rest n m e =
    absurd (not_in 44 (declaration_text v) (declaration_text r) (32 ∷ (listed read ++ rest)) (HasNo-parameter v (and_true (is_identifier v.0) _ m).0) (e ∙ append_assoc (declaration_text r ++ comma) (listed read) rest ∙ append_assoc (declaration_text r) comma (listed read ++ rest)))
remaining (r ∷ read) v (w ∷ vars) rest n m e =
    let own = and_true (is_identifier v.0) _ m in
    let other = and_true (is_identifier r.0) _ n in
    let s = same_front 44 (declaration_text v) (declaration_text r) (32 ∷ all_text (w ∷ vars)) (32 ∷ (listed read ++ rest)) (HasNo-parameter v own.0) (HasNo-parameter r other.0) (e ∙ append_assoc (declaration_text r ++ comma) (listed read) rest ∙ append_assoc (declaration_text r) comma (listed read ++ rest)) in
    remaining read w vars rest other.1 own.1 (append_cancel_left (32 ∷ []) (all_text (w ∷ vars)) (listed read ++ rest) s.1)

parameters_push : (read : List Declared) (v : Declared) → parameters_text (read ++ v ∷ []) ≡ listed read ++ declaration_text v
parameters_push [] v = refl
parameters_push (r ∷ []) v = sym (append_assoc (declaration_text r) comma (declaration_text v)) ∙ ap (λ t. t ++ declaration_text v) (sym (append-nil (declaration_text r ++ comma)))
parameters_push (r ∷ q ∷ read) v =
    ap (λ t. declaration_text r ++ (comma ++ t)) (parameters_push (q ∷ read) v) ∙ sym (append_assoc (declaration_text r) comma (listed (q ∷ read) ++ declaration_text v))
    ∙ sym (append_assoc (declaration_text r ++ comma) (listed (q ∷ read)) (declaration_text v))

pub named_push : (vars : List Declared) (v : Declared) → AreNamed vars → IsTrue (is_identifier v.0) → AreNamed (vars ++ v ∷ [])
named_push [] v h k = ap (λ b. b && true) k
named_push (w ∷ vars) v h k =
    let parts = and_true (is_identifier w.0) _ h in
    ap (λ b. b && list_all (λ v. is_identifier v.0) (vars ++ v ∷ [])) parts.0 ∙ named_push vars v parts.1 k

-- the steps of reading parameters
pub no_parameter : (read : List Declared) (text word after rest : List ℕ) → AreNamed read → text ≡ listed read ++ rest → ((front behind : List ℕ) → HasNo 44 front → EndsArgument behind → front ++ behind ≡ rest → (word ≡ front) × (after ≡ behind)) → ((v : Declared) → IsTrue (is_identifier v.0) → declaration_text v ≢ word) → (v : Declared) (others : List Declared) → AreNamed (v ∷ others) → all_text (v ∷ others) ≢ text
no_parameter read text word after rest n whole finds none v others m e =
    let r = remaining read v others rest n m (e ∙ whole) in
    let f = first_of r.first r.others in
    let own = (and_true (is_identifier r.first.0) _ r.named).0 in
    none r.first own (sym (finds (declaration_text r.first) f.behind (HasNo-parameter r.first own) f.ends (sym f.text ∙ r.text)).0)

pub no_comma_behind : (read : List Declared) (text word after rest : List ℕ) → AreNamed read → text ≡ listed read ++ rest → ((front behind : List ℕ) → HasNo 44 front → EndsArgument behind → front ++ behind ≡ rest → (word ≡ front) × (after ≡ behind)) → after ≢ [] → ((next : List ℕ) → after ≢ codes ", " ++ next) → (v : Declared) (others : List Declared) → AreNamed (v ∷ others) → all_text (v ∷ others) ≢ text
no_comma_behind read text word after rest n whole finds more none v others m e =
    let r = remaining read v others rest n m (e ∙ whole) in
    let own = (and_true (is_identifier r.first.0) _ r.named).0 in
    split r.first r.others own r.text
  where
    split : (w : Declared) (ws : List Declared) → IsTrue (is_identifier w.0) → all_text (w ∷ ws) ≡ rest → ⊥
    split w [] own t = more (finds (declaration_text w) [] (HasNo-parameter w own) tt (append-nil (declaration_text w) ∙ t)).1
    split w (x ∷ ws) own t = none (all_text (x ∷ ws)) (finds (declaration_text w) (comma ++ all_text (x ∷ ws)) (HasNo-parameter w own) refl t).1

pub parameters_end : (read new : List Declared) (v : Declared) (text word after rest : List ℕ) → text ≡ listed read ++ rest → word ++ after ≡ rest → declaration_text v ≡ word → after ≡ [] → new ≡ read ++ v ∷ [] → parameters_text new ≡ text
parameters_end read new v text word after rest whole parts is none pushed =
    ap parameters_text pushed ∙ parameters_push read v ∙ ap (λ t. listed read ++ t) (is ∙ sym (append-nil word) ∙ ap (λ t. word ++ t) (sym none) ∙ parts) ∙ sym whole

-- no parameters are written as others
void_is_none : (k : Kind) (rest : List ℕ) → codes "void" ≢ kind_text k ++ rest
void_is_none Tagged rest e = differ e refl
void_is_none Int64 rest e = differ e refl
void_is_none Char rest e = differ e refl
void_is_none Object rest e = differ e refl

same_all : (v w : Declared) (vs ws : List Declared) → AreNamed (v ∷ vs) → AreNamed (w ∷ ws) → all_text (v ∷ vs) ≡ all_text (w ∷ ws) → v ∷ vs ≡ w ∷ ws
same_all v w [] [] n m e = ap (λ x. x ∷ []) (same_parameter v w e)
same_all v w [] (x ∷ ws) n m e =
    absurd (not_in 44 (declaration_text v) (declaration_text w) (32 ∷ all_text (x ∷ ws)) (HasNo-parameter v (and_true (is_identifier v.0) _ n).0) e)
same_all v w (x ∷ vs) [] n m e =
    absurd (not_in 44 (declaration_text w) (declaration_text v) (32 ∷ all_text (x ∷ vs)) (HasNo-parameter w (and_true (is_identifier w.0) _ m).0) (sym e))
same_all v w (x ∷ vs) (y ∷ ws) n m e =
    let own = and_true (is_identifier v.0) _ n in
    let other = and_true (is_identifier w.0) _ m in
    let s = same_front 44 (declaration_text v) (declaration_text w) (32 ∷ all_text (x ∷ vs)) (32 ∷ all_text (y ∷ ws)) (HasNo-parameter v own.0) (HasNo-parameter w other.0) e in
    ap (λ z. z ∷ x ∷ vs) (same_parameter v w s.0) ∙ ap (λ zs. w ∷ zs) (same_all x y vs ws own.1 other.1 (append_cancel_left (32 ∷ []) (all_text (x ∷ vs)) (all_text (y ∷ ws)) s.1))

pub same_parameters : (vs ws : List Declared) → AreNamed vs → AreNamed ws → parameters_text vs ≡ parameters_text ws → vs ≡ ws
same_parameters [] [] n m e = refl
same_parameters [] (w ∷ ws) n m e = absurd (void_is_none w.1 ((codes "cpy_" ++ w.0) ++ (first_of w ws).behind) (e ∙ (first_of w ws).text ∙ append_assoc (kind_text w.1) (codes "cpy_" ++ w.0) (first_of w ws).behind))
same_parameters (v ∷ vs) [] n m e = absurd (void_is_none v.1 ((codes "cpy_" ++ v.0) ++ (first_of v vs).behind) (sym e ∙ (first_of v vs).text ∙ append_assoc (kind_text v.1) (codes "cpy_" ++ v.0) (first_of v vs).behind))
same_parameters (v ∷ vs) (w ∷ ws) n m e = same_all v w vs ws n m e

-- ---- heads

pub named_take : (n : ℕ) (vars : List Declared) → AreNamed vars → AreNamed (take n vars)
named_take zero vars h = refl
named_take (suc n) [] h = refl
named_take (suc n) (v ∷ vars) h =
    let parts = and_true (is_identifier v.0) _ h in
    ap (λ b. b && list_all (λ v. is_identifier v.0) (take n vars)) parts.0 ∙ named_take n vars parts.1

pub named_drop : (n : ℕ) (vars : List Declared) → AreNamed vars → AreNamed (drop n vars)
named_drop zero vars h = h
named_drop (suc n) [] h = refl
named_drop (suc n) (v ∷ vars) h = named_drop n vars (and_true (is_identifier v.0) _ h).1

-- what stands before the bracket of a head, and behind it
abbrev pub head_front : CFunc → List ℕ
head_front g = kind_text g.ret ++ (codes "CPyDef_" ++ g.name)

abbrev pub head_behind : CFunc → List ℕ
head_behind g = parameters_text (take g.params g.vars) ++ codes ") {"

pub head_parts : (g : CFunc) → function_head g ≡ head_front g ++ 40 ∷ head_behind g
head_parts g =
    ap (λ t. kind_text g.ret ++ t) (sym (append_assoc (codes "CPyDef_") g.name (40 ∷ head_behind g))) ∙ sym (append_assoc (kind_text g.ret) (codes "CPyDef_" ++ g.name) (40 ∷ head_behind g))

pub HasNo-front : (g : CFunc) → IsTrue (is_identifier g.name) → HasNo 40 (head_front g)
HasNo-front g h =
    HasNo-append 40 (kind_text g.ret) (codes "CPyDef_" ++ g.name) (kind_has_no g.ret).1 (HasNo-append 40 (codes "CPyDef_") g.name refl (HasNo-identifier 40 g.name (omega arith) bracket_stops h))

pub cut_head : (g : CFunc) (piece front rest : List ℕ) → IsTrue (is_identifier g.name) → IsCut 40 front rest piece → function_head g ≡ piece → (head_front g ≡ front) × (head_behind g ≡ rest)
cut_head g piece front rest h cut e =
    same_front 40 (head_front g) front (head_behind g) rest (HasNo-front g h) cut.plain (sym (head_parts g) ∙ e ∙ sym cut.whole)

pub same_head : (f g : CFunc) → IsTrue (is_identifier f.name) → IsTrue (is_identifier g.name) → AreNamed (take f.params f.vars) → AreNamed (take g.params g.vars) → function_head f ≡ function_head g → (f.ret ≡ g.ret) × (f.name ≡ g.name) × (take f.params f.vars ≡ take g.params g.vars)
same_head f g h k n m e =
    let s = same_front 40 (head_front f) (head_front g) (head_behind f) (head_behind g) (HasNo-front f h) (HasNo-front g k) (sym (head_parts f) ∙ e ∙ head_parts g) in
    let p = same_kind_front f.ret g.ret (codes "CPyDef_" ++ f.name) (codes "CPyDef_" ++ g.name) s.0 in
    (p.0, append_cancel_left (codes "CPyDef_") f.name g.name p.1, same_parameters (take f.params f.vars) (take g.params g.vars) n m (append_cancel_right (parameters_text (take f.params f.vars)) (parameters_text (take g.params g.vars)) (codes ") {") s.1))

-- no line feed in a head
parameters_plain : (v : Declared) (vars : List Declared) → AreNamed (v ∷ vars) → HasNo 10 (all_text (v ∷ vars))
parameters_plain v [] n = parameter_plain v (and_true (is_identifier v.0) _ n).0
parameters_plain v (w ∷ vars) n =
    let parts = and_true (is_identifier v.0) _ n in
    HasNo-append 10 (declaration_text v) (comma ++ all_text (w ∷ vars)) (parameter_plain v parts.0) (HasNo-append 10 comma (all_text (w ∷ vars)) refl (parameters_plain w vars parts.1))

all_plain : (vars : List Declared) → AreNamed vars → HasNo 10 (parameters_text vars)
all_plain [] n = refl
all_plain (v ∷ vars) n = parameters_plain v vars n

pub head_plain : (g : CFunc) → IsTrue (is_identifier g.name) → AreNamed (take g.params g.vars) → HasNo 10 (function_head g)
head_plain g h n =
    HasNo-append 10 (kind_text g.ret) (codes "CPyDef_" ++ (g.name ++ (codes "(" ++ head_behind g))) (kind_has_no g.ret).2
    (HasNo-append 10 (codes "CPyDef_") (g.name ++ (codes "(" ++ head_behind g)) refl (HasNo-append 10 g.name (codes "(" ++ head_behind g) (HasNo-identifier 10 g.name (omega arith) line_feed_stops h)
    (HasNo-append 10 (codes "(") (head_behind g) refl (HasNo-append 10 (parameters_text (take g.params g.vars)) (codes ") {") (all_plain (take g.params g.vars) n) refl))))

pub global_plain : (v : Declared) → IsTrue (is_identifier v.0) → HasNo 10 (global_line v)
global_plain v h =
    HasNo-append 10 (kind_text v.1) (codes "CPyStatic_" ++ (v.0 ++ codes ";")) (kind_has_no v.1).2 (HasNo-append 10 (codes "CPyStatic_") (v.0 ++ codes ";") refl (HasNo-append 10 v.0 (codes ";") (HasNo-identifier 10 v.0 (omega arith) line_feed_stops h) refl))
