-- Whole texts: a text has one list of lines, and its code is known by them.
use Rattle.std.proofs.Common.{◌≡◌, ◌≢◌, ◌∙◌, ℕ, ◌+◌, ◌-◌, ◌<◌, List, [], ◌∷◌, ◌++◌, length, take, drop, Some, IsTrue, arith, length-append, refl, sym, ap, append_assoc, append-nil, subst}
use Rattle.std.specs.Prelude.{◌==◌}
use Rattle.std.specs.List.{list_any, position_from}
use Rattle.std.specs.Cmp.Derive.{both_true}
use Rattle.std.proofs.lemmas.Bool.{false≢true}
use Rattle.c_core.specs.declared.code.CClass.{CClass}
use Rattle.c_core.specs.declared.code.CFunc.{CFunc}
use Rattle.c_core.specs.declared.code.Code.{Code}
use Rattle.c_core.specs.declared.code.Kind.TheVariants.{Char}
use Rattle.c_core.specs.declared.code.Line.{Line}
use Rattle.c_core.specs.Text.{code_lines, code_text, declaration_lines, first_line, function_end, function_lines, global_lines, lines_from, module_head, statement_lines, text_of}
use Rattle.c_core.specs.WellFormed.{Declared, Spelled, is_identifier, spelled_class, spelled_function, spelled_functions, spelled_line}
use Rattle.c_text.specs.declared.head.FunctionHead.{FunctionHead}
use Rattle.c_text.specs.declared.head.FunctionHead.TheVariants.{Module, Function}
use Rattle.c_text.specs.declared.part.Above.{Above}
use Rattle.c_text.specs.declared.part.Part.{Part}
use Rattle.c_text.specs.declared.part.Part.TheVariants.{Start, Between, Inside, Closed}
use Rattle.c_text.specs.declared.text_error.TextError.TheVariants.{Refused}
use Rattle.c_text.specs.Words.{HasNo, IsFirstLine}
use Rattle.c_text.specs.Classes.{AreClasses, class_lines}
use Rattle.c_text.specs.Heads.{function_of}
use Rattle.c_text.specs.Labels.{labels_after}
use Rattle.c_text.specs.Statements.{AreNamed}
use Rattle.c_text.specs.Parts.{AreSpelled, IsAbove, IsFine, above_lines, code_of, open_lines, other_lines, part_lines}
use Rattle.c_text.specs.Reading.{IsReading, HasCode, CanStand, at_line, at_end, SaysRefused}
use Rattle.c_text.proofs.Bytes.{and_true, behind_at, found_at, not_in, same_front}
use Rattle.c_text.proofs.ClassLines.{class_plain}
use Rattle.c_text.proofs.HeadLemmas.{global_plain, head_plain, named_drop, named_take}
use Rattle.c_text.proofs.LineTexts.{declaration_plain, line_plain, lines_step}
use Rattle.c_text.proofs.PartLemmas.{IsUnended, above_more, all_spelled, code_parts, functions_push, next_other, next_top, other_parts, top_parts, unended_is_no_text}
use Rattle.c_text.proofs.OneCode.{other_is}

-- ---- a text has one list of lines

-- no line has a line feed inside it
abbrev pub ArePlain : List (List ℕ) → Type 0
ArePlain [] = Unit {0}
ArePlain (line ∷ lines) = HasNo 10 line × ArePlain lines

pub text_append : (xs ys : List (List ℕ)) → text_of (xs ++ ys) ≡ text_of xs ++ text_of ys
text_append [] ys = refl
text_append (x ∷ xs) ys = ap (λ t. x ++ 10 ∷ t) (text_append xs ys) ∙ sym (append_assoc x (10 ∷ text_of xs) (text_of ys))

pub plain_front : (xs ys : List (List ℕ)) → ArePlain (xs ++ ys) → ArePlain xs
plain_front [] ys h = tt
plain_front (x ∷ xs) ys h = (h.0, plain_front xs ys h.1)

no_text : (line rest more : List ℕ) → [] ≡ (line ++ 10 ∷ rest) ++ more → ⊥
no_text [] rest more e = cc
no_text (b ∷ line) rest more e = cc

-- lines at the front of a text are the front of its lines
record LinesBehind (all front : List (List ℕ)) (rest : List ℕ) : Type 0 where
  more : List (List ℕ)
  lines : all ≡ front ++ more
  text : text_of more ≡ rest
  plain : ArePlain more

lines_behind : (all front : List (List ℕ)) (rest : List ℕ) → ArePlain all → ArePlain front → text_of all ≡ text_of front ++ rest → LinesBehind all front rest
lines_behind all [] rest a f e = record { more = all; lines = refl; text = e; plain = a }
lines_behind [] (u ∷ front) rest a f e = absurd (no_text u (text_of front) rest e)
lines_behind (t ∷ all) (u ∷ front) rest a f e =
    let s = same_front 10 t u (text_of all) (text_of front ++ rest) a.0 f.0 (e ∙ append_assoc u (10 ∷ text_of front) rest) in
    let r = lines_behind all front rest a.1 f.1 s.1 in
    record { more = r.more; lines = ap (λ x. x ∷ all) s.0 ∙ ap (λ xs. u ∷ xs) r.lines; text = r.text; plain = r.plain }

no_more : (more : List (List ℕ)) → HasNo 10 (text_of more) → more ≡ []
no_more [] h = refl
no_more (t ∷ more) h = absurd (not_in 10 (t ++ 10 ∷ text_of more) t (text_of more) h refl)

-- ---- the lines of a code

declarations_plain : (vars : List Declared) (more : List (List ℕ)) → AreNamed vars → ArePlain more → ArePlain (declaration_lines vars ++ more)
declarations_plain [] more n m = m
declarations_plain (v ∷ vars) more n m =
    let parts = and_true (is_identifier v.0) _ n in (declaration_plain v parts.0, declarations_plain vars more parts.1 m)

statements_plain : (vars : List Declared) (k : ℕ) (lines : List Line) (more : List (List ℕ)) → AreNamed vars → AreSpelled vars lines → ArePlain more → ArePlain (lines_from vars k lines ++ more)
statements_plain vars k [] more n h m = m
statements_plain vars k (l ∷ lines) more n h m =
    let parts = and_true (spelled_line vars l) _ h in
    subst ArePlain (ap (λ t. t ++ more) (sym (lines_step vars k l lines))) (line_plain vars k l n parts.0, statements_plain vars (labels_after k l) lines more n parts.1 m)

functions_plain : (fs : List CFunc) → IsTrue (spelled_functions fs) → ArePlain (function_lines fs)
functions_plain [] h = absurd (false≢true h)
functions_plain (t ∷ []) h =
    let p = top_parts t h in (refl, declarations_plain t.vars (statement_lines t.vars t.lines ++ (function_end ∷ [])) p.named (statements_plain t.vars 0 t.lines (function_end ∷ []) p.named p.spelled (refl, tt)))
functions_plain (f ∷ g ∷ fs) h =
    let q = and_true (spelled_function f) _ h in
    let p = other_parts f q.0 in (
      head_plain f p.name (named_take f.params f.vars p.named),
      declarations_plain (drop f.params f.vars) (statement_lines f.vars f.lines ++ (function_end ∷ function_lines (g ∷ fs))) (named_drop f.params f.vars p.named) (statements_plain f.vars 0 f.lines (function_end ∷ function_lines (g ∷ fs)) p.named p.spelled (refl, functions_plain (g ∷ fs) q.1)),
    )

globals_plain : (gs : List Declared) (more : List (List ℕ)) → AreNamed gs → ArePlain more → ArePlain (global_lines gs ++ more)
globals_plain [] more n m = m
globals_plain (g ∷ gs) more n m =
    let parts = and_true (is_identifier g.0) _ n in (global_plain g parts.0, globals_plain gs more parts.1 m)

classes_plain : (ks : List CClass) (more : List (List ℕ)) → AreClasses ks → ArePlain more → ArePlain (class_lines ks ++ more)
classes_plain [] more n m = m
classes_plain (k ∷ ks) more n m =
    let parts = and_true (spelled_class k) _ n in (class_plain k parts.0, classes_plain ks more parts.1 m)

code_plain : (code : Code) → Spelled code → ArePlain (code_lines code)
code_plain code h =
    let p = code_parts code h in
    (refl, globals_plain code.globals (class_lines code.classes ++ function_lines code.funcs) p.named (classes_plain code.classes (function_lines code.funcs) p.classes (functions_plain code.funcs p.functions)))

-- lines that can stand are plain
pub standing_plain : (front : List (List ℕ)) → CanStand front → ArePlain front
standing_plain front c = plain_front front c.rest (subst ArePlain c.lines (code_plain c.code c.spelled))

-- each part can be closed
record IsClosedBy (lines more : List (List ℕ)) : Type 0 where
  code : Code
  spelled : Spelled code
  same : code_lines code ≡ lines ++ more

top : CFunc
top = record { name = []; ret = Char; params = 0; vars = []; lines = [] }

closed_between : (a : Above) → IsAbove a → IsClosedBy (above_lines a) (module_head ∷ function_end ∷ [])
unfolding top
closed_between a fine = record {
  code = record { globals = a.globals; classes = a.classes; funcs = a.functions ++ top ∷ [] };
  spelled = both_true fine.named (both_true fine.classes (all_spelled a.functions top fine.functions refl));
  same = ap (λ t. first_line ∷ (global_lines a.globals ++ (class_lines a.classes ++ t))) (functions_push a.functions top) ∙ above_more a (module_head ∷ function_end ∷ []);
}

closed_by : (part : Part) → IsFine part → (more : List (List ℕ)) × IsClosedBy (part_lines part) more
closed_by Start fine =
    let a : Above = record { globals = []; classes = []; functions = [] } in
    let c = closed_between a (record { named = refl; classes = refl; functions = refl }) in
    (code_lines c.code, record { code = c.code; spelled = c.spelled; same = refl })
closed_by (Between a) fine = (module_head ∷ function_end ∷ [], closed_between a fine)
closed_by (Inside a o) fine = split o.head refl
  where
    split : (head : FunctionHead) → o.head ≡ head → (more : List (List ℕ)) × IsClosedBy (above_lines a ++ open_lines o) more
    split Module q =
        let n = next_top a o (a.functions ++ function_of Module o.vars o.lines ∷ []) fine.0 fine.1 q refl in (
          function_end ∷ [],
          record { code = code_of (record { globals = a.globals; classes = a.classes; functions = a.functions ++ function_of Module o.vars o.lines ∷ [] }); spelled = n.0; same = n.1 },
        )
    split (Function name ret params) q =
        let n = next_other a o (a.functions ++ function_of (Function name ret params) o.vars o.lines ∷ []) name ret params fine.0 fine.1 q refl in
        let c = closed_between (record { globals = a.globals; classes = a.classes; functions = a.functions ++ function_of (Function name ret params) o.vars o.lines ∷ [] }) n.0 in (
          function_end ∷ module_head ∷ function_end ∷ [],
          record { code = c.code; spelled = c.spelled; same = c.same ∙ ap (λ t. t ++ module_head ∷ function_end ∷ []) n.1 ∙ append_assoc (above_lines a ++ open_lines o) (function_end ∷ []) (module_head ∷ function_end ∷ []) },
        )
closed_by (Closed a) fine = ([], record { code = code_of a; spelled = fine; same = sym (append-nil (code_lines (code_of a))) })

can_stand : (part : Part) → IsFine part → CanStand (part_lines part)
can_stand part fine =
    let c = closed_by part fine in
    record { code = c.1.code; spelled = c.1.spelled; rest = c.0; lines = c.1.same }

-- ---- what reading says

plain_push : (lines : List (List ℕ)) (line : List ℕ) → ArePlain lines → HasNo 10 line → ArePlain (lines ++ line ∷ [])
plain_push [] line l h = (h, tt)
plain_push (u ∷ lines) line l h = (l.0, plain_push lines line l.1 h)

text_push : (lines : List (List ℕ)) (line rest : List ℕ) → text_of lines ++ (line ++ 10 ∷ rest) ≡ text_of (lines ++ line ∷ []) ++ rest
text_push lines line rest =
    ap (λ t. text_of lines ++ t) (sym (append_assoc line (10 ∷ []) rest)) ∙ sym (append_assoc (text_of lines) (line ++ 10 ∷ []) rest)
    ∙ ap (λ t. t ++ rest) (sym (text_append lines (line ∷ [])))

-- no code has a text that goes on with a line that cannot stand
stops_text : (lines : List (List ℕ)) (line rest : List ℕ) → ArePlain lines → HasNo 10 line → ¬ (CanStand (lines ++ line ∷ [])) → ¬ (HasCode (text_of lines ++ (line ++ 10 ∷ rest)))
stops_text lines line rest plain one stops h =
    let front = lines ++ line ∷ [] in
    let b = lines_behind (code_lines h.0) front rest (code_plain h.0 h.1) (plain_push lines line plain one) (h.2 ∙ text_push lines line rest) in
    stops (record { code = h.0; spelled = h.1; rest = b.more; lines = b.lines })

refused_line : (part : Part) (line rest : List ℕ) → IsFine part → HasNo 10 line → ¬ (CanStand (part_lines part ++ line ∷ [])) → SaysRefused (text_of (part_lines part) ++ (line ++ 10 ∷ rest)) (Refused (length (text_of (part_lines part))))
refused_line part line rest fine plain stops =
    let stands = can_stand part fine in (
      stops_text (part_lines part) line rest (standing_plain (part_lines part) stands) plain stops,
      at_line (part_lines part) line rest refl plain stands stops,
    )

-- a text that ends so has the lines of its part
end_lines : (part : Part) (rest : List ℕ) → IsFine part → HasNo 10 rest → (h : HasCode (text_of (part_lines part) ++ rest)) → (code_lines h.0 ≡ part_lines part) × (rest ≡ [])
end_lines part rest fine plain h =
    let b = lines_behind (code_lines h.0) (part_lines part) rest (code_plain h.0 h.1) (standing_plain (part_lines part) (can_stand part fine)) h.2 in
    let none = no_more b.more (ap (list_any (λ x. x == 10)) b.text ∙ plain) in
    (b.lines ∙ ap (λ m. part_lines part ++ m) none ∙ append-nil (part_lines part), sym b.text ∙ ap text_of none)

refused_end : (part : Part) (rest : List ℕ) → IsFine part → HasNo 10 rest → ¬ (HasCode (text_of (part_lines part) ++ rest)) → SaysRefused (text_of (part_lines part) ++ rest) (Refused (length (text_of (part_lines part) ++ rest)))
refused_end part rest fine plain wrong = (wrong, at_end (part_lines part) rest refl plain (can_stand part fine))

pub refused_unended : (part : Part) (rest : List ℕ) → IsFine part → HasNo 10 rest → IsUnended part → SaysRefused (text_of (part_lines part) ++ rest) (Refused (length (text_of (part_lines part) ++ rest)))
refused_unended part rest fine plain opens = refused_end part rest fine plain (λ h. unended_is_no_text part h.0 fine opens h.1 (end_lines part rest fine plain h).0)

pub refused_rest : (part : Part) (rest : List ℕ) → IsFine part → HasNo 10 rest → rest ≢ [] → SaysRefused (text_of (part_lines part) ++ rest) (Refused (length (text_of (part_lines part) ++ rest)))
refused_rest part rest fine plain more = refused_end part rest fine plain (λ h. more (end_lines part rest fine plain h).1)

-- codes of one text have the same lines
pub same_code_lines : (other code : Code) → Spelled other → Spelled code → code_text other ≡ code_text code → code_lines other ≡ code_lines code
same_code_lines other code w h t =
    let b = lines_behind (code_lines other) (code_lines code) [] (code_plain other w) (code_plain code h) (t ∙ sym (append-nil (code_text code))) in
    b.lines ∙ ap (λ m. code_lines code ++ m) (no_more b.more (ap (list_any (λ x. x == 10)) b.text)) ∙ append-nil (code_lines code)

-- the code of a closed part is the one of its text
pub is_reading : (a : Above) (code : Code) → IsFine (Closed a) → code ≡ code_of a → IsReading (code_text (code_of a) ++ []) code
is_reading a code fine e =
    let spelled : Spelled code = subst Spelled (sym e) fine in
    let text : code_text code ≡ code_text (code_of a) ++ [] = ap code_text e ∙ sym (append-nil (code_text (code_of a))) in
    record {
      spelled = spelled;
      text = text;
      only = λ other w t. other_is other code w spelled (same_code_lines other code (and_true _ _ w).0 spelled (t ∙ sym text));
    }

-- ---- the steps of reading

pub first_line_at : (place : ℕ) (text : List ℕ) → position_from (λ b. b == 10) 0 text ≡ Some place → IsFirstLine (take place text) (take (length text - (place + 1)) (drop (place + 1) text)) text × (length (take (length text - (place + 1)) (drop (place + 1) text)) < length text)
first_line_at place text e =
    let f = found_at 10 0 place text e in
    let at : place ≡ length f.2.front = omega (arith, f.2.len, f.1) in
    let cut = behind_at place f.2.front f.2.back 10 text at (sym f.2.whole) in (
      record {
        plain = ap (list_any (λ b. b == 10)) cut.0 ∙ f.2.plain;
        whole = f.2.whole ∙ ap (λ t. t ++ 10 ∷ f.2.back) (sym cut.0) ∙ ap (λ t. take place text ++ 10 ∷ t) (sym cut.1);
      },
      omega (arith, ap length cut.1, ap length f.2.whole, length-append f.2.front (10 ∷ f.2.back)),
    )

pub finish_reading : (part : Part) (a : Above) (rest : List ℕ) (code : Code) → IsFine part → part ≡ Closed a → rest ≡ [] → code ≡ code_of a → IsReading (text_of (part_lines part) ++ rest) code
finish_reading part a rest code fine p q k =
    subst (λ (t : List ℕ). IsReading t code) (ap (λ x. text_of (part_lines x) ++ []) (sym p) ∙ ap (λ x. text_of (part_lines part) ++ x) (sym q))
    (is_reading a code (subst IsFine p fine) k)

pub unended_is : (part : Part) → ((a : Above) → part ≢ Closed a) → IsUnended part
unended_is Start h = tt
unended_is (Between a) h = tt
unended_is (Inside a o) h = tt
unended_is (Closed a) h = h a refl

pub read_refused : (part : Part) (bytes rest line after : List ℕ) → IsFine part → bytes ≡ text_of (part_lines part) ++ rest → IsFirstLine line after rest → ¬ (CanStand (part_lines part ++ line ∷ [])) → SaysRefused bytes (Refused (length bytes - length rest))
read_refused part bytes rest line after fine whole first stops =
    let same : text_of (part_lines part) ++ (line ++ 10 ∷ after) ≡ bytes = ap (λ t. text_of (part_lines part) ++ t) (sym first.whole) ∙ sym whole in
    let len : length (text_of (part_lines part)) ≡ length bytes - length rest = omega (arith, ap length whole, length-append (text_of (part_lines part)) rest) in
    subst (λ (n : ℕ). SaysRefused bytes (Refused n)) len
    (subst (λ (t : List ℕ). SaysRefused t (Refused (length (text_of (part_lines part))))) same (refused_line part line after fine first.plain stops))

pub read_turn : (part next : Part) (bytes rest line after : List ℕ) → bytes ≡ text_of (part_lines part) ++ rest → IsFirstLine line after rest → part_lines next ≡ part_lines part ++ line ∷ [] → bytes ≡ text_of (part_lines next) ++ after
read_turn part next bytes rest line after whole first lines =
    whole ∙ ap (λ t. text_of (part_lines part) ++ t) first.whole ∙ text_push (part_lines part) line after ∙ ap (λ ls. text_of ls ++ after) (sym lines)
