-- The head of a loop, from what was said of what it goes over and of its targets.
use Rattle.std.proofs.Common.{◌≡◌, List, [], ◌++◌, map, Bool, Option, Some, None, is_some, Result, Ok, Err, IfOk, refl, ap, ◌∙◌, subst, append_assoc}
use Rattle.std.specs.declared.boxed.Box.{Box}
use Rattle.std.specs.declared.alloc.Global.{Global}
use Rattle.std.specs.Option.{option_map, option_zip}
use Rattle.value_core.specs.declared.memory.Memory.{Memory}
use Rattle.py_syntax.specs.declared.token.Span.{Span}
use Rattle.py_syntax.specs.Expressions.{ExprTree}
use Rattle.py_syntax.specs.Statements.{StmtTree}
use Rattle.py_syntax_diagnostics.specs.declared.diagnostic.Diag.{Diag}
use Rattle.py_typed.specs.Sorts.{Sort}
use Rattle.py_typed.specs.Classes.{ClassEntry}
use Rattle.py_check_context.specs.Context.{Context}
use Rattle.py_check_messages.specs.Seen.{Seen, Message, Tells, both, made, rule, ruled}
use Rattle.py_check_values.specs.declared.aims.Aim as declared
use Rattle.py_check_values.specs.Aims.{Aim, aim_seen}
use Rattle.py_check_places.specs.Places.{Known, entering}
use Rattle.py_check_places.specs.Shapes.{is_row, is_flat, bind_target}
use Rattle.py_check_targets.specs.Targets.{targets_of, aims_behind}
use Rattle.py_check_targets.proofs.SeenLemmas.{seen_of}
use Rattle.py_check_loops.specs.declared.course.Course as run
use Rattle.py_check_loops.specs.declared.head.Head.{Head}
use Rattle.py_check_loops.specs.Loops.{Course, course, head}
use Rattle.py_check_loops.specs.Heads.{some_items, for_head, in_for}
use Rattle.py_check_loops.specs.Views.{course_seen, boxed_head}

-- two parts and what is made of them, where their rule holds
made_parts : {A B C D X Y Z : Type 0} (span : Span) (g : C → D) (f : A × B → Result C Message) (va : X → A) (vb : Y → B) (vd : Z → D) (s : Seen A) (t : Seen B) (a : Option X) (b : Option Y) (r : Option Z) (o0 o1 o2 o3 : List Diag) → Tells va a o0 o1 s → Tells vb b o1 o2 t → Tells vd r o2 o3 (made g (ruled span f (option_zip (option_map va a) (option_map vb b)))) → Tells vd r o0 o3 (made g (rule span f (both s t)))
made_parts span g f va vb vd s t a b r o0 o1 o2 o3 ta tb tr =
    let z = ap (λ x. option_zip x (option_map vb b)) ta.0 ∙ ap (λ y. option_zip s.got y) tb.0 in (
      tr.0 ∙ ap (λ q. option_map g (ruled span f q).got) z,
      tr.1
          ∙ ap (λ l. l ++ (ruled span f (option_zip (option_map va a) (option_map vb b))).said) (tb.1 ∙ ap (λ l. l ++ t.said) ta.1 ∙ append_assoc o0 s.said t.said)
          ∙ append_assoc o0 (s.said ++ t.said) (ruled span f (option_zip (option_map va a) (option_map vb b))).said
          ∙ ap (λ q. o0 ++ ((s.said ++ t.said) ++ (ruled span f q).said)) z,
    )

-- of targets that were looked at, and of what is gone over, which is put behind them
pub head_made : (classes : List ClassEntry) (span : Span) (flat several : Bool) (s : Seen (List Aim)) (found : Option (List declared.Aim)) (w : Option run.Course) (said : List Diag) (r : Result (Option (Box Head Global)) Memory) (old mid next new : List Diag) → Tells (map aim_seen) found old mid s → next ≡ mid ++ said
    → IfOk r (λ h. Tells boxed_head h next new (made (λ p. (targets_of p.0, p.1)) (ruled span (head classes flat several) (option_zip (option_map (map aim_seen) found) (option_map course_seen w)))))
    → IfOk r (λ h. Tells boxed_head h old new (made (λ p. (targets_of p.0, p.1)) (rule span (head classes flat several) (both s (seen_of (option_map course_seen w) said)))))
head_made classes span flat several s found w said (Ok h) old mid next new told put last =
    made_parts span (λ p. (targets_of p.0, p.1)) (head classes flat several) (map aim_seen) course_seen boxed_head s (seen_of (option_map course_seen w) said) found w h old mid next new told (refl, put) last
head_made classes span flat several s found w said (Err m) old mid next new told put last = tt

-- the head of a `for`, whose targets are looked at where the loop is entered
pub head_says : (c : Context) (k entered : Known) (s : StmtTree) (span : Span) (target e : ExprTree) (over : Seen Course) (t : Option Sort) (h : Option (Box Head Global)) (old new : List Diag) → over ≡ course c k e → t ≡ some_items over.got → entered ≡ entering c k s
    → Tells boxed_head h old new (made (λ p. (targets_of p.0, p.1)) (rule span (head c.classes (is_flat target) (is_row target)) (both (aims_behind c entered target t) over))) → Tells boxed_head h old new (for_head c k s span target e)
head_says c k entered s span target e over t h old new is items entry told =
    let P : Known → Seen Course → Option Sort → Type 0 = λ l o u. Tells boxed_head h old new (made (λ p. (targets_of p.0, p.1)) (rule span (head c.classes (is_flat target) (is_row target)) (both (aims_behind c l target u) o))) in
    subst (λ l. P l (course c k e) (some_items (course c k e).got)) entry (subst (λ o. P entered o (some_items o.got)) is (subst (λ u. P entered over u) items told))

some_there : {A B : Type 0} (f : A → B) (o : Option A) → is_some o ≡ is_some (option_map f o)
some_there f None = refl
some_there f (Some a) = refl

-- and what is known where its body begins
pub head_knows : (c : Context) (k entered begun : Known) (s : StmtTree) (span : Span) (target e : ExprTree) (over : Seen Course) (t : Option Sort) (h : Option (Box Head Global)) (there : Bool) (old new : List Diag) → over ≡ course c k e → t ≡ some_items over.got → entered ≡ entering c k s → there ≡ is_some h
    → Tells boxed_head h old new (for_head c k s span target e) → begun ≡ bind_target c there entered target t → begun ≡ in_for c k s span target e
head_knows c k entered begun s span target e over t h there old new is items entry has told bound =
    bound
    ∙ ap (λ b. bind_target c b entered target t) (has ∙ some_there boxed_head h ∙ ap is_some told.0)
    ∙ ap (λ l. bind_target c (is_some (for_head c k s span target e).got) l target t) entry
    ∙ ap (bind_target c (is_some (for_head c k s span target e).got) (entering c k s) target) (items ∙ ap (λ (o : Seen Course). some_items o.got) is)
