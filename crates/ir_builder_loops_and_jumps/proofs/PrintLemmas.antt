-- The code of `print` writes what it is to.
use Rattle.ir_builder_loops_and_jumps.proofs.Common.{◌≡◌, ℕ, zero, suc, ◌+◌, ◌<◌, ◌≤◌, true, false, List, [], ◌∷◌, ◌++◌, length, map, get_or, take, Option, Some, None, refl, sym, ap, ◌∙◌, subst, arith, append_assoc, append-nil, le_refl, add-one, ◌≢◌, Bool, ◌&&◌, take_all, Value, StrVal, TExpr, Sort, typed_expr, type_of, State, Gives, Does, on_to, give, needs, write, text_of, line_of, has_text, Goes, Op, Reg, Ref, Program, Building, held, Extends, Do, Holds, Regs, Declared, type_of_reg, World, Waiting, Strict, do_op, registers_of, op_step, Setting, rtype_of, HasType, Has, Pushes, world, running, Leads, Ends, Matches, HasRoom, IsThrown, Shows, Meaning, Makes, Attempts, ShowAll, HaveTypes, ArrivesAll, ComputesAll, leads_trans, leads_step, leads_refl, ends_on, ends_now, ends_at, extends_refl, extends_trans, has_less, type_has, type_below, placed_part, room_on, match_kept, Flows, Works, Config, Stands}
use Rattle.std.proofs.Common.{inl}
use Rattle.std.specs.List.{list_all}
use Rattle.c_core.specs.declared.primitive.Primitive.TheVariants as prim
use Rattle.c_core.specs.declared.primitive.IoPrim.TheVariants as io
use Rattle.ir_core.specs.declared.code.PArg.{PArg}
use Rattle.ir_core.specs.declared.code.PArg.TheVariants.{Var}
use Rattle.ir_core.specs.declared.code.Op.TheVariants.{Prim}
use Rattle.ir_builder_frames.specs.Sound.{MayCome}
use Rattle.value_core.specs.Items.{line_feed}
use Rattle.py_typed.specs.Sorts as sort
use Rattle.py_typed.specs.Sorts.{sort as sort_of}
use Rattle.py_typed.proofs.ExpressionLemmas.{type_at}
use Rattle.ir_builder_operations.specs.Operating.{is_written, ActsOn}
use Rattle.ir_builder_loops_and_jumps.specs.Printing.{written, writes_of, item_text, row_text, first_texts, Prints, WritesText, WritesOne, Writes, printed}
use Rattle.ir_builder_operations.proofs.PartLemmas.{show_kept}
use Rattle.ir_builder_frames.proofs.ComingLemmas.{ends_lead, ends_needed}
use Rattle.value_core.specs.Value.{NoneVal}
use Rattle.ir_builder_frames.proofs.WatchLemmas.{ends_watched}
use Rattle.ir_builder_frames.specs.Watching.{watch}

-- ---- the operation that writes

module _ (p : Program) (fn : ℕ) (below : List Waiting) where
  step_leads : (b c : Building) (o : Op) {line : ℕ} (regs regs' : Regs) (w w' : World) → held c (length b.blocks) (length b.ops) ≡ Some (Do o line) → length c.blocks ≡ length b.blocks → length c.ops ≡ length b.ops + 1 → Has p fn c → do_op Strict p o (record { fn = fn; block = length b.blocks; place = length b.ops; regs = regs }) below w ≡ running fn (length b.blocks) (length b.ops + 1) regs' below w' → Leads p (running fn (length b.blocks) (length b.ops) regs below w) (running fn (length c.blocks) (length c.ops) regs' below w')
  step_leads b c o {line} regs regs' w w' at same_blocks more_ops has does =
      let is : running fn (length b.blocks) (length b.ops + 1) regs' below w' ≡ running fn (length c.blocks) (length c.ops) regs' below w' = rw (same_blocks, more_ops) refl in
      leads_step p _ _ (op_step Strict p (record { fn = fn; block = length b.blocks; place = length b.ops; regs = regs }) below w o (has.items _ _ (Do o line) (λ z. cc) at) ∙ does ∙ is)

  write_does : (k i r : ℕ) (text : List ℕ) (regs : Regs) (s : State) → type_of_reg (registers_of p fn) (record { 0 = r }) ≡ Some Ref → regs r ≡ Holds (StrVal text) → do_op Strict p (writes_of (record { 0 = r })) (record { fn = fn; block = k; place = i; regs = regs }) below (world None s) ≡ running fn k (i + 1) regs below (world None (written s text))
  write_does k i r text regs s t is = rw (t, is) refl

  write_leads : {line : ℕ} (b c : Building) (r : ℕ) (text : List ℕ) (regs : Regs) (s : State) → Pushes b c (writes_of (record { 0 = r })) line → HasType b r Ref → Has p fn c → regs r ≡ Holds (StrVal text) → Leads p (running fn (length b.blocks) (length b.ops) regs below (world None s)) (running fn (length c.blocks) (length c.ops) regs below (world None (written s text)))
  write_leads b c r text regs s q type has is =
      let t = type_has p fn b r Ref (has_less p fn b c q.extends has) type in
      step_leads b c (writes_of (record { 0 = r })) regs regs (world None s) (world None (written s text)) q.at q.blocks q.ops has (write_does _ _ r text regs s t is)

pub write_may_come : (b : Building) (r : Reg) (args : List PArg) → args ≡ Var r ∷ [] → HasType b r.0 Ref → MayCome b (Prim None (prim.Io io.Write) args)
write_may_come b r args is type = subst (λ (z : List PArg). MayCome b (Prim None (prim.Io io.Write) z)) (sym is) (refl, inl (refl, (record { type = Ref; is = type; same = refl }, tt)))

-- ---- single texts

pub text_written : {line : ℕ} (b c d : Building) (r : Reg) (text : List ℕ) → Makes b c r.0 Ref (λ regs h. h ≡ Holds (StrVal text)) → Pushes c d (writes_of r) line → WritesText b d text
text_written b c d r text m q = record {
  extends = extends_trans b c d m.extends q.extends;
  runs = λ p fn h at regs below s.
      let has = has_less p fn c d q.extends at.has in
      let made = m.runs p fn has regs below s (Holds (StrVal text)) refl in
      (made.0, leads_trans p _ _ _ made.1 (write_leads p fn below c d r.0 text made.0 s q m.type at.has made.2), made.3);
}

pub value_written : {line : ℕ} (t : Sort) (b c d : Building) (x : ℕ) (r : Reg) → Attempts (Shows sort.Str) b c r.0 Ref (ActsOn t x (λ v. give (StrVal (text_of v)))) → Pushes c d (writes_of r) line → WritesOne t x b d text_of
value_written t b c d x r m q = record {
  extends = extends_trans b c d m.extends q.extends;
  runs = λ p fn h at y room regs below s match v shows.
      let at1 = placed_part p fn b b c d h (le_refl _) q.extends at in
      let made = m.runs p fn h at1 y room regs below s match (Gives (StrVal (text_of v)) s) record { v = v; shows = shows; does = refl } in
      let a = made.3 in
      let P : _ → Type 0 = λ z. Leads p (running fn (length b.blocks) (length b.ops) regs below (world None s)) z in
      (a.now, leads_trans p _ _ _ (subst P a.is made.2) (write_leads p fn below c d r.0 (text_of v) a.now s q m.type at.has a.shows.0), a.kept);
}

-- ---- one behind the other

written_twice : (s : State) (a b : List ℕ) → written (written s a) b ≡ written s (a ++ b)
written_twice s a b = ap (λ z. record s { output = z }) (append_assoc s.output a b)

written_none : (s : State) → written s [] ≡ s
written_none s = ap (λ z. record s { output = z }) (append-nil s.output)

prints_then : (p : Program) (fn : ℕ) (b c d : Building) (regs : Regs) (below : List Waiting) (s : State) (first second : List ℕ) → Extends b c → (q : Prints p fn b c regs below s first) → Prints p fn c d q.0 below (written s first) second → Prints p fn b d regs below s (first ++ second)
prints_then p fn b c d regs below s first second x q k =
    let more = x.regs_grow in
    let P : State → Type 0 = λ z. Leads p (running fn (length b.blocks) (length b.ops) regs below (world None s)) (running fn (length d.blocks) (length d.ops) k.0 below (world None z)) in
    (k.0, subst P (written_twice s first second) (leads_trans p _ _ _ q.1 k.1), λ j lt. k.2 j (omega arith) ∙ q.2 j lt)

-- registers for variables and flags are as before
match_written : (x : Setting) (b : Building) (regs now : Regs) (s : State) (text : List ℕ) → HasRoom x b → ((j : ℕ) → j < length b.regs → now j ≡ regs j) → Matches x regs s → Matches x now (written s text)
match_written x b regs now s text room kept m =
    let top = room.top in
    match_kept x b regs now s (written s text) room (λ j lt. kept j (omega arith)) refl m

-- ---- a value in a row

pub first_item : (t : Sort) (r i : ℕ) (b c : Building) → i ≡ 0 → WritesOne t r b c text_of → WritesOne t r b c (item_text i)
first_item t r i b c is w = let P : ℕ → Type 0 = λ z. WritesOne t r b c (item_text z) in subst P (sym is) w

later : (t : Sort) (r i : ℕ) (b c d : Building) → HasType b r (rtype_of t) → WritesText b c (32 ∷ []) → WritesOne t r c d text_of → WritesOne t r b d (item_text (suc i))
later t r i b c d type space w = record {
  extends = extends_trans b c d space.extends w.extends;
  runs = λ p fn h at x room regs below s match v shows.
      let k1 = space.extends.blocks_grow in
      let at1 = placed_part p fn b b c d h (le_refl _) w.extends at in
      let at2 = placed_part p fn b c d d h k1 (extends_refl d) at in
      let first = space.runs p fn h at1 regs below s in
      let shows2 : Shows t v (first.0 r) = subst (Shows t v) (sym (first.2 r (type_below b r (rtype_of t) type))) shows in
      let second = w.runs p fn h at2 x (room_on x b c space.extends room) first.0 below (written s (32 ∷ [])) (match_written x b regs first.0 s (32 ∷ []) room first.2 match) v shows2 in
      prints_then p fn b c d regs below s (32 ∷ []) (text_of v) space.extends first second;
}

pub later_item : (t : Sort) (r i : ℕ) (b c d : Building) → i ≢ 0 → HasType b r (rtype_of t) → WritesText b c (32 ∷ []) → WritesOne t r c d text_of → WritesOne t r b d (item_text i)
later_item t r zero b c d ne type space w = absurd (ne refl)
later_item t r (suc i) b c d ne type space w = later t r i b c d type space w

-- ---- values in a row

row_snoc : (i : ℕ) (vs : List Value) (v : Value) → row_text i (vs ++ v ∷ []) ≡ row_text i vs ++ item_text (i + length vs) v
row_snoc i [] v = append-nil (item_text i v) ∙ ap (λ n. item_text n v) (omega arith)
row_snoc i (u ∷ vs) v =
    ap (λ z. item_text i u ++ z) (row_snoc (suc i) vs v)
    ∙ ap (λ n. item_text i u ++ (row_text (suc i) vs ++ item_text n v)) (omega arith)
    ∙ sym (append_assoc (item_text i u) (row_text (suc i) vs) (item_text (i + suc (length vs)) v))

later_line : (i : ℕ) (v : Value) (vs : List Value) → row_text (suc i) (v ∷ vs) ++ line_feed ∷ [] ≡ 32 ∷ line_of (v ∷ vs)
later_line i v [] = ap (λ z. 32 ∷ z ++ line_feed ∷ []) (append-nil (text_of v))
later_line i v (u ∷ vs) = ap (λ z. 32 ∷ z) (append_assoc (text_of v) (row_text (suc (suc i)) (u ∷ vs)) (line_feed ∷ []) ∙ ap (λ z. text_of v ++ z) (later_line (suc i) u vs))

whole_line : (vs : List Value) → row_text 0 vs ++ line_feed ∷ [] ≡ line_of vs
whole_line [] = refl
whole_line (v ∷ []) = ap (λ z. z ++ line_feed ∷ []) (append-nil (text_of v))
whole_line (v ∷ u ∷ vs) = append_assoc (text_of v) (row_text 1 (u ∷ vs)) (line_feed ∷ []) ∙ ap (λ z. text_of v ++ z) (later_line 0 u vs)

abbrev sorts : List TExpr → List Sort
sorts es = map type_of (map typed_expr es)

-- the value with a number
value_at : (es : List TExpr) (vs : List Value) (regs : Regs) (rs : List Reg) (i : ℕ) (e : TExpr) (r : Reg) → ShowAll (sorts es) vs regs rs → i < length rs → e ≡ get_or es i e → r ≡ get_or rs i r → (v : Value) × (take (suc i) vs ≡ take i vs ++ v ∷ []) × Shows (sort_of e.ty) v (regs r.0) × (length (take i vs) ≡ i)
value_at [] [] regs [] i e r h lt is same = absurd (omega arith)
value_at [] (v ∷ vs) regs rs i e r h lt is same = absurd h
value_at [] [] regs (q ∷ rs) i e r h lt is same = absurd h
value_at (d ∷ es) [] regs rs i e r h lt is same = absurd h
value_at (d ∷ es) (v ∷ vs) regs [] i e r h lt is same = absurd h
value_at (d ∷ es) (v ∷ vs) regs (q ∷ rs) zero e r h lt is same =
    let P : TExpr → Type 0 = λ z. Shows (sort_of z.ty) v (regs r.0) in
    let Q : Reg → Type 0 = λ z. Shows (sort_of d.ty) v (regs z.0) in
    let R : Sort → Type 0 = λ z. Shows z v (regs q.0) in
    (v, refl, subst P (sym is) (subst Q (sym same) (subst R (type_at d) h.0)), refl)
value_at (d ∷ es) (v ∷ vs) regs (q ∷ rs) (suc i) e r h lt is same =
    let next = value_at es vs regs rs i e r h.1 (omega arith) is same in
    (next.0, ap (λ z. v ∷ z) next.1, next.2, ap suc next.3)

pub item_type : (declared : Declared) (es : List TExpr) (rs : List Reg) (i : ℕ) (e : TExpr) (r : Reg) → HaveTypes declared (sorts es) rs → i < length rs → e ≡ get_or es i e → r ≡ get_or rs i r → type_of_reg declared r ≡ Some (rtype_of (sort_of e.ty))
item_type declared [] [] i e r h lt is same = absurd (omega arith)
item_type declared [] (q ∷ rs) i e r h lt is same = absurd h
item_type declared (d ∷ es) [] i e r h lt is same = absurd h
item_type declared (d ∷ es) (q ∷ rs) zero e r h lt is same =
    rw (is, same, ← type_at d) h.0
item_type declared (d ∷ es) (q ∷ rs) (suc i) e r h lt is same = item_type declared es rs i e r h.1 (omega arith) is same

first_holds : (a b : Bool) → (a && b) ≡ true → a ≡ true
first_holds true b h = refl
first_holds false b h = absurd (cc)

second_holds : (a b : Bool) → (a && b) ≡ true → b ≡ true
second_holds true b h = h
second_holds false b h = absurd (cc)

pub item_written : (es : List TExpr) (i : ℕ) (e : TExpr) → list_all is_written (sorts es) ≡ true → i < length es → e ≡ get_or es i e → is_written (sort_of e.ty) ≡ true
item_written [] i e h lt is = absurd (omega arith)
item_written (d ∷ es) zero e h lt is = rw (is, ← type_at d) (first_holds (is_written (type_of (typed_expr d))) (list_all is_written (sorts es)) h)
item_written (d ∷ es) (suc i) e h lt is = item_written es i e (second_holds (is_written (type_of (typed_expr d))) (list_all is_written (sorts es)) h) (omega arith) is

pub as_many : (declared : Declared) (es : List TExpr) (rs : List Reg) → HaveTypes declared (sorts es) rs → length es ≡ length rs
as_many declared [] [] h = refl
as_many declared [] (q ∷ rs) h = absurd h
as_many declared (d ∷ es) [] h = absurd h
as_many declared (d ∷ es) (q ∷ rs) h = ap suc (as_many declared es rs h.1)

show_count : (ts : List Sort) (vs : List Value) (regs : Regs) (rs : List Reg) → ShowAll ts vs regs rs → length vs ≡ length rs
show_count [] [] regs [] h = refl
show_count [] (v ∷ vs) regs rs h = absurd h
show_count [] [] regs (q ∷ rs) h = absurd h
show_count (t ∷ ts) [] regs rs h = absurd h
show_count (t ∷ ts) (v ∷ vs) regs [] h = absurd h
show_count (t ∷ ts) (v ∷ vs) regs (q ∷ rs) h = ap suc (show_count ts vs regs rs h.1)

pub none_written : (es : List TExpr) (rs : List Reg) (b : Building) → Writes (sorts es) rs b b (first_texts 0)
none_written es rs b = record {
  extends = extends_refl b;
  runs = λ p fn h at x room regs below s match vs shows.
      let P : State → Type 0 = λ z. Leads p (running fn (length b.blocks) (length b.ops) regs below (world None s)) (running fn (length b.blocks) (length b.ops) regs below (world None z)) in
      (regs, subst P (sym (written_none s)) (leads_refl p _), λ j lt. refl);
}

-- one value more
pub next_written : (es : List TExpr) (rs : List Reg) (i : ℕ) (e : TExpr) (r : Reg) (b c d : Building) → HaveTypes b.regs (sorts es) rs → i < length rs → e ≡ get_or es i e → r ≡ get_or rs i r → Writes (sorts es) rs b c (first_texts i) → WritesOne (sort_of e.ty) r.0 c d (item_text i) → Writes (sorts es) rs b d (first_texts (i + 1))
next_written es rs i e r b c d types lt is same w q = record {
  extends = extends_trans b c d w.extends q.extends;
  runs = λ p fn h at x room regs below s match vs shows.
      let k1 = w.extends.blocks_grow in
      let at1 = placed_part p fn b b c d h (le_refl _) q.extends at in
      let at2 = placed_part p fn b c d d h k1 (extends_refl d) at in
      let first = w.runs p fn h at1 x room regs below s match vs shows in
      let shows2 = show_kept b (sorts es) vs rs regs first.0 types first.2 shows in
      let v = value_at es vs first.0 rs i e r shows2 lt is same in
      let second = q.runs p fn h at2 x (room_on x b c w.extends room) first.0 below (written s (first_texts i vs)) (match_written x b regs first.0 s (first_texts i vs) room first.2 match) v.0 v.2 in
      let number : i ≡ 0 + length (take i vs) = omega (arith, v.3) in
      let text : first_texts i vs ++ item_text i v.0 ≡ first_texts (i + 1) vs = ap (λ n. first_texts i vs ++ item_text n v.0) number ∙ sym (row_snoc 0 (take i vs) v.0) ∙ ap (row_text 0) (sym v.1) ∙ ap (λ n. first_texts n vs) (sym (add-one i)) in
      subst (Prints p fn b d regs below s) text (prints_then p fn b c d regs below s (first_texts i vs) (item_text i v.0) w.extends first second);
}

-- an item is there whatever stands for one that is not
pub item_own : {A : Type 0} (xs : List A) (i : ℕ) (x : A) → i < length xs → get_or xs i x ≡ get_or xs i (get_or xs i x)
item_own [] i x lt = absurd (omega arith)
item_own (y ∷ xs) zero x lt = refl
item_own (y ∷ xs) (suc i) x lt = item_own xs i x (omega arith)

-- and the line feed behind all
pub line_written : (es : List TExpr) (rs : List Reg) (i : ℕ) (b c d : Building) → length rs ≤ i → Writes (sorts es) rs b c (first_texts i) → WritesText c d (line_feed ∷ []) → Writes (sorts es) rs b d line_of
line_written es rs i b c d past w q = record {
  extends = extends_trans b c d w.extends q.extends;
  runs = λ p fn h at x room regs below s match vs shows.
      let k1 = w.extends.blocks_grow in
      let at1 = placed_part p fn b b c d h (le_refl _) q.extends at in
      let at2 = placed_part p fn b c d d h k1 (extends_refl d) at in
      let first = w.runs p fn h at1 x room regs below s match vs shows in
      let second = q.runs p fn h at2 first.0 below (written s (first_texts i vs)) in
      let count = show_count (sorts es) vs regs rs shows in
      let text : first_texts i vs ++ line_feed ∷ [] ≡ line_of vs = ap (λ z. row_text 0 z ++ line_feed ∷ []) (take_all i vs (omega arith)) ∙ whole_line vs in
      subst (Prints p fn b d regs below s) text (prints_then p fn b c d regs below s (first_texts i vs) (line_feed ∷ []) w.extends first second);
}

-- ---- the whole

pub print_works : (x : Setting) (result : Option Sort) (t : Sort) (ts : List Sort) (m : Meaning (List Value)) (b0 b1 b2 : Building) (rs : List Reg) → HasRoom x b0 → ComputesAll x ts m b0 b1 rs → Writes ts rs b1 b2 line_of → Works x result (printed x.source t m) b0 b2 []
print_works x result t ts m b0 b1 b2 rs room c w = record {
  extends = extends_trans b0 b1 b2 c.extends w.extends;
  opens = tt;
  runs = λ p fn h to at jumps n calls regs below s match le.
      let top = room.top in
      let k1 = c.extends.blocks_grow in
      let r1 = c.extends.regs_grow in
      let at1 = placed_part p fn b0 b0 b1 b2 h (le_refl _) w.extends at in
      let at2 = placed_part p fn b0 b1 b2 b2 h k1 (extends_refl b2) at in
      let room1 = room_on x b0 b1 c.extends room in
      let R = Flows p result fn (length b2.blocks) (length b2.ops) to [] below x (length b0.regs) regs in
      let S : Value → State → Config → Type 0 = λ v. Stands fn (length b2.blocks) (length b2.ops) below None x (length b0.regs) regs in
      let T = IsThrown fn h below x (length b0.regs) regs in
      let start : Config = running fn (length b0.blocks) (length b0.ops) regs below (world None s) in
      let go : List Value → Does Value = λ vs. needs (list_all has_text vs) (write (line_of vs)) in
      let all : Ends p s.turns start (on_to (m n s) go) S T = ends_on p s.turns start (m n s) (ArrivesAll ts fn (length b1.blocks) (length b1.ops) below (length b0.regs) regs s rs) T T go S (c.runs p fn h at1 n calls regs below s match le)
      (λ vs s1 d1 le1 a.
      let match1 = match_kept x b0 regs a.now s s1 room (λ j lt. a.kept j (omega arith)) a.same match in
      let done = w.runs p fn h at2 x room1 a.now below s1 match1 vs a.shows in
      let match2 = match_written x b1 a.now done.0 s1 (line_of vs) room1 done.2 match1 in
      let behind : Config = running fn (length b1.blocks) (length b1.ops) a.now below (world None s1) in
      ends_at p s1.turns behind d1 (go vs s1) S T a.is
      (ends_needed p s1.turns behind (list_all has_text vs) (write (line_of vs)) s1 S T (λ e.
      ends_lead p NoneVal (written s1 (line_of vs)) _ _ S T done.1 record { now = done.0; is = refl; match = match2; kept = λ j z lt o. done.2 j (omega arith) ∙ a.kept j lt })))
      (λ v s1 d1 z. z) in
      ends_on p s.turns start (on_to (on_to (m n s) go) (watch x.source t)) S T T (λ v. give Goes) R
      (ends_watched p x.source t s.turns start (on_to (m n s) go) S S T (λ v u d kind z. z) all)
      (λ v u d le1 z. ends_now p Goes u d R T z)
      (λ v u d z. z);
}
