-- Texts that are written one behind another.
use Rattle.std.proofs.Common.{◌≡◌, ◌∙◌, ap, sym, ℕ, ◌+◌, ◌<◌, ◌≤◌, List, [], ◌∷◌, ◌++◌, length, take, get_or, append_assoc, append-nil, subst, refl, Ok, Err}
use Rattle.std.specs.Prelude.{codes, Result, OnOk, OnErr, IsErr, Bool, IsTrue}
use Rattle.std.specs.Borrow.{Bor}
use Rattle.std.specs.List.{flat_map}
use Rattle.std.proofs.lemmas.Bool.{false≢true}
use Rattle.std.proofs.lemmas.List.{take_all}
use Rattle.outside_core.specs.Bytes.{TakesFront}
use Rattle.outside_core.specs.Counts.{count_after}
use Rattle.outside_core.proofs.Fronts.{TakesFront-before, TakesFront-after}
use Rattle.c_core.specs.Text.{parameters_text}
use Rattle.c_core.specs.WellFormed.{Declared}
use Rattle.c_text.specs.Writing.{Wrote, words_text}
use Rattle.c_text.proofs.Fronts.{front_more, taken_more}

-- nothing was written
pub nothing : {T E : Type 0} (x : T) (tells : Bool) (calm : ℕ) (old : List ℕ) → Wrote {E = E} (Ok x) tells calm calm old old []
nothing x tells calm old = record { counted = refl; taken = λ tells. sym (append-nil old); front = tt }

-- the same of a text that is written in another way
pub same_text : {T E : Type 0} {r : Result T E} {tells : Bool} {calm faults : ℕ} {old new text : List ℕ} {other : List ℕ} → text ≡ other → Wrote r tells calm faults old new text → Wrote r tells calm faults old new other
same_text {r = r} {tells} {calm} {faults} {old} {new} e w = subst (λ (t : List ℕ). Wrote r tells calm faults old new t) e w

-- a text behind one that was written
pub then : {T U E F : Type 0} {x : T} {r : Result U F} {tells : Bool} {calm faults more : ℕ} {old mid new text rest : List ℕ} → Wrote {E = E} (Ok x) tells calm faults old mid text → Wrote r tells faults more mid new rest → Wrote r tells calm more old new (text ++ rest)
then {U = U} {F = F} {r = r} {tells} {calm} {faults} {more} {old} {mid} {new} {text} {rest} w v = join r v.counted v.taken v.front
  where
    join : (r : Result U F) → more ≡ count_after r faults → OnOk r (IsTrue tells → new ≡ mid ++ rest) → OnErr r (IsTrue tells → TakesFront mid new rest) → Wrote r tells calm more old new (text ++ rest)
    join (Ok y) counted taken front = record {
      counted = counted ∙ w.counted;
      taken = λ tells. taken tells ∙ ap (λ t. t ++ rest) (w.taken tells) ∙ append_assoc old text rest;
      front = tt;
    }
    join (Err e) counted taken front = record {
      counted = counted ∙ ap (count_after {T = U} (Err e)) w.counted;
      taken = tt;
      front = λ tells. TakesFront-after old mid new text rest (w.taken tells) (front tells);
    }

-- a call that answered with an error did what an error says
pub erred : {T U E F : Type 0} {e : E} {tells : Bool} {calm faults : ℕ} {old new text : List ℕ} (r : Result U F) → IsErr r → Wrote {T = T} (Err e) tells calm faults old new text → Wrote r tells calm faults old new text
erred (Ok y) is w = absurd (false≢true is)
erred (Err f) is w = record { counted = w.counted; taken = tt; front = w.front }

-- a front of the first of two texts
pub failed : {T U E F : Type 0} {e : E} {tells : Bool} {calm faults : ℕ} {old new text : List ℕ} (r : Result U F) (rest : List ℕ) → IsErr r → Wrote {T = T} (Err e) tells calm faults old new text → Wrote r tells calm faults old new (text ++ rest)
failed {T = T} {E = E} {e = e} {old = old} {new} {text} r rest is w =
    erred {T = T} {E = E} {e = e} r is (record { counted = w.counted; taken = tt; front = λ tells. TakesFront-before old new text rest (w.front tells) })

-- texts that come of a list's elements: one more, a front of one more, and all
pub more : {X T U E F : Type 0} {x : T} {y : U} {tells : Bool} {calm faults faults_then : ℕ} {old mid new : List ℕ} (f : X → List ℕ) (xs : List X) (i : ℕ) (item d : X) → i < length xs → item ≡ get_or xs i d → Wrote {E = E} (Ok x) tells calm faults old mid (flat_map f (take i xs)) → Wrote {E = F} (Ok y) tells faults faults_then mid new (f item) → Wrote {E = E} (Ok x) tells calm faults_then old new (flat_map f (take (i + 1) xs))
more {old = old} f xs i item d within is w v = record {
  counted = v.counted ∙ w.counted;
  taken = λ tells. taken_more old f xs i item d within is (w.taken tells) (v.taken tells);
  front = tt;
}

pub broken : {X T U V E F G : Type 0} {x : T} {e : F} {tells : Bool} {calm faults faults_then : ℕ} {old mid new : List ℕ} (f : X → List ℕ) (xs ys : List X) (i : ℕ) (item d : X) (r : Result V G) → xs ≡ ys → i < length xs → item ≡ get_or xs i d → IsErr r → Wrote {E = E} (Ok x) tells calm faults old mid (flat_map f (take i xs)) → Wrote {T = U} (Err e) tells faults faults_then mid new (f item) → Wrote r tells calm faults_then old new (flat_map f ys)
broken {U = U} {F = F} {e = e} {old = old} f xs ys i item d r same within is failed w v = erred {T = U} {E = F} {e = e} r failed (record {
  counted = v.counted ∙ ap (count_after {T = U} (Err e)) w.counted;
  taken = tt;
  front = λ tells. front_more old f xs ys i item d same within is (w.taken tells) (v.front tells);
})

pub all : {X T E : Type 0} {x : T} {tells : Bool} {calm faults : ℕ} {old new : List ℕ} (f : X → List ℕ) (xs ys : List X) (i : ℕ) → xs ≡ ys → length xs ≤ i → Wrote {E = E} (Ok x) tells calm faults old new (flat_map f (take i xs)) → Wrote {E = E} (Ok x) tells calm faults old new (flat_map f ys)
all f xs ys i same over w = same_text (ap (flat_map f) (take_all i xs over ∙ same)) w

-- words as the texts of a list
abbrev pub word_text : Bor (List ℕ) → List ℕ
word_text w = w.now

pub words_flat : (words : List (Bor (List ℕ))) → flat_map word_text words ≡ words_text words
words_flat [] = refl
words_flat (w ∷ []) = append-nil w.now
words_flat (w ∷ v ∷ words) = ap (λ t. w.now ++ t) (words_flat (v ∷ words))

-- words behind which a text stands, as the text of the whole: of a call, of tests, and of the head of a function
pub call_written : {words n name : List ℕ} (target : List ℕ) → words ≡ target ++ (n ++ codes "(") → n ≡ name → (rest : List ℕ) → words ++ rest ≡ target ++ (name ++ (codes "(" ++ rest))
call_written {words} {n} {name} target e same rest =
    ap (λ t. t ++ rest) e ∙ append_assoc target (n ++ codes "(") rest ∙ ap (λ t. target ++ t) (append_assoc n (codes "(") rest)
    ∙ ap (λ t. target ++ (t ++ (codes "(" ++ rest))) same

pub test_written : {words variable : List ℕ} → words ≡ variable → (rest : List ℕ) → (codes "if (" ++ words) ++ rest ≡ codes "if (" ++ (variable ++ rest)
test_written e rest = ap (λ t. codes "if (" ++ (t ++ rest)) e

pub error_test_written : {words n error : List ℕ} (variable : List ℕ) → words ≡ variable ++ (codes " == " ++ n) → n ≡ error → (rest : List ℕ) → (codes "if (" ++ words) ++ rest ≡ codes "if (" ++ (variable ++ (codes " == " ++ (error ++ rest)))
error_test_written {words} {n} variable e same rest =
    ap (λ t. codes "if (" ++ (t ++ rest)) e ∙ ap (λ t. codes "if (" ++ t) (append_assoc variable (codes " == " ++ n) rest)
    ∙ ap (λ t. codes "if (" ++ (variable ++ (codes " == " ++ (t ++ rest)))) same

pub head_is_written : {k kind n name : List ℕ} {ps vars : List Declared} → k ≡ kind → n ≡ name → ps ≡ vars → (k ++ (codes "CPyDef_" ++ (n ++ codes "("))) ++ (parameters_text ps ++ codes ") {\n") ≡ kind ++ (codes "CPyDef_" ++ (name ++ (codes "(" ++ (parameters_text vars ++ codes ") {\n"))))
head_is_written {k} {kind} {n} {name} {ps} e f g =
    let rest = parameters_text ps ++ codes ") {\n" in
    append_assoc k (codes "CPyDef_" ++ (n ++ codes "(")) rest
    ∙ ap (λ t. k ++ (codes "CPyDef_" ++ t)) (append_assoc n (codes "(") rest)
    ∙ ap (λ t. t ++ (codes "CPyDef_" ++ (n ++ (codes "(" ++ rest)))) e
    ∙ ap (λ t. kind ++ (codes "CPyDef_" ++ (t ++ (codes "(" ++ rest)))) f
    ∙ ap (λ vars. kind ++ (codes "CPyDef_" ++ (name ++ (codes "(" ++ (parameters_text vars ++ codes ") {\n"))))) g
