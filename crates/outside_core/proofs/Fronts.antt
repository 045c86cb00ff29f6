-- Fronts of bytes: what a sink took of them, and what was copied of them.
use Rattle.std.proofs.Common.{◌≡◌, ◌∙◌, ap, sym, ℕ, ◌+◌, ◌-◌, List, ◌++◌, length, take, drop, append_assoc, append-nil, length-append, arith}
use Rattle.std.proofs.Math.Seq.{take-add, take-length, take-append-add, take-append_seam}
use Rattle.std.proofs.lemmas.List.{take-append-drop, take-append-le}
use Rattle.std.proofs.lemmas.Grind.{common_steps}
use Rattle.outside_core.specs.Bytes.{TakesFront, bytes_between}

-- the first n bytes, and then m of those behind
pub front_more : (old mid new bytes : List ℕ) (n m : ℕ) → mid ≡ old ++ take n bytes → new ≡ mid ++ take m (take (length bytes - n) (drop n bytes)) → new ≡ old ++ take (n + m) bytes
front_more old mid new bytes n m p q = grind (arith, common_steps, take-add, append_assoc)

-- bytes from a place on are the n that were copied and those behind them
pub front_copied : (bytes xs ys : List ℕ) (at n : ℕ) → length xs ≡ n → xs ≡ take ((at + n) - at) (drop at bytes) → drop at bytes ≡ take n (xs ++ ys) ++ drop (at + n) bytes
front_copied bytes xs ys at n h p =
    let split = take-append-drop n (drop at bytes) in
    grind (arith, common_steps, split)

-- nothing was taken
pub TakesFront-none : (old new bytes : List ℕ) → new ≡ old → TakesFront old new bytes
TakesFront-none old new bytes p = record { count = 0; within = omega arith; grown = p ∙ sym (append-nil old) }

-- all was taken
pub TakesFront-all : (old new bytes : List ℕ) → new ≡ old ++ bytes → TakesFront old new bytes
TakesFront-all old new bytes p = record { count = length bytes; within = omega arith; grown = p ∙ ap (λ front. old ++ front) (sym (take-length bytes)) }

-- a front of a front
pub TakesFront-before : (old new bytes more : List ℕ) → TakesFront old new bytes → TakesFront old new (bytes ++ more)
TakesFront-before old new bytes more f = record {
  count = f.count;
  within = omega (arith, f.within, length-append bytes more);
  grown = f.grown ∙ ap (λ front. old ++ front) (sym (take-append-le f.count bytes more f.within));
}

-- all of some bytes, and then a front of more
pub TakesFront-after : (old mid new bytes more : List ℕ) → mid ≡ old ++ bytes → TakesFront mid new more → TakesFront old new (bytes ++ more)
TakesFront-after old mid new bytes more p f = record {
  count = length bytes + f.count;
  within = omega (arith, f.within, length-append bytes more);
  grown = f.grown ∙ ap (λ front. front ++ take f.count more) p ∙ append_assoc old bytes _ ∙ ap (λ front. old ++ front) (sym (take-append-add bytes more f.count));
}

-- all of what stands before a piece of some bytes, and then a front of the piece
pub TakesFront-part : (old mid new bytes done piece rest : List ℕ) → bytes ≡ done ++ (piece ++ rest) → mid ≡ old ++ done → TakesFront mid new piece → TakesFront old new bytes
TakesFront-part old mid new bytes done piece rest e p f =
    rw e (TakesFront-after old mid new done (piece ++ rest) p (TakesFront-before mid new piece rest f))

-- what was given between old and new
pub bytes_between-split : (old new given : List ℕ) → old ≡ given ++ new → bytes_between old new ≡ given
bytes_between-split old new given p =
    let count : length old - length new ≡ length given = omega (arith, length-append given new, ap length p) in
    ap (λ n. take n old) count ∙ ap (take (length given)) p ∙ take-append_seam given new

-- what a sink took of one text after another, and what a source gave
pub ruleset fronts = (TakesFront-none, TakesFront-all, TakesFront-before, TakesFront-after, TakesFront-part, bytes_between-split)
