-- The numbers of classes, from the last name that is said to the first.
use Rattle.std.proofs.Common.{◌≡◌, ◌∙◌, ℕ, ◌+◌, ◌-◌, ◌≤◌, cond, List, [], ◌∷◌, ◌++◌, Option, Some, ap, sym, arith}
use Rattle.std.proofs.lemmas.List.Sums.{sum_by-cons, sum_by-append}
use Rattle.std.specs.Str.{bytes_eq}
use Rattle.std.specs.Map.{lookup}
use Rattle.py_binder.proofs.TableLemmas.{or_else}
use Rattle.py_check_context.specs.declared.scope.Meaning.{Meaning}
use Rattle.py_check_names.proofs.TableLemmas.{said_step}
use Rattle.py_check_classes.specs.Names.{class_count, class_counts, with_number, numbered}

counts_first : (p : List ℕ × Meaning) (xs : List (List ℕ × Meaning)) → class_counts (p ∷ xs) ≡ class_count p.1 + class_counts xs
counts_first p xs = sum_by-cons (λ (q : List ℕ × Meaning). class_count q.1) p xs

pub counts_last : (xs : List (List ℕ × Meaning)) (x : List ℕ × Meaning) → class_counts (xs ++ x ∷ []) ≡ class_counts xs + class_count x.1
counts_last xs x =
    let both : class_counts (xs ++ x ∷ []) ≡ class_counts xs + class_counts (x ∷ []) = sum_by-append (λ (q : List ℕ × Meaning). class_count q.1) xs (x ∷ []) in
    let one : class_counts (x ∷ []) ≡ class_count x.1 + 0 = counts_first x [] in
    omega (arith, both, one)

pub numbered_last : (n : ℕ) (xs : List (List ℕ × Meaning)) (x : List ℕ × Meaning) → numbered n (xs ++ x ∷ []) ≡ numbered n xs ++ (x.0, with_number (n + class_counts xs) x.1) ∷ []
numbered_last n [] x = let same : n ≡ n + 0 = omega arith in ap (λ m. (x.0, with_number m x.1) ∷ []) same
numbered_last n (p ∷ xs) x =
    let first = counts_first p xs in
    let same : (n + class_count p.1) + class_counts xs ≡ n + class_counts (p ∷ xs) = omega (arith, first) in
    ap (λ l. (p.0, with_number n p.1) ∷ l)
    (numbered_last (n + class_count p.1) xs x ∙ ap (λ m. numbered (n + class_count p.1) xs ++ (x.0, with_number m x.1) ∷ []) same)

pub counts_on : (said rest : List (List ℕ × Meaning)) (x : List ℕ × Meaning) (m k : ℕ) → said ≡ rest ++ x ∷ [] → m ≡ class_counts said → k ≡ class_count x.1 → (k ≤ m) × (m - k ≡ class_counts rest)
counts_on said rest x m k taken is count =
    let all = is ∙ ap class_counts taken ∙ counts_last rest x in (omega (arith, all, count), omega (arith, all, count))

-- the name that is said last is put into the table
pub table_on : (said rest : List (List ℕ × Meaning)) (x : List ℕ × Meaning) (next : ℕ) (value : Meaning) (old new all : List ℕ → Option Meaning) → said ≡ rest ++ x ∷ [] → next ≡ class_counts rest → value ≡ with_number next x.1
    → ((k : List ℕ) → new k ≡ cond (bytes_eq x.0 k) (Some value) (old k)) → ((k : List ℕ) → or_else (lookup (bytes_eq k) (numbered 0 said)) (old k) ≡ all k)
    → (k : List ℕ) → or_else (lookup (bytes_eq k) (numbered 0 rest)) (new k) ≡ all k
table_on said rest x next value old new all taken is made put before =
    let same : 0 + class_counts rest ≡ next = omega (arith, is) in
    said_step (numbered 0 said) (numbered 0 rest) (x.0, value) old new all
    (ap (numbered 0) taken ∙ numbered_last 0 rest x ∙ ap (λ m. numbered 0 rest ++ (x.0, with_number m x.1) ∷ []) same ∙ ap (λ v. numbered 0 rest ++ (x.0, v) ∷ []) (sym made))
    put before
