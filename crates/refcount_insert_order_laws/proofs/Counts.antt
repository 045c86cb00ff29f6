-- Counts alone are in order: of an operation, of an edge and of a return.
use Rattle.std.proofs.Common.{◌≡◌, refl, sym, ap, ◌∙◌, subst, ℕ, ◌+◌, ◌-◌, ◌≤◌, inl, inr, ⊎_elim, Bool, true, false, List, [], ◌∷◌, ◌++◌, arith, append_assoc}
use Rattle.c_core.specs.declared.code.Line.{Line}
use Rattle.c_core.specs.declared.code.CFunc.{CFunc}
use Rattle.c_core.specs.declared.code.Code.{Code}
use Rattle.c_core.specs.Cells.{times}
use Rattle.ir_core.specs.declared.code.Op.{Op}
use Rattle.ir_core.specs.declared.code.Program.{Program}
use Rattle.ir_core.specs.Lower.{line_of, op_lines}
use Rattle.c_core_ownership_laws.specs.Shares.{put, Shares, with_owns, unheld, IsUsable, Checks}
use Rattle.refcount_insert_rule.specs.Rule.{ups, down, downs, given_up, IsEdge}
use Rattle.refcount_insert_order_laws.proofs.Numbers.{ext, put-more, put-less, same_self}

-- the lines of operations, one part behind the other
pub lines_append : (q : Program) (xs ys : List (Op × ℕ)) → op_lines q (xs ++ ys) ≡ op_lines q xs ++ op_lines q ys
lines_append q [] ys = refl
lines_append q (x ∷ xs) ys = ap (λ z. line_of q x.0 ∷ z) (lines_append q xs ys)

module _ (q : Program) (code : Code) (g : CFunc) (Enters : ℕ → Shares → Type 0) (End : Shares → Type 0) where
  abbrev pub Fine : Shares → List Line → Type 0
  Fine = Checks code g Enters End

  -- the same shares
  pub alike : (σ : Shares) (k : ℕ → ℕ) (ls : List Line) → ((r : ℕ) → σ.owns r ≡ k r) → Fine (record σ { owns = k }) ls → Fine σ ls
  alike σ k ls e h = subst (λ z. Fine (record σ { owns = z }) ls) (sym (ext e)) h

  -- the same shares, and nothing is held
  pub alike_off : (σ : Shares) (k : ℕ → ℕ) (ls : List Line) → ((r : ℕ) → σ.owns r ≡ k r) → ((r : ℕ) → σ.held r ≡ false) → Fine (record { owns = k; lent = σ.lent; held = λ r. false; empty = σ.empty }) ls → Fine σ ls
  alike_off σ k ls e off h =
      alike σ k ls e (subst (λ z. Fine (record { owns = k; lent = σ.lent; held = z; empty = σ.empty }) ls) (λ i r. sym (off r) i) h)

  pub usable_more : (σ : Shares) (k : ℕ → ℕ) (r : ℕ) → σ.owns r ≤ k r → IsUsable g.vars σ r → IsUsable g.vars (record σ { owns = k }) r
  usable_more σ k r le u =
      ⊎_elim (λ own. inl (omega (arith, le, own))) (λ t. inr t) u

  pub ups_check : (up : List ℕ) (n : ℕ) (σ : Shares) (ls : List Line) → ((r : ℕ) → 1 ≤ times up r → IsUsable g.vars σ r) → Fine (record σ { owns = λ r. σ.owns r + times up r }) ls → Fine σ (op_lines q (ups up n) ++ ls)
  ups_check [] n σ ls u h = alike σ (λ r. σ.owns r + 0) ls (λ r. omega arith) h
  ups_check (x ∷ up) n σ ls u h = (
    inl (u x (omega (arith, same_self x))),
    ups_check up n (with_owns x (σ.owns x + 1) σ) ls
        (λ r le. usable_more σ (put x (σ.owns x + 1) σ.owns) r (omega (arith, put-more x σ.owns r)) (u r (omega (arith, le))))
        (alike (record σ { owns = λ r. put x (σ.owns x + 1) σ.owns r + times up r }) (λ r. σ.owns r + times (x ∷ up) r) ls (λ r. omega (arith, put-more x σ.owns r)) h),
  )

  down_check : (b : Bool) (x : ℕ) (σ : Shares) (ls : List Line) → 1 ≤ σ.owns x → Fine (unheld (with_owns x (σ.owns x - 1) σ)) ls → Fine σ (line_of q (down b x) ∷ ls)
  down_check true x σ ls le h = (inl le, h)
  down_check false x σ ls le h = (inl le, h)

  pub downs_check : (ds : List (ℕ × Bool)) (n : ℕ) (σ : Shares) (ls : List Line) → ((r : ℕ) → times (given_up ds) r ≤ σ.owns r) → ((r : ℕ) → σ.held r ≡ false) → Fine (record { owns = λ r. σ.owns r - times (given_up ds) r; lent = σ.lent; held = λ r. false; empty = σ.empty }) ls → Fine σ (op_lines q (downs ds n) ++ ls)
  downs_check [] n σ ls u off h = alike_off σ (λ r. σ.owns r - 0) ls (λ r. omega arith) off h
  downs_check (d ∷ ds) n σ ls u off h =
      down_check d.1 d.0 σ (op_lines q (downs ds n) ++ ls) (omega (arith, u d.0, same_self d.0)) (downs_check ds n (unheld (with_owns d.0 (σ.owns d.0 - 1) σ)) ls
      (λ r. omega (arith, put-less d.0 σ.owns r, u r))
      (λ r. refl)
      (alike (record { owns = λ r. put d.0 (σ.owns d.0 - 1) σ.owns r - times (given_up ds) r; lent = σ.lent; held = λ r. false; empty = σ.empty }) (λ r. σ.owns r - times (d.0 ∷ given_up ds) r) ls (λ r. omega (arith, put-less d.0 σ.owns r)) h))

  -- the counts of an edge bring the shares from the one number to the other
  pub edge_check : (σ : Shares) (want : ℕ → ℕ) (ops : List (Op × ℕ)) (ls : List Line) → IsEdge σ.owns want ops → ((r : ℕ) → 1 ≤ want r → IsUsable g.vars σ r) → ((r : ℕ) → σ.held r ≡ false) → Fine (record { owns = want; lent = σ.lent; held = λ r. false; empty = σ.empty }) ls → Fine σ (op_lines q ops ++ ls)
  edge_check σ want ops ls e u off h =
      let more : Shares = record σ { owns = λ r. σ.owns r + times e.up r } in
      let body : Fine more (op_lines q (downs e.down 0) ++ ls) =
      downs_check e.down 0 more ls (λ r. omega (arith, e.short r, e.over r)) off (alike (record { owns = λ r. σ.owns r + times e.up r - times (given_up e.down) r; lent = σ.lent; held = λ r. false; empty = σ.empty }) want ls (λ r. omega (arith, e.short r, e.over r)) h) in
      let is : op_lines q ops ++ ls ≡ op_lines q (ups e.up 0) ++ (op_lines q (downs e.down 0) ++ ls) =
      ap (λ z. op_lines q z ++ ls) e.is ∙ (ap (λ z. z ++ ls) (lines_append q (ups e.up 0) (downs e.down 0)) ∙ append_assoc (op_lines q (ups e.up 0)) (op_lines q (downs e.down 0)) ls) in
      subst (Fine σ) (sym is) (ups_check e.up 0 σ (op_lines q (downs e.down 0) ++ ls) (λ r le. u r (omega (arith, e.short r, le))) body)
