-- Each task is done by its call; how long what task 1 gives is.
use mathlib.Core.List.{List, [], ◌∷◌}
use mathlib.Core.Logic.{◌⊎◌, inl, inr}
use mathlib.Core.Path.{◌≡◌, refl, sym, subst}
use Prim.Native.Nat.{ℕ, zero, suc, ◌≤◌, ◌<◌}
use native.Mathlib.Omega.{arith}
use lib.ListN.{length}
use Rattle.text.specs.Output.{draft, longest, Gives}
use Rattle.report.specs.Printed.{printed, sheet}
use Rattle.report.proofs.Fitting.{printed_fits, no_sheet_short}
use Rattle.report.proofs.Sheets.{sheet_least, sheet_most}
use Rattle.zestanchor.specs.Tasks.{or_else, certified, no_task, Done}

pub done_as : (task k : ℕ) (input entry exit : List ℕ) (r : ℕ) → task ≡ k → Done k input entry exit r → Done task input entry exit r
done_as task k input entry exit r e d = subst (λ (t : ℕ). Done t input entry exit r) (sym e) d

pub nothing_done : (task : ℕ) (input entry : List ℕ) → 4 < task → Done task input entry entry no_task
nothing_done zero input entry h = absurd (omega arith)
nothing_done (suc zero) input entry h = absurd (omega arith)
nothing_done (suc (suc zero)) input entry h = absurd (omega arith)
nothing_done (suc (suc (suc zero))) input entry h = absurd (omega arith)
nothing_done (suc (suc (suc (suc zero)))) input entry h = absurd (omega arith)
nothing_done (suc (suc (suc (suc (suc task))))) input entry h = (refl, refl)

-- ---- the length that task 1 gives

module _ (s : List ℕ) where
  by_sheet : (P : List ℕ → Type 0) → (sheet s ≡ [] → P (printed s)) → ((sheet s ≡ [] → ⊥) → P (sheet s)) → P (certified s)
  unfolding certified
  by_sheet P none some = go (sheet s) none some
    where
      go : (b : List ℕ) → (b ≡ [] → P (printed s)) → ((b ≡ [] → ⊥) → P b) → P (or_else b (printed s))
      go [] none some = none refl
      go (x ∷ b) none some = some (λ e. let z : ◌≡◌ {A = ℕ} 0 1 = cc in omega arith)

  -- "16,384 bytes are room for every answer."
  pub certified_fits : length (certified s) ≤ draft
  unfolding longest
  certified_fits = by_sheet (λ l. length l ≤ draft) (λ _. omega (arith, printed_fits s)) (λ _. omega (arith, sheet_most s))

  -- A draft has room for what is printed.
  pub printed_size : (entry exit : List ℕ) (r : ℕ) → length entry ≡ draft → Gives (printed s) entry exit r → r ≡ length (printed s)
  unfolding longest
  printed_size entry exit r e g = g.fits (omega (arith, printed_fits s))

  -- "A length that tells the two apart": a sheet has at least 39 bytes, the line of a refusal fewer.
  pub refusal_shorter : sheet s ≡ [] → length (certified s) < 39
  refusal_shorter e = by_sheet (λ l. length l < 39) (λ _. omega (arith, no_sheet_short s e)) (λ d. absurd (d e))

  pub sheet_longer : (sheet s ≡ [] → ⊥) → 39 ≤ length (certified s)
  sheet_longer d = by_sheet (λ l. 39 ≤ length l) (λ e. absurd (d e)) (λ _. long (sheet_least s))
    where
      long : (sheet s ≡ []) ⊎ (39 ≤ length (sheet s)) → 39 ≤ length (sheet s)
      long (inl e) = absurd (d e)
      long (inr h) = h
