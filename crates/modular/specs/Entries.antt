-- Canonical lists by their entries: each below p, the last not 0.
use Rattle.std.specs.Prelude.{◌≡◌, length, get_or}
use mathlib.Core.List.{List, [], ◌∷◌}
use Prim.Native.Nat.{ℕ, zero, suc, ◌<◌}
use Rattle.std.proofs.Common.{arith}
use Rattle.modular.specs.Canonical.{Canonical, LastNonzero}

module _ (p : ℕ) where
  pub canonical_entries : (f : List ℕ) → ((i : ℕ) → i < length f → get_or f i 0 < p)
      → ((n : ℕ) → length f ≡ suc n → 0 < get_or f n 0) → Canonical p f
  unfolding Canonical LastNonzero
  canonical_entries [] below last = tt
  canonical_entries (a ∷ []) below last = (below 0 (omega arith), last 0 (omega arith), tt)
  canonical_entries (a ∷ b ∷ f) below last =
      let rest = canonical_entries (b ∷ f) (λ i h. below (suc i) (omega arith)) (λ n e. last (suc n) (omega arith)) in
      (below 0 (omega arith), tt, rest)

  pub entry_below : (f : List ℕ) → Canonical p f → (i : ℕ) → i < length f → get_or f i 0 < p
  unfolding Canonical
  entry_below [] h i l = absurd (omega arith)
  entry_below (a ∷ f) h zero l = h.0
  entry_below (a ∷ f) h (suc i) l = entry_below f h.2 i (omega arith)

  pub last_positive : (f : List ℕ) → Canonical p f → (n : ℕ) → length f ≡ suc n → 0 < get_or f n 0
  unfolding Canonical
  last_positive [] h n e = absurd (omega arith)
  last_positive (a ∷ []) h zero e = h.1
  last_positive (a ∷ []) h (suc n) e = absurd (omega arith)
  last_positive (a ∷ b ∷ f) h zero e = absurd (omega arith)
  last_positive (a ∷ b ∷ f) h (suc n) e = last_positive (b ∷ f) h.2 n (omega arith)
