-- Numbers stored into one lane of a flat block: 8 words apart, from one place on.
use Prim.Native.Nat.{ℕ, zero, suc, ◌+◌, ◌*◌, ◌<◌}
use Rattle.std.specs.Prelude.{◌≡◌, List, length, get_or, set}
use Rattle.std.proofs.Math.Path.{refl}
use Rattle.std.proofs.Common.{◌∙◌, ap₂, eq-or-lt_of_le, le_of_suc-le-suc, not-suc-le-zero, add-one, arith, get_or-set_same}
use Rattle.std.proofs.Math.Logic.{⊎_elim}
use Rattle.std.proofs.Math.ListN.{length-set}
use Rattle.std.proofs.Math.Seq.{get_or-set_other}
use Rattle.solve_lattice.specs.Room.{lanes}

-- l with f 0 .. f (n - 1) at d, d + 8, ..
unfoldable pub lane : (ℕ → ℕ) → List ℕ → ℕ → ℕ → List ℕ
lane f l d zero = l
lane f l d (suc n) = set (lane f l d n) (d + lanes * n) (f n)

module _ (f : ℕ → ℕ) (l : List ℕ) (d : ℕ) where
  pub length_lane : (n : ℕ) → length (lane f l d n) ≡ length l
  unfolding lane
  length_lane zero = refl
  length_lane (suc n) = length-set (lane f l d n) (d + lanes * n) (f n) ∙ length_lane n

  pub lane_inside : (n e : ℕ) → d + lanes * n < length l + lanes → e < n → get_or (lane f l d n) (d + lanes * e) 0 ≡ f e
  unfolding lane
  lane_inside zero e room h = absurd (not-suc-le-zero h)
  lane_inside (suc n) e room h =
      ⊎_elim
      (λ same. rw same (get_or-set_same (lane f l d n) (d + lanes * n) (f n) 0 (rw length_lane (omega arith))))
      (λ lt. get_or-set_other (lane f l d n) (d + lanes * n) (d + lanes * e) (f n) 0 (λ q. omega arith)
      ∙ lane_inside n e (omega arith) lt)
      (eq-or-lt_of_le (le_of_suc-le-suc h))

  pub lane_outside : (n i : ℕ) → ((e : ℕ) → e < n → ¬ (i ≡ d + lanes * e)) → get_or (lane f l d n) i 0 ≡ get_or l i 0
  unfolding lane
  lane_outside zero i out = refl
  lane_outside (suc n) i out =
      get_or-set_other (lane f l d n) (d + lanes * n) i (f n) 0 (out n (omega arith)) ∙ lane_outside n i (λ e lt. out e (omega arith))

  -- a loop that has stored nothing yet, and a turn of it
  pub lane_none : l ≡ lane f l d 0
  unfolding lane
  lane_none = refl

  pub lane_more : (n : ℕ) (w : List ℕ) (v : ℕ) → w ≡ lane f l d n → v ≡ f n → set w (d + lanes * n) v ≡ lane f l d (n + 1)
  unfolding lane
  lane_more n w v e ev = rw (add-one, e, ev)

-- equal numbers are the same memory
pub lane_same : (f g : ℕ → ℕ) (l : List ℕ) (d n : ℕ) → ((e : ℕ) → e < n → f e ≡ g e) → lane f l d n ≡ lane g l d n
unfolding lane
lane_same f g l d zero same = refl
lane_same f g l d (suc n) same =
    ap₂ (λ w v. set w (d + lanes * n) v) (lane_same f g l d n (λ e h. same e (omega arith))) (same n (omega arith))
