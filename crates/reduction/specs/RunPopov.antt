-- Slots brought into Popov form, as a function.
use Rattle.std.specs.Prelude.{ℕ, zero, suc, ◌<◌, ◌≤◌, ◌-◌ as ◌-ₙ◌, ◌≡◌, refl, ◌⊎◌, [], ◌∷◌}
use Rattle.std.proofs.Common.{ap, inl, inr, arith}
use Rattle.std.proofs.Math.Decide.{dec_lt, dec_le}
use Rattle.ring.specs.Ring.{Ring}
use Rattle.ring.specs.Identity.{quotes, identity}
use Rattle.ring.specs.Combination.{given, combination}
use Rattle.ring.specs.Total.{total}
use Rattle.algebra.specs.Sized.{Sized}
use Rattle.reduction.specs.Replace.{extend, extend_below, extend_at, below_suc}
use Rattle.reduction.specs.Total.{total_term}
use Rattle.reduction.specs.Pivot.{Pivot}
use Rattle.reduction.specs.Step.{place, place_before}
use Rattle.reduction.specs.Slots.{Slots, Filled, unweighted, put, put_sizes}
use Rattle.reduction.specs.Euclidean.{Euclidean, Cancelling, WithRemainder}
use Rattle.reduction.specs.Popov.{SlotReduced, SlotPopov, Reworked, popov_put, reworked_none, reworked_more}
use Rattle.reduction.specs.Popov.{slot_reduced_none, slot_reduced_more, slot_reduced_tail, slot_reduced_pivot}
use Rattle.reduction.specs.Reducing.{Reducible, FirstReducible, reducing_low, reducing_falls, find_reducible}

module _ {A : Type 0} {R : Ring A} {S : Sized R} (E : Euclidean S) (n : ℕ) (d : A) (some : 0 < S.size d) where
  open R use {add as ◌+◌, mul as ◌*◌, neg as -◌, one as 𝟙}
  open S use {size}

  infixl 65 ◌+◌
  infixl 65 ◌-◌
  infixl 70 ◌*◌
  infix 75 -◌
  abbrev ◌-◌ : A → A → A
  a - b = a + (- b)

  module _ (U : Slots A) (full : Filled S n unweighted U) (i : ℕ) (h : i < n) (f : 0 < U.size i) where
    -- a step: the leading coefficient of the coordinate is taken away
    module _ {v : ℕ → A} (X : SlotReduced S n d U i v) {j : ℕ} (F : FirstReducible S n U i v j) where
      pivot : Pivot S n unweighted (U.at j) j (U.size j)
      pivot = full j F.inside F.reducible.filled

      cancelling : Cancelling S (v j) (U.at j j)
      cancelling = E.cancel (v j) (U.at j j) pivot.positive (omega (arith, pivot.reached, F.reducible.long))

      shift : size cancelling.factor ≡ suc (size (v j) -ₙ U.size j)
      shift = omega (arith, cancelling.shift, pivot.reached)

      abbrev less : ℕ → A
      less c = v c - cancelling.factor * U.at j c

      less_reduced : SlotReduced S n d U i less
      less_reduced = slot_reduced_more S n d X j F.inside F.reducible.other F.reducible.filled cancelling.factor
          (reducing_low S n U i full F cancelling.factor shift (slot_reduced_pivot S n d X full h f)) (λ c l. refl)

      less_falls : (k : ℕ) → k < n → Reducible S n U i less k → place n k (size (less k)) < place n j (size (v j))
      less_falls k l r = place_before n k (size (less k)) j (size (v j)) l F.inside
          (reducing_falls S n U i full F cancelling.factor shift (λ c l. refl) cancelling.smaller k l r)

    -- the vector of slot i with its block reduced
    record Turned : Type 0 where
      pub vector : ℕ → A
      pub reduced : SlotReduced S n d U i vector
      pub ends : (j : ℕ) → j < n → ¬ Reducible S n U i vector j

    turn : (fuel : ℕ) (v : ℕ → A) → SlotReduced S n d U i v
        → ((k : ℕ) → k < n → Reducible S n U i v k → place n k (size (v k)) < fuel) → Turned
    turn zero v X falls = record { vector = v; reduced = X; ends = λ j l r. absurd (omega (arith, falls j l r)) }
    turn (suc fuel) v X falls = go (find_reducible S n U i v) (turn fuel)
      where
        go : ((j : ℕ) × FirstReducible S n U i v j) ⊎ ((j : ℕ) → j < n → ¬ Reducible S n U i v j)
            → ((v : ℕ → A) → SlotReduced S n d U i v
            → ((k : ℕ) → k < n → Reducible S n U i v k → place n k (size (v k)) < fuel) → Turned) → Turned
        go (inr none) rec = record { vector = v; reduced = X; ends = none }
        go (inl x) rec = rec (less X x.1) (less_reduced X x.1)
            (λ k l r. omega (arith, less_falls X x.1 k l r, falls x.0 x.1.inside x.1.reducible))

    turned : Turned
    turned = turn (suc (total n (λ k. place n k (size (U.at i k))))) (U.at i) (slot_reduced_none S n d U i)
        (λ k l r. omega (arith, total_term n (λ k. place n k (size (U.at i k))) k l))

    -- and its tail modulo d
    record Reduced : Type 0 where
      pub vector : ℕ → A
      pub reduced : SlotReduced S n d U i vector
      pub popov : SlotPopov S n d U i vector

    reduce : Reduced
    reduce = record {
      vector = extend n v division.remainder;
      reduced = slot_reduced_tail S n d turned.reduced division.quotient (extend_below n v division.remainder)
          (combination R (extend n v division.remainder n) (v n - division.quotient * d)
          (given 𝟙 (extend_at n v division.remainder) ∷ given (- 𝟙) division.equal ∷ [])
          (identity R (extend n v division.remainder n ∷ v n ∷ division.quotient ∷ d ∷ division.remainder ∷ [])
          (λ ρ q1 q2 q3 q4 q5. search quotes depth 16) refl));
      popov = record {
        block = λ j l ne g. short j l ne g (dec_le (U.size j) (size (v j)));
        tail = omega (arith, division.smaller, ap size (extend_at n v division.remainder));
      };
    }
      where
        v : ℕ → A
        v = turned.vector

        division : WithRemainder S (v n) d
        division = E.divide (v n) d some

        short : (j : ℕ) → j < n → ¬ (j ≡ i) → 0 < U.size j → Dec (U.size j ≤ size (v j))
            → size (extend n v division.remainder j) < U.size j
        short j l ne g (yes k) = absurd (turned.ends j l record { other = ne; filled = g; long = k })
        short j l ne g (no k) = omega (arith, ap size (extend_below n v division.remainder j l))

  -- U with its first s vectors reduced
  pub record PopovForm (U : Slots A) (s : ℕ) : Type 0 where
    pub slots : Slots A
    pub rework : Reworked S n d U slots
    pub popov : (q : ℕ) → q < s → 0 < slots.size q → SlotPopov S n d slots q (slots.at q)

  module _ (U : Slots A) (full : Filled S n unweighted U) where
    upto : (s : ℕ) → s ≤ n → PopovForm U s
    upto zero h = record { slots = U; rework = reworked_none S n d U; popov = λ q l f. absurd (omega arith) }
    upto (suc s) h = next (upto s (omega arith))
      where
        next : PopovForm U s → PopovForm U (suc s)
        next X = go (dec_lt 0 (X.slots.size s))
          where
            G : Slots A
            G = X.slots

            go : Dec (0 < G.size s) → PopovForm U (suc s)
            go (no e) = record {
              slots = G;
              rework = X.rework;
              popov = below_suc s (λ q. 0 < G.size q → SlotPopov S n d G q (G.at q)) X.popov (λ f. absurd (e f));
            }
            go (yes e) =
                let r = reduce G (X.rework.filled full) s (omega arith) e in record {
                  slots = put G s r.vector (G.size s);
                  rework = reworked_more S n d X.rework s (omega arith) e r.reduced;
                  popov = λ q l f. popov_put S n d G s r.popov q
                      (λ ne. X.popov q (omega arith) (omega (arith, put_sizes G s r.vector q)));
                }

    pub popov_form : PopovForm U n
    popov_form = upto n (omega arith)
