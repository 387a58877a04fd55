-- L8 in memory, the end: where the right side was inserted, and w times it divided by the transposed slots, the quotients are the
-- row Y of the second system, in reversed order.
use Rattle.std.specs.Prelude.{ℕ, ◌<◌, ◌≡◌, refl, List}
use Rattle.std.proofs.Common.{sym, ◌∙◌, ap, arith}
use Rattle.ring.specs.Ring.{Ring}
use Rattle.ring.specs.Sum.{sum_ext}
use Rattle.algebra.specs.Polynomial.{Polynomial, polynomials}
use Rattle.algebra.specs.Size.{sized}
use Rattle.modular.specs.Prime.{Prime}
use Rattle.modular.specs.Residue.{residues}
use Rattle.reduction.specs.Replace.{extend_below}
use Rattle.reduction.specs.Slots.{Slots}
use Rattle.reduction.specs.Span.{combined, InSpan}
use Rattle.reduction.specs.Euclidean.{Associate}
use Rattle.reduction.specs.Division.{slot_quotient, quotient_empty, division_quotients}
use Rattle.reduction.specs.Inserting.{cleared}
use Rattle.reduction.specs.Transpose.{Tops, back, transposed, second_side, weights}
use Rattle.reduction.specs.Second.{second_span, second_dual}
use Rattle.reduction.specs.Dual.{Dual}
use Rattle.reduction.specs.Flat.{Flat}
use Rattle.solve_lattice.specs.Word.{words}
use Rattle.solve_lattice.specs.Memory.{Level, Memory}
use Rattle.solve_lattice.specs.Holding.{HoldsSlots}
use Rattle.solve_lattice.specs.Reading.{ends_zero}
use Rattle.solve_lattice.specs.Quotients.{HoldsQuotient, Dividend, DividedSoFar, BlockDivided}
use Rattle.solve_lattice.specs.Room.{product_words, lanes}
use Rattle.solve_second.specs.SideInserted.{InsertedSide}

-- tails do not matter for the span of blocks
module _ {A : Type 0} (R : Ring A) (n : ℕ) (U : Slots A) where
  combined_cleared : (c : ℕ → A) (k : ℕ) → k < n → combined R n c (cleared R n U) k ≡ combined R n c U k
  combined_cleared c k h = sum_ext R n (λ q. R.mul (c q) ((cleared R n U).at q k)) (λ q. R.mul (c q) (U.at q k))
      (λ q g. ap (R.mul (c q)) (extend_below n (U.at q) R.zero k h))

  span_cleared : {x : ℕ → A} → InSpan R n n U x → InSpan R n n (cleared R n U) x
  span_cleared s = record {
    coefficient = s.coefficient;
    empty = s.empty;
    equal = λ k h. s.equal k h ∙ sym (combined_cleared s.coefficient k h);
  }

  abbrev span_uncleared : {x : ℕ → A} → InSpan R n n (cleared R n U) x → InSpan R n n U x
  span_uncleared s = record {
    coefficient = s.coefficient;
    empty = s.empty;
    equal = λ k h. s.equal k h ∙ combined_cleared s.coefficient k h;
  }

-- lane 7 - (n - 1 - k) of the quotients holds Y k
pub record HoldsDual (p : ℕ) (prime : Prime p) (n B D : ℕ) (U : Slots (Polynomial (residues p prime)))
    (w : Polynomial (residues p prime)) (quotients : List ℕ) : Type 0 where
  pub Y : ℕ → Polynomial (residues p prime)
  pub holds : (k : ℕ) → k < n → HoldsQuotient p prime quotients (back n k) (Y k)
  pub dual : Dual (sized (residues p prime)) n B U w Y

module _ (p : ℕ) (prime : Prime p) {n B D : ℕ} {U : Slots (Polynomial (residues p prime))}
    (O : Tops (sized (residues p prime)) n B D U)
    {M : Memory} (I : InsertedSide p prime n D U M) {Monic : Polynomial (residues p prime) → Type 0}
    (m : Associate (sized (residues p prime)) Monic (I.run.now.hand n)) where
  abbrev R : Ring (Polynomial (residues p prime))
  R = polynomials (residues p prime)

  abbrev C : Slots (Polynomial (residues p prime))
  C = transposed (polynomials (residues p prime)) n D U

  abbrev w : Polynomial (residues p prime)
  w = (polynomials (residues p prime)).mul m.unit (I.run.now.hand n)

  abbrev pub scaled_side : ℕ → Polynomial (residues p prime)
  scaled_side i = (polynomials (residues p prime)).mul ((polynomials (residues p prime)).mul m.unit (I.run.now.hand n))
      (second_side (polynomials (residues p prime)) n D U i)

  pub divided_dual : {L : Level} {block block' quotients : List ℕ} {left : ℕ}
      → HoldsSlots p prime n (weights (polynomials (residues p prime)) n D U) L (cleared (polynomials (residues p prime)) n
      (transposed (polynomials (residues p prime)) n D U))
      → Flat (residues p prime) n lanes (weights (polynomials (residues p prime)) n D U) (words p prime block 0 product_words)
      scaled_side
      → BlockDivided p L block block' quotients left
      → HoldsDual p prime n B D U ((polynomials (residues p prime)).mul m.unit (I.run.now.hand n)) quotients
  divided_dual {L} {block} {block'} {quotients} {left} slots flat done = record {
    Y = λ k. slot_quotient R n (cleared R n C) Q.trace (back n k);
    holds = λ k h. Q.holds_quotient (back n k) (omega arith);
    dual = second_dual O I.run I.ends m
        (span_uncleared R n C (record {
          coefficient = slot_quotient R n (cleared R n C) Q.trace;
          empty = quotient_empty R n (cleared R n C) Q.trace;
          equal = division_quotients R n (cleared R n C) Q.trace (ends_zero p prime done.ends Q.holds_rest none);
        })) (λ k. slot_quotient R n (cleared R n C) Q.trace (back n k)) (λ k h. refl);
  }
    where
      f : Dividend p prime n (weights (polynomials (residues p prime)) n D U) L block
      f = record { slots = cleared R n C; vector = scaled_side; holds_slots = slots; holds = flat }

      Q : DividedSoFar p prime n (weights (polynomials (residues p prime)) n D U) (cleared R n C) scaled_side block' quotients
      Q = done.divides prime n (weights (polynomials (residues p prime)) n D U) f

      none : left ≡ 0
      none = done.whole prime n (weights (polynomials (residues p prime)) n D U) f
          (span_cleared R n C (second_span O I.run I.ends m))
