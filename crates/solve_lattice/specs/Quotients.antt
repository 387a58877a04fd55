-- What `divide` gives: a division of `reduction`, its rest in the block, and the quotient by slot q in lane 7 - q of a flat array.
use Rattle.std.specs.Prelude.{ℕ, ◌+◌, ◌<◌, ◌≡◌, List, get_or}
use Rattle.modular.specs.Prime.{Prime}
use Rattle.modular.specs.Residue.{residues}
use Rattle.algebra.specs.Polynomial.{Polynomial, polynomials}
use Rattle.reduction.specs.Slots.{Slots}
use Rattle.reduction.specs.Span.{InSpan}
use Rattle.reduction.specs.Division.{DivisionTrace, slot_quotient}
use Rattle.reduction.specs.Holds.{Holds}
use Rattle.reduction.specs.Flat.{Flat, flat}
use Rattle.solve_lattice.specs.Room.{product_words, slot_places, lanes}
use Rattle.solve_lattice.specs.Word.{words}
use Rattle.solve_lattice.specs.Memory.{Level, Ends, Sums}
use Rattle.solve_lattice.specs.Holding.{HoldsSlots}

-- the array of lane 7 - q
abbrev pub HoldsQuotient : (p : ℕ) (prime : Prime p) → List ℕ → ℕ → Polynomial (residues p prime) → Type 0
HoldsQuotient p prime l q = Holds (residues p prime) (λ e. words p prime l 0 product_words (flat lanes q e))

module _ (p : ℕ) (prime : Prime p) (n : ℕ) (ω : ℕ → ℕ) where
  -- f divided by the slots U as far as it has come
  pub record DividedSoFar (U : Slots (Polynomial (residues p prime))) (f : ℕ → Polynomial (residues p prime))
      (block quotients : List ℕ) : Type 0 where
    pub rest : ℕ → Polynomial (residues p prime)
    pub trace : DivisionTrace (polynomials (residues p prime)) n U f rest
    pub holds_rest : Flat (residues p prime) n lanes ω (words p prime block 0 product_words) rest
    pub holds_quotient : (q : ℕ) → q < n → HoldsQuotient p prime quotients q
        (slot_quotient (polynomials (residues p prime)) n U trace q)

  -- memory holds slots and a vector to divide
  pub record Dividend (L : Level) (block : List ℕ) : Type 0 where
    pub slots : Slots (Polynomial (residues p prime))
    pub vector : ℕ → Polynomial (residues p prime)
    pub holds_slots : HoldsSlots p prime n ω L slots
    pub holds : Flat (residues p prime) n lanes ω (words p prime block 0 product_words) vector

-- What is left of the block has so many words, none where the vector is in the span of the slots. It may be inserted into them as
-- it is: its sums have room for all places of the slots and its own.
pub record BlockDivided (p : ℕ) (L : Level) (block block' quotients : List ℕ) (left : ℕ) : Type 0 where
  pub ends : Ends p block' 0 product_words left
  pub sums : Sums p (slot_places + left) block'
  pub below : (i : ℕ) → get_or quotients i 0 < p
  pub divides : (prime : Prime p) (n : ℕ) (ω : ℕ → ℕ) (f : Dividend p prime n ω L block)
      → DividedSoFar p prime n ω f.slots f.vector block' quotients
  pub whole : (prime : Prime p) (n : ℕ) (ω : ℕ → ℕ) (f : Dividend p prime n ω L block)
      → InSpan (polynomials (residues p prime)) n n f.slots f.vector → left ≡ 0
