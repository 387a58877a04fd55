-- The greatest height of a level's first n slots: the transposed slots need no more degrees.
use Rattle.std.specs.Prelude.{ℕ, zero, suc, ◌+◌, ◌<◌, ◌≤◌, max, ◌≡◌}
use Rattle.std.proofs.Math.Path.{refl}
use Rattle.std.proofs.Common.{◌∙◌, ap, ap₂, arith}
use Rattle.std.proofs.Math.Decide.{ℕ_discrete}
use Rattle.solve_lattice.specs.Room.{block_words, block_degrees, lanes}
use Rattle.solve_lattice.specs.Memory.{height, Level, slot_size}

unfoldable pub greatest : Level → ℕ → ℕ
greatest L zero = 0
greatest L (suc n) = max (greatest L n) (height (slot_size L n))

-- no block has more than 128 words
abbrev pub LowBlocks : Level → Type 0
LowBlocks L = (q : ℕ) → q < lanes → slot_size L q ≤ block_words

module _ (L : Level) where
  pub greatest_none : greatest L 0 ≡ 0
  unfolding greatest
  greatest_none = refl

  greatest_next : (n : ℕ) → greatest L (suc n) ≡ max (greatest L n) (height (slot_size L n))
  unfolding greatest
  greatest_next n = refl

  pub greatest_turn : (n : ℕ) → greatest L (n + 1) ≡ max (greatest L n) (height (slot_size L n))
  greatest_turn n = ap (greatest L) (omega arith) ∙ greatest_next n

  pub greatest_high : (n q : ℕ) → q < n → height (slot_size L q) ≤ greatest L n
  greatest_high zero q h = absurd (omega arith)
  greatest_high (suc n) q h = go (ℕ_discrete q n) (λ l. greatest_high n q l)
    where
      go : Dec (q ≡ n) → (q < n → height (slot_size L q) ≤ greatest L n) → height (slot_size L q) ≤ greatest L (suc n)
      go (yes e) before = omega (arith, ap (λ m. height (slot_size L m)) e, greatest_next n)
      go (no e) before = omega (arith, greatest_next n, before (omega arith))

  greatest_low : (n b : ℕ) → ((q : ℕ) → q < n → height (slot_size L q) ≤ b) → greatest L n ≤ b
  greatest_low zero b low = omega (arith, greatest_none)
  greatest_low (suc n) b low = omega (arith, greatest_next n, greatest_low n b (λ q h. low q (omega arith)), low n (omega arith))

  pub greatest_small : (n : ℕ) → n ≤ lanes → LowBlocks L → greatest L n ≤ block_degrees
  greatest_small n small low = greatest_low n block_degrees (λ q h. omega (arith, low q (omega arith)))

  pub greatest_positive : (n q : ℕ) → q < n → 0 < slot_size L q → 0 < greatest L n
  greatest_positive n q h some = omega (arith, greatest_high n q h)

pub greatest_same : (L L' : Level) (n : ℕ) → ((q : ℕ) → q < n → slot_size L' q ≡ slot_size L q) → greatest L' n ≡ greatest L n
unfolding greatest
greatest_same L L' zero same = refl
greatest_same L L' (suc n) same =
    ap₂ (λ t m. max t (height m)) (greatest_same L L' n (λ q h. same q (omega arith))) (same n (omega arith))
