-- The three numbers of a slot set behind the slots of a level; all other words stay.
use Rattle.std.specs.Prelude.{ℕ, ◌+◌, ◌<◌, ◌≤◌, ◌≡◌, length, get_or, set}
use Rattle.std.proofs.Common.{◌∙◌, arith, length-set, get_or-set_same, get_or-set_other}
use Rattle.solve_lattice.specs.Room.{level_words, inverses_from, tail_sizes_from, sizes_from, lanes}
use Rattle.solve_lattice.specs.Memory.{Level, slot_size, tail_size, slot_inverse}

-- of slot q the size k, the size t of its tail, and the inverse i
abbrev pub noted : Level → (q k t i : ℕ) → Level
noted L q k t i = set (set (set L (sizes_from + q) k) (tail_sizes_from + q) t) (inverses_from + q) i

module _ (L : Level) (q k t i : ℕ) where
  abbrev L₁ : Level
  L₁ = set L (sizes_from + q) k

  abbrev L₂ : Level
  L₂ = set (set L (sizes_from + q) k) (tail_sizes_from + q) t

  pub noted_length : length (noted L q k t i) ≡ length L
  noted_length = length-set L₂ (inverses_from + q) i ∙ length-set L₁ (tail_sizes_from + q) t ∙ length-set L (sizes_from + q) k

  pub noted_other : (x : ℕ) → ¬ (x ≡ sizes_from + q) → ¬ (x ≡ tail_sizes_from + q) → ¬ (x ≡ inverses_from + q)
      → get_or (noted L q k t i) x 0 ≡ get_or L x 0
  noted_other x a b c =
      get_or-set_other L₂ (inverses_from + q) x i 0 c ∙ get_or-set_other L₁ (tail_sizes_from + q) x t 0 b
      ∙ get_or-set_other L (sizes_from + q) x k 0 a

  pub noted_word : (x : ℕ) → x < sizes_from → get_or (noted L q k t i) x 0 ≡ get_or L x 0
  noted_word x h = noted_other x (λ e. omega arith) (λ e. omega arith) (λ e. omega arith)

  module _ (inside : q < lanes) (room : level_words ≤ length L) where
    pub noted_size : slot_size (noted L q k t i) q ≡ k
    noted_size =
        get_or-set_other L₂ (inverses_from + q) (sizes_from + q) i 0 (λ e. omega arith)
        ∙ get_or-set_other L₁ (tail_sizes_from + q) (sizes_from + q) t 0 (λ e. omega arith)
        ∙ get_or-set_same L (sizes_from + q) k 0 (omega arith)

    pub noted_tail : tail_size (noted L q k t i) q ≡ t
    noted_tail =
        get_or-set_other L₂ (inverses_from + q) (tail_sizes_from + q) i 0 (λ e. omega arith)
        ∙ get_or-set_same L₁ (tail_sizes_from + q) t 0 (omega (arith, length-set L (sizes_from + q) k))

    pub noted_inverse : slot_inverse (noted L q k t i) q ≡ i
    noted_inverse = get_or-set_same L₂ (inverses_from + q) i 0 (omega
        (arith, length-set L₁ (tail_sizes_from + q) t, length-set L (sizes_from + q) k))
