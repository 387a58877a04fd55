-- The right side of the second system of a level with row h of its blocks for tails is laid out from the blocks.
use Rattle.std.specs.Prelude.{ℕ, ◌+◌, ◌-◌, ◌*◌, ◌<◌, ◌≤◌, ◌≡◌, refl, List}
use Rattle.std.proofs.Common.{sym, ◌∙◌, ap, subst, arith}
use Rattle.std.proofs.Math.Decide.{dec_lt}
use Rattle.solve_lattice.specs.Memory.{height, Level, slot_size}
use Rattle.solve_second.specs.Greatest.{LowBlocks, greatest, greatest_small}
use Rattle.solve_second.specs.Words.{when_yes, reversed, block_word, tail_word}
use Rattle.solve_second.specs.Spread.{Spread, spread_same}
use Rattle.solve_second.specs.SideFilling.{TailsEnd, SideFilling, side_filling_lane, side_filling_none}
use Rattle.solve_second.specs.Same.{same_greatest, same_at}
use Rattle.solve_second.specs.WithRow.{with_row, row_blocks, row_tail, row_tail_size}
use Rattle.solve_lattice.specs.Room.{block_degrees, lanes, last_lane}

module _ (h : ℕ) (L : Level) (low_blocks : LowBlocks L) {n : ℕ} (small : n ≤ lanes) where
  -- lane i of the right side
  pub side_filling_row : TailsEnd (with_row h L) → (i : ℕ) → i < n → {o w w' : List ℕ}
      → SideFilling (with_row h L) n o w i → {t : ℕ} → t ≡ greatest L n
      → Spread (λ e. block_word L (reversed n i) h e) (last_lane - i + lanes * (t - height (slot_size L (reversed n i))))
      (height (slot_size L (reversed n i))) w w' → SideFilling (with_row h L) n o w' (i + 1)
  side_filling_row ends i lane {o} {w} {w'} so_far {t} et spread = go (dec_lt 0 (slot_size (with_row h L) (reversed n i)))
    where
      low : height (slot_size L (reversed n i)) ≤ block_degrees
      low = omega (arith, low_blocks (reversed n i) (omega arith))

      go : Dec (0 < slot_size (with_row h L) (reversed n i)) → SideFilling (with_row h L) n o w' (i + 1)
      go (yes some) = side_filling_lane (with_row h L) n i lane some small
          (subst (λ m. m ≤ block_degrees) (sym (same_greatest (row_blocks h L) low_blocks small))
          (greatest_small L n small low_blocks))
          (omega (arith, low))
          (λ j ge lt. ends.zero (reversed n i) j (omega arith)
          (omega (arith, row_tail_size h L (reversed n i) (omega arith))) lt)
          so_far (et ∙ sym (same_greatest (row_blocks h L) low_blocks small))
          (spread_same spread (λ e. tail_word (with_row h L) (reversed n i) e)
          (λ e lt. sym (row_tail h L (reversed n i) e (omega arith) (omega (arith, low))
          ∙ when_yes (dec_lt e block_degrees) _ (omega (arith, low))))
          (ap (λ m. last_lane - i + lanes * (t - height m)) (sym (same_at (row_blocks h L) low_blocks small i))) refl)
      go (no none) = side_filling_none (with_row h L) n i lane none so_far
          (spread_same spread (λ e. block_word L (reversed n i) h e) (λ e lt. refl) refl
          (omega (arith, same_at (row_blocks h L) low_blocks small i)))
