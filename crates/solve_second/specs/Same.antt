-- Two levels with the same blocks have the same transposed level: their tails may differ.
use Rattle.std.specs.Prelude.{ℕ, ◌+◌, ◌-◌, ◌*◌, ◌/◌, ◌%◌, ◌<◌, ◌≤◌, ◌≡◌, get_or}
use Rattle.std.proofs.Common.{sym, ◌∙◌, ap, ap₂, subst, arith}
use Rattle.std.proofs.Math.Decide.{dec_lt, dec_le}
use Rattle.solve_lattice.specs.Memory.{height, Level, slot_size}
use Rattle.solve_lattice.specs.Room.{slot_words, block_degrees, lanes, last_lane}
use Rattle.solve_lattice.specs.SameBlocks.{SameLevelBlocks}
use Rattle.solve_second.specs.Greatest.{LowBlocks, greatest, greatest_small, greatest_same}
use Rattle.solve_second.specs.Words.{when, when_same, reversed, lift, block_word, transposed_size, transposed_word}
use Rattle.solve_second.specs.Laid.{SlotsLaid}

module _ {L L' : Level} (same : SameLevelBlocks L L') (low : LowBlocks L) {n : ℕ} (small : n ≤ lanes) where
  pub same_greatest : greatest L' n ≡ greatest L n
  same_greatest = greatest_same L L' n (λ q l. same.sizes q (omega arith))

  pub same_at : (k : ℕ) → slot_size L' (reversed n k) ≡ slot_size L (reversed n k)
  same_at k = same.sizes (reversed n k) (omega arith)

  same_size : (k : ℕ) → transposed_size L' n k ≡ transposed_size L n k
  same_size k = ap₂ (λ m t. when (dec_lt k n) (when (dec_lt 0 m) (lanes * t - k))) (same_at k) same_greatest

  same_lift : (k : ℕ) → lift L' n k ≡ lift L n k
  same_lift k = ap₂ (λ m t. t - height m) (same_at k) same_greatest

  same_block : (q r e : ℕ) → q < lanes → e < block_degrees → block_word L' q r e ≡ block_word L q r e
  same_block q r e l lt =
      let place : slot_words * q + lanes * e + (last_lane - r) ≡ slot_words * q + (lanes * e + (last_lane - r)) = omega arith in
      ap (λ x. get_or L' x 0) place
      ∙ same.words q (lanes * e + (last_lane - r)) l (omega arith)
      ∙ ap (λ x. get_or L x 0) (sym place)

  same_word : (x : ℕ) → transposed_word L' n x ≡ transposed_word L n x
  same_word x =
      ap (λ m. word L' m (greatest L' n) (lift L' n (last_lane - x % lanes))) (same_size (x / slot_words))
      ∙ ap₂ (λ t l. word L' (transposed_size L n (x / slot_words)) t l) same_greatest (same_lift (last_lane - x % lanes))
      ∙ ap (λ v. when (dec_lt 0 (transposed_size L n (x / slot_words))) (when (dec_lt (last_lane - x % lanes) n) v))
      (when_same (dec_lt (x % slot_words) (lanes * greatest L n)) _ _
      (λ inside. ap (when (dec_le (lift L n (last_lane - x % lanes)) (x % slot_words / lanes)))
      (same_block (reversed n (last_lane - x % lanes)) (reversed n (x / slot_words)) _ (omega arith)
      (omega (arith, greatest_small L n small low)))))
    where
      word : (L : Level) (size t l : ℕ) → ℕ
      word L size t l = when (dec_lt 0 size) (when (dec_lt (last_lane - x % lanes) n) (when (dec_lt (x % slot_words) (lanes * t))
          (when (dec_le l (x % slot_words / lanes)) (block_word L (reversed n (last_lane - x % lanes)) (reversed n (x / slot_words))
          (x % slot_words / lanes - l)))))

  pub same_laid : {T : Level} → SlotsLaid n L T → SlotsLaid n L' T
  same_laid laid = record {
    room = laid.room;
    words = λ x lt. laid.words x lt ∙ sym (same_word x);
    sizes = λ k lt. laid.sizes k lt ∙ sym (same_size k);
    tails = laid.tails;
    inverses = λ k lt some.
        laid.inverses k lt (subst (λ m. 0 < m) (same_at k) some) ∙ sym (same.inverses (reversed n k) (omega arith));
  }
