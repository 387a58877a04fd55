use Prim.Native.Nat.{ℕ, ◌+◌, ◌-◌, ◌*◌, ◌<◌, ◌≤◌}
use mathlib.Core.Path.{◌≡◌, sym, ◌∙◌, ap, subst}
use mathlib.Core.List.{List}
use native.Mathlib.Nat.{zero-add}
use native.Mathlib.Omega.{arith}
use lib.ListN.{get_or}
use Rattle.vector.specs.Stored.{stored}
use Rattle.vector.proofs.Storing.{Storing, storing_start, storing_row, storing_end}
use Rattle.solve_lattice.specs.Room.{rows_words, block_words, lanes, last_lane}
use Rattle.solve_second.specs.Words.{reversed}
use Rattle.solve_second.specs.QuotientRows.{quotient_word, lane_row, no_row}
use Rattle.solve_second.proofs.rows.store_rows.Goals as goal

module _ (l : List ℕ) (n : ℕ) (o w : List ℕ) (k : ℕ) (so_far : Storing (quotient_word l n) o 0 rows_words w (block_words * k))
    (small : n ≤ lanes)
    (w' : List ℕ) where
  row-turn : k < n → w' ≡ stored (λ e. get_or l (lanes * e + (last_lane - reversed n k)) 0) w (block_words * k) block_words
      → Storing (quotient_word l n) o 0 rows_words w' (block_words * (k + 1))
  row-turn lt stores =
      let next : block_words * k + block_words ≡ block_words * (k + 1) = omega arith in
      subst (Storing (quotient_word l n) o 0 rows_words w') next
      (storing_row so_far (λ e. get_or l (lanes * e + (last_lane - reversed n k)) 0) block_words w' (omega arith)
      (λ e below. lane_row l n k e lt below)
      (stores ∙ ap (λ d. stored (λ e. get_or l (lanes * e + (last_lane - reversed n k)) 0) w d block_words)
      (sym (zero-add (block_words * k)))))

  rows_end : k ≡ n → w' ≡ stored (λ j. 0) w (block_words * n) (rows_words - block_words * n)
      → w' ≡ stored (quotient_word l n) o 0 rows_words
  rows_end all stores = storing_end (storing_row so_far (λ j. 0) (rows_words - block_words * n) w' (omega arith)
      (λ i below. subst (λ h. 0 ≡ quotient_word l n (block_words * h + i)) (sym all) (no_row l n i))
      (stores ∙ ap (λ d. stored (λ j. 0) w d (rows_words - block_words * n)) (omega arith))) (omega arith)

pub loop-k-init : goal.loop-k-init
loop-k-init c = storing_start _ _ _ _

pub loop-k-preserved : goal.loop-k-preserved
loop-k-preserved c =
    row-turn c.args.quotients.now c.args.n c.args.rows.now c.loop-k.rows c.loop-k.k c.loop-k.invariant
    c.requires.0 _ (omega arith) c.gather_lane.ensures

pub returns : goal.returns
returns c =
    rows_end c.args.quotients.now c.args.n c.args.rows.now c.loop-k.rows c.loop-k.k c.loop-k.invariant
    c.requires.0 _ (omega arith) c.clear.ensures
