-- What `find_leading` finds, where all words from the k-th on are 0 modulo p: the size of the range, and its last word.
use Rattle.std.specs.Prelude.{ℕ, ◌+◌, ◌-◌, ◌%◌, ◌<◌, ◌≤◌, ◌≡◌, List, length, get_or, take, drop}
use Rattle.std.proofs.Common.{sym, ◌∙◌, ap, subst, ⊎_elim, zero-add, arith, length-take}
use Rattle.algebra.specs.Coefficients.{leading}
use Rattle.modular.specs.Modulo.{modulo}
use Rattle.vector.specs.Stored.{below_or_not}
use Rattle.vector.specs.Reduced.{polynomial, word_inside}
use Rattle.vector.specs.Size.{word_past, word_last, word_last_positive, size_reduced}
use Rattle.solve_lattice.specs.Memory.{ZeroFrom, Ends}

module _ (p : ℕ) (positive : 0 < p) (l : List ℕ) (N k : ℕ) (within : k ≤ N) (behind : ZeroFrom p l 0 N k) (size : ℕ)
    (found : size ≡ length (polynomial p l 0 k)) where
  abbrev range : List ℕ
  range = take k (drop 0 l)

  pub found_within : size ≤ k
  found_within = omega (arith, size_reduced p range, length-take k (drop 0 l))

  last_word : 0 < size → get_or range (size - 1) 0 ≡ get_or l (0 + (size - 1)) 0
  last_word some = word_inside l 0 k (size - 1) (omega (arith, found_within))

  pub found_ends : Ends p l 0 N size
  found_ends = record {
    within = omega (arith, found_within);
    last = λ some. subst (λ w. 0 < w % p) (last_word some) (word_last_positive p positive range (size - 1) (omega arith));
    behind = λ j h lt. ⊎_elim
        (λ less. ap (λ w. w % p) (sym (word_inside l 0 k j less)) ∙ word_past p positive range j (omega arith))
        (λ more. behind j more lt)
        (below_or_not j k);
  }

  pub found_leading : (value : ℕ) → value ≡ leading (modulo p) (polynomial p l 0 k) → 0 < size → value ≡ get_or l (size - 1) 0 % p
  found_leading value e some =
      e
      ∙ word_last p positive range (size - 1) (omega arith)
      ∙ ap (λ w. w % p) (last_word some ∙ ap (λ i. get_or l i 0) (zero-add (size - 1)))
