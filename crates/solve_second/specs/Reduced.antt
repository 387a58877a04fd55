-- The first n words of an area reduced, the others below p already: all below p, and the same residues.
use Rattle.std.specs.Prelude.{ℕ, ◌+◌, ◌%◌, ◌<◌, ◌≤◌, ◌≡◌, refl, List, length, get_or}
use Rattle.std.proofs.Common.{sym, ◌∙◌, ap, subst, mod-lt, mod-eq_of_lt, arith}
use Rattle.modular.specs.Prime.{Prime}
use Rattle.vector.specs.Stored.{stored, stored_all_first}
use Rattle.solve_lattice.specs.Word.{words}
use Rattle.solve_lattice.specs.Range.{words_same}

module _ {p : ℕ} (prime₀ : Prime p) (n : ℕ) (t t' : List ℕ) (stores : t' ≡ stored (λ j. get_or t j 0 % p) t 0 n)
    (inside : n ≤ length t) (others : (i : ℕ) → n ≤ i → get_or t i 0 < p) where
  positive : 0 < p
  positive = omega (arith, prime₀.large)

  word_reduced : (j : ℕ) → get_or t' j 0 ≡ get_or t j 0 % p
  word_reduced = stored_all_first (λ j w. w ≡ get_or t j 0 % p) (λ j. get_or t j 0 % p) t t' n stores inside
      (λ j lt. refl) (λ i ge. sym (mod-eq_of_lt (others i ge)))

  pub reduced_below : (i : ℕ) → get_or t' i 0 < p
  reduced_below i = subst (λ w. w < p) (sym (word_reduced i)) (mod-lt (get_or t i 0) positive)

  pub reduced_words : (prime : Prime p) (N j : ℕ) → words p prime t 0 N j ≡ words p prime t' 0 N j
  reduced_words prime N j = words_same p prime t t' 0 0 N j (λ lt.
      sym (ap (λ w. w % p) (word_reduced (0 + j)) ∙ mod-eq_of_lt (mod-lt (get_or t (0 + j) 0) positive)))
