-- Words divided by the last of them that counts: the monic associate of the polynomial that they hold.
use Rattle.std.specs.Prelude.{ℕ, suc, ◌+◌, ◌-◌, ◌*◌, ◌%◌, ◌<◌, ◌≤◌, ◌≡◌, refl, List, length}
use Rattle.std.proofs.Common.{sym, ◌∙◌, ap₂, subst, inr, ⊎_elim, mod-lt, zero-add, eq-zero-or-pos, arith}
use Rattle.std.proofs.Math.Path.{ap}
use Rattle.std.proofs.Math.Nat.{zero-mod}
use Rattle.std.proofs.Math.Decide.{dec_lt}
use Rattle.std.proofs.Math.ListN.{get_or, get_or-eq_default}
use Rattle.ring.specs.Ring.{mul_zero, zero_mul, one_mul}
use Rattle.algebra.specs.Field.{Field}
use Rattle.algebra.specs.Coefficients as lists
use Rattle.algebra.specs.Polynomial.{Polynomial, polynomials, coefficients}
use Rattle.algebra.specs.Expressions.{scale, coefficients_scale}
use Rattle.algebra.specs.Size.{size, leading, sized, coefficients_last}
use Rattle.algebra.specs.Monic.{Monic, monic, monic_scale, monic_monic, divides_monic, monic_divides, monic_associates}
use Rattle.algebra.specs.Divides.{Divides, divides_trans}
use Rattle.modular.specs.Prime.{Prime}
use Rattle.modular.specs.Modulo.{modulo}
use Rattle.modular.specs.Residue.{Residue, residues}
use Rattle.residue.specs.Below.{mul_below}
use Rattle.vector.specs.Bound.{AtMost, Reducible}
use Rattle.solve_lattice.specs.Sums.{sums_room}
use Rattle.vector.specs.Stored.{stored, length_stored, stored_inside, stored_outside, below_or_not}
use Rattle.vector.specs.Reduced.{polynomial}
use Rattle.reduction.specs.Euclidean.{Associate}
use Rattle.reduction.specs.Polynomials.{associate}
use Rattle.reduction.specs.Holds.{Holds, holds_size, holds_size_exact}
use Rattle.solve_lattice.specs.Memory.{ZeroFrom, Ends, Sums}
use Rattle.solve_lattice.specs.Word.{residue, residue_mod, residue_mul, residue_zero, zero_residue, residue_inverse}
use Rattle.solve_lattice.specs.Word.{words, words_inside, words_behind, words_first}
use Rattle.solve_lattice.specs.Range.{words_zero}
use Rattle.solve_lattice.specs.Found.{found_within, found_ends, found_leading}
use Rattle.solve_lattice.specs.Room.{block_words, tail_words, most_coefficients}
use Rattle.solve_second.specs.Monic.{MadeMonic}
use Rattle.solve_second.specs.ProductLaws.{cleared_length, cleared_none}

-- the words of a tail can be reduced
pub sums_reducible : (p : ℕ) (l : List ℕ) (n : ℕ) → 0 < p → Sums p 0 l → Reducible p l n
sums_reducible p l n positive sums j lt = omega (arith, sums_room p l 0 positive sums j)

-- the unit's multiple of x, by coefficients
module _ {K : Type 0} (F : Field K) (x : Polynomial F) (some : 0 < size F x) where
  abbrev A : Associate (sized F) (Monic F) x
  A = associate F x some

  up : Divides (polynomials F) ((polynomials F).mul A.unit x) x
  up = record {
    cofactor = A.inverse;
    product =
        sym (sym ((polynomials F).mul_assoc A.inverse A.unit x)
        ∙ ap (λ u. (polynomials F).mul u x) ((polynomials F).mul_comm A.inverse A.unit ∙ A.unit_inverse)
        ∙ one_mul (polynomials F) x);
  }

  associate_scale : (polynomials F).mul (associate F x some).unit x ≡ scale F (F.inverse (leading F x)) x
  associate_scale =
      monic_associates F ((polynomials F).mul A.unit x) (monic F x) A.monic (monic_monic F x some)
      (divides_trans up (divides_monic F x)) (divides_trans (monic_divides F x) (record { cofactor = A.unit; product = refl }))
      ∙ monic_scale F x

module _ {p : ℕ} (prime₀ : Prime p) (tail : List ℕ) (zero : ZeroFrom p tail 0 tail_words most_coefficients) (found : ℕ)
    (found_is : found ≡ length (polynomial p tail 0 most_coefficients)) where
  positive : 0 < p
  positive = omega (arith, prime₀.large)

  tail_ends : Ends p tail 0 tail_words found
  tail_ends = found_ends p positive tail tail_words most_coefficients (omega arith) zero found found_is

  pub found_most : found ≤ most_coefficients
  found_most = found_within p positive tail tail_words most_coefficients (omega arith) zero found found_is

  -- a tail that is zero
  pub monic_empty : (out out' : List ℕ) → length out ≡ block_words → found ≡ 0 → out' ≡ stored (λ j. 0) out 0 block_words
      → MadeMonic p tail out' 0
  monic_empty out out' length_is none clears = record {
    room = cleared_length block_words out out' clears ∙ length_is;
    below = λ i. omega (arith, clear i);
    ends = record {
      within = omega arith;
      last = λ h. absurd (omega arith);
      behind = λ j ge lt.
          let word : get_or out' (0 + j) 0 ≡ 0 = omega (arith, clear (0 + j)) in
          ap (λ w. w % p) word ∙ zero-mod p;
    };
    holds = λ prime x some A. absurd (omega (
      arith,
      holds_size (residues p prime) A 0 (λ j ge. words_zero p prime tail 0 tail_words found tail_ends.behind j (omega arith)),
    ));
  }
    where
      clear : AtMost 0 out'
      clear = cleared_none block_words out out' clears length_is

  -- one that is not
  module _ (value : ℕ) (value_is : value ≡ lists.leading (modulo p) (polynomial p tail 0 most_coefficients)) (some : 0 < found) where
    last_is : value ≡ get_or tail (found - 1) 0 % p
    last_is = found_leading p positive tail tail_words most_coefficients (omega arith) zero found found_is value value_is some

    pub value_positive : 0 < value
    value_positive = subst (λ w. 0 < w) (sym last_is)
        (subst (λ i. 0 < get_or tail i 0 % p) (zero-add (found - 1)) (tail_ends.last some))

    pub value_below : value < p
    value_below = subst (λ w. w < p) (sym last_is) (mod-lt (get_or tail (found - 1) 0) positive)

    -- the words that count are stored over cleared ones
    module _ (factor : ℕ) (factor_is : factor ≡ (modulo p).inverse value) (out out₁ out' : List ℕ)
        (length_is : length out ≡ block_words)
        (clears : out₁ ≡ stored (λ j. 0) out 0 block_words)
        (stores : out' ≡ stored (λ j. (modulo p).mul (get_or tail j 0 % p) factor) out₁ 0 found) where
      room : length out₁ ≡ block_words
      room = ap length clears ∙ length_stored (λ j. 0) out 0 block_words ∙ length_is

      -- behind the last word that counts the tail is 0, and so is its multiple
      none : (j : ℕ) → found ≤ j → j < block_words → (modulo p).mul (get_or tail j 0 % p) factor ≡ 0
      unfolding modulo
      none j ge lt =
          ap (λ (w : ℕ). w * factor % p) (ap (λ i. get_or tail i 0 % p) (sym (zero-add j)) ∙ tail_ends.behind j ge (omega arith))
          ∙ ap (λ (w : ℕ). w % p) (omega arith)
          ∙ zero-mod p

      word : (j : ℕ) → j < block_words → get_or out' (0 + j) 0 ≡ (modulo p).mul (get_or tail j 0 % p) factor
      word j lt = ap (λ l. get_or l (0 + j) 0) stores ∙ ⊎_elim
          (λ less. stored_inside _ out₁ 0 found j (omega (arith, room, found_most)) less)
          (λ ge.
          let clear : get_or out₁ (0 + j) 0 ≡ 0 = omega (arith, cleared_none block_words out out₁ clears length_is (0 + j)) in
          stored_outside _ out₁ 0 found (0 + j) (inr (omega arith)) ∙ clear ∙ sym (none j ge lt))
          (below_or_not j found)

      same_length : length out' ≡ block_words
      same_length = ap length stores ∙ length_stored (λ j. (modulo p).mul (get_or tail j 0 % p) factor) out₁ 0 found ∙ room

      below : (i : ℕ) → get_or out' i 0 < p
      below i = ⊎_elim
          (λ lt. subst (λ w. w < p) (sym (ap (λ j. get_or out' j 0) (sym (zero-add i)) ∙ word i lt))
          (mul_below p prime₀.large (get_or tail i 0 % p) factor))
          (λ ge. subst (λ w. w < p) (sym (get_or-eq_default out' 0 (omega (arith, same_length)))) positive)
          (below_or_not i block_words)

      module _ (prime : Prime p) where
        abbrev F : Field (Residue p)
        F = residues p prime

        product : (a b : ℕ) → residue p prime ((modulo p).mul a b) ≡ F.ring.mul (residue p prime a) (residue p prime b)
        unfolding modulo
        product a b = residue_mod p prime _ ∙ residue_mul p prime a b

        -- a word is that of the tail, divided by the last of it
        quotient : (j : ℕ) → j < block_words → residue p prime (get_or out' (0 + j) 0)
            ≡ F.ring.mul (residue p prime (get_or tail j 0)) (F.inverse (residue p prime (get_or tail (found - 1) 0)))
        quotient j lt =
            ap (residue p prime) (word j lt)
            ∙ product (get_or tail j 0 % p) factor
            ∙ ap₂ F.ring.mul (residue_mod p prime (get_or tail j 0))
            (ap (residue p prime) factor_is
            ∙ residue_inverse p prime value value_below
            ∙ ap F.inverse (ap (residue p prime) last_is ∙ residue_mod p prime (get_or tail (found - 1) 0)))

        last_nonzero : ¬ (residue p prime (get_or tail (found - 1) 0) ≡ F.ring.zero)
        last_nonzero e = omega (arith, last_is, zero_residue p prime _ e, value_positive)

        ends : Ends p out' 0 block_words found
        ends = record {
          within = omega (arith, found_most);
          last = λ h. ⊎_elim
              (λ none. absurd (F.one_nonzero
              (sym (quotient (found - 1) (omega (arith, found_most)) ∙ F.mul_inverse _ last_nonzero)
              ∙ residue_zero p prime _ none)))
              (λ more. more)
              (eq-zero-or-pos (get_or out' (0 + (found - 1)) 0 % p));
          behind = λ j ge lt. zero_residue p prime _
              (quotient j lt
              ∙ ap (λ w. F.ring.mul w (F.inverse (residue p prime (get_or tail (found - 1) 0))))
              (residue_zero p prime _ (ap (λ i. get_or tail i 0 % p) (sym (zero-add j)) ∙ tail_ends.behind j ge (omega arith)))
              ∙ zero_mul F.ring (F.inverse (residue p prime (get_or tail (found - 1) 0))));
        }

        module _ (x : Polynomial (residues p prime)) (A : Holds (residues p prime) (words p prime tail 0 tail_words) x) where
          last_word : words p prime tail 0 tail_words (found - 1) ≡ residue p prime (get_or tail (found - 1) 0)
          last_word = words_first p prime tail tail_words (found - 1) (omega (arith, tail_ends.within))

          size_is : size F x ≡ suc (found - 1)
          size_is = holds_size_exact F A (found - 1) (λ e. last_nonzero (sym last_word ∙ e))
              (λ j gt. words_zero p prime tail 0 tail_words found tail_ends.behind j (omega arith))

          leading_is : leading F x ≡ residue p prime (get_or tail (found - 1) 0)
          leading_is = sym (coefficients_last F x (found - 1) size_is) ∙ A.at (found - 1) ∙ last_word

          held : Holds F (words p prime out' 0 block_words) (scale F (F.inverse (leading F x)) x)
          held = record { at = λ j. coefficients_scale F (F.inverse (leading F x)) x j ∙ go j (dec_lt j block_words) }
            where
              go : (j : ℕ) → Dec (j < block_words)
                  → F.ring.mul (F.inverse (leading F x)) (coefficients F x j) ≡ words p prime out' 0 block_words j
              go j (yes lt) =
                  F.ring.mul_comm (F.inverse (leading F x)) (coefficients F x j)
                  ∙ ap₂ (λ u v. F.ring.mul u (F.inverse v)) (A.at j ∙ words_first p prime tail tail_words j (omega arith))
                  leading_is
                  ∙ sym (words_inside p prime out' 0 block_words j lt ∙ quotient j lt)
              go j (no ge) =
                  ap (F.ring.mul (F.inverse (leading F x))) (A.at j
                  ∙ words_zero p prime tail 0 tail_words most_coefficients zero j (omega arith))
                  ∙ mul_zero F.ring (F.inverse (leading F x))
                  ∙ sym (words_behind p prime out' 0 block_words j (omega arith))

      pub monic_made : MadeMonic p tail out' found
      monic_made = record {
        room = same_length;
        below = below;
        ends = ends prime₀;
        holds = λ prime x some A. subst (Holds (residues p prime) (words p prime out' 0 block_words))
            (sym (associate_scale (residues p prime) x some)) (held prime x A);
      }
