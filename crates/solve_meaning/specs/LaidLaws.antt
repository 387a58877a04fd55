-- A system whose values are laid out is held by the area, as the solver's contracts say it.
use Rattle.std.specs.Prelude.{ℕ, ◌+◌, ◌*◌, ◌%◌, ◌<◌, ◌≤◌, ◌≡◌, List, get_or}
use Rattle.std.proofs.Math.Path.{sym}
use Rattle.std.proofs.Common.{◌∙◌, ap, subst, arith, mod-eq_of_lt}
use Rattle.std.proofs.Math.Nat.{zero-mod}
use Rattle.std.proofs.Math.Decide.{dec_lt}
use Rattle.algebra.specs.Field.{Field}
use Rattle.algebra.specs.Polynomial.{Polynomial, coefficients}
use Rattle.algebra.specs.Expressions.{shift_zero}
use Rattle.algebra.specs.Size.{size, coefficients_beyond}
use Rattle.modular.specs.Prime.{Prime}
use Rattle.modular.specs.Residue.{Residue, residue_ext, reduce, residues}
use Rattle.modular.specs.Coefficientwise.{coefficient_get_or}
use Rattle.reduction.specs.Slots.{unweighted}
use Rattle.reduction.specs.Holds.{Holds}
use Rattle.reduction.specs.Flat.{Flat, flat}
use Rattle.solve_lattice.specs.Word.{residue_zero, words, words_inside, words_behind}
use Rattle.words.specs.Limits.{office}
use Rattle.words.specs.System.{System, SystemWithin, entry, side_entry}
use Rattle.solve_lattice.specs.Input.{ValidInput, HoldsSystem}
use Rattle.solve_lattice.specs.Room.{block_words, lanes, block_degrees}
use Rattle.solve_meaning.specs.Laid.{SystemLaid}
use Rattle.solve_meaning.specs.Lists.{list_of, list_coefficient}
use Rattle.solve_meaning.specs.Equations.{office_equations, matrix_list, side_list}

-- one block: 16 degrees in 8 lanes from the word b on
module _ (p : ℕ) (prime : Prime p) (input : List ℕ) (n b : ℕ) (v : ℕ → Polynomial (residues p prime)) (f : ℕ → List ℕ) where
  abbrev F : Field (Residue p)
  F = residues p prime

  abbrev W : ℕ → Residue p
  W = words p prime input b block_words

  -- the lists f are those of v, of at most 16 coefficients, and the words are their coefficients
  pub record Block : Type 0 where
    pub rows : n ≤ lanes
    pub list : (i : ℕ) → i < n → list_of p prime (v i) ≡ f i
    pub small : (i : ℕ) → i < n → size (residues p prime) (v i) ≤ block_degrees
    pub lane : (i e : ℕ) → i < n → e < block_degrees → get_or input (b + flat lanes i e) 0 ≡ get_or (f i) e 0
    pub beside : (i e : ℕ) → n ≤ i → i < lanes → e < block_degrees → get_or input (b + flat lanes i e) 0 ≡ 0

  module _ (B : Block) where
    beyond : (i e : ℕ) → ¬ (e < block_degrees) → W (flat lanes i e) ≡ F.ring.zero
    beyond i e h = words_behind p prime input b block_words (flat lanes i e) (omega arith)

    word_is : (i e : ℕ) → i < n → e < block_degrees → (coefficients F (v i) e).value ≡ get_or input (b + flat lanes i e) 0
    word_is i e hi h =
        sym (list_coefficient p prime (v i) e)
        ∙ coefficient_get_or p (list_of p prime (v i)) e
        ∙ ap (λ g. get_or g e 0) (B.list i hi)
        ∙ sym (B.lane i e hi h)

    lane_at : (i e : ℕ) → i < n → Dec (e < block_degrees) → coefficients F (v i) e ≡ W (flat lanes i e)
    unfolding reduce
    lane_at i e hi (yes h) =
        let same = word_is i e hi h in
        residue_ext _ _ (same ∙ sym (mod-eq_of_lt (omega (arith, same, (coefficients F (v i) e).below))))
        ∙ sym (words_inside p prime input b block_words (flat lanes i e) (omega (arith, B.rows)))
    lane_at i e hi (no h) = coefficients_beyond F (v i) e (omega (arith, B.small i hi)) ∙ sym (beyond i e h)

    beside_at : (i e : ℕ) → n ≤ i → i < lanes → Dec (e < block_degrees) → W (flat lanes i e) ≡ F.ring.zero
    beside_at i e hn hi (yes h) =
        words_inside p prime input b block_words (flat lanes i e) (omega arith)
        ∙ residue_zero p prime _ (ap (λ x. x % p) (B.beside i e hn hi h) ∙ zero-mod p)
    beside_at i e hn hi (no h) = beyond i e h

    pub block_flat : Flat F n lanes unweighted W v
    block_flat = record {
      lanes = B.rows;
      lane = λ i hi. subst (Holds F (λ e. W (flat lanes i e))) (sym (shift_zero F (v i)))
          (record { at = λ e. lane_at i e hi (dec_lt e block_degrees) });
      beside = λ i e hn hi. beside_at i e hn hi (dec_lt e block_degrees);
    }

-- the whole area
pub laid_valid : {s : System} {input : List ℕ} → SystemLaid s input → ValidInput s.modulus input
laid_valid L = record { room = L.area.room; below = L.area.below }

module _ (s : System) (h : SystemWithin office s) {input : List ℕ} (L : SystemLaid s input) where
  abbrev prime : Prime s.modulus
  prime = h.shape.prime

  pub laid_holds : HoldsSystem s.modulus h.shape.prime s.rows s.columns (office_equations s h) input
  laid_holds = record {
    column = λ j hj. block_flat s.modulus prime input s.rows (block_words * j) (λ i. (office_equations s h).matrix i j)
        (λ i. entry s i j)
        (record {
          rows = h.shape.rows.1;
          list = λ i hi. matrix_list office s h i j;
          small = λ i hi. (office_equations s h).matrix_small i j hi hj;
          lane = λ i e hi he. L.matrix i j e hi hj he;
          beside = λ i e hn hi he. L.area.beside i j e hn hi (omega arith) he;
        });
    side = block_flat s.modulus prime input s.rows (block_words * s.columns) (office_equations s h).side (side_entry s)
        (record {
          rows = h.shape.rows.1;
          list = λ i hi. side_list office s h i;
          small = λ i hi. (office_equations s h).side_small i hi;
          lane = λ i e hi he. L.side i e hi he;
          beside = λ i e hn hi he. L.area.beside i s.columns e hn hi (omega arith) he;
        });
  }
