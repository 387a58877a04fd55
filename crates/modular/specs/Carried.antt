-- What is proved of polynomials over the residues holds of canonical lists of numbers: `carried p prime (λ X S. law) proof`.
use Rattle.std.specs.Prelude.{◌≡◌, refl, ℕ}
use Rattle.std.proofs.Math.Path.{sym, ap}
use Rattle.std.proofs.Common.{◌∙◌}
use mathlib.Core.List.{is_set}
use mathlib.Core.HLevel.{Σ_set, prop→set, hedberg}
use mathlib.Core.HProp.{h_prop_ext}
use std.Equiv.{◌≃◌, iso_to_equiv}
use Rattle.std.proofs.Math.Nat.{ℕ_set}
use Rattle.std.proofs.lemmas.List.{length-map}
use Rattle.algebra.specs.Field.{Field, operations, equality_decided}
use Rattle.algebra.specs.Transfer
use Rattle.algebra.specs.Transfer.{Homomorphism}
use Rattle.algebra.specs.Polynomial.{Polynomial, polynomials}
use Rattle.algebra.specs.Expressions.{constant, scale, shift}
use Rattle.algebra.specs.Size.{size, leading}
use Rattle.algebra.specs.Monic.{Monic, monic}
use Rattle.algebra.specs.Division.{quotient, remainder}
use Rattle.algebra.specs.Gcd.{gcd}
use Rattle.modular.specs.Prime.{Prime}
use Rattle.modular.specs.Modulo.{modulo}
use Rattle.modular.specs.Residue.{Residue, value, residue_ext, residues, value_homomorphism}
use Rattle.modular.specs.Values.{NumberPolynomial, canonical_unique, equal_numbers}
use Rattle.modular.specs.Values.{to_numbers, to_residues, to_residues_to_numbers, to_numbers_to_residues}
use Rattle.modular.specs.Numbers
use Rattle.modular.specs.Arithmetic.{Arithmetic, Respects, carry}

module _ (p : ℕ) (prime : Prime p) where
  abbrev F : Field (Residue p)
  F = residues p prime

  abbrev h : Homomorphism (operations F) (modulo p) value
  h = value_homomorphism p prime

  abbrev pub residue_arithmetic : Arithmetic (Residue p) (Polynomial F)
  residue_arithmetic = record {
    ring = polynomials F;
    size = size F;
    constant = constant F;
    scale = scale F;
    shift = shift F;
    leading = leading F;
    Monic = Monic F;
    monic = monic F;
    quotient = quotient F;
    remainder = remainder F;
    gcd = gcd F;
  }

  abbrev pub number_arithmetic : Arithmetic (Residue p) (NumberPolynomial p)
  number_arithmetic = record {
    ring = Numbers.numbers p prime;
    size = Numbers.size p prime;
    constant = Numbers.constant p prime;
    scale = Numbers.scale p prime;
    shift = Numbers.shift p prime;
    leading = Numbers.leading p prime;
    Monic = Numbers.Monic p prime;
    monic = Numbers.monic p prime;
    quotient = Numbers.quotient p prime;
    remainder = Numbers.remainder p prime;
    gcd = Numbers.gcd p prime;
  }

  numbers_set : IsSet (NumberPolynomial p)
  numbers_set = Σ_set (is_set ℕ_set) (λ f. prop→set (canonical_unique p f))

  bijection : Polynomial F ≃ NumberPolynomial p
  bijection = iso_to_equiv (record {
    fun = to_numbers p prime;
    inv = to_residues p prime;
    rinv = to_numbers_to_residues p prime;
    linv = to_residues_to_numbers p prime;
  })

  same_leading : (x : Polynomial F) → leading F x ≡ Numbers.leading p prime (to_numbers p prime x)
  unfolding to_numbers
  same_leading x = residue_ext _ _ (Transfer.map_leading h x.0)

  same_monic : (x : Polynomial F) → Monic F x ≡ Numbers.Monic p prime (to_numbers p prime x)
  unfolding to_numbers residues
  same_monic x = h_prop_ext (hedberg (equality_decided F) _ _) (ℕ_set _ _)
      (λ e. sym (Transfer.map_leading h x.0) ∙ ap value e) (λ e. residue_ext _ _ (Transfer.map_leading h x.0 ∙ e))

  respected : Respects residue_arithmetic number_arithmetic (to_numbers p prime)
  unfolding polynomials constant scale shift monic quotient remainder gcd Numbers.numbers to_numbers
  respected = record {
    add = λ x y. equal_numbers p _ _ (Transfer.map_add h x.0 y.0);
    mul = λ x y. equal_numbers p _ _ (Transfer.map_mul h x.0 y.0);
    neg = λ x. equal_numbers p _ _ (Transfer.map_negate h x.0);
    zero = equal_numbers p _ _ refl;
    one = equal_numbers p _ _ (Transfer.map_one h);
    size = λ x. sym (length-map x.0 value);
    constant = λ c. equal_numbers p _ _ (Transfer.map_constant h c);
    scale = λ c x. equal_numbers p _ _ (Transfer.map_scale h c x.0);
    shift = λ k x. equal_numbers p _ _ (Transfer.map_shift h k x.0);
    leading = same_leading;
    Monic = same_monic;
    monic = λ x. equal_numbers p _ _ (Transfer.map_monic h x.0);
    quotient = λ x d. equal_numbers p _ _ (Transfer.map_quotient h x.0 d.0);
    remainder = λ x d. equal_numbers p _ _ (Transfer.map_remainder h x.0 d.0);
    gcd = λ x y. equal_numbers p _ _ (Transfer.map_gcd h x.0 y.0);
  }

  pub carried : (L : (X : Type 0) → Arithmetic (Residue p) X → Type 0) → L (Polynomial F) residue_arithmetic
      → L (NumberPolynomial p) number_arithmetic
  unfolding bijection
  carried = carry bijection numbers_set residue_arithmetic number_arithmetic respected
