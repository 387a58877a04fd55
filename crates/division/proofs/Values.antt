-- Values as long division takes them.
use mathlib.Core.Path.{◌≡◌, sym, ap, ◌∙◌, subst}
use mathlib.Core.List.{List}
use Prim.Native.Nat.{ℕ, ◌+◌, ◌-◌, ◌<◌}
use native.Mathlib.Omega.{arith}
use lib.ListN.{take}
use Rattle.algebra.specs.Coefficients.{leading}
use Rattle.modular.specs.Modulo.{modulo}
use Rattle.modular.specs.Canonical.{Canonical}
use Rattle.polynomial.specs.declared.value.Polynomial.{Polynomial}
use Rattle.polynomial.specs.Value.{coefficients_of, ValidPolynomial, word_below}
use Rattle.polynomial_words.specs.Long.{Divisor, LongDivided}

module _ (p : ℕ) (positive : 0 < p) (d : Polynomial) (valid : ValidPolynomial p d) (some : 0 < d.size) where
  all_coefficients : take (d.size - 1 + 1) d.coefficients ≡ coefficients_of d
  unfolding coefficients_of
  all_coefficients = let e : d.size - 1 + 1 ≡ d.size = omega arith in ap (λ (n : ℕ). take n d.coefficients) e

  pub divisor : (v : ℕ) → v ≡ (modulo p).inverse (leading (modulo p) (coefficients_of d)) →
      Divisor p d.coefficients (d.size - 1) v
  divisor v e = record {
    room = omega (arith, valid.room, valid.within);
    canonical = subst (λ (l : List ℕ). Canonical p l) (sym all_coefficients) valid.canonical;
    small = λ i. omega (arith, word_below p d valid positive i);
    inverts = e ∙ ap (λ (l : List ℕ). (modulo p).inverse (leading (modulo p) l)) (sym all_coefficients);
  }

  pub divided : {f : List ℕ} {n : ℕ} {q h : List ℕ} → LongDivided p f n (take (d.size - 1 + 1) d.coefficients) q h →
      LongDivided p f n (coefficients_of d) q h
  divided {f} {n} {q} {h} by = subst (λ (l : List ℕ). LongDivided p f n l q h) all_coefficients by
