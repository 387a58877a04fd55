-- A word as a residue modulo p, and a range of words as an array of residues: what the loops of this crate do to words, said of
-- residues. A hand's words are sums that are not reduced; as residues they are what the mathematics of `reduction` speaks of.
use Rattle.std.specs.Prelude.{ℕ, ◌+◌, ◌-◌, ◌*◌, ◌%◌, ◌<◌, ◌≤◌, ◌≡◌, List, get_or, take, drop}
use Rattle.std.proofs.Common.{sym, ◌∙◌, mod-lt, mod-eq_of_lt, zero-add, arith}
use Rattle.std.proofs.Math.Path.{ap}
use Rattle.std.proofs.Math.Nat.{add-mod, zero-mod}
use Rattle.ring.specs.Ring.{neg_mul}
use Rattle.algebra.specs.Field.{Field}
use Rattle.modular.specs.Prime.{Prime}
use Rattle.modular.specs.Modulo.{modulo}
use Rattle.modular.specs.Inverse.{inverse_below}
use Rattle.modular.specs.Remainder.{mod_mul_mod, mul_mod_mod}
use Rattle.modular.specs.Residue.{Residue, residue_ext, reduce, residue_ring, residues}
use Rattle.vector.specs.Reduced.{word_inside, word_behind}

module _ (p : ℕ) (prime : Prime p) where
  abbrev F : Field (Residue p)
  F = residues p prime

  open (residues p prime).ring use {add as ◌⊕◌, mul as ◌⊗◌, neg as ⊝◌, zero as 𝟎}

  infixl 65 ◌⊕◌
  infixl 70 ◌⊗◌
  infix 75 ⊝◌
  abbrev pub residue : ℕ → Residue p
  residue w = reduce p prime.large w

  pub residue_same : (v w : ℕ) → v % p ≡ w % p → residue v ≡ residue w
  unfolding reduce
  residue_same v w e = residue_ext _ _ e

  pub residue_zero : (w : ℕ) → w % p ≡ 0 → residue w ≡ 𝟎
  unfolding reduce residues residue_ring
  residue_zero w e = residue_ext _ _ e

  pub residue_one : (w : ℕ) → w % p ≡ 1 → residue w ≡ F.ring.one
  unfolding reduce residues residue_ring
  residue_one w e = residue_ext _ _ e

  pub same_residue : (v w : ℕ) → residue v ≡ residue w → v % p ≡ w % p
  unfolding reduce
  same_residue v w e = ap (λ x. x.value) e

  pub zero_residue : (w : ℕ) → residue w ≡ 𝟎 → w % p ≡ 0
  unfolding reduce residues residue_ring
  zero_residue w e = ap (λ x. x.value) e

  pub residue_mod : (w : ℕ) → residue (w % p) ≡ residue w
  residue_mod w = residue_same (w % p) w (mod-eq_of_lt (mod-lt w (let large = prime.large in omega arith)))

  pub residue_add : (v w : ℕ) → residue (v + w) ≡ residue v ⊕ residue w
  unfolding reduce residues residue_ring
  residue_add v w = residue_ext _ _ (add-mod v w p)

  pub residue_mul : (v w : ℕ) → residue (v * w) ≡ residue v ⊗ residue w
  unfolding reduce residues residue_ring
  residue_mul v w = residue_ext _ _ (sym (mod_mul_mod v (w % p) p ∙ mul_mod_mod v w p))

  pub residue_neg : (a : ℕ) → a < p → residue (p - a) ≡ ⊝ residue a
  unfolding reduce residues residue_ring
  residue_neg a h = residue_ext _ _ (ap (λ x. (p - x) % p) (sym (mod-eq_of_lt h)))

  pub residue_minus : (w : ℕ) → residue ((modulo p).neg (w % p)) ≡ ⊝ residue w
  unfolding modulo
  residue_minus w =
      residue_mod (p - w % p)
      ∙ residue_neg (w % p) (mod-lt w (let large = prime.large in omega arith))
      ∙ ap ⊝◌ (residue_mod w)

  pub residue_inverse : (a : ℕ) → a < p → residue ((modulo p).inverse a) ≡ F.inverse (residue a)
  unfolding reduce residues residue_ring modulo
  residue_inverse a h = residue_ext _ _
      (mod-eq_of_lt (inverse_below p a prime.large) ∙ ap (modulo p).inverse (sym (mod-eq_of_lt h)))

  -- a multiple of u taken off w, as the loops do it
  pub residue_less : (w a u : ℕ) → a < p → residue (w + (p - a) * u) ≡ residue w ⊕ (⊝ (residue a ⊗ residue u))
  residue_less w a u h =
      residue_add w ((p - a) * u)
      ∙ ap (λ x. residue w ⊕ x)
      (residue_mul (p - a) u ∙ ap (λ x. x ⊗ residue u) (residue_neg a h) ∙ neg_mul F.ring (residue a) (residue u))

  -- n words of l from the place b on, zero behind them
  abbrev pub words : List ℕ → ℕ → ℕ → ℕ → Residue p
  words l b n j = residue (get_or (take n (drop b l)) j 0)

  pub words_inside : (l : List ℕ) (b n j : ℕ) → j < n → words l b n j ≡ residue (get_or l (b + j) 0)
  words_inside l b n j h = ap residue (word_inside l b n j h)

  pub words_behind : (l : List ℕ) (b n j : ℕ) → n ≤ j → words l b n j ≡ 𝟎
  words_behind l b n j h = ap residue (word_behind l b n j h) ∙ residue_zero 0 (zero-mod p)

  -- from the first word of l on
  pub words_first : (l : List ℕ) (n j : ℕ) → j < n → words l 0 n j ≡ residue (get_or l j 0)
  words_first l n j h = words_inside l 0 n j h ∙ ap (λ i. residue (get_or l i 0)) (zero-add j)
