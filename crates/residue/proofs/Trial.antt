-- Trial division: the numbers d from 2 on and below p with d² at most p tell whether p is prime.
use Rattle.std.proofs.Common.{◌≡◌, ℕ, ◌+◌, ◌-◌, ◌*◌, ◌%◌, ◌<◌, ◌≤◌, Bool, true, false, leb, ltb, List, length, get_or, take, refl, sym, ◌∙◌, arith, MatchBool, ltb-true, ltb-false}
use Rattle.std.specs.List.{AllWithin, HoldsAt, range_with_len, prefix_len}
use Rattle.std.proofs.lemmas.List.{get_or-take}
use Rattle.std.proofs.lemmas.List.Folds.{length-prefix_len}
use Rattle.std.proofs.lemmas.List.FromFn.{length-range_with_len, get_or-range_with_len}
use Rattle.std.proofs.lemmas.List.Sums.{prefix_len-le-length, prefix_len_passes, prefix_len_stops}
use Rattle.std.proofs.lemmas.Bool.{leb-true, leb-false}
use Rattle.modular.specs.Prime.{Prime, prime?}
use Rattle.modular.specs.Primality.{true_of_prime}
use Rattle.residue.specs.Primality.{Undivided, false_of_composite, prime_of_root, composite_of_root}

-- its square is at most p
abbrev pub in_root : ℕ → ℕ → Bool
in_root p d = leb (d * d) p

abbrev numbers : ℕ → List ℕ
numbers p = range_with_len 2 (p - 2)

abbrev tried : ℕ → ℕ
tried p = prefix_len (in_root p) (numbers p)

-- the numbers that are tried
abbrev pub tries : ℕ → List ℕ
tries p = take (tried p) (numbers p)

number_at : (p k d : ℕ) → k < p - 2 → get_or (numbers p) k d ≡ 2 + k
number_at p k d lt = get_or-range_with_len 2 (p - 2) k d lt

few : (p : ℕ) → tried p ≤ p - 2
few p = omega (arith, prefix_len-le-length (in_root p) (numbers p), length-range_with_len 2 (p - 2))

try_at : (p k d : ℕ) → k < tried p → get_or (tries p) k d ≡ 2 + k
try_at p k d lt = get_or-take (tried p) (numbers p) k d lt ∙ number_at p k d (omega (arith, few p))

module _ (p : ℕ) (large : 1 < p) where
  composite : (k : ℕ) → k < tried p → p % (2 + k) ≡ 0 → Prime p → ⊥
  composite k lt =
      let here = number_at p k 0 (omega (arith, few p)) in
      let passes = prefix_len_passes (in_root p) (numbers p) k 0 lt in
      let root = leb-true _ p (rw here at passes) in
      composite_of_root p (2 + k) (omega arith) root

  prime : Undivided p (2 + tried p) → Prime p
  prime none = go (ltb (tried p) (p - 2)) refl
    where
      go : (b : Bool) → ltb (tried p) (p - 2) ≡ b → Prime p
      go true t =
          let less = ltb-true (tried p) (p - 2) t in
          let here = number_at p (tried p) 0 less in
          let stops = prefix_len_stops (in_root p) (numbers p) 0 (omega (arith, length-range_with_len 2 (p - 2))) in
          prime_of_root p (2 + tried p) large none (leb-false _ p (rw here at stops))
      go false t =
          let all = ltb-false (tried p) (p - 2) t in
          record { large = large; undivided = λ a lo hi. none a lo (omega (arith, few p)) }

  -- none of them divides p, or one does
  pub trial_division : (r : Bool)
      → MatchBool r (AllWithin (λ d. p % d ≡ 0 → ⊥) (tries p) 0 (length (tries p))) ((k : ℕ) × (k < length (tries p)) × HoldsAt (λ d. p % d ≡ 0) (tries p) k)
      → r ≡ prime? p
  trial_division true h =
      let long = length-prefix_len (in_root p) (numbers p) in
      sym (true_of_prime p (prime (λ a lo hi e.
      let place : 2 + (a - 2) ≡ a = omega arith in
      let lt : a - 2 < tried p = omega arith in
      h (a - 2) 0 (omega arith) (omega arith) (rw (try_at p (a - 2) 0 lt, place) e))))
  trial_division false h =
      let long = length-prefix_len (in_root p) (numbers p) in
      let lt : h.0 < tried p = omega (arith, h.1) in
      sym (false_of_composite p (composite h.0 lt (rw (try_at p h.0 0 lt) at (h.2 0))))
