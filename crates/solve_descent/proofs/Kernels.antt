-- The invariant of `reduce_by_kernel`: from the place k on nothing is left.
use Prim.Native.Nat.{ℕ, ◌+◌, ◌-◌, ◌*◌, ◌%◌, ◌<◌, ◌≤◌}
use mathlib.Core.Path.{◌≡◌, refl, sym, ◌∙◌, ap, ap₂, subst}
use mathlib.Core.Logic.{inr, ⊎_elim}
use mathlib.Core.List.{List, [], ◌∷◌}
use native.Mathlib.Nat.{mul-le-mul_right, add-mul, zero-add, zero-mul, zero-mod, mod-eq_of_lt}
use native.Mathlib.Omega.{arith}
use lib.ListN.{length, get_or}
use Rattle.ring.specs.Ring.{Ring}
use Rattle.ring.specs.Identity.{quotes, identity}
use Rattle.ring.specs.Combination.{given, combination}
use Rattle.algebra.specs.Field.{Field}
use Rattle.algebra.specs.Polynomial.{Polynomial, polynomials}
use Rattle.modular.specs.Prime.{Prime}
use Rattle.modular.specs.Modulo.{modulo}
use Rattle.modular.specs.Residue.{Residue, residues}
use Rattle.modular.specs.LargestPrime.{largest_modulus}
use Rattle.modular.specs.Bits.{bound64}
use Rattle.residue.specs.Below.{mul_below}
use Rattle.vector.specs.Bound.{AtMost, at_most_sum}
use Rattle.vector.specs.Stored.{stored, length_stored, stored_outside, below_or_not}
use Rattle.vector.specs.Multiple.{sum_at}
use Rattle.reduction.specs.Holds.{Holds, monomial, holds_step}
use Rattle.solve_lattice.specs.Memory.{ZeroFrom}
use Rattle.solve_lattice.specs.Word.{residue, residue_mod, residue_mul, residue_inverse, residue_zero, zero_residue}
use Rattle.solve_lattice.specs.Word.{words, words_first, words_inside}
use Rattle.solve_lattice.specs.Range.{words_upper, words_lower, zero_word}
use Rattle.residue.specs.Sum.{SmallSum, sum_fits}
use Rattle.solve_lattice.specs.Room.{product_words, block_words, tail_words}
use Rattle.solve_lattice.proofs.Stepping.{cancelled}
use Rattle.solve_descent.specs.Kernel.{ValidKernel, Lessened, TakesKernel}
use Rattle.solve_descent.proofs.Products.{product_most}

pub record Reducing (p : ℕ) (y₀ kernel : List ℕ) (k : ℕ) (y : List ℕ) : Type 0 where
  pub most : k ≤ tail_words
  pub same_length : length y ≡ length y₀
  pub bound : (b : ℕ) → AtMost b y₀ → AtMost (b + (tail_words - k) * (p * p)) y
  pub behind : ZeroFrom p y 0 tail_words k
  pub holds : (prime : Prime p) (x u : Polynomial (residues p prime)) → Holds (residues p prime) (words p prime y₀ 0 tail_words) x
      → Holds (residues p prime) (words p prime kernel 0 block_words) u → Lessened p prime x u y

-- h is zero if h·i is, for u·i = 1
vanishing : {K : Type 0} (R : Ring K) (h u i : K) → R.mul u i ≡ R.one → R.mul h i ≡ R.zero → h ≡ R.zero
vanishing R h u i e z = combination R h R.zero (given (R.neg h) e ∷ given u z ∷ [])
    (identity R (h ∷ u ∷ i ∷ []) (λ ρ qh qu qi. search quotes depth 16) refl)

none_taken : {p : ℕ} (prime : Prime p) (y : List ℕ) (x u : Polynomial (residues p prime))
    → Holds (residues p prime) (words p prime y 0 tail_words) x → Lessened p prime x u y
none_taken {p} prime y x u A = record {
  multiple = (polynomials (residues p prime)).zero;
  holds = subst (Holds (residues p prime) _)
      (identity (polynomials (residues p prime)) (x ∷ u ∷ []) (λ ρ qx qu. search quotes depth 16) refl) A;
}

-- the last word of a kernel is not 0
pub kernel_last : {p : ℕ} {kernel : List ℕ} {size : ℕ} → ValidKernel p kernel size → 0 < size → 0 < get_or kernel (size - 1) 0
kernel_last {p} {kernel} {size} valid some = omega (
  arith,
  ap (λ x. get_or kernel x 0) (zero-add (size - 1)),
  mod-eq_of_lt (valid.below (0 + (size - 1))),
  valid.ends.last some,
)

module _ {p : ℕ} {y₀ kernel : List ℕ} where
  pub kernel_start : Reducing p y₀ kernel tail_words y₀
  kernel_start = record {
    most = omega arith;
    same_length = refl;
    bound = λ b small i. omega (arith, small i);
    behind = λ j ge lt. absurd (omega arith);
    holds = λ prime x u A B. none_taken prime y₀ x u A;
  }

  -- there is no kernel
  pub kernel_none : {size : ℕ} → size ≡ 0 → TakesKernel p y₀ kernel size y₀
  kernel_none none = record {
    same_length = refl;
    bound = λ b small i. omega (arith, small i);
    short = λ some. absurd (omega arith);
    holds = λ prime x u A B. none_taken prime y₀ x u A;
  }

  pub kernel_end : {size k : ℕ} {y : List ℕ} → Reducing p y₀ kernel k y → k ≤ size - 1 → TakesKernel p y₀ kernel size y
  kernel_end {size} {k} so_far le = record {
    same_length = so_far.same_length;
    bound = λ b small i.
        let few : tail_words - k ≤ tail_words = omega arith in
        omega (arith, so_far.bound b small i, mul-le-mul_right (p * p) few);
    short = λ some j ge lt. so_far.behind j (omega arith) lt;
    holds = so_far.holds;
  }

  module _ {k : ℕ} {y : List ℕ} (so_far : Reducing p y₀ kernel k y) where
    -- the words can be reduced, with one product more
    pub kernel_room : AtMost (product_words * (p * p)) y₀ → (i : ℕ) → SmallSum p (get_or y i 0 + p * p)
    kernel_room small i =
        let few : tail_words - k ≤ tail_words = omega arith in
        omega (arith, so_far.bound (product_words * (p * p)) small i, mul-le-mul_right (p * p) few)

    module _ {size : ℕ} (valid : ValidKernel p kernel size) (some : 0 < size) (fits : size ≤ k) (prime₀ : Prime p)
        {v i a : ℕ} (reduced : v ≡ get_or y (k - 1) 0 % p) (inverse : i ≡ (modulo p).inverse (get_or kernel (size - 1) 0))
        (product : a ≡ (modulo p).mul v i) where
      by : a ≡ (modulo p).mul (get_or y (k - 1) 0 % p) ((modulo p).inverse (get_or kernel (0 + (size - 1)) 0))
      by =
          product
          ∙ ap₂ (modulo p).mul reduced
          (inverse ∙ ap (λ x. (modulo p).inverse (get_or kernel x 0)) (sym (zero-add (size - 1))))

      abbrev d : ℕ
      d = (k - 1) - (size - 1)

      pub factor_below : a < p
      factor_below = subst (λ x. x < p) (sym by)
          (mul_below p prime₀.large (get_or y (k - 1) 0 % p) ((modulo p).inverse (get_or kernel (0 + (size - 1)) 0)))

      multiple_most : (j : ℕ) → (p - a) * get_or kernel (0 + j) 0 ≤ p * p
      multiple_most j = product_most p (p - a) (get_or kernel (0 + j) 0) (omega arith) (valid.below (0 + j))

      pub kernel_sum : p ≤ largest_modulus → AtMost (product_words * (p * p)) y₀ → (j : ℕ)
          → sum_at y ((k - 1) - (size - 1)) kernel 0 (p - a) j < bound64
      kernel_sum limit small j = sum_fits p _ limit (omega (arith, kernel_room small (d + j), multiple_most j))

      abbrev last : ℕ
      last = get_or kernel (0 + (size - 1)) 0

      -- the factor is the word times the inverse of the kernel's last
      module _ (prime : Prime p) where
        last_nonzero : ¬ (residue p prime last ≡ (residues p prime).ring.zero)
        last_nonzero e = omega (arith, valid.ends.last some, zero_residue p prime last e)

        factor : residue p prime a ≡ (residues p prime).ring.mul (words p prime y 0 tail_words (k - 1))
            ((residues p prime).inverse (residue p prime last))
        unfolding modulo
        factor =
            ap (residue p prime) by
            ∙ residue_mod p prime (get_or y (k - 1) 0 % p * (modulo p).inverse last)
            ∙ residue_mul p prime (get_or y (k - 1) 0 % p) ((modulo p).inverse last)
            ∙ ap₂ (residues p prime).ring.mul
            (residue_mod p prime (get_or y (k - 1) 0) ∙ sym (words_first p prime y tail_words (k - 1) (omega (arith, so_far.most))))
            (residue_inverse p prime last (valid.below (0 + (size - 1))))

      more : tail_words - (k - 1) ≡ tail_words - k + 1
      more = omega (arith, so_far.most)

      -- a factor 0 says that the word was 0 already
      pub kernel_skip : a ≡ 0 → Reducing p y₀ kernel (k - 1) y
      kernel_skip none = record {
        most = omega (arith, so_far.most);
        same_length = so_far.same_length;
        bound = λ b small i. rw more (omega (arith, so_far.bound b small i, add-mul (tail_words - k) 1 (p * p)));
        behind = λ j h lt. ⊎_elim
            (λ less.
            let here : j ≡ k - 1 = omega arith in
            zero_word p prime₀ y 0 tail_words j lt (ap (words p prime₀ y 0 tail_words) here ∙ gone))
            (λ above. so_far.behind j above lt)
            (below_or_not j k);
        holds = so_far.holds;
      }
        where
          gone : words p prime₀ y 0 tail_words (k - 1) ≡ (residues p prime₀).ring.zero
          gone = vanishing (residues p prime₀).ring _ (residue p prime₀ last)
              ((residues p prime₀).inverse (residue p prime₀ last))
              ((residues p prime₀).mul_inverse (residue p prime₀ last) (last_nonzero prime₀))
              (sym (factor prime₀) ∙ residue_zero p prime₀ a (ap (λ z. z % p) none ∙ zero-mod p))

      module _ (y' : List ℕ) (stores : y' ≡ stored (sum_at y ((k - 1) - (size - 1)) kernel 0 (p - a)) y
          ((k - 1) - (size - 1)) size)
          (room : tail_words ≤ length y₀) where
        inside : d + size ≤ tail_words
        inside = omega (arith, so_far.most)

        room' : d + size ≤ length y
        room' = omega (arith, inside, so_far.same_length)

        bound_after : (b : ℕ) → AtMost b y₀ → AtMost (b + (tail_words - (k - 1)) * (p * p)) y'
        bound_after b small i =
            let grown = at_most_sum (b + (tail_words - k) * (p * p)) (p * p) y d kernel 0 size (p - a) (so_far.bound b small)
            (λ j lt. multiple_most j) i in
            rw (stores, more) (omega (arith, grown, add-mul (tail_words - k) 1 (p * p)))

        module _ (prime : Prime p) where
          abbrev F : Field (Residue p)
          F = residues p prime

          upper : (x : ℕ) → words p prime y' 0 tail_words (d + x) ≡ F.ring.add (words p prime y 0 tail_words (d + x))
              (F.ring.neg (F.ring.mul (residue p prime a) (words p prime kernel 0 block_words x)))
          upper = words_upper p prime y y' kernel d 0 size block_words tail_words a stores factor_below inside room'
              valid.ends.behind
              valid.ends.within

          lower : (x : ℕ) → x < d → words p prime y' 0 tail_words x ≡ words p prime y 0 tail_words x
          lower = words_lower p prime y y' kernel d 0 size block_words tail_words a stores factor_below inside room'
              valid.ends.behind
              valid.ends.within

          leading_gone : words p prime y' 0 tail_words (k - 1) ≡ F.ring.zero
          leading_gone =
              let place : d + (size - 1) ≡ k - 1 = omega arith in
              subst (λ x. words p prime y' 0 tail_words x ≡ F.ring.add (words p prime y 0 tail_words x)
              (F.ring.neg (F.ring.mul (residue p prime a) (words p prime kernel 0 block_words (size - 1)))))
              place (upper (size - 1))
              ∙ ap₂ (λ x z. F.ring.add (words p prime y 0 tail_words (k - 1)) (F.ring.neg (F.ring.mul x z)))
              (factor prime) (words_inside p prime kernel 0 block_words (size - 1) (omega (arith, valid.ends.within)))
              ∙ cancelled F.ring (words p prime y 0 tail_words (k - 1)) (residue p prime last) (F.inverse (residue p prime last))
              (F.mul_inverse (residue p prime last) (last_nonzero prime))

          module _ (x u : Polynomial (residues p prime)) (A : Holds (residues p prime) (words p prime y₀ 0 tail_words) x)
              (B : Holds (residues p prime) (words p prime kernel 0 block_words) u) where
            before : Lessened p prime x u y
            before = so_far.holds prime x u A B

            lessened : Lessened p prime x u y'
            lessened = record {
              multiple = (polynomials F).add before.multiple (monomial F (residue p prime a) d);
              holds = subst (Holds F (words p prime y' 0 tail_words))
                  (identity (polynomials F) (x ∷ before.multiple ∷ monomial F (residue p prime a) d ∷ u ∷ [])
                  (λ ρ qx qm qa qu. search quotes depth 16) refl)
                  (holds_step F (residue p prime a) d before.holds B upper lower);
            }

        behind_after : ZeroFrom p y' 0 tail_words (k - 1)
        behind_after j h lt =
            ⊎_elim
            (λ less.
            let here : j ≡ k - 1 = omega arith in
            zero_word p prime₀ y' 0 tail_words j lt (ap (words p prime₀ y' 0 tail_words) here ∙ leading_gone prime₀))
            (λ more.
            ap (λ w. get_or w (0 + j) 0 % p) stores
            ∙ ap (λ w. w % p) (stored_outside _ y d size (0 + j) (inr (omega arith)))
            ∙ so_far.behind j more lt)
            (below_or_not j k)

        pub kernel_turn : Reducing p y₀ kernel (k - 1) y'
        kernel_turn = record {
          most = omega (arith, so_far.most);
          same_length = ap length stores ∙ length_stored (sum_at y d kernel 0 (p - a)) y d size ∙ so_far.same_length;
          bound = bound_after;
          behind = behind_after;
          holds = lessened;
        }

-- a word 0 has the factor 0
pub kernel_zero : {p : ℕ} {y₀ kernel : List ℕ} {k size : ℕ} {y : List ℕ} → Reducing p y₀ kernel k y
    → ValidKernel p kernel size → 0 < size → size ≤ k → Prime p → get_or y (k - 1) 0 ≡ 0 → Reducing p y₀ kernel (k - 1) y
unfolding modulo
kernel_zero {p} {y₀} {kernel} {k} {size} {y} so_far valid some fits prime none =
    kernel_skip so_far valid some fits prime refl refl (sym product) refl
  where
    product : (modulo p).mul (get_or y (k - 1) 0 % p) ((modulo p).inverse (get_or kernel (size - 1) 0)) ≡ 0
    product =
        ap (λ w. w % p * (modulo p).inverse (get_or kernel (size - 1) 0) % p) none
        ∙ ap (λ w. w * (modulo p).inverse (get_or kernel (size - 1) 0) % p) (zero-mod p)
        ∙ ap (λ w. w % p) (zero-mul ((modulo p).inverse (get_or kernel (size - 1) 0)))
        ∙ zero-mod p
