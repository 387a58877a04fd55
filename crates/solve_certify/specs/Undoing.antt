-- One column down: from what is known above a column, a turn of the way down and what it leaves in memory, to what is known below
-- it.
use Rattle.std.specs.Prelude.{ℕ, suc, ◌+◌, ◌*◌, ◌%◌, ◌<◌, ◌≤◌, ◌≡◌, ◌⊎◌, Bool, true, false, List, get_or}
use Rattle.std.proofs.Common.{sym, ◌∙◌, ap, subst, inl, inr, ⊎_elim, add-one, arith}
use Rattle.algebra.specs.Polynomial.{Polynomial, polynomials}
use Rattle.modular.specs.Prime.{Prime}
use Rattle.modular.specs.Residue.{residues}
use Rattle.vector.specs.Stored.{below_or_not}
use Rattle.reduction.specs.Replace.{replace, replace_elim}
use Rattle.reduction.specs.Descent.{Descent, Turn, descent_turn}
use Rattle.solve_lattice.specs.Memory.{Level}
use Rattle.solve_lattice.specs.Range.{words_same}
use Rattle.solve_lattice.specs.Coefficients.{HoldsCoefficients}
use Rattle.solve_lattice.specs.Input.{Equations, input_system}
use Rattle.solve_lattice.specs.Output.{ValidOutput, HoldsAt}
use Rattle.solve_lattice.specs.Room.{block_words}
use Rattle.solve_certify.specs.Ascended.{HoldsLevels, HasLevels, HoldsDescended, HoldsAscended, Ascended}
use Rattle.solve_certify.specs.Extending.{Extension, extended, extended_level, extended_kernel}

module _ {p : ℕ} {prime : Prime p} {n m j : ℕ} {X : Equations p prime n m} {input : List ℕ} {L L' : Level} (inside : j < m)
    {H : HoldsLevels p prime n m X j input L} (E : Extension p prime H L') {quotients output : List ℕ}
    (D : HoldsDescended p prime n m (extended E) quotients output) where
  abbrev whole : ℕ → Polynomial (residues p prime)
  whole k = (polynomials (residues p prime)).mul D.d (X.side k)

  pub above : Descent (input_system p prime n m X) D.level D.kernel
      (λ k. (polynomials (residues p prime)).mul D.d (X.side k))
      (suc j) D.vector D.N
  above = subst (λ k. Descent (input_system p prime n m X) D.level D.kernel whole k D.vector D.N) (add-one j)
      D.descent

  pub lower_level : (k : ℕ) → k ≤ j → D.level k ≡ H.level k
  lower_level k h = D.same_level k (omega arith) ∙ extended_level E k h

  -- the words of the numerator's place alone change
  kept : (output' : List ℕ) → ((i : ℕ) → (i < block_words * (1 + j)) ⊎ (block_words * (1 + j) + block_words ≤ i)
      → get_or output' i 0 ≡ get_or output i 0)
      → (k : ℕ) (x : Polynomial (residues p prime)) → ¬ (k ≡ 1 + j) → HoldsAt p prime output k x → HoldsAt p prime output' k x
  kept output' others k x other holds = record {
    at = λ e. holds.at e ∙ sym (words_same p prime output' output (block_words * k) (block_words * k) block_words e
        (λ lt. ap (λ w. w % p) (others (block_words * k + e)
        (⊎_elim (λ less. inl (omega arith)) (λ more. inr (omega arith)) (below_or_not k (1 + j))))));
  }

  pub undone : (x : Polynomial (residues p prime)) (vector : ℕ → Polynomial (residues p prime)) {quotients' output' : List ℕ}
      → Turn (input_system p prime n m X) D.level D.kernel j D.vector D.N vector (replace D.N j x)
      → HoldsCoefficients p prime n (H.level j) vector quotients' → HoldsAt p prime output' (1 + j) x
      → ((i : ℕ) → (i < block_words * (1 + j)) ⊎ (block_words * (1 + j) + block_words ≤ i) → get_or output' i 0 ≡ get_or output i 0)
      → HoldsDescended p prime n m H quotients' output'
  undone x vector {quotients'} {output'} turn coefficients stored others = record {
    level = D.level;
    kernel = D.kernel;
    levels = D.levels;
    same_level = lower_level;
    same_kernel = λ k h. D.same_kernel k (omega arith) ∙ extended_kernel E k h;
    d = D.d;
    w = D.w;
    Z = D.Z;
    unfinished = D.unfinished;
    vector = vector;
    N = replace D.N j x;
    descent = descent_turn (input_system p prime n m X) D.level D.kernel D.levels whole j inside turn above;
    holds_d = kept output' others 0 D.d (λ e. omega arith) D.holds_d;
    holds_N = λ k h lt. replace_elim (λ i y. HoldsAt p prime output' (1 + i) y) D.N j x stored k
        (λ other. kept output' others (1 + k) (D.N k) (λ e. other (omega arith)) (D.holds_N k (omega (arith, other)) lt));
    holds_w = kept output' others (1 + m) D.w (λ e. omega arith) D.holds_w;
    holds_Z = λ i h. kept output' others (2 + m + i) (D.Z i) (λ e. omega arith) (D.holds_Z i h);
    coefficients = subst (λ U. HoldsCoefficients p prime n U vector quotients') (sym (lower_level j (omega arith))) coefficients;
  }

-- a column as a whole: the columns behind it, and down
module _ {p : ℕ} {n m j : ℕ} {input : List ℕ} {L L' : Level}
    (E : (prime : Prime p) (X : Equations p prime n m) (H : HoldsLevels p prime n m X j input L) → Extension p prime H L') where
  pub has_extended : HasLevels p n m j input L → HasLevels p n m (j + 1) input L'
  has_extended has = record {
    prime = has.prime;
    equations = has.equations;
    levels = extended (E has.prime has.equations has.levels);
  }

  module _ {quotients output : List ℕ} {solved : Bool} (A : Ascended p n m (j + 1) input L' quotients output solved) where
    pub ascended_undone : {quotients' output' : List ℕ} → solved ≡ true → ((i : ℕ) → get_or quotients' i 0 < p)
        → ValidOutput p output'
        → ((prime : Prime p) (X : Equations p prime n m) (H : HoldsLevels p prime n m X j input L)
        → HoldsDescended p prime n m (extended (E prime X H)) quotients output → HoldsDescended p prime n m H quotients' output')
        → Ascended p n m j input L quotients' output' solved
    unfolding HoldsAscended
    ascended_undone e below valid down = rw e record {
      below = below;
      valid = valid;
      holds = λ prime X H. down prime X H ((rw e at A).holds prime X (extended (E prime X H)));
    }

    -- without a solution there is no way down
    pub ascended_none : solved ≡ false → Ascended p n m j input L quotients output solved
    unfolding HoldsAscended
    ascended_none e = rw e record {
      below = A.below;
      valid = A.valid;
      holds = λ prime X H. (rw e at A).holds prime X (extended (E prime X H));
    }
