-- A certificate in memory, as the solver leaves it: its polynomials in written order, each in 128 words, lowest coefficient first.
use Rattle.std.specs.Prelude.{ℕ, ◌+◌, ◌*◌, ◌<◌, ◌≡◌, Bool, true, false, List, length, get_or}
use Rattle.algebra.specs.Polynomial.{Polynomial}
use Rattle.algebra.specs.Size.{sized}
use Rattle.algebra.specs.Monic.{Monic}
use Rattle.modular.specs.Prime.{Prime}
use Rattle.modular.specs.Residue.{residues}
use Rattle.reduction.specs.System.{LinearSystem}
use Rattle.reduction.specs.Holds.{Holds}
use Rattle.reduction.specs.Polynomials.{euclidean}
use Rattle.reduction.specs.Certificate.{RightSolutionIn, SmallSolution, RightAbsenceIn, SmallAbsence}
use Rattle.reduction.specs.Numerators.{ReducedNumerators}
use Rattle.reduction.specs.Certifying.{Certifying}
use Rattle.reduction.specs.Killing.{Killing}
use Rattle.solve_lattice.specs.Room.{output_words, block_words, most_coefficients}
use Rattle.solve_lattice.specs.Word.{words}

-- room for 18 polynomials
pub record ValidOutput (p : ℕ) (output : List ℕ) : Type 0 where
  pub room : length output ≡ output_words
  pub below : (i : ℕ) → get_or output i 0 < p

-- the place of polynomial k in written order
abbrev pub place_of : ℕ → ℕ
place_of k = block_words * k

module _ (p : ℕ) (prime : Prime p) where
  -- polynomial k of the certificate is x
  abbrev pub HoldsAt : List ℕ → ℕ → Polynomial (residues p prime) → Type 0
  HoldsAt output k = Holds (residues p prime) (words p prime output (place_of k) block_words)

  module _ (T : LinearSystem (sized (residues p prime))) (output : List ℕ) where
    -- "d, N, w, Z", right for T and of degree at most 120
    pub record HoldsSolution : Type 0 where
      pub d : Polynomial (residues p prime)
      pub N : ℕ → Polynomial (residues p prime)
      pub w : Polynomial (residues p prime)
      pub Z : ℕ → Polynomial (residues p prime)
      pub right : RightSolutionIn (euclidean (residues p prime)) T d N w Z
      pub small : SmallSolution (euclidean (residues p prime)) T most_coefficients d N w Z
      pub reduced : ReducedNumerators (sized (residues p prime)) T.rows T.columns T.matrix N
      pub certifying : Certifying (sized (residues p prime)) T.rows T.columns T.matrix T.side d w Z
      pub holds_d : HoldsAt output 0 d
      pub holds_N : (j : ℕ) → j < T.columns → HoldsAt output (1 + j) (N j)
      pub holds_w : HoldsAt output (1 + T.columns) w
      pub holds_Z : (i : ℕ) → i < T.rows → HoldsAt output (2 + T.columns + i) (Z i)

    -- "q", right for T and of degree at most 120
    pub record HoldsAbsence : Type 0 where
      pub q : ℕ → Polynomial (residues p prime)
      pub right : RightAbsenceIn (euclidean (residues p prime)) T q
      pub small : SmallAbsence (euclidean (residues p prime)) T most_coefficients q
      pub killing : Killing (sized (residues p prime)) T.rows T.columns T.matrix T.side q
      pub monic : Monic (residues p prime) (q killing.at)
      pub holds_q : (i : ℕ) → i < T.rows → HoldsAt output i (q i)

    -- whether there is a solution
    unfoldable pub HoldsCertificate : Bool → Type 0
    HoldsCertificate true = HoldsSolution
    HoldsCertificate false = HoldsAbsence
