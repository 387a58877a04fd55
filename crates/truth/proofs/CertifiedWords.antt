-- Demand 2, first sentence: "The check accepts a card for a sheet exactly when the conditions for a certified solution, or for a
-- certified absence of solutions, in Mulders and Storjohann hold of it, any stated denominator is monic, and the solution's is in
-- lowest terms."
use Rattle.std.specs.Prelude.{ℕ, ◌↔◌}
use Rattle.std.proofs.Math.Path.{◌≡◌}
use mathlib.Core.List.{List, [], ◌∷◌}
use native.Mathlib.Omega.{arith}
use Rattle.words.specs.Limits.{Limits}
use Rattle.words.specs.LimitsLaws.{LimitsFit}
use Rattle.words.specs.Outcome.Outcome.{accepted}
use Rattle.words.specs.System.{System, shape, SystemWithin}
use Rattle.words.specs.Certificate.{Certificate, CertificateWithin}
use Rattle.words.specs.Certificate.Certificate.{solution, absence}
use Rattle.words.specs.Line.{LineIn}
use Rattle.words.proofs.LineLaws.{line_in_within}
use Rattle.words.specs.Pair.{WrittenPair, one_line}
use Rattle.words.proofs.PairLaws.{written_map}
use Rattle.truth.specs.Right.{Right}
use Rattle.truth.specs.Verdict.{verdict}
use Rattle.truth.proofs.Accepted.{AcceptedWords, words_of_accepted, accepted_of_words, proper, proper_solution, all_canonical}
use Rattle.truth.specs.Certified.{Certified}
use Rattle.truth.proofs.CertifiedLaws.{right_iff_certified, absent_iff_certified}

-- the words are the written forms of systems within the limits that have right side k, and of a certificate of which the conditions
-- hold for its line
abbrev pub CertifiedWords : Limits → (k : ℕ) → (ws cs : List ℕ) → Type 0
CertifiedWords limits k ws cs = WrittenPair limits (one_line limits k) Certified ws cs

module _ (limits : Limits) where
  -- of values within the limits
  pub within_certified : (s : System) → SystemWithin limits s → (c : Certificate) → CertificateWithin limits (shape s) c
      → Right s c ↔ Certified s c
  unfolding Right Certified CertificateWithin
  within_certified s h (solution d N w Z) k = right_iff_certified s (proper limits s h) (proper_solution limits s d N w Z k)
  within_certified s h (absence q) k =
      absent_iff_certified s (proper limits s h) q (all_canonical s.modulus limits.certificate_coefficients q k.entries)
      (1 ∷ []) one_nonzero
    where
      one_nonzero : ¬ (◌≡◌ {A = List ℕ} (1 ∷ []) [])
      one_nonzero e = let z : ◌≡◌ {A = ℕ} 0 1 = cc in omega arith

  module _ (fit : LimitsFit limits) (k : ℕ) (ws cs : List ℕ) where
    line_certified : (s : System) → LineIn limits k s ws → (c : Certificate) → CertificateWithin limits (shape s) c
        → Right s c ↔ Certified s c
    line_certified s h = within_certified s (line_in_within limits fit k ws h)

    pub words_iff_certified : AcceptedWords limits k ws cs ↔ CertifiedWords limits k ws cs
    words_iff_certified = (
      written_map limits (one_line limits k) (λ s h c m. (line_certified s h c m).0),
      written_map limits (one_line limits k) (λ s h c m. (line_certified s h c m).1),
    )

    pub accepted_iff_certified : (verdict limits k ws cs ≡ accepted tt) ↔ CertifiedWords limits k ws cs
    accepted_iff_certified = (
      λ e. words_iff_certified.0 (words_of_accepted limits fit k ws cs e),
      λ a. accepted_of_words limits fit k ws cs (words_iff_certified.1 a),
    )
