-- A certificate's words cut behind more than any certificate has: the verdict is the same.
use Rattle.std.specs.Prelude.{◌≡◌, Bool, true, false, length, take, leb}
use Rattle.std.proofs.Math.Path.{refl}
use Rattle.std.proofs.Common.{ap, ◌∙◌, arith, leb-true, leb-false}
use mathlib.Core.List.{List}
use Prim.Native.Nat.{ℕ, ◌≤◌, ◌<◌, min}
use Rattle.std.proofs.Math.Nat.{min-eq_left, min-eq_right}
use Rattle.std.proofs.Math.Seq.{take-length}
use Rattle.words.specs.Limits.{Limits, longest_certificate}
use Rattle.words.specs.LimitsLaws.{LimitsFit}
use Rattle.words.specs.Outcome.{Outcome, followed_by}
use Rattle.words.specs.Outcome.Outcome.{accepted, refused}
use Rattle.words.specs.System.{System, shape}
use Rattle.words.specs.Systems.{read_line}
use Rattle.words.proofs.LineLaws.{line_written_of_read, line_in_within}
use Rattle.words.specs.Certificate.{read_certificate}
use Rattle.words.proofs.PrefixLaws.{certificate_prefix}
use Rattle.truth.specs.Verdict.{verdict, certificate_verdict}

module _ (limits : Limits) (fit : LimitsFit limits) (k : ℕ) (ws cs : List ℕ) (count : ℕ)
    (long : longest_certificate limits < count) where
  pub verdict_prefix : count ≤ length cs → verdict limits k ws (take count cs) ≡ verdict limits k ws cs
  unfolding verdict
  verdict_prefix more = go (read_line limits k ws) refl
    where
      on : List ℕ → System → Outcome (Unit {0})
      on vs s = followed_by (read_certificate limits (shape s) vs) (certificate_verdict s)

      go : (o : Outcome System) → read_line limits k ws ≡ o → followed_by o (on (take count cs)) ≡ followed_by o (on cs)
      go (accepted s) e =
          let within = (line_in_within limits fit k ws (line_written_of_read limits fit k ws e)).shape in
          ap (λ o. followed_by o (certificate_verdict s)) (certificate_prefix limits fit (shape s) within count long cs more)
      go (refused number place) e = refl

  pub verdict_room : verdict limits k ws (take (min (length cs) count) cs) ≡ verdict limits k ws cs
  verdict_room = go (leb (length cs) count) refl
    where
      go : (b : Bool) → leb (length cs) count ≡ b → verdict limits k ws (take (min (length cs) count) cs) ≡ verdict limits k ws cs
      go true e =
          ap (λ (n : ℕ). verdict limits k ws (take n cs)) (min-eq_left (leb-true (length cs) count e))
          ∙ ap (verdict limits k ws) (take-length cs)
      go false e =
          let more : count ≤ length cs = omega (arith, leb-false (length cs) count e) in
          ap (λ (n : ℕ). verdict limits k ws (take n cs)) (min-eq_right more) ∙ verdict_prefix more
