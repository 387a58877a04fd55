-- "Every accepted form writes back as the same words" (demand 2 of the notice), of the writers' calls: on arrays that stand for
-- what was read, a call answers with the count of the words that were read, and writes just these over the first of the lent words.
use Rattle.std.specs.Prelude.{◌≡◌, List, ℕ, ◌≤◌, length, Result, Ok, Err}
use Rattle.std.proofs.Common.{sym, ap, ◌∙◌}
use Rattle.words.specs.Limits.{Limits, longest_system, longest_certificate}
use Rattle.words.specs.LimitsLaws.{LimitsFit}
use Rattle.words.specs.Outcome.{Outcome, mapped}
use Rattle.words.specs.Outcome.Outcome.{accepted}
use Rattle.words.specs.OutcomeLaws.{refused_accepted}
use Rattle.words.specs.System.{Shape, ShapeWithin}
use Rattle.words.specs.Systems.{Systems, read_systems}
use Rattle.words.proofs.SystemsLaws.{systems_written_of_read}
use Rattle.words.specs.Certificate.{Certificate, read_certificate, certificate_form}
use Rattle.words.proofs.CertificateLaws.{certificate_written_of_read}
use Rattle.answers.specs.declared.answer.Refusal.{Refusal}
use Rattle.answers.specs.Answer.{counted_outcome}
use Rattle.write_frame.specs.Overwriting.{overwritten}
use Rattle.writer.specs.Writing.{write_systems, write_certificate, lent_after, Writes}
use Rattle.writer.specs.WrittenLaws.{system_writes, certificate_writes}
use Rattle.writer.specs.Values.{system_in_arrays, certificate_in}

counted_is : (answer : Result ℕ Refusal) {n : ℕ} → counted_outcome answer ≡ accepted n → answer ≡ Ok n
counted_is (Ok m) {n} e = let same : m ≡ n = cc in ap Ok same
counted_is (Err r) e = absurd (refused_accepted e)

-- a call that is to write words
pub record WritesBack (ws entry : List ℕ) (answer : Result ℕ Refusal) (exit : List ℕ) : Type 0 where
  pub count : answer ≡ Ok (length ws)
  pub words : exit ≡ overwritten ws entry

writes_back : {outcome : Outcome (List ℕ)} {ws entry exit : List ℕ} {answer : Result ℕ Refusal} → outcome ≡ accepted ws
    → Writes outcome entry answer exit → WritesBack ws entry answer exit
unfolding lent_after
writes_back {outcome} {ws} {entry} {exit} {answer} e w = record {
  count = counted_is answer (w.told ∙ ap (mapped length) e);
  words = w.lent ∙ ap (λ (o : Outcome (List ℕ)). lent_after o entry) e;
}

module _ (limits : Limits) (fit : LimitsFit limits) (ws sizes coefficients : List ℕ) {entry exit : List ℕ} {answer : Result ℕ Refusal} where
  pub system_written_back : (s : Systems) → read_systems limits ws ≡ accepted s
      → system_in_arrays limits s.head sizes coefficients ≡ s → longest_system limits ≤ length entry
      → Writes (write_systems limits (length entry) (system_in_arrays limits s.head sizes coefficients)) entry answer exit
      → WritesBack ws entry answer exit
  system_written_back s read held room w =
      let written = systems_written_of_read limits fit ws s read in
      writes_back
      (ap (write_systems limits (length entry)) held ∙ system_writes limits (length entry) fit s written.1 room
      ∙ ap accepted (sym written.0)) w

  -- for a system of the shape h
  pub certificate_written_back : (h : Shape) → ShapeWithin limits h → (c : Certificate) → read_certificate limits h ws ≡ accepted c
      → certificate_in h (certificate_form c) sizes coefficients ≡ c → longest_certificate limits ≤ length entry
      → Writes (write_certificate limits (length entry) h (certificate_in h (certificate_form c) sizes coefficients)) entry answer exit
      → WritesBack ws entry answer exit
  certificate_written_back h shape c read held room w =
      let written = certificate_written_of_read limits h ws c read in
      writes_back
      (ap (write_certificate limits (length entry) h) held
      ∙ certificate_writes limits (length entry) h shape c written.1 room
      ∙ ap accepted (sym written.0)) w
