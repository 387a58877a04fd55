-- Counts and places of what is told are small, so that they can be packed.
use Prim.Native.Nat.{ℕ, ◌≤◌}
use mathlib.Core.Path.{◌≡◌, ap}
use mathlib.Core.List.{List, []}
use native.Mathlib.Omega.{arith}
use lib.ListN.{length, get_or}
use lib.Dec.{leb}
use Rattle.words.specs.Limits.{office}
use Rattle.words.specs.LimitsLaws.{office_fits}
use Rattle.words.specs.Outcome.{Outcome, mapped}
use Rattle.words.specs.Outcome.Outcome.{accepted, refused}
use Rattle.words.specs.OutcomeLaws.{refused_accepted, mapped_accepted, followed_by_accepted, refuse_passed}
use Rattle.words.specs.Systems.{Head}
use Rattle.words.specs.Certificate.{Form, certificate_form}
use Rattle.words.specs.Certificate.Form.{solving, absent}
use Rattle.answers.specs.Packed.{packed_most, AnswerMost}
use Rattle.lookup.specs.Lookup.{Of, entries_on}
use Rattle.link_values.specs.Refusals.{Places, refusals_mapped}
use Rattle.writer.specs.Values.{system_in_arrays}
use Rattle.answers.specs.Heads.{kind_number}
use Rattle.link_values.specs.Files.{read_files, file_kind, file_lookup, write_systems_file}
use Rattle.link_values.specs.FilesLaws.{files_read, lookup_size, kind_places, lookup_places}
use Rattle.link_values.specs.WritingLaws.{write_places, write_count}

pub refusal_small : {A : Type 0} {o : Outcome A} {number place : ℕ} → Places packed_most o → o ≡ refused number place
    → AnswerMost packed_most packed_most (refused number place)
refusal_small {number = number} {place} small e = record {
  counts = λ n r. absurd (refused_accepted r);
  places = λ i k r.
      let same : place ≡ k = cc in
      omega (arith, small.each number place e);
}

kind_most : (form : Form) → kind_number form ≤ 2
kind_most solving = omega arith
kind_most absent = omega arith

pub kind_small : (f g : List ℕ) → AnswerMost packed_most packed_most (file_kind office f g)
kind_small f g = record {
  counts = λ n e.
      let v = mapped_accepted (λ v. kind_number (certificate_form v.certificate)) (read_files office f g) e in
      omega (arith, kind_most (certificate_form v.0.certificate), v.2);
  places = (kind_places office office_fits packed_most (omega arith) (omega arith) f g).each;
}

pub lookup_small : (f g : List ℕ) (of : Of) (k : ℕ) → AnswerMost packed_most packed_most
    (mapped length (file_lookup office f g of k))
lookup_small f g of k = record {
  counts = λ n e.
      let f' = mapped_accepted length (file_lookup office f g of k) e in
      let v = followed_by_accepted (read_files office f g) _ f'.1 in
      let fs = entries_on of v.0.system v.0.certificate in
      let t = refuse_passed (leb (length fs) k) 12 0 (accepted (get_or fs k [])) v.2 in
      let same : get_or fs k [] ≡ f'.0 = (let p = t.1 in cc) in
      let size = lookup_size office (omega arith) _ _ v.0 (files_read office f g v.0 v.1) of k in
      omega (arith, size, ap length same, f'.2);
  places = (refusals_mapped length (file_lookup office f g of k)
      (lookup_places office office_fits packed_most (omega arith) (omega arith) f g of k)).each;
}

pub write_small : (lent : ℕ) (h : Head) (sizes coefficients : List ℕ)
    → AnswerMost packed_most packed_most (mapped length (write_systems_file office lent (system_in_arrays office h sizes coefficients)))
write_small lent h sizes coefficients = record {
  counts = λ n e.
      let bytes = mapped_accepted length (write_systems_file office lent (system_in_arrays office h sizes coefficients)) e in
      omega (arith, write_count office lent h sizes coefficients office_fits bytes.0 bytes.1, bytes.2);
  places = (refusals_mapped length (write_systems_file office lent (system_in_arrays office h sizes coefficients))
      (write_places office lent h sizes coefficients packed_most (omega arith))).each;
}
