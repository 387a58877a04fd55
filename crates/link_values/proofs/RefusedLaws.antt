-- The refusals of the calls on files and values, each under its condition only: of what is told, and of the numbers that are given.
-- On a refusal nothing that is lent changes.
use Rattle.std.specs.Prelude.{ℕ, ◌+◌, ◌*◌, ◌/◌, ◌%◌, ◌≤◌, ◌≡◌, refl, ◌↔◌, List, [], length, get_or}
use Rattle.std.proofs.Common.{sym, ◌∙◌, arith}
use Rattle.words.specs.Limits.{Limits}
use Rattle.words.specs.LimitsLaws.{LimitsFit}
use Rattle.words.specs.Outcome.{Outcome, followed_by, mapped}
use Rattle.words.specs.Outcome.Outcome.{accepted, refused}
use Rattle.words.specs.OutcomeLaws.{refused_accepted, mapped_refused_iff}
use Rattle.words.specs.Systems.{Systems, Head, systems_head}
use Rattle.words.specs.Certificate.{Certificate, certificate_form}
use Rattle.words.specs.Bytes.{words_of, bytes_of, read_systems_file, word_bytes}
use Rattle.words.specs.TenFirst.{TenFirst, FileRefused}
use Rattle.words.specs.Pair.{PairRefused, whole}
use Rattle.words.proofs.PairLaws.{pair_refused_iff}
use Rattle.words.proofs.SourceLaws.{whole_laws}
use Rattle.words.proofs.RefusedLaws.{ten_first_iff, file_refused_iff}
use Rattle.lookup.specs.Lookup.{Of, entries_on}
use Rattle.lookup.specs.RefusedLaws.{NoPolynomial, no_polynomial_iff}
use Rattle.files.specs.OpeningBoth.{files_broken}
use Rattle.answers.specs.Packed.{packed, place_unit, number_most}
use Rattle.writer.specs.Writing.{write_systems}
use Rattle.writer.specs.Values.{system_in_arrays}
use Rattle.writer.specs.Refused.{SystemFault}
use Rattle.writer.proofs.RefusedLaws.{system_refused_iff_fault}
use Rattle.answers.specs.Heads.{head_number, kind_number}
use Rattle.link_values.specs.Files.{Pair, file_shape, read_files, file_kind, polynomial_looked}
use Rattle.link_values.specs.Files.{file_lookup, write_systems_file}
use Rattle.link_values.specs.FilesLaws.{asked, files_then, shape_numbers, kind_numbers, lookup_numbers}
use Rattle.link_values.specs.WritingLaws.{write_numbers}
use Rattle.link_values.specs.Refusals.{Numbers, numbers_wider}
use Rattle.link_values.specs.Giving.{GivesPacked}
use Rattle.link_values.specs.Unpacked.{packed_refused_iff, given_refused, given_refused_iff}

-- ---- a system's file

pub shape_refused_iff : (limits : Limits) (f : List ℕ) (n k : ℕ) → (file_shape limits f ≡ refused n k) ↔ FileRefused limits f n k
shape_refused_iff limits f =
    mapped_refused_iff head_number (mapped systems_head (read_systems_file limits f)) _
    (mapped_refused_iff systems_head (read_systems_file limits f) _ (file_refused_iff limits f))

-- as the writer on so many whole words as are lent
pub write_file_refused_iff : (limits : Limits) (lent : ℕ) (s : Systems) (n k : ℕ)
    → (write_systems_file limits lent s ≡ refused n k) ↔ SystemFault limits (lent / word_bytes) s n k
write_file_refused_iff limits lent s =
    mapped_refused_iff bytes_of (write_systems limits (lent / word_bytes) s) _ (system_refused_iff_fault limits (lent / word_bytes) s)

-- ---- a system's file and a certificate's

-- 10 of either file, then those of the system's words, those of the certificate's, and last what is tried of the values
abbrev pub FilesRefusedBy : Limits → (Systems → Certificate → (number place : ℕ) → Type 0) → (f g : List ℕ) (number place : ℕ)
    → Type 0
FilesRefusedBy limits Of f g = TenFirst (files_broken limits f g) (PairRefused limits (whole limits) Of (words_of f) (words_of g))

-- nothing is tried of them
abbrev pub NothingTried : Systems → Certificate → (number place : ℕ) → Type 0
NothingTried s c number place = ⊥

module _ (limits : Limits) (fit : LimitsFit limits) (f g : List ℕ) where
  module _ {A : Type 0} (next : Systems → Certificate → Outcome A) (Of : Systems → Certificate → (number place : ℕ) → Type 0)
      (values : (s : Systems) (c : Certificate) (n k : ℕ) → (next s c ≡ refused n k) ↔ Of s c n k) where
    pub files_then_refused_iff : (n k : ℕ)
        → (followed_by (read_files limits f g) (asked limits next) ≡ refused n k) ↔ FilesRefusedBy limits Of f g n k
    files_then_refused_iff n k =
        let is = files_then limits next f g in
        let iff = ten_first_iff (files_broken limits f g) _ _
        (pair_refused_iff limits (whole limits) next (words_of f) (words_of g) fit (whole_laws limits fit) Of
        (λ s _ c _. values s c)) n k in
        (λ e. iff.0 (sym is ∙ e), λ t. is ∙ iff.1 t)

  pub kind_refused_iff : (n k : ℕ) → (file_kind limits f g ≡ refused n k) ↔ FilesRefusedBy limits NothingTried f g n k
  kind_refused_iff n k =
      let iff = files_then_refused_iff kind NothingTried (λ s c n k. (λ e. refused_accepted (sym e), λ t. absurd t)) n k in
      (λ e. iff.0 (sym (as_kind (read_files limits f g)) ∙ e), λ t. as_kind (read_files limits f g) ∙ iff.1 t)
    where
      kind : Systems → Certificate → Outcome ℕ
      kind s c = accepted (kind_number (certificate_form c))

      as_kind : (o : Outcome Pair)
          → mapped (λ v. kind_number (certificate_form v.certificate)) o ≡ followed_by o (asked limits kind)
      as_kind (accepted v) = refl
      as_kind (refused number place) = refl

  -- 12 last
  pub lookup_file_refused_iff : (of : Of) (i n k : ℕ)
      → (file_lookup limits f g of i ≡ refused n k) ↔ FilesRefusedBy limits (NoPolynomial of i) f g n k
  lookup_file_refused_iff of i =
      files_then_refused_iff (λ s c. polynomial_looked i (entries_on of s c)) (NoPolynomial of i)
      (λ s c. no_polynomial_iff (get_or (entries_on of s c) i []) (entries_on of s c) i)

-- ---- by the numbers that the calls give

module _ (limits : Limits) where
  pub shape_gives_iff : (f : List ℕ) (number place : ℕ) → 1 ≤ number → number ≤ number_most
      → (packed (file_shape limits f) ≡ place_unit * place + number) ↔ FileRefused limits f number place
  shape_gives_iff f number place l m =
      let gives = packed_refused_iff (file_shape limits f) (numbers_wider 1 10 (omega arith) (omega arith) (shape_numbers limits f))
      number place l m in
      let iff = shape_refused_iff limits f number place in
      (λ e. iff.0 (gives.0 e), λ t. gives.1 (iff.1 t))

  pub kind_gives_iff : LimitsFit limits → (f g : List ℕ) (number place : ℕ) → 1 ≤ number → number ≤ number_most
      → (packed (file_kind limits f g) ≡ place_unit * place + number) ↔ FilesRefusedBy limits NothingTried f g number place
  kind_gives_iff fit f g number place l m =
      let gives = packed_refused_iff (file_kind limits f g)
      (numbers_wider 1 29 (omega arith) (omega arith) (kind_numbers limits f g)) number place l m in
      let iff = kind_refused_iff limits fit f g number place in
      (λ e. iff.0 (gives.0 e), λ t. gives.1 (iff.1 t))

  module _ (f g : List ℕ) (of : Of) (i : ℕ) {entry exit : List ℕ} {r : ℕ}
      (gives : GivesPacked (file_lookup limits f g of i) entry exit r) where
    abbrev looked_numbers : Numbers 1 number_most (file_lookup limits f g of i)
    looked_numbers = numbers_wider 1 29 (omega arith) (omega arith) (lookup_numbers limits f g of i)

    pub lookup_gives_iff : LimitsFit limits → (number place : ℕ) → 1 ≤ number → number ≤ number_most
        → (r ≡ place_unit * place + number) ↔ FilesRefusedBy limits (NoPolynomial of i) f g number place
    lookup_gives_iff fit number place l m =
        let given = given_refused_iff (file_lookup limits f g of i) looked_numbers gives number place l m in
        let iff = lookup_file_refused_iff limits fit f g of i number place in
        (λ e. iff.0 (given.0 e), λ t. given.1 (iff.1 t))

    pub unchanged_lookup : ¬ (r % place_unit ≡ 0) → exit ≡ entry
    unchanged_lookup some = (given_refused (file_lookup limits f g of i) looked_numbers gives some).1

  module _ (h : Head) (sizes coefficients : List ℕ) {entry exit : List ℕ} {r : ℕ}
      (gives : GivesPacked (write_systems_file limits (length entry) (system_in_arrays limits h sizes coefficients)) entry exit r) where
    abbrev written_numbers : Numbers 1 number_most
        (write_systems_file limits (length entry) (system_in_arrays limits h sizes coefficients))
    written_numbers = numbers_wider 1 11 (omega arith) (omega arith) (write_numbers limits (length entry) h sizes coefficients)

    pub write_gives_iff : (number place : ℕ) → 1 ≤ number → number ≤ number_most
        → (r ≡ place_unit * place + number)
        ↔ SystemFault limits (length entry / word_bytes) (system_in_arrays limits h sizes coefficients) number place
    write_gives_iff number place l m =
        let given = given_refused_iff _ written_numbers gives number place l m in
        let iff = write_file_refused_iff limits (length entry) (system_in_arrays limits h sizes coefficients) number place in
        (λ e. iff.0 (given.0 e), λ t. given.1 (iff.1 t))

    pub unchanged_write : ¬ (r % place_unit ≡ 0) → exit ≡ entry
    unchanged_write some = (given_refused _ written_numbers gives some).1
