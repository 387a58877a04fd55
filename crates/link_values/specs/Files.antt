-- What is told of the values in files, for every list of bytes: a value, or a refusal of document 01's table.
use Rattle.std.specs.Prelude.{ℕ, zero, suc, ◌/◌, List, [], length, get_or, leb}
use Rattle.words.specs.Limits.{Limits}
use Rattle.words.specs.Outcome.{Outcome, refuse, followed_by, mapped}
use Rattle.words.specs.Outcome.Outcome.{accepted}
use Rattle.words.specs.Systems.{Systems, systems_head, read_systems}
use Rattle.words.specs.Certificate.{Certificate, certificate_form, read_certificate}
use Rattle.words.specs.Bytes.{words_of, bytes_of, read_systems_file, word_bytes}
use Rattle.files.specs.OpeningBoth.{files_broken}
use Rattle.answers.specs.Heads.{head_number, kind_number}
use Rattle.lookup.specs.Lookup.{Of, entries_on}
use Rattle.lookup.specs.Lookup.Of.{system, certificate}
use Rattle.writer.specs.Writing.{write_systems}

-- ---- a system's file

-- p, n, m and the number of right sides as one number
abbrev pub file_shape : Limits → List ℕ → Outcome ℕ
file_shape limits f = mapped head_number (mapped systems_head (read_systems_file limits f))

-- the bytes of a matrix with its right sides where so many bytes are lent: what their writer gives where so many whole words are
abbrev pub write_systems_file : Limits → ℕ → Systems → Outcome (List ℕ)
write_systems_file limits lent s = mapped bytes_of (write_systems limits (lent / word_bytes) s)

-- ---- a system's file and a certificate's

pub record Pair : Type 0 where
  pub system : Systems
  pub certificate : Certificate

-- the system first, then the certificate for it
unfoldable pub read_both : Limits → List ℕ → List ℕ → Outcome Pair
unfolding read_systems read_certificate
read_both limits ws cs =
    followed_by (read_systems limits ws) (λ s.
    mapped (λ c. record { system = s; certificate = c }) (read_certificate limits s.head.shape cs))

-- of files: "Number 10 comes before all others."
unfoldable pub read_files : Limits → List ℕ → List ℕ → Outcome Pair
unfolding words_of read_both
read_files limits f g = refuse (files_broken limits f g) 10 0 (read_both limits (words_of f) (words_of g))

-- the kind of the certificate
abbrev pub kind_of : Outcome Pair → Outcome ℕ
kind_of both = mapped (λ v. kind_number (certificate_form v.certificate)) both

abbrev pub file_kind : Limits → List ℕ → List ℕ → Outcome ℕ
file_kind limits f g = kind_of (read_files limits f g)

-- which of the two, as a number
abbrev pub of_numbered : ℕ → Of
of_numbered zero = system
of_numbered (suc n) = certificate

-- the coefficients of the polynomial of that number
abbrev pub polynomial_looked : ℕ → List (List ℕ) → Outcome (List ℕ)
polynomial_looked k fs = refuse (leb (length fs) k) 12 0 (accepted (get_or fs k []))  -- 12: no polynomial of that number; 0

abbrev pub lookup_of : Of → ℕ → Outcome Pair → Outcome (List ℕ)
lookup_of of k both = followed_by both (λ v. polynomial_looked k (entries_on of v.system v.certificate))

abbrev pub file_lookup : Limits → List ℕ → List ℕ → Of → ℕ → Outcome (List ℕ)
file_lookup limits f g of k = lookup_of of k (read_files limits f g)
