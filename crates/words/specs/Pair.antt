-- The words of a sheet and those of a certificate for it, handed in together: what is accepted of them, and what is refused. "Reads
-- the sheet, then the card, then tries" what is asked of their values (document 01, of the check; of the lookup "likewise"). The
-- lookup reads all that the sheet holds, the check one line of it.
use Rattle.std.specs.Prelude.{ℕ, ◌≡◌, List}
use Rattle.words.specs.Limits.{Limits}
use Rattle.words.specs.Outcome.{Outcome}
use Rattle.words.specs.System.{System, Shape, shape}
use Rattle.words.specs.Systems.{Systems, SystemsWithin, systems_words, read_systems, read_line}
use Rattle.words.specs.Line.{LineIn, LineRefused}
use Rattle.words.specs.Certificate.{Certificate, CertificateWithin, certificate_words}
use Rattle.words.specs.Bytes.{bytes_of}
use Rattle.words.specs.Table.{ByTable, system_table, certificate_table}

-- What is read of a sheet's words: the reader; the shape that certificates are read with; and, with no reader in it, the words that
-- hold a value, and what is refused of others. What is said of written pairs below takes from it all but the reader.
pub record Source (S : Type 0) : Type 1 where
  pub from : List ℕ → Outcome S
  pub shape_in : S → Shape
  pub Holds : S → List ℕ → Type 0
  pub Refused : List ℕ → (number place : ℕ) → Type 0

-- all that it holds
abbrev pub whole : Limits → Source Systems
whole limits = record {
  from = read_systems limits;
  shape_in = λ s. s.head.shape;
  Holds = λ s ws. (ws ≡ systems_words s) × SystemsWithin limits s;
  Refused = ByTable (system_table limits) 0;
}

-- one line of it
abbrev pub one_line : Limits → ℕ → Source System
one_line limits k =
    record { from = read_line limits k; shape_in = shape; Holds = LineIn limits k; Refused = LineRefused limits k }

module _ (limits : Limits) {S : Type 0} (source : Source S) where
  -- the words hold a value and the written form of a certificate for it within the limits, and of the two something holds
  pub record WrittenPair (Of : S → Certificate → Type 0) (ws cs : List ℕ) : Type 0 where
    pub system : S
    pub certificate : Certificate
    pub system_words : source.Holds system ws
    pub certificate_words_lem : cs ≡ certificate_words certificate
    pub certificate_within : CertificateWithin limits (source.shape_in system) certificate
    pub holds : Of system certificate

  -- the bytes are those of such words
  pub record WrittenFiles (Of : S → Certificate → Type 0) (f g : List ℕ) : Type 0 where
    pub system_words : List ℕ
    pub certificate_words_lem : List ℕ
    pub system_file : f ≡ bytes_of system_words
    pub certificate_file : g ≡ bytes_of certificate_words_lem
    pub written : WrittenPair Of system_words certificate_words_lem

  -- A refusal: of the sheet's words; where these hold a value, by the table's rows for the words of a certificate for it; of both,
  -- by what is asked of the values.
  pub data PairRefused (Of : S → Certificate → (number place : ℕ) → Type 0) (ws cs : List ℕ) (number place : ℕ) : Type 0 where
    by_system : source.Refused ws number place → PairRefused Of ws cs number place
    by_certificate : (s : S) → source.Holds s ws → ByTable (certificate_table limits (source.shape_in s)) 20 cs number place
        → PairRefused Of ws cs number place
    by_values : WrittenPair (λ s c. Of s c number place) ws cs → PairRefused Of ws cs number place
