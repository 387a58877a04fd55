-- Refusals of systems and certificates (document 01, "Turned back", rows 1 to 9 and 21 to 29; demand 1 of the notice: "each refusal
-- has the number and place on the table, and is given under that condition only"): by the table, at the first word at fault.
use Rattle.std.specs.Prelude.{◌≡◌, refl, Bool, true, false, not, ◌&&◌, ◌||◌, ◌⊎◌, ◌↔◌, List, ◌∷◌, ◌++◌, ℕ, suc, ◌*◌, ◌≤◌, ◌<◌, length, get_or, take, eqb, leb}
use Rattle.std.proofs.Common.{inl, inr, ⊎_elim, ltb-false}
use Rattle.std.proofs.Math.Option.{Option, none, some}
use native.Mathlib.Omega.{arith}
use Rattle.modular.specs.Prime.{prime?}
use Rattle.modular.specs.Primality.{prime_of_true}
use Rattle.words.specs.Limits.{Limits, longest_system}
use Rattle.words.specs.Word.{kind, payload}
use Rattle.words.specs.Outcome.{Outcome, refuse}
use Rattle.words.specs.Outcome.Outcome.{refused}
use Rattle.words.specs.OutcomeLaws.{refuse_refused_iff}
use Rattle.words.proofs.BytesLaws.{length_words_of, or_right}
use Rattle.words.specs.Reading.{Reading, turn_back}
use Rattle.words.specs.System.{Shape, ShapeWithin, counts_within}
use Rattle.words.specs.Systems.{Head, HeadWithin, head_in, systems_words, systems_head_from, systems_due, read_systems}
use Rattle.words.specs.Certificate.{form_when, certificate_head_from, certificate_due, certificate_words, read_certificate}
use Rattle.words.specs.Certificate.Form.{absent}
use Rattle.words.specs.Bytes.{words_of, broken, too_long, read_systems_file, word_bytes}
use Rattle.words.specs.LimitsLaws.{LimitsFit}
use Rattle.words.proofs.SystemsLaws.{systems_format, systems_laws, systems_expressible}
use Rattle.words.proofs.CertificateLaws.{certificate_format, certificate_laws, certificate_expressible}
use Rattle.words.specs.Table.{table_row, number_at, due_after, Passed, ByTable}
use Rattle.words.specs.Table.{system_head_number, certificate_head_number, system_table, certificate_table}
use Rattle.words.specs.Table.Expected.{head}
use Rattle.words.proofs.TableLaws.{turned, HeadWalk}
use Rattle.words.proofs.PassLaws.{none_some}
use Rattle.words.specs.FirstFault.{SystemsBegin, SystemsWhole, CertificateBegins, CertificateWhole, FirstFault}
use Rattle.words.proofs.OnTableLaws as place
use Rattle.words.specs.TenFirst.{TenFirst, FileRefused}
use Rattle.words.specs.TenFirst.TenFirst.{ten, others}
use Rattle.words.specs.Rows.{RefusesBy, system_rows, certificate_rows, file_rows}
use Rattle.words.specs.RowLaws.{by_row}
use Rattle.words.proofs.FirstFaultLaws as first
use Rattle.words.proofs.FirstFaultLaws.{Tabled, Roomy}

-- ---- heads go by their tables

row_turned : {A : Type 0} (b : Bool) (number : ℕ) (ws : List ℕ) (next : Reading A) (below : Option ℕ) (other : Reading A)
    → next ≡ turned below ws other → turn_back b number ws next ≡ turned (table_row b number below) ws other
row_turned true number ws next below other h = refl
row_turned false number ws next below other h = h

systems_heads : (limits : Limits) → HeadWalk (systems_head_from limits) (systems_due limits) (system_table limits) 0
unfolding systems_head_from system_head_number
systems_heads limits =
    record {
      value = head_in;
      missing = refl;
      word = λ w ws.
          row_turned (not (eqb (kind w) 1 && leb (head_in w).sides limits.sides)) 1 (w ∷ ws) _ _ _
          (row_turned (not (prime? (head_in w).shape.modulus)) 2 (w ∷ ws) _ _ _
          (row_turned (not (counts_within limits (head_in w).shape)) 3 (w ∷ ws) _ none _ refl));
      says = λ w. refl;
    }

certificate_heads : (limits : Limits) (h : Shape) → HeadWalk certificate_head_from (certificate_due limits h)
    (certificate_table limits h) 20
unfolding certificate_head_from certificate_head_number
certificate_heads limits h =
    record {
      value = λ w. form_when (eqb (payload w) 1);
      missing = refl;
      word = λ w ws. row_turned (not (eqb (kind w) 5 && (eqb (payload w) 1 || eqb (payload w) 2))) 21 (w ∷ ws) _ none _ refl;
      says = λ w. refl;
    }

systems_head_numbers : (limits : Limits) (w n : ℕ) → system_head_number limits w ≡ some n → (1 ≤ n) × (n ≤ 3)
unfolding system_head_number
systems_head_numbers limits w n h =
    head_row (not (eqb (kind w) 1 && leb (head_in w).sides limits.sides)) 1 _ (omega arith)
    (head_row (not (prime? (head_in w).shape.modulus)) 2 _ (omega arith)
    (head_row (not (counts_within limits (head_in w).shape)) 3 none (omega arith) (λ e. absurd (none_some e)))) h
  where
    head_row : (b : Bool) (i : ℕ) (below : Option ℕ) → (1 ≤ i) × (i ≤ 3) → (below ≡ some n → (1 ≤ n) × (n ≤ 3))
        → table_row b i below ≡ some n → (1 ≤ n) × (n ≤ 3)
    head_row true i below l k e = let same : i ≡ n = cc in (omega arith, omega arith)
    head_row false i below l k e = k e

certificate_head_numbers : (w n : ℕ) → certificate_head_number w ≡ some n → (21 ≤ n) × (n ≤ 21)
unfolding certificate_head_number
certificate_head_numbers w n h = head_row (not (eqb (kind w) 5 && (eqb (payload w) 1 || eqb (payload w) 2))) h
  where
    head_row : (b : Bool) → table_row b 21 none ≡ some n → (21 ≤ n) × (n ≤ 21)
    head_row true e = let same : 21 ≡ n = cc in (omega arith, omega arith)
    head_row false e = absurd (none_some e)

-- ---- systems

module _ (limits : Limits) where
  abbrev systems_tabled : Tabled (systems_format limits)
  systems_tabled = record { table = system_table limits; heads = systems_heads limits }

  -- A system's words are refused just by the table: the number is that of the first row that the word at the place breaks, by what
  -- is due there, and no word before it breaks one.
  pub systems_refused_iff : (ws : List ℕ) (n k : ℕ) → (read_systems limits ws ≡ refused n k) ↔ ByTable (system_table limits) 0 ws n k
  unfolding read_systems
  systems_refused_iff ws n k = first.refused_iff (systems_format limits) systems_tabled ws n k

  -- the same of the word at the place
  pub systems_number : (ws : List ℕ) {n k : ℕ} → read_systems limits ws ≡ refused n k → k < length ws
      → number_at (system_table limits) 0 (due_after (system_table limits) head (take k ws)) (suc k) (get_or ws k 0) ≡ some n
  systems_number ws {n} {k} e more = place.row_at_word (system_table limits) 0 ws ((systems_refused_iff ws n k).0 e) more

  -- 1 to 3 at 0, 4 at the number of words, 5 to 9 at a word behind the head
  pub systems_rows : (ws : List ℕ) → RefusesBy (system_rows ws) (read_systems limits ws)
  systems_rows ws = record {
    in_rows = λ n k e. place.on_table (system_table limits) 0 1 3 (systems_head_numbers limits) ws ((systems_refused_iff ws n k).0 e);
  }

  -- a first fault has one place
  pub systems_fault_once : (ws : List ℕ) {n k m j : ℕ} → FirstFault (SystemsBegin limits) (SystemsWhole limits) 4 ws n k
      → FirstFault (SystemsBegin limits) (SystemsWhole limits) 4 ws m j → k ≡ j
  unfolding SystemsBegin SystemsWhole systems_words
  systems_fault_once ws f g = first.first_fault_once (systems_format limits) ws f g

  module _ (fit : LimitsFit limits) where
    systems_roomy : Roomy (systems_format limits)
    systems_roomy =
        record { laws = systems_laws limits fit; expressible = systems_expressible limits fit; two = λ h w. w.shape.prime.large }

    -- "or words follow, the first of them"
    pub systems_words_follow : (ws : List ℕ) → SystemsWhole limits ws → (u : ℕ) (us : List ℕ)
        → read_systems limits (ws ++ u ∷ us) ≡ refused 9 (length ws)
    unfolding SystemsWhole systems_words read_systems
    systems_words_follow ws t u us =
        first.words_follow (systems_format limits) systems_tabled systems_roomy ws t u us

    -- where there is a system at all: without one, no words begin any
    module _ (rows : 1 ≤ limits.rows) (columns : 1 ≤ limits.columns) (sides : 1 ≤ limits.sides) where
      smallest : Head
      smallest = record { shape = record { modulus = 2; rows = 1; columns = 1 }; sides = 1 }

      smallest_within : HeadWithin limits smallest
      unfolding smallest prime?
      smallest_within =
          record {
            shape = record {
              prime = prime_of_true 2 refl;
              modulus = omega arith;
              rows = (omega arith, rows);
              columns = (omega arith, columns);
            };
            sides = (omega arith, sides);
          }

      -- words begin a system just where none of them breaks a row
      pub systems_begins_iff : (us : List ℕ) → SystemsBegin limits us ↔ Passed (system_table limits) 0 0 head us
      unfolding SystemsBegin systems_words
      systems_begins_iff us =
          first.begins_iff (systems_format limits) systems_tabled systems_roomy smallest smallest_within us

      -- the first word at fault decides
      pub systems_first_fault : (ws : List ℕ) {n k : ℕ} → read_systems limits ws ≡ refused n k
          → FirstFault (SystemsBegin limits) (SystemsWhole limits) 4 ws n k
      unfolding SystemsBegin SystemsWhole systems_words read_systems
      systems_first_fault ws e =
          first.first_fault (systems_format limits) systems_tabled systems_roomy smallest smallest_within ws e

      -- 4, "a word is missing": just of words that begin a system and are none
      pub systems_missing_iff : (ws : List ℕ)
          → (read_systems limits ws ≡ refused 4 (length ws)) ↔ (SystemsBegin limits ws × ¬ SystemsWhole limits ws)
      unfolding SystemsBegin SystemsWhole systems_words read_systems
      systems_missing_iff ws =
          first.missing_iff (systems_format limits) systems_tabled systems_roomy smallest smallest_within ws

-- ---- certificates for a system of the shape h

module _ (limits : Limits) (h : Shape) where
  abbrev certificate_tabled : Tabled (certificate_format limits h)
  certificate_tabled = record { table = certificate_table limits h; heads = certificate_heads limits h }

  pub certificate_refused_iff : (cs : List ℕ) (n k : ℕ)
      → (read_certificate limits h cs ≡ refused n k) ↔ ByTable (certificate_table limits h) 20 cs n k
  unfolding read_certificate
  certificate_refused_iff cs n k =
      first.refused_iff (certificate_format limits h) certificate_tabled cs n k

  pub certificate_number : (cs : List ℕ) {n k : ℕ} → read_certificate limits h cs ≡ refused n k → k < length cs
      → number_at (certificate_table limits h) 20 (due_after (certificate_table limits h) head (take k cs)) (suc k) (get_or cs k 0)
      ≡ some n
  certificate_number cs {n} {k} e more =
      place.row_at_word (certificate_table limits h) 20 cs ((certificate_refused_iff cs n k).0 e) more

  -- 21 at 0, 24 at the number of words, 25 to 29 at a word behind the head
  pub certificate_rows_lem : (cs : List ℕ) → RefusesBy (certificate_rows cs) (read_certificate limits h cs)
  certificate_rows_lem cs = record {
    in_rows = λ n k e.
        place.on_table (certificate_table limits h) 20 21 21 certificate_head_numbers cs ((certificate_refused_iff cs n k).0 e);
  }

  pub certificate_fault_once : (cs : List ℕ) {n k m j : ℕ}
      → FirstFault (CertificateBegins limits h) (CertificateWhole limits h) 24 cs n k
      → FirstFault (CertificateBegins limits h) (CertificateWhole limits h) 24 cs m j → k ≡ j
  unfolding CertificateBegins CertificateWhole certificate_words
  certificate_fault_once cs f g = first.first_fault_once (certificate_format limits h) cs f g

  module _ (fit : LimitsFit limits) (shape : ShapeWithin limits h) where
    certificate_roomy : Roomy (certificate_format limits h)
    certificate_roomy =
        record {
          laws = certificate_laws limits h;
          expressible = certificate_expressible limits h fit shape;
          two = λ form _. shape.prime.large;
        }

    pub certificate_words_follow : (cs : List ℕ) → CertificateWhole limits h cs → (u : ℕ) (us : List ℕ)
        → read_certificate limits h (cs ++ u ∷ us) ≡ refused 29 (length cs)
    unfolding CertificateWhole certificate_words read_certificate
    certificate_words_follow cs t u us =
        first.words_follow (certificate_format limits h) certificate_tabled certificate_roomy cs t u us

    pub certificate_begins_iff : (us : List ℕ) → CertificateBegins limits h us ↔ Passed (certificate_table limits h) 20 0 head us
    unfolding CertificateBegins certificate_words
    certificate_begins_iff us =
        first.begins_iff (certificate_format limits h) certificate_tabled certificate_roomy absent tt us

    pub certificate_first_fault : (cs : List ℕ) {n k : ℕ} → read_certificate limits h cs ≡ refused n k
        → FirstFault (CertificateBegins limits h) (CertificateWhole limits h) 24 cs n k
    unfolding CertificateBegins CertificateWhole certificate_words read_certificate
    certificate_first_fault cs e =
        first.first_fault (certificate_format limits h) certificate_tabled certificate_roomy absent tt cs e

    pub certificate_missing_iff : (cs : List ℕ)
        → (read_certificate limits h cs ≡ refused 24 (length cs)) ↔ (CertificateBegins limits h cs × ¬ CertificateWhole limits h cs)
    unfolding CertificateBegins CertificateWhole certificate_words read_certificate
    certificate_missing_iff cs =
        first.missing_iff (certificate_format limits h) certificate_tabled certificate_roomy absent tt cs

-- ---- files: "Number 10 comes before all others."

-- 10 at 0 just of files at fault; of any others, what their words are refused by
pub ten_first_iff : {A : Type 0} (at_fault : Bool) (o : Outcome A) (Others : (number place : ℕ) → Type 0)
    → ((n k : ℕ) → (o ≡ refused n k) ↔ Others n k) → (n k : ℕ) → (refuse at_fault 10 0 o ≡ refused n k)
    ↔ TenFirst at_fault Others n k
ten_first_iff at_fault o Others iff n k = (
  λ e. ⊎_elim (λ t. ten t.0 t.1 t.2) (λ t. others t.0 ((iff n k).0 t.1)) ((first).0 e),
  back,
)
  where
    first : (refuse at_fault 10 0 o ≡ refused n k)
        ↔ (((at_fault ≡ true) × (n ≡ 10) × (k ≡ 0)) ⊎ ((at_fault ≡ false) × (o ≡ refused n k)))
    first = refuse_refused_iff at_fault 10 0 o n k

    back : TenFirst at_fault Others n k → refuse at_fault 10 0 o ≡ refused n k
    back (ten b en ek) = (first).1 (inl (b, en, ek))
    back (others b h) = (first).1 (inr (b, (iff n k).1 h))

pub file_refused_iff : (limits : Limits) (file : List ℕ) (n k : ℕ)
    → (read_systems_file limits file ≡ refused n k) ↔ FileRefused limits file n k
unfolding read_systems_file
file_refused_iff limits file =
    ten_first_iff (broken file || too_long limits file) (read_systems limits (words_of file)) _
    (systems_refused_iff limits (words_of file))

-- 10 at 0, else a row of its words
pub file_rows_lem : (limits : Limits) (file : List ℕ) → RefusesBy (file_rows (words_of file)) (read_systems_file limits file)
unfolding read_systems_file
file_rows_lem limits file = by_row (broken file || too_long limits file) 10 (systems_rows limits (words_of file))

-- so a place in a file that passes 10 is at most the number of words of the longest sheet, where its words have no place behind
-- their end
pub ten_place : (limits : Limits) (file : List ℕ) (Others : (number place : ℕ) → Type 0) {n k : ℕ}
    → (Others n k → k ≤ length (words_of file)) → TenFirst (broken file || too_long limits file) Others n k → k ≤ longest_system limits
ten_place limits file Others {n} {k} inside (ten b en ek) = omega arith
ten_place limits file Others {n} {k} inside (others b h) =
    let short = ltb-false (word_bytes * longest_system limits) (length file) (or_right (broken file) (too_long limits file) b) in
    omega (arith, inside h, length_words_of file, short)

pub file_place : (limits : Limits) (file : List ℕ) {n k : ℕ} → read_systems_file limits file ≡ refused n k → k ≤ longest_system limits
file_place limits file {n} {k} e =
    ten_place limits file (ByTable (system_table limits) 0 (words_of file)) (λ h. h.within) ((file_refused_iff limits file n k).0 e)
