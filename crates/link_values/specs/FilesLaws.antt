-- Laws of what is told of files: what is asked of the values comes last; the first words of a certificate's decide; numbers and
-- places of refusals; sizes.
use Rattle.std.specs.Prelude.{ℕ, suc, ◌+◌, ◌*◌, ◌≤◌, ◌<◌, ◌≡◌, Bool, not, ◌||◌, List, [], length, get_or, take, leb}
use Rattle.std.proofs.Math.Nat.{min-eq_left, min-eq_right}
use Rattle.std.proofs.Math.Path.{refl, subst}
use Rattle.std.proofs.Common.{sym, ap, ◌∙◌}
use Rattle.std.proofs.Math.Bool.{true, false}
use native.Mathlib.Omega.{arith}
use Rattle.std.proofs.Math.Seq.{take-length}
use borrow.Author.Tests.{leb-true, leb-false, lt-ltb, ltb-false}
use Rattle.modular.specs.Canonical.{Canonical}
use Rattle.words.specs.Limits.{Limits, longest_system, longest_certificate}
use Rattle.words.specs.LimitsLaws.{LimitsFit}
use Rattle.words.specs.Outcome.{Outcome, refuse, followed_by, mapped}
use Rattle.words.specs.Outcome.Outcome.{accepted, refused}
use Rattle.words.specs.OutcomeLaws.{followed_by_accepted, mapped_accepted, refuse_passed}
use Rattle.words.specs.System.{System, Shape, ShapeWithin, shape}
use Rattle.words.specs.Systems.{Systems, systems_head, read_systems, line, line_of, read_line}
use Rattle.words.proofs.SystemsLaws.{systems_written_of_read}
use Rattle.words.specs.Certificate.{Certificate, read_certificate}
use Rattle.words.specs.VectorLaws.{all_at}
use Rattle.words.proofs.PrefixLaws.{certificate_prefix}
use Rattle.words.specs.Rows.{system_rows, certificate_rows, file_rows}
use Rattle.words.specs.RowLaws.{numbers_between, places_below}
use Rattle.words.proofs.RefusedLaws.{systems_rows, certificate_rows_lem, file_rows_lem, file_place}
use Rattle.words.specs.Bytes.{words_of, broken, too_long, read_systems_file, word_bytes}
use Rattle.words.proofs.BytesLaws.{length_words_of, or_left, or_right}
use Rattle.lookup.specs.Lookup.{Of, entries_on}
use Rattle.lookup.specs.Lookup.Of.{system, certificate}
use Rattle.words.proofs.FramedLaws.{systems_framed, certificate_framed, framed_size}
use Rattle.truth.specs.Verdict.{verdict, certificate_verdict}
use Rattle.files.specs.Opening.{first_words}
use Rattle.files.specs.OpeningLaws.{few_words}
use Rattle.files.specs.OpeningBoth.{files_broken}
use Rattle.verifier.specs.File.{file_verdict}
use Rattle.link_values.specs.Refusals.{Numbers, Places, refusals_row, refusals_followed, refusals_mapped}
use Rattle.link_values.specs.Refusals.{refusals_accepted, refusals_same, numbers_wider}
use Rattle.answers.specs.Heads.{head_number}
use Rattle.link_values.specs.Files.{Pair, file_shape, read_both, read_files, file_kind, file_lookup}

-- ---- what is asked of the values: the system is read first, then the certificate for it, then that is tried

module _ (limits : Limits) {A : Type 0} (next : Systems → Certificate → Outcome A) where
  abbrev pub asked : Pair → Outcome A
  asked v = next v.system v.certificate

  pub both_then : (ws cs : List ℕ) → followed_by (read_both limits ws cs) asked
      ≡ followed_by (read_systems limits ws) (λ s. followed_by (read_certificate limits s.head.shape cs) (next s))
  unfolding read_both
  both_then ws cs = by_system (read_systems limits ws)
    where
      by_certificate : (s : Systems) (o : Outcome Certificate)
          → followed_by (mapped (λ c. record { system = s; certificate = c }) o) asked ≡ followed_by o (next s)
      by_certificate s (accepted c) = refl
      by_certificate s (refused number place) = refl

      by_system : (o : Outcome Systems)
          → followed_by (followed_by o (λ s.
          mapped (λ c. record { system = s; certificate = c }) (read_certificate limits s.head.shape cs))) asked
          ≡ followed_by o (λ s. followed_by (read_certificate limits s.head.shape cs) (next s))
      by_system (accepted s) = by_certificate s (read_certificate limits s.head.shape cs)
      by_system (refused number place) = refl

  -- of files behind 10
  pub files_then : (f g : List ℕ) → followed_by (read_files limits f g) asked
      ≡ refuse (files_broken limits f g) 10 0
      (followed_by (read_systems limits (words_of f)) (λ s.
      followed_by (read_certificate limits s.head.shape (words_of g)) (next s)))
  unfolding read_files
  files_then f g = by (files_broken limits f g)
    where
      by : (b : Bool) → followed_by (refuse b 10 0 (read_both limits (words_of f) (words_of g))) asked
          ≡ refuse b 10 0
          (followed_by (read_systems limits (words_of f)) (λ s.
          followed_by (read_certificate limits s.head.shape (words_of g)) (next s)))
      by true = refl
      by false = both_then (words_of f) (words_of g)

-- where the system has right side k, the check reads the same, and then judges its line
pub verdict_of_files : (limits : Limits) (k : ℕ) (f g : List ℕ)
    → ((s : Systems) → read_systems limits (words_of f) ≡ accepted s → k < s.head.sides)
    → file_verdict limits k f g ≡ followed_by (read_files limits f g) (λ v. certificate_verdict (line v.system k) v.certificate)
unfolding file_verdict verdict read_line line
verdict_of_files limits k f g has =
    ap (refuse (files_broken limits f g) 10 0) (by (read_systems limits (words_of f)) has)
    ∙ sym (files_then limits (λ s. certificate_verdict (line s k)) f g)
  where
    judged : System → Outcome (Unit {0})
    judged s = followed_by (read_certificate limits (shape s) (words_of g)) (certificate_verdict s)

    by : (o : Outcome Systems) → ((s : Systems) → o ≡ accepted s → k < s.head.sides)
        → followed_by (followed_by o (line_of k)) judged ≡ followed_by o (λ s. judged (line s k))
    by (refused number place) has = refl
    by (accepted s) has =
        ap (λ b. followed_by (refuse (not b) 40 0 (accepted (line s k))) judged) (lt-ltb k s.head.sides (has s refl))

-- ---- the first words of a certificate decide, so many that none has as many

module _ (limits : Limits) (fit : LimitsFit limits) (cs : List ℕ) (count : ℕ) (long : longest_certificate limits < count) where
  certificate_room : (h : Shape) → ShapeWithin limits h
      → read_certificate limits h (first_words count cs) ≡ read_certificate limits h cs
  certificate_room h within = by (leb (length cs) count) refl
    where
      by : (b : Bool) → leb (length cs) count ≡ b → read_certificate limits h (first_words count cs) ≡ read_certificate limits h cs
      by true e =
          ap (λ (n : ℕ). read_certificate limits h (take n cs)) (min-eq_left (leb-true (length cs) count e))
          ∙ ap (read_certificate limits h) (take-length cs)
      by false e =
          let more : count ≤ length cs = omega (arith, leb-false (length cs) count e) in
          ap (λ (n : ℕ). read_certificate limits h (take n cs)) (min-eq_right more)
          ∙ certificate_prefix limits fit h within count long cs more

  pub both_room : (ws : List ℕ) → read_both limits ws (first_words count cs) ≡ read_both limits ws cs
  unfolding read_both
  both_room ws = by (read_systems limits ws) refl
    where
      paired : Systems → Outcome Certificate → Outcome Pair
      paired s = mapped (λ c. record { system = s; certificate = c })

      by : (o : Outcome Systems) → read_systems limits ws ≡ o
          → followed_by o (λ s. paired s (read_certificate limits s.head.shape (first_words count cs)))
          ≡ followed_by o (λ s. paired s (read_certificate limits s.head.shape cs))
      by (accepted s) e =
          ap (paired s) (certificate_room s.head.shape (systems_written_of_read limits fit ws s e).1.head.shape)
      by (refused number place) e = refl

-- ---- the system first, then the certificate for it

module _ (limits : Limits) (ws cs : List ℕ) where
  pub both_system_refused : {number place : ℕ} → read_systems limits ws ≡ refused number place
      → read_both limits ws cs ≡ refused number place
  unfolding read_both
  both_system_refused e = rw e refl

  module _ {s : Systems} (e : read_systems limits ws ≡ accepted s) where
    pub both_certificate_refused : {number place : ℕ} → read_certificate limits s.head.shape cs ≡ refused number place
        → read_both limits ws cs ≡ refused number place
    unfolding read_both
    both_certificate_refused r = rw (e, r) refl

    pub both_accepted : {c : Certificate} → read_certificate limits s.head.shape cs ≡ accepted c
        → read_both limits ws cs ≡ accepted (record { system = s; certificate = c })
    unfolding read_both
    both_accepted r = rw (e, r) refl

-- ---- values that were read

module _ (limits : Limits) where
  pub record ReadAs (ws cs : List ℕ) (v : Pair) : Type 0 where
    pub system : read_systems limits ws ≡ accepted v.system
    pub certificate : read_certificate limits v.system.head.shape cs ≡ accepted v.certificate

  pub both_read : (ws cs : List ℕ) (v : Pair) → read_both limits ws cs ≡ accepted v → ReadAs ws cs v
  unfolding read_both
  both_read ws cs v e =
      let s = followed_by_accepted (read_systems limits ws) _ e in
      let found = read_certificate limits s.0.head.shape cs in
      let c = mapped_accepted (λ c. record { system = s.0; certificate = c }) found s.2 in
      subst (ReadAs ws cs) c.2 (record { system = s.1; certificate = c.1 })

  pub files_read : (f g : List ℕ) (v : Pair) → read_files limits f g ≡ accepted v → ReadAs (words_of f) (words_of g) v
  unfolding read_files
  files_read f g v e = both_read (words_of f) (words_of g) v (refuse_passed (files_broken limits f g) 10 0 _ e).1

  -- no polynomial is longer than one of a certificate may be
  pub lookup_size : limits.system_coefficients ≤ limits.certificate_coefficients → (ws cs : List ℕ) (v : Pair) → ReadAs ws cs v
      → (of : Of) (k : ℕ) → length (get_or (entries_on of v.system v.certificate) k []) ≤ limits.certificate_coefficients
  lookup_size more ws cs v r system k =
      let size = framed_size (systems_framed limits ws v.system r.system) k in omega arith
  lookup_size more ws cs v r certificate k =
      framed_size (certificate_framed limits cs v.system.head.shape v.certificate r.certificate) k

  -- and each is one modulo the system's p
  pub lookup_canonical : (ws cs : List ℕ) (v : Pair) → ReadAs ws cs v → (of : Of) (k : ℕ)
      → Canonical v.system.head.shape.modulus (get_or (entries_on of v.system v.certificate) k [])
  lookup_canonical ws cs v r system k =
      (all_at v.system.head.shape.modulus limits.system_coefficients _
      (systems_framed limits ws v.system r.system).entries.entries k).canonical
  lookup_canonical ws cs v r certificate k =
      (all_at v.system.head.shape.modulus limits.certificate_coefficients _
      (certificate_framed limits cs v.system.head.shape v.certificate r.certificate).entries.entries k).canonical

-- ---- numbers of refusals

module _ (limits : Limits) where
  pub system_numbers : (ws : List ℕ) → Numbers 1 9 (read_systems limits ws)
  system_numbers ws =
      record {
        each = λ number place e. numbers_between number place 1 9 (system_rows ws) refl
            ((systems_rows limits ws).in_rows number place e);
      }

  pub certificate_numbers : (h : Shape) (cs : List ℕ) → Numbers 21 29 (read_certificate limits h cs)
  certificate_numbers h cs = record {
    each = λ number place e.
        numbers_between number place 21 29 (certificate_rows cs) refl ((certificate_rows_lem limits h cs).in_rows number place e);
  }

  -- 10 of the file, before all others
  pub file_numbers : (f : List ℕ) → Numbers 1 10 (read_systems_file limits f)
  file_numbers f = record {
    each = λ number place e.
        numbers_between number place 1 10 (file_rows (words_of f)) refl ((file_rows_lem limits f).in_rows number place e);
  }

  pub shape_numbers : (f : List ℕ) → Numbers 1 10 (file_shape limits f)
  shape_numbers f = refusals_mapped head_number _ (refusals_mapped systems_head (read_systems_file limits f) (file_numbers f))

  pub files_numbers : (f g : List ℕ) → Numbers 1 29 (read_files limits f g)
  unfolding read_files read_both
  files_numbers f g =
      refusals_row (files_broken limits f g) 10 0 _ (omega arith, omega arith) (λ _.
      refusals_followed (read_systems limits (words_of f)) _
      (numbers_wider 1 9 (omega arith) (omega arith) (system_numbers (words_of f))) (λ s _.
      refusals_mapped _ (read_certificate limits s.head.shape (words_of g))
      (numbers_wider 21 29 (omega arith) (omega arith) (certificate_numbers s.head.shape (words_of g)))))

  pub kind_numbers : (f g : List ℕ) → Numbers 1 29 (file_kind limits f g)
  kind_numbers f g = refusals_mapped _ (read_files limits f g) (files_numbers f g)

  -- 12 comes last
  pub lookup_numbers : (f g : List ℕ) (of : Of) (k : ℕ) → Numbers 1 29 (file_lookup limits f g of k)
  lookup_numbers f g of k =
      refusals_followed (read_files limits f g) _ (files_numbers f g) (λ v _.
      refusals_row (leb (length (entries_on of v.system v.certificate)) k) 12 0 _ (omega arith, omega arith) (λ _.
      refusals_accepted _))

-- ---- places of refusals

-- no place is behind the words
system_place : (limits : Limits) (ws : List ℕ) {number place : ℕ} → read_systems limits ws ≡ refused number place
    → place < suc (length ws)
system_place limits ws {number} {place} e =
    places_below number place (suc (length ws)) (system_rows ws) (omega arith, (omega arith, (omega arith, tt)))
    ((systems_rows limits ws).in_rows number place e)

certificate_place : (limits : Limits) (h : Shape) (cs : List ℕ) {number place : ℕ}
    → read_certificate limits h cs ≡ refused number place
    → place < suc (length cs)
certificate_place limits h cs {number} {place} e =
    places_below number place (suc (length cs)) (certificate_rows cs) (omega arith, (omega arith, (omega arith, tt)))
    ((certificate_rows_lem limits h cs).in_rows number place e)

module _ (limits : Limits) (fit : LimitsFit limits) (most : ℕ) (system_words : longest_system limits ≤ most)
    (certificate_words_lem : longest_certificate limits + 1 ≤ most) where
  -- of files that are opened no more words are read
  words_places : (f g : List ℕ) → files_broken limits f g ≡ false → Places most (read_both limits (words_of f) (words_of g))
  unfolding read_both
  words_places f g e =
      let whole = or_left (broken f || too_long limits f) (broken g) e in
      let short = ltb-false (word_bytes * longest_system limits) (length f) (or_right (broken f) (too_long limits f) whole) in
      let count = longest_certificate limits + 1 in
      let cs = first_words count (words_of g) in
      refusals_same (sym (both_room limits fit (words_of g) count (omega arith) (words_of f)))
      (refusals_followed (read_systems limits (words_of f)) _
      (record { each = λ number place r. omega (arith, system_place limits (words_of f) r, length_words_of f, short) }) (λ s _.
      refusals_mapped _ (read_certificate limits s.head.shape cs)
      (record {
        each = λ number place r. omega (arith, certificate_place limits s.head.shape cs r, few_words count (words_of g));
      })))

  pub files_places : (f g : List ℕ) → Places most (read_files limits f g)
  unfolding read_files
  files_places f g = refusals_row (files_broken limits f g) 10 0 _ (omega arith) (words_places f g)

  pub kind_places : (f g : List ℕ) → Places most (file_kind limits f g)
  kind_places f g = refusals_mapped _ (read_files limits f g) (files_places f g)

  pub lookup_places : (f g : List ℕ) (of : Of) (k : ℕ) → Places most (file_lookup limits f g of k)
  lookup_places f g of k =
      refusals_followed (read_files limits f g) _ (files_places f g) (λ v _.
      refusals_row (leb (length (entries_on of v.system v.certificate)) k) 12 0 _ (omega arith) (λ _. refusals_accepted _))

  pub shape_places : (f : List ℕ) → Places most (file_shape limits f)
  shape_places f = refusals_mapped head_number _ (refusals_mapped systems_head (read_systems_file limits f)
      (record { each = λ number place r. omega (arith, file_place limits f r) }))
