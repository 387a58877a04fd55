-- A polynomial that is looked up: what is left in the lent numbers.
use mathlib.Core.Path.{◌≡◌, refl, sym, ap, ◌∙◌}
use mathlib.Core.Bool.{Bool, true, false}
use mathlib.Core.List.{List, [], append-nil}
use Prim.Native.Nat.{ℕ, suc, ◌+◌, ◌-◌, ◌≤◌, ◌<◌}
use native.Mathlib.Omega.{arith}
use lib.ListN.{length, get_or}
use lib.Dec.{leb}
use borrow.Author.Tests.{lt-leb}
use Rattle.words.specs.Limits.{Limits, office}
use Rattle.words.specs.LimitsLaws.{office_fits}
use Rattle.words.specs.Outcome.{Outcome, refuse, followed_by, mapped}
use Rattle.words.specs.Outcome.Outcome.{accepted, refused}
use Rattle.words.specs.OutcomeLaws.{mapped_accepted, mapped_refused, refused_accepted}
use Rattle.words.specs.Word.{payload}
use Rattle.words.specs.Polynomial.{polynomial_words}
use Rattle.words.proofs.PolynomialLaws.{length_polynomial_words}
use Rattle.words.proofs.PlaceLaws.{coefficient_at}
use Rattle.words.specs.Systems.{Systems, read_systems}
use Rattle.words.proofs.SystemsLaws.{systems_written_of_read}
use Rattle.words.specs.Certificate.{Certificate, read_certificate}
use Rattle.lookup.specs.Lookup.{Of, Part, entries_on, shown, polynomial_lookup, words_shown, companion}
use Rattle.lookup.proofs.LookupLaws.{Shows, lookup_shown}
use Rattle.vector.specs.Stored.{stored}
use Rattle.loader.specs.StoredLaws.{stored_list}
use Rattle.link_values.specs.Files.{Pair, read_both, lookup_of}
use Rattle.link_values.specs.FilesLaws.{ReadAs, both_accepted, lookup_size, lookup_canonical}
use Rattle.link_values.specs.Giving.{GivesList}
use Rattle.link_values.specs.GivingLaws.{gives_list}

-- ---- what is looked up, by the words that the lookup shows

module _ (ws cs : List ℕ) (of : Of) (k : ℕ) where
  abbrev Told : Limits → Outcome Part
  Told limits = polynomial_lookup limits ws cs of k

  -- the coefficients that are due
  abbrev pub Sought : Outcome (List ℕ)
  Sought = lookup_of of k (read_both office ws cs)

  by_row : {A B : Type 0} (t : Bool) (a : A) (b : B) {number place : ℕ} → refuse t 12 0 (accepted a) ≡ refused number place
      → refuse t 12 0 (accepted b) ≡ refused number place
  by_row true a b e = cc
  by_row false a b e = absurd (refused_accepted (sym e))

  by_values : (o : Outcome Systems) {number place : ℕ}
      → followed_by o (λ s. followed_by (read_certificate office s.head.shape cs) (λ c. shown k (entries_on of s c)))
      ≡ refused number place
      → lookup_of of k (followed_by o (λ s. mapped (λ c. record { system = s; certificate = c })
      (read_certificate office s.head.shape cs)))
      ≡ refused number place
  by_values (refused n p) e = cc
  by_values (accepted s) {number} {place} e = by (read_certificate office s.head.shape cs) e
    where
      by : (o : Outcome Certificate) → followed_by o (λ c. shown k (entries_on of s c)) ≡ refused number place
          → lookup_of of k (mapped (λ c. record { system = s; certificate = c }) o) ≡ refused number place
      by (accepted c) r = by_row (leb (length (entries_on of s c)) k) _ _ r
      by (refused n p) r = cc

  -- words that stand for a polynomial: its size, then its coefficients
  pub record Found (words : List ℕ) : Type 0 where
    pub coefficients : List ℕ
    pub sought : Sought ≡ accepted coefficients
    pub size : length words ≡ 1 + length coefficients
    pub few : length coefficients ≤ office.certificate_coefficients
    pub each : (i : ℕ) → i < length coefficients → payload (get_or words (1 + i) 0) ≡ get_or coefficients i 0

  found : {words : List ℕ} (part : Part) → Shows office ws cs of k part → words ≡ part.words → Found words
  found {words} part s same =
      let v : Pair = record { system = s.system; certificate = s.certificate } in
      let r : ReadAs office ws cs v = record { system = s.read_system; certificate = s.read_certificate_lem } in
      let f = get_or (entries_on of s.system s.certificate) k [] in
      let p = (systems_written_of_read office office_fits ws s.system s.read_system).1.head.shape.modulus in
      let is : words ≡ polynomial_words f = same ∙ s.words in
      record {
        coefficients = f;
        sought =
            ap (lookup_of of k) (both_accepted office ws cs s.read_system s.read_certificate_lem)
            ∙ simp (lt-leb (length (entries_on of s.system s.certificate)) k s.number);
        size = ap length is ∙ length_polynomial_words f ∙ omega arith;
        few = lookup_size office (omega arith) ws cs v r of k;
        each = λ i lt.
            let next : 1 + i ≡ suc i = omega arith in
            ap (λ (j : ℕ). payload (get_or words j 0)) next
            ∙ ap (λ (l : List ℕ). payload (get_or l (suc i) 0)) (is ∙ sym (append-nil (polynomial_words f)))
            ∙ coefficient_at s.system.head.shape.modulus (omega arith) f [] (lookup_canonical office ws cs v r of k) i lt;
      }

  -- the limits as the code has them
  module _ (limits : Limits) (is : limits ≡ office) where
    pub sought_refused : {number place : ℕ} → refused number place ≡ companion (Told limits) → Sought ≡ refused number place
    unfolding polynomial_lookup read_both
    sought_refused e =
        by_values (read_systems office ws)
        (ap Told (sym is) ∙ mapped_refused (λ part. tt) (Told limits) (sym e))

    -- the words that are shown
    module _ {words : List ℕ} (shows : words ≡ words_shown (Told limits)) where
      pub none_shown : length words ≡ 0 → (limits' : Limits) → limits' ≡ office → accepted tt ≡ companion (Told limits') → ⊥
      none_shown none limits' is' passed =
          let same = ap (λ l. companion (Told l)) (is ∙ sym is') in
          let part = mapped_accepted (λ part. tt) (Told limits) (same ∙ sym passed) in
          let s = lookup_shown limits ws cs of k part.0 part.1 in
          omega (
            arith,
            none,
            ap length (shows ∙ ap words_shown part.1 ∙ s.words),
            length_polynomial_words
                (get_or (entries_on of s.system s.certificate) k []),
          )

      pub some_shown : ¬ (length words ≡ 0) → Found words
      some_shown some = by (Told limits) refl
        where
          by : (o : Outcome Part) → Told limits ≡ o → Found words
          by (refused number place) e = absurd (some (ap length (shows ∙ ap words_shown e)))
          by (accepted part) e =
              found part (lookup_shown office ws cs of k part (ap Told (sym is) ∙ e)) (shows ∙ ap words_shown e)

  -- ---- what is left

  pub gives_found : {words : List ℕ} → Found words → (lent exit : List ℕ) → office.certificate_coefficients ≤ length lent
      → {n : ℕ} → n ≡ length words - 1 → exit ≡ stored (λ j. payload (get_or words (1 + j) 0)) lent 0 n
      → GivesList Sought lent exit (accepted n)
  gives_found F lent exit room {n} count stores =
      let size : n ≡ length F.coefficients = omega (arith, F.size) in
      gives_list F.sought size
      (stores ∙ ap (stored _ lent 0) size ∙ stored_list _ lent 0 F.coefficients F.each (omega (arith, F.few)))
