-- What is told of files, in the terms of their words: which files are read, as what; the numbers are those of the heads, the
-- coefficients those that the lookup shows.
use Prim.Native.Nat.{ℕ, ◌≤◌}
use Rattle.std.specs.Prelude.{◌≡◌, ◌↔◌, Bool, true, false, ◌||◌, length, get_or, drop, leb}
use Rattle.std.proofs.Math.Path.{refl, sym, ap}
use Rattle.std.proofs.Common.{◌∙◌, subst, arith}
use mathlib.Core.List.{List, [], map}
use Rattle.modular.specs.Canonical.{Canonical}
use Rattle.words.specs.Limits.{Limits}
use Rattle.words.specs.LimitsLaws.{LimitsFit}
use Rattle.words.specs.Word.{payload, Bytes, payload_bound}
use Rattle.words.specs.Outcome.{Outcome, refuse, followed_by, mapped}
use Rattle.words.specs.Outcome.Outcome.{accepted, refused}
use Rattle.words.specs.OutcomeLaws.{refuse_passed}
use Rattle.words.specs.Polynomial.{polynomial_words}
use Rattle.words.proofs.PlaceLaws.{payloads_of}
use Rattle.words.specs.Systems.{Systems, SystemsWithin, systems_words, read_systems}
use Rattle.words.proofs.SystemsLaws.{systems_written_of_read}
use Rattle.words.specs.Certificate.{Certificate, CertificateWithin, certificate_form, certificate_words, read_certificate}
use Rattle.words.proofs.CertificateLaws.{certificate_written_of_read}
use Rattle.words.specs.Bytes.{words_of, bytes_of, broken, too_long, read_systems_file}
use Rattle.words.specs.Pair.{WrittenPair, whole}
use Rattle.words.proofs.PairLaws.{pair_accepted_iff}
use Rattle.words.proofs.SourceLaws.{whole_laws}
use Rattle.files.specs.OpeningBoth.{files_broken}
use Rattle.lookup.specs.Lookup.{Of, Part, entries_on, part_of, shown, polynomial_lookup}
use Rattle.verifier.specs.Checked.{words_of_files, files_of_words, whole_short}
use Rattle.answers.specs.Heads.{head_number, kind_number, head_written, form_written}
use Rattle.link_values.specs.Files.{Pair, read_files, polynomial_looked, file_lookup}
use Rattle.link_values.specs.FilesLaws.{asked, files_then, files_read, lookup_canonical}

-- ---- the shape

module _ (limits : Limits) (fit : LimitsFit limits) where
  -- the number is what the head has beside its kind
  pub shape_is_head : (f : List ℕ) (s : Systems) → read_systems_file limits f ≡ accepted s
      → head_number s.head ≡ payload (get_or (words_of f) 0 0)
  unfolding read_systems_file
  shape_is_head f s e =
      let read = (refuse_passed (broken f || too_long limits f) 10 0 (read_systems limits (words_of f)) e).1 in
      let w = systems_written_of_read limits fit (words_of f) s read in
      head_written limits fit s w.1.head ∙ sym (ap (λ (ws : List ℕ). payload (get_or ws 0 0)) w.0)

-- ---- the kind

pub kind_is_head : (limits : Limits) (f g : List ℕ) (v : Pair) → read_files limits f g ≡ accepted v
    → kind_number (certificate_form v.certificate) ≡ payload (get_or (words_of g) 0 0)
kind_is_head limits f g v e =
    let r = (files_read limits f g v e).certificate in
    form_written v.certificate
    ∙ ap (λ (ws : List ℕ). payload (get_or ws 0 0))
    (sym (certificate_written_of_read limits v.system.head.shape (words_of g) _ r).0)

-- ---- the coefficients

-- of a part that is shown: what its words hold behind the first
abbrev pub coefficients_shown : Part → List ℕ
coefficients_shown part = map payload (drop 1 part.words)

module _ (limits : Limits) (fit : LimitsFit limits) (f g : List ℕ) (whole : files_broken limits f g ≡ false) (of : Of)
    (k : ℕ) where
  -- the lookup on files tells the coefficients that the lookup on their words shows
  pub file_lookup_is : file_lookup limits f g of k
      ≡ mapped coefficients_shown (polynomial_lookup limits (words_of f) (words_of g) of k)
  unfolding polynomial_lookup polynomial_words
  file_lookup_is =
      files_then limits looked f g ∙ ap (λ b. refuse b 10 0 (followed_by (read_systems limits ws) second)) whole
      ∙ by_system (read_systems limits ws) refl
    where
      ws : List ℕ
      ws = words_of f

      cs : List ℕ
      cs = words_of g

      looked : Systems → Certificate → Outcome (List ℕ)
      looked s c = polynomial_looked k (entries_on of s c)

      second : Systems → Outcome (List ℕ)
      second s = followed_by (read_certificate limits s.head.shape cs) (looked s)

      by_row : (p : ℕ) → p ≤ payload_bound → (fs : List (List ℕ)) → Canonical p (get_or fs k []) → (b : Bool)
          → refuse b 12 0 (accepted (get_or fs k [])) ≡ mapped coefficients_shown (refuse b 12 0 (accepted (part_of fs k)))
      by_row p small fs canonical true = refl
      by_row p small fs canonical false = ap accepted (sym (payloads_of p small (get_or fs k []) canonical))

      by_certificate : (s : Systems) → read_systems limits ws ≡ accepted s → (o : Outcome Certificate)
          → read_certificate limits s.head.shape cs ≡ o
          → followed_by o (looked s) ≡ mapped coefficients_shown (followed_by o (λ c. shown k (entries_on of s c)))
      by_certificate s r (refused number place) q = refl
      by_certificate s r (accepted c) q =
          let v : Pair = record { system = s; certificate = c } in
          let p = (systems_written_of_read limits fit ws s r).1.head.shape.modulus in
          by_row s.head.shape.modulus (omega arith) (entries_on of s c)
          (lookup_canonical limits ws cs v (record { system = r; certificate = q }) of k) (leb (length (entries_on of s c)) k)

      by_system : (o : Outcome Systems) → read_systems limits ws ≡ o → followed_by o second
          ≡ mapped coefficients_shown (followed_by o (λ s.
          followed_by (read_certificate limits s.head.shape cs) (λ c. shown k (entries_on of s c))))
      by_system (refused number place) r = refl
      by_system (accepted s) r = by_certificate s r (read_certificate limits s.head.shape cs) refl

-- ---- which files are read, as what

-- the files of a system within the limits and of a certificate for it
abbrev pub FilesOf : Limits → Pair → (f g : List ℕ) → Type 0
FilesOf limits v f g =
    (f ≡ bytes_of (systems_words v.system)) × SystemsWithin limits v.system
    × (g ≡ bytes_of (certificate_words v.certificate)) × CertificateWithin limits v.system.head.shape v.certificate

module _ (limits : Limits) (fit : LimitsFit limits) (f g : List ℕ) (small_f : Bytes f) (small_g : Bytes g) (v : Pair) where
  pub read_files_iff : (read_files limits f g ≡ accepted v) ↔ FilesOf limits v f g
  read_files_iff = (
    λ e.
        let t = refuse_passed (files_broken limits f g) 10 0 _
        (sym (files_then limits pair f g) ∙ as_pair (read_files limits f g) ∙ e) in
        let a = files_of_words limits (whole limits) f g small_f small_g t.0 (both.0 t.1) in
        let w = a.written in
        let same : record { system = w.system; certificate = w.certificate } ≡ v = let h = w.holds in cc in
        subst (λ u. FilesOf limits u f g) same (
          a.system_file ∙ ap bytes_of w.system_words.0,
          w.system_words.1,
          a.certificate_file ∙ ap bytes_of w.certificate_words_lem,
          w.certificate_within,
        ),
    λ h.
        let t = words_of_files limits (whole limits) {Of = λ s c. pair s c ≡ accepted v} f g (whole_short limits fit) (record {
          system_words = systems_words v.system;
          certificate_words_lem = certificate_words v.certificate;
          system_file = h.0;
          certificate_file = h.2;
          written = record {
            system = v.system;
            certificate = v.certificate;
            system_words = (refl, h.1);
            certificate_words_lem = refl;
            certificate_within = h.3;
            holds = refl;
          };
        }) in
        sym (as_pair (read_files limits f g)) ∙ files_then limits pair f g ∙ ap (λ b. refuse b 10 0 pairs) t.0
        ∙ both.1 t.1,
  )
    where
      pair : Systems → Certificate → Outcome Pair
      pair s c = accepted (record { system = s; certificate = c })

      pairs : Outcome Pair
      pairs =
          followed_by (read_systems limits (words_of f)) (λ s.
          followed_by (read_certificate limits s.head.shape (words_of g)) (pair s))

      both : (pairs ≡ accepted v) ↔ WrittenPair limits (whole limits) (λ s c. pair s c ≡ accepted v) (words_of f) (words_of g)
      both = pair_accepted_iff limits (whole limits) pair (words_of f) (words_of g) fit (whole_laws limits fit) v

      as_pair : (o : Outcome Pair) → followed_by o (asked limits pair) ≡ o
      as_pair (accepted u) = refl
      as_pair (refused number place) = refl
