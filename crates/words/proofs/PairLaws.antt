-- A sheet read, or one line of it, then a certificate for it, then what is asked of their values: when that is accepted, when it is
-- refused and where.
use Rattle.std.specs.Prelude.{ℕ, ◌≡◌, refl, ◌↔◌, List, ◌++◌, get_or}
use Rattle.std.proofs.Common.{ap, ◌∙◌, subst}
use Rattle.words.specs.Limits.{Limits}
use Rattle.words.specs.LimitsLaws.{LimitsFit}
use Rattle.words.specs.Outcome.{Outcome, followed_by}
use Rattle.words.specs.Outcome.Outcome.{accepted, refused}
use Rattle.words.specs.OutcomeLaws.{followed_by_accepted}
use Rattle.words.specs.System.{Shape}
use Rattle.words.specs.Systems.{head_in}
use Rattle.words.specs.Certificate.{Certificate, CertificateWithin, read_certificate}
use Rattle.words.proofs.CertificateLaws.{certificate_read_of_written, certificate_written_of_read}
use Rattle.words.proofs.RefusedLaws.{certificate_refused_iff, certificate_rows_lem}
use Rattle.words.specs.Rows.{Row, RefusesBy, certificate_rows}
use Rattle.words.specs.RowLaws.{by_followed}
use Rattle.words.proofs.SourceLaws.{SourceLaws, SourceRows}
use Rattle.words.specs.Pair.{Source, WrittenPair, PairRefused}
use Rattle.words.specs.Pair.PairRefused.{by_system, by_certificate, by_values}

module _ (limits : Limits) {S : Type 0} (source : Source S) where
  -- what holds of the values may be said otherwise
  pub written_map : {Of Say : S → Certificate → Type 0} {ws cs : List ℕ}
      → ((s : S) → source.Holds s ws → (c : Certificate) → CertificateWithin limits (source.shape_in s) c → Of s c → Say s c)
      → WrittenPair limits source Of ws cs → WrittenPair limits source Say ws cs
  written_map f a = record {
    system = a.system;
    certificate = a.certificate;
    system_words = a.system_words;
    certificate_words_lem = a.certificate_words_lem;
    certificate_within = a.certificate_within;
    holds = f a.system a.system_words a.certificate a.certificate_within a.holds;
  }

  module _ {A : Type 0} (next : S → Certificate → Outcome A) (ws cs : List ℕ) where
    abbrev second : S → Outcome A
    second s = followed_by (read_certificate limits (source.shape_in s) cs) (next s)

    abbrev both : Outcome A
    both = followed_by (source.from ws) second

    module _ (fit : LimitsFit limits) (laws : SourceLaws limits source) where
      -- of written forms it is what is asked of the values
      pub pair_of_written : {Of : S → Certificate → Type 0} (w : WrittenPair limits source Of ws cs)
          → both ≡ next w.system w.certificate
      pair_of_written w =
          ap (λ o. followed_by o second) (laws.read_of_written w.system ws w.system_words)
          ∙ ap (λ o. followed_by o (next w.system))
          (ap (read_certificate limits (source.shape_in w.system)) w.certificate_words_lem
          ∙ certificate_read_of_written limits (source.shape_in w.system) fit (laws.valid w.system ws w.system_words)
          w.certificate w.certificate_within)

      -- where both are read they are written forms
      written : {Of : S → Certificate → Type 0} (s : S) (c : Certificate) → source.from ws ≡ accepted s
          → read_certificate limits (source.shape_in s) cs ≡ accepted c → Of s c → WrittenPair limits source Of ws cs
      written s c r q h =
          let certificate_read = certificate_written_of_read limits (source.shape_in s) cs c q in
          record {
            system = s;
            certificate = c;
            system_words = laws.written_of_read s ws r;
            certificate_words_lem = certificate_read.0;
            certificate_within = certificate_read.1;
            holds = h;
          }

      pub pair_accepted_iff : (a : A) → (both ≡ accepted a) ↔ WrittenPair limits source (λ s c. next s c ≡ accepted a) ws cs
      pair_accepted_iff a = (
        λ e.
            let first = followed_by_accepted (source.from ws) second e in
            let then = followed_by_accepted (read_certificate limits (source.shape_in first.0) cs) _ first.2 in
            written first.0 then.0 first.1 then.1 then.2,
        λ w. pair_of_written w ∙ w.holds,
      )

      module _ (Of : S → Certificate → ℕ → ℕ → Type 0) (values : (s : S) → source.Holds s ws → (c : Certificate)
          → CertificateWithin limits (source.shape_in s) c → (n k : ℕ) → (next s c ≡ refused n k) ↔ Of s c n k) (n k : ℕ) where
        refused_pair : (o : Outcome S) → source.from ws ≡ o → followed_by o second ≡ refused n k
            → PairRefused limits source Of ws cs n k
        refused_pair (refused number place) r e = by_system ((laws.refused_iff ws n k).0 (r ∙ (cc)))
        refused_pair (accepted s) r e = of_certificate (read_certificate limits (source.shape_in s) cs) refl e
          where
            of_certificate : (o : Outcome Certificate) → read_certificate limits (source.shape_in s) cs ≡ o
                → followed_by o (next s) ≡ refused n k → PairRefused limits source Of ws cs n k
            of_certificate (refused number place) q f =
                by_certificate s (laws.written_of_read s ws r)
                ((certificate_refused_iff limits (source.shape_in s) cs n k).0 (q ∙ (cc)))
            of_certificate (accepted c) q f =
                by_values (written_map (λ t holds u certified. (values t holds u certified n k).0) (written s c r q f))

        pair_refused : PairRefused limits source Of ws cs n k → both ≡ refused n k
        pair_refused (by_system h) = ap (λ o. followed_by o second) ((laws.refused_iff ws n k).1 h)
        pair_refused (by_certificate s holds h) =
            ap (λ o. followed_by o second) (laws.read_of_written s ws holds)
            ∙ ap (λ o. followed_by o (next s)) ((certificate_refused_iff limits (source.shape_in s) cs n k).1 h)
        pair_refused (by_values w) =
            pair_of_written w
            ∙ (values w.system w.system_words w.certificate w.certificate_within n k).1 w.holds

        pub pair_refused_iff : (both ≡ refused n k) ↔ PairRefused limits source Of ws cs n k
        pair_refused_iff = (refused_pair (source.from ws) refl, pair_refused)

    -- the rows of the readings, then those of what is asked of the values
    pub pair_rows : {first : List ℕ → List Row} → SourceRows limits source first → (rows : Shape → List Row)
        → ((s : S) → source.from ws ≡ accepted s → (c : Certificate)
        → read_certificate limits (source.shape_in s) cs ≡ accepted c → RefusesBy (rows (source.shape_in s)) (next s c))
        → RefusesBy (first ws ++ (certificate_rows cs ++ rows (head_in (get_or ws 0 0)).shape)) both
    pair_rows source_rows rows values =
        by_followed (source.from ws) _ (source_rows.in_rows ws) (λ s r.
        by_followed (read_certificate limits (source.shape_in s) cs) (next s)
        (certificate_rows_lem limits (source.shape_in s) cs) (λ c q.
        subst (λ h. RefusesBy (rows h) (next s c)) (source_rows.says s ws r) (values s r c q)))
