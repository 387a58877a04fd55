-- The verdict where limits are kept beside those of reading: with the same limits it is the verdict; it accepts exactly what the
-- verdict accepts and keeps the limits, and that is what the verdict by the narrower limits accepts; its refusals, each under its
-- condition only; and that the first words decide.
use Prim.Native.Nat.{ℕ, ◌≤◌, ◌<◌, min}
use Rattle.std.specs.Prelude.{◌≡◌, ◌↔◌, Bool, length, take, leb}
use Rattle.std.proofs.Math.Path.{refl, sym, ap}
use Rattle.std.proofs.Common.{◌∙◌, subst, subst₂, arith, leb-true, leb-false}
use Rattle.std.proofs.Math.Logic.{inl, inr, ⊎_elim}
use Rattle.std.proofs.Math.Bool.{true, false}
use mathlib.Core.List.{List}
use Rattle.std.proofs.Math.Nat.{min-eq_left, min-eq_right}
use Rattle.std.proofs.Math.Seq.{take-length}
use Rattle.words.specs.Limits.{Limits, longest_system, longest_certificate}
use Rattle.words.specs.LimitsLaws.{LimitsFit, Narrower, narrower_same}
use Rattle.words.specs.Outcome.{Outcome, refuse, followed_by, mapped}
use Rattle.words.specs.Outcome.Outcome.{accepted, refused}
use Rattle.words.specs.OutcomeLaws.{refused_accepted, followed_by_accepted, refuse_passed, passed_refuse, refuse_refused_iff}
use Rattle.words.specs.System.{System, Shape, ShapeWithin, shape}
use Rattle.words.specs.Systems.{Systems, SystemsWithin, systems_words, line, read_systems, read_line}
use Rattle.words.proofs.SystemsLaws.{systems_words_injective}
use Rattle.words.specs.Line.{LineIn}
use Rattle.words.proofs.LineLaws.{line_within, line_read_of_written, line_written_of_read}
use Rattle.words.specs.Certificate.{Certificate, CertificateWithin, certificate_words, read_certificate}
use Rattle.words.proofs.CertificateLaws.{certificate_read_of_written, certificate_written_of_read}
use Rattle.words.specs.Pair.{WrittenPair, PairRefused}
use Rattle.words.proofs.PairLaws.{pair_accepted_iff, pair_refused_iff, pair_rows}
use Rattle.words.proofs.PrefixLaws.{systems_prefix, certificate_prefix}
use Rattle.words.specs.Rows.{InRows, RefusesBy, kept_rows, check_kept_rows}
use Rattle.words.specs.Kept.{systems_exceed, certificate_exceeds, sided_of, read_sided, sided}
use Rattle.words.proofs.KeptLaws.{systems_keep, systems_kept, systems_wider, certificate_keeps, certificate_kept, certificate_short}
use Rattle.words.proofs.KeptLaws.{certificate_wider, line_sided, sided_line, sided_laws, sided_rows}
use Rattle.truth.specs.Verdict.{certificate_verdict, verdict}
use Rattle.truth.proofs.Lines.{certificate_next}
use Rattle.truth.specs.TurnedBack.{Fault}
use Rattle.truth.proofs.TurnedBackLaws.{true_false, refused_iff_fault, fault_rows, in_row}
use Rattle.truth.proofs.CertifiedWords.{CertifiedWords, accepted_iff_certified}
use Rattle.truth.specs.Within.{kept_verdict, both_read, limits_verdict, verdict_within, Keeps, KeptFault}
use Rattle.truth.specs.Within.KeptFault.{system_exceeds, certificate_exceeds_lem, by_values}

-- a line has the shape of its sheet
pub line_shape : (s : Systems) (k : ℕ) → shape (line s k) ≡ s.head.shape
unfolding line
line_shape s k = refl

-- ---- 41, and what comes behind it

module _ (limits kept : Limits) (k : ℕ) (ws cs : List ℕ) where
  -- what was read
  pub both_of : {A : Type 0} (next : Systems → Certificate → Outcome A) {s : Systems} → read_sided limits k ws ≡ accepted s
      → {found : Outcome Certificate} → read_certificate limits s.head.shape cs ≡ found
      → both_read limits k ws cs next ≡ followed_by found (next s)
  both_of next {s} e q =
      ap (λ o. followed_by o (λ t. followed_by (read_certificate limits t.head.shape cs) (next t))) e
      ∙ ap (λ o. followed_by o (next s)) q

  pub both_none : {A : Type 0} (next : Systems → Certificate → Outcome A) {number place : ℕ}
      → read_sided limits k ws ≡ refused number place → both_read limits k ws cs next ≡ refused number place
  both_none next e = ap (λ o. followed_by o (λ t. followed_by (read_certificate limits t.head.shape cs) (next t))) e

  -- a certificate that cannot be read is refused, whatever the system exceeds
  pub within_unread : {number place : ℕ} {s : Systems} → read_sided limits k ws ≡ accepted s
      → read_certificate limits s.head.shape cs ≡ refused number place
      → verdict_within limits kept k ws cs ≡ refused number place
  unfolding verdict_within
  within_unread e q = both_of (kept_verdict kept k) e q

  -- where a limit is exceeded that is all
  pub within_limits : {number place : ℕ} {s : Systems} {c : Certificate} → read_sided limits k ws ≡ accepted s
      → read_certificate limits s.head.shape cs ≡ accepted c → limits_verdict kept s c ≡ refused number place
      → verdict_within limits kept k ws cs ≡ refused number place
  unfolding verdict_within kept_verdict
  within_limits {number} {place} {s} {c} e q r =
      both_of (kept_verdict kept k) e q ∙ by (systems_exceed kept s) (certificate_exceeds kept c) r
    where
      by : (a b : Bool) → refuse a 41 0 (refuse b 41 1 (accepted (tt {0}))) ≡ refused number place
          → refuse a 41 0 (refuse b 41 1 (certificate_verdict (line s k) c)) ≡ refused number place
      by true b h = h
      by false true h = h
      by false false h = absurd (refused_accepted (sym h))

  -- where none is, it is the verdict
  pub within_passed : {s : Systems} {c : Certificate} → read_sided limits k ws ≡ accepted s
      → read_certificate limits s.head.shape cs ≡ accepted c → limits_verdict kept s c ≡ accepted tt
      → verdict_within limits kept k ws cs ≡ verdict limits k ws cs
  unfolding verdict_within kept_verdict line
  within_passed {s} {c} e q r =
      let first = refuse_passed (systems_exceed kept s) 41 0 (refuse (certificate_exceeds kept c) 41 1 (accepted tt)) r in
      let second = refuse_passed (certificate_exceeds kept c) 41 1 (accepted tt) first.1 in
      both_of (kept_verdict kept k) e q
      ∙ ap (λ b. refuse b 41 0 (refuse (certificate_exceeds kept c) 41 1 (certificate_verdict (line s k) c))) first.0
      ∙ ap (λ b. refuse b 41 1 (certificate_verdict (line s k) c)) second.0
      ∙ sym (certificate_next limits k ws cs (sided_line limits k ws e) q)

-- ---- limits that exceed nothing

module _ (limits : Limits) (fit : LimitsFit limits) (k : ℕ) (ws cs : List ℕ) where
  -- what is read by the limits keeps them
  own_verdict : (s : Systems) → read_sided limits k ws ≡ accepted s → (c : Certificate)
      → read_certificate limits s.head.shape cs ≡ accepted c → kept_verdict limits k s c ≡ certificate_verdict (line s k) c
  unfolding kept_verdict
  own_verdict s e c q =
      let within = ((sided_laws limits k fit).written_of_read s ws e).within in
      let system = systems_keep limits limits (narrower_same limits) s within in
      let certificate = certificate_keeps limits s.head.shape within.head.shape c
      (certificate_written_of_read limits s.head.shape cs c q).1 in
      ap (λ b. refuse b 41 0 (refuse (certificate_exceeds limits c) 41 1 (certificate_verdict (line s k) c))) system
      ∙ ap (λ b. refuse b 41 1 (certificate_verdict (line s k) c)) certificate

  pub within_own : verdict_within limits limits k ws cs ≡ verdict limits k ws cs
  unfolding verdict_within verdict line
  within_own =
      of_system (read_sided limits k ws) refl
      ∙ sym (ap (λ o. followed_by o (λ s. followed_by (read_certificate limits (shape s) cs) (certificate_verdict s)))
      (line_sided limits k ws))
    where
      of_certificate : (s : Systems) → read_sided limits k ws ≡ accepted s → (o : Outcome Certificate)
          → read_certificate limits s.head.shape cs ≡ o
          → followed_by o (kept_verdict limits k s) ≡ followed_by o (certificate_verdict (line s k))
      of_certificate s e (accepted c) q = own_verdict s e c q
      of_certificate s e (refused number place) q = refl

      of_system : (o : Outcome Systems) → read_sided limits k ws ≡ o
          → followed_by o (λ s. followed_by (read_certificate limits s.head.shape cs) (kept_verdict limits k s))
          ≡ followed_by (mapped (λ s. line s k) o) (λ s. followed_by (read_certificate limits (shape s) cs) (certificate_verdict s))
      of_system (accepted s) e = of_certificate s e (read_certificate limits s.head.shape cs) refl
      of_system (refused number place) e = refl

-- ---- what is accepted

module _ (limits kept : Limits) (fit : LimitsFit limits) (k : ℕ) (ws cs : List ℕ) where
  -- written forms, and of their values nothing is turned back
  pub within_accepted_iff : (verdict_within limits kept k ws cs ≡ accepted tt)
      ↔ WrittenPair limits (sided limits k) (λ s c. kept_verdict kept k s c ≡ accepted tt) ws cs
  unfolding verdict_within
  within_accepted_iff = pair_accepted_iff limits (sided limits k) (kept_verdict kept k) ws cs fit (sided_laws limits k fit) tt

  -- what nothing is turned back of keeps the limits
  module _ (w : WrittenPair limits (sided limits k) (λ s c. kept_verdict kept k s c ≡ accepted tt) ws cs) where
    passed : (systems_exceed kept w.system ≡ false) × (certificate_exceeds kept w.certificate ≡ false)
        × (certificate_verdict (line w.system k) w.certificate ≡ accepted tt)
    unfolding kept_verdict
    passed =
        let first = refuse_passed (systems_exceed kept w.system) 41 0 _ w.holds in
        let second = refuse_passed (certificate_exceeds kept w.certificate) 41 1 _ first.1 in
        (first.0, second.0, second.1)

    system_within : SystemsWithin kept w.system
    system_within = systems_kept kept limits w.system w.system_words.within passed.0

    certificate_within : CertificateWithin kept w.system.head.shape w.certificate
    certificate_within = certificate_kept kept w.system.head.shape limits w.certificate w.certificate_within passed.1

    pub pair_keeps : Keeps kept ws cs
    pair_keeps = record {
      systems = w.system;
      certificate = w.certificate;
      system_words = w.system_words.words;
      certificate_words_lem = w.certificate_words_lem;
      system_within = system_within;
      certificate_within = certificate_within;
      short = rw w.certificate_words_lem (certificate_short kept w.system.head.shape w.certificate passed.1);
    }

    -- by any limits that the values keep, the verdict accepts
    pair_verdict : (l : Limits) → LimitsFit l → SystemsWithin l w.system
        → CertificateWithin l w.system.head.shape w.certificate → verdict l k ws cs ≡ accepted tt
    pair_verdict l fits system certificate =
        let s = w.system in
        let L : LineIn l k (line s k) ws = record {
          systems = s;
          words = w.system_words.words;
          within = system;
          has = w.system_words.has;
          is = refl;
        } in
        let h = line_shape s k in
        certificate_next l k ws cs (line_read_of_written l fits k ws L)
        (ap (read_certificate l (shape (line s k))) w.certificate_words_lem
        ∙ certificate_read_of_written l (shape (line s k)) fits (subst (ShapeWithin l) (sym h) system.head.shape)
        w.certificate
        (subst (λ (g : Shape). CertificateWithin l g w.certificate) (sym h) certificate))
        ∙ passed.2

  module _ (narrow : Narrower kept limits) (fit_kept : LimitsFit kept) where
    -- what keeps the limits, and is accepted by the wider ones, or by these
    keeps_pair : (s : Systems) (c : Certificate) → ws ≡ systems_words s → cs ≡ certificate_words c → SystemsWithin kept s
        → CertificateWithin kept s.head.shape c → k < s.head.sides → certificate_verdict (line s k) c ≡ accepted tt
        → WrittenPair limits (sided limits k) (λ s c. kept_verdict kept k s c ≡ accepted tt) ws cs
    unfolding kept_verdict
    keeps_pair s c ew ec system certificate has right = record {
      system = s;
      certificate = c;
      system_words = record { words = ew; within = systems_wider limits kept narrow s system; has = has };
      certificate_words_lem = ec;
      certificate_within = certificate_wider limits s.head.shape kept narrow.certificate_coefficients c certificate;
      holds =
          passed_refuse (systems_exceed kept s) 41 0 _ (systems_keep kept kept (narrower_same kept) s system)
          (passed_refuse (certificate_exceeds kept c) 41 1 _
          (certificate_keeps kept s.head.shape system.head.shape c certificate) right);
    }

    -- "the panel accepts exactly those cards that the office accepts and that, with their sheet, keep the panel's limits"
    pub within_exactly : (verdict_within limits kept k ws cs ≡ accepted tt)
        ↔ ((verdict limits k ws cs ≡ accepted tt) × Keeps kept ws cs)
    unfolding verdict line
    within_exactly = (
      λ e.
          let w = within_accepted_iff.0 e in
          (pair_verdict w limits fit w.system_words.within w.certificate_within, pair_keeps w),
      λ t. within_accepted_iff.1 (both t.0 t.1),
    )
      where
        both : verdict limits k ws cs ≡ accepted tt → Keeps kept ws cs
            → WrittenPair limits (sided limits k) (λ s c. kept_verdict kept k s c ≡ accepted tt) ws cs
        both e K =
            let t = followed_by_accepted (read_line limits k ws) _ e in
            let u = followed_by_accepted (read_certificate limits (shape t.0) cs) _ t.2 in
            let L = line_written_of_read limits fit k ws t.1 in
            let same : L.systems ≡ K.systems =
            systems_words_injective limits fit L.systems K.systems L.within
            (systems_wider limits kept narrow K.systems K.system_within) (sym L.words ∙ K.system_words) in
            let line_is : t.0 ≡ line K.systems k = L.is ∙ ap (λ (s : Systems). line s k) same in
            let g = K.systems.head.shape in
            let wide = systems_wider limits kept narrow K.systems K.system_within in
            let c_wide =
            certificate_wider limits g kept narrow.certificate_coefficients K.certificate K.certificate_within in
            let read : read_certificate limits (shape t.0) cs ≡ accepted K.certificate =
            ap (λ (s : System). read_certificate limits (shape s) cs) line_is
            ∙ ap (read_certificate limits g) K.certificate_words_lem
            ∙ certificate_read_of_written limits g fit wide.head.shape K.certificate c_wide in
            let found : u.0 ≡ K.certificate = let x = sym u.1 ∙ read in cc in
            keeps_pair K.systems K.certificate K.system_words K.certificate_words_lem K.system_within
            K.certificate_within (subst (λ (s : Systems). k < s.head.sides) same L.has)
            (subst₂ (λ (s : System) (c : Certificate). certificate_verdict s c ≡ accepted tt) line_is found u.2)

    -- that is, the verdict by these limits accepts
    pub within_kept : (verdict_within limits kept k ws cs ≡ accepted tt) ↔ (verdict kept k ws cs ≡ accepted tt)
    unfolding verdict line
    within_kept = (
      λ e.
          let w = within_accepted_iff.0 e in
          pair_verdict w kept fit_kept (system_within w) (certificate_within w),
      λ e. within_accepted_iff.1 (pair e),
    )
      where
        pair : verdict kept k ws cs ≡ accepted tt
            → WrittenPair limits (sided limits k) (λ s c. kept_verdict kept k s c ≡ accepted tt) ws cs
        pair e =
            let t = followed_by_accepted (read_line kept k ws) _ e in
            let u = followed_by_accepted (read_certificate kept (shape t.0) cs) _ t.2 in
            let L = line_written_of_read kept fit_kept k ws t.1 in
            let q = certificate_written_of_read kept (shape t.0) cs u.0 u.1 in
            keeps_pair L.systems u.0 L.words q.0 L.within
            (subst (λ (s : System). CertificateWithin kept (shape s) u.0) L.is q.1) L.has
            (subst (λ (s : System). certificate_verdict s u.0 ≡ accepted tt) L.is u.2)

    -- demand 2's first sentence, "meant so there"
    pub within_iff_certified : (verdict_within limits kept k ws cs ≡ accepted tt) ↔ CertifiedWords kept k ws cs
    within_iff_certified =
        let certified = accepted_iff_certified kept fit_kept k ws cs in
        (λ e. certified.0 (within_kept.0 e), λ a. within_kept.1 (certified.1 a))

-- ---- what is refused

module _ (limits kept : Limits) (fit : LimitsFit limits) (k : ℕ) where
  module _ (s : Systems) (h : SystemsWithin limits s) (has : k < s.head.sides) (c : Certificate)
      (m : CertificateWithin limits s.head.shape c) (number place : ℕ) where
    exceeds_not : systems_exceed kept s ≡ true → ¬ SystemsWithin kept s
    exceeds_not e w = true_false e (systems_keep kept kept (narrower_same kept) s w)

    certificate_exceeds_not : certificate_exceeds kept c ≡ true → SystemsWithin kept s → ¬ CertificateWithin kept s.head.shape c
    certificate_exceeds_not e system w =
        true_false e (certificate_keeps kept s.head.shape system.head.shape c w)

    values_iff : (certificate_verdict (line s k) c ≡ refused number place) ↔ Fault (line s k) c number place
    values_iff =
        refused_iff_fault limits (line s k) (line_within limits s h k has) c
        (subst (λ (g : Shape). CertificateWithin limits g c) (sym (line_shape s k)) m) number place

    kept_fault : kept_verdict kept k s c ≡ refused number place → KeptFault kept k s c number place
    unfolding kept_verdict
    kept_fault e = ⊎_elim
        (λ t. system_exceeds t.1 t.2 (exceeds_not t.0))
        (λ t. let system = systems_kept kept limits s h t.0 in
        ⊎_elim
        (λ u. certificate_exceeds_lem u.1 u.2 system (certificate_exceeds_not u.0 system))
        (λ u. by_values system (certificate_kept kept s.head.shape limits c m u.0) (values_iff.0 u.1))
        ((refuse_refused_iff (certificate_exceeds kept c) 41 1 (certificate_verdict (line s k) c) number place).0 t.1))
        ((refuse_refused_iff (systems_exceed kept s) 41 0
        (refuse (certificate_exceeds kept c) 41 1 (certificate_verdict (line s k) c)) number place).0 e)

    -- whether it exceeds
    by_test : (b : Bool) {x : Bool} → x ≡ b → (x ≡ false → ⊥) → x ≡ true
    by_test true e n = e
    by_test false e n = absurd (n e)

    fault_kept : KeptFault kept k s c number place → kept_verdict kept k s c ≡ refused number place
    unfolding kept_verdict
    fault_kept (system_exceeds n p e) =
        (refuse_refused_iff (systems_exceed kept s) 41 0 _ number place).1
        (inl (by_test (systems_exceed kept s) refl (λ x. e (systems_kept kept limits s h x)), n, p))
    fault_kept (certificate_exceeds_lem n p system e) =
        (refuse_refused_iff (systems_exceed kept s) 41 0 _ number place).1
        (inr (
          systems_keep kept kept (narrower_same kept) s system,
          (refuse_refused_iff (certificate_exceeds kept c) 41 1 _ number place).1
              (inl (
                by_test (certificate_exceeds kept c) refl
                    (λ x. e (certificate_kept kept s.head.shape limits c m x)),
                n,
                p,
              )),
        ))
    fault_kept (by_values system certificate f) =
        (refuse_refused_iff (systems_exceed kept s) 41 0 _ number place).1
        (inr (
          systems_keep kept kept (narrower_same kept) s system,
          (refuse_refused_iff (certificate_exceeds kept c) 41 1 _ number place).1
              (inr (certificate_keeps kept s.head.shape system.head.shape c certificate, values_iff.1 f)),
        ))

    pub kept_refused_iff : (kept_verdict kept k s c ≡ refused number place) ↔ KeptFault kept k s c number place
    kept_refused_iff = (kept_fault, fault_kept)

    pub fault_in_rows : KeptFault kept k s c number place → InRows (kept_rows s.head.shape) number place
    unfolding InRows line
    fault_in_rows (system_exceeds n p e) = inl (in_row n (omega arith))
    fault_in_rows (certificate_exceeds_lem n p system e) = inl (in_row n (omega arith))
    fault_in_rows (by_values system certificate f) = inr (fault_rows (line s k) c number place f)

  module _ (ws cs : List ℕ) where
    -- each refusal under its condition only
    pub within_refused_iff : (number place : ℕ) → (verdict_within limits kept k ws cs ≡ refused number place)
        ↔ PairRefused limits (sided limits k) (KeptFault kept k) ws cs number place
    unfolding verdict_within
    within_refused_iff =
        pair_refused_iff limits (sided limits k) (kept_verdict kept k) ws cs fit (sided_laws limits k fit) (KeptFault kept k)
        (λ s h c m n p. kept_refused_iff s h.within h.has c m n p)

    pub within_rows : RefusesBy (check_kept_rows ws cs) (verdict_within limits kept k ws cs)
    unfolding verdict_within
    within_rows = pair_rows limits (sided limits k) (kept_verdict kept k) ws cs (sided_rows limits k) kept_rows (λ s r c q.
        let h = (sided_laws limits k fit).written_of_read s ws r in
        let m = (certificate_written_of_read limits s.head.shape cs c q).1 in
        record {
          in_rows = λ n p e. fault_in_rows s h.within h.has c m n p (kept_fault s h.within h.has c m n p e);
        })

-- ---- the first words decide

module _ {A : Type 0} (read : List ℕ → A) (ws : List ℕ) (count : ℕ) where
  first_decide : (count ≤ length ws → read (take count ws) ≡ read ws) → read (take (min (length ws) count) ws) ≡ read ws
  first_decide prefix = go (leb (length ws) count) refl
    where
      go : (b : Bool) → leb (length ws) count ≡ b → read (take (min (length ws) count) ws) ≡ read ws
      go true e =
          ap (λ (n : ℕ). read (take n ws)) (min-eq_left (leb-true (length ws) count e)) ∙ ap read (take-length ws)
      go false e =
          let more : count ≤ length ws = omega (arith, leb-false (length ws) count e) in
          ap (λ (n : ℕ). read (take n ws)) (min-eq_right more) ∙ prefix more

module _ (limits kept : Limits) (fit : LimitsFit limits) (k : ℕ) (ws cs : List ℕ) (n m : ℕ) (long : longest_system limits < n)
    (long' : longest_certificate limits < m) where
  system_first : read_sided limits k (take (min (length ws) n) ws) ≡ read_sided limits k ws
  unfolding read_sided
  system_first =
      ap (λ o. followed_by o (sided_of k)) (first_decide (read_systems limits) ws n (systems_prefix limits n long ws))

  -- so many of each, more than any sheet has, and any certificate
  pub within_room : verdict_within limits kept k (take (min (length ws) n) ws) (take (min (length cs) m) cs)
      ≡ verdict_within limits kept k ws cs
  unfolding verdict_within
  within_room =
      ap (λ o. followed_by o (λ s. followed_by (read_certificate limits s.head.shape (take (min (length cs) m) cs))
      (kept_verdict kept k s))) system_first
      ∙ go (read_sided limits k ws) refl
    where
      on : List ℕ → Systems → Outcome (Unit {0})
      on vs s = followed_by (read_certificate limits s.head.shape vs) (kept_verdict kept k s)

      go : (o : Outcome Systems) → read_sided limits k ws ≡ o
          → followed_by o (on (take (min (length cs) m) cs)) ≡ followed_by o (on cs)
      go (accepted s) e =
          let valid = ((sided_laws limits k fit).written_of_read s ws e).within.head.shape in
          ap (λ o. followed_by o (kept_verdict kept k s))
          (first_decide (read_certificate limits s.head.shape) cs m
          (certificate_prefix limits fit s.head.shape valid m long' cs))
      go (refused number place) e = refl
