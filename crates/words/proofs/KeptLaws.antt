-- What exceeds no limit is within them, and the other way round; a sheet that has a right side, all of it and that line.
use Prim.Native.Nat.{ℕ, zero, suc, ◌≤◌, ◌<◌}
use Rattle.std.specs.Prelude.{◌≡◌, Bool, not, ◌||◌, length, get_or}
use Rattle.std.proofs.Math.Path.{refl, ap}
use Rattle.std.proofs.Common.{sym, ◌∙◌, arith}
use Rattle.std.proofs.Math.Bool.{true, false}
use mathlib.Core.List.{List, [], ◌∷◌, ◌++◌}
use Rattle.std.proofs.Math.Dec.{ltb}
use borrow.Author.Tests.{lt-ltb, le-ltb, ltb-true, ltb-false, not-false}
use Rattle.words.specs.Limits.{Limits, longest_certificate}
use Rattle.words.specs.LimitsLaws.{LimitsFit, Narrower}
use Rattle.words.specs.Outcome.{Outcome, refuse, followed_by, mapped}
use Rattle.words.specs.Outcome.Outcome.{accepted, refused}
use Rattle.words.specs.OutcomeLaws.{followed_by_accepted, refuse_passed, mapped_refused}
use Rattle.words.specs.Polynomial.{AllWithin, VectorWithin}
use Rattle.words.specs.System.{Shape, ShapeWithin}
use Rattle.words.specs.Systems.{Systems, Head, SystemsWithin, read_systems, line, line_of, read_line}
use Rattle.words.proofs.SystemsLaws.{systems_read_of_written, systems_written_of_read}
use Rattle.words.specs.Certificate.{Certificate, CertificateWithin, certificate_entries, certificate_words}
use Rattle.words.specs.Certificate.Certificate.{solution, absence}
use Rattle.words.proofs.CertificateLaws.{certificate_words_most}
use Rattle.words.proofs.BytesLaws.{or_left, or_right}
use Rattle.words.proofs.LineLaws.{line_refused_iff}
use Rattle.words.proofs.RefusedLaws.{systems_rows}
use Rattle.words.specs.Rows.{line_rows}
use Rattle.words.specs.RowLaws.{by_followed, by_row, by_accepted}
use Rattle.words.specs.Kept.{longer?, systems_exceed, certificate_exceeds, sided_of, read_sided, sided}
use Rattle.words.proofs.SourceLaws.{SourceLaws, SourceRows, head_says}

-- ---- polynomials

or_false : (a b : Bool) → a ≡ false → b ≡ false → a || b ≡ false
or_false true b e f = e
or_false false b e f = f

or_later : (a : Bool) {b : Bool} → b ≡ true → a || b ≡ true
or_later true e = refl
or_later false e = e

module _ (most : ℕ) where
  longer_append : (fs gs : List (List ℕ)) → longer? most fs ≡ false → longer? most gs ≡ false → longer? most (fs ++ gs) ≡ false
  unfolding longer?
  longer_append [] gs e f = f
  longer_append (h ∷ fs) gs e f =
      or_false _ _ (or_left (ltb most (length h)) (longer? most fs) e)
      (longer_append fs gs (or_right (ltb most (length h)) (longer? most fs) e) f)

  longer_first : (fs gs : List (List ℕ)) → longer? most (fs ++ gs) ≡ false → longer? most fs ≡ false
  unfolding longer?
  longer_first [] gs e = refl
  longer_first (h ∷ fs) gs e =
      or_false _ _ (or_left (ltb most (length h)) (longer? most (fs ++ gs)) e)
      (longer_first fs gs (or_right (ltb most (length h)) (longer? most (fs ++ gs)) e))

  longer_second : (fs gs : List (List ℕ)) → longer? most (fs ++ gs) ≡ false → longer? most gs ≡ false
  unfolding longer?
  longer_second [] gs e = e
  longer_second (h ∷ fs) gs e = longer_second fs gs (or_right (ltb most (length h)) (longer? most (fs ++ gs)) e)

  -- one that is longer
  pub longer_at : (fs : List (List ℕ)) (j : ℕ) → j < length fs → most < length (get_or fs j []) → longer? most fs ≡ true
  unfolding longer?
  longer_at [] j few long = absurd (omega arith)
  longer_at (f ∷ fs) zero few long = ap (λ b. b || longer? most fs) (lt-ltb most (length f) long)
  longer_at (f ∷ fs) (suc j) few long = or_later (ltb most (length f)) (longer_at fs j (omega arith) long)

  -- one more, which is not
  pub longer_next : (fs : List (List ℕ)) (f : List ℕ) → longer? most fs ≡ false → length f ≤ most
      → longer? most (fs ++ f ∷ []) ≡ false
  unfolding longer?
  longer_next fs f e few = longer_append fs (f ∷ []) e (or_false _ _ (le-ltb most (length f) few) refl)

  module _ (p limit : ℕ) where
    pub all_kept : (fs : List (List ℕ)) → AllWithin p limit fs → longer? most fs ≡ false → AllWithin p most fs
    unfolding longer? AllWithin
    all_kept [] h e = tt
    all_kept (f ∷ fs) h e = (
      record {
        canonical = h.0.canonical;
        size = ltb-false most (length f) (or_left (ltb most (length f)) (longer? most fs) e);
      },
      all_kept fs h.1 (or_right (ltb most (length f)) (longer? most fs) e),
    )

    vector_kept : {n : ℕ} {fs : List (List ℕ)} → VectorWithin p limit n fs → longer? most fs ≡ false → VectorWithin p most n fs
    vector_kept {fs = fs} h e = record { entries = all_kept fs h.entries e; count = h.count }

    none_longer : limit ≤ most → (fs : List (List ℕ)) → AllWithin p limit fs → longer? most fs ≡ false
    unfolding longer? AllWithin
    none_longer few [] h = refl
    none_longer few (f ∷ fs) h = or_false _ _ (le-ltb most (length f) (omega (arith, h.0.size))) (none_longer few fs h.1)

-- ---- sheets and certificates

module _ (kept : Limits) where
  -- a sheet within narrower limits exceeds none
  pub systems_keep : (limits : Limits) → Narrower limits kept → (s : Systems) → SystemsWithin limits s
      → systems_exceed kept s ≡ false
  unfolding systems_exceed
  systems_keep limits narrow s h =
      let most = kept.system_coefficients in
      let p = s.head.shape.modulus in
      let rows = h.head.shape.rows.1 in
      let columns = h.head.shape.columns.1 in
      let sides = h.head.sides.1 in
      or_false _ _ (le-ltb kept.rows s.head.shape.rows (omega (arith, narrow.rows)))
      (or_false _ _ (le-ltb kept.columns s.head.shape.columns (omega (arith, narrow.columns)))
      (or_false _ _ (le-ltb kept.sides s.head.sides (omega (arith, narrow.sides)))
      (longer_append most s.matrix s.side_entries
      (none_longer most p limits.system_coefficients narrow.system_coefficients s.matrix h.matrix.entries)
      (none_longer most p limits.system_coefficients narrow.system_coefficients s.side_entries h.side_entries.entries))))

  -- what is within some limits and exceeds none of these is within these
  pub systems_kept : (limits : Limits) (s : Systems) → SystemsWithin limits s → systems_exceed kept s ≡ false → SystemsWithin kept s
  unfolding systems_exceed
  systems_kept limits s h e =
      let most = kept.system_coefficients in
      let p = s.head.shape.modulus in
      let rows = or_left (ltb kept.rows s.head.shape.rows) _ e in
      let behind_rows = or_right (ltb kept.rows s.head.shape.rows) _ e in
      let columns = or_left (ltb kept.columns s.head.shape.columns) _ behind_rows in
      let behind_columns = or_right (ltb kept.columns s.head.shape.columns) _ behind_rows in
      let sides = or_left (ltb kept.sides s.head.sides) _ behind_columns in
      let entries = or_right (ltb kept.sides s.head.sides) _ behind_columns in
      record {
        head = record {
          shape = record {
            prime = h.head.shape.prime;
            modulus = h.head.shape.modulus;
            rows = (h.head.shape.rows.0, ltb-false _ _ rows);
            columns = (h.head.shape.columns.0, ltb-false _ _ columns);
          };
          sides = (h.head.sides.0, ltb-false _ _ sides);
        };
        matrix = vector_kept most p limits.system_coefficients h.matrix
            (longer_first most s.matrix s.side_entries entries);
        side_entries = vector_kept most p limits.system_coefficients h.side_entries
            (longer_second most s.matrix s.side_entries entries);
      }

  module _ (h : Shape) where
    entries_keep : (limits : Limits) → limits.certificate_coefficients ≤ kept.certificate_coefficients → (c : Certificate)
        → CertificateWithin limits h c → longer? kept.certificate_coefficients (certificate_entries c) ≡ false
    unfolding certificate_entries CertificateWithin longer?
    entries_keep limits few (solution d N w Z) k =
        let most = kept.certificate_coefficients in
        let limit = limits.certificate_coefficients in
        or_false _ _ (le-ltb most (length d) (omega (arith, k.denominator.size)))
        (longer_append most N (w ∷ Z) (none_longer most h.modulus limit few N k.numerators.entries)
        (or_false _ _ (le-ltb most (length w) (omega (arith, k.certifying_denominator.size)))
        (none_longer most h.modulus limit few Z k.certifying_numerators.entries)))
    entries_keep limits few (absence q) k =
        none_longer kept.certificate_coefficients h.modulus limits.certificate_coefficients few q k.entries

    entries_kept : (limits : Limits) (c : Certificate) → CertificateWithin limits h c
        → longer? kept.certificate_coefficients (certificate_entries c) ≡ false → CertificateWithin kept h c
    unfolding certificate_entries CertificateWithin longer?
    entries_kept limits (solution d N w Z) k e =
        let most = kept.certificate_coefficients in
        let p = h.modulus in
        let first = or_left (ltb most (length d)) (longer? most (N ++ w ∷ Z)) e in
        let behind = or_right (ltb most (length d)) (longer? most (N ++ w ∷ Z)) e in
        let later = longer_second most N (w ∷ Z) behind in
        record {
          denominator = record { canonical = k.denominator.canonical; size = ltb-false most (length d) first };
          numerators = vector_kept most p limits.certificate_coefficients k.numerators (longer_first most N (w ∷ Z) behind);
          certifying_denominator = record {
            canonical = k.certifying_denominator.canonical;
            size = ltb-false most (length w) (or_left (ltb most (length w)) (longer? most Z) later);
          };
          certifying_numerators = vector_kept most p limits.certificate_coefficients k.certifying_numerators
              (or_right (ltb most (length w)) (longer? most Z) later);
        }
    entries_kept limits (absence q) k e =
        vector_kept kept.certificate_coefficients h.modulus limits.certificate_coefficients k e

    -- "cards of at most 302 words" follows where the sheet keeps the limits: the number of words never decides
    pub words_follow : ShapeWithin kept h → (limits : Limits) (c : Certificate) → CertificateWithin limits h c
        → certificate_exceeds kept c ≡ longer? kept.certificate_coefficients (certificate_entries c)
    unfolding certificate_exceeds
    words_follow shape limits c k = go (longer? kept.certificate_coefficients (certificate_entries c)) refl
      where
        go : (b : Bool) → longer? kept.certificate_coefficients (certificate_entries c) ≡ b
            → b || ltb (longest_certificate kept) (length (certificate_words c)) ≡ b
        go true e = refl
        go false e = le-ltb _ _ (certificate_words_most kept h shape c (entries_kept limits c k e))

    pub certificate_keeps : ShapeWithin kept h → (c : Certificate) → CertificateWithin kept h c
        → certificate_exceeds kept c ≡ false
    certificate_keeps shape c k = words_follow shape kept c k ∙ entries_keep kept (omega arith) c k

    pub certificate_kept : (limits : Limits) (c : Certificate) → CertificateWithin limits h c → certificate_exceeds kept c ≡ false
        → CertificateWithin kept h c
    unfolding certificate_exceeds
    certificate_kept limits c k e = entries_kept limits c k (or_left _ _ e)

    -- and has no more words than these allow
    pub certificate_short : (c : Certificate) → certificate_exceeds kept c ≡ false
        → length (certificate_words c) ≤ longest_certificate kept
    unfolding certificate_exceeds
    certificate_short c e =
        ltb-false _ _ (or_right (longer? kept.certificate_coefficients (certificate_entries c)) _ e)

    -- wider limits
    pub certificate_wider : (limits : Limits) → limits.certificate_coefficients ≤ kept.certificate_coefficients → (c : Certificate)
        → CertificateWithin limits h c → CertificateWithin kept h c
    certificate_wider limits few c k = entries_kept limits c k (entries_keep limits few c k)

  pub systems_wider : (limits : Limits) → Narrower limits kept → (s : Systems) → SystemsWithin limits s → SystemsWithin kept s
  systems_wider limits narrow s h = systems_kept limits s h (systems_keep limits narrow s h)

-- ---- a sheet that has a right side

not_ltb : {k sides : ℕ} → k < sides → not (ltb k sides) ≡ false
not_ltb {k} {sides} has = ap not (lt-ltb k sides has)

module _ (limits : Limits) (k : ℕ) where
  -- its line
  pub line_sided : (ws : List ℕ) → read_line limits k ws ≡ mapped (λ s. line s k) (read_sided limits k ws)
  unfolding read_line read_sided
  line_sided ws = each (read_systems limits ws)
    where
      side : (b : Bool) (s : Systems) → refuse b 40 0 (accepted (line s k)) ≡ mapped (λ t. line t k) (refuse b 40 0 (accepted s))
      side true s = refl
      side false s = refl

      each : (o : Outcome Systems) → followed_by o (line_of k) ≡ mapped (λ s. line s k) (followed_by o (sided_of k))
      each (accepted s) = side (not (ltb k s.head.sides)) s
      each (refused number place) = refl

  pub sided_systems : (ws : List ℕ) {s : Systems} → read_sided limits k ws ≡ accepted s
      → (read_systems limits ws ≡ accepted s) × (k < s.head.sides)
  unfolding read_sided
  sided_systems ws {s} e =
      let t = followed_by_accepted (read_systems limits ws) (sided_of k) e in
      let u = refuse_passed (not (ltb k t.0.head.sides)) 40 0 (accepted t.0) t.2 in
      let same : t.0 ≡ s = let f = u.1 in cc in
      rw (← same) (t.1, ltb-true k t.0.head.sides (not-false _ u.0))

  pub sided_line : (ws : List ℕ) {s : Systems} → read_sided limits k ws ≡ accepted s → read_line limits k ws ≡ accepted (line s k)
  sided_line ws e = line_sided ws ∙ ap (mapped (λ s. line s k)) e

  pub sided_rows : SourceRows limits (sided limits k) line_rows
  unfolding read_sided
  sided_rows = record {
    says = λ s ws e. ap (λ (h : Head). h.shape) (head_says limits s ws (sided_systems ws e).0);
    in_rows = λ ws. by_followed (read_systems limits ws) (sided_of k) (systems_rows limits ws)
        (λ s _. by_row (not (ltb k s.head.sides)) 40 (by_accepted s));
  }

  module _ (fit : LimitsFit limits) where
    pub sided_laws : SourceLaws limits (sided limits k)
    unfolding read_sided
    sided_laws = record {
      read_of_written = λ s ws h.
          ap (λ o. followed_by o (sided_of k)) (ap (read_systems limits) h.words ∙ systems_read_of_written limits fit s h.within)
          ∙ ap (λ b. refuse b 40 0 (accepted s)) (not_ltb h.has);
      written_of_read = λ s ws e.
          let t = sided_systems ws e in
          let w = systems_written_of_read limits fit ws s t.0 in
          record { words = w.0; within = w.1; has = t.1 };
      refused_iff = λ ws number place. (
        λ e. (line_refused_iff limits fit k ws number place).0 (line_sided ws ∙ ap (mapped (λ s. line s k)) e),
        λ r. mapped_refused (λ s. line s k) (read_sided limits k ws)
            (sym (line_sided ws) ∙ (line_refused_iff limits fit k ws number place).1 r),
      );
      valid = λ s ws h. h.within.head.shape;
    }

-- the first right side is never missing
pub sided_first : (limits : Limits) → LimitsFit limits → (ws : List ℕ) → read_sided limits 0 ws ≡ read_systems limits ws
unfolding read_sided
sided_first limits fit ws = each (read_systems limits ws) refl
  where
    each : (o : Outcome Systems) → read_systems limits ws ≡ o → followed_by o (sided_of 0) ≡ o
    each (accepted s) e =
        ap (λ b. refuse b 40 0 (accepted s)) (not_ltb (systems_written_of_read limits fit ws s e).1.head.sides.0)
    each (refused number place) e = refl
