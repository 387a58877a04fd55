-- The lookup's equations, and what the part that it shows is: it has the place and the words of the polynomial of that number among
-- the values read. It shows none exactly on a refusal.
use Rattle.std.specs.Prelude.{◌≡◌, ◌↔◌, List, [], ℕ, suc, ◌+◌, ◌*◌, ◌<◌, ◌≤◌, length, get_or, take, drop, leb}
use Rattle.std.proofs.Math.Path.{refl, sym, subst}
use Rattle.std.proofs.Common.{ap, ◌∙◌, le_refl, mul-le-mul, arith}
use borrow.Author.Tests.{le-leb, lt-leb, leb-false}
use Rattle.words.specs.Limits.{Limits, system_count}
use Rattle.words.specs.Outcome.{Outcome}
use Rattle.words.specs.Outcome.Outcome.{accepted, refused}
use Rattle.words.specs.Polynomial.{polynomial_words}
use Rattle.words.specs.Frame.{framed_words, entry_place}
use Rattle.words.specs.System.{side_entry}
use Rattle.words.specs.Systems.{Systems, read_systems, line}
use Rattle.words.specs.LimitsLaws.{LimitsFit}
use Rattle.words.proofs.SystemsLaws.{systems_written_of_read}
use Rattle.words.proofs.LineLaws.{side_entry_lem}
use Rattle.words.specs.Certificate.{Certificate, certificate_form, entry_count, read_certificate}
use Rattle.words.proofs.PolynomialLaws.{length_polynomial_words}
use Rattle.lookup.specs.Lookup.{Of, Part, on, entries_on, part_of, shown, polynomial_lookup, words_shown}
use Rattle.lookup.specs.Lookup.Of.{system, certificate}
use Rattle.words.specs.OutcomeLaws.{followed_by_accepted, refuse_passed}
use Rattle.words.proofs.FramedLaws.{systems_framed, certificate_framed, polynomial_inside, polynomial_part}

-- ---- the definition, case by case

module _ (limits : Limits) (ss cs : List ℕ) (of : Of) (k : ℕ) where
  abbrev Told : Outcome Part
  Told = polynomial_lookup limits ss cs of k

  -- the system is read first
  pub lookup_system_refused : (number place : ℕ) → read_systems limits ss ≡ refused number place → Told ≡ refused number place
  unfolding polynomial_lookup
  lookup_system_refused number place e = rw e refl

  module _ (s : Systems) (es : read_systems limits ss ≡ accepted s) where
    -- then the certificate, whichever of the two is asked for
    pub lookup_certificate_refused : (number place : ℕ) → read_certificate limits s.head.shape cs ≡ refused number place
        → Told ≡ refused number place
    unfolding polynomial_lookup
    lookup_certificate_refused number place e = rw (es, e) refl

    -- then the number
    module _ (c : Certificate) (ec : read_certificate limits s.head.shape cs ≡ accepted c) where
      pub lookup_read : Told ≡ shown k (entries_on of s c)
      unfolding polynomial_lookup
      lookup_read = rw (es, ec) refl

      pub lookup_none : length (entries_on of s c) ≤ k → Told ≡ refused 12 0
      lookup_none h = lookup_read ∙ simp (le-leb _ _ h)

      pub lookup_some : k < length (entries_on of s c) → Told ≡ accepted (part_of (entries_on of s c) k)
      lookup_some h = lookup_read ∙ simp (lt-leb _ _ h)

-- ---- what was read

module _ (limits : Limits) (ss cs : List ℕ) (s : Systems) (c : Certificate) (es : read_systems limits ss ≡ accepted s)
    (ec : read_certificate limits s.head.shape cs ≡ accepted c) where
  on_framed : (of : Of) → (head : ℕ) × (on of ss cs ≡ framed_words head (entries_on of s c))
  on_framed system = let f = systems_framed limits ss s es in (f.head, f.words)
  on_framed certificate = let f = certificate_framed limits cs s.head.shape c ec in (f.head, f.words)

  -- how many polynomials there are
  pub lookup_count : (of : Of)
      → length (entries_on of s c)
      ≡ on of (system_count s.head.shape.rows s.head.shape.columns s.head.sides)
      (entry_count s.head.shape (certificate_form c))
  lookup_count system = (systems_framed limits ss s es).entries.count
  lookup_count certificate = (certificate_framed limits cs s.head.shape c ec).entries.count

  -- "the lookup counts all": row i of right side k is polynomial n·m + n·k + i of the sheet
  module _ (fit : LimitsFit limits) (k i : ℕ) (has : k < s.head.sides) (less : i < s.head.shape.rows) where
    abbrev number : ℕ
    number = s.head.shape.rows * s.head.shape.columns + k * s.head.shape.rows + i

    pub side_shown : words_shown (polynomial_lookup limits ss cs system number) ≡ polynomial_words (side_entry (line s k) i)
    side_shown =
        let within = (systems_written_of_read limits fit ss s es).1 in
        let many : suc k * s.head.shape.rows ≤ s.head.sides * s.head.shape.rows = mul-le-mul has (le_refl _) in
        ap words_shown (lookup_some limits ss cs system number s es c ec (omega (arith, many, lookup_count system)))
        ∙ ap polynomial_words (side_entry_lem limits s within k has i less)

-- ---- what is shown

-- the values read; the part as that of a polynomial, and as one of the words that are asked for
pub record Shows (limits : Limits) (ss cs : List ℕ) (of : Of) (k : ℕ) (part : Part) : Type 0 where
  pub system : Systems
  pub certificate : Certificate
  pub read_system : read_systems limits ss ≡ accepted system
  pub read_certificate_lem : read_certificate limits system.head.shape cs ≡ accepted certificate
  pub number : k < length (entries_on of system certificate)
  pub from : part.from ≡ entry_place (entries_on of system certificate) k
  pub words : part.words ≡ polynomial_words (get_or (entries_on of system certificate) k [])
  pub inside : part.from + length part.words ≤ length (on of ss cs)
  pub cut : part.words ≡ take (length part.words) (drop part.from (on of ss cs))

-- a polynomial has a start word
never_empty : (f ws : List ℕ) → ws ≡ polynomial_words f → ws ≡ [] → ⊥
never_empty f ws e z = omega (arith, ap length e, ap length z, length_polynomial_words f)

module _ (limits : Limits) (ss cs : List ℕ) (of : Of) (k : ℕ) where
  pub lookup_shown : (part : Part) → polynomial_lookup limits ss cs of k ≡ accepted part → Shows limits ss cs of k part
  unfolding polynomial_lookup
  lookup_shown part e =
      let a = followed_by_accepted (read_systems limits ss) _ e in
      let s = a.0 in
      let b = followed_by_accepted (read_certificate limits s.head.shape cs) _ a.2 in
      let c = b.0 in
      let fs = entries_on of s c in
      let t = refuse_passed (leb (length fs) k) 12 0 _ b.2 in
      let some = leb-false (length fs) k t.0 in
      let same : part_of fs k ≡ part = cc in
      let f = on_framed limits ss cs s c a.1 b.1 of in
      subst (Shows limits ss cs of k) same
      (record {
        system = s;
        certificate = c;
        read_system = a.1;
        read_certificate_lem = b.1;
        number = some;
        from = refl;
        words = refl;
        inside = polynomial_inside (on of ss cs) f.0 fs f.1 k some;
        cut = sym (polynomial_part (on of ss cs) f.0 fs f.1 k some);
      })

  empty_by : (o : Outcome Part) → polynomial_lookup limits ss cs of k ≡ o → words_shown o ≡ []
      → (number : ℕ) × (place : ℕ) × (o ≡ refused number place)
  empty_by (accepted part) e z = absurd (never_empty _ part.words (lookup_shown part e).words z)
  empty_by (refused number place) e z = (number, place, refl)

  -- the part is empty exactly on a refusal
  pub lookup_empty_iff : (words_shown (polynomial_lookup limits ss cs of k) ≡ [])
      ↔ ((number : ℕ) × (place : ℕ) × (polynomial_lookup limits ss cs of k ≡ refused number place))
  lookup_empty_iff = (empty_by (polynomial_lookup limits ss cs of k) refl, λ r. ap words_shown r.2)
