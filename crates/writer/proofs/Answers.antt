-- What a writer answers, trial by trial, and that it leaves the lent words so.
use Rattle.std.specs.Prelude.{Result, Ok, Err}
use mathlib.Core.Path.{◌≡◌, sym, ap, ◌∙◌, subst}
use mathlib.Core.List.{List}
use Prim.Native.Nat.{ℕ, ◌+◌, ◌≤◌, ◌<◌}
use native.Mathlib.Omega.{arith}
use lib.ListN.{length}
use borrow.Author.Tests.{lt-ltb, le-ltb}
use Rattle.words.specs.Outcome.{Outcome, mapped}
use Rattle.words.specs.Outcome.Outcome.{accepted}
use Rattle.words.specs.Polynomial.{Within, AllWithin}
use Rattle.words.specs.Limits.{Limits}
use Rattle.words.specs.Frame.{framed_words}
use Rattle.words.specs.System.{Shape}
use Rattle.words.specs.VectorLaws.{all_at}
use Rattle.words.specs.Word.{payload_bound}
use Rattle.answers.specs.declared.answer.Reason.TheVariants as reason
use Rattle.answers.specs.declared.answer.Refusal.{Refusal}
use Rattle.answers.specs.Answer.{by_of, refused_by}
use Rattle.write_frame.specs.declared.format.Format.{Format}
use Rattle.writer.specs.Writing.{refuse_sides, refuse_shape, refuse_room, lent_after, Writes}
use Rattle.write_frame.specs.Trial.{passed, refuse_polynomials}
use Rattle.write_frame.specs.TrialLaws.{next_after, polynomials_first, polynomials_passed}
use Rattle.writer.specs.WritingLaws.{sides_first, shape_first}
use Rattle.writer.specs.ValuesLaws.{canonical_below}
use Rattle.write_frame.specs.Values.{polynomial_in}
use Rattle.write_frame.specs.ValuesLaws.{length_polynomial_in, get_or_polynomials_in}
use Rattle.write_frame.specs.Framing.{Writable, Wrote, entries_in}
use Rattle.writer.specs.Formats.{write_framed}

-- an outcome under another name
pub writes_as : {outcome same : Outcome (List ℕ)} {entry exit : List ℕ} {answer : Result ℕ Refusal} → outcome ≡ same
    → Writes same entry answer exit → Writes outcome entry answer exit
writes_as {entry = entry} {exit = exit} {answer = answer} e = subst (λ (o : Outcome (List ℕ)). Writes o entry answer exit) (sym e)

-- ---- a trial before the rest

module _ (trial : Outcome (Unit {0})) (next outcome : Outcome (List ℕ)) (first : outcome ≡ next_after trial next) where
  pub writes_refused : (entry : List ℕ) (r : Refusal) → refused_by r ≡ trial
      → Writes outcome entry (Err r) entry
  unfolding lent_after
  writes_refused entry r e =
      let o : outcome ≡ refused_by r = first ∙ ap (λ (t : Outcome (Unit {0})). next_after t next) (sym e) in
      record { told = sym (ap (mapped length) o); lent = sym (ap (λ (p : Outcome (List ℕ)). lent_after p entry) o) }

  pub writes_passed : (entry exit : List ℕ) (answer : Result ℕ Refusal) → passed ≡ trial → Writes next entry answer exit
      → Writes outcome entry answer exit
  writes_passed entry exit answer e w =
      writes_as (first ∙ ap (λ (t : Outcome (Unit {0})). next_after t next) (sym e)) w

-- ---- room

-- 11, at 0
abbrev pub short : Result ℕ Refusal
short = Err (record { reason = reason.SpaceShort; place = 0 })

module _ (longest lent : ℕ) (ws entry : List ℕ) where
  pub writes_short : lent < longest → Writes (refuse_room longest lent (accepted ws)) entry short entry
  unfolding lent_after
  writes_short h = record { told = simp (lt-ltb lent longest h); lent = simp (lt-ltb lent longest h) }

  pub writes_words : (exit : List ℕ) (n : ℕ) → longest ≤ lent → Wrote ws entry exit n
      → Writes (refuse_room longest lent (accepted ws)) entry (Ok n) exit
  unfolding lent_after
  writes_words exit n h w =
      record { told = simp (le-ltb lent longest h) (ap accepted w.count); lent = simp (le-ltb lent longest h) w.words }

-- ---- polynomials in which nothing was refused can be written

writable : (format : Format) (sizes coefficients : List ℕ) (p : ℕ) → p ≤ payload_bound
    → AllWithin p format.limit (entries_in format sizes coefficients)
    → Writable format sizes coefficients
writable format sizes coefficients p small all = record {
  few = λ k h. omega (arith, (within k h).size, length_polynomial_in format.stride sizes coefficients k);
  payloads =
      λ k h. canonical_below p payload_bound small (omega arith) (polynomial_in format.stride sizes coefficients k)
      (within k h).canonical;
}
  where
    within : (k : ℕ) → k < format.count → Within p format.limit (polynomial_in format.stride sizes coefficients k)
    within k h =
        let z : ◌≡◌ {A = ℕ} (0 + k) k = omega arith in
        subst (Within p format.limit)
        (get_or_polynomials_in format.stride sizes coefficients 0 format.count k h
        ∙ ap (polynomial_in format.stride sizes coefficients) z)
        (all_at p format.limit (entries_in format sizes coefficients) all k)

-- ---- what writing values gives

module _ (format : Format) (p : ℕ) (sizes coefficients : List ℕ) where
  abbrev entries : List (List ℕ)
  entries = entries_in format sizes coefficients

  -- the polynomials by themselves
  abbrev pub trial : Outcome (Unit {0})
  trial = refuse_polynomials p format.limit (by_of format.of) 1 entries passed

  pub values_writable : passed ≡ trial → p ≤ payload_bound → Writable format sizes coefficients
  values_writable e small =
      writable format sizes coefficients p small (polynomials_passed p format.limit (by_of format.of) passed 1 entries (sym e)).0

  module _ (lent : List ℕ) where
    abbrev all : Outcome (List ℕ)
    all = write_framed format p (length lent) sizes coefficients

    -- what comes behind the polynomials
    abbrev rest : Outcome (List ℕ)
    rest = refuse_room format.longest (length lent) (accepted (framed_words format.head entries))

    trial_first : all ≡ next_after trial rest
    trial_first = polynomials_first p format.limit (by_of format.of) rest 1 entries

    pub values_refused : (r : Refusal) → refused_by r ≡ trial → Writes all lent (Err r) lent
    values_refused = writes_refused trial rest all trial_first lent

    pub values_short : passed ≡ trial → length lent < format.longest → Writes all lent short lent
    values_short e h =
        writes_passed trial rest all trial_first lent lent short e
        (writes_short format.longest (length lent) (framed_words format.head entries) lent h)

    pub values_words : passed ≡ trial → format.longest ≤ length lent → (exit : List ℕ) (n : ℕ)
        → Wrote (framed_words format.head entries) lent exit n
        → Writes all lent (Ok n) exit
    values_words e h exit n w =
        writes_passed trial rest all trial_first lent exit (Ok n) e
        (writes_words format.longest (length lent) (framed_words format.head entries) lent exit n h w)

-- ---- a number of right sides before a shape

module _ (limits : Limits) (sides : ℕ) (rest : Outcome (List ℕ)) (lent : List ℕ) where
  pub sides_refused : (r : Refusal) → refused_by r ≡ refuse_sides limits sides passed
      → Writes (refuse_sides limits sides rest) lent (Err r) lent
  sides_refused = writes_refused _ _ _ (sides_first limits sides rest) lent

  pub sides_written : {answer : Result ℕ Refusal} {exit : List ℕ} → passed ≡ refuse_sides limits sides passed → Writes rest lent answer exit
      → Writes (refuse_sides limits sides rest) lent answer exit
  sides_written {answer} {exit} e w = writes_passed _ _ _ (sides_first limits sides rest) lent exit answer e w

-- ---- a shape before values

module _ (limits : Limits) (h : Shape) (format : Format) (sizes coefficients lent : List ℕ) where
  abbrev next : Format → Outcome (List ℕ)
  next f = write_framed f h.modulus (length lent) sizes coefficients

  pub shape_refused : (r : Refusal) → refused_by r ≡ refuse_shape limits h passed
      → Writes (refuse_shape limits h (next format)) lent (Err r) lent
  shape_refused = writes_refused _ _ _ (shape_first limits h (next format)) lent

  -- the format is what code computed
  pub shape_written : {computed : Format} {answer : Result ℕ Refusal} {exit : List ℕ} → passed ≡ refuse_shape limits h passed
      → computed ≡ format → Writes (next computed) lent answer exit → Writes (refuse_shape limits h (next format)) lent answer exit
  shape_written {computed} {answer} {exit} e f w =
      writes_passed _ _ _ (shape_first limits h (next format)) lent exit answer e
      (subst (λ (g : Format). Writes (next g) lent answer exit) f w)
