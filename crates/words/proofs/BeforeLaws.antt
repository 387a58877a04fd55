-- "Sheets of before read as they did" (document 02, item 1): where bits 24 to 27 of the head are zero, the values, numbers and
-- places are those of the earlier definition; and what that read is still read.
use Rattle.std.specs.Prelude.{◌≡◌, Bool, not, ◌&&◌, ◌||◌, ℕ, ◌+◌, ◌*◌, ◌/◌, ◌%◌, ◌≤◌, length, leb}
use Rattle.std.proofs.Math.Path.{refl, sym, ap, subst}
use Rattle.std.proofs.Common.{◌∙◌, le_refl, mul-le-mul}
use Rattle.std.proofs.Math.Bool.{true, false}
use mathlib.Core.List.{List, [], ◌∷◌}
use native.Mathlib.Omega.{arith}
use Rattle.std.proofs.Math.Dec.{eqb}
use borrow.Author.Tests.{eq-eqb, eqb-true, le-leb, le-ltb}
use Rattle.modular.specs.Bits.{bound4}
use Rattle.modular.specs.Prime.{prime?}
use Rattle.words.specs.Limits.{Limits, system_count, longest_system}
use Rattle.words.specs.Word.{kind}
use Rattle.words.specs.Outcome.{Outcome, refuse, mapped, followed_by}
use Rattle.words.specs.Outcome.Outcome.{accepted, refused}
use Rattle.words.specs.Reading.{Reading, turn_back, and_then, renumber, outcome}
use Rattle.words.specs.Reading.Reading.{read, fault}
use Rattle.words.specs.Polynomial.{VectorWithin}
use Rattle.words.specs.Frame.{Due, Framed, body_from, framed_from}
use Rattle.words.specs.System.{System, Shape, SystemWithin, counts_within}
use Rattle.words.specs.Systems.{Head, side_unit, head_in, systems_head_from, systems_due, systems_of, systems_from}
use Rattle.words.specs.Systems.{Systems, SystemsWithin, read_systems, single, line_of, read_line}
use Rattle.words.specs.ReadingLaws.{and_then_read, turn_back_read, and_passed, outcome_accepted}
use Rattle.words.specs.LimitsLaws.{LimitsFit, words_for_most}
use Rattle.words.proofs.SystemsLaws.{systems_from_shown, systems_written_of_read}
use Rattle.words.proofs.LineLaws.{line_single}
use Rattle.words.specs.Before.{ZeroBits, head_shape, head_from, due_behind, system_of, before_from, read_before, longest_before}
use Rattle.words.specs.Before.{read_before_file}
use Rattle.words.specs.Bytes.{words_of, broken, read_systems_file, read_line_file, word_bytes}

-- a shape, with one right side
abbrev alone : Shape → Head
alone h = record { shape = h; sides = 1 }

-- the same reading of other values
abbrev map_read : {A B : Type 0} → (A → B) → Reading A → Reading B
map_read f (read a rest) = read (f a) rest
map_read f (fault number ws) = fault number ws

outcome_map : {A B : Type 0} (f : A → B) (total : ℕ) (r : Reading A) → outcome total (map_read f r) ≡ mapped f (outcome total r)
outcome_map f total (read a rest) = refl
outcome_map f total (fault number ws) = refl

turn_back_map : {A B : Type 0} (f : A → B) (t : Bool) (number : ℕ) (ws : List ℕ) (next : Reading A)
    → turn_back t number ws (map_read f next) ≡ map_read f (turn_back t number ws next)
turn_back_map f true number ws next = refl
turn_back_map f false number ws next = refl

before_shown : (limits : Limits) (ws : List ℕ) → read_before limits ws ≡ outcome (length ws) (before_from limits ws)
unfolding read_before
before_shown limits ws = refl

module _ (limits : Limits) (some : 1 ≤ limits.sides) where
  -- the head
  bits : (w : ℕ) → w / side_unit % bound4 ≡ 0 → leb (head_in w).sides limits.sides ≡ eqb (w / side_unit % bound4) 0
  unfolding head_in
  bits w z =
      let few : w / side_unit % bound4 + 1 ≤ limits.sides = omega arith in
      le-leb (w / side_unit % bound4 + 1) limits.sides few ∙ sym (eq-eqb (w / side_unit % bound4) 0 z)

  head_in_lem : (w : ℕ) → w / side_unit % bound4 ≡ 0 → head_in w ≡ alone (head_shape w)
  unfolding head_in head_shape
  head_in_lem w z = let one : w / side_unit % bound4 + 1 ≡ 1 = omega arith in
      ap (λ (n : ℕ). record { shape = head_shape w; sides = n }) one

  head_same : (ws : List ℕ) → ZeroBits ws → systems_head_from limits ws ≡ map_read alone (head_from limits ws)
  unfolding systems_head_from head_from
  head_same [] z = refl
  head_same (w ∷ ws) z =
      rw (bits w z, head_in_lem w z)
      (ap (turn_back (not (eqb (kind w) 1 && eqb (w / side_unit % bound4) 0)) 1 (w ∷ ws))
      (ap (turn_back (not (prime? (head_shape w).modulus)) 2 (w ∷ ws))
      (turn_back_map alone (not (counts_within limits (head_shape w))) 3 (w ∷ ws) (read (head_shape w) ws))
      ∙ turn_back_map alone (not (prime? (head_shape w).modulus)) 2 (w ∷ ws) _)
      ∙ turn_back_map alone (not (eqb (kind w) 1 && eqb (w / side_unit % bound4) 0)) 1 (w ∷ ws) _)

  -- what is due behind it
  due_same : (h : Shape) → systems_due limits (alone h) ≡ due_behind limits h
  due_same h =
      let one : 1 * h.rows ≡ h.rows = omega arith in
      ap (λ (n : ℕ). record {
        modulus = h.modulus;
        limit = limits.system_coefficients;
        count = h.rows * h.columns + n;
      }) one

  -- the values
  value_same : (f : Framed Shape) → systems_of (record { head = alone f.head; entries = f.entries }) ≡ single (system_of f)
  unfolding systems_of single system_of
  value_same f = refl

  body_same : (h : Shape) (r : Reading (List (List ℕ)))
      → and_then (and_then r (λ fs rest. read (record { head = alone h; entries = fs }) rest)) (λ v rest. read (systems_of v) rest)
      ≡ map_read single
      (and_then (and_then r (λ fs rest. read (record { head = h; entries = fs }) rest)) (λ v rest. read (system_of v) rest))
  unfolding systems_of single system_of
  body_same h (read fs rest) = refl
  body_same h (fault number ws) = refl

  framed_same : (total : ℕ) (r : Reading Shape)
      → and_then (and_then (map_read alone r) (λ h rest.
      and_then (renumber 0 (body_from (systems_due limits h) total rest)) (λ fs rest'.
      read (record { head = h; entries = fs }) rest'))) (λ v rest. read (systems_of v) rest)
      ≡ map_read single (and_then (and_then r (λ h rest.
      and_then (renumber 0 (body_from (due_behind limits h) total rest)) (λ fs rest'.
      read (record { head = h; entries = fs }) rest'))) (λ v rest. read (system_of v) rest))
  framed_same total (fault number ws) = refl
  framed_same total (read h rest) =
      ap (λ (d : Due). and_then (and_then (renumber 0 (body_from d total rest)) (λ fs rest'.
      read (record { head = alone h; entries = fs }) rest')) (λ v rest'. read (systems_of v) rest')) (due_same h)
      ∙ body_same h (renumber 0 (body_from (due_behind limits h) total rest))

  -- a sheet whose bits 24 to 27 are zero reads as it did, refusals and places included; what was a system is one alone
  pub before_read : (ws : List ℕ) → ZeroBits ws → read_systems limits ws ≡ mapped single (read_before limits ws)
  unfolding systems_from framed_from before_from
  before_read ws z =
      systems_from_shown limits ws
      ∙ ap (outcome (length ws))
      (ap (λ (r : Reading Head). and_then (and_then r (λ h rest.
      and_then (renumber 0 (body_from (systems_due limits h) (length ws) rest)) (λ fs rest'.
      read (record { head = h; entries = fs }) rest'))) (λ v rest. read (systems_of v) rest)) (head_same ws z)
      ∙ framed_same (length ws) (head_from limits ws))
      ∙ outcome_map single (length ws) (before_from limits ws)
      ∙ ap (mapped single) (sym (before_shown limits ws))

  system_within : {s : System} → SystemsWithin limits (single s) → SystemWithin limits s
  unfolding single
  system_within {s} h = record {
    shape = h.head.shape;
    matrix = h.matrix;
    side = subst (λ (i : ℕ). VectorWithin s.modulus limits.system_coefficients i s.side) (omega arith) h.side_entries;
  }

  zero_bits : (ws : List ℕ) (s : System) → read_before limits ws ≡ accepted s → ZeroBits ws
  unfolding before_from framed_from head_from
  zero_bits [] s e = tt
  zero_bits (w ∷ ws) s e =
      let t = outcome_accepted (length (w ∷ ws)) (before_from limits (w ∷ ws)) s (sym (before_shown limits (w ∷ ws)) ∙ e) in
      let u = and_then_read (framed_from 0 (head_from limits) (due_behind limits) (w ∷ ws)) t.1 in
      let a = and_then_read (head_from limits (w ∷ ws)) u.2 in
      let b = turn_back_read (not (eqb (kind w) 1 && eqb (w / side_unit % bound4) 0)) _ _ _ a.2 in
      eqb-true (w / side_unit % bound4) 0 (and_passed (eqb (kind w) 1) (eqb (w / side_unit % bound4) 0) b.0).1

  -- what the earlier definition read had these bits zero, so all that it read is read as it was
  pub before_accepted : (ws : List ℕ) (s : System) → read_before limits ws ≡ accepted s → read_systems limits ws ≡ accepted (single s)
  before_accepted ws s e = before_read ws (zero_bits ws s e) ∙ ap (mapped single) e

  -- so the first line of such a sheet is what was read of it, refusals and places included
  pub before_line : LimitsFit limits → (ws : List ℕ) → ZeroBits ws → read_line limits 0 ws ≡ read_before limits ws
  unfolding read_line single
  before_line fit ws z =
      ap (λ o. followed_by o (line_of 0)) (before_read ws z)
      ∙ each (read_before limits ws) (λ s e. (systems_written_of_read limits fit ws (single s) (before_accepted ws s e)).1)
    where
      each : (o : Outcome System) → ((s : System) → o ≡ accepted s → SystemsWithin limits (single s))
          → followed_by (mapped single o) (line_of 0) ≡ o
      each (refused number place) within = refl
      each (accepted s) within = ap accepted (line_single limits s (system_within (within s refl)))

  -- ---- files: up to the length that the limit in 10 was, which is now greater

  short_enough : (bytes : List ℕ) → length bytes ≤ word_bytes * longest_before limits
      → length bytes ≤ word_bytes * longest_system limits
  short_enough bytes few =
      let one : limits.rows ≤ limits.sides * limits.rows =
      omega (arith, mul-le-mul some (le_refl limits.rows)) in
      let more : system_count limits.rows limits.columns 1 ≤ system_count limits.rows limits.columns limits.sides =
      omega (arith, one) in
      omega (arith, words_for_most limits.system_coefficients more)

  -- a file of a sheet of before is read as it was, and so is its first line
  pub before_file : (bytes : List ℕ) → length bytes ≤ word_bytes * longest_before limits → ZeroBits (words_of bytes)
      → read_systems_file limits bytes ≡ mapped single (read_before_file limits bytes)
  unfolding read_systems_file read_before_file
  before_file bytes few z =
      rw (
        le-ltb (word_bytes * longest_system limits) (length bytes) (short_enough bytes few),
        le-ltb (word_bytes * longest_before limits) (length bytes) few,
      )
      (each (broken bytes || false) (read_before limits (words_of bytes)) (before_read (words_of bytes) z))
    where
      each : (b : Bool) {o : Outcome Systems} (q : Outcome System) → o ≡ mapped single q
          → refuse b 10 0 o ≡ mapped single (refuse b 10 0 q)
      each true q e = refl
      each false q e = e

  pub before_line_file : LimitsFit limits → (bytes : List ℕ) → length bytes ≤ word_bytes * longest_before limits
      → ZeroBits (words_of bytes) → read_line_file limits 0 bytes ≡ read_before_file limits bytes
  unfolding read_line_file read_before_file
  before_line_file fit bytes few z =
      rw (
        le-ltb (word_bytes * longest_system limits) (length bytes) (short_enough bytes few),
        le-ltb (word_bytes * longest_before limits) (length bytes) few,
        before_line fit (words_of bytes) z,
      ) refl
