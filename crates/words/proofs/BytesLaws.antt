-- Words as bytes and back, and systems as files.
use Rattle.std.specs.Prelude.{◌≡◌, refl, Bool, true, false, ◌||◌, ◌↔◌, List, [], ◌∷◌, ℕ, zero, suc, ◌+◌, ◌*◌, ◌/◌, ◌%◌, ◌≤◌, ◌<◌, length, get_or}
use Rattle.std.proofs.Common.{sym, ap₂, ◌∙◌, arith}
use Rattle.std.proofs.Math.Path.{ap}
use borrow.Author.Tests.{eq-eqb, ne_eqb, eqb-true, lt-ltb, le-ltb, not-false}
use Rattle.modular.specs.Bits.{bound8}
use Rattle.words.specs.Limits.{Limits, longest_system}
use Rattle.words.specs.Word.{Bytes}
use Rattle.words.specs.Outcome.Outcome.{accepted, refused}
use Rattle.words.specs.Systems.{Systems, SystemsWithin, systems_words, read_systems}
use Rattle.words.specs.Bytes.{word_of, word_at, words_of, bytes_of, broken, too_long, read_systems_file, word_bytes}
use Rattle.words.specs.Bytes.{second_byte_unit, third_byte_unit, fourth_byte_unit}
use Rattle.words.specs.OutcomeLaws.{refuse_passed}
use Rattle.words.specs.LimitsLaws.{LimitsFit}
use Rattle.words.proofs.SystemsLaws.{systems_read_of_written, systems_written_of_read, systems_words_most}

pub length_words_of : (bytes : List ℕ) → length (words_of bytes) ≡ length bytes / word_bytes
unfolding words_of
length_words_of [] = refl
length_words_of (a ∷ []) = refl
length_words_of (a ∷ b ∷ []) = refl
length_words_of (a ∷ b ∷ c ∷ []) = refl
length_words_of (a ∷ b ∷ c ∷ d ∷ bytes) = let ih = length_words_of bytes in omega arith

-- word i starts at byte 4·i
pub words_of_at : (bytes : List ℕ) (i : ℕ) → i < length bytes / word_bytes → get_or (words_of bytes) i 0 ≡ word_at bytes (word_bytes * i)
unfolding words_of
words_of_at [] i h = absurd (omega arith)
words_of_at (a ∷ []) i h = absurd (omega arith)
words_of_at (a ∷ b ∷ []) i h = absurd (omega arith)
words_of_at (a ∷ b ∷ c ∷ []) i h = absurd (omega arith)
words_of_at (a ∷ b ∷ c ∷ d ∷ bytes) zero h = refl
words_of_at (a ∷ b ∷ c ∷ d ∷ bytes) (suc i) h =
    let step : (k : ℕ) → word_bytes * suc i + k ≡ suc (suc (suc (suc (word_bytes * i + k)))) = λ k. omega arith in
    let first : word_bytes * suc i ≡ suc (suc (suc (suc (word_bytes * i)))) = omega arith in
    words_of_at bytes i (omega arith) ∙ sym (rw (step 1, step 2, step 3, first) refl)

pub length_bytes_of : (ws : List ℕ) → length (bytes_of ws) ≡ word_bytes * length ws
unfolding bytes_of
length_bytes_of [] = refl
length_bytes_of (w ∷ ws) = let ih = length_bytes_of ws in omega arith

pub words_of_bytes_of : (ws : List ℕ) → words_of (bytes_of ws) ≡ ws
unfolding words_of bytes_of
words_of_bytes_of [] = refl
words_of_bytes_of (w ∷ ws) = ap₂ (λ (v : ℕ) (vs : List ℕ). v ∷ vs) (omega arith) (words_of_bytes_of ws)

-- the lowest byte, and what is above it
low : (a x : ℕ) → a < bound8 → (a + x * bound8) % bound8 ≡ a
low a x h = omega arith

pub bytes_of_words_of : (bytes : List ℕ) → Bytes bytes → length bytes % word_bytes ≡ 0 → bytes_of (words_of bytes) ≡ bytes
unfolding words_of bytes_of
bytes_of_words_of [] h e = refl
bytes_of_words_of (a ∷ []) h e = absurd (omega arith)
bytes_of_words_of (a ∷ b ∷ []) h e = absurd (omega arith)
bytes_of_words_of (a ∷ b ∷ c ∷ []) h e = absurd (omega arith)
bytes_of_words_of (a ∷ b ∷ c ∷ d ∷ bytes) h e =
    let ha = h 0 in
    let hb = h 1 in
    let hc = h 2 in
    let w : ℕ = word_of a b c d in
    let ea : w % bound8 ≡ a = omega arith in
    let qb : w / second_byte_unit ≡ b + (c + d * bound8) * bound8 = omega arith in
    let eb : w / second_byte_unit % bound8 ≡ b = ap (λ (q : ℕ). q % bound8) qb ∙ low b (c + d * bound8) hb in
    let qc : w / third_byte_unit ≡ c + d * bound8 = omega arith in
    let ec : w / third_byte_unit % bound8 ≡ c = ap (λ (q : ℕ). q % bound8) qc ∙ low c d hc in
    let ed : w / fourth_byte_unit ≡ d = omega arith in
    let ih = bytes_of_words_of bytes (λ i. h (suc (suc (suc (suc i))))) (omega arith) in
    cc

-- ---- files

pub file_broken : (limits : Limits) (bytes : List ℕ) → (length bytes % word_bytes ≡ 0 → ⊥)
    → read_systems_file limits bytes ≡ refused 10 0
unfolding read_systems_file
file_broken limits bytes h = simp (ne_eqb _ _ h)

pub file_long : (limits : Limits) (bytes : List ℕ) → length bytes % word_bytes ≡ 0 → word_bytes * longest_system limits < length bytes
    → read_systems_file limits bytes ≡ refused 10 0
unfolding read_systems_file
file_long limits bytes h k = simp (eq-eqb _ _ h, lt-ltb _ _ k)

pub file_passed : (limits : Limits) (bytes : List ℕ) → length bytes % word_bytes ≡ 0
    → length bytes ≤ word_bytes * longest_system limits
    → read_systems_file limits bytes ≡ read_systems limits (words_of bytes)
unfolding read_systems_file
file_passed limits bytes h k = simp (eq-eqb _ _ h, le-ltb _ _ k)

pub or_left : (a b : Bool) → a || b ≡ false → a ≡ false
or_left true b e = e
or_left false b e = refl

pub or_right : (a b : Bool) → a || b ≡ false → b ≡ false
or_right true b e = absurd (let z : ◌≡◌ {A = ℕ} 0 1 = cc in omega arith)
or_right false b e = e

module _ (limits : Limits) (fit : LimitsFit limits) (s : Systems) where
  pub file_read_of_written : SystemsWithin limits s → read_systems_file limits (bytes_of (systems_words s)) ≡ accepted s
  file_read_of_written h =
      let n = length_bytes_of (systems_words s) in
      let most = systems_words_most limits fit s h in
      file_passed limits (bytes_of (systems_words s)) (omega arith) (omega arith)
      ∙ ap (read_systems limits) (words_of_bytes_of (systems_words s))
      ∙ systems_read_of_written limits fit s h

  -- a system that was read from a file keeps the limits
  pub file_within : (bytes : List ℕ) → read_systems_file limits bytes ≡ accepted s → SystemsWithin limits s
  unfolding read_systems_file
  file_within bytes e =
      (systems_written_of_read limits fit (words_of bytes) s (refuse_passed (broken bytes || too_long limits bytes) 10 0 _ e).1).1

  module _ (bytes : List ℕ) (small : Bytes bytes) where
    pub file_written_of_read : read_systems_file limits bytes ≡ accepted s
        → (bytes ≡ bytes_of (systems_words s)) × SystemsWithin limits s
    unfolding read_systems_file
    file_written_of_read e =
        let t = refuse_passed (broken bytes || too_long limits bytes) 10 0 _ e in
        let whole = eqb-true _ _ (not-false _ (or_left (broken bytes) (too_long limits bytes) t.0)) in
        let r = systems_written_of_read limits fit (words_of bytes) s t.1 in
        (sym (bytes_of_words_of bytes small whole) ∙ ap bytes_of r.0, r.1)

    -- the reader accepts just the files that hold the written form of a system within the limits
    pub file_accepted_iff : (read_systems_file limits bytes ≡ accepted s)
        ↔ ((bytes ≡ bytes_of (systems_words s)) × SystemsWithin limits s)
    file_accepted_iff = (file_written_of_read, λ h. ap (read_systems_file limits) h.0 ∙ file_read_of_written h.1)
