-- A file that was opened: what was told is what number 10 says before whatever comes next, and the words that were left are read as
-- those of the file.
use Rattle.std.specs.Prelude.{◌≡◌, refl, Bool, true, false, ◌||◌, List, ◌++◌, ℕ, ◌*◌, ◌≤◌, min, length, take, drop, ltb}
use Rattle.std.proofs.Common.{sym, ap₂, ◌∙◌, arith, length-take, length-take-le, take_at, le-ltb, ltb-false}
use Rattle.std.proofs.Math.Path.{ap}
use Rattle.std.proofs.Math.Nat.{min-le_left, min-le_right, min-eq_left}
use Rattle.std.proofs.Math.Seq.{take-length}
use Rattle.words.specs.Limits.{Limits, longest_system}
use Rattle.words.specs.Outcome.{Outcome, refuse}
use Rattle.words.specs.Outcome.Outcome.{accepted, refused}
use Rattle.words.specs.OutcomeLaws.{refused_accepted}
use Rattle.words.specs.Systems.{read_systems, read_line}
use Rattle.words.specs.Bytes.{words_of, broken, read_systems_file, read_line_file, word_bytes}
use Rattle.words.proofs.BytesLaws.{length_words_of, or_right}
use Rattle.files.specs.Opening.{turned_back, first_words, opened_words, Opened}

-- a file whose limit is its own length has none
pub unlimited : (bytes : List ℕ) → turned_back (length bytes) bytes ≡ broken bytes
unlimited bytes = go (broken bytes) (le-ltb (length bytes) (length bytes) (omega arith))
  where
    go : (b : Bool) → ltb (length bytes) (length bytes) ≡ false → b || ltb (length bytes) (length bytes) ≡ b
    go true e = refl
    go false e = e

pub few_words : (most : ℕ) (ws : List ℕ) → length (first_words most ws) ≤ most
few_words most ws =
    let n = min (length ws) most in
    omega (arith, length-take n ws, min-le_right (length ws) most, min-le_left n (length ws))

passes : (b : Bool) {n : ℕ} (m : ℕ) → accepted n ≡ refuse b 10 0 (accepted m) → (b ≡ false) × (n ≡ m)
passes true m e = absurd (refused_accepted (sym e))
passes false m e = (refl, (cc))

stops : (b : Bool) {number place : ℕ} (m : ℕ) → refused number place ≡ refuse b 10 0 (accepted m)
    → (b ≡ true) × (number ≡ 10) × (place ≡ 0)
stops true m e = (refl, cc, cc)
stops false m e = absurd (refused_accepted e)

module _ {limit : ℕ} {bytes before after : List ℕ} {told : Outcome ℕ} (opened : Opened limit bytes before after told) where
  pub opened_refused : {number place : ℕ} → told ≡ refused number place
      → (turned_back limit bytes ≡ true) × (number ≡ 10) × (place ≡ 0)
  opened_refused e = stops (turned_back limit bytes) _ (sym e ∙ opened.count)

  -- 10, before anything else
  pub opened_stops : {number place : ℕ} → told ≡ refused number place → {A : Type 0} (next : Outcome A)
      → refuse (turned_back limit bytes) 10 0 next ≡ refused number place
  opened_stops e next =
      let h = opened_refused e in
      ap (λ b. refuse b 10 0 next) h.0 ∙ ap₂ refused (sym h.1) (sym h.2)

  -- "no lent word changes"
  pub opened_unchanged : {number place : ℕ} → told ≡ refused number place → after ≡ before
  opened_unchanged e = opened.words ∙ ap (λ o. opened_words o bytes before) e

  module _ {n : ℕ} (e : told ≡ accepted n) where
    passed : (turned_back limit bytes ≡ false) × (n ≡ min (length (words_of bytes)) (length before))
    passed = passes (turned_back limit bytes) _ (sym e ∙ opened.count)

    pub opened_whole : turned_back limit bytes ≡ false
    opened_whole = passed.0

    -- what comes after 10 is next
    pub opened_passes : {A : Type 0} (next : Outcome A) → refuse (turned_back limit bytes) 10 0 next ≡ next
    opened_passes next = ap (λ b. refuse b 10 0 next) opened_whole

    known : n ≤ length (words_of bytes)
    known = omega (arith, passed.1, min-le_left (length (words_of bytes)) (length before))

    pub opened_room : n ≤ length before
    opened_room = omega (arith, passed.1, min-le_right (length (words_of bytes)) (length before))

    left : after ≡ take n (words_of bytes) ++ drop n before
    left = opened.words ∙ ap (λ o. opened_words o bytes before) e

    -- the first of the file's words, as many as there was room for
    pub opened_first : take n after ≡ first_words (length before) (words_of bytes)
    opened_first =
        ap (take n) left ∙ take_at (take n (words_of bytes)) (drop n before) n (length-take-le n (words_of bytes) known)
        ∙ ap (λ (i : ℕ). take i (words_of bytes)) passed.1

    pub opened_length : n ≡ length (take n after)
    opened_length =
        sym (ap length (opened_first ∙ ap (λ (i : ℕ). take i (words_of bytes)) (sym passed.1))
        ∙ length-take-le n (words_of bytes) known)

    -- and all of them where there was room for `limit` bytes
    pub opened_all : limit ≤ word_bytes * length before → take n after ≡ words_of bytes
    opened_all room =
        let short = ltb-false limit (length bytes) (or_right (broken bytes) (ltb limit (length bytes)) opened_whole) in
        opened_first
        ∙ ap (λ (i : ℕ). take i (words_of bytes)) (min-eq_left {m = length before} (omega (arith, length_words_of bytes, short)))
        ∙ take-length (words_of bytes)

-- a sheet's file
module _ (limits : Limits) {bytes before after : List ℕ} {told : Outcome ℕ}
    (opened : Opened (word_bytes * longest_system limits) bytes before after told) where
  pub system_file_refused : {number place : ℕ} → told ≡ refused number place → read_systems_file limits bytes ≡ refused number place
  unfolding read_systems_file
  system_file_refused e = opened_stops opened e (read_systems limits (words_of bytes))

  pub system_file_read : longest_system limits ≤ length before → {n : ℕ} → told ≡ accepted n
      → read_systems_file limits bytes ≡ read_systems limits (take n after)
  unfolding read_systems_file
  system_file_read room e =
      opened_passes opened e (read_systems limits (words_of bytes))
      ∙ ap (read_systems limits) (sym (opened_all opened e (omega arith)))

  -- of which one line is read
  module _ (k : ℕ) where
    pub line_file_refused : {number place : ℕ} → told ≡ refused number place → read_line_file limits k bytes ≡ refused number place
    unfolding read_line_file
    line_file_refused e = opened_stops opened e (read_line limits k (words_of bytes))

    pub line_file_read : longest_system limits ≤ length before → {n : ℕ} → told ≡ accepted n
        → read_line_file limits k bytes ≡ read_line limits k (take n after)
    unfolding read_line_file
    line_file_read room e =
        opened_passes opened e (read_line limits k (words_of bytes))
        ∙ ap (read_line limits k) (sym (opened_all opened e (omega arith)))
