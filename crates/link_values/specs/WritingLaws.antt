-- A system's file from values: room is tried last; numbers and places of refusals; what is written is read back.
use Prim.Native.Nat.{ℕ, ◌+◌, ◌*◌, ◌/◌, ◌%◌, ◌≤◌, ◌<◌}
use Rattle.std.specs.Prelude.{◌≡◌, refl, not, ◌&&◌, ◌||◌, take, leb}
use Rattle.std.proofs.Math.Path.{sym, ap, ap₂}
use Rattle.std.proofs.Common.{◌∙◌, arith}
use mathlib.Core.List.{List, [], ◌∷◌, ◌++◌}
use Rattle.std.proofs.Math.ListN.{length, length-append}
use Rattle.std.proofs.Math.Dec.{eqb, ltb}
use borrow.Author.Tests.{lt-ltb, le-ltb, ltb-false}
use Rattle.modular.specs.LargestPrime.{largest_modulus}
use Rattle.modular.specs.Prime.{prime?}
use Rattle.words.specs.Limits.{Limits, office, system_count, longest_system}
use Rattle.words.specs.LimitsLaws.{LimitsFit, office_fits, system_count_most, words_for_most}
use Rattle.words.specs.Outcome.{Outcome, mapped}
use Rattle.words.specs.Outcome.Outcome.{accepted, refused}
use Rattle.words.specs.OutcomeLaws.{refused_accepted, mapped_accepted, refuse_passed, passed_refuse}
use Rattle.words.specs.System.{Shape, one_to}
use Rattle.words.specs.Systems.{Head, Systems, HeadWithin, systems_head, systems_entries, systems_words, read_systems}
use Rattle.words.proofs.SystemsLaws.{systems_words_most}
use Rattle.words.specs.Bytes.{words_of, bytes_of, broken, too_long, read_systems_file, word_bytes}
use Rattle.words.proofs.BytesLaws.{length_bytes_of, file_read_of_written}
use Rattle.answers.specs.Packed.{place_unit}
use Rattle.write_frame.specs.Trial.{passed, last?, refuse_coefficients, refuse_polynomials}
use Rattle.write_frame.specs.TrialLaws.{next_after, refuse_after, polynomials_first}
use Rattle.write_frame.specs.ValuesLaws.{length_polynomials_in}
use Rattle.writer.specs.Writing.{refuse_sides, refuse_shape, refuse_room, write_systems}
use Rattle.writer.specs.WritingLaws.{shape_first, shape_passed}
use Rattle.writer.specs.WrittenLaws.{system_accepted}
use Rattle.writer.proofs.RefusedLaws.{sides_iff}
use Rattle.writer.specs.Values.{system_in_arrays}
use Rattle.answers.specs.Heads.{head_number}
use Rattle.link_values.specs.Files.{Pair, file_shape, read_files, write_systems_file}
use Rattle.link_values.specs.FilesLaws.{files_read}
use Rattle.link_values.specs.Giving.{GivesPacked}
use Rattle.link_values.specs.Refusals.{Refusals, Numbers, Places, refusals_row, refusals_mapped}
use Rattle.link_values.specs.Refusals.{refusals_accepted, numbers_wider}
use Rattle.link_values.specs.Unpacked.{given_counted}

-- ---- the room is tried last: whatever is lent, the values are refused alike

module _ (limits : Limits) (s : Systems) where
  abbrev head_trial : Outcome (Unit {0})
  head_trial = refuse_sides limits s.head.sides (refuse_shape limits s.head.shape passed)

  abbrev entries_trial : Outcome (Unit {0})
  entries_trial = refuse_polynomials s.head.shape.modulus limits.system_coefficients 0 1 (systems_entries s) passed

  abbrev room_trial : ℕ → Outcome (List ℕ)
  room_trial lent = refuse_room (longest_system limits) lent (accepted (systems_words s))

  in_turn : (lent : ℕ) → write_systems limits lent s ≡ next_after head_trial (next_after entries_trial (room_trial lent))
  unfolding write_systems
  in_turn lent =
      let shape_trial = refuse_shape limits s.head.shape passed in
      refuse_after (not (one_to limits.sides s.head.sides)) 1 0 shape_trial (next_after entries_trial (room_trial lent))
      (shape_first limits s.head.shape _
      ∙ ap (next_after shape_trial) (polynomials_first s.head.shape.modulus limits.system_coefficients 0 (room_trial lent) 1
      (systems_entries s)))

  module _ (lent : ℕ) where
    abbrev with_room : Outcome (List ℕ)
    with_room = write_systems limits (longest_system limits) s

    roomy : room_trial (longest_system limits) ≡ accepted (systems_words s)
    roomy = simp (le-ltb (longest_system limits) (longest_system limits) (omega arith))

    after_refused : (a b : Outcome (Unit {0})) {number place : ℕ}
        → next_after a (next_after b (room_trial (longest_system limits))) ≡ refused number place
        → next_after a (next_after b (room_trial lent)) ≡ refused number place
    after_refused (refused n p) b e = cc
    after_refused (accepted u) (refused n p) e = cc
    after_refused (accepted u) (accepted v) e = absurd (refused_accepted (sym e ∙ roomy))

    after_passed : (a b : Outcome (Unit {0})) {ws : List ℕ}
        → next_after a (next_after b (room_trial (longest_system limits))) ≡ accepted ws
        → next_after a (next_after b (room_trial lent)) ≡ refuse_room (longest_system limits) lent (accepted ws)
    after_passed (refused n p) b e = absurd (refused_accepted e)
    after_passed (accepted u) (refused n p) e = absurd (refused_accepted e)
    after_passed (accepted u) (accepted v) e = ap (refuse_room (longest_system limits) lent) (sym roomy ∙ e)

    pub values_refused : {number place : ℕ} → with_room ≡ refused number place → write_systems limits lent s ≡ refused number place
    values_refused e =
        in_turn lent ∙ after_refused head_trial entries_trial (sym (in_turn (longest_system limits)) ∙ e)

    pub values_passed : {ws : List ℕ} → with_room ≡ accepted ws
        → write_systems limits lent s ≡ refuse_room (longest_system limits) lent (accepted ws)
    values_passed e = in_turn lent ∙ after_passed head_trial entries_trial (sym (in_turn (longest_system limits)) ∙ e)

-- as bytes, four to a word, where so many bytes lent
module _ (limits : Limits) (s : Systems) (lent : ℕ) where
  pub write_refused : {number place : ℕ} → write_systems limits (longest_system limits) s ≡ refused number place
      → write_systems_file limits lent s ≡ refused number place
  write_refused e = ap (mapped bytes_of) (values_refused limits s (lent / word_bytes) e)

  module _ {ws : List ℕ} (e : write_systems limits (longest_system limits) s ≡ accepted ws) where
    pub write_short : lent < word_bytes * longest_system limits → write_systems_file limits lent s ≡ refused 11 0
    write_short few =
        ap (mapped bytes_of) (values_passed limits s (lent / word_bytes) e)
        ∙ simp (lt-ltb (lent / word_bytes) (longest_system limits) (omega arith))

    pub write_whole : word_bytes * longest_system limits ≤ lent → write_systems_file limits lent s ≡ accepted (bytes_of ws)
    write_whole room =
        ap (mapped bytes_of) (values_passed limits s (lent / word_bytes) e)
        ∙ simp (le-ltb (lent / word_bytes) (longest_system limits) (omega arith))

-- ---- numbers and places of refusals

module _ {A : Type 0} {P : ℕ → ℕ → Type 0} (p limit : ℕ) (next : Outcome A) (most : ℕ) (after : Refusals P next)
    (six : (place : ℕ) → place < most → P 6 place) (seven : (place : ℕ) → place < most → P 7 place)
    (eight : (place : ℕ) → place < most → P 8 place) where
  coefficients_refusals : (place : ℕ) (f : List ℕ) (rest : Outcome A) → place + length f ≤ most → Refusals P rest
      → Refusals P (refuse_coefficients p 0 place f rest)
  unfolding refuse_coefficients
  coefficients_refusals place [] rest room k = k
  coefficients_refusals place (a ∷ f) rest room k =
      refusals_row (leb p a) 7 place _ (seven place (omega arith)) (λ _.
      refusals_row (last? f && eqb a 0) 8 place _ (eight place (omega arith)) (λ _.
      coefficients_refusals (place + 1) f rest (omega arith) k))

  pub polynomials_refusals : (place : ℕ) (fs : List (List ℕ)) → place + length fs * (1 + limit) ≤ most
      → Refusals P (refuse_polynomials p limit 0 place fs next)
  unfolding refuse_polynomials
  polynomials_refusals place [] room = after
  polynomials_refusals place (f ∷ fs) room =
      refusals_row (ltb limit (length f)) 6 place _ (six place (omega arith)) (λ few.
      let size = ltb-false limit (length f) few in
      coefficients_refusals (place + 1) f _ (omega arith)
      (polynomials_refusals (place + 1 + length f) fs (omega arith)))

module _ (limits : Limits) (lent : ℕ) (h : Head) (sizes coefficients : List ℕ) where
  abbrev system : Systems
  system = system_in_arrays limits h sizes coefficients

  entries_most : HeadWithin limits h → 1 + length (systems_entries system) * (1 + limits.system_coefficients) ≤ longest_system limits
  unfolding system_in_arrays
  entries_most within =
      let stride = limits.system_coefficients in
      let matrix = system.matrix in
      let right = system.side_entries in
      let count : length (matrix ++ right) ≡ system_count h.shape.rows h.shape.columns h.sides =
      length-append matrix right
      ∙ ap₂ ◌+◌ (length_polynomials_in stride sizes coefficients _ _) (length_polynomials_in stride sizes coefficients _ _) in
      let most = system_count_most within.shape.rows.1 within.shape.columns.1 within.sides.1 in
      omega (arith, words_for_most stride most, ap (λ n. n * (1 + stride)) count)

  -- 1, 2, 3, 6 to 8 at a word of the longest system or before, 11
  module _ {P : ℕ → ℕ → Type 0} (one : P 1 0) (two : P 2 0) (three : P 3 0) (eleven : P 11 0)
      (value : (number place : ℕ) → 6 ≤ number → number ≤ 8 → place < longest_system limits → P number place) where
    write_refusals : Refusals P (write_systems limits lent system)
    unfolding write_systems system_in_arrays
    write_refusals =
        refusals_row (not (one_to limits.sides h.sides)) 1 0 _ one (λ some.
        refusals_row (not (prime? g.modulus) || ltb largest_modulus g.modulus) 2 0 _ two (λ prime.
        refusals_row (not (one_to limits.rows g.rows && one_to limits.columns g.columns)) 3 0 _ three (λ counts.
        let shaped = passed_refuse _ 2 0 _ prime (passed_refuse _ 3 0 passed counts refl) in
        let within : HeadWithin limits h =
        record { shape = (shape_passed limits g passed shaped).0; sides = (sides_iff limits h.sides).0 some } in
        polynomials_refusals g.modulus limits.system_coefficients _ (longest_system limits)
        (refusals_row (ltb lent (longest_system limits)) 11 0 _ eleven (λ _. refusals_accepted _))
        (λ place. value 6 place (omega arith) (omega arith)) (λ place. value 7 place (omega arith) (omega arith))
        (λ place. value 8 place (omega arith) (omega arith)) 1 (systems_entries system)
        (entries_most within))))
      where
        g : Shape
        g = h.shape

module _ (limits : Limits) (lent : ℕ) (h : Head) (sizes coefficients : List ℕ) where
  abbrev written : Outcome (List ℕ)
  written = write_systems_file limits lent (system_in_arrays limits h sizes coefficients)

  pub write_numbers : Numbers 1 11 written
  write_numbers = refusals_mapped bytes_of _
      (write_refusals limits (lent / word_bytes) h sizes coefficients (omega arith, omega arith) (omega arith, omega arith)
      (omega arith, omega arith) (omega arith, omega arith)
      (λ number place low high inside. (omega arith, omega arith)))

  pub write_places : (most : ℕ) → longest_system limits ≤ most → Places most written
  write_places most longest = refusals_mapped bytes_of _
      (write_refusals limits (lent / word_bytes) h sizes coefficients (omega arith) (omega arith) (omega arith) (omega arith)
      (λ number place low high inside. omega arith))

  pub write_count : LimitsFit limits → (bytes : List ℕ) → written ≡ accepted bytes → length bytes ≤ word_bytes * longest_system limits
  write_count fit bytes e =
      let ws = mapped_accepted bytes_of (write_systems limits (lent / word_bytes) _) e in
      let s = system_accepted limits (lent / word_bytes) h sizes coefficients ws.0 ws.1 in
      omega (arith, systems_words_most limits fit _ s.0, ap length s.1, length_bytes_of ws.0, ap length ws.2)

  -- what is written is read back as the values
  pub written_read : LimitsFit limits → (bytes : List ℕ) → written ≡ accepted bytes
      → read_systems_file limits bytes ≡ accepted (system_in_arrays limits h sizes coefficients)
  written_read fit bytes e =
      let ws = mapped_accepted bytes_of (write_systems limits (lent / word_bytes) _) e in
      let s = system_accepted limits (lent / word_bytes) h sizes coefficients ws.0 ws.1 in
      ap (read_systems_file limits) (sym (ap bytes_of s.1 ∙ ws.2)) ∙ file_read_of_written limits fit _ s.0

-- ---- by the number that the call gives: where it counts, its bytes are a file of the values

module _ (h : Head) (sizes coefficients : List ℕ) {entry exit : List ℕ} {r : ℕ}
    (gives : GivesPacked (write_systems_file office (length entry) (system_in_arrays office h sizes coefficients)) entry exit r)
    (counts : r % place_unit ≡ 0) where
  abbrev file : List ℕ
  file = take (r / place_unit) exit

  pub file_of_values : read_systems_file office file ≡ accepted (system_in_arrays office h sizes coefficients)
  file_of_values = written_read office (length entry) h sizes coefficients office_fits file
      (given_counted _ (numbers_wider 1 11 (omega arith) (omega arith) (write_numbers office (length entry) h sizes coefficients))
      gives counts)

  pub shape_of_values : file_shape office file ≡ accepted (head_number h)
  unfolding system_in_arrays
  shape_of_values = ap (λ o. mapped head_number (mapped systems_head o)) file_of_values

  -- and with any certificate's file
  pub system_of_values : (g : List ℕ) (v : Pair) → read_files office file g ≡ accepted v
      → v.system ≡ system_in_arrays office h sizes coefficients
  unfolding read_systems_file read_files
  system_of_values g v e =
      let s = (files_read office file g v e).system in
      let t = refuse_passed (broken file || too_long office file) 10 0 (read_systems office (words_of file)) file_of_values in
      let same = sym s ∙ t.1 in cc
