-- The invariants of `load_part` and `step_over`, and what they leave: the polynomials of the words in their slots.
use mathlib.Core.Path.{◌≡◌, refl, sym, ap, ◌∙◌, subst}
use mathlib.Core.Logic.{◌⊎◌, inl, inr}
use mathlib.Core.List.{List, [], ◌++◌}
use Prim.Native.Nat.{ℕ, zero, suc, ◌+◌, ◌-◌, ◌*◌, ◌≤◌, ◌<◌}
use native.Mathlib.Nat.{eq-or-lt_of_le, mul-le-mul_right, zero-mul, add-mul}
use native.Mathlib.Numerals.{add-one}
use native.Mathlib.Omega.{arith}
use native.Mathlib.Decide.{dec_lt}
use lib.ListN.{length, get_or, length-append, get_or-append}
use lib.Seq.{get_or-append-add}
use Rattle.words.specs.Word.{payload}
use Rattle.words.specs.Starts.{start_place, coefficients_at, first_entries, entries_from, HasEntries, start_first}
use Rattle.words.specs.Starts.{start_next, length_coefficients_at, get_or_coefficients_at, length_first_entries, get_or_first_entries}
use Rattle.words.specs.Starts.{length_entries_from, get_or_entries_from}
use Rattle.vector.specs.Stored.{stored, length_stored, stored_inside, stored_outside}
use Rattle.loader.specs.Slot.{slot, InSlots}
use Rattle.loader.specs.Loaded.{size_of, InSlot, PartLoaded}
use Rattle.loader.specs.SlotLaws.{slot_before, slot_is}

-- ---- places

module _ {limit : ℕ} {ws : List ℕ} {n : ℕ} (has : HasEntries limit n ws) where
  next : (k : ℕ) → k < n → start_place ws (k + 1) ≡ start_place ws k + 1 + size_of ws k
  next k lt = ap (start_place ws) (add-one k) ∙ start_next ws k (has.starts k lt)

  -- start words do not lie on one another, so there are no more of them than words
  place_past : (k : ℕ) → k ≤ n → k < start_place ws k
  place_past zero few = omega (arith, start_first ws)
  place_past (suc k) few =
      omega (arith, place_past k (omega arith), start_next ws k (has.starts k (omega arith)))

  pub few_entries : n ≤ length ws
  few_entries = by n refl
    where
      by : (m : ℕ) → m ≡ n → n ≤ length ws
      by zero e = omega arith
      by (suc k) e = omega (arith, place_past k (omega arith), has.inside k (omega arith))

  -- the word at a place that was reached, and the place behind its coefficients
  module _ {at k : ℕ} (reached : at ≡ start_place ws k) (more : k < n) where
    pub reached_room : at + 1 + payload (get_or ws at 0) ≤ length ws
    reached_room = rw reached (has.inside k more)

    pub reached_size : payload (get_or ws at 0) ≤ limit
    reached_size = rw reached (has.sizes k more)

    pub reached_next : (m : ℕ) → m ≡ payload (get_or ws at 0) + 1 → at + m ≡ start_place ws (k + 1)
    reached_next m all = omega (arith, ap (λ a. payload (get_or ws a 0)) reached, next k more)

-- ---- loading: i of the polynomials are loaded

pub record Loads (width : ℕ) (ws : List ℕ) (first from : ℕ) (before area : List ℕ) (place i : ℕ) : Type 0 where
  pub reached : place ≡ start_place ws (from + i)
  pub so_far : PartLoaded width ws first from (from + i) before area

module _ {width : ℕ} {ws : List ℕ} {first from to : ℕ} {before area : List ℕ} {place i : ℕ} (has : HasEntries (width - 1) to ws)
    (some : 0 < width) (room : (first + (to - from)) * width ≤ length before)
    (L : Loads width ws first from before area place i) (more : i < to - from) where
  -- the next slot lies in the area
  slot_room : (first + i) * width + width ≤ length before
  slot_room = let lt : first + i < first + (to - from) = omega arith in omega (arith, slot_before width lt)

  turn_fits : (first + i) * width + (1 + payload (get_or ws place 0)) ≤ length area
  turn_fits = omega (arith, slot_room, reached_size has L.reached (omega arith), L.so_far.same_length)

  module _ (after : List ℕ) (n : ℕ) (all : n ≡ payload (get_or ws place 0) + 1)
      (stores : after ≡ stored (λ j. payload (get_or ws (place + j) 0)) area ((first + i) * width) n) where
    -- what stands before the slot stays
    stays : (e : ℕ) → e < (first + i) * width → get_or after e 0 ≡ get_or area e 0
    stays e lt = ap (λ l. get_or l e 0) stores ∙ stored_outside _ area ((first + i) * width) n e (inl lt)

    new : InSlot width ws after (first + i) (from + i)
    new e few =
        let same = ap (λ a. payload (get_or ws a 0)) L.reached in
        ap (λ l. get_or l ((first + i) * width + e) 0) stores
        ∙ stored_inside _ area ((first + i) * width) n e (omega (arith, turn_fits)) (omega arith)
        ∙ ap (λ a. payload (get_or ws (a + e) 0)) L.reached

    either : (j : ℕ) → (j ≡ i) ⊎ (j < i) → InSlot width ws after (first + j) (from + j)
    either j (inl e) = rw e new
    either j (inr lt) =
        let before_i : first + j < first + i = omega arith in
        let size = has.sizes (from + j) (omega arith) in
        λ e few. stays ((first + j) * width + e) (omega (arith, slot_before width before_i)) ∙ L.so_far.filled j (omega arith) e few

    pub loads_turn : Loads width ws first from before after (place + n) (i + 1)
    loads_turn =
        let next : from + i + 1 ≡ from + (i + 1) = omega arith in
        record {
          reached = reached_next has L.reached (omega arith) n all ∙ ap (start_place ws) next;
          so_far = record {
            same_length = ap length stores ∙ length_stored _ area ((first + i) * width) n ∙ L.so_far.same_length;
            filled = λ j lt. either j (eq-or-lt_of_le (omega arith));
            kept = λ e lt.
                let from_first : first ≤ first + i = omega arith in
                stays e (omega (arith, mul-le-mul_right width from_first)) ∙ L.so_far.kept e lt;
          };
        }

-- ---- what is loaded stands in its slots

-- a slot as `InSlots` has it
abbrev Stands : (width : ℕ) (area : List ℕ) (j : ℕ) (f : List ℕ) → Type 0
Stands width area j f = (get_or area (j * width) 0 ≡ length f) × (slot width area j ≡ f)

in_slots : (width : ℕ) (area : List ℕ) (fs : List (List ℕ)) → ((j : ℕ) → j < length fs → Stands width area j (get_or fs j []))
    → InSlots width area fs
in_slots width area fs each = record { sizes = λ j lt. (each j lt).0; slots = λ j lt. (each j lt).1 }

module _ {width : ℕ} {ws : List ℕ} {n : ℕ} (has : HasEntries (width - 1) n ws) (some : 0 < width) (area : List ℕ) where
  module _ (j k : ℕ) (lt : k < n) (room : j * width + width ≤ length area) (in_slot : InSlot width ws area j k) where
    abbrev f : List ℕ
    f = coefficients_at ws (start_place ws k)

    size : length f ≡ size_of ws k
    size = length_coefficients_at ws (start_place ws k) (has.inside k lt)

    first_word : get_or area (j * width) 0 ≡ length f
    first_word =
        let e : j * width + 0 ≡ j * width = omega arith in
        let e' : start_place ws k + 0 ≡ start_place ws k = omega arith in
        ap (λ i. get_or area i 0) (sym e) ∙ in_slot 0 (omega arith) ∙ ap (λ i. payload (get_or ws i 0)) e' ∙ sym size

    other_word : (i : ℕ) → i < length f → get_or area (j * width + 1 + i) 0 ≡ get_or f i 0
    other_word i few =
        let s = size in
        let e : j * width + 1 + i ≡ j * width + (1 + i) = omega arith in
        let e' : start_place ws k + (1 + i) ≡ start_place ws k + 1 + i = omega arith in
        ap (λ x. get_or area x 0) e
        ∙ in_slot (1 + i) (omega arith)
        ∙ ap (λ x. payload (get_or ws x 0)) e'
        ∙ sym (get_or_coefficients_at ws (start_place ws k) (has.inside k lt) i (omega arith))

    slot_stands : (g : List ℕ) → g ≡ f → Stands width area j g
    slot_stands g e =
        let s = size in
        let few = has.sizes k lt in
        rw e (first_word, slot_is width area j f (omega arith) first_word other_word)

  -- the first so many
  first_stand : (before : List ℕ) (count : ℕ) → count ≤ n → count * width ≤ length area → PartLoaded width ws 0 0 count before area
      → (j : ℕ) → j < count → Stands width area j (get_or (first_entries ws count) j [])
  first_stand before count few room L j lt =
      let e : 0 + j ≡ j = omega arith in
      slot_stands j j (omega arith) (omega (arith, slot_before width lt))
      (subst (λ (i : ℕ). InSlot width ws area i i) e (L.filled j (omega arith))) _ (get_or_first_entries ws count j lt)

  pub load_stands : (before : List ℕ) → n * width ≤ length area → PartLoaded width ws 0 0 n before area
      → InSlots width area (first_entries ws n)
  load_stands before room L = in_slots width area (first_entries ws n)
      (λ j lt. first_stand before n (omega arith) room L j (omega (arith, length_first_entries ws n)))

  -- so many, and so many others behind them
  module _ (before mid : List ℕ) (count from more : ℕ) (few : count ≤ n) (all : from + more ≤ n)
      (room : (count + more) * width ≤ length area) (L : PartLoaded width ws 0 0 count before mid)
      (M : PartLoaded width ws count from (from + more) mid area) where
    first_kept : PartLoaded width ws 0 0 count before area
    first_kept = record {
      same_length = M.same_length ∙ L.same_length;
      filled = λ i lt e small.
          let at : 0 + i < count = omega arith in
          let size = has.sizes (0 + i) (omega arith) in
          M.kept ((0 + i) * width + e) (omega (arith, slot_before width at)) ∙ L.filled i lt e small;
      kept = λ i lt. M.kept i (omega (arith, zero-mul width)) ∙ L.kept i lt;
    }

    which : (j : ℕ) → j < count + more → Dec (j < count)
        → Stands width area j (get_or (first_entries ws count ++ entries_from ws from more) j [])
    which j lt (yes less) =
        let n₁ = length_first_entries ws count in
        subst (Stands width area j)
        (sym (get_or-append (first_entries ws count) (entries_from ws from more) [] j (omega arith)))
        (first_stand before count few (omega (arith, add-mul count more width)) first_kept j less)
    which j lt (no past) =
        let i : ℕ = j - count in
        let e : count + (j - count) ≡ j = omega arith in
        let e' : length (first_entries ws count) + (j - count) ≡ j = omega (arith, length_first_entries ws count) in
        slot_stands j (from + i) (omega arith) (omega (arith, slot_before width lt))
        (subst (λ (x : ℕ). InSlot width ws area x (from + i)) e (M.filled i (omega arith))) _
        (ap (λ (x : ℕ). get_or (first_entries ws count ++ entries_from ws from more) x []) (sym e')
        ∙ get_or-append-add (first_entries ws count) (entries_from ws from more) i []
        ∙ get_or_entries_from ws from more i (omega arith))

    pub both_stand : InSlots width area (first_entries ws count ++ entries_from ws from more)
    both_stand = in_slots width area (first_entries ws count ++ entries_from ws from more) (λ j lt.
        which j
        (omega (
          arith,
          length-append (first_entries ws count) (entries_from ws from more),
          length_first_entries ws count,
          length_entries_from ws from more,
        ))
        (dec_lt j count))
