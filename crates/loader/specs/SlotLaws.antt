-- Slots by their words.
use Rattle.std.specs.Prelude.{◌≡◌, List, [], ◌++◌, ℕ, ◌+◌, ◌*◌, ◌≤◌, ◌<◌, length, get_or, drop}
use Rattle.std.proofs.Common.{sym, ap, ◌∙◌, subst, mul-le-mul_right, suc-mul, mod-eq_of_lt, arith, take_all}
use Rattle.std.proofs.Math.ListN.{length-drop}
use Rattle.std.proofs.Math.Seq.{length-take-le, get_or-take, get_or-drop, ext_get_or}
use Rattle.modular.specs.Canonical.{Canonical}
use Rattle.modular.specs.Coefficientwise.{coefficient_get_or, coefficient_below}
use Rattle.words.specs.System.{System}
use Rattle.words.specs.Starts.{first_entries, line_entries}
use Rattle.words.proofs.FramedLaws.{EntriesRead, LineEntriesRead}
use Rattle.vector.specs.Reduced.{reduced, polynomial, reduced_is}
use Rattle.loader.specs.Slot.{slot, InSlots, SlotFilled}

-- a slot before another ends where that begins, or earlier
pub slot_before : (width : ℕ) {j k : ℕ} → j < k → j * width + width ≤ k * width
slot_before width {j} {k} lt = omega (arith, mul-le-mul_right width lt, suc-mul j width)

module _ (width : ℕ) (area : List ℕ) (k : ℕ) where
  pub length_slot : k * width + 1 + get_or area (k * width) 0 ≤ length area → length (slot width area k) ≡ get_or area (k * width) 0
  unfolding slot
  length_slot room =
      length-take-le (get_or area (k * width) 0) (drop (k * width + 1) area) (omega (arith, length-drop (k * width + 1) area))

  -- the words of a polynomial in its slot
  pub slot_is : (f : List ℕ) → k * width + 1 + length f ≤ length area → get_or area (k * width) 0 ≡ length f
      → ((i : ℕ) → i < length f → get_or area (k * width + 1 + i) 0 ≡ get_or f i 0) → slot width area k ≡ f
  unfolding slot
  slot_is f room size words =
      let all = length_slot (omega arith) ∙ size in
      ext_get_or
      0
      (slot width area k)
      f
      all
      (λ i lt.
      get_or-take (get_or area (k * width) 0) (drop (k * width + 1) area) i 0 (omega (arith, all))
      ∙ get_or-drop (k * width + 1) area i 0
      ∙ words i (omega (arith, all)))

-- ---- a polynomial's own coefficients as words

module _ (p : ℕ) (positive : 0 < p) (f : List ℕ) (canonical : Canonical p f) where
  pub canonical_word : (i : ℕ) → get_or f i 0 < p
  canonical_word i = subst (λ (x : ℕ). x < p) (coefficient_get_or p f i) (coefficient_below p positive f i canonical)

  -- they stand for it
  pub canonical_polynomial : polynomial p f 0 (length f) ≡ f
  canonical_polynomial =
      ap (reduced p) (take_all (length f) f (omega arith))
      ∙ reduced_is p positive f f canonical (λ i. mod-eq_of_lt (canonical_word i) ∙ sym (coefficient_get_or p f i))

-- ---- filled slots

pub filled_size : {p width : ℕ} {area : List ℕ} {k : ℕ} → SlotFilled p width area k → length (slot width area k) < width
filled_size {p} {width} {area} {k} filled =
    let size = filled.size in
    omega (arith, length_slot width area k (omega (arith, filled.room)))

-- the coefficients that were taken out of one
module _ {p width : ℕ} {area : List ℕ} {k : ℕ} {f : List ℕ} (is : f ≡ slot width area k) (filled : SlotFilled p width area k) where
  pub taken_canonical : Canonical p f
  taken_canonical = rw is filled.canonical

  pub taken_size : length f < width
  taken_size = rw is (filled_size filled)

-- what `load` leaves: the polynomials of what was read
pub read_stands : {limit count width : ℕ} {ws area : List ℕ} {fs : List (List ℕ)} → EntriesRead limit count ws fs
    → InSlots width area (first_entries ws count) → InSlots width area fs
read_stands {width = width} {area = area} r = subst (InSlots width area) r.same

-- what `load_line` leaves: those of the line that was read
pub line_stands : {limit k width : ℕ} {ws area : List ℕ} {s : System} → LineEntriesRead limit k ws s
    → InSlots width area (line_entries ws s.rows s.columns k) → InSlots width area (s.matrix ++ s.side)
line_stands {width = width} {area = area} r = subst (InSlots width area) r.same

-- they fill their slots
pub stands_filled : {p width : ℕ} {area : List ℕ} {fs : List (List ℕ)} → InSlots width area fs → (k : ℕ) → k < length fs
    → length fs * width ≤ length area
    → length (get_or fs k []) < width → Canonical p (get_or fs k []) → SlotFilled p width area k
stands_filled {p} {width} stands k lt room small canonical = record {
  room = omega (arith, slot_before width lt);
  size = omega (arith, stands.sizes k lt);
  canonical = subst (Canonical p) (sym (stands.slots k lt)) canonical;
}
