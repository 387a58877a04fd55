-- The polynomials that stand in words behind a head, by the words alone: "Kind 2, start of a polynomial: the number of its
-- coefficients", and so where the next start word stands. Of words that were read these are the polynomials of what was read
-- (`FramedLaws`).
use Rattle.std.specs.Prelude.{◌≡◌, Bool, true, false, length, take, drop, eqb}
use Rattle.std.proofs.Math.Path.{refl, ap}
use Rattle.std.proofs.Common.{sym, ◌∙◌, length-take-le, get_or-take, ext_get_or, eq-eqb, eqb-true}
use mathlib.Core.List.{List, [], ◌∷◌, ◌++◌, map}
use Prim.Native.Nat.{ℕ, zero, suc, ◌+◌, ◌*◌, ◌≤◌, ◌<◌}
use native.Mathlib.Omega.{arith}
use Rattle.std.proofs.Math.Decide.{dec_lt}
use Rattle.std.proofs.Math.ListN.{get_or, length-append, length-drop, length-map, get_or-append, get_or-map, get_or-eq_default}
use Rattle.std.proofs.Math.Seq.{get_or_at, get_or-drop, take-add, drop_at}
use Rattle.words.specs.Word.{kind, payload}

-- behind a start word and its coefficients; a word of another kind has nothing behind it
abbrev pub behind : Bool → (at size : ℕ) → ℕ
behind true at size = at + 1 + size
behind false at size = at

-- the place of start word k; behind the last of them, of the word that is none
unfoldable pub start_place : List ℕ → ℕ → ℕ
start_place ws zero = 1
start_place ws (suc k) =
    behind (eqb (kind (get_or ws (start_place ws k) 0)) 2) (start_place ws k) (payload (get_or ws (start_place ws k) 0))

-- the coefficients behind the start word at a place
unfoldable pub coefficients_at : List ℕ → ℕ → List ℕ
coefficients_at ws at = map payload (take (payload (get_or ws at 0)) (drop (at + 1) ws))

-- the first so many polynomials
unfoldable pub first_entries : List ℕ → ℕ → List (List ℕ)
first_entries ws zero = []
first_entries ws (suc k) = first_entries ws k ++ coefficients_at ws (start_place ws k) ∷ []

-- so many behind the first `from`
unfoldable pub entries_from : List ℕ → (from count : ℕ) → List (List ℕ)
unfolding first_entries
entries_from ws from count = drop from (first_entries ws (from + count))

-- those of a matrix, and those of right side k: the right sides "stand one after another behind A"
abbrev pub line_entries : List ℕ → (rows columns k : ℕ) → List (List ℕ)
line_entries ws rows columns k = first_entries ws (rows * columns) ++ entries_from ws (rows * columns + k * rows) rows

-- so many polynomials stand there, each of at most so many coefficients
pub record HasEntries (limit count : ℕ) (ws : List ℕ) : Type 0 where
  pub starts : (k : ℕ) → k < count → kind (get_or ws (start_place ws k) 0) ≡ 2
  pub sizes : (k : ℕ) → k < count → payload (get_or ws (start_place ws k) 0) ≤ limit
  pub inside : (k : ℕ) → k < count → start_place ws k + 1 + payload (get_or ws (start_place ws k) 0) ≤ length ws

-- ---- places

behind_none : (b : Bool) (at size : ℕ) → (b ≡ true → ⊥) → behind b at size ≡ at
behind_none true at size none = absurd (none refl)
behind_none false at size none = refl

module _ (ws : List ℕ) where
  pub start_first : start_place ws 0 ≡ 1
  unfolding start_place
  start_first = refl

  module _ (k : ℕ) where
    pub start_next : kind (get_or ws (start_place ws k) 0) ≡ 2
        → start_place ws (suc k) ≡ start_place ws k + 1 + payload (get_or ws (start_place ws k) 0)
    unfolding start_place
    start_next two = rw (eq-eqb (kind (get_or ws (start_place ws k) 0)) 2 two) refl

    pub start_stays : (kind (get_or ws (start_place ws k) 0) ≡ 2 → ⊥) → start_place ws (suc k) ≡ start_place ws k
    unfolding start_place
    start_stays none = behind_none (eqb (kind (get_or ws (start_place ws k) 0)) 2) _ _ (λ e. none (eqb-true _ 2 e))

  -- ---- the coefficients behind a start word

  module _ (at : ℕ) (inside : at + 1 + payload (get_or ws at 0) ≤ length ws) where
    coefficient_words : length (take (payload (get_or ws at 0)) (drop (at + 1) ws)) ≡ payload (get_or ws at 0)
    coefficient_words = length-take-le (payload (get_or ws at 0)) (drop (at + 1) ws) (omega (arith, length-drop (at + 1) ws))

    pub length_coefficients_at : length (coefficients_at ws at) ≡ payload (get_or ws at 0)
    unfolding coefficients_at
    length_coefficients_at = length-map (take (payload (get_or ws at 0)) (drop (at + 1) ws)) payload ∙ coefficient_words

    pub get_or_coefficients_at : (i : ℕ) → i < payload (get_or ws at 0)
        → get_or (coefficients_at ws at) i 0 ≡ payload (get_or ws (at + 1 + i) 0)
    unfolding coefficients_at
    get_or_coefficients_at i lt =
        get_or-map payload (take (payload (get_or ws at 0)) (drop (at + 1) ws)) i 0
        ∙ ap payload (get_or-take (payload (get_or ws at 0)) (drop (at + 1) ws) i 0 lt ∙ get_or-drop (at + 1) ws i 0)

  -- ---- the first so many

  pub length_first_entries : (n : ℕ) → length (first_entries ws n) ≡ n
  unfolding first_entries
  length_first_entries zero = refl
  length_first_entries (suc n) =
      omega (arith, length-append (first_entries ws n) (coefficients_at ws (start_place ws n) ∷ []), length_first_entries n)

  pub get_or_first_entries : (n k : ℕ) → k < n → get_or (first_entries ws n) k [] ≡ coefficients_at ws (start_place ws k)
  unfolding first_entries
  get_or_first_entries zero k lt = absurd (omega arith)
  get_or_first_entries (suc n) k lt = either (dec_lt k n) (λ less. get_or_first_entries n k less)
    where
      either : Dec (k < n) → (k < n → get_or (first_entries ws n) k [] ≡ coefficients_at ws (start_place ws k))
          → get_or (first_entries ws (suc n)) k [] ≡ coefficients_at ws (start_place ws k)
      either (yes less) before =
          get_or-append (first_entries ws n) (coefficients_at ws (start_place ws n) ∷ []) [] k
          (omega (arith, length_first_entries n))
          ∙ before less
      either (no past) before =
          let e : n ≡ k = omega arith in
          get_or_at (first_entries ws n) (coefficients_at ws (start_place ws n)) [] [] k (length_first_entries n ∙ e)
          ∙ ap (λ i. coefficients_at ws (start_place ws i)) e

  -- each within the limit
  pub sizes_first_entries : {limit n : ℕ} → HasEntries limit n ws → (k : ℕ) → k ≤ n → (j : ℕ)
      → length (get_or (first_entries ws k) j []) ≤ limit
  sizes_first_entries {limit} {n} h k within j = either (dec_lt j k)
    where
      either : Dec (j < k) → length (get_or (first_entries ws k) j []) ≤ limit
      either (yes lt) =
          omega (
            arith,
            ap length (get_or_first_entries k j lt),
            length_coefficients_at (start_place ws j) (h.inside j (omega arith)),
            h.sizes j (omega arith),
          )
      either (no past) =
          omega (arith, ap length (get_or-eq_default (first_entries ws k) [] {n = j} (omega (arith, length_first_entries k))))

  -- ---- those behind

  module _ (from count : ℕ) where
    pub length_entries_from : length (entries_from ws from count) ≡ count
    unfolding entries_from
    length_entries_from =
        omega (arith, length-drop from (first_entries ws (from + count)), length_first_entries (from + count))

    pub get_or_entries_from : (k : ℕ) → k < count
        → get_or (entries_from ws from count) k [] ≡ coefficients_at ws (start_place ws (from + k))
    unfolding entries_from
    get_or_entries_from k lt =
        get_or-drop from (first_entries ws (from + count)) k [] ∙ get_or_first_entries (from + count) (from + k) (omega arith)

  -- they are parts of all
  pub first_entries_part : (count all : ℕ) → count ≤ all → first_entries ws count ≡ take count (first_entries ws all)
  first_entries_part count all few =
      let n = length_first_entries count in
      ext_get_or [] (first_entries ws count) (take count (first_entries ws all))
      (n ∙ sym (length-take-le count (first_entries ws all) (omega (arith, length_first_entries all))))
      (λ k lt.
      get_or_first_entries count k (omega arith)
      ∙ sym (get_or-take count (first_entries ws all) k [] (omega arith) ∙ get_or_first_entries all k (omega arith)))

  pub entries_from_part : (from count all : ℕ) → from + count ≤ all
      → entries_from ws from count ≡ take count (drop from (first_entries ws all))
  unfolding entries_from
  entries_from_part from count all few =
      let fs = first_entries ws all in
      ap (drop from) (first_entries_part (from + count) all few ∙ take-add from count fs)
      ∙ drop_at (take from fs) (take count (drop from fs)) from
      (length-take-le from fs (omega (arith, length_first_entries all)))

  -- where so many stand, fewer do
  pub has_fewer : {limit n : ℕ} → HasEntries limit n ws → (m : ℕ) → m ≤ n → HasEntries limit m ws
  has_fewer h m few = record {
    starts = λ k lt. h.starts k (omega arith);
    sizes = λ k lt. h.sizes k (omega arith);
    inside = λ k lt. h.inside k (omega arith);
  }
