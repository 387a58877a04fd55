-- A turn of the loop that stores polynomials: those before k are stored, and start word k is at the place `at`.
use mathlib.Core.Path.{◌≡◌, refl, sym, ap, ap₂, ◌∙◌}
use mathlib.Core.List.{List, [], ◌∷◌, ◌++◌, map, map-append}
use Prim.Native.Nat.{ℕ, ◌+◌, ◌*◌, ◌≤◌, ◌<◌}
use native.Mathlib.Nat.{le_trans, mul-le-mul_left}
use native.Mathlib.Numerals.{add-one}
use native.Mathlib.Omega.{arith}
use lib.ListN.{length, get_or, take, drop, set, length-map}
use Rattle.words.specs.Word.{payload}
use Rattle.words.specs.Starts.{start_place, coefficients_at, first_entries, HasEntries, start_first, start_next}
use Rattle.words.specs.Starts.{length_coefficients_at, get_or_coefficients_at, length_first_entries, sizes_first_entries}
use Rattle.vector.specs.Stored.{stored}
use Rattle.loader.specs.StoredLaws.{stored_list}
use Rattle.write_frame.specs.Overwriting.{overwritten}
use Rattle.write_frame.proofs.Overwriting.{set_written}
use Rattle.values.specs.Laid.{sizes_over, laid_over}
use Rattle.values.specs.LaidLaws.{Few, laid_next, length_sizes, length_laid}

-- ---- the loop

pub record Loads (ws sizes₀ values₀ : List ℕ) (stride count : ℕ) (sizes values : List ℕ) (at k : ℕ) : Type 0 where
  pub within : k ≤ count
  pub place : at ≡ start_place ws k
  pub sizes_are : sizes ≡ sizes_over (first_entries ws k) sizes₀
  pub values_are : values ≡ laid_over stride (first_entries ws k) values₀

-- polynomial k in the loop: its words are there, and there is room for its size and its coefficients
pub record Turn (ws sizes₀ values₀ sizes values : List ℕ) (stride at k : ℕ) : Type 0 where
  pub same_sizes : length sizes ≡ length sizes₀
  pub same_values : length values ≡ length values₀
  pub sized : k < length sizes
  pub roomy : stride * k + stride ≤ length values
  pub inside : at + 1 + payload (get_or ws at 0) ≤ length ws
  pub short : payload (get_or ws at 0) ≤ stride

pub loads_start : (ws sizes values : List ℕ) (stride count : ℕ) → Loads ws sizes values stride count sizes values 1 0
unfolding sizes_over laid_over first_entries
loads_start ws sizes values stride count =
    record { within = omega arith; place = sym (start_first ws); sizes_are = refl; values_are = refl }

module _ {ws sizes₀ values₀ : List ℕ} {stride limit count : ℕ} (has : HasEntries limit count ws) (apart : limit ≤ stride)
    (sized : count ≤ length sizes₀) (roomy : stride * count ≤ length values₀) {sizes values : List ℕ} {at k : ℕ}
    (so_far : Loads ws sizes₀ values₀ stride count sizes values at k) where
  abbrev before : List (List ℕ)
  before = first_entries ws k

  few : Few stride (first_entries ws k)
  few j = le_trans (sizes_first_entries ws has k so_far.within j) apart

  all : length (first_entries ws k) ≡ k
  all = length_first_entries ws k

  pub same_sizes : length sizes ≡ length sizes₀
  same_sizes = ap length so_far.sizes_are ∙ length_sizes before sizes₀ (omega (arith, all, so_far.within))

  pub same_values : length values ≡ length values₀
  same_values = ap length so_far.values_are ∙ length_laid stride before values₀ few
      (omega (arith, ap (λ n. stride * n) all, mul-le-mul_left stride so_far.within))

  module _ (more : k < count) where
    abbrev next : List ℕ
    next = coefficients_at ws (start_place ws k)

    size_is : payload (get_or ws at 0) ≡ payload (get_or ws (start_place ws k) 0)
    size_is = ap (λ a. payload (get_or ws a 0)) so_far.place

    pub turn : Turn ws sizes₀ values₀ sizes values stride at k
    turn =
        let n : k + 1 ≤ count = omega arith in
        record {
          same_sizes = same_sizes;
          same_values = same_values;
          sized = omega (arith, same_sizes);
          roomy = omega (arith, same_values, mul-le-mul_left stride n);
          inside = rw so_far.place (has.inside k more);
          short = omega (arith, size_is, has.sizes k more);
        }

    length_next : length (coefficients_at ws (start_place ws k)) ≡ payload (get_or ws (start_place ws k) 0)
    length_next = length_coefficients_at ws (start_place ws k) (has.inside k more)

    one_more : before ++ next ∷ [] ≡ first_entries ws (k + 1)
    unfolding first_entries
    one_more = ap (first_entries ws) (sym (add-one k))

    module _ (size : ℕ) (is : size ≡ payload (get_or ws at 0)) where
      sizes_next : set sizes k size ≡ sizes_over (first_entries ws (k + 1)) sizes₀
      unfolding sizes_over
      sizes_next =
          let vs = map length before in
          let long : length vs ≡ k = length-map before length ∙ all in
          set_written vs sizes₀ sizes k size so_far.sizes_are (sym long) (omega arith)
          ∙ ap (λ (l : List ℕ). overwritten l sizes₀)
          (ap (λ (n : ℕ). vs ++ n ∷ []) (is ∙ size_is ∙ sym length_next) ∙ sym (map-append length before (next ∷ []))
          ∙ ap (map length) one_more)

      module _ (after : List ℕ) (stores : after ≡ stored (λ j. payload (get_or ws (at + 1 + j) 0)) values (stride * k) size) where
        values_next : after ≡ laid_over stride (first_entries ws (k + 1)) values₀
        values_next =
            let t = turn in
            let n : size ≡ length next = is ∙ size_is ∙ sym length_next in
            let short = t.short in
            let roomy = t.roomy in
            let each : (j : ℕ) → j < length next → payload (get_or ws (at + 1 + j) 0) ≡ get_or next j 0 = λ j lt.
            ap (λ a. payload (get_or ws (a + 1 + j) 0)) so_far.place
            ∙ sym (get_or_coefficients_at ws (start_place ws k) (has.inside k more) j (omega (arith, length_next))) in
            stores
            ∙ ap (stored (λ j. payload (get_or ws (at + 1 + j) 0)) values (stride * k)) n
            ∙ stored_list (λ j. payload (get_or ws (at + 1 + j) 0)) values (stride * k) next each (omega arith)
            ∙ ap₂ (λ (n : ℕ) (v : List ℕ). take (stride * n) v ++ overwritten next (drop (stride * n) v)) (sym all)
            so_far.values_are
            ∙ laid_next stride before next values₀ few (omega arith) (omega (arith, same_values, ap (λ n. stride * n) all))
            ∙ ap (λ (gs : List (List ℕ)). laid_over stride gs values₀) one_more

        -- a turn stores the size and the coefficients of polynomial k
        pub loads_turn : Loads ws sizes₀ values₀ stride count (set sizes k size) after (at + (1 + size)) (k + 1)
        loads_turn = record {
          within = omega arith;
          place =
              omega (
                arith,
                so_far.place,
                size_is,
                start_next ws k (has.starts k more),
                ap (start_place ws) (add-one k),
              );
          sizes_are = sizes_next;
          values_are = values_next;
        }
