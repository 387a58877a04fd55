-- Several polynomials within a limit: joined, split, and one of them.
use Rattle.std.specs.Prelude.{◌≡◌, get_or, take, drop}
use Rattle.std.proofs.Math.Path.{ap}
use Rattle.std.proofs.Common.{◌∙◌, length-append, length-drop, length-take-le}
use mathlib.Core.List.{List, [], ◌∷◌, ◌++◌}
use Prim.Native.Nat.{ℕ, zero, suc, ◌+◌}
use native.Mathlib.Omega.{arith}
use Rattle.modular.specs.Canonical.{Canonical}
use Rattle.words.specs.Polynomial.{Within, AllWithin, VectorWithin}

module _ (p limit : ℕ) where
  all_append : (fs gs : List (List ℕ)) → AllWithin p limit fs → AllWithin p limit gs → AllWithin p limit (fs ++ gs)
  unfolding AllWithin
  all_append [] gs h k = k
  all_append (f ∷ fs) gs h k = (h.0, all_append fs gs h.1 k)

  all_take : (n : ℕ) (fs : List (List ℕ)) → AllWithin p limit fs → AllWithin p limit (take n fs)
  unfolding AllWithin
  all_take zero fs h = tt
  all_take (suc n) [] h = tt
  all_take (suc n) (f ∷ fs) h = (h.0, all_take n fs h.1)

  all_drop : (n : ℕ) (fs : List (List ℕ)) → AllWithin p limit fs → AllWithin p limit (drop n fs)
  unfolding AllWithin
  all_drop zero fs h = h
  all_drop (suc n) [] h = tt
  all_drop (suc n) (f ∷ fs) h = all_drop n fs h.1

  pub zero_within : Within p limit []
  unfolding Canonical
  zero_within = record { canonical = tt; size = omega arith }

  -- past the end there is the zero polynomial
  pub all_at : (fs : List (List ℕ)) → AllWithin p limit fs → (i : ℕ) → Within p limit (get_or fs i [])
  unfolding AllWithin
  all_at [] h i = zero_within
  all_at (f ∷ fs) h zero = h.0
  all_at (f ∷ fs) h (suc i) = all_at fs h.1 i

  pub vector_count : {m n : ℕ} {fs : List (List ℕ)} → m ≡ n → VectorWithin p limit m fs → VectorWithin p limit n fs
  vector_count e h = record { entries = h.entries; count = h.count ∙ e }

  pub vector_cons : {n : ℕ} {f : List ℕ} {fs : List (List ℕ)} → Within p limit f → VectorWithin p limit n fs
      → VectorWithin p limit (suc n) (f ∷ fs)
  unfolding AllWithin
  vector_cons h k = record { entries = (h, k.entries); count = ap suc k.count }

  pub vector_append : {m n : ℕ} {fs gs : List (List ℕ)} → VectorWithin p limit m fs → VectorWithin p limit n gs
      → VectorWithin p limit (m + n) (fs ++ gs)
  vector_append {m} {n} {fs} {gs} h k =
      record {
        entries = all_append fs gs h.entries k.entries;
        count = omega (arith, length-append fs gs, h.count, k.count);
      }

  pub vector_take : (m n : ℕ) (fs : List (List ℕ)) → VectorWithin p limit (m + n) fs → VectorWithin p limit m (take m fs)
  vector_take m n fs h = record { entries = all_take m fs h.entries; count = length-take-le m fs (omega (arith, h.count)) }

  pub vector_drop : (m n : ℕ) (fs : List (List ℕ)) → VectorWithin p limit (m + n) fs → VectorWithin p limit n (drop m fs)
  vector_drop m n fs h = record { entries = all_drop m fs h.entries; count = omega (arith, length-drop m fs, h.count) }
