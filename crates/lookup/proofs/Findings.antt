-- What was found, for the two who tell of it: the part that is shown, or the refusal.
use mathlib.Core.Path.{◌≡◌, refl, sym, ap, ap₂, ◌∙◌}
use mathlib.Core.List.{List, []}
use Prim.Native.Nat.{ℕ, ◌+◌, ◌-◌, ◌*◌, ◌≤◌}
use native.Mathlib.Omega.{arith}
use lib.ListN.{length, take, drop}
use Rattle.words.specs.Limits.{Limits}
use Rattle.words.specs.Outcome.{Outcome}
use Rattle.words.specs.Outcome.Outcome.{accepted, refused}
use Rattle.words.specs.OutcomeLaws.{mapped_accepted, mapped_refused}
use Rattle.words.specs.Bytes.{word_bytes}
use Rattle.lookup.specs.Lookup.{Of, Part, on, polynomial_lookup, words_shown, place_shown, companion, bounds, bounds_shown}
use Rattle.lookup.specs.Lookup.{Address, word_address}
use Rattle.lookup.proofs.LookupLaws.{Shows, lookup_shown}

module _ (told : Outcome Part) where
  pub found_companion : (b : ℕ × ℕ) → accepted b ≡ bounds_shown told → accepted tt ≡ companion told
  found_companion b found = rw (mapped_accepted bounds told (sym found)).1 refl

  module _ (number place : ℕ) (found : refused number place ≡ bounds_shown told) where
    pub refused_companion : refused number place ≡ companion told
    refused_companion = rw (mapped_refused bounds told (sym found)) refl

    pub refused_empty : [] ≡ words_shown told
    refused_empty = rw (mapped_refused bounds told (sym found)) refl

    pub refused_place : place_shown told ≡ 0
    refused_place = rw (mapped_refused bounds told (sym found)) refl

-- the address of a part of the words at an address
pub part_address : {lent at : Address} {bytes : ℕ} (place : ℕ) → at ≡ lent → bytes ≡ at.1 + word_bytes * place
    → (at.0, bytes) ≡ word_address lent place
part_address place same is =
    ap₂ (λ block offset. (block, offset)) (ap (λ a. a.0) same) (omega (arith, ap (λ a. a.1) same, is))

-- in the words v, which are those that are asked for
module _ (limits : Limits) (ss cs : List ℕ) (of : Of) (k from to : ℕ)
    (found : accepted (from, to) ≡ bounds_shown (polynomial_lookup limits ss cs of k)) (v : List ℕ) (same : v ≡ on of ss cs) where
  told_part : (part : Part) × (polynomial_lookup limits ss cs of k ≡ accepted part) × (bounds part ≡ (from, to))
  told_part = mapped_accepted bounds (polynomial_lookup limits ss cs of k) (sym found)

  shows : Shows limits ss cs of k told_part.0
  shows = lookup_shown limits ss cs of k told_part.0 told_part.1

  starts : told_part.0.from ≡ from
  starts = ap (λ (b : ℕ × ℕ). b.0) told_part.2

  ends : told_part.0.from + length told_part.0.words ≡ to
  ends = ap (λ (b : ℕ × ℕ). b.1) told_part.2

  found_inside : (from ≤ to) × (to ≤ length v)
  found_inside = rw same (omega (arith, starts, ends), omega (arith, ends, shows.inside))

  found_shown : take (to - from) (drop from v) ≡ words_shown (polynomial_lookup limits ss cs of k)
  found_shown =
      let n : to - from ≡ length told_part.0.words = omega (arith, starts, ends) in
      ap (take (to - from)) (ap (drop from) same)
      ∙ ap (λ (i : ℕ). take i (drop from (on of ss cs))) n
      ∙ ap (λ (i : ℕ). take (length told_part.0.words) (drop i (on of ss cs))) (sym starts)
      ∙ sym shows.cut
      ∙ ap words_shown (sym told_part.1)

  pub found_place : place_shown (polynomial_lookup limits ss cs of k) ≡ from
  found_place = ap place_shown told_part.1 ∙ starts

  pub found_cut : (from ≤ to)
      × (to ≤ length v)
      × (take (to - from) (drop from v) ≡ words_shown (polynomial_lookup limits ss cs of k))
  found_cut = (found_inside.0, found_inside.1, found_shown)
