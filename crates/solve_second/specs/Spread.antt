-- What words put into one lane of a flat block do, place by place.
use Rattle.std.specs.Prelude.{ℕ, ◌+◌, ◌*◌, ◌<◌, ◌≡◌, List, length, get_or}
use Rattle.std.proofs.Common.{◌∙◌, ap, subst}
use Rattle.solve_lattice.specs.LaneStored.{lane, length_lane, lane_inside, lane_outside}
use Rattle.solve_lattice.specs.Room.{lanes}

-- w with f 0 .. f (count - 1) put from the place `to` on
pub record Spread (f : ℕ → ℕ) (to count : ℕ) (w w' : List ℕ) : Type 0 where
  pub same_length : length w' ≡ length w
  pub inside : (e : ℕ) → e < count → get_or w' (to + lanes * e) 0 ≡ f e
  pub outside : (x : ℕ) → ((e : ℕ) → e < count → ¬ (x ≡ to + lanes * e)) → get_or w' x 0 ≡ get_or w x 0

pub lane_spread : {f : ℕ → ℕ} {to count : ℕ} {w w' : List ℕ} → to + lanes * count < length w + lanes → w' ≡ lane f w to count
    → Spread f to count w w'
lane_spread {f} {to} {count} {w} room stores = record {
  same_length = ap length stores ∙ length_lane f w to count;
  inside = λ e lt. ap (λ l. get_or l (to + lanes * e) 0) stores ∙ lane_inside f w to count e room lt;
  outside = λ x out. ap (λ l. get_or l x 0) stores ∙ lane_outside f w to count x out;
}

module _ {f : ℕ → ℕ} {to count : ℕ} {w w' : List ℕ} (so_far : Spread f to count w w') where
  -- the same words, and the same place, by other names
  pub spread_same : (g : ℕ → ℕ) → ((e : ℕ) → e < count → f e ≡ g e) → {to' count' : ℕ} → to ≡ to' → count ≡ count'
      → Spread g to' count' w w'
  spread_same g same {to'} {count'} et ec = subst (λ t. Spread g t count' w w') et (subst (λ m. Spread g to m w w') ec (record {
    same_length = so_far.same_length;
    inside = λ e lt. so_far.inside e lt ∙ same e lt;
    outside = so_far.outside;
  }))
