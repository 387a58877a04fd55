-- An equation as a linear combination of equations that hold: l ≡ r where l - r is the sum of u·(p - q) over hypotheses p ≡ q.
--   combination R l r (given u e ∷ given u' e' ∷ []) (identity R .. refl)
-- What is left to show is a ring identity, l + (u·q + ..) ≡ r + (u·p + ..), for `identity`.
use Rattle.std.specs.Prelude.{◌≡◌, refl, List, [], ◌∷◌}
use Rattle.std.proofs.Common.{◌∙◌, ap, ap₂}
use Rattle.ring.specs.Ring.{Ring, add_cancel}

-- an equation that holds, and its factor
pub record Given (A : Type 0) : Type 0 where
  pub factor : A
  pub left : A
  pub right : A
  pub holds : left ≡ right

abbrev pub given : {A : Type 0} {p q : A} → A → p ≡ q → Given A
given {A} {p} {q} u e = record { factor = u; left = p; right = q; holds = e }

module _ {A : Type 0} (R : Ring A) where
  open R use {add as ◌+◌, mul as ◌*◌, zero as 𝟘}

  infixl 65 ◌+◌
  infixl 70 ◌*◌
  abbrev pub lefts : List (Given A) → A
  lefts [] = 𝟘
  lefts (h ∷ hs) = h.factor * h.left + lefts hs

  abbrev pub rights : List (Given A) → A
  rights [] = 𝟘
  rights (h ∷ hs) = h.factor * h.right + rights hs

  sides : (hs : List (Given A)) → lefts hs ≡ rights hs
  sides [] = refl
  sides (h ∷ hs) = ap₂ (λ x y. h.factor * x + y) h.holds (sides hs)

  pub combination : (l r : A) (hs : List (Given A)) → l + rights hs ≡ r + lefts hs → l ≡ r
  combination l r hs e = add_cancel R l r (rights hs) (e ∙ ap (λ x. r + x) (sides hs))
