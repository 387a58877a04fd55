-- The trials of the number of right sides, and of p, n and m: each is made first, whatever comes next; and it refuses nothing
-- exactly where they keep the limits.
use Rattle.std.specs.Prelude.{◌≡◌, refl, Bool, not, ◌&&◌, ◌||◌, ℕ, ltb}
use Rattle.std.proofs.Common.{le-ltb, ltb-false}
use Rattle.std.proofs.lemmas.Bool.{not-false}
use Rattle.modular.specs.LargestPrime.{largest_modulus}
use Rattle.modular.specs.Prime.{prime?}
use Rattle.modular.specs.Primality.{prime_of_true, true_of_prime}
use Rattle.words.specs.Limits.{Limits}
use Rattle.words.specs.Outcome.{Outcome, refuse}
use Rattle.words.specs.Outcome.Outcome.{accepted}
use Rattle.words.specs.OutcomeLaws.{refuse_passed}
use Rattle.words.specs.System.{Shape, ShapeWithin, one_to}
use Rattle.words.proofs.BytesLaws.{or_left, or_right}
use Rattle.words.specs.ReadingLaws.{and_passed}
use Rattle.words.proofs.HeadLaws.{one_to_true, one_to_from}
use Rattle.write_frame.specs.Trial.{passed}
use Rattle.write_frame.specs.TrialLaws.{next_after, refuse_after}
use Rattle.writer.specs.Writing.{refuse_sides, refuse_shape}
use Rattle.writer.specs.Refused.{MayBeSides}

module _ {A : Type 0} (limits : Limits) (sides : ℕ) (next : Outcome A) where
  abbrev no_sides : Bool
  no_sides = not (one_to limits.sides sides)

  pub sides_first : refuse_sides limits sides next ≡ next_after (refuse_sides limits sides passed) next
  sides_first = refuse_after no_sides 1 0 passed next refl

  pub sides_passed : {a : A} → refuse_sides limits sides next ≡ accepted a → MayBeSides limits sides × (next ≡ accepted a)
  sides_passed e = let t = refuse_passed no_sides 1 0 next e in (one_to_from _ _ (not-false _ t.0), t.1)

  pub sides_within : MayBeSides limits sides → refuse_sides limits sides next ≡ next
  sides_within w = simp (one_to_true _ _ w.0 w.1)

module _ {A : Type 0} (limits : Limits) (h : Shape) (next : Outcome A) where
  abbrev not_prime : Bool
  not_prime = not (prime? h.modulus) || ltb largest_modulus h.modulus

  abbrev outside : Bool
  outside = not (one_to limits.rows h.rows && one_to limits.columns h.columns)

  pub shape_first : refuse_shape limits h next ≡ next_after (refuse_shape limits h passed) next
  shape_first = refuse_after not_prime 2 0 (refuse outside 3 0 passed) next (refuse_after outside 3 0 passed next refl)

  pub shape_passed : {a : A} → refuse_shape limits h next ≡ accepted a → ShapeWithin limits h × (next ≡ accepted a)
  shape_passed e =
      let t = refuse_passed not_prime 2 0 (refuse outside 3 0 next) e in
      let u = refuse_passed outside 3 0 next t.1 in
      let n = and_passed (one_to limits.rows h.rows) (one_to limits.columns h.columns) u.0 in (
        record {
          prime = prime_of_true h.modulus
              (not-false _ (or_left (not (prime? h.modulus)) (ltb largest_modulus h.modulus) t.0));
          modulus = ltb-false largest_modulus h.modulus
              (or_right (not (prime? h.modulus)) (ltb largest_modulus h.modulus) t.0);
          rows = one_to_from _ _ n.0;
          columns = one_to_from _ _ n.1;
        },
        u.1,
      )

  pub shape_within : ShapeWithin limits h → refuse_shape limits h next ≡ next
  shape_within w =
      let r = w.rows in
      let c = w.columns in
      simp (
        true_of_prime h.modulus w.prime,
        le-ltb largest_modulus h.modulus w.modulus,
        one_to_true _ _ r.0
            r.1,
        one_to_true _ _ c.0 c.1,
      )
