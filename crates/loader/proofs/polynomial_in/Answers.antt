-- The coefficients are below p, and stand for the polynomial.
use mathlib.Core.Path.{◌∙◌}
use Prim.Native.Nat.{◌+◌, ◌<◌}
use native.Mathlib.Nat.{le-mul_of_pos_right}
use native.Mathlib.Omega.{arith}
use Rattle.residue.specs.Modulus.{valid_modulus}
use Rattle.polynomial.specs.Value.{represents_is}
use Rattle.loader.specs.SlotLaws.{taken_canonical, taken_size, canonical_word, canonical_polynomial}
use Rattle.loader.proofs.polynomial_in.Goals as goal

pub from_words-requires-clause-bounds : goal.from_words-requires-clause-bounds
from_words-requires-clause-bounds c = (omega (arith, taken_size c.coefficients_in-f.ensures c.requires.0), omega arith)

pub from_words-requires-clause-small : goal.from_words-requires-clause-small
from_words-requires-clause-small c =
    let p = c.args.modulus.p in
    let positive : 0 < p = omega (arith, (valid_modulus c.args.modulus).prime.large) in
    λ i lt.
    omega (
      arith,
      canonical_word p positive _ (taken_canonical c.coefficients_in-f.ensures c.requires.0) (0 + i),
      le-mul_of_pos_right p positive,
    )

pub returns : goal.returns
returns c =
    let positive : 0 < c.args.modulus.p = omega (arith, (valid_modulus c.args.modulus).prime.large) in
    let is = c.coefficients_in-f.ensures in
    represents_is c.from_words.ensures (canonical_polynomial _ positive _ (taken_canonical is c.requires.0) ∙ is)
