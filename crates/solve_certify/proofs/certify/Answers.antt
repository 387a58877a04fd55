-- `certify` meets its contract: the columns go up from an empty level and come down to it.
use mathlib.Core.Path.{refl}
use native.Mathlib.Omega.{arith}
use Rattle.residue.specs.Modulus.{valid_modulus}
use Rattle.vector.specs.Bound.{zeros_none}
use Rattle.solve_lattice.specs.Room.{level_words, product_words}
use Rattle.solve_certify.specs.Empty.{empty_valid, has_empty}
use Rattle.solve_certify.specs.Top.{has_last, ascended_top}
use Rattle.solve_certify.specs.Bottom.{certifies}
use Rattle.solve_certify.proofs.certify.Goals as goal

pub find_witness-requires-clause-level : goal.find_witness-requires-clause-level
find_witness-requires-clause-level c =
    empty_valid _ (zeros_none level_words) (valid_modulus c.args.modulus).prime refl

pub find_witness-requires-clause-last : goal.find_witness-requires-clause-last
find_witness-requires-clause-last c = has_last (omega arith) (has_empty _ (zeros_none level_words) c.requires.system)

pub find_witness-requires-clause-areas : goal.find_witness-requires-clause-areas
find_witness-requires-clause-areas c = (zeros_none product_words, c.requires.area)

pub returns-then-columns-eq0 : goal.returns-then-columns-eq0
returns-then-columns-eq0 c =
    certifies c.requires.bounds.0 _ _ (zeros_none level_words) (ascended_top (omega arith) c.find_witness.ensures)

pub ascend-requires : goal.ascend-requires
ascend-requires c =
    let S = c.requires in
    record {
      column = omega arith;
      valid_input = S.bounds.2;
      valid_level = empty_valid _ (zeros_none level_words) (valid_modulus c.args.modulus).prime refl;
      levels = has_empty _ (zeros_none level_words) S.system;
      none = zeros_none product_words;
      valid_output = S.area;
    }

pub returns : goal.returns
returns c = certifies c.requires.bounds.0 _ _ (zeros_none level_words) c.ascend.ensures.ascended_from
