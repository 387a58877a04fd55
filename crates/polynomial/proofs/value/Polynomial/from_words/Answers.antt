-- The words are copied to zeros and reduced; `Residues` says that this gives the value.
use Rattle.residue.specs.Modulus.{valid_modulus}
use Rattle.polynomial.proofs.Residues.{copied, represents_words}
use Rattle.polynomial.proofs.value.Polynomial.from_words.Goals as goal

pub returns : goal.returns
returns c =
    let copy = c.copy_polynomial-count.ensures in
    represents_words (copied (valid_modulus c.args.modulus).prime c.requires.bounds.0 c.zeros-residues.ensures copy.words) _ copy.size
