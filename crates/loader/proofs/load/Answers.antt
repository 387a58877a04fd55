-- All from the first on.
use mathlib.Core.Path.{sym}
use native.Mathlib.Omega.{arith}
use Rattle.words.specs.Starts.{start_first}
use Rattle.loader.proofs.Loading.{load_stands}
use Rattle.loader.proofs.load.Goals as goal

pub load_part-requires-clause-has_entries : goal.load_part-requires-clause-has_entries
load_part-requires-clause-has_entries c = (c.requires.0, c.requires.1, omega arith, sym (start_first _))

pub returns : goal.returns
returns c =
    let loaded = c.load_part.ensures.0 in
    load_stands c.requires.0 c.requires.1 _ _ (omega (arith, loaded.same_length)) loaded
