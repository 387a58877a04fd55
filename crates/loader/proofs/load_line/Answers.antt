-- The polynomials of A, and those of the right side behind them.
use mathlib.Core.Path.{sym}
use Prim.Native.Nat.{◌*◌}
use native.Mathlib.Omega.{arith}
use Rattle.words.specs.Starts.{start_first, has_fewer}
use Rattle.loader.proofs.Loading.{few_entries, both_stand}
use Rattle.loader.proofs.load_line.Goals as goal

pub overflow_mul-from : goal.overflow_mul-from
overflow_mul-from c = omega (arith, few_entries c.requires.0)

pub overflow_add-from : goal.overflow_add-from
overflow_add-from c = omega (arith, few_entries c.requires.0)

pub overflow_add-from-2 : goal.overflow_add-from-2
overflow_add-from-2 c = omega (arith, few_entries c.requires.0)

pub load_part-behind-requires-clause-has_entries : goal.load_part-behind-requires-clause-has_entries
load_part-behind-requires-clause-has_entries c =
    (has_fewer _ c.requires.0 (c.args.rows * c.args.columns) (omega arith), omega arith, omega arith, sym (start_first _))

pub returns : goal.returns
returns c =
    let A = c.load_part-behind.ensures.0 in
    let b = c.load_part.ensures.0 in
    both_stand c.requires.0 (omega arith) _ _ _ _ _ _ (omega arith) (omega arith) (omega (arith, A.same_length, b.same_length)) A b
