-- Number 10 of either file, or what is loaded from the words for which there is room, which decide.
use native.Mathlib.Omega.{arith}
use Rattle.std.proofs.lemmas.Result.{err_from_is_err_and}
use Rattle.limits.specs.Value.{limits_of}
use Rattle.verifier.proofs.Files.{both_opened, none_opened}
use Rattle.verifier.proofs.loading.load_files.Goals as goal

pub returns-in_err-n : goal.returns-in_err-n
returns-in_err-n c =
    let p = err_from_is_err_and c.from_residual.result c.from_residual.ensures.1 in
    rw (p.1, p.2) record {
      ready = tt;
      verdict = none_opened (limits_of c.args.kept) _ c.args.side _ _ c.in_err-n.ensures;
    }

pub returns : goal.returns
returns c =
    both_opened _ _ _ _ _ c.in_ok-n.ensures (omega arith) (omega arith) c.load_pair.ensures
