-- `verifier::loading::load_pair` meets its contract: the refusals of reading, 41, or what is loaded.
use mathlib.Core.Path.{◌∙◌}
use Rattle.std.proofs.lemmas.Result.{err_from_is_err_and}
use Rattle.truth.specs.Within.{kept_verdict}
use Rattle.limits.specs.Value.{limits_of}
use Rattle.verifier.proofs.Tried.{limits_refuse, limits_pass, line_read, room_kept, none_read}
use Rattle.verifier.proofs.loading.load_pair.Goals as goal

pub returns-in_err-head : goal.returns-in_err-head
returns-in_err-head c =
    let a = c.args in
    let p = err_from_is_err_and c.from_residual.result c.from_residual.ensures.1 in
    rw (p.1, p.2) record {
      ready = tt;
      verdict = none_read (limits_of a.kept) a.side a.system.now a.certificate.now
          (c.in_err-head.ensures (kept_verdict (limits_of a.kept) a.side));
    }

pub returns-in_err-try_limits : goal.returns-in_err-try_limits
returns-in_err-try_limits c =
    let r = c.from_residual-in_err-try_limits in
    let p = err_from_is_err_and r.result r.ensures.1 in
    rw (p.1, p.2) record {
      ready = tt;
      verdict = limits_refuse (limits_of c.args.kept) _ _ _ _ _ c.in_ok-head.ensures c.in_err-try_limits.ensures;
    }

pub load_read-dimensions-requires : goal.load_read-dimensions-requires
load_read-dimensions-requires c = record {
  both_line = line_read (limits_of c.args.kept) _ _ _ _ _ c.in_ok-head.ensures c.in_ok-try_limits.ensures;
  room = room_kept (limits_of c.args.kept) _ _ _ _ _ c.in_ok-head.ensures c.in_ok-try_limits.ensures c.requires;
}

pub returns : goal.returns
returns c =
    let read = c.load_read-dimensions.ensures in
    record {
      ready = read.ready;
      verdict = limits_pass (limits_of c.args.kept) _ _ _ _ _ c.in_ok-head.ensures c.in_ok-try_limits.ensures ∙ read.verdict;
    }
