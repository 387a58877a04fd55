-- The dividend is Z_i in words that were zeros; what is left of it goes to the window.
use mathlib.Core.Path.{◌≡◌, ap}
use mathlib.Core.List.{List}
use Prim.Native.Nat.{ℕ, ◌+◌, ◌-◌, ◌≤◌, ◌<◌}
use native.Mathlib.Omega.{arith}
use lib.ListN.{length, replicate}
use borrow.Author.Rules.{rules}
use Rattle.words.specs.Limits.{office}
use Rattle.residue.specs.Modulus.{ValidModulus, valid_modulus}
use Rattle.vector.specs.Bound.{zeros_none}
use Rattle.check_conditions.specs.Walk.{window_words}
use Rattle.check_conditions.proofs.Starting.{divisor_of, copied_is, copied_small, cleared_none}
use Rattle.check_conditions.proofs.Starting.{moved_reducible, started}
use Rattle.check_conditions.proofs.walk.store_remainder.Goals as goal

pub divide_words-requires : goal.divide_words-requires
divide_words-requires c =
    let S = c in
    let m : ValidModulus S.args.modulus = valid_modulus S.args.modulus in
    let positive : 0 < S.args.modulus.p = omega (arith, m.prime.large) in
    let z = S.requires.dividend in
    let w = S.requires.divisor in
    let blank : List ℕ = replicate office.certificate_coefficients 0 in
    let none = zeros_none office.certificate_coefficients in
    let copied = c.copy.ensures in record {
      bounds = (omega (arith, z.1), search rules, omega (arith, S.requires.bounds.0, z.1));
      dividend = (
        rw (copied_is positive S.args.z.now z.0 blank none z.1 copied) z.0,
        copied_small positive S.args.z.now z.0 blank none z.1 copied,
      );
      divisor = divisor_of positive S.args.w.now w.0 w.1 S.args.inverse w.3;
      zero = S.requires.bounds.1;
    }

pub reduce_range-requires : goal.reduce_range-requires
reduce_range-requires c =
    let D = c in
    let S = D in
    let m : ValidModulus S.args.modulus = valid_modulus S.args.modulus in
    let positive : 0 < S.args.modulus.p = omega (arith, m.prime.large) in
    let z = S.requires.dividend in
    let w = S.requires.divisor in
    let blank : List ℕ = replicate office.certificate_coefficients 0 in
    let copied = D.copy.ensures in
    let is = copied_is positive S.args.z.now z.0 blank (zeros_none office.certificate_coefficients) z.1 copied in
    let cleared = c.clear in
    let long : length D.divide_words.new.q ≡ window_words = search rules in
    let room : length cleared.new.h ≡ window_words = search rules in record {
      bounds = omega (arith, room, w.2, ap length c.copy-2.ensures);
      sums = moved_reducible m.prime S.args.z.now S.args.w.now z.0 w.0 w.1 office.system_coefficients _ is
          D.divide_words.ensures cleared.new.h (cleared_none window_words _ long cleared.ensures)
          (omega (arith, room, w.2)) _
          c.min.ensures c.copy-2.ensures;
    }

pub returns : goal.returns
returns c =
    let D = c in
    let S = D in
    let m : ValidModulus S.args.modulus = valid_modulus S.args.modulus in
    let positive : 0 < S.args.modulus.p = omega (arith, m.prime.large) in
    let z = S.requires.dividend in
    let w = S.requires.divisor in
    let blank : List ℕ = replicate office.certificate_coefficients 0 in
    let copied = D.copy.ensures in
    let is = copied_is positive S.args.z.now z.0 blank (zeros_none office.certificate_coefficients) z.1 copied in
    let cleared = c.clear in
    let long : length D.divide_words.new.q ≡ window_words = search rules in
    let all : length cleared.new.h ≡ window_words = search rules in
    let none = cleared_none window_words _ long cleared.ensures in
    let room : office.system_coefficients + (length S.args.w.now - 1) ≤ length cleared.new.h = omega (arith, all, w.2) in
    let lesser = c.min.ensures in
    let r = started m.prime S.args.z.now S.args.w.now z.0 w.0 w.1 office.system_coefficients _ is
    D.divide_words.ensures cleared.new.h none room _ lesser c.copy-2.ensures
    c.reduce_range.ensures all in record { value = r.0; reduced = r.1 }
