use Prim.Native.Nat.{◌<◌}
use mathlib.Core.Path.{sym, ◌∙◌, ap}
use native.Mathlib.Nat.{zero-add}
use native.Mathlib.Omega.{arith}
use lib.ListN.{length, drop}
use Rattle.std.proofs.lemmas.List.{take-append-drop, length-take-le, get_or_append_left, set-append_left}
use Rattle.modular.specs.Modulo.{modulo}
use Rattle.vector.proofs.Storing.{storing_start, storing_reads_at, storing_turn_at, storing_end}
use Rattle.solve_descent.proofs.negated.negate.Goals as goal

pub loop-word-init : goal.loop-word-init
loop-word-init c = rw (take-append-drop c.args.n c.args.h.now) (storing_start _ _ _ _)

pub neg-requires : goal.neg-requires
neg-requires c =
    let L = c.loop-word in
    let rest = drop c.args.n c.args.h.now in
    let inside : L.word-index < length L.word-items = omega arith in
    let left = get_or_append_left L.word-items rest 0 L.word-index inside in
    omega (arith, left, storing_reads_at L.invariant L.word-index (sym (zero-add L.word-index)), c.requires.1 L.word-index)

pub loop-word-preserved : goal.loop-word-preserved
loop-word-preserved c =
    let L = c.loop-word in
    let rest = drop c.args.n c.args.h.now in
    let inside : L.word-index < length L.word-items = omega arith in
    let here = sym (zero-add L.word-index) in
    let left = get_or_append_left L.word-items rest 0 L.word-index inside in
    let word = sym left ∙ storing_reads_at L.invariant L.word-index here in
    let within : L.word-index < c.args.n = omega (arith, length-take-le c.args.n c.args.h.now) in
    rw (← set-append_left L.word-items rest L.word-index c.neg.result inside)
    (storing_turn_at L.invariant L.word-index here _ within (c.neg.ensures ∙ ap (modulo c.args.modulus.p).neg word))

pub returns : goal.returns
returns c = storing_end c.loop-word.invariant (omega (arith, length-take-le c.args.n c.args.h.now))
