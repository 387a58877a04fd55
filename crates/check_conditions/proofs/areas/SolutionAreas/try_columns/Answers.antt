use mathlib.Core.Path.{◌≡◌, ap, ◌∙◌}
use mathlib.Core.Bool.{Bool, not}
use mathlib.Core.List.{List}
use Prim.Native.Nat.{ℕ, ◌+◌, ◌-◌, ◌<◌}
use native.Mathlib.Omega.{arith}
use lib.ListN.{length}
use borrow.Author.Rules.{rules}
use Rattle.algebra.specs.Coefficients.{remainder}
use Rattle.modular.specs.Delay.{degree}
use Rattle.modular.specs.Modulo.{modulo}
use Rattle.vector.specs.Bound.{zeros_none}
use Rattle.truth.specs.Verdict.{zero?}
use Rattle.loader.specs.SlotLaws.{taken_size}
use Rattle.check_conditions.specs.Areas.{system_in_slots, certifying_denominator_in, certifying_numerators_in}
use Rattle.check_conditions.specs.Table.{column_wrong, try_columns}
use Rattle.check_conditions.specs.Walk.{carried_words, carried_in, Carries, column_so_far_lem}
use Rattle.check_conditions.specs.declared.dimensions.Dimensions.{Dimensions}
use Rattle.std.proofs.iter.Serving.{serving}
use Rattle.check_conditions.proofs.areas.SolutionAreas.try_columns.Goals as goal

-- the remainder that is carried is that of the column
tells : (l : Dimensions) (S C w carried : List ℕ) → w ≡ certifying_denominator_in l C
    → Carries (system_in_slots l S) (certifying_denominator_in l C) (certifying_numerators_in l C) l.rows carried
    → (j : ℕ) → j < l.columns → {told : Bool} → told ≡ not (zero? (carried_in l.modulus.p (length w - 1) carried j))
    → told ≡ column_wrong (system_in_slots l S) (certifying_denominator_in l C) (certifying_numerators_in l C) j
unfolding column_wrong system_in_slots
tells l S C w carried is walked j lt told_is =
    told_is
    ∙ ap (λ v. not (zero? (carried_in l.modulus.p (degree v) carried j))) is
    ∙ ap (λ f. not (zero? f)) (walked.remainders j lt ∙ ap
    (λ f. remainder (modulo l.modulus.p) f (certifying_denominator_in l C))
    (column_so_far_lem (system_in_slots l S) (certifying_numerators_in l C) j))

pub walk_columns-requires : goal.walk_columns-requires
walk_columns-requires c =
    let S = c in
    record {
      divisor = S.requires;
      zeros = record { room = search rules; small = λ i. omega (arith, zeros_none carried_words i) };
    }

pub refuse_first-requires : goal.refuse_first-requires
refuse_first-requires c =
    let S = c in
    let D = S.args.self.now.dimensions in
    let loaded = S.args.self.now.loaded.certificate in
    let walked = c.walk_columns.ensures in
    let is = c.coefficients_in-w.ensures in
    let size = taken_size is (loaded.filled (D.columns + 1) (omega arith)) in
    let few = loaded.dimensions.columns in
    let room = walked.carries.sums.room in
    let reduced = walked.reduced in
    grind (serving, arith, size, few, room, reduced)

pub returns : goal.returns
unfolding system_in_slots try_columns
returns c =
    let S = c in
    let walked = c.walk_columns in
    let is = c.coefficients_in-w.ensures in
    c.refuse_first.ensures _ (λ j told lt post.
    tells S.args.self.now.dimensions S.args.self.now.system.now _ _ walked.new.carried is walked.ensures.carries _ lt (search rules))
