-- What the reader tells, as one number.
use mathlib.Core.Path.{◌≡◌, sym, ap}
use mathlib.Core.List.{List}
use Prim.Native.Nat.{ℕ, ◌≤◌}
use native.Mathlib.Omega.{arith}
use Rattle.words.specs.Limits.{office}
use Rattle.words.specs.LimitsLaws.{office_fits}
use Rattle.words.specs.Outcome.{mapped}
use Rattle.words.specs.Outcome.Outcome.{accepted}
use Rattle.words.specs.OutcomeLaws.{mapped_accepted}
use Rattle.words.specs.Systems.{Head, systems_head}
use Rattle.words.specs.Bytes.{read_systems_file}
use Rattle.words.proofs.BytesLaws.{file_within}
use Rattle.answers.specs.Packed.{packed_most}
use Rattle.answers.specs.Heads.{head_number}
use Rattle.link_values.specs.FilesLaws.{shape_places}
use Rattle.link_values.proofs.Small.{refusal_small}
use Rattle.link_values.proofs.shape.shape_of_file.Goals as goal

-- what was read has a right side
some_side : (f : List ℕ) (h : Head) → accepted h ≡ mapped systems_head (read_systems_file office f) → 1 ≤ h.sides
some_side f h e =
    let s = mapped_accepted systems_head (read_systems_file office f) (sym e) in
    omega (arith, ap (λ (g : Head). g.sides) s.2, (file_within office office_fits s.0 f s.1).head.sides.0)

pub pack_head-requires : goal.pack_head-requires
pack_head-requires c = some_side _ _ c.in-Ok.ensures

pub pack_counted-requires : goal.pack_counted-requires
pack_counted-requires c =
    refusal_small (shape_places office office_fits packed_most (omega arith) (omega arith) _)
    (ap (mapped head_number) (sym c.in-Err.ensures))
