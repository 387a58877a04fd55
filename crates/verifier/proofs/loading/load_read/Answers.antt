-- Both are loaded into their areas, and the verdict on the areas is that on the words (`Read`).
use mathlib.Core.Path.{◌≡◌, refl, subst}
use native.Mathlib.Omega.{arith}
use lib.ListN.{length}
use Rattle.answers.specs.Answer.{shape_of}
use Rattle.words.specs.Starts.{first_entries}
use Rattle.loader.specs.Slot.{InSlots}
use Rattle.loader.specs.SlotLaws.{read_stands}
use Rattle.loader.specs.Widths.{certificate_width}
use Rattle.verifier.specs.Loading.{AreaRoom}
use Rattle.verifier.proofs.Read.{read_shape, read_within, read_certificate_lem, read_few, line_has, line_loaded, read_loads}
use borrow.Author.Rules.{rules}
use Rattle.verifier.proofs.loading.load_read.Goals as goal

pub new-modulus-requires : goal.new-modulus-requires
new-modulus-requires c =
    let S = c in
    ((read_shape _ _ S.requires.both_line).prime, (read_shape _ _ S.requires.both_line).modulus)

pub load_line-requires : goal.load_line-requires
load_line-requires c =
    let S = c in
    (line_has _ _ S.requires.both_line, S.requires.room.system)

pub load-requires : goal.load-requires
load-requires c =
    let counted = c in
    let S = counted in
    let b = S.requires.both_line in
    let count = counted.entry_count-count.ensures in (
      rw count (read_certificate_lem _ _ b).has,
      omega arith,
      omega (arith, count, read_few _ _ b, S.requires.room.certificate),
    )

pub invariant_of-result : goal.invariant_of-result
invariant_of-result c = record { within = read_within _ _ c.requires.both_line }

pub returns : goal.returns
returns c =
    let b = c.requires.both_line in
    let A = c.load_line.new.area in
    let C = c.load.new.area in
    let room-A : length A ≡ length c.args.system_area.now = search rules in
    let room-C : length C ≡ length c.args.certificate_area.now = search rules in
    let room : AreaRoom (shape_of c.args.shape) A C = record {
      system = omega (arith, c.requires.room.system);
      certificate = omega (arith, c.requires.room.certificate);
    } in
    read_loads _ _ b _ _ c.new-modulus.ensures A C room
    (line_loaded _ _ b c.load_line.ensures)
    (read_stands (read_certificate_lem _ _ b)
    (subst (λ n. InSlots certificate_width C (first_entries c.args.certificate.now n)) c.entry_count-count.ensures
    c.load.ensures))
    _ refl
