-- What is loaded stands in its slots, and what is laid out from them is the system of the line.
use mathlib.Core.Path.{◌≡◌}
use Prim.Native.Nat.{◌*◌}
use native.Mathlib.Omega.{arith}
use lib.ListN.{length}
use borrow.Author.Rules.{rules}
use Rattle.loader.specs.Widths.{system_width, line_polynomials}
use Rattle.solve_layout.specs.Laying.{few_rows, few_columns, few_entries, has_entries, loaded_fits, laid_back, told_as}
use Rattle.solve_layout.specs.Laying.{told_back}
use Rattle.solve_layout.proofs.lay_line.Goals as goal

pub load_line-requires : goal.load_line-requires
load_line-requires c =
    let R = told_as _ _ c.requires.words_value in
    (has_entries R, omega (arith, few_entries R, few_rows R))

pub lay_area-requires : goal.lay_area-requires
lay_area-requires c =
    let R = told_as _ _ c.requires.words_value in
    let A = c.load_line.new.area in
    let room : length A ≡ line_polynomials * system_width = search rules in record {
      rows_le_lanes = (few_rows R, few_columns R, c.requires.area.0);
      slots = loaded_fits R A room c.load_line.ensures;
    }

pub returns : goal.returns
returns c =
    let R = told_as _ _ c.requires.words_value in
    let A = c.load_line.new.area in
    let room : length A ≡ line_polynomials * system_width = search rules in
    told_back _ _ c.requires.words_value _
    (laid_back R A room c.load_line.ensures c.args.input.now _ c.requires.area.0 c.requires.area.1 c.lay_area.ensures)
