-- What is certified is reported (`Giving`).
use mathlib.Core.Path.{refl, sym}
use lib.Seq.{length-take-le}
use borrow.Author.Rules.{rules}
use Rattle.vector.specs.Bound.{zeros_none}
use Rattle.solve_lattice.specs.Room.{output_words}
use Rattle.report.proofs.Giving.{size_inside, d_within, given_solution, given_none}
use Rattle.report.proofs.report_read.Goals as goal

pub returns-then-certify_words : goal.returns-then-certify_words
returns-then-certify_words c =
    given_solution c.requires.0 _ _ c.certify_words.ensures c.if-certify_words.true
    c.size_of-size.ensures c.write_solution.ensures

pub returns-else-certify_words : goal.returns-else-certify_words
returns-else-certify_words c =
    given_none c.requires.0 _ _ c.certify_words.ensures c.if-certify_words.false
    c.write_none.ensures

pub slice_bounds-output-end : goal.slice_bounds-output-end
slice_bounds-output-end c =
    size_inside c.requires.0 _ _ c.certify_words.ensures c.size_of-size.ensures

pub write_solution-requires : goal.write_solution-requires
write_solution-requires c =
    (d_within c.requires.0 _ _ c.certify_words.ensures c.size_of-size.ensures, search rules)

pub slice_bounds-write_solution-end : goal.slice_bounds-write_solution-end
slice_bounds-write_solution-end c =
    sym (length-take-le _ _
    (size_inside c.requires.0 _ _ c.certify_words.ensures c.size_of-size.ensures))

pub certify_words-requires-clause-cleared : goal.certify_words-requires-clause-cleared
certify_words-requires-clause-cleared c = (refl, zeros_none output_words)
