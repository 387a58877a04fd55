-- What `write_system` gave on words of its own is written as bytes.
use mathlib.Core.Path.{◌≡◌}
use native.Mathlib.Omega.{arith}
use lib.ListN.{length}
use borrow.Author.Rules.{rules}
use Rattle.std.proofs.lemmas.Result.{err_from_is_err_and}
use Rattle.words.specs.Limits.{office, longest_system}
use Rattle.files.specs.FileBytesLaws.{written_count, written_all}
use Rattle.writer.specs.WrittenLaws.{count_words}
use Rattle.link_values.specs.GivingLaws.{gives_refusal, gives_list}
use Rattle.link_values.specs.WritingLaws.{write_refused, write_short, write_whole}
use Rattle.link_values.proofs.Written.{was_refused, counted_length, counted_fits}
use Rattle.link_values.proofs.writing.write_to_bytes.Goals as goal

pub returns-in_err-count : goal.returns-in_err-count
returns-in_err-count c =
    let p = err_from_is_err_and c.from_residual.result c.from_residual.ensures.1 in
    rw (p.1, p.2) (gives_refusal (write_refused office _ _ (was_refused c.in_err-count.ensures)) _)

pub returns-then-bytes-lt-SYSTEM_BYTES : goal.returns-then-bytes-lt-SYSTEM_BYTES
returns-then-bytes-lt-SYSTEM_BYTES c =
    gives_refusal (write_short office _ _ (count_words _ c.in_ok-count.ensures) c.if-bytes-lt-SYSTEM_BYTES.true) _

pub slice_bounds-words-end : goal.slice_bounds-words-end
slice_bounds-words-end c = omega (arith, counted_fits c.in_ok-count.ensures)

pub slice_bounds-write_bytes-end : goal.slice_bounds-write_bytes-end
slice_bounds-write_bytes-end c = counted_length c.in_ok-count.ensures

pub returns : goal.returns
returns c =
    let counted = c.in_ok-count.ensures in
    let written = c.write_bytes.ensures in
    let size = counted_length counted in
    let fits = counted_fits counted in
    let room : length c.write_system.new.words ≡ longest_system office = search rules in
    gives_list (write_whole office _ _ (count_words _ counted) c.if-bytes-lt-SYSTEM_BYTES.false)
    (written_count written (omega arith)) (written_all written (omega arith))
