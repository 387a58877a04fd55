-- What is handed on of line k of a system: its certificate to standard output, or a refusal to standard error.
use Rattle.std.specs.Prelude.{ℕ, ◌≡◌, List, Result, Ok, Err, take}
use Rattle.std.specs.declared.io.Error.{Error}
use Rattle.words.specs.Limits.{office}
use Rattle.words.specs.Outcome.Outcome.{accepted}
use Rattle.words.specs.Bytes.{read_line_file}
use Rattle.answers.specs.Answer.{refused_by}
use Rattle.solver.specs.Solving.{certificate_bytes, SolvesOr}
use Rattle.linksolve.specs.declared.Unsolved.{Unsolved}
use Rattle.linksolve.specs.declared.Unsolved.TheVariants as unsolved

-- the answer to the bytes read; nothing where they could not be read, which is no refusal
unfoldable pub Replies : (k : ℕ) → Result ℕ Error → (file entry exit : List ℕ) → Result ℕ Unsolved → Type 0
Replies k (Ok n) file entry exit (Ok count) =
    SolvesOr office certificate_bytes (read_line_file office k (take n file)) entry exit (accepted count)
Replies k (Ok n) file entry exit (Err (unsolved.Refused refusal)) =
    SolvesOr office certificate_bytes (read_line_file office k (take n file)) entry exit (refused_by refusal)
Replies k (Ok n) file entry exit (Err unsolved.Unread) = ⊥
Replies k (Err reason) file entry exit (Ok count) = ⊥
Replies k (Err reason) file entry exit (Err (unsolved.Refused refusal)) = ⊥
Replies k (Err reason) file entry exit (Err unsolved.Unread) = exit ≡ entry
