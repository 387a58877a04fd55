-- Where there is room for the bytes of all words, all are written.
use Rattle.std.specs.Prelude.{◌≡◌, List, ◌++◌, ℕ, ◌*◌, ◌/◌, ◌≤◌, length, take, drop}
use Rattle.std.proofs.Common.{sym, ap, ◌∙◌, arith}
use Rattle.std.proofs.Math.Nat.{min-eq_left}
use Rattle.std.proofs.Math.Seq.{take-length}
use Rattle.words.specs.Bytes.{bytes_of, word_bytes}
use Rattle.words.proofs.BytesLaws.{length_bytes_of}
use Rattle.files.specs.FileBytes.{WritesBytes}

module _ {ws before after : List ℕ} {count : ℕ} (written : WritesBytes ws before after count)
    (room : word_bytes * length ws ≤ length before) where
  pub written_count : count ≡ length (bytes_of ws)
  written_count =
      written.number ∙ ap (λ n. word_bytes * n) (min-eq_left {m = length before / word_bytes} (omega arith))
      ∙ sym (length_bytes_of ws)

  pub written_all : after ≡ bytes_of ws ++ drop (length (bytes_of ws)) before
  written_all =
      written.bytes ∙ ap (λ n. take n (bytes_of ws) ++ drop n before) written_count
      ∙ ap (λ l. l ++ drop (length (bytes_of ws)) before) (take-length (bytes_of ws))
