-- How much of a certificate's file there can be, and how much of any file is looked at.
use Rattle.std.specs.Prelude.{ℕ, ◌+◌, ◌*◌, ◌%◌, ◌<◌, cond, ltb}
use Rattle.std.proofs.Math.Decide.{dec_lt}
use Rattle.std.proofs.Common.{arith, lt-ltb, le-ltb}
use Rattle.words.specs.Limits.{office, longest_certificate}
use Rattle.words.specs.Bytes.{word_bytes}

-- the bytes of the longest certificate's file: with so many lent, 11 is never said
abbrev pub certificate_file_bytes : ℕ
certificate_file_bytes = word_bytes * longest_certificate office

-- the room for the start of a file: two words more than the longest certificate has
abbrev pub file_space : ℕ
file_space = word_bytes * (longest_certificate office + 2)

-- of a file of so many bytes: all, or, where they would fill the room, one word more than the longest certificate has, and as many
-- bytes as stand behind the file's last whole word
abbrev pub bytes_seen : ℕ → ℕ
bytes_seen length = cond (ltb length file_space) length (word_bytes * (longest_certificate office + 1) + length % word_bytes)

pub seen_most : (n : ℕ) → bytes_seen n < file_space
seen_most n = by (dec_lt n file_space)
  where
    by : Dec (n < file_space) → bytes_seen n < file_space
    by (yes h) = rw (lt-ltb n file_space h) h
    by (no h) = rw (le-ltb n file_space (omega arith)) (omega arith)
