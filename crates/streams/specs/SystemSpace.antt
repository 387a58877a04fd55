-- How much is read of a system's file.
use Rattle.std.specs.Prelude.{ℕ, ◌+◌, ◌*◌, ◌<◌, ◌≡◌, Bool, ◌||◌, List, length, take}
use Rattle.std.proofs.Math.Decide.{dec_lt}
use Rattle.std.proofs.Common.{arith, sym, ◌∙◌, length-take-le, take_all, lt-ltb}
use Rattle.std.proofs.Math.Path.{refl, ap}
use Rattle.std.proofs.Math.Bool.{true, false}
use Rattle.words.specs.Limits.{office, longest_system}
use Rattle.words.specs.Outcome.{refuse}
use Rattle.words.specs.Outcome.Outcome.{refused}
use Rattle.words.specs.Systems.{read_line}
use Rattle.words.specs.Bytes.{words_of, broken, too_long, read_line_file, word_bytes}

-- one byte more than the longest has
abbrev pub system_space : ℕ
system_space = word_bytes * longest_system office + 1

module _ (k : ℕ) where
  too_long_lem : (file : List ℕ) → too_long office file ≡ true → read_line_file office k file ≡ refused 10 0
  unfolding read_line_file
  too_long_lem file e = ap (λ t. refuse (broken file || t) 10 0 (read_line office k (words_of file))) e ∙ by (broken file)
    where
      by : (b : Bool) → refuse (b || true) 10 0 (read_line office k (words_of file)) ≡ refused 10 0
      by true = refl
      by false = refl

  -- a file's line is read as that of so many of its bytes is
  pub start_read : (file : List ℕ) → read_line_file office k (take system_space file) ≡ read_line_file office k file
  start_read file = by (dec_lt (length file) system_space)
    where
      by : Dec (length file < system_space) → read_line_file office k (take system_space file) ≡ read_line_file office k file
      by (yes h) = ap (read_line_file office k) (take_all system_space file (omega arith))
      by (no h) =
          let limit = word_bytes * longest_system office in
          let all = length-take-le system_space file (omega arith) in
          too_long_lem (take system_space file) (lt-ltb limit (length (take system_space file)) (omega (arith, all)))
          ∙ sym (too_long_lem file (lt-ltb limit (length file) (omega arith)))
