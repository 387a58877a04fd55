-- Places in a case.
use Rattle.std.specs.Prelude.{ℕ}

-- no case has more words
abbrev pub case_words : ℕ
case_words = 16384
