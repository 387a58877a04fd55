-- What the functions that write text into lent bytes leave there, as their contracts say it.
use Rattle.std.specs.Prelude.{ℕ, ◌+◌, ◌≤◌, ◌≡◌, List, ◌++◌, length, drop}
use Rattle.std.proofs.lemmas.List.Edits.{sets}

-- there is room for the text from the place `at` on
abbrev pub TextRoom : List ℕ → List ℕ → ℕ → Type 0
TextRoom text bytes at = at + length text ≤ length bytes

-- the text stands from the place `at` on, and the other bytes are as before; `next` is the place behind it
pub record Appended (text before : List ℕ) (at : ℕ) (after : List ℕ) (next : ℕ) : Type 0 where
  pub bytes : after ≡ sets before at text
  pub place : next ≡ at + length text

-- a whole report: the bytes are the text followed by what stood behind it, and n is its length
pub record Written (text before after : List ℕ) (n : ℕ) : Type 0 where
  pub bytes : after ≡ text ++ drop (length text) before
  pub count : n ≡ length text
