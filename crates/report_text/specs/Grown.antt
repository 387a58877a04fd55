-- What a text that grows in lent bytes does.
use Rattle.std.specs.Prelude.{ℕ, ◌≡◌, List}
use Rattle.report_text.specs.declared.text.Text.{Text}
use Rattle.report_text.specs.Written.{TextRoom, Appended}

-- there is room for more of it
abbrev pub Room : List ℕ → Text → Type 0
Room more text = TextRoom more text.bytes.now text.length

-- it has grown by so much, in the same bytes
pub record Grown (more : List ℕ) (before after : Text) : Type 0 where
  pub appended : Appended more before.bytes.now before.length after.bytes.now after.length
  pub same : after.bytes.ghost_name ≡ before.bytes.ghost_name
