-- Quoted text as a list of bytes. The report is plain ASCII, where a character's byte is its code.
use Rattle.std.specs.Prelude.{ℕ, List, [], ◌∷◌}
use Prim.Native.Char.{code}
use Prim.Native.String.{String, [] as empty, ◌∷◌ as ◌then◌}

abbrev pub ascii : String → List ℕ
ascii empty = []
ascii (character then rest) = code character ∷ ascii rest
