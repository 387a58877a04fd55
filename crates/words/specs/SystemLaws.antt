-- The polynomials of a system within the limits keep them too; past the last row or column there is zero.
use Rattle.std.specs.Prelude.{ℕ, ◌+◌, ◌*◌}
use Rattle.words.specs.Limits.{Limits}
use Rattle.words.specs.Polynomial.{Within}
use Rattle.words.specs.System.{System, entry, side_entry, SystemWithin}
use Rattle.words.specs.VectorLaws.{all_at}

module _ (limits : Limits) (s : System) (h : SystemWithin limits s) where
  pub entry_within : (i j : ℕ) → Within s.modulus limits.system_coefficients (entry s i j)
  entry_within i j = all_at s.modulus limits.system_coefficients s.matrix h.matrix.entries (i * s.columns + j)

  pub side_entry_within : (i : ℕ) → Within s.modulus limits.system_coefficients (side_entry s i)
  side_entry_within i = all_at s.modulus limits.system_coefficients s.side h.side.entries i
