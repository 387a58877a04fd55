-- The certificate that the solver leaves in memory, as values: polynomial k in written order has its coefficients, at most 121,
-- from the word 128·k on.
use Rattle.std.specs.Prelude.{ℕ, zero, suc, ◌+◌, ◌*◌, List, [], ◌∷◌}
use Rattle.solve_lattice.specs.Room.{block_words, most_coefficients}
use Rattle.vector.specs.Reduced.{polynomial}
use Rattle.words.specs.System.{Shape}
use Rattle.words.specs.Certificate.{Certificate, Form}
use Rattle.words.specs.Certificate.Certificate.{solution, absence}
use Rattle.words.specs.Certificate.Form.{solving, absent}

-- polynomial k
abbrev pub taken_polynomial : ℕ → List ℕ → ℕ → List ℕ
taken_polynomial p output k = polynomial p output (block_words * k) most_coefficients

-- so many polynomials from number k on
unfoldable pub taken_polynomials : ℕ → List ℕ → ℕ → ℕ → List (List ℕ)
taken_polynomials p output k zero = []
taken_polynomials p output k (suc count) = taken_polynomial p output k ∷ taken_polynomials p output (k + 1) count

-- "d, N, w, Z or else q", for a system of that shape
unfoldable pub taken_certificate : Shape → Form → List ℕ → Certificate
unfolding taken_polynomials
taken_certificate h solving output =
    solution
    (taken_polynomial h.modulus output 0)
    (taken_polynomials h.modulus output 1 h.columns)
    (taken_polynomial h.modulus output (1 + h.columns))
    (taken_polynomials h.modulus output (2 + h.columns) h.rows)
taken_certificate h absent output = absence (taken_polynomials h.modulus output 0 h.rows)
