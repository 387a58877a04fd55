-- How values are handed to the writers: the polynomials of arrays, in written order. What lies beyond an array counts as 0, so that
-- every pair of arrays stands for a system and for a certificate.
use Rattle.std.specs.Prelude.{ℕ, ◌+◌, ◌*◌, List}
use Rattle.words.specs.Limits.{Limits}
use Rattle.words.specs.System.{Shape}
use Rattle.words.specs.Systems.{Head, Systems}
use Rattle.words.specs.Certificate.{Certificate, Form}
use Rattle.words.specs.Certificate.Certificate.{solution, absence}
use Rattle.words.specs.Certificate.Form.{solving, absent}
use Rattle.write_frame.specs.Values.{polynomial_in, polynomials_in}

abbrev pub shape_with : ℕ → ℕ → ℕ → Shape
shape_with p n m = record { modulus = p; rows = n; columns = m }

-- and the number of right sides
abbrev pub head_with : ℕ → ℕ → ℕ → ℕ → Head
head_with p n m sides = record { shape = shape_with p n m; sides = sides }

-- "A row by row"; the right sides "one after another behind A"
unfoldable pub system_in_arrays : Limits → Head → List ℕ → List ℕ → Systems
unfolding polynomials_in
system_in_arrays limits h sizes coefficients =
    let A = h.shape.rows * h.shape.columns in
    record {
      head = h;
      matrix = polynomials_in limits.system_coefficients sizes coefficients 0 A;
      side_entries = polynomials_in limits.system_coefficients sizes coefficients A (h.sides * h.shape.rows);
    }

-- how far apart the polynomials of a certificate lie: as the solver leaves them
abbrev pub certificate_stride : ℕ
certificate_stride = 128

-- "d, N, w, Z or else q", for a system of that shape
unfoldable pub certificate_in : Shape → Form → List ℕ → List ℕ → Certificate
unfolding polynomial_in polynomials_in
certificate_in h solving sizes coefficients =
    let m = h.columns in
    solution
    (polynomial_in certificate_stride sizes coefficients 0)
    (polynomials_in certificate_stride sizes coefficients 1 m)
    (polynomial_in certificate_stride sizes coefficients (1 + m))
    (polynomials_in certificate_stride sizes coefficients (1 + m + 1) h.rows)
certificate_in h absent sizes coefficients = absence (polynomials_in certificate_stride sizes coefficients 0 h.rows)
