-- The laws that contracts cite, on lists of numbers that are canonical modulo a prime.
use Rattle.std.specs.Prelude.{◌≡◌, List, [], length}
use Rattle.std.proofs.Math.Path.{refl, ap}
use Rattle.std.proofs.Common.{sym, ◌∙◌, zero-add, suc-add, arith}
use Prim.Native.Nat.{ℕ, zero, suc, ◌+◌, ◌-◌, ◌*◌, ◌%◌, ◌<◌, ◌≤◌}
use Rattle.algebra.specs.Operations.{Operations}
use Rattle.algebra.specs.Coefficients.{cons, one, constant, leading, add, mul, negate, subtract, scale, shift}
use Rattle.algebra.specs.Coefficients.{monic, quotient, remainder, gcd}
use Rattle.algebra.specs.Divides.{Divides}
use Rattle.modular.specs.Prime.{Prime}
use Rattle.modular.specs.Modulo.{modulo, inverse}
use Rattle.modular.specs.Canonical.{Canonical}
use Rattle.modular.specs.Residue.{Residue, value, residues}
use Rattle.modular.specs.Values.{NumberPolynomial, equal_numbers}
use Rattle.modular.specs.Numbers
use Rattle.modular.specs.Numbers.{numbers}
use Rattle.modular.specs.SizeLaws.{size_laws}
use Rattle.modular.specs.DivisionLaws.{division_laws}
use Rattle.modular.specs.MonicLaws.{monic_laws}
use Rattle.modular.specs.GcdLaws.{gcd_laws}

module _ (p : ℕ) (prime : Prime p) where
  abbrev o : Operations ℕ
  o = modulo p

  abbrev list : NumberPolynomial p → List ℕ
  list x = x.0

  -- ring
  pub add_comm : (f g : List ℕ) → Canonical p f → Canonical p g → add o f g ≡ add o g f
  unfolding numbers
  add_comm f g hf hg = ap list ((numbers p prime).add_comm (f, hf) (g, hg))

  pub add_assoc : (f g h : List ℕ) → Canonical p f → Canonical p g → Canonical p h → add o (add o f g) h ≡ add o f (add o g h)
  unfolding numbers
  add_assoc f g h hf hg hh = ap list ((numbers p prime).add_assoc (f, hf) (g, hg) (h, hh))

  pub add_negate : (f : List ℕ) → Canonical p f → add o f (negate o f) ≡ []
  unfolding numbers
  add_negate f hf = ap list ((numbers p prime).add_neg (f, hf))

  pub mul_comm : (f g : List ℕ) → Canonical p f → Canonical p g → mul o f g ≡ mul o g f
  unfolding numbers
  mul_comm f g hf hg = ap list ((numbers p prime).mul_comm (f, hf) (g, hg))

  pub mul_assoc : (f g h : List ℕ) → Canonical p f → Canonical p g → Canonical p h → mul o (mul o f g) h ≡ mul o f (mul o g h)
  unfolding numbers
  mul_assoc f g h hf hg hh = ap list ((numbers p prime).mul_assoc (f, hf) (g, hg) (h, hh))

  pub mul_one : (f : List ℕ) → Canonical p f → mul o f (one o) ≡ f
  unfolding numbers
  mul_one f hf = ap list ((numbers p prime).mul_one (f, hf))

  pub mul_add : (f g h : List ℕ) → Canonical p f → Canonical p g → Canonical p h
      → mul o f (add o g h) ≡ add o (mul o f g) (mul o f h)
  unfolding numbers
  mul_add f g h hf hg hh = ap list ((numbers p prime).mul_add (f, hf) (g, hg) (h, hh))

  -- size and leading coefficient
  module _ (f g : List ℕ) (hf : Canonical p f) (hg : Canonical p g) (lf : 0 < length f) (lg : 0 < length g) where
    pub length_mul : suc (length (mul o f g)) ≡ length f + length g
    unfolding numbers
    length_mul = (size_laws p prime).size_mul (f, hf) (g, hg) lf lg

    pub leading_mul : leading o (mul o f g) ≡ leading o f * leading o g % p
    unfolding numbers residues
    leading_mul = ap value ((size_laws p prime).leading_mul (f, hf) (g, hg) lf lg)

  pub length_scale : (c : ℕ) (f : List ℕ) → 0 < c → c < p → Canonical p f → length (scale o c f) ≡ length f
  unfolding residues
  length_scale c f h l hf = (size_laws p prime).size_scale (record { value = c; below = l }) (f, hf)
      (λ e. let z : c ≡ 0 = ap value e in omega arith)

  -- c·x^k·f as a product
  pub multiple_mul : (k c : ℕ) (f : List ℕ) → c < p → Canonical p f
      → shift o k (scale o c f) ≡ mul o (shift o k (constant o c)) f
  unfolding numbers
  multiple_mul k c f l hf = ap list (
      ap (Numbers.shift p prime k) ((size_laws p prime).scale_constant a (f, hf))
      ∙ (size_laws p prime).shift_mul k (Numbers.constant p prime a) (f, hf))
    where
      a : Residue p
      a = record { value = c; below = l }

  -- x^k times a product, and times x^j
  pub shift_mul : (k : ℕ) (f g : List ℕ) → Canonical p f → Canonical p g → shift o k (mul o f g) ≡ mul o (shift o k f) g
  unfolding numbers
  shift_mul k f g hf hg = ap list ((size_laws p prime).shift_mul k (f, hf) (g, hg))

  pub shift_shift : (i j : ℕ) (f : List ℕ) → shift o i (shift o j f) ≡ shift o (i + j) f
  unfolding shift
  shift_shift zero j f = ap (λ n. shift o n f) (sym (zero-add j))
  shift_shift (suc i) j f = ap (cons o o.zero) (shift_shift i j f) ∙ ap (λ n. shift o n f) (sym (suc-add i j))

  -- one step of a division takes the leading coefficient off f
  pub length_step : (f g : List ℕ) → Canonical p f → Canonical p g → 0 < length g → length g ≤ length f
      → length (subtract o f (shift o (length f - length g) (scale o (leading o f * inverse p (leading o g) % p) g))) < length f
  unfolding numbers residues subtract
  length_step f g hf hg = (size_laws p prime).size_step (f, hf) (g, hg)

  -- division
  module _ (f d : List ℕ) (hf : Canonical p f) (hd : Canonical p d) where
    pub division : 0 < length d → f ≡ add o (mul o (quotient o f d) d) (remainder o f d)
    unfolding numbers
    division h = ap list ((division_laws p prime).division (f, hf) (d, hd) h)

    pub length_remainder : 0 < length d → length (remainder o f d) < length d
    length_remainder = (division_laws p prime).size_remainder (f, hf) (d, hd)

    pub length_quotient : 0 < length d → length d ≤ length f → length (quotient o f d) + length d ≡ suc (length f)
    length_quotient = (division_laws p prime).size_quotient (f, hf) (d, hd)

    pub quotient_unique : (q r : List ℕ) → Canonical p q → Canonical p r → f ≡ add o (mul o q d) r → length r < length d
        → quotient o f d ≡ q
    unfolding numbers
    quotient_unique q r hq hr e l =
        ap list ((division_laws p prime).quotient_unique (f, hf) (d, hd) (q, hq) (r, hr) (equal_numbers p _ _ e) l)

    pub remainder_unique : (q r : List ℕ) → Canonical p q → Canonical p r → f ≡ add o (mul o q d) r → length r < length d
        → remainder o f d ≡ r
    unfolding numbers
    remainder_unique q r hq hr e l =
        ap list ((division_laws p prime).remainder_unique (f, hf) (d, hd) (q, hq) (r, hr) (equal_numbers p _ _ e) l)

    -- d divides f just where the remainder is zero
    pub remainder_divides : remainder o f d ≡ [] → Divides (numbers p prime) (d, hd) (f, hf)
    unfolding numbers
    remainder_divides e = (division_laws p prime).remainder_divides (f, hf) (d, hd) (equal_numbers p _ _ e)

    pub divides_remainder : Divides (numbers p prime) (d, hd) (f, hf) → remainder o f d ≡ []
    unfolding numbers
    divides_remainder h = ap list ((division_laws p prime).divides_remainder (f, hf) (d, hd) h)

    pub quotient_exact : remainder o f d ≡ [] → f ≡ mul o (quotient o f d) d
    unfolding numbers
    quotient_exact e = ap list ((division_laws p prime).quotient_exact (f, hf) (d, hd) (remainder_divides e))

    pub remainder_short : length f < length d → remainder o f d ≡ f
    unfolding numbers
    remainder_short l = ap list ((division_laws p prime).remainder_short (f, hf) (d, hd) l)

  module _ (f g d : List ℕ) (hf : Canonical p f) (hg : Canonical p g) (hd : Canonical p d) (some : 0 < length d) where
    pub remainder_add : remainder o (add o f g) d ≡ add o (remainder o f d) (remainder o g d)
    unfolding numbers
    remainder_add = ap list ((division_laws p prime).remainder_add (f, hf) (g, hg) (d, hd) some)

    pub remainder_factor : remainder o (mul o f g) d ≡ remainder o (mul o f (remainder o g d)) d
    unfolding numbers
    remainder_factor = ap list ((division_laws p prime).remainder_factor (f, hf) (g, hg) (d, hd) some)

  -- monic associate and greatest common divisor
  pub leading_monic : (f : List ℕ) → Canonical p f → 0 < length f → leading o (monic o f) ≡ 1
  leading_monic f hf = (monic_laws p prime).monic_monic (f, hf)

  pub monic_same : (f : List ℕ) → Canonical p f → leading o f ≡ 1 → monic o f ≡ f
  monic_same f hf e = ap list ((monic_laws p prime).monic_same (f, hf) e)

  pub gcd_nil : (f : List ℕ) → gcd o f [] ≡ monic o f
  unfolding gcd
  gcd_nil f = refl

  module _ (f g : List ℕ) (hf : Canonical p f) (hg : Canonical p g) where
    pub gcd_step : 0 < length g → gcd o f g ≡ gcd o g (remainder o f g)
    gcd_step h = ap list ((gcd_laws p prime).gcd_step (f, hf) (g, hg) h)

    pub leading_gcd : 0 < length f + length g → leading o (gcd o f g) ≡ 1
    leading_gcd = (gcd_laws p prime).gcd_monic (f, hf) (g, hg)
