-- The head of a sheet: reading what was written, and what was read.
use Rattle.std.specs.Prelude.{◌≡◌, refl, true, not, ◌&&◌, get_or, eqb}
use Rattle.std.proofs.Math.Path.{ap, subst₂}
use mathlib.Core.List.{List, [], ◌∷◌}
use Prim.Native.Nat.{ℕ, ◌+◌, ◌-◌, ◌*◌, ◌/◌, ◌%◌, ◌≤◌, ◌<◌}
use native.Mathlib.Omega.{arith}
use Rattle.std.proofs.Math.Dec.{leb}
use borrow.Author.Tests.{eqb-true, eq-eqb, not-false, le-leb, leb-true}
use Rattle.modular.specs.Bits.{bound4}
use Rattle.modular.specs.Prime.{prime?}
use Rattle.modular.specs.Primality.{prime_of_true, true_of_prime}
use Rattle.words.specs.Word.{kind}
use Rattle.words.specs.Limits.{Limits}
use Rattle.words.specs.Reading.Reading.{read}
use Rattle.words.specs.System.{one_to}
use Rattle.words.specs.Systems.{Head, HeadWithin, head_word, head_in, systems_head_from, row_unit, column_unit, side_unit}
use Rattle.words.specs.ReadingLaws.{fault_read, turn_back_read, and_passed}
use Rattle.words.specs.LimitsLaws.{LimitsFit}
use Rattle.modular.specs.LargestPrime.{prime_largest}
use Rattle.words.proofs.FrameLaws.{HeadLaws}

pub one_to_true : (most n : ℕ) → 1 ≤ n → n ≤ most → one_to most n ≡ true
one_to_true most n low high = simp (le-leb 1 n low, le-leb n most high)

pub one_to_from : (most n : ℕ) → one_to most n ≡ true → (1 ≤ n) × (n ≤ most)
one_to_from most n e = let t = and_passed (leb 1 n) (leb n most) (ap not e) in (leb-true 1 n t.0, leb-true n most t.1)

-- the low four bits
low : (x r q : ℕ) → x ≡ r + q * bound4 → r < bound4 → x % bound4 ≡ r
low x r q e h = omega arith

module _ (limits : Limits) where
  head_written : LimitsFit limits → (h : Head) → HeadWithin limits h → (rest : List ℕ)
      → systems_head_from limits (head_word h ∷ rest) ≡ read h rest
  unfolding systems_head_from head_word head_in
  head_written fit h w rest =
      let s = w.shape.modulus in
      let r₁ = w.shape.rows in
      let c₁ = w.shape.columns in
      let b₁ = w.sides in
      let w₀ : ℕ = head_word h in
      let b₀ : ℕ = h.sides - 1 in
      let ep : w₀ % row_unit ≡ h.shape.modulus = omega arith in
      let qr : w₀ / row_unit ≡ h.shape.rows + (h.shape.columns + (b₀ + bound4) * bound4) * bound4 = omega arith in
      let er : w₀ / row_unit % bound4 ≡ h.shape.rows = low _ _ (h.shape.columns + (b₀ + bound4) * bound4) qr (omega arith) in
      let qc : w₀ / column_unit ≡ h.shape.columns + (b₀ + bound4) * bound4 = omega arith in
      let ec : w₀ / column_unit % bound4 ≡ h.shape.columns = low _ _ (b₀ + bound4) qc (omega arith) in
      let ek : kind w₀ ≡ 1 = omega arith in
      let qb : w₀ / side_unit ≡ b₀ + 1 * bound4 = omega arith in
      let lb : w₀ / side_unit % bound4 ≡ b₀ = low _ _ 1 qb (omega arith) in
      let eb : w₀ / side_unit % bound4 + 1 ≡ h.sides = omega arith in
      simp (
        eq-eqb _ _ ek,
        eb,
        le-leb _ _ b₁.1,
        ep,
        er,
        ec,
        true_of_prime h.shape.modulus w.shape.prime,
        one_to_true _ _ r₁.0 r₁.1,
        one_to_true _ _ c₁.0 c₁.1,
      )

  -- a word whose kind is 1 is the head of what it holds
  head_word_lem : (w : ℕ) → kind w ≡ 1 → w ≡ head_word (head_in w)
  unfolding head_word head_in
  head_word_lem w k =
      let q : w / side_unit ≡ bound4 + w / side_unit % bound4 = omega arith in
      let c : w / column_unit ≡ w / side_unit * bound4 + w / column_unit % bound4 = omega arith in
      let r : w / row_unit ≡ w / column_unit * bound4 + w / row_unit % bound4 = omega arith in
      omega arith

  pub record HeadRead (ws : List ℕ) (h : Head) (rest : List ℕ) : Type 0 where
    pub words : ws ≡ head_word h ∷ rest
    pub says : h ≡ head_in (get_or ws 0 0)
    pub within : HeadWithin limits h

  pub head_read : (ws : List ℕ) (h : Head) (rest : List ℕ) → systems_head_from limits ws ≡ read h rest → HeadRead ws h rest
  unfolding systems_head_from head_in
  head_read [] h rest e = absurd (fault_read e)
  head_read (w ∷ ws) h rest e =
      let g = head_in w in
      let s = g.shape in
      let a = turn_back_read (not (eqb (kind w) 1 && leb g.sides limits.sides)) _ _ _ e in
      let b = turn_back_read (not (prime? s.modulus)) _ _ _ a.1 in
      let c = turn_back_read (not (one_to limits.rows s.rows && one_to limits.columns s.columns)) _ _ _ b.1 in
      let k = and_passed (eqb (kind w) 1) (leb g.sides limits.sides) a.0 in
      let n = and_passed (one_to limits.rows s.rows) (one_to limits.columns s.columns) c.0 in
      let prime = prime_of_true (w % row_unit) (not-false _ b.0) in
      let eh : g ≡ h = cc in
      let er : ws ≡ rest = cc in
      subst₂ (HeadRead (w ∷ ws)) eh er
      (record {
        says = refl;
        words = ap (λ (v : ℕ). v ∷ ws) (head_word_lem w (eqb-true (kind w) 1 k.0));
        within = record {
          shape = record {
            prime = prime;
            modulus = prime_largest (w % row_unit) prime (omega arith);
            rows = one_to_from _ _ n.0;
            columns = one_to_from _ _ n.1;
          };
          sides = (omega arith, leb-true g.sides limits.sides k.1);
        };
      })

  pub systems_head_laws : LimitsFit limits → HeadLaws (systems_head_from limits) head_word (HeadWithin limits)
  systems_head_laws fit =
      record { written = head_written fit; read = λ ws h rest e. let t = head_read ws h rest e in (t.words, t.within) }
