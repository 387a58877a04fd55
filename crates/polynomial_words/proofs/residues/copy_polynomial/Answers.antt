-- `vector::residues::copy_polynomial` meets its contract: residues stand for what the words stand for. Assumes nothing.
use mathlib.Core.Path.{◌≡◌, ap, ◌∙◌}
use mathlib.Core.List.{List}
use Prim.Native.Nat.{ℕ, ◌+◌, ◌%◌, ◌≤◌, ◌<◌}
use native.Mathlib.Nat.{mod-lt, mod-mod}
use native.Mathlib.Omega.{arith}
use lib.ListN.{length, get_or}
use Rattle.residue.specs.Sum.{residue_small}
use Rattle.vector.specs.Bound.{Reducible}
use Rattle.vector.specs.Moved.{polynomial_stored}
use Rattle.vector.specs.Reduced.{polynomial}
use Rattle.vector.specs.Stored.{stored, stored_first, length_stored}
use Rattle.polynomial_words.proofs.residues.copy_polynomial.Goals as goal

-- n words from the place a on, each modulo p
module _ (p : ℕ) (positive : 0 < p) (h s : List ℕ) (a n : ℕ) (room : n ≤ length h) {h' : List ℕ}
    (words : h' ≡ stored (λ j. get_or s (a + j) 0 % p) h 0 n) where
  still-room : n ≤ length h'
  still-room = omega (arith, ap length words, length_stored (λ j. get_or s (a + j) 0 % p) h 0 n)

  reducible : Reducible p h' n
  reducible j lt =
      let is = ap (λ (l : List ℕ). get_or l j 0) words ∙ stored_first (λ j. get_or s (a + j) 0 % p) h n j room lt in
      residue_small p (get_or h' j 0) positive (omega (arith, is, mod-lt (get_or s (a + j) 0) positive))

  same : polynomial p h' 0 n ≡ polynomial p s a n
  same =
      ap (λ (l : List ℕ). polynomial p l 0 n) words
      ∙ polynomial_stored p positive (λ j. get_or s (a + j) 0 % p) h 0 n (omega arith) s a (λ j lt. mod-mod (get_or s (a + j) 0) p)

pub find_leading-requires : goal.find_leading-requires
find_leading-requires c =
    let positive : 0 < c.args.modulus.p = omega (arith, c.args.modulus.valid.prime.large) in
    let words = c.copy_reduced.ensures in
    let p = c.args.modulus.p in record {
      bounds = still-room p positive _ c.args.s.now c.args.a c.args.n (omega arith) words;
      sums = reducible p positive _ c.args.s.now c.args.a c.args.n (omega arith) words;
    }

pub returns : goal.returns
returns c =
    let positive : 0 < c.args.modulus.p = omega (arith, c.args.modulus.valid.prime.large) in
    let words = c.copy_reduced.ensures in record {
      words = words;
      size = c.find_leading.ensures.size
          ∙ ap length (same c.args.modulus.p positive _ c.args.s.now c.args.a c.args.n (omega arith) words);
    }
