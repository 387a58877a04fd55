-- A name of which the first bytes are masked.
use Rattle.std.proofs.Common.{◌≡◌, ℕ, zero, suc, ◌+◌, ◌<◌, ◌≤◌, refl, sym, ap, ◌∙◌, List, [], ◌∷◌, map, arith, add-one, length, get_or, set}
use Rattle.cardcheck.specs.Name.{masked_byte}

-- the first i bytes as they are said, the others as they are
unfoldable pub masked_to : ℕ → List ℕ → List ℕ
masked_to zero name = name
masked_to (suc i) [] = []
masked_to (suc i) (byte ∷ name) = masked_byte byte ∷ masked_to i name

masked_to-next : (i : ℕ) (name : List ℕ) → i < length name
    → set (masked_to i name) i (masked_byte (get_or (masked_to i name) i 0)) ≡ masked_to (suc i) name
unfolding masked_to
masked_to-next zero [] h = absurd (omega arith)
masked_to-next zero (byte ∷ name) h = refl
masked_to-next (suc i) [] h = absurd (omega arith)
masked_to-next (suc i) (byte ∷ name) h = ap (λ rest. masked_byte byte ∷ rest) (masked_to-next i name (omega arith))

pub masked_to-all : (i : ℕ) (name : List ℕ) → length name ≤ i → masked_to i name ≡ map masked_byte name
unfolding masked_to
masked_to-all zero [] h = refl
masked_to-all zero (byte ∷ name) h = absurd (omega arith)
masked_to-all (suc i) [] h = refl
masked_to-all (suc i) (byte ∷ name) h = ap (λ rest. masked_byte byte ∷ rest) (masked_to-all i name (omega arith))

-- one byte more
pub masked_turn : (name₀ name : List ℕ) (i byte : ℕ) → i < length name → length name ≡ length name₀ → name ≡ masked_to i name₀
    → byte ≡ masked_byte (get_or name i 0) → set name i byte ≡ masked_to (i + 1) name₀
masked_turn name₀ name i byte h same e b =
    ap (set name i) b ∙ ap (λ l. set l i (masked_byte (get_or l i 0))) e ∙ masked_to-next i name₀ (omega arith)
    ∙ ap (λ k. masked_to k name₀) (sym (add-one i))
