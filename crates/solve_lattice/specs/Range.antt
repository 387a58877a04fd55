-- What the loops of `vector` do to a range of words, said of the residues that stand there.
use Rattle.std.specs.Prelude.{ℕ, ◌+◌, ◌-◌, ◌%◌, ◌<◌, ◌≤◌, ◌≡◌, refl, ◌⊎◌, List, [], ◌∷◌, length, get_or}
use Rattle.std.proofs.Common.{sym, ◌∙◌, ap, ap₂, inl, inr, ⊎_elim, arith}
use Rattle.std.proofs.Math.Decide.{dec_le}
use Rattle.ring.specs.Identity.{quotes, identity}
use Rattle.modular.specs.Prime.{Prime}
use Rattle.modular.specs.Residue.{residues}
use Rattle.vector.specs.Stored.{stored, stored_inside, stored_outside, below_or_not}
use Rattle.vector.specs.Multiple.{sum_at}
use Rattle.solve_lattice.specs.Word.{residue, residue_same, same_residue, residue_zero, zero_residue, residue_mod}
use Rattle.solve_lattice.specs.Word.{residue_less}
use Rattle.solve_lattice.specs.Word.{words, words_inside, words_behind, words_first}
use Rattle.solve_lattice.specs.Memory.{ZeroFrom, Ends}

-- sizes compared
pub ends_most : {p : ℕ} (l : List ℕ) (b n k m : ℕ) → Ends p l b n k → ZeroFrom p l b n m → k ≤ m
ends_most l b n k m ends zero = go (dec_le k m)
  where
    go : Dec (k ≤ m) → k ≤ m
    go (yes h) = h
    go (no h) = absurd (omega (arith, ends.last (omega arith), zero (k - 1) (omega arith) (omega (arith, ends.within))))

pub ends_unique : {p : ℕ} (l : List ℕ) (b n k m : ℕ) → Ends p l b n k → Ends p l b n m → k ≡ m
ends_unique l b n k m x y = omega (arith, ends_most l b n k m x y.behind, ends_most l b n m k y x.behind)

module _ (p : ℕ) (prime : Prime p) where
  open (residues p prime).ring use {add as ◌⊕◌, mul as ◌⊗◌, neg as ⊝◌, zero as 𝟎}

  infixl 65 ◌⊕◌
  infixl 70 ◌⊗◌
  infix 75 ⊝◌
  -- the same words modulo p
  pub words_same : (l m : List ℕ) (b c n j : ℕ) → (j < n → get_or l (b + j) 0 % p ≡ get_or m (c + j) 0 % p)
      → words p prime l b n j ≡ words p prime m c n j
  words_same l m b c n j e =
      ⊎_elim
      (λ lt. words_inside p prime l b n j lt ∙ residue_same p prime _ _ (e lt) ∙ sym (words_inside p prime m c n j lt))
      (λ ge. words_behind p prime l b n j ge ∙ sym (words_behind p prime m c n j ge))
      (below_or_not j n)

  -- a range apart from the one that is stored to
  pub words_apart : (f : ℕ → ℕ) (l : List ℕ) (d m b n : ℕ) → (b + n ≤ d) ⊎ (d + m ≤ b)
      → (j : ℕ) → words p prime (stored f l d m) b n j ≡ words p prime l b n j
  words_apart f l d m b n apart j = words_same (stored f l d m) l b b n j (λ lt. ap (λ x. x % p) (stored_outside f l d m (b + j)
      (⊎_elim (λ lo. inl (omega arith)) (λ hi. inr (omega arith)) apart)))

  -- words that are 0 modulo p
  pub words_zero : (l : List ℕ) (b n k : ℕ) → ZeroFrom p l b n k → (j : ℕ) → k ≤ j → words p prime l b n j ≡ 𝟎
  words_zero l b n k z j h =
      ⊎_elim (λ lt. words_inside p prime l b n j lt ∙ residue_zero p prime _ (z j h lt)) (words_behind p prime l b n j)
      (below_or_not j n)

  -- the first words, where those behind them are 0 modulo p
  pub words_shorter : (l : List ℕ) (b n m : ℕ) → m ≤ n → ZeroFrom p l b n m → (j : ℕ)
      → words p prime l b n j ≡ words p prime l b m j
  words_shorter l b n m le z j =
      ⊎_elim
      (λ lt. words_inside p prime l b n j (omega arith) ∙ sym (words_inside p prime l b m j lt))
      (λ ge. words_zero l b n m z j ge ∙ sym (words_behind p prime l b m j ge))
      (below_or_not j m)

  pub zero_word : (l : List ℕ) (b n j : ℕ) → j < n → words p prime l b n j ≡ 𝟎 → get_or l (b + j) 0 % p ≡ 0
  zero_word l b n j lt e = zero_residue p prime _ (sym (words_inside p prime l b n j lt) ∙ e)

  -- ranges of equal residues have equal sizes
  module _ (l l' : List ℕ) (b b' n n' : ℕ) (same : (j : ℕ) → words p prime l b n j ≡ words p prime l' b' n' j) where
    pub zero_from_same : (k : ℕ) → ZeroFrom p l b n k → ZeroFrom p l' b' n' k
    zero_from_same k z j h lt = zero_word l' b' n' j lt (sym (same j) ∙ words_zero l b n k z j h)

    pub ends_same : (k : ℕ) → k ≤ n' → Ends p l b n k → Ends p l' b' n' k
    ends_same k h e = record { within = h; last = last; behind = zero_from_same k e.behind }
      where
        last : 0 < k → 0 < get_or l' (b' + (k - 1)) 0 % p
        last some =
            let lt : k - 1 < n = omega (arith, e.within) in
            let lt' : k - 1 < n' = omega arith in
            let equal : get_or l (b + (k - 1)) 0 % p ≡ get_or l' (b' + (k - 1)) 0 % p =
            same_residue p prime _ _
            (sym (words_inside p prime l b n (k - 1) lt) ∙ same (k - 1) ∙ words_inside p prime l' b' n' (k - 1) lt') in
            omega (arith, e.last some)

  -- `add_scaled`: a times m words of s from b on is taken off l from the place d on
  module _ (l l' s : List ℕ) (d b m n N a : ℕ) (stores : l' ≡ stored (sum_at l d s b (p - a)) l d m) (small : a < p)
      (inside : d + m ≤ N) (room : d + m ≤ length l) (behind : ZeroFrom p s b n m) (fits : m ≤ n) where
    outside : (i : ℕ) → (i < d) ⊎ (d + m ≤ i) → words p prime l' 0 N i ≡ words p prime l 0 N i
    outside i out = words_same l' l 0 0 N i (λ lt. ap (λ x. x % p) (ap (λ w. get_or w (0 + i) 0) stores
        ∙ stored_outside (sum_at l d s b (p - a)) l d m (0 + i) (⊎_elim (λ lo. inl (omega arith)) (λ hi. inr (omega arith)) out)))

    pub words_lower : (x : ℕ) → x < d → words p prime l' 0 N x ≡ words p prime l 0 N x
    words_lower x h = outside x (inl h)

    pub words_upper : (x : ℕ)
        → words p prime l' 0 N (d + x) ≡ words p prime l 0 N (d + x) ⊕ (⊝ (residue p prime a ⊗ words p prime s b n x))
    words_upper x =
        ⊎_elim
        (λ lt.
        let lt_N : d + x < N = omega arith in
        let lt_n : x < n = omega arith in
        words_first p prime l' N (d + x) lt_N
        ∙ ap (λ w. residue p prime (get_or w (d + x) 0)) stores
        ∙ ap (residue p prime) (stored_inside (sum_at l d s b (p - a)) l d m x (omega arith) lt)
        ∙ residue_less p prime (get_or l (d + x) 0) a (get_or s (b + x) 0) small
        ∙ sym (ap₂ (λ y z. y ⊕ (⊝ (residue p prime a ⊗ z)))
        (words_first p prime l N (d + x) lt_N) (words_inside p prime s b n x lt_n)))
        (λ ge.
        outside (d + x) (inr (omega arith))
        ∙ sym (ap (λ y. words p prime l 0 N (d + x) ⊕ (⊝ (residue p prime a ⊗ y))) (words_zero s b n m behind x ge)
        ∙ identity (residues p prime).ring (words p prime l 0 N (d + x) ∷ residue p prime a ∷ [])
        (λ ρ qh qa. search quotes depth 16) refl))
        (below_or_not x m)

    -- words that are 0 modulo p stay so where the words of s are 0 too
    pub zero_kept : (j k : ℕ) → ZeroFrom p s b n j → d + j ≤ k → ZeroFrom p l 0 N k → ZeroFrom p l' 0 N k
    zero_kept j k none from zero i h lt =
        let place : d + (i - d) ≡ i = omega arith in
        zero_word l' 0 N i lt
        (sym (ap (words p prime l' 0 N) place)
        ∙ words_upper (i - d)
        ∙ ap₂ (λ y z. y ⊕ (⊝ (residue p prime a ⊗ z)))
        (ap (words p prime l 0 N) place ∙ words_zero l 0 N k zero i h) (words_zero s b n j none (i - d) (omega arith))
        ∙ identity (residues p prime).ring (residue p prime a ∷ []) (λ ρ qa. search quotes depth 16) refl)

  -- `exchange`: m words of h and of s from b on change places, all behind being 0 modulo p
  module _ (h s : List ℕ) (b m n N : ℕ) (fits : m ≤ n) (wider : n ≤ N) (room : m ≤ length h) (slot_room : b + n ≤ length s)
      (behind : ZeroFrom p h 0 N m) (slot_behind : ZeroFrom p s b n m) where
    pub words_hand : (x : ℕ) → words p prime (stored (λ j. get_or s (b + j) 0) h 0 m) 0 N x ≡ words p prime s b n x
    words_hand x =
        ⊎_elim
        (λ lt.
        let lt_N : x < N = omega arith in
        let lt_n : x < n = omega arith in
        words_inside p prime h' 0 N x lt_N
        ∙ ap (residue p prime) (stored_inside (λ j. get_or s (b + j) 0) h 0 m x (omega arith) lt)
        ∙ sym (words_inside p prime s b n x lt_n))
        (λ ge. words_zero h' 0 N m zero x ge ∙ sym (words_zero s b n m slot_behind x ge))
        (below_or_not x m)
      where
        h' : List ℕ
        h' = stored (λ j. get_or s (b + j) 0) h 0 m

        zero : ZeroFrom p (stored (λ j. get_or s (b + j) 0) h 0 m) 0 N m
        zero j ge lt = ap (λ y. y % p) (stored_outside (λ j. get_or s (b + j) 0) h 0 m (0 + j) (inr (omega arith))) ∙ behind j ge lt

    pub words_slot : (x : ℕ) → words p prime (stored (λ j. get_or h j 0 % p) s b m) b n x ≡ words p prime h 0 N x
    words_slot x =
        ⊎_elim
        (λ lt.
        let lt_N : x < N = omega arith in
        let lt_n : x < n = omega arith in
        words_inside p prime s' b n x lt_n
        ∙ ap (residue p prime) (stored_inside (λ j. get_or h j 0 % p) s b m x (omega arith) lt)
        ∙ residue_mod p prime (get_or h x 0)
        ∙ sym (words_first p prime h N x lt_N))
        (λ ge. words_zero s' b n m zero x ge ∙ sym (words_zero h 0 N m behind x ge))
        (below_or_not x m)
      where
        s' : List ℕ
        s' = stored (λ j. get_or h j 0 % p) s b m

        zero : ZeroFrom p (stored (λ j. get_or h j 0 % p) s b m) b n m
        zero j ge lt = ap (λ y. y % p) (stored_outside (λ j. get_or h j 0 % p) s b m (b + j) (inr (omega arith)))
            ∙ slot_behind j ge lt
