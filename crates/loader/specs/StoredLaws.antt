-- A range that is stored anew, as a list: what stands before it, the list of the words stored, and what stands behind them.
use Rattle.std.specs.Prelude.{◌≡◌, List, ◌++◌, ℕ, ◌+◌, ◌-◌, ◌≤◌, ◌<◌, length, get_or, take, drop}
use Rattle.std.proofs.Common.{sym, ap, ◌∙◌, inl, inr, arith, length-append, length-drop, length-take-le, get_or-take, get_or-drop, get_or-append-add, ext_get_or}
use Rattle.std.proofs.Math.Decide.{dec_lt}
use Rattle.std.proofs.Math.ListN.{get_or-append}
use Rattle.vector.specs.Stored.{stored, length_stored, stored_inside, stored_outside}

module _ (f : ℕ → ℕ) (v : List ℕ) (d : ℕ) (g : List ℕ) (same : (j : ℕ) → j < length g → f j ≡ get_or g j 0)
    (room : d + length g ≤ length v) where
  abbrev over : List ℕ
  over = g ++ drop (length g) (drop d v)

  first : length (take d v) ≡ d
  first = length-take-le d v (omega arith)

  behind_at : (j : ℕ) → get_or (take d v ++ over) (d + j) 0 ≡ get_or over j 0
  behind_at j = ap (λ n. get_or (take d v ++ over) (n + j) 0) (sym first) ∙ get_or-append-add (take d v) over j 0

  word_at : (i : ℕ) → Dec (i < d) → Dec (i < d + length g) → get_or (stored f v d (length g)) i 0 ≡ get_or (take d v ++ over) i 0
  word_at i (yes before) e =
      stored_outside f v d (length g) i (inl before)
      ∙ sym (get_or-append (take d v) over 0 i (omega (arith, first)) ∙ get_or-take d v i 0 before)
  word_at i (no from) (yes inside) =
      let n : d + (i - d) ≡ i = omega arith in
      ap (λ x. get_or (stored f v d (length g)) x 0) (sym n)
      ∙ stored_inside f v d (length g) (i - d) room (omega arith)
      ∙ same (i - d) (omega arith)
      ∙ sym (get_or-append g (drop (length g) (drop d v)) 0 (i - d) (omega arith))
      ∙ sym (behind_at (i - d))
      ∙ ap (λ x. get_or (take d v ++ over) x 0) n
  word_at i (no from) (no past) =
      let n : d + (length g + (i - d - length g)) ≡ i = omega arith in
      stored_outside f v d (length g) i (inr (omega arith))
      ∙ ap (λ x. get_or v x 0) (sym n)
      ∙ sym (behind_at (length g + (i - d - length g))
      ∙ get_or-append-add g (drop (length g) (drop d v)) (i - d - length g) 0
      ∙ get_or-drop (length g) (drop d v) (i - d - length g) 0
      ∙ get_or-drop d v (length g + (i - d - length g)) 0)
      ∙ ap (λ x. get_or (take d v ++ over) x 0) n

  pub stored_list : stored f v d (length g) ≡ take d v ++ (g ++ drop (length g) (drop d v))
  stored_list =
      let behind = length-drop d v in
      let all = length_stored f v d (length g) in
      ext_get_or 0 (stored f v d (length g)) (take d v ++ over)
      (omega (
        arith,
        length-append (take d v) over,
        first,
        length-append g (drop (length g) (drop d v)),
        length-drop (length g) (drop d v),
      ))
      (λ i lt. word_at i (dec_lt i d) (dec_lt i (d + length g)))
