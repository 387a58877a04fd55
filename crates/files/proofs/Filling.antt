-- A list written over the first of the lent numbers, one after another: those before a place are the list's, those from it on are
-- as they were lent.
use mathlib.Core.Path.{◌≡◌, sym, ap, ◌∙◌}
use mathlib.Core.List.{List, ◌∷◌, ◌++◌}
use Prim.Native.Nat.{ℕ, suc, ◌≤◌, ◌<◌}
use native.Mathlib.Omega.{arith}
use lib.ListN.{length, get_or, take, drop, set, length-append, length-drop}
use lib.Seq.{length-take-le, take-suc, drop-cons, set_at, append_snoc}

abbrev pub filled : (list before : List ℕ) (place : ℕ) → List ℕ
filled list before place = take place list ++ drop place before

module _ (list before : List ℕ) (place : ℕ) where
  pub filled_length : place ≤ length list → place ≤ length before → length (filled list before place) ≡ length before
  filled_length known room =
      omega (
        arith,
        length-append (take place list) (drop place before),
        length-take-le place list known,
        length-drop place before,
      )

  pub filled_next : (now : List ℕ) (x : ℕ) → now ≡ filled list before place → place < length list → place < length before
      → x ≡ get_or list place 0 → (next : ℕ) → next ≡ suc place → set now place x ≡ filled list before next
  filled_next now x is known room e next one =
      ap (λ (v : List ℕ). set v place x) (is ∙ ap (λ (v : List ℕ). take place list ++ v) (drop-cons before place 0 room))
      ∙ set_at (take place list) (get_or before place 0) (drop (suc place) before) x place (length-take-le place list (omega arith))
      ∙ ap (λ (y : ℕ). take place list ++ y ∷ drop (suc place) before) e
      ∙ sym (append_snoc (take place list) (get_or list place 0) (drop (suc place) before))
      ∙ ap (λ (v : List ℕ). v ++ drop (suc place) before) (sym (take-suc list place 0 known))
      ∙ ap (filled list before) (sym one)
