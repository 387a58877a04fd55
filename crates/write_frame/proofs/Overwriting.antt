-- Words written over the first of those lent, one list behind another.
use mathlib.Core.Path.{◌≡◌, sym, ap, ap₂, ◌∙◌}
use mathlib.Core.List.{List, [], ◌∷◌, ◌++◌, append_assoc, append-nil}
use Prim.Native.Nat.{ℕ, suc, ◌+◌, ◌-◌, ◌≤◌, ◌<◌}
use native.Mathlib.Nat.{le_of_eq}
use native.Mathlib.Omega.{arith}
use lib.ListN.{length, get_or, take, drop, set, length-append, length-drop, drop_of_length-le}
use lib.Seq.{set_split, take_at, take-suc, drop_at, drop-drop, take_all, length-take-le}
use Rattle.write_frame.specs.Overwriting.{overwritten}

pub length_overwritten : (ws lent : List ℕ) → length ws ≤ length lent → length (overwritten ws lent) ≡ length lent
length_overwritten ws lent h = omega (arith, length-append ws (drop (length ws) lent), length-drop (length ws) lent)

-- behind a first list, a second
pub overwritten_append : (vs ws lent : List ℕ) (at : ℕ) → at ≡ length vs
    → take at (overwritten vs lent) ++ overwritten ws (drop at (overwritten vs lent)) ≡ overwritten (vs ++ ws) lent
overwritten_append vs ws lent at e =
    let rest = drop (length vs) lent in
    ap₂ (λ (a b : List ℕ). a ++ overwritten ws b) (take_at vs rest at (sym e)) (drop_at vs rest at (sym e))
    ∙ sym (append_assoc vs ws (drop (length ws) rest))
    ∙ ap (λ (b : List ℕ). (vs ++ ws) ++ b)
    (drop-drop (length ws) (length vs) lent ∙ ap (λ (n : ℕ). drop n lent) (sym (length-append vs ws)))

-- one word
pub set_overwritten : (lent : List ℕ) (at w : ℕ) → at < length lent
    → set lent at w ≡ take at lent ++ overwritten (w ∷ []) (drop at lent)
set_overwritten lent at w h =
    let e : suc at ≡ at + 1 = omega arith in
    set_split lent at w h ∙ ap (λ (r : List ℕ). take at lent ++ w ∷ r) (ap (λ (n : ℕ). drop n lent) e ∙ sym (drop-drop 1 at lent))

-- one word behind a first list
pub set_written : (vs lent now : List ℕ) (at w : ℕ) → now ≡ overwritten vs lent → at ≡ length vs → length vs < length lent
    → set now at w ≡ overwritten (vs ++ w ∷ []) lent
set_written vs lent now at w e l h =
    let size = ap length e ∙ length_overwritten vs lent (omega arith) in
    set_overwritten now at w (omega arith)
    ∙ ap (λ (r : List ℕ). take at r ++ overwritten (w ∷ []) (drop at r)) e
    ∙ overwritten_append vs (w ∷ []) lent at l

-- Words written by a callee to which the slice was lent from `at` on: as the part comes and goes in code.
pub part_over : (ws now : List ℕ) (at : ℕ) (part : List ℕ) → part ≡ overwritten ws (take (length now - at) (drop at now))
    → take at now ++ (part ++ drop (length now - at) (drop at now)) ≡ take at now ++ overwritten ws (drop at now)
part_over ws now at part p =
    let whole : take (length now - at) (drop at now) ≡ drop at now = take_all (length now - at) (drop at now)
    (le_of_eq (length-drop at now)) in
    let none : drop (length now - at) (drop at now) ≡ [] = drop_of_length-le (drop at now) (le_of_eq (length-drop at now)) in
    ap (λ (r : List ℕ). take at now ++ r) (ap (λ (r : List ℕ). part ++ r) none ∙ append-nil part ∙ p ∙ ap (overwritten ws) whole)

-- a second list behind a first
pub part_written : (vs ws lent now : List ℕ) (at : ℕ) (part : List ℕ) → now ≡ overwritten vs lent → at ≡ length vs
    → part ≡ overwritten ws (take (length now - at) (drop at now))
    → take at now ++ (part ++ drop (length now - at) (drop at now)) ≡ overwritten (vs ++ ws) lent
part_written vs ws lent now at part e l p =
    part_over ws now at part p
    ∙ ap (λ (r : List ℕ). take at r ++ overwritten ws (drop at r)) e
    ∙ overwritten_append vs ws lent at l

-- word by word: behind the first i words of a list, the next
pub written_next : (ws lent now : List ℕ) (i d : ℕ) → now ≡ overwritten (take i ws) lent → length ws ≤ length lent → i < length ws
    → set now i (get_or ws i d) ≡ overwritten (take (i + 1) ws) lent
written_next ws lent now i d e room h =
    let n : suc i ≡ i + 1 = omega arith in
    let l = length-take-le i ws (omega arith) in
    set_written (take i ws) lent now i (get_or ws i d) e (sym l) (omega arith)
    ∙ ap (λ (v : List ℕ). overwritten v lent) (sym (take-suc ws i d h) ∙ ap (λ (n : ℕ). take n ws) n)
