-- `vector::sum::add_row` meets its contract: the words stored are the sums, four and four. Assumes nothing.
use mathlib.Core.Path.{◌≡◌, ◌∙◌}
use mathlib.Core.List.{List}
use Prim.Native.Nat.{ℕ, ◌+◌}
use native.Mathlib.Omega.{arith}
use Rattle.vector.specs.Sum.{sum_at, sum_later, first_fit, later_fit}
use Rattle.vector.specs.RowStored.{four_stored, row_stored, row_words}
use Rattle.vector.proofs.sum.add_row.Goals as goal

-- eight values of f are stored where four of them are, and then four of g, which goes on from there
row_of : (f g : ℕ → ℕ) (l : List ℕ) (d : ℕ) {l' l'' : List ℕ} {t u v w t' u' v' w' : ℕ}
    → ((j : ℕ) → g j ≡ f (4 + j))
    → l' ≡ four_stored l d t u v w
    → (t ≡ f 0) × ((u ≡ f 1) × ((v ≡ f 2) × (w ≡ f 3)))
    → l'' ≡ four_stored l' (d + 4) t' u' v' w'
    → (t' ≡ g 0) × ((u' ≡ g 1) × ((v' ≡ g 2) × (w' ≡ g 3)))
    → l'' ≡ row_stored f l d
row_of f g l d on e low e' high =
    let e4 : _ ≡ f 4 = high.0 ∙ on 0 in
    let e5 : _ ≡ f 5 = high.1.0 ∙ on 1 in
    let e6 : _ ≡ f 6 = high.1.1.0 ∙ on 2 in
    let e7 : _ ≡ f 7 = high.1.1.1 ∙ on 3 in
    rw (e', e, low.0, low.1.0, low.1.1.0, low.1.1.1, e4, e5, e6, e7)

pub sums_at-low-requires : goal.sums_at-low-requires
sums_at-low-requires c =
    let start = c in
    let A = start.args in
    first_fit A.h.now A.d A.s.now A.a row_words A.c start.requires 4 (omega arith)

pub sums_at-high-requires : goal.sums_at-high-requires
sums_at-high-requires c =
    let start = c in
    let A = start.args in
    later_fit A.h.now A.d A.s.now A.a row_words A.c start.requires 4 4 (omega arith)

pub store_four-requires-2 : goal.store_four-requires-2
store_four-requires-2 c = omega (arith, c.store_four.auto.h)

pub shape_of-h : goal.shape_of-h
shape_of-h c =
    let second = c in
    second.store_four-2.auto.h ∙ second.store_four.auto.h

pub returns : goal.returns
returns c =
    let second = c in
    let first = second in
    let high = first in
    let low = high in
    let A = low.args in
    row_of
    (sum_at A.h.now A.d A.s.now A.a A.c)
    (sum_at A.h.now (A.d + 4) A.s.now (A.a + 4) A.c)
    A.h.now
    A.d
    (sum_later A.h.now A.d A.s.now A.a A.c 4)
    first.store_four.ensures
    (low.sums_at-low.ensures.first, (low.sums_at-low.ensures.second, (low.sums_at-low.ensures.third, low.sums_at-low.ensures.fourth)))
    second.store_four-2.ensures
    (high.sums_at-high.ensures.first, (high.sums_at-high.ensures.second, (high.sums_at-high.ensures.third, high.sums_at-high.ensures.fourth)))
