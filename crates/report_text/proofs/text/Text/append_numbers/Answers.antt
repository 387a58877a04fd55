use Prim.Native.Nat.{ℕ, ◌+◌, ◌<◌}
use mathlib.Core.Path.{◌≡◌, refl, ap}
use mathlib.Core.List.{List, [], ◌∷◌, ◌++◌, map}
use native.Mathlib.Numerals.{add-one}
use lib.ListN.{length, get_or, drop, drop_of_length-le}
use lib.Seq.{drop-cons}
use Rattle.report_text.specs.declared.text.Text.{Text}
use Rattle.report_text.specs.Decimal.{decimal}
use Rattle.report_text.specs.Text.{spaced, all_spaced}
use Rattle.report_text.proofs.Due.{joined, Due, due_all, due_room, due_next, due_none}
use Rattle.report_text.proofs.text.Text.append_numbers.Goals as goal

-- the numbers as parts
abbrev parts : List ℕ → List (List ℕ)
parts numbers = map (λ n. spaced (decimal n)) numbers

parts-joined : (numbers : List ℕ) → all_spaced (map decimal numbers) ≡ joined (parts numbers)
parts-joined [] = refl
parts-joined (n ∷ numbers) = ap (λ t. spaced (decimal n) ++ t) (parts-joined numbers)

-- the number at i is the first of those due
due_at : (numbers : List ℕ) {more : List ℕ} {before text : Text} (i : ℕ) → i < length numbers
    → Due more before (parts (drop i numbers)) text
    → Due more before (spaced (decimal (get_or numbers i 0)) ∷ parts (drop (i + 1) numbers)) text
due_at numbers i h due = rw add-one (rw (drop-cons numbers i 0 h) at due)

pub loop-n-init : goal.loop-n-init
loop-n-init c = due_all _ (parts-joined c.args.numbers.now) c.requires

pub append_number-requires : goal.append_number-requires
append_number-requires c = due_room (due_at c.args.numbers.now _ c.loop-n-test.true c.loop-n.invariant)

pub loop-n-preserved : goal.loop-n-preserved
loop-n-preserved c = due_next (due_at c.args.numbers.now _ c.loop-n-test.true c.loop-n.invariant) c.append_number.ensures

pub returns : goal.returns
returns c = due_none (rw (drop_of_length-le c.args.numbers.now c.loop-n-test.false) at c.loop-n.invariant)
