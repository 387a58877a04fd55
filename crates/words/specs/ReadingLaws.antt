-- A reading that reads something: what each of its steps gave. And what a caller is told of several steps.
use Rattle.std.specs.Prelude.{◌≡◌, refl, Bool, true, false, not, ◌&&◌, List, ℕ}
use Rattle.std.proofs.Common.{ap, arith}
use Rattle.words.specs.Outcome.Outcome.{accepted}
use Rattle.words.specs.Reading.{Reading, turn_back, and_then, renumber, outcome, words_used}
use Rattle.words.specs.Reading.Reading.{read, fault}

-- ---- what was read

-- a refusal reads nothing
pub fault_read : {A : Type 0} {number : ℕ} {ws : List ℕ} {a : A} {rest : List ℕ} → fault number ws ≡ read a rest → ⊥
fault_read e = let z : ◌≡◌ {A = ℕ} 0 1 = cc in omega arith

-- a row that was passed
pub turn_back_read : {A : Type 0} (b : Bool) (number : ℕ) (ws : List ℕ) (next : Reading A) {a : A} {rest : List ℕ}
    → turn_back b number ws next ≡ read a rest → (b ≡ false) × (next ≡ read a rest)
turn_back_read true number ws next e = absurd (fault_read e)
turn_back_read false number ws next e = (refl, e)

pub and_then_read : {A B : Type 0} (r : Reading A) {next : A → List ℕ → Reading B} {b : B} {rest : List ℕ}
    → and_then r next ≡ read b rest → (a : A) × (mid : List ℕ) × (r ≡ read a mid) × (next a mid ≡ read b rest)
and_then_read (read a mid) e = (a, mid, refl, e)
and_then_read (fault number ws) e = absurd (fault_read e)

pub renumber_read : {A : Type 0} (by : ℕ) (r : Reading A) {a : A} {rest : List ℕ} → renumber by r ≡ read a rest → r ≡ read a rest
renumber_read by (read a mid) e = e
renumber_read by (fault number ws) e = absurd (fault_read e)

-- both parts of a test that was passed
pub and_passed : (a b : Bool) → not (a && b) ≡ false → (a ≡ true) × (b ≡ true)
and_passed true true e = (refl, refl)
and_passed true false e = absurd (let z : ◌≡◌ {A = ℕ} 0 1 = cc in omega arith)
and_passed false b e = absurd (let z : ◌≡◌ {A = ℕ} 0 1 = cc in omega arith)

-- ---- what a caller is told

pub outcome_accepted : {A : Type 0} (total : ℕ) (r : Reading A) (a : A) → outcome total r ≡ accepted a
    → (rest : List ℕ) × (r ≡ read a rest)
outcome_accepted total (read b rest) a e = (rest, let eb : b ≡ a = cc in ap (λ (x : _). read x rest) eb)
outcome_accepted total (fault number ws) a e = absurd (let z : ◌≡◌ {A = ℕ} 0 1 = cc in omega arith)

-- a value that is only put together from what was read
pub words_used_map : {A B : Type 0} (total : ℕ) (r : Reading A) (g : A → B)
    → words_used total (and_then r (λ a rest. read (g a) rest)) ≡ words_used total r
words_used_map total (read a rest) g = refl
words_used_map total (fault number ws) g = refl
