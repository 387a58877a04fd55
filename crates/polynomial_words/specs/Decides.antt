-- What a function with the answer yes or no promises: the answer is true exactly when the fact holds.
use Rattle.std.specs.Prelude.{◌≡◌, refl, Bool, true, false}
use Rattle.std.proofs.Common.{true≢false}
use Rattle.std.proofs.lemmas.Bool.{false≢true}

pub record Decides (answer : Bool) (P : Type 0) : Type 0 where
  pub holds : answer ≡ true → P
  pub fails : answer ≡ false → P → ⊥

pub decides_yes : {P : Type 0} → P → Decides true P
decides_yes h = record { holds = λ e. h; fails = λ e. absurd (true≢false e) }

pub decides_no : {P : Type 0} → (P → ⊥) → Decides false P
decides_no h = record { holds = λ e. absurd (false≢true e); fails = λ e. h }

-- two tests of one fact give the same answer
pub decides_same : {P : Type 0} (a b : Bool) → Decides a P → Decides b P → a ≡ b
decides_same true true da db = refl
decides_same true false da db = absurd (db.fails refl (da.holds refl))
decides_same false true da db = absurd (da.fails refl (db.holds refl))
decides_same false false da db = refl
