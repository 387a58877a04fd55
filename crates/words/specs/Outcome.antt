-- What a call gives (document 01, "Turned back"): a value, or a refusal, which is a number of the table and a place.
use Rattle.std.specs.Prelude.{ℕ, Bool, true, false}

pub data Outcome (A : Type 0) : Type 0 where
  accepted : A → Outcome A
  refused : ℕ → ℕ → Outcome A

-- a row of the table: where its condition holds, its number and place; else what comes next
abbrev pub refuse : {A : Type 0} → Bool → ℕ → ℕ → Outcome A → Outcome A
refuse true number place next = refused number place
refuse false number place next = next

-- one thing after another; the first refusal decides
abbrev pub followed_by : {A B : Type 0} → Outcome A → (A → Outcome B) → Outcome B
followed_by (accepted a) next = next a
followed_by (refused number place) next = refused number place

-- what is handed out of a value
abbrev pub mapped : {A B : Type 0} → (A → B) → Outcome A → Outcome B
mapped f (accepted a) = accepted (f a)
mapped f (refused number place) = refused number place
