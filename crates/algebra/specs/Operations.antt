-- The operations of a field, without laws: what the executable definitions compute with. The laws are `Field`'s.
use Rattle.std.specs.Prelude.{Bool}

pub record Operations (A : Type 0) : Type 0 where
  pub add : A → A → A
  pub mul : A → A → A
  pub neg : A → A
  pub zero : A
  pub one : A
  -- of everything but zero; what it is at zero does not matter
  pub inverse : A → A
  pub zero? : A → Bool
