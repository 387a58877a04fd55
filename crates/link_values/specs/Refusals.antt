-- What holds of the number and of the place of each refusal that an outcome may be.
use Rattle.std.specs.Prelude.{ℕ, ◌≤◌, ◌≡◌, refl, Bool, true, false}
use Rattle.std.proofs.Common.{sym, subst, le_trans}
use Rattle.words.specs.Outcome.{Outcome, refuse, followed_by, mapped}
use Rattle.words.specs.Outcome.Outcome.{accepted, refused}
use Rattle.words.specs.OutcomeLaws.{refused_accepted, mapped_refused}

pub record Refusals {A : Type 0} (P : ℕ → ℕ → Type 0) (o : Outcome A) : Type 0 where
  pub each : (number place : ℕ) → o ≡ refused number place → P number place

-- numbers from one to another
abbrev pub Numbers : {A : Type 0} (low high : ℕ) → Outcome A → Type 0
Numbers low high o = Refusals (λ number place. (low ≤ number) × (number ≤ high)) o

-- places up to one
abbrev pub Places : {A : Type 0} (most : ℕ) → Outcome A → Type 0
Places most o = Refusals (λ number place. place ≤ most) o

module _ {P : ℕ → ℕ → Type 0} where
  pub refusals_accepted : {A : Type 0} (a : A) → Refusals P (accepted a)
  refusals_accepted a = record { each = λ number place e. absurd (refused_accepted (sym e)) }

  pub refusals_refused : {A : Type 0} (number place : ℕ) → P number place → Refusals {A = A} P (refused number place)
  refusals_refused number place h = record {
    each = λ n k e.
        let same : number ≡ n = cc in
        let here : place ≡ k = cc in
        subst (λ i. P i k) same (subst (P number) here h);
  }

  -- a row of the table, one thing after another, what is handed out of a value
  pub refusals_row : {A : Type 0} (b : Bool) (number place : ℕ) (next : Outcome A) → P number place → (b ≡ false → Refusals P next)
      → Refusals P (refuse b number place next)
  refusals_row true number place next h k = refusals_refused number place h
  refusals_row false number place next h k = k refl

  pub refusals_followed : {A B : Type 0} (o : Outcome A) (next : A → Outcome B) → Refusals P o
      → ((a : A) → o ≡ accepted a → Refusals P (next a)) → Refusals P (followed_by o next)
  refusals_followed (accepted a) next h k = k a refl
  refusals_followed (refused number place) next h k = refusals_refused number place (h.each number place refl)

  pub refusals_mapped : {A B : Type 0} (f : A → B) (o : Outcome A) → Refusals P o → Refusals P (mapped f o)
  refusals_mapped f o h = record { each = λ number place e. h.each number place (mapped_refused f o e) }

  pub refusals_same : {A : Type 0} {o same : Outcome A} → o ≡ same → Refusals P same → Refusals P o
  refusals_same e h = subst (Refusals P) (sym e) h

pub numbers_wider : {low high : ℕ} (least most : ℕ) {A : Type 0} {o : Outcome A} → low ≤ least → most ≤ high → Numbers least most o
    → Numbers low high o
numbers_wider least most l h k =
    record { each = λ number place e. let b = k.each number place e in (le_trans l b.0, le_trans b.1 h) }

pub places_wider : {most : ℕ} (few : ℕ) {A : Type 0} {o : Outcome A} → few ≤ most → Places few o → Places most o
places_wider few h k = record { each = λ number place e. le_trans (k.each number place e) h }
