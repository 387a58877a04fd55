-- Outcomes taken apart: what stood behind one that was accepted, or refused.
use Rattle.std.specs.Prelude.{◌≡◌, refl, ◌⊎◌, ◌↔◌, Bool, true, false, ℕ}
use Rattle.std.proofs.Common.{sym, ap, inl, inr, ⊎_elim, arith}
use Rattle.words.specs.Outcome.{Outcome, refuse, followed_by, mapped}
use Rattle.words.specs.Outcome.Outcome.{accepted, refused}

-- a refusal gives no value
pub refused_accepted : {A : Type 0} {number place : ℕ} {a : A} → refused number place ≡ accepted a → ⊥
refused_accepted e = let z : ◌≡◌ {A = ℕ} 0 1 = cc in omega arith

module _ {A B : Type 0} where
  pub mapped_accepted : (f : A → B) (o : Outcome A) {b : B} → mapped f o ≡ accepted b → (a : A) × (o ≡ accepted a) × (f a ≡ b)
  mapped_accepted f (accepted a) e = (a, refl, cc)
  mapped_accepted f (refused number place) e = absurd (refused_accepted e)

  pub mapped_refused : (f : A → B) (o : Outcome A) {number place : ℕ} → mapped f o ≡ refused number place → o ≡ refused number place
  mapped_refused f (accepted a) e = absurd (let z : ◌≡◌ {A = ℕ} 0 1 = cc in omega arith)
  mapped_refused f (refused n p) e = cc

  -- just where the value is refused
  pub mapped_refused_iff : (f : A → B) (o : Outcome A) (Others : (number place : ℕ) → Type 0)
      → ((n k : ℕ) → (o ≡ refused n k) ↔ Others n k) → (n k : ℕ) → (mapped f o ≡ refused n k) ↔ Others n k
  mapped_refused_iff f o Others iff n k = (λ e. (iff n k).0 (mapped_refused f o e), λ t. ap (mapped f) ((iff n k).1 t))

  pub followed_by_accepted : (o : Outcome A) (next : A → Outcome B) {b : B} → followed_by o next ≡ accepted b
      → (a : A) × (o ≡ accepted a) × (next a ≡ accepted b)
  followed_by_accepted (accepted a) next e = (a, refl, e)
  followed_by_accepted (refused number place) next e = absurd (refused_accepted e)

-- a row that was passed
pub refuse_passed : {A : Type 0} (t : Bool) (number place : ℕ) (next : Outcome A) {a : A} → refuse t number place next ≡ accepted a
    → (t ≡ false) × (next ≡ accepted a)
refuse_passed true number place next e = absurd (refused_accepted e)
refuse_passed false number place next e = (refl, e)

pub passed_refuse : {A : Type 0} (t : Bool) (number place : ℕ) (next : Outcome A) {a : A} → t ≡ false → next ≡ accepted a
    → refuse t number place next ≡ accepted a
passed_refuse true number place next e h = absurd (let z : ◌≡◌ {A = ℕ} 0 1 = cc in omega arith)
passed_refuse false number place next e h = h

-- a row refuses where its condition holds, and else what comes next does
pub refuse_refused_iff : {A : Type 0} (t : Bool) (number place : ℕ) (next : Outcome A) (n k : ℕ)
    → (refuse t number place next ≡ refused n k)
    ↔ (((t ≡ true) × (n ≡ number) × (k ≡ place)) ⊎ ((t ≡ false) × (next ≡ refused n k)))
refuse_refused_iff true number place next n k =
    (λ e. inl (refl, cc, cc), ⊎_elim (λ r. let en = r.1 in let ek = r.2 in cc) (λ r. let z = r.0 in cc))
refuse_refused_iff false number place next n k = (λ e. inr (refl, e), ⊎_elim (λ r. let z = r.0 in cc) (λ r. r.1))

-- one after which a row is tried
pub behind_refused_iff : {A : Type 0} (o : Outcome A) (t : Bool) (number place n k : ℕ)
    → (followed_by o (λ a. refuse t number place (accepted a)) ≡ refused n k)
    ↔ ((o ≡ refused n k) ⊎ (((a : A) × (o ≡ accepted a)) × (t ≡ true) × (n ≡ number) × (k ≡ place)))
behind_refused_iff {A} (refused m j) t number place n k =
    (inl, ⊎_elim (λ e. e) (λ h. absurd (refused_accepted h.0.1)))
behind_refused_iff (accepted a) t number place n k =
    let row = refuse_refused_iff t number place (accepted a) n k in (
      λ e. ⊎_elim (λ h. inr ((a, refl), h.0, h.1, h.2)) (λ h. absurd (refused_accepted (sym h.1))) (row.0 e),
      ⊎_elim (λ e. absurd (refused_accepted (sym e))) (λ h. row.1 (inl (h.1, h.2, h.3))),
    )
