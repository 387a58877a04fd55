-- A packed answer taken apart, as include/yezsdolak.h does: the number is what is left by 64, the place or the count what is above
-- it.
use Rattle.std.specs.Prelude.{ℕ, ◌+◌, ◌*◌, ◌/◌, ◌%◌, ◌≤◌, ◌≡◌, refl, ◌↔◌, not, List, length, take, drop, eqb}
use Rattle.std.proofs.Common.{sym, ap, ap₂, ◌∙◌, arith, take_at, ne_eqb}
use Rattle.words.specs.Outcome.{Outcome, refuse, mapped}
use Rattle.words.specs.Outcome.Outcome.{accepted, refused}
use Rattle.words.specs.OutcomeLaws.{refused_accepted, mapped_refused}
use Rattle.answers.specs.Packed.{packed, place_unit, number_most}
use Rattle.writer.specs.Writing.{lent_after}
use Rattle.link_values.specs.Refusals.{Numbers, refusals_mapped}
use Rattle.link_values.specs.Giving.{GivesPacked}

-- a refusal of this number, where it is not 0
abbrev pub refused_unless0 : {A : Type 0} → (number place : ℕ) → A → Outcome A
refused_unless0 number place a = refuse (not (eqb number 0)) number place (accepted a)

abbrev pub unpacked : ℕ → Outcome ℕ
unpacked r = refused_unless0 (r % place_unit) (r / place_unit) (r / place_unit)

pub refused_by : {A : Type 0} (number place : ℕ) (a : A) → 1 ≤ number → refused_unless0 number place a ≡ refused number place
refused_by number place a h =
    ap (λ b. refuse (not b) number place (accepted a)) (ne_eqb number 0 (λ e. omega arith))

module _ (number place : ℕ) (small : number ≤ number_most) where
  pub packed_number : (place_unit * place + number) % place_unit ≡ number
  packed_number = omega arith

  pub packed_place : (place_unit * place + number) / place_unit ≡ place
  packed_place = omega arith

pub unpacked_packed : (answer : Outcome ℕ) → Numbers 1 number_most answer → unpacked (packed answer) ≡ answer
unpacked_packed (accepted count) h =
    let number : place_unit * count % place_unit ≡ 0 = omega arith in
    let above : place_unit * count / place_unit ≡ count = omega arith in
    ap₂ (λ n k. refused_unless0 n k k) number above
unpacked_packed (refused number place) h =
    let between = h.each number place refl in
    ap₂ (λ n k. refused_unless0 n k k) (packed_number number place between.1) (packed_place number place between.1)
    ∙ refused_by number place place between.0

-- a refusal of that number at that place, just where the packed number says so
pub packed_refused_iff : (answer : Outcome ℕ) → Numbers 1 number_most answer → (number place : ℕ) → 1 ≤ number → number ≤ number_most
    → (packed answer ≡ place_unit * place + number) ↔ (answer ≡ refused number place)
packed_refused_iff (accepted count) h number place l m = (λ e. absurd (omega arith), λ e. absurd (refused_accepted (sym e)))
packed_refused_iff (refused n k) h number place l m =
    let between = h.each n k refl in
    (λ e. ap₂ refused (omega arith) (omega arith), λ e. ap packed e)

-- ---- what a call leaves that is to give a list of numbers

-- where it counts: the first so many of the lent numbers are the list
pub given_counted : (outcome : Outcome (List ℕ)) {entry exit : List ℕ} {r : ℕ} → Numbers 1 number_most outcome
    → GivesPacked outcome entry exit r → r % place_unit ≡ 0 → outcome ≡ accepted (take (r / place_unit) exit)
unfolding lent_after
given_counted (accepted xs) {entry} {exit} {r} h g none =
    let count : r / place_unit ≡ length xs = omega (arith, g.result) in
    ap accepted (sym (ap (take (r / place_unit)) g.lent ∙ take_at xs (drop (length xs) entry) (r / place_unit) (sym count)))
given_counted (refused number place) h g none =
    let between = h.each number place refl in
    absurd (omega (arith, g.result))

-- where it refuses: that is the refusal, and the lent numbers stand as before
pub given_refused : (outcome : Outcome (List ℕ)) {entry exit : List ℕ} {r : ℕ} → Numbers 1 number_most outcome
    → GivesPacked outcome entry exit r → ¬ (r % place_unit ≡ 0)
    → (outcome ≡ refused (r % place_unit) (r / place_unit)) × (exit ≡ entry)
unfolding lent_after
given_refused (accepted xs) h g some = absurd (some (omega (arith, g.result)))
given_refused (refused number place) {r = r} h g some =
    let between = h.each number place refl in
    let same : number ≡ r % place_unit = omega (arith, g.result) in
    let here : place ≡ r / place_unit = omega (arith, g.result) in
    (ap₂ refused same here, g.lent)

pub given_refused_iff : (outcome : Outcome (List ℕ)) {entry exit : List ℕ} {r : ℕ} → Numbers 1 number_most outcome
    → GivesPacked outcome entry exit r → (number place : ℕ) → 1 ≤ number → number ≤ number_most
    → (r ≡ place_unit * place + number) ↔ (outcome ≡ refused number place)
given_refused_iff outcome h g number place l m =
    let iff = packed_refused_iff (mapped length outcome) (refusals_mapped length outcome h) number place l m in
    (λ e. mapped_refused length outcome (iff.0 (sym g.result ∙ e)), λ e. g.result ∙ iff.1 (ap (mapped length) e))
