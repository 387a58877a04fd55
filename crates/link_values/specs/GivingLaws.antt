-- What a call leaves that is to give a list of numbers, case by case.
use Rattle.std.specs.Prelude.{ℕ, ◌≡◌, List, length}
use Rattle.std.proofs.Common.{sym, ap, ◌∙◌, subst}
use Rattle.words.specs.Outcome.{Outcome, mapped}
use Rattle.words.specs.Outcome.Outcome.{accepted, refused}
use Rattle.answers.specs.Packed.{packed}
use Rattle.write_frame.specs.Overwriting.{overwritten}
use Rattle.writer.specs.Writing.{lent_after}
use Rattle.link_values.specs.Giving.{GivesList, GivesPacked}

-- an outcome under another name
pub gives_as : {outcome same : Outcome (List ℕ)} {entry exit : List ℕ} {answer : Outcome ℕ} → outcome ≡ same
    → GivesList same entry exit answer → GivesList outcome entry exit answer
gives_as {entry = entry} {exit} {answer} e = subst (λ o. GivesList o entry exit answer) (sym e)

pub gives_refusal : {outcome : Outcome (List ℕ)} {number place : ℕ} → outcome ≡ refused number place → (entry : List ℕ)
    → GivesList outcome entry entry (refused number place)
unfolding lent_after
gives_refusal e entry = record { told = sym (ap (mapped length) e); lent = sym (ap (λ o. lent_after o entry) e) }

pub gives_list : {outcome : Outcome (List ℕ)} {xs : List ℕ} → outcome ≡ accepted xs → {entry exit : List ℕ} {n : ℕ} → n ≡ length xs
    → exit ≡ overwritten xs entry → GivesList outcome entry exit (accepted n)
unfolding lent_after
gives_list e {entry} count stands = record {
  told = ap accepted count ∙ sym (ap (mapped length) e);
  lent = stands ∙ sym (ap (λ o. lent_after o entry) e);
}

-- the answer as one number
pub gives_packed : {outcome : Outcome (List ℕ)} {entry exit : List ℕ} {answer : Outcome ℕ} {r : ℕ}
    → GivesList outcome entry exit answer → r ≡ packed answer → GivesPacked outcome entry exit r
gives_packed g packs = record { result = packs ∙ ap packed g.told; lent = g.lent }
