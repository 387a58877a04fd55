-- A system that was written on words of one's own.
use Rattle.std.specs.Prelude.{Ok, Err}
use Prim.Native.Nat.{ℕ, ◌≤◌}
use mathlib.Core.Path.{◌≡◌, sym, ap, ◌∙◌}
use mathlib.Core.List.{List}
use native.Mathlib.Nat.{min-le_right}
use native.Mathlib.Omega.{arith}
use lib.ListN.{length, take, length-take}
use Rattle.words.specs.Outcome.{Outcome, mapped}
use Rattle.words.specs.Outcome.Outcome.{refused}
use Rattle.words.specs.OutcomeLaws.{mapped_refused}
use Rattle.answers.specs.declared.answer.Refusal.{Refusal}
use Rattle.answers.specs.Answer.{reason_number}
use Rattle.writer.specs.Writing.{Writes}
use Rattle.writer.specs.WrittenLaws.{count_words}

module _ {outcome : Outcome (List ℕ)} {entry exit : List ℕ} where
  pub was_refused : {r : Refusal} → Writes outcome entry (Err r) exit → outcome ≡ refused (reason_number r.reason) r.place
  was_refused w = mapped_refused length outcome (sym w.told)

  -- so many words, which are the first
  module _ {n : ℕ} (w : Writes outcome entry (Ok n) exit) where
    pub counted_length : n ≡ length (take n exit)
    counted_length = let e = w.told ∙ ap (mapped length) (count_words outcome w) in cc

    pub counted_fits : n ≤ length exit
    counted_fits = omega (arith, counted_length, length-take n exit, min-le_right n (length exit))
