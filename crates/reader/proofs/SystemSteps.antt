-- A whole system, from what is told of its head and of the words behind it.
use mathlib.Core.Path.{◌≡◌, refl, sym, ap, ◌∙◌}
use mathlib.Core.List.{List}
use Prim.Native.Nat.{ℕ, ◌+◌, ◌≤◌}
use native.Mathlib.Omega.{arith}
use lib.ListN.{length, drop}
use Rattle.words.specs.Limits.{Limits}
use Rattle.words.specs.Outcome.{Outcome, mapped}
use Rattle.words.specs.Outcome.Outcome.{accepted, refused}
use Rattle.words.specs.Reading.{outcome}
use Rattle.words.specs.Reading.Reading.{read}
use Rattle.words.specs.Frame.{framed_from}
use Rattle.words.specs.Systems.{Head, systems_head, systems_head_from, systems_due, systems_of, systems_from, read_systems}
use Rattle.words.proofs.SystemsLaws.{systems_from_shown}
use Rattle.words.proofs.HeadLaws.{head_read}
use Rattle.reader.proofs.FrameSteps.{mapped_outcome, OfFrame, OfBody, frame_head_refused, frame_some, frame_body_refused}
use Rattle.reader.proofs.FrameSteps.{frame_read}

module _ (limits : Limits) (ws : List ℕ) where
  one_word : (h : Head) (rest : List ℕ) → systems_head_from limits ws ≡ read h rest → (1 ≤ length ws) × (rest ≡ drop 1 ws)
  one_word h rest e = let r = (head_read limits ws h rest e).words in (omega (arith, ap length r), sym (ap (drop 1) r))

  abbrev pub OfSystem : Outcome Head
  OfSystem = mapped systems_head (read_systems limits ws)

  shown : OfSystem ≡ OfFrame 0 (systems_head_from limits) (systems_due limits) ws
  unfolding systems_from systems_of
  shown =
      ap (mapped systems_head) (systems_from_shown limits ws)
      ∙ mapped_outcome (length ws) (framed_from 0 (systems_head_from limits) (systems_due limits) ws) systems_of systems_head
      (λ v. v.head)
      (λ v. refl)

  pub system_head_refused : (number place : ℕ) → refused number place ≡ outcome (length ws) (systems_head_from limits ws)
      → OfSystem ≡ refused number place
  system_head_refused number place t = shown ∙ frame_head_refused 0 (systems_head_from limits) (systems_due limits) ws number place t

  module _ (h : Head) (told : accepted h ≡ outcome (length ws) (systems_head_from limits ws)) where
    pub system_some : 1 ≤ length ws
    system_some = frame_some 0 (systems_head_from limits) (systems_due limits) ws one_word h told

    pub system_body_refused : (number place : ℕ) → refused number place ≡ OfBody 0 (systems_head_from limits) (systems_due limits) ws h
        → OfSystem ≡ refused (number + 0) place
    system_body_refused number place t =
        shown ∙ frame_body_refused 0 (systems_head_from limits) (systems_due limits) ws one_word h told number place t

    pub system_read : (used : ℕ) → accepted used ≡ OfBody 0 (systems_head_from limits) (systems_due limits) ws h
        → OfSystem ≡ accepted h
    system_read used t = shown ∙ frame_read 0 (systems_head_from limits) (systems_due limits) ws one_word h told used t
