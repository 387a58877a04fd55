-- What is handed on, by what reading gave and what the solver answered.
use Rattle.std.specs.Prelude.{ℕ, ◌≤◌, ◌≡◌, List, Result, Ok, Err, length, take}
use Rattle.std.specs.declared.io.Error.{Error}
use Rattle.std.proofs.Math.Path.{refl, subst}
use Rattle.std.proofs.Common.{sym, ap, le-ltb}
use Rattle.streams.specs.Seen.{certificate_file_bytes}
use Rattle.words.specs.Limits.{office}
use Rattle.words.specs.Outcome.{Outcome, refuse}
use Rattle.words.specs.Outcome.Outcome.{accepted, refused}
use Rattle.words.specs.System.{System}
use Rattle.words.specs.Bytes.{read_line_file}
use Rattle.answers.specs.declared.answer.Refusal.{Refusal}
use Rattle.answers.specs.Answer.{counted_outcome}
use Rattle.solver.specs.Solving.{with_room, certificate_bytes, SolvesOr, SolvesFile}
use Rattle.solver.specs.SolvingLaws.{solves_fits}
use Rattle.linksolve.specs.declared.Unsolved.{Unsolved}
use Rattle.linksolve.specs.declared.Unsolved.TheVariants as unsolved
use Rattle.linksolve.specs.Replying.{Replies}

-- with bytes enough lent, what was read is the system to solve
room_enough : (lent : ℕ) → certificate_file_bytes ≤ lent → (read : Outcome System) → with_room certificate_file_bytes lent read ≡ read
room_enough lent h (accepted s) = ap (λ b. refuse b 11 0 (accepted s)) (le-ltb lent certificate_file_bytes h)
room_enough lent h (refused number place) = refl

module _ (k : ℕ) (file entry exit : List ℕ) where
  pub replies_nothing : {i : Result ℕ Error} {reason : _} → i ≡ Err reason → exit ≡ entry → Replies k i file entry exit (Err unsolved.Unread)
  unfolding Replies
  replies_nothing e same = subst (λ read. Replies k read file entry exit (Err unsolved.Unread)) (sym e) same

  -- the solver's answer, handed on
  handed_on : Result ℕ Refusal → Result ℕ Unsolved
  handed_on (Ok count) = Ok count
  handed_on (Err refusal) = Err (unsolved.Refused refusal)

  by_answer : (n : ℕ) (answer : Result ℕ Refusal)
      → SolvesOr office certificate_bytes (read_line_file office k (take n file)) entry exit (counted_outcome answer)
      → Replies k (Ok n) file entry exit (handed_on answer)
  unfolding Replies handed_on
  by_answer n (Ok count) solved = solved
  by_answer n (Err refusal) solved = solved

  module _ {i : Result ℕ Error} {n : ℕ} (e : i ≡ Ok n) (room : certificate_file_bytes ≤ length entry) (answer : Result ℕ Refusal)
      (solved : SolvesFile office k (take n file) entry exit (counted_outcome answer)) where
    replies_answer : Replies k i file entry exit (handed_on answer)
    replies_answer =
        subst (λ read. Replies k read file entry exit (handed_on answer)) (sym e)
        (by_answer n answer
        (subst (λ read. SolvesOr office certificate_bytes read entry exit (counted_outcome answer))
        (room_enough (length entry) room (read_line_file office k (take n file))) solved))

    pub replies_certificate : {count : ℕ} → answer ≡ Ok count → Replies k i file entry exit (Ok count)
    unfolding handed_on
    replies_certificate a = subst (λ o. Replies k i file entry exit (handed_on o)) a replies_answer

    pub replies_refusal : {refusal : Refusal} → answer ≡ Err refusal
        → Replies k i file entry exit (Err (unsolved.Refused refusal))
    unfolding handed_on
    replies_refusal a = subst (λ o. Replies k i file entry exit (handed_on o)) a replies_answer

  -- a certificate is among the lent bytes
  by_input : (i : Result ℕ Error) (count : ℕ) → Replies k i file entry exit (Ok count) → count ≤ length exit
  unfolding Replies
  by_input (Ok n) count solved = solves_fits office _ _ entry exit (accepted count) solved count refl
  by_input (Err reason) count none = absurd none

  pub certificate_most : (i : Result ℕ Error) (r : Result ℕ Unsolved) {count : ℕ} → Replies k i file entry exit r → r ≡ Ok count
      → count ≤ length exit
  certificate_most i r {count} replies e = by_input i count (subst (Replies k i file entry exit) e replies)
