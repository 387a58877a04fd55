-- Demand 3, its last sentence: "for every sheet within the limits, whatever stood in the lent space, the solver gives a card there,
-- and the check accepts it", "for each right side that the sheet has, by itself" (document 02, item 1).
use Rattle.std.specs.Prelude.{ℕ, ◌<◌, ◌≤◌, ◌≡◌, refl, Bool, true, false, List, length, take, drop, ltb}
use Rattle.std.proofs.Common.{sym, ap, ◌∙◌, arith, length-append, lt-ltb, le-ltb}
use Rattle.std.proofs.Math.Path.{subst}
use Rattle.std.proofs.Math.Seq.{take-append_seam}
use Rattle.words.specs.Limits.{Limits, longest_certificate}
use Rattle.words.specs.LimitsLaws.{LimitsFit}
use Rattle.words.specs.Outcome.{Outcome, refuse}
use Rattle.words.specs.Outcome.Outcome.{accepted, refused}
use Rattle.words.specs.OutcomeLaws.{refused_accepted, followed_by_accepted, refuse_passed}
use Rattle.words.specs.System.{System}
use Rattle.words.specs.Systems.{Systems, SystemsWithin, systems_words, line, read_line}
use Rattle.words.specs.Line.{LineIn}
use Rattle.words.proofs.LineLaws.{line_read_of_written, line_written_of_read}
use Rattle.words.specs.Certificate.{Certificate, certificate_words}
use Rattle.truth.specs.Verdict.{verdict}
use Rattle.truth.proofs.Accepted.{accepted_of_words}
use Rattle.write_frame.specs.Overwriting.{overwritten}
use Rattle.solver.specs.Solving.{with_room, system_to_solve, GivesRight, Gives, SolvesOr, Solves}

pub accepted_same : {A : Type 0} {a b : A} → accepted a ≡ accepted b → a ≡ b
accepted_same e = cc

-- 11 where too little is lent; else what was read is to be solved
pub room_short : (longest lent : ℕ) → lent < longest → (s : System) → with_room longest lent (accepted s) ≡ refused 11 0
room_short longest lent h s = ap (λ t. refuse t 11 0 (accepted s)) (lt-ltb lent longest h)

pub room_enough : (longest lent : ℕ) → longest ≤ lent → (read : Outcome System) → with_room longest lent read ≡ read
room_enough longest lent h (refused number place) = refl
room_enough longest lent h (accepted s) = ap (λ t. refuse t 11 0 (accepted s)) (le-ltb lent longest h)

pub room_read : (longest lent : ℕ) (read : Outcome System) {s : System} → with_room longest lent read ≡ accepted s
    → read ≡ accepted s
room_read longest lent read e =
    let found = followed_by_accepted read _ e in
    found.1 ∙ (refuse_passed (ltb lent longest) 11 0 (accepted found.0) found.2).1

-- what is written is no longer than what was lent
pub gives_fits : {limits : Limits} {write : Certificate → List ℕ} {s : System} {entry exit : List ℕ} {count : ℕ}
    → GivesRight limits write s entry exit count → count ≤ length exit
gives_fits {write = write} {entry = entry} G =
    let ws = write G.certificate in
    omega (arith, ap length G.words, length-append ws (drop (length ws) entry), G.same_count)

pub solves_fits : (limits : Limits) (write : Certificate → List ℕ) (o : Outcome System) (entry exit : List ℕ) (answer : Outcome ℕ)
    → SolvesOr limits write o entry exit answer → (count : ℕ) → answer ≡ accepted count → count ≤ length exit
unfolding SolvesOr
solves_fits limits write (refused number place) entry exit answer h count a = absurd (refused_accepted (sym h.0 ∙ a))
solves_fits limits write (accepted s) entry exit answer h count a =
    subst (λ n. n ≤ length exit) (accepted_same (sym h.1 ∙ a)) (gives_fits h.2.given)

-- the certificate's words, or bytes, are the first of the lent ones
pub gives_words : {limits : Limits} {write : Certificate → List ℕ} {s : System} {entry exit : List ℕ} {count : ℕ}
    → (G : GivesRight limits write s entry exit count) → take count exit ≡ write G.certificate
gives_words {write = write} {entry = entry} {exit = exit} {count = count} G =
    ap (λ l. take count l) G.words
    ∙ ap (λ n. take n (overwritten (write G.certificate) entry)) G.same_count
    ∙ take-append_seam (write G.certificate) _

-- "or change a lent word when it refuses"
pub refused_unchanged : (limits : Limits) (write : Certificate → List ℕ) (o : Outcome System) (entry exit : List ℕ)
    (answer : Outcome ℕ)
    → SolvesOr limits write o entry exit answer → {number place : ℕ} → answer ≡ refused number place → exit ≡ entry
unfolding SolvesOr
refused_unchanged limits write (refused n k) entry exit answer h a = h.1
refused_unchanged limits write (accepted s) entry exit answer h a = absurd (refused_accepted (sym a ∙ h.1))

-- a count is given only for a system that was read
pub solved_gives : (limits : Limits) (write : Certificate → List ℕ) (longest lent : ℕ) (read : Outcome System) (entry exit : List ℕ)
    (answer : Outcome ℕ) → SolvesOr limits write (with_room longest lent read) entry exit answer
    → (count : ℕ) → answer ≡ accepted count → (s : System) × (read ≡ accepted s) × Gives limits write s entry exit count
unfolding SolvesOr
solved_gives limits write longest lent (refused number place) entry exit answer h count a =
    absurd (refused_accepted (sym h.0 ∙ a))
solved_gives limits write longest lent (accepted s) entry exit answer h count a = go (ltb lent longest) h
  where
    go : (short : Bool) → SolvesOr limits write (refuse short 11 0 (accepted s)) entry exit answer
        → (t : System) × (accepted s ≡ accepted t) × Gives limits write t entry exit count
    go true h = absurd (refused_accepted (sym h.0 ∙ a))
    go false h = (s, refl, subst (Gives limits write s entry exit) (accepted_same (sym h.1 ∙ a)) h.2)

module _ (limits : Limits) (fit : LimitsFit limits) (k : ℕ) (ws entry exit : List ℕ) (answer : Outcome ℕ) where
  -- the check accepts what the solver gives
  pub gives_accepted : {s : System} {count : ℕ} → read_line limits k ws ≡ accepted s
      → GivesRight limits certificate_words s entry exit count → verdict limits k ws (take count exit) ≡ accepted tt
  gives_accepted {s} {count} e G =
      accepted_of_words limits fit k ws (take count exit) (record {
        system = s;
        certificate = G.certificate;
        system_words = line_written_of_read limits fit k ws e;
        certificate_words_lem = gives_words G;
        certificate_within = G.within;
        holds = G.right;
      })

  pub solved_accepted : Solves limits k ws entry exit answer → (count : ℕ) → answer ≡ accepted count
      → verdict limits k ws (take count exit) ≡ accepted tt
  solved_accepted h count a =
      let given = solved_gives limits certificate_words (longest_certificate limits) (length entry) (read_line limits k ws)
      entry exit answer h count a in
      gives_accepted given.1 given.2.given

-- a written form has each of its lines
module _ (limits : Limits) (s : Systems) (within : SystemsWithin limits s) (k : ℕ) (has : k < s.head.sides) where
  pub line_of_written : LineIn limits k (line s k) (systems_words s)
  line_of_written = record { systems = s; words = refl; within = within; has = has; is = refl }

  -- for every system within the limits and each of its right sides there is an answer
  module _ (fit : LimitsFit limits) (entry exit : List ℕ) (room : longest_certificate limits ≤ length entry)
      (answer : Outcome ℕ) where
    to_solve : system_to_solve limits k (length entry) (systems_words s) ≡ accepted (line s k)
    to_solve =
        room_enough (longest_certificate limits) (length entry) room (read_line limits k (systems_words s))
        ∙ line_read_of_written limits fit k (systems_words s) line_of_written

    pub every_system_solved : Solves limits k (systems_words s) entry exit answer
        → (count : ℕ) × (answer ≡ accepted count) × (verdict limits k (systems_words s) (take count exit) ≡ accepted tt)
    unfolding SolvesOr
    every_system_solved h =
        let given = subst (λ o. SolvesOr limits certificate_words o entry exit answer) to_solve h in
        (given.0, given.1, solved_accepted limits fit k (systems_words s) entry exit answer h given.0 given.1)
