-- A certificate's words written as bytes: what `solve_to_bytes` gives.
use mathlib.Core.Path.{◌≡◌, sym, ap, ap₂, ◌∙◌, subst}
use mathlib.Core.List.{List}
use Prim.Native.Nat.{ℕ, ◌≤◌}
use lib.ListN.{length, take}
use Rattle.words.specs.Limits.{office, longest_certificate}
use Rattle.words.specs.Outcome.{Outcome}
use Rattle.words.specs.Outcome.Outcome.{accepted, refused}
use Rattle.words.specs.OutcomeLaws.{refused_accepted}
use Rattle.words.specs.Bytes.{bytes_of}
use Rattle.words.specs.System.{System}
use Rattle.words.specs.Systems.{read_line}
use Rattle.words.specs.Certificate.{certificate_words}
use Rattle.write_frame.specs.Overwriting.{overwritten}
use Rattle.solver.specs.Solving.{with_room, certificate_bytes, GivesRight, Gives, SolvesOr, Solves}
use Rattle.solver.specs.SolvingLaws.{room_enough, gives_words, solved_gives}

module _ {s : System} {count : ℕ} {entry exit : List ℕ} (G : Gives office certificate_words s entry exit count) where
  abbrev C : GivesRight office certificate_words s entry exit count
  C = G.given

  pub gives_bytes : (lent after : List ℕ) {bytes : ℕ} → bytes ≡ length (bytes_of (take count exit))
      → after ≡ overwritten (bytes_of (take count exit)) lent → Gives office certificate_bytes s lent after bytes
  unfolding certificate_bytes
  gives_bytes lent after size is = record {
    given = record {
      certificate = C.certificate;
      within = C.within;
      right = C.right;
      answers = C.answers;
      words = is ∙ ap (λ l. overwritten (bytes_of l) lent) (gives_words C);
      same_count = size ∙ ap (λ l. length (bytes_of l)) (gives_words C);
    };
    chosen = G.chosen;
  }

-- what `solve` told of words for which there was room
module _ (k : ℕ) (ws entry exit : List ℕ) (answer : Outcome ℕ) (solves : Solves office k ws entry exit answer) where
  pub was_solved : {count : ℕ} → answer ≡ accepted count
      → (s : System) × (read_line office k ws ≡ accepted s) × Gives office certificate_words s entry exit count
  was_solved {count} a =
      solved_gives office certificate_words (longest_certificate office) (length entry) (read_line office k ws) entry exit answer
      solves count a

  pub was_refused : longest_certificate office ≤ length entry → {number place : ℕ} → answer ≡ refused number place
      → read_line office k ws ≡ refused number place
  unfolding SolvesOr
  was_refused room {number} {place} a = by (read_line office k ws) solves
    where
      same : {n i : ℕ} → ◌≡◌ {A = Outcome ℕ} (refused n i) (refused number place)
          → ◌≡◌ {A = Outcome System} (refused n i) (refused number place)
      same {n} {i} e =
          let en : n ≡ number = cc in
          let ei : i ≡ place = cc in
          ap₂ refused en ei

      by : (o : Outcome System) → SolvesOr office certificate_words (with_room (longest_certificate office) (length entry) o) entry
          exit answer
          → o ≡ refused number place
      by (refused n i) h = let told = sym h.0 ∙ a in same told
      by (accepted s) h =
          let given = subst (λ o. SolvesOr office certificate_words o entry exit answer)
          (room_enough (longest_certificate office) (length entry) room (accepted s)) h in
          absurd (refused_accepted (sym a ∙ given.1))
