-- The size of a polynomial is found from behind: one more than the place of the last word that is not 0.
use Rattle.std.proofs.Common.{◌≡◌, ℕ, ◌+◌, ◌-◌, ◌<◌, ◌≤◌, List, get_or, take, drop, Option, Some, None, MatchOption, sym, ◌∙◌, arith}
use Rattle.std.proofs.lemmas.Grind.{common_steps}
use Rattle.writer.specs.Output.{size_from}
use Rattle.writer.specs.OutputLaws.{size_most, size_behind, size_last}

module _ (words : List ℕ) (at n : ℕ) where
  size_is : (r : ℕ) → r ≤ n → ((j : ℕ) → r ≤ j → j < n → get_or words (at + j) 0 ≡ 0)
      → (0 < r → 0 < get_or words (at + (r - 1)) 0) → r ≡ size_from words at n
  size_is r most behind last =
      let s : ℕ = size_from words at n in
      let m = size_most words at n in
      let f1 : s < r → get_or words (at + (r - 1)) 0 ≡ 0 = λ h. size_behind words at n (r - 1) (omega arith) (omega arith) in
      let f3 : r < s → get_or words (at + (s - 1)) 0 ≡ 0 = λ h. behind (s - 1) (omega arith) (omega arith) in
      let f4 : 0 < s → 0 < get_or words (at + (s - 1)) 0 = size_last words at n in
      grind arith

  -- the words that code looks through
  abbrev part : List ℕ
  part = take (at + n - at) (drop at words)

  part_at : (j : ℕ) → j < n → get_or part j 0 ≡ get_or words (at + j) 0
  part_at j h = grind (arith, common_steps)

  -- where it finds the last that is not 0
  abbrev pub FoundIn : Option ℕ → Type 0
  FoundIn found = MatchOption found ((j : ℕ) → j < n → get_or part j 0 ≡ 0)
      (λ i. (i < n) × (0 < get_or part i 0) × ((j : ℕ) → i < j → j < n → get_or part j 0 ≡ 0))

  pub size_by : (found : Option ℕ) {r : ℕ} → FoundIn found → MatchOption found (r ≡ 0) (λ i. r ≡ i + 1)
      → r ≡ size_from words at n
  size_by None {r} none e = size_is r (omega arith) (λ j _ h. sym (part_at j h) ∙ none j h) (λ h. absurd (omega arith))
  size_by (Some i) {r} some e =
      let k : at + (r - 1) ≡ at + i = omega arith in
      size_is r (omega arith) (λ j l h. sym (part_at j h) ∙ some.2 j (omega arith) h)
      (λ h. rw k (omega (arith, part_at i some.0, some.1)))
