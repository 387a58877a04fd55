-- Two files that were opened: whatever is asked of their words behind number 10, the words that were left tell what the files tell.
use Rattle.std.specs.Prelude.{◌≡◌, refl, ◌||◌, List, ℕ, ◌*◌, ◌≤◌, length, take, Result, Ok, Err}
use Rattle.std.proofs.Common.{sym, ap, ap₂, ◌∙◌, subst, arith}
use Rattle.words.specs.Limits.{Limits, longest_system}
use Rattle.words.specs.Outcome.{Outcome, refuse}
use Rattle.words.specs.Outcome.Outcome.{refused}
use Rattle.words.specs.Bytes.{words_of, word_bytes}
use Rattle.answers.specs.declared.answer.Refusal.{Refusal}
use Rattle.answers.specs.Answer.{reason_number}
use Rattle.files.specs.Opening.{first_words}
use Rattle.files.specs.OpeningLaws.{unlimited, opened_whole, opened_first, opened_all}
use Rattle.files.specs.OpeningBoth.{files_turned_back, files_broken, WordsWithin, NoneWithin, BothWithin}
use Rattle.files.specs.OpeningBoth.{OpensWords, OpensNone, OpensBoth}

-- by what was found
module _ (limit : ℕ) (f g before before' after after' : List ℕ) (found : Result (ℕ × ℕ) Refusal)
    (opens : BothWithin limit f g before before' after after' found) where
  pub within_are : {n m : ℕ} → found ≡ Ok (n, m) → WordsWithin limit f g before before' after after' n m
  within_are e = subst (BothWithin limit f g before before' after after') e opens

  pub none_within : {r : Refusal} → found ≡ Err r → NoneWithin limit f g before before' after after' (reason_number r.reason) r.place
  none_within e = subst (BothWithin limit f g before before' after after') e opens

module _ (limit : ℕ) (f g : List ℕ) {A : Type 0} where
  -- 10, before anything else
  pub within_refused : {before before' after after' : List ℕ} {number place : ℕ}
      → NoneWithin limit f g before before' after after' number place → (next : Outcome A)
      → refuse (files_turned_back limit f g) 10 0 next ≡ refused number place
  within_refused none next =
      ap (λ b. refuse b 10 0 next) none.either_broken ∙ ap₂ refused (sym none.number_ten) (sym none.place_zero)

  module _ {before before' after after' : List ℕ} {n m : ℕ} (opens : WordsWithin limit f g before before' after after' n m)
      (tell : List ℕ → List ℕ → Outcome A) where
    -- where the first words of either, as many as there was room for, decide
    pub within_first : tell (first_words (length before) (words_of f)) (first_words (length before') (words_of g))
        ≡ tell (words_of f) (words_of g)
        → refuse (files_turned_back limit f g) 10 0 (tell (words_of f) (words_of g)) ≡ tell (take n after) (take m after')
    within_first decide =
        let whole = ap₂ ◌||◌ (opened_whole opens.system refl) (sym (unlimited g) ∙ opened_whole opens.certificate refl) in
        ap (λ b. refuse b 10 0 (tell (words_of f) (words_of g))) whole ∙ sym decide
        ∙ sym (ap₂ tell (opened_first opens.system refl) (opened_first opens.certificate refl))

    -- where there was room for so many bytes of the system's, and the first words of the certificate's decide
    pub within_told : limit ≤ word_bytes * length before
        → tell (words_of f) (first_words (length before') (words_of g)) ≡ tell (words_of f) (words_of g)
        → refuse (files_turned_back limit f g) 10 0 (tell (words_of f) (words_of g)) ≡ tell (take n after) (take m after')
    within_told room decide =
        let all = sym (opened_first opens.system refl) ∙ opened_all opens.system refl room in
        within_first (ap (λ (ws : List ℕ). tell ws (first_words (length before') (words_of g))) all ∙ decide)

-- the same by limits
pub by_limits : (limits : Limits) (f g before before' after after' : List ℕ) (found : Result (ℕ × ℕ) Refusal)
    → BothWithin (word_bytes * longest_system limits) f g before before' after after' found
    → OpensBoth limits f g before before' after after' found
by_limits limits f g before before' after after' (Ok counts) opens = opens
by_limits limits f g before before' after after' (Err r) opens = opens

module _ (limits : Limits) (f g before before' after after' : List ℕ) (found : Result (ℕ × ℕ) Refusal)
    (opens : OpensBoth limits f g before before' after after' found) where
  pub both_are : {n m : ℕ} → found ≡ Ok (n, m) → OpensWords limits f g before before' after after' n m
  both_are e = subst (OpensBoth limits f g before before' after after') e opens

  pub none_is : {r : Refusal} → found ≡ Err r → OpensNone limits f g before before' after after' (reason_number r.reason) r.place
  none_is e = subst (OpensBoth limits f g before before' after after') e opens

module _ (limits : Limits) (f g : List ℕ) {A : Type 0} where
  -- 10, before anything else
  pub both_refused : {before before' after after' : List ℕ} {number place : ℕ}
      → OpensNone limits f g before before' after after' number place → (next : Outcome A)
      → refuse (files_broken limits f g) 10 0 next ≡ refused number place
  both_refused = within_refused (word_bytes * longest_system limits) f g

  -- where there was room for every system, and the first words of the certificate's file, as many as there was room for, decide
  pub both_told : {before before' after after' : List ℕ} {n m : ℕ} → OpensWords limits f g before before' after after' n m
      → longest_system limits ≤ length before
      → (tell : List ℕ → List ℕ → Outcome A)
      → tell (words_of f) (first_words (length before') (words_of g)) ≡ tell (words_of f) (words_of g)
      → refuse (files_broken limits f g) 10 0 (tell (words_of f) (words_of g)) ≡ tell (take n after) (take m after')
  both_told opens room tell = within_told (word_bytes * longest_system limits) f g opens tell (omega arith)
