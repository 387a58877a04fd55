-- The part that start words lead to: none, or one; of words that were read it is the part that the lookup shows.
use Rattle.std.specs.Prelude.{◌≡◌, refl, Bool, true, false, not, List, [], ℕ, suc, ◌<◌, length, get_or, eqb}
use Rattle.std.proofs.Common.{sym, ap, ap₂, ◌∙◌, arith, eq-eqb, eqb-true, le-leb}
use Rattle.std.proofs.Math.Decide.{dec_lt}
use Rattle.std.proofs.lemmas.Bool.{lt-leb}
use Rattle.words.specs.Word.{payload_bound, kind}
use Rattle.words.specs.Outcome.{Outcome, refuse}
use Rattle.words.specs.Outcome.Outcome.{accepted, refused}
use Rattle.words.proofs.PolynomialLaws.{length_polynomial_words}
use Rattle.words.specs.Frame.{Due}
use Rattle.words.proofs.PlaceLaws.{entry_place_next}
use Rattle.words.specs.Starts.{start_place}
use Rattle.words.proofs.FramedLaws.{FramedIn, start_is, started, ended}
use Rattle.lookup.specs.Lookup.{part_of, shown, bounds_shown}
use Rattle.lookup.specs.Standing.{part_in}

module _ (ws : List ℕ) (k : ℕ) where
  refused_by : (b : Bool) (next : Outcome (ℕ × ℕ)) → (b ≡ true → ⊥) → refused 12 0 ≡ refuse (not b) 12 0 next
  refused_by true next none = absurd (none refl)
  refused_by false next none = refl

  pub part_none : (kind (get_or ws (start_place ws k) 0) ≡ 2 → ⊥) → refused 12 0 ≡ part_in ws k
  part_none other = refused_by (eqb (kind (get_or ws (start_place ws k) 0)) 2) _ (λ e. other (eqb-true _ 2 e))

  pub part_some : kind (get_or ws (start_place ws k) 0) ≡ 2 → accepted (start_place ws k, start_place ws (suc k)) ≡ part_in ws k
  part_some two = rw (eq-eqb (kind (get_or ws (start_place ws k) 0)) 2 two) refl

-- of words with a frame it is the part that the lookup shows
pub part_framed : {ws : List ℕ} {due : Due} {fs : List (List ℕ)} → FramedIn ws due fs → due.limit < payload_bound → (k : ℕ)
    → part_in ws k ≡ bounds_shown (shown k fs)
part_framed {ws} {due} {fs} f narrow k = either (dec_lt k (length fs))
  where
    either : Dec (k < length fs) → part_in ws k ≡ bounds_shown (shown k fs)
    either (yes some) =
        let shows : shown k fs ≡ accepted (part_of fs k) = simp (lt-leb _ _ some) in
        let next = start_is f narrow (suc k) in
        sym (part_some ws k (started f narrow k some).0)
        ∙ ap₂ (λ from to. accepted (from, to)) (start_is f narrow k)
        (omega (arith, next, entry_place_next fs k some, length_polynomial_words (get_or fs k [])))
        ∙ ap bounds_shown (sym shows)
    either (no past) =
        let shows : shown k fs ≡ refused 12 0 = simp (le-leb (length fs) k (omega arith)) in
        sym (part_none ws k (ended f narrow k (omega arith))) ∙ ap bounds_shown (sym shows)
