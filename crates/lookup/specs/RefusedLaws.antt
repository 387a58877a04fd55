-- The lookup's refusals, each under its condition only: those of the system's words, then those of the certificate's, then 12.
use Rattle.std.specs.Prelude.{ℕ, ◌≤◌, ◌≡◌, ◌↔◌, List, [], ◌∷◌, length, leb}
use Rattle.std.proofs.Common.{sym, inl, ⊎_elim, le-leb, leb-true}
use Rattle.words.specs.Limits.{Limits}
use Rattle.words.specs.LimitsLaws.{LimitsFit}
use Rattle.words.specs.Outcome.{Outcome, refuse}
use Rattle.words.specs.Outcome.Outcome.{accepted, refused}
use Rattle.words.specs.OutcomeLaws.{refused_accepted, refuse_refused_iff}
use Rattle.words.specs.Systems.{Systems}
use Rattle.words.specs.Certificate.{Certificate}
use Rattle.words.specs.Rows.{RefusesBy, at_0, lookup_rows}
use Rattle.words.specs.RowLaws.{by_accepted, by_row}
use Rattle.words.proofs.SourceLaws.{whole_laws, whole_rows}
use Rattle.words.specs.Pair.{whole, PairRefused}
use Rattle.words.proofs.PairLaws.{pair_refused_iff, pair_rows}
use Rattle.lookup.specs.Lookup.{Of, Part, entries_on, part_of, shown, polynomial_lookup}

-- "12: no polynomial of that number; 0"
abbrev pub NoPolynomial : Of → ℕ → Systems → Certificate → (number place : ℕ) → Type 0
NoPolynomial of k s c number place = (number ≡ 12) × (place ≡ 0) × (length (entries_on of s c) ≤ k)

-- whatever is told of it
pub no_polynomial_iff : {A : Type 0} (told : A) (fs : List (List ℕ)) (k number place : ℕ)
    → (refuse (leb (length fs) k) 12 0 (accepted told) ≡ refused number place) ↔ ((number ≡ 12) × (place ≡ 0) × (length fs ≤ k))
no_polynomial_iff told fs k number place =
    let twelve = refuse_refused_iff (leb (length fs) k) 12 0 (accepted told) number place in (
      λ e. ⊎_elim (λ t. (t.1, t.2, leb-true (length fs) k t.0)) (λ t. absurd (refused_accepted (sym t.1))) (twelve.0 e),
      λ t. twelve.1 (inl (le-leb (length fs) k t.2, t.0, t.1)),
    )

module _ (limits : Limits) (ws cs : List ℕ) (of : Of) (k : ℕ) where
  abbrev tells : Systems → Certificate → Outcome Part
  tells s c = shown k (entries_on of s c)

  pub lookup_refused_iff : LimitsFit limits → (number place : ℕ) → (polynomial_lookup limits ws cs of k ≡ refused number place)
      ↔ PairRefused limits (whole limits) (NoPolynomial of k) ws cs number place
  unfolding polynomial_lookup
  lookup_refused_iff fit =
      pair_refused_iff limits (whole limits) tells ws cs fit (whole_laws limits fit) (NoPolynomial of k)
      (λ s _ c _. no_polynomial_iff (part_of (entries_on of s c) k) (entries_on of s c) k)

  -- 1 to 9, 21, 24 to 29, and 12 at 0
  pub lookup_rows_lem : RefusesBy (lookup_rows ws cs) (polynomial_lookup limits ws cs of k)
  unfolding polynomial_lookup
  lookup_rows_lem = pair_rows limits (whole limits) tells ws cs (whole_rows limits) (λ h. at_0 12 ∷ []) (λ s _ c _.
      by_row (leb (length (entries_on of s c)) k) 12 (by_accepted (part_of (entries_on of s c) k)))
