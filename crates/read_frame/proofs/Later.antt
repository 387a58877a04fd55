-- What a call told, from what stands behind the `map_err` at it.
use Rattle.std.proofs.Common.{◌≡◌, Result, Ok, Err, MatchResult, IsErrAnd, refl, subst}

module _ {A E D : Type 0} (told : Result A E) (r : Result A D) (Q : E → D → Type 0) where
  pub told_ok : (a : A) → MatchResult told (λ m. r ≡ Ok m) (λ e. IsErrAnd r (Q e)) → r ≡ Ok a → told ≡ Ok a
  told_ok a h is = ok told h
    where
      ok : (t : Result A E) → MatchResult t (λ m. r ≡ Ok m) (λ e. IsErrAnd r (Q e)) → t ≡ Ok a
      ok (Ok m) e = cc
      ok (Err e) k = absurd (subst (λ (s : Result A D). IsErrAnd s (Q e)) is k)

  pub told_err : (d : D) → MatchResult told (λ m. r ≡ Ok m) (λ e. IsErrAnd r (Q e)) → r ≡ Err d
      → (e : E) × (told ≡ Err e) × Q e d
  told_err d h is = err told h
    where
      err : (t : Result A E) → MatchResult t (λ m. r ≡ Ok m) (λ e. IsErrAnd r (Q e)) → (e : E) × (t ≡ Err e) × Q e d
      err (Ok m) e = absurd (cc)
      err (Err e) k = (e, refl, subst (λ (s : Result A D). IsErrAnd s (Q e)) is k)
