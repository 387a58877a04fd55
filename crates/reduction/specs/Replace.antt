-- Functions of an index: changed at one place, and continued by one value from a bound on.
use Rattle.std.specs.Prelude.{ℕ, suc, ◌<◌, ◌≤◌, ◌≡◌, refl}
use Rattle.std.proofs.Common.{sym, subst, arith}
use Rattle.std.proofs.Math.Logic.{ite, if_pos, if_neg}
use Rattle.std.proofs.Math.Decide.{ℕ_discrete, dec_lt}

-- f with a at p
unfoldable pub replace : {A : Type 0} → (ℕ → A) → ℕ → A → ℕ → A
replace f p a q = ite (ℕ_discrete q p) a (f q)

pub replace_here : {A : Type 0} (f : ℕ → A) (p : ℕ) (a : A) → replace f p a p ≡ a
unfolding replace
replace_here f p a = if_pos (ℕ_discrete p p) refl a (f p)

pub replace_other : {A : Type 0} (f : ℕ → A) (p : ℕ) (a : A) (q : ℕ) → ¬ (q ≡ p) → replace f p a q ≡ f q
unfolding replace
replace_other f p a q h = if_neg (ℕ_discrete q p) h a (f q)

-- what holds at p and, as before, everywhere else
pub replace_elim : {A : Type 0} (P : ℕ → A → Type 0) (f : ℕ → A) (p : ℕ) (a : A)
    → P p a → (q : ℕ) → (¬ (q ≡ p) → P q (f q)) → P q (replace f p a q)
replace_elim P f p a h q g = go (ℕ_discrete q p)
  where
    go : Dec (q ≡ p) → P q (replace f p a q)
    go (yes e) = subst (λ x. P x (replace f p a x)) (sym e) (subst (P p) (sym (replace_here f p a)) h)
    go (no e) = subst (P q) (sym (replace_other f p a q e)) (g e)

-- f below n, a from n on; (f | a) for a block f of n coordinates and its tail a
unfoldable pub extend : {A : Type 0} → ℕ → (ℕ → A) → A → ℕ → A
extend n f a i = ite (dec_lt i n) (f i) a

pub extend_below : {A : Type 0} (n : ℕ) (f : ℕ → A) (a : A) (i : ℕ) → i < n → extend n f a i ≡ f i
unfolding extend
extend_below n f a i h = if_pos (dec_lt i n) h (f i) a

pub extend_from : {A : Type 0} (n : ℕ) (f : ℕ → A) (a : A) (i : ℕ) → n ≤ i → extend n f a i ≡ a
unfolding extend
extend_from n f a i h = if_neg (dec_lt i n) (omega arith) (f i) a

pub extend_at : {A : Type 0} (n : ℕ) (f : ℕ → A) (a : A) → extend n f a n ≡ a
extend_at n f a = extend_from n f a n (omega arith)

-- what holds below n and at n holds below n + 1
pub below_suc : (n : ℕ) (P : ℕ → Type 0) → ((i : ℕ) → i < n → P i) → P n → (i : ℕ) → i < suc n → P i
below_suc n P f x i h = go (ℕ_discrete i n)
  where
    go : Dec (i ≡ n) → P i
    go (yes e) = subst P (sym e) x
    go (no e) = f i (omega arith)
