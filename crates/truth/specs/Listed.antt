-- A list by its entries, and sums of equal terms.
use Rattle.std.specs.Prelude.{ℕ, zero, suc, ◌<◌, ◌≡◌, refl, List, [], ◌∷◌, length, get_or}
use Rattle.std.proofs.Common.{ap, ap₂, arith}
use Rattle.algebra.specs.Coefficients.{add}
use Rattle.modular.specs.Modulo.{modulo}
use Rattle.truth.specs.Solution.{total_modulo}

-- f 0, .., f (n - 1)
unfoldable pub listed : {A : Type 0} → ℕ → (ℕ → A) → List A
listed zero f = []
listed (suc n) f = f 0 ∷ listed n (λ i. f (suc i))

pub length_listed : {A : Type 0} (n : ℕ) (f : ℕ → A) → length (listed n f) ≡ n
unfolding listed
length_listed zero f = refl
length_listed (suc n) f = ap suc (length_listed n (λ i. f (suc i)))

pub listed_at : {A : Type 0} (n : ℕ) (f : ℕ → A) (default : A) (i : ℕ) → i < n → get_or (listed n f) i default ≡ f i
unfolding listed
listed_at zero f default i h = absurd (omega arith)
listed_at (suc n) f default zero h = refl
listed_at (suc n) f default (suc i) h = listed_at n (λ i. f (suc i)) default i (omega arith)

-- a list is its entries
pub listed_is : {A : Type 0} (n : ℕ) (f : ℕ → A) (l : List A) (default : A) → length l ≡ n
    → ((i : ℕ) → i < n → f i ≡ get_or l i default) → listed n f ≡ l
unfolding listed
listed_is zero f [] default e h = refl
listed_is zero f (a ∷ l) default e h = absurd (omega arith)
listed_is (suc n) f [] default e h = absurd (omega arith)
listed_is (suc n) f (a ∷ l) default e h =
    ap₂ ◌∷◌ (h 0 (omega arith)) (listed_is n (λ i. f (suc i)) l default (omega arith) (λ i k. h (suc i) (omega arith)))

-- equal terms, equal sums
pub total_ext : (p n : ℕ) (f g : ℕ → List ℕ) → ((i : ℕ) → i < n → f i ≡ g i) → total_modulo p n f ≡ total_modulo p n g
unfolding total_modulo
total_ext p zero f g e = refl
total_ext p (suc n) f g e = ap₂ (add (modulo p)) (total_ext p n f g (λ i h. e i (omega arith))) (e n (omega arith))
