-- Ring identities proved by computing: the goal is written once, the variables are listed, and `search` finds the expressions.
--   squares : (a b : A) → (a + b) * (a + (- b)) ≡ a * a + (- (b * b))
--   squares a b = identity R (a ∷ b ∷ []) (λ ρ qa qb. search quotes depth 16) refl
use Rattle.std.specs.Prelude.{ℕ, suc, ◌≡◌, refl, List, [], ◌∷◌}
use Rattle.std.proofs.Common.{sym, ◌∙◌, ap, ap₂}
use Rattle.ring.specs.Ring.{Ring}
use Rattle.ring.specs.Solver.{Ex, v, :0, :1, ◌:+◌, ◌:*◌, ◌:-◌, :-◌, norm, ev, at, solve}

-- an expression for x over the variables ρ
pub record Quote {A : Type 0} (R : Ring A) (ρ : List A) (x : A) : Type 0 where
  pub expr : Ex
  pub means : ev R ρ expr ≡ x

-- expressions for both sides of an equation
pub record Both {A : Type 0} (R : Ring A) (ρ : List A) (x y : A) : Type 0 where
  pub lhs : Quote R ρ x
  pub rhs : Quote R ρ y

module _ {A : Type 0} (R : Ring A) (ρ : List A) where
  abbrev pub q_both : (x y : A) → Quote R ρ x → Quote R ρ y → Both R ρ x y
  q_both x y p q = record { lhs = p; rhs = q }

  abbrev pub q_add : (x y : A) → Quote R ρ x → Quote R ρ y → Quote R ρ (R.add x y)
  q_add x y p q = record { expr = p.expr :+ q.expr; means = ap₂ R.add p.means q.means }

  abbrev pub q_mul : (x y : A) → Quote R ρ x → Quote R ρ y → Quote R ρ (R.mul x y)
  q_mul x y p q = record { expr = p.expr :* q.expr; means = ap₂ R.mul p.means q.means }

  abbrev pub q_neg : (x : A) → Quote R ρ x → Quote R ρ (R.neg x)
  q_neg x p = record { expr = :- p.expr; means = ap R.neg p.means }

  abbrev pub q_zero : Quote R ρ R.zero
  q_zero = record { expr = :0; means = refl }

  abbrev pub q_one : Quote R ρ R.one
  q_one = record { expr = :1; means = refl }

pub ruleset quotes = (q_both, q_add, q_mul, q_neg, q_zero, q_one)

module _ {A : Type 0} (R : Ring A) where
  abbrev pub SameNorm : {ρ : List A} {x y : A} → Both R ρ x y → Type 0
  SameNorm b = norm b.lhs.expr ≡ norm b.rhs.expr

  pub by_quotes : (ρ : List A) {x y : A} (b : Both R ρ x y) → SameNorm b → x ≡ y
  by_quotes ρ b e = sym b.lhs.means ∙ solve R ρ b.lhs.expr b.rhs.expr e ∙ b.rhs.means

  -- T, given an expression for each of the variables xs
  abbrev pub Quoted : List A → List A → Type 0 → Type 0
  Quoted ρ [] T = T
  Quoted ρ (x ∷ xs) T = Quote R ρ x → Quoted ρ xs T

  abbrev pub give : (ρ xs : List A) (T : Type 0) → ((i : ℕ) → Quote R ρ (at R xs i)) → Quoted ρ xs T → T
  give ρ [] T quote f = f
  give ρ (x ∷ xs) T quote f = give ρ xs T (λ i. quote (suc i)) (f (quote 0))

  -- the i-th of the variables
  abbrev pub variable : (ρ : List A) (i : ℕ) → Quote R ρ (at R ρ i)
  variable ρ i = record { expr = v i; means = refl }

  pub identity : (ρ : List A) {x y : A} (f : (σ : List A) → Quoted σ ρ (Both R σ x y))
      → SameNorm (give ρ ρ (Both R ρ x y) (variable ρ) (f ρ)) → x ≡ y
  identity ρ {x} {y} f e = by_quotes ρ (give ρ ρ (Both R ρ x y) (variable ρ) (f ρ)) e
