-- Delay and feedback of a polynomial (document 02, item 2): "a factor x of d is a tick of delay; feedback is the degree of d
-- after all such factors are taken out". Of coefficients, lowest power first, a factor x is a zero in front. That this counts and
-- takes out all factors x: `DelayLaws`, and by divisors `FeedbackLaws` in `truth`.
use Rattle.std.specs.Prelude.{List, [], ◌∷◌, ℕ, zero, suc, ◌-◌, length}

-- the degree of a canonical polynomial that is not zero (`degree-nonzero`, `degree-beyond`); of zero, which is no denominator, 0
abbrev pub degree : List ℕ → ℕ
degree f = length f - 1

-- the number of factors x
unfoldable pub delay : List ℕ → ℕ
delay [] = 0
delay (zero ∷ f) = suc (delay f)
delay (suc a ∷ f) = 0

-- what is left when they are taken out
unfoldable pub undelayed : List ℕ → List ℕ
undelayed [] = []
undelayed (zero ∷ f) = undelayed f
undelayed (suc a ∷ f) = suc a ∷ f

-- "the degree of d after all such factors are taken out"
unfoldable pub feedback : List ℕ → ℕ
unfolding undelayed
feedback f = degree (undelayed f)
