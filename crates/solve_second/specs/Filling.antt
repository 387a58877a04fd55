-- Cleared memory into which the words of f are stored lane by lane, those that are 0 left out: `rank x` is the turn of the place x.
use Rattle.std.specs.Prelude.{ℕ, ◌+◌, ◌*◌, ◌<◌, ◌≤◌, ◌≡◌, refl, List, length, get_or}
use Rattle.std.proofs.Common.{sym, ◌∙◌, ap, subst, arith}
use Rattle.std.proofs.Math.Decide.{dec_lt, ℕ_discrete}
use Rattle.solve_second.specs.Words.{when, when_yes, when_no}
use Rattle.solve_second.specs.Spread.{Spread}
use Rattle.solve_lattice.specs.Room.{lanes}

-- of the first N words of w those of the turns below r are there, and the others are 0; behind them stands what stood in o
pub record Filling (rank : ℕ → ℕ) (f : ℕ → ℕ) (N : ℕ) (o w : List ℕ) (r : ℕ) : Type 0 where
  pub room : N ≤ length w
  pub same_length : length w ≡ length o
  pub words : (x : ℕ) → x < N → get_or w x 0 ≡ when (dec_lt (rank x) r) (f x)
  pub beyond : (x : ℕ) → N ≤ x → get_or w x 0 ≡ get_or o x 0

-- the word of f at x is the one that a lane has there, or it is 0 and no place of the lane
pub data LaneWord (f g : ℕ → ℕ) (to count x : ℕ) : Type 0 where
  stored_at : (e : ℕ) → e < count → x ≡ to + lanes * e → f x ≡ g e → LaneWord f g to count x
  left_out : ((e : ℕ) → e < count → ¬ (x ≡ to + lanes * e)) → f x ≡ 0 → LaneWord f g to count x

module _ {rank : ℕ → ℕ} {f : ℕ → ℕ} {N : ℕ} where
  pub filling_start : (o : List ℕ) → N ≤ length o → ((x : ℕ) → x < N → get_or o x 0 ≡ 0) → Filling rank f N o o 0
  filling_start o room none = record {
    room = room;
    same_length = refl;
    words = λ x h. none x h ∙ sym (when_no (dec_lt (rank x) 0) (f x) (λ (g : rank x < 0). omega arith));
    beyond = λ x h. refl;
  }

  module _ {o w : List ℕ} {r : ℕ} (so_far : Filling rank f N o w r) where
    -- turns whose words are 0
    pub filling_skip : (r' : ℕ) → r ≤ r' → ((x : ℕ) → x < N → r ≤ rank x → rank x < r' → f x ≡ 0) → Filling rank f N o w r'
    filling_skip r' le none = record {
      room = so_far.room;
      same_length = so_far.same_length;
      words = λ x h. so_far.words x h ∙ same x h (dec_lt (rank x) r) (dec_lt (rank x) r');
      beyond = so_far.beyond;
    }
      where
        same : (x : ℕ) → x < N → (d : Dec (rank x < r)) (d' : Dec (rank x < r')) → when d (f x) ≡ when d' (f x)
        same x h (yes a) d' = when_yes (yes a) (f x) a ∙ sym (when_yes d' (f x) (omega arith))
        same x h (no a) (yes b) = when_no (no a) (f x) a ∙ sym (when_yes (yes b) (f x) b ∙ none x h (omega arith) b)
        same x h (no a) (no b) = when_no (no a) (f x) a ∙ sym (when_no (no b) (f x) b)

    -- turn r: the words of a lane, and no others but zeros
    pub filling_lane : {g : ℕ → ℕ} {to count : ℕ} {w' : List ℕ} → Spread g to count w w'
        → ((e : ℕ) → e < count → (to + lanes * e < N) × (rank (to + lanes * e) ≡ r))
        → ((x : ℕ) → x < N → rank x ≡ r → LaneWord f g to count x) → Filling rank f N o w' (r + 1)
    filling_lane {g} {to} {count} {w'} spread places all = record {
      room = omega (arith, spread.same_length, so_far.room);
      same_length = spread.same_length ∙ so_far.same_length;
      words = λ x h. at x h (ℕ_discrete (rank x) r);
      beyond = λ x h. spread.outside x (λ e lt same. omega (arith, (places e lt).0)) ∙ so_far.beyond x h;
    }
      where
        other : (x : ℕ) → ¬ (rank x ≡ r) → (d : Dec (rank x < r)) (d' : Dec (rank x < r + 1)) → when d (f x) ≡ when d' (f x)
        other x ne (yes a) d' = when_yes (yes a) (f x) a ∙ sym (when_yes d' (f x) (omega arith))
        other x ne (no a) (yes b) = absurd (ne (omega arith))
        other x ne (no a) (no b) = when_no (no a) (f x) a ∙ sym (when_no (no b) (f x) b)

        word : (x : ℕ) → x < N → rank x ≡ r → LaneWord f g to count x → get_or w' x 0 ≡ f x
        word x h turn (stored_at e lt place same) = ap (λ y. get_or w' y 0) place ∙ spread.inside e lt ∙ sym same
        word x h turn (left_out out none) = spread.outside x out ∙ so_far.words x h
            ∙ when_no (dec_lt (rank x) r) (f x) (λ (l : rank x < r). omega arith) ∙ sym none

        at : (x : ℕ) → x < N → Dec (rank x ≡ r) → get_or w' x 0 ≡ when (dec_lt (rank x) (r + 1)) (f x)
        at x h (yes turn) = word x h turn (all x h turn) ∙ sym (when_yes (dec_lt (rank x) (r + 1)) (f x) (omega arith))
        at x h (no apart) = spread.outside x (λ e lt same. apart (ap rank same ∙ (places e lt).1)) ∙ so_far.words x h
            ∙ other x apart (dec_lt (rank x) r) (dec_lt (rank x) (r + 1))

    pub filling_end : ((x : ℕ) → x < N → rank x < r) → (x : ℕ) → x < N → get_or w x 0 ≡ f x
    filling_end all x h = so_far.words x h ∙ when_yes (dec_lt (rank x) r) (f x) (all x h)

    -- the same by another number
    pub filling_same : {r' : ℕ} → r ≡ r' → Filling rank f N o w r'
    filling_same er = subst (λ t. Filling rank f N o w t) er so_far

    -- the words behind are left as they are
    pub filling_here : Filling rank f N w w r
    filling_here = record { room = so_far.room; same_length = refl; words = so_far.words; beyond = λ x h. refl }

    pub filling_on : {w' : List ℕ} {r' : ℕ} → Filling rank f N w w' r' → Filling rank f N o w' r'
    filling_on later = record {
      room = later.room;
      same_length = later.same_length ∙ so_far.same_length;
      words = later.words;
      beyond = λ x h. later.beyond x h ∙ so_far.beyond x h;
    }
