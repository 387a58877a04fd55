-- The invariant of `divide`: a division as far as it has come, with what is left of the block in the hand.
use Prim.Native.Nat.{ℕ, ◌+◌, ◌-◌, ◌*◌, ◌%◌, ◌<◌, ◌≤◌}
use mathlib.Core.Path.{◌≡◌, refl, sym, ◌∙◌, ap, subst}
use mathlib.Core.Logic.{◌⊎◌, inl, inr}
use mathlib.Core.List.{List}
use native.Mathlib.Nat.{zero-mod}
use native.Mathlib.Omega.{arith}
use native.Mathlib.Decide.{ℕ_discrete}
use lib.ListN.{length, get_or, set, length-set}
use lib.Seq.{get_or-set_same, get_or-set_other}
use Rattle.algebra.specs.Polynomial.{Polynomial, polynomials, coefficients_zero}
use Rattle.algebra.specs.Size.{sized}
use Rattle.modular.specs.Prime.{Prime}
use Rattle.modular.specs.Modulo.{modulo}
use Rattle.modular.specs.Residue.{Residue, residues}
use Rattle.residue.specs.Below.{add_below}
use Rattle.vector.specs.Bound.{AtMost}
use Rattle.reduction.specs.Replace.{replace_elim}
use Rattle.reduction.specs.Pivot.{Pivot}
use Rattle.reduction.specs.Span.{InSpan}
use Rattle.reduction.specs.Moves.{Taken}
use Rattle.reduction.specs.Division.{start, step, slot_quotient, division_on}
use Rattle.reduction.specs.Holds.{monomial}
use Rattle.reduction.specs.Flat.{flat, flat_step}
use Rattle.solve_lattice.specs.Room.{product_words, slot_places, lanes, last_lane, most_places}
use Rattle.solve_lattice.specs.declared.step.Remains.{Remains}
use Rattle.solve_lattice.specs.Word.{residue, residue_mod, residue_add, words, words_first}
use Rattle.solve_lattice.specs.Memory.{row, height, Ends, Level, slot_size, Sums, ValidLevel}
use Rattle.solve_lattice.specs.Range.{words_same, words_zero}
use Rattle.solve_lattice.specs.Sums.{sums_fewer}
use Rattle.solve_lattice.specs.Reading.{ends_pivot, holds_filled}
use Rattle.solve_lattice.specs.Step.{HasMultiple, HasStep, TakesMultiple}
use Rattle.solve_lattice.specs.Monomial.{holds_monomial}
use Rattle.solve_lattice.specs.Quotients.{HoldsQuotient, DividedSoFar, Dividend, BlockDivided}
use Rattle.solve_lattice.proofs.Stepping

pub record Dividing (p : ℕ) (L : Level) (block₀ quotients₀ block quotients : List ℕ) (k value : ℕ) : Type 0 where
  pub same_block : length block ≡ length block₀
  pub same_quotients : length quotients ≡ length quotients₀
  -- the block has room for the degrees of its k words, and the quotients for k words
  pub room : height k * lanes ≤ length block₀
  pub places : k ≤ length quotients₀
  pub ends : Ends p block 0 product_words k
  pub leading : 0 < k → value ≡ get_or block (k - 1) 0 % p
  pub sums : Sums p (slot_places + k) block
  pub below : (i : ℕ) → get_or quotients i 0 < p
  pub divides : (prime : Prime p) (n : ℕ) (ω : ℕ → ℕ) (f : Dividend p prime n ω L block₀)
      → DividedSoFar p prime n ω f.slots f.vector block quotients

module _ {p : ℕ} (prime₀ : Prime p) {L : Level} {block₀ quotients₀ : List ℕ} where
  -- nothing is taken off yet, and the quotients are zero
  pub dividing_start : {k value : ℕ} → height k * lanes ≤ length block₀ → k ≤ length quotients₀ → Ends p block₀ 0 product_words k
      → (0 < k → value ≡ get_or block₀ (k - 1) 0 % p) → Sums p most_places block₀
      → AtMost 0 quotients₀ → Dividing p L block₀ quotients₀ block₀ quotients₀ k value
  unfolding slot_quotient
  dividing_start {k} room places ends leading sums zeros = record {
    same_block = refl;
    same_quotients = refl;
    room = room;
    places = places;
    ends = ends;
    leading = leading;
    sums = sums_fewer p block₀ most_places (slot_places + k) (omega (arith, ends.within)) sums;
    below = λ i. omega (arith, zeros i, prime₀.large);
    divides = λ prime n ω f. record {
      rest = f.vector;
      trace = start (λ i h. refl);
      holds_rest = f.holds;
      holds_quotient = λ q h. record {
        at = λ e. coefficients_zero (residues p prime) e
            ∙ sym (words_zero p prime quotients₀ 0 product_words 0 (λ j l lt. ap (λ w. w % p) (none j) ∙ zero-mod p) (flat lanes q e)
            (omega arith));
      };
    };
  }
    where
      none : (j : ℕ) → get_or quotients₀ (0 + j) 0 ≡ 0
      none j = omega (arith, zeros (0 + j))

  -- the slot at the pivot is filled and no longer: there is a step
  pub dividing_step : {block quotients : List ℕ} {k value : ℕ} → Dividing p L block₀ quotients₀ block quotients k value
      → ValidLevel p L → 0 < k → 0 < slot_size L (row k) → slot_size L (row k) ≤ k → HasStep p L block k value
  dividing_step so_far level some filled fits = record {
    multiple = record {
      level = level;
      room = omega (arith, so_far.room, so_far.same_block);
      within = so_far.ends.within;
      some = some;
      leading = so_far.leading some;
      filled = filled;
      fits = fits;
    };
    behind = so_far.ends.behind;
  }

  -- a turn: the factor is added to the quotient of the slot, `shift` degrees up
  module _ {block quotients : List ℕ} {k value : ℕ} (so_far : Dividing p L block₀ quotients₀ block quotients k value)
      (S : HasMultiple p L block k value) {block' : List ℕ} {r : Remains} (T : TakesMultiple p L block k value block' r) where
    abbrev place : ℕ
    place = k - slot_size L (row k) + (last_lane - row k)

    abbrev sum : ℕ
    sum = (modulo p).add (get_or quotients (k - slot_size L (row k) + (last_lane - row k)) 0) r.factor

    abbrev quotients' : List ℕ
    quotients' = set quotients (k - slot_size L (row k) + (last_lane - row k))
        ((modulo p).add (get_or quotients (k - slot_size L (row k) + (last_lane - row k)) 0) r.factor)

    place_there : place < length quotients
    place_there = omega (arith, Stepping.place_inside S, so_far.places, so_far.same_quotients)

    place_inside : place < product_words
    place_inside = omega (arith, Stepping.place_inside S, S.within)

    below_set : (i : ℕ) → get_or quotients' i 0 < p
    below_set i = go (ℕ_discrete i place)
      where
        go : Dec (i ≡ place) → get_or quotients' i 0 < p
        go (yes e) = subst (λ x. get_or quotients' x 0 < p) (sym e) (subst (λ x. x < p)
            (sym (get_or-set_same quotients place sum 0 place_there))
            (add_below p prime₀.large _ _))
        go (no e) = subst (λ x. x < p) (sym (get_or-set_other quotients place i sum 0 e)) (so_far.below i)

    module _ (prime : Prime p) (n : ℕ) (ω : ℕ → ℕ) (f : Dividend p prime n ω L block₀) where
      D : DividedSoFar p prime n ω f.slots f.vector block quotients
      D = so_far.divides prime n ω f

      P : Pivot (sized (residues p prime)) n ω D.rest (row k) (height k)
      P = ends_pivot p prime so_far.ends D.holds_rest S.some

      few_rows : n ≤ lanes
      few_rows = f.holds.lanes

      filled : 0 < f.slots.size (row k)
      filled = omega (arith, f.holds_slots.size (row k) P.inside, S.filled)

      abbrev a : Residue p
      a = residue p prime r.factor

      abbrev degree : ℕ
      degree = Stepping.shift p prime S r.factor T.factor

      abbrev rest' : ℕ → Polynomial (residues p prime)
      rest' i = (polynomials (residues p prime)).add (D.rest i)
          ((polynomials (residues p prime)).neg ((polynomials (residues p prime)).mul (monomial (residues p prime) a degree)
          (f.slots.at (row k) i)))

      taken : Taken (polynomials (residues p prime)) n f.slots D.rest rest'
      taken = record {
        at = row k;
        inside = P.inside;
        filled = filled;
        factor = monomial (residues p prime) a degree;
        equal = λ i h. refl;
      }

      -- the words of the quotients
      here : place ≡ flat lanes (row k) degree
      here = omega (arith, Stepping.step_shift p prime S r.factor T.factor)

      words_here : words p prime quotients' 0 product_words (flat lanes (row k) degree)
          ≡ (residues p prime).ring.add (words p prime quotients 0 product_words (flat lanes (row k) degree)) a
      unfolding modulo
      words_here = subst
          (λ x. words p prime quotients' 0 product_words x ≡ (residues p prime).ring.add (words p prime quotients 0 product_words x)
          a)
          here
          (words_first p prime quotients' product_words place place_inside
          ∙ ap (residue p prime) (get_or-set_same quotients place sum 0 place_there)
          ∙ residue_mod p prime (get_or quotients place 0 + r.factor)
          ∙ residue_add p prime (get_or quotients place 0) r.factor
          ∙ ap (λ x. (residues p prime).ring.add x a) (sym (words_first p prime quotients product_words place place_inside)))

      words_other : (x : ℕ) → ¬ (x ≡ flat lanes (row k) degree)
          → words p prime quotients' 0 product_words x ≡ words p prime quotients 0 product_words x
      words_other x ne = words_same p prime quotients' quotients 0 0 product_words x
          (λ lt. ap (λ w. w % p) (get_or-set_other quotients place (0 + x) sum 0 (λ e. ne (omega (arith, here)))))

      lane : (q : ℕ) → q < n
          → HoldsQuotient p prime quotients' q (slot_quotient (polynomials (residues p prime)) n f.slots (step D.trace taken)
          q)
      unfolding slot_quotient taken
      lane q h = replace_elim (λ q x. q < n → HoldsQuotient p prime quotients' q x)
          (slot_quotient (polynomials (residues p prime)) n f.slots D.trace) (row k) _
          (λ l. holds_monomial (residues p prime) a degree (D.holds_quotient (row k) l) words_here
          (λ e ne. words_other (flat lanes (row k) e) (λ same. ne (omega arith))))
          q
          (λ ne l. record {
            at = λ e. (D.holds_quotient q l).at e ∙ sym (words_other (flat lanes q e) (λ same. ne (omega (arith, few_rows))));
          })
          h

      divides : DividedSoFar p prime n ω f.slots f.vector block' quotients'
      divides = record {
        rest = rest';
        trace = step D.trace taken;
        holds_rest = flat_step (residues p prime) a degree D.holds_rest
            (f.holds_slots.vector (row k) P.inside filled).block
            (Stepping.step_upper p prime S r.factor T.factor block' T.words)
            (Stepping.step_lower p prime S r.factor T.factor block' T.words);
        holds_quotient = lane;
      }

    turned : Dividing p L block₀ quotients₀ block' quotients' r.size r.leading
    turned = record {
      same_block = Stepping.step_length p prime₀ S r.factor T.factor block' T.words ∙ so_far.same_block;
      same_quotients = length-set quotients place sum ∙ so_far.same_quotients;
      room = omega (arith, so_far.room, T.fewer);
      places = omega (arith, so_far.places, T.fewer);
      ends = T.ends;
      leading = T.leading;
      sums = sums_fewer p block' (slot_places + k - 1) (slot_places + r.size) (omega (arith, T.fewer))
          (Stepping.step_sums p prime₀ S r.factor T.factor block' T.words (slot_places + k) (omega arith)
          (omega (arith, S.within)) so_far.sums);
      below = below_set;
      divides = divides;
    }

    pub dividing_turn : (v : ℕ) → v ≡ (modulo p).add (get_or quotients (k - slot_size L (row k) + (last_lane - row k)) 0) r.factor
        → Dividing p L block₀ quotients₀ block' (set quotients (k - slot_size L (row k) + (last_lane - row k)) v) r.size
        r.leading
    dividing_turn v e = rw e turned

  -- where it stops: on the span of the slots only with nothing left
  module _ {block quotients : List ℕ} {k value : ℕ} (so_far : Dividing p L block₀ quotients₀ block quotients k value)
      (level : ValidLevel p L) where
    abbrev Stops : Type 0
    Stops = (k ≡ 0) ⊎ ((slot_size L (row k) ≡ 0) ⊎ (k < slot_size L (row k)))

    module _ (prime : Prime p) (n : ℕ) (ω : ℕ → ℕ) (f : Dividend p prime n ω L block₀)
        (span : InSpan (polynomials (residues p prime)) n n f.slots f.vector) (some : 0 < k) where
      left : DividedSoFar p prime n ω f.slots f.vector block quotients
      left = so_far.divides prime n ω f

      pivot : Pivot (sized (residues p prime)) n ω left.rest (row k) (height k)
      pivot = ends_pivot p prime so_far.ends left.holds_rest some

      on : (0 < f.slots.size (row k)) × (f.slots.size (row k) ≤ height k)
      on = division_on (polynomials (residues p prime)) n f.slots (holds_filled p prime level f.holds_slots) left.trace
          span pivot

      goes_on : (slot_size L (row k) ≡ 0) ⊎ (k < slot_size L (row k)) → ⊥
      goes_on (inl empty) = omega (arith, on.0, f.holds_slots.size (row k) pivot.inside)
      goes_on (inr longer) =
          let same = (level.slot (row k) (omega arith)).pivot (omega arith) in
          omega (arith, on.1, f.holds_slots.size (row k) pivot.inside)

    pub dividing_end : (k ≡ 0) ⊎ ((slot_size L (row k) ≡ 0) ⊎ (k < slot_size L (row k))) → BlockDivided p L block₀ block quotients k
    dividing_end stops = record {
      ends = so_far.ends;
      sums = so_far.sums;
      below = so_far.below;
      divides = so_far.divides;
      whole = λ prime n ω f span. whole (goes_on prime n ω f span) stops;
    }
      where
        whole : (0 < k → (slot_size L (row k) ≡ 0) ⊎ (k < slot_size L (row k)) → ⊥) → Stops → k ≡ 0
        whole never (inl e) = e
        whole never (inr e) = go (ℕ_discrete k 0)
          where
            go : Dec (k ≡ 0) → k ≡ 0
            go (yes z) = z
            go (no z) = absurd (never (omega arith) e)
