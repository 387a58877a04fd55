-- Rows of what is put together: of one outcome after another, of a row before another, of what is handed out.
use Rattle.std.specs.Prelude.{ℕ, suc, ◌≤◌, ◌<◌, ◌≡◌, refl, Bool, true, false, ◌&&◌, length, get_or, leb}
use Rattle.std.proofs.Common.{sym, ap, ap₂, arith, leb-true}
use Rattle.std.proofs.Math.Logic.{inl, inr, ⊎_elim}
use Rattle.std.proofs.Math.Bool.{not}
use mathlib.Core.List.{List, [], ◌∷◌, ◌++◌}
use Rattle.std.proofs.Math.Nat.{le_trans}
use Rattle.modular.specs.Bits.{most4}
use Rattle.words.specs.Outcome.{Outcome, refuse, followed_by, mapped}
use Rattle.words.specs.Outcome.Outcome.{accepted, refused}
use Rattle.words.specs.OutcomeLaws.{refused_accepted, mapped_refused}
use Rattle.words.specs.ReadingLaws.{and_passed}
use Rattle.words.specs.Systems.{head_in}
use Rattle.words.specs.Rows.{Row, InRow, InRows, RefusesBy, at_0, words_rows, line_rows, certificate_rows, value_rows}
use Rattle.words.specs.Rows.{check_rows, kept_rows, check_kept_rows}

-- all numbers of these rows lie between two
abbrev pub between? : (low high : ℕ) → List Row → Bool
between? low high [] = true
between? low high (r ∷ rows) = leb low r.lowest && (leb r.highest high && between? low high rows)

-- all places are below a bound
abbrev pub Below : (most : ℕ) → List Row → Type 0
Below most [] = Unit {0}
Below most (r ∷ rows) = (r.below ≤ most) × Below most rows

-- ---- rows

module _ (n k : ℕ) where
  pub in_first : (rows more : List Row) → InRows rows n k → InRows (rows ++ more) n k
  unfolding InRows
  in_first [] more h = absurd h
  in_first (r ∷ rows) more (inl h) = inl h
  in_first (r ∷ rows) more (inr h) = inr (in_first rows more h)

  pub in_second : (rows more : List Row) → InRows more n k → InRows (rows ++ more) n k
  unfolding InRows
  in_second [] more h = h
  in_second (r ∷ rows) more h = inr (in_second rows more h)

  -- all numbers lie between two, all places are below a bound
  pub numbers_between : (low high : ℕ) (rows : List Row) → between? low high rows ≡ true → InRows rows n k → (low ≤ n) × (n ≤ high)
  unfolding InRows
  numbers_between low high [] e h = absurd h
  numbers_between low high (r ∷ rows) e h =
      let t = and_passed (leb low r.lowest) _ (ap not e) in
      let u = and_passed (leb r.highest high) _ (ap not t.1) in
      ⊎_elim (λ (i : InRow r n k). (le_trans (leb-true _ _ t.0) i.from, le_trans i.to (leb-true _ _ u.0)))
      (numbers_between low high rows u.1) h

  pub places_below : (most : ℕ) (rows : List Row) → Below most rows → InRows rows n k → k < most
  unfolding InRows
  places_below most [] b h = absurd h
  places_below most (r ∷ rows) b h = ⊎_elim (λ (i : InRow r n k). omega (arith, i.before, b.0)) (places_below most rows b.1) h

-- ---- outcomes

pub by_accepted : {A : Type 0} {rows : List Row} (a : A) → RefusesBy rows (accepted a)
by_accepted a = record { in_rows = λ n k e. absurd (refused_accepted (sym e)) }

-- a row for place 0, before others: 10, 11, 12
pub by_row : {A : Type 0} {rows : List Row} (b : Bool) (number : ℕ) {next : Outcome A} → RefusesBy rows next
    → RefusesBy (at_0 number ∷ rows) (refuse b number 0 next)
unfolding InRows
by_row true number h = record {
  in_rows = λ n k e.
      let en : number ≡ n = cc in
      let ek : 0 ≡ k = cc in
      inl (record { from = omega arith; to = omega arith; after = omega arith; before = omega arith });
}
by_row false number h = record { in_rows = λ n k e. inr (h.in_rows n k e) }

-- one after another
pub by_followed : {A B : Type 0} {rows more : List Row} (o : Outcome A) (next : A → Outcome B) → RefusesBy rows o
    → ((a : A) → o ≡ accepted a → RefusesBy more (next a)) → RefusesBy (rows ++ more) (followed_by o next)
by_followed {rows = rows} {more} (accepted a) next h f =
    record { in_rows = λ n k e. in_second n k rows more ((f a refl).in_rows n k e) }
by_followed {rows = rows} {more} (refused number place) next h f = record {
  in_rows = λ n k e. in_first n k rows more (h.in_rows n k (let en : number ≡ n = cc in let ek : place ≡ k = cc in ap₂ refused en
      ek));
}

-- of what is handed out of a value
pub by_mapped : {A B : Type 0} {rows : List Row} (f : A → B) (o : Outcome A) → RefusesBy rows o → RefusesBy rows (mapped f o)
by_mapped f o h = record { in_rows = λ n k e. h.in_rows n k (mapped_refused f o e) }

-- ---- the check: no place is greater than both numbers of words, or than `most4`, to which heads count rows and columns

words_below : (lowest highest by count : ℕ) {most : ℕ} (rows : List Row) → count ≤ most → Below (suc most) rows
    → Below (suc most) (words_rows lowest highest by count ++ rows)
words_below lowest highest by count rows h b = (omega arith, (omega arith, (omega arith, b)))

values_below : (w : ℕ) {most : ℕ} → most4 ≤ most → Below (suc most) (value_rows (head_in w).shape)
unfolding head_in
values_below w heads = (omega arith, (omega arith, (omega arith, (omega arith, (omega arith, (omega arith, tt))))))

module _ (ws cs : List ℕ) {most : ℕ} (system : length ws ≤ most) (certificate : length cs ≤ most) (heads : most4 ≤ most) where
  read_below : (values : List Row) → Below (suc most) values → Below (suc most) (line_rows ws ++ certificate_rows cs ++ values)
  read_below values below =
      words_below 1 3 0 (length ws) (at_0 40 ∷ certificate_rows cs ++ values) system (
        omega arith,
        words_below 21 21 20 (length cs) values certificate below,
      )

  pub check_below : Below (suc most) (check_rows ws cs)
  check_below = read_below (value_rows (head_in (get_or ws 0 0)).shape) (values_below (get_or ws 0 0) heads)

  pub check_kept_below : Below (suc most) (check_kept_rows ws cs)
  check_kept_below = read_below (kept_rows (head_in (get_or ws 0 0)).shape) (omega arith, values_below (get_or ws 0 0) heads)
