-- One line: its system keeps the limits; the system of a single sheet is itself; when a line is read, and when that is refused.
use Rattle.std.specs.Prelude.{◌≡◌, ◌↔◌, ◌⊎◌, Bool, true, false, length, drop, ltb}
use Rattle.std.proofs.Math.Path.{refl, sym, ap, subst}
use Rattle.std.proofs.Common.{◌∙◌, inl, inr, le_of_eq, drop_at, get_or-take, get_or-drop}
use Rattle.std.proofs.Math.Bool.{not}
use mathlib.Core.List.{List, [], ◌++◌}
use Prim.Native.Nat.{ℕ, suc, ◌+◌, ◌-◌, ◌*◌, ◌≤◌, ◌<◌}
use native.Mathlib.Omega.{arith}
use Rattle.std.proofs.Math.ListN.{get_or, take}
use Rattle.std.proofs.Math.Seq.{take_all}
use borrow.Author.Tests.{lt-ltb, le-ltb, ltb-true, ltb-false, not-false}
use Rattle.words.specs.Limits.{Limits}
use Rattle.words.specs.Outcome.{Outcome, followed_by, mapped}
use Rattle.words.specs.Outcome.Outcome.{accepted, refused}
use Rattle.words.specs.Polynomial.{VectorWithin}
use Rattle.words.specs.System.{System, SystemWithin, side_entry}
use Rattle.words.specs.Systems.{Systems, SystemsWithin, systems_entries, read_systems, line, single, line_of, read_line}
use Rattle.words.specs.Line.{LineIn, LineRefused}
use Rattle.words.specs.Line.LineRefused.{by_words, no_side}
use Rattle.words.specs.OutcomeLaws.{followed_by_accepted, refuse_passed, refuse_refused_iff, refused_accepted}
use Rattle.words.specs.LimitsLaws.{LimitsFit}
use Rattle.words.specs.VectorLaws.{vector_take, vector_drop}
use Rattle.words.proofs.SystemsLaws.{systems_read_of_written, systems_written_of_read}
use Rattle.words.proofs.RefusedLaws.{systems_refused_iff}

not_true : (b : Bool) → not b ≡ true → b ≡ false
not_true true e = sym e
not_true false e = refl

get_or_behind : (xs ys : List (List ℕ)) (n i : ℕ) → length xs ≡ n → get_or (xs ++ ys) (n + i) [] ≡ get_or ys i []
get_or_behind xs ys n i e = sym (get_or-drop n (xs ++ ys) i []) ∙ ap (λ (l : List (List ℕ)). get_or l i []) (drop_at xs ys n e)

module _ (limits : Limits) where
  -- ---- values

  -- the polynomials before right side k, those of right side k, and those behind it
  module _ (s : Systems) (h : SystemsWithin limits s) (k : ℕ) (has : k < s.head.sides) where
    abbrev n : ℕ
    n = s.head.shape.rows

    abbrev left : ℕ
    left = (s.head.sides - suc k) * n

    parts : s.head.sides * n ≡ k * n + (n + left)
    parts =
        let j : ℕ = s.head.sides - suc k in
        let e : s.head.sides ≡ k + (1 + j) = omega arith in
        let d : (k + (1 + j)) * n ≡ k * n + (n + j * n) = omega arith in
        ap (λ i. i * n) e ∙ d

    side_within : VectorWithin s.head.shape.modulus limits.system_coefficients n (take n (drop (k * n) s.side_entries))
    side_within =
        let p = s.head.shape.modulus in
        let c = limits.system_coefficients in
        vector_take p c n left (drop (k * n) s.side_entries)
        (vector_drop p c (k * n) (n + left) s.side_entries
        (subst (λ i. VectorWithin p c i s.side_entries) parts h.side_entries))

    pub line_within : SystemWithin limits (line s k)
    unfolding line
    line_within = record { shape = h.head.shape; matrix = h.matrix; side = side_within }

    -- in written order row i of right side k stands behind A and k right sides
    pub side_entry_lem : (i : ℕ) → i < n
        → get_or (systems_entries s) (n * s.head.shape.columns + k * n + i) [] ≡ side_entry (line s k) i
    unfolding line
    side_entry_lem i less =
        let A : ℕ = n * s.head.shape.columns in
        let place : A + k * n + i ≡ A + (k * n + i) = omega arith in
        ap (λ (j : ℕ). get_or (systems_entries s) j []) place
        ∙ get_or_behind s.matrix s.side_entries A (k * n + i) h.matrix.count
        ∙ sym (get_or-drop (k * n) s.side_entries i [])
        ∙ sym (get_or-take n (drop (k * n) s.side_entries) i [] less)

  -- a single sheet has one line, which is its system
  module _ (s : System) (h : SystemWithin limits s) where
    pub line_single : line (single s) 0 ≡ s
    unfolding line single
    line_single =
        let none : 0 * s.rows ≡ 0 = omega arith in
        ap (λ (b : List (List ℕ)). record {
          modulus = s.modulus;
          rows = s.rows;
          columns = s.columns;
          matrix = s.matrix;
          side = b;
        })
        (ap (λ (i : ℕ). take s.rows (drop i s.side)) none ∙ take_all s.rows s.side (le_of_eq h.side.count))

    pub single_within : 1 ≤ limits.sides → SystemsWithin limits (single s)
    unfolding single
    single_within some = record {
      head = record { shape = h.shape; sides = (omega arith, some) };
      matrix = h.matrix;
      side_entries = subst (λ i. VectorWithin s.modulus limits.system_coefficients i s.side) (omega arith) h.side;
    }

  -- ---- reading

  module _ (fit : LimitsFit limits) (k : ℕ) (ws : List ℕ) where
    line_of_has : (s : Systems) → k < s.head.sides → line_of k s ≡ accepted (line s k)
    line_of_has s has = simp (lt-ltb k s.head.sides has)

    pub line_read_of_written : {s : System} → LineIn limits k s ws → read_line limits k ws ≡ accepted s
    unfolding read_line
    line_read_of_written W =
        ap (λ o. followed_by o (line_of k))
        (ap (read_systems limits) W.words ∙ systems_read_of_written limits fit W.systems W.within)
        ∙ line_of_has W.systems W.has
        ∙ ap accepted (sym W.is)

    pub line_written_of_read : {s : System} → read_line limits k ws ≡ accepted s → LineIn limits k s ws
    unfolding read_line
    line_written_of_read {s} e =
        let t = followed_by_accepted (read_systems limits ws) (line_of k) e in
        let u = refuse_passed (not (ltb k t.0.head.sides)) 40 0 (accepted (line t.0 k)) t.2 in
        let r = systems_written_of_read limits fit ws t.0 t.1 in
        record {
          systems = t.0;
          words = r.0;
          within = r.1;
          has = ltb-true k t.0.head.sides (not-false _ u.0);
          is = let e = u.1 in cc;
        }

    -- a line is read just from the written forms of systems within the limits that have it
    pub line_accepted_iff : (s : System) → (read_line limits k ws ≡ accepted s) ↔ LineIn limits k s ws
    line_accepted_iff s = (line_written_of_read, line_read_of_written)

    pub line_in_within : {s : System} → LineIn limits k s ws → SystemWithin limits s
    line_in_within W = subst (SystemWithin limits) (sym W.is) (line_within W.systems W.within k W.has)

    -- ---- refusals

    refused_line : (number place : ℕ) (o : Outcome Systems) → read_systems limits ws ≡ o
        → followed_by o (line_of k) ≡ refused number place → LineRefused limits k ws number place
    refused_line number place (refused n j) r e = by_words ((systems_refused_iff limits ws number place).0 (r ∙ (cc)))
    refused_line number place (accepted s) r e =
        by_side ((refuse_refused_iff (not (ltb k s.head.sides)) 40 0 _ number place).0 e)
      where
        by_side : (((not (ltb k s.head.sides) ≡ true) × (number ≡ 40) × (place ≡ 0))
            ⊎ ((not (ltb k s.head.sides) ≡ false) × (accepted (line s k) ≡ refused number place)))
            → LineRefused limits k ws number place
        by_side (inl t) =
            let w = systems_written_of_read limits fit ws s r in
            no_side s w.0 w.1 (ltb-false k s.head.sides (not_true (ltb k s.head.sides) t.0)) t.1 t.2
        by_side (inr t) = absurd (refused_accepted (sym t.1))

    line_refused : (number place : ℕ) → LineRefused limits k ws number place → read_line limits k ws ≡ refused number place
    unfolding read_line
    line_refused number place (by_words h) = ap (λ o. followed_by o (line_of k)) ((systems_refused_iff limits ws number place).1 h)
    line_refused number place (no_side s e w few n p) =
        ap (λ o. followed_by o (line_of k)) (ap (read_systems limits) e ∙ systems_read_of_written limits fit s w)
        ∙ (refuse_refused_iff (not (ltb k s.head.sides)) 40 0 _ number place).1
        (inl (ap not (le-ltb k s.head.sides few), n, p))

    -- a line is refused just by the table of its sheet's words, or with 40 where the sheet has no such right side
    pub line_refused_iff : (number place : ℕ) → (read_line limits k ws ≡ refused number place) ↔ LineRefused limits k ws number place
    unfolding read_line
    line_refused_iff number place = (refused_line number place (read_systems limits ws) refl, line_refused number place)

  -- the first right side is never missing
  pub first_line : (fit : LimitsFit limits) (ws : List ℕ) → read_line limits 0 ws ≡ mapped (λ s. line s 0) (read_systems limits ws)
  unfolding read_line
  first_line fit ws = each (read_systems limits ws) (λ s e. (systems_written_of_read limits fit ws s e).1.head.sides.0)
    where
      each : (o : Outcome Systems) → ((s : Systems) → o ≡ accepted s → 1 ≤ s.head.sides)
          → followed_by o (line_of 0) ≡ mapped (λ s. line s 0) o
      each (refused number place) some = refl
      each (accepted s) some = simp (lt-ltb 0 s.head.sides (some s refl))
