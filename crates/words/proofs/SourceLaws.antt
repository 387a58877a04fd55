-- What is asked of a way to read a sheet's words, and that both ways give it: all that it holds, and one line.
use Rattle.std.specs.Prelude.{ℕ, ◌≡◌, ◌↔◌, List, not, get_or, length, ltb}
use Rattle.std.proofs.Math.Path.{sym, ap}
use Rattle.std.proofs.Common.{◌∙◌}
use Rattle.words.specs.Limits.{Limits}
use Rattle.words.specs.LimitsLaws.{LimitsFit}
use Rattle.words.specs.Outcome.Outcome.{accepted, refused}
use Rattle.words.specs.OutcomeLaws.{followed_by_accepted, refuse_passed}
use Rattle.words.specs.Reading.{renumber}
use Rattle.words.specs.Reading.Reading.{read}
use Rattle.words.specs.ReadingLaws.{and_then_read, outcome_accepted}
use Rattle.words.specs.Frame.{Framed, body_from, framed_from}
use Rattle.words.specs.System.{System, ShapeWithin, shape}
use Rattle.words.specs.Systems.{Head, Systems, head_in, read_systems, systems_head_from, systems_due, systems_of, systems_from}
use Rattle.words.specs.Systems.{line, line_of, read_line}
use Rattle.words.proofs.HeadLaws.{head_read}
use Rattle.words.proofs.SystemsLaws.{systems_from_shown, systems_read_of_written, systems_written_of_read}
use Rattle.words.proofs.LineLaws.{line_read_of_written, line_written_of_read, line_in_within, line_refused_iff}
use Rattle.words.proofs.RefusedLaws.{systems_refused_iff, systems_rows}
use Rattle.words.specs.Rows.{Row, RefusesBy, system_rows, line_rows}
use Rattle.words.specs.RowLaws.{by_followed, by_row, by_accepted}
use Rattle.words.specs.Pair.{Source, whole, one_line}

module _ (limits : Limits) {S : Type 0} (source : Source S) where
  pub record SourceLaws : Type 0 where
    pub read_of_written : (s : S) (ws : List ℕ) → source.Holds s ws → source.from ws ≡ accepted s
    pub written_of_read : (s : S) (ws : List ℕ) → source.from ws ≡ accepted s → source.Holds s ws
    pub refused_iff : (ws : List ℕ) (number place : ℕ)
        → (source.from ws ≡ refused number place) ↔ source.Refused ws number place
    pub valid : (s : S) (ws : List ℕ) → source.Holds s ws → ShapeWithin limits (source.shape_in s)

  -- the head says the shape, and the refusals are in the table's rows
  pub record SourceRows (rows : List ℕ → List Row) : Type 0 where
    pub says : (s : S) (ws : List ℕ) → source.from ws ≡ accepted s → source.shape_in s ≡ (head_in (get_or ws 0 0)).shape
    pub in_rows : (ws : List ℕ) → RefusesBy (rows ws) (source.from ws)

-- what was read has the head that it was put together with
head_of : (v : Framed Head) (s : Systems) {h : Head} {fs : List (List ℕ)} {us vs ts : List ℕ}
    → read (record { head = h; entries = fs }) us ≡ read v vs → read (systems_of v) vs ≡ read s ts → h ≡ s.head
unfolding systems_of
head_of v s {h} {fs} e f =
    let framed : record { head = h; entries = fs } ≡ v = cc in
    let systems : systems_of v ≡ s = cc in
    ap (λ (w : Framed Head). w.head) framed ∙ ap (λ (t : Systems). t.head) systems

module _ (limits : Limits) where
  -- what was read has the head that the first word says
  pub head_says : (s : Systems) (ws : List ℕ) → read_systems limits ws ≡ accepted s → s.head ≡ head_in (get_or ws 0 0)
  unfolding systems_from framed_from
  head_says s ws r =
      let t = outcome_accepted (length ws) (systems_from limits ws) s (sym (systems_from_shown limits ws) ∙ r) in
      let u = and_then_read (framed_from 0 (systems_head_from limits) (systems_due limits) ws) t.1 in
      let a = and_then_read (systems_head_from limits ws) u.2 in
      let b = and_then_read (renumber 0 (body_from (systems_due limits a.0) (length ws) a.1)) a.3 in
      sym (head_of u.0 s b.3 u.3) ∙ (head_read limits ws a.0 a.1 a.2).says

  pub whole_rows : SourceRows limits (whole limits) system_rows
  whole_rows = record { says = λ s ws e. ap (λ (h : Head). h.shape) (head_says s ws e); in_rows = systems_rows limits }

  module _ (k : ℕ) where
    line_says : (s : System) (ws : List ℕ) → read_line limits k ws ≡ accepted s → shape s ≡ (head_in (get_or ws 0 0)).shape
    unfolding read_line line
    line_says s ws e =
        let t = followed_by_accepted (read_systems limits ws) (line_of k) e in
        let u = refuse_passed (not (ltb k t.0.head.sides)) 40 0 (accepted (line t.0 k)) t.2 in
        let same : line t.0 k ≡ s = let e = u.1 in cc in
        sym (ap shape same) ∙ ap (λ (h : Head). h.shape) (head_says t.0 ws t.1)

    pub line_rows_lem : SourceRows limits (one_line limits k) line_rows
    unfolding read_line
    line_rows_lem = record {
      says = line_says;
      in_rows = λ ws. by_followed (read_systems limits ws) (line_of k) (systems_rows limits ws)
          (λ s _. by_row (not (ltb k s.head.sides)) 40 (by_accepted (line s k)));
    }

  module _ (fit : LimitsFit limits) where
    pub whole_laws : SourceLaws limits (whole limits)
    whole_laws = record {
      read_of_written = λ s ws h. ap (read_systems limits) h.0 ∙ systems_read_of_written limits fit s h.1;
      written_of_read = λ s ws e. systems_written_of_read limits fit ws s e;
      refused_iff = systems_refused_iff limits;
      valid = λ s ws h. h.1.head.shape;
    }

    pub line_laws : (k : ℕ) → SourceLaws limits (one_line limits k)
    line_laws k = record {
      read_of_written = λ s ws h. line_read_of_written limits fit k ws h;
      written_of_read = λ s ws e. line_written_of_read limits fit k ws e;
      refused_iff = line_refused_iff limits fit k;
      valid = λ s ws h. (line_in_within limits fit k ws h).shape;
    }
