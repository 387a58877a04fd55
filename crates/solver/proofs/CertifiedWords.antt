-- A line that was read, laid out and certified: what the output area then holds.
use mathlib.Core.Path.{◌≡◌, sym, ap, ◌∙◌, subst}
use mathlib.Core.Bool.{Bool}
use mathlib.Core.List.{List}
use Prim.Native.Nat.{ℕ}
use Rattle.words.specs.Limits.{office}
use Rattle.words.specs.LimitsLaws.{office_fits}
use Rattle.words.specs.Outcome.Outcome.{accepted}
use Rattle.words.specs.OutcomeLaws.{mapped_accepted}
use Rattle.words.specs.System.{System, Shape, SystemWithin, ShapeWithin, shape}
use Rattle.words.specs.Systems.{read_line}
use Rattle.words.proofs.LineLaws.{line_written_of_read, line_in_within}
use Rattle.words.specs.Certificate.{form_when}
use Rattle.truth.specs.Chosen.{chosen_right}
use Rattle.solve_certify.specs.Certifies.{HasSystem, Certifies}
use Rattle.solve_meaning.specs.SystemIn.{system_in_lanes, SystemArea}
use Rattle.solve_meaning.specs.SystemInLaws.{read_within, read_laid}
use Rattle.solve_meaning.specs.Taken.{taken_certificate}
use Rattle.solve_meaning.specs.Equations.{office_equations}
use Rattle.solve_meaning.specs.LaidLaws.{laid_holds}
use Rattle.solve_meaning.specs.TakenChosen.{taken_chosen, taken_within}
use Rattle.solve_meaning.specs.Answers.{right_answers}
use Rattle.solver.specs.SolvingLaws.{accepted_same}
use Rattle.solver.specs.Certified.{HasShape, Read, CertifiedOutput}

-- the system in the input area
module _ {h : Shape} (within : ShapeWithin office h) {input : List ℕ} (area : SystemArea h input) where
  -- p is the modulus in hand
  module _ (p : ℕ) (is : p ≡ h.modulus) where
    pub area_system : HasSystem p h.rows h.columns input
    area_system = subst (λ q. HasSystem q h.rows h.columns input) (sym is) (record {
      prime = (read_within h within input).shape.prime;
      equations = office_equations (system_in_lanes h input) (read_within h within input);
      holds = laid_holds (system_in_lanes h input) (read_within h within input) (read_laid h within input area);
    })

    pub area_certified : {output : List ℕ} {solved : Bool} → Certifies p h.rows h.columns input output solved
        → CertifiedOutput (system_in_lanes h input) output solved
    area_certified {output} {solved} done =
        let s = system_in_lanes h input in
        let w = read_within h within input in
        let done' = subst (λ q. Certifies q h.rows h.columns input output solved) is done in
        let kept = taken_within office s w output (form_when solved) in
        let chosen = taken_chosen office s w output solved
        (done'.holds w.shape.prime (office_equations s w) (laid_holds s w (read_laid h within input area))) in
        record {
          valid = done'.valid;
          within = kept;
          chosen = chosen;
          answers =
              let c = taken_certificate (shape s) (form_when solved) output in
              right_answers office s w c kept (chosen_right s c chosen);
        }

module _ {h : Shape} {k : ℕ} {ws : List ℕ} (R : Read h k ws) where
  -- whatever system was read has this shape
  pub same_shape : {s : System} → read_line office k ws ≡ accepted s → h ≡ shape s
  same_shape e = R.same_shape ∙ ap shape (accepted_same (sym R.read ∙ e))

  written : SystemWithin office R.system
  written = line_in_within office office_fits k ws (line_written_of_read office office_fits k ws R.read)

  pub read_shape : ShapeWithin office h
  read_shape = rw R.same_shape written.shape

-- the words by what reading gives
pub told_read : {h : Shape} {k : ℕ} {ws : List ℕ} → HasShape h k ws → Read h k ws
told_read told =
    let found = mapped_accepted shape _ told in
    record { system = found.0; read = found.1; same_shape = sym found.2 }
