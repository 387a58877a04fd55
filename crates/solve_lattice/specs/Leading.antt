-- One move after another: what memory leads to.
use Rattle.std.specs.Prelude.{ℕ, ◌<◌, ◌≡◌, refl}
use Rattle.std.proofs.Common.{◌∙◌, ap, arith}
use Rattle.ring.specs.Ring.{Ring}
use Rattle.algebra.specs.Sized.{Sized}
use Rattle.reduction.specs.Trace.{State, Trace, start, alike, step, exchange}
use Rattle.solve_lattice.specs.Memory.{row, slot_size, Memory, Valid}
use Rattle.solve_lattice.specs.Holding.{Leads}
use Rattle.solve_lattice.specs.Moves.{Fits, Stepped, Swapped, Lengthened}

pub trace_then : {A : Type 0} {R : Ring A} {S : Sized R} {n : ℕ} {ω : ℕ → ℕ} {s t u : State A}
    → Trace S n ω s t → Trace S n ω t u → Trace S n ω s u
trace_then r start = r
trace_then r (alike x e) = alike (trace_then r x) e
trace_then r (step x m) = step (trace_then r x) m
trace_then r (exchange x m) = exchange (trace_then r x) m

module _ {p : ℕ} where
  pub leads_none : (M : Memory) → Leads p M M
  leads_none M prime n ω s holds = record { now = s; holds = holds; trace = start }

  pub leads_then : (M M' M'' : Memory) → Leads p M M' → Leads p M' M'' → Leads p M M''
  leads_then M M' M'' f g prime n ω s holds =
      let first = f prime n ω s holds in
      let second = g prime n ω first.now first.holds in
      record { now = second.now; holds = second.holds; trace = trace_then first.trace second.trace }

  -- a hand that is long enough stays
  pub kept_lengthened : {M : Memory} → Valid p M → Fits M → Lengthened p M M
  kept_lengthened {M} valid fits =
      record { moved = record { valid = valid; leads = leads_none M }; places_kept = refl; fits = fits }

  -- an exchange with a longer slot
  module _ {M M' : Memory} (valid : Valid p M) (some : 0 < M.hand.size)
      (longer : M.hand.size < slot_size M.level (row M.hand.size)) (x : Swapped p M M') where
    swapped_fits : Fits M'
    swapped_fits = record {
      some = omega (arith, x.hand_size);
      filled = rw same (omega (arith, x.slot_size_lem));
      shorter = rw same (omega (arith, x.slot_size_lem, x.hand_size));
      short = λ q h. omega (
        arith,
        x.hand_size,
        (x.valid.level.slot q h).tail_within,
        (valid.level.slot (row M.hand.size) (omega arith)).block.within,
      );
    }
      where
        same : row M'.hand.size ≡ row M.hand.size
        same = ap row x.hand_size ∙ (valid.level.slot (row M.hand.size) (omega arith)).pivot (omega arith)

    pub swapped_lengthened : Lengthened p M M'
    swapped_lengthened = record {
      moved = record { valid = x.valid; leads = x.leads (omega arith) };
      places_kept = x.places_kept;
      fits = swapped_fits;
    }

  -- and a step
  pub lengthened_stepped : {M M' M'' : Memory} → Lengthened p M M' → Stepped p M' M'' → Stepped p M M''
  lengthened_stepped {M} {M'} {M''} x y = record {
    moved = record { valid = y.moved.valid; leads = leads_then M M' M'' x.moved.leads y.moved.leads };
    falls = omega (arith, x.places_kept, y.falls);
    short = y.short;
  }
