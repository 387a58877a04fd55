-- One column up: a level linked to the last one, and the kernel of the column, behind the levels so far.
use Rattle.std.specs.Prelude.{ℕ, suc, ◌+◌, ◌<◌, ◌≤◌, ◌≡◌, List}
use Rattle.std.proofs.Common.{sym, ◌∙◌, ap, subst, subst₂, add-one, arith}
use Rattle.algebra.specs.Polynomial.{Polynomial}
use Rattle.algebra.specs.Size.{sized}
use Rattle.modular.specs.Prime.{Prime}
use Rattle.modular.specs.Residue.{residues}
use Rattle.reduction.specs.Replace.{replace, replace_here, replace_other}
use Rattle.reduction.specs.Slots.{Slots, Same, SameBlocks, same_refl, unweighted}
use Rattle.reduction.specs.Link.{Link}
use Rattle.reduction.specs.Levels.{Levels, levels_next}
use Rattle.solve_lattice.specs.Room.{last_degree}
use Rattle.solve_lattice.specs.Memory.{Level}
use Rattle.solve_lattice.specs.Holding.{HoldsSlots}
use Rattle.solve_lattice.specs.Input.{Equations, input_system}
use Rattle.solve_certify.specs.Ascended.{HoldsLevels}

-- the next slots and a kernel behind level j, and the blocks of these slots in memory
pub record Extension (p : ℕ) (prime : Prime p) {n m j : ℕ} {X : Equations p prime n m} {input : List ℕ} {L : Level}
    (H : HoldsLevels p prime n m X j input L) (L' : Level) : Type 0 where
  pub next : Slots (Polynomial (residues p prime))
  pub kernel : Polynomial (residues p prime)
  pub link : Link (sized (residues p prime)) n last_degree (λ i. X.matrix i j) (H.level j) next kernel
  pub slots : Slots (Polynomial (residues p prime))
  pub holds : HoldsSlots p prime n unweighted L' slots
  pub blocks : SameBlocks n slots next

module _ {p : ℕ} {prime : Prime p} {n m j : ℕ} {X : Equations p prime n m} {input : List ℕ} {L L' : Level}
    {H : HoldsLevels p prime n m X j input L} (E : Extension p prime H L') where
  abbrev level' : ℕ → Slots (Polynomial (residues p prime))
  level' = replace H.level (j + 1) E.next

  abbrev kernel' : ℕ → Polynomial (residues p prime)
  kernel' = replace H.kernel j E.kernel

  earlier_level : (k : ℕ) → k ≤ j → level' k ≡ H.level k
  earlier_level k h = replace_other H.level (j + 1) E.next k (λ e. omega arith)

  earlier_kernel : (k : ℕ) → k < j → kernel' k ≡ H.kernel k
  earlier_kernel k h = replace_other H.kernel j E.kernel k (λ e. omega arith)

  abbrev Links : (U U' : Slots (Polynomial (residues p prime))) → Polynomial (residues p prime) → Type 0
  Links = Link (sized (residues p prime)) n last_degree (λ i. X.matrix i j)

  here : level' (j + 1) ≡ E.next
  here = replace_here H.level (j + 1) E.next

  link : Links (level' j) (level' (suc j)) (kernel' j)
  link = subst₂ (λ U κ. Links U (level' (suc j)) κ) (sym (earlier_level j (omega arith)))
      (sym (replace_here H.kernel j E.kernel))
      (subst (λ U. Links (H.level j) U E.kernel) (sym (ap level' (sym (add-one j)) ∙ here)) E.link)

  pub extended : HoldsLevels p prime n m X (j + 1) input L'
  extended = record {
    system = H.system;
    level = level';
    kernel = kernel';
    levels = subst (Levels (input_system p prime n m X) level' kernel') (sym (add-one j))
        (levels_next (input_system p prime n m X) H.levels
        (λ k h. subst (Same n (H.level k)) (sym (earlier_level k h)) (same_refl (H.level k)))
        (λ k h. sym (earlier_kernel k h)) link);
    slots = E.slots;
    holds = E.holds;
    blocks = subst (SameBlocks n E.slots) (sym here) E.blocks;
  }

  -- the earlier levels and kernels stay
  pub extended_level : (k : ℕ) → k ≤ j → extended.level k ≡ H.level k
  unfolding extended
  extended_level = earlier_level

  pub extended_kernel : (k : ℕ) → k < j → extended.kernel k ≡ H.kernel k
  unfolding extended
  extended_kernel = earlier_kernel

  pub extended_next : extended.level (j + 1) ≡ E.next
  unfolding extended
  extended_next = here

  pub extended_last : extended.kernel j ≡ E.kernel
  unfolding extended
  extended_last = replace_here H.kernel j E.kernel
