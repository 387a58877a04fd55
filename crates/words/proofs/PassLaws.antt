-- The walk by the table: it goes over words that break no row, and stops at the first that breaks one.
use Rattle.std.specs.Prelude.{◌≡◌, ◌⊎◌, take, drop}
use Rattle.std.proofs.Math.Path.{refl, ap, subst}
use Rattle.std.proofs.Common.{sym, ◌∙◌, inl, inr, length-append, take_at, drop_at}
use Rattle.std.proofs.Math.Logic.{⊎_elim}
use Rattle.std.proofs.Math.Option.{Option, none, some}
use mathlib.Core.List.{List, [], ◌∷◌, ◌++◌}
use Prim.Native.Nat.{ℕ, suc, ◌+◌, ◌-◌, ◌≤◌}
use native.Mathlib.Omega.{arith}
use Rattle.std.proofs.Math.ListN.{length}
use Rattle.words.specs.Reading.{Reading}
use Rattle.words.specs.Reading.Reading.{read, fault}
use Rattle.words.specs.ReadingLaws.{fault_read}
use Rattle.words.specs.Table.{Expected, HeadTable, number_at, missing_at, after, due_after}
use Rattle.words.specs.Table.{Passed, first_at}
use Rattle.words.proofs.TableLaws.{turned, walk}

-- ---- one step

pub none_some : {n : ℕ} → ◌≡◌ {A = Option ℕ} none (some n) → ⊥
none_some e = let z : ◌≡◌ {A = ℕ} 0 1 = cc in omega arith

pub turned_fault : {A : Type 0} (o : Option ℕ) (ws : List ℕ) (next : Reading A) {n : ℕ} {us : List ℕ}
    → turned o ws next ≡ fault n us → ((o ≡ some n) × (ws ≡ us)) ⊎ ((o ≡ none) × (next ≡ fault n us))
turned_fault (some m) ws next e = inl (cc, cc)
turned_fault none ws next e = inr (refl, e)

pub turned_read : {A : Type 0} (o : Option ℕ) (ws : List ℕ) (next : Reading A) {a : A} {rest : List ℕ}
    → turned o ws next ≡ read a rest
    → (o ≡ none) × (next ≡ read a rest)
turned_read (some m) ws next e = absurd (fault_read e)
turned_read none ws next e = (refl, e)

pub due_after_append : (T : HeadTable) (e : Expected) (us vs : List ℕ) → due_after T e (us ++ vs) ≡ due_after T (due_after T e us) vs
unfolding due_after
due_after_append T e [] vs = refl
due_after_append T e (u ∷ us) vs = due_after_append T (after T e u) us vs

-- ---- words in two parts, by the place where the second begins

pub record PartedAt (ws front us : List ℕ) (k : ℕ) : Type 0 where
  pub within : k ≤ length ws
  pub place : k ≡ 0 + length front
  pub front_is : take k ws ≡ front
  pub rest_is : drop k ws ≡ us

pub parted_at : (ws front us : List ℕ) (k : ℕ) → ws ≡ front ++ us → k ≡ length ws - length us → PartedAt ws front us k
parted_at ws front us k words place =
    let all = ap length words ∙ length-append front us in
    let ek : length front ≡ k = omega arith in record {
      within = omega arith;
      place = omega arith;
      front_is = ap (take k) words ∙ take_at front us k ek;
      rest_is = ap (drop k) words ∙ drop_at front us k ek;
    }

-- ---- the walk

module _ (T : HeadTable) (by : ℕ) where
  -- the walk, with the words before these counted
  walk_cons : (total before : ℕ) (e : Expected) (w : ℕ) (ws : List ℕ) → total ≡ before + length (w ∷ ws)
      → walk T by total e (w ∷ ws) ≡ turned (number_at T by e (suc before) w) (w ∷ ws) (walk T by total (after T e w) ws)
  unfolding walk
  walk_cons total before e w ws h =
      let k : total - length ws ≡ suc before = omega arith in
      ap (λ (n : ℕ). turned (number_at T by e n w) (w ∷ ws) (walk T by total (after T e w) ws)) k

  -- ---- words that break no row

  pub passed_append : (before : ℕ) (e : Expected) (us vs : List ℕ) → Passed T by before e (us ++ vs)
      → Passed T by before e us × Passed T by (before + length us) (due_after T e us) vs
  unfolding Passed due_after
  passed_append before e [] vs h = (tt, let k : before + 0 ≡ before = omega arith in rw k h)
  passed_append before e (u ∷ us) vs h =
      let ih = passed_append (suc before) (after T e u) us vs h.1 in
      let k : before + suc (length us) ≡ suc before + length us = omega arith in
      ((h.0, ih.0), rw k ih.1)

  pub append_passed : (before : ℕ) (e : Expected) (us vs : List ℕ) → Passed T by before e us
      → Passed T by (before + length us) (due_after T e us) vs → Passed T by before e (us ++ vs)
  unfolding Passed due_after
  append_passed before e [] vs h k = let n : before + 0 ≡ before = omega arith in rw n at k
  append_passed before e (u ∷ us) vs h k =
      let n : before + suc (length us) ≡ suc before + length us = omega arith in
      (h.0, append_passed (suc before) (after T e u) us vs h.1 (rw n at k))

  -- the walk goes over them
  pub passed_walk : (total before : ℕ) (e : Expected) (us vs : List ℕ) → total ≡ before + length (us ++ vs)
      → Passed T by before e us → walk T by total e (us ++ vs) ≡ walk T by total (due_after T e us) vs
  unfolding Passed due_after
  passed_walk total before e [] vs k h = refl
  passed_walk total before e (u ∷ us) vs k h =
      walk_cons total before e u (us ++ vs) k
      ∙ ap (λ (o : Option ℕ). turned o (u ∷ us ++ vs) (walk T by total (after T e u) (us ++ vs))) h.0
      ∙ passed_walk total (suc before) (after T e u) us vs (omega arith) h.1

  -- ---- where the walk stops

  pub record Stopped (before : ℕ) (e : Expected) (ws : List ℕ) (n : ℕ) (us : List ℕ) : Type 0 where
    pub front : List ℕ
    pub words : ws ≡ front ++ us
    pub passed : Passed T by before e front
    pub row : first_at T by (before + length front) (due_after T e front) us ≡ some n

  stopped_here : (before : ℕ) (e : Expected) (ws : List ℕ) (n : ℕ) {us : List ℕ} → first_at T by before e ws ≡ some n → ws ≡ us
      → Stopped before e ws n us
  unfolding Passed due_after
  stopped_here before e ws n h q =
      let k : before + 0 ≡ before = omega arith in
      subst (Stopped before e ws n) q (record { front = []; words = refl; passed = tt; row = rw k h })

  stopped_next : (before : ℕ) (e : Expected) (w : ℕ) (ws : List ℕ) (n : ℕ) (us : List ℕ) → number_at T by e (suc before) w ≡ none
      → Stopped (suc before) (after T e w) ws n us → Stopped before e (w ∷ ws) n us
  unfolding Passed due_after
  stopped_next before e w ws n us o h =
      let k : before + suc (length h.front) ≡ suc before + length h.front = omega arith in
      record {
        front = w ∷ h.front;
        words = ap (λ (vs : List ℕ). w ∷ vs) h.words;
        passed = (o, h.passed);
        row = rw k h.row;
      }

  pub walk_fault : (total before : ℕ) (e : Expected) (ws : List ℕ) (n : ℕ) (us : List ℕ) → total ≡ before + length ws
      → walk T by total e ws ≡ fault n us → Stopped before e ws n us
  unfolding walk first_at
  walk_fault total before e [] n us k h =
      ⊎_elim (λ o. stopped_here before e [] n o.0 o.1) (λ o. absurd (fault_read (sym o.1)))
      (turned_fault (missing_at by e) [] (read tt []) h)
  walk_fault total before e (w ∷ ws) n us k h =
      ⊎_elim (λ o. stopped_here before e (w ∷ ws) n o.0 o.1)
      (λ o. stopped_next before e w ws n us o.0 (walk_fault total (suc before) (after T e w) ws n us (omega arith) o.1))
      (turned_fault (number_at T by e (suc before) w) (w ∷ ws) _ (sym (walk_cons total before e w ws k) ∙ h))

  pub walk_read : (total before : ℕ) (e : Expected) (ws rest : List ℕ) → total ≡ before + length ws
      → walk T by total e ws ≡ read tt rest → Passed T by before e ws × (missing_at by (due_after T e ws) ≡ none)
  unfolding Passed due_after walk
  walk_read total before e [] rest k h = (tt, (turned_read (missing_at by e) [] _ h).0)
  walk_read total before e (w ∷ ws) rest k h =
      let o = turned_read (number_at T by e (suc before) w) (w ∷ ws) _ (sym (walk_cons total before e w ws k) ∙ h) in
      let ih = walk_read total (suc before) (after T e w) ws rest (omega arith) o.1 in
      ((o.0, ih.0), ih.1)

  -- the other way round
  pub stopped_walk : (total before : ℕ) (e : Expected) (ws : List ℕ) (n : ℕ) → total ≡ before + length ws
      → first_at T by before e ws ≡ some n → walk T by total e ws ≡ fault n ws
  unfolding walk first_at
  stopped_walk total before e [] n k h = ap (λ (o : Option ℕ). turned o [] (read tt [])) h
  stopped_walk total before e (w ∷ ws) n k h =
      walk_cons total before e w ws k ∙ ap (λ (o : Option ℕ). turned o (w ∷ ws) (walk T by total (after T e w) ws)) h

  pub ended_walk : (total before : ℕ) (e : Expected) (ws : List ℕ) → total ≡ before + length ws → Passed T by before e ws
      → missing_at by (due_after T e ws) ≡ none → walk T by total e ws ≡ read tt []
  unfolding Passed due_after walk
  ended_walk total before e [] k h o = ap (λ (n : Option ℕ). turned n [] (read tt [])) o
  ended_walk total before e (w ∷ ws) k h o =
      walk_cons total before e w ws k
      ∙ ap (λ (n : Option ℕ). turned n (w ∷ ws) (walk T by total (after T e w) ws)) h.0
      ∙ ended_walk total (suc before) (after T e w) ws (omega arith) h.1 o
