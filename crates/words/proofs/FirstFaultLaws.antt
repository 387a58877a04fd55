-- A refusal is by the table, and at the first word at fault: once for systems and certificates, over what a head says is due.
use Rattle.std.specs.Prelude.{◌≡◌, ◌⊎◌, ◌↔◌, drop}
use Rattle.std.proofs.Math.Path.{refl, ap, subst}
use Rattle.std.proofs.Common.{sym, ◌∙◌, inl, inr, ⊎_elim, length-drop, take-append-drop, take-take, take-suc}
use Rattle.std.proofs.Math.Option.{Option, none, some}
use mathlib.Core.List.{List, [], ◌∷◌, ◌++◌, append_assoc}
use Prim.Native.Nat.{ℕ, suc, ◌+◌, ◌-◌, ◌≤◌, ◌<◌}
use Rattle.std.proofs.Math.Decide.{dec_lt}
use native.Mathlib.Omega.{arith}
use Rattle.std.proofs.Math.ListN.{length, get_or, take, length-append}
use Rattle.std.proofs.Math.Seq.{length-take-le, take-length, drop-length, take_at, drop_at}
use Rattle.words.specs.Outcome.Outcome.{refused}
use Rattle.words.specs.OutcomeLaws.{refused_accepted}
use Rattle.words.specs.Reading.{Reading, outcome}
use Rattle.words.specs.Reading.Reading.{read, fault}
use Rattle.words.specs.ReadingLaws.{fault_read, and_then_read}
use Rattle.words.specs.Frame.{Due, framed_from}
use Rattle.words.proofs.FrameLaws.{Expressible}
use Rattle.words.proofs.FormatLaws.{Format, FormatLaws, written, value_from, read_value, value_read, value_written}
use Rattle.words.proofs.FormatLaws.{read_of_written}
use Rattle.words.specs.Table.{HeadTable, polynomials_due, number_at, missing_at, after, due_after}
use Rattle.words.specs.Table.{Passed, first_at, ByTable}
use Rattle.words.specs.Table.Expected.{head, nothing}
use Rattle.words.specs.FirstFault.{FirstFault}
use Rattle.words.proofs.TableLaws.{turned, walk, forgotten, forgotten_map, HeadWalk, framed_walk}
use Rattle.words.proofs.OnTableLaws.{missing_none, missing_four, row_at_word, row_at_end}
use Rattle.words.proofs.PassLaws as pass
use Rattle.words.proofs.PassLaws.{Stopped, none_some, turned_read, parted_at}
use Rattle.words.proofs.CompleteLaws as complete
use Rattle.words.proofs.CompleteLaws.{Room, Completed}

-- ---- written forms and their beginnings

module _ {H A : Type 0} (F : Format H A) where
  -- some words follow with which these are the written form of a value within the limits
  abbrev pub Begins : List ℕ → Type 0
  Begins us = (v : A) × F.Within v × (vs : List ℕ) × (us ++ vs ≡ written F v)

  abbrev pub WholeForm : List ℕ → Type 0
  WholeForm ws = (v : A) × F.Within v × (ws ≡ written F v)

  -- a beginning of a beginning
  begins_shorter : (ws : List ℕ) (j k : ℕ) → j ≤ k → Begins (take k ws) → Begins (take j ws)
  begins_shorter ws j k l b =
      let us = take k ws in
      let e : take j ws ++ (drop j us ++ b.2) ≡ us ++ b.2 =
      ap (λ (vs : List ℕ). vs ++ (drop j us ++ b.2)) (sym (take-take j k ws l))
      ∙ sym (append_assoc (take j us) (drop j us) b.2)
      ∙ ap (λ (vs : List ℕ). vs ++ b.2) (take-append-drop j us) in
      (b.0, b.1, drop j us ++ b.2, e ∙ b.3)

  -- there is one place at most
  within_place : {missing : ℕ} {ws : List ℕ} {n k : ℕ} → FirstFault Begins WholeForm missing ws n k → k ≤ length ws
  within_place {ws = ws} {k = k} h = ⊎_elim (λ t. let e = t.1 in omega arith) (λ t. let l = t.0 in omega arith) h.at

  not_before : {missing : ℕ} (ws : List ℕ) {n k m j : ℕ} → FirstFault Begins WholeForm missing ws n k
      → FirstFault Begins WholeForm missing ws m j → k < j → ⊥
  not_before ws {k = k} {j = j} h g l =
      let few = within_place g in
      ⊎_elim (λ t. let e = t.1 in omega arith) (λ t. t.1 (begins_shorter ws (suc k) j l g.before)) h.at

  pub first_fault_once : {missing : ℕ} (ws : List ℕ) {n k m j : ℕ} → FirstFault Begins WholeForm missing ws n k
      → FirstFault Begins WholeForm missing ws m j → k ≡ j
  first_fault_once ws {k = k} {j = j} h g = let a = not_before ws h g in let b = not_before ws g h in omega arith

-- ---- readings

outcome_refused : {A : Type 0} (total : ℕ) (r : Reading A) {n k : ℕ} → outcome total r ≡ refused n k
    → (us : List ℕ) × (r ≡ fault n us) × (k ≡ total - length us)
outcome_refused total (read a rest) e = absurd (refused_accepted (sym e))
outcome_refused total (fault n us) e = (us, ap (λ (m : ℕ). fault m us) cc, cc)

forgotten_fault : {A : Type 0} (r : Reading A) {n : ℕ} {us : List ℕ} → forgotten r ≡ fault n us → r ≡ fault n us
forgotten_fault (read a rest) e = absurd (fault_read (sym e))
forgotten_fault (fault m vs) {n} {us} e = cc

-- ---- a format whose heads go by a table

module _ {H A : Type 0} (F : Format H A) where
  pub record Tabled : Type 0 where
    pub table : HeadTable
    pub heads : HeadWalk F.head_from F.due table F.by

  -- just its written forms are read; they have room in their end words, and 1 is a coefficient
  pub record Roomy : Type 0 where
    pub laws : FormatLaws F
    pub expressible : (h : H) → F.Valid h → Expressible (F.due h)
    pub two : (h : H) → F.Valid h → 2 ≤ (F.due h).modulus

module _ {H A : Type 0} (F : Format H A) (tabled : Tabled F) where
  abbrev by : ℕ
  by = F.by

  abbrev T : HeadTable
  T = tabled.table

  value_walk : (ws : List ℕ) → forgotten (value_from F ws) ≡ walk T by (length ws) head ws
  value_walk ws =
      forgotten_map (framed_from by F.head_from F.due ws) F.together
      ∙ framed_walk F.head_from F.due T by tabled.heads ws

  -- ---- a refusal is by the table

  stopped_row : (ws : List ℕ) (n k : ℕ) (us : List ℕ) → Stopped T by 0 head ws n us → k ≡ length ws - length us
      → ByTable T by ws n k
  stopped_row ws n k us stop e =
      let parted = parted_at ws stop.front us k stop.words e in
      let et = parted.front_is in record {
        within = parted.within;
        before = rw et stop.passed;
        row = rw (et, parted.rest_is, parted.place) stop.row;
      }

  pub refused_row : (ws : List ℕ) {n k : ℕ} → read_value F ws ≡ refused n k → ByTable T by ws n k
  refused_row ws {n} {k} e =
      let t = outcome_refused (length ws) (value_from F ws) e in
      let walked = sym (value_walk ws) ∙ ap forgotten t.1 in
      stopped_row ws n k t.0 (pass.walk_fault T by (length ws) 0 head ws n t.0 (omega arith) walked) t.2

  pub row_refused : (ws : List ℕ) {n k : ℕ} → ByTable T by ws n k → read_value F ws ≡ refused n k
  row_refused ws {n} {k} h =
      let few = h.within in
      let total = length ws in
      let front = take k ws in
      let us = drop k ws in
      let ew = take-append-drop k ws in
      let nf = length-take-le k ws few in
      let nd = length-drop k ws in
      let goes = pass.passed_walk T by total 0 head front us (omega (arith, ap length ew)) h.before in
      let stops = pass.stopped_walk T by total k (due_after T head front) us n (omega arith) h.row in
      let e : value_from F ws ≡ fault n us =
      forgotten_fault (value_from F ws) (value_walk ws ∙ ap (walk T by total head) (sym ew) ∙ goes ∙ stops) in
      let ek : total - length us ≡ k = omega arith in
      ap (outcome total) e ∙ ap (refused n) ek

  -- the reader refuses just by the table: with that number, at that place, under that condition only
  pub refused_iff : (ws : List ℕ) (n k : ℕ) → (read_value F ws ≡ refused n k) ↔ ByTable T by ws n k
  refused_iff ws n k = (refused_row ws, row_refused ws)

  -- ---- words begin a written form just where none of them breaks a row

  module _ (roomy : Roomy F) where
    -- a whole written form: no word breaks a row, and nothing is due behind it
    whole_passed : (ws : List ℕ) → WholeForm F ws → Passed T by 0 head ws × (due_after T head ws ≡ nothing)
    whole_passed ws t =
        let Written-Read = value_written F roomy.laws roomy.expressible t.0 t.1 in
        let walked = sym (value_walk ws) ∙ ap forgotten (ap (value_from F) t.2 ∙ Written-Read) in
        let r = pass.walk_read T by (length ws) 0 head ws [] (omega arith) walked in
        (r.0, missing_none by (due_after T head ws) r.1)

    pub begins_passed : (us : List ℕ) → Begins F us → Passed T by 0 head us
    begins_passed us t =
        (pass.passed_append T by 0 head us t.2 (whole_passed (us ++ t.2) (t.0, t.1, t.3)).0).0

    -- "or words follow, the first of them"
    pub words_follow : (ws : List ℕ) → WholeForm F ws → (u : ℕ) (us : List ℕ)
        → read_value F (ws ++ u ∷ us) ≡ refused (9 + by) (length ws)
    unfolding first_at number_at
    words_follow ws t u us =
        let r = whole_passed ws t in
        let et = take_at ws (u ∷ us) (length ws) refl in
        let ed = drop_at ws (u ∷ us) (length ws) refl in
        row_refused (ws ++ u ∷ us)
        (record {
          within = omega (arith, length-append ws (u ∷ us));
          before = rw et r.0;
          row = rw (et, ed, r.1);
        })

    -- a head that breaks no row leaves room behind it
    head_room : (w : ℕ) → T.number w ≡ none → Room 1 (after T head w)
    unfolding after
    head_room w h =
        let g = tabled.heads.value w in
        let e : F.head_from (w ∷ []) ≡ read g [] =
        tabled.heads.word w [] ∙ ap (λ (o : Option ℕ). turned o (w ∷ []) (read g [])) h in
        let valid = (roomy.laws.head.read (w ∷ []) g [] e).1 in
        let x = (roomy.expressible g valid).words in
        let room = complete.room_polynomials 1 (F.due g).modulus (F.due g).limit (F.due g).count (roomy.two g valid)
        (omega arith) in
        subst (λ (d : Due). Room 1 (polynomials_due d.modulus d.limit d.count)) (tabled.heads.says w) room

    module _ (some_head : H) (some_valid : F.Valid some_head) where
      head_none : T.number (F.head_word some_head) ≡ none
      head_none =
          let w = F.head_word some_head in
          (turned_read (T.number w) (w ∷ []) (read (tabled.heads.value w) [])
          (sym (tabled.heads.word w []) ∙ roomy.laws.head.written some_head some_valid [])).0

      completed : (us : List ℕ) → Passed T by 0 head us → Completed T by (0 + length us) (due_after T head us)
      unfolding Passed due_after number_at
      completed [] h =
          let w = F.head_word some_head in
          complete.completed_word T by 0 head w head_none (complete.complete_after T by 1 (after T head w) []
          (head_room w head_none) tt)
      completed (w ∷ us) h =
          let k : 0 + suc (length us) ≡ 1 + length us = omega arith in
          rw k (complete.complete_after T by 1 (after T head w) us (head_room w h.0) h.1)

      passed_whole : (ws : List ℕ) → Passed T by 0 head ws → missing_at by (due_after T head ws) ≡ none → WholeForm F ws
      passed_whole ws passed ended =
          let e = value_walk ws ∙ pass.ended_walk T by (length ws) 0 head ws (omega arith) passed ended in
          let t = and_then_read (value_from F ws) e in
          let r = value_read F roomy.laws ws t.0 t.1 t.2 in
          (t.0, r.within, r.words)

      pub passed_begins : (us : List ℕ) → Passed T by 0 head us → Begins F us
      passed_begins us h =
          let c = completed us h in
          let w = passed_whole (us ++ c.more) (pass.append_passed T by 0 head us c.more h c.passed)
          (ap (missing_at by) (pass.due_after_append T head us c.more) ∙ c.ended) in
          (w.0, w.1, c.more, w.2)

      pub begins_iff : (us : List ℕ) → Begins F us ↔ Passed T by 0 head us
      begins_iff us = (begins_passed us, passed_begins us)

      -- ---- the first fault

      stops : (ws : List ℕ) (n k : ℕ) → ByTable T by ws n k → k < length ws → ¬ Begins F (take (suc k) ws)
      unfolding Passed
      stops ws n k h more b =
          let u = get_or ws k 0 in
          let front = take k ws in
          let e = due_after T head front in
          let passed = begins_passed (take (suc k) ws) b in
          let last = (pass.passed_append T by 0 head front (u ∷ []) (rw (take-suc ws k 0 more) at passed)).1.0 in
          let ek : 0 + length front ≡ k = omega (arith, length-take-le k ws h.within) in
          none_some (sym (subst (λ (m : ℕ). number_at T by e (suc m) u ≡ none) ek last) ∙ row_at_word T by ws h more)

      at_place : (ws : List ℕ) (n k : ℕ) → ByTable T by ws n k → ¬ WholeForm F ws → Dec (k < length ws)
          → ((n ≡ 4 + by) × (k ≡ length ws) × ¬ WholeForm F ws) ⊎ ((k < length ws) × ¬ Begins F (take (suc k) ws))
      at_place ws n k h whole (yes more) = inr (more, stops ws n k h more)
      at_place ws n k h whole (no less) =
          let few = h.within in
          let all : k ≡ length ws = omega arith in
          inl (row_at_end T by ws h all, all, whole)

      pub first_fault : (ws : List ℕ) {n k : ℕ} → read_value F ws ≡ refused n k
          → FirstFault (Begins F) (WholeForm F) (4 + by) ws n k
      first_fault ws {n} {k} e =
          let h = refused_row ws e in
          let whole : ¬ WholeForm F ws = λ t.
          refused_accepted (sym e ∙ ap (read_value F) t.2 ∙ read_of_written F roomy.laws roomy.expressible t.0 t.1) in
          record { before = passed_begins (take k ws) h.before; at = at_place ws n k h whole (dec_lt k (length ws)) }

      -- ---- a missing word: the words begin a written form, and are none

      missing_refused : (ws : List ℕ) → Passed T by 0 head ws → ¬ WholeForm F ws → (o : Option ℕ)
          → missing_at by (due_after T head ws) ≡ o → read_value F ws ≡ refused (4 + by) (length ws)
      unfolding first_at
      missing_refused ws passed part none e = absurd (part (passed_whole ws passed e))
      missing_refused ws passed part (some n) e =
          let four = missing_four by (due_after T head ws) e in
          rw (← four)
          (row_refused ws
          (record {
            within = omega arith;
            before = rw (take-length ws) passed;
            row = rw (take-length ws, drop-length ws) e;
          }))

      pub missing_iff : (ws : List ℕ) → (read_value F ws ≡ refused (4 + by) (length ws)) ↔ (Begins F ws × ¬ WholeForm F ws)
      missing_iff ws = (λ e. of_fault (first_fault ws e), λ t. missing_refused ws (begins_passed ws t.0) t.1 _ refl)
        where
          of_fault : FirstFault (Begins F) (WholeForm F) (4 + by) ws (4 + by) (length ws) → Begins F ws × ¬ WholeForm F ws
          of_fault f = (rw (take-length ws) at f.before, ⊎_elim (λ t. t.2) (λ t. absurd (let l = t.0 in omega arith)) f.at)
