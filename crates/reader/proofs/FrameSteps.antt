-- A whole system or certificate, from what is told of its head and of the words behind it.
use mathlib.Core.Path.{◌≡◌, refl, sym, ap, ap₂, ◌∙◌}
use mathlib.Core.List.{List}
use Prim.Native.Nat.{ℕ, ◌+◌, ◌-◌, ◌≤◌}
use native.Mathlib.Omega.{arith}
use lib.ListN.{length, drop}
use Rattle.words.specs.Outcome.{Outcome, mapped}
use Rattle.words.specs.Outcome.Outcome.{accepted, refused}
use Rattle.words.specs.Reading.{Reading, and_then, renumber, outcome, words_used}
use Rattle.words.specs.Reading.Reading.{read, fault}
use Rattle.words.specs.Frame.{Due, Framed, body_from, framed_from}

-- a value that is put together from what was read, and what is handed out of it
pub mapped_outcome : {A B C : Type 0} (total : ℕ) (r : Reading A) (g : A → B) (f : B → C) (k : A → C) → ((a : A) → f (g a) ≡ k a)
    → mapped f (outcome total (and_then r (λ a rest. read (g a) rest))) ≡ mapped k (outcome total r)
mapped_outcome total (read a rest) g f k e = ap accepted (e a)
mapped_outcome total (fault number ws) g f k e = refl

module _ {H : Type 0} (by : ℕ) (head_from : List ℕ → Reading H) (due : H → Due) (ws : List ℕ) where
  -- what the head says, of the whole
  abbrev pub OfFrame : Outcome H
  OfFrame = mapped (λ (v : Framed H). v.head) (outcome (length ws) (framed_from by head_from due ws))

  abbrev pub OfBody : H → Outcome ℕ
  OfBody h = words_used (length ws) (body_from (due h) (length ws) (drop 1 ws))

  pub frame_head_refused : (number place : ℕ) → refused number place ≡ outcome (length ws) (head_from ws)
      → OfFrame ≡ refused number place
  unfolding framed_from
  frame_head_refused number place t = go (head_from ws) t
    where
      go : (r : Reading H) → refused number place ≡ outcome (length ws) r
          → mapped (λ (v : Framed H). v.head) (outcome (length ws)
          (and_then r (λ h rest. and_then (renumber by (body_from (due h) (length ws) rest))
          (λ fs rest'. read (record { head = h; entries = fs }) rest'))))
          ≡ refused number place
      go (read h rest) e = absurd (let z : ◌≡◌ {A = ℕ} 0 1 = cc in omega arith)
      go (fault n rest) e = sym e

  -- the head is one word
  module _ (one_word : (h : H) (rest : List ℕ) → head_from ws ≡ read h rest → (1 ≤ length ws) × (rest ≡ drop 1 ws)) (h : H)
      (told : accepted h ≡ outcome (length ws) (head_from ws)) where
    head_by : (r : Reading H) → head_from ws ≡ r → accepted h ≡ outcome (length ws) r
        → (1 ≤ length ws) × (head_from ws ≡ read h (drop 1 ws))
    head_by (read g rest) e t =
        let o = one_word g rest e in
        let eg : g ≡ h = cc in
        (o.0, e ∙ ap₂ (λ (x : H) (v : List ℕ). read x v) eg o.1)
    head_by (fault number rest) e t = absurd (let z : ◌≡◌ {A = ℕ} 0 1 = cc in omega arith)

    head : (1 ≤ length ws) × (head_from ws ≡ read h (drop 1 ws))
    head = head_by (head_from ws) refl told

    pub frame_some : 1 ≤ length ws
    frame_some = head.0

    after : Reading (List (List ℕ)) → Outcome H
    after r =
        mapped (λ (v : Framed H). v.head) (outcome (length ws)
        (and_then (renumber by r) (λ fs rest. read (record { head = h; entries = fs }) rest)))

    after_head : OfFrame ≡ after (body_from (due h) (length ws) (drop 1 ws))
    unfolding framed_from after
    after_head = rw head.1 refl

    pub frame_body_refused : (number place : ℕ) → refused number place ≡ OfBody h → OfFrame ≡ refused (number + by) place
    unfolding after
    frame_body_refused number place t = after_head ∙ go (body_from (due h) (length ws) (drop 1 ws)) t
      where
        go : (r : Reading (List (List ℕ))) → refused number place ≡ words_used (length ws) r
            → after r ≡ refused (number + by) place
        go (read fs rest) e = absurd (let z : ◌≡◌ {A = ℕ} 0 1 = cc in omega arith)
        go (fault n rest) e =
            let en : n ≡ number = cc in
            let ep : length ws - length rest ≡ place = cc in
            ap₂ refused (ap (λ (i : ℕ). i + by) en) ep

    pub frame_read : (used : ℕ) → accepted used ≡ OfBody h → OfFrame ≡ accepted h
    unfolding after
    frame_read used t = after_head ∙ go (body_from (due h) (length ws) (drop 1 ws)) t
      where
        go : (r : Reading (List (List ℕ))) → accepted used ≡ words_used (length ws) r → after r ≡ accepted h
        go (read fs rest) e = refl
        go (fault n rest) e = absurd (let z : ◌≡◌ {A = ℕ} 0 1 = cc in omega arith)
