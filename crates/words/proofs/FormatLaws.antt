-- Values in framed words: read-of-written, written-of-read and what follows from them, stated once for both formats.
use Rattle.std.specs.Prelude.{◌≡◌, ◌↔◌, List, [], ℕ, ◌≤◌, length}
use Rattle.std.proofs.Common.{sym, ap, ◌∙◌, subst}
use Rattle.words.specs.Limits.{words_for}
use Rattle.words.specs.Outcome.{Outcome}
use Rattle.words.specs.Outcome.Outcome.{accepted}
use Rattle.words.specs.Reading.{Reading, and_then, outcome}
use Rattle.words.specs.Reading.Reading.{read}
use Rattle.words.specs.Frame.{Due, Framed, framed_words, framed_from}
use Rattle.words.specs.ReadingLaws.{and_then_read, outcome_accepted}
use Rattle.words.proofs.FrameLaws.{HeadLaws, Expressible, Entries, framed_words_most, framed_written, framed_read}

-- a format: its head, the numbers of its refusals, what is due, and how a value is taken apart and put together
pub record Format (H A : Type 0) : Type 1 where
  pub by : ℕ
  pub head_from : List ℕ → Reading H
  pub head_word : H → ℕ
  pub Valid : H → Type 0
  pub due : H → Due
  pub apart : A → Framed H
  pub together : Framed H → A
  pub Within : A → Type 0

module _ {H A : Type 0} (F : Format H A) where
  abbrev pub written : A → List ℕ
  written v = framed_words (F.head_word (F.apart v).head) (F.apart v).entries

  abbrev pub value_from : List ℕ → Reading A
  value_from ws = and_then (framed_from F.by F.head_from F.due ws) (λ f rest. read (F.together f) rest)

  abbrev pub read_value : List ℕ → Outcome A
  read_value ws = outcome (length ws) (value_from ws)

  -- the parts of a value within the limits
  pub record Parts (f : Framed H) : Type 0 where
    pub valid : F.Valid f.head
    pub entries : Entries (F.due f.head) f.entries

  pub record FormatLaws : Type 0 where
    pub head : HeadLaws F.head_from F.head_word F.Valid
    pub apart : (v : A) → F.Within v → Parts (F.apart v)
    pub together : (f : Framed H) → Parts f → F.Within (F.together f)
    pub together_apart : (v : A) → F.Within v → F.together (F.apart v) ≡ v
    pub apart_together : (f : Framed H) → Parts f → F.apart (F.together f) ≡ f

  module _ (laws : FormatLaws) where
    -- ---- what is read was written so

    pub record ValueRead (ws : List ℕ) (v : A) (rest : List ℕ) : Type 0 where
      pub words : ws ≡ written v
      pub within : F.Within v
      pub end : rest ≡ []

    pub value_read : (ws : List ℕ) (v : A) (rest : List ℕ) → value_from ws ≡ read v rest → ValueRead ws v rest
    value_read ws v rest e =
        let t = and_then_read (framed_from F.by F.head_from F.due ws) e in
        let f = framed_read F.head_from F.head_word F.Valid laws.head F.by F.due ws t.0 t.1 t.2 in
        let parts : Parts t.0 = record { valid = f.valid; entries = f.within } in
        let ev : F.together t.0 ≡ v = cc in
        let er : t.1 ≡ rest = cc in
        subst (λ (x : A). ValueRead ws x rest) ev
        (record {
          words = f.words ∙ ap (λ (g : Framed H). framed_words (F.head_word g.head) g.entries)
              (sym (laws.apart_together t.0 parts));
          within = laws.together t.0 parts;
          end = sym er ∙ f.end;
        })

    pub written_of_read : (ws : List ℕ) (v : A) → read_value ws ≡ accepted v → (ws ≡ written v) × F.Within v
    written_of_read ws v e =
        let t = outcome_accepted (length ws) (value_from ws) v e in
        let r = value_read ws v t.0 t.1 in
        (r.words, r.within)

    -- ---- reading what was written

    module _ (expressible : (h : H) → F.Valid h → Expressible (F.due h)) where
      pub value_written : (v : A) → F.Within v → value_from (written v) ≡ read v []
      value_written v within =
          let f = F.apart v in
          let parts = laws.apart v within in
          let e = framed_written F.head_from F.head_word F.Valid laws.head F.by F.due f.head parts.valid
          (expressible f.head parts.valid) f.entries parts.entries in
          rw e (ap (λ (x : A). read x []) (laws.together_apart v within))

      pub read_of_written : (v : A) → F.Within v → read_value (written v) ≡ accepted v
      read_of_written v within = ap (outcome (length (written v))) (value_written v within)

      -- the reader accepts just the written forms of values within the limits
      pub accepted_iff : (ws : List ℕ) (v : A) → (read_value ws ≡ accepted v) ↔ ((ws ≡ written v) × F.Within v)
      accepted_iff ws v = (written_of_read ws v, λ h. ap read_value h.0 ∙ read_of_written v h.1)

      -- a value has one written form, and a written form one value
      pub written_injective : (v u : A) → F.Within v → F.Within u → written v ≡ written u → v ≡ u
      written_injective v u hv hu e =
          let a = read_of_written v hv in
          let b = read_of_written u hu in
          let c = ap read_value e in
          cc

    -- ---- lengths

    pub written_most : (v : A) → F.Within v
        → length (written v) ≤ words_for (F.due (F.apart v).head).count (F.due (F.apart v).head).limit
    written_most v within =
        let f = F.apart v in
        framed_words_most (F.head_word f.head) (F.due f.head) f.entries (laws.apart v within).entries
