-- Text appended in parts is text appended at once.
use Rattle.std.specs.Prelude.{ℕ, suc, ◌+◌, ◌≤◌, ◌≡◌, refl, List, [], ◌∷◌, ◌++◌, length, set, drop}
use Rattle.std.proofs.Common.{sym, ap, ◌∙◌, arith, add-zero, zero-add, add-suc, suc-add, length-append}
use Rattle.std.proofs.lemmas.List.Edits.{sets, sets-eq}
use Rattle.std.proofs.Math.Seq.{length-sets}
use Rattle.report_text.specs.Written.{Appended, Written}

pub appended_nothing : (before : List ℕ) (at : ℕ) → Appended [] before at before at
appended_nothing before at = record { bytes = refl; place = sym (add-zero at) }

sets_append : (l : List ℕ) (at : ℕ) (s t : List ℕ) → sets (sets l at s) (at + length s) t ≡ sets l at (s ++ t)
sets_append l at [] t = ap (λ k. sets l k t) (add-zero at)
sets_append l at (a ∷ s) t =
    ap (λ k. sets (sets (set l at a) (suc at) s) k t) (add-suc at (length s) ∙ sym (suc-add at (length s)))
    ∙ sets_append (set l at a) (suc at) s t

pub appended_then : {s t before : List ℕ} {at : ℕ} {middle : List ℕ} {m : ℕ} {after : List ℕ} {n : ℕ}
    → Appended s before at middle m → Appended t middle m after n → Appended (s ++ t) before at after n
appended_then {s} {t} {before} {at} {middle} {m} f g = record {
  bytes = g.bytes ∙ ap (λ l. sets l m t) f.bytes ∙ ap (λ k. sets (sets before at s) k t) f.place ∙ sets_append before at s t;
  place = rw length-append (omega (arith, f.place, g.place));
}

-- one byte more
pub appended_byte : {s before : List ℕ} {at : ℕ} {middle : List ℕ} {m : ℕ}
    → Appended s before at middle m → (c : ℕ) {n : ℕ} → n ≡ m + 1 → Appended (s ++ (c ∷ [])) before at (set middle m c) n
appended_byte f c e = appended_then f (record { bytes = refl; place = e })

-- there are as many bytes as before
pub appended_length : {s before : List ℕ} {at : ℕ} {after : List ℕ} {n : ℕ} → Appended s before at after n
    → length after ≡ length before
appended_length {s} {before} {at} f = ap length f.bytes ∙ length-sets before at s

-- what is appended from the first place on is the whole
pub appended_whole : {s before after : List ℕ} {n : ℕ} → length s ≤ length before → Appended s before 0 after n
    → Written s before after n
appended_whole {s} {before} h f = record {
  bytes = f.bytes ∙ sets-eq s before 0 (rw zero-add h) ∙ ap (λ k. s ++ drop k before) (zero-add (length s));
  count = f.place ∙ zero-add (length s);
}

-- what is written is among the lent bytes
pub written_most : {text before after : List ℕ} {n : ℕ} → Written text before after n → n ≤ length after
written_most {text} {before} written =
    omega (arith, written.count, ap length written.bytes, length-append text (drop (length text) before))
