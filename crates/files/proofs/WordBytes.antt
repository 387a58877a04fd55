-- Words written as bytes, four to a word: the bytes before the loop's place are written, those from it on are as they were lent.
use mathlib.Core.Path.{◌≡◌, refl, ap, sym, ◌∙◌}
use mathlib.Core.List.{List, [], ◌∷◌}
use Prim.Native.Nat.{ℕ, zero, suc, ◌+◌, ◌*◌, ◌/◌, ◌%◌, ◌≤◌, ◌<◌}
use native.Mathlib.Omega.{arith}
use Rattle.std.proofs.lemmas.List.Edits.{paste_none, paste_more}
use lib.ListN.{length, get_or, set}
use lib.Seq.{paste}
use Rattle.modular.specs.Bits.{bound8}
use Rattle.words.specs.Bytes.{bytes_of, fourth_byte_unit, second_byte_unit, third_byte_unit, word_bytes}
use Rattle.words.proofs.BytesLaws.{length_bytes_of}
use Rattle.files.proofs.Filling.{filled, filled_next}

-- the four bytes of word i
pub record FourBytes (bytes : List ℕ) (at word : ℕ) : Type 0 where
  pub first : word % bound8 ≡ get_or bytes at 0
  pub second : word / second_byte_unit % bound8 ≡ get_or bytes (at + 1) 0
  pub third : word / third_byte_unit % bound8 ≡ get_or bytes (at + 2) 0
  pub fourth : word / fourth_byte_unit ≡ get_or bytes (at + 3) 0

pub bytes_at : (ws : List ℕ) (i : ℕ) → i < length ws → FourBytes (bytes_of ws) (word_bytes * i) (get_or ws i 0)
unfolding bytes_of
bytes_at [] i h = absurd (omega arith)
bytes_at (w ∷ ws) zero h = record { first = refl; second = refl; third = refl; fourth = refl }
bytes_at (w ∷ ws) (suc i) h =
    let step : (k : ℕ) → word_bytes * suc i + k ≡ suc (suc (suc (suc (word_bytes * i + k)))) = λ k. omega arith in
    let start : word_bytes * suc i ≡ suc (suc (suc (suc (word_bytes * i)))) = omega arith in
    let ih = bytes_at ws i (omega arith) in
    record {
      first = rw start ih.first;
      second = rw (step 1) ih.second;
      third = rw (step 2) ih.third;
      fourth = rw (step 3) ih.fourth;
    }

-- bytes that are written, those of the next word too
pub bytes_next : (ws lent now : List ℕ) (i : ℕ) → now ≡ filled (bytes_of ws) lent (word_bytes * i) → i < length ws
    → word_bytes * (i + 1) ≤ length lent
    → set (set (set (set now (word_bytes * i) (get_or ws i 0 % bound8)) (word_bytes * i + 1) (get_or ws i 0 / second_byte_unit % bound8))
    (word_bytes * i + 2) (get_or ws i 0 / third_byte_unit % bound8)) (word_bytes * i + 3) (get_or ws i 0 / fourth_byte_unit)
    ≡ filled (bytes_of ws) lent (word_bytes * (i + 1))
bytes_next ws lent now i is more room =
    let n = length_bytes_of ws in
    let four = bytes_at ws i more in
    let s = bytes_of ws in
    let at = word_bytes * i in
    let one = filled_next s lent at now _ is (omega arith) (omega arith) four.first (at + 1) (omega arith) in
    let two = filled_next s lent (at + 1) _ _ one (omega arith) (omega arith) four.second (at + 2) (omega arith) in
    let three = filled_next s lent (at + 2) _ _ two (omega arith) (omega arith) four.third (at + 3) (omega arith) in
    filled_next s lent (at + 3) _ _ three (omega arith) (omega arith) four.fourth (word_bytes * (i + 1)) (omega arith)

-- four bytes that are copied over a part are written one after another; the fourth may be given otherwise
pub four_set : (d : List ℕ) (at a b c e e' : ℕ) → at + word_bytes ≤ length d → e ≡ e'
    → paste d at (a ∷ b ∷ c ∷ e ∷ []) 4 ≡ set (set (set (set d at a) (at + 1) b) (at + 2) c) (at + 3) e'
four_set d at a b c e e' room same =
    let s : List ℕ = a ∷ b ∷ c ∷ e ∷ [] in
    let first : at + 0 ≡ at = omega arith in
    sym (paste_more d at s 3 0 (omega arith) (omega arith))
    ∙ ap (λ l. set l (at + 3) e) (sym (paste_more d at s 2 0 (omega arith) (omega arith))
    ∙ ap (λ l. set l (at + 2) c) (sym (paste_more d at s 1 0 (omega arith) (omega arith))
    ∙ ap (λ l. set l (at + 1) b) (sym (paste_more d at s 0 0 (omega arith) (omega arith))
    ∙ ap (λ n. set (paste d at s 0) n a) first ∙ ap (λ l. set l at a) (sym (paste_none d at s)))))
    ∙ ap (λ x. set (set (set (set d at a) (at + 1) b) (at + 2) c) (at + 3) x) same
