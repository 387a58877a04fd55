-- A word is made of its kind and its payload, and in no other way.
use Rattle.std.specs.Prelude.{◌≡◌, false, not, ℕ, ◌<◌, eqb}
use Rattle.std.proofs.Common.{arith, eqb-true}
use Rattle.std.proofs.lemmas.Bool.{not-false}
use Rattle.words.specs.Word.{kind, payload, word, payload_bound}

pub kind_word : (k x : ℕ) → x < payload_bound → kind (word k x) ≡ k
kind_word k x h = omega arith

pub payload_word : (k x : ℕ) → x < payload_bound → payload (word k x) ≡ x
payload_word k x h = omega arith

-- a word that passed the test for its kind
pub word_of : (k w : ℕ) → not (eqb (kind w) k) ≡ false → w ≡ word k (payload w)
word_of k w e = let h = eqb-true (kind w) k (not-false _ e) in omega arith
