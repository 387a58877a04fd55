-- "The first word at fault decides" (document 01, "Turned back"), said without a reader: by the words that begin a written form.
use Rattle.std.specs.Prelude.{◌≡◌, ◌⊎◌, List, ◌++◌, ℕ, suc, ◌<◌, length, take}
use Rattle.words.specs.Limits.{Limits}
use Rattle.words.specs.System.{Shape}
use Rattle.words.specs.Systems.{Systems, SystemsWithin, systems_words}
use Rattle.words.specs.Certificate.{Certificate, CertificateWithin, certificate_words}

-- some words follow with which these are the written form of a system within the limits
unfoldable pub SystemsBegin : Limits → List ℕ → Type 0
unfolding systems_words
SystemsBegin limits us = (s : Systems) × SystemsWithin limits s × (vs : List ℕ) × (us ++ vs ≡ systems_words s)

-- none has to follow
unfoldable pub SystemsWhole : Limits → List ℕ → Type 0
unfolding systems_words
SystemsWhole limits ws = (s : Systems) × SystemsWithin limits s × (ws ≡ systems_words s)

-- the same of a certificate for a system of that shape
unfoldable pub CertificateBegins : Limits → Shape → List ℕ → Type 0
unfolding certificate_words
CertificateBegins limits h us = (c : Certificate) × CertificateWithin limits h c × (vs : List ℕ) × (us ++ vs ≡ certificate_words c)

unfoldable pub CertificateWhole : Limits → Shape → List ℕ → Type 0
unfolding certificate_words
CertificateWhole limits h ws = (c : Certificate) × CertificateWithin limits h c × (ws ≡ certificate_words c)

-- a refusal by its number and its place; `missing` is the number for a missing word
pub record FirstFault (Begins Whole : List ℕ → Type 0) (missing : ℕ) (ws : List ℕ) (number place : ℕ) : Type 0 where
  -- the words before the place begin a written form
  pub before : Begins (take place ws)
  -- and they are all words there are, and no whole written form; or with the word at the place they begin none
  pub at : ((number ≡ missing) × (place ≡ length ws) × ¬ Whole ws) ⊎ ((place < length ws) × ¬ Begins (take (suc place) ws))
