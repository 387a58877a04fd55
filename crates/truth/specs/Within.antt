-- The verdict where limits are kept beside those of reading (document 02, item 4): "41, a sheet or card that reads in the office
-- but exceeds a panel limit, place 0 for the sheet, tried first, and 1 for the card, after both have been read and before 31". Both
-- limits are parameters: where they are the same this is the verdict (`WithinLaws`, `within-own`).
use Rattle.std.specs.Prelude.{ℕ, ◌≤◌, ◌≡◌, List, length}
use Rattle.words.specs.Limits.{Limits, longest_certificate}
use Rattle.words.specs.Outcome.{Outcome, refuse, followed_by}
use Rattle.words.specs.Outcome.Outcome.{accepted}
use Rattle.words.specs.Systems.{Systems, SystemsWithin, systems_words, line}
use Rattle.words.specs.Certificate.{Certificate, CertificateWithin, certificate_words, read_certificate}
use Rattle.words.specs.Kept.{systems_exceed, certificate_exceeds, read_sided}
use Rattle.truth.specs.Verdict.{certificate_verdict}
use Rattle.truth.specs.TurnedBack.{Fault}

-- of what was read, for right side k
unfoldable pub kept_verdict : Limits → (k : ℕ) → Systems → Certificate → Outcome (Unit {0})
unfolding systems_exceed certificate_exceeds line certificate_verdict
kept_verdict kept k s c =
    refuse (systems_exceed kept s) 41 0  -- 41: the sheet exceeds a limit, tried first
    (refuse (certificate_exceeds kept c) 41 1  -- 41: the card does
    (certificate_verdict (line s k) c))

-- what comes behind the reading of both by `limits`
abbrev pub both_read : {A : Type 0} → Limits → (k : ℕ) → (ws cs : List ℕ) → (Systems → Certificate → Outcome A) → Outcome A
both_read limits k ws cs next =
    followed_by (read_sided limits k ws) (λ s.
    followed_by (read_certificate limits s.head.shape cs) (λ c.
    next s c))

-- 41 alone
abbrev pub limits_verdict : Limits → Systems → Certificate → Outcome (Unit {0})
limits_verdict kept s c = refuse (systems_exceed kept s) 41 0 (refuse (certificate_exceeds kept c) 41 1 (accepted tt))

-- on the certificate's words cs for right side k of the systems that the words ws hold
unfoldable pub verdict_within : (limits kept : Limits) → (k : ℕ) → (ws cs : List ℕ) → Outcome (Unit {0})
unfolding read_sided read_certificate kept_verdict
verdict_within limits kept k ws cs = both_read limits k ws cs (kept_verdict kept k)

-- ---- the same by written forms

-- "that, with their sheet, keep the panel's limits": the words are written forms within them, and those of the card are no more
-- than they allow
pub record Keeps (kept : Limits) (ws cs : List ℕ) : Type 0 where
  pub systems : Systems
  pub certificate : Certificate
  pub system_words : ws ≡ systems_words systems
  pub certificate_words_lem : cs ≡ certificate_words certificate
  pub system_within : SystemsWithin kept systems
  pub certificate_within : CertificateWithin kept systems.head.shape certificate
  pub short : length cs ≤ longest_certificate kept

-- the conditions of 41, and behind them those of 31 to 36
pub data KeptFault (kept : Limits) (k : ℕ) (s : Systems) (c : Certificate) (number place : ℕ) : Type 0 where
  system_exceeds : number ≡ 41 → place ≡ 0 → ¬ SystemsWithin kept s → KeptFault kept k s c number place
  certificate_exceeds_lem : number ≡ 41 → place ≡ 1 → SystemsWithin kept s → ¬ CertificateWithin kept s.head.shape c
      → KeptFault kept k s c number place
  by_values : SystemsWithin kept s → CertificateWithin kept s.head.shape c → Fault (line s k) c number place
      → KeptFault kept k s c number place
