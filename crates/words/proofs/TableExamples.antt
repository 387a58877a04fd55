-- Every number that the laws of `RefusedLaws` allow is given: 1 to 9 of a system's words, 21 and 24 to 29 of a certificate's, at
-- the places of document 01's examples, or of their like on a card for case 1.
use Rattle.std.specs.Prelude.{◌≡◌, refl, ℕ, List, [], ◌∷◌, map}
use Rattle.std.proofs.Common.{arith}
use Rattle.words.specs.Limits.{office, panel}
use Rattle.words.specs.LimitsLaws.{office_fits, panel_fits}
use Rattle.words.specs.Outcome.Outcome.{refused}
use Rattle.words.specs.System.{Shape}
use Rattle.words.specs.Systems.{read_systems}
use Rattle.words.specs.Certificate.{read_certificate}
use Rattle.words.specs.FirstFault.{SystemsBegin, SystemsWhole, FirstFault}
use Rattle.words.proofs.RefusedLaws.{systems_first_fault}

systems : List (List ℕ)
systems =
    (0x00110002 ∷ [])
    ∷ (0x10110004 ∷ [])
    ∷ (0x10010002 ∷ [])
    ∷ (0x10110002 ∷ [])
    ∷ (0x10110002 ∷ 0x30000001 ∷ [])
    ∷ (0x10110002 ∷ 0x20000011 ∷ [])
    ∷ (0x10110002 ∷ 0x20000001 ∷ 0x30000002 ∷ [])
    ∷ (0x10110002 ∷ 0x20000001 ∷ 0x30000000 ∷ [])
    ∷ (0x10110002 ∷ 0x20000000 ∷ 0x20000000 ∷ 0x40000005 ∷ [])
    ∷ []

systems_refused : map (read_systems office) systems
    ≡ refused 1 0 ∷ refused 2 0 ∷ refused 3 0 ∷ refused 4 1 ∷ refused 5 1 ∷ refused 6 1 ∷ refused 7 2 ∷ refused 8 2 ∷ refused 9 3 ∷
    []
unfolding read_systems systems
systems_refused = refl

certificates : List (List ℕ)
certificates =
    (0x50000003 ∷ [])
    ∷ (0x50000002 ∷ [])
    ∷ (0x50000002 ∷ 0x30000001 ∷ [])
    ∷ (0x50000002 ∷ 0x2000007A ∷ [])
    ∷ (0x50000002 ∷ 0x20000001 ∷ 0x30000002 ∷ [])
    ∷ (0x50000002 ∷ 0x20000001 ∷ 0x30000000 ∷ [])
    ∷ (0x50000002 ∷ 0x20000000 ∷ 0x40000004 ∷ [])
    ∷ []

one : Shape
one = record { modulus = 2; rows = 1; columns = 1 }

certificates_refused : map (read_certificate office one) certificates
    ≡ refused 21 0 ∷ refused 24 1 ∷ refused 25 1 ∷ refused 26 1 ∷ refused 27 2 ∷ refused 28 2 ∷ refused 29 2 ∷ []
unfolding read_certificate certificates one
certificates_refused = refl

-- the limits of the office and of the panel meet what the law of the first fault asks
office_first_fault : (ws : List ℕ) {n k : ℕ} → read_systems office ws ≡ refused n k
    → FirstFault (SystemsBegin office) (SystemsWhole office) 4 ws n k
office_first_fault ws e = systems_first_fault office office_fits (omega arith) (omega arith) (omega arith) ws e

panel_first_fault : (ws : List ℕ) {n k : ℕ} → read_systems panel ws ≡ refused n k
    → FirstFault (SystemsBegin panel) (SystemsWhole panel) 4 ws n k
panel_first_fault ws e = systems_first_fault panel panel_fits (omega arith) (omega arith) (omega arith) ws e
