-- "Between two accepted sheets that agree in p, A and one line's right side, that line's card has the same words, and they are
-- those of its single sheet." (document 02, item 1)
use Rattle.std.specs.Prelude.{ℕ, ◌*◌, ◌≤◌, ◌<◌, ◌≡◌, refl, List, length}
use Rattle.std.proofs.Math.Path.{sym, ap}
use Rattle.std.proofs.Common.{◌∙◌, arith, lt-ltb}
use Rattle.words.specs.Limits.{Limits, longest_certificate}
use Rattle.words.specs.LimitsLaws.{LimitsFit}
use Rattle.words.specs.Outcome.{Outcome, followed_by}
use Rattle.words.specs.Outcome.Outcome.{accepted}
use Rattle.words.specs.System.{System, Shape, SystemWithin}
use Rattle.words.specs.Systems.{Systems, SystemsWithin, systems_words, line, single, line_of, read_systems, read_line}
use Rattle.words.proofs.SystemsLaws.{systems_read_of_written, systems_written_of_read}
use Rattle.words.proofs.LineLaws.{line_within, line_single, single_within}
use Rattle.words.specs.Bytes.{bytes_of, read_systems_file, read_line_file, word_bytes}
use Rattle.words.proofs.BytesLaws.{file_within, file_read_of_written}
use Rattle.words.proofs.LineFileLaws.{line_file, line_file_within}
use Rattle.words.specs.Certificate.{certificate_words}
use Rattle.solver.specs.Solving.{certificate_bytes, Solves, SolvesFile}
use Rattle.solver.proofs.OneCertificate.{Call, SameWords, SameGiven, solved_same, file_solved_same, one_given, words_within}

-- two sheets agree in p, A and one line's right side, which is number k of one and number k₁ of the other. That they agree in A is
-- that they have as many rows, as many columns and the same polynomials.
pub record SameLine (s : Systems) (k : ℕ) (s₁ : Systems) (k₁ : ℕ) : Type 0 where
  pub has : k < s.head.sides
  pub has₁ : k₁ < s₁.head.sides
  pub shape : s.head.shape ≡ s₁.head.shape
  pub matrix : s.matrix ≡ s₁.matrix
  pub side : (line s k).side ≡ (line s₁ k₁).side

-- so they have one system there
abbrev together : (h : Shape) (A b : List (List ℕ)) → System
together h A b = record { modulus = h.modulus; rows = h.rows; columns = h.columns; matrix = A; side = b }

same_system : {s s₁ : Systems} {k k₁ : ℕ} → SameLine s k s₁ k₁ → line s k ≡ line s₁ k₁
unfolding line
same_system {s} {s₁} {k} {k₁} L =
    ap (λ h. together h s.matrix (line s k).side) L.shape
    ∙ ap (λ A. together s₁.head.shape A (line s k).side) L.matrix
    ∙ ap (together s₁.head.shape s₁.matrix) L.side

-- a line of what was read
line_read : {o : Outcome Systems} {s : Systems} → o ≡ accepted s → (k : ℕ) → k < s.head.sides
    → followed_by o (line_of k) ≡ accepted (line s k)
line_read {o} {s} e k has = ap (λ o. followed_by o (line_of k)) e ∙ simp (lt-ltb k s.head.sides has)

module _ (limits : Limits) (fit : LimitsFit limits) where
  -- ---- two accepted sheets

  module _ {s s₁ : Systems} {k k₁ : ℕ} (L : SameLine s k s₁ k₁) (x y : Call) where
    -- on words
    module _ (ws ws₁ : List ℕ) (e : read_systems limits ws ≡ accepted s) (e₁ : read_systems limits ws₁ ≡ accepted s₁)
        (h : Solves limits k ws x.entry x.exit x.answer) (h₁ : Solves limits k₁ ws₁ y.entry y.exit y.answer) where
      first_read : read_line limits k ws ≡ accepted (line s k)
      unfolding read_line
      first_read = line_read e k L.has

      both_read : read_line limits k ws ≡ read_line limits k₁ ws₁
      unfolding read_line
      both_read = first_read ∙ ap accepted (same_system L) ∙ sym (line_read e₁ k₁ L.has₁)

      -- where both calls gave words, they are the same, and as many
      pub same_line_solved : SameWords x y
      same_line_solved = solved_same limits fit k k₁ ws ws₁ both_read x y h h₁

      -- and both did where both were lent enough
      pub same_line_given : longest_certificate limits ≤ length x.entry → longest_certificate limits ≤ length y.entry
          → SameGiven x y
      same_line_given room room₁ =
          one_given limits both_read (words_within limits fit k ws) certificate_words (longest_certificate limits) x y room room₁ h h₁
          first_read

    -- on files
    module _ (file file₁ : List ℕ) (e : read_systems_file limits file ≡ accepted s) (e₁ : read_systems_file limits file₁ ≡ accepted s₁)
        (h : SolvesFile limits k file x.entry x.exit x.answer)
        (h₁ : SolvesFile limits k₁ file₁ y.entry y.exit y.answer) where
      first_file_read : read_line_file limits k file ≡ accepted (line s k)
      first_file_read = line_file limits k file ∙ line_read e k L.has

      both_files_read : read_line_file limits k file ≡ read_line_file limits k₁ file₁
      both_files_read =
          first_file_read ∙ ap accepted (same_system L) ∙ sym (line_file limits k₁ file₁ ∙ line_read e₁ k₁ L.has₁)

      pub file_same_line_solved : SameWords x y
      file_same_line_solved = file_solved_same limits fit k k₁ file file₁ both_files_read x y h h₁

      pub file_same_line_given : word_bytes * longest_certificate limits ≤ length x.entry
          → word_bytes * longest_certificate limits ≤ length y.entry → SameGiven x y
      file_same_line_given room room₁ =
          one_given limits both_files_read (λ s e. line_file_within limits k fit s file e) certificate_bytes
          (word_bytes * longest_certificate limits) x y room room₁ h h₁ first_file_read

  -- ---- an accepted sheet, and the single sheet of one of its lines

  module _ {s : Systems} (within : SystemsWithin limits s) (k : ℕ) (has : k < s.head.sides) where
    in_line : SystemWithin limits (line s k)
    in_line = line_within limits s within k has

    alone_within : SystemsWithin limits (single (line s k))
    alone_within = single_within limits (line s k) in_line (omega (arith, within.head.sides.1))

    same_alone : SameLine s k (single (line s k)) 0
    unfolding single line
    same_alone = record {
      has = has;
      has₁ = omega arith;
      shape = refl;
      matrix = refl;
      side = ap (λ (t : System). t.side) (sym (line_single limits (line s k) in_line));
    }

  module _ {s : Systems} (k : ℕ) (has : k < s.head.sides) (x y : Call) where
    -- on words
    module _ (ws : List ℕ) (e : read_systems limits ws ≡ accepted s) (h : Solves limits k ws x.entry x.exit x.answer)
        (h₁ : Solves limits 0 (systems_words (single (line s k))) y.entry y.exit y.answer) where
      words_in : SystemsWithin limits s
      words_in = (systems_written_of_read limits fit ws s e).1

      alone_read : read_systems limits (systems_words (single (line s k))) ≡ accepted (single (line s k))
      alone_read = systems_read_of_written limits fit (single (line s k)) (alone_within words_in k has)

      pub alone_solved : SameWords x y
      alone_solved = same_line_solved (same_alone words_in k has) x y ws _ e alone_read h h₁

      pub alone_given : longest_certificate limits ≤ length x.entry → longest_certificate limits ≤ length y.entry
          → SameGiven x y
      alone_given = same_line_given (same_alone words_in k has) x y ws _ e alone_read h h₁

    -- on files
    module _ (file : List ℕ) (e : read_systems_file limits file ≡ accepted s)
        (h : SolvesFile limits k file x.entry x.exit x.answer)
        (h₁ : SolvesFile limits 0 (bytes_of (systems_words (single (line s k)))) y.entry y.exit y.answer) where
      file_in : SystemsWithin limits s
      file_in = file_within limits fit s file e

      alone_file_read : read_systems_file limits (bytes_of (systems_words (single (line s k)))) ≡ accepted (single (line s k))
      alone_file_read = file_read_of_written limits fit (single (line s k)) (alone_within file_in k has)

      pub file_alone_solved : SameWords x y
      file_alone_solved = file_same_line_solved (same_alone file_in k has) x y file _ e alone_file_read h h₁

      pub file_alone_given : word_bytes * longest_certificate limits ≤ length x.entry
          → word_bytes * longest_certificate limits ≤ length y.entry → SameGiven x y
      file_alone_given = file_same_line_given (same_alone file_in k has) x y file _ e alone_file_read h h₁
