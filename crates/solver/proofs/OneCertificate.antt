-- Nothing of what the solver gives is free: what it answers and leaves in the lent words is a function of the line that it read and
-- of what stood there. It gives the written form of the system's own certificate. So calls that read the same line, wherever it
-- stands in the words of each, give the same count and the same words, whatever was lent and whatever stood there.
use Rattle.std.specs.Prelude.{ℕ, ◌*◌, ◌≤◌, ◌≡◌, refl, List, take}
use Rattle.std.proofs.Math.Path.{sym, ap, subst}
use Rattle.std.proofs.Common.{◌∙◌}
use Rattle.std.proofs.Math.ListN.{length}
use Rattle.words.specs.Limits.{Limits, longest_certificate}
use Rattle.words.specs.LimitsLaws.{LimitsFit}
use Rattle.words.specs.Outcome.{Outcome}
use Rattle.words.specs.Outcome.Outcome.{accepted, refused}
use Rattle.words.specs.System.{System, SystemWithin}
use Rattle.words.specs.Systems.{read_line}
use Rattle.words.proofs.LineLaws.{line_in_within, line_written_of_read}
use Rattle.words.specs.Bytes.{bytes_of, read_line_file, word_bytes}
use Rattle.words.proofs.BytesLaws.{length_bytes_of}
use Rattle.words.proofs.LineFileLaws.{line_file_within}
use Rattle.words.specs.Certificate.{Certificate, certificate_words}
use Rattle.write_frame.specs.Overwriting.{overwritten}
use Rattle.solve_meaning.specs.ChosenUnique.{chosen_unique}
use Rattle.solve_meaning.specs.Existence.{Suffices, chosen_certificate, chosen_only}
use Rattle.solver.specs.Solving.{with_room, certificate_bytes, GivesRight, Gives, SolvesOr, Solves, SolvesFile}
use Rattle.solver.specs.SolvingLaws.{accepted_same, room_enough, room_read, gives_words, solved_gives}

-- the first of the lent words are the written form of c, and as many as the count says
pub record WrittenForm (write : Certificate → List ℕ) (c : Certificate) (exit : List ℕ) (count : ℕ) : Type 0 where
  pub words : take count exit ≡ write c
  pub same_count : count ≡ length (write c)

-- a call gave these words: their count is the answer, and they stand over the first of the lent ones
abbrev pub GivesWords : (given entry exit : List ℕ) → Outcome ℕ → Type 0
GivesWords given entry exit answer = (answer ≡ accepted (length given)) × (exit ≡ overwritten given entry)

pub right_written : {limits : Limits} {write : Certificate → List ℕ} {s : System} {entry exit : List ℕ} {count : ℕ}
    (G : GivesRight limits write s entry exit count) → WrittenForm write G.certificate exit count
right_written G = record { words = gives_words G; same_count = G.same_count }

-- whatever the limits that the system keeps
module _ (limits : Limits) {s : System} (h : SystemWithin limits s) {limits₁ : Limits} {write : Certificate → List ℕ}
    {entry exit : List ℕ} {count : ℕ} (G : Gives limits₁ write s entry exit count) where
  -- it is the certificate of the system, which is a function of it
  pub gives_chosen : (room : Suffices limits s.rows s.columns) → G.given.certificate ≡ chosen_certificate limits s h room
  gives_chosen room = chosen_only limits s h room G.given.certificate G.chosen

  -- two calls give one certificate, whatever the limits that they hold it to
  pub gives_certificate : {limits₂ : Limits} {write₁ : Certificate → List ℕ} {entry₁ exit₁ : List ℕ} {count₁ : ℕ}
      (G₁ : Gives limits₂ write₁ s entry₁ exit₁ count₁) → G.given.certificate ≡ G₁.given.certificate
  gives_certificate G₁ = chosen_unique limits s h G.given.certificate G₁.given.certificate G.chosen G₁.chosen

written_same : {write : Certificate → List ℕ} {c : Certificate} {exit exit₁ : List ℕ} {count count₁ : ℕ}
    → WrittenForm write c exit count → WrittenForm write c exit₁ count₁ → (count ≡ count₁) × (take count exit ≡ take count₁ exit₁)
written_same W W₁ = (W.same_count ∙ sym W₁.same_count, W.words ∙ sym W₁.words)

-- what a call found lent, what it left there, and what it answered
pub record Call : Type 0 where
  pub entry : List ℕ
  pub exit : List ℕ
  pub answer : Outcome ℕ

-- both gave the same words, and so many as these are is the answer to both
abbrev pub SameGiven : Call → Call → Type 0
SameGiven x y = (given : List ℕ) × GivesWords given x.entry x.exit x.answer
    × GivesWords given y.entry y.exit y.answer

-- x is a call on what was read, with a certificate's written form and its greatest length
abbrev pub CallOn : Limits → Outcome System → (Certificate → List ℕ) → ℕ → Call → Type 0
CallOn limits read write longest x = SolvesOr limits write (with_room longest (length x.entry) read) x.entry x.exit
    x.answer

-- ---- on what was read, from words, from a file, or otherwise

-- the call on a system where there is room: its certificate
module _ (limits : Limits) {s : System} (h : SystemWithin limits s) (room : Suffices limits s.rows s.columns)
    {read : Outcome System} (is : read ≡ accepted s) (write : Certificate → List ℕ) (longest : ℕ) (entry exit : List ℕ)
    (answer : Outcome ℕ) where
  pub call_certificate : longest ≤ length entry → SolvesOr limits write (with_room longest (length entry) read) entry exit answer
      → GivesWords (write (chosen_certificate limits s h room)) entry exit answer
  unfolding SolvesOr
  call_certificate enough x =
      let g = subst (λ o. SolvesOr limits write o entry exit answer) (room_enough longest (length entry) enough read ∙ is) x in
      let c = gives_chosen limits h g.2 room in (
        g.1 ∙ ap accepted (g.2.given.same_count ∙ ap (λ c. length (write c)) c),
        g.2.given.words ∙ ap (λ c. overwritten (write c) entry) c,
      )

-- calls on one outcome of reading: one answer, and where the same was lent, the same is left there
outcome_same : (limits : Limits) (write : Certificate → List ℕ) (o : Outcome System)
    → ((s : System) → o ≡ accepted s → SystemWithin limits s) → {entry exit entry₁ exit₁ : List ℕ} {answer answer₁ : Outcome ℕ}
    → SolvesOr limits write o entry exit answer → SolvesOr limits write o entry₁ exit₁ answer₁
    → (answer ≡ answer₁) × (entry ≡ entry₁ → exit ≡ exit₁)
unfolding SolvesOr
outcome_same limits write (refused number place) within h h₁ = (h.0 ∙ sym h₁.0, λ e. h.1 ∙ e ∙ sym h₁.1)
outcome_same limits write (accepted s) within {entry} {exit} {entry₁} {exit₁} h h₁ =
    let G = h.2.given in
    let G₁ = h₁.2.given in
    let c = gives_certificate limits (within s refl) h.2 h₁.2 in (
      h.1 ∙ ap accepted (G.same_count ∙ ap (λ c. length (write c)) c ∙ sym G₁.same_count) ∙ sym h₁.1,
      λ e. G.words ∙ ap (λ c. overwritten (write c) entry) c ∙ ap (overwritten (write G₁.certificate)) e ∙ sym G₁.words,
    )

module _ (limits : Limits) {read read₁ : Outcome System} (same : read ≡ read₁)
    (within : (s : System) → read ≡ accepted s → SystemWithin limits s) where
  -- of two calls that read the same: one certificate, whatever it is written as
  pub one_certificate : (x y : Call) (write write₁ : Certificate → List ℕ) (longest longest₁ : ℕ)
      → CallOn limits read write longest x → CallOn limits read₁ write₁ longest₁ y
      → {count count₁ : ℕ} → x.answer ≡ accepted count → y.answer ≡ accepted count₁
      → (c : Certificate) × WrittenForm write c x.exit count × WrittenForm write₁ c y.exit count₁
  one_certificate x y write write₁ longest longest₁ h h₁ {count} {count₁} a a₁ =
      let g = solved_gives limits write longest (length x.entry) read x.entry x.exit x.answer h count a in
      let g₁ = solved_gives limits write₁ longest₁ (length y.entry) read₁ y.entry y.exit y.answer h₁ count₁ a₁ in
      let one = accepted_same (sym g₁.1 ∙ sym same ∙ g.1) in
      let G₁ = subst (λ s. Gives limits write₁ s y.entry y.exit count₁) one g₁.2 in
      let c = gives_certificate limits (within g.0 g.1) g.2 G₁ in (
        g.2.given.certificate,
        right_written g.2.given,
        subst (λ c. WrittenForm write₁ c y.exit count₁) (sym c) (right_written G₁.given),
      )

  module _ (write : Certificate → List ℕ) (longest : ℕ) where
    -- and one answer where there is room
    pub one_answer : (x y : Call) → longest ≤ length x.entry → longest ≤ length y.entry
        → CallOn limits read write longest x → CallOn limits read₁ write longest y → x.answer ≡ y.answer
    one_answer x y room room₁ h h₁ = (outcome_same limits write read within
        (subst (λ o. SolvesOr limits write o x.entry x.exit x.answer) (room_enough longest (length x.entry) room read)
        h)
        (subst (λ o. SolvesOr limits write o y.entry y.exit y.answer)
        (room_enough longest (length y.entry) room₁ read₁ ∙ sym same) h₁)).0

    -- and, where a system was read, the words of one certificate
    pub one_given : (x y : Call) → longest ≤ length x.entry → longest ≤ length y.entry
        → CallOn limits read write longest x → CallOn limits read₁ write longest y
        → {s : System} → read ≡ accepted s → SameGiven x y
    unfolding SolvesOr
    one_given x y room room₁ h h₁ {s} is =
        let g = subst (λ o. SolvesOr limits write o x.entry x.exit x.answer)
        (room_enough longest (length x.entry) room read ∙ is) h in
        let g₁ = subst (λ o. SolvesOr limits write o y.entry y.exit y.answer)
        (room_enough longest (length y.entry) room₁ read₁ ∙ sym same ∙ is) h₁ in
        let c = sym (gives_certificate limits (within s is) g.2 g₁.2) in (
          write g.2.given.certificate,
          (g.1 ∙ ap accepted g.2.given.same_count, g.2.given.words),
          (
            g₁.1 ∙ ap accepted (g₁.2.given.same_count ∙ ap (λ c. length (write c)) c),
            g₁.2.given.words ∙ ap (λ c. overwritten (write c) y.entry) c,
          ),
        )

    -- where the same is lent, all is the same, room or not
    pub call_unique : (entry : List ℕ) {exit exit₁ : List ℕ} {answer answer₁ : Outcome ℕ}
        → SolvesOr limits write (with_room longest (length entry) read) entry exit answer
        → SolvesOr limits write (with_room longest (length entry) read₁) entry exit₁ answer₁ → (exit ≡ exit₁) × (answer ≡ answer₁)
    call_unique entry {exit} {exit₁} {answer} {answer₁} h h₁ =
        let both = outcome_same limits write (with_room longest (length entry) read)
        (λ s e. within s (room_read longest (length entry) read e)) h
        (subst (λ r. SolvesOr limits write (with_room longest (length entry) r) entry exit₁ answer₁) (sym same) h₁) in
        (both.1 refl, both.0)

-- the same count and the same words
abbrev pub SameWords : Call → Call → Type 0
SameWords x y = (count count₁ : ℕ) → x.answer ≡ accepted count → y.answer ≡ accepted count₁
    → (count ≡ count₁) × (take count x.exit ≡ take count₁ y.exit)

-- ---- the solver's words, and bytes, are the written form of the system's certificate: a function of the system

module _ (limits : Limits) {s : System} (h : SystemWithin limits s) (room : Suffices limits s.rows s.columns)
    (entry exit : List ℕ) (answer : Outcome ℕ) where
  pub solved_certificate : (k : ℕ) (ws : List ℕ) → read_line limits k ws ≡ accepted s → longest_certificate limits ≤ length entry
      → Solves limits k ws entry exit answer
      → GivesWords (certificate_words (chosen_certificate limits s h room)) entry exit answer
  solved_certificate k ws is = call_certificate limits h room is certificate_words (longest_certificate limits) entry exit answer

  pub file_solved_certificate : (k : ℕ) (file : List ℕ) → read_line_file limits k file ≡ accepted s
      → word_bytes * longest_certificate limits ≤ length entry
      → SolvesFile limits k file entry exit answer
      → GivesWords (certificate_bytes (chosen_certificate limits s h room)) entry exit answer
  file_solved_certificate k file is =
      call_certificate limits h room is certificate_bytes (word_bytes * longest_certificate limits) entry exit answer

-- ---- on words

module _ (limits : Limits) (fit : LimitsFit limits) where
  pub words_within : (k : ℕ) (ws : List ℕ) (s : System) → read_line limits k ws ≡ accepted s → SystemWithin limits s
  words_within k ws s e = line_in_within limits fit k ws (line_written_of_read limits fit k ws e)

  -- lines that read as the same system, whichever number each has
  module _ (k k₁ : ℕ) (ws ws₁ : List ℕ) (same : read_line limits k ws ≡ read_line limits k₁ ws₁) where
    -- what is left and answered is decided, refusals too
    pub solves_unique : (entry : List ℕ) {exit exit₁ : List ℕ} {answer answer₁ : Outcome ℕ}
        → Solves limits k ws entry exit answer → Solves limits k₁ ws₁ entry exit₁ answer₁ → (exit ≡ exit₁) × (answer ≡ answer₁)
    solves_unique = call_unique limits same (words_within k ws) certificate_words (longest_certificate limits)

    module _ (x y : Call) (h : Solves limits k ws x.entry x.exit x.answer)
        (h₁ : Solves limits k₁ ws₁ y.entry y.exit y.answer) where
      pub solved_same : SameWords x y
      solved_same count count₁ a a₁ =
          let c = one_certificate limits same (words_within k ws) x y certificate_words certificate_words
          (longest_certificate limits) (longest_certificate limits) h h₁ a a₁ in
          written_same c.1 c.2

      pub solved_answer : longest_certificate limits ≤ length x.entry → longest_certificate limits ≤ length y.entry
          → x.answer ≡ y.answer
      solved_answer room room₁ =
          one_answer limits same (words_within k ws) certificate_words (longest_certificate limits) x y room room₁ h h₁

  -- ---- on files

  module _ (k k₁ : ℕ) (file file₁ : List ℕ) (same : read_line_file limits k file ≡ read_line_file limits k₁ file₁) where
    pub file_solves_unique : (entry : List ℕ) {exit exit₁ : List ℕ} {answer answer₁ : Outcome ℕ}
        → SolvesFile limits k file entry exit answer → SolvesFile limits k₁ file₁ entry exit₁ answer₁
        → (exit ≡ exit₁) × (answer ≡ answer₁)
    file_solves_unique =
        call_unique limits same (λ s e. line_file_within limits k fit s file e) certificate_bytes
        (word_bytes * longest_certificate limits)

    module _ (x y : Call) (h : SolvesFile limits k file x.entry x.exit x.answer)
        (h₁ : SolvesFile limits k₁ file₁ y.entry y.exit y.answer) where
      pub file_solved_same : SameWords x y
      file_solved_same count count₁ a a₁ =
          let c = one_certificate limits same (λ s e. line_file_within limits k fit s file e) x y
          certificate_bytes certificate_bytes (word_bytes * longest_certificate limits) (word_bytes * longest_certificate limits)
          h h₁ a a₁ in
          written_same c.1 c.2

      pub file_solved_answer : word_bytes * longest_certificate limits ≤ length x.entry
          → word_bytes * longest_certificate limits ≤ length y.entry
          → x.answer ≡ y.answer
      file_solved_answer room room₁ = one_answer limits same (λ s e. line_file_within limits k fit s file e)
          certificate_bytes (word_bytes * longest_certificate limits) x y room room₁ h h₁

  -- a file gets the bytes of what its words get
  pub file_solved_words : (x y : Call) (k : ℕ) (ws file : List ℕ) → read_line_file limits k file ≡ read_line limits k ws
      → Solves limits k ws x.entry x.exit x.answer → SolvesFile limits k file y.entry y.exit y.answer
      → {count count₁ : ℕ} → x.answer ≡ accepted count → y.answer ≡ accepted count₁
      → (count₁ ≡ word_bytes * count) × (take count₁ y.exit ≡ bytes_of (take count x.exit))
  unfolding certificate_bytes
  file_solved_words x y k ws file same h h₁ a a₁ =
      let c = one_certificate limits (sym same) (words_within k ws) x y certificate_words certificate_bytes
      (longest_certificate limits) (word_bytes * longest_certificate limits) h h₁ a a₁ in (
        c.2.same_count ∙ length_bytes_of (certificate_words c.0) ∙ ap (λ n. word_bytes * n) (sym c.1.same_count),
        c.2.words ∙ ap bytes_of (sym c.1.words),
      )
