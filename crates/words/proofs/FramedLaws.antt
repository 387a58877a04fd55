-- Words that were read are a head, the polynomials of what was read, and the end, for any limits, also for those that heads cannot
-- express; where each polynomial stands in them; and that their start words lead to it.
use Rattle.std.specs.Prelude.{◌≡◌, drop}
use Rattle.std.proofs.Math.Path.{refl, ap, ap₂, subst}
use Rattle.std.proofs.Common.{sym, ◌∙◌, length-drop, drop_of_length-le, drop-cons, drop-drop, get_or-drop, ext_get_or}
use mathlib.Core.List.{List, [], ◌∷◌, ◌++◌, map, append_assoc}
use Prim.Native.Nat.{ℕ, zero, suc, ◌+◌, ◌*◌, ◌≤◌, ◌<◌}
use native.Mathlib.Omega.{arith}
use Rattle.std.proofs.Math.Nat.{mul-le-mul_right, suc-mul}
use Rattle.std.proofs.Math.Decide.{dec_lt}
use Rattle.std.proofs.Math.ListN.{length, get_or, take, length-append, take-append-drop}
use Rattle.std.proofs.lemmas.List.{length-map}
use Rattle.std.proofs.Math.Seq.{drop-append-add, take_at, take_all}
use Rattle.words.specs.Limits.{Limits}
use Rattle.words.specs.LimitsLaws.{LimitsFit}
use Rattle.words.specs.Word.{payload_bound, kind, payload, word}
use Rattle.words.specs.Outcome.Outcome.{accepted}
use Rattle.words.specs.Reading.{Reading, renumber}
use Rattle.words.specs.Reading.Reading.{read}
use Rattle.words.specs.Polynomial.{polynomial_words, polynomials_words}
use Rattle.words.specs.Frame.{Due, Framed, end_word, framed_words, entry_place, body_from, framed_from}
use Rattle.words.specs.System.{System, Shape, ShapeWithin}
use Rattle.words.specs.Systems.{Head, Systems, SystemsWithin, systems_entries, read_systems, head_word, systems_head_from}
use Rattle.words.specs.Systems.{systems_due, systems_of, systems_from, line, read_line}
use Rattle.words.specs.Certificate.{Certificate, certificate_form, certificate_entries, read_certificate}
use Rattle.words.specs.Certificate.{form_word, certificate_due, certificate_words, entry_count}
use Rattle.words.specs.ReadingLaws.{and_then_read, renumber_read, outcome_accepted}
use Rattle.words.proofs.PolynomialLaws.{length_polynomial_words}
use Rattle.words.proofs.PlaceLaws.{entry_words, entry_place_zero, entry_place_next, payloads_of}
use Rattle.words.specs.VectorLaws.{all_at}
use Rattle.words.proofs.FrameLaws.{Entries, Expressible, body_read}
use Rattle.words.proofs.HeadLaws.{head_read}
use Rattle.words.proofs.SystemsLaws.{systems_from_shown, systems_read_of_written, systems_written_of_read}
use Rattle.words.proofs.SystemsLaws.{systems_expressible}
use Rattle.words.proofs.LineLaws.{line_written_of_read}
use Rattle.words.proofs.CertificateLaws.{certificate_laws, certificate_written_of_read, certificate_expressible}
use Rattle.words.specs.Starts.{start_place, coefficients_at, first_entries, line_entries, HasEntries}
use Rattle.words.specs.Starts.{start_first, start_next, start_stays, length_first_entries, get_or_first_entries}
use Rattle.words.specs.Starts.{first_entries_part, entries_from_part, has_fewer}

-- so many polynomials within a limit, behind a head
pub record FramedIn (ws : List ℕ) (due : Due) (fs : List (List ℕ)) : Type 0 where
  pub head : ℕ
  pub words : ws ≡ framed_words head fs
  pub entries : Entries due fs

module _ {H : Type 0} (by : ℕ) (head_from : List ℕ → Reading H) (due : H → Due) (head_word : H → ℕ) (ws : List ℕ) where
  -- where the head is one word
  framed_in : ((h : H) (rest : List ℕ) → head_from ws ≡ read h rest → ws ≡ head_word h ∷ rest)
      → (v : Framed H) (rest : List ℕ) → framed_from by head_from due ws ≡ read v rest → FramedIn ws (due v.head) v.entries
  unfolding framed_from framed_words
  framed_in one_word v rest e =
      let t = and_then_read (head_from ws) e in
      let h = t.0 in
      let u = and_then_read (renumber by (body_from (due h) (length ws) t.1)) t.3 in
      let fs = u.0 in
      let b = body_read (due h) (length ws) t.1 fs u.1 (renumber_read by (body_from (due h) (length ws) t.1) u.2) in
      let ev : record { head = h; entries = fs } ≡ v = cc in
      let body : ℕ → List ℕ = λ n. polynomials_words fs ++ word 4 n ∷ [] in
      let ew : ws ≡ head_word h ∷ body (length ws) = one_word h t.1 t.2 ∙ ap (λ (r : List ℕ). head_word h ∷ r) b.words in
      let n = length-append (polynomials_words fs) (word 4 (length ws) ∷ []) in
      let el : length ws ≡ 1 + length (polynomials_words fs) + 1 = omega (arith, ap length ew) in
      subst (λ (x : Framed H). FramedIn ws (due x.head) x.entries) ev
      (record { head = head_word h; words = ew ∙ ap (λ (i : ℕ). head_word h ∷ body i) el; entries = b.within })

module _ (limits : Limits) (ws : List ℕ) where
  head_one_word : (h : Head) (rest : List ℕ) → systems_head_from limits ws ≡ read h rest → ws ≡ head_word h ∷ rest
  head_one_word h rest r = (head_read limits ws h rest r).words

  pub systems_framed : (s : Systems) → read_systems limits ws ≡ accepted s
      → FramedIn ws (systems_due limits s.head) (systems_entries s)
  unfolding systems_from systems_of
  systems_framed s e =
      let t = outcome_accepted (length ws) (systems_from limits ws) s (sym (systems_from_shown limits ws) ∙ e) in
      let u = and_then_read (framed_from 0 (systems_head_from limits) (systems_due limits) ws) t.1 in
      let v = u.0 in
      let f = framed_in 0 (systems_head_from limits) (systems_due limits) head_word ws head_one_word v u.1 u.2 in
      let es : systems_of v ≡ s = cc in
      let ee = take-append-drop (v.head.shape.rows * v.head.shape.columns) v.entries in
      rw (← es, ee) f

  pub certificate_framed : (h : Shape) (c : Certificate) → read_certificate limits h ws ≡ accepted c
      → FramedIn ws (certificate_due limits h (certificate_form c)) (certificate_entries c)
  unfolding certificate_words
  certificate_framed h c e =
      let w = certificate_written_of_read limits h ws c e in
      record { head = form_word (certificate_form c); words = w.0; entries = ((certificate_laws limits h).apart c w.1).entries }

-- no polynomial is longer than the limit
pub framed_size : {ws : List ℕ} {due : Due} {fs : List (List ℕ)} → FramedIn ws due fs → (k : ℕ) → length (get_or fs k []) ≤ due.limit
framed_size {ws} {due} {fs} f k = (all_at due.modulus due.limit fs f.entries.entries k).size

-- ---- where a polynomial stands

module _ (ws : List ℕ) (head : ℕ) (fs : List (List ℕ)) (framed : ws ≡ framed_words head fs) (k : ℕ) (some : k < length fs) where
  abbrev f : List ℕ
  f = get_or fs k []

  polynomial_from : (rest : List ℕ) × (drop (entry_place fs k) ws ≡ polynomial_words f ++ rest)
  unfolding polynomials_words
  polynomial_from =
      let end = end_word (1 + length (polynomials_words fs)) ∷ [] in
      let rest = polynomials_words (drop (suc k) fs) in (
        rest ++ end,
        ap (drop (entry_place fs k)) framed
            ∙ entry_words head fs k
            ∙ ap (λ (gs : List (List ℕ)). polynomials_words gs ++ end) (drop-cons fs k [] some)
            ∙ append_assoc (polynomial_words f) rest end,
      )

  pub polynomial_inside : entry_place fs k + length (polynomial_words f) ≤ length ws
  polynomial_inside =
      let t = polynomial_from in
      omega (
        arith,
        length-drop (entry_place fs k) ws,
        ap length t.1,
        length-append (polynomial_words f) t.0,
        length_polynomial_words f,
      )

  -- the words from its start word to its last coefficient
  pub polynomial_part : take (length (polynomial_words f)) (drop (entry_place fs k) ws) ≡ polynomial_words f
  polynomial_part =
      let t = polynomial_from in
      ap (take (length (polynomial_words f))) t.1 ∙ take_at (polynomial_words f) t.0 (length (polynomial_words f)) refl

-- ---- the start words lead to it

module _ {ws : List ℕ} {due : Due} {fs : List (List ℕ)} (f : FramedIn ws due fs) (narrow : due.limit < payload_bound) where
  first_word : (at w : ℕ) (rest : List ℕ) → drop at ws ≡ w ∷ rest → get_or ws at 0 ≡ w
  first_word at w rest e =
      let n : at + 0 ≡ at = omega arith in
      ap (λ (i : ℕ). get_or ws i 0) (sym n) ∙ sym (get_or-drop at ws 0 0) ∙ ap (λ (v : List ℕ). get_or v 0 0) e

  -- a polynomial
  module _ (k : ℕ) (some : k < length fs) where
    from_place : (rest : List ℕ) × (drop (entry_place fs k) ws ≡ polynomial_words (get_or fs k []) ++ rest)
    from_place = polynomial_from ws f.head fs f.words k some

    start_word : get_or ws (entry_place fs k) 0 ≡ word 2 (length (get_or fs k []))
    unfolding polynomial_words
    start_word = first_word _ _ _ from_place.1

    start_kind : kind (get_or ws (entry_place fs k) 0) ≡ 2
    start_kind = omega (arith, framed_size f k, start_word)

    start_count : payload (get_or ws (entry_place fs k) 0) ≡ length (get_or fs k [])
    start_count = omega (arith, framed_size f k, start_word)

    coefficients_at_lem : due.modulus ≤ payload_bound → coefficients_at ws (entry_place fs k) ≡ get_or fs k []
    unfolding coefficients_at polynomial_words
    coefficients_at_lem small =
        let g = get_or fs k [] in
        ap₂ (λ (n : ℕ) (v : List ℕ). map payload (take n v)) start_count
        (sym (drop-drop 1 (entry_place fs k) ws) ∙ ap (drop 1) from_place.1)
        ∙ ap (map payload) (take_at (map (word 3) g) from_place.0 (length g) (length-map g (word 3)))
        ∙ payloads_of due.modulus small g (all_at due.modulus due.limit fs f.entries.entries k).canonical

  -- those that are left, and the end
  abbrev end : ℕ
  end = end_word (1 + length (polynomials_words fs))

  words_left : (k : ℕ) → drop (entry_place fs k) ws ≡ polynomials_words (drop k fs) ++ end ∷ []
  words_left k = ap (drop (entry_place fs k)) f.words ∙ entry_words f.head fs k

  place_inside : (k : ℕ) → entry_place fs k < length ws
  place_inside k =
      omega (
        arith,
        length-drop (entry_place fs k) ws,
        ap length (words_left k),
        length-append (polynomials_words (drop k fs)) (end ∷ []),
      )

  -- behind the last there is the end word
  module _ (k : ℕ) (none : length fs ≤ k) where
    end_kind : kind (get_or ws (entry_place fs k) 0) ≡ 2 → ⊥
    unfolding polynomials_words
    end_kind e =
        let last = ap (λ (gs : List (List ℕ)). polynomials_words gs ++ end ∷ []) (drop_of_length-le fs {i = k} none) in
        omega (arith, first_word (entry_place fs k) end [] (words_left k ∙ last))

    place_stays : entry_place fs (suc k) ≡ entry_place fs k
    unfolding entry_place
    place_stays = rw (take_all k fs none, take_all (suc k) fs (omega arith)) refl

  pub start_is : (k : ℕ) → start_place ws k ≡ entry_place fs k
  start_is zero = start_first ws ∙ sym (entry_place_zero fs)
  start_is (suc k) = next (start_is k) (dec_lt k (length fs))
    where
      next : start_place ws k ≡ entry_place fs k → Dec (k < length fs) → start_place ws (suc k) ≡ entry_place fs (suc k)
      next here (yes some) =
          let size : payload (get_or ws (start_place ws k) 0) ≡ length (get_or fs k []) = rw here (start_count k some) in
          start_next ws k (rw here (start_kind k some)) ∙ omega (arith, here, size, entry_place_next fs k some)
      next here (no past) = start_stays ws k (rw here (end_kind k (omega arith))) ∙ here ∙ sym (place_stays k (omega arith))

  pub start_inside : (k : ℕ) → start_place ws k < length ws
  start_inside k = rw (start_is k) (place_inside k)

  -- what they lead to: a polynomial, or the end
  pub started : (k : ℕ) → k < length fs
      → (kind (get_or ws (start_place ws k) 0) ≡ 2) × (payload (get_or ws (start_place ws k) 0) ≡ length (get_or fs k []))
  started k some = rw (start_is k) (start_kind k some, start_count k some)

  pub ended : (k : ℕ) → length fs ≤ k → kind (get_or ws (start_place ws k) 0) ≡ 2 → ⊥
  ended k none = rw (start_is k) (end_kind k none)

  pub framed_has : HasEntries due.limit due.count ws
  framed_has =
      let all = f.entries.count in
      record {
        starts = λ k lt. (started k (omega arith)).0;
        sizes = λ k lt. omega (arith, (started k (omega arith)).1, framed_size f k);
        inside = λ k lt.
            omega (
              arith,
              start_is k,
              (started k (omega arith)).1,
              polynomial_inside ws f.head fs f.words k (omega arith),
              length_polynomial_words (get_or fs k []),
            );
      }

  pub framed_first : due.modulus ≤ payload_bound → first_entries ws due.count ≡ fs
  framed_first small =
      let all = f.entries.count in
      let n = length_first_entries ws due.count in
      ext_get_or [] (first_entries ws due.count) fs (n ∙ sym all) (λ k lt.
      get_or_first_entries ws due.count k (omega arith)
      ∙ ap (coefficients_at ws) (start_is k)
      ∙ coefficients_at_lem k (omega arith) small)

-- ---- the polynomials of what was read, within a limit, are those that stand in the words

pub record EntriesRead (limit count : ℕ) (ws : List ℕ) (fs : List (List ℕ)) : Type 0 where
  pub has : HasEntries limit count ws
  pub same : first_entries ws count ≡ fs

-- and those of one line are its matrix and its right side
pub record LineEntriesRead (limit k : ℕ) (ws : List ℕ) (s : System) : Type 0 where
  pub has : HasEntries limit (s.rows * s.columns + k * s.rows + s.rows) ws
  pub same : line_entries ws s.rows s.columns k ≡ s.matrix ++ s.side

entries_read : {ws : List ℕ} {due : Due} {fs : List (List ℕ)} → FramedIn ws due fs → Expressible due
    → EntriesRead due.limit due.count ws fs
entries_read f e = record { has = framed_has f e.limit; same = framed_first f e.limit e.modulus }

module _ (limits : Limits) (fit : LimitsFit limits) (ws : List ℕ) where
  pub systems_entries_read : (s : Systems) → read_systems limits ws ≡ accepted s
      → EntriesRead limits.system_coefficients (systems_due limits s.head).count ws (systems_entries s)
  systems_entries_read s e =
      let within = (systems_written_of_read limits fit ws s e).1 in
      entries_read (systems_framed limits ws s e) (systems_expressible limits fit s.head within.head)

  -- of one line
  module _ (k : ℕ) where
    of_systems : (s : Systems) → read_systems limits ws ≡ accepted s → SystemsWithin limits s → k < s.head.sides
        → LineEntriesRead limits.system_coefficients k ws (line s k)
    unfolding line
    of_systems s e within side =
        let n = s.head.shape.rows in
        let A = n * s.head.shape.columns in
        let all = A + s.head.sides * n in
        let read = systems_entries_read s e in
        let few = mul-le-mul_right n side in
        let more = suc-mul k n in
        let size = within.matrix.count in
        let behind : length s.matrix + k * n ≡ A + k * n = omega arith in
        record {
          has = has_fewer ws read.has (A + k * n + n) (omega arith);
          same = ap₂ (λ (f g : List (List ℕ)). f ++ g)
              (first_entries_part ws A all (omega arith) ∙ ap (take A) read.same ∙ take_at s.matrix s.side_entries A size)
              (entries_from_part ws (A + k * n) n all (omega arith)
              ∙ ap (λ (f : List (List ℕ)). take n (drop (A + k * n) f)) read.same
              ∙ ap (λ (i : ℕ). take n (drop i (systems_entries s))) (sym behind)
              ∙ ap (take n) (drop-append-add s.matrix s.side_entries (k * n)));
        }

    pub line_entries_read : (s : System) → read_line limits k ws ≡ accepted s
        → LineEntriesRead limits.system_coefficients k ws s
    line_entries_read s e =
        let L = line_written_of_read limits fit k ws e in
        let read = ap (read_systems limits) L.words ∙ systems_read_of_written limits fit L.systems L.within in
        subst (LineEntriesRead limits.system_coefficients k ws) (sym L.is) (of_systems L.systems read L.within L.has)

  pub certificate_entries_read : (h : Shape) → ShapeWithin limits h → (c : Certificate) → read_certificate limits h ws ≡ accepted c
      → EntriesRead limits.certificate_coefficients (entry_count h (certificate_form c)) ws (certificate_entries c)
  certificate_entries_read h valid c e =
      entries_read (certificate_framed limits ws h c e) (certificate_expressible limits h fit valid (certificate_form c) tt)
