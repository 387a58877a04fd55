-- The whole lookup, from what is told of the system, of the certificate and of the polynomial.
use mathlib.Core.Path.{◌≡◌, sym, ap, ◌∙◌}
use mathlib.Core.List.{List}
use Prim.Native.Nat.{ℕ, ◌≤◌}
use native.Mathlib.Omega.{arith}
use Rattle.modular.specs.Bits.{most16}
use Rattle.words.specs.Limits.{Limits}
use Rattle.words.specs.Outcome.{Outcome, mapped}
use Rattle.words.specs.Outcome.Outcome.{accepted, refused}
use Rattle.words.specs.Systems.{Head, Systems, systems_head, read_systems}
use Rattle.words.specs.Certificate.{Certificate, Form, certificate_form, read_certificate}
use Rattle.lookup.specs.Lookup.{Of, Part, on, entries_on, shown, polynomial_lookup, bounds_shown}
use Rattle.lookup.specs.Answer.{part_outcome}
use Rattle.lookup.specs.Lookup.Of.{system, certificate}
use Rattle.lookup.specs.Standing.{StartsInside, part_in}
use Rattle.lookup.specs.StandingLaws.{part_framed}
use Rattle.words.specs.OutcomeLaws.{mapped_accepted, mapped_refused}
use Rattle.words.proofs.FramedLaws.{systems_framed, certificate_framed, start_inside}
use Rattle.lookup.proofs.LookupLaws.{lookup_system_refused, lookup_certificate_refused, lookup_read}
use Rattle.std.specs.Prelude.{Result, Err}
use Rattle.answers.specs.Answer.{reason_number}
use Rattle.answers.specs.declared.answer.Refusal.{Refusal}

module _ (limits : Limits) (ss cs : List ℕ) (of : Of) (k : ℕ) where
  abbrev pub Told : Outcome Part
  Told = polynomial_lookup limits ss cs of k

  -- a value of the code tells the part
  abbrev pub Tells : Result (ℕ × ℕ) Refusal → Type 0
  Tells r = part_outcome r ≡ bounds_shown Told

  pub find_system_refused : (r : Refusal) → refused (reason_number r.reason) r.place ≡ mapped systems_head (read_systems limits ss)
      → Tells (Err r)
  find_system_refused r t =
      let e = mapped_refused systems_head (read_systems limits ss) (sym t) in
      ap bounds_shown (sym (lookup_system_refused limits ss cs of k (reason_number r.reason) r.place e))

  module _ (h : Head) (told : accepted h ≡ mapped systems_head (read_systems limits ss)) where
    read_system : (s : Systems) × (read_systems limits ss ≡ accepted s) × (systems_head s ≡ h)
    read_system = mapped_accepted systems_head (read_systems limits ss) (sym told)

    s : Systems
    s = read_system.0

    -- the certificate, for the system that was read
    of_shape : {o : Outcome Form} → o ≡ mapped certificate_form (read_certificate limits h.shape cs)
        → o ≡ mapped certificate_form (read_certificate limits s.head.shape cs)
    unfolding s
    of_shape t = t ∙ ap (λ (g : Head). mapped certificate_form (read_certificate limits g.shape cs)) (sym read_system.2)

    pub find_certificate_refused : (r : Refusal)
        → refused (reason_number r.reason) r.place ≡ mapped certificate_form (read_certificate limits h.shape cs) → Tells (Err r)
    unfolding s
    find_certificate_refused r t =
        let e = mapped_refused certificate_form (read_certificate limits s.head.shape cs) (sym (of_shape t)) in
        ap bounds_shown (sym (lookup_certificate_refused limits ss cs of k s read_system.1 (reason_number r.reason) r.place e))

    module _ (form : Form) (told' : accepted form ≡ mapped certificate_form (read_certificate limits h.shape cs)) where
      read_certificate_lem : (c : Certificate) × (read_certificate limits s.head.shape cs ≡ accepted c) × (certificate_form c ≡ form)
      read_certificate_lem = mapped_accepted certificate_form (read_certificate limits s.head.shape cs) (sym (of_shape told'))

      c : Certificate
      c = read_certificate_lem.0

      module _ (few : limits.system_coefficients ≤ most16) (few' : limits.certificate_coefficients ≤ most16) where
        inside_on : (of : Of) → StartsInside (on of ss cs)
        unfolding s c
        inside_on system = start_inside (systems_framed limits ss s read_system.1) (omega arith)
        inside_on certificate = start_inside (certificate_framed limits cs s.head.shape c read_certificate_lem.1) (omega arith)

        part_on : (of : Of) → part_in (on of ss cs) k ≡ bounds_shown (polynomial_lookup limits ss cs of k)
        unfolding s c
        part_on of =
            framed of ∙ ap bounds_shown (sym (lookup_read limits ss cs of k s read_system.1 c read_certificate_lem.1))
          where
            framed : (of : Of) → part_in (on of ss cs) k ≡ bounds_shown (shown k (entries_on of s c))
            framed system = part_framed (systems_framed limits ss s read_system.1) (omega arith) k
            framed certificate = part_framed (certificate_framed limits cs s.head.shape c read_certificate_lem.1) (omega arith) k

        pub find_inside : (ws : List ℕ) → ws ≡ on of ss cs → StartsInside ws
        find_inside ws e = rw e (inside_on of)

        pub find_part : (ws : List ℕ) → ws ≡ on of ss cs → (r : Result (ℕ × ℕ) Refusal) → part_outcome r ≡ part_in ws k → Tells r
        find_part ws e r found = found ∙ ap (λ v. part_in v k) e ∙ part_on of
