use Prim.Native.Nat.{ℕ, ◌+◌, ◌≤◌}
use mathlib.Core.Path.{◌≡◌, refl, sym, ap₂, ap, ◌∙◌}
use mathlib.Core.List.{List, ◌++◌, append_assoc}
use native.Mathlib.Omega.{arith}
use borrow.Rule.Slice.PartMut.{put_mid}
use lib.ListN.{length, take, drop}
use lib.Seq.{drop-drop}
use Rattle.std.proofs.lemmas.List.Edits.{sets, sets-eq}
use Rattle.report_text.proofs.text.Text.append.Goals as goal

-- the text over so many bytes
copied : (at k : ℕ) (l new text : List ℕ) → new ≡ text → k ≡ length text → at + length text ≤ length l
    → put_mid at k l new ≡ sets l at text
copied at k l new text e n room =
    ap₂ (λ t rest. take at l ++ (t ++ rest)) e (drop-drop k at l ∙ ap (λ m. drop (at + m) l) n)
    ∙ sym (append_assoc (take at l) text _)
    ∙ sym (sets-eq text l at room)

pub returns : goal.returns
returns c = record {
  appended = record { bytes = copied _ _ _ _ _ c.copy_from_slice.ensures.after (omega arith) c.requires; place = refl };
  same = refl;
}
