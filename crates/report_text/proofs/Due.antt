-- Text that is appended part by part: what is still due, and why it completes the text.
use Prim.Native.Nat.{ℕ, ◌≤◌}
use mathlib.Core.Path.{◌≡◌, refl, sym, ◌∙◌}
use mathlib.Core.List.{List, [], ◌∷◌, ◌++◌}
use native.Mathlib.Omega.{arith}
use lib.ListN.{length, length-append}
use Rattle.report_text.specs.declared.text.Text.{Text}
use Rattle.report_text.specs.Written.{Written}
use Rattle.report_text.specs.Grown.{Room, Grown}
use Rattle.report_text.specs.WrittenLaws.{appended_nothing, appended_then, appended_length, appended_whole}

-- texts one after another
abbrev pub joined : List (List ℕ) → List ℕ
joined [] = []
joined (part ∷ parts) = part ++ joined parts

-- the text has to grow by `more`; now that it is `text`, `parts` are due
pub record Due (more : List ℕ) (before : Text) (parts : List (List ℕ)) (text : Text) : Type 0 where
  pub room : Room (joined parts) text
  pub whole : {after : Text} → Grown (joined parts) text after → Grown more before after

-- at first, all parts
pub due_all : (parts : List (List ℕ)) {more : List ℕ} {before : Text} → more ≡ joined parts → Room more before
    → Due more before parts before
due_all parts e room = record { room = rw e at room; whole = λ g. rw e g }

module _ {more : List ℕ} {before text : Text} where
  pub due_room : {part : List ℕ} {parts : List (List ℕ)} → Due more before (part ∷ parts) text → Room part text
  due_room {part} {parts} due = omega (arith, due.room, length-append part (joined parts))

  -- the first part is appended, and the others are due
  pub due_next : {part : List ℕ} {parts : List (List ℕ)} {after : Text} → Due more before (part ∷ parts) text
      → Grown part text after → Due more before parts after
  due_next {part} {parts} due g = record {
    room = omega (
      arith,
      due.room,
      g.appended.place,
      appended_length g.appended,
      length-append part (joined parts),
    );
    whole = λ f. due.whole (record { appended = appended_then g.appended f.appended; same = f.same ∙ g.same });
  }

  -- at last, none
  pub due_none : Due more before [] text → Grown more before text
  due_none due = due.whole (record { appended = appended_nothing _ _; same = refl })

-- a text that has grown from nothing is the whole of what is left in its bytes
pub grown_whole : {more entry exit : List ℕ} {before after : Text} → length more ≤ length entry → before.bytes.now ≡ entry
    → before.length ≡ 0 → exit ≡ after.bytes.now → Grown more before after → Written more entry exit after.length
grown_whole room first none last g = appended_whole room (rw (first, none, sym last) at g.appended)
