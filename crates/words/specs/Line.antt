-- Words that hold the system of one line, by written forms alone; and what is refused of others.
use Rattle.std.specs.Prelude.{◌≡◌, List, ℕ, ◌≤◌, ◌<◌}
use Rattle.words.specs.Limits.{Limits}
use Rattle.words.specs.System.{System}
use Rattle.words.specs.Systems.{Systems, SystemsWithin, systems_words, line}
use Rattle.words.specs.Table.{ByTable, system_table}

-- the words are the written form of systems within the limits that have a right side k, and s is the system of that line
pub record LineIn (limits : Limits) (k : ℕ) (s : System) (ws : List ℕ) : Type 0 where
  pub systems : Systems
  pub words : ws ≡ systems_words systems
  pub within : SystemsWithin limits systems
  pub has : k < systems.head.sides
  pub is : s ≡ line systems k

-- 1 to 9 by the table; of a written form, 40 at 0 where it does not have that right side
pub data LineRefused (limits : Limits) (k : ℕ) (ws : List ℕ) (number place : ℕ) : Type 0 where
  by_words : ByTable (system_table limits) 0 ws number place → LineRefused limits k ws number place
  no_side : (s : Systems) → ws ≡ systems_words s → SystemsWithin limits s → s.head.sides ≤ k → number ≡ 40 → place ≡ 0
      → LineRefused limits k ws number place
