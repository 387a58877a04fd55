-- The memory behind the references of an insertion, and that a call keeps the references themselves.
use Rattle.std.specs.Prelude.{◌≡◌, length}
use Rattle.solve_lattice.specs.declared.insertion.Insertion.{Insertion}
use Rattle.solve_lattice.specs.Memory.{Memory, memory}

abbrev pub memory_of : Insertion → Memory
memory_of W = memory W.level.now W.block.now W.tail.now W.hand

pub record SameReferences (W W' : Insertion) : Type 0 where
  pub level : W'.level.ghost_name ≡ W.level.ghost_name
  pub block : W'.block.ghost_name ≡ W.block.ghost_name
  pub tail : W'.tail.ghost_name ≡ W.tail.ghost_name
  pub modulus : W'.modulus ≡ W.modulus
  pub long : length W'.block.now ≡ length W.block.now
