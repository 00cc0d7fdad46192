-- How many cells may be handed in, and the number that the panel shows where there are more.
use Rattle.std.specs.Prelude.{ℕ}
use Rattle.buffer.specs.declared.refusal.BufferRefusal.{BufferRefusal}
use Rattle.buffer.specs.declared.refusal.BufferRefusal.TheVariants.{TooManyCells}

-- At most this many sample cells are taken.
abbrev pub max_cells : ℕ
max_cells = 16777216

abbrev pub buffer_number : BufferRefusal → ℕ
buffer_number TooManyCells = 3
