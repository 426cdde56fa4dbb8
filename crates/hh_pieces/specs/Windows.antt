-- What is held of the bytes that a reader gave.
use Rattle.std.specs.Prelude.{ℕ, List, drop, take}
use Rattle.hh_pieces.specs.declared.window.Window.{Window}

-- the bytes that a window holds: a part of its buffer
abbrev pub held_in : Window → List ℕ
held_in window = take window.held (drop window.from window.bytes.items)
