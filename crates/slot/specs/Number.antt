-- Node numbers and vertex numbers. In definitions both are plain numbers; the code's types keep them apart.
use Rattle.std.specs.Prelude.{ℕ, ◌+◌, ◌*◌}

-- "Node numbers have 16 bits (65,535 is none)"
abbrev pub none : ℕ
none = 65535

-- "vertex numbers 32 (4,294,967,295 is none)"
abbrev pub no_vertex : ℕ
no_vertex = 4294967295

-- a vertex number from its two words
abbrev pub vertex_from : ℕ → ℕ → ℕ
vertex_from low high = low + high * 65536
