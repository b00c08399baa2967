-- Positions on one axis of the stage, over the integers, in µm.
use Rattle.std.specs.Prelude.{Bool, not, ◌&&◌, ℕ, ◌*◌, ◌/◌, ◌^◌, ltb, ℤ, pos, negsuc, ◌+ℤ◌}
use Rattle.std.specs.Int.Signed.{lt_z}

-- the smallest and the largest edge: -1,000,000 and 1,000,000
abbrev pub smallest_edge : ℤ
smallest_edge = negsuc 999999

abbrev pub largest_edge : ℤ
largest_edge = pos 1000000

-- an edge is neither below the smallest nor above the largest
abbrev pub edge_within : ℤ → Bool
edge_within e = not (lt_z e smallest_edge) && not (lt_z largest_edge e)

-- the largest extent, that is, width or height
abbrev pub largest_extent : ℕ
largest_extent = 1000000

-- an extent is at least 1, and not above the largest
abbrev pub extent_within : ℕ → Bool
extent_within x = not (ltb x 1) && not (ltb largest_extent x)

-- the distance of a coordinate from the edge: floor (word * extent / 2 ^ 32), where the coordinate is word / 2 ^ 32
abbrev pub offset : ℕ → ℕ → ℕ
offset extent word = word * extent / 2 ^ 32

-- edge + floor (word * extent / 2 ^ 32)
abbrev pub position : ℤ → ℕ → ℕ → ℤ
position edge extent word = edge +ℤ pos (offset extent word)
