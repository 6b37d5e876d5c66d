-- What a reader was made for, and what it reads.
use Rattle.std.specs.Prelude.{◌≡◌, ℕ, ◌+◌, ◌≤◌, List, Contains, take, drop}
use Rattle.rc_tree.specs.Path.{key_of}
use Rattle.rc_volume.specs.declared.want.Want.{Want}

-- so many bytes from an offset on
abbrev pub part_of : ℕ → ℕ → List ℕ → List ℕ
part_of off len bytes = take len (drop off bytes)

-- one of the wants has, at this key, a range that holds all of this one
abbrev pub Opens : List Want → List (List ℕ) → ℕ → ℕ → Type 0
Opens wants key off len =
    (want : Want) × (range : ℕ × ℕ) × Contains wants want × (key_of want.path ≡ key) × Contains want.ranges range
    × (range.0 ≤ off) × (off + len ≤ range.0 + range.1)
