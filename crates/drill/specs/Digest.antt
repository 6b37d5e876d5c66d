-- What a hasher was fed.
use Rattle.std.specs.Prelude.{ℕ, List}
use Rattle.std.specs.List.{flat_map}
use Rattle.drill.specs.declared.digest.Piece.{Piece}

-- the bytes of all pieces, one after another
abbrev pub fed : List Piece → List ℕ
fed pieces = flat_map (λ piece. piece.bytes.value.items) pieces
