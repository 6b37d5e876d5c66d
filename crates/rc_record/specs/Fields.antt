-- Fields of a record, each at its offset among all of the bytes: the value, or the place at which the record is bad.
use Rattle.std.specs.Prelude.{ℕ, ◌+◌, List, length, take, drop, Option, Result, Ok, Err, nat_le, nat_lt, if◌then◌else◌, slice_index, ok_or}
use Rattle.std.specs.Int.{Width, byte_len, from_le_bytes}

infixl 10 ◌>>=◌
abbrev pub ◌>>=◌ : {A B : Type 0} → Result A ℕ → (A → Result B ℕ) → Result B ℕ
(Ok x) >>= f = f x
(Err place) >>= f = Err place

-- so many bytes from an offset on; the place of a field in which the record ends is the record's length
unfoldable pub field_at : ℕ → ℕ → List ℕ → Result (List ℕ) ℕ
field_at len off bytes = if nat_le (off + len) (length bytes) then Ok (take len (drop off bytes)) else Err (length bytes)

unfoldable pub byte_at : ℕ → List ℕ → Result ℕ ℕ
byte_at off bytes = if nat_lt off (length bytes) then Ok (slice_index bytes off) else Err (length bytes)

-- a number, its least byte first
unfoldable pub number_at : Width → ℕ → List ℕ → Result ℕ ℕ
number_at w off bytes = do
  field ← field_at (byte_len w) off bytes
  Ok (from_le_bytes w field)

-- one byte that stands for a value
unfoldable pub code_at : {X : Type 0} → (ℕ → Option X) → ℕ → List ℕ → Result X ℕ
code_at meaning off bytes = do
  code ← byte_at off bytes
  ok_or (meaning code) off
