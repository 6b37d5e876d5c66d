-- Bytes that stand at an offset, and what is read there.
use Rattle.std.proofs.Common.{◌≡◌, ℕ, ◌+◌, ◌<◌, ◌≤◌, ◌^◌, true, List, ◌∷◌, ◌++◌, length, take, drop, get_or, Some, Option, Ok, refl, sym, ap, subst, ◌∙◌, append_assoc, arith}
use Rattle.std.specs.Prelude.{encode_utf8_all}
use Rattle.std.specs.Int.{w16, w32, w64, to_le_bytes}
use Rattle.std.specs.Str.{all_scalars}
use Rattle.std.proofs.lemmas.Bool.{le-leb, lt-ltb}
use Rattle.std.proofs.lemmas.List.{length-append}
use Rattle.std.proofs.lemmas.Nat.{from_le_bytes-to_le_bytes_2, from_le_bytes-to_le_bytes_4, from_le_bytes-to_le_bytes_8}
use Rattle.std.proofs.lemmas.Str.{chars-encodes, is_utf8-from_IsUtf8}
use Rattle.std.proofs.Math.Seq.{drop-append_seam, get_or-append_seam, take-append_seam}
use Rattle.rc_record.specs.Fields.{byte_at, code_at, field_at, number_at}
use Rattle.rc_record.specs.Grammar.{text_at}

-- these bytes stand at an offset
pub record HasAt (off : ℕ) (field bytes : List ℕ) : Type 0 where
  pub front : List ℕ
  pub rest : List ℕ
  pub at : length front ≡ off
  pub is : bytes ≡ front ++ (field ++ rest)

pub has_first : {off : ℕ} {bytes : List ℕ} (one two : List ℕ) → HasAt off (one ++ two) bytes → HasAt off one bytes
has_first one two h = record {
  front = h.front;
  rest = two ++ h.rest;
  at = h.at;
  is = h.is ∙ ap (λ (t : List ℕ). h.front ++ t) (append_assoc one two h.rest);
}

pub has_second : {off : ℕ} {bytes : List ℕ} (one two : List ℕ) → HasAt off (one ++ two) bytes → HasAt (off + length one) two bytes
has_second one two h = record {
  front = h.front ++ one;
  rest = h.rest;
  at = length-append h.front one ∙ ap (λ (n : ℕ). n + length one) h.at;
  is = h.is ∙ ap (λ (t : List ℕ). h.front ++ t) (append_assoc one two h.rest) ∙ sym (append_assoc h.front one (two ++ h.rest));
}

pub moved : {from to : ℕ} {field bytes : List ℕ} → from ≡ to → HasAt from field bytes → HasAt to field bytes
moved {field = field} {bytes = bytes} same h = subst (λ off. HasAt off field bytes) same h

pub field_read : (off : ℕ) (field bytes : List ℕ) → HasAt off field bytes → field_at (length field) off bytes ≡ Ok field
unfolding field_at
field_read off field bytes h =
    let fits : off + length field ≤ length bytes = omega (arith, ap length h.is, length-append h.front (field ++ h.rest), length-append field h.rest, h.at) in
    let there : take (length field) (drop off bytes) ≡ field = rw (h.is, sym h.at, drop-append_seam h.front (field ++ h.rest)) (take-append_seam field h.rest) in
    rw (le-leb _ _ fits, there) refl

pub byte_read : (off byte : ℕ) (later bytes : List ℕ) → HasAt off (byte ∷ later) bytes → byte_at off bytes ≡ Ok byte
unfolding byte_at
byte_read off byte later bytes h =
    let within : off < length bytes = omega (arith, ap length h.is, length-append h.front (byte ∷ (later ++ h.rest)), h.at) in
    let there : get_or bytes off 0 ≡ byte = rw (h.is, sym h.at) (get_or-append_seam h.front byte (later ++ h.rest) 0) in
    rw (lt-ltb _ _ within, there) refl

pub code_read : {X : Type 0} (meaning : ℕ → Option X) (off byte : ℕ) (later bytes : List ℕ) (value : X) → meaning byte ≡ Some value → HasAt off (byte ∷ later) bytes → code_at meaning off bytes ≡ Ok value
unfolding code_at
code_read meaning off byte later bytes value means h = rw (byte_read off byte later bytes h, means) refl

pub u16_read : (off n : ℕ) (bytes : List ℕ) → n < 2 ^ 16 → HasAt off (to_le_bytes w16 n) bytes → number_at w16 off bytes ≡ Ok n
unfolding number_at
u16_read off n bytes lt h = rw (field_read off (to_le_bytes w16 n) bytes h) (ap Ok (from_le_bytes-to_le_bytes_2 n lt))

pub u32_read : (off n : ℕ) (bytes : List ℕ) → n < 2 ^ 32 → HasAt off (to_le_bytes w32 n) bytes → number_at w32 off bytes ≡ Ok n
unfolding number_at
u32_read off n bytes lt h = rw (field_read off (to_le_bytes w32 n) bytes h) (ap Ok (from_le_bytes-to_le_bytes_4 n lt))

pub u64_read : (off n : ℕ) (bytes : List ℕ) → n < 2 ^ 64 → HasAt off (to_le_bytes w64 n) bytes → number_at w64 off bytes ≡ Ok n
unfolding number_at
u64_read off n bytes lt h = rw (field_read off (to_le_bytes w64 n) bytes h) (ap Ok (from_le_bytes-to_le_bytes_8 n lt))

pub chars_read : (off : ℕ) (text bytes : List ℕ) → all_scalars text ≡ true → HasAt off (encode_utf8_all text) bytes → text_at (length (encode_utf8_all text)) off bytes ≡ Ok text
unfolding text_at
chars_read off text bytes scalars h =
    rw (field_read off (encode_utf8_all text) bytes h, is_utf8-from_IsUtf8 (encode_utf8_all text) (text, (scalars, refl))) (ap Ok (chars-encodes text scalars))
