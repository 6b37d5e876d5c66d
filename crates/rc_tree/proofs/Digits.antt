-- The attributes as the binary digits of what is stored.
use Rattle.std.proofs.Common.{◌≡◌, ℕ, ◌+◌, ◌*◌, ◌<◌, ◌^◌, Bool, true, false, nat_eq, bit_and, refl, inl, inr, arith, pow_pos}
use Rattle.std.specs.Prelude.{not, if◌then◌else◌, ◌==◌}
use Rattle.std.specs.Int.{bit_at}
use Rattle.std.proofs.lemmas.Nat.Bits.{and_pow}
use Rattle.std.proofs.lemmas.Bool.{cases_eq}
use Rattle.std.proofs.lemmas.Bool.Decides.{nat_tests}
use Rattle.rc_tree.specs.declared.attr.Attr.{Attr}
use Rattle.rc_tree.specs.declared.attr.Kind.{Kind}
use Rattle.rc_tree.specs.declared.attr.Kind.TheVariants.{File, Dir}
use Rattle.rc_tree.specs.Attr.{bit, attribute_bits, stored_of}
use mir.Val.{bool_byte}

-- a digit is below 2
pub bool_byte-lt : (b : Bool) → bool_byte b < 2
bool_byte-lt true = omega arith
bool_byte-lt false = omega arith

-- a digit times a weight is the weight or 0
pub bool_byte-* : (b : Bool) (w : ℕ) → bool_byte b * w ≡ bit b w
bool_byte-* true w = omega arith
bool_byte-* false w = omega arith

-- the sum of an attribute's bits by its digits
pub attribute_bits-digits : (a : Attr) → attribute_bits a ≡ bool_byte a.readonly + bool_byte a.hidden * 0x2 + bool_byte a.system * 0x4 + bool_byte a.archive * 0x20 + bool_byte a.temporary * 0x100 + bool_byte a.sparse * 0x200 + bool_byte a.compressed * 0x800 + bool_byte a.offline * 0x1000 + bool_byte a.not_indexed * 0x2000 + bool_byte a.encrypted * 0x4000
attribute_bits-digits a = simp (← bool_byte-*) (omega arith)

-- a number that is written in binary: ten attributes and the two bits of a kind
pub record Digits (n d0 d1 d2 dir d5 normal d8 d9 d11 d12 d13 d14 : ℕ) : Type 0 where
  pub sum : n ≡ d0 + d1 * 0x2 + d2 * 0x4 + dir * 0x10 + d5 * 0x20 + normal * 0x80 + d8 * 0x100 + d9 * 0x200 + d11 * 0x800 + d12 * 0x1000 + d13 * 0x2000 + d14 * 0x4000
  pub b0 : d0 < 2
  pub b1 : d1 < 2
  pub b2 : d2 < 2
  pub b4 : dir < 2
  pub b5 : d5 < 2
  pub b7 : normal < 2
  pub b8 : d8 < 2
  pub b9 : d9 < 2
  pub b11 : d11 < 2
  pub b12 : d12 < 2
  pub b13 : d13 < 2
  pub b14 : d14 < 2

-- each place of such a number holds its digit
digit0 : {n d0 d1 d2 dir d5 normal d8 d9 d11 d12 d13 d14 : ℕ} → Digits n d0 d1 d2 dir d5 normal d8 d9 d11 d12 d13 d14 → bit_at n 0 ≡ d0
digit0 h = omega arith

digit1 : {n d0 d1 d2 dir d5 normal d8 d9 d11 d12 d13 d14 : ℕ} → Digits n d0 d1 d2 dir d5 normal d8 d9 d11 d12 d13 d14 → bit_at n 1 ≡ d1
digit1 h = omega arith

digit2 : {n d0 d1 d2 dir d5 normal d8 d9 d11 d12 d13 d14 : ℕ} → Digits n d0 d1 d2 dir d5 normal d8 d9 d11 d12 d13 d14 → bit_at n 2 ≡ d2
digit2 h = omega arith

digit5 : {n d0 d1 d2 dir d5 normal d8 d9 d11 d12 d13 d14 : ℕ} → Digits n d0 d1 d2 dir d5 normal d8 d9 d11 d12 d13 d14 → bit_at n 5 ≡ d5
digit5 h = omega arith

digit8 : {n d0 d1 d2 dir d5 normal d8 d9 d11 d12 d13 d14 : ℕ} → Digits n d0 d1 d2 dir d5 normal d8 d9 d11 d12 d13 d14 → bit_at n 8 ≡ d8
digit8 h = omega arith

digit9 : {n d0 d1 d2 dir d5 normal d8 d9 d11 d12 d13 d14 : ℕ} → Digits n d0 d1 d2 dir d5 normal d8 d9 d11 d12 d13 d14 → bit_at n 9 ≡ d9
digit9 h = omega arith

digit11 : {n d0 d1 d2 dir d5 normal d8 d9 d11 d12 d13 d14 : ℕ} → Digits n d0 d1 d2 dir d5 normal d8 d9 d11 d12 d13 d14 → bit_at n 11 ≡ d11
digit11 h = omega arith

digit12 : {n d0 d1 d2 dir d5 normal d8 d9 d11 d12 d13 d14 : ℕ} → Digits n d0 d1 d2 dir d5 normal d8 d9 d11 d12 d13 d14 → bit_at n 12 ≡ d12
digit12 h = omega arith

digit13 : {n d0 d1 d2 dir d5 normal d8 d9 d11 d12 d13 d14 : ℕ} → Digits n d0 d1 d2 dir d5 normal d8 d9 d11 d12 d13 d14 → bit_at n 13 ≡ d13
digit13 h = omega arith

digit14 : {n d0 d1 d2 dir d5 normal d8 d9 d11 d12 d13 d14 : ℕ} → Digits n d0 d1 d2 dir d5 normal d8 d9 d11 d12 d13 d14 → bit_at n 14 ≡ d14
digit14 h = omega arith

-- a bit is set where its digit is 1
bit-set : (n k : ℕ) (b : Bool) → bit_at n k ≡ bool_byte b → not (nat_eq (bit_and n (2 ^ k)) 0) ≡ b
bit-set n k true h = grind (arith, nat_tests, and_pow n k, pow_pos k)
bit-set n k false h = grind (arith, nat_tests, and_pow n k)

-- the attribute whose bits are those of n
abbrev pub read_of : ℕ → Attr
read_of n = record {
  readonly = not (nat_eq (bit_and n 0x1) 0);
  hidden = not (nat_eq (bit_and n 0x2) 0);
  system = not (nat_eq (bit_and n 0x4) 0);
  archive = not (nat_eq (bit_and n 0x20) 0);
  temporary = not (nat_eq (bit_and n 0x100) 0);
  sparse = not (nat_eq (bit_and n 0x200) 0);
  compressed = not (nat_eq (bit_and n 0x800) 0);
  offline = not (nat_eq (bit_and n 0x1000) 0);
  not_indexed = not (nat_eq (bit_and n 0x2000) 0);
  encrypted = not (nat_eq (bit_and n 0x4000) 0);
}

-- the attribute is read back from the digits
read_of-digits : (n dir normal : ℕ) (a : Attr) → Digits n (bool_byte a.readonly) (bool_byte a.hidden) (bool_byte a.system) dir (bool_byte a.archive) normal (bool_byte a.temporary) (bool_byte a.sparse) (bool_byte a.compressed) (bool_byte a.offline) (bool_byte a.not_indexed) (bool_byte a.encrypted) → read_of n ≡ a
read_of-digits n dir normal a h =
    let e0 = bit-set n 0 a.readonly (digit0 h) in
    let e1 = bit-set n 1 a.hidden (digit1 h) in
    let e2 = bit-set n 2 a.system (digit2 h) in
    let e5 = bit-set n 5 a.archive (digit5 h) in
    let e8 = bit-set n 8 a.temporary (digit8 h) in
    let e9 = bit-set n 9 a.sparse (digit9 h) in
    let e11 = bit-set n 11 a.compressed (digit11 h) in
    let e12 = bit-set n 12 a.offline (digit12 h) in
    let e13 = bit-set n 13 a.not_indexed (digit13 h) in
    let e14 = bit-set n 14 a.encrypted (digit14 h) in
    rw (e0, e1, e2, e5, e8, e9, e11, e12, e13, e14) refl

-- and from its bits with DIRECTORY or NORMAL beside them
stored-digits : (n dir normal : ℕ) (a : Attr) → n ≡ attribute_bits a + dir * 0x10 + normal * 0x80 → dir < 2 → normal < 2 → read_of n ≡ a
stored-digits n dir normal a e lt_dir lt_normal = read_of-digits n dir normal a record {
  sum = omega (arith, attribute_bits-digits a);
  b0 = bool_byte-lt _;
  b1 = bool_byte-lt _;
  b2 = bool_byte-lt _;
  b4 = lt_dir;
  b5 = bool_byte-lt _;
  b7 = lt_normal;
  b8 = bool_byte-lt _;
  b9 = bool_byte-lt _;
  b11 = bool_byte-lt _;
  b12 = bool_byte-lt _;
  b13 = bool_byte-lt _;
  b14 = bool_byte-lt _;
}

-- the stored form of a file without any bit, and of one with some
file-none : (n : ℕ) → n ≡ 0 → (if n == 0 then 0x80 else n) ≡ n + 0 * 0x10 + 1 * 0x80
file-none n h = grind (arith, nat_tests)

file-some : (n : ℕ) → (n ≡ 0 → ⊥) → (if n == 0 then 0x80 else n) ≡ n + 0 * 0x10 + 0 * 0x80
file-some n h = grind (arith, nat_tests)

-- what is stored for an attribute is read back
pub read_of-stored_of : (kind : Kind) (a : Attr) → read_of (stored_of kind a) ≡ a
read_of-stored_of Dir a = stored-digits _ 1 0 a (omega arith) (omega arith) (omega arith)
read_of-stored_of File a =
    elim (cases_eq (attribute_bits a) 0) [
      | inl none ↦ stored-digits _ 0 1 a (file-none (attribute_bits a) none) (omega arith) (omega arith)
      | inr some ↦ stored-digits _ 0 0 a (file-some (attribute_bits a) some) (omega arith) (omega arith)
    ]
