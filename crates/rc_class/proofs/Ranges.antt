-- That the ranges of a file lie inside it, are apart, and cover it.
use Rattle.std.proofs.Common.{◌≡◌, ℕ, suc, ◌+◌, ◌*◌, ◌/◌, ◌<◌, ◌≤◌, ◌==◌, Bool, true, false, cond, ◌&&◌, [], get_or, length, map, min, sym, ap, subst, ◌∙◌, inl, inr, arith}
use Rattle.std.proofs.lemmas.Bool.{cases_lt}
use Rattle.std.proofs.lemmas.Grind.{div_ceil_times}
use Rattle.std.proofs.lemmas.List.FromFn.{get_or-map-range_with_len, length-map-range_with_len}
use Rattle.std.proofs.lemmas.List.{length-map}
use Rattle.std.proofs.Math.Nat.{mul-le-mul_right, lt-div-mul-add, div-mul-le_self}
use Rattle.std.specs.Int.{div_ceil}
use Rattle.rc_class.specs.declared.item.Item.{Item}
use Rattle.rc_class.specs.Units.{Range, unit_of, is_copy, item_units, range_count, range_len, range_at, ranges_of, AreInside, AreApart, Cover}

length-ranges : (stride size : ℕ) → length (ranges_of stride size) ≡ range_count stride size
length-ranges stride size = length-map-range_with_len (range_at stride size) 0 (range_count stride size)

range_of : (stride size n : ℕ) (d : Range) → n < range_count stride size → get_or (ranges_of stride size) n d ≡ range_at stride size n
range_of stride size n d below = get_or-map-range_with_len (range_at stride size) 0 (range_count stride size) n n d below (omega arith)

nonzero : (n : ℕ) → 0 < n → (n == 0) ≡ false
nonzero n some = grind arith

count_of_strides : (stride size : ℕ) → 0 < stride → range_count stride size ≡ div_ceil size stride
count_of_strides stride size some = ap (λ b. cond b (min 1 size) (div_ceil size stride)) (nonzero stride some)

length_of_strides : (stride size : ℕ) → 0 < stride → range_len stride size ≡ stride
length_of_strides stride size some = ap (λ b. cond b size stride) (nonzero stride some)

-- a range begins inside the file
begins : (stride size n : ℕ) → n < range_count stride size → n * range_len stride size < size
begins stride size n below = elim (cases_lt 0 stride) [
  | inl some ↦
      let times = div_ceil_times size stride some in
      let fits : n < div_ceil size stride = subst (λ m. n < m) (count_of_strides stride size some) below in
      let next = mul-le-mul_right {m = n + 1} {n = div_ceil size stride} stride (omega (arith, fits)) in
      subst (λ m. n * m < size) (sym (length_of_strides stride size some)) (omega (arith, times.1, next))
  | inr none ↦
      let zero_stride : stride ≡ 0 = omega (arith, none) in
      subst (λ m. n * range_len m size < size) (sym zero_stride) (one_range size n (subst (λ m. n < range_count m size) zero_stride below))
]
  where
    one_range : (size n : ℕ) → n < min 1 size → n * size < size
    one_range size n below = let first : n ≡ 0 = omega (arith, below) in subst (λ m. m * size < size) (sym first) (omega (arith, below))

-- the last range ends at the file's end or behind it
ends : (stride size : ℕ) → size ≤ range_count stride size * range_len stride size
ends stride size = elim (cases_lt 0 stride) [
  | inl some ↦ subst (λ m. size ≤ m * range_len stride size) (sym (count_of_strides stride size some)) (subst (λ m. size ≤ div_ceil size stride * m) (sym (length_of_strides stride size some)) (div_ceil_times size stride some).0)
  | inr none ↦ let zero_stride : stride ≡ 0 = omega (arith, none) in subst (λ m. size ≤ range_count m size * range_len m size) (sym zero_stride) (one_range size)
]
  where
    one_range : (size : ℕ) → size ≤ min 1 size * size
    one_range size = elim (cases_lt 0 size) [
      | inl some ↦ let one : min 1 size ≡ 1 = omega (arith, some) in subst (λ m. size ≤ m * size) (sym one) (omega arith)
      | inr none ↦ omega (arith, none)
    ]

some_length : (stride size : ℕ) → 0 < size → 0 < range_len stride size
some_length stride size some = elim (cases_lt 0 stride) [
  | inl strides ↦ subst (λ m. 0 < m) (sym (length_of_strides stride size strides)) strides
  | inr none ↦ let zero_stride : stride ≡ 0 = omega (arith, none) in subst (λ m. 0 < range_len m size) (sym zero_stride) some
]

inside_at : (stride size n : ℕ) → n < range_count stride size → (0 < (range_at stride size n).len) × ((range_at stride size n).off + (range_at stride size n).len ≤ size)
inside_at stride size n below =
    let begun = begins stride size n below in
    let some = some_length stride size (omega (arith, begun)) in
    (omega (arith, begun, some), omega (arith, begun))

pub inside : (stride size : ℕ) → AreInside size (ranges_of stride size)
inside stride size n d below =
    let here : n < range_count stride size = subst (λ m. n < m) (length-ranges stride size) below in
    subst (λ (range : Range). (0 < range.len) × (range.off + range.len ≤ size)) (sym (range_of stride size n d here)) (inside_at stride size n here)

apart_at : (stride size i j : ℕ) → i < j → (range_at stride size i).off + (range_at stride size i).len ≤ (range_at stride size j).off
apart_at stride size i j less =
    let next = mul-le-mul_right {m = suc i} {n = j} (range_len stride size) less in
    omega (arith, next)

cover_at : (stride size place : ℕ) → place < size → (n : ℕ) × (n < range_count stride size) × ((range_at stride size n).off ≤ place) × (place < (range_at stride size n).off + (range_at stride size n).len)
cover_at stride size place within =
    let len = range_len stride size in
    let some : 0 < len = some_length stride size (omega (arith, within)) in
    let n = place / len in
    let from : n * len ≤ place = div-mul-le_self place len in
    let to : place < n * len + len = lt-div-mul-add {a = place} {b = len} some in
    let few : n < range_count stride size = elim (cases_lt n (range_count stride size)) [
      | inl less ↦ less
      | inr more ↦ absurd (let past = mul-le-mul_right {m = range_count stride size} {n = n} len more in omega (arith, past, ends stride size, from, within))
    ] in
    (n, few, from, omega (arith, from, to, within))

pub cover : (stride size : ℕ) → Cover size (ranges_of stride size)
cover stride size place within =
    let found = cover_at stride size place within in
    let same = range_of stride size found.0 (range_at stride size found.0) found.1 in
    (range_at stride size found.0, (found.0, subst (λ m. found.0 < m) (sym (length-ranges stride size)) found.1, same), found.2, found.3)

pub apart : (stride size : ℕ) → AreApart (ranges_of stride size)
apart stride size i j d less below =
    let later : j < range_count stride size = subst (λ m. j < m) (length-ranges stride size) below in
    let sooner : i < range_count stride size = omega (arith, less, later) in
    subst (λ (range : Range). range.off + range.len ≤ (get_or (ranges_of stride size) j d).off) (sym (range_of stride size i d sooner))
    (subst (λ (range : Range). (range_at stride size i).off + (range_at stride size i).len ≤ range.off) (sym (range_of stride size j d later)) (apart_at stride size i j less))

both : (a b : Bool) → a ≡ true → b ≡ true → a && b ≡ true
both a b first second = ap (λ x. x && b) first ∙ second

-- how many units a copied item has
pub counted : (stride : ℕ) (with_bytes : Bool) (item : Item) → with_bytes ≡ true → is_copy item.act ≡ true → length (item_units stride with_bytes item) ≡ range_count stride item.facts.size
counted stride with_bytes item bytes copied =
    ap (λ b. length (cond b (map (unit_of item) (ranges_of stride item.facts.size)) [])) (both with_bytes (is_copy item.act) bytes copied)
    ∙ length-map (ranges_of stride item.facts.size) (unit_of item)
    ∙ length-ranges stride item.facts.size
