-- A plan that is spelled is read, and what its marks note.
use Rattle.std.proofs.Common.{◌≡◌, ℕ, ◌+◌, ◌≤◌, Bool, true, false, not, ◌&&◌, ◌||◌, List, [], ◌∷◌, ◌++◌, length, map, Some, Option, Ok, refl, sym, ap, subst, ◌∙◌, append_assoc, arith}
use Rattle.std.specs.Prelude.{T, All, codes, nat_le}
use Rattle.std.specs.FinMap.Entries.{is_sorted, below_all}
use Rattle.std.specs.Int.{w32, w64, to_le_bytes}
use Rattle.std.specs.List.{flat_map}
use Rattle.std.proofs.lemmas.Bool.{le-leb}
use Rattle.std.proofs.lemmas.Grind.{flat_map-append}
use Rattle.std.proofs.lemmas.List.{append-nil, length-append, length-map}
use Rattle.std.proofs.lemmas.List.Concat.{flat_map-cons}
use Rattle.std.proofs.lemmas.List.FromFn.{length-map-range_with_len}
use Rattle.std.proofs.lemmas.List.Elements.{All-head, All-tail}
use Rattle.rc_tree.specs.Path.{key_cmp, key_of}
use Rattle.rc_class.specs.declared.item.Item.{Item}
use Rattle.rc_class.specs.declared.plan.Plan.{Plan}
use Rattle.rc_class.specs.Items.{keyed}
use Rattle.rc_class.specs.Units.{is_copy, item_units, range_count, ranges_of, unit_of}
use Rattle.rc_record.specs.declared.head.Head.{Head}
use Rattle.rc_record.specs.declared.room.TheConstants.{ITEMS_MAX, SIZE_MAX, UNITS_MAX}
use Rattle.rc_record.specs.Codes.{flag_of}
use Rattle.rc_record.specs.Grammar.{count_at, head_at, is_above, is_behind, items_at, limit_behind, magic_at, next_at, plan_at, stride_at, units_in}
use Rattle.rc_record.specs.Spelling.{flag_code, head_bytes, item_bytes, plan_bytes, text_bytes, IsItemTyped, IsTyped, IsAllowed, IsWritten}
use Rattle.rc_record.proofs.Places.{HasAt, chars_read, code_read, field_read, has_first, has_second, moved, u32_read}
use Rattle.rc_record.proofs.Rising.{first_part, is_true, last_of_more, second_part}
use Rattle.rc_record.proofs.SpelledItem.{item_read, moment_read}

-- The head

flag_again : (flag : Bool) → flag_of (flag_code flag) ≡ Some flag
unfolding flag_of
flag_again true = refl
flag_again false = refl

magic_read : (bytes : List ℕ) → HasAt 1 (codes "RCR1") bytes → magic_at bytes ≡ Ok (codes "RCR1")
unfolding magic_at
magic_read bytes h = rw (field_read 1 (codes "RCR1") bytes h) refl

stride_read : (stride : ℕ) (bytes : List ℕ) → stride ≡ 0 → HasAt 13 (to_le_bytes w32 stride) bytes → stride_at bytes ≡ Ok stride
unfolding stride_at
stride_read stride bytes whole h = rw (whole, u32_read 13 0 bytes (omega arith) (subst (λ s. HasAt 13 (to_le_bytes w32 s) bytes) whole h)) refl

abbrev pub head_of : Plan → Head
head_of plan = record { moment = plan.moment; stride = plan.stride; with_bytes = plan.with_bytes; text_len = length (text_bytes plan) }

head_read : (plan : Plan) (bytes : List ℕ) → IsAllowed plan → IsTyped plan → HasAt 1 (head_bytes plan) bytes → head_at bytes ≡ Ok (head_of plan)
unfolding head_at
head_read plan bytes allowed typed h =
    let len : List ℕ = to_le_bytes w32 (length (text_bytes plan)) in
    let at_moment = has_second (codes "RCR1") (to_le_bytes w64 plan.moment ++ (to_le_bytes w32 plan.stride ++ (flag_code plan.with_bytes ∷ len))) h in
    let at_stride = has_second (to_le_bytes w64 plan.moment) (to_le_bytes w32 plan.stride ++ (flag_code plan.with_bytes ∷ len)) at_moment in
    let at_flag = has_second (to_le_bytes w32 plan.stride) (flag_code plan.with_bytes ∷ len) at_stride in
    let at_len = has_second (flag_code plan.with_bytes ∷ []) len at_flag in
    let magic = magic_read bytes (has_first (codes "RCR1") (to_le_bytes w64 plan.moment ++ (to_le_bytes w32 plan.stride ++ (flag_code plan.with_bytes ∷ len))) h) in
    let moment = moment_read 5 plan.moment bytes typed.moment (has_first (to_le_bytes w64 plan.moment) (to_le_bytes w32 plan.stride ++ (flag_code plan.with_bytes ∷ len)) at_moment) in
    let stride = stride_read plan.stride bytes allowed.whole (has_first (to_le_bytes w32 plan.stride) (flag_code plan.with_bytes ∷ len) at_stride) in
    let flag = code_read flag_of 17 (flag_code plan.with_bytes) len bytes plan.with_bytes (flag_again plan.with_bytes) at_flag in
    let text = u32_read 18 (length (text_bytes plan)) bytes (omega (arith, allowed.text)) at_len in
    rw (magic, moment, stride, flag, text) refl

-- Items

-- an item of rising ones is behind those before it
behind_all : (before : List Item) (item : Item) (rest : List Item) → T (is_sorted key_cmp (map keyed (before ++ item ∷ rest))) → is_behind before item ≡ true
behind_all [] item rest sorted = refl
behind_all (x ∷ []) item rest sorted = is_true _ (first_part _ _ (first_part (below_all key_cmp (key_of x.path) (map keyed (item ∷ rest))) _ sorted))
behind_all (x ∷ y ∷ before) item rest sorted =
    ap (λ (last : Option Item). is_above last item) (last_of_more x y before)
    ∙ behind_all (y ∷ before) item rest (second_part (below_all key_cmp (key_of x.path) (map keyed (y ∷ before ++ item ∷ rest))) _ sorted)

-- how many units an item has
pub units_one : (item : Item) (stride : ℕ) → is_copy item.act ≡ true → length (item_units stride true item) ≡ range_count stride item.facts.size
units_one item stride copy = rw copy (length-map (ranges_of stride item.facts.size) (unit_of item) ∙ length-map-range_with_len _ 0 (range_count stride item.facts.size))

within_limit : (with_bytes copy : Bool) (stride units size : ℕ) → (with_bytes ≡ true → copy ≡ true → size ≤ SIZE_MAX) → (with_bytes ≡ true → copy ≡ true → units + range_count stride size ≤ UNITS_MAX)
    → (not (with_bytes && copy) || (nat_le size SIZE_MAX && nat_le (units + range_count stride size) UNITS_MAX)) ≡ true
within_limit true true stride units size small few = rw (le-leb _ _ (small refl refl), le-leb _ _ (few refl refl)) refl
within_limit true false stride units size small few = refl
within_limit false copy stride units size small few = refl

-- the units of items, with those of one more and of all behind it
pub units_more : (head : Head) (before : List Item) (item : Item) (rest : List Item) → units_in head (before ++ item ∷ rest) ≡ units_in head before + (length (item_units head.stride head.with_bytes item) + units_in head rest)
units_more head before item rest =
    let of_item = item_units head.stride head.with_bytes in
    ap length (flat_map-append of_item before (item ∷ rest) ∙ ap (λ us. flat_map of_item before ++ us) (flat_map-cons of_item item rest))
    ∙ length-append (flat_map of_item before) (of_item item ++ flat_map of_item rest)
    ∙ ap (λ (n : ℕ). length (flat_map of_item before) + n) (length-append (of_item item) (flat_map of_item rest))

few_units : (head : Head) (before : List Item) (item : Item) (rest : List Item) → units_in head (before ++ item ∷ rest) ≤ UNITS_MAX → head.with_bytes ≡ true → is_copy item.act ≡ true
    → units_in head before + range_count head.stride item.facts.size ≤ UNITS_MAX
few_units head before item rest few bytes copy =
    let one : length (item_units head.stride head.with_bytes item) ≡ range_count head.stride item.facts.size = ap (λ b. length (item_units head.stride b item)) bytes ∙ units_one item head.stride copy in
    omega (arith, few, units_more head before item rest, one)

-- one item, behind those before
one_read : (head : Head) (before : List Item) (item : Item) (rest : List Item) (off : ℕ) (bytes : List ℕ) → IsItemTyped item → IsWritten head.with_bytes item
    → T (is_sorted key_cmp (map keyed (before ++ item ∷ rest))) → units_in head (before ++ item ∷ rest) ≤ UNITS_MAX → HasAt off (item_bytes item) bytes
    → next_at (limit_behind head.with_bytes head.stride (units_in head before)) before off bytes ≡ Ok (item, off + length (item_bytes item))
unfolding next_at
one_read head before item rest off bytes typed written sorted few h =
    let limit = within_limit head.with_bytes (is_copy item.act) head.stride (units_in head before) item.facts.size written.small (few_units head before item rest few) in
    let read = item_read (limit_behind head.with_bytes head.stride (units_in head before)) item off bytes typed (record { kind = written.kind; size = written.size; limit = limit; below = written.below }) h in
    rw (read, behind_all before item rest sorted) refl

pub all_read : (head : Head) (before items : List Item) (off : ℕ) (bytes : List ℕ) → All IsItemTyped items → All (IsWritten head.with_bytes) items
    → T (is_sorted key_cmp (map keyed (before ++ items))) → units_in head (before ++ items) ≤ UNITS_MAX → HasAt off (flat_map item_bytes items) bytes
    → items_at head (length items) before off bytes ≡ Ok (before ++ items, off + length (flat_map item_bytes items))
unfolding items_at
all_read head before [] off bytes typed written sorted few h =
    let all : before ++ [] ≡ before = append-nil before in
    let end : off + 0 ≡ off = omega arith in
    rw (all, end) refl
all_read head before (item ∷ items) off bytes typed written sorted few h =
    let spelled : flat_map item_bytes (item ∷ items) ≡ item_bytes item ++ flat_map item_bytes items = flat_map-cons item_bytes item items in
    let here = subst (λ field. HasAt off field bytes) spelled h in
    let one = one_read head before item items off bytes (All-head IsItemTyped item items typed) (All-head (IsWritten head.with_bytes) item items written) sorted few (has_first (item_bytes item) (flat_map item_bytes items) here) in
    let regroup : (before ++ item ∷ []) ++ items ≡ before ++ item ∷ items = append_assoc before (item ∷ []) items in
    let later = all_read head (before ++ item ∷ []) items (off + length (item_bytes item)) bytes (All-tail IsItemTyped item items typed) (All-tail (IsWritten head.with_bytes) item items written)
    (subst (λ (all : List Item). T (is_sorted key_cmp (map keyed all))) (sym regroup) sorted)
    (subst (λ (all : List Item). units_in head all ≤ UNITS_MAX) (sym regroup) few)
    (has_second (item_bytes item) (flat_map item_bytes items) here) in
    let end : (off + length (item_bytes item)) + length (flat_map item_bytes items) ≡ off + length (flat_map item_bytes (item ∷ items)) = omega (arith, ap length spelled, length-append (item_bytes item) (flat_map item_bytes items)) in
    rw one (later ∙ ap (λ (read : List Item × ℕ). Ok read) (rw (regroup, end) refl))

-- The plan

count_read : (n off : ℕ) (bytes : List ℕ) → n ≤ ITEMS_MAX → HasAt off (to_le_bytes w32 n) bytes → count_at off bytes ≡ Ok n
unfolding count_at
count_read n off bytes le h = rw (u32_read off n bytes (omega (arith, le)) h, le-leb _ _ le) refl

pub plan_read : (plan : Plan) (bytes : List ℕ) → IsAllowed plan → IsTyped plan → HasAt 1 (plan_bytes plan) bytes → plan_at bytes ≡ Ok (plan, 1 + length (plan_bytes plan))
unfolding plan_at
plan_read plan bytes allowed typed h =
    let text : List ℕ = text_bytes plan in
    let items : List ℕ = flat_map item_bytes plan.items in
    let count : List ℕ = to_le_bytes w32 (length plan.items) in
    let at_text = has_second (head_bytes plan) (text ++ (count ++ items)) h in
    let at_count = has_second text (count ++ items) at_text in
    let at_items = has_second count items at_count in
    let head = head_read plan bytes allowed typed (has_first (head_bytes plan) (text ++ (count ++ items)) h) in
    let job = chars_read 22 plan.job bytes typed.characters (has_first text (count ++ items) at_text) in
    let number = count_read (length plan.items) (22 + length text) bytes allowed.count (has_first count items at_count) in
    let read = all_read (head_of plan) [] plan.items (26 + length text) bytes typed.items allowed.items (subst T (sym allowed.rising) tt) allowed.units (moved (omega arith) at_items) in
    let end : 26 + length text + length items ≡ 1 + length (plan_bytes plan) = omega (arith, length-append (head_bytes plan) (text ++ (count ++ items)), length-append text (count ++ items), length-append count items) in
    rw (head, job, number, read) (ap (λ (n : ℕ). Ok (plan, n)) end)
