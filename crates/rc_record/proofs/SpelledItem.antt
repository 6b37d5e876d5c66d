-- An item that is spelled at an offset is read there.
use Rattle.std.proofs.Common.{◌≡◌, ℕ, ◌+◌, ◌<◌, ◌≤◌, ◌^◌, Bool, true, false, cond, List, [], ◌∷◌, ◌++◌, length, Some, Ok, refl, ap, arith}
use Rattle.std.specs.Prelude.{◌==◌}
use Rattle.std.specs.Int.{w16, w32, w64, to_le_bytes}
use Rattle.std.specs.List.{join_with_byte}
use Rattle.std.proofs.lemmas.Bool.{le-leb, lt-ltb}
use Rattle.std.proofs.lemmas.List.{length-append}
use Rattle.rc_tree.specs.Attr.{attribute_bits, bit, stored_of}
use Rattle.rc_tree.specs.declared.attr.Attr.{Attr}
use Rattle.rc_tree.specs.declared.attr.Kind.{Kind}
use Rattle.rc_tree.specs.declared.attr.Kind.TheVariants.{File, Dir}
use Rattle.rc_tree.specs.declared.moment.TheConstants.{GREATEST_MOMENT}
use Rattle.rc_tree.proofs.Digits.{read_of-stored_of}
use Rattle.rc_class.specs.Codes.{act_code, after_code, class_code}
use Rattle.rc_class.specs.declared.class.Class.{Class}
use Rattle.rc_class.specs.declared.class.Class.TheVariants.{Lonely, Extra as Surplus, Newer, Older, Changed, Tweaked, Same as Equal, Mismatched}
use Rattle.rc_class.specs.declared.decision.Act.{Act}
use Rattle.rc_class.specs.declared.decision.Act.TheVariants.{Copy, Make, Touch, Fix, Purge, Extra, Mismatch, Keep}
use Rattle.rc_class.specs.declared.decision.After.{After}
use Rattle.rc_class.specs.declared.decision.After.TheVariants.{Nothing, RemoveSource, ClearArchive}
use Rattle.rc_class.specs.declared.decision.Reason.TheVariants as reason
use Rattle.rc_class.specs.declared.facts.Facts.{Facts}
use Rattle.rc_class.specs.declared.item.Item.{Item}
use Rattle.rc_record.specs.Codes.{act_of, after_of, attr_of, attr_with, class_of, kind_code, kind_of}
use Rattle.rc_record.specs.Grammar.{attr_at, facts_at, is_kind_for, is_size_for, item_at, kind_at, moment_at, path_at, size_at, Limit}
use Rattle.rc_record.specs.Spelling.{facts_bytes, item_bytes, path_bytes, IsItemTyped, IsPathTyped}
use Rattle.rc_record.proofs.Attributes.{same_number}
use Rattle.rc_record.proofs.Paths.{names_again}
use Rattle.rc_record.proofs.Places.{HasAt, chars_read, code_read, has_first, has_second, moved, u16_read, u32_read, u64_read}

-- Codes

pub act_again : (act : Act) → act_of (act_code act) ≡ Some act
unfolding act_of
act_again Copy = refl
act_again Make = refl
act_again Touch = refl
act_again Fix = refl
act_again Purge = refl
act_again Extra = refl
act_again Mismatch = refl
act_again (Keep reason.NotNamed) = refl
act_again (Keep reason.Excluded) = refl
act_again (Keep reason.Attr) = refl
act_again (Keep reason.Size) = refl
act_again (Keep reason.Age) = refl
act_again (Keep reason.Class) = refl
act_again (Keep reason.Empty) = refl
act_again (Keep reason.Same) = refl

pub class_again : (class : Class) → class_of (class_code class) ≡ Some class
unfolding class_of
class_again Lonely = refl
class_again Surplus = refl
class_again Newer = refl
class_again Older = refl
class_again Changed = refl
class_again Tweaked = refl
class_again Equal = refl
class_again Mismatched = refl

pub after_again : (after : After) → after_of (after_code after) ≡ Some after
unfolding after_of
after_again Nothing = refl
after_again RemoveSource = refl
after_again ClearArchive = refl

pub kind_again : (kind : Kind) → kind_of (kind_code kind) ≡ Some kind
unfolding kind_of
kind_again File = refl
kind_again Dir = refl

pub attr_again : (kind : Kind) (attr : Attr) → attr_of kind (stored_of kind attr) ≡ Some attr
unfolding attr_of
attr_again kind attr =
    let back : attr_with (stored_of kind attr) ≡ attr = read_of-stored_of kind attr in
    rw (back, same_number (stored_of kind attr) (stored_of kind attr) refl) refl

-- Numbers that are small enough

bit_small : (has : Bool) (value : ℕ) → bit has value ≤ value
bit_small true value = omega arith
bit_small false value = omega arith

bits_small : (a : Attr) → attribute_bits a < 0x8000
bits_small a =
    omega (
      arith,
      bit_small a.readonly 0x1,
      bit_small a.hidden 0x2,
      bit_small a.system 0x4,
      bit_small a.archive 0x20,
      bit_small a.temporary 0x100,
      bit_small a.sparse 0x200,
      bit_small a.compressed 0x800,
      bit_small a.offline 0x1000,
      bit_small a.not_indexed 0x2000,
      bit_small a.encrypted 0x4000,
    )

normal_small : (none : Bool) (n : ℕ) → n < 0x8000 → cond none 0x80 n < 2 ^ 32
normal_small true n lt = omega arith
normal_small false n lt = omega (arith, lt)

stored_small : (kind : Kind) (attr : Attr) → stored_of kind attr < 2 ^ 32
stored_small Dir attr = omega (arith, bits_small attr)
stored_small File attr = normal_small (attribute_bits attr == 0) (attribute_bits attr) (bits_small attr)

-- Facts

pub moment_read : (off units : ℕ) (bytes : List ℕ) → units ≤ GREATEST_MOMENT → HasAt off (to_le_bytes w64 units) bytes → moment_at off bytes ≡ Ok units
unfolding moment_at
moment_read off units bytes le h = rw (u64_read off units bytes (omega (arith, le)) h, le-leb _ _ le) refl

kind_read : (act : Act) (kind : Kind) (off : ℕ) (later bytes : List ℕ) → is_kind_for act kind ≡ true → HasAt off (kind_code kind ∷ later) bytes → kind_at act off bytes ≡ Ok kind
unfolding kind_at
kind_read act kind off later bytes fits h = rw (code_read kind_of off (kind_code kind) later bytes kind (kind_again kind) h, fits) refl

size_read : (limit : Limit) (act : Act) (kind : Kind) (off size : ℕ) (bytes : List ℕ) → size < 2 ^ 64 → is_size_for kind size ≡ true → limit act size ≡ true → HasAt off (to_le_bytes w64 size) bytes → size_at limit act kind off bytes ≡ Ok size
unfolding size_at
size_read limit act kind off size bytes lt fits allowed h = rw (u64_read off size bytes lt h, fits, allowed) refl

attr_read : (kind : Kind) (attr : Attr) (off : ℕ) (bytes : List ℕ) → HasAt off (to_le_bytes w32 (stored_of kind attr)) bytes → attr_at kind off bytes ≡ Ok attr
unfolding attr_at
attr_read kind attr off bytes h = rw (u32_read off (stored_of kind attr) bytes (stored_small kind attr) h, attr_again kind attr) refl

-- what the limit and the kinds allow
pub record IsRead (allows : Limit) (item : Item) : Type 0 where
  pub kind : is_kind_for item.act item.facts.kind ≡ true
  pub size : is_size_for item.facts.kind item.facts.size ≡ true
  pub limit : allows item.act item.facts.size ≡ true
  pub below : 0 < length item.path

facts_read : (limit : Limit) (item : Item) (off : ℕ) (later bytes : List ℕ) → IsItemTyped item → IsRead limit item → HasAt off (facts_bytes item.facts ++ later) bytes → facts_at limit item.act off bytes ≡ Ok item.facts
unfolding facts_at
facts_read limit item off later bytes typed read h =
    let facts : Facts = item.facts in
    let all = has_first (facts_bytes facts) later h in
    let behind_kind = has_second (kind_code facts.kind ∷ []) (to_le_bytes w64 facts.size ++ (to_le_bytes w64 facts.written ++ to_le_bytes w32 (stored_of facts.kind facts.attr))) all in
    let behind_size = has_second (to_le_bytes w64 facts.size) (to_le_bytes w64 facts.written ++ to_le_bytes w32 (stored_of facts.kind facts.attr)) behind_kind in
    let behind_written = has_second (to_le_bytes w64 facts.written) (to_le_bytes w32 (stored_of facts.kind facts.attr)) behind_size in
    let kind = kind_read item.act facts.kind off (to_le_bytes w64 facts.size ++ (to_le_bytes w64 facts.written ++ to_le_bytes w32 (stored_of facts.kind facts.attr))) bytes read.kind all in
    let size = size_read limit item.act facts.kind (off + 1) facts.size bytes typed.size read.size read.limit (has_first (to_le_bytes w64 facts.size) (to_le_bytes w64 facts.written ++ to_le_bytes w32 (stored_of facts.kind facts.attr)) behind_kind) in
    let written = moment_read (off + 9) facts.written bytes typed.written (moved (omega arith) (has_first (to_le_bytes w64 facts.written) (to_le_bytes w32 (stored_of facts.kind facts.attr)) behind_size)) in
    let attr = attr_read facts.kind facts.attr (off + 17) bytes (moved (omega arith) behind_written) in
    rw (kind, size, written, attr) refl

-- A path

path_read : (path : List (List ℕ)) (off : ℕ) (bytes : List ℕ) → IsPathTyped path → 0 < length path → HasAt off (to_le_bytes w16 (length (path_bytes path)) ++ path_bytes path) bytes
    → path_at off bytes ≡ Ok (path, off + 2 + length (path_bytes path))
unfolding path_at
path_read path off bytes typed below h =
    let len = u16_read off (length (path_bytes path)) bytes typed.len (has_first (to_le_bytes w16 (length (path_bytes path))) (path_bytes path) h) in
    let text = chars_read (off + 2) (join_with_byte 92 path) bytes typed.characters (has_second (to_le_bytes w16 (length (path_bytes path))) (path_bytes path) h) in
    let back = names_again path typed.named below in
    rw (len, text, back, typed.named, lt-ltb 0 (length path) below) refl

-- An item

pub item_read : (limit : Limit) (item : Item) (off : ℕ) (bytes : List ℕ) → IsItemTyped item → IsRead limit item → HasAt off (item_bytes item) bytes
    → item_at limit off bytes ≡ Ok (item, off + length (item_bytes item))
unfolding item_at
item_read limit item off bytes typed read h =
    let path_field : List ℕ = to_le_bytes w16 (length (path_bytes item.path)) ++ path_bytes item.path in
    let rest : List ℕ = facts_bytes item.facts ++ path_field in
    let at_class = has_second (act_code item.act ∷ []) (class_code item.class ∷ (after_code item.after ∷ rest)) h in
    let at_after = has_second (class_code item.class ∷ []) (after_code item.after ∷ rest) at_class in
    let at_facts = has_second (after_code item.after ∷ []) rest at_after in
    let at_path = has_second (facts_bytes item.facts) path_field at_facts in
    let act = code_read act_of off (act_code item.act) (class_code item.class ∷ (after_code item.after ∷ rest)) bytes item.act (act_again item.act) h in
    let class = code_read class_of (off + 1) (class_code item.class) (after_code item.after ∷ rest) bytes item.class (class_again item.class) at_class in
    let after = code_read after_of (off + 2) (after_code item.after) rest bytes item.after (after_again item.after) (moved (omega arith) at_after) in
    let facts = facts_read limit item (off + 3) path_field bytes typed read (moved (omega arith) at_facts) in
    let path = path_read item.path (off + 24) bytes typed.path read.below (moved (omega arith) at_path) in
    let end : off + 24 + 2 + length (path_bytes item.path) ≡ off + length (item_bytes item) = omega (arith, length-append (to_le_bytes w16 (length (path_bytes item.path))) (path_bytes item.path), length-append (facts_bytes item.facts) path_field) in
    rw (act, class, after, facts, path) (ap (λ (n : ℕ). Ok (item, n)) end)
