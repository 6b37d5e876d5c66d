-- What the bytes of a record stand for. Its fields are read from left to right, and the first one that is at fault gives
-- the place.
use Rattle.std.specs.Prelude.{ℕ, zero, suc, ◌+◌, ◌-◌, Bool, true, false, not, ◌&&◌, ◌||◌, ◌==◌, nat_le, nat_lt, List, [], ◌∷◌, ◌++◌, length, map, filter, slice_get, slice_index, codes, chars, Option, Some, None, is_none, Result, Ok, Err, ok_or, if◌then◌else◌}
use Rattle.std.specs.Int.{w16, w32, w64}
use Rattle.std.specs.List.{flat_map}
use Rattle.std.specs.Str.{is_utf8, bytes_eq}
use Rattle.std.specs.Ordering.{is_lt}
use Rattle.rc_tree.specs.declared.attr.Attr.{Attr}
use Rattle.rc_tree.specs.declared.attr.Kind.{Kind}
use Rattle.rc_tree.specs.declared.attr.Kind.TheVariants.{File, Dir}
use Rattle.rc_tree.specs.declared.moment.TheConstants.{GREATEST_MOMENT}
use Rattle.rc_tree.specs.Path.{key_cmp, key_of, names_in, path_fault}
use Rattle.rc_class.specs.declared.decision.Act.{Act}
use Rattle.rc_class.specs.declared.decision.Act.TheVariants as acts
use Rattle.rc_class.specs.declared.facts.Facts.{Facts}
use Rattle.rc_class.specs.declared.item.Item.{Item}
use Rattle.rc_class.specs.declared.noted.Noted.{Noted}
use Rattle.rc_class.specs.declared.plan.Plan.{Plan}
use Rattle.rc_class.specs.Units.{is_copy, item_units, range_count, units_of}
use Rattle.rc_record.specs.declared.head.Head.{Head}
use Rattle.rc_record.specs.declared.room.TheConstants.{ITEMS_MAX, SIZE_MAX, UNITS_MAX}
use Rattle.rc_record.specs.Codes.{act_of, after_of, attr_of, class_of, flag_of, kind_of}
use Rattle.rc_record.specs.Fields.{◌>>=◌, byte_at, code_at, field_at, number_at}

-- a gate or mark stands
abbrev pub stands_at : ℕ → Bool
stands_at byte = byte == 0xA5

-- The head: what comes before the job's text

unfoldable pub magic_at : List ℕ → Result (List ℕ) ℕ
magic_at bytes = do
  magic ← field_at 4 1 bytes
  if bytes_eq magic (codes "RCR1") then Ok magic else Err 1

unfoldable pub moment_at : ℕ → List ℕ → Result ℕ ℕ
moment_at off bytes = do
  units ← number_at w64 off bytes
  if nat_le units GREATEST_MOMENT then Ok units else Err off

-- no file has more than one unit yet
unfoldable pub stride_at : List ℕ → Result ℕ ℕ
stride_at bytes = do
  stride ← number_at w32 13 bytes
  if stride == 0 then Ok stride else Err 13

unfoldable pub head_at : List ℕ → Result Head ℕ
head_at bytes = do
  magic ← magic_at bytes
  moment ← moment_at 5 bytes
  stride ← stride_at bytes
  with_bytes ← code_at flag_of 17 bytes
  text_len ← number_at w32 18 bytes
  Ok (record { moment = moment; stride = stride; with_bytes = with_bytes; text_len = text_len })

-- a text of so many bytes
unfoldable pub text_at : ℕ → ℕ → List ℕ → Result (List ℕ) ℕ
text_at len off bytes = do
  text ← field_at len off bytes
  if is_utf8 text then Ok (chars text) else Err off

-- An item

-- a copy is of a file, and what is made or touched is a directory
abbrev pub is_kind_for : Act → Kind → Bool
is_kind_for acts.Copy Dir = false
is_kind_for acts.Make File = false
is_kind_for acts.Touch File = false
is_kind_for act kind = true

unfoldable pub kind_at : Act → ℕ → List ℕ → Result Kind ℕ
kind_at act off bytes = do
  kind ← code_at kind_of off bytes
  if is_kind_for act kind then Ok kind else Err off

-- which items are allowed, by their act and size
abbrev pub Limit : Type 0
Limit = Act → ℕ → Bool

-- any item
abbrev pub no_limit : Limit
no_limit act size = true

-- behind so many units no copy with bytes that is too large, or brings too many more units, and any other item
abbrev pub limit_behind : Bool → ℕ → ℕ → Limit
limit_behind with_bytes stride units act size =
    not (with_bytes && is_copy act) || (nat_le size SIZE_MAX && nat_le (units + range_count stride size) UNITS_MAX)

-- a directory has no size
abbrev pub is_size_for : Kind → ℕ → Bool
is_size_for Dir size = size == 0
is_size_for File size = true

unfoldable pub size_at : Limit → Act → Kind → ℕ → List ℕ → Result ℕ ℕ
size_at limit act kind off bytes = do
  size ← number_at w64 off bytes
  if is_size_for kind size && limit act size then Ok size else Err off

unfoldable pub attr_at : Kind → ℕ → List ℕ → Result Attr ℕ
attr_at kind off bytes = do
  stored ← number_at w32 off bytes
  ok_or (attr_of kind stored) off

-- the kind is the first of the facts
unfoldable pub facts_at : Limit → Act → ℕ → List ℕ → Result Facts ℕ
facts_at limit act off bytes = do
  kind ← kind_at act off bytes
  size ← size_at limit act kind (off + 1) bytes
  written ← moment_at (off + 9) bytes
  attr ← attr_at kind (off + 17) bytes
  Ok (record { kind = kind; size = size; written = written; attr = attr })

-- names of an entry below the root
abbrev pub are_names : List (List ℕ) → Bool
are_names names = is_none (path_fault names) && nat_lt 0 (length names)

-- the names that a text spells
abbrev pub names_of : List ℕ → Option (List (List ℕ))
names_of text = if are_names (names_in text) then Some (names_in text) else None

-- a path, and the offset behind it
unfoldable pub path_at : ℕ → List ℕ → Result (List (List ℕ) × ℕ) ℕ
path_at off bytes = do
  len ← number_at w16 off bytes
  text ← text_at len (off + 2) bytes
  names ← ok_or (names_of text) (off + 2)
  Ok (names, off + 2 + len)

-- an item, and the offset behind it
unfoldable pub item_at : Limit → ℕ → List ℕ → Result (Item × ℕ) ℕ
item_at limit off bytes = do
  act ← code_at act_of off bytes
  class ← code_at class_of (off + 1) bytes
  after ← code_at after_of (off + 2) bytes
  facts ← facts_at limit act (off + 3) bytes
  path ← path_at (off + 24) bytes
  Ok (record { path = path.0; act = act; class = class; after = after; facts = facts }, path.1)

-- Items, each behind those before it

-- how many units items have
abbrev pub units_in : Head → List Item → ℕ
units_in head items = length (flat_map (item_units head.stride head.with_bytes) items)

abbrev pub last_of : List Item → Option Item
last_of items = slice_get items (length items - 1)

abbrev pub is_above : Option Item → Item → Bool
is_above None item = true
is_above (Some last) item = is_lt (key_cmp (key_of last.path) (key_of item.path))

-- the key of an item is above that of the last one before it, if there is one
abbrev pub is_behind : List Item → Item → Bool
is_behind before item = is_above (last_of before) item

-- the item behind others: its key is above theirs
unfoldable pub next_at : Limit → List Item → ℕ → List ℕ → Result (Item × ℕ) ℕ
next_at limit before off bytes = do
  next ← item_at limit off bytes
  if is_behind before next.0 then Ok next else Err (off + 26)

-- so many more items behind others, with those, and the offset behind all
unfoldable pub items_at : Head → ℕ → List Item → ℕ → List ℕ → Result (List Item × ℕ) ℕ
items_at head zero before off bytes = Ok (before, off)
items_at head (suc n) before off bytes = do
  next ← next_at (limit_behind head.with_bytes head.stride (units_in head before)) before off bytes
  items_at head n (before ++ next.0 ∷ []) next.1 bytes

unfoldable pub count_at : ℕ → List ℕ → Result ℕ ℕ
count_at off bytes = do
  count ← number_at w32 off bytes
  if nat_le count ITEMS_MAX then Ok count else Err off

-- a plan, and the offset behind it
unfoldable pub plan_at : List ℕ → Result (Plan × ℕ) ℕ
plan_at bytes = do
  head ← head_at bytes
  job ← text_at head.text_len 22 bytes
  count ← count_at (22 + head.text_len) bytes
  items ← items_at head count [] (26 + head.text_len) bytes
  Ok (record { job = job; moment = head.moment; stride = head.stride; with_bytes = head.with_bytes; items = items.0 }, items.1)

-- Marks: a byte for each unit and for each copied item, and the last gate

abbrev pub unit_marks : Plan → ℕ
unit_marks plan = length (units_of plan)

abbrev pub finish_marks : Plan → ℕ
finish_marks plan = length (filter (λ item. is_copy item.act) plan.items)

-- so many marks
unfoldable pub marks_at : ℕ → ℕ → List ℕ → Result (List Bool) ℕ
marks_at count off bytes = do
  marks ← field_at count off bytes
  Ok (map stands_at marks)

-- the last gate, behind which nothing comes
unfoldable pub last_at : ℕ → List ℕ → Result Bool ℕ
last_at off bytes = do
  gate ← byte_at off bytes
  if length bytes == off + 1 then Ok (stands_at gate) else Err (off + 1)

unfoldable pub noted_at : List ℕ → Result Noted ℕ
noted_at bytes = do
  plan ← plan_at bytes
  units ← marks_at (unit_marks plan.0) plan.1 bytes
  finished ← marks_at (finish_marks plan.0) (plan.1 + unit_marks plan.0) bytes
  last ← last_at (plan.1 + unit_marks plan.0 + finish_marks plan.0) bytes
  Ok (record { plan = plan.0; units = units; finished = finished; last = last })

-- All of the bytes

-- the plan's gate stands, and something comes behind it
abbrev pub is_open : List ℕ → Bool
is_open bytes = nat_lt 1 (length bytes) && stands_at (slice_index bytes 0)

-- a record stands for nothing, for what it notes of a run, or is bad at a place
unfoldable pub stands : List ℕ → Result (Option Noted) ℕ
stands bytes = if is_open bytes then (noted_at bytes >>= λ noted. Ok (Some noted)) else Ok None
