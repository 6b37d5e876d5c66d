-- The one spelling of a plan, and the record of a plan under a gate with marks behind it.
use Rattle.std.specs.Prelude.{◌≡◌, ℕ, ◌+◌, ◌≤◌, ◌<◌, ◌^◌, Bool, true, List, ◌∷◌, ◌++◌, None, length, map, take, drop, replicate, codes, encode_utf8_all, slice_index, All, if◌then◌else◌}
use Rattle.std.specs.Int.{w16, w32, w64, to_le_bytes}
use Rattle.std.specs.List.{flat_map, join_with_byte}
use Rattle.std.specs.Str.{all_scalars}
use Rattle.rc_tree.specs.Attr.{stored_of}
use Rattle.rc_tree.specs.Path.{path_fault}
use Rattle.rc_tree.specs.declared.moment.TheConstants.{GREATEST_MOMENT}
use Rattle.rc_class.specs.Codes.{act_code, after_code, class_code}
use Rattle.rc_class.specs.Items.{are_rising}
use Rattle.rc_class.specs.Units.{is_copy}
use Rattle.rc_class.specs.declared.facts.Facts.{Facts}
use Rattle.rc_class.specs.declared.item.Item.{Item}
use Rattle.rc_class.specs.declared.noted.Noted.{Noted}
use Rattle.rc_class.specs.declared.plan.Plan.{Plan}
use Rattle.rc_record.specs.declared.room.TheConstants.{ITEMS_MAX, SIZE_MAX, TEXT_MAX, UNITS_MAX}
use Rattle.rc_record.specs.Codes.{kind_code}
use Rattle.rc_record.specs.Grammar.{finish_marks, is_kind_for, is_size_for, stands_at, unit_marks}

-- A plan

abbrev pub flag_code : Bool → ℕ
flag_code flag = if flag then 1 else 0

-- the names of a path with `\` between them
abbrev pub path_bytes : List (List ℕ) → List ℕ
path_bytes path = encode_utf8_all (join_with_byte 92 path)

abbrev pub facts_bytes : Facts → List ℕ
facts_bytes facts =
    kind_code facts.kind
    ∷ (to_le_bytes w64 facts.size ++ (to_le_bytes w64 facts.written ++ to_le_bytes w32 (stored_of facts.kind facts.attr)))

abbrev pub item_bytes : Item → List ℕ
item_bytes item =
    act_code item.act ∷ (class_code item.class ∷ (after_code item.after
    ∷ (facts_bytes item.facts ++ (to_le_bytes w16 (length (path_bytes item.path)) ++ path_bytes item.path))))

abbrev pub text_bytes : Plan → List ℕ
text_bytes plan = encode_utf8_all plan.job

abbrev pub head_bytes : Plan → List ℕ
head_bytes plan =
    codes "RCR1" ++ (to_le_bytes w64 plan.moment ++ (to_le_bytes w32 plan.stride ++ (flag_code plan.with_bytes
    ∷ to_le_bytes w32 (length (text_bytes plan)))))

-- all between the plan's gate and the marks
abbrev pub plan_bytes : Plan → List ℕ
plan_bytes plan =
    head_bytes plan ++ (text_bytes plan ++ (to_le_bytes w32 (length plan.items) ++ flat_map item_bytes plan.items))

-- Marks

-- one for each unit, one for each copied item, and the last gate
abbrev pub mark_count : Plan → ℕ
mark_count plan = unit_marks plan + finish_marks plan + 1

-- no mark stands
abbrev pub no_marks : Plan → List ℕ
no_marks plan = replicate (mark_count plan) 0

-- the record of a plan under a gate, with these marks
abbrev pub record_of : ℕ → Plan → List ℕ → List ℕ
record_of gate plan marks = gate ∷ (plan_bytes plan ++ marks)

-- as it is begun, and as it is opened
abbrev pub closed_record : Plan → List ℕ
closed_record plan = record_of 0 plan (no_marks plan)

abbrev pub open_record : Plan → List ℕ
open_record plan = record_of 0xA5 plan (no_marks plan)

-- what is noted by these marks
abbrev pub noted_by : Plan → List ℕ → Noted
noted_by plan marks = record {
  plan = plan;
  units = map stands_at (take (unit_marks plan) marks);
  finished = map stands_at (take (finish_marks plan) (drop (unit_marks plan) marks));
  last = stands_at (slice_index marks (unit_marks plan + finish_marks plan));
}

-- Which plans can be written

-- an item that the grammar allows, where copies have bytes or not
pub record IsWritten (with_bytes : Bool) (item : Item) : Type 0 where
  pub kind : is_kind_for item.act item.facts.kind ≡ true
  pub size : is_size_for item.facts.kind item.facts.size ≡ true
  pub small : with_bytes ≡ true → is_copy item.act ≡ true → item.facts.size ≤ SIZE_MAX
  pub below : 0 < length item.path

-- a plan that the grammar allows
pub record IsAllowed (plan : Plan) : Type 0 where
  pub whole : plan.stride ≡ 0
  pub text : length (text_bytes plan) < 2 ^ 32
  pub count : length plan.items ≤ ITEMS_MAX
  pub items : All (IsWritten plan.with_bytes) plan.items
  pub rising : are_rising plan.items ≡ true
  pub units : unit_marks plan ≤ UNITS_MAX

-- and that is written: its text is within the limit
pub record IsWritable (plan : Plan) : Type 0 where
  pub allowed : IsAllowed plan
  pub text : length (text_bytes plan) ≤ TEXT_MAX

-- What types say of the values of a plan

pub record IsPathTyped (path : List (List ℕ)) : Type 0 where
  pub named : path_fault path ≡ None
  pub characters : all_scalars (join_with_byte 92 path) ≡ true
  pub len : length (path_bytes path) < 2 ^ 16

pub record IsItemTyped (item : Item) : Type 0 where
  pub size : item.facts.size < 2 ^ 64
  pub written : item.facts.written ≤ GREATEST_MOMENT
  pub path : IsPathTyped item.path

pub record IsTyped (plan : Plan) : Type 0 where
  pub moment : plan.moment ≤ GREATEST_MOMENT
  pub characters : all_scalars plan.job ≡ true
  pub items : All IsItemTyped plan.items
