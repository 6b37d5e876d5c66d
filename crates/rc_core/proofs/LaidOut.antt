-- What the rows of a state have from its opening: each file its source, and each unit a range of its file, apart from all
-- others.
use Rattle.std.proofs.Common.{◌≡◌, ◌≢◌, ℕ, zero, suc, ◌+◌, ◌<◌, ◌≤◌, Bool, true, false, cond, ◌&&◌, List, [], ◌∷◌, length, get_or, map, refl, sym, ap, subst, ◌∙◌, ◌⊎◌, inl, inr, arith, true≢false}
use Rattle.std.proofs.lemmas.Option.{slice_get-map, slice_get_within, get_or_from_slice_get}
use Rattle.std.proofs.lemmas.Bool.{cases_lt}
use Rattle.std.specs.Prelude.{Option, Some, option_map, filter, slice_get}
use Rattle.std.specs.FinMap.{get, get-from_entries}
use Rattle.rc_tree.specs.Path.{key_of}
use Rattle.rc_tree.proofs.Keys.{key_cmp-total}
use Rattle.rc_class.specs.declared.item.Item.{Item}
use Rattle.rc_class.specs.declared.plan.Plan.{Plan}
use Rattle.rc_class.specs.Units.{AreApart, AreInside, Range, Unit, is_copy, item_units, ranges_of, unit_of}
use Rattle.rc_core.specs.Copies.{copy_at}
use Rattle.rc_core.specs.Follows.{HasFileOf}
use Rattle.rc_core.specs.Nodes.{keyed, node_at, tree_of}
use Rattle.rc_core.specs.Opened.{copied_from, copied_of, extent_of, extents_from, extents_of, files_of}
use Rattle.rc_core.specs.Rows.{file_row, range_of, unit_row}
use Rattle.rc_core.specs.Sound.{IsApart, IsLaidOut}
use Rattle.rc_core.specs.declared.node.Node.{Node}
use Rattle.rc_core.specs.declared.rows.Copied.{Copied}
use Rattle.rc_core.specs.declared.rows.Extent.{Extent}
use Rattle.rc_core.specs.declared.rows.FileRow.{FileRow}
use Rattle.rc_core.specs.declared.rows.UnitRow.{UnitRow}
use Rattle.rc_core.specs.declared.state.State.{State}
use Rattle.rc_core.proofs.Lists.{append_cases, mapped, same_some, some_none, one}

pub node_in : (nodes : List Node) (key : List (List ℕ)) → get (tree_of nodes) key ≡ node_at nodes key
node_in nodes key = get-from_entries key_cmp-total (map keyed nodes) key

-- Files

-- the file of the item that is copied with a number
pub record IsFileAt (source target : List Node) (item : Option Item) (file : Copied) : Type 0 where
  pub item_is : item ≡ Some file.item
  pub source_is : file.source ≡ node_at source (key_of file.item.path)
  pub start_is : file.start ≡ node_at target (key_of file.item.path)

pub copied_at : (source target : List Node) (place : ℕ) (items : List Item) (n : ℕ) (file : Copied) → slice_get (copied_from source target place items) n ≡ Some file → IsFileAt source target (slice_get (filter (λ item. is_copy item.act) items) n) file
copied_at source target place [] n file e = absurd (some_none file e)
copied_at source target place (item ∷ items) n file e = by (λ n e. copied_at source target (place + 1) items n file e) (is_copy item.act) n e
  where
    by : ((n : ℕ) → slice_get (copied_from source target (place + 1) items) n ≡ Some file → IsFileAt source target (slice_get (filter (λ item. is_copy item.act) items) n) file) → (b : Bool) (n : ℕ) → slice_get (cond b (copied_of source target item place ∷ copied_from source target (place + 1) items) (copied_from source target (place + 1) items)) n ≡ Some file → IsFileAt source target (slice_get (cond b (item ∷ filter (λ item. is_copy item.act) items) (filter (λ item. is_copy item.act) items)) n) file
    by later true zero is =
        let same : copied_of source target item place ≡ file = same_some (copied_of source target item place) file is in
        subst (λ (c : Copied). IsFileAt source target (Some item) c) same (record { item_is = refl; source_is = refl; start_is = refl })
    by later true (suc n) is = later n is
    by later false n is = later n is

-- the file of a row
pub file_at : (state : State) → IsLaidOut state → (n : ℕ) (row : FileRow) → file_row state n ≡ Some row → IsFileAt state.source state.target (copy_at state.noted.plan n) row.file
file_at state laid n row is =
    copied_at state.source state.target 0 state.noted.plan.items n row.file
    (sym (laid.files n) ∙ ap (option_map (λ (row : FileRow). row.file)) is)

-- it has its source
pub source_of : (state : State) → IsLaidOut state → (n : ℕ) (row : FileRow) → file_row state n ≡ Some row → HasFileOf row.file.item row.file.source
source_of state laid n row is =
    let file = file_at state laid n row is in
    subst (HasFileOf row.file.item) (node_in state.source (key_of row.file.item.path) ∙ sym file.source_is)
    (laid.is_open.follows.sources n row.file.item file.item_is)

-- Units

-- that ranges lie inside their file and are apart
pub record Fill : Type 0 where
  pub inside : (stride size : ℕ) → AreInside size (ranges_of stride size)
  pub apart : (stride size : ℕ) → AreApart (ranges_of stride size)

-- the range of a file with a number
pub record IsRangeOf (plan : Plan) (item : Item) (n : ℕ) (range : Range) : Type 0 where
  pub along : plan.with_bytes ≡ true
  pub is : slice_get (ranges_of plan.stride item.facts.size) n ≡ Some range

both_first : (a b : Bool) → a && b ≡ true → a ≡ true
both_first true b e = refl
both_first false b e = absurd (true≢false (sym e))

unit_in : (plan : Plan) (item : Item) (j : ℕ) (unit : Unit) → slice_get (item_units plan.stride plan.with_bytes item) j ≡ Some unit → IsRangeOf plan item j unit.range × (unit.item ≡ item)
unit_in plan item j unit e = by (plan.with_bytes && is_copy item.act) refl e
  where
    by : (b : Bool) → plan.with_bytes && is_copy item.act ≡ b → slice_get (cond b (map (unit_of item) (ranges_of plan.stride item.facts.size)) []) j ≡ Some unit → IsRangeOf plan item j unit.range × (unit.item ≡ item)
    by false so none = absurd (some_none unit none)
    by true so found =
        let range = mapped (unit_of item) (slice_get (ranges_of plan.stride item.facts.size) j) unit (sym (slice_get-map (unit_of item) (ranges_of plan.stride item.facts.size) j) ∙ found) in
        (record { along = both_first plan.with_bytes (is_copy item.act) so; is = range.1 ∙ ap Some (ap (λ (u : Unit). u.range) range.2) }, sym (ap (λ (u : Unit). u.item) range.2))

-- an extent of a file, the first of which has this number
pub record IsExtentOf (plan : Plan) (n : ℕ) (files : List Copied) (extent : Extent) : Type 0 where
  pub number : ℕ
  pub file : Copied
  pub range : ℕ
  pub of_file : extent.file ≡ n + number
  pub is_file : slice_get files number ≡ Some file
  pub is_range : IsRangeOf plan file.item range (range_of extent)

block_at : (plan : Plan) (n : ℕ) (item : Item) (j : ℕ) (extent : Extent) → slice_get (map (extent_of n) (item_units plan.stride plan.with_bytes item)) j ≡ Some extent → IsRangeOf plan item j (range_of extent) × (extent.file ≡ n)
block_at plan n item j extent e =
    let unit = mapped (extent_of n) (slice_get (item_units plan.stride plan.with_bytes item) j) extent (sym (slice_get-map (extent_of n) (item_units plan.stride plan.with_bytes item) j) ∙ e) in
    let range = unit_in plan item j unit.0 unit.1 in
    (subst (IsRangeOf plan item j) (ap range_of unit.2) range.0, sym (ap (λ (e : Extent). e.file) unit.2))

pub extent_at : (plan : Plan) (n : ℕ) (files : List Copied) (m : ℕ) (extent : Extent) → slice_get (extents_from plan n files) m ≡ Some extent → IsExtentOf plan n files extent
extent_at plan n [] m extent e = absurd (some_none extent e)
extent_at plan n (file ∷ files) m extent e = elim (append_cases (map (extent_of n) (item_units plan.stride plan.with_bytes file.item)) (extents_from plan (n + 1) files) m extent e) [
  | inl here ↦
      let found = block_at plan n file.item m extent here.1 in
      record { number = 0; file = file; range = m; of_file = omega (arith, found.1); is_file = refl; is_range = found.0 }
  | inr later ↦
      let found = extent_at plan (n + 1) files later.0 extent later.2 in
      record { number = suc found.number; file = found.file; range = found.range; of_file = omega (arith, found.of_file); is_file = found.is_file; is_range = found.is_range }
]

ranges_apart : Fill → (plan : Plan) (item : Item) (i j : ℕ) (one other : Extent) → i < j → IsRangeOf plan item i (range_of one) → IsRangeOf plan item j (range_of other) → one.off + one.len ≤ other.off
ranges_apart fill plan item i j one other less first second =
    let ranges = ranges_of plan.stride item.facts.size in
    let a = get_or_from_slice_get ranges i (range_of one) (range_of one) first.is in
    let b = get_or_from_slice_get ranges j (range_of other) (range_of one) second.is in
    let order = fill.apart plan.stride item.facts.size i j (range_of one) less (slice_get_within ranges j (range_of other) second.is) in
    subst (λ (r : Range). one.off + one.len ≤ r.off) b (subst (λ (r : Range). r.off + r.len ≤ (get_or ranges j (range_of one)).off) a order)

-- the units of the first of some files
abbrev block : Plan → ℕ → Copied → List Extent
block plan n file = map (extent_of n) (item_units plan.stride plan.with_bytes file.item)

-- where one of two lists has an element
abbrev IsIn : List Extent → List Extent → ℕ → Extent → Type 0
IsIn xs ys i extent = ((i < length xs) × (slice_get xs i ≡ Some extent)) ⊎ ((k : ℕ) × (i ≡ length xs + k) × (slice_get ys k ≡ Some extent))

apart_by : Fill → (plan : Plan) (n : ℕ) (file : Copied) (files : List Copied) (i j : ℕ) (one other : Extent) → i < j → one.file ≡ other.file → ((i j : ℕ) → i < j → slice_get (extents_from plan (n + 1) files) i ≡ Some one → slice_get (extents_from plan (n + 1) files) j ≡ Some other → one.off + one.len ≤ other.off) → IsIn (block plan n file) (extents_from plan (n + 1) files) i one → IsIn (block plan n file) (extents_from plan (n + 1) files) j other → one.off + one.len ≤ other.off
apart_by fill plan n file files i j one other less same later (inl a) (inl b) =
    ranges_apart fill plan file.item i j one other less (block_at plan n file.item i one a.1).0 (block_at plan n file.item j other b.1).0
apart_by fill plan n file files i j one other less same later (inl a) (inr b) =
    let here = (block_at plan n file.item i one a.1).1 in
    let there = extent_at plan (n + 1) files b.0 other b.2 in
    absurd (omega (arith, here, there.of_file, same))
apart_by fill plan n file files i j one other less same later (inr a) (inl b) = absurd (omega (arith, a.1, b.0, less))
apart_by fill plan n file files i j one other less same later (inr a) (inr b) = later a.0 b.0 (omega (arith, a.1, b.1, less)) a.2 b.2

-- of two units of one file the earlier one ends before the other begins
pub extents_apart : Fill → (plan : Plan) (n : ℕ) (files : List Copied) (i j : ℕ) (one other : Extent) → i < j → slice_get (extents_from plan n files) i ≡ Some one → slice_get (extents_from plan n files) j ≡ Some other → one.file ≡ other.file → one.off + one.len ≤ other.off
extents_apart fill plan n [] i j one other less p q same = absurd (some_none one p)
extents_apart fill plan n (file ∷ files) i j one other less p q same =
    apart_by fill plan n file files i j one other less same
    (λ i j less p q. extents_apart fill plan (n + 1) files i j one other less p q same)
    (append_cases (block plan n file) (extents_from plan (n + 1) files) i one p)
    (append_cases (block plan n file) (extents_from plan (n + 1) files) j other q)

-- the unit of a row lies in its file
pub record IsInFile (plan : Plan) (extent : Extent) (size : ℕ) : Type 0 where
  pub along : plan.with_bytes ≡ true
  pub within : extent.off + extent.len ≤ size

pub extent_of_row : (state : State) → IsLaidOut state → (m : ℕ) (row : UnitRow) → unit_row state m ≡ Some row → slice_get (extents_of state.noted.plan state.source state.target) m ≡ Some row.extent
extent_of_row state laid m row is = sym (laid.units m) ∙ ap (option_map (λ (row : UnitRow). row.extent)) is

pub in_file : Fill → (state : State) → IsLaidOut state → (m : ℕ) (row : UnitRow) (file : FileRow) → unit_row state m ≡ Some row → file_row state row.extent.file ≡ Some file → IsInFile state.noted.plan row.extent file.file.item.facts.size
in_file fill state laid m row file is of =
    let plan = state.noted.plan in
    let found = extent_at plan 0 (files_of plan state.source state.target) m row.extent (extent_of_row state laid m row is) in
    let at : slice_get (files_of plan state.source state.target) row.extent.file ≡ Some file.file = sym (laid.files row.extent.file) ∙ ap (option_map (λ (row : FileRow). row.file)) of in
    let number : row.extent.file ≡ found.number = omega (arith, found.of_file) in
    let same : found.file ≡ file.file = one (slice_get (files_of plan state.source state.target) found.number) found.file file.file found.is_file (subst (λ k. slice_get (files_of plan state.source state.target) k ≡ Some file.file) number at) in
    let ranges = ranges_of plan.stride found.file.item.facts.size in
    let all = fill.inside plan.stride found.file.item.facts.size found.range (range_of row.extent) (slice_get_within ranges found.range (range_of row.extent) found.is_range.is) in
    let this = get_or_from_slice_get ranges found.range (range_of row.extent) (range_of row.extent) found.is_range.is in
    let within : row.extent.off + row.extent.len ≤ found.file.item.facts.size = subst (λ (r : Range). r.off + r.len ≤ found.file.item.facts.size) this all.1 in
    record { along = found.is_range.along; within = subst (λ (f : Copied). row.extent.off + row.extent.len ≤ f.item.facts.size) same within }

-- two units of one file are apart
pub units_apart : Fill → (state : State) → IsLaidOut state → (m k : ℕ) (row other : UnitRow) → m ≢ k → unit_row state m ≡ Some row → unit_row state k ≡ Some other → row.extent.file ≡ other.extent.file → IsApart row.extent (other.extent.off, other.extent.len)
units_apart fill state laid m k row other apart is also same = elim (cases_lt m k) [
  | inl less ↦ inl (extents_apart fill state.noted.plan 0 (files_of state.noted.plan state.source state.target) m k row.extent other.extent less (extent_of_row state laid m row is) (extent_of_row state laid k other also) same)
  | inr more ↦ inr (extents_apart fill state.noted.plan 0 (files_of state.noted.plan state.source state.target) k m other.extent row.extent (omega (arith, more, apart)) (extent_of_row state laid k other also) (extent_of_row state laid m row is) (sym same))
]
