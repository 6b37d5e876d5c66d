-- That what a stop may leave of a sound state follows the opening.
use Rattle.std.proofs.Common.{◌≡◌, ℕ, zero, suc, ◌+◌, ◌<◌, ◌≤◌, Bool, true, false, cond, List, [], ◌∷◌, ◌++◌, get_or, length, map, refl, sym, ap, subst, ◌∙◌, ◌⊎◌, inl, inr, arith, true≢false, length-append}
use Rattle.std.proofs.lemmas.Bool.{cases_lt}
use Rattle.std.proofs.lemmas.List.{length-map}
use Rattle.std.proofs.lemmas.Option.{slice_get-get_or, slice_get_within, slice_get_past}
use Rattle.std.specs.Prelude.{Option, Some, None, filter, slice_get, All, Contains}
use Rattle.std.specs.List.{flat_map}
use Rattle.std.specs.FinMap.{get}
use Rattle.rc_tree.specs.Path.{key_of}
use Rattle.rc_tree.specs.Tree as rc
use Rattle.rc_class.specs.declared.decision.Act.{Act}
use Rattle.rc_class.specs.declared.decision.Act.TheVariants as act
use Rattle.rc_class.specs.declared.item.Item.{Item}
use Rattle.rc_class.specs.declared.plan.Plan.{Plan}
use Rattle.rc_class.specs.declared.rules.Rules.{Rules}
use Rattle.rc_class.specs.Class.{is_lonely}
use Rattle.rc_class.specs.Items.{item_at}
use Rattle.rc_class.specs.Sides.{Acts}
use Rattle.rc_class.specs.Units.{Range, Unit, is_copy, item_units, units_of}
use Rattle.rc_core.specs.Copies.{HasBytes, Holds, IsMarked, IsOnWay, IsUnderway, copies_of, copy_at, copy_goal, unit_at}
use Rattle.rc_core.specs.Follows.{AreKept, Follows}
use Rattle.rc_core.specs.Images.{IsMarkOf, MayStop, image_of}
use Rattle.rc_core.specs.Nodes.{node_at, tree_of}
use Rattle.rc_core.specs.Opened.{copied_from, copied_of, extent_of, extents_from, extents_of, files_of, opening_of}
use Rattle.rc_core.specs.Rows.{all_had, end_of, file_row, is_done, is_finished, is_marked, is_settled, may_be_marked, range_of, unit_row}
use Rattle.rc_core.specs.Sound.{IsApart, Sound}
use Rattle.rc_core.specs.Stops.{MayBeByte, MayBeLeft, MayBeNode}
use Rattle.rc_core.specs.declared.node.Node.{Node}
use Rattle.rc_core.specs.declared.rows.Copied.{Copied}
use Rattle.rc_core.specs.declared.rows.Extent.{Extent}
use Rattle.rc_core.specs.declared.rows.FileRow.{FileRow}
use Rattle.rc_core.specs.declared.rows.UnitRow.{UnitRow}
use Rattle.rc_core.specs.declared.rows.UnitState.{UnitState}
use Rattle.rc_core.specs.declared.rows.UnitState.TheVariants as unit
use Rattle.rc_core.specs.declared.state.State.{State}
use Rattle.rc_core.proofs.Beginnings.{IsUnitAt, no_units, unit_of_extent}
use Rattle.rc_core.proofs.LaidOut.{extent_of_row, file_at, node_in}
use Rattle.rc_core.proofs.Lists.{mapped, one, same_some, some_none}
use Rattle.rc_core.proofs.RisingItems.{one_number, own_found}

-- Lists

contained : {A : Type 0} (P : A → Type 0) (xs : List A) (x : A) → All P xs → Contains xs x → P x
contained P xs x all is = subst P is.2 (all is.0 x is.1)

same_bytes : (xs ys : List ℕ) → length xs ≡ length ys → ((i : ℕ) → i < length xs → slice_get xs i ≡ slice_get ys i) → xs ≡ ys
same_bytes [] [] long same = refl
same_bytes [] (y ∷ ys) long same = absurd (omega (arith, long))
same_bytes (x ∷ xs) [] long same = absurd (omega (arith, long))
same_bytes (x ∷ xs) (y ∷ ys) long same =
    let first = same_some x y (same 0 (omega arith)) in
    let rest = same_bytes xs ys (omega (arith, long)) (λ i below. same (suc i) (omega (arith, below))) in
    λ j. first j ∷ rest j

-- One key

-- where all that stood has these bytes and none were put, the image has them
bytes_of : (had : List (Option rc.Node)) (puts : List (ℕ × ℕ)) (image : rc.Node) (bytes : List ℕ) → ((node : rc.Node) → Contains had (Some node) → node.bytes ≡ bytes) → puts ≡ [] → MayBeNode had puts image → image.bytes ≡ bytes
bytes_of had puts image bytes each unput may =
    let short = each may.no_shorter.0 may.no_shorter.1 in
    let long = each may.no_longer.0 may.no_longer.1 in
    same_bytes image.bytes bytes (omega (arith, may.no_shorter.2, may.no_longer.2, ap length short, ap length long))
    (λ i below. by i below (may.bytes i below))
  where
    by : (i : ℕ) → i < length image.bytes → MayBeByte had puts i (slice_get image.bytes i) → slice_get image.bytes i ≡ slice_get bytes i
    by i below (inl stood) = sym stood.2 ∙ ap (λ (bs : List ℕ). slice_get bs i) (each stood.0 stood.1)
    by i below (inr (inl put)) = absurd (omega (arith, put.1.1, ap length unput))
    by i below (inr (inr shorter)) =
        absurd (omega (arith, below, shorter.2, ap length (each shorter.0 shorter.1), may.no_longer.2, ap length (each may.no_longer.0 may.no_longer.1)))

-- a node on the way, each part of which stood
left_underway : (lonely with_bytes : Bool) (old goal : Option rc.Node) (had : List (Option rc.Node)) (puts : List (ℕ × ℕ)) (image : rc.Node) → All (IsUnderway lonely with_bytes old goal) had → (with_bytes ≡ false → puts ≡ []) → MayBeNode had puts image → IsUnderway lonely with_bytes old goal (Some image)
left_underway true with_bytes old None had puts image all stay may =
    absurd (contained (IsUnderway true with_bytes old None) had (Some may.spelling.0) all may.spelling.1)
left_underway true with_bytes old (Some end) had puts image all stay may =
    let of = λ (node : rc.Node) (is : Contains had (Some node)). contained (IsUnderway true with_bytes old (Some end)) had (Some node) all is in
    record {
      is_file = may.kind.2 ∙ (of may.kind.0 may.kind.1).is_file;
      spelling = may.spelling.2 ∙ (of may.spelling.0 may.spelling.1).spelling;
      bytes = λ without. bytes_of had puts image [] (λ node is. (of node is).bytes without) (stay without) may;
    }
left_underway false with_bytes None goal had puts image all stay may =
    absurd (contained (IsUnderway false with_bytes None goal) had (Some may.spelling.0) all may.spelling.1)
left_underway false with_bytes (Some before) None had puts image all stay may =
    absurd (contained (IsUnderway false with_bytes (Some before) None) had (Some may.spelling.0) all may.spelling.1)
left_underway false with_bytes (Some before) (Some end) had puts image all stay may =
    let of = λ (node : rc.Node) (is : Contains had (Some node)). contained (IsUnderway false with_bytes (Some before) (Some end)) had (Some node) all is in (
      (of may.spelling.0 may.spelling.1).0,
      record {
        is_file = may.kind.2 ∙ (of may.kind.0 may.kind.1).1.is_file;
        spelling = may.spelling.2 ∙ (of may.spelling.0 may.spelling.1).1.spelling;
        props = record {
          attr = either may.attr.2 (of may.attr.0 may.attr.1).1.props.attr;
          created = either may.created.2 (of may.created.0 may.created.1).1.props.created;
          written = either may.written.2 (of may.written.0 may.written.1).1.props.written;
          access = either may.access.2 (of may.access.0 may.access.1).1.props.access;
          owner = either may.owner.2 (of may.owner.0 may.owner.1).1.props.owner;
          audit = either may.audit.2 (of may.audit.0 may.audit.1).1.props.audit;
        };
        bytes = λ without. bytes_of had puts image before.bytes (λ node is. (of node is).1.bytes without) (stay without) may;
      },
    )
  where
    either : {A : Type 0} {x y a b : A} → x ≡ y → (y ≡ a) ⊎ (y ≡ b) → (x ≡ a) ⊎ (x ≡ b)
    either same (inl first) = inl (same ∙ first)
    either same (inr second) = inr (same ∙ second)

left_way : (rules : Rules) (plan : Plan) (item : Item) (source old : Option rc.Node) (had : List (Option rc.Node)) (puts : List (ℕ × ℕ)) (image : Option rc.Node) → All (IsOnWay rules plan item source old) had → (plan.with_bytes ≡ false → puts ≡ []) → MayBeLeft had puts image → IsOnWay rules plan item source old image
left_way rules plan item source old had puts None all stay may = contained (IsOnWay rules plan item source old) had None all may
left_way rules plan item source old had puts (Some image) all stay may =
    left_underway (is_lonely item.class) plan.with_bytes old (copy_goal rules plan item source old) had puts image all stay may

-- a place in an extent is in no range that lies apart
away : (extent : Extent) (range : ℕ × ℕ) (i : ℕ) → extent.off ≤ i → i < extent.off + extent.len → IsApart extent range → range.0 ≤ i → i < range.0 + range.1 → ⊥
away extent range i low high (inl before) from_here to = omega (arith, before, from_here, to, low, high)
away extent range i low high (inr behind) from_here to = omega (arith, behind, from_here, to, low, high)

-- where all has the bytes of a range and none were put on it, the image has them
pub left_holds : (extent : Extent) (source : Option rc.Node) (had : List (Option rc.Node)) (puts : List (ℕ × ℕ)) (image : Option rc.Node) → All (Holds (range_of extent) source) had → All (IsApart extent) puts → MayBeLeft had puts image → Holds (range_of extent) source image
left_holds extent source had puts None all apart may = contained (Holds (range_of extent) source) had None all may
left_holds extent None had puts (Some image) all apart may = absurd (contained (Holds (range_of extent) None) had (Some may.spelling.0) all may.spelling.1)
left_holds extent (Some from) had puts (Some image) all apart may =
    let of = λ (node : rc.Node) (is : Contains had (Some node)). contained (Holds (range_of extent) (Some from)) had (Some node) all is in
    let size : length image.bytes ≡ length from.bytes = omega (arith, may.no_shorter.2, may.no_longer.2, (of may.no_shorter.0 may.no_shorter.1).size, (of may.no_longer.0 may.no_longer.1).size) in
    record {
      is_file = may.kind.2 ∙ (of may.kind.0 may.kind.1).is_file;
      size = size;
      bytes = λ i low high. elim (cases_lt i (length image.bytes)) [
        | inl below ↦ by i low high below (of) (may.bytes i below)
        | inr past ↦ slice_get_past image.bytes i past ∙ sym (slice_get_past from.bytes i (omega (arith, past, size)))
      ];
    }
  where
    by : (i : ℕ) → extent.off ≤ i → i < extent.off + extent.len → i < length image.bytes → ((node : rc.Node) → Contains had (Some node) → HasBytes extent.off extent.len from.bytes node) → MayBeByte had puts i (slice_get image.bytes i) → slice_get image.bytes i ≡ slice_get from.bytes i
    by i low high below of (inl stood) = sym stood.2 ∙ (of stood.0 stood.1).bytes i low high
    by i low high below of (inr (inl put)) = absurd (away extent put.0 i low high (contained (IsApart extent) puts put.0 apart put.1) put.2 put.3)
    by i low high below of (inr (inr shorter)) =
        absurd (omega (arith, below, shorter.2, (of shorter.0 shorter.1).size, may.no_longer.2, (of may.no_longer.0 may.no_longer.1).size))

-- where all is the end, so is the image
pub left_end : (goal : Option rc.Node) (had : List (Option rc.Node)) (puts : List (ℕ × ℕ)) (image : Option rc.Node) → All (λ now. now ≡ goal) had → puts ≡ [] → MayBeLeft had puts image → image ≡ goal
left_end goal had puts None all unput may = contained (λ now. now ≡ goal) had None all may
left_end None had puts (Some image) all unput may = absurd (some_none may.spelling.0 (sym (contained (λ now. now ≡ None) had (Some may.spelling.0) all may.spelling.1)))
left_end (Some end) had puts (Some image) all unput may =
    let of = λ (node : rc.Node) (is : Contains had (Some node)). same_some node end (contained (λ now. now ≡ Some end) had (Some node) all is) in
    let bytes = bytes_of had puts image end.bytes (λ node is. ap (λ (n : rc.Node). n.bytes) (of node is)) unput may in
    λ i. Some (record {
      spelling = (may.spelling.2 ∙ ap (λ (n : rc.Node). n.spelling) (of may.spelling.0 may.spelling.1)) i;
      kind = (may.kind.2 ∙ ap (λ (n : rc.Node). n.kind) (of may.kind.0 may.kind.1)) i;
      bytes = bytes i;
      props = record {
        attr = (may.attr.2 ∙ ap (λ (n : rc.Node). n.props.attr) (of may.attr.0 may.attr.1)) i;
        created = (may.created.2 ∙ ap (λ (n : rc.Node). n.props.created) (of may.created.0 may.created.1)) i;
        written = (may.written.2 ∙ ap (λ (n : rc.Node). n.props.written) (of may.written.0 may.written.1)) i;
        access = (may.access.2 ∙ ap (λ (n : rc.Node). n.props.access) (of may.access.0 may.access.1)) i;
        owner = (may.owner.2 ∙ ap (λ (n : rc.Node). n.props.owner) (of may.owner.0 may.owner.1)) i;
        audit = (may.audit.2 ∙ ap (λ (n : rc.Node). n.props.audit) (of may.audit.0 may.audit.1)) i;
      };
    })

-- How many rows there are

count_files : (source target : List Node) (place : ℕ) (items : List Item) → length (copied_from source target place items) ≡ length (filter (λ (item : Item). is_copy item.act) items)
count_files source target place [] = refl
count_files source target place (item ∷ items) = by (is_copy item.act) (count_files source target (place + 1) items)
  where
    by : (b : Bool) → length (copied_from source target (place + 1) items) ≡ length (filter (λ (item : Item). is_copy item.act) items) → length (cond b (copied_of source target item place ∷ copied_from source target (place + 1) items) (copied_from source target (place + 1) items)) ≡ length (cond b (item ∷ filter (λ (item : Item). is_copy item.act) items) (filter (λ (item : Item). is_copy item.act) items))
    by true e = ap suc e
    by false e = e

-- an element of a filtered list passes
filtered : {A : Type 0} (test : A → Bool) (xs : List A) (n : ℕ) (x : A) → slice_get (filter test xs) n ≡ Some x → test x ≡ true
filtered test [] n x e = absurd (some_none x e)
filtered {A} test (y ∷ xs) n x e = by (λ n e. filtered test xs n x e) (test y) refl n e
  where
    by : ((n : ℕ) → slice_get (filter test xs) n ≡ Some x → test x ≡ true) → (b : Bool) → test y ≡ b → (n : ℕ) → slice_get (cond b (y ∷ filter test xs) (filter test xs)) n ≡ Some x → test x ≡ true
    by later true so zero is = ap test (sym (same_some y x is)) ∙ so
    by later true so (suc n) is = later n is
    by later false so n is = later n is

count_units : (plan : Plan) (source target : List Node) (place n : ℕ) (items : List Item) → length (extents_from plan n (copied_from source target place items)) ≡ length (flat_map (item_units plan.stride plan.with_bytes) items)
count_units plan source target place n [] = refl
count_units plan source target place n (item ∷ items) = by (λ n. count_units plan source target (place + 1) n items) (is_copy item.act) refl
  where
    by : ((n : ℕ) → length (extents_from plan n (copied_from source target (place + 1) items)) ≡ length (flat_map (item_units plan.stride plan.with_bytes) items)) → (b : Bool) → is_copy item.act ≡ b → length (extents_from plan n (cond b (copied_of source target item place ∷ copied_from source target (place + 1) items) (copied_from source target (place + 1) items))) ≡ length (item_units plan.stride plan.with_bytes item ++ flat_map (item_units plan.stride plan.with_bytes) items)
    by later true so =
        omega (
          arith,
          length-append (map (extent_of n) (item_units plan.stride plan.with_bytes item)) (extents_from plan (n + 1) (copied_from source target (place + 1) items)),
          length-append (item_units plan.stride plan.with_bytes item) (flat_map (item_units plan.stride plan.with_bytes) items),
          length-map (item_units plan.stride plan.with_bytes item) (extent_of n),
          later (n + 1),
        )
    by later false so =
        later n ∙ sym (ap (λ (units : List Unit). length (units ++ flat_map (item_units plan.stride plan.with_bytes) items)) (no_units plan.stride plan.with_bytes item so))

-- Copied items

pub is_copied : (does : Act) → is_copy does ≡ true → does ≡ act.Copy
is_copied act.Copy e = refl
is_copied act.Make e = absurd (true≢false (sym e))
is_copied act.Touch e = absurd (true≢false (sym e))
is_copied act.Fix e = absurd (true≢false (sym e))
is_copied act.Purge e = absurd (true≢false (sym e))
is_copied act.Extra e = absurd (true≢false (sym e))
is_copied act.Mismatch e = absurd (true≢false (sym e))
is_copied (act.Keep reason) e = absurd (true≢false (sym e))

passes : (items : List Item) (n : ℕ) (item : Item) → slice_get (filter (λ (item : Item). is_copy item.act) items) n ≡ Some item → is_copy item.act ≡ true
passes items n item e = filtered (λ (item : Item). is_copy item.act) items n item e

pub copied_act : (items : List Item) (n : ℕ) (item : Item) → slice_get (filter (λ (item : Item). is_copy item.act) items) n ≡ Some item → item.act ≡ act.Copy
copied_act items n item e = is_copied item.act (passes items n item e)

-- Marks

pub kept_mark : (stands allowed : Bool) (mark : Option Bool) → stands ≡ true → IsMarkOf stands allowed mark → mark ≡ Some true
kept_mark stands allowed None so is = absurd is
kept_mark stands allowed (Some b) so is = ap Some (is.0 so)

pub allowed_mark : (stands allowed : Bool) (mark : Option Bool) → mark ≡ Some true → IsMarkOf stands allowed mark → allowed ≡ true
allowed_mark stands allowed None so is = absurd is
allowed_mark stands allowed (Some b) so is = is.1 (same_some b true so)

pub settled_from : (s : UnitState) → may_be_marked s ≡ true → is_settled s ≡ true
settled_from unit.Free e = absurd (true≢false (sym e))
settled_from (unit.Held holding) e = absurd (true≢false (sym e))
settled_from unit.Doubtful e = refl
settled_from unit.Marked e = refl

-- The rows of a sound state, by the plan

module _ (state : State) (sound : Sound state) where
  -- the row of a copied item
  row_of_file : (n : ℕ) (item : Item) → copy_at state.noted.plan n ≡ Some item → (row : FileRow) × (file_row state n ≡ Some row) × (row.file.item ≡ item)
  row_of_file n item is =
      let files = files_of state.noted.plan state.source state.target in
      let below : n < length files = omega (arith, slice_get_within (copies_of state.noted.plan) n item is, count_files state.source state.target 0 state.noted.plan.items) in
      let file = get_or files n no_file in
      let row = mapped (λ (row : FileRow). row.file) (file_row state n) file (sound.laid_out.files n ∙ slice_get-get_or files n no_file below) in
      (row.0, row.1, one (copy_at state.noted.plan n) row.0.file.item item (file_at state sound.laid_out n row.0 row.1).item_is is)
    where
      no_file : Copied
      no_file = record { place = 0; item = item; source = None; start = None }

  -- the row of a unit
  row_of_unit : (m : ℕ) → m < length (units_of state.noted.plan) → (row : UnitRow) × (unit_row state m ≡ Some row)
  row_of_unit m below =
      let extents = extents_of state.noted.plan state.source state.target in
      let within : m < length extents = omega (arith, below, count_units state.noted.plan state.source state.target 0 0 state.noted.plan.items) in
      let row = mapped (λ (row : UnitRow). row.extent) (unit_row state m) (get_or extents m no_extent) (sound.laid_out.units m ∙ slice_get-get_or extents m no_extent within) in
      (row.0, row.1)
    where
      no_extent : Extent
      no_extent = record { file = 0; off = 0; len = 0 }

  -- and its unit, with its file
  unit_of_row : (m : ℕ) (row : UnitRow) → unit_row state m ≡ Some row → IsUnitAt (unit_at state.noted.plan m) 0 (files_of state.noted.plan state.source state.target) row.extent
  unit_of_row m row is = unit_of_extent state.noted.plan state.source state.target 0 0 state.noted.plan.items m row.extent (extent_of_row state sound.laid_out m row is)

  file_of_unit : (m : ℕ) (row : UnitRow) (unit_of : Unit) → unit_row state m ≡ Some row → unit_at state.noted.plan m ≡ Some unit_of → (file : FileRow) × (file_row state row.extent.file ≡ Some file) × (file.file.item ≡ unit_of.item) × (range_of row.extent ≡ unit_of.range)
  file_of_unit m row unit_of is at =
      let found = unit_of_row m row is in
      let same : found.unit ≡ unit_of = one (unit_at state.noted.plan m) found.unit unit_of found.is at in
      let number : row.extent.file ≡ found.number = omega (arith, found.of_file) in
      let file = mapped (λ (row : FileRow). row.file) (file_row state row.extent.file) found.file (sound.laid_out.files row.extent.file ∙ ap (slice_get (files_of state.noted.plan state.source state.target)) number ∙ found.is_file) in
      (file.0, file.1, ap (λ (f : Copied). f.item) file.2 ∙ sym found.item ∙ ap (λ (u : Unit). u.item) same, sym found.range ∙ ap (λ (u : Unit). u.range) same)

  module _ (image : List Node) (units finished : List Bool) (may : MayStop state image units finished) where
    image_at : (key : List (List ℕ)) → get (tree_of image) key ≡ node_at image key
    image_at key = node_in image key

    -- marks

    units_kept : AreKept state.noted.units units
    units_kept n mark =
        let row = row_of_unit n (omega (arith, slice_get_within state.noted.units n true mark, sound.laid_out.is_open.noted.units)) in
        kept_mark (is_marked row.0.state) (may_be_marked row.0.state) (slice_get units n) (sound.marked n row.0 row.1 mark) (may.marks.of_units n row.0 row.1)

    finished_kept : AreKept state.noted.finished finished
    finished_kept n mark =
        let below : n < length (copies_of state.noted.plan) = omega (arith, slice_get_within state.noted.finished n true mark, sound.laid_out.is_open.noted.finished) in
        let item = some_item (copies_of state.noted.plan) n below in
        let row = row_of_file n item.0 item.1 in
        kept_mark (is_finished row.0.state) (is_done row.0.state) (slice_get finished n) (sound.finished n row.0 row.1 mark) (may.marks.of_files n row.0 row.1)
      where
        some_item : (items : List Item) (n : ℕ) → n < length items → (item : Item) × (slice_get items n ≡ Some item)
        some_item [] n below = absurd (omega (arith, below))
        some_item (item ∷ items) zero below = (item, refl)
        some_item (item ∷ items) (suc n) below = some_item items n (omega (arith, below))

    -- keys

    pub way_at : (n : ℕ) (row : FileRow) → file_row state n ≡ Some row → IsOnWay state.rules state.noted.plan row.file.item row.file.source row.file.start (node_at image (key_of row.file.item.path))
    way_at n row is =
        let good = sound.files n row is in
        left_way state.rules state.noted.plan row.file.item row.file.source row.file.start (all_had row) row.touched.puts (node_at image (key_of row.file.item.path)) good.ways good.bytes_stay (may.files n row is)

    sides : (n : ℕ) (row : FileRow) → file_row state n ≡ Some row → (row.file.source ≡ get (tree_of state.source) (key_of row.file.item.path)) × (row.file.start ≡ get (tree_of state.target) (key_of row.file.item.path))
    sides n row is =
        let file = file_at state sound.laid_out n row is in
        (file.source_is ∙ sym (node_in state.source (key_of row.file.item.path)), file.start_is ∙ sym (node_in state.target (key_of row.file.item.path)))

    ways_of : (n : ℕ) (item : Item) → copy_at state.noted.plan n ≡ Some item → IsOnWay state.rules state.noted.plan item (get (tree_of state.source) (key_of item.path)) (get (tree_of state.target) (key_of item.path)) (get (tree_of image) (key_of item.path))
    ways_of n item at =
        let row = row_of_file n item at in
        let of = sides n row.0 row.1 in
        let way = way_at n row.0 row.1 in
        let here : IsOnWay state.rules state.noted.plan row.0.file.item (get (tree_of state.source) (key_of row.0.file.item.path)) (get (tree_of state.target) (key_of row.0.file.item.path)) (get (tree_of image) (key_of row.0.file.item.path)) =
        subst (λ o. IsOnWay state.rules state.noted.plan row.0.file.item o (get (tree_of state.target) (key_of row.0.file.item.path)) (get (tree_of image) (key_of row.0.file.item.path))) of.0
        (subst (λ o. IsOnWay state.rules state.noted.plan row.0.file.item row.0.file.source o (get (tree_of image) (key_of row.0.file.item.path))) of.1
        (subst (λ o. IsOnWay state.rules state.noted.plan row.0.file.item row.0.file.source row.0.file.start o) (sym (image_at (key_of row.0.file.item.path))) way)) in
        subst (λ (item : Item). IsOnWay state.rules state.noted.plan item (get (tree_of state.source) (key_of item.path)) (get (tree_of state.target) (key_of item.path)) (get (tree_of image) (key_of item.path))) row.2 here

    elsewhere_of : (key : List (List ℕ)) → ¬ Acts act.Copy (item_at state.noted.plan.items key) → get (tree_of image) key ≡ get (tree_of state.target) key
    elsewhere_of key no_copy =
        image_at key
        ∙ may.others key (λ n row is same.
        let file = file_at state sound.laid_out n row is in
        let found = own_found state.noted.plan.items n row.file.item sound.laid_out.is_open.noted.rising file.item_is in
        no_copy (subst (λ (k : List (List ℕ)). Acts act.Copy (item_at state.noted.plan.items k)) same
        (subst (λ (o : Option Item). Acts act.Copy o) (sym found) (copied_act state.noted.plan.items n row.file.item file.item_is))))
        ∙ sym (node_in state.target key)

    -- the marks hold

    unit_holds_of : (n : ℕ) (unit_of : Unit) → unit_at state.noted.plan n ≡ Some unit_of → IsMarked units n → Holds unit_of.range (get (tree_of state.source) (key_of unit_of.item.path)) (get (tree_of image) (key_of unit_of.item.path))
    unit_holds_of n unit_of at mark =
        let row = row_of_unit n (slice_get_within (units_of state.noted.plan) n unit_of at) in
        let file = file_of_unit n row.0 unit_of row.1 at in
        let settled = settled_from row.0.state (allowed_mark (is_marked row.0.state) (may_be_marked row.0.state) (slice_get units n) mark (may.marks.of_units n row.0 row.1)) in
        let good = sound.units n row.0 file.0 row.1 file.1 in
        let key = key_of file.0.file.item.path in
        let holds = left_holds row.0.extent file.0.file.source (all_had file.0) file.0.touched.puts (node_at image key) (good.held settled) (good.apart settled) (may.files row.0.extent.file file.0 file.1) in
        let here : Holds (range_of row.0.extent) (get (tree_of state.source) key) (get (tree_of image) key) =
        subst (λ o. Holds (range_of row.0.extent) o (get (tree_of image) key)) (sides row.0.extent.file file.0 file.1).0
        (subst (Holds (range_of row.0.extent) file.0.file.source) (sym (image_at key)) holds) in
        subst (λ (r : Range). Holds r (get (tree_of state.source) (key_of unit_of.item.path)) (get (tree_of image) (key_of unit_of.item.path))) file.3
        (subst (λ (item : Item). Holds (range_of row.0.extent) (get (tree_of state.source) (key_of item.path)) (get (tree_of image) (key_of item.path))) file.2 here)

    file_ends_of : (n : ℕ) (item : Item) → copy_at state.noted.plan n ≡ Some item → IsMarked finished n → get (tree_of image) (key_of item.path) ≡ copy_goal state.rules state.noted.plan item (get (tree_of state.source) (key_of item.path)) (get (tree_of state.target) (key_of item.path))
    file_ends_of n item at mark =
        let row = row_of_file n item at in
        let good = sound.files n row.0 row.1 in
        let done = allowed_mark (is_finished row.0.state) (is_done row.0.state) (slice_get finished n) mark (may.marks.of_files n row.0 row.1) in
        let of = sides n row.0 row.1 in
        let key = key_of row.0.file.item.path in
        let ended = left_end (end_of state row.0) (all_had row.0) row.0.touched.puts (node_at image key) (good.ended done) (good.unput done) (may.files n row.0 row.1) in
        subst (λ (item : Item). get (tree_of image) (key_of item.path) ≡ copy_goal state.rules state.noted.plan item (get (tree_of state.source) (key_of item.path)) (get (tree_of state.target) (key_of item.path))) row.2
        (image_at key ∙ ended
        ∙ ap (λ o. copy_goal state.rules state.noted.plan row.0.file.item o row.0.file.start) of.0
        ∙ ap (copy_goal state.rules state.noted.plan row.0.file.item (get (tree_of state.source) key)) of.1)

    file_units_of : (n : ℕ) (item : Item) → copy_at state.noted.plan n ≡ Some item → IsMarked finished n → (m : ℕ) (unit_of : Unit) → unit_at state.noted.plan m ≡ Some unit_of → key_of unit_of.item.path ≡ key_of item.path → IsMarked units m
    file_units_of n item at mark m unit_of is same =
        let row = row_of_file n item at in
        let done = allowed_mark (is_finished row.0.state) (is_done row.0.state) (slice_get finished n) mark (may.marks.of_files n row.0 row.1) in
        let unit_is = row_of_unit m (slice_get_within (units_of state.noted.plan) m unit_of is) in
        let file = file_of_unit m unit_is.0 unit_of unit_is.1 is in
        let its = (file_at state sound.laid_out unit_is.0.extent.file file.0 file.1).item_is in
        let number : unit_is.0.extent.file ≡ n =
        one_number state.noted.plan.items unit_is.0.extent.file n file.0.file.item item sound.laid_out.is_open.noted.rising its at (ap (λ (i : Item). key_of i.path) file.2 ∙ same) in
        let marked = (sound.files n row.0 row.1).closed done m unit_is.0 unit_is.1 number in
        kept_mark (is_marked unit_is.0.state) (may_be_marked unit_is.0.state) (slice_get units m) marked (may.marks.of_units m unit_is.0 unit_is.1)

    pub image_follows : Follows (opening_of state) (image_of state image units finished)
    image_follows = record {
      plan = refl;
      units = units_kept;
      finished = finished_kept;
      not_last = sound.laid_out.is_open.follows.not_last;
      source = refl;
      sources = sound.laid_out.is_open.follows.sources;
      elsewhere = elsewhere_of;
      ways = ways_of;
      marks = record { unit_holds = unit_holds_of; file_ends = file_ends_of; file_units = file_units_of };
    }
