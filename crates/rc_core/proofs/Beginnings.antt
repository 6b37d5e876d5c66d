-- That the state of an opening is sound.
use Rattle.std.proofs.Common.{◌≡◌, ℕ, zero, suc, ◌+◌, Bool, true, false, cond, ◌&&◌, List, [], ◌∷◌, ◌++◌, length, map, refl, sym, ap, subst, ◌∙◌, inl, inr, arith, true≢false}
use Rattle.std.proofs.lemmas.List.{length-map}
use Rattle.std.proofs.lemmas.List.Elements.{All-cons, All-nil}
use Rattle.std.proofs.lemmas.Option.{slice_get-map}
use Rattle.std.specs.Prelude.{Option, Some, None, IfSome, option_map, slice_get}
use Rattle.std.specs.List.{flat_map}
use Rattle.std.specs.FinMap.{get}
use Rattle.rc_tree.specs.Path.{key_of}
use Rattle.rc_tree.specs.Tree as rc
use Rattle.rc_class.specs.declared.item.Item.{Item}
use Rattle.rc_class.specs.declared.noted.Noted.{Noted}
use Rattle.rc_class.specs.declared.plan.Plan.{Plan}
use Rattle.rc_class.specs.declared.rules.Rules.{Rules}
use Rattle.rc_class.specs.Units.{Range, Unit, is_copy, item_units, ranges_of, unit_of}
use Rattle.rc_core.specs.Copies.{Holds, IsMarked, IsOnWay, copy_at, copy_goal, unit_at}
use Rattle.rc_core.specs.Follows.{IsOpen}
use Rattle.rc_core.specs.Nodes.{are_rising, tree_of}
use Rattle.rc_core.specs.Opened.{copied_from, copied_of, extent_of, extents_from, extents_of, files_of, numbered, opened, opened_file, opened_files, opened_unit, opened_units, opening_by}
use Rattle.rc_core.specs.Rows.{has, holding_of, is_done, is_finished, is_marked, is_settled, range_of}
use Rattle.rc_core.specs.Sound.{IsApart, IsSoundFile, IsSoundHolding, IsSoundUnit, Sound}
use Rattle.rc_core.specs.declared.node.Node.{Node}
use Rattle.rc_core.specs.declared.rows.Copied.{Copied}
use Rattle.rc_core.specs.declared.rows.Extent.{Extent}
use Rattle.rc_core.specs.declared.rows.FileRow.{FileRow}
use Rattle.rc_core.specs.declared.rows.FileState.TheVariants as file
use Rattle.rc_core.specs.declared.rows.Holding.{Holding}
use Rattle.rc_core.specs.declared.rows.UnitRow.{UnitRow}
use Rattle.rc_core.specs.declared.rows.UnitState.TheVariants as unit
use Rattle.rc_core.proofs.LaidOut.{IsFileAt, copied_at, node_in}
use Rattle.rc_core.proofs.Lists.{append_cases, back, front, mapped, one, same_some, some_none}

-- Numbered rows

numbered_map : {A B : Type 0} (f : B → A) (row : A → ℕ → B) (k : ℕ) (xs : List A) (n : ℕ) → ((x : A) (i : ℕ) → f (row x i) ≡ x) → option_map f (slice_get (numbered row k xs) n) ≡ slice_get xs n
numbered_map f row k [] n same = refl
numbered_map f row k (x ∷ xs) zero same = ap Some (same x k)
numbered_map f row k (x ∷ xs) (suc n) same = numbered_map f row (k + 1) xs n same

-- what each row keeps
pub numbered_keeps : {A B : Type 0} (f : A → B) (row : A → ℕ → A) (k : ℕ) (xs : List A) (n : ℕ) → ((x : A) (i : ℕ) → f (row x i) ≡ f x) → option_map f (slice_get (numbered row k xs) n) ≡ option_map f (slice_get xs n)
numbered_keeps f row k [] n same = refl
numbered_keeps f row k (x ∷ xs) zero same = ap Some (same x k)
numbered_keeps f row k (x ∷ xs) (suc n) same = numbered_keeps f row (k + 1) xs n same

numbered_at : {A B : Type 0} (row : A → ℕ → B) (k : ℕ) (xs : List A) (n : ℕ) (y : B) → slice_get (numbered row k xs) n ≡ Some y → (x : A) × (slice_get xs n ≡ Some x) × (row x (k + n) ≡ y)
numbered_at row k [] n y e = absurd (some_none y e)
numbered_at row k (x ∷ xs) zero y e = let first : k + 0 ≡ k = omega arith in (x, refl, ap (row x) first ∙ same_some (row x k) y e)
numbered_at row k (x ∷ xs) (suc n) y e =
    let later = numbered_at row (k + 1) xs n y e in
    let on : k + suc n ≡ (k + 1) + n = omega arith in
    (later.0, later.1, ap (row later.0) on ∙ later.2)

pub first_at : {A B : Type 0} (row : A → ℕ → B) (xs : List A) (n : ℕ) (y : B) → slice_get (numbered row 0 xs) n ≡ Some y → (x : A) × (slice_get xs n ≡ Some x) × (row x n ≡ y)
first_at row xs n y e =
    let found = numbered_at row 0 xs n y e in
    let same : n ≡ 0 + n = omega arith in
    (found.0, found.1, ap (row found.0) same ∙ found.2)

-- Units of plans

-- the unit that an extent is
pub record IsUnitAt (unit_is : Option Unit) (n : ℕ) (files : List Copied) (extent : Extent) : Type 0 where
  pub unit : Unit
  pub number : ℕ
  pub file : Copied
  pub is : unit_is ≡ Some unit
  pub range : unit.range ≡ range_of extent
  pub of_file : extent.file ≡ n + number
  pub is_file : slice_get files number ≡ Some file
  pub item : unit.item ≡ file.item

-- each unit of an item is of that item
unit_item : (stride : ℕ) (with_bytes : Bool) (item : Item) (j : ℕ) (unit : Unit) → slice_get (item_units stride with_bytes item) j ≡ Some unit → unit.item ≡ item
unit_item stride with_bytes item j unit e = by (with_bytes && is_copy item.act) e
  where
    by : (b : Bool) → slice_get (cond b (map (unit_of item) (ranges_of stride item.facts.size)) []) j ≡ Some unit → unit.item ≡ item
    by false none = absurd (some_none unit none)
    by true found =
        let range = mapped (unit_of item) (slice_get (ranges_of stride item.facts.size) j) unit (sym (slice_get-map (unit_of item) (ranges_of stride item.facts.size) j) ∙ found) in
        sym (ap (λ (u : Unit). u.item) range.2)

and_false : (a b : Bool) → b ≡ false → a && b ≡ false
and_false true b e = e
and_false false b e = refl

pub no_units : (stride : ℕ) (with_bytes : Bool) (item : Item) → is_copy item.act ≡ false → item_units stride with_bytes item ≡ []
no_units stride with_bytes item no_copy = ap (λ b. cond b (map (unit_of item) (ranges_of stride item.facts.size)) []) (and_false with_bytes (is_copy item.act) no_copy)

pub unit_of_extent : (plan : Plan) (source target : List Node) (place n : ℕ) (items : List Item) (m : ℕ) (extent : Extent) → slice_get (extents_from plan n (copied_from source target place items)) m ≡ Some extent → IsUnitAt (slice_get (flat_map (item_units plan.stride plan.with_bytes) items) m) n (copied_from source target place items) extent
unit_of_extent plan source target place n [] m extent e = absurd (some_none extent e)
unit_of_extent plan source target place n (item ∷ items) m extent e =
    by (λ n m e. unit_of_extent plan source target (place + 1) n items m extent e) (is_copy item.act) refl e
  where
    by : ((n m : ℕ) → slice_get (extents_from plan n (copied_from source target (place + 1) items)) m ≡ Some extent → IsUnitAt (slice_get (flat_map (item_units plan.stride plan.with_bytes) items) m) n (copied_from source target (place + 1) items) extent) → (b : Bool) → is_copy item.act ≡ b → slice_get (extents_from plan n (cond b (copied_of source target item place ∷ copied_from source target (place + 1) items) (copied_from source target (place + 1) items))) m ≡ Some extent → IsUnitAt (slice_get (item_units plan.stride plan.with_bytes item ++ flat_map (item_units plan.stride plan.with_bytes) items) m) n (cond b (copied_of source target item place ∷ copied_from source target (place + 1) items) (copied_from source target (place + 1) items)) extent
    by later true copies at = elim (append_cases (map (extent_of n) (item_units plan.stride plan.with_bytes item)) (extents_from plan (n + 1) (copied_from source target (place + 1) items)) m extent at) [
      | inl here ↦
          let unit = mapped (extent_of n) (slice_get (item_units plan.stride plan.with_bytes item) m) extent (sym (slice_get-map (extent_of n) (item_units plan.stride plan.with_bytes item) m) ∙ here.1) in
          record {
            unit = unit.0;
            number = 0;
            file = copied_of source target item place;
            is = front (item_units plan.stride plan.with_bytes item) (flat_map (item_units plan.stride plan.with_bytes) items) m unit.0 unit.1;
            range = ap range_of unit.2;
            of_file = sym (ap (λ (x : Extent). x.file) unit.2) ∙ omega arith;
            is_file = refl;
            item = unit_item plan.stride plan.with_bytes item m unit.0 unit.1;
          }
      | inr behind ↦
          let unit = later (n + 1) behind.0 behind.2 in
          let long = length-map (item_units plan.stride plan.with_bytes item) (extent_of n) in
          let at_unit : m ≡ length (item_units plan.stride plan.with_bytes item) + behind.0 = omega (arith, behind.1, long) in
          record {
            unit = unit.unit;
            number = suc unit.number;
            file = unit.file;
            is = ap (slice_get (item_units plan.stride plan.with_bytes item ++ flat_map (item_units plan.stride plan.with_bytes) items)) at_unit
                ∙ back (item_units plan.stride plan.with_bytes item) (flat_map (item_units plan.stride plan.with_bytes) items) (length (item_units plan.stride plan.with_bytes item)) behind.0 unit.unit refl unit.is;
            range = unit.range;
            of_file = omega (arith, unit.of_file);
            is_file = unit.is_file;
            item = unit.item;
          }
    ]
    by later false no_copy at =
        subst (λ (units : List Unit). IsUnitAt (slice_get (units ++ flat_map (item_units plan.stride plan.with_bytes) items) m) n (copied_from source target (place + 1) items) extent) (sym (no_units plan.stride plan.with_bytes item no_copy)) (later n m at)

-- Marks

stands : (mark : Option Bool) → has (λ stands. stands) mark ≡ true → mark ≡ Some true
stands None e = absurd (true≢false (sym e))
stands (Some b) e = ap Some e

pub done_is_marked : (copied : Copied) (mark : Option Bool) → is_done (opened_file copied mark).state ≡ true → mark ≡ Some true
done_is_marked copied mark e = by (has (λ stands. stands) mark) refl e
  where
    by : (b : Bool) → has (λ stands. stands) mark ≡ b → is_done (cond b file.Finished file.Open) ≡ true → mark ≡ Some true
    by true so done = stands mark so
    by false so done = absurd (true≢false (sym done))

pub marked_is_finished : (copied : Copied) (mark : Option Bool) → mark ≡ Some true → is_finished (opened_file copied mark).state ≡ true
marked_is_finished copied mark e = ap (λ m. is_finished (opened_file copied m).state) e

pub settled_is_marked : (extent : Extent) (mark : Option Bool) → is_settled (opened_unit extent mark).state ≡ true → mark ≡ Some true
settled_is_marked extent mark e = by (has (λ stands. stands) mark) refl e
  where
    by : (b : Bool) → has (λ stands. stands) mark ≡ b → is_settled (cond b unit.Marked unit.Free) ≡ true → mark ≡ Some true
    by true so done = stands mark so
    by false so done = absurd (true≢false (sym done))

pub marked_is_marked : (extent : Extent) (mark : Option Bool) → mark ≡ Some true → is_marked (opened_unit extent mark).state ≡ true
marked_is_marked extent mark e = ap (λ m. is_marked (opened_unit extent m).state) e

pub none_held : (extent : Extent) (mark : Option Bool) → holding_of (opened_unit extent mark).state ≡ None
none_held extent mark = by (has (λ stands. stands) mark)
  where
    by : (b : Bool) → holding_of (cond b unit.Marked unit.Free) ≡ None
    by true = refl
    by false = refl

-- The opening

module _ (noted : Noted) (rules : Rules) (source target : List Node) (retries : ℕ) (is_open : IsOpen (opening_by noted rules source target)) where
  -- what is known of a row that is looked up

  opened_file_at : (n : ℕ) (row : FileRow) → slice_get (opened_files noted.finished (files_of noted.plan source target)) n ≡ Some row → (file : Copied) × (slice_get (files_of noted.plan source target) n ≡ Some file) × (opened_file file (slice_get noted.finished n) ≡ row)
  opened_file_at n row e = first_at (λ file n. opened_file file (slice_get noted.finished n)) (files_of noted.plan source target) n row e

  opened_unit_at : (m : ℕ) (row : UnitRow) → slice_get (opened_units noted.units (extents_of noted.plan source target)) m ≡ Some row → (extent : Extent) × (slice_get (extents_of noted.plan source target) m ≡ Some extent) × (opened_unit extent (slice_get noted.units m) ≡ row)
  opened_unit_at m row e = first_at (λ extent m. opened_unit extent (slice_get noted.units m)) (extents_of noted.plan source target) m row e

  is_file_at : (n : ℕ) (file : Copied) → slice_get (files_of noted.plan source target) n ≡ Some file → IsFileAt source target (copy_at noted.plan n) file
  is_file_at n file e = copied_at source target 0 noted.plan.items n file e

  source_node : (n : ℕ) (file : Copied) → IsFileAt source target (copy_at noted.plan n) file → get (tree_of source) (key_of file.item.path) ≡ file.source
  source_node n file at = node_in source (key_of file.item.path) ∙ sym at.source_is

  target_node : (n : ℕ) (file : Copied) → IsFileAt source target (copy_at noted.plan n) file → get (tree_of target) (key_of file.item.path) ≡ file.start
  target_node n file at = node_in target (key_of file.item.path) ∙ sym at.start_is

  unit_is_at : (m : ℕ) (extent : Extent) → slice_get (extents_of noted.plan source target) m ≡ Some extent → IsUnitAt (unit_at noted.plan m) 0 (files_of noted.plan source target) extent
  unit_is_at m extent e = unit_of_extent noted.plan source target 0 0 noted.plan.items m extent e

  -- files

  file_way : (n : ℕ) (file : Copied) → IsFileAt source target (copy_at noted.plan n) file → IsOnWay rules noted.plan file.item file.source file.start file.start
  file_way n file at =
      subst (λ o. IsOnWay rules noted.plan file.item o file.start file.start) (source_node n file at)
      (subst (λ o. IsOnWay rules noted.plan file.item (get (tree_of source) (key_of file.item.path)) o o) (target_node n file at)
      (is_open.follows.ways n file.item at.item_is))

  file_end : (n : ℕ) (file : Copied) → IsFileAt source target (copy_at noted.plan n) file → IsMarked noted.finished n → file.start ≡ copy_goal rules noted.plan file.item file.source file.start
  file_end n file at mark =
      subst (λ o. file.start ≡ copy_goal rules noted.plan file.item o file.start) (source_node n file at)
      (subst (λ o. o ≡ copy_goal rules noted.plan file.item (get (tree_of source) (key_of file.item.path)) o) (target_node n file at)
      (is_open.follows.marks.file_ends n file.item at.item_is mark))

  -- the units of a file whose mark stands are marked
  units_marked : (n : ℕ) (file : Copied) → slice_get (files_of noted.plan source target) n ≡ Some file → IsMarked noted.finished n → (m : ℕ) (row : UnitRow) → slice_get (opened_units noted.units (extents_of noted.plan source target)) m ≡ Some row → row.extent.file ≡ n → is_marked row.state ≡ true
  units_marked n file is mark m row at of =
      let opened = opened_unit_at m row at in
      let unit = unit_is_at m opened.0 opened.1 in
      let number : unit.number ≡ n = omega (arith, unit.of_file, ap (λ (row : UnitRow). row.extent.file) opened.2, of) in
      let same : unit.file ≡ file = one (slice_get (files_of noted.plan source target) n) unit.file file (subst (λ k. slice_get (files_of noted.plan source target) k ≡ Some unit.file) number unit.is_file) is in
      let its_item : unit.unit.item ≡ file.item = unit.item ∙ ap (λ (f : Copied). f.item) same in
      let marked = is_open.follows.marks.file_units n file.item (is_file_at n file is).item_is mark m unit.unit unit.is (ap (λ (item : Item). key_of item.path) its_item) in
      subst (λ (row : UnitRow). is_marked row.state ≡ true) opened.2 (marked_is_marked opened.0 (slice_get noted.units m) marked)

  -- units

  unit_holds : (m : ℕ) (extent : Extent) (file : Copied) → slice_get (extents_of noted.plan source target) m ≡ Some extent → slice_get (files_of noted.plan source target) extent.file ≡ Some file → IsMarked noted.units m → Holds (range_of extent) file.source file.start
  unit_holds m extent file is of mark =
      let unit = unit_is_at m extent is in
      let number : extent.file ≡ unit.number = omega (arith, unit.of_file) in
      let same : unit.file ≡ file = one (slice_get (files_of noted.plan source target) extent.file) unit.file file (ap (slice_get (files_of noted.plan source target)) number ∙ unit.is_file) of in
      let its_item : unit.unit.item ≡ file.item = unit.item ∙ ap (λ (f : Copied). f.item) same in
      let at = is_file_at extent.file file of in
      let holds = is_open.follows.marks.unit_holds m unit.unit unit.is mark in
      let at_item : Holds unit.unit.range (get (tree_of source) (key_of file.item.path)) (get (tree_of target) (key_of file.item.path)) =
      subst (λ (item : Item). Holds unit.unit.range (get (tree_of source) (key_of item.path)) (get (tree_of target) (key_of item.path))) its_item holds in
      subst (λ o. Holds (range_of extent) o file.start) (source_node extent.file file at)
      (subst (λ o. Holds (range_of extent) (get (tree_of source) (key_of file.item.path)) o) (target_node extent.file file at)
      (subst (λ (r : Range). Holds r (get (tree_of source) (key_of file.item.path)) (get (tree_of target) (key_of file.item.path))) unit.range at_item))

  -- the state
  pub opened_sound : are_rising source ≡ true → are_rising target ≡ true → Sound (opened noted rules source target retries)
  opened_sound source_rising target_rising = record {
    laid_out = record {
      is_open = is_open;
      source_rising = source_rising;
      target_rising = target_rising;
      files = λ n. numbered_map (λ (row : FileRow). row.file) (λ file n. opened_file file (slice_get noted.finished n)) 0 (files_of noted.plan source target) n (λ file i. refl);
      units = λ n. numbered_map (λ (row : UnitRow). row.extent) (λ extent n. opened_unit extent (slice_get noted.units n)) 0 (extents_of noted.plan source target) n (λ extent i. refl);
    };
    files = λ n row e.
        let file = opened_file_at n row e in
        let at = is_file_at n file.0 file.1 in
        let way = IsOnWay rules noted.plan file.0.item file.0.source file.0.start in
        let end = λ (had : Option rc.Node). had ≡ copy_goal rules noted.plan file.0.item file.0.source file.0.start in
        subst (IsSoundFile (opened noted rules source target retries) n) file.2 (record {
          ways = All-cons way file.0.start [] (file_way n file.0 at) (All-nil way);
          ended = λ done. All-cons end file.0.start [] (file_end n file.0 at (done_is_marked file.0 (slice_get noted.finished n) done)) (All-nil end);
          unput = λ done. refl;
          closed = λ done. units_marked n file.0 file.1 (done_is_marked file.0 (slice_get noted.finished n) done);
          bytes_stay = λ without. refl;
        });
    units = λ m row file_of e of.
        let extent = opened_unit_at m row e in
        let file = opened_file_at row.extent.file file_of of in
        let its : slice_get (files_of noted.plan source target) extent.0.file ≡ Some file.0 = ap (λ (row : UnitRow). slice_get (files_of noted.plan source target) row.extent.file) extent.2 ∙ file.1 in
        let holds = Holds (range_of extent.0) file.0.source in
        subst (λ (row : UnitRow). IsSoundUnit row file_of) extent.2
        (subst (IsSoundUnit (opened_unit extent.0 (slice_get noted.units m))) file.2 (record {
          held = λ settled. All-cons holds file.0.start [] (unit_holds m extent.0 file.0 extent.1 its (settled_is_marked extent.0 (slice_get noted.units m) settled)) (All-nil holds);
          apart = λ settled. All-nil (IsApart extent.0);
          holding = subst (λ o. IfSome o (IsSoundHolding extent.0 file.0.source file.0.start)) (sym (none_held extent.0 (slice_get noted.units m))) tt;
        }));
    marked = λ m row e mark.
        let extent = opened_unit_at m row e in
        subst (λ (row : UnitRow). is_marked row.state ≡ true) extent.2 (marked_is_marked extent.0 (slice_get noted.units m) mark);
    finished = λ n row e mark.
        let file = opened_file_at n row e in
        subst (λ (row : FileRow). is_finished row.state ≡ true) file.2 (marked_is_finished file.0 (slice_get noted.finished n) mark);
    next = omega arith;
    tickets = λ m row h e held. absurd (no_holding m row h e held);
    apart = λ m k row other h g e f held also same. absurd (no_holding m row h e held);
  }
    where
      no_holding : (m : ℕ) (row : UnitRow) (h : Holding) → slice_get (opened_units noted.units (extents_of noted.plan source target)) m ≡ Some row → holding_of row.state ≡ Some h → ⊥
      no_holding m row h e held =
          let extent = opened_unit_at m row e in
          some_none h (sym (none_held extent.0 (slice_get noted.units m)) ∙ ap (λ (row : UnitRow). holding_of row.state) extent.2 ∙ held)
