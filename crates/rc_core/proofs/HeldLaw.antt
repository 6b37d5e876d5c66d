-- That what follows a held opening is held for the same start, and that a held opening follows itself.
use Rattle.std.proofs.Common.{◌≡◌, ℕ, suc, Bool, true, false, cond, not, List, [], ◌∷◌, refl, sym, ap, subst, ◌∙◌, ◌⊎◌, inl, inr, true≢false}
use Rattle.std.specs.Prelude.{Option, Some, None, slice_get}
use Rattle.std.specs.FinMap.{get}
use Rattle.std.specs.Ordering.{eq_by_cmp}
use Rattle.rc_tree.specs.declared.attr.Attr.{Attr}
use Rattle.rc_tree.specs.declared.attr.Kind.TheVariants.{File}
use Rattle.rc_tree.specs.declared.props.Props.{Props}
use Rattle.rc_tree.specs.Codes.{is_dir}
use Rattle.rc_tree.specs.Path.{key_cmp, key_of}
use Rattle.rc_tree.specs.Tree.{Node, Tree}
use Rattle.rc_tree.proofs.Keys.{same_key}
use Rattle.rc_class.specs.declared.class.Class.{Class}
use Rattle.rc_class.specs.declared.class.Class.TheVariants as class
use Rattle.rc_class.specs.declared.decision.Act.TheVariants as act
use Rattle.rc_class.specs.declared.facts.Facts.{Facts}
use Rattle.rc_class.specs.declared.item.Item.{Item}
use Rattle.rc_class.specs.declared.plan.Plan.{Plan}
use Rattle.rc_class.specs.declared.rules.Rules.{Rules}
use Rattle.rc_class.specs.Class.{is_lonely}
use Rattle.rc_class.specs.Goal.{adjusted, copied_file, copied_props, letter, over, picked}
use Rattle.rc_class.specs.Items.{are_rising, item_at}
use Rattle.rc_class.specs.Sides.{Acts, Beside, IsDecidedIn, IsEntryOf, may_act}
use Rattle.rc_class.specs.Start.{Start, IsPlanOf, goal_target}
use Rattle.rc_class.specs.Units.{is_copy}
use Rattle.rc_volume.specs.Images.{AreMixed}
use Rattle.rc_core.specs.Copies.{IsOnWay, IsOver, IsUnderway, MarksHold, copy_at, copy_goal}
use Rattle.rc_core.specs.Follows.{Follows, FollowsItself, HasFileOf, Image, IsDecided, IsHeld, IsHeldAt, IsHeldBy, IsHeldIn, Opening}
use Rattle.rc_core.proofs.Found.{both_true}
use Rattle.rc_core.proofs.ImagesFollow.{copied_act, is_copied}
use Rattle.rc_core.proofs.Lists.{same_some, some_none}
use Rattle.rc_core.proofs.RisingItems.{copied, own_found}
use Rattle.rc_core.proofs.Ways.{end_by}

-- Goals: what is copied over something on the way is what is copied over the old

picked_mixed : {A : Type 0} (flag : Bool) (source old now : A) → (now ≡ old) ⊎ (now ≡ picked flag source old) → picked flag source now ≡ picked flag source old
picked_mixed flag source old now (inl same) = ap (picked flag source) same
picked_mixed true source old now (inr goal) = refl
picked_mixed false source old now (inr goal) = goal

letter_twice : (clear put has : Bool) → letter clear put (letter clear put has) ≡ letter clear put has
letter_twice true put has = refl
letter_twice false true has = refl
letter_twice false false has = refl

abbrev copied_attr : Bool → Rules → Attr → Attr → Attr
copied_attr flag rules source old = adjusted rules (picked flag (over source old) old)

attr_twice : (flag : Bool) (rules : Rules) (source old : Attr) → copied_attr flag rules source (copied_attr flag rules source old) ≡ copied_attr flag rules source old
attr_twice true rules source old = refl
attr_twice false rules source old = λ i. record old {
  readonly = letter_twice rules.minus.readonly rules.plus.readonly old.readonly i;
  hidden = letter_twice rules.minus.hidden rules.plus.hidden old.hidden i;
  system = letter_twice rules.minus.system rules.plus.system old.system i;
  archive = letter_twice rules.minus.archive rules.plus.archive old.archive i;
  temporary = letter_twice rules.minus.temporary rules.plus.temporary old.temporary i;
  not_indexed = letter_twice rules.minus.not_indexed rules.plus.not_indexed old.not_indexed i;
}

attr_mixed : (rules : Rules) (source old now : Attr) → (now ≡ old) ⊎ (now ≡ copied_attr rules.attr rules source old) → copied_attr rules.attr rules source now ≡ copied_attr rules.attr rules source old
attr_mixed rules source old now (inl same) = ap (copied_attr rules.attr rules source) same
attr_mixed rules source old now (inr goal) = ap (copied_attr rules.attr rules source) goal ∙ attr_twice rules.attr rules source old

props_mixed : (rules : Rules) (source old now : Props) → AreMixed old (copied_props rules source old) now → copied_props rules source now ≡ copied_props rules source old
props_mixed rules source old now mixed = λ i. record {
  attr = attr_mixed rules source.attr old.attr now.attr mixed.attr i;
  created = picked_mixed rules.times source.created old.created now.created mixed.created i;
  written = picked_mixed rules.times source.written old.written now.written mixed.written i;
  access = picked_mixed rules.access source.access old.access now.access mixed.access i;
  owner = picked_mixed rules.owner source.owner old.owner now.owner mixed.owner i;
  audit = picked_mixed rules.audit source.audit old.audit now.audit mixed.audit i;
}

bytes_over : (with_bytes : Bool) (from old now : List ℕ) → (with_bytes ≡ false → now ≡ old) → picked with_bytes from now ≡ picked with_bytes from old
bytes_over true from old now same = refl
bytes_over false from old now same = same refl

over_goal : (rules : Rules) (with_bytes : Bool) (from old now : Node) → old.kind ≡ File → IsOver with_bytes old (copied_file rules with_bytes from old) now → copied_file rules with_bytes from now ≡ copied_file rules with_bytes from old
over_goal rules with_bytes from old now kind is = λ i. record {
  spelling = is.spelling i;
  kind = (is.is_file ∙ sym kind) i;
  bytes = bytes_over with_bytes from.bytes old.bytes now.bytes is.bytes i;
  props = props_mixed rules from.props old.props now.props is.props i;
}

underway_goal : (lonely : Bool) (rules : Rules) (plan : Plan) (from : Node) (old now : Option Node) → IsUnderway lonely plan.with_bytes old (end_by lonely rules plan from old) now → end_by lonely rules plan from now ≡ end_by lonely rules plan from old
underway_goal true rules plan from old now way = refl
underway_goal false rules plan from None now way = absurd way
underway_goal false rules plan from (Some old) None way = absurd way
underway_goal false rules plan from (Some old) (Some now) way = ap Some (over_goal rules plan.with_bytes from old now way.0 way.1)

same_goal : (rules : Rules) (plan : Plan) (item : Item) (source old now : Option Node) → IsOnWay rules plan item source old now → copy_goal rules plan item source now ≡ copy_goal rules plan item source old
same_goal rules plan item None old now way = refl
same_goal rules plan item (Some from) old now way = underway_goal (is_lonely item.class) rules plan from old now way

-- Ways: each begins where it is, and one goes on from another

nowhere : (lonely with_bytes : Bool) (old now other : Option Node) → IsUnderway lonely with_bytes old None now → IsUnderway lonely with_bytes other None now
nowhere true with_bytes old now other way = way
nowhere false with_bytes None now other way = absurd way
nowhere false with_bytes (Some old) now other way = absurd way

underway_itself : (lonely : Bool) (rules : Rules) (plan : Plan) (from : Node) (old now : Option Node) → IsUnderway lonely plan.with_bytes old (end_by lonely rules plan from old) now → IsUnderway lonely plan.with_bytes now (end_by lonely rules plan from now) now
underway_itself true rules plan from old now way = way
underway_itself false rules plan from None now way = absurd way
underway_itself false rules plan from (Some old) None way = absurd way
underway_itself false rules plan from (Some old) (Some now) way = (
  way.1.is_file,
  record {
    is_file = way.1.is_file;
    spelling = refl;
    props = record { attr = inl refl; created = inl refl; written = inl refl; access = inl refl; owner = inl refl; audit = inl refl };
    bytes = λ _. refl;
  },
)

way_itself : (rules : Rules) (plan : Plan) (item : Item) (source old now : Option Node) → IsOnWay rules plan item source old now → IsOnWay rules plan item source now now
way_itself rules plan item None old now way = nowhere (is_lonely item.class) plan.with_bytes old now now way
way_itself rules plan item (Some from) old now way = underway_itself (is_lonely item.class) rules plan from old now way

-- what is that of one or of another that is mixed is mixed
mixed_on : {A : Type 0} (old goal mid end now : A) → end ≡ goal → (mid ≡ old) ⊎ (mid ≡ goal) → (now ≡ mid) ⊎ (now ≡ end) → (now ≡ old) ⊎ (now ≡ goal)
mixed_on old goal mid end now same (inl first) (inl second) = inl (second ∙ first)
mixed_on old goal mid end now same (inr first) (inl second) = inr (second ∙ first)
mixed_on old goal mid end now same first (inr second) = inr (second ∙ same)

over_on : (with_bytes : Bool) (old goal mid end now : Node) → end ≡ goal → IsOver with_bytes old goal mid → IsOver with_bytes mid end now → IsOver with_bytes old goal now
over_on with_bytes old goal mid end now same first second = record {
  is_file = second.is_file;
  spelling = second.spelling ∙ first.spelling;
  props = record {
    attr = mixed_on old.props.attr goal.props.attr mid.props.attr end.props.attr now.props.attr (ap (λ (n : Node). n.props.attr) same) first.props.attr second.props.attr;
    created = mixed_on old.props.created goal.props.created mid.props.created end.props.created now.props.created (ap (λ (n : Node). n.props.created) same) first.props.created second.props.created;
    written = mixed_on old.props.written goal.props.written mid.props.written end.props.written now.props.written (ap (λ (n : Node). n.props.written) same) first.props.written second.props.written;
    access = mixed_on old.props.access goal.props.access mid.props.access end.props.access now.props.access (ap (λ (n : Node). n.props.access) same) first.props.access second.props.access;
    owner = mixed_on old.props.owner goal.props.owner mid.props.owner end.props.owner now.props.owner (ap (λ (n : Node). n.props.owner) same) first.props.owner second.props.owner;
    audit = mixed_on old.props.audit goal.props.audit mid.props.audit end.props.audit now.props.audit (ap (λ (n : Node). n.props.audit) same) first.props.audit second.props.audit;
  };
  bytes = λ without. second.bytes without ∙ first.bytes without;
}

underway_on : (lonely : Bool) (rules : Rules) (plan : Plan) (from : Node) (old mid now : Option Node) → IsUnderway lonely plan.with_bytes old (end_by lonely rules plan from old) mid → IsUnderway lonely plan.with_bytes mid (end_by lonely rules plan from mid) now → IsUnderway lonely plan.with_bytes old (end_by lonely rules plan from old) now
underway_on true rules plan from old mid now first second = second
underway_on false rules plan from None mid now first second = absurd first
underway_on false rules plan from (Some old) None now first second = absurd first
underway_on false rules plan from (Some old) (Some mid) None first second = absurd second
underway_on false rules plan from (Some old) (Some mid) (Some now) first second = (
  first.0,
  over_on plan.with_bytes old (copied_file rules plan.with_bytes from old) mid (copied_file rules plan.with_bytes from mid) now
      (over_goal rules plan.with_bytes from old mid first.0 first.1) first.1 second.1,
)

way_on : (rules : Rules) (plan : Plan) (item : Item) (source old mid now : Option Node) → IsOnWay rules plan item source old mid → IsOnWay rules plan item source mid now → IsOnWay rules plan item source old now
way_on rules plan item None old mid now first second = nowhere (is_lonely item.class) plan.with_bytes mid now old second
way_on rules plan item (Some from) old mid now first second = underway_on (is_lonely item.class) rules plan from old mid now first second

-- Items that are copied

-- its number, where it is found at a key
find_copy : (items : List Item) (key : List (List ℕ)) (item : Item) → item_at items key ≡ Some item → is_copy item.act ≡ true → (n : ℕ) × (slice_get (copied items) n ≡ Some item) × (key_of item.path ≡ key)
find_copy [] key item found copies = absurd (some_none item found)
find_copy (first ∷ items) key item found copies = by (λ found. find_copy items key item found copies) (eq_by_cmp key_cmp key (key_of first.path)) refl found
  where
    here : first ≡ item → (b : Bool) → is_copy first.act ≡ b → slice_get (cond b (first ∷ copied items) (copied items)) 0 ≡ Some item
    here same true so = ap Some same
    here same false so = absurd (true≢false (sym copies ∙ ap (λ (i : Item). is_copy i.act) (sym same) ∙ so))

    later : (b : Bool) (n : ℕ) → slice_get (copied items) n ≡ Some item → (m : ℕ) × (slice_get (cond b (first ∷ copied items) (copied items)) m ≡ Some item)
    later true n at = (suc n, at)
    later false n at = (n, at)

    by : (item_at items key ≡ Some item → (n : ℕ) × (slice_get (copied items) n ≡ Some item) × (key_of item.path ≡ key)) → (b : Bool) → eq_by_cmp key_cmp key (key_of first.path) ≡ b → cond b (Some first) (item_at items key) ≡ Some item → (n : ℕ) × (slice_get (copied (first ∷ items)) n ≡ Some item) × (key_of item.path ≡ key)
    by rests true so is =
        let same = same_some first item is in
        (0, here same (is_copy first.act) refl, ap (λ (i : Item). key_of i.path) (sym same) ∙ sym (same_key key (key_of first.path) so))
    by rests false so is =
        let rest = rests is in
        let at = later (is_copy first.act) rest.0 rest.1 in
        (at.0, at.1, rest.2)

-- one that is decided has its file in the source
has_entry : (of : Class) (item : Item) (source target : Option Node) → Beside of item source target → may_act of item.facts.kind act.Copy ≡ true → IsEntryOf item source
has_entry class.Lonely item source target beside may = beside.0
has_entry class.Extra item source target beside may = absurd (true≢false (sym (both_true (not (is_dir item.facts.kind)) false may).1))
has_entry class.Newer item source target beside may = beside.0
has_entry class.Older item source target beside may = beside.0
has_entry class.Changed item source target beside may = beside.0
has_entry class.Tweaked item source target beside may = beside.0
has_entry class.Same item source target beside may = beside.0
has_entry class.Mismatched item source target beside may = absurd (true≢false (sym (both_true (not (is_dir item.facts.kind)) false may).1))

file_of_entry : (item : Item) (source : Option Node) → IsEntryOf item source → HasFileOf item source
file_of_entry item source entry =
    subst (HasFileOf item) (sym entry.stands) (ap (λ (f : Facts). f.kind) (sym entry.facts), ap (λ (f : Facts). f.size) (sym entry.facts), entry.spelled)

decided_file : (start : Start) (moment : ℕ) (item : Item) → item.act ≡ act.Copy → IsDecidedIn start moment (key_of item.path) item → HasFileOf item (get start.source (key_of item.path))
decided_file start moment item copies decided =
    file_of_entry item (get start.source (key_of item.path))
    (has_entry item.class item (get start.source (key_of item.path)) (get start.target (key_of item.path)) decided.beside
    (subst (λ does. may_act item.class item.facts.kind does ≡ true) copies decided.allowed))

-- what stands at the key of a copied item of a plan that is held is on its way
way_held : (start : Start) (plan : Plan) (target : Tree) → are_rising plan.items ≡ true → ((key : List (List ℕ)) → IsHeldIn start plan target key) → (n : ℕ) (item : Item) → copy_at plan n ≡ Some item → IsOnWay start.rules plan item (get start.source (key_of item.path)) (get start.target (key_of item.path)) (get target (key_of item.path))
way_held start plan target rising held n item at =
    let key = key_of item.path in
    let here = subst (λ o. IsHeldAt start plan o (get start.source key) (get start.target key) (goal_target start plan.moment key) (get target key)) (own_found plan.items n item rising at) (held key) in
    here.1 (ap is_copy (copied_act plan.items n item at))

-- The marks of a plan hold of another beginning, where its copies have the same goals there
marks_hold : (rules : Rules) (plan : Plan) (units finished : List Bool) (source old mid now : Tree) → ((n : ℕ) (item : Item) → copy_at plan n ≡ Some item → copy_goal rules plan item (get source (key_of item.path)) (get mid (key_of item.path)) ≡ copy_goal rules plan item (get source (key_of item.path)) (get old (key_of item.path))) → MarksHold rules plan units finished source mid now → MarksHold rules plan units finished source old now
marks_hold rules plan units finished source old mid now same hold = record {
  unit_holds = hold.unit_holds;
  file_ends = λ n item at mark. hold.file_ends n item at mark ∙ same n item at;
  file_units = hold.file_units;
}

-- A held opening follows itself

module _ (start : Start) (opening : Opening) (rules : opening.rules ≡ start.rules) (not_last : opening.image.noted.last ≡ false) (held : IsHeld start opening.image) where
  abbrev plan : Plan
  plan = opening.image.noted.plan

  source_is : start.source ≡ opening.image.source
  source_is = sym (held.source not_last)

  way_here : (n : ℕ) (item : Item) → copy_at plan n ≡ Some item → IsOnWay start.rules plan item (get start.source (key_of item.path)) (get start.target (key_of item.path)) (get opening.image.target (key_of item.path))
  way_here n item at = way_held start plan opening.image.target held.plan.rising held.target n item at

  goal_here : (n : ℕ) (item : Item) → copy_at plan n ≡ Some item → copy_goal start.rules plan item (get start.source (key_of item.path)) (get opening.image.target (key_of item.path)) ≡ copy_goal start.rules plan item (get start.source (key_of item.path)) (get start.target (key_of item.path))
  goal_here n item at = same_goal start.rules plan item (get start.source (key_of item.path)) (get start.target (key_of item.path)) (get opening.image.target (key_of item.path)) (way_here n item at)

  pub held_follows : IsDecided start → FollowsItself opening
  held_follows decided = record {
    plan = refl;
    units = λ n mark. mark;
    finished = λ n mark. mark;
    not_last = not_last;
    source = refl;
    sources = λ n item at.
        let found = own_found plan.items n item held.plan.rising at in
        let is = sym (held.plan.items (key_of item.path)) ∙ found in
        subst (λ (source : Tree). HasFileOf item (get source (key_of item.path))) source_is
        (decided_file start plan.moment item (copied_act plan.items n item at) (decided plan.moment (key_of item.path) item is));
    elsewhere = λ key no_copy. refl;
    ways = λ n item at.
        let key = key_of item.path in
        let way = way_itself start.rules plan item (get start.source key) (get start.target key) (get opening.image.target key) (way_here n item at) in
        subst (λ (r : Rules). IsOnWay r plan item (get opening.image.source key) (get opening.image.target key) (get opening.image.target key)) (sym rules)
        (subst (λ (source : Tree). IsOnWay start.rules plan item (get source key) (get opening.image.target key) (get opening.image.target key)) source_is way);
    marks =
        subst (λ (r : Rules). MarksHold r plan opening.image.noted.units opening.image.noted.finished opening.image.source opening.image.target opening.image.target) (sym rules)
        (subst (λ (source : Tree). MarksHold start.rules plan opening.image.noted.units opening.image.noted.finished source opening.image.target opening.image.target) source_is
        (marks_hold start.rules plan opening.image.noted.units opening.image.noted.finished start.source opening.image.target start.target opening.image.target
        (λ n item at. sym (goal_here n item at)) held.marks));
  }

  -- What follows it is held

  module _ (image : Image) (follows : Follows opening image) where
    source_now : image.source ≡ start.source
    source_now = follows.source ∙ held.source not_last

    held_now : (key : List (List ℕ)) → IsHeldIn start image.noted.plan opening.image.target key
    held_now key = subst (λ (plan : Plan). IsHeldIn start plan opening.image.target key) (sym follows.plan) (held.target key)

    plan_now : IsPlanOf start image.noted.plan
    plan_now = subst (IsPlanOf start) (sym follows.plan) held.plan

    -- what a copy goes on from, and where it is
    way_now : (n : ℕ) (item : Item) → copy_at image.noted.plan n ≡ Some item → IsOnWay start.rules image.noted.plan item (get start.source (key_of item.path)) (get opening.image.target (key_of item.path)) (get image.target (key_of item.path))
    way_now n item at =
        let key = key_of item.path in
        subst (λ (r : Rules). IsOnWay r image.noted.plan item (get start.source key) (get opening.image.target key) (get image.target key)) rules
        (subst (λ (source : Tree). IsOnWay opening.rules image.noted.plan item (get source key) (get opening.image.target key) (get image.target key)) source_now
        (follows.ways n item at))

    copied_there : (key : List (List ℕ)) (item : Item) → item_at image.noted.plan.items key ≡ Some item → is_copy item.act ≡ true → IsOnWay start.rules image.noted.plan item (get start.source key) (get opening.image.target key) (get image.target key)
    copied_there key item found copies =
        let at = find_copy image.noted.plan.items key item found copies in
        subst (λ (k : List (List ℕ)). IsOnWay start.rules image.noted.plan item (get start.source k) (get opening.image.target k) (get image.target k)) at.2 (way_now at.0 item at.1)

    held_there : (key : List (List ℕ)) (o : Option Item) → item_at image.noted.plan.items key ≡ o → IsHeldAt start image.noted.plan o (get start.source key) (get start.target key) (goal_target start image.noted.plan.moment key) (get opening.image.target key) → IsHeldAt start image.noted.plan o (get start.source key) (get start.target key) (goal_target start image.noted.plan.moment key) (get image.target key)
    held_there key None found is = follows.elsewhere key (λ copies. subst (Acts act.Copy) found copies) ∙ is
    held_there key (Some item) found is = by (is_copy item.act) refl
      where
        stays : is_copy item.act ≡ false → get opening.image.target key ≡ get image.target key
        stays other = sym (follows.elsewhere key (λ copies. true≢false (sym (ap is_copy (subst (Acts act.Copy) found copies)) ∙ other)))

        by : (b : Bool) → is_copy item.act ≡ b → IsHeldAt start image.noted.plan (Some item) (get start.source key) (get start.target key) (goal_target start image.noted.plan.moment key) (get image.target key)
        by true copies = (
          subst (λ does. IsHeldBy does (get start.target key) (goal_target start image.noted.plan.moment key) (get image.target key)) (sym (is_copied item.act copies)) tt,
          λ _. way_on start.rules image.noted.plan item (get start.source key) (get start.target key) (get opening.image.target key) (get image.target key) (is.1 copies) (copied_there key item found copies),
        )
        by false other = subst (IsHeldAt start image.noted.plan (Some item) (get start.source key) (get start.target key) (goal_target start image.noted.plan.moment key)) (stays other) is

    pub follower_held : IsHeld start image
    follower_held = record {
      plan = plan_now;
      target = λ key. held_there key (item_at image.noted.plan.items key) refl (held_now key);
      marks =
          let hold = subst (λ (r : Rules). MarksHold r image.noted.plan image.noted.units image.noted.finished start.source opening.image.target image.target) rules
          (subst (λ (source : Tree). MarksHold opening.rules image.noted.plan image.noted.units image.noted.finished source opening.image.target image.target) source_now follows.marks) in
          marks_hold start.rules image.noted.plan image.noted.units image.noted.finished start.source start.target opening.image.target image.target
          (λ n item at.
          let key = key_of item.path in
          same_goal start.rules image.noted.plan item (get start.source key) (get start.target key) (get opening.image.target key)
          (way_held start image.noted.plan opening.image.target plan_now.rising held_now n item at)) hold;
      source = λ _. source_now;
      last = λ last. absurd (true≢false (sym last ∙ follows.not_last));
    }
