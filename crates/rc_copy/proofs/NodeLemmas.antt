-- What the steps of a copy make of one node.
use Rattle.std.proofs.Common.{◌≡◌, ◌≢◌, ℕ, ◌-◌, ◌≤◌, Bool, true, false, ◌&&◌, List, [], ◌∷◌, Option, Some, None, Result, Ok, Err, length, take, inl, inr, refl, sym, ap, ◌∙◌, arith, lt-ltb, length-append}
use Rattle.std.proofs.Math.Seq.{take-length}
use Rattle.std.proofs.lemmas.Bool.{true≢false, cases_lt}
use Rattle.std.proofs.lemmas.List.{length-replicate, length-take}
use Rattle.std.specs.Prelude.{IsSomeAnd, ◌⊎◌, nat_lt, max, option_map, replicate, if◌then◌else◌}
use Rattle.std.specs.FinMap.{get}
use Rattle.rc_tree.specs.declared.attr.Kind.TheVariants.{File}
use Rattle.rc_tree.specs.declared.props.Props.{Props}
use Rattle.rc_tree.specs.Tree.{Node, Tree}
use Rattle.rc_class.specs.declared.class.Class.{Class}
use Rattle.rc_class.specs.declared.class.Class.TheVariants.{Lonely, Extra, Newer, Older, Changed, Tweaked, Same, Mismatched}
use Rattle.rc_class.specs.declared.decision.Act.{Act}
use Rattle.rc_class.specs.declared.decision.Act.TheVariants as act
use Rattle.rc_class.specs.declared.item.Item.{Item}
use Rattle.rc_class.specs.Class.{is_lonely}
use Rattle.rc_class.specs.Goal.{picked, archive_alone, copied_file, copied_props, copy_base, new_file, fresh_props, goal_of_act}
use Rattle.rc_class.specs.Units.{is_copy}
use Rattle.rc_volume.specs.declared.want.Want.{Want}
use Rattle.rc_volume.specs.Reading.{Opens, part_of}
use Rattle.rc_volume.specs.declared.site.SiteErr.{SiteErr}
use Rattle.rc_volume.specs.declared.site.SiteErr.TheVariants as site_err
use Rattle.rc_volume.specs.Site.{Puts, ReadsFrom, Resizes, Turns, bytes_in, no_props, resized, with_props}
use Rattle.rc_copy.specs.declared.err.CopyErr.{CopyErr}
use Rattle.rc_copy.specs.declared.copying.Copying.{Copying}
use Rattle.rc_copy.specs.Copying.{begun_file, copied, finished_props, goal_under, with_bytes_of, Copies, Fills, Finishes, GivesProps, IsBetween, IsHalfCopied, IsOnItsWay, IsRefilled}
use Rattle.rc_copy.specs.Reading.{is_read}
use Rattle.rc_copy.proofs.CopyableLemmas.{HasFiles}

same_some : (x y : Node) → Some x ≡ Some y → x ≡ y
same_some x y e = cc

-- Bytes

-- brought to its length and filled, a file has the source's bytes
pub given : (with_bytes : Bool) (source bytes : List ℕ) (size : ℕ) (before mid now : Option Node) → with_bytes ≡ true → part_of 0 size bytes ≡ source → mid ≡ option_map {T = Node} (resized size) before → now ≡ option_map (λ (node : Node). record node { bytes = part_of 0 size bytes }) mid → now ≡ option_map (with_bytes_of with_bytes source) before
given with_bytes source bytes size before mid now flagged whole first second =
    second ∙ ap (λ (o : Option Node). option_map (λ (node : Node). record node { bytes = part_of 0 size bytes }) o) first ∙ at before
  where
    at : (o : Option Node) → option_map (λ (node : Node). record node { bytes = part_of 0 size bytes }) (option_map (resized size) o) ≡ option_map (with_bytes_of with_bytes source) o
    at None = refl
    at (Some node) =
        ap (λ (bs : List ℕ). Some (record node { bytes = bs })) (whole ∙ ap (λ b. picked b source node.bytes) (sym flagged))

length-resized : (size : ℕ) (node : Node) → length (resized size node).bytes ≡ size
length-resized size node =
    length-append (take size node.bytes) (replicate (size - length node.bytes) 0)
    ∙ (let a = length-take size node.bytes in let b = length-replicate {A = ℕ} (size - length node.bytes) 0 in omega (arith, a, b))

-- a length that was half changed leaves other bytes
pub refilled_after : (size : ℕ) (before mid now : Option Node) → mid ≡ option_map (resized size) before → Turns (IsRefilled size) mid now → Turns (IsRefilled size) before now
refilled_after size None mid now first t = absurd (none_some t.before (sym first ∙ t.was))
  where
    none_some : (x : Node) → None ≡ Some x → ⊥
    none_some x e = cc
refilled_after size (Some node) mid now first t =
    let same : t.before ≡ resized size node = same_some t.before (resized size node) (sym t.was ∙ first) in
    let len : length t.before.bytes ≡ size = ap (λ (n : Node). length n.bytes) same ∙ length-resized size node in
    record {
      before = node;
      now = t.now;
      was = refl;
      is = t.is;
      by = record {
        rest = t.by.rest ∙ ap (λ (n : Node). record n { bytes = t.now.bytes }) same;
        no_longer = omega (arith, t.by.no_longer, len);
      };
    }

both : (a b c : Bool) → a ≡ true → b ≡ true → c ≡ true → a && (b && c) ≡ true
both a b c e f g = ap (λ x. x && (b && c)) e ∙ ap (λ x. x && c) f ∙ g

no_bytes : (xs : List ℕ) → length xs ≤ 0 → xs ≡ []
no_bytes [] l = refl
no_bytes (x ∷ xs) l = absurd (omega (arith, l))

-- the reader shows all bytes of a file that is copied with them
pub read_whole : (source : Tree) (wants : List Want) (bytes : List (List ℕ) → List ℕ) (key : List (List ℕ)) (with_bytes : Bool) (item : Item) → with_bytes ≡ true → is_copy item.act ≡ true → (is_read with_bytes item ≡ true → Opens wants key 0 item.facts.size) → ReadsFrom source wants bytes → length (bytes_in (get source key)) ≡ item.facts.size → part_of 0 item.facts.size (bytes key) ≡ bytes_in (get source key)
read_whole source wants bytes key with_bytes item flagged copied opens reads long =
    elim (cases_lt 0 item.facts.size) [
      | inl some ↦
          reads key 0 item.facts.size (opens (both with_bytes (is_copy item.act) (nat_lt 0 item.facts.size) flagged copied (lt-ltb 0 item.facts.size some)))
          ∙ ap (λ n. take n (bytes_in (get source key))) (sym long) ∙ take-length (bytes_in (get source key))
      | inr none ↦
          ap (λ n. take n (bytes key)) (let e : item.facts.size ≡ 0 = omega (arith, none) in e)
          ∙ sym (no_bytes (bytes_in (get source key)) (omega (arith, long, none)))
    ]

-- The copy of one file

lonely_if : (c : Class) → is_lonely c ≡ true → c ≡ Lonely
lonely_if Lonely e = refl
lonely_if Extra e = absurd (true≢false (sym e))
lonely_if Newer e = absurd (true≢false (sym e))
lonely_if Older e = absurd (true≢false (sym e))
lonely_if Changed e = absurd (true≢false (sym e))
lonely_if Tweaked e = absurd (true≢false (sym e))
lonely_if Same e = absurd (true≢false (sym e))
lonely_if Mismatched e = absurd (true≢false (sym e))

lonely_so : (c : Class) → c ≢ Lonely → is_lonely c ≡ false
lonely_so Lonely other = absurd (other refl)
lonely_so Extra other = refl
lonely_so Newer other = refl
lonely_so Older other = refl
lonely_so Changed other = refl
lonely_so Tweaked other = refl
lonely_so Same other = refl
lonely_so Mismatched other = refl

goal_of_copy : (copying : Copying) (class : Class) (act : Act) (from : Node) (target : Option Node) → is_copy act ≡ true → goal_of_act copying.rules copying.with_bytes copying.moment class act from target ≡ option_map (copied_file copying.rules copying.with_bytes from) (copy_base class copying.moment from target)
goal_of_copy copying class act.Copy from target e = refl
goal_of_copy copying class _ from target e = absurd (true≢false (sym e))

-- a file as a copy leaves it
abbrev pub copied_on : Copying → Item → Node → Node → Node
copied_on copying item from begun =
    record (with_bytes_of copying.with_bytes from.bytes begun) { props = finished_props copying item from begun }

-- is the goal
pub copied_goal : (copying : Copying) (item : Item) (source target : Option Node) (is : HasFiles item source target) → is_copy item.act ≡ true → Some (copied_on copying item is.node (begun_file item.path target)) ≡ goal_under copying (Some item) source target
copied_goal copying item source target is copied =
    at target is.lonely is.beside ∙ sym (goal_of_copy copying item.class item.act is.node target copied)
    ∙ ap (λ (o : Option Node). goal_under copying (Some item) o target) (sym is.stands)
  where
    some_none : (x : Node) → Some x ≡ None → ⊥
    some_none x e = cc

    lonely_or : (b : Bool) → is_lonely item.class ≡ b → (item.class ≢ Lonely → ⊥) → is_lonely item.class ≡ true
    lonely_or true e h = e
    lonely_or false e h = absurd (h (λ same. true≢false (sym (ap is_lonely same) ∙ e)))

    lonely_copy : List ℕ → Bool → Node
    lonely_copy name b = record {
      spelling = name;
      kind = File;
      bytes = picked copying.with_bytes is.node.bytes [];
      props = copied_props copying.rules is.node.props (if b then fresh_props archive_alone copying.moment else no_props);
    }

    copy_over : Node → Bool → Node
    copy_over there b = record there {
      bytes = picked copying.with_bytes is.node.bytes there.bytes;
      props = copied_props copying.rules is.node.props (if b then fresh_props archive_alone copying.moment else there.props);
    }

    goal_on : Bool → Option Node → Option Node
    goal_on b t = option_map (copied_file copying.rules copying.with_bytes is.node) (if b then Some (new_file copying.moment is.node) else t)

    at : (t : Option Node) → (item.class ≡ Lonely → t ≡ None) → (item.class ≢ Lonely → IsSomeAnd t (λ there. there.kind ≡ File)) → Some (copied_on copying item is.node (begun_file item.path t)) ≡ option_map (copied_file copying.rules copying.with_bytes is.node) (copy_base item.class copying.moment is.node t)
    at None lonely beside =
        let so = lonely_or (is_lonely item.class) refl beside in
        ap (λ (name : List ℕ). Some (lonely_copy name (is_lonely item.class))) is.spelled
        ∙ ap (λ (b : Bool). Some (lonely_copy is.node.spelling b)) so
        ∙ sym (ap (λ (b : Bool). goal_on b None) so)
    at (Some there) lonely beside =
        let so = lonely_so item.class (λ same. some_none there (lonely same)) in
        ap (λ (b : Bool). Some (copy_over there b)) so
        ∙ sym (ap (λ (b : Bool). goal_on b (Some there)) so)

pub filled_is : (copying : Copying) (item : Item) (source target begun filled : Option Node) (is : HasFiles item source target) → begun ≡ Some (begun_file item.path target) → filled ≡ option_map (with_bytes_of copying.with_bytes (bytes_in source)) begun → filled ≡ Some (with_bytes_of copying.with_bytes is.node.bytes (begun_file item.path target))
filled_is copying item source target begun filled is first second =
    second ∙ ap (λ (o : Option Node). option_map (with_bytes_of copying.with_bytes (bytes_in source)) o) first
    ∙ ap (λ (o : Option Node). Some (with_bytes_of copying.with_bytes (bytes_in o) (begun_file item.path target))) is.stands

-- the copy of a file is done
pub copied_so : (copying : Copying) (item : Item) (source target begun filled now : Option Node) (is : HasFiles item source target) → is_copy item.act ≡ true → begun ≡ Some (begun_file item.path target) → filled ≡ option_map (with_bytes_of copying.with_bytes (bytes_in source)) begun → now ≡ option_map (λ (node : Node). with_props (finished_props copying item is.node node) node) filled → now ≡ goal_under copying (Some item) source target
copied_so copying item source target begun filled now is copied first second third =
    third
    ∙ ap (λ (o : Option Node). option_map (λ (node : Node). with_props (finished_props copying item is.node node) node) o) (filled_is copying item source target begun filled is first second)
    ∙ copied_goal copying item source target is copied

-- what a copy makes of a key, and what another item does
pub copied_is : (copying : Copying) (item : Item) (source target : Option Node) → is_copy item.act ≡ true → copied copying item source target ≡ goal_under copying (Some item) source target
copied_is copying item source target copies = ap (λ (b : Bool). if b then goal_under copying (Some item) source target else target) copies

pub passed_over : (copying : Copying) (item : Item) (source target : Option Node) → is_copy item.act ≡ false → copied copying item source target ≡ target
passed_over copying item source target other = ap (λ (b : Bool). if b then goal_under copying (Some item) source target else target) other

-- On its way

-- what a copy begins with is a file
pub begun_kind : (item : Item) (source target : Option Node) → HasFiles item source target → (begun_file item.path target).kind ≡ File
begun_kind item source None is = refl
begun_kind item source (Some there) is =
    kind_if (is_lonely item.class) refl
  where
    some_none : Some there ≡ None → ⊥
    some_none e = cc

    kind_if : (b : Bool) → is_lonely item.class ≡ b → there.kind ≡ File
    kind_if true e = absurd (some_none (is.lonely (lonely_if item.class e)))
    kind_if false e = is.beside (λ same. true≢false (sym (ap is_lonely same) ∙ e))

-- a file of the begun one's spelling and properties, with other bytes where bytes go along
half_filled : (copying : Copying) (item : Item) (source target : Option Node) (node : Node) → HasFiles item source target → node ≡ record (begun_file item.path target) { bytes = node.bytes } → (copying.with_bytes ≡ false → node.bytes ≡ (begun_file item.path target).bytes) → length node.bytes ≤ max (length (begun_file item.path target).bytes) item.facts.size → IsHalfCopied copying item source target node
half_filled copying item source target node is rest bytes no_longer = record {
  is_file = ap (λ (n : Node). n.kind) rest ∙ begun_kind item source target is;
  spelling = ap (λ (n : Node). n.spelling) rest;
  bytes = bytes;
  no_longer = no_longer;
  props = inl (ap (λ (n : Node). n.props) rest);
}

-- a copy that has begun
pub begun_way : (copying : Copying) (item : Item) (source target now : Option Node) → HasFiles item source target → now ≡ Some (begun_file item.path target) → IsOnItsWay copying item source target now
begun_way copying item source target now is here = record {
  node = begun_file item.path target;
  stands = here;
  half = half_filled copying item source target (begun_file item.path target) is refl (λ _. refl) (omega arith);
}

-- and whose bytes are going along
pub torn_way : (copying : Copying) (item : Item) (source target begun now : Option Node) → HasFiles item source target → copying.with_bytes ≡ true → begun ≡ Some (begun_file item.path target) → Turns (IsRefilled item.facts.size) begun now → IsOnItsWay copying item source target now
torn_way copying item source target begun now is flagged first t =
    let same : t.before ≡ begun_file item.path target = same_some t.before (begun_file item.path target) (sym t.was ∙ first) in
    record {
      node = t.now;
      stands = t.is;
      half =
          half_filled copying item source target t.now is (t.by.rest ∙ ap (λ (n : Node). record n { bytes = t.now.bytes }) same)
          (λ off. absurd (true≢false (sym flagged ∙ off)))
          (let len = ap (λ (n : Node). length n.bytes) same in omega (arith, t.by.no_longer, len));
    }

-- the source's file has the bytes that the item counts
pub sized : (source target : Option Node) (item : Item) → HasFiles item source target → length (bytes_in source) ≡ item.facts.size
sized source target item is = ap (λ o. length (bytes_in o)) is.stands ∙ sym (ap (λ facts. facts.size) is.facts)

picked_off : (b : Bool) (source old : List ℕ) → b ≡ false → picked b source old ≡ old
picked_off b source old e = ap (λ x. picked x source old) e

picked_length : (b : Bool) (source old : List ℕ) → length (picked b source old) ≤ max (length old) (length source)
picked_length true source old = omega arith
picked_length false source old = omega arith

-- whose bytes have gone along
pub filled_way : (copying : Copying) (item : Item) (source target now : Option Node) (is : HasFiles item source target) → now ≡ Some (with_bytes_of copying.with_bytes is.node.bytes (begun_file item.path target)) → IsOnItsWay copying item source target now
filled_way copying item source target now is here =
    let begun = begun_file item.path target in
    let bytes = picked copying.with_bytes is.node.bytes begun.bytes in
    let fits : length bytes ≤ max (length begun.bytes) (length is.node.bytes) = picked_length copying.with_bytes is.node.bytes begun.bytes in
    let size : item.facts.size ≡ length is.node.bytes = ap (λ facts. facts.size) is.facts in
    record {
      node = with_bytes_of copying.with_bytes is.node.bytes begun;
      stands = here;
      half =
          half_filled copying item source target (with_bytes_of copying.with_bytes is.node.bytes begun) is refl
          (λ off. picked_off copying.with_bytes is.node.bytes begun.bytes off) (omega (arith, fits, size));
    }

-- and that is done
pub goal_way : (copying : Copying) (item : Item) (source target now : Option Node) → HasFiles item source target → is_copy item.act ≡ true → now ≡ goal_under copying (Some item) source target → IsOnItsWay copying item source target now
goal_way copying item source target now is copied here =
    let begun = begun_file item.path target in
    let done = copied_on copying item is.node begun in
    let reached : goal_under copying (Some item) source target ≡ Some done = sym (copied_goal copying item source target is copied) in
    let bytes = picked copying.with_bytes is.node.bytes begun.bytes in
    let fits : length bytes ≤ max (length begun.bytes) (length is.node.bytes) = picked_length copying.with_bytes is.node.bytes begun.bytes in
    let size : item.facts.size ≡ length is.node.bytes = ap (λ facts. facts.size) is.facts in
    record {
      node = done;
      stands = here ∙ reached;
      half = record {
        is_file = begun_kind item source target is;
        spelling = refl;
        bytes = λ off. picked_off copying.with_bytes is.node.bytes begun.bytes off;
        no_longer = omega (arith, fits, size);
        props = inr (ap (λ (o : Option Node). option_map (λ goal. goal.props) o) reached);
      };
    }

-- Failed calls

-- nothing was put
pub stays_refilled : (size : ℕ) (holds : Node → Type 0) (old new : Option Node) → IsSomeAnd old holds → new ≡ old → Turns (IsRefilled size) old new
stays_refilled size holds None new h same = absurd h
stays_refilled size holds (Some node) new h same = record {
  before = node;
  now = node;
  was = refl;
  is = same;
  by = record { rest = refl; no_longer = omega arith };
}

-- a length that could not be set
pub resize_failed : (T : Type 0) (e : SiteErr) (len : ℕ) (holds : Node → Type 0) (old new : Option Node) → IsSomeAnd old holds → Resizes {T = T} (Err e) len old new → Turns (IsRefilled len) old new
resize_failed T site_err.Failed len holds old new h t = record {
  before = t.before;
  now = t.now;
  was = t.was;
  is = t.is;
  by = record { rest = t.by.rest; no_longer = t.by.no_longer };
}
resize_failed T site_err.NoMemory len holds old new h same = stays_refilled len holds old new h same

-- bytes that could not be put
pub put_failed : (T : Type 0) (e : SiteErr) (off : ℕ) (bytes : List ℕ) (holds : Node → Type 0) (old new : Option Node) → IsSomeAnd old holds → Puts {T = T} (Err e) off bytes old new → Turns (IsRefilled 0) old new
put_failed T site_err.Failed off bytes holds old new h t = record {
  before = t.before;
  now = t.now;
  was = t.was;
  is = t.is;
  by = record { rest = t.by.rest; no_longer = omega (arith, t.by.size) };
}
put_failed T site_err.NoMemory off bytes holds old new h same = stays_refilled 0 holds old new h same

-- Properties

props_over : (copying : Copying) (item : Item) (from : Node) (props : Props) (old : Option Node) → ((node : Node) → old ≡ Some node → finished_props copying item from node ≡ props) → option_map (with_props props) old ≡ option_map (λ node. with_props (finished_props copying item from node) node) old
props_over copying item from props None same = refl
props_over copying item from props (Some node) same = ap (λ (p : Props). Some (with_props p node)) (sym (same node refl))

-- properties that were given are those of a copy
pub finishes_so : {T : Type 0} (result : Result T CopyErr) (copying : Copying) (item : Item) (from : Node) (props : Props) (old new : Option Node) → ((node : Node) → old ≡ Some node → finished_props copying item from node ≡ props) → GivesProps result props old new → Finishes result copying item from old new
finishes_so (Ok x) copying item from props old new same h = h ∙ props_over copying item from props old same
finishes_so (Err e) copying item from props old new same (inl h) = inl h
finishes_so (Err e) copying item from props old new same (inr h) = inr (h ∙ props_over copying item from props old same)

-- of a lonely copy, and of another
pub lonely_props : (copying : Copying) (item : Item) (from node : Node) (source : Props) → is_lonely item.class ≡ true → from.props ≡ source → finished_props copying item from node ≡ copied_props copying.rules source (fresh_props archive_alone copying.moment)
lonely_props copying item from node source lonely same =
    ap (λ (b : Bool). copied_props copying.rules from.props (if b then fresh_props archive_alone copying.moment else node.props)) lonely
    ∙ ap (λ (p : Props). copied_props copying.rules p (fresh_props archive_alone copying.moment)) same

standing_props : (copying : Copying) (item : Item) (from node : Node) (source old : Props) → is_lonely item.class ≡ false → from.props ≡ source → node.props ≡ old → finished_props copying item from node ≡ copied_props copying.rules source old
standing_props copying item from node source old other same props =
    ap (λ (b : Bool). copied_props copying.rules from.props (if b then fresh_props archive_alone copying.moment else node.props)) other
    ∙ ap (λ (p : Props). copied_props copying.rules p node.props) same
    ∙ ap (λ (p : Props). copied_props copying.rules source p) props

-- what was seen of a node are its properties
same_props : (node : Node) (o : Option Node) (props : Props) → o ≡ Some node → Some props ≡ option_map (λ (n : Node). n.props) o → node.props ≡ props
same_props node o props here seen = once node.props props (sym (seen ∙ ap (λ (p : Option Node). option_map (λ (n : Node). n.props) p) here))
  where
    once : (x y : Props) → Some x ≡ Some y → x ≡ y
    once x y e = cc

-- properties that were given over those that were seen
pub finishes_over : {T : Type 0} (result : Result T CopyErr) (copying : Copying) (item : Item) (from : Node) (source old : Props) (seen : Option Props) (before now : Option Node) → is_lonely item.class ≡ false → from.props ≡ source → seen ≡ Some old → seen ≡ option_map (λ (n : Node). n.props) before → GivesProps result (copied_props copying.rules source old) before now → Finishes result copying item from before now
finishes_over result copying item from source old seen before now other same one two given =
    finishes_so result copying item from (copied_props copying.rules source old) before now
    (λ node here. standing_props copying item from node source old other same (same_props node before old here (sym one ∙ two))) given

-- Steps of a copy, by what the last one answers

-- bytes that go into a file of their length
pub fills_so : {T : Type 0} (result : Result T CopyErr) (with_bytes : Bool) (source bytes : List ℕ) (size : ℕ) (before mid now : Option Node) → with_bytes ≡ true → part_of 0 size bytes ≡ source → mid ≡ option_map (resized size) before → Fills result (λ (node : Node). record node { bytes = part_of 0 size bytes }) size mid now → Fills result (with_bytes_of with_bytes source) size before now
fills_so (Ok x) with_bytes source bytes size before mid now flagged whole first second = given with_bytes source bytes size before mid now flagged whole first second
fills_so (Err e) with_bytes source bytes size before mid now flagged whole first second = refilled_after size before mid now first second

-- properties behind the bytes
copies_so : {T : Type 0} (result : Result T CopyErr) (copying : Copying) (item : Item) (source target begun filled now : Option Node) → HasFiles item source target → is_copy item.act ≡ true → begun ≡ Some (begun_file item.path target) → filled ≡ option_map (with_bytes_of copying.with_bytes (bytes_in source)) begun → ((from : Node) → source ≡ Some from → Finishes result copying item from filled now) → Copies result copying item source target now
copies_so (Ok x) copying item source target begun filled now is copies first second third =
    copied_so copying item source target begun filled now is copies first second (third is.node is.stands)
    ∙ sym (copied_is copying item source target copies)
copies_so (Err e) copying item source target begun filled now is copies first second third = (copies, either (third is.node is.stands))
  where
    either : (now ≡ filled) ⊎ (now ≡ option_map (λ (node : Node). with_props (finished_props copying item is.node node) node) filled) → IsBetween copying item source target now
    either (inl stays) = inr (filled_way copying item source target now is (stays ∙ filled_is copying item source target begun filled is first second))
    either (inr done) = inr (goal_way copying item source target now is copies (copied_so copying item source target begun filled now is copies first second done))

-- the same where no step changes the source
pub copies_through : {T : Type 0} (result : Result T CopyErr) (copying : Copying) (item : Item) (key : List (List ℕ)) (start begun filled : Tree) (target first second now : Option Node) → HasFiles item (get start key) target → is_copy item.act ≡ true → begun ≡ start → filled ≡ begun → first ≡ Some (begun_file item.path target) → second ≡ option_map (with_bytes_of copying.with_bytes (bytes_in (get begun key))) first → ((from : Node) → get filled key ≡ Some from → Finishes result copying item from second now) → Copies result copying item (get start key) target now
copies_through result copying item key start begun filled target first second now is copies one two begins fills finishes =
    copies_so result copying item (get start key) target first second now is copies begins
    (fills ∙ ap (λ (tree : Tree). option_map (with_bytes_of copying.with_bytes (bytes_in (get tree key))) first) one)
    (λ from here. finishes from (ap (λ (tree : Tree). get tree key) (two ∙ one) ∙ here))

-- a copy that did not begin well
pub begins_so : (copying : Copying) (item : Item) (source target now : Option Node) → HasFiles item source target → (now ≡ target) ⊎ (now ≡ Some (begun_file item.path target)) → IsBetween copying item source target now
begins_so copying item source target now is (inl stays) = inl stays
begins_so copying item source target now is (inr here) = inr (begun_way copying item source target now is here)
