-- What a job decides of one key of two whole trees.
use Rattle.std.specs.Prelude.{ℕ, Bool, true, false, not, ◌&&◌, if◌then◌else◌, List, [], ◌++◌, Option, Some, None, option_map, length, nat_lt, take}
use Rattle.std.specs.List.{filter_map, list_any}
use Rattle.std.specs.FinMap.{get, entries, keys, from_entries}
use Rattle.std.specs.Ordering.{eq_by_cmp}
use Rattle.rc_tree.specs.declared.attr.Kind.{Kind}
use Rattle.rc_tree.specs.declared.attr.Kind.TheVariants.{File, Dir}
use Rattle.rc_tree.specs.Path.{key_cmp}
use Rattle.rc_tree.specs.Spelled.{spelled}
use Rattle.rc_tree.specs.Tree.{Node, Tree}
use Rattle.rc_class.specs.declared.class.Class.TheVariants.{Extra}
use Rattle.rc_class.specs.declared.decision.Act.{Act}
use Rattle.rc_class.specs.declared.decision.Act.TheVariants as act
use Rattle.rc_class.specs.declared.decision.After.{After}
use Rattle.rc_class.specs.declared.decision.After.TheVariants.{Nothing, RemoveSource, ClearArchive}
use Rattle.rc_class.specs.declared.item.Item.{Item}
use Rattle.rc_class.specs.Class.{class_against, facts_of}
use Rattle.rc_class.specs.Start.{Start}
use Rattle.rc_class.specs.Units.{is_copy}
use Rattle.rc_job.specs.declared.job.Job.{Job}
use Rattle.rc_filter.specs.Acts.{copies_bytes, grain_of, file_act, directory_act, extra_act, rules_of, kind_and_props_of}
use Rattle.rc_filter.specs.Releases.{after_act}
use Rattle.rc_filter.specs.Scope.{is_decided}

-- Files, by their own facts

-- a source file is copied, where the target has that at its key
abbrev pub copies_kind : Kind → Act → Bool
copies_kind File act = is_copy act
copies_kind Dir act = false

abbrev pub copies : Job → ℕ → List (List ℕ) → Option Node → Option Node → Bool
copies job moment key None target = false
copies job moment key (Some node) target =
    copies_kind node.kind (file_act job moment key (facts_of node) (option_map facts_of target))

-- the file of a key is decided, and copied
abbrev pub is_copied : Job → Tree → Tree → ℕ → List (List ℕ) → Bool
is_copied job source target moment key =
    copies job moment key (get source key) (get target key) && is_decided job source target key

-- What the source has, by what lies below it

-- the one of two acts that is for a kind
abbrev pub act_for : Kind → Act → Act → Act
act_for File file directory = file
act_for Dir file directory = directory

-- what is done with what the source has at a key, where some file at or below it is copied or none
abbrev pub source_act : Job → ℕ → List (List ℕ) → Bool → Node → Option Node → Act
source_act job moment key some_copied node target =
    act_for node.kind
    (file_act job moment key (facts_of node) (option_map facts_of target))
    (directory_act job key node.props (option_map kind_and_props_of target) some_copied)

abbrev pub kind_of : Node → Kind
kind_of node = node.kind

-- and what becomes of it then, where all that the source has below it is removed or something stays
abbrev pub source_after : Job → ℕ → List (List ℕ) → Bool → Bool → Node → Option Node → After
source_after job moment key some_copied all_moved node target =
    after_act job key node.kind (option_map kind_of target) (source_act job moment key some_copied node target) all_moved

-- What lies around a key

-- a key is another or lies below it
abbrev pub is_at_or_below : List (List ℕ) → List (List ℕ) → Bool
is_at_or_below above key = eq_by_cmp key_cmp (take (length above) key) above

abbrev pub is_below : List (List ℕ) → List (List ℕ) → Bool
is_below above key = is_at_or_below above key && nat_lt (length above) (length key)

-- some file at or below a key is copied
abbrev pub some_copied : Job → Tree → Tree → ℕ → List (List ℕ) → Bool
some_copied job source target moment key =
    list_any (λ below. is_at_or_below key below && is_copied job source target moment below) (keys source)

-- something that a tree has below a key doesn't pass a test
abbrev pub some_stays : (List (List ℕ) → Bool) → Tree → List (List ℕ) → Bool
some_stays passes tree key = list_any (λ below. is_below key below && not (passes below)) (keys tree)

abbrev pub is_purge : Act → Bool
is_purge act.Purge = true
is_purge _ = false

-- what the target has is removed, where all below it is: the source has nothing there
abbrev pub purges : Job → List (List ℕ) → Option Node → Option Node → Bool
purges job key None (Some node) = is_purge (extra_act job key node.kind true)
purges job key None None = false
purges job key (Some node) target = false

-- the key is decided, and what the target has there passes its own test of what is removed
abbrev pub is_purgeable : Job → Tree → Tree → List (List ℕ) → Bool
is_purgeable job source target key = purges job key (get source key) (get target key) && is_decided job source target key

-- all that the target has below a key is removed
abbrev pub all_purged : Job → Tree → Tree → List (List ℕ) → Bool
all_purged job source target key = not (some_stays (is_purgeable job source target) target key)

abbrev pub is_removal : After → Bool
is_removal Nothing = false
is_removal RemoveSource = true
is_removal ClearArchive = false

-- what the source has is removed, where all below it is
abbrev pub moves : Job → ℕ → List (List ℕ) → Bool → Option Node → Option Node → Bool
moves job moment key some_copied None target = false
moves job moment key some_copied (Some node) target = is_removal (source_after job moment key some_copied true node target)

-- the key is decided, and what the source has there passes its own test
abbrev pub is_movable : Job → Tree → Tree → ℕ → List (List ℕ) → Bool
is_movable job source target moment key =
    moves job moment key (some_copied job source target moment key) (get source key) (get target key)
    && is_decided job source target key

-- all that the source has below a key is removed
abbrev pub all_moved : Job → Tree → Tree → ℕ → List (List ℕ) → Bool
all_moved job source target moment key = not (some_stays (is_movable job source target moment) source key)

-- these three of a key
pub record Around : Type 0 where
  pub some_copied : Bool
  pub all_purged : Bool
  pub all_moved : Bool

abbrev pub around : Job → Tree → Tree → ℕ → List (List ℕ) → Around
around job source target moment key = record {
  some_copied = some_copied job source target moment key;
  all_purged = all_purged job source target key;
  all_moved = all_moved job source target moment key;
}

-- Items

-- the item of a key that the source has
abbrev pub source_item : Job → ℕ → List (List ℕ) → List (List ℕ) → Around → Node → Option Node → Item
source_item job moment key path near node target = record {
  path = path;
  act = source_act job moment key near.some_copied node target;
  class = class_against (grain_of job) (facts_of node) (option_map facts_of target);
  after = source_after job moment key near.some_copied near.all_moved node target;
  facts = facts_of node;
}

-- the item of a key that the target alone has
abbrev pub extra_item : Job → List (List ℕ) → List (List ℕ) → Around → Node → Item
extra_item job key path near node = record {
  path = path;
  act = extra_act job key node.kind near.all_purged;
  class = Extra;
  after = Nothing;
  facts = facts_of node;
}

-- the item of a key that the two sides spell and have so, where that lies around it
abbrev pub item_of : Job → ℕ → List (List ℕ) → List (List ℕ) → List (List ℕ) → Around → Option Node → Option Node → Option Item
item_of job moment key source_path target_path near (Some node) target = Some (source_item job moment key source_path near node target)
item_of job moment key source_path target_path near None (Some node) = Some (extra_item job key target_path near node)
item_of job moment key source_path target_path near None None = None

-- what a job decides of a key of two trees, at a moment
abbrev pub decided_at : Job → Tree → Tree → ℕ → List (List ℕ) → Option Item
decided_at job source target moment key =
    if is_decided job source target key
    then item_of job moment key (spelled source key) (spelled target key) (around job source target moment key)
    (get source key) (get target key)
    else None

-- the keys of either tree, in their order
abbrev pub keys_of : Tree → Tree → List (List (List ℕ))
keys_of source target = keys (from_entries {R = key_cmp} (entries source ++ entries target))

-- all that a job decides of two trees, at a moment
abbrev pub planned_items : Job → Tree → Tree → ℕ → List Item
planned_items job source target moment = filter_map (decided_at job source target moment) (keys_of source target)

-- where a run of a job on two trees begins
abbrev pub start_of : Job → Tree → Tree → Start
start_of job source target = record {
  source = source;
  target = target;
  job = [];
  rules = rules_of job;
  with_bytes = copies_bytes job;
  decided = decided_at job source target;
}
