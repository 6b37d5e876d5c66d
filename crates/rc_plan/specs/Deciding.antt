-- What a job decides of a row, by what becomes of what lies below it.
use Rattle.std.specs.Prelude.{◌≡◌, ℕ, Bool, ◌&&◌, List, Option, Some, None, option_map, if◌then◌else◌}
use Rattle.rc_tree.specs.declared.entry.Entry.{Entry}
use Rattle.rc_tree.specs.Path.{key_of}
use Rattle.rc_tree.specs.Tree.{Tree}
use Rattle.rc_class.specs.declared.class.Class.TheVariants.{Extra}
use Rattle.rc_class.specs.declared.decision.Act.{Act}
use Rattle.rc_class.specs.declared.decision.Act.TheVariants.{Mismatch}
use Rattle.rc_class.specs.declared.decision.After.TheVariants.{Nothing}
use Rattle.rc_class.specs.declared.item.Item.{Item}
use Rattle.rc_class.specs.Class.{class_against}
use Rattle.rc_class.specs.Items.{item_at}
use Rattle.rc_job.specs.declared.job.Job.{Job}
use Rattle.rc_filter.specs.Acts.{directory_act, extra_act, file_act, grain_of, kind_and_props}
use Rattle.rc_filter.specs.Decided.{decided_at}
use Rattle.rc_filter.specs.Releases.{after_act}
use Rattle.rc_filter.specs.Scope.{decides}
use Rattle.rc_plan.specs.declared.decisions.Below.{Below}
use Rattle.rc_plan.specs.declared.decisions.Decision.{Decision}
use Rattle.rc_plan.specs.declared.entries.Found.{Found}
use Rattle.rc_plan.specs.declared.pairs.Pair.{Pair}
use Rattle.rc_plan.specs.declared.pairs.Pair.TheVariants as paired
use Rattle.rc_plan.specs.declared.rows.Row.{Row}
use Rattle.rc_plan.specs.Found.{facts_found, kind_found}
use Rattle.rc_plan.specs.Pair.{pair_key, source_kind, target_kind}

-- the items are those of all decided keys
abbrev pub AreDecided : Job → Tree → Tree → ℕ → List Item → Type 0
AreDecided job source target moment items = (key : List (List ℕ)) → item_at items key ≡ decided_at job source target moment key

-- Decisions

-- the act of a directory, where the target has this and some file below is copied or none
abbrev pub against_directory : Job → Bool → List (List ℕ) → Entry → Option Entry → Act
against_directory job some_copied key directory None = Mismatch
against_directory job some_copied key directory (Some there) =
    directory_act job key directory.props (Some (kind_and_props there)) some_copied

abbrev pub act_of_directory : Job → Bool → List (List ℕ) → Entry → Option Found → Act
act_of_directory job some_copied key directory None = directory_act job key directory.props None some_copied
act_of_directory job some_copied key directory (Some target) =
    against_directory job some_copied key directory target.directory

-- of what the source has: a file, or this directory
abbrev pub source_act : Job → ℕ → Bool → Found → Option Found → Option Entry → Act
source_act job moment some_copied source target None =
    file_act job moment (key_of source.path) (facts_found source) (option_map facts_found target)
source_act job moment some_copied source target (Some directory) =
    act_of_directory job some_copied (key_of source.path) directory target

-- an act of what the source has, and what becomes of that then
abbrev pub with_after : Job → Bool → Found → Option Found → Act → Decision
with_after job all_moved source target does = record {
  act = does;
  after = after_act job (key_of source.path) (kind_found source) (option_map kind_found target) does all_moved;
}

abbrev pub source_decision : Job → ℕ → Below → Found → Option Found → Decision
source_decision job moment below source target =
    with_after job below.all_moved source target (source_act job moment below.some_copied source target source.directory)

-- of what the target alone has
abbrev pub extra_decision : Job → Below → Found → Decision
extra_decision job below target = record {
  act = extra_act job (key_of target.path) (kind_found target) below.all_purged;
  after = Nothing;
}

abbrev pub pair_decision : Job → ℕ → Below → Pair → Decision
pair_decision job moment below (paired.Source source target) = source_decision job moment below source target
pair_decision job moment below (paired.Extra target) = extra_decision job below target

-- of a row, where it is decided
abbrev pub row_decision : Job → ℕ → Below → Row → Option Decision
row_decision job moment below row =
    if decides job (pair_key row.pair) (source_kind row.pair) (target_kind row.pair) && row.inside
    then Some (pair_decision job moment below row.pair)
    else None

-- Items

-- the item of an entry that the source has
abbrev pub source_item : Job → Decision → Found → Option Found → Item
source_item job decision source target = record {
  path = source.path;
  act = decision.act;
  class = class_against (grain_of job) (facts_found source) (option_map facts_found target);
  after = decision.after;
  facts = facts_found source;
}

-- the item of an entry that the target alone has
abbrev pub extra_item : Decision → Found → Item
extra_item decision target = record {
  path = target.path;
  act = decision.act;
  class = Extra;
  after = decision.after;
  facts = facts_found target;
}

abbrev pub pair_item : Job → Decision → Pair → Item
pair_item job decision (paired.Source source target) = source_item job decision source target
pair_item job decision (paired.Extra target) = extra_item decision target
