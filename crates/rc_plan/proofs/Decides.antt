-- What is decided of a row of two trees is what the definitions decide of its key, by what lies below.
use Rattle.std.proofs.Common.{◌≡◌, ◌≢◌, ℕ, Bool, true, false, cond, not, ◌&&◌, ◌||◌, Option, Some, None, length, refl, sym, ap, ◌∙◌}
use Rattle.std.proofs.lemmas.Bool.{true≢false}
use Rattle.std.specs.Prelude.{option_map}
use Rattle.std.specs.FinMap.{get}
use Rattle.rc_tree.specs.declared.attr.Kind.{Kind}
use Rattle.rc_tree.specs.declared.attr.Kind.TheVariants.{File, Dir}
use Rattle.rc_tree.specs.declared.entry.Entry.{Entry}
use Rattle.rc_tree.specs.declared.props.Props.{Props}
use Rattle.rc_tree.specs.Path.{key_of}
use Rattle.rc_tree.specs.Spelled.{spelled}
use Rattle.rc_tree.specs.Tree.{Node, Tree}
use Rattle.rc_class.specs.declared.decision.Act.{Act}
use Rattle.rc_class.specs.declared.decision.Act.TheVariants as act
use Rattle.rc_class.specs.declared.decision.After.{After}
use Rattle.rc_class.specs.declared.decision.After.TheVariants as after
use Rattle.rc_class.specs.declared.decision.Reason.TheVariants as reason
use Rattle.rc_class.specs.declared.facts.Facts.{Facts}
use Rattle.rc_class.specs.declared.item.Item.{Item}
use Rattle.rc_class.specs.Class.{class_against, facts_of}
use Rattle.rc_class.specs.Units.{is_copy}
use Rattle.rc_job.specs.declared.job.Job.{Job}
use Rattle.rc_filter.specs.Acts.{differ, directory_act, extra_act, file_act, grain_of, is_all, kind_and_props_of, standing_act}
use Rattle.rc_filter.specs.Decided.{Around, act_for, around, copies, copies_kind, decided_at, extra_item as extra_at, is_copied as is_copied_at, item_of, kind_of, source_item as source_at}
use Rattle.rc_filter.specs.Matching.{is_excluded_directory, is_excluded_file, is_named}
use Rattle.rc_filter.specs.Releases.{after_act}
use Rattle.rc_filter.specs.Scope.{is_decided}
use Rattle.rc_volume.specs.Site.{entry_of}
use Rattle.rc_plan.specs.declared.decisions.Below.{Below}
use Rattle.rc_plan.specs.declared.entries.Found.{Found}
use Rattle.rc_plan.specs.declared.pairs.Pair.{Pair}
use Rattle.rc_plan.specs.declared.pairs.Pair.TheVariants as paired
use Rattle.rc_plan.specs.Deciding.{against_directory, extra_item, pair_decision, pair_item, source_act, source_item, with_after}
use Rattle.rc_plan.specs.Found.{directory_of, facts_found, found_of, kind_found}
use Rattle.rc_plan.specs.Pair.{pair_of}
use Rattle.rc_plan.proofs.Keyed.{Key, same_some, some_none}
use Rattle.rc_plan.proofs.Scans.{kind_back}

-- What was found, as what stands in a tree

facts_back : (path : Key) (node : Node) → facts_found (found_of path (entry_of node)) ≡ facts_of node
facts_back path node = ap (λ (k : Kind). record { kind = k; size = length node.bytes; written = node.props.written; attr = node.props.attr }) (kind_back node.kind (entry_of node))

abbrev seen : Key → Option Node → Option Found
seen path found = option_map (λ (node : Node). found_of path (entry_of node)) found

facts_all : (path : Key) (o : Option Node) → option_map facts_found (seen path o) ≡ option_map facts_of o
facts_all path None = refl
facts_all path (Some node) = ap (λ f. Some f) (facts_back path node)

kinds_all : (path : Key) (o : Option Node) → option_map kind_found (seen path o) ≡ option_map kind_of o
kinds_all path None = refl
kinds_all path (Some node) = ap (λ k. Some k) (kind_back node.kind (entry_of node))

against_same : (job : Job) (some : Bool) (key : Key) (directory : Entry) (there : Node) (k : Kind) → there.kind ≡ k → against_directory job some key directory (directory_of k (entry_of there)) ≡ standing_act job key directory.props k there.props
against_same job some key directory there File is = refl
against_same job some key directory there Dir is = ap (λ (k : Kind). standing_act job key directory.props k there.props) is

abbrev pub near_of : Below → Around
near_of below = record { some_copied = below.some_copied; all_purged = below.all_purged; all_moved = below.all_moved }

module _ (job : Job) (moment : ℕ) (key ours theirs : Key) (below : Below) where
  act_same : (node : Node) (target : Option Node) → key_of ours ≡ key → (k : Kind) → source_act job moment below.some_copied (found_of ours (entry_of node)) (seen theirs target) (directory_of k (entry_of node)) ≡ act_for k (file_act job moment key (facts_of node) (option_map facts_of target)) (directory_act job key node.props (option_map kind_and_props_of target) below.some_copied)
  act_same node target spelled File =
      ap (λ (q : Key). file_act job moment q (facts_found (found_of ours (entry_of node))) (option_map facts_found (seen theirs target))) spelled
      ∙ ap (λ (f : Facts). file_act job moment key f (option_map facts_found (seen theirs target))) (facts_back ours node)
      ∙ ap (λ (o : Option Facts). file_act job moment key (facts_of node) o) (facts_all theirs target)
  act_same node None spelled Dir = ap (λ (q : Key). directory_act job q node.props None below.some_copied) spelled
  act_same node (Some there) spelled Dir =
      ap (λ (q : Key). against_directory job below.some_copied q (entry_of node) (directory_of there.kind (entry_of there))) spelled
      ∙ against_same job below.some_copied key (entry_of node) there there.kind refl

  abbrev does : Node → Option Node → Act
  does node target = act_for node.kind (file_act job moment key (facts_of node) (option_map facts_of target)) (directory_act job key node.props (option_map kind_and_props_of target) below.some_copied)

  abbrev then : Node → Option Node → After
  then node target = after_act job key node.kind (option_map kind_of target) (does node target) below.all_moved

  abbrev whole : Act → After → Facts → Option Facts → Item
  whole does then facts there = record { path = ours; act = does; class = class_against (grain_of job) facts there; after = then; facts = facts }

  -- of what the source has
  source_same : (node : Node) (target : Option Node) → key_of ours ≡ key → pair_item job (pair_decision job moment below (paired.Source (found_of ours (entry_of node)) (seen theirs target))) (paired.Source (found_of ours (entry_of node)) (seen theirs target)) ≡ source_at job moment key ours (near_of below) node target
  source_same node target spelled =
      ap (λ (a : Act). source_item job (with_after job below.all_moved (found_of ours (entry_of node)) (seen theirs target) a) (found_of ours (entry_of node)) (seen theirs target)) (act_same node target spelled node.kind)
      ∙ ap (λ (q : Key). whole (does node target) (after_act job q (kind_found (found_of ours (entry_of node))) (option_map kind_found (seen theirs target)) (does node target) below.all_moved) (facts_found (found_of ours (entry_of node))) (option_map facts_found (seen theirs target))) spelled
      ∙ ap (λ (k : Kind). whole (does node target) (after_act job key k (option_map kind_found (seen theirs target)) (does node target) below.all_moved) (facts_found (found_of ours (entry_of node))) (option_map facts_found (seen theirs target))) (kind_back node.kind (entry_of node))
      ∙ ap (λ (o : Option Kind). whole (does node target) (after_act job key node.kind o (does node target) below.all_moved) (facts_found (found_of ours (entry_of node))) (option_map facts_found (seen theirs target))) (kinds_all theirs target)
      ∙ ap (λ (f : Facts). whole (does node target) (then node target) f (option_map facts_found (seen theirs target))) (facts_back ours node)
      ∙ ap (λ (o : Option Facts). whole (does node target) (then node target) (facts_of node) o) (facts_all theirs target)

  -- of what the target alone has
  extra_same : (node : Node) → key_of theirs ≡ key → pair_item job (pair_decision job moment below (paired.Extra (found_of theirs (entry_of node)))) (paired.Extra (found_of theirs (entry_of node))) ≡ extra_at job key theirs (near_of below) node
  extra_same node spelled =
      ap (λ (q : Key). extra_item (record { act = extra_act job q (kind_found (found_of theirs (entry_of node))) below.all_purged; after = after.Nothing }) (found_of theirs (entry_of node))) spelled
      ∙ ap (λ (k : Kind). extra_item (record { act = extra_act job key k below.all_purged; after = after.Nothing }) (found_of theirs (entry_of node))) (kind_back node.kind (entry_of node))
      ∙ ap (λ (f : Facts). record (extra_at job key theirs (near_of below) node) { facts = f }) (facts_back theirs node)

  pub items_same : (source target : Option Node) (pair : Pair) → (source ≢ None → key_of ours ≡ key) → (target ≢ None → key_of theirs ≡ key) → pair_of (seen ours source) (seen theirs target) ≡ Some pair → Some (pair_item job (pair_decision job moment below pair) pair) ≡ item_of job moment key ours theirs (near_of below) source target
  items_same None None pair mine yours e = absurd (some_none pair e)
  items_same None (Some node) pair mine yours e =
      ap (λ (p : Pair). Some (pair_item job (pair_decision job moment below p) p)) (sym (same_some _ pair e))
      ∙ ap (λ (item : Item). Some item) (extra_same node (yours (λ e. cc)))
  items_same (Some node) target pair mine yours e =
      ap (λ (p : Pair). Some (pair_item job (pair_decision job moment below p) p)) (sym (same_some _ pair e))
      ∙ ap (λ (item : Item). Some item) (source_same node target (mine (λ e. cc)))

-- A copied file is decided by itself

same_act : (k : Kind) (file directory other : Act) → copies_kind k file ≡ true → act_for k file directory ≡ act_for k file other
same_act File file directory other copied = refl
same_act Dir file directory other copied = absurd (true≢false (sym copied))

same_after : (job : Job) (key : Key) (k : Kind) (file : Act) (there : Option Kind) (does : Act) (all other : Bool) → copies_kind k file ≡ true → after_act job key k there does all ≡ after_act job key k there does other
same_after job key File file there does all other copied = refl
same_after job key Dir file there does all other copied = absurd (true≢false (sym copied))

module _ (job : Job) (moment : ℕ) (key ours theirs : Key) (near other : Around) where
  abbrev act_of : Node → Option Node → Act
  act_of node target = file_act job moment key (facts_of node) (option_map facts_of target)

  abbrev directory_act_of : Around → Node → Option Node → Act
  directory_act_of around node target = directory_act job key node.props (option_map kind_and_props_of target) around.some_copied

  abbrev item_with : Node → Option Node → Act → After → Item
  item_with node target does then = record { path = ours; act = does; class = class_against (grain_of job) (facts_of node) (option_map facts_of target); after = then; facts = facts_of node }

  pub file_alone : (source target : Option Node) → copies job moment key source target ≡ true → item_of job moment key ours theirs near source target ≡ item_of job moment key ours theirs other source target
  file_alone None target copied = absurd (true≢false (sym copied))
  file_alone (Some node) target copied =
      ap (λ (a : Act). Some (item_with node target a (after_act job key node.kind (option_map kind_of target) a near.all_moved)))
      (same_act node.kind (act_of node target) (directory_act_of near node target) (directory_act_of other node target) copied)
      ∙ ap (λ (a : After). Some (item_with node target (act_for node.kind (act_of node target) (directory_act_of other node target)) a))
      (same_after job key node.kind (act_of node target) (option_map kind_of target) (act_for node.kind (act_of node target) (directory_act_of other node target)) near.all_moved other.all_moved copied)

-- What is copied

lonely_stays : (excluded left made : Bool) → is_copy (cond excluded (act.Keep reason.Excluded) (cond left (act.Keep reason.Class) (cond made act.Make (act.Keep reason.Empty)))) ≡ false
lonely_stays true left made = refl
lonely_stays false true made = refl
lonely_stays false false true = refl
lonely_stays false false false = refl

standing_stays : (excluded differs : Bool) → is_copy (cond excluded (act.Keep reason.Excluded) (cond differs act.Touch (act.Keep reason.Same))) ≡ false
standing_stays true differs = refl
standing_stays false true = refl
standing_stays false false = refl

standing_not_copy : (job : Job) (key : Key) (source : Props) (k : Kind) (there : Props) → is_copy (standing_act job key source k there) ≡ false
standing_not_copy job key source File there = refl
standing_not_copy job key source Dir there = standing_stays (is_excluded_directory job key) (differ job.dcopy source there)

directory_not_copy : (job : Job) (key : Key) (source : Props) (there : Option (Kind × Props)) (below : Bool) → is_copy (directory_act job key source there below) ≡ false
directory_not_copy job key source None below = lonely_stays (is_excluded_directory job key) job.xl (is_all job.sub || below)
directory_not_copy job key source (Some there) below = standing_not_copy job key source there.0 there.1

file_stays : (left excluded unnamed all purge : Bool) → is_copy (cond left (act.Keep reason.Class) (cond excluded (act.Keep reason.Excluded) (cond unnamed (cond all act.Extra (act.Keep reason.NotNamed)) (cond purge act.Purge act.Extra)))) ≡ false
file_stays true excluded unnamed all purge = refl
file_stays false true unnamed all purge = refl
file_stays false false true true purge = refl
file_stays false false true false purge = refl
file_stays false false false all true = refl
file_stays false false false all false = refl

directory_stays : (left excluded purge : Bool) → is_copy (cond left (act.Keep reason.Class) (cond excluded (act.Keep reason.Excluded) (cond purge act.Purge act.Extra))) ≡ false
directory_stays true excluded purge = refl
directory_stays false true purge = refl
directory_stays false false true = refl
directory_stays false false false = refl

extra_not_copy : (job : Job) (key : Key) (k : Kind) (all : Bool) → is_copy (extra_act job key k all) ≡ false
extra_not_copy job key File all = file_stays job.xx (is_excluded_file job key) (not (is_named job key)) job.all_extras job.purge
extra_not_copy job key Dir all = directory_stays job.xx (is_excluded_directory job key) (all && job.purge)

copy_by_kind : (k : Kind) (file directory : Act) → is_copy directory ≡ false → is_copy (act_for k file directory) ≡ copies_kind k file
copy_by_kind File file directory stays = refl
copy_by_kind Dir file directory stays = stays

and_true : (b : Bool) → b && true ≡ b
and_true true = refl
and_true false = refl

and_false : (b : Bool) → b && false ≡ false
and_false true = refl
and_false false = refl

-- an item of a copied file
abbrev pub copy_in : Option Item → Bool
copy_in None = false
copy_in (Some item) = is_copy item.act

item_copied : (job : Job) (moment : ℕ) (key ours theirs : Key) (near : Around) (source target : Option Node) → copy_in (item_of job moment key ours theirs near source target) ≡ copies job moment key source target
item_copied job moment key ours theirs near None None = refl
item_copied job moment key ours theirs near None (Some node) = extra_not_copy job key node.kind near.all_purged
item_copied job moment key ours theirs near (Some node) target =
    copy_by_kind node.kind (file_act job moment key (facts_of node) (option_map facts_of target)) (directory_act job key node.props (option_map kind_and_props_of target) near.some_copied)
    (directory_not_copy job key node.props (option_map kind_and_props_of target) near.some_copied)

pub decided_copied : (job : Job) (source target : Tree) (moment : ℕ) (key : Key) → copy_in (decided_at job source target moment key) ≡ is_copied_at job source target moment key
decided_copied job source target moment key = by (is_decided job source target key)
  where
    by : (b : Bool) → copy_in (cond b (item_of job moment key (spelled source key) (spelled target key) (around job source target moment key) (get source key) (get target key)) None) ≡ (copies job moment key (get source key) (get target key) && b)
    by true = item_copied job moment key (spelled source key) (spelled target key) (around job source target moment key) (get source key) (get target key) ∙ sym (and_true (copies job moment key (get source key) (get target key)))
    by false = sym (and_false (copies job moment key (get source key) (get target key)))
