-- What a decided item says of both sides at its key.
use Rattle.std.proofs.Common.{◌≡◌, ℕ, Bool, true, false, cond, not, ◌&&◌, ◌||◌, List, Option, Some, None, refl, sym, ap, ◌∙◌}
use Rattle.rc_tree.specs.declared.attr.Kind.{Kind}
use Rattle.rc_tree.specs.declared.attr.Kind.TheVariants.{File, Dir}
use Rattle.rc_tree.specs.Path.{last_name}
use Rattle.rc_tree.specs.Tree.{Node}
use Rattle.rc_class.specs.declared.class.Class.{Class}
use Rattle.rc_class.specs.declared.class.Class.TheVariants as class
use Rattle.rc_class.specs.declared.decision.Act.{Act}
use Rattle.rc_class.specs.declared.decision.Act.TheVariants as act
use Rattle.rc_class.specs.declared.decision.Reason.TheVariants as reason
use Rattle.rc_class.specs.declared.facts.Facts.{Facts}
use Rattle.rc_class.specs.declared.facts.Grain.{Grain}
use Rattle.rc_class.specs.declared.item.Item.{Item}
use Rattle.rc_class.specs.Class.{class_of_files, class_of_kinds, facts_of, is_same_attr, is_same_time}
use Rattle.rc_class.specs.Sides.{Beside, HasKind, IsEntryOf, may_act, other_kind}
use Rattle.rc_job.specs.declared.job.Job.{Job}
use Rattle.rc_filter.specs.Acts.{class_act, differ, extra_act, grain_of, is_all, is_mended, kept_for, lonely_act, standing_act}
use Rattle.rc_filter.specs.Decided.{Around, act_for, extra_item, source_act, source_item}
use Rattle.rc_filter.specs.Matching.{is_excluded_directory, is_excluded_file, is_named}
use Rattle.rc_filter.proofs.FileActs.{both_sides_fit, of_class_act, one_side_fits}

pub some_none : {A : Type 0} (x : A) → None ≡ Some x → ⊥
some_none x e = cc

pub same_some : {A : Type 0} (x y : A) → Some x ≡ Some y → x ≡ y
same_some x y e = cc

pub taken : {A : Type 0} (b : Bool) (found : Option A) (x : A) → cond b found None ≡ Some x → (b ≡ true) × (found ≡ Some x)
taken true found x e = (refl, e)
taken false found x e = absurd (some_none x e)

-- Classes and acts

-- two files have one of five classes
files_class : (P : Class → Type 0) → P class.Newer → P class.Older → P class.Changed → P class.Tweaked → P class.Same → (same later sized alike : Bool) → P (cond (not same) (cond later class.Newer class.Older) (cond (not sized) class.Changed (cond (not alike) class.Tweaked class.Same)))
files_class P newer older changed tweaked same false true sized alike = newer
files_class P newer older changed tweaked same false false sized alike = older
files_class P newer older changed tweaked same true later false alike = changed
files_class P newer older changed tweaked same true later true false = tweaked
files_class P newer older changed tweaked same true later true true = same

lonely_fits : (excluded left made : Bool) → may_act class.Lonely Dir (cond excluded (act.Keep reason.Excluded) (cond left (act.Keep reason.Class) (cond made act.Make (act.Keep reason.Empty)))) ≡ true
lonely_fits true left made = refl
lonely_fits false true made = refl
lonely_fits false false true = refl
lonely_fits false false false = refl

same_fits : (excluded differs : Bool) → may_act class.Same Dir (cond excluded (act.Keep reason.Excluded) (cond differs act.Touch (act.Keep reason.Same))) ≡ true
same_fits true differs = refl
same_fits false true = refl
same_fits false false = refl

extra_file_fits : (left excluded unnamed reported purged : Bool) → may_act class.Extra File (cond left (act.Keep reason.Class) (cond excluded (act.Keep reason.Excluded) (cond unnamed (cond reported act.Extra (act.Keep reason.NotNamed)) (cond purged act.Purge act.Extra)))) ≡ true
extra_file_fits true excluded unnamed reported purged = refl
extra_file_fits false true unnamed reported purged = refl
extra_file_fits false false true true purged = refl
extra_file_fits false false true false purged = refl
extra_file_fits false false false reported true = refl
extra_file_fits false false false reported false = refl

extra_directory_fits : (left excluded purged : Bool) → may_act class.Extra Dir (cond left (act.Keep reason.Class) (cond excluded (act.Keep reason.Excluded) (cond purged act.Purge act.Extra))) ≡ true
extra_directory_fits true excluded purged = refl
extra_directory_fits false true purged = refl
extra_directory_fits false false true = refl
extra_directory_fits false false false = refl

-- The side that has an entry alone

alone_fits : (job : Job) (moment : ℕ) (key : List (List ℕ)) (facts : Facts) (some_below : Bool) (k : Kind) → may_act class.Lonely k (act_for k (class_act job moment key facts class.Lonely) (lonely_act job key some_below)) ≡ true
alone_fits job moment key facts some_below File = one_side_fits class.Lonely refl refl (kept_for job moment key facts class.Lonely)
alone_fits job moment key facts some_below Dir = lonely_fits (is_excluded_directory job key) job.xl (is_all job.sub || some_below)

pub extra_acts_fit : (job : Job) (key : List (List ℕ)) (k : Kind) (all_purged : Bool) → may_act class.Extra k (extra_act job key k all_purged) ≡ true
extra_acts_fit job key File all_purged = extra_file_fits job.xx (is_excluded_file job key) (not (is_named job key)) job.all_extras job.purge
extra_acts_fit job key Dir all_purged = extra_directory_fits job.xx (is_excluded_directory job key) (all_purged && job.purge)

-- Both sides

files_fit : (job : Job) (moment : ℕ) (key : List (List ℕ)) (source target : Facts) → may_act (class_of_files (grain_of job) source target) File (class_act job moment key source (class_of_files (grain_of job) source target)) ≡ true
files_fit job moment key source target =
    files_class (λ c. may_act c File (class_act job moment key source c) ≡ true)
    (both_sides_fit class.Newer refl refl refl (is_mended job class.Newer) (kept_for job moment key source class.Newer))
    (both_sides_fit class.Older refl refl refl (is_mended job class.Older) (kept_for job moment key source class.Older))
    (both_sides_fit class.Changed refl refl refl (is_mended job class.Changed) (kept_for job moment key source class.Changed))
    (both_sides_fit class.Tweaked refl refl refl (is_mended job class.Tweaked) (kept_for job moment key source class.Tweaked))
    (both_sides_fit class.Same refl refl refl (is_mended job class.Same) (kept_for job moment key source class.Same))
    (is_same_time (grain_of job) source.written target.written) _ _ (is_same_attr source.attr target.attr)

both_fit : (job : Job) (moment : ℕ) (key : List (List ℕ)) (node there : Node) (k l : Kind) →
    may_act (class_of_kinds k l (class_of_files (grain_of job) (facts_of node) (facts_of there))) k
    (act_for k (class_act job moment key (facts_of node) (class_of_kinds k l (class_of_files (grain_of job) (facts_of node) (facts_of there)))) (standing_act job key node.props l there.props)) ≡ true
both_fit job moment key node there File File = files_fit job moment key (facts_of node) (facts_of there)
both_fit job moment key node there File Dir = refl
both_fit job moment key node there Dir File = refl
both_fit job moment key node there Dir Dir = same_fits (is_excluded_directory job key) (differ job.dcopy node.props there.props)

-- the act of what the source has is one of its class and kind
pub acts_fit : (job : Job) (moment : ℕ) (key path : List (List ℕ)) (near : Around) (node : Node) (target : Option Node) → (let item = source_item job moment key path near node target in may_act item.class item.facts.kind item.act ≡ true)
acts_fit job moment key path near node None = alone_fits job moment key (facts_of node) near.some_copied node.kind
acts_fit job moment key path near node (Some there) = both_fit job moment key node there node.kind there.kind

-- What stands beside

beside_files : (item : Item) (source target : Option Node) → IsEntryOf item source → HasKind item.facts.kind target → (grain : Grain) (a b : Facts) → Beside (class_of_files grain a b) item source target
beside_files item source target entry beside grain a b =
    files_class (λ c. Beside c item source target) (entry, beside) (entry, beside) (entry, beside) (entry, beside) (entry, beside)
    (is_same_time grain a.written b.written) _ _ (is_same_attr a.attr b.attr)

beside_kinds : (item : Item) (node there : Node) (grain : Grain) → IsEntryOf item (Some node) → item.facts.kind ≡ node.kind → (k l : Kind) → node.kind ≡ k → there.kind ≡ l → Beside (class_of_kinds k l (class_of_files grain (facts_of node) (facts_of there))) item (Some node) (Some there)
beside_kinds item node there grain entry same File File is other = beside_files item (Some node) (Some there) entry (other ∙ sym is ∙ sym same) grain (facts_of node) (facts_of there)
beside_kinds item node there grain entry same File Dir is other = (entry, other ∙ sym (ap other_kind (same ∙ is)))
beside_kinds item node there grain entry same Dir File is other = (entry, other ∙ sym (ap other_kind (same ∙ is)))
beside_kinds item node there grain entry same Dir Dir is other = (entry, other ∙ sym is ∙ sym same)

pub source_beside : (job : Job) (moment : ℕ) (key path : List (List ℕ)) (near : Around) (node : Node) (target : Option Node) → last_name path ≡ node.spelling → (let item = source_item job moment key path near node target in Beside item.class item (Some node) target)
source_beside job moment key path near node None named =
    (record { node = node; stands = refl; facts = refl; spelled = named }, refl)
source_beside job moment key path near node (Some there) named =
    beside_kinds (source_item job moment key path near node (Some there)) node there (grain_of job) (record { node = node; stands = refl; facts = refl; spelled = named }) refl node.kind there.kind refl refl

pub extra_beside : (job : Job) (key path : List (List ℕ)) (near : Around) (node : Node) → last_name path ≡ node.spelling → Beside class.Extra (extra_item job key path near node) None (Some node)
extra_beside job key path near node named = (refl, record { node = node; stands = refl; facts = refl; spelled = named })

-- Nothing is removed that the source has

class_keeps : (job : Job) (moment : ℕ) (key : List (List ℕ)) (facts : Facts) (c : Class) → class_act job moment key facts c ≡ act.Purge → ⊥
class_keeps = of_class_act (λ does. does ≡ act.Purge → ⊥) (λ e. cc) (λ e. cc) (λ e. cc) (λ why _ e. cc)

lonely_keeps : (excluded left made : Bool) → cond excluded (act.Keep reason.Excluded) (cond left (act.Keep reason.Class) (cond made act.Make (act.Keep reason.Empty))) ≡ act.Purge → ⊥
lonely_keeps true left made e = cc
lonely_keeps false true made e = cc
lonely_keeps false false true e = cc
lonely_keeps false false false e = cc

same_keeps : (excluded differs : Bool) → cond excluded (act.Keep reason.Excluded) (cond differs act.Touch (act.Keep reason.Same)) ≡ act.Purge → ⊥
same_keeps true differs e = cc
same_keeps false true e = cc
same_keeps false false e = cc

standing_keeps : (job : Job) (key : List (List ℕ)) (node there : Node) (l : Kind) → standing_act job key node.props l there.props ≡ act.Purge → ⊥
standing_keeps job key node there File e = cc
standing_keeps job key node there Dir e = same_keeps (is_excluded_directory job key) (differ job.dcopy node.props there.props) e

act_keeps : (k : Kind) (file directory : Act) → (file ≡ act.Purge → ⊥) → (directory ≡ act.Purge → ⊥) → act_for k file directory ≡ act.Purge → ⊥
act_keeps File file directory f d e = f e
act_keeps Dir file directory f d e = d e

pub source_keeps : (job : Job) (moment : ℕ) (key : List (List ℕ)) (some_below : Bool) (node : Node) (target : Option Node) → source_act job moment key some_below node target ≡ act.Purge → ⊥
source_keeps job moment key some_below node None =
    act_keeps node.kind _ _ (class_keeps job moment key (facts_of node) class.Lonely) (lonely_keeps (is_excluded_directory job key) job.xl (is_all job.sub || some_below))
source_keeps job moment key some_below node (Some there) =
    act_keeps node.kind _ _ (class_keeps job moment key (facts_of node) (class_of_kinds node.kind there.kind (class_of_files (grain_of job) (facts_of node) (facts_of there)))) (standing_keeps job key node there there.kind)
