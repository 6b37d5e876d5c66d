-- What a run leaves at one key, by what was decided there and by what both sides have there.
use Rattle.std.specs.Prelude.{ℕ, Bool, true, false, not, ◌&&◌, ◌||◌, [], Option, Some, None, option_map, if◌then◌else◌}
use Rattle.rc_tree.specs.declared.attr.Attr.{Attr}
use Rattle.rc_tree.specs.declared.attr.Kind.{Kind}
use Rattle.rc_tree.specs.declared.attr.Kind.TheVariants.{File, Dir}
use Rattle.rc_tree.specs.declared.props.Props.{Props}
use Rattle.rc_tree.specs.Attr.{no_attr}
use Rattle.rc_tree.specs.Tree.{Node}
use Rattle.rc_class.specs.declared.class.Class.{Class}
use Rattle.rc_class.specs.declared.decision.Act.{Act}
use Rattle.rc_class.specs.declared.decision.Act.TheVariants.{Copy, Make, Touch, Fix, Purge, Extra, Mismatch, Keep}
use Rattle.rc_class.specs.declared.decision.After.{After}
use Rattle.rc_class.specs.declared.decision.After.TheVariants.{Nothing, RemoveSource, ClearArchive}
use Rattle.rc_class.specs.declared.item.Item.{Item}
use Rattle.rc_class.specs.declared.rules.Rules.{Rules}
use Rattle.rc_class.specs.Class.{is_lonely}

-- what is flagged is the source's, and all else stands
abbrev pub picked : {A : Type 0} → Bool → A → A → A
picked flag source old = if flag then source else old

-- Attributes

-- the compared attributes of the source, and the others as they stood
abbrev pub over : Attr → Attr → Attr
over source old = record old {
  readonly = source.readonly;
  hidden = source.hidden;
  system = source.system;
  archive = source.archive;
  temporary = source.temporary;
  not_indexed = source.not_indexed;
}

-- an attribute, where it is to be cleared, or else set, or neither
abbrev pub letter : Bool → Bool → Bool → Bool
letter clear put has = if clear then false else if put then true else has

-- the same of each compared attribute
abbrev pub adjusted : Rules → Attr → Attr
adjusted rules attr = record attr {
  readonly = letter rules.minus.readonly rules.plus.readonly attr.readonly;
  hidden = letter rules.minus.hidden rules.plus.hidden attr.hidden;
  system = letter rules.minus.system rules.plus.system attr.system;
  archive = letter rules.minus.archive rules.plus.archive attr.archive;
  temporary = letter rules.minus.temporary rules.plus.temporary attr.temporary;
  not_indexed = letter rules.minus.not_indexed rules.plus.not_indexed attr.not_indexed;
}

-- Properties

-- the properties of a file that is copied over one with these
abbrev pub copied_props : Rules → Props → Props → Props
copied_props rules source old = record {
  attr = adjusted rules (picked rules.attr (over source.attr old.attr) old.attr);
  created = picked rules.times source.created old.created;
  written = picked rules.times source.written old.written;
  access = picked rules.access source.access old.access;
  owner = picked rules.owner source.owner old.owner;
  audit = picked rules.audit source.audit old.audit;
}

-- the properties of a directory that is made or touched
abbrev pub directory_props : Rules → Props → Props → Props
directory_props rules source old = record old {
  attr = picked rules.dir_attr (over source.attr old.attr) old.attr;
  created = picked rules.dir_times source.created old.created;
  written = picked rules.dir_times source.written old.written;
}

-- the access list is mended where it is flagged, or where no security is
abbrev pub mends_access : Rules → Bool
mends_access rules = rules.access || not (rules.owner || rules.audit)

-- the properties of a file that stays, where times or security are mended
abbrev pub fixed_props : Rules → Props → Props → Props
fixed_props rules source old = record old {
  created = picked rules.timfix source.created old.created;
  written = picked rules.timfix source.written old.written;
  access = picked (rules.secfix && mends_access rules) source.access old.access;
  owner = picked (rules.secfix && rules.owner) source.owner old.owner;
  audit = picked (rules.secfix && rules.audit) source.audit old.audit;
}

-- of an entry that is made at a moment, before anything is copied to it
abbrev pub fresh_props : Attr → ℕ → Props
fresh_props attr moment = record { attr = attr; created = moment; written = moment; access = []; owner = []; audit = [] }

abbrev pub archive_alone : Attr
archive_alone = record no_attr { archive = true }

-- a new file has A alone, and a new directory has nothing
abbrev pub fresh_attr : Kind → Attr
fresh_attr File = archive_alone
fresh_attr Dir = no_attr

-- Nodes

-- a new file, under the source's spelling
abbrev pub new_file : ℕ → Node → Node
new_file moment source = record { spelling = source.spelling; kind = File; bytes = []; props = fresh_props (fresh_attr File) moment }

-- and a new directory
abbrev pub new_directory : ℕ → Node → Node
new_directory moment source = record { spelling = source.spelling; kind = Dir; bytes = []; props = fresh_props (fresh_attr Dir) moment }

-- what a copy goes on from: a new file where the target had none when all was decided, and else what stands there
abbrev pub copy_base : Class → ℕ → Node → Option Node → Option Node
copy_base class moment source target = if is_lonely class then Some (new_file moment source) else target

abbrev pub copied_file : Rules → Bool → Node → Node → Node
copied_file rules with_bytes source base =
    record base { bytes = picked with_bytes source.bytes base.bytes; props = copied_props rules source.props base.props }

abbrev pub touched_directory : Rules → Node → Node → Node
touched_directory rules source base = record base { props = directory_props rules source.props base.props }

abbrev pub fixed_file : Rules → Node → Node → Node
fixed_file rules source target = record target { props = fixed_props rules source.props target.props }

-- whether an act leaves both sides as they are
abbrev pub is_left : Act → Bool
is_left Extra = true
is_left Mismatch = true
is_left (Keep reason) = true
is_left Copy = false
is_left Make = false
is_left Touch = false
is_left Fix = false
is_left Purge = false

-- what the target has at a key in the end, where the source has this there: what a copy of class lonely or a making
-- leaves is new whatever stands there, and every other act goes on from what stands
abbrev pub goal_of_act : Rules → Bool → ℕ → Class → Act → Node → Option Node → Option Node
goal_of_act rules with_bytes moment class Copy source target = option_map (copied_file rules with_bytes source) (copy_base class moment source target)
goal_of_act rules with_bytes moment class Make source target = Some (touched_directory rules source (new_directory moment source))
goal_of_act rules with_bytes moment class Touch source target = option_map (touched_directory rules source) target
goal_of_act rules with_bytes moment class Fix source target = option_map (fixed_file rules source) target
goal_of_act rules with_bytes moment class Purge source target = None
goal_of_act rules with_bytes moment class Extra source target = target
goal_of_act rules with_bytes moment class Mismatch source target = target
goal_of_act rules with_bytes moment class (Keep reason) source target = target

-- and where the source has nothing there
abbrev pub goal_of_extra : Act → Option Node → Option Node
goal_of_extra Copy target = target
goal_of_extra Make target = target
goal_of_extra Touch target = target
goal_of_extra Fix target = target
goal_of_extra Purge target = None
goal_of_extra Extra target = target
goal_of_extra Mismatch target = target
goal_of_extra (Keep reason) target = target

-- what the target has at a key in the end: as it was where nothing was decided
abbrev pub target_goal : Rules → Bool → ℕ → Option Item → Option Node → Option Node → Option Node
target_goal rules with_bytes moment None source target = target
target_goal rules with_bytes moment (Some item) (Some source) target = goal_of_act rules with_bytes moment item.class item.act source target
target_goal rules with_bytes moment (Some item) None target = goal_of_extra item.act target

-- the source's entry behind its copy
abbrev pub released : After → Node → Option Node
released Nothing node = Some node
released RemoveSource node = None
released ClearArchive node = Some (record node { props = record node.props { attr = record node.props.attr { archive = false } } })

-- what the source has at a key in the end
abbrev pub source_goal : Option Item → Option Node → Option Node
source_goal item None = None
source_goal None (Some source) = Some source
source_goal (Some item) (Some source) = released item.after source
