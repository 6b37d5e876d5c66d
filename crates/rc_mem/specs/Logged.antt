-- What contracts see of the log of a site in memory.
use Rattle.std.specs.Prelude.{ℕ, List}
use Rattle.rc_tree.specs.Path.{key_of, last_name}
use Rattle.rc_volume.specs.declared.site.Part.{Part}
use Rattle.rc_volume.specs.declared.site.Part.TheVariants as part
use Rattle.rc_volume.specs.Faults.{part_for}
use Rattle.rc_volume.specs.Log as log
use Rattle.rc_volume.specs.Site.{fresh_dir, fresh_file}
use Rattle.rc_mem.specs.declared.logged.EntryCall.{EntryCall}
use Rattle.rc_mem.specs.declared.logged.EntryCall.TheVariants as entry_call
use Rattle.rc_mem.specs.declared.logged.NotesCall.{NotesCall}
use Rattle.rc_mem.specs.declared.logged.NotesCall.TheVariants as notes_call
use Rattle.rc_mem.specs.declared.logged.Logged.{Logged}
use Rattle.rc_mem.specs.declared.logged.Logged.TheVariants as logged

-- a call on the entry of a path
abbrev pub call_of : List (List ℕ) → EntryCall → log.EntryCall
call_of path entry_call.MakeDir = log.make (fresh_dir (last_name path))
call_of path entry_call.MakeFile = log.make (fresh_file (last_name path))
call_of path (entry_call.Put off len) = log.put off len
call_of path (entry_call.SetLen len) = log.resize len
call_of path (entry_call.SetProps props) = log.set_props props.value
call_of path entry_call.Remove = log.remove

abbrev pub notes_call_of : NotesCall → log.NotesCall
notes_call_of (notes_call.Write off len) = log.write off len
notes_call_of (notes_call.Cut len) = log.cut len

abbrev pub event_of : Logged → log.Event
event_of (logged.Changed side path call) = log.changed side (key_of path.value) (call_of path.value call)
event_of (logged.Synced side tree) = log.synced side tree.value
event_of (logged.Noted call) = log.noted (notes_call_of call)
event_of (logged.NotesSynced notes) = log.notes_synced notes.value.items

-- the part on which it was
abbrev pub part_logged : Logged → Part
part_logged (logged.Changed side path call) = part_for side
part_logged (logged.Synced side tree) = part_for side
part_logged (logged.Noted call) = part.Record
part_logged (logged.NotesSynced notes) = part.Record
