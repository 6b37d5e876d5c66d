-- What a site went through: its changing calls in order, and the syncs that succeeded. The log is there where the site
-- tells. What a stop may leave is said of it.
use Rattle.std.specs.Prelude.{◌≡◌, ◌≢◌, ◌⊎◌, ℕ, Bool, true, false, List, [], ◌∷◌, ◌++◌, filter, Result, Ok, Err}
use Rattle.rc_tree.specs.declared.props.Props.{Props}
use Rattle.rc_tree.specs.Tree.{Node, Tree}
use Rattle.rc_volume.specs.declared.site.Part.{Part}
use Rattle.rc_volume.specs.declared.site.Part.TheVariants as part
use Rattle.rc_volume.specs.declared.site.Side.{Side}
use Rattle.rc_volume.specs.declared.site.Side.TheVariants as side
use Rattle.rc_volume.specs.declared.site.SiteErr.{SiteErr}
use Rattle.rc_volume.specs.declared.site.SiteErr.TheVariants as site_err

-- a call that changes an entry
pub data EntryCall : Type 0 where
  -- this node was to stand there
  make : Node → EntryCall
  -- so many bytes were to be written from an offset on
  put : ℕ → ℕ → EntryCall
  -- the bytes were to be brought to a length
  resize : ℕ → EntryCall
  set_props : Props → EntryCall
  remove : EntryCall

-- a call that changes the record
pub data NotesCall : Type 0 where
  -- so many bytes were to be written from an offset on
  write : ℕ → ℕ → NotesCall
  -- the bytes were to be cut to a length
  cut : ℕ → NotesCall

pub data Event : Type 0 where
  -- a call changed what stands at a key of a side, or was to
  changed : Side → List (List ℕ) → EntryCall → Event
  -- a side was made durable, and this was its tree
  synced : Side → Tree → Event
  -- a call changed the record, or was to
  noted : NotesCall → Event
  -- the record was made durable, and these were its bytes
  notes_synced : List ℕ → Event

-- whether an event is one of a part
abbrev pub is_on : Part → Event → Bool
is_on part.Source (changed side.Source key call) = true
is_on part.Source (synced side.Source tree) = true
is_on part.Target (changed side.Target key call) = true
is_on part.Target (synced side.Target tree) = true
is_on part.Record (noted call) = true
is_on part.Record (notes_synced notes) = true
is_on at other = false

-- the events of a part, in order
abbrev pub events_on : Part → List Event → List Event
events_on at log = filter (is_on at) log

-- How a log grows

-- but for events of this part the log stands
abbrev pub LogsOn : Part → List Event → List Event → Type 0
LogsOn at old new = (other : Part) → other ≢ at → events_on other new ≡ events_on other old

-- a changing call is in the log whether it is done or fails; where memory was wanting it may be
abbrev pub Logs : {T : Type 0} → Result T SiteErr → Event → List Event → List Event → Type 0
Logs (Ok value) event old new = new ≡ old ++ event ∷ []
Logs (Err site_err.Failed) event old new = new ≡ old ++ event ∷ []
Logs (Err site_err.NoMemory) event old new = (new ≡ old) ⊎ (new ≡ old ++ event ∷ [])

-- a sync is in the log where it succeeds, and else not
abbrev pub LogsSync : {T : Type 0} → Result T SiteErr → Event → List Event → List Event → Type 0
LogsSync (Ok value) event old new = new ≡ old ++ event ∷ []
LogsSync (Err e) event old new = new ≡ old
