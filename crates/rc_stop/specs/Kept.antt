-- What a part was when it was synced last, and which calls came since, by the log; and what a stop may leave of it.
use Rattle.std.specs.Prelude.{◌≡◌, ◌⊎◌, ℕ, ◌+◌, ◌-◌, ◌≤◌, min, List, [], ◌∷◌, ◌++◌, Option, None, length, take, drop, replicate}
use Rattle.std.specs.FinMap.{FinMap, empty, get, insert}
use Rattle.rc_tree.specs.Path.{key_cmp}
use Rattle.rc_tree.specs.Tree.{Node, Tree, IsTree}
use Rattle.rc_volume.specs.declared.site.Part.TheVariants.{Record}
use Rattle.rc_volume.specs.declared.site.Side.{Side}
use Rattle.rc_volume.specs.declared.site.Side.TheVariants.{Source, Target}
use Rattle.rc_volume.specs.Faults.{part_for}
use Rattle.rc_volume.specs.Images.{MayLeave, MayLeaveNotes}
use Rattle.rc_volume.specs.Log.{EntryCall, Event, NotesCall, changed, synced, noted, notes_synced, make, put, resize, set_props, remove, write, cut, events_on}

-- keys, each once and in order
abbrev pub Keys : Type 0
Keys = FinMap key_cmp (Unit {0})

-- what a side was when it was synced last, and at which keys calls came since
pub record Kept : Type 0 where
  pub tree : Tree
  pub touched : Keys

abbrev pub kept_by : Side → Event → Kept → Kept
kept_by Source (changed Source key call) kept = record kept { touched = insert kept.touched key tt }
kept_by Target (changed Target key call) kept = record kept { touched = insert kept.touched key tt }
kept_by Source (synced Source tree) kept = record { tree = tree; touched = empty }
kept_by Target (synced Target tree) kept = record { tree = tree; touched = empty }
kept_by side other kept = kept

-- the same of events one after another
abbrev pub after_all : {K : Type 0} → (Event → K → K) → K → List Event → K
after_all by kept [] = kept
after_all by kept (event ∷ events) = after_all by (by event kept) events

-- a side that never was synced counts from the empty tree
abbrev pub kept_in : Side → List Event → Kept
kept_in side log = after_all (kept_by side) (record { tree = empty; touched = empty }) (events_on (part_for side) log)

-- what the record was when it was synced last, and the calls since
pub record KeptNotes : Type 0 where
  pub bytes : List ℕ
  pub calls : List NotesCall

abbrev pub notes_by : Event → KeptNotes → KeptNotes
notes_by (noted call) kept = record kept { calls = kept.calls ++ call ∷ [] }
notes_by (notes_synced notes) kept = record { bytes = notes; calls = [] }
notes_by other kept = kept

abbrev pub notes_in : List Event → KeptNotes
notes_in log = after_all notes_by (record { bytes = []; calls = [] }) (events_on Record log)

-- What a stop may leave

-- what a call asks for: where a node is made nothing stood, and it is made without bytes
abbrev pub IsFresh : EntryCall → Option Node → Type 0
IsFresh (make fresh) old = (old ≡ None) × (fresh.bytes ≡ [])
IsFresh (put off len) old = Unit {0}
IsFresh (resize len) old = Unit {0}
IsFresh (set_props props) old = Unit {0}
IsFresh remove old = Unit {0}

-- every tree that has at each key what reads or what was synced last
pub record MayPick (side : Side) (log : List Event) (reads : Tree) : Type 0 where
  pub kept : IsTree (kept_in side log).tree
  pub tree : IsTree reads
  pub picks : (image : Tree) → IsTree image → ((key : List (List ℕ)) → (get image key ≡ get reads key) ⊎ (get image key ≡ get (kept_in side log).tree key)) → MayLeave side log image

-- each place of a written range that lies below the limit has this byte
abbrev pub filled : ℕ → ℕ → NotesCall → List ℕ → List ℕ
filled byte limit (write off len) bytes =
    take (min off limit) bytes ++ replicate (min (off + len) limit - min off limit) byte ++ drop (min (off + len) limit) bytes
filled byte limit (cut len) bytes = bytes

-- the same of calls one after another
abbrev pub spoiled : ℕ → ℕ → List NotesCall → List ℕ → List ℕ
spoiled byte limit [] bytes = bytes
spoiled byte limit (call ∷ calls) bytes = spoiled byte limit calls (filled byte limit call bytes)

-- what reads, and what was synced last with any byte in the written ranges
pub record MayPickNotes (log : List Event) (reads : List ℕ) : Type 0 where
  pub stands : MayLeaveNotes log reads
  pub spoils : (byte limit : ℕ) → limit ≤ length (notes_in log).bytes → MayLeaveNotes log (spoiled byte limit (notes_in log).calls (notes_in log).bytes)
