-- What a site in memory keeps of what was synced last, and of the calls since.
use Rattle.std.specs.Prelude.{ℕ, ◌≡◌, ◌≤◌, Bool, true, false, List, [], ◌∷◌, length, drop, map, filter}
use Rattle.std.specs.FinMap.{empty, insert}
use Rattle.rc_tree.specs.Path.{key_of}
use Rattle.rc_tree.specs.Tree.{Tree}
use Rattle.rc_volume.specs.declared.site.Side.{Side}
use Rattle.rc_volume.specs.declared.site.Side.TheVariants.{Source, Target}
use Rattle.rc_volume.specs.Log.{Event}
use Rattle.rc_stop.specs.declared.kept.SyncedNotes.{SyncedNotes}
use Rattle.rc_stop.specs.declared.kept.SyncedSide.{SyncedSide}
use Rattle.rc_stop.specs.declared.kept.Touched.{Touched}
use Rattle.rc_mem.specs.declared.site.MemSite.{MemSite}
use Rattle.rc_stop.specs.Kept.{Kept, KeptNotes, Keys, MayPick, MayPickNotes, kept_in, notes_in}
use Rattle.rc_mem.specs.Logged.{notes_call_of}
use Rattle.rc_mem.specs.MemSite.{seen_by, told_by}

abbrev pub same_side : Side → Side → Bool
same_side Source Source = true
same_side Target Target = true
same_side side other = false

-- the keys of those on a side
abbrev pub keys_on : Side → List Touched → List (List (List ℕ))
keys_on side touched = map (λ (t : Touched). key_of t.path) (filter (λ t. same_side side t.side) touched)

-- keys come to others
abbrev pub gathered : List (List (List ℕ)) → Keys → Keys
gathered [] keys = keys
gathered (key ∷ more) keys = gathered more (insert keys key tt)

abbrev pub kept_of : Side → SyncedSide → List Touched → Kept
kept_of side synced touched = record { tree = synced.tree; touched = gathered (keys_on side (drop synced.from touched)) empty }

abbrev pub notes_of : SyncedNotes → KeptNotes
notes_of notes = record { bytes = notes.bytes.items; calls = map notes_call_of notes.calls.items }

-- of one side: it is what the log says, and what is picked may be left
pub record IsKeptSide (side : Side) (log : List Event) (reads : Tree) (synced : SyncedSide) (touched : List Touched) : Type 0 where
  pub within : synced.from ≤ length touched
  pub same : kept_of side synced touched ≡ kept_in side log
  pub may : MayPick side log reads

-- and of the record
pub record AreKeptNotes (log : List Event) (reads : List ℕ) (notes : SyncedNotes) : Type 0 where
  pub same : notes_of notes ≡ notes_in log
  pub may : MayPickNotes log reads

pub record IsKept (site : MemSite) (source target : SyncedSide) (notes : SyncedNotes) (touched : List Touched) : Type 0 where
  pub source_kept : IsKeptSide Source (seen_by site).log (told_by site).source source touched
  pub target_kept : IsKeptSide Target (seen_by site).log (told_by site).target target touched
  pub notes_kept : AreKeptNotes (seen_by site).log (told_by site).notes notes
