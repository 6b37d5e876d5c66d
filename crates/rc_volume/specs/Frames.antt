-- The frames of a site's calls: what each leaves as it was, of all that contracts see.
use Rattle.std.specs.Prelude.{◌≡◌, ◌≢◌, ◌⊎◌, ℕ, ◌+◌, ◌≤◌, Bool, true, min, List, [], ◌∷◌, ◌++◌, Result, Ok, Err}
use Rattle.rc_volume.specs.Faults.{Cause, Counts, last_count, part_for}
use Rattle.rc_volume.specs.Log.{LogsOn}
use Rattle.rc_volume.specs.Site.{Told, Seen, Change, node_at, tree_of, other_side}
use Rattle.rc_volume.specs.declared.binding.Binding.{Binding}
use Rattle.rc_volume.specs.declared.want.Want.{Want}
use Rattle.rc_volume.specs.declared.site.Part.{Part}
use Rattle.rc_volume.specs.declared.site.Part.TheVariants as part
use Rattle.rc_volume.specs.declared.site.Side.{Side}

-- a call that only looks
pub record Looks (tells : Bool) (cause : Cause) (old new : Seen) : Type 0 where
  pub told : tells ≡ true → new.told ≡ old.told
  pub log : tells ≡ true → new.log ≡ old.log
  pub opened : new.opened ≡ old.opened
  pub bound : new.bound ≡ old.bound
  pub counts : Counts cause old.faults new.faults

-- but for the entry at this key of this side, what is told stands
pub record ChangesOnly (side : Side) (key : List (List ℕ)) (old new : Told) : Type 0 where
  pub others : (other : List (List ℕ)) → other ≢ key → node_at new side other ≡ node_at old side other
  pub other_tree : tree_of new (other_side side) ≡ tree_of old (other_side side)
  pub notes : new.notes ≡ old.notes

-- a call that changes what stands at one key of a side, in this way, and nothing else
pub record ChangesAt (tells : Bool) (side : Side) (key : List (List ℕ)) (change : Change) (cause : Cause) (old new : Seen) : Type 0 where
  pub here : tells ≡ true → change (node_at old.told side key) (node_at new.told side key)
  pub elsewhere : tells ≡ true → ChangesOnly side key old.told new.told
  pub log : tells ≡ true → LogsOn (part_for side) old.log new.log
  pub opened : new.opened ≡ old.opened
  pub bound : new.bound ≡ old.bound
  pub counts : Counts cause old.faults new.faults

-- a call that changes the tree of one side alone
pub record ChangesSide (tells : Bool) (side : Side) (cause : Cause) (old new : Seen) : Type 0 where
  pub other_tree : tells ≡ true → tree_of new.told (other_side side) ≡ tree_of old.told (other_side side)
  pub notes : tells ≡ true → new.told.notes ≡ old.told.notes
  pub log : tells ≡ true → LogsOn (part_for side) old.log new.log
  pub opened : new.opened ≡ old.opened
  pub bound : new.bound ≡ old.bound
  pub counts : Counts cause old.faults new.faults

-- a call that makes a part durable: of what is told all stands
pub record Syncs (tells : Bool) (at : Part) (cause : Cause) (old new : Seen) : Type 0 where
  pub told : tells ≡ true → new.told ≡ old.told
  pub log : tells ≡ true → LogsOn at old.log new.log
  pub opened : new.opened ≡ old.opened
  pub bound : new.bound ≡ old.bound
  pub counts : Counts cause old.faults new.faults

-- a call that changes the record's bytes, in this way, and neither tree
pub record ChangesNotes (tells : Bool) (change : List ℕ → List ℕ → Type 0) (cause : Cause) (old new : Seen) : Type 0 where
  pub here : tells ≡ true → change old.told.notes new.told.notes
  pub source : tells ≡ true → new.told.source ≡ old.told.source
  pub target : tells ≡ true → new.told.target ≡ old.told.target
  pub log : tells ≡ true → LogsOn part.Record old.log new.log
  pub opened : new.opened ≡ old.opened
  pub bound : new.bound ≡ old.bound
  pub counts : Counts cause old.faults new.faults

-- a call that names the roots
pub record Binds (tells : Bool) (cause : Cause) (old new : Seen) : Type 0 where
  pub told : tells ≡ true → new.told ≡ old.told
  pub log : tells ≡ true → new.log ≡ old.log
  pub opened : new.opened ≡ old.opened
  pub counts : Counts cause old.faults new.faults

-- the roots were named so, or perhaps where the answer is an error
abbrev pub IsBound : {T E : Type 0} → Result T E → Binding → List Binding → List Binding → Type 0
IsBound (Ok value) binding old new = new ≡ old ++ binding ∷ []
IsBound (Err e) binding old new = (new ≡ old) ⊎ (new ≡ old ++ binding ∷ [])

-- a call that makes a reader: what was opened is this now
pub record MakesReader (tells : Bool) (now_opened : List Want) (cause : Cause) (old new : Seen) : Type 0 where
  pub told : tells ≡ true → new.told ≡ old.told
  pub log : tells ≡ true → new.log ≡ old.log
  pub opened : new.opened ≡ now_opened
  pub bound : new.bound ≡ old.bound
  pub counts : Counts cause old.faults new.faults

-- the wants are opened by an answer Ok alone
abbrev pub opened_by : {T E : Type 0} → Result T E → List Want → List Want → List Want
opened_by (Ok value) wants old = old ++ wants
opened_by (Err e) wants old = old

-- a call that adds so many failed reads to the source's count
pub record Absorbs (tells : Bool) (count : ℕ) (old new : Seen) : Type 0 where
  pub told : tells ≡ true → new.told ≡ old.told
  pub log : tells ≡ true → new.log ≡ old.log
  pub opened : new.opened ≡ old.opened
  pub bound : new.bound ≡ old.bound
  pub source : new.faults part.Source ≡ min (old.faults part.Source + count) last_count
  pub target : new.faults part.Target ≡ old.faults part.Target
  pub notes : new.faults part.Record ≡ old.faults part.Record
  pub never_falls : old.faults part.Source ≤ new.faults part.Source
