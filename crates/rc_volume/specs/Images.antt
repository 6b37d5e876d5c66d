-- What a stop may leave of a site, by the calls in its log. Each call may be done, half done or not done, also where it
-- failed, as long as its part is not synced; a sync that succeeds leaves only what reads. Of each part a stop may leave
-- something else: what it leaves of one goes with what it leaves of the others.
use Rattle.std.specs.Prelude.{◌≡◌, ◌≢◌, ◌⊎◌, ℕ, ◌≤◌, List, [], ◌∷◌, Option, Some, None, IsSomeAnd, length, take}
use Rattle.std.specs.FinMap.{get}
use Rattle.rc_tree.specs.declared.props.Props.{Props}
use Rattle.rc_tree.specs.Tree.{Node, Tree, IsTree}
use Rattle.rc_volume.specs.declared.site.Part.TheVariants.{Record}
use Rattle.rc_volume.specs.declared.site.Side.{Side}
use Rattle.rc_volume.specs.declared.site.Side.TheVariants.{Source, Target}
use Rattle.rc_volume.specs.Faults.{part_for}
use Rattle.rc_volume.specs.Log.{Event, EntryCall, NotesCall, changed, synced, noted, notes_synced, make, put, resize, set_props, remove, write, cut, events_on}
use Rattle.rc_volume.specs.Site.{Change, Goes, Maybe, Told, Turns, IsTornBytes, IsCutBytes}

-- One step: what a call may make of what a stop might have left before it

-- each property is that of one or that of the other
pub record AreMixed (one other mixed : Props) : Type 0 where
  pub attr : (mixed.attr ≡ one.attr) ⊎ (mixed.attr ≡ other.attr)
  pub created : (mixed.created ≡ one.created) ⊎ (mixed.created ≡ other.created)
  pub written : (mixed.written ≡ one.written) ⊎ (mixed.written ≡ other.written)
  pub access : (mixed.access ≡ one.access) ⊎ (mixed.access ≡ other.access)
  pub owner : (mixed.owner ≡ one.owner) ⊎ (mixed.owner ≡ other.owner)
  pub audit : (mixed.audit ≡ one.audit) ⊎ (mixed.audit ≡ other.audit)

-- a node that is made where a removed one was still left: spelling, kind and properties of either, and any bytes, no more
-- than the removed one had
pub record IsMadeOver (fresh old node : Node) : Type 0 where
  pub spelling : (node.spelling ≡ old.spelling) ⊎ (node.spelling ≡ fresh.spelling)
  pub kind : (node.kind ≡ old.kind) ⊎ (node.kind ≡ fresh.kind)
  pub props : AreMixed old.props fresh.props node.props
  pub no_longer : length node.bytes ≤ length old.bytes

-- the fresh node, where nothing was left
abbrev pub IsMade : Node → Change
IsMade fresh None new = new ≡ Some fresh
IsMade fresh (Some old) new = IsSomeAnd new (IsMadeOver fresh old)

-- other bytes, of which this holds, and all else as it was
pub record HasBytes (allowed : List ℕ → List ℕ → Type 0) (old new : Node) : Type 0 where
  pub rest : new ≡ record old { bytes = new.bytes }
  pub bytes : allowed old.bytes new.bytes

-- each property as it was or as given, and all else as it was
pub record HasProps (given : Props) (old new : Node) : Type 0 where
  pub rest : new ≡ record old { props = new.props }
  pub props : AreMixed old.props given new.props

-- what a call makes of what was left at its key, in whole or in part
abbrev pub Half : EntryCall → Change
Half (make fresh) = IsMade fresh
Half (put off len) = Turns (HasBytes (IsTornBytes off len))
Half (resize len) = Turns (HasBytes (IsCutBytes len))
Half (set_props props) = Turns (HasProps props)
Half remove = Goes

-- one step of a tree: a call not begun, half done or done, at its key alone
pub record StepsAt (key : List (List ℕ)) (call : EntryCall) (old new : Tree) : Type 0 where
  pub here : Maybe (Half call) (get old key) (get new key)
  pub others : (other : List (List ℕ)) → other ≢ key → get new other ≡ get old other
  pub tree : IsTree new

-- one step of the record
abbrev pub StepsNotes : NotesCall → List ℕ → List ℕ → Type 0
StepsNotes (write off len) = IsTornBytes off len
StepsNotes (cut len) = IsCutBytes len

-- What a stop may leave of a part

-- what an event makes of what might have been left of a side before it
abbrev pub LeftBy : Side → Event → (Tree → Type 0) → Tree → Type 0
LeftBy Source (changed Source key call) left image = (old : Tree) × left old × StepsAt key call old image
LeftBy Source (synced Source tree) left image = (image ≡ tree) × IsTree image
LeftBy Target (changed Target key call) left image = (old : Tree) × left old × StepsAt key call old image
LeftBy Target (synced Target tree) left image = (image ≡ tree) × IsTree image
LeftBy side other left image = left image

-- the same of the record
abbrev pub NotesLeftBy : Event → (List ℕ → Type 0) → List ℕ → Type 0
NotesLeftBy (noted call) left image = (old : List ℕ) × left old × StepsNotes call old image
NotesLeftBy (notes_synced notes) left image = image ≡ notes
NotesLeftBy other left image = left image

-- of what is left by events one after another
abbrev pub LeftAfter : {I : Type 0} → (Event → (I → Type 0) → I → Type 0) → (I → Type 0) → List Event → I → Type 0
LeftAfter by left [] = left
LeftAfter by left (event ∷ events) = LeftAfter by (by event left) events

-- a stop now may leave this tree of a side; a side that never was synced may be left as any tree
abbrev pub MayLeave : Side → List Event → Tree → Type 0
MayLeave side log = LeftAfter (LeftBy side) IsTree (events_on (part_for side) log)

-- a stop now may leave these bytes of the record
abbrev pub MayLeaveNotes : List Event → List ℕ → Type 0
MayLeaveNotes log = LeftAfter NotesLeftBy (λ _. Unit {0}) (events_on Record log)

-- What a stop may leave of the whole, now or at some moment

-- an image: a stop now may leave each of its parts
pub record IsImage (log : List Event) (image : Told) : Type 0 where
  pub source : MayLeave Source log image.source
  pub target : MayLeave Target log image.target
  pub notes : MayLeaveNotes log image.notes

-- a moment is how many events there were; a stop at one of them, no earlier than this, might have left the image
pub record IsImageSince (log : List Event) (start : ℕ) (image : Told) : Type 0 where
  pub moment : ℕ
  pub later : start ≤ moment
  pub passed : moment ≤ length log
  pub left : IsImage (take moment log) image

-- a stop may leave this tree of a side, and no other
pub record IsOnlyTree (side : Side) (log : List Event) (tree : Tree) : Type 0 where
  pub left : MayLeave side log tree
  pub only : (image : Tree) → MayLeave side log image → image ≡ tree

-- a stop may leave these bytes of the record, and no others
pub record AreOnlyNotes (log : List Event) (notes : List ℕ) : Type 0 where
  pub left : MayLeaveNotes log notes
  pub only : (image : List ℕ) → MayLeaveNotes log image → image ≡ notes

-- Later calls

-- no sync of a side
abbrev pub IsNoSync : Side → Event → Type 0
IsNoSync Source (synced Source tree) = ⊥
IsNoSync Target (synced Target tree) = ⊥
IsNoSync side other = Unit {0}

abbrev pub AllNoSync : Side → List Event → Type 0
AllNoSync side [] = Unit {0}
AllNoSync side (event ∷ events) = IsNoSync side event × AllNoSync side events

-- what an event makes of what was left at a key of a side: a step of a call at that key, and nothing otherwise
abbrev pub StepsBy : Side → List (List ℕ) → Event → Change
StepsBy Source key (changed Source at call) old new = (at ≡ key → Maybe (Half call) old new) × (at ≢ key → new ≡ old)
StepsBy Target key (changed Target at call) old new = (at ≡ key → Maybe (Half call) old new) × (at ≢ key → new ≡ old)
StepsBy side key other old new = new ≡ old

-- the same of events one after another
abbrev pub GoesBy : Side → List (List ℕ) → List Event → Change
GoesBy side key [] old new = new ≡ old
GoesBy side key (event ∷ events) old new = (mid : Option Node) × StepsBy side key event old mid × GoesBy side key events mid new

-- one tree became the other, at each key by the calls at that key alone
pub record CameBy (side : Side) (events : List Event) (old new : Tree) : Type 0 where
  pub each : (key : List (List ℕ)) → GoesBy side key events (get old key) (get new key)

-- an event is no call at this key of a side, and no sync of it
abbrev pub IsElsewhere : Side → List (List ℕ) → Event → Type 0
IsElsewhere Source key (changed Source at call) = at ≢ key
IsElsewhere Target key (changed Target at call) = at ≢ key
IsElsewhere Source key (synced Source tree) = ⊥
IsElsewhere Target key (synced Target tree) = ⊥
IsElsewhere side key other = Unit {0}

abbrev pub AllElsewhere : Side → List (List ℕ) → List Event → Type 0
AllElsewhere side key [] = Unit {0}
AllElsewhere side key (event ∷ events) = IsElsewhere side key event × AllElsewhere side key events
