-- What a site tells, and what stands at a key of it before and after a call.
use Rattle.std.specs.Prelude.{◌≡◌, ◌⊎◌, ℕ, ◌+◌, ◌-◌, ◌<◌, ◌≤◌, min, max, List, [], ◌∷◌, ◌++◌, Option, Some, None, option_map, length, take, drop, replicate, All, IsSomeAnd, MatchOption, Result, Ok, Err, slice_get}
use Rattle.std.specs.FinMap.{get}
use Rattle.std.specs.declared.cmp.Ordering.TheVariants.{Less}
use Rattle.rc_tree.specs.declared.attr.Kind.TheVariants.{File, Dir}
use Rattle.rc_tree.specs.declared.props.Props.{Props}
use Rattle.rc_tree.specs.declared.entry.Entry.{Entry}
use Rattle.rc_tree.specs.Attr.{no_attr}
use Rattle.rc_tree.specs.Name.{folded}
use Rattle.rc_tree.specs.Path.{key_of, parent_of, name_cmp}
use Rattle.rc_tree.specs.Tree.{Node, Tree, IsDirectory}
use Rattle.rc_volume.specs.Log.{Event}
use Rattle.rc_volume.specs.Reading.{Opens, part_of}
use Rattle.rc_volume.specs.declared.binding.Binding.{Binding}
use Rattle.rc_volume.specs.declared.want.Want.{Want}
use Rattle.rc_volume.specs.declared.site.Part.{Part}
use Rattle.rc_volume.specs.declared.site.Side.{Side}
use Rattle.rc_volume.specs.declared.site.Side.TheVariants.{Source, Target}
use Rattle.rc_volume.specs.declared.site.SiteErr.{SiteErr}
use Rattle.rc_volume.specs.declared.site.SiteErr.TheVariants as site_err

-- the two trees and the bytes of the record
pub record Told : Type 0 where
  pub source : Tree
  pub target : Tree
  pub notes : List ℕ

-- all that contracts see of a site: what it tells, what it went through, of which a stop may leave more than what it
-- tells, what readers were made for, what its roots were named, in order, and how often each part failed
pub record Seen : Type 0 where
  pub told : Told
  pub log : List Event
  pub opened : List Want
  pub bound : List Binding
  pub faults : Part → ℕ

abbrev pub tree_of : Told → Side → Tree
tree_of told Source = told.source
tree_of told Target = told.target

abbrev pub other_side : Side → Side
other_side Source = Target
other_side Target = Source

-- the tree of a side
abbrev pub tree_in : Seen → Side → Tree
tree_in seen side = tree_of seen.told side

-- what stands at a key of a side
abbrev pub node_at : Told → Side → List (List ℕ) → Option Node
node_at told side key = get (tree_of told side) key

-- the bytes at a key: none where there is no file
abbrev pub bytes_in : Option Node → List ℕ
bytes_in None = []
bytes_in (Some node) = node.bytes

-- Nodes

-- no attribute, both times 0, no security
abbrev pub no_props : Props
no_props = record { attr = no_attr; created = 0; written = 0; access = []; owner = []; audit = [] }

-- a file and a directory as they are made
abbrev pub fresh_file : List ℕ → Node
fresh_file name = record { spelling = name; kind = File; bytes = []; props = no_props }

abbrev pub fresh_dir : List ℕ → Node
fresh_dir name = record { spelling = name; kind = Dir; bytes = []; props = no_props }

-- these bytes at this offset, and the others as they were
abbrev pub written_at : ℕ → List ℕ → Node → Node
written_at off bytes node = record node { bytes = take off node.bytes ++ bytes ++ drop (off + length bytes) node.bytes }

-- cut to a length, or filled up to it with 0
abbrev pub resized : ℕ → Node → Node
resized len node = record node { bytes = take len node.bytes ++ replicate (len - length node.bytes) 0 }

abbrev pub with_props : Props → Node → Node
with_props props node = record node { props = props }

-- any bytes in a range, and all else as it was
pub record IsTorn (off len : ℕ) (old new : Node) : Type 0 where
  pub rest : new ≡ record old { bytes = new.bytes }
  pub size : length new.bytes ≡ length old.bytes
  pub before : take off new.bytes ≡ take off old.bytes
  pub after : drop (off + len) new.bytes ≡ drop (off + len) old.bytes

-- a length between the old one and this one, any bytes from the lesser of the two on, and all else as it was
pub record IsHalfResized (len : ℕ) (old new : Node) : Type 0 where
  pub rest : new ≡ record old { bytes = new.bytes }
  pub no_shorter : min (length old.bytes) len ≤ length new.bytes
  pub no_longer : length new.bytes ≤ max (length old.bytes) len
  pub front : take (min (length old.bytes) len) new.bytes ≡ take (min (length old.bytes) len) old.bytes

-- What stands at a key before and after a call

-- a relation between the two
abbrev pub Change : Type 1
Change = Option Node → Option Node → Type 0

abbrev pub Stays : Change
Stays old new = new ≡ old

-- nothing is left
abbrev pub Goes : Change
Goes old new = new ≡ None

-- this node stands there now
abbrev pub Comes : Node → Change
Comes node old new = new ≡ Some node

-- the node became what the function makes of it
abbrev pub Becomes : (Node → Node) → Change
Becomes change old new = new ≡ option_map change old

-- the node became one that the relation allows
pub record Turns (allowed : Node → Node → Type 0) (old new : Option Node) : Type 0 where
  pub before : Node
  pub now : Node
  pub was : old ≡ Some before
  pub is : new ≡ Some now
  pub by : allowed before now

-- all as it was, or changed so
abbrev pub Maybe : Change → Change
Maybe change old new = Stays old new ⊎ change old new

-- What the answer of a call that changes an entry says: at Ok it is done, where it failed it may be half done, and
-- where memory was wanting all is as it was

abbrev pub Done : {T : Type 0} → Result T SiteErr → Change → Change → Change
Done (Ok value) done half = done
Done (Err site_err.Failed) done half = half
Done (Err site_err.NoMemory) done half = Stays

abbrev pub Makes : {T : Type 0} → Result T SiteErr → Node → Change
Makes result node = Done result (Comes node) (Maybe (Comes node))

abbrev pub Puts : {T : Type 0} → Result T SiteErr → ℕ → List ℕ → Change
Puts result off bytes = Done result (Becomes (written_at off bytes)) (Turns (IsTorn off (length bytes)))

abbrev pub Resizes : {T : Type 0} → Result T SiteErr → ℕ → Change
Resizes result len = Done result (Becomes (resized len)) (Turns (IsHalfResized len))

abbrev pub SetsProps : {T : Type 0} → Result T SiteErr → Props → Change
SetsProps result props = Done result (Becomes (with_props props)) (Maybe (Becomes (with_props props)))

abbrev pub Removes : {T : Type 0} → Result T SiteErr → Change
Removes result = Done result Goes (Maybe Goes)

-- The record

-- bytes were written in a range, perhaps in part: no fewer than there were, at most up to the range's end, and outside the
-- range those that there were
pub record IsTornBytes (off len : ℕ) (old new : List ℕ) : Type 0 where
  pub no_shorter : length old ≤ length new
  pub no_longer : length new ≤ max (length old) (off + len)
  pub before : (i : ℕ) → i < length old → i < off → slice_get new i ≡ slice_get old i
  pub after : (i : ℕ) → i < length old → off + len ≤ i → slice_get new i ≡ slice_get old i

-- bytes were brought to a length, perhaps in part: a length between both, and those that there were below the lesser
pub record IsCutBytes (len : ℕ) (old new : List ℕ) : Type 0 where
  pub no_shorter : min (length old) len ≤ length new
  pub no_longer : length new ≤ max (length old) len
  pub front : (i : ℕ) → i < min (length old) len → slice_get new i ≡ slice_get old i

-- What the answer of a call that changes the record says of its bytes before and after it

abbrev pub NotesDone : {T : Type 0} → Result T SiteErr → List ℕ → (List ℕ → List ℕ → Type 0) → List ℕ → List ℕ → Type 0
NotesDone (Ok value) done half old new = new ≡ done
NotesDone (Err site_err.Failed) done half old new = half old new
NotesDone (Err site_err.NoMemory) done half old new = new ≡ old

abbrev pub Writes : {T : Type 0} → Result T SiteErr → ℕ → List ℕ → List ℕ → List ℕ → Type 0
Writes result off bytes old new = NotesDone result (take off old ++ bytes ++ drop (off + length bytes) old) (IsTornBytes off (length bytes)) old new

abbrev pub Cuts : {T : Type 0} → Result T SiteErr → ℕ → List ℕ → List ℕ → Type 0
Cuts result len old new = NotesDone result (take len old) (IsCutBytes len) old new

-- Conditions

-- nothing stands at the path, and its parent is the root or a directory
pub record IsVacant (tree : Tree) (path : List (List ℕ)) : Type 0 where
  pub parent : IsSomeAnd (parent_of path) (λ parent. IsDirectory tree (key_of parent))
  pub absent : get tree (key_of path) ≡ None

-- a file stands at the key, of which this holds
abbrev pub HasFile : Tree → List (List ℕ) → (Node → Type 0) → Type 0
HasFile tree key holds = IsSomeAnd (get tree key) (λ node. (node.kind ≡ File) × holds node)

-- an entry stands at the key, and where it is a directory nothing in it
abbrev pub IsRemovable : Tree → List (List ℕ) → Type 0
IsRemovable tree key =
    IsSomeAnd (get tree key) (λ node. node.kind ≡ Dir → (name : List ℕ) → get tree (key ++ name ∷ []) ≡ None)

-- the ranges of a want lie within a file of the tree
abbrev pub IsWithin : Tree → Want → Type 0
IsWithin tree want = HasFile tree (key_of want.path) (λ node. All (λ range. range.0 + range.1 ≤ length node.bytes) want.ranges)

-- Listings

-- a folded name comes behind the one from which a listing goes on
abbrev pub ComesAfter : Option (List ℕ) → List ℕ → Type 0
ComesAfter None name = Unit {0}
ComesAfter (Some last) name = name_cmp (folded last) name ≡ Less

-- what a listing shows of a node
abbrev pub entry_of : Node → Entry
entry_of node = record { name = node.spelling; kind = node.kind; size = length node.bytes; props = node.props }

-- the entry is the one of the directory with the least name behind that one
pub record IsNext (tree : Tree) (dir : List (List ℕ)) (after : Option (List ℕ)) (entry : Entry) : Type 0 where
  pub node : Node
  pub stands : get tree (dir ++ folded entry.name ∷ []) ≡ Some node
  pub shown : entry ≡ entry_of node
  pub later : ComesAfter after (folded entry.name)
  pub least : (name : List ℕ) → ComesAfter after name → name_cmp name (folded entry.name) ≡ Less → get tree (dir ++ name ∷ []) ≡ None

-- the directory has no entry behind that name
abbrev pub IsEnd : Tree → List (List ℕ) → Option (List ℕ) → Type 0
IsEnd tree dir after = (name : List ℕ) → ComesAfter after name → get tree (dir ++ name ∷ []) ≡ None

-- what a listing of a directory answers
abbrev pub Lists : Tree → List (List ℕ) → Option (List ℕ) → Option Entry → Type 0
Lists tree dir after found = MatchOption found (IsEnd tree dir after) (IsNext tree dir after)

-- what every listing answers, told or not: an entry that comes behind that name, with no size where it is a directory,
-- and none below a path of 64 names
pub record IsListed (names : ℕ) (after : Option (List ℕ)) (entry : Entry) : Type 0 where
  pub later : ComesAfter after (folded entry.name)
  pub no_size : entry.kind ≡ Dir → entry.size ≡ 0
  pub depth : names < 64

-- Reading

-- in each range that was wanted, the reader's bytes at a key are those of the tree
abbrev pub ReadsFrom : Tree → List Want → (List (List ℕ) → List ℕ) → Type 0
ReadsFrom tree wants bytes =
    (key : List (List ℕ)) (off len : ℕ) → Opens wants key off len → part_of off len (bytes key) ≡ part_of off len (bytes_in (get tree key))
