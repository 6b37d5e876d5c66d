-- How a walk goes through a tree: each directory right behind its entry, so that keys rise.
use Rattle.std.specs.Prelude.{◌≡◌, ℕ, Bool, true, List, [], ◌∷◌, ◌++◌, Option, None, Some, length}
use Rattle.rc_tree.specs.declared.attr.Kind.{Kind}
use Rattle.rc_tree.specs.declared.attr.Kind.TheVariants.{File, Dir}
use Rattle.rc_tree.specs.declared.entry.Entry.{Entry}
use Rattle.rc_tree.specs.Path.{key_of, floor_of}
use Rattle.rc_tree.specs.Tree.{Tree}
use Rattle.rc_volume.specs.Site.{IsEnd, IsListed, IsNext}
use Rattle.rc_plan.specs.declared.entries.Found.{Found}
use Rattle.rc_plan.specs.declared.entries.Place.{Place}
use Rattle.rc_plan.specs.declared.entries.Step.{Step}
use Rattle.rc_plan.specs.declared.entries.Step.TheVariants as step
use Rattle.rc_plan.specs.Found.{found_of}

-- the least key that is ahead of a place
abbrev pub floor : Place → List (List ℕ)
floor place = key_of place.dir ++ floor_of place.after ∷ []

-- where a walk goes on from an entry: in the directory, or behind the file
abbrev pub next_place : Kind → List (List ℕ) → List ℕ → Place
next_place File dir name = record { dir = dir; after = Some name }
next_place Dir dir name = record { dir = dir ++ name ∷ []; after = None }

-- a place is behind a directory in the one above it; there is none behind the root
abbrev pub IsBehind : List (List ℕ) → Option Place → Type 0
IsBehind dir None = dir ≡ []
IsBehind dir (Some place) = (name : List ℕ) × (dir ≡ place.dir ++ name ∷ []) × (place.after ≡ Some name)

-- the next entry was found
pub record Enters (tells : Bool) (tree : Tree) (place : Place) (found : Found) (next : Place) : Type 0 where
  pub entry : Entry
  pub listed : IsListed (length place.dir) place.after entry
  pub least : tells ≡ true → IsNext tree (key_of place.dir) place.after entry
  pub is_found : found ≡ found_of (place.dir ++ entry.name ∷ []) entry
  pub goes_on : next ≡ next_place entry.kind place.dir entry.name

-- a directory has no more entries
pub record Leaves (tells : Bool) (tree : Tree) (place : Place) (next : Option Place) : Type 0 where
  pub behind : IsBehind place.dir next
  pub ends : tells ≡ true → IsEnd tree (key_of place.dir) place.after

-- one step of a walk
abbrev pub Steps : Bool → Tree → Place → Step → Type 0
Steps tells tree place (step.Entered found next) = Enters tells tree place found next
Steps tells tree place (step.Left next) = Leaves tells tree place (Some next)
Steps tells tree place step.Ended = Leaves tells tree place None
