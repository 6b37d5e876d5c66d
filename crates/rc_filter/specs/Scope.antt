-- Which directories a run goes into, and which keys it decides.
use Rattle.std.specs.Prelude.{ℕ, ◌+◌, Bool, true, false, not, ◌&&◌, ◌||◌, List, [], ◌∷◌, ◌++◌, Option, None, Some, length, nat_le}
use Rattle.std.specs.Option.{option_map_or}
use Rattle.rc_tree.specs.declared.attr.Kind.{Kind}
use Rattle.rc_tree.specs.declared.attr.Kind.TheVariants.{File, Dir}
use Rattle.rc_tree.specs.Path.{parent_of}
use Rattle.rc_tree.specs.Tree.{Tree, kind_at}
use Rattle.rc_job.specs.declared.job.Job.{Job}
use Rattle.rc_job.specs.declared.choices.Sub.{Sub}
use Rattle.rc_job.specs.declared.choices.Sub.TheVariants as sub
use Rattle.rc_filter.specs.Matching.{is_excluded_directory}

abbrev pub is_file : Option Kind → Bool
is_file None = false
is_file (Some File) = true
is_file (Some Dir) = false

abbrev pub is_directory : Option Kind → Bool
is_directory None = false
is_directory (Some File) = false
is_directory (Some Dir) = true

-- a directory on one of the sides, and no file
abbrev pub are_directories : Option Kind → Option Kind → Bool
are_directories source target = (is_directory source || is_directory target) && not (is_file source || is_file target)

-- `/S` or `/E` is on
abbrev pub has_subtrees : Sub → Bool
has_subtrees sub.None = false
has_subtrees sub.NonEmpty = true
has_subtrees sub.All = true

-- the level of a directory is one more than the number of its names
abbrev pub is_level : Option ℕ → List (List ℕ) → Bool
is_level deepest key = option_map_or (λ n. nat_le (length key + 1) n) deepest true

-- directories of this level count
abbrev pub reaches : Job → List (List ℕ) → Bool
reaches job key = has_subtrees job.sub && is_level job.lev key

-- a directory is gone into where the one above is: the root always
abbrev pub enters : Job → List (List ℕ) → Option Kind → Option Kind → Bool
enters job [] source target = true
enters job (name ∷ names) source target =
    reaches job (name ∷ names) && not (is_excluded_directory job (name ∷ names)) && are_directories source target

-- a key is decided where the directory above is gone into
abbrev pub decides : Job → List (List ℕ) → Option Kind → Option Kind → Bool
decides job key source target =
    is_file source || is_file target || ((is_directory source || is_directory target) && reaches job key)

-- a test passes at each front of a key, behind the names of a directory
abbrev pub each_front : (List (List ℕ) → Bool) → List (List ℕ) → List (List ℕ) → Bool
each_front test above [] = true
each_front test above (name ∷ names) = test (above ++ name ∷ []) && each_front test (above ++ name ∷ []) names

-- a directory is in scope: it and each one above it are gone into
abbrev pub is_in_scope : Job → Tree → Tree → List (List ℕ) → Bool
is_in_scope job source target key = each_front (λ front. enters job front (kind_at source front) (kind_at target front)) [] key

-- the directory above a key is in scope; the root has none above it
abbrev pub is_above_in_scope : Job → Tree → Tree → List (List ℕ) → Bool
is_above_in_scope job source target key = option_map_or (is_in_scope job source target) (parent_of key) false

-- a key is decided
abbrev pub is_decided : Job → Tree → Tree → List (List ℕ) → Bool
is_decided job source target key =
    decides job key (kind_at source key) (kind_at target key) && is_above_in_scope job source target key
