-- What becomes of the source's entry of a key once its copy stands, by its act and by what both sides have there.
use Rattle.std.specs.Prelude.{◌≡◌, ℕ, Bool, true, false, not, ◌&&◌, ◌||◌, List, Option, Some, IsSomeAnd, if◌then◌else◌}
use Rattle.rc_tree.specs.declared.attr.Kind.{Kind}
use Rattle.rc_tree.specs.declared.attr.Kind.TheVariants.{File, Dir}
use Rattle.rc_class.specs.declared.decision.Act.{Act}
use Rattle.rc_class.specs.declared.decision.Act.TheVariants.{Make}
use Rattle.rc_class.specs.declared.decision.After.{After}
use Rattle.rc_class.specs.declared.decision.After.TheVariants.{Nothing, RemoveSource, ClearArchive}
use Rattle.rc_class.specs.declared.item.Item.{Item}
use Rattle.rc_class.specs.Units.{is_copy}
use Rattle.rc_job.specs.declared.choices.Moving.{Moving}
use Rattle.rc_job.specs.declared.choices.Moving.TheVariants as moving
use Rattle.rc_job.specs.declared.job.Job.{Job}
use Rattle.rc_filter.specs.Scope.{enters, is_directory}

-- `/MOV` or `/MOVE` is on
abbrev pub moves_files : Moving → Bool
moves_files moving.No = false
moves_files moving.Files = true
moves_files moving.All = true

-- `/MOVE` is
abbrev pub moves_directories : Moving → Bool
moves_directories moving.No = false
moves_directories moving.Files = false
moves_directories moving.All = true

-- a copied file is removed, and under `/M` one that stays loses the attribute archive
abbrev pub file_after : Job → Act → After
file_after job act =
    if not (is_copy act) then Nothing
    else if moves_files job.moving then RemoveSource
    else if job.only_m then ClearArchive
    else Nothing

abbrev pub is_make : Act → Bool
is_make Make = true
is_make _ = false

-- where the source has a directory, the target has one in the end: it stands, or it is made
abbrev pub has_directory : Act → Option Kind → Bool
has_directory act target = is_directory target || is_make act

-- a directory is removed where all below it is, the target has one there in the end, and it is gone into
abbrev pub directory_after : Job → List (List ℕ) → Option Kind → Act → Bool → After
directory_after job key target act all_moved =
    if all_moved && (moves_directories job.moving && (has_directory act target && enters job key (Some Dir) target))
    then RemoveSource
    else Nothing

-- what becomes of an entry of this kind, where the target has that there
abbrev pub after_act : Job → List (List ℕ) → Kind → Option Kind → Act → Bool → After
after_act job key File target act all_moved = file_after job act
after_act job key Dir target act all_moved = directory_after job key target act all_moved

-- an item says that the source's entry is removed
abbrev pub IsRemoved : Option Item → Type 0
IsRemoved found = IsSomeAnd found (λ item. item.after ≡ RemoveSource)
