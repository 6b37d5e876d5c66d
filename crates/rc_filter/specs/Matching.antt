-- What the patterns of a job say of a key.
use Rattle.std.specs.Prelude.{ℕ, Bool, List, [], Option, unwrap_or}
use Rattle.std.specs.List.{list_any}
use Rattle.rc_tree.specs.Path.{last_name}
use Rattle.rc_wild.specs.Pattern.{matches_name}
use Rattle.rc_wild.specs.PathPattern.{matches_path}
use Rattle.rc_job.specs.declared.lists.Exclude.{Exclude}
use Rattle.rc_job.specs.declared.lists.Exclude.TheVariants as exclude
use Rattle.rc_job.specs.declared.job.Job.{Job}

-- a root's text; it is empty where the root isn't given
abbrev pub root_text : Option (List ℕ) → List ℕ
root_text root = unwrap_or root []

-- a value matches: by the last name, or by the path below the roots
abbrev pub excludes : Job → List (List ℕ) → Exclude → Bool
excludes job key (exclude.Name pattern) = matches_name pattern (last_name key)
excludes job key (exclude.Path pattern) = matches_path (root_text job.source) (root_text job.target) pattern key

-- a file pattern names a file
abbrev pub is_named : Job → List (List ℕ) → Bool
is_named job key = list_any (λ pattern. matches_name pattern (last_name key)) job.files

-- a value of `/XF` excludes it
abbrev pub is_excluded_file : Job → List (List ℕ) → Bool
is_excluded_file job key = list_any (excludes job key) job.xf

-- a value of `/XD` excludes a directory
abbrev pub is_excluded_directory : Job → List (List ℕ) → Bool
is_excluded_directory job key = list_any (excludes job key) job.xd
