-- Why a whole job is refused.
use Rattle.std.specs.Prelude.{◌≡◌, ℕ, Bool, true, false, not, ◌&&◌, ◌||◌, nat_lt, List, Option, None, Some, is_none, is_some, length, encode_utf8_all, if◌then◌else◌}
use Rattle.rc_job.specs.Settings.{canonical}
use Rattle.rc_job.specs.declared.choices.Moving.{Moving}
use Rattle.rc_job.specs.declared.choices.Moving.TheVariants as moving
use Rattle.rc_job.specs.declared.job.Job.{Job}
use Rattle.rc_jobfiles.specs.Roots.{overlap}

abbrev pub is_moving : Moving → Bool
is_moving moving.No = false
is_moving other = true

-- what is moved is copied with its bytes
abbrev pub excludes : Job → Bool
excludes job = is_moving job.moving && (job.create || not job.copy.data_bytes)

-- there is no root, and it was not left out of a job that is not run
abbrev pub lacks : Option (List ℕ) → Bool → Bool → Bool
lacks root left_out quit = is_none root && not (left_out && quit)

abbrev pub roots_overlap : Option (List ℕ) → Option (List ℕ) → Bool
roots_overlap (Some source) (Some target) = overlap source target
roots_overlap source target = false

-- the canonical text has more than 16 MiB
abbrev pub is_too_long : Job → Bool
is_too_long job = nat_lt 16777216 (length (encode_utf8_all (canonical job)))

-- the kind of the first refusal of a job, of which `quit` says that it is not run
unfoldable pub refusal_of : Bool → Job → Option ℕ
refusal_of quit job =
    if excludes job then Some 9
    else if lacks job.source job.no_source quit then Some 10
    else if lacks job.target job.no_target quit then Some 11
    else if roots_overlap job.source job.target then Some 12
    else if is_too_long job then Some 15
    else None

-- no root is lacking, they do not overlap, what is moved is copied with its bytes, and the text is not too long
pub record IsWhole (quit : Bool) (job : Job) : Type 0 where
  pub source : lacks job.source job.no_source quit ≡ false
  pub target : lacks job.target job.no_target quit ≡ false
  pub apart : roots_overlap job.source job.target ≡ false
  pub moved : excludes job ≡ false
  pub short : is_too_long job ≡ false
