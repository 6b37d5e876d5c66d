-- Jobs that are read back from what is kept of them.
use Rattle.std.specs.Prelude.{◌≡◌, Bool, true, not, ◌==◌, length, IfSome}
use Rattle.rc_job.specs.Allowed.{HasAllowedValues}
use Rattle.rc_job.specs.declared.job.Job.{Job}
use Rattle.rc_words.specs.Values.{is_age}

-- each value is one that words give for its setting, and there is a pattern of files
pub record IsAllowed (job : Job) : Type 0 where
  pub values : HasAllowedValues job
  pub maxage : IfSome job.maxage (λ n. is_age n ≡ true)
  pub minage : IfSome job.minage (λ n. is_age n ≡ true)
  pub files : not (length job.files == 0) ≡ true
