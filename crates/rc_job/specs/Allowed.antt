-- The values that the switch table lets into a job.
use Rattle.std.specs.Prelude.{◌≡◌, ◌<◌, ◌≤◌, ◌^◌, ℕ, Bool, true, false, not, ◌&&◌, ◌==◌, nat_le, List, length, Option, None, All, IfSome}
use Rattle.std.specs.List.{list_all}
use Rattle.rc_tree.specs.Attr.{compared}
use Rattle.rc_wild.specs.declared.fault.PatternErr.{PatternErr}
use Rattle.rc_wild.specs.Pattern.{pattern_fault}
use Rattle.rc_wild.specs.PathPattern.{path_pattern_fault}
use Rattle.rc_job.specs.declared.job.Job.{Job}
use Rattle.rc_job.specs.declared.lists.Exclude.{Exclude}
use Rattle.rc_job.specs.declared.lists.Exclude.TheVariants as exclude

-- none below 32, and no quote
abbrev pub is_root_char : ℕ → Bool
is_root_char c = nat_le 32 c && not (c == 34)

abbrev pub is_root : List ℕ → Bool
is_root text = not (length text == 0) && list_all is_root_char text

-- what keeps a value of /XF or /XD from being one
abbrev pub exclude_fault : Exclude → Option PatternErr
exclude_fault (exclude.Name pattern) = pattern_fault pattern
exclude_fault (exclude.Path pattern) = path_pattern_fault pattern

-- each setting's value is one of its switch; of an age it says no more than that it is a number of its type
pub record HasAllowedValues (job : Job) : Type 0 where
  pub source : IfSome job.source (λ root. is_root root ≡ true)
  pub target : IfSome job.target (λ root. is_root root ≡ true)
  pub files : All (λ pattern. pattern_fault pattern ≡ None) job.files
  pub lev : IfSome job.lev (λ n. (1 ≤ n) × (n ≤ 65535))
  pub plus : compared job.plus ≡ job.plus
  pub minus : compared job.minus ≡ job.minus
  pub ia : job.ia.sparse ≡ false
  pub xa : job.xa.sparse ≡ false
  pub xf : All (λ value. exclude_fault value ≡ None) job.xf
  pub xd : All (λ value. exclude_fault value ≡ None) job.xd
  pub max : IfSome job.max (λ n. n < 2 ^ 64)
  pub min : IfSome job.min (λ n. n < 2 ^ 64)
  pub maxage : IfSome job.maxage (λ n. n < 2 ^ 32)
  pub minage : IfSome job.minage (λ n. n < 2 ^ 32)
  pub workers : (1 ≤ job.workers) × (job.workers ≤ 128)
  pub retries : job.retries ≤ 1000000000
  pub wait : job.wait ≤ 1000000000
