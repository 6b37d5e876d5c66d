-- What of a job decides which keys are copied, made, removed or left.
use Rattle.rc_job.specs.Job.{default_job}
use Rattle.rc_job.specs.declared.job.Job.{Job}

-- the job with the defaults of the settings that do not decide: missing roots, how a run goes, and what is reported
abbrev pub deciding_part : Job → Job
deciding_part job = record job {
  no_source = default_job.no_source;
  no_target = default_job.no_target;
  strides = default_job.strides;
  workers = default_job.workers;
  retries = default_job.retries;
  wait = default_job.wait;
  list_only = default_job.list_only;
  verbose = default_job.verbose;
  nfl = default_job.nfl;
  ndl = default_job.ndl;
  nc = default_job.nc;
  ns = default_job.ns;
  njh = default_job.njh;
  njs = default_job.njs;
  plain_bytes = default_job.plain_bytes;
  full_path = default_job.full_path;
  with_time = default_job.with_time;
  scan = default_job.scan;
}
