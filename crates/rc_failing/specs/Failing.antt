-- What contracts see of a site of which named calls fail: what the site behind it shows, and its own counts of faults.
use Rattle.std.specs.Prelude.{ℕ}
use Rattle.rc_volume.specs.declared.site.Part.{Part}
use Rattle.rc_volume.specs.declared.site.Part.TheVariants.{Source, Target, Record}
use Rattle.rc_volume.specs.Site.{Seen}
use Rattle.rc_mem.specs.MemSite.{seen_by}
use Rattle.rc_failing.specs.declared.site.FailingSite.{FailingSite}

abbrev pub failures_in : FailingSite → Part → ℕ
failures_in site Source = site.source_failures
failures_in site Target = site.target_failures
failures_in site Record = site.record_failures

abbrev pub seen_failing : FailingSite → Seen
seen_failing site = record (seen_by site.behind) { faults = failures_in site }
