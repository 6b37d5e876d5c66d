-- What contracts see of a site over folders of the host: what its readers were made for, how its roots were named, how
-- often each part failed, and nothing told.
use Rattle.std.specs.Prelude.{◌≡◌, ℕ, Bool, List, [], flat_map, Result, Ok, Err}
use Rattle.std.specs.FinMap.{empty}
use Rattle.rc_volume.specs.declared.site.Part.{Part}
use Rattle.rc_volume.specs.declared.site.Part.TheVariants.{Source, Target, Record}
use Rattle.rc_volume.specs.Site.{Seen}
use Rattle.rc_volume.specs.declared.site.SiteErr.{SiteErr}
use Rattle.rc_host.specs.declared.fault.Fault.{Fault}
use Rattle.rc_host.specs.declared.site.HostSite.{HostSite}

-- how often each part failed
abbrev pub counts_in : HostSite → Part → ℕ
counts_in site Source = site.source_failures
counts_in site Target = site.target_failures
counts_in site Record = site.record_failures

abbrev pub seen_by : HostSite → Seen
seen_by site = record {
  told = record { source = empty; target = empty; notes = [] };
  log = [];
  opened = flat_map (λ wants. wants.value.items) site.opened.items;
  bound = site.bound.items;
  faults = counts_in site;
}

-- how a site answers what a call on the host answered
abbrev pub answer_of : {T : Type 0} → Result T Fault → Result T SiteErr
answer_of (Ok value) = Ok value
answer_of (Err Fault.Failed) = Err SiteErr.Failed
answer_of (Err Fault.NoMemory) = Err SiteErr.NoMemory
