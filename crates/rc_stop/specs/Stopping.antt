-- What contracts see of a site that stops.
use Rattle.std.specs.Prelude.{◌≡◌, ℕ, ◌+◌, ◌&&◌, ◌==◌, min, Bool, true, false, List, ◌++◌, map}
use Rattle.rc_volume.specs.Faults.{last_count}
use Rattle.rc_volume.specs.declared.site.Part.{Part}
use Rattle.rc_volume.specs.declared.site.Part.TheVariants.{Source, Target, Record}
use Rattle.rc_volume.specs.Log.{Event}
use Rattle.rc_volume.specs.Site.{Seen}
use Rattle.rc_stop.specs.declared.stop.StopSite.{StopSite}
use Rattle.rc_mem.specs.declared.logged.Logged.{Logged}
use Rattle.rc_mem.specs.Logged.{event_of}
use Rattle.rc_mem.specs.MemSite.{seen_by, told_by}

abbrev pub failures_in : StopSite → Part → ℕ
failures_in site Source = site.source_failures
failures_in site Target = site.target_failures
failures_in site Record = site.record_failures

-- how many changing calls there were on a part before it stopped, the stopping one among them
abbrev pub calls_in : StopSite → Part → ℕ
calls_in site Source = site.source_calls
calls_in site Target = site.target_calls
calls_in site Record = site.record_calls

abbrev pub same_part : Part → Part → Bool
same_part Source Source = true
same_part Target Target = true
same_part Record Record = true
same_part at other = false

-- the next changing call on this part is the one that was named
abbrev pub due_in : StopSite → Part → Bool
due_in site at = same_part site.part at && (min (calls_in site at + 1) last_count == site.number)

-- the log as it stood when the stopping call began
abbrev pub log_before : StopSite → List Event
log_before site = (seen_by site.kept).log

-- behind it come the calls that failed since
abbrev pub log_since : List Event → Bool → List Logged → List Event
log_since log true later = log ++ map event_of later
log_since log false later = log

abbrev pub seen_stopping : StopSite → Seen
seen_stopping site = record {
  told = told_by site.kept;
  log = log_since (log_before site) site.stopped site.later.items;
  opened = (seen_by site.kept).opened;
  bound = (seen_by site.kept).bound;
  faults = failures_in site;
}

-- what a call leaves as it was of a site that runs, and that it runs on
pub record RunsOn (old new : StopSite) : Type 0 where
  pub kept : new.kept ≡ old.kept
  pub running : new.stopped ≡ false
  pub before : old.stopped ≡ false
