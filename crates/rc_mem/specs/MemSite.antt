-- What contracts see of a site in memory.
use Rattle.std.specs.Prelude.{◌≡◌, map, [], ◌∷◌}
use Rattle.rc_volume.specs.declared.site.Side.TheVariants.{Source, Target}
use Rattle.rc_volume.specs.Log.{notes_synced, synced}
use Rattle.rc_volume.specs.Site.{Seen, Told}
use Rattle.rc_mem.specs.declared.site.MemSite.{MemSite}
use Rattle.rc_mem.specs.Logged.{event_of}

-- the two trees and the record
abbrev pub told_by : MemSite → Told
told_by site = record { source = site.source; target = site.target; notes = site.notes.items }

-- beside them its log, what its readers were made for and how its roots were named; nothing of it fails
abbrev pub seen_by : MemSite → Seen
seen_by site = record {
  told = told_by site;
  log = map event_of site.log.items;
  opened = site.opened.items;
  bound = site.bound.items;
  faults = λ _. 0;
}

-- a site on which no call came yet
pub record IsFreshSite (told : Told) (seen : Seen) : Type 0 where
  pub reads : seen.told ≡ told
  pub log : seen.log ≡ synced Source told.source ∷ synced Target told.target ∷ notes_synced told.notes ∷ []
  pub opened : seen.opened ≡ []
  pub bound : seen.bound ≡ []
