-- What contracts see of a site of many files: how often each part failed, and nothing told.
use Rattle.std.specs.Prelude.{◌≡◌, ℕ, true, [], Result, Err}
use Rattle.std.specs.FinMap.{empty}
use Rattle.rc_tree.specs.declared.attr.Kind.TheVariants.{File}
use Rattle.rc_tree.specs.declared.entry.Entry.{Entry}
use Rattle.rc_tree.specs.declared.props.Props.{Props}
use Rattle.rc_tree.specs.Attr.{no_attr}
use Rattle.rc_volume.specs.declared.site.Part.{Part}
use Rattle.rc_volume.specs.declared.site.Part.TheVariants.{Source, Target, Record}
use Rattle.rc_volume.specs.declared.site.SiteErr.{SiteErr}
use Rattle.rc_volume.specs.declared.site.SiteErr.TheVariants.{Failed}
use Rattle.rc_volume.specs.Faults.{Counts, on}
use Rattle.rc_volume.specs.Site.{Seen, no_props}
use Rattle.rc_mem.specs.declared.wide.WideSite.{WideSite}

abbrev pub counts_by : WideSite → Part → ℕ
counts_by site Source = site.source_faults
counts_by site Target = site.target_faults
counts_by site Record = site.record_faults

abbrev pub seen_wide : WideSite → Seen
seen_wide site = record {
  told = record { source = empty; target = empty; notes = [] };
  log = [];
  opened = [];
  bound = [];
  faults = counts_by site;
}

-- a call that fails: this part's count rose, and all else is as it was
pub record FailsOn {T : Type 0} (at : Part) (result : Result T SiteErr) (old new : WideSite) : Type 0 where
  pub answer : result ≡ Err Failed
  pub counts : Counts (on at 1) (counts_by old) (counts_by new)
  pub files : new.files ≡ old.files
  pub size : new.size ≡ old.size

-- the archive attribute alone, both times 0, no security
abbrev pub archive_props : Props
archive_props = record no_props { attr = record no_attr { archive = true } }

-- what a listing shows of each file
pub record ShowsFile (site : WideSite) (entry : Entry) : Type 0 where
  pub kind : entry.kind ≡ File
  pub size : entry.size ≡ site.size
  pub props : entry.props ≡ archive_props
