-- What a failed listing says of counts, by its error.
use Rattle.std.proofs.Common.{◌≡◌, ◌≤◌, ℕ, arith}
use Rattle.std.specs.Prelude.{Option, Err}
use Rattle.rc_tree.specs.declared.entry.Entry.{Entry}
use Rattle.rc_volume.specs.declared.site.Part.{Part}
use Rattle.rc_volume.specs.declared.site.SiteErr.{SiteErr}
use Rattle.rc_volume.specs.declared.site.SiteErr.TheVariants as site_err
use Rattle.rc_volume.specs.Faults.{Counts, on, part_cause}

pub failed_counts : (e : SiteErr) (at : Part) (a b : Part → ℕ) → e ≡ site_err.Failed → Counts (part_cause {T = Option Entry} at (Err e)) a b → Counts (on at 1) a b
failed_counts site_err.Failed at a b is rose = rose
failed_counts site_err.NoMemory at a b is rose = absurd (differ is)
  where
    differ : site_err.NoMemory ≡ site_err.Failed → ⊥
    differ e = cc

-- none falls, whatever the error is
pub kept_counts : (e : SiteErr) (at : Part) (a b : Part → ℕ) → Counts (part_cause {T = Option Entry} at (Err e)) a b → (part : Part) → a part ≤ b part
kept_counts site_err.Failed at a b rose part = rose.1 part
kept_counts site_err.NoMemory at a b same part = omega (arith, same part)
