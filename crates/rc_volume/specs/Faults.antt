-- Counts of faults: how far one rises, and what an answer says of those of a site. A count stops at the greatest number
-- of its type.
use Rattle.std.specs.Prelude.{◌≡◌, ℕ, ◌+◌, ◌≤◌, Bool, true, false, min, Result, Ok, Err}
use Rattle.rc_volume.specs.declared.site.Part.{Part}
use Rattle.rc_volume.specs.declared.site.Part.TheVariants as part
use Rattle.rc_volume.specs.declared.site.Side.{Side}
use Rattle.rc_volume.specs.declared.site.Side.TheVariants as side
use Rattle.rc_volume.specs.declared.site.SiteErr.{SiteErr}
use Rattle.rc_volume.specs.declared.site.SiteErr.TheVariants as site_err
use Rattle.rc_volume.specs.declared.site.BindErr.{BindErr}
use Rattle.rc_volume.specs.declared.site.BindErr.TheVariants as bind_err

-- the greatest count
abbrev pub last_count : ℕ
last_count = 18446744073709551615

-- a count is higher by at least n than it was, or at its end
abbrev pub RoseBy : ℕ → ℕ → ℕ → Type 0
RoseBy n before now = min (before + n) last_count ≤ now

-- a count rose where the call failed, and stands where it did not
abbrev pub RisesIf : Bool → ℕ → ℕ → Type 0
RisesIf true before now = (before ≤ now) × RoseBy 1 before now
RisesIf false before now = now ≡ before

-- What an answer says of a site's counts

pub data Cause : Type 0 where
  -- all counts stand
  quiet : Cause
  -- no count falls
  free : Cause
  -- this part's count rose by at least so many, and no count fell
  on : Part → ℕ → Cause
  -- this answer does not come
  never : Cause

abbrev pub Counts : Cause → (Part → ℕ) → (Part → ℕ) → Type 0
Counts quiet before now = (part : Part) → now part ≡ before part
Counts free before now = (part : Part) → before part ≤ now part
Counts (on at n) before now = RoseBy n (before at) (now at) × ((part : Part) → before part ≤ now part)
Counts never before now = ⊥

-- the part whose count a side's faults go to
abbrev pub part_for : Side → Part
part_for side.Source = part.Source
part_for side.Target = part.Target

-- of a call on one part
abbrev pub part_cause : {T : Type 0} → Part → Result T SiteErr → Cause
part_cause at (Ok value) = quiet
part_cause at (Err site_err.Failed) = on at 1
part_cause at (Err site_err.NoMemory) = quiet

-- of a call on one side
abbrev pub side_cause : {T : Type 0} → Side → Result T SiteErr → Cause
side_cause side result = part_cause (part_for side) result

-- of binding the roots
abbrev pub bind_cause : {T : Type 0} → Result T BindErr → Cause
bind_cause (Ok value) = quiet
bind_cause (Err (bind_err.Failed side)) = on (part_for side) 1
bind_cause (Err bind_err.NoMemory) = quiet
