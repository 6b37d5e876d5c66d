-- What an answer of a listing says of a site's counts of faults.
use Rattle.std.specs.Prelude.{ℕ, ◌+◌, Result, Ok, Err}
use Rattle.rc_volume.specs.Faults.{Cause, free, on, part_for}
use Rattle.rc_plan.specs.declared.entries.ListErr.{ListErr}
use Rattle.rc_plan.specs.declared.entries.ListErr.TheVariants.{Failed, NoMemory}

-- a fault comes only behind so many retries of one listing, each of which failed on that side
abbrev pub list_cause : {T : Type 0} → ℕ → Result T ListErr → Cause
list_cause retries (Ok value) = free
list_cause retries (Err (Failed side)) = on (part_for side) (retries + 1)
list_cause retries (Err NoMemory) = free
