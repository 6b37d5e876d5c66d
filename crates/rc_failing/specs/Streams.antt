-- What contracts see of a sink, an input or a store of which one call fails.
use Rattle.std.specs.Prelude.{◌≡◌, ◌+◌, ◌==◌, min, Bool, true}
use Rattle.rc_volume.specs.Faults.{last_count}
use Rattle.rc_failing.specs.declared.streams.Failing.{Failing}

module _ {T : Type 0} where
  -- the next call is the one that was named
  abbrev pub is_next_due : Failing T → Bool
  is_next_due failing = min (failing.calls + 1) last_count == failing.number

  -- one call came, and all but the count of failures stands
  pub record CallsOnce (old new : Failing T) : Type 0 where
    pub calls : new.calls ≡ min (old.calls + 1) last_count
    pub behind : new.behind ≡ old.behind
    pub number : new.number ≡ old.number

  -- a call came, which fails exactly where it is the one that was named, and changes nothing then
  pub record FailsWhereNamed (failed : Bool) (old new : Failing T) : Type 0 where
    pub due : failed ≡ is_next_due old
    pub stands : failed ≡ true → new.behind ≡ old.behind
    pub calls : new.calls ≡ min (old.calls + 1) last_count
    pub number : new.number ≡ old.number
