-- Each pause came behind a failed listing.
use Rattle.std.proofs.Common.{refl, arith}
use Rattle.rc_volume.proofs.WaitLemmas.{waits_ended, waits_failed}
use Rattle.rc_plan.proofs.Listings.{failed_counts, kept_counts}
use Rattle.rc_plan.proofs.entries.next_entry.Goals as goal

pub returns-in-Ok-clause-waits : goal.returns-in-Ok-clause-waits
returns-in-Ok-clause-waits g c =
    waits_ended _ c.args.side c.loop.counter _ _ _ _ _ _ (λ part. refl) c.loop.invariant.paused c.loop.invariant.frame.counts (λ part. omega (arith, c.in-Ok.ensures.frame.counts part))

pub returns-in-Err-NoMemory-clause-waits : goal.returns-in-Err-NoMemory-clause-waits
returns-in-Err-NoMemory-clause-waits g c =
    waits_ended _ c.args.side c.loop.counter _ _ _ _ _ _ (λ part. refl) c.loop.invariant.paused c.loop.invariant.frame.counts (kept_counts _ _ _ _ c.in-Err-NoMemory.ensures.frame.counts)

pub returns-in-Ok-next_entry-clause-waits : goal.returns-in-Ok-next_entry-clause-waits
returns-in-Ok-next_entry-clause-waits g c =
    waits_ended _ c.args.side c.loop.counter _ _ _ _ _ _ (λ part. refl) c.loop.invariant.paused c.loop.invariant.frame.counts (λ part. omega (arith, c.in-Ok-next_entry.ensures.frame.counts part))

pub returns-in-Err-Failed-next_entry-clause-waits : goal.returns-in-Err-Failed-next_entry-clause-waits
returns-in-Err-Failed-next_entry-clause-waits g c =
    waits_failed _ c.args.side c.loop.counter _ _ _ _ _ _ c.loop.invariant.paused c.loop.invariant.frame.counts (failed_counts _ _ _ _ c.in-Err-Failed-next_entry.field-0-is c.in-Err-Failed-next_entry.ensures.frame.counts)

pub returns-in-Err-NoMemory-next_entry-clause-waits : goal.returns-in-Err-NoMemory-next_entry-clause-waits
returns-in-Err-NoMemory-next_entry-clause-waits g c =
    waits_ended _ c.args.side c.loop.counter _ _ _ _ _ _ (λ part. refl) c.loop.invariant.paused c.loop.invariant.frame.counts (kept_counts _ _ _ _ c.in-Err-NoMemory-next_entry.ensures.frame.counts)
