-- How long is waited for a call that is tried again, by the way in which it ends.
use Rattle.std.proofs.Common.{◌≡◌, ◌≤◌, ℕ, suc, ◌+◌, refl, ap, subst, ◌∙◌, sym, arith}
use Rattle.std.specs.Prelude.{Err}
use Rattle.rc_volume.specs.declared.site.Part.{Part}
use Rattle.rc_volume.specs.declared.site.Side.{Side}
use Rattle.rc_volume.specs.declared.site.SiteErr.{SiteErr}
use Rattle.rc_volume.specs.declared.site.SiteErr.TheVariants as site_err
use Rattle.rc_volume.specs.Faults.{Cause, Counts, free, on, part_cause, part_for, quiet}
use Rattle.rc_volume.specs.Waits.{Paused, Waits, paused_by, paused_once}
use Rattle.rc_volume.proofs.WaitLemmas.{waits_ended, waits_failed, waits_never, waits_then}
use Rattle.rc_finish.specs.declared.err.FinishErr.{FinishErr}
use Rattle.rc_finish.specs.Calls.{fault_of, finish_cause}

-- one pause more
pub paused_more : (seconds n : ℕ) (p q r : Paused) → q ≡ paused_by seconds n p → r ≡ paused_once seconds q → r ≡ paused_by seconds (n + 1) p
paused_more seconds n p q r before once =
    let more : suc n ≡ n + 1 = omega arith in
    once ∙ ap (paused_once seconds) before ∙ ap (λ (times : ℕ). paused_by seconds times p) more

-- the attempt that succeeds
pub waited_at_ok : (seconds : ℕ) (at : Side) (n : ℕ) (before mid after : Part → ℕ) (p q : Paused) → q ≡ paused_by seconds n p → Counts (on (part_for at) n) before mid → Counts quiet mid after → Waits seconds free before after p q
waited_at_ok seconds at n before mid after p q is rose same =
    waits_ended seconds at n free before mid after p q (λ part. refl) is rose (λ part. omega (arith, same part))

grown : (T : Type 0) (e : SiteErr) (at : Part) (mid after : Part → ℕ) → Counts (part_cause {T = T} at (Err e)) mid after → (part : Part) → mid part ≤ after part
grown T site_err.Failed at mid after again part = again.1 part
grown T site_err.NoMemory at mid after same part = omega (arith, same part)

-- one for which memory is wanting
pub waited_without_memory : (T : Type 0) (seconds : ℕ) (at : Side) (n : ℕ) (e : SiteErr) (before mid after : Part → ℕ) (p q : Paused) → q ≡ paused_by seconds n p → Counts (on (part_for at) n) before mid → Counts (part_cause {T = T} (part_for at) (Err e)) mid after → Waits seconds free before after p q
waited_without_memory T seconds at n e before mid after p q is rose again =
    waits_ended seconds at n free before mid after p q (λ part. refl) is rose (grown T e (part_for at) mid after again)

-- and the last one
pub waited_in_vain : (T : Type 0) (seconds : ℕ) (at : Side) (n retries : ℕ) (e : SiteErr) (err : FinishErr) (before mid after : Part → ℕ) (p q : Paused) → err ≡ fault_of e at → q ≡ paused_by seconds n p → Counts (on (part_for at) n) before mid → Counts (part_cause {T = T} (part_for at) (Err e)) mid after → Waits seconds (finish_cause {T = T} retries (Err err)) before after p q
waited_in_vain T seconds at n retries e err before mid after p q fault is rose again =
    subst (λ (x : FinishErr). Waits seconds (finish_cause {T = T} retries (Err x)) before after p q) (sym fault) (by e again)
  where
    by : (e : SiteErr) → Counts (part_cause {T = T} (part_for at) (Err e)) mid after → Waits seconds (finish_cause {T = T} retries (Err (fault_of e at))) before after p q
    by site_err.Failed once = waits_failed seconds at n (retries + 1) before mid after p q is rose once
    by site_err.NoMemory same = waited_at_ok seconds at n before mid after p q is rose same

-- no call, and no pause
pub waits_not : (seconds : ℕ) (faults : Part → ℕ) (p : Paused) → Waits seconds free faults faults p p
waits_not seconds faults p = waits_never seconds free faults faults p (λ part. omega arith)

-- the pauses of a call that was not in vain, and of what comes behind it
pub waits_behind : (seconds : ℕ) (cause : Cause) (before mid after : Part → ℕ) (p q r : Paused) → Waits seconds free before mid p q → Waits seconds cause mid after q r → Waits seconds cause before after p r
waits_behind seconds cause before mid after p q r = waits_then seconds free cause before mid after p q r (λ part. refl)
