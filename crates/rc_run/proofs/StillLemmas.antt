-- A run that ended at its words for want of memory or for a fault of the store says of each job what it is to say.
use Rattle.std.proofs.Common.{◌≡◌, ◌⊎◌, ℕ, ◌+◌, ◌≤◌, Bool, true, false, List, inl, inr, refl, sym, subst, arith}
use Rattle.std.proofs.lemmas.Bool.{true≢false}
use Rattle.rc_job.specs.declared.job.Job.{Job}
use Rattle.rc_volume.specs.Faults.{Counts}
use Rattle.rc_volume.specs.Site.{Seen, Told}
use Rattle.rc_volume.specs.Waits.{Paused}
use Rattle.rc_run.specs.declared.outcome.Outcome.{Outcome}
use Rattle.rc_run.specs.declared.outcome.Outcome.TheVariants.{JobFault, NoMemory}
use Rattle.rc_run.specs.Answers.{Answers, IsInMode, IsOpened, RunLeaves, Sends, report_in}
use Rattle.rc_run.specs.Mirroring.{Mirrors}
use Rattle.rc_run.specs.Outcome.{Causes, FailedBy, IfDone, IfReported, WaitsFor, ending, finished, first_step, is_reported, last_step, listed, refused, at_words}
use Rattle.rc_run.proofs.RunLemmas.{AppendsFront-none}
use Rattle.rc_run.proofs.WaitLemmas.{unwaited}
use Rattle.rc_run.proofs.WordLemmas.{IsFault}

-- the two answers
abbrev fault : Bool → Outcome
fault true = NoMemory
fault false = JobFault

early : (b : Bool) → first_step (ending (fault b)) ≤ at_words
early true = omega arith
early false = omega arith

no_refusal : (b : Bool) (step : ℕ) → ending (fault b) ≡ refused step → ⊥
no_refusal true step same = cc
no_refusal false step same = cc

mode : (b : Bool) (job : Job) → IsInMode job (fault b)
mode true job = record { listed = λ same. cc; done = λ same. cc }
mode false job = record { listed = λ same. cc; done = λ same. cc }

unreported : (b : Bool) → is_reported (ending (fault b)) ≡ true → ⊥
unreported true same = true≢false (sym same)
unreported false same = true≢false (sym same)

cause : (b : Bool) (retries : ℕ) (seen : Seen) → Causes retries (fault b) seen seen
cause true retries seen = λ part. omega arith
cause false retries seen = λ part. omega arith

tried : (b : Bool) (n : ℕ) (seen : Seen) → FailedBy n (fault b) seen seen
tried true n seen = _
tried false n seen = _

done_not : (b : Bool) (P : ℕ → ℕ → Type 0) → IfDone (fault b) P
done_not true P = _
done_not false P = _

bits_not : (b : Bool) (P : ℕ → Type 0) → IfReported (fault b) P
bits_not true P = _
bits_not false P = _

answers : (b tells : Bool) (job : Job) (told : Told) (moment : ℕ) → Answers tells job told moment (fault b)
answers b tells job told moment =
    let first = early b in
    record {
      behind_words = by b;
      refusal = λ step same. absurd (no_refusal b step same);
      mode = mode b job;
      no_record = λ l. absurd (omega (arith, l, first));
      within = λ l. absurd (omega (arith, l, first));
    }
  where
    by : (b : Bool) → (at_words + 1 ≤ last_step (ending (fault b))) ⊎ (fault b ≡ JobFault)
    by true = inl (omega arith)
    by false = inr refl

leaves : (b : Bool) (job : Job) (moment : ℕ) (told : Told) → RunLeaves job moment told told (fault b)
leaves b job moment told =
    let first = early b in
    record {
      mirrored = λ _ late. absurd (omega (arith, late, first));
      listed = λ _. refl;
      unchanged = λ _. refl;
      between = λ key. inl refl;
      releasing = λ key. inl refl;
      notes = refl;
    }

mirrors : (b tells sink_tells : Bool) (job : Job) (moment : ℕ) (seen : Seen) (sent : List ℕ) (waited : Paused) → Mirrors tells sink_tells job moment (fault b) seen seen sent sent waited waited
mirrors b tells sink_tells job moment seen sent waited =
    let first = early b in
    record {
      answers = answers b tells job seen.told moment;
      cause = cause b job.retries seen;
      tried = λ _ _. tried b (job.retries + 1) seen;
      leaves = λ _. leaves b job moment seen.told;
      lasting = λ _ _ late. absurd (omega (arith, late, first));
      in_order = λ _. inl (refl, λ other apart. refl);
      listed = λ _ _. refl;
      opened = λ _. (inl refl, done_not b _);
      bound = (inl refl, λ l. absurd (omega (arith, l, first)));
      bits = λ _. bits_not b _;
      sends = λ _ _. record {
        whole = λ same. absurd (unreported b same);
        front = AppendsFront-none sent (report_in job seen.told moment);
      };
      reported = λ _. inl refl;
      waits = unwaited job.wait job.retries (ending (fault b)) seen.faults seen.faults waited (cause b job.retries seen);
      no_pause = λ _. refl;
    }

pub still_mirrors : (tells sink_tells : Bool) (job : Job) (moment : ℕ) (outcome : Outcome) (seen : Seen) (sent : List ℕ) (waited : Paused) → IsFault outcome → Mirrors tells sink_tells job moment outcome seen seen sent sent waited waited
still_mirrors tells sink_tells job moment outcome seen sent waited (inl is) =
    subst (λ (o : Outcome). Mirrors tells sink_tells job moment o seen seen sent sent waited waited) (sym is) (mirrors true tells sink_tells job moment seen sent waited)
still_mirrors tells sink_tells job moment outcome seen sent waited (inr is) =
    subst (λ (o : Outcome). Mirrors tells sink_tells job moment o seen seen sent sent waited waited) (sym is) (mirrors false tells sink_tells job moment seen sent waited)
