-- How a run over a site in memory ended.
use Rattle.std.proofs.Common.{◌≡◌, ◌⊎◌, ℕ, ◌<◌, Bool, true, false, List, [], ◌||◌, Option, Some, None, Result, Ok, Err, inl, inr, refl, sym, ap, subst, ◌∙◌, arith, true≢false}
use Rattle.std.specs.Prelude.{nat_lt, option_map, if◌then◌else◌}
use Rattle.std.specs.List.{count_by}
use Rattle.rc_volume.specs.Faults.{RoseBy}
use Rattle.rc_volume.specs.Site.{Seen, Told}
use Rattle.rc_volume.specs.Streams.{AppendsFront}
use Rattle.rc_volume.specs.Waits.{Paused}
use Rattle.rc_mem.specs.declared.site.MemSite.{MemSite}
use Rattle.rc_mem.specs.MemSite.{told_by}
use Rattle.rc_jobfiles.specs.declared.resolving.Resolved.{Resolved}
use Rattle.rc_run.specs.declared.outcome.Outcome.{Outcome}
use Rattle.rc_run.specs.declared.outcome.Outcome.TheVariants as out
use Rattle.rc_run.specs.declared.outcome.Unbuilt.TheVariants as unbuilt
use Rattle.rc_run.specs.Answers.{IsExpected, IsInMode, IsSilentBefore, RunLeaves, Sends, bits_in, is_empty, site_refusal, start_refusal, unplanned}
use Rattle.rc_run.specs.Keeping.{Keeps, ShowsJob, job_bytes}
use Rattle.rc_run.specs.Mirroring.{Mirrors}
use Rattle.rc_run.specs.Outcome.{IfDone, IfReported, at_copies, at_report, ending, is_reported, last_step}
use Rattle.rc_run.specs.Words.{IfRefused, IfRun, IfShown, asked}
use Rattle.rc_class.specs.declared.item.Item.{Item}
use Rattle.rc_filter.specs.Acts.{copies_bytes}
use Rattle.rc_filter.specs.Decided.{planned_items}
use Rattle.rc_plan.specs.declared.plan.PlanErr.{PlanErr}
use Rattle.rc_plan.specs.declared.plan.PlanErr.TheVariants as plan_err
use Rattle.rc_plan.specs.Limits.{first_too_big, has_source, has_target, limit_of, too_big}
use Rattle.rc_plan.specs.Plan.{limit_in}
use Rattle.rc_volume.specs.declared.site.Side.TheVariants as side
use Rattle.rc_job.specs.declared.job.Job.{Job}
use Rattle.rc_sitetext.specs.SiteText.{Jobs}
use Rattle.drill.specs.Finishing.{start_at}
use Rattle.drill.specs.Runs.{End, Ends, IsCutIn, IsCutShort, IsCutShown, IsRefused, IsRun, Start}

-- by the rules, or for want of memory
abbrev pub EndsWell : List (List ℕ) → Start → End → Type 0
EndsWell words start end = IsRun words start end ⊎ IsCutShort words start end

abbrev pub an_end : List ℕ → Outcome → Told → Jobs → End
an_end report outcome now jobs = record { report = report; outcome = outcome; now = now; jobs = jobs }

pub never : RoseBy 1 0 0 → ⊥
never h = omega (arith, h)

-- a site is refused before anything is changed or reported
limit_early : (with_bytes : Bool) (items : List Item) (e : PlanErr) → limit_of with_bytes items ≡ Some e → last_step (ending (unplanned e)) < at_copies
limit_early with_bytes items (plan_err.TooMany side count) is = omega arith
limit_early with_bytes items (plan_err.TooBig path size) is = omega arith
limit_early with_bytes items (plan_err.ListFault side) is = omega arith
limit_early with_bytes items plan_err.NoMemory is = absurd (no_memory (nat_lt 500000 (count_by has_source items)) (nat_lt 500000 (count_by has_target items)) with_bytes (first_too_big items) is)
  where
    no_memory : (many theirs bytes : Bool) (big : Option Item) → (if many then Some (plan_err.TooMany side.Source 500001) else if theirs then Some (plan_err.TooMany side.Target 500001) else if bytes then too_big big else None) ≡ Some plan_err.NoMemory → ⊥
    no_memory true theirs bytes big e = cc
    no_memory false true bytes big e = cc
    no_memory false false true None e = cc
    no_memory false false true (Some item) e = cc
    no_memory false false false big e = cc

refused_early : (job : Job) (told : Told) (moment : ℕ) (refusal : Outcome) → site_refusal job told moment ≡ Some refusal → last_step (ending refusal) < at_copies
refused_early job told moment refusal e = by (job.list_only || is_empty told.notes) (limit_in job told moment) refl e
  where
    same : (x y : Outcome) → Some x ≡ Some y → x ≡ y
    same x y h = cc

    by : (b : Bool) (passed : Option PlanErr) → limit_in job told moment ≡ passed → (if b then option_map unplanned passed else Some (out.NotYet unbuilt.Record)) ≡ Some refusal → last_step (ending refusal) < at_copies
    by true None is h = cc
    by true (Some e) is h = subst (λ (o : Outcome). last_step (ending o) < at_copies) (same (unplanned e) refusal h) (limit_early (copies_bytes job) (planned_items job told.source told.target moment) e is)
    by false passed is h = subst (λ (o : Outcome). last_step (ending o) < at_copies) (same (out.NotYet unbuilt.Record) refusal h) (omega arith)

-- What a run over a site in memory says, of which nothing fails

-- of a job that is run
pub record Did (job : Job) (start : Start) (end : End) (before : List ℕ) : Type 0 where
  pub leaves : RunLeaves job start.moment start.told end.now end.outcome
  pub sends : Sends job start.moment start.told end.outcome before end.report
  pub reported : IsSilentBefore before end.report job start.moment start.told end.now
  pub mode : IsInMode job end.outcome
  pub bits : IfReported end.outcome (λ bits. bits ≡ bits_in job start.told start.moment)

-- of a job that is shown
pub record Showed (job : Job) (start : Start) (end : End) (before : List ℕ) : Type 0 where
  pub shows : ShowsJob true job end.outcome before end.report
  pub now : end.now ≡ start.told

-- and of words that are refused
pub record Stayed (start : Start) (end : End) (before : List ℕ) : Type 0 where
  pub now : end.now ≡ start.told
  pub report : end.report ≡ before

-- by what its words ask for
pub record Said (words : List (List ℕ)) (start : Start) (end : End) (before : List ℕ) : Type 0 where
  pub refused : IfRefused (asked words start.jobs) (λ refusal. Stayed start end before)
  pub shown : IfShown (asked words start.jobs) (λ job. Showed job start end before)
  pub run : IfRun (asked words start.jobs) (λ job. Did job start end before)
  pub expected : IsExpected (start_refusal (asked words start.jobs) start.told start.moment) end.outcome
  pub begun : IfDone end.outcome (λ bits at. at ≡ start.moment)
  pub silent : last_step (ending end.outcome) < at_report → end.report ≡ before
  pub kept : Keeps (asked words start.jobs) end.outcome start.jobs end.jobs

-- memory ran out
cut_end : (words : List (List ℕ)) (start : Start) (end : End) → Said words start end [] → end.outcome ≡ out.NoMemory → EndsWell words start end
cut_end words start end said same = inr (record {
  outcome = same;
  refused = by_refusal (asked words start.jobs) said.refused;
  shown = by_shown (asked words start.jobs) said.shown;
  run = by_run (asked words start.jobs) said.run;
})
  where
    by_refusal : (a : Result Resolved Outcome) → IfRefused a (λ refusal. Stayed start end []) → IfRefused a (λ refusal. (end.report ≡ []) × (end.now ≡ start.told))
    by_refusal (Ok accepted) stayed = _
    by_refusal (Err refusal) stayed = (stayed.report, stayed.now)

    by_shown : (a : Result Resolved Outcome) → IfShown a (λ job. Showed job start end []) → IfShown a (λ job. IsCutShown job start end)
    by_shown (Ok accepted) showed = λ quits. let did = showed quits in record { report = did.shows.front refl; now = did.now }
    by_shown (Err refusal) showed = _

    by_run : (a : Result Resolved Outcome) → IfRun a (λ job. Did job start end []) → IfRun a (λ job. IsCutIn job start end)
    by_run (Ok accepted) ran = λ runs. let did = ran runs in record {
      leaves = subst (λ (o : Outcome). RunLeaves accepted.job start.moment start.told end.now o) same did.leaves;
      report = did.sends.front;
      reported = did.reported;
    }
    by_run (Err refusal) ran = _

-- of a run whose report was written: it was carried out, or listed alone
reported_end : (words : List (List ℕ)) (start : Start) (report : List ℕ) (outcome : Outcome) (now : Told) (jobs : Jobs) (accepted : Resolved) → asked words start.jobs ≡ Ok accepted → accepted.quit ≡ false → site_refusal accepted.job start.told start.moment ≡ None → is_reported (ending outcome) ≡ true
    → Did accepted.job start (an_end report outcome now jobs) [] → IfDone outcome (λ bits at. at ≡ start.moment) → IsRun words start (an_end report outcome now jobs)
reported_end words start report (out.Done bits at) now jobs accepted asks runs site whole did begun =
    inr (inl (record {
      job = accepted.job;
      asks = record { accepted = accepted; asks = asks; is = refl; runs = runs; site = site };
      changes = did.mode.done refl;
      outcome = ap (λ (m : ℕ). out.Done bits m) begun ∙ ap (λ (b : ℕ). out.Done b start.moment) did.bits;
      report = did.sends.whole whole;
      now = did.leaves.mirrored (did.mode.done refl) (omega arith);
    }))
reported_end words start report (out.Listed bits) now jobs accepted asks runs site whole did begun =
    inr (inr (inl (record {
      job = accepted.job;
      asks = record { accepted = accepted; asks = asks; is = refl; runs = runs; site = site };
      lists = did.mode.listed refl;
      outcome = ap (λ (b : ℕ). out.Listed b) did.bits;
      report = did.sends.whole whole;
      now = did.leaves.listed (did.mode.listed refl);
    })))
reported_end words start report other now jobs accepted asks runs site whole did begun = absurd (true≢false (sym whole))

-- of a job whose text was sent
shown_end : (words : List (List ℕ)) (start : Start) (end : End) (accepted : Resolved) → asked words start.jobs ≡ Ok accepted → accepted.quit ≡ true → is_reported (ending end.outcome) ≡ true → Showed accepted.job start end [] → IsRun words start end
shown_end words start end accepted asks quits whole showed = by showed.shows.answer
  where
    not_whole : (o : Outcome) → is_reported (ending o) ≡ false → end.outcome ≡ o → ⊥
    not_whole o none same = true≢false (sym whole ∙ ap (λ (x : Outcome). is_reported (ending x)) same ∙ none)

    by : (end.outcome ≡ out.Listed 0) ⊎ (end.outcome ≡ out.SinkFault) ⊎ (end.outcome ≡ out.JobFault) ⊎ (end.outcome ≡ out.NoMemory) → IsRun words start end
    by (inl listed) = inr (inr (inr (record {
      accepted = accepted;
      asks = asks;
      quits = quits;
      outcome = listed;
      report = showed.shows.whole refl whole;
      now = showed.now;
    })))
    by (inr (inl same)) = absurd (not_whole out.SinkFault refl same)
    by (inr (inr (inl same))) = absurd (not_whole out.JobFault refl same)
    by (inr (inr (inr same))) = absurd (not_whole out.NoMemory refl same)

ends : (words : List (List ℕ)) (start : Start) (end : End) → Said words start end [] → EndsWell words start end
ends words start end said = by_asked (asked words start.jobs) refl said.expected said.refused said.shown said.run
  where
    refused_end : start_refusal (asked words start.jobs) start.told start.moment ≡ Some end.outcome → Stayed start end [] → EndsWell words start end
    refused_end refused stayed = inl (inl (record { refused = refused; report = stayed.report; now = stayed.now }))

    by_asked : (a : Result Resolved Outcome) → asked words start.jobs ≡ a → IsExpected (start_refusal a start.told start.moment) end.outcome → IfRefused a (λ refusal. Stayed start end []) → IfShown a (λ job. Showed job start end []) → IfRun a (λ job. Did job start end [])
        → EndsWell words start end
    by_asked (Err refusal) e (inl same) stayed showed ran = refused_end (ap (λ (a : Result Resolved Outcome). start_refusal a start.told start.moment) e ∙ ap (λ (o : Outcome). Some o) (sym same)) stayed
    by_asked (Err refusal) e (inr memory) stayed showed ran = cut_end words start end said memory
    by_asked (Ok accepted) e expected stayed showed ran = by_quit accepted.quit refl expected
      where
        by_quit : (q : Bool) → accepted.quit ≡ q → IsExpected (if q then None else site_refusal accepted.job start.told start.moment) end.outcome → EndsWell words start end
        by_quit true quits (inl whole) = inl (shown_end words start end accepted e quits whole (showed quits))
        by_quit true quits (inr memory) = cut_end words start end said memory
        by_quit false runs awaited = by_site (site_refusal accepted.job start.told start.moment) refl awaited
          where
            refused_so : (refusal : Outcome) → site_refusal accepted.job start.told start.moment ≡ Some refusal → end.outcome ≡ refusal → EndsWell words start end
            refused_so refusal found same =
                let early : last_step (ending end.outcome) < at_copies = subst (λ (o : Outcome). last_step (ending o) < at_copies) (sym same) (refused_early accepted.job start.told start.moment refusal found) in
                refused_end
                (ap (λ (a : Result Resolved Outcome). start_refusal a start.told start.moment) e
                ∙ ap (λ (q : Bool). if q then None else site_refusal accepted.job start.told start.moment) runs ∙ found ∙ ap (λ (o : Outcome). Some o) (sym same))
                (record { now = (ran runs).leaves.unchanged early; report = said.silent (omega (arith, early)) })

            by_site : (found : Option Outcome) → site_refusal accepted.job start.told start.moment ≡ found → IsExpected found end.outcome → EndsWell words start end
            by_site None found (inl done) = inl (reported_end words start end.report end.outcome end.now end.jobs accepted e runs found done (ran runs) said.begun)
            by_site None found (inr memory) = cut_end words start end said memory
            by_site (Some refusal) found (inl same) = refused_so refusal found same
            by_site (Some refusal) found (inr memory) = cut_end words start end said memory

-- a run that began at a moment and with a report, whatever they were called
pub ends_so : (words : List (List ℕ)) (moment last : ℕ) (told : Told) (jobs : Jobs) (end : End) (before : List ℕ) → last ≡ moment → before ≡ [] → Said words (start_at told last jobs) end before → Ends words (start_at told moment jobs) end
ends_so words moment last told jobs end before at none said =
    let is : Said words (start_at told moment jobs) end [] =
    subst (λ (b : List ℕ). Said words (start_at told moment jobs) end b) none
    (subst (λ (m : ℕ). Said words (start_at told m jobs) end before) at said) in
    record { ends = ends words (start_at told moment jobs) end is; kept = is.kept }

-- What is said by what words ask for, in these words

pub run_did : (a : Result Resolved Outcome) (moment : ℕ) (jobs : Jobs) (outcome : Outcome) (old new : Seen) (before report : List ℕ) (p q : Paused) (after : Jobs) → IfRun a (λ job. Mirrors true true job moment outcome old new before report p q) → IfRun a (λ job. Did job (start_at old.told moment jobs) (an_end report outcome new.told after) before)
run_did (Ok accepted) moment jobs outcome old new before report p q after ran = λ runs.
    let says = ran runs in
    record {
      leaves = says.leaves refl;
      sends = says.sends refl refl;
      reported = says.reported refl;
      mode = says.answers.mode;
      bits = says.bits refl;
    }
run_did (Err refusal) moment jobs outcome old new before report p q after ran = _

pub showed : (a : Result Resolved Outcome) (moment : ℕ) (jobs : Jobs) (outcome : Outcome) (site end : MemSite) (before report : List ℕ) (after : Jobs) (more : Type 0) → IfShown a (λ job. ShowsJob true job outcome before report) → IfShown a (λ job. (end ≡ site) × more) → IfShown a (λ job. Showed job (start_at (told_by site) moment jobs) (an_end report outcome (told_by end) after) before)
showed (Ok accepted) moment jobs outcome site end before report after more shows rests = λ quits. record { shows = shows quits; now = ap told_by (rests quits).0 }
showed (Err refusal) moment jobs outcome site end before report after more shows rests = _

pub stayed : (a : Result Resolved Outcome) (moment : ℕ) (jobs : Jobs) (outcome : Outcome) (site end : MemSite) (before report : List ℕ) (after : Jobs) (more : Type 0) → IfRefused a (λ refusal. (end ≡ site) × (report ≡ before) × more) → IfRefused a (λ refusal. Stayed (start_at (told_by site) moment jobs) (an_end report outcome (told_by end) after) before)
stayed (Ok accepted) moment jobs outcome site end before report after more untouched = _
stayed (Err refusal) moment jobs outcome site end before report after more untouched = record { now = ap told_by untouched.0; report = untouched.1 }
