use Rattle.std.proofs.Common.{List, ℕ, inl, refl, ap, ◌∙◌}
use Rattle.rc_mem.specs.declared.clock.FixedClock.{FixedClock}
use Rattle.rc_mem.specs.MemSite.{seen_by, told_by}
use Rattle.rc_jobfiles.specs.Ask.{texts}
use Rattle.rc_run.specs.Words.{asked}
use Rattle.drill.proofs.Ends.{an_end, ends_so, never, run_did, showed, stayed}
use Rattle.drill.proofs.mirror.mirror_whole.Goals as goal

pub new-clock-requires : goal.new-clock-requires
new-clock-requires c = c.requires

pub returns : goal.returns
returns c =
    let words : List (List ℕ) = texts c.args.words.now in
    let site = c.args.site in
    let after = c.mirror_alone-ended.result.site in
    let outcome = c.mirror_alone-ended.result.outcome in
    let old = c.args.jobs.now in
    let new = c.mirror_alone-ended.new.jobs in
    let wanted = asked words old in
    let before : List ℕ = c.new-report.result in
    let report : List ℕ = c.mirror_alone-ended.new.sink in
    let last : ℕ = c.mirror_alone-ended.new.clock.moment in
    let at = c.mirror_alone-ended.ensures.clock refl ∙ ap (λ (clock : FixedClock). clock.moment) c.new-clock.ensures in
    ends_so words c.args.moment last (told_by site) old (an_end report outcome (told_by after) new) before at c.new-report.ensures (record {
      refused = stayed wanted last old outcome site after before report new _ (c.mirror_alone-ended.ensures.untouched (inl refl));
      shown = showed wanted last old outcome site after before report new _ (c.mirror_alone-ended.ensures.shown (inl refl)) (c.mirror_alone-ended.ensures.rests (inl refl));
      run = run_did wanted last old outcome (seen_by site) (seen_by after) before report _ _ new (c.mirror_alone-ended.ensures.mirrors (inl refl));
      expected = c.mirror_alone-ended.ensures.complete refl (inl refl) (λ part. never) never never;
      begun = c.mirror_alone-ended.ensures.moment;
      silent = c.mirror_alone-ended.ensures.silent;
      kept = c.mirror_alone-ended.ensures.kept refl;
    })
