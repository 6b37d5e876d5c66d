use Rattle.std.proofs.Common.{List, ℕ, inl, refl, ap, ◌∙◌}
use Rattle.rc_mem.specs.declared.clock.FixedClock.{FixedClock}
use Rattle.rc_jobfiles.specs.Ask.{texts}
use Rattle.rc_run.specs.Words.{asked}
use Rattle.drill.proofs.Failures.{may_end, refused_same, shown_same}
use Rattle.drill.proofs.mirror.mirror_set_up.Goals as goal

pub new-clock-requires : goal.new-clock-requires
new-clock-requires c = c.requires

pub returns : goal.returns
returns c = λ calls reads told set.
    let words : List (List ℕ) = texts c.args.words.now in
    let wanted = asked words c.args.jobs.now in
    let sent : List ℕ = c.new-report.result in
    let report : List ℕ = c.mirror_alone-ended.new.sink in
    let last : ℕ = c.mirror_alone-ended.new.clock.moment in
    let at = c.mirror_alone-ended.ensures.clock refl ∙ ap (λ (clock : FixedClock). clock.moment) c.new-clock.ensures in
    may_end calls reads words c.args.moment last c.args.site c.mirror_alone-ended.result.site told c.mirror_alone-ended.result.outcome sent report c.args.jobs.now c.mirror_alone-ended.new.jobs _ _ at c.new-report.ensures set (record {
      refused = c.mirror_alone-ended.ensures.refused (inl refl);
      untouched = refused_same wanted c.args.site c.mirror_alone-ended.result.site sent report _ (c.mirror_alone-ended.ensures.untouched (inl refl));
      shown = c.mirror_alone-ended.ensures.shown (inl refl);
      rests = shown_same wanted c.args.site c.mirror_alone-ended.result.site _ (c.mirror_alone-ended.ensures.rests (inl refl));
      run = c.mirror_alone-ended.ensures.mirrors (inl refl);
      begun = c.mirror_alone-ended.ensures.moment;
      kept = c.mirror_alone-ended.ensures.kept refl;
      sink = c.mirror_alone-ended.ensures.sink_cause;
      store = c.mirror_alone-ended.ensures.store_cause;
    })
