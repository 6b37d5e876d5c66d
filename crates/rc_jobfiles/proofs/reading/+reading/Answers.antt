use Rattle.std.proofs.Common.{◌≡◌, ◌==◌, ◌+◌, ◌-◌, true, List, ◌∷◌, [], refl, sym, ap, subst, ◌∙◌, length, take, drop}
use Rattle.rc_words.specs.declared.setting.Placed.{Placed}
use Rattle.rc_jobfiles.specs.Resolving.{file_gathered, gathered, names_none}
use Rattle.rc_jobfiles.proofs.Readings.{begin_from, due_by, file_refused, files_stand, first_known, first_none, list_next, list_read, next_setting, no_setting, opened_read, same_file}
use Rattle.rc_jobfiles.proofs.reading.+reading.Goals as goal

pub read_file-returns-in-Ok-clause-reads : goal.read_file-returns-in-Ok-clause-reads
read_file-returns-in-Ok-clause-reads g t c tells =
    opened_read _ c.args.room _ _ c.args.progress.now.chain.items _ c.args.file.now c.args.place c.args.name c.args.progress.now.begun _ c.in-Ok.settings.items _
    (c.in-Ok.ensures.same tells) c.deref.ensures.value refl c.in-Ok.ensures.free.0 (c.in-Ok.ensures.opened tells) (c.read_opened.ensures.reads tells)

pub read_file-returns-in-Err-clause-reads : goal.read_file-returns-in-Err-clause-reads
read_file-returns-in-Err-clause-reads g t c tells =
    due_by
    (file_refused c.args.room (g.J.JobStore.files c.args.store.now) c.args.progress.now.chain.items c.deref.result.now c.args.file.now c.args.place c.args.name c.args.progress.now.begun (c.args.room == 0) c.in-Err.e c.deref.ensures.value refl)
    (c.in-Err.ensures.opened tells)

pub read_list-settings-init : goal.read_list-settings-init
read_list-settings-init g t c = record {
  done = λ knows. begin_from _ _ c.args.settings.items _ c.as_slice-rest.ensures.value;
  none = λ h. (refl, ap names_none c.as_slice-rest.ensures.value ∙ h);
  same = λ tells. refl;
  cause = refl;
}

pub read_list-settings-preserved : goal.read_list-settings-preserved
read_list-settings-preserved g t c =
    let p = c.placed-item.result in
    let rest = c.settings.rest.now in
    let next = next_setting rest p _ c.in-len1-up.len_at_least c.placed-item.is in
    record {
      done = λ knows.
          let is = c.settings.invariant.done knows in
          let files = files_stand g.J.JobStore.files _ _ _ _ c.settings.invariant.same (λ none. (c.settings.invariant.none none).0) knows in
          list_next c.in-Ok.field-0 _ _ _ _ _ c.args.settings.items rest _ p next (same_file c.args.room _ _ _ _ c.args.file.now files is.passes.chain) is
          (c.in-Ok.ensures.reads (first_known rest _ p next (λ none. (c.settings.invariant.none none).1) knows));
      none = λ h.
          let t = c.settings.invariant.none h in
          let split = first_none rest _ p next t.1 in
          ((c.in-Ok.ensures.alone split.0).0 ∙ t.0, split.1);
      same = λ tells. c.in-Ok.ensures.same tells ∙ c.settings.invariant.same tells;
      cause = c.in-Ok.ensures.cause ∙ c.settings.invariant.cause;
    }

pub read_list-returns-in-Ok-end_list-clause-reads : goal.read_list-returns-in-Ok-end_list-clause-reads
read_list-returns-in-Ok-end_list-clause-reads g t c knows =
    list_read c.in-Ok-end_list.field-0 _ _ _ _ c.args.settings.items c.settings.rest.now (no_setting c.settings.rest.now c.in_default.len_below) (c.settings.invariant.done knows)
    c.in-Ok-end_list.ensures.chain c.in-Ok-end_list.ensures.begun c.in-Ok-end_list.ensures.values c.in-Ok-end_list.ensures.lists
