use Rattle.std.proofs.Common.{take, refl}
use Rattle.rc_volume.specs.Site.{IsCutBytes}
use Rattle.rc_volume.proofs.ReadLemmas.{cut_steps}
use Rattle.rc_mem.specs.declared.logged.NotesCall.TheVariants.{Cut}
use Rattle.rc_mem.specs.MemSite.{told_by}
use Rattle.rc_stop.proofs.KeptSteps.{kept-notes-behind}
use Rattle.rc_stop.proofs.kept.KeptSiteSite.record_cut.Goals as goal

pub invariant_of-self : goal.invariant_of-self
invariant_of-self c =
    let O = c.self.inside.behind in
    let N = c.record_cut-answer.new.self in
    let frame = c.record_cut-answer.ensures.frame in
    kept-notes-behind O N c.self.inside.source c.self.inside.target c.self.inside.notes (record { bytes = c.self.inside.notes.bytes; calls = c.settle_notes.new.calls }) c.self.inside.touched.items c.self.invariant (frame.log refl) (frame.source refl) (frame.target refl)
    (Cut c.args.len) c.log_len-before.result c.note.new.calls.items c.log_len-before.ensures (record { noted = c.in-Ok.ensures.items; stood = c.settle_notes.ensures.stood; came = c.settle_notes.ensures.came }) refl
    (cut_steps c.record_cut-answer.result c.args.len (told_by O).notes (told_by N).notes (frame.here refl)) c.record_cut-answer.result (take c.args.len (told_by O).notes) (IsCutBytes c.args.len) (frame.here refl) (c.record_cut-answer.ensures.log refl)
