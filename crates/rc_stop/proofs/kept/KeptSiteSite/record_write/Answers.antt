use Rattle.std.proofs.Common.{◌+◌, ◌++◌, ◌≤◌, length, take, drop, refl, sym, subst}
use Rattle.rc_volume.specs.Site.{IsTornBytes}
use Rattle.rc_volume.proofs.ReadLemmas.{write_steps}
use Rattle.rc_mem.specs.declared.logged.NotesCall.TheVariants.{Write}
use Rattle.rc_mem.specs.declared.site.MemSite.{MemSite}
use Rattle.rc_mem.specs.MemSite.{told_by}
use Rattle.rc_stop.proofs.KeptSteps.{kept-notes-behind}
use Rattle.rc_stop.proofs.kept.KeptSiteSite.record_write.Goals as goal

pub invariant_of-self : goal.invariant_of-self
invariant_of-self c =
    let O = c.self.inside.behind in
    let N = c.record_write-answer.new.self in
    let frame = c.record_write-answer.ensures.frame in
    let within : c.args.off ≤ length (told_by O).notes = subst (λ (s : MemSite). c.args.off ≤ length (told_by s).notes) (sym c.self.view_is) (c.requires.within refl) in
    kept-notes-behind O N c.self.inside.source c.self.inside.target c.self.inside.notes (record { bytes = c.self.inside.notes.bytes; calls = c.settle_notes.new.calls }) c.self.inside.touched.items c.self.invariant (frame.log refl) (frame.source refl) (frame.target refl)
    (Write c.args.off (length c.args.bytes.now)) c.log_len-before.result c.note.new.calls.items c.log_len-before.ensures (record { noted = c.in-Ok.ensures.items; stood = c.settle_notes.ensures.stood; came = c.settle_notes.ensures.came }) refl
    (write_steps c.record_write-answer.result c.args.off c.args.bytes.now (told_by O).notes (told_by N).notes within (frame.here refl)) c.record_write-answer.result (take c.args.off (told_by O).notes ++ c.args.bytes.now ++ drop (c.args.off + length c.args.bytes.now) (told_by O).notes) (IsTornBytes c.args.off (length c.args.bytes.now)) (frame.here refl) (c.record_write-answer.ensures.log refl)
