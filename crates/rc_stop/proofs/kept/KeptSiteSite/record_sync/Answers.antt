use Rattle.std.proofs.Common.{ap, refl, rules}
use Rattle.rc_volume.specs.Site.{Told}
use Rattle.rc_stop.proofs.KeptSteps.{kept-notes-synced}
use Rattle.rc_stop.proofs.kept.KeptSiteSite.record_sync.Goals as goal

pub invariant_of-self : goal.invariant_of-self
invariant_of-self c =
    let told = c.record_sync.ensures.frame.told refl in
    kept-notes-synced c.self.inside.behind c.record_sync.new.self c.self.inside.source c.self.inside.target c.self.inside.notes (record { bytes = c.in-Ok.bytes; calls = c.new.result }) c.self.inside.touched.items c.self.invariant
    (c.record_sync.ensures.frame.log refl) (ap (λ (t : Told). t.source) told) (ap (λ (t : Told). t.target) told) (c.in-Ok-record_sync.ensures.log refl) (ap (λ (t : Told). t.notes) told) (search rules) c.new.ensures.items
