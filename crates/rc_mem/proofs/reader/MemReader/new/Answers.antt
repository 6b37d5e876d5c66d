use Rattle.std.proofs.Common.{subst}
use Rattle.rc_mem.specs.Reading.{Shares}
use Rattle.rc_mem.proofs.Readers.{reads-shares, within-shares}
use Rattle.rc_mem.proofs.reader.MemReader.new.Goals as goal

pub invariant_of-result : goal.invariant_of-result
invariant_of-result c =
    let files = c.in_ok-shared_files.field-0 in
    record { within = within-shares c.args.tree.now c.args.wants.items files (subst (λ wants. Shares c.args.tree.now wants files) c.as_slice.ensures.value c.in_ok-shared_files.ensures) c.requires }

pub returns-clause-bytes : goal.returns-clause-bytes
returns-clause-bytes c =
    let files = c.in_ok-shared_files.field-0 in
    reads-shares c.args.tree.now c.args.wants.items files (subst (λ wants. Shares c.args.tree.now wants files) c.as_slice.ensures.value c.in_ok-shared_files.ensures)
