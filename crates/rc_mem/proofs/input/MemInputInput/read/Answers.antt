use Rattle.std.proofs.Common.{sym, ◌∙◌}
use Rattle.rc_mem.proofs.Streams.{taken-front}
use Rattle.rc_mem.proofs.input.MemInputInput.read.Goals as goal

pub returns-clause-taken : goal.returns-clause-taken
returns-clause-taken c = λ _. sym c.self.view_is ∙ taken-front c.self.inside.bytes.items c.deref.result.now c.args.buf.now c.copy_from_slice.new.self c.self.inside.taken c.min-count.result c.deref.ensures.value c.min-count.ensures c.copy_from_slice.ensures.after
