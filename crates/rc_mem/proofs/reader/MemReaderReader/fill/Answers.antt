use Rattle.std.proofs.Common.{◌+◌, ◌≤◌, List, ℕ, length, sym, subst, ap, ◌∙◌}
use Rattle.rc_tree.specs.Path.{key_of}
use Rattle.rc_mem.specs.Reading.{shared_at}
use Rattle.rc_mem.proofs.reader.MemReaderReader.fill.Goals as goal

pub copy_part-requires : goal.copy_part-requires
copy_part-requires c = subst (λ (bytes : List ℕ). c.args.off + length c.args.buf.now ≤ length bytes) (sym (c.bytes_of.ensures ∙ ap (shared_at c.args.self.now.files) c.in-Ok.ensures)) (c.args.self.now.within (key_of c.args.path.now) c.args.off (length c.args.buf.now) c.requires)
