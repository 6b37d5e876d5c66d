use Rattle.std.proofs.Common.{◌∙◌}
use Rattle.rc_host_rows.proofs.ReadLemmas.{opens_range}
use Rattle.rc_host_rows.proofs.reads.read_range.Goals as goal

pub fill-filled-requires : goal.fill-filled-requires
fill-filled-requires c = opens_range _ _ _ _ _ _ (c.in-Ok.ensures.wants ∙ c.in_ok-vec-2.ensures.items) (c.new.ensures ∙ c.in_ok-vec.ensures.items) c.in_ok-copy.ensures (c.deref_mut.ensures.len ∙ c.in_ok-bytes.ensures.len)
