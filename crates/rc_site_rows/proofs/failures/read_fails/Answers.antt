use Rattle.std.proofs.Common.{◌∙◌}
use Rattle.rc_site_rows.proofs.ReadLemmas.{opens-first}
use Rattle.rc_site_rows.proofs.failures.read_fails.Goals as goal

pub fill-requires : goal.fill-requires
fill-requires c =
    opens-first _ _ _ (c.in_ok-reader.ensures.wants ∙ c.in_ok-vec-2.ensures.items) (c.new.ensures ∙ c.in_ok-vec.ensures.items) c.in_ok-copy.ensures
