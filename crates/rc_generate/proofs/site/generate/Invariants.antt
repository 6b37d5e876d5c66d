use Rattle.std.proofs.Common.{◌≡◌, ◌*◌}
use Rattle.rc_volume.specs.declared.site.Side.TheVariants.{Source, Target}
use Rattle.rc_generate.specs.Generated.{state_at}
use Rattle.rc_generate.specs.Making.{HasDirectories}
use Rattle.rc_generate.proofs.site.generate.Given as goal

-- the directories before this one are there, and the state is that behind their draws
abbrev pub invariant-directories : goal.invariant-directories
invariant-directories l = record {
  state : l.state ≡ state_at l.number (100 * l.i);
  source : HasDirectories l.number l.i Source l.site.source;
  target : HasDirectories l.number l.i Target l.site.target;
}
