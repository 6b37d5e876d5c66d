use Rattle.std.proofs.Common.{◌≡◌}
use Rattle.rc_volume.specs.declared.site.Side.TheVariants.{Source, Target}
use Rattle.rc_generate.specs.Generated.{state_at}
use Rattle.rc_generate.specs.Making.{HasFiles}
use Rattle.rc_generate.proofs.site.add_files.Given as goal

-- the files before this one are there, and the state is that behind their draws
abbrev pub invariant-files : goal.invariant-files
invariant-files l = record {
  state : l.state ≡ state_at l.fn.state l.j;
  source : HasFiles l.fn.state l.i l.j Source l.fn.site.source l.site.source;
  target : HasFiles l.fn.state l.i l.j Target l.fn.site.target l.site.target;
}
