use Rattle.std.proofs.Common.{ap, ◌∙◌}
use Rattle.rc_volume.specs.declared.site.Side.TheVariants.{Source, Target}
use Rattle.rc_stop.specs.Stops.{drawn, next_state}
use Rattle.rc_generate.proofs.Growing.{files-more, files-none, free-next, state-first, state-more}
use Rattle.rc_generate.proofs.site.add_files.Goals as goal

pub files-init : goal.files-init
files-init c = record {
  state = state-first c.args.state;
  source = files-none c.args.state c.args.i Source c.args.site.now.source;
  target = files-none c.args.state c.args.i Target c.args.site.now.target;
}

pub add_file-requires-clause-source : goal.add_file-requires-clause-source
add_file-requires-clause-source c = free-next c.args.state c.args.i c.files.j Source c.args.site.now.source c.files.site.source c.requires.small c.files-test.true c.files.invariant.source c.requires.source

pub add_file-requires-clause-target : goal.add_file-requires-clause-target
add_file-requires-clause-target c = free-next c.args.state c.args.i c.files.j Target c.args.site.now.target c.files.site.target c.requires.small c.files-test.true c.files.invariant.target c.requires.target

pub files-preserved : goal.files-preserved
files-preserved c =
    let old = c.args.site.now in
    let new = c.add_file.new.site in
    let next = c.next_state-state.ensures ∙ ap next_state c.files.invariant.state ∙ state-more c.args.state c.files.j in
    let draw = c.drawn.ensures ∙ ap drawn next in
    record {
      state = next;
      source = files-more c.args.state c.args.i c.files.j Source old.source c.files.site.source c.requires.small c.files-test.true c.files.invariant.source new.source c.drawn.result draw c.in-Ok.ensures.source;
      target = files-more c.args.state c.args.i c.files.j Target old.target c.files.site.target c.requires.small c.files-test.true c.files.invariant.target new.target c.drawn.result draw c.in-Ok.ensures.target;
    }
