use Rattle.rc_volume.specs.declared.site.Side.TheVariants.{Source, Target}
use Rattle.rc_generate.proofs.Growing.{bare-next, directories-more, directories-none, state-directory, state-first}
use Rattle.rc_generate.proofs.site.generate.Goals as goal

pub directories-init : goal.directories-init
directories-init c = record {
  state = state-first c.args.number;
  source = directories-none c.args.number Source c.new.result c.new.ensures;
  target = directories-none c.args.number Target c.new-2.result c.new-2.ensures;
}

pub add_directory-requires-clause-source : goal.add_directory-requires-clause-source
add_directory-requires-clause-source c = bare-next c.args.number c.directories.i Source c.directories.site.source c.directories-test.true c.directories.invariant.source

pub add_directory-requires-clause-target : goal.add_directory-requires-clause-target
add_directory-requires-clause-target c = bare-next c.args.number c.directories.i Target c.directories.site.target c.directories-test.true c.directories.invariant.target

pub directories-preserved : goal.directories-preserved
directories-preserved c =
    let n = c.args.number in
    let i = c.directories.i in
    let now = c.directories.site in
    let new = c.add_directory.new.site in
    let state = c.directories.invariant.state in
    record {
      state = state-directory n i c.directories.state c.in-Ok.after state c.in-Ok.ensures.state;
      source = directories-more n i Source now.source c.directories-test.true c.directories.invariant.source new.source c.directories.state state c.in-Ok.ensures.source;
      target = directories-more n i Target now.target c.directories-test.true c.directories.invariant.target new.target c.directories.state state c.in-Ok.ensures.target;
    }
