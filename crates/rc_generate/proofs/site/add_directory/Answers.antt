use Rattle.std.proofs.lemmas.Result.{on_ok_weaker}
use Rattle.rc_volume.specs.declared.site.Side.TheVariants.{Source, Target}
use Rattle.rc_generate.proofs.Growing.{directory-made, room-made}
use Rattle.rc_generate.proofs.site.add_directory.Goals as goal

pub add_files-requires-clause-source : goal.add_files-requires-clause-source
add_files-requires-clause-source c = room-made c.args.i c.args.site.now.source c.place_dir.new.tree c.requires.source c.in_ok-place_dir.ensures

pub add_files-requires-clause-target : goal.add_files-requires-clause-target
add_files-requires-clause-target c = room-made c.args.i c.args.site.now.target c.place_dir-2.new.tree c.requires.target c.in_ok-place_dir-2.ensures

pub returns-clause-source : goal.returns-clause-source
returns-clause-source c =
    on_ok_weaker c.add_files.result (directory-made c.args.state c.args.i Source c.args.site.now.source c.place_dir.new.tree c.add_files.new.site.source c.in_ok-place_dir.ensures) c.add_files.ensures.source

pub returns-clause-target : goal.returns-clause-target
returns-clause-target c =
    on_ok_weaker c.add_files.result (directory-made c.args.state c.args.i Target c.args.site.now.target c.place_dir-2.new.tree c.add_files.new.site.target c.in_ok-place_dir-2.ensures) c.add_files.ensures.target
