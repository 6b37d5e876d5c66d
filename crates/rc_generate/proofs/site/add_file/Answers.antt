use Rattle.std.proofs.lemmas.Result.{on_ok_weaker}
use Rattle.rc_volume.specs.declared.site.Side.TheVariants.{Source, Target}
use Rattle.rc_generate.specs.Generated.{file_key, has}
use Rattle.rc_generate.proofs.Growing.{comes-file, ok-fact, path-key}
use Rattle.rc_generate.proofs.site.add_file.Goals as goal

pub returns-clause-source : goal.returns-clause-source
returns-clause-source c =
    let args = c.args in
    ok-fact c.place_file-2.result (comes-file args.site.now.source c.place_file.new.tree (file_key args.i args.j) c.in_ok-path.path (has Source args.i args.j args.draw) c.in_ok-source.field-0.source
    (path-key args.i args.j args.dir.now c.in_ok-path.path c.requires.dir c.in_ok-path.ensures) c.in_ok-source.ensures.source c.requires.source.absent c.in_ok-place_file.ensures)

pub returns-clause-target : goal.returns-clause-target
returns-clause-target c =
    let args = c.args in
    on_ok_weaker c.place_file-2.result (comes-file args.site.now.target c.place_file-2.new.tree (file_key args.i args.j) c.in_ok-path.path (has Target args.i args.j args.draw) c.in_ok-source.field-0.target
    (path-key args.i args.j args.dir.now c.in_ok-path.path c.requires.dir c.in_ok-path.ensures) c.in_ok-source.ensures.target c.requires.target.absent) c.place_file-2.ensures
