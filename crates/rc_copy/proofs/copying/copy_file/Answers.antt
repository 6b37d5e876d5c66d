use Rattle.std.proofs.Common.{rules}
use Rattle.rc_tree.specs.Path.{key_of}
use Rattle.rc_volume.specs.declared.site.Part.TheVariants as part
use Rattle.rc_volume.proofs.ImageLemmas.{logs_then}
use Rattle.rc_copy.proofs.CopyableLemmas.{has_files}
use Rattle.rc_copy.proofs.NodeLemmas.{copies_through}
use Rattle.rc_copy.proofs.copying.copy_file.Goals as goal

pub returns-in-Ok-fill_file-clause-copied : goal.returns-in-Ok-fill_file-clause-copied
returns-in-Ok-fill_file-clause-copied g c = λ tells.
    let item = c.args.item.now in
    let is = c.requires.copyable tells in
    copies_through c.finish.result c.args.copying.now item (key_of item.path) _ _ _ _ _ _ _
    (has_files item _ _ is.beside is.allowed c.requires.copy) c.requires.copy
    (c.begin.ensures.frame.elsewhere tells).other_tree (c.fill_file.ensures.frame.elsewhere tells).other_tree
    (c.in-Ok.ensures.begun tells).0 (c.in-Ok-fill_file.ensures.filled tells) (c.finish.ensures.finished tells)

pub returns-in-Ok-fill_file-clause-frame : goal.returns-in-Ok-fill_file-clause-frame
returns-in-Ok-fill_file-clause-frame g c = record {
  here = search rules;
  elsewhere = search rules;
  log = λ tells. logs_then part.Target _ _ _ (logs_then part.Target _ _ _ (c.begin.ensures.frame.log tells) (c.fill_file.ensures.frame.log tells)) (c.finish.ensures.frame.log tells);
  opened = search rules;
  bound = search rules;
  counts = search rules;
}

pub returns-in-Err-fill_file-clause-frame : goal.returns-in-Err-fill_file-clause-frame
returns-in-Err-fill_file-clause-frame g c = record {
  here = search rules;
  elsewhere = search rules;
  log = λ tells. logs_then part.Target _ _ _ (c.begin.ensures.frame.log tells) (c.fill_file.ensures.frame.log tells);
  opened = search rules;
  bound = search rules;
  counts = search rules;
}
