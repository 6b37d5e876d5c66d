use Rattle.std.proofs.Common.{◌≡◌, true}
use Rattle.std.specs.FinMap.{get}
use Rattle.rc_tree.specs.Path.{key_of}
use Rattle.rc_volume.specs.Site.{bytes_in}
use Rattle.rc_copy.proofs.NodeLemmas.{fills_so, read_whole}
use Rattle.std.proofs.Common.{rules}
use Rattle.rc_volume.specs.declared.site.Part.TheVariants as part
use Rattle.rc_volume.proofs.ImageLemmas.{logs_then}
use Rattle.rc_copy.proofs.filling.fill_file.Goals as goal

pub returns-in-Ok-clause-filled : goal.returns-in-Ok-clause-filled
returns-in-Ok-clause-filled g c = λ tells.
    let item = c.args.item.now in
    let key = key_of item.path in
    let source = (g.S.Site.view c.args.site.now).told.source in
    let bytes = g.S.Reader.Reader.bytes c.args.reader.now in
    let flagged : c.args.with_bytes ≡ true = c.if-not-with_bytes.false in
    let whole = read_whole source (g.S.Reader.Reader.wants c.args.reader.now) bytes key c.args.with_bytes item flagged c.requires.copy c.requires.opens (c.requires.told tells).1 (c.requires.source tells) in
    fills_so c.copy_bytes.result c.args.with_bytes (bytes_in (get source key)) (bytes key) item.facts.size _ _ _ flagged whole (c.in-Ok.ensures.brought tells) (c.copy_bytes.ensures.copied tells)

pub returns-in-Ok-clause-frame : goal.returns-in-Ok-clause-frame
returns-in-Ok-clause-frame g c = record {
  here = search rules;
  elsewhere = search rules;
  log = λ tells. logs_then part.Target _ _ _ (c.in-Ok.ensures.frame.log tells) (c.copy_bytes.ensures.frame.log tells);
  opened = search rules;
  bound = search rules;
  counts = search rules;
}
