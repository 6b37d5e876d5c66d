-- Each piece goes behind those before it.
use Rattle.std.proofs.Common.{◌≡◌, ℕ, ◌+◌, length, take, subst, arith, rules}
use Rattle.std.proofs.lemmas.List.{length-take-le}
use Rattle.rc_tree.specs.Path.{key_of}
use Rattle.rc_volume.specs.declared.site.Side.TheVariants.{Target}
use Rattle.rc_volume.specs.Site.{node_at}
use Rattle.rc_copy.proofs.CopyLemmas.{IsFilled, IsFilled-more}
use Rattle.rc_volume.specs.declared.site.Part.TheVariants as part
use Rattle.rc_volume.proofs.ImageLemmas.{logs_then}
use Rattle.rc_copy.proofs.filling.copy_bytes.Goals as goal

pub loop-off-preserved : goal.loop-off-preserved
loop-off-preserved g c = record {
  within = omega arith;
  filled = λ tells.
      let bytes = g.S.Reader.Reader.bytes c.args.reader.now (key_of c.args.path.now) in
      let key = key_of c.args.path.now in
      let n = c.piece_len-n.result in
      let whole : length (take n c.loop-off.buf) ≡ n = length-take-le n c.loop-off.buf (omega arith) in
      subst (λ (k : ℕ). IsFilled bytes c.args.size (c.loop-off.off + k) (node_at (g.S.Site.view c.args.site.now).told Target key) (node_at (g.S.Site.view c.copy_piece.new.site).told Target key)) whole
      (IsFilled-more bytes c.args.size c.loop-off.off _ _ _ _
      (c.loop-off.invariant.filled tells) (c.in-Ok.ensures.whole tells) (c.in-Ok.ensures.copied tells));
  frame = record {
    here = search rules;
    elsewhere = search rules;
    log = λ tells. logs_then part.Target _ _ _ (c.loop-off.invariant.frame.log tells) (c.copy_piece.ensures.frame.log tells);
    opened = search rules;
    bound = search rules;
    counts = search rules;
  };
  buffer = search rules;
}

pub returns-in-Err-clause-frame : goal.returns-in-Err-clause-frame
returns-in-Err-clause-frame g c = record {
  here = search rules;
  elsewhere = search rules;
  log = λ tells. logs_then part.Target _ _ _ (c.loop-off.invariant.frame.log tells) (c.copy_piece.ensures.frame.log tells);
  opened = search rules;
  bound = search rules;
  counts = search rules;
}
