use Rattle.std.proofs.Common.{subst, sym}
use Rattle.rc_volume.specs.Site.{IsWithin}
use Rattle.rc_mem.proofs.Readers.{shares-none, shares-more, within-stands}
use Rattle.rc_mem.proofs.reader.shared_files.Goals as goal

pub loop-want-init : goal.loop-want-init
loop-want-init c = shares-none c.args.tree.now c.new-files.result c.new-files.ensures.empty

pub share_file-requires : goal.share_file-requires
share_file-requires c =
    let want = c.want-item.result in
    within-stands c.args.tree.now want (subst (IsWithin c.args.tree.now) (sym c.want-item.is) (c.requires c.loop-want.want-index want c.loop-want-test.true))

pub loop-want-preserved : goal.loop-want-preserved
loop-want-preserved c =
    let want = c.want-item.result in
    shares-more c.args.tree.now c.args.wants.now c.loop-want.want-index want c.loop-want.files c.share_file.new.files c.loop-want.invariant c.loop-want-test.true c.want-item.is
    (within-stands c.args.tree.now want (subst (IsWithin c.args.tree.now) (sym c.want-item.is) (c.requires c.loop-want.want-index want c.loop-want-test.true)))
    c.in_ok-share_file.ensures
