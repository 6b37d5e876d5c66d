use Rattle.std.proofs.Common.{◌≡◌, true}
use Rattle.rc_tree.specs.Path.{key_of}
use Rattle.rc_tree.specs.Tree.{IsDirectory}
use Rattle.rc_volume.specs.Site.{tree_in}
use Rattle.rc_volume.specs.declared.site.Side.TheVariants.{Source}
use Rattle.rc_site_rows.proofs.sites.list.Given as goal

abbrev pub invariant-loop : goal.invariant-loop
invariant-loop g l = g.S.Site.tells ≡ true → IsDirectory (tree_in (g.S.Site.view l.site) Source) (key_of l.dir)
