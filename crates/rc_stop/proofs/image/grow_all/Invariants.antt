use Rattle.std.proofs.Common.{◌≡◌}
use Rattle.std.specs.BTreeMap.{IsOrdered, btree_map_len}
use Rattle.std.specs.FinMap.{empty}
use Rattle.rc_tree.specs.Path.{key_cmp}
use Rattle.rc_stop.specs.Grown.{grown}
use Rattle.rc_stop.proofs.Growing.{NoneAt, at_each}
use Rattle.rc_stop.proofs.image.grow_all.Given as goal

-- what is there and the keys that are left grow to what all keys grow to from nothing
abbrev pub invariant-keys : goal.invariant-keys
invariant-keys l = record {
  grows : grown (at_each l.kept l.reads l.keys.entries) l.image ≡ grown (at_each l.kept l.reads l.initial.keys.entries) empty;
  none : NoneAt l.image (at_each l.kept l.reads l.keys.entries);
  ordered : IsOrdered key_cmp l.keys;
}

abbrev pub decreases-keys : goal.decreases-keys
decreases-keys l = btree_map_len l.keys
