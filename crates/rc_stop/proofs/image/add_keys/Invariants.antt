use Rattle.std.proofs.Common.{◌≡◌, ℕ, List, map, None}
use Rattle.std.specs.BTreeMap as btree
use Rattle.std.specs.BTreeMap.{IsOrdered}
use Rattle.std.specs.FinMap.{entries, find}
use Rattle.rc_tree.specs.Path.{key_cmp}
use Rattle.rc_stop.specs.Grown.{odd_in}
use Rattle.rc_mem.specs.Nodes.{at_key}
use Rattle.rc_stop.proofs.image.add_keys.Given as goal

-- a key that is not there stands at most at a node that is left
abbrev pub invariant-loop-node : goal.invariant-loop-node
invariant-loop-node l = record {
  same : (key : List (List ℕ)) → odd_in l.odd key ≡ odd_in l.initial.odd key;
  left : (key : List (List ℕ)) → btree.get key_cmp l.odd key ≡ None → find key_cmp key (map at_key l.node-iterator) ≡ find key_cmp key (entries l.tree);
  ordered : IsOrdered key_cmp l.odd;
}
