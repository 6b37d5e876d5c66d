use Rattle.std.proofs.Common.{◌≡◌, ℕ, List}
use Rattle.std.specs.BTreeMap as btree
use Rattle.std.specs.BTreeMap.{IsOrdered, btree_map_len}
use Rattle.std.specs.FinMap.{find}
use Rattle.std.specs.Map.{keys_of}
use Rattle.rc_tree.specs.Path.{key_cmp}
use Rattle.rc_stop.specs.Stops.{draws, state_behind}
use Rattle.rc_stop.proofs.Draws.{over}
use Rattle.rc_stop.proofs.image.draw_all.Given as goal

-- the draws of the keys that are left, over those that were drawn, are the draws of all
abbrev pub invariant-keys : goal.invariant-keys
invariant-keys l = record {
  found : (key : List (List ℕ)) → over (find key_cmp key (draws l.state (keys_of l.touched.entries))) (btree.get key_cmp l.odd key) ≡ find key_cmp key (draws l.initial.state (keys_of l.initial.touched.entries));
  behind : state_behind l.state (keys_of l.touched.entries) ≡ state_behind l.initial.state (keys_of l.initial.touched.entries);
  ordered : IsOrdered key_cmp l.touched;
  drawn : IsOrdered key_cmp l.odd;
}

abbrev pub decreases-keys : goal.decreases-keys
decreases-keys l = btree_map_len l.touched
