use Rattle.std.proofs.Common.{◌≡◌, drop}
use Rattle.std.specs.BTreeMap.{IsOrdered}
use Rattle.std.specs.FinMap.{empty}
use Rattle.rc_tree.specs.Path.{key_cmp}
use Rattle.rc_stop.specs.Grown.{keys_held}
use Rattle.rc_stop.specs.KeptSite.{gathered, keys_on}
use Rattle.rc_stop.proofs.image.gather.Given as goal

-- the keys that are left come to those that are there as all come to none
abbrev pub invariant-loop-call : goal.invariant-loop-call
invariant-loop-call l = record {
  all : gathered (keys_on l.side (drop l.call-index l.touched)) (keys_held l.keys) ≡ gathered (keys_on l.side l.touched) empty;
  ordered : IsOrdered key_cmp l.keys;
}
