use Rattle.std.proofs.Common.{◌≡◌, take}
use Rattle.rc_tree.specs.Path.{key_of}
use Rattle.rc_tree.proofs.path.Path.key.Given as goal

abbrev pub invariant-loop-name : goal.invariant-loop-name
invariant-loop-name l = l.names.items ≡ key_of (take l.name-index l.name-items)
