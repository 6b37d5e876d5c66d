use Rattle.std.proofs.Common.{◌≡◌, ◌≤◌, map, chars, vec_len}
use Rattle.rc_tree.proofs.Parts.{AreNames}
use Rattle.rc_tree.proofs.path.Path.read.Given as goal

abbrev pub invariant-loop-part : goal.invariant-loop-part
invariant-loop-part l = record {
  spelled : l.names.items ≡ map chars (map (λ x. x.now) l.yielded);
  depth : vec_len l.names ≤ 64;
  named : AreNames l.names.items;
}
