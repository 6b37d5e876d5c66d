use Rattle.std.proofs.Common.{◌≡◌, ◌≤◌, ◌*◌, None, true, length, take}
use Rattle.std.specs.Prelude.{All}
use Rattle.std.specs.List.{flat_map}
use Rattle.std.specs.Str.{all_scalars}
use Rattle.rc_tree.specs.Name.{name_fault}
use Rattle.rc_record.proofs.Lengths.{behind_end}
use Rattle.rc_record.proofs.spelling.below_len.Given as goal

abbrev pub invariant-loop-name : goal.invariant-loop-name
invariant-loop-name l = record {
  counted : l.len ≡ length (flat_map behind_end (take l.name-index l.names));
  bound : l.len ≤ 1021 * l.name-index;
  named : All (λ name. name_fault name ≡ None) (take l.name-index l.names);
  characters : All (λ name. all_scalars name ≡ true) (take l.name-index l.names);
}
