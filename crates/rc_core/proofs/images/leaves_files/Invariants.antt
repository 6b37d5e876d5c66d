use Rattle.rc_tree.specs.Path.{key_of}
use Rattle.rc_core.specs.Nodes.{node_at}
use Rattle.rc_core.specs.Rows.{all_had}
use Rattle.rc_core.specs.Stops.{MayBeLeft}
use Rattle.rc_core.specs.declared.rows.FileRow.{FileRow}
use Rattle.rc_core.proofs.Numbers.{Below}
use Rattle.rc_core.proofs.images.leaves_files.Given as goal

abbrev pub invariant-loop-n : goal.invariant-loop-n
invariant-loop-n l = Below (λ n (row : FileRow). MayBeLeft (all_had row) row.touched.puts (node_at l.image (key_of row.file.item.path))) l.files l.n
