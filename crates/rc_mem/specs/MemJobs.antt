-- The finite map that job files in memory make.
use Rattle.std.specs.Prelude.{◌≡◌, ℕ, List, map, IfSome}
use Rattle.std.specs.BTreeMap as btree
use Rattle.std.specs.BTreeMap.{BTreeMap}
use Rattle.std.specs.FinMap.{FinMap, from_entries}
use Rattle.rc_tree.specs.Name.{folded}
use Rattle.rc_tree.specs.Path.{name_cmp}
use Rattle.rc_mem.specs.declared.jobs.JobBytes.{JobBytes}

abbrev pub JobMap : Type 0
JobMap = BTreeMap (List ℕ) JobBytes

-- the bytes under the folded name
abbrev pub filed : JobBytes → List ℕ × List ℕ
filed job = (folded job.name, job.bytes.items)

-- the bytes under the key
abbrev pub kept : List ℕ × JobBytes → List ℕ × List ℕ
kept e = (e.0, e.1.bytes.items)

abbrev pub jobs_held : JobMap → FinMap name_cmp (List ℕ)
jobs_held files = from_entries (map kept files.entries)

-- each file stands at its folded name
abbrev pub AreFiled : JobMap → Type 0
AreFiled files = (key : List ℕ) → IfSome (btree.get name_cmp files key) (λ job. folded job.name ≡ key)
