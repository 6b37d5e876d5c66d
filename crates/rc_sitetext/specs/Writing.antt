-- The parts of a site text, as they are written one after the other.
use Rattle.std.specs.Prelude.{ℕ, List, [], ◌∷◌, ◌++◌, codes, length}
use Rattle.std.specs.List.{flat_map}
use Rattle.std.specs.Fmt.{decimal}
use Rattle.rc_tree.specs.declared.attr.Kind.{Kind}
use Rattle.rc_tree.specs.declared.attr.Kind.TheVariants.{File, Dir}
use Rattle.rc_mem.specs.declared.jobs.JobBytes.{JobBytes}
use Rattle.rc_mem.specs.declared.node.TreeNode.{TreeNode}
use Rattle.rc_mem.specs.Nodes.{node_of}
use Rattle.rc_volume.specs.Site.{Told}
use Rattle.rc_sitetext.specs.SiteText.{JobText, content_text, entry_line, job_line, record_line, tree_lines}

-- behind the properties: a file's size and content, each behind a tab
abbrev pub last_text : Kind → List ℕ → List ℕ
last_text File bytes = 9 ∷ (decimal (length bytes) ++ 9 ∷ content_text bytes)
last_text Dir bytes = []

-- the line of a node of a tree
abbrev pub node_line : TreeNode → List ℕ
node_line node = entry_line node.path (node_of node)

-- the entries of the target, and the record
abbrev pub target_text : Told → List ℕ
target_text told = tree_lines told.target ++ record_line told.notes

-- a job file as it is kept
abbrev pub job_text : JobBytes → JobText
job_text job = (job.name, job.bytes.items)

abbrev pub job_bytes_line : JobBytes → List ℕ
job_bytes_line job = job_line (job_text job)

-- the job files, and the end
abbrev pub jobs_text : List JobText → List ℕ
jobs_text jobs = flat_map job_line jobs ++ codes "END\n"
