-- The one spelling of a moment, a site and job files.
use Rattle.std.specs.Prelude.{◌≡◌, ℕ, ◌<◌, ◌≤◌, Bool, true, false, not, ◌&&◌, ◌||◌, map, nat_lt, if◌then◌else◌, List, [], ◌∷◌, ◌++◌, length, take, codes, IfSome}
use Rattle.std.specs.List.{AllByRecursion, flat_map, join_with_byte, list_all}
use Rattle.std.specs.Prelude.{◌==◌}
use Rattle.std.specs.Fmt.{decimal}
use Rattle.std.specs.Str.{encode_utf8_all, all_scalars}
use Rattle.std.specs.FinMap.{FinMap, get, entries}
use Rattle.hex.specs.Hex.{encode_lower, IsBytes}
use Rattle.rc_tree.specs.declared.attr.Attr.{Attr}
use Rattle.rc_tree.specs.declared.attr.Kind.{Kind}
use Rattle.rc_tree.specs.declared.attr.Kind.TheVariants.{File, Dir}
use Rattle.rc_tree.specs.declared.props.Props.{Props}
use Rattle.rc_tree.specs.declared.moment.TheConstants.{GREATEST_MOMENT}
use Rattle.rc_tree.specs.Name.{folded}
use Rattle.rc_tree.specs.Path.{name_cmp}
use Rattle.rc_tree.specs.Spelled.{spelled}
use Rattle.rc_tree.specs.Tree.{Node, Tree, IsTree}
use Rattle.rc_volume.specs.Site.{Told}

-- the text, or `-` in the place of none
abbrev pub or_dash : List ℕ → List ℕ
or_dash [] = codes "-"
or_dash (c ∷ cs) = c ∷ cs

-- the letters of attributes in their order, and which of them an entry has
abbrev pub letters : List ℕ
letters = codes "RASHCNETOP"

abbrev pub flags_of : Attr → List Bool
flags_of a =
    a.readonly ∷ a.archive ∷ a.system ∷ a.hidden ∷ a.compressed ∷ a.not_indexed ∷ a.encrypted ∷ a.temporary ∷ a.offline ∷ a.sparse ∷ []

-- the letters whose flags are true
unfoldable pub marked : List ℕ → List Bool → List ℕ
marked [] flags = []
marked (c ∷ cs) [] = []
marked (c ∷ cs) (true ∷ flags) = c ∷ marked cs flags
marked (c ∷ cs) (false ∷ flags) = marked cs flags

abbrev pub attr_text : Attr → List ℕ
attr_text a = or_dash (marked letters (flags_of a))

abbrev pub hex_text : List ℕ → List ℕ
hex_text bytes = or_dash (encode_lower bytes)

-- two bytes or more, all the same
abbrev pub is_repeated : List ℕ → Bool
is_repeated [] = false
is_repeated (b ∷ bytes) = nat_lt 0 (length bytes) && list_all (λ c. c == b) bytes

-- `*` and the byte where the bytes are repeated
abbrev pub content_text : List ℕ → List ℕ
content_text bytes = if is_repeated bytes then 42 ∷ encode_lower (take 1 bytes) else hex_text bytes

abbrev pub props_fields : Props → List (List ℕ)
props_fields p =
    attr_text p.attr ∷ decimal p.created ∷ decimal p.written ∷ hex_text p.access ∷ hex_text p.owner ∷ hex_text p.audit ∷ []

-- the letter of a kind
abbrev pub kind_text : Kind → List ℕ
kind_text File = codes "F"
kind_text Dir = codes "D"

-- the names of a path with `\` between them
abbrev pub path_text : List (List ℕ) → List ℕ
path_text path = encode_utf8_all (join_with_byte 92 path)

-- a file's size and content; a directory has none
abbrev pub content_fields : Kind → List ℕ → List (List ℕ)
content_fields File bytes = decimal (length bytes) ∷ content_text bytes ∷ []
content_fields Dir bytes = []

-- the fields of an entry at a path, and its line
abbrev pub entry_fields : List (List ℕ) → Node → List ℕ
entry_fields path node = join_with_byte 9 (kind_text node.kind ∷ path_text path ∷ (props_fields node.props ++ content_fields node.kind node.bytes))

abbrev pub entry_line : List (List ℕ) → Node → List ℕ
entry_line path node = entry_fields path node ++ codes "\n"

-- the lines of a tree's entries in the order of their keys, each path as the tree spells it
abbrev pub tree_lines : Tree → List ℕ
tree_lines tree = flat_map (λ entry. entry_line (spelled tree entry.0) entry.1) (entries tree)

abbrev pub head_text : ℕ → List ℕ
head_text moment = codes "SITE\t1\nMOMENT\t" ++ (decimal moment ++ codes "\nSOURCE\n")

-- the bytes of the record
abbrev pub record_line : List ℕ → List ℕ
record_line notes = codes "RECORD\t" ++ (hex_text notes ++ codes "\n")

-- a job file: its name as it is spelled, and its bytes
abbrev pub JobText : Type 0
JobText = List ℕ × List ℕ

abbrev pub job_line : JobText → List ℕ
job_line job = codes "JOB\t" ++ (encode_utf8_all job.0 ++ 9 ∷ (hex_text job.1 ++ codes "\n"))

-- the moment, the entries of the source, those of the target, the record and the job files
abbrev pub site_text : ℕ → Told → List JobText → List ℕ
site_text moment told jobs =
    head_text moment ++ (tree_lines told.source ++ codes "TARGET\n") ++ (tree_lines told.target ++ record_line told.notes) ++ (flat_map job_line jobs ++ codes "END\n")

-- what a security string may be
abbrev pub IsSecurity : List ℕ → Type 0
IsSecurity bytes = IsBytes bytes × (length bytes ≤ 65535)

-- what the format can say of a node
pub record FitsLine (node : Node) : Type 0 where
  pub characters : all_scalars node.spelling ≡ true
  pub created : node.props.created ≤ GREATEST_MOMENT
  pub written : node.props.written ≤ GREATEST_MOMENT
  pub access : IsSecurity node.props.access
  pub owner : IsSecurity node.props.owner
  pub audit : IsSecurity node.props.audit
  pub bytes : IsBytes node.bytes
  pub size : length node.bytes ≤ 268435456

-- a tree that the format can say
abbrev pub IsSpellable : Tree → Type 0
IsSpellable tree = IsTree tree × ((key : List (List ℕ)) → IfSome (get tree key) FitsLine)

-- a name that a line can say of a job file
pub record IsJobName (name : List ℕ) : Type 0 where
  pub some : 0 < length name
  pub characters : all_scalars name ≡ true
  pub one_field : list_all (λ b. not (b == 9 || b == 10)) (encode_utf8_all name) ≡ true

-- job files by their folded names
abbrev pub Jobs : Type 0
Jobs = FinMap name_cmp (List ℕ)

abbrev pub job_filed : JobText → List ℕ × List ℕ
job_filed job = (folded job.0, job.1)

-- these are the job files in the order of their folded names, each with some spelling of its name
abbrev pub AreFiles : Jobs → List JobText → Type 0
AreFiles jobs files = map job_filed files ≡ entries jobs

-- what the format can say of a job file
pub record FitsJob (job : JobText) : Type 0 where
  pub name : IsJobName job.0
  pub bytes : IsBytes job.1

-- the text spells a moment, what a site tells and job files
pub record Spells (text : List ℕ) (moment : ℕ) (told : Told) (jobs : Jobs) : Type 0 where
  pub moment_fits : moment ≤ GREATEST_MOMENT
  pub source_fits : IsSpellable told.source
  pub target_fits : IsSpellable told.target
  pub notes_fit : IsBytes told.notes
  pub files : List JobText
  pub filed : AreFiles jobs files
  pub files_fit : AllByRecursion FitsJob files
  pub spelled : text ≡ site_text moment told files
