-- The two trees of a generated site: what stands at each of their keys.
use Rattle.std.specs.Prelude.{◌≡◌, ◌≢◌, ℕ, ◌<◌, ◌+◌, ◌-◌, ◌*◌, ◌/◌, ◌%◌, ◌==◌, ◌&&◌, nat_lt, true, List, [], ◌∷◌, ◌++◌, codes, replicate, Option, None, Some, if◌then◌else◌}
use Prim.Native.Nat.{zero, suc}
use Rattle.std.specs.FinMap.{get}
use Rattle.rc_tree.specs.declared.attr.Attr.{Attr}
use Rattle.rc_tree.specs.declared.attr.Kind.TheVariants.{Dir, File}
use Rattle.rc_tree.specs.declared.props.Props.{Props}
use Rattle.rc_tree.specs.Attr.{no_attr}
use Rattle.rc_tree.specs.Path.{key_of}
use Rattle.rc_tree.specs.Tree.{Node, Tree}
use Rattle.rc_volume.specs.declared.site.Side.{Side}
use Rattle.rc_volume.specs.declared.site.Side.TheVariants.{Source, Target}
use Rattle.rc_stop.specs.Stops.{drawn, next_state}
use Rattle.rc_generate.specs.declared.files.Pairing.{Pairing}
use Rattle.rc_generate.specs.declared.files.Pairing.TheVariants.{SourceAlone, TargetAlone, Older, Newer, Longer, ReadOnly, Alike}

-- Draws

-- the state that lies so many steps behind n
unfoldable pub state_at : ℕ → ℕ → ℕ
state_at n zero = n
state_at n (suc k) = next_state (state_at n k)

-- the k-th draw from n on
abbrev pub draw_at : ℕ → ℕ → ℕ
draw_at n k = drawn (state_at n k)

-- the draw of file j of directory i: the first one is draw 1, and each directory takes a hundred
abbrev pub draw_of : ℕ → ℕ → ℕ → ℕ
draw_of n i j = draw_at n (100 * i + j + 1)

-- Names

-- the two digits of a number below 100
abbrev pub two_digits : ℕ → List ℕ
two_digits n = (48 + n / 10) ∷ (48 + n % 10) ∷ []

unfoldable pub dir_name : ℕ → List ℕ
dir_name i = if i == 50 then codes "cache" else codes "d" ++ two_digits i

abbrev pub file_end : ℕ → List ℕ
file_end j = if j % 10 == 9 then codes ".tmp" else codes ".txt"

unfoldable pub file_name : ℕ → List ℕ
file_name j = codes "f" ++ two_digits j ++ file_end j

abbrev pub dir_key : ℕ → List (List ℕ)
dir_key i = key_of (dir_name i ∷ [])

abbrev pub file_key : ℕ → ℕ → List (List ℕ)
file_key i j = key_of (dir_name i ∷ file_name j ∷ [])

-- Entries

-- the moment of the site, and a second
abbrev pub moment : ℕ
moment = 133485408000000000

abbrev pub second : ℕ
second = 10000000

abbrev pub archived : Attr
archived = record no_attr { archive = true }

-- made and written at the moment of the site, without security
abbrev pub plain_props : Attr → Props
plain_props attr = record { attr = attr; created = moment; written = moment; access = []; owner = []; audit = [] }

abbrev pub directory : ℕ → Node
directory i = record { spelling = dir_name i; kind = Dir; bytes = []; props = plain_props no_attr }

-- a file of so many equal bytes, as it stands where nothing sets the two sides apart
abbrev pub alike_file : List ℕ → ℕ → ℕ → Node
alike_file name size byte = record { spelling = name; kind = File; bytes = replicate size byte; props = plain_props archived }

abbrev pub written_at : ℕ → Node → Node
written_at time file = record file { props = record file.props { written = time } }

abbrev pub read_only : Node → Node
read_only file = record file { props = record file.props { attr = record file.props.attr { readonly = true } } }

-- Sides

-- how many bytes a file has
abbrev pub size_of : ℕ → ℕ → ℕ → ℕ
size_of i j draw = if (j == 0) && nat_lt i 10 then 1200000 else draw / 256 % 4096

-- what a draw says of the two sides
abbrev pub pairing_by : ℕ → Pairing
pairing_by n =
    if n == 0 then SourceAlone else if n == 1 then TargetAlone else if n == 2 then Older else if n == 3 then Newer
    else if n == 4 then Longer else if n == 5 then ReadOnly else Alike

abbrev pub pairing_of : ℕ → Pairing
pairing_of draw = pairing_by (draw / 1048576 % 8)

-- what the source has of a file
abbrev pub in_source : Pairing → Node → Option Node
in_source TargetAlone file = None
in_source _ file = Some file

-- what the target has of a file of this name, size and byte
abbrev pub in_target : Pairing → List ℕ → ℕ → ℕ → Option Node
in_target SourceAlone name size byte = None
in_target TargetAlone name size byte = Some (alike_file name size byte)
in_target Older name size byte = Some (written_at (moment - second) (alike_file name size byte))
in_target Newer name size byte = Some (written_at (moment + second) (alike_file name size byte))
in_target Longer name size byte = Some (alike_file name (size + 1) byte)
in_target ReadOnly name size byte = Some (read_only (alike_file name size byte))
in_target Alike name size byte = Some (alike_file name size byte)

-- what a side has of file j of directory i, by its draw
abbrev pub has : Side → ℕ → ℕ → ℕ → Option Node
has Source i j draw = in_source (pairing_of draw) (alike_file (file_name j) (size_of i j draw) (draw % 256))
has Target i j draw = in_target (pairing_of draw) (file_name j) (size_of i j draw) (draw % 256)

-- one side of the site that is generated from n: all directories, of each file what this side has of it, and nothing else
pub record IsGenerated (n : ℕ) (side : Side) (tree : Tree) : Type 0 where
  pub dirs : (i : ℕ) → i < 100 → get tree (dir_key i) ≡ Some (directory i)
  pub files : (i j : ℕ) → i < 100 → j < 100 → get tree (file_key i j) ≡ has side i j (draw_of n i j)
  pub others : (key : List (List ℕ)) → ((i : ℕ) → i < 100 → key ≢ dir_key i) → ((i j : ℕ) → i < 100 → j < 100 → key ≢ file_key i j) → get tree key ≡ None
