-- What a stop may leave of one side, by what was touched since its last sync: at each key any that it has had since, each
-- property by itself.
use Rattle.std.specs.Prelude.{◌≡◌, ◌⊎◌, ℕ, ◌+◌, ◌<◌, ◌≤◌, List, Option, Some, None, Contains, length, slice_get}
use Rattle.rc_tree.specs.Tree.{Node}
use Rattle.rc_core.specs.declared.aspects.Aspect.{Aspect}
use Rattle.rc_core.specs.declared.aspects.Aspect.TheVariants as aspect

-- a node that stood there, of which this holds
abbrev pub Stood : List (Option Node) → (Node → Type 0) → Type 0
Stood had holds = (node : Node) × Contains had (Some node) × holds node

-- a byte's place in a range that was put
abbrev pub IsPut : List (ℕ × ℕ) → ℕ → Type 0
IsPut puts at = (range : ℕ × ℕ) × Contains puts range × (range.0 ≤ at) × (at < range.0 + range.1)

-- a byte: one that stood at its place, any where the place was put, or any behind a length that the file has had
abbrev pub MayBeByte : List (Option Node) → List (ℕ × ℕ) → ℕ → Option ℕ → Type 0
MayBeByte had puts at byte =
    Stood had (λ node. slice_get node.bytes at ≡ byte)
    ⊎ (IsPut puts at ⊎ Stood had (λ node. length node.bytes ≤ at))

-- a node that may be left where these stood and these ranges were put
pub record MayBeNode (had : List (Option Node)) (puts : List (ℕ × ℕ)) (image : Node) : Type 0 where
  pub spelling : Stood had (λ node. image.spelling ≡ node.spelling)
  pub kind : Stood had (λ node. image.kind ≡ node.kind)
  pub attr : Stood had (λ node. image.props.attr ≡ node.props.attr)
  pub created : Stood had (λ node. image.props.created ≡ node.props.created)
  pub written : Stood had (λ node. image.props.written ≡ node.props.written)
  pub access : Stood had (λ node. image.props.access ≡ node.props.access)
  pub owner : Stood had (λ node. image.props.owner ≡ node.props.owner)
  pub audit : Stood had (λ node. image.props.audit ≡ node.props.audit)
  pub no_shorter : Stood had (λ node. length node.bytes ≤ length image.bytes)
  pub no_longer : Stood had (λ node. length image.bytes ≤ length node.bytes)
  pub bytes : (at : ℕ) → at < length image.bytes → MayBeByte had puts at (slice_get image.bytes at)

-- what may be left at a key: nothing where nothing stood at some time
abbrev pub MayBeLeft : List (Option Node) → List (ℕ × ℕ) → Option Node → Type 0
MayBeLeft had puts None = Contains had None
MayBeLeft had puts (Some image) = MayBeNode had puts image

-- Agreeing

-- a node agrees in one aspect with one that stood
abbrev pub Agrees : Aspect → Node → Node → Type 0
Agrees aspect.Spelling image stood = image.spelling ≡ stood.spelling
Agrees aspect.Kind image stood = image.kind ≡ stood.kind
Agrees aspect.Attr image stood = image.props.attr ≡ stood.props.attr
Agrees aspect.Created image stood = image.props.created ≡ stood.props.created
Agrees aspect.Written image stood = image.props.written ≡ stood.props.written
Agrees aspect.Access image stood = image.props.access ≡ stood.props.access
Agrees aspect.Owner image stood = image.props.owner ≡ stood.props.owner
Agrees aspect.Audit image stood = image.props.audit ≡ stood.props.audit
Agrees aspect.NoShorter image stood = length stood.bytes ≤ length image.bytes
Agrees aspect.NoLonger image stood = length image.bytes ≤ length stood.bytes
Agrees (aspect.Byte at) image stood = (slice_get stood.bytes at ≡ slice_get image.bytes at) ⊎ (length stood.bytes ≤ at)
