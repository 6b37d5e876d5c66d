-- What reading a line of a site text gives, field by field, on lists of bytes: the value, and nothing where it is refused.
use Rattle.std.specs.Prelude.{◌≡◌, ℕ, Bool, true, false, not, ◌&&◌, ◌||◌, ◌==◌, nat_le, nat_lt, if◌then◌else◌, List, [], ◌∷◌, length, replicate, slice_index, codes, Option, Some, None, Result, Ok, Err, option_map, is_none, chars}
use Rattle.std.specs.List.{list_any, list_all}
use Rattle.std.specs.Str.{is_utf8, bytes_eq, all_ascii_digits}
use Rattle.std.specs.Str.Parse.{digits_value}
use Rattle.std.specs.Ordering.{is_lt}
use Rattle.std.specs.declared.cmp.Ordering.{Ordering}
use Rattle.std.specs.Result.{result_ok}
use Rattle.std.specs.FinMap.{FinMap, entries}
use Rattle.hex.specs.Hex.{decode_of}
use Rattle.hex.specs.declared.error.FromHexError.{FromHexError}
use Rattle.hex.specs.declared.error.FromHexError.TheVariants as hex
use Rattle.rc_tree.specs.declared.attr.Attr.{Attr}
use Rattle.rc_tree.specs.declared.attr.Kind.{Kind}
use Rattle.rc_tree.specs.declared.attr.Kind.TheVariants.{File, Dir}
use Rattle.rc_tree.specs.declared.moment.TheConstants.{GREATEST_MOMENT}
use Rattle.rc_tree.specs.declared.path.PathErr.{PathErr}
use Rattle.rc_tree.specs.declared.path.PathErr.TheVariants as path
use Rattle.rc_tree.specs.declared.props.Props.{Props}
use Rattle.rc_tree.specs.Attr.{no_attr}
use Rattle.rc_tree.specs.Path.{key_of, last_name, names_in, path_fault}
use Rattle.rc_tree.specs.Spelled.{spelled}
use Rattle.rc_tree.specs.Tree.{Node, Tree}
use Rattle.rc_mem.specs.Directories.{is_dir}
use Rattle.rc_sitetext.specs.declared.err.ValueErr.{ValueErr}
use Rattle.rc_sitetext.specs.declared.err.ValueErr.TheVariants.{Refused, NoMemory}
use Rattle.rc_sitetext.specs.SiteText.{letters, is_repeated, JobText}

-- want of memory stays that, and any other fault refuses the value
abbrev pub path_refusal : PathErr → ValueErr
path_refusal path.NoMemory = NoMemory
path_refusal _ = Refused

abbrev pub hex_refusal : FromHexError → ValueErr
hex_refusal hex.OutOfMemory = NoMemory
hex_refusal _ = Refused

infixl 10 ◌>>=◌
abbrev pub ◌>>=◌ : {A B : Type 0} → Option A → (A → Option B) → Option B
(Some x) >>= f = f x
None >>= f = None

-- what a function answered, seen by view, is what reading gives, unless memory ran out
abbrev pub Fails : {Y : Type 0} → ValueErr → Option Y → Type 0
Fails NoMemory read = Unit {0}
Fails Refused read = read ≡ None

abbrev pub Gives : {X Y : Type 0} → (X → Y) → Result X ValueErr → Option Y → Type 0
Gives view (Ok x) read = read ≡ Some (view x)
Gives view (Err e) read = Fails e read

-- Values of fields

-- a sign or a needless zero comes first
abbrev pub is_padded : List ℕ → Bool
is_padded text = slice_index text 0 == 43 || (slice_index text 0 == 48 && nat_lt 1 (length text))

-- a decimal number without needless zeros
abbrev pub is_numeral : List ℕ → Bool
is_numeral text = not (is_padded text) && (all_ascii_digits text && nat_lt 0 (length text))

unfoldable pub number_at : ℕ → List ℕ → Option ℕ
number_at greatest text = if is_numeral text && nat_le (digits_value 10 text) greatest then Some (digits_value 10 text) else None

-- names of an entry below the root
abbrev pub are_names : List (List ℕ) → Bool
are_names names = is_none (path_fault names) && nat_lt 0 (length names)

unfoldable pub path_at : List ℕ → Option (List (List ℕ))
path_at text = if is_utf8 text && are_names (names_in (chars text)) then Some (names_in (chars text)) else None

-- whether the letter comes next, and what is left behind it
abbrev pub letter_at : ℕ → List ℕ → Bool × List ℕ
letter_at c [] = (false, [])
letter_at c (b ∷ text) = if b == c then (true, text) else (false, b ∷ text)

unfoldable pub flags_at : List ℕ → List ℕ → List Bool × List ℕ
flags_at [] text = ([], text)
flags_at (c ∷ cs) text =
    let first = letter_at c text in
    let others = flags_at cs first.1 in
    (first.0 ∷ others.0, others.1)

abbrev pub attr_with : List Bool → Option Attr
attr_with (r ∷ a ∷ s ∷ h ∷ c ∷ n ∷ e ∷ t ∷ o ∷ p ∷ []) =
    Some (record {
      readonly = r;
      archive = a;
      system = s;
      hidden = h;
      compressed = c;
      not_indexed = n;
      encrypted = e;
      temporary = t;
      offline = o;
      sparse = p;
    })
attr_with _ = None

unfoldable pub attr_at : List ℕ → Option Attr
attr_at text =
    if bytes_eq text (codes "-") then Some no_attr
    else if length text == 0 then None
    else if length (flags_at letters text).1 == 0 then attr_with (flags_at letters text).0
    else None

abbrev pub is_upper : ℕ → Bool
is_upper c = nat_le 65 c && nat_le c 90

unfoldable pub bytes_at : List ℕ → Option (List ℕ)
bytes_at text = if list_any is_upper text then None else result_ok (decode_of text)

-- a byte string: `-` for no bytes, else each byte
unfoldable pub hex_at : List ℕ → Option (List ℕ)
hex_at text =
    if bytes_eq text (codes "-") then Some []
    else bytes_at text >>= λ bytes. if length bytes == 0 then None else Some bytes

abbrev pub repeated_byte : ℕ → List ℕ → Option (List ℕ)
repeated_byte size (b ∷ []) = if nat_lt 1 size then Some (replicate size b) else None
repeated_byte size _ = None

unfoldable pub repeated_at : ℕ → List ℕ → Option (List ℕ)
repeated_at size digits = bytes_at digits >>= repeated_byte size

unfoldable pub plain_at : ℕ → List ℕ → Option (List ℕ)
plain_at size text = bytes_at text >>= λ bytes. if not (length bytes == size) || is_repeated bytes then None else Some bytes

abbrev pub starred_at : ℕ → List ℕ → Option (List ℕ)
starred_at size [] = plain_at size []
starred_at size (c ∷ text) = if c == 42 then repeated_at size text else plain_at size (c ∷ text)

unfoldable pub content_at : ℕ → List ℕ → Option (List ℕ)
content_at size text = if size == 0 then (if bytes_eq text (codes "-") then Some [] else None) else starred_at size text

-- Fields of a line

-- the front up to the first such byte, and what comes behind it
unfoldable pub cut : ℕ → List ℕ → Option (List ℕ × List ℕ)
cut c [] = None
cut c (b ∷ text) = if b == c then Some ([], text) else option_map (λ p. (b ∷ p.0, p.1)) (cut c text)

-- the last field: behind it comes no tab
unfoldable pub last_field : List ℕ → Option (List ℕ)
last_field text = if is_none (cut 9 text) then Some text else None

-- the one field behind this first one
unfoldable pub value_behind : List ℕ → List ℕ → Option (List ℕ)
value_behind tag line = cut 9 line >>= λ first. if bytes_eq first.0 tag then last_field first.1 else None

abbrev pub kind_of : List ℕ → Option Kind
kind_of text = if bytes_eq text (codes "F") then Some File else if bytes_eq text (codes "D") then Some Dir else None

-- the texts of the fields of an entry
pub record EntryTexts : Type 0 where
  pub kind : Kind
  pub path : List ℕ
  pub attr : List ℕ
  pub created : List ℕ
  pub written : List ℕ
  pub access : List ℕ
  pub owner : List ℕ
  pub audit : List ℕ
  pub size : List ℕ
  pub content : List ℕ

-- the last fields: the security string, the size and the content; a directory stands for no bytes
pub record LastTexts : Type 0 where
  pub audit : List ℕ
  pub size : List ℕ
  pub content : List ℕ

unfoldable pub last_texts : Kind → List ℕ → Option LastTexts
last_texts Dir line = last_field line >>= λ audit. Some (record { audit = audit; size = codes "0"; content = codes "-" })
last_texts File line = do
  audit ← cut 9 line
  size ← cut 9 audit.1
  content ← last_field size.1
  Some (record { audit = audit.0; size = size.0; content = content })

-- the fields of an entry's line: ten of a file, eight of a directory
unfoldable pub entry_texts : List ℕ → Option EntryTexts
entry_texts line = do
  letter ← cut 9 line
  kind ← kind_of letter.0
  path ← cut 9 letter.1
  attr ← cut 9 path.1
  created ← cut 9 attr.1
  written ← cut 9 created.1
  access ← cut 9 written.1
  owner ← cut 9 access.1
  last ← last_texts kind owner.1
  Some (record {
    kind = kind;
    path = path.0;
    attr = attr.0;
    created = created.0;
    written = written.0;
    access = access.0;
    owner = owner.0;
    audit = last.audit;
    size = last.size;
    content = last.content;
  })

-- the fields that are spelled well, the numbers among them of any length
pub record EntryFields : Type 0 where
  pub path : List (List ℕ)
  pub attr : Attr
  pub access : List ℕ
  pub owner : List ℕ
  pub audit : List ℕ

unfoldable pub fields_at : EntryTexts → Option EntryFields
fields_at texts = do
  path ← path_at texts.path
  attr ← attr_at texts.attr
  access ← hex_at texts.access
  owner ← hex_at texts.owner
  audit ← hex_at texts.audit
  if is_numeral texts.created && (is_numeral texts.written && is_numeral texts.size) then Some (record { path = path; attr = attr; access = access; owner = owner; audit = audit }) else None

-- a security string that is not too long
abbrev pub is_short : List ℕ → Bool
is_short bytes = nat_le (length bytes) 65535

-- the path, the properties and the size, where none is above its limit
pub record EntryValues : Type 0 where
  pub path : List (List ℕ)
  pub props : Props
  pub size : ℕ

abbrev pub values_with : EntryFields → ℕ → ℕ → ℕ → EntryValues
values_with fields created written size =
    record {
      path = fields.path;
      props = record { attr = fields.attr; created = created; written = written; access = fields.access; owner = fields.owner; audit = fields.audit };
      size = size;
    }

unfoldable pub values_at : EntryTexts → EntryFields → Option EntryValues
values_at texts fields = do
  created ← number_at GREATEST_MOMENT texts.created
  written ← number_at GREATEST_MOMENT texts.written
  size ← number_at 268435456 texts.size
  if is_short fields.access && (is_short fields.owner && is_short fields.audit) then Some (values_with fields created written size) else None

-- a directory has no bytes
abbrev pub bytes_of : Kind → ℕ → List ℕ → Option (List ℕ)
bytes_of File size text = content_at size text
bytes_of Dir size text = Some []

abbrev pub node_of : Kind → EntryValues → List ℕ → Node
node_of kind values bytes = record { spelling = last_name values.path; kind = kind; bytes = bytes; props = values.props }

-- the name and the bytes of a job file, as texts
unfoldable pub job_texts : List ℕ → Option (List ℕ × List ℕ)
job_texts line = do
  first ← cut 9 line
  name ← if bytes_eq first.0 (codes "JOB") then cut 9 first.1 else None
  bytes ← last_field name.1
  Some (name.0, bytes)

unfoldable pub job_name_at : List ℕ → Option (List ℕ)
job_name_at text = if is_utf8 text && nat_lt 0 (length text) then Some (chars text) else None

unfoldable pub job_at : List ℕ × List ℕ → Option JobText
job_at texts = job_name_at texts.0 >>= λ name. hex_at texts.1 >>= λ bytes. Some (name, bytes)

-- Where an entry may stand

-- above all keys of a map
unfoldable pub is_above : {K X : Type 0} {R : K → K → Ordering} → FinMap R X → K → Bool
is_above {R = R} map key = list_all (λ e. is_lt (R e.0 key)) (entries map)

-- the greatest key of a map, where it has one
abbrev pub last_of : {K X : Type 0} → List (K × X) → Option K
last_of [] = None
last_of (entry ∷ []) = Some entry.0
last_of (entry ∷ next ∷ entries) = last_of (next ∷ entries)

abbrev pub last_key : {K X : Type 0} {R : K → K → Ordering} → FinMap R X → Option K
last_key map = last_of (entries map)

-- whether a key comes behind the greatest one
abbrev pub is_behind : {K : Type 0} → (K → K → Ordering) → Option K → K → Bool
is_behind R None key = true
is_behind R (Some last) key = is_lt (R last key)

-- the same names in the same spelling
abbrev pub are_same : List (List ℕ) → List (List ℕ) → Bool
are_same [] [] = true
are_same (name ∷ names) (other ∷ others) = bytes_eq name other && are_same names others
are_same _ _ = false

-- the root, or a directory of the tree, spelled as the tree spells it
abbrev pub is_own_dir : Tree → List (List ℕ) → Bool
is_own_dir tree [] = true
is_own_dir tree (name ∷ names) = is_dir tree (key_of (name ∷ names)) && are_same (spelled tree (key_of (name ∷ names))) (name ∷ names)

abbrev pub is_within : Tree → Option (List (List ℕ)) → Bool
is_within tree None = false
is_within tree (Some dir) = is_own_dir tree dir
