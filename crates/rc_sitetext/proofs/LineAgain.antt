-- The lines of entries: what is spelled so is read again, is one line, and is UTF-8.
use Rattle.std.proofs.Common.{◌≡◌, ◌≢◌, ℕ, zero, suc, ◌<◌, true, List, [], ◌∷◌, ◌++◌, length, get_or, Some, refl, sym, ap, subst, ◌∙◌, arith}
use Rattle.std.specs.Prelude.{codes}
use Rattle.std.specs.Fmt.{decimal}
use Rattle.std.specs.List.{AllByRecursion}
use Rattle.std.specs.Str.{IsUtf8, is_utf8, chars}
use lib.Utf8.{encode}
use Rattle.std.proofs.lemmas.Bool.{le-leb}
use Rattle.std.proofs.lemmas.List.{append-nil}
use Rattle.std.proofs.lemmas.Str.{IsUtf8-append, IsUtf8-from_is_utf8, IsUtf8-nil}
use Rattle.hex.specs.Hex.{IsBytes}
use Rattle.rc_tree.specs.declared.attr.Kind.{Kind}
use Rattle.rc_tree.specs.declared.attr.Kind.TheVariants.{File, Dir}
use Rattle.rc_tree.specs.declared.moment.TheConstants.{GREATEST_MOMENT}
use Rattle.rc_tree.specs.Tree.{Node}
use Rattle.rc_sitetext.specs.SiteText.{attr_text, content_text, entry_fields, hex_text, kind_text, path_text}
use Rattle.rc_sitetext.specs.Reading.{EntryFields, EntryTexts, EntryValues, bytes_of, entry_texts, fields_at, is_numeral, last_texts, number_at, node_of, values_at}
use Rattle.rc_sitetext.specs.Writing.{last_text}
use Rattle.rc_sitetext.proofs.ByteSpells.{attr_field, hex_field, content_again, content_printable}
use Rattle.rc_sitetext.proofs.Cuts.{cut_at}
use Rattle.rc_sitetext.proofs.LineLaws.{BytesFit, LineFits, kind_field, last_again, moments, no_tab, number_fits, sizes}
use Rattle.rc_sitetext.proofs.LineTexts.{line_is}
use Rattle.rc_sitetext.proofs.PathTexts.{path_field}
use Rattle.rc_sitetext.proofs.Plain.{IsPlain}
use Rattle.rc_sitetext.proofs.Printable.{IsPlain-printable, IsUtf8-printable}

-- The texts of the fields

unfoldable pub size_text : Kind → List ℕ → List ℕ
size_text File bytes = decimal (length bytes)
size_text Dir bytes = codes "0"

unfoldable pub bytes_text : Kind → List ℕ → List ℕ
bytes_text File bytes = content_text bytes
bytes_text Dir bytes = codes "-"

unfoldable pub size_of : Kind → List ℕ → ℕ
size_of File bytes = length bytes
size_of Dir bytes = 0

unfoldable pub texts_for : List (List ℕ) → Node → EntryTexts
texts_for path node =
    record {
      kind = node.kind;
      path = path_text path;
      attr = attr_text node.props.attr;
      created = decimal node.props.created;
      written = decimal node.props.written;
      access = hex_text node.props.access;
      owner = hex_text node.props.owner;
      audit = hex_text node.props.audit;
      size = size_text node.kind node.bytes;
      content = bytes_text node.kind node.bytes;
    }

content_plain : (bytes : List ℕ) → IsBytes bytes → IsPlain (content_text bytes)
content_plain bytes fits = IsPlain-printable 42 (content_text bytes) (omega arith) (content_printable bytes fits)

last_texts_again : (kind : Kind) (audit bytes : List ℕ) → IsBytes audit → BytesFit kind bytes → last_texts kind (hex_text audit ++ last_text kind bytes) ≡ Some (record { audit = hex_text audit; size = size_text kind bytes; content = bytes_text kind bytes })
unfolding last_texts size_text bytes_text
last_texts_again File audit bytes are fits =
    rw (cut_at 9 (hex_text audit) (decimal (length bytes) ++ 9 ∷ content_text bytes) (no_tab (hex_text audit) (hex_field.plain audit are)))
    (rw (cut_at 9 (decimal (length bytes)) (content_text bytes) (no_tab (decimal (length bytes)) (sizes.plain (length bytes) fits.size)))
    (rw (last_again (content_text bytes) (no_tab (content_text bytes) (content_plain bytes fits.are_bytes))) refl))
last_texts_again Dir audit bytes are fits =
    rw (append-nil (hex_text audit), last_again (hex_text audit) (no_tab (hex_text audit) (hex_field.plain audit are))) refl

pub texts_again : (path : List (List ℕ)) (node : Node) → LineFits path node → entry_texts (entry_fields path node) ≡ Some (texts_for path node)
unfolding entry_texts texts_for
texts_again path node fits =
    let p = node.props in
    let t5 : List ℕ = hex_text p.audit ++ last_text node.kind node.bytes in
    let t4 : List ℕ = hex_text p.owner ++ 9 ∷ t5 in
    let t3 : List ℕ = hex_text p.access ++ 9 ∷ t4 in
    let t2 : List ℕ = decimal p.written ++ 9 ∷ t3 in
    let t1 : List ℕ = decimal p.created ++ 9 ∷ t2 in
    let t0 : List ℕ = attr_text p.attr ++ 9 ∷ t1 in
    ap entry_texts (line_is path node)
    ∙ (rw (cut_at 9 (kind_text node.kind) (path_text path ++ 9 ∷ t0) (no_tab (kind_text node.kind) (kind_field.plain node.kind tt)))
    (rw (kind_field.again node.kind tt)
    (rw (cut_at 9 (path_text path) t0 (no_tab (path_text path) (path_field.plain path fits.names)))
    (rw (cut_at 9 (attr_text p.attr) t1 (no_tab (attr_text p.attr) (attr_field.plain p.attr tt)))
    (rw (cut_at 9 (decimal p.created) t2 (no_tab (decimal p.created) (moments.plain p.created fits.props.created)))
    (rw (cut_at 9 (decimal p.written) t3 (no_tab (decimal p.written) (moments.plain p.written fits.props.written)))
    (rw (cut_at 9 (hex_text p.access) t4 (no_tab (hex_text p.access) (hex_field.plain p.access fits.props.access.0)))
    (rw (cut_at 9 (hex_text p.owner) t5 (no_tab (hex_text p.owner) (hex_field.plain p.owner fits.props.owner.0)))
    (rw (last_texts_again node.kind p.audit node.bytes fits.props.audit.0 fits.bytes) refl)))))))))

-- Their values

unfoldable pub fields_for : List (List ℕ) → Node → EntryFields
fields_for path node = record { path = path; attr = node.props.attr; access = node.props.access; owner = node.props.owner; audit = node.props.audit }

size_is_numeral : (kind : Kind) (bytes : List ℕ) → BytesFit kind bytes → is_numeral (size_text kind bytes) ≡ true
unfolding size_text
size_is_numeral File bytes fits = number_fits 268435456 (decimal (length bytes)) (length bytes) (sizes.again (length bytes) fits.size)
size_is_numeral Dir bytes fits = refl

pub fields_again : (path : List (List ℕ)) (node : Node) → LineFits path node → fields_at (texts_for path node) ≡ Some (fields_for path node)
unfolding fields_at texts_for fields_for
fields_again path node fits =
    let p = node.props in
    rw (path_field.again path fits.names)
    (rw (attr_field.again p.attr tt)
    (rw (hex_field.again p.access fits.props.access.0)
    (rw (hex_field.again p.owner fits.props.owner.0)
    (rw (hex_field.again p.audit fits.props.audit.0)
    (rw (number_fits GREATEST_MOMENT (decimal p.created) p.created (moments.again p.created fits.props.created))
    (rw (number_fits GREATEST_MOMENT (decimal p.written) p.written (moments.again p.written fits.props.written))
    (rw (size_is_numeral node.kind node.bytes fits.bytes) refl)))))))

unfoldable pub values_for : List (List ℕ) → Node → EntryValues
values_for path node = record { path = path; props = node.props; size = size_of node.kind node.bytes }

size_again : (kind : Kind) (bytes : List ℕ) → BytesFit kind bytes → number_at 268435456 (size_text kind bytes) ≡ Some (size_of kind bytes)
unfolding size_text size_of number_at
size_again File bytes fits = sizes.again (length bytes) fits.size
size_again Dir bytes fits = refl

pub values_again : (path : List (List ℕ)) (node : Node) → LineFits path node → values_at (texts_for path node) (fields_for path node) ≡ Some (values_for path node)
unfolding values_at texts_for fields_for values_for
values_again path node fits =
    let p = node.props in
    rw (moments.again p.created fits.props.created)
    (rw (moments.again p.written fits.props.written)
    (rw (size_again node.kind node.bytes fits.bytes)
    (rw (le-leb (length p.access) 65535 fits.props.access.1, le-leb (length p.owner) 65535 fits.props.owner.1, le-leb (length p.audit) 65535 fits.props.audit.1) refl)))

pub bytes_again : (kind : Kind) (bytes : List ℕ) → BytesFit kind bytes → bytes_of kind (size_of kind bytes) (bytes_text kind bytes) ≡ Some bytes
unfolding size_of bytes_text
bytes_again File bytes fits = content_again bytes fits.are_bytes
bytes_again Dir bytes fits = ap (λ bs. Some bs) (sym (fits.none refl))

pub content_for : (path : List (List ℕ)) (node : Node) → LineFits path node → bytes_of (texts_for path node).kind (values_for path node).size (texts_for path node).content ≡ Some node.bytes
unfolding texts_for values_for
content_for path node fits = bytes_again node.kind node.bytes fits.bytes

pub node_is : (path : List (List ℕ)) (node : Node) → LineFits path node → node_of (texts_for path node).kind (values_for path node) node.bytes ≡ node
unfolding texts_for values_for
node_is path node fits = ap (λ (s : List ℕ). record node { spelling = s }) (sym fits.spelling)

-- No line end in a line, and UTF-8

unfoldable pub IsLine : List ℕ → Type 0
IsLine text = AllByRecursion (λ b. b ≢ 10) text

pub line_at_place : (text : List ℕ) (i : ℕ) → IsLine text → i < length text → get_or text i 0 ≢ 10
unfolding IsLine
line_at_place [] i h lt = absurd (omega arith)
line_at_place (c ∷ text) zero h lt = h.0
line_at_place (c ∷ text) (suc i) h lt = line_at_place text i h.1 (omega arith)

tabbed : (text rest : List ℕ) → IsPlain text → IsLine rest → IsLine (text ++ 9 ∷ rest)
unfolding IsLine IsPlain
tabbed [] rest p h = (λ e. omega (arith, e), h)
tabbed (c ∷ text) rest p h = (λ e. omega (arith, p.0, e), tabbed text rest p.1 h)

pub plain_line : (text : List ℕ) → IsPlain text → IsLine text
unfolding IsLine IsPlain
plain_line [] p = tt
plain_line (c ∷ text) p = (λ e. omega (arith, p.0, e), plain_line text p.1)

nil_line : IsLine []
unfolding IsLine
nil_line = tt

pub cons_line : (c : ℕ) (text : List ℕ) → c ≢ 10 → IsLine text → IsLine (c ∷ text)
unfolding IsLine
cons_line c text ne h = (ne, h)

last_is_line : (kind : Kind) (bytes : List ℕ) → BytesFit kind bytes → IsLine (last_text kind bytes)
last_is_line File bytes fits =
    cons_line 9 _ (λ e. omega (arith, e)) (tabbed (decimal (length bytes)) _ (sizes.plain (length bytes) fits.size)
    (plain_line (content_text bytes) (IsPlain-printable 42 (content_text bytes) (omega arith) (content_printable bytes fits.are_bytes))))
last_is_line Dir bytes fits = nil_line

followed : (text rest : List ℕ) → IsPlain text → IsLine rest → IsLine (text ++ rest)
unfolding IsLine IsPlain
followed [] rest p h = h
followed (c ∷ text) rest p h = (λ e. omega (arith, p.0, e), followed text rest p.1 h)

pub entry_is_line : (path : List (List ℕ)) (node : Node) → LineFits path node → IsLine (entry_fields path node)
entry_is_line path node fits =
    subst IsLine (sym (line_is path node))
    (tabbed (kind_text node.kind) _ (kind_field.plain node.kind tt)
    (tabbed (path_text path) _ (path_field.plain path fits.names)
    (tabbed (attr_text node.props.attr) _ (attr_field.plain node.props.attr tt)
    (tabbed (decimal node.props.created) _ (moments.plain node.props.created fits.props.created)
    (tabbed (decimal node.props.written) _ (moments.plain node.props.written fits.props.written)
    (tabbed (hex_text node.props.access) _ (hex_field.plain node.props.access fits.props.access.0)
    (tabbed (hex_text node.props.owner) _ (hex_field.plain node.props.owner fits.props.owner.0)
    (followed (hex_text node.props.audit) _ (hex_field.plain node.props.audit fits.props.audit.0) (last_is_line node.kind node.bytes fits.bytes)))))))))

tab_is : is_utf8 (9 ∷ []) ≡ true
unfolding is_utf8 chars encode
tab_is = refl

tab_utf8 : (text rest : List ℕ) → IsUtf8 text → IsUtf8 rest → IsUtf8 (text ++ 9 ∷ rest)
tab_utf8 text rest p q = IsUtf8-append text (9 ∷ rest) p (IsUtf8-append (9 ∷ []) rest (IsUtf8-from_is_utf8 (9 ∷ []) tab_is) q)

last_utf8 : (kind : Kind) (bytes : List ℕ) → BytesFit kind bytes → IsUtf8 (last_text kind bytes)
last_utf8 File bytes fits = tab_utf8 [] _ IsUtf8-nil (tab_utf8 (decimal (length bytes)) _ (sizes.utf8 (length bytes) fits.size) (IsUtf8-printable 42 (content_text bytes) (content_printable bytes fits.are_bytes)))
last_utf8 Dir bytes fits = IsUtf8-nil

pub entry_utf8 : (path : List (List ℕ)) (node : Node) → LineFits path node → IsUtf8 (entry_fields path node)
entry_utf8 path node fits =
    subst IsUtf8 (sym (line_is path node))
    (tab_utf8 (kind_text node.kind) _ (kind_field.utf8 node.kind tt)
    (tab_utf8 (path_text path) _ (path_field.utf8 path fits.names)
    (tab_utf8 (attr_text node.props.attr) _ (attr_field.utf8 node.props.attr tt)
    (tab_utf8 (decimal node.props.created) _ (moments.utf8 node.props.created fits.props.created)
    (tab_utf8 (decimal node.props.written) _ (moments.utf8 node.props.written fits.props.written)
    (tab_utf8 (hex_text node.props.access) _ (hex_field.utf8 node.props.access fits.props.access.0)
    (tab_utf8 (hex_text node.props.owner) _ (hex_field.utf8 node.props.owner fits.props.owner.0)
    (IsUtf8-append (hex_text node.props.audit) _ (hex_field.utf8 node.props.audit fits.props.audit.0) (last_utf8 node.kind node.bytes fits.bytes)))))))))
