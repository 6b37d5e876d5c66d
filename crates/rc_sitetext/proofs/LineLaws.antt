-- The fields of a line: what is read is spelled so, and what is spelled so is read.
use Rattle.std.proofs.Common.{◌≡◌, ◌≢◌, ℕ, ◌<◌, ◌≤◌, Bool, true, false, ◌&&◌, cond, leb, List, [], ◌∷◌, ◌++◌, length, get_or, Option, Some, None, refl, sym, ap, subst, ◌∙◌, arith, lit<}
use Rattle.std.specs.Prelude.{codes, is_none}
use Rattle.std.specs.Fmt.{decimal}
use Rattle.std.specs.Str.{bytes_eq, IsUtf8}
use Rattle.std.specs.Str.Parse.{digits_value}
use Rattle.std.proofs.lemmas.Bool.{and_parts, leb-true}
use Rattle.std.proofs.lemmas.List.{append-nil}
use Rattle.std.proofs.lemmas.Slice.Eq.{bytes_eq-Decides}
use Rattle.hex.specs.Hex.{IsBytes}
use Rattle.rc_tree.specs.declared.attr.Kind.{Kind}
use Rattle.rc_tree.specs.declared.attr.Kind.TheVariants.{File, Dir}
use Rattle.rc_tree.specs.declared.moment.TheConstants.{GREATEST_MOMENT}
use Rattle.rc_tree.specs.declared.props.Props.{Props}
use Rattle.rc_tree.specs.Path.{last_name}
use Rattle.rc_tree.specs.Tree.{Node}
use Rattle.rc_sitetext.specs.SiteText.{attr_text, entry_fields, hex_text, kind_text, path_text, IsSecurity}
use Rattle.rc_sitetext.specs.Reading.{EntryFields, EntryTexts, EntryValues, LastTexts, attr_at, bytes_of, cut, entry_texts, fields_at, hex_at, is_numeral, is_short, kind_of, last_field, last_texts, number_at, node_of, path_at, value_behind, values_at, values_with}
use Rattle.rc_sitetext.specs.Writing.{last_text}
use Rattle.rc_sitetext.proofs.ByteSpells.{Always, attr_field, hex_field, content_takes}
use Rattle.rc_sitetext.proofs.Cuts.{cut_at, cut_none}
use Rattle.rc_sitetext.proofs.LineTexts.{line_is}
use Rattle.rc_sitetext.proofs.PathTexts.{IsPathText, path_field}
use Rattle.rc_sitetext.proofs.Plain.{IsPlain, IsPlain-without}
use Rattle.rc_sitetext.proofs.Printable.{IsPlain-printable, IsPrintable-literal, ascii_utf8}
use Rattle.rc_sitetext.proofs.Spells.{IsField, some_is, bind_some, if_some, cut_takes, UpTo, number_field}

pub moments : IsField (number_at GREATEST_MOMENT) decimal (UpTo GREATEST_MOMENT)
moments = number_field GREATEST_MOMENT (lit< tt)

pub sizes : IsField (number_at 268435456) decimal (UpTo 268435456)
sizes = number_field 268435456 (lit< tt)

-- a number that was read is spelled well
pub number_fits : (greatest : ℕ) (text : List ℕ) (n : ℕ) → number_at greatest text ≡ Some n → is_numeral text ≡ true
unfolding number_at
number_fits greatest text n e = (and_parts (is_numeral text) (leb (digits_value 10 text) greatest) (if_some (is_numeral text && leb (digits_value 10 text) greatest) (Some (digits_value 10 text)) n e).0).0

pub same_text : (a b : List ℕ) → bytes_eq a b ≡ true → a ≡ b
same_text a b is = (bytes_eq-Decides a b).0 is

-- Kinds

kind_chosen : (text : List ℕ) (file dir : Bool) (kind : Kind) → bytes_eq text (codes "F") ≡ file → bytes_eq text (codes "D") ≡ dir → cond {A = Option Kind} file (Some File) (cond dir (Some Dir) None) ≡ Some kind → text ≡ kind_text kind
kind_chosen text true dir kind is other e = same_text text (codes "F") is ∙ ap kind_text (some_is File kind e)
kind_chosen text false true kind is other e = same_text text (codes "D") other ∙ ap kind_text (some_is Dir kind e)
kind_chosen text false false kind is other e = absurd cc

kind_again : (kind : Kind) → kind_of (kind_text kind) ≡ Some kind
kind_again File = refl
kind_again Dir = refl

kind_plain : (kind : Kind) → IsPlain (kind_text kind)
kind_plain File = IsPlain-printable 32 (codes "F") (omega arith) (IsPrintable-literal 32 (codes "F") refl)
kind_plain Dir = IsPlain-printable 32 (codes "D") (omega arith) (IsPrintable-literal 32 (codes "D") refl)

kind_utf8 : (kind : Kind) → IsUtf8 (kind_text kind)
kind_utf8 File = ascii_utf8 (codes "F") refl
kind_utf8 Dir = ascii_utf8 (codes "D") refl

pub kind_field : IsField kind_of kind_text Always
kind_field =
    record {
      takes = λ text kind e. (kind_chosen text (bytes_eq text (codes "F")) (bytes_eq text (codes "D")) kind refl refl e, tt);
      again = λ kind fits. kind_again kind;
      plain = λ kind fits. kind_plain kind;
      utf8 = λ kind fits. kind_utf8 kind;
    }

-- Cutting

-- no tab is in it
abbrev pub IsField_text : List ℕ → Type 0
IsField_text text = (i : ℕ) → i < length text → get_or text i 0 ≢ 9

pub no_tab : (text : List ℕ) → IsPlain text → IsField_text text
no_tab text plain = IsPlain-without text 9 (omega arith) plain

pub last_takes : (line text : List ℕ) → last_field line ≡ Some text → line ≡ text
unfolding last_field
last_takes line text e = let p = if_some (is_none (cut 9 line)) (Some line) text e in some_is line text p.1

pub last_again : (text : List ℕ) → IsField_text text → last_field text ≡ Some text
unfolding last_field
last_again text free = rw (cut_none 9 text free) refl

-- one field behind a first one
pub behind_takes : (tag line text : List ℕ) → value_behind tag line ≡ Some text → line ≡ tag ++ 9 ∷ text
unfolding value_behind
behind_takes tag line text e =
    let k = bind_some (cut 9 line) _ text e in
    let q = if_some (bytes_eq k.0.0 tag) (last_field k.0.1) text k.2 in
    cut_takes 9 line k.0.0 k.0.1 k.1 ∙ ap (λ (t : List ℕ). t ++ 9 ∷ k.0.1) (same_text k.0.0 tag q.0) ∙ ap (λ (t : List ℕ). tag ++ 9 ∷ t) (last_takes k.0.1 text q.1)

pub behind_again : (tag text : List ℕ) → IsField_text tag → IsField_text text → value_behind tag (tag ++ 9 ∷ text) ≡ Some text
unfolding value_behind
behind_again tag text no_tag free = rw (cut_at 9 tag text no_tag) (rw ((bytes_eq-Decides tag tag).1 refl) (last_again text free))

-- The texts of an entry's fields

pub last_line : Kind → List ℕ → List ℕ → List ℕ → List ℕ
last_line File audit size content = audit ++ 9 ∷ (size ++ 9 ∷ content)
last_line Dir audit size content = audit

last_texts_take : (kind : Kind) (line : List ℕ) (t : LastTexts) → last_texts kind line ≡ Some t → line ≡ last_line kind t.audit t.size t.content
unfolding last_texts last_line
last_texts_take File line t e =
    let k0 = bind_some (cut 9 line) _ t e in
    let k1 = bind_some (cut 9 k0.0.1) _ t k0.2 in
    let k2 = bind_some (last_field k1.0.1) _ t k1.2 in
    let made : LastTexts = record { audit = k0.0.0; size = k1.0.0; content = k2.0 } in
    subst (λ (x : LastTexts). line ≡ last_line File x.audit x.size x.content) (some_is made t k2.2)
    (cut_takes 9 line k0.0.0 k0.0.1 k0.1 ∙ ap (λ (x : List ℕ). k0.0.0 ++ 9 ∷ x) (cut_takes 9 k0.0.1 k1.0.0 k1.0.1 k1.1 ∙ ap (λ (x : List ℕ). k1.0.0 ++ 9 ∷ x) (last_takes k1.0.1 k2.0 k2.1)))
last_texts_take Dir line t e =
    let k = bind_some (last_field line) _ t e in
    let made : LastTexts = record { audit = k.0; size = codes "0"; content = codes "-" } in
    subst (λ (x : LastTexts). line ≡ x.audit) (some_is made t k.2) (last_takes line k.0 k.1)

pub texts_line : EntryTexts → List ℕ
texts_line t = kind_text t.kind ++ 9 ∷ (t.path ++ 9 ∷ (t.attr ++ 9 ∷ (t.created ++ 9 ∷ (t.written ++ 9 ∷ (t.access ++ 9 ∷ (t.owner ++ 9 ∷ last_line t.kind t.audit t.size t.content))))))

pub texts_take : (line : List ℕ) (t : EntryTexts) → entry_texts line ≡ Some t → line ≡ texts_line t
unfolding entry_texts texts_line
texts_take line t e =
    let k0 = bind_some (cut 9 line) _ t e in
    let kind = bind_some (kind_of k0.0.0) _ t k0.2 in
    let k1 = bind_some (cut 9 k0.0.1) _ t kind.2 in
    let k2 = bind_some (cut 9 k1.0.1) _ t k1.2 in
    let k3 = bind_some (cut 9 k2.0.1) _ t k2.2 in
    let k4 = bind_some (cut 9 k3.0.1) _ t k3.2 in
    let k5 = bind_some (cut 9 k4.0.1) _ t k4.2 in
    let k6 = bind_some (cut 9 k5.0.1) _ t k5.2 in
    let last = bind_some (last_texts kind.0 k6.0.1) _ t k6.2 in
    let made : EntryTexts = record { kind = kind.0; path = k1.0.0; attr = k2.0.0; created = k3.0.0; written = k4.0.0; access = k5.0.0; owner = k6.0.0; audit = last.0.audit; size = last.0.size; content = last.0.content } in
    subst (λ (x : EntryTexts). line ≡ texts_line x) (some_is made t last.2)
    (cut_takes 9 line k0.0.0 k0.0.1 k0.1 ∙ ap (λ (x : List ℕ). x ++ 9 ∷ k0.0.1) (kind_field.takes k0.0.0 kind.0 kind.1).0
    ∙ ap (λ (x : List ℕ). kind_text kind.0 ++ 9 ∷ x) (cut_takes 9 k0.0.1 k1.0.0 k1.0.1 k1.1
    ∙ ap (λ (x : List ℕ). k1.0.0 ++ 9 ∷ x) (cut_takes 9 k1.0.1 k2.0.0 k2.0.1 k2.1
    ∙ ap (λ (x : List ℕ). k2.0.0 ++ 9 ∷ x) (cut_takes 9 k2.0.1 k3.0.0 k3.0.1 k3.1
    ∙ ap (λ (x : List ℕ). k3.0.0 ++ 9 ∷ x) (cut_takes 9 k3.0.1 k4.0.0 k4.0.1 k4.1
    ∙ ap (λ (x : List ℕ). k4.0.0 ++ 9 ∷ x) (cut_takes 9 k4.0.1 k5.0.0 k5.0.1 k5.1
    ∙ ap (λ (x : List ℕ). k5.0.0 ++ 9 ∷ x) (cut_takes 9 k5.0.1 k6.0.0 k6.0.1 k6.1
    ∙ ap (λ (x : List ℕ). k6.0.0 ++ 9 ∷ x) (last_texts_take kind.0 k6.0.1 last.0 last.1))))))))

-- What a line can say

pub record PropsFit (p : Props) : Type 0 where
  pub created : p.created ≤ GREATEST_MOMENT
  pub written : p.written ≤ GREATEST_MOMENT
  pub access : IsSecurity p.access
  pub owner : IsSecurity p.owner
  pub audit : IsSecurity p.audit

-- the bytes that a line can say
pub record BytesFit (kind : Kind) (bytes : List ℕ) : Type 0 where
  pub are_bytes : IsBytes bytes
  pub size : length bytes ≤ 268435456
  pub none : kind ≡ Dir → bytes ≡ []

pub record LineFits (path : List (List ℕ)) (node : Node) : Type 0 where
  pub names : IsPathText path
  pub spelling : node.spelling ≡ last_name path
  pub props : PropsFit node.props
  pub bytes : BytesFit node.kind node.bytes

-- fields that are spelled well
record FieldsSpell (t : EntryTexts) (f : EntryFields) : Type 0 where
  path : (t.path ≡ path_text f.path) × IsPathText f.path
  attr : t.attr ≡ attr_text f.attr
  access : (t.access ≡ hex_text f.access) × IsBytes f.access
  owner : (t.owner ≡ hex_text f.owner) × IsBytes f.owner
  audit : (t.audit ≡ hex_text f.audit) × IsBytes f.audit

fields_take : (t : EntryTexts) (f : EntryFields) → fields_at t ≡ Some f → FieldsSpell t f
unfolding fields_at
fields_take t f e =
    let k0 = bind_some (path_at t.path) _ f e in
    let k1 = bind_some (attr_at t.attr) _ f k0.2 in
    let k2 = bind_some (hex_at t.access) _ f k1.2 in
    let k3 = bind_some (hex_at t.owner) _ f k2.2 in
    let k4 = bind_some (hex_at t.audit) _ f k3.2 in
    let made : EntryFields = record { path = k0.0; attr = k1.0; access = k2.0; owner = k3.0; audit = k4.0 } in
    let q = if_some (is_numeral t.created && (is_numeral t.written && is_numeral t.size)) (Some made) f k4.2 in
    subst (FieldsSpell t) (some_is made f q.1)
    (record {
      path = path_field.takes t.path k0.0 k0.1;
      attr = (attr_field.takes t.attr k1.0 k1.1).0;
      access = hex_field.takes t.access k2.0 k2.1;
      owner = hex_field.takes t.owner k3.0 k3.1;
      audit = hex_field.takes t.audit k4.0 k4.1;
    })

-- values that keep to their limits
record ValuesSpell (t : EntryTexts) (f : EntryFields) (v : EntryValues) : Type 0 where
  path : v.path ≡ f.path
  attr : v.props.attr ≡ f.attr
  created : (t.created ≡ decimal v.props.created) × (v.props.created ≤ GREATEST_MOMENT)
  written : (t.written ≡ decimal v.props.written) × (v.props.written ≤ GREATEST_MOMENT)
  access : (v.props.access ≡ f.access) × (length f.access ≤ 65535)
  owner : (v.props.owner ≡ f.owner) × (length f.owner ≤ 65535)
  audit : (v.props.audit ≡ f.audit) × (length f.audit ≤ 65535)
  size : (t.size ≡ decimal v.size) × (v.size ≤ 268435456)

values_take : (t : EntryTexts) (f : EntryFields) (v : EntryValues) → values_at t f ≡ Some v → ValuesSpell t f v
unfolding values_at
values_take t f v e =
    let k0 = bind_some (number_at GREATEST_MOMENT t.created) _ v e in
    let k1 = bind_some (number_at GREATEST_MOMENT t.written) _ v k0.2 in
    let k2 = bind_some (number_at 268435456 t.size) _ v k1.2 in
    let q = if_some (is_short f.access && (is_short f.owner && is_short f.audit)) (Some (values_with f k0.0 k1.0 k2.0)) v k2.2 in
    let first = and_parts (is_short f.access) (is_short f.owner && is_short f.audit) q.0 in
    let others = and_parts (is_short f.owner) (is_short f.audit) first.1 in
    subst (ValuesSpell t f) (some_is (values_with f k0.0 k1.0 k2.0) v q.1)
    (record {
      path = refl;
      attr = refl;
      created = moments.takes t.created k0.0 k0.1;
      written = moments.takes t.written k1.0 k1.1;
      access = (refl, leb-true (length f.access) 65535 first.0);
      owner = (refl, leb-true (length f.owner) 65535 others.0);
      audit = (refl, leb-true (length f.audit) 65535 others.1);
      size = sizes.takes t.size k2.0 k2.1;
    })

-- the bytes of an entry
bytes_take : (kind : Kind) (size : ℕ) (text bytes audit number : List ℕ) → bytes_of kind size text ≡ Some bytes → (number ≡ decimal size) × (size ≤ 268435456) → (last_line kind audit number text ≡ audit ++ last_text kind bytes) × BytesFit kind bytes
unfolding last_line
bytes_take File size text bytes audit number e spells =
    let c = content_takes size text bytes e in (
      ap (λ (n : List ℕ). audit ++ 9 ∷ (n ++ 9 ∷ text)) (spells.0 ∙ ap decimal (sym c.size_is)) ∙ ap (λ (t : List ℕ). audit ++ 9 ∷ (decimal (length bytes) ++ 9 ∷ t)) c.text_is,
      record { are_bytes = c.fits; size = omega (arith, spells.1, c.size_is); none = λ dir. cc },
    )
bytes_take Dir size text bytes audit number e spells =
    let none : [] ≡ bytes = some_is [] bytes e in
    (sym (append-nil audit), subst (BytesFit Dir) none (record { are_bytes = no_bytes; size = omega arith; none = λ _. refl }))
  where
    no_bytes : IsBytes []
    no_bytes i = omega arith

-- a line that was read is that of its entry
pub entry_take : (line : List ℕ) (t : EntryTexts) (f : EntryFields) (v : EntryValues) (bytes : List ℕ) → entry_texts line ≡ Some t → fields_at t ≡ Some f → values_at t f ≡ Some v → bytes_of t.kind v.size t.content ≡ Some bytes
    → (line ≡ entry_fields v.path (node_of t.kind v bytes)) × LineFits v.path (node_of t.kind v bytes)
unfolding texts_line
entry_take line t f v bytes texts fields values content =
    let s = fields_take t f fields in
    let l = values_take t f v values in
    let c = bytes_take t.kind v.size t.content bytes t.audit t.size content l.size in
    let p = v.props in (
      texts_take line t texts
          ∙ ap (λ (x : List ℕ). kind_text t.kind ++ 9 ∷ (x ++ 9 ∷ (t.attr ++ 9 ∷ (t.created ++ 9 ∷ (t.written ++ 9 ∷ (t.access ++ 9 ∷ (t.owner ++ 9 ∷ last_line t.kind t.audit t.size t.content))))))) (s.path.0 ∙ ap path_text (sym l.path))
          ∙ ap (λ (x : List ℕ). kind_text t.kind ++ 9 ∷ (path_text v.path ++ 9 ∷ (x ++ 9 ∷ (t.created ++ 9 ∷ (t.written ++ 9 ∷ (t.access ++ 9 ∷ (t.owner ++ 9 ∷ last_line t.kind t.audit t.size t.content))))))) (s.attr ∙ ap attr_text (sym l.attr))
          ∙ ap (λ (x : List ℕ). kind_text t.kind ++ 9 ∷ (path_text v.path ++ 9 ∷ (attr_text p.attr ++ 9 ∷ (x ++ 9 ∷ (t.written ++ 9 ∷ (t.access ++ 9 ∷ (t.owner ++ 9 ∷ last_line t.kind t.audit t.size t.content))))))) l.created.0
          ∙ ap (λ (x : List ℕ). kind_text t.kind ++ 9 ∷ (path_text v.path ++ 9 ∷ (attr_text p.attr ++ 9 ∷ (decimal p.created ++ 9 ∷ (x ++ 9 ∷ (t.access ++ 9 ∷ (t.owner ++ 9 ∷ last_line t.kind t.audit t.size t.content))))))) l.written.0
          ∙ ap (λ (x : List ℕ). kind_text t.kind ++ 9 ∷ (path_text v.path ++ 9 ∷ (attr_text p.attr ++ 9 ∷ (decimal p.created ++ 9 ∷ (decimal p.written ++ 9 ∷ (x ++ 9 ∷ (t.owner ++ 9 ∷ last_line t.kind t.audit t.size t.content))))))) (s.access.0 ∙ ap hex_text (sym l.access.0))
          ∙ ap (λ (x : List ℕ). kind_text t.kind ++ 9 ∷ (path_text v.path ++ 9 ∷ (attr_text p.attr ++ 9 ∷ (decimal p.created ++ 9 ∷ (decimal p.written ++ 9 ∷ (hex_text p.access ++ 9 ∷ (x ++ 9 ∷ last_line t.kind t.audit t.size t.content))))))) (s.owner.0 ∙ ap hex_text (sym l.owner.0))
          ∙ ap (λ (x : List ℕ). kind_text t.kind ++ 9 ∷ (path_text v.path ++ 9 ∷ (attr_text p.attr ++ 9 ∷ (decimal p.created ++ 9 ∷ (decimal p.written ++ 9 ∷ (hex_text p.access ++ 9 ∷ (hex_text p.owner ++ 9 ∷ x)))))))
          (c.0 ∙ ap (λ (a : List ℕ). a ++ last_text t.kind bytes) (s.audit.0 ∙ ap hex_text (sym l.audit.0)))
          ∙ sym (line_is v.path (node_of t.kind v bytes)),
      record {
        names = subst IsPathText (sym l.path) s.path.1;
        spelling = refl;
        props = record {
          created = l.created.1;
          written = l.written.1;
          access = subst IsSecurity (sym l.access.0) (s.access.1, l.access.1);
          owner = subst IsSecurity (sym l.owner.0) (s.owner.1, l.owner.1);
          audit = subst IsSecurity (sym l.audit.0) (s.audit.1, l.audit.1);
        };
        bytes = c.1;
      },
    )
