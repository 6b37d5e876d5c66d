-- What was read stands where it was read, spelled so.
use Rattle.std.proofs.Common.{◌≡◌, ℕ, ◌+◌, ◌-◌, ◌<◌, ◌≤◌, ◌^◌, Bool, true, false, ◌&&◌, cond, leb, ltb, List, [], ◌∷◌, ◌++◌, length, take, drop, get_or, Option, Some, None, Ok, Err, refl, sym, ap, subst, ◌∙◌, length-append, inl, inr, arith}
use Rattle.std.specs.Prelude.{chars, encode_utf8_all, find, ok_or, is_none, ◌==◌}
use Rattle.std.specs.Int.{w16, w32, w64, to_le_bytes, from_le_bytes}
use Rattle.std.specs.List.{join_with_byte}
use Rattle.std.specs.Str.{all_scalars, is_utf8}
use Rattle.std.proofs.Math.Seq.{drop-append_seam, take-add, take-append_seam}
use Rattle.std.proofs.lemmas.Bool.{and_parts, cases_lt, eqb-true, leb-true, ltb-true}
use Rattle.std.proofs.lemmas.List.{drop-drop, drop_more, get_or-drop, get_or-take, get_or_past, length-take, take-append-drop}
use Rattle.std.proofs.lemmas.List.Splits.{join_with_byte-slice_split}
use Rattle.std.proofs.lemmas.Nat.{le_bytes_2, le_bytes_4, le_bytes_8}
use Rattle.std.proofs.lemmas.Str.{IsUtf8-from_is_utf8, encodes-chars, scalars-chars}
use Rattle.rc_tree.specs.Attr.{stored_of}
use Rattle.rc_tree.specs.Path.{names_in, path_fault}
use Rattle.rc_tree.specs.declared.attr.Attr.{Attr}
use Rattle.rc_tree.specs.declared.attr.Kind.{Kind}
use Rattle.rc_tree.specs.declared.attr.Kind.TheVariants.{Dir, File}
use Rattle.rc_tree.specs.declared.moment.TheConstants.{GREATEST_MOMENT}
use Rattle.rc_class.specs.Codes.{act_code, after_code, class_code}
use Rattle.rc_class.specs.declared.class.Class.{Class}
use Rattle.rc_class.specs.declared.decision.Act.{Act}
use Rattle.rc_class.specs.declared.decision.After.{After}
use Rattle.rc_class.specs.declared.decision.After.TheVariants.{ClearArchive, Nothing, RemoveSource}
use Rattle.rc_class.specs.declared.facts.Facts.{Facts}
use Rattle.rc_class.specs.declared.item.Item.{Item}
use Rattle.rc_record.specs.Codes.{act_of, acts, after_of, attr_of, attr_with, class_of, classes, flag_of, kind_code, kind_of}
use Rattle.rc_record.specs.Fields.{◌>>=◌, byte_at, code_at, field_at, number_at}
use Rattle.rc_record.specs.Grammar.{are_names, attr_at, facts_at, is_kind_for, is_size_for, item_at, kind_at, moment_at, names_of, path_at, size_at, text_at, Limit}
use Rattle.rc_record.specs.Spelling.{facts_bytes, flag_code, item_bytes, path_bytes, IsItemTyped, IsPathTyped}
use Rattle.rc_record.proofs.Places.{HasAt, moved}
use Rattle.rc_record.proofs.SpelledItem.{IsRead}
use Rattle.rc_record.proofs.Steps.{bind_ok, field_len, guard_ok, ok_is}

abbrev pub AreBytes : List ℕ → Type 0
AreBytes bytes = (i : ℕ) → get_or bytes i 0 < 256

-- Fields

has_here : (off len : ℕ) (field bytes : List ℕ) → off + len ≤ length bytes → take len (drop off bytes) ≡ field → HasAt off field bytes
has_here off len field bytes fits is = record {
  front = take off bytes;
  rest = drop len (drop off bytes);
  at = omega (arith, length-take off bytes, fits);
  is = sym (take-append-drop off bytes) ∙ ap (λ (t : List ℕ). take off bytes ++ t) (sym (take-append-drop len (drop off bytes)) ∙ ap (λ (t : List ℕ). t ++ drop len (drop off bytes)) is);
}

pub has_end : (off : ℕ) (field bytes : List ℕ) → HasAt off field bytes → off + length field ≤ length bytes
has_end off field bytes h = omega (arith, ap length h.is, length-append h.front (field ++ h.rest), length-append field h.rest, h.at)

is_here : (off : ℕ) (field bytes : List ℕ) → HasAt off field bytes → take (length field) (drop off bytes) ≡ field
is_here off field bytes h = rw (h.is, sym h.at, drop-append_seam h.front (field ++ h.rest)) (take-append_seam field h.rest)

pub has_none : (off : ℕ) (bytes : List ℕ) → off ≤ length bytes → HasAt off [] bytes
has_none off bytes le = has_here off 0 [] bytes (omega (arith, le)) refl

pub has_both : (off : ℕ) (one two bytes : List ℕ) → HasAt off one bytes → HasAt (off + length one) two bytes → HasAt off (one ++ two) bytes
has_both off one two bytes h k =
    let later : take (length two) (drop (length one) (drop off bytes)) ≡ two = ap (take (length two)) (drop-drop (length one) off bytes) ∙ is_here (off + length one) two bytes k in
    has_here off (length one + length two) (one ++ two) bytes (omega (arith, has_end (off + length one) two bytes k))
    (take-add (length one) (length two) (drop off bytes) ∙ ap (λ (t : List ℕ). t ++ take (length two) (drop (length one) (drop off bytes))) (is_here off one bytes h) ∙ ap (λ (t : List ℕ). one ++ t) later)

-- one field behind another that ends where it begins
pub has_then : {next : ℕ} (off : ℕ) (one two bytes : List ℕ) → next ≡ off + length one → HasAt off one bytes → HasAt next two bytes → HasAt off (one ++ two) bytes
has_then off one two bytes at h k = has_both off one two bytes h (moved {field = two} {bytes = bytes} at k)

pub field_has : (len off : ℕ) (bytes field : List ℕ) → field_at len off bytes ≡ Ok field → HasAt off field bytes
unfolding field_at
field_has len off bytes field e =
    let g = guard_ok (leb (off + len) (length bytes)) (length bytes) (take len (drop off bytes)) field e in
    has_here off len field bytes (leb-true (off + len) (length bytes) g.0) g.1

field_bytes : (len off : ℕ) (bytes field : List ℕ) → AreBytes bytes → field_at len off bytes ≡ Ok field → AreBytes field
unfolding field_at
field_bytes len off bytes field all e =
    let g = guard_ok (leb (off + len) (length bytes)) (length bytes) (take len (drop off bytes)) field e in
    λ i. subst (λ (t : List ℕ). get_or t i 0 < 256) g.1 (elim (cases_lt i len) [
      | inl lt ↦ subst (λ n. n < 256) (sym (get_or-take len (drop off bytes) i 0 lt ∙ get_or-drop off bytes i 0)) (all (off + i))
      | inr ge ↦ subst (λ n. n < 256) (sym (get_or_past (take len (drop off bytes)) i 0 (omega (arith, ge, length-take len (drop off bytes))))) (omega arith)
    ])

pub byte_has : (off : ℕ) (bytes : List ℕ) (byte : ℕ) → byte_at off bytes ≡ Ok byte → HasAt off (byte ∷ []) bytes
unfolding byte_at
byte_has off bytes byte e =
    let g = guard_ok (ltb off (length bytes)) (length bytes) (get_or bytes off 0) byte e in
    let lt = ltb-true off (length bytes) g.0 in
    has_here off 1 (byte ∷ []) bytes (omega (arith, lt)) (ap (take 1) (drop_more bytes off 0 lt) ∙ ap (λ b. b ∷ []) g.1)

-- Numbers

pub u16_has : (off : ℕ) (bytes : List ℕ) (n : ℕ) → AreBytes bytes → number_at w16 off bytes ≡ Ok n → HasAt off (to_le_bytes w16 n) bytes × (n < 2 ^ 16)
unfolding number_at
u16_has off bytes n all e =
    let field = bind_ok (field_at 2 off bytes) (λ field. Ok (from_le_bytes w16 field)) n e in
    let is : from_le_bytes w16 field.0 ≡ n = ok_is (from_le_bytes w16 field.0) n field.2 in
    let small = field_bytes 2 off bytes field.0 all field.1 in
    let back = le_bytes_2 field.0 n (field_len 2 off bytes field.0 field.1) small (sym is) in
    (subst (λ (f : List ℕ). HasAt off f bytes) (sym back) (field_has 2 off bytes field.0 field.1), omega (arith, is, small 0, small 1))

pub u32_has : (off : ℕ) (bytes : List ℕ) (n : ℕ) → AreBytes bytes → number_at w32 off bytes ≡ Ok n → HasAt off (to_le_bytes w32 n) bytes × (n < 2 ^ 32)
unfolding number_at
u32_has off bytes n all e =
    let field = bind_ok (field_at 4 off bytes) (λ field. Ok (from_le_bytes w32 field)) n e in
    let is : from_le_bytes w32 field.0 ≡ n = ok_is (from_le_bytes w32 field.0) n field.2 in
    let small = field_bytes 4 off bytes field.0 all field.1 in
    let back = le_bytes_4 field.0 n (field_len 4 off bytes field.0 field.1) small (sym is) in
    (subst (λ (f : List ℕ). HasAt off f bytes) (sym back) (field_has 4 off bytes field.0 field.1), omega (arith, is, small 0, small 1, small 2, small 3))

pub u64_has : (off : ℕ) (bytes : List ℕ) (n : ℕ) → AreBytes bytes → number_at w64 off bytes ≡ Ok n → HasAt off (to_le_bytes w64 n) bytes × (n < 2 ^ 64)
unfolding number_at
u64_has off bytes n all e =
    let field = bind_ok (field_at 8 off bytes) (λ field. Ok (from_le_bytes w64 field)) n e in
    let is : from_le_bytes w64 field.0 ≡ n = ok_is (from_le_bytes w64 field.0) n field.2 in
    let small = field_bytes 8 off bytes field.0 all field.1 in
    let back = le_bytes_8 field.0 n (field_len 8 off bytes field.0 field.1) small (sym is) in
    (subst (λ (f : List ℕ). HasAt off f bytes) (sym back) (field_has 8 off bytes field.0 field.1), omega (arith, is, small 0, small 1, small 2, small 3, small 4, small 5, small 6, small 7))

-- Codes

ok_or_is : {X : Type 0} (o : Option X) (place : ℕ) (x : X) → ok_or o place ≡ Ok x → o ≡ Some x
ok_or_is (Some y) place x e = cc
ok_or_is None place x e = absurd cc

pub code_has : {X : Type 0} (meaning : ℕ → Option X) (off : ℕ) (bytes : List ℕ) (value : X) → code_at meaning off bytes ≡ Ok value → (byte : ℕ) × HasAt off (byte ∷ []) bytes × (meaning byte ≡ Some value)
unfolding code_at
code_has meaning off bytes value e =
    let byte = bind_ok (byte_at off bytes) (λ code. ok_or (meaning code) off) value e in
    (byte.0, byte_has off bytes byte.0 byte.1, ok_or_is (meaning byte.0) off value byte.2)

chosen : {X : Type 0} (b : Bool) (x y : X) (later : Option X) (p : X → Bool) → p x ≡ b → (later ≡ Some y → p y ≡ true) → cond b (Some x) later ≡ Some y → p y ≡ true
chosen true x y later p is after e = (let same : x ≡ y = cc in ap p (sym same) ∙ is)
chosen false x y later p is after e = after e

found : {X : Type 0} (p : X → Bool) (xs : List X) (y : X) → find p xs ≡ Some y → p y ≡ true
found p [] y e = absurd cc
found p (x ∷ xs) y e = chosen (p x) x y (find p xs) p refl (found p xs y) e

act_known : (n : ℕ) (act : Act) → act_of n ≡ Some act → act_code act ≡ n
unfolding act_of
act_known n act e = eqb-true (act_code act) n (found (λ value. act_code value == n) acts act e)

class_known : (n : ℕ) (class : Class) → class_of n ≡ Some class → class_code class ≡ n
unfolding class_of
class_known n class e = eqb-true (class_code class) n (found (λ value. class_code value == n) classes class e)

after_known : (n : ℕ) (after : After) → after_of n ≡ Some after → after_code after ≡ n
unfolding after_of
after_known n after e = eqb-true (after_code after) n (found (λ value. after_code value == n) (Nothing ∷ RemoveSource ∷ ClearArchive ∷ []) after e)

kind_known : (n : ℕ) (kind : Kind) → kind_of n ≡ Some kind → kind_code kind ≡ n
unfolding kind_of
kind_known n kind e = eqb-true (kind_code kind) n (found (λ value. kind_code value == n) (File ∷ Dir ∷ []) kind e)

flag_cases : (zero one : Bool) (n : ℕ) (flag : Bool) → (zero ≡ true → n ≡ 0) → (one ≡ true → n ≡ 1) → cond zero (Some false) (cond one (Some true) None) ≡ Some flag → flag_code flag ≡ n
flag_cases true one n flag is_zero is_one e = (let same : false ≡ flag = cc in ap flag_code (sym same) ∙ sym (is_zero refl))
flag_cases false true n flag is_zero is_one e = (let same : true ≡ flag = cc in ap flag_code (sym same) ∙ sym (is_one refl))
flag_cases false false n flag is_zero is_one e = absurd cc

pub flag_known : (n : ℕ) (flag : Bool) → flag_of n ≡ Some flag → flag_code flag ≡ n
unfolding flag_of
flag_known n flag e = flag_cases (n == 0) (n == 1) n flag (eqb-true n 0) (eqb-true n 1) e

attr_cases : (same : Bool) (kind : Kind) (stored : ℕ) (attr : Attr) → (same ≡ true → stored_of kind (attr_with stored) ≡ stored) → cond same (Some (attr_with stored)) None ≡ Some attr → stored_of kind attr ≡ stored
attr_cases true kind stored attr is e = (let same : attr_with stored ≡ attr = cc in ap (stored_of kind) (sym same) ∙ is refl)
attr_cases false kind stored attr is e = absurd cc

stored_known : (kind : Kind) (stored : ℕ) (attr : Attr) → attr_of kind stored ≡ Some attr → stored_of kind attr ≡ stored
unfolding attr_of
stored_known kind stored attr e = attr_cases (stored_of kind (attr_with stored) == stored) kind stored attr (eqb-true (stored_of kind (attr_with stored)) stored) e

-- one byte by its code
coded : {X : Type 0} (code : X → ℕ) (off : ℕ) (bytes : List ℕ) (value : X) (byte : ℕ) → code value ≡ byte → HasAt off (byte ∷ []) bytes → HasAt off (code value ∷ []) bytes
coded code off bytes value byte is h = subst (λ b. HasAt off (b ∷ []) bytes) (sym is) h

-- Facts

pub moment_has : (off : ℕ) (bytes : List ℕ) (units : ℕ) → AreBytes bytes → moment_at off bytes ≡ Ok units → HasAt off (to_le_bytes w64 units) bytes × (units ≤ GREATEST_MOMENT)
unfolding moment_at
moment_has off bytes units all e =
    let n = bind_ok (number_at w64 off bytes) (λ units. cond (leb units GREATEST_MOMENT) (Ok units) (Err off)) units e in
    let g = guard_ok (leb n.0 GREATEST_MOMENT) off n.0 units n.2 in
    (subst (λ k. HasAt off (to_le_bytes w64 k) bytes) g.1 (u64_has off bytes n.0 all n.1).0, subst (λ k. k ≤ GREATEST_MOMENT) g.1 (leb-true n.0 GREATEST_MOMENT g.0))

kind_has : (act : Act) (off : ℕ) (bytes : List ℕ) (kind : Kind) → kind_at act off bytes ≡ Ok kind → HasAt off (kind_code kind ∷ []) bytes × (is_kind_for act kind ≡ true)
unfolding kind_at
kind_has act off bytes kind e =
    let k = bind_ok (code_at kind_of off bytes) (λ kind. cond (is_kind_for act kind) (Ok kind) (Err off)) kind e in
    let g = guard_ok (is_kind_for act k.0) off k.0 kind k.2 in
    let byte = code_has kind_of off bytes k.0 k.1 in
    (subst (λ v. HasAt off (kind_code v ∷ []) bytes) g.1 (coded kind_code off bytes k.0 byte.0 (kind_known byte.0 k.0 byte.2) byte.1), subst (λ v. is_kind_for act v ≡ true) g.1 g.0)

size_has : (limit : Limit) (act : Act) (kind : Kind) (off : ℕ) (bytes : List ℕ) (size : ℕ) → AreBytes bytes → size_at limit act kind off bytes ≡ Ok size
    → HasAt off (to_le_bytes w64 size) bytes × (size < 2 ^ 64) × (is_size_for kind size ≡ true) × (limit act size ≡ true)
unfolding size_at
size_has limit act kind off bytes size all e =
    let n = bind_ok (number_at w64 off bytes) (λ size. cond (is_size_for kind size && limit act size) (Ok size) (Err off)) size e in
    let g = guard_ok (is_size_for kind n.0 && limit act n.0) off n.0 size n.2 in
    let has = u64_has off bytes n.0 all n.1 in
    let both = and_parts (is_size_for kind n.0) (limit act n.0) g.0 in (
      subst (λ k. HasAt off (to_le_bytes w64 k) bytes) g.1 has.0,
      subst (λ k. k < 2 ^ 64) g.1 has.1,
      subst (λ k. is_size_for kind k ≡ true) g.1 both.0,
      subst (λ k. limit act k ≡ true) g.1 both.1,
    )

attr_has : (kind : Kind) (off : ℕ) (bytes : List ℕ) (attr : Attr) → AreBytes bytes → attr_at kind off bytes ≡ Ok attr → HasAt off (to_le_bytes w32 (stored_of kind attr)) bytes
unfolding attr_at
attr_has kind off bytes attr all e =
    let n = bind_ok (number_at w32 off bytes) (λ stored. ok_or (attr_of kind stored) off) attr e in
    let is = ok_or_is (attr_of kind n.0) off attr n.2 in
    subst (λ k. HasAt off (to_le_bytes w32 k) bytes) (sym (stored_known kind n.0 attr is)) (u32_has off bytes n.0 all n.1).0

record FactsRead (limit : Limit) (act : Act) (off : ℕ) (bytes : List ℕ) (facts : Facts) : Type 0 where
  pub here : HasAt off (facts_bytes facts) bytes
  pub kind : is_kind_for act facts.kind ≡ true
  pub size : facts.size < 2 ^ 64
  pub fits : is_size_for facts.kind facts.size ≡ true
  pub allowed : limit act facts.size ≡ true
  pub written : facts.written ≤ GREATEST_MOMENT

facts_has : (limit : Limit) (act : Act) (off : ℕ) (bytes : List ℕ) (facts : Facts) → AreBytes bytes → facts_at limit act off bytes ≡ Ok facts → FactsRead limit act off bytes facts
unfolding facts_at
facts_has limit act off bytes facts all e =
    let kind = bind_ok (kind_at act off bytes) (λ kind. size_at limit act kind (off + 1) bytes >>= λ size. moment_at (off + 9) bytes >>= λ written. attr_at kind (off + 17) bytes >>= λ attr. Ok (record { kind = kind; size = size; written = written; attr = attr })) facts e in
    let size = bind_ok (size_at limit act kind.0 (off + 1) bytes) (λ size. moment_at (off + 9) bytes >>= λ written. attr_at kind.0 (off + 17) bytes >>= λ attr. Ok (record { kind = kind.0; size = size; written = written; attr = attr })) facts kind.2 in
    let written = bind_ok (moment_at (off + 9) bytes) (λ written. attr_at kind.0 (off + 17) bytes >>= λ attr. Ok (record { kind = kind.0; size = size.0; written = written; attr = attr })) facts size.2 in
    let attr = bind_ok (attr_at kind.0 (off + 17) bytes) (λ attr. Ok (record { kind = kind.0; size = size.0; written = written.0; attr = attr })) facts written.2 in
    let made : Facts = record { kind = kind.0; size = size.0; written = written.0; attr = attr.0 } in
    let k = kind_has act off bytes kind.0 kind.1 in
    let s = size_has limit act kind.0 (off + 1) bytes size.0 all size.1 in
    let w = moment_has (off + 9) bytes written.0 all written.1 in
    let a = attr_has kind.0 (off + 17) bytes attr.0 all attr.1 in
    let three = has_then (off + 9) (to_le_bytes w64 written.0) (to_le_bytes w32 (stored_of kind.0 attr.0)) bytes (omega arith) w.0 a in
    let two = has_then (off + 1) (to_le_bytes w64 size.0) (to_le_bytes w64 written.0 ++ to_le_bytes w32 (stored_of kind.0 attr.0)) bytes (omega arith) s.0 three in
    subst (FactsRead limit act off bytes) {x = made} {y = facts} (ok_is made facts attr.2) (record {
      here = has_both off (kind_code kind.0 ∷ []) (to_le_bytes w64 size.0 ++ (to_le_bytes w64 written.0 ++ to_le_bytes w32 (stored_of kind.0 attr.0))) bytes k.0 two;
      kind = k.1;
      size = s.1;
      fits = s.2;
      allowed = s.3;
      written = w.1;
    })

-- A path

pub text_has : (len off : ℕ) (bytes text : List ℕ) → text_at len off bytes ≡ Ok text → HasAt off (encode_utf8_all text) bytes × (length (encode_utf8_all text) ≡ len) × (all_scalars text ≡ true)
unfolding text_at
text_has len off bytes text e =
    let field = bind_ok (field_at len off bytes) (λ text. cond (is_utf8 text) (Ok (chars text)) (Err off)) text e in
    let g = guard_ok (is_utf8 field.0) off (chars field.0) text field.2 in
    let utf8 = IsUtf8-from_is_utf8 field.0 g.0 in
    let back : encode_utf8_all text ≡ field.0 = ap encode_utf8_all (sym g.1) ∙ encodes-chars field.0 utf8 in (
      subst (λ (f : List ℕ). HasAt off f bytes) (sym back) (field_has len off bytes field.0 field.1),
      ap length back ∙ field_len len off bytes field.0 field.1,
      subst (λ (t : List ℕ). all_scalars t ≡ true) g.1 (scalars-chars field.0 utf8),
    )

names_cases : (is : Bool) (text : List ℕ) (names : List (List ℕ)) → cond is (Some (names_in text)) None ≡ Some names → (is ≡ true) × (names_in text ≡ names)
names_cases true text names e = (refl, cc)
names_cases false text names e = absurd cc

none_is : {A : Type 0} (o : Option A) → is_none o ≡ true → o ≡ None
none_is (Some x) e = absurd cc
none_is None e = refl

join_names : (cs : List ℕ) → 0 < length (names_in cs) → join_with_byte 92 (names_in cs) ≡ cs
join_names [] some = absurd (omega arith)
join_names (c ∷ cs) some = join_with_byte-slice_split 92 (c ∷ cs)

pub record PathRead (off : ℕ) (bytes : List ℕ) (read : List (List ℕ) × ℕ) : Type 0 where
  pub here : HasAt off (to_le_bytes w16 (length (path_bytes read.0)) ++ path_bytes read.0) bytes
  pub end : read.1 ≡ off + 2 + length (path_bytes read.0)
  pub typed : IsPathTyped read.0
  pub below : 0 < length read.0

path_has : (off : ℕ) (bytes : List ℕ) (read : List (List ℕ) × ℕ) → AreBytes bytes → path_at off bytes ≡ Ok read → PathRead off bytes read
unfolding path_at
path_has off bytes read all e =
    let len = bind_ok (number_at w16 off bytes) (λ len. text_at len (off + 2) bytes >>= λ text. ok_or (names_of text) (off + 2) >>= λ names. Ok (names, off + 2 + len)) read e in
    let text = bind_ok (text_at len.0 (off + 2) bytes) (λ text. ok_or (names_of text) (off + 2) >>= λ names. Ok (names, off + 2 + len.0)) read len.2 in
    let names = bind_ok (ok_or (names_of text.0) (off + 2)) (λ names. Ok (names, off + 2 + len.0)) read text.2 in
    let n = u16_has off bytes len.0 all len.1 in
    let t = text_has len.0 (off + 2) bytes text.0 text.1 in
    let so = names_cases (are_names (names_in text.0)) text.0 names.0 (ok_or_is (names_of text.0) (off + 2) names.0 names.1) in
    let parts = and_parts (is_none (path_fault (names_in text.0))) (ltb 0 (length (names_in text.0))) so.0 in
    let below = ltb-true 0 (length (names_in text.0)) parts.1 in
    let joined : join_with_byte 92 names.0 ≡ text.0 = ap (join_with_byte 92) (sym so.1) ∙ join_names text.0 below in
    let spelled : path_bytes names.0 ≡ encode_utf8_all text.0 = ap encode_utf8_all joined in
    let long : len.0 ≡ length (path_bytes names.0) = sym t.1 ∙ sym (ap length spelled) in
    let made : List (List ℕ) × ℕ = (names.0, off + 2 + len.0) in
    subst (PathRead off bytes) {x = made} {y = read} (ok_is made read names.2) (record {
      here = has_both off (to_le_bytes w16 (length (path_bytes names.0))) (path_bytes names.0) bytes (subst (λ k. HasAt off (to_le_bytes w16 k) bytes) long n.0) (subst (λ (f : List ℕ). HasAt (off + 2) f bytes) (sym spelled) t.0);
      end = omega (arith, long);
      typed = record {
        named = subst (λ names. path_fault names ≡ None) so.1 (none_is (path_fault (names_in text.0)) parts.0);
        characters = subst (λ (t : List ℕ). all_scalars t ≡ true) (sym joined) t.2;
        len = omega (arith, long, n.1);
      };
      below = subst (λ names. 0 < length names) so.1 below;
    })

-- An item

pub record ItemRead (limit : Limit) (off : ℕ) (bytes : List ℕ) (read : Item × ℕ) : Type 0 where
  pub here : HasAt off (item_bytes read.0) bytes
  pub end : read.1 ≡ off + length (item_bytes read.0)
  pub typed : IsItemTyped read.0
  pub allowed : IsRead limit read.0

pub item_has : (limit : Limit) (off : ℕ) (bytes : List ℕ) (read : Item × ℕ) → AreBytes bytes → item_at limit off bytes ≡ Ok read → ItemRead limit off bytes read
unfolding item_at
item_has limit off bytes read all e =
    let act = bind_ok (code_at act_of off bytes) (λ act. code_at class_of (off + 1) bytes >>= λ class. code_at after_of (off + 2) bytes >>= λ after. facts_at limit act (off + 3) bytes >>= λ facts. path_at (off + 24) bytes >>= λ path. Ok (record { path = path.0; act = act; class = class; after = after; facts = facts }, path.1)) read e in
    let class = bind_ok (code_at class_of (off + 1) bytes) (λ class. code_at after_of (off + 2) bytes >>= λ after. facts_at limit act.0 (off + 3) bytes >>= λ facts. path_at (off + 24) bytes >>= λ path. Ok (record { path = path.0; act = act.0; class = class; after = after; facts = facts }, path.1)) read act.2 in
    let after = bind_ok (code_at after_of (off + 2) bytes) (λ after. facts_at limit act.0 (off + 3) bytes >>= λ facts. path_at (off + 24) bytes >>= λ path. Ok (record { path = path.0; act = act.0; class = class.0; after = after; facts = facts }, path.1)) read class.2 in
    let facts = bind_ok (facts_at limit act.0 (off + 3) bytes) (λ facts. path_at (off + 24) bytes >>= λ path. Ok (record { path = path.0; act = act.0; class = class.0; after = after.0; facts = facts }, path.1)) read after.2 in
    let path = bind_ok (path_at (off + 24) bytes) (λ path. Ok (record { path = path.0; act = act.0; class = class.0; after = after.0; facts = facts.0 }, path.1)) read facts.2 in
    let item : Item = record { path = path.0.0; act = act.0; class = class.0; after = after.0; facts = facts.0 } in
    let made : Item × ℕ = (item, path.0.1) in
    let a = code_has act_of off bytes act.0 act.1 in
    let c = code_has class_of (off + 1) bytes class.0 class.1 in
    let b = code_has after_of (off + 2) bytes after.0 after.1 in
    let f = facts_has limit act.0 (off + 3) bytes facts.0 all facts.1 in
    let p = path_has (off + 24) bytes path.0 all path.1 in
    let path_field : List ℕ = to_le_bytes w16 (length (path_bytes path.0.0)) ++ path_bytes path.0.0 in
    let four = has_then (off + 3) (facts_bytes facts.0) path_field bytes (omega arith) f.here p.here in
    let three = has_then (off + 2) (after_code after.0 ∷ []) (facts_bytes facts.0 ++ path_field) bytes (omega arith) (coded after_code (off + 2) bytes after.0 b.0 (after_known b.0 after.0 b.2) b.1) four in
    let two = has_then (off + 1) (class_code class.0 ∷ []) (after_code after.0 ∷ (facts_bytes facts.0 ++ path_field)) bytes (omega arith) (coded class_code (off + 1) bytes class.0 c.0 (class_known c.0 class.0 c.2) c.1) three in
    subst (ItemRead limit off bytes) {x = made} {y = read} (ok_is made read path.2) (record {
      here = has_both off (act_code act.0 ∷ []) (class_code class.0 ∷ (after_code after.0 ∷ (facts_bytes facts.0 ++ path_field))) bytes (coded act_code off bytes act.0 a.0 (act_known a.0 act.0 a.2) a.1) two;
      end = omega (arith, p.end, length-append (facts_bytes facts.0) path_field, length-append (to_le_bytes w16 (length (path_bytes path.0.0))) (path_bytes path.0.0));
      typed = record { size = f.size; written = f.written; path = p.typed };
      allowed = record { kind = f.kind; size = f.fits; limit = f.allowed; below = p.below };
    })
