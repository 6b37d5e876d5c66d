-- Values that are read as they were written.
use Rattle.std.proofs.Common.{◌≡◌, ℕ, ◌+◌, ◌-◌, ◌*◌, ◌^◌, ◌<◌, ◌≤◌, Bool, true, false, not, ◌&&◌, ◌||◌, ◌==◌, nat_le, nat_lt, List, [], ◌∷◌, ◌++◌, length, Option, Some, None, Result, Ok, Err, All, codes, decimal, refl, sym, ap, subst, ◌∙◌, append_assoc, if◌then◌else◌, arith}
use Rattle.std.specs.Char.{is_ascii_digit, to_ascii_uppercase}
use Rattle.std.specs.List.{list_all, list_any}
use Rattle.std.specs.Option.{unwrap_or}
use Rattle.std.specs.Prelude.{is_none}
use Rattle.std.proofs.lemmas.Bool.{and_parts, and_from, or_from, leb-true, le-leb, le-ltb, ne_eqb, true≢false, false≢true}
use Rattle.std.proofs.lemmas.Fmt.{decimal_nonempty, digits_decimal, digits_value-decimal}
use Rattle.std.proofs.lemmas.List.Elements.{All-head, All-tail}
use Rattle.std.proofs.lemmas.Str.Parse.{FoldsDigits, IsDigitsTest, IsNumeralModel, numerals_by_fold}
use Rattle.rc_tree.specs.Attr.{compared, no_attr}
use Rattle.rc_tree.specs.declared.attr.Attr.{Attr}
use Rattle.rc_wild.specs.Pattern.{pattern_fault}
use Rattle.rc_wild.specs.PathPattern.{is_separator, path_pattern_fault}
use Rattle.rc_job.specs.Allowed.{exclude_fault, is_root, is_root_char}
use Rattle.rc_job.specs.Job.{attributes_alone, dat}
use Rattle.rc_job.specs.Values.{attr_letters, copy_flag_letters, directory_letters, exclude_text, is_attributes_alone, is_dat, letter_where}
use Rattle.rc_job.specs.declared.flags.CopyFlags.{CopyFlags}
use Rattle.rc_job.specs.declared.flags.DirectoryFlags.{DirectoryFlags}
use Rattle.rc_job.specs.declared.lists.Exclude.{Exclude}
use Rattle.rc_job.specs.declared.lists.Exclude.TheVariants as exclude
use Rattle.rc_job.proofs.Letters.{alone_letters, dat_letters}
use Rattle.rc_job.proofs.Plain.{exclude_plain, no_separator, pattern_plain, root_plain, separator}
use Rattle.rc_words.specs.Meaning.{behind_colon, listed_meaning, needed}
use Rattle.rc_words.specs.Values.{age_in, attr_in, copy_in, directory_in, has_letter, is_age, is_letter_of, is_root as is_word_root, number_in, ranged_in}
use Rattle.rc_words.specs.declared.setting.Setting.{Setting}
use Rattle.rc_words.specs.declared.setting.Setting.TheVariants as setting
use Rattle.rc_words.specs.declared.table.Value.{Value}
use Rattle.rc_words.specs.declared.table.Value.TheVariants as value
use Rattle.rc_jobfiles.proofs.Lexed.{AreTexts, is_solid}
use Rattle.rc_jobfiles.proofs.Worded.{AreMade}

-- Numbers

abbrev AreDigits : List ℕ → Type 0
AreDigits cs = list_all is_ascii_digit cs ≡ true

tells : IsDigitsTest AreDigits
tells = record {
  empty = refl;
  parts = λ c cs e.
      let k = and_parts (is_ascii_digit c) (list_all is_ascii_digit cs) e in
      let m = and_parts (nat_le 48 c) (nat_le c 57) k.0 in
      ((leb-true 48 c m.0, leb-true c 57 m.1), k.1);
  more = λ c cs k e.
      and_from (is_ascii_digit c) (list_all is_ascii_digit cs) (and_from (nat_le 48 c) (nat_le c 57) (le-leb 48 c k.0) (le-leb c 57 k.1)) e;
}

folds : FoldsDigits number_in
folds = record {
  empty = λ n. refl;
  more = λ n c cs k.
      let e : 10 * n + (c - 48) ≡ n * 10 + (c - 48) = omega arith in
      ap (λ (m : ℕ). number_in m cs) e;
}

numerals : IsNumeralModel AreDigits (number_in 0)
numerals = numerals_by_fold AreDigits tells number_in folds

are_digits : (n : ℕ) → n < 2 ^ 64 → list_all is_ascii_digit (decimal n) ≡ true
are_digits n h = digits_decimal numerals n h

number_back : (n : ℕ) → n < 2 ^ 64 → number_in 0 (decimal n) ≡ n
number_back n h = digits_value-decimal numerals n h

digits_solid : (cs : List ℕ) → list_all is_ascii_digit cs ≡ true → list_all is_solid cs ≡ true
digits_solid [] h = refl
digits_solid (c ∷ cs) h =
    let parts = and_parts (is_ascii_digit c) (list_all is_ascii_digit cs) h in
    let low : 48 ≤ c = leb-true 48 c (and_parts (nat_le 48 c) (nat_le c 57) parts.0).0 in
    let plain : is_root_char c ≡ true = and_from (nat_le 32 c) (not (c == 34)) (le-leb 32 c (omega (arith, low))) (ap not (ne_eqb c 34 (λ e. omega (arith, low, e)))) in
    and_from (is_solid c) (list_all is_solid cs) (and_from (is_root_char c) (not (c == 32)) plain (ap not (ne_eqb c 32 (λ e. omega (arith, low, e))))) (digits_solid cs parts.1)

pub decimal_solid : (n : ℕ) → n < 2 ^ 64 → list_all is_solid (decimal n) ≡ true
decimal_solid n h = digits_solid (decimal n) (are_digits n h)

pub ranged_back : (least most n : ℕ) → n < 2 ^ 64 → least ≤ n → n ≤ most → ranged_in least most (decimal n) ≡ Ok n
ranged_back least most n h low high =
    let within : (nat_lt n least || nat_lt most n) ≡ false = or_from (nat_lt n least) (nat_lt most n) (le-ltb n least low) (le-ltb most n high) in
    rw (are_digits n h, number_back n h, within) refl

pub age_back : (n : ℕ) → n < 2 ^ 64 → is_age n ≡ true → age_in (decimal n) ≡ Ok n
age_back n h is = rw (are_digits n h, number_back n h, is) refl

pub needed_some : (number : ℕ) (v : Value) (cs : List ℕ) → 0 < length cs → needed number v cs ≡ behind_colon number v cs
needed_some number v [] h = absurd (omega (arith, h))
needed_some number v (c ∷ cs) h = refl

-- Letters

abbrev letters : List ℕ → List Bool → List ℕ
letters [] flags = []
letters (c ∷ cs) [] = []
letters (c ∷ cs) (on ∷ flags) = letter_where c on ++ letters cs flags

-- whether a letter is on
abbrev flag_of : ℕ → List ℕ → List Bool → Bool
flag_of x [] flags = false
flag_of x (c ∷ cs) [] = false
flag_of x (c ∷ cs) (on ∷ flags) = if to_ascii_uppercase c == x then (on || flag_of x cs flags) else flag_of x cs flags

on_step : (b r : Bool) → (b || r) ≡ (if b then true else r)
on_step true r = refl
on_step false r = refl

off_step : (b r : Bool) → r ≡ (if b then r else r)
off_step true r = refl
off_step false r = refl

has_flag : (x : ℕ) (cs : List ℕ) (flags : List Bool) → has_letter x (letters cs flags) ≡ flag_of x cs flags
has_flag x [] flags = refl
has_flag x (c ∷ cs) [] = refl
has_flag x (c ∷ cs) (true ∷ flags) =
    ap (λ (r : Bool). (to_ascii_uppercase c == x) || r) (has_flag x cs flags) ∙ on_step (to_ascii_uppercase c == x) (flag_of x cs flags)
has_flag x (c ∷ cs) (false ∷ flags) = has_flag x cs flags ∙ off_step (to_ascii_uppercase c == x) (flag_of x cs flags)

all_letters : (p : ℕ → Bool) (cs : List ℕ) (flags : List Bool) → list_all p cs ≡ true → list_all p (letters cs flags) ≡ true
all_letters p [] flags h = refl
all_letters p (c ∷ cs) [] h = refl
all_letters p (c ∷ cs) (true ∷ flags) h =
    let parts = and_parts (p c) (list_all p cs) h in
    and_from (p c) (list_all p (letters cs flags)) parts.0 (all_letters p cs flags parts.1)
all_letters p (c ∷ cs) (false ∷ flags) h = all_letters p cs flags (and_parts (p c) (list_all p cs) h).1

pub or_none : (b : Bool) → (b || false) ≡ b
or_none true = refl
or_none false = refl

last : (c : ℕ) (on : Bool) → letter_where c on ≡ letter_where c on ++ []
last c true = refl
last c false = refl

inner : {A : Type 0} (a b : A) → ◌≡◌ {A = Option A} (Some a) (Some b) → a ≡ b
inner {A} a b e = ap (λ (o : Option A). unwrap_or o a) e

-- /COPY:

abbrev copied : List ℕ
copied = 68 ∷ 65 ∷ 84 ∷ 83 ∷ 79 ∷ 85 ∷ []

abbrev copy_list : CopyFlags → List Bool
copy_list f = f.data_bytes ∷ f.attributes ∷ f.times ∷ f.security ∷ f.owner ∷ f.auditing ∷ []

copy_is : (f : CopyFlags) → copy_flag_letters f ≡ letters copied (copy_list f)
copy_is f =
    ap (λ (end : List ℕ). letter_where 68 f.data_bytes ++ letter_where 65 f.attributes ++ letter_where 84 f.times ++ letter_where 83 f.security ++ letter_where 79 f.owner ++ end)
    (last 85 f.auditing)
    ∙ simp append_assoc

pub copy_solid : (f : CopyFlags) → list_all is_solid (copy_flag_letters f) ≡ true
copy_solid f = subst (λ cs. list_all is_solid cs ≡ true) (sym (copy_is f)) (all_letters is_solid copied (copy_list f) refl)

pub copy_back : (f : CopyFlags) → copy_in (copy_flag_letters f) ≡ Some f
copy_back f =
    let flags = copy_list f in
    let all = all_letters (is_letter_of (codes "DATSOUX")) copied flags refl in
    let flag = λ (x : ℕ). has_flag x copied flags in
    ap copy_in (copy_is f)
    ∙ rw all refl
    ∙ (λ i. Some (record {
      data_bytes = (flag 68 ∙ or_none f.data_bytes) i;
      attributes = (flag 65 ∙ or_none f.attributes) i;
      times = (flag 84 ∙ or_none f.times) i;
      security = (flag 83 ∙ or_none f.security) i;
      owner = (flag 79 ∙ or_none f.owner) i;
      auditing = (flag 85 ∙ or_none f.auditing) i;
    }))

pub dat_back : (f : CopyFlags) → is_dat f ≡ true → f ≡ dat
dat_back f h =
    inner f dat (sym (copy_back f) ∙ ap copy_in (dat_letters f.data_bytes f.attributes f.times f.security f.owner f.auditing h))

-- without letters none is on
pub copy_none : (f : CopyFlags) → copy_flag_letters f ≡ [] → ◌≡◌ {A = CopyFlags} (record { data_bytes = false; attributes = false; times = false; security = false; owner = false; auditing = false }) f
copy_none f e =
    inner (record { data_bytes = false; attributes = false; times = false; security = false; owner = false; auditing = false }) f (sym (ap copy_in e) ∙ copy_back f)

-- /DCOPY:

abbrev directory_list : DirectoryFlags → List Bool
directory_list f = f.attributes ∷ f.times ∷ []

directory_is : (f : DirectoryFlags) → directory_letters f ≡ letters (65 ∷ 84 ∷ []) (directory_list f)
directory_is f = ap (λ (end : List ℕ). letter_where 65 f.attributes ++ end) (last 84 f.times)

pub directory_solid : (f : DirectoryFlags) → list_all is_solid (directory_letters f) ≡ true
directory_solid f = subst (λ cs. list_all is_solid cs ≡ true) (sym (directory_is f)) (all_letters is_solid (65 ∷ 84 ∷ []) (directory_list f) refl)

pub directory_back : (f : DirectoryFlags) → directory_in (directory_letters f) ≡ Some f
directory_back f =
    let flags = directory_list f in
    let all = all_letters (is_letter_of (codes "DATEX")) (65 ∷ 84 ∷ []) flags refl in
    let flag = λ (x : ℕ). has_flag x (65 ∷ 84 ∷ []) flags in
    ap directory_in (directory_is f)
    ∙ rw all refl
    ∙ (λ i. Some (record {
      attributes = (flag 65 ∙ or_none f.attributes) i;
      times = (flag 84 ∙ or_none f.times) i;
    }))

pub alone_back : (f : DirectoryFlags) → is_attributes_alone f ≡ true → f ≡ attributes_alone
alone_back f h =
    inner f attributes_alone (sym (directory_back f) ∙ ap directory_in (alone_letters f.attributes f.times h))

pub directory_none : (f : DirectoryFlags) → directory_letters f ≡ [] → ◌≡◌ {A = DirectoryFlags} (record { attributes = false; times = false }) f
directory_none f e = inner (record { attributes = false; times = false }) f (sym (ap directory_in e) ∙ directory_back f)

-- /A+:, /A-:, /IA: and /XA:

abbrev known : List ℕ
known = 82 ∷ 65 ∷ 83 ∷ 72 ∷ 67 ∷ 78 ∷ 69 ∷ 84 ∷ 79 ∷ []

abbrev attr_list : Attr → List Bool
attr_list a =
    a.readonly ∷ a.archive ∷ a.system ∷ a.hidden ∷ a.compressed ∷ a.not_indexed ∷ a.encrypted ∷ a.temporary ∷ a.offline ∷ []

attr_is : (a : Attr) → attr_letters a ≡ letters known (attr_list a)
attr_is a =
    ap (λ (end : List ℕ). letter_where 82 a.readonly ++ letter_where 65 a.archive ++ letter_where 83 a.system ++ letter_where 72 a.hidden ++ letter_where 67 a.compressed
    ++ letter_where 78 a.not_indexed ++ letter_where 69 a.encrypted ++ letter_where 84 a.temporary ++ end)
    (last 79 a.offline)
    ∙ simp append_assoc

pub attr_solid : (a : Attr) → list_all is_solid (attr_letters a) ≡ true
attr_solid a = subst (λ cs. list_all is_solid cs ≡ true) (sym (attr_is a)) (all_letters is_solid known (attr_list a) refl)

pub attr_back : (a : Attr) → a.sparse ≡ false → attr_in (attr_letters a) ≡ Some a
attr_back a none =
    let flags = attr_list a in
    let all = all_letters (is_letter_of (codes "RASHCNETO")) known flags refl in
    let flag = λ (x : ℕ). has_flag x known flags in
    ap attr_in (attr_is a)
    ∙ rw all refl
    ∙ (λ i. Some (record {
      readonly = (flag 82 ∙ or_none a.readonly) i;
      hidden = (flag 72 ∙ or_none a.hidden) i;
      system = (flag 83 ∙ or_none a.system) i;
      archive = (flag 65 ∙ or_none a.archive) i;
      temporary = (flag 84 ∙ or_none a.temporary) i;
      sparse = sym none i;
      compressed = (flag 67 ∙ or_none a.compressed) i;
      offline = (flag 79 ∙ or_none a.offline) i;
      not_indexed = (flag 78 ∙ or_none a.not_indexed) i;
      encrypted = (flag 69 ∙ or_none a.encrypted) i;
    }))

-- without letters there is no attribute
pub no_letters : (a : Attr) → a.sparse ≡ false → attr_letters a ≡ [] → no_attr ≡ a
no_letters a none e = inner no_attr a (sym (ap attr_in e) ∙ attr_back a none)

-- Roots

pub root_back : (cs : List ℕ) → is_root cs ≡ true → is_word_root cs ≡ true
root_back [] h = absurd (false≢true h)
root_back (c ∷ cs) h = root_plain (c ∷ cs) h

pub root_some : (cs : List ℕ) → is_root cs ≡ true → 0 < length cs
root_some [] h = absurd (false≢true h)
root_some (c ∷ cs) h = omega arith

-- Patterns

some_pattern : (text : List ℕ) → pattern_fault text ≡ None → (length text == 0) ≡ false
unfolding pattern_fault
some_pattern [] h = cc
some_pattern (c ∷ cs) h = ne_eqb (length (c ∷ cs)) 0 (λ e. omega (arith, e))

some_path : (text : List ℕ) → list_any is_separator text ≡ true → (length text == 0) ≡ false
some_path [] h = absurd (false≢true h)
some_path (c ∷ cs) h = ne_eqb (length (c ∷ cs)) 0 (λ e. omega (arith, e))

some_exclude : (v : Exclude) → exclude_fault v ≡ None → (length (exclude_text v) == 0) ≡ false
some_exclude (exclude.Name text) h = some_pattern text h
some_exclude (exclude.Path text) h = some_path text (separator text h)

file_back : (text : List ℕ) → pattern_fault text ≡ None → listed_meaning value.Files text ≡ Ok (setting.File text)
file_back text h = rw h refl

exclude_file_back : (v : Exclude) → exclude_fault v ≡ None → listed_meaning value.ExcludeFiles (exclude_text v) ≡ Ok (setting.ExcludeFile v)
exclude_file_back (exclude.Name text) h = rw (no_separator text h, h) refl
exclude_file_back (exclude.Path text) h = rw (separator text h, h) refl

exclude_dir_back : (v : Exclude) → exclude_fault v ≡ None → listed_meaning value.ExcludeDirs (exclude_text v) ≡ Ok (setting.ExcludeDir v)
exclude_dir_back (exclude.Name text) h = rw (no_separator text h, h) refl
exclude_dir_back (exclude.Path text) h = rw (separator text h, h) refl

abbrev pub IsPattern : List ℕ → Type 0
IsPattern p = pattern_fault p ≡ None

abbrev pub IsExclude : Exclude → Type 0
IsExclude v = exclude_fault v ≡ None

pub files_are_texts : (ps : List (List ℕ)) → All IsPattern ps → AreTexts (λ p. p) ps
files_are_texts [] all = tt
files_are_texts (p ∷ ps) all =
    let first = All-head IsPattern p ps all in
    (pattern_plain p first, some_pattern p first, files_are_texts ps (All-tail IsPattern p ps all))

pub files_are_made : (ps : List (List ℕ)) → All IsPattern ps → AreMade (λ p. p) (λ p. setting.File p) value.Files ps
files_are_made [] all = tt
files_are_made (p ∷ ps) all = (file_back p (All-head IsPattern p ps all), files_are_made ps (All-tail IsPattern p ps all))

pub excludes_are_texts : (vs : List Exclude) → All IsExclude vs → AreTexts exclude_text vs
excludes_are_texts [] all = tt
excludes_are_texts (v ∷ vs) all =
    let first = All-head IsExclude v vs all in
    (exclude_plain v first, some_exclude v first, excludes_are_texts vs (All-tail IsExclude v vs all))

pub files_are_excluded : (vs : List Exclude) → All IsExclude vs → AreMade exclude_text (λ v. setting.ExcludeFile v) value.ExcludeFiles vs
files_are_excluded [] all = tt
files_are_excluded (v ∷ vs) all = (exclude_file_back v (All-head IsExclude v vs all), files_are_excluded vs (All-tail IsExclude v vs all))

pub dirs_are_excluded : (vs : List Exclude) → All IsExclude vs → AreMade exclude_text (λ v. setting.ExcludeDir v) value.ExcludeDirs vs
dirs_are_excluded [] all = tt
dirs_are_excluded (v ∷ vs) all = (exclude_dir_back v (All-head IsExclude v vs all), dirs_are_excluded vs (All-tail IsExclude v vs all))
