-- The blocks of each kind of setting.
use Rattle.std.proofs.Common.{◌≡◌, inl, inr, ℕ, ◌^◌, ◌<◌, ◌≤◌, Bool, true, false, ◌&&◌, ◌==◌, nat_le, nat_lt, List, [], ◌∷◌, ◌++◌, length, map, Option, Some, None, Ok, Err, All, codes, decimal, refl, sym, ap, ◌∙◌, if◌then◌else◌, arith}
use Rattle.std.specs.List.{list_all}
use Rattle.std.specs.Prelude.{IfSome}
use Rattle.std.proofs.lemmas.Bool.{and_from, and_parts, le-leb, lt-ltb, leb-true, ltb-true, eqb-true}
use Rattle.std.proofs.lemmas.Fmt.{decimal_nonempty}
use Rattle.std.proofs.lemmas.List.Folds.{list_all-append}
use Rattle.rc_tree.specs.Attr.{compared}
use Rattle.rc_tree.specs.declared.attr.Attr.{Attr}
use Rattle.rc_job.specs.Allowed.{is_root}
use Rattle.rc_job.specs.Values.{Lines, attr_letters, attr_lines, changed_lines, copy_flag_letters, copy_lines, directory_letters, directory_lines, exclude_text, excludes_lines, files_lines, is_attributes_alone, is_dat, letters_lines, number_lines, other_number_lines, quoted_root, root_lines, switch_lines, value_text}
use Rattle.rc_job.specs.declared.flags.CopyFlags.{CopyFlags}
use Rattle.rc_job.specs.declared.flags.DirectoryFlags.{DirectoryFlags}
use Rattle.rc_job.specs.declared.lists.Exclude.{Exclude}
use Rattle.rc_job.proofs.Plain.{root_plain}
use Rattle.rc_words.specs.Meaning.{allowed, behind_colon, list_of, needed, numbered, some_setting, spelled, switch_meaning}
use Rattle.rc_words.specs.Spelling.{Spelled}
use Rattle.rc_words.specs.Values.{is_age}
use Rattle.rc_words.specs.declared.setting.Setting.{Setting}
use Rattle.rc_words.specs.declared.setting.Setting.TheVariants as setting
use Rattle.rc_words.specs.declared.setting.Word.{Word}
use Rattle.rc_words.specs.declared.table.Value.{Value}
use Rattle.rc_words.specs.declared.table.Value.TheVariants as value
use Rattle.rc_jobfiles.specs.Merge.{number_of}
use Rattle.rc_jobfiles.proofs.Blocks.{Block}
use Rattle.rc_jobfiles.proofs.Lexed.{AreTexts, LineGives, LinesGive, is_solid, lines_more, no_lines, root_line, slash, switch_line, value_word, values_give}
use Rattle.rc_jobfiles.proofs.Names.{IsColon, IsPlain, IsSwitch, behind, plain}
use Rattle.rc_jobfiles.proofs.Stretches.{is_within}
use Rattle.rc_jobfiles.proofs.Valued.{IsExclude, IsPattern, age_back, attr_back, attr_solid, copy_back, copy_solid, decimal_solid, directory_back, directory_solid, needed_some, ranged_back, root_back, root_some}
use Rattle.rc_jobfiles.proofs.Worded.{AreMade, IsOwn, list_means, no_words, switch_means}

-- a number is one of these
abbrev pub is_between : ℕ → ℕ → ℕ → Bool
is_between k next n = nat_le k n && nat_lt n next

low : (k next n : ℕ) → is_between k next n ≡ true → k ≤ n
low k next n h = leb-true k n (and_parts (nat_le k n) (nat_lt n next) h).0

high : (k next n : ℕ) → is_between k next n ≡ true → n < next
high k next n h = ltb-true n next (and_parts (nat_le k n) (nat_lt n next) h).1

pub no_block : (k next : ℕ) → nat_le k next ≡ true → Block k next [] []
no_block k next h = record {
  words = [];
  lexed = no_lines;
  mean = no_words k next (leb-true k next h);
  within = refl;
  rising = leb-true k next h;
}

-- One line

one_within : (k next n : ℕ) (made : Setting) → is_between k next n ≡ true → number_of made ≡ n → list_all (is_within k next) (made ∷ []) ≡ true
one_within k next n made h e = ap (λ (m : ℕ). is_between k next m && true) e ∙ and_from (is_between k next n) true h refl

one_line : (k next n : ℕ) (line cs : List ℕ) (s : Spelled) (made : Setting) → LineGives line (slash cs) → spelled true (slash cs) ≡ Some s → IsOwn s → s.number ≡ n → is_between k next n ≡ true → ((after : List Word) → switch_meaning true after (Some s) ≡ Ok (Some made)) → number_of made ≡ n → Block k next (line ∷ []) (made ∷ [])
one_line k next n line cs s made gives e own is between means number =
    let least = low k next n between in
    let below = high k next n between in
    record {
      words = slash cs ∷ [];
      lexed = lines_more line [] (slash cs) [] gives no_lines;
      mean = switch_means k next cs s made e own (omega (arith, least, is)) (omega (arith, below, is)) means;
      within = one_within k next n made between number;
      rising = omega (arith, least, below);
    }

pub one_switch : (k next n : ℕ) (cs : List ℕ) → IsSwitch n cs → is_between k next n ≡ true → Block k next ((47 ∷ cs) ∷ []) (setting.Switch n ∷ [])
one_switch k next n cs is between =
    one_line k next n (47 ∷ cs) cs (plain n value.Nothing) (setting.Switch n) (λ rest more gives. switch_line cs rest more is.1 gives) is.0 (inl refl) refl between (λ after. refl) refl

abbrev pub switch_settings : ℕ → Bool → List Setting
switch_settings n on = if on then setting.Switch n ∷ [] else []

pub switch_block : (k next : ℕ) (cs : List ℕ) → IsSwitch k cs → is_between k next k ≡ true → (on : Bool) → Block k next (switch_lines (47 ∷ cs) on) (switch_settings k on)
switch_block k next cs is between true = one_switch k next k cs is between
switch_block k next cs is between false =
    no_block k next (le-leb k next (omega (arith, low k next k between, high k next k between)))

-- a value behind a colon
colon_line : (k next n : ℕ) (cs tail line : List ℕ) (v : Value) (made : Setting) → LineGives line (slash (cs ++ tail)) → IsColon n v cs → IsOwn (behind n v tail) → is_between k next n ≡ true → needed n v tail ≡ Ok made → number_of made ≡ n → Block k next (line ∷ []) (made ∷ [])
colon_line k next n cs tail line v made gives is own between means number =
    one_line k next n line (cs ++ tail) (behind n v tail) made gives (is.0 tail) own refl between (λ after. ap (λ r. some_setting r) means) number

solid_colon : (cs tail : List ℕ) → list_all is_solid cs ≡ true → list_all is_solid tail ≡ true → LineGives ((47 ∷ cs) ++ tail) (slash (cs ++ tail))
solid_colon cs tail solid also rest more gives =
    switch_line (cs ++ tail) rest more (list_all-append is_solid cs tail ∙ and_from (list_all is_solid cs) (list_all is_solid tail) solid also) gives

-- Roots

abbrev pub root_settings : (List ℕ → Setting) → Option (List ℕ) → List Setting
root_settings make None = []
root_settings make (Some root) = make root ∷ []

root_block : (k next : ℕ) (cs : List ℕ) (v : Value) (make : List ℕ → Setting) → IsColon k v cs → ((tail : List ℕ) → IsOwn (behind k v tail)) → is_between k next k ≡ true → ((root : List ℕ) → is_root root ≡ true → needed k v root ≡ Ok (make root)) → ((root : List ℕ) → number_of (make root) ≡ k) → (root : Option (List ℕ)) → IfSome root (λ r. is_root r ≡ true) → Block k next (root_lines (47 ∷ cs) root) (root_settings make root)
root_block k next cs v make is own between means number None h =
    no_block k next (le-leb k next (omega (arith, low k next k between, high k next k between)))
root_block k next cs v make is own between means number (Some root) h =
    colon_line k next k cs root ((47 ∷ cs) ++ quoted_root root) v (make root) (λ rest more gives. root_line cs root rest more is.1 (root_plain root h) gives) is (own root) between (means root h) (number root)

source_is : (root : List ℕ) → is_root root ≡ true → needed 0 value.Source root ≡ Ok (setting.Source root)
source_is root h = needed_some 0 value.Source root (root_some root h) ∙ rw (root_back root h) refl

target_is : (root : List ℕ) → is_root root ≡ true → needed 1 value.Target root ≡ Ok (setting.Target root)
target_is root h = needed_some 1 value.Target root (root_some root h) ∙ rw (root_back root h) refl

pub source_block : (cs : List ℕ) → IsColon 0 value.Source cs → (root : Option (List ℕ)) → IfSome root (λ r. is_root r ≡ true) → Block 0 1 (root_lines (47 ∷ cs) root) (root_settings (λ r. setting.Source r) root)
source_block cs is root h = root_block 0 1 cs value.Source (λ r. setting.Source r) is (λ tail. inr refl) refl source_is (λ r. refl) root h

pub target_block : (cs : List ℕ) → IsColon 1 value.Target cs → (root : Option (List ℕ)) → IfSome root (λ r. is_root r ≡ true) → Block 1 2 (root_lines (47 ∷ cs) root) (root_settings (λ r. setting.Target r) root)
target_block cs is root h = root_block 1 2 cs value.Target (λ r. setting.Target r) is (λ tail. inr refl) refl target_is (λ r. refl) root h

-- Numbers

abbrev pub number_settings : ℕ → Option ℕ → List Setting
number_settings k None = []
number_settings k (Some n) = setting.Number k n ∷ []

one_number : (k next : ℕ) (cs : List ℕ) (v : Value) (n : ℕ) → IsColon k v cs → IsOwn (behind k v (decimal n)) → is_between k next k ≡ true → n < 2 ^ 64 → behind_colon k v (decimal n) ≡ Ok (setting.Number k n) → Block k next (((47 ∷ cs) ++ decimal n) ∷ []) (setting.Number k n ∷ [])
one_number k next cs v n is own between small means =
    colon_line k next k cs (decimal n) ((47 ∷ cs) ++ decimal n) v (setting.Number k n) (solid_colon cs (decimal n) is.1 (decimal_solid n small)) is own between
    (needed_some k v (decimal n) (decimal_nonempty n small) ∙ means) refl

ranged_is : (k least most n : ℕ) → n < 2 ^ 64 → least ≤ n → n ≤ most → behind_colon k (value.Number least most) (decimal n) ≡ Ok (setting.Number k n)
ranged_is k least most n small above within = ap (λ r. numbered k r) (ranged_back least most n small above within)

age_is : (k n : ℕ) → n < 2 ^ 64 → is_age n ≡ true → behind_colon k value.Age (decimal n) ≡ Ok (setting.Number k n)
age_is k n small is = ap (λ r. numbered k r) (age_back n small is)

pub number_block : (k next least most : ℕ) (cs : List ℕ) → IsColon k (value.Number least most) cs → is_between k next k ≡ true → (o : Option ℕ) → IfSome o (λ n. (n < 2 ^ 64) × (least ≤ n) × (n ≤ most)) → Block k next (number_lines (47 ∷ cs) o) (number_settings k o)
number_block k next least most cs is between None h =
    no_block k next (le-leb k next (omega (arith, low k next k between, high k next k between)))
number_block k next least most cs is between (Some n) h =
    one_number k next cs (value.Number least most) n is (inr refl) between h.0 (ranged_is k least most n h.0 h.1 h.2)

pub age_block : (k next : ℕ) (cs : List ℕ) → IsColon k value.Age cs → is_between k next k ≡ true → (o : Option ℕ) → IfSome o (λ n. (n < 2 ^ 64) × (is_age n ≡ true)) → Block k next (number_lines (47 ∷ cs) o) (number_settings k o)
age_block k next cs is between None h =
    no_block k next (le-leb k next (omega (arith, low k next k between, high k next k between)))
age_block k next cs is between (Some n) h =
    one_number k next cs value.Age n is (inr refl) between h.0 (age_is k n h.0 h.1)

abbrev pub other_settings : ℕ → ℕ → ℕ → List Setting
other_settings k default n = if n == default then [] else setting.Number k n ∷ []

pub other_block : (k next least most default : ℕ) (cs : List ℕ) → IsColon k (value.Number least most) cs → is_between k next k ≡ true → (n : ℕ) → n < 2 ^ 64 → least ≤ n → n ≤ most → Block k next (other_number_lines (47 ∷ cs) default n) (other_settings k default n)
other_block k next least most default cs is between n small above within = by_default (n == default)
  where
    by_default : (same : Bool) → Block k next (if same then [] else ((47 ∷ cs) ++ decimal n) ∷ []) (if same then [] else setting.Number k n ∷ [])
    by_default true = no_block k next (le-leb k next (omega (arith, low k next k between, high k next k between)))
    by_default false = one_number k next cs (value.Number least most) n is (inr refl) between small (ranged_is k least most n small above within)

-- Lists

module _ {A : Type 0} (text : A → List ℕ) (make : A → Setting) (list : Value) where
  all_within : (k next n : ℕ) → is_between k next n ≡ true → ((v : A) → number_of (make v) ≡ n) → (values : List A) → list_all (is_within k next) (map make values) ≡ true
  all_within k next n between number [] = refl
  all_within k next n between number (v ∷ vs) =
      and_from (is_within k next (make v)) (list_all (is_within k next) (map make vs)) (ap (λ (m : ℕ). is_between k next m) (number v) ∙ between) (all_within k next n between number vs)

  list_block : (k next : ℕ) (cs : List ℕ) → IsPlain k list cs → IsOwn (plain k list) → is_between k next k ≡ true → ((after : List Word) → switch_meaning true after (Some (plain k list)) ≡ Ok None) → list_of (Some (plain k list)) ≡ Some list → ((v : A) → number_of (make v) ≡ k) → (values : List A) → AreTexts text values → AreMade text make list values → Block k next ((47 ∷ cs) ∷ map (λ v. value_text (text v)) values) (map make values)
  list_block k next cs is own between means begins number values texts are =
      let least = low k next k between in
      let below = high k next k between in
      record {
        words = slash cs ∷ map (λ v. value_word (text v)) values;
        lexed = lines_more (47 ∷ cs) (map (λ v. value_text (text v)) values) (slash cs) (map (λ v. value_word (text v)) values) (λ rest more gives. switch_line cs rest more is.1 gives) (values_give text values texts);
        mean = list_means text make list k next cs (plain k list) values is.0 own least below means begins are;
        within = all_within k next k between number values;
        rising = omega (arith, least, below);
      }

pub files_block : (cs : List ℕ) → IsPlain 4 value.Files cs → (ps : List (List ℕ)) → AreTexts (λ p. p) ps → AreMade (λ p. p) (λ p. setting.File p) value.Files ps → Block 4 5 (files_lines (47 ∷ cs) ps) (map (λ p. setting.File p) ps)
files_block cs is ps texts are =
    list_block (λ p. p) (λ p. setting.File p) value.Files 4 5 cs is (inl refl) refl (λ after. refl) refl (λ p. refl) ps texts are

pub exclude_files_block : (cs : List ℕ) → IsPlain 27 value.ExcludeFiles cs → (vs : List Exclude) → AreTexts exclude_text vs → AreMade exclude_text (λ v. setting.ExcludeFile v) value.ExcludeFiles vs → Block 27 28 (excludes_lines (47 ∷ cs) vs) (map (λ v. setting.ExcludeFile v) vs)
exclude_files_block cs is [] texts are = no_block 27 28 refl
exclude_files_block cs is (v ∷ vs) texts are =
    list_block exclude_text (λ v. setting.ExcludeFile v) value.ExcludeFiles 27 28 cs is (inl refl) refl (λ after. refl) refl (λ v. refl) (v ∷ vs) texts are

pub exclude_dirs_block : (cs : List ℕ) → IsPlain 28 value.ExcludeDirs cs → (vs : List Exclude) → AreTexts exclude_text vs → AreMade exclude_text (λ v. setting.ExcludeDir v) value.ExcludeDirs vs → Block 28 29 (excludes_lines (47 ∷ cs) vs) (map (λ v. setting.ExcludeDir v) vs)
exclude_dirs_block cs is [] texts are = no_block 28 29 refl
exclude_dirs_block cs is (v ∷ vs) texts are =
    list_block exclude_text (λ v. setting.ExcludeDir v) value.ExcludeDirs 28 29 cs is (inl refl) refl (λ after. refl) refl (λ v. refl) (v ∷ vs) texts are

-- Letters

abbrev pub letters_settings : Setting → List Setting → List ℕ → List Setting
letters_settings made without [] = without
letters_settings made without (c ∷ cs) = made ∷ []

letters_block : (k next n : ℕ) (cs tail : List ℕ) (v : Value) (made : Setting) (lines : Lines) (without : List Setting) → IsColon n v cs → IsOwn (behind n v tail) → is_between k next n ≡ true → Block k next lines without → list_all is_solid tail ≡ true → behind_colon n v tail ≡ Ok made → number_of made ≡ n → Block k next (letters_lines (47 ∷ cs) lines tail) (letters_settings made without tail)
letters_block k next n cs [] v made lines without is own between other solid means number = other
letters_block k next n cs (c ∷ tail) v made lines without is own between other solid means number =
    colon_line k next n cs (c ∷ tail) ((47 ∷ cs) ++ c ∷ tail) v made (solid_colon cs (c ∷ tail) is.1 solid) is own between means number

unless_block : (k next : ℕ) (default : Bool) (lines : Lines) (settings : List Setting) → nat_le k next ≡ true → Block k next lines settings → Block k next (if default then [] else lines) (if default then [] else settings)
unless_block k next true lines settings h block = no_block k next h
unless_block k next false lines settings h block = block

abbrev pub copy_settings : CopyFlags → List Setting
copy_settings f = if is_dat f then [] else letters_settings (setting.Copy f) (setting.Switch 16 ∷ []) (copy_flag_letters f)

pub copy_block : IsColon 13 value.Copy (codes "COPY:") → IsSwitch 16 (codes "NOCOPY") → (f : CopyFlags) → Block 13 17 (copy_lines f) (copy_settings f)
copy_block is none f =
    unless_block 13 17 (is_dat f) (letters_lines (codes "/COPY:") (codes "/NOCOPY" ∷ []) (copy_flag_letters f)) (letters_settings (setting.Copy f) (setting.Switch 16 ∷ []) (copy_flag_letters f)) refl
    (letters_block 13 17 13 (codes "COPY:") (copy_flag_letters f) value.Copy (setting.Copy f) (codes "/NOCOPY" ∷ []) (setting.Switch 16 ∷ []) is (inr refl) refl (one_switch 13 17 16 (codes "NOCOPY") none refl) (copy_solid f)
    (ap (λ o. allowed (λ flags. setting.Copy flags) 5 o) (copy_back f)) refl)

abbrev pub directory_settings : DirectoryFlags → List Setting
directory_settings f = if is_attributes_alone f then [] else letters_settings (setting.Directory f) (setting.Switch 18 ∷ []) (directory_letters f)

pub directory_block : IsColon 17 value.Directory (codes "DCOPY:") → IsSwitch 18 (codes "NODCOPY") → (f : DirectoryFlags) → Block 17 19 (directory_lines f) (directory_settings f)
directory_block is none f =
    unless_block 17 19 (is_attributes_alone f) (letters_lines (codes "/DCOPY:") (codes "/NODCOPY" ∷ []) (directory_letters f)) (letters_settings (setting.Directory f) (setting.Switch 18 ∷ []) (directory_letters f)) refl
    (letters_block 17 19 17 (codes "DCOPY:") (directory_letters f) value.Directory (setting.Directory f) (codes "/NODCOPY" ∷ []) (setting.Switch 18 ∷ []) is (inr refl) refl (one_switch 17 19 18 (codes "NODCOPY") none refl) (directory_solid f)
    (ap (λ o. allowed (λ flags. setting.Directory flags) 5 o) (directory_back f)) refl)

abbrev pub attr_settings : ℕ → Attr → List Setting
attr_settings k a = letters_settings (setting.Attributes k a) [] (attr_letters a)

pub attr_block : (k next : ℕ) (cs : List ℕ) → IsColon k value.Asked cs → is_between k next k ≡ true → (a : Attr) → a.sparse ≡ false → Block k next (attr_lines (47 ∷ cs) a) (attr_settings k a)
attr_block k next cs is between a none =
    letters_block k next k cs (attr_letters a) value.Asked (setting.Attributes k a) [] [] is (inr refl) between (no_block k next (le-leb k next (omega (arith, low k next k between, high k next k between)))) (attr_solid a)
    (ap (λ o. allowed (λ attr. setting.Attributes k attr) 5 o) (attr_back a none)) refl

pub changed_block : (k next : ℕ) (cs : List ℕ) → IsColon k value.Changed cs → is_between k next k ≡ true → (a : Attr) → Block k next (changed_lines (47 ∷ cs) a) (attr_settings k (compared a))
changed_block k next cs is between a =
    letters_block k next k cs (attr_letters (compared a)) value.Changed (setting.Attributes k (compared a)) [] [] is (inr refl) between (no_block k next (le-leb k next (omega (arith, low k next k between, high k next k between)))) (attr_solid (compared a))
    (ap (λ o. allowed (λ attr. setting.Attributes k (compared attr)) 5 o) (attr_back (compared a) refl)) refl

-- a literal behind a colon
pub literal_block : (k next : ℕ) (cs tail : List ℕ) (v : Value) (made : Setting) → IsColon k v cs → IsOwn (behind k v tail) → is_between k next k ≡ true → list_all is_solid tail ≡ true → needed k v tail ≡ Ok made → number_of made ≡ k → Block k next (((47 ∷ cs) ++ tail) ∷ []) (made ∷ [])
literal_block k next cs tail v made is own between solid means number =
    colon_line k next k cs tail ((47 ∷ cs) ++ tail) v made (solid_colon cs tail is.1 solid) is own between means number
