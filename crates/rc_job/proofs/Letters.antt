-- Letters tell their flags.
use Rattle.std.proofs.Common.{◌≡◌, ℕ, zero, suc, Bool, true, false, not, ◌&&◌, ◌||◌, ◌==◌, List, [], ◌∷◌, ◌++◌, length, refl, sym, ap, ◌∙◌, subst, append_assoc, arith}
use Rattle.std.specs.List.{list_any}
use Rattle.std.proofs.lemmas.Bool.{and_parts, and_from, not-true, false≢true, eq-eqb}
use Rattle.rc_tree.specs.declared.attr.Attr.{Attr}
use Rattle.rc_job.specs.Values.{letter_where, copy_flag_letters, directory_letters, attr_letters}
use Rattle.rc_job.specs.declared.flags.CopyFlags.{CopyFlags}
use Rattle.rc_job.specs.declared.flags.DirectoryFlags.{DirectoryFlags}
use Rattle.rc_job.proofs.Ends.{is_line}

-- the letters that are on
abbrev letters : List ℕ → List Bool → List ℕ
letters [] flags = []
letters (c ∷ cs) [] = []
letters (c ∷ cs) (on ∷ flags) = letter_where c on ++ letters cs flags

abbrev holds : ℕ → List ℕ → Bool
holds c cs = list_any (λ d. d == c) cs

abbrev are_apart : List ℕ → Bool
are_apart [] = true
are_apart (c ∷ cs) = not (holds c cs) && are_apart cs

not_on : (c d : ℕ) (on : Bool) (more : List ℕ) → (d == c) ≡ false → holds c more ≡ false → holds c (letter_where d on ++ more) ≡ false
not_on c d true more other none = rw other none
not_on c d false more other none = none

parts_false : (x y : Bool) → (x || y) ≡ false → (x ≡ false) × (y ≡ false)
parts_false true y h = absurd (false≢true (sym h))
parts_false false y h = (refl, h)

none_on : (c : ℕ) (cs : List ℕ) (flags : List Bool) → holds c cs ≡ false → holds c (letters cs flags) ≡ false
none_on c [] flags h = refl
none_on c (d ∷ cs) [] h = refl
none_on c (d ∷ cs) (on ∷ flags) h =
    let parts = parts_false (d == c) (holds c cs) h in
    not_on c d on (letters cs flags) parts.0 (none_on c cs flags parts.1)

absent : (c : ℕ) (cs more : List ℕ) → holds c more ≡ false → c ∷ cs ≡ more → ⊥
absent c cs more none e =
    let held : (c == c || holds c cs) ≡ false = subst (λ xs. holds c xs ≡ false) (sym e) none in
    false≢true (sym (parts_false (c == c) (holds c cs) held).0 ∙ eq-eqb c c refl)

first_on : (c : ℕ) (on off : Bool) (xs ys : List ℕ) → holds c xs ≡ false → holds c ys ≡ false → letter_where c on ++ xs ≡ letter_where c off ++ ys → (on ≡ off) × (xs ≡ ys)
first_on c true true xs ys here there e = (refl, (cc))
first_on c true false xs ys here there e = absurd (absent c xs ys there e)
first_on c false true xs ys here there e = absurd (absent c ys xs here (sym e))
first_on c false false xs ys here there e = (refl, e)

same_flags : (cs : List ℕ) (flags others : List Bool) → are_apart cs ≡ true → length flags ≡ length cs → length others ≡ length cs → letters cs flags ≡ letters cs others → flags ≡ others
same_flags [] [] [] apart long also e = refl
same_flags [] (on ∷ flags) others apart long also e = absurd (omega (arith, long))
same_flags [] [] (off ∷ others) apart long also e = absurd (omega (arith, also))
same_flags (c ∷ cs) [] others apart long also e = absurd (omega (arith, long))
same_flags (c ∷ cs) (on ∷ flags) [] apart long also e = absurd (omega (arith, also))
same_flags (c ∷ cs) (on ∷ flags) (off ∷ others) apart long also e =
    let parts = and_parts (not (holds c cs)) (are_apart cs) apart in
    let none = not-true (holds c cs) parts.0 in
    let first = first_on c on off (letters cs flags) (letters cs others) (none_on c cs flags none) (none_on c cs others none) e in
    let rest = same_flags cs flags others parts.1 (omega (arith, long)) (omega (arith, also)) first.1 in
    cc (first.0, rest)

letter_line : (c : ℕ) (on : Bool) (more : List ℕ) → not (c == 10) ≡ true → is_line more ≡ true → is_line (letter_where c on ++ more) ≡ true
letter_line c true more other line = and_from (not (c == 10)) (is_line more) other line
letter_line c false more other line = line

letters_line : (cs : List ℕ) (flags : List Bool) → is_line cs ≡ true → is_line (letters cs flags) ≡ true
letters_line [] flags h = refl
letters_line (c ∷ cs) [] h = refl
letters_line (c ∷ cs) (on ∷ flags) h =
    let parts = and_parts (not (c == 10)) (is_line cs) h in
    letter_line c on (letters cs flags) parts.0 (letters_line cs flags parts.1)

last : (c : ℕ) (on : Bool) → letter_where c on ≡ letter_where c on ++ []
last c true = refl
last c false = refl

-- /COPY

abbrev copied : List ℕ
copied = 68 ∷ 65 ∷ 84 ∷ 83 ∷ 79 ∷ 85 ∷ []

abbrev copy_list : CopyFlags → List Bool
copy_list f = f.data_bytes ∷ f.attributes ∷ f.times ∷ f.security ∷ f.owner ∷ f.auditing ∷ []

copy_is : (f : CopyFlags) → copy_flag_letters f ≡ letters copied (copy_list f)
copy_is f =
    ap (λ (end : List ℕ). letter_where 68 f.data_bytes ++ letter_where 65 f.attributes ++ letter_where 84 f.times ++ letter_where 83 f.security ++ letter_where 79 f.owner ++ end)
    (last 85 f.auditing)
    ∙ simp append_assoc

pub copy_line : (f : CopyFlags) → is_line (copy_flag_letters f) ≡ true
copy_line f = subst (λ cs. is_line cs ≡ true) (sym (copy_is f)) (letters_line copied (copy_list f) refl)

abbrev flag_at : ℕ → List Bool → Bool
flag_at n [] = false
flag_at zero (on ∷ flags) = on
flag_at (suc n) (on ∷ flags) = flag_at n flags

nth : (n : ℕ) (flags others : List Bool) → flags ≡ others → flag_at n flags ≡ flag_at n others
nth n flags others e = ap (λ (bs : List Bool). flag_at n bs) e

pub same_copy : (f g : CopyFlags) → copy_flag_letters f ≡ copy_flag_letters g → f ≡ g
same_copy f g e =
    let all = same_flags copied (copy_list f) (copy_list g) refl refl refl (sym (copy_is f) ∙ e ∙ copy_is g) in
    let flag = λ (n : ℕ). nth n (copy_list f) (copy_list g) all in
    λ i. record { data_bytes = flag 0 i; attributes = flag 1 i; times = flag 2 i; security = flag 3 i; owner = flag 4 i; auditing = flag 5 i }

-- /DCOPY

abbrev directory_list : DirectoryFlags → List Bool
directory_list f = f.attributes ∷ f.times ∷ []

directory_is : (f : DirectoryFlags) → directory_letters f ≡ letters (65 ∷ 84 ∷ []) (directory_list f)
directory_is f = ap (λ (end : List ℕ). letter_where 65 f.attributes ++ end) (last 84 f.times)

pub directory_line : (f : DirectoryFlags) → is_line (directory_letters f) ≡ true
directory_line f = subst (λ cs. is_line cs ≡ true) (sym (directory_is f)) (letters_line (65 ∷ 84 ∷ []) (directory_list f) refl)

pub same_directory : (f g : DirectoryFlags) → directory_letters f ≡ directory_letters g → f ≡ g
same_directory f g e =
    let all = same_flags (65 ∷ 84 ∷ []) (directory_list f) (directory_list g) refl refl refl (sym (directory_is f) ∙ e ∙ directory_is g) in
    let flag = λ (n : ℕ). nth n (directory_list f) (directory_list g) all in
    λ i. record { attributes = flag 0 i; times = flag 1 i }

-- /A+, /A-, /IA and /XA

abbrev known : List ℕ
known = 82 ∷ 65 ∷ 83 ∷ 72 ∷ 67 ∷ 78 ∷ 69 ∷ 84 ∷ 79 ∷ []

abbrev attr_list : Attr → List Bool
attr_list a =
    a.readonly ∷ a.archive ∷ a.system ∷ a.hidden ∷ a.compressed ∷ a.not_indexed ∷ a.encrypted ∷ a.temporary ∷ a.offline ∷ []

attr_is : (a : Attr) → attr_letters a ≡ letters known (attr_list a)
attr_is a =
    ap (λ (end : List ℕ). letter_where 82 a.readonly ++ letter_where 65 a.archive ++ letter_where 83 a.system ++ letter_where 72 a.hidden ++ letter_where 67 a.compressed
    ++ letter_where 78 a.not_indexed ++ letter_where 69 a.encrypted ++ letter_where 84 a.temporary ++ end)
    (last 79 a.offline)
    ∙ simp append_assoc

pub attr_line : (a : Attr) → is_line (attr_letters a) ≡ true
attr_line a = subst (λ cs. is_line cs ≡ true) (sym (attr_is a)) (letters_line known (attr_list a) refl)

pub same_attr : (a b : Attr) → a.sparse ≡ b.sparse → attr_letters a ≡ attr_letters b → a ≡ b
same_attr a b sparse e =
    let all = same_flags known (attr_list a) (attr_list b) refl refl refl (sym (attr_is a) ∙ e ∙ attr_is b) in
    let flag = λ (n : ℕ). nth n (attr_list a) (attr_list b) all in
    λ i. record {
      readonly = flag 0 i;
      archive = flag 1 i;
      system = flag 2 i;
      hidden = flag 3 i;
      compressed = flag 4 i;
      not_indexed = flag 5 i;
      encrypted = flag 6 i;
      temporary = flag 7 i;
      offline = flag 8 i;
      sparse = sparse i;
    }

-- The defaults

pub dat_letters : (d a t s o u : Bool) → (d && a && t && not s && not o && not u) ≡ true → letter_where 68 d ++ letter_where 65 a ++ letter_where 84 t ++ letter_where 83 s ++ letter_where 79 o ++ letter_where 85 u ≡ 68 ∷ 65 ∷ 84 ∷ []
dat_letters true true true false false false h = refl
dat_letters d a t s o u h = absurd (false≢true h)

pub alone_letters : (a t : Bool) → (a && not t) ≡ true → letter_where 65 a ++ letter_where 84 t ≡ 65 ∷ []
alone_letters true false h = refl
alone_letters a t h = absurd (false≢true h)
