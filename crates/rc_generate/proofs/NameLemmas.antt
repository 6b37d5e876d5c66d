-- The names of directories and files: they are ASCII, and no two of them fold to one.
use Rattle.std.proofs.Common.{◌≡◌, ◌≢◌, ℕ, zero, suc, ◌+◌, ◌<◌, ◌/◌, ◌%◌, ◌==◌, Bool, true, false, cond, List, [], ◌∷◌, ◌++◌, String, Result, Ok, Err, append_assoc, refl, sym, ap, ◌∙◌, arith}
use Rattle.std.specs.Prelude.{IfOk, chars, codes, decimal, nat_lt, string_bytes}
use Rattle.std.specs.Str.{IsAscii}
use Rattle.std.specs.Char.{to_ascii_lowercase}
use Rattle.std.proofs.lemmas.Bool.{eqb-true, lt-ltb}
use Rattle.std.proofs.lemmas.Fmt.{decimal_digit}
use Rattle.std.proofs.lemmas.Str.{chars-IsAscii}
use Rattle.unicode.specs.CaseFolding.{simple_fold}
use Rattle.unicode.proofs.CaseFoldingLemmas.{simple_fold-ascii}
use Rattle.rc_tree.specs.Name.{folded}
use Rattle.rc_generate.specs.Generated.{dir_name, dir_key, file_end, file_key, file_name, two_digits}

-- Characters

digit-tens : (n : ℕ) → n < 100 → n / 10 < 10
digit-tens n small = omega (arith, small)

digit-ones : (n : ℕ) → n % 10 < 10
digit-ones n = omega arith

-- each character is ASCII, one by one
abbrev Small : List ℕ → Type 0
Small [] = Unit {0}
Small (c ∷ cs) = (c < 128) × Small cs

small-ascii : (cs : List ℕ) → Small cs → IsAscii cs
small-ascii [] small i = omega arith
small-ascii (c ∷ cs) small zero = small.0
small-ascii (c ∷ cs) small (suc i) = small-ascii cs small.1 i

-- a name for a directory by whether it is the cache
abbrev name_by : Bool → ℕ → List ℕ
name_by cache i = cond cache (codes "cache") (codes "d" ++ two_digits i)

abbrev end_by : Bool → List ℕ
end_by temporary = cond temporary (codes ".tmp") (codes ".txt")

abbrev file_by : Bool → ℕ → List ℕ
file_by temporary j = codes "f" ++ two_digits j ++ end_by temporary

small-dir : (cache : Bool) (i : ℕ) → i < 100 → Small (name_by cache i)
small-dir true i small = (omega arith, (omega arith, (omega arith, (omega arith, (omega arith, tt)))))
small-dir false i small = (omega arith, (omega (arith, digit-tens i small), (omega (arith, digit-ones i), tt)))

small-end : (temporary : Bool) → Small (end_by temporary)
small-end true = (omega arith, (omega arith, (omega arith, (omega arith, tt))))
small-end false = (omega arith, (omega arith, (omega arith, (omega arith, tt))))

small-file : (temporary : Bool) (j : ℕ) → j < 100 → Small (file_by temporary j)
small-file temporary j small = (omega arith, (omega (arith, digit-tens j small), (omega (arith, digit-ones j), small-end temporary)))

pub dir-chars : (i : ℕ) → i < 100 → chars (dir_name i) ≡ dir_name i
unfolding dir_name
dir-chars i small = chars-IsAscii (name_by (i == 50) i) (small-ascii (name_by (i == 50) i) (small-dir (i == 50) i small))

pub file-chars : (j : ℕ) → j < 100 → chars (file_name j) ≡ file_name j
unfolding file_name
file-chars j small = chars-IsAscii (file_by (j % 10 == 9) j) (small-ascii (file_by (j % 10 == 9) j) (small-file (j % 10 == 9) j small))

-- Folding

fold-digit : (d : ℕ) → d < 10 → simple_fold (48 + d) ≡ 48 + d
fold-digit d small =
    simple_fold-ascii (48 + d) (omega (arith, small))
    ∙ ap (λ b. cond b (48 + d) (cond (nat_lt (48 + d) 91) (48 + d + 32) (48 + d))) (lt-ltb (48 + d) 65 (omega (arith, small)))

same-cons : (c d : ℕ) (cs ds : List ℕ) → c ≡ d → cs ≡ ds → c ∷ cs ≡ d ∷ ds
same-cons c d cs ds one rest = ap (λ x. x ∷ cs) one ∙ ap (λ xs. d ∷ xs) rest

fold-digits : (n : ℕ) (rest : List ℕ) → n < 100 → folded rest ≡ rest → folded (two_digits n ++ rest) ≡ two_digits n ++ rest
fold-digits n rest small same = same-cons _ _ _ _ (fold-digit (n / 10) (digit-tens n small)) (same-cons _ _ _ _ (fold-digit (n % 10) (digit-ones n)) same)

fold-letter : (c : ℕ) → c < 128 → to_ascii_lowercase c ≡ c → simple_fold c ≡ c
fold-letter c small lower = simple_fold-ascii c small ∙ lower

fold-dir : (cache : Bool) (i : ℕ) → i < 100 → folded (name_by cache i) ≡ name_by cache i
fold-dir true i small =
    same-cons _ _ _ _ (fold-letter 99 (omega arith) refl) (same-cons _ _ _ _ (fold-letter 97 (omega arith) refl) (same-cons _ _ _ _ (fold-letter 99 (omega arith) refl)
    (same-cons _ _ _ _ (fold-letter 104 (omega arith) refl) (same-cons _ _ _ _ (fold-letter 101 (omega arith) refl) refl))))
fold-dir false i small = same-cons _ _ _ _ (fold-letter 100 (omega arith) refl) (fold-digits i [] small refl)

fold-end : (temporary : Bool) → folded (end_by temporary) ≡ end_by temporary
fold-end true = same-cons _ _ _ _ (fold-letter 46 (omega arith) refl) (same-cons _ _ _ _ (fold-letter 116 (omega arith) refl) (same-cons _ _ _ _ (fold-letter 109 (omega arith) refl) (same-cons _ _ _ _ (fold-letter 112 (omega arith) refl) refl)))
fold-end false = same-cons _ _ _ _ (fold-letter 46 (omega arith) refl) (same-cons _ _ _ _ (fold-letter 116 (omega arith) refl) (same-cons _ _ _ _ (fold-letter 120 (omega arith) refl) (same-cons _ _ _ _ (fold-letter 116 (omega arith) refl) refl)))

pub dir-folded : (i : ℕ) → i < 100 → folded (dir_name i) ≡ dir_name i
unfolding dir_name
dir-folded i small = fold-dir (i == 50) i small

pub file-folded : (j : ℕ) → j < 100 → folded (file_name j) ≡ file_name j
unfolding file_name
file-folded j small = same-cons _ _ _ _ (fold-letter 102 (omega arith) refl) (fold-digits j (end_by (j % 10 == 9)) small (fold-end (j % 10 == 9)))

-- Two names are one

same-number : (a b : ℕ) → a < 100 → b < 100 → 48 + a / 10 ≡ 48 + b / 10 → 48 + a % 10 ≡ 48 + b % 10 → a ≡ b
same-number a b small less tens ones = omega (arith, tens, ones)

same-dir : (s t : Bool) (a b : ℕ) → a < 100 → b < 100 → (s ≡ true → a ≡ 50) → (t ≡ true → b ≡ 50) → name_by s a ≡ name_by t b → a ≡ b
same-dir true true a b small less one other e = one refl ∙ sym (other refl)
same-dir true false a b small less one other e = cc
same-dir false true a b small less one other e = cc
same-dir false false a b small less one other e =
    let tens : 48 + a / 10 ≡ 48 + b / 10 = cc in
    let ones : 48 + a % 10 ≡ 48 + b % 10 = cc in
    same-number a b small less tens ones

pub dir-same : (a b : ℕ) → a < 100 → b < 100 → dir_name a ≡ dir_name b → a ≡ b
unfolding dir_name
dir-same a b small less e = same-dir (a == 50) (b == 50) a b small less (eqb-true a 50) (eqb-true b 50) e

same-file : (one other : List ℕ) (a b : ℕ) → a < 100 → b < 100 → 102 ∷ (48 + a / 10) ∷ (48 + a % 10) ∷ one ≡ 102 ∷ (48 + b / 10) ∷ (48 + b % 10) ∷ other → a ≡ b
same-file one other a b small less e =
    let tens : 48 + a / 10 ≡ 48 + b / 10 = cc in
    let ones : 48 + a % 10 ≡ 48 + b % 10 = cc in
    same-number a b small less tens ones

pub file-same : (a b : ℕ) → a < 100 → b < 100 → file_name a ≡ file_name b → a ≡ b
unfolding file_name
file-same a b small less e = same-file (file_end a) (file_end b) a b small less e

-- Keys

pub dir-key-same : (a b : ℕ) → a < 100 → b < 100 → dir_key a ≡ dir_key b → a ≡ b
dir-key-same a b small less e =
    let names : folded (dir_name a) ≡ folded (dir_name b) = cc in
    dir-same a b small less (sym (dir-folded a small) ∙ names ∙ dir-folded b less)

pub file-key-same : (a b c d : ℕ) → a < 100 → b < 100 → c < 100 → d < 100 → file_key a b ≡ file_key c d → (a ≡ c) × (b ≡ d)
file-key-same a b c d small_a small_b small_c small_d e =
    let dirs : folded (dir_name a) ≡ folded (dir_name c) = cc in
    let files : folded (file_name b) ≡ folded (file_name d) = cc in
    (dir-same a c small_a small_c (sym (dir-folded a small_a) ∙ dirs ∙ dir-folded c small_c), file-same b d small_b small_d (sym (file-folded b small_b) ∙ files ∙ file-folded d small_d))

pub dir-not-file : (a b c : ℕ) → dir_key a ≢ file_key b c
dir-not-file a b c e = cc

-- a path that was joined of two parts, by what these are
pub named : {E : Type 0} (dir there : List (List ℕ)) (text name : List ℕ) (r : Result (List (List ℕ)) E) → there ≡ dir → text ≡ name → IfOk r (λ path. path ≡ there ++ text ∷ []) → IfOk r (λ path. path ≡ dir ++ name ∷ [])
named dir there text name (Ok path) same_dir same_name is = is ∙ ap (λ (front : List (List ℕ)). front ++ text ∷ []) same_dir ∙ ap (λ (last : List ℕ). dir ++ last ∷ []) same_name
named dir there text name (Err e) same_dir same_name is = tt

-- a text with the two digits of a number, by what these print as
pub in_decimal : {E Z : Type 0} (r : Result (String Z) E) (start end : List ℕ) (n : ℕ) → n < 100 → IfOk r (λ text. string_bytes text ≡ start ++ (decimal (n / 10) ++ (decimal (n % 10) ++ end))) → IfOk r (λ text. string_bytes text ≡ start ++ two_digits n ++ end)
in_decimal (Ok text) start end n small is =
    is ∙ ap (λ (tens : List ℕ). start ++ (tens ++ (decimal (n % 10) ++ end))) (decimal_digit (n / 10) (digit-tens n small)) ∙ ap (λ (ones : List ℕ). start ++ ((48 + n / 10) ∷ (ones ++ end))) (decimal_digit (n % 10) (digit-ones n))
    ∙ sym (append_assoc start (two_digits n) end)
in_decimal (Err e) start end n small is = tt
