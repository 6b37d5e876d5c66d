-- Texts of allowed characters, and how they are read out of their quotes.
use Rattle.std.proofs.Common.{◌≡◌, ℕ, suc, ◌+◌, ◌≤◌, Bool, true, false, not, ◌&&◌, ◌||◌, ◌==◌, ltb, cond, nat_le, List, [], ◌∷◌, ◌++◌, length, Option, Some, None, codes, position, option_map, refl, sym, ap, ◌∙◌, append-nil, if◌then◌else◌, arith}
use Rattle.std.specs.List.{list_all, list_any, position_or_len}
use Rattle.std.specs.Option.{option_or}
use Rattle.std.proofs.lemmas.Bool.{and_parts, and_from, false≢true, not-true, leb-true, ne_eqb, ltb-false}
use Rattle.std.proofs.lemmas.List.Folds.{list_all-append}
use Rattle.rc_wild.specs.declared.fault.PatternErr.{PatternErr}
use Rattle.rc_wild.specs.declared.fault.PatternErr.TheVariants.{Empty, BadChar, NoSeparator}
use Rattle.rc_wild.specs.Pattern.{pattern_fault, is_pattern_char}
use Rattle.rc_wild.specs.PathPattern.{path_pattern_fault, is_path_char, is_separator}
use Rattle.rc_job.specs.Allowed.{is_root_char, is_root, exclude_fault}
use Rattle.rc_job.specs.Values.{in_quotes, holds_space, begins_with, begins_apart, value_text, exclude_text}
use Rattle.rc_job.specs.declared.lists.Exclude.{Exclude}
use Rattle.rc_job.specs.declared.lists.Exclude.TheVariants as exclude
use Rattle.rc_job.proofs.Ends.{is_line}

-- of characters from 32 on, without quotes
abbrev pub is_plain : List ℕ → Bool
is_plain text = list_all is_root_char text

-- Tests of every character

step : (b rest : Bool) (n m : ℕ) → (n ≤ m → rest ≡ true) → suc n ≤ cond (not (not b)) (1 + m) 0 → (b && rest) ≡ true
step true rest n m later h = later (omega (arith, h))
step false rest n m later h = absurd (omega (arith, h))

all_before : (p : ℕ → Bool) (xs : List ℕ) → length xs ≤ position_or_len (λ c. not (p c)) xs → list_all p xs ≡ true
all_before p [] h = refl
all_before p (x ∷ xs) h = step (p x) (list_all p xs) (length xs) (position_or_len (λ c. not (p c)) xs) (all_before p xs) h

none_found : (below : Bool) (i : ℕ) → option_map (λ place. BadChar place) (cond below (Some i) None) ≡ None → below ≡ false
none_found true i e = cc
none_found false i e = refl

all_pass : (p : ℕ → Bool) (xs : List ℕ) → option_map (λ place. BadChar place) (position (λ c. not (p c)) xs) ≡ None → list_all p xs ≡ true
all_pass p xs e =
    let at = position_or_len (λ c. not (p c)) xs in
    all_before p xs (ltb-false at (length xs) (none_found (ltb at (length xs)) at e))

weaker : (p q : ℕ → Bool) → ((c : ℕ) → p c ≡ true → q c ≡ true) → (xs : List ℕ) → list_all p xs ≡ true → list_all q xs ≡ true
weaker p q from [] h = refl
weaker p q from (x ∷ xs) h =
    let parts = and_parts (p x) (list_all p xs) h in
    and_from (q x) (list_all q xs) (from x parts.0) (weaker p q from xs parts.1)

none_of : (x y : Bool) → not (x || y) ≡ true → (x ≡ false) × (not y ≡ true)
none_of true y h = absurd (false≢true h)
none_of false y h = (refl, h)

-- What is allowed is plain

pattern_parts : (c : ℕ) → is_pattern_char c ≡ true → (is_root_char c ≡ true) × (is_separator c ≡ false)
pattern_parts c h =
    let parts = and_parts (nat_le 32 c) (not (list_any (λ bad. c == bad) (codes "\\/:\"<>|"))) h in
    let a = none_of (c == 92) _ parts.1 in
    let b = none_of (c == 47) _ a.1 in
    let d = none_of (c == 58) _ b.1 in
    let e = none_of (c == 34) _ d.1 in
    (and_from (nat_le 32 c) (not (c == 34)) parts.0 (ap not e.0), rw (a.0, b.0) refl)

path_part : (c : ℕ) → is_path_char c ≡ true → is_root_char c ≡ true
path_part c h =
    let parts = and_parts (nat_le 32 c) (not (list_any (λ bad. c == bad) (codes "\"<>|"))) h in
    and_from (nat_le 32 c) (not (c == 34)) parts.0 (ap not (none_of (c == 34) _ parts.1).0)

no_fault : (empty : Bool) (fault : Option PatternErr) → (if empty then Some Empty else fault) ≡ None → fault ≡ None
no_fault true fault e = cc
no_fault false fault e = e

pattern_chars : (text : List ℕ) → pattern_fault text ≡ None → list_all is_pattern_char text ≡ true
unfolding pattern_fault
pattern_chars text e = all_pass is_pattern_char text (no_fault (length text == 0) _ e)

pub pattern_plain : (text : List ℕ) → pattern_fault text ≡ None → is_plain text ≡ true
pattern_plain text e = weaker is_pattern_char is_root_char (λ c h. (pattern_parts c h).0) text (pattern_chars text e)

not_any : (xs : List ℕ) → list_all is_pattern_char xs ≡ true → list_any is_separator xs ≡ false
not_any [] h = refl
not_any (x ∷ xs) h =
    let parts = and_parts (is_pattern_char x) (list_all is_pattern_char xs) h in
    rw ((pattern_parts x parts.0).1) (not_any xs parts.1)

-- a pattern for names has no separator
pub no_separator : (text : List ℕ) → pattern_fault text ≡ None → list_any is_separator text ≡ false
no_separator text e = not_any text (pattern_chars text e)

either_fault : (one other : Option PatternErr) → option_or one other ≡ None → (one ≡ None) × (other ≡ None)
either_fault None other e = (refl, e)
either_fault (Some fault) other e = (cc, cc)

path_plain : (text : List ℕ) → path_pattern_fault text ≡ None → is_plain text ≡ true
unfolding path_pattern_fault
path_plain text e =
    let fault = option_map (λ place. BadChar place) (position (λ c. not (is_path_char c)) text) in
    let parts = either_fault fault (if list_any is_separator text then None else Some NoSeparator) e in
    weaker is_path_char is_root_char path_part text (all_pass is_path_char text parts.0)

holds_one : (b : Bool) → (if b then None else Some NoSeparator) ≡ None → b ≡ true
holds_one true e = refl
holds_one false e = cc

-- one for paths has one
pub separator : (text : List ℕ) → path_pattern_fault text ≡ None → list_any is_separator text ≡ true
unfolding path_pattern_fault
separator text e =
    let fault = option_map (λ place. BadChar place) (position (λ c. not (is_path_char c)) text) in
    let parts = either_fault fault (if list_any is_separator text then None else Some NoSeparator) e in
    holds_one (list_any is_separator text) parts.1

pub exclude_plain : (value : Exclude) → exclude_fault value ≡ None → is_plain (exclude_text value) ≡ true
exclude_plain (exclude.Name text) e = pattern_plain text e
exclude_plain (exclude.Path text) e = path_plain text e

-- a plain text has no line end
line_char : (c : ℕ) → is_root_char c ≡ true → not (c == 10) ≡ true
line_char c h =
    let above : 32 ≤ c = leb-true 32 c (and_parts (nat_le 32 c) (not (c == 34)) h).0 in
    ap not (ne_eqb c 10 (λ e. omega (arith, above, e)))

pub plain_line : (text : List ℕ) → is_plain text ≡ true → is_line text ≡ true
plain_line text h = weaker is_root_char (λ c. not (c == 10)) line_char text h

-- Quotes

pub unquoted : List ℕ → List ℕ
unquoted [] = []
unquoted (c ∷ cs) = if c == 34 then unquoted cs else c ∷ unquoted cs

unquoted_plain : (text more : List ℕ) → is_plain text ≡ true → unquoted (text ++ more) ≡ text ++ unquoted more
unfolding unquoted
unquoted_plain [] more h = refl
unquoted_plain (c ∷ cs) more h =
    let parts = and_parts (is_root_char c) (is_plain cs) h in
    let other = not-true (c == 34) (and_parts (nat_le 32 c) (not (c == 34)) parts.0).1 in
    rw other (ap (λ (xs : List ℕ). c ∷ xs) (unquoted_plain cs more parts.1))

-- in quotes or not
pub read_back : (quotes : Bool) (text : List ℕ) → is_plain text ≡ true → unquoted (if quotes then in_quotes text else text) ≡ text
unfolding unquoted
read_back true text h = unquoted_plain text (34 ∷ []) h ∙ append-nil text
read_back false text h = ap unquoted (sym (append-nil text)) ∙ unquoted_plain text [] h ∙ append-nil text

pub quoted_line : (quotes : Bool) (text : List ℕ) → is_line text ≡ true → is_line (if quotes then in_quotes text else text) ≡ true
quoted_line true text h = list_all-append (λ c. not (c == 10)) text (34 ∷ []) ∙ and_from (is_line text) true h refl
quoted_line false text h = h

-- a value of a list does not begin as a switch
not_apart : (text : List ℕ) → begins_apart text ≡ false → begins_with 47 text ≡ false
not_apart [] h = refl
not_apart (c ∷ cs) h = first_of (c == 47) _ h
  where
    first_of : (x y : Bool) → (x || y) ≡ false → x ≡ false
    first_of true y h = h
    first_of false y h = refl

value_begins : (space apart : Bool) (text : List ℕ) → (apart ≡ false → begins_with 47 text ≡ false) → begins_with 47 (if space || apart then in_quotes text else text) ≡ false
value_begins true apart text plain = refl
value_begins false true text plain = refl
value_begins false false text plain = plain refl

pub value_is_none : (text : List ℕ) → begins_with 47 (value_text text) ≡ false
value_is_none text = value_begins (holds_space text) (begins_apart text) text (not_apart text)

pub root_plain : (root : List ℕ) → is_root root ≡ true → is_plain root ≡ true
root_plain root h = (and_parts (not (length root == 0)) (is_plain root) h).1
