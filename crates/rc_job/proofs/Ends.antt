-- Lines that are joined, each with its end, are known by what they are joined to.
use Rattle.std.proofs.Common.{◌≡◌, ℕ, Bool, true, not, ◌==◌, List, [], ◌∷◌, ◌++◌, refl, sym, ap, ◌∙◌, subst, append_assoc}
use Rattle.std.specs.List.{list_all, flat_map}
use Rattle.std.proofs.lemmas.Bool.{and_parts, false≢true}
use Rattle.std.proofs.lemmas.Grind.{flat_map-append}
use Rattle.rc_job.specs.Settings.{Setting, text_of, written}
use Rattle.rc_job.specs.Values.{Lines}

-- holds no line end
abbrev pub is_line : List ℕ → Bool
is_line line = list_all (λ c. not (c == 10)) line

no_end : (c : ℕ) (cs : List ℕ) → 10 ≡ c → is_line (c ∷ cs) ≡ true → ⊥
no_end c cs is h =
    false≢true (subst (λ d. not (d == 10) ≡ true) (sym is) (and_parts (not (c == 10)) (is_line cs) h).0)

-- the first line ends where the first line end stands
cut : (a b x y : List ℕ) → is_line a ≡ true → is_line b ≡ true → a ++ 10 ∷ x ≡ b ++ 10 ∷ y → (a ≡ b) × (x ≡ y)
cut [] [] x y first second e = (refl, (cc))
cut [] (d ∷ b) x y first second e = absurd (no_end d b (cc) second)
cut (c ∷ a) [] x y first second e = absurd (no_end c a (cc) first)
cut (c ∷ a) (d ∷ b) x y first second e =
    let same : c ≡ d = cc in
    let later : a ++ 10 ∷ x ≡ b ++ 10 ∷ y = cc in
    let rest = cut a b x y (and_parts (not (c == 10)) (is_line a) first).1 (and_parts (not (d == 10)) (is_line b) second).1 later in
    (cc, rest.1)

some_text : (line more : List ℕ) → [] ≡ (line ++ 10 ∷ []) ++ more → ⊥
some_text [] more e = cc
some_text (c ∷ cs) more e = cc

pub same_lines : (lines others : Lines) → list_all is_line lines ≡ true → list_all is_line others ≡ true → text_of lines ≡ text_of others → lines ≡ others
same_lines [] [] first second e = refl
same_lines [] (m ∷ ms) first second e = absurd (some_text m (text_of ms) e)
same_lines (l ∷ ls) [] first second e = absurd (some_text l (text_of ls) (sym e))
same_lines (l ∷ ls) (m ∷ ms) first second e =
    let mine = and_parts (is_line l) (list_all is_line ls) first in
    let yours = and_parts (is_line m) (list_all is_line ms) second in
    let both = cut l m (text_of ls) (text_of ms) mine.0 yours.0 (sym (append_assoc l (10 ∷ []) (text_of ls)) ∙ e ∙ append_assoc m (10 ∷ []) (text_of ms)) in
    let rest = same_lines ls ms mine.1 yours.1 both.1 in
    cc (both.0, rest)

-- the lines of settings
abbrev pub all_lines : List Setting → Lines
all_lines settings = flat_map (λ s. s.lines) settings

pub written_is : (settings : List Setting) → written settings ≡ text_of (all_lines settings)
written_is [] = refl
written_is (s ∷ rest) =
    ap (λ (cs : List ℕ). text_of s.lines ++ cs) (written_is rest)
    ∙ sym (flat_map-append (λ (line : List ℕ). line ++ 10 ∷ []) s.lines (all_lines rest))
