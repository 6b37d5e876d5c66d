-- Lines that are read as one word each.
use Rattle.std.proofs.Common.{◌≡◌, ℕ, ◌+◌, ◌≤◌, Bool, true, false, not, ◌&&◌, ◌||◌, ◌==◌, nat_le, List, [], ◌∷◌, ◌++◌, length, map, Result, Ok, Err, codes, refl, sym, ap, subst, ◌∙◌, append_assoc, append-nil, if◌then◌else◌, arith}
use Rattle.std.specs.List.{list_all, list_any}
use Rattle.std.proofs.lemmas.Bool.{and_parts, and_from, not-true, leb-true, ne_eqb, or_parts, true≢false}
use Rattle.std.proofs.lemmas.List.Folds.{list_all-append}
use Rattle.rc_job.specs.Allowed.{is_root_char}
use Rattle.rc_job.specs.Settings.{text_of}
use Rattle.rc_job.specs.Values.{Lines, in_quotes, holds_space, begins_apart, begins_with as begins, value_text, quoted_root}
use Rattle.rc_job.proofs.Plain.{is_plain}
use Rattle.rc_words.specs.Spelling.{begins_with, is_switch}
use Rattle.rc_words.specs.declared.setting.Word.{Word}
use Rattle.rc_jobtext.specs.Lexing.{Spot, Between, Outside, Inside, Reading, ahead, begins_comment, begun, ended, with_char}
use Rattle.rc_jobtext.specs.Starts.{prefixed}

-- the words of what is ahead of a place between two words
abbrev pub Gives : List ℕ → List Word → Type 0
Gives text words = (place : ℕ) → ahead place Between text ≡ Ok (record { word = []; later = words })

-- Characters

-- a plain one, and no space
abbrev pub is_solid : ℕ → Bool
is_solid c = is_root_char c && not (c == 32)

in_word : (c : ℕ) → is_root_char c ≡ true → ((c == 10) ≡ false) × ((c == 9) ≡ false) × ((c == 13) ≡ false) × ((c == 34) ≡ false)
in_word c h =
    let parts = and_parts (nat_le 32 c) (not (c == 34)) h in
    let above : 32 ≤ c = leb-true 32 c parts.0 in (
      ne_eqb c 10 (λ e. omega (arith, above, e)),
      ne_eqb c 9 (λ e. omega (arith, above, e)),
      ne_eqb c 13 (λ e. omega (arith, above, e)),
      not-true (c == 34) parts.1,
    )

char_more : (c : ℕ) (cs : List ℕ) (r : Reading) → with_char c (prefixed cs r) ≡ prefixed (c ∷ cs) r
char_more c cs (Ok a) = refl
char_more c cs (Err place) = refl

no_chars : (r : Reading) → r ≡ prefixed [] r
no_chars (Ok a) = refl
no_chars (Err place) = refl

outside : (cs rest : List ℕ) (place : ℕ) → list_all is_solid cs ≡ true → ahead place Outside (cs ++ rest) ≡ prefixed cs (ahead place Outside rest)
outside [] rest place h = no_chars (ahead place Outside rest)
outside (c ∷ cs) rest place h =
    let parts = and_parts (is_solid c) (list_all is_solid cs) h in
    let solid = and_parts (is_root_char c) (not (c == 32)) parts.0 in
    let is = in_word c solid.0 in
    rw (is.0, not-true (c == 32) solid.1, is.1, is.2, is.3) (ap (λ (r : Reading). with_char c r) (outside cs rest place parts.1) ∙ char_more c cs (ahead place Outside rest))

inside : (cs rest : List ℕ) (place : ℕ) → is_plain cs ≡ true → ahead place Inside (cs ++ rest) ≡ prefixed cs (ahead place Inside rest)
inside [] rest place h = no_chars (ahead place Inside rest)
inside (c ∷ cs) rest place h =
    let parts = and_parts (is_root_char c) (is_plain cs) h in
    let is = in_word c parts.0 in
    rw (is.0, is.3) (ap (λ (r : Reading). with_char c r) (inside cs rest place parts.1) ∙ char_more c cs (ahead place Inside rest))

pub solid_text : (text : List ℕ) → is_plain text ≡ true → holds_space text ≡ false → list_all is_solid text ≡ true
solid_text [] plain none = refl
solid_text (c ∷ cs) plain none =
    let parts = and_parts (is_root_char c) (is_plain cs) plain in
    let no = or_parts (c == 32) (holds_space cs) none in
    and_from (is_solid c) (list_all is_solid cs) (and_from (is_root_char c) (not (c == 32)) parts.0 (ap not no.0)) (solid_text cs parts.1 no.1)

-- One line

begins_more : (cs rest : List ℕ) → begins_with 58 (cs ++ 10 ∷ rest) ≡ begins_with 58 cs
begins_more [] rest = refl
begins_more (c ∷ cs) rest = refl

same_begins : (c : ℕ) (cs : List ℕ) → begins_with c cs ≡ begins c cs
same_begins c [] = refl
same_begins c (d ∷ ds) = refl

abbrev pub bare : List ℕ → Word
bare text = record { text = text; quoted = false }

-- a word that begins with `/`
abbrev pub slash : List ℕ → Word
slash cs = bare (47 ∷ cs)

solid_line : (c : ℕ) (cs rest : List ℕ) (words : List Word) → list_all is_solid (c ∷ cs) ≡ true → begins_comment c cs ≡ false → Gives rest words → Gives ((c ∷ cs) ++ 10 ∷ rest) (bare (c ∷ cs) ∷ words)
solid_line c cs rest words h none more place =
    let parts = and_parts (is_solid c) (list_all is_solid cs) h in
    let solid = and_parts (is_root_char c) (not (c == 32)) parts.0 in
    let is = in_word c solid.0 in
    let comment : ((c == 58) && begins_with 58 (cs ++ 10 ∷ rest)) ≡ false = ap (λ b. (c == 58) && b) (begins_more cs rest) ∙ none in
    rw (is.0, not-true (c == 32) solid.1, is.1, is.2, is.3, comment)
    (ap (λ (r : Reading). begun false (with_char c r)) (outside cs (10 ∷ rest) place parts.1 ∙ ap (λ (r : Reading). prefixed cs (ended r)) (more (place + 1)))
    ∙ ap (λ (text : List ℕ). Ok (record { word = []; later = bare (c ∷ text) ∷ words })) (append-nil cs))

pub switch_line : (cs rest : List ℕ) (words : List Word) → list_all is_solid cs ≡ true → Gives rest words → Gives ((47 ∷ cs) ++ 10 ∷ rest) (slash cs ∷ words)
switch_line cs rest words h more = solid_line 47 cs rest words h refl more

quoted_line : (value rest : List ℕ) (words : List Word) → is_plain value ≡ true → Gives rest words → Gives (in_quotes value ++ 10 ∷ rest) (record { text = value; quoted = true } ∷ words)
quoted_line value rest words h more place =
    ap (λ (text : List ℕ). begun true (ahead place Inside text)) (append_assoc value (34 ∷ []) (10 ∷ rest))
    ∙ ap (λ (r : Reading). begun true r) (inside value (34 ∷ 10 ∷ rest) place h)
    ∙ ap (λ (r : Reading). begun true (prefixed value (ended r))) (more (place + 1))
    ∙ ap (λ (text : List ℕ). Ok (record { word = []; later = record { text = text; quoted = true } ∷ words })) (append-nil value)

-- a value in quotes behind a switch's colon
colon_line : (cs value rest : List ℕ) (words : List Word) → list_all is_solid cs ≡ true → is_plain value ≡ true → Gives rest words → Gives (((47 ∷ cs) ++ in_quotes value) ++ 10 ∷ rest) (slash (cs ++ value) ∷ words)
colon_line cs value rest words solid plain more place =
    ap (λ (text : List ℕ). begun false (with_char 47 (ahead place Outside text))) (append_assoc cs (in_quotes value) (10 ∷ rest))
    ∙ ap (λ (r : Reading). begun false (with_char 47 r)) (outside cs (in_quotes value ++ 10 ∷ rest) place solid)
    ∙ ap (λ (text : List ℕ). begun false (with_char 47 (prefixed cs (ahead place Inside text)))) (append_assoc value (34 ∷ []) (10 ∷ rest))
    ∙ ap (λ (r : Reading). begun false (with_char 47 (prefixed cs r))) (inside value (34 ∷ 10 ∷ rest) place plain)
    ∙ ap (λ (r : Reading). begun false (with_char 47 (prefixed cs (prefixed value (ended r))))) (more (place + 1))
    ∙ ap (λ (text : List ℕ). Ok (record { word = []; later = slash (cs ++ text) ∷ words })) (append-nil value)

pub root_line : (cs value rest : List ℕ) (words : List Word) → list_all is_solid cs ≡ true → is_plain value ≡ true → Gives rest words → Gives (((47 ∷ cs) ++ quoted_root value) ++ 10 ∷ rest) (slash (cs ++ value) ∷ words)
root_line cs value rest words solid plain more = by_space (holds_space value) refl
  where
    by_space : (space : Bool) → holds_space value ≡ space → Gives (((47 ∷ cs) ++ (if space then in_quotes value else value)) ++ 10 ∷ rest) (slash (cs ++ value) ∷ words)
    by_space true e = colon_line cs value rest words solid plain more
    by_space false e =
        switch_line (cs ++ value) rest words (list_all-append is_solid cs value ∙ and_from (list_all is_solid cs) (list_all is_solid value) solid (solid_text value plain e)) more

-- a value of a list: quoted where it would be read otherwise
abbrev pub value_word : List ℕ → Word
value_word value = record { text = value; quoted = holds_space value || begins_apart value }

pub value_line : (value rest : List ℕ) (words : List Word) → is_plain value ≡ true → (length value == 0) ≡ false → Gives rest words → Gives (value_text value ++ 10 ∷ rest) (value_word value ∷ words)
value_line value rest words plain some more = by_quotes (holds_space value || begins_apart value) refl
  where
    bare_line : (text : List ℕ) → is_plain text ≡ true → (length text == 0) ≡ false → holds_space text ≡ false → begins_apart text ≡ false → Gives (text ++ 10 ∷ rest) (bare text ∷ words)
    bare_line [] plain some space apart = absurd (true≢false some)
    bare_line (c ∷ cs) plain some space apart =
        let none : begins_comment c cs ≡ false = ap (λ b. (c == 58) && b) (same_begins 58 cs) ∙ (or_parts (c == 47) ((c == 58) && begins 58 cs) apart).1 in
        solid_line c cs rest words (solid_text (c ∷ cs) plain space) none more

    by_quotes : (quotes : Bool) → (holds_space value || begins_apart value) ≡ quotes → Gives ((if quotes then in_quotes value else value) ++ 10 ∷ rest) (record { text = value; quoted = quotes } ∷ words)
    by_quotes true e = quoted_line value rest words plain more
    by_quotes false e =
        let none = or_parts (holds_space value) (begins_apart value) e in
        bare_line value plain some none.0 none.1

no_switch : (value : List ℕ) (quotes : Bool) → (holds_space value || begins_apart value) ≡ quotes → (not quotes && begins_with 47 value) ≡ false
no_switch value true e = refl
no_switch [] false e = refl
no_switch (c ∷ cs) false e =
    let apart = (or_parts (holds_space (c ∷ cs)) (begins_apart (c ∷ cs)) e).1 in
    (or_parts (c == 47) ((c == 58) && begins 58 cs) apart).0

-- such a value is no switch
pub is_value : (value : List ℕ) → is_switch (value_word value) ≡ false
is_value value = no_switch value (holds_space value || begins_apart value) refl

-- Lines, whatever is behind them

abbrev pub LineGives : List ℕ → Word → Type 0
LineGives line word = (rest : List ℕ) (more : List Word) → Gives rest more → Gives (line ++ 10 ∷ rest) (word ∷ more)

abbrev pub LinesGive : Lines → List Word → Type 0
LinesGive lines words = (rest : List ℕ) (more : List Word) → Gives rest more → Gives (text_of lines ++ rest) (words ++ more)

pub no_lines : LinesGive [] []
no_lines rest more gives = gives

pub lines_more : (line : List ℕ) (lines : Lines) (word : Word) (words : List Word) → LineGives line word → LinesGive lines words → LinesGive (line ∷ lines) (word ∷ words)
lines_more line lines word words first later rest more gives place =
    ap (λ (text : List ℕ). ahead place Between text) (append_assoc (line ++ 10 ∷ []) (text_of lines) rest ∙ append_assoc line (10 ∷ []) (text_of lines ++ rest))
    ∙ first (text_of lines ++ rest) (words ++ more) (later rest more gives) place

-- values of which each has these properties
module _ {A : Type 0} (text : A → List ℕ) where
  abbrev pub AreTexts : List A → Type 0
  AreTexts [] = Unit {0}
  AreTexts (v ∷ vs) = (is_plain (text v) ≡ true) × ((length (text v) == 0) ≡ false) × AreTexts vs

  pub values_give : (values : List A) → AreTexts values → LinesGive (map (λ v. value_text (text v)) values) (map (λ v. value_word (text v)) values)
  values_give [] are = no_lines
  values_give (v ∷ vs) are =
      lines_more (value_text (text v)) (map (λ v. value_text (text v)) vs) (value_word (text v)) (map (λ v. value_word (text v)) vs)
      (λ rest more gives. value_line (text v) rest more are.0 are.1 gives)
      (values_give vs are.2)
