-- What one character of a word does.
use Rattle.std.proofs.Common.{◌≡◌, ℕ, List, [], ◌∷◌, ◌++◌, ◌+◌, ◌==◌, ◌&&◌, Bool, true, false, Ok, Err, refl, sym, ap, ◌∙◌, append_assoc}
use Rattle.std.specs.Prelude.{◌||◌, if◌then◌else◌}
use Rattle.std.proofs.lemmas.List.{append-nil}
use Rattle.rc_jobtext.specs.declared.word.Step.TheVariants as step
use Rattle.rc_jobtext.specs.Lexing.{Between, Inside, Outside, Reading, ahead, ended, is_blank, is_dropped, with_char}
use Rattle.rc_jobtext.specs.Starts.{prefixed, step_at, whole, within}

-- A character of the word

prefixed_char : (xs : List ℕ) (c : ℕ) (r : Reading) → prefixed xs (with_char c r) ≡ prefixed (xs ++ c ∷ []) r
prefixed_char xs c (Ok a) =
    ap (λ (cs : List ℕ). Ok (record { word = cs; later = a.later })) (sym (append_assoc xs (c ∷ []) a.word))
prefixed_char xs c (Err place) = refl

outside_char : (a b d q : Bool) (v w x y z : Reading) → (if (a || b) || d then step.End else if q then step.Quote else step.Char) ≡ step.Char → (if a then v else if b then w else if d then x else if q then y else z) ≡ z
outside_char true b d q v w x y z h = cc
outside_char false true d q v w x y z h = cc
outside_char false false true q v w x y z h = cc
outside_char false false false true v w x y z h = cc
outside_char false false false false v w x y z h = refl

inside_char : (a q : Bool) (v y z : Reading) → (if a then step.Open else if q then step.Quote else step.Char) ≡ step.Char → (if a then v else if q then y else z) ≡ z
inside_char true q v y z h = cc
inside_char false true v y z h = cc
inside_char false false v y z h = refl

pub char_step : (inside : Bool) (place c : ℕ) (cs xs : List ℕ) → step_at inside c cs ≡ step.Char → prefixed xs (ahead place (within inside) (c ∷ cs)) ≡ prefixed (xs ++ c ∷ []) (ahead place (within inside) cs)
char_step true place c cs xs h =
    ap (λ (r : Reading). prefixed xs r) (inside_char (c == 10) (c == 34) (Err place) (ahead place Outside cs) (with_char c (ahead place Inside cs)) h)
    ∙ prefixed_char xs c (ahead place Inside cs)
char_step false place c cs xs h =
    ap (λ (r : Reading). prefixed xs r) (outside_char (c == 10) (is_blank c) (is_dropped c cs) (c == 34) (ended (ahead (place + 1) Between cs)) (ended (ahead place Between cs)) (ahead place Outside cs) (ahead place Inside cs) (with_char c (ahead place Outside cs)) h)
    ∙ prefixed_char xs c (ahead place Outside cs)

-- The end of the word

prefixed_ended : (xs : List ℕ) (r : Reading) → prefixed xs (ended r) ≡ whole xs r
prefixed_ended xs (Ok a) = ap (λ (cs : List ℕ). Ok (record { word = cs; later = a.later })) (append-nil xs)
prefixed_ended xs (Err place) = refl

line_ended : (is : Bool) (xs : List ℕ) (r u v : Reading) → is ≡ true → prefixed xs (if is then ended r else u) ≡ whole xs (if is then r else v)
line_ended true xs r u v h = prefixed_ended xs r
line_ended false xs r u v h = cc

and_right : (a b : Bool) → (a && b) ≡ true → b ≡ true
and_right true b h = h
and_right false b h = cc

dropped : (place c : ℕ) (cs xs : List ℕ) → is_dropped c cs ≡ true → prefixed xs (ahead place Outside cs) ≡ whole xs (ahead place Between cs)
dropped place c [] xs h = let no : false ≡ true = and_right (c == 13) false h in cc
dropped place c (d ∷ ds) xs h =
    line_ended (d == 10) xs (ahead (place + 1) Between ds) _ _ (and_right (c == 13) (d == 10) h)

outside_end : (a b d q : Bool) (xs : List ℕ) (r s o u v : Reading) → (d ≡ true → prefixed xs o ≡ whole xs s) → (if (a || b) || d then step.End else if q then step.Quote else step.Char) ≡ step.End → prefixed xs (if a then ended r else if b then ended s else if d then o else u) ≡ whole xs (if a then r else if b || d then s else v)
outside_end true b d q xs r s o u v on h = prefixed_ended xs r
outside_end false true d q xs r s o u v on h = prefixed_ended xs s
outside_end false false true q xs r s o u v on h = on refl
outside_end false false false true xs r s o u v on h = cc
outside_end false false false false xs r s o u v on h = cc

no_end : (a q : Bool) → (if a then step.Open else if q then step.Quote else step.Char) ≡ step.End → false ≡ true
no_end true q h = cc
no_end false true h = cc
no_end false false h = cc

pub end_step : (inside : Bool) (place c : ℕ) (cs xs : List ℕ) → step_at inside c cs ≡ step.End → prefixed xs (ahead place (within inside) (c ∷ cs)) ≡ whole xs (ahead place Between (c ∷ cs))
end_step true place c cs xs h = let no : false ≡ true = no_end (c == 10) (c == 34) h in cc
end_step false place c cs xs h =
    outside_end (c == 10) (is_blank c) (is_dropped c cs) (c == 34) xs (ahead (place + 1) Between cs) (ahead place Between cs) (ahead place Outside cs) _ _ (dropped place c cs xs) h
