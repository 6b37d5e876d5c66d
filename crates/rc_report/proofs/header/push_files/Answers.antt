use Rattle.std.proofs.Common.{◌≡◌, List, ℕ, ◌-◌, ◌∷◌, ◌++◌, length, take, drop, drop-cons, length-drop, chars, string_bytes, ◌∙◌, sym, ap, arith, append_assoc}
use Rattle.std.proofs.Math.Seq.{take-length}
use Rattle.std.proofs.lemmas.Result.{on_ok_weaker}
use Rattle.std.specs.List.{flat_map}
use Rattle.std.specs.Prelude.{encode_utf8_all}
use Rattle.rc_report.specs.Report.{joined}
use Rattle.rc_report.proofs.header.push_files.Goals as goal

-- all elements behind the first
all_behind : {X : Type 0} (xs : List X) → take (length xs - 1) (drop 1 xs) ≡ drop 1 xs
all_behind xs = ap (λ (n : ℕ). take n (drop 1 xs)) (sym (length-drop 1 xs)) ∙ take-length (drop 1 xs)

pub returns-in_ok-push_text-in-len1-up : goal.returns-in_ok-push_text-in-len1-up
returns-in_ok-push_text-in-len1-up c =
    let line = string_bytes c.args.line.now in
    let all = c.as_slice.result.now in
    let rest = take (length all - 1) (drop 1 all) in
    let others = flat_map (λ (next : List ℕ). 32 ∷ encode_utf8_all next) rest in
    let files : c.args.files.now ≡ c.first-item.result ∷ rest =
    sym c.as_slice.ensures ∙ drop-cons all 0 c.first-item.result (omega (arith, c.in-len1-up.len_at_least))
    ∙ ap (λ (name : List ℕ). name ∷ drop 1 all) (sym c.first-item.is)
    ∙ ap (λ (names : List (List ℕ)). c.first-item.result ∷ names) (sym (all_behind all))
    in
    on_ok_weaker c.push_others.result
    (λ e. e ∙ ap (λ (bs : List ℕ). bs ++ others) c.in_ok-push_text-in-len1-up.ensures ∙ append_assoc line (encode_utf8_all (chars c.text.result.now)) others
    ∙ ap (λ (name : List ℕ). line ++ (encode_utf8_all name ++ others)) c.text.ensures.same ∙ ap (λ (names : List (List ℕ)). line ++ joined 32 names) (sym files))
    c.push_others.ensures
