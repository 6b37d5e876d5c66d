use Rattle.std.proofs.Common.{◌≡◌, List, ℕ, ◌-◌, ◌∷◌, ◌++◌, length, take, drop, drop-cons, length-drop, string_bytes, ◌∙◌, sym, ap, arith, append_assoc}
use Rattle.std.proofs.Math.Seq.{take-length}
use Rattle.std.proofs.lemmas.Result.{on_ok_weaker}
use Rattle.std.proofs.lemmas.Str.{encodes-chars}
use Rattle.std.specs.List.{flat_map}
use Rattle.std.specs.Prelude.{encode_utf8_all}
use Rattle.rc_report.specs.Report.{path_text}
use Rattle.rc_report.proofs.parts.push_path.Goals as goal

-- all elements behind the first
all_behind : {X : Type 0} (xs : List X) → take (length xs - 1) (drop 1 xs) ≡ drop 1 xs
all_behind xs = ap (λ (n : ℕ). take n (drop 1 xs)) (sym (length-drop 1 xs)) ∙ take-length (drop 1 xs)

pub returns-in_ok-push_str-in-len1-up : goal.returns-in_ok-push_str-in-len1-up
returns-in_ok-push_str-in-len1-up c =
    let line = string_bytes c.args.line.now in
    let rest = take (length c.names.result.now - 1) (drop 1 c.names.result.now) in
    let below = flat_map (λ (next : List ℕ). 92 ∷ encode_utf8_all next) rest in
    let text : encode_utf8_all c.first-item.result ≡ c.text.result.now = ap encode_utf8_all (sym c.text.ensures.spelling) ∙ encodes-chars c.text.result.now c.text.utf8 in
    let path : c.args.path.now ≡ c.first-item.result ∷ rest =
    sym c.names.ensures.same ∙ drop-cons c.names.result.now 0 c.first-item.result (omega (arith, c.in-len1-up.len_at_least))
    ∙ ap (λ (name : List ℕ). name ∷ drop 1 c.names.result.now) (sym c.first-item.is)
    ∙ ap (λ (names : List (List ℕ)). c.first-item.result ∷ names) (sym (all_behind c.names.result.now))
    in
    on_ok_weaker c.push_below.result
    (λ e. e ∙ ap (λ (bs : List ℕ). bs ++ below) c.in_ok-push_str-in-len1-up.ensures.bytes ∙ append_assoc line c.text.result.now below
    ∙ ap (λ (bs : List ℕ). line ++ (bs ++ below)) (sym text) ∙ ap (λ (names : List (List ℕ)). line ++ path_text names) (sym path))
    c.push_below.ensures
