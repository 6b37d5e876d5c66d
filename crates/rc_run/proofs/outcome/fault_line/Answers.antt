use Rattle.std.proofs.Common.{◌≡◌, ◌++◌, List, ℕ, codes, string_bytes, sym, ap, ◌∙◌, append_assoc}
use Rattle.std.proofs.lemmas.Result.{IfOk-weaker}
use Rattle.rc_run.specs.Outcome.{side_name}
use Rattle.rc_run.proofs.outcome.fault_line.Goals as goal

pub returns : goal.returns
returns c =
    let what = c.args.what.now in
    IfOk-weaker c.format.result
    (λ line. string_bytes line ≡ codes "ERROR: " ++ (what ++ (codes " fault: " ++ c.side_name-side.result.now)))
    (λ line. string_bytes line ≡ codes "ERROR: " ++ what ++ codes " fault: " ++ side_name c.args.side)
    (λ line is. is ∙ ap (λ (name : List ℕ). codes "ERROR: " ++ (what ++ (codes " fault: " ++ name))) c.side_name-side.ensures
    ∙ ap (λ (bs : List ℕ). codes "ERROR: " ++ bs) (sym (append_assoc what (codes " fault: ") (side_name c.args.side))))
    c.format.ensures.ok
