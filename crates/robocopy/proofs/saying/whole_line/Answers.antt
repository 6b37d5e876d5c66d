use Rattle.std.proofs.Common.{◌≡◌, ◌<◌, ◌++◌, ◌∷◌, [], length, string_bytes, ap, sym, ◌∙◌, arith, lit<}
use Rattle.std.proofs.lemmas.Bool.{eqb-true, eqb-false}
use Rattle.robocopy.proofs.Lines.{line_ended, line_kept}
use Rattle.robocopy.proofs.saying.whole_line.Goals.{then-not-is_empty+in_ok-push, else-not-is_empty}
use Rattle.robocopy.proofs.saying.whole_line.Goals as goal

pub returns : goal.returns
returns c =
    elim c.if-not-is_empty.branch [
      | then-not-is_empty+in_ok-push w ↦
          let is = c.in_ok-line.ensures.ok in
          let some : 0 < length c.text-2.result.now = omega (arith, ap length is, eqb-false _ _ (sym c.is_empty.ensures ∙ w.if-not-is_empty.true)) in
          ap string_bytes w.line-is ∙ line_ended c.text-2.result.now _ _ (c.text-2.ensures ∙ c.in_ok-text.ensures) c.text-2.utf8 some (rw (w.in_ok-push.ensures.ascii (lit< tt)) at w.in_ok-push.ensures.bytes ∙ ap (λ t. t ++ 10 ∷ []) is)
      | else-not-is_empty w ↦
          let is = c.in_ok-line.ensures.ok in
          let none : length c.text-2.result.now ≡ 0 = omega (arith, ap length is, eqb-true _ _ (sym c.is_empty.ensures ∙ w.if-not-is_empty.false)) in
          ap string_bytes w.line-is ∙ is ∙ line_kept c.text-2.result.now _ (c.text-2.ensures ∙ c.in_ok-text.ensures) none
    ]
