use Rattle.std.proofs.Common.{List, ℕ, ap, sym, ◌∙◌, ◌-◌, length, take, drop, arith}
use Rattle.rc_jobtext.specs.Lexing.{Between, ahead}
use Rattle.rc_jobtext.specs.Starts.{prefixed, whole, within}
use Rattle.rc_jobtext.proofs.Parts.{first_of}
use Rattle.rc_jobtext.proofs.Steps.{char_step, end_step}
use Rattle.rc_jobtext.proofs.word.read_chars.Goals as goal

pub returns-in-End-clause-reads : goal.returns-in-End-clause-reads
returns-in-End-clause-reads c =
    let xs = c.chars.chars.items in
    let rest = c.chars.rest.now in
    let place = c.args.place in
    let next = first_of rest c.c-item.result _ c.in-len1-up.len_at_least c.c-item.is in
    sym c.chars.invariant.reads
    ∙ ap (λ (cs : List ℕ). prefixed xs (ahead place (within c.chars.inside) cs)) next
    ∙ end_step c.chars.inside place c.c-item.result _ xs (sym c.step_at.ensures ∙ c.in-End.is)
    ∙ ap (λ (cs : List ℕ). whole xs (ahead place Between cs)) (sym next)

pub chars-preserved : goal.chars-preserved
chars-preserved c =
    let xs = c.chars.chars.items in
    let rest = c.chars.rest.now in
    let place = c.args.place in
    let next = first_of rest c.c-item.result _ c.in-len1-up.len_at_least c.c-item.is in
    record {
      reads =
          ap (λ (ys : List ℕ). prefixed ys (ahead place (within c.chars.inside) (take (length rest - 1) (drop 1 rest)))) c.in_ok-push-in-Char.ensures.items
          ∙ sym (char_step c.chars.inside place c.c-item.result _ xs (sym c.step_at.ensures ∙ c.in-Char.is))
          ∙ ap (λ (cs : List ℕ). prefixed xs (ahead place (within c.chars.inside) cs)) (sym next)
          ∙ c.chars.invariant.reads;
      shorter = omega (arith, c.chars.invariant.shorter, ap length next);
    }
