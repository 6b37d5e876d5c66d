-- What was passed of the text has no separator.
use Rattle.std.proofs.Common.{◌≡◌, ◌-◌, ◌∷◌, length, chars, subst, ap, sym, ◌∙◌}
use Rattle.std.specs.Prelude.{if◌then◌else◌, slice_range}
use Rattle.rc_wild.specs.PathPattern.{is_part, parts_of}
use Rattle.rc_wild.proofs.Cuts.{cut_starts, cut_goes_on, cut_at_end, cut_at_separator}
use Rattle.rc_wild.proofs.parts.cut.Goals as goal

pub chars-init : goal.chars-init
chars-init c = cut_starts c.args.text.now c.chars-rest.result.rest.now c.chars-rest.ensures.rest c.utf8.text

pub returns-in-None-clause-parts : goal.returns-in-None-clause-parts
returns-in-None-clause-parts c = cut_at_end c.args.text.now c.chars.rest.rest.now c.in-None.ensures.steps.0.0 c.chars.invariant

pub returns-in-Some-clause-parts : goal.returns-in-Some-clause-parts
returns-in-Some-clause-parts c =
    let left : c.as_str.result.now ≡ c.chars.rest.rest.now = c.as_str.ensures in
    let part = c.range.ensures.value ∙ ap (λ l. slice_range c.args.text.now 0 (length c.args.text.now - length l)) left in
    subst (λ r. parts_of (chars c.args.text.now) ≡ (if is_part (chars c.range.result.now) then chars c.range.result.now ∷ parts_of (chars r) else parts_of (chars r))) (sym c.as_str-in-Some.ensures)
    (cut_at_separator c.args.text.now c.chars.rest.rest.now c.next.new.self.rest.now c.range.result.now c.in-Some.c c.in-Some.ensures.steps.0 (sym c.is_separator.ensures ∙ c.if-is_separator.true) part c.chars.invariant)

pub chars-preserved : goal.chars-preserved
chars-preserved c = cut_goes_on c.args.text.now c.chars.rest.rest.now c.next.new.self.rest.now c.in-Some.c c.in-Some.ensures.steps.0 (sym c.is_separator.ensures ∙ c.if-is_separator.false) c.chars.invariant
