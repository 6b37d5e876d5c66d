use Rattle.std.proofs.Common.{◌≡◌, [], ◌∷◌, refl, sym, ◌∙◌}
use Rattle.rc_sitetext.specs.SiteText.{letters}
use Rattle.rc_sitetext.specs.Reading.{flags_at}
use Rattle.rc_sitetext.proofs.FieldValues.{flags_more, flags_end, attr_read}
use Rattle.rc_sitetext.proofs.values.attr_of.Goals as goal

pub returns-then-not-is_empty : goal.returns-then-not-is_empty
returns-then-not-is_empty c =
    let taken : flags_at letters c.args.text.now ≡ (c.take.result ∷ c.take-2.result ∷ c.take-3.result ∷ c.take-4.result ∷ c.take-5.result ∷ c.take-6.result ∷ c.take-7.result ∷ c.take-8.result ∷ c.take-9.result ∷ c.take-10.result ∷ [], c.take-10.new.self.rest.now) =
    flags_more _ _ _ _ _ _ _ c.take.ensures.found c.take.ensures.rest
    (flags_more _ _ _ _ _ _ _ c.take-2.ensures.found c.take-2.ensures.rest
    (flags_more _ _ _ _ _ _ _ c.take-3.ensures.found c.take-3.ensures.rest
    (flags_more _ _ _ _ _ _ _ c.take-4.ensures.found c.take-4.ensures.rest
    (flags_more _ _ _ _ _ _ _ c.take-5.ensures.found c.take-5.ensures.rest
    (flags_more _ _ _ _ _ _ _ c.take-6.ensures.found c.take-6.ensures.rest
    (flags_more _ _ _ _ _ _ _ c.take-7.ensures.found c.take-7.ensures.rest
    (flags_more _ _ _ _ _ _ _ c.take-8.ensures.found c.take-8.ensures.rest
    (flags_more _ _ _ _ _ _ _ c.take-9.ensures.found c.take-9.ensures.rest
    (flags_more _ _ _ _ _ _ _ c.take-10.ensures.found c.take-10.ensures.rest (flags_end _)))))))))) in
    attr_read c.args.text.now _ _ (sym c.eq.ensures ∙ c.if-eq.false) (sym c.is_empty.ensures ∙ c.if-is_empty.false) taken
    ∙ rw (sym c.is_empty-2.ensures ∙ c.if-not-is_empty.true) refl

pub returns : goal.returns
returns c =
    let taken : flags_at letters c.args.text.now ≡ (c.take.result ∷ c.take-2.result ∷ c.take-3.result ∷ c.take-4.result ∷ c.take-5.result ∷ c.take-6.result ∷ c.take-7.result ∷ c.take-8.result ∷ c.take-9.result ∷ c.take-10.result ∷ [], c.take-10.new.self.rest.now) =
    flags_more _ _ _ _ _ _ _ c.take.ensures.found c.take.ensures.rest
    (flags_more _ _ _ _ _ _ _ c.take-2.ensures.found c.take-2.ensures.rest
    (flags_more _ _ _ _ _ _ _ c.take-3.ensures.found c.take-3.ensures.rest
    (flags_more _ _ _ _ _ _ _ c.take-4.ensures.found c.take-4.ensures.rest
    (flags_more _ _ _ _ _ _ _ c.take-5.ensures.found c.take-5.ensures.rest
    (flags_more _ _ _ _ _ _ _ c.take-6.ensures.found c.take-6.ensures.rest
    (flags_more _ _ _ _ _ _ _ c.take-7.ensures.found c.take-7.ensures.rest
    (flags_more _ _ _ _ _ _ _ c.take-8.ensures.found c.take-8.ensures.rest
    (flags_more _ _ _ _ _ _ _ c.take-9.ensures.found c.take-9.ensures.rest
    (flags_more _ _ _ _ _ _ _ c.take-10.ensures.found c.take-10.ensures.rest (flags_end _)))))))))) in
    attr_read c.args.text.now _ _ (sym c.eq.ensures ∙ c.if-eq.false) (sym c.is_empty.ensures ∙ c.if-is_empty.false) taken
    ∙ rw (sym c.is_empty-2.ensures ∙ c.if-not-is_empty.false) refl
