use Rattle.std.proofs.Common.{◌∙◌, ap}
use Rattle.std.specs.Prelude.{Ok}
use Rattle.rc_words.proofs.Readings.{begin_reading, next_word, pass_nothing, pass_setting, refuses}
use Rattle.rc_words.proofs.read.read_words.Goals as goal

pub words-init : goal.words-init
words-init c =
    begin_reading c.args.in_file c.args.words.now c.new-reader.result c.new-settings.result.items
    c.new-reader.ensures c.new-settings.ensures.items

pub returns-in-Err : goal.returns-in-Err
returns-in-Err c =
    let next = next_word c.words.rest.now c.word-item.result c.in-len1-up.len_at_least c.word-item.is in
    refuses c.args.in_file c.args.words.now c.words.reader c.words.settings.items c.words.place c.words.rest.now c.word-item.result _
    c.take.result c.in-Err.fault c.usage_at.result c.words.invariant next c.in-Err.is c.take.ensures.means c.usage_at.ensures

pub words-preserved-in_ok-push-in-Ok-Some : goal.words-preserved-in_ok-push-in-Ok-Some
words-preserved-in_ok-push-in-Ok-Some c =
    let next = next_word c.words.rest.now c.word-item.result c.in-len1-up.len_at_least c.word-item.is in
    pass_setting c.args.in_file c.args.words.now c.words.reader c.take.new.self c.words.settings.items c.push.new.self.items c.words.place c.words.rest.now c.word-item.result _
    c.in-Ok-Some.setting c.take.result c.words.invariant next (c.in-Ok-Some.is ∙ ap (λ x. Ok x) c.in-Ok-Some.field-0-is) c.take.ensures.means c.take.ensures.goes_on
    c.in_ok-push-in-Ok-Some.ensures.items

pub words-preserved : goal.words-preserved
words-preserved c =
    let next = next_word c.words.rest.now c.word-item.result c.in-len1-up.len_at_least c.word-item.is in
    pass_nothing c.args.in_file c.args.words.now c.words.reader c.take.new.self c.words.settings.items c.words.place c.words.rest.now c.word-item.result _
    c.take.result c.words.invariant next (c.in-Ok-None.is ∙ ap (λ x. Ok x) c.in-Ok-None.field-0-is) c.take.ensures.means c.take.ensures.goes_on
