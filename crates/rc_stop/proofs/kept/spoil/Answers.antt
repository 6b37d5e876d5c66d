use Rattle.std.proofs.Common.{◌+◌, arith, drop, get_or, List, length, map, ap, sym, ◌∙◌}
use Rattle.std.proofs.lemmas.List.{at_drop_more}
use Rattle.rc_mem.specs.declared.logged.NotesCall.{NotesCall}
use Rattle.rc_mem.specs.declared.logged.NotesCall.TheVariants.{Write}
use Rattle.rc_stop.specs.Kept.{spoiled}
use Rattle.rc_mem.specs.Logged.{notes_call_of}
use Rattle.rc_stop.proofs.Picks.{length-filled}
use Rattle.rc_stop.proofs.kept.spoil.Goals as goal

pub loop-call-preserved : goal.loop-call-preserved
loop-call-preserved c =
    let calls = c.args.calls.now in
    let i = c.loop-call.call-index in
    let one = get_or calls i (Write 0 0) in
    record {
      all = ap (spoiled c.args.byte c.args.limit (map notes_call_of (drop (i + 1) calls))) c.fill.ensures
          ∙ sym (at_drop_more (λ (cs : List NotesCall). spoiled c.args.byte c.args.limit (map notes_call_of cs) c.loop-call.bytes.items) calls i (Write 0 0) c.loop-call-test.true) ∙ c.loop-call.invariant.all;
      within = omega (arith, ap length c.fill.ensures, length-filled c.args.byte c.args.limit (notes_call_of one) c.loop-call.bytes.items c.loop-call.invariant.within, c.loop-call.invariant.within);
    }
