use Rattle.std.proofs.Common.{length, sym, ◌∙◌}
use Rattle.rc_core.proofs.PutSteps.{piece_allowed, some_bytes}
use Rattle.rc_core.proofs.puts.put.Goals as goal

pub returns-in-Ok-put_piece : goal.returns-in-Ok-put_piece
returns-in-Ok-put_piece c =
    piece_allowed c.args.state.now c.args.unit c.args.ticket c.args.bytes.now (record { row = c.in-Some.row; holding = c.in-Some.holding; file_of = c.in-Some.file.now }) c.put_piece.new.state c.in-Some.ensures
    (some_bytes (length c.args.bytes.now) (sym c.is_empty.ensures ∙ c.if-is_empty.false)) (sym c.if-is_next_piece.ensures.value) c.in-Ok-put_piece.ensures
