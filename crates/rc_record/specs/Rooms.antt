-- The limit on the next item, as the code holds it.
use Rattle.rc_record.specs.declared.room.Room.{Room}
use Rattle.rc_record.specs.Grammar.{Limit, limit_behind}

abbrev pub limit_of : Room → Limit
limit_of room = limit_behind room.with_bytes room.stride room.units
