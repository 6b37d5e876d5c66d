use Rattle.rc_core.specs.Rows.{all_had}
use Rattle.rc_core.specs.Stops.{MayBeNode}
use Rattle.rc_core.proofs.Numbers.{all_five}
use Rattle.rc_core.proofs.aspects.may_be_node.Goals as goal

pub returns : goal.returns
returns c =
    all_five c.has_stood_named-named.result c.has_stood_dated-dated.result c.has_stood_secured-secured.result c.has_stood_long-long.result c.may_be_bytes-bytes.result
    _ _ _ _ _ (MayBeNode (all_had c.args.row.now) c.args.row.now.touched.puts c.args.image.now)
    c.has_stood_named-named.ensures c.has_stood_dated-dated.ensures c.has_stood_secured-secured.ensures c.has_stood_long-long.ensures c.may_be_bytes-bytes.ensures
    (λ named dated secured long bytes. record {
      spelling = named.0;
      kind = named.1;
      attr = dated.0;
      created = dated.1;
      written = dated.2;
      access = secured.0;
      owner = secured.1;
      audit = secured.2;
      no_shorter = long.0;
      no_longer = long.1;
      bytes = bytes;
    })
    (λ may. ((may.spelling, may.kind), (may.attr, may.created, may.written), (may.access, may.owner, may.audit), (may.no_shorter, may.no_longer), may.bytes))
