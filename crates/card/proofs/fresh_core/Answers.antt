use mathlib.Core.Path.{ap₂}
use lib.ListN.{replicate}
use Rattle.ports.specs.declared.Port.{Port}
use Rattle.pool.specs.declared.Pool.{Pool}
use Rattle.card.specs.declared.Core.{Core}
use Rattle.card.proofs.fresh_core.Goals as goal

pub returns : goal.returns
returns c =
    let made : Port → Pool → Core = (λ x y. let a = c.args in
    record {
      ports = replicate 64 x;
      pool = y;
      head = record {
        port_count = a.port_count;
        channel_count = a.channel_count;
        entry_count = a.entry_count;
        counter = record { number = a.first };
        white_cac = a.white_cac;
        add_cac = a.add_cac;
      };
    }) in ap₂ made c.fresh.ensures c.fresh-2.ensures
