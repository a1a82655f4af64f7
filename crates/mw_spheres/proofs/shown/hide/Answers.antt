use Rattle.std.proofs.Common.{length, ap, arith}
use Rattle.mw_spheres.proofs.Only.{only-length}
use Rattle.mw_spheres.proofs.Revealing.{table_hidden}
use Rattle.mw_spheres.proofs.shown.hide.Goals as goal

pub take_out-requires : goal.take_out-requires
take_out-requires c = record { places = λ k d h. omega (arith, c.requires.places k d h, ap length c.requires.table, only-length c.args.shown.now c.args.full.now) }

pub returns-clause-table : goal.returns-clause-table
returns-clause-table c =
    let a = c.args in
    table_hidden a.shown.now c.show_none.new.shown a.places.now a.full.now a.table.now c.take_out.new.table c.show_none.ensures c.requires.table c.take_out.ensures.size c.take_out.ensures.entries
