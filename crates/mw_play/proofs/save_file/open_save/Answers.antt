use Rattle.mw_play.proofs.save_file.open_save.Goals as goal

pub returns-in-Err : goal.returns-in-Err
returns-in-Err g c = record {
  keeps = tt;
  told = tt;
  refused = c.unmade.ensures (g.D.Disk.told c.args.disk) c.args.digest.now (g.D.Disk.faults c.args.disk) (g.D.Disk.faults c.in-Err.disk) c.in-Err.ensures.refused;
  count = c.in-Err.ensures.count;
}
