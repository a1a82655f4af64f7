use Rattle.mw_edges.proofs.KeptDisks.{opened_images}
use Rattle.mw_edges.proofs.disks.open_kept.Goals as goal

pub returns-clause-crash : goal.returns-clause-crash
returns-clause-crash c n =
    opened_images c.args.files.now.items c.make_file.new.files.items c.args.disks.now.items c.keep_open.new.disks.items
    c.args.name.now n c.in_ok-make_file.ensures.ok c.in_ok-keep_open.ensures.ok
