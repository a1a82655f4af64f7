use Rattle.mw_offline.proofs.WholeLives.{are_kept}
use Rattle.mw_offline.proofs.laws.journals_keep.Goals as goal

pub returns : goal.returns
returns g c digest seed name made runs shut are = are_kept g.F.Folder.holds g.F.Folder.images digest seed name c.no_item_twice.ensures made runs shut are
