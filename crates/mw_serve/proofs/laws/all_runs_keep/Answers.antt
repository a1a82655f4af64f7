use Rattle.mw_serve.proofs.WholeLives.{all_kept_on}
use Rattle.mw_serve.proofs.laws.all_runs_keep.Goals as goal

pub returns : goal.returns
returns g c digest seed name made runs shut are = all_kept_on g.F.Folder.holds g.F.Folder.images g.L.Link.sent digest seed name c.no_item_twice.ensures made runs shut are
