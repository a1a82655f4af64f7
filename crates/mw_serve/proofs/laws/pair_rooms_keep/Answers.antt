use Rattle.mw_serve.proofs.PairLives.{pair_kept}
use Rattle.mw_serve.proofs.laws.pair_rooms_keep.Goals as goal

pub returns : goal.returns
returns g c multidata choice bytes seed made runs accepted shut are =
    let F = g.F.Folder in let L = g.L.Link in
    pair_kept F.holds F.images F.is_open F.may_fail F.faults L.heard L.sent L.faults L.opened L.is_shut g.F.Drive.Disk.may_leave multidata choice
    (record { shown = c.shown_is_checked.ensures; tails = c.tails_of_the_last_view.ensures; shown_across = c.shown_is_checked_across.ensures; tails_across = c.tails_across.ensures })
    bytes seed accepted c.no_item_twice.ensures c.journals_are_named.ensures g.met.F.Folder.told_may_stay made runs shut are
