use Rattle.std.proofs.Common.{ℕ, List, subst}
use Rattle.std.proofs.lemmas.Result.{IfOk-weaker}
use Rattle.mw_edges.specs.Folders.{opened_bytes}
use Rattle.mw_play.specs.Runs.{LeavesSave, PlaysFrom, StopsFrom, digest_for}
use Rattle.mw_play.specs.declared.end.PlayEnd.{PlayEnd}
use Rattle.mw_play.specs.declared.turns.Played.{Played}
use Rattle.mw_play.proofs.Carried.{if_err_to, leaves_same, plays_same, stops_same}
use Rattle.mw_play.proofs.run.play_saved.Goals as goal

pub returns-clause-done : goal.returns-clause-done
returns-clause-done g c =
    let player = c.args.player.now in
    let disk = c.play_on_disk-disk.result.0 in
    let told = g.F.Drive.Disk.told c.in-Ok.disk in
    let told2 = opened_bytes (g.F.Folder.holds c.args.folder.now player.words.save) in
    let images = g.F.Drive.Disk.may_leave disk in
    let images2 = g.F.Folder.images c.close_disk.new.self player.words.save in
    let before = g.L.Dial.hung_up c.args.dial.now in
    let after = g.L.Dial.hung_up c.play_on_disk-disk.new.dial in
    IfOk-weaker c.play_on_disk-disk.result.1 (λ (p : Played). PlaysFrom told images c.in_ok-digest.digest player before after p.over p.play) (λ (p : Played). PlaysFrom told2 images2 (digest_for player.words) player before after p.over p.play)
    (λ p plays. subst (λ (d : List ℕ). PlaysFrom told2 images2 d player before after p.over p.play) c.in_ok-digest.ensures
    (plays_same told told2 images images2 c.in-Ok.ensures.told (λ x. (c.close_disk.ensures.left x).0) c.in_ok-digest.digest player before after p.over p.play plays)) c.play_on_disk-disk.ensures.done

pub returns-clause-stopped : goal.returns-clause-stopped
returns-clause-stopped g c =
    let player = c.args.player.now in
    let disk = c.play_on_disk-disk.result.0 in
    let told = g.F.Drive.Disk.told c.in-Ok.disk in
    let told2 = opened_bytes (g.F.Folder.holds c.args.folder.now player.words.save) in
    let images = g.F.Drive.Disk.may_leave disk in
    let images2 = g.F.Folder.images c.close_disk.new.self player.words.save in
    let before = g.L.Dial.hung_up c.args.dial.now in
    let after = g.L.Dial.hung_up c.play_on_disk-disk.new.dial in
    if_err_to c.play_on_disk-disk.result.1 (λ (e : PlayEnd). StopsFrom told images c.in_ok-digest.digest before after e) (λ (e : PlayEnd). StopsFrom told2 images2 (digest_for player.words) before after e)
    (λ e stops. subst (λ (d : List ℕ). StopsFrom told2 images2 d before after e) c.in_ok-digest.ensures
    (stops_same told told2 images images2 c.in-Ok.ensures.told (λ x. (c.close_disk.ensures.left x).0) c.in_ok-digest.digest before after e stops)) c.play_on_disk-disk.ensures.stopped

pub returns-clause-left : goal.returns-clause-left
returns-clause-left g c =
    let player = c.args.player.now in
    let disk = c.play_on_disk-disk.result.0 in
    let told = g.F.Drive.Disk.told c.in-Ok.disk in
    let told2 = opened_bytes (g.F.Folder.holds c.args.folder.now player.words.save) in
    let images = g.F.Drive.Disk.may_leave disk in
    let images2 = g.F.Folder.images c.close_disk.new.self player.words.save in
    let before = g.L.Dial.hung_up c.args.dial.now in
    let after = g.L.Dial.hung_up c.play_on_disk-disk.new.dial in
    subst (λ (d : List ℕ). LeavesSave told2 images2 d before after) c.in_ok-digest.ensures
    (leaves_same told told2 images images2 c.in-Ok.ensures.told (λ x. (c.close_disk.ensures.left x).0) c.in_ok-digest.digest before after c.play_on_disk-disk.ensures.left)
