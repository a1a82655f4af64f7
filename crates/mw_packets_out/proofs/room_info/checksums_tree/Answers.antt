use Rattle.std.proofs.Common.{ap, ◌∙◌, map, arith}
use Rattle.std.proofs.lemmas.List.{take_all}
use Rattle.mw_model.specs.Json.{members}
use Rattle.mw_json.specs.View.{members_of}
use Rattle.mw_packets_out.proofs.Writable.{sum_member, same_checksums, checksums}
use Rattle.mw_packets_out.proofs.room_info.checksums_tree.Goals as goal

pub returns-clause-value : goal.returns-clause-value
returns-clause-value c =
    let l = c.loop-game in
    let gs = c.args.games.now in
    c.object_tree.ensures ∙ ap members (ap members_of (l.invariant ∙ ap (map sum_member) (take_all l.game-index gs (omega arith))) ∙ same_checksums gs)

pub returns-clause-writable : goal.returns-clause-writable
returns-clause-writable c =
    let l = c.loop-game in
    let gs = c.args.games.now in
    rw (c.object_tree.ensures, l.invariant, take_all l.game-index gs (omega arith), same_checksums gs) (checksums gs)
