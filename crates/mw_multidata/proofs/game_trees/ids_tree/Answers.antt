use Rattle.std.proofs.Common.{ap, ◌∙◌, map, arith}
use Rattle.std.proofs.lemmas.List.{take_all}
use Rattle.mw_model.specs.Json.{members}
use Rattle.mw_json.specs.View.{members_of}
use Rattle.mw_multidata.proofs.Entries.{id_member, same_ids}
use Rattle.mw_multidata.proofs.game_trees.ids_tree.Goals as goal

pub returns-clause-value : goal.returns-clause-value
returns-clause-value c =
    let l = c.loop-named in
    let ns = c.args.names.now in
    c.object_tree.ensures ∙ ap members (ap members_of (l.invariant.0 ∙ ap (map id_member) (take_all l.named-index ns (omega arith))) ∙ same_ids ns)
