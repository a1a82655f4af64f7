use Rattle.std.proofs.Common.{◌≡◌, map, take}
use Rattle.mw_model.specs.Json.{MembersAreWritable}
use Rattle.mw_json.specs.View.{member_view, members_view}
use Rattle.mw_multidata.proofs.Entries.{id_member}
use Rattle.mw_multidata.proofs.game_trees.ids_tree.Given as goal

abbrev pub invariant-loop-named : goal.invariant-loop-named
invariant-loop-named l = (map member_view l.ids ≡ map id_member (take l.named-index l.names)) × MembersAreWritable (members_view l.ids)
