use Rattle.std.proofs.Common.{◌≡◌, map, take}
use Rattle.mw_model.specs.Json.{MembersAreWritable}
use Rattle.mw_json.specs.View.{member_view, members_view}
use Rattle.mw_multidata.specs.Written.{game_member}
use Rattle.mw_multidata.proofs.writing.games_tree.Given as goal

abbrev pub invariant-loop-game : goal.invariant-loop-game
invariant-loop-game l = (map member_view l.trees ≡ map game_member (take l.game-index l.games)) × MembersAreWritable (members_view l.trees)
