use Rattle.std.proofs.Common.{◌∷◌, [], codes, decimal, map}
use Rattle.json.specs.Token.{begin_array, begin_object, end_object, key}
use Rattle.json.specs.Token.{number as number_token}
use Rattle.json.specs.Token.{string as string_token}
use Rattle.json.specs.Tree.{items_tokens}
use Rattle.mw_model.specs.Spelling.{items_outline}
use Rattle.mw_model.specs.Trees.{id_json, items_of}
use Rattle.mw_packets_out.proofs.Tokens.{then_more}
use Rattle.mw_packets_out.proofs.written.write_update.Goals as goal

pub returns-clause-ok : goal.returns-clause-ok
returns-clause-ok c =
    let front = begin_object ∷ key (codes "checked_locations") ∷ begin_array ∷ items_tokens (items_outline (items_of (map id_json c.args.locations.now))) in
    let rest = key (codes "cmd") ∷ string_token (codes "RoomUpdate") ∷ key (codes "hint_points") ∷ number_token (decimal c.args.points) ∷ end_object ∷ [] in
    then_more c.args.out.now.tokens front rest c.begin_id_list.new.out.tokens c.end_update.new.out.tokens c.in_ok-begin_id_list.ensures.ok c.in_ok-end_update.ensures.ok
