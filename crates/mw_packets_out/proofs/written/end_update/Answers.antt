use Rattle.std.proofs.Common.{◌≡◌, ◌++◌, ◌∷◌, [], codes, decimal}
use Rattle.json.specs.Token.{end_object, key}
use Rattle.json.specs.Token.{number as number_token}
use Rattle.json.specs.Token.{string as string_token}
use Rattle.mw_packets_out.proofs.Tokens.{then_more}
use Rattle.mw_packets_out.proofs.written.end_update.Goals as goal

pub returns-clause-ok : goal.returns-clause-ok
returns-clause-ok c =
    let front = key (codes "cmd") ∷ string_token (codes "RoomUpdate") ∷ [] in
    let rest = key (codes "hint_points") ∷ number_token (decimal c.args.points) ∷ end_object ∷ [] in
    let first : c.put_words.new.out.tokens ≡ c.args.out.now.tokens ++ front = c.in_ok-put_words.ensures.ok in
    let second : c.end_number.new.out.tokens ≡ c.put_words.new.out.tokens ++ rest = c.in_ok-end_number.ensures.ok in
    then_more c.args.out.now.tokens front rest c.put_words.new.out.tokens c.end_number.new.out.tokens first second
