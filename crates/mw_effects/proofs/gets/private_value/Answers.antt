use Rattle.std.proofs.Common.{◌≡◌, None, false, bytes_eq, codes, cond, drop, take, sym, ap, ◌∙◌}
use Rattle.mw_model.specs.Json.{null}
use Rattle.mw_protocol.specs.Reading.{hints_of, status_of, player_at}
use Rattle.mw_effects.specs.Parts.{standing_of}
use Rattle.mw_effects.proofs.Values.{prefix_is}
use Rattle.mw_effects.proofs.gets.private_value.Goals as goal

pub returns-clause-value : goal.returns-clause-value
returns-clause-value c =
    let key = c.args.key.now in
    let seed = c.args.standing.now.log.seed in
    let now = standing_of c.args.standing.now in
    let hints = hints_of seed now (player_at seed (drop 12 key)) in
    let status = status_of now (player_at seed (drop 20 key)) in
    let first : bytes_eq (take 12 key) (codes "_read_hints_") ≡ false = prefix_is (codes "_read_hints_") key None c.in_default.ensures.cases in
    let second : bytes_eq (take 20 key) (codes "_read_client_status_") ≡ false = prefix_is (codes "_read_client_status_") key None c.in_default-strip_prefix.ensures.cases in
    c.no_value.ensures.value ∙ sym (ap (λ b. cond b hints (cond (bytes_eq (take 20 key) (codes "_read_client_status_")) status null)) first ∙ ap (λ b. cond b status null) second)
