use Rattle.std.proofs.Common.{rules, ◌≡◌, ◌++◌, ◌∷◌, [], map, ap, ◌∙◌}
use Rattle.std.proofs.lemmas.List.{map-append}
use Rattle.mw_protocol.specs.Records as recorded
use Rattle.mw_records.specs.Records.{record_view}
use Rattle.mw_effects.specs.Given.{asking}
use Rattle.mw_effects.proofs.Gifts.{gift_more}
use Rattle.mw_effects.proofs.giving.give.Goals as goal

pub returns-clause-given : goal.returns-clause-given
returns-clause-given c =
    let m = c.args.member.now in
    let before = c.args.given.records in
    let records : map record_view c.push.new.self ≡ map record_view before ++ asking c.args.giving m.team m.slot ∷ [] =
    ap (map record_view) c.in_ok-push.ensures.ok
    ∙ map-append record_view before (c.record_of.result ∷ [])
    ∙ ap (λ (r : recorded.Record). map record_view before ++ r ∷ []) c.record_of.ensures in
    let new : c.from_vec.result ≡ c.args.given.new ++ c.in_ok-more.more = search rules in
    gift_more c.args.standing.now m.team m.slot c.args.giving c.args.given (record { records = c.push.new.self; new = c.from_vec.result }) c.in_ok-more.more c.requires
    (search rules) (search rules) records new
