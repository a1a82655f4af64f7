use Rattle.std.proofs.Common.{◌≡◌, ◌∷◌, [], Bool, Option, Some, None, true, false, cond, map, refl, ap, ◌∙◌}
use Rattle.std.specs.Option.{option_to_list, option_map}
use Rattle.mw_protocol.specs.Connecting.{Member}
use Rattle.mw_protocol.specs.Hints.{marks}
use Rattle.mw_protocol.specs.Records.{Record, hint_status}
use Rattle.mw_protocol.specs.Standing.{is_checked}
use Rattle.mw_records.specs.Records.{hint_view}
use Rattle.mw_base.specs.declared.hint.HintRecord.{HintRecord}
use Rattle.mw_effects.specs.Parts.{standing_of}
use Rattle.mw_room.proofs.hinting.status_record.Goals as goal

listed : (o : Option HintRecord) (due : Option Record) → option_map hint_view o ≡ due → map hint_view (option_to_list o) ≡ option_to_list due
listed None due e = ap option_to_list e
listed (Some h) due e = ap option_to_list e

listed_if : (b : Bool) (r : Record) → option_to_list (cond b (Some r) None) ≡ cond b (r ∷ []) []
listed_if true r = refl
listed_if false r = refl

pub returns : goal.returns
returns c =
    let s = c.args.standing.now in
    listed c.set_status.result _ c.set_status.ensures
    ∙ listed_if (marks s.log.seed (is_checked (standing_of s)) s.hints.hints c.member.inside.team c.member.inside.slot c.args.finder c.args.location c.args.status)
    (hint_status c.member.inside.team c.args.finder c.args.location c.args.status)
    ∙ ap (λ (m : Member). cond (marks s.log.seed (is_checked (standing_of s)) s.hints.hints m.team m.slot c.args.finder c.args.location c.args.status) (hint_status m.team c.args.finder c.args.location c.args.status ∷ []) []) c.member.view_is
