use Rattle.std.proofs.Common.{sym, ap, ◌∙◌}
use Rattle.std.specs.Option.{option_map}
use Rattle.mw_json.specs.View.{view}
use Rattle.mw_protocol.specs.Storing.{is_kept}
use Rattle.mw_storage.proofs.Equal.{test_is}
use Rattle.mw_effects.proofs.storing.is_kept.Goals as goal

pub returns-in-Some : goal.returns-in-Some
returns-in-Some c =
    test_is c.same.result (view c.in-Some.kept.now) (view c.args.value.now) c.same.ensures
    ∙ ap (is_kept (view c.args.value.now)) (sym (ap (option_map (λ t. view t.now)) c.in-Some.is) ∙ c.get.ensures.value)
