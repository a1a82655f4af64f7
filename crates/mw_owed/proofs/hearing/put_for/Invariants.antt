use Rattle.std.proofs.Common.{◌≡◌, drop, map}
use Rattle.std.specs.Prelude.{string_bytes}
use Rattle.mw_protocol.specs.Heard.{heard}
use Rattle.mw_protocol.specs.Messages.{packet_text}
use Rattle.mw_effects.specs.Views.{announced_view}
use Rattle.mw_owed.specs.Written.{all_behind}
use Rattle.mw_owed.proofs.hearing.put_for.Given as goal

abbrev pub invariant-loop-at : goal.invariant-loop-at
invariant-loop-at l = record {
  same : l.tellings.items ≡ l.initial.tellings.items;
  put : all_behind (string_bytes l.out) (map packet_text (heard l.seed (map announced_view (drop l.at l.initial.tellings.items)) l.sends l.member))
      ≡ all_behind (string_bytes l.initial.out) (map packet_text (heard l.seed (map announced_view l.initial.tellings.items) l.sends l.member));
}
