use Rattle.std.proofs.Common.{◌∙◌, inl, inr, sym, ap, arith, true, false, Some}
use Rattle.mw_protocol.specs.Lives.{refused_in}
use Rattle.mw_keep.specs.Views.{stopped_view}
use Rattle.mw_keep.proofs.Acting.{goes_past}
use Rattle.mw_keep.proofs.kept.KeptRoom.refusal.Goals as goal

pub returns-in-Lost : goal.returns-in-Lost
returns-in-Lost g c digest life keeps = rw c.in-Lost.is (c.refused_to.ensures digest life keeps
    ∙ sym (goes_past life.stopped c.args.self.now.calls life.calls (refused_in life.room true (Some c.in-Lost.session))
    (sym keeps.stopped ∙ ap stopped_view c.in_default.is) (omega (arith, c.if-self-ge-MOST_CALLS.false)) keeps.calls))

pub returns-in-Packet : goal.returns-in-Packet
returns-in-Packet g c digest life keeps =
    let due = c.refused_to-in-Packet.ensures digest life keeps
    ∙ sym (goes_past life.stopped c.args.self.now.calls life.calls (refused_in life.room false (Some c.in-Packet.session))
    (sym keeps.stopped ∙ ap stopped_view c.in_default.is) (omega (arith, c.if-self-ge-MOST_CALLS.false)) keeps.calls) in
    elim c.in-Packet.is [
      | inl packet ↦ rw packet.1 due
      | inr others ↦ elim others [
        | inl bad ↦ rw bad.1 due
        | inr take ↦ rw take due
      ]
    ]
