use Rattle.std.proofs.Common.{◌+◌, ℕ, length, min, sym, ap, ◌∙◌}
use Rattle.mw_room.specs.Counted.{bytes_kept}
use Rattle.mw_room.proofs.Messages.{bytes_more}
use Rattle.mw_room.proofs.session.Session.keep.Goals as goal

pub invariant_of-self : goal.invariant_of-self
invariant_of-self c =
    let s = c.args.self.now in
    record {
      counted =
          c.more_bytes-self.ensures
          ∙ ap (λ (n : ℕ). min (n + length c.args.text) 16777216) s.counted
          ∙ bytes_more s.untaken.items c.args.text
          ∙ sym (ap bytes_kept c.push.ensures);
    }
