use Rattle.std.proofs.Common.{◌≡◌, ◌+◌, [], ◌∷◌, ◌++◌, take, ap, sym, ◌∙◌}
use Rattle.std.proofs.lemmas.List.{take_more}
use Rattle.mw_disk.specs.declared.calls.MadeCall.{MadeCall}
use Rattle.mw_disk.specs.Calls.{bytes_of, bytes_after}
use Rattle.mw_disk.proofs.Recorded.{bytes_of_next, replayed}
use Rattle.mw_disk.proofs.tear.replay.Goals as goal

pub loop-made-preserved : goal.loop-made-preserved
loop-made-preserved c =
    let calls = take c.loop-made.made-index c.args.calls.now in
    let later = take (c.loop-made.made-index + 1) c.args.calls.now in
    let made = c.made-item.result in
    let next : later ≡ calls ++ made ∷ [] =
    take_more c.args.calls.now c.loop-made.made-index made c.loop-made-test.true
    ∙ ap (λ (m : MadeCall). calls ++ m ∷ []) (sym c.made-item.is) in
    record {
      bytes = c.in_ok-replay_call.ensures.bytes ∙ ap (bytes_after made) c.loop-made.invariant.bytes
          ∙ sym (ap (bytes_of c.args.start.now) next ∙ bytes_of_next c.args.start.now calls made);
      image = replayed c.args.start.now calls later made c.loop-made.bytes.items c.loop-made.image.items
          c.replay_call.new.image.items next c.loop-made.invariant.bytes c.loop-made.invariant.image
          c.in_ok-replay_call.ensures.image;
    }
