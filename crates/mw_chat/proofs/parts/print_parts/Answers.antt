use Rattle.std.proofs.Common.{map, take}
use Rattle.mw_chat.specs.View.{piece_view}
use Rattle.mw_chat.proofs.Kept.{parts_sound}
use Rattle.mw_chat.proofs.parts.print_parts.Goals as goal

pub returns-clause-sound : goal.returns-clause-sound
returns-clause-sound c =
    let so_far = c.loop-piece.invariant in
    parts_sound (map piece_view (take c.loop-piece.piece-index c.args.pieces.now)) _ so_far.value so_far.writable
