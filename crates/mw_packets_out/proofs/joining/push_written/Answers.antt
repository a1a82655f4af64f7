use Rattle.std.proofs.Common.{Bor, List, [], ℕ, get_or, refl}
use Rattle.std.specs.Prelude.{string_bytes}
use Rattle.mw_packets_out.proofs.Joined.{joined_next}
use Rattle.mw_packets_out.proofs.joining.push_written.Goals as goal

pub loop-i-preserved : goal.loop-i-preserved
loop-i-preserved c =
    let l = c.loop-i in
    let none : Bor (List ℕ) = record { ref_ptr = (0, 0); now = [] } in
    let text = get_or c.args.written.now l.i none in
    joined_next (λ t. t.now) c.args.after _ l.i c.args.written.now text none text.now (string_bytes c.args.out.now) (string_bytes l.out) (string_bytes c.push_text.new.out)
    c.loop-i-test.true refl refl refl l.invariant c.in_ok-push_text.ensures
