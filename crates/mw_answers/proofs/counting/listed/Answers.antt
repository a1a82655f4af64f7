use Rattle.std.proofs.Common.{Bor, List, [], ℕ, get_or, refl}
use Rattle.std.specs.Prelude.{string_bytes}
use Rattle.mw_answers.proofs.Listed.{listed_next}
use Rattle.mw_answers.proofs.counting.listed.Goals as goal

pub loop-i-preserved : goal.loop-i-preserved
loop-i-preserved c =
    let l = c.loop-i in
    let none : Bor (List ℕ) = record { ref_ptr = (0, 0); now = [] } in
    listed_next (λ n. n.now) _ l.i c.args.names.now (get_or c.args.names.now l.i none) none (string_bytes l.text) (string_bytes c.push_name.new.text)
    c.loop-i-test.true refl refl l.invariant c.in_ok-push_name.ensures
