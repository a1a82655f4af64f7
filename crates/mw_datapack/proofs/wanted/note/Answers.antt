use Rattle.std.proofs.Common.{◌∙◌, ℕ, List, Bor}
use Rattle.std.specs.Prelude.{bytes_eq}
use Rattle.std.specs.HashSet as hashed
use Rattle.mw_datapack.proofs.OneMore.{true_or}
use Rattle.mw_datapack.proofs.wanted.note.Goals as goal

pub returns : goal.returns
returns c = λ q.
    let key : Bor (List ℕ) = record { ref_ptr = (0, 0); now = q } in
    c.in_ok-insert.ensures.updates.0 key ∙ true_or (bytes_eq c.args.name.now q) (hashed.contains_by (λ k. bytes_eq q k.now) c.args.names.now)
