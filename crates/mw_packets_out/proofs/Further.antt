-- Values of clients can be written.
use Rattle.std.proofs.Common.{ℕ, List}
use Rattle.mw_model.specs.Json.{Members, no_members, member, MembersAreWritable}
use Rattle.mw_model.specs.Passed.{AreFurther}

pub further_writable : (names : List (List ℕ)) (ms : Members) → AreFurther names ms → MembersAreWritable ms
further_writable names no_members f = tt
further_writable names (member k j ms) f = (f.1.writable, further_writable names ms f.3)
