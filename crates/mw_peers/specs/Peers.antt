-- What a link that waits shows.
use Rattle.std.specs.Prelude.{ℕ, Bool, false, List, []}
use Rattle.mw_link.specs.declared.link.Heard.{Heard}

-- what it heard and sent, how often it has failed, and whether it was shut
pub record Peer : Type 0 where
  pub heard : List Heard
  pub sent : List (List ℕ)
  pub faults : ℕ
  pub shut : Bool

-- one that has heard and sent nothing
abbrev pub new_peer : Peer
new_peer = record { heard = []; sent = []; faults = 0; shut = false }
