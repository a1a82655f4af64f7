-- What a dial tells of its lines.
use Rattle.std.specs.Prelude.{ℕ, List, Option, map}
use Rattle.mw_edges.specs.FaultPlan.{FaultPlan}
use Rattle.mw_link.specs.declared.link.Heard.{Heard}

-- what was heard and sent over a line
pub record Exchange : Type 0 where
  pub heard : List Heard
  pub sent : List (List ℕ)

module _ {L : Type 0} (heard_by : L → List Heard) (sent_by : L → List (List ℕ)) where
  abbrev pub exchange_of : L → Exchange
  exchange_of l = record { heard = heard_by l; sent = sent_by l }

  abbrev pub exchanges_of : List L → List Exchange
  exchanges_of ls = map exchange_of ls

-- a link whose faults are counted beside it
pub record CountedLine (L : Type 0) : Type 0 where
  pub line : L
  pub faults : ℕ

-- the links that a dial in memory is to give, the addresses at which it gave one, the lines that it
-- hung up, the last of them as it was shut, how many of them had failed, and which of its calls fail
pub record Dialler (L : Type 0) : Type 0 where
  pub coming : List L
  pub dialled : List (List ℕ)
  pub lines : List L
  pub last : Option L
  pub broken : ℕ
  pub plan : FaultPlan
