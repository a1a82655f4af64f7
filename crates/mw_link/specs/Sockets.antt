-- What links and gates over sockets show.
use Rattle.std.specs.Prelude.{ℕ, ◌+◌, Bool, false, List, []}
use Rattle.mw_link.specs.declared.link.Heard.{Heard}
use Rattle.mw_link.specs.declared.link.LinkError.{LinkError}
use Rattle.mw_link.specs.declared.link.LinkError.TheVariants.{Failed, Memory}

-- what a link heard and sent, how often it has failed, when it was accepted, and whether it was shut
pub record SocketLine : Type 0 where
  pub heard : List Heard
  pub sent : List (List ℕ)
  pub faults : ℕ
  pub opened : ℕ
  pub shut : Bool

-- a link that has heard and sent nothing
abbrev pub new_socket : ℕ → SocketLine
new_socket opened =
    record { heard = []; sent = []; faults = 0; opened = opened; shut = false }

-- the link once this error was counted
abbrev pub counted : LinkError → SocketLine → SocketLine
counted Failed l = record l { faults = l.faults + 1 }
counted Memory l = l

-- how many links a gate has given, the addresses at which it was made ready, and how often it has
-- failed
pub record SocketGateway : Type 0 where
  pub given : ℕ
  pub listened : List (List ℕ)
  pub faults : ℕ

-- the addresses at which somebody answered a dial, the lines that it hung up, and how often it has
-- failed
pub record SocketDialler : Type 0 where
  pub dialled : List (List ℕ)
  pub lines : List SocketLine
  pub faults : ℕ
