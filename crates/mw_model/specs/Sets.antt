-- A change of the data storage, as a client asks for it.
use Rattle.std.specs.Prelude.{ℕ, List, Bool}
use Rattle.mw_model.specs.Json.{Json, Members}

-- what is done to the value under the key, and with what
pub record Operation : Type 0 where
  pub name : List ℕ
  pub value : Json

-- the operations run in order, from the value that is kept, or from this one where none is; further members come back with the answer
pub record SetPacket : Type 0 where
  pub key : List ℕ
  pub fallback : Json
  pub want_reply : Bool
  pub operations : List Operation
  pub further : Members
