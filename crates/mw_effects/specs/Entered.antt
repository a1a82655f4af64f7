-- What a record more asks for.
use Rattle.std.specs.Prelude.{◌++◌, List}
use Rattle.mw_protocol.specs.Asked.{asked_by}
use Rattle.mw_protocol.specs.Checks.{Check, unseen}
use Rattle.mw_protocol.specs.Records.{Record}
use Rattle.mw_checks.specs.Log.{Log}

-- a log's checks, with the new ones that a record asks for
abbrev pub asked_in : Log → Record → List Check
asked_in log r = log.checked ++ unseen log.checked (asked_by log.seed r)
