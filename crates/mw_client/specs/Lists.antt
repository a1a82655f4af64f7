-- What a ReceivedItems makes of a client's list, and the step that it asks for.
use Rattle.std.specs.Prelude.{◌≡◌, ◌≢◌, ◌==◌, ℕ, List, IsTrue, IsFalse}
use Rattle.mw_laws.specs.Applied.{Client, given, having}
use Rattle.mw_model.specs.Items.{NetItem}
use Rattle.mw_client.specs.Bodies.{Body, IsBody, body_bytes}
use Rattle.mw_client.specs.declared.step.Step.{Step}
use Rattle.mw_client.specs.declared.step.Step.TheVariants.{Same, Save, AskSync}

-- the client with this list, once it heard these items from this index on
abbrev pub client_after : List NetItem → ℕ → List NetItem → Client
client_after list index items = given (having list) index items

-- the body that leads to the new list
abbrev pub body_for : ℕ → List NetItem → Body
body_for index items = record { replaces = index == 0; items = items }

-- the list stays, and no Sync is due; or it is to be saved, as this body says; or the index isn't
-- the one that the client waits for
abbrev pub IsStep : List NetItem → ℕ → List NetItem → Step → Type 0
IsStep list index items Same =
    IsFalse (client_after list index items).asks × ((client_after list index items).list ≡ list)
IsStep list index items (Save body) =
    IsFalse (client_after list index items).asks × ((client_after list index items).list ≢ list)
    × (body ≡ body_bytes (body_for index items)) × IsBody (body_for index items)
IsStep list index items AskSync = IsTrue (client_after list index items).asks
