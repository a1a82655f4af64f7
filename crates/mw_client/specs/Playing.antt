-- A client that plays: what it knows, and what it answers to what it hears.
use Rattle.std.specs.Prelude.{ℕ, List, [], ◌∷◌, ◌++◌, Bool, true, false, Option, Some, None, if◌then◌else◌}
use Rattle.mw_model.specs.Items.{NetItem}
use Rattle.mw_client.specs.Lists.{client_after}
use Rattle.mw_client.specs.News.{News, greeted, joined, turned_away, received, nothing}
use Rattle.mw_client.specs.declared.answer.Answer.{Answer}
use Rattle.mw_client.specs.declared.answer.Answer.TheVariants.{Connect, Checks, Sync}
use Rattle.mw_client.specs.declared.step.Step.{Step}
use Rattle.mw_client.specs.declared.step.Step.TheVariants.{Same, Save, AskSync}

-- its list, whether it was greeted and has joined, why it was first turned away, and whether memory
-- ran out as it heard something
pub record Play : Type 0 where
  pub list : List NetItem
  pub greeted : Bool
  pub joined : Bool
  pub refusal : Option (List (List ℕ))
  pub failed : Bool

-- before it has heard anything
abbrev pub begun : List NetItem → Play
begun list = record {
  list = list;
  greeted = false;
  joined = false;
  refusal = None;
  failed = false;
}

-- the first of these
abbrev pub first_of : {A : Type 0} → Option A → A → A
first_of None x = x
first_of (Some y) x = y

abbrev pub next : Play → News → Play
next p greeted = record p { greeted = true }
next p joined = record p { joined = true }
next p (turned_away errors) = record p { refusal = Some (first_of p.refusal errors) }
next p (received index items) = record p { list = (client_after p.list index items).list }
next p nothing = p

abbrev pub next_all : Play → List News → Play
next_all p [] = p
next_all p (n ∷ ns) = next_all (next p n) ns

-- a Connect to the first RoomInfo, its checks to the first Connected, and a Sync to each
-- ReceivedItems whose index isn't the one that it waits for
abbrev pub answers : Play → News → List Answer
answers p greeted = if p.greeted then [] else Connect ∷ []
answers p joined = if p.joined then [] else Checks ∷ []
answers p (turned_away errors) = []
answers p (received index items) =
    if (client_after p.list index items).asks then Sync ∷ [] else []
answers p nothing = []

abbrev pub answers_all : Play → List News → List Answer
answers_all p [] = []
answers_all p (n ∷ ns) = answers p n ++ answers_all (next p n) ns

-- ---- what a step asks for

abbrev pub saved_bytes : Step → List ℕ
saved_bytes Same = []
saved_bytes (Save body) = body
saved_bytes AskSync = []

abbrev pub sync_of : Step → List Answer
sync_of Same = []
sync_of (Save body) = []
sync_of AskSync = Sync ∷ []
