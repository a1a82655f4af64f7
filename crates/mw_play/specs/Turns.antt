-- What a client plays over a line, and keeps in its save file, turn by turn.
use Rattle.std.specs.Prelude.{◌≡◌, ◌≢◌, ◌<◌, ◌≤◌, ◌+◌, ◌^◌, ◌⊎◌, ℕ, List, [], ◌∷◌, ◌++◌, None, IsTrue, IsFalse, length}
use Rattle.std.specs.List.{flat_map, AllByRecursion}
use Rattle.mw_journal.specs.Image.{IsShut}
use Rattle.mw_link.specs.Dials.{Exchange}
use Rattle.mw_link.specs.declared.link.Heard.{Heard}
use Rattle.mw_link.specs.declared.link.Heard.TheVariants.{Words, Binary, NotYet, End}
use Rattle.mw_model.specs.Items.{NetItem}
use Rattle.mw_client.specs.Bodies.{IsSaved, Leads}
use Rattle.mw_client.specs.Hearing.{news_in, played}
use Rattle.mw_client.specs.News.{News}
use Rattle.mw_client.specs.Playing.{Play, answers_all, begun, next_all}
use Rattle.mw_client.specs.declared.answer.Answer.{Answer}
use Rattle.mw_client.specs.Sending.{answer_texts}
use Rattle.mw_play.specs.Saves.{HoldsList}
use Rattle.mw_play.specs.declared.player.Player.{Player}
use Rattle.mw_play.specs.declared.over.Over.{Over}
use Rattle.mw_play.specs.declared.over.Over.TheVariants.{Ended, EndedEarly, TurnedAway, Spent}
use Rattle.mw_play.specs.declared.over.Came.{Came}
use Rattle.mw_play.specs.declared.over.Came.TheVariants as came

-- the texts among what was heard
abbrev pub texts_in : List Heard → List (List ℕ)
texts_in [] = []
texts_in (Words text ∷ hs) = text ∷ texts_in hs
texts_in (Binary ∷ hs) = texts_in hs
texts_in (NotYet ∷ hs) = texts_in hs
texts_in (End ∷ hs) = texts_in hs

-- what the packets of texts tell
abbrev pub news_over : List (List ℕ) → List News
news_over texts = flat_map news_in texts

-- the messages of answers, each of its own
abbrev pub messages_of : Player → List Answer → List (List ℕ)
messages_of player answers = flat_map (answer_texts player.words.who player.locations) answers

-- what a client knows that began with a list and heard this
abbrev pub known : List NetItem → List Heard → Play
known list hs = next_all (begun list) (news_over (texts_in hs))

-- what it then sent: a Connect to the first RoomInfo, its checks, if it has any, to the first
-- Connected, and a Sync to each ReceivedItems whose index isn't the one that it waits for
abbrev pub said : Player → List NetItem → List Heard → List (List ℕ)
said player list hs = messages_of player (answers_all (begun list) (news_over (texts_in hs)))

-- an image stands for the list as it was once some front of these texts was heard
pub record HoldsFront (digest : List ℕ) (list : List NetItem) (texts : List (List ℕ))
    (image : List ℕ) : Type 0 where
  pub front : List (List ℕ)
  pub rest : List (List ℕ)
  pub fronts : texts ≡ front ++ rest
  pub holds : HoldsList image digest (played list front)

-- an image stands for the list as it was once all these texts were heard, or all but the last
pub record HoldsLast (digest : List ℕ) (list : List NetItem) (texts : List (List ℕ))
    (image : List ℕ) : Type 0 where
  pub front : List (List ℕ)
  pub rest : List (List ℕ)
  pub fronts : texts ≡ front ++ rest
  pub last : length rest ≤ 1
  pub holds : HoldsList image digest (played list front)

-- more was heard, or nothing
abbrev pub HearsMore : List Heard → List Heard → Type 0
HearsMore before after = (rest : List Heard) × (after ≡ before ++ rest)

-- what a turn heard is the end, or isn't and then the client was turned away, or wasn't
abbrev pub IsCame : Came → List Heard → List Heard → Play → Type 0
IsCame came.More before after p =
    (h : Heard) × (after ≡ before ++ h ∷ []) × (h ≢ End) × (p.refusal ≡ None)
IsCame came.TurnedAway before after p =
    (h : Heard) × (after ≡ before ++ h ∷ []) × (h ≢ End) × (p.refusal ≢ None)
IsCame came.AtEnd before after p = (after ≡ before ++ End ∷ []) × (p.refusal ≡ None)

-- the same of a turn that heard no end
abbrev pub HasCome : Came → Play → Type 0
HasCome came.More p = p.refusal ≡ None
HasCome came.TurnedAway p = p.refusal ≢ None
HasCome came.AtEnd p = ⊥

-- how turns ended at whose last the end was heard
abbrev pub HasEnded : Over → Play → Type 0
HasEnded Ended p = IsTrue p.joined
HasEnded EndedEarly p = IsFalse p.joined
HasEnded TurnedAway p = ⊥
HasEnded Spent p = ⊥

abbrev pub NotEnd : Heard → Type 0
NotEnd h = h ≢ End

-- the end was heard, and last, within so many turns, by a client that wasn't turned away
pub record HeardEnd (turns : ℕ) (hs : List Heard) (p : Play) : Type 0 where
  pub front : List Heard
  pub last : hs ≡ front ++ End ∷ []
  pub unended : AllByRecursion NotEnd front
  pub within : length hs ≤ turns
  pub unrefused : p.refusal ≡ None

-- how turns ended, so many of which there might be, by what was heard and what the client then
-- knew: at the end, having joined or not; once it was turned away; or after all turns
abbrev pub EndsSo : Over → ℕ → List Heard → Play → Type 0
EndsSo Ended turns hs p = HeardEnd turns hs p × IsTrue p.joined
EndsSo EndedEarly turns hs p = HeardEnd turns hs p × IsFalse p.joined
EndsSo TurnedAway turns hs p =
    AllByRecursion NotEnd hs × (length hs ≤ turns) × (p.refusal ≢ None)
EndsSo Spent turns hs p =
    AllByRecursion NotEnd hs × (length hs ≡ turns) × (p.refusal ≡ None)

-- a save file stands for a list, whatever a crash leaves, and bodies that lead to another would
-- pass the limit of its journal
pub record Overfills (images : List ℕ → Type 0) (digest : List ℕ) (before after : List NetItem)
    : Type 0 where
  pub gate : ℕ
  pub stands : (c : List ℕ) → images c
      → (text : List ℕ) × IsShut c digest text gate 0 × IsSaved text before
  pub bodies : List ℕ
  pub leads : Leads before bodies after
  pub full : 2 ^ 30 < gate + 6 + length bodies

-- the next batch, which leads to the list after the last text, would pass the limit
pub record IsFull (images : List ℕ → Type 0) (digest : List ℕ) (list : List NetItem)
    (hs : List Heard) : Type 0 where
  pub front : List Heard
  pub text : List ℕ
  pub last : hs ≡ front ++ Words text ∷ []
  pub full : Overfills images digest (known list front).list (known list hs).list

module _ {L : Type 0} (heard_by : L → List Heard) (sent_by : L → List (List ℕ)) where
  -- a client that began with a list knows and sent what asks what a line heard
  pub record Follows (player : Player) (list : List NetItem) (line : L) (p : Play) : Type 0 where
    pub knows : p ≡ known list (heard_by line)
    pub sent : sent_by line ≡ said player list (heard_by line)

-- a client that began with a list played over one line more, which was hung up
pub record PlaysOver (player : Player) (list : List NetItem) (before
    after : List Exchange) (over : Over) (p : Play) : Type 0 where
  pub line : Exchange
  pub hung_up : after ≡ before ++ line ∷ []
  pub knows : p ≡ known list line.heard
  pub list_is : p.list ≡ played list (texts_in line.heard)
  pub sent : line.sent ≡ said player list line.heard
  pub ends : EndsSo over player.words.turns line.heard p

-- an image stands for the list as it was before a line was dialled, or once some front of the texts
-- of the line was heard that was hung up since
abbrev pub HoldsHeard : List ℕ → List NetItem → List Exchange → List Exchange → List ℕ → Type 0
HoldsHeard digest list before after image =
    HoldsList image digest list
    ⊎ ((line : Exchange) × (after ≡ before ++ line ∷ [])
    × HoldsFront digest list (texts_in line.heard) image)

-- no line was hung up; or one was, and what a crash may leave stands for the list once all texts
-- were heard that came over it, or all but the last
abbrev pub LeavesLast : (List ℕ → Type 0) → List ℕ → List NetItem → List Exchange → List Exchange
    → Type 0
LeavesLast images digest list before after =
    (after ≡ before)
    ⊎ ((line : Exchange) × (after ≡ before ++ line ∷ [])
    × ((c : List ℕ) → images c → HoldsLast digest list (texts_in line.heard) c))

-- the next batch, after what was heard over the line that was hung up since, would pass the limit
abbrev pub HeardFull : (List ℕ → Type 0) → List ℕ → List NetItem → List Exchange → List Exchange
    → Type 0
HeardFull images digest list before after =
    (line : Exchange) × (after ≡ before ++ line ∷ []) × IsFull images digest list line.heard
