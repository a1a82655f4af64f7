-- What an end says of a run.
use Rattle.std.proofs.Common.{◌≡◌, List, ℕ, Option, subst}
use Rattle.std.specs.Prelude.{◌≢◌, None}
use Rattle.mw_link.specs.Dials.{Exchange}
use Rattle.mw_link.specs.declared.link.Heard.{Heard}
use Rattle.mw_client.specs.Playing.{Play}
use Rattle.mw_play.specs.Runs.{EndsWith, Finishes, HasBadWords, HasPlayed, IsStopped, NobodyPlays, PlayRun, StopsFrom}
use Rattle.mw_play.specs.Turns.{EndsSo}
use Rattle.mw_play.specs.declared.end.PlayEnd.{PlayEnd}
use Rattle.mw_play.specs.declared.end.PlayEnd.TheVariants.{Ended, TurnedAway, EndedEarly, Spent, BadWords, Fault, Memory, Refused, Full}
use Rattle.mw_play.specs.declared.over.Over.{Over}
use Rattle.mw_play.specs.declared.over.Over.TheVariants as over

-- of one that was played to an end
pub ends_played : (run : PlayRun) (how : Over) (p : Play) (shown : Type 0) (end : PlayEnd) → Finishes how p shown end → (shown → HasPlayed run how p) → EndsWith run end
ends_played run how p shown Ended ends played = (p, subst (λ (o : Over). HasPlayed run o p) ends.0 (played ends.1))
ends_played run how p shown EndedEarly ends played = (p, subst (λ (o : Over). HasPlayed run o p) ends.0 (played ends.1))
ends_played run how p shown (TurnedAway line) ends played = (p, ends.2.0, subst (λ (o : Over). HasPlayed run o p) ends.0 (played ends.1), ends.2.1, ends.2.2)
ends_played run how p shown Spent ends played = (p, subst (λ (o : Over). HasPlayed run o p) ends.0 (played ends.1))
ends_played run how p shown Fault ends played = tt
ends_played run how p shown Memory ends played = tt
ends_played run how p shown BadWords ends played = absurd ends
ends_played run how p shown (Refused refusal) ends played = absurd ends
ends_played run how p shown Full ends played = absurd ends

-- of one that was stopped
pub ends_stopped : (run : PlayRun) (told : Option (List ℕ)) (images : List ℕ → Type 0) (digest : List ℕ) (before after : List Exchange) (end : PlayEnd) → StopsFrom told images digest before after end → IsStopped run end → EndsWith run end
ends_stopped run told images digest before after (Refused refusal) stops stopped = stopped
ends_stopped run told images digest before after Full stops stopped = stopped
ends_stopped run told images digest before after Fault stops stopped = tt
ends_stopped run told images digest before after Memory stops stopped = tt
ends_stopped run told images digest before after Ended stops stopped = absurd stops
ends_stopped run told images digest before after (TurnedAway line) stops stopped = absurd stops
ends_stopped run told images digest before after EndedEarly stops stopped = absurd stops
ends_stopped run told images digest before after Spent stops stopped = absurd stops
ends_stopped run told images digest before after BadWords stops stopped = absurd stops

-- of one that nobody played
pub nobody_ends : (run : PlayRun) (bad : Type 0) (end : PlayEnd) → NobodyPlays end bad → (bad → HasBadWords run) → EndsWith run end
nobody_ends run bad BadWords nobody is = is nobody
nobody_ends run bad Fault nobody is = tt
nobody_ends run bad Memory nobody is = tt
nobody_ends run bad Ended nobody is = absurd nobody
nobody_ends run bad EndedEarly nobody is = absurd nobody
nobody_ends run bad (TurnedAway line) nobody is = absurd nobody
nobody_ends run bad Spent nobody is = absurd nobody
nobody_ends run bad (Refused refusal) nobody is = absurd nobody
nobody_ends run bad Full nobody is = absurd nobody

-- a client that was turned away was refused
pub away_refused : (how : Over) (turns : ℕ) (hs : List Heard) (p : Play) → EndsSo how turns hs p → how ≡ over.TurnedAway → p.refusal ≢ None
away_refused over.TurnedAway turns hs p ends is = ends.2
away_refused over.Ended turns hs p ends is = absurd cc
away_refused over.EndedEarly turns hs p ends is = absurd cc
away_refused over.Spent turns hs p ends is = absurd cc
